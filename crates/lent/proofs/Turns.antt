-- What the code knows of a turn, said of the calls' answers alone: the reader's calls are those over its state and bytes, so each way that a turn goes is a
-- law of Counting. Assumes nothing.
use Rattle.std.proofs.Common.{◌≡◌, ℕ, suc, ◌+◌, ◌-◌, ◌<◌, ◌≤◌, List, length, sym, ap, subst, ◌∙◌, arith}
use Rattle.std.specs.Borrow.{Bor}
use Rattle.types.specs.Refusals.{END}
use Rattle.types.specs.declared.TType.{TType}
use Rattle.types.specs.declared.TMessageType.{TMessageType}
use Rattle.types.specs.declared.SeqNo.{SeqNo}
use Rattle.types.specs.declared.Place.{Place}
use Rattle.types.specs.declared.FieldId.{FieldId}
use Rattle.input.specs.State.{State}
use Rattle.input.specs.Calls.{read_message, read_field}
use Rattle.input.specs.declared.MessageAnswer.TheVariants as Ms
use Rattle.input.specs.declared.FieldAnswer.TheVariants as F
use Rattle.input.specs.declared.DoneAnswer.TheVariants as D
use Rattle.skip.specs.Skip.{skip_call}
use Rattle.lent.specs.Lent.{lent, hand_message, hand_field, hand_done, lent_message, lent_field, lent_skip}
use Rattle.lent.specs.Count.{count_from, count_fields}
use Rattle.lent.specs.declared.Counted.{Counted}
use Rattle.lent.specs.declared.Counted.TheVariants.{Done, Refused}
use Rattle.lent.specs.declared.LentReader.{LentReader}
use Rattle.lent.specs.declared.LentMessage.{LentMessage}
use Rattle.lent.specs.declared.LentField.{LentField}
use Rattle.lent.specs.declared.LentDone.{LentDone}
use Rattle.lent.proofs.Counting.{runs_out, ends_there, ends_short, ends_past, goes_past, no_message, some_message}

-- the message's header, read by a new reader
module _ (st : State) (b : Bor (List ℕ)) (r : LentReader) (m : LentMessage) (er : r ≡ lent st b) (em : m ≡ lent_message r) where
  read : m ≡ hand_message (lent st b) (read_message b.now st)
  unfolding lent_message
  read = em ∙ ap lent_message er

  pub refused : (why : ℕ) → m.answer ≡ Ms.Refused why → Refused why ≡ count_fields b.now st
  refused why e = sym (no_message b.now st why (sym (ap (λ (x : LentMessage). x.answer) read) ∙ e))

  pub kept : m.reader.bytes.now ≡ b.now
  kept = ap (λ (x : LentMessage). x.reader.bytes.now) read

  pub begun : (kind : TMessageType) (sequence : SeqNo) (from_place to_place : Place) → m.answer ≡ Ms.Got kind sequence from_place to_place
      → count_from (length b.now - 0) b.now m.reader.state 0 ≡ count_fields b.now st
  begun kind sequence from_place to_place e =
      let whole : length b.now - 0 ≡ length b.now = omega arith in
      ap (λ (k : ℕ). count_from k b.now m.reader.state 0) whole
      ∙ ap (λ (x : LentMessage). count_from (length b.now) b.now x.reader.state 0) read
      ∙ sym (some_message b.now st kind sequence from_place to_place (sym (ap (λ (x : LentMessage). x.answer) read) ∙ e))

-- a turn: n fields are counted, and the reader stands where the count goes on
module _ (s : List ℕ) (r : LentReader) (n : ℕ) (target : Counted) (same : r.bytes.now ≡ s) (rest : count_from (length s - n) s r.state n ≡ target) where
  here : count_from (length r.bytes.now - n) r.bytes.now r.state n ≡ target
  here = subst (λ (x : List ℕ). count_from (length x - n) x r.state n ≡ target) (sym same) rest

  pub over : n ≤ length s → length s ≤ n → Refused END ≡ target
  over few none =
      let over : length s - n ≡ 0 = omega arith in
      runs_out s r.state n ∙ subst (λ (k : ℕ). count_from k s r.state n ≡ target) over rest

  module _ (few : n < length s) (h : LentField) (eh : h ≡ lent_field r) where
    abbrev left : ℕ
    left = length r.bytes.now - (n + 1)

    one_more : count_from (suc left) r.bytes.now r.state n ≡ target
    one_more =
        let q : length r.bytes.now ≡ length s = ap (length {A = ℕ}) same in
        let more : length r.bytes.now - n ≡ suc left = omega arith in
        subst (λ (k : ℕ). count_from k r.bytes.now r.state n ≡ target) more here

    headed : h ≡ hand_field r (read_field r.bytes.now r.state)
    unfolding lent_field
    headed = eh

    answered : h.answer ≡ (read_field r.bytes.now r.state).answer
    answered = ap (λ (x : LentField). x.answer) headed

    pub stops : h.answer ≡ F.Stop → Done n h.reader.state.place ≡ target
    stops e = ap (λ (x : LentField). Done n x.reader.state.place) headed ∙ sym (ends_there r.bytes.now r.state left n (sym answered ∙ e)) ∙ one_more

    pub refuses : (why : ℕ) → h.answer ≡ F.Refused why → Refused why ≡ target
    refuses why e = sym (ends_short r.bytes.now r.state left n why (sym answered ∙ e)) ∙ one_more

    module _ (kind : TType) (id : FieldId) (e : h.answer ≡ F.Field kind id) (p : LentDone) (ep : p ≡ lent_skip h.reader kind) where
      past : p ≡ hand_done (lent (read_field r.bytes.now r.state).state r.bytes) (skip_call r.bytes.now (read_field r.bytes.now r.state).state kind)
      unfolding lent_skip
      past = ep ∙ ap (λ (x : LentField). lent_skip x.reader kind) headed

      skipped : p.answer ≡ (skip_call r.bytes.now (read_field r.bytes.now r.state).state kind).answer
      skipped = ap (λ (x : LentDone). x.answer) past

      pub value_refused : (why : ℕ) → p.answer ≡ D.Refused why → Refused why ≡ target
      value_refused why ea = sym (ends_past r.bytes.now r.state left n kind id why (sym answered ∙ e) (sym skipped ∙ ea)) ∙ one_more

      pub same_bytes : p.reader.bytes.now ≡ s
      same_bytes = ap (λ (x : LentDone). x.reader.bytes.now) past ∙ same

      pub goes_on : p.answer ≡ D.Done → count_from (length s - (n + 1)) s p.reader.state (n + 1) ≡ target
      goes_on ea =
          let next : n + 1 ≡ suc n = omega arith in
          subst (λ (x : List ℕ). count_from (length x - (n + 1)) x p.reader.state (n + 1) ≡ target) same
          (ap (λ (k : ℕ). count_from left r.bytes.now p.reader.state k) next
          ∙ ap (λ (x : LentDone). count_from left r.bytes.now x.reader.state (suc n)) past
          ∙ sym (goes_past r.bytes.now r.state left n kind id (sym answered ∙ e) (sym skipped ∙ ea))
          ∙ one_more)
