-- The whole text: what the code knows at each return. Assumes nothing.
use mathlib.Core.Path.{◌≡◌, sym, ap, ap₂, ◌∙◌}
use mathlib.Core.List.{List, [], ◌∷◌, ◌++◌, append-nil}
use Prim.Native.Nat.{ℕ, ◌-◌, ◌≤◌, ◌<◌}
use native.Mathlib.Omega.{arith}
use borrow.Author.Tests.{lt-ltb, le-ltb}
use lib.ListN.{length, take, drop}
use Rattle.types.specs.Refusals.{NO_ROOM}
use Rattle.types.specs.declared.Place.{Place}
use Rattle.types.specs.declared.SeqNo.{SeqNo}
use Rattle.types.specs.declared.TType.TheVariants as T
use Rattle.types.specs.declared.TMessageType.{TMessageType}
use Rattle.types.specs.declared.TConfiguration.{TConfiguration}
use Rattle.types.specs.Value.{Tree}
use Rattle.numbers.specs.Varint.{Found, got, refused}
use Rattle.heads.specs.Reader.{read_at}
use Rattle.heads.specs.Heads.{Message, message}
use Rattle.heads.specs.Answers.{place, seq_of, to_message, message_at}
use Rattle.heads.specs.declared.MessageHead.{MessageHead}
use Rattle.heads.specs.declared.MessageHead.TheVariants as H
use Rattle.heads.proofs.Steps.{found_at, lost_at}
use Rattle.text.specs.Pen.{Pen, inked}
use Rattle.text.proofs.Inks.{inked_append}
use Rattle.lines.specs.Lines as row
use Rattle.lines.specs.Lines.{Item, line, lines}
use Rattle.printer.specs.Telling.{Told, quiet, aloud}
use Rattle.printer.specs.Value.{value_told}
use Rattle.printer.specs.Printing.{prints, message_told, limits, ending, whole, report, text_of, written, print_call}
use Rattle.printer.specs.declared.Printed.{Printed}
use Rattle.printer.specs.declared.Printed.TheVariants.{Went, Stopped}
use Rattle.printer.specs.declared.Text.{Text}
use Rattle.printer.specs.declared.Text.TheVariants as X
use Rattle.printer.proofs.Prints.{Page, lines_append, went, stopped, quiet_tells, prints_step, prints_stop, prints_aloud}
use Rattle.heads.proofs.Tails.{message_tail}
use Rattle.printer.proofs.Leaf.{Between, between}
use Rattle.printer.proofs.Same.{message_ends}

-- print_message: the name is the part between the places that the call answered
is_message : (x : Found Message) (m : TMessageType) (i : SeqNo) (a z : Place) → to_message x ≡ H.Got m i a z → (msg : Message) × (x ≡ got msg z.0) × (msg.0 ≡ m) × (msg.1 ≡ i.0) × (a.0 ≡ z.0 - length msg.2)
is_message (got msg e) m i a z f =
    let zz : place e ≡ z = cc in
    let aa : place (e - length msg.2) ≡ a = cc in
    let mm : msg.0 ≡ m = cc in
    let ii : seq_of msg.1 ≡ i = cc in
    let ze : e ≡ z.0 = ap (λ (q : Place). q.0) zz in
    (msg, ap (got msg) ze, mm, ap (λ (q : SeqNo). q.0) ii, sym (ap (λ (q : Place). q.0) aa) ∙ ap (λ (n : ℕ). n - length msg.2) ze)
is_message (refused why) m i a z f = let o : ◌≡◌ {A = ℕ} 0 1 = cc in absurd (omega arith)

no_message : (x : Found Message) (why : ℕ) → to_message x ≡ H.Refused why → x ≡ refused why
no_message (got msg e) why f = let o : ◌≡◌ {A = ℕ} 0 1 = cc in absurd (omega arith)
no_message (refused u) why f = cc

module _ (s : List ℕ) (lim : TConfiguration) (room : ℕ) (h : MessageHead) (e : h ≡ message_at s lim 0) where
  pub message_no : (out : List ℕ) (to why : ℕ) → h ≡ H.Refused why → (Stopped why to, out) ≡ prints (message_told lim room) s 0 (out, to)
  unfolding message_told message_at
  message_no out to why g =
      sym (prints_stop (quiet (message lim)) _ s 0 (out, to) why (out, to) (quiet_tells (message lim) s 0 (out, to) (refused why) (no_message (read_at (message lim) s 0) why (sym e ∙ g))))

  module _ (m : TMessageType) (i : SeqNo) (a z : Place) (g : h ≡ H.Got m i a z) where
    the_message : (msg : Message) × (read_at (message lim) s 0 ≡ got msg z.0) × (msg.0 ≡ m) × (msg.1 ≡ i.0) × (a.0 ≡ z.0 - length msg.2)
    unfolding message_at
    the_message = is_message (read_at (message lim) s 0) m i a z (sym e ∙ g)

    the_name : Between s the_message.0.2 a.0 z.0
    the_name = between s the_message.0.2 a.0 z.0 the_message.4 (message_tail lim s 0 the_message.0 z.0 the_message.1)

    pub name_order : a.0 ≤ z.0
    name_order = the_name.order

    pub name_inside : z.0 ≤ length s
    name_inside = the_name.inside

    pub message_in : (out o : List ℕ) (to q : ℕ) (r : Page) → (o, q) ≡ inked (line (row.message m i.0 (take (z.0 - a.0) (drop a.0 s)))) (out, to) → r ≡ prints (value_told lim room T.Struct) s z.0 (o, q) → r ≡ prints (message_told lim room) s 0 (out, to)
    unfolding message_told
    message_in out o to q r f x =
        let msg = the_message.0 in
        let named : row.message m i.0 (take (z.0 - a.0) (drop a.0 s)) ≡ row.message msg.0 msg.1 msg.2 = rw (the_message.2, the_message.3, the_name.are) in
        x
        ∙ sym (prints_step (quiet (message lim)) (λ n. aloud (row.message n.0 n.1 n.2) (value_told lim room T.Struct)) s 0 (out, to) msg z.0 (out, to) (quiet_tells (message lim) s 0 (out, to) (got msg z.0) the_message.1)
        ∙ prints_aloud (row.message msg.0 msg.1 msg.2) (value_told lim room T.Struct) s z.0 (out, to) (o, q) (f ∙ ap (λ (y : Item). inked (line y) (out, to)) named))

pub ruleset message_cases = (message_no, name_order, name_inside, message_in)

-- print_whole: one line more
closed : (is : List Item) (i : Item) (p : Pen) → inked (lines (is ++ (i ∷ []))) p ≡ inked (line i) (inked (lines is) p)
unfolding lines
closed is i p =
    ap (λ (l : List ℕ). inked l p) (lines_append is (i ∷ []) ∙ ap (λ (l : List ℕ). lines is ++ l) (append-nil (line i)))
    ∙ inked_append (lines is) (line i) p

module _ (s out : List ℕ) (r : Printed) (o : List ℕ) (f : (r, o) ≡ prints (message_told limits 64) s 0 (out, 0)) where
  told : Told Tree
  told = message_told limits 64 s

  ends_so : (x : Found Tree) (i : Item) (to : ℕ) (o₂ : List ℕ) (n : ℕ) → (message_told limits 64 s).found ≡ x → (o, to) ≡ inked (lines (message_told limits 64 s).items) (out, 0) → (o₂, n) ≡ inked (line (ending (length s) x)) (o, to) → (X.Wrote n, o₂) ≡ written (inked (lines (whole s)) (out, 0))
  unfolding whole
  ends_so x i to o₂ n g h k =
      ap written
      (k ∙ ap₂ (λ (y : Found Tree) (q : Pen). inked (line (ending (length s) y)) q) (sym g) h
      ∙ sym (closed (message_told limits 64 s).items (ending (length s) (message_told limits 64 s).found) (out, 0)))

  module _ (e : Place) (to : ℕ) (g : r ≡ Went e to) where
    went_so : (a : Tree) × ((message_told limits 64 s).found ≡ got a e.0)
    went_so =
        let w = went (message_told limits 64) s 0 (out, 0) r o e to f g in
        let k = found_at 0 (message_told limits 64 s).found w.0 e.0 w.1.finds in
        let n : k.0 ≡ e.0 = omega (arith, k.2) in
        (w.0, k.1 ∙ ap (got w.0) n)

    pub used_inside : e.0 ≤ length s
    used_inside = message_ends limits 64 s went_so.0 e.0 went_so.1

    pub whole_end : (o₂ : List ℕ) (n : ℕ) → (o₂, n) ≡ inked (line (row.end e.0 (length s - e.0))) (o, to) → (X.Wrote n, o₂) ≡ written (inked (lines (whole s)) (out, 0))
    whole_end o₂ n k =
        ends_so (got went_so.0 e.0) (row.end e.0 (length s - e.0)) to o₂ n went_so.1 (went (message_told limits 64) s 0 (out, 0) r o e to f g).1.inks k

  pub whole_no : (why to n : ℕ) (o₂ : List ℕ) → r ≡ Stopped why to → (o₂, n) ≡ inked (line (row.refusal why)) (o, to) → (X.Wrote n, o₂) ≡ written (inked (lines (whole s)) (out, 0))
  whole_no why to n o₂ g k =
      let w = stopped (message_told limits 64) s 0 (out, 0) r o why to f g in
      ends_so (refused why) (row.refusal why) to o₂ n (lost_at 0 (message_told limits 64 s).found why w.finds) w.inks k

pub ruleset whole_cases = (used_inside, whole_end, whole_no)

-- print
module _ (s out : List ℕ) where
  pub call_short : length out < 4194304 → (X.Refused NO_ROOM, out) ≡ print_call s out
  unfolding print_call
  call_short h = rw (lt-ltb (length out) 4194304 h)

  module _ (h : 4194304 ≤ length out) where
    pub call_long : (o : List ℕ) (n : ℕ) → 65536 < length s → (o, n) ≡ inked (line (row.refusal NO_ROOM)) (out, 0) → (X.Wrote n, o) ≡ print_call s out
    unfolding print_call text_of report lines
    call_long o n l e = rw (le-ltb (length out) 4194304 h, lt-ltb 65536 (length s) l) (ap written (e ∙ ap (λ (k : List ℕ). inked k (out, 0)) (sym (append-nil (line (row.refusal NO_ROOM))))))

    pub call_whole : (r : Text × List ℕ) → length s ≤ 65536 → r ≡ written (inked (lines (whole s)) (out, 0)) → r ≡ print_call s out
    unfolding print_call text_of report
    call_whole r l e = rw (le-ltb (length out) 4194304 h, le-ltb 65536 (length s) l) e

pub ruleset call_cases = (call_short, call_long, call_whole)
