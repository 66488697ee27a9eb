-- The parts handed out: the places that a call answered are in order and in the input, and the part between them is what the call's reader
-- read. Assumes nothing.
use mathlib.Core.Path.{◌≡◌, sym, ap, ◌∙◌}
use mathlib.Core.List.{List, []}
use mathlib.Core.Bool.{Bool, true, false}
use Prim.Native.Nat.{ℕ, ◌+◌, ◌-◌, ◌≤◌}
use native.Mathlib.Omega.{arith}
use lib.ListN.{length, take, drop}
use lib.Seq.{slice}
use Rattle.numbers.specs.Varint.{got}
use Rattle.heads.specs.Reader.{Reader, read_at, read_to}
use Rattle.heads.proofs.Lawful.{Lawful}
use Rattle.heads.proofs.Ahead.{lawful_fair}
use Rattle.heads.proofs.Cut.{was_cut, cut_whole}
use Rattle.heads.proofs.Readers.{uuid_lawful, binary_lawful, text_lawful, message_lawful}
use Rattle.heads.proofs.Tails.{uuid_tail, binary_tail, text_tail, message_tail, tail_slice}
use Rattle.types.specs.declared.Place.{Place}
use Rattle.types.specs.declared.SeqNo.{SeqNo}
use Rattle.types.specs.declared.TMessageType.{TMessageType}
use Rattle.numbers.proofs.Found.{take_drop}
use Rattle.heads.specs.Heads.{uuid, binary, text, Message, message}
use Rattle.heads.specs.Answers.{place}
use Rattle.input.specs.State.{State, sound, cut_of}
use Rattle.input.specs.Outcome.{Outcome, cut_here, stays, anew, answers}
use Rattle.input.specs.Answers.{as_part, as_message, part_of, name_of}
use Rattle.input.specs.Calls.{read_uuid, read_bytes, read_string, read_message, uuid_part, bytes_part, string_part, name_part}
use Rattle.input.specs.declared.PartAnswer.TheVariants as P
use Rattle.input.specs.declared.MessageAnswer.TheVariants as H
use Rattle.input.specs.declared.ReadPart.{ReadPart}
use Rattle.input.specs.declared.ReadMessage.{ReadMessage}
use Rattle.input.proofs.Gate.{is_sound}
use Rattle.input.proofs.Laws.{busy, any, read_well, Way, unsound, early, lost, well}
use Rattle.input.proofs.Each.{uuid_ways, binary_ways, text_ways, message_ways}

pub record Places (s : List ℕ) (a z : Place) : Type 0 where
  pub order : a.0 ≤ z.0
  pub inside : z.0 ≤ length s

no_part : {X : Type 0} {why : ℕ} {a z : Place} → P.Refused why ≡ P.Got a z → X
no_part e = let o : ◌≡◌ {A = ℕ} 0 1 = cc in absurd (omega arith)

no_name : {X : Type 0} {why : ℕ} {m : TMessageType} {i : SeqNo} {a z : Place} → H.Refused why ≡ H.Got m i a z → X
no_name e = let o : ◌≡◌ {A = ℕ} 0 1 = cc in absurd (omega arith)

-- a part's start lies so much before its end, and its end where the call's next state stands
ended : (s : List ℕ) (e n : ℕ) (a z : Place) → e ≤ length s → place (e - n) ≡ a → place e ≡ z → Places s a z
ended s e n a z h f g =
    let x : e - n ≡ a.0 = ap (λ (q : Place). q.0) f in
    let y : e ≡ z.0 = ap (λ (q : Place). q.0) g in
    record { order = omega arith; inside = omega arith }

module _ (call : List ℕ → State → Outcome (List ℕ)) (late : State → Bool) (ways : (s : List ℕ) (st : State) → Way any call late s st) (s : List ℕ) (st : State) (a z : Place) (g : (as_part (call s st)).answer ≡ P.Got a z) where
  part_places : Places s a z
  part_places = go (ways s st)
    where
      said : (o : Outcome (List ℕ)) → call s st ≡ o → (as_part o).answer ≡ P.Got a z
      said o e = ap (λ (x : Outcome (List ℕ)). (as_part x).answer) (sym e) ∙ g

      go : Way any call late s st → Places s a z
      go (unsound f e) = no_part (said _ e)
      go (early f l e) = no_part (said _ e)
      go (lost f l why w e) = no_part (said _ e)
      go (well f l bs next lo hi q b) =
          let h : P.Got (place (next.place.0 - length bs)) (place next.place.0) ≡ P.Got a z = said _ q in
          ended s next.place.0 (length bs) a z (is_sound (length s) next hi).here (cc) (cc)

module _ (call : List ℕ → State → Outcome Message) (late : State → Bool) (ways : (s : List ℕ) (st : State) → Way any call late s st) (s : List ℕ) (st : State) (m : TMessageType) (i : SeqNo) (a z : Place) (g : (as_message (call s st)).answer ≡ H.Got m i a z) where
  name_places : Places s a z
  name_places = go (ways s st)
    where
      said : (o : Outcome Message) → call s st ≡ o → (as_message o).answer ≡ H.Got m i a z
      said o e = ap (λ (x : Outcome Message). (as_message x).answer) (sym e) ∙ g

      go : Way any call late s st → Places s a z
      go (unsound f e) = no_name (said _ e)
      go (early f l e) = no_name (said _ e)
      go (lost f l why w e) = no_name (said _ e)
      go (well f l n next lo hi q b) =
          let h : (as_message (answers n next)).answer ≡ H.Got m i a z = said _ q in
          ended s next.place.0 (length n.2) a z (is_sound (length s) next hi).here (cc) (cc)

-- the part that the code takes
cut : (s : List ℕ) (a z : Place) → Places s a z → take (z.0 - a.0) (drop a.0 s) ≡ slice a.0 z.0 s
cut s a z h = let e : a.0 + (z.0 - a.0) ≡ z.0 = omega (arith, h.order) in take_drop a.0 (z.0 - a.0) s ∙ ap (λ (n : ℕ). drop a.0 (take n s)) e

module _ (s : List ℕ) (st : State) (r : ReadPart) (e : r ≡ read_uuid s st) where
  module _ (a z : Place) (g : r.answer ≡ P.Got a z) where
    pub uuid_places : Places s a z
    unfolding read_uuid
    uuid_places = part_places _ _ uuid_ways s st a z (ap (λ (x : ReadPart). x.answer) (sym e) ∙ g)

    pub uuid_order : a.0 ≤ z.0
    uuid_order = uuid_places.order

    pub uuid_inside : z.0 ≤ length s
    uuid_inside = uuid_places.inside

    pub uuid_part_lem : take (z.0 - a.0) (drop a.0 s) ≡ uuid_part s st
    unfolding uuid_part
    uuid_part_lem = cut s a z uuid_places ∙ ap (part_of s) (sym g ∙ ap (λ (x : ReadPart). x.answer) e)

  pub uuid_none : (why : ℕ) → r.answer ≡ P.Refused why → [] ≡ uuid_part s st
  unfolding uuid_part
  uuid_none why g = ap (part_of s) (sym g ∙ ap (λ (x : ReadPart). x.answer) e)

pub ruleset uuid_parts = (uuid_order, uuid_inside, uuid_part_lem, uuid_none)

module _ (s : List ℕ) (st : State) (r : ReadPart) (e : r ≡ read_bytes s st) where
  module _ (a z : Place) (g : r.answer ≡ P.Got a z) where
    pub bytes_places : Places s a z
    unfolding read_bytes
    bytes_places = part_places _ _ binary_ways s st a z (ap (λ (x : ReadPart). x.answer) (sym e) ∙ g)

    pub bytes_order : a.0 ≤ z.0
    bytes_order = bytes_places.order

    pub bytes_inside : z.0 ≤ length s
    bytes_inside = bytes_places.inside

    pub bytes_part_lem : take (z.0 - a.0) (drop a.0 s) ≡ bytes_part s st
    unfolding bytes_part
    bytes_part_lem = cut s a z bytes_places ∙ ap (part_of s) (sym g ∙ ap (λ (x : ReadPart). x.answer) e)

  pub bytes_none : (why : ℕ) → r.answer ≡ P.Refused why → [] ≡ bytes_part s st
  unfolding bytes_part
  bytes_none why g = ap (part_of s) (sym g ∙ ap (λ (x : ReadPart). x.answer) e)

pub ruleset bytes_parts = (bytes_order, bytes_inside, bytes_part_lem, bytes_none)

module _ (s : List ℕ) (st : State) (r : ReadPart) (e : r ≡ read_string s st) where
  module _ (a z : Place) (g : r.answer ≡ P.Got a z) where
    pub string_places : Places s a z
    unfolding read_string
    string_places = part_places _ _ text_ways s st a z (ap (λ (x : ReadPart). x.answer) (sym e) ∙ g)

    pub string_order : a.0 ≤ z.0
    string_order = string_places.order

    pub string_inside : z.0 ≤ length s
    string_inside = string_places.inside

    pub string_part_lem : take (z.0 - a.0) (drop a.0 s) ≡ string_part s st
    unfolding string_part
    string_part_lem = cut s a z string_places ∙ ap (part_of s) (sym g ∙ ap (λ (x : ReadPart). x.answer) e)

  pub string_none : (why : ℕ) → r.answer ≡ P.Refused why → [] ≡ string_part s st
  unfolding string_part
  string_none why g = ap (part_of s) (sym g ∙ ap (λ (x : ReadPart). x.answer) e)

pub ruleset string_parts = (string_order, string_inside, string_part_lem, string_none)

module _ (s : List ℕ) (st : State) (r : ReadMessage) (e : r ≡ read_message s st) where
  module _ (m : TMessageType) (i : SeqNo) (a z : Place) (g : r.answer ≡ H.Got m i a z) where
    pub message_places : Places s a z
    unfolding read_message
    message_places = name_places _ _ message_ways s st m i a z (ap (λ (x : ReadMessage). x.answer) (sym e) ∙ g)

    pub message_order : a.0 ≤ z.0
    message_order = message_places.order

    pub message_inside : z.0 ≤ length s
    message_inside = message_places.inside

    pub message_part : take (z.0 - a.0) (drop a.0 s) ≡ name_part s st
    unfolding name_part
    message_part = cut s a z message_places ∙ ap (name_of s) (sym g ∙ ap (λ (x : ReadMessage). x.answer) e)

  pub message_none : (why : ℕ) → r.answer ≡ H.Refused why → [] ≡ name_part s st
  unfolding name_part
  message_none why g = ap (name_of s) (sym g ∙ ap (λ (x : ReadMessage). x.answer) e)

pub ruleset message_parts = (message_order, message_inside, message_part, message_none)

-- what the second calls hand out, where the first finds these bytes
module _ (s : List ℕ) (st : State) (f : sound (length s) st ≡ true) (w : busy st ≡ false) where
  -- what was found up to a cut stands in the input
  stood : {A : Type 0} (p : Reader A) → Lawful p → (c : ℕ) → st.place.0 ≤ c → (a : A) (e : ℕ) → read_to p s c st.place.0 ≡ got a e → read_at p s st.place.0 ≡ got a e
  stood p l c h a e r =
      let fair = lawful_fair p l in
      cut_whole p s c st.place.0 a e fair (was_cut p s c st.place.0 a e fair h (is_sound (length s) st f).here r)

  before : st.place.0 ≤ cut_of st
  before = (is_sound (length s) st f).before

  pub uuid_handed : (bs : List ℕ) (e : ℕ) → read_to uuid s (cut_of st) st.place.0 ≡ got bs e → uuid_part s st ≡ bs
  unfolding uuid_part read_uuid
  uuid_handed bs e r =
      ap (λ (o : Outcome (List ℕ)). part_of s (as_part o).answer) (read_well cut_of (λ st. uuid) stays s st f w bs e r)
      ∙ tail_slice s bs e (uuid_tail s st.place.0 bs e (stood uuid uuid_lawful (cut_of st) before bs e r))

  pub bytes_handed : (bs : List ℕ) (e : ℕ) → read_to (binary st.limits) s (cut_of st) st.place.0 ≡ got bs e → bytes_part s st ≡ bs
  unfolding bytes_part read_bytes
  bytes_handed bs e r =
      ap (λ (o : Outcome (List ℕ)). part_of s (as_part o).answer) (read_well cut_of (λ st. binary st.limits) stays s st f w bs e r)
      ∙ tail_slice s bs e (binary_tail st.limits s st.place.0 bs e (stood (binary st.limits) (binary_lawful st.limits) (cut_of st) before bs e r))

  pub string_handed : (bs : List ℕ) (e : ℕ) → read_to (text st.limits) s (cut_of st) st.place.0 ≡ got bs e → string_part s st ≡ bs
  unfolding string_part read_string
  string_handed bs e r =
      ap (λ (o : Outcome (List ℕ)). part_of s (as_part o).answer) (read_well cut_of (λ st. text st.limits) stays s st f w bs e r)
      ∙ tail_slice s bs e (text_tail st.limits s st.place.0 bs e (stood (text st.limits) (text_lawful st.limits) (cut_of st) before bs e r))

  pub name_handed : (m : Message) (e : ℕ) → read_to (message st.limits) s (cut_here st) st.place.0 ≡ got m e → name_part s st ≡ m.2
  unfolding name_part read_message
  name_handed m e r =
      ap (λ (o : Outcome Message). name_of s (as_message o).answer) (read_well cut_here (λ st. message st.limits) anew s st f w m e r)
      ∙ tail_slice s m.2 e (message_tail st.limits s st.place.0 m e (stood (message st.limits) (message_lawful st.limits) (cut_here st) (omega arith) m e r))
