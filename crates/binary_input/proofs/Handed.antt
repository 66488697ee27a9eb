-- The parts handed out: the places that a call answered are in order and in the input. Assumes nothing.
use mathlib.Core.Path.{◌≡◌, refl, sym, ap, ◌∙◌}
use mathlib.Core.List.{List, []}
use mathlib.Core.Bool.{true}
use Prim.Native.Nat.{ℕ, ◌+◌, ◌-◌, ◌≤◌}
use native.Mathlib.Omega.{arith}
use lib.ListN.{length, take, drop}
use lib.Seq.{slice}
use Rattle.types.specs.Refusals.{BAD_STATE}
use Rattle.types.specs.declared.Place.{Place}
use Rattle.types.specs.declared.SeqNo.{SeqNo}
use Rattle.types.specs.declared.TMessageType.{TMessageType}
use Rattle.numbers.specs.Varint.{Found, got, refused}
use Rattle.numbers.proofs.Found.{take_drop, zero_one}
use Rattle.heads.specs.Reader.{Reader, read_to}
use Rattle.heads.specs.Heads.{Message}
use Rattle.heads.specs.Answers.{place}
use Rattle.heads.proofs.Lawful.{Lawful}
use Rattle.heads.proofs.Ahead.{lawful_fair}
use Rattle.heads.proofs.Cut.{was_cut}
use Rattle.heads.proofs.Readers.{uuid_lawful}
use Rattle.input.specs.Answers.{part_of, name_of}
use Rattle.input.specs.declared.PartAnswer.TheVariants as P
use Rattle.input.specs.declared.MessageAnswer.TheVariants as H
use Rattle.binary_heads.specs.Heads.{text}
use Rattle.binary_heads.specs.Words.{binary}
use Rattle.binary_heads.proofs.Owes.{binary_owes, text_lawful, message_lawful}
use Rattle.binary_input.specs.State.{State, sound, gate, cut_of, begun_here}
use Rattle.binary_input.specs.Outcome.{Outcome, declines, from, stays, calls_to, cut_here}
use Rattle.binary_input.specs.Answers.{as_part, as_message}
use Rattle.binary_input.specs.Calls.{read_uuid, read_bytes, read_string, read_message, uuid_part, bytes_part, string_part, name_part}
use Rattle.binary_input.specs.declared.ReadPart.{ReadPart}
use Rattle.binary_input.specs.declared.ReadMessage.{ReadMessage}
use Rattle.binary_input.proofs.Gate.{is_sound, Gated, bad, through, gated}

-- what a call that reads comes to
pub data Way {A : Type 0} (cut : State → ℕ) (p : State → Reader A) (move : State → State) (s : List ℕ) (st : State) : Type 0 where
  stopped : (why : ℕ) → calls_to cut p move s st ≡ declines why st → Way cut p move s st
  found : (a : A) (e : ℕ) → e ≤ length s → calls_to cut p move s st ≡ from move st (got a e) → Way cut p move s st

module _ {A : Type 0} (cut : State → ℕ) (p : State → Reader A) (move : State → State) (s : List ℕ) (st : State) (l : Lawful (p st)) (late : sound (length s) st ≡ true → st.place.0 ≤ cut st) where
  pub way : Way cut p move s st
  unfolding calls_to
  way = go (gated (length s) st)
    where
      reads : sound (length s) st ≡ true → gate (length s) st ≡ 0 → (x : Found A) → read_to (p st) s (cut st) st.place.0 ≡ x → Way cut p move s st
      reads f g (got a e) r =
          found a e (was_cut (p st) s (cut st) st.place.0 a e (lawful_fair (p st) l) (late f) (is_sound (length s) st f).here r).inside (rw (g, r))
      reads f g (refused why) r = stopped why (rw (g, r))

      go : Gated (length s) st → Way cut p move s st
      go (bad f g) = stopped BAD_STATE (rw g)
      go (through f g) = reads f g (read_to (p st) s (cut st) st.place.0) refl

pub record Places (s : List ℕ) (a z : Place) : Type 0 where
  pub order : a.0 ≤ z.0
  pub inside : z.0 ≤ length s

-- a part's start lies so much before its end
ended : (s : List ℕ) (e n : ℕ) (a z : Place) → e ≤ length s → place (e - n) ≡ a → place e ≡ z → Places s a z
ended s e n a z h f g =
    let x : e - n ≡ a.0 = ap (λ (q : Place). q.0) f in
    let y : e ≡ z.0 = ap (λ (q : Place). q.0) g in
    record { order = omega arith; inside = omega arith }

module _ (cut : State → ℕ) (p : State → Reader (List ℕ)) (s : List ℕ) (st : State) (w : Way cut p stays s st) (a z : Place) (g : (as_part (calls_to cut p stays s st)).answer ≡ P.Got a z) where
  part_places : Places s a z
  part_places = go w
    where
      said : (o : Outcome (List ℕ)) → calls_to cut p stays s st ≡ o → (as_part o).answer ≡ P.Got a z
      said o e = ap (λ (x : Outcome (List ℕ)). (as_part x).answer) (sym e) ∙ g

      go : Way cut p stays s st → Places s a z
      go (stopped why q) = let h : P.Refused why ≡ P.Got a z = said (declines why st) q in zero_one (cc)
      go (found bs e i q) =
          let h : P.Got (place (e - length bs)) (place e) ≡ P.Got a z = said (from stays st (got bs e)) q in
          ended s e (length bs) a z i (cc) (cc)

module _ (cut : State → ℕ) (p : State → Reader Message) (s : List ℕ) (st : State) (w : Way cut p begun_here s st) (m : TMessageType) (i : SeqNo) (a z : Place) (g : (as_message (calls_to cut p begun_here s st)).answer ≡ H.Got m i a z) where
  name_places : Places s a z
  name_places = go w
    where
      said : (o : Outcome Message) → calls_to cut p begun_here s st ≡ o → (as_message o).answer ≡ H.Got m i a z
      said o e = ap (λ (x : Outcome Message). (as_message x).answer) (sym e) ∙ g

      go : Way cut p begun_here s st → Places s a z
      go (stopped why q) = let h : H.Refused why ≡ H.Got m i a z = said (declines why st) q in zero_one (cc)
      go (found n e k q) =
          let h : (as_message (from begun_here st (got n e))).answer ≡ H.Got m i a z = said (from begun_here st (got n e)) q in
          ended s (e - 4) (length n.2) a z (omega arith) (cc) (cc)

-- the part that the code takes
between : (s : List ℕ) (a z : Place) → Places s a z → take (z.0 - a.0) (drop a.0 s) ≡ slice a.0 z.0 s
between s a z h = let e : a.0 + (z.0 - a.0) ≡ z.0 = omega (arith, h.order) in take_drop a.0 (z.0 - a.0) s ∙ ap (λ (n : ℕ). drop a.0 (take n s)) e

module _ (s : List ℕ) (st : State) (r : ReadPart) (e : r ≡ read_uuid s st) where
  module _ (a z : Place) (g : r.answer ≡ P.Got a z) where
    uuid_places : Places s a z
    unfolding read_uuid
    uuid_places = part_places cut_of (λ st. binary.uuid) s st (way cut_of (λ st. binary.uuid) stays s st uuid_lawful (λ f. (is_sound (length s) st f).before)) a z (ap (λ (x : ReadPart). x.answer) (sym e) ∙ g)

    pub uuid_order : a.0 ≤ z.0
    uuid_order = uuid_places.order

    pub uuid_inside : z.0 ≤ length s
    uuid_inside = uuid_places.inside

    pub uuid_part_lem : take (z.0 - a.0) (drop a.0 s) ≡ uuid_part s st
    unfolding uuid_part
    uuid_part_lem = between s a z uuid_places ∙ ap (part_of s) (sym g ∙ ap (λ (x : ReadPart). x.answer) e)

  pub uuid_none : (why : ℕ) → r.answer ≡ P.Refused why → [] ≡ uuid_part s st
  unfolding uuid_part
  uuid_none why g = ap (part_of s) (sym g ∙ ap (λ (x : ReadPart). x.answer) e)

pub ruleset uuid_parts = (uuid_order, uuid_inside, uuid_part_lem, uuid_none)

module _ (s : List ℕ) (st : State) (r : ReadPart) (e : r ≡ read_bytes s st) where
  module _ (a z : Place) (g : r.answer ≡ P.Got a z) where
    bytes_places : Places s a z
    unfolding read_bytes
    bytes_places = part_places cut_of (λ st. binary.binary st.limits) s st (way cut_of (λ st. binary.binary st.limits) stays s st (binary_owes.binary st.limits).lawful (λ f. (is_sound (length s) st f).before)) a z (ap (λ (x : ReadPart). x.answer) (sym e) ∙ g)

    pub bytes_order : a.0 ≤ z.0
    bytes_order = bytes_places.order

    pub bytes_inside : z.0 ≤ length s
    bytes_inside = bytes_places.inside

    pub bytes_part_lem : take (z.0 - a.0) (drop a.0 s) ≡ bytes_part s st
    unfolding bytes_part
    bytes_part_lem = between s a z bytes_places ∙ ap (part_of s) (sym g ∙ ap (λ (x : ReadPart). x.answer) e)

  pub bytes_none : (why : ℕ) → r.answer ≡ P.Refused why → [] ≡ bytes_part s st
  unfolding bytes_part
  bytes_none why g = ap (part_of s) (sym g ∙ ap (λ (x : ReadPart). x.answer) e)

pub ruleset bytes_parts = (bytes_order, bytes_inside, bytes_part_lem, bytes_none)

module _ (s : List ℕ) (st : State) (r : ReadPart) (e : r ≡ read_string s st) where
  module _ (a z : Place) (g : r.answer ≡ P.Got a z) where
    string_places : Places s a z
    unfolding read_string
    string_places = part_places cut_of (λ st. text st.limits) s st (way cut_of (λ st. text st.limits) stays s st (text_lawful st.limits) (λ f. (is_sound (length s) st f).before)) a z (ap (λ (x : ReadPart). x.answer) (sym e) ∙ g)

    pub string_order : a.0 ≤ z.0
    string_order = string_places.order

    pub string_inside : z.0 ≤ length s
    string_inside = string_places.inside

    pub string_part_lem : take (z.0 - a.0) (drop a.0 s) ≡ string_part s st
    unfolding string_part
    string_part_lem = between s a z string_places ∙ ap (part_of s) (sym g ∙ ap (λ (x : ReadPart). x.answer) e)

  pub string_none : (why : ℕ) → r.answer ≡ P.Refused why → [] ≡ string_part s st
  unfolding string_part
  string_none why g = ap (part_of s) (sym g ∙ ap (λ (x : ReadPart). x.answer) e)

pub ruleset string_parts = (string_order, string_inside, string_part_lem, string_none)

module _ (s : List ℕ) (st : State) (r : ReadMessage) (e : r ≡ read_message s st) where
  module _ (m : TMessageType) (i : SeqNo) (a z : Place) (g : r.answer ≡ H.Got m i a z) where
    message_places : Places s a z
    unfolding read_message
    message_places = name_places cut_here (λ st. binary.message st.limits) s st (way cut_here (λ st. binary.message st.limits) begun_here s st (message_lawful st.limits) (λ f. omega arith)) m i a z (ap (λ (x : ReadMessage). x.answer) (sym e) ∙ g)

    pub message_order : a.0 ≤ z.0
    message_order = message_places.order

    pub message_inside : z.0 ≤ length s
    message_inside = message_places.inside

    pub message_part : take (z.0 - a.0) (drop a.0 s) ≡ name_part s st
    unfolding name_part
    message_part = between s a z message_places ∙ ap (name_of s) (sym g ∙ ap (λ (x : ReadMessage). x.answer) e)

  pub message_none : (why : ℕ) → r.answer ≡ H.Refused why → [] ≡ name_part s st
  unfolding name_part
  message_none why g = ap (name_of s) (sym g ∙ ap (λ (x : ReadMessage). x.answer) e)

pub ruleset message_parts = (message_order, message_inside, message_part, message_none)
