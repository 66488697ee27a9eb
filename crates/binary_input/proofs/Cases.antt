-- What the calls answer at each of their returns, from what they know there. Assumes nothing.
use mathlib.Core.Path.{◌≡◌, refl, sym, ap, ◌∙◌}
use mathlib.Core.List.{List}
use mathlib.Core.Bool.{Bool, true, false}
use Prim.Native.Nat.{ℕ, ◌+◌, ◌-◌, ◌≤◌, ◌<◌, min}
use native.Mathlib.Omega.{arith}
use borrow.Author.Rules.{sfits_of}
use borrow.Author.Tests.{eq-eqb, ne_eqb, le-leb, lt-leb}
use lib.Dec.{ltb}
use lib.ListN.{length, take}
use lib.IntN.{ℤ, pos}
use mir.Syntax.{w64}
use mir.Val.{Fits}
use mir.Facts.{to_z-of_z}
use Rattle.types.specs.Refusals.{DEPTH, OUT_OF_TURN, BAD_STATE}
use Rattle.types.specs.Limits.{in_range}
use Rattle.types.specs.declared.TType.{TType}
use Rattle.types.specs.declared.TType.TheVariants as T
use Rattle.types.specs.declared.TMessageType.{TMessageType}
use Rattle.types.specs.declared.Place.{Place}
use Rattle.types.specs.declared.FieldId.{FieldId}
use Rattle.types.specs.declared.SeqNo.{SeqNo}
use Rattle.types.proofs.Limits.{ranged}
use Rattle.numbers.specs.Varint.{Found, got, refused}
use Rattle.heads.specs.Reader.{Reader, read_at, missing, missed}
use Rattle.heads.specs.Heads.{Field, stop, bool, value, Message}
use Rattle.heads.specs.Answers.{place, to_i8, to_i16, to_i32, to_i64, to_double, to_bool, to_part, to_list, to_map, to_field}
use Rattle.heads.specs.Answers as own
use Rattle.heads.specs.declared.BoolRead.{BoolRead}
use Rattle.heads.specs.declared.BoolRead.TheVariants as hB
use Rattle.heads.specs.declared.I8Read.{I8Read}
use Rattle.heads.specs.declared.I8Read.TheVariants as h8
use Rattle.heads.specs.declared.I16Read.{I16Read}
use Rattle.heads.specs.declared.I16Read.TheVariants as h16
use Rattle.heads.specs.declared.I32Read.{I32Read}
use Rattle.heads.specs.declared.I32Read.TheVariants as h32
use Rattle.heads.specs.declared.I64Read.{I64Read}
use Rattle.heads.specs.declared.I64Read.TheVariants as h64
use Rattle.heads.specs.declared.DoubleRead.{DoubleRead}
use Rattle.heads.specs.declared.DoubleRead.TheVariants as hD
use Rattle.heads.specs.declared.PartRead.{PartRead}
use Rattle.heads.specs.declared.PartRead.TheVariants as hP
use Rattle.heads.specs.declared.ListHead.{ListHead}
use Rattle.heads.specs.declared.ListHead.TheVariants as hL
use Rattle.heads.specs.declared.MapHead.{MapHead}
use Rattle.heads.specs.declared.MapHead.TheVariants as hM
use Rattle.heads.specs.declared.FieldHead.{FieldHead}
use Rattle.heads.specs.declared.FieldHead.TheVariants as hF
use Rattle.heads.proofs.Cut.{cut_is}
use Rattle.input.specs.declared.FieldAnswer.TheVariants as F
use Rattle.input.specs.declared.PartAnswer.TheVariants as P
use Rattle.input.specs.declared.MessageAnswer.TheVariants as H
use Rattle.input.proofs.Cases.{cut_inside, cut_counts}
use Rattle.protocols.specs.Words.{items_head, pairs_head}
use Rattle.protocols.specs.Answers.{truth_at, int16_at, int32_at, int64_at, double_at, binary_at, items_head_at, pairs_head_at, field_at}
use Rattle.binary_heads.specs.Heads.{text}
use Rattle.binary_heads.specs.Words.{binary}
use Rattle.binary_heads.specs.Answers.{to_message, text_at, message_at}
use Rattle.binary_heads.specs.declared.MessageHead.{MessageHead}
use Rattle.binary_heads.specs.declared.MessageHead.TheVariants as hH
use Rattle.binary_input.specs.State.{State, sound, gate, cut_of, begun_here, moved_to, entered, left}
use Rattle.binary_input.specs.Outcome.{Outcome, answers, declines, from, stays, calls_to, cut_here, begins, ends}
use Rattle.binary_input.specs.Answers.{as_bool, as_i8, as_i16, as_i32, as_i64, as_double, as_part, as_list, as_map, as_field, as_message, as_done}
use Rattle.binary_input.specs.Calls as call
use Rattle.binary_input.specs.declared.ReadBool.{ReadBool}
use Rattle.binary_input.specs.declared.ReadI8.{ReadI8}
use Rattle.binary_input.specs.declared.ReadI16.{ReadI16}
use Rattle.binary_input.specs.declared.ReadI32.{ReadI32}
use Rattle.binary_input.specs.declared.ReadI64.{ReadI64}
use Rattle.binary_input.specs.declared.ReadDouble.{ReadDouble}
use Rattle.binary_input.specs.declared.ReadPart.{ReadPart}
use Rattle.binary_input.specs.declared.ReadList.{ReadList}
use Rattle.binary_input.specs.declared.ReadMap.{ReadMap}
use Rattle.binary_input.specs.declared.ReadField.{ReadField}
use Rattle.binary_input.specs.declared.ReadMessage.{ReadMessage}
use Rattle.binary_input.proofs.Gate.{passes}

-- is_sound
module _ (len : ℕ) (st : State) (b : Bool) (e : b ≡ in_range st.limits) where
  pub sound_range : b ≡ false → false ≡ sound len st
  unfolding sound
  sound_range h = rw (← e, h)

  module _ (h : b ≡ true) where
    pub sound_past : len < st.place.0 → false ≡ sound len st
    unfolding sound
    sound_past k = rw (← e, h, lt-leb _ _ k)

    pub sound_deep : st.place.0 ≤ len → st.limits.depth < st.depth → false ≡ sound len st
    unfolding sound
    sound_deep k d = rw (← e, h, le-leb _ _ k, lt-leb _ _ d)

    module _ (k : st.place.0 ≤ len) (d : st.depth ≤ st.limits.depth) where
      pub sound_early : st.place.0 < st.begin.0 → false ≡ sound len st
      unfolding sound
      sound_early i = rw (← e, h, le-leb _ _ k, le-leb _ _ d, lt-leb st.begin.0 _ i)

      module _ (i : st.begin.0 ≤ st.place.0) where
        pub sound_over : st.limits.message < st.place.0 - st.begin.0 → false ≡ sound len st
        unfolding sound
        sound_over j = rw (← e, h, le-leb _ _ k, le-leb _ _ d, le-leb st.begin.0 _ i, lt-leb st.place.0 (cut_of st) (omega arith))

        pub sound_yes : st.place.0 - st.begin.0 ≤ st.limits.message → true ≡ sound len st
        unfolding sound
        sound_yes j = rw (← e, h, le-leb _ _ k, le-leb _ _ d, le-leb st.begin.0 _ i, le-leb st.place.0 (cut_of st) (omega arith))

pub ruleset sound_cases = (sound_range, sound_past, sound_deep, sound_early, sound_over, sound_yes)

-- refusal
module _ (len : ℕ) (st : State) (b : Bool) (e : b ≡ sound len st) where
  pub gate_bad : b ≡ false → BAD_STATE ≡ gate len st
  unfolding gate
  gate_bad h = rw (← e, h)

  pub gate_open : b ≡ true → 0 ≡ gate len st
  unfolding gate
  gate_open h = rw (← e, h)

pub ruleset gate_cases = (gate_bad, gate_open)

-- a call that reads: stopped at the gate, or behind it what its reader finds, in the words `of` of what the heads' call answers
module _ {A R : Type 0} (cut : State → ℕ) (out : Outcome A → R) (p : State → Reader A) (move : State → State) (s : List ℕ) (st : State) (num : ℕ) (e : num ≡ gate (length s) st) where
  stopped : (num ≡ 0 → ⊥) → out (declines num st) ≡ out (calls_to cut p move s st)
  unfolding calls_to
  stopped h = rw (← e, ne_eqb num 0 h)

  module _ {H : Type 0} (to : Found A → H) (of : Bool → State → H → R) (fit : (m : Bool) (st : State) (x : Found A) → of m st (to x) ≡ out (from move st (missed m x))) where
    told : num ≡ 0 → (end : ℕ) → end ≡ min (cut st) (length s) → (r x : H) → r ≡ to (read_at (p st) (take end s) st.place.0) → r ≡ x → of (ltb end (length s)) st x ≡ out (calls_to cut p move s st)
    unfolding calls_to
    told h end o r x f g =
        rw (← e, eq-eqb num 0 h)
        (ap (of (ltb end (length s)) st) (sym g ∙ f)
        ∙ fit (ltb end (length s)) st (read_at (p st) (take end s) st.place.0)
        ∙ ap (λ (y : Found A). out (from move st y)) (sym (cut_is (p st) s (cut st) st.place.0 end o)))

-- read_bool
abbrev of_bool : Bool → State → BoolRead → ReadBool
of_bool m st (hB.Got b q) = as_bool (answers b (moved_to st q))
of_bool m st (hB.Refused why) = as_bool (declines (missing m why) st)

fit_bool : (m : Bool) (st : State) (x : Found Bool) → of_bool m st (to_bool x) ≡ as_bool (from stays st (missed m x))
fit_bool m st (got b e) = refl
fit_bool m st (refused why) = refl

module _ (s : List ℕ) (st : State) (num : ℕ) (e : num ≡ gate (length s) st) where
  pub bool_stopped : (num ≡ 0 → ⊥) → as_bool (declines num st) ≡ call.read_bool s st
  unfolding call.read_bool
  bool_stopped h = stopped cut_of as_bool (λ st. binary.truth) stays s st num e h

  module _ (h : num ≡ 0) (end : ℕ) (o : end ≡ min (cut_of st) (length s)) (r : BoolRead) (f : r ≡ truth_at binary (take end s) st.place.0) where
    bool_is : (x : BoolRead) → r ≡ x → of_bool (ltb end (length s)) st x ≡ call.read_bool s st
    unfolding call.read_bool truth_at
    bool_is x g = told cut_of as_bool (λ st. binary.truth) stays s st num e to_bool of_bool fit_bool h end o r x f g

    pub bool_got : (b : Bool) (q : Place) → r ≡ hB.Got b q → of_bool (ltb end (length s)) st (hB.Got b q) ≡ call.read_bool s st
    bool_got b q g = bool_is (hB.Got b q) g

    pub bool_no : (why n : ℕ) → r ≡ hB.Refused why → n ≡ missing (ltb end (length s)) why → as_bool (declines n st) ≡ call.read_bool s st
    bool_no why n g k = ap (λ (i : ℕ). as_bool (declines i st)) k ∙ bool_is (hB.Refused why) g

pub ruleset bool_cases = (cut_inside, cut_counts, bool_stopped, bool_got, bool_no, to_z-of_z, sfits_of)

-- read_i8
abbrev of_i8 : Bool → State → I8Read → ReadI8
of_i8 m st (h8.Got z q) = as_i8 (answers z (moved_to st q))
of_i8 m st (h8.Refused why) = as_i8 (declines (missing m why) st)

fit_i8 : (m : Bool) (st : State) (x : Found ℤ) → of_i8 m st (to_i8 x) ≡ as_i8 (from stays st (missed m x))
fit_i8 m st (got z e) = refl
fit_i8 m st (refused why) = refl

module _ (s : List ℕ) (st : State) (num : ℕ) (e : num ≡ gate (length s) st) where
  pub i8_stopped : (num ≡ 0 → ⊥) → as_i8 (declines num st) ≡ call.read_i8 s st
  unfolding call.read_i8
  i8_stopped h = stopped cut_of as_i8 (λ st. binary.int8) stays s st num e h

  module _ (h : num ≡ 0) (end : ℕ) (o : end ≡ min (cut_of st) (length s)) (r : I8Read) (f : r ≡ own.int8_at (take end s) st.place.0) where
    i8_is : (x : I8Read) → r ≡ x → of_i8 (ltb end (length s)) st x ≡ call.read_i8 s st
    unfolding call.read_i8 own.int8_at
    i8_is x g = told cut_of as_i8 (λ st. binary.int8) stays s st num e to_i8 of_i8 fit_i8 h end o r x f g

    pub i8_got : (z : ℤ) (q : Place) → r ≡ h8.Got z q → of_i8 (ltb end (length s)) st (h8.Got z q) ≡ call.read_i8 s st
    i8_got z q g = i8_is (h8.Got z q) g

    pub i8_no : (why n : ℕ) → r ≡ h8.Refused why → n ≡ missing (ltb end (length s)) why → as_i8 (declines n st) ≡ call.read_i8 s st
    i8_no why n g k = ap (λ (i : ℕ). as_i8 (declines i st)) k ∙ i8_is (h8.Refused why) g

pub ruleset i8_cases = (cut_inside, cut_counts, i8_stopped, i8_got, i8_no, to_z-of_z, sfits_of)

-- read_i16
abbrev of_i16 : Bool → State → I16Read → ReadI16
of_i16 m st (h16.Got z q) = as_i16 (answers z (moved_to st q))
of_i16 m st (h16.Refused why) = as_i16 (declines (missing m why) st)

fit_i16 : (m : Bool) (st : State) (x : Found ℤ) → of_i16 m st (to_i16 x) ≡ as_i16 (from stays st (missed m x))
fit_i16 m st (got z e) = refl
fit_i16 m st (refused why) = refl

module _ (s : List ℕ) (st : State) (num : ℕ) (e : num ≡ gate (length s) st) where
  pub i16_stopped : (num ≡ 0 → ⊥) → as_i16 (declines num st) ≡ call.read_i16 s st
  unfolding call.read_i16
  i16_stopped h = stopped cut_of as_i16 (λ st. binary.int16) stays s st num e h

  module _ (h : num ≡ 0) (end : ℕ) (o : end ≡ min (cut_of st) (length s)) (r : I16Read) (f : r ≡ int16_at binary (take end s) st.place.0) where
    i16_is : (x : I16Read) → r ≡ x → of_i16 (ltb end (length s)) st x ≡ call.read_i16 s st
    unfolding call.read_i16 int16_at
    i16_is x g = told cut_of as_i16 (λ st. binary.int16) stays s st num e to_i16 of_i16 fit_i16 h end o r x f g

    pub i16_got : (z : ℤ) (q : Place) → r ≡ h16.Got z q → of_i16 (ltb end (length s)) st (h16.Got z q) ≡ call.read_i16 s st
    i16_got z q g = i16_is (h16.Got z q) g

    pub i16_no : (why n : ℕ) → r ≡ h16.Refused why → n ≡ missing (ltb end (length s)) why → as_i16 (declines n st) ≡ call.read_i16 s st
    i16_no why n g k = ap (λ (i : ℕ). as_i16 (declines i st)) k ∙ i16_is (h16.Refused why) g

pub ruleset i16_cases = (cut_inside, cut_counts, i16_stopped, i16_got, i16_no, to_z-of_z, sfits_of)

-- read_i32
abbrev of_i32 : Bool → State → I32Read → ReadI32
of_i32 m st (h32.Got z q) = as_i32 (answers z (moved_to st q))
of_i32 m st (h32.Refused why) = as_i32 (declines (missing m why) st)

fit_i32 : (m : Bool) (st : State) (x : Found ℤ) → of_i32 m st (to_i32 x) ≡ as_i32 (from stays st (missed m x))
fit_i32 m st (got z e) = refl
fit_i32 m st (refused why) = refl

module _ (s : List ℕ) (st : State) (num : ℕ) (e : num ≡ gate (length s) st) where
  pub i32_stopped : (num ≡ 0 → ⊥) → as_i32 (declines num st) ≡ call.read_i32 s st
  unfolding call.read_i32
  i32_stopped h = stopped cut_of as_i32 (λ st. binary.int32) stays s st num e h

  module _ (h : num ≡ 0) (end : ℕ) (o : end ≡ min (cut_of st) (length s)) (r : I32Read) (f : r ≡ int32_at binary (take end s) st.place.0) where
    i32_is : (x : I32Read) → r ≡ x → of_i32 (ltb end (length s)) st x ≡ call.read_i32 s st
    unfolding call.read_i32 int32_at
    i32_is x g = told cut_of as_i32 (λ st. binary.int32) stays s st num e to_i32 of_i32 fit_i32 h end o r x f g

    pub i32_got : (z : ℤ) (q : Place) → r ≡ h32.Got z q → of_i32 (ltb end (length s)) st (h32.Got z q) ≡ call.read_i32 s st
    i32_got z q g = i32_is (h32.Got z q) g

    pub i32_no : (why n : ℕ) → r ≡ h32.Refused why → n ≡ missing (ltb end (length s)) why → as_i32 (declines n st) ≡ call.read_i32 s st
    i32_no why n g k = ap (λ (i : ℕ). as_i32 (declines i st)) k ∙ i32_is (h32.Refused why) g

pub ruleset i32_cases = (cut_inside, cut_counts, i32_stopped, i32_got, i32_no, to_z-of_z, sfits_of)

-- read_i64
abbrev of_i64 : Bool → State → I64Read → ReadI64
of_i64 m st (h64.Got z q) = as_i64 (answers z (moved_to st q))
of_i64 m st (h64.Refused why) = as_i64 (declines (missing m why) st)

fit_i64 : (m : Bool) (st : State) (x : Found ℤ) → of_i64 m st (to_i64 x) ≡ as_i64 (from stays st (missed m x))
fit_i64 m st (got z e) = refl
fit_i64 m st (refused why) = refl

module _ (s : List ℕ) (st : State) (num : ℕ) (e : num ≡ gate (length s) st) where
  pub i64_stopped : (num ≡ 0 → ⊥) → as_i64 (declines num st) ≡ call.read_i64 s st
  unfolding call.read_i64
  i64_stopped h = stopped cut_of as_i64 (λ st. binary.int64) stays s st num e h

  module _ (h : num ≡ 0) (end : ℕ) (o : end ≡ min (cut_of st) (length s)) (r : I64Read) (f : r ≡ int64_at binary (take end s) st.place.0) where
    i64_is : (x : I64Read) → r ≡ x → of_i64 (ltb end (length s)) st x ≡ call.read_i64 s st
    unfolding call.read_i64 int64_at
    i64_is x g = told cut_of as_i64 (λ st. binary.int64) stays s st num e to_i64 of_i64 fit_i64 h end o r x f g

    pub i64_got : (z : ℤ) (q : Place) → r ≡ h64.Got z q → of_i64 (ltb end (length s)) st (h64.Got z q) ≡ call.read_i64 s st
    i64_got z q g = i64_is (h64.Got z q) g

    pub i64_no : (why n : ℕ) → r ≡ h64.Refused why → n ≡ missing (ltb end (length s)) why → as_i64 (declines n st) ≡ call.read_i64 s st
    i64_no why n g k = ap (λ (i : ℕ). as_i64 (declines i st)) k ∙ i64_is (h64.Refused why) g

pub ruleset i64_cases = (cut_inside, cut_counts, i64_stopped, i64_got, i64_no, to_z-of_z, sfits_of)

-- read_double
abbrev of_double : Bool → State → DoubleRead → ReadDouble
of_double m st (hD.Got n q) = as_double (answers n (moved_to st q))
of_double m st (hD.Refused why) = as_double (declines (missing m why) st)

fit_double : (m : Bool) (st : State) (x : Found ℕ) → of_double m st (to_double x) ≡ as_double (from stays st (missed m x))
fit_double m st (got n e) = refl
fit_double m st (refused why) = refl

module _ (s : List ℕ) (st : State) (num : ℕ) (e : num ≡ gate (length s) st) where
  pub double_stopped : (num ≡ 0 → ⊥) → as_double (declines num st) ≡ call.read_double s st
  unfolding call.read_double
  double_stopped h = stopped cut_of as_double (λ st. binary.double) stays s st num e h

  module _ (h : num ≡ 0) (end : ℕ) (o : end ≡ min (cut_of st) (length s)) (r : DoubleRead) (f : r ≡ double_at binary (take end s) st.place.0) where
    double_is : (x : DoubleRead) → r ≡ x → of_double (ltb end (length s)) st x ≡ call.read_double s st
    unfolding call.read_double double_at
    double_is x g = told cut_of as_double (λ st. binary.double) stays s st num e to_double of_double fit_double h end o r x f g

    pub double_got : (n : ℕ) (q : Place) → r ≡ hD.Got n q → of_double (ltb end (length s)) st (hD.Got n q) ≡ call.read_double s st
    double_got n q g = double_is (hD.Got n q) g

    pub double_no : (why n : ℕ) → r ≡ hD.Refused why → n ≡ missing (ltb end (length s)) why → as_double (declines n st) ≡ call.read_double s st
    double_no why n g k = ap (λ (i : ℕ). as_double (declines i st)) k ∙ double_is (hD.Refused why) g

pub ruleset double_cases = (cut_inside, cut_counts, double_stopped, double_got, double_no, to_z-of_z, sfits_of)

-- read_uuid, read_bytes, read_string: the places
abbrev part_as : State → Place → Place → ReadPart
part_as st a z = record { answer = P.Got a z; state = moved_to st z }

abbrev of_part : Bool → State → PartRead → ReadPart
of_part m st (hP.Got a z) = part_as st a z
of_part m st (hP.Refused why) = as_part (declines (missing m why) st)

fit_part : (m : Bool) (st : State) (x : Found (List ℕ)) → of_part m st (to_part x) ≡ as_part (from stays st (missed m x))
fit_part m st (got bs e) = refl
fit_part m st (refused why) = refl

module _ (s : List ℕ) (st : State) (num : ℕ) (e : num ≡ gate (length s) st) where
  pub uuid_stopped : (num ≡ 0 → ⊥) → as_part (declines num st) ≡ call.read_uuid s st
  unfolding call.read_uuid
  uuid_stopped h = stopped cut_of as_part (λ st. binary.uuid) stays s st num e h

  module _ (h : num ≡ 0) (end : ℕ) (o : end ≡ min (cut_of st) (length s)) (r : PartRead) (f : r ≡ own.uuid_at (take end s) st.place.0) where
    uuid_is : (x : PartRead) → r ≡ x → of_part (ltb end (length s)) st x ≡ call.read_uuid s st
    unfolding call.read_uuid own.uuid_at
    uuid_is x g = told cut_of as_part (λ st. binary.uuid) stays s st num e to_part of_part fit_part h end o r x f g

    pub uuid_got : (a : Place) (z : Place) → r ≡ hP.Got a z → of_part (ltb end (length s)) st (hP.Got a z) ≡ call.read_uuid s st
    uuid_got a z g = uuid_is (hP.Got a z) g

    pub uuid_no : (why n : ℕ) → r ≡ hP.Refused why → n ≡ missing (ltb end (length s)) why → as_part (declines n st) ≡ call.read_uuid s st
    uuid_no why n g k = ap (λ (i : ℕ). as_part (declines i st)) k ∙ uuid_is (hP.Refused why) g

pub ruleset uuid_cases = (cut_inside, cut_counts, uuid_stopped, uuid_got, uuid_no, to_z-of_z, sfits_of)

module _ (s : List ℕ) (st : State) (num : ℕ) (e : num ≡ gate (length s) st) where
  pub bytes_stopped : (num ≡ 0 → ⊥) → as_part (declines num st) ≡ call.read_bytes s st
  unfolding call.read_bytes
  bytes_stopped h = stopped cut_of as_part (λ st. binary.binary st.limits) stays s st num e h

  module _ (h : num ≡ 0) (end : ℕ) (o : end ≡ min (cut_of st) (length s)) (r : PartRead) (f : r ≡ binary_at binary (take end s) st.limits st.place.0) where
    bytes_is : (x : PartRead) → r ≡ x → of_part (ltb end (length s)) st x ≡ call.read_bytes s st
    unfolding call.read_bytes binary_at
    bytes_is x g = told cut_of as_part (λ st. binary.binary st.limits) stays s st num e to_part of_part fit_part h end o r x f g

    pub bytes_got : (a : Place) (z : Place) → r ≡ hP.Got a z → of_part (ltb end (length s)) st (hP.Got a z) ≡ call.read_bytes s st
    bytes_got a z g = bytes_is (hP.Got a z) g

    pub bytes_no : (why n : ℕ) → r ≡ hP.Refused why → n ≡ missing (ltb end (length s)) why → as_part (declines n st) ≡ call.read_bytes s st
    bytes_no why n g k = ap (λ (i : ℕ). as_part (declines i st)) k ∙ bytes_is (hP.Refused why) g

pub ruleset bytes_cases = (cut_inside, cut_counts, bytes_stopped, bytes_got, bytes_no, to_z-of_z, sfits_of)

module _ (s : List ℕ) (st : State) (num : ℕ) (e : num ≡ gate (length s) st) where
  pub string_stopped : (num ≡ 0 → ⊥) → as_part (declines num st) ≡ call.read_string s st
  unfolding call.read_string
  string_stopped h = stopped cut_of as_part (λ st. text st.limits) stays s st num e h

  module _ (h : num ≡ 0) (end : ℕ) (o : end ≡ min (cut_of st) (length s)) (r : PartRead) (f : r ≡ text_at (take end s) st.limits st.place.0) where
    string_is : (x : PartRead) → r ≡ x → of_part (ltb end (length s)) st x ≡ call.read_string s st
    unfolding call.read_string text_at
    string_is x g = told cut_of as_part (λ st. text st.limits) stays s st num e to_part of_part fit_part h end o r x f g

    pub string_got : (a : Place) (z : Place) → r ≡ hP.Got a z → of_part (ltb end (length s)) st (hP.Got a z) ≡ call.read_string s st
    string_got a z g = string_is (hP.Got a z) g

    pub string_no : (why n : ℕ) → r ≡ hP.Refused why → n ≡ missing (ltb end (length s)) why → as_part (declines n st) ≡ call.read_string s st
    string_no why n g k = ap (λ (i : ℕ). as_part (declines i st)) k ∙ string_is (hP.Refused why) g

pub ruleset string_cases = (cut_inside, cut_counts, string_stopped, string_got, string_no, to_z-of_z, sfits_of)

-- read_list_begin
abbrev of_list : Bool → State → ListHead → ReadList
of_list m st (hL.Got t n q) = as_list (answers (t, n) (moved_to st q))
of_list m st (hL.Refused why) = as_list (declines (missing m why) st)

fit_list : (m : Bool) (st : State) (x : Found (TType × ℕ)) → of_list m st (to_list x) ≡ as_list (from stays st (missed m x))
fit_list m st (got a e) = refl
fit_list m st (refused why) = refl

module _ (s : List ℕ) (st : State) (num : ℕ) (e : num ≡ gate (length s) st) where
  pub list_stopped : (num ≡ 0 → ⊥) → as_list (declines num st) ≡ call.read_list s st
  unfolding call.read_list
  list_stopped h = stopped cut_of as_list (λ st. items_head binary st.limits) stays s st num e h

  module _ (h : num ≡ 0) (end : ℕ) (o : end ≡ min (cut_of st) (length s)) (r : ListHead) (f : r ≡ items_head_at binary (take end s) st.limits st.place.0) where
    list_is : (x : ListHead) → r ≡ x → of_list (ltb end (length s)) st x ≡ call.read_list s st
    unfolding call.read_list items_head_at
    list_is x g = told cut_of as_list (λ st. items_head binary st.limits) stays s st num e to_list of_list fit_list h end o r x f g

    pub list_got : (t : TType) (n : ℕ) (q : Place) → r ≡ hL.Got t n q → of_list (ltb end (length s)) st (hL.Got t n q) ≡ call.read_list s st
    list_got t n q g = list_is (hL.Got t n q) g

    pub list_no : (why n : ℕ) → r ≡ hL.Refused why → n ≡ missing (ltb end (length s)) why → as_list (declines n st) ≡ call.read_list s st
    list_no why n g k = ap (λ (i : ℕ). as_list (declines i st)) k ∙ list_is (hL.Refused why) g

pub ruleset list_cases = (cut_inside, cut_counts, list_stopped, list_got, list_no, to_z-of_z, sfits_of)

-- a set's header is a list's
pub set_is : (s : List ℕ) (st : State) (r : ReadList) → r ≡ call.read_list s st → r ≡ call.read_set s st
unfolding call.read_list call.read_set
set_is s st r e = e

-- read_map_begin
abbrev of_map : Bool → State → MapHead → ReadMap
of_map m st (hM.Got k v n q) = as_map (answers (k, v, n) (moved_to st q))
of_map m st (hM.Refused why) = as_map (declines (missing m why) st)

fit_map : (m : Bool) (st : State) (x : Found (TType × TType × ℕ)) → of_map m st (to_map x) ≡ as_map (from stays st (missed m x))
fit_map m st (got a e) = refl
fit_map m st (refused why) = refl

module _ (s : List ℕ) (st : State) (num : ℕ) (e : num ≡ gate (length s) st) where
  pub map_stopped : (num ≡ 0 → ⊥) → as_map (declines num st) ≡ call.read_map s st
  unfolding call.read_map
  map_stopped h = stopped cut_of as_map (λ st. pairs_head binary st.limits) stays s st num e h

  module _ (h : num ≡ 0) (end : ℕ) (o : end ≡ min (cut_of st) (length s)) (r : MapHead) (f : r ≡ pairs_head_at binary (take end s) st.limits st.place.0) where
    map_is : (x : MapHead) → r ≡ x → of_map (ltb end (length s)) st x ≡ call.read_map s st
    unfolding call.read_map pairs_head_at
    map_is x g = told cut_of as_map (λ st. pairs_head binary st.limits) stays s st num e to_map of_map fit_map h end o r x f g

    pub map_got : (k : TType) (v : TType) (n : ℕ) (q : Place) → r ≡ hM.Got k v n q → of_map (ltb end (length s)) st (hM.Got k v n q) ≡ call.read_map s st
    map_got k v n q g = map_is (hM.Got k v n q) g

    pub map_no : (why n : ℕ) → r ≡ hM.Refused why → n ≡ missing (ltb end (length s)) why → as_map (declines n st) ≡ call.read_map s st
    map_no why n g k = ap (λ (i : ℕ). as_map (declines i st)) k ∙ map_is (hM.Refused why) g

pub ruleset map_cases = (cut_inside, cut_counts, map_stopped, map_got, map_no, to_z-of_z, sfits_of)

-- read_field_begin
abbrev field_as : State → TType → FieldId → Place → ReadField
field_as st t id q = record { answer = F.Field t id; state = moved_to st q }

abbrev of_field : Bool → State → FieldHead → ReadField
of_field m st (hF.Stop q) = as_field (answers stop (moved_to st q))
of_field m st (hF.Bool b id q) = as_field (answers (bool b id.0) (moved_to st q))
of_field m st (hF.Value t id q) = as_field (answers (value t id.0) (moved_to st q))
of_field m st (hF.Refused why) = as_field (declines (missing m why) st)

fit_field : (m : Bool) (st : State) (x : Found Field) → of_field m st (to_field x) ≡ as_field (from stays st (missed m x))
fit_field m st (got stop e) = refl
fit_field m st (got (bool b id) e) = refl
fit_field m st (got (value t id) e) = refl
fit_field m st (refused why) = refl

module _ (s : List ℕ) (st : State) (num : ℕ) (e : num ≡ gate (length s) st) where
  pub field_stopped : (num ≡ 0 → ⊥) → as_field (declines num st) ≡ call.read_field s st
  unfolding call.read_field
  field_stopped h = stopped cut_of as_field (λ st. binary.field (pos 0)) stays s st num e h

  module _ (h : num ≡ 0) (end : ℕ) (o : end ≡ min (cut_of st) (length s)) (r : FieldHead) (f : r ≡ field_at binary (take end s) (pos 0) st.place.0) where
    field_is : (x : FieldHead) → r ≡ x → of_field (ltb end (length s)) st x ≡ call.read_field s st
    unfolding call.read_field field_at
    field_is x g = told cut_of as_field (λ st. binary.field (pos 0)) stays s st num e to_field of_field fit_field h end o r x f g

    pub field_stop : (q : Place) → r ≡ hF.Stop q → of_field (ltb end (length s)) st (hF.Stop q) ≡ call.read_field s st
    field_stop q g = field_is (hF.Stop q) g

    pub field_bool : (b : Bool) (id : FieldId) (q : Place) → r ≡ hF.Bool b id q → field_as st T.Bool id q ≡ call.read_field s st
    field_bool b id q g = field_is (hF.Bool b id q) g

    pub field_value : (t : TType) (id : FieldId) (q : Place) → r ≡ hF.Value t id q → field_as st t id q ≡ call.read_field s st
    field_value t id q g = field_is (hF.Value t id q) g

    pub field_no_lem : (why n : ℕ) → r ≡ hF.Refused why → n ≡ missing (ltb end (length s)) why → as_field (declines n st) ≡ call.read_field s st
    field_no_lem why n g k = ap (λ (i : ℕ). as_field (declines i st)) k ∙ field_is (hF.Refused why) g

pub ruleset field_cases = (cut_inside, cut_counts, field_stopped, field_stop, field_bool, field_value, field_no_lem, to_z-of_z, sfits_of)

-- read_message_begin: the places of the name
abbrev of_message : Bool → State → MessageHead → ReadMessage
of_message u st (hH.Got m i a z q) = record { answer = H.Got m i a z; state = moved_to (begun_here st) q }
of_message u st (hH.Refused why) = as_message (declines (missing u why) st)

fit_message : (u : Bool) (st : State) (x : Found Message) → of_message u st (to_message x) ≡ as_message (from begun_here st (missed u x))
fit_message u st (got a e) = refl
fit_message u st (refused why) = refl

module _ (s : List ℕ) (st : State) (num : ℕ) (e : num ≡ gate (length s) st) where
  pub message_stopped : (num ≡ 0 → ⊥) → as_message (declines num st) ≡ call.read_message s st
  unfolding call.read_message
  message_stopped h = stopped cut_here as_message (λ st. binary.message st.limits) begun_here s st num e h

  module _ (h : num ≡ 0) (end : ℕ) (o : end ≡ min (cut_here st) (length s)) (r : MessageHead) (f : r ≡ message_at (take end s) st.limits st.place.0) where
    message_is : (x : MessageHead) → r ≡ x → of_message (ltb end (length s)) st x ≡ call.read_message s st
    unfolding call.read_message message_at
    message_is x g = told cut_here as_message (λ st. binary.message st.limits) begun_here s st num e to_message of_message fit_message h end o r x f g

    pub message_got : (m : TMessageType) (i : SeqNo) (a : Place) (z : Place) (q : Place) → r ≡ hH.Got m i a z q → of_message (ltb end (length s)) st (hH.Got m i a z q) ≡ call.read_message s st
    message_got m i a z q g = message_is (hH.Got m i a z q) g

    pub message_no : (why n : ℕ) → r ≡ hH.Refused why → n ≡ missing (ltb end (length s)) why → as_message (declines n st) ≡ call.read_message s st
    message_no why n g k = ap (λ (i : ℕ). as_message (declines i st)) k ∙ message_is (hH.Refused why) g

pub ruleset message_cases = (cut_inside, cut_counts, message_stopped, message_got, message_no, to_z-of_z, sfits_of)

-- read_struct_begin, read_struct_end
module _ (s : List ℕ) (st : State) (num : ℕ) (e : num ≡ gate (length s) st) where
  pub begin_stopped : (num ≡ 0 → ⊥) → as_done (declines num st) ≡ call.struct_begin s st
  unfolding call.struct_begin begins
  begin_stopped h = rw (← e, ne_eqb num 0 h)

  pub begin_deep : num ≡ 0 → st.limits.depth ≤ st.depth → as_done (declines DEPTH st) ≡ call.struct_begin s st
  unfolding call.struct_begin begins
  begin_deep h d = rw (← e, eq-eqb num 0 h, le-leb _ _ d)

  -- a depth is far from 64 bits
  pub begin_fits : num ≡ 0 → st.depth < st.limits.depth → Fits w64 (st.depth + 1)
  begin_fits h d = record { fits = omega (arith, (ranged st.limits (passes (length s) st num e h).limits).deep) }

  pub begin_well : num ≡ 0 → st.depth < st.limits.depth → as_done (answers tt (entered st)) ≡ call.struct_begin s st
  unfolding call.struct_begin begins
  begin_well h d = rw (← e, eq-eqb num 0 h, lt-leb _ _ d)

  pub end_stopped : (num ≡ 0 → ⊥) → as_done (declines num st) ≡ call.struct_end s st
  unfolding call.struct_end ends
  end_stopped h = rw (← e, ne_eqb num 0 h)

  pub end_top : num ≡ 0 → st.depth ≡ 0 → as_done (declines OUT_OF_TURN st) ≡ call.struct_end s st
  unfolding call.struct_end ends
  end_top h d = rw (← e, eq-eqb num 0 h, eq-eqb _ 0 d)

  pub end_well : num ≡ 0 → (st.depth ≡ 0 → ⊥) → as_done (answers tt (left st)) ≡ call.struct_end s st
  unfolding call.struct_end ends
  end_well h d = rw (← e, eq-eqb num 0 h, ne_eqb _ 0 d)

  -- a sound state's depth is within its limit
  pub within_depth : num ≡ 0 → st.depth ≤ st.limits.depth
  within_depth h = (passes (length s) st num e h).deep

pub ruleset begin_cases = (begin_stopped, begin_deep, begin_fits, begin_well, to_z-of_z, sfits_of)

pub ruleset end_cases = (end_stopped, end_top, end_well, to_z-of_z, sfits_of)
