-- What the reader's calls owe, of all of them at once. Assumes nothing.
use mathlib.Core.Path.{◌≡◌, refl, ap}
use mathlib.Core.Bool.{Bool, true, false, cond, ◌||◌}
use mathlib.Core.List.{List, [], ◌∷◌}
use Prim.Native.Nat.{ℕ}
use native.Mathlib.Omega.{arith}
use borrow.Author.Tests.{ltb-true, ltb-false, le-leb, le-ltb}
use lib.Dec.{eqb, leb, ltb}
use lib.ListN.{length}
use Rattle.types.specs.Refusals.{OUT_OF_TURN, NO_ROOM, BAD_STATE, BAD_LIST, RANGE, MESSAGE_SIZE}
use Rattle.input.specs.State.{State, sound}
use Rattle.input.specs.Answers.{number_bool, number_i8, number_i16, number_i32, number_i64, number_double, number_part, number_list, number_map, number_field, number_message, number_done}
use Rattle.input.specs.Calls.{read_bool, read_i8, read_i16, read_i32, read_i64, read_double, read_uuid, read_bytes, read_string, read_list, read_set, read_map, read_field, read_message, struct_begin, struct_end}
use Rattle.input.proofs.Refusals.{can_give}
use Rattle.input.proofs.Laws.{CallLaws}
use Rattle.input.proofs.Each as each
use Rattle.skip.specs.Skip.{skip_call}
use Rattle.skip.proofs.Laws.{skip_laws}
use Rattle.picker.specs.Pick.{pick_call}
use Rattle.picker.proofs.Laws.{pick_laws}
use Rattle.promises.specs.Reads.{Plain, Header, Read, ended, plainly, headed, reads, late, far, reads_all, i8, i16, i32, i64, double, uuid, bytes, string, field, message, begin, list, set, map, plain, header, bool, end, skip, pick}
use Rattle.promises.specs.Promises.{reader_gives}

abbrev Laws : Read → Type 0
Laws c = CallLaws (λ s t. far c s t) (λ s st. reads c s st) (λ r. r.number) (λ r. r.state) (λ st. late c st)

-- the same laws for a call's number and state alone
module _ {R : Type 0} (fars : List ℕ → List ℕ → Type 0) (call : List ℕ → State → R) (number : R → ℕ) (state : R → State) (lates : State → Bool) (l : CallLaws fars call number state lates) where
  alone : CallLaws fars (λ s st. ended (number (call s st)) (state (call s st))) (λ r. r.number) (λ r. r.state) lates
  alone =
      record {
        kept = l.kept;
        behind = λ s t st h q u. ap (λ (r : R). ended (number r) (state r)) (l.behind s t st h q u);
        onward = l.onward;
        inside = l.inside;
        still_sound = l.still_sound;
        bad_state_lem = l.bad_state_lem;
        state_bad = l.state_bad;
        out_of_turn = l.out_of_turn;
        turn_out = l.turn_out;
        which = l.which;
      }

plain_laws : (c : Plain) → Laws (plain c)
unfolding reads plainly late far
plain_laws i8 = alone _ read_i8 (λ r. number_i8 r.answer) (λ r. r.state) _ each.i8_laws
plain_laws i16 = alone _ read_i16 (λ r. number_i16 r.answer) (λ r. r.state) _ each.i16_laws
plain_laws i32 = alone _ read_i32 (λ r. number_i32 r.answer) (λ r. r.state) _ each.i32_laws
plain_laws i64 = alone _ read_i64 (λ r. number_i64 r.answer) (λ r. r.state) _ each.i64_laws
plain_laws double = alone _ read_double (λ r. number_double r.answer) (λ r. r.state) _ each.double_laws
plain_laws uuid = alone _ read_uuid (λ r. number_part r.answer) (λ r. r.state) _ each.uuid_laws
plain_laws bytes = alone _ read_bytes (λ r. number_part r.answer) (λ r. r.state) _ each.bytes_laws
plain_laws string = alone _ read_string (λ r. number_part r.answer) (λ r. r.state) _ each.string_laws
plain_laws field = alone _ read_field (λ r. number_field r.answer) (λ r. r.state) _ each.field_laws
plain_laws message = alone _ read_message (λ r. number_message r.answer) (λ r. r.state) _ each.message_laws
plain_laws begin = alone _ struct_begin (λ r. number_done r.answer) (λ r. r.state) _ each.begin_laws

header_laws : (c : Header) → Laws (header c)
unfolding reads headed late far
header_laws list = alone _ read_list (λ r. number_list r.answer) (λ r. r.state) _ each.list_laws
header_laws set = alone _ read_set (λ r. number_list r.answer) (λ r. r.state) _ each.set_laws
header_laws map = alone _ read_map (λ r. number_map r.answer) (λ r. r.state) _ each.map_laws

pub laws : (c : Read) → Laws c
unfolding reads late far
laws (plain c) = plain_laws c
laws (header c) = header_laws c
laws bool = alone _ read_bool (λ r. number_bool r.answer) (λ r. r.state) _ each.bool_laws
laws end = alone _ struct_end (λ r. number_done r.answer) (λ r. r.state) _ each.end_laws
laws (skip t) = alone _ (λ s st. skip_call s st t) (λ r. number_done r.answer) (λ r. r.state) _ (skip_laws t)
laws (pick ids kinds n) = alone _ (pick_call ids kinds n) (λ r. number_done r.answer) (λ r. r.state) _ (pick_laws ids kinds n)

-- a row of calls
pub all_sound : (cs : List Read) (s : List ℕ) (st : State) → sound (length s) st ≡ true → sound (length s) (reads_all cs s st) ≡ true
unfolding reads_all
all_sound [] s st h = h
all_sound (c ∷ cs) s st h = all_sound cs s (reads c s st).state ((laws c).still_sound s st h)

-- which numbers
one_more : (a b c d e x : Bool) → (a || (b || (c || (d || e)))) ≡ true → (a || (b || (c || (d || (e || x))))) ≡ true
one_more true b c d e x h = refl
one_more false true c d e x h = refl
one_more false false true d e x h = refl
one_more false false false true e x h = refl
one_more false false false false true x h = refl
one_more false false false false false x h = let z : ◌≡◌ {A = ℕ} 0 1 = cc in absurd (omega arith)

the_last : (a b c d e : Bool) → (a || (b || (c || (d || (e || true))))) ≡ true
the_last true b c d e = refl
the_last false true c d e = refl
the_last false false true d e = refl
the_last false false false true e = refl
the_last false false false false true = refl
the_last false false false false false = refl

pub gives : (n : ℕ) → can_give n ≡ true → reader_gives n ≡ true
gives n h = go (ltb n 13) refl h
  where
    go : (b : Bool) → ltb n 13 ≡ b → (b || (eqb n BAD_STATE || cond (ltb n OUT_OF_TURN) (ltb 0 n) (eqb n NO_ROOM || (eqb n BAD_LIST || (eqb n RANGE || eqb n MESSAGE_SIZE))))) ≡ true → reader_gives n ≡ true
    go true e k = rw (le-leb n 12 (omega (arith, ltb-true n 13 e))) (the_last (eqb n BAD_STATE) (eqb n NO_ROOM) (eqb n BAD_LIST) (eqb n RANGE) (eqb n MESSAGE_SIZE))
    go false e k =
        one_more (eqb n BAD_STATE) (eqb n NO_ROOM) (eqb n BAD_LIST) (eqb n RANGE) (eqb n MESSAGE_SIZE) (leb n 12)
        (rw (le-ltb n OUT_OF_TURN (omega (arith, ltb-false n 13 e))) at k)
