-- Skip gives 19 only where the message's ceiling cuts the input off, and END only where it does not. Assumes nothing.
use mathlib.Core.Path.{◌≡◌, refl, sym, ap, ◌∙◌}
use mathlib.Core.Bool.{Bool, true, false, cond}
use mathlib.Core.List.{List}
use Prim.Native.Nat.{ℕ, ◌<◌}
use native.Mathlib.Omega.{arith}
use lib.Dec.{eqb}
use lib.ListN.{length}
use Rattle.types.specs.Refusals.{END, OUT_OF_TURN, BAD_STATE, MESSAGE_SIZE}
use Rattle.types.specs.Codes.{type_code}
use Rattle.types.specs.declared.TType.{TType}
use Rattle.types.specs.Value.{Tree}
use Rattle.numbers.specs.Varint.{Found, got, refused}
use Rattle.heads.specs.Reader.{read_to}
use Rattle.input.specs.State.{State, cut_of, sound, with_pending}
use Rattle.input.specs.Outcome.{Outcome, answers, declines}
use Rattle.input.specs.Answers.{number_done}
use Rattle.input.specs.declared.Awaited.{Awaited}
use Rattle.input.specs.declared.Awaited.TheVariants as W
use Rattle.input.proofs.Laws.{number_of}
use Rattle.input.proofs.Each.{num_done}
use Rattle.input.proofs.Ceiling.{Ceiling, missed_end, missed_cut}
use Rattle.skip.specs.Value.{value_of}
use Rattle.skip.specs.Skip.{passed, skip_to, over, room_of, awaited, skips, skip_call}
use Rattle.skip.proofs.Told.{value_told_lem}

-- a number that no check of the state gives comes from the value's bytes
module _ (kind : TType) (s : List ℕ) (st : State) (n : ℕ) (nb : n ≡ BAD_STATE → ⊥) (nt : n ≡ OUT_OF_TURN → ⊥) (h : 0 < n) where
  abbrev found : Found Tree
  found = read_to (value_of st.limits (room_of st) kind) s (cut_of st) st.place.0

  by_bytes : (x : Found Tree) → number_of (over st (passed x)).said ≡ n → x ≡ refused n
  by_bytes (got t e) z = absurd (omega arith)
  by_bytes (refused why) z = ap refused z

  abbrev taken : Bool → Outcome (Unit {0})
  taken b = cond b (answers tt (with_pending st W.Nothing)) (declines OUT_OF_TURN st)

  by_turn : (b : Bool) → number_of (taken b).said ≡ n → found ≡ refused n
  by_turn true z = absurd (omega arith)
  by_turn false z = absurd (nt (sym z))

  by_awaited : (a : Awaited) → number_of (awaited s st kind a).said ≡ n → found ≡ refused n
  unfolding skip_to
  by_awaited W.Nothing z = by_bytes found z
  by_awaited (W.Truth b) z = by_turn (eqb (type_code kind) 1) z

  from_bytes : number_of (skips kind s st).said ≡ n → found ≡ refused n
  unfolding skips
  from_bytes z = go (sound (length s) st) refl
    where
      go : (b : Bool) → sound (length s) st ≡ b → found ≡ refused n
      go true f = by_awaited st.pending.0 (rw f at z)
      go false f = absurd (nb (sym (rw f at z)))

pub skip_ceiling : (kind : TType) → Ceiling cut_of (λ s st. skip_call s st kind) (λ r. number_done r.answer)
unfolding skip_call
skip_ceiling kind =
    record {
      at_end =
          λ s st z. missed_end (value_of st.limits (room_of st) kind) (value_told_lem st.limits (room_of st) kind) s (cut_of st) st.place.0 END
          (from_bytes kind s st END (λ e. omega arith) (λ e. omega arith) (omega arith) (sym (num_done (skips kind s st).said) ∙ z)) refl;
      at_cut =
          λ s st z. missed_cut (value_of st.limits (room_of st) kind) (value_told_lem st.limits (room_of st) kind) s (cut_of st) st.place.0 MESSAGE_SIZE
          (from_bytes kind s st MESSAGE_SIZE (λ e. omega arith) (λ e. omega arith) (omega arith) (sym (num_done (skips kind s st).said) ∙ z)) refl;
    }
