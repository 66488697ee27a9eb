-- The picker gives 19 only where the message's ceiling cuts the input off, and END only where it does not. Assumes nothing.
use mathlib.Core.Path.{◌≡◌, refl, sym, ap, ◌∙◌}
use mathlib.Core.Bool.{Bool, true, false}
use mathlib.Core.List.{List}
use Prim.Native.Nat.{ℕ, ◌*◌, ◌≤◌}
use native.Mathlib.Omega.{arith}
use lib.Dec.{leb, ltb}
use lib.IntN.{ℤ}
use lib.ListN.{length}
use Rattle.types.specs.Refusals.{END, DEPTH, OUT_OF_TURN, NO_ROOM, BAD_STATE, BAD_LIST, MESSAGE_SIZE}
use Rattle.types.specs.declared.TType.TheVariants as T
use Rattle.input.specs.State.{State, cut_of}
use Rattle.input.specs.Answers.{number_done}
use Rattle.input.specs.declared.ReadDone.{ReadDone}
use Rattle.input.proofs.Gate.{Gated, bad, turn, through, gated}
use Rattle.input.proofs.Ceiling.{Ceiling}
use Rattle.skip.specs.Skip.{skip_call}
use Rattle.skip.proofs.Ceiling.{skip_ceiling}
use Rattle.wanted.specs.Wanted.{listed}
use Rattle.picker.specs.Pick.{picks, pick_call}
use Rattle.picker.proofs.Laws.{as_skip_call}

module _ (ids : List ℤ) (kinds : List ℕ) (n : ℕ) (s : List ℕ) (st : State) (m : ℕ) (out : (k : ℕ) → 10 ≤ k → k ≤ 16 → k ≡ m → ⊥) (z : number_done (pick_call ids kinds n s st).answer ≡ m) where
  -- a number that neither the list nor the room gives is the skip's
  as_skip_lem : number_done (skip_call s st T.Struct).answer ≡ m
  unfolding pick_call picks
  as_skip_lem = go (listed ids kinds) refl (leb (3 * length ids) n) refl
    where
      unlisted : listed ids kinds ≡ false → Gated (length s) st → number_done (skip_call s st T.Struct).answer ≡ m
      unlisted l (bad f g) = absurd (out BAD_STATE (omega arith) (omega arith) (rw g at z))
      unlisted l (turn f w g) = absurd (out OUT_OF_TURN (omega arith) (omega arith) (rw g at z))
      unlisted l (through f w g) = absurd (out BAD_LIST (omega arith) (omega arith) (rw (g, l) at z))

      roomless : listed ids kinds ≡ true → leb (3 * length ids) n ≡ false → Gated (length s) st → (d : Bool) → ltb st.depth st.limits.depth ≡ d → number_done (skip_call s st T.Struct).answer ≡ m
      roomless l h (bad f g) d e = absurd (out BAD_STATE (omega arith) (omega arith) (rw g at z))
      roomless l h (turn f w g) d e = absurd (out OUT_OF_TURN (omega arith) (omega arith) (rw g at z))
      roomless l h (through f w g) true e = absurd (out NO_ROOM (omega arith) (omega arith) (rw (g, l, e, h) at z))
      roomless l h (through f w g) false e = absurd (out DEPTH (omega arith) (omega arith) (rw (g, l, e) at z))

      go : (a : Bool) → listed ids kinds ≡ a → (b : Bool) → leb (3 * length ids) n ≡ b → number_done (skip_call s st T.Struct).answer ≡ m
      go true l true h = sym (ap (λ (r : ReadDone). number_done r.answer) (as_skip_call s st ids kinds n l h)) ∙ z
      go true l false h = roomless l h (gated (length s) st) (ltb st.depth st.limits.depth) refl
      go false l b h = unlisted l (gated (length s) st)

pub pick_ceiling : (ids : List ℤ) (kinds : List ℕ) (n : ℕ) → Ceiling cut_of (pick_call ids kinds n) (λ r. number_done r.answer)
pick_ceiling ids kinds n =
    record {
      at_end = λ s st z. (skip_ceiling T.Struct).at_end s st (as_skip_lem ids kinds n s st END (λ k a b e. omega arith) z);
      at_cut = λ s st z. (skip_ceiling T.Struct).at_cut s st (as_skip_lem ids kinds n s st MESSAGE_SIZE (λ k a b e. omega arith) z);
    }
