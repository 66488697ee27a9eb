-- A field's header of one byte, from the byte's row into the state's row and the caller's room. Assumes nothing.
use mathlib.Core.Path.{◌≡◌, refl, sym, ap, ◌∙◌}
use mathlib.Core.Bool.{Bool, true, false}
use mathlib.Core.List.{List}
use Prim.Native.Nat.{ℕ, ◌+◌, ◌*◌, ◌/◌, ◌%◌, ◌≤◌, ◌<◌}
use native.Mathlib.Omega.{arith}
use borrow.Author.Rules.{sfits_of}
use lib.IntN.{ℤ, pos, ◌+ℤ◌}
use lib.ListN.{length, get_or, set}
use lib.Signed.{lt_z}
use mir.Syntax.{w16, w32}
use mir.Val.{SFits, to_z, of_z}
use mir.Facts.{to_z-of_z}
use Rattle.types.specs.Codes.{type_code, truth_code, field_type}
use Rattle.types.specs.declared.FieldType.{FieldType}
use Rattle.types.specs.declared.FieldType.TheVariants as FT
use Rattle.tables.specs.Rows.{field_row, row_type}
use Rattle.puts.proofs.Pieces.{code_below}
use Rattle.heads.specs.Answers.{head_of, head_at}
use Rattle.heads.proofs.Fields as heads
use Rattle.heads.proofs.Fields.{byte_below, row_typed, delta_four, delta_wide, code_sum, id_wide, id_is, id_fits, id_back, sum16}
use Rattle.rows.specs.Row.{turn_of}
use Rattle.tagrumzil.specs.Short.{Entered, ShortRow}

truth_small : (t : Bool) → truth_code t ≤ 2
unfolding truth_code
truth_small true = omega arith
truth_small false = omega arith

-- the row of a bool or of another type holds what is put down
module _ (b n : ℕ) (h : b < 256) (w : n ≡ field_row b) (y : n % 256 ≡ 0 → ⊥) (z : n % 256 ≤ 13) (row : List ℕ) (i : ℤ) (at : ℕ) where
  row_holds : Entered (head_at n i at) row (set (set row 0 at) 1 (turn_of i (n / 65536))) (n % 256) i
  unfolding head_at field_row
  row_holds = go (field_type (b % 16)) refl
    where
      go : (x : FieldType) → field_type (b % 16) ≡ x → Entered (head_of (row_type n) i at) row (set (set row 0 at) 1 (turn_of i (n / 65536))) (n % 256) i
      go FT.Stop e = let m : n ≡ 0 + 256 * (b / 16) = rw e at w in absurd (y (omega arith))
      go (FT.Truth t) e =
          let m : n ≡ 1 + 65536 * truth_code t + 256 * (b / 16) = rw e at w in
          let c : n / 65536 ≡ truth_code t = omega (arith, truth_small t) in
          rw ((row_typed b n h w y z).2 ∙ e) (ap (λ (j : ℕ). set (set row 0 at) 1 (turn_of i j)) c, omega arith, refl)
      go (FT.Kind t) e =
          let m : n ≡ type_code t + 256 * (b / 16) = rw e at w in
          let c : n / 65536 ≡ 0 = omega (arith, code_below t) in
          rw ((row_typed b n h w y z).2 ∙ e) (ap (λ (j : ℕ). set (set row 0 at) 1 (turn_of i j)) c, omega (arith, code_below t), refl)
      go (FT.Refused why) e = let m : n ≡ 15 + 256 * (b / 16) = rw e at w in absurd (omega arith)

third_small : (b n : ℕ) → b < 256 → n ≡ field_row b → n / 65536 < 3
unfolding field_row
third_small b n h w = go (field_type (b % 16)) refl
  where
    go : (x : FieldType) → field_type (b % 16) ≡ x → n / 65536 < 3
    go FT.Stop e = let m : n ≡ 0 + 256 * (b / 16) = rw e at w in omega arith
    go (FT.Truth t) e = let m : n ≡ 1 + 65536 * truth_code t + 256 * (b / 16) = rw e at w in omega (arith, truth_small t)
    go (FT.Kind t) e = let m : n ≡ type_code t + 256 * (b / 16) = rw e at w in omega (arith, code_below t)
    go (FT.Refused why) e = let m : n ≡ 15 + 256 * (b / 16) = rw e at w in omega arith

-- short_row
module _ (s : List ℕ) (last : ℤ) (at : ℕ) where
  pub row_other : ShortRow s last at 15
  row_other =
      record {
        ends = λ z. absurd (omega arith);
        delta = omega arith;
        truth = omega arith;
        fits = λ y z. absurd (omega arith);
        goes = λ y z. absurd (omega arith);
        holds = λ y z row i p. absurd (omega arith);
      }

  module _ (h : at < length s) (n : ℕ) (w : n ≡ field_row (get_or s at 0)) (f : get_or s at 0 < 256) (hd : n / 256 % 256 < 16) where
    pub row_stop : n % 256 ≡ 0 → ShortRow s last at n
    row_stop z =
        record {
          ends = λ x. heads.field_stop s last at h n w f z;
          delta = hd;
          truth = third_small (get_or s at 0) n f w;
          fits = λ y x. absurd (y z);
          goes = λ y x. absurd (y z);
          holds = λ y x row i p. absurd (y z);
        }

    pub row_head : (n % 256 ≡ 0 → ⊥) → (n / 256 % 256 ≡ 0 → ⊥) → SFits w16 last → lt_z (pos 32767) (to_z w32 (of_z w32 (code_sum last (n / 256 % 256)))) ≡ false → ShortRow s last at n
    row_head y d hl t =
        record {
          ends = λ x. absurd (y x);
          delta = hd;
          truth = third_small (get_or s at 0) n f w;
          fits = λ a z. sum16 last (n / 256 % 256) hl hd (rw (id_is last (n / 256 % 256) hl hd) at t);
          goes = λ a z. heads.field_short s last at h n w f y z hl hd d (head_at n (last +ℤ pos (n / 256 % 256)) (at + 1)) (last +ℤ pos (n / 256 % 256)) t refl (sym (id_is last (n / 256 % 256) hl hd));
          holds = λ a z row i p. row_holds (get_or s at 0) n f w y z row i p;
        }

pub ruleset short_rows = (row_other, row_stop, row_head, byte_below, delta_four, delta_wide, id_wide, id_fits, id_back, to_z-of_z, sfits_of)
