-- What a row of calls keeps of a state, a writer's or a reader's: one law for both. Assumes nothing.
use mathlib.Core.Path.{◌≡◌, ap, ap₂, ◌∙◌}
use mathlib.Core.List.{List}
use Prim.Native.Nat.{ℕ, ◌+◌, ◌-◌, ◌<◌}
use native.Mathlib.Omega.{arith}
use lib.ListN.{length, get_or, set, length-set}
use lib.Seq.{get_or-set_same, get_or-set_other}
use lib.IntN.{ℤ, pos}
use Rattle.types.specs.declared.TConfiguration.{TConfiguration}

-- what both have: a place, the beginning of the message, a depth, limits and the ids that were saved
pub record Stand : Type 0 where
  pub at : ℕ
  pub begin : ℕ
  pub depth : ℕ
  pub limits : TConfiguration
  pub ids : List ℤ

-- n bytes on, in the same message, with the same depth, limits and ids below the depth
pub record Kept (a b : Stand) (n : ℕ) : Type 0 where
  pub there : b.at ≡ a.at + n
  pub begins : b.begin ≡ a.begin
  pub deep : b.depth ≡ a.depth
  pub lims : b.limits ≡ a.limits
  pub long : length b.ids ≡ length a.ids
  pub below : (i : ℕ) → i < a.depth → get_or b.ids i (pos 0) ≡ get_or a.ids i (pos 0)

-- the place where the message must have ended
abbrev pub cut : Stand → ℕ
cut a = a.begin + a.limits.message

pub kept_cut : (a b : Stand) (n : ℕ) → Kept a b n → cut b ≡ cut a
kept_cut a b n k = ap₂ ◌+◌ k.begins (ap (λ (x : TConfiguration). x.message) k.lims)

-- one row behind another
pub kept_then : (a b c : Stand) (n m : ℕ) → Kept a b n → Kept b c m → Kept a c (n + m)
kept_then a b c n m f g =
    record {
      there = omega (arith, f.there, g.there);
      begins = g.begins ∙ f.begins;
      deep = g.deep ∙ f.deep;
      lims = g.lims ∙ f.lims;
      long = g.long ∙ f.long;
      below = λ i h. g.below i (omega (arith, f.deep)) ∙ f.below i h;
    }

-- a struct: begun, which saves the id, and ended, n bytes on
module _ (a b : Stand) (id : ℤ) (n : ℕ) (l : a.depth < length a.ids) where
  abbrev pub begun : Stand
  begun = record { at = a.at; begin = a.begin; depth = a.depth + 1; limits = a.limits; ids = set a.ids a.depth id }

  abbrev pub ended : Stand
  ended = record { at = b.at; begin = b.begin; depth = b.depth - 1; limits = b.limits; ids = b.ids }

  module _ (k : Kept begun b n) where
    pub up_again : b.depth - 1 ≡ a.depth
    up_again = omega (arith, k.deep)

    -- the id that was saved
    pub saved : get_or b.ids (b.depth - 1) (pos 0) ≡ id
    saved =
        ap (λ (i : ℕ). get_or b.ids i (pos 0)) up_again ∙ k.below a.depth (omega arith) ∙ get_or-set_same a.ids a.depth id (pos 0) l

    pub struct_kept : Kept a ended n
    struct_kept =
        record {
          there = k.there;
          begins = k.begins;
          deep = up_again;
          lims = k.lims;
          long = k.long ∙ length-set a.ids a.depth id;
          below = λ i h. k.below i (omega arith) ∙ get_or-set_other a.ids a.depth i id (pos 0) (λ e. omega arith);
        }
