-- A function's locals in a walk. Assumes nothing.
use Prim.Native.Nat.{ℕ}
use mathlib.Core.List.{List, [], ◌∷◌}
use mathlib.Core.Option.{Option, some, none}
use seplogic.Ra.Ura.{Ura}
use mir.Syntax.{Ty}
use mir.Val.{Val}
use base.Fraction.{full_share}
use base.Fml.{fat, froom, fdies}
use prog.Wp.{Env}
use types.Logic.{Logic}
use types.Kit.{Item, ‵}

-- the first at the back: each holds a value or is room, as those past the end of the list are, and dies at the end
module _ {M : Type 1} {𝓤 : Ura M} (𝓛 : Logic 𝓤) where
  open 𝓛 use {H}

  abbrev pub one : Ty → ℕ → Option Val → Item 𝓤
  one τ l (some w) = ‵ (fat full_share τ l 0 w)
  one τ l none = ‵ (froom τ l 0)

  abbrev pub laid : Env 𝓤 H → List (Option Val) → List (Item 𝓤) → List (Item 𝓤)
  laid [] cs Γ = Γ
  laid ((τ, l) ∷ E) [] Γ = laid E [] (‵ (froom τ l 0) ∷ ‵ (fdies τ l) ∷ Γ)
  laid ((τ, l) ∷ E) (c ∷ cs) Γ = laid E cs (one τ l c ∷ ‵ (fdies τ l) ∷ Γ)
