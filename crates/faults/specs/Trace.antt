-- What the inner functions answer: tracked reading at a place of the input, its value forgotten, and one level inward, as the code finds it. Assumes nothing:
-- these are definitions.
use Rattle.std.specs.Prelude.{ℕ, ◌+◌, ◌-◌, ◌*◌, ◌≤◌, ◌<◌, ◌≡◌, List, [], ◌∷◌, ℤ, length, take, drop}
use Rattle.types.specs.declared.TType.{TType}
use Rattle.types.specs.declared.TConfiguration.{TConfiguration}
use Rattle.faults.specs.Tracked as way
use Rattle.faults.specs.Tracked.{Tried, Tracked, found, broke, reach}
use Rattle.faults.specs.Heads.{items_head, pairs_head, field}
use Rattle.faults.specs.Value.{tracked}
use Rattle.faults.specs.Fault.{numbered}
use Rattle.faults.specs.declared.Step.{Step}
use Rattle.faults.specs.declared.Step.TheVariants as S
use Rattle.faults.specs.declared.Inward.{Inward}
use Rattle.faults.specs.declared.Inward.TheVariants as I
use Rattle.faults.specs.declared.Traced.{Traced}

-- nothing is wrong; or a number, the place behind the last byte read, and the path
pub data Lost : Type 0 where
  fine : Lost
  lost : ℕ → ℕ → List way.Step → Lost

abbrev pub lost_of : {A : Type 0} → ℕ → Tried A → Lost
lost_of at (found a n) = fine
lost_of at (broke why n path) = lost why (at + n) path

unfoldable pub trace : {A : Type 0} → Tracked A → List ℕ → ℕ → Lost
trace p s at = lost_of at (p (drop at s))

abbrev pub within : way.Step → Lost → Lost
within i fine = fine
within i (lost why n path) = lost why n (i ∷ path)

abbrev pub step_of : Step → way.Step
step_of (S.Field id) = way.field id.0
step_of (S.Element i) = way.element i
step_of (S.Key i) = way.key i
step_of (S.Value i) = way.value i

-- what one level inward says of the whole, `room` levels left for a value inside
unfoldable pub inwards : List ℕ → TConfiguration → ℕ → Inward → Lost
inwards s lim room I.Whole = fine
inwards s lim room (I.Own why n) = lost why n []
inwards s lim room (I.Into i kind p) = within (step_of i) (trace (tracked lim room kind) s p.0)

-- the value inside lies in the input
abbrev pub Placed : ℕ → Inward → Type 0
Placed l I.Whole = Unit {0}
Placed l (I.Own why n) = Unit {0}
Placed l (I.Into i kind p) = p.0 ≤ l

-- there was room for it
abbrev pub Roomy : ℕ → Inward → Type 0
Roomy room I.Whole = Unit {0}
Roomy room (I.Own why n) = Unit {0}
Roomy room (I.Into i kind p) = 0 < room

-- one level inward, whole: what it says, and where. `room` levels are left inside
pub record Level (s : List ℕ) (lim : TConfiguration) (room : ℕ) (r : Inward) (y : Lost) : Type 0 where
  pub says : inwards s lim room r ≡ y
  pub placed : Placed (length s) r

-- the same with `room` levels left for the value itself
pub record Deeper (s : List ℕ) (lim : TConfiguration) (room : ℕ) (r : Inward) (y : Lost) : Type 0 where
  pub says : inwards s lim (room - 1) r ≡ y
  pub placed : Placed (length s) r
  pub roomy : Roomy room r

-- the place behind the last byte read, one that was missing counted
unfoldable pub up_to : {A : Type 0} → Tracked A → List ℕ → ℕ → ℕ
up_to p s at = at + reach (p (drop at s))

-- for a header, whatever the last id or the limits are
unfoldable pub HeadReach : List ℕ → ℕ → ℕ → Type 0
HeadReach s at r = (last : ℤ) → r ≡ up_to (field last) s at

unfoldable pub ListReach : List ℕ → ℕ → ℕ → Type 0
ListReach s at r = (lim : TConfiguration) → r ≡ up_to (items_head lim) s at

unfoldable pub MapReach : List ℕ → ℕ → ℕ → Type 0
MapReach s at r = (lim : TConfiguration) → r ≡ up_to (pairs_head lim) s at

-- for a value that holds no other, or has no room, where it is refused
unfoldable pub LeafReach : List ℕ → ℕ → TType → ℕ → Type 0
LeafReach s at kind r = (lim : TConfiguration) (why n : ℕ) (path : List way.Step) → tracked lim 0 kind (drop at s) ≡ broke why n path → r ≡ at + n

-- the whole way, as the code finds it: its rows begin with the path's numbers
pub record Way (r : Traced) (why n : ℕ) (path : List way.Step) : Type 0 where
  pub number : r.number ≡ why
  pub reached : r.reach ≡ n
  pub count : r.count ≡ length path
  pub few : length path ≤ 64
  pub full : length r.rows ≡ 128
  pub rows : take (2 * length path) r.rows ≡ numbered path

unfoldable pub Tells : Traced → Lost → Type 0
Tells r fine = r.number ≡ 0
Tells r (lost why n path) = Way r why n path
