-- The walk over a struct's fields: one definition, for whatever is made of a field's value. Assumes nothing: these are definitions.
use Rattle.std.specs.Prelude.{ℕ, zero, suc, Bool, List, [], ◌∷◌, length, ℤ}
use Rattle.types.specs.Refusals.{END}
use Rattle.types.specs.declared.TType.{TType}
use Rattle.numbers.specs.Varint.{Found, got, refused}
use Rattle.heads.specs.Reader.{Reader, done, refuse, and_then}
use Rattle.heads.specs.Heads.{Field, stop, bool, value, field}

-- a field as the walk finds it: its id, what was made of its value, and how many bytes its header and its value took
pub record Entry (A : Type 0) : Type 0 where
  pub id : ℤ
  pub what : A
  pub head : ℕ
  pub size : ℕ

-- what is read, with how many bytes it took
abbrev pub with_size : {A : Type 0} → Found A → Found (A × ℕ)
with_size (got a n) = got (a, n) n
with_size (refused why) = refused why

unfoldable pub sizing : {A : Type 0} → Reader A → Reader (A × ℕ)
sizing p bs = with_size (p bs)

-- behind a field's header of h bytes: the struct ends; a bool's value stood in the header; any other's stands here. `go` walks on from an id.
abbrev pub behind : {A : Type 0} → (Bool → A) → (TType → Reader A) → (ℤ → Reader (List (Entry A))) → Field → ℕ → Reader (List (Entry A))
behind truth f go stop h = done []
behind truth f go (bool b id) h = and_then (go id) (λ fs. done (record { id = id; what = truth b; head = h; size = 0 } ∷ fs))
behind truth f go (value t id) h =
    and_then (sizing (f t)) (λ v. and_then (go id) (λ fs. done (record { id = id; what = v.0; head = h; size = v.1 } ∷ fs)))

-- at most k fields behind the id `last`, up to the stop
unfoldable pub walk : {A : Type 0} → (Bool → A) → (TType → Reader A) → ℕ → ℤ → Reader (List (Entry A))
walk truth f zero last = refuse END
walk truth f (suc k) last = and_then (sizing (field last)) (λ h. behind truth f (walk truth f k) h.0 h.1)

-- the fields behind the id `last`: no more than there are bytes left, since each has a byte of its own
unfoldable pub fields : {A : Type 0} → (Bool → A) → (TType → Reader A) → ℤ → Reader (List (Entry A))
fields truth f last bs = walk truth f (length bs) last bs
