-- The list of wanted ids with their types, and when it is refused. Assumes nothing: these are definitions.
use Rattle.std.specs.Prelude.{ℕ, Bool, true, false, not, ◌&&◌, ◌||◌, List, [], ◌∷◌, eqb, leb, ltb, length, ℤ, pos, negsuc}
use Rattle.types.specs.Codes.{type_code, type_by_number}
use Rattle.types.specs.declared.TypeRead.{TypeRead}
use Rattle.types.specs.declared.TypeRead.TheVariants as R

unfoldable pub same_id : ℤ → ℤ → Bool
same_id (pos a) (pos b) = eqb a b
same_id (pos a) (negsuc b) = false
same_id (negsuc a) (pos b) = false
same_id (negsuc a) (negsuc b) = eqb a b

-- an id among others
unfoldable pub among : ℤ → List ℤ → Bool
among id [] = false
among id (i ∷ ids) = same_id id i || among id ids

-- "an id twice"
unfoldable pub distinct : List ℤ → Bool
distinct [] = true
distinct (id ∷ ids) = not (among id ids) && distinct ids

-- "a type that no field can have": Stop, and what has no type by number
abbrev pub fielded : TypeRead → Bool
fielded (R.Got t) = ltb 0 (type_code t)
fielded (R.Refused why) = false

unfoldable pub wantable : ℕ → Bool
wantable k = fielded (type_by_number k)

unfoldable pub wantables : List ℕ → Bool
wantables [] = true
wantables (k ∷ ks) = wantable k && wantables ks

-- "BAD LIST: wanted ids and types differ in number, over 64 entries, an id twice, or a type that no field can have"
unfoldable pub listed : List ℤ → List ℕ → Bool
listed ids kinds = eqb (length ids) (length kinds) && leb (length ids) 64 && distinct ids && wantables kinds
