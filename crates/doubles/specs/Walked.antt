-- Inner vocabulary, for the contracts of the walk; no promise cites it. What a walk leaves: the counts, and in a lent row an answer a double, as many as it holds.
-- Assumes nothing: these are definitions.
use Rattle.std.specs.Prelude.{◌≡◌, ℕ, ◌+◌, ◌%◌, ◌^◌, ◌≤◌, Bool, true, false, ◌&&◌, List, [], ◌∷◌, ◌++◌, ℤ, slice_set}
use Rattle.types.specs.declared.TType.{TType}
use Rattle.types.specs.declared.TType.TheVariants as T
use Rattle.types.specs.declared.TConfiguration.{TConfiguration}
use Rattle.types.specs.Value as val
use Rattle.types.specs.Value.{Tree}
use Rattle.numbers.specs.Varint.{Found, got, refused}
use Rattle.heads.specs.Reader.{Reader, done, and_then, read_at}
use Rattle.heads.specs.Heads.{double}
use Rattle.skip.specs.Walk.{Entry, fields}
use Rattle.skip.specs.Value.{value_of}
use Rattle.skip.specs.declared.Skipped.{Skipped}
use Rattle.skip.specs.declared.Skipped.TheVariants as S
use Rattle.single.specs.Held.{held}
use Rattle.single.specs.Counts.{counted}
use Rattle.single.specs.declared.Single.{Single}
use Rattle.single.specs.declared.Single.TheVariants.{Yes, No, NotANumber}
use Rattle.single.specs.declared.Counts.{Counts}
use Rattle.doubles.specs.Doubles.{doubles_of}
use Rattle.doubles.specs.declared.Walked.{Walked}
use Rattle.doubles.specs.declared.Walked.TheVariants.{Done, Refused}

-- an answer by number, in the order of the counts
abbrev pub code : Single → ℕ
code Yes = 0
code No = 1
code NotANumber = 2

-- how many were counted so far, in 64 bits
abbrev pub total : Counts → ℕ
total c = ((c.yes + c.no) % 2 ^ 64 + c.nan) % 2 ^ 64

-- the counts so far, and the row
abbrev pub Sheet : Type 0
Sheet = Counts × List ℕ

-- one double more: its answer goes to the row at the number of those before it, if the row has that place
unfoldable pub jotted : Sheet → ℕ → Sheet
jotted x n = (counted x.0 n, slice_set x.1 (total x.0) (code (held n)))

unfoldable pub jot_all : List ℕ → Sheet → Sheet
jot_all [] x = x
jot_all (n ∷ ns) x = jot_all ns (jotted x n)

-- types whose values hold no double
abbrev pub bare : TType → Bool
bare T.Stop = true
bare T.Bool = true
bare T.I08 = true
bare T.I16 = true
bare T.I32 = true
bare T.I64 = true
bare T.Double = false
bare T.String = true
bare T.List = false
bare T.Set = false
bare T.Map = false
bare T.Struct = false
bare T.Uuid = true

abbrev pub bare_both : TType → TType → Bool
bare_both k v = bare k && bare v

abbrev pub is_double : TType → Bool
is_double T.Stop = false
is_double T.Bool = false
is_double T.I08 = false
is_double T.I16 = false
is_double T.I32 = false
is_double T.I64 = false
is_double T.Double = true
is_double T.String = false
is_double T.List = false
is_double T.Set = false
is_double T.Map = false
is_double T.Struct = false
is_double T.Uuid = false

-- a double as a value
abbrev pub double_tree : Reader Tree
double_tree = and_then double (λ n. done (val.double n))

-- a key, and its value behind it
unfoldable pub pair_of : Reader Tree → Reader Tree → Reader (Tree × Tree)
pair_of u v = and_then u (λ k. and_then v (λ w. done (k, w)))

abbrev pub doubles_pair : Tree × Tree → List ℕ
doubles_pair e = doubles_of e.0 ++ doubles_of e.1

-- what skip passes over counts for nothing
abbrev pub passed_by : Counts → Skipped → Walked
passed_by c (S.Done e) = Done e c
passed_by c (S.Refused why) = Refused why

-- the doubles of fields as a walk over a struct found them
unfoldable pub doubles_in : List (Entry Tree) → List ℕ
doubles_in [] = []
doubles_in (f ∷ fs) = doubles_of f.what ++ doubles_in fs

-- A walk's answer and the row that it leaves, by what a reader finds at its place, whose doubles `of` has: the place behind it, with all its doubles jotted; or the
-- reader's refusal, whatever the row has got by then.
unfoldable pub Walks : {A : Type 0} → (A → List ℕ) → Found A → Sheet → Walked → List ℕ → Type 0
Walks {A} of f x (Done e c) row = (a : A) × (f ≡ got a e.0) × ((c, row) ≡ jot_all (of a) x)
Walks of f x (Refused why) row = f ≡ refused why

-- whatever the walk of the fields from one place and last id on leaves, the walk from another leaves, which lies no later
pub record Further (s : List ℕ) (at : ℕ) (last : ℤ) (x : Sheet) (p : ℕ) (id : ℤ) (y : Sheet) : Type 0 where
  pub later : at ≤ p
  pub on : (lim : TConfiguration) (room : ℕ) (r : Walked) (row : List ℕ) → Walks doubles_in (read_at (fields val.truth (value_of lim room) id) s p) y r row → Walks doubles_in (read_at (fields val.truth (value_of lim room) last) s at) x r row
