-- Inner vocabulary; no promise cites it. What the inner steps leave in the lent rows: the contracts of the functions behind the call. What these make of a whole struct is proved to be
-- `rows_of`. Assumes nothing: these are definitions.
use Rattle.std.specs.Prelude.{ℕ, zero, suc, ◌+◌, ◌*◌, Bool, cond, List, [], ◌∷◌, eqb, get_or, set, ℤ}
use Rattle.std.specs.Int.Signed.{lt_z}
use Rattle.types.specs.Codes.{type_code}
use Rattle.types.specs.Value.{Tree, type_of}
use Rattle.skip.specs.Walk.{Entry}
use Rattle.wanted.specs.Wanted.{same_id}
use Rattle.picker.specs.Pick.{Row, kind_alone, row_of}

-- the row of number j
unfoldable pub put_row : ℕ → Row → List ℕ → List ℕ
put_row j r rows = set (set (set rows (3 * j) r.kind) (3 * j + 1) r.start) (3 * j + 2) r.end

-- what a field says of the row of number j: nothing where the id is not its own; its row where the type is too; a wrong type where
-- nothing was said before
unfoldable pub note_row : Bool → Bool → Row → ℕ → List ℕ → List ℕ
note_row mine same r j rows =
    cond mine (cond same (put_row j r rows) (cond (eqb (get_or rows (3 * j) 0) 0) (put_row j (kind_alone 1) rows) rows)) rows

-- a field of an id and a type's number, for the wanted ids from number j on
unfoldable pub note : ℤ → ℕ → Row → List ℤ → List ℕ → ℕ → List ℕ → List ℕ
note id code r [] kinds j rows = rows
note id code r (i ∷ ids) [] j rows = rows
note id code r (i ∷ ids) (k ∷ kinds) j rows = note id code r ids kinds (suc j) (note_row (same_id id i) (eqb code k) r j rows)

-- a walk's fields from a place on
unfoldable pub note_all : List ℤ → List ℕ → List (Entry Tree) → ℕ → List ℕ → List ℕ
note_all ids kinds [] at rows = rows
note_all ids kinds (f ∷ fs) at rows =
    note_all ids kinds fs (at + f.head + f.size)
    (note f.id (type_code (type_of f.what)) (row_of f.what (at + f.head) (at + f.head + f.size)) ids kinds 0 rows)

-- n rows from number j on, emptied
unfoldable pub clear : ℕ → ℕ → List ℕ → List ℕ
clear zero j rows = rows
clear (suc n) j rows = clear n (suc j) (put_row j (kind_alone 0) rows)

-- of two ids the lesser, if the first lies past `last`; else the second
abbrev pub nearer_of : ℤ → ℤ → ℤ → ℤ
nearer_of last i n = cond (lt_z last i) (cond (lt_z i n) i n) n

-- the least id past `last` among those of a list and n
unfoldable pub least_past : ℤ → List ℤ → ℤ → ℤ
least_past last [] n = n
least_past last (i ∷ ids) n = least_past last ids (nearer_of last i n)
