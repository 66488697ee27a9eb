-- What the picker answers: for each wanted id the last field of that id and type among those directly in the struct. Assumes nothing: these are
-- definitions.
use Rattle.std.specs.Prelude.{ℕ, ◌+◌, ◌-◌, ◌*◌, Bool, false, cond, ◌&&◌, ◌||◌, List, [], ◌∷◌, ◌++◌, eqb, ltb, leb, length, drop, ℤ, pos}
use Rattle.types.specs.Refusals.{DEPTH, NO_ROOM, BAD_LIST}
use Rattle.types.specs.Codes.{type_code}
use Rattle.types.specs.Value as val
use Rattle.types.specs.Value.{Tree, type_of}
use Rattle.heads.specs.Reader.{read_to}
use Rattle.input.specs.State.{State, cut_of}
use Rattle.input.specs.Outcome.{Said, says, refuses, Outcome, declines, guarded, from, stays}
use Rattle.input.specs.Answers.{as_done}
use Rattle.input.specs.declared.ReadDone.{ReadDone}
use Rattle.skip.specs.Walk.{Entry, fields}
use Rattle.skip.specs.Value.{value_of}
use Rattle.skip.specs.Skip.{room_of}
use Rattle.wanted.specs.Wanted.{same_id, listed}

-- a field directly in the struct: its id, its value, and where the value's bytes start and end
pub record Own : Type 0 where
  pub id : ℤ
  pub what : Tree
  pub start : ℕ
  pub end : ℕ

-- the fields that a walk found from a place on, with the places of their values
abbrev pub owned : ℕ → Entry Tree → Own
owned at f = record { id = f.id; what = f.what; start = at + f.head; end = at + f.head + f.size }

unfoldable pub own_from : ℕ → List (Entry Tree) → List Own
own_from at [] = []
own_from at (f ∷ fs) = owned at f ∷ own_from (at + f.head + f.size) fs

-- "kind, start, end"
pub record Row : Type 0 where
  pub kind : ℕ
  pub start : ℕ
  pub end : ℕ

-- "start and end both 0" for all kinds but 2
abbrev pub kind_alone : ℕ → Row
kind_alone k = record { kind = k; start = 0; end = 0 }

-- "2 here, with the place of the value's bytes; 3 false; 4 true"
unfoldable pub row_of : Tree → ℕ → ℕ → Row
row_of (val.truth b) at e = kind_alone (cond b 4 3)
row_of (val.i8 z) at e = record { kind = 2; start = at; end = e }
row_of (val.i16 z) at e = record { kind = 2; start = at; end = e }
row_of (val.i32 z) at e = record { kind = 2; start = at; end = e }
row_of (val.i64 z) at e = record { kind = 2; start = at; end = e }
row_of (val.double n) at e = record { kind = 2; start = at; end = e }
row_of (val.uuid u) at e = record { kind = 2; start = at; end = e }
row_of (val.bytes cs) at e = record { kind = 2; start = at; end = e }
row_of (val.list t ts) at e = record { kind = 2; start = at; end = e }
row_of (val.set t ts) at e = record { kind = 2; start = at; end = e }
row_of (val.map k v ps) at e = record { kind = 2; start = at; end = e }
row_of (val.struct fs) at e = record { kind = 2; start = at; end = e }

-- the last of some fields that pass a test, if there is one
pub data Last : Type 0 where
  none : Last
  one : Own → Last

abbrev pub or_else : Last → Last → Last
or_else (one f) other = one f
or_else none other = other

unfoldable pub last_of : (Own → Bool) → List Own → Last
last_of test [] = none
last_of test (f ∷ fs) = or_else (last_of test fs) (cond (test f) (one f) none)

unfoldable pub occurs : (Own → Bool) → List Own → Bool
occurs test [] = false
occurs test (f ∷ fs) = test f || occurs test fs

-- a field of an id; one of an id and a type
abbrev pub of_id : ℤ → Own → Bool
of_id id f = same_id f.id id

abbrev pub of_type : ℤ → ℕ → Own → Bool
of_type id kind f = of_id id f && eqb (type_code (type_of f.what)) kind

-- "0 absent; 1 wrong type (the id occurs, never with this type)"; "of them the last of the id and type"
abbrev pub answered : Last → Bool → Row
answered (one f) there = row_of f.what f.start f.end
answered none there = kind_alone (cond there 1 0)

unfoldable pub answer : ℤ → ℕ → List Own → Row
answer id kind fs = answered (last_of (of_type id kind) fs) (occurs (of_id id) fs)

-- "three numbers per id"
unfoldable pub rows_of : List ℤ → List ℕ → List Own → List ℕ
rows_of [] kinds fs = []
rows_of (id ∷ ids) [] fs = []
rows_of (id ∷ ids) (k ∷ kinds) fs = let r = answer id k fs in r.kind ∷ r.start ∷ r.end ∷ rows_of ids kinds fs

-- what the input shows: the fields directly in the struct at the reader's place, and the reader behind it
unfoldable pub on_struct : List ℕ → State → Outcome (List (Entry Tree))
on_struct s st = from stays st (read_to (fields val.truth (value_of st.limits (room_of st - 1)) (pos 0)) s (cut_of st) st.place.0)

-- the call, with room for n numbers lent: "Order: 15; 12; .. 16 .. 10 ..; 14; then what the input shows"
unfoldable pub picks : List ℤ → List ℕ → ℕ → List ℕ → State → Outcome (List (Entry Tree))
picks ids kinds n s st =
    guarded s st
    (cond (listed ids kinds)
    (cond (ltb st.depth st.limits.depth)
    (cond (leb (3 * length ids) n) (on_struct s st) (declines NO_ROOM st))
    (declines DEPTH st))
    (declines BAD_LIST st))

-- the answer says only that it was done: the fields are told by the rows
abbrev pub forgotten : {A : Type 0} → Said A → Said (Unit {0})
forgotten (says a) = says tt
forgotten (refuses why) = refuses why

abbrev pub forgets : {A : Type 0} → Outcome A → Outcome (Unit {0})
forgets o = record { said = forgotten o.said; state = o.state }

unfoldable pub pick_call : List ℤ → List ℕ → ℕ → List ℕ → State → ReadDone
pick_call ids kinds n s st = as_done (forgets (picks ids kinds n s st))

-- "Only the rows of the wanted ids are written", and none on a refusal
abbrev pub written : List ℤ → List ℕ → ℕ → Said (List (Entry Tree)) → List ℕ → List ℕ
written ids kinds at (says fs) rows = rows_of ids kinds (own_from at fs) ++ drop (3 * length ids) rows
written ids kinds at (refuses why) rows = rows

unfoldable pub picked_rows : List ℤ → List ℕ → List ℕ → State → List ℕ → List ℕ
picked_rows ids kinds s st rows = written ids kinds st.place.0 (picks ids kinds (length rows) s st).said rows
