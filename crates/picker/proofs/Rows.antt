-- Noting the fields one after the other leaves in each row what the definition answers: the last field of the id and type. Assumes nothing.
use mathlib.Core.Path.{◌≡◌, refl, sym, ap, ap₂, ◌∙◌}
use mathlib.Core.Bool.{Bool, true, false, cond, ◌&&◌, ◌||◌}
use mathlib.Core.List.{List, [], ◌∷◌, ◌++◌, append_assoc}
use Prim.Native.Nat.{ℕ, suc, ◌+◌, ◌*◌, ◌≤◌}
use native.Mathlib.Nat.{zero-add, suc-add}
use native.Mathlib.Omega.{arith}
use lib.Dec.{eqb}
use lib.IntN.{ℤ}
use lib.ListN.{length, get_or, set, drop, length-append}
use lib.Seq.{set_at}
use Rattle.types.specs.Codes.{type_code}
use Rattle.types.specs.Value as val
use Rattle.types.specs.Value.{Tree, type_of}
use Rattle.skip.specs.Walk.{Entry}
use Rattle.wanted.specs.Wanted.{same_id}
use Rattle.picker.specs.Pick.{Row, kind_alone, row_of, Own, owned, own_from, Last, none, one, or_else, last_of, occurs, of_id, of_type, answered, answer, rows_of}
use Rattle.picker.specs.Notes.{put_row, note_row, note, note_all, clear}

-- One wanted id: what the fields make of its row.

-- a field noted in a row
abbrev note_one : Bool → Bool → Row → Row → Row
note_one mine same r w = cond mine (cond same r (cond (eqb w.kind 0) (kind_alone 1) w)) w

abbrev entry_one : ℤ → ℕ → Entry Tree → ℕ → Row → Row
entry_one id k f at w = note_one (same_id f.id id) (eqb (type_code (type_of f.what)) k) (row_of f.what (at + f.head) (at + f.head + f.size)) w

unfoldable fold_one : ℤ → ℕ → List (Entry Tree) → ℕ → Row → Row
fold_one id k [] at w = w
fold_one id k (f ∷ fs) at w = fold_one id k fs (at + f.head + f.size) (entry_one id k f at w)

-- what stood there before, and what the fields say
abbrev over : Row → Last → Bool → Row
over w (one f) there = row_of f.what f.start f.end
over w none there = cond (there && eqb w.kind 0) (kind_alone 1) w

-- a value's row is not an empty one
row_some : (v : Tree) (a e : ℕ) → eqb (row_of v a e).kind 0 ≡ false
unfolding row_of
row_some (val.truth true) a e = refl
row_some (val.truth false) a e = refl
row_some (val.i8 z) a e = refl
row_some (val.i16 z) a e = refl
row_some (val.i32 z) a e = refl
row_some (val.i64 z) a e = refl
row_some (val.double n) a e = refl
row_some (val.uuid u) a e = refl
row_some (val.bytes cs) a e = refl
row_some (val.list t ts) a e = refl
row_some (val.set t ts) a e = refl
row_some (val.map k v ps) a e = refl
row_some (val.struct fs) a e = refl

-- one field more
over_one : (w : Row) (f : Own) (mine same : Bool) (later : Last) (there : Bool) → over (note_one mine same (row_of f.what f.start f.end) w) later there ≡ over w (or_else later (cond (mine && same) (one f) none)) (mine || there)
over_one w f mine same (one g) there = refl
over_one w f false same none there = refl
over_one w f true true none there = go there
  where
    go : (b : Bool) → over (row_of f.what f.start f.end) none b ≡ row_of f.what f.start f.end
    go true = rw (row_some f.what f.start f.end)
    go false = refl
over_one w f true false none there = go (eqb w.kind 0) refl there
  where
    go : (z : Bool) → eqb w.kind 0 ≡ z → (b : Bool) → over (cond (eqb w.kind 0) (kind_alone 1) w) none b ≡ cond (eqb w.kind 0) (kind_alone 1) w
    go true e true = rw e
    go true e false = rw e
    go false e true = rw (e, e)
    go false e false = rw e

fold_over : (id : ℤ) (k : ℕ) (fs : List (Entry Tree)) (at : ℕ) (w : Row) → fold_one id k fs at w ≡ over w (last_of (of_type id k) (own_from at fs)) (occurs (of_id id) (own_from at fs))
unfolding fold_one last_of occurs own_from
fold_over id k [] at w = refl
fold_over id k (f ∷ fs) at w =
    fold_over id k fs (at + f.head + f.size) (entry_one id k f at w)
    ∙ over_one w (owned at f) (same_id f.id id) (eqb (type_code (type_of f.what)) k) (last_of (of_type id k) (own_from (at + f.head + f.size) fs)) (occurs (of_id id) (own_from (at + f.head + f.size) fs))

over_nothing : (l : Last) (b : Bool) → over (kind_alone 0) l b ≡ answered l b
over_nothing (one f) b = refl
over_nothing none true = refl
over_nothing none false = refl

fold_answer : (id : ℤ) (k : ℕ) (fs : List (Entry Tree)) (at : ℕ) → fold_one id k fs at (kind_alone 0) ≡ answer id k (own_from at fs)
unfolding answer
fold_answer id k fs at = fold_over id k fs at (kind_alone 0) ∙ over_nothing (last_of (of_type id k) (own_from at fs)) (occurs (of_id id) (own_from at fs))

-- All the wanted ids: rows as they stand in the lent numbers.

abbrev one_row : Row → List ℕ → List ℕ
one_row r rest = r.kind ∷ r.start ∷ r.end ∷ rest

unfoldable flat : List Row → List ℕ
flat [] = []
flat (r ∷ rs) = one_row r (flat rs)

set_behind : (p r : List ℕ) (i a : ℕ) → set (p ++ r) (length p + i) a ≡ p ++ set r i a
set_behind [] r i a = rw zero-add
set_behind (x ∷ p) r i a = rw suc-add (ap (λ (l : List ℕ). x ∷ l) (set_behind p r i a))

get_behind : (p : List ℕ) (x : ℕ) (r : List ℕ) → get_or (p ++ (x ∷ r)) (length p) 0 ≡ x
get_behind [] x r = refl
get_behind (y ∷ p) x r = get_behind p x r

module _ (p rest : List ℕ) (j : ℕ) (h : length p ≡ 3 * j) where
  put_at_lem : (r w : Row) → put_row j r (p ++ one_row w rest) ≡ p ++ one_row r rest
  unfolding put_row
  put_at_lem r w =
      rw (set_at p w.kind (w.start ∷ w.end ∷ rest) r.kind (3 * j) h, ← h, set_behind p (r.kind ∷ w.start ∷ w.end ∷ rest) 1 r.start, set_behind p (r.kind ∷ r.start ∷ w.end ∷ rest) 2 r.end)

  first : (w : Row) → get_or (p ++ one_row w rest) (3 * j) 0 ≡ w.kind
  first w = rw (← h) (get_behind p w.kind (w.start ∷ w.end ∷ rest))

  chosen : (w : Row) (b : Bool) → cond b (put_row j (kind_alone 1) (p ++ one_row w rest)) (p ++ one_row w rest) ≡ p ++ one_row (cond b (kind_alone 1) w) rest
  chosen w true = put_at_lem (kind_alone 1) w
  chosen w false = refl

  note_at : (mine same : Bool) (r w : Row) → note_row mine same r j (p ++ one_row w rest) ≡ p ++ one_row (note_one mine same r w) rest
  unfolding note_row
  note_at false same r w = refl
  note_at true true r w = put_at_lem r w
  note_at true false r w =
      ap (λ (k : ℕ). cond (eqb k 0) (put_row j (kind_alone 1) (p ++ one_row w rest)) (p ++ one_row w rest)) (first w) ∙ chosen w (eqb w.kind 0)

  -- a row more is behind us
  on_row_lem : (r : Row) → p ++ one_row r rest ≡ (p ++ one_row r []) ++ rest
  on_row_lem r = sym (append_assoc p (one_row r []) rest)

  longer : (r : Row) → length (p ++ one_row r []) ≡ 3 * suc j
  longer r = length-append p (one_row r []) ∙ omega arith

-- every row from number j on
unfoldable zip_note : Entry Tree → ℕ → List ℤ → List ℕ → List Row → List Row
zip_note f at [] ks ws = ws
zip_note f at (id ∷ ids) [] ws = ws
zip_note f at (id ∷ ids) (k ∷ ks) [] = []
zip_note f at (id ∷ ids) (k ∷ ks) (w ∷ ws) = entry_one id k f at w ∷ zip_note f at ids ks ws

abbrev note_entry : Entry Tree → ℕ → List ℤ → List ℕ → ℕ → List ℕ → List ℕ
note_entry f at ids ks j rows = note f.id (type_code (type_of f.what)) (row_of f.what (at + f.head) (at + f.head + f.size)) ids ks j rows

note_flat : (f : Entry Tree) (at : ℕ) (ids : List ℤ) (ks : List ℕ) (ws : List Row) (p rest : List ℕ) (j : ℕ) → length p ≡ 3 * j → length ws ≡ length ids → note_entry f at ids ks j (p ++ (flat ws ++ rest)) ≡ p ++ (flat (zip_note f at ids ks ws) ++ rest)
unfolding note zip_note flat
note_flat f at [] ks ws p rest j h l = refl
note_flat f at (id ∷ ids) [] ws p rest j h l = refl
note_flat f at (id ∷ ids) (k ∷ ks) [] p rest j h l = absurd (omega arith)
note_flat f at (id ∷ ids) (k ∷ ks) (w ∷ ws) p rest j h l =
    let w' = entry_one id k f at w in
    ap (note_entry f at ids ks (suc j)) (note_at p (flat ws ++ rest) j h _ _ _ w ∙ on_row_lem p (flat ws ++ rest) j h w')
    ∙ note_flat f at ids ks ws (p ++ one_row w' []) rest (suc j) (longer p (flat ws ++ rest) j h w') (omega arith)
    ∙ sym (on_row_lem p (flat (zip_note f at ids ks ws) ++ rest) j h w')

-- each row by itself
unfoldable zip_fold : List (Entry Tree) → ℕ → List ℤ → List ℕ → List Row → List Row
zip_fold fs at [] ks ws = ws
zip_fold fs at (id ∷ ids) [] ws = ws
zip_fold fs at (id ∷ ids) (k ∷ ks) [] = []
zip_fold fs at (id ∷ ids) (k ∷ ks) (w ∷ ws) = fold_one id k fs at w ∷ zip_fold fs at ids ks ws

zip_none : (at : ℕ) (ids : List ℤ) (ks : List ℕ) (ws : List Row) → zip_fold [] at ids ks ws ≡ ws
unfolding zip_fold fold_one
zip_none at [] ks ws = refl
zip_none at (id ∷ ids) [] ws = refl
zip_none at (id ∷ ids) (k ∷ ks) [] = refl
zip_none at (id ∷ ids) (k ∷ ks) (w ∷ ws) = ap (λ (l : List Row). w ∷ l) (zip_none at ids ks ws)

zip_more : (f : Entry Tree) (fs : List (Entry Tree)) (at : ℕ) (ids : List ℤ) (ks : List ℕ) (ws : List Row) → zip_fold (f ∷ fs) at ids ks ws ≡ zip_fold fs (at + f.head + f.size) ids ks (zip_note f at ids ks ws)
unfolding zip_fold zip_note fold_one
zip_more f fs at [] ks ws = refl
zip_more f fs at (id ∷ ids) [] ws = refl
zip_more f fs at (id ∷ ids) (k ∷ ks) [] = refl
zip_more f fs at (id ∷ ids) (k ∷ ks) (w ∷ ws) = ap (λ (l : List Row). fold_one id k (f ∷ fs) at w ∷ l) (zip_more f fs at ids ks ws)

zip_length : (f : Entry Tree) (at : ℕ) (ids : List ℤ) (ks : List ℕ) (ws : List Row) → length ws ≡ length ids → length (zip_note f at ids ks ws) ≡ length ids
unfolding zip_note
zip_length f at [] ks ws l = l
zip_length f at (id ∷ ids) [] ws l = l
zip_length f at (id ∷ ids) (k ∷ ks) [] l = l
zip_length f at (id ∷ ids) (k ∷ ks) (w ∷ ws) l = omega (arith, zip_length f at ids ks ws (omega arith))

all_flat : (fs : List (Entry Tree)) (at : ℕ) (ids : List ℤ) (ks : List ℕ) (ws : List Row) (rest : List ℕ) → length ws ≡ length ids → note_all ids ks fs at (flat ws ++ rest) ≡ flat (zip_fold fs at ids ks ws) ++ rest
unfolding note_all
all_flat [] at ids ks ws rest l = ap (λ (v : List Row). flat v ++ rest) (sym (zip_none at ids ks ws))
all_flat (f ∷ fs) at ids ks ws rest l =
    ap (note_all ids ks fs (at + f.head + f.size)) (note_flat f at ids ks ws [] rest 0 refl l)
    ∙ all_flat fs (at + f.head + f.size) ids ks (zip_note f at ids ks ws) rest (zip_length f at ids ks ws l)
    ∙ ap (λ (v : List Row). flat v ++ rest) (sym (zip_more f fs at ids ks ws))

-- from empty rows
unfoldable empties : {A : Type 0} → List A → List Row
empties [] = []
empties (x ∷ xs) = kind_alone 0 ∷ empties xs

empties_length : {A : Type 0} (xs : List A) → length (empties xs) ≡ length xs
unfolding empties
empties_length [] = refl
empties_length (x ∷ xs) = omega (arith, empties_length xs)

clear_flat : {A : Type 0} (xs : List A) (p rows : List ℕ) (j : ℕ) → length p ≡ 3 * j → 3 * length xs ≤ length rows → clear (length xs) j (p ++ rows) ≡ p ++ (flat (empties xs) ++ drop (3 * length xs) rows)
unfolding clear empties flat
clear_flat [] p rows j h l = refl
clear_flat (x ∷ xs) p [] j h l = absurd (omega arith)
clear_flat (x ∷ xs) p (a ∷ []) j h l = absurd (omega arith)
clear_flat (x ∷ xs) p (a ∷ b ∷ []) j h l = absurd (omega arith)
clear_flat (x ∷ xs) p (a ∷ b ∷ c ∷ rows) j h l =
    let m : 3 * length (x ∷ xs) ≡ suc (suc (suc (3 * length xs))) = omega arith in
    ap (clear (length xs) (suc j)) (put_at_lem p rows j h (kind_alone 0) (record { kind = a; start = b; end = c }) ∙ on_row_lem p rows j h (kind_alone 0))
    ∙ clear_flat xs (p ++ one_row (kind_alone 0) []) rows (suc j) (longer p rows j h (kind_alone 0)) (omega arith)
    ∙ sym (on_row_lem p (flat (empties xs) ++ drop (3 * length xs) rows) j h (kind_alone 0))
    ∙ sym (ap (λ (n : ℕ). p ++ one_row (kind_alone 0) (flat (empties xs) ++ drop n (a ∷ b ∷ c ∷ rows))) m)

answers_flat : (fs : List (Entry Tree)) (at : ℕ) (ids : List ℤ) (ks : List ℕ) → length ks ≡ length ids → flat (zip_fold fs at ids ks (empties ids)) ≡ rows_of ids ks (own_from at fs)
unfolding zip_fold empties flat rows_of
answers_flat fs at [] ks l = refl
answers_flat fs at (id ∷ ids) [] l = absurd (omega arith)
answers_flat fs at (id ∷ ids) (k ∷ ks) l = ap₂ one_row (fold_answer id k fs at) (answers_flat fs at ids ks (omega arith))

-- the whole: the rows of the wanted ids say the last field of each, and the numbers behind them are as they were
pub noted : (fs : List (Entry Tree)) (at : ℕ) (ids : List ℤ) (ks : List ℕ) (rows : List ℕ) → length ks ≡ length ids → 3 * length ids ≤ length rows → note_all ids ks fs at (clear (length ids) 0 rows) ≡ rows_of ids ks (own_from at fs) ++ drop (3 * length ids) rows
noted fs at ids ks rows l r =
    ap (note_all ids ks fs at) (clear_flat ids [] rows 0 refl r)
    ∙ all_flat fs at ids ks (empties ids) (drop (3 * length ids) rows) (empties_length ids)
    ∙ ap (λ (v : List ℕ). v ++ drop (3 * length ids) rows) (answers_flat fs at ids ks l)
