-- What the picker answers for a struct that the writer wrote: by the struct's own fields alone. Assumes nothing.
use mathlib.Core.Path.{◌≡◌, refl, sym, ap, ◌∙◌}
use mathlib.Core.Bool.{Bool}
use mathlib.Core.List.{List, ◌++◌, append_assoc}
use Prim.Native.Nat.{ℕ, ◌+◌}
use lib.Dec.{eqb}
use lib.IntN.{ℤ}
use lib.ListN.{length, take, drop}
use lib.Seq.{slice, take_at}
use Rattle.types.specs.Codes.{type_code}
use Rattle.types.specs.declared.TType.{TType}
use Rattle.types.specs.declared.TType.TheVariants as T
use Rattle.types.specs.Value as val
use Rattle.types.specs.Value.{Tree, Pairs, no_pairs, pair, Fields, no_fields, type_of}
use Rattle.numbers.proofs.Found.{take_drop}
use Rattle.puts.specs.Bytes.{field_bytes}
use Rattle.wanted.specs.Wanted.{same_id}
use Rattle.picker.specs.Pick.{Row, row_of, Own, owned, own_from, Last, last_of, occurs, of_id, of_type, answered, answer}
use Rattle.laws.specs.Written.{field_code, bytes_of_fields, map_of, readable, readable_pairs}
use Rattle.unknown.specs.Inserted.{Told, absent, other, told, last_in, kind_of, value_bytes, bytes_in}
use Rattle.unknown.proofs.Entries.{entries_of, behind}
use Rattle.unknown.proofs.Link.{Link, link_more}

-- what can be read back has the type of what was written
map_type : (k v : TType) (ps : Pairs) → type_of (map_of k v ps) ≡ T.Map
unfolding type_of
map_type k v no_pairs = refl
map_type k v (pair t u ps) = refl

same_type : (t : Tree) → type_of (readable t) ≡ type_of t
unfolding readable type_of
same_type (val.truth b) = refl
same_type (val.i8 z) = refl
same_type (val.i16 z) = refl
same_type (val.i32 z) = refl
same_type (val.i64 z) = refl
same_type (val.double n) = refl
same_type (val.uuid u) = refl
same_type (val.bytes cs) = refl
same_type (val.list t ts) = refl
same_type (val.set t ts) = refl
same_type (val.map k v ps) = map_type k v (readable_pairs ps)
same_type (val.struct fs) = refl

-- a row that says it
pub record Agrees (s : List ℕ) (row : Row) (x : Told) : Type 0 where
  pub kind : row.kind ≡ kind_of x
  pub bytes : slice row.start row.end s ≡ bytes_in x

map_row : (k v : TType) (ps : Pairs) (a e : ℕ) → row_of (map_of k v ps) a e ≡ record { kind = 2; start = a; end = e }
unfolding row_of
map_row k v no_pairs a e = refl
map_row k v (pair t u ps) a e = refl

row_agrees : (s : List ℕ) (t : Tree) (a e : ℕ) → slice a e s ≡ value_bytes t → Agrees s (row_of (readable t) a e) (told t)
unfolding readable row_of
row_agrees s (val.truth b) a e h = record { kind = refl; bytes = refl }
row_agrees s (val.i8 z) a e h = record { kind = refl; bytes = h }
row_agrees s (val.i16 z) a e h = record { kind = refl; bytes = h }
row_agrees s (val.i32 z) a e h = record { kind = refl; bytes = h }
row_agrees s (val.i64 z) a e h = record { kind = refl; bytes = h }
row_agrees s (val.double n) a e h = record { kind = refl; bytes = h }
row_agrees s (val.uuid u) a e h = record { kind = refl; bytes = h }
row_agrees s (val.bytes cs) a e h = record { kind = refl; bytes = h }
row_agrees s (val.list t ts) a e h = record { kind = refl; bytes = h }
row_agrees s (val.set t ts) a e h = record { kind = refl; bytes = h }
row_agrees s (val.map k v ps) a e h = rw (map_row k v (readable_pairs ps) a e) (record { kind = refl; bytes = h })
row_agrees s (val.struct fs) a e h = record { kind = refl; bytes = h }

-- a field as it was written
pub record Stood (s : List ℕ) (o : Own) (t : Tree) : Type 0 where
  pub is : o.what ≡ readable t
  pub at : slice o.start o.end s ≡ value_bytes t

module _ (s : List ℕ) (id : ℤ) (k : ℕ) where
  linked_agrees : (x : Told) (l : Last) (b : Bool) → Link (Stood s) l b x → Agrees s (answered l b) x
  unfolding Link
  linked_agrees absent l b h = rw (h.0, h.1) (record { kind = refl; bytes = refl })
  linked_agrees other l b h = rw (h.0, h.1) (record { kind = refl; bytes = refl })
  linked_agrees (told t) l b h = rw (h.1, h.2.is) (row_agrees s t h.0.start h.0.end h.2.at)

  abbrev own : ℤ → ℕ → Fields → List Own
  own last p fs = own_from p (entries_of last fs)

  link_all : (fs : Fields) (last : ℤ) (p : ℕ) (rest : List ℕ) → drop p s ≡ bytes_of_fields last fs ++ rest → Link (Stood s) (last_of (of_type id k) (own last p fs)) (occurs (of_id id) (own last p fs)) (last_in id k fs)
  unfolding Link entries_of own_from last_of occurs last_in bytes_of_fields
  link_all no_fields last p rest d = (refl, refl)
  link_all (val.field i t fs) last p rest d =
      let hs = field_bytes last i (field_code t) in
      let vs = value_bytes t in
      let bs = bytes_of_fields i fs in
      let d₁ : drop p s ≡ hs ++ (vs ++ (bs ++ rest)) = d ∙ append_assoc hs (vs ++ bs) rest ∙ ap (λ (l : List ℕ). hs ++ l) (append_assoc vs bs rest) in
      let d₂ : drop (p + length hs) s ≡ vs ++ (bs ++ rest) = behind s p hs (vs ++ (bs ++ rest)) d₁ in
      let d₃ : drop (p + length hs + length vs) s ≡ bs ++ rest = behind s (p + length hs) vs (bs ++ rest) d₂ in
      let at : slice (p + length hs) (p + length hs + length vs) s ≡ vs = sym (take_drop (p + length hs) (length vs) s) ∙ ap (take (length vs)) d₂ ∙ take_at vs (bs ++ rest) (length vs) refl in
      rw (same_type t)
      (link_more (Stood s) (last_in id k fs) _ _ (same_id i id) (eqb (type_code (type_of t)) k) (owned p (record { id = i; what = readable t; head = length hs; size = length vs })) t (link_all fs i (p + length hs + length vs) rest d₃) (record { is = refl; at = at }))

  -- the row of a wanted id and type: the kind and the value's bytes of the last field of them
  pub told_by : (fs : Fields) (last : ℤ) (p : ℕ) (rest : List ℕ) → drop p s ≡ bytes_of_fields last fs ++ rest → Agrees s (answer id k (own_from p (entries_of last fs))) (last_in id k fs)
  unfolding answer
  told_by fs last p rest d = linked_agrees (last_in id k fs) _ _ (link_all fs last p rest d)
