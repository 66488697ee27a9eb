-- The fields of a struct that the writer wrote, as the walk over its bytes finds them. Assumes nothing.
use mathlib.Core.Path.{◌≡◌, refl, sym, ap, ap₂, ◌∙◌}
use mathlib.Core.Bool.{Bool}
use mathlib.Core.List.{List, [], ◌∷◌, ◌++◌, append_assoc}
use Prim.Native.Nat.{ℕ, ◌+◌, ◌-◌, ◌≤◌, ◌<◌}
use native.Mathlib.Omega.{arith}
use lib.IntN.{ℤ}
use lib.ListN.{length, drop, length-append}
use lib.Seq.{drop-drop, drop_at}
use mir.Syntax.{w16}
use mir.Val.{SFits}
use Rattle.types.specs.Codes.{type_code, truth_code}
use Rattle.types.specs.declared.TConfiguration.{TConfiguration}
use Rattle.types.specs.Value as val
use Rattle.types.specs.Value.{Tree, Fields, no_fields, type_of, nesting, nesting_fields, Sized, SizedFields, Typed, TypedFields}
use Rattle.types.proofs.Limits.{Ranged}
use Rattle.numbers.specs.Varint.{Found, got, placed}
use Rattle.heads.specs.Reader.{read_at}
use Rattle.heads.specs.Heads.{stop, bool, value, field}
use Rattle.puts.specs.Bytes.{field_bytes}
use Rattle.output.proofs.Fields.{stop_reads, bool_reads, value_reads}
use Rattle.skip.specs.Walk.{Entry, fields}
use Rattle.skip.specs.Value.{value_of}
use Rattle.skip.proofs.Complete.{complete}
use Rattle.picker.proofs.Walk.{walk_stop, walk_bool, walk_value}
use Rattle.laws.specs.Written.{field_code, bytes_of, bytes_of_fields, readable}
use Rattle.laws.proofs.Spelt.{InField, truthful, valued, in_field, spelt}
use Rattle.unknown.specs.Inserted.{value_bytes}

-- a written field's header and value, and how many bytes each took
unfoldable pub entries_of : ℤ → Fields → List (Entry Tree)
entries_of last no_fields = []
entries_of last (val.field id t fs) = record { id = id; what = readable t; head = length (field_bytes last id (field_code t)); size = length (value_bytes t) } ∷ entries_of id fs

-- bytes that stand at a place, and those behind them
pub behind : (s : List ℕ) (p : ℕ) (xs rest : List ℕ) → drop p s ≡ xs ++ rest → drop (p + length xs) s ≡ rest
behind s p xs rest e = sym (drop-drop (length xs) p s) ∙ ap (drop (length xs)) e ∙ drop_at xs rest (length xs) refl

pub reads_at : {A : Type 0} (q : List ℕ → Found A) (s : List ℕ) (p : ℕ) (xs rest : List ℕ) (a : A) → drop p s ≡ xs ++ rest → q (xs ++ rest) ≡ got a (length xs) → read_at q s p ≡ got a (p + length xs)
unfolding read_at
reads_at q s p xs rest a e f = ap (λ (l : List ℕ). placed p (q l)) e ∙ ap (placed p) f

module _ (lim : TConfiguration) (ok : Ranged lim) (s : List ℕ) where
  -- one field, from those behind it
  abbrev entry_of : ℤ → ℤ → Tree → Entry Tree
  entry_of last id t = record { id = id; what = readable t; head = length (field_bytes last id (field_code t)); size = length (value_bytes t) }

  bool_entry : (room : ℕ) (last id : ℤ) (b : Bool) (fs : List (Entry Tree)) (p : ℕ) (rest : List ℕ) (e : ℕ) → SFits w16 id → drop p s ≡ field_bytes last id (truth_code b) ++ rest → read_at (fields val.truth (value_of lim room) id) s (p + length (field_bytes last id (truth_code b)) + 0) ≡ got fs e → read_at (fields val.truth (value_of lim room) last) s p ≡ got (record { id = id; what = val.truth b; head = length (field_bytes last id (truth_code b)); size = 0 } ∷ fs) e
  bool_entry room last id b fs p rest e h d g =
      let lh = length (field_bytes last id (truth_code b)) in
      let hd = reads_at (field last) s p (field_bytes last id (truth_code b)) rest (bool b id) d (bool_reads last id h b rest) in
      let z : p + lh + 0 ≡ p + lh = omega arith in
      let back : p + lh - p ≡ lh = omega arith in
      walk_bool lim room s last p b id (p + lh) fs e hd (sym (ap (read_at (fields val.truth (value_of lim room) id) s) z) ∙ g)
      ∙ ap (λ (n : ℕ). got (record { id = id; what = val.truth b; head = n; size = 0 } ∷ fs) e) back

  value_entry : (room : ℕ) (last id : ℤ) (t : Tree) (fs : List (Entry Tree)) (p : ℕ) (rest : List ℕ) (e : ℕ) → SFits w16 id → 2 < type_code (type_of t) → nesting t ≤ room → Sized lim t → Typed t → drop p s ≡ field_bytes last id (type_code (type_of t)) ++ (bytes_of t ++ rest) → read_at (fields val.truth (value_of lim room) id) s (p + length (field_bytes last id (type_code (type_of t))) + length (bytes_of t)) ≡ got fs e → read_at (fields val.truth (value_of lim room) last) s p ≡ got (record { id = id; what = readable t; head = length (field_bytes last id (type_code (type_of t))); size = length (bytes_of t) } ∷ fs) e
  value_entry room last id t fs p rest e h k n sz y d g =
      let hs = field_bytes last id (type_code (type_of t)) in
      let m = p + length hs in
      let hd = reads_at (field last) s p hs (bytes_of t ++ rest) (value (type_of t) id) d (value_reads last id h (type_of t) k (bytes_of t ++ rest)) in
      let v = reads_at (value_of lim room (type_of t)) s m (bytes_of t) rest (readable t) (behind s p hs (bytes_of t ++ rest) d) (complete (readable t) lim room (type_of t) (bytes_of t) (spelt lim ok t room n sz y) rest) in
      let head : p + length hs - p ≡ length hs = omega arith in
      let size : m + length (bytes_of t) - m ≡ length (bytes_of t) = omega arith in
      walk_value lim room s last p (type_of t) id m (readable t) (m + length (bytes_of t)) fs e hd v g
      ∙ ap₂ (λ (a b : ℕ). got (record { id = id; what = readable t; head = a; size = b } ∷ fs) e) head size

  field_entry : (room : ℕ) (last id : ℤ) (t : Tree) (fs : List (Entry Tree)) (p : ℕ) (rest : List ℕ) (e : ℕ) → SFits w16 id → InField t → nesting t ≤ room → Sized lim t → Typed t → drop p s ≡ field_bytes last id (field_code t) ++ (value_bytes t ++ rest) → read_at (fields val.truth (value_of lim room) id) s (p + length (field_bytes last id (field_code t)) + length (value_bytes t)) ≡ got fs e → read_at (fields val.truth (value_of lim room) last) s p ≡ got (entry_of last id t ∷ fs) e
  unfolding readable
  field_entry room last id t fs p rest e h (truthful b q) n sz y d g = rw q (bool_entry room last id b fs p rest e h (rw q at d) (rw q at g))
  field_entry room last id t fs p rest e h (valued nh c k) n sz y d g = rw (nh, c) (value_entry room last id t fs p rest e h k n sz y (rw (nh, c) at d) (rw (nh, c) at g))

  -- the fields of a struct as they were written
  pub entries_read : (fs : Fields) (room : ℕ) (last : ℤ) (p : ℕ) (rest : List ℕ) → nesting_fields fs ≤ room → SizedFields lim fs → TypedFields fs → drop p s ≡ bytes_of_fields last fs ++ rest → read_at (fields val.truth (value_of lim room) last) s p ≡ got (entries_of last fs) (p + length (bytes_of_fields last fs))
  unfolding entries_of bytes_of_fields nesting_fields SizedFields TypedFields
  entries_read no_fields room last p rest n sz y d = walk_stop lim room s last p (p + 1) (reads_at (field last) s p (0 ∷ []) rest stop d (stop_reads last rest))
  entries_read (val.field id t fs) room last p rest n sz y d =
      let hs = field_bytes last id (field_code t) in
      let vs = value_bytes t in
      let bs = bytes_of_fields id fs in
      let d₁ : drop p s ≡ hs ++ (vs ++ (bs ++ rest)) = d ∙ append_assoc hs (vs ++ bs) rest ∙ ap (λ (l : List ℕ). hs ++ l) (append_assoc vs bs rest) in
      let d₂ : drop (p + length hs + length vs) s ≡ bs ++ rest = behind s (p + length hs) vs (bs ++ rest) (behind s p hs (vs ++ (bs ++ rest)) d₁) in
      let r = entries_read fs room id (p + length hs + length vs) rest (omega arith) sz.1 y.2 d₂ in
      let l : p + length hs + length vs + length bs ≡ p + length (hs ++ (vs ++ bs)) = omega (arith, length-append hs (vs ++ bs), length-append vs bs) in
      field_entry room last id t (entries_of id fs) p (bs ++ rest) (p + length (hs ++ (vs ++ bs))) y.0 (in_field t) (omega arith) sz.0 y.1 d₁ (r ∙ ap (got (entries_of id fs)) l)
