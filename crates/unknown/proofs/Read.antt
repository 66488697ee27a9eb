-- The picker agrees with reading the struct field by field through the reader's calls and keeping the last of each id and type. Assumes nothing.
use mathlib.Core.Path.{◌≡◌, refl, sym, ap, subst, ◌∙◌}
use mathlib.Core.Logic.{◌⊎◌}
use mathlib.Core.Bool.{Bool}
use mathlib.Core.List.{List, [], ◌∷◌}
use Prim.Native.Nat.{ℕ, ◌+◌, ◌-◌}
use native.Mathlib.Omega.{arith}
use lib.Dec.{eqb}
use lib.IntN.{ℤ, pos}
use lib.ListN.{length}
use Rattle.types.specs.Codes.{type_code}
use Rattle.types.specs.declared.TType.TheVariants as T
use Rattle.types.specs.declared.TConfiguration.{TConfiguration}
use Rattle.types.specs.Value as val
use Rattle.types.specs.Value.{Tree, Fields, type_of}
use Rattle.numbers.specs.Varint.{got}
use Rattle.heads.specs.Reader.{read_at}
use Rattle.input.specs.State.{State}
use Rattle.skip.specs.Walk.{Entry}
use Rattle.skip.specs.Value.{fields_of, value_of}
use Rattle.skip.specs.Skip.{room_of}
use Rattle.skip.proofs.Theorems.{was_spelt}
use Rattle.wanted.specs.Wanted.{same_id}
use Rattle.picker.specs.Pick.{Row, kind_alone, row_of, Own, owned, own_from, Last, last_of, occurs, of_id, of_type, answered, answer}
use Rattle.picker.proofs.Went.{Went, went_inside, went_read, Stands, AllStand, all_stand}
use Rattle.laws.specs.Text.{Plan, Texts}
use Rattle.laws.specs.Reading.{read_of}
use Rattle.laws.proofs.Reading.{Gave}
use Rattle.laws.proofs.Formed.{formed_read}
use Rattle.unknown.specs.Inserted.{Told, absent, other, told, last_in}
use Rattle.unknown.proofs.Link.{Link, link_more}
use Rattle.skip.proofs.Call.{nothing_waits}

-- a row beside a value that was read: it is the value's row, and a value that is no bool stands at its place
pub record Points (lim : TConfiguration) (room : ℕ) (s : List ℕ) (row : Row) (t : Tree) : Type 0 where
  pub start : ℕ
  pub end : ℕ
  pub row_is : row ≡ row_of t start end
  pub value : ((b : Bool) × (t ≡ val.truth b)) ⊎ (read_at (value_of lim room (type_of t)) s start ≡ got t end)

abbrev pub Says : TConfiguration → ℕ → List ℕ → Row → Told → Type 0
Says lim room s row absent = row ≡ kind_alone 0
Says lim room s row other = row ≡ kind_alone 1
Says lim room s row (told t) = Points lim room s row t

module _ (lim : TConfiguration) (room : ℕ) (s : List ℕ) where
  -- a field as it stands
  pub record Stood (o : Own) (t : Tree) : Type 0 where
    pub is : o.what ≡ t
    pub at : Stands lim room s o

  points : (o : Own) (t : Tree) → Stood o t → Points lim room s (row_of o.what o.start o.end) t
  points o t k =
      record {
        start = o.start;
        end = o.end;
        row_is = ap (λ (v : Tree). row_of v o.start o.end) k.is;
        value = subst (λ (v : Tree). ((b : Bool) × (v ≡ val.truth b)) ⊎ (read_at (value_of lim room (type_of v)) s o.start ≡ got v o.end)) k.is k.at;
      }

  said : (x : Told) (l : Last) (b : Bool) → Link Stood l b x → Says lim room s (answered l b) x
  unfolding Link
  said absent l b h = rw (h.0, h.1) refl
  said other l b h = rw (h.0, h.1) refl
  said (told t) l b h = rw h.1 (points h.0 t h.2)

  module _ (id : ℤ) (k : ℕ) where
    linked : (fs : List (Entry Tree)) (p : ℕ) → AllStand lim room s (own_from p fs) → Link Stood (last_of (of_type id k) (own_from p fs)) (occurs (of_id id) (own_from p fs)) (last_in id k (fields_of fs))
    unfolding Link AllStand own_from last_of occurs last_in
    linked [] p h = (refl, refl)
    linked (f ∷ fs) p h =
        link_more Stood (last_in id k (fields_of fs)) _ _ (same_id f.id id) (eqb (type_code (type_of f.what)) k) (owned p f) f.what (linked fs (p + f.head + f.size) h.1) (record { is = refl; at = h.0 })

-- a call that was answered, beside the same struct read by the calls
pub record AsRead (plan : Plan) (s : List ℕ) (st : State) (fs : List (Entry Tree)) (e : ℕ) : Type 0 where
  -- the calls read the struct with these fields, and end where the picker does
  pub gave : Gave (read_of s T.Struct plan st) (val.struct (fields_of fs)) st (e - st.place.0) st.last
  pub ends : st.place.0 + (e - st.place.0) ≡ e
  -- and each row says what the last of the id and type among them says
  pub tells : (id : ℤ) (k : ℕ) → Says st.limits (room_of st - 1) s (answer id k (own_from st.place.0 fs)) (last_in id k (fields_of fs))

pub as_read : (ids : List ℤ) (kinds : List ℕ) (n : ℕ) (st : State) (s : List ℕ) (fs : List (Entry Tree)) (e : ℕ) → Went ids kinds n st s fs e → length st.ids ≡ 64 → (plan : Plan) → Texts plan (val.struct (fields_of fs)) → AsRead plan s st fs e
unfolding answer
as_read ids kinds n st s fs e w long plan x =
    let i = went_inside ids kinds n st s fs e w in
    let at = st.place.0 in
    let to : at + (e - at) ≡ e = omega arith in
    let f = was_spelt s st.limits (room_of st) T.Struct at (at + (e - at)) (val.struct (fields_of fs)) (went_read ids kinds n st s fs e w ∙ ap (got (val.struct (fields_of fs))) (sym to)) in
    record {
      gave = formed_read s st w.sounds (nothing_waits st.pending.0 w.free) long plan T.Struct (e - at) (record { tree = val.struct (fields_of fs); start = omega arith; inside = f.inside; spelt = f.spelt }) (omega (arith, w.before)) x;
      ends = to;
      tells = λ id k. said st.limits (room_of st - 1) s (last_in id k (fields_of fs)) _ _ (linked st.limits (room_of st - 1) s id k fs at (all_stand st.limits (room_of st - 1) s fs (pos 0) at e w.reads));
    }
