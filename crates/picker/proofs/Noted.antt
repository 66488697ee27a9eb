-- The walk that notes a struct's own fields: what is left to note, over what is noted, makes what the whole makes. Assumes nothing.
use mathlib.Core.Path.{◌≡◌, refl, sym, ap, ap₂, ◌∙◌}
use mathlib.Core.Bool.{Bool, cond}
use mathlib.Core.List.{List}
use Prim.Native.Nat.{ℕ, ◌+◌, ◌-◌, ◌<◌}
use native.Mathlib.Omega.{arith}
use lib.IntN.{ℤ}
use lib.ListN.{length}
use Rattle.types.specs.Codes.{type_code}
use Rattle.types.specs.declared.Place.{Place}
use Rattle.types.specs.declared.FieldId.{FieldId}
use Rattle.types.specs.declared.TType.{TType}
use Rattle.types.specs.declared.TConfiguration.{TConfiguration}
use Rattle.types.specs.Value as val
use Rattle.types.specs.Value.{Tree, type_of}
use Rattle.numbers.specs.Varint.{got}
use Rattle.heads.specs.Reader.{read_at}
use Rattle.heads.specs.Heads.{stop, bool, value, field}
use Rattle.heads.specs.Answers.{field_at}
use Rattle.heads.specs.declared.FieldHead.{FieldHead}
use Rattle.heads.specs.declared.FieldHead.TheVariants as F
use Rattle.skip.specs.Walk.{Entry, fields}
use Rattle.skip.specs.Value.{value_of}
use Rattle.skip.specs.Skip.{skip_of}
use Rattle.skip.specs.declared.Skipped.{Skipped}
use Rattle.skip.specs.declared.Skipped.TheVariants.{Done, Refused}
use Rattle.skip.proofs.Past.{read_past, refused_past}
use Rattle.skip.proofs.Cycle.{head_read, head_refused}
use Rattle.picker.specs.Pick.{Row, row_of}
use Rattle.picker.specs.Notes.{note, note_all}
use Rattle.picker.proofs.Cases.{row, note_length}
use Rattle.picker.proofs.Walk.{entry, read_type, value_code, sized_at_lem, headless, none_left, Behind, bool_next, value_next, valueless}

-- a value that stands in bytes of its own
here : (v : Tree) (a e : ℕ) → 2 < type_code (type_of v) → row_of v a e ≡ row 2 a e
unfolding row_of type_of type_code
here (val.truth b) a e h = absurd (omega arith)
here (val.i8 z) a e h = refl
here (val.i16 z) a e h = refl
here (val.i32 z) a e h = refl
here (val.i64 z) a e h = refl
here (val.double n) a e h = refl
here (val.uuid u) a e h = refl
here (val.bytes cs) a e h = refl
here (val.list t ts) a e h = refl
here (val.set t ts) a e h = refl
here (val.map k v ps) a e h = refl
here (val.struct fs) a e h = refl

module _ (s : List ℕ) (lim : TConfiguration) (room : ℕ) (ids : List ℤ) (kinds : List ℕ) where
  -- the fields behind the id `last` at p, still to be noted, for the fields fs of the whole that ends at e
  pub record Rest (rows₀ : List ℕ) (p₀ : ℕ) (rows : List ℕ) (last : ℤ) (p : ℕ) (fs : List (Entry Tree)) (e : ℕ) : Type 0 where
    pub rest : List (Entry Tree)
    pub reads : read_at (fields val.truth (value_of lim room) last) s p ≡ got rest e
    pub same : note_all ids kinds rest p rows ≡ note_all ids kinds fs p₀ rows₀

  pub record Left (rows₀ : List ℕ) (last₀ : ℤ) (p₀ : ℕ) (rows : List ℕ) (last : ℤ) (p : ℕ) : Type 0 where
    pub of : (fs : List (Entry Tree)) (e : ℕ) → read_at (fields val.truth (value_of lim room) last₀) s p₀ ≡ got fs e → Rest rows₀ p₀ rows last p fs e

  pub left_all : (rows : List ℕ) (last : ℤ) (p : ℕ) → Left rows last p rows last p
  left_all rows last p = record { of = λ fs e f. record { rest = fs; reads = f; same = refl } }

  -- one field noted
  abbrev note_entry : Entry Tree → ℕ → List ℕ → List ℕ
  note_entry f p rows = note f.id (type_code (type_of f.what)) (row_of f.what (p + f.head) (p + f.head + f.size)) ids kinds 0 rows

  module _ (rows₀ : List ℕ) (last₀ : ℤ) (p₀ : ℕ) (rows : List ℕ) (last : FieldId) (p : Place) (left : Left rows₀ last₀ p₀ rows last.0 p.0) (h : FieldHead) (e : h ≡ field_at s last.0 p.0) where
    pub at_stop : (q : Place) → h ≡ F.Stop q → (fs : List (Entry Tree)) (n : ℕ) → read_at (fields val.truth (value_of lim room) last₀) s p₀ ≡ got fs n → rows ≡ note_all ids kinds fs p₀ rows₀
    unfolding note_all
    at_stop q g fs n f =
        let r = left.of fs n f in
        let z = none_left lim room s last.0 p.0 q.0 r.rest n (head_read s last.0 p.0 h e stop q g) r.reads in
        sym (ap (λ (l : List (Entry Tree)). note_all ids kinds l p.0 rows) z) ∙ r.same

    pub at_refusal : (why : ℕ) → h ≡ F.Refused why → (fs : List (Entry Tree)) (n : ℕ) → read_at (fields val.truth (value_of lim room) last₀) s p₀ ≡ got fs n → rows ≡ note_all ids kinds fs p₀ rows₀
    at_refusal why g fs n f =
        let r = left.of fs n f in
        headless lim room s last.0 p.0 why r.rest n (head_refused s last.0 p.0 h e why g) r.reads

    -- on, behind a field: what was noted of it
    noted_on : (x : Entry Tree) (id : ℤ) (q : ℕ) (rows' : List ℕ) → p.0 + x.head + x.size ≡ q → rows' ≡ note_entry x p.0 rows → ((fs : List (Entry Tree)) (n : ℕ) → read_at (fields val.truth (value_of lim room) last.0) s p.0 ≡ got fs n → Behind lim room s last.0 p.0 x id q fs n) → Left rows₀ last₀ p₀ rows' id q
    unfolding note_all
    noted_on x id q rows' pl ro next =
        record {
          of =
              λ fs n f.
              let r = left.of fs n f in
              let b = next r.rest n r.reads in
              record {
                rest = b.rest;
                reads = b.reads;
                same =
                    ap₂ (λ (m : ℕ) (l : List ℕ). note_all ids kinds b.rest m l) (sym pl) ro
                    ∙ sym (ap (λ (l : List (Entry Tree)). note_all ids kinds l p.0 rows) b.whole)
                    ∙ r.same;
              };
        }

    pub on_bool : (b : Bool) (id : FieldId) (q : Place) (k : ℕ) (rows' : List ℕ) → h ≡ F.Bool b id q → k ≡ cond b 4 3 → rows' ≡ note id.0 1 (row k 0 0) ids kinds 0 rows → Left rows₀ last₀ p₀ rows' id.0 q.0
    unfolding row_of type_of type_code
    on_bool b id q k rows' g kk ro =
        let hd = head_read s last.0 p.0 h e (bool b id.0) q g in
        let le = (sized_at_lem (field last.0) s p.0 _ q.0 hd).1 in
        noted_on _ id.0 q.0 rows' (omega arith) (ro ∙ ap (λ (m : ℕ). note id.0 1 (row m 0 0) ids kinds 0 rows) kk) (λ fs n f. bool_next lim room s last.0 p.0 b id.0 q.0 fs n hd f)

    module _ (t : TType) (id : FieldId) (m : Place) (g : h ≡ F.Value t id m) (r : Skipped) (f : r ≡ skip_of s lim room t m.0) where
      pub at_cut : (why : ℕ) → r ≡ Refused why → (fs : List (Entry Tree)) (n : ℕ) → read_at (fields val.truth (value_of lim room) last₀) s p₀ ≡ got fs n → rows ≡ note_all ids kinds fs p₀ rows₀
      unfolding skip_of
      at_cut why y fs n x =
          let l = left.of fs n x in
          valueless lim room s last.0 p.0 t id.0 m.0 (head_read s last.0 p.0 h e (value t id.0) m g) l.rest n l.reads why (refused_past (value_of lim room t) s m.0 why (sym f ∙ y))

      pub on_value : (q : Place) (code : ℕ) (rows' : List ℕ) → r ≡ Done q → code ≡ type_code t → rows' ≡ note id.0 code (row 2 m.0 q.0) ids kinds 0 rows → Left rows₀ last₀ p₀ rows' id.0 q.0
      unfolding skip_of
      on_value q code rows' y c ro =
          let hd = head_read s last.0 p.0 h e (value t id.0) m g in
          let v = read_past (value_of lim room t) s m.0 q (sym f ∙ y) in
          let le = (sized_at_lem (field last.0) s p.0 _ m.0 hd).1 in
          let lf = (sized_at_lem (value_of lim room t) s m.0 v.0 q.0 v.1).1 in
          let ty : type_of v.0 ≡ t = read_type s lim room t m.0 q.0 v.0 v.1 in
          let up = value_code s last.0 p.0 t id.0 m.0 hd in
          let am : p.0 + (m.0 - p.0) ≡ m.0 = omega arith in
          let aq : p.0 + (m.0 - p.0) + (q.0 - m.0) ≡ q.0 = omega arith in
          let rr : row_of v.0 (p.0 + (m.0 - p.0)) (p.0 + (m.0 - p.0) + (q.0 - m.0)) ≡ row 2 m.0 q.0 = here v.0 _ _ (rw ty up) ∙ ap₂ (row 2) am aq in
          noted_on (entry id.0 v.0 p.0 m.0 q.0) id.0 q.0 rows' aq
          (ro ∙ ap₂ (λ (k : ℕ) (w : Row). note id.0 k w ids kinds 0 rows) (c ∙ sym (ap type_code ty)) (sym rr))
          (λ fs n x. value_next lim room s last.0 p.0 t id.0 m.0 hd fs n x v.0 q.0 v.1)

pub same_noted : (rows₀ rows rows' : List ℕ) (id : ℤ) (code : ℕ) (r : Row) (ids : List ℤ) (kinds : List ℕ) → length rows ≡ length rows₀ → rows' ≡ note id code r ids kinds 0 rows → length rows' ≡ length rows₀
same_noted rows₀ rows rows' id code r ids kinds l e = ap length e ∙ note_length id code r ids kinds 0 rows ∙ l
