-- Over any protocol: the bytes of a value within the limits spell it by the protocol's words, and are read back as it, whatever follows; so is a message with its
-- struct. Assumes nothing.
use mathlib.Core.Path.{◌≡◌, refl, ap, subst}
use mathlib.Core.Bool.{Bool, true, false}
use mathlib.Core.Logic.{inl, inr}
use mathlib.Core.List.{List, [], ◌++◌}
use Prim.Native.Nat.{ℕ, suc, ◌-◌, ◌≤◌, ◌<◌}
use native.Mathlib.Omega.{arith}
use lib.IntN.{ℤ, pos}
use mir.Syntax.{w16}
use mir.Val.{SFits}
use Rattle.types.specs.declared.TType.{TType}
use Rattle.types.specs.declared.TType.TheVariants as T
use Rattle.types.specs.declared.TMessageType.{TMessageType}
use Rattle.types.specs.declared.SeqNo.{SeqNo}
use Rattle.types.specs.declared.TConfiguration.{TConfiguration}
use Rattle.types.specs.Value as val
use Rattle.types.specs.Value.{Tree, Trees, no_trees, tree, Pairs, no_pairs, pair, Fields, no_fields, type_of, size, size_p, nesting, nesting_all, nesting_pairs, nesting_fields, Sized, SizedAll, SizedPairs, SizedFields, Typed, TypedAll, TypedPairs, TypedFields, Within}
use Rattle.types.proofs.Limits.{Ranged}
use Rattle.heads.specs.Reader.{Whole}
use Rattle.heads.specs.Heads.{stop, bool, value}
use Rattle.output.proofs.Back.{Reads, whole, then_reads, then_quiet, done_reads}
use Rattle.laws.specs.Written.{map_of, readable, readable_all, readable_pairs, readable_fields, HeaderWithin}
use Rattle.protocols.specs.Words.{Words}
use Rattle.protocols.specs.Value.{value_by}
use Rattle.protocols.specs.Spells.{SpellsBy, SpellsAllBy, SpellsPairsBy, SpellsFieldsBy}
use Rattle.protocols.proofs.Owes.{Owes}
use Rattle.protocols.proofs.Complete.{complete}
use Rattle.transcode.specs.Pens.{Pens, bytes_by, bytes_all_by, bytes_pairs_by, bytes_fields_by}
use Rattle.transcode.specs.Letter.{letter_by, bytes_of_letter}
use Rattle.transcode.proofs.Readable.{same_size, same_pairs}
use Rattle.transcode.proofs.Suits.{Suits}

module _ (w : Words) (p : Pens) (fit : Suits w p) where
  -- one field and those behind it, from the value's own spelling: its bool stands in the header, or it stands behind it
  field_spelt : (lim : TConfiguration) (room : ℕ) (last id : ℤ) (t : Tree) (fs : Fields) (h : Bool) → p.held t ≡ h → SFits w16 id → SpellsBy w (readable t) lim room (type_of t) (bytes_by p t) → SpellsFieldsBy w (readable_fields fs) lim room id (bytes_fields_by p id fs) → SpellsFieldsBy w (val.field id (readable t) (readable_fields fs)) lim room last (bytes_fields_by p last (val.field id t fs))
  unfolding SpellsFieldsBy bytes_fields_by readable
  field_spelt lim room last id t fs true e f v r =
      let b = fit.held last id t f e in
      rw e (p.field last id t, [], bytes_fields_by p id fs, inl (b.0, ap readable b.1, whole (w.field last) (bool b.0 id) _ b.2, refl), r, refl)
  field_spelt lim room last id t fs false e f v r =
      rw e (p.field last id t, bytes_by p t, bytes_fields_by p id fs, inr (type_of t, whole (w.field last) (value (type_of t) id) _ (fit.field last id t f e), v), r, refl)

  module _ (lim : TConfiguration) (ok : Ranged lim) where
    -- headers, read whole
    items_whole : (t : TType) (ts : Trees) → size ts ≤ lim.container → Whole (w.items lim) (t, size (readable_all ts)) (p.items t (size ts))
    items_whole t ts h = rw (same_size ts) (whole (w.items lim) (t, size ts) _ (fit.items lim ok t (size ts) h))

    pairs_whole : (k v : TType) (t u : Tree) (ps : Pairs) → size_p (pair t u ps) ≤ lim.container → Whole (w.pairs lim) (k, v, size_p (pair (readable t) (readable u) (readable_pairs ps))) (p.pairs k v (size_p (pair t u ps)))
    unfolding size_p
    pairs_whole k v t u ps h = rw (same_pairs ps) (whole (w.pairs lim) (k, v, suc (size_p ps)) _ (fit.pairs lim ok k v (suc (size_p ps)) h (omega arith)))

    map_spelt : (k v : TType) (ps : Pairs) (room : ℕ) → 0 < room → size_p ps ≤ lim.container → SpellsPairsBy w (readable_pairs ps) lim (room - 1) k v (bytes_pairs_by p ps) → SpellsBy w (map_of k v (readable_pairs ps)) lim room T.Map (p.pairs k v (size_p ps) ++ bytes_pairs_by p ps)
    unfolding SpellsBy SpellsPairsBy size_p bytes_pairs_by readable_pairs
    map_spelt k v no_pairs room h c s = (refl, h, (p.pairs k v 0, [], whole (w.pairs lim) (T.Stop, T.Stop, 0) _ (fit.no_pairs lim ok k v), refl, refl))
    map_spelt k v (pair t u ps) room h c s = (refl, h, (p.pairs k v (suc (size_p ps)), bytes_pairs_by p (pair t u ps), pairs_whole k v t u ps c, s, refl))

    mutual
      unfolding SpellsBy SpellsAllBy SpellsPairsBy SpellsFieldsBy nesting nesting_all nesting_pairs nesting_fields Sized SizedAll SizedPairs SizedFields Typed TypedAll TypedPairs TypedFields type_of size size_p bytes_by bytes_all_by bytes_pairs_by bytes_fields_by readable readable_all readable_pairs readable_fields

      pub spelt : (t : Tree) (room : ℕ) → nesting t ≤ room → Sized lim t → Typed t → SpellsBy w (readable t) lim room (type_of t) (bytes_by p t)
      spelt (val.truth b) room n s y = (refl, whole w.truth b _ (fit.truth b))
      spelt (val.i8 z) room n s y = (refl, whole w.int8 z _ (fit.int8 z y))
      spelt (val.i16 z) room n s y = (refl, whole w.int16 z _ (fit.int16 z y))
      spelt (val.i32 z) room n s y = (refl, whole w.int32 z _ (fit.int32 z y))
      spelt (val.i64 z) room n s y = (refl, whole w.int64 z _ (fit.int64 z y))
      spelt (val.double d) room n s y = (refl, whole w.double d _ (fit.double d y))
      spelt (val.uuid u) room n s y = (refl, whole w.uuid u _ (fit.uuid u y.0))
      spelt (val.bytes cs) room n s y = (refl, whole (w.binary lim) cs _ (fit.binary lim ok cs s))
      spelt (val.list t ts) room n s y = (refl, omega arith, (p.items t (size ts), bytes_all_by p ts, items_whole t ts s.0, spelt_all t ts (room - 1) (omega arith) s.1 y, refl))
      spelt (val.set t ts) room n s y = (refl, omega arith, (p.items t (size ts), bytes_all_by p ts, items_whole t ts s.0, spelt_all t ts (room - 1) (omega arith) s.1 y, refl))
      spelt (val.map k v ps) room n s y = map_spelt k v ps room (omega arith) s.0 (spelt_pairs k v ps (room - 1) (omega arith) s.1 y)
      spelt (val.struct fs) room n s y = (refl, omega arith, spelt_fields fs (room - 1) (pos 0) (omega arith) s y)

      spelt_all : (ty : TType) (ts : Trees) (room : ℕ) → nesting_all ts ≤ room → SizedAll lim ts → TypedAll ty ts → SpellsAllBy w (readable_all ts) lim room ty (bytes_all_by p ts)
      spelt_all ty no_trees room n s y = refl
      spelt_all ty (tree t ts) room n s y =
          (bytes_by p t, bytes_all_by p ts, subst (λ (u : TType). SpellsBy w (readable t) lim room u (bytes_by p t)) y.0 (spelt t room (omega arith) s.0 y.1), spelt_all ty ts room (omega arith) s.1 y.2, refl)

      spelt_pairs : (k v : TType) (ps : Pairs) (room : ℕ) → nesting_pairs ps ≤ room → SizedPairs lim ps → TypedPairs k v ps → SpellsPairsBy w (readable_pairs ps) lim room k v (bytes_pairs_by p ps)
      spelt_pairs k v no_pairs room n s y = refl
      spelt_pairs k v (pair t u ps) room n s y = (
        bytes_by p t,
        bytes_by p u,
        bytes_pairs_by p ps,
        subst (λ (x : TType). SpellsBy w (readable t) lim room x (bytes_by p t)) y.0 (spelt t room (omega arith) s.0 y.2),
        subst (λ (x : TType). SpellsBy w (readable u) lim room x (bytes_by p u)) y.1 (spelt u room (omega arith) s.1 y.3),
        spelt_pairs k v ps room (omega arith) s.2 y.4,
        refl,
      )

      spelt_fields : (fs : Fields) (room : ℕ) (last : ℤ) → nesting_fields fs ≤ room → SizedFields lim fs → TypedFields fs → SpellsFieldsBy w (readable_fields fs) lim room last (bytes_fields_by p last fs)
      spelt_fields no_fields room last n s y = whole (w.field last) stop _ (fit.stopped last)
      spelt_fields (val.field id t fs) room last n s y =
          field_spelt lim room last id t fs (p.held t) refl y.0 (spelt t room (omega arith) s.0 y.1) (spelt_fields fs room id (omega arith) s.1 y.2)

  -- read back, whatever follows
  module _ (o : Owes w) (lim : TConfiguration) (ok : Ranged lim) where
    pub reads_back : (depth : ℕ) (t : Tree) → Within lim depth t → Reads (value_by w lim (lim.depth - depth) (type_of t)) (readable t) (bytes_by p t)
    reads_back depth t i rest =
        complete w o (readable t) lim (lim.depth - depth) (type_of t) (bytes_by p t) (spelt lim ok t (lim.depth - depth) (omega (arith, i.nested)) i.sized i.typed) rest

    -- a message with its struct
    pub letter_back : (m : TMessageType) (z : SeqNo) (name : List ℕ) (fs : Fields) → HeaderWithin lim z name → Within lim 0 (val.struct fs) → Reads (letter_by w lim) ((m, z.0, name), readable (val.struct fs)) (bytes_of_letter p ((m, z.0, name), val.struct fs))
    unfolding letter_by bytes_of_letter type_of
    letter_back m z name fs h i =
        let full : lim.depth - 0 ≡ lim.depth = omega arith in
        then_reads (w.message lim) _ (m, z.0, name) ((m, z.0, name), readable (val.struct fs)) (p.message m z.0 name) (bytes_by p (val.struct fs))
        (fit.message lim ok m z.0 name h.number h.short h.text)
        (then_quiet (value_by w lim lim.depth T.Struct) _ (readable (val.struct fs)) ((m, z.0, name), readable (val.struct fs)) (bytes_by p (val.struct fs))
        (subst (λ (n : ℕ). Reads (value_by w lim n T.Struct) (readable (val.struct fs)) (bytes_by p (val.struct fs))) full (reads_back 0 (val.struct fs) i))
        (done_reads ((m, z.0, name), readable (val.struct fs))))
