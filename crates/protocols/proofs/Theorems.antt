-- Skip by the words of a protocol succeeds exactly on a well-formed value within the limits, and uses just its bytes. Assumes nothing.
use mathlib.Core.Path.{◌≡◌, sym, ap, subst, ◌∙◌}
use mathlib.Core.Logic.{◌↔◌}
use mathlib.Core.List.{List, ◌++◌}
use Prim.Native.Nat.{ℕ, ◌-◌, ◌≤◌, ◌<◌}
use native.Mathlib.Omega.{arith}
use lib.ListN.{length, take, drop, length-drop, take-append-drop}
use lib.Seq.{slice, length-slice, drop-append-le, length-take-le}
use Rattle.types.specs.declared.Place.{Place}
use Rattle.types.specs.declared.TType.{TType}
use Rattle.types.specs.declared.TConfiguration.{TConfiguration}
use Rattle.types.specs.Value.{Tree}
use Rattle.numbers.specs.Varint.{got, placed}
use Rattle.numbers.proofs.Found.{take_drop, as_long}
use Rattle.heads.specs.Reader.{read_at}
use Rattle.heads.specs.Answers.{place}
use Rattle.heads.proofs.Steps.{found_at}
use Rattle.skip.specs.declared.Skipped.TheVariants.{Done}
use Rattle.skip.proofs.Past.{read_past, past_got}
use Rattle.protocols.specs.Words.{Words}
use Rattle.protocols.specs.Value.{value_by}
use Rattle.protocols.specs.Spells.{SpellsBy, FormedBy}
use Rattle.protocols.specs.Answers.{skip_by}
use Rattle.protocols.proofs.Owes.{Owes}
use Rattle.protocols.proofs.Lawfuls.{value_lawful, value_takes}
use Rattle.protocols.proofs.Sound.{sound}
use Rattle.protocols.proofs.Complete.{complete}

-- the bytes from a place on: a value's, and those behind it
behind_slice : (s : List ℕ) (at e : ℕ) → at ≤ e → e ≤ length s → drop at s ≡ slice at e s ++ drop e s
behind_slice s at e h k =
    ap (drop at) (sym (take-append-drop e s)) ∙ drop-append-le at (take e s) (drop e s) (omega (arith, length-take-le e s k))

module _ (w : Words) (o : Owes w) where
  module _ (s : List ℕ) (lim : TConfiguration) (room : ℕ) (ty : TType) (at : ℕ) where
    -- what stands at a place, by the tree
    pub reads : (e : ℕ) (t : Tree) → at ≤ e → e ≤ length s → SpellsBy w t lim room ty (slice at e s) → read_at (value_by w lim room ty) s at ≡ got t e
    unfolding read_at
    reads e t h k sp =
        let l : length (slice at e s) ≡ e - at = length-slice at e s k in
        ap (λ (bs : List ℕ). placed at (value_by w lim room ty bs)) (behind_slice s at e h k)
        ∙ ap (placed at) (complete w o t lim room ty (slice at e s) sp (drop e s))
        ∙ ap (got t) (omega (arith, l))

    -- and back
    pub record Read (e : ℕ) (t : Tree) : Type 0 where
      pub later : at < e
      pub inside : e ≤ length s
      pub spelt : SpellsBy w t lim room ty (slice at e s)

    pub was_spelt : (e : ℕ) (t : Tree) → read_at (value_by w lim room ty) s at ≡ got t e → Read e t
    unfolding read_at
    was_spelt e t f =
        let g = found_at at (value_by w lim room ty (drop at s)) t e f in
        let i = (value_lawful w o lim room ty).ends (drop at s) t g.0 g.1 in
        let j = value_takes w o lim room ty (drop at s) t g.0 g.1 in
        record {
          later = omega (arith, g.2);
          inside = omega (arith, g.2, length-drop at s);
          spelt = subst (SpellsBy w t lim room ty) (take_drop at g.0 s ∙ ap (λ (m : ℕ). drop at (take m s)) g.2) (sound w o lim room ty (drop at s) t g.0 g.1);
        }

    -- skip succeeds with the end e exactly where the bytes from the place to e are a well-formed value
    pub skip_formed : (e : ℕ) → skip_by w s lim room ty at ≡ Done (place e) → FormedBy w s lim room ty at e
    unfolding skip_by
    skip_formed e f =
        let r = read_past (value_by w lim room ty) s at (place e) f in
        let wh = was_spelt e r.0 r.1 in
        record { tree = r.0; start = omega (arith, wh.later); inside = wh.inside; spelt = wh.spelt }

    pub formed_skip : (e : ℕ) → FormedBy w s lim room ty at e → skip_by w s lim room ty at ≡ Done (place e)
    unfolding skip_by
    formed_skip e f = past_got (value_by w lim room ty) s at f.tree e (reads e f.tree f.start f.inside f.spelt)

    pub skip_exact : (e : ℕ) → (skip_by w s lim room ty at ≡ Done (place e)) ↔ FormedBy w s lim room ty at e
    skip_exact e = (skip_formed e, formed_skip e)

    -- one tree and one end for given bytes
    pub one_tree : (e d : ℕ) (f : FormedBy w s lim room ty at e) (g : FormedBy w s lim room ty at d) → (f.tree ≡ g.tree) × (e ≡ d)
    one_tree e d f g =
        let a = reads e f.tree f.start f.inside f.spelt in
        let b = reads d g.tree g.start g.inside g.spelt in
        (cc, cc)

    -- skip uses a byte at least, and none past the input
    pub skip_later : (e : Place) → skip_by w s lim room ty at ≡ Done e → at < e.0
    unfolding skip_by
    skip_later e f = let r = read_past (value_by w lim room ty) s at e f in (was_spelt e.0 r.0 r.1).later

    pub skip_inside : (e : Place) → skip_by w s lim room ty at ≡ Done e → e.0 ≤ length s
    unfolding skip_by
    skip_inside e f = let r = read_past (value_by w lim room ty) s at e f in (was_spelt e.0 r.0 r.1).inside

  -- bytes behind the end have no say: only those up to it are looked at
  pub formed_behind : (s t : List ℕ) (lim : TConfiguration) (room : ℕ) (ty : TType) (at e : ℕ) → take e t ≡ take e s → FormedBy w s lim room ty at e → FormedBy w t lim room ty at e
  formed_behind s t lim room ty at e q f =
      record { tree = f.tree; start = f.start; inside = as_long e s t f.inside q; spelt = subst (λ (l : List ℕ). SpellsBy w f.tree lim room ty (drop at l)) (sym q) f.spelt }

  pub skip_behind : (s t : List ℕ) (lim : TConfiguration) (room : ℕ) (ty : TType) (at e : ℕ) → take e t ≡ take e s → skip_by w s lim room ty at ≡ Done (place e) → skip_by w t lim room ty at ≡ Done (place e)
  skip_behind s t lim room ty at e q f = formed_skip t lim room ty at e (formed_behind s t lim room ty at e q (skip_formed s lim room ty at e f))
