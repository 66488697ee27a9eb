-- One reader answers as another does, or refuses by one number: kept by every way in which a value's reader is put together. Assumes nothing.
use mathlib.Core.Path.{◌≡◌, refl, ap}
use mathlib.Core.Bool.{Bool, true, false}
use mathlib.Core.Logic.{◌⊎◌, inl, inr, ⊎_elim}
use mathlib.Core.List.{List}
use Prim.Native.Nat.{ℕ, zero, suc}
use lib.ListN.{length, drop}
use lib.IntN.{ℤ, pos}
use Rattle.types.specs.Refusals.{BAD_TYPE}
use Rattle.types.specs.declared.TType.{TType}
use Rattle.types.specs.declared.TType.TheVariants as T
use Rattle.types.specs.declared.TConfiguration.{TConfiguration}
use Rattle.types.specs.Value as val
use Rattle.types.specs.Value.{Tree, Trees}
use Rattle.numbers.specs.Varint.{Found, got, refused, placed}
use Rattle.heads.specs.Reader.{Reader, done, refuse, onward, and_then, provided, read_at}
use Rattle.heads.specs.Heads.{Field, stop, bool, value, field}
use Rattle.skip.specs.Walk.{Entry, with_size, sizing, behind, walk, fields}
use Rattle.skip.specs.Value.{many, many_pairs, startable, Boxes, boxed, shaped}
use Rattle.skip.specs.Skip.{passed, past}
use Rattle.skip.specs.declared.Skipped.TheVariants.{Refused}

module _ (no : ℕ) where
  -- as the other does, or `no`
  abbrev pub Same : {A : Type 0} → Found A → Found A → Type 0
  Same x y = (x ≡ y) ⊎ (x ≡ refused no)

  abbrev pub Less : {A : Type 0} → Reader A → Reader A → Type 0
  Less p q = (bs : List ℕ) → Same (p bs) (q bs)

  pub alike : {A : Type 0} (p : Reader A) → Less p p
  alike p bs = inl refl

  placed_same : {A : Type 0} (n : ℕ) (x y : Found A) → Same x y → Same (placed n x) (placed n y)
  placed_same n x y s = ⊎_elim (λ e. inl (ap (placed n) e)) (λ e. inr (ap (placed n) e)) s

  onward_less : {A B : Type 0} (k l : A → Reader B) → ((a : A) → Less (k a) (l a)) → (bs : List ℕ) (x y : Found A) → Same x y → Same (onward k bs x) (onward l bs y)
  onward_less k l h bs (got a n) y (inl e) = rw (← e) (placed_same n (k a (drop n bs)) (l a (drop n bs)) (h a (drop n bs)))
  onward_less k l h bs (refused why) y (inl e) = rw (← e) (inl refl)
  onward_less k l h bs x y (inr e) = inr (ap (onward k bs) e)

  then_less : {A B : Type 0} (p q : Reader A) (k l : A → Reader B) → Less p q → ((a : A) → Less (k a) (l a)) → Less (and_then p k) (and_then q l)
  unfolding and_then
  then_less p q k l h g bs = onward_less k l g bs (p bs) (q bs) (h bs)

  provided_less : {A : Type 0} (ok : Bool) (why : ℕ) (p q : Reader A) → Less p q → Less (provided ok why p) (provided ok why q)
  unfolding provided
  provided_less true why p q h bs = h bs
  provided_less false why p q h bs = inl refl

  many_less : (p q : Reader Tree) → Less p q → (n : ℕ) → Less (many p n) (many q n)
  unfolding many
  many_less p q h zero = alike _
  many_less p q h (suc n) = then_less p q _ _ h (λ t. then_less (many p n) (many q n) _ _ (many_less p q h n) (λ ts. alike _))

  pairs_less : (p q p' q' : Reader Tree) → Less p p' → Less q q' → (n : ℕ) → Less (many_pairs p q n) (many_pairs p' q' n)
  unfolding many_pairs
  pairs_less p q p' q' h g zero = alike _
  pairs_less p q p' q' h g (suc n) =
      then_less p p' _ _ h (λ k. then_less q q' _ _ g (λ v. then_less (many_pairs p q n) (many_pairs p' q' n) _ _ (pairs_less p q p' q' h g n) (λ ps. alike _)))

  sized_same : {A : Type 0} (x y : Found A) → Same x y → Same (with_size x) (with_size y)
  sized_same x y s = ⊎_elim (λ e. inl (ap with_size e)) (λ e. inr (ap with_size e)) s

  sizing_less : {A : Type 0} (p q : Reader A) → Less p q → Less (sizing p) (sizing q)
  unfolding sizing
  sizing_less p q h bs = sized_same (p bs) (q bs) (h bs)

  module _ (f g : TType → Reader Tree) (h : (t : TType) → Less (f t) (g t)) where
    behind_less : (go on : ℤ → Reader (List (Entry Tree))) → ((id : ℤ) → Less (go id) (on id)) → (x : Field) (n : ℕ) → Less (behind val.truth f go x n) (behind val.truth g on x n)
    behind_less go on l stop n = alike _
    behind_less go on l (bool b id) n = then_less (go id) (on id) _ _ (l id) (λ fs. alike _)
    behind_less go on l (value t id) n =
        then_less (sizing (f t)) (sizing (g t)) _ _ (sizing_less (f t) (g t) (h t)) (λ v. then_less (go id) (on id) _ _ (l id) (λ fs. alike _))

    walk_less : (k : ℕ) (last : ℤ) → Less (walk val.truth f k last) (walk val.truth g k last)
    unfolding walk
    walk_less zero last = alike _
    walk_less (suc k) last = then_less (sizing (field last)) (sizing (field last)) _ _ (alike _) (λ v. behind_less (walk val.truth f k) (walk val.truth g k) (walk_less k) v.0 v.1)

    fields_less : (last : ℤ) → Less (fields val.truth f last) (fields val.truth g last)
    unfolding fields
    fields_less last bs = walk_less (length bs) last bs

  pub refuse_less : {A : Type 0} (p : Reader A) → Less (refuse no) p
  unfolding refuse
  refuse_less p bs = inr refl

  pub record BoxesLess (b c : Boxes) : Type 0 where
    pub list : Less b.list c.list
    pub set : Less b.set c.set
    pub map : Less b.map c.map
    pub struct : Less b.struct c.struct

  items_less : (i j : Reader (TType × ℕ)) → Less i j → (f g : TType → Reader Tree) → ((t : TType) → Less (f t) (g t)) → (m : TType → Trees → Tree) → Less (and_then i (λ h. provided (startable h.0 h.1) BAD_TYPE (and_then (many (f h.0) h.1) (λ ts. done (m h.0 ts))))) (and_then j (λ h. provided (startable h.0 h.1) BAD_TYPE (and_then (many (g h.0) h.1) (λ ts. done (m h.0 ts)))))
  items_less i j l f g h m =
      then_less i j _ _ l
      (λ x. provided_less (startable x.0 x.1) BAD_TYPE _ _ (then_less (many (f x.0) x.1) (many (g x.0) x.1) _ _ (many_less (f x.0) (g x.0) (h x.0) x.1) (λ ts. alike _)))

  -- containers, from their headers and from what is in them
  pub boxed_less : (i j : Reader (TType × ℕ)) → Less i j → (p q : Reader (TType × TType × ℕ)) → Less p q → (f g : TType → Reader Tree) → ((t : TType) → Less (f t) (g t)) → BoxesLess (boxed i p f) (boxed j q g)
  boxed_less i j l p q m f g h =
      record {
        list = items_less i j l f g h val.list;
        set = items_less i j l f g h val.set;
        map =
            then_less p q _ _ m
            (λ x. provided_less (startable x.0 x.2) BAD_TYPE _ _ (provided_less (startable x.1 x.2) BAD_TYPE _ _
            (then_less (many_pairs (f x.0) (f x.1) x.2) (many_pairs (g x.0) (g x.1) x.2) _ _ (pairs_less (f x.0) (f x.1) (g x.0) (g x.1) (h x.0) (h x.1) x.2) (λ ps. alike _))));
        struct = then_less (fields val.truth f (pos 0)) (fields val.truth g (pos 0)) _ _ (fields_less f g h (pos 0)) (λ fs. alike _);
      }

  pub shaped_less : (lim : TConfiguration) (b c : Boxes) → BoxesLess b c → (t : TType) → Less (shaped lim b t) (shaped lim c t)
  shaped_less lim b c l T.Stop = alike _
  shaped_less lim b c l T.Bool = alike _
  shaped_less lim b c l T.I08 = alike _
  shaped_less lim b c l T.I16 = alike _
  shaped_less lim b c l T.I32 = alike _
  shaped_less lim b c l T.I64 = alike _
  shaped_less lim b c l T.Double = alike _
  shaped_less lim b c l T.String = alike _
  shaped_less lim b c l T.List = l.list
  shaped_less lim b c l T.Set = l.set
  shaped_less lim b c l T.Map = l.map
  shaped_less lim b c l T.Struct = l.struct
  shaped_less lim b c l T.Uuid = alike _

  -- at a place, and of what is passed over there
  pub same_at : {A : Type 0} (p q : Reader A) → Less p q → (s : List ℕ) (at : ℕ) → Same (read_at p s at) (read_at q s at)
  unfolding read_at
  same_at p q l s at = placed_same at _ _ (l (drop at s))

  passed_same : {A : Type 0} (x y : Found A) → Same x y → (passed x ≡ passed y) ⊎ (passed x ≡ Refused no)
  passed_same x y s = ⊎_elim (λ e. inl (ap passed e)) (λ e. inr (ap passed e)) s

  pub same_past : {A : Type 0} (p q : Reader A) → Less p q → (s : List ℕ) (at : ℕ) → (past p s at ≡ past q s at) ⊎ (past p s at ≡ Refused no)
  unfolding past
  same_past p q l s at = passed_same _ _ (same_at p q l s at)
