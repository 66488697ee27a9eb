-- A reader that asks for bytes ahead of what it took: how many there are has a say, what they are has none. Assumes nothing.
use mathlib.Core.Path.{◌≡◌, refl, sym, ap, ap₂, ◌∙◌}
use mathlib.Core.Bool.{Bool, true, false, cond}
use mathlib.Core.Logic.{◌⊎◌, inl, inr, ⊎_elim}
use mathlib.Core.List.{List}
use Prim.Native.Nat.{ℕ, ◌+◌, ◌*◌, ◌≤◌, ◌<◌}
use native.Mathlib.Nat.{add-zero, mul-one}
use native.Mathlib.Omega.{arith}
use borrow.Author.Tests.{leb-true, leb-false, le-leb, lt-leb, ltb-true, ltb-false}
use lib.Dec.{leb, ltb}
use lib.ListN.{length, take, drop, length-drop}
use mir.Syntax.{w32}
use mir.Val.{Fits}
use Rattle.types.specs.Refusals.{END}
use Rattle.types.specs.declared.TType.{TType}
use Rattle.types.specs.declared.TType.TheVariants as T
use Rattle.types.specs.declared.Place.{Place}
use Rattle.types.specs.declared.TConfiguration.{TConfiguration}
use Rattle.numbers.specs.Varint.{Found, got, refused, placed}
use Rattle.heads.specs.Reader.{Reader, onward, and_then, ahead, backed, read_at}
use Rattle.heads.specs.Heads.{items, pairs, least_size, items_head, pairs_head}
use Rattle.heads.specs.Answers.{place, to_list, items_at, items_head_at, to_map, pairs_at, pairs_head_at}
use Rattle.heads.specs.declared.ListHead.{ListHead}
use Rattle.heads.specs.declared.ListHead.TheVariants as L
use Rattle.heads.specs.declared.MapHead.{MapHead}
use Rattle.heads.specs.declared.MapHead.TheVariants as M
use Rattle.heads.proofs.Lawful.{Lawful, Takes, both, not_both, same, then_got}
use Rattle.heads.proofs.Steps.{found_at, step, stop_at}
use Rattle.heads.proofs.Readers.{items_lawful, pairs_lawful, items_takes, pairs_takes}

-- Fair: no more bytes are taken than there are; of inputs that agree up to the end of what was read one that is no shorter gives the same, and
-- any other the same or END.
pub record Fair {A : Type 0} (p : Reader A) : Type 0 where
  pub ends : (bs : List ℕ) (a : A) (n : ℕ) → p bs ≡ got a n → n ≤ length bs
  pub longer : (bs cs : List ℕ) (a : A) (n : ℕ) → p bs ≡ got a n → take n cs ≡ take n bs → length bs ≤ length cs → p cs ≡ got a n
  pub other : (bs cs : List ℕ) (a : A) (n : ℕ) → p bs ≡ got a n → take n cs ≡ take n bs → (p cs ≡ got a n) ⊎ (p cs ≡ refused END)

pub lawful_fair : {A : Type 0} (p : Reader A) → Lawful p → Fair p
lawful_fair p l = record { ends = l.ends; longer = λ bs cs a n e f h. same p l bs cs a n e f; other = λ bs cs a n e f. inl (same p l bs cs a n e f) }

-- what is asked for is there
ahead_is : {A : Type 0} (n : ℕ) (a : A) (bs : List ℕ) (b : A) (m : ℕ) → ahead n a bs ≡ got b m → (a ≡ b) × (m ≡ 0) × (n ≤ length bs)
unfolding ahead
ahead_is n a bs b m e = go (leb n (length bs)) refl e
  where
    go : (t : Bool) → leb n (length bs) ≡ t → cond t (got a 0) (refused END) ≡ got b m → (a ≡ b) × (m ≡ 0) × (n ≤ length bs)
    go true f g = (cc, cc, leb-true n (length bs) f)
    go false f g = not_both g

pub ahead_there : {A : Type 0} (n : ℕ) (a : A) (bs : List ℕ) → n ≤ length bs → ahead n a bs ≡ got a 0
unfolding ahead
ahead_there n a bs h = rw (le-leb n (length bs) h)

pub ahead_short : {A : Type 0} (n : ℕ) (a : A) (bs : List ℕ) → length bs < n → ahead n a bs ≡ refused END
unfolding ahead
ahead_short n a bs h = rw (lt-leb n (length bs) h)

module _ {A : Type 0} (need : A → ℕ) (p : Reader A) where
  -- it was read, and its bytes are ahead
  pub was_backed : (bs : List ℕ) (a : A) (n : ℕ) → backed need p bs ≡ got a n → (p bs ≡ got a n) × (need a ≤ length (drop n bs))
  unfolding backed and_then
  was_backed bs a n e =
      let f = both (p bs) (λ b. ahead (need b) b) bs a n e in
      let g = ahead_is (need f.one) f.one (drop f.used bs) a f.more f.second in
      let all : f.used ≡ n = omega (arith, f.all, g.1) in
      let here : p bs ≡ got a n = f.first ∙ ap (λ (b : A). got b f.used) g.0 ∙ ap (got a) all in
      let asked : need f.one ≡ need a = ap need g.0 in
      let left : length (drop f.used bs) ≡ length (drop n bs) = ap (λ (m : ℕ). length (drop m bs)) all in
      (here, omega (arith, g.2))

  -- and back
  pub is_backed : (bs : List ℕ) (a : A) (n : ℕ) → p bs ≡ got a n → need a ≤ length (drop n bs) → backed need p bs ≡ got a n
  unfolding backed
  is_backed bs a n e h = then_got p (λ b. ahead (need b) b) bs a n a 0 e (ahead_there (need a) a (drop n bs) h) ∙ ap (got a) (add-zero n)

  -- it was read, and its bytes are not ahead
  pub not_backed : (bs : List ℕ) (a : A) (n : ℕ) → p bs ≡ got a n → length (drop n bs) < need a → backed need p bs ≡ refused END
  unfolding backed and_then
  not_backed bs a n e h = ap (onward (λ b. ahead (need b) b) bs) e ∙ ap (placed n) (ahead_short (need a) a (drop n bs) h)

  -- so nothing changes but that some of what was read is END
  either : (bs : List ℕ) (a : A) (n : ℕ) → p bs ≡ got a n → (backed need p bs ≡ got a n) ⊎ (backed need p bs ≡ refused END)
  either bs a n e = go (leb (need a) (length (drop n bs))) refl
    where
      go : (t : Bool) → leb (need a) (length (drop n bs)) ≡ t → (backed need p bs ≡ got a n) ⊎ (backed need p bs ≡ refused END)
      go true f = inl (is_backed bs a n e (leb-true (need a) (length (drop n bs)) f))
      go false f = inr (not_backed bs a n e (leb-false (need a) (length (drop n bs)) f))

  pub backed_or_end : (bs : List ℕ) → (backed need p bs ≡ p bs) ⊎ (backed need p bs ≡ refused END)
  unfolding backed and_then
  backed_or_end bs = go (p bs) refl
    where
      go : (x : Found A) → p bs ≡ x → (backed need p bs ≡ p bs) ⊎ (backed need p bs ≡ refused END)
      go (got a n) e = ⊎_elim (λ f. inl (f ∙ sym e)) (λ f. inr f) (either bs a n e)
      go (refused why) e = inl (ap (onward (λ b. ahead (need b) b) bs) e ∙ sym e)

  pub backed_takes : Takes p → Takes (backed need p)
  backed_takes t bs a n e = t bs a n (was_backed bs a n e).0

  -- a lawful header that asks for bytes ahead is fair
  pub backed_fair : Lawful p → Fair (backed need p)
  backed_fair l =
      record {
        ends = λ bs a n e. l.ends bs a n (was_backed bs a n e).0;
        longer = λ bs cs a n e f h.
            let w = was_backed bs a n e in
            is_backed cs a n (same p l bs cs a n w.0 f) (omega (arith, w.1, length-drop n bs, length-drop n cs));
        other = λ bs cs a n e f. either cs a n (same p l bs cs a n (was_backed bs a n e).0 f);
      }

  -- at a place
  module _ (s : List ℕ) (at : ℕ) where
    pub backed_refused : (why : ℕ) → read_at p s at ≡ refused why → read_at (backed need p) s at ≡ refused why
    unfolding backed
    backed_refused why e = stop_at p (λ b. ahead (need b) b) s at why e

    module _ (a : A) (e : ℕ) (f : read_at p s at ≡ got a e) where
      pub backed_at : e + need a ≤ length s → read_at (backed need p) s at ≡ got a e
      unfolding backed read_at
      backed_at h = step p (λ b. ahead (need b) b) s at a e f ∙ ap (placed e) (ahead_there (need a) a (drop e s) (omega (arith, length-drop e s))) ∙ ap (got a) (add-zero e)

      pub backed_short : Lawful p → Takes p → length s < e + need a → read_at (backed need p) s at ≡ refused END
      unfolding backed read_at
      backed_short l t h =
          let g = found_at at (p (drop at s)) a e f in
          let i = l.ends (drop at s) a g.0 g.1 in
          let j = t (drop at s) a g.0 g.1 in
          step p (λ b. ahead (need b) b) s at a e f ∙ ap (placed e) (ahead_short (need a) a (drop e s) (omega (arith, length-drop e s, length-drop at s, g.2)))

-- the two headers
module _ (lim : TConfiguration) where
  pub items_head_fair : Fair (items_head lim)
  unfolding items_head
  items_head_fair = backed_fair _ (items lim) (items_lawful lim)

  -- the header itself, and the bytes ahead
  pub items_of : (bs : List ℕ) (h : TType × ℕ) (n : ℕ) → items_head lim bs ≡ got h n → items lim bs ≡ got h n
  unfolding items_head
  items_of bs h n e = (was_backed _ (items lim) bs h n e).0

  pub items_head_lem : (bs : List ℕ) (t : TType) (k n : ℕ) → items lim bs ≡ got (t, k) n → k * least_size t ≤ length (drop n bs) → items_head lim bs ≡ got (t, k) n
  unfolding items_head
  items_head_lem bs t k n e h = is_backed _ (items lim) bs (t, k) n e h

  pub pairs_of : (bs : List ℕ) (h : TType × TType × ℕ) (n : ℕ) → pairs_head lim bs ≡ got h n → pairs lim bs ≡ got h n
  unfolding pairs_head
  pairs_of bs h n e = (was_backed _ (pairs lim) bs h n e).0

  pub pairs_head_lem : (bs : List ℕ) (t u : TType) (k n : ℕ) → pairs lim bs ≡ got (t, u, k) n → k * least_size t + k * least_size u ≤ length (drop n bs) → pairs_head lim bs ≡ got (t, u, k) n
  unfolding pairs_head
  pairs_head_lem bs t u k n e h = is_backed _ (pairs lim) bs (t, u, k) n e h

  -- the bytes ahead change nothing but that some headers are END
  pub items_or_end : (bs : List ℕ) → (items_head lim bs ≡ items lim bs) ⊎ (items_head lim bs ≡ refused END)
  unfolding items_head
  items_or_end = backed_or_end _ (items lim)

  pub pairs_or_end : (bs : List ℕ) → (pairs_head lim bs ≡ pairs lim bs) ⊎ (pairs_head lim bs ≡ refused END)
  unfolding pairs_head
  pairs_or_end = backed_or_end _ (pairs lim)

  pub items_head_takes : Takes (items_head lim)
  unfolding items_head
  items_head_takes = backed_takes _ (items lim) (items_takes lim)

  pub pairs_head_fair : Fair (pairs_head lim)
  unfolding pairs_head
  pairs_head_fair = backed_fair _ (pairs lim) (pairs_lawful lim)

  pub pairs_head_takes : Takes (pairs_head lim)
  unfolding pairs_head
  pairs_head_takes = backed_takes _ (pairs lim) (pairs_takes lim)

-- at a place, the header itself
pub items_of_at : (lim : TConfiguration) (s : List ℕ) (at : ℕ) (h : TType × ℕ) (e : ℕ) → read_at (items_head lim) s at ≡ got h e → read_at (items lim) s at ≡ got h e
unfolding read_at
items_of_at lim s at h e f = let g = found_at at _ h e f in ap (placed at) (items_of lim (drop at s) h g.0 g.1) ∙ ap (got h) g.2

pub pairs_of_at : (lim : TConfiguration) (s : List ℕ) (at : ℕ) (h : TType × TType × ℕ) (e : ℕ) → read_at (pairs_head lim) s at ≡ got h e → read_at (pairs lim) s at ≡ got h e
unfolding read_at
pairs_of_at lim s at h e f = let g = found_at at _ h e f in ap (placed at) (pairs_of lim (drop at s) h g.0 g.1) ∙ ap (got h) g.2

-- least_bytes
module _ (n : ℕ) (kind : TType) where
  pub least_double : kind ≡ T.Double → n * 8 ≡ n * least_size kind
  least_double k = rw k

  pub least_uuid : kind ≡ T.Uuid → n * 16 ≡ n * least_size kind
  least_uuid k = rw k

  pub least_one : (t : TType) → kind ≡ t → least_size t ≡ 1 → n ≡ n * least_size kind
  least_one t k l = sym (rw (k, l) (mul-one n))

-- and they are far from 64 bits
module _ (n : ℕ) (f : Fits w32 n) where
  pub below_1 : n < 68719476736
  below_1 = omega (arith, f.fits)

  pub below_8 : n * 8 < 68719476736
  below_8 = omega (arith, f.fits)

  pub below_16 : n * 16 < 68719476736
  below_16 = omega (arith, f.fits)

pub ruleset least_cases = (least_double, least_uuid, least_one, below_1, below_8, below_16)

-- read_list_begin
pub is_list : (x : Found (TType × ℕ)) (t : TType) (n : ℕ) (p : Place) → to_list x ≡ L.Got t n p → x ≡ got (t, n) p.0
is_list (got h e) t n p f =
    let a : h.0 ≡ t = cc in
    let b : h.1 ≡ n = cc in
    let q : place e ≡ p = cc in
    ap₂ (λ (u : TType) (k : ℕ). got (u, k) e) a b ∙ ap (got (t, n)) (ap (λ (y : Place). y.0) q)
is_list (refused why) t n p f = let z : ◌≡◌ {A = ℕ} 0 1 = cc in absurd (omega arith)

pub no_list : (x : Found (TType × ℕ)) (why : ℕ) → to_list x ≡ L.Refused why → x ≡ refused why
no_list (got h e) why f = let z : ◌≡◌ {A = ℕ} 0 1 = cc in absurd (omega arith)
no_list (refused y) why f = let q : y ≡ why = cc in ap refused q

module _ (s : List ℕ) (lim : TConfiguration) (at : ℕ) (h : ListHead) (e : h ≡ items_at s lim at) where
  pub list_no : (why : ℕ) → h ≡ L.Refused why → L.Refused why ≡ items_head_at s lim at
  unfolding items_at items_head_at items_head
  list_no why g = sym (ap to_list (backed_refused _ (items lim) s at why (no_list (read_at (items lim) s at) why (sym e ∙ g))))

  module _ (t : TType) (n : ℕ) (p : Place) (g : h ≡ L.Got t n p) (m : ℕ) (b : Bool) (f : m ≡ n * least_size t) (l : b ≡ ltb (length s) (p.0 + m)) where
    pub list_there : b ≡ false → L.Got t n p ≡ items_head_at s lim at
    unfolding items_at items_head_at items_head
    list_there k =
        let o = ltb-false (length s) (p.0 + m) (sym l ∙ k) in
        sym (ap to_list (backed_at _ (items lim) s at (t, n) p.0 (is_list (read_at (items lim) s at) t n p (sym e ∙ g)) (omega (arith, f))))

    pub list_short_of : b ≡ true → L.Refused END ≡ items_head_at s lim at
    unfolding items_at items_head_at items_head
    list_short_of k =
        let o = ltb-true (length s) (p.0 + m) (sym l ∙ k) in
        sym (ap to_list (backed_short _ (items lim) s at (t, n) p.0 (is_list (read_at (items lim) s at) t n p (sym e ∙ g)) (items_lawful lim) (items_takes lim) (omega (arith, f))))

pub ruleset list_head_cases = (list_no, list_there, list_short_of)

-- read_map_begin
pub is_map : (x : Found (TType × TType × ℕ)) (k v : TType) (n : ℕ) (p : Place) → to_map x ≡ M.Got k v n p → x ≡ got (k, v, n) p.0
is_map (got h e) k v n p f =
    let a : h.0 ≡ k = cc in
    let b : h.1 ≡ v = cc in
    let c : h.2 ≡ n = cc in
    let q : place e ≡ p = cc in
    ap₂ (λ (u : TType) (j : ℕ). got (u, h.1, j) e) a c ∙ ap (λ (u : TType). got (k, u, n) e) b ∙ ap (got (k, v, n)) (ap (λ (y : Place). y.0) q)
is_map (refused why) k v n p f = let z : ◌≡◌ {A = ℕ} 0 1 = cc in absurd (omega arith)

pub no_map : (x : Found (TType × TType × ℕ)) (why : ℕ) → to_map x ≡ M.Refused why → x ≡ refused why
no_map (got h e) why f = let z : ◌≡◌ {A = ℕ} 0 1 = cc in absurd (omega arith)
no_map (refused y) why f = let q : y ≡ why = cc in ap refused q

module _ (s : List ℕ) (lim : TConfiguration) (at : ℕ) (h : MapHead) (e : h ≡ pairs_at s lim at) where
  pub map_no : (why : ℕ) → h ≡ M.Refused why → M.Refused why ≡ pairs_head_at s lim at
  unfolding pairs_at pairs_head_at pairs_head
  map_no why g = sym (ap to_map (backed_refused _ (pairs lim) s at why (no_map (read_at (pairs lim) s at) why (sym e ∙ g))))

  module _ (k v : TType) (n : ℕ) (p : Place) (g : h ≡ M.Got k v n p) (i j : ℕ) (b : Bool) (x : i ≡ n * least_size k) (y : j ≡ n * least_size v) (l : b ≡ ltb (length s) (p.0 + (i + j))) where
    pub map_there : b ≡ false → M.Got k v n p ≡ pairs_head_at s lim at
    unfolding pairs_at pairs_head_at pairs_head
    map_there t =
        let o = ltb-false (length s) (p.0 + (i + j)) (sym l ∙ t) in
        sym (ap to_map (backed_at _ (pairs lim) s at (k, v, n) p.0 (is_map (read_at (pairs lim) s at) k v n p (sym e ∙ g)) (omega (arith, x, y))))

    pub map_short_of : b ≡ true → M.Refused END ≡ pairs_head_at s lim at
    unfolding pairs_at pairs_head_at pairs_head
    map_short_of t =
        let o = ltb-true (length s) (p.0 + (i + j)) (sym l ∙ t) in
        sym (ap to_map (backed_short _ (pairs lim) s at (k, v, n) p.0 (is_map (read_at (pairs lim) s at) k v n p (sym e ∙ g)) (pairs_lawful lim) (pairs_takes lim) (omega (arith, x, y))))

pub ruleset map_head_cases = (map_no, map_there, map_short_of)
