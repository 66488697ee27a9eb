-- Nothing else breaks first: what `Breaks` says of some bytes, it says of one number and one path. Assumes nothing.
use mathlib.Core.Path.{◌≡◌, refl, sym, ap, ap₂, subst, ◌∙◌}
use mathlib.Core.Bool.{Bool, true, false, ◌&&◌}
use mathlib.Core.Logic.{◌⊎◌, inl, inr}
use mathlib.Core.List.{List, [], ◌∷◌, ◌++◌, append_assoc}
use Prim.Native.Nat.{ℕ, zero, suc, ◌+◌, ◌-◌, ◌*◌, ◌/◌, ◌%◌, ◌≤◌, ◌<◌}
use native.Mathlib.Omega.{arith}
use lib.ListN.{length, drop, length-append}
use lib.Seq.{drop_at}
use lib.IntN.{ℤ, pos}
use Rattle.types.specs.Refusals.{BAD_TYPE, DEPTH}
use Rattle.types.specs.Codes.{field_type}
use Rattle.types.specs.declared.TType.{TType}
use Rattle.types.specs.declared.TType.TheVariants as T
use Rattle.types.specs.declared.FieldType.{FieldType}
use Rattle.types.specs.declared.FieldType.TheVariants as F
use Rattle.types.specs.declared.TConfiguration.{TConfiguration}
use Rattle.types.specs.Value as val
use Rattle.types.specs.Value.{Tree, Trees, no_trees, tree, Pairs, no_pairs, pair, Fields, no_fields, size, size_p}
use Rattle.types.proofs.Limits.{both}
use Rattle.numbers.specs.Varint.{got, refused}
use Rattle.heads.specs.Reader.{Reader, Whole}
use Rattle.heads.specs.Heads as h
use Rattle.heads.specs.Heads.{least_size, Field}
use Rattle.heads.specs.Spells.{Spells, SpellsAll, SpellsPairs, SpellsFields}
use Rattle.heads.proofs.Lawful.{whole_front}
use Rattle.heads.proofs.Readers.{items_lawful, pairs_lawful, field_lawful, field_takes}
use Rattle.heads.proofs.Ahead.{is_backed}
use Rattle.skip.specs.Value.{startable}
use Rattle.skip.proofs.Complete.{complete}
use Rattle.faults.specs.Tracked as way
use Rattle.faults.specs.Tracked.{Step, Tried, Tracked, found, broke, done, refuse, and_then, provided, labelled, onward, after, under, byte, reach}
use Rattle.faults.specs.Heads as th
use Rattle.faults.specs.Heads.{items_head, pairs_head, field}
use Rattle.faults.specs.Value.{many, many_pairs, behind, fields, items_of, map_of, struct_of, Boxes, shut, roomy, shaped, tracked}
use Rattle.faults.specs.Breaks.{last_id, InElement, InField, InKey, InValue, Stops, FieldsEnd, End, Breaks}
use Rattle.faults.proofs.Rule.{int8_r, int16_r, int32_r, int64_r, double_r, uuid_r, truth_r, binary_r, items_head_r, pairs_head_r, field_r}
use Rattle.faults.proofs.Finds.{forget, Finds, finds}
use Rattle.faults.proofs.Paths.{steps, Near, near}
use Rattle.faults.proofs.Fuel.{fields_step}
use Rattle.faults.proofs.Theorems.{tracked_value}
use Rattle.faults.proofs.Parts.{never}
use Rattle.faults.proofs.Upto.{forgot, lost_so}

-- refused with a number and a path, so many bytes in
pub record Broken {A : Type 0} (x : Tried A) (why : ℕ) (path : List Step) : Type 0 where
  pub read : ℕ
  pub is : x ≡ broke why read path

-- in the first of two readers; in the second; inside a step
in_first : {A B : Type 0} (p : Tracked A) (k : A → Tracked B) (bs : List ℕ) (why : ℕ) (path : List Step) → Broken (p bs) why path → Broken (and_then p k bs) why path
unfolding and_then
in_first p k bs why path b = record { read = b.read; is = ap (onward k bs) b.is }

in_second : {A B : Type 0} (p : Tracked A) (k : A → Tracked B) (bs : List ℕ) (a : A) (n : ℕ) (why : ℕ) (path : List Step) → p bs ≡ found a n → Broken (k a (drop n bs)) why path → Broken (and_then p k bs) why path
unfolding and_then
in_second p k bs a n why path e b = record { read = n + b.read; is = ap (onward k bs) e ∙ ap (after n) b.is }

in_step : {A : Type 0} (i : Step) (p : Tracked A) (bs : List ℕ) (why : ℕ) (path : List Step) → Broken (p bs) why path → Broken (labelled i p bs) why (i ∷ path)
unfolding labelled
in_step i p bs why path b = record { read = b.read; is = ap (under i) b.is }

-- a test that holds, and one that fails
in_test : {A : Type 0} (ok : Bool) (w : ℕ) (p : Tracked A) (bs : List ℕ) (why : ℕ) (path : List Step) → ok ≡ true → Broken (p bs) why path → Broken (provided ok w p bs) why path
unfolding provided
in_test ok w p bs why path e b = record { read = b.read; is = rw e b.is }

by_test : {A : Type 0} (ok : Bool) (w : ℕ) (p : Tracked A) (bs : List ℕ) → ok ≡ false → Broken (provided ok w p bs) w []
unfolding provided
by_test ok w p bs e = record { read = 0; is = rw e }

-- what a reader refuses without a path
lone : {A : Type 0} (p : Tracked A) (q : Reader A) → ((bs : List ℕ) → forget (p bs) ≡ q bs) → ((bs : List ℕ) → steps (p bs) ≤ 0) → (bs : List ℕ) (why : ℕ) → q bs ≡ refused why → Broken (p bs) why []
lone p q is near bs why e = let b = lost_so (p bs) why (near bs) (is bs ∙ e) in record { read = b.0; is = b.1 }

-- behind bytes that are read whole
front : (a rest : List ℕ) → drop (length a) (a ++ rest) ≡ rest
front a rest = drop_at a rest (length a) refl

module _ (lim : TConfiguration) (room : ℕ) where
  abbrev inner : TType → Tracked Tree
  inner t = tracked lim room t

  inner_found : (t : TType) (v : Tree) (a rest : List ℕ) → Spells v lim room t a → inner t (a ++ rest) ≡ found v (length a)
  inner_found t v a rest s = forgot (inner t (a ++ rest)) v (length a) (tracked_value lim room t (a ++ rest) ∙ complete v lim room t a s rest)

  -- behind a spelt value that has a step of its own
  behind_step : {B : Type 0} (i : Step) (t : TType) (k : Tree → Tracked B) (v : Tree) (a rest : List ℕ) (why : ℕ) (path : List Step) → Spells v lim room t a → Broken (k v rest) why path → Broken (and_then (labelled i (inner t)) k (a ++ rest)) why path
  unfolding labelled
  behind_step i t k v a rest why path s b =
      in_second (labelled i (inner t)) k (a ++ rest) v (length a) why path (ap (under i) (inner_found t v a rest s))
      (subst (λ (cs : List ℕ). Broken (k v cs) why path) (sym (front a rest)) b)

  -- elements
  many_only : (before : Trees) (t : TType) (i k : ℕ) (body rest : List ℕ) (why : ℕ) (path : List Step) → SpellsAll before lim room t body → size before < k → Broken (inner t rest) why path → Broken (many (inner t) i k (body ++ rest)) why (way.element (i + size before) ∷ path)
  unfolding many SpellsAll size
  many_only no_trees t i zero body rest why path s l b = absurd (omega arith)
  many_only no_trees t i (suc k) body rest why path s l b =
      let z : i ≡ i + 0 = omega arith in
      subst (λ (j : ℕ). Broken (many (inner t) i (suc k) (body ++ rest)) why (way.element j ∷ path)) z
      (rw s (in_first (labelled (way.element i) (inner t)) _ rest why (way.element i ∷ path) (in_step (way.element i) (inner t) rest why path b)))
  many_only (tree v vs) t i zero body rest why path s l b = absurd (omega arith)
  many_only (tree v vs) t i (suc k) body rest why path (x, y, sv, ss, e) l b =
      let z : suc i + size vs ≡ i + suc (size vs) = omega arith in
      let m = many_only vs t (suc i) k y rest why path ss (omega arith) b in
      subst (λ (cs : List ℕ). Broken (many (inner t) i (suc k) cs) why (way.element (i + suc (size vs)) ∷ path)) (sym (ap (λ (cs : List ℕ). cs ++ rest) e ∙ append_assoc x y rest))
      (behind_step (way.element i) t _ v x (y ++ rest) why _ sv
      (in_first (many (inner t) (suc i) k) _ (y ++ rest) why _ (subst (λ (j : ℕ). Broken (many (inner t) (suc i) k (y ++ rest)) why (way.element j ∷ path)) z m)))

  -- pairs: up to the one in which it is
  pairs_only : (before : Pairs) (t u : TType) (i k : ℕ) (body rest : List ℕ) (why : ℕ) (step : ℕ → Step) (path : List Step) → SpellsPairs before lim room t u body → size_p before < k → ((j m : ℕ) → Broken (many_pairs (inner t) (inner u) j (suc m) rest) why (step j ∷ path)) → Broken (many_pairs (inner t) (inner u) i k (body ++ rest)) why (step (i + size_p before) ∷ path)
  unfolding many_pairs SpellsPairs size_p
  pairs_only no_pairs t u i zero body rest why step path s l b = absurd (omega arith)
  pairs_only no_pairs t u i (suc k) body rest why step path s l b =
      let z : i ≡ i + 0 = omega arith in
      subst (λ (j : ℕ). Broken (many_pairs (inner t) (inner u) i (suc k) (body ++ rest)) why (step j ∷ path)) z (rw s (b i k))
  pairs_only (pair v w ps) t u i zero body rest why step path s l b = absurd (omega arith)
  pairs_only (pair v w ps) t u i (suc k) body rest why step path (x, y, c, sv, sw, ss, e) l b =
      let z : suc i + size_p ps ≡ i + suc (size_p ps) = omega arith in
      let m = pairs_only ps t u (suc i) k c rest why step path ss (omega arith) b in
      subst (λ (cs : List ℕ). Broken (many_pairs (inner t) (inner u) i (suc k) cs) why (step (i + suc (size_p ps)) ∷ path)) (sym (ap (λ (cs : List ℕ). cs ++ rest) e ∙ append_assoc x (y ++ c) rest ∙ ap (λ (cs : List ℕ). x ++ cs) (append_assoc y c rest)))
      (behind_step (way.key i) t _ v x (y ++ (c ++ rest)) why _ sv
      (behind_step (way.value i) u _ w y (c ++ rest) why _ sw
      (in_first (many_pairs (inner t) (inner u) (suc i) k) _ (c ++ rest) why _ (subst (λ (j : ℕ). Broken (many_pairs (inner t) (inner u) (suc i) k (c ++ rest)) why (step j ∷ path)) z m))))

  -- fields
  field_is : (last : ℤ) (cs : List ℕ) → forget (field last cs) ≡ h.field last cs
  unfolding Finds
  field_is last cs = field_r Finds finds 0 last cs

  field_near : (last : ℤ) (cs : List ℕ) → steps (field last cs) ≤ 0
  unfolding Near
  field_near last cs = field_r Near near 0 last cs

  field_found : (last : ℤ) (x : Field) (a rest : List ℕ) → Whole (h.field last) x a → field last (a ++ rest) ≡ found x (length a)
  field_found last x a rest e = forgot (field last (a ++ rest)) x (length a) (field_is last (a ++ rest) ∙ whole_front (h.field last) (field_lawful last) a x e rest)

  behind_field : (last : ℤ) (x : Field) (a rest : List ℕ) (why : ℕ) (path : List Step) → Whole (h.field last) x a → Broken (behind inner (fields inner) x rest) why path → Broken (fields inner last (a ++ rest)) why path
  behind_field last x a rest why path e b =
      subst (λ (y : Tried Fields). Broken y why path) (sym (fields_step inner last (a ++ rest)))
      (in_second (field last) (behind inner (fields inner)) (a ++ rest) x (length a) why path (field_found last x a rest e)
      (subst (λ (cs : List ℕ). Broken (behind inner (fields inner) x cs) why path) (sym (front a rest)) b))

  -- a stop is one byte, and fields are one at least
  not_stop : {X A : Type 0} (x : Tried A) (mk : A → Field) (cs : List ℕ) (n : ℕ) → ((a : A) → mk a ≡ h.stop → ⊥) → after 1 (onward (λ a. done (mk a)) cs x) ≡ found h.stop n → X
  unfolding done
  not_stop (found a m) mk cs n other e = let z : mk a ≡ h.stop = cc in absurd (other a z)
  not_stop (broke why m path) mk cs n other e = never (sym e)

  stop_one : (last : ℤ) (bs : List ℕ) (n : ℕ) → field last bs ≡ found h.stop n → n ≡ 1
  unfolding field and_then byte done refuse
  stop_one last [] n e = never (sym e)
  stop_one last (b ∷ bs) n e = by (field_type (b % 16)) e
    where
      by : (x : FieldType) → after 1 (th.of_type last (b / 16) x bs) ≡ found h.stop n → n ≡ 1
      by F.Stop f = sym (ap reach f)
      by (F.Truth c) f = not_stop (th.field_id last (b / 16) bs) (h.bool c) bs n (λ a z. let o : ◌≡◌ {A = ℕ} 0 1 = cc in omega arith) f
      by (F.Kind t) f = not_stop (th.field_id last (b / 16) bs) (h.value t) bs n (λ a z. let o : ◌≡◌ {A = ℕ} 0 1 = cc in omega arith) f
      by (F.Refused why) f = never (sym f)

  some_bytes : (fs : Fields) (last : ℤ) (bs : List ℕ) → SpellsFields fs lim room last bs → 0 < length bs
  unfolding SpellsFields
  some_bytes no_fields last bs s = field_takes last bs h.stop (length bs) s
  some_bytes (val.field id v fs) last bs (a, b, c, k, ss, e) = omega (arith, ap length e, length-append a (b ++ c), length-append b c, some_bytes fs id c ss)

  -- the stop behind some fields is the last byte of what they are spelt with
  unstop : (x y body : List ℕ) → body ++ 0 ∷ [] ≡ x ++ y → 0 < length y → (z : List ℕ) × (y ≡ z ++ 0 ∷ []) × (body ≡ x ++ z)
  unstop [] y body e l = (body, sym e, refl)
  unstop (c ∷ x) y [] e l = absurd (omega (arith, ap length e, length-append x y))
  unstop (c ∷ x) y (d ∷ body) e l =
      let f : body ++ 0 ∷ [] ≡ x ++ y = cc in
      let g : d ≡ c = cc in
      let u = unstop x y body f l in
      (u.0, u.1, ap₂ (λ (k : ℕ) (b : List ℕ). k ∷ b) g u.2)

  fields_only : (before : Fields) (last : ℤ) (body rest : List ℕ) (why : ℕ) (path : List Step) → SpellsFields before lim room last (body ++ 0 ∷ []) → Broken (fields inner (last_id before last) rest) why path → Broken (fields inner last (body ++ rest)) why path
  unfolding SpellsFields last_id
  fields_only no_fields last body rest why path s b =
      let z : length (body ++ 0 ∷ []) ≡ 1 = stop_one last (body ++ 0 ∷ []) (length (body ++ 0 ∷ [])) (forgot (field last (body ++ 0 ∷ [])) h.stop _ (field_is last (body ++ 0 ∷ []) ∙ s)) in
      rw (empty body (omega (arith, z, length-append body (0 ∷ [])))) b
    where
      empty : (l : List ℕ) → length l ≡ 0 → l ≡ []
      empty [] e = refl
      empty (x ∷ l) e = absurd (omega arith)
  fields_only (val.field id v fs) last body rest why path (a, c, y, k, ss, e) b =
      let u = unstop (a ++ c) y body (e ∙ sym (append_assoc a c y)) (some_bytes fs id y ss) in
      let m = fields_only fs id u.0 rest why path (subst (SpellsFields fs lim room id) u.1 ss) b in
      subst (λ (cs : List ℕ). Broken (fields inner last cs) why path) (sym (ap (λ (cs : List ℕ). cs ++ rest) u.2 ∙ append_assoc (a ++ c) u.0 rest ∙ append_assoc a c (u.0 ++ rest)))
      (one k u.0 m)
    where
      one : ((x : Bool) × (v ≡ val.truth x) × Whole (h.field last) (h.bool x id) a × (c ≡ [])) ⊎ ((ty : TType) × Whole (h.field last) (h.value ty id) a × Spells v lim room ty c) → (z : List ℕ) → Broken (fields inner id (z ++ rest)) why path → Broken (fields inner last (a ++ (c ++ (z ++ rest)))) why path
      one (inl (x, f, w, g)) z m = rw g (behind_field last (h.bool x id) a (z ++ rest) why path w (in_first (fields inner id) _ (z ++ rest) why path m))
      one (inr (ty, w, s)) z m =
          behind_field last (h.value ty id) a (c ++ (z ++ rest)) why path w
          (behind_step (way.field id) ty _ v c (z ++ rest) why path s (in_first (fields inner id) _ (z ++ rest) why path m))

  -- the headers of containers
  items_is : (cs : List ℕ) → forget (items_head lim cs) ≡ h.items_head lim cs
  unfolding Finds
  items_is cs = items_head_r Finds finds 0 lim cs

  items_near : (cs : List ℕ) → steps (items_head lim cs) ≤ 0
  unfolding Near
  items_near cs = items_head_r Near near 0 lim cs

  pairs_is : (cs : List ℕ) → forget (pairs_head lim cs) ≡ h.pairs_head lim cs
  unfolding Finds
  pairs_is cs = pairs_head_r Finds finds 0 lim cs

  pairs_near : (cs : List ℕ) → steps (pairs_head lim cs) ≤ 0
  unfolding Near
  pairs_near cs = pairs_head_r Near near 0 lim cs

  items_found : (t : TType) (k : ℕ) (head rest : List ℕ) → Whole (h.items lim) (t, k) head → k * least_size t ≤ length rest → items_head lim (head ++ rest) ≡ found (t, k) (length head)
  unfolding h.items_head
  items_found t k head rest w l =
      forgot (items_head lim (head ++ rest)) (t, k) (length head)
      (items_is (head ++ rest) ∙ is_backed _ (h.items lim) (head ++ rest) (t, k) (length head) (whole_front (h.items lim) (items_lawful lim) head (t, k) w rest) (subst (λ (cs : List ℕ). k * least_size t ≤ length cs) (sym (front head rest)) l))

  pairs_found : (t u : TType) (k : ℕ) (head rest : List ℕ) → Whole (h.pairs lim) (t, u, k) head → k * least_size t + k * least_size u ≤ length rest → pairs_head lim (head ++ rest) ≡ found (t, u, k) (length head)
  unfolding h.pairs_head
  pairs_found t u k head rest w l =
      forgot (pairs_head lim (head ++ rest)) (t, u, k) (length head)
      (pairs_is (head ++ rest) ∙ is_backed _ (h.pairs lim) (head ++ rest) (t, u, k) (length head) (whole_front (h.pairs lim) (pairs_lawful lim) head (t, u, k) w rest) (subst (λ (cs : List ℕ). k * least_size t + k * least_size u ≤ length cs) (sym (front head rest)) l))

  -- in a list's or a set's element
  items_only : (g : TType → Trees → Tree) (t : TType) (k : ℕ) (before : Trees) (head body rest : List ℕ) (why : ℕ) (path : List Step) → Whole (h.items lim) (t, k) head → k * least_size t ≤ length (body ++ rest) → startable t k ≡ true → SpellsAll before lim room t body → size before < k → Broken (inner t rest) why path → Broken (items_of lim inner g (head ++ (body ++ rest))) why (way.element (size before) ∷ path)
  unfolding items_of
  items_only g t k before head body rest why path w l c s m b =
      let z : 0 + size before ≡ size before = omega arith in
      in_second (items_head lim) _ (head ++ (body ++ rest)) (t, k) (length head) why _ (items_found t k head (body ++ rest) w l)
      (subst (λ (cs : List ℕ). Broken (provided (startable t k) BAD_TYPE (and_then (many (inner t) 0 k) (λ ts. done (g t ts))) cs) why (way.element (size before) ∷ path)) (sym (front head (body ++ rest)))
      (in_test (startable t k) BAD_TYPE _ (body ++ rest) why _ c
      (in_first (many (inner t) 0 k) _ (body ++ rest) why _
      (subst (λ (j : ℕ). Broken (many (inner t) 0 k (body ++ rest)) why (way.element j ∷ path)) z (many_only before t 0 k body rest why path s m b)))))

  -- in a map's key or value
  map_only : (t u : TType) (k : ℕ) (before : Pairs) (head body rest : List ℕ) (why : ℕ) (step : ℕ → Step) (path : List Step) → Whole (h.pairs lim) (t, u, k) head → k * least_size t + k * least_size u ≤ length (body ++ rest) → startable t k && startable u k ≡ true → SpellsPairs before lim room t u body → size_p before < k → ((j m : ℕ) → Broken (many_pairs (inner t) (inner u) j (suc m) rest) why (step j ∷ path)) → Broken (map_of lim inner (head ++ (body ++ rest))) why (step (size_p before) ∷ path)
  unfolding map_of
  map_only t u k before head body rest why step path w l c s m b =
      let z : 0 + size_p before ≡ size_p before = omega arith in
      let d = both (startable t k) (startable u k) c in
      in_second (pairs_head lim) _ (head ++ (body ++ rest)) (t, u, k) (length head) why _ (pairs_found t u k head (body ++ rest) w l)
      (subst (λ (cs : List ℕ). Broken (provided (startable t k) BAD_TYPE (provided (startable u k) BAD_TYPE (and_then (many_pairs (inner t) (inner u) 0 k) (λ ps. done (val.map t u ps)))) cs) why (step (size_p before) ∷ path)) (sym (front head (body ++ rest)))
      (in_test (startable t k) BAD_TYPE _ (body ++ rest) why _ d.0
      (in_test (startable u k) BAD_TYPE _ (body ++ rest) why _ d.1
      (in_first (many_pairs (inner t) (inner u) 0 k) _ (body ++ rest) why _
      (subst (λ (j : ℕ). Broken (many_pairs (inner t) (inner u) 0 k (body ++ rest)) why (step j ∷ path)) z (pairs_only before t u 0 k body rest why step path s m b))))))

  in_key : (t u : TType) (rest : List ℕ) (why : ℕ) (path : List Step) → Broken (inner t rest) why path → (j m : ℕ) → Broken (many_pairs (inner t) (inner u) j (suc m) rest) why (way.key j ∷ path)
  unfolding many_pairs
  in_key t u rest why path b j m = in_first (labelled (way.key j) (inner t)) _ rest why _ (in_step (way.key j) (inner t) rest why path b)

  in_value : (t u : TType) (own : Tree) (mark rest : List ℕ) (why : ℕ) (path : List Step) → Spells own lim room t mark → Broken (inner u rest) why path → (j m : ℕ) → Broken (many_pairs (inner t) (inner u) j (suc m) (mark ++ rest)) why (way.value j ∷ path)
  unfolding many_pairs
  in_value t u own mark rest why path s b j m =
      behind_step (way.key j) t _ own mark rest why _ s (in_first (labelled (way.value j) (inner u)) _ rest why _ (in_step (way.value j) (inner u) rest why path b))

  -- in a field's value, and in its header
  struct_only : (before : Fields) (body rest : List ℕ) (why : ℕ) (path : List Step) → SpellsFields before lim room (pos 0) (body ++ 0 ∷ []) → Broken (fields inner (last_id before (pos 0)) rest) why path → Broken (struct_of inner (body ++ rest)) why path
  unfolding struct_of
  struct_only before body rest why path s b = in_first (fields inner (pos 0)) _ (body ++ rest) why path (fields_only before (pos 0) body rest why path s b)

  in_field : (last id : ℤ) (t : TType) (head rest : List ℕ) (why : ℕ) (path : List Step) → Whole (h.field last) (h.value t id) head → Broken (inner t rest) why path → Broken (fields inner last (head ++ rest)) why (way.field id ∷ path)
  in_field last id t head rest why path w b =
      behind_field last (h.value t id) head rest why _ w (in_first (labelled (way.field id) (inner t)) _ rest why _ (in_step (way.field id) (inner t) rest why path b))

  in_header_lem : (last : ℤ) (rest : List ℕ) (why n : ℕ) → Stops (h.field last) rest why n → Broken (fields inner last rest) why []
  in_header_lem last rest why n s =
      subst (λ (y : Tried Fields). Broken y why []) (sym (fields_step inner last rest))
      (in_first (field last) (behind inner (fields inner)) rest why [] (lone (field last) (h.field last) (field_is last) (field_near last) rest why s.refuses))

-- the path's end
module _ (lim : TConfiguration) (bs : List ℕ) (why n : ℕ) where
  leaf_only : {A : Type 0} (p : Tracked A) (q : Reader A) (g : A → Tree) → ((cs : List ℕ) → forget (p cs) ≡ q cs) → ((cs : List ℕ) → steps (p cs) ≤ 0) → Stops q bs why n → Broken (and_then p (λ a. done (g a)) bs) why []
  leaf_only p q g is near s = in_first p _ bs why [] (lone p q is near bs why s.refuses)

  at_once : (w : ℕ) → why ≡ w → Broken (refuse {A = Tree} w bs) why []
  unfolding refuse
  at_once w e = record { read = 0; is = ap (λ (u : ℕ). broke u 0 []) (sym e) }

  shaped_only : (room : ℕ) (b : Boxes) → (End lim room T.List bs why n → Broken (b.list bs) why []) → (End lim room T.Set bs why n → Broken (b.set bs) why []) → (End lim room T.Map bs why n → Broken (b.map bs) why []) → (End lim room T.Struct bs why n → Broken (b.struct bs) why []) → (ty : TType) → End lim room ty bs why n → Broken (shaped lim b ty bs) why []
  unfolding End Finds Near
  shaped_only room b l s m t T.Stop e = at_once BAD_TYPE e.0
  shaped_only room b l s m t T.Bool e = leaf_only th.truth h.truth val.truth (truth_r Finds finds 0) (truth_r Near near 0) e
  shaped_only room b l s m t T.I08 e = leaf_only th.int8 h.int8 val.i8 (int8_r Finds finds 0) (int8_r Near near 0) e
  shaped_only room b l s m t T.I16 e = leaf_only th.int16 h.int16 val.i16 (int16_r Finds finds 0) (int16_r Near near 0) e
  shaped_only room b l s m t T.I32 e = leaf_only th.int32 h.int32 val.i32 (int32_r Finds finds 0) (int32_r Near near 0) e
  shaped_only room b l s m t T.I64 e = leaf_only th.int64 h.int64 val.i64 (int64_r Finds finds 0) (int64_r Near near 0) e
  shaped_only room b l s m t T.Double e = leaf_only th.double h.double val.double (double_r Finds finds 0) (double_r Near near 0) e
  shaped_only room b l s m t T.String e = leaf_only (th.binary lim) (h.binary lim) val.bytes (binary_r Finds finds 0 lim) (binary_r Near near 0 lim) e
  shaped_only room b l s m t T.List e = l e
  shaped_only room b l s m t T.Set e = s e
  shaped_only room b l s m t T.Map e = m e
  shaped_only room b l s m t T.Struct e = t e
  shaped_only room b l s m t T.Uuid e = leaf_only th.uuid h.uuid val.uuid (uuid_r Finds finds 0) (uuid_r Near near 0) e

  module _ (room : ℕ) where
    stopped_items : (g : TType → Trees → Tree) (t : TType) (k : ℕ) → h.items_head lim bs ≡ got (t, k) n → startable t k ≡ false → why ≡ BAD_TYPE → Broken (items_of lim (tracked lim room) g bs) why []
    unfolding items_of
    stopped_items g t k e c w =
        in_second (items_head lim) _ bs (t, k) n why [] (forgot (items_head lim bs) (t, k) n (items_is lim room bs ∙ e))
        (subst (λ (u : ℕ). Broken (provided (startable t k) BAD_TYPE (and_then (many (tracked lim room t) 0 k) (λ ts. done (g t ts))) (drop n bs)) u []) (sym w) (by_test (startable t k) BAD_TYPE _ (drop n bs) c))

    items_end : (g : TType → Trees → Tree) → Stops (h.items_head lim) bs why n ⊎ ((t : TType) × (k : ℕ) × (h.items_head lim bs ≡ got (t, k) n) × (startable t k ≡ false) × (why ≡ BAD_TYPE)) → Broken (items_of lim (tracked lim room) g bs) why []
    unfolding items_of
    items_end g (inl s) = in_first (items_head lim) _ bs why [] (lone (items_head lim) (h.items_head lim) (items_is lim room) (items_near lim room) bs why s.refuses)
    items_end g (inr (t, k, e, c, w)) = stopped_items g t k e c w

    stopped_pairs : (t u : TType) (k : ℕ) → h.pairs_head lim bs ≡ got (t, u, k) n → (c d : Bool) → startable t k ≡ c → startable u k ≡ d → c && d ≡ false → Broken (map_of lim (tracked lim room) bs) BAD_TYPE []
    unfolding map_of
    stopped_pairs t u k e true true c d z = let o : ◌≡◌ {A = ℕ} 0 1 = cc in absurd (omega arith)
    stopped_pairs t u k e true false c d z =
        in_second (pairs_head lim) _ bs (t, u, k) n BAD_TYPE [] (forgot (pairs_head lim bs) (t, u, k) n (pairs_is lim room bs ∙ e))
        (in_test (startable t k) BAD_TYPE _ (drop n bs) BAD_TYPE [] c (by_test (startable u k) BAD_TYPE _ (drop n bs) d))
    stopped_pairs t u k e false d c y z =
        in_second (pairs_head lim) _ bs (t, u, k) n BAD_TYPE [] (forgot (pairs_head lim bs) (t, u, k) n (pairs_is lim room bs ∙ e)) (by_test (startable t k) BAD_TYPE _ (drop n bs) c)

    pairs_end : Stops (h.pairs_head lim) bs why n ⊎ ((t : TType) × (u : TType) × (k : ℕ) × (h.pairs_head lim bs ≡ got (t, u, k) n) × (startable t k && startable u k ≡ false) × (why ≡ BAD_TYPE)) → Broken (map_of lim (tracked lim room) bs) why []
    unfolding map_of
    pairs_end (inl s) = in_first (pairs_head lim) _ bs why [] (lone (pairs_head lim) (h.pairs_head lim) (pairs_is lim room) (pairs_near lim room) bs why s.refuses)
    pairs_end (inr (t, u, k, e, c, w)) =
        subst (λ (z : ℕ). Broken (map_of lim (tracked lim room) bs) z []) (sym w) (stopped_pairs t u k e (startable t k) (startable u k) refl refl c)

    fields_ending : FieldsEnd lim room (pos 0) bs why n → Broken (struct_of (tracked lim room) bs) why []
    fields_ending f =
        subst (λ (cs : List ℕ). Broken (struct_of (tracked lim room) cs) why []) (sym f.bytes)
        (struct_only lim room f.before f.body f.rest why [] f.spelt (in_header_lem lim room (last_id f.before (pos 0)) f.rest why f.more f.header))

one_less : (room : ℕ) → suc room - 1 ≡ room
one_less room = omega arith

end_only : (lim : TConfiguration) (room : ℕ) (ty : TType) (bs : List ℕ) (why n : ℕ) → End lim room ty bs why n → Broken (tracked lim room ty bs) why []
unfolding tracked End
end_only lim zero ty bs why n e = shaped_only lim bs why n zero shut shut_out shut_out shut_out shut_out ty e
  where
    shut_out : {X : Type 0} → ((zero ≡ 0) × (why ≡ DEPTH) × (n ≡ 0)) ⊎ ((0 < zero) × X) → Broken (refuse {A = Tree} DEPTH bs) why []
    shut_out (inl f) = at_once lim bs why n DEPTH f.1
    shut_out (inr f) = absurd (omega (arith, f.0))
end_only lim (suc room) ty bs why n e =
    shaped_only lim bs why n (suc room) (roomy lim (tracked lim room)) (let_in (items_end lim bs why n room val.list)) (let_in (items_end lim bs why n room val.set)) (let_in (pairs_end lim bs why n room))
    (let_in (λ f. fields_ending lim bs why n room (subst (λ (k : ℕ). FieldsEnd lim k (pos 0) bs why n) (one_less room) f))) ty e
  where
    let_in : {X Y : Type 0} → (X → Y) → ((suc room ≡ 0) × (why ≡ DEPTH) × (n ≡ 0)) ⊎ ((0 < suc room) × X) → Y
    let_in g (inl f) = absurd (omega (arith, f.0))
    let_in g (inr f) = g f.1

-- one step of the path
module _ (lim : TConfiguration) (room : ℕ) (bs : List ℕ) (why n : ℕ) (path : List Step) (ih : (t : TType) (cs : List ℕ) (m : ℕ) → Breaks path lim room t cs why m → Broken (tracked lim room t cs) why path) where
  abbrev Rest : TType → List ℕ → ℕ → Type 0
  Rest t cs m = Breaks path lim (suc room - 1) t cs why m

  deeper : (t : TType) (cs : List ℕ) (m : ℕ) → Rest t cs m → Broken (tracked lim room t cs) why path
  deeper t cs m b = ih t cs m (subst (λ (k : ℕ). Breaks path lim k t cs why m) (one_less room) b)

  in_element : (ty : TType) (i : ℕ) → InElement lim (suc room) ty bs n Rest i → Broken (tracked lim (suc room) ty bs) why (way.element i ∷ path)
  unfolding tracked
  in_element ty i x = by x.box
    where
      inside : (g : TType → Trees → Tree) → Broken (items_of lim (tracked lim room) g bs) why (way.element i ∷ path)
      inside g =
          subst (λ (cs : List ℕ). Broken (items_of lim (tracked lim room) g cs) why (way.element i ∷ path)) (sym x.bytes)
          (subst (λ (j : ℕ). Broken (items_of lim (tracked lim room) g (x.head ++ (x.body ++ x.rest))) why (way.element j ∷ path)) x.number
          (items_only lim room g x.kind x.count x.before x.head x.body x.rest why path x.header x.backed x.begun
          (subst (λ (k : ℕ). SpellsAll x.before lim k x.kind x.body) (one_less room) x.spelt) (omega (arith, x.number, x.among)) (deeper x.kind x.rest x.more x.inner)))

      by : (ty ≡ T.List) ⊎ (ty ≡ T.Set) → Broken (tracked lim (suc room) ty bs) why (way.element i ∷ path)
      by (inl e) = rw e (inside val.list)
      by (inr e) = rw e (inside val.set)

  in_own_field : (ty : TType) (id : ℤ) → InField lim (suc room) ty bs n Rest id → Broken (tracked lim (suc room) ty bs) why (way.field id ∷ path)
  unfolding tracked
  in_own_field ty id x =
      rw x.box
      (subst (λ (cs : List ℕ). Broken (struct_of (tracked lim room) cs) why (way.field id ∷ path)) (sym x.bytes)
      (struct_only lim room x.before x.body (x.head ++ x.rest) why (way.field id ∷ path)
      (subst (λ (k : ℕ). SpellsFields x.before lim k (pos 0) (x.body ++ 0 ∷ [])) (one_less room) x.spelt)
      (in_field lim room (last_id x.before (pos 0)) id x.kind x.head x.rest why path x.header (deeper x.kind x.rest x.more x.inner))))

  in_own_key : (ty : TType) (i : ℕ) → InKey lim (suc room) ty bs n Rest i → Broken (tracked lim (suc room) ty bs) why (way.key i ∷ path)
  unfolding tracked
  in_own_key ty i x =
      rw x.box
      (subst (λ (cs : List ℕ). Broken (map_of lim (tracked lim room) cs) why (way.key i ∷ path)) (sym x.bytes)
      (subst (λ (j : ℕ). Broken (map_of lim (tracked lim room) (x.head ++ (x.body ++ x.rest))) why (way.key j ∷ path)) x.number
      (map_only lim room x.key x.value x.count x.before x.head x.body x.rest why way.key path x.header x.backed x.begun
      (subst (λ (k : ℕ). SpellsPairs x.before lim k x.key x.value x.body) (one_less room) x.spelt) (omega (arith, x.number, x.among))
      (in_key lim room x.key x.value x.rest why path (deeper x.key x.rest x.more x.inner)))))

  in_own_value : (ty : TType) (i : ℕ) → InValue lim (suc room) ty bs n Rest i → Broken (tracked lim (suc room) ty bs) why (way.value i ∷ path)
  unfolding tracked
  in_own_value ty i x =
      rw x.box
      (subst (λ (cs : List ℕ). Broken (map_of lim (tracked lim room) cs) why (way.value i ∷ path)) (sym x.bytes)
      (subst (λ (j : ℕ). Broken (map_of lim (tracked lim room) (x.head ++ (x.body ++ (x.mark ++ x.rest)))) why (way.value j ∷ path)) x.number
      (map_only lim room x.key x.value x.count x.before x.head x.body (x.mark ++ x.rest) why way.value path x.header x.backed x.begun
      (subst (λ (k : ℕ). SpellsPairs x.before lim k x.key x.value x.body) (one_less room) x.spelt) (omega (arith, x.number, x.among))
      (in_value lim room x.key x.value x.own x.mark x.rest why path (subst (λ (k : ℕ). Spells x.own lim k x.key x.mark) (one_less room) x.keyed) (deeper x.value x.rest x.more x.inner)))))

-- what breaks so is refused so
pub only : (path : List Step) (lim : TConfiguration) (room : ℕ) (ty : TType) (bs : List ℕ) (why n : ℕ) → Breaks path lim room ty bs why n → Broken (tracked lim room ty bs) why path
unfolding Breaks
only [] lim room ty bs why n b = end_only lim room ty bs why n b
only (way.field id ∷ path) lim zero ty bs why n b = absurd (omega (arith, b.entered))
only (way.field id ∷ path) lim (suc room) ty bs why n b = in_own_field lim room bs why n path (λ t cs m. only path lim room t cs why m) ty id b
only (way.element i ∷ path) lim zero ty bs why n b = absurd (omega (arith, b.entered))
only (way.element i ∷ path) lim (suc room) ty bs why n b = in_element lim room bs why n path (λ t cs m. only path lim room t cs why m) ty i b
only (way.key i ∷ path) lim zero ty bs why n b = absurd (omega (arith, b.entered))
only (way.key i ∷ path) lim (suc room) ty bs why n b = in_own_key lim room bs why n path (λ t cs m. only path lim room t cs why m) ty i b
only (way.value i ∷ path) lim zero ty bs why n b = absurd (omega (arith, b.entered))
only (way.value i ∷ path) lim (suc room) ty bs why n b = in_own_value lim room bs why n path (λ t cs m. only path lim room t cs why m) ty i b

-- bytes break first in one way only
pub one_break : (lim : TConfiguration) (room : ℕ) (ty : TType) (bs : List ℕ) (p q : List Step) (why how n m : ℕ) → Breaks p lim room ty bs why n → Breaks q lim room ty bs how m → (why ≡ how) × (p ≡ q)
one_break lim room ty bs p q why how n m a b =
    let x = only p lim room ty bs why n a in
    let y = only q lim room ty bs how m b in
    let e : broke why x.read p ≡ broke how y.read q = sym x.is ∙ y.is in
    let u : why ≡ how = cc in
    let v : p ≡ q = cc in
    (u, v)
