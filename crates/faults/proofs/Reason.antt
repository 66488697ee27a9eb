-- The path is the way to where the value first breaks. Assumes nothing.
use mathlib.Core.Path.{◌≡◌, refl, sym, ap, subst, ◌∙◌}
use mathlib.Core.Bool.{Bool, true, ◌&&◌}
use mathlib.Core.Logic.{◌⊎◌, inl, inr}
use mathlib.Core.List.{List, [], ◌∷◌, ◌++◌, append_assoc}
use Prim.Native.Nat.{ℕ, zero, suc, ◌+◌, ◌-◌, ◌*◌, ◌≤◌, ◌<◌}
use native.Mathlib.Omega.{arith}
use lib.ListN.{length, take, drop, length-append}
use lib.IntN.{ℤ, pos}
use Rattle.types.specs.Refusals.{BAD_TYPE}
use Rattle.types.specs.Codes.{field_type}
use Rattle.types.specs.declared.TType.{TType}
use Rattle.types.specs.declared.TType.TheVariants as T
use Rattle.types.specs.declared.TConfiguration.{TConfiguration}
use Rattle.types.specs.Value as val
use Rattle.types.specs.Value.{Tree, Trees, no_trees, tree, Pairs, no_pairs, pair, Fields, no_fields, size, size_p}
use Rattle.numbers.specs.Varint.{got}
use Rattle.heads.specs.Reader as r
use Rattle.heads.specs.Reader.{Whole}
use Rattle.heads.specs.Heads as h
use Rattle.heads.specs.Heads.{least_size, Field}
use Rattle.heads.specs.Spells.{Spells, SpellsAll, SpellsPairs, SpellsFields}
use Rattle.heads.proofs.Ahead.{was_backed}
use Rattle.heads.proofs.Readers.{items_lawful, pairs_lawful, field_lawful}
use Rattle.skip.specs.Value.{startable, value_of}
use Rattle.skip.proofs.Sound.{sound}
use Rattle.skip.proofs.Lawfuls.{value_lawful}
use Rattle.faults.specs.Tracked as way
use Rattle.faults.specs.Tracked.{Step, Tried, Tracked, found, broke, done, missing, and_then, provided, labelled}
use Rattle.faults.specs.Heads.{items_head, pairs_head, field}
use Rattle.faults.specs.Value.{many, many_pairs, behind, walk, fields, items_of, map_of, struct_of, tracked}
use Rattle.faults.specs.Breaks.{last_id, Breaks}
use Rattle.faults.proofs.Rule.{items_head_r, pairs_head_r, field_r}
use Rattle.faults.proofs.Finds.{forget, Finds, finds}
use Rattle.faults.proofs.Paths.{steps, Near, near}
use Rattle.faults.proofs.Theorems.{tracked_value, tracked_near}
use Rattle.faults.proofs.Parts.{never, Later, parted, unmade, inside, unlabelled, no_step, test_passed, test_held, was_got, front_long, front_whole, halves, joined}
use Rattle.faults.proofs.Ends.{ends}

module _ (lim : TConfiguration) (room : ℕ) where
  abbrev inner : TType → Tracked Tree
  inner t = tracked lim room t

  inner_spelt : (t : TType) (bs : List ℕ) (a : Tree) (n : ℕ) → inner t bs ≡ found a n → Spells a lim room t (take n bs)
  inner_spelt t bs a n e = sound lim room t bs a n (was_got (inner t) (value_of lim room t) (tracked_value lim room t) bs a n e)

  inner_long : (t : TType) (bs : List ℕ) (a : Tree) (n : ℕ) → inner t bs ≡ found a n → length (take n bs) ≡ n
  inner_long t bs a n e = front_long (value_of lim room t) (value_lawful lim room t) bs a n (was_got (inner t) (value_of lim room t) (tracked_value lim room t) bs a n e)

  -- elements
  record Among (t : TType) (i k : ℕ) (bs : List ℕ) (why n : ℕ) (s : Step) (path : List Step) : Type 0 where
    before : Trees
    body : List ℕ
    rest : List ℕ
    more : ℕ
    step : s ≡ way.element (i + size before)
    among : size before < k
    spelt : SpellsAll before lim room t body
    bytes : bs ≡ body ++ rest
    reached : n ≡ length body + more
    broken : inner t rest ≡ broke why more path

  many_broke : (t : TType) (i k : ℕ) (bs : List ℕ) (why n : ℕ) (s : Step) (path : List Step) → many (inner t) i k bs ≡ broke why n (s ∷ path) → Among t i k bs why n s path
  unfolding many labelled SpellsAll size done
  many_broke t i zero bs why n s path e = never e
  many_broke t i (suc k) bs why n s path e = by (parted (labelled (way.element i) (inner t)) _ bs why n (s ∷ path) e) (λ cs m. many_broke t (suc i) k cs why m s path)
    where
      by : (labelled (way.element i) (inner t) bs ≡ broke why n (s ∷ path)) ⊎ Later (labelled (way.element i) (inner t) bs) (λ a. and_then (many (inner t) (suc i) k) (λ ts. done (tree a ts))) bs why n (s ∷ path) → ((cs : List ℕ) (m : ℕ) → many (inner t) (suc i) k cs ≡ broke why m (s ∷ path) → Among t (suc i) k cs why m s path) → Among t i (suc k) bs why n s path
      by (inl f) ih =
          let g = inside (way.element i) (inner t bs) why n s path f in
          let z : i ≡ i + 0 = omega arith in
          record {
            before = no_trees;
            body = [];
            rest = bs;
            more = n;
            step = g.0 ∙ ap way.element z;
            among = omega arith;
            spelt = refl;
            bytes = refl;
            reached = omega arith;
            broken = g.1;
          }
      by (inr f) ih =
          let g = unlabelled (way.element i) (inner t bs) f.one f.used f.first in
          let m = ih (drop f.used bs) f.more (unmade (many (inner t) (suc i) k) (tree f.one) (drop f.used bs) why f.more (s ∷ path) f.second) in
          let z : suc i + size m.before ≡ i + suc (size m.before) = omega arith in
          record {
            before = tree f.one m.before;
            body = take f.used bs ++ m.body;
            rest = m.rest;
            more = m.more;
            step = m.step ∙ ap way.element z;
            among = omega (arith, m.among);
            spelt = (take f.used bs, m.body, inner_spelt t bs f.one f.used g, m.spelt, refl);
            bytes = joined f.used bs m.body m.rest m.bytes;
            reached = omega (arith, f.all, m.reached, length-append (take f.used bs) m.body, inner_long t bs f.one f.used g);
            broken = m.broken;
          }

  -- pairs: in a key, or in a value behind its key
  record AmongKeys (t u : TType) (i k : ℕ) (bs : List ℕ) (why n : ℕ) (s : Step) (path : List Step) : Type 0 where
    before : Pairs
    body : List ℕ
    rest : List ℕ
    more : ℕ
    step : s ≡ way.key (i + size_p before)
    among : size_p before < k
    spelt : SpellsPairs before lim room t u body
    bytes : bs ≡ body ++ rest
    reached : n ≡ length body + more
    broken : inner t rest ≡ broke why more path

  record AmongValues (t u : TType) (i k : ℕ) (bs : List ℕ) (why n : ℕ) (s : Step) (path : List Step) : Type 0 where
    before : Pairs
    own : Tree
    body : List ℕ
    mark : List ℕ
    rest : List ℕ
    more : ℕ
    step : s ≡ way.value (i + size_p before)
    among : size_p before < k
    spelt : SpellsPairs before lim room t u body
    keyed : Spells own lim room t mark
    bytes : bs ≡ body ++ (mark ++ rest)
    reached : n ≡ length body + (length mark + more)
    broken : inner u rest ≡ broke why more path

  abbrev AmongPairs : TType → TType → ℕ → ℕ → List ℕ → ℕ → ℕ → Step → List Step → Type 0
  AmongPairs t u i k bs why n s path = AmongKeys t u i k bs why n s path ⊎ AmongValues t u i k bs why n s path

  -- one pair before
  module _ (t u : TType) (i k : ℕ) (bs : List ℕ) (why n : ℕ) (s : Step) (path : List Step) (a b : Tree) (x y m : ℕ) (ea : inner t bs ≡ found a x) (eb : inner u (drop x bs) ≡ found b y) (q : n ≡ x + (y + m)) where
    pair_before : AmongPairs t u (suc i) k (drop y (drop x bs)) why m s path → AmongPairs t u i (suc k) bs why n s path
    unfolding SpellsPairs size_p
    pair_before (inl f) =
        let z : suc i + size_p f.before ≡ i + suc (size_p f.before) = omega arith in
        inl (record {
          before = pair a b f.before;
          body = take x bs ++ (take y (drop x bs) ++ f.body);
          rest = f.rest;
          more = f.more;
          step = f.step ∙ ap way.key z;
          among = omega (arith, f.among);
          spelt = (take x bs, take y (drop x bs), f.body, inner_spelt t bs a x ea, inner_spelt u (drop x bs) b y eb, f.spelt, refl);
          bytes = joined x bs (take y (drop x bs) ++ f.body) f.rest (joined y (drop x bs) f.body f.rest f.bytes);
          reached = omega (arith, q, f.reached, length-append (take x bs) (take y (drop x bs) ++ f.body), length-append (take y (drop x bs)) f.body, inner_long t bs a x ea, inner_long u (drop x bs) b y eb);
          broken = f.broken;
        })
    pair_before (inr f) =
        let z : suc i + size_p f.before ≡ i + suc (size_p f.before) = omega arith in
        inr (record {
          before = pair a b f.before;
          own = f.own;
          body = take x bs ++ (take y (drop x bs) ++ f.body);
          mark = f.mark;
          rest = f.rest;
          more = f.more;
          step = f.step ∙ ap way.value z;
          among = omega (arith, f.among);
          spelt = (take x bs, take y (drop x bs), f.body, inner_spelt t bs a x ea, inner_spelt u (drop x bs) b y eb, f.spelt, refl);
          keyed = f.keyed;
          bytes = joined x bs (take y (drop x bs) ++ f.body) (f.mark ++ f.rest) (joined y (drop x bs) f.body (f.mark ++ f.rest) f.bytes);
          reached = omega (arith, q, f.reached, length-append (take x bs) (take y (drop x bs) ++ f.body), length-append (take y (drop x bs)) f.body, inner_long t bs a x ea, inner_long u (drop x bs) b y eb);
          broken = f.broken;
        })

  pairs_broke : (t u : TType) (i k : ℕ) (bs : List ℕ) (why n : ℕ) (s : Step) (path : List Step) → many_pairs (inner t) (inner u) i k bs ≡ broke why n (s ∷ path) → AmongPairs t u i k bs why n s path
  unfolding many_pairs labelled SpellsPairs size_p done
  pairs_broke t u i zero bs why n s path e = never e
  pairs_broke t u i (suc k) bs why n s path e = by (parted (labelled (way.key i) (inner t)) _ bs why n (s ∷ path) e) (λ cs m. pairs_broke t u (suc i) k cs why m s path)
    where
      second : (a : Tree) (x m : ℕ) → inner t bs ≡ found a x → n ≡ x + m → (labelled (way.value i) (inner u) (drop x bs) ≡ broke why m (s ∷ path)) ⊎ Later (labelled (way.value i) (inner u) (drop x bs)) (λ b. and_then (many_pairs (inner t) (inner u) (suc i) k) (λ ps. done (pair a b ps))) (drop x bs) why m (s ∷ path) → ((cs : List ℕ) (m : ℕ) → many_pairs (inner t) (inner u) (suc i) k cs ≡ broke why m (s ∷ path) → AmongPairs t u (suc i) k cs why m s path) → AmongPairs t u i (suc k) bs why n s path
      second a x m ea q (inl f) ih =
          let g = inside (way.value i) (inner u (drop x bs)) why m s path f in
          let z : i ≡ i + 0 = omega arith in
          inr (record {
            before = no_pairs;
            own = a;
            body = [];
            mark = take x bs;
            rest = drop x bs;
            more = m;
            step = g.0 ∙ ap way.value z;
            among = omega arith;
            spelt = refl;
            keyed = inner_spelt t bs a x ea;
            bytes = halves x bs;
            reached = omega (arith, q, inner_long t bs a x ea);
            broken = g.1;
          })
      second a x m ea q (inr f) ih =
          let g = unlabelled (way.value i) (inner u (drop x bs)) f.one f.used f.first in
          let j = ih (drop f.used (drop x bs)) f.more (unmade (many_pairs (inner t) (inner u) (suc i) k) (pair a f.one) (drop f.used (drop x bs)) why f.more (s ∷ path) f.second) in
          pair_before t u i k bs why n s path a f.one x f.used f.more ea g (omega (arith, q, f.all)) j

      by : (labelled (way.key i) (inner t) bs ≡ broke why n (s ∷ path)) ⊎ Later (labelled (way.key i) (inner t) bs) (λ a. and_then (labelled (way.value i) (inner u)) (λ b. and_then (many_pairs (inner t) (inner u) (suc i) k) (λ ps. done (pair a b ps)))) bs why n (s ∷ path) → ((cs : List ℕ) (m : ℕ) → many_pairs (inner t) (inner u) (suc i) k cs ≡ broke why m (s ∷ path) → AmongPairs t u (suc i) k cs why m s path) → AmongPairs t u i (suc k) bs why n s path
      by (inl f) ih =
          let g = inside (way.key i) (inner t bs) why n s path f in
          let z : i ≡ i + 0 = omega arith in
          inl (record {
            before = no_pairs;
            body = [];
            rest = bs;
            more = n;
            step = g.0 ∙ ap way.key z;
            among = omega arith;
            spelt = refl;
            bytes = refl;
            reached = omega arith;
            broken = g.1;
          })
      by (inr f) ih =
          let g = unlabelled (way.key i) (inner t bs) f.one f.used f.first in
          second f.one f.used f.more g f.all (parted (labelled (way.value i) (inner u)) _ (drop f.used bs) why f.more (s ∷ path) f.second) ih

  -- fields
  record AmongFields (last : ℤ) (bs : List ℕ) (why n : ℕ) (s : Step) (path : List Step) : Type 0 where
    id : ℤ
    kind : TType
    before : Fields
    body : List ℕ
    head : List ℕ
    rest : List ℕ
    more : ℕ
    step : s ≡ way.field id
    spelt : SpellsFields before lim room last (body ++ 0 ∷ [])
    header : Whole (h.field (last_id before last)) (h.value kind id) head
    bytes : bs ≡ body ++ (head ++ rest)
    reached : n ≡ length body + (length head + more)
    broken : inner kind rest ≡ broke why more path

  stop_whole : (last : ℤ) → Whole (h.field last) h.stop (0 ∷ [])
  unfolding h.field r.and_then r.byte r.done field_type
  stop_whole last = refl

  field_near : {X : Type 0} (last : ℤ) (bs : List ℕ) (why n : ℕ) (s : Step) (path : List Step) → field last bs ≡ broke why n (s ∷ path) → X
  unfolding Near
  field_near last bs why n s path e = no_step (field last bs) why n s path (field_r Near near 0 last bs) e

  field_is : (last : ℤ) (cs : List ℕ) → forget (field last cs) ≡ h.field last cs
  unfolding Finds
  field_is last cs = field_r Finds finds 0 last cs

  -- one field before
  module _ (last : ℤ) (bs : List ℕ) (why n : ℕ) (s : Step) (path : List Step) (x : Field) (a : ℕ) (e : field last bs ≡ found x a) where
    head_long : length (take a bs) ≡ a
    head_long = front_long (h.field last) (field_lawful last) bs x a (was_got (field last) (h.field last) (field_is last) bs x a e)

    head_whole : Whole (h.field last) x (take a bs)
    head_whole = front_whole (h.field last) (field_lawful last) bs x a (was_got (field last) (h.field last) (field_is last) bs x a e)

    bool_before : (b : Bool) (id : ℤ) (m : ℕ) → x ≡ h.bool b id → n ≡ a + m → AmongFields id (drop a bs) why m s path → AmongFields last bs why n s path
    unfolding SpellsFields last_id
    bool_before b id m g q f =
        record {
          id = f.id;
          kind = f.kind;
          before = val.field id (val.truth b) f.before;
          body = take a bs ++ f.body;
          head = f.head;
          rest = f.rest;
          more = f.more;
          step = f.step;
          spelt = (take a bs, [], f.body ++ 0 ∷ [], inl (b, refl, subst (λ (y : Field). Whole (h.field last) y (take a bs)) g head_whole, refl), f.spelt, append_assoc (take a bs) f.body (0 ∷ []));
          header = f.header;
          bytes = joined a bs f.body (f.head ++ f.rest) f.bytes;
          reached = omega (arith, q, f.reached, length-append (take a bs) f.body, head_long);
          broken = f.broken;
        }

    value_before : (t : TType) (id : ℤ) (v : Tree) (c m : ℕ) → x ≡ h.value t id → inner t (drop a bs) ≡ found v c → n ≡ a + (c + m) → AmongFields id (drop c (drop a bs)) why m s path → AmongFields last bs why n s path
    unfolding SpellsFields last_id
    value_before t id v c m g i q f =
        let cs = take c (drop a bs) in
        record {
          id = f.id;
          kind = f.kind;
          before = val.field id v f.before;
          body = take a bs ++ (cs ++ f.body);
          head = f.head;
          rest = f.rest;
          more = f.more;
          step = f.step;
          spelt = (
            take a bs,
            cs,
            f.body ++ 0 ∷ [],
            inr (t, subst (λ (y : Field). Whole (h.field last) y (take a bs)) g head_whole, inner_spelt t (drop a bs) v c i),
            f.spelt,
            append_assoc (take a bs) (cs ++ f.body) (0 ∷ []) ∙ ap (λ (l : List ℕ). take a bs ++ l) (append_assoc cs f.body (0 ∷ [])),
          );
          header = f.header;
          bytes = joined a bs (cs ++ f.body) (f.head ++ f.rest) (joined c (drop a bs) f.body (f.head ++ f.rest) f.bytes);
          reached = omega (arith, q, f.reached, length-append (take a bs) (cs ++ f.body), length-append cs f.body, head_long, inner_long t (drop a bs) v c i);
          broken = f.broken;
        }

    here_broken : (t : TType) (id : ℤ) (m : ℕ) → x ≡ h.value t id → s ≡ way.field id → inner t (drop a bs) ≡ broke why m path → n ≡ a + m → AmongFields last bs why n s path
    unfolding SpellsFields last_id
    here_broken t id m g z i q =
        record {
          id = id;
          kind = t;
          before = no_fields;
          body = [];
          head = take a bs;
          rest = drop a bs;
          more = m;
          step = z;
          spelt = stop_whole last;
          header = subst (λ (y : Field). Whole (h.field last) y (take a bs)) g head_whole;
          bytes = halves a bs;
          reached = omega (arith, q, head_long);
          broken = i;
        }

  module _ (go : ℤ → Tracked Fields) (why : ℕ) (s : Step) (path : List Step) (ih : (id : ℤ) (cs : List ℕ) (m : ℕ) → go id cs ≡ broke why m (s ∷ path) → AmongFields id cs why m s path) where
    behind_broke : (last : ℤ) (bs : List ℕ) (n : ℕ) (x : Field) (a m : ℕ) → field last bs ≡ found x a → n ≡ a + m → behind inner go x (drop a bs) ≡ broke why m (s ∷ path) → AmongFields last bs why n s path
    unfolding done labelled
    behind_broke last bs n h.stop a m e q f = never f
    behind_broke last bs n (h.bool b id) a m e q f =
        bool_before last bs why n s path (h.bool b id) a e b id m refl q (ih id (drop a bs) m (unmade (go id) (val.field id (val.truth b)) (drop a bs) why m (s ∷ path) f))
    behind_broke last bs n (h.value t id) a m e q f = by (parted (labelled (way.field id) (inner t)) _ (drop a bs) why m (s ∷ path) f)
      where
        by : (labelled (way.field id) (inner t) (drop a bs) ≡ broke why m (s ∷ path)) ⊎ Later (labelled (way.field id) (inner t) (drop a bs)) (λ v. and_then (go id) (λ fs. done (val.field id v fs))) (drop a bs) why m (s ∷ path) → AmongFields last bs why n s path
        by (inl g) =
            let i = inside (way.field id) (inner t (drop a bs)) why m s path g in
            here_broken last bs why n s path (h.value t id) a e t id m refl i.0 i.1 q
        by (inr g) =
            let i = unlabelled (way.field id) (inner t (drop a bs)) g.one g.used g.first in
            value_before last bs why n s path (h.value t id) a e t id g.one g.used g.more refl i (omega (arith, q, g.all))
            (ih id (drop g.used (drop a bs)) g.more (unmade (go id) (val.field id g.one) (drop g.used (drop a bs)) why g.more (s ∷ path) g.second))

  walk_broke : (k : ℕ) (last : ℤ) (bs : List ℕ) (why n : ℕ) (s : Step) (path : List Step) → walk inner k last bs ≡ broke why n (s ∷ path) → AmongFields last bs why n s path
  unfolding walk missing
  walk_broke zero last bs why n s path e = no_step _ why n s path (omega arith) e
  walk_broke (suc k) last bs why n s path e =
      by (parted (field last) (behind inner (walk inner k)) bs why n (s ∷ path) e) (λ id cs m. walk_broke k id cs why m s path)
    where
      by : (field last bs ≡ broke why n (s ∷ path)) ⊎ Later (field last bs) (behind inner (walk inner k)) bs why n (s ∷ path) → ((id : ℤ) (cs : List ℕ) (m : ℕ) → walk inner k id cs ≡ broke why m (s ∷ path) → AmongFields id cs why m s path) → AmongFields last bs why n s path
      by (inl f) ih = field_near last bs why n s path f
      by (inr f) ih = behind_broke (walk inner k) why s path ih last bs n f.one f.used f.more f.first f.all f.second

-- one level: the steps into each of the four that hold others
one_less : (room : ℕ) → room ≡ suc room - 1
one_less room = omega arith

module _ (lim : TConfiguration) (room : ℕ) (bs : List ℕ) (why n : ℕ) (s : Step) (path : List Step) (ih : (t : TType) (cs : List ℕ) (m : ℕ) → tracked lim room t cs ≡ broke why m path → Breaks path lim room t cs why m) where
  deeper : (t : TType) (cs : List ℕ) (m : ℕ) → tracked lim room t cs ≡ broke why m path → Breaks path lim (suc room - 1) t cs why m
  deeper t cs m e = subst (λ (k : ℕ). Breaks path lim k t cs why m) (one_less room) (ih t cs m e)

  header_near : {A X : Type 0} (x : Tried A) → steps x ≤ 0 → x ≡ broke why n (s ∷ path) → X
  header_near x l e = no_step x why n s path l e

  -- the headers of containers, and the bytes ahead of them
  items_found : (x : TType × ℕ) (a : ℕ) → items_head lim bs ≡ found x a → (h.items lim bs ≡ got x a) × (x.1 * least_size x.0 ≤ length (drop a bs))
  unfolding Finds h.items_head
  items_found x a e = was_backed _ (h.items lim) bs x a (was_got (items_head lim) (h.items_head lim) (items_head_r Finds finds 0 lim) bs x a e)

  pairs_found : (x : TType × TType × ℕ) (a : ℕ) → pairs_head lim bs ≡ found x a → (h.pairs lim bs ≡ got x a) × (x.2 * least_size x.0 + x.2 * least_size x.1 ≤ length (drop a bs))
  unfolding Finds h.pairs_head
  pairs_found x a e = was_backed _ (h.pairs lim) bs x a (was_got (pairs_head lim) (h.pairs_head lim) (pairs_head_r Finds finds 0 lim) bs x a e)

  items_breaks : (ty : TType) → ((ty ≡ T.List) ⊎ (ty ≡ T.Set)) → (g : TType → Trees → Tree) → items_of lim (tracked lim room) g bs ≡ broke why n (s ∷ path) → Breaks (s ∷ path) lim (suc room) ty bs why n
  unfolding items_of Breaks Near Finds
  items_breaks ty o g e = by (parted (items_head lim) (λ x. provided (startable x.0 x.1) BAD_TYPE (and_then (many (tracked lim room x.0) 0 x.1) (λ ts. done (g x.0 ts)))) bs why n (s ∷ path) e)
    where
      by : (items_head lim bs ≡ broke why n (s ∷ path)) ⊎ Later (items_head lim bs) (λ x. provided (startable x.0 x.1) BAD_TYPE (and_then (many (tracked lim room x.0) 0 x.1) (λ ts. done (g x.0 ts)))) bs why n (s ∷ path) → Breaks (s ∷ path) lim (suc room) ty bs why n
      by (inl f) = header_near (items_head lim bs) (items_head_r Near near 0 lim bs) f
      by (inr f) =
          let x = f.one in
          let cs = drop f.used bs in
          let m = many_broke lim room x.0 0 x.1 cs why f.more s path (unmade _ (g x.0) cs why f.more (s ∷ path) (test_passed _ BAD_TYPE _ cs why f.more s path f.second)) in
          let i = items_found x f.used f.first in
          let z : 0 + size m.before ≡ size m.before = omega arith in
          subst (λ (i : Step). Breaks (i ∷ path) lim (suc room) ty bs why n) (sym (m.step ∙ ap way.element z))
          (record {
            kind = x.0;
            count = x.1;
            before = m.before;
            head = take f.used bs;
            body = m.body;
            rest = m.rest;
            more = m.more;
            box = o;
            entered = omega arith;
            header = front_whole (h.items lim) (items_lawful lim) bs x f.used i.0;
            backed = subst (λ (l : List ℕ). x.1 * least_size x.0 ≤ length l) m.bytes i.1;
            begun = test_held _ BAD_TYPE _ cs why f.more s path f.second;
            number = refl;
            among = m.among;
            spelt = subst (λ (k : ℕ). SpellsAll m.before lim k x.0 m.body) (one_less room) m.spelt;
            bytes = halves f.used bs ∙ ap (λ (l : List ℕ). take f.used bs ++ l) m.bytes;
            reached = omega (arith, f.all, m.reached, front_long (h.items lim) (items_lawful lim) bs x f.used i.0);
            inner = deeper x.0 m.rest m.more m.broken;
          })

  map_breaks : map_of lim (tracked lim room) bs ≡ broke why n (s ∷ path) → Breaks (s ∷ path) lim (suc room) T.Map bs why n
  unfolding map_of Breaks Near Finds
  map_breaks e = by (parted (pairs_head lim) _ bs why n (s ∷ path) e)
    where
      after_head : (x : TType × TType × ℕ) (a m : ℕ) → pairs_head lim bs ≡ found x a → n ≡ a + m → startable x.0 x.2 && startable x.1 x.2 ≡ true → AmongPairs lim room x.0 x.1 0 x.2 (drop a bs) why m s path → Breaks (s ∷ path) lim (suc room) T.Map bs why n
      after_head x a m f q held (inl g) =
          let i = pairs_found x a f in
          let z : 0 + size_p g.before ≡ size_p g.before = omega arith in
          subst (λ (i : Step). Breaks (i ∷ path) lim (suc room) T.Map bs why n) (sym (g.step ∙ ap way.key z))
          (record {
            key = x.0;
            value = x.1;
            count = x.2;
            before = g.before;
            head = take a bs;
            body = g.body;
            rest = g.rest;
            more = g.more;
            box = refl;
            entered = omega arith;
            header = front_whole (h.pairs lim) (pairs_lawful lim) bs x a i.0;
            backed = subst (λ (l : List ℕ). x.2 * least_size x.0 + x.2 * least_size x.1 ≤ length l) g.bytes i.1;
            begun = held;
            number = refl;
            among = g.among;
            spelt = subst (λ (k : ℕ). SpellsPairs g.before lim k x.0 x.1 g.body) (one_less room) g.spelt;
            bytes = halves a bs ∙ ap (λ (l : List ℕ). take a bs ++ l) g.bytes;
            reached = omega (arith, q, g.reached, front_long (h.pairs lim) (pairs_lawful lim) bs x a i.0);
            inner = deeper x.0 g.rest g.more g.broken;
          })
      after_head x a m f q held (inr g) =
          let i = pairs_found x a f in
          let z : 0 + size_p g.before ≡ size_p g.before = omega arith in
          subst (λ (i : Step). Breaks (i ∷ path) lim (suc room) T.Map bs why n) (sym (g.step ∙ ap way.value z))
          (record {
            key = x.0;
            value = x.1;
            count = x.2;
            before = g.before;
            own = g.own;
            head = take a bs;
            body = g.body;
            mark = g.mark;
            rest = g.rest;
            more = g.more;
            box = refl;
            entered = omega arith;
            header = front_whole (h.pairs lim) (pairs_lawful lim) bs x a i.0;
            backed = subst (λ (l : List ℕ). x.2 * least_size x.0 + x.2 * least_size x.1 ≤ length l) g.bytes i.1;
            begun = held;
            number = refl;
            among = g.among;
            spelt = subst (λ (k : ℕ). SpellsPairs g.before lim k x.0 x.1 g.body) (one_less room) g.spelt;
            keyed = subst (λ (k : ℕ). Spells g.own lim k x.0 g.mark) (one_less room) g.keyed;
            bytes = halves a bs ∙ ap (λ (l : List ℕ). take a bs ++ l) g.bytes;
            reached = omega (arith, q, g.reached, front_long (h.pairs lim) (pairs_lawful lim) bs x a i.0);
            inner = deeper x.1 g.rest g.more g.broken;
          })

      by : (pairs_head lim bs ≡ broke why n (s ∷ path)) ⊎ Later (pairs_head lim bs) (λ x. provided (startable x.0 x.2) BAD_TYPE (provided (startable x.1 x.2) BAD_TYPE (and_then (many_pairs (tracked lim room x.0) (tracked lim room x.1) 0 x.2) (λ ps. done (val.map x.0 x.1 ps))))) bs why n (s ∷ path) → Breaks (s ∷ path) lim (suc room) T.Map bs why n
      by (inl f) = header_near (pairs_head lim bs) (pairs_head_r Near near 0 lim bs) f
      by (inr f) =
          let x = f.one in
          let cs = drop f.used bs in
          let one = test_held _ BAD_TYPE _ cs why f.more s path f.second in
          let two = test_held _ BAD_TYPE _ cs why f.more s path (test_passed _ BAD_TYPE _ cs why f.more s path f.second) in
          after_head x f.used f.more f.first f.all (rw (one, two))
          (pairs_broke lim room x.0 x.1 0 x.2 cs why f.more s path
          (unmade _ (val.map x.0 x.1) cs why f.more (s ∷ path)
          (test_passed _ BAD_TYPE _ cs why f.more s path (test_passed _ BAD_TYPE _ cs why f.more s path f.second))))

  struct_breaks : struct_of (tracked lim room) bs ≡ broke why n (s ∷ path) → Breaks (s ∷ path) lim (suc room) T.Struct bs why n
  unfolding struct_of fields Breaks
  struct_breaks e =
      let m = walk_broke lim room (length bs) (pos 0) bs why n s path (unmade (fields (tracked lim room) (pos 0)) val.struct bs why n (s ∷ path) e) in
      subst (λ (i : Step). Breaks (i ∷ path) lim (suc room) T.Struct bs why n) (sym m.step)
      (record {
        kind = m.kind;
        before = m.before;
        body = m.body;
        head = m.head;
        rest = m.rest;
        more = m.more;
        box = refl;
        entered = omega arith;
        spelt = subst (λ (k : ℕ). SpellsFields m.before lim k (pos 0) (m.body ++ 0 ∷ [])) (one_less room) m.spelt;
        header = m.header;
        bytes = m.bytes;
        reached = m.reached;
        inner = deeper m.kind m.rest m.more m.broken;
      })

  leaf_breaks : (ty : TType) → steps (tracked lim (suc room) ty bs) ≤ 0 → tracked lim (suc room) ty bs ≡ broke why n (s ∷ path) → Breaks (s ∷ path) lim (suc room) ty bs why n
  leaf_breaks ty l e = header_near (tracked lim (suc room) ty bs) l e

  level_breaks : (ty : TType) → tracked lim (suc room) ty bs ≡ broke why n (s ∷ path) → Breaks (s ∷ path) lim (suc room) ty bs why n
  unfolding tracked
  level_breaks T.Stop e = leaf_breaks T.Stop (tracked_near lim 0 T.Stop bs) e
  level_breaks T.Bool e = leaf_breaks T.Bool (tracked_near lim 0 T.Bool bs) e
  level_breaks T.I08 e = leaf_breaks T.I08 (tracked_near lim 0 T.I08 bs) e
  level_breaks T.I16 e = leaf_breaks T.I16 (tracked_near lim 0 T.I16 bs) e
  level_breaks T.I32 e = leaf_breaks T.I32 (tracked_near lim 0 T.I32 bs) e
  level_breaks T.I64 e = leaf_breaks T.I64 (tracked_near lim 0 T.I64 bs) e
  level_breaks T.Double e = leaf_breaks T.Double (tracked_near lim 0 T.Double bs) e
  level_breaks T.String e = leaf_breaks T.String (tracked_near lim 0 T.String bs) e
  level_breaks T.List e = items_breaks T.List (inl refl) val.list e
  level_breaks T.Set e = items_breaks T.Set (inr refl) val.set e
  level_breaks T.Map e = map_breaks e
  level_breaks T.Struct e = struct_breaks e
  level_breaks T.Uuid e = leaf_breaks T.Uuid (tracked_near lim 0 T.Uuid bs) e

-- a refused value breaks first where its path and its reach say
pub breaks : (path : List Step) (lim : TConfiguration) (room : ℕ) (ty : TType) (bs : List ℕ) (why n : ℕ) → tracked lim room ty bs ≡ broke why n path → Breaks path lim room ty bs why n
unfolding Breaks
breaks [] lim room ty bs why n e = ends lim room ty bs why n e
breaks (s ∷ path) lim zero ty bs why n e = no_step (tracked lim zero ty bs) why n s path (tracked_near lim zero ty bs) e
breaks (s ∷ path) lim (suc room) ty bs why n e = level_breaks lim room bs why n s path (λ t cs m. breaks path lim room t cs why m) ty e
