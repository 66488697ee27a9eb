-- One level inward: what the code knows at each return and at each turn of its loops. Assumes nothing.
use mathlib.Core.Path.{◌≡◌, refl, sym, ap, ap₂, ◌∙◌}
use mathlib.Core.List.{List, ◌∷◌}
use Prim.Native.Nat.{ℕ, suc, ◌+◌, ◌-◌, ◌≤◌, ◌<◌}
use native.Mathlib.Omega.{arith}
use lib.ListN.{length, drop}
use lib.Seq.{drop-drop}
use Rattle.types.specs.declared.Place.{Place}
use Rattle.types.specs.declared.TType.{TType}
use Rattle.types.specs.declared.TConfiguration.{TConfiguration}
use Rattle.types.specs.Value.{Tree, tree, no_trees, Pairs, pair, no_pairs}
use Rattle.numbers.specs.Varint.{Found, placed}
use Rattle.heads.specs.Reader.{read_at}
use Rattle.skip.specs.Skip.{passed, past, skip_of}
use Rattle.skip.specs.declared.Skipped.{Skipped}
use Rattle.skip.specs.declared.Skipped.TheVariants.{Done, Refused}
use Rattle.skip.proofs.Past.{done_refused}
use Rattle.skip.proofs.Theorems.{skip_inside}
use Rattle.faults.specs.Tracked as way
use Rattle.faults.specs.Tracked.{Tried, Tracked, found, broke, done, and_then, labelled, after, onward, under}
use Rattle.faults.specs.Value.{many, many_pairs, tracked}
use Rattle.faults.specs.Trace.{Lost, fine, lost, lost_of, trace, within, inwards, Level}
use Rattle.faults.specs.declared.Step.TheVariants as S
use Rattle.faults.specs.declared.Inward.TheVariants as I
use Rattle.faults.proofs.Finds.{forget}
use Rattle.faults.proofs.Theorems.{tracked_value}

-- putting together
pub lost_after : {A : Type 0} (at n : ℕ) (x : Tried A) → lost_of at (after n x) ≡ lost_of (at + n) x
lost_after at n (found a m) = refl
lost_after at n (broke why m path) = let e : at + (n + m) ≡ at + n + m = omega arith in ap (λ (z : ℕ). lost why z path) e

pub trace_step : {A B : Type 0} (p : Tracked A) (k : A → Tracked B) (s : List ℕ) (at : ℕ) (a : A) (n : ℕ) → p (drop at s) ≡ found a n → trace (and_then p k) s at ≡ trace (k a) s (at + n)
unfolding trace and_then
trace_step p k s at a n e =
    ap (λ (x : Tried _). lost_of at (onward k (drop at s) x)) e
    ∙ lost_after at n (k a (drop n (drop at s)))
    ∙ ap (λ (cs : List ℕ). lost_of (at + n) (k a cs)) (drop-drop n at s)

pub trace_stop : {A B : Type 0} (p : Tracked A) (k : A → Tracked B) (s : List ℕ) (at : ℕ) (why n : ℕ) (path : List way.Step) → p (drop at s) ≡ broke why n path → trace (and_then p k) s at ≡ trace p s at
unfolding trace and_then
trace_stop p k s at why n path e = ap (λ (x : Tried _). lost_of at (onward k (drop at s) x)) e ∙ sym (ap (lost_of at) e)

lost_under : {A : Type 0} (i : way.Step) (at : ℕ) (x : Tried A) → lost_of at (under i x) ≡ within i (lost_of at x)
lost_under i at (found a n) = refl
lost_under i at (broke why n path) = refl

pub trace_in : {A : Type 0} (i : way.Step) (p : Tracked A) (s : List ℕ) (at : ℕ) → trace (labelled i p) s at ≡ within i (trace p s at)
unfolding trace labelled
trace_in i p s at = lost_under i at (p (drop at s))

pub trace_made : {A B : Type 0} (p : Tracked A) (g : A → B) (s : List ℕ) (at : ℕ) → trace (and_then p (λ a. done (g a))) s at ≡ trace p s at
unfolding trace and_then done
trace_made {A} p g s at = by (p (drop at s))
  where
    by : (x : Tried A) → lost_of at (onward (λ a. done (g a)) (drop at s) x) ≡ lost_of at x
    by (found a n) = refl
    by (broke why n path) = refl

pub trace_done : {A : Type 0} (a : A) (s : List ℕ) (at : ℕ) → trace (done a) s at ≡ fine
unfolding trace done
trace_done a s at = refl

-- what skip says of a value
module _ (s : List ℕ) (lim : TConfiguration) (room : ℕ) (kind : TType) (p : ℕ) where
  abbrev here : Tried Tree
  here = tracked lim room kind (drop p s)

  skip_so : skip_of s lim room kind p ≡ passed (placed p (forget here))
  unfolding skip_of past read_at
  skip_so = ap (λ (x : Found Tree). passed (placed p x)) (sym (tracked_value lim room kind (drop p s)))

  pub record Whole (e : Place) : Type 0 where
    pub what : Tree
    pub took : ℕ
    pub is : here ≡ found what took
    pub end : p + took ≡ e.0

  pub record Broke : Type 0 where
    pub why : ℕ
    pub took : ℕ
    pub path : List way.Step
    pub is : here ≡ broke why took path

  pub was_whole : (e : Place) → skip_of s lim room kind p ≡ Done e → Whole e
  was_whole e f = by here refl
    where
      by : (x : Tried Tree) → here ≡ x → Whole e
      by (found a n) g =
          let q : Done (record { 0 = p + n }) ≡ Done e = sym (ap (λ (x : Tried Tree). passed (placed p (forget x))) g) ∙ sym skip_so ∙ f in
          let z : record { 0 = p + n } ≡ e = cc in
          record { what = a; took = n; is = g; end = ap (λ (y : Place). y.0) z }
      by (broke why n path) g = done_refused (sym (sym (ap (λ (x : Tried Tree). passed (placed p (forget x))) g) ∙ sym skip_so ∙ f))

  pub was_broke : (why : ℕ) → skip_of s lim room kind p ≡ Refused why → Broke
  was_broke why f = by here refl
    where
      by : (x : Tried Tree) → here ≡ x → Broke
      by (found a n) g = done_refused (sym (ap (λ (x : Tried Tree). passed (placed p (forget x))) g) ∙ sym skip_so ∙ f)
      by (broke w n path) g = record { why = w; took = n; path = path; is = g }

-- where a loop stands: inside the input, and what is left leads where the whole does
pub record Going {A : Type 0} (s : List ℕ) (p : ℕ) (left : Tracked A) (y : Lost) : Type 0 where
  pub inside : p ≤ length s
  pub leads : trace left s p ≡ y

-- into_items
module _ (s : List ℕ) (lim : TConfiguration) (room : ℕ) (kind : TType) where
  pub items_start : (count p : ℕ) → p ≤ length s → Going s p (many (tracked lim room kind) 0 (count - 0)) (trace (many (tracked lim room kind) 0 count) s p)
  items_start count p h =
      let e : count - 0 ≡ count = omega arith in record { inside = h; leads = ap (λ (k : ℕ). trace (many (tracked lim room kind) 0 k) s p) e }

  module _ (count i p : ℕ) (y : Lost) (inv : Going s p (many (tracked lim room kind) i (count - i)) y) where
    pub items_end : count ≤ i → Level s lim room I.Whole y
    unfolding many inwards
    items_end h = let e : count - i ≡ 0 = omega arith in record { says = sym (rw e (trace_done no_trees s p)) ∙ inv.leads; placed = tt }

    module _ (h : i < count) (r : Skipped) (f : r ≡ skip_of s lim room kind p) where
      one_more : count - i ≡ suc (count - (i + 1))
      one_more = omega arith

      next_is : i + 1 ≡ suc i
      next_is = omega arith

      pub items_next : (e : Place) → r ≡ Done e → Going s e.0 (many (tracked lim room kind) (i + 1) (count - (i + 1))) y
      unfolding many labelled
      items_next e g =
          let v = was_whole s lim room kind p e (sym f ∙ g) in
          record {
            inside = skip_inside s lim room kind p e (sym f ∙ g);
            leads =
                sym (ap (λ (k : ℕ). trace (many (tracked lim room kind) i k) s p) one_more
                ∙ trace_step _ _ s p v.what v.took (ap (under (way.element i)) v.is)
                ∙ trace_made _ (tree v.what) s (p + v.took)
                ∙ ap₂ (λ (j q : ℕ). trace (many (tracked lim room kind) j (count - (i + 1))) s q) (sym next_is) v.end)
                ∙ inv.leads;
          }

      pub items_into : (why : ℕ) → r ≡ Refused why → (q : Place) → q.0 ≡ p → Level s lim room (I.Into (S.Element i) kind q) y
      unfolding many inwards labelled
      items_into why g q z =
          let v = was_broke s lim room kind p why (sym f ∙ g) in
          record {
            says =
                sym (ap (λ (k : ℕ). trace (many (tracked lim room kind) i k) s p) one_more
                ∙ trace_stop _ _ s p v.why v.took (way.element i ∷ v.path) (ap (under (way.element i)) v.is)
                ∙ trace_in (way.element i) (tracked lim room kind) s p
                ∙ ap (λ (x : ℕ). within (way.element i) (trace (tracked lim room kind) s x)) (sym z))
                ∙ inv.leads;
            placed = omega (arith, z, inv.inside);
          }

pub ruleset items_cases = (items_end, items_next, items_into)

-- into_pairs
module _ (s : List ℕ) (lim : TConfiguration) (room : ℕ) (key value : TType) where
  abbrev rest : ℕ → ℕ → Tracked Pairs
  rest i n = many_pairs (tracked lim room key) (tracked lim room value) i n

  pub pairs_start : (count p : ℕ) → p ≤ length s → Going s p (many_pairs (tracked lim room key) (tracked lim room value) 0 (count - 0)) (trace (many_pairs (tracked lim room key) (tracked lim room value) 0 count) s p)
  pairs_start count p h = let e : count - 0 ≡ count = omega arith in record { inside = h; leads = ap (λ (k : ℕ). trace (rest 0 k) s p) e }

  module _ (count i p : ℕ) (y : Lost) (inv : Going s p (many_pairs (tracked lim room key) (tracked lim room value) i (count - i)) y) where
    pub pairs_end : count ≤ i → Level s lim room I.Whole y
    unfolding many_pairs inwards
    pairs_end h = let e : count - i ≡ 0 = omega arith in record { says = sym (rw e (trace_done no_pairs s p)) ∙ inv.leads; placed = tt }

    module _ (h : i < count) (r : Skipped) (f : r ≡ skip_of s lim room key p) where
      pairs_more : count - i ≡ suc (count - (i + 1))
      pairs_more = omega arith

      pub pairs_key : (why : ℕ) → r ≡ Refused why → (q : Place) → q.0 ≡ p → Level s lim room (I.Into (S.Key i) key q) y
      unfolding many_pairs inwards labelled
      pairs_key why g q z =
          let v = was_broke s lim room key p why (sym f ∙ g) in
          record {
            says =
                sym (ap (λ (k : ℕ). trace (rest i k) s p) pairs_more
                ∙ trace_stop _ _ s p v.why v.took (way.key i ∷ v.path) (ap (under (way.key i)) v.is)
                ∙ trace_in (way.key i) (tracked lim room key) s p
                ∙ ap (λ (x : ℕ). within (way.key i) (trace (tracked lim room key) s x)) (sym z))
                ∙ inv.leads;
            placed = omega (arith, z, inv.inside);
          }

      module _ (m : Place) (g : r ≡ Done m) (q : Skipped) (x : q ≡ skip_of s lim room value m.0) where
        behind_key : (k : ℕ) → count - i ≡ suc k → (a : Tree) × (trace (rest i (count - i)) s p ≡ trace (and_then (labelled (way.value i) (tracked lim room value)) (λ b. and_then (rest (suc i) k) (λ ps. done (pair a b ps)))) s m.0)
        unfolding many_pairs labelled
        behind_key k e =
            let v = was_whole s lim room key p m (sym f ∙ g) in (
              v.what,
              ap (λ (j : ℕ). trace (rest i j) s p) e
                  ∙ trace_step _ _ s p v.what v.took (ap (under (way.key i)) v.is)
                  ∙ ap (λ (j : ℕ). trace (and_then (labelled (way.value i) (tracked lim room value)) (λ b. and_then (rest (suc i) k) (λ ps. done (pair v.what b ps)))) s j) v.end,
            )

        pub pairs_value : (why : ℕ) → q ≡ Refused why → Level s lim room (I.Into (S.Value i) value m) y
        unfolding inwards labelled
        pairs_value why z =
            let v = was_broke s lim room value m.0 why (sym x ∙ z) in
            record {
              says =
                  sym ((behind_key (count - (i + 1)) pairs_more).1
                  ∙ trace_stop _ _ s m.0 v.why v.took (way.value i ∷ v.path) (ap (under (way.value i)) v.is)
                  ∙ trace_in (way.value i) (tracked lim room value) s m.0)
                  ∙ inv.leads;
              placed = skip_inside s lim room key p m (sym f ∙ g);
            }

        pub pairs_next : (e : Place) → q ≡ Done e → Going s e.0 (many_pairs (tracked lim room key) (tracked lim room value) (i + 1) (count - (i + 1))) y
        unfolding labelled
        pairs_next e z =
            let v = was_whole s lim room value m.0 e (sym x ∙ z) in
            let one : i + 1 ≡ suc i = omega arith in
            record {
              inside = skip_inside s lim room value m.0 e (sym x ∙ z);
              leads =
                  sym ((behind_key (count - (i + 1)) pairs_more).1
                  ∙ trace_step _ _ s m.0 v.what v.took (ap (under (way.value i)) v.is)
                  ∙ trace_made _ (pair (behind_key (count - (i + 1)) pairs_more).0 v.what) s (m.0 + v.took)
                  ∙ ap₂ (λ (j l : ℕ). trace (rest j (count - (i + 1))) s l) (sym one) v.end)
                  ∙ inv.leads;
            }

pub ruleset pairs_cases = (pairs_end, pairs_key, pairs_value, pairs_next)
