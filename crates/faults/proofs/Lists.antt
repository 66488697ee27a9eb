-- One level into a list, a set or a map: what the code knows at each return. Assumes nothing.
use mathlib.Core.Path.{◌≡◌, refl, sym, ap, ◌∙◌}
use mathlib.Core.Bool.{Bool, true, false, cond}
use mathlib.Core.List.{List, []}
use Prim.Native.Nat.{ℕ, suc, ◌+◌, ◌≤◌}
use native.Mathlib.Omega.{arith}
use lib.ListN.{length, drop, length-drop}
use Rattle.types.specs.Refusals.{BAD_TYPE}
use Rattle.types.specs.declared.Place.{Place}
use Rattle.types.specs.declared.TType.{TType}
use Rattle.types.specs.declared.TType.TheVariants as T
use Rattle.types.specs.declared.TConfiguration.{TConfiguration}
use Rattle.types.specs.Value as val
use Rattle.types.specs.Value.{Tree}
use Rattle.numbers.specs.Varint.{got, refused}
use Rattle.heads.specs.Reader.{Reader, read_at}
use Rattle.heads.specs.Heads as h
use Rattle.heads.specs.Answers.{items_head_at, pairs_head_at}
use Rattle.heads.specs.declared.ListHead.{ListHead}
use Rattle.heads.specs.declared.ListHead.TheVariants as L
use Rattle.heads.specs.declared.MapHead.{MapHead}
use Rattle.heads.specs.declared.MapHead.TheVariants as M
use Rattle.heads.proofs.Steps.{found_at, lost_at}
use Rattle.heads.proofs.Ahead.{Fair, items_head_fair, pairs_head_fair, is_list, no_list, is_map, no_map}
use Rattle.skip.specs.Value.{startable}
use Rattle.faults.specs.Tracked.{Tried, Tracked, found, broke, done, and_then, provided, onward, reach}
use Rattle.faults.specs.Heads.{items_head, pairs_head}
use Rattle.faults.specs.Value.{many, many_pairs, items_of, map_of, tracked}
use Rattle.faults.specs.Trace.{Lost, lost, lost_of, trace, inwards, Level, up_to, ListReach, MapReach}
use Rattle.faults.specs.declared.Inward.{Inward}
use Rattle.faults.specs.declared.Inward.TheVariants as I
use Rattle.faults.proofs.Rule.{items_head_r, pairs_head_r}
use Rattle.faults.proofs.Finds.{forget, Finds, finds}
use Rattle.faults.proofs.Paths.{steps, Near, near}
use Rattle.faults.proofs.Inner.{lost_after, trace_step, trace_stop, trace_made}
use Rattle.faults.proofs.Upto.{lost_so, found_there}

-- a header that is refused is the value's own; one that is read goes on behind it
module _ {A B : Type 0} (p : Tracked A) (q : Reader A) (is : (bs : List ℕ) → forget (p bs) ≡ q bs) (k : A → Tracked B) (s : List ℕ) (at : ℕ) where
  header_no : ((bs : List ℕ) → steps (p bs) ≤ 0) → (why r : ℕ) → read_at q s at ≡ refused why → r ≡ up_to p s at → lost why r [] ≡ trace (and_then p k) s at
  unfolding read_at trace up_to
  header_no near why r e u =
      let f = lost_so (p (drop at s)) why (near (drop at s)) (is (drop at s) ∙ lost_at at (q (drop at s)) why e) in
      let z : at + f.0 ≡ r = omega (arith, u, ap reach f.1) in
      sym (trace_stop p k s at why f.0 [] f.1 ∙ ap (lost_of at) f.1 ∙ ap (λ (n : ℕ). lost why n []) z)

  header_then : (a : A) (e : ℕ) → read_at q s at ≡ got a e → trace (and_then p k) s at ≡ trace (k a) s e
  header_then a e f =
      let g = found_there p q is s at a e f in
      trace_step p k s at a g.0 g.1 ∙ ap (λ (j : ℕ). trace (k a) s j) g.2

-- a header that is read ends in the input
header_in : {A : Type 0} (q : Reader A) → Fair q → (s : List ℕ) (at : ℕ) (a : A) (e : ℕ) → read_at q s at ≡ got a e → at ≤ length s → e ≤ length s
unfolding read_at
header_in q fair s at a e f h =
    let g = found_at at (q (drop at s)) a e f in
    omega (arith, g.2, fair.ends (drop at s) a g.0 g.1, length-drop at s)

trace_test : {A : Type 0} (ok : Bool) (why : ℕ) (p : Tracked A) (s : List ℕ) (at : ℕ) (c : Bool) → ok ≡ c → trace (provided ok why p) s at ≡ cond c (trace p s at) (lost why at [])
unfolding trace provided
trace_test ok why p s at true e = rw e
trace_test ok why p s at false e = let z : at + 0 ≡ at = omega arith in rw e (ap (λ (n : ℕ). lost why n []) z)

own : (s : List ℕ) (lim : TConfiguration) (room : ℕ) (why r : ℕ) (y : Lost) → lost why r [] ≡ y → Level s lim room (I.Own why r) y
unfolding inwards
own s lim room why r y e = record { says = e; placed = tt }

the_same : (s : List ℕ) (lim : TConfiguration) (room : ℕ) (r : Inward) (y z : Lost) → y ≡ z → Level s lim room r y → Level s lim room r z
the_same s lim room r y z e l = record { says = l.says ∙ e; placed = l.placed }

-- into_list
items_is : (lim : TConfiguration) (cs : List ℕ) → forget (items_head lim cs) ≡ h.items_head lim cs
unfolding Finds
items_is lim cs = items_head_r Finds finds 0 lim cs

items_near : (lim : TConfiguration) (cs : List ℕ) → steps (items_head lim cs) ≤ 0
unfolding Near
items_near lim cs = items_head_r Near near 0 lim cs

module _ (s : List ℕ) (lim : TConfiguration) (room at : ℕ) (hd : ListHead) (e : hd ≡ items_head_at s lim at) where
  pub list_refused : (why r : ℕ) → hd ≡ L.Refused why → ListReach s at r → Level s lim room (I.Own why r) (trace (tracked lim (suc room) T.List) s at)
  unfolding tracked items_of items_head_at ListReach
  list_refused why r g k =
      own s lim room why r _ (header_no (items_head lim) (h.items_head lim) (items_is lim) _ s at (items_near lim) why r (no_list _ why (sym e ∙ g)) (k lim))

  module _ (t : TType) (n : ℕ) (q : Place) (g : hd ≡ L.Got t n q) where
    list_read : read_at (h.items_head lim) s at ≡ got (t, n) q.0
    unfolding items_head_at
    list_read = is_list _ t n q (sym e ∙ g)

    pub list_inside : at ≤ length s → q.0 ≤ length s
    list_inside = header_in (h.items_head lim) (items_head_fair lim) s at (t, n) q.0 list_read

    module _ (c : Bool) (k : c ≡ startable t n) where
      behind_list : trace (tracked lim (suc room) T.List) s at ≡ trace (provided (startable t n) BAD_TYPE (and_then (many (tracked lim room t) 0 n) (λ ts. done (val.list t ts)))) s q.0
      unfolding tracked items_of
      behind_list = header_then (items_head lim) (h.items_head lim) (items_is lim) _ s at (t, n) q.0 list_read

      pub list_stop : c ≡ false → Level s lim room (I.Own BAD_TYPE q.0) (trace (tracked lim (suc room) T.List) s at)
      list_stop f = own s lim room BAD_TYPE q.0 _ (sym (behind_list ∙ trace_test (startable t n) BAD_TYPE _ s q.0 false (sym k ∙ f)))

      pub list_in : c ≡ true → (r : Inward) → Level s lim room r (trace (many (tracked lim room t) 0 n) s q.0) → Level s lim room r (trace (tracked lim (suc room) T.List) s at)
      list_in f r l =
          the_same s lim room r _ _
          (sym (behind_list ∙ trace_test (startable t n) BAD_TYPE _ s q.0 true (sym k ∙ f) ∙ trace_made (many (tracked lim room t) 0 n) (val.list t) s q.0)) l

pub ruleset list_cases = (list_refused, list_inside, list_stop, list_in)

-- a set is read as a list is
module _ {A B C : Type 0} (p : Tracked A) (k : A → Tracked B) (l : A → Tracked C) (f : (a : A) (cs : List ℕ) (at : ℕ) → lost_of at (k a cs) ≡ lost_of at (l a cs)) where
  lost_then : (bs : List ℕ) (at : ℕ) → lost_of at (and_then p k bs) ≡ lost_of at (and_then p l bs)
  unfolding and_then
  lost_then bs at = by (p bs)
    where
      by : (x : Tried A) → lost_of at (onward k bs x) ≡ lost_of at (onward l bs x)
      by (found a n) = lost_after at n (k a (drop n bs)) ∙ f a (drop n bs) (at + n) ∙ sym (lost_after at n (l a (drop n bs)))
      by (broke why n path) = refl

lost_test : {A B : Type 0} (ok : Bool) (why : ℕ) (p : Tracked A) (q : Tracked B) (bs : List ℕ) (at : ℕ) → lost_of at (p bs) ≡ lost_of at (q bs) → lost_of at (provided ok why p bs) ≡ lost_of at (provided ok why q bs)
unfolding provided
lost_test true why p q bs at e = e
lost_test false why p q bs at e = refl

same_done : {A B : Type 0} (a : A) (b : B) (ds : List ℕ) (i : ℕ) → lost_of i (done a ds) ≡ lost_of i (done b ds)
unfolding done
same_done a b ds i = refl

pub set_list : (s : List ℕ) (lim : TConfiguration) (room at : ℕ) → trace (tracked lim (suc room) T.List) s at ≡ trace (tracked lim (suc room) T.Set) s at
unfolding trace tracked items_of
set_list s lim room at =
    lost_then (items_head lim) _ _
    (λ x cs j. lost_test (startable x.0 x.1) BAD_TYPE _ _ cs j
    (lost_then (many (tracked lim room x.0) 0 x.1) _ _ (λ ts ds i. same_done (val.list x.0 ts) (val.set x.0 ts) ds i) cs j))
    (drop at s) at

-- into_map
pairs_is : (lim : TConfiguration) (cs : List ℕ) → forget (pairs_head lim cs) ≡ h.pairs_head lim cs
unfolding Finds
pairs_is lim cs = pairs_head_r Finds finds 0 lim cs

pairs_near : (lim : TConfiguration) (cs : List ℕ) → steps (pairs_head lim cs) ≤ 0
unfolding Near
pairs_near lim cs = pairs_head_r Near near 0 lim cs

module _ (s : List ℕ) (lim : TConfiguration) (room at : ℕ) (hd : MapHead) (e : hd ≡ pairs_head_at s lim at) where
  pub map_refused : (why r : ℕ) → hd ≡ M.Refused why → MapReach s at r → Level s lim room (I.Own why r) (trace (tracked lim (suc room) T.Map) s at)
  unfolding tracked map_of pairs_head_at MapReach
  map_refused why r g k =
      own s lim room why r _ (header_no (pairs_head lim) (h.pairs_head lim) (pairs_is lim) _ s at (pairs_near lim) why r (no_map _ why (sym e ∙ g)) (k lim))

  module _ (t u : TType) (n : ℕ) (q : Place) (g : hd ≡ M.Got t u n q) where
    map_read : read_at (h.pairs_head lim) s at ≡ got (t, u, n) q.0
    unfolding pairs_head_at
    map_read = is_map _ t u n q (sym e ∙ g)

    pub map_inside : at ≤ length s → q.0 ≤ length s
    map_inside = header_in (h.pairs_head lim) (pairs_head_fair lim) s at (t, u, n) q.0 map_read

    abbrev inside : Tracked Tree
    inside = and_then (many_pairs (tracked lim room t) (tracked lim room u) 0 n) (λ ps. done (val.map t u ps))

    behind_map : trace (tracked lim (suc room) T.Map) s at ≡ trace (provided (startable t n) BAD_TYPE (provided (startable u n) BAD_TYPE inside)) s q.0
    unfolding tracked map_of
    behind_map = header_then (pairs_head lim) (h.pairs_head lim) (pairs_is lim) _ s at (t, u, n) q.0 map_read

    module _ (c : Bool) (k : c ≡ startable t n) where
      pub map_keyless : c ≡ false → Level s lim room (I.Own BAD_TYPE q.0) (trace (tracked lim (suc room) T.Map) s at)
      map_keyless f = own s lim room BAD_TYPE q.0 _ (sym (behind_map ∙ trace_test (startable t n) BAD_TYPE _ s q.0 false (sym k ∙ f)))

      module _ (f : c ≡ true) (d : Bool) (l : d ≡ startable u n) where
        behind_key : trace (tracked lim (suc room) T.Map) s at ≡ trace (provided (startable u n) BAD_TYPE inside) s q.0
        behind_key = behind_map ∙ trace_test (startable t n) BAD_TYPE _ s q.0 true (sym k ∙ f)

        pub map_valueless : d ≡ false → Level s lim room (I.Own BAD_TYPE q.0) (trace (tracked lim (suc room) T.Map) s at)
        map_valueless z = own s lim room BAD_TYPE q.0 _ (sym (behind_key ∙ trace_test (startable u n) BAD_TYPE _ s q.0 false (sym l ∙ z)))

        pub map_in : d ≡ true → (r : Inward) → Level s lim room r (trace (many_pairs (tracked lim room t) (tracked lim room u) 0 n) s q.0) → Level s lim room r (trace (tracked lim (suc room) T.Map) s at)
        map_in z r y =
            the_same s lim room r _ _
            (sym (behind_key ∙ trace_test (startable u n) BAD_TYPE _ s q.0 true (sym l ∙ z) ∙ trace_made (many_pairs (tracked lim room t) (tracked lim room u) 0 n) (val.map t u) s q.0)) y

pub ruleset map_cases = (map_refused, map_inside, map_keyless, map_valueless, map_in)
