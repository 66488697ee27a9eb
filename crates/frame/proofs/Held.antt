-- Rows that hold what is open, and the turns over them. Assumes nothing.
use mathlib.Core.Path.{◌≡◌, refl, sym, ap, ap₂, subst, ◌∙◌}
use mathlib.Core.Bool.{Bool, true, false, cond}
use mathlib.Core.List.{List, ◌∷◌}
use Prim.Native.Nat.{ℕ, zero, suc, ◌+◌, ◌-◌, ◌≤◌, ◌<◌}
use native.Mathlib.Omega.{arith}
use native.Mathlib.Decide.{dec_le, dec_lt}
use borrow.Author.Tests.{lt-ltb, le-ltb, le-leb, lt-leb}
use lib.Dec.{leb, ltb, eqb}
use lib.IntN.{pos}
use lib.ListN.{length, set, length-set}
use lib.Seq.{get_or-set_same, get_or-set_other}
use Rattle.types.specs.Refusals.{END, DEPTH}
use Rattle.types.specs.declared.TType.{TType}
use Rattle.types.specs.declared.TType.TheVariants as T
use Rattle.types.specs.declared.TConfiguration.{TConfiguration}
use Rattle.heads.specs.Answers.{id_of}
use Rattle.frame.specs.declared.Nest.{Nest}
use Rattle.frame.specs.declared.Nest.TheVariants.{Fields, Items, Keys, Values}
use Rattle.frame.specs.declared.Level.{Level}
use Rattle.frame.specs.declared.Goal.TheVariants as O
use Rattle.frame.specs.declared.Wait.{Wait}
use Rattle.frame.specs.declared.Wait.TheVariants as W
use Rattle.frame.specs.declared.Now.TheVariants as N
use Rattle.frame.specs.declared.Resting.{Resting}
use Rattle.frame.specs.declared.Stand.{Stand}
use Rattle.frame.specs.declared.Begun.{Begun}
use Rattle.frame.specs.declared.Begun.TheVariants as B
use Rattle.frame.specs.declared.Turn.{Turn}
use Rattle.frame.specs.declared.Turn.TheVariants as U
use Rattle.frame.specs.Machine.{fresh, Rest, asks, stopped, ask, settled}
use Rattle.frame.specs.Turns.{width_of, in_room, begun, on_begun, value_turn, up_turn, item_turn, pair_turn, second_turn, turned, on_turn}
use Rattle.frame.specs.State.{stops_at, waits_at, level_of, nest_at, held, rest_now, rest_of, Stands, asked}
use Rattle.frame.proofs.Coded.{turn_is}

-- ask
module _ (left body : ℕ) (w : Wait) where
  pub ask_yes : body < left → record { 0 = N.Asks w } ≡ asked left body w
  unfolding asked
  ask_yes h = rw (lt-ltb body left h)

  pub ask_no : left ≤ body → record { 0 = N.Refused END } ≡ asked left body w
  unfolding asked
  ask_no h = rw (le-ltb body left h)

pub ruleset ask_cases = (ask_yes, ask_no)

-- the rows
pub length_held : (rows : List Level) (d : ℕ) → length (held rows d) ≡ d
unfolding held
length_held rows zero = refl
length_held rows (suc d) = ap suc (length_held rows d)

pub held_last : (rows : List Level) (d : ℕ) → 0 < d → held rows d ≡ nest_at rows (d - 1) ∷ held rows (d - 1)
unfolding held
held_last rows zero h = absurd (omega arith)
held_last rows (suc d) h = let e : suc d - 1 ≡ d = omega arith in rw e

-- a row above the depth has no say
pub held_above : (rows : List Level) (i d : ℕ) (l : Level) → d ≤ i → held (set rows i l) d ≡ held rows d
unfolding held
held_above rows i zero l h = refl
held_above rows i (suc d) l h =
    ap₂ (λ (x : Level) (ls : List Nest). x.0 ∷ ls) (get_or-set_other rows i d l (level_of (Fields (id_of (pos 0)))) (λ e. omega arith)) (held_above rows i d l (omega arith))

pub held_set : (rows : List Level) (d : ℕ) (l : Nest) → d < length rows → held (set rows d (level_of l)) (d + 1) ≡ l ∷ held rows d
held_set rows d l h =
    let e : d + 1 - 1 ≡ d = omega arith in
    held_last (set rows d (level_of l)) (d + 1) (omega arith)
    ∙ ap₂ (λ (x : Nest) (ls : List Nest). x ∷ ls)
    (ap (λ (i : ℕ). nest_at (set rows d (level_of l)) i) e ∙ ap (λ (x : Level). x.0) (get_or-set_same rows d (level_of l) (level_of (Fields (id_of (pos 0)))) h))
    (ap (held (set rows d (level_of l))) e ∙ held_above rows d d (level_of l) (omega arith))

-- what is asked next
pub asked_rest : (left body : ℕ) (w : Wait) (ls : List Nest) → rest_now ls body (asked left body w).0 ≡ ask left ls body w
unfolding asked
asked_rest left body w ls = go (ltb body left)
  where
    go : (ok : Bool) → rest_now ls body (cond {A = Resting} ok (record { 0 = N.Asks w }) (record { 0 = N.Refused END })).0 ≡ cond ok (asks ls body w) (stopped END)
    go true = refl
    go false = refl

-- what a turn answers is within bounds
abbrev Bound : TConfiguration → ℕ → ℕ → Turn → Type 0
Bound lim left d (U.Up m) = m ≤ left
Bound lim left d (U.Asks l m w) = Unit {0}
Bound lim left d (U.Enters l m) = d < lim.depth
Bound lim left d (U.Refused why) = Unit {0}

module _ (lim : TConfiguration) (left d : ℕ) where
  either : (ok : Bool) (x y : Turn) → Bound lim left d x → Bound lim left d y → Bound lim left d (cond ok x y)
  either true x y a b = a
  either false x y a b = b

  in_bound : (l : Nest) (body : ℕ) (b : Begun) → Bound lim left d (on_begun l body (in_room lim d b))
  unfolding in_room
  in_bound l body b = go (dec_lt d lim.depth)
    where
      of : (b : Begun) → d < lim.depth → Bound lim left d (on_begun l body b)
      of (B.Asks w) h = tt
      of B.Enters h = h
      of B.Passes h = tt
      of (B.Refused why) h = tt

      go : Dec (d < lim.depth) → Bound lim left d (on_begun l body (cond (ltb d lim.depth) b (B.Refused DEPTH)))
      go (yes h) = rw (lt-ltb d lim.depth h) (of b h)
      go (no h) = rw (le-ltb d lim.depth (omega arith)) tt

  value_bound : (l : Nest) (body : ℕ) (t : TType) → Bound lim left d (value_turn lim d l body t)
  unfolding value_turn begun
  value_bound l body T.Stop = tt
  value_bound l body T.Bool = tt
  value_bound l body T.I08 = tt
  value_bound l body T.I16 = tt
  value_bound l body T.I32 = tt
  value_bound l body T.I64 = tt
  value_bound l body T.Double = tt
  value_bound l body T.String = tt
  value_bound l body T.List = in_bound l body (B.Asks W.List)
  value_bound l body T.Set = in_bound l body (B.Asks W.List)
  value_bound l body T.Map = in_bound l body (B.Asks (W.Varint O.Pairs fresh))
  value_bound l body T.Struct = in_bound l body B.Enters
  value_bound l body T.Uuid = tt

  up_bound : (body n : ℕ) → body ≤ left → Bound lim left d (up_turn left body n)
  unfolding up_turn
  up_bound body n h = go (dec_le n (left - body))
    where
      go : Dec (n ≤ left - body) → Bound lim left d (cond (leb n (left - body)) (U.Up (body + n)) (U.Refused END))
      go (yes g) = rw (le-leb n (left - body) g) (omega arith)
      go (no g) = rw (lt-leb n (left - body) (omega arith)) tt

  item_bound : (t : TType) (n body : ℕ) → body ≤ left → Bound lim left d (item_turn lim left d t n body)
  unfolding item_turn
  item_bound t n body h = either (eqb n 0) _ _ h (either (ltb 0 (width_of t)) _ _ (up_bound body _ h) (value_bound _ body t))

  pair_bound : (k v : TType) (n body : ℕ) → body ≤ left → Bound lim left d (pair_turn lim left d k v n body)
  unfolding pair_turn
  pair_bound k v n body h =
      either (eqb n 0) _ _ h
      (either (ltb 0 (width_of k)) _ _
      (either (ltb 0 (width_of v)) _ _ (up_bound body _ h) (either (leb (width_of k) (left - body)) _ (U.Refused END) (value_bound _ _ v) tt))
      (value_bound _ body k))

  second_bound : (k v : TType) (n body : ℕ) → body ≤ left → Bound lim left d (second_turn lim left d k v n body)
  unfolding second_turn
  second_bound k v n body h = either (ltb 0 (width_of v)) _ _ (go (dec_le (width_of v) (left - body))) (value_bound _ body v)
    where
      go : Dec (width_of v ≤ left - body) → Bound lim left d (cond (leb (width_of v) (left - body)) (pair_turn lim left d k v n (body + width_of v)) (U.Refused END))
      go (yes g) = rw (le-leb (width_of v) (left - body) g) (pair_bound k v n (body + width_of v) (omega arith))
      go (no g) = rw (lt-leb (width_of v) (left - body) (omega arith)) tt

  turned_bound : (l : Nest) (body : ℕ) → body ≤ left → Bound lim left d (turned lim left d l body)
  unfolding turned
  turned_bound (Fields id) body h = tt
  turned_bound (Items t n) body h = item_bound t n body h
  turned_bound (Keys k v n) body h = pair_bound k v n body h
  turned_bound (Values k v n) body h = second_bound k v n body h

-- settle: what the whole answers is what the rows below the depth answer
module _ (lim : TConfiguration) (left : ℕ) (whole : Rest) (rows : List Level) (d pass : ℕ) (inv : whole ≡ settled lim left (held rows d) pass) (k : length rows ≡ 64) (dm : d ≤ lim.depth) (mx : lim.depth ≤ 64) where
  pub settle_done : d ≤ 0 → Stands lim whole (record { levels = rows; depth = 0; body = pass; rest = record { 0 = N.Done pass } })
  unfolding rest_of settled held
  settle_done h =
      let e : d ≡ 0 = omega arith in
      record { is = sym (inv ∙ ap (λ (i : ℕ). settled lim left (held rows i) pass) e); within = omega arith; rows = k }

  module _ (h : 0 < d) (t : Turn) (e : t ≡ turned lim left d (nest_at rows (d - 1)) pass) where
    one_turn : (u : Turn) → t ≡ u → whole ≡ on_turn left (held rows (d - 1)) (settled lim left (held rows (d - 1))) u
    unfolding settled
    one_turn u g =
        let n : suc (length (held rows (d - 1))) ≡ d = omega (arith, length_held rows (d - 1)) in
        inv
        ∙ ap (λ (ls : List Nest). settled lim left ls pass) (held_last rows d h)
        ∙ turn_is lim left (held rows (d - 1)) (settled lim left (held rows (d - 1))) (nest_at rows (d - 1)) pass
        ∙ ap (λ (i : ℕ). on_turn left (held rows (d - 1)) (settled lim left (held rows (d - 1))) (turned lim left i (nest_at rows (d - 1)) pass)) n
        ∙ ap (on_turn left (held rows (d - 1)) (settled lim left (held rows (d - 1)))) (sym e ∙ g)

    bound : (u : Turn) → t ≡ u → pass ≤ left → Bound lim left d u
    bound u g p = subst (Bound lim left d) (sym e ∙ g) (turned_bound lim left d (nest_at rows (d - 1)) pass p)

    pub turn_up : (m : ℕ) → t ≡ U.Up m → whole ≡ settled lim left (held rows (d - 1)) m
    turn_up m g = one_turn (U.Up m) g

    pub turn_within : (m : ℕ) → t ≡ U.Up m → pass ≤ left → m ≤ left
    turn_within m g p = bound (U.Up m) g p

    pub turn_stop : (why n : ℕ) (o : Stand) → t ≡ U.Refused why → o ≡ stops_at rows d n why → Stands lim whole o
    unfolding rest_of
    turn_stop why n o g i = subst (Stands lim whole) (sym i) (record { is = sym (one_turn (U.Refused why) g); within = dm; rows = k })

    below : (l : Nest) → held (set rows (d - 1) (level_of l)) d ≡ l ∷ held rows (d - 1)
    below l = let n : d - 1 + 1 ≡ d = omega arith in ap (held (set rows (d - 1) (level_of l))) (sym n) ∙ held_set rows (d - 1) l (omega arith)

    pub turn_asks : (l : Nest) (m : ℕ) (w : Wait) (o : Stand) → t ≡ U.Asks l m w → o ≡ waits_at left (set rows (d - 1) (level_of l)) d m w → Stands lim whole o
    unfolding rest_of
    turn_asks l m w o g i =
        subst (Stands lim whole) (sym i)
        (record {
          is = ap (λ (ls : List Nest). rest_now ls m (asked left m w).0) (below l) ∙ asked_rest left m w (l ∷ held rows (d - 1)) ∙ sym (one_turn (U.Asks l m w) g);
          within = dm;
          rows = length-set rows (d - 1) (level_of l) ∙ k;
        })

    pub turn_room : (l : Nest) (m : ℕ) → t ≡ U.Enters l m → pass ≤ left → d < lim.depth
    turn_room l m g p = bound (U.Enters l m) g p

    pub turn_enters : (l : Nest) (m : ℕ) (o : Stand) → t ≡ U.Enters l m → pass ≤ left → o ≡ waits_at left (set (set rows (d - 1) (level_of l)) d (level_of (Fields (id_of (pos 0))))) (d + 1) m W.Head → Stands lim whole o
    unfolding rest_of
    turn_enters l m o g p i =
        let room : d < lim.depth = bound (U.Enters l m) g p in
        subst (Stands lim whole) (sym i)
        (record {
          is =
              ap (λ (ls : List Nest). rest_now ls m (asked left m W.Head).0)
              (held_set (set rows (d - 1) (level_of l)) d (Fields (id_of (pos 0))) (omega (arith, length-set rows (d - 1) (level_of l))) ∙ ap (λ (ls : List Nest). Fields (id_of (pos 0)) ∷ ls) (below l))
              ∙ asked_rest left m W.Head (Fields (id_of (pos 0)) ∷ l ∷ held rows (d - 1))
              ∙ sym (one_turn (U.Enters l m) g);
          within = omega arith;
          rows = length-set (set rows (d - 1) (level_of l)) d (level_of (Fields (id_of (pos 0)))) ∙ length-set rows (d - 1) (level_of l) ∙ k;
        })
