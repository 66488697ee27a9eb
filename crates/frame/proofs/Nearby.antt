-- The short way of the run: what it answers at each return, and that it is the machine's step. Assumes nothing.
use mathlib.Core.Path.{◌≡◌, refl, sym, ap, ap₂, subst, ◌∙◌}
use mathlib.Core.Bool.{Bool, true, false, cond}
use mathlib.Core.List.{List, ◌∷◌}
use Prim.Native.Nat.{ℕ, suc, ◌+◌, ◌-◌, ◌≤◌, ◌<◌}
use native.Mathlib.Omega.{arith}
use native.Mathlib.Decide.{dec_lt}
use borrow.Author.Tests.{lt-ltb, le-ltb, le-leb, lt-leb}
use lib.Dec.{leb}
use lib.ListN.{length, set, length-set}
use Rattle.types.specs.Refusals.{END}
use Rattle.types.specs.declared.TType.{TType}
use Rattle.types.specs.declared.FieldId.{FieldId}
use Rattle.types.specs.declared.TConfiguration.{TConfiguration}
use Rattle.frame.specs.declared.Nest.{Nest}
use Rattle.frame.specs.declared.Nest.TheVariants.{Fields}
use Rattle.frame.specs.declared.Level.{Level}
use Rattle.frame.specs.declared.Wait.{Wait}
use Rattle.frame.specs.declared.Wait.TheVariants as W
use Rattle.frame.specs.declared.Begun.{Begun}
use Rattle.frame.specs.declared.Begun.TheVariants as B
use Rattle.frame.specs.declared.Turn.{Turn}
use Rattle.frame.specs.declared.Turn.TheVariants as U
use Rattle.frame.specs.declared.Moved.{Moved}
use Rattle.frame.specs.declared.Moved.TheVariants as M
use Rattle.frame.specs.declared.Near.{Near}
use Rattle.frame.specs.declared.Near.TheVariants as I
use Rattle.frame.specs.declared.Resting.{Resting}
use Rattle.frame.specs.Machine.{Rest, stopped, ask, fits, width, settled, entered}
use Rattle.frame.specs.Moves.{applied}
use Rattle.frame.specs.Turns.{width_of, begun, on_begun, value_turn, turned, on_turn, near_stops, near_turn, near_pass, near_begun, near_value, near_move}
use Rattle.frame.specs.State.{level_of, nest_at, held, rest_now, rest_of, Stands, asked}
use Rattle.frame.proofs.Coded.{turn_is, begin_turn, begin_wide}
use Rattle.frame.proofs.Held.{length_held, held_last, held_set, asked_rest}

-- near_pass
module _ (lim : TConfiguration) (left held : ℕ) (l : Nest) (n : ℕ) where
  pub pass_out : left < n → near_stops l END ≡ near_pass lim left held l n
  unfolding near_pass
  pass_out h = rw (lt-leb n left h)

  module _ (h : n ≤ left) (t : Turn) (e : t ≡ turned lim left held l n) where
    pub pass_up : (m : ℕ) → t ≡ U.Up m → I.Far ≡ near_pass lim left held l n
    unfolding near_pass
    pass_up m g = rw (le-leb n left h, ← e, g)

    pub pass_asks : (k : Nest) (m : ℕ) (w : Wait) (q : Resting) → t ≡ U.Asks k m w → q ≡ asked left m w → I.Rests k m q ≡ near_pass lim left held l n
    unfolding near_pass
    pass_asks k m w q g i = rw (le-leb n left h, ← e, g, i)

    pub pass_enters : (k : Nest) (m : ℕ) → t ≡ U.Enters k m → I.Far ≡ near_pass lim left held l n
    unfolding near_pass
    pass_enters k m g = rw (le-leb n left h, ← e, g)

    pub pass_refused : (why : ℕ) → t ≡ U.Refused why → near_stops l why ≡ near_pass lim left held l n
    unfolding near_pass
    pass_refused why g = rw (le-leb n left h, ← e, g)

pub ruleset pass_cases = (pass_out, pass_up, pass_asks, pass_enters, pass_refused)

-- near_value
module _ (lim : TConfiguration) (left held : ℕ) (id : FieldId) (t : TType) (w : ℕ) (e : w ≡ width_of t) where
  pub value_wide : (q : Resting) → 0 < w → w ≤ left → q ≡ asked left w W.Head → I.Rests (Fields id) w q ≡ near_value lim left held id t
  unfolding near_value
  value_wide q h g i = rw (i, ← e, lt-ltb 0 w h, le-leb w left g)

  pub value_out : 0 < w → left < w → near_stops (Fields id) END ≡ near_value lim left held id t
  unfolding near_value
  value_out h g = rw (← e, lt-ltb 0 w h, lt-leb w left g)

  module _ (h : w ≤ 0) (b : Begun) (f : b ≡ begun lim held t) where
    pub value_asks : (x : Wait) (q : Resting) → b ≡ B.Asks x → q ≡ asked left 0 x → I.Rests (Fields id) 0 q ≡ near_value lim left held id t
    unfolding near_value
    value_asks x q g i = rw (← e, le-ltb 0 w h, ← f, g, i)

    pub value_enters : b ≡ B.Enters → I.Far ≡ near_value lim left held id t
    unfolding near_value
    value_enters g = rw (← e, le-ltb 0 w h, ← f, g)

    pub value_passes : b ≡ B.Passes → I.Far ≡ near_value lim left held id t
    unfolding near_value
    value_passes g = rw (← e, le-ltb 0 w h, ← f, g)

    pub value_refused : (why : ℕ) → b ≡ B.Refused why → near_stops (Fields id) why ≡ near_value lim left held id t
    unfolding near_value
    value_refused why g = rw (← e, le-ltb 0 w h, ← f, g)

pub ruleset value_cases = (value_wide, value_out, value_asks, value_enters, value_passes, value_refused)

-- near_move
module _ (lim : TConfiguration) (left held : ℕ) (l : Nest) (m : Moved) where
  pub near_refused : (why : ℕ) → m ≡ M.Refused why → near_stops l why ≡ near_move lim left held l m
  unfolding near_move
  near_refused why e = rw e

  pub near_waits : (w : Wait) (q : Resting) → m ≡ M.Waits w → q ≡ asked left 0 w → I.Rests l 0 q ≡ near_move lim left held l m
  unfolding near_move
  near_waits w q e i = rw (e, i)

  pub near_passed : (n : ℕ) (q : Near) → m ≡ M.Passed n → q ≡ near_pass lim left held l n → q ≡ near_move lim left held l m
  unfolding near_move
  near_passed n q e f = rw e f

  pub near_closed : m ≡ M.Closed → I.Far ≡ near_move lim left held l m
  unfolding near_move
  near_closed e = rw e

  pub near_opened : (k : Nest) → m ≡ M.Opened k → I.Far ≡ near_move lim left held l m
  unfolding near_move
  near_opened k e = rw e

  pub near_named : (id : FieldId) (q : Resting) → m ≡ M.Named id → q ≡ asked left 0 W.Head → I.Rests (Fields id) 0 q ≡ near_move lim left held l m
  unfolding near_move
  near_named id q e i = rw (e, i)

  pub near_valued : (id : FieldId) (t : TType) (q : Near) → m ≡ M.Valued id t → q ≡ near_value lim left held id t → q ≡ near_move lim left held l m
  unfolding near_move
  near_valued id t q e f = rw e f

pub ruleset near_cases = (near_refused, near_waits, near_passed, near_closed, near_opened, near_named, near_valued)

-- IT IS THE MACHINE'S STEP

module _ (lim : TConfiguration) (left : ℕ) (ls : List Nest) where
  abbrev Says : Near → Rest → Type 0
  Says (I.Rests l body q) r = rest_now (l ∷ ls) body q.0 ≡ r
  Says I.Far r = Unit {0}

  either : (ok : Bool) (x y : Near) (r s : Rest) → Says x r → Says y s → Says (cond ok x y) (cond ok r s)
  either true x y r s a b = a
  either false x y r s a b = b

  turn_says : (top : Nest) (on : ℕ → Rest) (t : Turn) → Says (near_turn left top t) (on_turn left ls on t)
  turn_says top on (U.Up body) = tt
  turn_says top on (U.Asks l body w) = asked_rest left body w (l ∷ ls)
  turn_says top on (U.Enters l body) = tt
  turn_says top on (U.Refused why) = refl

  pass_says : (l : Nest) (n : ℕ) → Says (near_pass lim left (suc (length ls)) l n) (fits left 0 n (settled lim left (l ∷ ls)))
  unfolding near_pass settled
  pass_says l n =
      let a : left ≡ left - 0 = omega arith in
      let b : n ≡ 0 + n = omega arith in
      subst (Says (near_pass lim left (suc (length ls)) l n))
      (ap₂ (λ (i j : ℕ). cond (leb n i) (settled lim left (l ∷ ls) j) (stopped END)) a b)
      (either (leb n left) (near_turn left l (turned lim left (suc (length ls)) l n)) (near_stops l END) (settled lim left (l ∷ ls) n) (stopped END)
      (subst (Says (near_turn left l (turned lim left (suc (length ls)) l n))) (sym (turn_is lim left ls (settled lim left ls) l n)) (turn_says l (settled lim left ls) (turned lim left (suc (length ls)) l n)))
      refl)

  begun_says : (on : ℕ → Rest) (id : FieldId) (b : Begun) → Says (near_begun left id b) (on_turn left ls on (on_begun (Fields id) 0 b))
  begun_says on id (B.Asks w) = asked_rest left 0 w (Fields id ∷ ls)
  begun_says on id B.Enters = tt
  begun_says on id B.Passes = tt
  begun_says on id (B.Refused why) = refl

  value_says : (id : FieldId) (t : TType) → Says (near_value lim left (suc (length ls)) id t) (entered lim left (Fields id ∷ ls) t)
  unfolding near_value width_of value_turn settled
  value_says id t = go (dec_lt 0 (width t))
    where
      on : ℕ → Rest
      on = settled lim left (Fields id ∷ ls)

      go : Dec (0 < width t) → Says (near_value lim left (suc (length ls)) id t) (entered lim left (Fields id ∷ ls) t)
      go (yes h) =
          let a : left ≡ left - 0 = omega arith in
          let b : width t ≡ 0 + width t = omega arith in
          rw (lt-ltb 0 (width t) h)
          (subst (Says (cond (leb (width t) left) (I.Rests (Fields id) (width t) (asked left (width t) W.Head)) (near_stops (Fields id) END)))
          (ap₂ (λ (i j : ℕ). cond (leb (width t) i) (ask left (Fields id ∷ ls) j W.Head) (stopped END)) a b ∙ sym (begin_wide lim left ls (settled lim left ls) (Fields id) 0 t on h))
          (either (leb (width t) left) _ _ (ask left (Fields id ∷ ls) (width t) W.Head) (stopped END) (asked_rest left (width t) W.Head (Fields id ∷ ls)) refl))
      go (no h) =
          rw (le-ltb 0 (width t) (omega arith))
          (subst (Says (near_begun left id (begun lim (suc (length ls)) t))) (sym (begin_turn lim left ls (settled lim left ls) (Fields id) 0 t on (omega arith))) (begun_says (settled lim left ls) id (begun lim (suc (length ls)) t)))

  near_says : (l : Nest) (m : Moved) → Says (near_move lim left (suc (length ls)) l m) (applied lim left (l ∷ ls) m)
  unfolding near_move settled
  near_says l (M.Refused why) = refl
  near_says l (M.Waits w) = asked_rest left 0 w (l ∷ ls)
  near_says l (M.Passed n) = pass_says l n
  near_says l M.Closed = tt
  near_says l (M.Opened k) = tt
  near_says l (M.Named id) = asked_rest left 0 W.Head (Fields id ∷ ls)
  near_says l (M.Valued id t) = value_says id t

-- among the rows
module _ (lim : TConfiguration) (left : ℕ) (rows : List Level) (d : ℕ) (h : 0 < d) (dm : d ≤ lim.depth) (mx : lim.depth ≤ 64) (k : length rows ≡ 64) (m : Moved) (x : Near) (e : x ≡ near_move lim left d (nest_at rows (d - 1)) m) where
  here : (y : Near) → x ≡ y → Says lim left (held rows (d - 1)) y (applied lim left (held rows d) m)
  here y g =
      let n : suc (length (held rows (d - 1))) ≡ d = omega (arith, length_held rows (d - 1)) in
      subst (λ (ls : List Nest). Says lim left (held rows (d - 1)) y (applied lim left ls m)) (sym (held_last rows d h))
      (subst (λ (z : Near). Says lim left (held rows (d - 1)) z (applied lim left (nest_at rows (d - 1) ∷ held rows (d - 1)) m))
      (ap (λ (i : ℕ). near_move lim left i (nest_at rows (d - 1)) m) n ∙ sym e ∙ g)
      (near_says lim left (held rows (d - 1)) (nest_at rows (d - 1)) m))

  pub near_rests : (l : Nest) (body : ℕ) (q : Resting) → x ≡ I.Rests l body q → Stands lim (applied lim left (held rows d) m) (record { levels = set rows (d - 1) (level_of l); depth = d; body = body; rest = q })
  unfolding rest_of
  near_rests l body q g =
      let n : d - 1 + 1 ≡ d = omega arith in
      let below : held (set rows (d - 1) (level_of l)) d ≡ l ∷ held rows (d - 1) = ap (held (set rows (d - 1) (level_of l))) (sym n) ∙ held_set rows (d - 1) l (omega arith) in
      record {
        is = ap (λ (ls : List Nest). rest_now ls body q.0) below ∙ here (I.Rests l body q) g;
        within = dm;
        rows = length-set rows (d - 1) (level_of l) ∙ k;
      }
