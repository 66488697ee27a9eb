-- What the code's turns answer at each of their returns. Assumes nothing.
use mathlib.Core.Path.{◌≡◌}
use Prim.Native.Nat.{ℕ, ◌+◌, ◌-◌, ◌*◌, ◌^◌, ◌≤◌, ◌<◌}
use native.Mathlib.Nat.{mul-le-mul}
use native.Mathlib.Omega.{arith}
use borrow.Author.Tests.{eq-eqb, ne_eqb, lt-ltb, le-ltb, le-leb, lt-leb}
use mir.Syntax.{w64}
use mir.Val.{Fits}
use Rattle.types.specs.Refusals.{END, BAD_TYPE, DEPTH}
use Rattle.types.specs.declared.TType.{TType}
use Rattle.types.specs.declared.TType.TheVariants as T
use Rattle.types.specs.declared.FieldId.{FieldId}
use Rattle.types.specs.declared.TConfiguration.{TConfiguration}
use Rattle.frame.specs.declared.Nest.{Nest}
use Rattle.frame.specs.declared.Nest.TheVariants.{Fields, Items, Keys, Values}
use Rattle.frame.specs.declared.Goal.TheVariants as O
use Rattle.frame.specs.declared.Wait.{Wait}
use Rattle.frame.specs.declared.Wait.TheVariants as W
use Rattle.frame.specs.declared.Begun.{Begun}
use Rattle.frame.specs.declared.Begun.TheVariants as B
use Rattle.frame.specs.declared.Turn.{Turn}
use Rattle.frame.specs.declared.Turn.TheVariants as U
use Rattle.frame.specs.Machine.{fresh}
use Rattle.frame.specs.Turns.{width_of, in_room, begun, value_turn, up_turn, item_turn, pair_turn, second_turn, turned}

-- in_room
module _ (lim : TConfiguration) (held : ℕ) (b : Begun) where
  pub room_yes : held < lim.depth → b ≡ in_room lim held b
  unfolding in_room
  room_yes h = rw (lt-ltb held lim.depth h)

  pub room_no : lim.depth ≤ held → B.Refused DEPTH ≡ in_room lim held b
  unfolding in_room
  room_no h = rw (le-ltb held lim.depth h)

pub ruleset room_cases = (room_yes, room_no)

-- begin_value
module _ (lim : TConfiguration) (held : ℕ) (t : TType) where
  pub begin_stop : t ≡ T.Stop → B.Refused BAD_TYPE ≡ begun lim held t
  unfolding begun
  begin_stop e = rw e

  pub begin_bool : t ≡ T.Bool → B.Asks W.Truth ≡ begun lim held t
  unfolding begun
  begin_bool e = rw e

  pub begin_i08 : t ≡ T.I08 → B.Passes ≡ begun lim held t
  unfolding begun
  begin_i08 e = rw e

  pub begin_i16 : t ≡ T.I16 → B.Asks (W.Varint O.Short fresh) ≡ begun lim held t
  unfolding begun
  begin_i16 e = rw e

  pub begin_i32 : t ≡ T.I32 → B.Asks (W.Number 5) ≡ begun lim held t
  unfolding begun
  begin_i32 e = rw e

  pub begin_i64 : t ≡ T.I64 → B.Asks (W.Number 10) ≡ begun lim held t
  unfolding begun
  begin_i64 e = rw e

  pub begin_double : t ≡ T.Double → B.Passes ≡ begun lim held t
  unfolding begun
  begin_double e = rw e

  pub begin_string : t ≡ T.String → B.Asks (W.Varint O.Length fresh) ≡ begun lim held t
  unfolding begun
  begin_string e = rw e

  pub begin_uuid : t ≡ T.Uuid → B.Passes ≡ begun lim held t
  unfolding begun
  begin_uuid e = rw e

  pub begin_list : (q : Begun) → t ≡ T.List → q ≡ in_room lim held (B.Asks W.List) → q ≡ begun lim held t
  unfolding begun
  begin_list q e h = rw e h

  pub begin_set : (q : Begun) → t ≡ T.Set → q ≡ in_room lim held (B.Asks W.List) → q ≡ begun lim held t
  unfolding begun
  begin_set q e h = rw e h

  pub begin_map : (q : Begun) → t ≡ T.Map → q ≡ in_room lim held (B.Asks (W.Varint O.Pairs fresh)) → q ≡ begun lim held t
  unfolding begun
  begin_map q e h = rw e h

  pub begin_struct : (q : Begun) → t ≡ T.Struct → q ≡ in_room lim held B.Enters → q ≡ begun lim held t
  unfolding begun
  begin_struct q e h = rw e h

pub ruleset begin_cases = (begin_stop, begin_bool, begin_i08, begin_i16, begin_i32, begin_i64, begin_double, begin_string, begin_uuid, begin_list, begin_set, begin_map, begin_struct)

-- value_turn
module _ (lim : TConfiguration) (held : ℕ) (l : Nest) (body : ℕ) (t : TType) (b : Begun) (e : b ≡ begun lim held t) where
  pub value_asks : (w : Wait) → b ≡ B.Asks w → U.Asks l body w ≡ value_turn lim held l body t
  unfolding value_turn
  value_asks w g = rw (← e, g)

  pub value_enters : b ≡ B.Enters → U.Enters l body ≡ value_turn lim held l body t
  unfolding value_turn
  value_enters g = rw (← e, g)

  pub value_passes : b ≡ B.Passes → U.Refused END ≡ value_turn lim held l body t
  unfolding value_turn
  value_passes g = rw (← e, g)

  pub value_refused : (why : ℕ) → b ≡ B.Refused why → U.Refused why ≡ value_turn lim held l body t
  unfolding value_turn
  value_refused why g = rw (← e, g)

pub ruleset value_cases = (value_asks, value_enters, value_passes, value_refused)

-- up_turn
module _ (left body n : ℕ) where
  pub up_fits : n ≤ left - body → U.Up (body + n) ≡ up_turn left body n
  unfolding up_turn
  up_fits h = rw (le-leb n (left - body) h)

  pub up_not : left - body < n → U.Refused END ≡ up_turn left body n
  unfolding up_turn
  up_not h = rw (lt-leb n (left - body) h)

pub ruleset up_cases = (up_fits, up_not)

-- so many bytes fit a number
times : (n w : ℕ) → n < 2 ^ 32 → w ≤ 32 → n * w < 2 ^ 64
times n w h g =
    let a : n ≤ 4294967295 = omega arith in
    omega (arith, mul-le-mul a g)

-- item_turn
module _ (lim : TConfiguration) (left held : ℕ) (t : TType) (n body : ℕ) where
  pub item_none : n ≡ 0 → U.Up body ≡ item_turn lim left held t n body
  unfolding item_turn
  item_none h = rw (eq-eqb n 0 h)

  module _ (h : n ≡ 0 → ⊥) (w : ℕ) (e : w ≡ width_of t) where
    pub item_fits : w ≤ 16 → n < 2 ^ 32 → Fits w64 (n * w)
    item_fits s f = record { fits = times n w f (omega arith) }

    pub item_wide : (q : Turn) → 0 < w → q ≡ up_turn left body (n * w) → q ≡ item_turn lim left held t n body
    unfolding item_turn
    item_wide q g k = rw (ne_eqb n 0 h, ← e, lt-ltb 0 w g) k

    pub item_looked : (q : Turn) → w ≤ 0 → q ≡ value_turn lim held (Items t (n - 1)) body t → q ≡ item_turn lim left held t n body
    unfolding item_turn
    item_looked q g k = rw (ne_eqb n 0 h, ← e, le-ltb 0 w g) k

pub ruleset item_cases = (item_none, item_fits, item_wide, item_looked)

-- pair_turn
module _ (lim : TConfiguration) (left held : ℕ) (k v : TType) (n body : ℕ) where
  pub pair_none : n ≡ 0 → U.Up body ≡ pair_turn lim left held k v n body
  unfolding pair_turn
  pair_none h = rw (eq-eqb n 0 h)

  module _ (h : n ≡ 0 → ⊥) (w : ℕ) (e : w ≡ width_of k) where
    pub pair_looked : (q : Turn) → w ≤ 0 → q ≡ value_turn lim held (Values k v (n - 1)) body k → q ≡ pair_turn lim left held k v n body
    unfolding pair_turn
    pair_looked q g i = rw (ne_eqb n 0 h, ← e, le-ltb 0 w g) i

    module _ (g : 0 < w) (x : ℕ) (f : x ≡ width_of v) where
      pub pair_fits : w ≤ 16 → x ≤ 16 → n < 2 ^ 32 → Fits w64 (n * (w + x))
      pair_fits a b c = record { fits = times n (w + x) c (omega arith) }

      pub pair_wide : (q : Turn) → 0 < x → q ≡ up_turn left body (n * (w + x)) → q ≡ pair_turn lim left held k v n body
      unfolding pair_turn
      pair_wide q i j = rw (ne_eqb n 0 h, ← e, lt-ltb 0 w g, ← f, lt-ltb 0 x i) j

      pub pair_key : (q : Turn) → x ≤ 0 → w ≤ left - body → q ≡ value_turn lim held (Keys k v (n - 1)) (body + w) v → q ≡ pair_turn lim left held k v n body
      unfolding pair_turn
      pair_key q i m j = rw (ne_eqb n 0 h, ← e, lt-ltb 0 w g, ← f, le-ltb 0 x i, le-leb w (left - body) m) j

      pub pair_out : x ≤ 0 → left - body < w → U.Refused END ≡ pair_turn lim left held k v n body
      unfolding pair_turn
      pair_out i m = rw (ne_eqb n 0 h, ← e, lt-ltb 0 w g, ← f, le-ltb 0 x i, lt-leb w (left - body) m)

pub ruleset pair_cases = (pair_none, pair_looked, pair_fits, pair_wide, pair_key, pair_out)

-- second_turn
module _ (lim : TConfiguration) (left held : ℕ) (k v : TType) (n body w : ℕ) (e : w ≡ width_of v) where
  pub second_looked : (q : Turn) → w ≤ 0 → q ≡ value_turn lim held (Keys k v n) body v → q ≡ second_turn lim left held k v n body
  unfolding second_turn
  second_looked q g i = rw (← e, le-ltb 0 w g) i

  module _ (g : 0 < w) where
    pub second_wide : (q : Turn) → w ≤ left - body → q ≡ pair_turn lim left held k v n (body + w) → q ≡ second_turn lim left held k v n body
    unfolding second_turn
    second_wide q m i = rw (← e, lt-ltb 0 w g, le-leb w (left - body) m) i

    pub second_out : left - body < w → U.Refused END ≡ second_turn lim left held k v n body
    unfolding second_turn
    second_out m = rw (← e, lt-ltb 0 w g, lt-leb w (left - body) m)

pub ruleset second_cases = (second_looked, second_wide, second_out)

-- turn_over
module _ (lim : TConfiguration) (left held : ℕ) (l : Nest) (body : ℕ) where
  pub over_fields : (id : FieldId) → l ≡ Fields id → U.Asks (Fields id) body W.Head ≡ turned lim left held l body
  unfolding turned
  over_fields id e = rw e

  pub over_items : (t : TType) (n : ℕ) (q : Turn) → l ≡ Items t n → q ≡ item_turn lim left held t n body → q ≡ turned lim left held l body
  unfolding turned
  over_items t n q e h = rw e h

  pub over_keys : (k v : TType) (n : ℕ) (q : Turn) → l ≡ Keys k v n → q ≡ pair_turn lim left held k v n body → q ≡ turned lim left held l body
  unfolding turned
  over_keys k v n q e h = rw e h

  pub over_values : (k v : TType) (n : ℕ) (q : Turn) → l ≡ Values k v n → q ≡ second_turn lim left held k v n body → q ≡ turned lim left held l body
  unfolding turned
  over_values k v n q e h = rw e h

pub ruleset over_cases = (over_fields, over_items, over_keys, over_values)
