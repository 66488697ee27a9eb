-- What the functions that read a row answer at each of their returns. Assumes nothing.
use mathlib.Core.Path.{◌≡◌, refl, sym, ap, ◌∙◌}
use mathlib.Core.Bool.{Bool, true, false, cond}
use mathlib.Core.List.{List}
use Prim.Native.Nat.{ℕ, suc, ◌+◌, ◌-◌, ◌*◌, ◌≤◌, ◌<◌}
use native.Mathlib.Omega.{arith}
use borrow.Author.Rules.{sfits_of}
use borrow.Author.Tests.{lt-ltb, le-ltb, le-leb, lt-leb, leb-true, eq-eqb, ne_eqb}
use lib.Dec.{leb, eqb}
use lib.ListN.{length, get_or, set, replicate}
use lib.IntN.{ℤ, pos}
use mir.Facts.{to_z-of_z}
use Rattle.types.specs.Codes.{type_by_number}
use Rattle.types.specs.Refusals.{BAD_STATE}
use Rattle.types.specs.declared.TType.{TType}
use Rattle.types.specs.declared.TypeRead.{TypeRead}
use Rattle.types.specs.declared.TypeRead.TheVariants as R
use Rattle.heads.specs.Answers.{id_of}
use Rattle.rows.specs.Row.{last_in}
use Rattle.frame.specs.declared.Nest.{Nest}
use Rattle.frame.specs.declared.Nest.TheVariants.{Fields, Items, Keys, Values}
use Rattle.frame.specs.declared.Level.{Level}
use Rattle.frame.specs.declared.Goal.{Goal}
use Rattle.frame.specs.declared.Goal.TheVariants as O
use Rattle.frame.specs.declared.Wait.TheVariants as W
use Rattle.frame.specs.declared.Now.{Now}
use Rattle.frame.specs.declared.Now.TheVariants as N
use Rattle.frame.specs.State.{level_of}
use Rattle.frame_rows.specs.declared.NestRead.{NestRead}
use Rattle.frame_rows.specs.declared.NestRead.TheVariants as L
use Rattle.frame_rows.specs.declared.GoalRead.{GoalRead}
use Rattle.frame_rows.specs.declared.GoalRead.TheVariants as G
use Rattle.frame_rows.specs.declared.NowRead.{NowRead}
use Rattle.frame_rows.specs.declared.NowRead.TheVariants as X
use Rattle.frame_rows.specs.Row.{type_of, pair_of, item_of, nest_of, nest_in, goal_of, part_of, varint_of, now_of, now_in, nest_or, is_now, all_nests, holds, levels_of, rest_in}

pub type_in : (n : ℕ) (r : TypeRead) → n < 14 → r ≡ type_by_number n → r ≡ type_of n
unfolding type_of
type_in n r h e = rw (lt-ltb n 14 h) e

pub type_out : (n : ℕ) → 14 ≤ n → R.Refused BAD_STATE ≡ type_of n
unfolding type_of
type_out n h = rw (le-ltb n 14 h)

pub ruleset types = (type_in, type_out)

-- a container
module _ (form : ℕ) (k : TType) (v n : ℕ) (t : TypeRead) (e : t ≡ type_of v) where
  pub pair_none : (why : ℕ) → t ≡ R.Refused why → L.Refused ≡ pair_of form k n (type_of v)
  pair_none why f = rw (← e, f)

  module _ (x : TType) (f : t ≡ R.Got x) where
    pub pair_keys : form ≡ 2 → L.Got (Keys k x n) ≡ pair_of form k n (type_of v)
    pair_keys h = rw (← e, f, eq-eqb form 2 h)

    module _ (a : form ≡ 2 → ⊥) where
      pub pair_values : form ≡ 3 → L.Got (Values k x n) ≡ pair_of form k n (type_of v)
      pair_values h = rw (← e, f, ne_eqb form 2 a, eq-eqb form 3 h)

      pub pair_neither : (form ≡ 3 → ⊥) → L.Refused ≡ pair_of form k n (type_of v)
      pair_neither h = rw (← e, f, ne_eqb form 2 a, ne_eqb form 3 h)

pub ruleset pairs = (pair_none, pair_keys, pair_values, pair_neither)

module _ (form k v n : ℕ) (t : TypeRead) (e : t ≡ type_of k) where
  pub item_none : (why : ℕ) → t ≡ R.Refused why → L.Refused ≡ item_of form v n (type_of k)
  item_none why f = rw (← e, f)

  module _ (x : TType) (f : t ≡ R.Got x) where
    pub item_items : form ≡ 1 → L.Got (Items x n) ≡ item_of form v n (type_of k)
    item_items h = rw (← e, f, eq-eqb form 1 h)

    pub item_pairs : (r : NestRead) → (form ≡ 1 → ⊥) → r ≡ pair_of form x n (type_of v) → r ≡ item_of form v n (type_of k)
    item_pairs r h g = rw (← e, f, ne_eqb form 1 h) g

pub ruleset items = (item_none, item_items, item_pairs)

module _ (form k v n : ℕ) where
  module _ (f : form ≡ 0) where
    pub nest_fields : (y z : ℤ) → n < 65536 → z ≡ last_in n → y ≡ z → L.Got (Fields (id_of y)) ≡ nest_of form k v n
    unfolding nest_of
    nest_fields y z h e g = rw (eq-eqb form 0 f, lt-ltb n 65536 h, g, e)

    pub nest_wide : 65536 ≤ n → L.Refused ≡ nest_of form k v n
    unfolding nest_of
    nest_wide h = rw (eq-eqb form 0 f, le-ltb n 65536 h)

  module _ (f : form ≡ 0 → ⊥) where
    pub nest_typed : (r : NestRead) → n < 4294967296 → r ≡ item_of form v n (type_of k) → r ≡ nest_of form k v n
    unfolding nest_of
    nest_typed r h e = rw (ne_eqb form 0 f, lt-ltb n 4294967296 h) e

    pub nest_large : 4294967296 ≤ n → L.Refused ≡ nest_of form k v n
    unfolding nest_of
    nest_large h = rw (ne_eqb form 0 f, le-ltb n 4294967296 h)

pub ruleset nests = (nest_fields, nest_wide, nest_typed, nest_large, to_z-of_z, sfits_of)

pub nest_at_lem : (row : List ℕ) (i a b c d : ℕ) (r : NestRead) → a ≡ get_or row (12 + 4 * i) 0 → b ≡ get_or row (13 + 4 * i) 0 → c ≡ get_or row (14 + 4 * i) 0 → d ≡ get_or row (15 + 4 * i) 0 → r ≡ nest_of a b c d → r ≡ nest_in row i
unfolding nest_in
nest_at_lem row i a b c d r e f g h k = rw (← e, ← f, ← g, ← h) k

pub ruleset nest_ats = (nest_at_lem)

-- the loop that asks whether all are such
module _ (row : List ℕ) (all d : ℕ) (inv : all_nests row all ≡ all_nests row d) where
  pub nests_all : d ≤ 0 → true ≡ all_nests row all
  unfolding all_nests
  nests_all h = let e : d ≡ 0 = omega arith in rw (inv, e)

  module _ (x : NestRead) (e : x ≡ nest_in row (d - 1)) (h : 0 < d) where
    last : suc (d - 1) ≡ d
    last = omega arith

    pub nests_none : x ≡ L.Refused → false ≡ all_nests row all
    unfolding all_nests
    nests_none f = sym (inv ∙ ap (all_nests row) (sym last) ∙ rw (← e, f) refl)

    pub nests_on : (l : Nest) → x ≡ L.Got l → all_nests row all ≡ all_nests row (d - 1)
    unfolding all_nests
    nests_on l f = inv ∙ ap (all_nests row) (sym last) ∙ rw (← e, f) refl

pub ruleset all_nests_lem = (nests_all, nests_none, nests_on)

module _ (row : List ℕ) (i : ℕ) (x : NestRead) (e : x ≡ nest_in row i) where
  pub or_nest : (l : Nest) → x ≡ L.Got l → l ≡ nest_or (nest_in row i)
  or_nest l f = rw (← e, f)

  pub or_none : x ≡ L.Refused → Fields (id_of (pos 0)) ≡ nest_or (nest_in row i)
  or_none f = rw (← e, f)

pub ruleset or_nests = (or_nest, or_none)

-- the loop that reads them
pub levels_none : (row : List ℕ) → replicate 64 (level_of (Fields (id_of (pos 0)))) ≡ levels_of row 0
unfolding levels_of
levels_none row = refl

pub levels_on : (row : List ℕ) (levels : List Level) (i : ℕ) (l : Nest) → levels ≡ levels_of row i → l ≡ nest_or (nest_in row i) → set levels i (level_of l) ≡ levels_of row (i + 1)
unfolding levels_of
levels_on row levels i l e f = let n : i + 1 ≡ suc i = omega arith in rw (n, ← f, e)

pub levels_all : (row : List ℕ) (levels : List Level) (i depth : ℕ) → levels ≡ levels_of row i → i ≤ depth → depth ≤ i → levels ≡ levels_of row depth
levels_all row levels i depth e a b = let n : i ≡ depth = omega arith in rw (← n) e

-- what a number is for
module _ (g t : ℕ) where
  pub goal_flag : g ≡ 0 → G.Got O.Flag ≡ goal_of g t
  unfolding goal_of
  goal_flag h = rw (eq-eqb g 0 h)

  module _ (a : g ≡ 0 → ⊥) where
    module _ (f : g ≡ 1) (x : TypeRead) (e : x ≡ type_of t) where
      pub goal_id : (k : TType) → x ≡ R.Got k → G.Got (O.Id k) ≡ goal_of g t
      unfolding goal_of
      goal_id k h = rw (ne_eqb g 0 a, eq-eqb g 1 f, ← e, h)

      pub goal_no_id : (why : ℕ) → x ≡ R.Refused why → G.Refused ≡ goal_of g t
      unfolding goal_of
      goal_no_id why h = rw (ne_eqb g 0 a, eq-eqb g 1 f, ← e, h)

    module _ (b : g ≡ 1 → ⊥) where
      module _ (f : g ≡ 2) (x : TypeRead) (e : x ≡ type_of t) where
        pub goal_count : (k : TType) → x ≡ R.Got k → G.Got (O.Count k) ≡ goal_of g t
        unfolding goal_of
        goal_count k h = rw (ne_eqb g 0 a, ne_eqb g 1 b, eq-eqb g 2 f, ← e, h)

        pub goal_no_count : (why : ℕ) → x ≡ R.Refused why → G.Refused ≡ goal_of g t
        unfolding goal_of
        goal_no_count why h = rw (ne_eqb g 0 a, ne_eqb g 1 b, eq-eqb g 2 f, ← e, h)

      module _ (c : g ≡ 2 → ⊥) where
        pub goal_pairs : g ≡ 3 → G.Got O.Pairs ≡ goal_of g t
        unfolding goal_of
        goal_pairs h = rw (ne_eqb g 0 a, ne_eqb g 1 b, ne_eqb g 2 c, eq-eqb g 3 h)

        module _ (d : g ≡ 3 → ⊥) where
          pub goal_length : g ≡ 4 → G.Got O.Length ≡ goal_of g t
          unfolding goal_of
          goal_length h = rw (ne_eqb g 0 a, ne_eqb g 1 b, ne_eqb g 2 c, ne_eqb g 3 d, eq-eqb g 4 h)

          module _ (i : g ≡ 4 → ⊥) where
            pub goal_short : g ≡ 5 → G.Got O.Short ≡ goal_of g t
            unfolding goal_of
            goal_short h = rw (ne_eqb g 0 a, ne_eqb g 1 b, ne_eqb g 2 c, ne_eqb g 3 d, ne_eqb g 4 i, eq-eqb g 5 h)

            pub goal_none : (g ≡ 5 → ⊥) → G.Refused ≡ goal_of g t
            unfolding goal_of
            goal_none h = rw (ne_eqb g 0 a, ne_eqb g 1 b, ne_eqb g 2 c, ne_eqb g 3 d, ne_eqb g 4 i, ne_eqb g 5 h)

pub ruleset goals = (goal_flag, goal_id, goal_no_id, goal_count, goal_no_count, goal_pairs, goal_length, goal_short, goal_none)

module _ (n g t groups : ℕ) where
  pub varint_large : 4294967296 ≤ n → X.Refused ≡ varint_of n g t groups
  unfolding varint_of
  varint_large h = rw (le-ltb n 4294967296 h)

  module _ (a : n < 4294967296) where
    pub varint_wide : 256 ≤ groups → X.Refused ≡ varint_of n g t groups
    unfolding varint_of
    varint_wide h = rw (lt-ltb n 4294967296 a, le-ltb groups 256 h)

    module _ (b : groups < 256) (x : GoalRead) (e : x ≡ goal_of g t) where
      pub varint_got : (o : Goal) → x ≡ G.Got o → X.Got (N.Asks (W.Varint o (part_of groups n))) ≡ varint_of n g t groups
      unfolding varint_of
      varint_got o f = rw (lt-ltb n 4294967296 a, lt-ltb groups 256 b, ← e, f)

      pub varint_none : x ≡ G.Refused → X.Refused ≡ varint_of n g t groups
      unfolding varint_of
      varint_none f = rw (lt-ltb n 4294967296 a, lt-ltb groups 256 b, ← e, f)

pub ruleset varints = (varint_large, varint_wide, varint_got, varint_none)

-- where a frame rests
module _ (form n g t groups : ℕ) where
  pub now_head : form ≡ 0 → X.Got (N.Asks W.Head) ≡ now_of form n g t groups
  unfolding now_of
  now_head h = rw (eq-eqb form 0 h)

  module _ (a : form ≡ 0 → ⊥) where
    pub now_truth : form ≡ 1 → X.Got (N.Asks W.Truth) ≡ now_of form n g t groups
    unfolding now_of
    now_truth h = rw (ne_eqb form 0 a, eq-eqb form 1 h)

    module _ (b : form ≡ 1 → ⊥) where
      pub now_list : form ≡ 2 → X.Got (N.Asks W.List) ≡ now_of form n g t groups
      unfolding now_of
      now_list h = rw (ne_eqb form 0 a, ne_eqb form 1 b, eq-eqb form 2 h)

      module _ (c : form ≡ 2 → ⊥) where
        module _ (h : form ≡ 3) where
          pub now_types : n < 4294967296 → X.Got (N.Asks (W.Types n)) ≡ now_of form n g t groups
          unfolding now_of
          now_types k = rw (ne_eqb form 0 a, ne_eqb form 1 b, ne_eqb form 2 c, eq-eqb form 3 h, lt-ltb n 4294967296 k)

          pub now_no_types : 4294967296 ≤ n → X.Refused ≡ now_of form n g t groups
          unfolding now_of
          now_no_types k = rw (ne_eqb form 0 a, ne_eqb form 1 b, ne_eqb form 2 c, eq-eqb form 3 h, le-ltb n 4294967296 k)

        module _ (d : form ≡ 3 → ⊥) where
          pub now_varint : (r : NowRead) → form ≡ 4 → r ≡ varint_of n g t groups → r ≡ now_of form n g t groups
          unfolding now_of
          now_varint r h e = rw (ne_eqb form 0 a, ne_eqb form 1 b, ne_eqb form 2 c, ne_eqb form 3 d, eq-eqb form 4 h) e

          module _ (i : form ≡ 4 → ⊥) where
            pub now_done : form ≡ 6 → X.Got (N.Done n) ≡ now_of form n g t groups
            unfolding now_of
            now_done h = rw (ne_eqb form 0 a, ne_eqb form 1 b, ne_eqb form 2 c, ne_eqb form 3 d, ne_eqb form 4 i, eq-eqb form 6 h)

            module _ (j : form ≡ 6 → ⊥) where
              pub now_wide : 256 ≤ n → X.Refused ≡ now_of form n g t groups
              unfolding now_of
              now_wide h = rw (ne_eqb form 0 a, ne_eqb form 1 b, ne_eqb form 2 c, ne_eqb form 3 d, ne_eqb form 4 i, ne_eqb form 6 j, le-ltb n 256 h)

              module _ (k : n < 256) where
                pub now_number : form ≡ 5 → X.Got (N.Asks (W.Number n)) ≡ now_of form n g t groups
                unfolding now_of
                now_number h = rw (ne_eqb form 0 a, ne_eqb form 1 b, ne_eqb form 2 c, ne_eqb form 3 d, ne_eqb form 4 i, ne_eqb form 6 j, lt-ltb n 256 k, eq-eqb form 5 h)

                module _ (l : form ≡ 5 → ⊥) where
                  pub now_refused : form ≡ 7 → X.Got (N.Refused n) ≡ now_of form n g t groups
                  unfolding now_of
                  now_refused h = rw (ne_eqb form 0 a, ne_eqb form 1 b, ne_eqb form 2 c, ne_eqb form 3 d, ne_eqb form 4 i, ne_eqb form 6 j, lt-ltb n 256 k, ne_eqb form 5 l, eq-eqb form 7 h)

                  pub now_none : (form ≡ 7 → ⊥) → X.Refused ≡ now_of form n g t groups
                  unfolding now_of
                  now_none h = rw (ne_eqb form 0 a, ne_eqb form 1 b, ne_eqb form 2 c, ne_eqb form 3 d, ne_eqb form 4 i, ne_eqb form 6 j, lt-ltb n 256 k, ne_eqb form 5 l, ne_eqb form 7 h)

pub ruleset nows = (now_head, now_truth, now_list, now_types, now_no_types, now_varint, now_done, now_wide, now_number, now_refused, now_none)

pub now_at : (row : List ℕ) (a b c d i : ℕ) (r : NowRead) → a ≡ get_or row 7 0 → b ≡ get_or row 8 0 → c ≡ get_or row 9 0 → d ≡ get_or row 10 0 → i ≡ get_or row 11 0 → r ≡ now_of a b c d i → r ≡ now_in row
unfolding now_in
now_at row a b c d i r e f g h k l = rw (← e, ← f, ← g, ← h, ← k) l

pub ruleset now_ats = (now_at)

-- the whole state
module _ (row : List ℕ) where
  pub holds_short : (length row ≡ 268 → ⊥) → false ≡ holds row
  unfolding holds
  holds_short h = rw (ne_eqb (length row) 268 h)

  module _ (a : length row ≡ 268) (depth : ℕ) (e : depth ≡ get_or row 5 0) where
    pub holds_deep : 64 < depth → false ≡ holds row
    unfolding holds
    holds_deep h = rw (eq-eqb (length row) 268 a, lt-leb (get_or row 5 0) 64 (rw (← e) h))

    module _ (b : depth ≤ 64) (x : NowRead) (f : x ≡ now_in row) where
      pub holds_none : x ≡ X.Refused → false ≡ holds row
      unfolding holds
      holds_none h = rw (eq-eqb (length row) 268 a, le-leb (get_or row 5 0) 64 (rw (← e) b), ← f, h)

      pub holds_all : (n : Now) (r : Bool) → x ≡ X.Got n → r ≡ all_nests row depth → r ≡ holds row
      unfolding holds
      holds_all n r h g = rw (eq-eqb (length row) 268 a, le-leb (get_or row 5 0) 64 (rw (← e) b), ← f, h, ← e) g

  pub rest_got : (x : NowRead) (n : Now) → x ≡ now_in row → x ≡ X.Got n → record { 0 = n } ≡ rest_in row
  unfolding rest_in
  rest_got x n e f = rw (← e, f)

  pub rest_none : (x : NowRead) → x ≡ now_in row → x ≡ X.Refused → record { 0 = N.Refused BAD_STATE } ≡ rest_in row
  unfolding rest_in
  rest_none x e f = rw (← e, f)

pub ruleset holding = (holds_short, holds_deep, holds_none, holds_all)

pub ruleset resting = (rest_got, rest_none)

-- a row that holds a state
pub if_so : (b x : Bool) → cond b x false ≡ true → (b ≡ true) × (x ≡ true)
if_so true x e = (refl, e)
if_so false x e = (e, cc)

module _ (row : List ℕ) (e : holds row ≡ true) where
  parts : (eqb (length row) 268 ≡ true) × (leb (get_or row 5 0) 64 ≡ true) × (is_now (now_in row) ≡ true) × (all_nests row (get_or row 5 0) ≡ true)
  unfolding holds
  parts =
      let c : Bool = cond (is_now (now_in row)) (all_nests row (get_or row 5 0)) false in
      let b : Bool = cond (leb (get_or row 5 0) 64) c false in
      let x = if_so (eqb (length row) 268) b e in
      let y = if_so (leb (get_or row 5 0) 64) c x.1 in
      let z = if_so (is_now (now_in row)) (all_nests row (get_or row 5 0)) y.1 in
      (x.0, y.0, z.0, z.1)

  pub held_depth : get_or row 5 0 ≤ 64
  held_depth = leb-true (get_or row 5 0) 64 parts.1

pub depth_held : (row : List ℕ) (ok : Bool) → ok ≡ holds row → ok ≡ true → get_or row 5 0 ≤ 64
depth_held row ok e f = held_depth row (sym e ∙ f)
