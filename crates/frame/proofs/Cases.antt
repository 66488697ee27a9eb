-- What the code's steps answer at each of their returns, from what they know there. Assumes nothing.
use mathlib.Core.Path.{◌≡◌}
use mathlib.Core.Bool.{Bool, true, false}
use Prim.Native.Nat.{ℕ, zero, suc, ◌+◌, ◌-◌, ◌*◌, ◌/◌, ◌%◌, ◌^◌, ◌≤◌, ◌<◌}
use native.Mathlib.Nat.{mul-le-mul, mod-eq_of_lt}
use native.Mathlib.Omega.{arith}
use borrow.Author.Rules.{sfits_of}
use borrow.Author.Tests.{eq-eqb, ne_eqb, lt-ltb, le-ltb, le-leb, lt-leb}
use lib.IntN.{ℤ, pos}
use lib.Signed.{lt_z}
use mir.Syntax.{w16, w32, w64}
use mir.Val.{Fits, SFits, to_z, of_z}
use mir.Facts.{to_z-of_z}
use Rattle.zigzag.proofs.Zig.{range_exact}
use Rattle.heads.specs.Heads.{least_size}
use Rattle.heads.specs.Answers.{id_of, count_why}
use Rattle.heads.proofs.Fields.{code_sum, id_wide, id_is, id_fits, id_back, delta_wide}
use Rattle.frame.specs.declared.Part.{Part}
use Rattle.frame.specs.declared.Grown.{Grown}
use Rattle.frame.specs.declared.Grown.TheVariants as G
use Rattle.frame.specs.declared.ShortId.{ShortId}
use Rattle.frame.specs.declared.ShortId.TheVariants as S
use Rattle.types.specs.Refusals.{END, BAD_TYPE, BAD_BOOL, FIELD_ID, LONG_VARINT, SIZE_LIMIT, RANGE}
use Rattle.types.specs.Codes.{element_type, field_type}
use Rattle.types.specs.declared.TType.{TType}
use Rattle.types.specs.declared.TypeRead.{TypeRead}
use Rattle.types.specs.declared.TypeRead.TheVariants as R
use Rattle.types.specs.declared.FieldType.{FieldType}
use Rattle.types.specs.declared.FieldType.TheVariants as F
use Rattle.types.specs.declared.FieldId.{FieldId}
use Rattle.types.specs.declared.TConfiguration.{TConfiguration}
use Rattle.zigzag.specs.Zigzag.{unzigzag}
use Rattle.skip.specs.Value.{startable}
use Rattle.frame.specs.declared.Nest.{Nest}
use Rattle.frame.specs.declared.Nest.TheVariants.{Fields, Items, Keys, Values}
use Rattle.frame.specs.declared.Goal.{Goal}
use Rattle.frame.specs.declared.Goal.TheVariants as O
use Rattle.frame.specs.declared.Wait.{Wait}
use Rattle.frame.specs.declared.Wait.TheVariants as W
use Rattle.frame.specs.declared.Moved.{Moved}
use Rattle.frame.specs.declared.Moved.TheVariants as M
use Rattle.frame.specs.Machine.{fresh}
use Rattle.frame.specs.Moves.{weight_of, grown, short_id, long_id, head_move, start_move, open_move, start_pairs, open_pairs, list_move, types_move, number_move, length_move, pairs_move, goal_move, moved, Ready}

-- weight
module _ (g : ℕ) where
  pub weight_0 : g ≡ 0 → 1 ≡ weight_of g
  unfolding weight_of
  weight_0 e = rw e

  pub weight_1 : g ≡ 1 → 128 ≡ weight_of g
  unfolding weight_of
  weight_1 e = rw e

  pub weight_2 : g ≡ 2 → 16384 ≡ weight_of g
  unfolding weight_of
  weight_2 e = rw e

  pub weight_3 : g ≡ 3 → 2097152 ≡ weight_of g
  unfolding weight_of
  weight_3 e = rw e

  pub weight_4 : g ≤ 4 → (g ≡ 0 → ⊥) → (g ≡ 1 → ⊥) → (g ≡ 2 → ⊥) → (g ≡ 3 → ⊥) → 268435456 ≡ weight_of g
  unfolding weight_of
  weight_4 h a b c d = let e : g ≡ 4 = omega arith in rw e

pub ruleset weight_cases = (weight_0, weight_1, weight_2, weight_3, weight_4)

weight_most : (g : ℕ) → g ≤ 4 → weight_of g ≤ 268435456
unfolding weight_of
weight_most zero h = omega arith
weight_most (suc zero) h = omega arith
weight_most (suc (suc zero)) h = omega arith
weight_most (suc (suc (suc zero))) h = omega arith
weight_most (suc (suc (suc (suc zero)))) h = omega arith
weight_most (suc (suc (suc (suc (suc g))))) h = absurd (omega arith)

-- grow
module _ (p : Part) (h : p.groups ≤ 4) (w : ℕ) (e : w ≡ weight_of p.groups) (b : ℕ) where
  product : w * (b % 128) ≤ 268435456 * 127
  product =
      let most : w ≤ 268435456 = rw e (weight_most p.groups h) in
      let small : b % 128 ≤ 127 = omega arith in
      mul-le-mul most small

  pub grow_mul : Fits w64 (w * (b % 128))
  grow_mul = record { fits = omega (arith, product) }

  pub grow_add : p.low < 2 ^ 32 → Fits w64 (p.low + w * (b % 128))
  grow_add f = record { fits = omega (arith, product) }

  pub grow_whole : b < 128 → G.Whole ((p.low + w * (b % 128)) % 4294967296) ≡ grown p b
  unfolding grown weight_of
  grow_whole l = rw (lt-ltb b 128 l, ← e, mod-eq_of_lt l)

  pub grow_more : (q : Part) → 128 ≤ b → p.groups < 4 → q ≡ record { groups = p.groups + 1; low = (p.low + w * (b % 128)) % 4294967296 } → G.More q ≡ grown p b
  unfolding grown weight_of
  grow_more q l g k = rw (le-ltb b 128 l, lt-ltb p.groups 4 g, k, ← e)

  pub grow_long : 128 ≤ b → 4 ≤ p.groups → G.Long ≡ grown p b
  unfolding grown
  grow_long l g = rw (le-ltb b 128 l, le-ltb p.groups 4 g)

pub ruleset grow_cases = (grow_mul, grow_add, grow_whole, grow_more, grow_long)

-- short_id
module _ (last : ℤ) (delta : ℕ) (hl : SFits w16 last) (hd : delta < 16) where
  pub short_over : lt_z (pos 32767) (to_z w32 (of_z w32 (code_sum last delta))) ≡ true → S.Over ≡ short_id last delta
  unfolding short_id
  short_over t = rw (rw (id_is last delta hl hd) at t)

  pub short_got : (z : ℤ) → lt_z (pos 32767) (to_z w32 (of_z w32 (code_sum last delta))) ≡ false → z ≡ to_z w32 (of_z w32 (code_sum last delta)) → S.Got (id_of z) ≡ short_id last delta
  unfolding short_id
  short_got z t i = rw (i, id_is last delta hl hd, rw (id_is last delta hl hd) at t)

pub ruleset short_cases = (delta_wide, id_wide, id_fits, id_back, short_over, short_got, to_z-of_z, sfits_of)

-- long_id
module _ (n : ℕ) where
  pub long_got : (z : ℤ) → n < 65536 → z ≡ unzigzag n → S.Got (id_of z) ≡ long_id n
  unfolding long_id
  long_got z h e = rw (range_exact n, lt-ltb n 65536 h, e)

  pub long_over : 65536 ≤ n → S.Over ≡ long_id n
  unfolding long_id
  long_over h = rw (range_exact n, le-ltb n 65536 h)

pub ruleset long_cases = (long_got, long_over, to_z-of_z, sfits_of)

-- head
module _ (last : ℤ) (b : ℕ) where
  pub head_delta : b < 256 → b / 16 < 16
  head_delta h = omega arith

  module _ (x : FieldType) (e : x ≡ field_type (b % 16)) where
    pub head_stop : x ≡ F.Stop → M.Closed ≡ head_move last b
    unfolding head_move
    head_stop g = rw (← e, g)

    pub head_refused : (why : ℕ) → x ≡ F.Refused why → M.Refused why ≡ head_move last b
    unfolding head_move
    head_refused why g = rw (← e, g)

    module _ (t : Bool) (g : x ≡ F.Truth t) where
      pub truth_long : b / 16 ≡ 0 → M.Waits (W.Varint O.Flag fresh) ≡ head_move last b
      unfolding head_move
      truth_long d = rw (← e, g, eq-eqb (b / 16) 0 d)

      module _ (d : b / 16 ≡ 0 → ⊥) (y : ShortId) (k : y ≡ short_id last (b / 16)) where
        pub truth_got : (id : FieldId) → y ≡ S.Got id → M.Named id ≡ head_move last b
        unfolding head_move
        truth_got id q = rw (← e, g, ne_eqb (b / 16) 0 d, ← k, q)

        pub truth_over : y ≡ S.Over → M.Refused FIELD_ID ≡ head_move last b
        unfolding head_move
        truth_over q = rw (← e, g, ne_eqb (b / 16) 0 d, ← k, q)

    module _ (t : TType) (g : x ≡ F.Kind t) where
      pub kind_long : b / 16 ≡ 0 → M.Waits (W.Varint (O.Id t) fresh) ≡ head_move last b
      unfolding head_move
      kind_long d = rw (← e, g, eq-eqb (b / 16) 0 d)

      module _ (d : b / 16 ≡ 0 → ⊥) (y : ShortId) (k : y ≡ short_id last (b / 16)) where
        pub kind_got : (id : FieldId) → y ≡ S.Got id → M.Valued id t ≡ head_move last b
        unfolding head_move
        kind_got id q = rw (← e, g, ne_eqb (b / 16) 0 d, ← k, q)

        pub kind_over : y ≡ S.Over → M.Refused FIELD_ID ≡ head_move last b
        unfolding head_move
        kind_over q = rw (← e, g, ne_eqb (b / 16) 0 d, ← k, q)

pub ruleset head_cases = (head_delta, head_stop, head_refused, truth_long, truth_got, truth_over, kind_long, kind_got, kind_over)

-- start, open
module _ (t : TType) (n : ℕ) (ok : Bool) (k : ok ≡ startable t n) where
  pub start_yes : ok ≡ true → M.Opened (Items t n) ≡ start_move t n
  unfolding start_move
  start_yes g = rw (← k, g)

  pub start_untyped : ok ≡ false → M.Refused BAD_TYPE ≡ start_move t n
  unfolding start_move
  start_untyped g = rw (← k, g)

pub ruleset start_cases = (start_yes, start_untyped)

module _ (lim : TConfiguration) (left : ℕ) (t : TType) (n why : ℕ) (e : why ≡ count_why lim n) where
  pub open_no : (why ≡ 0 → ⊥) → M.Refused why ≡ open_move lim left t n
  unfolding open_move
  open_no h = rw (← e, ne_eqb why 0 h)

  module _ (h : why ≡ 0) (need : ℕ) (k : (need ≡ n * least_size t) × (need < 0x10_0000_0000)) where
    pub open_few : left < need → M.Refused END ≡ open_move lim left t n
    unfolding open_move
    open_few g = rw (← e, eq-eqb why 0 h, ← k.0, lt-leb need left g)

    pub open_on : (q : Moved) → need ≤ left → q ≡ start_move t n → q ≡ open_move lim left t n
    unfolding open_move
    open_on q g i = rw (← e, eq-eqb why 0 h, ← k.0, le-leb need left g) i

pub ruleset open_cases = (open_no, open_few, open_on)

-- list
module _ (lim : TConfiguration) (left b : ℕ) (x : TypeRead) (e : x ≡ element_type (b % 16)) where
  pub list_untyped : (why : ℕ) → x ≡ R.Refused why → M.Refused why ≡ list_move lim left b
  unfolding list_move
  list_untyped why g = rw (← e, g)

  module _ (t : TType) (g : x ≡ R.Got t) where
    pub list_short : (q : Moved) → b / 16 < 15 → q ≡ open_move lim left t (b / 16) → q ≡ list_move lim left b
    unfolding list_move
    list_short q h k = rw (← e, g, lt-ltb (b / 16) 15 h) k

    pub list_long : 15 ≤ b / 16 → M.Waits (W.Varint (O.Count t) fresh) ≡ list_move lim left b
    unfolding list_move
    list_long h = rw (← e, g, le-ltb (b / 16) 15 h)

pub ruleset list_cases = (list_untyped, list_short, list_long)

-- start_pairs, open_pairs
module _ (k v : TType) (n : ℕ) where
  pub pair_key : (ok : Bool) → ok ≡ startable k n → ok ≡ false → M.Refused BAD_TYPE ≡ start_pairs k v n
  unfolding start_pairs
  pair_key ok o i = rw (← o, i)

  module _ (ok : Bool) (i : ok ≡ true) (o : ok ≡ startable k n) (well : Bool) where
    pub pair_value : well ≡ false → well ≡ startable v n → M.Refused BAD_TYPE ≡ start_pairs k v n
    unfolding start_pairs
    pair_value j l = rw (← o, i, ← l, j)

    pub pair_yes : well ≡ true → well ≡ startable v n → M.Opened (Keys k v n) ≡ start_pairs k v n
    unfolding start_pairs
    pair_yes j l = rw (← o, i, ← l, j)

pub ruleset pair_cases = (pair_key, pair_value, pair_yes)

module _ (lim : TConfiguration) (left : ℕ) (k v : TType) (n why : ℕ) (c : why ≡ count_why lim n) where
  pub two_no : (why ≡ 0 → ⊥) → M.Refused why ≡ open_pairs lim left k v n
  unfolding open_pairs
  two_no z = rw (← c, ne_eqb why 0 z)

  module _ (z : why ≡ 0) (a b : ℕ) (f : (a ≡ n * least_size k) × (a < 0x10_0000_0000)) (g : (b ≡ n * least_size v) × (b < 0x10_0000_0000)) where
    pub two_fits : Fits w64 (a + b)
    two_fits = record { fits = omega arith }

    pub two_few : left < a + b → M.Refused END ≡ open_pairs lim left k v n
    unfolding open_pairs
    two_few h = rw (← c, eq-eqb why 0 z, ← f.0, ← g.0, lt-leb (a + b) left h)

    pub two_on : (q : Moved) → a + b ≤ left → q ≡ start_pairs k v n → q ≡ open_pairs lim left k v n
    unfolding open_pairs
    two_on q h i = rw (← c, eq-eqb why 0 z, ← f.0, ← g.0, le-leb (a + b) left h) i

pub ruleset two_cases = (two_no, two_fits, two_few, two_on)

-- open_map
module _ (lim : TConfiguration) (left n b : ℕ) (x : TypeRead) (e : x ≡ element_type (b / 16)) where
  pub map_keyless : (why : ℕ) → x ≡ R.Refused why → M.Refused why ≡ types_move lim left n b
  unfolding types_move
  map_keyless why g = rw (← e, g)

  module _ (k : TType) (g : x ≡ R.Got k) (y : TypeRead) (f : y ≡ element_type (b % 16)) where
    pub map_valueless : (why : ℕ) → y ≡ R.Refused why → M.Refused why ≡ types_move lim left n b
    unfolding types_move
    map_valueless why h = rw (← e, g, ← f, h)

    pub map_typed : (v : TType) (q : Moved) → y ≡ R.Got v → q ≡ open_pairs lim left k v n → q ≡ types_move lim left n b
    unfolding types_move
    map_typed v q h i = rw (← e, g, ← f, h) i

pub ruleset map_cases = (map_keyless, map_valueless, map_typed)

-- number, length_of, pairs
module _ (k b : ℕ) where
  pub number_end : b < 128 → M.Passed 0 ≡ number_move k b
  unfolding number_move
  number_end h = rw (lt-ltb b 128 h)

  pub number_more : 128 ≤ b → 1 < k → M.Waits (W.Number (k - 1)) ≡ number_move k b
  unfolding number_move
  number_more h g = rw (le-ltb b 128 h, lt-ltb 1 k g)

  pub number_long : 128 ≤ b → k ≤ 1 → M.Refused LONG_VARINT ≡ number_move k b
  unfolding number_move
  number_long h g = rw (le-ltb b 128 h, le-ltb 1 k g)

pub ruleset number_cases = (number_end, number_more, number_long)

module _ (lim : TConfiguration) (n : ℕ) where
  pub length_well : n ≤ lim.string → M.Passed n ≡ length_move lim n
  unfolding length_move
  length_well h = rw (le-leb n lim.string h)

  pub length_over : lim.string < n → M.Refused SIZE_LIMIT ≡ length_move lim n
  unfolding length_move
  length_over h = rw (lt-leb n lim.string h)

pub ruleset length_cases = (length_well, length_over)

module _ (n : ℕ) where
  pub pairs_none : n ≡ 0 → M.Passed 0 ≡ pairs_move n
  unfolding pairs_move
  pairs_none h = rw (eq-eqb n 0 h)

  pub pairs_some : (n ≡ 0 → ⊥) → M.Waits (W.Types n) ≡ pairs_move n
  unfolding pairs_move
  pairs_some h = rw (ne_eqb n 0 h)

pub ruleset pairs_cases = (pairs_none, pairs_some)

-- reach
module _ (lim : TConfiguration) (left : ℕ) (g : Goal) (n : ℕ) where
  module _ (x : ShortId) (f : x ≡ long_id n) where
    pub flag_got : (id : FieldId) → g ≡ O.Flag → x ≡ S.Got id → M.Named id ≡ goal_move lim left g n
    unfolding goal_move
    flag_got id e h = rw (e, ← f, h)

    pub id_got : (t : TType) (id : FieldId) → g ≡ O.Id t → x ≡ S.Got id → M.Valued id t ≡ goal_move lim left g n
    unfolding goal_move
    id_got t id e h = rw (e, ← f, h)

    pub short_value : (id : FieldId) → g ≡ O.Short → x ≡ S.Got id → M.Passed 0 ≡ goal_move lim left g n
    unfolding goal_move
    short_value id e h = rw (e, ← f, h)

    module _ (h : x ≡ S.Over) where
      pub flag_far : g ≡ O.Flag → M.Refused RANGE ≡ goal_move lim left g n
      unfolding goal_move
      flag_far e = rw (e, ← f, h)

      pub id_far : (t : TType) → g ≡ O.Id t → M.Refused RANGE ≡ goal_move lim left g n
      unfolding goal_move
      id_far t e = rw (e, ← f, h)

      pub short_far : g ≡ O.Short → M.Refused RANGE ≡ goal_move lim left g n
      unfolding goal_move
      short_far e = rw (e, ← f, h)

  pub goal_count : (t : TType) (m : Moved) → g ≡ O.Count t → m ≡ open_move lim left t n → m ≡ goal_move lim left g n
  unfolding goal_move
  goal_count t m e k = rw e k

  pub goal_pairs : (m : Moved) → g ≡ O.Pairs → m ≡ pairs_move n → m ≡ goal_move lim left g n
  unfolding goal_move
  goal_pairs m e k = rw e k

  pub goal_length : (m : Moved) → g ≡ O.Length → m ≡ length_move lim n → m ≡ goal_move lim left g n
  unfolding goal_move
  goal_length m e k = rw e k

pub ruleset goal_cases = (flag_got, flag_far, id_got, id_far, short_value, short_far, goal_count, goal_pairs, goal_length)

-- step
module _ (lim : TConfiguration) (left : ℕ) (top : Nest) (w : Wait) (b : ℕ) where
  module _ (e : w ≡ W.Head) where
    pub step_fields : (id : FieldId) (q : Moved) → top ≡ Fields id → q ≡ head_move id.0 b → q ≡ moved lim left top w b
    unfolding moved
    step_fields id q g h = rw (e, g) h

    pub step_items : (t : TType) (n : ℕ) → top ≡ Items t n → M.Refused END ≡ moved lim left top w b
    unfolding moved
    step_items t n g = rw (e, g)

    pub step_keys : (k v : TType) (n : ℕ) → top ≡ Keys k v n → M.Refused END ≡ moved lim left top w b
    unfolding moved
    step_keys k v n g = rw (e, g)

    pub step_values : (k v : TType) (n : ℕ) → top ≡ Values k v n → M.Refused END ≡ moved lim left top w b
    unfolding moved
    step_values k v n g = rw (e, g)

  module _ (e : w ≡ W.Truth) where
    pub step_truth : b < 3 → M.Passed 0 ≡ moved lim left top w b
    unfolding moved
    step_truth h = rw (e, lt-ltb b 3 h)

    pub step_untrue : 3 ≤ b → M.Refused BAD_BOOL ≡ moved lim left top w b
    unfolding moved
    step_untrue h = rw (e, le-ltb b 3 h)

  pub step_list_lem : (q : Moved) → w ≡ W.List → q ≡ list_move lim left b → q ≡ moved lim left top w b
  unfolding moved
  step_list_lem q e h = rw e h

  pub step_types_lem : (n : ℕ) (q : Moved) → w ≡ W.Types n → q ≡ types_move lim left n b → q ≡ moved lim left top w b
  unfolding moved
  step_types_lem n q e h = rw e h

  pub step_number : (k : ℕ) (q : Moved) → w ≡ W.Number k → q ≡ number_move k b → q ≡ moved lim left top w b
  unfolding moved
  step_number k q e h = rw e h

  module _ (g : Goal) (p : Part) (e : w ≡ W.Varint g p) (x : Grown) (f : x ≡ grown p b) where
    pub part_whole : (n : ℕ) (m : Moved) → x ≡ G.Whole n → m ≡ goal_move lim left g n → m ≡ moved lim left top w b
    unfolding moved
    part_whole n m h k = rw (e, ← f, h) k

    pub part_more : (q : Part) → x ≡ G.More q → M.Waits (W.Varint g q) ≡ moved lim left top w b
    unfolding moved
    part_more q h = rw (e, ← f, h)

    pub part_long : x ≡ G.Long → M.Refused LONG_VARINT ≡ moved lim left top w b
    unfolding moved
    part_long h = rw (e, ← f, h)

-- a part that may grow
pub ready_part : (w : Wait) (g : Goal) (p : Part) → Ready w → w ≡ W.Varint g p → p.groups ≤ 4
unfolding Ready
ready_part w g p r e = rw e at r

pub ready_number : (w : Wait) (k : ℕ) → Ready w → w ≡ W.Number k → 1 ≤ k
unfolding Ready
ready_number w k r e = rw e at r

pub ruleset step_cases = (step_fields, step_items, step_keys, step_values, step_truth, step_untrue, step_list_lem, step_types_lem, step_number, part_whole, part_more, part_long, ready_part, ready_number)
