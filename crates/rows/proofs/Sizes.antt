-- What stops a writer's call behind the row's test, at each of the returns. Assumes nothing.
use mathlib.Core.Path.{◌≡◌, sym, ap, ◌∙◌}
use mathlib.Core.Bool.{Bool, true, false, cond}
use mathlib.Core.List.{List, [], ◌∷◌, ◌++◌}
use Prim.Native.Nat.{ℕ, ◌+◌, ◌-◌, ◌*◌, ◌≤◌, ◌<◌}
use native.Mathlib.Nat.{add-zero}
use native.Mathlib.Omega.{arith}
use borrow.Author.Rules.{sfits_of}
use borrow.Author.Tests.{eq-eqb, ne_eqb, le-leb, lt-leb}
use lib.Dec.{eqb, ltb}
use lib.IntN.{ℤ}
use lib.ListN.{length, length-append}
use mir.Syntax.{w32}
use mir.Val.{of_z}
use mir.Facts.{to_z-of_z}
use Rattle.types.specs.Codes.{type_code}
use Rattle.types.specs.Refusals.{MESSAGE_SIZE}
use Rattle.types.specs.declared.TConfiguration.{TConfiguration}
use Rattle.types.specs.declared.TType.{TType}
use Rattle.zigzag.specs.Zigzag.{zigzag}
use Rattle.numbers.specs.Varint.{fewest}
use Rattle.numbers.proofs.Fewest.{fewest_len}
use Rattle.puts.specs.Bytes.{above, short_delta, field_bytes, items_bytes, pairs_bytes, string_bytes}
use Rattle.puts.specs.Wrong.{or_else, length_wrong, text_wrong, count_wrong}
use Rattle.output.specs.State as O
use Rattle.output.specs.Calls.{size_wrong}
use Rattle.rows.specs.Row.{limits_of, writer_in}

-- over, from what is left
module _ (st : O.State) (l : ℕ) (e : l ≡ O.left_of st) where
  within : (n : ℕ) → n ≤ l → 0 ≡ size_wrong st n
  unfolding size_wrong
  within n h = rw (le-leb n (O.left_of st) (omega (arith, e)))

  beyond : (n : ℕ) → l < n → MESSAGE_SIZE ≡ size_wrong st n
  unfolding size_wrong
  beyond n h = rw (lt-leb n (O.left_of st) (omega (arith, e)))

  module _ (head body : ℕ) where
    pub over_head : l < head → MESSAGE_SIZE ≡ size_wrong st (head + body)
    over_head k = beyond (head + body) (omega arith)

    pub over_body : head ≤ l → l - head < body → MESSAGE_SIZE ≡ size_wrong st (head + body)
    over_body i k = beyond (head + body) (omega arith)

    pub over_none : head ≤ l → body ≤ l - head → 0 ≡ size_wrong st (head + body)
    over_none i k = within (head + body) (omega arith)

pub ruleset overs = (over_head, over_body, over_none)

-- a message's own: the whole ceiling is left at its first byte
module _ (row : List ℕ) (m : ℕ) (e : m ≡ (limits_of row).message) (head body : ℕ) where
  all_left : m ≡ O.left_of (O.begun_here (writer_in row))
  all_left = omega (arith, e)

  pub anew_head : m < head → MESSAGE_SIZE ≡ size_wrong (O.begun_here (writer_in row)) (head + body)
  anew_head k = over_head (O.begun_here (writer_in row)) m all_left head body k

  pub anew_body : head ≤ m → m - head < body → MESSAGE_SIZE ≡ size_wrong (O.begun_here (writer_in row)) (head + body)
  anew_body i k = over_body (O.begun_here (writer_in row)) m all_left head body i k

  pub anew_none : head ≤ m → body ≤ m - head → 0 ≡ size_wrong (O.begun_here (writer_in row)) (head + body)
  anew_none i k = over_none (O.begun_here (writer_in row)) m all_left head body i k

pub ruleset anews = (anew_head, anew_body, anew_none)

-- a number or a header takes at most 11 bytes
field_most : (last id : ℤ) (c : ℕ) → length (field_bytes last id c) ≤ 11
unfolding field_bytes
field_most last id c = go (eqb (short_delta last id) 0)
  where
    go : (b : Bool) → length (cond b (c ∷ fewest (zigzag id)) ((short_delta last id * 16 + c) ∷ [])) ≤ 11
    go true = omega (arith, fewest_len (zigzag id))
    go false = omega arith

items_most : (t : TType) (n : ℕ) → length (items_bytes t n) ≤ 11
unfolding items_bytes
items_most t n = go (ltb n 15)
  where
    go : (b : Bool) → length (cond b ((n * 16 + type_code t) ∷ []) ((0xF0 + type_code t) ∷ fewest n)) ≤ 11
    go true = omega arith
    go false = omega (arith, fewest_len n)

pairs_most : (k v : TType) (n : ℕ) → length (pairs_bytes k v n) ≤ 11
unfolding pairs_bytes
pairs_most k v n = go (eqb n 0)
  where
    go : (b : Bool) → length (cond b (0 ∷ []) (fewest n ++ ((type_code k * 16 + type_code v) ∷ []))) ≤ 11
    go true = omega arith
    go false = omega (arith, fewest_len n, length-append (fewest n) ((type_code k * 16 + type_code v) ∷ []))

-- so that with 16 left it need not be measured
module _ (st : O.State) (l : ℕ) (e : l ≡ O.left_of st) (h : 16 ≤ l) where
  pub number_ample : (n : ℕ) → 0 ≡ size_wrong st (length (fewest n))
  number_ample n = within st l e (length (fewest n)) (omega (arith, fewest_len n))

  pub field_ample : (last id : ℤ) (c : ℕ) → 0 ≡ size_wrong st (length (field_bytes last id c))
  field_ample last id c = within st l e (length (field_bytes last id c)) (omega (arith, field_most last id c))

  pub items_ample : (t : TType) (n : ℕ) → 0 ≡ size_wrong st (length (items_bytes t n))
  items_ample t n = within st l e (length (items_bytes t n)) (omega (arith, items_most t n))

  pub pairs_ample : (k v : TType) (n : ℕ) → 0 ≡ size_wrong st (length (pairs_bytes k v n))
  pairs_ample k v n = within st l e (length (pairs_bytes k v n)) (omega (arith, pairs_most k v n))

-- and else it is; a field's ids may reach it through their bits, as l and i
module _ (st : O.State) (m k : ℕ) (d : m ≡ size_wrong st (k + 0)) where
  pub measured : (bs : List ℕ) → k ≡ length bs → m ≡ size_wrong st (length bs)
  measured bs e = d ∙ ap (size_wrong st) (add-zero k ∙ e)

  pub field_measured : (l i last id : ℤ) (c : ℕ) → k ≡ length (field_bytes l i c) → l ≡ last → i ≡ id → m ≡ size_wrong st (length (field_bytes last id c))
  field_measured l i last id c e x y = measured (field_bytes last id c) (rw (x, y) at e)

pub unheaded : (st : O.State) (m n : ℕ) → m ≡ size_wrong st (0 + n) → m ≡ size_wrong st n
unheaded st m n d = d ∙ ap (size_wrong st) (let z : 0 + n ≡ n = omega arith in z)

pub ruleset sizes = (unheaded, number_ample, field_ample, items_ample, pairs_ample, measured, field_measured, to_z-of_z, sfits_of)

-- the arguments first, then the size
module _ (w wrong : ℕ) (e : w ≡ wrong) (size : ℕ) where
  pub wrong_first : (w ≡ 0 → ⊥) → w ≡ or_else wrong size
  unfolding or_else
  wrong_first h = rw (← e, ne_eqb w 0 h)

  pub then_size : (m : ℕ) → w ≡ 0 → m ≡ size → m ≡ or_else wrong size
  unfolding or_else
  then_size m h f = rw (← e, eq-eqb w 0 h) f

-- against the row's limits; a count may reach the call through its bits, as y
module _ (row : List ℕ) (lim : TConfiguration) (q : lim ≡ limits_of row) (w : ℕ) where
  pub length_by : (bs : List ℕ) → w ≡ length_wrong lim bs → w ≡ length_wrong (limits_of row) bs
  length_by bs e = rw (← q) e

  pub text_by : (bs : List ℕ) → w ≡ text_wrong lim bs → w ≡ text_wrong (limits_of row) bs
  text_by bs e = rw (← q) e

  pub count_by : (t u : TType) (y z : ℤ) → w ≡ count_wrong lim t u y → y ≡ z → w ≡ count_wrong (limits_of row) t u z
  count_by t u y z e f = rw (← q, ← f) e

module _ (st : O.State) (m : ℕ) where
  pub items_sized : (t : TType) (n : ℕ) (y z : ℤ) → m ≡ size_wrong st (length (items_bytes t n)) → n ≡ above y → y ≡ z → m ≡ size_wrong st (length (items_bytes t (above z)))
  items_sized t n y z d e f = rw (← f, ← e) d

  pub pairs_sized : (t u : TType) (n : ℕ) (y z : ℤ) → m ≡ size_wrong st (length (pairs_bytes t u n)) → n ≡ above y → y ≡ z → m ≡ size_wrong st (length (pairs_bytes t u (above z)))
  pairs_sized t u n y z d e f = rw (← f, ← e) d

  pub string_sized : (head : ℕ) (bs : List ℕ) → m ≡ size_wrong st (head + length bs) → head ≡ length (fewest (length bs)) → m ≡ size_wrong st (length (string_bytes bs))
  unfolding string_bytes
  string_sized head bs d e = d ∙ ap (size_wrong st) (ap (λ (n : ℕ). n + length bs) e ∙ sym (length-append (fewest (length bs)) bs))

  pub message_sized : (head : ℕ) (y z : ℤ) (name : List ℕ) → m ≡ size_wrong st (head + length name) → head ≡ 2 + length (fewest (of_z w32 y)) + length (fewest (length name)) → y ≡ z → m ≡ size_wrong st (2 + length (fewest (of_z w32 z)) + length (fewest (length name)) + length name)
  message_sized head y z name d e f = d ∙ ap (λ (n : ℕ). size_wrong st (n + length name)) (rw f at e)

pub ruleset counts = (wrong_first, then_size, count_by, items_sized, pairs_sized, to_z-of_z, sfits_of)

pub ruleset strings = (wrong_first, then_size, length_by, text_by, string_sized)

pub ruleset messages = (wrong_first, then_size, text_by, message_sized, to_z-of_z, sfits_of)
