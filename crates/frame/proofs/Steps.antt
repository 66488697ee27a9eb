-- Each step of the machine leaves asked what was asked. Assumes nothing.
use mathlib.Core.Path.{◌≡◌, refl, sym, ap, ap₂, fun_ext, ◌∙◌}
use mathlib.Core.Bool.{Bool, true, false, cond}
use mathlib.Core.List.{List, [], ◌∷◌}
use Prim.Native.Nat.{ℕ, zero, suc, ◌+◌, ◌-◌, ◌*◌, ◌/◌, ◌%◌, ◌^◌, ◌≤◌, ◌<◌}
use native.Mathlib.Nat.{suc-mul, mul-add, mul_assoc, pow-suc, mod-add-mod}
use native.Mathlib.Omega.{arith}
use native.Mathlib.Decide.{dec_le, dec_lt}
use borrow.Author.Tests.{le-leb, lt-leb, lt-ltb, le-ltb}
use lib.Dec.{leb, ltb, eqb}
use lib.IntN.{ℤ, pos, ◌+ℤ◌}
use lib.Signed.{lt_z}
use lib.ListN.{length}
use Rattle.types.specs.Refusals.{END, BAD_TYPE, BAD_BOOL, FIELD_ID, LONG_VARINT, SIZE_LIMIT, NEGATIVE_SIZE, DEPTH, RANGE}
use Rattle.types.specs.Codes.{element_type, field_type}
use Rattle.types.specs.declared.TType.{TType}
use Rattle.types.specs.declared.TType.TheVariants as T
use Rattle.types.specs.declared.TypeRead.{TypeRead}
use Rattle.types.specs.declared.TypeRead.TheVariants as R
use Rattle.types.specs.declared.FieldType.{FieldType}
use Rattle.types.specs.declared.FieldType.TheVariants as F
use Rattle.types.specs.declared.TConfiguration.{TConfiguration}
use Rattle.zigzag.specs.Zigzag.{unzigzag, in_range16}
use Rattle.heads.specs.Heads.{stop, bool, value, least_size}
use Rattle.heads.specs.Answers.{id_of}
use Rattle.skip.specs.Value.{startable}
use Rattle.frame.specs.declared.Nest.{Nest}
use Rattle.frame.specs.declared.Nest.TheVariants.{Fields, Items, Keys, Values}
use Rattle.frame.specs.declared.Part.{Part}
use Rattle.frame.specs.declared.Goal.{Goal}
use Rattle.frame.specs.declared.Goal.TheVariants as O
use Rattle.frame.specs.declared.Wait.{Wait}
use Rattle.frame.specs.declared.Wait.TheVariants as W
use Rattle.frame.specs.Ask.{Ask, refused, look, passing, Plan, done, refuse, and_then, provided, byte, some, ahead, told}
use Rattle.frame.specs.Plans.{groups, number32, int32, int16, typed, counted, listed, items, mapped, pairs, items_head, pairs_head, field_id, of_type, field, Passed, number, short, truth, binary, many, many_pairs, after, walk, fields, sequence, mapping, Boxes, shut, roomy, shaped, skip_plan}
use Rattle.frame.specs.Machine.{within, back, valued, partly, fresh, renamed, id_from, ranged, opened, opened_map, reached, waiting, Rest, stopped, meaning, ask, fits, room_for, begin, width, next_pair, next_value, next_item, next, settled, entered, headed, step_head, checked, opening, step_list, step_types, step_part, enough, inside, on_whole, stepped, Fit}
use Rattle.frame.proofs.Asks.{told_done}
use Rattle.frame.proofs.Forms.{passing_passing, passing_refused, assoc, done_then, refuse_then, cond_then, provided_then, then_byte, then_some, then_ahead, then_backed, fields_step, some_zero, some_some}

-- a number's next byte
weight : (g x v : ℕ) → 128 ^ g * (x + 128 * v) ≡ 128 ^ g * x + 128 ^ (g + 1) * v
weight g x v =
    let e : suc g ≡ g + 1 = omega arith in
    mul-add (128 ^ g) x (128 * v)
    ∙ ap (λ (y : ℕ). 128 ^ g * x + y) (sym (mul_assoc (128 ^ g) 128 v) ∙ ap (λ (y : ℕ). y * v) (sym (pow-suc 128 g)) ∙ ap (λ (i : ℕ). 128 ^ i * v) e)

too_long : {A : Type 0} (p : Part) (k : ℕ → Plan A) (left : ℕ) → 5 ≤ p.groups → and_then (partly p) k left ≡ refused LONG_VARINT
unfolding partly and_then refuse
too_long p k left h =
    let e : 5 - p.groups ≡ 0 = omega arith in
    ap (λ (i : ℕ). and_then (and_then (groups i) (λ v. done ((p.low + 128 ^ p.groups * v) % 2 ^ 32))) k left) e

pub partly_step : (p : Part) (h : p.groups ≤ 4) → partly p ≡ and_then byte (λ b. cond (ltb b 128) (done ((p.low + 128 ^ p.groups * b) % 2 ^ 32)) (and_then (groups (4 - p.groups)) (λ v. done ((p.low + 128 ^ p.groups * (b % 128 + 128 * v)) % 2 ^ 32))))
unfolding partly
partly_step p h =
    let e : 5 - p.groups ≡ suc (4 - p.groups) = omega arith in
    ap (λ (k : ℕ). and_then (groups k) (λ v. done ((p.low + 128 ^ p.groups * v) % 2 ^ 32))) e
    ∙ assoc byte _ _
    ∙ ap (and_then byte) (fun_ext (λ b. cond_then (ltb b 128) _ _ _ ∙ ap₂ (cond (ltb b 128)) (done_then b _) (assoc _ _ _ ∙ ap (and_then (groups (4 - p.groups))) (fun_ext (λ v. done_then _ _)))))

pub number_step : (k : ℕ) → number (suc k) ≡ and_then byte (λ b. cond (ltb b 128) (done tt) (number k))
unfolding number
number_step k =
    assoc byte _ _
    ∙ ap (and_then byte) (fun_ext (λ b. cond_then (ltb b 128) _ _ _ ∙ ap₂ (cond (ltb b 128)) (done_then b _) (assoc _ _ _ ∙ ap (and_then (groups k)) (fun_ext (λ v. done_then _ _)))))

-- no byte left to look at
none_of_lem : {A B : Type 0} (k : ℕ → Plan A) (k' : A → Plan B) → and_then (and_then byte k) k' 0 ≡ refused END
unfolding and_then byte
none_of_lem k k' = refl

module _ (lim : TConfiguration) where
  looks_none : (ls : List Nest) (w : Wait) → Fit ls w → waiting lim ls w 0 ≡ refused END
  unfolding back and_then fields walk refuse truth items mapped byte
  looks_none [] W.Head f = absurd f
  looks_none (Fields id ∷ ls) W.Head f = refl
  looks_none (Items t n ∷ ls) W.Head f = absurd f
  looks_none (Keys k v n ∷ ls) W.Head f = absurd f
  looks_none (Values k v n ∷ ls) W.Head f = absurd f
  looks_none ls W.Truth f = refl
  looks_none ls W.List f = refl
  looks_none ls (W.Types n) f = refl
  looks_none ls (W.Varint g p) f = ap (λ (q : Plan ℕ). and_then q (reached lim ls g) 0) (partly_step p f)
  looks_none ls (W.Number zero) f = absurd (omega arith)
  looks_none ls (W.Number (suc k)) f = ap (λ (q : Plan Passed). and_then q (λ u. back lim ls) 0) (number_step k)

  -- how the three that hold others are passed over, with so much room
  boxes : ℕ → Boxes
  boxes zero = shut
  boxes (suc room) = roomy lim (skip_plan lim room)

  shape : (room : ℕ) (t : TType) → skip_plan lim room t ≡ shaped lim (boxes room) t
  unfolding skip_plan boxes
  shape zero t = refl
  shape (suc room) t = refl

  valued_is : (ls : List Nest) (t : TType) → valued lim ls t ≡ and_then (shaped lim (boxes (lim.depth - length ls)) t) (λ u. back lim ls)
  unfolding valued
  valued_is ls t = ap (λ (q : Plan Passed). and_then q (λ u. back lim ls)) (shape (lim.depth - length ls) t)

  roomy_boxes : (ls : List Nest) → length ls < lim.depth → boxes (lim.depth - length ls) ≡ roomy lim (skip_plan lim (lim.depth - suc (length ls)))
  unfolding boxes
  roomy_boxes ls h = let e : lim.depth - length ls ≡ suc (lim.depth - suc (length ls)) = omega arith in ap boxes e

  shut_boxes : (ls : List Nest) → lim.depth ≤ length ls → boxes (lim.depth - length ls) ≡ shut
  unfolding boxes
  shut_boxes ls h = let e : lim.depth - length ls ≡ 0 = omega arith in ap boxes e

  sequence_is : (ls : List Nest) → and_then (sequence lim (skip_plan lim (lim.depth - suc (length ls)))) (λ u. back lim ls) ≡ and_then (items lim) (opened lim ls)
  unfolding opened back items_head
  sequence_is ls = assoc (items_head lim) _ _ ∙ ap (and_then (items_head lim)) (fun_ext (λ h. provided_then _ _ _ _)) ∙ then_backed _ (items lim) _

  mapping_is : (ls : List Nest) → and_then (mapping lim (skip_plan lim (lim.depth - suc (length ls)))) (λ u. back lim ls) ≡ and_then (pairs lim) (opened_map lim ls)
  unfolding opened_map back pairs_head
  mapping_is ls =
      assoc (pairs_head lim) _ _
      ∙ ap (and_then (pairs_head lim)) (fun_ext (λ h. provided_then _ _ _ _ ∙ ap (provided _ _) (provided_then _ _ _ _)))
      ∙ then_backed _ (pairs lim) _

  fresh_is : partly fresh ≡ number32
  unfolding partly number32
  fresh_is = ap (and_then (groups 5)) (fun_ext (λ v. ap (λ (n : ℕ). done (n % 2 ^ 32)) (omega arith)))

  pairs_is : (ls : List Nest) → and_then (pairs lim) (opened_map lim ls) ≡ waiting lim ls (W.Varint O.Pairs fresh)
  unfolding pairs
  pairs_is ls =
      assoc number32 _ _
      ∙ ap (and_then number32) (fun_ext (λ n. cond_then (eqb n 0) _ _ _ ∙ ap (λ (q : Plan Passed). cond (eqb n 0) q (and_then (mapped lim n) (opened_map lim ls))) (done_then _ _)))
      ∙ ap (λ (q : Plan ℕ). and_then q (λ n. cond (eqb n 0) (opened_map lim ls (T.Stop, T.Stop, 0)) (and_then (mapped lim n) (opened_map lim ls)))) (sym fresh_is)

  binary_is : (ls : List Nest) → and_then (binary lim) (λ u. back lim ls) ≡ waiting lim ls (W.Varint O.Length fresh)
  unfolding binary
  binary_is ls =
      assoc number32 _ _
      ∙ ap (and_then number32) (fun_ext (λ n. provided_then (leb n lim.string) SIZE_LIMIT (some n) _))
      ∙ ap (λ (q : Plan ℕ). and_then q (λ n. provided (leb n lim.string) SIZE_LIMIT (and_then (some n) (λ u. back lim ls)))) (sym fresh_is)

  -- an i16, by the number that says it
  far_is : (k : ℤ → Plan Passed) → and_then int16 k ≡ and_then number32 (ranged k)
  unfolding int16 int32
  far_is k =
      assoc (and_then number32 (λ n. done (unzigzag n))) _ k
      ∙ assoc number32 _ _
      ∙ ap (and_then number32) (fun_ext (λ n. done_then (unzigzag n) _ ∙ provided_then (in_range16 (unzigzag n)) RANGE _ k ∙ ap (provided (in_range16 (unzigzag n)) RANGE) (done_then (unzigzag n) k)))

  short_is : (ls : List Nest) → and_then short (λ u. back lim ls) ≡ waiting lim ls (W.Varint O.Short fresh)
  unfolding short
  short_is ls =
      assoc int16 _ _
      ∙ ap (and_then int16) (fun_ext (λ z. done_then tt _))
      ∙ far_is (λ z. back lim ls)
      ∙ ap (λ (q : Plan ℕ). and_then q (ranged (λ z. back lim ls))) (sym fresh_is)

  struct_is : (ls : List Nest) → and_then (fields (skip_plan lim (lim.depth - suc (length ls))) (pos 0)) (λ u. back lim ls) ≡ back lim (Fields (id_of (pos 0)) ∷ ls)
  unfolding back
  struct_is ls = refl

  module _ (left : ℕ) where
    ask_means : (ls : List Nest) (body : ℕ) (w : Wait) → Fit ls w → body ≤ left → passing body (waiting lim ls w (left - body)) ≡ meaning lim left (ask left ls body w)
    ask_means ls body w f h = go (dec_lt body left)
      where
        go : Dec (body < left) → passing body (waiting lim ls w (left - body)) ≡ meaning lim left (ask left ls body w)
        go (yes g) = rw (lt-ltb body left g)
        go (no g) =
            let e : left - body ≡ 0 = omega arith in
            rw (le-ltb body left (omega arith)) (ap (λ (l : ℕ). passing body (waiting lim ls w l)) e ∙ ap (passing body) (looks_none ls w f) ∙ passing_refused body END)

    -- what is gone on with means what is open
    unfoldable pub Means : Plan Passed → (ℕ → Rest) → Type 0
    Means p on = (m : ℕ) → m ≤ left → passing m (p (left - m)) ≡ meaning lim left (on m)

    fits_means : (body n : ℕ) (p : Plan Passed) (on : ℕ → Rest) → body ≤ left → Means p on → passing body (and_then (some n) (λ u. p) (left - body)) ≡ meaning lim left (fits left body n on)
    unfolding Means
    fits_means body n p on h e = ap (passing body) (then_some n (λ u. p) (left - body)) ∙ go (dec_le n (left - body))
      where
        go : Dec (n ≤ left - body) → passing body (cond (leb n (left - body)) (passing n (p (left - body - n))) (refused END)) ≡ meaning lim left (fits left body n on)
        go (yes g) =
            let same : left - body - n ≡ left - (body + n) = omega arith in
            rw (le-leb n (left - body) g) (passing_passing body n (p (left - body - n)) ∙ ap (λ (l : ℕ). passing (body + n) (p l)) same ∙ e (body + n) (omega arith))
        go (no g) = rw (lt-leb n (left - body) (omega arith)) (passing_refused body END)

    -- a plan with another's asks
    by_plan : (body : ℕ) (p q : Plan Passed) (x : Ask Passed) → p ≡ q → passing body (q (left - body)) ≡ x → passing body (p (left - body)) ≡ x
    by_plan body p q x e f = ap (λ (k : Plan Passed). passing body (k (left - body))) e ∙ f

    -- no room, or room for one more
    box_means : (ls : List Nest) (body : ℕ) (of : Boxes → Plan Passed) (r : Rest)
        → of shut ≡ refuse DEPTH
        → passing body (and_then (of (roomy lim (skip_plan lim (lim.depth - suc (length ls))))) (λ u. back lim ls) (left - body)) ≡ meaning lim left r
        → passing body (and_then (of (boxes (lim.depth - length ls))) (λ u. back lim ls) (left - body)) ≡ meaning lim left (room_for lim ls r)
    unfolding and_then refuse
    box_means ls body of r d e = go (dec_lt (length ls) lim.depth)
      where
        go : Dec (length ls < lim.depth) → passing body (and_then (of (boxes (lim.depth - length ls))) (λ u. back lim ls) (left - body)) ≡ meaning lim left (room_for lim ls r)
        go (yes h) = rw (lt-ltb (length ls) lim.depth h, roomy_boxes ls h) e
        go (no h) =
            rw (le-ltb (length ls) lim.depth (omega arith), shut_boxes ls (omega arith), d)
            (passing_refused body DEPTH)

    refusing_means : (body l why : ℕ) (k : Passed → Plan Passed) → passing body (and_then (refuse why) k l) ≡ refused why
    unfolding and_then refuse
    refusing_means body l why k = passing_refused body why

    begin_means : (ls : List Nest) (body : ℕ) (t : TType) (on : ℕ → Rest) → body ≤ left → (0 < width t → Means (back lim ls) on) → passing body (valued lim ls t (left - body)) ≡ meaning lim left (begin lim left ls body t on)
    begin_means ls body t on h e = by_plan body _ _ _ (valued_is ls t) (shaped_means t e)
      where
        shaped_means : (t : TType) → (0 < width t → Means (back lim ls) on) → passing body (and_then (shaped lim (boxes (lim.depth - length ls)) t) (λ u. back lim ls) (left - body)) ≡ meaning lim left (begin lim left ls body t on)
        shaped_means T.Stop e = refusing_means body (left - body) BAD_TYPE (λ u. back lim ls)
        shaped_means T.Bool e = ask_means ls body W.Truth tt h
        shaped_means T.I08 e = fits_means body 1 (back lim ls) on h (e (omega arith))
        shaped_means T.I16 e = by_plan body _ _ _ (short_is ls) (ask_means ls body (W.Varint O.Short fresh) (omega arith) h)
        shaped_means T.I32 e = ask_means ls body (W.Number 5) (omega arith) h
        shaped_means T.I64 e = ask_means ls body (W.Number 10) (omega arith) h
        shaped_means T.Double e = fits_means body 8 (back lim ls) on h (e (omega arith))
        shaped_means T.String e = by_plan body _ _ _ (binary_is ls) (ask_means ls body (W.Varint O.Length fresh) (omega arith) h)
        shaped_means T.List e = box_means ls body (λ b. b.sequence) _ refl (by_plan body _ _ _ (sequence_is ls) (ask_means ls body W.List tt h))
        shaped_means T.Set e = box_means ls body (λ b. b.sequence) _ refl (by_plan body _ _ _ (sequence_is ls) (ask_means ls body W.List tt h))
        shaped_means T.Map e = box_means ls body (λ b. b.map) _ refl (by_plan body _ _ _ (mapping_is ls ∙ pairs_is ls) (ask_means ls body (W.Varint O.Pairs fresh) (omega arith) h))
        shaped_means T.Struct e = box_means ls body (λ b. b.struct) _ refl (by_plan body _ _ _ (struct_is ls) (ask_means (Fields (id_of (pos 0)) ∷ ls) body W.Head tt h))
        shaped_means T.Uuid e = fits_means body 16 (back lim ls) on h (e (omega arith))

    -- so many that nobody looks at, all at once
    wide : (ls : List Nest) (t : TType) → 0 < width t → within lim ls t ≡ some (width t)
    wide ls t h = shape (lim.depth - length ls) t ∙ of t h
      where
        of : (t : TType) → 0 < width t → shaped lim (boxes (lim.depth - length ls)) t ≡ some (width t)
        of T.Stop h = absurd (omega arith)
        of T.Bool h = absurd (omega arith)
        of T.I08 h = refl
        of T.I16 h = absurd (omega arith)
        of T.I32 h = absurd (omega arith)
        of T.I64 h = absurd (omega arith)
        of T.Double h = refl
        of T.String h = absurd (omega arith)
        of T.List h = absurd (omega arith)
        of T.Set h = absurd (omega arith)
        of T.Map h = absurd (omega arith)
        of T.Struct h = absurd (omega arith)
        of T.Uuid h = refl

    many_some : (w n : ℕ) (k : Passed → Plan Passed) → and_then (many (some w) n) k ≡ and_then (some (n * w)) k
    unfolding many
    many_some w zero k = done_then tt k ∙ sym (fun_ext (λ l. ap (λ (i : ℕ). and_then (some i) k l) (omega arith) ∙ some_zero k l))
    many_some w (suc n) k =
        assoc (some w) _ _
        ∙ ap (and_then (some w)) (fun_ext (λ u. many_some w n k))
        ∙ fun_ext (λ l. some_some w (n * w) k l ∙ ap (λ (i : ℕ). and_then (some i) k l) (sum w n))
      where
        sum : (w n : ℕ) → w + n * w ≡ suc n * w
        sum w n = omega (arith, suc-mul n w)

    many_pairs_some : (w x n : ℕ) (k : Passed → Plan Passed) → and_then (many_pairs (some w) (some x) n) k ≡ and_then (some (n * (w + x))) k
    unfolding many_pairs
    many_pairs_some w x zero k = done_then tt k ∙ sym (fun_ext (λ l. ap (λ (i : ℕ). and_then (some i) k l) (omega arith) ∙ some_zero k l))
    many_pairs_some w x (suc n) k =
        assoc (some w) _ _
        ∙ ap (and_then (some w)) (fun_ext (λ u. assoc (some x) _ _ ∙ ap (and_then (some x)) (fun_ext (λ u. many_pairs_some w x n k)) ∙ fun_ext (λ l. some_some x (n * (w + x)) k l)))
        ∙ fun_ext (λ l. some_some w (x + n * (w + x)) k l ∙ ap (λ (i : ℕ). and_then (some i) k l) (sum w x n))
      where
        sum : (w x n : ℕ) → w + (x + n * (w + x)) ≡ suc n * (w + x)
        sum w x n = omega (arith, suc-mul n (w + x))

    -- what is open, one step on
    items_are : (ls : List Nest) (t : TType) (n : ℕ) → back lim (Items t (suc n) ∷ ls) ≡ valued lim (Items t n ∷ ls) t
    unfolding back valued many
    items_are ls t n = assoc (within lim (Items t n ∷ ls) t) _ _

    no_items : (ls : List Nest) (t : TType) → back lim (Items t 0 ∷ ls) ≡ back lim ls
    unfolding back many
    no_items ls t = done_then tt _

    wide_items : (ls : List Nest) (t : TType) (n : ℕ) → 0 < width t → back lim (Items t n ∷ ls) ≡ and_then (some (n * width t)) (λ u. back lim ls)
    unfolding back
    wide_items ls t n h = ap (λ (p : Plan Passed). and_then (many p n) (λ u. back lim ls)) (wide (Items t n ∷ ls) t h) ∙ many_some (width t) n _

    pairs_are : (ls : List Nest) (k v : TType) (n : ℕ) → back lim (Keys k v (suc n) ∷ ls) ≡ valued lim (Values k v n ∷ ls) k
    unfolding back valued many_pairs
    pairs_are ls k v n = assoc (within lim (Values k v n ∷ ls) k) _ _

    no_pairs : (ls : List Nest) (k v : TType) → back lim (Keys k v 0 ∷ ls) ≡ back lim ls
    unfolding back many_pairs
    no_pairs ls k v = done_then tt _

    value_is : (ls : List Nest) (k v : TType) (n : ℕ) → back lim (Values k v n ∷ ls) ≡ valued lim (Keys k v n ∷ ls) v
    unfolding back valued
    value_is ls k v n = assoc (within lim (Keys k v n ∷ ls) v) _ _

    wide_pairs : (ls : List Nest) (k v : TType) (n : ℕ) → 0 < width k → 0 < width v → back lim (Keys k v n ∷ ls) ≡ and_then (some (n * (width k + width v))) (λ u. back lim ls)
    unfolding back
    wide_pairs ls k v n h g =
        ap₂ (λ (p q : Plan Passed). and_then (many_pairs p q n) (λ u. back lim ls)) (wide (Keys k v n ∷ ls) k h) (wide (Keys k v n ∷ ls) v g) ∙ many_pairs_some (width k) (width v) n _

    valued_wide : (ls : List Nest) (t : TType) → 0 < width t → valued lim ls t ≡ and_then (some (width t)) (λ u. back lim ls)
    unfolding valued
    valued_wide ls t h = ap (λ (p : Plan Passed). and_then p (λ u. back lim ls)) (wide ls t h)

    wide_key : (ls : List Nest) (k v : TType) (n : ℕ) → 0 < width k → back lim (Keys k v (suc n) ∷ ls) ≡ and_then (some (width k)) (λ u. valued lim (Keys k v n ∷ ls) v)
    wide_key ls k v n h = pairs_are ls k v n ∙ keyed ∙ ap (λ (q : Plan Passed). and_then (some (width k)) (λ u. q)) (value_is ls k v n)
      where
        keyed : valued lim (Values k v n ∷ ls) k ≡ and_then (some (width k)) (λ u. back lim (Values k v n ∷ ls))
        keyed = valued_wide (Values k v n ∷ ls) k h

    -- the steps from one thing asked to the next
    item_means : (ls : List Nest) (t : TType) (n : ℕ) (on : ℕ → Rest) → Means (back lim ls) on → Means (back lim (Items t n ∷ ls)) (next_item lim left ls t n on)
    unfolding Means
    item_means ls t zero on e body h = by_plan body _ _ _ (no_items ls t) (e body h)
    item_means ls t (suc n) on e body h = go (dec_lt 0 (width t))
      where
        go : Dec (0 < width t) → passing body (back lim (Items t (suc n) ∷ ls) (left - body)) ≡ meaning lim left (next_item lim left ls t (suc n) on body)
        go (yes g) = rw (lt-ltb 0 (width t) g) (by_plan body _ _ _ (wide_items ls t (suc n) g) (fits_means body (suc n * width t) (back lim ls) on h e))
        go (no g) = rw (le-ltb 0 (width t) (omega arith)) (by_plan body _ _ _ (items_are ls t n) (begin_means (Items t n ∷ ls) body t on h (λ q. absurd (omega arith))))

    pair_means : (ls : List Nest) (k v : TType) (n : ℕ) (on : ℕ → Rest) → Means (back lim ls) on → Means (back lim (Keys k v n ∷ ls)) (next_pair lim left ls k v n on)
    unfolding Means
    pair_means ls k v zero on e body h = by_plan body _ _ _ (no_pairs ls k v) (e body h)
    pair_means ls k v (suc n) on e body h = go (dec_lt 0 (width k)) (dec_lt 0 (width v))
      where
        go : Dec (0 < width k) → Dec (0 < width v) → passing body (back lim (Keys k v (suc n) ∷ ls) (left - body)) ≡ meaning lim left (next_pair lim left ls k v (suc n) on body)
        go (yes g) (yes i) = rw (lt-ltb 0 (width k) g, lt-ltb 0 (width v) i) (by_plan body _ _ _ (wide_pairs ls k v (suc n) g i) (fits_means body (suc n * (width k + width v)) (back lim ls) on h e))
        go (yes g) (no i) =
            rw (lt-ltb 0 (width k) g, le-ltb 0 (width v) (omega arith))
            (by_plan body _ _ _ (wide_key ls k v n g)
            (fits_means body (width k) (valued lim (Keys k v n ∷ ls) v) (λ m. begin lim left (Keys k v n ∷ ls) m v on) h (λ m l. begin_means (Keys k v n ∷ ls) m v on l (λ q. absurd (omega arith)))))
        go (no g) i = rw (le-ltb 0 (width k) (omega arith)) (by_plan body _ _ _ (pairs_are ls k v n) (begin_means (Values k v n ∷ ls) body k on h (λ q. absurd (omega arith))))

    value_means : (ls : List Nest) (k v : TType) (n : ℕ) (on : ℕ → Rest) → Means (back lim ls) on → Means (back lim (Values k v n ∷ ls)) (next_value lim left ls k v n on)
    unfolding Means
    value_means ls k v n on e body h = by_plan body _ _ _ (value_is ls k v n) (begin_means (Keys k v n ∷ ls) body v _ h (λ q. pair_means ls k v n on e))

    next_means : (ls : List Nest) (l : Nest) (on : ℕ → Rest) → Means (back lim ls) on → Means (back lim (l ∷ ls)) (next lim left ls on l)
    unfolding Means
    next_means ls (Fields id) on e = λ body h. ask_means (Fields id ∷ ls) body W.Head tt h
    next_means ls (Items t n) on e = item_means ls t n on e
    next_means ls (Keys k v n) on e = pair_means ls k v n on e
    next_means ls (Values k v n) on e = value_means ls k v n on e

    pub settled_means : (ls : List Nest) → Means (back lim ls) (settled lim left ls)
    unfolding Means settled back done
    settled_means [] = λ body h. refl
    settled_means (l ∷ ls) = next_means ls l (settled lim left ls) (settled_means ls)

    -- with nothing to pass over
    now : (p : Plan Passed) (on : ℕ → Rest) → Means p on → p left ≡ meaning lim left (on 0)
    unfolding Means
    now p on e = let z : left ≡ left - 0 = omega arith in ap p z ∙ e 0 (omega arith)

    settled_now : (ls : List Nest) → back lim ls left ≡ meaning lim left (settled lim left ls 0)
    settled_now ls = now (back lim ls) (settled lim left ls) (settled_means ls)

    ask_now : (ls : List Nest) (w : Wait) → Fit ls w → waiting lim ls w left ≡ meaning lim left (ask left ls 0 w)
    unfolding Means
    ask_now ls w f = now (waiting lim ls w) (λ m. ask left ls m w) (λ m h. ask_means ls m w f h)

    entered_now : (ls : List Nest) (t : TType) → valued lim ls t left ≡ meaning lim left (entered lim left ls t)
    unfolding Means
    entered_now ls t = now (valued lim ls t) (λ m. begin lim left ls m t (settled lim left ls)) (λ m h. begin_means ls m t (settled lim left ls) h (λ g. settled_means ls))

    -- the next byte of a number
    part_looks : (ls : List Nest) (p : Part) (w : Part → Wait) (k : ℕ → Plan Passed) (on : ℕ → Rest)
        → p.groups ≤ 4
        → ((q : Part) → q.groups ≤ 4 → Fit ls (w q))
        → ((q : Part) → waiting lim ls (w q) ≡ and_then (partly q) k)
        → ((n : ℕ) → k n left ≡ meaning lim left (on n))
        → waiting lim ls (w p) (suc left) ≡ look (λ b. meaning lim left (step_part left ls p w on b))
    unfolding partly
    part_looks ls p w k on h f e g =
        ap (λ (q : Plan Passed). q (suc left)) (e p ∙ ap (λ (q : Plan ℕ). and_then q k) (partly_step p h) ∙ assoc byte _ k)
        ∙ then_byte _ left
        ∙ ap look (fun_ext one)
      where
        part : ℕ → Part
        part b = record { groups = p.groups + 1; low = (p.low + 128 ^ p.groups * (b % 128)) % 2 ^ 32 }

        kept : (b v : ℕ) → (p.low + 128 ^ p.groups * (b % 128 + 128 * v)) % 2 ^ 32 ≡ ((part b).low + 128 ^ (part b).groups * v) % 2 ^ 32
        kept b v =
            let e : p.low + 128 ^ p.groups * (b % 128 + 128 * v) ≡ p.low + 128 ^ p.groups * (b % 128) + 128 ^ (p.groups + 1) * v = omega (arith, weight p.groups (b % 128) v) in
            ap (λ (n : ℕ). n % 2 ^ 32) e ∙ sym (mod-add-mod (p.low + 128 ^ p.groups * (b % 128)) (2 ^ 32) (128 ^ (p.groups + 1) * v))

        rest : (b : ℕ) → and_then (groups (4 - p.groups)) (λ v. done ((p.low + 128 ^ p.groups * (b % 128 + 128 * v)) % 2 ^ 32)) ≡ partly (part b)
        rest b =
            let e : 4 - p.groups ≡ 5 - (p.groups + 1) = omega arith in
            ap₂ (λ (i : ℕ) (d : ℕ → Plan ℕ). and_then (groups i) d) e (fun_ext (λ v. ap (λ (n : ℕ). done n) (kept b v)))

        more : (b : ℕ) → and_then (and_then (groups (4 - p.groups)) (λ v. done ((p.low + 128 ^ p.groups * (b % 128 + 128 * v)) % 2 ^ 32))) k left ≡ meaning lim left (cond (ltb p.groups 4) (ask left ls 0 (w (part b))) (stopped LONG_VARINT))
        more b = ap (λ (q : Plan ℕ). and_then q k left) (rest b) ∙ go (dec_lt p.groups 4)
          where
            go : Dec (p.groups < 4) → and_then (partly (part b)) k left ≡ meaning lim left (cond (ltb p.groups 4) (ask left ls 0 (w (part b))) (stopped LONG_VARINT))
            go (yes l) = rw (lt-ltb p.groups 4 l) (ap (λ (q : Plan Passed). q left) (sym (e (part b))) ∙ ask_now ls (w (part b)) (f (part b) (omega arith)))
            go (no l) = rw (le-ltb p.groups 4 (omega arith)) (too_long (part b) k left (omega arith))

        one : (b : ℕ) → and_then (cond (ltb b 128) (done ((p.low + 128 ^ p.groups * b) % 2 ^ 32)) (and_then (groups (4 - p.groups)) (λ v. done ((p.low + 128 ^ p.groups * (b % 128 + 128 * v)) % 2 ^ 32)))) k left ≡ meaning lim left (step_part left ls p w on b)
        one b = ap (λ (q : Plan Passed). q left) (cond_then (ltb b 128) _ _ k) ∙ by (ltb b 128)
          where
            by : (small : Bool) → cond small (and_then (done ((p.low + 128 ^ p.groups * b) % 2 ^ 32)) k) (and_then (and_then (groups (4 - p.groups)) (λ v. done ((p.low + 128 ^ p.groups * (b % 128 + 128 * v)) % 2 ^ 32))) k) left ≡ meaning lim left (cond small (on ((p.low + 128 ^ p.groups * b) % 2 ^ 32)) (cond (ltb p.groups 4) (ask left ls 0 (w (part b))) (stopped LONG_VARINT)))
            by true = ap (λ (q : Plan Passed). q left) (done_then _ k) ∙ g _
            by false = more b

    -- plans that are one, at the bytes left
    at : {p q : Plan Passed} {x : Ask Passed} → p ≡ q → q left ≡ x → p left ≡ x
    at e f = ap (λ (k : Plan Passed). k left) e ∙ f

    cond_now : (ok : Bool) (p q : Plan Passed) (r s : Rest) → p left ≡ meaning lim left r → q left ≡ meaning lim left s → cond ok p q left ≡ meaning lim left (cond ok r s)
    cond_now true p q r s e f = e
    cond_now false p q r s e f = f

    provided_now : (ok : Bool) (why : ℕ) (p : Plan Passed) (r : Rest) → p left ≡ meaning lim left r → provided ok why p left ≡ meaning lim left (cond ok r (stopped why))
    unfolding provided
    provided_now true why p r e = e
    provided_now false why p r e = refl

    refuse_now : (why : ℕ) → refuse why left ≡ meaning lim left (stopped why)
    unfolding refuse
    refuse_now why = refl

    -- a count, and what is opened behind it
    counted_now : (n : ℕ) (k : ℕ → Plan Passed) (r : Rest) → k n left ≡ meaning lim left r → and_then (counted lim n) k left ≡ meaning lim left (checked lim n r)
    unfolding counted
    counted_now n k r e =
        at (provided_then (leb n 2147483647) NEGATIVE_SIZE _ k)
        (provided_now (leb n 2147483647) NEGATIVE_SIZE _ (cond (leb n lim.container) r (stopped SIZE_LIMIT))
        (at (provided_then (leb n lim.container) SIZE_LIMIT _ k) (provided_now (leb n lim.container) SIZE_LIMIT _ r (at (done_then n k) e))))

    ahead_now : {A : Type 0} (n : ℕ) (a : A) (k : A → Plan Passed) (r : Rest) → k a left ≡ meaning lim left r → and_then (ahead n a) k left ≡ meaning lim left (enough left n r)
    ahead_now n a k r e = then_ahead n a k left ∙ go (leb n left)
      where
        go : (ok : Bool) → cond ok (k a left) (refused END) ≡ meaning lim left (cond ok r (stopped END))
        go true = e
        go false = refl

    opened_now : (ls : List Nest) (t : TType) (n : ℕ) → opened lim ls (t, n) left ≡ meaning lim left (enough left (n * least_size t) (cond (startable t n) (settled lim left (Items t n ∷ ls) 0) (stopped BAD_TYPE)))
    unfolding opened
    opened_now ls t n = ahead_now (n * least_size t) (t, n) _ _ (provided_now (startable t n) BAD_TYPE _ _ (settled_now (Items t n ∷ ls)))

    listed_now : (ls : List Nest) (t : TType) (n : ℕ) → and_then (listed lim t n) (opened lim ls) left ≡ meaning lim left (opening lim left ls t n)
    unfolding listed
    listed_now ls t n =
        at (assoc (counted lim n) _ (opened lim ls))
        (counted_now n _ _ (at (done_then (t, n) (opened lim ls)) (opened_now ls t n)))

    opened_map_now : (ls : List Nest) (k v : TType) (n : ℕ)
        → opened_map lim ls (k, v, n) left ≡ meaning lim left (enough left (n * least_size k + n * least_size v) (cond (startable k n) (cond (startable v n) (settled lim left (Keys k v n ∷ ls) 0) (stopped BAD_TYPE)) (stopped BAD_TYPE)))
    unfolding opened_map
    opened_map_now ls k v n = ahead_now (n * least_size k + n * least_size v) (k, v, n) _ _ (provided_now (startable k n) BAD_TYPE _ _ (provided_now (startable v n) BAD_TYPE _ _ (settled_now (Keys k v n ∷ ls))))

    -- a list's first byte
    list_now : (ls : List Nest) (count : ℕ) (x : TypeRead) → and_then (and_then (typed x) (λ t. and_then (cond (ltb count 15) (done count) number32) (listed lim t))) (opened lim ls) left ≡ meaning lim left (step_list lim left ls count x)
    list_now ls count (R.Refused why) = at (ap (λ (q : Plan (TType × ℕ)). and_then q (opened lim ls)) (refuse_then why _) ∙ refuse_then why _) (refuse_now why)
    list_now ls count (R.Got t) = at (ap (λ (q : Plan (TType × ℕ)). and_then q (opened lim ls)) (done_then t _) ∙ assoc (cond (ltb count 15) (done count) number32) _ _ ∙ cond_then (ltb count 15) _ _ _) (cond_now (ltb count 15) _ _ _ _ (at (done_then count _) (listed_now ls t count)) (at long (ask_now ls (W.Varint (O.Count t) fresh) (omega arith))))
      where
        long : and_then number32 (λ n. and_then (listed lim t n) (opened lim ls)) ≡ waiting lim ls (W.Varint (O.Count t) fresh)
        long = ap (λ (q : Plan ℕ). and_then q (λ n. and_then (listed lim t n) (opened lim ls))) (sym fresh_is)

    -- a map's types
    types_now : (ls : List Nest) (n : ℕ) (x y : TypeRead) → and_then (and_then (typed x) (λ k. and_then (typed y) (λ v. and_then (counted lim n) (λ m. done (k, v, m))))) (opened_map lim ls) left ≡ meaning lim left (step_types lim left ls n x y)
    types_now ls n (R.Refused why) y = at (ap (λ (q : Plan (TType × TType × ℕ)). and_then q (opened_map lim ls)) (refuse_then why _) ∙ refuse_then why _) (refuse_now why)
    types_now ls n (R.Got k) (R.Refused why) =
        at (ap (λ (q : Plan (TType × TType × ℕ)). and_then q (opened_map lim ls)) (done_then k _ ∙ refuse_then why _) ∙ refuse_then why _) (refuse_now why)
    types_now ls n (R.Got k) (R.Got v) =
        at (ap (λ (q : Plan (TType × TType × ℕ)). and_then q (opened_map lim ls)) (done_then k _ ∙ done_then v _) ∙ assoc (counted lim n) _ _)
        (counted_now n _ _ (at (done_then (k, v, n) (opened_map lim ls)) (opened_map_now ls k v n)))

    -- a field's first byte
    id_now : (ls : List Nest) (last : ℤ) (delta : ℕ) (w : Part → Wait) (k : ℤ → Plan Passed) (on : ℤ → Rest)
        → waiting lim ls (w fresh) ≡ and_then (partly fresh) (ranged k)
        → Fit ls (w fresh)
        → ((id : ℤ) → k id left ≡ meaning lim left (on id))
        → and_then (field_id last delta) k left ≡ meaning lim left (headed left ls last delta w on)
    unfolding field_id
    id_now ls last delta w k on e f g =
        at (cond_then (eqb delta 0) _ _ k)
        (cond_now (eqb delta 0) _ _ _ _
        (at far (ask_now ls (w fresh) f))
        (at (cond_then (lt_z (pos 32767) (last +ℤ pos delta)) _ _ k)
        (cond_now (lt_z (pos 32767) (last +ℤ pos delta)) _ _ _ _ (at (refuse_then FIELD_ID k) (refuse_now FIELD_ID)) (at (done_then _ k) (g _)))))
      where
        far : and_then int16 k ≡ waiting lim ls (w fresh)
        far = far_is k ∙ sym (e ∙ ap (λ (q : Plan ℕ). and_then q (ranged k)) fresh_is)

    head_now : (ls : List Nest) (last : ℤ) (delta : ℕ) (x : FieldType)
        → and_then (of_type last delta x) (λ y. and_then (after (within lim (Fields (id_of last) ∷ ls)) (fields (within lim (Fields (id_of last) ∷ ls))) y) (λ u. back lim ls)) left ≡ meaning lim left (step_head lim left ls last delta x)
    unfolding back valued
    head_now ls last delta F.Stop = at (done_then stop _ ∙ done_then tt _) (settled_now ls)
    head_now ls last delta (F.Truth b) =
        at (assoc (field_id last delta) _ _ ∙ ap (and_then (field_id last delta)) (fun_ext (λ id. done_then (bool b id) _)))
        (id_now (Fields (id_of last) ∷ ls) last delta (W.Varint O.Flag) (λ id. back lim (Fields (id_of id) ∷ ls)) (λ id. settled lim left (Fields (id_of id) ∷ ls) 0) refl (omega arith) (λ id. settled_now (Fields (id_of id) ∷ ls)))
    head_now ls last delta (F.Kind t) =
        at (assoc (field_id last delta) _ _ ∙ ap (and_then (field_id last delta)) (fun_ext (λ id. done_then (value t id) _ ∙ assoc (within lim (Fields (id_of last) ∷ ls) t) _ _)))
        (id_now (Fields (id_of last) ∷ ls) last delta (W.Varint (O.Id t)) (λ id. valued lim (Fields (id_of id) ∷ ls) t) (λ id. entered lim left (Fields (id_of id) ∷ ls) t) refl (omega arith) (λ id. entered_now (Fields (id_of id) ∷ ls) t))
    head_now ls last delta (F.Refused why) = at (refuse_then why _) (refuse_now why)

    -- one byte looked at, whatever is waited for
    head_looks : (ls : List Nest) (last : ℤ) → back lim (Fields (id_of last) ∷ ls) (suc left) ≡ look (λ b. meaning lim left (step_head lim left ls last (b / 16) (field_type (b % 16))))
    unfolding back field
    head_looks ls last =
        ap (λ (p : Plan Passed). p (suc left))
        (ap (λ (q : Plan Passed). and_then q (λ u. back lim ls)) (fields_step (within lim (Fields (id_of last) ∷ ls)) last) ∙ assoc (field last) _ _ ∙ assoc byte _ _)
        ∙ then_byte _ left
        ∙ ap look (fun_ext (λ b. head_now ls last (b / 16) (field_type (b % 16))))

    byte_looks : {A : Type 0} (k : ℕ → Plan A) (k' : A → Plan Passed) (r : ℕ → Rest) → ((b : ℕ) → and_then (k b) k' left ≡ meaning lim left (r b)) → and_then (and_then byte k) k' (suc left) ≡ look (λ b. meaning lim left (r b))
    byte_looks k k' r e = ap (λ (p : Plan Passed). p (suc left)) (assoc byte k k') ∙ then_byte _ left ∙ ap look (fun_ext e)

    number_looks : (ls : List Nest) (k : ℕ) → and_then (number (suc k)) (λ u. back lim ls) (suc left) ≡ look (λ b. meaning lim left (stepped lim left ls (W.Number (suc k)) b))
    unfolding number and_then refuse
    number_looks ls k =
        ap (λ (q : Plan Passed). and_then q (λ u. back lim ls) (suc left)) (number_step k)
        ∙ byte_looks _ _ (stepped lim left ls (W.Number (suc k))) (λ b. at (cond_then (ltb b 128) _ _ _) (cond_now (ltb b 128) _ _ (settled lim left ls 0) (cond (ltb 1 (suc k)) (ask left ls 0 (W.Number (suc k - 1))) (stopped LONG_VARINT)) (at (done_then tt _) (settled_now ls)) (go b k)))
      where
        go : (b k : ℕ) → and_then (number k) (λ u. back lim ls) left ≡ meaning lim left (cond (ltb 1 (suc k)) (ask left ls 0 (W.Number (suc k - 1))) (stopped LONG_VARINT))
        go b zero = refl
        go b (suc j) = let e : suc (suc j) - 1 ≡ suc j = omega arith in rw (lt-ltb 1 (suc (suc j)) (omega arith), e) (ask_now ls (W.Number (suc j)) (omega arith))

    empty_map : (ls : List Nest) → opened_map lim ls (T.Stop, T.Stop, 0) left ≡ meaning lim left (settled lim left ls 0)
    unfolding opened_map provided
    empty_map ls = then_ahead (0 * 1 + 0 * 1) (T.Stop, T.Stop, 0) _ left ∙ rw (le-leb (0 * 1 + 0 * 1) left (omega arith)) (at (no_pairs ls T.Stop T.Stop) (settled_now ls))

    body_means : (ls : List Nest) (n : ℕ) → Means (and_then (some n) (λ u. back lim ls)) (λ m. fits left m n (settled lim left ls))
    unfolding Means
    body_means ls n m h = fits_means m n (back lim ls) (settled lim left ls) h (settled_means ls)

    ranged_now : (k : ℤ → Plan Passed) (on : ℤ → Rest) → ((id : ℤ) → k id left ≡ meaning lim left (on id)) → (n : ℕ) → ranged k n left ≡ meaning lim left (inside on n)
    ranged_now k on e n = provided_now (in_range16 (id_from n)) RANGE _ _ (e (id_from n))

    -- a number has come whole
    whole_now : (ls : List Nest) (g : Goal) (n : ℕ) → reached lim ls g n left ≡ meaning lim left (on_whole lim left ls g n)
    whole_now ls O.Flag n = ranged_now (λ id. back lim (renamed id ls)) (λ id. settled lim left (renamed id ls) 0) (λ id. settled_now (renamed id ls)) n
    whole_now ls (O.Id t) n = ranged_now (λ id. valued lim (renamed id ls) t) (λ id. entered lim left (renamed id ls) t) (λ id. entered_now (renamed id ls) t) n
    whole_now ls (O.Count t) n = listed_now ls t n
    whole_now ls O.Pairs n = cond_now (eqb n 0) _ _ _ _ (empty_map ls) (ask_now ls (W.Types n) tt)
    whole_now ls O.Length n =
        provided_now (leb n lim.string) SIZE_LIMIT _ _ (now (and_then (some n) (λ u. back lim ls)) (λ m. fits left m n (settled lim left ls)) (body_means ls n))
    whole_now ls O.Short n = ranged_now (λ z. back lim ls) (λ z. settled lim left ls 0) (λ z. settled_now ls) n

    pub stepped_means : (ls : List Nest) (w : Wait) → Fit ls w → waiting lim ls w (suc left) ≡ look (λ b. meaning lim left (stepped lim left ls w b))
    unfolding truth items mapped
    stepped_means [] W.Head f = absurd f
    stepped_means (Fields id ∷ ls) W.Head f = head_looks ls id.0
    stepped_means (Items t n ∷ ls) W.Head f = absurd f
    stepped_means (Keys k v n ∷ ls) W.Head f = absurd f
    stepped_means (Values k v n ∷ ls) W.Head f = absurd f
    stepped_means ls W.Truth f = byte_looks _ _ (stepped lim left ls W.Truth) (λ b. at (provided_then (ltb b 3) BAD_BOOL _ _) (provided_now (ltb b 3) BAD_BOOL _ (settled lim left ls 0) (at (done_then tt _) (settled_now ls))))
    stepped_means ls W.List f = byte_looks _ _ (stepped lim left ls W.List) (λ b. list_now ls (b / 16) (element_type (b % 16)))
    stepped_means ls (W.Types n) f = byte_looks _ _ (stepped lim left ls (W.Types n)) (λ b. types_now ls n (element_type (b / 16)) (element_type (b % 16)))
    stepped_means ls (W.Varint g p) f = part_looks ls p (W.Varint g) (reached lim ls g) (on_whole lim left ls g) f (λ q h. h) (λ q. refl) (whole_now ls g)
    stepped_means ls (W.Number zero) f = absurd (omega arith)
    stepped_means ls (W.Number (suc k)) f = number_looks ls k

  -- a whole frame: the struct, and nothing behind it
  pub whole_told : (announced : ℕ) (bs : List ℕ) → told (skip_plan lim lim.depth T.Struct announced) bs ≡ told (meaning lim announced (begin lim announced [] 0 T.Struct (settled lim announced []))) bs
  unfolding valued back
  whole_told announced bs =
      let e : lim.depth ≡ lim.depth - 0 = omega arith in
      ap (λ (i : ℕ). told (skip_plan lim i T.Struct announced) bs) e ∙ sym (told_done (within lim [] T.Struct) announced bs) ∙ ap (λ (q : Ask Passed). told q bs) (entered_now announced [] T.Struct)
