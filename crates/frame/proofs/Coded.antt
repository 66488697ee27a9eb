-- The code's moves and turns are the machine's steps. Assumes nothing.
use mathlib.Core.Path.{◌≡◌, refl, ap, ◌∙◌}
use mathlib.Core.Bool.{Bool, true, false, cond}
use mathlib.Core.List.{List, [], ◌∷◌}
use Prim.Native.Nat.{ℕ, zero, suc, ◌+◌, ◌-◌, ◌*◌, ◌/◌, ◌%◌, ◌^◌, ◌<◌}
use native.Mathlib.Omega.{arith}
use native.Mathlib.Decide.{dec_lt}
use borrow.Author.Tests.{ne_eqb, lt-ltb, le-ltb, le-leb}
use lib.Dec.{leb, ltb, eqb}
use lib.IntN.{ℤ, pos, ◌+ℤ◌}
use lib.Signed.{lt_z}
use lib.ListN.{length}
use Rattle.types.specs.Refusals.{END, BAD_TYPE, BAD_BOOL, FIELD_ID, LONG_VARINT, SIZE_LIMIT, NEGATIVE_SIZE, DEPTH, RANGE}
use Rattle.types.specs.Codes.{element_type, field_type}
use Rattle.types.specs.declared.TType.{TType}
use Rattle.types.specs.declared.TType.TheVariants as T
use Rattle.types.specs.declared.TypeRead.{TypeRead}
use Rattle.types.specs.declared.TypeRead.TheVariants as R
use Rattle.types.specs.declared.FieldType.{FieldType}
use Rattle.types.specs.declared.FieldType.TheVariants as F
use Rattle.types.specs.declared.TConfiguration.{TConfiguration}
use Rattle.zigzag.specs.Zigzag.{in_range16}
use Rattle.heads.specs.Heads as h
use Rattle.heads.specs.Heads.{least_size}
use Rattle.heads.specs.Reader as r
use Rattle.heads.specs.Answers.{id_of, why_of, count_why}
use Rattle.numbers.specs.Varint as num
use Rattle.skip.specs.Value.{startable}
use Rattle.types.specs.declared.FieldId.{FieldId}
use Rattle.frame.specs.declared.Nest.{Nest}
use Rattle.frame.specs.declared.Nest.TheVariants.{Fields, Items, Keys, Values}
use Rattle.frame.specs.declared.Part.{Part}
use Rattle.frame.specs.declared.Goal.{Goal}
use Rattle.frame.specs.declared.Goal.TheVariants as O
use Rattle.frame.specs.declared.Wait.{Wait}
use Rattle.frame.specs.declared.Wait.TheVariants as W
use Rattle.frame.specs.declared.Moved.{Moved}
use Rattle.frame.specs.declared.Moved.TheVariants as M
use Rattle.frame.specs.declared.Grown.TheVariants as G
use Rattle.frame.specs.declared.ShortId.TheVariants as S
use Rattle.frame.specs.declared.Begun.{Begun}
use Rattle.frame.specs.declared.Begun.TheVariants as B
use Rattle.frame.specs.declared.Turn.{Turn}
use Rattle.frame.specs.declared.Turn.TheVariants as U
use Rattle.frame.specs.Machine.{fresh, renamed, id_from, Rest, stopped, ask, fits, room_for, begin, width, next_pair, next_value, next_item, next, settled, entered, step_head, checked, opening, opening_map, step_list, step_types, step_part, enough, inside, on_whole, stepped, Fit}
use Rattle.frame.specs.Moves.{grown, on_grown, short_id, long_id, on_long, on_short, head_of, head_move, start_move, open_move, start_pairs, open_pairs, list_of, list_move, types_of, types_move, number_move, length_move, pairs_move, goal_move, moved, replaced, applied}
use Rattle.frame.specs.Turns.{width_of, in_room, begun, on_begun, value_turn, up_turn, item_turn, pair_turn, second_turn, turned, on_turn}

-- a function of a choice is a choice
pick : {A B : Type 0} (f : A → B) (ok : Bool) (x y : A) → f (cond ok x y) ≡ cond ok (f x) (f y)
pick f true x y = refl
pick f false x y = refl

cond_same : {A : Type 0} (ok : Bool) {x y u v : A} → x ≡ u → y ≡ v → cond ok x y ≡ cond ok u v
cond_same true e f = e
cond_same false e f = f

module _ (lim : TConfiguration) (left : ℕ) where
  -- turns
  module _ (ls : List Nest) (on : ℕ → Rest) where
    abbrev T' : Turn → Rest
    T' t = on_turn left ls on t

    room_turn : (l : Nest) (body : ℕ) (b : Begun) (r : Rest) → r ≡ T' (on_begun l body b) → room_for lim (l ∷ ls) r ≡ T' (on_begun l body (in_room lim (suc (length ls)) b))
    unfolding in_room
    room_turn l body b r e = go (ltb (suc (length ls)) lim.depth)
      where
        go : (ok : Bool) → cond ok r (stopped DEPTH) ≡ T' (on_begun l body (cond ok b (B.Refused DEPTH)))
        go true = e
        go false = refl

    pub begin_turn : (l : Nest) (body : ℕ) (t : TType) (any : ℕ → Rest) → width t ≡ 0 → begin lim left (l ∷ ls) body t any ≡ T' (value_turn lim (suc (length ls)) l body t)
    unfolding value_turn begun
    begin_turn l body T.Stop any h = refl
    begin_turn l body T.Bool any h = refl
    begin_turn l body T.I08 any h = absurd (omega arith)
    begin_turn l body T.I16 any h = refl
    begin_turn l body T.I32 any h = refl
    begin_turn l body T.I64 any h = refl
    begin_turn l body T.Double any h = absurd (omega arith)
    begin_turn l body T.String any h = refl
    begin_turn l body T.List any h = room_turn l body (B.Asks W.List) _ refl
    begin_turn l body T.Set any h = room_turn l body (B.Asks W.List) _ refl
    begin_turn l body T.Map any h = room_turn l body (B.Asks (W.Varint O.Pairs fresh)) _ refl
    begin_turn l body T.Struct any h = room_turn l body B.Enters _ refl
    begin_turn l body T.Uuid any h = absurd (omega arith)

    pub begin_wide : (l : Nest) (body : ℕ) (t : TType) (any : ℕ → Rest) → 0 < width t → begin lim left (l ∷ ls) body t any ≡ fits left body (width t) any
    begin_wide l body T.Stop any h = absurd (omega arith)
    begin_wide l body T.Bool any h = absurd (omega arith)
    begin_wide l body T.I08 any h = refl
    begin_wide l body T.I16 any h = absurd (omega arith)
    begin_wide l body T.I32 any h = absurd (omega arith)
    begin_wide l body T.I64 any h = absurd (omega arith)
    begin_wide l body T.Double any h = refl
    begin_wide l body T.String any h = absurd (omega arith)
    begin_wide l body T.List any h = absurd (omega arith)
    begin_wide l body T.Set any h = absurd (omega arith)
    begin_wide l body T.Map any h = absurd (omega arith)
    begin_wide l body T.Struct any h = absurd (omega arith)
    begin_wide l body T.Uuid any h = refl

    up_turn_lem : (body n : ℕ) → fits left body n on ≡ T' (up_turn left body n)
    unfolding up_turn
    up_turn_lem body n = go (leb n (left - body))
      where
        go : (ok : Bool) → cond ok (on (body + n)) (stopped END) ≡ T' (cond ok (U.Up (body + n)) (U.Refused END))
        go true = refl
        go false = refl

    -- bytes that nobody looks at, then a turn
    fits_turn : (body n : ℕ) (f : ℕ → Rest) (t : Turn) → f (body + n) ≡ T' t → fits left body n f ≡ T' (cond (leb n (left - body)) t (U.Refused END))
    fits_turn body n f t e = go (leb n (left - body))
      where
        go : (ok : Bool) → cond ok (f (body + n)) (stopped END) ≡ T' (cond ok t (U.Refused END))
        go true = e
        go false = refl

    item_turn_lem : (t : TType) (n body : ℕ) → next_item lim left ls t n on body ≡ T' (item_turn lim left (suc (length ls)) t n body)
    unfolding item_turn width_of
    item_turn_lem t zero body = refl
    item_turn_lem t (suc n) body = go (dec_lt 0 (width t))
      where
        one : suc n - 1 ≡ n
        one = omega arith

        some : eqb (suc n) 0 ≡ false
        some = ne_eqb (suc n) 0 (λ z. omega arith)

        go : Dec (0 < width t) → next_item lim left ls t (suc n) on body ≡ T' (item_turn lim left (suc (length ls)) t (suc n) body)
        go (yes h) = rw (some, lt-ltb 0 (width t) h) (up_turn_lem body (suc n * width t))
        go (no h) = rw (some, le-ltb 0 (width t) (omega arith), one) (begin_turn (Items t n) body t on (omega arith))

    pair_turn_lem : (k v : TType) (n body : ℕ) → next_pair lim left ls k v n on body ≡ T' (pair_turn lim left (suc (length ls)) k v n body)
    unfolding pair_turn width_of
    pair_turn_lem k v zero body = refl
    pair_turn_lem k v (suc n) body = go (dec_lt 0 (width k)) (dec_lt 0 (width v))
      where
        one : suc n - 1 ≡ n
        one = omega arith

        some : eqb (suc n) 0 ≡ false
        some = ne_eqb (suc n) 0 (λ z. omega arith)

        go : Dec (0 < width k) → Dec (0 < width v) → next_pair lim left ls k v (suc n) on body ≡ T' (pair_turn lim left (suc (length ls)) k v (suc n) body)
        go (yes h) (yes g) = rw (some, lt-ltb 0 (width k) h, lt-ltb 0 (width v) g) (up_turn_lem body (suc n * (width k + width v)))
        go (yes h) (no g) =
            rw (some, lt-ltb 0 (width k) h, le-ltb 0 (width v) (omega arith), one)
            (fits_turn body (width k) (λ m. begin lim left (Keys k v n ∷ ls) m v on) (value_turn lim (suc (length ls)) (Keys k v n) (body + width k) v) (begin_turn (Keys k v n) (body + width k) v on (omega arith)))
        go (no h) g = rw (some, le-ltb 0 (width k) (omega arith), one) (begin_turn (Values k v n) body k on (omega arith))

    second_turn_lem : (k v : TType) (n body : ℕ) → next_value lim left ls k v n on body ≡ T' (second_turn lim left (suc (length ls)) k v n body)
    unfolding second_turn width_of
    second_turn_lem k v n body = go (dec_lt 0 (width v))
      where
        go : Dec (0 < width v) → next_value lim left ls k v n on body ≡ T' (second_turn lim left (suc (length ls)) k v n body)
        go (yes h) =
            begin_wide (Keys k v n) body v (next_pair lim left ls k v n on) h
            ∙ fits_turn body (width v) (next_pair lim left ls k v n on) (pair_turn lim left (suc (length ls)) k v n (body + width v)) (pair_turn_lem k v n (body + width v))
            ∙ rw (lt-ltb 0 (width v) h)
        go (no h) = begin_turn (Keys k v n) body v (next_pair lim left ls k v n on) (omega arith) ∙ rw (le-ltb 0 (width v) (omega arith))

    pub turn_is : (l : Nest) (body : ℕ) → next lim left ls on l body ≡ on_turn left ls on (turned lim left (suc (length ls)) l body)
    unfolding turned
    turn_is (Fields id) body = refl
    turn_is (Items t n) body = item_turn_lem t n body
    turn_is (Keys k v n) body = pair_turn_lem k v n body
    turn_is (Values k v n) body = second_turn_lem k v n body

  -- moves
  module _ (ls : List Nest) where
    abbrev A' : Moved → Rest
    A' m = applied lim left ls m

    zero_fits : settled lim left ls 0 ≡ A' (M.Passed 0)
    zero_fits = rw (le-leb 0 (left - 0) (omega arith))

    grown_is : (p : Part) (w : Part → Wait) (on : ℕ → Rest) (m : ℕ → Moved) (b : ℕ) → ((n : ℕ) → on n ≡ A' (m n)) → step_part left ls p w on b ≡ A' (on_grown w m (grown p b))
    unfolding grown
    grown_is p w on m b e = go (ltb b 128) (ltb p.groups 4)
      where
        go : (small more : Bool) → cond small (on ((p.low + 128 ^ p.groups * b) % 2 ^ 32)) (cond more (ask left ls 0 (w (record { groups = p.groups + 1; low = (p.low + 128 ^ p.groups * (b % 128)) % 2 ^ 32 }))) (stopped LONG_VARINT)) ≡ A' (on_grown w m (cond small (G.Whole ((p.low + 128 ^ p.groups * b) % 2 ^ 32)) (cond more (G.More (record { groups = p.groups + 1; low = (p.low + 128 ^ p.groups * (b % 128)) % 2 ^ 32 })) G.Long)))
        go true more = e _
        go false true = refl
        go false false = refl

    abbrev why : ℕ → Bool → Bool → ℕ
    why n small few = why_of (cond small (cond few (num.got n 0) (num.refused SIZE_LIMIT)) (num.refused NEGATIVE_SIZE))

    checked_is : (n : ℕ) (x : Rest) (m : Moved) → x ≡ A' m → checked lim n x ≡ A' (cond (eqb (count_why lim n) 0) m (M.Refused (count_why lim n)))
    unfolding count_why h.counted r.provided r.done
    checked_is n x m e = go (leb n 2147483647) (leb n lim.container)
      where
        go : (small few : Bool) → cond small (cond few x (stopped SIZE_LIMIT)) (stopped NEGATIVE_SIZE) ≡ A' (cond (eqb (why n small few) 0) m (M.Refused (why n small few)))
        go true true = e
        go true false = refl
        go false few = refl

    either_is : (ok : Bool) (r s : Rest) (m n : Moved) → r ≡ A' m → s ≡ A' n → cond ok r s ≡ A' (cond ok m n)
    either_is true r s m n e f = e
    either_is false r s m n e f = f

    enough_is : (n : ℕ) (x : Rest) (m : Moved) → x ≡ A' m → enough left n x ≡ A' (cond (leb n left) m (M.Refused END))
    enough_is n x m e = either_is (leb n left) x (stopped END) m (M.Refused END) e refl

    open_is : (t : TType) (n : ℕ) → opening lim left ls t n ≡ A' (open_move lim left t n)
    unfolding open_move start_move
    open_is t n = checked_is n _ _ (enough_is (n * least_size t) _ _ (either_is (startable t n) _ _ (M.Opened (Items t n)) (M.Refused BAD_TYPE) refl refl))

    list_is : (n : ℕ) (x : TypeRead) → step_list lim left ls n x ≡ A' (list_of lim left n x)
    list_is n (R.Got t) = either_is (ltb n 15) _ _ (open_move lim left t n) (M.Waits (W.Varint (O.Count t) fresh)) (open_is t n) refl
    list_is n (R.Refused why) = refl

    pairs_is : (k v : TType) (n : ℕ) → opening_map lim left ls k v n ≡ A' (open_pairs lim left k v n)
    unfolding open_pairs start_pairs
    pairs_is k v n =
        checked_is n _ _
        (enough_is (n * least_size k + n * least_size v) _ _
        (either_is (startable k n) _ _ (cond (startable v n) (M.Opened (Keys k v n)) (M.Refused BAD_TYPE)) (M.Refused BAD_TYPE) (either_is (startable v n) _ _ (M.Opened (Keys k v n)) (M.Refused BAD_TYPE) refl refl) refl))

    types_is : (n : ℕ) (x y : TypeRead) → step_types lim left ls n x y ≡ A' (types_of lim left n x y)
    types_is n (R.Got k) (R.Got v) = pairs_is k v n
    types_is n (R.Got k) (R.Refused why) = refl
    types_is n (R.Refused why) y = refl

  renamed_is : (id : ℤ) (ls : List Nest) → renamed id ls ≡ replaced (Fields (id_of id)) ls
  renamed_is id [] = refl
  renamed_is id (l ∷ ls) = refl

  head_is : (ls : List Nest) (last : ℤ) (delta : ℕ) (x : FieldType) → step_head lim left ls last delta x ≡ applied lim left (Fields (id_of last) ∷ ls) (head_of last delta x)
  unfolding short_id
  head_is ls last delta F.Stop = refl
  head_is ls last delta (F.Truth b) = go (eqb delta 0) (lt_z (pos 32767) (last +ℤ pos delta))
    where
      go : (far over : Bool) → cond far (ask left (Fields (id_of last) ∷ ls) 0 (W.Varint O.Flag fresh)) (cond over (stopped FIELD_ID) (settled lim left (Fields (id_of (last +ℤ pos delta)) ∷ ls) 0)) ≡ applied lim left (Fields (id_of last) ∷ ls) (cond far (M.Waits (W.Varint O.Flag fresh)) (on_short (λ id. M.Named id) (cond over S.Over (S.Got (id_of (last +ℤ pos delta))))))
      go true over = refl
      go false true = refl
      go false false = refl
  head_is ls last delta (F.Kind t) = go (eqb delta 0) (lt_z (pos 32767) (last +ℤ pos delta))
    where
      go : (far over : Bool) → cond far (ask left (Fields (id_of last) ∷ ls) 0 (W.Varint (O.Id t) fresh)) (cond over (stopped FIELD_ID) (entered lim left (Fields (id_of (last +ℤ pos delta)) ∷ ls) t)) ≡ applied lim left (Fields (id_of last) ∷ ls) (cond far (M.Waits (W.Varint (O.Id t) fresh)) (on_short (λ id. M.Valued id t) (cond over S.Over (S.Got (id_of (last +ℤ pos delta))))))
      go true over = refl
      go false true = refl
      go false false = refl
  head_is ls last delta (F.Refused why) = refl

  inside_is : (ls : List Nest) (on : ℤ → Rest) (m : FieldId → Moved) (n : ℕ) → (on (id_from n) ≡ applied lim left ls (m (id_of (id_from n)))) → inside on n ≡ applied lim left ls (on_long m (long_id n))
  unfolding long_id
  inside_is ls on m n e = go (in_range16 (id_from n))
    where
      go : (ok : Bool) → cond ok (on (id_from n)) (stopped RANGE) ≡ applied lim left ls (on_long m (cond ok (S.Got (id_of (id_from n))) S.Over))
      go true = e
      go false = refl

  goal_is : (ls : List Nest) (g : Goal) (n : ℕ) → on_whole lim left ls g n ≡ applied lim left ls (goal_move lim left g n)
  unfolding goal_move pairs_move length_move
  goal_is ls O.Flag n = inside_is ls (λ id. settled lim left (renamed id ls) 0) (λ id. M.Named id) n (ap (λ (l : List Nest). settled lim left l 0) (renamed_is (id_from n) ls))
  goal_is ls (O.Id t) n = inside_is ls (λ id. entered lim left (renamed id ls) t) (λ id. M.Valued id t) n (ap (λ (l : List Nest). entered lim left l t) (renamed_is (id_from n) ls))
  goal_is ls (O.Count t) n = open_is ls t n
  goal_is ls O.Pairs n = either_is ls (eqb n 0) _ _ (M.Passed 0) (M.Waits (W.Types n)) (zero_fits ls) refl
  goal_is ls O.Length n = either_is ls (leb n lim.string) _ _ (M.Passed n) (M.Refused SIZE_LIMIT) refl refl
  goal_is ls O.Short n = inside_is ls (λ z. settled lim left ls 0) (λ id. M.Passed 0) n (zero_fits ls)

  -- the innermost that is open
  abbrev pub first : List Nest → Nest
  first [] = Fields (id_of (pos 0))
  first (l ∷ ls) = l

  pub move_is : (ls : List Nest) (w : Wait) (b : ℕ) → Fit ls w → stepped lim left ls w b ≡ applied lim left ls (moved lim left (first ls) w b)
  unfolding moved head_move list_move types_move number_move
  move_is [] W.Head b f = absurd f
  move_is (Fields id ∷ ls) W.Head b f = head_is ls id.0 (b / 16) (field_type (b % 16))
  move_is (Items t n ∷ ls) W.Head b f = absurd f
  move_is (Keys k v n ∷ ls) W.Head b f = absurd f
  move_is (Values k v n ∷ ls) W.Head b f = absurd f
  move_is ls W.Truth b f = either_is ls (ltb b 3) _ _ (M.Passed 0) (M.Refused BAD_BOOL) (zero_fits ls) refl
  move_is ls W.List b f = list_is ls (b / 16) (element_type (b % 16))
  move_is ls (W.Types n) b f = types_is ls n (element_type (b / 16)) (element_type (b % 16))
  move_is ls (W.Varint g p) b f = grown_is ls p (λ q. W.Varint g q) (on_whole lim left ls g) (goal_move lim left g) b (goal_is ls g)
  move_is ls (W.Number k) b f = either_is ls (ltb b 128) _ _ (M.Passed 0) (cond (ltb 1 k) (M.Waits (W.Number (k - 1))) (M.Refused LONG_VARINT)) (zero_fits ls) (either_is ls (ltb 1 k) _ _ (M.Waits (W.Number (k - 1))) (M.Refused LONG_VARINT) refl refl)
