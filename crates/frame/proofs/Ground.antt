-- The struct that a frame is stays the outermost that is open, so that it ends with its last byte. Assumes nothing.
use mathlib.Core.Path.{◌≡◌, refl, ◌∙◌}
use mathlib.Core.Bool.{Bool, true, false, cond}
use mathlib.Core.List.{List, [], ◌∷◌}
use Prim.Native.Nat.{ℕ, zero, suc, ◌+◌, ◌-◌, ◌*◌, ◌/◌, ◌%◌}
use native.Mathlib.Omega.{arith}
use lib.Dec.{leb, ltb, eqb}
use lib.IntN.{ℤ, pos, ◌+ℤ◌}
use lib.Signed.{lt_z}
use Rattle.types.specs.Refusals.{END, DEPTH}
use Rattle.types.specs.Codes.{element_type, field_type}
use Rattle.types.specs.declared.TType.{TType}
use Rattle.types.specs.declared.TType.TheVariants as T
use Rattle.types.specs.declared.TypeRead.{TypeRead}
use Rattle.types.specs.declared.TypeRead.TheVariants as R
use Rattle.types.specs.declared.FieldType.{FieldType}
use Rattle.types.specs.declared.FieldType.TheVariants as F
use Rattle.types.specs.declared.FieldId.{FieldId}
use Rattle.types.specs.declared.TConfiguration.{TConfiguration}
use Rattle.zigzag.specs.Zigzag.{in_range16}
use Rattle.heads.specs.Heads.{least_size}
use Rattle.heads.specs.Answers.{id_of}
use Rattle.skip.specs.Value.{startable}
use Rattle.frame.specs.declared.Nest.{Nest}
use Rattle.frame.specs.declared.Nest.TheVariants.{Fields, Items, Keys, Values}
use Rattle.frame.specs.declared.Part.{Part}
use Rattle.frame.specs.declared.Goal.{Goal}
use Rattle.frame.specs.declared.Goal.TheVariants as O
use Rattle.frame.specs.declared.Wait.{Wait}
use Rattle.frame.specs.declared.Wait.TheVariants as W
use Rattle.frame.specs.Machine.{fresh, id_from, Rest, asks, ended, stopped, ask, fits, room_for, begin, width, next_pair, next_item, next, settled, entered, headed, step_head, checked, opening, step_list, step_types, on_whole, stepped, ran, start}
use Rattle.frame.specs.State.{is_fields, Sound}
use Rattle.frame.proofs.Runs.{stepped_sound}

-- the outermost of l and those further out is a struct
abbrev pub Rooted : Nest → List Nest → Type 0
Rooted l [] = is_fields l ≡ true
Rooted l (m ∷ ls) = Rooted m ls

abbrev pub Based : List Nest → Type 0
Based [] = ⊥
Based (l ∷ ls) = Rooted l ls

abbrev pub Ground : Rest → Type 0
Ground (asks ls body w) = Based ls
Ground (ended body) = body ≡ 0
Ground (stopped why) = Unit {0}

-- a struct in the innermost's place
renames : (l : Nest) (ls : List Nest) (id : FieldId) → Rooted l ls → Rooted (Fields id) ls
renames l [] id r = refl
renames l (m ∷ ls) id r = r

no_struct : {A : Type 0} → false ≡ true → A
no_struct e = let z : ◌≡◌ {A = ℕ} 0 1 = cc in absurd (omega arith)

module _ (lim : TConfiguration) (left : ℕ) where
  either : (ok : Bool) (r s : Rest) → Ground r → Ground s → Ground (cond ok r s)
  either true r s a b = a
  either false r s a b = b

  ask_ground : (ls : List Nest) (body : ℕ) (w : Wait) → Based ls → Ground (ask left ls body w)
  ask_ground ls body w b = either (ltb body left) (asks ls body w) (stopped END) b tt

  fits_ground : (body n : ℕ) (on : ℕ → Rest) → ((m : ℕ) → Ground (on m)) → Ground (fits left body n on)
  fits_ground body n on g = either (leb n (left - body)) (on (body + n)) (stopped END) (g (body + n)) tt

  room_ground : (ls : List Nest) (r : Rest) → Ground r → Ground (room_for lim ls r)
  room_ground ls r g = either (ltb _ lim.depth) r (stopped DEPTH) g tt

  module _ (l : Nest) (ls : List Nest) (r : Rooted l ls) where
    begin_ground : (body : ℕ) (t : TType) (on : ℕ → Rest) → ((m : ℕ) → Ground (on m)) → Ground (begin lim left (l ∷ ls) body t on)
    begin_ground body T.Stop on g = tt
    begin_ground body T.Bool on g = ask_ground (l ∷ ls) body W.Truth r
    begin_ground body T.I08 on g = fits_ground body 1 on g
    begin_ground body T.I16 on g = ask_ground (l ∷ ls) body (W.Varint O.Short fresh) r
    begin_ground body T.I32 on g = ask_ground (l ∷ ls) body (W.Number 5) r
    begin_ground body T.I64 on g = ask_ground (l ∷ ls) body (W.Number 10) r
    begin_ground body T.Double on g = fits_ground body 8 on g
    begin_ground body T.String on g = ask_ground (l ∷ ls) body (W.Varint O.Length fresh) r
    begin_ground body T.List on g = room_ground (l ∷ ls) _ (ask_ground (l ∷ ls) body W.List r)
    begin_ground body T.Set on g = room_ground (l ∷ ls) _ (ask_ground (l ∷ ls) body W.List r)
    begin_ground body T.Map on g = room_ground (l ∷ ls) _ (ask_ground (l ∷ ls) body (W.Varint O.Pairs fresh) r)
    begin_ground body T.Struct on g = room_ground (l ∷ ls) _ (ask_ground (Fields (id_of (pos 0)) ∷ l ∷ ls) body W.Head r)
    begin_ground body T.Uuid on g = fits_ground body 16 on g

  module _ (l : Nest) (ls : List Nest) (r : Rooted l ls) (on : ℕ → Rest) (g : (m : ℕ) → Ground (on m)) where
    pair_ground : (k v : TType) (n body : ℕ) → Ground (next_pair lim left (l ∷ ls) k v n on body)
    pair_ground k v zero body = g body
    pair_ground k v (suc n) body =
        either (ltb 0 (width k)) _ _
        (either (ltb 0 (width v)) _ _ (fits_ground body _ on g) (fits_ground body (width k) (λ m. begin lim left (Keys k v n ∷ l ∷ ls) m v on) (λ m. begin_ground (Keys k v n) (l ∷ ls) r m v on g)))
        (begin_ground (Values k v n) (l ∷ ls) r body k on g)

    item_ground : (t : TType) (n body : ℕ) → Ground (next_item lim left (l ∷ ls) t n on body)
    item_ground t zero body = g body
    item_ground t (suc n) body = either (ltb 0 (width t)) _ _ (fits_ground body _ on g) (begin_ground (Items t n) (l ∷ ls) r body t on g)

    next_ground : (m : Nest) (body : ℕ) → Ground (next lim left (l ∷ ls) on m body)
    next_ground (Fields id) body = ask_ground (Fields id ∷ l ∷ ls) body W.Head r
    next_ground (Items t n) body = item_ground t n body
    next_ground (Keys k v n) body = pair_ground k v n body
    next_ground (Values k v n) body = begin_ground (Keys k v n) (l ∷ ls) r body v _ (pair_ground k v n)

  alone : (l : Nest) → is_fields l ≡ true → (body : ℕ) → Ground (settled lim left (l ∷ []) body)
  unfolding settled
  alone (Fields id) e body = ask_ground (Fields id ∷ []) body W.Head refl
  alone (Items t n) e body = no_struct e
  alone (Keys k v n) e body = no_struct e
  alone (Values k v n) e body = no_struct e

  settled_ground : (l : Nest) (ls : List Nest) → Rooted l ls → (body : ℕ) → Ground (settled lim left (l ∷ ls) body)
  unfolding settled
  settled_ground l [] r body = alone l r body
  settled_ground l (m ∷ ls) r body = next_ground m ls r (settled lim left (m ∷ ls)) (settled_ground m ls r) l body

  -- behind a struct that has ended
  ended_ground : (l : Nest) (ls : List Nest) → Rooted l ls → Ground (settled lim left ls 0)
  unfolding settled
  ended_ground l [] r = refl
  ended_ground l (m ∷ ls) r = settled_ground m ls r 0

  entered_ground : (l : Nest) (ls : List Nest) → Rooted l ls → (t : TType) → Ground (entered lim left (l ∷ ls) t)
  entered_ground l ls r t = begin_ground l ls r 0 t (settled lim left (l ∷ ls)) (settled_ground l ls r)

  module _ (l : Nest) (ls : List Nest) (r : Rooted l ls) where
    checked_ground : (n : ℕ) (x : Rest) → Ground x → Ground (checked lim n x)
    checked_ground n x g = either (leb n 2147483647) _ _ (either (leb n lim.container) _ _ g tt) tt

    opening_ground : (t : TType) (n : ℕ) → Ground (opening lim left (l ∷ ls) t n)
    opening_ground t n = checked_ground n _ (either (leb (n * least_size t) left) _ _ (either (startable t n) _ _ (settled_ground (Items t n) (l ∷ ls) r 0) tt) tt)

    headed_ground : (last : ℤ) (delta : ℕ) (w : Part → Wait) (on : ℤ → Rest) → ((id : ℤ) → Ground (on id)) → Ground (headed left (Fields (id_of last) ∷ ls) last delta w on)
    headed_ground last delta w on g = either (eqb delta 0) _ _ (ask_ground (Fields (id_of last) ∷ ls) 0 (w fresh) (renames l ls _ r)) (either (lt_z (pos 32767) (last +ℤ pos delta)) _ _ tt (g _))

    head_ground : (last : ℤ) (delta : ℕ) (x : FieldType) → Ground (step_head lim left ls last delta x)
    head_ground last delta F.Stop = ended_ground l ls r
    head_ground last delta (F.Truth b) = headed_ground last delta (W.Varint O.Flag) (λ id. settled lim left (Fields (id_of id) ∷ ls) 0) (λ id. settled_ground (Fields (id_of id)) ls (renames l ls _ r) 0)
    head_ground last delta (F.Kind t) = headed_ground last delta (W.Varint (O.Id t)) (λ id. entered lim left (Fields (id_of id) ∷ ls) t) (λ id. entered_ground (Fields (id_of id)) ls (renames l ls _ r) t)
    head_ground last delta (F.Refused why) = tt

    list_ground : (n : ℕ) (x : TypeRead) → Ground (step_list lim left (l ∷ ls) n x)
    list_ground n (R.Got t) = either (ltb n 15) _ _ (opening_ground t n) (ask_ground (l ∷ ls) 0 (W.Varint (O.Count t) fresh) r)
    list_ground n (R.Refused why) = tt

    types_ground : (n : ℕ) (x y : TypeRead) → Ground (step_types lim left (l ∷ ls) n x y)
    types_ground n (R.Got k) (R.Got v) = checked_ground n _ (either (leb (n * least_size k + n * least_size v) left) _ _ (either (startable k n) _ _ (either (startable v n) _ _ (settled_ground (Keys k v n) (l ∷ ls) r 0) tt) tt) tt)
    types_ground n (R.Got k) (R.Refused why) = tt
    types_ground n (R.Refused why) y = tt

    whole_ground : (g : Goal) (n : ℕ) → Ground (on_whole lim left (l ∷ ls) g n)
    whole_ground O.Flag n = either (in_range16 (id_from n)) _ _ (settled_ground (Fields _) ls (renames l ls _ r) 0) tt
    whole_ground (O.Id t) n = either (in_range16 (id_from n)) _ _ (entered_ground (Fields _) ls (renames l ls _ r) t) tt
    whole_ground (O.Count t) n = opening_ground t n
    whole_ground O.Pairs n = either (eqb n 0) _ _ (settled_ground l ls r 0) (ask_ground (l ∷ ls) 0 (W.Types n) r)
    whole_ground O.Length n = either (leb n lim.string) _ _ (fits_ground 0 n (settled lim left (l ∷ ls)) (settled_ground l ls r)) tt
    whole_ground O.Short n = either (in_range16 (id_from n)) _ _ (settled_ground l ls r 0) tt

  stepped_ground : (l : Nest) (ls : List Nest) → Rooted l ls → (w : Wait) (b : ℕ) → Ground (stepped lim left (l ∷ ls) w b)
  stepped_ground (Fields id) ls r W.Head b = head_ground (Fields id) ls r id.0 (b / 16) (field_type (b % 16))
  stepped_ground (Items t n) ls r W.Head b = tt
  stepped_ground (Keys k v n) ls r W.Head b = tt
  stepped_ground (Values k v n) ls r W.Head b = tt
  stepped_ground l ls r W.Truth b = either (ltb b 3) _ _ (settled_ground l ls r 0) tt
  stepped_ground l ls r W.List b = list_ground l ls r (b / 16) (element_type (b % 16))
  stepped_ground l ls r (W.Types n) b = types_ground l ls r n (element_type (b / 16)) (element_type (b % 16))
  stepped_ground l ls r (W.Varint g p) b = either (ltb b 128) _ _ (whole_ground l ls r g _) (either (ltb p.groups 4) _ _ (ask_ground (l ∷ ls) 0 _ r) tt)
  stepped_ground l ls r (W.Number k) b = either (ltb b 128) _ _ (settled_ground l ls r 0) (either (ltb 1 k) _ _ (ask_ground (l ∷ ls) 0 (W.Number (k - 1)) r) tt)

  pub start_ground : Ground (start lim left)
  start_ground = room_ground [] _ (ask_ground (Fields (id_of (pos 0)) ∷ []) 0 W.Head refl)

module _ (lim : TConfiguration) where
  based_step : (ls : List Nest) → Based ls → (left : ℕ) (w : Wait) (b : ℕ) → Ground (stepped lim left ls w b)
  based_step [] r left w b = absurd r
  based_step (l ∷ ls) r left w b = stepped_ground lim left l ls r w b

  pub ran_ground : (bs : List ℕ) (left taken : ℕ) (r : Rest) → Ground r → Ground (ran lim left taken r bs).rest
  unfolding ran
  ran_ground [] left taken r g = g
  ran_ground (b ∷ bs) left taken (asks ls zero w) g = ran_ground bs (left - 1) (taken + 1) (stepped lim (left - 1) ls w b) (based_step ls g (left - 1) w b)
  ran_ground (b ∷ bs) left taken (asks ls (suc body) w) g = ran_ground bs (left - 1) (taken + 1) (asks ls body w) g
  ran_ground (b ∷ bs) left taken (ended body) g = g
  ran_ground (b ∷ bs) left taken (stopped why) g = g

  -- what is taken is no longer left
  pub ran_sum : (bs : List ℕ) (left taken : ℕ) (r : Rest) → Sound left r → (ran lim left taken r bs).taken + (ran lim left taken r bs).left ≡ taken + left
  unfolding ran Sound
  ran_sum [] left taken r s = refl
  ran_sum (b ∷ bs) left taken (asks ls zero w) s = let e : taken + 1 + (left - 1) ≡ taken + left = omega arith in ran_sum bs (left - 1) (taken + 1) (stepped lim (left - 1) ls w b) (stepped_sound (left - 1) lim ls w b) ∙ e
  ran_sum (b ∷ bs) left taken (asks ls (suc body) w) s = let e : taken + 1 + (left - 1) ≡ taken + left = omega arith in ran_sum bs (left - 1) (taken + 1) (asks ls body w) (omega arith, s.1) ∙ e
  ran_sum (b ∷ bs) left taken (ended body) s = refl
  ran_sum (b ∷ bs) left taken (stopped why) s = refl
