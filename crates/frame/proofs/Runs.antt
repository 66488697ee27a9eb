-- The machine's runs: its rests stay sound, and it tells what the frame tells, however the bytes are cut. Assumes nothing.
use mathlib.Core.Path.{◌≡◌, refl, sym, ap, ap₂, ◌∙◌}
use mathlib.Core.Bool.{Bool, true, false, cond}
use mathlib.Core.List.{List, [], ◌∷◌, ◌++◌}
use Prim.Native.Nat.{ℕ, zero, suc, ◌+◌, ◌-◌, ◌*◌, ◌/◌, ◌%◌, ◌^◌, ◌≤◌, ◌<◌}
use native.Mathlib.Omega.{arith}
use native.Mathlib.Decide.{dec_le, dec_lt}
use borrow.Author.Tests.{lt-ltb, le-ltb, le-leb, lt-leb}
use lib.Dec.{leb, ltb, eqb}
use lib.IntN.{ℤ, pos, ◌+ℤ◌}
use lib.Signed.{lt_z}
use lib.ListN.{length, get_or, drop}
use lib.Seq.{drop-nil}
use Rattle.types.specs.Refusals.{END, BAD_TYPE, LONG_VARINT, SIZE_LIMIT}
use Rattle.types.specs.Codes.{numbered, type_by_number, as_field, element_type, field_type}
use Rattle.types.specs.declared.TType.{TType}
use Rattle.types.specs.declared.TType.TheVariants as T
use Rattle.types.specs.declared.TypeRead.{TypeRead}
use Rattle.types.specs.declared.TypeRead.TheVariants as R
use Rattle.types.specs.declared.FieldType.{FieldType}
use Rattle.types.specs.declared.FieldType.TheVariants as F
use Rattle.types.specs.declared.TConfiguration.{TConfiguration}
use Rattle.zigzag.specs.Zigzag.{in_range16}
use Rattle.heads.specs.Heads.{least_size}
use Rattle.heads.specs.Answers.{id_of}
use Rattle.skip.specs.Value.{startable}
use Rattle.frame.specs.declared.Nest.{Nest}
use Rattle.frame.specs.declared.Nest.TheVariants.{Fields, Items, Keys, Values}
use Rattle.frame.specs.declared.Part.{Part}
use Rattle.frame.specs.declared.Goal.{Goal}
use Rattle.frame.specs.declared.Goal.TheVariants as O
use Rattle.frame.specs.declared.Wait.{Wait}
use Rattle.frame.specs.declared.Wait.TheVariants as W
use Rattle.frame.specs.Ask.{Ask, got, passing, Told, ends, behind, told}
use Rattle.frame.specs.Plans.{Passed, skip_plan}
use Rattle.frame.specs.Frame.{cut_of, missed, frame}
use Rattle.frame.specs.Machine.{fresh, renamed, id_from, waiting, Rest, asks, ended, stopped, meaning, ask, fits, begin, width, next_pair, next_item, next, settled, entered, step_head, checked, opening, step_list, step_types, step_part, enough, inside, on_whole, stepped, ran, tells, start, Fit}
use Rattle.frame.specs.State.{is_refusal, Sound}
use Rattle.frame.proofs.Asks.{behind_zero, behind_behind, told_passing}
use Rattle.frame.proofs.Steps.{stepped_means, whole_told}

-- the numbers of types that there are not
abbrev TypeWell : TypeRead → Type 0
TypeWell (R.Got t) = Unit {0}
TypeWell (R.Refused why) = is_refusal why ≡ true

abbrev FieldWell : FieldType → Type 0
FieldWell F.Stop = Unit {0}
FieldWell (F.Truth b) = Unit {0}
FieldWell (F.Kind t) = Unit {0}
FieldWell (F.Refused why) = is_refusal why ≡ true

abbrev AllWell : List TypeRead → Type 0
AllWell [] = Unit {0}
AllWell (x ∷ xs) = TypeWell x × AllWell xs

no_type : TypeWell (R.Refused BAD_TYPE)
no_type = refl

end_well : is_refusal END ≡ true
end_well = refl

among : (l : List TypeRead) → AllWell l → (n : ℕ) → TypeWell (get_or l n (R.Refused BAD_TYPE))
among [] a n = no_type
among (x ∷ xs) a zero = a.0
among (x ∷ xs) a (suc n) = among xs a.1 n

number_well : (n : ℕ) → TypeWell (type_by_number n)
unfolding type_by_number
number_well n = among numbered (tt, (tt, (no_type, (tt, (tt, (tt, (tt, (tt, (tt, (tt, (tt, (tt, (tt, (tt, tt)))))))))))))) n

element_well : (n : ℕ) → TypeWell (element_type n)
unfolding element_type
element_well n = go (eqb n 2)
  where
    go : (b : Bool) → TypeWell (cond b (R.Got T.Bool) (type_by_number n))
    go true = tt
    go false = number_well n

as_field_lem : (x : TypeRead) → TypeWell x → FieldWell (as_field x)
as_field_lem (R.Got t) h = tt
as_field_lem (R.Refused why) h = h

field_well : (n : ℕ) → FieldWell (field_type n)
unfolding field_type
field_well n = go (eqb n 0) (eqb n 1) (eqb n 2)
  where
    go : (a b c : Bool) → FieldWell (cond a F.Stop (cond b (F.Truth true) (cond c (F.Truth false) (as_field (type_by_number n)))))
    go true b c = tt
    go false true c = tt
    go false false true = tt
    go false false false = as_field_lem (type_by_number n) (number_well n)

module _ (left : ℕ) where
  quiet : (why : ℕ) → is_refusal why ≡ true → Sound left (stopped why)
  unfolding Sound
  quiet why e = e

  either : (ok : Bool) (r s : Rest) → Sound left r → Sound left s → Sound left (cond ok r s)
  either true r s a b = a
  either false r s a b = b

  ask_sound : (ls : List Nest) (body : ℕ) (w : Wait) → Fit ls w → Sound left (ask left ls body w)
  unfolding Sound
  ask_sound ls body w f = go (dec_lt body left)
    where
      go : Dec (body < left) → Sound left (ask left ls body w)
      go (yes h) = rw (lt-ltb body left h) (h, f)
      go (no h) = rw (le-ltb body left (omega arith)) end_well

  fits_sound : (body n : ℕ) (on : ℕ → Rest) → body ≤ left → ((m : ℕ) → m ≤ left → Sound left (on m)) → Sound left (fits left body n on)
  fits_sound body n on h s = go (dec_le n (left - body))
    where
      go : Dec (n ≤ left - body) → Sound left (fits left body n on)
      go (yes g) = rw (le-leb n (left - body) g) (s (body + n) (omega arith))
      go (no g) = rw (lt-leb n (left - body) (omega arith)) (quiet END refl)

  module _ (lim : TConfiguration) where
    begin_sound : (ls : List Nest) (body : ℕ) (t : TType) (on : ℕ → Rest) → body ≤ left → ((m : ℕ) → m ≤ left → Sound left (on m)) → Sound left (begin lim left ls body t on)
    begin_sound ls body T.Stop on h s = quiet _ refl
    begin_sound ls body T.Bool on h s = ask_sound ls body W.Truth tt
    begin_sound ls body T.I08 on h s = fits_sound body 1 on h s
    begin_sound ls body T.I16 on h s = ask_sound ls body (W.Varint O.Short fresh) (omega arith)
    begin_sound ls body T.I32 on h s = ask_sound ls body (W.Number 5) (omega arith)
    begin_sound ls body T.I64 on h s = ask_sound ls body (W.Number 10) (omega arith)
    begin_sound ls body T.Double on h s = fits_sound body 8 on h s
    begin_sound ls body T.String on h s = ask_sound ls body (W.Varint O.Length fresh) (omega arith)
    begin_sound ls body T.List on h s = either (ltb (length ls) lim.depth) _ _ (ask_sound ls body W.List tt) (quiet _ refl)
    begin_sound ls body T.Set on h s = either (ltb (length ls) lim.depth) _ _ (ask_sound ls body W.List tt) (quiet _ refl)
    begin_sound ls body T.Map on h s = either (ltb (length ls) lim.depth) _ _ (ask_sound ls body (W.Varint O.Pairs fresh) (omega arith)) (quiet _ refl)
    begin_sound ls body T.Struct on h s = either (ltb (length ls) lim.depth) _ _ (ask_sound (Fields (id_of (pos 0)) ∷ ls) body W.Head tt) (quiet _ refl)
    begin_sound ls body T.Uuid on h s = fits_sound body 16 on h s

    pair_sound : (ls : List Nest) (k v : TType) (n : ℕ) (on : ℕ → Rest) → ((m : ℕ) → m ≤ left → Sound left (on m)) → (body : ℕ) → body ≤ left → Sound left (next_pair lim left ls k v n on body)
    pair_sound ls k v zero on s body h = s body h
    pair_sound ls k v (suc n) on s body h =
        either (ltb 0 (width k)) _ _
        (either (ltb 0 (width v)) _ _ (fits_sound body _ on h s) (fits_sound body (width k) (λ m. begin lim left (Keys k v n ∷ ls) m v on) h (λ m g. begin_sound (Keys k v n ∷ ls) m v on g s)))
        (begin_sound (Values k v n ∷ ls) body k on h s)

    item_sound : (ls : List Nest) (t : TType) (n : ℕ) (on : ℕ → Rest) → ((m : ℕ) → m ≤ left → Sound left (on m)) → (body : ℕ) → body ≤ left → Sound left (next_item lim left ls t n on body)
    item_sound ls t zero on s body h = s body h
    item_sound ls t (suc n) on s body h = either (ltb 0 (width t)) _ _ (fits_sound body _ on h s) (begin_sound (Items t n ∷ ls) body t on h s)

    next_sound : (ls : List Nest) (l : Nest) (on : ℕ → Rest) → ((m : ℕ) → m ≤ left → Sound left (on m)) → (body : ℕ) → body ≤ left → Sound left (next lim left ls on l body)
    next_sound ls (Fields id) on s body h = ask_sound (Fields id ∷ ls) body W.Head tt
    next_sound ls (Items t n) on s body h = item_sound ls t n on s body h
    next_sound ls (Keys k v n) on s body h = pair_sound ls k v n on s body h
    next_sound ls (Values k v n) on s body h = begin_sound (Keys k v n ∷ ls) body v _ h (pair_sound ls k v n on s)

    pub settled_sound : (ls : List Nest) (body : ℕ) → body ≤ left → Sound left (settled lim left ls body)
    unfolding settled Sound
    settled_sound [] body h = h
    settled_sound (l ∷ ls) body h = next_sound ls l (settled lim left ls) (settled_sound ls) body h

    entered_sound : (ls : List Nest) (t : TType) → Sound left (entered lim left ls t)
    entered_sound ls t = begin_sound ls 0 t (settled lim left ls) (omega arith) (settled_sound ls)

    checked_sound : (n : ℕ) (r : Rest) → Sound left r → Sound left (checked lim n r)
    checked_sound n r s = either (leb n 2147483647) _ _ (either (leb n lim.container) _ _ s (quiet _ refl)) (quiet _ refl)

    enough_sound : (n : ℕ) (r : Rest) → Sound left r → Sound left (enough left n r)
    enough_sound n r s = either (leb n left) _ _ s (quiet _ refl)

    inside_sound : (on : ℤ → Rest) (n : ℕ) → ((id : ℤ) → Sound left (on id)) → Sound left (inside on n)
    inside_sound on n s = either (in_range16 (id_from n)) _ _ (s (id_from n)) (quiet _ refl)

    opening_sound : (ls : List Nest) (t : TType) (n : ℕ) → Sound left (opening lim left ls t n)
    opening_sound ls t n = checked_sound n _ (enough_sound (n * least_size t) _ (either (startable t n) _ _ (settled_sound (Items t n ∷ ls) 0 (omega arith)) (quiet _ refl)))

    head_sound : (ls : List Nest) (last : ℤ) (delta : ℕ) (x : FieldType) → FieldWell x → Sound left (step_head lim left ls last delta x)
    head_sound ls last delta F.Stop w = settled_sound ls 0 (omega arith)
    head_sound ls last delta (F.Truth b) w =
        either (eqb delta 0) _ _ (ask_sound (Fields (id_of last) ∷ ls) 0 (W.Varint O.Flag fresh) (omega arith)) (either (lt_z (pos 32767) (last +ℤ pos delta)) _ _ (quiet _ refl) (settled_sound (Fields (id_of (last +ℤ pos delta)) ∷ ls) 0 (omega arith)))
    head_sound ls last delta (F.Kind t) w =
        either (eqb delta 0) _ _ (ask_sound (Fields (id_of last) ∷ ls) 0 (W.Varint (O.Id t) fresh) (omega arith)) (either (lt_z (pos 32767) (last +ℤ pos delta)) _ _ (quiet _ refl) (entered_sound (Fields (id_of (last +ℤ pos delta)) ∷ ls) t))
    head_sound ls last delta (F.Refused why) w = quiet why w

    list_sound : (ls : List Nest) (n : ℕ) (x : TypeRead) → TypeWell x → Sound left (step_list lim left ls n x)
    list_sound ls n (R.Got t) w = either (ltb n 15) _ _ (opening_sound ls t n) (ask_sound ls 0 (W.Varint (O.Count t) fresh) (omega arith))
    list_sound ls n (R.Refused why) w = quiet why w

    types_sound : (ls : List Nest) (n : ℕ) (x y : TypeRead) → TypeWell x → TypeWell y → Sound left (step_types lim left ls n x y)
    types_sound ls n (R.Got k) (R.Got v) h g = checked_sound n _ (enough_sound (n * least_size k + n * least_size v) _ (either (startable k n) _ _ (either (startable v n) _ _ (settled_sound (Keys k v n ∷ ls) 0 (omega arith)) (quiet _ refl)) (quiet _ refl)))
    types_sound ls n (R.Got k) (R.Refused why) h g = quiet why g
    types_sound ls n (R.Refused why) y h g = quiet why h

    part_sound : (ls : List Nest) (p : Part) (w : Part → Wait) (on : ℕ → Rest) (b : ℕ) → ((q : Part) → q.groups ≤ 4 → Fit ls (w q)) → ((n : ℕ) → Sound left (on n)) → Sound left (step_part left ls p w on b)
    part_sound ls p w on b f s = either (ltb b 128) _ _ (s _) (go (dec_lt p.groups 4))
      where
        q : Part
        q = record { groups = p.groups + 1; low = (p.low + 128 ^ p.groups * (b % 128)) % 2 ^ 32 }

        go : Dec (p.groups < 4) → Sound left (cond (ltb p.groups 4) (ask left ls 0 (w q)) (stopped LONG_VARINT))
        go (yes h) = rw (lt-ltb p.groups 4 h) (ask_sound ls 0 (w q) (f q (omega arith)))
        go (no h) = rw (le-ltb p.groups 4 (omega arith)) (quiet _ refl)

    number_sound : (ls : List Nest) (k : ℕ) → Sound left (cond (ltb 1 k) (ask left ls 0 (W.Number (k - 1))) (stopped LONG_VARINT))
    number_sound ls k = go (dec_lt 1 k)
      where
        go : Dec (1 < k) → Sound left (cond (ltb 1 k) (ask left ls 0 (W.Number (k - 1))) (stopped LONG_VARINT))
        go (yes h) = rw (lt-ltb 1 k h) (ask_sound ls 0 (W.Number (k - 1)) (omega arith))
        go (no h) = rw (le-ltb 1 k (omega arith)) (quiet _ refl)

    whole_sound : (ls : List Nest) (g : Goal) (n : ℕ) → Sound left (on_whole lim left ls g n)
    whole_sound ls O.Flag n = inside_sound (λ id. settled lim left (renamed id ls) 0) n (λ id. settled_sound (renamed id ls) 0 (omega arith))
    whole_sound ls (O.Id t) n = inside_sound (λ id. entered lim left (renamed id ls) t) n (λ id. entered_sound (renamed id ls) t)
    whole_sound ls (O.Count t) n = opening_sound ls t n
    whole_sound ls O.Pairs n = either (eqb n 0) _ _ (settled_sound ls 0 (omega arith)) (ask_sound ls 0 (W.Types n) tt)
    whole_sound ls O.Length n = either (leb n lim.string) _ _ (fits_sound 0 n (settled lim left ls) (omega arith) (settled_sound ls)) (quiet SIZE_LIMIT refl)
    whole_sound ls O.Short n = inside_sound (λ z. settled lim left ls 0) n (λ z. settled_sound ls 0 (omega arith))

    pub stepped_sound : (ls : List Nest) (w : Wait) (b : ℕ) → Sound left (stepped lim left ls w b)
    stepped_sound [] W.Head b = quiet _ refl
    stepped_sound (Fields id ∷ ls) W.Head b = head_sound ls id.0 (b / 16) (field_type (b % 16)) (field_well (b % 16))
    stepped_sound (Items t n ∷ ls) W.Head b = quiet _ refl
    stepped_sound (Keys k v n ∷ ls) W.Head b = quiet _ refl
    stepped_sound (Values k v n ∷ ls) W.Head b = quiet _ refl
    stepped_sound ls W.Truth b = either (ltb b 3) _ _ (settled_sound ls 0 (omega arith)) (quiet _ refl)
    stepped_sound ls W.List b = list_sound ls (b / 16) (element_type (b % 16)) (element_well (b % 16))
    stepped_sound ls (W.Types n) b = types_sound ls n (element_type (b / 16)) (element_type (b % 16)) (element_well (b / 16)) (element_well (b % 16))
    stepped_sound ls (W.Varint g p) b = part_sound ls p (W.Varint g) (on_whole lim left ls g) b (λ q h. h) (whole_sound ls g)
    stepped_sound ls (W.Number k) b = either (ltb b 128) _ _ (settled_sound ls 0 (omega arith)) (number_sound ls k)

    pub start_sound : Sound left (start lim left)
    start_sound = begin_sound [] 0 T.Struct _ (omega arith) (settled_sound [])

-- what the machine tells
module _ (lim : TConfiguration) where
  pub ran_tells : (bs : List ℕ) (left taken : ℕ) (r : Rest) → Sound left r → behind taken (told (meaning lim left r) bs) ≡ tells (ran lim left taken r bs).taken (ran lim left taken r bs).rest
  unfolding told Sound ran
  ran_tells [] left taken (asks ls body w) s =
      let e : left - body ≡ suc (left - body - 1) = omega arith in
      ap (behind taken)
      (told_passing body (waiting lim ls w (left - body)) []
      ∙ ap₂ (λ (l : ℕ) (cs : List ℕ). behind body (told (waiting lim ls w l) cs)) e (drop-nil body)
      ∙ ap (λ (q : Ask Passed). behind body (told q [])) (stepped_means lim (left - body - 1) ls w s.1))
  ran_tells [] left taken (ended body) s = ap (behind taken) (told_passing body (got tt) []) ∙ ap (ends tt) (omega arith)
  ran_tells [] left taken (stopped why) s = refl
  ran_tells (b ∷ bs) left taken (ended body) s = ap (behind taken) (told_passing body (got tt) (b ∷ bs)) ∙ ap (ends tt) (omega arith)
  ran_tells (b ∷ bs) left taken (stopped why) s = refl
  ran_tells (b ∷ bs) left taken (asks ls zero w) s =
      let e : left - 0 ≡ suc (left - 1) = omega arith in
      ap (λ (l : ℕ). behind taken (told (waiting lim ls w l) (b ∷ bs))) e
      ∙ ap (λ (q : Ask Passed). behind taken (told q (b ∷ bs))) (stepped_means lim (left - 1) ls w s.1)
      ∙ behind_behind taken 1 (told (meaning lim (left - 1) (stepped lim (left - 1) ls w b)) bs)
      ∙ ran_tells bs (left - 1) (taken + 1) (stepped lim (left - 1) ls w b) (stepped_sound (left - 1) lim ls w b)
  ran_tells (b ∷ bs) left taken (asks ls (suc body) w) s =
      let e : left - suc body ≡ left - 1 - body = omega arith in
      ap (λ (l : ℕ). behind taken (told (passing (suc body) (waiting lim ls w l)) (b ∷ bs))) e
      ∙ ap (behind taken) (told_passing (suc body) (waiting lim ls w (left - 1 - body)) (b ∷ bs) ∙ one body (told (waiting lim ls w (left - 1 - body)) (drop body bs)) ∙ sym (ap (behind 1) (told_passing body (waiting lim ls w (left - 1 - body)) bs)))
      ∙ behind_behind taken 1 (told (meaning lim (left - 1) (asks ls body w)) bs)
      ∙ ran_tells bs (left - 1) (taken + 1) (asks ls body w) (omega arith, s.1)
    where
      one : (n : ℕ) (x : Told Passed) → behind (suc n) x ≡ behind 1 (behind n x)
      one n x = let e : suc n ≡ 1 + n = omega arith in ap (λ (i : ℕ). behind i x) e ∙ sym (behind_behind 1 n x)

  -- bursts, one after the other, run as their bytes do in one
  pub ran_cut : (bs cs : List ℕ) (left taken : ℕ) (r : Rest) → ran lim left taken r (bs ++ cs) ≡ ran lim (ran lim left taken r bs).left (ran lim left taken r bs).taken (ran lim left taken r bs).rest cs
  unfolding ran
  ran_cut [] cs left taken r = refl
  ran_cut (b ∷ bs) cs left taken (asks ls zero w) = ran_cut bs cs (left - 1) (taken + 1) (stepped lim (left - 1) ls w b)
  ran_cut (b ∷ bs) cs left taken (asks ls (suc body) w) = ran_cut bs cs (left - 1) (taken + 1) (asks ls body w)
  ran_cut (b ∷ bs) [] left taken (ended body) = refl
  ran_cut (b ∷ bs) (c ∷ cs) left taken (ended body) = refl
  ran_cut (b ∷ bs) [] left taken (stopped why) = refl
  ran_cut (b ∷ bs) (c ∷ cs) left taken (stopped why) = refl

  -- what the machine tells of a struct, so many bytes of it at hand
  pub machine_tells : (cut : ℕ) (bs : List ℕ) → told (skip_plan lim lim.depth T.Struct cut) bs ≡ tells (ran lim cut 0 (start lim cut) bs).taken (ran lim cut 0 (start lim cut) bs).rest
  machine_tells cut bs =
      whole_told lim cut bs
      ∙ sym (behind_zero (told (meaning lim cut (start lim cut)) bs))
      ∙ ran_tells bs cut 0 (start lim cut) (begin_sound cut lim [] 0 T.Struct _ (omega arith) (settled_sound cut lim []))

  -- from its start the machine tells what the frame tells
  pub machine_frame : (announced : ℕ) (bs : List ℕ)
      → frame lim announced bs ≡ missed (ltb lim.message announced) (tells (ran lim (cut_of lim announced) 0 (start lim (cut_of lim announced)) bs).taken (ran lim (cut_of lim announced) 0 (start lim (cut_of lim announced)) bs).rest)
  unfolding frame
  machine_frame announced bs = ap (missed (ltb lim.message announced)) (machine_tells (cut_of lim announced) bs)
