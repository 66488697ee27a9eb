-- The machine: open containers, bytes to pass over, and what the next byte looked at says; its steps; and what each of its rests still asks.
-- Assumes nothing: these are definitions.
use Rattle.std.specs.Prelude.{ℕ, zero, suc, ◌+◌, ◌-◌, ◌*◌, ◌/◌, ◌%◌, ◌^◌, ◌≤◌, cond, List, [], ◌∷◌, length, eqb, leb, ltb, ℤ, pos, ◌+ℤ◌}
use Rattle.std.specs.Int.Signed.{lt_z}
use Rattle.types.specs.Refusals.{END, BAD_TYPE, BAD_BOOL, FIELD_ID, LONG_VARINT, SIZE_LIMIT, NEGATIVE_SIZE, DEPTH, RANGE}
use Rattle.types.specs.Codes.{element_type, field_type}
use Rattle.types.specs.declared.TType.{TType}
use Rattle.types.specs.declared.TType.TheVariants as T
use Rattle.types.specs.declared.TypeRead.{TypeRead}
use Rattle.types.specs.declared.TypeRead.TheVariants as R
use Rattle.types.specs.declared.FieldType.{FieldType}
use Rattle.types.specs.declared.FieldType.TheVariants as F
use Rattle.types.specs.declared.TConfiguration.{TConfiguration}
use Rattle.zigzag.specs.Zigzag.{unzigzag, in_range16}
use Rattle.heads.specs.Heads.{least_size}
use Rattle.heads.specs.Answers.{id_of}
use Rattle.skip.specs.Value.{startable}
use Rattle.frame.specs.declared.Nest.{Nest}
use Rattle.frame.specs.declared.Nest.TheVariants.{Fields, Items, Keys, Values}
use Rattle.frame.specs.declared.Part.{Part}
use Rattle.frame.specs.declared.Goal.{Goal}
use Rattle.frame.specs.declared.Goal.TheVariants as O
use Rattle.frame.specs.declared.Wait.{Wait}
use Rattle.frame.specs.declared.Wait.TheVariants as W
use Rattle.frame.specs.Ask.{Ask, got, refused, passing, Plan, done, and_then, provided, some, ahead, Told, ends, refuses, waits}
use Rattle.frame.specs.Plans.{groups, number, truth, listed, items, mapped, Passed, many, many_pairs, fields, skip_plan}

-- WHAT A REST MEANS

-- what an open container still asks, its elements passed over by `inner`
abbrev pub level : (TType → Plan Passed) → Nest → Plan Passed
level inner (Fields id) = fields inner id.0
level inner (Items t n) = many (inner t) n
level inner (Keys k v n) = many_pairs (inner k) (inner v) n
level inner (Values k v n) = and_then (inner v) (λ u. many_pairs (inner k) (inner v) n)

-- a value of a type among so many open containers
abbrev pub within : TConfiguration → List Nest → TType → Plan Passed
within lim ls = skip_plan lim (lim.depth - length ls)

-- all that is open, the innermost first
unfoldable pub back : TConfiguration → List Nest → Plan Passed
back lim [] = done tt
back lim (l ∷ ls) = and_then (level (within lim (l ∷ ls)) l) (λ u. back lim ls)

-- a value, and then all that is open
unfoldable pub valued : TConfiguration → List Nest → TType → Plan Passed
valued lim ls t = and_then (within lim ls t) (λ u. back lim ls)

-- the rest of a number of 32 bits
unfoldable pub partly : Part → Plan ℕ
partly p = and_then (groups (5 - p.groups)) (λ v. done ((p.low + 128 ^ p.groups * v) % 2 ^ 32))

abbrev pub fresh : Part
fresh = record { groups = 0; low = 0 }

-- the innermost struct goes on behind another id
abbrev pub renamed : ℤ → List Nest → List Nest
renamed id [] = []
renamed id (l ∷ ls) = Fields (id_of id) ∷ ls

-- the id that a number says
abbrev pub id_from : ℕ → ℤ
id_from n = unzigzag n

-- an i16 that a number says, where it is one
abbrev pub ranged : (ℤ → Plan Passed) → ℕ → Plan Passed
ranged k n = provided (in_range16 (id_from n)) RANGE (k (id_from n))

-- a list or set is opened, and a map: where its elements can be there, and can begin
unfoldable pub opened : TConfiguration → List Nest → (TType × ℕ) → Plan Passed
opened lim ls h =
    and_then (ahead (h.1 * least_size h.0) h) (λ h. provided (startable h.0 h.1) BAD_TYPE (back lim (Items h.0 h.1 ∷ ls)))

unfoldable pub opened_map : TConfiguration → List Nest → (TType × TType × ℕ) → Plan Passed
opened_map lim ls h =
    and_then (ahead (h.2 * least_size h.0 + h.2 * least_size h.1) h)
    (λ h. provided (startable h.0 h.2) BAD_TYPE (provided (startable h.1 h.2) BAD_TYPE (back lim (Keys h.0 h.1 h.2 ∷ ls))))

-- what is asked behind a number, by what it is for
abbrev pub reached : TConfiguration → List Nest → Goal → ℕ → Plan Passed
reached lim ls O.Flag = ranged (λ id. back lim (renamed id ls))
reached lim ls (O.Id t) = ranged (λ id. valued lim (renamed id ls) t)
reached lim ls (O.Count t) = λ n. and_then (listed lim t n) (opened lim ls)
reached lim ls O.Pairs = λ n. cond (eqb n 0) (opened_map lim ls (T.Stop, T.Stop, 0)) (and_then (mapped lim n) (opened_map lim ls))
reached lim ls O.Length = λ n. provided (leb n lim.string) SIZE_LIMIT (and_then (some n) (λ u. back lim ls))
reached lim ls O.Short = ranged (λ z. back lim ls)

-- what is asked from a byte on
abbrev pub waiting : TConfiguration → List Nest → Wait → Plan Passed
waiting lim ls W.Head = back lim ls
waiting lim ls W.Truth = and_then truth (λ u. back lim ls)
waiting lim ls W.List = and_then (items lim) (opened lim ls)
waiting lim ls (W.Types n) = and_then (mapped lim n) (opened_map lim ls)
waiting lim ls (W.Varint g p) = and_then (partly p) (reached lim ls g)
waiting lim ls (W.Number k) = and_then (number k) (λ u. back lim ls)

-- a rest of the machine: bytes to pass over, then a byte to look at; the struct's end; a refusal
pub data Rest : Type 0 where
  asks : List Nest → ℕ → Wait → Rest
  ended : ℕ → Rest
  stopped : ℕ → Rest

-- what it asks of the bytes left
abbrev pub meaning : TConfiguration → ℕ → Rest → Ask Passed
meaning lim left (asks ls body w) = passing body (waiting lim ls w (left - body))
meaning lim left (ended body) = passing body (got tt)
meaning lim left (stopped why) = refused why

-- ITS STEPS

-- a byte is to be looked at: END at once where none is left
abbrev pub ask : ℕ → List Nest → ℕ → Wait → Rest
ask left ls body w = cond (ltb body left) (asks ls body w) (stopped END)

-- n more bytes to pass over: END at once where the frame has fewer
abbrev pub fits : ℕ → ℕ → ℕ → (ℕ → Rest) → Rest
fits left body n on = cond (leb n (left - body)) (on (body + n)) (stopped END)

-- room for one more container
abbrev pub room_for : TConfiguration → List Nest → Rest → Rest
room_for lim ls r = cond (ltb (length ls) lim.depth) r (stopped DEPTH)

-- the elements' bytes can be there
abbrev pub enough : ℕ → ℕ → Rest → Rest
enough left n r = cond (leb n left) r (stopped END)

-- an i16 that a number says
abbrev pub inside : (ℤ → Rest) → ℕ → Rest
inside on n = cond (in_range16 (id_from n)) (on (id_from n)) (stopped RANGE)

-- a value of a type begins; what it takes of bytes that nobody looks at, `on` goes on behind
abbrev pub begin : TConfiguration → ℕ → List Nest → ℕ → TType → (ℕ → Rest) → Rest
begin lim left ls body T.Stop on = stopped BAD_TYPE
begin lim left ls body T.Bool on = ask left ls body W.Truth
begin lim left ls body T.I08 on = fits left body 1 on
begin lim left ls body T.I16 on = ask left ls body (W.Varint O.Short fresh)
begin lim left ls body T.I32 on = ask left ls body (W.Number 5)
begin lim left ls body T.I64 on = ask left ls body (W.Number 10)
begin lim left ls body T.Double on = fits left body 8 on
begin lim left ls body T.String on = ask left ls body (W.Varint O.Length fresh)
begin lim left ls body T.List on = room_for lim ls (ask left ls body W.List)
begin lim left ls body T.Set on = room_for lim ls (ask left ls body W.List)
begin lim left ls body T.Map on = room_for lim ls (ask left ls body (W.Varint O.Pairs fresh))
begin lim left ls body T.Struct on = room_for lim ls (ask left (Fields (id_of (pos 0)) ∷ ls) body W.Head)
begin lim left ls body T.Uuid on = fits left body 16 on

-- the bytes of a value that nobody looks at, if it is such a one
abbrev pub width : TType → ℕ
width T.Stop = 0
width T.Bool = 0
width T.I08 = 1
width T.I16 = 0
width T.I32 = 0
width T.I64 = 0
width T.Double = 8
width T.String = 0
width T.List = 0
width T.Set = 0
width T.Map = 0
width T.Struct = 0
width T.Uuid = 16

-- the next of a map's pairs, and a pair's value
abbrev pub next_pair : TConfiguration → ℕ → List Nest → TType → TType → ℕ → (ℕ → Rest) → ℕ → Rest
next_pair lim left ls k v zero on body = on body
next_pair lim left ls k v (suc n) on body =
    cond (ltb 0 (width k))
    (cond (ltb 0 (width v)) (fits left body (suc n * (width k + width v)) on) (fits left body (width k) (λ m. begin lim left (Keys k v n ∷ ls) m v on)))
    (begin lim left (Values k v n ∷ ls) body k on)

abbrev pub next_value : TConfiguration → ℕ → List Nest → TType → TType → ℕ → (ℕ → Rest) → ℕ → Rest
next_value lim left ls k v n on body = begin lim left (Keys k v n ∷ ls) body v (next_pair lim left ls k v n on)

-- the next of a list's elements: those that nobody looks at all at once
abbrev pub next_item : TConfiguration → ℕ → List Nest → TType → ℕ → (ℕ → Rest) → ℕ → Rest
next_item lim left ls t zero on body = on body
next_item lim left ls t (suc n) on body = cond (ltb 0 (width t)) (fits left body (suc n * width t) on) (begin lim left (Items t n ∷ ls) body t on)

abbrev pub next : TConfiguration → ℕ → List Nest → (ℕ → Rest) → Nest → ℕ → Rest
next lim left ls on (Fields id) body = ask left (Fields id ∷ ls) body W.Head
next lim left ls on (Items t n) body = next_item lim left ls t n on body
next lim left ls on (Keys k v n) body = next_pair lim left ls k v n on body
next lim left ls on (Values k v n) body = next_value lim left ls k v n on body

-- on with what is open, up to the next byte that is looked at
unfoldable pub settled : TConfiguration → ℕ → List Nest → ℕ → Rest
settled lim left [] body = ended body
settled lim left (l ∷ ls) body = next lim left ls (settled lim left ls) l body

-- a field's value begins, or a bool field is over with its header
abbrev pub entered : TConfiguration → ℕ → List Nest → TType → Rest
entered lim left ls t = begin lim left ls 0 t (settled lim left ls)

-- behind the first byte of a field's header: its id, in the byte or behind it
abbrev pub headed : ℕ → List Nest → ℤ → ℕ → (Part → Wait) → (ℤ → Rest) → Rest
headed left ls last delta w on =
    cond (eqb delta 0) (ask left ls 0 (w fresh)) (cond (lt_z (pos 32767) (last +ℤ pos delta)) (stopped FIELD_ID) (on (last +ℤ pos delta)))

abbrev pub step_head : TConfiguration → ℕ → List Nest → ℤ → ℕ → FieldType → Rest
step_head lim left ls last delta F.Stop = settled lim left ls 0
step_head lim left ls last delta (F.Truth b) = headed left (Fields (id_of last) ∷ ls) last delta (W.Varint O.Flag) (λ id. settled lim left (Fields (id_of id) ∷ ls) 0)
step_head lim left ls last delta (F.Kind t) = headed left (Fields (id_of last) ∷ ls) last delta (W.Varint (O.Id t)) (λ id. entered lim left (Fields (id_of id) ∷ ls) t)
step_head lim left ls last delta (F.Refused why) = stopped why

-- a count's checks
abbrev pub checked : TConfiguration → ℕ → Rest → Rest
checked lim n r = cond (leb n 2147483647) (cond (leb n lim.container) r (stopped SIZE_LIMIT)) (stopped NEGATIVE_SIZE)

abbrev pub opening : TConfiguration → ℕ → List Nest → TType → ℕ → Rest
opening lim left ls t n = checked lim n (enough left (n * least_size t) (cond (startable t n) (settled lim left (Items t n ∷ ls) 0) (stopped BAD_TYPE)))

abbrev pub opening_map : TConfiguration → ℕ → List Nest → TType → TType → ℕ → Rest
opening_map lim left ls k v n =
    checked lim n
    (enough left (n * least_size k + n * least_size v)
    (cond (startable k n) (cond (startable v n) (settled lim left (Keys k v n ∷ ls) 0) (stopped BAD_TYPE)) (stopped BAD_TYPE)))

abbrev pub step_list : TConfiguration → ℕ → List Nest → ℕ → TypeRead → Rest
step_list lim left ls count (R.Got t) = cond (ltb count 15) (opening lim left ls t count) (ask left ls 0 (W.Varint (O.Count t) fresh))
step_list lim left ls count (R.Refused why) = stopped why

abbrev pub step_types : TConfiguration → ℕ → List Nest → ℕ → TypeRead → TypeRead → Rest
step_types lim left ls n (R.Got k) (R.Got v) = opening_map lim left ls k v n
step_types lim left ls n (R.Got k) (R.Refused why) = stopped why
step_types lim left ls n (R.Refused why) v = stopped why

-- the next byte of a number: `on` takes the whole number, `w` waits for more
abbrev pub step_part : ℕ → List Nest → Part → (Part → Wait) → (ℕ → Rest) → ℕ → Rest
step_part left ls p w on b =
    cond (ltb b 128)
    (on ((p.low + 128 ^ p.groups * b) % 2 ^ 32))
    (cond (ltb p.groups 4) (ask left ls 0 (w (record { groups = p.groups + 1; low = (p.low + 128 ^ p.groups * (b % 128)) % 2 ^ 32 }))) (stopped LONG_VARINT))

-- a number has come whole
abbrev pub on_whole : TConfiguration → ℕ → List Nest → Goal → ℕ → Rest
on_whole lim left ls O.Flag = inside (λ id. settled lim left (renamed id ls) 0)
on_whole lim left ls (O.Id t) = inside (λ id. entered lim left (renamed id ls) t)
on_whole lim left ls (O.Count t) = opening lim left ls t
on_whole lim left ls O.Pairs = λ n. cond (eqb n 0) (settled lim left ls 0) (ask left ls 0 (W.Types n))
on_whole lim left ls O.Length = λ n. cond (leb n lim.string) (fits left 0 n (settled lim left ls)) (stopped SIZE_LIMIT)
on_whole lim left ls O.Short = inside (λ z. settled lim left ls 0)

-- the byte b is looked at; `left` are the bytes of the frame behind it
abbrev pub stepped : TConfiguration → ℕ → List Nest → Wait → ℕ → Rest
stepped lim left [] W.Head b = stopped END
stepped lim left (Fields id ∷ ls) W.Head b = step_head lim left ls id.0 (b / 16) (field_type (b % 16))
stepped lim left (Items t n ∷ ls) W.Head b = stopped END
stepped lim left (Keys k v n ∷ ls) W.Head b = stopped END
stepped lim left (Values k v n ∷ ls) W.Head b = stopped END
stepped lim left ls W.Truth b = cond (ltb b 3) (settled lim left ls 0) (stopped BAD_BOOL)
stepped lim left ls W.List b = step_list lim left ls (b / 16) (element_type (b % 16))
stepped lim left ls (W.Types n) b = step_types lim left ls n (element_type (b / 16)) (element_type (b % 16))
stepped lim left ls (W.Varint g p) b = step_part left ls p (W.Varint g) (on_whole lim left ls g) b
stepped lim left ls (W.Number k) b = cond (ltb b 128) (settled lim left ls 0) (cond (ltb 1 k) (ask left ls 0 (W.Number (k - 1))) (stopped LONG_VARINT))

-- bytes come, one after the other: how many are left of the frame, how many were taken, and the rest
pub record Run : Type 0 where
  pub left : ℕ
  pub taken : ℕ
  pub rest : Rest

abbrev pub running : ℕ → ℕ → Rest → Run
running left taken r = record { left = left; taken = taken; rest = r }

unfoldable pub ran : TConfiguration → ℕ → ℕ → Rest → List ℕ → Run
ran lim left taken r [] = running left taken r
ran lim left taken (asks ls zero w) (b ∷ bs) = ran lim (left - 1) (taken + 1) (stepped lim (left - 1) ls w b) bs
ran lim left taken (asks ls (suc body) w) (b ∷ bs) = ran lim (left - 1) (taken + 1) (asks ls body w) bs
ran lim left taken (ended body) (b ∷ bs) = running left taken (ended body)
ran lim left taken (stopped why) (b ∷ bs) = running left taken (stopped why)

-- what it has told
abbrev pub tells : ℕ → Rest → Told Passed
tells taken (asks ls body w) = waits
tells taken (ended body) = ends tt (taken + body)
tells taken (stopped why) = refuses why

-- where a frame starts: a struct begins
abbrev pub start : TConfiguration → ℕ → Rest
start lim announced = begin lim announced [] 0 T.Struct (settled lim announced [])

-- which waits fit what is open
abbrev pub Fit : List Nest → Wait → Type 0
Fit [] W.Head = ⊥
Fit (Fields id ∷ ls) W.Head = Unit {0}
Fit (Items t n ∷ ls) W.Head = ⊥
Fit (Keys k v n ∷ ls) W.Head = ⊥
Fit (Values k v n ∷ ls) W.Head = ⊥
Fit ls W.Truth = Unit {0}
Fit ls W.List = Unit {0}
Fit ls (W.Types n) = Unit {0}
Fit ls (W.Varint g p) = p.groups ≤ 4
Fit ls (W.Number k) = 1 ≤ k
