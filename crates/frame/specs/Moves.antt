-- What one byte leads to, apart from what is open: the machine's step as the code has it. Assumes nothing: these are definitions.
use Rattle.std.specs.Prelude.{ℕ, ◌+◌, ◌-◌, ◌*◌, ◌/◌, ◌%◌, ◌^◌, ◌≤◌, cond, List, [], ◌∷◌, eqb, leb, ltb, ℤ, pos, ◌+ℤ◌}
use Rattle.std.specs.Int.Signed.{lt_z}
use Rattle.types.specs.Refusals.{END, BAD_TYPE, BAD_BOOL, FIELD_ID, LONG_VARINT, SIZE_LIMIT, RANGE}
use Rattle.types.specs.Codes.{element_type, field_type}
use Rattle.types.specs.declared.TType.{TType}
use Rattle.types.specs.declared.TypeRead.{TypeRead}
use Rattle.types.specs.declared.TypeRead.TheVariants as R
use Rattle.types.specs.declared.FieldType.{FieldType}
use Rattle.types.specs.declared.FieldType.TheVariants as F
use Rattle.types.specs.declared.TConfiguration.{TConfiguration}
use Rattle.types.specs.declared.FieldId.{FieldId}
use Rattle.zigzag.specs.Zigzag.{in_range16}
use Rattle.heads.specs.Heads.{least_size}
use Rattle.heads.specs.Answers.{id_of, count_why}
use Rattle.skip.specs.Value.{startable}
use Rattle.frame.specs.declared.Nest.{Nest}
use Rattle.frame.specs.declared.Nest.TheVariants.{Fields, Items, Keys, Values}
use Rattle.frame.specs.declared.Part.{Part}
use Rattle.frame.specs.declared.Goal.{Goal}
use Rattle.frame.specs.declared.Goal.TheVariants as O
use Rattle.frame.specs.declared.Wait.{Wait}
use Rattle.frame.specs.declared.Wait.TheVariants as W
use Rattle.frame.specs.declared.Moved.{Moved}
use Rattle.frame.specs.declared.Moved.TheVariants as M
use Rattle.frame.specs.declared.Grown.{Grown}
use Rattle.frame.specs.declared.Grown.TheVariants as G
use Rattle.frame.specs.declared.ShortId.{ShortId}
use Rattle.frame.specs.declared.ShortId.TheVariants as S
use Rattle.frame.specs.Machine.{fresh, id_from, Rest, stopped, ask, fits, settled, entered}

unfoldable pub weight_of : ℕ → ℕ
weight_of n = 128 ^ n

-- a number one byte on
unfoldable pub grown : Part → ℕ → Grown
grown p b =
    cond (ltb b 128)
    (G.Whole ((p.low + 128 ^ p.groups * b) % 2 ^ 32))
    (cond (ltb p.groups 4) (G.More (record { groups = p.groups + 1; low = (p.low + 128 ^ p.groups * (b % 128)) % 2 ^ 32 })) G.Long)

-- and what it leads to
abbrev pub on_grown : (Part → Wait) → (ℕ → Moved) → Grown → Moved
on_grown w on (G.Whole n) = on n
on_grown w on (G.More p) = M.Waits (w p)
on_grown w on G.Long = M.Refused LONG_VARINT

unfoldable pub short_id : ℤ → ℕ → ShortId
short_id last delta = cond (lt_z (pos 32767) (last +ℤ pos delta)) S.Over (S.Got (id_of (last +ℤ pos delta)))

-- an id that a whole number says, where it has 16 bits
unfoldable pub long_id : ℕ → ShortId
long_id n = cond (in_range16 (id_from n)) (S.Got (id_of (id_from n))) S.Over

abbrev pub on_long : (FieldId → Moved) → ShortId → Moved
on_long on (S.Got id) = on id
on_long on S.Over = M.Refused RANGE

-- a field's first byte
abbrev pub on_short : (FieldId → Moved) → ShortId → Moved
on_short on (S.Got id) = on id
on_short on S.Over = M.Refused FIELD_ID

abbrev pub head_of : ℤ → ℕ → FieldType → Moved
head_of last delta F.Stop = M.Closed
head_of last delta (F.Truth t) = cond (eqb delta 0) (M.Waits (W.Varint O.Flag fresh)) (on_short (λ id. M.Named id) (short_id last delta))
head_of last delta (F.Kind t) = cond (eqb delta 0) (M.Waits (W.Varint (O.Id t) fresh)) (on_short (λ id. M.Valued id t) (short_id last delta))
head_of last delta (F.Refused why) = M.Refused why

unfoldable pub head_move : ℤ → ℕ → Moved
head_move last b = head_of last (b / 16) (field_type (b % 16))

-- a list or set is opened: `left` bytes of the frame stand behind its header
unfoldable pub start_move : TType → ℕ → Moved
start_move t n = cond (startable t n) (M.Opened (Items t n)) (M.Refused BAD_TYPE)

unfoldable pub open_move : TConfiguration → ℕ → TType → ℕ → Moved
open_move lim left t n =
    cond (eqb (count_why lim n) 0) (cond (leb (n * least_size t) left) (start_move t n) (M.Refused END)) (M.Refused (count_why lim n))

abbrev pub list_of : TConfiguration → ℕ → ℕ → TypeRead → Moved
list_of lim left count (R.Got t) = cond (ltb count 15) (open_move lim left t count) (M.Waits (W.Varint (O.Count t) fresh))
list_of lim left count (R.Refused why) = M.Refused why

unfoldable pub list_move : TConfiguration → ℕ → ℕ → Moved
list_move lim left b = list_of lim left (b / 16) (element_type (b % 16))

unfoldable pub start_pairs : TType → TType → ℕ → Moved
start_pairs k v n = cond (startable k n) (cond (startable v n) (M.Opened (Keys k v n)) (M.Refused BAD_TYPE)) (M.Refused BAD_TYPE)

unfoldable pub open_pairs : TConfiguration → ℕ → TType → TType → ℕ → Moved
open_pairs lim left k v n =
    cond (eqb (count_why lim n) 0)
    (cond (leb (n * least_size k + n * least_size v) left) (start_pairs k v n) (M.Refused END))
    (M.Refused (count_why lim n))

abbrev pub types_of : TConfiguration → ℕ → ℕ → TypeRead → TypeRead → Moved
types_of lim left n (R.Got k) (R.Got v) = open_pairs lim left k v n
types_of lim left n (R.Got k) (R.Refused why) = M.Refused why
types_of lim left n (R.Refused why) v = M.Refused why

unfoldable pub types_move : TConfiguration → ℕ → ℕ → ℕ → Moved
types_move lim left n b = types_of lim left n (element_type (b / 16)) (element_type (b % 16))

unfoldable pub number_move : ℕ → ℕ → Moved
number_move k b = cond (ltb b 128) (M.Passed 0) (cond (ltb 1 k) (M.Waits (W.Number (k - 1))) (M.Refused LONG_VARINT))

unfoldable pub length_move : TConfiguration → ℕ → Moved
length_move lim n = cond (leb n lim.string) (M.Passed n) (M.Refused SIZE_LIMIT)

unfoldable pub pairs_move : ℕ → Moved
pairs_move n = cond (eqb n 0) (M.Passed 0) (M.Waits (W.Types n))

-- what a whole number leads to
abbrev pub of_goal : TConfiguration → ℕ → ℕ → Goal → Moved
of_goal lim left n O.Flag = on_long (λ id. M.Named id) (long_id n)
of_goal lim left n (O.Id t) = on_long (λ id. M.Valued id t) (long_id n)
of_goal lim left n (O.Count t) = open_move lim left t n
of_goal lim left n O.Pairs = pairs_move n
of_goal lim left n O.Length = length_move lim n
of_goal lim left n O.Short = on_long (λ id. M.Passed 0) (long_id n)

unfoldable pub goal_move : TConfiguration → ℕ → Goal → ℕ → Moved
goal_move lim left g n = of_goal lim left n g

abbrev pub of_top : Nest → ℕ → Moved
of_top (Fields id) b = head_move id.0 b
of_top (Items t n) b = M.Refused END
of_top (Keys k v n) b = M.Refused END
of_top (Values k v n) b = M.Refused END

abbrev pub of_wait : TConfiguration → ℕ → Nest → ℕ → Wait → Moved
of_wait lim left top b W.Head = of_top top b
of_wait lim left top b W.Truth = cond (ltb b 3) (M.Passed 0) (M.Refused BAD_BOOL)
of_wait lim left top b W.List = list_move lim left b
of_wait lim left top b (W.Types n) = types_move lim left n b
of_wait lim left top b (W.Varint g p) = on_grown (λ q. W.Varint g q) (goal_move lim left g) (grown p b)
of_wait lim left top b (W.Number k) = number_move k b

-- what the byte b leads to, where w is waited for and `top` is the innermost that is open; `left` bytes of the frame stand behind it
unfoldable pub moved : TConfiguration → ℕ → Nest → Wait → ℕ → Moved
moved lim left top w b = of_wait lim left top b w

-- what a move makes of what is open
abbrev pub behind_first : List Nest → List Nest
behind_first [] = []
behind_first (l ∷ ls) = ls

abbrev pub replaced : Nest → List Nest → List Nest
replaced l [] = []
replaced l (m ∷ ls) = l ∷ ls

abbrev pub applied : TConfiguration → ℕ → List Nest → Moved → Rest
applied lim left ls (M.Refused why) = stopped why
applied lim left ls (M.Waits w) = ask left ls 0 w
applied lim left ls (M.Passed n) = fits left 0 n (settled lim left ls)
applied lim left ls M.Closed = settled lim left (behind_first ls) 0
applied lim left ls (M.Opened l) = settled lim left (l ∷ ls) 0
applied lim left ls (M.Named id) = settled lim left (replaced (Fields id) ls) 0
applied lim left ls (M.Valued id t) = entered lim left (replaced (Fields id) ls) t

-- a wait that a byte can end: of a number some bytes may still come
unfoldable pub Ready : Wait → Type 0
Ready W.Head = Unit {0}
Ready W.Truth = Unit {0}
Ready W.List = Unit {0}
Ready (W.Types n) = Unit {0}
Ready (W.Varint g p) = p.groups ≤ 4
Ready (W.Number k) = 1 ≤ k
