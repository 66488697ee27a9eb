-- Skip as a plan: the headers of Heads.antt and the walk of Value.antt, with the frame's length known and its bytes not yet.
-- Assumes nothing: these are definitions.
use Rattle.std.specs.Prelude.{ℕ, zero, suc, ◌+◌, ◌*◌, ◌/◌, ◌%◌, ◌^◌, cond, eqb, leb, ltb, ℤ, pos, ◌+ℤ◌}
use Rattle.std.specs.Int.Signed.{lt_z}
use Rattle.types.specs.Refusals.{END, BAD_TYPE, BAD_BOOL, FIELD_ID, LONG_VARINT, SIZE_LIMIT, NEGATIVE_SIZE, DEPTH, RANGE}
use Rattle.types.specs.Codes.{element_type, field_type}
use Rattle.types.specs.declared.TType.{TType}
use Rattle.types.specs.declared.TType.TheVariants as T
use Rattle.types.specs.declared.TypeRead.{TypeRead}
use Rattle.types.specs.declared.TypeRead.TheVariants as R
use Rattle.types.specs.declared.FieldType.{FieldType}
use Rattle.types.specs.declared.FieldType.TheVariants as F
use Rattle.types.specs.declared.TConfiguration.{TConfiguration}
use Rattle.zigzag.specs.Zigzag.{unzigzag, in_range16}
use Rattle.heads.specs.Heads.{Field, stop, bool, value, least_size}
use Rattle.skip.specs.Value.{startable}
use Rattle.frame.specs.Ask.{Plan, done, refuse, and_then, provided, byte, some, backed}

-- a number of at most k bytes, by its 7-bit groups
abbrev pub groups : ℕ → Plan ℕ
groups zero = refuse LONG_VARINT
groups (suc k) = and_then byte (λ b. cond (ltb b 128) (done b) (and_then (groups k) (λ v. done (b % 128 + 128 * v))))

unfoldable pub number32 : Plan ℕ
number32 = and_then (groups 5) (λ v. done (v % 2 ^ 32))

unfoldable pub number64 : Plan ℕ
number64 = and_then (groups 10) (λ v. done (v % 2 ^ 64))

unfoldable pub int32 : Plan ℤ
int32 = and_then number32 (λ n. done (unzigzag n))

unfoldable pub int16 : Plan ℤ
int16 = and_then int32 (λ z. provided (in_range16 z) RANGE (done z))

abbrev pub typed : TypeRead → Plan TType
typed (R.Got t) = done t
typed (R.Refused why) = refuse why

unfoldable pub counted : TConfiguration → ℕ → Plan ℕ
counted lim n = provided (leb n 2147483647) NEGATIVE_SIZE (provided (leb n lim.container) SIZE_LIMIT (done n))

unfoldable pub listed : TConfiguration → TType → ℕ → Plan (TType × ℕ)
listed lim t n = and_then (counted lim n) (λ m. done (t, m))

unfoldable pub items : TConfiguration → Plan (TType × ℕ)
items lim =
    and_then byte
    (λ b. and_then (typed (element_type (b % 16)))
    (λ t. and_then (cond (ltb (b / 16) 15) (done (b / 16)) number32) (listed lim t)))

unfoldable pub mapped : TConfiguration → ℕ → Plan (TType × TType × ℕ)
mapped lim n =
    and_then byte
    (λ b. and_then (typed (element_type (b / 16)))
    (λ k. and_then (typed (element_type (b % 16)))
    (λ v. and_then (counted lim n) (λ m. done (k, v, m)))))

unfoldable pub pairs : TConfiguration → Plan (TType × TType × ℕ)
pairs lim = and_then number32 (λ n. cond (eqb n 0) (done (T.Stop, T.Stop, 0)) (mapped lim n))

-- "for W1 the bytes left are counted to the announced length"
unfoldable pub items_head : TConfiguration → Plan (TType × ℕ)
items_head lim = backed (λ h. h.1 * least_size h.0) (items lim)

unfoldable pub pairs_head : TConfiguration → Plan (TType × TType × ℕ)
pairs_head lim = backed (λ h. h.2 * least_size h.0 + h.2 * least_size h.1) (pairs lim)

unfoldable pub field_id : ℤ → ℕ → Plan ℤ
field_id last delta =
    cond (eqb delta 0) int16 (cond (lt_z (pos 32767) (last +ℤ pos delta)) (refuse FIELD_ID) (done (last +ℤ pos delta)))

abbrev pub of_type : ℤ → ℕ → FieldType → Plan Field
of_type last delta F.Stop = done stop
of_type last delta (F.Truth b) = and_then (field_id last delta) (λ id. done (bool b id))
of_type last delta (F.Kind t) = and_then (field_id last delta) (λ id. done (value t id))
of_type last delta (F.Refused why) = refuse why

unfoldable pub field : ℤ → Plan Field
field last = and_then byte (λ b. of_type last (b / 16) (field_type (b % 16)))

-- The values, passed over: of a number each byte is looked at for its top bit, of a bool its byte; all else only has to be there.
abbrev pub Passed : Type 0
Passed = Unit {0}

unfoldable pub number : ℕ → Plan Passed
number k = and_then (groups k) (λ v. done tt)

-- an i16's number is held against its range
unfoldable pub short : Plan Passed
short = and_then int16 (λ z. done tt)

unfoldable pub truth : Plan Passed
truth = and_then byte (λ b. provided (ltb b 3) BAD_BOOL (done tt))

unfoldable pub binary : TConfiguration → Plan Passed
binary lim = and_then number32 (λ n. provided (leb n lim.string) SIZE_LIMIT (some n))

unfoldable pub many : Plan Passed → ℕ → Plan Passed
many p zero = done tt
many p (suc n) = and_then p (λ u. many p n)

unfoldable pub many_pairs : Plan Passed → Plan Passed → ℕ → Plan Passed
many_pairs p q zero = done tt
many_pairs p q (suc n) = and_then p (λ u. and_then q (λ w. many_pairs p q n))

-- behind a field's header
abbrev pub after : (TType → Plan Passed) → (ℤ → Plan Passed) → Field → Plan Passed
after f go stop = done tt
after f go (bool b id) = go id
after f go (value t id) = and_then (f t) (λ u. go id)

unfoldable pub walk : (TType → Plan Passed) → ℕ → ℤ → Plan Passed
walk f zero last = refuse END
walk f (suc k) last = and_then (field last) (after f (walk f k))

-- no more fields than bytes left, since each has a byte of its own
unfoldable pub fields : (TType → Plan Passed) → ℤ → Plan Passed
fields f last left = walk f left last left

-- a container, each of its elements passed over by `inner`
abbrev pub sequence : TConfiguration → (TType → Plan Passed) → Plan Passed
sequence lim inner = and_then (items_head lim) (λ h. provided (startable h.0 h.1) BAD_TYPE (many (inner h.0) h.1))

abbrev pub mapping : TConfiguration → (TType → Plan Passed) → Plan Passed
mapping lim inner =
    and_then (pairs_head lim)
    (λ h. provided (startable h.0 h.2) BAD_TYPE (provided (startable h.1 h.2) BAD_TYPE (many_pairs (inner h.0) (inner h.1) h.2)))

-- how the three that hold other values are passed over
pub record Boxes : Type 0 where
  pub sequence : Plan Passed
  pub map : Plan Passed
  pub struct : Plan Passed

abbrev pub shut : Boxes
shut = record { sequence = refuse DEPTH; map = refuse DEPTH; struct = refuse DEPTH }

abbrev pub roomy : TConfiguration → (TType → Plan Passed) → Boxes
roomy lim inner = record { sequence = sequence lim inner; map = mapping lim inner; struct = fields inner (pos 0) }

abbrev pub shaped : TConfiguration → Boxes → TType → Plan Passed
shaped lim box T.Stop = refuse BAD_TYPE
shaped lim box T.Bool = truth
shaped lim box T.I08 = some 1
shaped lim box T.I16 = short
shaped lim box T.I32 = number 5
shaped lim box T.I64 = number 10
shaped lim box T.Double = some 8
shaped lim box T.String = binary lim
shaped lim box T.List = box.sequence
shaped lim box T.Set = box.sequence
shaped lim box T.Map = box.map
shaped lim box T.Struct = box.struct
shaped lim box T.Uuid = some 16

unfoldable pub skip_plan : TConfiguration → ℕ → TType → Plan Passed
skip_plan lim zero ty = shaped lim shut ty
skip_plan lim (suc room) ty = shaped lim (roomy lim (skip_plan lim room)) ty
