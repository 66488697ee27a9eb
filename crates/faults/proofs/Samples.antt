-- Samples of faults, computed: every number that a struct's skip or a message's header gives, every kind of step, and what meets each premise of the laws. Assumes nothing.
use mathlib.Core.Path.{◌≡◌, refl}
use mathlib.Core.List.{List, [], ◌∷◌}
use Prim.Native.Nat.{ℕ, ◌≤◌}
use native.Mathlib.Omega.{arith}
use lib.IntN.{pos, negsuc}
use Rattle.types.specs.Codes.{type_code, type_by_number, element_type, field_type, message_by_number}
use Rattle.types.specs.Limits.{defaults, in_range}
use Rattle.types.specs.declared.TType.TheVariants as T
use Rattle.types.specs.declared.TConfiguration.{TConfiguration}
use Rattle.utf8.specs.Utf8.{utf8, past, decode}
use Rattle.heads.specs.Answers.{place}
use Rattle.heads.specs.Spells.{Formed}
use Rattle.input.specs.State.{State, cut_of, fresh, fresh_at, sound, gate, with_pending}
use Rattle.input.specs.declared.Awaited.TheVariants as W
use Rattle.faults.specs.Tracked.{field, element, key, value, done, refuse, and_then, provided, missing, byte, some, ahead, backed, labelled}
use Rattle.faults.specs.Heads as heads
use Rattle.faults.specs.Heads.{groups, varint, number32, number64, int8, int16, int32, int64, double, uuid, truth, binary, text, counted, listed, items, mapped, pairs, items_head, pairs_head, field_id, named, versioned, message}
use Rattle.faults.specs.Value.{many, many_pairs, walk, fields, items_of, map_of, struct_of, tracked}
use Rattle.faults.specs.Fault.{accepted, fault, fault_at, fault_to, struct_fault, faults, header_fault, message_faults, numbered, why_call, why_row}
use Rattle.faults.specs.declared.Verdict.TheVariants as D
use Rattle.skip.specs.Skip.{skip_of, room_of}
use Rattle.skip.specs.declared.Skipped.TheVariants.{Refused}
use Rattle.faults.proofs.States.{faults_behind, faults_first, faults_none, faults_none_so_long, Leads, faults_breaks}

-- limits with a depth, a string's length, a container's count and a ceiling
abbrev limits : ℕ → ℕ → ℕ → ℕ → TConfiguration
limits d s c m = record { depth = d; string = s; container = c; message = m }

pub Values : Type 0
Values =
    (fault_at ([]) defaults 64 T.Struct 0 ≡ fault 1 0 ([]))
    × (fault_at (0x00 ∷ []) defaults 64 T.Struct 0 ≡ accepted 1)
    × (fault_at (0x1e ∷ []) defaults 64 T.Struct 0 ≡ fault 4 0 ([]))
    × (fault_at (0x05 ∷ []) defaults 64 T.Struct 0 ≡ fault 1 1 ([]))
    × (fault_at (0x05 ∷ 0x80 ∷ 0x80 ∷ []) defaults 64 T.Struct 0 ≡ fault 1 3 ([]))
    × (fault_at (0x05 ∷ 0x80 ∷ 0x80 ∷ 0x04 ∷ 0x00 ∷ []) defaults 64 T.Struct 0 ≡ fault 17 3 ([]))
    × (fault_at (0x14 ∷ 0x80 ∷ 0x80 ∷ 0x04 ∷ 0x00 ∷ []) defaults 64 T.Struct 0 ≡ fault 17 3 (field (pos 1) ∷ []))
    × (fault_at (0x15 ∷ 0x02 ∷ []) defaults 64 T.Struct 0 ≡ fault 1 2 ([]))
    × (fault_at (0x18 ∷ 0x01 ∷ []) defaults 64 T.Struct 0 ≡ fault 1 1 (field (pos 1) ∷ []))
    × (fault_at (0x17 ∷ 0x01 ∷ 0x01 ∷ 0x01 ∷ 0x01 ∷ 0x01 ∷ 0x01 ∷ 0x01 ∷ []) defaults 64 T.Struct 0 ≡ fault 1 0 (field (pos 1) ∷ []))
    × (fault_at (0x13 ∷ []) defaults 64 T.Struct 0 ≡ fault 1 1 (field (pos 1) ∷ []))
    × (fault_at (0x05 ∷ 0x01 ∷ 0x80 ∷ []) defaults 64 T.Struct 0 ≡ fault 1 3 (field (negsuc 0) ∷ []))
    × (fault_at (0x19 ∷ 0x10 ∷ 0x00 ∷ []) defaults 64 T.Struct 0 ≡ fault 4 1 (field (pos 1) ∷ []))
    × (fault_at (0x19 ∷ 0x10 ∷ []) defaults 64 T.Struct 0 ≡ fault 1 1 (field (pos 1) ∷ []))
    × (fault_at (0x1b ∷ 0x01 ∷ 0x30 ∷ 0x05 ∷ 0x00 ∷ []) defaults 64 T.Struct 0 ≡ fault 4 2 (field (pos 1) ∷ []))
    × (fault_at (0x1b ∷ 0x02 ∷ 0x33 ∷ 0x01 ∷ []) defaults 64 T.Struct 0 ≡ fault 1 2 (field (pos 1) ∷ []))
    × (fault_at (0x1b ∷ 0x02 ∷ 0x31 ∷ 0x01 ∷ 0x01 ∷ 0x02 ∷ 0x07 ∷ 0x00 ∷ []) defaults 64 T.Struct 0 ≡ fault 5 6 (field (pos 1) ∷ value 1 ∷ []))
    × (fault_at (0x1b ∷ 0x02 ∷ 0x13 ∷ 0x01 ∷ 0x01 ∷ 0x07 ∷ 0x02 ∷ 0x00 ∷ []) defaults 64 T.Struct 0 ≡ fault 5 5 (field (pos 1) ∷ key 1 ∷ []))
    × (fault_at (0x1c ∷ []) (limits 1 100 100 100) 1 T.Struct 0 ≡ fault 10 0 (field (pos 1) ∷ []))
    × (fault_at (0x19 ∷ 0x1c ∷ 0x00 ∷ []) (limits 2 100 100 100) 2 T.Struct 0 ≡ fault 10 1 (field (pos 1) ∷ element 0 ∷ []))
    × (fault_at (0x1b ∷ 0x01 ∷ 0x7c ∷ 0x00 ∷ 0x00 ∷ 0x00 ∷ 0x00 ∷ 0x00 ∷ 0x00 ∷ 0x00 ∷ 0x00 ∷ 0x00 ∷ []) (limits 2 100 100 100) 2 T.Struct 0 ≡ fault 10 10 (field (pos 1) ∷ value 0 ∷ []))
    × (fault_at (0x00 ∷ []) (limits 0 100 100 100) 0 T.Struct 0 ≡ fault 10 0 ([]))
    × (fault_at (0x15 ∷ 0xff ∷ 0xff ∷ 0xff ∷ 0xff ∷ 0xff ∷ 0x00 ∷ []) defaults 64 T.Struct 0 ≡ fault 6 5 (field (pos 1) ∷ []))
    × (fault_at (0x19 ∷ 0xf5 ∷ 0xff ∷ 0xff ∷ 0xff ∷ 0xff ∷ 0x0f ∷ []) defaults 64 T.Struct 0 ≡ fault 9 6 (field (pos 1) ∷ []))
    × (fault_at (0x19 ∷ 0x25 ∷ 0x00 ∷ []) (limits 64 100 1 100) 64 T.Struct 0 ≡ fault 8 1 (field (pos 1) ∷ []))
    × (fault_at (0x18 ∷ 0x05 ∷ 0x61 ∷ []) (limits 64 4 100 100) 64 T.Struct 0 ≡ fault 8 1 (field (pos 1) ∷ []))
    × (fault_at (0x1d ∷ 0xdd ∷ []) defaults 64 T.Struct 0 ≡ fault 1 0 (field (pos 1) ∷ []))
    × (fault_at (0x19 ∷ 0x21 ∷ 0x07 ∷ 0x01 ∷ []) defaults 64 T.Struct 0 ≡ fault 5 2 (field (pos 1) ∷ element 0 ∷ []))
    × (fault_at (0x1c ∷ 0x19 ∷ 0x2c ∷ 0x15 ∷ 0x02 ∷ 0x00 ∷ 0x1a ∷ 0x25 ∷ 0x02 ∷ 0x80 ∷ []) defaults 64 T.Struct 0 ≡ fault 1 10 (field (pos 1) ∷ field (pos 1) ∷ element 1 ∷ field (pos 1) ∷ element 1 ∷ []))
    × (fault_at (0x01 ∷ 0x00 ∷ 0x15 ∷ 0x02 ∷ 0x05 ∷ 0xfe ∷ 0xff ∷ 0x03 ∷ 0x00 ∷ 0x11 ∷ []) defaults 64 T.Struct 0 ≡ fault 7 9 ([]))
    × (fault_at (0x19 ∷ 0xe5 ∷ []) defaults 64 T.Struct 0 ≡ fault 1 1 (field (pos 1) ∷ []))
    × (fault_at (0x16 ∷ 0xff ∷ 0xff ∷ 0xff ∷ 0xff ∷ 0xff ∷ 0xff ∷ 0xff ∷ 0xff ∷ 0xff ∷ 0x80 ∷ []) defaults 64 T.Struct 0 ≡ fault 6 10 (field (pos 1) ∷ []))
    × (fault_at (0x11 ∷ 0x13 ∷ 0x04 ∷ 0x00 ∷ 0x00 ∷ []) defaults 64 T.Struct 0 ≡ accepted 4)

pub values : Values
unfolding Values fault_at tracked fields walk many many_pairs items_of map_of struct_of done refuse and_then provided missing byte some ahead backed labelled groups varint number32 number64 int8 int16 int32 int64 double uuid truth binary counted listed items mapped pairs items_head pairs_head field_id heads.field type_code type_by_number element_type field_type defaults
values = (refl, refl, refl, refl, refl, refl, refl, refl, refl, refl, refl, refl, refl, refl, refl, refl, refl, refl, refl, refl, refl, refl, refl, refl, refl, refl, refl, refl, refl, refl, refl, refl, refl)

-- over the state: the ceiling's cut in place of the length; BAD STATE, OUT OF TURN and NO ROOM at the start
abbrev few : State
few = fresh_at (place 0) (limits 64 100 100 3)

abbrev late : State
late = fresh_at (place 9) (limits 64 100 100 100)

abbrev text_cut : List ℕ
text_cut = 0x18 ∷ 0x05 ∷ 0x61 ∷ 0x62 ∷ 0x63 ∷ 0x64 ∷ 0x65 ∷ 0x00 ∷ []

abbrev number_cut : List ℕ
number_cut = 0x15 ∷ 0x80 ∷ 0x80 ∷ 0x80 ∷ 0x01 ∷ 0x00 ∷ []

abbrev pub keyed : List ℕ
keyed = 0x1b ∷ 0x02 ∷ 0x13 ∷ 0x01 ∷ 0x01 ∷ 0x07 ∷ 0x02 ∷ 0x00 ∷ []

pub Calls : Type 0
Calls =
    (faults text_cut few ≡ fault 19 1 (field (pos 1) ∷ []))
    × (faults number_cut few ≡ fault 19 3 (field (pos 1) ∷ []))
    × (faults (0x00 ∷ []) late ≡ fault 15 9 ([]))
    × (faults (0x00 ∷ []) (with_pending few (W.Truth mathlib.Core.Bool.true)) ≡ fault 12 0 ([]))
    × (why_call 4 keyed (fresh defaults) ≡ D.Refused 5 5 2)
    × (why_row keyed (fresh defaults) (pos 9 ∷ pos 9 ∷ pos 9 ∷ pos 9 ∷ pos 9 ∷ []) ≡ pos 0 ∷ pos 1 ∷ pos 2 ∷ pos 1 ∷ pos 9 ∷ [])
    × (why_call 3 keyed (fresh defaults) ≡ D.Refused 14 0 0)
    × (why_row keyed (fresh defaults) (pos 9 ∷ pos 9 ∷ pos 9 ∷ []) ≡ pos 9 ∷ pos 9 ∷ pos 9 ∷ [])
    × (why_call 0 (0x00 ∷ []) (fresh defaults) ≡ D.Accepted (place 1))

pub calls : Calls
unfolding Calls faults struct_fault fault_to why_call why_row numbered fresh gate sound in_range tracked fields walk many many_pairs items_of map_of struct_of done refuse and_then provided missing byte some ahead backed labelled groups varint number32 number64 int8 int16 int32 int64 double uuid truth binary counted listed items mapped pairs items_head pairs_head field_id heads.field type_code type_by_number element_type field_type defaults
calls = (refl, refl, refl, refl, refl, refl, refl, refl, refl)

-- messages' headers
pub Headers : Type 0
Headers =
    (message_faults (0x82 ∷ 0x21 ∷ 0x00 ∷ 0x01 ∷ 0x61 ∷ []) (fresh defaults) ≡ accepted 5)
    × (message_faults ([]) (fresh defaults) ≡ fault 1 0 ([]))
    × (message_faults (0x83 ∷ []) (fresh defaults) ≡ fault 2 0 ([]))
    × (message_faults (0x82 ∷ []) (fresh defaults) ≡ fault 1 1 ([]))
    × (message_faults (0x82 ∷ 0x22 ∷ []) (fresh defaults) ≡ fault 2 1 ([]))
    × (message_faults (0x82 ∷ 0x01 ∷ []) (fresh defaults) ≡ fault 3 1 ([]))
    × (message_faults (0x82 ∷ 0x21 ∷ 0xff ∷ 0xff ∷ 0xff ∷ 0xff ∷ 0xff ∷ []) (fresh defaults) ≡ fault 6 6 ([]))
    × (message_faults (0x82 ∷ 0x21 ∷ 0x00 ∷ 0x02 ∷ 0x61 ∷ []) (fresh defaults) ≡ fault 1 3 ([]))
    × (message_faults (0x82 ∷ 0x21 ∷ 0x00 ∷ 0x02 ∷ 0x61 ∷ 0x62 ∷ []) few ≡ fault 19 3 ([]))
    × (message_faults (0x82 ∷ 0x21 ∷ 0x00 ∷ 0x7f ∷ []) (fresh_at (place 0) (limits 64 4 100 100)) ≡ fault 8 3 ([]))
    × (message_faults (0x82 ∷ 0x21 ∷ 0x00 ∷ 0x01 ∷ 0xff ∷ []) (fresh defaults) ≡ fault 11 4 ([]))

pub headers : Headers
unfolding Headers message_faults header_fault fault_to fresh gate sound in_range done refuse and_then provided missing byte some groups varint number32 binary text named versioned message message_by_number utf8 past decode defaults
headers = (refl, refl, refl, refl, refl, refl, refl, refl, refl, refl, refl)

-- the laws' premises are met: a key that is no bool, with other bytes behind it, and a text that is cut short
abbrev pub there : State
there = fresh_at (place 0) defaults

abbrev pub keyed_too : List ℕ
keyed_too = 0x1b ∷ 0x02 ∷ 0x13 ∷ 0x01 ∷ 0x01 ∷ 0x07 ∷ 0xff ∷ 0xff ∷ []

abbrev pub short : List ℕ
short = 0x11 ∷ 0x18 ∷ 0x05 ∷ 0x61 ∷ []

pub keyed_fault : faults keyed there ≡ fault 5 5 (field (pos 1) ∷ key 1 ∷ [])
unfolding faults struct_fault fault_to gate sound in_range tracked fields walk many_pairs map_of struct_of done refuse and_then provided missing byte ahead backed labelled groups varint number32 int8 truth counted mapped pairs pairs_head field_id heads.field type_code type_by_number element_type field_type defaults
keyed_fault = refl

pub short_fault : faults short there ≡ fault 1 2 (field (pos 2) ∷ [])
unfolding faults struct_fault fault_to gate sound in_range tracked fields walk struct_of done refuse and_then provided missing byte some labelled groups varint number32 binary field_id heads.field type_by_number field_type defaults
short_fault = refl

pub ready : gate 8 there ≡ 0
unfolding gate sound in_range defaults
ready = refl

ready_short : gate 4 there ≡ 0
unfolding gate sound in_range defaults
ready_short = refl

pub met_behind : faults keyed_too there ≡ fault 5 5 (field (pos 1) ∷ key 1 ∷ [])
met_behind = faults_behind keyed there 5 5 _ keyed_fault keyed_too refl refl

pub met_first : skip_of (0x1b ∷ 0x02 ∷ 0x13 ∷ []) defaults (room_of there) T.Struct 0 ≡ Refused 1
met_first = faults_first keyed there 5 5 _ keyed_fault ready 3 (omega arith) (omega arith)

pub met_none : (d : ℕ) → d ≤ cut_of there → Formed keyed_too defaults (room_of there) T.Struct 0 d → ⊥
met_none = faults_none keyed there 5 5 _ keyed_fault ready keyed_too refl (λ e. omega arith) (λ e. omega arith)

pub met_so_long : (d : ℕ) → d ≤ cut_of there → Formed (0x11 ∷ 0x18 ∷ 0x05 ∷ 0x62 ∷ []) defaults (room_of there) T.Struct 0 d → ⊥
met_so_long = faults_none_so_long short there 1 2 _ short_fault ready_short (0x11 ∷ 0x18 ∷ 0x05 ∷ 0x62 ∷ []) refl refl

pub met_breaks : Leads keyed there 5 5 (field (pos 1) ∷ key 1 ∷ []) keyed_fault ready
met_breaks = faults_breaks keyed there 5 5 _ keyed_fault ready
