-- Samples, computed: the scope paper's message and the structs of T13, written by the calls and read by the calls; long forms, which no writer here
-- writes; lists that lie deeper than skip goes; and the ceiling per message. Assumes nothing.
use mathlib.Core.Path.{◌≡◌, refl}
use mathlib.Core.Bool.{true}
use mathlib.Core.List.{List, [], ◌∷◌, ◌++◌}
use Prim.Native.Nat.{ℕ, zero, suc}
use lib.IntN.{ℤ, pos, negsuc}
use native.Mathlib.Omega.{arith}
use lib.ListN.{length, take, replicate}
use Rattle.types.specs.Refusals.{END, BAD_TYPE, NO_ROOM, MESSAGE_SIZE}
use Rattle.types.specs.Codes.{type_code, truth_code, message_code, type_by_number, element_type, field_type, message_by_number}
use Rattle.types.specs.Limits.{in_range, defaults}
use Rattle.types.specs.declared.TType.TheVariants as T
use Rattle.types.specs.declared.TConfiguration.{TConfiguration}
use Rattle.types.specs.declared.TMessageType.{TMessageType}
use Rattle.types.specs.declared.TMessageType.TheVariants as M
use Rattle.types.specs.Value as val
use Rattle.types.specs.Value.{Tree, Fields, no_trees, tree, no_fields, type_of, nesting, nesting_fields, Sized, SizedFields, Typed, TypedFields, Within}
use Rattle.types.proofs.Limits.{Ranged}
use Rattle.numbers.specs.Varint.{fewest}
use Rattle.numbers.specs.Answers.{wrote_at, put_at}
use Rattle.numbers.specs.Fixed.{eight}
use Rattle.utf8.specs.Utf8.{utf8, past, decode}
use Rattle.heads.specs.Reader.{done, refuse, and_then, provided, byte, some, ahead, backed, read_at, read_to}
use Rattle.heads.specs.Heads.{int8, number32, number64, int16, int32, int64, double, uuid, truth, binary, text, counted, listed, items, mapped, pairs, items_head, pairs_head, field_id, field, named, versioned, message}
use Rattle.heads.specs.Answers.{place}
use Rattle.input.specs.State as input
use Rattle.input.specs.State.{sound, gate, fresh, fresh_at}
use Rattle.input.specs.Outcome.{calls_to, element, bools, begins, ends}
use Rattle.input.specs.Calls.{read_bool, read_i8, read_i16, read_i32, read_i64, read_double, read_uuid, read_bytes, read_string, read_list, read_set, read_map, read_field, read_message, struct_begin, struct_end, bytes_part, string_part, uuid_part, name_part}
use Rattle.puts.specs.Wrong.{or_else, length_wrong, text_wrong, field_wrong, count_wrong}
use Rattle.output.specs.State.{unsound, in_turn, begun}
use Rattle.puts.specs.Bytes.{short_delta, field_bytes, items_bytes, pairs_bytes, string_bytes, message_bytes}
use Rattle.output.specs.Calls.{settled, size_wrong, why_not, writes, leaves, begin_wrong, end_wrong, bool_call, field_call}
use Rattle.laws.specs.Writing.{Step, Ran, ran, stopped, run, write_of, write_all, write_pairs, write_fields, write_whole}
use Rattle.laws.specs.Reading.{Took, took, halted, and_on, read_all, read_pairs, read_fields, holders, read_levels, read_of, read_whole}
use Rattle.laws.specs.Written.{bytes_of, bytes_of_fields, bytes_of_whole, HeaderWithin}
use Rattle.laws.proofs.Texts.{as_bytes, no_texts}
use Rattle.laws.proofs.RoundTrip.{Mail, mail}

-- a new reader, and what a new writer's buffer of zeros holds up to where it stands then
abbrev start : input.State
start = fresh defaults

abbrev up_to : Ran → List ℕ
up_to (ran buf st) = take st.place.0 buf
up_to (stopped why) = []

abbrev sent : List Step → List ℕ
sent steps = up_to (run steps (replicate 16 0) (begun defaults))

-- what was read and the place behind it; or the refusal
abbrev read : {A : Type 0} → Took A → Took (A × ℕ)
read (took a st) = took (a, st.place.0) start
read (halted why) = halted why

-- "For 82 21 01 01 74 11 15 01 00 ..: message 1 1 x74, struct, field 1 bool, true, field 2 i32, -1, stop, end 9 0"
abbrev message_bytes_lem : List ℕ
message_bytes_lem = 0x82 ∷ 0x21 ∷ 0x01 ∷ 0x01 ∷ 0x74 ∷ 0x11 ∷ 0x15 ∷ 0x01 ∷ 0x00 ∷ []

abbrev message_fields : Fields
message_fields = val.field (pos 1) (val.truth true) (val.field (pos 2) (val.i32 (negsuc 0)) no_fields)

abbrev Heading : Type 0
Heading = TMessageType × ℤ × List ℕ × Tree

abbrev message_read : Heading
message_read = (M.Call, pos 1, 0x74 ∷ [], val.struct message_fields)

-- "fields 1 true, 3 i32 -1: 11 25 01 00"; "With double 1.0 as field 2: 11 17 00 00 00 00 00 00 F0 3F 15 01 00"
abbrev two_bytes : List ℕ
two_bytes = 0x11 ∷ 0x25 ∷ 0x01 ∷ 0x00 ∷ []

abbrev two : Tree
two = val.struct (val.field (pos 1) (val.truth true) (val.field (pos 3) (val.i32 (negsuc 0)) no_fields))

abbrev three_bytes : List ℕ
three_bytes = 0x11 ∷ 0x17 ∷ 0x00 ∷ 0x00 ∷ 0x00 ∷ 0x00 ∷ 0x00 ∷ 0x00 ∷ 0xf0 ∷ 0x3f ∷ 0x15 ∷ 0x01 ∷ 0x00 ∷ []

abbrev three : Tree
three = val.struct (val.field (pos 1) (val.truth true) (val.field (pos 2) (val.double 0x3ff0000000000000) (val.field (pos 3) (val.i32 (negsuc 0)) no_fields)))

-- "Delta 0: an i16 id follows"; "overlong forms are read"; "The reader takes deltas 1 to 15": field 1 by a long header, 1 in two bytes; then field 16, -1
abbrev long_bytes : List ℕ
long_bytes = 0x05 ∷ 0x02 ∷ 0x82 ∷ 0x00 ∷ 0xf5 ∷ 0x01 ∷ 0x00 ∷ []

abbrev long : Tree
long = val.struct (val.field (pos 1) (val.i32 (pos 1)) (val.field (pos 16) (val.i32 (negsuc 0)) no_fields))

-- a list's count by the long header, one that the short one has room for
abbrev list_bytes : List ℕ
list_bytes = 0xf5 ∷ 0x01 ∷ 0x02 ∷ []

-- so many lists, one in the other, around an empty one
abbrev nested : ℕ → List ℕ
nested n = replicate n 0x19 ++ 0x03 ∷ []

unfoldable lists : ℕ → Tree
lists zero = val.list T.I08 no_trees
lists (suc n) = val.list T.List (tree (lists n) no_trees)

-- the same limits with another ceiling; a reader and a writer under it
abbrev ceiling : ℕ → TConfiguration
ceiling n = record { depth = 64; string = 100; container = 100; message = n }

abbrev reads_under : ℕ → List ℕ → Took (Heading × ℕ)
reads_under n s = read (read_whole s as_bytes (fresh (ceiling n)))

abbrev writes_under : ℕ → ℕ → Ran
writes_under n room = run (write_whole as_bytes M.Call (record { 0 = pos 1 }) (0x74 ∷ []) message_fields) (replicate room 0) (begun (ceiling n))

-- the message's nine bytes, with the count from its first byte on: whole under a ceiling of 9; under 8 its last byte is missed, at the cut where there is input
-- behind it, at the true end where there is none; and the writer stops before it, for want of room only where the ceiling lets it
pub Ceilings : Type 0
Ceilings =
    (reads_under 9 message_bytes_lem ≡ took (message_read, 9) start)
    × (reads_under 9 (message_bytes_lem ++ 0x82 ∷ []) ≡ took (message_read, 9) start)
    × (reads_under 8 message_bytes_lem ≡ halted MESSAGE_SIZE)
    × (reads_under 8 (take 8 message_bytes_lem) ≡ halted END)
    × (reads_under 9 (take 8 message_bytes_lem) ≡ halted END)
    × (up_to (writes_under 9 9) ≡ message_bytes_lem)
    × (writes_under 8 9 ≡ stopped MESSAGE_SIZE)
    × (writes_under 8 8 ≡ stopped MESSAGE_SIZE)
    × (writes_under 9 8 ≡ stopped NO_ROOM)
    -- a second message has a count of its own, and so has a reader that is made behind the first
    × (read (and_on (read_whole (message_bytes_lem ++ message_bytes_lem) as_bytes (fresh (ceiling 9))) (λ m. read_whole (message_bytes_lem ++ message_bytes_lem) as_bytes)) ≡ took (message_read, 18) start)
    × (read (read_whole (message_bytes_lem ++ message_bytes_lem) as_bytes (fresh_at (place 9) (ceiling 9))) ≡ took (message_read, 18) start)
    -- three elements where the cut leaves two; and where the input does
    × (read (read_of (0x33 ∷ 0x01 ∷ 0x02 ∷ 0x03 ∷ []) T.List as_bytes (fresh (ceiling 3))) ≡ halted MESSAGE_SIZE)
    × (read (read_of (0x33 ∷ 0x01 ∷ 0x02 ∷ []) T.List as_bytes (fresh (ceiling 3))) ≡ halted END)

pub Samples : Type 0
Samples =
    (sent (write_whole as_bytes M.Call (record { 0 = pos 1 }) (0x74 ∷ []) message_fields) ≡ message_bytes_lem)
    × (read (read_whole message_bytes_lem as_bytes start) ≡ took (message_read, 9) start)
    × (sent (write_of as_bytes two) ≡ two_bytes)
    × (read (read_of two_bytes T.Struct as_bytes start) ≡ took (two, 4) start)
    × (sent (write_of as_bytes three) ≡ three_bytes)
    × (read (read_of three_bytes T.Struct as_bytes start) ≡ took (three, 13) start)
    × (read (read_of long_bytes T.Struct as_bytes start) ≡ took (long, 7) start)
    × (read (read_of list_bytes T.List as_bytes start) ≡ took (val.list T.I32 (tree (val.i32 (pos 1)) no_trees), 3) start)
    × (read (read_of (nested 64) T.List as_bytes start) ≡ took (lists 64, 65) start)
    × (read (read_of (0x01 ∷ []) T.Stop as_bytes start) ≡ halted BAD_TYPE)
    × (read (read_of (0x05 ∷ 0x02 ∷ []) T.Struct as_bytes start) ≡ halted END)

pub samples : Samples
unfolding Samples lists run write_of write_all write_pairs write_fields write_whole type_of writes leaves settled size_wrong why_not or_else unsound in_turn begun in_range defaults fewest eight wrote_at put_at field_call bool_call field_wrong count_wrong length_wrong text_wrong begin_wrong end_wrong short_delta field_bytes items_bytes pairs_bytes string_bytes message_bytes type_code truth_code message_code utf8 past decode fresh sound gate calls_to element bools begins ends read_bool read_i8 read_i16 read_i32 read_i64 read_double read_uuid read_bytes read_string read_list read_set read_map read_field read_message struct_begin struct_end bytes_part string_part uuid_part name_part read_at read_to done refuse and_then provided byte some int8 number32 number64 int16 int32 int64 double uuid truth binary text counted listed items mapped pairs ahead backed items_head pairs_head field_id field named versioned message type_by_number element_type field_type message_by_number read_all read_pairs read_fields holders read_levels read_of read_whole
samples = (refl, refl, refl, refl, refl, refl, refl, refl, refl, refl, refl)

pub ceilings : Ceilings
unfolding Ceilings run write_of write_all write_pairs write_fields write_whole type_of writes leaves settled size_wrong why_not or_else unsound in_turn begun in_range defaults fewest eight wrote_at put_at field_call bool_call field_wrong count_wrong length_wrong text_wrong begin_wrong end_wrong short_delta field_bytes items_bytes pairs_bytes string_bytes message_bytes type_code truth_code message_code utf8 past decode fresh sound gate calls_to element bools begins ends read_bool read_i8 read_i16 read_i32 read_i64 read_double read_uuid read_bytes read_string read_list read_set read_map read_field read_message struct_begin struct_end bytes_part string_part uuid_part name_part read_at read_to done refuse and_then provided byte some int8 number32 number64 int16 int32 int64 double uuid truth binary text counted listed items mapped pairs ahead backed items_head pairs_head field_id field named versioned message type_by_number element_type field_type message_by_number read_all read_pairs read_fields holders read_levels read_of read_whole
ceilings = (refl, refl, refl, refl, refl, refl, refl, refl, refl, refl, refl, refl, refl)

-- The premises of `mail` are met, by a ceiling that leaves no byte more: the message goes from a new writer to a new reader.
pub ranged_nine : Ranged (ceiling 9)
ranged_nine = record { deep = omega arith; long = omega arith; large = omega arith; heavy = omega arith }

pub header_nine : HeaderWithin (ceiling 9) (record { 0 = pos 1 }) (0x74 ∷ [])
unfolding utf8 past decode
header_nine = record { number = record { sfits = omega arith }; short = omega arith; text = refl }

pub within_nine : Within (ceiling 9) 0 (val.struct message_fields)
unfolding nesting nesting_fields Sized SizedFields Typed TypedFields
within_nine = record { nested = omega arith; sized = (tt, (tt, tt)); typed = (record { sfits = omega arith }, tt, (record { sfits = omega arith }, record { sfits = omega arith }, tt)) }

nine : length (bytes_of_whole M.Call (record { 0 = pos 1 }) (0x74 ∷ []) message_fields) ≡ 9
unfolding bytes_of_whole bytes_of bytes_of_fields message_bytes string_bytes field_bytes short_delta message_code type_code truth_code fewest
nine = refl

pub nine_sent : Mail (ceiling 9) as_bytes M.Call (record { 0 = pos 1 }) (0x74 ∷ []) message_fields (replicate 9 0)
nine_sent = mail (ceiling 9) ranged_nine as_bytes M.Call (record { 0 = pos 1 }) (0x74 ∷ []) message_fields header_nine within_nine (no_texts (val.struct message_fields)) (replicate 9 0) (omega (arith, nine)) (omega (arith, nine))
