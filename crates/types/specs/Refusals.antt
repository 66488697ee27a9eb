-- The refusal numbers of the scope paper's table, by name. Assumes nothing.
use Rattle.std.specs.Prelude.{ℕ}

-- a byte needed lies past the input
abbrev pub END : ℕ
END = 1

-- first message byte is not 0x82, or the low 5 bits of the second are not 1
abbrev pub BAD_VERSION : ℕ
BAD_VERSION = 2

-- message type not 1 to 4
abbrev pub BAD_MESSAGE_TYPE : ℕ
BAD_MESSAGE_TYPE = 3

-- a code without a type; Stop where a value's type is asked
abbrev pub BAD_TYPE : ℕ
BAD_TYPE = 4

-- an element bool is not 0, 1, 2
abbrev pub BAD_BOOL : ℕ
BAD_BOOL = 5

-- all 5 (32 bits) or 10 (64 bits) bytes have the top bit set
abbrev pub LONG_VARINT : ℕ
LONG_VARINT = 6

-- last id plus delta is over 32,767
abbrev pub FIELD_ID : ℕ
FIELD_ID = 7

-- a length or count is over its limit
abbrev pub SIZE_LIMIT : ℕ
SIZE_LIMIT = 8

-- a count is below 0 as a signed 32-bit number
abbrev pub NEGATIVE_SIZE : ℕ
NEGATIVE_SIZE = 9

-- a struct is begun, or skip enters any container, at the depth limit
abbrev pub DEPTH : ℕ
DEPTH = 10

-- a string or message name breaks RFC 3629
abbrev pub BAD_UTF8 : ℕ
BAD_UTF8 = 11

-- a bool is pending and the call is neither the bool call nor a skip of Bool; or a struct is ended at depth 0
abbrev pub OUT_OF_TURN : ℕ
OUT_OF_TURN = 12

-- 13 stays unused

-- the output lent is too short for this call's bytes or answers
abbrev pub NO_ROOM : ℕ
NO_ROOM = 14

-- a limit out of range, a place past the buffer's end, a depth over its limit; a message's beginning past the place, a place past its cut
abbrev pub BAD_STATE : ℕ
BAD_STATE = 15

-- wanted ids and types differ in number, over 64 entries, an id twice, or a type that no field can have
abbrev pub BAD_LIST : ℕ
BAD_LIST = 16

-- an i16, as value or field id, whose zigzag number lies outside -32,768 to 32,767
abbrev pub RANGE : ℕ
RANGE = 17

-- a day file that breaks its rules, a message number of N or more, or messages that make no day file
abbrev pub BAD_DAY : ℕ
BAD_DAY = 18

-- a byte missed where the message's ceiling ends it, with input behind; a call that would write past the ceiling
abbrev pub MESSAGE_SIZE : ℕ
MESSAGE_SIZE = 19
