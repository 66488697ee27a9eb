-- Samples, computed: the bytes of the published tests of the Rust's binary protocol, and a message that meets every premise of the laws. Assumes nothing.
use mathlib.Core.Path.{◌≡◌, refl}
use mathlib.Core.Bool.{true}
use mathlib.Core.List.{[], ◌∷◌}
use native.Mathlib.Omega.{arith}
use lib.IntN.{pos, negsuc}
use lib.ListN.{replicate}
use Rattle.types.specs.Codes.{message_code}
use Rattle.types.specs.Limits.{in_range, defaults}
use Rattle.types.specs.declared.TType.TheVariants as T
use Rattle.types.specs.declared.TMessageType.TheVariants as M
use Rattle.types.specs.declared.SeqNo.{SeqNo}
use Rattle.types.specs.Value as val
use Rattle.types.specs.Value.{Tree, Fields, no_fields, no_pairs, type_of, size_p, nesting, nesting_pairs, nesting_fields, Sized, SizedPairs, SizedFields, Typed, TypedPairs, TypedFields, Within}
use Rattle.types.proofs.Limits.{Ranged}
use Rattle.utf8.specs.Utf8.{utf8, past, decode}
use Rattle.laws.specs.Written.{HeaderWithin}
use Rattle.laws.proofs.Texts.{as_bytes, no_texts}
use Rattle.big_endian.specs.Big.{big2, big4}
use Rattle.binary_codes.specs.Codes.{binary_code}
use Rattle.binary_puts.specs.Bytes.{truth_byte, field_bytes, items_bytes, pairs_bytes, string_bytes, message_bytes}
use Rattle.binary_output.specs.State.{begun}
use Rattle.binary_output.proofs.Laws.{new_sound}
use Rattle.binary_laws.specs.Written.{bytes_of, bytes_of_pairs, bytes_of_fields, bytes_of_whole}
use Rattle.binary_laws.specs.Writing.{run, write_whole}
use Rattle.binary_laws.proofs.WriteRead.{Mail, message_back}

-- must_write_strict_message_call_begin, must_write_field_begin, must_write_list_begin, must_write_map_begin; and an empty map
pub call_test : message_bytes M.Call (pos 1) (0x74 ∷ 0x65 ∷ 0x73 ∷ 0x74 ∷ []) ≡ 0x80 ∷ 0x01 ∷ 0x00 ∷ 0x01 ∷ 0x00 ∷ 0x00 ∷ 0x00 ∷ 0x04 ∷ 0x74 ∷ 0x65 ∷ 0x73 ∷ 0x74 ∷ 0x00 ∷ 0x00 ∷ 0x00 ∷ 0x01 ∷ []
unfolding message_bytes string_bytes message_code big4
call_test = refl

pub field_test : field_bytes T.String (pos 22) ≡ 0x0b ∷ 0x00 ∷ 0x16 ∷ []
unfolding field_bytes binary_code big2
field_test = refl

pub list_test : items_bytes T.Bool 5 ≡ 0x02 ∷ 0x00 ∷ 0x00 ∷ 0x00 ∷ 0x05 ∷ []
unfolding items_bytes binary_code big4
list_test = refl

pub map_test : pairs_bytes T.I64 T.Struct 32 ≡ 0x0a ∷ 0x0c ∷ 0x00 ∷ 0x00 ∷ 0x00 ∷ 0x20 ∷ []
unfolding pairs_bytes binary_code big4
map_test = refl

pub empty_map : pairs_bytes T.I64 T.Struct 0 ≡ 0x00 ∷ 0x00 ∷ 0x00 ∷ 0x00 ∷ 0x00 ∷ 0x00 ∷ []
unfolding pairs_bytes big4
empty_map = refl

-- fields 1 true, 2 i32 -1, 3 an empty map of strings to doubles
abbrev pub fields : Fields
fields = val.field (pos 1) (val.truth true) (val.field (pos 2) (val.i32 (negsuc 0)) (val.field (pos 3) (val.map T.String T.Double no_pairs) no_fields))

pub fields_bytes : bytes_of (val.struct fields) ≡ 0x02 ∷ 0x00 ∷ 0x01 ∷ 0x01 ∷ 0x08 ∷ 0x00 ∷ 0x02 ∷ 0xff ∷ 0xff ∷ 0xff ∷ 0xff ∷ 0x0d ∷ 0x00 ∷ 0x03 ∷ 0x00 ∷ 0x00 ∷ 0x00 ∷ 0x00 ∷ 0x00 ∷ 0x00 ∷ 0x00 ∷ []
unfolding bytes_of bytes_of_pairs bytes_of_fields type_of size_p field_bytes pairs_bytes truth_byte binary_code big2 big4
fields_bytes = refl

-- within the defaults
in_limits : Within defaults 0 (val.struct fields)
unfolding defaults nesting nesting_pairs nesting_fields Sized SizedPairs SizedFields Typed TypedPairs TypedFields size_p
in_limits =
    record {
      nested = omega arith;
      sized = (tt, (tt, ((omega arith, tt), tt)));
      typed = (record { sfits = omega arith }, tt, (record { sfits = omega arith }, record { sfits = omega arith }, (record { sfits = omega arith }, tt, tt)));
    }

abbrev pub one : SeqNo
one = record { 0 = pos 1 }

in_header_lem : HeaderWithin defaults one (0x74 ∷ [])
unfolding defaults utf8 past decode
in_header_lem = record { number = record { sfits = omega arith }; short = omega arith; text = refl }

in_ranges : Ranged defaults
unfolding defaults
in_ranges = record { deep = omega arith; long = omega arith; large = omega arith; heavy = omega arith }

in_range_lem : in_range defaults ≡ true
unfolding defaults in_range
in_range_lem = refl

-- written by the calls into a buffer of 34 bytes, which it fills, it is read back
pub mail_back : Mail defaults 64 M.Call one (0x74 ∷ []) fields (begun defaults) (run (write_whole as_bytes M.Call one (0x74 ∷ []) fields) (replicate 34 0) (begun defaults))
unfolding begun defaults bytes_of_whole message_bytes string_bytes message_code big2 big4 bytes_of bytes_of_pairs bytes_of_fields type_of size_p field_bytes pairs_bytes truth_byte binary_code
mail_back =
    message_back defaults in_ranges as_bytes 0 (begun defaults) (record { lims = refl; deep = refl }) (replicate 34 0) (new_sound defaults 34 in_range_lem) M.Call one (0x74 ∷ []) fields
    in_header_lem in_limits (no_texts (val.struct fields)) (omega arith) (omega arith)
