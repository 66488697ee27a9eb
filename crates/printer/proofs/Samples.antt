-- Counts that can't be there, and the scope paper's `list stop 3`, computed on the items that are printed. Assumes nothing.
use mathlib.Core.Path.{◌≡◌, refl}
use mathlib.Core.List.{List, [], ◌∷◌, ◌++◌}
use Prim.Native.Nat.{ℕ}
use lib.IntN.{pos}
use lib.ListN.{replicate}
use Rattle.types.specs.Refusals.{END, BAD_TYPE, SIZE_LIMIT}
use Rattle.types.specs.Codes.{type_code, type_by_number, element_type, field_type, message_by_number}
use Rattle.types.specs.declared.TType.TheVariants as T
use Rattle.types.specs.declared.TMessageType.TheVariants as M
use Rattle.utf8.specs.Utf8.{utf8, past, decode}
use Rattle.heads.specs.Reader.{done, refuse, and_then, provided, byte, some, ahead, backed}
use Rattle.heads.specs.Heads.{number32, int16, int32, binary, text, counted, listed, items, mapped, pairs, items_head, pairs_head, field_id, field, named, versioned, message}
use Rattle.lines.specs.Lines as row
use Rattle.lines.specs.Lines.{Item}
use Rattle.printer.specs.Telling.{quiet, aloud, then_tell, provided_t, voiced}
use Rattle.printer.specs.Value.{row_told, pair_told, items_told, map_told, walk_told, fields_told, struct_told, value_told}
use Rattle.printer.specs.Printing.{message_told, whole, report}

-- a call named t whose struct has a list in field 1: up to the list's header
abbrev front : List ℕ
front = 0x82 ∷ 0x21 ∷ 0x01 ∷ 0x01 ∷ 0x74 ∷ 0x19 ∷ []

abbrev begun : List Item → List Item
begun is = row.message M.Call (pos 1) (0x74 ∷ []) ∷ row.struct ∷ row.field (pos 1) T.List ∷ is

pub Samples : Type 0
Samples =
    -- 60,000 doubles in 40 bytes: the header has no line
    (report (front ++ (0xf7 ∷ 0xe0 ∷ 0xd4 ∷ 0x03 ∷ replicate 30 0)) ≡ begun (row.refusal END ∷ []))
    -- two thousand million: over the program's own limit, which comes first
    × (report (front ++ (0xf7 ∷ 0x80 ∷ 0xa8 ∷ 0xd6 ∷ 0xb9 ∷ 0x07 ∷ replicate 28 0)) ≡ begun (row.refusal SIZE_LIMIT ∷ []))
    -- "`list stop 3`, then `refused 4`", where three bytes are left
    × (report (front ++ (0x30 ∷ replicate 3 0)) ≡ begun (row.items T.List T.Stop 3 ∷ row.refusal BAD_TYPE ∷ []))
    × (report (front ++ (0x30 ∷ replicate 2 0)) ≡ begun (row.refusal END ∷ []))

pub samples : Samples
unfolding Samples report whole message_told value_told struct_told fields_told walk_told row_told pair_told items_told map_told quiet aloud then_tell provided_t voiced done refuse and_then provided byte some ahead backed number32 int16 int32 binary text counted listed items mapped pairs items_head pairs_head field_id field named versioned message type_code type_by_number element_type field_type message_by_number utf8 past decode
samples = (refl, refl, refl, refl)
