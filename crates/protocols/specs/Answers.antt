-- What the functions that read a protocol's words at a place answer, as the enums of `heads`, and what skip of a value answers. Assumes nothing: these are
-- definitions.
use Rattle.std.specs.Prelude.{ℕ, List, ℤ}
use Rattle.types.specs.declared.TType.{TType}
use Rattle.types.specs.declared.TConfiguration.{TConfiguration}
use Rattle.heads.specs.Reader.{read_at, read_to}
use Rattle.heads.specs.Answers.{to_i8, to_i16, to_i32, to_i64, to_double, to_bool, to_part, to_list, to_map, to_field}
use Rattle.heads.specs.declared.I8Read.{I8Read}
use Rattle.heads.specs.declared.I16Read.{I16Read}
use Rattle.heads.specs.declared.I32Read.{I32Read}
use Rattle.heads.specs.declared.I64Read.{I64Read}
use Rattle.heads.specs.declared.DoubleRead.{DoubleRead}
use Rattle.heads.specs.declared.BoolRead.{BoolRead}
use Rattle.heads.specs.declared.PartRead.{PartRead}
use Rattle.heads.specs.declared.ListHead.{ListHead}
use Rattle.heads.specs.declared.MapHead.{MapHead}
use Rattle.heads.specs.declared.FieldHead.{FieldHead}
use Rattle.skip.specs.Skip.{past, passed}
use Rattle.skip.specs.declared.Skipped.{Skipped}
use Rattle.protocols.specs.Words.{Words, items_head, pairs_head}
use Rattle.protocols.specs.Value.{value_by}

-- scalars
unfoldable pub truth_at : Words → List ℕ → ℕ → BoolRead
truth_at w s at = to_bool (read_at w.truth s at)

unfoldable pub int8_at : Words → List ℕ → ℕ → I8Read
int8_at w s at = to_i8 (read_at w.int8 s at)

unfoldable pub int16_at : Words → List ℕ → ℕ → I16Read
int16_at w s at = to_i16 (read_at w.int16 s at)

unfoldable pub int32_at : Words → List ℕ → ℕ → I32Read
int32_at w s at = to_i32 (read_at w.int32 s at)

unfoldable pub int64_at : Words → List ℕ → ℕ → I64Read
int64_at w s at = to_i64 (read_at w.int64 s at)

unfoldable pub double_at : Words → List ℕ → ℕ → DoubleRead
double_at w s at = to_double (read_at w.double s at)

unfoldable pub uuid_at : Words → List ℕ → ℕ → PartRead
uuid_at w s at = to_part (read_at w.uuid s at)

-- headers
unfoldable pub binary_at : Words → List ℕ → TConfiguration → ℕ → PartRead
binary_at w s lim at = to_part (read_at (w.binary lim) s at)

unfoldable pub items_at : Words → List ℕ → TConfiguration → ℕ → ListHead
items_at w s lim at = to_list (read_at (w.items lim) s at)

unfoldable pub pairs_at : Words → List ℕ → TConfiguration → ℕ → MapHead
pairs_at w s lim at = to_map (read_at (w.pairs lim) s at)

unfoldable pub items_head_at : Words → List ℕ → TConfiguration → ℕ → ListHead
items_head_at w s lim at = to_list (read_at (items_head w lim) s at)

unfoldable pub pairs_head_at : Words → List ℕ → TConfiguration → ℕ → MapHead
pairs_head_at w s lim at = to_map (read_at (pairs_head w lim) s at)

unfoldable pub field_at : Words → List ℕ → ℤ → ℕ → FieldHead
field_at w s last at = to_field (read_at (w.field last) s at)

-- skip of a value of a type at a place, with `room` levels left
unfoldable pub skip_by : Words → List ℕ → TConfiguration → ℕ → TType → ℕ → Skipped
skip_by w s lim room ty at = past (value_by w lim room ty) s at

-- the same up to a cut: what is missed there, with input behind it, is MESSAGE SIZE
unfoldable pub skip_to_by : Words → List ℕ → ℕ → TConfiguration → ℕ → TType → ℕ → Skipped
skip_to_by w s cut lim room ty at = passed (read_to (value_by w lim room ty) s cut at)
