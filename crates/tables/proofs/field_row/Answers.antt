use borrow.Author.Rules.{rules}
use mathlib.Core.Path.{refl}
use Rattle.types.specs.Codes.{field_type, type_by_number, type_code, truth_code}
use Rattle.tables.specs.Rows.{field_row}
use Rattle.tables.proofs.Arms.{field_at, last_arm}
use Rattle.tables.proofs.field_row.Goals as goal

pub returns-in_default : goal.returns-in_default
unfolding field_row field_type type_by_number type_code truth_code
returns-in_default c = field_at _ 255 _ (last_arm _ (search rules) c.in_default.in_default-own.rest) refl
