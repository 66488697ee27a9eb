use borrow.Author.Rules.{rules}
use mathlib.Core.Path.{refl}
use Rattle.types.specs.Codes.{element_type, type_by_number, type_code}
use Rattle.tables.specs.Rows.{list_row}
use Rattle.tables.proofs.Arms.{list_at, last_arm}
use Rattle.tables.proofs.list_row.Goals as goal

pub returns-in_default : goal.returns-in_default
unfolding list_row element_type type_by_number type_code
returns-in_default c = list_at _ 255 _ (last_arm _ (search rules) c.in_default.in_default-own.rest) refl
