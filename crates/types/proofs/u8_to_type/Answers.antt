use Rattle.types.specs.Codes.{type_by_number, numbered}
use native.Mathlib.Nat.{le_refl}
use Rattle.types.specs.Refusals.{BAD_TYPE}
use Rattle.types.specs.declared.TypeRead.TheVariants.{Refused}
use Rattle.types.proofs.Tables.{behind}
use Rattle.types.proofs.u8_to_type.Goals as goal

pub returns-in-0 : goal.returns-in-0
unfolding type_by_number
returns-in-0 c = cc

pub returns-in-1 : goal.returns-in-1
unfolding type_by_number
returns-in-1 c = cc

pub returns-in-2 : goal.returns-in-2
unfolding type_by_number
returns-in-2 c = cc

pub returns-in-3 : goal.returns-in-3
unfolding type_by_number
returns-in-3 c = cc

pub returns-in-4 : goal.returns-in-4
unfolding type_by_number
returns-in-4 c = cc

pub returns-in-5 : goal.returns-in-5
unfolding type_by_number
returns-in-5 c = cc

pub returns-in-6 : goal.returns-in-6
unfolding type_by_number
returns-in-6 c = cc

pub returns-in-7 : goal.returns-in-7
unfolding type_by_number
returns-in-7 c = cc

pub returns-in-8 : goal.returns-in-8
unfolding type_by_number
returns-in-8 c = cc

pub returns-in-9 : goal.returns-in-9
unfolding type_by_number
returns-in-9 c = cc

pub returns-in-10 : goal.returns-in-10
unfolding type_by_number
returns-in-10 c = cc

pub returns-in-11 : goal.returns-in-11
unfolding type_by_number
returns-in-11 c = cc

pub returns-in-12 : goal.returns-in-12
unfolding type_by_number
returns-in-12 c = cc

pub returns-in-13 : goal.returns-in-13
unfolding type_by_number
returns-in-13 c = cc

pub returns-in_default : goal.returns-in_default
unfolding type_by_number
returns-in_default c = behind numbered (Refused BAD_TYPE) 14 _ c.in_default.in_default-own.rest (le_refl 14)
