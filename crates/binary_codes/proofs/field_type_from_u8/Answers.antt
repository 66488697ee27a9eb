use Rattle.binary_codes.specs.Codes.{by_binary_code, coded}
use native.Mathlib.Nat.{le_refl}
use Rattle.types.specs.Refusals.{BAD_TYPE}
use Rattle.types.specs.declared.TypeRead.TheVariants.{Refused}
use Rattle.types.proofs.Tables.{behind}
use Rattle.binary_codes.proofs.field_type_from_u8.Goals as goal

pub returns-in-0 : goal.returns-in-0
unfolding by_binary_code
returns-in-0 c = cc

pub returns-in-1 : goal.returns-in-1
unfolding by_binary_code
returns-in-1 c = cc

pub returns-in-2 : goal.returns-in-2
unfolding by_binary_code
returns-in-2 c = cc

pub returns-in-3 : goal.returns-in-3
unfolding by_binary_code
returns-in-3 c = cc

pub returns-in-4 : goal.returns-in-4
unfolding by_binary_code
returns-in-4 c = cc

pub returns-in-5 : goal.returns-in-5
unfolding by_binary_code
returns-in-5 c = cc

pub returns-in-6 : goal.returns-in-6
unfolding by_binary_code
returns-in-6 c = cc

pub returns-in-7 : goal.returns-in-7
unfolding by_binary_code
returns-in-7 c = cc

pub returns-in-8 : goal.returns-in-8
unfolding by_binary_code
returns-in-8 c = cc

pub returns-in-9 : goal.returns-in-9
unfolding by_binary_code
returns-in-9 c = cc

pub returns-in-10 : goal.returns-in-10
unfolding by_binary_code
returns-in-10 c = cc

pub returns-in-11 : goal.returns-in-11
unfolding by_binary_code
returns-in-11 c = cc

pub returns-in-12 : goal.returns-in-12
unfolding by_binary_code
returns-in-12 c = cc

pub returns-in-13 : goal.returns-in-13
unfolding by_binary_code
returns-in-13 c = cc

pub returns-in-14 : goal.returns-in-14
unfolding by_binary_code
returns-in-14 c = cc

pub returns-in-15 : goal.returns-in-15
unfolding by_binary_code
returns-in-15 c = cc

pub returns-in-16 : goal.returns-in-16
unfolding by_binary_code
returns-in-16 c = cc

pub returns-in_default : goal.returns-in_default
unfolding by_binary_code
returns-in_default c = behind coded (Refused BAD_TYPE) 17 _ c.in_default.in_default-own.rest (le_refl 17)
