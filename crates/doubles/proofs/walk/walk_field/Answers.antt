use Rattle.std.proofs.Common.{rules}
use Rattle.doubles.proofs.Cases.{run_cases}
use Rattle.doubles.proofs.walk.walk_field.Goals as goal

pub returns-then-s-p : goal.returns-then-s-p
returns-then-s-p c = search (rules, run_cases)

pub bounds-s-p : goal.bounds-s-p
bounds-s-p c = search (rules, run_cases)

pub returns-then-delta-eq0 : goal.returns-then-delta-eq0
returns-then-delta-eq0 c = search (rules, run_cases)

pub returns-then-b-ne7 : goal.returns-then-b-ne7
returns-then-b-ne7 c = search (rules, run_cases)

pub overflow_cast-sum : goal.overflow_cast-sum
overflow_cast-sum c = search (rules, run_cases)

pub overflow_cast-sum-2 : goal.overflow_cast-sum-2
overflow_cast-sum-2 c = search (rules, run_cases)

pub overflow_add-sum : goal.overflow_add-sum
overflow_add-sum c = search (rules, run_cases)

pub returns-then-sum-gt32767 : goal.returns-then-sum-gt32767
returns-then-sum-gt32767 c = search (rules, run_cases)

pub overflow_cast-id : goal.overflow_cast-id
overflow_cast-id c = search (rules, run_cases)

pub overflow_add-p : goal.overflow_add-p
overflow_add-p c = search (rules, run_cases)

pub read_double-requires : goal.read_double-requires
read_double-requires c = search (rules, run_cases)

pub enum_known-bits : goal.enum_known-bits
enum_known-bits c = search (rules, run_cases)

pub jot-more-requires : goal.jot-more-requires
jot-more-requires c = search (rules, run_cases)

pub enum_told-1 : goal.enum_told-1
enum_told-1 c = search (rules, run_cases)

pub shape_of-row : goal.shape_of-row
shape_of-row c = search (rules, run_cases)

pub returns-in-Got : goal.returns-in-Got
returns-in-Got c = search (rules, run_cases)
