use borrow.Author.Rules.{rules}
use Rattle.fault_lines.proofs.Rows.{steps_cases}
use Rattle.fault_lines.proofs.put_steps.Goals as goal

pub loop-k-init : goal.loop-k-init
loop-k-init c = search (rules, steps_cases)

pub overflow_mul-kind : goal.overflow_mul-kind
overflow_mul-kind c = search (rules, steps_cases)

pub offset_bounds-row-k : goal.offset_bounds-row-k
offset_bounds-row-k c = search (rules, steps_cases)

pub bounds-row-k : goal.bounds-row-k
bounds-row-k c = search (rules, steps_cases)

pub overflow_mul-number : goal.overflow_mul-number
overflow_mul-number c = search (rules, steps_cases)

pub overflow_add-number : goal.overflow_add-number
overflow_add-number c = search (rules, steps_cases)

pub offset_bounds-row-k-in-loop-k : goal.offset_bounds-row-k-in-loop-k
offset_bounds-row-k-in-loop-k c = search (rules, steps_cases)

pub bounds-row-k-in-loop-k : goal.bounds-row-k-in-loop-k
bounds-row-k-in-loop-k c = search (rules, steps_cases)

pub put_word-p-requires : goal.put_word-p-requires
put_word-p-requires c = search (rules, steps_cases)

pub put_kind-p-requires : goal.put_kind-p-requires
put_kind-p-requires c = search (rules, steps_cases)

pub put_int-p-requires : goal.put_int-p-requires
put_int-p-requires c = search (rules, steps_cases)

pub overflow_add-k : goal.overflow_add-k
overflow_add-k c = search (rules, steps_cases)

pub loop-k-smaller : goal.loop-k-smaller
loop-k-smaller c = search (rules, steps_cases)

pub loop-k-preserved : goal.loop-k-preserved
loop-k-preserved c = search (rules, steps_cases)

pub shape_of-out : goal.shape_of-out
shape_of-out c = search (rules, steps_cases)

pub returns : goal.returns
returns c = search (rules, steps_cases)
