use Rattle.days.proofs.Puts.{head_cases, head_begun}
use Rattle.days.proofs.put_header.Goals as goal

pub put_number-requires : goal.put_number-requires
put_number-requires c = search head_cases

pub put_number-requires-2 : goal.put_number-requires-2
put_number-requires-2 c = search head_cases

pub loop-i-init : goal.loop-i-init
loop-i-init c = head_begun _ c.args.ends.now (search head_cases)

pub overflow_add-i : goal.overflow_add-i
overflow_add-i c = search head_cases

pub overflow_add-base-in-loop-i : goal.overflow_add-base-in-loop-i
overflow_add-base-in-loop-i c = search head_cases

pub put_number-requires-in-loop-i : goal.put_number-requires-in-loop-i
put_number-requires-in-loop-i c = search head_cases

pub overflow_add-i-in-loop-i : goal.overflow_add-i-in-loop-i
overflow_add-i-in-loop-i c = search head_cases

pub loop-i-preserved : goal.loop-i-preserved
loop-i-preserved c = search head_cases

pub shape_of-out : goal.shape_of-out
shape_of-out c = search head_cases

pub returns : goal.returns
returns c = search head_cases
