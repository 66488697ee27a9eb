use borrow.Author.Rules.{rules}
use Rattle.picker.proofs.Cases.{note_cases}
use Rattle.picker.proofs.note_field.Goals as goal

pub loop-j-init : goal.loop-j-init
loop-j-init c = (search (rules, note_cases), search (rules, note_cases), search (rules, note_cases))

pub offset_bounds-ids-j : goal.offset_bounds-ids-j
offset_bounds-ids-j c = search (rules, note_cases)

pub bounds-ids-j : goal.bounds-ids-j
bounds-ids-j c = search (rules, note_cases)

pub same_id-mine-requires : goal.same_id-mine-requires
same_id-mine-requires c = search (rules, note_cases)

pub bounds-kinds-j : goal.bounds-kinds-j
bounds-kinds-j c = search (rules, note_cases)

pub note_row-requires : goal.note_row-requires
note_row-requires c = search (rules, note_cases)

pub overflow_add-j : goal.overflow_add-j
overflow_add-j c = search (rules, note_cases)

pub loop-j-smaller : goal.loop-j-smaller
loop-j-smaller c = search (rules, note_cases)

pub loop-j-preserved : goal.loop-j-preserved
loop-j-preserved c = (search (rules, note_cases), search (rules, note_cases), search (rules, note_cases))

pub shape_of-rows : goal.shape_of-rows
shape_of-rows c = search (rules, note_cases)

pub returns : goal.returns
returns c = search (rules, note_cases)
