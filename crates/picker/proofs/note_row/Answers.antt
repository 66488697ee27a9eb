use Rattle.picker.proofs.Cases.{note_row_cases}
use Rattle.picker.proofs.note_row.Goals as goal

pub returns-then-same : goal.returns-then-same
returns-then-same c = search note_row_cases

pub returns-then-gives_way : goal.returns-then-gives_way
returns-then-gives_way c = search note_row_cases

pub returns-then-mine : goal.returns-then-mine
returns-then-mine c = search note_row_cases

pub returns : goal.returns
returns c = search note_row_cases
