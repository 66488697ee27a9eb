use Rattle.doubles.proofs.Answers.{answers_cases}
use Rattle.doubles.proofs.f32_answers.Goals as goal

pub returns-then-row-n : goal.returns-then-row-n
returns-then-row-n c = search answers_cases

pub put_answers-requires : goal.put_answers-requires
put_answers-requires c = search answers_cases

pub returns-in-Refused : goal.returns-in-Refused
returns-in-Refused c = search answers_cases

pub returns-else-row-n : goal.returns-else-row-n
returns-else-row-n c = search answers_cases
