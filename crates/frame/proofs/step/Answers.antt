use Rattle.frame.proofs.Cases.{step_cases}
use Rattle.frame.proofs.step.Goals as goal

pub returns-then-b-lt3 : goal.returns-then-b-lt3
returns-then-b-lt3 c = search step_cases

pub grow-requires : goal.grow-requires
grow-requires c = search step_cases

pub number-requires : goal.number-requires
number-requires c = search step_cases

pub returns-in-Fields : goal.returns-in-Fields
returns-in-Fields c = search step_cases

pub returns-in-Items : goal.returns-in-Items
returns-in-Items c = search step_cases

pub returns-in-Keys : goal.returns-in-Keys
returns-in-Keys c = search step_cases

pub returns-in-Values : goal.returns-in-Values
returns-in-Values c = search step_cases

pub returns-else-b-lt3 : goal.returns-else-b-lt3
returns-else-b-lt3 c = search step_cases

pub returns-in-List : goal.returns-in-List
returns-in-List c = search step_cases

pub returns-in-Types : goal.returns-in-Types
returns-in-Types c = search step_cases

pub returns-in-Whole : goal.returns-in-Whole
returns-in-Whole c = search step_cases

pub returns-in-More : goal.returns-in-More
returns-in-More c = search step_cases

pub returns-in-Long : goal.returns-in-Long
returns-in-Long c = search step_cases

pub returns-in-Number : goal.returns-in-Number
returns-in-Number c = search step_cases
