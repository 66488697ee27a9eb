use Rattle.frame.proofs.TurnCases.{over_cases}
use Rattle.frame.proofs.turn_over.Goals as goal

pub returns-in-Fields : goal.returns-in-Fields
returns-in-Fields c = search over_cases

pub returns-in-Items : goal.returns-in-Items
returns-in-Items c = search over_cases

pub returns-in-Keys : goal.returns-in-Keys
returns-in-Keys c = search over_cases

pub returns-in-Values : goal.returns-in-Values
returns-in-Values c = search over_cases
