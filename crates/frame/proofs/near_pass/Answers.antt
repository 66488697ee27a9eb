use Rattle.frame.proofs.Nearby.{pass_cases}
use Rattle.frame.proofs.near_pass.Goals as goal

pub returns-in-Up : goal.returns-in-Up
returns-in-Up c = search pass_cases

pub returns-in-Asks : goal.returns-in-Asks
returns-in-Asks c = search pass_cases

pub returns-in-Enters : goal.returns-in-Enters
returns-in-Enters c = search pass_cases

pub returns-in-Refused : goal.returns-in-Refused
returns-in-Refused c = search pass_cases

pub returns : goal.returns
returns c = search pass_cases
