use Rattle.skip.proofs.Call.{call_cases}
use Rattle.skip.proofs.skip_call.Goals as goal

pub skip_on-requires : goal.skip_on-requires
skip_on-requires c = search call_cases

pub returns-in-Nothing : goal.returns-in-Nothing
returns-in-Nothing c = search call_cases

pub returns-in-Truth : goal.returns-in-Truth
returns-in-Truth c = search call_cases

pub returns : goal.returns
returns c = search call_cases
