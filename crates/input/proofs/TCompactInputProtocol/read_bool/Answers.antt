use Rattle.input.proofs.Cases.{bool_cases}
use Rattle.input.proofs.TCompactInputProtocol.read_bool.Goals as goal

pub returns-in-Truth : goal.returns-in-Truth
returns-in-Truth c = search bool_cases

pub returns-in-Nothing : goal.returns-in-Nothing
returns-in-Nothing c = search bool_cases

pub returns : goal.returns
returns c = search bool_cases
