use Rattle.faults.proofs.Reaches.{named_cases}
use Rattle.faults.proofs.reach.named_reach.Goals as goal

pub number_reach-requires-in-Refused-read_bytes : goal.number_reach-requires-in-Refused-read_bytes
number_reach-requires-in-Refused-read_bytes c = search named_cases

pub returns-in-Refused : goal.returns-in-Refused
returns-in-Refused c = search named_cases

pub returns-in-Refused-read_bytes : goal.returns-in-Refused-read_bytes
returns-in-Refused-read_bytes c = search named_cases

pub returns-in-Got-read_bytes : goal.returns-in-Got-read_bytes
returns-in-Got-read_bytes c = search named_cases
