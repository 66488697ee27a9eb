use Rattle.fault_lines.proofs.Rows.{fault_cases}
use Rattle.fault_lines.proofs.put_fault.Goals as goal

pub returns-then-s-gt-MOST_BYTES : goal.returns-then-s-gt-MOST_BYTES
returns-then-s-gt-MOST_BYTES c = search fault_cases

pub returns-in-Accepted : goal.returns-in-Accepted
returns-in-Accepted c = search fault_cases

pub returns-in-Refused : goal.returns-in-Refused
returns-in-Refused c = search fault_cases
