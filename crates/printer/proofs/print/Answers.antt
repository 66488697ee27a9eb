use Rattle.printer.proofs.Whole.{call_cases}
use Rattle.printer.proofs.print.Goals as goal

pub returns-then-out-lt-ROOM : goal.returns-then-out-lt-ROOM
returns-then-out-lt-ROOM c = search call_cases

pub returns-then-s-gt-MOST : goal.returns-then-s-gt-MOST
returns-then-s-gt-MOST c = search call_cases

pub returns : goal.returns
returns c = search call_cases
