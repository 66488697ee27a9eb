use Rattle.days.proofs.Cases.{message_cases}
use Rattle.days.proofs.find_message.Goals as goal

pub returns-then-n-k : goal.returns-then-n-k
returns-then-n-k c = search message_cases

pub number_at-start-requires : goal.number_at-start-requires
number_at-start-requires c = search message_cases

pub overflow_add-k-in-Count : goal.overflow_add-k-in-Count
overflow_add-k-in-Count c = search message_cases

pub number_at-end-requires : goal.number_at-end-requires
number_at-end-requires c = search message_cases

pub returns-else-n-k : goal.returns-else-n-k
returns-else-n-k c = search message_cases

pub returns-in-Refused : goal.returns-in-Refused
returns-in-Refused c = search message_cases
