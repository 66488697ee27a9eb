use Rattle.faults.proofs.Call.{header_cases}
use Rattle.faults.proofs.why_message.Goals as goal

pub returns-then-number-ne0 : goal.returns-then-number-ne0
returns-then-number-ne0 c = search header_cases

pub slice_bounds-read_message_begin-end : goal.slice_bounds-read_message_begin-end
slice_bounds-read_message_begin-end c = search header_cases

pub slice_bounds-message_reach-end : goal.slice_bounds-message_reach-end
slice_bounds-message_reach-end c = search header_cases

pub message_reach-reach-requires : goal.message_reach-reach-requires
message_reach-reach-requires c = search header_cases

pub last_read-requires : goal.last_read-requires
last_read-requires c = search header_cases

pub returns-in-Got : goal.returns-in-Got
returns-in-Got c = search header_cases

pub returns-in-Refused : goal.returns-in-Refused
returns-in-Refused c = search header_cases
