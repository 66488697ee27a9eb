use Rattle.frame_rows.proofs.Puts.{wait_puts}
use Rattle.frame_rows.proofs.rest.put_wait.Goals as goal

pub returns-in-Head : goal.returns-in-Head
returns-in-Head c = search wait_puts

pub returns-in-Truth : goal.returns-in-Truth
returns-in-Truth c = search wait_puts

pub returns-in-List : goal.returns-in-List
returns-in-List c = search wait_puts

pub returns-in-Types : goal.returns-in-Types
returns-in-Types c = search wait_puts

pub returns-in-Varint : goal.returns-in-Varint
returns-in-Varint c = search wait_puts

pub returns-in-Number : goal.returns-in-Number
returns-in-Number c = search wait_puts
