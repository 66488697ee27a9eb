use Rattle.frame_rows.proofs.Puts.{goal_puts}
use Rattle.frame_rows.proofs.rest.put_goal.Goals as goal

pub returns-in-Flag : goal.returns-in-Flag
returns-in-Flag c = search goal_puts

pub returns-in-Id : goal.returns-in-Id
returns-in-Id c = search goal_puts

pub returns-in-Count : goal.returns-in-Count
returns-in-Count c = search goal_puts

pub returns-in-Pairs : goal.returns-in-Pairs
returns-in-Pairs c = search goal_puts

pub returns-in-Length : goal.returns-in-Length
returns-in-Length c = search goal_puts

pub returns-in-Short : goal.returns-in-Short
returns-in-Short c = search goal_puts
