use borrow.Author.Rules.{rules}
use Rattle.fault_lines.proofs.Rows.{spaced_cases}
use Rattle.fault_lines.proofs.put_spaced.Goals as goal

pub loop-i-init : goal.loop-i-init
loop-i-init c = search (rules, spaced_cases)

pub put_word-p-requires : goal.put_word-p-requires
put_word-p-requires c = search (rules, spaced_cases)

pub bounds-bytes-i : goal.bounds-bytes-i
bounds-bytes-i c = search (rules, spaced_cases)

pub wide-requires : goal.wide-requires
wide-requires c = search (rules, spaced_cases)

pub put_hex-p-requires : goal.put_hex-p-requires
put_hex-p-requires c = search (rules, spaced_cases)

pub overflow_add-i : goal.overflow_add-i
overflow_add-i c = search (rules, spaced_cases)

pub loop-i-smaller : goal.loop-i-smaller
loop-i-smaller c = search (rules, spaced_cases)

pub loop-i-preserved : goal.loop-i-preserved
loop-i-preserved c = search (rules, spaced_cases)

pub returns : goal.returns
returns c = search (rules, spaced_cases)
