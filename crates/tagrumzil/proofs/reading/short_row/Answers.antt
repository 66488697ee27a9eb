use Rattle.tagrumzil.proofs.Shorts.{short_rows}
use Rattle.tagrumzil.proofs.reading.short_row.Goals as goal

pub returns-then-s-at : goal.returns-then-s-at
returns-then-s-at c = search short_rows

pub returns-then-first-eq0 : goal.returns-then-first-eq0
returns-then-first-eq0 c = search short_rows

pub returns-then-delta-eq0 : goal.returns-then-delta-eq0
returns-then-delta-eq0 c = search short_rows

pub overflow_cast-last : goal.overflow_cast-last
overflow_cast-last c = search short_rows

pub overflow_add-last : goal.overflow_add-last
overflow_add-last c = search short_rows

pub returns-then-last-delta-gt32767 : goal.returns-then-last-delta-gt32767
returns-then-last-delta-gt32767 c = search short_rows

pub returns : goal.returns
returns c = search short_rows
