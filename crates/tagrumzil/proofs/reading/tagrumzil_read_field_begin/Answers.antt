use Rattle.tagrumzil.proofs.Through.{short_reads}
use Rattle.tagrumzil.proofs.reading.tagrumzil_read_field_begin.Goals as goal

pub returns-then-why-ne0 : goal.returns-then-why-ne0
returns-then-why-ne0 c = search short_reads

pub slice_bounds-short_row-end : goal.slice_bounds-short_row-end
slice_bounds-short_row-end c = search short_reads

pub returns-then-code-eq0 : goal.returns-then-code-eq0
returns-then-code-eq0 c = search short_reads

pub overflow_cast-sum : goal.overflow_cast-sum
overflow_cast-sum c = search short_reads

pub overflow_add-sum : goal.overflow_add-sum
overflow_add-sum c = search short_reads

pub overflow_cast-n : goal.overflow_cast-n
overflow_cast-n c = search short_reads

pub overflow_cast-first : goal.overflow_cast-first
overflow_cast-first c = search short_reads

pub returns : goal.returns
returns c = search short_reads
