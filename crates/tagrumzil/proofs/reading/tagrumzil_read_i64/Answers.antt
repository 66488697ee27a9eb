use Rattle.tagrumzil.proofs.Through.{i64_reads}
use Rattle.tagrumzil.proofs.reading.tagrumzil_read_i64.Goals as goal

pub returns-then-why-ne0 : goal.returns-then-why-ne0
returns-then-why-ne0 c = search i64_reads

pub slice_bounds-read_i64-end : goal.slice_bounds-read_i64-end
slice_bounds-read_i64-end c = search i64_reads

pub returns-in-Got : goal.returns-in-Got
returns-in-Got c = search i64_reads

pub returns-in-Refused : goal.returns-in-Refused
returns-in-Refused c = search i64_reads
