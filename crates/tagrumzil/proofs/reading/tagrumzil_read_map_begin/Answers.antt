use Rattle.tagrumzil.proofs.Through.{map_reads}
use Rattle.tagrumzil.proofs.reading.tagrumzil_read_map_begin.Goals as goal

pub returns-then-why-ne0 : goal.returns-then-why-ne0
returns-then-why-ne0 c = search map_reads

pub slice_bounds-read_map_begin-end : goal.slice_bounds-read_map_begin-end
slice_bounds-read_map_begin-end c = search map_reads

pub returns-in-Got : goal.returns-in-Got
returns-in-Got c = search map_reads

pub returns-in-Refused : goal.returns-in-Refused
returns-in-Refused c = search map_reads
