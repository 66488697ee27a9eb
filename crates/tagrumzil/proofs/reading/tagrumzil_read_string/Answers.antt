use Rattle.tagrumzil.proofs.Through.{string_reads}
use Rattle.tagrumzil.proofs.reading.tagrumzil_read_string.Goals as goal

pub returns-then-why-ne0 : goal.returns-then-why-ne0
returns-then-why-ne0 c = search string_reads

pub slice_bounds-read_string-end : goal.slice_bounds-read_string-end
slice_bounds-read_string-end c = search string_reads

pub returns-in-Got : goal.returns-in-Got
returns-in-Got c = search string_reads

pub returns-in-Refused : goal.returns-in-Refused
returns-in-Refused c = search string_reads
