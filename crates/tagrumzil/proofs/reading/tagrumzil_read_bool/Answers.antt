use Rattle.tagrumzil.proofs.Through.{bool_reads}
use Rattle.tagrumzil.proofs.reading.tagrumzil_read_bool.Goals as goal

pub returns-then-why-eq-OUT_OF_TURN : goal.returns-then-why-eq-OUT_OF_TURN
returns-then-why-eq-OUT_OF_TURN c = search bool_reads

pub returns-then-why-ne0 : goal.returns-then-why-ne0
returns-then-why-ne0 c = search bool_reads

pub slice_bounds-read_bool-end : goal.slice_bounds-read_bool-end
slice_bounds-read_bool-end c = search bool_reads

pub returns-in-Got : goal.returns-in-Got
returns-in-Got c = search bool_reads

pub returns-in-Refused : goal.returns-in-Refused
returns-in-Refused c = search bool_reads
