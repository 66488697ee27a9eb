use Rattle.tagrumzil.proofs.Through.{field_reads}
use Rattle.tagrumzil.proofs.reading.any_field.Goals as goal

pub returns-then-why-ne0 : goal.returns-then-why-ne0
returns-then-why-ne0 c = search field_reads

pub slice_bounds-field_at-end : goal.slice_bounds-field_at-end
slice_bounds-field_at-end c = search field_reads

pub returns-in-Stop : goal.returns-in-Stop
returns-in-Stop c = search field_reads

pub returns-in-Bool : goal.returns-in-Bool
returns-in-Bool c = search field_reads

pub returns-in-Value : goal.returns-in-Value
returns-in-Value c = search field_reads

pub returns-in-Refused : goal.returns-in-Refused
returns-in-Refused c = search field_reads
