use Rattle.input.proofs.Cases.{begin_cases}
use Rattle.input.proofs.TCompactInputProtocol.read_struct_begin.Goals as goal

pub returns-then-why-ne0 : goal.returns-then-why-ne0
returns-then-why-ne0 c = search begin_cases

pub returns-then-self-depth : goal.returns-then-self-depth
returns-then-self-depth c = search begin_cases

pub offset_bounds-next-depth : goal.offset_bounds-next-depth
offset_bounds-next-depth c = search begin_cases

pub bounds-next-depth : goal.bounds-next-depth
bounds-next-depth c = search begin_cases

pub returns : goal.returns
returns c = search begin_cases
