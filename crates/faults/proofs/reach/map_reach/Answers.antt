use native.Mathlib.Omega.{arith}
use Rattle.faults.proofs.Reaches.{reach_map, number_in}
use Rattle.faults.proofs.reach.map_reach.Goals as goal

pub returns-in-Refused : goal.returns-in-Refused
returns-in-Refused c = search reach_map

pub returns-then-n-eq0 : goal.returns-then-n-eq0
returns-then-n-eq0 c = search reach_map

pub overflow_add-result : goal.overflow_add-result
overflow_add-result c = record { fits = omega (arith, number_in _ _ _ c.read_varint32.ensures _ _ c.in-Got.is) }

pub returns-in-Got : goal.returns-in-Got
returns-in-Got c = search reach_map
