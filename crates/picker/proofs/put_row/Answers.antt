use native.Mathlib.Omega.{arith}
use lib.ListN.{length-set}
use Rattle.picker.proofs.Cases.{put_cases}
use Rattle.picker.proofs.put_row.Goals as goal

pub bounds-rows-j-2 : goal.bounds-rows-j-2
bounds-rows-j-2 c = simp length-set (omega arith)

pub bounds-rows-j-3 : goal.bounds-rows-j-3
bounds-rows-j-3 c = simp length-set (omega arith)

pub returns : goal.returns
returns c = search put_cases
