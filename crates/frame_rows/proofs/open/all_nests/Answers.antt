use borrow.Author.Rules.{rules}
use mathlib.Core.Path.{refl}
use native.Mathlib.Omega.{arith}
use Rattle.frame_rows.proofs.Cases.{all_nests_lem}
use Rattle.frame_rows.proofs.open.all_nests.Goals as goal

pub loop-d-init : goal.loop-d-init
loop-d-init c = (search rules, refl)

pub nest_at-requires : goal.nest_at-requires
nest_at-requires c = omega arith

pub returns-in-Refused : goal.returns-in-Refused
returns-in-Refused c = search all_nests_lem

pub loop-d-smaller : goal.loop-d-smaller
loop-d-smaller c = omega arith

pub loop-d-preserved : goal.loop-d-preserved
loop-d-preserved c = (omega arith, search all_nests_lem)

pub returns : goal.returns
returns c = search all_nests_lem
