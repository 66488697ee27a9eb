use mathlib.Core.Path.{refl, sym}
use Prim.Native.Nat.{◌-◌}
use native.Mathlib.Omega.{arith}
use lib.ListN.{length, length-drop}
use Rattle.frame.proofs.Looks.{run_final, run_waits, run_body, run_open, run_room, run_ready, run_allowed, near_on, far_on, progress_is, burst_on, burst_stands}
use Rattle.frame.proofs.run.Goals as goal

pub loop-wait-init : goal.loop-wait-init
loop-wait-init c = (omega arith, refl, c.requires)

pub returns-in_default : goal.returns-in_default
returns-in_default c = progress_is _ _ _ _ _ _ _ c.come_to.ensures (run_final _ _ _ _ _ c.loop-wait.invariant.2 _ _ c.loop-wait.invariant.1 c.in_default.not-Asks)

pub overflow_sub-here : goal.overflow_sub-here
overflow_sub-here c = omega arith

pub overflow_sub-rest : goal.overflow_sub-rest
overflow_sub-rest c = omega (arith, run_body _ _ _ _ _ c.loop-wait.invariant.2 _ _ c.loop-wait.invariant.1 _ c.in-Asks.is)

pub overflow_add-used : goal.overflow_add-used
overflow_add-used c = record { fits = omega (arith, run_body _ _ _ _ _ c.loop-wait.invariant.2 _ _ c.loop-wait.invariant.1 _ c.in-Asks.is, c.loop-wait.invariant.2.fits, c.loop-wait.invariant.2.sum) }

pub returns-then-here-body : goal.returns-then-here-body
returns-then-here-body c = progress_is _ _ _ _ _ _ _ c.come_to-then-here-body.ensures (run_waits _ _ _ _ _ c.loop-wait.invariant.2 _ _ c.loop-wait.invariant.1 _ c.in-Asks.is (length c.args.burst.now - c.loop-wait.at) (sym (length-drop c.loop-wait.at c.args.burst.now)) (omega arith))

pub overflow_add-at : goal.overflow_add-at
overflow_add-at c = omega arith

pub bounds-burst-at : goal.bounds-burst-at
bounds-burst-at c = omega arith

pub overflow_add-at-in-loop-wait : goal.overflow_add-at-in-loop-wait
overflow_add-at-in-loop-wait c = omega arith

pub overflow_add-rest : goal.overflow_add-rest
overflow_add-rest c = record { fits = omega (arith, run_body _ _ _ _ _ c.loop-wait.invariant.2 _ _ c.loop-wait.invariant.1 _ c.in-Asks.is, c.loop-wait.invariant.2.fits, c.loop-wait.invariant.2.sum) }

pub overflow_sub-rest-in-loop-wait : goal.overflow_sub-rest-in-loop-wait
overflow_sub-rest-in-loop-wait c = omega (arith, run_body _ _ _ _ _ c.loop-wait.invariant.2 _ _ c.loop-wait.invariant.1 _ c.in-Asks.is)

pub overflow_add-used-in-loop-wait : goal.overflow_add-used-in-loop-wait
overflow_add-used-in-loop-wait c = record { fits = omega (arith, run_body _ _ _ _ _ c.loop-wait.invariant.2 _ _ c.loop-wait.invariant.1 _ c.in-Asks.is, c.loop-wait.invariant.2.fits, c.loop-wait.invariant.2.sum) }

pub overflow_add-used-in-loop-wait-2 : goal.overflow_add-used-in-loop-wait-2
overflow_add-used-in-loop-wait-2 c = record { fits = omega (arith, run_body _ _ _ _ _ c.loop-wait.invariant.2 _ _ c.loop-wait.invariant.1 _ c.in-Asks.is, c.loop-wait.invariant.2.fits, c.loop-wait.invariant.2.sum) }

pub overflow_sub-level : goal.overflow_sub-level
overflow_sub-level c = run_open _ _ _ _ _ c.loop-wait.invariant.2 _ _ c.loop-wait.invariant.1 _ c.in-Asks.is

pub offset_bounds-stand-depth : goal.offset_bounds-stand-depth
offset_bounds-stand-depth c = record { fits = omega (arith, run_room _ _ _ _ _ c.loop-wait.invariant.2 _ _ c.loop-wait.invariant.1 _ c.in-Asks.is, c.loop-wait.invariant.2.most) }

pub bounds-stand-depth : goal.bounds-stand-depth
bounds-stand-depth c = omega (arith, run_open _ _ _ _ _ c.loop-wait.invariant.2 _ _ c.loop-wait.invariant.1 _ c.in-Asks.is, run_room _ _ _ _ _ c.loop-wait.invariant.2 _ _ c.loop-wait.invariant.1 _ c.in-Asks.is, c.loop-wait.invariant.2.most)

pub step-moved-requires : goal.step-moved-requires
step-moved-requires c = run_ready _ _ _ _ _ c.loop-wait.invariant.2 _ _ c.loop-wait.invariant.1 _ c.in-Asks.is

pub overflow_sub-inner : goal.overflow_sub-inner
overflow_sub-inner c = run_open _ _ _ _ _ c.loop-wait.invariant.2 _ _ c.loop-wait.invariant.1 _ c.in-Asks.is

pub offset_bounds-stand-depth-in-Rests : goal.offset_bounds-stand-depth-in-Rests
offset_bounds-stand-depth-in-Rests c = record { fits = omega (arith, run_room _ _ _ _ _ c.loop-wait.invariant.2 _ _ c.loop-wait.invariant.1 _ c.in-Asks.is, c.loop-wait.invariant.2.most) }

pub bounds-stand-depth-in-Rests : goal.bounds-stand-depth-in-Rests
bounds-stand-depth-in-Rests c = omega (arith, run_open _ _ _ _ _ c.loop-wait.invariant.2 _ _ c.loop-wait.invariant.1 _ c.in-Asks.is, run_room _ _ _ _ _ c.loop-wait.invariant.2 _ _ c.loop-wait.invariant.1 _ c.in-Asks.is, c.loop-wait.invariant.2.most)

pub loop-wait-smaller-in-Rests : goal.loop-wait-smaller-in-Rests
loop-wait-smaller-in-Rests c = omega arith

pub loop-wait-preserved-in-Rests : goal.loop-wait-preserved-in-Rests
loop-wait-preserved-in-Rests c = (omega arith, burst_on _ _ _ _ _ c.loop-wait.invariant.2 c.args.burst.now c.loop-wait.at _ c.loop-wait.invariant.1 _ c.in-Asks.is _ (omega arith) (near_on _ _ _ _ _ c.loop-wait.invariant.2 c.args.burst.now c.loop-wait.at _ c.loop-wait.invariant.1 _ c.in-Asks.is _ c.step-moved.ensures _ c.near_move.ensures _ _ _ c.in-Rests.is), burst_stands _ _ _ _ _ c.loop-wait.invariant.2 c.args.burst.now c.loop-wait.at _ c.loop-wait.invariant.1 _ c.in-Asks.is _ (omega arith) (near_on _ _ _ _ _ c.loop-wait.invariant.2 c.args.burst.now c.loop-wait.at _ c.loop-wait.invariant.1 _ c.in-Asks.is _ c.step-moved.ensures _ c.near_move.ensures _ _ _ c.in-Rests.is))

pub apply-stand-requires : goal.apply-stand-requires
apply-stand-requires c = (c.loop-wait.invariant.2.most, run_open _ _ _ _ _ c.loop-wait.invariant.2 _ _ c.loop-wait.invariant.1 _ c.in-Asks.is, omega (arith, run_room _ _ _ _ _ c.loop-wait.invariant.2 _ _ c.loop-wait.invariant.1 _ c.in-Asks.is), c.loop-wait.invariant.2.rows, run_allowed _ _ _ _ _ c.loop-wait.invariant.2 c.args.burst.now c.loop-wait.at _ c.loop-wait.invariant.1 _ c.in-Asks.is _ c.step-moved.ensures)

pub loop-wait-smaller : goal.loop-wait-smaller
loop-wait-smaller c = omega arith

pub loop-wait-preserved : goal.loop-wait-preserved
loop-wait-preserved c = (omega arith, burst_on _ _ _ _ _ c.loop-wait.invariant.2 c.args.burst.now c.loop-wait.at _ c.loop-wait.invariant.1 _ c.in-Asks.is _ (omega arith) (far_on _ _ _ _ _ c.loop-wait.invariant.2 c.args.burst.now c.loop-wait.at _ c.loop-wait.invariant.1 _ c.in-Asks.is _ c.step-moved.ensures _ c.apply-stand.ensures), burst_stands _ _ _ _ _ c.loop-wait.invariant.2 c.args.burst.now c.loop-wait.at _ c.loop-wait.invariant.1 _ c.in-Asks.is _ (omega arith) (far_on _ _ _ _ _ c.loop-wait.invariant.2 c.args.burst.now c.loop-wait.at _ c.loop-wait.invariant.1 _ c.in-Asks.is _ c.step-moved.ensures _ c.apply-stand.ensures))
