use borrow.Author.Rules.{rules}
use native.Mathlib.Omega.{arith}
use Rattle.frame.proofs.Held.{settle_done, turn_up, turn_within, turn_stop, turn_asks, turn_room, turn_enters}
use Rattle.frame.proofs.settle.Goals as goal

pub loop-open-init : goal.loop-open-init
loop-open-init c = (search rules, search rules, search rules, c.well_formed.1.1.0.1.0.1, search rules)

pub overflow_sub-level : goal.overflow_sub-level
overflow_sub-level c = omega arith

pub offset_bounds-rows-open : goal.offset_bounds-rows-open
offset_bounds-rows-open c = omega arith

pub bounds-rows-open : goal.bounds-rows-open
bounds-rows-open c = omega arith

pub turn_over-requires : goal.turn_over-requires
turn_over-requires c = omega arith

pub overflow_sub-rows : goal.overflow_sub-rows
overflow_sub-rows c = omega arith

pub offset_bounds-rows-open-in-Asks : goal.offset_bounds-rows-open-in-Asks
offset_bounds-rows-open-in-Asks c = omega arith

pub bounds-rows-open-in-Asks : goal.bounds-rows-open-in-Asks
bounds-rows-open-in-Asks c = omega arith

pub returns-in-Asks : goal.returns-in-Asks
returns-in-Asks c = turn_asks _ _ _ _ _ _ c.loop-open.invariant.4 c.loop-open.invariant.3 (omega arith) (omega arith) (omega arith) _ c.turn_over.ensures _ _ _ _ c.in-Asks.is c.waits.ensures

pub overflow_sub-rows-in-Enters : goal.overflow_sub-rows-in-Enters
overflow_sub-rows-in-Enters c = omega arith

pub offset_bounds-rows-open-in-Enters : goal.offset_bounds-rows-open-in-Enters
offset_bounds-rows-open-in-Enters c = omega arith

pub bounds-rows-open-in-Enters : goal.bounds-rows-open-in-Enters
bounds-rows-open-in-Enters c = omega arith

pub offset_bounds-rows-open-in-Enters-2 : goal.offset_bounds-rows-open-in-Enters-2
offset_bounds-rows-open-in-Enters-2 c = omega arith

pub bounds-rows-open-in-Enters-2 : goal.bounds-rows-open-in-Enters-2
bounds-rows-open-in-Enters-2 c = omega (arith, turn_room _ _ _ _ _ _ c.loop-open.invariant.4 c.loop-open.invariant.3 (omega arith) (omega arith) (omega arith) _ c.turn_over.ensures _ _ c.in-Enters.is (omega arith))

pub overflow_add-open : goal.overflow_add-open
overflow_add-open c = record { fits = omega (arith, turn_room _ _ _ _ _ _ c.loop-open.invariant.4 c.loop-open.invariant.3 (omega arith) (omega arith) (omega arith) _ c.turn_over.ensures _ _ c.in-Enters.is (omega arith)) }

pub returns-in-Enters : goal.returns-in-Enters
returns-in-Enters c = turn_enters _ _ _ _ _ _ c.loop-open.invariant.4 c.loop-open.invariant.3 (omega arith) (omega arith) (omega arith) _ c.turn_over.ensures _ _ _ c.in-Enters.is (omega arith) c.waits-in-Enters.ensures

pub returns-in-Refused : goal.returns-in-Refused
returns-in-Refused c = turn_stop _ _ _ _ _ _ c.loop-open.invariant.4 c.loop-open.invariant.3 (omega arith) (omega arith) (omega arith) _ c.turn_over.ensures _ _ _ c.in-Refused.is c.stops.ensures

pub overflow_sub-open : goal.overflow_sub-open
overflow_sub-open c = omega arith

pub loop-open-smaller : goal.loop-open-smaller
loop-open-smaller c = omega arith

pub loop-open-preserved : goal.loop-open-preserved
loop-open-preserved c = (search rules, omega arith, turn_within _ _ _ _ _ _ c.loop-open.invariant.4 c.loop-open.invariant.3 (omega arith) (omega arith) (omega arith) _ c.turn_over.ensures _ c.in-Up.is (omega arith), search rules, turn_up _ _ _ _ _ _ c.loop-open.invariant.4 c.loop-open.invariant.3 (omega arith) (omega arith) (omega arith) _ c.turn_over.ensures _ c.in-Up.is)

pub returns : goal.returns
returns c = settle_done _ _ _ _ _ _ c.loop-open.invariant.4 c.loop-open.invariant.3 (omega arith) (omega arith) (omega arith)
