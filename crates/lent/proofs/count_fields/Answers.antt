use Rattle.std.proofs.Common.{arith}
use Rattle.lent.proofs.Turns.{refused, kept, begun, over, stops, refuses, value_refused, same_bytes, goes_on}
use Rattle.lent.proofs.count_fields.Goals as goal

pub returns-in-Refused : goal.returns-in-Refused
returns-in-Refused c = refused _ _ _ _ c.new.ensures c.read_message_begin-begun.ensures _ c.in-Refused.is

pub loop-count-init : goal.loop-count-init
loop-count-init c =
    record {
      room = omega arith;
      same = kept _ _ _ _ c.new.ensures c.read_message_begin-begun.ensures;
      rest = begun _ _ _ _ c.new.ensures c.read_message_begin-begun.ensures _ _ _ _ c.in-Got.is;
    }

pub returns-in-Stop : goal.returns-in-Stop
returns-in-Stop c = stops _ _ _ _ c.loop-count.invariant.same c.loop-count.invariant.rest c.loop-count-test.true _ c.read_field_begin-head.ensures c.in-Stop.is

pub returns-in-Refused-answer : goal.returns-in-Refused-answer
returns-in-Refused-answer c =
    refuses _ _ _ _ c.loop-count.invariant.same c.loop-count.invariant.rest c.loop-count-test.true _ c.read_field_begin-head.ensures _ c.in-Refused-answer.is

pub returns-in-Refused-answer-2 : goal.returns-in-Refused-answer-2
returns-in-Refused-answer-2 c =
    value_refused _ _ _ _ c.loop-count.invariant.same c.loop-count.invariant.rest c.loop-count-test.true _ c.read_field_begin-head.ensures _ _ c.in-Field.is _
    c.skip-past.ensures _ c.in-Refused-answer-2.is

pub loop-count-preserved : goal.loop-count-preserved
loop-count-preserved c =
    record {
      room = omega arith;
      same =
          same_bytes _ _ _ _ c.loop-count.invariant.same c.loop-count.invariant.rest c.loop-count-test.true _ c.read_field_begin-head.ensures _ _ c.in-Field.is _
          c.skip-past.ensures;
      rest =
          goes_on _ _ _ _ c.loop-count.invariant.same c.loop-count.invariant.rest c.loop-count-test.true _ c.read_field_begin-head.ensures _ _ c.in-Field.is _
          c.skip-past.ensures c.in-Done.is;
    }

pub returns : goal.returns
returns c = over _ c.loop-count.reader _ _ c.loop-count.invariant.same c.loop-count.invariant.rest c.loop-count.invariant.room c.loop-count-test.false
