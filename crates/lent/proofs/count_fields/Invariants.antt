use Rattle.std.proofs.Common.{◌≡◌, ◌-◌, ◌≤◌, length}
use Rattle.lent.specs.Count.{count_from, count_fields}
use Rattle.lent.proofs.count_fields.Given as goal

abbrev pub decreases-loop-count : goal.decreases-loop-count
decreases-loop-count l = length l.bytes - l.count

abbrev pub invariant-loop-count : goal.invariant-loop-count
invariant-loop-count l = record {
  room : l.count ≤ length l.bytes;
  same : l.reader.bytes.now ≡ l.bytes;
  rest : count_from (length l.bytes - l.count) l.bytes l.reader.state l.count ≡ count_fields l.bytes l.fn.state;
}
