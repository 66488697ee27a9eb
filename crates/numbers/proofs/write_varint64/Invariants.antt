use Rattle.std.proofs.Common.{◌^◌, ◌<◌}
use Rattle.numbers.specs.Varint.{fewest}
use Rattle.numbers.proofs.Put.{Storing}
use Rattle.numbers.proofs.write_varint64.Given as goal

abbrev pub invariant-loop-rest : goal.invariant-loop-rest
invariant-loop-rest l = (l.rest < 2 ^ 64) × Storing l.initial.buf l.at (fewest l.n) l.buf l.p (fewest l.rest)

abbrev pub decreases-loop-rest : goal.decreases-loop-rest
decreases-loop-rest l = l.rest
