use mathlib.Core.Path.{◌≡◌}
use lib.ListN.{drop}
use Rattle.text.specs.Pen.{inked}
use Rattle.text.specs.Words.{hexes}
use Rattle.text.proofs.put_bytes.Given as goal

abbrev pub invariant-loop-b : goal.invariant-loop-b
invariant-loop-b l = inked (hexes (drop l.b-index l.bytes)) (l.out, l.p) ≡ inked (hexes l.bytes) (l.initial.out, l.to)
