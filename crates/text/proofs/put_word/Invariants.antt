use mathlib.Core.Path.{◌≡◌}
use lib.ListN.{drop}
use Rattle.text.specs.Pen.{inked}
use Rattle.text.proofs.put_word.Given as goal

abbrev pub invariant-loop-b : goal.invariant-loop-b
invariant-loop-b l = inked (drop l.b-index l.word) (l.out, l.p) ≡ inked l.word (l.initial.out, l.to)
