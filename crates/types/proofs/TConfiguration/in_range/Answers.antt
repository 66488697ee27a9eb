use borrow.Author.Tests.{le-leb, lt-leb}
use Rattle.types.specs.Limits.{in_range}
use Rattle.types.proofs.TConfiguration.in_range.Goals as goal

pub returns-then-self-gt-MAX_DEPTH : goal.returns-then-self-gt-MAX_DEPTH
unfolding in_range
returns-then-self-gt-MAX_DEPTH c = search (le-leb, lt-leb)

pub returns-then-self-gt-MAX_SIZE : goal.returns-then-self-gt-MAX_SIZE
unfolding in_range
returns-then-self-gt-MAX_SIZE c = search (le-leb, lt-leb)

pub returns-then-self-gt-MAX_SIZE-2 : goal.returns-then-self-gt-MAX_SIZE-2
unfolding in_range
returns-then-self-gt-MAX_SIZE-2 c = search (le-leb, lt-leb)

pub returns-then-self-gt-MAX_SIZE-3 : goal.returns-then-self-gt-MAX_SIZE-3
unfolding in_range
returns-then-self-gt-MAX_SIZE-3 c = search (le-leb, lt-leb)

pub returns : goal.returns
unfolding in_range
returns c = search (le-leb, lt-leb)
