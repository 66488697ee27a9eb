use Rattle.frame.proofs.Tests.{counts_cases}
use Rattle.frame.proofs.counts_well.Goals as goal

pub returns-then-behind-eq0 : goal.returns-then-behind-eq0
returns-then-behind-eq0 c = search counts_cases

pub returns-then-taken-most : goal.returns-then-taken-most
returns-then-taken-most c = search counts_cases

pub returns-then-left-most : goal.returns-then-left-most
returns-then-left-most c = search counts_cases

pub returns : goal.returns
returns c = search counts_cases
