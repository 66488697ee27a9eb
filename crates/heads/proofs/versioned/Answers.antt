use Rattle.heads.proofs.Cases.{kind_cases}
use Rattle.heads.proofs.versioned.Goals as goal

pub returns-then-s-at : goal.returns-then-s-at
returns-then-s-at c = search kind_cases

pub returns-then-b-ne-COMPACT_VERSION : goal.returns-then-b-ne-COMPACT_VERSION
returns-then-b-ne-COMPACT_VERSION c = search kind_cases

pub returns-in-Refused : goal.returns-in-Refused
returns-in-Refused c = search kind_cases

pub returns-in-Got : goal.returns-in-Got
returns-in-Got c = search kind_cases
