use Rattle.wanted.proofs.Cases.{listed_cases}
use Rattle.wanted.proofs.is_listed.Goals as goal

pub are_distinct-requires : goal.are_distinct-requires
are_distinct-requires c = search listed_cases

pub are_wantable-requires : goal.are_wantable-requires
are_wantable-requires c = search listed_cases

pub returns-then-are_distinct : goal.returns-then-are_distinct
returns-then-are_distinct c = search listed_cases

pub returns-then-ids-le-MOST : goal.returns-then-ids-le-MOST
returns-then-ids-le-MOST c = search listed_cases

pub returns-then-ids-kinds : goal.returns-then-ids-kinds
returns-then-ids-kinds c = search listed_cases

pub returns : goal.returns
returns c = search listed_cases
