use Rattle.heads.proofs.Cases.{text_cases}
use Rattle.heads.proofs.read_string.Goals as goal

pub slice_bounds-is_utf8-count : goal.slice_bounds-is_utf8-count
slice_bounds-is_utf8-count c = search text_cases

pub slice_bounds-is_utf8-start : goal.slice_bounds-is_utf8-start
slice_bounds-is_utf8-start c = search text_cases

pub slice_bounds-is_utf8-end : goal.slice_bounds-is_utf8-end
slice_bounds-is_utf8-end c = search text_cases

pub returns-then-is_utf8 : goal.returns-then-is_utf8
returns-then-is_utf8 c = search text_cases

pub returns-in-Refused : goal.returns-in-Refused
returns-in-Refused c = search text_cases

pub returns-else-is_utf8 : goal.returns-else-is_utf8
returns-else-is_utf8 c = search text_cases
