use mir.Syntax.{w64}
use mathlib.Core.Path.{◌∙◌}
use mir.Facts.{to_z-of_z}
use borrow.Author.Rules.{rules, sfits_of}
use Rattle.faults.proofs.Levels.{find_cases, find_less, find_next}
use Rattle.faults.proofs.find.Goals as goal

pub loop-rows-init : goal.loop-rows-init
loop-rows-init c = search (rules, find_cases)

pub one_level-requires : goal.one_level-requires
one_level-requires c = search (rules, find_cases)

pub returns-in-Whole : goal.returns-in-Whole
returns-in-Whole c = search find_cases

pub returns-in-Own : goal.returns-in-Own
returns-in-Own c = search find_cases

pub overflow_sub-left : goal.overflow_sub-left
overflow_sub-left c = search find_cases

pub overflow_mul-rows : goal.overflow_mul-rows
overflow_mul-rows c = search find_cases

pub offset_bounds-rows-count : goal.offset_bounds-rows-count
offset_bounds-rows-count c = search find_cases

pub bounds-rows-count : goal.bounds-rows-count
bounds-rows-count c = search find_cases

pub overflow_mul-rows-in-Into : goal.overflow_mul-rows-in-Into
overflow_mul-rows-in-Into c = search find_cases

pub overflow_add-rows : goal.overflow_add-rows
overflow_add-rows c = search find_cases

pub offset_bounds-rows-count-in-Into : goal.offset_bounds-rows-count-in-Into
offset_bounds-rows-count-in-Into c = search find_cases

pub bounds-rows-count-in-Into : goal.bounds-rows-count-in-Into
bounds-rows-count-in-Into c = search find_cases

pub overflow_add-count : goal.overflow_add-count
overflow_add-count c = search find_cases

pub loop-rows-smaller : goal.loop-rows-smaller
loop-rows-smaller c = find_less _ _ _ _ _ _ _ _ c.loop-rows.invariant _ c.one_level.ensures _ _ _ c.in-Into.is

pub loop-rows-preserved : goal.loop-rows-preserved
loop-rows-preserved c = find_next _ _ _ _ _ _ _ _ c.loop-rows.invariant _ c.one_level.ensures _ _ _ c.in-Into.is _ _ (to_z-of_z {w = w64} (sfits_of c.step_kind.type_inv) ∙ c.step_kind.ensures) (to_z-of_z {w = w64} (sfits_of c.step_number.type_inv) ∙ c.step_number.ensures)
