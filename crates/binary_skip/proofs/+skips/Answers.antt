-- The cycle of skips: the room falls from a container to its elements. Assumes nothing.
use mathlib.Core.Path.{refl}
use native.Mathlib.Omega.{arith}
use Rattle.binary_skip.proofs.Cycle.{list_cases, pairs_cases, map_cases, struct_cases, value_cases, turn_less}
use Rattle.binary_skip.proofs.+skips.Goals as goal

pub skip_list-returns-then-is_fixed : goal.skip_list-returns-then-is_fixed
skip_list-returns-then-is_fixed t c = search list_cases

pub skip_list-loop-left-init : goal.skip_list-loop-left-init
skip_list-loop-left-init t c = refl

pub skip_list-returns-in-Refused-skip_value : goal.skip_list-returns-in-Refused-skip_value
skip_list-returns-in-Refused-skip_value t c = search list_cases

pub skip_list-loop-left-smaller : goal.skip_list-loop-left-smaller
skip_list-loop-left-smaller t c = omega arith

pub skip_list-loop-left-preserved : goal.skip_list-loop-left-preserved
skip_list-loop-left-preserved t c = search list_cases

pub skip_list-returns-then-can_begin : goal.skip_list-returns-then-can_begin
skip_list-returns-then-can_begin t c = search list_cases

pub skip_list-returns-in-Refused : goal.skip_list-returns-in-Refused
skip_list-returns-in-Refused t c = search list_cases

pub skip_list-returns-else-can_begin : goal.skip_list-returns-else-can_begin
skip_list-returns-else-can_begin t c = search list_cases

pub skip_map-returns-then-can_begin-2 : goal.skip_map-returns-then-can_begin-2
skip_map-returns-then-can_begin-2 t c = search map_cases

pub skip_map-returns-then-can_begin : goal.skip_map-returns-then-can_begin
skip_map-returns-then-can_begin t c = search map_cases

pub skip_map-returns-in-Refused : goal.skip_map-returns-in-Refused
skip_map-returns-in-Refused t c = search map_cases

pub skip_map-returns-else-can_begin : goal.skip_map-returns-else-can_begin
skip_map-returns-else-can_begin t c = search map_cases

pub skip_pairs-loop-left-init : goal.skip_pairs-loop-left-init
skip_pairs-loop-left-init t c = refl

pub skip_pairs-returns-in-Refused : goal.skip_pairs-returns-in-Refused
skip_pairs-returns-in-Refused t c = search pairs_cases

pub skip_pairs-returns-in-Refused-skip_value : goal.skip_pairs-returns-in-Refused-skip_value
skip_pairs-returns-in-Refused-skip_value t c = search pairs_cases

pub skip_pairs-loop-left-smaller : goal.skip_pairs-loop-left-smaller
skip_pairs-loop-left-smaller t c = omega arith

pub skip_pairs-loop-left-preserved : goal.skip_pairs-loop-left-preserved
skip_pairs-loop-left-preserved t c = search pairs_cases

pub skip_pairs-returns : goal.skip_pairs-returns
skip_pairs-returns t c = search pairs_cases

pub skip_struct-loop-e-init : goal.skip_struct-loop-e-init
skip_struct-loop-e-init t c = refl

pub skip_struct-returns-in-Stop : goal.skip_struct-returns-in-Stop
skip_struct-returns-in-Stop t c = search struct_cases

pub skip_struct-returns-in-Refused : goal.skip_struct-returns-in-Refused
skip_struct-returns-in-Refused t c = search struct_cases

pub skip_struct-loop-e-smaller-in-Bool : goal.skip_struct-loop-e-smaller-in-Bool
skip_struct-loop-e-smaller-in-Bool t c = search turn_less

pub skip_struct-loop-e-preserved-in-Bool : goal.skip_struct-loop-e-preserved-in-Bool
skip_struct-loop-e-preserved-in-Bool t c = search struct_cases

pub skip_struct-loop-e-smaller : goal.skip_struct-loop-e-smaller
skip_struct-loop-e-smaller t c = search turn_less

pub skip_struct-loop-e-preserved : goal.skip_struct-loop-e-preserved
skip_struct-loop-e-preserved t c = search struct_cases

pub skip_struct-returns-in-Refused-skip_value : goal.skip_struct-returns-in-Refused-skip_value
skip_struct-returns-in-Refused-skip_value t c = search struct_cases

pub skip_value-returns-then-room-eq0 : goal.skip_value-returns-then-room-eq0
skip_value-returns-then-room-eq0 t c = search value_cases

pub skip_value-returns-in-List : goal.skip_value-returns-in-List
skip_value-returns-in-List t c = search value_cases

pub skip_value-returns-in-Set : goal.skip_value-returns-in-Set
skip_value-returns-in-Set t c = search value_cases

pub skip_value-returns-in-Map : goal.skip_value-returns-in-Map
skip_value-returns-in-Map t c = search value_cases

pub skip_value-returns-in-Struct : goal.skip_value-returns-in-Struct
skip_value-returns-in-Struct t c = search value_cases

pub skip_value-returns-in-Stop : goal.skip_value-returns-in-Stop
skip_value-returns-in-Stop t c = search value_cases

pub skip_value-returns-in-Bool : goal.skip_value-returns-in-Bool
skip_value-returns-in-Bool t c = search value_cases

pub skip_value-returns-in-I08 : goal.skip_value-returns-in-I08
skip_value-returns-in-I08 t c = search value_cases

pub skip_value-returns-in-I16 : goal.skip_value-returns-in-I16
skip_value-returns-in-I16 t c = search value_cases

pub skip_value-returns-in-I32 : goal.skip_value-returns-in-I32
skip_value-returns-in-I32 t c = search value_cases

pub skip_value-returns-in-I64 : goal.skip_value-returns-in-I64
skip_value-returns-in-I64 t c = search value_cases

pub skip_value-returns-in-Double : goal.skip_value-returns-in-Double
skip_value-returns-in-Double t c = search value_cases

pub skip_value-returns-in-String : goal.skip_value-returns-in-String
skip_value-returns-in-String t c = search value_cases

pub skip_value-returns-in-Uuid : goal.skip_value-returns-in-Uuid
skip_value-returns-in-Uuid t c = search value_cases
