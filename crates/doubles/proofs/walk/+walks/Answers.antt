-- The cycle of the walk: the room falls from a container to its elements. Assumes nothing.
use Rattle.std.proofs.Common.{arith, rules}
use Rattle.doubles.proofs.Cases.{list_cases, many_cases, map_cases, pair_cases, pairs_cases, struct_cases, struct_less, value_cases}
use Rattle.doubles.proofs.walk.+walks.Goals as goal

pub walk_list-returns-then-is_bare : goal.walk_list-returns-then-is_bare
walk_list-returns-then-is_bare t c = search (rules, list_cases)

pub walk_list-shape_of-row-then-is_double : goal.walk_list-shape_of-row-then-is_double
walk_list-shape_of-row-then-is_double t c = search (rules, list_cases)

pub walk_list-returns-then-is_double : goal.walk_list-returns-then-is_double
walk_list-returns-then-is_double t c = search (rules, list_cases)

pub walk_list-overflow_sub-room : goal.walk_list-overflow_sub-room
walk_list-overflow_sub-room t c = omega arith

pub walk_list-returns-in-Refused : goal.walk_list-returns-in-Refused
walk_list-returns-in-Refused t c = search (rules, list_cases)

pub walk_list-shape_of-row : goal.walk_list-shape_of-row
walk_list-shape_of-row t c = search (rules, list_cases)

pub walk_list-returns-else-is_double : goal.walk_list-returns-else-is_double
walk_list-returns-else-is_double t c = search (rules, list_cases)

pub walk_many-loop-left-init : goal.walk_many-loop-left-init
walk_many-loop-left-init t c = (search (rules, many_cases), search (rules, many_cases))

pub walk_many-shape_of-row-in-Refused : goal.walk_many-shape_of-row-in-Refused
walk_many-shape_of-row-in-Refused t c = search (rules, many_cases)

pub walk_many-returns-in-Refused : goal.walk_many-returns-in-Refused
walk_many-returns-in-Refused t c = search (rules, many_cases)

pub walk_many-overflow_sub-left : goal.walk_many-overflow_sub-left
walk_many-overflow_sub-left t c = omega arith

pub walk_many-loop-left-smaller : goal.walk_many-loop-left-smaller
walk_many-loop-left-smaller t c = omega arith

pub walk_many-loop-left-preserved : goal.walk_many-loop-left-preserved
walk_many-loop-left-preserved t c = (search (rules, many_cases), search (rules, many_cases))

pub walk_many-shape_of-row : goal.walk_many-shape_of-row
walk_many-shape_of-row t c = search (rules, many_cases)

pub walk_many-returns : goal.walk_many-returns
walk_many-returns t c = search (rules, many_cases)

pub walk_map-returns-then-both_bare : goal.walk_map-returns-then-both_bare
walk_map-returns-then-both_bare t c = search (rules, map_cases)

pub walk_map-overflow_sub-room : goal.walk_map-overflow_sub-room
walk_map-overflow_sub-room t c = omega arith

pub walk_map-shape_of-row-then-can_begin-2 : goal.walk_map-shape_of-row-then-can_begin-2
walk_map-shape_of-row-then-can_begin-2 t c = search (rules, map_cases)

pub walk_map-returns-then-can_begin-2 : goal.walk_map-returns-then-can_begin-2
walk_map-returns-then-can_begin-2 t c = search (rules, map_cases)

pub walk_map-returns-then-can_begin : goal.walk_map-returns-then-can_begin
walk_map-returns-then-can_begin t c = search (rules, map_cases)

pub walk_map-returns-in-Refused : goal.walk_map-returns-in-Refused
walk_map-returns-in-Refused t c = search (rules, map_cases)

pub walk_map-returns-else-can_begin : goal.walk_map-returns-else-can_begin
walk_map-returns-else-can_begin t c = search (rules, map_cases)

pub walk_pair-shape_of-row-in-Done : goal.walk_pair-shape_of-row-in-Done
walk_pair-shape_of-row-in-Done t c = search (rules, pair_cases)

pub walk_pair-returns-in-Done : goal.walk_pair-returns-in-Done
walk_pair-returns-in-Done t c = search (rules, pair_cases)

pub walk_pair-shape_of-row-in-Refused : goal.walk_pair-shape_of-row-in-Refused
walk_pair-shape_of-row-in-Refused t c = search (rules, pair_cases)

pub walk_pair-returns-in-Refused : goal.walk_pair-returns-in-Refused
walk_pair-returns-in-Refused t c = search (rules, pair_cases)

pub walk_pairs-loop-left-init : goal.walk_pairs-loop-left-init
walk_pairs-loop-left-init t c = (search (rules, pairs_cases), search (rules, pairs_cases))

pub walk_pairs-shape_of-row-in-Refused : goal.walk_pairs-shape_of-row-in-Refused
walk_pairs-shape_of-row-in-Refused t c = search (rules, pairs_cases)

pub walk_pairs-returns-in-Refused : goal.walk_pairs-returns-in-Refused
walk_pairs-returns-in-Refused t c = search (rules, pairs_cases)

pub walk_pairs-overflow_sub-left : goal.walk_pairs-overflow_sub-left
walk_pairs-overflow_sub-left t c = omega arith

pub walk_pairs-loop-left-smaller : goal.walk_pairs-loop-left-smaller
walk_pairs-loop-left-smaller t c = omega arith

pub walk_pairs-loop-left-preserved : goal.walk_pairs-loop-left-preserved
walk_pairs-loop-left-preserved t c = (search (rules, pairs_cases), search (rules, pairs_cases))

pub walk_pairs-shape_of-row : goal.walk_pairs-shape_of-row
walk_pairs-shape_of-row t c = search (rules, pairs_cases)

pub walk_pairs-returns : goal.walk_pairs-returns
walk_pairs-returns t c = search (rules, pairs_cases)

pub walk_struct-loop-e-init : goal.walk_struct-loop-e-init
walk_struct-loop-e-init t c = (search (rules, struct_cases), search (rules, struct_cases))

pub walk_struct-shape_of-row-in-Stop : goal.walk_struct-shape_of-row-in-Stop
walk_struct-shape_of-row-in-Stop t c = search (rules, struct_cases)

pub walk_struct-returns-in-Stop : goal.walk_struct-returns-in-Stop
walk_struct-returns-in-Stop t c = search (rules, struct_cases)

pub walk_struct-shape_of-row-in-Refused : goal.walk_struct-shape_of-row-in-Refused
walk_struct-shape_of-row-in-Refused t c = search (rules, struct_cases)

pub walk_struct-returns-in-Refused : goal.walk_struct-returns-in-Refused
walk_struct-returns-in-Refused t c = search (rules, struct_cases)

pub walk_struct-loop-e-smaller-in-Bool : goal.walk_struct-loop-e-smaller-in-Bool
walk_struct-loop-e-smaller-in-Bool t c = search struct_less

pub walk_struct-loop-e-preserved-in-Bool : goal.walk_struct-loop-e-preserved-in-Bool
walk_struct-loop-e-preserved-in-Bool t c = (search (rules, struct_cases), search (rules, struct_cases))

pub walk_struct-loop-e-smaller : goal.walk_struct-loop-e-smaller
walk_struct-loop-e-smaller t c = search struct_less

pub walk_struct-loop-e-preserved : goal.walk_struct-loop-e-preserved
walk_struct-loop-e-preserved t c = (search (rules, struct_cases, c.loop-e.invariant.0), search (struct_cases, c.loop-e.invariant.1))

pub walk_struct-shape_of-row-in-Refused-walk_value : goal.walk_struct-shape_of-row-in-Refused-walk_value
walk_struct-shape_of-row-in-Refused-walk_value t c = search (rules, struct_cases)

pub walk_struct-returns-in-Refused-walk_value : goal.walk_struct-returns-in-Refused-walk_value
walk_struct-returns-in-Refused-walk_value t c = search (rules, struct_cases)

pub walk_value-shape_of-row-then-is_double : goal.walk_value-shape_of-row-then-is_double
walk_value-shape_of-row-then-is_double t c = search (rules, value_cases)

pub walk_value-returns-then-is_double : goal.walk_value-returns-then-is_double
walk_value-returns-then-is_double t c = search (rules, value_cases)

pub walk_value-returns-then-room-eq0 : goal.walk_value-returns-then-room-eq0
walk_value-returns-then-room-eq0 t c = search (rules, value_cases)

pub walk_value-walk_list-requires : goal.walk_value-walk_list-requires
walk_value-walk_list-requires t c = (omega arith, omega arith)

pub walk_value-walk_list-requires-in-Set : goal.walk_value-walk_list-requires-in-Set
walk_value-walk_list-requires-in-Set t c = (omega arith, omega arith)

pub walk_value-walk_map-requires : goal.walk_value-walk_map-requires
walk_value-walk_map-requires t c = (omega arith, omega arith)

pub walk_value-overflow_sub-room : goal.walk_value-overflow_sub-room
walk_value-overflow_sub-room t c = omega arith

pub walk_value-shape_of-row-in-List : goal.walk_value-shape_of-row-in-List
walk_value-shape_of-row-in-List t c = search (rules, value_cases)

pub walk_value-returns-in-List : goal.walk_value-returns-in-List
walk_value-returns-in-List t c = search (rules, value_cases)

pub walk_value-shape_of-row-in-Set : goal.walk_value-shape_of-row-in-Set
walk_value-shape_of-row-in-Set t c = search (rules, value_cases)

pub walk_value-returns-in-Set : goal.walk_value-returns-in-Set
walk_value-returns-in-Set t c = search (rules, value_cases)

pub walk_value-shape_of-row-in-Map : goal.walk_value-shape_of-row-in-Map
walk_value-shape_of-row-in-Map t c = search (rules, value_cases)

pub walk_value-returns-in-Map : goal.walk_value-returns-in-Map
walk_value-returns-in-Map t c = search (rules, value_cases)

pub walk_value-shape_of-row-in-Struct : goal.walk_value-shape_of-row-in-Struct
walk_value-shape_of-row-in-Struct t c = search (rules, value_cases)

pub walk_value-returns-in-Struct : goal.walk_value-returns-in-Struct
walk_value-returns-in-Struct t c = search (rules, value_cases)

pub walk_value-returns-in-Stop : goal.walk_value-returns-in-Stop
walk_value-returns-in-Stop t c = search (rules, value_cases)

pub walk_value-returns-in-Bool : goal.walk_value-returns-in-Bool
walk_value-returns-in-Bool t c = search (rules, value_cases)

pub walk_value-returns-in-I08 : goal.walk_value-returns-in-I08
walk_value-returns-in-I08 t c = search (rules, value_cases)

pub walk_value-returns-in-I16 : goal.walk_value-returns-in-I16
walk_value-returns-in-I16 t c = search (rules, value_cases)

pub walk_value-returns-in-I32 : goal.walk_value-returns-in-I32
walk_value-returns-in-I32 t c = search (rules, value_cases)

pub walk_value-returns-in-I64 : goal.walk_value-returns-in-I64
walk_value-returns-in-I64 t c = search (rules, value_cases)

pub walk_value-returns-in-Double : goal.walk_value-returns-in-Double
walk_value-returns-in-Double t c = search (rules, value_cases)

pub walk_value-returns-in-String : goal.walk_value-returns-in-String
walk_value-returns-in-String t c = search (rules, value_cases)

pub walk_value-returns-in-Uuid : goal.walk_value-returns-in-Uuid
walk_value-returns-in-Uuid t c = search (rules, value_cases)
