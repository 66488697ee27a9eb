-- The cycle of printing: the room falls from a container to its elements. Assumes nothing.
use mathlib.Core.Path.{refl}
use native.Mathlib.Omega.{arith}
use Rattle.printer.proofs.Prints.{lengths}
use Rattle.printer.proofs.Cycle.{field_in, fields_cases, items_cases, row_cases, map_cases, pair_cases, struct_in, value_cases, turns}
use Rattle.printer.proofs.+prints.Goals as goal

pub print_field-returns : goal.print_field-returns
print_field-returns t c = search field_in

pub print_fields-loop-e-init : goal.print_fields-loop-e-init
print_fields-loop-e-init t c = refl

pub print_fields-shape_of-out-in-Stop : goal.print_fields-shape_of-out-in-Stop
print_fields-shape_of-out-in-Stop t c = search lengths

pub print_fields-returns-in-Stop : goal.print_fields-returns-in-Stop
print_fields-returns-in-Stop t c = search fields_cases

pub print_fields-shape_of-out-in-Refused : goal.print_fields-shape_of-out-in-Refused
print_fields-shape_of-out-in-Refused t c = search lengths

pub print_fields-returns-in-Refused : goal.print_fields-returns-in-Refused
print_fields-returns-in-Refused t c = search fields_cases

pub print_fields-loop-e-smaller-in-Bool : goal.print_fields-loop-e-smaller-in-Bool
print_fields-loop-e-smaller-in-Bool t c = search turns

pub print_fields-loop-e-preserved-in-Bool : goal.print_fields-loop-e-preserved-in-Bool
print_fields-loop-e-preserved-in-Bool t c = search fields_cases

pub print_fields-loop-e-smaller : goal.print_fields-loop-e-smaller
print_fields-loop-e-smaller t c = search turns

pub print_fields-loop-e-preserved : goal.print_fields-loop-e-preserved
print_fields-loop-e-preserved t c = search fields_cases

pub print_fields-shape_of-out-in-Stopped : goal.print_fields-shape_of-out-in-Stopped
print_fields-shape_of-out-in-Stopped t c = search lengths

pub print_fields-returns-in-Stopped : goal.print_fields-returns-in-Stopped
print_fields-returns-in-Stopped t c = search fields_cases

pub print_items-returns-then-can_begin : goal.print_items-returns-then-can_begin
print_items-returns-then-can_begin t c = search items_cases

pub print_items-returns-in-Refused : goal.print_items-returns-in-Refused
print_items-returns-in-Refused t c = search items_cases

pub print_items-returns-else-can_begin : goal.print_items-returns-else-can_begin
print_items-returns-else-can_begin t c = search items_cases

pub print_many-loop-left-init : goal.print_many-loop-left-init
print_many-loop-left-init t c = refl

pub print_many-shape_of-out-in-Stopped : goal.print_many-shape_of-out-in-Stopped
print_many-shape_of-out-in-Stopped t c = search lengths

pub print_many-returns-in-Stopped : goal.print_many-returns-in-Stopped
print_many-returns-in-Stopped t c = search row_cases

pub print_many-loop-left-smaller : goal.print_many-loop-left-smaller
print_many-loop-left-smaller t c = omega arith

pub print_many-loop-left-preserved : goal.print_many-loop-left-preserved
print_many-loop-left-preserved t c = search row_cases

pub print_many-shape_of-out : goal.print_many-shape_of-out
print_many-shape_of-out t c = search lengths

pub print_many-returns : goal.print_many-returns
print_many-returns t c = search row_cases

pub print_map-returns-then-can_begin-2 : goal.print_map-returns-then-can_begin-2
print_map-returns-then-can_begin-2 t c = search map_cases

pub print_map-returns-then-can_begin : goal.print_map-returns-then-can_begin
print_map-returns-then-can_begin t c = search map_cases

pub print_map-returns-in-Refused : goal.print_map-returns-in-Refused
print_map-returns-in-Refused t c = search map_cases

pub print_map-returns-else-can_begin : goal.print_map-returns-else-can_begin
print_map-returns-else-can_begin t c = search map_cases

pub print_pair-returns-in-Went : goal.print_pair-returns-in-Went
print_pair-returns-in-Went t c = search pair_cases

pub print_pair-returns-in-Stopped : goal.print_pair-returns-in-Stopped
print_pair-returns-in-Stopped t c = search pair_cases

pub print_pairs-loop-left-init : goal.print_pairs-loop-left-init
print_pairs-loop-left-init t c = refl

pub print_pairs-shape_of-out-in-Stopped : goal.print_pairs-shape_of-out-in-Stopped
print_pairs-shape_of-out-in-Stopped t c = search lengths

pub print_pairs-returns-in-Stopped : goal.print_pairs-returns-in-Stopped
print_pairs-returns-in-Stopped t c = search row_cases

pub print_pairs-loop-left-smaller : goal.print_pairs-loop-left-smaller
print_pairs-loop-left-smaller t c = omega arith

pub print_pairs-loop-left-preserved : goal.print_pairs-loop-left-preserved
print_pairs-loop-left-preserved t c = search row_cases

pub print_pairs-shape_of-out : goal.print_pairs-shape_of-out
print_pairs-shape_of-out t c = search lengths

pub print_pairs-returns : goal.print_pairs-returns
print_pairs-returns t c = search row_cases

pub print_struct-returns : goal.print_struct-returns
print_struct-returns t c = search struct_in

pub print_value-returns-then-room-eq0 : goal.print_value-returns-then-room-eq0
print_value-returns-then-room-eq0 t c = search value_cases

pub print_value-returns-in-List : goal.print_value-returns-in-List
print_value-returns-in-List t c = search value_cases

pub print_value-returns-in-Set : goal.print_value-returns-in-Set
print_value-returns-in-Set t c = search value_cases

pub print_value-returns-in-Map : goal.print_value-returns-in-Map
print_value-returns-in-Map t c = search value_cases

pub print_value-returns-in-Struct : goal.print_value-returns-in-Struct
print_value-returns-in-Struct t c = search value_cases

pub print_value-returns-in-Stop : goal.print_value-returns-in-Stop
print_value-returns-in-Stop t c = search value_cases

pub print_value-returns-in-Bool : goal.print_value-returns-in-Bool
print_value-returns-in-Bool t c = search value_cases

pub print_value-returns-in-I08 : goal.print_value-returns-in-I08
print_value-returns-in-I08 t c = search value_cases

pub print_value-returns-in-I16 : goal.print_value-returns-in-I16
print_value-returns-in-I16 t c = search value_cases

pub print_value-returns-in-I32 : goal.print_value-returns-in-I32
print_value-returns-in-I32 t c = search value_cases

pub print_value-returns-in-I64 : goal.print_value-returns-in-I64
print_value-returns-in-I64 t c = search value_cases

pub print_value-returns-in-Double : goal.print_value-returns-in-Double
print_value-returns-in-Double t c = search value_cases

pub print_value-returns-in-String : goal.print_value-returns-in-String
print_value-returns-in-String t c = search value_cases

pub print_value-returns-in-Uuid : goal.print_value-returns-in-Uuid
print_value-returns-in-Uuid t c = search value_cases
