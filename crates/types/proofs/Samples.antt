-- There are values within the limits: the two structs of T13, and one with a value of every kind. So no law over `Within` is empty. Assumes nothing.
use mathlib.Core.Path.{refl}
use mathlib.Core.Bool.{true, false}
use mathlib.Core.List.{[], ◌∷◌}
use native.Mathlib.Omega.{arith}
use lib.IntN.{pos, negsuc}
use Rattle.types.specs.Limits.{defaults}
use Rattle.types.specs.declared.TType.TheVariants as T
use Rattle.types.specs.Value as val
use Rattle.types.specs.Value.{Fields, no_fields, no_trees, tree, no_pairs, pair, type_of, size, size_p, nesting, nesting_all, nesting_pairs, nesting_fields, Sized, SizedAll, SizedPairs, SizedFields, Bytes, Typed, TypedAll, TypedPairs, TypedFields, Within}

abbrev pub two : Fields
two = val.field (pos 1) (val.truth true) (val.field (pos 3) (val.i32 (negsuc 0)) no_fields)

abbrev pub three : Fields
three = val.field (pos 1) (val.truth true) (val.field (pos 2) (val.double 0x3ff0000000000000) (val.field (pos 3) (val.i32 (negsuc 0)) no_fields))

-- the smallest i8 and i16, a list of bools, a map of an i8 to a struct, a string that is not UTF-8, a uuid
abbrev pub each : Fields
each =
    val.field (pos 1) (val.i8 (negsuc 127))
    (val.field (pos 2) (val.i16 (negsuc 32767))
    (val.field (pos 3) (val.i64 (pos 1))
    (val.field (pos 4) (val.bytes (0x74 ∷ 0xff ∷ []))
    (val.field (pos 5) (val.list T.Bool (tree (val.truth false) no_trees))
    (val.field (pos 6) (val.set T.I32 (tree (val.i32 (negsuc 0)) no_trees))
    (val.field (pos 7) (val.map T.I08 T.Struct (pair (val.i8 (pos 0)) (val.struct two) no_pairs))
    (val.field (pos 8) (val.uuid (0 ∷ 1 ∷ 2 ∷ 3 ∷ 4 ∷ 5 ∷ 6 ∷ 7 ∷ 8 ∷ 9 ∷ 10 ∷ 11 ∷ 12 ∷ 13 ∷ 14 ∷ 255 ∷ []))
    (val.field (pos 9) (val.double 0xfff8000000000001) no_fields))))))))

pub within_two : Within defaults 0 (val.struct two)
unfolding defaults nesting nesting_fields Sized SizedFields Typed TypedFields
within_two = record { nested = omega arith; sized = (tt, (tt, tt)); typed = (record { sfits = omega arith }, tt, (record { sfits = omega arith }, record { sfits = omega arith }, tt)) }

pub within_three : Within defaults 0 (val.struct three)
unfolding defaults nesting nesting_fields Sized SizedFields Typed TypedFields
within_three =
    record {
      nested = omega arith;
      sized = (tt, (tt, (tt, tt)));
      typed = (record { sfits = omega arith }, tt, (record { sfits = omega arith }, omega arith, (record { sfits = omega arith }, record { sfits = omega arith }, tt)));
    }

sixteen : Bytes (0 ∷ 1 ∷ 2 ∷ 3 ∷ 4 ∷ 5 ∷ 6 ∷ 7 ∷ 8 ∷ 9 ∷ 10 ∷ 11 ∷ 12 ∷ 13 ∷ 14 ∷ 255 ∷ [])
unfolding Bytes
sixteen =
    (omega arith, (omega arith, (omega arith, (omega arith, (omega arith, (omega arith, (omega arith, (omega arith, (omega arith, (omega arith, (omega arith, (omega arith, (omega arith, (omega arith, (omega arith, (omega arith, tt))))))))))))))))

pub within_each : Within defaults 0 (val.struct each)
unfolding defaults nesting nesting_all nesting_pairs nesting_fields Sized SizedAll SizedPairs SizedFields Typed TypedAll TypedPairs TypedFields Bytes type_of size size_p
within_each =
    record {
      nested = omega arith;
      sized = (tt, (tt, (tt, (omega arith, ((omega arith, (tt, tt)), ((omega arith, (tt, tt)), ((omega arith, (tt, (tt, (tt, tt)), tt)), (tt, (tt, tt)))))))));
      typed = (
        record { sfits = omega arith },
        record { sfits = omega arith },
        (
          record { sfits = omega arith },
          record { sfits = omega arith },
          (
            record { sfits = omega arith },
            record { sfits = omega arith },
            (
              record { sfits = omega arith },
              (omega arith, (omega arith, tt)),
              (
                record { sfits = omega arith },
                (refl, tt, tt),
                (
                  record { sfits = omega arith },
                  (refl, record { sfits = omega arith }, tt),
                  (
                    record { sfits = omega arith },
                    (refl, refl, record { sfits = omega arith }, (record { sfits = omega arith }, tt, (record { sfits = omega arith }, record { sfits = omega arith }, tt)), tt),
                    (
                      record { sfits = omega arith },
                      (refl, sixteen),
                      (
                        record { sfits = omega arith },
                        omega arith,
                        tt,
                      ),
                    ),
                  ),
                ),
              ),
            ),
          ),
        ),
      );
    }
