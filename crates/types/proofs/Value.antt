-- No value has the type Stop. Assumes nothing.
use Prim.Native.Nat.{◌<◌}
use native.Mathlib.Omega.{arith}
use Rattle.types.specs.Codes.{type_code}
use Rattle.types.specs.Value.{Tree, truth, i8, i16, i32, i64, double, uuid, bytes, list, set, map, struct, type_of}

pub no_stop : (t : Tree) → 0 < type_code (type_of t)
unfolding type_code type_of
no_stop (truth b) = omega arith
no_stop (i8 z) = omega arith
no_stop (i16 z) = omega arith
no_stop (i32 z) = omega arith
no_stop (i64 z) = omega arith
no_stop (double n) = omega arith
no_stop (uuid bs) = omega arith
no_stop (bytes bs) = omega arith
no_stop (list t ts) = omega arith
no_stop (set t ts) = omega arith
no_stop (map k v ps) = omega arith
no_stop (struct fs) = omega arith
