-- Inner vocabulary, for the contracts of functions behind skip alone; no promise cites it. Assumes nothing: these are definitions.
use Rattle.std.specs.Prelude.{Bool, true, false}
use Rattle.types.specs.declared.TType.{TType}
use Rattle.types.specs.declared.TType.TheVariants as T

-- types whose values all have their least size, and of whose bytes nothing is asked
abbrev pub is_fixed : TType → Bool
is_fixed T.Stop = false
is_fixed T.Bool = false
is_fixed T.I08 = true
is_fixed T.I16 = true
is_fixed T.I32 = true
is_fixed T.I64 = true
is_fixed T.Double = true
is_fixed T.String = false
is_fixed T.List = false
is_fixed T.Set = false
is_fixed T.Map = false
is_fixed T.Struct = false
is_fixed T.Uuid = true
