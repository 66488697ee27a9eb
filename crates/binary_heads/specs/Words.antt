-- The binary protocol's words. Assumes nothing: these are definitions.
use Rattle.heads.specs.Heads as compact-heads
use Rattle.binary_codes.specs.Codes.{least_size}
use Rattle.protocols.specs.Words.{Words}
use Rattle.binary_heads.specs.Heads as own

-- no id but its own has a say in a field's header
abbrev pub binary : Words
binary =
    record {
      truth = own.truth;
      int8 = compact-heads.int8;
      int16 = own.int16;
      int32 = own.int32;
      int64 = own.int64;
      double = own.double;
      uuid = compact-heads.uuid;
      binary = own.binary;
      items = own.items;
      pairs = own.pairs;
      field = λ last. own.field;
      message = own.message;
      least = least_size;
    }
