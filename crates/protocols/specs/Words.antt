-- A protocol is a record of words: how it reads scalars and headers, and the fewest bytes of a value of each type. What a value is (Value, Spells) is said over
-- the record, once for every protocol. Assumes nothing: these are definitions.
use Rattle.std.specs.Prelude.{ℕ, ◌+◌, ◌*◌, Bool, List, ℤ}
use Rattle.types.specs.declared.TType.{TType}
use Rattle.types.specs.declared.TConfiguration.{TConfiguration}
use Rattle.heads.specs.Reader.{Reader, backed}
use Rattle.heads.specs.Heads as compact-heads
use Rattle.heads.specs.Heads.{Field, Message}

pub record Words : Type 0 where
  -- scalars
  pub truth : Reader Bool
  pub int8 : Reader ℤ
  pub int16 : Reader ℤ
  pub int32 : Reader ℤ
  pub int64 : Reader ℤ
  pub double : Reader ℕ
  pub uuid : Reader (List ℕ)
  -- headers: a binary's or a string's with its bytes, a list's or a set's, a map's, a field's behind the id of the last one, a message's
  pub binary : TConfiguration → Reader (List ℕ)
  pub items : TConfiguration → Reader (TType × ℕ)
  pub pairs : TConfiguration → Reader (TType × TType × ℕ)
  pub field : ℤ → Reader Field
  pub message : TConfiguration → Reader Message
  -- the fewest bytes of a value
  pub least : TType → ℕ

-- "refused END when the count times the least size exceeds the bytes left after the header"
abbrev pub items_head : Words → TConfiguration → Reader (TType × ℕ)
items_head w lim = backed (λ h. h.1 * w.least h.0) (w.items lim)

-- "key plus value for a map"
abbrev pub pairs_head : Words → TConfiguration → Reader (TType × TType × ℕ)
pairs_head w lim = backed (λ h. h.2 * w.least h.0 + h.2 * w.least h.1) (w.pairs lim)

-- the compact protocol's words
abbrev pub compact : Words
compact =
    record {
      truth = compact-heads.truth;
      int8 = compact-heads.int8;
      int16 = compact-heads.int16;
      int32 = compact-heads.int32;
      int64 = compact-heads.int64;
      double = compact-heads.double;
      uuid = compact-heads.uuid;
      binary = compact-heads.binary;
      items = compact-heads.items;
      pairs = compact-heads.pairs;
      field = compact-heads.field;
      message = compact-heads.message;
      least = compact-heads.least_size;
    }
