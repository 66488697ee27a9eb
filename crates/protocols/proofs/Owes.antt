-- What the words of a protocol owe, so that what is said over the record holds of it. Assumes nothing.
use mathlib.Core.Path.{◌≡◌}
use mathlib.Core.List.{List, []}
use Prim.Native.Nat.{ℕ, ◌≤◌, ◌<◌}
use native.Mathlib.Omega.{arith}
use lib.IntN.{ℤ}
use Rattle.types.specs.Refusals.{END}
use Rattle.types.specs.declared.TType.{TType}
use Rattle.types.specs.declared.TType.TheVariants as T
use Rattle.types.specs.declared.TConfiguration.{TConfiguration}
use Rattle.numbers.specs.Varint.{got, refused}
use Rattle.heads.specs.Reader.{Reader}
use Rattle.heads.proofs.Lawful.{Lawful, Takes}
use Rattle.protocols.specs.Words.{Words}

-- it takes no more bytes than there are, the bytes behind have no say, and it takes at least so many
pub record Reads {A : Type 0} (p : Reader A) (least : ℕ) : Type 0 where
  pub lawful : Lawful p
  pub enough : (bs : List ℕ) (a : A) (n : ℕ) → p bs ≡ got a n → least ≤ n

-- each word reads so, with the least size of its type; that size is at least 1, a struct's no more; and a field's header is not in no bytes
pub record Owes (w : Words) : Type 0 where
  pub truth : Reads w.truth (w.least T.Bool)
  pub int8 : Reads w.int8 (w.least T.I08)
  pub int16 : Reads w.int16 (w.least T.I16)
  pub int32 : Reads w.int32 (w.least T.I32)
  pub int64 : Reads w.int64 (w.least T.I64)
  pub double : Reads w.double (w.least T.Double)
  pub uuid : Reads w.uuid (w.least T.Uuid)
  pub binary : (lim : TConfiguration) → Reads (w.binary lim) (w.least T.String)
  pub list : (lim : TConfiguration) → Reads (w.items lim) (w.least T.List)
  pub set : (lim : TConfiguration) → Reads (w.items lim) (w.least T.Set)
  pub map : (lim : TConfiguration) → Reads (w.pairs lim) (w.least T.Map)
  pub field : (last : ℤ) → Reads (w.field last) 1
  pub none : (last : ℤ) → w.field last [] ≡ refused END
  pub struct : w.least T.Struct ≤ 1
  pub some : (t : TType) → 0 < w.least t

pub takes : {A : Type 0} (p : Reader A) (least : ℕ) → 0 < least → Reads p least → Takes p
takes p least h r bs a n e = omega (arith, r.enough bs a n e)

pub reads : {A : Type 0} (p : Reader A) → Lawful p → Takes p → Reads p 1
reads p l t = record { lawful = l; enough = λ bs a n e. omega (arith, t bs a n e) }
