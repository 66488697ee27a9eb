-- The scope paper's number of each answer, 0 where nothing is refused; the values are those that the case has. Assumes nothing: these are definitions.
use Rattle.std.specs.Prelude.{ℕ}
use Rattle.binary_heads.specs.declared.MessageHead.{MessageHead}
use Rattle.binary_heads.specs.declared.MessageHead.TheVariants as H
use Rattle.binary_heads.specs.declared.KindRead.{KindRead}
use Rattle.binary_heads.specs.declared.KindRead.TheVariants as K

abbrev pub number_message_head : MessageHead → ℕ
number_message_head (H.Got m i a z e) = 0
number_message_head (H.Refused why) = why

abbrev pub number_kind_read : KindRead → ℕ
number_kind_read (K.Got t p) = 0
number_kind_read (K.Refused why) = why
