-- What the calls answer of strings and messages, as the declared enums; of the other words crates/protocols has it. Inner vocabulary, for functions behind these
-- alone: `kind_at`, `sized_at`, `paired_at`, `named_at`. Assumes nothing: these are definitions.
use Rattle.std.specs.Prelude.{ℕ, ◌-◌, List, length}
use Rattle.types.specs.declared.TType.{TType}
use Rattle.types.specs.declared.TMessageType.{TMessageType}
use Rattle.types.specs.declared.TConfiguration.{TConfiguration}
use Rattle.numbers.specs.Varint.{Found, got, refused}
use Rattle.heads.specs.Reader.{read_at}
use Rattle.heads.specs.Heads.{Message}
use Rattle.heads.specs.Answers.{place, seq_of, to_part, to_map}
use Rattle.heads.specs.declared.PartRead.{PartRead}
use Rattle.heads.specs.declared.MapHead.{MapHead}
use Rattle.binary_heads.specs.Heads.{text, sized, kind, paired, named, message}
use Rattle.binary_heads.specs.declared.KindRead.{KindRead}
use Rattle.binary_heads.specs.declared.KindRead.TheVariants as K
use Rattle.binary_heads.specs.declared.MessageHead.{MessageHead}
use Rattle.binary_heads.specs.declared.MessageHead.TheVariants as H

unfoldable pub text_at : List ℕ → TConfiguration → ℕ → PartRead
text_at s lim at = to_part (read_at (text lim) s at)

-- the name ends where the sequence number's four bytes begin
abbrev pub to_message : Found Message → MessageHead
to_message (got a e) = H.Got a.0 (seq_of a.1) (place (e - 4 - length a.2)) (place (e - 4)) (place e)
to_message (refused why) = H.Refused why

unfoldable pub message_at : List ℕ → TConfiguration → ℕ → MessageHead
message_at s lim at = to_message (read_at (message lim) s at)

unfoldable pub named_at : List ℕ → TConfiguration → TMessageType → ℕ → MessageHead
named_at s lim m at = to_message (read_at (named lim m) s at)

unfoldable pub sized_at : List ℕ → TConfiguration → ℕ → ℕ → PartRead
sized_at s lim n at = to_part (read_at (sized lim n) s at)

abbrev pub to_kind : Found TType → KindRead
to_kind (got t e) = K.Got t (place e)
to_kind (refused why) = K.Refused why

unfoldable pub kind_at : List ℕ → ℕ → KindRead
kind_at s at = to_kind (read_at kind s at)

unfoldable pub paired_at : List ℕ → TConfiguration → TType → TType → ℕ → MapHead
paired_at s lim k v at = to_map (read_at (paired lim k v) s at)
