-- Lines, piece by piece: what the code knows of each piece at a return, one law for each form. docs/PORT.md names these five, so they stand; the
-- check proves the functions from the law of pieces behind one another alone (src/lib.rt's attribute). Assumes nothing.
use mathlib.Core.Path.{◌≡◌, ap, ◌∙◌}
use mathlib.Core.List.{List}
use Prim.Native.Nat.{ℕ}
use lib.IntN.{ℤ}
use Rattle.types.specs.Codes.{message_code}
use Rattle.types.specs.declared.TType.{TType}
use Rattle.types.specs.declared.TMessageType.{TMessageType}
use Rattle.text.specs.Pen.{Pen, inked}
use Rattle.text.specs.Words.{ascii, decimal, signed, type_name}
use Rattle.text.proofs.Inks.{inked_two}
use Rattle.lines.specs.Lines.{spaced_type, spaced_int, last_number, last_bytes, line, message, struct, part}

-- put_struct
module _ (p q : Pen) where
  pub struct_line_lem : q ≡ inked (ascii "struct\n") p → q ≡ inked (line struct) p
  unfolding line
  struct_line_lem e = e

-- put_type, put_count, put_seq (a number reaches the call that writes it through its bits, as y). The premises stand in the order of the
-- pieces, so that each is found from the one before it.
pub spaced_type_lem : (p a q : Pen) (t : TType) → a ≡ inked (ascii " ") p → q ≡ inked (type_name t) a → q ≡ inked (spaced_type t) p
unfolding spaced_type
spaced_type_lem p a q t q₁ q₂ = inked_two (ascii " ") (type_name t) p a q q₁ q₂

pub last_number_lem : (p a b q : Pen) (n : ℕ) → a ≡ inked (ascii " ") p → b ≡ inked (decimal n) a → q ≡ inked (ascii "\n") b → q ≡ inked (last_number n) p
unfolding last_number
last_number_lem p a b q n q₁ q₂ q₃ = inked_two (ascii " ") _ p a q q₁ (inked_two (decimal n) (ascii "\n") a b q q₂ q₃)

pub spaced_int_lem : (p a q : Pen) (z y w v : ℤ) → a ≡ inked (ascii " ") p → q ≡ inked (signed y) a → y ≡ w → w ≡ v → v ≡ z → q ≡ inked (spaced_int z) p
unfolding spaced_int
spaced_int_lem p a q z y w v q₁ q₂ g h k = inked_two (ascii " ") (signed z) p a q q₁ (q₂ ∙ ap (λ (n : ℤ). inked (signed n) a) (g ∙ h ∙ k))

-- put_message
pub message_line_lem : (p a b c d q : Pen) (m : TMessageType) (z : ℤ) (name : List ℕ) (k j : ℕ) → a ≡ inked (ascii "message ") p → b ≡ inked (decimal k) a → c ≡ inked (spaced_int z) b → d ≡ inked (ascii " ") c → q ≡ inked (line (part name)) d → k ≡ j → j ≡ message_code m → q ≡ inked (line (message m z name)) p
unfolding line
message_line_lem p a b c d q m z name k j q₁ q₂ q₃ q₄ q₅ g h =
    inked_two (ascii "message ") _ p a q q₁
    (inked_two (decimal (message_code m)) _ a b q (q₂ ∙ ap (λ (n : ℕ). inked (decimal n) a) (g ∙ h))
    (inked_two (spaced_int z) _ b c q q₃ (inked_two (ascii " ") (last_bytes name) c d q q₄ q₅)))
