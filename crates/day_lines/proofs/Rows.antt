-- The line, piece by piece: what the code knows at each return. Assumes nothing.
use mathlib.Core.Path.{◌≡◌, sym, ap, ◌∙◌}
use mathlib.Core.List.{List}
use lib.ListN.{length}
use Prim.Native.Nat.{ℕ}
use Rattle.types.specs.declared.TMessageType.{TMessageType}
use Rattle.types.specs.declared.SeqNo.{SeqNo}
use Rattle.types.specs.declared.Place.{Place}
use Rattle.input.specs.State.{State, fresh}
use Rattle.input.specs.Calls.{read_message, name_part}
use Rattle.input.specs.declared.ReadMessage.{ReadMessage}
use Rattle.input.specs.declared.MessageAnswer.TheVariants as H
use Rattle.text.specs.Pen.{Pen, inked}
use Rattle.text.specs.Words.{ascii, decimal}
use Rattle.text.proofs.Inks.{inked_two}
use Rattle.lines.specs.Lines.{message, refusal, line}
use Rattle.days.specs.Day.{message_of, part_of}
use Rattle.days.specs.declared.Part.{Part}
use Rattle.days.specs.declared.Part.TheVariants as P
use Rattle.day_lines.specs.Listed.{limits, head_item, spaced, line_of, day_line}

-- put_number
pub number_spaced : (p a q : Pen) (n k : ℕ) → a ≡ inked (decimal k) p → k ≡ n → q ≡ inked (ascii " ") a → q ≡ inked (spaced n) p
unfolding spaced
number_spaced p a q n k e g f = inked_two (decimal n) (ascii " ") p a q (e ∙ ap (λ (i : ℕ). inked (decimal i) p) g) f

pub ruleset number_cases = (number_spaced)

-- put_head
module _ (p q : Pen) (bytes : List ℕ) (st : State) (r : ReadMessage) (new : st ≡ fresh limits) (read : r ≡ read_message bytes st) where
  pub head_got : (m : TMessageType) (z : SeqNo) (a e : Place) (name : List ℕ) → r.answer ≡ H.Got m z a e → name ≡ name_part bytes st → q ≡ inked (line (message m z.0 name)) p → q ≡ inked (line (head_item bytes)) p
  unfolding head_item
  head_got m z a e name is named put = put ∙ ap (λ i. inked (line i) p) (rw (named, ← new, ← read, is))

  pub head_not : (why : ℕ) → r.answer ≡ H.Refused why → q ≡ inked (line (refusal why)) p → q ≡ inked (line (head_item bytes)) p
  unfolding head_item
  head_not why is put = put ∙ ap (λ i. inked (line i) p) (rw (← new, ← read, is))

pub ruleset head_cases = (head_got, head_not)

-- put_line
module _ (p : Pen) (file : List ℕ) (k : ℕ) (f : Part) (found : f ≡ message_of file k) where
  pub line_at : (b c d q : Pen) (a e n : ℕ) (bytes : List ℕ) → f ≡ P.At a e → bytes ≡ part_of file (message_of file k) → n ≡ length bytes → b ≡ inked (spaced k) p → c ≡ inked (spaced a) b → d ≡ inked (spaced n) c → q ≡ inked (line (head_item bytes)) d → q ≡ inked (day_line file k) p
  unfolding day_line
  line_at b c d q a e n bytes is part len q₁ q₂ q₃ q₄ =
      whole ∙ ap (λ t. inked t p) (ap (λ s. line_of k s (P.At a e)) part ∙ ap (line_of k (part_of file (message_of file k))) (sym is ∙ found))
    where
      whole : q ≡ inked (line_of k bytes (P.At a e)) p
      whole =
          inked_two (spaced k) _ p b q q₁
          (inked_two (spaced a) _ b c q q₂ (inked_two (spaced (length bytes)) _ c d q (q₃ ∙ ap (λ i. inked (spaced i) c) len) q₄))

  pub line_not : (q : Pen) (why : ℕ) → f ≡ P.Refused why → q ≡ inked (line (refusal why)) p → q ≡ inked (day_line file k) p
  unfolding day_line
  line_not q why is put = put ∙ ap (λ t. inked t p) (ap (line_of k (part_of file (message_of file k))) (sym is ∙ found))

pub ruleset line_cases = (line_at, line_not)
