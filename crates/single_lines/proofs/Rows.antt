-- The text, at each return. Assumes nothing.
use mathlib.Core.Path.{◌≡◌, sym, ap, ◌∙◌}
use mathlib.Core.List.{List}
use Prim.Native.Nat.{ℕ, ◌≤◌, ◌<◌}
use borrow.Author.Tests.{lt-ltb, le-ltb}
use lib.ListN.{length}
use Rattle.types.specs.Refusals.{NO_ROOM}
use Rattle.types.specs.declared.Place.{Place}
use Rattle.types.specs.declared.SeqNo.{SeqNo}
use Rattle.types.specs.declared.TMessageType.{TMessageType}
use Rattle.input.specs.State.{State, fresh}
use Rattle.input.specs.Calls.{read_message}
use Rattle.input.specs.declared.MessageAnswer.{MessageAnswer}
use Rattle.input.specs.declared.MessageAnswer.TheVariants as M
use Rattle.input.specs.declared.ReadMessage.{ReadMessage}
use Rattle.text.specs.Pen.{Pen, inked}
use Rattle.text.specs.Words.{ascii, decimal}
use Rattle.text.proofs.Inks.{inked_two}
use Rattle.lines.specs.Lines.{line, refusal}
use Rattle.single.specs.declared.Counts.{Counts}
use Rattle.doubles.specs.Calls.{counts_call}
use Rattle.doubles.specs.declared.CountsAnswer.{CountsAnswer}
use Rattle.doubles.specs.declared.CountsAnswer.TheVariants as C
use Rattle.doubles.specs.declared.ReadCounts.{ReadCounts}
use Rattle.single_lines.specs.Told.{counts_line, struct_line, limits, message_line, singles_text}

-- put_counts
pub counts_text : (p a b c d e f q : Pen) (n : Counts) → a ≡ inked (ascii "yes ") p → b ≡ inked (decimal n.yes) a → c ≡ inked (ascii " no ") b → d ≡ inked (decimal n.no) c → e ≡ inked (ascii " nan ") d → f ≡ inked (decimal n.nan) e → q ≡ inked (ascii "\n") f → q ≡ inked (counts_line n) p
unfolding counts_line
counts_text p a b c d e f q n h₁ h₂ h₃ h₄ h₅ h₆ h₇ =
    inked_two (ascii "yes ") _ p a q h₁
    (inked_two (decimal n.yes) _ a b q h₂
    (inked_two (ascii " no ") _ b c q h₃
    (inked_two (decimal n.no) _ c d q h₄
    (inked_two (ascii " nan ") _ d e q h₅
    (inked_two (decimal n.nan) (ascii "\n") e f q h₆ h₇)))))

-- put_struct
module _ (p q : Pen) (s : List ℕ) (st : State) (read : ReadCounts) (f : read ≡ counts_call s st) where
  pub struct_got : (c : Counts) → read.answer ≡ C.Got c → q ≡ inked (counts_line c) p → q ≡ inked (struct_line (counts_call s st).answer) p
  unfolding struct_line
  struct_got c g e = e ∙ ap (λ (a : CountsAnswer). inked (struct_line a) p) (sym g ∙ ap (λ (r : ReadCounts). r.answer) f)

  pub struct_no : (why : ℕ) → read.answer ≡ C.Refused why → q ≡ inked (line (refusal why)) p → q ≡ inked (struct_line (counts_call s st).answer) p
  unfolding struct_line
  struct_no why g e = e ∙ ap (λ (a : CountsAnswer). inked (struct_line a) p) (sym g ∙ ap (λ (r : ReadCounts). r.answer) f)

pub ruleset struct_cases = (struct_got, struct_no)

-- put_singles
module _ (p q : Pen) (s : List ℕ) where
  pub text_long : 65536 < length s → q ≡ inked (line (refusal NO_ROOM)) p → q ≡ inked (singles_text s) p
  unfolding singles_text
  text_long h e = rw (lt-ltb 65536 (length s) h) e

  module _ (h : length s ≤ 65536) (st : State) (z : st ≡ fresh limits) (read : ReadMessage) (f : read ≡ read_message s st) where
    by_answer : (a : MessageAnswer) → read.answer ≡ a → inked (message_line s read.state a) p ≡ inked (singles_text s) p
    unfolding singles_text
    by_answer a g =
        let k : read ≡ read_message s (fresh limits) = f ∙ ap (read_message s) z in
        rw (le-ltb 65536 (length s) h) (ap (λ (x : MessageAnswer). inked (message_line s read.state x) p) (sym g) ∙ ap (λ (r : ReadMessage). inked (message_line s r.state r.answer) p) k)

    pub text_got : (m : TMessageType) (i : SeqNo) (a e : Place) → read.answer ≡ M.Got m i a e → q ≡ inked (struct_line (counts_call s read.state).answer) p → q ≡ inked (singles_text s) p
    text_got m i a e g k = k ∙ by_answer (M.Got m i a e) g

    pub text_no : (why : ℕ) → read.answer ≡ M.Refused why → q ≡ inked (line (refusal why)) p → q ≡ inked (singles_text s) p
    text_no why g k = k ∙ by_answer (M.Refused why) g

pub ruleset text_cases = (text_long, text_got, text_no)
