-- The text, piece by piece: what the code knows at each return. Assumes nothing.
use mathlib.Core.Path.{◌≡◌, refl, sym, ap, ◌∙◌}
use mathlib.Core.Bool.{Bool, true, false}
use mathlib.Core.List.{List, [], ◌∷◌, ◌++◌, append-nil}
use Prim.Native.Nat.{ℕ, zero, suc, ◌+◌, ◌-◌, ◌*◌, ◌≤◌, ◌<◌}
use native.Mathlib.Nat.{le_refl}
use native.Mathlib.Numerals.{add-one}
use native.Mathlib.Omega.{arith}
use borrow.Author.Rules.{sfits_of}
use borrow.Author.Tests.{lt-ltb, le-ltb, le-leb, lt-leb}
use lib.Dec.{leb}
use lib.IntN.{ℤ, pos, negsuc}
use lib.ListN.{length, take, drop, get_or, drop_of_length-le, length-drop}
use lib.Seq.{drop-cons, take_all}
use mir.Facts.{to_z-of_z}
use mir.Syntax.{w64}
use mir.Val.{SFits, of_z, to_z}
use Rattle.numbers.proofs.Found.{by_lt, zero_one}
use Rattle.types.proofs.Tables.{Misses, behind}
use Rattle.types.specs.Refusals.{NO_ROOM}
use Rattle.types.specs.declared.Place.{Place}
use Rattle.input.specs.State.{State, fresh}
use Rattle.input.specs.Calls.{read_message}
use Rattle.input.specs.declared.ReadMessage.{ReadMessage}
use Rattle.faults.specs.Tracked as way
use Rattle.faults.specs.Tracked.{Step}
use Rattle.faults.specs.Fault.{Fault, accepted, fault, faults, numbered, verdict, why_call, why_message, why_row, told_in}
use Rattle.faults.specs.declared.Verdict.{Verdict}
use Rattle.faults.specs.declared.Verdict.TheVariants as Say
use Rattle.faults.proofs.States.{faults_few}
use Rattle.text.specs.Pen.{Pen, inked}
use Rattle.text.specs.Words.{ascii, decimal, signed, hex}
use Rattle.text.proofs.Inks.{inked_two, inked_none, same_length}
use Rattle.days.specs.Day.{message_of, part_of}
use Rattle.days.specs.declared.Part.{Part}
use Rattle.days.specs.declared.Part.TheVariants as P
use Rattle.fault_lines.specs.Row.{kind_word, row_words}
use Rattle.fault_lines.specs.Told.{step_words, path_words, refused_at, fault_line, names, words_of, name_of, spaced_hex, own_hex, around, below_of, struct_text, head_text, limits, message_text, long_text, fault_text, day_line_of, day_fault}

-- a row that holds a path's numbers has its words
pub row_words_lem : (before : List ℕ) (path : List Step) (rest : List ℤ) → row_words before (length path) (numbered path ++ rest) ≡ path_words before path
unfolding row_words path_words numbered step_words kind_word signed
row_words_lem before [] rest = refl
row_words_lem before (way.field id ∷ path) rest = ap (λ (t : List ℕ). before ++ (ascii "field " ++ (signed id ++ t))) (row_words_lem before path rest)
row_words_lem before (way.element i ∷ path) rest = ap (λ (t : List ℕ). before ++ (ascii "element " ++ (decimal i ++ t))) (row_words_lem before path rest)
row_words_lem before (way.key i ∷ path) rest = ap (λ (t : List ℕ). before ++ (ascii "key " ++ (decimal i ++ t))) (row_words_lem before path rest)
row_words_lem before (way.value i ∷ path) rest = ap (λ (t : List ℕ). before ++ (ascii "value " ++ (decimal i ++ t))) (row_words_lem before path rest)

-- put_kind: the number passes through its bits
module _ (p q : Pen) (kind : ℤ) (s : SFits w64 kind) where
  of_bits : (n : ℕ) → of_z w64 kind ≡ n → kind ≡ to_z w64 n
  of_bits n e = sym (to_z-of_z s) ∙ ap (to_z w64) e

  word_of : (word : List ℕ) → word ≡ kind_word kind → q ≡ inked word p → q ≡ inked (kind_word kind) p
  word_of word w e = e ∙ ap (λ (t : List ℕ). inked t p) w

  pub kind_field : of_z w64 kind ≡ 0 → q ≡ inked (ascii "field ") p → q ≡ inked (kind_word kind) p
  unfolding kind_word
  kind_field h e = word_of (ascii "field ") (ap kind_word (sym (of_bits 0 h))) e

  pub kind_element : of_z w64 kind ≡ 1 → q ≡ inked (ascii "element ") p → q ≡ inked (kind_word kind) p
  unfolding kind_word
  kind_element h e = word_of (ascii "element ") (ap kind_word (sym (of_bits 1 h))) e

  pub kind_key : of_z w64 kind ≡ 2 → q ≡ inked (ascii "key ") p → q ≡ inked (kind_word kind) p
  unfolding kind_word
  kind_key h e = word_of (ascii "key ") (ap kind_word (sym (of_bits 2 h))) e

value_word : (kind : ℤ) → (of_z w64 kind ≡ 0 → ⊥) → (of_z w64 kind ≡ 1 → ⊥) → (of_z w64 kind ≡ 2 → ⊥) → ascii "value " ≡ kind_word kind
unfolding kind_word
value_word (pos zero) h i j = absurd (h refl)
value_word (pos (suc zero)) h i j = absurd (i refl)
value_word (pos (suc (suc zero))) h i j = absurd (j refl)
value_word (pos (suc (suc (suc n)))) h i j = refl
value_word (negsuc n) h i j = refl

pub kind_value : (p q : Pen) (kind : ℤ) → (of_z w64 kind ≡ 0 → ⊥) → (of_z w64 kind ≡ 1 → ⊥) → (of_z w64 kind ≡ 2 → ⊥) → q ≡ inked (ascii "value ") p → q ≡ inked (kind_word kind) p
kind_value p q kind h i j e = e ∙ ap (λ (t : List ℕ). inked t p) (value_word kind h i j)

pub ruleset kind_cases = (kind_field, kind_element, kind_key, kind_value, sfits_of)

-- put_steps: those from k on are left
module _ (before : List ℕ) (row : List ℤ) (steps k : ℕ) (out : List ℕ) (p : ℕ) where
  pub steps_done : (out₀ : List ℕ) (to : ℕ) → steps ≤ k → inked (row_words before (steps - k) (drop (2 * k) row)) (out, p) ≡ inked (row_words before steps row) (out₀, to) → (out, p) ≡ inked (row_words before steps row) (out₀, to)
  unfolding row_words
  steps_done out₀ to h e =
      let z : steps - k ≡ 0 = omega (arith, h) in
      sym (inked_none (out, p)) ∙ ap (λ (n : ℕ). inked (row_words before n (drop (2 * k) row)) (out, p)) (sym z) ∙ e

  pub steps_start : inked (row_words before (steps - 0) (drop (2 * 0) row)) (out, p) ≡ inked (row_words before steps row) (out, p)
  steps_start = let z : steps - 0 ≡ steps = omega arith in rw z refl

  two_more : 2 * steps ≤ length row → k < steps → drop (2 * k) row ≡ get_or row (2 * k) (pos 0) ∷ get_or row (2 * k + 1) (pos 0) ∷ drop (2 * (k + 1)) row
  two_more h l =
      let i : suc (2 * k) ≡ 2 * k + 1 = omega arith in
      let j : suc (2 * k + 1) ≡ 2 * (k + 1) = omega arith in
      drop-cons row (2 * k) (pos 0) (omega (arith, h, l))
      ∙ ap (λ (r : List ℤ). get_or row (2 * k) (pos 0) ∷ r) (ap (λ (m : ℕ). drop m row) i ∙ drop-cons row (2 * k + 1) (pos 0) (omega (arith, h, l)) ∙ ap (λ (m : ℕ). get_or row (2 * k + 1) (pos 0) ∷ drop m row) j)

  pub steps_turn : (out₀ : List ℕ) (to : ℕ) (a b c : Pen) (kind number : ℤ) → 2 * steps ≤ length row → k < steps → kind ≡ get_or row (2 * k) (pos 0) → number ≡ get_or row (2 * k + 1) (pos 0) → a ≡ inked before (out, p) → b ≡ inked (kind_word kind) a → c ≡ inked (signed number) b → inked (row_words before (steps - k) (drop (2 * k) row)) (out, p) ≡ inked (row_words before steps row) (out₀, to) → inked (row_words before (steps - (k + 1)) (drop (2 * (k + 1)) row)) c ≡ inked (row_words before steps row) (out₀, to)
  unfolding row_words
  steps_turn out₀ to a b c kind number h l g f q₁ q₂ q₃ e = whole ∙ ap (λ (r : List ℤ). inked (row_words before (suc left) r) (out, p)) (sym (two_more h l)) ∙ ap (λ (n : ℕ). inked (row_words before n (drop (2 * k) row)) (out, p)) (sym one) ∙ e
    where
      left : ℕ
      left = steps - (k + 1)

      one : steps - k ≡ suc left
      one = omega (arith, l)

      rest : List ℕ
      rest = row_words before left (drop (2 * (k + 1)) row)

      whole : inked rest c ≡ inked (before ++ (kind_word (get_or row (2 * k) (pos 0)) ++ (signed (get_or row (2 * k + 1) (pos 0)) ++ rest))) (out, p)
      whole =
          inked_two before _ (out, p) a (inked rest c) q₁
          (inked_two (kind_word (get_or row (2 * k) (pos 0))) _ a b (inked rest c) (q₂ ∙ ap (λ (z : ℤ). inked (kind_word z) a) g)
          (inked_two (signed (get_or row (2 * k + 1) (pos 0))) rest b c (inked rest c) (q₃ ∙ ap (λ (z : ℤ). inked (signed z) b) f) refl))

pub ruleset steps_cases = (steps_start, steps_done, steps_turn, same_length, to_z-of_z, sfits_of)

-- put_number, put_accepted, put_refused
pub number_text_lem : (p a b c q : Pen) (why off i j : ℕ) → a ≡ inked (ascii "refused ") p → b ≡ inked (decimal i) a → c ≡ inked (ascii " at ") b → q ≡ inked (decimal j) c → i ≡ why → j ≡ off → q ≡ inked (refused_at why off) p
unfolding refused_at
number_text_lem p a b c q why off i j q₁ q₂ q₃ q₄ g h =
    inked_two (ascii "refused ") _ p a q q₁
    (inked_two (decimal why) _ a b q (q₂ ∙ ap (λ (n : ℕ). inked (decimal n) a) g)
    (inked_two (ascii " at ") (decimal off) b c q q₃ (q₄ ∙ ap (λ (n : ℕ). inked (decimal n) c) h)))

pub accepted_text : (p a b q : Pen) (used i : ℕ) → a ≡ inked (ascii "accepted ") p → b ≡ inked (decimal i) a → q ≡ inked (ascii "\n") b → i ≡ used → q ≡ inked (fault_line (accepted used)) p
unfolding fault_line
accepted_text p a b q used i q₁ q₂ q₃ g =
    inked_two (ascii "accepted ") _ p a q q₁ (inked_two (decimal used) (ascii "\n") a b q (q₂ ∙ ap (λ (n : ℕ). inked (decimal n) a) g) q₃)

pub refused_text : (p a q : Pen) (why off : ℕ) → a ≡ inked (refused_at why off) p → q ≡ inked (ascii "\n") a → q ≡ inked (fault_line (fault why off [])) p
unfolding fault_line path_words
refused_text p a q why off q₁ q₂ = inked_two (refused_at why off) (ascii "\n") p a q q₁ q₂

pub ruleset line_cases = (number_text_lem, accepted_text, refused_text)

-- put_words, put_name
pub named : (p q : Pen) (word : List ℕ) (why n : ℕ) → q ≡ inked word p → why ≡ n → word ≡ words_of n → q ≡ inked (words_of why) p
named p q word why n e k w = e ∙ ap (λ (t : List ℕ). inked t p) w ∙ ap (λ (m : ℕ). inked (words_of m) p) (sym k)

pub named_none : (p q : Pen) (why : ℕ) → Misses 0 20 why → q ≡ inked (ascii "UNKNOWN") p → q ≡ inked (words_of why) p
unfolding words_of
named_none p q why m e = e ∙ ap (λ (t : List ℕ). inked t p) (behind names (ascii "UNKNOWN") 20 why m (le_refl 20))

pub name_text : (p a q : Pen) (why : ℕ) → a ≡ inked (words_of why) p → q ≡ inked (ascii ".\n") a → q ≡ inked (name_of why) p
unfolding name_of
name_text p a q why q₁ q₂ = inked_two (words_of why) (ascii ".\n") p a q q₁ q₂

pub ruleset name_cases = (name_text)

-- put_spaced: the bytes from i on are left
module _ (bytes : List ℕ) (out : List ℕ) (p i : ℕ) where
  pub spaced_done : (out₀ : List ℕ) (to : ℕ) → length bytes ≤ i → inked (spaced_hex (drop i bytes)) (out, p) ≡ inked (spaced_hex bytes) (out₀, to) → (out, p) ≡ inked (spaced_hex bytes) (out₀, to)
  unfolding spaced_hex
  spaced_done out₀ to h e = sym (inked_none (out, p)) ∙ ap (λ (l : List ℕ). inked (spaced_hex l) (out, p)) (sym (drop_of_length-le bytes h)) ∙ e

  pub spaced_turn : (out₀ : List ℕ) (to : ℕ) (a c : Pen) (b d : ℕ) → i < length bytes → b ≡ d → d ≡ get_or bytes i 0 → a ≡ inked (ascii " ") (out, p) → c ≡ inked (hex 2 b) a → inked (spaced_hex (drop i bytes)) (out, p) ≡ inked (spaced_hex bytes) (out₀, to) → inked (spaced_hex (drop (i + 1) bytes)) c ≡ inked (spaced_hex bytes) (out₀, to)
  unfolding spaced_hex
  spaced_turn out₀ to a c b d h g k q₁ q₂ e =
      rw (add-one i)
      (inked_two (ascii " ") _ (out, p) a _ q₁ (inked_two (hex 2 (get_or bytes i 0)) (spaced_hex (drop (suc i) bytes)) a c _ (q₂ ∙ ap (λ (m : ℕ). inked (hex 2 m) a) (g ∙ k)) refl)
      ∙ ap (λ (l : List ℕ). inked (spaced_hex l) (out, p)) (sym (drop-cons bytes i 0 h))
      ∙ e)

pub ruleset spaced_cases = (spaced_done, spaced_turn, same_length)

-- put_own
pub own_none : (p q : Pen) (bytes : List ℕ) → length bytes ≡ 0 → q ≡ inked (ascii " [--]\n") p → q ≡ inked (own_hex bytes) p
unfolding own_hex
own_none p q [] h e = e
own_none p q (b ∷ bs) h e = absurd (omega (arith, h))

seven : (bs : List ℕ) (n : ℕ) → n ≡ 8 - (8 - suc (length bs)) → take (n - 1) bs ≡ take 7 bs
seven bs n e =
    by_lt (length bs) 7
    (λ h. take_all (n - 1) bs (omega (arith, e, h)) ∙ sym (take_all 7 bs (omega (arith, h))))
    (λ h. let k : n - 1 ≡ 7 = omega (arith, e, h) in rw k)

pub own_some : (p a b c d q : Pen) (bytes : List ℕ) (i j n : ℕ) → (length bytes ≡ 0 → ⊥) → a ≡ inked (ascii " [") p → b ≡ inked (hex 2 i) a → i ≡ j → j ≡ get_or bytes 0 0 → c ≡ inked (ascii "]") b → n ≡ 8 - (8 - length bytes) → d ≡ inked (spaced_hex (take (n - 1) (drop 1 bytes))) c → q ≡ inked (ascii "\n") d → q ≡ inked (own_hex bytes) p
unfolding own_hex
own_some p a b c d q [] i j n z q₁ q₂ g h q₃ e q₄ q₅ = absurd (z refl)
own_some p a b c d q (x ∷ bs) i j n z q₁ q₂ g h q₃ e q₄ q₅ =
    inked_two (ascii " [") _ p a q q₁
    (inked_two (hex 2 x) _ a b q (q₂ ∙ ap (λ (m : ℕ). inked (hex 2 m) a) (g ∙ h))
    (inked_two (ascii "]") _ b c q q₃ (inked_two (spaced_hex (take 7 bs)) (ascii "\n") c d q (q₄ ∙ ap (λ (l : List ℕ). inked (spaced_hex l) c) (seven bs n e)) q₅)))

pub ruleset own_cases = (own_none, own_some)

-- put_around
module _ (s : List ℕ) (off : ℕ) (p : Pen) where
  pub around_past : length s < off → p ≡ inked (around s off) p
  unfolding around
  around_past h = rw (lt-ltb (length s) off h) (sym (inked_none p))

  around_whole : (a b c q : Pen) (first i : ℕ) → off ≤ length s → first ≡ off - 8 → a ≡ inked (decimal i) p → i ≡ first → b ≡ inked (ascii ":") a → c ≡ inked (spaced_hex (take (off - first) (drop first s))) b → q ≡ inked (own_hex (drop off s)) c → q ≡ inked (around s off) p
  unfolding around
  around_whole a b c q first i h f q₁ g q₂ q₃ q₄ =
      rw (le-ltb (length s) off h)
      (inked_two (decimal (off - 8)) _ p a q (q₁ ∙ ap (λ (n : ℕ). inked (decimal n) p) (g ∙ f))
      (inked_two (ascii ":") _ a b q q₂
      (inked_two (spaced_hex (take (off - (off - 8)) (drop (off - 8) s))) (own_hex (drop off s)) b c q (q₃ ∙ ap (λ (n : ℕ). inked (spaced_hex (take (off - n) (drop n s))) b) f) q₄)))

  pub around_text : (a b c q : Pen) (first i : ℕ) → off ≤ length s → first ≡ off - 8 → a ≡ inked (decimal i) p → i ≡ first → b ≡ inked (ascii ":") a → c ≡ inked (spaced_hex (take (off - first) (drop first s))) b → q ≡ inked (own_hex (take (length s - off) (drop off s))) c → q ≡ inked (around s off) p
  around_text a b c q first i h f q₁ g q₂ q₃ q₄ = around_whole a b c q first i h f q₁ g q₂ q₃ (q₄ ∙ ap (λ (l : List ℕ). inked (own_hex l) c) (take_all (length s - off) (drop off s) (omega (arith, length-drop off s))))

pub ruleset around_cases = (around_past, around_text)

-- put_below
pub below_text : (p a b c d q : Pen) (s steps : List ℕ) (why off : ℕ) → a ≡ inked (name_of why) p → b ≡ inked (ascii "In the struct") a → c ≡ inked steps b → d ≡ inked (ascii ".\n") c → q ≡ inked (around s off) d → q ≡ inked (below_of s why off steps) p
unfolding below_of
below_text p a b c d q s steps why off q₁ q₂ q₃ q₄ q₅ =
    inked_two (name_of why) _ p a q q₁
    (inked_two (ascii "In the struct") _ a b q q₂ (inked_two steps _ b c q q₃ (inked_two (ascii ".\n") (around s off) c d q q₄ q₅)))

pub ruleset below_cases = (below_text)

-- put_struct
no_accepted : {X : Type 0} {e : Place} {why off n : ℕ} → Say.Accepted e ≡ Say.Refused why off n → X
no_accepted e = zero_one (cc)

accepted_by : (more : Bool) (s : List ℕ) (f : Fault) (n start : ℕ) (e : Place) → Say.Accepted e ≡ verdict n start f → fault_line (accepted e.0) ≡ struct_text more s f
unfolding struct_text
accepted_by more s (accepted k) n start e g = let h : e.0 ≡ k = cc in ap (λ (m : ℕ). fault_line (accepted m)) h
accepted_by more s (fault why off path) n start e g = by_lt n (2 * length path) (λ h. no_accepted (rw (lt-leb (2 * length path) n h) at g)) (λ h. no_accepted (rw (le-leb (2 * length path) n h) at g))

-- what the verdict of a refusal and the row beside it tell: the path is there, and its words are the row's
record Held (f : Fault) (row : List ℤ) (why off steps : ℕ) : Type 0 where
  path : List Step
  is : f ≡ fault why off path
  words : (before : List ℕ) → row_words before steps row ≡ path_words before path
  room : 2 * steps ≤ length row

two_each : (path : List Step) (rest : List ℤ) → 2 * length path ≤ length (numbered path ++ rest)
unfolding numbered
two_each [] rest = omega arith
two_each (way.field id ∷ path) rest = omega (arith, two_each path rest)
two_each (way.element i ∷ path) rest = omega (arith, two_each path rest)
two_each (way.key i ∷ path) rest = omega (arith, two_each path rest)
two_each (way.value i ∷ path) rest = omega (arith, two_each path rest)

held : (f : Fault) → ((w o : ℕ) (path : List Step) → f ≡ fault w o path → length path ≤ 64) → (start : ℕ) (row₀ row : List ℤ) (why off steps : ℕ) → Say.Refused why off steps ≡ verdict (length row₀) start f → row ≡ told_in row₀ f → 128 ≡ length row₀ → Held f row why off steps
held (accepted e) near start row₀ row why off steps g r n = no_accepted (sym g)
held (fault w o path) near start row₀ row why off steps g r n =
    let fits : leb (2 * length path) (length row₀) ≡ true = le-leb (2 * length path) (length row₀) (omega (arith, near w o path refl, n)) in
    let same : Say.Refused why off steps ≡ Say.Refused w o (length path) = rw fits at g in
    let there : row ≡ numbered path ++ drop (2 * length path) row₀ = rw fits at r in
    let many : steps ≡ length path = cc in
    record {
      path = path;
      is = cc;
      words = λ before. ap (λ (l : List ℤ). row_words before steps l) there ∙ ap (λ (m : ℕ). row_words before m (numbered path ++ drop (2 * length path) row₀)) many ∙ row_words_lem before path (drop (2 * length path) row₀);
      room = rw (there, many) (two_each path (drop (2 * length path) row₀));
    }

module _ (s : List ℕ) (st : State) (v : Verdict) where
  pub struct_accepted : (p q : Pen) (more : Bool) (n : ℕ) (e : Place) → v ≡ why_call n s st → v ≡ Say.Accepted e → q ≡ inked (fault_line (accepted e.0)) p → q ≡ inked (struct_text more s (faults s st)) p
  unfolding why_call
  struct_accepted p q more n e asked is put = put ∙ ap (λ (t : List ℕ). inked t p) (accepted_by more s (faults s st) n st.place.0 e (sym is ∙ asked))

  module _ (row₀ row : List ℤ) (why off steps : ℕ) (asked : v ≡ why_call (length row₀) s st) (kept : row ≡ why_row s st row₀) (n : 128 ≡ length row₀) (is : v ≡ Say.Refused why off steps) where
    all_held : Held (faults s st) row why off steps
    unfolding why_call why_row
    all_held = held (faults s st) (faults_few s st) st.place.0 row₀ row why off steps (sym is ∙ asked) kept n

    pub steps_room : 2 * steps ≤ length row
    steps_room = all_held.room

    module _ (p a b c : Pen) (more : Bool) (q₁ : a ≡ inked (refused_at why off) p) (q₂ : b ≡ inked (row_words (ascii " ") steps row) a) (q₃ : c ≡ inked (ascii "\n") b) where
      line_put : c ≡ inked (fault_line (fault why off all_held.path)) p
      unfolding fault_line
      line_put = inked_two (refused_at why off) _ p a c q₁ (inked_two (path_words (ascii " ") all_held.path) (ascii "\n") a b c (q₂ ∙ ap (λ (t : List ℕ). inked t a) (all_held.words (ascii " "))) q₃)

      pub struct_plain : more ≡ false → c ≡ inked (struct_text more s (faults s st)) p
      unfolding struct_text
      struct_plain m = line_put ∙ ap (λ (t : List ℕ). inked t p) (sym (append-nil _)) ∙ rw (m, all_held.is)

      pub struct_more : (q : Pen) → more ≡ true → q ≡ inked (below_of s why off (row_words (ascii ", ") steps row)) c → q ≡ inked (struct_text more s (faults s st)) p
      unfolding struct_text
      struct_more q m q₄ =
          inked_two (fault_line (fault why off all_held.path)) _ p c q line_put (q₄ ∙ ap (λ (t : List ℕ). inked (below_of s why off t) c) (all_held.words (ascii ", ")))
          ∙ rw (m, all_held.is)

pub ruleset struct_cases = (struct_accepted, steps_room, struct_plain, struct_more)

-- put_head, put_long
module _ (p a : Pen) (more : Bool) where
  module _ (s : List ℕ) (why off : ℕ) (q₁ : a ≡ inked (fault_line (fault why off [])) p) where
    pub head_plain : more ≡ false → a ≡ inked (head_text more s why off) p
    unfolding head_text
    head_plain m = q₁ ∙ ap (λ (t : List ℕ). inked t p) (sym (append-nil _)) ∙ rw m

    pub head_more : (b c q : Pen) → more ≡ true → b ≡ inked (name_of why) a → c ≡ inked (ascii "In the message's header.\n") b → q ≡ inked (around s off) c → q ≡ inked (head_text more s why off) p
    unfolding head_text
    head_more b c q m q₂ q₃ q₄ =
        inked_two (fault_line (fault why off [])) _ p a q q₁ (inked_two (name_of why) _ a b q q₂ (inked_two (ascii "In the message's header.\n") (around s off) b c q q₃ q₄))
        ∙ rw m

  module _ (q₁ : a ≡ inked (fault_line (fault NO_ROOM 0 [])) p) where
    pub long_plain : more ≡ false → a ≡ inked (long_text more) p
    unfolding long_text
    long_plain m = q₁ ∙ ap (λ (t : List ℕ). inked t p) (sym (append-nil _)) ∙ rw m

    pub long_more : (q : Pen) → more ≡ true → q ≡ inked (name_of NO_ROOM) a → q ≡ inked (long_text more) p
    unfolding long_text
    long_more q m q₂ = inked_two (fault_line (fault NO_ROOM 0 [])) (name_of NO_ROOM) p a q q₁ q₂ ∙ rw m

pub ruleset head_cases = (head_plain, head_more)

pub ruleset long_cases = (long_plain, long_more)

-- put_fault
module _ (p q : Pen) (more : Bool) (s : List ℕ) where
  pub fault_long : 65536 < length s → q ≡ inked (long_text more) p → q ≡ inked (fault_text more s) p
  unfolding fault_text
  fault_long h e = rw (lt-ltb 65536 (length s) h) e

  module _ (h : length s ≤ 65536) (st : State) (v : Verdict) (new : st ≡ fresh limits) (asked : v ≡ why_message s st) where
    header : message_text more s v ≡ fault_text more s
    unfolding fault_text
    header = rw (le-ltb 65536 (length s) h) (ap (message_text more s) (asked ∙ ap (why_message s) new))

    pub fault_struct : (e : Place) (r : ReadMessage) → v ≡ Say.Accepted e → r ≡ read_message s st → q ≡ inked (struct_text more s (faults s r.state)) p → q ≡ inked (fault_text more s) p
    unfolding message_text
    fault_struct e r is read put =
        put
        ∙ ap (λ (x : ReadMessage). inked (struct_text more s (faults s x.state)) p) (read ∙ ap (read_message s) new)
        ∙ ap (λ (w : Verdict). inked (message_text more s w) p) (sym is)
        ∙ ap (λ (x : List ℕ). inked x p) header

    pub fault_head : (why off n : ℕ) → v ≡ Say.Refused why off n → q ≡ inked (head_text more s why off) p → q ≡ inked (fault_text more s) p
    unfolding message_text
    fault_head why off n is put = put ∙ ap (λ (w : Verdict). inked (message_text more s w) p) (sym is) ∙ ap (λ (x : List ℕ). inked x p) header

pub ruleset fault_cases = (fault_long, fault_struct, fault_head)

-- put_day_fault
module _ (p a b q : Pen) (file : List ℕ) (k i : ℕ) (f : Part) (found : f ≡ message_of file k) (q₁ : a ≡ inked (decimal i) p) (g : i ≡ k) (q₂ : b ≡ inked (ascii " ") a) where
  whole : q ≡ inked (day_line_of (part_of file (message_of file k)) (message_of file k)) b → q ≡ inked (day_fault file k) p
  unfolding day_fault
  whole q₃ = inked_two (decimal k) _ p a q (q₁ ∙ ap (λ (n : ℕ). inked (decimal n) p) g) (inked_two (ascii " ") _ a b q q₂ q₃)

  pub day_at : (start end : ℕ) (bytes : List ℕ) → f ≡ P.At start end → bytes ≡ part_of file (message_of file k) → q ≡ inked (fault_text false bytes) b → q ≡ inked (day_fault file k) p
  day_at start end bytes is part q₃ = whole (q₃ ∙ ap (λ (l : List ℕ). inked (fault_text false l) b) part ∙ ap (λ (x : Part). inked (day_line_of (part_of file (message_of file k)) x) b) (sym is ∙ found))

  pub day_not : (why : ℕ) → f ≡ P.Refused why → q ≡ inked (fault_line (fault why 0 [])) b → q ≡ inked (day_fault file k) p
  day_not why is q₃ = whole (q₃ ∙ ap (λ (x : Part). inked (day_line_of (part_of file (message_of file k)) x) b) (sym is ∙ found))

pub ruleset day_cases = (day_at, day_not)
