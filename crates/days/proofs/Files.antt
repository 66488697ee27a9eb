-- Files and lists of messages: accepted are exactly the files of fair lists; a list has one file and a file one list; message k is the k-th. Assumes nothing.
use mathlib.Core.Path.{◌≡◌, refl, sym, ap, ap₂, subst⁻¹, ◌∙◌}
use mathlib.Core.Bool.{true}
use mathlib.Core.List.{List, [], ◌∷◌, ◌++◌, append_assoc}
use mathlib.Core.Logic.{◌↔◌}
use Prim.Native.Nat.{ℕ, zero, suc, ◌+◌, ◌*◌, ◌≤◌, ◌<◌}
use native.Mathlib.Omega.{arith}
use native.Mathlib.Nat.{add-zero}
use native.Mathlib.Numerals.{add-one}
use borrow.Author.Tests.{lt-ltb, le-ltb}
use lib.ListN.{length, get_or, length-append}
use lib.Seq.{slice, length-slice, slice_empty, ext_get_or}
use Rattle.numbers.proofs.Found.{Bytes}
use Rattle.types.specs.Refusals.{BAD_DAY}
use Rattle.days.specs.Day.{number, words, joined, starts, day_of, Day, accepted, message_of, part_of}
use Rattle.days.specs.Lists.{Fair, parts, messages_of}
use Rattle.days.specs.declared.Part.TheVariants as P
use Rattle.days.proofs.Rules.{is_day, day_is, rises_to, within}
use Rattle.days.proofs.Ends.{length_words}
use Rattle.days.proofs.Numbers.{slice_join, slice_whole, slice_middle, words_number, numbers, number_below, words_numbers}

-- where messages start
pub length_starts : (at : ℕ) (ms : List (List ℕ)) → length (starts at ms) ≡ length ms + 1
length_starts at [] = refl
length_starts at (m ∷ ms) = omega (arith, length_starts (at + length m) ms)

pub starts_first : (at : ℕ) (ms : List (List ℕ)) → get_or (starts at ms) 0 0 ≡ at
starts_first at [] = refl
starts_first at (m ∷ ms) = refl

pub starts_last : (at : ℕ) (ms : List (List ℕ)) → get_or (starts at ms) (length ms) 0 ≡ at + length (joined ms)
starts_last at [] = omega arith
starts_last at (m ∷ ms) = omega (arith, starts_last (at + length m) ms, length-append m (joined ms))

pub starts_below : (at : ℕ) (ms : List (List ℕ)) (k : ℕ) → k ≤ length ms → get_or (starts at ms) k 0 ≤ at + length (joined ms)
starts_below at [] zero h = omega arith
starts_below at [] (suc k) h = absurd (omega arith)
starts_below at (m ∷ ms) zero h = omega arith
starts_below at (m ∷ ms) (suc k) h = omega (arith, starts_below (at + length m) ms k (omega arith), length-append m (joined ms))

pub starts_next : (at : ℕ) (ms : List (List ℕ)) (k : ℕ) → k < length ms → get_or (starts at ms) (suc k) 0 ≡ get_or (starts at ms) k 0 + length (get_or ms k [])
starts_next at [] k h = absurd (omega arith)
starts_next at (m ∷ ms) zero h = starts_first (at + length m) ms
starts_next at (m ∷ ms) (suc k) h = starts_next (at + length m) ms k (omega arith)

-- message k stands from its start to the next
pub starts_part : (p : List ℕ) (at : ℕ) (ms : List (List ℕ)) (k : ℕ) → length p ≡ at → k < length ms → slice (get_or (starts at ms) k 0) (get_or (starts at ms) k 0 + length (get_or ms k [])) (p ++ joined ms) ≡ get_or ms k []
starts_part p at [] k e h = absurd (omega arith)
starts_part p at (m ∷ ms) zero e h = slice_middle p m (joined ms) at e
starts_part p at (m ∷ ms) (suc k) e h =
    rw (← append_assoc p m (joined ms)) (starts_part (p ++ m) (at + length m) ms k (length-append p m ∙ ap (λ (n : ℕ). n + length m) e) (omega arith))

-- the numbers of a list's file
module _ (ms : List (List ℕ)) where
  pub length_head : length (words (length ms ∷ starts (4 * length ms + 8) ms)) ≡ 4 * length ms + 8
  length_head = omega (arith, length_words (length ms ∷ starts (4 * length ms + 8) ms), length_starts (4 * length ms + 8) ms)

  pub length_day : length (day_of ms) ≡ 4 * length ms + 8 + length (joined ms)
  unfolding day_of
  length_day = omega (arith, length-append (words (length ms ∷ starts (4 * length ms + 8) ms)) (joined ms), length_head)

  module _ (f : Fair ms) where
    pub count_is : number (day_of ms) 0 ≡ length ms
    unfolding day_of
    count_is = words_number (length ms ∷ starts (4 * length ms + 8) ms) (joined ms) 0 (omega arith) (omega (arith, f.few))

    pub start_is : (k : ℕ) → k ≤ length ms → number (day_of ms) (k + 1) ≡ get_or (starts (4 * length ms + 8) ms) k 0
    unfolding day_of
    start_is k h =
        rw add-one
        (words_number (length ms ∷ starts (4 * length ms + 8) ms) (joined ms) (suc k) (omega (arith, length_starts (4 * length ms + 8) ms))
        (omega (arith, f.small, length_day, starts_below (4 * length ms + 8) ms k h)))

    pub end_is : (k : ℕ) → k < length ms → number (day_of ms) (k + 2) ≡ get_or (starts (4 * length ms + 8) ms) k 0 + length (get_or ms k [])
    end_is k h =
        let q : k + 2 ≡ suc k + 1 = omega arith in
        rw q (start_is (suc k) (omega arith) ∙ starts_next (4 * length ms + 8) ms k h)

    -- it keeps the rules
    pub day_of_lem : Day (day_of ms)
    day_of_lem =
        record {
          there = omega (arith, count_is, length_day);
          few = omega (arith, count_is, f.few);
          first = omega (arith, count_is, start_is 0 (omega arith), starts_first (4 * length ms + 8) ms);
          rising = λ k h. let l : k < length ms = omega (arith, count_is) in omega (arith, start_is k (omega arith), end_is k l, f.full k l);
          last = ap (λ (n : ℕ). number (day_of ms) (n + 1)) count_is ∙ start_is (length ms) (omega arith) ∙ starts_last (4 * length ms + 8) ms ∙ sym length_day;
        }

    -- "reading of one message by number": message k is the k-th
    pub part_of_lem : (k : ℕ) → k < length ms → slice (number (day_of ms) (k + 1)) (number (day_of ms) (k + 2)) (day_of ms) ≡ get_or ms k []
    unfolding day_of
    part_of_lem k h =
        ap₂ (λ (a b : ℕ). slice a b (day_of ms)) (start_is k (omega arith)) (end_is k h)
        ∙ starts_part (words (length ms ∷ starts (4 * length ms + 8) ms)) (4 * length ms + 8) ms k length_head h

    pub message_is : (k : ℕ) → k < length ms → part_of (day_of ms) (message_of (day_of ms) k) ≡ get_or ms k []
    unfolding message_of
    message_is k h = rw (day_is (day_of ms) day_of_lem, lt-ltb k (number (day_of ms) 0) (omega (arith, count_is))) (part_of_lem k h)

    -- "refused 18, BAD DAY, as is a message number of N or more"
    pub message_none : (k : ℕ) → length ms ≤ k → message_of (day_of ms) k ≡ P.Refused BAD_DAY
    unfolding message_of
    message_none k h = rw (day_is (day_of ms) day_of_lem, le-ltb k (number (day_of ms) 0) (omega (arith, count_is)))

-- the parts of a file
pub length_parts : (file : List ℕ) (n k : ℕ) → length (parts file n k) ≡ n
length_parts file zero k = refl
length_parts file (suc n) k = ap suc (length_parts file n (k + 1))

pub parts_at : (file : List ℕ) (n k j : ℕ) → j < n → get_or (parts file n k) j [] ≡ slice (number file (k + j)) (number file (k + j + 1)) file
parts_at file zero k j h = absurd (omega arith)
parts_at file (suc n) k zero h = rw add-zero
parts_at file (suc n) k (suc j) h = let q : k + suc j ≡ k + 1 + j = omega arith in rw q (parts_at file n (k + 1) j (omega arith))

pub message_at_lem : (file : List ℕ) (j : ℕ) → j < number file 0 → get_or (messages_of file) j [] ≡ slice (number file (j + 1)) (number file (j + 2)) file
unfolding messages_of
message_at_lem file j h =
    let p : 1 + j ≡ j + 1 = omega arith in
    let q : j + 1 + 1 ≡ j + 2 = omega arith in
    rw (p, q) at (parts_at file (number file 0) 1 j h)

pub length_messages : (file : List ℕ) → length (messages_of file) ≡ number file 0
unfolding messages_of
length_messages file = length_parts file (number file 0) 1

-- the messages of a list's file are the list
pub messages_of_lem : (ms : List (List ℕ)) → Fair ms → messages_of (day_of ms) ≡ ms
messages_of_lem ms f =
    ext_get_or [] (messages_of (day_of ms)) ms (length_messages (day_of ms) ∙ count_is ms f)
    (λ k h.
    let l : k < length ms = omega (arith, length_messages (day_of ms), count_is ms f) in
    message_at_lem (day_of ms) k (omega (arith, length_messages (day_of ms))) ∙ part_of_lem ms f k l)

-- one list for a file
pub one_list : (ms ns : List (List ℕ)) → Fair ms → Fair ns → day_of ms ≡ day_of ns → ms ≡ ns
one_list ms ns f g e = sym (messages_of_lem ms f) ∙ ap messages_of e ∙ messages_of_lem ns g

-- a file that keeps the rules
module _ (file : List ℕ) (d : Day file) where
  up_to : (n k : ℕ) → k + n ≤ number file 0 → number file (k + 1) ≤ number file (k + 1 + n)
  up_to n k h = let q : k + n + 1 ≡ k + 1 + n = omega arith in omega (arith, rw q at (rises_to file d n k h))

  joined_parts : (n k : ℕ) → k + n ≤ number file 0 → joined (parts file n (k + 1)) ≡ slice (number file (k + 1)) (number file (k + 1 + n)) file
  joined_parts zero k h = rw add-zero (sym (slice_empty (number file (k + 1)) file))
  joined_parts (suc n) k h =
      let q : k + 1 + 1 + n ≡ k + 1 + suc n = omega arith in
      let rest : joined (parts file n (k + 1 + 1)) ≡ slice (number file (k + 1 + 1)) (number file (k + 1 + suc n)) file = rw q at (joined_parts n (k + 1) (omega arith)) in
      let p : k + 1 + 1 ≡ k + 2 = omega arith in
      let a : number file (k + 1) < number file (k + 1 + 1) = rw p (d.rising k (omega arith)) in
      let b : number file (k + 1 + 1) ≤ number file (k + 1 + suc n) = rw q at (up_to n (k + 1) (omega arith)) in
      rw rest (slice_join file (number file (k + 1)) (number file (k + 1 + 1)) (number file (k + 1 + suc n)) (omega arith) b)

  starts_parts : (n k : ℕ) → k + n ≤ number file 0 → starts (number file (k + 1)) (parts file n (k + 1)) ≡ numbers file (suc n) (k + 1)
  starts_parts zero k h = refl
  starts_parts (suc n) k h =
      let p : k + 1 + 1 ≡ k + 2 = omega arith in
      let a : number file (k + 1) < number file (k + 1 + 1) = rw p (d.rising k (omega arith)) in
      let l = length-slice (number file (k + 1)) (number file (k + 1 + 1)) file (within file d (k + 1) (omega arith)) in
      let q : number file (k + 1) + length (slice (number file (k + 1)) (number file (k + 1 + 1)) file) ≡ number file (k + 1 + 1) = omega arith in
      ap (λ (xs : List ℕ). number file (k + 1) ∷ xs) (ap (λ (m : ℕ). starts m (parts file n (k + 1 + 1))) q ∙ starts_parts n (k + 1) (omega arith))

  module _ (b : Bytes file) where
    -- is the file of its messages
    pub file_of : day_of (messages_of file) ≡ file
    unfolding day_of messages_of
    file_of =
        let n = number file 0 in
        let l : length (parts file n 1) ≡ n = length_parts file n 1 in
        let s : starts (4 * n + 8) (parts file n 1) ≡ numbers file (suc n) 1 = ap (λ (m : ℕ). starts m (parts file n 1)) (sym d.first) ∙ starts_parts n 0 (omega arith) in
        let w : words (numbers file (suc (suc n)) 0) ≡ slice 0 (4 * (0 + suc (suc n))) file = words_numbers file (suc (suc n)) 0 b (omega (arith, d.there)) in
        let q : 4 * (0 + suc (suc n)) ≡ 4 * n + 8 = omega arith in
        let e : 1 + n ≡ n + 1 = omega arith in
        let j : joined (parts file n 1) ≡ slice (4 * n + 8) (length file) file = joined_parts n 0 (omega arith) ∙ ap₂ (λ (x y : ℕ). slice x y file) d.first (ap (number file) e ∙ d.last) in
        rw (l, s, j) (ap (λ (xs : List ℕ). xs ++ slice (4 * n + 8) (length file) file) (w ∙ ap (λ (m : ℕ). slice 0 m file) q) ∙ slice_join file 0 (4 * n + 8) (length file) (omega arith) d.there ∙ slice_whole file)

    -- and its messages are fair
    pub fair_of : Fair (messages_of file)
    fair_of =
        record {
          full = λ k h.
              let l : k < number file 0 = omega (arith, length_messages file) in
              let p : k + 1 + 1 ≡ k + 2 = omega arith in
              let i : number file (k + 2) ≤ length file = rw p at (within file d (k + 1) (omega arith)) in
              omega (arith, ap length (message_at_lem file k l), length-slice (number file (k + 1)) (number file (k + 2)) file i, d.rising k l);
          few = omega (arith, length_messages file, d.few);
          small = omega (arith, ap length file_of, d.last, number_below file (number file 0 + 1) b (omega (arith, d.there)));
        }

-- "A file is accepted exactly if these rules hold": exactly the files of fair lists
pub accepted_lists : (file : List ℕ) → Bytes file → (accepted file ≡ true) ↔ ((ms : List (List ℕ)) × (Fair ms × (file ≡ day_of ms)))
accepted_lists file b = (
  (λ e. (messages_of file, (fair_of file (is_day file e) b, sym (file_of file (is_day file e) b)))),
  (λ h. subst⁻¹ (λ (t : List ℕ). accepted t ≡ true) h.1.1 (day_is (day_of h.0) (day_of_lem h.0 h.1.0))),
)

-- "the same list of non-empty messages has just one file"
pub one_file : (file other : List ℕ) → Bytes file → Bytes other → Day file → Day other → messages_of file ≡ messages_of other → file ≡ other
one_file file other b c d e h = sym (file_of file d b) ∙ ap day_of h ∙ file_of other e c
