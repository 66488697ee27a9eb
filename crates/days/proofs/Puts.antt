-- The cases of the writers. Assumes nothing.
use mathlib.Core.Path.{◌≡◌, sym, ap, ◌∙◌}
use mathlib.Core.Bool.{Bool, true, false}
use mathlib.Core.List.{List, [], ◌∷◌, ◌++◌}
use Prim.Native.Nat.{ℕ, ◌+◌, ◌*◌, ◌≤◌, ◌<◌}
use native.Mathlib.Omega.{arith}
use native.Mathlib.Numerals.{add-one}
use lib.ListN.{length, get_or, drop, drop_of_length-le, length-append}
use lib.Seq.{sets, length-sets, drop-cons}
use mir.Syntax.{w64}
use mir.Val.{Fits}
use Rattle.numbers.specs.Fixed.{four}
use Rattle.numbers.specs.Answers.{wrote_at, put_at}
use Rattle.numbers.specs.declared.Wrote.{Wrote}
use Rattle.numbers.specs.declared.Wrote.TheVariants as W
use Rattle.numbers.proofs.Put.{Storing, storing, sets_append, wrote_to, wrote_not, put_in, put_not}
use Rattle.days.specs.Day.{words, day_of}
use Rattle.days.specs.Write.{cut, fitting, moved, header_of, day_wrote, day_put}
use Rattle.days.proofs.Cases.{Fitting, fits_is}
use Rattle.days.proofs.Ends.{length_four, length_words, length_moved, length_header, up_below, day_ends}

-- a piece is stored
pub stored_some : (buf₀ : List ℕ) (at : ℕ) (bs buf : List ℕ) (p : ℕ) (left piece rest : List ℕ) → Storing buf₀ at bs buf p left → left ≡ piece ++ rest → Storing buf₀ at bs (sets buf p piece) (p + length piece) rest
stored_some buf₀ at bs buf p left piece rest st e =
    record {
      room = st.room;
      same = length-sets buf p piece ∙ st.same;
      ends = omega (arith, ap length e, length-append piece rest, st.ends);
      puts = sym (sets_append buf p piece rest) ∙ (rw e at st.puts);
    }

-- the header's end: i ends are put
abbrev pub Heading : List ℕ → List ℕ → List ℕ → ℕ → Type 0
Heading out₀ ends out i = Storing out₀ 8 (words (moved (4 * length ends + 8) ends)) out (4 * (i + 2)) (words (moved (4 * length ends + 8) (drop i ends)))

pub length_ends : (ends : List ℕ) → length (words (moved (4 * length ends + 8) ends)) ≡ 4 * length ends
length_ends ends = omega (arith, length_words (moved (4 * length ends + 8) ends), length_moved (4 * length ends + 8) ends)

pub head_first : (out ends : List ℕ) → 4 * length ends + 8 ≤ length out → 4 * 0 + 4 ≤ length out
head_first out ends h = omega arith

pub head_second : (out one ends : List ℕ) (n : ℕ) → 4 * length ends + 8 ≤ length out → one ≡ sets out (4 * 0) (four n) → 4 * 1 + 4 ≤ length one
head_second out one ends n h e = omega (arith, ap length e, length-sets out (4 * 0) (four n))

pub head_begun : (two ends : List ℕ) → 4 * length ends + 8 ≤ length two → Heading two ends two 0
head_begun two ends h = storing two 8 (words (moved (4 * length ends + 8) ends)) (omega (arith, length_ends ends))

-- its start: N and the first offset
module _ (out one two ends : List ℕ) (h : 4 * length ends + 8 ≤ length out) (e : one ≡ sets out (4 * 0) (four (length ends))) (f : two ≡ sets one (4 * 1) (four (4 * length ends + 8))) where
  long : length two ≡ length out
  long = ap length f ∙ length-sets one (4 * 1) (four (4 * length ends + 8)) ∙ ap length e ∙ length-sets out (4 * 0) (four (length ends))

  pub head_room : 4 * length ends + 8 ≤ length two
  head_room = omega (arith, long)

  module _ (last : List ℕ) (i : ℕ) (st : Heading two ends last i) where
    pub head_same : length last ≡ length out
    head_same = st.same ∙ long

    pub head_done : length ends ≤ i → last ≡ sets out 0 (header_of ends)
    unfolding header_of
    head_done l =
        let d : drop i ends ≡ [] = drop_of_length-le ends l in
        let tail = words (moved (4 * length ends + 8) ends) in
        let a : last ≡ sets two 8 tail = rw d at st.puts in
        let p : 0 + length (four (length ends)) ≡ 4 = omega (arith, length_four (length ends)) in
        let q : 4 + length (four (4 * length ends + 8)) ≡ 8 = omega (arith, length_four (4 * length ends + 8)) in
        a
        ∙ ap (λ (b : List ℕ). sets b 8 tail) (f ∙ ap (λ (b : List ℕ). sets b 4 (four (4 * length ends + 8))) e)
        ∙ ap (λ (m : ℕ). sets (sets (sets out 0 (four (length ends))) 4 (four (4 * length ends + 8))) m tail) (sym q)
        ∙ sym (sets_append (sets out 0 (four (length ends))) 4 (four (4 * length ends + 8)) tail)
        ∙ ap (λ (m : ℕ). sets (sets out 0 (four (length ends))) m (four (4 * length ends + 8) ++ tail)) (sym p)
        ∙ sym (sets_append out 0 (four (length ends)) (four (4 * length ends + 8) ++ tail))

module _ (out₀ ends out : List ℕ) (i : ℕ) (st : Heading out₀ ends out i) (h : i < length ends) where
  pub head_in : 4 * (i + 2) + 4 ≤ length out
  head_in = omega (arith, st.room, st.same, length_ends ends)

  module _ (bytes : List ℕ) (f : fitting bytes ends ≡ true) where
    pub head_place : Fits w64 (i + 2)
    head_place = record { fits = omega (arith, (fits_is bytes ends f).few) }

    pub head_one : Fits w64 (i + 1)
    head_one = record { fits = omega (arith, (fits_is bytes ends f).few) }

    pub head_end : Fits w64 (4 * length ends + 8 + get_or ends i 0)
    head_end = record { fits = omega (arith, (fits_is bytes ends f).small, up_below (length bytes) 0 ends (fits_is bytes ends f).up i h) }

  pub head_next : (next : List ℕ) → next ≡ sets out (4 * (i + 2)) (four (4 * length ends + 8 + get_or ends i 0)) → Heading out₀ ends next (i + 1)
  head_next next e =
      let base = 4 * length ends + 8 in
      let d : drop i ends ≡ get_or ends i 0 ∷ drop (i + 1) ends = rw add-one (drop-cons ends i 0 h) in
      let q : 4 * (i + 2) + length (four (base + get_or ends i 0)) ≡ 4 * (i + 1 + 2) = omega (arith, length_four (base + get_or ends i 0)) in
      let a = stored_some out₀ 8 (words (moved base ends)) out (4 * (i + 2)) (words (moved base (drop i ends))) (four (base + get_or ends i 0)) (words (moved base (drop (i + 1) ends))) st (ap (λ (es : List ℕ). words (moved base es)) d) in
      rw e (rw q at a)

pub ruleset head_cases = (head_first, head_second, head_room, head_begun, head_same, head_in, head_place, head_one, head_end, head_next, head_done)

-- the whole file
module _ (r : Bool) (out bytes ends : List ℕ) (e : r ≡ fitting bytes ends) where
  pub day_bad : r ≡ false → W.Refused 18 ≡ day_wrote out bytes ends
  unfolding day_wrote
  day_bad f = rw (← e, f)

  pub day_kept : r ≡ false → out ≡ day_put out bytes ends
  unfolding day_put
  day_kept f = rw (← e, f)

  module _ (t : r ≡ true) where
    good : Fitting bytes ends
    good = fits_is bytes ends (sym e ∙ t)

    sum : length (day_of (cut 0 bytes ends)) ≡ 4 * length ends + 8 + length bytes
    sum = ap length (day_ends bytes ends good.up) ∙ length-append (header_of ends) bytes ∙ ap (λ (m : ℕ). m + length bytes) (length_header ends)

    pub day_good : fitting bytes ends ≡ true
    day_good = sym e ∙ t

    pub day_base : Fits w64 (4 * length ends)
    day_base = record { fits = omega (arith, good.few) }

    pub day_base_eight : Fits w64 (4 * length ends + 8)
    day_base_eight = record { fits = omega (arith, good.few) }

    pub day_fits : Fits w64 (4 * length ends + 8 + length bytes)
    day_fits = record { fits = omega (arith, good.small) }

    is_wrote : day_wrote out bytes ends ≡ wrote_at out 0 (day_of (cut 0 bytes ends))
    unfolding day_wrote
    is_wrote = rw (← e, t)

    is_put : day_put out bytes ends ≡ put_at out 0 (day_of (cut 0 bytes ends))
    unfolding day_put
    is_put = rw (← e, t)

    pub day_short : length out < 4 * length ends + 8 + length bytes → W.Refused 14 ≡ day_wrote out bytes ends
    day_short h = wrote_not out 0 (day_of (cut 0 bytes ends)) (omega (arith, sum)) ∙ sym is_wrote

    pub day_short_kept : length out < 4 * length ends + 8 + length bytes → out ≡ day_put out bytes ends
    day_short_kept h = put_not out 0 (day_of (cut 0 bytes ends)) (omega (arith, sum)) ∙ sym is_put

    module _ (h : 4 * length ends + 8 + length bytes ≤ length out) where
      pub day_room : 4 * length ends + 8 ≤ length out
      day_room = omega arith

      module _ (mid : List ℕ) (m : mid ≡ sets out 0 (header_of ends)) where
        same : length mid ≡ length out
        same = ap length m ∙ length-sets out 0 (header_of ends)

        pub day_wrote_lem : (a : Wrote) → a ≡ wrote_at mid (4 * length ends + 8) bytes → a ≡ day_wrote out bytes ends
        day_wrote_lem a f =
            let q : 4 * length ends + 8 + length bytes ≡ 0 + length (day_of (cut 0 bytes ends)) = omega (arith, sum) in
            f
            ∙ sym (wrote_to mid (4 * length ends + 8) bytes (omega (arith, same)))
            ∙ ap W.To q
            ∙ wrote_to out 0 (day_of (cut 0 bytes ends)) (omega (arith, sum))
            ∙ sym is_wrote

        pub day_put_lem : (left : List ℕ) → left ≡ put_at mid (4 * length ends + 8) bytes → left ≡ day_put out bytes ends
        day_put_lem left f =
            let q : 0 + length (header_of ends) ≡ 4 * length ends + 8 = omega (arith, length_header ends) in
            f
            ∙ sym (put_in mid (4 * length ends + 8) bytes (omega (arith, same)))
            ∙ ap (λ (b : List ℕ). sets b (4 * length ends + 8) bytes) m
            ∙ ap (λ (p : ℕ). sets (sets out 0 (header_of ends)) p bytes) (sym q)
            ∙ sym (sets_append out 0 (header_of ends) bytes)
            ∙ ap (sets out 0) (sym (day_ends bytes ends good.up))
            ∙ put_in out 0 (day_of (cut 0 bytes ends)) (omega (arith, sum))
            ∙ sym is_put

pub ruleset write_cases = (day_bad, day_kept, day_good, day_base, day_base_eight, day_fits, day_short, day_short_kept, day_room, day_wrote_lem, day_put_lem)
