-- The writer: it refuses exactly the lists that are not fair, what it writes is the list's file, and a refusal leaves the output. Assumes nothing.
use mathlib.Core.Path.{◌≡◌, refl, sym, ap, ap₂, subst, subst⁻¹, ◌∙◌}
use mathlib.Core.Bool.{true}
use mathlib.Core.List.{List, [], ◌∷◌, ◌++◌, append_assoc}
use mathlib.Core.Logic.{◌↔◌}
use Prim.Native.Nat.{ℕ, zero, suc, ◌+◌, ◌≤◌, ◌<◌}
use native.Mathlib.Omega.{arith}
use lib.ListN.{length, get_or, take, drop, length-append}
use lib.Seq.{slice, length-slice, take_at, drop_at}
use Rattle.numbers.specs.Answers.{wrote_at, put_at}
use Rattle.numbers.specs.declared.Wrote.TheVariants as W
use Rattle.numbers.proofs.Found.{zero_one}
use Rattle.numbers.proofs.Put.{to_end, to_room, refused_kept, put_drop}
use Rattle.types.specs.Refusals.{BAD_DAY}
use Rattle.days.specs.Day.{joined, day_of, check_of, message_of, part_of}
use Rattle.days.specs.declared.Checked.TheVariants as C
use Rattle.days.specs.declared.Part.TheVariants as P
use Rattle.days.specs.Lists.{Fair, ends_of}
use Rattle.days.specs.Write.{cut, up_to, fitting, day_wrote, day_put}
use Rattle.days.proofs.Rules.{by_bool, day_is}
use Rattle.days.proofs.Cases.{fits_is, fit_rest}
use Rattle.days.proofs.Ends.{up_first, up_rest, up_all, up_cons, up_nil, length_cut, joined_cut}
use Rattle.days.proofs.Numbers.{slice_middle}
use Rattle.days.proofs.Files.{length_day, count_is, day_of_lem, message_is, message_none}

-- a list one behind the other, with its ends, is cut to the list
pub length_ends_of : (at : ℕ) (ms : List (List ℕ)) → length (ends_of at ms) ≡ length ms
length_ends_of at [] = refl
length_ends_of at (m ∷ ms) = ap suc (length_ends_of (at + length m) ms)

pub cut_ends_at : (p : List ℕ) (at : ℕ) (ms : List (List ℕ)) → length p ≡ at → cut at (p ++ joined ms) (ends_of at ms) ≡ ms
cut_ends_at p at [] e = refl
cut_ends_at p at (m ∷ ms) e =
    ap₂ ◌∷◌ (slice_middle p m (joined ms) at e)
    (ap (λ (s : List ℕ). cut (at + length m) s (ends_of (at + length m) ms)) (sym (append_assoc p m (joined ms)))
    ∙ cut_ends_at (p ++ m) (at + length m) ms (length-append p m ∙ ap (λ (n : ℕ). n + length m) e))

pub cut_ends : (ms : List (List ℕ)) → cut 0 (joined ms) (ends_of 0 ms) ≡ ms
cut_ends ms = cut_ends_at [] 0 ms refl

pub up_ends : (at all : ℕ) (ms : List (List ℕ)) → ((k : ℕ) → k < length ms → 0 < length (get_or ms k [])) → all ≡ at + length (joined ms) → up_to all at (ends_of at ms) ≡ true
up_ends at all [] full e = up_nil all at (omega arith)
up_ends at all (m ∷ ms) full e =
    up_cons all at (at + length m) (ends_of (at + length m) ms) (omega (arith, full 0 (omega arith)))
    (up_ends (at + length m) all ms (λ k h. full (suc k) (omega arith)) (omega (arith, length-append m (joined ms))))

-- what is cut is not empty
pub cut_full : (at : ℕ) (bytes ends : List ℕ) → up_to (length bytes) at ends ≡ true → (k : ℕ) → k < length (cut at bytes ends) → 0 < length (get_or (cut at bytes ends) k [])
cut_full at bytes [] u k h = absurd (omega arith)
cut_full at bytes (e ∷ es) u zero h =
    omega (arith, length-slice at e bytes (up_all (length bytes) e es (up_rest (length bytes) at e es u)), up_first (length bytes) at e es u)
cut_full at bytes (e ∷ es) u (suc k) h = cut_full e bytes es (up_rest (length bytes) at e es u) k (omega arith)

pub fitting_fair : (bytes ends : List ℕ) → fitting bytes ends ≡ true → Fair (cut 0 bytes ends)
fitting_fair bytes ends f =
    let g = fits_is bytes ends f in
    record {
      full = cut_full 0 bytes ends g.up;
      few = omega (arith, length_cut 0 bytes ends, g.few);
      small = omega (arith, length_day (cut 0 bytes ends), length_cut 0 bytes ends, ap length (joined_cut 0 bytes ends g.up), g.small);
    }

pub fair_fitting : (ms : List (List ℕ)) → Fair ms → fitting (joined ms) (ends_of 0 ms) ≡ true
fair_fitting ms f =
    sym
    (fit_rest (joined ms) (ends_of 0 ms) true (omega (arith, length_ends_of 0 ms, f.few)) (omega (arith, length_ends_of 0 ms, f.small, length_day ms))
    (sym (up_ends 0 (length (joined ms)) ms f.full (omega arith))))

-- "The writer refuses 18 for an empty message, too many, or a file over 4,294,967,295 bytes": and for nothing else
pub fitting_exactly : (ms : List (List ℕ)) → (fitting (joined ms) (ends_of 0 ms) ≡ true) ↔ Fair ms
fitting_exactly ms = ((λ e. subst Fair (cut_ends ms) (fitting_fair (joined ms) (ends_of 0 ms) e)), fair_fitting ms)

-- a fair list: its file, where there is room
module _ (out : List ℕ) (ms : List (List ℕ)) where
  pub fair_wrote : Fair ms → day_wrote out (joined ms) (ends_of 0 ms) ≡ wrote_at out 0 (day_of ms)
  unfolding day_wrote
  fair_wrote f = rw (fair_fitting ms f, cut_ends ms)

  pub fair_put : Fair ms → day_put out (joined ms) (ends_of 0 ms) ≡ put_at out 0 (day_of ms)
  unfolding day_put
  fair_put f = rw (fair_fitting ms f, cut_ends ms)

  -- "refuses 18 .., then 14": whatever room there is
  pub unfair_wrote : (Fair ms → ⊥) → day_wrote out (joined ms) (ends_of 0 ms) ≡ W.Refused BAD_DAY
  unfolding day_wrote
  unfair_wrote h = by_bool (fitting (joined ms) (ends_of 0 ms)) (λ t. absurd (h ((fitting_exactly ms).0 t))) (λ f. rw f)

no_to : {X : Type 0} {why n : ℕ} → W.Refused why ≡ W.To n → X
no_to e = zero_one (cc)

-- whatever is given
module _ (out bytes ends : List ℕ) where
  -- what was written is the file of the messages, at the output's start, and the answer its length
  pub record Written (n : ℕ) : Type 0 where
    pub fair : Fair (cut 0 bytes ends)
    pub long : n ≡ length (day_of (cut 0 bytes ends))
    pub is : take n (day_put out bytes ends) ≡ day_of (cut 0 bytes ends)
    pub behind : drop n (day_put out bytes ends) ≡ drop n out

  pub written : (n : ℕ) → day_wrote out bytes ends ≡ W.To n → Written n
  unfolding day_wrote day_put
  written n e =
      by_bool (fitting bytes ends)
      (λ t.
      let file = day_of (cut 0 bytes ends) in
      let w : wrote_at out 0 file ≡ W.To n = rw t at e in
      let l : n ≡ length file = omega (arith, to_end out 0 file n w) in
      let p : day_put out bytes ends ≡ put_at out 0 file = rw t in
      let z : 0 + length file ≡ n = omega arith in
      let q : put_at out 0 file ≡ file ++ drop n out = rw z at (put_drop out 0 file (to_room out 0 file n w)) in
      record {
        fair = fitting_fair bytes ends t;
        long = l;
        is = ap (take n) (p ∙ q) ∙ take_at file (drop n out) n (sym l);
        behind = ap (drop n) (p ∙ q) ∙ drop_at file (drop n out) n (sym l);
      })
      (λ f. no_to (rw f at e))

  -- a refusal leaves the output as it was
  pub refused_leaves : (why : ℕ) → day_wrote out bytes ends ≡ W.Refused why → day_put out bytes ends ≡ out
  unfolding day_wrote day_put
  refused_leaves why e =
      by_bool (fitting bytes ends)
      (λ t. rw t (refused_kept out 0 (day_of (cut 0 bytes ends)) why (rw t at e)))
      (λ f. rw f)

-- the ends of what is cut are the ends
pub ends_cut : (at : ℕ) (bytes ends : List ℕ) → up_to (length bytes) at ends ≡ true → ends_of at (cut at bytes ends) ≡ ends
ends_cut at bytes [] u = refl
ends_cut at bytes (e ∷ es) u =
    let r = up_rest (length bytes) at e es u in
    let l = length-slice at e bytes (up_all (length bytes) e es r) in
    let q : at + length (slice at e bytes) ≡ e = omega (arith, up_first (length bytes) at e es u) in
    ap (λ (n : ℕ). n ∷ ends_of n (cut e bytes es)) q ∙ ap (λ (xs : List ℕ). e ∷ xs) (ends_cut e bytes es r)

-- bytes and ends that are not refused 18 are exactly those of a fair list: ends that fall, stop short or go too far are no list's
pub given_exactly : (bytes ends : List ℕ) → (fitting bytes ends ≡ true) ↔ ((ms : List (List ℕ)) × (Fair ms × ((bytes ≡ joined ms) × (ends ≡ ends_of 0 ms))))
given_exactly bytes ends = (
  (λ f.
      let u = (fits_is bytes ends f).up in
      (cut 0 bytes ends, (fitting_fair bytes ends f, (sym (joined_cut 0 bytes ends u), sym (ends_cut 0 bytes ends u))))),
  (λ h. rw (h.1.1.0, h.1.1.1) (fair_fitting h.0 h.1.0)),
)

-- what was written reads back: N is the number of messages, and message k is the k-th
pub record Reads (file : List ℕ) (ms : List (List ℕ)) : Type 0 where
  pub counts : check_of file ≡ C.Count (length ms)
  pub messages : (k : ℕ) → k < length ms → part_of file (message_of file k) ≡ get_or ms k []
  pub none : (k : ℕ) → length ms ≤ k → message_of file k ≡ P.Refused BAD_DAY

pub fair_reads : (ms : List (List ℕ)) → Fair ms → Reads (day_of ms) ms
unfolding check_of
fair_reads ms f =
    record {
      counts = rw (day_is (day_of ms) (day_of_lem ms f)) (ap C.Count (count_is ms f));
      messages = message_is ms f;
      none = message_none ms f;
    }

pub reads_back : (out bytes ends : List ℕ) (n : ℕ) → day_wrote out bytes ends ≡ W.To n → Reads (take n (day_put out bytes ends)) (cut 0 bytes ends)
reads_back out bytes ends n e =
    let w = written out bytes ends n e in
    subst⁻¹ (λ (file : List ℕ). Reads file (cut 0 bytes ends)) w.is (fair_reads (cut 0 bytes ends) w.fair)
