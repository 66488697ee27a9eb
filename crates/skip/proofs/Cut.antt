-- Skip up to a cut: it succeeds exactly on a well-formed value that ends no later than the cut. Assumes nothing.
use mathlib.Core.Path.{◌≡◌, refl, sym, ap, ◌∙◌}
use mathlib.Core.Bool.{Bool}
use mathlib.Core.List.{List}
use mathlib.Core.Logic.{◌↔◌}
use Prim.Native.Nat.{ℕ, ◌≤◌, min}
use lib.Dec.{ltb}
use lib.ListN.{length, take}
use Rattle.types.specs.declared.TType.{TType}
use Rattle.types.specs.declared.TConfiguration.{TConfiguration}
use Rattle.numbers.specs.Varint.{Found, got, refused}
use Rattle.heads.specs.Reader.{read_at, missing, missed, read_to}
use Rattle.heads.specs.Answers.{place}
use Rattle.heads.specs.Spells.{Formed}
use Rattle.heads.proofs.Ahead.{lawful_fair}
use Rattle.heads.proofs.Cut.{cut_is, was_cut, cut_whole, whole_cut}
use Rattle.input.proofs.Refusals.{Shown}
use Rattle.input.proofs.Laws.{cut_told}
use Rattle.skip.specs.Value.{value_of}
use Rattle.skip.specs.Skip.{passed, past, skip_of, skip_to}
use Rattle.skip.specs.declared.Skipped.{Skipped}
use Rattle.skip.specs.declared.Skipped.TheVariants.{Done, Refused}
use Rattle.skip.proofs.Past.{was_read, was_refused, past_got, read_past}
use Rattle.skip.proofs.Lawfuls.{value_lawful}
use Rattle.skip.proofs.Told.{value_told_lem}
use Rattle.skip.proofs.Theorems.{skip_formed, formed_skip}

-- a skip of the bytes before the cut, as the code makes it
abbrev pub of_cut : Bool → Skipped → Skipped
of_cut m (Done e) = Done e
of_cut m (Refused why) = Refused (missing m why)

as_cut : {A : Type 0} (m : Bool) (x : Found A) → of_cut m (passed x) ≡ passed (missed m x)
as_cut m (got a e) = refl
as_cut m (refused why) = refl

module _ (s : List ℕ) (c : ℕ) (lim : TConfiguration) (room : ℕ) (ty : TType) (at : ℕ) where
  pub skip_cut : (end : ℕ) → end ≡ min c (length s) → (r x : Skipped) → r ≡ skip_of (take end s) lim room ty at → r ≡ x → of_cut (ltb end (length s)) x ≡ skip_to s c lim room ty at
  unfolding skip_to skip_of past
  skip_cut end o r x f g =
      ap (of_cut (ltb end (length s))) (sym g ∙ f)
      ∙ as_cut (ltb end (length s)) (read_at (value_of lim room ty) (take end s) at)
      ∙ ap passed (sym (cut_is (value_of lim room ty) s c at end o))

  module _ (h : at ≤ c) (k : at ≤ length s) where
    -- what is skipped up to the cut is skipped, and ends there
    pub to_whole : (e : ℕ) → skip_to s c lim room ty at ≡ Done (place e) → (skip_of s lim room ty at ≡ Done (place e)) × (e ≤ c)
    unfolding skip_to skip_of
    to_whole e f =
        let r = was_read (read_to (value_of lim room ty) s c at) (place e) f in
        let l = lawful_fair (value_of lim room ty) (value_lawful lim room ty) in
        let q = was_cut (value_of lim room ty) s c at r.0 e l h k r.1 in
        (past_got (value_of lim room ty) s at r.0 e (cut_whole (value_of lim room ty) s c at r.0 e l q), q.before)

    pub from_whole : (e : ℕ) → skip_of s lim room ty at ≡ Done (place e) → e ≤ c → skip_to s c lim room ty at ≡ Done (place e)
    unfolding skip_to skip_of
    from_whole e f i =
        let r = read_past (value_of lim room ty) s at (place e) f in
        ap passed (whole_cut (value_of lim room ty) s c at r.0 e (value_lawful lim room ty) i r.1)

    pub cut_exact : (e : ℕ) → (skip_to s c lim room ty at ≡ Done (place e)) ↔ (Formed s lim room ty at e × (e ≤ c))
    cut_exact e =
        ((λ f. let w = to_whole e f in (skip_formed s lim room ty at e w.0, w.1)), λ g. from_whole e (formed_skip s lim room ty at e g.0) g.1)

  pub cut_shown : (why : ℕ) → skip_to s c lim room ty at ≡ Refused why → Shown why
  unfolding skip_to
  cut_shown why e = cut_told (value_of lim room ty) (value_told_lem lim room ty) s c at why (was_refused _ why e)
