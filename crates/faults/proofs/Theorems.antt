-- What a fault says, over the input, skip and well-formed values. Assumes nothing.
use mathlib.Core.Path.{◌≡◌, refl, sym, ap, ap₂, subst, ◌∙◌}
use mathlib.Core.Logic.{◌⊎◌, inl, inr}
use mathlib.Core.List.{List}
use Prim.Native.Nat.{ℕ, zero, suc, ◌+◌, ◌-◌, ◌≤◌, ◌<◌}
use native.Mathlib.Omega.{arith}
use lib.ListN.{length, take, drop, length-drop}
use Rattle.types.specs.Refusals.{END}
use Rattle.types.specs.declared.TType.{TType}
use Rattle.types.specs.declared.TConfiguration.{TConfiguration}
use Rattle.types.specs.Value.{Tree}
use Rattle.numbers.specs.Varint.{Found, placed}
use Rattle.numbers.proofs.Found.{take_drop}
use Rattle.heads.specs.Reader.{read_at}
use Rattle.heads.specs.Answers.{place}
use Rattle.heads.specs.Spells.{Formed}
use Rattle.skip.specs.Value.{value_of}
use Rattle.skip.specs.Skip.{passed, past, skip_of}
use Rattle.skip.specs.declared.Skipped.{Skipped}
use Rattle.skip.specs.declared.Skipped.TheVariants.{Done, Refused}
use Rattle.skip.proofs.Past.{done_refused}
use Rattle.skip.proofs.Theorems.{formed_skip}
use Rattle.faults.specs.Tracked.{Step, Tried, found, broke, reach}
use Rattle.faults.specs.Value.{tracked}
use Rattle.faults.specs.Fault.{Fault, accepted, fault, fault_of, fault_at}
use Rattle.faults.proofs.Finds.{forget, Finds, finds}
use Rattle.faults.proofs.Steady.{Steady, steady, in_rest}
use Rattle.faults.proofs.Paths.{steps, Near, near}
use Rattle.faults.proofs.First.{Ended, ended_end, Fits, Again, FirstAt, First, first}
use Rattle.faults.proofs.Whole.{holds}

-- the same without the trace: number and acceptance
pub tracked_value : (lim : TConfiguration) (room : ℕ) (ty : TType) (bs : List ℕ) → forget (tracked lim room ty bs) ≡ value_of lim room ty bs
unfolding Finds
tracked_value lim room ty bs = holds Finds finds lim room ty bs

pub tracked_steady : (lim : TConfiguration) (room : ℕ) (ty : TType) (bs cs : List ℕ) → length cs ≡ length bs → take (reach (tracked lim room ty bs)) cs ≡ take (reach (tracked lim room ty bs)) bs → tracked lim room ty cs ≡ tracked lim room ty bs
unfolding Steady
tracked_steady lim room ty = holds Steady steady lim room ty

pub tracked_near : (lim : TConfiguration) (room : ℕ) (ty : TType) (bs : List ℕ) → steps (tracked lim room ty bs) ≤ room
unfolding Near
tracked_near lim room ty = holds Near near lim room ty

pub tracked_first : (lim : TConfiguration) (room : ℕ) (ty : TType) (bs : List ℕ) → FirstAt (tracked lim room ty) bs
unfolding First
tracked_first lim room ty = holds First first lim room ty

-- a fault is a refusal, n bytes in
pub record Broken (x : Tried Tree) (at why off : ℕ) (path : List Step) : Type 0 where
  pub read : ℕ
  pub is : x ≡ broke why read path
  pub offset : off ≡ at + (read - 1)

not_one : {X : Type 0} {e why off : ℕ} {path : List Step} → accepted e ≡ fault why off path → X
not_one e = let z : ◌≡◌ {A = ℕ} 0 1 = cc in absurd (omega arith)

broken : (x : Tried Tree) (at why off : ℕ) (path : List Step) → fault_of at x ≡ fault why off path → Broken x at why off path
broken (found a n) at why off path e = not_one e
broken (broke w n p) at why off path e =
    let a : w ≡ why = cc in
    let b : p ≡ path = cc in
    let c : at + (n - 1) ≡ off = cc in
    record { read = n; is = ap₂ (λ (u : ℕ) (v : List Step). broke u n v) a b; offset = sym c }

module _ (s : List ℕ) (lim : TConfiguration) (room : ℕ) (ty : TType) (at : ℕ) where
  abbrev here : Tried Tree
  here = tracked lim room ty (drop at s)

  skip_is : skip_of s lim room ty at ≡ passed (placed at (forget here))
  unfolding skip_of past read_at
  skip_is = ap (λ (x : Found Tree). passed (placed at x)) (sym (tracked_value lim room ty (drop at s)))

  pub skip_ended : (u : List ℕ) → Ended (tracked lim room ty (drop at u)) → skip_of u lim room ty at ≡ Refused END
  unfolding skip_of past read_at
  skip_ended u c = ap (λ (x : Found Tree). passed (placed at x)) (sym (tracked_value lim room ty (drop at u)) ∙ ended_end (tracked lim room ty (drop at u)) c)

  module _ (why off : ℕ) (path : List Step) (e : fault_at s lim room ty at ≡ fault why off path) where
    pub the_break : Broken here at why off path
    unfolding fault_at
    the_break = broken here at why off path e

    -- the number is skip's
    pub fault_number : skip_of s lim room ty at ≡ Refused why
    fault_number = skip_is ∙ ap (λ (x : Tried Tree). passed (placed at (forget x))) the_break.is

    -- the path is no longer than the room
    pub fault_near : length path ≤ room
    fault_near = subst (λ (x : Tried Tree). steps x ≤ room) the_break.is (tracked_near lim room ty (drop at s))

    -- the offset lies in the input; at its length a byte was missing
    pub fault_inside : at ≤ length s → (at ≤ off) × (off ≤ length s)
    fault_inside h = by (subst (Fits (length (drop at s))) the_break.is (tracked_first lim room ty (drop at s)).fits)
      where
        by : (the_break.read ≤ length (drop at s)) ⊎ ((why ≡ END) × (the_break.read ≡ suc (length (drop at s)))) → (at ≤ off) × (off ≤ length s)
        by (inl f) = (omega (arith, the_break.offset), omega (arith, the_break.offset, f, length-drop at s))
        by (inr f) = (omega (arith, the_break.offset), omega (arith, the_break.offset, f.1, length-drop at s))

    -- what agrees up to the offset agrees in all that was read
    module _ (t : List ℕ) (q : take (suc off) t ≡ take (suc off) s) where
      agree : take (reach here) (drop at t) ≡ take (reach here) (drop at s)
      agree = rw the_break.is (by the_break.read refl)
        where
          by : (n : ℕ) → the_break.read ≡ n → take n (drop at t) ≡ take n (drop at s)
          by zero f = refl
          by (suc n) f =
              let g : suc off ≡ at + suc n = omega (arith, the_break.offset, f) in
              in_rest at (suc n) s t (subst (λ (z : ℕ). take z t ≡ take z s) g q)

      again : tracked lim room ty (drop at t) ≡ here → fault_at t lim room ty at ≡ fault why off path
      unfolding fault_at
      again f = ap (fault_of at) f ∙ e

      -- "other bytes behind the offset, with the length kept, change neither number, offset nor path"
      pub fault_behind : length t ≡ length s → fault_at t lim room ty at ≡ fault why off path
      fault_behind l = again (tracked_steady lim room ty (drop at s) (drop at t) (omega (arith, l, length-drop at s, length-drop at t)) agree)

      -- where it is not for want of bytes, a longer input has no say either, and a shorter one can only be refused for want of bytes
      by_again : Again (tracked lim room ty (drop at t)) here (length (drop at t)) (length (drop at s)) → (fault_at t lim room ty at ≡ fault why off path) ⊎ ((skip_of t lim room ty at ≡ Refused END) × (length t < length s))
      by_again (inl f) = inl (again f)
      by_again (inr f) = inr (skip_ended t f.0, omega (arith, f.1, length-drop at s, length-drop at t))

      pub fault_firm : (why ≡ END → ⊥) → (fault_at t lim room ty at ≡ fault why off path) ⊎ ((skip_of t lim room ty at ≡ Refused END) × (length t < length s))
      fault_firm n = by_again ((tracked_first lim room ty (drop at s)).firm (drop at t) (λ u. n (subst Ended the_break.is u)) agree)

    -- cut before the offset, there is nothing wrong but the cut
    pub fault_first : (j : ℕ) → at ≤ j → j < off → skip_of (take j s) lim room ty at ≡ Refused END
    fault_first j h l =
        let c : Ended (tracked lim room ty (take (j - at) (drop at s))) = (tracked_first lim room ty (drop at s)).cut (j - at) (rw the_break.is (omega (arith, the_break.offset, h, l))) in
        let g : at + (j - at) ≡ j = omega (arith, h) in
        skip_ended (take j s) (subst (λ (cs : List ℕ). Ended (tracked lim room ty cs)) (take_drop at (j - at) s ∙ ap (λ (z : ℕ). drop at (take z s)) g) c)

-- what a fault says of skip: its number, or the end
abbrev pub skipped_of : Fault → Skipped
skipped_of (accepted e) = Done (place e)
skipped_of (fault why off path) = Refused why

skipped_of_lem : (at : ℕ) (x : Tried Tree) → skipped_of (fault_of at x) ≡ passed (placed at (forget x))
skipped_of_lem at (found a n) = refl
skipped_of_lem at (broke why n path) = refl

-- "the number is skip's", and it accepts exactly where skip accepts: one equation
pub fault_skip : (s : List ℕ) (lim : TConfiguration) (room : ℕ) (ty : TType) (at : ℕ) → skipped_of (fault_at s lim room ty at) ≡ skip_of s lim room ty at
unfolding fault_at
fault_skip s lim room ty at = skipped_of_lem at (here s lim room ty at) ∙ sym (skip_is s lim room ty at)

-- "the true reason": no well-formed value agrees with the input up to the offset, of whatever length; where bytes are wanting, of its length
module _ (s t : List ℕ) (lim : TConfiguration) (room : ℕ) (ty : TType) (at why off : ℕ) (path : List Step) (e : fault_at s lim room ty at ≡ fault why off path) (q : take (suc off) t ≡ take (suc off) s) where
  none_so : (w : ℕ) → skip_of t lim room ty at ≡ Refused w → (d : ℕ) → Formed t lim room ty at d → ⊥
  none_so w f d g = done_refused (sym (formed_skip t lim room ty at d g) ∙ f)

  pub none_formed : (why ≡ END → ⊥) → (d : ℕ) → Formed t lim room ty at d → ⊥
  none_formed n = by (fault_firm s lim room ty at why off path e t q n)
    where
      by : (fault_at t lim room ty at ≡ fault why off path) ⊎ ((skip_of t lim room ty at ≡ Refused END) × (length t < length s)) → (d : ℕ) → Formed t lim room ty at d → ⊥
      by (inl f) = none_so why (fault_number t lim room ty at why off path f)
      by (inr f) = none_so END f.0

  pub none_formed_so_long : length t ≡ length s → (d : ℕ) → Formed t lim room ty at d → ⊥
  none_formed_so_long l = none_so why (fault_number t lim room ty at why off path (fault_behind s lim room ty at why off path e t q l))
