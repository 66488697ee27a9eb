-- Asking, one thing behind the other: what it tells, and that a final answer stays. Assumes nothing.
use mathlib.Core.Path.{◌≡◌, refl, sym, ap, ap₂, ◌∙◌}
use mathlib.Core.List.{List, [], ◌∷◌, ◌++◌}
use Prim.Native.Nat.{ℕ, zero, suc, ◌+◌, ◌-◌}
use native.Mathlib.Omega.{arith}
use lib.ListN.{drop}
use lib.Seq.{drop-drop}
use Rattle.frame.specs.Ask.{Ask, got, refused, look, pass, passing, Plan, done, onward, and_then, Told, ends, refuses, waits, behind, told}

-- how far behind has no say but for where it ends
pub behind_zero : {A : Type 0} (x : Told A) → behind 0 x ≡ x
behind_zero (ends a n) = ap (ends a) (omega arith)
behind_zero (refuses why) = refl
behind_zero waits = refl

pub behind_behind : {A : Type 0} (n m : ℕ) (x : Told A) → behind n (behind m x) ≡ behind (n + m) x
behind_behind n m (ends a k) = ap (ends a) (omega arith)
behind_behind n m (refuses why) = refl
behind_behind n m waits = refl

pub told_passing : {A : Type 0} (n : ℕ) (q : Ask A) (bs : List ℕ) → told (passing n q) bs ≡ behind n (told q (drop n bs))
unfolding told
told_passing zero q bs = sym (behind_zero (told q bs))
told_passing (suc n) (got a) bs = refl
told_passing (suc n) (refused why) bs = refl
told_passing (suc n) (look f) bs = refl
told_passing (suc n) (pass m q) bs =
    sym (behind_behind (suc n) m (told q (drop m (drop (suc n) bs))) ∙ ap (λ (l : List ℕ). behind (suc n + m) (told q l)) (drop-drop m (suc n) bs))

-- what is told behind something told
abbrev pub further : {A B : Type 0} → (A → Plan B) → ℕ → List ℕ → Told A → Told B
further k left bs (ends a n) = behind n (told (k a (left - n)) (drop n bs))
further k left bs (refuses why) = refuses why
further k left bs waits = waits

further_behind : {A B : Type 0} (k : A → Plan B) (left n : ℕ) (bs : List ℕ) (x : Told A) → behind n (further k (left - n) (drop n bs) x) ≡ further k left bs (behind n x)
further_behind k left n bs (ends a m) =
    behind_behind n m (told (k a (left - n - m)) (drop m (drop n bs)))
    ∙ ap₂ (λ (l : ℕ) (cs : List ℕ). behind (n + m) (told (k a l) cs)) (omega arith) (drop-drop m n bs)
further_behind k left n bs (refuses why) = refl
further_behind k left n bs waits = refl

pub told_onward : {A B : Type 0} (k : A → Plan B) (left : ℕ) (q : Ask A) (bs : List ℕ) → told (onward k left q) bs ≡ further k left bs (told q bs)
unfolding told
told_onward k left (got a) bs = sym (behind_zero (told (k a (left - 0)) bs) ∙ ap (λ (l : ℕ). told (k a l) bs) (omega arith))
told_onward k left (refused why) bs = refl
told_onward k left (look f) [] = refl
told_onward k left (look f) (b ∷ bs) = ap (behind 1) (told_onward k (left - 1) (f b) bs) ∙ further_behind k left 1 (b ∷ bs) (told (f b) bs)
told_onward k left (pass n q) bs =
    told_passing n (onward k (left - n) q) bs
    ∙ ap (behind n) (told_onward k (left - n) q (drop n bs))
    ∙ further_behind k left n bs (told q (drop n bs))

pub told_then : {A B : Type 0} (p : Plan A) (k : A → Plan B) (left : ℕ) (bs : List ℕ) → told (and_then p k left) bs ≡ further k left bs (told (p left) bs)
unfolding and_then
told_then p k left bs = told_onward k left (p left) bs

-- "after a final answer further bursts change nothing"
abbrev pub Stays : {A : Type 0} → Told A → Told A → Type 0
Stays (ends a n) y = y ≡ ends a n
Stays (refuses why) y = y ≡ refuses why
Stays waits y = Unit {0}

stays_behind : {A : Type 0} (n : ℕ) (x y : Told A) → Stays x y → Stays (behind n x) (behind n y)
stays_behind n (ends a m) y e = ap (behind n) e
stays_behind n (refuses why) y e = ap (behind n) e
stays_behind n waits y e = tt

-- behind bytes passed over, those that have come and those that have not
drop_both : (n : ℕ) (bs cs : List ℕ) → (ds : List ℕ) × (drop n (bs ++ cs) ≡ drop n bs ++ ds)
drop_both zero bs cs = (cs, refl)
drop_both (suc n) [] cs = (drop (suc n) cs, refl)
drop_both (suc n) (b ∷ bs) cs = drop_both n bs cs

pub stays : {A : Type 0} (q : Ask A) (bs cs : List ℕ) → Stays (told q bs) (told q (bs ++ cs))
unfolding told
stays (got a) bs cs = refl
stays (refused why) bs cs = refl
stays (look f) [] cs = tt
stays (look f) (b ∷ bs) cs = stays_behind 1 (told (f b) bs) (told (f b) (bs ++ cs)) (stays (f b) bs cs)
stays {A} (pass n q) bs cs =
    let d = drop_both n bs cs in
    rw d.1 (stays_behind n (told q (drop n bs)) (told q (drop n bs ++ d.0)) (stays q (drop n bs) d.0))

-- nothing done behind has no say
none_further : (left : ℕ) (bs : List ℕ) (x : Told (Unit {0})) → further (λ u. done tt) left bs x ≡ x
unfolding done told
none_further left bs (ends u n) = ap (ends tt) (omega arith)
none_further left bs (refuses why) = refl
none_further left bs waits = refl

pub told_done : (p : Plan (Unit {0})) (left : ℕ) (bs : List ℕ) → told (and_then p (λ u. done tt) left) bs ≡ told (p left) bs
told_done p left bs = told_then p (λ u. done tt) left bs ∙ none_further left bs (told (p left) bs)
