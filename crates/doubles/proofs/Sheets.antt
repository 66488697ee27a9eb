-- What a walk leaves, put together from what its parts leave. Assumes nothing.
use Rattle.std.proofs.Common.{◌≡◌, ℕ, List, [], ◌∷◌, ◌++◌, sym, refl, ap, ◌∙◌, subst, arith}
use Rattle.types.specs.declared.Place.{Place}
use Rattle.numbers.specs.Varint.{Found, got, refused}
use Rattle.heads.specs.Reader.{Reader, done, and_then, read_at}
use Rattle.heads.proofs.Steps.{step, stop_at, done_at}
use Rattle.single.specs.declared.Counts.{Counts}
use Rattle.doubles.specs.Walked.{Sheet, jotted, jot_all, Walks}
use Rattle.doubles.specs.declared.Walked.{Walked}
use Rattle.doubles.specs.declared.Walked.TheVariants.{Done, Refused}

-- one part after the other
pub jot_parts : (a b : List ℕ) (x : Sheet) → jot_all (a ++ b) x ≡ jot_all b (jot_all a x)
unfolding jot_all
jot_parts [] b x = refl
jot_parts (n ∷ a) b x = jot_parts a b (jotted x n)

-- two answers are never one
pub not_done : {X : Type 0} {p : Place} {c : Counts} {why : ℕ} → Done p c ≡ Refused why → X
not_done e = let z : ◌≡◌ {A = ℕ} 0 1 = cc in absurd (omega arith)

module _ {A : Type 0} (of : A → List ℕ) where
  pub went : (f : Found A) (x : Sheet) (e : Place) (c : Counts) (row : List ℕ) (a : A) → f ≡ got a e.0 → (c, row) ≡ jot_all (of a) x → Walks of f x (Done e c) row
  unfolding Walks
  went f x e c row a g h = (a, g, h)

  pub lost : (f : Found A) (x : Sheet) (why : ℕ) (row : List ℕ) → f ≡ refused why → Walks of f x (Refused why) row
  unfolding Walks
  lost f x why row g = g

  -- what the answer says was found
  pub was_got : (f : Found A) (x : Sheet) (r : Walked) (row : List ℕ) → Walks of f x r row → (e : Place) (c : Counts) → r ≡ Done e c → (a : A) × (f ≡ got a e.0) × ((c, row) ≡ jot_all (of a) x)
  unfolding Walks
  was_got f x r row w e c g = subst (λ (q : Walked). Walks of f x q row) g w

  pub was_lost : (f : Found A) (x : Sheet) (r : Walked) (row : List ℕ) → Walks of f x r row → (why : ℕ) → r ≡ Refused why → f ≡ refused why
  unfolding Walks
  was_lost f x r row w why g = subst (λ (q : Walked). Walks of f x q row) g w

  -- where the same was found
  pub as_found : (f g : Found A) (x : Sheet) (r : Walked) (row : List ℕ) → f ≡ g → Walks of f x r row → Walks of g x r row
  as_found f g x r row e w = subst (λ (y : Found A). Walks of y x r row) e w

-- what is made of a value, whose doubles come behind others that are jotted already
pub made : {A B : Type 0} (of : A → List ℕ) (of' : B → List ℕ) (p : Reader A) (g : A → B) (pre : List ℕ) (s : List ℕ) (at : ℕ) (x : Sheet) → ((a : A) → of' (g a) ≡ pre ++ of a) → (r : Walked) (row : List ℕ) → Walks of (read_at p s at) (jot_all pre x) r row → Walks of' (read_at (and_then p (λ a. done (g a))) s at) x r row
unfolding Walks
made of of' p g pre s at x h (Done e c) row w =
    (g w.0, step p (λ a. done (g a)) s at w.0 e.0 w.1 ∙ done_at s e.0 (g w.0), w.2 ∙ sym (jot_parts pre (of w.0) x) ∙ ap (λ (l : List ℕ). jot_all l x) (sym (h w.0)))
made of of' p g pre s at x h (Refused why) row w = stop_at p (λ a. done (g a)) s at why w

-- with none before them
pub made_alone : {A B : Type 0} (of : A → List ℕ) (of' : B → List ℕ) (p : Reader A) (g : A → B) (s : List ℕ) (at : ℕ) (x : Sheet) → ((a : A) → of' (g a) ≡ of a) → (r : Walked) (row : List ℕ) → Walks of (read_at p s at) x r row → Walks of' (read_at (and_then p (λ a. done (g a))) s at) x r row
unfolding jot_all
made_alone of of' p g s at x h r row w = made of of' p g [] s at x h r row w

-- In a loop: whatever the walk of what is left leaves, the walk of the whole leaves.
pub record Onto {A B : Type 0} (of : A → List ℕ) (f : Found A) (x : Sheet) (of' : B → List ℕ) (f' : Found B) (x' : Sheet) : Type 0 where
  pub on : (r : Walked) (row : List ℕ) → Walks of f x r row → Walks of' f' x' r row

pub onto_all : {A : Type 0} (of : A → List ℕ) (f : Found A) (x : Sheet) → Onto of f x of f x
onto_all of f x = record { on = λ r row w. w }
