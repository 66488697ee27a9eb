-- Telling: reading that keeps the items met so far, where it is refused too. Assumes nothing: these are definitions.
use Rattle.std.specs.Prelude.{ℕ, Bool, cond, List, [], ◌∷◌, ◌++◌, drop}
use Rattle.numbers.specs.Varint.{Found, got, refused, placed}
use Rattle.heads.specs.Reader.{Reader, done}
use Rattle.lines.specs.Lines.{Item}

-- the items met, and what was found behind them
pub record Told (A : Type 0) : Type 0 where
  pub items : List Item
  pub found : Found A

-- as a reader, from the bytes that are left
abbrev pub Teller : Type 0 → Type 0
Teller A = List ℕ → Told A

-- reading that tells nothing
unfoldable pub quiet : {A : Type 0} → Reader A → Teller A
quiet p bs = record { items = []; found = p bs }

-- an item, and then on
unfoldable pub aloud : {A : Type 0} → Item → Teller A → Teller A
aloud i t bs = record { items = i ∷ (t bs).items; found = (t bs).found }

-- on behind what was found, with the items told so far; a refusal keeps them
abbrev pub onward_t : {A B : Type 0} → (A → Teller B) → List ℕ → List Item → Found A → Told B
onward_t k bs is (got a n) = record { items = is ++ (k a (drop n bs)).items; found = placed n (k a (drop n bs)).found }
onward_t k bs is (refused why) = record { items = is; found = refused why }

-- one after the other
unfoldable pub then_tell : {A B : Type 0} → Teller A → (A → Teller B) → Teller B
then_tell t k bs = onward_t k bs (t bs).items (t bs).found

-- what is made of a value tells nothing more
abbrev pub making : {A B : Type 0} → Teller A → (A → B) → Teller B
making t g = then_tell t (λ a. quiet (done (g a)))

-- refused where the test fails
unfoldable pub provided_t : {A : Type 0} → Bool → ℕ → Teller A → Teller A
provided_t ok why t bs = cond ok (t bs) (record { items = []; found = refused why })

-- what a reader reads, told as an item
unfoldable pub voiced : {A B : Type 0} → Reader A → (A → Item) → (A → B) → Teller B
voiced p i g = then_tell (quiet p) (λ a. aloud (i a) (quiet (done (g a))))
