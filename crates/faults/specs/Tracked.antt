-- Tracked reading: readers that say, where they are refused, how far they had read and on which way into the value. Assumes nothing: these are definitions.
use Rattle.std.specs.Prelude.{ℕ, suc, ◌+◌, Bool, cond, List, [], ◌∷◌, length, take, drop, leb, ℤ}
use Rattle.types.specs.Refusals.{END}

-- one step of a path: into a field's value, by its id; into an element, a map's key or its value, by its number, from 0
pub data Step : Type 0 where
  field : ℤ → Step
  element : ℕ → Step
  key : ℕ → Step
  value : ℕ → Step

-- what is found: a value and how many bytes it took; or a refusal: its number, how many bytes had been read by then, a single byte that was missing counted
-- with them, and the path from outside in
pub data Tried (A : Type 0) : Type 0 where
  found : A → ℕ → Tried A
  broke : ℕ → ℕ → List Step → Tried A

abbrev pub Tracked : Type 0 → Type 0
Tracked A = List ℕ → Tried A

-- a value for no byte, and a refusal before any
unfoldable pub done : {A : Type 0} → A → Tracked A
done a bs = found a 0

unfoldable pub refuse : {A : Type 0} → ℕ → Tracked A
refuse why bs = broke why 0 []

-- behind n bytes read
abbrev pub after : {A : Type 0} → ℕ → Tried A → Tried A
after n (found a m) = found a (n + m)
after n (broke why m path) = broke why (n + m) path

abbrev pub onward : {A B : Type 0} → (A → Tracked B) → List ℕ → Tried A → Tried B
onward k bs (found a n) = after n (k a (drop n bs))
onward k bs (broke why n path) = broke why n path

-- one, then the next
unfoldable pub and_then : {A B : Type 0} → Tracked A → (A → Tracked B) → Tracked B
and_then p k bs = onward k bs (p bs)

-- refused where the test fails
unfoldable pub provided : {A : Type 0} → Bool → ℕ → Tracked A → Tracked A
provided ok why p bs = cond ok (p bs) (broke why 0 [])

-- "the input's length where a single byte was missing": the byte behind all that are left
unfoldable pub missing : {A : Type 0} → Tracked A
missing bs = broke END (suc (length bs)) []

-- one byte
unfoldable pub byte : Tracked ℕ
byte [] = broke END 1 []
byte (b ∷ bs) = found b 1

-- the next n bytes: "A double, a uuid or a string's body cut short counts as unread"
unfoldable pub some : ℕ → Tracked (List ℕ)
some n bs = cond (leb n (length bs)) (found (take n bs) n) (broke END 0 [])

-- a value for no byte, where n bytes are ahead: the header is refused, and no byte behind it was read
unfoldable pub ahead : {A : Type 0} → ℕ → A → Tracked A
ahead n a bs = cond (leb n (length bs)) (found a 0) (broke END 0 [])

-- what is read, where the bytes that it calls for are ahead
unfoldable pub backed : {A : Type 0} → (A → ℕ) → Tracked A → Tracked A
backed need p = and_then p (λ a. ahead (need a) a)

-- inside a step: it joins the path of what is refused there
abbrev pub under : {A : Type 0} → Step → Tried A → Tried A
under i (found a n) = found a n
under i (broke why n path) = broke why n (i ∷ path)

unfoldable pub labelled : {A : Type 0} → Step → Tracked A → Tracked A
labelled i p bs = under i (p bs)

-- how many bytes had a say: those taken, or those read before the refusal, a missing one counted
abbrev pub reach : {A : Type 0} → Tried A → ℕ
reach (found a n) = n
reach (broke why n path) = n
