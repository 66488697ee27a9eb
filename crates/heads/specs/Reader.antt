-- Readers: what takes bytes from the front of those that are left, and how readers are put together. Assumes nothing: these are definitions.
use Rattle.std.specs.Prelude.{ℕ, ◌≡◌, Bool, cond, ◌&&◌, List, [], ◌∷◌, length, take, drop, leb, ltb, eqb}
use Rattle.types.specs.Refusals.{END, MESSAGE_SIZE}
use Rattle.numbers.specs.Varint.{Found, got, refused, placed}

-- what a reader finds in the bytes that are left: a value and how many bytes it took, or the number of a refusal
abbrev pub Reader : Type 0 → Type 0
Reader A = List ℕ → Found A

-- a value for no byte, and a refusal
unfoldable pub done : {A : Type 0} → A → Reader A
done a bs = got a 0

unfoldable pub refuse : {A : Type 0} → ℕ → Reader A
refuse why bs = refused why

-- go on behind what was found
abbrev pub onward : {A B : Type 0} → (A → Reader B) → List ℕ → Found A → Found B
onward k bs (got a n) = placed n (k a (drop n bs))
onward k bs (refused why) = refused why

-- one reader, then the next: the first refusal in reading order is the answer
unfoldable pub and_then : {A B : Type 0} → Reader A → (A → Reader B) → Reader B
and_then p k bs = onward k bs (p bs)

-- refused where the test fails
unfoldable pub provided : {A : Type 0} → Bool → ℕ → Reader A → Reader A
provided ok why p bs = cond ok (p bs) (refused why)

-- one byte: END where "a byte needed lies past the input"
unfoldable pub byte : Reader ℕ
byte [] = refused END
byte (b ∷ bs) = got b 1

-- the next n bytes
unfoldable pub some : ℕ → Reader (List ℕ)
some n bs = cond (leb n (length bs)) (got (take n bs) n) (refused END)

-- a value for no byte, where n bytes are ahead: END where "the bytes left" are fewer
unfoldable pub ahead : {A : Type 0} → ℕ → A → Reader A
ahead n a bs = cond (leb n (length bs)) (got a 0) (refused END)

-- what is read, where the bytes that it calls for are ahead
unfoldable pub backed : {A : Type 0} → (A → ℕ) → Reader A → Reader A
backed need p = and_then p (λ a. ahead (need a) a)

-- these bytes are read whole, as a
abbrev pub Whole : {A : Type 0} → Reader A → A → List ℕ → Type 0
Whole p a bs = p bs ≡ got a (length bs)

-- a reader at a place of the input: what it finds, with the place behind it
unfoldable pub read_at : {A : Type 0} → Reader A → List ℕ → ℕ → Found A
read_at p s at = placed at (p (drop at s))

-- what a missed byte is: MESSAGE SIZE where there is input behind the cut, END at the true end
abbrev pub missing : Bool → ℕ → ℕ
missing more why = cond (more && eqb why END) MESSAGE_SIZE why

abbrev pub missed : {A : Type 0} → Bool → Found A → Found A
missed more (got a e) = got a e
missed more (refused why) = refused (missing more why)

-- "Reading acts as if the input ended at" the cut: "a byte missed there, with input behind it, gives 19, MESSAGE SIZE, and a byte missed at the true end gives END"
unfoldable pub read_to : {A : Type 0} → Reader A → List ℕ → ℕ → ℕ → Found A
read_to p s cut at = missed (ltb cut (length s)) (read_at p (take cut s) at)
