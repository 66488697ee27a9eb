-- What is asked of a frame whose length is known and whose bytes come in bursts: a byte looked at, bytes passed over, an end, a refusal.
-- Assumes nothing: these are definitions.
use Rattle.std.specs.Prelude.{ℕ, zero, suc, ◌+◌, ◌-◌, Bool, cond, List, [], ◌∷◌, drop, leb}
use Rattle.types.specs.Refusals.{END}

-- the next thing asked: `look`, the next byte, which says how to go on; `pass`, so many bytes that nobody looks at
pub data Ask (A : Type 0) : Type 0 where
  got : A → Ask A
  refused : ℕ → Ask A
  look : (ℕ → Ask A) → Ask A
  pass : ℕ → Ask A → Ask A

-- n bytes passed over before what is asked: a refusal waits for no byte that nobody looks at
abbrev pub passing : {A : Type 0} → ℕ → Ask A → Ask A
passing zero q = q
passing (suc n) (got a) = pass (suc n) (got a)
passing (suc n) (refused why) = refused why
passing (suc n) (look f) = pass (suc n) (look f)
passing (suc n) (pass m q) = pass (suc n + m) q

-- A plan: what is asked where so many bytes of the frame are left. The same words as a reader's (Reader.antt), with the bytes' number in place of the bytes.
abbrev pub Plan : Type 0 → Type 0
Plan A = ℕ → Ask A

unfoldable pub done : {A : Type 0} → A → Plan A
done a left = got a

unfoldable pub refuse : {A : Type 0} → ℕ → Plan A
refuse why left = refused why

-- go on behind what is asked, with as many bytes left as it leaves
abbrev pub onward : {A B : Type 0} → (A → Plan B) → ℕ → Ask A → Ask B
onward k left (got a) = k a left
onward k left (refused why) = refused why
onward k left (look f) = look (λ b. onward k (left - 1) (f b))
onward k left (pass n q) = passing n (onward k (left - n) q)

unfoldable pub and_then : {A B : Type 0} → Plan A → (A → Plan B) → Plan B
and_then p k left = onward k left (p left)

unfoldable pub provided : {A : Type 0} → Bool → ℕ → Plan A → Plan A
provided ok why p left = cond ok (p left) (refused why)

-- one byte, looked at: END where the frame has none left
unfoldable pub byte : Plan ℕ
byte zero = refused END
byte (suc left) = look (λ b. got b)

-- the next n bytes, whatever they are: END where the frame has fewer left, known before they come
unfoldable pub some : ℕ → Plan (Unit {0})
some n left = cond (leb n left) (passing n (got tt)) (refused END)

-- a value for no byte, where n bytes of the frame are left: END where there are fewer
unfoldable pub ahead : {A : Type 0} → ℕ → A → Plan A
ahead n a left = cond (leb n left) (got a) (refused END)

unfoldable pub backed : {A : Type 0} → (A → ℕ) → Plan A → Plan A
backed need p = and_then p (λ a. ahead (need a) a)

-- What the bytes so far tell: a value with how many bytes it took, a refusal, or that a byte is waited for.
pub data Told (A : Type 0) : Type 0 where
  ends : A → ℕ → Told A
  refuses : ℕ → Told A
  waits : Told A

abbrev pub behind : {A : Type 0} → ℕ → Told A → Told A
behind n (ends a m) = ends a (n + m)
behind n (refuses why) = refuses why
behind n waits = waits

-- "more" exactly where a byte is to be looked at that has not come; bytes passed over are not waited for
unfoldable pub told : {A : Type 0} → Ask A → List ℕ → Told A
told (got a) bs = ends a 0
told (refused why) bs = refuses why
told (look f) [] = waits
told (look f) (b ∷ bs) = behind 1 (told (f b) bs)
told (pass n q) bs = behind n (told q (drop n bs))
