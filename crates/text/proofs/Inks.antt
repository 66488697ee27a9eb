-- Text in a lent buffer: pieces one behind the other, and what the code knows at each return. Assumes nothing.
use mathlib.Core.Path.{◌≡◌, refl, sym, ap, ◌∙◌}
use mathlib.Core.Bool.{Bool, true, false, cond}
use mathlib.Core.List.{List, [], ◌∷◌, ◌++◌}
use Prim.Native.Nat.{ℕ, zero, suc, ◌+◌, ◌-◌, ◌*◌, ◌/◌, ◌%◌, ◌^◌, ◌≤◌, ◌<◌}
use native.Mathlib.Numerals.{add-one}
use native.Mathlib.Omega.{arith}
use borrow.Author.Tests.{lt-ltb, le-ltb}
use lib.Dec.{ltb}
use lib.IntN.{ℤ, pos, negsuc}
use Rattle.std.proofs.Common.{◌≤ℤ◌, ◌<ℤ◌, unsigned_abs}
use Rattle.std.proofs.lemmas.Int.{ints}
use lib.ListN.{length, drop, get_or, set, length-set, drop_of_length-le}
use lib.Seq.{drop-cons}
use Rattle.types.specs.declared.TType.{TType}
use Rattle.text.specs.Pen.{Pen, dot, inked}
use Rattle.text.specs.Words.{digit, digits, decimal, signed, hex_digit, hex, hexes, type_name, truth_name}

-- put_byte
module _ (out : List ℕ) (to b : ℕ) where
  pub dot_in : to < length out → (set out to b, to + 1) ≡ dot b (out, to)
  unfolding dot
  dot_in h = rw (lt-ltb to (length out) h)

  pub dot_off : length out ≤ to → (out, to) ≡ dot b (out, to)
  unfolding dot
  dot_off h = rw (le-ltb to (length out) h)

-- pieces one behind the other
pub inked_append : (bs cs : List ℕ) (p : Pen) → inked (bs ++ cs) p ≡ inked cs (inked bs p)
unfolding inked
inked_append [] cs p = refl
inked_append (b ∷ bs) cs p = inked_append bs cs (dot b p)

pub inked_one : (b : ℕ) (p : Pen) → inked (b ∷ []) p ≡ dot b p
unfolding inked
inked_one b p = refl

pub inked_none : (p : Pen) → inked [] p ≡ p
unfolding inked
inked_none p = refl

-- two pieces, the second where the first ended
pub inked_two : (bs cs : List ℕ) (p q r : Pen) → q ≡ inked bs p → r ≡ inked cs q → r ≡ inked (bs ++ cs) p
inked_two bs cs p q r e f = f ∙ ap (inked cs) e ∙ sym (inked_append bs cs p)

-- the buffer keeps its length
dot_length : (b : ℕ) (p : Pen) → length (dot b p).0 ≡ length p.0
unfolding dot
dot_length b p = go (ltb p.1 (length p.0))
  where
    go : (c : Bool) → length (cond {A = Pen} c (set p.0 p.1 b, p.1 + 1) p).0 ≡ length p.0
    go true = length-set p.0 p.1 b
    go false = refl

pub inked_length : (bs : List ℕ) (p : Pen) → length (inked bs p).0 ≡ length p.0
unfolding inked
inked_length [] p = refl
inked_length (b ∷ bs) p = inked_length bs (dot b p) ∙ dot_length b p

pub same_length : (bs cs : List ℕ) (out out₀ : List ℕ) (p to : ℕ) → inked bs (out, p) ≡ inked cs (out₀, to) → length out ≡ length out₀
same_length bs cs out out₀ p to e = sym (inked_length bs (out, p)) ∙ ap (λ (q : Pen). length q.0) e ∙ inked_length cs (out₀, to)

-- put_word: the bytes from i on are left
module _ (word : List ℕ) (out : List ℕ) (p i : ℕ) where
  pub word_done : (out₀ : List ℕ) (to : ℕ) → length word ≤ i → inked (drop i word) (out, p) ≡ inked word (out₀, to) → (out, p) ≡ inked word (out₀, to)
  word_done out₀ to h e = sym (inked_none (out, p)) ∙ ap (λ (l : List ℕ). inked l (out, p)) (sym (drop_of_length-le word h)) ∙ e

  pub word_turn : (out₁ out₀ : List ℕ) (q to b : ℕ) → i < length word → b ≡ get_or word i 0 → (out₁, q) ≡ dot b (out, p) → inked (drop i word) (out, p) ≡ inked word (out₀, to) → inked (drop (i + 1) word) (out₁, q) ≡ inked word (out₀, to)
  unfolding inked
  word_turn out₁ out₀ q to b h g f e =
      rw (add-one i)
      (ap (inked (drop (suc i) word)) (f ∙ ap (λ (c : ℕ). dot c (out, p)) g)
      ∙ ap (λ (l : List ℕ). inked l (out, p)) (sym (drop-cons word i 0 h))
      ∙ e)

-- put_decimal: what has few digits is written alike, however many there may be
tens : ℕ → ℕ
tens zero = 10
tens (suc k) = 10 * tens k

digits_fuel : (k j n : ℕ) → n < tens k → n < tens j → digits k n ≡ digits j n
unfolding tens
digits_fuel zero zero n h i = refl
digits_fuel zero (suc j) n h i = let e : n % 10 ≡ n = omega arith in rw (lt-ltb n 10 h, e)
digits_fuel (suc k) zero n h i = let e : n % 10 ≡ n = omega arith in rw (lt-ltb n 10 i, e)
digits_fuel (suc k) (suc j) n h i =
    ap (λ (l : List ℕ). cond (ltb n 10) (digit n ∷ []) (l ++ (digit (n % 10) ∷ []))) (digits_fuel k j (n / 10) (omega arith) (omega arith))

pub decimal_one : (n : ℕ) → n < 10 → decimal n ≡ (48 + n) ∷ []
unfolding decimal
decimal_one n h = rw (lt-ltb n 10 h)

few : (n : ℕ) → n < 2 ^ 64 → (n / 10 < tens 18) × (n / 10 < tens 19)
unfolding tens
few n h = (omega arith, omega arith)

pub decimal_more : (n : ℕ) → n < 2 ^ 64 → 10 ≤ n → decimal n ≡ decimal (n / 10) ++ ((48 + n % 10) ∷ [])
unfolding decimal
decimal_more n f h = rw (le-ltb n 10 h, digits_fuel 18 19 (n / 10) (few n f).0 (few n f).1)

module _ (out : List ℕ) (to n : ℕ) (p : Pen) where
  pub decimal_last : n < 10 → p ≡ dot (48 + n) (out, to) → p ≡ inked (decimal n) (out, to)
  decimal_last h e = e ∙ sym (ap (λ (l : List ℕ). inked l (out, to)) (decimal_one n h) ∙ inked_one (48 + n) (out, to))

  pub decimal_on : (q : Pen) → n < 2 ^ 64 → 10 ≤ n → q ≡ inked (decimal (n / 10)) (out, to) → p ≡ dot (48 + n % 10) q → p ≡ inked (decimal n) (out, to)
  decimal_on q f h g e =
      inked_two (decimal (n / 10)) ((48 + n % 10) ∷ []) (out, to) q p g (e ∙ sym (inked_one (48 + n % 10) q))
      ∙ ap (λ (l : List ℕ). inked l (out, to)) (sym (decimal_more n f h))

-- put_int
module _ (out : List ℕ) (to m : ℕ) (p : Pen) where
  pub int_up : (z : ℤ) → pos 0 ≤ℤ z → m ≡ unsigned_abs z → p ≡ inked (decimal m) (out, to) → p ≡ inked (signed z) (out, to)
  unfolding signed
  int_up (pos n) h g e = e ∙ rw g
  int_up (negsuc n) h g e = absurd (omega (arith, ints))

  pub int_down : (z : ℤ) (q : Pen) → z <ℤ pos 0 → q ≡ dot 45 (out, to) → m ≡ unsigned_abs z → p ≡ inked (decimal m) q → p ≡ inked (signed z) (out, to)
  unfolding signed
  int_down (pos n) q h f g e = absurd (omega (arith, ints))
  int_down (negsuc n) q h f g e =
      let k : m ≡ n + 1 = g ∙ omega arith in
      inked_two (45 ∷ []) (decimal m) (out, to) q p (f ∙ sym (inked_one 45 (out, to))) e ∙ rw k

-- hex_digit
module _ (d : ℕ) where
  pub digit_low : d < 10 → 48 + d ≡ hex_digit d
  digit_low h = rw (lt-ltb d 10 h)

  pub digit_high : 10 ≤ d → 87 + d ≡ hex_digit d
  digit_high h = rw (le-ltb d 10 h)

-- put_hex
module _ (out : List ℕ) (to n count : ℕ) where
  pub hex_none : count ≡ 0 → (out, to) ≡ inked (hex count n) (out, to)
  unfolding hex inked
  hex_none h = rw h

  pub hex_on : (p q : Pen) (d : ℕ) → (count ≡ 0 → ⊥) → q ≡ inked (hex (count - 1) (n / 16)) (out, to) → d ≡ hex_digit (n % 16) → p ≡ dot d q → p ≡ inked (hex count n) (out, to)
  unfolding hex
  hex_on p q d h f g e =
      let k : count ≡ suc (count - 1) = omega arith in
      inked_two (hex (count - 1) (n / 16)) (hex_digit (n % 16) ∷ []) (out, to) q p f (e ∙ ap (λ (c : ℕ). dot c q) g ∙ sym (inked_one (hex_digit (n % 16)) q))
      ∙ ap (λ (m : ℕ). inked (hex m n) (out, to)) (sym k)

-- put_bytes: those from i on are left
module _ (bytes : List ℕ) (out : List ℕ) (p i : ℕ) where
  pub bytes_done : (out₀ : List ℕ) (to : ℕ) → length bytes ≤ i → inked (hexes (drop i bytes)) (out, p) ≡ inked (hexes bytes) (out₀, to) → (out, p) ≡ inked (hexes bytes) (out₀, to)
  unfolding hexes
  bytes_done out₀ to h e = sym (inked_none (out, p)) ∙ ap (λ (l : List ℕ). inked (hexes l) (out, p)) (sym (drop_of_length-le bytes h)) ∙ e

  pub bytes_turn : (out₁ out₀ : List ℕ) (q to b c : ℕ) → i < length bytes → b ≡ c → c ≡ get_or bytes i 0 → (out₁, q) ≡ inked (hex 2 b) (out, p) → inked (hexes (drop i bytes)) (out, p) ≡ inked (hexes bytes) (out₀, to) → inked (hexes (drop (i + 1) bytes)) (out₁, q) ≡ inked (hexes bytes) (out₀, to)
  unfolding hexes
  bytes_turn out₁ out₀ q to b c h g k f e =
      rw (add-one i)
      (ap (inked (hexes (drop (suc i) bytes))) (f ∙ ap (λ (d : ℕ). inked (hex 2 d) (out, p)) (g ∙ k))
      ∙ sym (inked_append (hex 2 (get_or bytes i 0)) (hexes (drop (suc i) bytes)) (out, p))
      ∙ ap (λ (l : List ℕ). inked (hexes l) (out, p)) (sym (drop-cons bytes i 0 h))
      ∙ e)

-- put_type, put_truth: a word of its own for each
module _ (out : List ℕ) (to : ℕ) (p : Pen) (word : List ℕ) (e : p ≡ inked word (out, to)) where
  pub named : (kind t : TType) → kind ≡ t → word ≡ type_name t → p ≡ inked (type_name kind) (out, to)
  named kind t k w = e ∙ rw (w, k)

  pub truth_named : (b c : Bool) → b ≡ c → word ≡ truth_name c → p ≡ inked (truth_name b) (out, to)
  truth_named b c k w = e ∙ rw (w, k)

-- what the code knows at each of its returns
pub ruleset cases = (dot_in, dot_off, word_done, word_turn, same_length, decimal_last, decimal_on, int_up, int_down, digit_low, digit_high, hex_none, hex_on, bytes_done, bytes_turn, named, truth_named)
