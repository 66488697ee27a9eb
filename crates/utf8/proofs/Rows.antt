-- The check passes exactly the rows of encodings; a row has one list of character numbers; what passes may be set before anything.
-- Assumes nothing.
use mathlib.Core.Path.{◌≡◌, refl, sym, ap, ap₂, subst, ◌∙◌}
use mathlib.Core.Logic.{◌↔◌}
use mathlib.Core.List.{List, [], ◌∷◌, ◌++◌, append_assoc, append-nil}
use mathlib.Core.Bool.{Bool, true, false, cond, ◌&&◌}
use Prim.Native.Nat.{ℕ, zero, suc, ◌+◌, ◌-◌, ◌*◌, ◌/◌, ◌%◌, ◌≤◌, ◌<◌, zero-le, suc-le-suc}
use native.Mathlib.Omega.{arith}
use borrow.Author.Tests.{leb-true, eqb-true}
use lib.Dec.{leb, eqb}
use lib.ListN.{length, drop, get_or}
use Rattle.std.proofs.lemmas.List.{append_cancel_left}
use lib.Seq.{drop-nil, drop_at}
use Rattle.utf8.specs.Utf8.{scalar, tail_of, encode, Scalars, encodes, Row, Char, char, none, judged, tails, decode, onward, past, utf8}
use Rattle.utf8.proofs.Laws.{by_less, encode_one, encode_two, encode_three, encode_four, scalar_is, scalar_top, taken, lead_one, read_two, read_three, read_four, utf8_char}

-- the 6 bits of a byte behind the first, and the bits of a number put together again, 6 at a time
six : (n : ℕ) → (0x80 + n % 64) % 64 ≡ n % 64
six n = omega arith

one_more : (n : ℕ) → n / 64 * 64 + n % 64 ≡ n
one_more n = omega arith

two_more : (n : ℕ) → n / 4096 * 64 + n / 64 % 64 ≡ n / 64
two_more n = omega arith

three_more : (n : ℕ) → n / 262144 * 64 + n / 4096 % 64 ≡ n / 4096
three_more n = omega arith

first_bits : (n : ℕ) → n ≤ 0x10FFFF → (0xF0 + n / 262144) % 8 ≡ n / 262144
first_bits n h = omega arith

bits_four : (n : ℕ) → n ≤ 0x10FFFF → (((0xF0 + n / 262144) % 8 * 64 + tail_of (n / 4096) % 64) * 64 + tail_of (n / 64) % 64) * 64 + tail_of n % 64 ≡ n
bits_four n h = rw (first_bits n h, six (n / 4096), three_more n, six (n / 64), two_more n, six n, one_more n)

-- A character number's encoding has a first byte, and with anything behind it is read as that number.
pub record Decoded (n : ℕ) (rest : List ℕ) : Type 0 where
  pub first : ℕ
  pub behind : List ℕ
  pub is : encode n ≡ first ∷ behind
  pub reads : decode (first ∷ (behind ++ rest)) ≡ char n (length behind)

pub decoded : (n : ℕ) (rest : List ℕ) → scalar n ≡ true → Decoded n rest
decoded n rest s =
    by_less n 0x80 (λ h. record { first = n; behind = []; is = encode_one n h; reads = lead_one n rest h })
    (λ l1.
    by_less n 0x800
    (λ h.
    record {
      first = 0xC0 + n / 64;
      behind = tail_of n ∷ [];
      is = encode_two n l1 h;
      reads = read_two _ _ n rest (omega arith) (omega arith) (omega arith) ∙ taken 1 0x80 n l1 s;
    })
    (λ l2.
    by_less n 0x10000
    (λ h.
    record {
      first = 0xE0 + n / 4096;
      behind = tail_of (n / 64) ∷ tail_of n ∷ [];
      is = encode_three n l2 h;
      reads = read_three _ _ _ n rest (omega arith) (omega arith) (omega arith) (omega arith) ∙ taken 2 0x800 n l2 s;
    })
    (λ l3.
    let top : n ≤ 0x10FFFF = scalar_top n s in
    record {
      first = 0xF0 + n / 262144;
      behind = tail_of (n / 4096) ∷ tail_of (n / 64) ∷ tail_of n ∷ [];
      is = encode_four n l3;
      reads = read_four _ _ _ _ n rest (omega arith) (omega arith) (omega arith) (omega arith) (bits_four n top) ∙ taken 3 0x10000 n l3 s;
    })))

-- and every character that is read is so encoded
pub record Spelt (b : ℕ) (bs : List ℕ) (n m : ℕ) : Type 0 where
  pub point : scalar n ≡ true
  pub inside : m ≤ length bs
  pub same : b ∷ bs ≡ encode n ++ drop m bs

abbrev SpeltAs : ℕ → List ℕ → Char → Type 0
SpeltAs b bs (char n m) = Spelt b bs n m
SpeltAs b bs none = Unit

by_cond : (P : Char → Type 0) (t : Bool) (x y : Char) → (t ≡ true → P x) → (t ≡ false → P y) → P (cond t x y)
by_cond P true x y f g = f refl
by_cond P false x y f g = g refl

pub and_both : (s t : Bool) → (s && t) ≡ true → (s ≡ true) × (t ≡ true)
and_both true t e = (refl, e)
and_both false t e = cc

by_judged : (P : Char → Type 0) (more least n : ℕ) → (least ≤ n → scalar n ≡ true → P (char n more)) → P none → P (judged more least n)
unfolding judged
by_judged P more least n f g =
    by_cond P (leb least n && scalar n) (char n more) none
    (λ e. let h = and_both (leb least n) (scalar n) e in f (leb-true least n h.0) h.1) (λ e. g)

-- a byte behind the first, of its pattern or not
by_tail : (P : Char → Type 0) (b : ℕ) (x : Char) → (b / 64 ≡ 2 → P x) → P none → P (cond (eqb (b / 64) 2) x none)
by_tail P b x f g = by_cond P (eqb (b / 64) 2) x none (λ e. f (eqb-true (b / 64) 2 e)) (λ e. g)

same_two : (b x n : ℕ) (bs : List ℕ) → b / 32 ≡ 6 → x / 64 ≡ 2 → b % 32 * 64 + x % 64 ≡ n → 0x80 ≤ n → b ∷ x ∷ bs ≡ encode n ++ bs
same_two b x n bs hb hx e l =
    let eb : 0xC0 + n / 64 ≡ b = omega arith in
    let ex : 0x80 + n % 64 ≡ x = omega arith in
    rw (encode_two n l (omega arith), eb, ex)

same_three : (b x y n : ℕ) (bs : List ℕ) → b / 16 ≡ 14 → x / 64 ≡ 2 → y / 64 ≡ 2 → (b % 16 * 64 + x % 64) * 64 + y % 64 ≡ n → 0x800 ≤ n → b ∷ x ∷ y ∷ bs ≡ encode n ++ bs
same_three b x y n bs hb hx hy e l =
    let eb : 0xE0 + n / 4096 ≡ b = omega arith in
    let ex : 0x80 + n / 64 % 64 ≡ x = omega arith in
    let ey : 0x80 + n % 64 ≡ y = omega arith in
    rw (encode_three n l (omega arith), eb, ex, ey)

same_four : (b x y z n : ℕ) (bs : List ℕ) → b / 8 ≡ 30 → x / 64 ≡ 2 → y / 64 ≡ 2 → z / 64 ≡ 2 → ((b % 8 * 64 + x % 64) * 64 + y % 64) * 64 + z % 64 ≡ n → 0x10000 ≤ n → b ∷ x ∷ y ∷ z ∷ bs ≡ encode n ++ bs
same_four b x y z n bs hb hx hy hz e l =
    let eb : 0xF0 + n / 262144 ≡ b = omega arith in
    let ex : 0x80 + n / 4096 % 64 ≡ x = omega arith in
    let ey : 0x80 + n / 64 % 64 ≡ y = omega arith in
    let ez : 0x80 + n % 64 ≡ z = omega arith in
    rw (encode_four n l, eb, ex, ey, ez)

spelt_one : (b : ℕ) (bs : List ℕ) → b / 128 ≡ 0 → Spelt b bs b 0
spelt_one b bs h =
    record {
      point = scalar_is b (λ e. omega arith) (omega arith);
      inside = zero-le;
      same = rw (encode_one b (omega arith));
    }

spelt_two : (b : ℕ) (bs : List ℕ) → b / 32 ≡ 6 → SpeltAs b bs (tails 1 0x80 1 (b % 32) bs)
unfolding tails
spelt_two b [] h = tt
spelt_two b (x ∷ bs) h =
    by_tail (SpeltAs b (x ∷ bs)) x _
    (λ hx.
    by_judged (SpeltAs b (x ∷ bs)) 1 0x80 _
    (λ l s. record { point = s; inside = suc-le-suc zero-le; same = same_two b x _ bs h hx refl l }) tt) tt

spelt_three : (b : ℕ) (bs : List ℕ) → b / 16 ≡ 14 → SpeltAs b bs (tails 2 0x800 2 (b % 16) bs)
unfolding tails
spelt_three b [] h = tt
spelt_three b (x ∷ []) h = by_tail (SpeltAs b (x ∷ [])) x none (λ hx. tt) tt
spelt_three b (x ∷ y ∷ bs) h =
    let P : Char → Type 0 = SpeltAs b (x ∷ y ∷ bs) in
    by_tail P x _
    (λ hx.
    by_tail P y _
    (λ hy.
    by_judged P 2 0x800 _
    (λ l s. record { point = s; inside = suc-le-suc (suc-le-suc zero-le); same = same_three b x y _ bs h hx hy refl l }) tt) tt) tt

spelt_four : (b : ℕ) (bs : List ℕ) → b / 8 ≡ 30 → SpeltAs b bs (tails 3 0x10000 3 (b % 8) bs)
unfolding tails
spelt_four b [] h = tt
spelt_four b (x ∷ []) h = by_tail (SpeltAs b (x ∷ [])) x none (λ hx. tt) tt
spelt_four b (x ∷ y ∷ []) h =
    let P : Char → Type 0 = SpeltAs b (x ∷ y ∷ []) in
    by_tail P x _ (λ hx. by_tail P y none (λ hy. tt) tt) tt
spelt_four b (x ∷ y ∷ z ∷ bs) h =
    let P : Char → Type 0 = SpeltAs b (x ∷ y ∷ z ∷ bs) in
    by_tail P x _
    (λ hx.
    by_tail P y _
    (λ hy.
    by_tail P z _
    (λ hz.
    by_judged P 3 0x10000 _
    (λ l s.
    record { point = s; inside = suc-le-suc (suc-le-suc (suc-le-suc zero-le)); same = same_four b x y z _ bs h hx hy hz refl l }) tt) tt) tt) tt

spelt_any : (b : ℕ) (bs : List ℕ) → SpeltAs b bs (decode (b ∷ bs))
unfolding decode
spelt_any b bs =
    let P : Char → Type 0 = SpeltAs b bs in
    by_cond P (eqb (b / 128) 0) _ _ (λ e. spelt_one b bs (eqb-true _ _ e))
    (λ e1.
    by_cond P (eqb (b / 32) 6) _ _ (λ e. spelt_two b bs (eqb-true _ _ e))
    (λ e2.
    by_cond P (eqb (b / 16) 14) _ _ (λ e. spelt_three b bs (eqb-true _ _ e))
    (λ e3. by_cond P (eqb (b / 8) 30) _ none (λ e. spelt_four b bs (eqb-true _ _ e)) (λ e4. tt))))

-- what is read as a character is that character's encoding
pub spelt : (b : ℕ) (bs : List ℕ) (n m : ℕ) → decode (b ∷ bs) ≡ char n m → Spelt b bs n m
spelt b bs n m e = subst (SpeltAs b bs) e (spelt_any b bs)

-- each character number's encoding passes, whatever is behind it
pub encoded : (n : ℕ) (rest : List ℕ) → scalar n ≡ true → utf8 (encode n ++ rest) ≡ utf8 rest
encoded n rest s =
    let d = decoded n rest s in
    rw (d.is, utf8_char d.first (d.behind ++ rest) n (length d.behind) d.reads, drop_at d.behind rest (length d.behind) refl)

-- a row before anything
encodes_before : (ns : List ℕ) (b : List ℕ) → Scalars ns → utf8 (encodes ns ++ b) ≡ utf8 b
unfolding encodes Scalars
encodes_before [] b s = refl
encodes_before (n ∷ ns) b s = rw append_assoc (encoded n (encodes ns ++ b) s.0 ∙ encodes_before ns b s.1)

pub row_before : (a b : List ℕ) → Row a → utf8 (a ++ b) ≡ utf8 b
row_before a b r = rw r.spelt (encodes_before r.points b r.scalars)

-- a row of encodings passes
pub row_passes : (bs : List ℕ) → Row bs → utf8 bs ≡ true
unfolding utf8 past
row_passes bs r = ap utf8 (sym (append-nil bs)) ∙ row_before bs [] r

empty_row : Row []
unfolding encodes Scalars
empty_row = record { points = []; scalars = tt; spelt = refl }

longer_row : (n : ℕ) (bs cs : List ℕ) → scalar n ≡ true → bs ≡ encode n ++ cs → Row cs → Row bs
unfolding encodes Scalars
longer_row n bs cs s e r =
    record { points = n ∷ r.points; scalars = (s, r.scalars); spelt = e ∙ ap (λ (l : List ℕ). encode n ++ l) r.spelt }

first_row : (b : ℕ) (bs : List ℕ) → ((k : ℕ) → past bs k ≡ true → Row (drop k bs)) → (x : Char) → decode (b ∷ bs) ≡ x → onward (past bs) x ≡ true → Row (b ∷ bs)
first_row b bs rest none e p = cc
first_row b bs rest (char n m) e p =
    let t = spelt b bs n m e in
    longer_row n (b ∷ bs) (drop m bs) t.point t.same (rest m p)

past_row : (bs : List ℕ) (k : ℕ) → past bs k ≡ true → Row (drop k bs)
unfolding past
past_row [] k e = rw drop-nil empty_row
past_row (b ∷ bs) zero e = first_row b bs (past_row bs) (decode (b ∷ bs)) refl e
past_row (b ∷ bs) (suc k) e = past_row bs k e

-- and what passes is a row of encodings
pub passes_row : (bs : List ℕ) → utf8 bs ≡ true → Row bs
unfolding utf8
passes_row bs e = past_row bs 0 e

pub utf8_exact : (bs : List ℕ) → (utf8 bs ≡ true) ↔ Row bs
utf8_exact bs = (passes_row bs, row_passes bs)

-- what passes may be set before anything
pub utf8_append : (a b : List ℕ) → utf8 a ≡ true → utf8 (a ++ b) ≡ utf8 b
utf8_append a b e = row_before a b (passes_row a e)

-- reading an encoding gives its number and takes its bytes
pub decode_encode : (n : ℕ) (rest : List ℕ) → scalar n ≡ true → decode (encode n ++ rest) ≡ char n (length (encode n) - 1)
decode_encode n rest s =
    let d = decoded n rest s in
    let e : length d.behind ≡ suc (length d.behind) - 1 = omega arith in
    rw (d.is, d.reads) (ap (char n) e)

-- two character numbers never have one encoding, nor is one the beginning of another
pub encode_unique : (n k : ℕ) (a b : List ℕ) → scalar n ≡ true → scalar k ≡ true → encode n ++ a ≡ encode k ++ b → n ≡ k
encode_unique n k a b s t e =
    let f = decode_encode n a s in
    let g = decode_encode k b t in
    let h : decode (encode n ++ a) ≡ decode (encode k ++ b) = ap decode e in
    cc

no_bytes : (n : ℕ) (a : List ℕ) → scalar n ≡ true → encode n ++ a ≡ [] → ⊥
no_bytes n a s e =
    let d = decoded n a s in
    let f : ◌≡◌ {A = List ℕ} (d.first ∷ (d.behind ++ a)) [] = rw d.is at e in
    cc

-- bytes are a row of one list of character numbers only
pub row_unique : (ns ks : List ℕ) → Scalars ns → Scalars ks → encodes ns ≡ encodes ks → ns ≡ ks
unfolding encodes Scalars
row_unique [] [] s t e = refl
row_unique [] (k ∷ ks) s t e = absurd (no_bytes k (encodes ks) t.0 (sym e))
row_unique (n ∷ ns) [] s t e = absurd (no_bytes n (encodes ns) s.0 e)
row_unique (n ∷ ns) (k ∷ ks) s t e =
    let h : n ≡ k = encode_unique n k (encodes ns) (encodes ks) s.0 t.0 e in
    let f : encode n ++ encodes ns ≡ encode n ++ encodes ks = rw (← h) at e in
    ap₂ (λ (x : ℕ) (l : List ℕ). x ∷ l) h (row_unique ns ks s.1 t.1 (append_cancel_left (encode n) (encodes ns) (encodes ks) f))

-- bytes below 128 pass
pub ascii_first : (b : ℕ) (bs : List ℕ) → b < 128 → utf8 (b ∷ bs) ≡ utf8 bs
ascii_first b bs h = utf8_char b bs b 0 (lead_one b bs h)

pub ascii_passes : (bs : List ℕ) → ((i : ℕ) → i < length bs → get_or bs i 0 < 128) → utf8 bs ≡ true
unfolding utf8 past
ascii_passes [] f = refl
ascii_passes (b ∷ bs) f = ascii_first b bs (f 0 (suc-le-suc zero-le)) ∙ ascii_passes bs (λ i h. f (suc i) (suc-le-suc h))
