-- Both protocols' words give numbers in their ranges. Assumes nothing.
use mathlib.Core.Path.{◌≡◌, refl, sym, ap, subst, ◌∙◌}
use mathlib.Core.Bool.{Bool, true, false, cond}
use mathlib.Core.List.{List, [], ◌∷◌}
use Prim.Native.Nat.{ℕ, suc, ◌+◌, ◌-◌, ◌/◌, ◌%◌, ◌^◌, ◌≤◌, ◌<◌}
use native.Mathlib.Omega.{arith}
use borrow.Author.Tests.{leb-true, ltb-false}
use lib.Dec.{eqb, leb, ltb}
use lib.IntN.{ℤ, pos, negsuc, ◌+ℤ◌}
use lib.Signed.{lt_z}
use lib.ListN.{length, drop}
use mir.Syntax.{Width, w8, w16, w32, w64}
use mir.Val.{SFits, to_z, bits}
use mir.Facts.{sfits_to_z}
use Rattle.types.specs.Refusals.{FIELD_ID, NEGATIVE_SIZE, SIZE_LIMIT, BAD_VERSION, BAD_UTF8}
use Rattle.types.specs.Codes.{element_type, field_type, message_by_number}
use Rattle.types.specs.declared.TType.{TType}
use Rattle.types.specs.declared.TType.TheVariants as T
use Rattle.types.specs.declared.FieldType.{FieldType}
use Rattle.types.specs.declared.FieldType.TheVariants as F
use Rattle.types.specs.declared.TMessageType.{TMessageType}
use Rattle.types.specs.declared.TConfiguration.{TConfiguration}
use Rattle.types.specs.Value.{Bytes}
use Rattle.utf8.specs.Utf8.{utf8}
use Rattle.zigzag.specs.Zigzag.{unzigzag}
use Rattle.zigzag.proofs.Zig.{half_lt, fits_range}
use Rattle.numbers.specs.Varint.{got, placed, varint}
use Rattle.numbers.specs.Fixed.{little}
use Rattle.numbers.proofs.Found as num
use Rattle.numbers.proofs.Fixed.{little_below}
use Rattle.heads.specs.Reader.{done, refuse, and_then, byte, some}
use Rattle.heads.specs.Heads.{int8, number32, number64, int16, int32, int64, double, uuid, binary, text, typed, counted, listed, items, mapped, pairs, field_id, of_type, Field, stop, bool, value, field, Message, message_typed, named, versioned, message}
use Rattle.heads.proofs.Lawful.{not_both, Both}
use Rattle.heads.proofs.Readers.{was16, was32}
use Rattle.big_endian.specs.Big.{big}
use Rattle.big_endian.proofs.Big.{big_below}
use Rattle.binary_codes.specs.Codes.{by_binary_code}
use Rattle.protocols.specs.Words as words
use Rattle.binary_heads.specs.Heads as bin
use Rattle.binary_heads.specs.Words as binary-words
use Rattle.transcode.proofs.Ranges.{by_place, later_bytes, parts, is_done, passed, some_part, counted_few, listed_few, no_refuse, IdFits, Ranges}

-- the compact protocol's: numbers
int8_fits : (bs : List ℕ) (z : ℤ) (n : ℕ) → int8 bs ≡ got z n → Bytes bs → SFits w8 z
unfolding int8 and_then byte done Bytes
int8_fits [] z n e h = not_both e
int8_fits (b ∷ bs) z n e h = let q : to_z w8 b ≡ z = cc in subst (SFits w8) q (sfits_to_z (record { fits = h.0 }))

unzigzag_fits : (w : Width) (n : ℕ) → n < 2 ^ bits w → SFits w (unzigzag n)
unzigzag_fits w n h = go (eqb (n % 2) 0)
  where
    go : (b : Bool) → SFits w (cond b (pos (n / 2)) (negsuc (n / 2)))
    go true = record { sfits = half_lt w h }
    go false = record { sfits = half_lt w h }

small : (w k : ℕ) (bs : List ℕ) (v n : ℕ) → varint w k bs ≡ got v n → v < 2 ^ w
small w k bs v n e = (num.within w k bs 0 v n (ap (placed 0) e ∙ ap (got v) (omega arith))).small

int32_fits : (bs : List ℕ) (z : ℤ) (n : ℕ) → int32 bs ≡ got z n → SFits w32 z
unfolding number32
int32_fits bs z n e = let u = was32 bs z n e in subst (SFits w32) (sym u.is) (unzigzag_fits w32 u.value (small 32 5 bs u.value n u.read))

int64_fits : (bs : List ℕ) (z : ℤ) (n : ℕ) → int64 bs ≡ got z n → SFits w64 z
unfolding int64 number64
int64_fits bs z n e =
    let f = parts number64 _ bs z n e in
    subst (SFits w64) (is_done (unzigzag f.one) z _ _ f.second) (unzigzag_fits w64 f.one (small 64 10 bs f.one f.used f.first))

int16_fits : (bs : List ℕ) (z : ℤ) (n : ℕ) → int16 bs ≡ got z n → SFits w16 z
int16_fits bs z n e = fits_range z (was16 bs z n e).1

double_fits : (bs : List ℕ) (v n : ℕ) → double bs ≡ got v n → Bytes bs → v < 2 ^ 64
unfolding double
double_fits bs v n e h =
    let f = parts (some 8) _ bs v n e in
    let p = some_part 8 bs f.one f.used f.first in
    let q : little f.one ≡ v = is_done (little f.one) v _ _ f.second in
    let below = little_below f.one (by_place f.one (p.bytes h)) in
    let w : 256 ^ length f.one ≡ 2 ^ 64 = ap (λ (m : ℕ). 256 ^ m) p.long in
    omega arith

uuid_part_lem : (bs u : List ℕ) (n : ℕ) → uuid bs ≡ got u n → Bytes bs → (length u ≡ 16) × Bytes u
unfolding uuid
uuid_part_lem bs u n e h = let p = some_part 16 bs u n e in (p.long, p.bytes h)

binary_part : (lim : TConfiguration) (bs cs : List ℕ) (n : ℕ) → binary lim bs ≡ got cs n → Bytes bs → (length cs ≤ lim.string) × Bytes cs
unfolding binary
binary_part lim bs cs n e h =
    let f = parts number32 _ bs cs n e in
    let g = passed (leb f.one lim.string) SIZE_LIMIT (some f.one) (drop f.used bs) cs f.more f.second in
    let p = some_part f.one (drop f.used bs) cs f.more g.1 in
    (omega (arith, p.long, leb-true f.one lim.string g.0), p.bytes (later_bytes f.used bs h))

items_few : (lim : TConfiguration) (bs : List ℕ) (x : TType × ℕ) (n : ℕ) → items lim bs ≡ got x n → x.1 ≤ lim.container
unfolding items
items_few lim bs x n e =
    let f = parts byte _ bs x n e in
    let g = parts (typed (element_type (f.one % 16))) _ (drop f.used bs) x f.more f.second in
    let h = parts (cond (ltb (f.one / 16) 15) (done (f.one / 16)) number32) (listed lim g.one) (drop g.used (drop f.used bs)) x g.more g.second in
    listed_few lim g.one h.one _ x h.more h.second

abbrev Pairwise : Type 0
Pairwise = TType × TType × ℕ

mapped_few : (lim : TConfiguration) (n : ℕ) (bs : List ℕ) (x : Pairwise) (m : ℕ) → mapped lim n bs ≡ got x m → x.2 ≤ lim.container
unfolding mapped
mapped_few lim n bs x m e =
    let f = parts byte _ bs x m e in
    let g = parts (typed (element_type (f.one / 16))) _ _ x f.more f.second in
    let h = parts (typed (element_type (f.one % 16))) _ _ x g.more g.second in
    let i = parts (counted lim n) _ _ x h.more h.second in
    let q : (g.one, h.one, i.one) ≡ x = is_done {A = TType × TType × ℕ} (g.one, h.one, i.one) x _ _ i.second in
    subst (λ (y : TType × TType × ℕ). y.2 ≤ lim.container) q (counted_few lim n _ i.one i.used i.first)

pairs_few : (lim : TConfiguration) (bs : List ℕ) (x : Pairwise) (n : ℕ) → pairs lim bs ≡ got x n → x.2 ≤ lim.container
unfolding pairs
pairs_few lim bs x n e = let f = parts number32 _ bs x n e in go f (eqb f.one 0) f.second
  where
    go : (f : Both (number32 bs) (λ m. cond (eqb m 0) (done (T.Stop, T.Stop, 0)) (mapped lim m)) bs x n) (b : Bool) → cond b (done (T.Stop, T.Stop, 0)) (mapped lim f.one) (drop f.used bs) ≡ got x f.more → x.2 ≤ lim.container
    go f true g = subst (λ (y : TType × TType × ℕ). y.2 ≤ lim.container) (is_done {A = TType × TType × ℕ} (T.Stop, T.Stop, 0) x _ _ g) (omega arith)
    go f false g = mapped_few lim f.one (drop f.used bs) x f.more g

-- a field's id
above_last : (last : ℤ) (d : ℕ) → SFits w16 last → lt_z (pos 32767) (last +ℤ pos d) ≡ false → SFits w16 (last +ℤ pos d)
above_last (pos a) d h e = record { sfits = omega (arith, ltb-false 32767 (a + d) e) }
above_last (negsuc a) d h e = go (ltb d (suc a)) e
  where
    go : (b : Bool) → lt_z (pos 32767) (cond b (negsuc (suc a - suc d)) (pos (d - suc a))) ≡ false → SFits w16 (cond b (negsuc (suc a - suc d)) (pos (d - suc a)))
    go true f = record { sfits = omega (arith, h.sfits) }
    go false f = record { sfits = omega (arith, ltb-false 32767 (d - suc a) f) }

id_fits : (last : ℤ) (delta : ℕ) (bs : List ℕ) (id : ℤ) (n : ℕ) → SFits w16 last → field_id last delta bs ≡ got id n → SFits w16 id
unfolding field_id refuse
id_fits last delta bs id n h e = go (eqb delta 0) e
  where
    within : (b : Bool) → lt_z (pos 32767) (last +ℤ pos delta) ≡ b → cond b (refuse FIELD_ID) (done (last +ℤ pos delta)) bs ≡ got id n → SFits w16 id
    within true f g = not_both g
    within false f g = subst (SFits w16) (is_done (last +ℤ pos delta) id bs n g) (above_last last delta h f)

    go : (b : Bool) → cond b int16 (cond (lt_z (pos 32767) (last +ℤ pos delta)) (refuse FIELD_ID) (done (last +ℤ pos delta))) bs ≡ got id n → SFits w16 id
    go true g = int16_fits bs id n g
    go false g = within (lt_z (pos 32767) (last +ℤ pos delta)) refl g

pub field_fits : (last : ℤ) → SFits w16 last → (bs : List ℕ) (x : Field) (n : ℕ) → field last bs ≡ got x n → IdFits x
unfolding field
field_fits last h bs x n e = let f = parts byte _ bs x n e in go (f.one / 16) (field_type (f.one % 16)) (drop f.used bs) f.more f.second
  where
    go : (delta : ℕ) (t : FieldType) (cs : List ℕ) (m : ℕ) → of_type last delta t cs ≡ got x m → IdFits x
    go delta F.Stop cs m g = subst IdFits (is_done stop x cs m g) tt
    go delta (F.Truth b) cs m g =
        let f = parts (field_id last delta) _ cs x m g in
        subst IdFits (is_done (bool b f.one) x _ _ f.second) (id_fits last delta cs f.one f.used h f.first)
    go delta (F.Kind t) cs m g =
        let f = parts (field_id last delta) _ cs x m g in
        subst IdFits (is_done (value t f.one) x _ _ f.second) (id_fits last delta cs f.one f.used h f.first)
    go delta (F.Refused why) cs m g = no_refuse why cs x m g

-- a message's name, and its sequence number
text_part : (lim : TConfiguration) (bs cs : List ℕ) (n : ℕ) → text lim bs ≡ got cs n → Bytes bs → (length cs ≤ lim.string) × (utf8 cs ≡ true)
unfolding text
text_part lim bs cs n e h =
    let f = parts (binary lim) _ bs cs n e in
    let g = passed (utf8 f.one) BAD_UTF8 (done f.one) _ cs f.more f.second in
    let q : f.one ≡ cs = is_done f.one cs _ _ g.1 in
    (subst (λ (x : List ℕ). length x ≤ lim.string) q (binary_part lim bs f.one f.used f.first h).0, subst (λ (x : List ℕ). utf8 x ≡ true) q g.0)

abbrev pub Heading : TConfiguration → Message → Type 0
Heading lim x = SFits w32 x.1 × (length x.2 ≤ lim.string) × (utf8 x.2 ≡ true)

named_part : (lim : TConfiguration) (m : TMessageType) (bs : List ℕ) (x : Message) (n : ℕ) → named lim m bs ≡ got x n → Bytes bs → Heading lim x
unfolding named number32
named_part lim m bs x n e h =
    let f = parts (varint 32 5) _ bs x n e in
    let g = parts (text lim) _ _ x f.more f.second in
    let t = text_part lim _ g.one g.used g.first (later_bytes f.used bs h) in
    let q : (m, to_z w32 f.one, g.one) ≡ x = is_done {A = Message} (m, to_z w32 f.one, g.one) x _ _ g.second in
    subst (Heading lim) q (sfits_to_z (record { fits = small 32 5 bs f.one f.used f.first }), t.0, t.1)

message_part : (lim : TConfiguration) (bs : List ℕ) (x : Message) (n : ℕ) → message lim bs ≡ got x n → Bytes bs → Heading lim x
unfolding message versioned
message_part lim bs x n e h =
    let f = parts byte _ bs x n e in
    let g = passed _ BAD_VERSION _ _ x f.more f.second in
    let i = parts byte _ _ x f.more g.1 in
    let j = passed _ BAD_VERSION _ _ x i.more i.second in
    let k = parts (message_typed (message_by_number (i.one / 32))) (named lim) _ x i.more j.1 in
    named_part lim k.one _ x k.more k.second (later_bytes k.used _ (later_bytes i.used _ (later_bytes f.used bs h)))

pub compact_ranges : Ranges words.compact
compact_ranges =
    record {
      int8 = int8_fits;
      int16 = λ bs z n e h. int16_fits bs z n e;
      int32 = λ bs z n e h. int32_fits bs z n e;
      int64 = λ bs z n e h. int64_fits bs z n e;
      double = double_fits;
      uuid = uuid_part_lem;
      binary = binary_part;
      items = items_few;
      pairs = pairs_few;
      field = λ last l bs x n e h. field_fits last l bs x n e;
      message = message_part;
    }

-- the binary protocol's: a number of k bytes
number_below : (k : ℕ) (bs : List ℕ) (v n : ℕ) → bin.number k bs ≡ got v n → Bytes bs → v < 256 ^ k
unfolding bin.number
number_below k bs v n e h =
    let f = parts (some k) _ bs v n e in
    let p = some_part k bs f.one f.used f.first in
    let q : big f.one ≡ v = is_done (big f.one) v _ _ f.second in
    subst (λ (m : ℕ). m < 256 ^ k) q (subst (λ (m : ℕ). big f.one < 256 ^ m) p.long (big_below f.one (by_place f.one (p.bytes h))))

int16_bin : (bs : List ℕ) (z : ℤ) (n : ℕ) → bin.int16 bs ≡ got z n → Bytes bs → SFits w16 z
unfolding bin.int16
int16_bin bs z n e h =
    let f = parts (bin.number 2) _ bs z n e in
    subst (SFits w16) (is_done (to_z w16 f.one) z _ _ f.second) (sfits_to_z (record { fits = number_below 2 bs f.one f.used f.first h }))

int32_bin : (bs : List ℕ) (z : ℤ) (n : ℕ) → bin.int32 bs ≡ got z n → Bytes bs → SFits w32 z
unfolding bin.int32
int32_bin bs z n e h =
    let f = parts (bin.number 4) _ bs z n e in
    subst (SFits w32) (is_done (to_z w32 f.one) z _ _ f.second) (sfits_to_z (record { fits = number_below 4 bs f.one f.used f.first h }))

int64_bin : (bs : List ℕ) (z : ℤ) (n : ℕ) → bin.int64 bs ≡ got z n → Bytes bs → SFits w64 z
unfolding bin.int64
int64_bin bs z n e h =
    let f = parts (bin.number 8) _ bs z n e in
    subst (SFits w64) (is_done (to_z w64 f.one) z _ _ f.second) (sfits_to_z (record { fits = number_below 8 bs f.one f.used f.first h }))

double_bin : (bs : List ℕ) (v n : ℕ) → bin.double bs ≡ got v n → Bytes bs → v < 2 ^ 64
unfolding bin.double
double_bin bs v n e h = number_below 8 bs v n e h

binary_bin : (lim : TConfiguration) (bs cs : List ℕ) (n : ℕ) → bin.binary lim bs ≡ got cs n → Bytes bs → (length cs ≤ lim.string) × Bytes cs
unfolding bin.binary bin.sized
binary_bin lim bs cs n e h =
    let f = parts (bin.number 4) _ bs cs n e in
    let i = passed (leb f.one 2147483647) NEGATIVE_SIZE _ (drop f.used bs) cs f.more f.second in
    let g = passed (leb f.one lim.string) SIZE_LIMIT (some f.one) (drop f.used bs) cs f.more i.1 in
    let p = some_part f.one (drop f.used bs) cs f.more g.1 in
    (omega (arith, p.long, leb-true f.one lim.string g.0), p.bytes (later_bytes f.used bs h))

items_bin : (lim : TConfiguration) (bs : List ℕ) (x : TType × ℕ) (n : ℕ) → bin.items lim bs ≡ got x n → x.1 ≤ lim.container
unfolding bin.items
items_bin lim bs x n e =
    let f = parts bin.kind _ bs x n e in
    let g = parts (bin.number 4) (listed lim f.one) _ x f.more f.second in
    listed_few lim f.one g.one _ x g.more g.second

pairs_bin : (lim : TConfiguration) (bs : List ℕ) (x : TType × TType × ℕ) (n : ℕ) → bin.pairs lim bs ≡ got x n → x.2 ≤ lim.container
unfolding bin.pairs bin.paired
pairs_bin lim bs x n e =
    let f = parts bin.kind _ bs x n e in
    let g = parts bin.kind _ _ x f.more f.second in
    let h = parts (bin.number 4) _ _ x g.more g.second in
    let i = parts (counted lim h.one) _ _ x h.more h.second in
    let q : (f.one, g.one, i.one) ≡ x = is_done {A = TType × TType × ℕ} (f.one, g.one, i.one) x _ _ i.second in
    subst (λ (y : TType × TType × ℕ). y.2 ≤ lim.container) q (counted_few lim h.one _ i.one i.used i.first)

field_bin : (bs : List ℕ) (x : Field) (n : ℕ) → bin.field bs ≡ got x n → Bytes bs → IdFits x
unfolding bin.field
field_bin bs x n e h = let f = parts byte _ bs x n e in go f.one (eqb f.one 0) (drop f.used bs) f.more (later_bytes f.used bs h) f.second
  where
    go : (c : ℕ) (b : Bool) (cs : List ℕ) (m : ℕ) → Bytes cs → cond b (done stop) (and_then (typed (by_binary_code c)) (λ t. and_then bin.int16 (λ id. done (value t id)))) cs ≡ got x m → IdFits x
    go c true cs m k g = subst IdFits (is_done stop x cs m g) tt
    go c false cs m k g =
        let i = parts (typed (by_binary_code c)) _ cs x m g in
        let j = parts bin.int16 _ (drop i.used cs) x i.more i.second in
        subst IdFits (is_done (value i.one j.one) x _ _ j.second) (int16_bin _ j.one j.used j.first (later_bytes i.used cs k))

text_bin : (lim : TConfiguration) (bs cs : List ℕ) (n : ℕ) → bin.text lim bs ≡ got cs n → Bytes bs → (length cs ≤ lim.string) × (utf8 cs ≡ true)
unfolding bin.text
text_bin lim bs cs n e h =
    let f = parts (bin.binary lim) _ bs cs n e in
    let g = passed (utf8 f.one) BAD_UTF8 (done f.one) _ cs f.more f.second in
    let q : f.one ≡ cs = is_done f.one cs _ _ g.1 in
    (subst (λ (x : List ℕ). length x ≤ lim.string) q (binary_bin lim bs f.one f.used f.first h).0, subst (λ (x : List ℕ). utf8 x ≡ true) q g.0)

message_bin : (lim : TConfiguration) (bs : List ℕ) (x : Message) (n : ℕ) → bin.message lim bs ≡ got x n → Bytes bs → Heading lim x
unfolding bin.message bin.named bin.sequenced
message_bin lim bs x n e h =
    let f = parts (bin.number 4) _ bs x n e in
    let g = passed _ BAD_VERSION _ _ x f.more f.second in
    let k = parts (message_typed (message_by_number (f.one % 256))) (bin.named lim) _ x f.more g.1 in
    let i = parts (bin.text lim) (bin.sequenced k.one) _ x k.more k.second in
    let here = later_bytes k.used _ (later_bytes f.used bs h) in
    let t = text_bin lim _ i.one i.used i.first here in
    let j = parts (bin.number 4) _ _ x i.more i.second in
    let q : (k.one, to_z w32 j.one, i.one) ≡ x = is_done {A = Message} (k.one, to_z w32 j.one, i.one) x _ _ j.second in
    subst (Heading lim) q (sfits_to_z (record { fits = number_below 4 _ j.one j.used j.first (later_bytes i.used _ here) }), t.0, t.1)

pub binary_ranges : Ranges binary-words.binary
binary_ranges =
    record {
      int8 = int8_fits;
      int16 = int16_bin;
      int32 = int32_bin;
      int64 = int64_bin;
      double = double_bin;
      uuid = uuid_part_lem;
      binary = binary_bin;
      items = items_bin;
      pairs = pairs_bin;
      field = λ last l bs x n e h. field_bin bs x n e h;
      message = message_bin;
    }
