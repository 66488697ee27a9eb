-- The printing program's room is always enough: every line is paid for by the bytes that were read before it. Assumes nothing.
use mathlib.Core.Path.{◌≡◌, refl, sym, ap, ap₂, ◌∙◌}
use mathlib.Core.Bool.{Bool, true, false, cond}
use mathlib.Core.List.{List, [], ◌∷◌, ◌++◌, append-nil}
use Prim.Native.Nat.{ℕ, zero, suc, ◌+◌, ◌-◌, ◌*◌, ◌/◌, ◌%◌, ◌≤◌, ◌<◌}
use native.Mathlib.Nat.{add-zero}
use native.Mathlib.Numerals.{add-one}
use native.Mathlib.Omega.{arith}
use borrow.Author.Tests.{lt-ltb, le-ltb, ltb-false}
use lib.Dec.{ltb, eqb}
use lib.IntN.{ℤ, pos, negsuc}
use lib.ListN.{length, drop, set, length-set, length-append, length-drop}
use lib.Seq.{sets}
use Rattle.types.specs.Refusals.{END, NO_ROOM, BAD_TYPE, DEPTH}
use Rattle.types.specs.Codes.{message_code}
use Rattle.types.specs.declared.TType.{TType}
use Rattle.types.specs.declared.TType.TheVariants as T
use Rattle.types.specs.declared.TConfiguration.{TConfiguration}
use Rattle.types.specs.Value as val
use Rattle.types.specs.Value.{Tree, Trees, no_trees, tree, Pairs, no_pairs, Fields, no_fields}
use Rattle.numbers.specs.Varint.{Found, got, refused, placed}
use Rattle.heads.specs.Reader.{Reader, done, refuse, read_at}
use Rattle.heads.specs.Heads as heads
use Rattle.heads.specs.Heads.{int8, int16, int32, int64, double, uuid, truth, binary, items_head, pairs_head, Field}
use Rattle.heads.proofs.Lawful.{Lawful, Takes}
use Rattle.heads.proofs.Ahead.{Fair, lawful_fair, items_head_fair, items_head_takes, pairs_head_fair, pairs_head_takes}
use Rattle.heads.proofs.Readers.{int8_lawful, int8_takes, int16_lawful, int16_takes, int32_lawful, int32_takes, int64_lawful, int64_takes, double_lawful, double_takes, uuid_lawful, uuid_takes, truth_lawful, truth_takes, binary_lawful, binary_takes, field_lawful, field_takes, message_lawful, message_takes}
use Rattle.scalars.specs.Scalars.{bits_of}
use Rattle.scalars.specs.declared.Scalar.{Scalar}
use Rattle.scalars.specs.declared.Scalar.TheVariants as S
use Rattle.text.specs.Pen.{Pen, dot, inked}
use Rattle.text.specs.Words.{ascii, digit, digits, decimal, signed, hex_digit, hex, hexes, type_name, truth_name}
use Rattle.lines.specs.Lines as row
use Rattle.lines.specs.Lines.{Item, line, lines, scalar_text, spaced_type, spaced_int, last_number, last_bytes}
use Rattle.printer.specs.Telling.{Told, Teller, quiet, aloud, onward_t, then_tell, making, provided_t, voiced}
use Rattle.printer.specs.Value.{row_told, pair_told, add_pair, items_told, map_told, behind_told, walk_told, fields_told, struct_told, Boxes, shut_told, roomy_told, shaped_told, value_told}
use Rattle.printer.specs.Printing.{message_told, limits, ending, whole, report, text_of, written, print_call}
use Rattle.printer.specs.declared.Text.TheVariants as X
use Rattle.printer.proofs.Prints.{lines_append}
use Rattle.heads.proofs.Tails.{binary_tail, uuid_tail, message_tail}

-- how long the pieces of a line are
digits_length : (k n : ℕ) → length (digits k n) ≤ suc k
digits_length zero n = omega arith
digits_length (suc k) n = go (ltb n 10) (digits_length k (n / 10))
  where
    go : (b : Bool) → length (digits k (n / 10)) ≤ suc k → length (cond b (digit n ∷ []) (digits k (n / 10) ++ (digit (n % 10) ∷ []))) ≤ suc (suc k)
    go true h = omega arith
    go false h = omega (arith, length-append (digits k (n / 10)) (digit (n % 10) ∷ []))

decimal_length : (n : ℕ) → length (decimal n) ≤ 20
unfolding decimal
decimal_length n = digits_length 19 n

signed_length : (z : ℤ) → length (signed z) ≤ 21
unfolding signed
signed_length (pos n) = omega (arith, decimal_length n)
signed_length (negsuc n) = omega (arith, decimal_length (n + 1))

hex_length : (k n : ℕ) → length (hex k n) ≡ k
unfolding hex
hex_length zero n = refl
hex_length (suc k) n = omega (arith, length-append (hex k (n / 16)) (hex_digit (n % 16) ∷ []), hex_length k (n / 16))

hexes_length : (bs : List ℕ) → length (hexes bs) ≡ 2 * length bs
unfolding hexes
hexes_length [] = refl
hexes_length (b ∷ bs) = omega (arith, length-append (hex 2 b) (hexes bs), hex_length 2 b, hexes_length bs)

type_length : (t : TType) → length (type_name t) ≤ 6
unfolding type_name
type_length T.Stop = omega arith
type_length T.Bool = omega arith
type_length T.I08 = omega arith
type_length T.I16 = omega arith
type_length T.I32 = omega arith
type_length T.I64 = omega arith
type_length T.Double = omega arith
type_length T.String = omega arith
type_length T.List = omega arith
type_length T.Set = omega arith
type_length T.Map = omega arith
type_length T.Struct = omega arith
type_length T.Uuid = omega arith

scalar_length : (v : Scalar) → length (scalar_text v) ≤ 21
unfolding scalar_text truth_name
scalar_length (S.Bool true) = omega arith
scalar_length (S.Bool false) = omega arith
scalar_length (S.Int z) = signed_length z
scalar_length (S.Double x) = omega (arith, hex_length 16 (bits_of (S.Double x)))
scalar_length (S.NotANumber n) = omega (arith, hex_length 16 n)

spaced_type_lem : (t : TType) → length (spaced_type t) ≤ 7
unfolding spaced_type
spaced_type_lem t = omega (arith, type_length t)

spaced_int_lem : (z : ℤ) → length (spaced_int z) ≤ 22
unfolding spaced_int
spaced_int_lem z = omega (arith, signed_length z)

last_number_lem : (n : ℕ) → length (last_number n) ≤ 22
unfolding last_number
last_number_lem n = omega (arith, length-append (decimal n) (ascii "\n"), decimal_length n)

last_bytes_lem : (bs : List ℕ) → length (last_bytes bs) ≡ 2 + 2 * length bs
unfolding last_bytes
last_bytes_lem bs = omega (arith, length-append (hexes bs) (ascii "\n"), hexes_length bs)

-- and the lines
field_line : (id : ℤ) (t : TType) → length (line (row.field id t)) ≤ 35
unfolding line
field_line id t =
    omega (arith, length-append (signed id) (spaced_type t ++ ascii "\n"), length-append (spaced_type t) (ascii "\n"), signed_length id, spaced_type_lem t)

items_line : (whole t : TType) (n : ℕ) → length (line (row.items whole t n)) ≤ 35
unfolding line
items_line whole t n =
    omega (arith, length-append (type_name whole) (spaced_type t ++ last_number n), length-append (spaced_type t) (last_number n), type_length whole, spaced_type_lem t, last_number_lem n)

map_line : (k v : TType) (n : ℕ) → length (line (row.map k v n)) ≤ 39
unfolding line
map_line k v n = go (eqb n 0)
  where
    go : (b : Bool) → length (cond b (ascii "map 0\n") (ascii "map" ++ (spaced_type k ++ (spaced_type v ++ last_number n)))) ≤ 39
    go true = omega arith
    go false =
        omega (arith, length-append (spaced_type k) (spaced_type v ++ last_number n), length-append (spaced_type v) (last_number n), spaced_type_lem k, spaced_type_lem v, last_number_lem n)

scalar_line : (v : Scalar) → length (line (row.scalar v)) ≤ 22
unfolding line
scalar_line v = omega (arith, length-append (scalar_text v) (ascii "\n"), scalar_length v)

part_line : (bs : List ℕ) → length (line (row.part bs)) ≡ 2 + 2 * length bs
unfolding line
part_line bs = last_bytes_lem bs

message_line_lem : (m : heads.Message) → length (line (row.message m.0 m.1 m.2)) ≤ 53 + 2 * length m.2
unfolding line
message_line_lem m =
    omega (arith, length-append (decimal (message_code m.0)) (spaced_int m.1 ++ (ascii " " ++ last_bytes m.2)), length-append (spaced_int m.1) (ascii " " ++ last_bytes m.2), decimal_length (message_code m.0), spaced_int_lem m.1, last_bytes_lem m.2)

ending_line : (len : ℕ) (x : Found Tree) → length (line (ending len x)) ≤ 46
unfolding line
ending_line len (got a n) = omega (arith, length-append (decimal n) (last_number (len - n)), decimal_length n, last_number_lem (len - n))
ending_line len (refused why) = omega (arith, length-append (decimal why) (ascii "\n"), decimal_length why)

pub struct_line_lem : length (line row.struct) ≡ 7
unfolding line
struct_line_lem = refl

stop_line : length (line row.stop) ≡ 5
unfolding line
stop_line = refl

nothing : length (lines []) ≡ 0
unfolding lines
nothing = refl

more : (i : Item) (is : List Item) → length (lines (i ∷ is)) ≡ length (line i) + length (lines is)
unfolding lines
more i is = length-append (line i) (lines is)

abbrev pen : List ℕ → ℕ → Pen
pen o n = (o, n)

-- what a telling of these bytes costs: 57 bytes of text for a byte read, less what is saved and with what is owed; where it is refused, c more than for
-- all the bytes that there are
abbrev pub Cost : {A : Type 0} → ℕ → ℕ → ℕ → ℕ → ℕ → Found A → Type 0
Cost saved owed c len w (got a n) = (w + saved ≤ 57 * n + owed) × (n ≤ len)
Cost saved owed c len w (refused why) = w ≤ 57 * len + c + owed

abbrev pub weight : {A : Type 0} → Told A → ℕ
weight t = length (lines t.items)

pub record Thrifty {A : Type 0} (t : Teller A) (saved owed c : ℕ) : Type 0 where
  pub cost : (bs : List ℕ) → Cost saved owed c (length bs) (weight (t bs)) (t bs).found

weaker : {A : Type 0} (t : Teller A) (s o c o' c' : ℕ) → o ≤ o' → c ≤ c' → Thrifty t s o c → Thrifty t s o' c'
weaker {A} t s o c o' c' i j h = record { cost = λ bs. go bs (t bs).found (h.cost bs) }
  where
    go : (bs : List ℕ) (x : Found A) → Cost s o c (length bs) (weight (t bs)) x → Cost s o' c' (length bs) (weight (t bs)) x
    go bs (got a n) p = (omega (arith, p.0), p.1)
    go bs (refused why) p = omega (arith, p)

-- both, one behind the other: the first owes nothing, and pays for what the second owes
joined : {B : Type 0} (s o c n : ℕ) (is js : List Item) (bs : List ℕ) (z : Found B) → length (lines is) + o ≤ 57 * n → n ≤ length bs → Cost s o c (length (drop n bs)) (length (lines js)) z → Cost s 0 c (length bs) (length (lines (is ++ js))) (placed n z)
joined s o c n is js bs (got b m) p q r =
    let l = ap length (lines_append is js) ∙ length-append (lines is) (lines js) in
    (omega (arith, l, p, r.0), omega (arith, q, r.1, length-drop n bs))
joined s o c n is js bs (refused why) p q r =
    let l = ap length (lines_append is js) ∙ length-append (lines is) (lines js) in
    omega (arith, l, p, q, r, length-drop n bs)

then_thrifty : {A B : Type 0} (t : Teller A) (k : A → Teller B) (s c : ℕ) → Thrifty t 0 0 c → ((a : A) → Thrifty (k a) s 0 c) → Thrifty (then_tell t k) s 0 c
unfolding then_tell
then_thrifty {A} {B} t k s c h i = record { cost = λ bs. go bs (t bs).found (h.cost bs) }
  where
    go : (bs : List ℕ) (x : Found A) → Cost 0 0 c (length bs) (weight (t bs)) x → Cost s 0 c (length bs) (weight (onward_t k bs (t bs).items x)) (onward_t k bs (t bs).items x).found
    go bs (got a n) p = joined s 0 c n (t bs).items (k a (drop n bs)).items bs (k a (drop n bs)).found (omega (arith, p.0)) p.1 ((i a).cost (drop n bs))
    go bs (refused why) p = p

-- a header pays for what is owed behind it
head_thrifty : {A B : Type 0} (p : Reader A) (k : A → Teller B) (owed : A → ℕ) (s c : ℕ) → Fair p → ((bs : List ℕ) (a : A) (n : ℕ) → p bs ≡ got a n → owed a ≤ 57 * n) → ((a : A) → Thrifty (k a) s (owed a) c) → Thrifty (then_tell (quiet p) k) s 0 c
unfolding then_tell quiet
head_thrifty {A} {B} p k owed s c l h i = record { cost = λ bs. go bs (p bs) refl }
  where
    go : (bs : List ℕ) (x : Found A) → p bs ≡ x → Cost s 0 c (length bs) (weight (onward_t k bs [] x)) (onward_t k bs [] x).found
    go bs (got a n) e = joined s (owed a) c n [] (k a (drop n bs)).items bs (k a (drop n bs)).found (omega (arith, h bs a n e, nothing)) (l.ends bs a n e) ((i a).cost (drop n bs))
    go bs (refused why) e = omega (arith, nothing)

aloud_thrifty : {A : Type 0} (i : Item) (t : Teller A) (s o c w : ℕ) → length (line i) ≤ w → Thrifty t s o c → Thrifty (aloud i t) s (w + o) c
unfolding aloud
aloud_thrifty {A} i t s o c w l h = record { cost = λ bs. go bs (t bs).found (h.cost bs) }
  where
    go : (bs : List ℕ) (x : Found A) → Cost s o c (length bs) (weight (t bs)) x → Cost s (w + o) c (length bs) (length (lines (i ∷ (t bs).items))) x
    go bs (got a n) p = (omega (arith, p.0, l, more i (t bs).items), p.1)
    go bs (refused why) p = omega (arith, p, l, more i (t bs).items)

done_thrifty : {A : Type 0} (a : A) (c : ℕ) → Thrifty (quiet (done a)) 0 0 c
unfolding quiet done
done_thrifty a c = record { cost = λ bs. (omega (arith, nothing), omega arith) }

refuse_thrifty : (A : Type 0) (why s c : ℕ) → Thrifty (quiet (refuse {A = A} why)) s 0 c
unfolding quiet refuse
refuse_thrifty A why s c = record { cost = λ bs. omega (arith, nothing) }

making_thrifty : {A B : Type 0} (t : Teller A) (g : A → B) (s c : ℕ) → Thrifty t s 0 c → Thrifty (making t g) s 0 c
unfolding then_tell quiet done
making_thrifty {A} {B} t g s c h = record { cost = λ bs. go bs (t bs).found (h.cost bs) }
  where
    go : (bs : List ℕ) (x : Found A) → Cost s 0 c (length bs) (weight (t bs)) x → Cost s 0 c (length bs) (weight (onward_t (λ a. quiet (done (g a))) bs (t bs).items x)) (onward_t (λ a. quiet (done (g a))) bs (t bs).items x).found
    go bs (got a n) p =
        let l = ap (λ (is : List Item). length (lines is)) (append-nil (t bs).items) in
        (omega (arith, l, p.0), omega (arith, p.1))
    go bs (refused why) p = p

provided_thrifty : {A : Type 0} (ok : Bool) (why : ℕ) (t : Teller A) (s c : ℕ) → Thrifty t s 0 c → Thrifty (provided_t ok why t) s 0 c
unfolding provided_t
provided_thrifty true why t s c h = record { cost = h.cost }
provided_thrifty false why t s c h = record { cost = λ bs. omega (arith, nothing) }

row_thrifty : {A B : Type 0} (t : Teller A) (none : B) (add : A → B → B) (c : ℕ) → Thrifty t 0 0 c → (n : ℕ) → Thrifty (row_told t none add n) 0 0 c
unfolding row_told
row_thrifty t none add c h zero = done_thrifty none c
row_thrifty t none add c h (suc n) = then_thrifty t _ 0 c h (λ a. making_thrifty (row_told t none add n) (add a) 0 c (row_thrifty t none add c h n))

pair_thrifty : (t u : Teller Tree) (c : ℕ) → Thrifty t 0 0 c → Thrifty u 0 0 c → Thrifty (pair_told t u) 0 0 c
unfolding pair_told
pair_thrifty t u c h i = then_thrifty t _ 0 c h (λ k. making_thrifty u (λ v. (k, v)) 0 c i)

-- what takes a byte pays 57
paid : {A : Type 0} (p : Reader A) → Takes p → (bs : List ℕ) (a : A) (n : ℕ) → p bs ≡ got a n → 57 ≤ 57 * n
paid p t bs a n e = omega (arith, t bs a n e)

scalar_thrifty : {A : Type 0} (p : Reader A) (v : A → Scalar) (g : A → Tree) (c : ℕ) → Lawful p → Takes p → Thrifty (voiced p (λ a. row.scalar (v a)) g) 0 0 c
unfolding voiced
scalar_thrifty p v g c l t =
    head_thrifty p _ (λ a. 57) 0 c (lawful_fair p l) (paid p t)
    (λ a. weaker _ 0 22 c 57 c (omega arith) (omega arith) (aloud_thrifty (row.scalar (v a)) _ 0 0 c 22 (scalar_line (v a)) (done_thrifty (g a) c)))

part_thrifty : (p : Reader (List ℕ)) (g : List ℕ → Tree) (c : ℕ) → Lawful p → ((bs cs : List ℕ) (n : ℕ) → p bs ≡ got cs n → 2 + 2 * length cs ≤ 57 * n) → Thrifty (voiced p row.part g) 0 0 c
unfolding voiced
part_thrifty p g c l h =
    head_thrifty p _ (λ cs. 2 + 2 * length cs) 0 c (lawful_fair p l) h
    (λ cs. weaker _ 0 (2 + 2 * length cs + 0) c (2 + 2 * length cs) c (omega arith) (omega arith) (aloud_thrifty (row.part cs) _ 0 0 c (2 + 2 * length cs) (omega (arith, part_line cs)) (done_thrifty (g cs) c)))

binary_paid : (lim : TConfiguration) (bs cs : List ℕ) (n : ℕ) → binary lim bs ≡ got cs n → 2 + 2 * length cs ≤ 57 * n
unfolding read_at
binary_paid lim bs cs n e =
    let z : 0 + n ≡ n = omega arith in
    omega (arith, (binary_tail lim bs 0 cs n (ap (placed 0) e ∙ ap (got cs) z)).fits, binary_takes lim bs cs n e)

uuid_paid : (bs cs : List ℕ) (n : ℕ) → uuid bs ≡ got cs n → 2 + 2 * length cs ≤ 57 * n
unfolding read_at
uuid_paid bs cs n e =
    let z : 0 + n ≡ n = omega arith in
    omega (arith, (uuid_tail bs 0 cs n (ap (placed 0) e ∙ ap (got cs) z)).fits, uuid_takes bs cs n e)

stop_cost : (c : ℕ) (cs : List ℕ) → Cost 7 57 c (length cs) (weight (aloud row.stop (quiet (done no_fields)) cs)) (aloud row.stop (quiet (done no_fields)) cs).found
unfolding aloud quiet done
stop_cost c cs = (omega (arith, more row.stop [], nothing, stop_line), omega arith)

-- the four that hold others
module _ (inner : TType → Teller Tree) (c : ℕ) (h : (t : TType) → Thrifty (inner t) 0 0 c) where
  behind_thrifty : (go : ℤ → Teller Fields) → ((id : ℤ) → Thrifty (go id) 7 0 c) → (x : Field) → Thrifty (behind_told inner go x) 7 57 c
  behind_thrifty go i heads.stop = record { cost = stop_cost c }
  behind_thrifty go i (heads.bool b id) =
      aloud_thrifty (row.field id T.Bool) _ 7 22 c 35 (field_line id T.Bool)
      (aloud_thrifty (row.scalar (S.Bool b)) _ 7 0 c 22 (scalar_line (S.Bool b)) (making_thrifty (go id) (val.field id (val.truth b)) 7 c (i id)))
  behind_thrifty go i (heads.value t id) =
      weaker _ 7 35 c 57 c (omega arith) (omega arith)
      (aloud_thrifty (row.field id t) _ 7 0 c 35 (field_line id t) (then_thrifty (inner t) _ 7 c (h t) (λ v. making_thrifty (go id) (val.field id v) 7 c (i id))))

  walk_thrifty : (k : ℕ) (last : ℤ) → Thrifty (walk_told inner k last) 7 0 c
  unfolding walk_told
  walk_thrifty zero last = refuse_thrifty Fields END 7 c
  walk_thrifty (suc k) last =
      head_thrifty (heads.field last) _ (λ x. 57) 7 c (lawful_fair _ (field_lawful last)) (paid (heads.field last) (field_takes last)) (λ x. behind_thrifty (walk_told inner k) (walk_thrifty k) x)

  fields_thrifty : (last : ℤ) → Thrifty (fields_told inner last) 7 0 c
  unfolding fields_told
  fields_thrifty last = record { cost = λ bs. (walk_thrifty (length bs) last).cost bs }

  struct_thrifty : Thrifty (struct_told inner) 0 0 (c + 7)
  unfolding struct_told aloud
  struct_thrifty = record { cost = λ bs. go bs (making (fields_told inner (pos 0)) val.struct bs).found ((making_thrifty (fields_told inner (pos 0)) val.struct 7 c (fields_thrifty (pos 0))).cost bs) }
    where
      go : (bs : List ℕ) (x : Found Tree) → Cost 7 0 c (length bs) (weight (making (fields_told inner (pos 0)) val.struct bs)) x → Cost 0 0 (c + 7) (length bs) (length (lines (row.struct ∷ (making (fields_told inner (pos 0)) val.struct bs).items))) x
      go bs (got a n) p = (omega (arith, p.0, struct_line_lem, more row.struct (making (fields_told inner (pos 0)) val.struct bs).items), p.1)
      go bs (refused why) p = omega (arith, p, struct_line_lem, more row.struct (making (fields_told inner (pos 0)) val.struct bs).items)

  items_thrifty : {B : Type 0} (lim : TConfiguration) (whole : TType) (g : TType → Trees → B) → Thrifty (items_told lim inner whole g) 0 0 c
  unfolding items_told
  items_thrifty lim whole g =
      head_thrifty (items_head lim) _ (λ x. 57) 0 c (items_head_fair lim) (paid (items_head lim) (items_head_takes lim))
      (λ x. weaker _ 0 35 c 57 c (omega arith) (omega arith)
      (aloud_thrifty (row.items whole x.0 x.1) _ 0 0 c 35 (items_line whole x.0 x.1)
      (provided_thrifty _ BAD_TYPE _ 0 c (making_thrifty _ (g x.0) 0 c (row_thrifty (inner x.0) no_trees tree c (h x.0) x.1)))))

  map_thrifty : (lim : TConfiguration) → Thrifty (map_told lim inner) 0 0 c
  unfolding map_told
  map_thrifty lim =
      head_thrifty (pairs_head lim) _ (λ x. 57) 0 c (pairs_head_fair lim) (paid (pairs_head lim) (pairs_head_takes lim))
      (λ x. weaker _ 0 39 c 57 c (omega arith) (omega arith)
      (aloud_thrifty (row.map x.0 x.1 x.2) _ 0 0 c 39 (map_line x.0 x.1 x.2)
      (provided_thrifty _ BAD_TYPE _ 0 c (provided_thrifty _ BAD_TYPE _ 0 c
      (making_thrifty _ (val.map x.0 x.1) 0 c (row_thrifty (pair_told (inner x.0) (inner x.1)) no_pairs add_pair c (pair_thrifty (inner x.0) (inner x.1) c (h x.0) (h x.1)) x.2))))))

-- a value: 7 more for each level, where it is refused
pub record Boxed (box : Boxes) (c : ℕ) : Type 0 where
  pub list : Thrifty box.list 0 0 c
  pub set : Thrifty box.set 0 0 c
  pub map : Thrifty box.map 0 0 c
  pub struct : Thrifty box.struct 0 0 c

shaped_thrifty : (lim : TConfiguration) (box : Boxes) (c : ℕ) → Boxed box c → (ty : TType) → Thrifty (shaped_told lim box ty) 0 0 c
shaped_thrifty lim box c h T.Stop = refuse_thrifty Tree BAD_TYPE 0 c
shaped_thrifty lim box c h T.Bool = scalar_thrifty truth _ _ c truth_lawful truth_takes
shaped_thrifty lim box c h T.I08 = scalar_thrifty int8 _ _ c int8_lawful int8_takes
shaped_thrifty lim box c h T.I16 = scalar_thrifty int16 _ _ c int16_lawful int16_takes
shaped_thrifty lim box c h T.I32 = scalar_thrifty int32 _ _ c int32_lawful int32_takes
shaped_thrifty lim box c h T.I64 = scalar_thrifty int64 _ _ c int64_lawful int64_takes
shaped_thrifty lim box c h T.Double = scalar_thrifty double _ _ c double_lawful double_takes
shaped_thrifty lim box c h T.String = part_thrifty (binary lim) _ c (binary_lawful lim) (binary_paid lim)
shaped_thrifty lim box c h T.List = h.list
shaped_thrifty lim box c h T.Set = h.set
shaped_thrifty lim box c h T.Map = h.map
shaped_thrifty lim box c h T.Struct = h.struct
shaped_thrifty lim box c h T.Uuid = part_thrifty uuid _ c uuid_lawful uuid_paid

abbrev pub levels : ℕ → ℕ
levels zero = 0
levels (suc room) = levels room + 7

pub value_thrifty : (lim : TConfiguration) (room : ℕ) (ty : TType) → Thrifty (value_told lim room ty) 0 0 (levels room)
unfolding value_told
value_thrifty lim zero ty =
    shaped_thrifty lim shut_told 0 (record { list = refuse_thrifty Tree DEPTH 0 0; set = refuse_thrifty Tree DEPTH 0 0; map = refuse_thrifty Tree DEPTH 0 0; struct = refuse_thrifty Tree DEPTH 0 0 }) ty
value_thrifty lim (suc room) ty =
    let c = levels room in
    let i : (t : TType) → Thrifty (value_told lim room t) 0 0 (c + 7) = λ t. weaker (value_told lim room t) 0 0 c 0 (c + 7) (omega arith) (omega arith) (value_thrifty lim room t) in
    shaped_thrifty lim (roomy_told lim (value_told lim room)) (c + 7)
    (record {
      list = items_thrifty (value_told lim room) (c + 7) i lim T.List val.list;
      set = items_thrifty (value_told lim room) (c + 7) i lim T.Set val.set;
      map = map_thrifty (value_told lim room) (c + 7) i lim;
      struct = struct_thrifty (value_told lim room) c (value_thrifty lim room);
    })
    ty

-- a message and its struct
message_paid : (lim : TConfiguration) (bs : List ℕ) (m : heads.Message) (n : ℕ) → heads.message lim bs ≡ got m n → 53 + 2 * length m.2 ≤ 57 * n
unfolding read_at
message_paid lim bs m n e =
    let z : 0 + n ≡ n = omega arith in
    omega (arith, (message_tail lim bs 0 m n (ap (placed 0) e ∙ ap (got m) z)).fits, message_takes lim bs m n e)

message_thrifty : (lim : TConfiguration) (room : ℕ) → Thrifty (message_told lim room) 0 0 (levels room)
unfolding message_told
message_thrifty lim room =
    head_thrifty (heads.message lim) _ (λ m. 53 + 2 * length m.2) 0 (levels room) (lawful_fair _ (message_lawful lim)) (message_paid lim)
    (λ m. weaker _ 0 (53 + 2 * length m.2 + 0) (levels room) (53 + 2 * length m.2) (levels room) (omega arith) (omega arith)
    (aloud_thrifty (row.message m.0 m.1 m.2) _ 0 0 (levels room) (53 + 2 * length m.2) (message_line_lem m) (value_thrifty lim room T.Struct)))

-- the whole text is no longer than the room
whole_length : (s : List ℕ) → length s ≤ 65536 → length (lines (whole s)) ≤ 4194304
unfolding whole
whole_length s h = go (message_told limits 64 s).found ((message_thrifty limits 64).cost s)
  where
    l : length (lines ((message_told limits 64 s).items ++ (ending (length s) (message_told limits 64 s).found ∷ []))) ≡ weight (message_told limits 64 s) + length (lines (ending (length s) (message_told limits 64 s).found ∷ []))
    l = ap length (lines_append (message_told limits 64 s).items _) ∙ length-append (lines (message_told limits 64 s).items) _

    go : (x : Found Tree) → Cost 0 0 (levels 64) (length s) (weight (message_told limits 64 s)) x → length (lines ((message_told limits 64 s).items ++ (ending (length s) (message_told limits 64 s).found ∷ []))) ≤ 4194304
    go (got a n) p = omega (arith, l, p.0, p.1, h, more (ending (length s) (message_told limits 64 s).found) [], nothing, ending_line (length s) (message_told limits 64 s).found)
    go (refused why) p = omega (arith, l, p, h, more (ending (length s) (message_told limits 64 s).found) [], nothing, ending_line (length s) (message_told limits 64 s).found)

pub text_length : (s : List ℕ) → length (text_of s) ≤ 4194304
unfolding text_of report
text_length s = go (ltb 65536 (length s)) refl
  where
    go : (b : Bool) → ltb 65536 (length s) ≡ b → length (lines (cond b (row.refusal NO_ROOM ∷ []) (whole s))) ≤ 4194304
    go true e = omega (arith, more (row.refusal NO_ROOM) [], nothing, ending_line (length s) (refused NO_ROOM))
    go false e = whole_length s (ltb-false 65536 (length s) e)

-- so the call writes all of it, and says how long it is
inked_fits : (bs : List ℕ) (out : List ℕ) (to : ℕ) → to + length bs ≤ length out → inked bs (out, to) ≡ (sets out to bs, to + length bs)
unfolding inked dot
inked_fits [] out to h = ap (λ (n : ℕ). pen out n) (sym (add-zero to))
inked_fits (b ∷ bs) out to h =
    let i : to < length out = omega arith in
    let e : to + 1 + length bs ≡ to + suc (length bs) = omega arith in
    rw (lt-ltb to (length out) i)
    (inked_fits bs (set out to b) (to + 1) (omega (arith, length-set out to b, h))
    ∙ ap₂ (λ (k n : ℕ). pen (sets (set out to b) k bs) n) (add-one to) e)

pub enough : (s out : List ℕ) → 4194304 ≤ length out → print_call s out ≡ (X.Wrote (length (text_of s)), sets out 0 (text_of s))
unfolding print_call
enough s out h =
    let e : 0 + length (text_of s) ≡ length (text_of s) = omega arith in
    rw (le-ltb (length out) 4194304 h)
    (ap written (inked_fits (text_of s) out 0 (omega (arith, text_length s, h)) ∙ ap (pen (sets out 0 (text_of s))) e))
