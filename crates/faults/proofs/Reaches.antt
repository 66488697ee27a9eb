-- How far refused bytes were read: what the code knows at each return and at each turn of its loop. Assumes nothing.
use mathlib.Core.Path.{◌≡◌, refl, sym, ap, ap₂, subst, ◌∙◌}
use mathlib.Core.Bool.{Bool, true, false, cond}
use mathlib.Core.Logic.{◌⊎◌, inl, inr}
use mathlib.Core.List.{List, [], ◌∷◌}
use Prim.Native.Nat.{ℕ, suc, ◌+◌, ◌*◌, ◌-◌, ◌/◌, ◌%◌, ◌≤◌, ◌<◌}
use native.Mathlib.Omega.{arith}
use borrow.Author.Tests.{lt-ltb, le-ltb, ne_eqb, eq-eqb}
use lib.Dec.{leb, ltb}
use lib.IntN.{ℤ, pos, ◌+ℤ◌}
use lib.ListN.{length, get_or, take, drop, drop_of_length-le}
use lib.Seq.{drop-cons}
use lib.Signed.{lt_z}
use mir.Syntax.{w32}
use mir.Val.{to_z}
use Rattle.types.specs.Refusals.{END, BAD_VERSION, FIELD_ID, SIZE_LIMIT, NEGATIVE_SIZE, BAD_UTF8, RANGE}
use Rattle.types.specs.Codes.{element_type, field_type, message_by_number}
use Rattle.types.specs.declared.Place.{Place}
use Rattle.types.specs.declared.TType.{TType}
use Rattle.types.specs.declared.TType.TheVariants as T
use Rattle.types.specs.declared.TypeRead.{TypeRead}
use Rattle.types.specs.declared.TypeRead.TheVariants as R
use Rattle.types.specs.declared.FieldType.{FieldType}
use Rattle.types.specs.declared.FieldType.TheVariants as F
use Rattle.types.specs.declared.TMessageType.{TMessageType}
use Rattle.types.specs.declared.MessageTypeRead.{MessageTypeRead}
use Rattle.types.specs.declared.MessageTypeRead.TheVariants as MR
use Rattle.types.specs.declared.TConfiguration.{TConfiguration}
use Rattle.types.specs.Value as val
use Rattle.zigzag.specs.Zigzag.{in_range16}
use Rattle.utf8.specs.Utf8.{utf8}
use Rattle.numbers.specs.Varint.{refused}
use Rattle.numbers.specs.Answers.{varint32_at}
use Rattle.numbers.specs.declared.Varint32.{Varint32}
use Rattle.numbers.specs.declared.Varint32.TheVariants as V32
use Rattle.numbers.proofs.Got.{within32}
use Rattle.heads.specs.Reader as r
use Rattle.heads.specs.Reader.{read_at}
use Rattle.heads.specs.Heads as h
use Rattle.heads.specs.Answers.{binary_at}
use Rattle.heads.specs.declared.PartRead.{PartRead}
use Rattle.heads.specs.declared.PartRead.TheVariants as P
use Rattle.heads.proofs.Steps.{byte_at, byte_out}
use Rattle.heads.proofs.Cases.{is_32, no_32, is_part, no_part}
use Rattle.faults.specs.Tracked.{Step, Tracked, found, broke, done, refuse, and_then, provided, byte, some, reach}
use Rattle.faults.specs.Heads.{groups, varint, number32, number64, int8, int32, int16, int64, double, uuid, truth, binary, text, typed, counted, listed, items, mapped, pairs, items_head, pairs_head, field_id, of_type, field, message_typed, named, versioned, message}
use Rattle.faults.specs.Value.{tracked}
use Rattle.faults.specs.Trace.{up_to, HeadReach, ListReach, MapReach, LeafReach}
use Rattle.faults.proofs.Rule.{number32_r, binary_r}
use Rattle.faults.proofs.Finds.{forget, Finds, finds}
use Rattle.faults.proofs.Parts.{Later, parted, unmade}
use Rattle.faults.proofs.Steady.{reach_after}
use Rattle.faults.proofs.Upto.{then_reach, done_reach, made_reach, test_reach, byte_reach, lost_there, upto_end, upto_step, upto_stop, upto_then, upto_none, upto_backed, upto_yes, upto_no, upto_done_then, upto_refuse_then, upto_byte}

-- a varint: at most no bytes; none left; a last byte; a byte with more behind it
group_none : (bs : List ℕ) → reach (groups 0 bs) ≡ 0
unfolding groups refuse
group_none bs = refl

group_out : (k : ℕ) → reach (groups (suc k) []) ≡ 1
unfolding groups and_then byte
group_out k = refl

group_last : (k b : ℕ) (bs : List ℕ) → b < 128 → reach (groups (suc k) (b ∷ bs)) ≡ 1
unfolding groups and_then byte done
group_last k b bs h = rw (lt-ltb b 128 h)

group_more : (k b : ℕ) (bs : List ℕ) → 128 ≤ b → reach (groups (suc k) (b ∷ bs)) ≡ suc (reach (groups k bs))
unfolding groups and_then byte
group_more k b bs h =
    rw (le-ltb b 128 h)
    (reach_after 1 (and_then (groups k) (λ v. done (b % 128 + 128 * v)) bs) ∙ ap (λ (n : ℕ). 1 + n) (made_reach (groups k) (λ v. b % 128 + 128 * v) bs) ∙ omega arith)

-- number_reach
module _ (s : List ℕ) (p left y : ℕ) (inv : up_to (groups left) s p ≡ y) where
  pub reach_spent : left ≤ 0 → p ≡ y
  unfolding up_to
  reach_spent h =
      let e : left ≡ 0 = omega arith in
      let z : reach (groups left (drop p s)) ≡ 0 = rw e (group_none (drop p s)) in
      omega (arith, inv, z)

  module _ (h : 0 < left) where
    one_more : left ≡ suc (left - 1)
    one_more = omega arith

    pub reach_out : length s ≤ p → p + 1 ≡ y
    unfolding up_to
    reach_out l =
        let z : reach (groups left (drop p s)) ≡ 1 = rw (one_more, drop_of_length-le s l) (group_out (left - 1)) in
        omega (arith, inv, z)

    module _ (l : p < length s) where
      here : drop p s ≡ get_or s p 0 ∷ drop (p + 1) s
      here = let e : suc p ≡ p + 1 = omega arith in drop-cons s p 0 l ∙ ap (λ (k : ℕ). get_or s p 0 ∷ drop k s) e

      pub reach_last : get_or s p 0 < 128 → p + 1 ≡ y
      unfolding up_to
      reach_last b =
          let z : reach (groups left (drop p s)) ≡ 1 = ap₂ (λ (k : ℕ) (bs : List ℕ). reach (groups k bs)) one_more here ∙ group_last (left - 1) (get_or s p 0) (drop (p + 1) s) b in
          omega (arith, inv, z)

      pub reach_more : 128 ≤ get_or s p 0 → up_to (groups (left - 1)) s (p + 1) ≡ y
      unfolding up_to
      reach_more b =
          let z : reach (groups left (drop p s)) ≡ suc (reach (groups (left - 1) (drop (p + 1) s))) = ap₂ (λ (k : ℕ) (bs : List ℕ). reach (groups k bs)) one_more here ∙ group_more (left - 1) (get_or s p 0) (drop (p + 1) s) b in
          omega (arith, inv, z)

pub ruleset reach_cases = (reach_spent, reach_out, reach_last, reach_more)

-- numbers are read as far as their varints are
number_is : (bs : List ℕ) → reach (number32 bs) ≡ reach (groups 5 bs)
unfolding number32 varint
number_is bs = made_reach (groups 5) _ bs

int32_is : (bs : List ℕ) → reach (int32 bs) ≡ reach (groups 5 bs)
unfolding int32
int32_is bs = made_reach number32 _ bs ∙ number_is bs

int16_is : (bs : List ℕ) → reach (int16 bs) ≡ reach (groups 5 bs)
unfolding int16
int16_is bs = then_reach int32 _ bs (λ z cs. test_reach (in_range16 z) RANGE (done z) cs (done_reach z cs)) ∙ int32_is bs

int64_is : (bs : List ℕ) → reach (int64 bs) ≡ reach (groups 10 bs)
unfolding int64 number64 varint
int64_is bs = made_reach (and_then (groups 10) _) _ bs ∙ made_reach (groups 10) _ bs

upto_number : (s : List ℕ) (at : ℕ) → up_to number32 s at ≡ up_to (groups 5) s at
unfolding up_to
upto_number s at = ap (λ (n : ℕ). at + n) (number_is (drop at s))

number_finds : (bs : List ℕ) → forget (number32 bs) ≡ h.number32 bs
unfolding Finds
number_finds bs = number32_r Finds finds 0 bs

byte_finds : (bs : List ℕ) → forget (byte bs) ≡ r.byte bs
unfolding Finds
byte_finds bs = finds.byte 0 bs

-- behind a first byte, and where it is missing
module _ {A : Type 0} (k : ℕ → Tracked A) (s : List ℕ) (at : ℕ) where
  byte_then : at < length s → up_to (and_then byte k) s at ≡ up_to (k (get_or s at 0)) s (at + 1)
  byte_then l = upto_step byte r.byte byte_finds s at k (get_or s at 0) (at + 1) (byte_at s at l)

  byte_none : length s ≤ at → up_to (and_then byte k) s at ≡ at + 1
  byte_none l = upto_stop byte r.byte byte_finds s at k END (byte_out s at l) ∙ upto_byte s at

-- field_reach
id_short : (last : ℤ) (d : ℕ) (bs : List ℕ) → (d ≡ 0 → ⊥) → reach (field_id last d bs) ≡ 0
unfolding field_id done refuse
id_short last d bs h = rw (ne_eqb d 0 h) (by (lt_z (pos 32767) (last +ℤ pos d)))
  where
    by : (c : Bool) → reach (cond c (refuse FIELD_ID) (done (last +ℤ pos d)) bs) ≡ 0
    by true = refl
    by false = refl

id_long : (last : ℤ) (d : ℕ) (s : List ℕ) (at : ℕ) → d ≡ 0 → up_to (field_id last d) s at ≡ up_to (groups 5) s at
unfolding field_id up_to
id_long last d s at e = rw (eq-eqb d 0 e) (ap (λ (n : ℕ). at + n) (int16_is (drop at s)))

module _ (s : List ℕ) (at : ℕ) where
  pub head_out : length s ≤ at → HeadReach s at (at + 1)
  unfolding HeadReach field
  head_out l last = sym (byte_none _ s at l)

  module _ (l : at < length s) where
    abbrev b : ℕ
    b = get_or s at 0

    behind_byte : (last : ℤ) (x : FieldType) → field_type (b % 16) ≡ x → up_to (field last) s at ≡ up_to (of_type last (b / 16) x) s (at + 1)
    unfolding field
    behind_byte last x g = byte_then _ s at l ∙ ap (λ (y : FieldType). up_to (of_type last (b / 16) y) s (at + 1)) g

    -- with a delta, or of no type: the first byte alone
    pub head_short : (b / 16 ≡ 0 → ⊥) → HeadReach s at (at + 1)
    unfolding HeadReach done refuse
    head_short d last = by (field_type (b % 16)) refl
      where
        short : {A : Type 0} (mk : ℤ → A) → up_to (and_then (field_id last (b / 16)) (λ id. done (mk id))) s (at + 1) ≡ at + 1
        short mk = upto_none s (at + 1) (and_then (field_id last (b / 16)) _) (made_reach (field_id last (b / 16)) mk _ ∙ id_short last (b / 16) _ d)

        by : (x : FieldType) → field_type (b % 16) ≡ x → at + 1 ≡ up_to (field last) s at
        by F.Stop g = sym (behind_byte last F.Stop g ∙ upto_none s (at + 1) _ refl)
        by (F.Truth c) g = sym (behind_byte last (F.Truth c) g ∙ short (h.bool c))
        by (F.Kind t) g = sym (behind_byte last (F.Kind t) g ∙ short (h.value t))
        by (F.Refused w) g = sym (behind_byte last (F.Refused w) g ∙ upto_none s (at + 1) _ refl)

    module _ (x : FieldType) (g : x ≡ field_type (b % 16)) where
      pub head_stop : x ≡ F.Stop → HeadReach s at (at + 1)
      unfolding HeadReach done
      head_stop f last = sym (behind_byte last F.Stop (sym g ∙ f) ∙ upto_none s (at + 1) _ refl)

      pub head_untyped : (w : ℕ) → x ≡ F.Refused w → HeadReach s at (at + 1)
      unfolding HeadReach refuse
      head_untyped w f last = sym (behind_byte last (F.Refused w) (sym g ∙ f) ∙ upto_none s (at + 1) _ refl)

      module _ (d : b / 16 ≡ 0) (r : ℕ) (q : r ≡ up_to (groups 5) s (at + 1)) where
        pub head_truth : (c : Bool) → x ≡ F.Truth c → HeadReach s at r
        unfolding HeadReach
        head_truth c f last =
            q ∙ sym (behind_byte last (F.Truth c) (sym g ∙ f) ∙ upto_then s (at + 1) (field_id last (b / 16)) _ (λ id cs. done_reach (h.bool c id) cs) ∙ id_long last (b / 16) s (at + 1) d)

        pub head_kind : (t : TType) → x ≡ F.Kind t → HeadReach s at r
        unfolding HeadReach
        head_kind t f last =
            q ∙ sym (behind_byte last (F.Kind t) (sym g ∙ f) ∙ upto_then s (at + 1) (field_id last (b / 16)) _ (λ id cs. done_reach (h.value t id) cs) ∙ id_long last (b / 16) s (at + 1) d)

pub ruleset head_cases = (head_out, head_short, head_stop, head_untyped, head_truth, head_kind)

-- counts and types read nothing more
counted_reach : (lim : TConfiguration) (n : ℕ) (cs : List ℕ) → reach (counted lim n cs) ≡ 0
unfolding counted
counted_reach lim n cs = test_reach _ NEGATIVE_SIZE _ cs (test_reach _ SIZE_LIMIT _ cs (done_reach n cs))

listed_reach : (lim : TConfiguration) (t : TType) (n : ℕ) (cs : List ℕ) → reach (listed lim t n cs) ≡ 0
unfolding listed
listed_reach lim t n cs = made_reach (counted lim n) _ cs ∙ counted_reach lim n cs

typed_reach : (x : TypeRead) (cs : List ℕ) → reach (typed x cs) ≡ 0
unfolding done refuse
typed_reach (R.Got t) cs = refl
typed_reach (R.Refused why) cs = refl

-- list_reach
module _ (s : List ℕ) (at : ℕ) where
  of_items : (lim : TConfiguration) (r : ℕ) → up_to (items lim) s at ≡ r → r ≡ up_to (items_head lim) s at
  unfolding items_head
  of_items lim r e = sym (upto_backed s at _ (items lim) ∙ e)

  pub list_out : length s ≤ at → ListReach s at (at + 1)
  unfolding ListReach items
  list_out l lim = of_items lim _ (byte_none _ s at l)

  module _ (l : at < length s) where
    abbrev c : ℕ
    c = get_or s at 0

    abbrev count_of : Bool → Tracked ℕ
    count_of x = cond x (done (c / 16)) number32

    behind_type : (lim : TConfiguration) (t : TType) (z : Bool) → element_type (c % 16) ≡ R.Got t → ltb (c / 16) 15 ≡ z → up_to (items lim) s at ≡ up_to (count_of z) s (at + 1)
    unfolding items
    behind_type lim t z g k =
        byte_then _ s at l
        ∙ ap₂ (λ (x : TypeRead) (y : Bool). up_to (and_then (typed x) (λ u. and_then (count_of y) (listed lim u))) s (at + 1)) g k
        ∙ upto_done_then s (at + 1) t _
        ∙ upto_then s (at + 1) (count_of z) _ (λ n cs. listed_reach lim t n cs)

    untyped : (lim : TConfiguration) (why : ℕ) → element_type (c % 16) ≡ R.Refused why → up_to (items lim) s at ≡ at + 1
    unfolding items
    untyped lim why g =
        byte_then _ s at l
        ∙ ap (λ (x : TypeRead). up_to (and_then (typed x) (λ u. and_then (count_of (ltb (c / 16) 15)) (listed lim u))) s (at + 1)) g
        ∙ upto_refuse_then s (at + 1) why _

    pub list_short : c / 16 < 15 → ListReach s at (at + 1)
    unfolding ListReach done
    list_short d lim = of_items lim _ (by (element_type (c % 16)) refl)
      where
        by : (x : TypeRead) → element_type (c % 16) ≡ x → up_to (items lim) s at ≡ at + 1
        by (R.Got t) g = behind_type lim t true g (lt-ltb (c / 16) 15 d) ∙ upto_none s (at + 1) _ refl
        by (R.Refused why) g = untyped lim why g

    module _ (x : TypeRead) (g : x ≡ element_type (c % 16)) (d : 15 ≤ c / 16) where
      pub list_untyped : (why : ℕ) → x ≡ R.Refused why → ListReach s at (at + 1)
      unfolding ListReach
      list_untyped why f lim = of_items lim _ (untyped lim why (sym g ∙ f))

      pub list_long : (t : TType) → x ≡ R.Got t → (r : ℕ) → r ≡ up_to (groups 5) s (at + 1) → ListReach s at r
      unfolding ListReach
      list_long t f r q lim = of_items lim r (behind_type lim t false (sym g ∙ f) (le-ltb (c / 16) 15 d) ∙ upto_number s (at + 1) ∙ sym q)

pub ruleset reach_list = (list_out, list_short, list_untyped, list_long)

-- map_reach
mapped_reach : (lim : TConfiguration) (n : ℕ) (s : List ℕ) (at : ℕ) → up_to (mapped lim n) s at ≡ at + 1
unfolding mapped
mapped_reach lim n s at =
    upto_then s at byte _
    (λ b cs. then_reach (typed (element_type (b / 16))) _ cs
    (λ k ds. then_reach (typed (element_type (b % 16))) _ ds (λ v es. made_reach (counted lim n) _ es ∙ counted_reach lim n es) ∙ typed_reach (element_type (b % 16)) ds)
    ∙ typed_reach (element_type (b / 16)) cs)
    ∙ upto_byte s at

module _ (s : List ℕ) (at : ℕ) (v : Varint32) (e : v ≡ varint32_at s at) where
  pub number_no : (why : ℕ) → v ≡ V32.Refused why → {A : Type 0} (k : ℕ → Tracked A) → up_to (and_then number32 k) s at ≡ up_to (groups 5) s at
  number_no why g k = upto_stop number32 h.number32 number_finds s at k why (no_32 s at v e why g) ∙ upto_number s at

  pub number_then : (n p : ℕ) → v ≡ V32.Got n p → {A : Type 0} (k : ℕ → Tracked A) → up_to (and_then number32 k) s at ≡ up_to (k n) s p
  number_then n p g k = upto_step number32 h.number32 number_finds s at k n p (is_32 s at v e n p g)

  pub number_in : (n p : ℕ) → v ≡ V32.Got n p → p ≤ length s
  number_in n p g = (within32 s at n p (sym e ∙ g)).inside

  of_pairs : (lim : TConfiguration) (r : ℕ) → up_to (pairs lim) s at ≡ r → r ≡ up_to (pairs_head lim) s at
  unfolding pairs_head
  of_pairs lim r q = sym (upto_backed s at _ (pairs lim) ∙ q)

  pub map_uncounted : (why r : ℕ) → v ≡ V32.Refused why → r ≡ up_to (groups 5) s at → MapReach s at r
  unfolding MapReach pairs
  map_uncounted why r g q lim = of_pairs lim r (number_no why g _ ∙ sym q)

  pub map_none : (n p : ℕ) → v ≡ V32.Got n p → n ≡ 0 → MapReach s at p
  unfolding MapReach pairs done
  map_none n p g z lim = of_pairs lim p (number_then n p g _ ∙ rw (eq-eqb n 0 z) (upto_none s p _ refl))

  pub map_some : (n p : ℕ) → v ≡ V32.Got n p → (n ≡ 0 → ⊥) → MapReach s at (p + 1)
  unfolding MapReach pairs
  map_some n p g z lim = of_pairs lim (p + 1) (number_then n p g _ ∙ rw (ne_eqb n 0 z) (mapped_reach lim n s p))

pub ruleset reach_map = (map_uncounted, map_none, map_some, number_in)

-- a string that is refused: through its length, its body unread
some_none : (n : ℕ) (bs : List ℕ) (why m : ℕ) (path : List Step) → some n bs ≡ broke why m path → m ≡ 0
unfolding some
some_none n bs why m path e = by (leb n (length bs)) e
  where
    by : (c : Bool) → cond c (found (take n bs) n) (broke END 0 []) ≡ broke why m path → m ≡ 0
    by true f = let z : ◌≡◌ {A = ℕ} 0 1 = cc in absurd (omega arith)
    by false f = sym (ap reach f)

body_none : (lim : TConfiguration) (n : ℕ) (bs : List ℕ) (why m : ℕ) (path : List Step) → provided (leb n lim.string) SIZE_LIMIT (some n) bs ≡ broke why m path → m ≡ 0
unfolding provided
body_none lim n bs why m path e = by (leb n lim.string) e
  where
    by : (c : Bool) → cond c (some n bs) (broke SIZE_LIMIT 0 []) ≡ broke why m path → m ≡ 0
    by true f = some_none n bs why m path f
    by false f = sym (ap reach f)

binary_broke : (lim : TConfiguration) (bs : List ℕ) (why m : ℕ) (path : List Step) → binary lim bs ≡ broke why m path → m ≡ reach (groups 5 bs)
unfolding binary
binary_broke lim bs why m path e = by (parted number32 _ bs why m path e)
  where
    by : (number32 bs ≡ broke why m path) ⊎ Later (number32 bs) (λ n. provided (leb n lim.string) SIZE_LIMIT (some n)) bs why m path → m ≡ reach (groups 5 bs)
    by (inl f) = sym (ap reach f) ∙ number_is bs
    by (inr f) = omega (arith, f.all, body_none lim f.one (drop f.used bs) why f.more path f.second, ap reach f.first, number_is bs)

-- leaf_reach
truth_reach : (bs : List ℕ) → reach (truth bs) ≡ 1
unfolding truth
truth_reach bs = then_reach byte _ bs (λ b cs. test_reach _ _ _ cs (done_reach _ cs)) ∙ byte_reach bs

int8_reach : (bs : List ℕ) → reach (int8 bs) ≡ 1
unfolding int8
int8_reach bs = made_reach byte _ bs ∙ byte_reach bs

double_broke : (bs : List ℕ) (why m : ℕ) (path : List Step) → double bs ≡ broke why m path → m ≡ 0
unfolding double
double_broke bs why m path e = some_none 8 bs why m path (unmade (some 8) _ bs why m path e)

uuid_broke : (bs : List ℕ) (why m : ℕ) (path : List Step) → uuid bs ≡ broke why m path → m ≡ 0
unfolding uuid
uuid_broke bs why m path e = some_none 16 bs why m path e

module _ (s : List ℕ) (at : ℕ) where
  abbrev bytes : List ℕ
  bytes = drop at s

  pub bool_leaf : LeafReach s at T.Bool (at + 1)
  unfolding LeafReach tracked
  bool_leaf lim why n path e = omega (arith, ap reach e, made_reach truth val.truth bytes ∙ truth_reach bytes)

  pub i8_leaf : LeafReach s at T.I08 (at + 1)
  unfolding LeafReach tracked
  i8_leaf lim why n path e = omega (arith, ap reach e, made_reach int8 val.i8 bytes ∙ int8_reach bytes)

  module _ (r : ℕ) (q : r ≡ up_to (groups 5) s at) where
    pub i16_leaf : LeafReach s at T.I16 r
    unfolding LeafReach tracked up_to
    i16_leaf lim why n path e = omega (arith, q, ap reach e, made_reach int16 val.i16 bytes ∙ int16_is bytes)

    pub i32_leaf : LeafReach s at T.I32 r
    unfolding LeafReach tracked up_to
    i32_leaf lim why n path e = omega (arith, q, ap reach e, made_reach int32 val.i32 bytes ∙ int32_is bytes)

    pub string_leaf : LeafReach s at T.String r
    unfolding LeafReach tracked up_to
    string_leaf lim why n path e = omega (arith, q, binary_broke lim bytes why n path (unmade (binary lim) val.bytes bytes why n path e))

  pub i64_leaf : (r : ℕ) → r ≡ up_to (groups 10) s at → LeafReach s at T.I64 r
  unfolding LeafReach tracked up_to
  i64_leaf r q lim why n path e = omega (arith, q, ap reach e, made_reach int64 val.i64 bytes ∙ int64_is bytes)

  pub double_leaf : LeafReach s at T.Double at
  unfolding LeafReach tracked
  double_leaf lim why n path e = omega (arith, double_broke bytes why n path (unmade double val.double bytes why n path e))

  pub uuid_leaf : LeafReach s at T.Uuid at
  unfolding LeafReach tracked
  uuid_leaf lim why n path e = omega (arith, uuid_broke bytes why n path (unmade uuid val.uuid bytes why n path e))

  pub stop_leaf : LeafReach s at T.Stop at
  unfolding LeafReach tracked refuse
  stop_leaf lim why n path e = omega (arith, ap reach e)

  pub list_leaf : LeafReach s at T.List at
  unfolding LeafReach tracked refuse
  list_leaf lim why n path e = omega (arith, ap reach e)

  pub set_leaf : LeafReach s at T.Set at
  unfolding LeafReach tracked refuse
  set_leaf lim why n path e = omega (arith, ap reach e)

  pub map_leaf : LeafReach s at T.Map at
  unfolding LeafReach tracked refuse
  map_leaf lim why n path e = omega (arith, ap reach e)

  pub struct_leaf : LeafReach s at T.Struct at
  unfolding LeafReach tracked refuse
  struct_leaf lim why n path e = omega (arith, ap reach e)

  -- whichever it is
  pub of_kind : (kind t : TType) (r : ℕ) → kind ≡ t → LeafReach s at t r → LeafReach s at kind r
  of_kind kind t r e f = subst (λ (k : TType). LeafReach s at k r) (sym e) f

pub ruleset leaf_cases = (of_kind, bool_leaf, i8_leaf, i16_leaf, i32_leaf, string_leaf, i64_leaf, double_leaf, uuid_leaf, stop_leaf, list_leaf, set_leaf, map_leaf, struct_leaf)

-- a message's header: named_reach
binary_finds : (lim : TConfiguration) (bs : List ℕ) → forget (binary lim bs) ≡ h.binary lim bs
unfolding Finds
binary_finds lim bs = binary_r Finds finds 0 lim bs

binary_no : (lim : TConfiguration) (s : List ℕ) (at why : ℕ) → read_at (h.binary lim) s at ≡ refused why → up_to (binary lim) s at ≡ up_to (groups 5) s at
unfolding up_to
binary_no lim s at why e =
    let g = lost_there (binary lim) (h.binary lim) (binary_finds lim) s at why e in
    let z : reach (binary lim (drop at s)) ≡ g.0 = ap reach g.2 in
    omega (arith, z, binary_broke lim (drop at s) why g.0 g.1 g.2)

module _ (s : List ℕ) (lim : TConfiguration) (m : TMessageType) (at : ℕ) (v : Varint32) (e : v ≡ varint32_at s at) where
  pub named_uncounted : (why r : ℕ) → v ≡ V32.Refused why → r ≡ up_to (groups 5) s at → r ≡ up_to (named lim m) s at
  unfolding named
  named_uncounted why r g q = q ∙ sym (number_no s at v e why g _)

  module _ (n p : ℕ) (g : v ≡ V32.Got n p) (x : PartRead) (f : x ≡ binary_at s lim p) where
    to_text : up_to (named lim m) s at ≡ up_to (binary lim) s p
    unfolding named text
    to_text =
        number_then s at v e n p g _
        ∙ upto_then s p (and_then (binary lim) _) _ (λ name cs. done_reach (m, to_z w32 n, name) cs)
        ∙ upto_then s p (binary lim) _ (λ bs cs. test_reach (utf8 bs) BAD_UTF8 (done bs) cs (done_reach bs cs))

    pub named_refused : (why r : ℕ) → x ≡ P.Refused why → r ≡ up_to (groups 5) s p → r ≡ up_to (named lim m) s at
    unfolding binary_at
    named_refused why r k q = q ∙ sym (to_text ∙ binary_no lim s p why (no_part (read_at (h.binary lim) s p) why (sym f ∙ k)))

    pub named_got : (a z : Place) → x ≡ P.Got a z → z.0 ≡ up_to (named lim m) s at
    unfolding binary_at
    named_got a z k =
        let b = is_part (read_at (h.binary lim) s p) a z (sym f ∙ k) in
        sym (to_text ∙ upto_end (binary lim) (h.binary lim) (binary_finds lim) s p b.0 z.0 b.1)

pub ruleset named_cases = (named_uncounted, named_refused, named_got, number_in)

-- versioned_reach
module _ (s : List ℕ) (lim : TConfiguration) (at : ℕ) where
  pub version_out : length s ≤ at → at + 1 ≡ up_to (versioned lim) s at
  unfolding versioned
  version_out l = sym (byte_none _ s at l)

  module _ (l : at < length s) where
    pub version_not : (get_or s at 0 % 32 ≡ 1 → ⊥) → at + 1 ≡ up_to (versioned lim) s at
    unfolding versioned
    version_not n = sym (byte_then _ s at l ∙ upto_no s (at + 1) _ BAD_VERSION _ (ne_eqb _ 1 n))

    module _ (w : get_or s at 0 % 32 ≡ 1) (x : MessageTypeRead) (e : x ≡ message_by_number (get_or s at 0 / 32)) where
      by_kind : (t : MessageTypeRead) → x ≡ t → up_to (versioned lim) s at ≡ up_to (and_then (message_typed t) (named lim)) s (at + 1)
      unfolding versioned
      by_kind t g =
          byte_then _ s at l
          ∙ upto_yes s (at + 1) _ BAD_VERSION _ (eq-eqb _ 1 w)
          ∙ ap (λ (u : MessageTypeRead). up_to (and_then (message_typed u) (named lim)) s (at + 1)) (sym e ∙ g)

      pub kind_not : (why : ℕ) → x ≡ MR.Refused why → at + 1 ≡ up_to (versioned lim) s at
      kind_not why g = sym (by_kind (MR.Refused why) g ∙ upto_refuse_then s (at + 1) why _)

      pub kind_named : (m : TMessageType) (r : ℕ) → x ≡ MR.Got m → r ≡ up_to (named lim m) s (at + 1) → r ≡ up_to (versioned lim) s at
      kind_named m r g q = q ∙ sym (by_kind (MR.Got m) g ∙ upto_done_then s (at + 1) m _)

pub ruleset version_cases = (version_out, version_not, kind_not, kind_named)

-- message_reach
module _ (s : List ℕ) (lim : TConfiguration) (at : ℕ) where
  pub message_out : length s ≤ at → at + 1 ≡ up_to (message lim) s at
  unfolding message
  message_out l = sym (byte_none _ s at l)

  module _ (l : at < length s) where
    pub message_not : (get_or s at 0 ≡ 130 → ⊥) → at + 1 ≡ up_to (message lim) s at
    unfolding message
    message_not n = sym (byte_then _ s at l ∙ upto_no s (at + 1) _ BAD_VERSION (versioned lim) (ne_eqb _ 130 n))

    pub message_is : (r : ℕ) → get_or s at 0 ≡ 130 → r ≡ up_to (versioned lim) s (at + 1) → r ≡ up_to (message lim) s at
    unfolding message
    message_is r y q = q ∙ sym (byte_then _ s at l ∙ upto_yes s (at + 1) _ BAD_VERSION (versioned lim) (eq-eqb _ 130 y))

pub ruleset message_cases = (message_out, message_not, message_is)
