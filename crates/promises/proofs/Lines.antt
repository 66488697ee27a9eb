-- The printing program's lines on an input that is cut short: all but the last are the first lines of the whole. So the lines before a refusal are those of the items
-- that were whole before the break. Assumes nothing.
use mathlib.Core.Path.{◌≡◌, refl, sym, ap, ap₂, subst, ◌∙◌}
use mathlib.Core.Bool.{Bool, true, false}
use mathlib.Core.List.{List, [], ◌∷◌, ◌++◌, append_assoc}
use Prim.Native.Nat.{ℕ, zero, suc, ◌≤◌}
use native.Mathlib.Omega.{arith}
use borrow.Author.Tests.{le-ltb}
use lib.IntN.{ℤ, pos}
use lib.ListN.{length, take, drop, length-append, length-drop, length-take, take-append-drop}
use lib.Seq.{take-append-le, drop-append-le, take_at}
use Rattle.types.specs.Refusals.{END, BAD_TYPE, DEPTH}
use Rattle.types.specs.declared.TType.{TType}
use Rattle.types.specs.declared.TType.TheVariants as T
use Rattle.types.specs.declared.TConfiguration.{TConfiguration}
use Rattle.types.specs.Value as val
use Rattle.types.specs.Value.{Tree, Trees, no_trees, tree, Pairs, no_pairs, Fields, no_fields}
use Rattle.numbers.specs.Varint.{Found, got, refused, placed}
use Rattle.heads.specs.Reader.{Reader, done, refuse}
use Rattle.heads.specs.Heads as heads
use Rattle.heads.specs.Heads.{int8, int16, int32, int64, double, uuid, truth, binary, items_head, pairs_head, Field}
use Rattle.heads.proofs.Lawful.{Lawful, not_both, done_lawful}
use Rattle.heads.proofs.Readers.{int8_lawful, int16_lawful, int32_lawful, int64_lawful, double_lawful, uuid_lawful, truth_lawful, binary_lawful, field_lawful, message_lawful}
use Rattle.heads.proofs.Ahead.{Fair, lawful_fair, items_head_fair, pairs_head_fair}
use Rattle.heads.proofs.Steps.{found_at}
use Rattle.skip.specs.Value.{startable}
use Rattle.scalars.specs.declared.Scalar.TheVariants as S
use Rattle.lines.specs.Lines as row
use Rattle.lines.specs.Lines.{Item}
use Rattle.printer.specs.Telling.{Told, Teller, quiet, aloud, onward_t, then_tell, making, provided_t, voiced}
use Rattle.printer.specs.Value.{row_told, many_told, pair_told, add_pair, pairs_told, items_told, map_told, behind_told, walk_told, fields_told, struct_told, Boxes, shut_told, roomy_told, shaped_told, value_told}
use Rattle.printer.specs.Printing.{message_told, limits, ending, whole, report}

-- what was told begins what is told later; and where something was found, it is the same
record Begins {A : Type 0} (x y : Told A) : Type 0 where
  more : List Item
  items : y.items ≡ x.items ++ more
  found : (a : A) (n : ℕ) → x.found ≡ got a n → (y.found ≡ got a n) × (y.items ≡ x.items)

-- a telling on some bytes, beside another on those and what comes behind
record Grows {A : Type 0} (t u : Teller A) : Type 0 where
  ends : (bs : List ℕ) (a : A) (n : ℕ) → (t bs).found ≡ got a n → n ≤ length bs
  grows : (bs rest : List ℕ) → Begins (t bs) (u (bs ++ rest))

longer : (bs rest : List ℕ) → length bs ≤ length (bs ++ rest)
longer bs rest = omega (arith, length-append bs rest)

quiet_grows : {A : Type 0} (p : Reader A) → Fair p → Grows (quiet p) (quiet p)
unfolding quiet
quiet_grows p f =
    record {
      ends = f.ends;
      grows = λ bs rest. record { more = []; items = refl; found = λ a n e. (f.longer bs (bs ++ rest) a n e (take-append-le n bs rest (f.ends bs a n e)) (longer bs rest), refl) };
    }

lawfully : {A : Type 0} (p : Reader A) → Lawful p → Grows (quiet p) (quiet p)
lawfully p l = quiet_grows p (lawful_fair p l)

done_grows : {A : Type 0} (a : A) → Grows (quiet (done a)) (quiet (done a))
done_grows a = lawfully (done a) (done_lawful a)

-- a refusal begins anything
refuse_grows : {A : Type 0} (why : ℕ) (u : Teller A) → Grows (quiet (refuse why)) u
unfolding quiet refuse
refuse_grows why u = record { ends = λ bs a n e. not_both e; grows = λ bs rest. record { more = (u (bs ++ rest)).items; items = refl; found = λ a n e. not_both e } }

aloud_grows : {A : Type 0} (i : Item) (t u : Teller A) → Grows t u → Grows (aloud i t) (aloud i u)
unfolding aloud
aloud_grows i t u g =
    record {
      ends = g.ends;
      grows = λ bs rest. let b = g.grows bs rest in record { more = b.more; items = ap (λ (l : List Item). i ∷ l) b.items; found = λ a n e. ((b.found a n e).0, ap (λ (l : List Item). i ∷ l) (b.found a n e).1) };
    }

provided_grows : {A : Type 0} (ok : Bool) (why : ℕ) (t u : Teller A) → Grows t u → Grows (provided_t ok why t) (provided_t ok why u)
unfolding provided_t
provided_grows true why t u g = record { ends = g.ends; grows = g.grows }
provided_grows false why t u g = record { ends = λ bs a n e. not_both e; grows = λ bs rest. record { more = []; items = refl; found = λ a n e. not_both e } }

module _ {A B : Type 0} (t u : Teller A) (k l : A → Teller B) (g : Grows t u) (h : (a : A) → Grows (k a) (l a)) where
  then_ends : (bs : List ℕ) (b : B) (n : ℕ) → (then_tell t k bs).found ≡ got b n → n ≤ length bs
  unfolding then_tell
  then_ends bs b n e = go (t bs).found refl e
    where
      go : (x : Found A) → (t bs).found ≡ x → (onward_t k bs (t bs).items x).found ≡ got b n → n ≤ length bs
      go (got a i) f q =
          let w = found_at i (k a (drop i bs)).found b n q in
          omega (arith, w.2, g.ends bs a i f, (h a).ends (drop i bs) b w.0 w.1, length-drop i bs)
      go (refused why) f q = not_both q

  module _ (bs rest : List ℕ) where
    -- the first was found: the second goes on behind it
    on : (a : A) (i : ℕ) → (t bs).found ≡ got a i → Begins (onward_t k bs (t bs).items (got a i)) (onward_t l (bs ++ rest) (u (bs ++ rest)).items (u (bs ++ rest)).found)
    on a i f =
        let b = (g.grows bs rest).found a i f in
        let d : drop i (bs ++ rest) ≡ drop i bs ++ rest = drop-append-le i bs rest (g.ends bs a i f) in
        let c = (h a).grows (drop i bs) rest in
        let y : Told B = l a (drop i bs ++ rest) in
        let now : onward_t l (bs ++ rest) (u (bs ++ rest)).items (u (bs ++ rest)).found ≡ record { items = (t bs).items ++ y.items; found = placed i y.found } =
        ap₂ (λ (is : List Item) (x : Found A). onward_t l (bs ++ rest) is x) b.1 b.0
        ∙ ap (λ (cs : List ℕ). record { items = (t bs).items ++ (l a cs).items; found = placed i (l a cs).found }) d
        in
        subst (Begins (onward_t k bs (t bs).items (got a i))) (sym now)
        (record {
          more = c.more;
          items = ap (λ (is : List Item). (t bs).items ++ is) c.items ∙ sym (append_assoc (t bs).items (k a (drop i bs)).items c.more);
          found = λ z n e.
              let w = found_at i (k a (drop i bs)).found z n e in
              let q = c.found z w.0 w.1 in
              (ap (placed i) q.0 ∙ ap (got z) w.2, ap (λ (is : List Item). (t bs).items ++ is) q.1);
        })

    -- it was refused: whatever the other finds, its items come first
    off : (why : ℕ) (x : Found A) → Begins (onward_t k bs (t bs).items (refused why)) (onward_t l (bs ++ rest) (u (bs ++ rest)).items x)
    off why (got a i) =
        let b = g.grows bs rest in
        let z : List Item = (l a (drop i (bs ++ rest))).items in
        record { more = b.more ++ z; items = ap (λ (is : List Item). is ++ z) b.items ∙ append_assoc (t bs).items b.more z; found = λ c n e. not_both e }
    off why (refused w) = let b = g.grows bs rest in record { more = b.more; items = b.items; found = λ c n e. not_both e }

    then_begins : Begins (then_tell t k bs) (then_tell u l (bs ++ rest))
    unfolding then_tell
    then_begins = go (t bs).found refl
      where
        go : (x : Found A) → (t bs).found ≡ x → Begins (onward_t k bs (t bs).items (t bs).found) (onward_t l (bs ++ rest) (u (bs ++ rest)).items (u (bs ++ rest)).found)
        go (got a i) f = subst (λ (x : Found A). Begins (onward_t k bs (t bs).items x) (onward_t l (bs ++ rest) (u (bs ++ rest)).items (u (bs ++ rest)).found)) (sym f) (on a i f)
        go (refused why) f = subst (λ (x : Found A). Begins (onward_t k bs (t bs).items x) (onward_t l (bs ++ rest) (u (bs ++ rest)).items (u (bs ++ rest)).found)) (sym f) (off why (u (bs ++ rest)).found)

  then_grows : Grows (then_tell t k) (then_tell u l)
  then_grows = record { ends = then_ends; grows = then_begins }

making_grows : {A B : Type 0} (t u : Teller A) (f : A → B) → Grows t u → Grows (making t f) (making u f)
making_grows t u f g = then_grows t u _ _ g (λ a. done_grows (f a))

voiced_grows : {A B : Type 0} (p : Reader A) (i : A → Item) (f : A → B) → Lawful p → Grows (voiced p i f) (voiced p i f)
unfolding voiced
voiced_grows p i f l = then_grows (quiet p) (quiet p) _ _ (lawfully p l) (λ a. aloud_grows (i a) _ _ (done_grows (f a)))

-- the value's telling
row_grows : {A B : Type 0} (t : Teller A) (none : B) (add : A → B → B) → Grows t t → (n : ℕ) → Grows (row_told t none add n) (row_told t none add n)
unfolding row_told
row_grows t none add g zero = done_grows none
row_grows t none add g (suc n) = then_grows t t _ _ g (λ a. making_grows (row_told t none add n) (row_told t none add n) (add a) (row_grows t none add g n))

pair_grows : (t u : Teller Tree) → Grows t t → Grows u u → Grows (pair_told t u) (pair_told t u)
unfolding pair_told
pair_grows t u g h = then_grows t t _ _ g (λ k. making_grows u u _ h)

module _ (lim : TConfiguration) (inner : TType → Teller Tree) (g : (t : TType) → Grows (inner t) (inner t)) where
  items_grows : {B : Type 0} (w : TType) (f : TType → Trees → B) → Grows (items_told lim inner w f) (items_told lim inner w f)
  unfolding items_told
  items_grows w f =
      then_grows (quiet (items_head lim)) (quiet (items_head lim)) _ _ (quiet_grows (items_head lim) (items_head_fair lim))
      (λ h. aloud_grows (row.items w h.0 h.1) _ _ (provided_grows (startable h.0 h.1) BAD_TYPE _ _ (making_grows (many_told (inner h.0) h.1) _ (f h.0) (row_grows (inner h.0) no_trees tree (g h.0) h.1))))

  map_grows : Grows (map_told lim inner) (map_told lim inner)
  unfolding map_told
  map_grows =
      then_grows (quiet (pairs_head lim)) (quiet (pairs_head lim)) _ _ (quiet_grows (pairs_head lim) (pairs_head_fair lim))
      (λ h. aloud_grows (row.map h.0 h.1 h.2) _ _
      (provided_grows (startable h.0 h.2) BAD_TYPE _ _ (provided_grows (startable h.1 h.2) BAD_TYPE _ _
      (making_grows (pairs_told (inner h.0) (inner h.1) h.2) _ _ (row_grows (pair_told (inner h.0) (inner h.1)) no_pairs add_pair (pair_grows (inner h.0) (inner h.1) (g h.0) (g h.1)) h.2)))))

  behind_grows : (go on : ℤ → Teller Fields) → ((id : ℤ) → Grows (go id) (on id)) → (x : Field) → Grows (behind_told inner go x) (behind_told inner on x)
  behind_grows go on h heads.stop = aloud_grows row.stop _ _ (done_grows no_fields)
  behind_grows go on h (heads.bool b id) = aloud_grows (row.field id T.Bool) _ _ (aloud_grows (row.scalar (S.Bool b)) _ _ (making_grows (go id) (on id) _ (h id)))
  behind_grows go on h (heads.value t id) = aloud_grows (row.field id t) _ _ (then_grows (inner t) (inner t) _ _ (g t) (λ v. making_grows (go id) (on id) _ (h id)))

  walk_grows : (j k : ℕ) → j ≤ k → (last : ℤ) → Grows (walk_told inner j last) (walk_told inner k last)
  unfolding walk_told
  walk_grows zero k h last = refuse_grows END (walk_told inner k last)
  walk_grows (suc j) zero h last = absurd (omega arith)
  walk_grows (suc j) (suc k) h last =
      then_grows (quiet (heads.field last)) (quiet (heads.field last)) _ _ (lawfully (heads.field last) (field_lawful last)) (behind_grows (walk_told inner j) (walk_told inner k) (walk_grows j k (omega arith)))

  fields_grows : (last : ℤ) → Grows (fields_told inner last) (fields_told inner last)
  unfolding fields_told
  fields_grows last =
      record {
        ends = λ bs a n e. (walk_grows (length bs) (length bs) (omega arith) last).ends bs a n e;
        grows = λ bs rest. (walk_grows (length bs) (length (bs ++ rest)) (longer bs rest) last).grows bs rest;
      }

  struct_grows : Grows (struct_told inner) (struct_told inner)
  unfolding struct_told
  struct_grows = aloud_grows row.struct _ _ (making_grows (fields_told inner (pos 0)) (fields_told inner (pos 0)) _ (fields_grows (pos 0)))

record Boxed (b : Boxes) : Type 0 where
  list : Grows b.list b.list
  set : Grows b.set b.set
  map : Grows b.map b.map
  struct : Grows b.struct b.struct

shaped_grows : (lim : TConfiguration) (b : Boxes) → Boxed b → (ty : TType) → Grows (shaped_told lim b ty) (shaped_told lim b ty)
shaped_grows lim b h T.Stop = refuse_grows BAD_TYPE _
shaped_grows lim b h T.Bool = voiced_grows truth _ _ truth_lawful
shaped_grows lim b h T.I08 = voiced_grows int8 _ _ int8_lawful
shaped_grows lim b h T.I16 = voiced_grows int16 _ _ int16_lawful
shaped_grows lim b h T.I32 = voiced_grows int32 _ _ int32_lawful
shaped_grows lim b h T.I64 = voiced_grows int64 _ _ int64_lawful
shaped_grows lim b h T.Double = voiced_grows double _ _ double_lawful
shaped_grows lim b h T.String = voiced_grows (binary lim) _ _ (binary_lawful lim)
shaped_grows lim b h T.List = h.list
shaped_grows lim b h T.Set = h.set
shaped_grows lim b h T.Map = h.map
shaped_grows lim b h T.Struct = h.struct
shaped_grows lim b h T.Uuid = voiced_grows uuid _ _ uuid_lawful

value_grows : (lim : TConfiguration) (room : ℕ) (ty : TType) → Grows (value_told lim room ty) (value_told lim room ty)
unfolding value_told
value_grows lim zero ty = shaped_grows lim shut_told (record { list = refuse_grows DEPTH _; set = refuse_grows DEPTH _; map = refuse_grows DEPTH _; struct = refuse_grows DEPTH _ }) ty
value_grows lim (suc room) ty =
    shaped_grows lim (roomy_told lim (value_told lim room))
    (record {
      list = items_grows lim (value_told lim room) (value_grows lim room) T.List val.list;
      set = items_grows lim (value_told lim room) (value_grows lim room) T.Set val.set;
      map = map_grows lim (value_told lim room) (value_grows lim room);
      struct = struct_grows lim (value_told lim room) (value_grows lim room);
    })
    ty

message_grows : (lim : TConfiguration) (room : ℕ) → Grows (message_told lim room) (message_told lim room)
unfolding message_told
message_grows lim room =
    then_grows (quiet (heads.message lim)) (quiet (heads.message lim)) _ _ (lawfully (heads.message lim) (message_lawful lim)) (λ m. aloud_grows (row.message m.0 m.1 m.2) _ _ (value_grows lim room T.Struct))

pub cut_lines : (s : List ℕ) (k : ℕ) → length s ≤ 65536 → (n : ℕ) × (last : Item) × (report (take k s) ≡ take n (report s) ++ (last ∷ []))
unfolding report whole
cut_lines s k h =
    let bs : List ℕ = take k s in
    let t : Told Tree = message_told limits 64 bs in
    let u : Told Tree = message_told limits 64 s in
    let b : Begins t u = subst (λ (cs : List ℕ). Begins t (message_told limits 64 cs)) (take-append-drop k s) ((message_grows limits 64).grows bs (drop k s)) in
    let short : length bs ≤ 65536 = omega (arith, length-take k s) in
    let all : report s ≡ t.items ++ (b.more ++ (ending (length s) u.found ∷ [])) =
    rw (le-ltb 65536 (length s) h) (ap (λ (is : List Item). is ++ (ending (length s) u.found ∷ [])) b.items ∙ append_assoc t.items b.more (ending (length s) u.found ∷ []))
    in (
      length t.items,
      ending (length bs) t.found,
      rw (le-ltb 65536 (length bs) short) (ap (λ (is : List Item). is ++ (ending (length bs) t.found ∷ [])) (sym (ap (take (length t.items)) all ∙ take_at t.items (b.more ++ (ending (length s) u.found ∷ [])) (length t.items) refl))),
    )
