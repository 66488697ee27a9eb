-- Many values that hold no other, one behind the other: what the code knows at each return and at each turn of its loops. Assumes nothing.
use mathlib.Core.Path.{◌≡◌, refl, sym, ap, ◌∙◌}
use mathlib.Core.Bool.{Bool, true, false, cond}
use mathlib.Core.List.{List}
use Prim.Native.Nat.{ℕ, zero, suc, ◌-◌, ◌*◌, ◌≤◌, ◌<◌}
use native.Mathlib.Omega.{arith}
use native.Mathlib.Nat.{mul-one, zero-mul, suc-mul}
use borrow.Author.Tests.{le-leb, lt-leb, eq-eqb, ne_eqb}
use lib.Dec.{leb}
use lib.ListN.{length, take, drop, length-drop}
use Rattle.types.specs.Refusals.{END, BAD_TYPE, DEPTH}
use Rattle.types.specs.declared.Place.{Place}
use Rattle.types.specs.declared.TType.{TType}
use Rattle.types.specs.declared.TType.TheVariants as T
use Rattle.types.specs.declared.TConfiguration.{TConfiguration}
use Rattle.types.specs.Value.{Tree}
use Rattle.numbers.specs.Varint.{Found, got, refused, groups, placed}
use Rattle.numbers.proofs.Found.{by_lt}
use Rattle.heads.specs.Reader.{Reader, done, refuse, and_then, some, read_at}
use Rattle.heads.specs.Heads.{int8, int16, int32, int64, double, uuid, truth, binary}
use Rattle.heads.specs.Answers.{place}
use Rattle.skip.specs.Value.{many, value_of}
use Rattle.skip.specs.Skip.{passed, past, skip_of}
use Rattle.skip.specs.Leaves.{times, none_of, scalar_of}
use Rattle.skip.specs.declared.Skipped.{Skipped}
use Rattle.skip.specs.declared.Skipped.TheVariants.{Done, Refused}
use Rattle.skip.proofs.Past.{read_past, refused_past, past_step, past_stop, past_made, past_refuse, past_done, pos_suc}
use Rattle.skip.proofs.Leaf.{i8_ends, i32_ends, i64_ends, double_ends, uuid_ends}

-- one of so many
module _ {A : Type 0} (q : Reader A) (s : List ℕ) where
  times_one : (n at : ℕ) (e : Place) → past q s at ≡ Done e → past (times (suc n) q) s at ≡ past (times n q) s e.0
  unfolding times
  times_one n at e f = let v = read_past q s at e f in past_step q _ s at v.0 e.0 v.1

  times_not : (n at why : ℕ) → past q s at ≡ Refused why → past (times (suc n) q) s at ≡ Refused why
  unfolding times
  times_not n at why f = past_stop q _ s at why (refused_past q s at why f)

  times_none : (at : ℕ) → past (times 0 q) s at ≡ Done (place at)
  unfolding times
  times_none at = past_done tt s at

  -- the loop: what is left answers what the whole does
  module _ (n at left : ℕ) (p : Place) (inv : past (times left q) s p.0 ≡ past (times n q) s at) where
    pub times_over : left ≤ 0 → Done p ≡ past (times n q) s at
    times_over z = let e : left ≡ 0 = omega arith in sym (times_none p.0) ∙ ap (λ (k : ℕ). past (times k q) s p.0) (sym e) ∙ inv

    module _ (h : 0 < left) (r : Skipped) (f : r ≡ past q s p.0) where
      pub times_again : (e : Place) → r ≡ Done e → past (times (left - 1) q) s e.0 ≡ past (times n q) s at
      times_again e g = sym (times_one (left - 1) p.0 e (sym f ∙ g)) ∙ ap (λ (k : ℕ). past (times k q) s p.0) (sym (pos_suc h)) ∙ inv

      pub times_broken : (why : ℕ) → r ≡ Refused why → Refused why ≡ past (times n q) s at
      times_broken why g = sym (times_not (left - 1) p.0 why (sym f ∙ g)) ∙ ap (λ (k : ℕ). past (times k q) s p.0) (sym (pos_suc h)) ∙ inv

pub ruleset times_cases = (times_over, times_again, times_broken)

-- readers that end alike, so many times
module _ {A : Type 0} (v : Reader Tree) (q : Reader A) (s : List ℕ) (same : (at : ℕ) → past v s at ≡ past q s at) where
  pub many_times : (n at : ℕ) → past (many v n) s at ≡ past (times n q) s at
  unfolding many
  many_times zero at = past_done _ s at ∙ sym (times_none q s at)
  many_times (suc n) at = go (past v s at) refl (many_times n)
    where
      go : (x : Skipped) → past v s at ≡ x → ((p : ℕ) → past (many v n) s p ≡ past (times n q) s p) → past (many v (suc n)) s at ≡ past (times (suc n) q) s at
      go (Done e) f rest =
          let r = read_past v s at e f in
          past_step v _ s at r.0 e.0 r.1 ∙ past_made (many v n) _ s e.0 ∙ rest e.0 ∙ sym (times_one q s n at e (sym (same at) ∙ f))
      go (Refused why) f rest = past_stop v _ s at why (refused_past v s at why f) ∙ sym (times_not q s n at why (sym (same at) ∙ f))

-- n times k bytes
fits : (b : Bool) (n k : ℕ) (x : Unit {0}) → placed k (cond b (got x (n * k)) (refused END)) ≡ cond b (got x (suc n * k)) (refused END)
fits true n k x = ap (got x) (omega (arith, suc-mul n k))
fits false n k x = refl

runs : (n k : ℕ) (bs : List ℕ) → times n (some k) bs ≡ cond (leb (n * k) (length bs)) (got tt (n * k)) (refused END)
unfolding times and_then some done
runs zero k bs = rw (zero-mul k, le-leb 0 (length bs) (omega arith))
runs (suc n) k bs =
    by_lt (length bs) k
    (λ h. rw (lt-leb k (length bs) h, lt-leb (suc n * k) (length bs) (omega (arith, suc-mul n k))))
    (λ h. rw (le-leb k (length bs) h)
    (ap (placed k) (runs n k (drop k bs)) ∙ fits (leb (n * k) (length (drop k bs))) n k tt ∙ ap (λ (b : Bool). cond b (got tt (suc n * k)) (refused END)) (same h)))
  where
    same : k ≤ length bs → leb (n * k) (length (drop k bs)) ≡ leb (suc n * k) (length bs)
    same h =
        by_lt (length (drop k bs)) (n * k)
        (λ l. lt-leb (n * k) (length (drop k bs)) l ∙ sym (lt-leb (suc n * k) (length bs) (omega (arith, suc-mul n k, length-drop k bs))))
        (λ l. le-leb (n * k) (length (drop k bs)) l ∙ sym (le-leb (suc n * k) (length bs) (omega (arith, suc-mul n k, length-drop k bs))))

pub times_some : (n k : ℕ) (s : List ℕ) (at : ℕ) → past (times n (some k)) s at ≡ past (some (n * k)) s at
unfolding past read_at some
times_some n k s at = ap (λ (x : Found (Unit {0})). passed (placed at x)) (runs n k (drop at s)) ∙ go (leb (n * k) (length (drop at s)))
  where
    go : (b : Bool) → passed (placed at (cond b (got (tt {0}) (n * k)) (refused END))) ≡ passed (placed at (cond b (got (take (n * k) (drop at s)) (n * k)) (refused END)))
    go true = refl
    go false = refl

-- n of what is refused each time
none_times : (why n : ℕ) (s : List ℕ) (at : ℕ) → none_of n why at ≡ past (times n (refuse {A = Tree} why)) s at
none_times why zero s at = sym (times_none (refuse {A = Tree} why) s at)
none_times why (suc n) s at = rw (ne_eqb (suc n) 0 (λ e. omega (arith, e))) (sym (times_not (refuse {A = Tree} why) s n at why (past_refuse Tree why s at)))

-- skip_leaves
module _ (s : List ℕ) (lim : TConfiguration) (kind : TType) (n at : ℕ) (r : Skipped) where
  as_times : {A : Type 0} (q : Reader A) → ((p : ℕ) → past (value_of lim 0 kind) s p ≡ past q s p) → r ≡ past (times n q) s at → r ≡ past (many (value_of lim 0 kind) n) s at
  as_times q h e = e ∙ sym (many_times (value_of lim 0 kind) q s h n at)

  as_bytes : (k m : ℕ) → ((p : ℕ) → past (value_of lim 0 kind) s p ≡ past (some k) s p) → m ≡ n * k → r ≡ past (some m) s at → r ≡ past (many (value_of lim 0 kind) n) s at
  as_bytes k m h g e = as_times (some k) h (e ∙ ap (λ (j : ℕ). past (some j) s at) g ∙ sym (times_some n k s at))

  pub leaves_bool : kind ≡ T.Bool → r ≡ past (times n truth) s at → r ≡ past (many (value_of lim 0 kind) n) s at
  unfolding value_of
  leaves_bool g e = as_times truth (λ p. rw g (past_made truth _ s p)) e

  pub leaves_i8 : kind ≡ T.I08 → r ≡ past (some n) s at → r ≡ past (many (value_of lim 0 kind) n) s at
  unfolding value_of
  leaves_i8 g e = as_bytes 1 n (λ p. rw g (past_made int8 _ s p ∙ i8_ends s p)) (sym (mul-one n)) e

  pub leaves_i16 : kind ≡ T.I16 → r ≡ past (times n int16) s at → r ≡ past (many (value_of lim 0 kind) n) s at
  unfolding value_of
  leaves_i16 g e = as_times int16 (λ p. rw g (past_made int16 _ s p)) e

  pub leaves_i32 : kind ≡ T.I32 → r ≡ past (times n (groups 5)) s at → r ≡ past (many (value_of lim 0 kind) n) s at
  unfolding value_of
  leaves_i32 g e = as_times (groups 5) (λ p. rw g (past_made int32 _ s p ∙ i32_ends s p)) e

  pub leaves_i64 : kind ≡ T.I64 → r ≡ past (times n (groups 10)) s at → r ≡ past (many (value_of lim 0 kind) n) s at
  unfolding value_of
  leaves_i64 g e = as_times (groups 10) (λ p. rw g (past_made int64 _ s p ∙ i64_ends s p)) e

  pub leaves_double : kind ≡ T.Double → r ≡ past (some (n * 8)) s at → r ≡ past (many (value_of lim 0 kind) n) s at
  unfolding value_of
  leaves_double g e = as_bytes 8 (n * 8) (λ p. rw g (past_made double _ s p ∙ double_ends s p)) refl e

  pub leaves_uuid : kind ≡ T.Uuid → r ≡ past (some (n * 16)) s at → r ≡ past (many (value_of lim 0 kind) n) s at
  unfolding value_of
  leaves_uuid g e = as_bytes 16 (n * 16) (λ p. rw g (past_made uuid _ s p ∙ uuid_ends s p)) refl e

  pub leaves_strings : kind ≡ T.String → r ≡ past (times n (binary lim)) s at → r ≡ past (many (value_of lim 0 kind) n) s at
  unfolding value_of
  leaves_strings g e = as_times (binary lim) (λ p. rw g (past_made (binary lim) _ s p)) e

  -- what is refused each time: Stop, and a container, for which there is no room
  refused_times : (why : ℕ) → value_of lim 0 kind ≡ refuse why → r ≡ none_of n why at → r ≡ past (many (value_of lim 0 kind) n) s at
  refused_times why g e = as_times (refuse {A = Tree} why) (λ p. ap (λ (v : Reader Tree). past v s p) g) (e ∙ none_times why n s at)

  pub leaves_stop : kind ≡ T.Stop → r ≡ none_of n BAD_TYPE at → r ≡ past (many (value_of lim 0 kind) n) s at
  unfolding value_of
  leaves_stop g e = refused_times BAD_TYPE (rw g) e

  pub leaves_list : kind ≡ T.List → r ≡ none_of n DEPTH at → r ≡ past (many (value_of lim 0 kind) n) s at
  unfolding value_of
  leaves_list g e = refused_times DEPTH (rw g) e

  pub leaves_set : kind ≡ T.Set → r ≡ none_of n DEPTH at → r ≡ past (many (value_of lim 0 kind) n) s at
  unfolding value_of
  leaves_set g e = refused_times DEPTH (rw g) e

  pub leaves_map : kind ≡ T.Map → r ≡ none_of n DEPTH at → r ≡ past (many (value_of lim 0 kind) n) s at
  unfolding value_of
  leaves_map g e = refused_times DEPTH (rw g) e

  pub leaves_struct : kind ≡ T.Struct → r ≡ none_of n DEPTH at → r ≡ past (many (value_of lim 0 kind) n) s at
  unfolding value_of
  leaves_struct g e = refused_times DEPTH (rw g) e

pub ruleset leaves_cases = (leaves_bool, leaves_i8, leaves_i16, leaves_i32, leaves_i64, leaves_double, leaves_uuid, leaves_strings, leaves_stop, leaves_list, leaves_set, leaves_map, leaves_struct)

-- skip_none
module _ (n why at : ℕ) where
  pub none_at_all : n ≡ 0 → Done (place at) ≡ none_of n why at
  none_at_all z = rw (eq-eqb n 0 z)

  pub none_some : (n ≡ 0 → ⊥) → Refused why ≡ none_of n why at
  none_some z = rw (ne_eqb n 0 z)

pub ruleset none_cases = (none_at_all, none_some)

-- skip_leaf: one is a run of one
pub one_leaf : (s : List ℕ) (lim : TConfiguration) (kind : TType) (at : ℕ) (r : Skipped) → r ≡ past (many (value_of lim 0 kind) 1) s at → r ≡ skip_of s lim 0 kind at
unfolding skip_of many
one_leaf s lim kind at r e = e ∙ go (past (value_of lim 0 kind) s at) refl
  where
    go : (x : Skipped) → past (value_of lim 0 kind) s at ≡ x → past (many (value_of lim 0 kind) 1) s at ≡ past (value_of lim 0 kind) s at
    go (Done p) f =
        let v = read_past (value_of lim 0 kind) s at p f in
        past_step (value_of lim 0 kind) _ s at v.0 p.0 v.1 ∙ past_made (many (value_of lim 0 kind) 0) _ s p.0 ∙ past_done _ s p.0 ∙ sym f
    go (Refused why) f = past_stop (value_of lim 0 kind) _ s at why (refused_past (value_of lim 0 kind) s at why f) ∙ sym f

-- skip_scalar
module _ (s : List ℕ) (kind : TType) (at : ℕ) (r : Skipped) where
  pub scalar_by : (t : TType) → kind ≡ t → r ≡ scalar_of s t at → r ≡ scalar_of s kind at
  scalar_by t k e = rw k e
