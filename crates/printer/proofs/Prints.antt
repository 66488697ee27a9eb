-- Printing what a telling tells, step by step: the text goes on where it ended, and so does the reading. Assumes nothing.
use mathlib.Core.Path.{◌≡◌, refl, sym, ap, ap₂, ◌∙◌}
use mathlib.Core.Bool.{Bool, true, false}
use mathlib.Core.List.{List, [], ◌∷◌, ◌++◌, append_assoc}
use Prim.Native.Nat.{ℕ}
use native.Mathlib.Nat.{add-zero}
use native.Mathlib.Omega.{arith}
use lib.ListN.{length, drop}
use lib.Seq.{drop-drop}
use Rattle.types.specs.declared.Place.{Place}
use Rattle.numbers.specs.Varint.{Found, got, refused, placed}
use Rattle.heads.specs.Reader.{Reader, done, refuse, read_at}
use Rattle.heads.specs.Answers.{place}
use Rattle.heads.proofs.Steps.{found_at, lost_at, placed_placed}
use Rattle.text.specs.Pen.{Pen, inked}
use Rattle.text.proofs.Inks.{inked_append, inked_none, inked_length}
use Rattle.lines.specs.Lines.{Item, line, lines}
use Rattle.printer.specs.Telling.{Told, Teller, quiet, aloud, onward_t, then_tell, making, provided_t, voiced}
use Rattle.printer.specs.Printing.{ended, prints}
use Rattle.printer.specs.declared.Printed.{Printed}
use Rattle.printer.specs.declared.Printed.TheVariants.{Went, Stopped}

-- an answer with the buffer beside it
abbrev pub Page : Type 0
Page = Printed × List ℕ

abbrev pen_of : List ℕ → ℕ → Pen
pen_of o to = (o, to)

abbrev gone_to : Pen → ℕ → Page
gone_to q e = (Went (place e) q.1, q.0)

abbrev halt_at : ℕ → Pen → Page
halt_at why q = (Stopped why q.1, q.0)

-- two answers are never one
pub went_stopped : {X : Type 0} {e : Place} {to why q : ℕ} → Went e to ≡ Stopped why q → X
went_stopped f = let z : ◌≡◌ {A = ℕ} 0 1 = cc in absurd (omega arith)

-- the lines of some items and then of others
pub lines_append : (is js : List Item) → lines (is ++ js) ≡ lines is ++ lines js
unfolding lines
lines_append [] js = refl
lines_append (i ∷ is) js = ap (λ (l : List ℕ). line i ++ l) (lines_append is js) ∙ sym (append_assoc (line i) (lines is) (lines js))

-- what a telling at a place finds, and the pen behind its lines
pub record Tells {A : Type 0} (t : Teller A) (s : List ℕ) (at : ℕ) (p : Pen) (x : Found A) (q : Pen) : Type 0 where
  pub finds : placed at (t (drop at s)).found ≡ x
  pub inks : q ≡ inked (lines (t (drop at s)).items) p

module _ {A : Type 0} (t : Teller A) (s : List ℕ) (at : ℕ) (p : Pen) where
  -- what was printed was told
  pub went : (r : Printed) (o : List ℕ) (e : Place) (to : ℕ) → (r, o) ≡ prints t s at p → r ≡ Went e to → (a : A) × Tells t s at p (got a e.0) (o, to)
  unfolding prints
  went r o e to f g = go (placed at (t (drop at s)).found) refl
    where
      go : (x : Found A) → placed at (t (drop at s)).found ≡ x → (a : A) × Tells t s at p (got a e.0) (o, to)
      go (got a m) h =
          let q = inked (lines (t (drop at s)).items) p in
          let k : ◌≡◌ {A = Page} (r, o) (gone_to q m) = f ∙ ap (λ (y : Found A). ended y q) h in
          let w : Went e to ≡ Went (place m) q.1 = sym g ∙ ap (λ (z : Page). z.0) k in
          let ee : e ≡ place m = cc in
          let tt : to ≡ q.1 = cc in
          (a, record { finds = h ∙ ap (λ (y : Place). got a y.0) (sym ee); inks = ap₂ pen_of (ap (λ (z : Page). z.1) k) tt })
      go (refused why) h =
          let q = inked (lines (t (drop at s)).items) p in
          let k : ◌≡◌ {A = Page} (r, o) (halt_at why q) = f ∙ ap (λ (y : Found A). ended y q) h in
          went_stopped (sym g ∙ ap (λ (z : Page). z.0) k)

  pub stopped : (r : Printed) (o : List ℕ) (why to : ℕ) → (r, o) ≡ prints t s at p → r ≡ Stopped why to → Tells t s at p (refused why) (o, to)
  unfolding prints
  stopped r o why to f g = go (placed at (t (drop at s)).found) refl
    where
      go : (x : Found A) → placed at (t (drop at s)).found ≡ x → Tells t s at p (refused why) (o, to)
      go (got a m) h =
          let q = inked (lines (t (drop at s)).items) p in
          let k : ◌≡◌ {A = Page} (r, o) (gone_to q m) = f ∙ ap (λ (y : Found A). ended y q) h in
          went_stopped (sym (sym g ∙ ap (λ (z : Page). z.0) k))
      go (refused u) h =
          let q = inked (lines (t (drop at s)).items) p in
          let k : ◌≡◌ {A = Page} (r, o) (halt_at u q) = f ∙ ap (λ (y : Found A). ended y q) h in
          let w : Stopped why to ≡ Stopped u q.1 = sym g ∙ ap (λ (z : Page). z.0) k in
          let ee : u ≡ why = cc in
          let tt : to ≡ q.1 = cc in
          record { finds = h ∙ ap refused ee; inks = ap₂ pen_of (ap (λ (z : Page). z.1) k) tt }

  -- and what is told is printed
  pub tells_prints : (x : Found A) (q : Pen) → Tells t s at p x q → ended x q ≡ prints t s at p
  unfolding prints
  tells_prints x q h = ap₂ ended (sym h.finds) h.inks

-- what a reader reads, and tells nothing
module _ {A : Type 0} (r : Reader A) (s : List ℕ) (at : ℕ) (p : Pen) where
  pub quiet_tells : (x : Found A) → read_at r s at ≡ x → Tells (quiet r) s at p x p
  unfolding quiet read_at lines
  quiet_tells x h = record { finds = h; inks = sym (inked_none p) }

module _ {A B : Type 0} (t : Teller A) (k : A → Teller B) (s : List ℕ) (at : ℕ) (p : Pen) where
  -- on, where the first was told; or its refusal
  pub prints_step : (a : A) (e : ℕ) (q : Pen) → Tells t s at p (got a e) q → prints (then_tell t k) s at p ≡ prints (k a) s e q
  unfolding prints then_tell
  prints_step a e q h =
      let g = found_at at (t (drop at s)).found a e h.finds in
      let n = g.0 in
      let d : drop n (drop at s) ≡ drop e s = drop-drop n at s ∙ ap (λ (m : ℕ). drop m s) g.2 in
      ap (λ (x : Told B). ended (placed at x.found) (inked (lines x.items) p)) (ap (onward_t k (drop at s) (t (drop at s)).items) g.1)
      ∙ ap₂ ended
      (placed_placed at n (k a (drop n (drop at s))).found ∙ ap₂ (λ (m : ℕ) (l : List ℕ). placed m (k a l).found) g.2 d)
      (ap (λ (l : List ℕ). inked l p) (lines_append (t (drop at s)).items (k a (drop n (drop at s))).items)
      ∙ inked_append (lines (t (drop at s)).items) (lines (k a (drop n (drop at s))).items) p
      ∙ ap₂ (λ (l : List ℕ) (y : Pen). inked (lines (k a l).items) y) d (sym h.inks))

  pub prints_stop : (why : ℕ) (q : Pen) → Tells t s at p (refused why) q → prints (then_tell t k) s at p ≡ (Stopped why q.1, q.0)
  unfolding prints then_tell
  prints_stop why q h =
      let g = lost_at at (t (drop at s)).found why h.finds in
      ap (λ (x : Told B). ended (placed at x.found) (inked (lines x.items) p)) (ap (onward_t k (drop at s) (t (drop at s)).items) g)
      ∙ ap (halt_at why) (sym h.inks)

-- an item, and then on
pub prints_aloud : {A : Type 0} (i : Item) (t : Teller A) (s : List ℕ) (at : ℕ) (p q : Pen) → q ≡ inked (line i) p → prints (aloud i t) s at p ≡ prints t s at q
unfolding prints aloud lines
prints_aloud i t s at p q e =
    ap (ended (placed at (t (drop at s)).found)) (inked_append (line i) (lines (t (drop at s)).items) p ∙ ap (inked (lines (t (drop at s)).items)) (sym e))

-- what is made of a value moves nothing
pub prints_done : {A : Type 0} (a : A) (s : List ℕ) (at : ℕ) (p : Pen) → prints (quiet (done a)) s at p ≡ (Went (place at) p.1, p.0)
unfolding prints quiet done lines inked
prints_done a s at p = ap (gone_to p) (add-zero at)

pub prints_refuse : (A : Type 0) (why : ℕ) (s : List ℕ) (at : ℕ) (p : Pen) → prints (quiet (refuse {A = A} why)) s at p ≡ (Stopped why p.1, p.0)
unfolding prints quiet refuse lines inked
prints_refuse A why s at p = refl

pub prints_made : {A B : Type 0} (t : Teller A) (g : A → B) (s : List ℕ) (at : ℕ) (p : Pen) → prints (making t g) s at p ≡ prints t s at p
prints_made {A} {B} t g s at p = go (placed at (t (drop at s)).found) refl
  where
    q : Pen
    q = inked (lines (t (drop at s)).items) p

    go : (x : Found A) → placed at (t (drop at s)).found ≡ x → prints (making t g) s at p ≡ prints t s at p
    go (got a e) h =
        let w : Tells t s at p (got a e) q = record { finds = h; inks = refl } in
        prints_step t (λ b. quiet (done (g b))) s at p a e q w ∙ prints_done (g a) s e q ∙ tells_prints t s at p (got a e) q w
    go (refused why) h =
        let w : Tells t s at p (refused why) q = record { finds = h; inks = refl } in
        prints_stop t (λ b. quiet (done (g b))) s at p why q w ∙ tells_prints t s at p (refused why) q w

module _ {A : Type 0} (ok : Bool) (why : ℕ) (t : Teller A) (s : List ℕ) (at : ℕ) (p : Pen) where
  pub prints_yes : ok ≡ true → prints (provided_t ok why t) s at p ≡ prints t s at p
  unfolding prints provided_t
  prints_yes e = rw e

  pub prints_no : ok ≡ false → prints (provided_t ok why t) s at p ≡ (Stopped why p.1, p.0)
  unfolding prints provided_t lines inked
  prints_no e = rw e

-- the buffer keeps its length
ended_length : {A : Type 0} (x : Found A) (q : Pen) → length (ended x q).1 ≡ length q.0
ended_length (got a e) q = refl
ended_length (refused why) q = refl

pub prints_length : {A : Type 0} (t : Teller A) (s : List ℕ) (at : ℕ) (p : Pen) → length (prints t s at p).1 ≡ length p.0
unfolding prints
prints_length t s at p =
    ended_length (placed at (t (drop at s)).found) (inked (lines (t (drop at s)).items) p) ∙ inked_length (lines (t (drop at s)).items) p

pub same_length : {A B : Type 0} (t : Teller A) (u : Teller B) (s : List ℕ) (at e : ℕ) (out out₀ : List ℕ) (q to : ℕ) → prints t s at (out, q) ≡ prints u s e (out₀, to) → length out ≡ length out₀
same_length t u s at e out out₀ q to f =
    sym (prints_length t s at (out, q)) ∙ ap (λ (z : Page). length z.1) f ∙ prints_length u s e (out₀, to)

-- and keeps it in one call more
pub same_one : {A B : Type 0} (t : Teller A) (u : Teller B) (s : List ℕ) (at e : ℕ) (o out out₀ : List ℕ) (q to : ℕ) → length o ≡ length out → prints t s at (out, q) ≡ prints u s e (out₀, to) → length o ≡ length out₀
same_one t u s at e o out out₀ q to l f = l ∙ same_length t u s at e out out₀ q to f

pub ruleset lengths = (same_length, same_one)

-- what a reader reads, told as an item
module _ {A B : Type 0} (r : Reader A) (i : A → Item) (g : A → B) (s : List ℕ) (at : ℕ) (out : List ℕ) (to : ℕ) where
  pub voiced_got : (a : A) (e : ℕ) (o : List ℕ) (q : ℕ) → read_at r s at ≡ got a e → (o, q) ≡ inked (line (i a)) (out, to) → (Went (place e) q, o) ≡ prints (voiced r i g) s at (out, to)
  unfolding voiced
  voiced_got a e o q h f =
      sym (prints_step (quiet r) (λ b. aloud (i b) (quiet (done (g b)))) s at (out, to) a e (out, to) (quiet_tells r s at (out, to) (got a e) h)
      ∙ prints_aloud (i a) (quiet (done (g a))) s e (out, to) (o, q) f
      ∙ prints_done (g a) s e (o, q))

  pub voiced_no : (why : ℕ) → read_at r s at ≡ refused why → (Stopped why to, out) ≡ prints (voiced r i g) s at (out, to)
  unfolding voiced
  voiced_no why h = sym (prints_stop (quiet r) (λ b. aloud (i b) (quiet (done (g b)))) s at (out, to) why (out, to) (quiet_tells r s at (out, to) (refused why) h))
