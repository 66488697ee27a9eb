-- What the calls of a frame leave, at each of their returns. Assumes nothing.
use mathlib.Core.Path.{◌≡◌, subst}
use mathlib.Core.Bool.{Bool, true, false}
use mathlib.Core.List.{List}
use Prim.Native.Nat.{ℕ}
use borrow.Author.Tests.{eq-eqb, ne_eqb}
use lib.ListN.{length}
use Rattle.types.specs.Limits.{in_range}
use Rattle.types.specs.Refusals.{BAD_STATE}
use Rattle.types.specs.declared.TConfiguration.{TConfiguration}
use Rattle.frame.specs.declared.FrameSkip.{FrameSkip}
use Rattle.frame.specs.declared.FrameAnswer.TheVariants as A
use Rattle.frame.specs.declared.Taken.{Taken}
use Rattle.frame.specs.State.{Begins, Took, close_of}
use Rattle.frame_rows.specs.Row.{frame_of, framed, limited}
use Rattle.frame.specs.Numbers.{number_frame}
use Rattle.frame_rows.specs.Tell.{frame_after, ToldFrame, TookFrame, AnnouncedFrame}

module _ (row : List ℕ) (announced : ℕ) (lim : TConfiguration) (f : FrameSkip) (b : Begins lim announced f) where
  pub announce_short : (length row ≡ 268 → ⊥) → AnnouncedFrame row row announced lim BAD_STATE
  announce_short h = record { state = f; begins = b; number = rw (ne_eqb (length row) 268 h); the_row = rw (ne_eqb (length row) 268 h) }

  module _ (h : length row ≡ 268) (ok : Bool) (e : ok ≡ in_range lim) where
    pub announce_limits : ok ≡ false → AnnouncedFrame row row announced lim BAD_STATE
    announce_limits g = record { state = f; begins = b; number = rw (eq-eqb (length row) 268 h, ← e, g); the_row = rw (eq-eqb (length row) 268 h, ← e, g) }

    pub announce_done : (r₁ r₂ : List ℕ) → ok ≡ true → r₁ ≡ limited row lim → r₂ ≡ framed r₁ f → AnnouncedFrame row r₂ announced lim 0
    announce_done r₁ r₂ g k l = record { state = f; begins = b; number = rw (eq-eqb (length row) 268 h, ← e, g); the_row = rw (eq-eqb (length row) 268 h, ← e, g, ← k) l }

pub ruleset announcing = (announce_short, announce_limits, announce_done)

module _ (row row' : List ℕ) (used n : ℕ) (t : Taken) (e : n ≡ number_frame t.answer) (g : row' ≡ frame_after row t.state t.answer) where
  pub told_more : t.answer ≡ A.More → ToldFrame row row' used used n t
  told_more h = record { number = e; the_used = rw h; the_row = g }

  pub told_done : (m : ℕ) → t.answer ≡ A.Done m → ToldFrame row row' used m n t
  told_done m h = record { number = e; the_used = rw h; the_row = g }

  pub told_refused : (why : ℕ) → t.answer ≡ A.Refused why → ToldFrame row row' used used n t
  told_refused why h = record { number = e; the_used = rw h; the_row = g }

module _ (row row' : List ℕ) (used used' n : ℕ) (t : Taken) (f : FrameSkip) (e : f ≡ frame_of row) where
  pub took_frame : (burst : List ℕ) → Took f burst t → ToldFrame row row' used used' n t → TookFrame row row' burst used used' n
  took_frame burst h k = record { taken = t; took = subst (λ (x : FrameSkip). Took x burst t) e h; told = k }

  pub closed_frame : t ≡ close_of f → ToldFrame row row' used used' n t → ToldFrame row row' used used' n (close_of (frame_of row))
  closed_frame h k = subst (λ (x : Taken). ToldFrame row row' used used' n x) (rw (← e) h) k

pub ruleset taking = (took_frame, told_more, told_done, told_refused)

pub ruleset closing = (closed_frame, told_more, told_done, told_refused)
