-- What the calls of a frame leave with their caller: `w'` is behind the call what w was before it. Assumes nothing: these are definitions.
use Rattle.std.specs.Prelude.{ℕ, ◌≡◌, Bool, false, cond, List, length, eqb}
use Rattle.types.specs.Limits.{in_range}
use Rattle.types.specs.Refusals.{BAD_STATE}
use Rattle.types.specs.declared.TConfiguration.{TConfiguration}
use Rattle.frame.specs.declared.FrameSkip.{FrameSkip}
use Rattle.frame.specs.declared.FrameAnswer.{FrameAnswer}
use Rattle.frame.specs.declared.FrameAnswer.TheVariants as A
use Rattle.frame.specs.declared.Taken.{Taken}
use Rattle.frame.specs.State.{Begins, Took}
use Rattle.frame.specs.Numbers.{number_frame}
use Rattle.frame_rows.specs.Row.{frame_of, framed, limited}

-- the bytes used, told at the end alone
abbrev pub used_frame : ℕ → FrameAnswer → ℕ
used_frame used A.More = used
used_frame used (A.Done n) = n
used_frame used (A.Refused why) = used

-- BAD STATE "hands the state back as given"; any other refusal is kept
abbrev pub frame_after : List ℕ → FrameSkip → FrameAnswer → List ℕ
frame_after row f A.More = framed row f
frame_after row f (A.Done n) = framed row f
frame_after row f (A.Refused why) = cond (eqb why BAD_STATE) row (framed row f)

pub record ToldFrame (row row' : List ℕ) (used used' n : ℕ) (taken : Taken) : Type 0 where
  pub number : n ≡ number_frame taken.answer
  pub the_used : used' ≡ used_frame used taken.answer
  pub the_row : row' ≡ frame_after row taken.state taken.answer

-- a burst: what the call does with the state that the row holds
pub record TookFrame (row row' burst : List ℕ) (used used' n : ℕ) : Type 0 where
  pub taken : Taken
  pub took : Took (frame_of row) burst taken
  pub told : ToldFrame row row' used used' n taken

-- a row of another length can hold no state, and limits out of range make none
abbrev pub can_hold : List ℕ → TConfiguration → Bool
can_hold row lim = cond (eqb (length row) 268) (in_range lim) false

pub record AnnouncedFrame (row row' : List ℕ) (announced : ℕ) (lim : TConfiguration) (n : ℕ) : Type 0 where
  pub state : FrameSkip
  pub begins : Begins lim announced state
  pub number : n ≡ cond (can_hold row lim) 0 BAD_STATE
  pub the_row : row' ≡ cond (can_hold row lim) (framed (limited row lim) state) row
