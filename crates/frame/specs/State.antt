-- The state as the code holds it, and the machine's rest that it stands for. Assumes nothing: these are definitions.
use Rattle.std.specs.Prelude.{ℕ, zero, suc, ◌+◌, ◌-◌, ◌≤◌, ◌<◌, ◌^◌, Bool, true, false, cond, List, [], ◌∷◌, eqb, leb, ltb, ℤ, pos, negsuc, get_or, length, take, ◌≡◌}
use Rattle.types.specs.declared.TConfiguration.{TConfiguration}
use Rattle.types.specs.Refusals.{END, BAD_TYPE, DEPTH, BAD_STATE, RANGE}
use Rattle.heads.specs.Reader.{missing}
use Rattle.heads.specs.Answers.{id_of}
use Rattle.skip.specs.Skip.{skip_of}
use Rattle.skip.specs.declared.Skipped.{Skipped}
use Rattle.skip.specs.declared.Skipped.TheVariants as K
use Rattle.types.specs.declared.TType.TheVariants as T
use Rattle.frame.specs.declared.Nest.{Nest}
use Rattle.frame.specs.declared.Nest.TheVariants.{Fields, Items, Keys, Values}
use Rattle.frame.specs.declared.Level.{Level}
use Rattle.frame.specs.declared.Goal.{Goal}
use Rattle.frame.specs.declared.Goal.TheVariants as O
use Rattle.frame.specs.declared.Wait.{Wait}
use Rattle.frame.specs.declared.Wait.TheVariants as W
use Rattle.frame.specs.declared.Moved.{Moved}
use Rattle.frame.specs.declared.Moved.TheVariants as M
use Rattle.frame.specs.declared.Now.{Now}
use Rattle.frame.specs.declared.Now.TheVariants as N
use Rattle.frame.specs.declared.Resting.{Resting}
use Rattle.frame.specs.declared.Stand.{Stand}
use Rattle.frame.specs.declared.Progress.{Progress}
use Rattle.frame.specs.declared.FrameSkip.{FrameSkip}
use Rattle.frame.specs.declared.FrameAnswer.{FrameAnswer}
use Rattle.frame.specs.declared.FrameAnswer.TheVariants as A
use Rattle.frame.specs.declared.Taken.{Taken}
use Rattle.types.specs.Limits.{in_range}
use Rattle.frame.specs.Frame.{cut_of}
use Rattle.frame.specs.Machine.{Rest, asks, ended, stopped, Fit, Run, running, ran, start}

abbrev pub level_of : Nest → Level
level_of l = record { 0 = l }

abbrev pub nest_at : List Level → ℕ → Nest
nest_at levels i = (get_or levels i (level_of (Fields (id_of (pos 0))))).0

-- what is open, the innermost first: the last of the rows below the depth
unfoldable pub held : List Level → ℕ → List Nest
held levels zero = []
held levels (suc d) = nest_at levels d ∷ held levels d

abbrev pub rest_now : List Nest → ℕ → Now → Rest
rest_now ls body (N.Asks w) = asks ls body w
rest_now ls body (N.Done n) = ended n
rest_now ls body (N.Refused why) = stopped why

unfoldable pub rest_of : Stand → Rest
rest_of o = rest_now (held o.levels o.depth) o.body o.rest.0

-- what is handed back stands for a rest, with no more open than the limit
pub record Stands (lim : TConfiguration) (r : Rest) (o : Stand) : Type 0 where
  pub is : rest_of o ≡ r
  pub within : o.depth ≤ lim.depth
  pub rows : length o.levels ≡ 64

unfoldable pub asked : ℕ → ℕ → Wait → Resting
asked left body w = cond (ltb body left) (record { 0 = N.Asks w }) (record { 0 = N.Refused END })

-- where a refusal stops, and where a byte is asked for
abbrev pub stops_at : List Level → ℕ → ℕ → ℕ → Stand
stops_at rows d body why = record { levels = rows; depth = d; body = body; rest = record { 0 = N.Refused why } }

abbrev pub waits_at : ℕ → List Level → ℕ → ℕ → Wait → Stand
waits_at left rows d body w = record { levels = rows; depth = d; body = body; rest = asked left body w }

-- how many more will be open once what is waited for has come
abbrev pub goal_need : Goal → ℕ
goal_need O.Flag = 0
goal_need (O.Id t) = 0
goal_need (O.Count t) = 1
goal_need O.Pairs = 1
goal_need O.Length = 0
goal_need O.Short = 0

abbrev pub need : Wait → ℕ
need W.Head = 0
need W.Truth = 0
need W.List = 1
need (W.Types n) = 1
need (W.Varint g p) = goal_need g
need (W.Number k) = 0

-- a move that there is room for where so many are open
unfoldable pub Allowed : TConfiguration → ℕ → Moved → Type 0
Allowed lim d (M.Refused why) = Unit {0}
Allowed lim d (M.Waits w) = d + need w ≤ lim.depth
Allowed lim d (M.Passed n) = Unit {0}
Allowed lim d M.Closed = Unit {0}
Allowed lim d (M.Opened l) = d < lim.depth
Allowed lim d (M.Named id) = Unit {0}
Allowed lim d (M.Valued id t) = Unit {0}

-- the numbers that a frame's bytes are refused by: 1, 4 to 10, 17
abbrev pub is_refusal : ℕ → Bool
is_refusal why = cond (eqb why END) true (cond (eqb why RANGE) true (cond (leb BAD_TYPE why) (leb why DEPTH) false))

-- a rest that a run leads to: a wait that fits what is open, for a byte that the frame has behind those to pass over
unfoldable pub Sound : ℕ → Rest → Type 0
Sound left (asks ls body w) = (body < left) × Fit ls w
Sound left (ended body) = body ≤ left
Sound left (stopped why) = is_refusal why ≡ true

-- something is open where a byte is waited for, and there is room for what that opens
unfoldable pub Deep : TConfiguration → Rest → Type 0
Deep lim (asks ls body w) = (0 < length ls) × (length ls + need w ≤ lim.depth)
Deep lim (ended body) = Unit {0}
Deep lim (stopped why) = Unit {0}

-- where a frame stands, so many of its bytes left and so many taken
pub record Standing (lim : TConfiguration) (all left taken : ℕ) (o : Stand) : Type 0 where
  pub most : lim.depth ≤ 64
  pub rows : length o.levels ≡ 64
  pub sum : taken + left ≡ all
  pub fits : all < 2 ^ 64
  pub sound : Sound left (rest_of o)
  pub deep : Deep lim (rest_of o)

abbrev pub progress_of : ℕ → ℕ → Stand → Progress
progress_of left taken o = record { left = left; taken = taken; stand = o }

unfoldable pub ran_to : Progress → Run
ran_to p = running p.left p.taken (rest_of p.stand)

unfoldable pub run_of : FrameSkip → Run
run_of f = running f.left f.taken (rest_of f.stand)

-- A FRAME IN ONE BURST

-- a frame that nothing has come of: it waits for the first header of its struct
abbrev pub is_none : ℤ → Bool
is_none (pos zero) = true
is_none (pos (suc n)) = false
is_none (negsuc n) = false

unfoldable pub is_first : Nest → Bool
is_first (Fields id) = is_none id.0
is_first (Items t n) = false
is_first (Keys k v n) = false
is_first (Values k v n) = false

unfoldable pub is_head : Now → Bool
is_head (N.Asks W.Head) = true
is_head (N.Asks W.Truth) = false
is_head (N.Asks W.List) = false
is_head (N.Asks (W.Types n)) = false
is_head (N.Asks (W.Varint g p)) = false
is_head (N.Asks (W.Number k)) = false
is_head (N.Done n) = false
is_head (N.Refused why) = false

unfoldable pub is_start : ℕ → ℕ → Nest → Now → Bool
is_start depth body top n = cond (eqb depth 1) (cond (eqb body 0) (cond (is_head n) (is_first top) false) false) false

-- the bytes that skip passes over, where the burst holds the whole frame and skip does not refuse it; else 0
abbrev pub used_by : Skipped → ℕ
used_by (K.Done p) = p.0
used_by (K.Refused why) = 0

unfoldable pub whole_of : TConfiguration → ℕ → List ℕ → ℕ
whole_of lim left bs = cond (ltb (length bs) left) 0 (used_by (skip_of (take left bs) lim lim.depth T.Struct 0))

-- where a struct has ended
abbrev pub ends_at : List Level → Stand
ends_at rows = record { levels = rows; depth = 0; body = 0; rest = record { 0 = N.Done 0 } }

-- THE TESTS OF A STATE

abbrev pub is_fields : Nest → Bool
is_fields (Fields id) = true
is_fields (Items t n) = false
is_fields (Keys k v n) = false
is_fields (Values k v n) = false

unfoldable pub ready_by : Nest → Wait → Bool
ready_by top W.Head = is_fields top
ready_by top W.Truth = true
ready_by top W.List = true
ready_by top (W.Types n) = true
ready_by top (W.Varint g p) = leb p.groups 4
ready_by top (W.Number k) = leb 1 k

-- a wait that the rows, the bytes left and the limits bear out
unfoldable pub waits_well : TConfiguration → ℕ → List Level → ℕ → ℕ → Wait → Bool
waits_well lim left rows d body w =
    cond (eqb d 0) false
    (cond (ltb 64 lim.depth) false
    (cond (ltb lim.depth d) false (cond (ltb (lim.depth - d) (need w)) false (cond (leb left body) false (ready_by (nest_at rows (d - 1)) w)))))

abbrev pub rest_sound : FrameSkip → Now → Bool
rest_sound f (N.Asks w) = waits_well f.limits f.left f.stand.levels f.stand.depth f.stand.body w
rest_sound f (N.Done n) = leb n f.left
rest_sound f (N.Refused why) = is_refusal why

-- what was taken and what is left end no later than the ceiling, and at it where announced bytes lie behind
unfoldable pub counts_well : ℕ → ℕ → ℕ → ℕ → Bool
counts_well most left taken behind =
    cond (leb left most) (cond (leb taken (most - left)) (cond (eqb behind 0) true (eqb taken (most - left))) false) false

-- "BAD STATE": a limit out of range, bytes past the cut, a wait that nothing bears out, a refusal that no byte leads to
unfoldable pub sound_of : FrameSkip → Bool
sound_of f =
    cond (in_range f.limits) (cond (counts_well f.limits.message f.left f.taken f.behind) (rest_sound f f.stand.rest.0) false) false

-- "answers 'more', 'done, bytes used' or a refusal"; a byte missed at the cut is MESSAGE SIZE where announced bytes lie behind it
abbrev pub answer_now : Bool → ℕ → Now → FrameAnswer
answer_now more taken (N.Asks w) = A.More
answer_now more taken (N.Done n) = A.Done (taken + n)
answer_now more taken (N.Refused why) = A.Refused (missing more why)

unfoldable pub answer_of : FrameSkip → FrameAnswer
answer_of f = answer_now (ltb 0 f.behind) f.taken f.stand.rest.0

-- BAD STATE "hands the state back as given"
abbrev pub bad_state : FrameSkip → Taken
bad_state f = record { answer = A.Refused BAD_STATE; state = f }

-- what a burst leads to: the run over its bytes, and what that tells
pub record Went (f : FrameSkip) (bs : List ℕ) (r : Taken) : Type 0 where
  pub run : run_of r.state ≡ ran f.limits f.left f.taken (rest_of f.stand) bs
  pub limits : r.state.limits ≡ f.limits
  pub behind : r.state.behind ≡ f.behind
  pub answer : r.answer ≡ answer_of r.state
  pub stands : Standing f.limits (f.taken + f.left) r.state.left r.state.taken r.state.stand

-- "after a final answer further bursts change nothing"
pub record Took (f : FrameSkip) (bs : List ℕ) (r : Taken) : Type 0 where
  pub bad : sound_of f ≡ false → r ≡ bad_state f
  pub kept : sound_of f ≡ true → (answer_of f ≡ A.More → ⊥) → r ≡ record { answer = answer_of f; state = f }
  pub well : sound_of f ≡ true → Went f bs r

-- how a frame begins: the machine's start, up to the cut
pub record Begins (lim : TConfiguration) (announced : ℕ) (f : FrameSkip) : Type 0 where
  pub limits : f.limits ≡ lim
  pub behind : in_range lim ≡ true → f.behind ≡ announced - cut_of lim announced
  pub run : in_range lim ≡ true → run_of f ≡ running (cut_of lim announced) 0 (start lim (cut_of lim announced))
  pub stands : in_range lim ≡ true → Standing lim (cut_of lim announced) f.left f.taken f.stand

-- "Closing early gives END unless a refusal came before": no byte comes any more, at the cut or behind it
abbrev pub shut_of : FrameSkip → FrameSkip
shut_of f =
    record {
      limits = f.limits;
      left = f.left;
      taken = f.taken;
      behind = 0;
      stand = record { levels = f.stand.levels; depth = f.stand.depth; body = f.stand.body; rest = record { 0 = N.Refused END } };
    }

abbrev pub closed_now : FrameSkip → FrameAnswer → Taken
closed_now f A.More = record { answer = A.Refused END; state = shut_of f }
closed_now f (A.Done n) = record { answer = A.Done n; state = f }
closed_now f (A.Refused why) = record { answer = A.Refused why; state = f }

unfoldable pub close_of : FrameSkip → Taken
close_of f = cond (sound_of f) (closed_now f (answer_of f)) (bad_state f)
