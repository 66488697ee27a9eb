-- What the functions that write a row leave in it at each of their returns. Assumes nothing.
use mathlib.Core.Path.{◌≡◌, refl}
use mathlib.Core.Bool.{Bool, true, false}
use mathlib.Core.List.{List}
use Prim.Native.Nat.{ℕ, suc, ◌+◌, ◌*◌, ◌≤◌, ◌<◌}
use native.Mathlib.Omega.{arith}
use borrow.Author.Rules.{sfits_of}
use borrow.Author.Tests.{lt-ltb, le-ltb, eq-eqb, ne_eqb}
use lib.ListN.{get_or, set}
use lib.IntN.{ℤ, pos}
use mir.Syntax.{w16}
use mir.Val.{of_z}
use mir.Facts.{to_z-of_z}
use Rattle.types.specs.Codes.{type_code}
use Rattle.types.specs.declared.TType.{TType}
use Rattle.types.specs.declared.TConfiguration.{TConfiguration}
use Rattle.types.specs.declared.FieldId.{FieldId}
use Rattle.heads.specs.Answers.{id_of}
use Rattle.rows.specs.Row.{limits_of}
use Rattle.frame.specs.declared.Nest.{Nest}
use Rattle.frame.specs.declared.Nest.TheVariants.{Fields, Items, Keys, Values}
use Rattle.frame.specs.declared.Level.{Level}
use Rattle.frame.specs.declared.Part.{Part}
use Rattle.frame.specs.declared.Goal.{Goal}
use Rattle.frame.specs.declared.Goal.TheVariants as O
use Rattle.frame.specs.declared.Wait.{Wait}
use Rattle.frame.specs.declared.Wait.TheVariants as W
use Rattle.frame.specs.declared.Now.{Now}
use Rattle.frame.specs.declared.Now.TheVariants as N
use Rattle.frame.specs.declared.Resting.{Resting}
use Rattle.frame.specs.declared.FrameSkip.{FrameSkip}
use Rattle.frame.specs.declared.FrameAnswer.{FrameAnswer}
use Rattle.frame.specs.declared.FrameAnswer.TheVariants as A
use Rattle.frame.specs.State.{level_of}
use Rattle.frame_rows.specs.Row.{holds, levels_of, rest_in, put_counts, put_places, frame_in, no_frame, frame_of, put_typed, put_nest, put_goal, put_form, put_wait, put_now, put_nests, most_open, framed, limited}
use Rattle.frame_rows.proofs.Cases.{depth_held}
use Rattle.frame.specs.Numbers.{MORE, number_frame}
use Rattle.frame_rows.specs.Tell.{frame_after}

module _ (row r₁ r₂ : List ℕ) where
  pub typed_put : (r₃ : List ℕ) (i form c n : ℕ) (k : TType) → r₁ ≡ set row (12 + 4 * i) form → c ≡ type_code k → r₂ ≡ set r₁ (13 + 4 * i) c → r₃ ≡ set r₂ (15 + 4 * i) n → r₃ ≡ put_typed row i form k n
  unfolding put_typed
  typed_put r₃ i form c n k e f g h = rw (← e, ← f, ← g) h

  module _ (i : ℕ) (nest : Nest) where
    pub put_fields : (id : FieldId) (m : ℕ) (y : ℤ) → nest ≡ Fields id → r₁ ≡ set row (12 + 4 * i) 0 → m ≡ of_z w16 y → y ≡ id.0 → r₂ ≡ set r₁ (15 + 4 * i) m → r₂ ≡ put_nest row i nest
    unfolding put_nest
    put_fields id m y e f g h k = rw (e, ← f, ← h, ← g) k

    pub put_items : (k : TType) (n : ℕ) → nest ≡ Items k n → r₁ ≡ put_typed row i 1 k n → r₁ ≡ put_nest row i nest
    unfolding put_nest
    put_items k n e f = rw e f

    module _ (k v : TType) (n c : ℕ) (f : c ≡ type_code v) (g : r₁ ≡ set row (14 + 4 * i) c) where
      pub put_keys : nest ≡ Keys k v n → r₂ ≡ put_typed r₁ i 2 k n → r₂ ≡ put_nest row i nest
      unfolding put_nest
      put_keys e h = rw (e, ← f, ← g) h

      pub put_values : nest ≡ Values k v n → r₂ ≡ put_typed r₁ i 3 k n → r₂ ≡ put_nest row i nest
      unfolding put_nest
      put_values e h = rw (e, ← f, ← g) h

pub ruleset typed_puts = (typed_put)

pub ruleset nest_puts = (put_fields, put_items, put_keys, put_values, to_z-of_z, sfits_of)

-- the loop over the open ones
pub nests_begin : (row : List ℕ) (levels : List Level) → row ≡ put_nests row levels 0
unfolding put_nests
nests_begin row levels = refl

pub nests_next : (row₀ row row' : List ℕ) (levels : List Level) (i : ℕ) → row ≡ put_nests row₀ levels i → row' ≡ put_nest row i (get_or levels i (level_of (Fields (id_of (pos 0))))).0 → row' ≡ put_nests row₀ levels (i + 1)
unfolding put_nests
nests_next row₀ row row' levels i e f = let n : i + 1 ≡ suc i = omega arith in rw (n, ← e) f

pub nests_end : (row₀ row : List ℕ) (levels : List Level) (i depth : ℕ) → row ≡ put_nests row₀ levels i → i ≤ depth → depth ≤ i → row ≡ put_nests row₀ levels depth
nests_end row₀ row levels i depth e a b = let n : i ≡ depth = omega arith in rw (← n) e

-- what a number is for
module _ (row r₁ r₂ : List ℕ) (goal : Goal) where
  pub goal_flag : goal ≡ O.Flag → r₁ ≡ set row 9 0 → r₁ ≡ put_goal row goal
  unfolding put_goal
  goal_flag e f = rw e f

  module _ (t : TType) (c : ℕ) (f : c ≡ type_code t) where
    pub goal_id : goal ≡ O.Id t → r₁ ≡ set row 9 1 → r₂ ≡ set r₁ 10 c → r₂ ≡ put_goal row goal
    unfolding put_goal
    goal_id e g h = rw (e, ← g, ← f) h

    pub goal_count : goal ≡ O.Count t → r₁ ≡ set row 9 2 → r₂ ≡ set r₁ 10 c → r₂ ≡ put_goal row goal
    unfolding put_goal
    goal_count e g h = rw (e, ← g, ← f) h

  pub goal_pairs : goal ≡ O.Pairs → r₁ ≡ set row 9 3 → r₁ ≡ put_goal row goal
  unfolding put_goal
  goal_pairs e f = rw e f

  pub goal_length : goal ≡ O.Length → r₁ ≡ set row 9 4 → r₁ ≡ put_goal row goal
  unfolding put_goal
  goal_length e f = rw e f

  pub goal_short : goal ≡ O.Short → r₁ ≡ set row 9 5 → r₁ ≡ put_goal row goal
  unfolding put_goal
  goal_short e f = rw e f

pub ruleset goal_puts = (goal_flag, goal_id, goal_count, goal_pairs, goal_length, goal_short)

pub form_put : (row r₁ r₂ : List ℕ) (form n : ℕ) → r₁ ≡ set row 7 form → r₂ ≡ set r₁ 8 n → r₂ ≡ put_form row form n
unfolding put_form
form_put row r₁ r₂ form n e f = rw (← e) f

pub ruleset form_puts = (form_put)

module _ (row r₁ : List ℕ) (wait : Wait) where
  pub wait_head : wait ≡ W.Head → r₁ ≡ set row 7 0 → r₁ ≡ put_wait row wait
  unfolding put_wait
  wait_head e f = rw e f

  pub wait_truth : wait ≡ W.Truth → r₁ ≡ set row 7 1 → r₁ ≡ put_wait row wait
  unfolding put_wait
  wait_truth e f = rw e f

  pub wait_list : wait ≡ W.List → r₁ ≡ set row 7 2 → r₁ ≡ put_wait row wait
  unfolding put_wait
  wait_list e f = rw e f

  pub wait_types : (n : ℕ) → wait ≡ W.Types n → r₁ ≡ put_form row 3 n → r₁ ≡ put_wait row wait
  unfolding put_wait
  wait_types n e f = rw e f

  pub wait_varint : (g : Goal) (p : Part) (r₂ r₃ : List ℕ) → wait ≡ W.Varint g p → r₁ ≡ put_form row 4 p.low → r₂ ≡ set r₁ 11 p.groups → r₃ ≡ put_goal r₂ g → r₃ ≡ put_wait row wait
  unfolding put_wait
  wait_varint g p r₂ r₃ e f h k = rw (e, ← f, ← h) k

  pub wait_number : (k : ℕ) → wait ≡ W.Number k → r₁ ≡ put_form row 5 k → r₁ ≡ put_wait row wait
  unfolding put_wait
  wait_number k e f = rw e f

pub ruleset wait_puts = (wait_head, wait_truth, wait_list, wait_types, wait_varint, wait_number)

module _ (row r₁ : List ℕ) (spot : Now) where
  pub now_asks : (w : Wait) → spot ≡ N.Asks w → r₁ ≡ put_wait row w → r₁ ≡ put_now row spot
  unfolding put_now
  now_asks w e f = rw e f

  pub now_done : (n : ℕ) → spot ≡ N.Done n → r₁ ≡ put_form row 6 n → r₁ ≡ put_now row spot
  unfolding put_now
  now_done n e f = rw e f

  pub now_refused : (why : ℕ) → spot ≡ N.Refused why → r₁ ≡ put_form row 7 why → r₁ ≡ put_now row spot
  unfolding put_now
  now_refused why e f = rw e f

pub ruleset now_puts = (now_asks, now_done, now_refused)

-- the whole state
pub frame_made : (row : List ℕ) (left taken behind depth body : ℕ) (levels : List Level) (q : Resting) (lim : TConfiguration) → left ≡ get_or row 0 0 → taken ≡ get_or row 1 0 → behind ≡ get_or row 2 0 → depth ≡ get_or row 5 0 → body ≡ get_or row 6 0 → levels ≡ levels_of row depth → q ≡ rest_in row → lim ≡ limits_of row → record { limits = lim; left = left; taken = taken; behind = behind; stand = record { levels = levels; depth = depth; body = body; rest = q } } ≡ frame_in row
unfolding frame_in
frame_made row left taken behind depth body levels q lim a b c d e f g h = rw (g, h, f, ← a, ← b, ← c, ← d, ← e)

module _ (row : List ℕ) (ok : Bool) (e : ok ≡ holds row) (f : FrameSkip) where
  pub frame_held : ok ≡ true → f ≡ frame_in row → f ≡ frame_of row
  unfolding frame_of
  frame_held h g = rw (← e, h) g

  pub frame_none : ok ≡ false → f ≡ no_frame → f ≡ frame_of row
  unfolding frame_of
  frame_none h g = rw (← e, h) g

pub ruleset frames = (depth_held, frame_made, frame_held, frame_none)

pub most_some : (d : ℕ) → d < 64 → d ≡ most_open d
unfolding most_open
most_some d h = rw (lt-ltb d 64 h)

pub most_all : (d : ℕ) → 64 ≤ d → 64 ≡ most_open d
unfolding most_open
most_all d h = rw (le-ltb d 64 h)

pub ruleset most = (most_some, most_all, arith)

pub counts_put : (row r₀ r₁ r₂ : List ℕ) (left taken behind : ℕ) → r₀ ≡ set row 0 left → r₁ ≡ set r₀ 1 taken → r₂ ≡ set r₁ 2 behind → r₂ ≡ put_counts row left taken behind
unfolding put_counts
counts_put row r₀ r₁ r₂ left taken behind a b c = rw (← a, ← b) c

pub places_put : (row r₀ r₁ : List ℕ) (depth body : ℕ) → r₀ ≡ set row 5 depth → r₁ ≡ set r₀ 6 body → r₁ ≡ put_places row depth body
unfolding put_places
places_put row r₀ r₁ depth body a b = rw (← a) b

pub ruleset number_puts = (counts_put, places_put)

pub state_kept : (row r₃ r₄ r₅ r₆ : List ℕ) (f : FrameSkip) (d : ℕ) → r₃ ≡ put_counts row f.left f.taken f.behind → r₄ ≡ put_places r₃ f.stand.depth f.stand.body → r₅ ≡ put_now r₄ f.stand.rest.0 → d ≡ most_open f.stand.depth → r₆ ≡ put_nests r₅ f.stand.levels d → r₆ ≡ framed row f
unfolding framed
state_kept row r₃ r₄ r₅ r₆ f d a g h i k = rw (← a, ← g, ← h, ← i) k

pub ruleset state_puts = (state_kept)

pub limits_kept : (row r₁ r₂ : List ℕ) (depth string container message : ℕ) → r₁ ≡ set row 3 (depth + message * 4294967296) → r₂ ≡ set r₁ 4 (string + container * 4294967296) → r₂ ≡ limited row (record { depth = depth; string = string; container = container; message = message })
unfolding limited
limits_kept row r₁ r₂ depth string container message e f = rw (← e) f

pub ruleset limit_puts = (limits_kept)

-- what is told
module _ (row row' : List ℕ) (f : FrameSkip) (a : FrameAnswer) where
  pub tell_more : a ≡ A.More → MORE ≡ number_frame a
  tell_more e = rw e

  pub tell_done : (n : ℕ) → a ≡ A.Done n → 0 ≡ number_frame a
  tell_done n e = rw e

  pub tell_refused : (why : ℕ) → a ≡ A.Refused why → why ≡ number_frame a
  tell_refused why e = rw e

  pub after_more : a ≡ A.More → row' ≡ framed row f → row' ≡ frame_after row f a
  after_more e g = rw e g

  pub after_done : (n : ℕ) → a ≡ A.Done n → row' ≡ framed row f → row' ≡ frame_after row f a
  after_done n e g = rw e g

  pub after_refused : (why : ℕ) → a ≡ A.Refused why → (why ≡ 15 → ⊥) → row' ≡ framed row f → row' ≡ frame_after row f a
  after_refused why e h g = rw (e, ne_eqb why 15 h) g

  pub after_bad : (why : ℕ) → a ≡ A.Refused why → why ≡ 15 → row ≡ frame_after row f a
  after_bad why e h = rw (e, eq-eqb why 15 h)

pub ruleset tells = (tell_more, tell_done, tell_refused, after_more, after_done, after_refused, after_bad)
