-- The row of 268 numbers that holds a frame's state: 0 the bytes left up to the cut; 1 the bytes taken; 2 the announced bytes behind the cut; 3 and 4 the limits, as
-- in a reader's row; 5 how many containers are open; 6 the bytes to pass over; 7 to 11 what then; and from 12 on four numbers for each of 64 containers, the
-- outermost first. A number that a form has no use for has no say, and stays as it is. Assumes nothing: these are definitions.
use Rattle.std.specs.Prelude.{ℕ, zero, suc, ◌+◌, ◌*◌, Bool, true, false, cond, List, length, get_or, set, replicate, eqb, leb, ltb, pos}
use Rattle.std.specs.Int.{w16}
use Rattle.std.proofs.Common.{of_z}
use Rattle.types.specs.Codes.{type_by_number, type_code}
use Rattle.types.specs.Refusals.{BAD_STATE}
use Rattle.types.specs.declared.TType.{TType}
use Rattle.types.specs.declared.TypeRead.{TypeRead}
use Rattle.types.specs.declared.TypeRead.TheVariants as R
use Rattle.types.specs.declared.TConfiguration.{TConfiguration}
use Rattle.heads.specs.Answers.{id_of}
use Rattle.rows.specs.Row.{last_in, limits_of, no_limits}
use Rattle.frame.specs.declared.Nest.{Nest}
use Rattle.frame.specs.declared.Nest.TheVariants.{Fields, Items, Keys, Values}
use Rattle.frame.specs.declared.Level.{Level}
use Rattle.frame.specs.declared.Part.{Part}
use Rattle.frame.specs.declared.Goal.{Goal}
use Rattle.frame.specs.declared.Goal.TheVariants as O
use Rattle.frame.specs.declared.Wait.{Wait}
use Rattle.frame.specs.declared.Wait.TheVariants as W
use Rattle.frame.specs.declared.Now.{Now}
use Rattle.frame.specs.declared.Now.TheVariants as N
use Rattle.frame.specs.declared.Resting.{Resting}
use Rattle.frame.specs.declared.FrameSkip.{FrameSkip}
use Rattle.frame.specs.State.{level_of, stops_at}
use Rattle.frame_rows.specs.declared.NestRead.{NestRead}
use Rattle.frame_rows.specs.declared.NestRead.TheVariants as L
use Rattle.frame_rows.specs.declared.GoalRead.{GoalRead}
use Rattle.frame_rows.specs.declared.GoalRead.TheVariants as G
use Rattle.frame_rows.specs.declared.NowRead.{NowRead}
use Rattle.frame_rows.specs.declared.NowRead.TheVariants as X

-- a type by its number
unfoldable pub type_of : ℕ → TypeRead
type_of n = cond (ltb n 14) (type_by_number n) (R.Refused BAD_STATE)

-- A CONTAINER: form 0 a struct behind the id whose 16 bits the fourth number is; 1 so many elements of a type; 2 so many pairs; 3 a value, then so many pairs

abbrev pub pair_of : ℕ → TType → ℕ → TypeRead → NestRead
pair_of form k n (R.Got v) = cond (eqb form 2) (L.Got (Keys k v n)) (cond (eqb form 3) (L.Got (Values k v n)) L.Refused)
pair_of form k n (R.Refused why) = L.Refused

abbrev pub item_of : ℕ → ℕ → ℕ → TypeRead → NestRead
item_of form v n (R.Got k) = cond (eqb form 1) (L.Got (Items k n)) (pair_of form k n (type_of v))
item_of form v n (R.Refused why) = L.Refused

unfoldable pub nest_of : ℕ → ℕ → ℕ → ℕ → NestRead
nest_of form k v n =
    cond (eqb form 0) (cond (ltb n 65536) (L.Got (Fields (id_of (last_in n)))) L.Refused) (cond (ltb n 4294967296) (item_of form v n (type_of k)) L.Refused)

unfoldable pub nest_in : List ℕ → ℕ → NestRead
nest_in row i = nest_of (get_or row (12 + 4 * i) 0) (get_or row (13 + 4 * i) 0) (get_or row (14 + 4 * i) 0) (get_or row (15 + 4 * i) 0)

unfoldable pub put_typed : List ℕ → ℕ → ℕ → TType → ℕ → List ℕ
put_typed row i form k n = set (set (set row (12 + 4 * i) form) (13 + 4 * i) (type_code k)) (15 + 4 * i) n

unfoldable pub put_nest : List ℕ → ℕ → Nest → List ℕ
put_nest row i (Fields id) = set (set row (12 + 4 * i) 0) (15 + 4 * i) (of_z w16 id.0)
put_nest row i (Items k n) = put_typed row i 1 k n
put_nest row i (Keys k v n) = put_typed (set row (14 + 4 * i) (type_code v)) i 2 k n
put_nest row i (Values k v n) = put_typed (set row (14 + 4 * i) (type_code v)) i 3 k n

-- WHAT THEN: forms 0 to 5 a byte to look at (a field's header; a bool; a list's or set's header; the types of so many pairs; the next group of a number; one
-- of at most so many bytes of a number); 6 the struct's end, so many bytes on; 7 a refusal

abbrev pub goal_typed : (TType → Goal) → TypeRead → GoalRead
goal_typed of (R.Got t) = G.Got (of t)
goal_typed of (R.Refused why) = G.Refused

-- what a number is for: 0 a bool field's id, 1 another's, 2 a count, 3 a map's, 4 a string's length, 5 an i16
unfoldable pub goal_of : ℕ → ℕ → GoalRead
goal_of g t =
    cond (eqb g 0) (G.Got O.Flag)
    (cond (eqb g 1) (goal_typed (λ k. O.Id k) (type_of t))
    (cond (eqb g 2) (goal_typed (λ k. O.Count k) (type_of t))
    (cond (eqb g 3) (G.Got O.Pairs) (cond (eqb g 4) (G.Got O.Length) (cond (eqb g 5) (G.Got O.Short) G.Refused)))))

abbrev pub part_of : ℕ → ℕ → Part
part_of groups low = record { groups = groups; low = low }

abbrev pub on_goal : ℕ → ℕ → GoalRead → NowRead
on_goal groups low (G.Got g) = X.Got (N.Asks (W.Varint g (part_of groups low)))
on_goal groups low G.Refused = X.Refused

unfoldable pub varint_of : ℕ → ℕ → ℕ → ℕ → NowRead
varint_of n g t groups = cond (ltb n 4294967296) (cond (ltb groups 256) (on_goal groups n (goal_of g t)) X.Refused) X.Refused

unfoldable pub now_of : ℕ → ℕ → ℕ → ℕ → ℕ → NowRead
now_of form n g t groups =
    cond (eqb form 0) (X.Got (N.Asks W.Head))
    (cond (eqb form 1) (X.Got (N.Asks W.Truth))
    (cond (eqb form 2) (X.Got (N.Asks W.List))
    (cond (eqb form 3) (cond (ltb n 4294967296) (X.Got (N.Asks (W.Types n))) X.Refused)
    (cond (eqb form 4) (varint_of n g t groups)
    (cond (eqb form 6) (X.Got (N.Done n))
    (cond (ltb n 256) (cond (eqb form 5) (X.Got (N.Asks (W.Number n))) (cond (eqb form 7) (X.Got (N.Refused n)) X.Refused)) X.Refused))))))

unfoldable pub now_in : List ℕ → NowRead
now_in row = now_of (get_or row 7 0) (get_or row 8 0) (get_or row 9 0) (get_or row 10 0) (get_or row 11 0)

unfoldable pub put_goal : List ℕ → Goal → List ℕ
put_goal row O.Flag = set row 9 0
put_goal row (O.Id t) = set (set row 9 1) 10 (type_code t)
put_goal row (O.Count t) = set (set row 9 2) 10 (type_code t)
put_goal row O.Pairs = set row 9 3
put_goal row O.Length = set row 9 4
put_goal row O.Short = set row 9 5

-- a form with a number of its own
unfoldable pub put_form : List ℕ → ℕ → ℕ → List ℕ
put_form row form n = set (set row 7 form) 8 n

unfoldable pub put_wait : List ℕ → Wait → List ℕ
put_wait row W.Head = set row 7 0
put_wait row W.Truth = set row 7 1
put_wait row W.List = set row 7 2
put_wait row (W.Types n) = put_form row 3 n
put_wait row (W.Varint g p) = put_goal (set (put_form row 4 p.low) 11 p.groups) g
put_wait row (W.Number k) = put_form row 5 k

unfoldable pub put_now : List ℕ → Now → List ℕ
put_now row (N.Asks w) = put_wait row w
put_now row (N.Done n) = put_form row 6 n
put_now row (N.Refused why) = put_form row 7 why

-- THE STATE

abbrev pub is_nest : NestRead → Bool
is_nest (L.Got l) = true
is_nest L.Refused = false

abbrev pub is_now : NowRead → Bool
is_now (X.Got n) = true
is_now X.Refused = false

-- a container's numbers, and what then, where they are such; else what has no say
abbrev pub nest_or : NestRead → Nest
nest_or (L.Got l) = l
nest_or L.Refused = Fields (id_of (pos 0))

abbrev pub now_or : NowRead → Now
now_or (X.Got n) = n
now_or X.Refused = N.Refused BAD_STATE

-- the numbers of the first d containers are such
unfoldable pub all_nests : List ℕ → ℕ → Bool
all_nests row zero = true
all_nests row (suc d) = cond (is_nest (nest_in row d)) (all_nests row d) false

-- "a forged one is 15": a row of another length, or with a number that no form has, holds no state
unfoldable pub holds : List ℕ → Bool
holds row = cond (eqb (length row) 268) (cond (leb (get_or row 5 0) 64) (cond (is_now (now_in row)) (all_nests row (get_or row 5 0)) false) false) false

-- the 64 containers, of which the first d are read
unfoldable pub levels_of : List ℕ → ℕ → List Level
levels_of row zero = replicate 64 (level_of (Fields (id_of (pos 0))))
levels_of row (suc d) = set (levels_of row d) d (level_of (nest_or (nest_in row d)))

unfoldable pub rest_in : List ℕ → Resting
rest_in row = record { 0 = now_or (now_in row) }

unfoldable pub frame_in : List ℕ → FrameSkip
frame_in row =
    record {
      limits = limits_of row;
      left = get_or row 0 0;
      taken = get_or row 1 0;
      behind = get_or row 2 0;
      stand = record { levels = levels_of row (get_or row 5 0); depth = get_or row 5 0; body = get_or row 6 0; rest = rest_in row };
    }

-- a state that every call refuses, 15
unfoldable pub no_frame : FrameSkip
no_frame = record { limits = no_limits; left = 0; taken = 0; behind = 0; stand = stops_at (replicate 64 (level_of (Fields (id_of (pos 0))))) 0 0 BAD_STATE }

unfoldable pub frame_of : List ℕ → FrameSkip
frame_of row = cond (holds row) (frame_in row) no_frame

-- the row with the first d of these containers
unfoldable pub put_nests : List ℕ → List Level → ℕ → List ℕ
put_nests row levels zero = row
put_nests row levels (suc d) = put_nest (put_nests row levels d) d (get_or levels d (level_of (Fields (id_of (pos 0))))).0

-- no more than there is room for
unfoldable pub most_open : ℕ → ℕ
most_open d = cond (ltb d 64) d 64

unfoldable pub put_counts : List ℕ → ℕ → ℕ → ℕ → List ℕ
put_counts row left taken behind = set (set (set row 0 left) 1 taken) 2 behind

unfoldable pub put_places : List ℕ → ℕ → ℕ → List ℕ
put_places row depth body = set (set row 5 depth) 6 body

-- the row with another state; limits never change
unfoldable pub framed : List ℕ → FrameSkip → List ℕ
framed row f =
    put_nests
    (put_now (put_places (put_counts row f.left f.taken f.behind) f.stand.depth f.stand.body) f.stand.rest.0)
    f.stand.levels (most_open f.stand.depth)

-- and with the limits of one that begins
unfoldable pub limited : List ℕ → TConfiguration → List ℕ
limited row lim = set (set row 3 (lim.depth + lim.message * 4294967296)) 4 (lim.string + lim.container * 4294967296)
