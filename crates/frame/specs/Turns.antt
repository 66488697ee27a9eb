-- One turn over the innermost that is held, apart from what lies further out: the machine's settling as the code has it. Assumes nothing: these
-- are definitions.
use Rattle.std.specs.Prelude.{ℕ, ◌+◌, ◌-◌, ◌*◌, cond, List, ◌∷◌, eqb, leb, ltb, pos}
use Rattle.types.specs.Refusals.{END, BAD_TYPE, DEPTH}
use Rattle.types.specs.declared.TType.{TType}
use Rattle.types.specs.declared.TType.TheVariants as T
use Rattle.types.specs.declared.FieldId.{FieldId}
use Rattle.types.specs.declared.TConfiguration.{TConfiguration}
use Rattle.heads.specs.Answers.{id_of}
use Rattle.frame.specs.declared.Nest.{Nest}
use Rattle.frame.specs.declared.Nest.TheVariants.{Fields, Items, Keys, Values}
use Rattle.frame.specs.declared.Goal.TheVariants as O
use Rattle.frame.specs.declared.Wait.TheVariants as W
use Rattle.frame.specs.declared.Begun.{Begun}
use Rattle.frame.specs.declared.Begun.TheVariants as B
use Rattle.frame.specs.declared.Turn.{Turn}
use Rattle.frame.specs.declared.Turn.TheVariants as U
use Rattle.frame.specs.declared.Moved.{Moved}
use Rattle.frame.specs.declared.Moved.TheVariants as M
use Rattle.frame.specs.declared.Now.TheVariants as N
use Rattle.frame.specs.declared.Near.{Near}
use Rattle.frame.specs.declared.Near.TheVariants as I
use Rattle.frame.specs.Machine.{fresh, width, Rest, stopped, ask}
use Rattle.frame.specs.State.{asked}

unfoldable pub width_of : TType → ℕ
width_of t = width t

-- room for one more among so many that are held
unfoldable pub in_room : TConfiguration → ℕ → Begun → Begun
in_room lim held b = cond (ltb held lim.depth) b (B.Refused DEPTH)

-- a value begins that some byte is looked at of
unfoldable pub begun : TConfiguration → ℕ → TType → Begun
begun lim held T.Stop = B.Refused BAD_TYPE
begun lim held T.Bool = B.Asks W.Truth
begun lim held T.I08 = B.Passes
begun lim held T.I16 = B.Asks (W.Varint O.Short fresh)
begun lim held T.I32 = B.Asks (W.Number 5)
begun lim held T.I64 = B.Asks (W.Number 10)
begun lim held T.Double = B.Passes
begun lim held T.String = B.Asks (W.Varint O.Length fresh)
begun lim held T.List = in_room lim held (B.Asks W.List)
begun lim held T.Set = in_room lim held (B.Asks W.List)
begun lim held T.Map = in_room lim held (B.Asks (W.Varint O.Pairs fresh))
begun lim held T.Struct = in_room lim held B.Enters
begun lim held T.Uuid = B.Passes

abbrev pub on_begun : Nest → ℕ → Begun → Turn
on_begun l body (B.Asks w) = U.Asks l body w
on_begun l body B.Enters = U.Enters l body
on_begun l body B.Passes = U.Refused END
on_begun l body (B.Refused why) = U.Refused why

unfoldable pub value_turn : TConfiguration → ℕ → Nest → ℕ → TType → Turn
value_turn lim held l body t = on_begun l body (begun lim held t)

unfoldable pub up_turn : ℕ → ℕ → ℕ → Turn
up_turn left body n = cond (leb n (left - body)) (U.Up (body + n)) (U.Refused END)

unfoldable pub item_turn : TConfiguration → ℕ → ℕ → TType → ℕ → ℕ → Turn
item_turn lim left held t n body =
    cond (eqb n 0) (U.Up body)
    (cond (ltb 0 (width_of t)) (up_turn left body (n * width_of t)) (value_turn lim held (Items t (n - 1)) body t))

unfoldable pub pair_turn : TConfiguration → ℕ → ℕ → TType → TType → ℕ → ℕ → Turn
pair_turn lim left held k v n body =
    cond (eqb n 0) (U.Up body)
    (cond (ltb 0 (width_of k))
    (cond (ltb 0 (width_of v)) (up_turn left body (n * (width_of k + width_of v))) (cond (leb (width_of k) (left - body)) (value_turn lim held (Keys k v (n - 1)) (body + width_of k) v) (U.Refused END)))
    (value_turn lim held (Values k v (n - 1)) body k))

unfoldable pub second_turn : TConfiguration → ℕ → ℕ → TType → TType → ℕ → ℕ → Turn
second_turn lim left held k v n body =
    cond (ltb 0 (width_of v))
    (cond (leb (width_of v) (left - body)) (pair_turn lim left held k v n (body + width_of v)) (U.Refused END))
    (value_turn lim held (Keys k v n) body v)

abbrev pub of_nest : TConfiguration → ℕ → ℕ → ℕ → Nest → Turn
of_nest lim left held body (Fields id) = U.Asks (Fields id) body W.Head
of_nest lim left held body (Items t n) = item_turn lim left held t n body
of_nest lim left held body (Keys k v n) = pair_turn lim left held k v n body
of_nest lim left held body (Values k v n) = second_turn lim left held k v n body

-- so many are held, this one the innermost of them
unfoldable pub turned : TConfiguration → ℕ → ℕ → Nest → ℕ → Turn
turned lim left held l body = of_nest lim left held body l

-- what a turn makes of what lies further out
abbrev pub on_turn : ℕ → List Nest → (ℕ → Rest) → Turn → Rest
on_turn left ls on (U.Up body) = on body
on_turn left ls on (U.Asks l body w) = ask left (l ∷ ls) body w
on_turn left ls on (U.Enters l body) = ask left (Fields (id_of (pos 0)) ∷ l ∷ ls) body W.Head
on_turn left ls on (U.Refused why) = stopped why

-- A move that touches the innermost alone: the short way of the run, which leaves out what lies further out. `Far` says nothing.
abbrev pub near_stops : Nest → ℕ → Near
near_stops l why = I.Rests l 0 (record { 0 = N.Refused why })

abbrev pub near_turn : ℕ → Nest → Turn → Near
near_turn left l (U.Up body) = I.Far
near_turn left l (U.Asks k body w) = I.Rests k body (asked left body w)
near_turn left l (U.Enters k body) = I.Far
near_turn left l (U.Refused why) = near_stops l why

unfoldable pub near_pass : TConfiguration → ℕ → ℕ → Nest → ℕ → Near
near_pass lim left held l n = cond (leb n left) (near_turn left l (turned lim left held l n)) (near_stops l END)

abbrev pub near_begun : ℕ → FieldId → Begun → Near
near_begun left id (B.Asks w) = I.Rests (Fields id) 0 (asked left 0 w)
near_begun left id B.Enters = I.Far
near_begun left id B.Passes = I.Far
near_begun left id (B.Refused why) = near_stops (Fields id) why

unfoldable pub near_value : TConfiguration → ℕ → ℕ → FieldId → TType → Near
near_value lim left held id t =
    cond (ltb 0 (width_of t))
    (cond (leb (width_of t) left) (I.Rests (Fields id) (width_of t) (asked left (width_of t) W.Head)) (near_stops (Fields id) END))
    (near_begun left id (begun lim held t))

abbrev pub near_of : TConfiguration → ℕ → ℕ → Nest → Moved → Near
near_of lim left held l (M.Refused why) = near_stops l why
near_of lim left held l (M.Waits w) = I.Rests l 0 (asked left 0 w)
near_of lim left held l (M.Passed n) = near_pass lim left held l n
near_of lim left held l M.Closed = I.Far
near_of lim left held l (M.Opened m) = I.Far
near_of lim left held l (M.Named id) = I.Rests (Fields id) 0 (asked left 0 W.Head)
near_of lim left held l (M.Valued id t) = near_value lim left held id t

unfoldable pub near_move : TConfiguration → ℕ → ℕ → Nest → Moved → Near
near_move lim left held l m = near_of lim left held l m
