-- A value that begins and a move that is made, over the rows: what the code hands back at each of its returns. Assumes nothing.
use mathlib.Core.Path.{◌≡◌, refl, sym, ap, subst, ◌∙◌}
use mathlib.Core.Bool.{Bool, true, false, cond}
use mathlib.Core.List.{List, [], ◌∷◌}
use Prim.Native.Nat.{ℕ, ◌+◌, ◌-◌, ◌≤◌, ◌<◌}
use native.Mathlib.Omega.{arith}
use native.Mathlib.Decide.{dec_lt}
use borrow.Author.Tests.{lt-ltb, le-ltb, le-leb, lt-leb}
use lib.Dec.{ltb}
use lib.IntN.{pos}
use lib.ListN.{length, set, length-set}
use Rattle.types.specs.Refusals.{END, DEPTH}
use Rattle.types.specs.declared.TType.{TType}
use Rattle.types.specs.declared.TType.TheVariants as T
use Rattle.types.specs.declared.FieldId.{FieldId}
use Rattle.types.specs.declared.TConfiguration.{TConfiguration}
use Rattle.heads.specs.Answers.{id_of}
use Rattle.frame.specs.declared.Nest.{Nest}
use Rattle.frame.specs.declared.Nest.TheVariants.{Fields}
use Rattle.frame.specs.declared.Level.{Level}
use Rattle.frame.specs.declared.Goal.TheVariants as O
use Rattle.frame.specs.declared.Wait.{Wait}
use Rattle.frame.specs.declared.Wait.TheVariants as W
use Rattle.frame.specs.declared.Moved.{Moved}
use Rattle.frame.specs.declared.Moved.TheVariants as M
use Rattle.frame.specs.declared.Resting.{Resting}
use Rattle.frame.specs.declared.Stand.{Stand}
use Rattle.frame.specs.declared.Begun.{Begun}
use Rattle.frame.specs.declared.Begun.TheVariants as B
use Rattle.frame.specs.Machine.{fresh, Rest, stopped, ask, fits, room_for, begin, settled, entered}
use Rattle.frame.specs.Moves.{behind_first, replaced, applied}
use Rattle.frame.specs.Turns.{width_of, in_room, begun}
use Rattle.frame.specs.State.{stops_at, waits_at, level_of, held, rest_of, Stands, asked, Allowed}
use Rattle.frame.proofs.Held.{length_held, held_last, held_set, asked_rest}

-- how a value begins
abbrev on_b : ℕ → List Nest → ℕ → Begun → Rest
on_b left ls body (B.Asks w) = ask left ls body w
on_b left ls body B.Enters = ask left (Fields (id_of (pos 0)) ∷ ls) body W.Head
on_b left ls body B.Passes = stopped END
on_b left ls body (B.Refused why) = stopped why

module _ (lim : TConfiguration) (left : ℕ) (ls : List Nest) (body : ℕ) (on : ℕ → Rest) where
  in_room_lem : (b : Begun) (r : Rest) → r ≡ on_b left ls body b → room_for lim ls r ≡ on_b left ls body (in_room lim (length ls) b)
  unfolding in_room
  in_room_lem b r e = go (ltb (length ls) lim.depth)
    where
      go : (ok : Bool) → cond ok r (stopped DEPTH) ≡ on_b left ls body (cond ok b (B.Refused DEPTH))
      go true = e
      go false = refl

  begin_looked : (t : TType) → width_of t ≤ 0 → begin lim left ls body t on ≡ on_b left ls body (begun lim (length ls) t)
  unfolding begun width_of
  begin_looked T.Stop h = refl
  begin_looked T.Bool h = refl
  begin_looked T.I08 h = absurd (omega arith)
  begin_looked T.I16 h = refl
  begin_looked T.I32 h = refl
  begin_looked T.I64 h = refl
  begin_looked T.Double h = absurd (omega arith)
  begin_looked T.String h = refl
  begin_looked T.List h = in_room_lem (B.Asks W.List) _ refl
  begin_looked T.Set h = in_room_lem (B.Asks W.List) _ refl
  begin_looked T.Map h = in_room_lem (B.Asks (W.Varint O.Pairs fresh)) _ refl
  begin_looked T.Struct h = in_room_lem B.Enters _ refl
  begin_looked T.Uuid h = absurd (omega arith)

  begin_wide : (t : TType) → 0 < width_of t → begin lim left ls body t on ≡ fits left body (width_of t) on
  unfolding width_of
  begin_wide T.Stop h = absurd (omega arith)
  begin_wide T.Bool h = absurd (omega arith)
  begin_wide T.I08 h = refl
  begin_wide T.I16 h = absurd (omega arith)
  begin_wide T.I32 h = absurd (omega arith)
  begin_wide T.I64 h = absurd (omega arith)
  begin_wide T.Double h = refl
  begin_wide T.String h = absurd (omega arith)
  begin_wide T.List h = absurd (omega arith)
  begin_wide T.Set h = absurd (omega arith)
  begin_wide T.Map h = absurd (omega arith)
  begin_wide T.Struct h = absurd (omega arith)
  begin_wide T.Uuid h = refl

abbrev Roomy : ℕ → ℕ → Begun → Type 0
Roomy d m (B.Asks w) = Unit {0}
Roomy d m B.Enters = d < m
Roomy d m B.Passes = Unit {0}
Roomy d m (B.Refused why) = Unit {0}

room_of_lem : (lim : TConfiguration) (d : ℕ) (b : Begun) → (d < lim.depth → Roomy d lim.depth b) → Roomy d lim.depth (in_room lim d b)
unfolding in_room
room_of_lem lim d b f = go (dec_lt d lim.depth)
  where
    go : Dec (d < lim.depth) → Roomy d lim.depth (cond (ltb d lim.depth) b (B.Refused DEPTH))
    go (yes h) = rw (lt-ltb d lim.depth h) (f h)
    go (no h) = rw (le-ltb d lim.depth (omega arith)) tt

begun_room : (lim : TConfiguration) (d : ℕ) (t : TType) → Roomy d lim.depth (begun lim d t)
unfolding begun
begun_room lim d T.Stop = tt
begun_room lim d T.Bool = tt
begun_room lim d T.I08 = tt
begun_room lim d T.I16 = tt
begun_room lim d T.I32 = tt
begun_room lim d T.I64 = tt
begun_room lim d T.Double = tt
begun_room lim d T.String = tt
begun_room lim d T.List = room_of_lem lim d (B.Asks W.List) (λ h. tt)
begun_room lim d T.Set = room_of_lem lim d (B.Asks W.List) (λ h. tt)
begun_room lim d T.Map = room_of_lem lim d (B.Asks (W.Varint O.Pairs fresh)) (λ h. tt)
begun_room lim d T.Struct = room_of_lem lim d B.Enters (λ h. h)
begun_room lim d T.Uuid = tt

-- another name for the same rest
stands_as : (lim : TConfiguration) (r s : Rest) (o : Stand) → s ≡ r → Stands lim r o → Stands lim s o
stands_as lim r s o e h = record { is = h.is ∙ sym e; within = h.within; rows = h.rows }

-- rows as they are, at a rest that asks nothing of them or a byte
module _ (lim : TConfiguration) (left : ℕ) (rows : List Level) (d : ℕ) (k : length rows ≡ 64) (dm : d ≤ lim.depth) where
  stopped_here : (why : ℕ) (s : Rest) (o : Stand) → o ≡ stops_at rows d 0 why → s ≡ stopped why → Stands lim s o
  unfolding rest_of
  stopped_here why s o i e = subst (Stands lim s) (sym i) (record { is = sym e; within = dm; rows = k })

  asks_here : (w : Wait) (s : Rest) (o : Stand) → o ≡ waits_at left rows d 0 w → s ≡ ask left (held rows d) 0 w → Stands lim s o
  unfolding rest_of
  asks_here w s o i e = subst (Stands lim s) (sym i) (record { is = asked_rest left 0 w (held rows d) ∙ sym e; within = dm; rows = k })

-- bytes passed over from nothing on
fits_now : (left n : ℕ) (on : ℕ → Rest) → n ≤ left → fits left 0 n on ≡ on n
fits_now left n on h =
    let a : n ≤ left - 0 = omega arith in
    let e : 0 + n ≡ n = omega arith in
    rw (le-leb n (left - 0) a, e)

fits_not : (left n : ℕ) (on : ℕ → Rest) → left < n → fits left 0 n on ≡ stopped END
fits_not left n on h = let a : left - 0 < n = omega arith in rw (lt-leb n (left - 0) a)

-- enter
module _ (lim : TConfiguration) (left : ℕ) (rows : List Level) (d : ℕ) (t : TType) where
  counted : (b : Begun) → b ≡ begun lim d t → on_b left (held rows d) 0 (begun lim (length (held rows d)) t) ≡ on_b left (held rows d) 0 b
  counted b e = ap (λ (i : ℕ). on_b left (held rows d) 0 (begun lim i t)) (length_held rows d) ∙ ap (on_b left (held rows d) 0) (sym e)

  module _ (w : ℕ) (f : w ≡ width_of t) where
    pub enter_wide : (q : Stand) → 0 < w → w ≤ left → Stands lim (settled lim left (held rows d) w) q → Stands lim (entered lim left (held rows d) t) q
    enter_wide q h g s =
        stands_as lim _ _ q
        (begin_wide lim left (held rows d) 0 (settled lim left (held rows d)) t (subst (λ (x : ℕ). 0 < x) f h)
        ∙ ap (λ (x : ℕ). fits left 0 x (settled lim left (held rows d))) (sym f)
        ∙ fits_now left w (settled lim left (held rows d)) g)
        s

    module _ (k : length rows ≡ 64) (dm : d ≤ lim.depth) where
      pub enter_out : (o : Stand) → 0 < w → left < w → o ≡ stops_at rows d 0 END → Stands lim (entered lim left (held rows d) t) o
      enter_out o h g i =
          stopped_here lim left rows d k dm END _ o i
          (begin_wide lim left (held rows d) 0 (settled lim left (held rows d)) t (subst (λ (x : ℕ). 0 < x) f h)
          ∙ ap (λ (x : ℕ). fits left 0 x (settled lim left (held rows d))) (sym f)
          ∙ fits_not left w (settled lim left (held rows d)) g)

      module _ (h : w ≤ 0) (b : Begun) (e : b ≡ begun lim d t) where
        begins : (c : Begun) → b ≡ c → entered lim left (held rows d) t ≡ on_b left (held rows d) 0 c
        begins c g =
            begin_looked lim left (held rows d) 0 (settled lim left (held rows d)) t (subst (λ (x : ℕ). x ≤ 0) f h)
            ∙ counted b e
            ∙ ap (on_b left (held rows d) 0) g

        pub enter_asks : (wait : Wait) (o : Stand) → b ≡ B.Asks wait → o ≡ waits_at left rows d 0 wait → Stands lim (entered lim left (held rows d) t) o
        enter_asks wait o g i = asks_here lim left rows d k dm wait _ o i (begins (B.Asks wait) g)

        pub enter_passes : (o : Stand) → b ≡ B.Passes → o ≡ stops_at rows d 0 END → Stands lim (entered lim left (held rows d) t) o
        enter_passes o g i = stopped_here lim left rows d k dm END _ o i (begins B.Passes g)

        pub enter_refused : (why : ℕ) (o : Stand) → b ≡ B.Refused why → o ≡ stops_at rows d 0 why → Stands lim (entered lim left (held rows d) t) o
        enter_refused why o g i = stopped_here lim left rows d k dm why _ o i (begins (B.Refused why) g)

        pub enter_room : b ≡ B.Enters → d < lim.depth
        enter_room g = subst (Roomy d lim.depth) (sym e ∙ g) (begun_room lim d t)

        pub enter_enters : (o : Stand) → lim.depth ≤ 64 → b ≡ B.Enters → o ≡ waits_at left (set rows d (level_of (Fields (id_of (pos 0))))) (d + 1) 0 W.Head → Stands lim (entered lim left (held rows d) t) o
        enter_enters o mx g i =
            let room : d < lim.depth = enter_room g in
            let len : d < length rows = omega arith in
            asks_here lim left (set rows d (level_of (Fields (id_of (pos 0))))) (d + 1) (length-set rows d (level_of (Fields (id_of (pos 0)))) ∙ k) (omega arith) W.Head _ o i
            (begins B.Enters g ∙ ap (λ (ls : List Nest). ask left ls 0 W.Head) (sym (held_set rows d (Fields (id_of (pos 0))) len)))

-- apply
module _ (lim : TConfiguration) (left : ℕ) (rows : List Level) (d : ℕ) (m : Moved) where
  module _ (n : ℕ) (g : m ≡ M.Passed n) where
    passes : applied lim left (held rows d) m ≡ fits left 0 n (settled lim left (held rows d))
    passes = ap (applied lim left (held rows d)) g

    pub apply_passed : (q : Stand) → n ≤ left → Stands lim (settled lim left (held rows d) n) q → Stands lim (applied lim left (held rows d) m) q
    apply_passed q h s = stands_as lim _ _ q (passes ∙ fits_now left n (settled lim left (held rows d)) h) s

    pub apply_out : (o : Stand) → length rows ≡ 64 → d ≤ lim.depth → left < n → o ≡ stops_at rows d 0 END → Stands lim (applied lim left (held rows d) m) o
    apply_out o k dm h i = stopped_here lim left rows d k dm END _ o i (passes ∙ fits_not left n (settled lim left (held rows d)) h)

  pub apply_refused : (why : ℕ) (o : Stand) → length rows ≡ 64 → d ≤ lim.depth → m ≡ M.Refused why → o ≡ stops_at rows d 0 why → Stands lim (applied lim left (held rows d) m) o
  apply_refused why o k dm g i = stopped_here lim left rows d k dm why _ o i (ap (applied lim left (held rows d)) g)

  pub apply_waits : (w : Wait) (o : Stand) → length rows ≡ 64 → d ≤ lim.depth → m ≡ M.Waits w → o ≡ waits_at left rows d 0 w → Stands lim (applied lim left (held rows d) m) o
  apply_waits w o k dm g i = asks_here lim left rows d k dm w _ o i (ap (applied lim left (held rows d)) g)

  module _ (h : 0 < d) where
    pub apply_closed : (q : Stand) → m ≡ M.Closed → Stands lim (settled lim left (held rows (d - 1)) 0) q → Stands lim (applied lim left (held rows d) m) q
    apply_closed q g s = stands_as lim _ _ q (ap (applied lim left (held rows d)) g ∙ ap (λ (ls : List Nest). settled lim left (behind_first ls) 0) (held_last rows d h)) s

    module _ (k : length rows ≡ 64) (dm : d ≤ 64) where
      replaces : (l : Nest) → replaced l (held rows d) ≡ held (set rows (d - 1) (level_of l)) d
      replaces l =
          let n : d - 1 + 1 ≡ d = omega arith in
          ap (replaced l) (held_last rows d h) ∙ sym (ap (held (set rows (d - 1) (level_of l))) (sym n) ∙ held_set rows (d - 1) l (omega arith))

      pub apply_named : (id : FieldId) (q : Stand) → m ≡ M.Named id → Stands lim (settled lim left (held (set rows (d - 1) (level_of (Fields id))) d) 0) q → Stands lim (applied lim left (held rows d) m) q
      apply_named id q g s = stands_as lim _ _ q (ap (applied lim left (held rows d)) g ∙ ap (λ (ls : List Nest). settled lim left ls 0) (replaces (Fields id))) s

      pub apply_valued : (id : FieldId) (t : TType) (q : Stand) → m ≡ M.Valued id t → Stands lim (entered lim left (held (set rows (d - 1) (level_of (Fields id))) d) t) q → Stands lim (applied lim left (held rows d) m) q
      apply_valued id t q g s = stands_as lim _ _ q (ap (applied lim left (held rows d)) g ∙ ap (λ (ls : List Nest). entered lim left ls t) (replaces (Fields id))) s

  pub apply_room : (l : Nest) → Allowed lim d m → m ≡ M.Opened l → d < lim.depth
  unfolding Allowed
  apply_room l a g = subst (Allowed lim d) g a

  pub apply_opened : (l : Nest) (q : Stand) → d < length rows → m ≡ M.Opened l → Stands lim (settled lim left (held (set rows d (level_of l)) (d + 1)) 0) q → Stands lim (applied lim left (held rows d) m) q
  apply_opened l q h g s = stands_as lim _ _ q (ap (applied lim left (held rows d)) g ∙ ap (λ (ls : List Nest). settled lim left ls 0) (sym (held_set rows d l h))) s

below_rows : (d m l : ℕ) → d < m → m ≤ 64 → l ≡ 64 → d < l
below_rows d m l a b e = omega arith

-- the index of a row to be opened
pub open_index : (lim : TConfiguration) (d : ℕ) (m : Moved) (l : Nest) → lim.depth ≤ 64 → Allowed lim d m → m ≡ M.Opened l → d < 64
open_index lim d m l mx a g = let r : d < lim.depth = apply_room lim 0 [] d m l a g in omega arith

pub open_depth : (lim : TConfiguration) (d : ℕ) (m : Moved) (l : Nest) → Allowed lim d m → m ≡ M.Opened l → d + 1 ≤ lim.depth
open_depth lim d m l a g = let r : d < lim.depth = apply_room lim 0 [] d m l a g in omega arith

pub apply_pushed : (lim : TConfiguration) (left : ℕ) (rows : List Level) (d : ℕ) (m : Moved) (l : Nest) (q : Stand) → lim.depth ≤ 64 → length rows ≡ 64 → Allowed lim d m → m ≡ M.Opened l → Stands lim (settled lim left (held (set rows d (level_of l)) (d + 1)) 0) q → Stands lim (applied lim left (held rows d) m) q
apply_pushed lim left rows d m l q mx k a g s = apply_opened lim left rows d m l q (below_rows d lim.depth (length rows) (apply_room lim left rows d m l a g) mx k) g s

pub enter_index : (lim : TConfiguration) (d : ℕ) (t : TType) (b : Begun) → lim.depth ≤ 64 → b ≡ begun lim d t → b ≡ B.Enters → d < 64
enter_index lim d t b mx e g = let r : d < lim.depth = subst (Roomy d lim.depth) (sym e ∙ g) (begun_room lim d t) in omega arith

pub set_rows : (rows : List Level) (i : ℕ) (l : Level) → length rows ≡ 64 → length (set rows i l) ≡ 64
set_rows rows i l k = length-set rows i l ∙ k

pub up_to : (d m : ℕ) → d ≤ m → m ≤ 64 → d ≤ 64
up_to d m a b = omega arith

pub none_left : (n : ℕ) → 0 ≤ n
none_left n = omega arith

pub ruleset enter_cases = (enter_wide, enter_out, enter_asks, enter_passes, enter_refused, enter_index, enter_enters)

pub ruleset apply_cases = (apply_passed, apply_out, apply_refused, apply_waits, apply_closed, apply_named, apply_valued, apply_pushed, open_index, open_depth, set_rows, up_to, none_left)

-- waits
pub waits_at_lem : (left : ℕ) (rows : List Level) (d body : ℕ) (w : Wait) (q : Resting) → q ≡ asked left body w → record { levels = rows; depth = d; body = body; rest = q } ≡ waits_at left rows d body w
waits_at_lem left rows d body w q e = ap (λ (r : Resting). record { levels = rows; depth = d; body = body; rest = r }) e
