-- One byte looked at, over the rows, and the run over a burst. Assumes nothing.
use mathlib.Core.Path.{◌≡◌, refl, sym, ap, ap₂, subst, ◌∙◌}
use mathlib.Core.Bool.{Bool, true, false, cond}
use mathlib.Core.List.{List, [], ◌∷◌}
use Prim.Native.Nat.{ℕ, zero, suc, ◌+◌, ◌-◌, ◌*◌, ◌/◌, ◌%◌, ◌≤◌, ◌<◌}
use native.Mathlib.Omega.{arith}
use lib.Dec.{leb, ltb, eqb}
use lib.IntN.{ℤ}
use lib.ListN.{set, length, get_or, drop, length-drop}
use lib.Seq.{drop-drop, get_or-drop}
use Rattle.types.specs.Refusals.{END, BAD_BOOL, LONG_VARINT, SIZE_LIMIT, RANGE}
use Rattle.types.specs.Codes.{element_type, field_type}
use Rattle.types.specs.declared.TType.{TType}
use Rattle.types.specs.declared.TypeRead.{TypeRead}
use Rattle.types.specs.declared.TypeRead.TheVariants as R
use Rattle.types.specs.declared.FieldType.{FieldType}
use Rattle.types.specs.declared.FieldType.TheVariants as F
use Rattle.types.specs.declared.FieldId.{FieldId}
use Rattle.types.specs.declared.TConfiguration.{TConfiguration}
use Rattle.heads.specs.Heads.{least_size}
use Rattle.heads.specs.Answers.{count_why}
use Rattle.skip.specs.Value.{startable}
use Rattle.frame.specs.declared.Nest.{Nest}
use Rattle.frame.specs.declared.Nest.TheVariants.{Fields, Items, Keys, Values}
use Rattle.frame.specs.declared.Level.{Level}
use Rattle.frame.specs.declared.Part.{Part}
use Rattle.frame.specs.declared.Goal.{Goal}
use Rattle.frame.specs.declared.Goal.TheVariants as O
use Rattle.frame.specs.declared.Wait.{Wait}
use Rattle.frame.specs.declared.Wait.TheVariants as W
use Rattle.frame.specs.declared.Moved.{Moved}
use Rattle.frame.specs.declared.Near.{Near}
use Rattle.frame.specs.declared.Near.TheVariants as I
use Rattle.frame.specs.declared.Resting.{Resting}
use Rattle.frame.specs.declared.Moved.TheVariants as M
use Rattle.frame.specs.declared.Grown.{Grown}
use Rattle.frame.specs.declared.Grown.TheVariants as G
use Rattle.frame.specs.declared.ShortId.{ShortId}
use Rattle.frame.specs.declared.ShortId.TheVariants as S
use Rattle.frame.specs.declared.Stand.{Stand}
use Rattle.frame.specs.declared.Progress.{Progress}
use Rattle.frame.specs.declared.Now.{Now}
use Rattle.frame.specs.declared.Now.TheVariants as N
use Rattle.frame.specs.Machine.{fresh, Rest, asks, ended, stopped, stepped, Fit, Run, running, ran}
use Rattle.frame.specs.Moves.{grown, on_grown, short_id, long_id, on_long, on_short, head_of, head_move, start_move, open_move, start_pairs, open_pairs, list_of, list_move, types_of, types_move, number_move, length_move, pairs_move, goal_move, moved, Ready, applied}
use Rattle.frame.specs.Turns.{near_move}
use Rattle.frame.specs.State.{level_of, nest_at, held, rest_now, rest_of, Stands, goal_need, need, Allowed, Sound, Deep, Standing, progress_of, ran_to}
use Rattle.frame.proofs.Coded.{first, move_is}
use Rattle.frame.proofs.Held.{length_held, held_last}
use Rattle.frame.proofs.Deep.{applied_deep}
use Rattle.frame.proofs.Nearby.{near_rests}
use Rattle.frame.proofs.Runs.{stepped_sound}

pub fit_ready : (ls : List Nest) (w : Wait) → Fit ls w → Ready w
unfolding Ready
fit_ready ls W.Head f = tt
fit_ready ls W.Truth f = tt
fit_ready ls W.List f = tt
fit_ready ls (W.Types n) f = tt
fit_ready ls (W.Varint g p) f = f
fit_ready ls (W.Number k) f = f

-- a move has the room that its wait had
module _ (lim : TConfiguration) (d : ℕ) where
  refuses : (why : ℕ) → Allowed lim d (M.Refused why)
  unfolding Allowed
  refuses why = tt

  either : (ok : Bool) (x y : Moved) → Allowed lim d x → Allowed lim d y → Allowed lim d (cond ok x y)
  either true x y a b = a
  either false x y a b = b

  on_grown_lem : (w : Part → Wait) (m : ℕ → Moved) (x : Grown) → ((q : Part) → Allowed lim d (M.Waits (w q))) → ((n : ℕ) → Allowed lim d (m n)) → Allowed lim d (on_grown w m x)
  on_grown_lem w m (G.Whole n) f g = g n
  on_grown_lem w m (G.More q) f g = f q
  on_grown_lem w m G.Long f g = refuses LONG_VARINT

  head_allowed : (last : ℤ) (delta : ℕ) (x : FieldType) → d ≤ lim.depth → Allowed lim d (head_of last delta x)
  unfolding Allowed
  head_allowed last delta F.Stop h = tt
  head_allowed last delta (F.Truth b) h = either (eqb delta 0) _ _ (omega arith) (go (short_id last delta))
    where
      go : (y : ShortId) → Allowed lim d (on_short (λ id. M.Named id) y)
      go (S.Got id) = tt
      go S.Over = tt
  head_allowed last delta (F.Kind t) h = either (eqb delta 0) _ _ (omega arith) (go (short_id last delta))
    where
      go : (y : ShortId) → Allowed lim d (on_short (λ id. M.Valued id t) y)
      go (S.Got id) = tt
      go S.Over = tt
  head_allowed last delta (F.Refused why) h = tt

  start_allowed : (t : TType) (n : ℕ) → d < lim.depth → Allowed lim d (start_move t n)
  unfolding Allowed start_move
  start_allowed t n h = either (startable t n) _ _ h tt

  open_allowed : (left : ℕ) (t : TType) (n : ℕ) → d < lim.depth → Allowed lim d (open_move lim left t n)
  unfolding open_move
  open_allowed left t n h = either (eqb (count_why lim n) 0) _ _ (either (leb (n * least_size t) left) _ _ (start_allowed t n h) (refuses END)) (refuses _)

  list_allowed : (left n : ℕ) (x : TypeRead) → d < lim.depth → Allowed lim d (list_of lim left n x)
  unfolding Allowed
  list_allowed left n (R.Got t) h = either (ltb n 15) _ (M.Waits (W.Varint (O.Count t) fresh)) (open_allowed left t n h) (omega arith)
  list_allowed left n (R.Refused why) h = tt

  pairs_allowed : (k v : TType) (n : ℕ) → d < lim.depth → Allowed lim d (start_pairs k v n)
  unfolding Allowed start_pairs
  pairs_allowed k v n h = either (startable k n) _ _ (either (startable v n) _ _ h tt) tt

  types_allowed : (left n : ℕ) (x y : TypeRead) → d < lim.depth → Allowed lim d (types_of lim left n x y)
  unfolding open_pairs
  types_allowed left n (R.Got k) (R.Got v) h =
      either (eqb (count_why lim n) 0) _ _ (either (leb (n * least_size k + n * least_size v) left) _ _ (pairs_allowed k v n h) (refuses END)) (refuses _)
  types_allowed left n (R.Got k) (R.Refused why) h = refuses why
  types_allowed left n (R.Refused why) y h = refuses why

  long_allowed : (m : FieldId → Moved) (x : ShortId) → ((id : FieldId) → Allowed lim d (m id)) → Allowed lim d (on_long m x)
  long_allowed m (S.Got id) a = a id
  long_allowed m S.Over a = refuses RANGE

  goal_allowed : (left : ℕ) (g : Goal) (n : ℕ) → d + goal_need g ≤ lim.depth → Allowed lim d (goal_move lim left g n)
  unfolding Allowed goal_move pairs_move length_move
  goal_allowed left O.Flag n h = long_allowed (λ id. M.Named id) (long_id n) (λ id. tt)
  goal_allowed left (O.Id t) n h = long_allowed (λ id. M.Valued id t) (long_id n) (λ id. tt)
  goal_allowed left (O.Count t) n h = open_allowed left t n (omega arith)
  goal_allowed left O.Pairs n h = either (eqb n 0) (M.Passed 0) (M.Waits (W.Types n)) tt h
  goal_allowed left O.Length n h = either (leb n lim.string) (M.Passed n) (M.Refused SIZE_LIMIT) tt tt
  goal_allowed left O.Short n h = long_allowed (λ id. M.Passed 0) (long_id n) (λ id. tt)

  pub move_allowed : (left : ℕ) (top : Nest) (w : Wait) (b : ℕ) → d + need w ≤ lim.depth → Allowed lim d (moved lim left top w b)
  unfolding Allowed moved head_move list_move types_move number_move
  move_allowed left (Fields id) W.Head b h = head_allowed id.0 (b / 16) (field_type (b % 16)) (omega arith)
  move_allowed left (Items t n) W.Head b h = tt
  move_allowed left (Keys k v n) W.Head b h = tt
  move_allowed left (Values k v n) W.Head b h = tt
  move_allowed left top W.Truth b h = either (ltb b 3) (M.Passed 0) (M.Refused BAD_BOOL) tt tt
  move_allowed left top W.List b h = list_allowed left (b / 16) (element_type (b % 16)) (omega arith)
  move_allowed left top (W.Types n) b h = types_allowed left n (element_type (b / 16)) (element_type (b % 16)) (omega arith)
  move_allowed left top (W.Varint g p) b h = on_grown_lem (λ q. W.Varint g q) (goal_move lim left g) (grown p b) (λ q. h) (λ n. goal_allowed left g n h)
  move_allowed left top (W.Number k) b h = either (ltb b 128) (M.Passed 0) _ tt (either (ltb 1 k) (M.Waits (W.Number (k - 1))) (M.Refused LONG_VARINT) h tt)

-- look
module _ (lim : TConfiguration) (left : ℕ) (rows : List Level) (d : ℕ) (w : Wait) (b : ℕ) (h : 0 < d) where
  looked : Fit (held rows d) w → (m : Moved) → m ≡ moved lim left (nest_at rows (d - 1)) w b → stepped lim left (held rows d) w b ≡ applied lim left (held rows d) m
  looked f m e =
      move_is lim left (held rows d) w b f
      ∙ ap (λ (l : Nest). applied lim left (held rows d) (moved lim left l w b)) (ap (first lim left) (held_last rows d h))
      ∙ ap (applied lim left (held rows d)) (sym e)

  pub look_is : (m : Moved) (q : Stand) → Fit (held rows d) w → m ≡ moved lim left (nest_at rows (d - 1)) w b → Stands lim (applied lim left (held rows d) m) q → Stands lim (stepped lim left (held rows d) w b) q
  look_is m q f e s = record { is = s.is ∙ sym (looked f m e); within = s.within; rows = s.rows }

  pub look_allowed : (m : Moved) → m ≡ moved lim left (nest_at rows (d - 1)) w b → d + need w ≤ lim.depth → Allowed lim d m
  look_allowed m e g = subst (Allowed lim d) (sym e) (move_allowed lim d left (nest_at rows (d - 1)) w b g)

  pub stepped_deep : Fit (held rows d) w → d + need w ≤ lim.depth → Deep lim (stepped lim left (held rows d) w b)
  stepped_deep f g =
      subst (Deep lim) (sym (looked f (moved lim left (nest_at rows (d - 1)) w b) refl))
      (applied_deep lim left (held rows d) _ (omega (arith, length_held rows d)) (omega (arith, length_held rows d))
      (subst (λ (i : ℕ). Allowed lim i (moved lim left (nest_at rows (d - 1)) w b)) (sym (length_held rows d)) (move_allowed lim d left (nest_at rows (d - 1)) w b g)))

-- a run: bytes passed over, and a byte looked at behind them
module _ (lim : TConfiguration) (ls : List Nest) (w : Wait) where
  pub ran_pass : (bs : List ℕ) (left taken body : ℕ) → length bs ≤ body → ran lim left taken (asks ls body w) bs ≡ running (left - length bs) (taken + length bs) (asks ls (body - length bs) w)
  unfolding ran
  ran_pass [] left taken body h =
      let a : left ≡ left - 0 = omega arith in
      let b : taken ≡ taken + 0 = omega arith in
      let c : body ≡ body - 0 = omega arith in
      ap₂ (λ (x y : ℕ). running x y (asks ls body w)) a b ∙ ap (λ (z : ℕ). running (left - 0) (taken + 0) (asks ls z w)) c
  ran_pass (b ∷ bs) left taken zero h = absurd (omega arith)
  ran_pass (b ∷ bs) left taken (suc body) h =
      let x : left - 1 - length bs ≡ left - suc (length bs) = omega arith in
      let y : taken + 1 + length bs ≡ taken + suc (length bs) = omega arith in
      let z : body - length bs ≡ suc body - suc (length bs) = omega arith in
      ran_pass bs (left - 1) (taken + 1) body (omega arith)
      ∙ ap₂ (λ (i j : ℕ). running i j (asks ls (body - length bs) w)) x y
      ∙ ap (λ (i : ℕ). running (left - suc (length bs)) (taken + suc (length bs)) (asks ls i w)) z

  pub ran_look : (bs : List ℕ) (left taken body : ℕ) → body < length bs → ran lim left taken (asks ls body w) bs ≡ ran lim (left - (body + 1)) (taken + (body + 1)) (stepped lim (left - (body + 1)) ls w (get_or bs body 0)) (drop (body + 1) bs)
  unfolding ran
  ran_look [] left taken body h = absurd (omega arith)
  ran_look (b ∷ bs) left taken zero h = refl
  ran_look (b ∷ bs) left taken (suc body) h =
      let x : left - 1 - (body + 1) ≡ left - (suc body + 1) = omega arith in
      let y : taken + 1 + (body + 1) ≡ taken + (suc body + 1) = omega arith in
      let z : suc body + 1 ≡ suc (body + 1) = omega arith in
      ran_look bs (left - 1) (taken + 1) body (omega arith)
      ∙ ap₂ (λ (i j : ℕ). ran lim i j (stepped lim i ls w (get_or bs body 0)) (drop (body + 1) bs)) x y
      ∙ ap (λ (cs : List ℕ). ran lim (left - (suc body + 1)) (taken + (suc body + 1)) (stepped lim (left - (suc body + 1)) ls w (get_or bs body 0)) cs) (ap (λ (i : ℕ). drop i (b ∷ bs)) (sym z))

-- the run as the code has it
pub final_end : (lim : TConfiguration) (left taken n : ℕ) (bs : List ℕ) → ran lim left taken (ended n) bs ≡ running left taken (ended n)
unfolding ran
final_end lim left taken n [] = refl
final_end lim left taken n (b ∷ bs) = refl

pub final_stop : (lim : TConfiguration) (left taken why : ℕ) (bs : List ℕ) → ran lim left taken (stopped why) bs ≡ running left taken (stopped why)
unfolding ran
final_stop lim left taken why [] = refl
final_stop lim left taken why (b ∷ bs) = refl

module _ (lim : TConfiguration) (all left taken : ℕ) (o : Stand) (st : Standing lim all left taken o) (bs : List ℕ) (whole : Run) (inv : whole ≡ ran lim left taken (rest_of o) bs) where
  abbrev same : Progress
  same = record { left = left; taken = taken; stand = o }

  resting : (n : Now) → o.rest.0 ≡ n → ((w : Wait) → o.rest.0 ≡ N.Asks w → ⊥) → ran lim left taken (rest_of o) bs ≡ running left taken (rest_of o)
  unfolding rest_of
  resting (N.Asks w) e q = absurd (q w e)
  resting (N.Done n) e q = rw e (final_end lim left taken n bs)
  resting (N.Refused why) e q = rw e (final_stop lim left taken why bs)

  -- no byte is asked for: the rest is for good
  pub run_final : ((w : Wait) → o.rest.0 ≡ N.Asks w → ⊥) → (ran_to same ≡ whole) × Standing lim all left taken o
  unfolding ran_to
  run_final q = (sym (inv ∙ resting o.rest.0 refl q), st)

  module _ (w : Wait) (e : o.rest.0 ≡ N.Asks w) where
    asking : rest_of o ≡ asks (held o.levels o.depth) o.body w
    unfolding rest_of
    asking = ap (rest_now (held o.levels o.depth) o.body) e

    sound_here : (o.body < left) × Fit (held o.levels o.depth) w
    unfolding Sound
    sound_here = subst (Sound left) asking st.sound

    deep_here : (0 < length (held o.levels o.depth)) × (length (held o.levels o.depth) + need w ≤ lim.depth)
    unfolding Deep
    deep_here = subst (Deep lim) asking st.deep

    pub run_body : o.body < left
    run_body = sound_here.0

    pub run_fit : Fit (held o.levels o.depth) w
    run_fit = sound_here.1

    pub run_open : 0 < o.depth
    run_open = let h = deep_here.0 in omega (arith, length_held o.levels o.depth)

    pub run_room : o.depth + need w ≤ lim.depth
    run_room = let h = deep_here.1 in omega (arith, length_held o.levels o.depth)

    pub run_ready : Ready w
    run_ready = fit_ready (held o.levels o.depth) w run_fit

    abbrev later : ℕ → Stand
    later n = record { levels = o.levels; depth = o.depth; body = o.body - n; rest = o.rest }

    later_is : (n : ℕ) → rest_of (later n) ≡ asks (held o.levels o.depth) (o.body - n) w
    unfolding rest_of
    later_is n = ap (rest_now (held o.levels o.depth) (o.body - n)) e

    pub run_waits : (n : ℕ) → n ≡ length bs → n ≤ o.body → (ran_to (record { left = left - n; taken = taken + n; stand = later n }) ≡ whole) × Standing lim all (left - n) (taken + n) (later n)
    unfolding ran_to Sound Deep
    run_waits n k h =
        let b = run_body in
        let d = deep_here in
        let f = run_fit in (
          sym
              (inv
              ∙ ap (λ (x : Rest). ran lim left taken x bs) asking
              ∙ ran_pass lim (held o.levels o.depth) w bs left taken o.body (omega arith)
              ∙ ap (λ (i : ℕ). running (left - i) (taken + i) (asks (held o.levels o.depth) (o.body - i) w)) (sym k)
              ∙ ap (running (left - n) (taken + n)) (sym (later_is n))),
          record {
            most = st.most;
            rows = st.rows;
            sum = let g = st.sum in omega arith;
            fits = st.fits;
            sound = subst (Sound (left - n)) (sym (later_is n)) (omega arith, f);
            deep = subst (Deep lim) (sym (later_is n)) d;
          },
        )

    module _ (q : Stand) (h : o.body < length bs) (s : Stands lim (stepped lim (left - (o.body + 1)) (held o.levels o.depth) w (get_or bs o.body 0)) q) where
      pub run_on : whole ≡ ran lim (left - (o.body + 1)) (taken + (o.body + 1)) (rest_of q) (drop (o.body + 1) bs)
      run_on =
          inv
          ∙ ap (λ (x : Rest). ran lim left taken x bs) asking
          ∙ ran_look lim (held o.levels o.depth) w bs left taken o.body h
          ∙ ap (λ (x : Rest). ran lim (left - (o.body + 1)) (taken + (o.body + 1)) x (drop (o.body + 1) bs)) (sym s.is)

      pub run_stands : Standing lim all (left - (o.body + 1)) (taken + (o.body + 1)) q
      run_stands =
          let b = run_body in
          record {
            most = st.most;
            rows = s.rows;
            sum = let g = st.sum in omega arith;
            fits = st.fits;
            sound = subst (Sound (left - (o.body + 1))) (sym s.is) (stepped_sound (left - (o.body + 1)) lim (held o.levels o.depth) w (get_or bs o.body 0));
            deep = subst (Deep lim) (sym s.is) (stepped_deep lim (left - (o.body + 1)) o.levels o.depth w (get_or bs o.body 0) run_open run_fit run_room);
          }

-- the same at a place of the burst
module _ (lim : TConfiguration) (all left taken : ℕ) (o : Stand) (st : Standing lim all left taken o) (burst : List ℕ) (at : ℕ) (whole : Run) (inv : whole ≡ ran lim left taken (rest_of o) (drop at burst)) (w : Wait) (e : o.rest.0 ≡ N.Asks w) (q : Stand) (h : at + o.body < length burst) (s : Stands lim (stepped lim (left - (o.body + 1)) (held o.levels o.depth) w (get_or burst (at + o.body) 0)) q) where
  there : Stands lim (stepped lim (left - (o.body + 1)) (held o.levels o.depth) w (get_or (drop at burst) o.body 0)) q
  there = rw get_or-drop s

  inside : o.body < length (drop at burst)
  inside = omega (arith, length-drop at burst)

  pub burst_on : whole ≡ ran lim (left - (o.body + 1)) (taken + (o.body + 1)) (rest_of q) (drop (at + o.body + 1) burst)
  burst_on =
      let n : at + (o.body + 1) ≡ at + o.body + 1 = omega arith in
      run_on lim all left taken o st (drop at burst) whole inv w e q inside there
      ∙ ap (λ (cs : List ℕ). ran lim (left - (o.body + 1)) (taken + (o.body + 1)) (rest_of q) cs) (drop-drop (o.body + 1) at burst ∙ ap (λ (i : ℕ). drop i burst) n)

  pub burst_stands : Standing lim all (left - (o.body + 1)) (taken + (o.body + 1)) q
  burst_stands = run_stands lim all left taken o st (drop at burst) whole inv w e q inside there

-- the byte at hand, and the move that it leads to
module _ (lim : TConfiguration) (all left taken : ℕ) (o : Stand) (st : Standing lim all left taken o) (burst : List ℕ) (at : ℕ) (whole : Run) (inv : whole ≡ ran lim left taken (rest_of o) (drop at burst)) (w : Wait) (e : o.rest.0 ≡ N.Asks w) (m : Moved) (i : m ≡ moved lim (left - (o.body + 1)) (nest_at o.levels (o.depth - 1)) w (get_or burst (at + o.body) 0)) where
  abbrev on : Rest
  on = stepped lim (left - (o.body + 1)) (held o.levels o.depth) w (get_or burst (at + o.body) 0)

  opened : 0 < o.depth
  opened = run_open lim all left taken o st (drop at burst) whole inv w e

  room : o.depth + need w ≤ lim.depth
  room = run_room lim all left taken o st (drop at burst) whole inv w e

  pub run_allowed : Allowed lim o.depth m
  run_allowed = look_allowed lim (left - (o.body + 1)) o.levels o.depth w (get_or burst (at + o.body) 0) opened m i room

  pub far_on : (q : Stand) → Stands lim (applied lim (left - (o.body + 1)) (held o.levels o.depth) m) q → Stands lim on q
  far_on q s = look_is lim (left - (o.body + 1)) o.levels o.depth w (get_or burst (at + o.body) 0) opened m q (run_fit lim all left taken o st (drop at burst) whole inv w e) i s

  module _ (x : Near) (f : x ≡ near_move lim (left - (o.body + 1)) o.depth (nest_at o.levels (o.depth - 1)) m) where
    pub near_on : (l : Nest) (body : ℕ) (q : Resting) → x ≡ I.Rests l body q → Stands lim on (record { levels = set o.levels (o.depth - 1) (level_of l); depth = o.depth; body = body; rest = q })
    near_on l body q g = let r = room in far_on _ (near_rests lim (left - (o.body + 1)) o.levels o.depth opened (omega arith) st.most st.rows m x f l body q g)

-- what a run hands back
pub progress_is : (lim : TConfiguration) (all left taken : ℕ) (o : Stand) (whole : Run) (p : Progress) → p ≡ progress_of left taken o → (ran_to (progress_of left taken o) ≡ whole) × Standing lim all left taken o → (ran_to p ≡ whole) × Standing lim all p.left p.taken p.stand
progress_is lim all left taken o whole p e h = subst (λ (x : Progress). (ran_to x ≡ whole) × Standing lim all x.left x.taken x.stand) (sym e) h
