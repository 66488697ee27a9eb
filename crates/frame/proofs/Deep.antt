-- Something is open wherever the machine waits, no more than the limit, and where it waits for a container's header there is room for it.
-- Assumes nothing.
use mathlib.Core.Bool.{Bool, true, false, cond}
use mathlib.Core.List.{List, [], ◌∷◌}
use Prim.Native.Nat.{ℕ, zero, suc, ◌+◌, ◌-◌, ◌≤◌, ◌<◌}
use native.Mathlib.Omega.{arith}
use native.Mathlib.Decide.{dec_lt}
use borrow.Author.Tests.{lt-ltb, le-ltb}
use lib.Dec.{leb, ltb}
use lib.IntN.{pos}
use lib.ListN.{length}
use Rattle.types.specs.Refusals.{END, DEPTH, BAD_TYPE}
use Rattle.types.specs.declared.TType.{TType}
use Rattle.types.specs.declared.TType.TheVariants as T
use Rattle.types.specs.declared.TConfiguration.{TConfiguration}
use Rattle.heads.specs.Answers.{id_of}
use Rattle.frame.specs.declared.Nest.{Nest}
use Rattle.frame.specs.declared.Nest.TheVariants.{Fields, Items, Keys, Values}
use Rattle.frame.specs.declared.Goal.TheVariants as O
use Rattle.frame.specs.declared.Wait.{Wait}
use Rattle.frame.specs.declared.Wait.TheVariants as W
use Rattle.frame.specs.declared.Moved.{Moved}
use Rattle.frame.specs.declared.Moved.TheVariants as M
use Rattle.frame.specs.Machine.{fresh, Rest, asks, stopped, ask, fits, begin, width, next_pair, next, settled, start}
use Rattle.frame.specs.Moves.{applied}
use Rattle.frame.specs.State.{need, Allowed, Deep}

module _ (lim : TConfiguration) (left : ℕ) where
  quiet : (why : ℕ) → Deep lim (stopped why)
  unfolding Deep
  quiet why = tt

  either : (ok : Bool) (r s : Rest) → Deep lim r → Deep lim s → Deep lim (cond ok r s)
  either true r s a b = a
  either false r s a b = b

  ask_deep : (ls : List Nest) (body : ℕ) (w : Wait) → 0 < length ls → length ls + need w ≤ lim.depth → Deep lim (ask left ls body w)
  unfolding Deep
  ask_deep ls body w h g = go (ltb body left)
    where
      go : (ok : Bool) → Deep lim (cond ok (asks ls body w) (stopped END))
      go true = (h, g)
      go false = tt

  fits_deep : (body n : ℕ) (on : ℕ → Rest) → ((m : ℕ) → Deep lim (on m)) → Deep lim (fits left body n on)
  fits_deep body n on s = either (leb n (left - body)) _ _ (s (body + n)) (quiet END)

  -- a container where there is room
  room_deep : (ls : List Nest) (r : Rest) → (length ls < lim.depth → Deep lim r) → Deep lim (cond (ltb (length ls) lim.depth) r (stopped DEPTH))
  room_deep ls r f = go (dec_lt (length ls) lim.depth)
    where
      go : Dec (length ls < lim.depth) → Deep lim (cond (ltb (length ls) lim.depth) r (stopped DEPTH))
      go (yes h) = rw (lt-ltb (length ls) lim.depth h) (f h)
      go (no h) = rw (le-ltb (length ls) lim.depth (omega arith)) (quiet DEPTH)

  begin_deep : (ls : List Nest) (body : ℕ) (t : TType) (on : ℕ → Rest) → 0 < length ls → length ls ≤ lim.depth → ((m : ℕ) → Deep lim (on m)) → Deep lim (begin lim left ls body t on)
  begin_deep ls body T.Stop on h g s = quiet BAD_TYPE
  begin_deep ls body T.Bool on h g s = ask_deep ls body W.Truth h (omega arith)
  begin_deep ls body T.I08 on h g s = fits_deep body 1 on s
  begin_deep ls body T.I16 on h g s = ask_deep ls body (W.Varint O.Short fresh) h (omega arith)
  begin_deep ls body T.I32 on h g s = ask_deep ls body (W.Number 5) h (omega arith)
  begin_deep ls body T.I64 on h g s = ask_deep ls body (W.Number 10) h (omega arith)
  begin_deep ls body T.Double on h g s = fits_deep body 8 on s
  begin_deep ls body T.String on h g s = ask_deep ls body (W.Varint O.Length fresh) h (omega arith)
  begin_deep ls body T.List on h g s = room_deep ls _ (λ r. ask_deep ls body W.List h (omega arith))
  begin_deep ls body T.Set on h g s = room_deep ls _ (λ r. ask_deep ls body W.List h (omega arith))
  begin_deep ls body T.Map on h g s = room_deep ls _ (λ r. ask_deep ls body (W.Varint O.Pairs fresh) h (omega arith))
  begin_deep ls body T.Struct on h g s = room_deep ls _ (λ r. ask_deep (Fields (id_of (pos 0)) ∷ ls) body W.Head (omega arith) (omega arith))
  begin_deep ls body T.Uuid on h g s = fits_deep body 16 on s

  pair_deep : (ls : List Nest) (k v : TType) (n : ℕ) (on : ℕ → Rest) → suc (length ls) ≤ lim.depth → ((m : ℕ) → Deep lim (on m)) → (body : ℕ) → Deep lim (next_pair lim left ls k v n on body)
  pair_deep ls k v zero on g s body = s body
  pair_deep ls k v (suc n) on g s body =
      either (ltb 0 (width k)) _ _
      (either (ltb 0 (width v)) _ _ (fits_deep body _ on s) (fits_deep body (width k) (λ m. begin lim left (Keys k v n ∷ ls) m v on) (λ m. begin_deep (Keys k v n ∷ ls) m v on (omega arith) g s)))
      (begin_deep (Values k v n ∷ ls) body k on (omega arith) g s)

  next_deep : (ls : List Nest) (l : Nest) (on : ℕ → Rest) → suc (length ls) ≤ lim.depth → ((m : ℕ) → Deep lim (on m)) → (body : ℕ) → Deep lim (next lim left ls on l body)
  next_deep ls (Fields id) on g s body = ask_deep (Fields id ∷ ls) body W.Head (omega arith) (omega arith)
  next_deep ls (Items t zero) on g s body = s body
  next_deep ls (Items t (suc n)) on g s body = either (ltb 0 (width t)) _ _ (fits_deep body _ on s) (begin_deep (Items t n ∷ ls) body t on (omega arith) g s)
  next_deep ls (Keys k v n) on g s body = pair_deep ls k v n on g s body
  next_deep ls (Values k v n) on g s body = begin_deep (Keys k v n ∷ ls) body v _ (omega arith) g (pair_deep ls k v n on g s)

  pub settled_deep : (ls : List Nest) (body : ℕ) → length ls ≤ lim.depth → Deep lim (settled lim left ls body)
  unfolding settled Deep
  settled_deep [] body h = tt
  settled_deep (l ∷ ls) body h = next_deep ls l (settled lim left ls) h (λ m. settled_deep ls m (omega arith)) body

  pub start_deep : Deep lim (start lim left)
  start_deep = room_deep [] _ (λ r. ask_deep (Fields (id_of (pos 0)) ∷ []) 0 W.Head (omega arith) (omega arith))

  -- a move from where something is open, with room for what it opens
  pub applied_deep : (ls : List Nest) (m : Moved) → 0 < length ls → length ls ≤ lim.depth → Allowed lim (length ls) m → Deep lim (applied lim left ls m)
  unfolding Allowed
  applied_deep [] m h g a = absurd (omega arith)
  applied_deep (l ∷ ls) (M.Refused why) h g a = quiet why
  applied_deep (l ∷ ls) (M.Waits w) h g a = ask_deep (l ∷ ls) 0 w h a
  applied_deep (l ∷ ls) (M.Passed n) h g a = fits_deep 0 n (settled lim left (l ∷ ls)) (λ m. settled_deep (l ∷ ls) m g)
  applied_deep (l ∷ ls) M.Closed h g a = settled_deep ls 0 (omega arith)
  applied_deep (l ∷ ls) (M.Opened k) h g a = settled_deep (k ∷ l ∷ ls) 0 (omega arith)
  applied_deep (l ∷ ls) (M.Named id) h g a = settled_deep (Fields id ∷ ls) 0 g
  applied_deep (l ∷ ls) (M.Valued id t) h g a = begin_deep (Fields id ∷ ls) 0 t (settled lim left (Fields id ∷ ls)) h g (λ m. settled_deep (Fields id ∷ ls) m g)
