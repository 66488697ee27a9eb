-- What document 02 asks of frames, for the definition `frame`. Assumes nothing.
use mathlib.Core.Path.{◌≡◌, refl, sym, ap, ap₂, subst, ◌∙◌}
use mathlib.Core.Bool.{Bool, true, cond}
use mathlib.Core.List.{List, ◌++◌}
use Prim.Native.Nat.{ℕ, ◌+◌, ◌-◌, min}
use native.Mathlib.Omega.{arith}
use lib.ListN.{length, take, drop, length-take, take-append-drop}
use lib.Dec.{ltb}
use Rattle.types.specs.declared.TType.TheVariants as T
use Rattle.types.specs.declared.TConfiguration.{TConfiguration}
use Rattle.types.specs.Value.{Tree}
use Rattle.numbers.specs.Varint as num
use Rattle.numbers.specs.Varint.{Found, placed}
use Rattle.heads.specs.Reader as r
use Rattle.skip.specs.Value.{value_of}
use Rattle.types.specs.Limits.{in_range}
use Rattle.types.specs.Refusals.{BAD_STATE}
use Rattle.input.specs.State.{fresh}
use Rattle.input.specs.Outcome.{declines}
use Rattle.input.specs.declared.Awaited.TheVariants as W
use Rattle.input.proofs.Gate.{fresh_sound}
use Rattle.skip.specs.Skip.{passed, skip_to, over, awaited, skips}
use Rattle.skip.specs.declared.Skipped.{Skipped}
use Rattle.skip.specs.declared.Skipped.TheVariants.{Done, Refused}
use Rattle.frame.specs.Ask.{Ask, Told, ends, refuses, waits, told}
use Rattle.frame.specs.Plans.{Passed, skip_plan}
use Rattle.frame.specs.Frame.{cut_of, missed, frame}
use Rattle.frame.proofs.Asks.{Stays, stays}
use Rattle.frame.proofs.Tied.{Follows, as_told, skip_follows}

-- skip's answer, as what a frame tells
abbrev pub skip_told : Skipped → Told Passed
skip_told (Done e) = ends tt e.0
skip_told (Refused why) = refuses why

told_skip : (more : Bool) (x : Found Tree) → missed more (as_told (λ t. tt) x) ≡ skip_told (passed (r.missed more (placed 0 x)))
told_skip more (num.got t n) = ap (ends tt) (omega arith)
told_skip more (num.refused why) = refl

missed_stays : (more : Bool) (x y : Told Passed) → Stays x y → Stays (missed more x) (missed more y)
missed_stays more (ends u n) y e = ap (missed more) e
missed_stays more (refuses why) y e = ap (missed more) e
missed_stays more waits y e = tt

-- what was found stays, whatever comes behind
found_stays : (x : Found Tree) (y : Told Passed) → Stays (as_told (λ t. tt) x) y → y ≡ as_told (λ t. tt) x
found_stays (num.got t n) y s = s
found_stays (num.refused why) y s = s

module _ (lim : TConfiguration) where
  -- bytes behind those that the plan knows of have no say
  pub behind_none : (bs cs : List ℕ) → told (skip_plan lim lim.depth T.Struct (length bs)) (bs ++ cs) ≡ as_told (λ t. tt) (value_of lim lim.depth T.Struct bs)
  unfolding Follows
  behind_none bs cs =
      let e = skip_follows lim lim.depth T.Struct bs in
      found_stays (value_of lim lim.depth T.Struct bs) _ (subst (λ (x : Told Passed). Stays x (told (skip_plan lim lim.depth T.Struct (length bs)) (bs ++ cs))) e (stays _ bs cs))

  -- "However a frame of the announced length is cut, the final answer and bytes used are those of skip over the whole frame", up to its ceiling
  pub whole : (bs : List ℕ) → frame lim (length bs) bs ≡ skip_told (skip_to bs lim.message lim lim.depth T.Struct 0)
  unfolding frame skip_to r.read_to r.read_at
  whole bs =
      let c : ℕ = lim.message in
      let e : min c (length bs) ≡ length (take c bs) = sym (length-take c bs) in
      ap₂ (λ (n : ℕ) (l : List ℕ). missed (ltb c (length bs)) (told (skip_plan lim lim.depth T.Struct n) l)) e (sym (take-append-drop c bs))
      ∙ ap (missed (ltb c (length bs))) (behind_none (take c bs) (drop c bs))
      ∙ told_skip (ltb c (length bs)) (value_of lim lim.depth T.Struct (take c bs))

  -- "after a final answer further bursts change nothing"
  pub final : (announced : ℕ) (bs cs : List ℕ) → Stays (frame lim announced bs) (frame lim announced (bs ++ cs))
  unfolding frame
  final announced bs cs =
      let q : Ask Passed = skip_plan lim lim.depth T.Struct (cut_of lim announced) in
      missed_stays (ltb lim.message announced) (told q bs) (told q (bs ++ cs)) (stays q bs cs)

  pub still_refused : (announced why : ℕ) (bs cs : List ℕ) → frame lim announced bs ≡ refuses why → frame lim announced (bs ++ cs) ≡ refuses why
  still_refused announced why bs cs e = subst (λ (x : Told Passed). Stays x (frame lim announced (bs ++ cs))) e (final announced bs cs)

  pub still_done : (announced n : ℕ) (bs cs : List ℕ) → frame lim announced bs ≡ ends tt n → frame lim announced (bs ++ cs) ≡ ends tt n
  still_done announced n bs cs e = subst (λ (x : Told Passed). Stays x (frame lim announced (bs ++ cs))) e (final announced bs cs)

  -- an answer that comes early is skip's on every frame of the announced length that begins so
  pub early_refused : (why : ℕ) (bs cs : List ℕ) → frame lim (length (bs ++ cs)) bs ≡ refuses why → skip_told (skip_to (bs ++ cs) lim.message lim lim.depth T.Struct 0) ≡ refuses why
  early_refused why bs cs e = sym (whole (bs ++ cs)) ∙ still_refused _ why bs cs e

  pub early_done : (n : ℕ) (bs cs : List ℕ) → frame lim (length (bs ++ cs)) bs ≡ ends tt n → skip_told (skip_to (bs ++ cs) lim.message lim lim.depth T.Struct 0) ≡ ends tt n
  early_done n bs cs e = sym (whole (bs ++ cs)) ∙ still_done _ n bs cs e

  -- a whole frame has its answer
  same_final : (x : Skipped) (y : Told Passed) → Stays (skip_told x) y → y ≡ skip_told x
  same_final (Done e) y s = s
  same_final (Refused why) y s = s

  -- "Bytes past that length are not taken": they have no say
  pub past_none : (bs cs : List ℕ) → frame lim (length bs) (bs ++ cs) ≡ frame lim (length bs) bs
  past_none bs cs =
      same_final (skip_to bs lim.message lim lim.depth T.Struct 0) (frame lim (length bs) (bs ++ cs)) (subst (λ (x : Told Passed). Stays x (frame lim (length bs) (bs ++ cs))) (whole bs) (final (length bs) bs cs))
      ∙ sym (whole bs)

-- skip over the whole frame is the reader's call: from a new state, under the same limits
pub skip_call_lem : (lim : TConfiguration) (bs : List ℕ) → in_range lim ≡ true → skips T.Struct bs (fresh lim) ≡ over (fresh lim) (skip_to bs lim.message lim lim.depth T.Struct 0)
unfolding skips fresh
skip_call_lem lim bs i =
    let c : 0 + lim.message ≡ lim.message = omega arith in
    let r : lim.depth - 0 ≡ lim.depth = omega arith in
    ap (λ (b : Bool). cond b (awaited bs (fresh lim) T.Struct W.Nothing) (declines BAD_STATE (fresh lim))) (fresh_sound (length bs) lim i)
    ∙ ap₂ (λ (m n : ℕ). over (fresh lim) (skip_to bs m lim n T.Struct 0)) c r
