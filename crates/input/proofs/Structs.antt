-- Structs, fields and messages: what each leaves of the last id, the depth and the pending bool. Assumes nothing.
use mathlib.Core.Path.{◌≡◌, refl, sym, ap, ◌∙◌}
use mathlib.Core.List.{List}
use mathlib.Core.Bool.{Bool, true, false}
use Prim.Native.Nat.{ℕ, ◌+◌, ◌-◌, ◌<◌}
use native.Mathlib.Omega.{arith}
use borrow.Author.Tests.{eq-eqb, ne_eqb, leb-false}
use lib.Dec.{leb}
use lib.IntN.{pos}
use lib.ListN.{length, get_or, set}
use lib.Seq.{get_or-set_same}
use Rattle.types.specs.Refusals.{DEPTH, OUT_OF_TURN, BAD_STATE}
use Rattle.heads.specs.Heads.{Message, message}
use Rattle.heads.specs.Answers.{id_of}
use Rattle.input.specs.State.{State, sound, gate, put, entered}
use Rattle.input.specs.Outcome.{Outcome, calls_to, cut_here, answers, declines, anew, begins, ends}
use Rattle.input.specs.Answers.{as_done, number_field, number_message, number_done}
use Rattle.input.specs.Calls.{read_field, read_message, struct_begin, struct_end}
use Rattle.input.specs.declared.ReadDone.{ReadDone}
use Rattle.input.proofs.Gate.{is_sound, top, Gated, bad, turn, through, gated}
use Rattle.input.proofs.Refusals.{message_told_lem}
use Rattle.input.proofs.Laws.{busy, gate_free, landed}
use Rattle.input.proofs.Each.{field_laws, begin_laws, num_message}

-- "a refused header must not leave [the pending bool] behind": what waited still waits, and nothing else
pub refused_waits : (s : List ℕ) (st : State) → (number_field (read_field s st).answer ≡ 0 → ⊥) → busy (read_field s st).state ≡ busy st
refused_waits s st h = ap busy (field_laws.kept s st h)

-- "Reading it sets the last field id to 0"
pub message_anew : (s : List ℕ) (st : State) → number_message (read_message s st).answer ≡ 0 → (read_message s st).state.last ≡ id_of (pos 0)
unfolding read_message
message_anew s st z =
    let o : Outcome Message = calls_to cut_here (λ st. message st.limits) anew s st in
    let l = landed cut_here (λ st. message st.limits) anew s st (message_told_lem st.limits) (sym (num_message o.state.place.0 o.said) ∙ z) in
    ap (λ (o : Outcome Message). o.state.last) l.is

-- a struct that is begun: "begin saves the last id and sets 0"
module _ (s : List ℕ) (st : State) (z : number_done (struct_begin s st).answer ≡ 0) where
  pub record Begun : Type 0 where
    pub is_sound : sound (length s) st ≡ true
    pub free : busy st ≡ false
    pub room : st.depth < st.limits.depth
    pub is : struct_begin s st ≡ as_done (answers tt (entered st))

  pub begun : Begun
  unfolding struct_begin begins
  begun = go (gated (length s) st)
    where
      stop_here : (o : Outcome (Unit {0})) → begins s st ≡ o → 0 < number_done (as_done o).answer → Begun
      stop_here o e h = let n : number_done (as_done (begins s st)).answer ≡ number_done (as_done o).answer = ap (λ (x : Outcome (Unit {0})). number_done (as_done x).answer) e in absurd (omega arith)

      deep : sound (length s) st ≡ true → gate (length s) st ≡ 0 → busy st ≡ false → (b : Bool) → leb st.limits.depth st.depth ≡ b → Begun
      deep f g w true d = stop_here (declines DEPTH st) (rw (eq-eqb (gate (length s) st) 0 g, d)) (omega arith)
      deep f g w false d = record { is_sound = f; free = w; room = leb-false _ _ d; is = rw (eq-eqb (gate (length s) st) 0 g, d) }

      go : Gated (length s) st → Begun
      go (bad f g) = stop_here (declines BAD_STATE st) (rw g) (omega arith)
      go (turn f w g) = stop_here (declines OUT_OF_TURN st) (rw g) (omega arith)
      go (through f w g) = deep f g w (leb st.limits.depth st.depth) refl

  -- a struct's own ids start from 0, whatever the outer last id is
  pub begun_at_zero : (struct_begin s st).state.last ≡ id_of (pos 0)
  begun_at_zero = ap (λ (r : ReadDone). r.state.last) begun.is

-- A struct that is begun and ended: the last id and the depth are those from before. (The array of ids has 64 places, as its type says.)
module _ (s : List ℕ) (st : State) (z : number_done (struct_begin s st).answer ≡ 0) (k : length st.ids ≡ 64) where
  pub begin_end : struct_end s (struct_begin s st).state ≡ as_done (answers tt (put st st.place st.last st.depth (set st.ids st.depth st.last.0) st.pending))
  unfolding struct_end ends
  begin_end =
      let b = begun s st z in
      let e : (struct_begin s st).state ≡ entered st = ap (λ (r : ReadDone). r.state) b.is in
      let one : st.depth + 1 - 1 ≡ st.depth = omega arith in
      let same : get_or (set st.ids st.depth st.last.0) st.depth (pos 0) ≡ st.last.0 = get_or-set_same st.ids st.depth st.last.0 (pos 0) (omega (arith, b.room, top (length s) st (is_sound (length s) st b.is_sound))) in
      let f : sound (length s) (struct_begin s st).state ≡ true = begin_laws.still_sound s st b.is_sound in
      let g : gate (length s) (entered st) ≡ 0 = gate_free (length s) (entered st) (rw e at f) b.free in
      rw (e, eq-eqb (gate (length s) (entered st)) 0 g, ne_eqb (st.depth + 1) 0 (λ h. omega arith), one, same)
