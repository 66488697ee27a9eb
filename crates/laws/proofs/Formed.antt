-- Well-formed bytes that end no later than the message's cut, overlong and long forms among them, are read by the calls as the tree that they spell,
-- and the reader stands behind them.
-- Assumes nothing.
use mathlib.Core.Path.{◌≡◌, refl, sym, ap, subst, ◌∙◌}
use mathlib.Core.Bool.{true}
use mathlib.Core.Logic.{◌↔◌}
use mathlib.Core.List.{List, ◌++◌}
use Prim.Native.Nat.{ℕ, ◌+◌, ◌≤◌}
use native.Mathlib.Omega.{arith}
use lib.ListN.{length, take, drop, length-drop, take-append-drop}
use lib.Seq.{slice, length-take-le, take-take}
use Rattle.types.specs.declared.TType.{TType}
use Rattle.types.specs.Value.{Tree, nesting}
use Rattle.numbers.specs.Varint.{got}
use Rattle.numbers.proofs.Found.{take_drop, same_part}
use Rattle.heads.specs.Reader.{read_at}
use Rattle.heads.specs.Answers.{place}
use Rattle.heads.specs.Spells.{Spells, Formed}
use Rattle.input.specs.State.{State, cut_of, sound}
use Rattle.input.specs.declared.Awaited.TheVariants as W
use Rattle.input.proofs.Gate.{is_sound}
use Rattle.skip.specs.Value.{value_of}
use Rattle.skip.specs.Skip.{skip_to, room_of}
use Rattle.skip.specs.declared.Skipped.TheVariants.{Done}
use Rattle.skip.proofs.Theorems.{reads, skip_formed}
use Rattle.skip.proofs.Cut.{to_whole}
use Rattle.laws.specs.Text.{Plan, Texts}
use Rattle.laws.specs.Reading.{took, read_of}
use Rattle.laws.proofs.Nested.{nested}
use Rattle.laws.proofs.Texts.{as_bytes, no_texts}
use Rattle.laws.proofs.Reading.{Gave, ready, read_of_lem}
use Rattle.laws.proofs.Exact.{Read, was_formed}

-- a reader that is sound for its input, with no bool pending (the array of ids has 64 places, as its type says)
module _ (s : List ℕ) (st : State) (ok : sound (length s) st ≡ true) (free : st.pending.0 ≡ W.Nothing) (ids : length st.ids ≡ 64) where
  -- n bytes that are well formed, and end no later than the cut, are read as the tree that they spell; "strings .. as such are UTF-8" where they are read so
  pub formed_read : (plan : Plan) (ty : TType) (n : ℕ) (f : Formed s st.limits (room_of st) ty st.place.0 (st.place.0 + n)) → st.place.0 + n ≤ cut_of st → Texts plan f.tree → Gave (read_of s ty plan st) f.tree st n st.last
  formed_read plan ty n f h x =
      let at = st.place.0 in
      let near = take (cut_of st) s in
      let q = is_sound (length s) st ok in
      let l : length (take n (drop at s)) ≡ n = length-take-le n (drop at s) (omega (arith, f.inside, length-drop at s)) in
      let here : drop at near ≡ take n (drop at s) ++ drop n (drop at near) = sym (take-append-drop n (drop at near)) ∙ ap (λ (b : List ℕ). b ++ drop n (drop at near)) (same_part at n (at + n) s near refl (take-take (at + n) (cut_of st) s h)) in
      subst (λ (m : ℕ). Gave (read_of s ty plan st) f.tree st m st.last) l
      (read_of_lem s (cut_of st) st.limits q.limits plan f.tree (room_of st) st.depth ty (take n (drop at s)) (drop n (drop at near)) st (subst (Spells f.tree st.limits (room_of st) ty) (sym (take_drop at n s)) f.spelt) x (ready s st ok free ids) (omega (arith, q.deep)) here)

  -- and back: a value that the calls read, nested no deeper than skip goes, stood there well formed and ended no later
  pub read_formed : (plan : Plan) (ty : TType) (t : Tree) (next : State) → read_of s ty plan st ≡ took t next → nesting t ≤ room_of st → Read s (cut_of st) st.limits (is_sound (length s) st ok).limits (room_of st) plan ty t st next
  read_formed plan ty t next e h =
      let q = is_sound (length s) st ok in
      was_formed s (cut_of st) st.limits q.limits plan ty (room_of st) st.depth st next t (ready s st ok free ids) (omega (arith, q.deep)) e h

  -- the two as one: the calls give this tree n bytes on, nested no deeper than skip goes, exactly where n well-formed bytes spell it and end no later than
  -- the message's cut
  pub record Given (plan : Plan) (ty : TType) (t : Tree) (n : ℕ) : Type 0 where
    pub next : State
    pub reads : read_of s ty plan st ≡ took t next
    pub there : next.place.0 ≡ st.place.0 + n
    pub nests : nesting t ≤ room_of st

  pub record Stands (plan : Plan) (ty : TType) (t : Tree) (n : ℕ) : Type 0 where
    pub formed : Formed s st.limits (room_of st) ty st.place.0 (st.place.0 + n)
    pub before : st.place.0 + n ≤ cut_of st
    pub same : formed.tree ≡ t
    pub texts : Texts plan t

  pub read_exact : (plan : Plan) (ty : TType) (t : Tree) (n : ℕ) → Given plan ty t n ↔ Stands plan ty t n
  read_exact plan ty t n = (from_calls, to_calls)
    where
      from_calls : Given plan ty t n → Stands plan ty t n
      from_calls c =
          let r = read_formed plan ty t c.next c.reads c.nests in
          let f = r.formed in
          let e = c.there in
          record {
            formed = record { tree = f.tree; start = omega (arith, f.start); inside = omega (arith, f.inside); spelt = subst (λ (m : ℕ). Spells f.tree st.limits (room_of st) ty (slice st.place.0 m s)) e f.spelt };
            before = omega (arith, r.before);
            same = r.same;
            texts = r.texts;
          }

      to_calls : Stands plan ty t n → Given plan ty t n
      to_calls c =
          let f = c.formed in
          let g = formed_read plan ty n f c.before (subst (Texts plan) (sym c.same) c.texts) in
          record {
            next = g.next;
            reads = g.is ∙ ap (λ (x : Tree). took x g.next) c.same;
            there = g.kept.there;
            nests = subst (λ (x : Tree). nesting x ≤ room_of st) c.same (nested st.limits f.tree (room_of st) ty (slice st.place.0 (st.place.0 + n) s) f.spelt);
          }

  -- whatever skip takes is read by the calls, and the reader ends where skip does
  pub record Skipped (ty : TType) (n : ℕ) : Type 0 where
    pub tree : Tree
    pub stood : read_at (value_of st.limits (room_of st) ty) s st.place.0 ≡ got tree (st.place.0 + n)
    pub gave : Gave (read_of s ty as_bytes st) tree st n st.last

  pub skipped_read : (ty : TType) (n : ℕ) → skip_to s (cut_of st) st.limits (room_of st) ty st.place.0 ≡ Done (place (st.place.0 + n)) → Skipped ty n
  skipped_read ty n e =
      let q = is_sound (length s) st ok in
      let w = to_whole s (cut_of st) st.limits (room_of st) ty st.place.0 q.before q.here (st.place.0 + n) e in
      let f = skip_formed s st.limits (room_of st) ty st.place.0 (st.place.0 + n) w.0 in
      record {
        tree = f.tree;
        stood = reads s st.limits (room_of st) ty st.place.0 (st.place.0 + n) f.tree f.start f.inside f.spelt;
        gave = formed_read as_bytes ty n f w.1 (no_texts f.tree);
      }
