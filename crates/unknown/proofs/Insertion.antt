-- Unknown fields change no answer: a struct within the limits and a longer one with complete fields put among its own, none of a listed id, both
-- written by the writer's calls, are picked alike, at whatever depth the reader stands. Assumes nothing.
use mathlib.Core.Path.{◌≡◌, refl, sym, ap, subst, ◌∙◌}
use mathlib.Core.Logic.{⊎_elim}
use mathlib.Core.Bool.{Bool, true, false}
use mathlib.Core.List.{List, ◌++◌}
use Prim.Native.Nat.{ℕ, ◌+◌, ◌-◌, ◌*◌, ◌≤◌}
use native.Mathlib.Omega.{arith}
use lib.Dec.{eqb}
use lib.IntN.{ℤ, pos}
use lib.ListN.{length, take, drop}
use lib.Seq.{slice}
use Rattle.types.specs.Codes.{type_code}
use Rattle.types.specs.declared.TConfiguration.{TConfiguration}
use Rattle.types.specs.Value as val
use Rattle.types.specs.Value.{Tree, Fields, no_fields, type_of, nesting, nesting_fields, Sized, SizedFields, Typed, TypedFields, Within}
use Rattle.types.proofs.Limits.{Ranged}
use Rattle.input.specs.State.{State, cut_of, sound, waits}
use Rattle.input.specs.Outcome.{Outcome}
use Rattle.input.specs.Answers.{as_done}
use Rattle.skip.specs.Walk.{Entry}
use Rattle.skip.specs.Skip.{room_of, skipped_to}
use Rattle.wanted.specs.Wanted.{same_id, among, listed}
use Rattle.wanted.proofs.Cases.{is_same}
use Rattle.picker.specs.Pick.{Row, Own, own_from, answer, rows_of, forgets, pick_call, written, picked_rows}
use Rattle.picker.proofs.Went.{Went, went_is}
use Rattle.output.specs.State as writer
use Rattle.output.proofs.Checks.{Sound}
use Rattle.numbers.proofs.Put.{length_put}
use Rattle.laws.specs.Text.{Plan, Texts}
use Rattle.laws.specs.Written.{bytes_of, bytes_of_fields}
use Rattle.laws.specs.Writing.{Step, write_of}
use Rattle.laws.proofs.Writing as writing
use Rattle.laws.proofs.RoundTrip.{same_there, Through, There, round_trip}
use Rattle.unknown.specs.Inserted.{Inserted, Told, absent, other, told, joined, last_in, kind_of, bytes_in}
use Rattle.unknown.proofs.Entries.{entries_of, entries_read}
use Rattle.unknown.proofs.Answers.{Agrees, told_by}

-- a field of another id says nothing
not_mine : (x : Told) (same : Bool) (t : Tree) → joined x false same t ≡ x
not_mine absent same t = refl
not_mine other same t = refl
not_mine (told u) same t = refl

other_id : (i id : ℤ) (ids : List ℤ) → among i ids ≡ false → among id ids ≡ true → same_id i id ≡ false
other_id i id ids f g = go (same_id i id) refl
  where
    go : (b : Bool) → same_id i id ≡ b → same_id i id ≡ false
    go true e =
        let q : among i ids ≡ among id ids = ap (λ (z : ℤ). among z ids) (is_same i id e) in
        let z : ◌≡◌ {A = Bool} false true = sym f ∙ q ∙ g in
        let o : ◌≡◌ {A = ℕ} 0 1 = cc in
        absurd (omega arith)
    go false e = e

-- what a struct says of a listed id is not changed by fields put among its own
pub same_told : (ids : List ℤ) (id : ℤ) (k : ℕ) → among id ids ≡ true → (gs fs : Fields) → Inserted ids fs gs → last_in id k gs ≡ last_in id k fs
unfolding Inserted last_in
same_told ids id k m no_fields fs h = sym (ap (last_in id k) h)
same_told ids id k m (val.field i t gs) fs h =
    ⊎_elim
    (λ own. ap (λ (x : Told). joined x (same_id i id) (eqb (type_code (type_of t)) k) t) (same_told ids id k m gs own.0 own.2) ∙ sym (ap (last_in id k) own.1))
    (λ put.
    ap (λ (b : Bool). joined (last_in id k gs) b (eqb (type_code (type_of t)) k) t) (other_id i id ids put.0 m)
    ∙ not_mine (last_in id k gs) (eqb (type_code (type_of t)) k) t
    ∙ same_told ids id k m gs fs put.1)
    h

-- The reader stands at a struct that was written: "in as many structs, under the same limits, with no bool pending"; its bytes end no later than the
-- reader's cut.
pub record Stands (lim : TConfiguration) (depth : ℕ) (t : Tree) (s : List ℕ) (st : State) : Type 0 where
  pub lims : st.limits ≡ lim
  pub deep : st.depth ≡ depth
  pub sounds : sound (length s) st ≡ true
  pub free : waits st.pending.0 ≡ false
  pub rest : List ℕ
  pub here : drop st.place.0 s ≡ bytes_of t ++ rest
  pub before : st.place.0 + length (bytes_of t) ≤ cut_of st

-- what a picker that is lent room answers there: it ends just behind the struct, and each row has the kind and the value's bytes that the struct's fields say
pub record Picked (ids : List ℤ) (kinds : List ℕ) (fs : Fields) (s : List ℕ) (st : State) (rows : List ℕ) : Type 0 where
  pub own : List Own
  pub answers : pick_call ids kinds (length rows) s st ≡ skipped_to st (st.place.0 + length (bytes_of (val.struct fs)))
  pub noted : picked_rows ids kinds s st rows ≡ rows_of ids kinds own ++ drop (3 * length ids) rows
  pub tells : (id : ℤ) (k : ℕ) → Agrees s (answer id k own) (last_in id k fs)

module _ (lim : TConfiguration) (ok : Ranged lim) (depth : ℕ) (ids : List ℤ) (kinds : List ℕ) (l : listed ids kinds ≡ true) where
  pub picked : (fs : Fields) → Within lim depth (val.struct fs) → (s : List ℕ) (st : State) → Stands lim depth (val.struct fs) s st → (rows : List ℕ) → 3 * length ids ≤ length rows → Picked ids kinds fs s st rows
  unfolding bytes_of nesting Sized Typed pick_call picked_rows
  picked fs w s st p rows h =
      let d : st.limits.depth ≡ lim.depth = ap (λ (x : TConfiguration). x.depth) p.lims in
      let n = w.nested in
      let at = st.place.0 in
      let reads = entries_read st.limits (subst Ranged (sym p.lims) ok) s fs (room_of st - 1) (pos 0) at p.rest (omega (arith, p.deep)) (subst (λ (x : TConfiguration). SizedFields x fs) (sym p.lims) w.sized) w.typed p.here in
      let went : Went ids kinds (length rows) st s (entries_of (pos 0) fs) (at + length (bytes_of_fields (pos 0) fs)) = record { sounds = p.sounds; free = p.free; fine = l; deep = omega (arith, p.deep); fits = h; reads = reads; before = p.before } in
      let is = went_is ids kinds (length rows) st s (entries_of (pos 0) fs) (at + length (bytes_of_fields (pos 0) fs)) went in
      record {
        own = own_from at (entries_of (pos 0) fs);
        answers = ap (λ (o : Outcome (List (Entry Tree))). as_done (forgets o)) is;
        noted = ap (λ (o : Outcome (List (Entry Tree))). written ids kinds at o.said rows) is;
        tells = λ id k. told_by s id k fs (pos 0) at p.rest p.here;
      }

-- two rows that say the same: "each id has the same kind of answer and the same value bytes"
pub record SameRow (s₁ s₂ : List ℕ) (r₁ r₂ : Row) : Type 0 where
  pub kind : r₁.kind ≡ r₂.kind
  pub bytes : slice r₁.start r₁.end s₁ ≡ slice r₂.start r₂.end s₂

same_row : (s₁ s₂ : List ℕ) (r₁ r₂ : Row) (x y : Told) → Agrees s₁ r₁ x → Agrees s₂ r₂ y → y ≡ x → SameRow s₁ s₂ r₁ r₂
same_row s₁ s₂ r₁ r₂ x y a b e = record { kind = a.kind ∙ ap kind_of (sym e) ∙ sym b.kind; bytes = a.bytes ∙ ap bytes_in (sym e) ∙ sym b.bytes }

-- what the two pickers answer
pub record Unmoved (ids : List ℤ) (kinds : List ℕ) (fs gs : Fields) (s₁ s₂ : List ℕ) (st₁ st₂ : State) (rows₁ rows₂ : List ℕ) : Type 0 where
  pub first : Picked ids kinds fs s₁ st₁ rows₁
  pub second : Picked ids kinds gs s₂ st₂ rows₂
  pub same : (id : ℤ) → among id ids ≡ true → (k : ℕ) → SameRow s₁ s₂ (answer id k first.own) (answer id k second.own)

pub insertion : (lim : TConfiguration) → Ranged lim → (depth : ℕ) (ids : List ℤ) (kinds : List ℕ) → listed ids kinds ≡ true → (fs gs : Fields) → Within lim depth (val.struct fs) → Within lim depth (val.struct gs) → Inserted ids fs gs → (s₁ : List ℕ) (st₁ : State) → Stands lim depth (val.struct fs) s₁ st₁ → (s₂ : List ℕ) (st₂ : State) → Stands lim depth (val.struct gs) s₂ st₂ → (rows₁ rows₂ : List ℕ) → 3 * length ids ≤ length rows₁ → 3 * length ids ≤ length rows₂ → Unmoved ids kinds fs gs s₁ s₂ st₁ st₂ rows₁ rows₂
insertion lim ok depth ids kinds l fs gs w v ins s₁ st₁ p s₂ st₂ q rows₁ rows₂ h₁ h₂ =
    let a = picked lim ok depth ids kinds l fs w s₁ st₁ p rows₁ h₁ in
    let b = picked lim ok depth ids kinds l gs v s₂ st₂ q rows₂ h₂ in
    record {
      first = a;
      second = b;
      same = λ id m k. same_row s₁ s₂ (answer id k a.own) (answer id k b.own) (last_in id k fs) (last_in id k gs) (a.tells id k) (b.tells id k) (same_told ids id k m gs fs ins);
    }

-- Where the writer's calls wrote a value, a reader stands at it: in any input that agrees with the writer's buffer up to the writer's place, where the
-- writer stood before.
pub written_stands : (lim : TConfiguration) (depth : ℕ) (steps : List Step) (t : Tree) (buf : List ℕ) (ws : writer.State) (w : Through steps (bytes_of t) buf ws) (s : List ℕ) → take w.next.place.0 s ≡ take w.next.place.0 w.after → (st : State) → st.limits ≡ lim → st.depth ≡ depth → sound (length s) st ≡ true → waits st.pending.0 ≡ false → st.place.0 ≡ ws.place.0 → w.next.place.0 ≤ cut_of st → Stands lim depth t s st
written_stands lim depth steps t buf ws w s agree st a b c d e h =
    let at : ws.place.0 + length (bytes_of t) ≡ w.next.place.0 = sym w.there in
    let fits : w.next.place.0 ≤ length buf = omega (arith, w.fits, ap length w.puts, length_put buf ws.place.0 (bytes_of t)) in
    record {
      lims = a;
      deep = b;
      sounds = c;
      free = d;
      rest = drop (length (bytes_of t)) (drop ws.place.0 s);
      here = ap (λ (n : ℕ). drop n s) e ∙ same_there buf s (bytes_of t) ws.place.0 w.next.place.0 at fits (agree ∙ ap (take w.next.place.0) w.puts);
      before = omega arith;
    }

-- One side of the demand: a struct written by the calls, and a reader that stands at it. On both its bytes end no later than the state's own cut.
pub record Side (lim : TConfiguration) (depth : ℕ) (fs : Fields) : Type 0 where
  pub within : Within lim depth (val.struct fs)
  pub plan : Plan
  pub texts : Texts plan (val.struct fs)
  pub buf : List ℕ
  pub before : writer.State
  pub ready : writing.Ready lim depth before
  pub writer_sound : Sound (length buf) before
  pub room : before.place.0 + length (bytes_of (val.struct fs)) ≤ length buf
  pub ceiling : before.place.0 + length (bytes_of (val.struct fs)) ≤ writer.cut_of before
  pub s : List ℕ
  pub st : State
  pub lims : st.limits ≡ lim
  pub deep : st.depth ≡ depth
  pub sounds : sound (length s) st ≡ true
  pub free : waits st.pending.0 ≡ false
  pub there : st.place.0 ≡ before.place.0
  pub cut : st.place.0 + length (bytes_of (val.struct fs)) ≤ cut_of st

-- what the writer's calls left
pub left_by : (lim : TConfiguration) → Ranged lim → (depth : ℕ) (fs : Fields) (x : Side lim depth fs) → There lim depth x.plan (val.struct fs) x.buf x.before
left_by lim ok depth fs x = round_trip lim ok depth x.plan (val.struct fs) x.within x.texts x.buf x.before x.ready x.writer_sound x.room x.ceiling

-- the reader's input agrees with it up to the writer's place
abbrev pub Agreed : (lim : TConfiguration) → Ranged lim → (depth : ℕ) (fs : Fields) → Side lim depth fs → Type 0
Agreed lim ok depth fs x =
    let w = (left_by lim ok depth fs x).wrote in
    take w.next.place.0 x.s ≡ take w.next.place.0 w.after

-- Demand 3: "Unknown complete fields put among a struct's own change no answer"
pub unknown_fields : (lim : TConfiguration) (ok : Ranged lim) (depth : ℕ) (ids : List ℤ) (kinds : List ℕ) → listed ids kinds ≡ true → (fs gs : Fields) → Inserted ids fs gs → (x : Side lim depth fs) → Agreed lim ok depth fs x → (y : Side lim depth gs) → Agreed lim ok depth gs y → (rows₁ rows₂ : List ℕ) → 3 * length ids ≤ length rows₁ → 3 * length ids ≤ length rows₂ → Unmoved ids kinds fs gs x.s y.s x.st y.st rows₁ rows₂
unknown_fields lim ok depth ids kinds l fs gs ins x a y b rows₁ rows₂ h₁ h₂ =
    insertion lim ok depth ids kinds l fs gs x.within y.within ins x.s x.st (stood fs x a) y.s y.st (stood gs y b) rows₁ rows₂ h₁ h₂
  where
    stood : (hs : Fields) (z : Side lim depth hs) → Agreed lim ok depth hs z → Stands lim depth (val.struct hs) z.s z.st
    stood hs z c =
        let w = (left_by lim ok depth hs z).wrote in
        written_stands lim depth (write_of z.plan (val.struct hs)) (val.struct hs) z.buf z.before w z.s c z.st z.lims z.deep z.sounds z.free z.there (omega (arith, w.there, z.there, z.cut))
