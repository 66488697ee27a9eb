-- Demands 2 and 3 for a reader at any place of any input that holds the bytes there. Assumes nothing.
use mathlib.Core.Path.{◌≡◌, refl, sym, ap, subst, ◌∙◌}
use mathlib.Core.Bool.{true}
use mathlib.Core.Logic.{◌↔◌}
use mathlib.Core.List.{List, ◌++◌}
use Prim.Native.Nat.{ℕ, ◌+◌, ◌*◌, ◌-◌, ◌≤◌}
use native.Mathlib.Omega.{arith}
use lib.IntN.{ℤ, pos}
use lib.ListN.{length, get_or, take, drop, length-drop, length-append, take-append-drop}
use lib.Seq.{take_at, take-take}
use Rattle.types.specs.declared.TType.{TType}
use Rattle.types.specs.declared.TMessageType.{TMessageType}
use Rattle.types.specs.declared.FieldId.{FieldId}
use Rattle.types.specs.declared.SeqNo.{SeqNo}
use Rattle.types.specs.declared.TConfiguration.{TConfiguration}
use Rattle.types.specs.Value as val
use Rattle.types.specs.Value.{Tree, Fields, type_of, nesting, Within}
use Rattle.types.proofs.Limits.{Ranged, ranged, in_range_lem}
use Rattle.numbers.proofs.Found.{same_part}
use Rattle.heads.specs.Heads.{message}
use Rattle.heads.specs.Answers.{id_of}
use Rattle.heads.specs.Spells.{Formed}
use Rattle.input.specs.State as I
use Rattle.input.specs.Outcome.{cut_here}
use Rattle.input.specs.declared.Awaited.TheVariants as W
use Rattle.input.proofs.Gate.{is_sound}
use Rattle.output.specs.State as O
use Rattle.output.proofs.Checks.{sound}
use Rattle.output.proofs.Back.{whole, message_reads}
use Rattle.puts.specs.Bytes.{message_bytes}
use Rattle.skip.specs.Skip.{room_of}
use Rattle.wanted.specs.Wanted.{listed}
use Rattle.laws.specs.Written.{bytes_of, bytes_of_whole, HeaderWithin, readable, readable_fields}
use Rattle.laws.specs.Text.{Plan, Texts}
use Rattle.laws.specs.Writing.{ran, write_of, write_whole}
use Rattle.laws.specs.Reading.{Took, took, read_of, read_whole}
use Rattle.laws.proofs.Spelt.{spelt}
use Rattle.laws.proofs.Texts.{texts_readable}
use Rattle.laws.proofs.Reading as reading
use Rattle.laws.proofs.Reading.{Gave, ready, ready_anew, read_of_lem, read_whole_lem}
use Rattle.laws.proofs.Formed as formed
use Rattle.laws.proofs.RoundTrip.{round_trip, message_trip}
use Rattle.unknown.specs.Inserted.{Inserted}
use Rattle.unknown.proofs.Insertion as insertion
use Rattle.promises.specs.Standing.{Writer, Reader, Wrote, Read, Picked, Unmoved}

-- the writer
pub value_written : (lim : TConfiguration) (depth : ℕ) (plan : Plan) (t : Tree) (buf : List ℕ) (st : O.State) → Within lim depth t → Texts plan t → Writer lim depth (bytes_of t) buf (O.cut_of st) st → Wrote (write_of plan t) (bytes_of t) buf st.begin.0 st
value_written lim depth plan t buf st w x r =
    let sd = sound (length buf) st r.sound in
    let ok : Ranged lim = subst Ranged r.lims sd.limits in
    let f = (round_trip lim ok depth plan t w x buf st (record { lims = r.lims; deep = r.deep; ids = r.ids; free = r.free }) sd (omega (arith, r.room)) (omega (arith, r.before))).wrote in
    record {
      next = f.next;
      writes = f.writes ∙ ap (λ (l : List ℕ). ran l f.next) f.puts;
      went = record { there = f.there; last_id = f.last; deep = f.kept.deep; lims = f.kept.lims; begins = f.kept.begins; below = f.kept.below; free = f.free };
    }

pub message_written : (lim : TConfiguration) (depth : ℕ) (plan : Plan) (m : TMessageType) (z : SeqNo) (name : List ℕ) (fs : Fields) (buf : List ℕ) (st : O.State) → HeaderWithin lim z name → Within lim depth (val.struct fs) → Texts plan (val.struct fs) → Writer lim depth (bytes_of_whole m z name fs) buf (st.place.0 + lim.message) st → Wrote (write_whole plan m z name fs) (bytes_of_whole m z name fs) buf st.place.0 st
message_written lim depth plan m z name fs buf st h w x r =
    let sd = sound (length buf) st r.sound in
    let ok : Ranged lim = subst Ranged r.lims sd.limits in
    let f = (message_trip lim ok depth plan m z name fs h w x buf st (record { lims = r.lims; deep = r.deep; ids = r.ids; free = r.free }) sd (omega (arith, r.room)) (omega (arith, r.before))).wrote in
    record {
      next = f.next;
      writes = f.writes ∙ ap (λ (l : List ℕ). ran l f.next) f.puts;
      went = record { there = f.there; last_id = f.last; deep = f.kept.deep; lims = f.kept.lims; begins = f.kept.begins; below = f.kept.below; free = f.free };
    }

-- bytes that end no later than a cut stand in the input up to it too
up_to : (s bs rest : List ℕ) (at cut : ℕ) → drop at s ≡ bs ++ rest → at + length bs ≤ cut → drop at (take cut s) ≡ bs ++ drop (length bs) (drop at (take cut s))
up_to s bs rest at cut e h =
    let n = length bs in
    let near = take cut s in
    sym (take-append-drop n (drop at near))
    ∙ ap (λ (b : List ℕ). b ++ drop n (drop at near)) (same_part at n (at + n) s near refl (take-take (at + n) cut s h) ∙ ap (take n) e ∙ take_at bs rest n refl)

-- what a row of calls gave, and no byte is left where none stands behind
came : {A : Type 0} (calls : Took A) (a : A) (bs s rest : List ℕ) (begin : ℕ) (last : FieldId) (st from : I.State) → from.place.0 ≡ st.place.0 → from.begin.0 ≡ begin → from.depth ≡ st.depth → from.limits ≡ st.limits → from.ids ≡ st.ids → I.sound (length s) st ≡ true → drop st.place.0 s ≡ bs ++ rest → Gave calls a from (length bs) last → Read calls a bs s rest begin last st
came calls a bs s rest begin last st from p b d l i sd here g =
    record {
      next = g.next;
      reads = g.is;
      came =
          record {
            there = g.kept.there ∙ ap (λ (n : ℕ). n + length bs) p;
            last_id = g.ends;
            deep = g.kept.deep ∙ d;
            lims = g.kept.lims ∙ l;
            begins = g.kept.begins ∙ b;
            below = λ j h. g.kept.below j (omega (arith, d)) ∙ ap (λ (ids : List ℤ). get_or ids j (pos 0)) i;
            free = g.free;
          };
      none_left = λ e. omega (arith, g.kept.there, p, length-drop st.place.0 s, ap length here, length-append bs rest, ap length e, (is_sound (length s) st sd).here);
    }

-- the reader
module _ (lim : TConfiguration) (depth : ℕ) (bs s rest : List ℕ) (cut : ℕ) (st : I.State) (r : Reader lim depth bs s rest cut st) where
  in_limits : Ranged lim
  in_limits = subst Ranged r.lims (ranged st.limits (is_sound (length s) st r.sound).limits)

  stands_ready : reading.Ready s (I.cut_of st) lim depth st
  stands_ready =
      let q = ready s st r.sound r.free r.ids in
      record { lims = r.lims; deep = r.deep; ids = r.ids; free = r.free; cuts = refl; after = q.after; here = q.here }

pub value_read : (lim : TConfiguration) (depth : ℕ) (plan : Plan) (t : Tree) (s rest : List ℕ) (st : I.State) → Within lim depth t → Texts plan t → Reader lim depth (bytes_of t) s rest (I.cut_of st) st → Read (read_of s (type_of t) plan st) (readable t) (bytes_of t) s rest st.begin.0 st.last st
value_read lim depth plan t s rest st w x r =
    let ok = in_limits lim depth (bytes_of t) s rest (I.cut_of st) st r in
    let rr = stands_ready lim depth (bytes_of t) s rest (I.cut_of st) st r in
    let room : ℕ = lim.depth - depth in
    came (read_of s (type_of t) plan st) (readable t) (bytes_of t) s rest st.begin.0 st.last st st refl refl refl refl refl r.sound r.here
    (read_of_lem s (I.cut_of st) lim (in_range_lem lim ok) plan (readable t) room depth (type_of t) (bytes_of t) _ st (spelt lim ok t room (omega (arith, w.nested)) w.sized w.typed) (texts_readable plan t x) rr (omega (arith, w.nested)) (up_to s (bytes_of t) rest st.place.0 (I.cut_of st) r.here (omega (arith, r.inside))))

pub message_read : (lim : TConfiguration) (depth : ℕ) (plan : Plan) (m : TMessageType) (z : SeqNo) (name : List ℕ) (fs : Fields) (s rest : List ℕ) (st : I.State) → HeaderWithin lim z name → Within lim depth (val.struct fs) → Texts plan (val.struct fs) → Reader lim depth (bytes_of_whole m z name fs) s rest (st.place.0 + lim.message) st → Read (read_whole s plan st) (m, z.0, name, readable (val.struct fs)) (bytes_of_whole m z name fs) s rest st.place.0 (id_of (pos 0)) st
unfolding readable type_of bytes_of_whole
message_read lim depth plan m z name fs s rest st hw w x r =
    let bs = bytes_of_whole m z name fs in
    let cut = st.place.0 + lim.message in
    let ok = in_limits lim depth bs s rest cut st r in
    let rr = stands_ready lim depth bs s rest cut st r in
    let room : ℕ = lim.depth - depth in
    let e : lim.message ≡ st.limits.message = sym (ap (λ (l : TConfiguration). l.message) r.lims) in
    came (read_whole s plan st) (m, z.0, name, readable (val.struct fs)) bs s rest st.place.0 (id_of (pos 0)) st (I.begun_here st) refl refl refl refl refl r.sound r.here
    (read_whole_lem s (cut_here st) lim (in_range_lem lim ok) plan (m, z.0, name) (readable_fields fs) room depth (message_bytes m z.0 name) (bytes_of (val.struct fs)) bs _ st
    (whole (message lim) (m, z.0, name) (message_bytes m z.0 name) (message_reads lim m z.0 name hw.number (omega (arith, hw.short)) ok hw.text))
    (spelt lim ok (val.struct fs) room (omega (arith, w.nested)) w.sized w.typed) (texts_readable plan (val.struct fs) x) refl
    r.sound (ready_anew s (I.cut_of st) lim depth st rr) (omega (arith, w.nested)) (up_to s bs rest st.place.0 (cut_here st) r.here (omega (arith, r.inside))))

-- the calls and the bytes that spell a value
pub read_exactly : (s : List ℕ) (st : I.State) (plan : Plan) (ty : TType) (t : Tree) (n : ℕ) → I.sound (length s) st ≡ true → st.pending.0 ≡ W.Nothing → length st.ids ≡ 64 → ((next : I.State) × (read_of s ty plan st ≡ took t next) × (next.place.0 ≡ st.place.0 + n) × (nesting t ≤ room_of st)) ↔ ((f : Formed s st.limits (room_of st) ty st.place.0 (st.place.0 + n)) × (st.place.0 + n ≤ I.cut_of st) × (f.tree ≡ t) × Texts plan t)
read_exactly s st plan ty t n ok free ids =
    let e = formed.read_exact s st ok free ids plan ty t n in (
      (λ g. let x = e.0 (record { next = g.0; reads = g.1; there = g.2; nests = g.3 }) in (x.formed, x.before, x.same, x.texts)),
      (λ g. let x = e.1 (record { formed = g.0; before = g.1; same = g.2; texts = g.3 }) in (x.next, x.reads, x.there, x.nests)),
    )

-- the picker
module _ (lim : TConfiguration) (depth : ℕ) (ids : List ℤ) (kinds : List ℕ) (l : listed ids kinds ≡ true) where
  stands : (fs : Fields) (s rest : List ℕ) (st : I.State) → Reader lim depth (bytes_of (val.struct fs)) s rest (I.cut_of st) st → insertion.Stands lim depth (val.struct fs) s st
  stands fs s rest st r = record { lims = r.lims; deep = r.deep; sounds = r.sound; free = ap I.waits r.free; rest = rest; here = r.here; before = omega (arith, r.inside) }

  pub picks_last : (fs : Fields) (s rest rows : List ℕ) (st : I.State) → 3 * length ids ≤ length rows → Within lim depth (val.struct fs) → Reader lim depth (bytes_of (val.struct fs)) s rest (I.cut_of st) st → Picked ids kinds fs s st rows
  picks_last fs s rest rows st h w r =
      let p = insertion.picked lim (in_limits lim depth _ s rest _ st r) depth ids kinds l fs w s st (stands fs s rest st r) rows h in
      record { own = p.own; answers = p.answers; noted = p.noted; kind = λ id k. (p.tells id k).kind; value = λ id k. (p.tells id k).bytes }

  pub unmoved : (fs gs : Fields) (s₁ s₂ rest₁ rest₂ rows₁ rows₂ : List ℕ) (st₁ st₂ : I.State) → 3 * length ids ≤ length rows₁ → 3 * length ids ≤ length rows₂ → Within lim depth (val.struct fs) → Within lim depth (val.struct gs) → Inserted ids fs gs → Reader lim depth (bytes_of (val.struct fs)) s₁ rest₁ (I.cut_of st₁) st₁ → Reader lim depth (bytes_of (val.struct gs)) s₂ rest₂ (I.cut_of st₂) st₂ → Unmoved ids kinds fs gs s₁ s₂ st₁ st₂ rows₁ rows₂
  unmoved fs gs s₁ s₂ rest₁ rest₂ rows₁ rows₂ st₁ st₂ h₁ h₂ w v ins p q =
      let u = insertion.insertion lim (in_limits lim depth _ s₁ rest₁ _ st₁ p) depth ids kinds l fs gs w v ins s₁ st₁ (stands fs s₁ rest₁ st₁ p) s₂ st₂ (stands gs s₂ rest₂ st₂ q) rows₁ rows₂ h₁ h₂ in
      let a = u.first in
      let b = u.second in
      record {
        first = record { own = a.own; answers = a.answers; noted = a.noted; kind = λ id k. (a.tells id k).kind; value = λ id k. (a.tells id k).bytes };
        second = record { own = b.own; answers = b.answers; noted = b.noted; kind = λ id k. (b.tells id k).kind; value = λ id k. (b.tells id k).bytes };
        kind = λ id m k. (u.same id m k).kind;
        value = λ id m k. (u.same id m k).bytes;
      }
