-- Written and read is the same: a value within the limits, written by the calls and then read by the calls, is the same to the bit, the types of
-- empty maps excepted. The ceiling is among the limits: in each state that takes part the bytes end no later than its own cut. The reader stands just
-- behind the writer's bytes, where skip ends too; on both sides the last id, the depth and the ids below the depth are as they were. Assumes nothing.
use mathlib.Core.Path.{◌≡◌, refl, sym, ap, ap₂, ◌∙◌}
use mathlib.Core.List.{List, ◌++◌}
use Prim.Native.Nat.{ℕ, ◌+◌, ◌-◌, ◌≤◌}
use native.Mathlib.Omega.{arith}
use lib.ListN.{length, take, drop, take-append-drop}
use lib.Seq.{take_at, take-length, take-take, length-take-le}
use lib.IntN.{pos}
use Rattle.types.specs.declared.TMessageType.{TMessageType}
use Rattle.types.specs.declared.SeqNo.{SeqNo}
use Rattle.types.specs.declared.FieldId.{FieldId}
use Rattle.types.specs.declared.TConfiguration.{TConfiguration}
use Rattle.types.specs.Value as val
use Rattle.types.specs.Value.{Tree, Fields, type_of, Within}
use Rattle.types.proofs.Limits.{Ranged, in_range_lem}
use Rattle.numbers.specs.Varint.{got}
use Rattle.numbers.specs.Answers.{put_at}
use Rattle.numbers.proofs.Found.{same_part}
use Rattle.numbers.proofs.Put.{put_drop, length_put}
use Rattle.heads.specs.Reader.{read_at}
use Rattle.heads.specs.Heads.{message}
use Rattle.heads.specs.Answers.{place, id_of}
use Rattle.heads.proofs.Cut.{whole_cut}
use Rattle.input.specs.State as input
use Rattle.input.specs.Outcome.{cut_here}
use Rattle.output.specs.State.{State, cut_of, begun_here, begun}
use Rattle.puts.specs.Bytes.{message_bytes}
use Rattle.output.specs.declared.AwaitedField.TheVariants as A
use Rattle.output.proofs.Checks.{Sound}
use Rattle.output.proofs.Laws.{new_sound}
use Rattle.output.proofs.Back.{whole, message_reads}
use Rattle.skip.specs.Value.{value_of}
use Rattle.skip.specs.Skip.{passed, skip_to}
use Rattle.skip.specs.declared.Skipped.TheVariants.{Done}
use Rattle.skip.proofs.Lawfuls.{value_lawful}
use Rattle.laws.specs.Written.{bytes_of, bytes_of_whole, HeaderWithin, readable, readable_fields}
use Rattle.laws.specs.Text.{Plan, Texts}
use Rattle.laws.specs.Writing.{Step, ran, run, write_of, write_whole}
use Rattle.laws.specs.Reading.{Took, took, read_of, read_whole}
use Rattle.laws.proofs.Spelt.{spelt}
use Rattle.laws.proofs.Back.{put_back}
use Rattle.laws.proofs.Writing.{Runs, Kept, kept_cut, WroteFrom, Ready, wrote, wrote_whole}
use Rattle.laws.proofs.Texts.{texts_readable}
use Rattle.laws.proofs.Reading as reading
use Rattle.laws.proofs.Reading.{Gave, is_fine, ready_anew, read_of_lem, read_whole_lem}

-- an input that agrees with the buffer up to the end of what was put there has it at the same place
pub same_there : (buf s bs : List ℕ) (at e : ℕ) → at + length bs ≡ e → e ≤ length buf → take e s ≡ take e (put_at buf at bs) → drop at s ≡ bs ++ drop (length bs) (drop at s)
same_there buf s bs at e q h a =
    sym (take-append-drop (length bs) (drop at s))
    ∙ ap (λ (l : List ℕ). l ++ drop (length bs) (drop at s))
    (same_part at (length bs) e (put_at buf at bs) s q a ∙ ap (take (length bs)) (put_drop buf at bs (omega arith)) ∙ take_at bs (drop (at + length bs) buf) (length bs) refl)

-- what a row of a reader's calls gives: a, n bytes on from the state `from`, and the reader stands at e
pub record Back {A : Type 0} (x : Took A) (a : A) (from : input.State) (n : ℕ) (last : FieldId) (e : ℕ) : Type 0 where
  pub gave : Gave x a from n last
  pub behind : gave.next.place.0 ≡ e

-- what is given back by a row of calls, made by any reader that stands where the writer stood, in as many structs, under the same limits and with no bool
-- pending, in an input that agrees with the writer's buffer up to the writer's place, and whose cut lies no earlier: whatever comes behind the writer's
-- bytes. The row leaves the state that `from` says as it was: the reader's own, or that of a message that begins there.
abbrev pub Backs : {A : Type 0} → TConfiguration → ℕ → (List ℕ → input.State → Took A) → A → (input.State → input.State) → (input.State → FieldId) → List ℕ → State → State → ℕ → Type 0
Backs lim depth calls a from last after st next n =
    (s : List ℕ) → take next.place.0 s ≡ take next.place.0 after → (rd : input.State) → reading.Ready s (input.cut_of rd) lim depth rd → rd.place.0 ≡ st.place.0 → next.place.0 ≤ input.cut_of (from rd) → Back (calls s rd) a (from rd) n (last rd) next.place.0

-- a row of calls that wrote these bytes, ran through
pub record ThroughFrom (from : State) (steps : List Step) (bs : List ℕ) (buf : List ℕ) (st : State) : Type 0 where
  pub after : List ℕ
  pub next : State
  pub writes : run steps buf st ≡ ran after next
  pub puts : after ≡ put_at buf st.place.0 bs
  pub fits : next.place.0 ≤ length after
  pub there : next.place.0 ≡ st.place.0 + length bs
  pub kept : Kept from next (length bs)
  pub last : next.last ≡ st.last
  pub free : next.pending.0 ≡ A.Nothing

abbrev pub Through : List Step → List ℕ → List ℕ → State → Type 0
Through steps bs buf st = ThroughFrom st steps bs buf st

runs_through : (from : State) (steps : List Step) (bs buf : List ℕ) (st : State) → from.place.0 ≡ st.place.0 → Sound (length buf) st → (f : WroteFrom from steps bs st) → st.place.0 + length bs ≤ length buf → st.place.0 + length bs ≤ cut_of from → ThroughFrom from steps bs buf st
unfolding Runs
runs_through from steps bs buf st p ok f h c =
    let q = kept_cut from f.next (length bs) f.kept in
    let there : f.next.place.0 ≡ st.place.0 + length bs = omega (arith, f.kept.there) in
    record {
      after = put_at buf st.place.0 bs;
      next = f.next;
      writes = f.runs buf ok h (omega arith);
      puts = refl;
      fits = omega (arith, length_put buf st.place.0 bs);
      there = there;
      kept = f.kept;
      last = f.same_last;
      free = f.free;
    }

-- and a row of calls that reads them, wherever they stand
backs : {A : Type 0} (lim : TConfiguration) (depth : ℕ) (calls : List ℕ → input.State → Took A) (a : A) (from : input.State → input.State) (last : input.State → FieldId) → ((rd : input.State) → (from rd).place.0 ≡ rd.place.0) → (before : State) (steps : List Step) (bs buf : List ℕ) (st : State) (w : ThroughFrom before steps bs buf st) → ((s rest : List ℕ) (rd : input.State) → reading.Ready s (input.cut_of rd) lim depth rd → drop rd.place.0 (take (input.cut_of (from rd)) s) ≡ bs ++ rest → Gave (calls s rd) a (from rd) (length bs) (last rd)) → Backs lim depth calls a from last w.after st w.next (length bs)
backs lim depth calls a from last stays before steps bs buf st w reads s agree rd r p h =
    let at = st.place.0 in
    let e = w.next.place.0 in
    let near = take (input.cut_of (from rd)) s in
    let fits : e ≤ length buf = omega (arith, w.fits, ap length w.puts, length_put buf at bs) in
    let here = same_there buf near bs at e (sym w.there) fits (take-take e (input.cut_of (from rd)) s h ∙ agree ∙ ap (take e) w.puts) in
    let g = reads s (drop (length bs) (drop at near)) rd r (ap (λ (n : ℕ). drop n near) p ∙ here) in
    record { gave = g; behind = omega (arith, g.kept.there, w.there, stays rd) }

-- what a value leaves that was written by the calls from a state on; a skip up to any cut that is no earlier ends where the writer stands
pub record There (lim : TConfiguration) (depth : ℕ) (plan : Plan) (t : Tree) (buf : List ℕ) (st : State) : Type 0 where
  pub wrote : Through (write_of plan t) (bytes_of t) buf st
  pub reads : read_at (value_of lim (lim.depth - depth) (type_of t)) wrote.after st.place.0 ≡ got (readable t) wrote.next.place.0
  pub skips : (cut : ℕ) → wrote.next.place.0 ≤ cut → skip_to wrote.after cut lim (lim.depth - depth) (type_of t) st.place.0 ≡ Done (place wrote.next.place.0)
  pub back : Backs lim depth (λ s. read_of s (type_of t) plan) (readable t) (λ rd. rd) (λ rd. rd.last) wrote.after st wrote.next (length (bytes_of t))

pub round_trip : (lim : TConfiguration) → Ranged lim → (depth : ℕ) (plan : Plan) (t : Tree) → Within lim depth t → Texts plan t → (buf : List ℕ) (st : State) → Ready lim depth st → Sound (length buf) st → st.place.0 + length (bytes_of t) ≤ length buf → st.place.0 + length (bytes_of t) ≤ cut_of st → There lim depth plan t buf st
unfolding skip_to
round_trip lim ok depth plan t w x buf st r sd h c =
    let room = lim.depth - depth in
    let f = runs_through st (write_of plan t) (bytes_of t) buf st refl sd (wrote lim ok plan t depth st r w.nested w.sized w.typed x) h c in
    let stood = ap (λ (s : List ℕ). read_at (value_of lim room (type_of t)) s st.place.0) f.puts ∙ put_back lim ok depth t w buf st.place.0 h ∙ ap (got (readable t)) (sym f.there) in
    record {
      wrote = f;
      reads = stood;
      skips = λ cut i. ap passed (whole_cut (value_of lim room (type_of t)) f.after cut st.place.0 (readable t) f.next.place.0 (value_lawful lim room (type_of t)) i stood);
      back =
          backs lim depth (λ s. read_of s (type_of t) plan) (readable t) (λ rd. rd) (λ rd. rd.last) (λ rd. refl) st (write_of plan t) (bytes_of t) buf st f
          (λ s rest rd rr e.
          read_of_lem s (input.cut_of rd) lim (in_range_lem lim ok) plan (readable t) room depth (type_of t) (bytes_of t) rest rd (spelt lim ok t room (omega (arith, w.nested)) w.sized w.typed) (texts_readable plan t x) rr (omega (arith, w.nested)) e);
    }

-- the same for a whole message: its type, sequence number and name come back with its struct. "Reading it sets the last field id to 0; writing it doesn't."
-- On both sides the count starts at its first byte, so that the ceiling need only let through as many bytes as it has.
pub record Sent (lim : TConfiguration) (depth : ℕ) (plan : Plan) (m : TMessageType) (z : SeqNo) (name : List ℕ) (fs : Fields) (buf : List ℕ) (st : State) : Type 0 where
  pub wrote : ThroughFrom (begun_here st) (write_whole plan m z name fs) (bytes_of_whole m z name fs) buf st
  pub back : Backs lim depth (λ s. read_whole s plan) (m, z.0, name, readable (val.struct fs)) input.begun_here (λ rd. id_of (pos 0)) wrote.after st wrote.next (length (bytes_of_whole m z name fs))

pub message_trip : (lim : TConfiguration) → Ranged lim → (depth : ℕ) (plan : Plan) (m : TMessageType) (z : SeqNo) (name : List ℕ) (fs : Fields) → HeaderWithin lim z name → Within lim depth (val.struct fs) → Texts plan (val.struct fs) → (buf : List ℕ) (st : State) → Ready lim depth st → Sound (length buf) st → st.place.0 + length (bytes_of_whole m z name fs) ≤ length buf → length (bytes_of_whole m z name fs) ≤ lim.message → Sent lim depth plan m z name fs buf st
unfolding readable type_of bytes_of_whole
message_trip lim ok depth plan m z name fs hw w x buf st r sd h c =
    let ceiling : st.limits.message ≡ lim.message = ap (λ (l : TConfiguration). l.message) r.lims in
    let f = runs_through (begun_here st) (write_whole plan m z name fs) (bytes_of_whole m z name fs) buf st refl sd (wrote_whole lim ok plan m z name fs depth st r hw w x) h (omega arith) in
    record {
      wrote = f;
      back =
          backs lim depth (λ s. read_whole s plan) (m, z.0, name, readable (val.struct fs)) input.begun_here (λ rd. id_of (pos 0)) (λ rd. refl) (begun_here st) (write_whole plan m z name fs) (bytes_of_whole m z name fs) buf st f
          (λ s rest rd rr e.
          read_whole_lem s (cut_here rd) lim (in_range_lem lim ok) plan (m, z.0, name) (readable_fields fs) (lim.depth - depth) depth (message_bytes m z.0 name) (bytes_of (val.struct fs)) (bytes_of_whole m z name fs) rest rd
          (whole (message lim) (m, z.0, name) (message_bytes m z.0 name) (message_reads lim m z.0 name hw.number (omega (arith, hw.short)) ok hw.text))
          (spelt lim ok (val.struct fs) (lim.depth - depth) (omega (arith, w.nested)) w.sized w.typed) (texts_readable plan (val.struct fs) x) refl
          (is_fine s (input.cut_of rd) lim (in_range_lem lim ok) depth rd rr (omega (arith, w.nested))) (ready_anew s (input.cut_of rd) lim depth rd rr) (omega (arith, w.nested)) e);
    }

-- the bytes written, and those before them, as an input of their own: they are read, and no byte is left
pub none_left : {A : Type 0} (lim : TConfiguration) (depth : ℕ) (calls : List ℕ → input.State → Took A) (a : A) (from : input.State → input.State) (last : input.State → FieldId) (after : List ℕ) (st next : State) (n : ℕ) → next.place.0 ≤ length after → Backs lim depth calls a from last after st next n → (rd : input.State) → reading.Ready (take next.place.0 after) (input.cut_of rd) lim depth rd → rd.place.0 ≡ st.place.0 → next.place.0 ≤ input.cut_of (from rd) → Back (calls (take next.place.0 after) rd) a (from rd) n (last rd) (length (take next.place.0 after))
none_left lim depth calls a from last after st next n fits back rd r p h =
    let e = next.place.0 in
    let b = back (take e after) (take-take e e after (omega arith)) rd r p h in
    record { gave = b.gave; behind = b.behind ∙ sym (length-take-le e after fits) }

-- a new writer and a new reader, which has any input
pub begun_ready : (lim : TConfiguration) → Ready lim 0 (begun lim)
unfolding begun
begun_ready lim = record { lims = refl; deep = refl; ids = refl; free = refl }

pub fresh_ready : (s : List ℕ) (lim : TConfiguration) → reading.Ready s (input.cut_of (input.fresh lim)) lim 0 (input.fresh lim)
unfolding input.fresh
fresh_ready s lim = record { lims = refl; deep = refl; ids = refl; free = refl; cuts = refl; after = omega arith; here = omega arith }

-- what a new writer sends a new reader has, as an input of its own: a whole message, with no byte left
pub record Mail (lim : TConfiguration) (plan : Plan) (m : TMessageType) (z : SeqNo) (name : List ℕ) (fs : Fields) (buf : List ℕ) : Type 0 where
  pub writer : State
  pub reader : input.State
  pub writes : run (write_whole plan m z name fs) buf (begun lim) ≡ ran (bytes_of_whole m z name fs ++ drop (length (bytes_of_whole m z name fs)) buf) writer
  pub reads : read_whole (bytes_of_whole m z name fs) plan (input.fresh lim) ≡ took (m, z.0, name, readable (val.struct fs)) reader
  pub written : writer.place.0 ≡ length (bytes_of_whole m z name fs)
  pub none_left : reader.place.0 ≡ length (bytes_of_whole m z name fs)

pub mail : (lim : TConfiguration) → Ranged lim → (plan : Plan) (m : TMessageType) (z : SeqNo) (name : List ℕ) (fs : Fields) → HeaderWithin lim z name → Within lim 0 (val.struct fs) → Texts plan (val.struct fs) → (buf : List ℕ) → length (bytes_of_whole m z name fs) ≤ length buf → length (bytes_of_whole m z name fs) ≤ lim.message → Mail lim plan m z name fs buf
unfolding begun input.fresh
mail lim ok plan m z name fs hw w x buf h c =
    let bs = bytes_of_whole m z name fs in
    let f = message_trip lim ok 0 plan m z name fs hw w x buf (begun lim) (begun_ready lim) (new_sound lim (length buf) (in_range_lem lim ok)) (omega arith) c in
    let e : f.wrote.next.place.0 ≡ length bs = f.wrote.there ∙ omega arith in
    let zero-on : 0 + length bs ≡ length bs = omega arith in
    let there : f.wrote.after ≡ bs ++ drop (length bs) buf = f.wrote.puts ∙ put_drop buf 0 bs (omega arith) ∙ ap (λ (n : ℕ). bs ++ drop n buf) zero-on in
    let agree : take f.wrote.next.place.0 bs ≡ take f.wrote.next.place.0 f.wrote.after = ap (λ (n : ℕ). take n bs) e ∙ take-length bs ∙ sym (ap₂ (λ (n : ℕ) (l : List ℕ). take n l) e there ∙ take_at bs (drop (length bs) buf) (length bs) refl) in
    let b = f.back bs agree (input.fresh lim) (fresh_ready bs lim) refl (omega arith) in
    record {
      writer = f.wrote.next;
      reader = b.gave.next;
      writes = f.wrote.writes ∙ ap (λ (l : List ℕ). ran l f.wrote.next) there;
      reads = b.gave.is;
      written = e;
      none_left = omega (arith, b.behind);
    }
