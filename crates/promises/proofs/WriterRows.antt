-- A row of exported writer calls does what the row of state calls does, from any rows that hold a state, ids and buffer included. Assumes nothing.
use mathlib.Core.Path.{◌≡◌, refl, sym, ap, ap₂, subst, ◌∙◌}
use mathlib.Core.Bool.{Bool, true, false, cond}
use mathlib.Core.Logic.{⊎_elim}
use mathlib.Core.List.{List, [], ◌∷◌}
use Prim.Native.Nat.{ℕ, zero, suc, ◌+◌, ◌-◌}
use native.Mathlib.Omega.{arith}
use native.Mathlib.Decide.{ℕ_discrete}
use borrow.Author.Tests.{eq-eqb, ne_eqb}
use lib.Dec.{eqb}
use lib.IntN.{ℤ, pos}
use lib.ListN.{length, get_or, set, replicate, length-set}
use mir.Syntax.{w16}
use mir.Val.{SFits}
use Rattle.types.specs.Codes.{type_code}
use Rattle.types.specs.declared.TType.{TType}
use Rattle.types.specs.declared.FieldId.{FieldId}
use Rattle.puts.specs.Bytes.{field_bytes}
use Rattle.types.specs.Refusals.{NO_ROOM}
use Rattle.puts.specs.Wrong.{or_else, field_wrong}
use Rattle.output.specs.State.{State, unsound, in_turn, moved_to, headed, awaiting, entered, ended}
use Rattle.output.specs.Calls.{Call, call, size_wrong, why_not, writes, leaves, begin_wrong, end_wrong, field_call, truth_call, bool_call, struct_begin_call, struct_end_call}
use Rattle.output.specs.declared.AwaitedField.{AwaitedField}
use Rattle.output.specs.declared.AwaitedField.TheVariants as A
use Rattle.output.specs.declared.WriteAnswer.{WriteAnswer}
use Rattle.output.specs.declared.WriteAnswer.TheVariants as WA
use Rattle.output.specs.declared.Written.{Written}
use Rattle.output.proofs.Laws.{either}
use Rattle.rows.specs.Row.{limits_of, writer_of, writer_after, refilled}
use Rattle.rows.specs.Writes.{number_written}
use Rattle.rows.specs.Structs.{struct_writer, saved_write, restored_write, begin_writes, begin_leaves, end_writes, end_leaves, last_write}
use Rattle.rows.proofs.Cases.{writer_left}
use Rattle.tagrumzil.proofs.Whole as whole
use Rattle.promises.specs.Writes as w
use Rattle.promises.specs.Writes.{Write, call_of, number, next, left, Kept, writes_all}
use Rattle.promises.specs.WriterRows as x
use Rattle.promises.specs.WriterRows.{with_ids, Awaits, Given, Holds, Left, exported, exported_all, AllGiven}
use Rattle.promises.proofs.Writer.{refuses}
use Rattle.promises.proofs.ReaderRows.{Six, six, view, set_small}

abbrev zeros : List ℤ
zeros = replicate 64 (pos 0)

-- a call that does not see the ids, and leaves them: what is wrong with it, its bytes and its next state are those with other ids
abbrev moved : Call → List ℤ → Call
moved (call wrong bs nx) ids = call wrong bs (with_ids nx ids)

abbrev Blind : Write → Type 0
Blind c = (st : State) (ids : List ℤ) → call_of c (with_ids st ids) ≡ moved (call_of c st) ids

-- what a call leaves of a state: limits and ids as they were, ids of 16 bits
pub record Fine (st nx : State) : Type 0 where
  pub limits : nx.limits ≡ st.limits
  pub last : SFits w16 nx.last.0
  pub awaits : Awaits nx.pending.0
  pub ids : nx.ids ≡ st.ids

abbrev FineCall : State → Call → Type 0
FineCall st (call wrong bs nx) = Fine st nx

same : (st : State) → SFits w16 st.last.0 → Awaits st.pending.0 → Fine st st
same st h a = record { limits = refl; last = h; awaits = a; ids = refl }

-- each call
headed_fine : (st : State) (id : FieldId) → SFits w16 id.0 → Fine st (headed st id)
headed_fine st id f = record { limits = refl; last = f; awaits = tt; ids = refl }

field_blind : (st : State) (ids : List ℤ) (t : TType) (id : FieldId) → field_call (with_ids st ids) t id ≡ moved (field_call st t id) ids
unfolding field_call in_turn
field_blind st ids t id = go (eqb (type_code t) 1)
  where
    go : (b : Bool) → call (in_turn st (field_wrong t)) (cond b [] (field_bytes st.last.0 id.0 (type_code t))) (cond b (awaiting (with_ids st ids) id) (headed (with_ids st ids) id)) ≡ call (in_turn st (field_wrong t)) (cond b [] (field_bytes st.last.0 id.0 (type_code t))) (with_ids (cond b (awaiting st id) (headed st id)) ids)
    go true = refl
    go false = refl

field_fine : (st : State) (t : TType) (id : FieldId) → SFits w16 st.last.0 → SFits w16 id.0 → FineCall st (field_call st t id)
unfolding field_call
field_fine st t id h f = go (eqb (type_code t) 1)
  where
    go : (b : Bool) → Fine st (cond b (awaiting st id) (headed st id))
    go true = record { limits = refl; last = h; awaits = f; ids = refl }
    go false = headed_fine st id f

bool_blind : (st : State) (ids : List ℤ) (b : Bool) → bool_call (with_ids st ids) b ≡ moved (bool_call st b) ids
unfolding bool_call
bool_blind st ids b = go st.pending.0
  where
    go : (a : AwaitedField) → truth_call (with_ids st ids) b a ≡ moved (truth_call st b a) ids
    go A.Nothing = refl
    go (A.Field id) = refl

bool_fine : (st : State) (b : Bool) → SFits w16 st.last.0 → Awaits st.pending.0 → FineCall st (bool_call st b)
unfolding bool_call
bool_fine st b h a = go st.pending.0 a
  where
    go : (w : AwaitedField) → Awaits w → FineCall st (truth_call st b w)
    go A.Nothing f = same st h a
    go (A.Field id) f = headed_fine st id f

-- what a call that does not see the ids does on a state and on its row
writes_blind : (buf : List ℕ) (st : State) (ids : List ℤ) (c : Call) → writes buf (with_ids st ids) (moved c ids) ≡ record { answer = (writes buf st c).answer; state = with_ids (writes buf st c).state ids }
writes_blind buf st ids (call wrong bs nx) = whole.writes_whole buf st ids wrong bs nx

leaves_blind : (buf : List ℕ) (st : State) (ids : List ℤ) (c : Call) → leaves buf (with_ids st ids) (moved c ids) ≡ leaves buf st c
leaves_blind buf st ids (call wrong bs nx) = whole.leaves_whole buf st ids wrong bs nx

fine_next : (buf : List ℕ) (st : State) (c : Call) → SFits w16 st.last.0 → Awaits st.pending.0 → FineCall st c → Fine st (writes buf st c).state
fine_next buf st (call wrong bs nx) h a f =
    ⊎_elim
    (λ y. subst (λ (o : Written). Fine st o.state) (sym y.answers) (record { limits = f.limits; last = f.last; awaits = f.awaits; ids = f.ids }))
    (λ y. subst (λ (o : Written). Fine st o.state) (sym y.answers) (same st h a))
    (either buf st wrong bs nx)

-- the rows behind a call that was answered
still_six : (row : List ℕ) (st : State) → length row ≡ 6 → length (writer_after row 0 st) ≡ 6
unfolding writer_after refilled
still_six row st h = go (view row h)
  where
    go : {row : List ℕ} → Six row → length (writer_after row 0 st) ≡ 6
    go (six a b c d e f) = refl

same_limits : (row : List ℕ) (st : State) → length row ≡ 6 → limits_of (writer_after row 0 st) ≡ limits_of row
unfolding writer_after refilled
same_limits row st h = go (view row h)
  where
    go : {row : List ℕ} → Six row → limits_of (writer_after row 0 st) ≡ limits_of row
    go (six a b c d e f) = refl

fits : (a : AwaitedField) → Awaits a → whole.FieldFits a
fits A.Nothing h = tt
fits (A.Field id) h = h

answered : (row : List ℕ) (ids ids' : List ℤ) (st nx : State) → Holds row ids st → nx.limits ≡ st.limits → SFits w16 nx.last.0 → Awaits nx.pending.0 → length ids' ≡ 64 → ((i : ℕ) → SFits w16 (get_or ids' i (pos 0))) → nx.ids ≡ ids' → Holds (writer_after row 0 (with_ids nx zeros)) ids' nx
answered row ids ids' st nx h l f a m k o =
    record {
      six = still_six row (with_ids nx zeros) h.six;
      many = m;
      small = k;
      last = f;
      awaits = a;
      limits = l ∙ h.limits ∙ sym (same_limits row (with_ids nx zeros) h.six);
      held = whole.writer_back row (with_ids nx zeros) h.six f (fits nx.pending.0 a) (l ∙ h.limits);
      own = o;
    }

-- what an export does, beside the call: the same number and buffer, and rows that hold the call's next state
pub record Does (e : Left) (c : Write) (buf : List ℕ) (st : State) : Type 0 where
  pub number : e.number ≡ w.number c buf st
  pub buffer : e.buffer ≡ left c buf st
  pub holds : Holds e.row e.ids (next c buf st)

module _ (c : Write) (blind : Blind c) (buf row : List ℕ) (ids : List ℤ) (st : State) (h : Holds row ids st) (fine : FineCall st (call_of c st)) where
  now : writes buf (writer_of row) (call_of c (writer_of row)) ≡ record { answer = (writes buf st (call_of c st)).answer; state = with_ids (next c buf st) zeros }
  now = ap (λ (y : State). writes buf y (call_of c y)) h.held ∙ ap (writes buf (with_ids st zeros)) (blind st zeros) ∙ writes_blind buf st zeros (call_of c st)

  there : (x.alone c buf row ids).row ≡ writer_after row (w.number c buf st) (with_ids (next c buf st) zeros)
  there = ap (λ (o : Written). writer_after row (number_written o.answer) o.state) now

  holding : Dec (w.number c buf st ≡ 0) → Holds (writer_after row (w.number c buf st) (with_ids (next c buf st) zeros)) ids (next c buf st)
  holding (yes z) =
      let f = fine_next buf st (call_of c st) h.last h.awaits fine in
      subst (λ (n : ℕ). Holds (writer_after row n (with_ids (next c buf st) zeros)) ids (next c buf st)) (sym z)
      (answered row ids ids st (next c buf st) h f.limits f.last f.awaits h.many h.small (f.ids ∙ h.own))
  holding (no z) =
      subst (λ (l : List ℕ). Holds l ids (next c buf st)) (writer_left row (w.number c buf st) (with_ids (next c buf st) zeros) z)
      (subst (Holds row ids) (sym (refuses c buf st z).0) h)

  alone_does : Does (x.alone c buf row ids) c buf st
  alone_does =
      record {
        number = ap (λ (o : Written). number_written o.answer) now;
        buffer = ap (λ (y : State). leaves buf y (call_of c y)) h.held ∙ ap (leaves buf (with_ids st zeros)) (blind st zeros) ∙ leaves_blind buf st zeros (call_of c st);
        holds = subst (λ (l : List ℕ). Holds l ids (next c buf st)) (sym there) (holding (ℕ_discrete (w.number c buf st) 0));
      }

-- a struct's begin and end. What each answers: it went, or a number that is not 0
data went_or (o : Written) (st nx : State) : Type 0 where
  it_went : o ≡ record { answer = WA.Written; state = nx } → went_or o st nx
  refused : (why : ℕ) → (why ≡ 0 → ⊥) → o ≡ record { answer = WA.Refused why; state = st } → went_or o st nx

some_number : (a : ℕ) → or_else a NO_ROOM ≡ 0 → ⊥
unfolding or_else
some_number zero e = omega arith
some_number (suc a) e = let z : eqb (suc a) 0 ≡ false = ne_eqb (suc a) 0 (λ q. omega arith) in let f : cond (eqb (suc a) 0) NO_ROOM (suc a) ≡ suc a = rw z in omega arith

went_or_lem : (buf : List ℕ) (st : State) (wrong : ℕ) (bs : List ℕ) (nx : State) → went_or (writes buf st (call wrong bs nx)) st (moved_to nx (st.place.0 + length bs))
went_or_lem buf st wrong bs nx = ⊎_elim (λ y. it_went y.answers) (λ y. refused y.why (λ z. some_number _ (sym y.first ∙ z)) y.answers) (either buf st wrong bs nx)

at_home : (row : List ℕ) (ids : List ℤ) (st : State) → Holds row ids st → struct_writer row ids ≡ with_ids st zeros
unfolding struct_writer
at_home row ids st h = rw (eq-eqb (length ids) 64 h.many) h.held

-- begin
begin_leaves_lem : (buf : List ℕ) (st : State) (ids : List ℤ) → begin_leaves buf (with_ids st ids) ≡ left w.begin buf st
unfolding begin_leaves call_of leaves why_not size_wrong unsound in_turn begin_wrong
begin_leaves_lem buf st ids = refl

begin_there : (buf row : List ℕ) (ids : List ℤ) (st : State) → Holds row ids st → (a : WriteAnswer) (nx : State) → writes buf st (struct_begin_call st) ≡ record { answer = a; state = nx } → x.begins buf row ids ≡ record { number = number_written a; buffer = begin_leaves buf (with_ids st zeros); row = writer_after row (number_written a) (with_ids nx (saved_write zeros st a)); ids = saved_write ids (with_ids st zeros) a }
unfolding begin_writes
begin_there buf row ids st h a nx e =
    let home = at_home row ids st h in
    let q : begin_writes buf (struct_writer row ids) ≡ record { answer = a; state = with_ids nx (saved_write zeros st a) } =
    ap (begin_writes buf) home ∙ whole.begin_writes_whole buf st zeros ∙ ap (λ (o : Written). record { answer = o.answer; state = with_ids o.state (saved_write zeros st o.answer) }) e
    in
    ap₂ (λ (o : Written) (u : State). record { number = number_written o.answer; buffer = begin_leaves buf u; row = writer_after row (number_written o.answer) o.state; ids = saved_write ids u o.answer }) q home

begin_does : (buf row : List ℕ) (ids : List ℤ) (st : State) → Holds row ids st → Does (x.begins buf row ids) w.begin buf st
unfolding call_of writer_after
begin_does buf row ids st h = go (went_or_lem buf st (in_turn st (begin_wrong st)) [] (entered st))
  where
    told : (a : WriteAnswer) (y : State) → writes buf st (struct_begin_call st) ≡ record { answer = a; state = y } → Holds (writer_after row (number_written a) (with_ids y (saved_write zeros st a))) (saved_write ids (with_ids st zeros) a) y → Does (x.begins buf row ids) w.begin buf st
    told a y e k =
        let t = begin_there buf row ids st h a y e in
        record {
          number = ap (λ (l : Left). l.number) t ∙ sym (ap (λ (o : Written). number_written o.answer) e);
          buffer = ap (λ (l : Left). l.buffer) t ∙ begin_leaves_lem buf st zeros;
          holds = subst (λ (l : Left). Holds l.row l.ids (next w.begin buf st)) (sym t) (subst (Holds (writer_after row (number_written a) (with_ids y (saved_write zeros st a))) (saved_write ids (with_ids st zeros) a)) (sym (ap (λ (o : Written). o.state) e)) k);
        }

    go : went_or (writes buf st (struct_begin_call st)) st (moved_to (entered st) (st.place.0 + 0)) → Does (x.begins buf row ids) w.begin buf st
    go (it_went e) =
        told WA.Written (moved_to (entered st) (st.place.0 + 0)) e
        (answered row ids (set ids st.depth st.last.0) st (moved_to (entered st) (st.place.0 + 0)) h refl (record { sfits = omega arith }) h.awaits (length-set ids st.depth st.last.0 ∙ h.many)
        (set_small ids st.depth st.last.0 h.small h.last) (ap (λ (l : List ℤ). set l st.depth st.last.0) h.own))
    go (refused why z e) = told (WA.Refused why) st e (subst (λ (l : List ℕ). Holds l ids st) (writer_left row why (with_ids st zeros) z) h)

-- end
end_leaves_lem : (buf : List ℕ) (st : State) (ids : List ℤ) → end_leaves buf (with_ids st ids) ≡ left w.end buf st
unfolding end_leaves call_of leaves why_not size_wrong unsound in_turn end_wrong
end_leaves_lem buf st ids = refl

end_there : (buf row : List ℕ) (ids : List ℤ) (st : State) → Holds row ids st → (a : WriteAnswer) (nx : State) → writes buf st (struct_end_call st) ≡ record { answer = a; state = nx } → x.ends buf row ids ≡ record { number = number_written a; buffer = end_leaves buf (with_ids st zeros); row = writer_after row (number_written a) (restored_write ids (with_ids (restored_write zeros nx a) zeros) a); ids = ids }
unfolding end_writes
end_there buf row ids st h a nx e =
    let home = at_home row ids st h in
    let q : end_writes buf (struct_writer row ids) ≡ record { answer = a; state = with_ids (restored_write zeros nx a) zeros } =
    ap (end_writes buf) home ∙ whole.end_writes_whole buf st zeros ∙ ap (λ (o : Written). record { answer = o.answer; state = with_ids (restored_write zeros o.state o.answer) zeros }) e
    in
    ap₂ (λ (o : Written) (u : State). record { number = number_written o.answer; buffer = end_leaves buf u; row = writer_after row (number_written o.answer) (restored_write ids o.state o.answer); ids = ids }) q home

end_does : (buf row : List ℕ) (ids : List ℤ) (st : State) → Holds row ids st → Does (x.ends buf row ids) w.end buf st
unfolding call_of
end_does buf row ids st h = go (went_or_lem buf st (in_turn st (end_wrong st)) [] (ended st))
  where
    told : (a : WriteAnswer) (y : State) → writes buf st (struct_end_call st) ≡ record { answer = a; state = y } → Holds (writer_after row (number_written a) (restored_write ids (with_ids (restored_write zeros y a) zeros) a)) ids y → Does (x.ends buf row ids) w.end buf st
    told a y e k =
        let t = end_there buf row ids st h a y e in
        record {
          number = ap (λ (l : Left). l.number) t ∙ sym (ap (λ (o : Written). number_written o.answer) e);
          buffer = ap (λ (l : Left). l.buffer) t ∙ end_leaves_lem buf st zeros;
          holds = subst (λ (l : Left). Holds l.row l.ids (next w.end buf st)) (sym t) (subst (Holds (writer_after row (number_written a) (restored_write ids (with_ids (restored_write zeros y a) zeros) a)) ids) (sym (ap (λ (o : Written). o.state) e)) k);
        }

    go : went_or (writes buf st (struct_end_call st)) st (moved_to (ended st) (st.place.0 + 0)) → Does (x.ends buf row ids) w.end buf st
    go (it_went e) =
        told WA.Written (moved_to (ended st) (st.place.0 + 0)) e
        (subst (λ (l : List ℤ). Holds (writer_after row 0 (last_write (with_ids (moved_to (ended st) (st.place.0 + 0)) zeros) (get_or l (st.depth - 1) (pos 0)))) ids (moved_to (ended st) (st.place.0 + 0))) h.own
        (answered row ids ids st (moved_to (ended st) (st.place.0 + 0)) h refl (subst (λ (l : List ℤ). SFits w16 (get_or l (st.depth - 1) (pos 0))) (sym h.own) (h.small (st.depth - 1))) h.awaits h.many h.small h.own))
    go (refused why z e) = told (WA.Refused why) st e (subst (λ (l : List ℕ). Holds l ids st) (writer_left row why (with_ids st zeros) z) h)

-- every export does what its call does
pub does : (c : Write) → Given c → (buf row : List ℕ) (ids : List ℤ) (st : State) → Holds row ids st → Does (exported c buf row ids) c buf st
unfolding exported call_of in_turn
does (w.message m z name) g buf row ids st h = alone_does (w.message m z name) (λ y l. refl) buf row ids st h (record { limits = refl; last = h.last; awaits = h.awaits; ids = refl })
does w.begin g buf row ids st h = begin_does buf row ids st h
does w.end g buf row ids st h = end_does buf row ids st h
does (w.field t id) g buf row ids st h = alone_does (w.field t id) (λ y l. field_blind y l t id) buf row ids st h (field_fine st t id h.last g)
does w.stop g buf row ids st h = alone_does w.stop (λ y l. refl) buf row ids st h (same st h.last h.awaits)
does (w.bool b) g buf row ids st h = alone_does (w.bool b) (λ y l. bool_blind y l b) buf row ids st h (bool_fine st b h.last h.awaits)
does (w.i8 z) g buf row ids st h = alone_does (w.i8 z) (λ y l. refl) buf row ids st h (same st h.last h.awaits)
does (w.int z) g buf row ids st h = alone_does (w.int z) (λ y l. refl) buf row ids st h (same st h.last h.awaits)
does (w.double n) g buf row ids st h = alone_does (w.double n) (λ y l. refl) buf row ids st h (same st h.last h.awaits)
does (w.uuid bs) g buf row ids st h = alone_does (w.uuid bs) (λ y l. refl) buf row ids st h (same st h.last h.awaits)
does (w.bytes bs) g buf row ids st h = alone_does (w.bytes bs) (λ y l. refl) buf row ids st h (same st h.last h.awaits)
does (w.string bs) g buf row ids st h = alone_does (w.string bs) (λ y l. refl) buf row ids st h (same st h.last h.awaits)
does (w.items t z) g buf row ids st h = alone_does (w.items t z) (λ y l. refl) buf row ids st h (same st h.last h.awaits)
does (w.pairs k v z) g buf row ids st h = alone_does (w.pairs k v z) (λ y l. refl) buf row ids st h (same st h.last h.awaits)

-- and so a row of them
pub record AllHeld (cs : List Write) (buf row : List ℕ) (ids : List ℤ) (st : State) : Type 0 where
  pub buffer : (exported_all cs buf row ids).buffer ≡ (writes_all cs buf st).buffer
  pub holds : Holds (exported_all cs buf row ids).row (exported_all cs buf row ids).ids (writes_all cs buf st).state

pub all_held : (cs : List Write) → AllGiven cs → (buf row : List ℕ) (ids : List ℤ) (st : State) → Holds row ids st → AllHeld cs buf row ids st
unfolding AllGiven exported_all writes_all
all_held [] g buf row ids st h = record { buffer = refl; holds = h }
all_held (c ∷ cs) g buf row ids st h =
    let d = does c g.0 buf row ids st h in
    let y = exported c buf row ids in
    let k = subst (λ (b : List ℕ). AllHeld cs b y.row y.ids (next c buf st)) (sym d.buffer) (all_held cs g.1 (left c buf st) y.row y.ids (next c buf st) d.holds) in
    record {
      buffer = k.buffer ∙ ap (λ (b : List ℕ). (writes_all cs b (next c buf st)).buffer) d.buffer;
      holds = subst (λ (b : List ℕ). Holds (exported_all cs y.buffer y.row y.ids).row (exported_all cs y.buffer y.row y.ids).ids (writes_all cs b (next c buf st)).state) d.buffer k.holds;
    }
