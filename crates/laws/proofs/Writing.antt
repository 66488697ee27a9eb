-- A value within the limits, its bytes within the message's ceiling, written by the calls, stands in the buffer as its bytes, and the state is as it was,
-- its place behind them.
-- Assumes nothing.
use mathlib.Core.Path.{◌≡◌, refl, sym, ap, ap₂, subst, ◌∙◌}
use mathlib.Core.Bool.{Bool, true, false}
use mathlib.Core.List.{List, [], ◌∷◌, ◌++◌, append-nil}
use Prim.Native.Nat.{ℕ, suc, ◌+◌, ◌≤◌, ◌<◌}
use native.Mathlib.Omega.{arith}
use borrow.Author.Tests.{ne_eqb, le-leb, lt-leb, le-ltb}
use lib.Dec.{eqb}
use lib.ListN.{length, length-append, length-set}
use lib.IntN.{ℤ, pos}
use Rattle.types.specs.Codes.{type_code, truth_code}
use Rattle.types.specs.declared.TType.{TType}
use Rattle.types.specs.declared.TType.TheVariants as T
use Rattle.types.specs.declared.TConfiguration.{TConfiguration}
use Rattle.types.specs.declared.FieldId.{FieldId}
use Rattle.types.specs.declared.TMessageType.{TMessageType}
use Rattle.types.specs.declared.SeqNo.{SeqNo}
use Rattle.types.specs.Value as val
use Rattle.types.specs.Value.{Tree, Trees, no_trees, tree, Pairs, no_pairs, pair, Fields, no_fields, type_of, size, size_p, nesting, nesting_all, nesting_pairs, nesting_fields, Sized, SizedAll, SizedPairs, SizedFields, Typed, TypedAll, TypedPairs, TypedFields, Within}
use Rattle.types.proofs.Limits.{Ranged}
use Rattle.utf8.specs.Utf8.{utf8}
use Rattle.types.proofs.Value.{no_stop}
use Rattle.numbers.specs.Answers.{put_at}
use Rattle.numbers.proofs.Put.{put_put, length_put}
use Rattle.puts.specs.Wrong.{or_else, count_wrong, length_wrong, text_wrong, field_wrong}
use Rattle.output.specs.State.{State, id_of, cut_of, in_turn, turn, moved_to, begun_here, headed, awaiting, entered, ended}
use Rattle.puts.specs.Bytes.{field_bytes, items_bytes, pairs_bytes, string_bytes, message_bytes}
use Rattle.output.specs.Calls.{call, writes, leaves, truth_call, begin_wrong, end_wrong, bool_call, i8_call, int_call, double_call, uuid_call, bytes_call, string_call, items_call, pairs_call, struct_begin_call, struct_end_call, field_call, stop_call, message_call}
use Rattle.output.specs.declared.AwaitedField.{AwaitedField}
use Rattle.output.specs.declared.AwaitedField.TheVariants as A
use Rattle.output.specs.declared.WriteAnswer.{WriteAnswer}
use Rattle.output.specs.declared.WriteAnswer.TheVariants as WA
use Rattle.output.proofs.Checks.{Sound, cut_lets}
use Rattle.output.proofs.Laws.{goes, Follows}
use Rattle.output.proofs.Stays as follows
use Rattle.laws.specs.Written.{field_code, in_header, bytes_of, bytes_of_all, bytes_of_pairs, bytes_of_fields, bytes_of_whole, HeaderWithin}
use Rattle.laws.specs.Text.{Form, binaries, strings, Plan, under, key_under, value_under, Fits, Texts, TextsAll, TextsPairs, TextsFields}
use Rattle.laws.specs.Writing.{Step, Ran, ran, stopped, go_on, run, write_string, write_of, write_all, write_pairs, write_fields, write_whole}
use Rattle.laws.proofs.Kept as kept
use Rattle.laws.proofs.Kept.{Stand}
use Rattle.laws.proofs.Spelt.{InField, truthful, valued, in_field}

-- a row of calls, made in a sound state, writes these bytes and ends in this state, wherever there is room and the message may go on so far
unfoldable pub Runs : List Step → List ℕ → State → State → Type 0
Runs cs bs st next = (buf : List ℕ) → Sound (length buf) st → st.place.0 + length bs ≤ length buf → st.place.0 + length bs ≤ cut_of next → run cs buf st ≡ ran (put_at buf st.place.0 bs) next

-- n bytes on, in the same message, with the same depth, limits and ids below the depth
abbrev pub stand : State → Stand
stand st = record { at = st.place.0; begin = st.begin.0; depth = st.depth; limits = st.limits; ids = st.ids }

abbrev pub Kept : State → State → ℕ → Type 0
Kept st next n = kept.Kept (stand st) (stand next) n

pub kept_cut : (a b : State) (n : ℕ) → Kept a b n → cut_of b ≡ cut_of a
kept_cut a b n k = kept.kept_cut (stand a) (stand b) n k

pub kept_then : (a b c : State) (n m : ℕ) → Kept a b n → Kept b c m → Kept a c (n + m)
kept_then a b c n m f g = kept.kept_then (stand a) (stand b) (stand c) n m f g

ran_buf : {b c : List ℕ} {s t : State} → ran b s ≡ ran c t → b ≡ c
ran_buf e = cc

ran_state : {b c : List ℕ} {s t : State} → ran b s ≡ ran c t → s ≡ t
ran_state e = cc

no_ran : {X : Type 0} {why : ℕ} {b : List ℕ} {s : State} → stopped why ≡ ran b s → X
no_ran e = let z : ◌≡◌ {A = ℕ} 0 1 = cc in absurd (omega arith)

limit_same : (a b : State) → a.depth ≤ a.limits.depth → (n : ℕ) → Kept a b n → b.depth ≤ b.limits.depth
limit_same a b d n k = rw (k.lims, k.deep) d

past_one : (a : WriteAnswer) (x y : Ran) (b : List ℕ) (s : State) {z : Ran} → (x ≡ ran b s → y ≡ z) → go_on a x ≡ ran b s → go_on a y ≡ z
past_one WA.Written x y b s h e = h e
past_one (WA.Refused why) x y b s h e = no_ran e

-- one row behind another
run_append : (cs ds : List Step) (buf : List ℕ) (st : State) (b : List ℕ) (s : State) → run cs buf st ≡ ran b s → run (cs ++ ds) buf st ≡ run ds b s
unfolding run
run_append [] ds buf st b s e = let p : buf ≡ b = ran_buf e in let q : st ≡ s = ran_state e in ap₂ (λ (x : List ℕ) (y : State). run ds x y) p q
run_append (c ∷ cs) ds buf st b s e = past_one (writes buf st (c st)).answer _ _ b s (run_append cs ds (leaves buf st (c st)) (writes buf st (c st)).state b s) e

-- n bytes on, under the same limits, no deeper than they let it, in a message that began no later
pub record Moved (a b : State) (n : ℕ) : Type 0 where
  pub there : b.place.0 ≡ a.place.0 + n
  pub lims : b.limits ≡ a.limits
  pub fine : b.depth ≤ b.limits.depth
  pub after : b.begin.0 ≤ b.place.0

abbrev pub Moves : State → State → ℕ → Type 0
Moves a b n = a.depth ≤ a.limits.depth → a.begin.0 ≤ a.place.0 → Moved a b n

pub moved : (a b : State) (n : ℕ) → Kept a b n → Moves a b n
moved a b n k d h = record { there = k.there; lims = k.lims; fine = limit_same a b d n k; after = omega (arith, k.there, k.begins) }

pub runs_on : (cs ds : List Step) (bs es : List ℕ) (a b c : State) → Runs cs bs a b → Moves a b (length bs) → Runs ds es b c → cut_of c ≡ cut_of b → Runs (cs ++ ds) (bs ++ es) a c
unfolding Runs
runs_on cs ds bs es a b c f mv g q buf r h i =
    let k = mv r.deep r.after in
    let l = length-append bs es in
    let first = f buf r (omega arith) (omega arith) in
    let m = length_put buf a.place.0 bs in
    let mid : Sound (length (put_at buf a.place.0 bs)) b = record { limits = subst Ranged (sym k.lims) r.limits; here = omega (arith, k.there); deep = k.fine; after = k.after; before = omega (arith, k.there) } in
    let second = g (put_at buf a.place.0 bs) mid (omega (arith, k.there)) (omega (arith, k.there)) in
    run_append cs ds buf a (put_at buf a.place.0 bs) b first
    ∙ second
    ∙ ap (λ (x : List ℕ). ran x c) (ap (λ (p : ℕ). put_at (put_at buf a.place.0 bs) p es) k.there ∙ put_put buf a.place.0 bs es h)

pub runs_then : (cs ds : List Step) (bs es : List ℕ) (a b c : State) → Runs cs bs a b → Kept a b (length bs) → Runs ds es b c → Kept b c (length es) → Runs (cs ++ ds) (bs ++ es) a c
runs_then cs ds bs es a b c f k g j = runs_on cs ds bs es a b c f (moved a b (length bs) k) g (kept_cut b c (length es) j)

-- one call
pub runs_one : (c : Step) (wrong : ℕ) (bs : List ℕ) (st next : State) → c st ≡ call wrong bs next → wrong ≡ 0 → Follows wrong st next → Runs (c ∷ []) bs st (moved_to next (st.place.0 + length bs))
unfolding Runs run
runs_one c wrong bs st next e z f buf r h i =
    let after : next.begin.0 ≤ next.place.0 = omega (arith, f.place, f.begins r.after) in
    let w = goes buf st wrong bs next r z (cut_lets next after (length bs) (omega (arith, f.place))) h in
    rw (e, w.answers, w.puts)

-- no bool is pending, so what the arguments show decides
free_turn : (st : State) (w : ℕ) → st.pending.0 ≡ A.Nothing → in_turn st w ≡ w
unfolding in_turn or_else
free_turn st w e = ap (λ (a : AwaitedField). or_else (turn a) w) e

-- what a row of calls gives: the bytes, and a state that is as `from`, its place behind them
pub record WroteFrom (from : State) (cs : List Step) (bs : List ℕ) (st : State) : Type 0 where
  pub next : State
  pub runs : Runs cs bs st next
  pub kept : Kept from next (length bs)
  pub same_last : next.last ≡ st.last
  pub free : next.pending.0 ≡ A.Nothing

-- what writing a value gives
abbrev pub Wrote : List Step → List ℕ → State → Type 0
Wrote cs bs st = WroteFrom st cs bs st

kept_place : (st : State) (n : ℕ) → Kept st (moved_to st (st.place.0 + n)) n
kept_place st n = record { there = refl; begins = refl; deep = refl; lims = refl; long = refl; below = λ i h. refl }

-- no byte
put_none : (buf : List ℕ) (at : ℕ) → at ≤ length buf → put_at buf at [] ≡ buf
unfolding put_at
put_none buf at h = rw (le-ltb (length buf) (at + 0) (omega arith))

-- a call that moves the place alone
one_call : (c : Step) (wrong : ℕ) (bs : List ℕ) (st : State) → c st ≡ call (in_turn st wrong) bs st → wrong ≡ 0 → st.pending.0 ≡ A.Nothing → Wrote (c ∷ []) bs st
one_call c wrong bs st e z f =
    record {
      next = moved_to st (st.place.0 + length bs);
      runs = runs_one c (in_turn st wrong) bs st st e (free_turn st wrong f ∙ z) (follows.itself _ st);
      kept = kept_place st (length bs);
      same_last = refl;
      free = f;
    }

-- one value behind another
wrote_then : (cs ds : List Step) (bs es : List ℕ) (st : State) (f : Wrote cs bs st) → Wrote ds es f.next → Wrote (cs ++ ds) (bs ++ es) st
wrote_then cs ds bs es st f g =
    record {
      next = g.next;
      runs = runs_then cs ds bs es st f.next g.next f.runs f.kept g.runs g.kept;
      kept = subst (Kept st g.next) (sym (length-append bs es)) (kept_then st f.next g.next (length bs) (length es) f.kept g.kept);
      same_last = g.same_last ∙ f.same_last;
      free = g.free;
    }

nothing_wrote : (st : State) → st.pending.0 ≡ A.Nothing → Wrote [] [] st
unfolding Runs run
nothing_wrote st f =
    record {
      next = st;
      runs = λ buf r h i. ap (λ (b : List ℕ). ran b st) (sym (put_none buf st.place.0 (omega arith)));
      kept = record { there = omega arith; begins = refl; deep = refl; lims = refl; long = refl; below = λ i h. refl };
      same_last = refl;
      free = f;
    }

-- what the arguments show: nothing, within the limits
stop_free : (t : TType) → 0 < type_code t → eqb (type_code t) 0 ≡ false
stop_free t h = ne_eqb (type_code t) 0 (λ e. omega arith)

count_right : (lim : TConfiguration) (t u : TType) (n : ℕ) → n ≤ lim.container → (n ≡ 0 → ⊥) → 0 < type_code t → 0 < type_code u → count_wrong lim t u (pos n) ≡ 0
unfolding count_wrong
count_right lim t u n h z a b = rw (le-ltb n 0 (omega arith), ne_eqb n 0 z, stop_free t a, stop_free u b, le-leb n lim.container h)

count_none : (lim : TConfiguration) (t u : TType) → count_wrong lim t u (pos 0) ≡ 0
unfolding count_wrong
count_none lim t u = refl

length_right : (lim : TConfiguration) (bs : List ℕ) → length bs ≤ lim.string → length_wrong lim bs ≡ 0
unfolding length_wrong
length_right lim bs h = rw (le-leb (length bs) lim.string h)

-- the header of a list or a set, and of a map
all_right : (lim : TConfiguration) (ty : TType) (ts : Trees) → size ts ≤ lim.container → TypedAll ty ts → count_wrong lim ty ty (pos (size ts)) ≡ 0
unfolding size TypedAll
all_right lim ty no_trees h y = count_none lim ty ty
all_right lim ty (tree t ts) h y =
    let p : 0 < type_code ty = subst (λ (u : TType). 0 < type_code u) y.0 (no_stop t) in
    count_right lim ty ty (suc (size ts)) h (λ z. omega arith) p p

pairs_right : (lim : TConfiguration) (k v : TType) (ps : Pairs) → size_p ps ≤ lim.container → TypedPairs k v ps → count_wrong lim k v (pos (size_p ps)) ≡ 0
unfolding size_p TypedPairs
pairs_right lim k v no_pairs h y = count_none lim k v
pairs_right lim k v (pair t u ps) h y =
    count_right lim k v (suc (size_p ps)) h (λ z. omega arith) (subst (λ (x : TType). 0 < type_code x) y.0 (no_stop t)) (subst (λ (x : TType). 0 < type_code x) y.1 (no_stop u))

-- what writing a struct's fields gives: the last id is the last field's
pub record Fielded (cs : List Step) (bs : List ℕ) (st : State) : Type 0 where
  pub next : State
  pub runs : Runs cs bs st next
  pub kept : Kept st next (length bs)
  pub free : next.pending.0 ≡ A.Nothing

ended_fields : (st : State) → st.pending.0 ≡ A.Nothing → Fielded (stop_call ∷ []) (0 ∷ []) st
ended_fields st f = let w = one_call stop_call 0 (0 ∷ []) st refl refl f in record { next = w.next; runs = w.runs; kept = w.kept; free = w.free }

-- a row that leaves the ids, and then fields
fields_on : (cs ds : List Step) (bs es : List ℕ) (a b : State) → Runs cs bs a b → Kept a b (length bs) → Fielded ds es b → Fielded (cs ++ ds) (bs ++ es) a
fields_on cs ds bs es a b r k f =
    record {
      next = f.next;
      runs = runs_then cs ds bs es a b f.next r k f.runs f.kept;
      kept = subst (Kept a f.next) (sym (length-append bs es)) (kept_then a b f.next (length bs) (length es) k f.kept);
      free = f.free;
    }

-- behind a field's header
abbrev behind_header_lem : State → ℤ → ℕ → State
behind_header_lem st id n = moved_to (headed st (id_of id)) (st.place.0 + n)

kept_header : (st : State) (id : ℤ) (n : ℕ) → Kept st (behind_header_lem st id n) n
kept_header st id n = record { there = refl; begins = refl; deep = refl; lims = refl; long = refl; below = λ i h. refl }

-- a bool field: its header is written by the bool call
bool_field : (st : State) (id : ℤ) (b : Bool) → st.pending.0 ≡ A.Nothing → (bs : List ℕ) → bs ≡ field_bytes st.last.0 id (truth_code b) → Runs ((λ s. field_call s T.Bool (id_of id)) ∷ ((λ s. bool_call s b) ∷ [])) bs st (moved_to (headed (moved_to (awaiting st (id_of id)) (st.place.0 + 0)) (id_of id)) (st.place.0 + 0 + length bs))
unfolding field_call field_wrong type_code bool_call
bool_field st id b f bs e =
    runs_on ((λ s. field_call s T.Bool (id_of id)) ∷ []) ((λ s. bool_call s b) ∷ []) [] bs st (moved_to (awaiting st (id_of id)) (st.place.0 + 0)) _
    (runs_one (λ s. field_call s T.Bool (id_of id)) (in_turn st 0) [] st (awaiting st (id_of id)) refl (free_turn st 0 f) (follows.before_bool _ st (id_of id)))
    (λ d h. record { there = refl; lims = refl; fine = d; after = omega arith })
    (runs_one (λ s. bool_call s b) 0 bs (moved_to (awaiting st (id_of id)) (st.place.0 + 0)) (headed (moved_to (awaiting st (id_of id)) (st.place.0 + 0)) (id_of id)) (ap (λ (x : List ℕ). call 0 x (headed (moved_to (awaiting st (id_of id)) (st.place.0 + 0)) (id_of id))) (sym e)) refl
    (follows.behind_header_lem _ (moved_to (awaiting st (id_of id)) (st.place.0 + 0)) (id_of id)))
    refl

field_is : (st : State) (id : ℤ) (t : TType) → 2 < type_code t → field_call st t (id_of id) ≡ call (in_turn st (field_wrong t)) (field_bytes st.last.0 id (type_code t)) (headed st (id_of id))
unfolding field_call
field_is st id t k = rw (ne_eqb (type_code t) 1 (λ e. omega arith))

field_right : (t : TType) → 2 < type_code t → field_wrong t ≡ 0
unfolding field_wrong
field_right t k = rw (stop_free t (omega arith))

-- a field of another type: its header, behind which its value is written
value_field : (st : State) (id : ℤ) (t : TType) → st.pending.0 ≡ A.Nothing → 2 < type_code t → Runs ((λ s. field_call s t (id_of id)) ∷ []) (field_bytes st.last.0 id (type_code t)) st (behind_header_lem st id (length (field_bytes st.last.0 id (type_code t))))
value_field st id t f k =
    runs_one (λ s. field_call s t (id_of id)) (in_turn st (field_wrong t)) (field_bytes st.last.0 id (type_code t)) st (headed st (id_of id)) (field_is st id t k) (free_turn st (field_wrong t) f ∙ field_right t k) (follows.behind_header_lem _ st (id_of id))

-- a struct: begin, its fields and the stop, end
module _ (st : State) (fs : List Step) (bs : List ℕ) (f : st.pending.0 ≡ A.Nothing) (d : st.depth < st.limits.depth) (l : st.depth < length st.ids) where
  abbrev inside : State
  inside = moved_to (entered st) (st.place.0 + 0)

  begin_right : in_turn st (begin_wrong st) ≡ 0
  unfolding begin_wrong
  begin_right = free_turn st (begin_wrong st) f ∙ rw (lt-leb st.limits.depth st.depth d)

  module _ (w : Fielded fs bs inside) where
    abbrev last_in_lem : State
    last_in_lem = w.next

    one_down : last_in_lem.depth ≡ st.depth + 1
    one_down = w.kept.deep

    end_right : in_turn last_in_lem (end_wrong last_in_lem) ≡ 0
    unfolding end_wrong
    end_right = free_turn last_in_lem (end_wrong last_in_lem) w.free ∙ rw (ne_eqb last_in_lem.depth 0 (λ e. omega (arith, one_down)))

    abbrev outside : State
    outside = moved_to (ended last_in_lem) (last_in_lem.place.0 + 0)

    struct_runs : Runs (struct_begin_call ∷ (fs ++ (struct_end_call ∷ []))) bs st outside
    struct_runs =
        subst (λ (x : List ℕ). Runs (struct_begin_call ∷ (fs ++ (struct_end_call ∷ []))) x st outside) (append-nil bs)
        (runs_on (struct_begin_call ∷ []) (fs ++ (struct_end_call ∷ [])) [] (bs ++ []) st inside outside
        (runs_one struct_begin_call (in_turn st (begin_wrong st)) [] st (entered st) refl begin_right (follows.one_down st))
        (λ x h. record { there = refl; lims = refl; fine = omega arith; after = omega arith })
        (runs_on fs (struct_end_call ∷ []) bs [] inside last_in_lem outside w.runs (moved inside last_in_lem (length bs) w.kept)
        (runs_one struct_end_call (in_turn last_in_lem (end_wrong last_in_lem)) [] last_in_lem (ended last_in_lem) refl end_right (follows.one_up last_in_lem)) refl)
        (kept_cut inside last_in_lem (length bs) w.kept))

    -- begun and ended where it stands
    whole_kept : kept.Kept (kept.begun (stand st) (stand last_in_lem) st.last.0 (length bs) l) (stand last_in_lem) (length bs)
    whole_kept = record { there = omega (arith, w.kept.there); begins = w.kept.begins; deep = w.kept.deep; lims = w.kept.lims; long = w.kept.long; below = w.kept.below }

    outside_kept : Kept st outside (length bs)
    outside_kept = let k = kept.struct_kept (stand st) (stand last_in_lem) st.last.0 (length bs) l whole_kept in record { there = omega (arith, k.there); begins = k.begins; deep = k.deep; lims = k.lims; long = k.long; below = k.below }

    pub struct_wrote : Wrote (struct_begin_call ∷ (fs ++ (struct_end_call ∷ []))) bs st
    struct_wrote =
        record {
          next = outside;
          runs = struct_runs;
          kept = outside_kept;
          same_last = ap id_of (kept.saved (stand st) (stand last_in_lem) st.last.0 (length bs) l whole_kept);
          free = w.free;
        }

-- one field and those behind it
module _ (plan : Plan) (st : State) (last id : ℤ) (fs : Fields) (e : st.last.0 ≡ last) (f : st.pending.0 ≡ A.Nothing) (wf : (b : State) (n : ℕ) → Kept st b n → b.last.0 ≡ id → b.pending.0 ≡ A.Nothing → Fielded (write_fields plan fs) (bytes_of_fields id fs) b) where
  -- a bool, whose value stands in the header
  truth_wrote : (b : Bool) → Fielded (write_fields plan (val.field id (val.truth b) fs)) (bytes_of_fields last (val.field id (val.truth b) fs)) st
  unfolding write_of write_fields bytes_of_fields type_of
  truth_wrote b =
      let bs : List ℕ = field_bytes last id (truth_code b) in
      let mid : State = behind_header_lem (moved_to (awaiting st (id_of id)) (st.place.0 + 0)) id (length bs) in
      let k : Kept st mid (length bs) = record { there = omega arith; begins = refl; deep = refl; lims = refl; long = refl; below = λ i h. refl } in
      fields_on ((λ s. field_call s T.Bool (id_of id)) ∷ ((λ s. bool_call s b) ∷ [])) (write_fields plan fs) bs (bytes_of_fields id fs) st mid
      (bool_field st id b f bs (ap (λ (z : ℤ). field_bytes z id (truth_code b)) (sym e))) k (wf mid (length bs) k refl refl)

  -- any other, whose value stands behind it
  module _ (t : Tree) (n : in_header t ≡ false) (c : field_code t ≡ type_code (type_of t)) (k : 2 < type_code (type_of t)) (wv : (b : State) (n : ℕ) → Kept st b n → b.pending.0 ≡ A.Nothing → Wrote (write_of (under plan id) t) (bytes_of t) b) where
    value_bytes_lem : field_bytes last id (type_code (type_of t)) ++ (bytes_of t ++ bytes_of_fields id fs) ≡ bytes_of_fields last (val.field id t fs)
    unfolding bytes_of_fields
    value_bytes_lem = rw (n, c)

    value_head : (bs : List ℕ) → bs ≡ field_bytes last id (type_code (type_of t)) → Runs ((λ s. field_call s (type_of t) (id_of id)) ∷ []) bs st (behind_header_lem st id (length bs))
    value_head bs q =
        subst (λ (x : List ℕ). Runs ((λ s. field_call s (type_of t) (id_of id)) ∷ []) x st (behind_header_lem st id (length x))) (ap (λ (z : ℤ). field_bytes z id (type_code (type_of t))) e ∙ sym q) (value_field st id (type_of t) f k)

    -- behind a header of these bytes
    value_on : (bs : List ℕ) → Runs ((λ s. field_call s (type_of t) (id_of id)) ∷ []) bs st (behind_header_lem st id (length bs)) → (v : Wrote (write_of (under plan id) t) (bytes_of t) (behind_header_lem st id (length bs))) → Fielded ((λ s. field_call s (type_of t) (id_of id)) ∷ (write_of (under plan id) t ++ write_fields plan fs)) (bs ++ (bytes_of t ++ bytes_of_fields id fs)) st
    value_on bs r v =
        let mid : State = behind_header_lem st id (length bs) in
        let km = kept_header st id (length bs) in
        fields_on ((λ s. field_call s (type_of t) (id_of id)) ∷ []) (write_of (under plan id) t ++ write_fields plan fs) bs (bytes_of t ++ bytes_of_fields id fs) st mid r km
        (fields_on (write_of (under plan id) t) (write_fields plan fs) (bytes_of t) (bytes_of_fields id fs) mid v.next v.runs v.kept
        (wf v.next (length bs + length (bytes_of t)) (kept_then st mid v.next (length bs) (length (bytes_of t)) km v.kept) (ap (λ (x : FieldId). x.0) v.same_last) v.free))

    value_wrote : Fielded (write_fields plan (val.field id t fs)) (bytes_of_fields last (val.field id t fs)) st
    unfolding write_fields
    value_wrote =
        let bs : List ℕ = field_bytes last id (type_code (type_of t)) in
        subst (λ (x : List ℕ). Fielded (write_fields plan (val.field id t fs)) x st) value_bytes_lem
        (value_on bs (value_head bs refl) (wv (behind_header_lem st id (length bs)) (length bs) (kept_header st id (length bs)) refl))

  field_wrote : (t : Tree) → InField t → ((b : State) (n : ℕ) → Kept st b n → b.pending.0 ≡ A.Nothing → Wrote (write_of (under plan id) t) (bytes_of t) b) → Fielded (write_fields plan (val.field id t fs)) (bytes_of_fields last (val.field id t fs)) st
  field_wrote t (truthful b q) wv = subst (λ (u : Tree). Fielded (write_fields plan (val.field id u fs)) (bytes_of_fields last (val.field id u fs)) st) (sym q) (truth_wrote b)
  field_wrote t (valued n c k) wv = value_wrote t n c k wv

element_is : (st : State) (b : Bool) → st.pending.0 ≡ A.Nothing → bool_call st b ≡ call 0 (truth_code b ∷ []) st
unfolding bool_call
element_is st b f = ap (truth_call st b) f

-- by recursion on the tree: the writer stands in `depth` structs, under these limits, with nothing pending
pub record Ready (lim : TConfiguration) (depth : ℕ) (st : State) : Type 0 where
  pub lims : st.limits ≡ lim
  pub deep : st.depth ≡ depth
  pub ids : length st.ids ≡ 64
  pub free : st.pending.0 ≡ A.Nothing

ready_on : (lim : TConfiguration) (depth : ℕ) (a b : State) (n : ℕ) → Ready lim depth a → Kept a b n → b.pending.0 ≡ A.Nothing → Ready lim depth b
ready_on lim depth a b n r k f = record { lims = k.lims ∙ r.lims; deep = k.deep ∙ r.deep; ids = k.long ∙ r.ids; free = f }

module _ (lim : TConfiguration) (ok : Ranged lim) where
  element_wrote : (st : State) (b : Bool) → st.pending.0 ≡ A.Nothing → Wrote ((λ x. bool_call x b) ∷ []) (truth_code b ∷ []) st
  element_wrote st b f =
      record {
        next = moved_to st (st.place.0 + 1);
        runs = runs_one (λ x. bool_call x b) 0 (truth_code b ∷ []) st st (element_is st b f) refl (follows.itself _ st);
        kept = kept_place st 1;
        same_last = refl;
        free = f;
      }

  -- a string, by either call: where it is UTF-8 the string call writes the same
  text_right : (l : TConfiguration) (cs : List ℕ) → length cs ≤ l.string → utf8 cs ≡ true → text_wrong l cs ≡ 0
  unfolding text_wrong or_else
  text_right l cs h u = rw (length_right l cs h, u)

  string_wrote : (form : Form) (cs : List ℕ) (depth : ℕ) (st : State) → Ready lim depth st → length cs ≤ lim.string → Fits form cs → Wrote (write_string form cs ∷ []) (string_bytes cs) st
  string_wrote binaries cs depth st r h x = one_call (λ y. bytes_call y cs) (length_wrong st.limits cs) _ st refl (length_right st.limits cs (rw r.lims h)) r.free
  string_wrote strings cs depth st r h x = one_call (λ y. string_call y cs) (text_wrong st.limits cs) _ st refl (text_right st.limits cs (rw r.lims h) x) r.free

  items_wrote : (plan : Plan) (ty : TType) (ts : Trees) (depth : ℕ) (st : State) → Ready lim depth st → size ts ≤ lim.container → TypedAll ty ts → ((b : State) → Ready lim depth b → Wrote (write_all plan 0 ts) (bytes_of_all ts) b) → Wrote ((λ x. items_call x ty (pos (size ts))) ∷ write_all plan 0 ts) (items_bytes ty (size ts) ++ bytes_of_all ts) st
  items_wrote plan ty ts depth st r h y k =
      let f = one_call (λ x. items_call x ty (pos (size ts))) (count_wrong st.limits ty ty (pos (size ts))) (items_bytes ty (size ts)) st refl (all_right st.limits ty ts (rw r.lims h) y) r.free in
      wrote_then ((λ x. items_call x ty (pos (size ts))) ∷ []) (write_all plan 0 ts) (items_bytes ty (size ts)) (bytes_of_all ts) st f (k f.next (ready_on lim depth st f.next _ r f.kept f.free))

  map_wrote : (plan : Plan) (k v : TType) (ps : Pairs) (depth : ℕ) (st : State) → Ready lim depth st → size_p ps ≤ lim.container → TypedPairs k v ps → ((b : State) → Ready lim depth b → Wrote (write_pairs plan 0 ps) (bytes_of_pairs ps) b) → Wrote ((λ x. pairs_call x k v (pos (size_p ps))) ∷ write_pairs plan 0 ps) (pairs_bytes k v (size_p ps) ++ bytes_of_pairs ps) st
  map_wrote plan k v ps depth st r h y on =
      let f = one_call (λ x. pairs_call x k v (pos (size_p ps))) (count_wrong st.limits k v (pos (size_p ps))) (pairs_bytes k v (size_p ps)) st refl (pairs_right st.limits k v ps (rw r.lims h) y) r.free in
      wrote_then ((λ x. pairs_call x k v (pos (size_p ps))) ∷ []) (write_pairs plan 0 ps) (pairs_bytes k v (size_p ps)) (bytes_of_pairs ps) st f (on f.next (ready_on lim depth st f.next _ r f.kept f.free))

  has_level : (st : State) (depth : ℕ) → Ready lim depth st → depth < lim.depth → st.depth < st.limits.depth
  has_level st depth r h = rw (r.lims, r.deep) h

  in_ids : (st : State) (depth : ℕ) → Ready lim depth st → depth < lim.depth → st.depth < length st.ids
  in_ids st depth r h = rw (r.ids, r.deep) (omega (arith, ok.deep))

  ready_in : (st : State) (depth : ℕ) → Ready lim depth st → Ready lim (suc depth) (moved_to (entered st) (st.place.0 + 0))
  ready_in st depth r = record { lims = r.lims; deep = omega (arith, r.deep); ids = length-set st.ids st.depth st.last.0 ∙ r.ids; free = r.free }

  mutual
    unfolding nesting nesting_all nesting_pairs nesting_fields Sized SizedAll SizedPairs SizedFields Typed TypedAll TypedPairs TypedFields Texts TextsAll TextsPairs TextsFields write_of write_all write_pairs write_fields bytes_of bytes_of_all bytes_of_pairs bytes_of_fields

    pub wrote : (plan : Plan) (t : Tree) (depth : ℕ) (st : State) → Ready lim depth st → depth + nesting t ≤ lim.depth → Sized lim t → Typed t → Texts plan t → Wrote (write_of plan t) (bytes_of t) st
    wrote plan (val.truth b) depth st r n s y x = element_wrote st b r.free
    wrote plan (val.i8 z) depth st r n s y x = one_call (λ c. i8_call c z) 0 _ st refl refl r.free
    wrote plan (val.i16 z) depth st r n s y x = one_call (λ c. int_call c z) 0 _ st refl refl r.free
    wrote plan (val.i32 z) depth st r n s y x = one_call (λ c. int_call c z) 0 _ st refl refl r.free
    wrote plan (val.i64 z) depth st r n s y x = one_call (λ c. int_call c z) 0 _ st refl refl r.free
    wrote plan (val.double d) depth st r n s y x = one_call (λ c. double_call c d) 0 _ st refl refl r.free
    wrote plan (val.uuid u) depth st r n s y x = one_call (λ c. uuid_call c u) 0 _ st refl refl r.free
    wrote plan (val.bytes cs) depth st r n s y x = string_wrote (plan []) cs depth st r s x
    wrote plan (val.list t ts) depth st r n s y x = items_wrote plan t ts depth st r s.0 y (λ b k. wrote_all plan 0 t ts depth b k (omega arith) s.1 y x)
    wrote plan (val.set t ts) depth st r n s y x = items_wrote plan t ts depth st r s.0 y (λ b k. wrote_all plan 0 t ts depth b k (omega arith) s.1 y x)
    wrote plan (val.map k v ps) depth st r n s y x = map_wrote plan k v ps depth st r s.0 y (λ b q. wrote_pairs plan 0 k v ps depth b q (omega arith) s.1 y x)
    wrote plan (val.struct fs) depth st r n s y x =
        struct_wrote st (write_fields plan fs) (bytes_of_fields (pos 0) fs) r.free (has_level st depth r (omega arith)) (in_ids st depth r (omega arith))
        (wrote_fields plan fs (suc depth) (moved_to (entered st) (st.place.0 + 0)) (pos 0) (ready_in st depth r) refl (omega arith) s y x)

    wrote_all : (plan : Plan) (i : ℕ) (ty : TType) (ts : Trees) (depth : ℕ) (st : State) → Ready lim depth st → depth + nesting_all ts ≤ lim.depth → SizedAll lim ts → TypedAll ty ts → TextsAll plan i ts → Wrote (write_all plan i ts) (bytes_of_all ts) st
    wrote_all plan i ty no_trees depth st r n s y x = nothing_wrote st r.free
    wrote_all plan i ty (tree t ts) depth st r n s y x =
        let f = wrote (under plan (pos i)) t depth st r (omega arith) s.0 y.1 x.0 in
        wrote_then (write_of (under plan (pos i)) t) (write_all plan (suc i) ts) (bytes_of t) (bytes_of_all ts) st f
        (wrote_all plan (suc i) ty ts depth f.next (ready_on lim depth st f.next _ r f.kept f.free) (omega arith) s.1 y.2 x.1)

    wrote_pairs : (plan : Plan) (i : ℕ) (k v : TType) (ps : Pairs) (depth : ℕ) (st : State) → Ready lim depth st → depth + nesting_pairs ps ≤ lim.depth → SizedPairs lim ps → TypedPairs k v ps → TextsPairs plan i ps → Wrote (write_pairs plan i ps) (bytes_of_pairs ps) st
    wrote_pairs plan i k v no_pairs depth st r n s y x = nothing_wrote st r.free
    wrote_pairs plan i k v (pair t u ps) depth st r n s y x =
        let f = wrote (key_under plan i) t depth st r (omega arith) s.0 y.2 x.0 in
        let rf = ready_on lim depth st f.next _ r f.kept f.free in
        let g = wrote (value_under plan i) u depth f.next rf (omega arith) s.1 y.3 x.1 in
        let rg = ready_on lim depth f.next g.next _ rf g.kept g.free in
        wrote_then (write_of (key_under plan i) t) (write_of (value_under plan i) u ++ write_pairs plan (suc i) ps) (bytes_of t) (bytes_of u ++ bytes_of_pairs ps) st f
        (wrote_then (write_of (value_under plan i) u) (write_pairs plan (suc i) ps) (bytes_of u) (bytes_of_pairs ps) f.next g
        (wrote_pairs plan (suc i) k v ps depth g.next rg (omega arith) s.2 y.4 x.2))

    wrote_fields : (plan : Plan) (fs : Fields) (depth : ℕ) (st : State) (last : ℤ) → Ready lim depth st → st.last.0 ≡ last → depth + nesting_fields fs ≤ lim.depth → SizedFields lim fs → TypedFields fs → TextsFields plan fs → Fielded (write_fields plan fs) (bytes_of_fields last fs) st
    wrote_fields plan no_fields depth st last r e n s y x = ended_fields st r.free
    wrote_fields plan (val.field id t fs) depth st last r e n s y x =
        field_wrote plan st last id fs e r.free
        (λ b m k q p. wrote_fields plan fs depth b id (ready_on lim depth st b m r k p) q (omega arith) s.1 y.2 x.1)
        t (in_field t)
        (λ b m k p. wrote (under plan id) t depth b (ready_on lim depth st b m r k p) (omega arith) s.0 y.1 x.0)

  -- a whole message: its header with the name, then its struct. It begins here; "writing it doesn't" set the last id.
  pub wrote_whole : (plan : Plan) (m : TMessageType) (z : SeqNo) (name : List ℕ) (fs : Fields) (depth : ℕ) (st : State) → Ready lim depth st → HeaderWithin lim z name → Within lim depth (val.struct fs) → Texts plan (val.struct fs) → WroteFrom (begun_here st) (write_whole plan m z name fs) (bytes_of_whole m z name fs) st
  unfolding write_whole bytes_of_whole
  wrote_whole plan m z name fs depth st r h w x =
      let hs : List ℕ = message_bytes m z.0 name in
      let bs : List ℕ = bytes_of (val.struct fs) in
      let wrong : ℕ = in_turn st (text_wrong st.limits name) in
      let right : wrong ≡ 0 = free_turn st (text_wrong st.limits name) r.free ∙ text_right st.limits name (omega (arith, h.short, ap (λ (l : TConfiguration). l.string) r.lims)) h.text in
      let mid : State = moved_to (begun_here st) (st.place.0 + length hs) in
      let k : Kept (begun_here st) mid (length hs) = record { there = refl; begins = refl; deep = refl; lims = refl; long = refl; below = λ i h. refl } in
      let g = wrote plan (val.struct fs) depth mid (record { lims = r.lims; deep = r.deep; ids = r.ids; free = r.free }) w.nested w.sized w.typed x in
      record {
        next = g.next;
        runs =
            runs_on ((λ c. message_call c m z name) ∷ []) (write_of plan (val.struct fs)) hs bs st mid g.next
            (runs_one (λ c. message_call c m z name) wrong hs st (begun_here st) refl right (follows.here _ st))
            (λ d a. record { there = refl; lims = refl; fine = d; after = omega arith })
            g.runs (kept_cut mid g.next (length bs) g.kept);
        kept = subst (Kept (begun_here st) g.next) (sym (length-append hs bs)) (kept_then (begun_here st) mid g.next (length hs) (length bs) k g.kept);
        same_last = g.same_last;
        free = g.free;
      }
