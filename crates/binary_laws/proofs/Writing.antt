-- A value within the limits, its bytes within the message's ceiling, written by the binary writer's calls, stands in the buffer as its bytes, and the state is
-- as it was, its place behind them. Assumes nothing.
use mathlib.Core.Path.{◌≡◌, refl, sym, ap, ap₂, subst, ◌∙◌}
use mathlib.Core.Bool.{true, false}
use mathlib.Core.List.{List, [], ◌∷◌, ◌++◌, append-nil}
use Prim.Native.Nat.{ℕ, suc, ◌+◌, ◌-◌, ◌≤◌, ◌<◌}
use native.Mathlib.Omega.{arith}
use borrow.Author.Tests.{ne_eqb, le-leb, lt-leb, le-ltb}
use lib.Dec.{eqb}
use lib.ListN.{length, length-append}
use lib.IntN.{pos}
use Rattle.types.specs.Codes.{type_code}
use Rattle.types.specs.declared.TType.{TType}
use Rattle.types.specs.declared.TConfiguration.{TConfiguration}
use Rattle.types.specs.declared.TMessageType.{TMessageType}
use Rattle.types.specs.declared.SeqNo.{SeqNo}
use Rattle.types.specs.Value as val
use Rattle.types.specs.Value.{Tree, Trees, no_trees, tree, Pairs, no_pairs, pair, Fields, no_fields, type_of, size, size_p, nesting, nesting_all, nesting_pairs, nesting_fields, Sized, SizedAll, SizedPairs, SizedFields, Typed, TypedAll, TypedPairs, TypedFields, Within}
use Rattle.types.proofs.Limits.{Ranged}
use Rattle.types.proofs.Value.{no_stop}
use Rattle.utf8.specs.Utf8.{utf8}
use Rattle.numbers.specs.Answers.{put_at}
use Rattle.numbers.proofs.Put.{put_put, length_put}
use Rattle.heads.specs.Answers.{id_of}
use Rattle.puts.specs.Wrong.{or_else, count_wrong, length_wrong, text_wrong, field_wrong}
use Rattle.output.specs.declared.WriteAnswer.{WriteAnswer}
use Rattle.output.specs.declared.WriteAnswer.TheVariants as WA
use Rattle.laws.specs.Written.{HeaderWithin}
use Rattle.laws.specs.Text.{Form, binaries, strings, Plan, under, key_under, value_under, Fits, Texts, TextsAll, TextsPairs, TextsFields}
use Rattle.binary_puts.specs.Bytes.{field_bytes, items_bytes, pairs_bytes, string_bytes, message_bytes}
use Rattle.binary_output.specs.State.{State, place_of, cut_of, moved_to, begun_here, entered, ended}
use Rattle.binary_output.specs.Calls.{call, writes, leaves, begin_wrong, end_wrong, bool_call, i8_call, i16_call, i32_call, i64_call, double_call, uuid_call, bytes_call, string_call, items_call, pairs_call, struct_begin_call, struct_end_call, field_call, stop_call, message_call}
use Rattle.binary_output.proofs.Checks.{Sound, cut_lets}
use Rattle.binary_output.proofs.Laws.{goes, Follows}
use Rattle.binary_output.proofs.Stays as follows
use Rattle.binary_laws.specs.Written.{bytes_of, bytes_of_all, bytes_of_pairs, bytes_of_fields, bytes_of_whole}
use Rattle.binary_laws.specs.Writing.{Step, Ran, ran, stopped, go_on, run, write_string, write_of, write_all, write_pairs, write_fields, write_whole}

-- a row of calls, made in a sound state, writes these bytes and ends in this state, wherever there is room and the message may go on so far
unfoldable pub Runs : List Step → List ℕ → State → State → Type 0
Runs cs bs st next = (buf : List ℕ) → Sound (length buf) st → st.place.0 + length bs ≤ length buf → st.place.0 + length bs ≤ cut_of next → run cs buf st ≡ ran (put_at buf st.place.0 bs) next

ran_buf : {b c : List ℕ} {s t : State} → ran b s ≡ ran c t → b ≡ c
ran_buf e = cc

ran_state : {b c : List ℕ} {s t : State} → ran b s ≡ ran c t → s ≡ t
ran_state e = cc

no_ran : {X : Type 0} {why : ℕ} {b : List ℕ} {s : State} → stopped why ≡ ran b s → X
no_ran e = let z : ◌≡◌ {A = ℕ} 0 1 = cc in absurd (omega arith)

past_one : (a : WriteAnswer) (x y : Ran) (b : List ℕ) (s : State) {z : Ran} → (x ≡ ran b s → y ≡ z) → go_on a x ≡ ran b s → go_on a y ≡ z
past_one WA.Written x y b s h e = h e
past_one (WA.Refused why) x y b s h e = no_ran e

-- one row behind another
run_append : (cs ds : List Step) (buf : List ℕ) (st : State) (b : List ℕ) (s : State) → run cs buf st ≡ ran b s → run (cs ++ ds) buf st ≡ run ds b s
unfolding run
run_append [] ds buf st b s e = let p : buf ≡ b = ran_buf e in let q : st ≡ s = ran_state e in ap₂ (λ (x : List ℕ) (y : State). run ds x y) p q
run_append (c ∷ cs) ds buf st b s e = past_one (writes buf st (c st)).answer _ _ b s (run_append cs ds (leaves buf st (c st)) (writes buf st (c st)).state b s) e

-- n bytes on, under the same limits, no deeper than they let it, in a message that began no later
pub record Moved (a b : State) (n : ℕ) : Type 0 where
  pub there : b.place.0 ≡ a.place.0 + n
  pub lims : b.limits ≡ a.limits
  pub fine : b.depth ≤ b.limits.depth
  pub after : b.begin.0 ≤ b.place.0

abbrev pub Moves : State → State → ℕ → Type 0
Moves a b n = a.depth ≤ a.limits.depth → a.begin.0 ≤ a.place.0 → Moved a b n

pub runs_on : (cs ds : List Step) (bs es : List ℕ) (a b c : State) → Runs cs bs a b → Moves a b (length bs) → Runs ds es b c → cut_of c ≡ cut_of b → Runs (cs ++ ds) (bs ++ es) a c
unfolding Runs
runs_on cs ds bs es a b c f mv g q buf r h i =
    let k = mv r.deep r.after in
    let l = length-append bs es in
    let first = f buf r (omega arith) (omega arith) in
    let m = length_put buf a.place.0 bs in
    let mid : Sound (length (put_at buf a.place.0 bs)) b = record { limits = subst Ranged (sym k.lims) r.limits; here = omega (arith, k.there); deep = k.fine; after = k.after; before = omega (arith, k.there) } in
    let second = g (put_at buf a.place.0 bs) mid (omega (arith, k.there)) (omega (arith, k.there)) in
    run_append cs ds buf a (put_at buf a.place.0 bs) b first
    ∙ second
    ∙ ap (λ (x : List ℕ). ran x c) (ap (λ (p : ℕ). put_at (put_at buf a.place.0 bs) p es) k.there ∙ put_put buf a.place.0 bs es h)

-- one call
pub runs_one : (c : Step) (wrong : ℕ) (bs : List ℕ) (st next : State) → c st ≡ call wrong bs next → wrong ≡ 0 → Follows wrong st next → Runs (c ∷ []) bs st (moved_to next (st.place.0 + length bs))
unfolding Runs run
runs_one c wrong bs st next e z f buf r h i =
    let after : next.begin.0 ≤ next.place.0 = omega (arith, f.place, f.begins r.after) in
    let w = goes buf st wrong bs next r z (cut_lets next after (length bs) (omega (arith, f.place))) h in
    rw (e, w.answers, w.puts)

-- no byte
put_none : (buf : List ℕ) (at : ℕ) → at ≤ length buf → put_at buf at [] ≡ buf
unfolding put_at
put_none buf at h = rw (le-ltb (length buf) (at + 0) (omega arith))

-- n bytes on
abbrev pub on : State → ℕ → State
on st n = moved_to st (st.place.0 + n)

-- what writing a value gives: its bytes, and the state as it was, its place behind them
abbrev pub Wrote : List Step → List ℕ → State → Type 0
Wrote cs bs st = Runs cs bs st (on st (length bs))

on_on : (st : State) (n m k : ℕ) → n + m ≡ k → on (on st n) m ≡ on st k
on_on st n m k e = ap (moved_to st) (omega arith)

on_moves : (st : State) (n : ℕ) → Moves st (on st n) n
on_moves st n d h = record { there = refl; lims = refl; fine = d; after = omega arith }

-- a call that moves the place alone
one_call : (c : Step) (wrong : ℕ) (bs : List ℕ) (st : State) → c st ≡ call wrong bs st → wrong ≡ 0 → Wrote (c ∷ []) bs st
one_call c wrong bs st e z = runs_one c wrong bs st st e z (follows.itself _ st)

-- one value behind another
wrote_then : (cs ds : List Step) (bs es : List ℕ) (st : State) → Wrote cs bs st → Wrote ds es (on st (length bs)) → Wrote (cs ++ ds) (bs ++ es) st
wrote_then cs ds bs es st f g =
    subst (Runs (cs ++ ds) (bs ++ es) st) (on_on st (length bs) (length es) (length (bs ++ es)) (sym (length-append bs es)))
    (runs_on cs ds bs es st (on st (length bs)) (on (on st (length bs)) (length es)) f (on_moves st (length bs)) g refl)

nothing_wrote : (st : State) → Wrote [] [] st
unfolding Runs run
nothing_wrote st buf r h i = ap₂ ran (sym (put_none buf st.place.0 (omega arith))) (ap (moved_to st) (omega arith))

-- what the arguments show: nothing, within the limits
stop_free : (t : TType) → 0 < type_code t → eqb (type_code t) 0 ≡ false
stop_free t h = ne_eqb (type_code t) 0 (λ e. omega arith)

count_right : (lim : TConfiguration) (t u : TType) (n : ℕ) → n ≤ lim.container → (n ≡ 0 → ⊥) → 0 < type_code t → 0 < type_code u → count_wrong lim t u (pos n) ≡ 0
unfolding count_wrong
count_right lim t u n h z a b = rw (le-ltb n 0 (omega arith), ne_eqb n 0 z, stop_free t a, stop_free u b, le-leb n lim.container h)

count_none : (lim : TConfiguration) (t u : TType) → count_wrong lim t u (pos 0) ≡ 0
unfolding count_wrong
count_none lim t u = refl

length_right : (lim : TConfiguration) (bs : List ℕ) → length bs ≤ lim.string → length_wrong lim bs ≡ 0
unfolding length_wrong
length_right lim bs h = rw (le-leb (length bs) lim.string h)

-- the header of a list or a set, and of a map
all_right : (lim : TConfiguration) (ty : TType) (ts : Trees) → size ts ≤ lim.container → TypedAll ty ts → count_wrong lim ty ty (pos (size ts)) ≡ 0
unfolding size TypedAll
all_right lim ty no_trees h y = count_none lim ty ty
all_right lim ty (tree t ts) h y =
    let p : 0 < type_code ty = subst (λ (u : TType). 0 < type_code u) y.0 (no_stop t) in
    count_right lim ty ty (suc (size ts)) h (λ z. omega arith) p p

pairs_right : (lim : TConfiguration) (k v : TType) (ps : Pairs) → size_p ps ≤ lim.container → TypedPairs k v ps → count_wrong lim k v (pos (size_p ps)) ≡ 0
unfolding size_p TypedPairs
pairs_right lim k v no_pairs h y = count_none lim k v
pairs_right lim k v (pair t u ps) h y =
    count_right lim k v (suc (size_p ps)) h (λ z. omega arith) (subst (λ (x : TType). 0 < type_code x) y.0 (no_stop t)) (subst (λ (x : TType). 0 < type_code x) y.1 (no_stop u))

-- a string that the string call lets through
text_right : (l : TConfiguration) (cs : List ℕ) → length cs ≤ l.string → utf8 cs ≡ true → text_wrong l cs ≡ 0
unfolding text_wrong or_else
text_right l cs h u = rw (length_right l cs h, u)

field_right : (t : Tree) → field_wrong (type_of t) ≡ 0
unfolding field_wrong
field_right t = rw (stop_free (type_of t) (no_stop t))

-- a struct: begin, its fields and the stop, end
module _ (st : State) (fs : List Step) (bs : List ℕ) (d : st.depth < st.limits.depth) where
  abbrev inside : State
  inside = on (entered st) 0

  begin_right : begin_wrong st ≡ 0
  unfolding begin_wrong
  begin_right = rw (lt-leb st.limits.depth st.depth d)

  abbrev last_in_lem : State
  last_in_lem = on inside (length bs)

  end_right : end_wrong last_in_lem ≡ 0
  unfolding end_wrong
  end_right = rw (ne_eqb (st.depth + 1) 0 (λ e. omega arith))

  abbrev outside : State
  outside = on (ended last_in_lem) 0

  out_again : outside ≡ on st (length bs)
  out_again =
      let p : st.place.0 + 0 + length bs + 0 ≡ st.place.0 + length bs = omega arith in
      let q : st.depth + 1 - 1 ≡ st.depth = omega arith in
      ap₂ (λ (x y : ℕ). record { place = place_of x; depth = y; limits = st.limits; begin = st.begin }) p q

  struct_wrote : Wrote fs bs inside → Wrote (struct_begin_call ∷ (fs ++ (struct_end_call ∷ []))) bs st
  struct_wrote w =
      subst (Runs (struct_begin_call ∷ (fs ++ (struct_end_call ∷ []))) bs st) out_again
      (subst (λ (x : List ℕ). Runs (struct_begin_call ∷ (fs ++ (struct_end_call ∷ []))) x st outside) (append-nil bs)
      (runs_on (struct_begin_call ∷ []) (fs ++ (struct_end_call ∷ [])) [] (bs ++ []) st inside outside
      (runs_one struct_begin_call (begin_wrong st) [] st (entered st) refl begin_right (follows.one_down st))
      (λ x h. record { there = refl; lims = refl; fine = omega arith; after = omega arith })
      (runs_on fs (struct_end_call ∷ []) bs [] inside last_in_lem outside w (on_moves inside (length bs))
      (runs_one struct_end_call (end_wrong last_in_lem) [] last_in_lem (ended last_in_lem) refl end_right (follows.one_up last_in_lem)) refl)
      refl))

-- by recursion on the tree: the writer stands in `depth` structs, under these limits
pub record Ready (lim : TConfiguration) (depth : ℕ) (st : State) : Type 0 where
  pub lims : st.limits ≡ lim
  pub deep : st.depth ≡ depth

ready_on : (lim : TConfiguration) (depth : ℕ) (st : State) (n : ℕ) → Ready lim depth st → Ready lim depth (on st n)
ready_on lim depth st n r = record { lims = r.lims; deep = r.deep }

module _ (lim : TConfiguration) where
  string_wrote : (form : Form) (cs : List ℕ) (depth : ℕ) (st : State) → Ready lim depth st → length cs ≤ lim.string → Fits form cs → Wrote (write_string form cs ∷ []) (string_bytes cs) st
  string_wrote binaries cs depth st r h x = one_call (λ y. bytes_call y cs) (length_wrong st.limits cs) _ st refl (length_right st.limits cs (rw r.lims h))
  string_wrote strings cs depth st r h x = one_call (λ y. string_call y cs) (text_wrong st.limits cs) _ st refl (text_right st.limits cs (rw r.lims h) x)

  items_wrote : (plan : Plan) (ty : TType) (ts : Trees) (depth : ℕ) (st : State) → Ready lim depth st → size ts ≤ lim.container → TypedAll ty ts → ((b : State) → Ready lim depth b → Wrote (write_all plan 0 ts) (bytes_of_all ts) b) → Wrote ((λ x. items_call x ty (pos (size ts))) ∷ write_all plan 0 ts) (items_bytes ty (size ts) ++ bytes_of_all ts) st
  items_wrote plan ty ts depth st r h y k =
      wrote_then ((λ x. items_call x ty (pos (size ts))) ∷ []) (write_all plan 0 ts) (items_bytes ty (size ts)) (bytes_of_all ts) st
      (one_call (λ x. items_call x ty (pos (size ts))) (count_wrong st.limits ty ty (pos (size ts))) (items_bytes ty (size ts)) st refl (all_right st.limits ty ts (rw r.lims h) y))
      (k (on st (length (items_bytes ty (size ts)))) (ready_on lim depth st _ r))

  map_wrote : (plan : Plan) (k v : TType) (ps : Pairs) (depth : ℕ) (st : State) → Ready lim depth st → size_p ps ≤ lim.container → TypedPairs k v ps → ((b : State) → Ready lim depth b → Wrote (write_pairs plan 0 ps) (bytes_of_pairs ps) b) → Wrote ((λ x. pairs_call x k v (pos (size_p ps))) ∷ write_pairs plan 0 ps) (pairs_bytes k v (size_p ps) ++ bytes_of_pairs ps) st
  map_wrote plan k v ps depth st r h y go =
      wrote_then ((λ x. pairs_call x k v (pos (size_p ps))) ∷ []) (write_pairs plan 0 ps) (pairs_bytes k v (size_p ps)) (bytes_of_pairs ps) st
      (one_call (λ x. pairs_call x k v (pos (size_p ps))) (count_wrong st.limits k v (pos (size_p ps))) (pairs_bytes k v (size_p ps)) st refl (pairs_right st.limits k v ps (rw r.lims h) y))
      (go (on st (length (pairs_bytes k v (size_p ps)))) (ready_on lim depth st _ r))

  has_level : (st : State) (depth : ℕ) → Ready lim depth st → depth < lim.depth → st.depth < st.limits.depth
  has_level st depth r h = rw (r.lims, r.deep) h

  ready_in : (st : State) (depth : ℕ) → Ready lim depth st → Ready lim (suc depth) (on (entered st) 0)
  ready_in st depth r = record { lims = r.lims; deep = omega (arith, r.deep) }

  mutual
    unfolding nesting nesting_all nesting_pairs nesting_fields Sized SizedAll SizedPairs SizedFields Typed TypedAll TypedPairs TypedFields Texts TextsAll TextsPairs TextsFields write_of write_all write_pairs write_fields bytes_of bytes_of_all bytes_of_pairs bytes_of_fields

    pub wrote : (plan : Plan) (t : Tree) (depth : ℕ) (st : State) → Ready lim depth st → depth + nesting t ≤ lim.depth → Sized lim t → Typed t → Texts plan t → Wrote (write_of plan t) (bytes_of t) st
    wrote plan (val.truth b) depth st r n s y x = one_call (λ c. bool_call c b) 0 _ st refl refl
    wrote plan (val.i8 z) depth st r n s y x = one_call (λ c. i8_call c z) 0 _ st refl refl
    wrote plan (val.i16 z) depth st r n s y x = one_call (λ c. i16_call c z) 0 _ st refl refl
    wrote plan (val.i32 z) depth st r n s y x = one_call (λ c. i32_call c z) 0 _ st refl refl
    wrote plan (val.i64 z) depth st r n s y x = one_call (λ c. i64_call c z) 0 _ st refl refl
    wrote plan (val.double d) depth st r n s y x = one_call (λ c. double_call c d) 0 _ st refl refl
    wrote plan (val.uuid u) depth st r n s y x = one_call (λ c. uuid_call c u) 0 _ st refl refl
    wrote plan (val.bytes cs) depth st r n s y x = string_wrote (plan []) cs depth st r s x
    wrote plan (val.list t ts) depth st r n s y x = items_wrote plan t ts depth st r s.0 y (λ b k. wrote_all plan 0 t ts depth b k (omega arith) s.1 y x)
    wrote plan (val.set t ts) depth st r n s y x = items_wrote plan t ts depth st r s.0 y (λ b k. wrote_all plan 0 t ts depth b k (omega arith) s.1 y x)
    wrote plan (val.map k v ps) depth st r n s y x = map_wrote plan k v ps depth st r s.0 y (λ b q. wrote_pairs plan 0 k v ps depth b q (omega arith) s.1 y x)
    wrote plan (val.struct fs) depth st r n s y x =
        struct_wrote st (write_fields plan fs) (bytes_of_fields fs) (has_level st depth r (omega arith))
        (wrote_fields plan fs (suc depth) (on (entered st) 0) (ready_in st depth r) (omega arith) s y x)

    wrote_all : (plan : Plan) (i : ℕ) (ty : TType) (ts : Trees) (depth : ℕ) (st : State) → Ready lim depth st → depth + nesting_all ts ≤ lim.depth → SizedAll lim ts → TypedAll ty ts → TextsAll plan i ts → Wrote (write_all plan i ts) (bytes_of_all ts) st
    wrote_all plan i ty no_trees depth st r n s y x = nothing_wrote st
    wrote_all plan i ty (tree t ts) depth st r n s y x =
        wrote_then (write_of (under plan (pos i)) t) (write_all plan (suc i) ts) (bytes_of t) (bytes_of_all ts) st
        (wrote (under plan (pos i)) t depth st r (omega arith) s.0 y.1 x.0)
        (wrote_all plan (suc i) ty ts depth (on st (length (bytes_of t))) (ready_on lim depth st _ r) (omega arith) s.1 y.2 x.1)

    wrote_pairs : (plan : Plan) (i : ℕ) (k v : TType) (ps : Pairs) (depth : ℕ) (st : State) → Ready lim depth st → depth + nesting_pairs ps ≤ lim.depth → SizedPairs lim ps → TypedPairs k v ps → TextsPairs plan i ps → Wrote (write_pairs plan i ps) (bytes_of_pairs ps) st
    wrote_pairs plan i k v no_pairs depth st r n s y x = nothing_wrote st
    wrote_pairs plan i k v (pair t u ps) depth st r n s y x =
        let a : State = on st (length (bytes_of t)) in
        let b : State = on a (length (bytes_of u)) in
        wrote_then (write_of (key_under plan i) t) (write_of (value_under plan i) u ++ write_pairs plan (suc i) ps) (bytes_of t) (bytes_of u ++ bytes_of_pairs ps) st
        (wrote (key_under plan i) t depth st r (omega arith) s.0 y.2 x.0)
        (wrote_then (write_of (value_under plan i) u) (write_pairs plan (suc i) ps) (bytes_of u) (bytes_of_pairs ps) a
        (wrote (value_under plan i) u depth a (ready_on lim depth st _ r) (omega arith) s.1 y.3 x.1)
        (wrote_pairs plan (suc i) k v ps depth b (ready_on lim depth a _ (ready_on lim depth st _ r)) (omega arith) s.2 y.4 x.2))

    wrote_fields : (plan : Plan) (fs : Fields) (depth : ℕ) (st : State) → Ready lim depth st → depth + nesting_fields fs ≤ lim.depth → SizedFields lim fs → TypedFields fs → TextsFields plan fs → Wrote (write_fields plan fs) (bytes_of_fields fs) st
    wrote_fields plan no_fields depth st r n s y x = one_call stop_call 0 _ st refl refl
    wrote_fields plan (val.field id t fs) depth st r n s y x =
        let a : State = on st (length (field_bytes (type_of t) id)) in
        let b : State = on a (length (bytes_of t)) in
        wrote_then ((λ c. field_call c (type_of t) (id_of id)) ∷ []) (write_of (under plan id) t ++ write_fields plan fs) (field_bytes (type_of t) id) (bytes_of t ++ bytes_of_fields fs) st
        (one_call (λ c. field_call c (type_of t) (id_of id)) (field_wrong (type_of t)) _ st refl (field_right t))
        (wrote_then (write_of (under plan id) t) (write_fields plan fs) (bytes_of t) (bytes_of_fields fs) a
        (wrote (under plan id) t depth a (ready_on lim depth st _ r) (omega arith) s.0 y.1 x.0)
        (wrote_fields plan fs depth b (ready_on lim depth a _ (ready_on lim depth st _ r)) (omega arith) s.1 y.2 x.1))

  -- a whole message: its header with the name, then its struct. It begins here.
  pub wrote_whole : (plan : Plan) (m : TMessageType) (z : SeqNo) (name : List ℕ) (fs : Fields) (depth : ℕ) (st : State) → Ready lim depth st → HeaderWithin lim z name → Within lim depth (val.struct fs) → Texts plan (val.struct fs) → Runs (write_whole plan m z name fs) (bytes_of_whole m z name fs) st (on (begun_here st) (length (bytes_of_whole m z name fs)))
  unfolding write_whole bytes_of_whole
  wrote_whole plan m z name fs depth st r h w x =
      let hs : List ℕ = message_bytes m z.0 name in
      let bs : List ℕ = bytes_of (val.struct fs) in
      let right : text_wrong st.limits name ≡ 0 = text_right st.limits name (omega (arith, h.short, ap (λ (l : TConfiguration). l.string) r.lims)) h.text in
      let mid : State = on (begun_here st) (length hs) in
      subst (Runs ((λ c. message_call c m z name) ∷ write_of plan (val.struct fs)) (hs ++ bs) st) (on_on (begun_here st) (length hs) (length bs) (length (hs ++ bs)) (sym (length-append hs bs)))
      (runs_on ((λ c. message_call c m z name) ∷ []) (write_of plan (val.struct fs)) hs bs st mid (on mid (length bs))
      (runs_one (λ c. message_call c m z name) (text_wrong st.limits name) hs st (begun_here st) refl right (follows.here _ st))
      (λ d a. record { there = refl; lims = refl; fine = d; after = omega arith })
      (wrote plan (val.struct fs) depth mid (record { lims = r.lims; deep = r.deep }) w.nested w.sized w.typed x) refl)
