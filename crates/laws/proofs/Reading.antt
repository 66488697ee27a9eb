-- Bytes that spell a value and end no later than the message's cut are read as it by the reader's calls, overlong and long forms among them, and the
-- state is as it was, its place behind them. Assumes nothing.
use mathlib.Core.Path.{◌≡◌, refl, sym, ap, subst, ◌∙◌}
use mathlib.Core.Bool.{Bool, true, false}
use mathlib.Core.Logic.{◌⊎◌, ⊎_elim}
use mathlib.Core.List.{List, [], ◌++◌, append_assoc}
use Prim.Native.Nat.{ℕ, suc, ◌+◌, ◌-◌, ◌*◌, ◌≤◌, ◌<◌}
use native.Mathlib.Nat.{add-zero}
use native.Mathlib.Omega.{arith}
use borrow.Author.Tests.{eq-eqb, ne_eqb, lt-leb}
use lib.Dec.{ltb}
use lib.ListN.{length, take, drop, length-append, length-take, length-drop, length-set}
use lib.Seq.{drop-drop, drop-append_seam}
use lib.IntN.{ℤ, pos}
use Rattle.types.specs.Limits.{in_range}
use Rattle.types.specs.declared.TType.{TType}
use Rattle.types.specs.declared.TType.TheVariants as T
use Rattle.types.specs.declared.TConfiguration.{TConfiguration}
use Rattle.types.specs.declared.FieldId.{FieldId}
use Rattle.types.specs.Value as val
use Rattle.types.specs.Value.{Tree, Trees, no_trees, tree, Pairs, no_pairs, pair, Fields, no_fields, size, size_p}
use Rattle.types.proofs.Limits.{ranged}
use Rattle.numbers.specs.Varint.{Found, got, placed}
use Rattle.utf8.specs.Utf8.{utf8}
use Rattle.heads.specs.Reader.{Reader, read_at, read_to, missed, Whole, provided, done}
use Rattle.heads.specs.Heads.{int8, int16, int32, int64, double, uuid, truth, binary, text, items, pairs, least_size, items_head, pairs_head, Field, stop, bool, value, field, Message, message}
use Rattle.heads.specs.Answers.{place, id_of}
use Rattle.heads.specs.Spells.{Spells, SpellsAll, SpellsPairs, SpellsFields}
use Rattle.heads.proofs.Lawful.{Lawful, then_got, whole_front}
use Rattle.heads.proofs.Ahead.{items_head_lem, pairs_head_lem}
use Rattle.skip.proofs.Least.{all_least, pairs_least}
use Rattle.heads.proofs.Readers.{int8_lawful, int16_lawful, int32_lawful, int64_lawful, double_lawful, uuid_lawful, truth_lawful, binary_lawful, text_lawful, items_lawful, pairs_lawful, field_lawful, message_lawful, items_takes, pairs_takes, field_takes}
use Rattle.input.specs.State.{State, cut_of, sound, waits, gate, moved_to, begun_here, with_last, with_pending, entered, left}
use Rattle.input.specs.Outcome.{Outcome, answers, calls, cut_here, stays, element, bools, begins, ends, anew, on_field}
use Rattle.input.specs.Answers.{as_i8, as_i16, as_i32, as_i64, as_double, as_part, as_list, as_map, as_field, as_message}
use Rattle.input.specs.Calls.{read_bool, read_i8, read_i16, read_i32, read_i64, read_double, read_uuid, read_bytes, read_string, read_list, read_set, read_map, read_field, read_message, struct_begin, struct_end, bytes_part, string_part, uuid_part, name_part}
use Rattle.input.specs.declared.Awaited.{Awaited}
use Rattle.input.specs.declared.Awaited.TheVariants as W
use Rattle.input.specs.declared.FieldAnswer.TheVariants as F
use Rattle.input.specs.declared.ReadField.{ReadField}
use Rattle.input.proofs.Gate.{is_sound, sound_is}
use Rattle.input.proofs.Laws.{busy, gate_free, read_well}
use Rattle.input.proofs.Handed.{uuid_handed, bytes_handed, string_handed, name_handed}
use Rattle.laws.proofs.Kept as kept
use Rattle.laws.proofs.Kept.{Stand}
use Rattle.laws.specs.Text.{Form, binaries, strings, Plan, under, key_under, value_under, Fits, Texts, TextsAll, TextsPairs, TextsFields}
use Rattle.laws.specs.Reading.{Took, took, and_on, made, of_i8, of_i16, of_i32, of_i64, of_double, of_part, of_list, of_map, of_message, a_bool, an_i8, an_i16, an_i32, an_i64, a_double, a_uuid, a_string, a_list, a_set, a_map, a_begin, an_end, a_message, read_all, read_pairs, behind_header, read_fields, Holders, holding, by_type, holders, read_levels, read_of, read_whole}

-- n bytes on, in the same message, with the same depth, limits and ids below the depth
abbrev pub stand : State → Stand
stand st = record { at = st.place.0; begin = st.begin.0; depth = st.depth; limits = st.limits; ids = st.ids }

abbrev pub Kept : State → State → ℕ → Type 0
Kept st next n = kept.Kept (stand st) (stand next) n

kept_then : (a b c : State) (n m : ℕ) → Kept a b n → Kept b c m → Kept a c (n + m)
kept_then a b c n m f g = kept.kept_then (stand a) (stand b) (stand c) n m f g

-- what a row of calls gives: a, n bytes on, with this last id and no bool pending
pub record Gave {A : Type 0} (x : Took A) (a : A) (st : State) (n : ℕ) (last : FieldId) : Type 0 where
  pub next : State
  pub is : x ≡ took a next
  pub kept : Kept st next n
  pub ends : next.last ≡ last
  pub free : next.pending.0 ≡ W.Nothing

-- and what is made of it
gave_made : {A B : Type 0} (g : A → B) (x : Took A) (a : A) (st : State) (n : ℕ) (last : FieldId) → Gave x a st n last → Gave (made g x) (g a) st n last
gave_made g x a st n last f = record { next = f.next; is = ap (made g) f.is; kept = f.kept; ends = f.ends; free = f.free }

-- one row behind another
gave_on : {A B : Type 0} (x : Took A) (k : A → State → Took B) (a : A) (b : B) (st : State) (n m : ℕ) (l last : FieldId) (f : Gave x a st n l) → Gave (k a f.next) b f.next m last → Gave (and_on x k) b st (n + m) last
gave_on x k a b st n m l last f g =
    record {
      next = g.next;
      is = ap (λ (y : Took _). and_on y k) f.is ∙ g.is;
      kept = kept_then st f.next g.next n m f.kept g.kept;
      ends = g.ends;
      free = g.free;
    }

-- where the second keeps the last id
gave_both : {A B : Type 0} (x : Took A) (k : A → State → Took B) (a : A) (b : B) (st : State) (n m : ℕ) (last : FieldId) (f : Gave x a st n last) → Gave (k a f.next) b f.next m f.next.last → Gave (and_on x k) b st (n + m) last
gave_both x k a b st n m last f g = gave_on x k a b st n m last last f (record { next = g.next; is = g.is; kept = g.kept; ends = g.ends ∙ f.ends; free = g.free })

-- the fields of a struct, up to the stop: the last id is some id
pub record Walked (x : Took Fields) (fs : Fields) (st : State) (n : ℕ) : Type 0 where
  pub last : FieldId
  pub gave : Gave x fs st n last

-- a reader that stands in `depth` structs of this input, under these limits, with nothing pending, in a message that has to end at the cut
pub record Ready (s : List ℕ) (cut : ℕ) (lim : TConfiguration) (depth : ℕ) (st : State) : Type 0 where
  pub lims : st.limits ≡ lim
  pub deep : st.depth ≡ depth
  pub ids : length st.ids ≡ 64
  pub free : st.pending.0 ≡ W.Nothing
  pub cuts : cut_of st ≡ cut
  pub after : st.begin.0 ≤ st.place.0
  pub here : st.place.0 ≤ length (take cut s)

-- the bytes at a place: the first of two parts, and the second behind it
at_first : (s h b rest : List ℕ) (at : ℕ) → drop at s ≡ (h ++ b) ++ rest → drop at s ≡ h ++ (b ++ rest)
at_first s h b rest at e = e ∙ append_assoc h b rest

at_second : (s h b rest : List ℕ) (at to : ℕ) → drop at s ≡ (h ++ b) ++ rest → to ≡ at + length h → drop to s ≡ b ++ rest
at_second s h b rest at to e q =
    ap (λ (n : ℕ). drop n s) q
    ∙ sym (drop-drop (length h) at s)
    ∙ ap (drop (length h)) (at_first s h b rest at e)
    ∙ drop-append_seam h (b ++ rest)

-- they lie in the input
at_inside : (s bs rest : List ℕ) (at : ℕ) → at ≤ length s → drop at s ≡ bs ++ rest → at + length bs ≤ length s
at_inside s bs rest at h e = omega (arith, length-drop at s, ap length e, length-append bs rest)

module _ (s : List ℕ) (cut : ℕ) (lim : TConfiguration) (ok : in_range lim ≡ true) where
  -- the input up to the cut
  abbrev near : List ℕ
  near = take cut s

  near_long : length near ≤ length s
  near_long = omega (arith, length-take cut s)

  near_cut : length near ≤ cut
  near_cut = omega (arith, length-take cut s)

  pub ready_on : (depth n : ℕ) (a b : State) → Ready s cut lim depth a → Kept a b n → b.pending.0 ≡ W.Nothing → a.place.0 + n ≤ length near → Ready s cut lim depth b
  ready_on depth n a b r k f h =
      record {
        lims = k.lims ∙ r.lims;
        deep = k.deep ∙ r.deep;
        ids = k.long ∙ r.ids;
        free = f;
        cuts = kept.kept_cut (stand a) (stand b) n k ∙ r.cuts;
        after = omega (arith, k.there, k.begins, r.after);
        here = omega (arith, k.there);
      }

  -- such a state is sound
  pub is_fine : (depth : ℕ) (st : State) → Ready s cut lim depth st → depth ≤ lim.depth → sound (length s) st ≡ true
  is_fine depth st r d =
      sound_is (length s) st
      (record { limits = rw r.lims ok; here = omega (arith, r.here, near_long); deep = rw (r.lims, r.deep) d; after = r.after; before = omega (arith, r.here, r.cuts, near_cut) })

  pub is_free : (depth : ℕ) (st : State) → Ready s cut lim depth st → busy st ≡ false
  is_free depth st r = ap waits r.free

  kept_place : (st : State) (n : ℕ) → Kept st (moved_to st (place (st.place.0 + n))) n
  kept_place st n = record { there = refl; begins = refl; deep = refl; lims = refl; long = refl; below = λ i h. refl }

  -- what stands at a state's place, spelt by bytes that are read whole
  stands : {A : Type 0} (p : Reader A) → Lawful p → (a : A) (bs rest : List ℕ) (st : State) → Whole p a bs → drop st.place.0 near ≡ bs ++ rest → read_at p near st.place.0 ≡ got a (st.place.0 + length bs)
  unfolding read_at
  stands p lp a bs rest st w e = ap (λ (l : List ℕ). placed st.place.0 (p l)) e ∙ ap (placed st.place.0) (whole_front p lp bs a w rest)

  -- what is found before the cut is what a call up to the state's own cut finds
  pub found_to : {A : Type 0} (p : Reader A) (x : Found A) (st : State) → cut_of st ≡ cut → read_at p near st.place.0 ≡ x → read_to p s (cut_of st) st.place.0 ≡ missed (ltb cut (length s)) x
  unfolding read_to
  found_to p x st q f = ap (λ (n : ℕ). missed (ltb n (length s)) (read_at p (take n s) st.place.0)) q ∙ ap (missed (ltb cut (length s))) f

  -- a call that moves the place alone
  module _ (depth : ℕ) (st : State) (r : Ready s cut lim depth st) (d : depth ≤ lim.depth) where
    called_at : {A B : Type 0} (p : State → Reader A) (out : Outcome A → Took B) (a : A) (b : B) (n : ℕ) → ((next : State) → out (answers a next) ≡ took b next) → read_at (p st) near st.place.0 ≡ got a (st.place.0 + n) → Gave (out (calls p stays s st)) b st n st.last
    called_at p out a b n q w =
        record {
          next = moved_to st (place (st.place.0 + n));
          is = ap out (read_well cut_of p stays s st (is_fine depth st r d) (is_free depth st r) a (st.place.0 + n) (found_to (p st) _ st r.cuts w)) ∙ q _;
          kept = kept_place st n;
          ends = refl;
          free = r.free;
        }

    called : {A B : Type 0} (p : State → Reader A) → Lawful (p st) → (out : Outcome A → Took B) (a : A) (b : B) (bs rest : List ℕ) → ((next : State) → out (answers a next) ≡ took b next) → Whole (p st) a bs → drop st.place.0 near ≡ bs ++ rest → Gave (out (calls p stays s st)) b st (length bs) st.last
    called p lp out a b bs rest q w e = called_at p out a b (length bs) q (stands (p st) lp a bs rest st w e)

    int8_gave : (z : ℤ) (bs rest : List ℕ) → Whole int8 z bs → drop st.place.0 near ≡ bs ++ rest → Gave (an_i8 s st) z st (length bs) st.last
    unfolding read_i8
    int8_gave z bs rest w e = called (λ x. int8) int8_lawful (λ o. of_i8 (as_i8 o).answer (as_i8 o).state) z z bs rest (λ n. refl) w e

    int16_gave : (z : ℤ) (bs rest : List ℕ) → Whole int16 z bs → drop st.place.0 near ≡ bs ++ rest → Gave (an_i16 s st) z st (length bs) st.last
    unfolding read_i16
    int16_gave z bs rest w e = called (λ x. int16) int16_lawful (λ o. of_i16 (as_i16 o).answer (as_i16 o).state) z z bs rest (λ n. refl) w e

    int32_gave : (z : ℤ) (bs rest : List ℕ) → Whole int32 z bs → drop st.place.0 near ≡ bs ++ rest → Gave (an_i32 s st) z st (length bs) st.last
    unfolding read_i32
    int32_gave z bs rest w e = called (λ x. int32) int32_lawful (λ o. of_i32 (as_i32 o).answer (as_i32 o).state) z z bs rest (λ n. refl) w e

    int64_gave : (z : ℤ) (bs rest : List ℕ) → Whole int64 z bs → drop st.place.0 near ≡ bs ++ rest → Gave (an_i64 s st) z st (length bs) st.last
    unfolding read_i64
    int64_gave z bs rest w e = called (λ x. int64) int64_lawful (λ o. of_i64 (as_i64 o).answer (as_i64 o).state) z z bs rest (λ n. refl) w e

    double_gave : (n : ℕ) (bs rest : List ℕ) → Whole double n bs → drop st.place.0 near ≡ bs ++ rest → Gave (a_double s st) n st (length bs) st.last
    unfolding read_double
    double_gave n bs rest w e = called (λ x. double) double_lawful (λ o. of_double (as_double o).answer (as_double o).state) n n bs rest (λ n. refl) w e

    uuid_gave : (u bs rest : List ℕ) → Whole uuid u bs → drop st.place.0 near ≡ bs ++ rest → Gave (a_uuid s st) u st (length bs) st.last
    unfolding read_uuid
    uuid_gave u bs rest w e =
        called (λ x. uuid) uuid_lawful (λ o. of_part (uuid_part s st) (as_part o).answer (as_part o).state) u u bs rest
        (λ n. ap (λ (l : List ℕ). took l n) (uuid_handed s st (is_fine depth st r d) (is_free depth st r) u _ (found_to uuid _ st r.cuts (stands uuid uuid_lawful u bs rest st w e)))) w e

    -- under the state's own limits
    pub there : {A : Type 0} (p : TConfiguration → Reader A) (a : A) (bs : List ℕ) → Whole (p lim) a bs → Whole (p st.limits) a bs
    there p a bs w = rw r.lims w

    -- UTF-8, where a string is read as such
    text_whole : (l : TConfiguration) (cs bs : List ℕ) → utf8 cs ≡ true → Whole (binary l) cs bs → Whole (text l) cs bs
    unfolding text provided done
    text_whole l cs bs u w = then_got (binary l) _ bs cs (length bs) cs 0 w (rw u) ∙ ap (got cs) (add-zero (length bs))

    string_gave : (form : Form) (cs bs rest : List ℕ) → Fits form cs → Whole (binary lim) cs bs → drop st.place.0 near ≡ bs ++ rest → Gave (a_string form s st) cs st (length bs) st.last
    unfolding read_bytes read_string
    string_gave binaries cs bs rest u w e =
        called (λ x. binary x.limits) (binary_lawful st.limits) (λ o. of_part (bytes_part s st) (as_part o).answer (as_part o).state) cs cs bs rest
        (λ n. ap (λ (l : List ℕ). took l n) (bytes_handed s st (is_fine depth st r d) (is_free depth st r) cs _ (found_to (binary st.limits) _ st r.cuts (stands (binary st.limits) (binary_lawful st.limits) cs bs rest st (there binary cs bs w) e)))) (there binary cs bs w) e
    string_gave strings cs bs rest u w e =
        let v = there text cs bs (text_whole lim cs bs u w) in
        called (λ x. text x.limits) (text_lawful st.limits) (λ o. of_part (string_part s st) (as_part o).answer (as_part o).state) cs cs bs rest
        (λ n. ap (λ (l : List ℕ). took l n) (string_handed s st (is_fine depth st r d) (is_free depth st r) cs _ (found_to (text st.limits) _ st r.cuts (stands (text st.limits) (text_lawful st.limits) cs bs rest st v e)))) v e

    pub list_gave : (t : TType) (n : ℕ) (bs rest : List ℕ) → Whole (items lim) (t, n) bs → n * least_size t ≤ length rest → drop st.place.0 near ≡ bs ++ rest → Gave (a_list s st) (t, n) st (length bs) st.last
    unfolding read_list read_at
    list_gave t n bs rest w l e =
        called_at (λ x. items_head x.limits) (λ o. of_list (as_list o).answer (as_list o).state) (t, n) (t, n) (length bs) (λ n. refl)
        (ap (λ (cs : List ℕ). placed st.place.0 (items_head st.limits cs)) e
        ∙ ap (placed st.place.0) (items_head_lem st.limits (bs ++ rest) t n (length bs) (whole_front (items st.limits) (items_lawful st.limits) bs (t, n) (there items (t, n) bs w) rest) (rw (drop-append_seam bs rest) l)))

    -- "List, set": one header
    pub set_is : a_set s st ≡ a_list s st
    unfolding read_list read_set
    set_is = refl

    pub set_gave : (t : TType) (n : ℕ) (bs rest : List ℕ) → Whole (items lim) (t, n) bs → n * least_size t ≤ length rest → drop st.place.0 near ≡ bs ++ rest → Gave (a_set s st) (t, n) st (length bs) st.last
    set_gave t n bs rest w l e = subst (λ (x : Took (TType × ℕ)). Gave x (t, n) st (length bs) st.last) (sym set_is) (list_gave t n bs rest w l e)

    pub map_gave : (k v : TType) (n : ℕ) (bs rest : List ℕ) → Whole (pairs lim) (k, v, n) bs → n * least_size k + n * least_size v ≤ length rest → drop st.place.0 near ≡ bs ++ rest → Gave (a_map s st) (k, v, n) st (length bs) st.last
    unfolding read_map read_at
    map_gave k v n bs rest w l e =
        called_at (λ x. pairs_head x.limits) (λ o. of_map (as_map o).answer (as_map o).state) (k, v, n) (k, v, n) (length bs) (λ n. refl)
        (ap (λ (cs : List ℕ). placed st.place.0 (pairs_head st.limits cs)) e
        ∙ ap (placed st.place.0) (pairs_head_lem st.limits (bs ++ rest) k v n (length bs) (whole_front (pairs st.limits) (pairs_lawful st.limits) bs (k, v, n) (there pairs (k, v, n) bs w) rest) (rw (drop-append_seam bs rest) l)))

    -- an element's bool
    bool_gave : (b : Bool) (bs rest : List ℕ) → Whole truth b bs → drop st.place.0 near ≡ bs ++ rest → Gave (a_bool s st) b st (length bs) st.last
    unfolding read_bool bools element
    bool_gave b bs rest w e =
        record {
          next = moved_to st (place (st.place.0 + length bs));
          is = rw (is_fine depth st r d, r.free, found_to truth _ st r.cuts (stands truth truth_lawful b bs rest st w e));
          kept = kept_place st (length bs);
          ends = refl;
          free = r.free;
        }

    -- a field's header
    header : (x : Field) (h rest : List ℕ) → Whole (field st.last.0) x h → drop st.place.0 near ≡ h ++ rest → read_field s st ≡ as_field (answers x (moved_to (on_field st x) (place (st.place.0 + length h))))
    unfolding read_field
    header x h rest w e =
        ap as_field
        (read_well cut_of (λ y. field y.last.0) on_field s st (is_fine depth st r d) (is_free depth st r) x (st.place.0 + length h)
        (found_to (field st.last.0) _ st r.cuts (stands (field st.last.0) (field_lawful st.last.0) x h rest st w e)))

    -- behind the header of a field, whose value may still stand in it
    abbrev pub behind : ℤ → Awaited → ℕ → State
    behind id x n = moved_to (with_pending (with_last st (id_of id)) x) (place (st.place.0 + n))

    kept_header : (id : ℤ) (x : Awaited) (n : ℕ) → Kept st (behind id x n) n
    kept_header id x n = record { there = refl; begins = refl; deep = refl; lims = refl; long = refl; below = λ i h. refl }

    pub ready_header : (id : ℤ) (n : ℕ) → st.place.0 + n ≤ length near → Ready s cut lim depth (behind id W.Nothing n)
    ready_header id n h = ready_on depth n st (behind id W.Nothing n) r (kept_header id W.Nothing n) refl h

    -- the bool call hands out what stood in the header
    pub taken_bool : (id : ℤ) (b : Bool) (n : ℕ) → st.place.0 + n ≤ length near → a_bool s (behind id (W.Truth b) n) ≡ took b (behind id W.Nothing n)
    unfolding read_bool bools
    taken_bool id b n h =
        let f : sound (length s) (behind id (W.Truth b) n) ≡ true = sound_is (length s) (behind id (W.Truth b) n) (record { limits = rw r.lims ok; here = omega (arith, near_long); deep = rw (r.lims, r.deep) d; after = omega (arith, r.after); before = omega (arith, r.cuts, near_cut) }) in
        rw f

    pub headed_is : (id : ℤ) (n : ℕ) → moved_to (with_last st (id_of id)) (place (st.place.0 + n)) ≡ behind id W.Nothing n
    headed_is id n = ap (λ (x : Awaited). moved_to (with_pending (with_last st (id_of id)) x) (place (st.place.0 + n))) r.free

    -- the fields from here on
    module _ (inner : TType → Plan → State → Took Tree) (plan : Plan) (go : State → Took Fields) where
      abbrev fields_here : Took Fields
      fields_here = behind_header inner plan go (read_field s st).answer (read_field s st).state

      stop_gave : (h rest : List ℕ) → Whole (field st.last.0) stop h → drop st.place.0 near ≡ h ++ rest → Walked fields_here no_fields st (length h)
      stop_gave h rest w e =
          record {
            last = st.last;
            gave =
                record {
                  next = moved_to st (place (st.place.0 + length h));
                  is = ap (λ (x : ReadField). behind_header inner plan go x.answer x.state) (header stop h rest w e);
                  kept = kept_place st (length h);
                  ends = refl;
                  free = r.free;
                };
          }

      -- a field's value, from the state behind the header on, and then the fields behind it
      value_gave : (ty : TType) (id : ℤ) (t : Tree) (fs : Fields) (h : List ℕ) (n m : ℕ) (rest : List ℕ) → Whole (field st.last.0) (value ty id) h → drop st.place.0 near ≡ h ++ rest → (v : Gave (inner ty (under plan id) (behind id W.Nothing (length h))) t (behind id W.Nothing (length h)) n (id_of id)) → Walked (go v.next) fs v.next m → Walked fields_here (val.field id t fs) st (length h + (n + m))
      value_gave ty id t fs h n m rest w e v g =
          let mid : State = behind id W.Nothing (length h) in
          let f = gave_on (inner ty (under plan id) mid) (λ u to. made (val.field id u) (go to)) t (val.field id t fs) mid n m (id_of id) g.last v (gave_made (val.field id t) (go v.next) fs v.next m g.last g.gave) in
          record {
            last = g.last;
            gave =
                record {
                  next = f.next;
                  is =
                      ap (λ (x : ReadField). behind_header inner plan go x.answer x.state) (header (value ty id) h rest w e)
                      ∙ ap (λ (x : State). behind_header inner plan go (F.Field ty (id_of id)) x) (headed_is id (length h))
                      ∙ f.is;
                  kept = kept_then st mid f.next (length h) (n + m) (kept_header id W.Nothing (length h)) f.kept;
                  ends = f.ends;
                  free = f.free;
                };
          }

      -- a bool field, whose value stood in its header
      truth_gave : (b : Bool) (id : ℤ) (fs : Fields) (h : List ℕ) (m : ℕ) (rest : List ℕ) → Whole (field st.last.0) (bool b id) h → drop st.place.0 near ≡ h ++ rest → ((x : State) → inner T.Bool (under plan id) x ≡ made val.truth (a_bool s x)) → Walked (go (behind id W.Nothing (length h))) fs (behind id W.Nothing (length h)) m → Walked fields_here (val.field id (val.truth b) fs) st (length h + m)
      truth_gave b id fs h m rest w e q g =
          let mid : State = behind id W.Nothing (length h) in
          let waiting : State = behind id (W.Truth b) (length h) in
          let f = gave_made (val.field id (val.truth b)) (go mid) fs mid m g.last g.gave in
          record {
            last = g.last;
            gave =
                record {
                  next = f.next;
                  is =
                      ap (λ (x : ReadField). behind_header inner plan go x.answer x.state) (header (bool b id) h rest w e)
                      ∙ ap (λ (x : Took Tree). and_on x (λ u to. made (val.field id u) (go to))) (q waiting ∙ ap (made val.truth) (taken_bool id b (length h) (at_inside near h rest st.place.0 r.here e)))
                      ∙ f.is;
                  kept = kept_then st mid f.next (length h) m (kept_header id W.Nothing (length h)) f.kept;
                  ends = f.ends;
                  free = f.free;
                };
          }

    -- a struct: begin, its fields and the stop, end
    module _ (d1 : depth < lim.depth) where
      pub begin_is : a_begin s st ≡ took tt (entered st)
      unfolding struct_begin begins
      begin_is =
          let g = gate_free (length s) st (is_fine depth st r d) (is_free depth st r) in
          rw (eq-eqb (gate (length s) st) 0 g, lt-leb st.limits.depth st.depth (rw (r.lims, r.deep) d1))

      pub ready_in : Ready s cut lim (suc depth) (entered st)
      ready_in = record { lims = r.lims; deep = omega (arith, r.deep); ids = length-set st.ids st.depth st.last.0 ∙ r.ids; free = r.free; cuts = r.cuts; after = r.after; here = r.here }

      module _ (x : State → Took Fields) (fs : Fields) (n : ℕ) (g : Walked (x (entered st)) fs (entered st) n) (h : st.place.0 + n ≤ length near) where
        abbrev last_in_lem : State
        last_in_lem = g.gave.next

        ready_out : Ready s cut lim (suc depth) last_in_lem
        ready_out = ready_on (suc depth) n (entered st) last_in_lem ready_in g.gave.kept g.gave.free h

        one_down : last_in_lem.depth ≡ st.depth + 1
        one_down = g.gave.kept.deep

        end_is : an_end s last_in_lem ≡ took tt (left last_in_lem)
        unfolding struct_end ends
        end_is =
            let q = gate_free (length s) last_in_lem (is_fine (suc depth) last_in_lem ready_out (omega arith)) (is_free (suc depth) last_in_lem ready_out) in
            rw (eq-eqb (gate (length s) last_in_lem) 0 q, ne_eqb last_in_lem.depth 0 (λ e. omega (arith, one_down)))

        room_for_id : st.depth < length st.ids
        room_for_id = rw (r.ids, r.deep) (omega (arith, (ranged lim ok).deep))

        struct_gave : Gave (and_on (a_begin s st) (λ u to. and_on (x to) (λ fs on. made (λ w. val.struct fs) (an_end s on)))) (val.struct fs) st n st.last
        struct_gave =
            record {
              next = left last_in_lem;
              is =
                  ap (λ (y : Took (Unit {0})). and_on y (λ u to. and_on (x to) (λ fs on. made (λ w. val.struct fs) (an_end s on)))) begin_is
                  ∙ ap (λ (y : Took Fields). and_on y (λ fs on. made (λ w. val.struct fs) (an_end s on))) g.gave.is
                  ∙ ap (made (λ (w : Unit {0}). val.struct fs)) end_is;
              kept = kept.struct_kept (stand st) (stand last_in_lem) st.last.0 n room_for_id g.gave.kept;
              ends = ap id_of (kept.saved (stand st) (stand last_in_lem) st.last.0 n room_for_id g.gave.kept);
              free = g.gave.free;
            }

  -- a message's header with its name: "Beginning a message starts the count at its first byte", and "Reading it sets the last field id to 0"
  pub message_gave : (depth : ℕ) (st : State) → sound (length s) st ≡ true → Ready s cut lim depth (begun_here st) → depth ≤ lim.depth → (m : Message) (bs rest : List ℕ) → Whole (message lim) m bs → drop st.place.0 near ≡ bs ++ rest → Gave (a_message s st) m (begun_here st) (length bs) (id_of (pos 0))
  unfolding read_message
  message_gave depth st f r d m bs rest w e =
      let p = message st.limits in
      let free = is_free depth (begun_here st) r in
      let a = found_to p _ (begun_here st) r.cuts (stands p (message_lawful st.limits) m bs rest st (there depth (begun_here st) r d message m bs w) e) in
      record {
        next = moved_to (anew st m) (place (st.place.0 + length bs));
        is =
            ap (λ (o : Outcome Message). of_message (name_part s st) (as_message o).answer (as_message o).state) (read_well cut_here (λ x. message x.limits) anew s st f free m (st.place.0 + length bs) a)
            ∙ ap (λ (l : List ℕ). took (m.0, m.1, l) (moved_to (anew st m) (place (st.place.0 + length bs)))) (name_handed s st f free m (st.place.0 + length bs) a);
        kept = record { there = refl; begins = refl; deep = refl; lims = refl; long = refl; below = λ i h. refl };
        ends = refl;
        free = r.free;
      }

  -- a leaf's type, with any number of levels
  at_type : {A : Type 0} (p : TType → Plan → State → Took A) (plan : Plan) (ty t : TType) (a : A) (st : State) (n : ℕ) (last : FieldId) → ty ≡ t → Gave (p t plan st) a st n last → Gave (p ty plan st) a st n last
  at_type p plan ty t a st n last e g = subst (λ (u : TType). Gave (p u plan st) a st n last) (sym e) g

  -- a container, with a level for it
  deeper : (levels : ℕ) → 0 < levels → holders s levels ≡ holding s (read_levels s (levels - 1))
  unfolding holders read_levels
  deeper levels h = let e : levels ≡ suc (levels - 1) = omega arith in ap (holders s) e

  held : (levels : ℕ) (plan : Plan) (ty t : TType) (a : Tree) (st : State) (n : ℕ) (last : FieldId) → ty ≡ t → 0 < levels → Gave (by_type s (holding s (read_levels s (levels - 1))) t plan st) a st n last → Gave (read_levels s levels ty plan st) a st n last
  unfolding read_levels
  held levels plan ty t a st n last e h g =
      at_type (read_levels s levels) plan ty t a st n last e (subst (λ (b : Holders). Gave (by_type s b t plan st) a st n last) (sym (deeper levels h)) g)

  -- one part and then the next, which keeps the last id
  step_on : {A B : Type 0} (depth : ℕ) (st : State) (last : FieldId) (x : Took A) (k : A → State → Took B) (a : A) (b : B) (h c bs rest : List ℕ) → bs ≡ h ++ c → Ready s cut lim depth st → drop st.place.0 near ≡ bs ++ rest → (drop st.place.0 near ≡ h ++ (c ++ rest) → Gave x a st (length h) last) → ((n : State) → Ready s cut lim depth n → drop n.place.0 near ≡ c ++ rest → Gave (k a n) b n (length c) n.last) → Gave (and_on x k) b st (length bs) last
  step_on depth st last x k a b h c bs rest q r e first second =
      let e2 : drop st.place.0 near ≡ (h ++ c) ++ rest = e ∙ ap (λ (l : List ℕ). l ++ rest) q in
      let f = first (at_first near h c rest st.place.0 e2) in
      let in-s = at_inside near h (c ++ rest) st.place.0 r.here (at_first near h c rest st.place.0 e2) in
      let g = second f.next (ready_on depth (length h) st f.next r f.kept f.free in-s) (at_second near h c rest st.place.0 f.next.place.0 e2 f.kept.there) in
      subst (λ (n : ℕ). Gave (and_on x k) b st n last) (sym (length-append h c) ∙ ap length (sym q)) (gave_both x k a b st (length h) (length c) last f g)

  -- no byte
  nothing_gave : {A : Type 0} (depth : ℕ) (a : A) (st : State) (bs : List ℕ) → Ready s cut lim depth st → bs ≡ [] → Gave (took a st) a st (length bs) st.last
  nothing_gave depth a st bs r q =
      let z : length bs ≡ 0 = ap length q in
      record { next = st; is = refl; kept = record { there = omega arith; begins = refl; deep = refl; lims = refl; long = refl; below = λ i h. refl }; ends = refl; free = r.free }

  -- behind a part that has a byte there are fewer
  fewer : (h c bs : List ℕ) (n : ℕ) → bs ≡ h ++ c → 0 < length h → length bs ≤ n → (0 < n) × (length c ≤ n - 1)
  fewer h c bs n q p l = let e = ap length q ∙ length-append h c in (omega arith, omega arith)

  no_longer : (h c bs : List ℕ) (n : ℕ) → bs ≡ h ++ c → length bs ≤ n → (length h ≤ n) × (length c ≤ n)
  no_longer h c bs n q l = let e = ap length q ∙ length-append h c in (omega arith, omega arith)

  -- one header and what it says to do
  one_more : (inner : TType → Plan → State → Took Tree) (plan : Plan) (k : ℕ) (fs : Fields) (st : State) (n : ℕ) → 0 < k → Walked (behind_header inner plan (read_fields s inner plan (k - 1)) (read_field s st).answer (read_field s st).state) fs st n → Walked (read_fields s inner plan k st) fs st n
  unfolding read_fields
  one_more inner plan k fs st n h g = let e : suc (k - 1) ≡ k = omega arith in subst (λ (j : ℕ). Walked (read_fields s inner plan j st) fs st n) e g

  module _ (inner : TType → Plan → State → Took Tree) (plan : Plan) (go : State → Took Fields) (depth : ℕ) (st : State) (r : Ready s cut lim depth st) (d : depth ≤ lim.depth) (last id : ℤ) (lst : st.last.0 ≡ last) (t : Tree) (fs : Fields) (h a b bs rest : List ℕ) (q : bs ≡ h ++ (a ++ b)) (e : drop st.place.0 near ≡ bs ++ rest) (on : (n : State) → Ready s cut lim depth n → n.last.0 ≡ id → drop n.place.0 near ≡ b ++ rest → Walked (go n) fs n (length b)) where
    abbrev here_fields : Took Fields
    here_fields = behind_header inner plan go (read_field s st).answer (read_field s st).state

    split : drop st.place.0 near ≡ (h ++ (a ++ b)) ++ rest
    split = e ∙ ap (λ (l : List ℕ). l ++ rest) q

    head_first : drop st.place.0 near ≡ h ++ ((a ++ b) ++ rest)
    head_first = at_first near h (a ++ b) rest st.place.0 split

    head_inside : st.place.0 + length h ≤ length near
    head_inside = at_inside near h ((a ++ b) ++ rest) st.place.0 r.here head_first

    all_long : length h + (length a + length b) ≡ length bs
    all_long = omega (arith, ap length q, length-append h (a ++ b), length-append a b)

    in_header_lem : (x : Bool) → t ≡ val.truth x → Whole (field last) (bool x id) h → a ≡ [] → ((y : State) → inner T.Bool (under plan id) y ≡ made val.truth (a_bool s y)) → Walked here_fields (val.field id t fs) st (length bs)
    in_header_lem x tx w n ib =
        let z : length a ≡ 0 = ap length n in
        let c : a ++ b ≡ b = ap (λ (l : List ℕ). l ++ b) n in
        let mid : State = behind depth st r d id W.Nothing (length h) in
        let at_b = at_second near h (a ++ b) rest st.place.0 (st.place.0 + length h) split refl ∙ ap (λ (l : List ℕ). l ++ rest) c in
        let g = on mid (ready_header depth st r d id (length h) head_inside) refl at_b in
        subst (λ (u : Tree). Walked here_fields (val.field id u fs) st (length bs)) (sym tx)
        (subst (λ (k : ℕ). Walked here_fields (val.field id (val.truth x) fs) st k) (omega (arith, all_long))
        (truth_gave depth st r d inner plan go x id fs h (length b) ((a ++ b) ++ rest) (rw lst w) head_first ib g))

    behind_header_lem : (ty : TType) → Whole (field last) (value ty id) h → ((n : State) → Ready s cut lim depth n → drop n.place.0 near ≡ a ++ (b ++ rest) → Gave (inner ty (under plan id) n) t n (length a) n.last) → Walked here_fields (val.field id t fs) st (length bs)
    behind_header_lem ty w val-here =
        let mid : State = behind depth st r d id W.Nothing (length h) in
        let rm = ready_header depth st r d id (length h) head_inside in
        let at-ab = at_second near h (a ++ b) rest st.place.0 (st.place.0 + length h) split refl in
        let at_a = at_first near a b rest mid.place.0 at-ab in
        let v = val-here mid rm at_a in
        let g = on v.next (ready_on depth (length a) mid v.next rm v.kept v.free (at_inside near a (b ++ rest) mid.place.0 rm.here at_a)) (ap (λ (x : FieldId). x.0) v.ends) (at_second near a b rest mid.place.0 v.next.place.0 at-ab v.kept.there) in
        subst (λ (k : ℕ). Walked here_fields (val.field id t fs) st k) all_long
        (value_gave depth st r d inner plan go ty id t fs h (length a) (length b) ((a ++ b) ++ rest) (rw lst w) head_first v g)

  -- a header has a byte
  head_some : (t : Tree) (id last : ℤ) (room : ℕ) (h a : List ℕ) → ((x : Bool) × (t ≡ val.truth x) × Whole (field last) (bool x id) h × (a ≡ [])) ⊎ ((ty : TType) × Whole (field last) (value ty id) h × Spells t lim room ty a) → 0 < length h
  head_some t id last room h a v = ⊎_elim (λ b. field_takes last h (bool b.0 id) (length h) b.2) (λ w. field_takes last h (value w.0 id) (length h) w.1) v

  fields_some : (fs : Fields) (room : ℕ) (last : ℤ) (bs : List ℕ) → SpellsFields fs lim room last bs → 0 < length bs
  unfolding SpellsFields
  fields_some no_fields room last bs sp = field_takes last bs stop (length bs) sp
  fields_some (val.field id t fs) room last bs sp =
      omega (arith, ap length sp.5, length-append sp.0 (sp.1 ++ sp.2), head_some t id last room sp.0 sp.1 sp.3)

  -- by recursion on the tree
  mutual
    unfolding Spells SpellsAll SpellsPairs SpellsFields Texts TextsAll TextsPairs TextsFields read_levels read_all read_pairs size size_p

    pub read_tree : (plan : Plan) (t : Tree) (room levels depth : ℕ) (ty : TType) (bs rest : List ℕ) (st : State) → Spells t lim room ty bs → Texts plan t → Ready s cut lim depth st → depth + room ≤ lim.depth → length bs ≤ levels → drop st.place.0 near ≡ bs ++ rest → Gave (read_levels s levels ty plan st) t st (length bs) st.last
    read_tree plan (val.truth b) room levels depth ty bs rest st sp x r d l e =
        at_type (read_levels s levels) plan ty T.Bool _ st _ _ sp.0 (gave_made val.truth (a_bool s st) b st _ _ (bool_gave depth st r (omega arith) b bs rest sp.1 e))
    read_tree plan (val.i8 z) room levels depth ty bs rest st sp x r d l e =
        at_type (read_levels s levels) plan ty T.I08 _ st _ _ sp.0 (gave_made val.i8 (an_i8 s st) z st _ _ (int8_gave depth st r (omega arith) z bs rest sp.1 e))
    read_tree plan (val.i16 z) room levels depth ty bs rest st sp x r d l e =
        at_type (read_levels s levels) plan ty T.I16 _ st _ _ sp.0 (gave_made val.i16 (an_i16 s st) z st _ _ (int16_gave depth st r (omega arith) z bs rest sp.1 e))
    read_tree plan (val.i32 z) room levels depth ty bs rest st sp x r d l e =
        at_type (read_levels s levels) plan ty T.I32 _ st _ _ sp.0 (gave_made val.i32 (an_i32 s st) z st _ _ (int32_gave depth st r (omega arith) z bs rest sp.1 e))
    read_tree plan (val.i64 z) room levels depth ty bs rest st sp x r d l e =
        at_type (read_levels s levels) plan ty T.I64 _ st _ _ sp.0 (gave_made val.i64 (an_i64 s st) z st _ _ (int64_gave depth st r (omega arith) z bs rest sp.1 e))
    read_tree plan (val.double n) room levels depth ty bs rest st sp x r d l e =
        at_type (read_levels s levels) plan ty T.Double _ st _ _ sp.0 (gave_made val.double (a_double s st) n st _ _ (double_gave depth st r (omega arith) n bs rest sp.1 e))
    read_tree plan (val.uuid u) room levels depth ty bs rest st sp x r d l e =
        at_type (read_levels s levels) plan ty T.Uuid _ st _ _ sp.0 (gave_made val.uuid (a_uuid s st) u st _ _ (uuid_gave depth st r (omega arith) u bs rest sp.1 e))
    read_tree plan (val.bytes cs) room levels depth ty bs rest st sp x r d l e =
        at_type (read_levels s levels) plan ty T.String _ st _ _ sp.0 (gave_made val.bytes (a_string (plan []) s st) cs st _ _ (string_gave depth st r (omega arith) (plan []) cs bs rest x sp.1 e))
    read_tree plan (val.list t ts) room levels depth ty bs rest st sp x r d l e =
        let h : List ℕ = sp.2.0 in
        let b : List ℕ = sp.2.1 in
        let f = fewer h b bs levels sp.2.4 (items_takes lim h (t, size ts) (length h) sp.2.2) l in
        held levels plan ty T.List _ st _ _ sp.0 f.0
        (step_on depth st st.last (a_list s st) _ (t, size ts) (val.list t ts) h b bs rest sp.2.4 r e
        (λ q. list_gave depth st r (omega arith) t (size ts) h (b ++ rest) sp.2.2 (omega (arith, all_least ts lim (room - 1) t b sp.2.3, length-append b rest)) q)
        (λ n rn q. gave_made (val.list t) _ ts n _ _ (read_all_lem plan 0 ts (room - 1) (levels - 1) depth t b rest n sp.2.3 x rn (omega arith) f.1 q)))
    read_tree plan (val.set t ts) room levels depth ty bs rest st sp x r d l e =
        let h : List ℕ = sp.2.0 in
        let b : List ℕ = sp.2.1 in
        let f = fewer h b bs levels sp.2.4 (items_takes lim h (t, size ts) (length h) sp.2.2) l in
        held levels plan ty T.Set _ st _ _ sp.0 f.0
        (step_on depth st st.last (a_set s st) _ (t, size ts) (val.set t ts) h b bs rest sp.2.4 r e
        (λ q. set_gave depth st r (omega arith) t (size ts) h (b ++ rest) sp.2.2 (omega (arith, all_least ts lim (room - 1) t b sp.2.3, length-append b rest)) q)
        (λ n rn q. gave_made (val.set t) _ ts n _ _ (read_all_lem plan 0 ts (room - 1) (levels - 1) depth t b rest n sp.2.3 x rn (omega arith) f.1 q)))
    read_tree plan (val.map k v ps) room levels depth ty bs rest st sp x r d l e =
        let h : List ℕ = sp.2.0 in
        let b : List ℕ = sp.2.1 in
        let f = fewer h b bs levels sp.2.4 (pairs_takes lim h (k, v, size_p ps) (length h) sp.2.2) l in
        held levels plan ty T.Map _ st _ _ sp.0 f.0
        (step_on depth st st.last (a_map s st) _ (k, v, size_p ps) (val.map k v ps) h b bs rest sp.2.4 r e
        (λ q. map_gave depth st r (omega arith) k v (size_p ps) h (b ++ rest) sp.2.2 (omega (arith, pairs_least ps lim (room - 1) k v b sp.2.3, length-append b rest)) q)
        (λ n rn q. gave_made (val.map k v) _ ps n _ _ (read_pairs_lem plan 0 ps (room - 1) (levels - 1) depth k v b rest n sp.2.3 x rn (omega arith) f.1 q)))
    read_tree plan (val.struct fs) room levels depth ty bs rest st sp x r d l e =
        let i = at_inside near bs rest st.place.0 r.here e in
        let m = fields_some fs (room - 1) (pos 0) bs sp.2 in
        let long = near_long in
        held levels plan ty T.Struct _ st _ _ sp.0 (omega arith)
        (struct_gave depth st r (omega arith) (omega (arith, sp.1)) (read_fields s (read_levels s (levels - 1)) plan (suc (length s))) fs (length bs)
        (read_fields_lem plan fs (room - 1) (levels - 1) (suc depth) (suc (length s)) (pos 0) bs rest _ sp.2 x (ready_in depth st r (omega arith) (omega (arith, sp.1))) refl (omega (arith, sp.1)) (omega arith) (omega arith) e)
        i)

    read_all_lem : (plan : Plan) (i : ℕ) (ts : Trees) (room levels depth : ℕ) (ty : TType) (bs rest : List ℕ) (st : State) → SpellsAll ts lim room ty bs → TextsAll plan i ts → Ready s cut lim depth st → depth + room ≤ lim.depth → length bs ≤ levels → drop st.place.0 near ≡ bs ++ rest → Gave (read_all (read_levels s levels ty) plan i (size ts) st) ts st (length bs) st.last
    read_all_lem plan i no_trees room levels depth ty bs rest st sp x r d l e = nothing_gave depth no_trees st bs r sp
    read_all_lem plan i (tree t ts) room levels depth ty bs rest st sp x r d l e =
        let f = no_longer sp.0 sp.1 bs levels sp.4 l in
        step_on depth st st.last (read_levels s levels ty (under plan (pos i)) st) _ t (tree t ts) sp.0 sp.1 bs rest sp.4 r e
        (λ q. read_tree (under plan (pos i)) t room levels depth ty sp.0 (sp.1 ++ rest) st sp.2 x.0 r d f.0 q)
        (λ n rn q. gave_made (tree t) _ ts n _ _ (read_all_lem plan (suc i) ts room levels depth ty sp.1 rest n sp.3 x.1 rn d f.1 q))

    read_pairs_lem : (plan : Plan) (i : ℕ) (ps : Pairs) (room levels depth : ℕ) (k v : TType) (bs rest : List ℕ) (st : State) → SpellsPairs ps lim room k v bs → TextsPairs plan i ps → Ready s cut lim depth st → depth + room ≤ lim.depth → length bs ≤ levels → drop st.place.0 near ≡ bs ++ rest → Gave (read_pairs (read_levels s levels k) (read_levels s levels v) plan i (size_p ps) st) ps st (length bs) st.last
    read_pairs_lem plan i no_pairs room levels depth k v bs rest st sp x r d l e = nothing_gave depth no_pairs st bs r sp
    read_pairs_lem plan i (pair t u ps) room levels depth k v bs rest st sp x r d l e =
        let f = no_longer sp.0 (sp.1 ++ sp.2) bs levels sp.6 l in
        let g = no_longer sp.1 sp.2 (sp.1 ++ sp.2) levels refl f.1 in
        step_on depth st st.last (read_levels s levels k (key_under plan i) st) _ t (pair t u ps) sp.0 (sp.1 ++ sp.2) bs rest sp.6 r e
        (λ q. read_tree (key_under plan i) t room levels depth k sp.0 ((sp.1 ++ sp.2) ++ rest) st sp.3 x.0 r d f.0 q)
        (λ n rn q.
        step_on depth n n.last (read_levels s levels v (value_under plan i) n) _ u (pair t u ps) sp.1 sp.2 (sp.1 ++ sp.2) rest refl rn q
        (λ p. read_tree (value_under plan i) u room levels depth v sp.1 (sp.2 ++ rest) n sp.4 x.1 rn d g.0 p)
        (λ m rm p. gave_made (pair t u) _ ps m _ _ (read_pairs_lem plan (suc i) ps room levels depth k v sp.2 rest m sp.5 x.2 rm d g.1 p)))

    read_fields_lem : (plan : Plan) (fs : Fields) (room levels depth k : ℕ) (last : ℤ) (bs rest : List ℕ) (st : State) → SpellsFields fs lim room last bs → TextsFields plan fs → Ready s cut lim depth st → st.last.0 ≡ last → depth + room ≤ lim.depth → length bs ≤ suc levels → length bs ≤ k → drop st.place.0 near ≡ bs ++ rest → Walked (read_fields s (read_levels s levels) plan k st) fs st (length bs)
    read_fields_lem plan no_fields room levels depth k last bs rest st sp x r lst d l lk e =
        one_more (read_levels s levels) plan k no_fields st _ (omega (arith, field_takes last bs stop (length bs) sp))
        (stop_gave depth st r (omega arith) (read_levels s levels) plan _ bs rest (rw lst sp) e)
    read_fields_lem plan (val.field id t fs) room levels depth k last bs rest st sp x r lst d l lk e =
        let h : List ℕ = sp.0 in
        let a : List ℕ = sp.1 in
        let b : List ℕ = sp.2 in
        let hs = head_some t id last room h a sp.3 in
        let lv = fewer h (a ++ b) bs (suc levels) sp.5 hs l in
        let lf = fewer h (a ++ b) bs k sp.5 hs lk in
        let ab = length-append a b in
        let on : (n : State) → Ready s cut lim depth n → n.last.0 ≡ id → drop n.place.0 near ≡ b ++ rest → Walked (read_fields s (read_levels s levels) plan (k - 1) n) fs n (length b) = λ n rn ln q. read_fields_lem plan fs room levels depth (k - 1) id b rest n sp.4 x.1 rn ln d (omega arith) (omega arith) q in
        one_more (read_levels s levels) plan k (val.field id t fs) st _ lf.0
        (⊎_elim
        (λ v. in_header_lem (read_levels s levels) plan _ depth st r (omega arith) last id lst t fs h a b bs rest sp.5 e on v.0 v.1 v.2 v.3 (λ y. refl))
        (λ v. behind_header_lem (read_levels s levels) plan _ depth st r (omega arith) last id lst t fs h a b bs rest sp.5 e on v.0 v.1
        (λ n rn q. read_tree (under plan id) t room levels depth v.0 a (b ++ rest) n v.2 x.0 rn d (omega arith) q))
        sp.3)

  -- a value with as many levels as there can be
  pub read_of_lem : (plan : Plan) (t : Tree) (room depth : ℕ) (ty : TType) (bs rest : List ℕ) (st : State) → Spells t lim room ty bs → Texts plan t → Ready s cut lim depth st → depth + room ≤ lim.depth → drop st.place.0 near ≡ bs ++ rest → Gave (read_of s ty plan st) t st (length bs) st.last
  unfolding read_of
  read_of_lem plan t room depth ty bs rest st sp x r d e =
      read_tree plan t room (suc (length s)) depth ty bs rest st sp x r d (omega (arith, at_inside near bs rest st.place.0 r.here e, near_long)) e

  -- a message's header with its name, and then its struct
  pub read_whole_lem : (plan : Plan) (m : Message) (fs : Fields) (room depth : ℕ) (h b bs rest : List ℕ) (st : State) → Whole (message lim) m h → Spells (val.struct fs) lim room T.Struct b → Texts plan (val.struct fs) → bs ≡ h ++ b → sound (length s) st ≡ true → Ready s cut lim depth (begun_here st) → depth + room ≤ lim.depth → drop st.place.0 near ≡ bs ++ rest → Gave (read_whole s plan st) (m.0, m.1, m.2, val.struct fs) (begun_here st) (length bs) (id_of (pos 0))
  unfolding read_whole
  read_whole_lem plan m fs room depth h b bs rest st w sp x q f r d e =
      step_on depth (begun_here st) (id_of (pos 0)) (a_message s st) _ m (m.0, m.1, m.2, val.struct fs) h b bs rest q r e
      (λ p. message_gave depth st f r (omega arith) m h (b ++ rest) w p)
      (λ n rn p. gave_made (λ (t : Tree). (m.0, m.1, m.2, t)) (read_of s T.Struct plan n) (val.struct fs) n (length b) n.last (read_of_lem plan (val.struct fs) room depth T.Struct b rest n sp x rn d p))

-- a reader that is sound and has nothing pending is ready
pub ready : (s : List ℕ) (st : State) → sound (length s) st ≡ true → st.pending.0 ≡ W.Nothing → length st.ids ≡ 64 → Ready s (cut_of st) st.limits st.depth st
ready s st ok free ids =
    let q = is_sound (length s) st ok in
    record { lims = refl; deep = refl; ids = ids; free = free; cuts = refl; after = q.after; here = omega (arith, q.here, q.before, length-take (cut_of st) s) }

-- and for a message that begins where it stands
pub ready_anew : (s : List ℕ) (cut : ℕ) (lim : TConfiguration) (depth : ℕ) (st : State) → Ready s cut lim depth st → Ready s (cut_here st) lim depth (begun_here st)
ready_anew s cut lim depth st r =
    record { lims = r.lims; deep = r.deep; ids = r.ids; free = r.free; cuts = refl; after = omega arith; here = omega (arith, r.here, length-take cut s, length-take (cut_here st) s) }
