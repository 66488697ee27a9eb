-- The bounds of reading by the calls have no say: it is the recursion that its calls ask for, on every input, refused or not. Assumes nothing.
use mathlib.Core.Path.{◌≡◌, refl, sym, ap, subst, ◌∙◌}
use mathlib.Core.Bool.{Bool, true}
use mathlib.Core.List.{List, []}
use Prim.Native.Nat.{ℕ, zero, suc, ◌+◌, ◌≤◌, ◌<◌}
use native.Mathlib.Omega.{arith}
use borrow.Author.Tests.{eq-eqb}
use lib.ListN.{length, take, drop}
use lib.IntN.{ℤ, pos}
use Rattle.types.specs.declared.TType.{TType}
use Rattle.types.specs.declared.TType.TheVariants as T
use Rattle.types.specs.declared.TConfiguration.{TConfiguration}
use Rattle.types.specs.Value as val
use Rattle.types.specs.Value.{Tree, Trees, tree, Pairs, pair, Fields}
use Rattle.types.specs.Refusals.{OUT_OF_TURN, BAD_STATE}
use Rattle.numbers.specs.Varint.{Found, got, refused}
use Rattle.heads.specs.Reader.{Reader, read_to}
use Rattle.heads.specs.Heads.{int8, int16, int32, int64, double, uuid, binary, text, items_head, pairs_head, Field, stop, bool, value, field}
use Rattle.heads.specs.Answers.{place}
use Rattle.heads.proofs.Lawful.{Takes, then_takes}
use Rattle.heads.proofs.Cut.{was_cut}
use Rattle.heads.proofs.Ahead.{Fair, lawful_fair, items_head_fair, items_head_takes, pairs_head_fair, pairs_head_takes}
use Rattle.heads.proofs.Readers.{int8_lawful, int16_lawful, int32_lawful, int64_lawful, double_lawful, uuid_lawful, binary_lawful, text_lawful, field_lawful, int8_takes, int16_takes, int32_takes, int64_takes, double_takes, uuid_takes, binary_takes, field_takes}
use Rattle.input.specs.State.{State, cut_of, sound, gate, moved_to}
use Rattle.input.specs.Outcome.{Outcome, answers, declines, from, calls_to, calls, stays, bools, begins, ends, on_field}
use Rattle.input.specs.Answers.{as_bool, as_i8, as_i16, as_i32, as_i64, as_double, as_part, as_list, as_map, as_field, as_done}
use Rattle.input.specs.Calls.{read_bool, read_i8, read_i16, read_i32, read_i64, read_double, read_uuid, read_bytes, read_string, read_list, read_set, read_map, read_field, struct_begin, struct_end, uuid_part, bytes_part, string_part}
use Rattle.input.specs.declared.FieldAnswer.{FieldAnswer}
use Rattle.input.specs.declared.FieldAnswer.TheVariants as F
use Rattle.input.proofs.Gate.{is_sound, Gated, bad, turn, through, gated}
use Rattle.input.proofs.Laws.{any, Way, unsound, early, lost, well, bool_ways, begin_ways, end_ways}
use Rattle.laws.specs.Text.{Form, binaries, strings, Plan, under, key_under, value_under}
use Rattle.laws.specs.Reading.{Took, took, halted, and_on, made, of_bool, of_i8, of_i16, of_i32, of_i64, of_double, of_part, of_list, of_map, of_done, a_bool, an_i8, an_i16, an_i32, an_i64, a_double, a_uuid, a_string, a_list, a_set, a_map, a_begin, an_end, read_all, read_pairs, behind_header, read_fields, Holders, holding, none, by_type, holders, read_levels, read_of}
use Rattle.laws.proofs.Exact.{no_took, parts, unmade}

text_takes : (lim : TConfiguration) → Takes (text lim)
unfolding text
text_takes lim = then_takes (binary lim) _ (binary_takes lim)

-- the state that was handed back
state_of : {A : Type 0} {a b : A} {x y : State} → took a x ≡ took b y → x ≡ y
state_of e = cc

module _ (s : List ℕ) where
  -- on, and in the input
  abbrev On : State → State → Type 0
  On st next = (st.place.0 ≤ next.place.0) × (next.place.0 ≤ length s)

  abbrev Past : State → State → Type 0
  Past st next = (st.place.0 < next.place.0) × (next.place.0 ≤ length s)

  on : (st next : State) → Past st next → On st next
  on st next p = (omega (arith, p.0), p.1)

  on_then : (a b c : State) → On a b → On b c → On a c
  on_then a b c p q = (omega (arith, p.0, q.0), q.1)

  -- a call that reads goes on by a byte at least, from whatever state
  module _ {A B : Type 0} (p : State → Reader A) (move : State → A → State) (out : Outcome A → Took B) (fair : (st : State) → Fair (p st)) (takes : (st : State) → Takes (p st)) (gone : (why : ℕ) (st : State) → out (declines why st) ≡ halted why) (kept : (a : A) (x : State) (b : B) (next : State) → out (answers a x) ≡ took b next → x ≡ next) where
    reads_past : (st next : State) (b : B) → out (calls p move s st) ≡ took b next → Past st next
    unfolding calls_to
    reads_past st next b e = go (gated (length s) st)
      where
        here : sound (length s) st ≡ true → (x : Found A) → read_to (p st) s (cut_of st) st.place.0 ≡ x → out (from move st x) ≡ took b next → Past st next
        here f (got a n) g h =
            let q = is_sound (length s) st f in
            let k = was_cut (p st) s (cut_of st) st.place.0 a n (fair st) q.before q.here g in
            let there : place n ≡ next.place = ap (λ (y : State). y.place) (kept a (moved_to (move st a) (place n)) b next h) in
            let m : n ≡ next.place.0 = ap (λ y. y.0) there in
            (omega (arith, k.all, takes st (drop st.place.0 (take (cut_of st) s)) a k.used k.read), omega (arith, k.inside))
        here f (refused why) g h = no_took (sym (gone why st) ∙ h)

        go : Gated (length s) st → Past st next
        go (bad f g) = no_took (sym (gone BAD_STATE st) ∙ ap out (rw (g)) ∙ e)
        go (turn f w g) = no_took (sym (gone OUT_OF_TURN st) ∙ ap out (rw (g)) ∙ e)
        go (through f w g) = here f (read_to (p st) s (cut_of st) st.place.0) refl (ap out (rw (eq-eqb (gate (length s) st) 0 g)) ∙ e)

  int8_past : (st next : State) (z : ℤ) → an_i8 s st ≡ took z next → Past st next
  unfolding read_i8
  int8_past st next z e = reads_past (λ x. int8) stays (λ o. of_i8 (as_i8 o).answer (as_i8 o).state) (λ x. lawful_fair _ int8_lawful) (λ x. int8_takes) (λ why x. refl) (λ a x b y f. state_of f) st next z e

  int16_past : (st next : State) (z : ℤ) → an_i16 s st ≡ took z next → Past st next
  unfolding read_i16
  int16_past st next z e = reads_past (λ x. int16) stays (λ o. of_i16 (as_i16 o).answer (as_i16 o).state) (λ x. lawful_fair _ int16_lawful) (λ x. int16_takes) (λ why x. refl) (λ a x b y f. state_of f) st next z e

  int32_past : (st next : State) (z : ℤ) → an_i32 s st ≡ took z next → Past st next
  unfolding read_i32
  int32_past st next z e = reads_past (λ x. int32) stays (λ o. of_i32 (as_i32 o).answer (as_i32 o).state) (λ x. lawful_fair _ int32_lawful) (λ x. int32_takes) (λ why x. refl) (λ a x b y f. state_of f) st next z e

  int64_past : (st next : State) (z : ℤ) → an_i64 s st ≡ took z next → Past st next
  unfolding read_i64
  int64_past st next z e = reads_past (λ x. int64) stays (λ o. of_i64 (as_i64 o).answer (as_i64 o).state) (λ x. lawful_fair _ int64_lawful) (λ x. int64_takes) (λ why x. refl) (λ a x b y f. state_of f) st next z e

  double_past : (st next : State) (n : ℕ) → a_double s st ≡ took n next → Past st next
  unfolding read_double
  double_past st next n e = reads_past (λ x. double) stays (λ o. of_double (as_double o).answer (as_double o).state) (λ x. lawful_fair _ double_lawful) (λ x. double_takes) (λ why x. refl) (λ a x b y f. state_of f) st next n e

  uuid_past : (st next : State) (u : List ℕ) → a_uuid s st ≡ took u next → Past st next
  unfolding read_uuid
  uuid_past st next u e = reads_past (λ x. uuid) stays (λ o. of_part (uuid_part s st) (as_part o).answer (as_part o).state) (λ x. lawful_fair _ uuid_lawful) (λ x. uuid_takes) (λ why x. refl) (λ a x b y f. state_of f) st next u e

  string_past : (form : Form) (st next : State) (cs : List ℕ) → a_string form s st ≡ took cs next → Past st next
  unfolding read_bytes read_string
  string_past binaries st next cs e = reads_past (λ x. binary x.limits) stays (λ o. of_part (bytes_part s st) (as_part o).answer (as_part o).state) (λ x. lawful_fair _ (binary_lawful x.limits)) (λ x. binary_takes x.limits) (λ why x. refl) (λ a x b y f. state_of f) st next cs e
  string_past strings st next cs e = reads_past (λ x. text x.limits) stays (λ o. of_part (string_part s st) (as_part o).answer (as_part o).state) (λ x. lawful_fair _ (text_lawful x.limits)) (λ x. text_takes x.limits) (λ why x. refl) (λ a x b y f. state_of f) st next cs e

  list_past : (st next : State) (h : TType × ℕ) → a_list s st ≡ took h next → Past st next
  unfolding read_list
  list_past st next h e = reads_past (λ x. items_head x.limits) stays (λ o. of_list (as_list o).answer (as_list o).state) (λ x. items_head_fair x.limits) (λ x. items_head_takes x.limits) (λ why x. refl) (λ a x b y f. state_of f) st next h e

  set_past : (st next : State) (h : TType × ℕ) → a_set s st ≡ took h next → Past st next
  unfolding read_set
  set_past st next h e = reads_past (λ x. items_head x.limits) stays (λ o. of_list (as_list o).answer (as_list o).state) (λ x. items_head_fair x.limits) (λ x. items_head_takes x.limits) (λ why x. refl) (λ a x b y f. state_of f) st next h e

  map_past : (st next : State) (h : TType × TType × ℕ) → a_map s st ≡ took h next → Past st next
  unfolding read_map
  map_past st next h e = reads_past (λ x. pairs_head x.limits) stays (λ o. of_map (as_map o).answer (as_map o).state) (λ x. pairs_head_fair x.limits) (λ x. pairs_head_takes x.limits) (λ why x. refl) (λ a x b y f. state_of f) st next h e

  -- a field's header, as an answer with its state
  headed : FieldAnswer → State → Took FieldAnswer
  headed F.Stop st = took F.Stop st
  headed (F.Field t id) st = took (F.Field t id) st
  headed (F.Refused why) st = halted why

  field_past : (st next : State) (x : FieldAnswer) → headed (read_field s st).answer (read_field s st).state ≡ took x next → Past st next
  unfolding read_field headed
  field_past st next x e = reads_past (λ y. field y.last.0) on_field (λ o. headed (as_field o).answer (as_field o).state) (λ y. lawful_fair _ (field_lawful y.last.0)) (λ y. field_takes y.last.0) (λ why y. refl) same st next x e
    where
      same : (a : Field) (y : State) (b : FieldAnswer) (z : State) → headed (as_field (answers a y)).answer y ≡ took b z → y ≡ z
      same stop y b z f = state_of f
      same (bool c id) y b z f = state_of f
      same (value t id) y b z f = state_of f

  -- a call that may rest where it is
  module _ {A B : Type 0} (call : List ℕ → State → Outcome A) (late : State → Bool) (ways : (st : State) → Way any call late s st) (out : Outcome A → Took B) (gone : (why : ℕ) (st : State) → out (declines why st) ≡ halted why) (kept : (a : A) (x : State) (b : B) (next : State) → out (answers a x) ≡ took b next → x ≡ next) where
    rests_on : (st next : State) (b : B) → out (call s st) ≡ took b next → On st next
    rests_on st next b e = go (ways st)
      where
        go : Way any call late s st → On st next
        go (unsound f g) = no_took (sym (gone BAD_STATE st) ∙ sym (ap out g) ∙ e)
        go (early f l g) = no_took (sym (gone OUT_OF_TURN st) ∙ sym (ap out g) ∙ e)
        go (lost f l why w g) = no_took (sym (gone why st) ∙ sym (ap out g) ∙ e)
        go (well f l a y lo hi g h) =
            let q = kept a y b next (sym (ap out g) ∙ e) in
            subst (On st) q (lo, (is_sound (length s) y hi).here)

  bool_on : (st next : State) (b : Bool) → a_bool s st ≡ took b next → On st next
  unfolding read_bool
  bool_on st next b e = rests_on bools _ (λ x. bool_ways s x) (λ o. of_bool (as_bool o).answer (as_bool o).state) (λ why x. refl) (λ a x c y f. state_of f) st next b e

  begin_on : (st next : State) (u : Unit {0}) → a_begin s st ≡ took u next → On st next
  unfolding struct_begin
  begin_on st next u e = rests_on begins _ (λ x. begin_ways s x) (λ o. of_done (as_done o).answer (as_done o).state) (λ why x. refl) (λ a x c y f. state_of f) st next u e

  end_on : (st next : State) (u : Unit {0}) → an_end s st ≡ took u next → On st next
  unfolding struct_end
  end_on st next u e = rests_on ends _ (λ x. end_ways s x) (λ o. of_done (as_done o).answer (as_done o).state) (λ why x. refl) (λ a x c y f. state_of f) st next u e

  -- a row that goes on
  abbrev Goes : (Plan → State → Took Tree) → Type 0
  Goes p = (plan : Plan) (st next : State) (t : Tree) → p plan st ≡ took t next → On st next

  all_on : (p : Plan → State → Took Tree) → Goes p → (plan : Plan) (i k : ℕ) (st next : State) (ts : Trees) → st.place.0 ≤ length s → read_all p plan i k st ≡ took ts next → On st next
  unfolding read_all
  all_on p g plan i zero st next ts h e = subst (On st) (state_of e) (omega arith, h)
  all_on p g plan i (suc k) st next ts h e =
      parts (p (under plan (pos i)) st) _ ts next
      (λ t to f.
      let o = g (under plan (pos i)) st to t f in
      unmade (λ (x : Trees). On st next) (tree t) (read_all p plan (suc i) k to) ts next (λ us q. on_then st to next o (all_on p g plan (suc i) k to next us o.1 q)))
      e

  pairs_on : (p q : Plan → State → Took Tree) → Goes p → Goes q → (plan : Plan) (i k : ℕ) (st next : State) (ps : Pairs) → st.place.0 ≤ length s → read_pairs p q plan i k st ≡ took ps next → On st next
  unfolding read_pairs
  pairs_on p q g h plan i zero st next ps l e = subst (On st) (state_of e) (omega arith, l)
  pairs_on p q g h plan i (suc k) st next ps l e =
      parts (p (key_under plan i) st) _ ps next
      (λ t to f.
      parts (q (value_under plan i) to) _ ps next
      (λ u up v.
      let o = on_then st to up (g (key_under plan i) st to t f) (h (value_under plan i) to up u v) in
      unmade (λ (x : Pairs). On st next) (pair t u) (read_pairs p q plan (suc i) k up) ps next (λ us w. on_then st up next o (pairs_on p q g h plan (suc i) k up next us o.1 w))))
      e

  -- behind a field's header
  behind_on : (inner : TType → Plan → State → Took Tree) → ((t : TType) → Goes (inner t)) → (plan : Plan) (go : State → Took Fields) → ((st next : State) (fs : Fields) → go st ≡ took fs next → On st next) → (st next : State) (fs : Fields) (x : FieldAnswer) (mid : State) → (headed x mid ≡ took x mid → Past st mid) → behind_header inner plan go x mid ≡ took fs next → On st next
  unfolding headed
  behind_on inner g plan go h st next fs F.Stop mid p e = subst (On st) (state_of e) (on st mid (p refl))
  behind_on inner g plan go h st next fs (F.Field t id) mid p e =
      parts (inner t (under plan id.0) mid) _ fs next
      (λ v to f.
      let o = on_then st mid to (on st mid (p refl)) (g t (under plan id.0) mid to v f) in
      unmade (λ (x : Fields). On st next) (val.field id.0 v) (go to) fs next (λ us q. on_then st to next o (h to next us q)))
      e
  behind_on inner g plan go h st next fs (F.Refused why) mid p e = no_took e

  fields_on : (inner : TType → Plan → State → Took Tree) → ((t : TType) → Goes (inner t)) → (plan : Plan) (k : ℕ) (st next : State) (fs : Fields) → read_fields s inner plan k st ≡ took fs next → On st next
  unfolding read_fields
  fields_on inner g plan zero st next fs e = no_took e
  fields_on inner g plan (suc k) st next fs e =
      behind_on inner g plan (read_fields s inner plan k) (λ a b xs f. fields_on inner g plan k a b xs f) st next fs (read_field s st).answer (read_field s st).state (λ q. field_past st (read_field s st).state (read_field s st).answer q) e

  -- what is made of a call
  leaf_on : {A : Type 0} (g : A → Tree) (x : Took A) (st next : State) (t : Tree) → ((a : A) → x ≡ took a next → On st next) → made g x ≡ took t next → On st next
  leaf_on g x st next t h e = unmade (λ (y : Tree). On st next) g x t next h e

  type_on : (box : Holders) → Goes box.list → Goes box.set → Goes box.map → Goes box.struct → (ty : TType) → Goes (by_type s box ty)
  type_on box a b c d T.Stop plan st next t e = no_took e
  type_on box a b c d T.Bool plan st next t e = leaf_on val.truth (a_bool s st) st next t (λ x f. bool_on st next x f) e
  type_on box a b c d T.I08 plan st next t e = leaf_on val.i8 (an_i8 s st) st next t (λ x f. on st next (int8_past st next x f)) e
  type_on box a b c d T.I16 plan st next t e = leaf_on val.i16 (an_i16 s st) st next t (λ x f. on st next (int16_past st next x f)) e
  type_on box a b c d T.I32 plan st next t e = leaf_on val.i32 (an_i32 s st) st next t (λ x f. on st next (int32_past st next x f)) e
  type_on box a b c d T.I64 plan st next t e = leaf_on val.i64 (an_i64 s st) st next t (λ x f. on st next (int64_past st next x f)) e
  type_on box a b c d T.Double plan st next t e = leaf_on val.double (a_double s st) st next t (λ x f. on st next (double_past st next x f)) e
  type_on box a b c d T.String plan st next t e = leaf_on val.bytes (a_string (plan []) s st) st next t (λ x f. on st next (string_past (plan []) st next x f)) e
  type_on box a b c d T.List plan st next t e = a plan st next t e
  type_on box a b c d T.Set plan st next t e = b plan st next t e
  type_on box a b c d T.Map plan st next t e = c plan st next t e
  type_on box a b c d T.Struct plan st next t e = d plan st next t e
  type_on box a b c d T.Uuid plan st next t e = leaf_on val.uuid (a_uuid s st) st next t (λ x f. on st next (uuid_past st next x f)) e

  -- the four that hold others
  module _ (inner : TType → Plan → State → Took Tree) (g : (t : TType) → Goes (inner t)) where
    items_on : (x : State → Took (TType × ℕ)) (mk : TType → Trees → Tree) → ((st next : State) (h : TType × ℕ) → x st ≡ took h next → Past st next) → Goes (λ plan st. and_on (x st) (λ h to. made (mk h.0) (read_all (inner h.0) plan 0 h.1 to)))
    items_on x mk past plan st next t e =
        parts (x st) _ t next
        (λ h to f.
        let o = on st to (past st to h f) in
        leaf_on (mk h.0) (read_all (inner h.0) plan 0 h.1 to) st next t (λ ts q. on_then st to next o (all_on (inner h.0) (g h.0) plan 0 h.1 to next ts o.1 q)))
        e

    map_on : Goes (holding s inner).map
    map_on plan st next t e =
        parts (a_map s st) _ t next
        (λ h to f.
        let o = on st to (map_past st to h f) in
        leaf_on (val.map h.0 h.1) (read_pairs (inner h.0) (inner h.1) plan 0 h.2 to) st next t (λ ps q. on_then st to next o (pairs_on (inner h.0) (inner h.1) (g h.0) (g h.1) plan 0 h.2 to next ps o.1 q)))
        e

    struct_on : Goes (holding s inner).struct
    struct_on plan st next t e =
        parts (a_begin s st) _ t next
        (λ u to f.
        parts (read_fields s inner plan (suc (length s)) to) _ t next
        (λ fs up q. leaf_on (λ w. val.struct fs) (an_end s up) st next t (λ w z. on_then st to next (begin_on st to u f) (on_then to up next (fields_on inner g plan (suc (length s)) to up fs q) (end_on up next w z)))))
        e

  levels_on : (levels : ℕ) (ty : TType) → Goes (read_levels s levels ty)
  unfolding read_levels holders
  levels_on zero ty = type_on none (λ plan st next t e. no_took e) (λ plan st next t e. no_took e) (λ plan st next t e. no_took e) (λ plan st next t e. no_took e) ty
  levels_on (suc levels) ty =
      type_on (holding s (read_levels s levels)) (items_on (read_levels s levels) (levels_on levels) (a_list s) val.list list_past) (items_on (read_levels s levels) (levels_on levels) (a_set s) val.set set_past) (map_on (read_levels s levels) (levels_on levels)) (struct_on (read_levels s levels) (levels_on levels)) ty

  -- two rows that agree behind what was given
  same_on : {A B : Type 0} (x : Took A) (k j : A → State → Took B) → ((a : A) (to : State) → x ≡ took a to → k a to ≡ j a to) → and_on x k ≡ and_on x j
  same_on (took a st) k j h = h a st refl
  same_on (halted why) k j h = refl

  -- two rows for values that agree from a place on
  abbrev Agree : ℕ → (Plan → State → Took Tree) → (Plan → State → Took Tree) → Type 0
  Agree at p q = (plan : Plan) (st : State) → at ≤ st.place.0 → st.place.0 ≤ length s → p plan st ≡ q plan st

  all_same : (at : ℕ) (p q : Plan → State → Took Tree) → Goes p → Agree at p q → (plan : Plan) (i k : ℕ) (st : State) → at ≤ st.place.0 → st.place.0 ≤ length s → read_all p plan i k st ≡ read_all q plan i k st
  unfolding read_all
  all_same at p q g h plan i zero st l m = refl
  all_same at p q g h plan i (suc k) st l m =
      same_on (p (under plan (pos i)) st) _ _ (λ t to f. let o = g (under plan (pos i)) st to t f in ap (made (tree t)) (all_same at p q g h plan (suc i) k to (omega (arith, o.0)) o.1))
      ∙ ap (λ (x : Took Tree). and_on x (λ t to. made (tree t) (read_all q plan (suc i) k to))) (h (under plan (pos i)) st l m)

  pairs_same : (at : ℕ) (p q p' q' : Plan → State → Took Tree) → Goes p → Goes q → Agree at p p' → Agree at q q' → (plan : Plan) (i k : ℕ) (st : State) → at ≤ st.place.0 → st.place.0 ≤ length s → read_pairs p q plan i k st ≡ read_pairs p' q' plan i k st
  unfolding read_pairs
  pairs_same at p q p' q' g h a b plan i zero st l m = refl
  pairs_same at p q p' q' g h a b plan i (suc k) st l m =
      same_on (p (key_under plan i) st) _ _
      (λ t to f.
      let o = g (key_under plan i) st to t f in
      same_on (q (value_under plan i) to) _ _ (λ u up v. let w = h (value_under plan i) to up u v in ap (made (pair t u)) (pairs_same at p q p' q' g h a b plan (suc i) k up (omega (arith, o.0, w.0)) w.1))
      ∙ ap (λ (x : Took Tree). and_on x (λ u up. made (pair t u) (read_pairs p' q' plan (suc i) k up))) (b (value_under plan i) to (omega (arith, o.0)) o.1))
      ∙ ap (λ (x : Took Tree). and_on x (λ t to. and_on (q' (value_under plan i) to) (λ u up. made (pair t u) (read_pairs p' q' plan (suc i) k up)))) (a (key_under plan i) st l m)

  -- behind a field's header
  behind_same : (inner inner' : TType → Plan → State → Took Tree) → ((t : TType) → Goes (inner t)) → (plan : Plan) (go go' : State → Took Fields) (st : State) → ((t : TType) → Agree (suc st.place.0) (inner t) (inner' t)) → ((x : State) → st.place.0 < x.place.0 → x.place.0 ≤ length s → go x ≡ go' x) → (x : FieldAnswer) (mid : State) → (headed x mid ≡ took x mid → Past st mid) → behind_header inner plan go x mid ≡ behind_header inner' plan go' x mid
  unfolding headed
  behind_same inner inner' g plan go go' st a b F.Stop mid p = refl
  behind_same inner inner' g plan go go' st a b (F.Field t id) mid p =
      let q = p refl in
      same_on (inner t (under plan id.0) mid) _ _ (λ v to f. let o = g t (under plan id.0) mid to v f in ap (made (val.field id.0 v)) (b to (omega (arith, q.0, o.0)) o.1))
      ∙ ap (λ (x : Took Tree). and_on x (λ v to. made (val.field id.0 v) (go' to))) (a t (under plan id.0) mid (omega (arith, q.0)) q.1)
  behind_same inner inner' g plan go go' st a b (F.Refused why) mid p = refl

  -- how many fields there may be has no say where it is enough
  fields_same : (at : ℕ) (inner inner' : TType → Plan → State → Took Tree) → ((t : TType) → Goes (inner t)) → ((t : TType) → Agree (suc at) (inner t) (inner' t)) → (plan : Plan) (j k : ℕ) (st : State) → 0 < j → 0 < k → length s < j + st.place.0 → length s < k + st.place.0 → at ≤ st.place.0 → read_fields s inner plan j st ≡ read_fields s inner' plan k st
  unfolding read_fields
  fields_same at inner inner' g a plan zero k st pj pk lj lk l = absurd (omega arith)
  fields_same at inner inner' g a plan (suc j) zero st pj pk lj lk l = absurd (omega arith)
  fields_same at inner inner' g a plan (suc j) (suc k) st pj pk lj lk l =
      behind_same inner inner' g plan (read_fields s inner plan j) (read_fields s inner' plan k) st (λ t pl x lo hi. a t pl x (omega arith) hi)
      (λ x lo hi. fields_same at inner inner' g a plan j k x (omega arith) (omega arith) (omega arith) (omega arith) (omega arith))
      (read_field s st).answer (read_field s st).state (λ q. field_past st (read_field s st).state (read_field s st).answer q)

  type_same : (box box' : Holders) (plan : Plan) (st : State) → box.list plan st ≡ box'.list plan st → box.set plan st ≡ box'.set plan st → box.map plan st ≡ box'.map plan st → box.struct plan st ≡ box'.struct plan st → (ty : TType) → by_type s box ty plan st ≡ by_type s box' ty plan st
  type_same box box' plan st a b c d T.Stop = refl
  type_same box box' plan st a b c d T.Bool = refl
  type_same box box' plan st a b c d T.I08 = refl
  type_same box box' plan st a b c d T.I16 = refl
  type_same box box' plan st a b c d T.I32 = refl
  type_same box box' plan st a b c d T.I64 = refl
  type_same box box' plan st a b c d T.Double = refl
  type_same box box' plan st a b c d T.String = refl
  type_same box box' plan st a b c d T.List = a
  type_same box box' plan st a b c d T.Set = b
  type_same box box' plan st a b c d T.Map = c
  type_same box box' plan st a b c d T.Struct = d
  type_same box box' plan st a b c d T.Uuid = refl

  -- two that agree on all values behind the state's place
  module _ (inner inner' : TType → Plan → State → Took Tree) (g : (t : TType) → Goes (inner t)) (plan : Plan) (st : State) (a : (t : TType) → Agree (suc st.place.0) (inner t) (inner' t)) where
    items_same : (x : Took (TType × ℕ)) (mk : TType → Trees → Tree) → ((next : State) (h : TType × ℕ) → x ≡ took h next → Past st next) → and_on x (λ h to. made (mk h.0) (read_all (inner h.0) plan 0 h.1 to)) ≡ and_on x (λ h to. made (mk h.0) (read_all (inner' h.0) plan 0 h.1 to))
    items_same x mk past = same_on x _ _ (λ h to f. let o = past to h f in ap (made (mk h.0)) (all_same (suc st.place.0) (inner h.0) (inner' h.0) (g h.0) (a h.0) plan 0 h.1 to (omega (arith, o.0)) o.1))

    map_same : (holding s inner).map plan st ≡ (holding s inner').map plan st
    map_same =
        same_on (a_map s st) _ _
        (λ h to f. let o = map_past st to h f in ap (made (val.map h.0 h.1)) (pairs_same (suc st.place.0) (inner h.0) (inner h.1) (inner' h.0) (inner' h.1) (g h.0) (g h.1) (a h.0) (a h.1) plan 0 h.2 to (omega (arith, o.0)) o.1))

    struct_same : (holding s inner).struct plan st ≡ (holding s inner').struct plan st
    struct_same =
        same_on (a_begin s st) _ _
        (λ u to f.
        let o = begin_on st to u f in
        ap (λ (x : Took Fields). and_on x (λ fs up. made (λ w. val.struct fs) (an_end s up))) (fields_same st.place.0 inner inner' g a plan (suc (length s)) (suc (length s)) to (omega arith) (omega arith) (omega arith) (omega arith) o.0))

    held_same : (ty : TType) → by_type s (holding s inner) ty plan st ≡ by_type s (holding s inner') ty plan st
    held_same ty = type_same (holding s inner) (holding s inner') plan st (items_same (a_list s st) val.list (list_past st)) (items_same (a_set s st) val.set (set_past st)) map_same struct_same ty

  -- how many levels there may be has no say where it is enough
  pub levels_same : (j k : ℕ) (ty : TType) (plan : Plan) (st : State) → 0 < j → 0 < k → length s < j + st.place.0 → length s < k + st.place.0 → read_levels s j ty plan st ≡ read_levels s k ty plan st
  unfolding read_levels holders
  levels_same zero k ty plan st pj pk lj lk = absurd (omega arith)
  levels_same (suc j) zero ty plan st pj pk lj lk = absurd (omega arith)
  levels_same (suc j) (suc k) ty plan st pj pk lj lk =
      held_same (read_levels s j) (read_levels s k) (levels_on j) plan st (λ t pl x lo hi. levels_same j k t pl x (omega arith) (omega arith) (omega arith) (omega arith)) ty

  -- so reading a value is its call, or its header and then the same for what it holds
  pub read_step : (ty : TType) (plan : Plan) (st : State) → read_of s ty plan st ≡ by_type s (holding s (read_of s)) ty plan st
  unfolding read_of read_levels holders
  read_step ty plan st = levels_same (suc (length s)) (suc (suc (length s))) ty plan st (omega arith) (omega arith) (omega arith) (omega arith)

  -- and reading fields is one header, and then the same
  pub fields_step : (plan : Plan) (st : State) → read_fields s (read_of s) plan (suc (length s)) st ≡ behind_header (read_of s) plan (read_fields s (read_of s) plan (suc (length s))) (read_field s st).answer (read_field s st).state
  unfolding read_fields read_of
  fields_step plan st =
      fields_same st.place.0 (read_of s) (read_of s) (λ t. levels_on (suc (length s)) t) (λ t pl x lo hi. refl) plan (suc (length s)) (suc (suc (length s))) st (omega arith) (omega arith) (omega arith) (omega arith) (omega arith)
