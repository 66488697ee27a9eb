-- Each writer call against the reader's definition of its header or scalar: where the call answers Written, what it left at its place is read there,
-- whatever follows, as what was written, and its end is the next state's place. Assumes nothing.
use mathlib.Core.Path.{◌≡◌, refl, sym, ap, subst, ◌∙◌}
use mathlib.Core.Bool.{Bool, true, false, cond, ◌||◌}
use mathlib.Core.List.{List}
use Prim.Native.Nat.{ℕ, zero, suc, ◌^◌, ◌≤◌, ◌<◌}
use native.Mathlib.Omega.{arith}
use borrow.Author.Tests.{eq-eqb, ne_eqb, leb-true}
use lib.Dec.{eqb, leb}
use lib.IntN.{ℤ, pos}
use lib.ListN.{length}
use lib.Signed.{lt_z}
use mir.Syntax.{w8, w16, w32, w64}
use mir.Val.{SFits}
use Rattle.types.specs.Refusals.{BAD_TYPE, SIZE_LIMIT, NEGATIVE_SIZE, BAD_UTF8}
use Rattle.types.specs.Codes.{type_code}
use Rattle.types.specs.declared.TType.{TType}
use Rattle.types.specs.declared.TType.TheVariants as T
use Rattle.types.specs.declared.TMessageType.{TMessageType}
use Rattle.types.specs.declared.TConfiguration.{TConfiguration}
use Rattle.types.specs.declared.FieldId.{FieldId}
use Rattle.types.specs.declared.SeqNo.{SeqNo}
use Rattle.numbers.specs.Varint.{got}
use Rattle.utf8.specs.Utf8.{utf8}
use Rattle.heads.specs.Reader.{Reader, read_at}
use Rattle.heads.specs.Heads.{int8, int16, int32, int64, double, uuid, truth, binary, text, items, pairs, field, stop, bool, value, message}
use Rattle.output.specs.State.{State, in_turn}
use Rattle.puts.specs.Bytes.{above}
use Rattle.puts.specs.Wrong.{length_wrong, text_wrong, is_stop, field_wrong, count_wrong}
use Rattle.puts.proofs.Checks.{both_none, length_fits, text_fits}
use Rattle.output.specs.Calls.{Call, call, writes, leaves, message_call, field_call, stop_call, truth_call, bool_call, i8_call, int_call, double_call, uuid_call, bytes_call, string_call, items_call, pairs_call}
use Rattle.output.specs.declared.AwaitedField.{AwaitedField}
use Rattle.output.specs.declared.AwaitedField.TheVariants as A
use Rattle.output.specs.declared.Written.{Written}
use Rattle.output.specs.declared.WriteAnswer.TheVariants as WA
use Rattle.output.proofs.Checks.{Sound}
use Rattle.output.proofs.Laws.{went, reads_back}
use Rattle.output.proofs.Back.{Reads, i8_reads, i16_reads, i32_reads, i64_reads, double_reads, uuid_reads, truth_reads, bytes_reads, text_reads, items_reads, pairs_reads, no_pairs_reads, message_reads}
use Rattle.output.proofs.Fields.{value_reads, bool_reads, stop_reads}

-- the call goes through
abbrev pub Done : List ℕ → State → Call → Type 0
Done buf st k = (writes buf st k).answer ≡ WA.Written

-- what it left at its place is read as a, up to the next state's place
abbrev pub FoundAt : {A : Type 0} → Reader A → List ℕ → State → Call → A → Type 0
FoundAt p buf st k a = read_at p (leaves buf st k) st.place.0 ≡ got a (writes buf st k).state.place.0

-- what passes its own checks tells of the arguments
in_turn_lem : (st : State) (wrong : ℕ) → in_turn st wrong ≡ 0 → wrong ≡ 0
unfolding in_turn
in_turn_lem st wrong e = (both_none _ wrong e).1

is_utf8 : (b : Bool) → cond b 0 BAD_UTF8 ≡ 0 → b ≡ true
is_utf8 true e = refl
is_utf8 false e = absurd (omega arith)

text_utf8 : (lim : TConfiguration) (bs : List ℕ) → text_wrong lim bs ≡ 0 → utf8 bs ≡ true
unfolding text_wrong
text_utf8 lim bs e = is_utf8 (utf8 bs) (both_none (length_wrong lim bs) _ e).1

within : (a b c d : Bool) → cond a NEGATIVE_SIZE (cond b 0 (cond c BAD_TYPE (cond d 0 SIZE_LIMIT))) ≡ 0 → (b ≡ false) → d ≡ true
within true b c d e f = absurd (omega arith)
within false true c d e f = let z : ◌≡◌ {A = ℕ} 0 1 = cc in absurd (omega arith)
within false false true d e f = absurd (omega arith)
within false false false true e f = refl
within false false false false e f = absurd (omega arith)

count_fits : (lim : TConfiguration) (t u : TType) (z : ℤ) → count_wrong lim t u z ≡ 0 → above z ≤ lim.container
unfolding count_wrong
count_fits lim t u z e = go (above z) refl
  where
    go : (n : ℕ) → above z ≡ n → above z ≤ lim.container
    go zero q = omega arith
    go (suc n) q = leb-true (above z) lim.container (within (lt_z z (pos 0)) (eqb (above z) 0) (is_stop t || is_stop u) (leb (above z) lim.container) e (ne_eqb (above z) 0 (λ o. omega arith)))

not_stop : (n : ℕ) → cond (eqb n 0) BAD_TYPE 0 ≡ 0 → n ≡ 0 → ⊥
not_stop n e h = let z : ◌≡◌ {A = ℕ} 4 0 = rw (eq-eqb n 0 h) at e in omega arith

-- no type has the code 2
typed : (t : TType) → field_wrong t ≡ 0 → (type_code t ≡ 1 → ⊥) → 2 < type_code t
unfolding field_wrong type_code
typed T.Stop e h = absurd (omega arith)
typed T.Bool e h = absurd (h refl)
typed T.I08 e h = omega arith
typed T.I16 e h = omega arith
typed T.I32 e h = omega arith
typed T.I64 e h = omega arith
typed T.Double e h = omega arith
typed T.String e h = omega arith
typed T.List e h = omega arith
typed T.Set e h = omega arith
typed T.Map e h = omega arith
typed T.Struct e h = omega arith
typed T.Uuid e h = omega arith

module _ (buf : List ℕ) (st : State) where
  -- from the bytes to the call
  through : {A : Type 0} (p : Reader A) (a : A) (wrong : ℕ) (bs : List ℕ) (next : State) → (Sound (length buf) st → wrong ≡ 0 → Reads p a bs) → Done buf st (call wrong bs next) → FoundAt p buf st (call wrong bs next) a
  through p a wrong bs next r d =
      let w = went buf st wrong bs next d in
      reads_back buf st wrong bs next w p a (r w.sound w.right) ∙ ap (got a) (sym (ap (λ (x : Written). x.state.place.0) w.answers))

  pub message_back : (m : TMessageType) (z : SeqNo) (name : List ℕ) → SFits w32 z.0 → Done buf st (message_call st m z name) → FoundAt (message st.limits) buf st (message_call st m z name) (m, z.0, name)
  message_back m z name f d =
      through _ _ _ _ _
      (λ s e.
      let t = in_turn_lem st (text_wrong st.limits name) e in
      message_reads st.limits m z.0 name f (text_fits st.limits name t) s.limits (text_utf8 st.limits name t))
      d

  -- a field of any type but Bool; Stop is refused
  pub field_back : (t : TType) (id : FieldId) → SFits w16 id.0 → (type_code t ≡ 1 → ⊥) → Done buf st (field_call st t id) → FoundAt (field st.last.0) buf st (field_call st t id) (value t id.0)
  unfolding field_call
  field_back t id f h d =
      through _ _ _ _ _
      (λ s e. rw (ne_eqb (type_code t) 1 h) (value_reads st.last.0 id.0 f t (typed t (in_turn_lem st (field_wrong t) e) h)))
      d

  pub stop_back : Done buf st (stop_call st) → FoundAt (field st.last.0) buf st (stop_call st) stop
  stop_back d = through _ _ _ _ _ (λ s e. stop_reads st.last.0) d

  -- a bool: an element, or the field that was pending
  element_through : (b : Bool) (a : AwaitedField) → a ≡ A.Nothing → Done buf st (truth_call st b a) → FoundAt truth buf st (truth_call st b a) b
  element_through b a p =
      subst (λ (x : AwaitedField). Done buf st (truth_call st b x) → FoundAt truth buf st (truth_call st b x) b) (sym p)
      (λ d. through _ _ _ _ _ (λ s e. truth_reads b) d)

  pub element_back : (b : Bool) → st.pending.0 ≡ A.Nothing → Done buf st (bool_call st b) → FoundAt truth buf st (bool_call st b) b
  unfolding bool_call
  element_back b p d = element_through b st.pending.0 p d

  bool_through : (b : Bool) (id : FieldId) (a : AwaitedField) → SFits w16 id.0 → a ≡ A.Field id → Done buf st (truth_call st b a) → FoundAt (field st.last.0) buf st (truth_call st b a) (bool b id.0)
  bool_through b id a f p =
      subst (λ (x : AwaitedField). Done buf st (truth_call st b x) → FoundAt (field st.last.0) buf st (truth_call st b x) (bool b id.0)) (sym p)
      (λ d. through _ _ _ _ _ (λ s e. bool_reads st.last.0 id.0 f b) d)

  pub bool_back : (b : Bool) (id : FieldId) → SFits w16 id.0 → st.pending.0 ≡ A.Field id → Done buf st (bool_call st b) → FoundAt (field st.last.0) buf st (bool_call st b) (bool b id.0)
  unfolding bool_call
  bool_back b id f p d = bool_through b id st.pending.0 f p d

  pub i8_back : (z : ℤ) → SFits w8 z → Done buf st (i8_call st z) → FoundAt int8 buf st (i8_call st z) z
  i8_back z f d = through _ _ _ _ _ (λ s e. i8_reads z f) d

  pub i16_back : (z : ℤ) → SFits w16 z → Done buf st (int_call st z) → FoundAt int16 buf st (int_call st z) z
  i16_back z f d = through _ _ _ _ _ (λ s e. i16_reads z f) d

  pub i32_back : (z : ℤ) → SFits w32 z → Done buf st (int_call st z) → FoundAt int32 buf st (int_call st z) z
  i32_back z f d = through _ _ _ _ _ (λ s e. i32_reads z f) d

  pub i64_back : (z : ℤ) → SFits w64 z → Done buf st (int_call st z) → FoundAt int64 buf st (int_call st z) z
  i64_back z f d = through _ _ _ _ _ (λ s e. i64_reads z f) d

  pub double_back : (n : ℕ) → n < 2 ^ 64 → Done buf st (double_call st n) → FoundAt double buf st (double_call st n) n
  double_back n f d = through _ _ _ _ _ (λ s e. double_reads n f) d

  pub uuid_back : (bs : List ℕ) → length bs ≡ 16 → Done buf st (uuid_call st bs) → FoundAt uuid buf st (uuid_call st bs) bs
  uuid_back bs f d = through _ _ _ _ _ (λ s e. uuid_reads bs f) d

  pub bytes_back : (bs : List ℕ) → Done buf st (bytes_call st bs) → FoundAt (binary st.limits) buf st (bytes_call st bs) bs
  bytes_back bs d =
      through _ _ _ _ _ (λ s e. bytes_reads st.limits bs (length_fits st.limits bs (in_turn_lem st _ e)) s.limits) d

  pub string_back : (bs : List ℕ) → Done buf st (string_call st bs) → FoundAt (text st.limits) buf st (string_call st bs) bs
  string_back bs d =
      through _ _ _ _ _
      (λ s e.
      let t = in_turn_lem st (text_wrong st.limits bs) e in
      text_reads st.limits bs (text_fits st.limits bs t) s.limits (text_utf8 st.limits bs t))
      d

  -- a list and a set
  pub items_back : (t : TType) (z : ℤ) → Done buf st (items_call st t z) → FoundAt (items st.limits) buf st (items_call st t z) (t, above z)
  items_back t z d =
      through _ _ _ _ _
      (λ s e. items_reads st.limits (above z) (count_fits st.limits t t z (in_turn_lem st _ e)) s.limits t)
      d

  -- a map with entries, and one without, which loses its types
  pub pairs_back : (k v : TType) (z : ℤ) → 0 < above z → Done buf st (pairs_call st k v z) → FoundAt (pairs st.limits) buf st (pairs_call st k v z) (k, v, above z)
  pairs_back k v z h d =
      through _ _ _ _ _
      (λ s e. pairs_reads st.limits (above z) (count_fits st.limits k v z (in_turn_lem st _ e)) s.limits k v h)
      d

  pub no_pairs_back : (k v : TType) → Done buf st (pairs_call st k v (pos 0)) → FoundAt (pairs st.limits) buf st (pairs_call st k v (pos 0)) (T.Stop, T.Stop, 0)
  no_pairs_back k v d = through _ _ _ _ _ (λ s e. no_pairs_reads st.limits k v) d
