-- Which numbers the binary writer's calls give: BAD TYPE, SIZE LIMIT, NEGATIVE SIZE, DEPTH, BAD UTF-8, OUT OF TURN, NO ROOM, BAD STATE and MESSAGE SIZE, and no other. So 13 is
-- never given. Assumes nothing.
use mathlib.Core.Path.{◌≡◌, refl, ap, ◌∙◌}
use mathlib.Core.Bool.{Bool, true, false, cond, ◌&&◌, ◌||◌}
use mathlib.Core.List.{List}
use Prim.Native.Nat.{ℕ}
use native.Mathlib.Omega.{arith}
use lib.Dec.{eqb, leb}
use lib.ListN.{length}
use lib.IntN.{ℤ, pos}
use lib.Signed.{lt_z}
use Rattle.types.specs.Refusals.{BAD_TYPE, SIZE_LIMIT, NEGATIVE_SIZE, DEPTH, BAD_UTF8, OUT_OF_TURN, NO_ROOM, BAD_STATE, MESSAGE_SIZE}
use Rattle.types.specs.Limits.{in_range}
use Rattle.types.specs.declared.TType.{TType}
use Rattle.types.specs.declared.TMessageType.{TMessageType}
use Rattle.types.specs.declared.FieldId.{FieldId}
use Rattle.types.specs.declared.SeqNo.{SeqNo}
use Rattle.types.specs.declared.TConfiguration.{TConfiguration}
use Rattle.utf8.specs.Utf8.{utf8}
use Rattle.puts.specs.Bytes.{above}
use Rattle.puts.specs.Wrong.{or_else, length_wrong, text_wrong, is_stop, field_wrong, count_wrong}
use Rattle.binary_output.specs.State.{State, unsound, cut_of, left_of}
use Rattle.binary_output.specs.Calls.{Call, call, size_wrong, writes, begin_wrong, end_wrong, message_call, struct_begin_call, struct_end_call, field_call, stop_call, bool_call, i8_call, i16_call, i32_call, i64_call, double_call, uuid_call, bytes_call, string_call, items_call, pairs_call}
use Rattle.output.specs.declared.WriteAnswer.TheVariants as WA
use Rattle.binary_output.proofs.Laws.{refused}

-- the numbers, as one computed test
abbrev pub given : ℕ → Bool
given why =
    eqb why BAD_TYPE
    || (eqb why SIZE_LIMIT
    || (eqb why NEGATIVE_SIZE
    || (eqb why DEPTH
    || (eqb why BAD_UTF8
    || (eqb why OUT_OF_TURN
    || (eqb why NO_ROOM
    || (eqb why BAD_STATE
    || eqb why MESSAGE_SIZE)))))))

-- nothing wrong, or such a number
abbrev fine : ℕ → Bool
fine why = cond (eqb why 0) true (given why)

by_test : (b : Bool) (x y : ℕ) → fine x ≡ true → fine y ≡ true → fine (cond b x y) ≡ true
by_test true x y p q = p
by_test false x y p q = q

or_else_lem : (a b : ℕ) → fine a ≡ true → fine b ≡ true → fine (or_else a b) ≡ true
unfolding or_else
or_else_lem a b p q = by_test (eqb a 0) b a q p

-- where nothing else stops a call, NO ROOM does
or_no_room : (a : ℕ) → fine a ≡ true → given (or_else a NO_ROOM) ≡ true
unfolding or_else
or_no_room a = go (eqb a 0)
  where
    go : (b : Bool) → cond b true (given a) ≡ true → given (cond b NO_ROOM a) ≡ true
    go true p = refl
    go false p = p

too_long : (lim : TConfiguration) (bs : List ℕ) → fine (length_wrong lim bs) ≡ true
unfolding length_wrong
too_long lim bs = by_test (leb (length bs) lim.string) 0 SIZE_LIMIT refl refl

no_text : (lim : TConfiguration) (bs : List ℕ) → fine (text_wrong lim bs) ≡ true
unfolding text_wrong
no_text lim bs = or_else_lem (length_wrong lim bs) (cond (utf8 bs) 0 BAD_UTF8) (too_long lim bs) (by_test (utf8 bs) 0 BAD_UTF8 refl refl)

no_field : (t : TType) → fine (field_wrong t) ≡ true
unfolding field_wrong
no_field t = by_test (is_stop t) BAD_TYPE 0 refl refl

no_count : (lim : TConfiguration) (t u : TType) (z : ℤ) → fine (count_wrong lim t u z) ≡ true
unfolding count_wrong
no_count lim t u z =
    by_test (lt_z z (pos 0)) NEGATIVE_SIZE _ refl
    (by_test (eqb (above z) 0) 0 _ refl
    (by_test (is_stop t || is_stop u) BAD_TYPE _ refl (by_test (leb (above z) lim.container) 0 SIZE_LIMIT refl refl)))

no_begin : (st : State) → fine (begin_wrong st) ≡ true
unfolding begin_wrong
no_begin st = by_test (leb st.limits.depth st.depth) DEPTH 0 refl refl

no_end : (st : State) → fine (end_wrong st) ≡ true
unfolding end_wrong
no_end st = by_test (eqb st.depth 0) OUT_OF_TURN 0 refl refl

too_large : (next : State) (n : ℕ) → fine (size_wrong next n) ≡ true
unfolding size_wrong
too_large next n = by_test (leb n (left_of next)) 0 MESSAGE_SIZE refl refl

forged : (len : ℕ) (st : State) → fine (unsound len st) ≡ true
unfolding unsound
forged len st =
    by_test
    (in_range st.limits && leb st.place.0 len && leb st.depth st.limits.depth && leb st.begin.0 st.place.0 && leb st.place.0 (cut_of st))
    0
    BAD_STATE
    refl
    refl

-- Each call of the writer, over any buffer and any state: a number that it gives is one of these.
module _ (buf : List ℕ) (st : State) where
  abbrev pub Gives : Call → Type 0
  Gives c = (n : ℕ) → (writes buf st c).answer ≡ WA.Refused n → given n ≡ true

  gives : (wrong : ℕ) (bs : List ℕ) (next : State) → fine wrong ≡ true → Gives (call wrong bs next)
  gives wrong bs next p n e =
      ap given (refused buf st wrong bs next n e).0
      ∙ or_no_room _ (or_else_lem _ _ (forged (length buf) st) (or_else_lem wrong _ p (too_large next (length bs))))

  pub message_gives : (m : TMessageType) (z : SeqNo) (name : List ℕ) → Gives (message_call st m z name)
  message_gives m z name = gives _ _ _ (no_text st.limits name)

  pub begin_gives : Gives (struct_begin_call st)
  begin_gives = gives _ _ _ (no_begin st)

  pub end_gives : Gives (struct_end_call st)
  end_gives = gives _ _ _ (no_end st)

  pub field_gives : (t : TType) (id : FieldId) → Gives (field_call st t id)
  field_gives t id = gives _ _ _ (no_field t)

  pub stop_gives : Gives (stop_call st)
  stop_gives = gives _ _ _ refl

  pub bool_gives : (b : Bool) → Gives (bool_call st b)
  bool_gives b = gives _ _ _ refl

  pub i8_gives : (z : ℤ) → Gives (i8_call st z)
  i8_gives z = gives _ _ _ refl

  pub i16_gives : (z : ℤ) → Gives (i16_call st z)
  i16_gives z = gives _ _ _ refl

  pub i32_gives : (z : ℤ) → Gives (i32_call st z)
  i32_gives z = gives _ _ _ refl

  pub i64_gives : (z : ℤ) → Gives (i64_call st z)
  i64_gives z = gives _ _ _ refl

  pub double_gives : (bits : ℕ) → Gives (double_call st bits)
  double_gives bits = gives _ _ _ refl

  pub uuid_gives : (bs : List ℕ) → Gives (uuid_call st bs)
  uuid_gives bs = gives _ _ _ refl

  pub bytes_gives : (bs : List ℕ) → Gives (bytes_call st bs)
  bytes_gives bs = gives _ _ _ (too_long st.limits bs)

  pub string_gives : (bs : List ℕ) → Gives (string_call st bs)
  string_gives bs = gives _ _ _ (no_text st.limits bs)

  -- lists and sets
  pub items_gives : (t : TType) (z : ℤ) → Gives (items_call st t z)
  items_gives t z = gives _ _ _ (no_count st.limits t t z)

  pub pairs_gives : (k v : TType) (z : ℤ) → Gives (pairs_call st k v z)
  pairs_gives k v z = gives _ _ _ (no_count st.limits k v z)

  -- "Number 13 stays unused"
  pub never_13 : (c : Call) → Gives c → (writes buf st c).answer ≡ WA.Refused 13 → ⊥
  never_13 c g e = let no : ◌≡◌ {A = Bool} false true = g 13 e in let z : ◌≡◌ {A = ℕ} 0 1 = cc in omega arith
