-- What a writer's call leaves, for the state in the row: at each of its returns, once for all calls. Assumes nothing.
use mathlib.Core.Path.{◌≡◌, refl, sym, ap, subst, ◌∙◌}
use mathlib.Core.Bool.{Bool, true, false, cond, ◌&&◌}
use mathlib.Core.List.{List, [], ◌∷◌}
use Prim.Native.Nat.{ℕ, zero, suc, ◌+◌, ◌-◌, ◌*◌, ◌/◌, ◌%◌, ◌^◌, ◌≤◌, ◌<◌}
use native.Mathlib.Nat.{mod-eq_of_lt}
use native.Mathlib.Omega.{arith}
use borrow.Author.Rules.{sfits_of}
use borrow.Author.Tests.{eq-eqb, ne_eqb, lt-ltb}
use lib.Dec.{leb}
use lib.IntN.{ℤ, pos, negsuc}
use lib.ListN.{length, get_or, set}
use mir.Syntax.{w16, w32, w64}
use mir.Val.{Fits, SFits, to_z, of_z}
use mir.Facts.{to_z-of_z}
use Rattle.types.specs.Refusals.{BAD_TYPE, OUT_OF_TURN, NO_ROOM, BAD_STATE}
use Rattle.types.specs.Limits.{in_range}
use Rattle.types.specs.Codes.{type_code, type_by_number, truth_code, message_by_number}
use Rattle.types.specs.declared.FieldId.{FieldId}
use Rattle.types.specs.declared.SeqNo.{SeqNo}
use Rattle.types.specs.declared.TType.{TType}
use Rattle.types.specs.declared.TType.TheVariants as T
use Rattle.types.specs.declared.TypeRead.{TypeRead}
use Rattle.types.specs.declared.TypeRead.TheVariants as R
use Rattle.types.specs.declared.TMessageType.{TMessageType}
use Rattle.types.specs.declared.MessageTypeRead.{MessageTypeRead}
use Rattle.types.specs.declared.MessageTypeRead.TheVariants as MR
use Rattle.types.proofs.Codes.{number_is}
use Rattle.zigzag.specs.Zigzag.{zigzag}
use Rattle.numbers.specs.Varint.{fewest}
use Rattle.numbers.specs.Answers.{wrote_at, put_at}
use Rattle.numbers.specs.declared.Wrote.{Wrote}
use Rattle.numbers.specs.declared.Wrote.TheVariants as W
use Rattle.numbers.proofs.Found.{by_lt}
use Rattle.numbers.proofs.Put.{wrote_to, wrote_not}
use Rattle.puts.specs.Bytes.{above, int_bytes, field_bytes, items_bytes, pairs_bytes, string_bytes, message_bytes}
use Rattle.puts.specs.Wrong.{or_else, length_wrong, text_wrong, field_wrong, count_wrong}
use Rattle.puts.proofs.Pieces.{code_below, truth_below}
use Rattle.puts.proofs.Checks.{both_none}
use Rattle.output.specs.State.{State, unsound, turn, in_turn, begun_here, moved_to, headed, awaiting, cut_of}
use Rattle.output.specs.Calls.{Call, call, refused_by, written, settled, size_wrong, message_call, field_call, bool_call, truth_call, items_call, pairs_call}
use Rattle.output.specs.declared.AwaitedField.{AwaitedField}
use Rattle.output.specs.declared.AwaitedField.TheVariants as A
use Rattle.output.proofs.Checks.{unsized, turn_over}
use Rattle.output.proofs.Cases.{refusing, keeping, writing, putting, noting, untouched, int_is, byte_is, items_is, pairs_is, double_size, message_size}
use Rattle.rows.specs.Row.{last_in, limits_of, writer_top, writer_in, field_of, field_no, writer_of, writer_after, wrote_number, wrote_row, headed_row, begun_row}
use Rattle.rows.specs.Writes.{Kept, Made, wrong_call, is_none, field_by, field_of_type, items_by, items_of_type, pairs_by, pairs_of_types, message_by, message_of_type}
use Rattle.rows.proofs.Cases.{writer_left}
use Rattle.rows.proofs.Gate.{Open, Waiting, held, writer_gate, writer_opens, writer_order, writer_is, writer_free, writer_moves, writer_heads, writer_begins, writer_stays, writer_awaits, row_headed}

or_first : (a b : ℕ) → (a ≡ 0 → ⊥) → a ≡ or_else a b
unfolding or_else
or_first a b h = rw (ne_eqb a 0 h)

or_second : (b : ℕ) → or_else 0 b ≡ b
unfolding or_else
or_second b = refl

-- a call that is refused n, and one that puts its bytes at the row's place: `f` is the row behind what was written
module _ (buf row : List ℕ) (w : ℕ) (bs : List ℕ) (next : State) where
  stopped : (n : ℕ) → n ≡ or_else (unsound (length buf) (writer_of row)) (or_else w (size_wrong next (length bs))) → (n ≡ 0 → ⊥) → Made row row buf buf n (writer_of row) (call w bs next)
  stopped n e h =
      let k : Kept row row n (refused_by (writer_of row) n) = record { number = refl; the_row = writer_left row n (writer_of row) h } in
      record {
        kept = subst (Kept row row n) (refusing buf (writer_of row) w n bs next e h) k;
        the_buf = keeping buf (writer_of row) w n bs next e h;
      }

  module _ (free : 0 ≡ or_else (unsound (length buf) (writer_of row)) (or_else w (size_wrong next (length bs)))) where
    placed : (f : Wrote → List ℕ) → ((p : ℕ) → f (W.To p) ≡ writer_after row 0 (moved_to next p)) → f (W.Refused NO_ROOM) ≡ row → (r : Wrote) (row' buf' : List ℕ) (k : ℕ) → r ≡ wrote_at buf (writer_of row).place.0 bs → buf' ≡ put_at buf (writer_of row).place.0 bs → k ≡ wrote_number r → row' ≡ f r → Made row row' buf buf' k (writer_of row) (call w bs next)
    unfolding settled writer_after
    placed f m s r row' buf' k g b x y =
        record {
          kept = subst (Kept row row' k) (writing buf (writer_of row) w 0 bs next free refl) (by_lt (length buf) (at + length bs) short long);
          the_buf = b ∙ putting buf (writer_of row) w 0 bs next free refl;
        }
      where
        at : ℕ
        at = (writer_of row).place.0

        Left : Wrote → Type 0
        Left v = Kept row row' k (settled (writer_of row) next v)

        short : length buf < at + length bs → Left (wrote_at buf at bs)
        short h =
            let q = wrote_not buf at bs h in
            subst Left q (record { number = x ∙ ap wrote_number (g ∙ sym q); the_row = y ∙ ap f (g ∙ sym q) ∙ s })

        long : at + length bs ≤ length buf → Left (wrote_at buf at bs)
        long h =
            let q = wrote_to buf at bs h in
            subst Left q (record { number = x ∙ ap wrote_number (g ∙ sym q); the_row = y ∙ ap f (g ∙ sym q) ∙ m (at + length bs) })

-- a call that writes nothing
noted : (buf row : List ℕ) (w : ℕ) (next : State) → 0 ≡ or_else (unsound (length buf) (writer_of row)) w → (row' : List ℕ) → row' ≡ writer_after row 0 (moved_to next (writer_of row).place.0) → Made row row' buf buf 0 (writer_of row) (call w [] next)
noted buf row w next free row' e =
    let k : Kept row row' 0 (written (moved_to next (writer_of row).place.0)) = record { number = refl; the_row = e } in
    record {
      kept = subst (Kept row row' 0) (noting buf (writer_of row) w 0 next free refl) k;
      the_buf = untouched buf (writer_of row) w 0 next free refl;
    }

-- behind the row's own test, which answered n; m is what the code found wrong with the arguments, and then with the size
module _ (buf row : List ℕ) (n : ℕ) (e : n ≡ or_else (unsound (length buf) (writer_of row)) (turn (writer_of row).pending.0)) where
  pub before : (wrong : ℕ) → (n ≡ 0 → ⊥) → n ≡ or_else (unsound (length buf) (writer_of row)) (in_turn (writer_of row) wrong)
  before wrong h = or_first n wrong h ∙ writer_order (length buf) row n e wrong

  -- of what is out of turn, wrong and too large the first
  in_order : (wrong size : ℕ) → or_else (unsound (length buf) (writer_of row)) (in_turn (writer_of row) (or_else wrong size)) ≡ or_else (unsound (length buf) (writer_of row)) (or_else (in_turn (writer_of row) wrong) size)
  in_order wrong size = ap (or_else (unsound (length buf) (writer_of row))) (turn_over (writer_of row) wrong size)

  pub barred : (wrong : ℕ) (bs : List ℕ) (next : State) → (n ≡ 0 → ⊥) → Made row row buf buf n (writer_of row) (call (in_turn (writer_of row) wrong) bs next)
  barred wrong bs next h =
      stopped buf row (in_turn (writer_of row) wrong) bs next n (before (or_else wrong (size_wrong next (length bs))) h ∙ in_order wrong (size_wrong next (length bs))) h

  module _ (h : n ≡ 0) where
    pub clear : Open row
    clear = writer_opens (length buf) row n e h

    is : writer_of row ≡ writer_in row
    is = writer_is row clear

    here : (writer_of row).place.0 ≡ get_or row 0 0
    here = ap (λ (st : State). st.place.0) is

    pub behind : (wrong : ℕ) → wrong ≡ or_else (unsound (length buf) (writer_of row)) (in_turn (writer_of row) wrong)
    behind wrong = sym (or_second wrong) ∙ ap (λ (x : ℕ). or_else x wrong) (sym h) ∙ writer_order (length buf) row n e wrong

    module _ (m wrong : ℕ) (bs : List ℕ) (next : State) (d : m ≡ or_else wrong (size_wrong next (length bs))) where
      reason : m ≡ or_else (unsound (length buf) (writer_of row)) (or_else (in_turn (writer_of row) wrong) (size_wrong next (length bs)))
      reason = d ∙ behind (or_else wrong (size_wrong next (length bs))) ∙ in_order wrong (size_wrong next (length bs))

      pub denied : (m ≡ 0 → ⊥) → Made row row buf buf m (writer_of row) (call (in_turn (writer_of row) wrong) bs next)
      denied k = stopped buf row (in_turn (writer_of row) wrong) bs next m reason k

      free_of : m ≡ 0 → 0 ≡ or_else (unsound (length buf) (writer_of row)) (or_else (in_turn (writer_of row) wrong) (size_wrong next (length bs)))
      free_of z = sym z ∙ reason

    -- of a call whose arguments can't be wrong m is the size's alone
    module _ (m size : ℕ) (d : m ≡ size_wrong (writer_in row) size) (bs : List ℕ) (l : size ≡ length bs) where
      pub sized : m ≡ or_else 0 (size_wrong (writer_of row) (length bs))
      sized = rw (is, ← l) (d ∙ sym (or_second (size_wrong (writer_in row) size)))

      sized_head : (id : FieldId) → m ≡ or_else 0 (size_wrong (headed (writer_of row) id) (length bs))
      unfolding size_wrong
      sized_head id = sized

      pub full : (m ≡ 0 → ⊥) → Made row row buf buf m (writer_of row) (call (in_turn (writer_of row) 0) bs (writer_of row))
      full k = denied m 0 bs (writer_of row) sized k

      pub full_head : (id : FieldId) → (m ≡ 0 → ⊥) → Made row row buf buf m (writer_of row) (call (in_turn (writer_of row) 0) bs (headed (writer_of row) id))
      full_head id k = denied m 0 bs (headed (writer_of row) id) (sized_head id) k

    -- the bytes cs at the place
    module _ (at : ℕ) (a : at ≡ get_or row 0 0) (cs bs : List ℕ) (c : cs ≡ bs) (r : Wrote) (g : r ≡ wrote_at buf at cs) (row' buf' : List ℕ) (k : ℕ) (b : buf' ≡ put_at buf at cs) (x : k ≡ wrote_number r) where
      told : r ≡ wrote_at buf (writer_of row).place.0 bs
      told = rw (here, ← a, ← c) g

      left : buf' ≡ put_at buf (writer_of row).place.0 bs
      left = rw (here, ← a, ← c) b

      pub went_as : (m wrong : ℕ) → m ≡ or_else wrong (size_wrong (writer_of row) (length bs)) → m ≡ 0 → row' ≡ wrote_row row r → Made row row' buf buf' k (writer_of row) (call (in_turn (writer_of row) wrong) bs (writer_of row))
      went_as m wrong d z y =
          placed buf row (in_turn (writer_of row) wrong) bs (writer_of row) (free_of m wrong bs (writer_of row) d z) (wrote_row row) (λ p. writer_moves row clear p) refl r row' buf' k told left x y

      -- a message's header, from whose first byte it is counted
      pub went_begun : (m wrong : ℕ) → m ≡ or_else wrong (size_wrong (begun_here (writer_of row)) (length bs)) → m ≡ 0 → row' ≡ begun_row row at r → Made row row' buf buf' k (writer_of row) (call (in_turn (writer_of row) wrong) bs (begun_here (writer_of row)))
      went_begun m wrong d z y =
          placed buf row (in_turn (writer_of row) wrong) bs (begun_here (writer_of row)) (free_of m wrong bs (begun_here (writer_of row)) d z) (begun_row row (get_or row 0 0)) (λ p. writer_begins row clear p) refl r row' buf' k told left x (rw a at y)

      module _ (m size : ℕ) (d : m ≡ size_wrong (writer_in row) size) (l : size ≡ length cs) (z : m ≡ 0) where
        fits : size ≡ length bs
        fits = l ∙ ap length c

        -- a field's header, whose id is the last one from then on
        pub went_headed : (id : ℤ) → SFits w16 id → row' ≡ headed_row row (to_z w16 (of_z w16 id)) r → Made row row' buf buf' k (writer_of row) (call (in_turn (writer_of row) 0) bs (headed (writer_of row) (record { 0 = id })))
        went_headed id u y =
            placed buf row (in_turn (writer_of row) 0) bs (headed (writer_of row) (record { 0 = id }))
            (free_of m 0 bs (headed (writer_of row) (record { 0 = id })) (sized_head m size d bs fits (record { 0 = id })) z)
            (headed_row row id) (λ p. writer_heads row clear p (record { 0 = id })) refl r row' buf' k told left x (rw (to_z-of_z u) at y)

        pub went : row' ≡ wrote_row row r → Made row row' buf buf' k (writer_of row) (call (in_turn (writer_of row) 0) bs (writer_of row))
        went y = went_as m 0 (sized m size d bs fits) z y

    -- a call that is refused for its arguments
    pub refuses : (why : ℕ) → Made row row buf buf why (writer_of row) (wrong_call (writer_of row) why)
    refuses zero = noted buf row (in_turn (writer_of row) 0) (writer_of row) (behind 0) row (writer_stays row clear 0)
    refuses (suc n) = denied (suc n) (suc n) [] (writer_of row) (sym (unsized (writer_of row) (suc n))) (λ q. omega arith)

    -- what the code found against the row's limits and ceiling is so against the state's; a number may reach it through its bits, as y
    module _ (m : ℕ) where
      pub bytes_stop : (bs : List ℕ) → m ≡ or_else (length_wrong (limits_of row) bs) (size_wrong (writer_in row) (length (string_bytes bs))) → m ≡ or_else (length_wrong (writer_of row).limits bs) (size_wrong (writer_of row) (length (string_bytes bs)))
      bytes_stop bs d = rw is d

      pub string_stop : (bs : List ℕ) → m ≡ or_else (text_wrong (limits_of row) bs) (size_wrong (writer_in row) (length (string_bytes bs))) → m ≡ or_else (text_wrong (writer_of row).limits bs) (size_wrong (writer_of row) (length (string_bytes bs)))
      string_stop bs d = rw is d

      pub items_stop : (t : TType) (y z : ℤ) → m ≡ or_else (count_wrong (limits_of row) t t y) (size_wrong (writer_in row) (length (items_bytes t (above y)))) → y ≡ z → m ≡ or_else (count_wrong (writer_of row).limits t t z) (size_wrong (writer_of row) (length (items_bytes t (above z))))
      items_stop t y z d f = rw (is, ← f) d

      pub pairs_stop : (t u : TType) (y z : ℤ) → m ≡ or_else (count_wrong (limits_of row) t u y) (size_wrong (writer_in row) (length (pairs_bytes t u (above y)))) → y ≡ z → m ≡ or_else (count_wrong (writer_of row).limits t u z) (size_wrong (writer_of row) (length (pairs_bytes t u (above z))))
      pairs_stop t u y z d f = rw (is, ← f) d

      pub message_stop : (a : TMessageType) (y z : ℤ) (name : List ℕ) → m ≡ or_else (text_wrong (limits_of row) name) (size_wrong (begun_here (writer_in row)) (2 + length (fewest (of_z w32 y)) + length (fewest (length name)) + length name)) → y ≡ z → m ≡ or_else (text_wrong (writer_of row).limits name) (size_wrong (begun_here (writer_of row)) (length (message_bytes a z name)))
      message_stop a y z name d f =
          rw is (d ∙ ap (λ (i : ℕ). or_else (text_wrong (limits_of row) name) (size_wrong (begun_here (writer_in row)) i)) (message_size a y z name (2 + length (fewest (of_z w32 y)) + length (fewest (length name))) refl f))

-- the sizes that the code names
pub int_sized : (n : ℕ) (y z : ℤ) → n ≡ zigzag y → y ≡ z → length (fewest n) ≡ length (int_bytes z)
int_sized n y z e f = ap length (int_is n y z e f)

pub ruleset plain_cases = (barred, full, went, double_size)

pub ruleset int_cases = (barred, full, went, int_is, int_sized, byte_is, to_z-of_z, sfits_of)

pub ruleset bytes_cases = (barred, denied, went_as, bytes_stop, string_stop)

-- types by number. Till the number is looked at the call is refused whatever it says
module _ (buf row : List ℕ) (n : ℕ) (e : n ≡ or_else (unsound (length buf) (writer_of row)) (turn (writer_of row).pending.0)) (h : n ≡ 0 → ⊥) where
  abbrev Barred : Call → Type 0
  Barred c = Made row row buf buf n (writer_of row) c

  items_barred : (z : ℤ) (t : TypeRead) → Barred (items_of_type (writer_of row) z t)
  items_barred z (R.Got t) = barred buf row n e _ _ _ h
  items_barred z (R.Refused why) = barred buf row n e _ _ _ h

  pub items_by_barred : (k : ℕ) (z : ℤ) → Made row row buf buf n (writer_of row) (items_by (writer_of row) k z)
  unfolding items_by
  items_by_barred k z = items_barred z (type_by_number k)

  pairs_barred : (z : ℤ) (t u : TypeRead) → Barred (pairs_of_types (writer_of row) z t u)
  pairs_barred z (R.Got t) (R.Got u) = barred buf row n e _ _ _ h
  pairs_barred z (R.Got t) (R.Refused why) = barred buf row n e _ _ _ h
  pairs_barred z (R.Refused why) u = barred buf row n e _ _ _ h

  pub pairs_by_barred : (k v : ℕ) (z : ℤ) → Made row row buf buf n (writer_of row) (pairs_by (writer_of row) k v z)
  unfolding pairs_by
  pairs_by_barred k v z = go (is_none z)
    where
      go : (b : Bool) → Barred (cond b (pairs_call (writer_of row) T.Stop T.Stop z) (pairs_of_types (writer_of row) z (type_by_number k) (type_by_number v)))
      go true = barred buf row n e _ _ _ h
      go false = pairs_barred z (type_by_number k) (type_by_number v)

  message_barred : (i : SeqNo) (name : List ℕ) (m : MessageTypeRead) → Barred (message_of_type (writer_of row) i name m)
  message_barred i name (MR.Got m) = barred buf row n e _ _ _ h
  message_barred i name (MR.Refused why) = barred buf row n e _ _ _ h

  pub message_by_barred : (k : ℕ) (i : SeqNo) (name : List ℕ) → Made row row buf buf n (writer_of row) (message_by (writer_of row) k i name)
  unfolding message_by
  message_by_barred k i name = message_barred i name (message_by_number k)

  field_barred : (id : FieldId) (t : TypeRead) → Barred (field_of_type (writer_of row) id t)
  unfolding field_call
  field_barred id (R.Got t) = barred buf row n e _ _ _ h
  field_barred id (R.Refused why) = barred buf row n e _ _ _ h

  pub field_by_barred : (k : ℕ) (id : FieldId) → Made row row buf buf n (writer_of row) (field_by (writer_of row) k id)
  unfolding field_by
  field_by_barred k id = field_barred id (type_by_number k)

-- then it is the call of its type, or refused
module _ (row row' buf buf' : List ℕ) (r : ℕ) (st : State) where
  abbrev Does : Call → Type 0
  Does c = Made row row' buf buf' r st c

  module _ (k : ℕ) (t : TypeRead) (e : t ≡ type_by_number k) where
    pub items_typed : (a : TType) (z : ℤ) → t ≡ R.Got a → Does (items_call st a z) → Does (items_by st k z)
    unfolding items_by
    items_typed a z f m = rw (← e, f) m

    pub items_untyped : (why : ℕ) (z : ℤ) → t ≡ R.Refused why → Does (wrong_call st why) → Does (items_by st k z)
    unfolding items_by
    items_untyped why z f m = rw (← e, f) m

    pub field_untyped : (why : ℕ) (id : FieldId) → t ≡ R.Refused why → Does (wrong_call st why) → Does (field_by st k id)
    unfolding field_by
    field_untyped why id f m = rw (← e, f) m

    pub keys_untyped : (why v : ℕ) (z : ℤ) → is_none z ≡ false → t ≡ R.Refused why → Does (wrong_call st why) → Does (pairs_by st k v z)
    unfolding pairs_by
    keys_untyped why v z s f m = rw (s, ← e, f) m

    -- the count reaches the call through its bits, as y
    pub keys_typed : (a : TType) (v : ℕ) (y z : ℤ) → is_none z ≡ false → t ≡ R.Got a → Does (pairs_of_types st y (R.Got a) (type_by_number v)) → y ≡ z → Does (pairs_by st k v z)
    unfolding pairs_by
    keys_typed a v y z s f m g = rw (s, ← e, f) (rw g at m)

    pub values_untyped : (why : ℕ) (a : TType) (z : ℤ) → t ≡ R.Refused why → Does (wrong_call st why) → Does (pairs_of_types st z (R.Got a) (type_by_number k))
    values_untyped why a z f m = rw (← e, f) m

    pub values_typed : (a b : TType) (z : ℤ) → t ≡ R.Got b → Does (pairs_call st a b z) → Does (pairs_of_types st z (R.Got a) (type_by_number k))
    values_typed a b z f m = rw (← e, f) m

  module _ (k : ℕ) (m : MessageTypeRead) (e : m ≡ message_by_number k) where
    pub message_typed_lem : (a : TMessageType) (i : SeqNo) (name : List ℕ) → m ≡ MR.Got a → Does (message_call st a i name) → Does (message_by st k i name)
    unfolding message_by
    message_typed_lem a i name f d = rw (← e, f) d

    pub message_untyped : (why : ℕ) (i : SeqNo) (name : List ℕ) → m ≡ MR.Refused why → Does (wrong_call st why) → Does (message_by st k i name)
    unfolding message_by
    message_untyped why i name f d = rw (← e, f) d

-- the count reaches it through its bits, as y
pub items_back : (row row' buf buf' : List ℕ) (r : ℕ) (st : State) (k : ℕ) (y z : ℤ) → Made row row' buf buf' r st (items_by st k y) → y ≡ z → Made row row' buf buf' r st (items_by st k z)
items_back row row' buf buf' r st k y z m f = rw f at m

pub ruleset items_by_lem = (items_back, to_z-of_z, sfits_of)

-- the sequence number reaches the call through its bits, as y
pub message_is : (m : TMessageType) (y z : ℤ) (name : List ℕ) → y ≡ z → message_bytes m y name ≡ message_bytes m z name
message_is m y z name f = rw f

pub ruleset items_cases = (items_by_barred, items_typed, items_untyped, refuses, denied, went_as, items_stop, items_is, to_z-of_z, sfits_of)

pub ruleset message_cases = (message_by_barred, message_typed_lem, message_untyped, refuses, denied, went_begun, message_stop, message_is, to_z-of_z, sfits_of)

-- an empty map has no types: whatever numbers are given for them
not_none : (z : ℤ) → (z ≡ pos 0 → ⊥) → is_none z ≡ false
not_none (pos n) h = ne_eqb n 0 (λ e. h (ap pos e))
not_none (negsuc n) h = refl

module _ (z : ℤ) (f : SFits w32 z) where
  is_zero : of_z w32 z ≡ 0 → z ≡ pos 0
  is_zero e = sym (to_z-of_z f) ∙ ap (to_z w32) e

  pub some_pairs : (of_z w32 z ≡ 0 → ⊥) → is_none z ≡ false
  some_pairs h = not_none z (λ e. h (ap (of_z w32) e))

  pub no_pairs : (row row' buf buf' : List ℕ) (r : ℕ) (st : State) (k v : ℕ) → of_z w32 z ≡ 0 → Made row row' buf buf' r st (call (in_turn st 0) (0 ∷ []) st) → Made row row' buf buf' r st (pairs_by st k v z)
  unfolding pairs_by count_wrong pairs_bytes
  no_pairs row row' buf buf' r st k v e m = rw (is_zero e) m

pub passes : (buf row : List ℕ) (n : ℕ) → n ≡ or_else (unsound (length buf) (writer_of row)) (turn (writer_of row).pending.0) → n ≡ 0 → 0 ≡ or_else (unsound (length buf) (writer_of row)) (turn (writer_of row).pending.0)
passes buf row n e h = sym h ∙ e

pub ruleset pairs_cases = (values_untyped, values_typed, refuses, denied, went_as, pairs_stop, pairs_is, to_z-of_z, sfits_of)

pub ruleset map_cases = (pairs_by_barred, no_pairs, some_pairs, keys_untyped, keys_typed, passes, refuses, full, went, to_z-of_z, sfits_of)

-- fields, by the type's number k
whole_code : (k : ℕ) (a : TType) → k ≡ type_code a → k % 16 ≡ k
whole_code k a e = mod-eq_of_lt (rw e (code_below a))

module _ (buf row : List ℕ) (n : ℕ) (e : n ≡ or_else (unsound (length buf) (writer_of row)) (turn (writer_of row).pending.0)) (h : n ≡ 0) (k : ℕ) where
  pub field_none : (id : FieldId) → k ≡ 0 → Made row row buf buf BAD_TYPE (writer_of row) (field_by (writer_of row) k id)
  unfolding field_by field_call type_by_number field_wrong type_code
  field_none id z = rw z (denied buf row n e h BAD_TYPE BAD_TYPE _ _ (or_first BAD_TYPE _ (λ q. omega arith)) (λ q. omega arith))

  -- a bool's waits: c is its id's bits
  pub field_noted : (c m : ℕ) (y id : ℤ) (row' : List ℕ) → k ≡ 1 → m ≡ get_or row 1 0 → c ≡ of_z w16 y → y ≡ id → row' ≡ set row 1 (m + (c + 1) * 65536) → Made row row' buf buf 0 (writer_of row) (field_by (writer_of row) k (record { 0 = id }))
  unfolding field_by field_call type_by_number field_wrong type_code
  field_noted c m y id row' z a d f g =
      rw z
      (noted buf row (in_turn (writer_of row) 0) (awaiting (writer_of row) (record { 0 = id })) (behind buf row n e h 0) row'
      (rw (d, f) at g ∙ writer_awaits row (clear buf row n e h) m (record { 0 = id }) a))

  -- which has room above the last id
  pub waits_on : (c m : ℕ) → m ≡ get_or row 1 0 → c < 65536 → Fits w64 (m + (c + 1) * 65536)
  waits_on c m a b = record { fits = omega (arith, (clear buf row n e h).alone) }

  -- any other's is written, with the last id from the row. The ids may reach the call through their bits, as l and i
  pub header_is : (c : ℕ) (l y i id : ℤ) → l ≡ y → y ≡ last_in (get_or row 1 0) → i ≡ id → field_bytes l i c ≡ field_bytes (writer_of row).last.0 id c
  header_is c l y i id u q s = rw (writer_is row (clear buf row n e h), u, q, s)

  pub header_sized : (c : ℕ) (l y i id : ℤ) → l ≡ y → y ≡ last_in (get_or row 1 0) → i ≡ id → length (field_bytes l i c) ≡ length (field_bytes (writer_of row).last.0 id c)
  header_sized c l y i id u q s = ap length (header_is c l y i id u q s)

pub field_typed : (row row' buf buf' : List ℕ) (r : ℕ) (st : State) (k : ℕ) (t : TypeRead) (a : TType) (id : ℤ) → t ≡ type_by_number k → t ≡ R.Got a → (k ≡ 0 → ⊥) → (k ≡ 1 → ⊥) → Made row row' buf buf' r st (call (in_turn st 0) (field_bytes st.last.0 id (k % 16)) (headed st (record { 0 = id }))) → Made row row' buf buf' r st (field_by st k (record { 0 = id }))
unfolding field_by field_call field_wrong
field_typed row row' buf buf' r st k t a id b f some other m =
    let c : k ≡ type_code a = number_is k a (sym b ∙ f) in
    rw (← b, f, ← c, ne_eqb k 0 some, ne_eqb k 1 other) (rw (whole_code k a c) at m)

pub ruleset field_cases = (field_by_barred, field_none, field_untyped, refuses, field_noted, field_typed, header_is, header_sized, full_head, went_headed, waits_on, to_z-of_z, sfits_of)

-- bools: nothing but the state stops them
no_turn : (n u : ℕ) (a : AwaitedField) → n ≡ or_else u (turn a) → (n ≡ 0 → ⊥) → (n ≡ OUT_OF_TURN → ⊥) → n ≡ or_else u 0
unfolding or_else
no_turn n zero A.Nothing e h k = absurd (h e)
no_turn n zero (A.Field id) e h k = absurd (k e)
no_turn n (suc u) a e h k = let f = ne_eqb (suc u) 0 (λ q. omega arith) in rw f (rw f at e)

sound_turn : (b : Bool) (x : ℕ) → OUT_OF_TURN ≡ or_else (cond b 0 BAD_STATE) x → cond b 0 BAD_STATE ≡ 0
unfolding or_else
sound_turn true x e = refl
sound_turn false x e = absurd (omega arith)

-- what the state shows comes before the size
or_later : (n u x : ℕ) → n ≡ or_else u 0 → (n ≡ 0 → ⊥) → or_else u 0 ≡ or_else u (or_else 0 x)
unfolding or_else
or_later n zero x f h = absurd (h f)
or_later n (suc u) x f h = rw (ne_eqb (suc u) 0 (λ q. omega arith))

whole_truth : (b : Bool) (c : ℕ) → c ≡ truth_code b → c % 16 ≡ c
whole_truth b c e = mod-eq_of_lt (rw e (truth_below b))

module _ (buf row : List ℕ) (n : ℕ) (e : n ≡ or_else (unsound (length buf) (writer_of row)) (turn (writer_of row).pending.0)) (b : Bool) where
  truth_barred : n ≡ or_else (unsound (length buf) (writer_of row)) 0 → (n ≡ 0 → ⊥) → (a : AwaitedField) → Made row row buf buf n (writer_of row) (truth_call (writer_of row) b a)
  truth_barred f h A.Nothing = stopped buf row 0 _ _ n (f ∙ or_later n (unsound (length buf) (writer_of row)) _ f h) h
  truth_barred f h (A.Field id) = stopped buf row 0 _ _ n (f ∙ or_later n (unsound (length buf) (writer_of row)) _ f h) h

  pub bool_barred : (n ≡ 0 → ⊥) → (n ≡ OUT_OF_TURN → ⊥) → Made row row buf buf n (writer_of row) (bool_call (writer_of row) b)
  unfolding bool_call
  bool_barred h k = truth_barred (no_turn n _ (writer_of row).pending.0 e h k) h (writer_of row).pending.0

  of_turn : {row' buf' : List ℕ} {k : ℕ} {x y : AwaitedField} → x ≡ y → Made row row' buf buf' k (writer_of row) (truth_call (writer_of row) b x) → Made row row' buf buf' k (writer_of row) (truth_call (writer_of row) b y)
  of_turn {row'} {buf'} {k} f m = subst (λ (w : AwaitedField). Made row row' buf buf' k (writer_of row) (truth_call (writer_of row) b w)) f m

  -- an element: m is what its size shows
  module _ (h : n ≡ 0) (m : ℕ) (d : m ≡ size_wrong (writer_in row) (1 + 0)) where
    free_row : Open row
    free_row = writer_opens (length buf) row n e h

    none_waits : (writer_of row).pending.0 ≡ A.Nothing
    none_waits = ap (λ (st : State). st.pending.0) (writer_is row free_row) ∙ writer_free row free_row

    why_not_lem : m ≡ or_else (unsound (length buf) (writer_of row)) (or_else 0 (size_wrong (writer_of row) (length (truth_code b ∷ []))))
    unfolding or_else
    why_not_lem =
        let none = (both_none (unsound (length buf) (writer_of row)) (turn (writer_of row).pending.0) (sym e ∙ h)).0 in
        rw (none, writer_is row free_row) d

    pub bool_full : (m ≡ 0 → ⊥) → Made row row buf buf m (writer_of row) (bool_call (writer_of row) b)
    unfolding bool_call
    bool_full k = of_turn (sym none_waits) (stopped buf row 0 (truth_code b ∷ []) (writer_of row) m why_not_lem k)

    pub bool_element : (at c : ℕ) → at ≡ get_or row 0 0 → c ≡ truth_code b → (r : Wrote) (row' buf' : List ℕ) (k : ℕ) → k ≡ wrote_number r → m ≡ 0 → r ≡ wrote_at buf at (c ∷ []) → buf' ≡ put_at buf at (c ∷ []) → row' ≡ wrote_row row r → Made row row' buf buf' k (writer_of row) (bool_call (writer_of row) b)
    unfolding bool_call
    bool_element at c a v r row' buf' k x z g f y =
        let place : (writer_of row).place.0 ≡ get_or row 0 0 = ap (λ (st : State). st.place.0) (writer_is row free_row) in
        of_turn (sym none_waits)
        (placed buf row 0 (truth_code b ∷ []) (writer_of row) (sym z ∙ why_not_lem) (wrote_row row) (λ p. writer_moves row free_row p) refl r row' buf' k
        (rw (place, ← a, ← v) g) (rw (place, ← a, ← v) f) x y)

  -- the field that waits: z is its id, which the code finds above the last one's bits and which passes through its bits, as i
  module _ (h : n ≡ OUT_OF_TURN) where
    waiting : Waiting writer_top row
    waiting = held writer_top (length buf) row (writer_gate (length buf) row ∙ sym e ∙ h)

    is_held : writer_of row ≡ writer_in row
    unfolding writer_of
    is_held = rw (eq-eqb (length row) 6 waiting.six, lt-ltb (get_or row 1 0) 4295032832 waiting.below)

    sound_row : unsound (length buf) (writer_of row) ≡ 0
    unfolding unsound
    sound_row = sound_turn (in_range (writer_of row).limits && leb (writer_of row).place.0 (length buf) && leb (writer_of row).depth (writer_of row).limits.depth && leb (writer_of row).begin.0 (writer_of row).place.0 && leb (writer_of row).place.0 (cut_of (writer_of row))) _ (sym h ∙ e)

    heads : (p : ℕ) (id : FieldId) → set (set row 0 p) 1 (of_z w16 id.0) ≡ writer_after row 0 (moved_to (headed (writer_of row) id) p)
    unfolding writer_after field_no
    heads p id =
        let plain : of_z w16 id.0 ≡ of_z w16 id.0 + 0 * 65536 = omega arith in
        rw is_held (ap (set (set row 0 p) 1) plain ∙ row_headed row waiting.six p 0 id.0)

    module _ (t : ℕ) (o : t ≡ get_or row 1 0) (l y i z : ℤ) (q : z ≡ last_in (t / 65536 + 65535)) (w : l ≡ y) (s : y ≡ last_in (get_or row 1 0)) (u : i ≡ z) (c : ℕ) (v : c ≡ truth_code b) (m : ℕ) (d : m ≡ size_wrong (writer_in row) (length (field_bytes l i (c % 16)))) where
      awaits : (writer_of row).pending.0 ≡ A.Field (record { 0 = z })
      unfolding field_of
      awaits =
          let some : (get_or row 1 0 / 65536 ≡ 0 → ⊥) = λ f. omega (arith, waiting.some) in
          let bits : (t / 65536 + 65535) % 65536 ≡ get_or row 1 0 / 65536 - 1 = omega (arith, waiting.some, waiting.below) in
          rw (is_held, ne_eqb (get_or row 1 0 / 65536) 0 some, q, bits)

      bytes : field_bytes l i (c % 16) ≡ field_bytes (writer_of row).last.0 z (truth_code b)
      bytes = rw (is_held, w, s, u, whole_truth b c v, v)

      why_head : m ≡ or_else (unsound (length buf) (writer_of row)) (or_else 0 (size_wrong (headed (writer_of row) (record { 0 = z })) (length (field_bytes (writer_of row).last.0 z (truth_code b)))))
      unfolding or_else size_wrong
      why_head = rw (sound_row, ← bytes, is_held) d

      pub head_full : (m ≡ 0 → ⊥) → Made row row buf buf m (writer_of row) (bool_call (writer_of row) b)
      unfolding bool_call
      head_full k = of_turn (sym awaits) (stopped buf row 0 (field_bytes (writer_of row).last.0 z (truth_code b)) (headed (writer_of row) (record { 0 = z })) m why_head k)

      pub bool_headed : (at : ℕ) → at ≡ get_or row 0 0 → (cs : List ℕ) (r : Wrote) → r ≡ wrote_at buf at cs → (row' buf' : List ℕ) (k : ℕ) → k ≡ wrote_number r → buf' ≡ put_at buf at cs → cs ≡ field_bytes l i (c % 16) → m ≡ 0 → row' ≡ headed_row row (to_z w16 (of_z w16 z)) r → SFits w16 z → Made row row' buf buf' k (writer_of row) (bool_call (writer_of row) b)
      unfolding bool_call
      bool_headed at a cs r g row' buf' k x f same none g' fit =
          let place : (writer_of row).place.0 ≡ get_or row 0 0 = ap (λ (st : State). st.place.0) is_held in
          of_turn (sym awaits)
          (placed buf row 0 (field_bytes (writer_of row).last.0 z (truth_code b)) (headed (writer_of row) (record { 0 = z })) (sym none ∙ why_head) (headed_row row z) (λ p. heads p (record { 0 = z })) refl r row' buf' k
          (rw (← bytes, ← same, place, ← a) g) (rw (← bytes, ← same, place, ← a) f) x (rw (to_z-of_z fit) at g'))

-- the test of a bool that waits, for the inner call
pub waits_so : (buf row : List ℕ) (n : ℕ) → n ≡ or_else (unsound (length buf) (writer_of row)) (turn (writer_of row).pending.0) → n ≡ OUT_OF_TURN → OUT_OF_TURN ≡ or_else (unsound (length buf) (writer_of row)) (turn (writer_of row).pending.0)
waits_so buf row n e h = sym h ∙ e

pub awaited_fits : (m : ℕ) → m < 2 ^ 64 → Fits w64 (m / 65536 + 65535)
awaited_fits m h = record { fits = omega arith }

pub ruleset bool_cases = (bool_barred, bool_full, bool_element, waits_so)

pub ruleset waiting_cases = (head_full, bool_headed, awaited_fits, to_z-of_z, sfits_of)
