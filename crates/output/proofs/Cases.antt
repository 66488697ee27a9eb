-- What the calls answer, and what they leave, at each of their returns: once for all calls, over the one definition. Assumes nothing.
use mathlib.Core.Path.{◌≡◌, refl, sym, ap, ap₂, ◌∙◌}
use mathlib.Core.Bool.{Bool}
use mathlib.Core.List.{List, [], ◌∷◌, ◌++◌}
use Prim.Native.Nat.{ℕ, ◌+◌, ◌-◌, ◌*◌, ◌%◌, ◌^◌, ◌≤◌, ◌<◌}
use native.Mathlib.Nat.{add-zero, mod-eq_of_lt}
use native.Mathlib.Omega.{arith}
use borrow.Author.Rules.{sfits_of}
use borrow.Author.Tests.{eq-eqb, ne_eqb}
use lib.IntN.{ℤ, pos}
use lib.ListN.{length, get_or, set, length-append}
use lib.Signed.{mag}
use mir.Syntax.{w8, w16, w32, w64}
use mir.Val.{Fits, SFits, to_z, of_z}
use mir.Facts.{to_z-of_z}
use Rattle.types.specs.Codes.{type_code, truth_code}
use Rattle.types.specs.declared.TType.{TType}
use Rattle.types.specs.declared.FieldId.{FieldId}
use Rattle.types.specs.declared.TMessageType.{TMessageType}
use Rattle.types.specs.declared.TConfiguration.{TConfiguration}
use Rattle.numbers.specs.Varint.{fewest}
use Rattle.zigzag.specs.Zigzag.{zigzag}
use Rattle.numbers.specs.Answers.{wrote_at, put_at}
use Rattle.numbers.specs.declared.Wrote.{Wrote}
use Rattle.numbers.specs.declared.Wrote.TheVariants as W
use Rattle.numbers.specs.Fixed.{eight}
use Rattle.numbers.proofs.Fixed.{length_eight}
use Rattle.numbers.proofs.Put.{wrote_to, put_in}
use Rattle.output.specs.State.{State, id_of, unsound, in_turn, begun_here, moved_to, headed, awaiting, entered, ended}
use Rattle.puts.specs.Bytes.{above, int_bytes, field_bytes, items_bytes, pairs_bytes, string_bytes, message_bytes}
use Rattle.puts.specs.Wrong.{or_else, field_wrong, count_wrong}
use Rattle.output.specs.Calls.{call, refused_by, written, settled, size_wrong, why_not, writes, leaves, begin_wrong, end_wrong, field_call, truth_call, bool_call}
use Rattle.output.specs.declared.Written.{Written}
use Rattle.output.specs.declared.AwaitedField.{AwaitedField}
use Rattle.output.specs.declared.AwaitedField.TheVariants as A
use Rattle.puts.proofs.Pieces.{code_below, truth_below}
use Rattle.puts.proofs.Checks.{both_none}
use Rattle.output.proofs.Checks.{Sound, sound, begin_fits, end_fits, unsized, turn_over}

-- the state behind what was written
module _ (st next : State) (w : Wrote) where
  pub moved_to_lem : (p : ℕ) → w ≡ W.To p → written (moved_to next p) ≡ settled st next w
  unfolding settled
  moved_to_lem p e = rw e

  pub moved_not : (why : ℕ) (r : Written) → r ≡ refused_by st why → w ≡ W.Refused why → r ≡ settled st next w
  unfolding settled
  moved_not why r f e = rw e f

pub begun_to : (st : State) (w : Wrote) (p : ℕ) → w ≡ W.To p → written (moved_to (begun_here st) p) ≡ settled st (begun_here st) w
begun_to st w p e = moved_to_lem st (begun_here st) w p e

pub headed_to : (st : State) (id : FieldId) (w : Wrote) (p : ℕ) → w ≡ W.To p → written (moved_to (headed st id) p) ≡ settled st (headed st id) w
headed_to st id w p e = moved_to_lem st (headed st id) w p e

pub ruleset moved_cases = (moved_to_lem, begun_to, headed_to, moved_not)

-- a call with the refusal `wrong`, 0 for none: n is what stops it
module _ (buf : List ℕ) (st : State) (wrong n : ℕ) (bs : List ℕ) (next : State) (e : n ≡ or_else (unsound (length buf) st) (or_else wrong (size_wrong next (length bs)))) where
  pub refusing : (n ≡ 0 → ⊥) → refused_by st n ≡ writes buf st (call wrong bs next)
  unfolding writes why_not
  refusing h = rw (← e, ne_eqb n 0 h)

  pub keeping : (n ≡ 0 → ⊥) → buf ≡ leaves buf st (call wrong bs next)
  unfolding leaves why_not
  keeping h = rw (← e, ne_eqb n 0 h)

  module _ (h : n ≡ 0) where
    pub writing : settled st next (wrote_at buf st.place.0 bs) ≡ writes buf st (call wrong bs next)
    unfolding writes why_not
    writing = rw (← e, eq-eqb n 0 h)

    pub putting : put_at buf st.place.0 bs ≡ leaves buf st (call wrong bs next)
    unfolding leaves why_not
    putting = rw (← e, eq-eqb n 0 h)

    pub passed : Sound (length buf) st
    passed = sound (length buf) st (both_none (unsound (length buf) st) _ (sym e ∙ h)).0

-- a call that writes nothing
module _ (buf : List ℕ) (st : State) (wrong n : ℕ) (next : State) (e : n ≡ or_else (unsound (length buf) st) wrong) (h : n ≡ 0) where
  e' : n ≡ or_else (unsound (length buf) st) (or_else wrong (size_wrong next 0))
  e' = e ∙ ap (or_else (unsound (length buf) st)) (sym (unsized next wrong))

  pub noting : written (moved_to next st.place.0) ≡ writes buf st (call wrong [] next)
  unfolding settled
  noting =
      ap (λ (p : ℕ). written (moved_to next p)) (sym (add-zero st.place.0))
      ∙ ap (settled st next) (wrote_to buf st.place.0 [] (omega (arith, (passed buf st wrong n [] next e' h).here, add-zero st.place.0)))
      ∙ writing buf st wrong n [] next e' h

  pub untouched : buf ≡ leaves buf st (call wrong [] next)
  untouched = put_in buf st.place.0 [] (omega (arith, (passed buf st wrong n [] next e' h).here, add-zero st.place.0)) ∙ putting buf st wrong n [] next e' h

-- The same from what a call has: n comes from the turn and the refusal m, of the arguments and then of the size.
module _ (buf : List ℕ) (st : State) (n m : ℕ) (e : n ≡ or_else (unsound (length buf) st) (in_turn st m)) (wrong : ℕ) (bs : List ℕ) (next : State) (d : m ≡ or_else wrong (size_wrong next (length bs))) where
  stops : n ≡ or_else (unsound (length buf) st) (or_else (in_turn st wrong) (size_wrong next (length bs)))
  stops = e ∙ ap (λ (k : ℕ). or_else (unsound (length buf) st) (in_turn st k)) d ∙ ap (or_else (unsound (length buf) st)) (turn_over st wrong (size_wrong next (length bs)))

  pub stopped : (r : Written) → (n ≡ 0 → ⊥) → r ≡ refused_by st n → r ≡ writes buf st (call (in_turn st wrong) bs next)
  stopped r h f = f ∙ refusing buf st (in_turn st wrong) n bs next stops h

  pub stopped_left : (n ≡ 0 → ⊥) → buf ≡ leaves buf st (call (in_turn st wrong) bs next)
  stopped_left h = keeping buf st (in_turn st wrong) n bs next stops h

  module _ (h : n ≡ 0) (cs : List ℕ) where
    pub went : (w : Wrote) (r : Written) → r ≡ settled st next w → w ≡ wrote_at buf st.place.0 cs → cs ≡ bs → r ≡ writes buf st (call (in_turn st wrong) bs next)
    went w r f g c = f ∙ ap (settled st next) (g ∙ ap (wrote_at buf st.place.0) c) ∙ writing buf st (in_turn st wrong) n bs next stops h

    pub went_left : (after : List ℕ) → after ≡ put_at buf st.place.0 cs → cs ≡ bs → after ≡ leaves buf st (call (in_turn st wrong) bs next)
    went_left after g c = g ∙ ap (put_at buf st.place.0) c ∙ putting buf st (in_turn st wrong) n bs next stops h

-- what the bytes written are: a signed number reaches a call through its bits, as y
pub int_is : (n : ℕ) (y z : ℤ) → n ≡ zigzag y → y ≡ z → fewest n ≡ int_bytes z
int_is n y z e f = rw (e, f)

pub byte_is : (n : ℕ) (y z : ℤ) → n ≡ of_z w8 y → y ≡ z → n ∷ [] ≡ of_z w8 z ∷ []
byte_is n y z e f = rw (e, f)

pub items_is : (t : TType) (n : ℕ) (y z : ℤ) → n ≡ above y → y ≡ z → items_bytes t n ≡ items_bytes t (above z)
items_is t n y z e f = rw (e, f)

pub pairs_is : (k v : TType) (n : ℕ) (y z : ℤ) → n ≡ above y → y ≡ z → pairs_bytes k v n ≡ pairs_bytes k v (above z)
pairs_is k v n y z e f = rw (e, f)

-- the size that was asked for is the bytes', where w is what the arguments show
pub size_of : (st : State) (w wrong head body m : ℕ) (bs : List ℕ) → m ≡ or_else w (size_wrong st (head + body)) → w ≡ wrong → head + body ≡ length bs → m ≡ or_else wrong (size_wrong st (length bs))
size_of st w wrong head body m bs e g f = rw (g, f) at e

-- a call that writes nothing asks for no size
pub no_size : (st : State) (wrong m : ℕ) → m ≡ wrong → m ≡ or_else wrong (size_wrong st (length {A = ℕ} []))
no_size st wrong m e = e ∙ sym (unsized st wrong)

pub int_size : (k n : ℕ) (y z : ℤ) → k ≡ length (fewest n) → n ≡ zigzag y → y ≡ z → k + 0 ≡ length (int_bytes z)
int_size k n y z l e f = add-zero k ∙ l ∙ rw (e, f)

pub int_over : (st : State) (m k n : ℕ) (y z : ℤ) → m ≡ or_else 0 (size_wrong st (k + 0)) → k ≡ length (fewest n) → n ≡ zigzag y → y ≡ z → m ≡ or_else 0 (size_wrong st (length (int_bytes z)))
int_over st m k n y z d l e f = size_of st 0 0 k 0 m (int_bytes z) d refl (int_size k n y z l e f)

pub double_size : (n : ℕ) → 8 + 0 ≡ length (eight n)
double_size n = sym (length_eight n)

pub uuid_size : (bs : List ℕ) → 16 ≡ length bs → 16 + 0 ≡ length bs
uuid_size bs e = e

pub size_uuid : (bs : List ℕ) → length bs ≡ 16 → 16 + 0 ≡ length bs
size_uuid bs e = sym e

pub string_size : (head : ℕ) (bs : List ℕ) → head ≡ length (fewest (length bs)) → head + length bs ≡ length (string_bytes bs)
unfolding string_bytes
string_size head bs e = omega (arith, e, length-append (fewest (length bs)) bs)

pub items_size : (t : TType) (k n : ℕ) (y z : ℤ) → k ≡ length (items_bytes t n) → n ≡ above y → y ≡ z → k + 0 ≡ length (items_bytes t (above z))
items_size t k n y z e f g = add-zero k ∙ e ∙ rw (f, g)

pub pairs_size : (t u : TType) (k n : ℕ) (y z : ℤ) → k ≡ length (pairs_bytes t u n) → n ≡ above y → y ≡ z → k + 0 ≡ length (pairs_bytes t u (above z))
pairs_size t u k n y z e f g = add-zero k ∙ e ∙ rw (f, g)

pub items_over : (st : State) (lim : TConfiguration) (t : TType) (w m k n : ℕ) (x y z : ℤ) → m ≡ or_else w (size_wrong st (k + 0)) → w ≡ count_wrong lim t t x → x ≡ z → k ≡ length (items_bytes t n) → n ≡ above y → y ≡ z → m ≡ or_else (count_wrong lim t t z) (size_wrong st (length (items_bytes t (above z))))
items_over st lim t w m k n x y z d e f g h i = size_of st w (count_wrong lim t t z) k 0 m (items_bytes t (above z)) d (e ∙ ap (count_wrong lim t t) f) (items_size t k n y z g h i)

pub pairs_over : (st : State) (lim : TConfiguration) (t u : TType) (w m k n : ℕ) (x y z : ℤ) → m ≡ or_else w (size_wrong st (k + 0)) → w ≡ count_wrong lim t u x → x ≡ z → k ≡ length (pairs_bytes t u n) → n ≡ above y → y ≡ z → m ≡ or_else (count_wrong lim t u z) (size_wrong st (length (pairs_bytes t u (above z))))
pairs_over st lim t u w m k n x y z d e f g h i = size_of st w (count_wrong lim t u z) k 0 m (pairs_bytes t u (above z)) d (e ∙ ap (count_wrong lim t u) f) (pairs_size t u k n y z g h i)

pub message_size : (m : TMessageType) (y z : ℤ) (name : List ℕ) (head : ℕ) → head ≡ 2 + length (fewest (of_z w32 y)) + length (fewest (length name)) → y ≡ z → head + length name ≡ length (message_bytes m z name)
unfolding message_bytes string_bytes
message_size m y z name head e f =
    let g : head ≡ 2 + length (fewest (of_z w32 z)) + length (fewest (length name)) = rw f at e in
    omega (arith, g, length-append (fewest (of_z w32 z)) (fewest (length name) ++ name), length-append (fewest (length name)) name)

pub ruleset plain_cases = (stopped, stopped_left, went, went_left, size_of, double_size, uuid_size, size_uuid, string_size)

pub ruleset message_cases = (stopped, stopped_left, went, went_left, size_of, message_size, to_z-of_z, sfits_of)

pub ruleset int_cases = (stopped, stopped_left, went, went_left, int_over, int_is, to_z-of_z, sfits_of)

pub ruleset i8_cases = (stopped, stopped_left, went, went_left, size_of, byte_is, to_z-of_z, sfits_of)

-- the argument is the count, which reaches both calls through its bits
pub count_is : (lim : TConfiguration) (t u : TType) (m : ℕ) (y z : ℤ) → m ≡ count_wrong lim t u y → y ≡ z → m ≡ count_wrong lim t u z
count_is lim t u m y z e f = rw f at e

-- the count reaches both through its bits
pub items_to : (st : State) (lim : TConfiguration) (t : TType) (m : ℕ) (x z : ℤ) → m ≡ or_else (count_wrong lim t t x) (size_wrong st (length (items_bytes t (above x)))) → x ≡ z → m ≡ or_else (count_wrong lim t t z) (size_wrong st (length (items_bytes t (above z))))
items_to st lim t m x z e f = rw f at e

pub pairs_to : (st : State) (lim : TConfiguration) (t u : TType) (m : ℕ) (x z : ℤ) → m ≡ or_else (count_wrong lim t u x) (size_wrong st (length (pairs_bytes t u (above x)))) → x ≡ z → m ≡ or_else (count_wrong lim t u z) (size_wrong st (length (pairs_bytes t u (above z))))
pairs_to st lim t u m x z e f = rw f at e

pub bytes_over : (st : State) (m n : ℕ) → m ≡ or_else 0 (size_wrong st (0 + n)) → m ≡ or_else 0 (size_wrong st n)
bytes_over st m n e = let z : 0 + n ≡ n = omega arith in rw z at e

pub ruleset items_over_cases = (items_over, to_z-of_z, sfits_of)

pub ruleset pairs_over_cases = (pairs_over, to_z-of_z, sfits_of)

pub ruleset items_cases = (stopped, stopped_left, went, went_left, items_to, items_is, to_z-of_z, sfits_of)

pub ruleset pairs_cases = (stopped, stopped_left, went, went_left, pairs_to, pairs_is, to_z-of_z, sfits_of)

-- structs
module _ (buf : List ℕ) (st : State) (n m : ℕ) (e : n ≡ or_else (unsound (length buf) st) (in_turn st m)) (h : n ≡ 0) where
  nothing : m ≡ 0
  unfolding in_turn
  nothing = (both_none _ m (both_none (unsound (length buf) st) (in_turn st m) (sym e ∙ h)).1).1

  known : Sound (length buf) st
  known = sound (length buf) st (both_none (unsound (length buf) st) (in_turn st m) (sym e ∙ h)).0

  module _ (d : m ≡ begin_wrong st) where
    pub begin_in : st.depth < 64
    begin_in = omega (arith, begin_fits st (sym d ∙ nothing), known.limits.deep)

    pub begin_scaled : Fits w64 (st.depth * 2)
    begin_scaled = record { fits = omega (arith, begin_in) }

    pub begin_more : Fits w64 (st.depth + 1)
    begin_more = record { fits = omega (arith, begin_in) }

    -- the last id is saved through its bits, as l
    pub begin_done : (l : ℤ) → l ≡ st.last.0 → written (record { place = st.place; last = id_of (pos 0); depth = st.depth + 1; ids = set st.ids st.depth l; pending = st.pending; limits = st.limits; begin = st.begin }) ≡ writes buf st (call (in_turn st (begin_wrong st)) [] (entered st))
    begin_done l x = rw x (noting buf st (in_turn st (begin_wrong st)) n (entered st) (rw d at e) h)

    pub begin_left : buf ≡ leaves buf st (call (in_turn st (begin_wrong st)) [] (entered st))
    begin_left = untouched buf st (in_turn st (begin_wrong st)) n (entered st) (rw d at e) h

  module _ (d : m ≡ end_wrong st) where
    pub end_some : 1 ≤ st.depth
    end_some = end_fits st (sym d ∙ nothing)

    pub end_in : st.depth - 1 < 64
    end_in = let k = known in omega (arith, k.limits.deep, k.deep)

    pub end_scaled : Fits w64 ((st.depth - 1) * 2)
    end_scaled = record { fits = omega (arith, end_in) }

    -- and restored so
    pub end_done : mag (get_or st.ids (st.depth - 1) (pos 0)) < 2 ^ 15 → written (record { place = st.place; last = id_of (to_z w16 (of_z w16 (get_or st.ids (st.depth - 1) (pos 0)))); depth = st.depth - 1; ids = st.ids; pending = st.pending; limits = st.limits; begin = st.begin }) ≡ writes buf st (call (in_turn st (end_wrong st)) [] (ended st))
    end_done x =
        rw (to_z-of_z (sfits_of {w = w16} {z = get_or st.ids (st.depth - 1) (pos 0)} x)) (noting buf st (in_turn st (end_wrong st)) n (ended st) (rw d at e) h)

    pub end_left : buf ≡ leaves buf st (call (in_turn st (end_wrong st)) [] (ended st))
    end_left = untouched buf st (in_turn st (end_wrong st)) n (ended st) (rw d at e) h

pub ruleset begin_cases = (stopped, stopped_left, no_size, begin_in, begin_scaled, begin_more, begin_done, begin_left, to_z-of_z, sfits_of)

pub ruleset end_cases = (stopped, stopped_left, no_size, end_some, end_in, end_scaled, end_done, end_left, to_z-of_z, sfits_of)

-- an id that passes through its bits
pub id_back : (id : FieldId) → SFits w16 id.0 → id_of (to_z w16 (of_z w16 id.0)) ≡ id
id_back id h = rw (to_z-of_z h)

-- a code's 4 bits are all of it
whole_code : (t : TType) (c : ℕ) → c ≡ type_code t → c % 16 ≡ c
whole_code t c e = mod-eq_of_lt (rw e (code_below t))

whole_truth : (b : Bool) (c : ℕ) → c ≡ truth_code b → c % 16 ≡ c
whole_truth b c e = mod-eq_of_lt (rw e (truth_below b))

-- fields: of a bool only the place of its header is noted
module _ (buf : List ℕ) (st : State) (n m : ℕ) (e : n ≡ or_else (unsound (length buf) st) (in_turn st m)) (t : TType) (id : FieldId) (c : ℕ) (k : c ≡ type_code t) where
  module _ (b : c ≡ 1) (z : m ≡ 0) where
    as_bool : m ≡ field_wrong t
    unfolding field_wrong
    as_bool = z ∙ sym (rw (← k, b))

    pub bool_field_stopped : (r : Written) → (n ≡ 0 → ⊥) → r ≡ refused_by st n → r ≡ writes buf st (field_call st t id)
    unfolding field_call
    bool_field_stopped r h f = rw (← k, eq-eqb c 1 b) (stopped buf st n m e (field_wrong t) [] (awaiting st id) (no_size (awaiting st id) (field_wrong t) m as_bool) r h f)

    pub bool_field_left : (n ≡ 0 → ⊥) → buf ≡ leaves buf st (field_call st t id)
    unfolding field_call
    bool_field_left h = rw (← k, eq-eqb c 1 b) (stopped_left buf st n m e (field_wrong t) [] (awaiting st id) (no_size (awaiting st id) (field_wrong t) m as_bool) h)

    module _ (h : n ≡ 0) where
      pub field_noted : (j : FieldId) → j ≡ id → written (awaiting st j) ≡ writes buf st (field_call st t id)
      unfolding field_call
      field_noted j i = rw (i, ← k, eq-eqb c 1 b) (noting buf st (in_turn st (field_wrong t)) n (awaiting st id) (rw as_bool at e) h)

      pub field_noted_left : buf ≡ leaves buf st (field_call st t id)
      unfolding field_call
      field_noted_left = rw (← k, eq-eqb c 1 b) (untouched buf st (in_turn st (field_wrong t)) n (awaiting st id) (rw as_bool at e) h)

  -- its size, from what the code asks for
  module _ (b : c ≡ 1 → ⊥) (last i : ℤ) (x : last ≡ st.last.0) (y : i ≡ id.0) (w₀ len : ℕ) (u : w₀ ≡ field_wrong t) (q : len ≡ length (field_bytes last i (c % 16))) (d : m ≡ or_else w₀ (size_wrong st (len + 0))) where
    the_bytes : field_bytes last i (c % 16) ≡ field_bytes st.last.0 id.0 c
    the_bytes = rw (x, y, whole_code t c k)

    the_size : m ≡ or_else (field_wrong t) (size_wrong (headed st id) (length (field_bytes st.last.0 id.0 c)))
    unfolding size_wrong
    the_size = size_of st w₀ (field_wrong t) len 0 m (field_bytes st.last.0 id.0 c) d u (add-zero len ∙ q ∙ ap length the_bytes)

    pub field_stopped : (r : Written) → (n ≡ 0 → ⊥) → r ≡ refused_by st n → r ≡ writes buf st (field_call st t id)
    unfolding field_call
    field_stopped r h f = rw (← k, ne_eqb c 1 b) (stopped buf st n m e (field_wrong t) (field_bytes st.last.0 id.0 c) (headed st id) the_size r h f)

    pub field_stopped_left : (n ≡ 0 → ⊥) → buf ≡ leaves buf st (field_call st t id)
    unfolding field_call
    field_stopped_left h = rw (← k, ne_eqb c 1 b) (stopped_left buf st n m e (field_wrong t) (field_bytes st.last.0 id.0 c) (headed st id) the_size h)

    module _ (h : n ≡ 0) where
      pub field_headed : (j : FieldId) (w : Wrote) (r : Written) → r ≡ settled st (headed st j) w → w ≡ wrote_at buf st.place.0 (field_bytes last i (c % 16)) → j ≡ id → r ≡ writes buf st (field_call st t id)
      unfolding field_call
      field_headed j w r f g z =
          rw (← k, ne_eqb c 1 b)
          (went buf st n m e (field_wrong t) (field_bytes st.last.0 id.0 c) (headed st id) the_size h (field_bytes last i (c % 16)) w r (rw z at f) g the_bytes)

      pub field_headed_left : (after : List ℕ) → after ≡ put_at buf st.place.0 (field_bytes last i (c % 16)) → after ≡ leaves buf st (field_call st t id)
      unfolding field_call
      field_headed_left after g =
          rw (← k, ne_eqb c 1 b)
          (went_left buf st n m e (field_wrong t) (field_bytes st.last.0 id.0 c) (headed st id) the_size h (field_bytes last i (c % 16)) after g the_bytes)

pub ruleset field_cases = (bool_field_stopped, bool_field_left, field_stopped, field_stopped_left, field_noted, field_noted_left, field_headed, field_headed_left, id_back, to_z-of_z, sfits_of)

-- bools: nothing but the state and the size stops them
module _ (buf : List ℕ) (st : State) (n m : ℕ) (e : n ≡ or_else (unsound (length buf) st) m) (b : Bool) (c : ℕ) (k : c ≡ truth_code b) where
  by_size : (next : State) (bs : List ℕ) (len : ℕ) → m ≡ or_else 0 (size_wrong next len) → len ≡ length bs → n ≡ or_else (unsound (length buf) st) (or_else 0 (size_wrong next (length bs)))
  by_size next bs len d q = e ∙ ap (or_else (unsound (length buf) st)) (d ∙ ap (λ (i : ℕ). or_else 0 (size_wrong next i)) q)

  module _ (p : st.pending.0 ≡ A.Nothing) (d : m ≡ or_else 0 (size_wrong st (1 + 0))) where
    one : n ≡ or_else (unsound (length buf) st) (or_else 0 (size_wrong st (length (truth_code b ∷ []))))
    one = by_size st (truth_code b ∷ []) 1 d refl

    pub bool_stopped : (r : Written) → (n ≡ 0 → ⊥) → r ≡ refused_by st n → r ≡ writes buf st (bool_call st b)
    unfolding bool_call
    bool_stopped r h f = f ∙ refusing buf st 0 n (truth_code b ∷ []) st one h ∙ ap (λ (a : AwaitedField). writes buf st (truth_call st b a)) (sym p)

    pub bool_stopped_left : (n ≡ 0 → ⊥) → buf ≡ leaves buf st (bool_call st b)
    unfolding bool_call
    bool_stopped_left h = keeping buf st 0 n (truth_code b ∷ []) st one h ∙ ap (λ (a : AwaitedField). leaves buf st (truth_call st b a)) (sym p)

    module _ (h : n ≡ 0) where
      pub bool_element : (w : Wrote) (r : Written) → r ≡ settled st st w → w ≡ wrote_at buf st.place.0 (c ∷ []) → r ≡ writes buf st (bool_call st b)
      unfolding bool_call
      bool_element w r f g =
          f ∙ ap (settled st st) (g ∙ ap (λ (x : ℕ). wrote_at buf st.place.0 (x ∷ [])) k) ∙ writing buf st 0 n (truth_code b ∷ []) st one h ∙ ap (λ (a : AwaitedField). writes buf st (truth_call st b a)) (sym p)

      pub bool_element_left : (after : List ℕ) → after ≡ put_at buf st.place.0 (c ∷ []) → after ≡ leaves buf st (bool_call st b)
      unfolding bool_call
      bool_element_left after g =
          g ∙ ap (λ (x : ℕ). put_at buf st.place.0 (x ∷ [])) k ∙ putting buf st 0 n (truth_code b ∷ []) st one h ∙ ap (λ (a : AwaitedField). leaves buf st (truth_call st b a)) (sym p)

  module _ (id : FieldId) (p : st.pending.0 ≡ A.Field id) (last i : ℤ) (x : last ≡ st.last.0) (y : i ≡ id.0) (len : ℕ) (q : len ≡ length (field_bytes last i (c % 16))) (d : m ≡ or_else 0 (size_wrong st (len + 0))) where
    bytes : field_bytes last i (c % 16) ≡ field_bytes st.last.0 id.0 (truth_code b)
    bytes = rw (x, y, whole_truth b c k, k)

    head : n ≡ or_else (unsound (length buf) st) (or_else 0 (size_wrong (headed st id) (length (field_bytes st.last.0 id.0 (truth_code b)))))
    unfolding size_wrong
    head = by_size (headed st id) (field_bytes st.last.0 id.0 (truth_code b)) (len + 0) d (add-zero len ∙ q ∙ ap length bytes)

    pub head_stopped : (r : Written) → (n ≡ 0 → ⊥) → r ≡ refused_by st n → r ≡ writes buf st (bool_call st b)
    unfolding bool_call
    head_stopped r h f = f ∙ refusing buf st 0 n (field_bytes st.last.0 id.0 (truth_code b)) (headed st id) head h ∙ ap (λ (a : AwaitedField). writes buf st (truth_call st b a)) (sym p)

    pub head_stopped_left : (n ≡ 0 → ⊥) → buf ≡ leaves buf st (bool_call st b)
    unfolding bool_call
    head_stopped_left h = keeping buf st 0 n (field_bytes st.last.0 id.0 (truth_code b)) (headed st id) head h ∙ ap (λ (a : AwaitedField). leaves buf st (truth_call st b a)) (sym p)

    module _ (h : n ≡ 0) where
      pub bool_headed : (j : FieldId) (w : Wrote) (r : Written) → r ≡ settled st (headed st j) w → w ≡ wrote_at buf st.place.0 (field_bytes last i (c % 16)) → j ≡ id → r ≡ writes buf st (bool_call st b)
      unfolding bool_call
      bool_headed j w r f g z =
          f
          ∙ ap₂ (λ (i' : FieldId) (w' : Wrote). settled st (headed st i') w') z (g ∙ ap (wrote_at buf st.place.0) bytes)
          ∙ writing buf st 0 n (field_bytes st.last.0 id.0 (truth_code b)) (headed st id) head h
          ∙ ap (λ (a : AwaitedField). writes buf st (truth_call st b a)) (sym p)

      pub bool_headed_left : (after : List ℕ) → after ≡ put_at buf st.place.0 (field_bytes last i (c % 16)) → after ≡ leaves buf st (bool_call st b)
      unfolding bool_call
      bool_headed_left after g =
          g
          ∙ ap (put_at buf st.place.0) bytes
          ∙ putting buf st 0 n (field_bytes st.last.0 id.0 (truth_code b)) (headed st id) head h
          ∙ ap (λ (a : AwaitedField). leaves buf st (truth_call st b a)) (sym p)

pub ruleset bool_cases = (bool_stopped, bool_stopped_left, head_stopped, head_stopped_left, bool_element, bool_element_left, bool_headed, bool_headed_left, id_back, to_z-of_z, sfits_of)
