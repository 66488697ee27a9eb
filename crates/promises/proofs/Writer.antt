-- What the writer's calls owe, of all of them at once: a refusal changes nothing, a sound state stays sound, BAD STATE and OUT OF TURN are given exactly when the
-- scope paper says, and which numbers each call can give. Assumes nothing.
use mathlib.Core.Path.{◌≡◌, refl, sym, ap, subst, ◌∙◌}
use mathlib.Core.Bool.{Bool, true, false, cond, ◌&&◌, ◌||◌}
use mathlib.Core.Logic.{◌↔◌, ⊎_elim}
use mathlib.Core.List.{List, [], ◌∷◌}
use Prim.Native.Nat.{ℕ}
use native.Mathlib.Omega.{arith}
use native.Mathlib.Decide.{ℕ_discrete}
use borrow.Author.Tests.{ne_eqb}
use lib.Dec.{eqb, leb}
use lib.IntN.{ℤ, pos}
use lib.Signed.{lt_z}
use lib.ListN.{length}
use Rattle.types.specs.Refusals.{BAD_TYPE, SIZE_LIMIT, NEGATIVE_SIZE, DEPTH, BAD_UTF8, OUT_OF_TURN, NO_ROOM, BAD_STATE, MESSAGE_SIZE}
use Rattle.types.specs.Limits.{in_range}
use Rattle.types.specs.declared.TType.{TType}
use Rattle.types.specs.declared.TConfiguration.{TConfiguration}
use Rattle.utf8.specs.Utf8.{utf8}
use Rattle.puts.specs.Bytes.{above}
use Rattle.puts.specs.Wrong.{or_else, length_wrong, text_wrong, is_stop, field_wrong, count_wrong}
use Rattle.output.specs.State.{State, turn, in_turn, unsound, cut_of, left_of}
use Rattle.output.specs.Calls.{Call, call, size_wrong, writes, leaves, begin_wrong, end_wrong, field_call, truth_call, bool_call}
use Rattle.output.specs.declared.AwaitedField.{AwaitedField}
use Rattle.output.specs.declared.AwaitedField.TheVariants as A
use Rattle.output.specs.declared.Written.{Written}
use Rattle.output.proofs.Checks.{Sound, sound, sound_is, size_none}
use Rattle.output.proofs.Laws.{Went, Stopped, either, goes}
use Rattle.output.proofs.Stays as stays
use Rattle.rows.specs.Writes.{number_written}
use Rattle.promises.specs.Writes.{Write, call_of, number, next, left, can_give, one_of, waits, late, writes_all, message, begin, end, field, stop, bool, i8, int, double, uuid, bytes, string, items, pairs}

no_way : {X : Type 0} → ◌≡◌ {A = Bool} false true → X
no_way e = let z : ◌≡◌ {A = ℕ} 0 1 = cc in absurd (omega arith)

-- a call's number, and what stops it
abbrev number_of : List ℕ → State → Call → ℕ
number_of buf st c = number_written (writes buf st c).answer

abbrev wrong_of : Call → ℕ
wrong_of (call wrong bs nx) = wrong

module _ (buf : List ℕ) (st : State) (wrong : ℕ) (bs : List ℕ) (nx : State) where
  well : Went buf st wrong bs nx → number_of buf st (call wrong bs nx) ≡ 0
  well w = ap (λ (r : Written). number_written r.answer) w.answers

  stopped : (x : Stopped buf st wrong bs nx) → number_of buf st (call wrong bs nx) ≡ or_else (or_else (unsound (length buf) st) (or_else wrong (size_wrong nx (length bs)))) NO_ROOM
  stopped x = ap (λ (r : Written). number_written r.answer) x.answers ∙ x.first

-- "A refusal returns its number and the state as given; lent buffers keep their bytes"
keeps : (buf : List ℕ) (st : State) (c : Call) → (number_of buf st c ≡ 0 → ⊥) → ((writes buf st c).state ≡ st) × (leaves buf st c ≡ buf)
keeps buf st (call wrong bs nx) h =
    ⊎_elim (λ w. absurd (h (well buf st wrong bs nx w))) (λ x. (ap (λ (r : Written). r.state) x.answers, x.keeps)) (either buf st wrong bs nx)

pub refuses : (c : Write) (buf : List ℕ) (st : State) → (number c buf st ≡ 0 → ⊥) → (next c buf st ≡ st) × (left c buf st ≡ buf)
refuses c buf st h = keeps buf st (call_of c st) h

-- a sound state stays sound
still : (c : Write) (buf : List ℕ) (st : State) → Sound (length buf) st → Sound (length (left c buf st)) (next c buf st)
unfolding call_of
still (message m z name) buf st s = stays.message_stays buf st m z name s
still begin buf st s = stays.begin_stays buf st s
still end buf st s = stays.end_stays buf st s
still (field t id) buf st s = stays.field_stays buf st t id s
still stop buf st s = stays.stop_stays buf st s
still (bool b) buf st s = stays.bool_stays buf st b s
still (i8 z) buf st s = stays.i8_stays buf st z s
still (int z) buf st s = stays.int_stays buf st z s
still (double n) buf st s = stays.double_stays buf st n s
still (uuid bs) buf st s = stays.uuid_stays buf st bs s
still (bytes bs) buf st s = stays.bytes_stays buf st bs s
still (string bs) buf st s = stays.string_stays buf st bs s
still (items t z) buf st s = stays.items_stays buf st t z s
still (pairs k v z) buf st s = stays.pairs_stays buf st k v z s

pub all_sound : (cs : List Write) (buf : List ℕ) (st : State) → unsound (length buf) st ≡ 0 → unsound (length (writes_all cs buf st).buffer) (writes_all cs buf st).state ≡ 0
unfolding writes_all
all_sound [] buf st h = h
all_sound (c ∷ cs) buf st h =
    all_sound cs (left c buf st) (next c buf st) (sound_is (length (left c buf st)) (next c buf st) (still c buf st (sound (length buf) st h)))

-- Which numbers: 0 or one of these.
abbrev Fine : List ℕ → ℕ → Type 0
Fine xs n = one_of n (0 ∷ xs) ≡ true

by_test : (xs : List ℕ) (b : Bool) (x y : ℕ) → Fine xs x → Fine xs y → Fine xs (cond b x y)
by_test xs true x y p q = p
by_test xs false x y p q = q

or_else_lem : (xs : List ℕ) (a b : ℕ) → Fine xs a → Fine xs b → Fine xs (or_else a b)
unfolding or_else
or_else_lem xs a b p q = by_test xs (eqb a 0) b a q p

module _ (xs : List ℕ) (none : Fine xs 0) where
  turned : (st : State) (wrong : ℕ) → Fine xs OUT_OF_TURN → Fine xs wrong → Fine xs (in_turn st wrong)
  unfolding in_turn
  turned st wrong t p = or_else_lem xs (turn st.pending.0) wrong (go st.pending.0) p
    where
      go : (a : AwaitedField) → Fine xs (turn a)
      go A.Nothing = none
      go (A.Field id) = t

  lengthy : (lim : TConfiguration) (bs : List ℕ) → Fine xs SIZE_LIMIT → Fine xs (length_wrong lim bs)
  unfolding length_wrong
  lengthy lim bs l = by_test xs (leb (length bs) lim.string) 0 SIZE_LIMIT none l

  worded : (lim : TConfiguration) (bs : List ℕ) → Fine xs SIZE_LIMIT → Fine xs BAD_UTF8 → Fine xs (text_wrong lim bs)
  unfolding text_wrong
  worded lim bs l u = or_else_lem xs (length_wrong lim bs) (cond (utf8 bs) 0 BAD_UTF8) (lengthy lim bs l) (by_test xs (utf8 bs) 0 BAD_UTF8 none u)

  fielded : (t : TType) → Fine xs BAD_TYPE → Fine xs (field_wrong t)
  unfolding field_wrong
  fielded t k = by_test xs (is_stop t) BAD_TYPE 0 k none

  counted : (lim : TConfiguration) (t u : TType) (z : ℤ) → Fine xs BAD_TYPE → Fine xs SIZE_LIMIT → Fine xs NEGATIVE_SIZE → Fine xs (count_wrong lim t u z)
  unfolding count_wrong
  counted lim t u z k l n =
      by_test xs (lt_z z (pos 0)) NEGATIVE_SIZE _ n
      (by_test xs (eqb (above z) 0) 0 _ none
      (by_test xs (is_stop t || is_stop u) BAD_TYPE _ k (by_test xs (leb (above z) lim.container) 0 SIZE_LIMIT none l)))

  begun : (st : State) → Fine xs DEPTH → Fine xs (begin_wrong st)
  unfolding begin_wrong
  begun st d = by_test xs (leb st.limits.depth st.depth) DEPTH 0 d none

  ended : (st : State) → Fine xs OUT_OF_TURN → Fine xs (end_wrong st)
  unfolding end_wrong
  ended st t = by_test xs (eqb st.depth 0) OUT_OF_TURN 0 t none

  sized : (nx : State) (n : ℕ) → Fine xs MESSAGE_SIZE → Fine xs (size_wrong nx n)
  unfolding size_wrong
  sized nx n m = by_test xs (leb n (left_of nx)) 0 MESSAGE_SIZE none m

  forged : (len : ℕ) (st : State) → Fine xs BAD_STATE → Fine xs (unsound len st)
  unfolding unsound
  forged len st b =
      by_test xs (in_range st.limits && leb st.place.0 len && leb st.depth st.limits.depth && leb st.begin.0 st.place.0 && leb st.place.0 (cut_of st)) 0 BAD_STATE none b

  truthful : (st : State) (b : Bool) (a : AwaitedField) → Fine xs (wrong_of (truth_call st b a))
  truthful st b A.Nothing = none
  truthful st b (A.Field id) = none

-- what the arguments of each call may show, and its turn
abbrev Has : Write → List ℕ → Type 0
Has (message m z name) xs = Fine xs OUT_OF_TURN × Fine xs SIZE_LIMIT × Fine xs BAD_UTF8
Has begin xs = Fine xs OUT_OF_TURN × Fine xs DEPTH
Has end xs = Fine xs OUT_OF_TURN
Has (field t id) xs = Fine xs OUT_OF_TURN × Fine xs BAD_TYPE
Has stop xs = Fine xs OUT_OF_TURN
Has (bool b) xs = Unit {0}
Has (i8 z) xs = Fine xs OUT_OF_TURN
Has (int z) xs = Fine xs OUT_OF_TURN
Has (double n) xs = Fine xs OUT_OF_TURN
Has (uuid bs) xs = Fine xs OUT_OF_TURN
Has (bytes bs) xs = Fine xs OUT_OF_TURN × Fine xs SIZE_LIMIT
Has (string bs) xs = Fine xs OUT_OF_TURN × Fine xs SIZE_LIMIT × Fine xs BAD_UTF8
Has (items t z) xs = Fine xs OUT_OF_TURN × Fine xs BAD_TYPE × Fine xs SIZE_LIMIT × Fine xs NEGATIVE_SIZE
Has (pairs k v z) xs = Fine xs OUT_OF_TURN × Fine xs BAD_TYPE × Fine xs SIZE_LIMIT × Fine xs NEGATIVE_SIZE

wrong_in : (xs : List ℕ) (c : Write) (st : State) → Fine xs 0 → Has c xs → Fine xs (wrong_of (call_of c st))
unfolding call_of field_call bool_call
wrong_in xs (message m z name) st o h = turned xs o st _ h.0 (worded xs o st.limits name h.1 h.2)
wrong_in xs begin st o h = turned xs o st _ h.0 (begun xs o st h.1)
wrong_in xs end st o h = turned xs o st _ h (ended xs o st h)
wrong_in xs (field t id) st o h = turned xs o st _ h.0 (fielded xs o t h.1)
wrong_in xs stop st o h = turned xs o st 0 h o
wrong_in xs (bool b) st o h = truthful xs o st b st.pending.0
wrong_in xs (i8 z) st o h = turned xs o st 0 h o
wrong_in xs (int z) st o h = turned xs o st 0 h o
wrong_in xs (double n) st o h = turned xs o st 0 h o
wrong_in xs (uuid bs) st o h = turned xs o st 0 h o
wrong_in xs (bytes bs) st o h = turned xs o st _ h.0 (lengthy xs o st.limits bs h.1)
wrong_in xs (string bs) st o h = turned xs o st _ h.0 (worded xs o st.limits bs h.1 h.2)
wrong_in xs (items t z) st o h = turned xs o st _ h.0 (counted xs o st.limits t t z h.1 h.2 h.3)
wrong_in xs (pairs k v z) st o h = turned xs o st _ h.0 (counted xs o st.limits k v z h.1 h.2 h.3)

-- a call that writes bytes
or_room : (xs : List ℕ) (a : ℕ) → Fine xs a → Fine xs NO_ROOM → Fine xs (or_else a NO_ROOM)
or_room xs a p q = or_else_lem xs a NO_ROOM p q

in_all : (xs : List ℕ) (buf : List ℕ) (st : State) (c : Call) → Fine xs 0 → Fine xs BAD_STATE → Fine xs MESSAGE_SIZE → Fine xs NO_ROOM → Fine xs (wrong_of c) → Fine xs (number_of buf st c)
in_all xs buf st (call wrong bs nx) o b m r w =
    ⊎_elim
    (λ x. subst (Fine xs) (sym (well buf st wrong bs nx x)) o)
    (λ x.
    subst (Fine xs) (sym (stopped buf st wrong bs nx x))
    (or_room xs _ (or_else_lem xs (unsound (length buf) st) _ (forged xs o (length buf) st b) (or_else_lem xs wrong _ w (sized xs o nx (length bs) m))) r))
    (either buf st wrong bs nx)

-- one that writes none: neither the ceiling nor the room stops it
no_bytes : (xs : List ℕ) (buf : List ℕ) (st : State) (wrong : ℕ) (nx : State) → Fine xs 0 → Fine xs BAD_STATE → Fine xs wrong → Fine xs (number_of buf st (call wrong [] nx))
unfolding or_else
no_bytes xs buf st wrong nx o b w = ⊎_elim (λ x. subst (Fine xs) (sym (well buf st wrong [] nx x)) o) (λ x. go x (ℕ_discrete (unsound (length buf) st) 0) (ℕ_discrete wrong 0)) (either buf st wrong [] nx)
  where
    go : Stopped buf st wrong [] nx → Dec (unsound (length buf) st ≡ 0) → Dec (wrong ≡ 0) → Fine xs (number_of buf st (call wrong [] nx))
    go x (no u) z =
        let e : or_else (or_else (unsound (length buf) st) (or_else wrong (size_wrong nx 0))) NO_ROOM ≡ unsound (length buf) st = rw (ne_eqb _ 0 u, ne_eqb _ 0 u) in
        subst (Fine xs) (sym (stopped buf st wrong [] nx x ∙ e)) (forged xs o (length buf) st b)
    go x (yes u) (no v) =
        let e : or_else (or_else (unsound (length buf) st) (or_else wrong (size_wrong nx 0))) NO_ROOM ≡ wrong = rw (u, ne_eqb wrong 0 v, ne_eqb wrong 0 v) in
        subst (Fine xs) (sym (stopped buf st wrong [] nx x ∙ e)) w
    go x (yes u) (yes v) =
        let s = sound (length buf) st u in
        subst (Fine xs) (sym (well buf st wrong [] nx (goes buf st wrong [] nx s v (size_none nx) (omega (arith, s.here))))) o

filling : (c : Write) (buf : List ℕ) (st : State) → Fine (can_give c) 0 → Fine (can_give c) BAD_STATE → Fine (can_give c) MESSAGE_SIZE → Fine (can_give c) NO_ROOM → Has c (can_give c) → one_of (number c buf st) (0 ∷ can_give c) ≡ true
filling c buf st o b m r h = in_all (can_give c) buf st (call_of c st) o b m r (wrong_in (can_give c) c st o h)

pub gives : (c : Write) (buf : List ℕ) (st : State) → one_of (number c buf st) (0 ∷ can_give c) ≡ true
unfolding can_give call_of
gives (message m z name) buf st = filling (message m z name) buf st refl refl refl refl (refl, refl, refl)
gives begin buf st = no_bytes (can_give begin) buf st _ _ refl refl (wrong_in (can_give begin) begin st refl (refl, refl))
gives end buf st = no_bytes (can_give end) buf st _ _ refl refl (wrong_in (can_give end) end st refl refl)
gives (field t id) buf st = filling (field t id) buf st refl refl refl refl (refl, refl)
gives stop buf st = filling stop buf st refl refl refl refl refl
gives (bool b) buf st = filling (bool b) buf st refl refl refl refl tt
gives (i8 z) buf st = filling (i8 z) buf st refl refl refl refl refl
gives (int z) buf st = filling (int z) buf st refl refl refl refl refl
gives (double n) buf st = filling (double n) buf st refl refl refl refl refl
gives (uuid bs) buf st = filling (uuid bs) buf st refl refl refl refl refl
gives (bytes bs) buf st = filling (bytes bs) buf st refl refl refl refl (refl, refl)
gives (string bs) buf st = filling (string bs) buf st refl refl refl refl (refl, refl, refl)
gives (items t z) buf st = filling (items t z) buf st refl refl refl refl (refl, refl, refl, refl)
gives (pairs k v z) buf st = filling (pairs k v z) buf st refl refl refl refl (refl, refl, refl, refl)

-- BAD STATE and OUT OF TURN. What the arguments show is neither the one nor the ceiling's number.
abbrev shows : List ℕ
shows = BAD_TYPE ∷ SIZE_LIMIT ∷ NEGATIVE_SIZE ∷ DEPTH ∷ BAD_UTF8 ∷ OUT_OF_TURN ∷ []

has_shows : (c : Write) → Has c shows
has_shows (message m z name) = (refl, refl, refl)
has_shows begin = (refl, refl)
has_shows end = refl
has_shows (field t id) = (refl, refl)
has_shows stop = refl
has_shows (bool b) = tt
has_shows (i8 z) = refl
has_shows (int z) = refl
has_shows (double n) = refl
has_shows (uuid bs) = refl
has_shows (bytes bs) = (refl, refl)
has_shows (string bs) = (refl, refl, refl)
has_shows (items t z) = (refl, refl, refl, refl)
has_shows (pairs k v z) = (refl, refl, refl, refl)

not_in : {X : Type 0} (xs : List ℕ) (n m : ℕ) → Fine xs n → one_of m (0 ∷ xs) ≡ false → n ≡ m → X
not_in xs n m f g e = no_way (sym g ∙ subst (Fine xs) e f)

-- the state is sound or it is not
by_state : {X : Type 0} (len : ℕ) (st : State) → (unsound len st ≡ 0 → X) → (unsound len st ≡ BAD_STATE → X) → X
unfolding unsound
by_state {X} len st f g =
    go (in_range st.limits && leb st.place.0 len && leb st.depth st.limits.depth && leb st.begin.0 st.place.0 && leb st.place.0 (cut_of st)) f g
  where
    go : (b : Bool) → (cond b 0 BAD_STATE ≡ 0 → X) → (cond b 0 BAD_STATE ≡ BAD_STATE → X) → X
    go true f g = f refl
    go false f g = g refl

-- where nothing is wrong with the state, the number is that of the turn and the arguments, or else the ceiling's, or NO ROOM
data Number (buf : List ℕ) (st : State) (c : Call) : Type 0 where
  none : number_of buf st c ≡ 0 → wrong_of c ≡ 0 → Number buf st c
  shown : number_of buf st c ≡ wrong_of c → (wrong_of c ≡ 0 → ⊥) → Number buf st c
  over : number_of buf st c ≡ MESSAGE_SIZE → wrong_of c ≡ 0 → Number buf st c
  full : number_of buf st c ≡ NO_ROOM → wrong_of c ≡ 0 → Number buf st c

numbered : (buf : List ℕ) (st : State) (c : Call) → unsound (length buf) st ≡ 0 → Number buf st c
unfolding or_else size_wrong
numbered buf st (call wrong bs nx) u =
    ⊎_elim (λ w. none (well buf st wrong bs nx w) w.right) (λ x. go (stopped buf st wrong bs nx x) (ℕ_discrete wrong 0) (leb (length bs) (left_of nx)) refl) (either buf st wrong bs nx)
  where
    go : number_of buf st (call wrong bs nx) ≡ or_else (or_else (unsound (length buf) st) (or_else wrong (size_wrong nx (length bs)))) NO_ROOM → Dec (wrong ≡ 0) → (b : Bool) → leb (length bs) (left_of nx) ≡ b → Number buf st (call wrong bs nx)
    go e (no v) b q = shown (e ∙ rw (u, ne_eqb wrong 0 v, ne_eqb wrong 0 v)) v
    go e (yes v) true q = full (e ∙ rw (u, v, q)) v
    go e (yes v) false q = over (e ∙ rw (u, v, q)) v

-- and where something is, its number is given
badly : (buf : List ℕ) (st : State) (c : Call) → unsound (length buf) st ≡ BAD_STATE → number_of buf st c ≡ BAD_STATE
unfolding or_else
badly buf st (call wrong bs nx) u =
    ⊎_elim
    (λ w. let z = sound_is (length buf) st w.sound in absurd (omega arith))
    (λ x. stopped buf st wrong bs nx x ∙ rw u)
    (either buf st wrong bs nx)

pub bad_state_lem : (c : Write) (buf : List ℕ) (st : State) → (number c buf st ≡ BAD_STATE) ↔ (unsound (length buf) st ≡ BAD_STATE)
bad_state_lem c buf st = ((λ e. by_state (length buf) st (λ u. go e (numbered buf st (call_of c st) u)) (λ u. u)), badly buf st (call_of c st))
  where
    go : {X : Type 0} → number c buf st ≡ BAD_STATE → Number buf st (call_of c st) → X
    go e (none f w) = absurd (omega arith)
    go e (shown f w) = not_in shows (wrong_of (call_of c st)) BAD_STATE (wrong_in shows c st refl (has_shows c)) refl (sym f ∙ e)
    go e (over f w) = absurd (omega arith)
    go e (full f w) = absurd (omega arith)

-- the turn
free_turn : (a : AwaitedField) (wrong : ℕ) → (wrong ≡ OUT_OF_TURN → ⊥) → (or_else (turn a) wrong ≡ OUT_OF_TURN) ↔ (waits a ≡ true)
unfolding or_else
free_turn A.Nothing wrong h = ((λ e. absurd (h e)), λ e. no_way e)
free_turn (A.Field id) wrong h = ((λ e. refl), λ e. refl)

abbrev args : List ℕ
args = BAD_TYPE ∷ SIZE_LIMIT ∷ NEGATIVE_SIZE ∷ DEPTH ∷ BAD_UTF8 ∷ []

in_turn_lem : (st : State) (wrong : ℕ) → Fine args wrong → (in_turn st wrong ≡ OUT_OF_TURN) ↔ (waits st.pending.0 ≡ true)
unfolding in_turn
in_turn_lem st wrong f = free_turn st.pending.0 wrong (not_in args wrong OUT_OF_TURN f refl)

end_turn : (a : AwaitedField) (b : Bool) → (or_else (turn a) (cond b OUT_OF_TURN 0) ≡ OUT_OF_TURN) ↔ ((waits a || b) ≡ true)
unfolding or_else
end_turn A.Nothing true = ((λ e. refl), λ e. refl)
end_turn A.Nothing false = ((λ e. absurd (omega arith)), λ e. no_way e)
end_turn (A.Field id) b = ((λ e. refl), λ e. refl)

truth_turn : (st : State) (b : Bool) (a : AwaitedField) → wrong_of (truth_call st b a) ≡ 0
truth_turn st b A.Nothing = refl
truth_turn st b (A.Field id) = refl

turn_is : (c : Write) (st : State) → (wrong_of (call_of c st) ≡ OUT_OF_TURN) ↔ (late c st ≡ true)
unfolding call_of field_call bool_call late in_turn end_wrong
turn_is (message m z name) st = in_turn_lem st _ (worded args refl st.limits name refl refl)
turn_is begin st = in_turn_lem st _ (begun args refl st refl)
turn_is end st = end_turn st.pending.0 (eqb st.depth 0)
turn_is (field t id) st = in_turn_lem st _ (fielded args refl t refl)
turn_is stop st = in_turn_lem st 0 refl
turn_is (bool b) st = ((λ e. let z = truth_turn st b st.pending.0 in absurd (omega arith)), λ e. no_way e)
turn_is (i8 z) st = in_turn_lem st 0 refl
turn_is (int z) st = in_turn_lem st 0 refl
turn_is (double n) st = in_turn_lem st 0 refl
turn_is (uuid bs) st = in_turn_lem st 0 refl
turn_is (bytes bs) st = in_turn_lem st _ (lengthy args refl st.limits bs refl)
turn_is (string bs) st = in_turn_lem st _ (worded args refl st.limits bs refl refl)
turn_is (items t z) st = in_turn_lem st _ (counted args refl st.limits t t z refl refl refl)
turn_is (pairs k v z) st = in_turn_lem st _ (counted args refl st.limits k v z refl refl refl)

pub out_of_turn : (c : Write) (buf : List ℕ) (st : State) → (number c buf st ≡ OUT_OF_TURN) ↔ ((unsound (length buf) st ≡ 0) × (late c st ≡ true))
out_of_turn c buf st = (from, to)
  where
    by_number : number c buf st ≡ OUT_OF_TURN → Number buf st (call_of c st) → late c st ≡ true
    by_number e (none f w) = absurd (omega arith)
    by_number e (shown f w) = (turn_is c st).0 (sym f ∙ e)
    by_number e (over f w) = absurd (omega arith)
    by_number e (full f w) = absurd (omega arith)

    from : number c buf st ≡ OUT_OF_TURN → (unsound (length buf) st ≡ 0) × (late c st ≡ true)
    from e = by_state (length buf) st (λ u. (u, by_number e (numbered buf st (call_of c st) u))) (λ u. let z = badly buf st (call_of c st) u in absurd (omega arith))

    given : wrong_of (call_of c st) ≡ OUT_OF_TURN → Number buf st (call_of c st) → number c buf st ≡ OUT_OF_TURN
    given e (none f w) = absurd (omega arith)
    given e (shown f w) = f ∙ e
    given e (over f w) = absurd (omega arith)
    given e (full f w) = absurd (omega arith)

    to : (unsound (length buf) st ≡ 0) × (late c st ≡ true) → number c buf st ≡ OUT_OF_TURN
    to p = given ((turn_is c st).1 p.1) (numbered buf st (call_of c st) p.0)
