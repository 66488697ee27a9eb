-- A sound state stays sound, for each call: its place lies in the buffer, no earlier than its message began and no later than the message must have
-- ended. Assumes nothing.
use mathlib.Core.Path.{refl}
use mathlib.Core.Bool.{Bool, true, false, cond}
use mathlib.Core.List.{List}
use Prim.Native.Nat.{ℕ}
use native.Mathlib.Omega.{arith}
use lib.Dec.{eqb}
use lib.IntN.{ℤ}
use lib.ListN.{length}
use Rattle.types.specs.Codes.{type_code}
use Rattle.types.specs.declared.TType.{TType}
use Rattle.types.specs.declared.TMessageType.{TMessageType}
use Rattle.types.specs.declared.FieldId.{FieldId}
use Rattle.types.specs.declared.SeqNo.{SeqNo}
use Rattle.puts.proofs.Checks.{both_none}
use Rattle.output.specs.State.{State, turn, in_turn, begun_here, headed, awaiting, entered, ended}
use Rattle.output.specs.Calls.{Call, writes, leaves, begin_wrong, end_wrong, message_call, struct_begin_call, struct_end_call, field_call, stop_call, truth_call, bool_call, i8_call, int_call, double_call, uuid_call, bytes_call, string_call, items_call, pairs_call}
use Rattle.output.specs.declared.AwaitedField.{AwaitedField}
use Rattle.output.specs.declared.AwaitedField.TheVariants as A
use Rattle.output.proofs.Checks.{Sound, begin_fits}
use Rattle.output.proofs.Laws.{Follows, still_sound}

-- what each call leaves of a state
module _ (wrong : ℕ) (st : State) where
  pub itself : Follows wrong st st
  itself = record { limits = refl; place = refl; deep = λ e d. d; begins = λ h. h; cuts = λ h. h }

  pub here : Follows wrong st (begun_here st)
  here = record { limits = refl; place = refl; deep = λ e d. d; begins = λ h. omega arith; cuts = λ h. omega arith }

  pub behind_header_lem : (id : FieldId) → Follows wrong st (headed st id)
  behind_header_lem id = record { limits = refl; place = refl; deep = λ e d. d; begins = λ h. h; cuts = λ h. h }

  pub before_bool : (id : FieldId) → Follows wrong st (awaiting st id)
  before_bool id = record { limits = refl; place = refl; deep = λ e d. d; begins = λ h. h; cuts = λ h. h }

pub one_down : (st : State) → Follows (in_turn st (begin_wrong st)) st (entered st)
unfolding in_turn
one_down st =
    record { limits = refl; place = refl; deep = λ e d. omega (arith, begin_fits st (both_none (turn st.pending.0) (begin_wrong st) e).1); begins = λ h. h; cuts = λ h. h }

pub one_up : (st : State) → Follows (in_turn st (end_wrong st)) st (ended st)
one_up st = record { limits = refl; place = refl; deep = λ e d. omega arith; begins = λ h. h; cuts = λ h. h }

field_next : (wrong : ℕ) (st : State) (id : FieldId) (b : Bool) → Follows wrong st (cond b (awaiting st id) (headed st id))
field_next wrong st id true = before_bool wrong st id
field_next wrong st id false = behind_header_lem wrong st id

module _ (buf : List ℕ) (st : State) where
  abbrev Stays : Call → Type 0
  Stays c = Sound (length buf) st → Sound (length (leaves buf st c)) (writes buf st c).state

  pub message_stays : (m : TMessageType) (z : SeqNo) (name : List ℕ) → Stays (message_call st m z name)
  message_stays m z name = still_sound buf st _ _ _ (here _ st)

  pub begin_stays : Stays (struct_begin_call st)
  begin_stays = still_sound buf st _ _ _ (one_down st)

  pub end_stays : Stays (struct_end_call st)
  end_stays = still_sound buf st _ _ _ (one_up st)

  pub field_stays : (t : TType) (id : FieldId) → Stays (field_call st t id)
  unfolding field_call
  field_stays t id = still_sound buf st _ _ _ (field_next _ st id (eqb (type_code t) 1))

  pub stop_stays : Stays (stop_call st)
  stop_stays = still_sound buf st _ _ _ (itself _ st)

  truth_stays : (b : Bool) (a : AwaitedField) → Stays (truth_call st b a)
  truth_stays b A.Nothing = still_sound buf st _ _ _ (itself _ st)
  truth_stays b (A.Field id) = still_sound buf st _ _ _ (behind_header_lem _ st id)

  pub bool_stays : (b : Bool) → Stays (bool_call st b)
  unfolding bool_call
  bool_stays b = truth_stays b st.pending.0

  pub i8_stays : (z : ℤ) → Stays (i8_call st z)
  i8_stays z = still_sound buf st _ _ _ (itself _ st)

  -- of 16, 32 and 64 bits
  pub int_stays : (z : ℤ) → Stays (int_call st z)
  int_stays z = still_sound buf st _ _ _ (itself _ st)

  pub double_stays : (bits : ℕ) → Stays (double_call st bits)
  double_stays bits = still_sound buf st _ _ _ (itself _ st)

  pub uuid_stays : (bs : List ℕ) → Stays (uuid_call st bs)
  uuid_stays bs = still_sound buf st _ _ _ (itself _ st)

  pub bytes_stays : (bs : List ℕ) → Stays (bytes_call st bs)
  bytes_stays bs = still_sound buf st _ _ _ (itself _ st)

  pub string_stays : (bs : List ℕ) → Stays (string_call st bs)
  string_stays bs = still_sound buf st _ _ _ (itself _ st)

  -- of a list and of a set
  pub items_stays : (t : TType) (z : ℤ) → Stays (items_call st t z)
  items_stays t z = still_sound buf st _ _ _ (itself _ st)

  pub pairs_stays : (k v : TType) (z : ℤ) → Stays (pairs_call st k v z)
  pairs_stays k v z = still_sound buf st _ _ _ (itself _ st)
