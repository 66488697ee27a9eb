-- A sound state stays sound, for each call: its place lies in the buffer, no earlier than its message began and no later than the message must have
-- ended. Assumes nothing.
use mathlib.Core.Path.{refl}
use mathlib.Core.Bool.{Bool}
use mathlib.Core.List.{List}
use Prim.Native.Nat.{ℕ}
use native.Mathlib.Omega.{arith}
use lib.IntN.{ℤ}
use lib.ListN.{length}
use Rattle.types.specs.declared.TType.{TType}
use Rattle.types.specs.declared.TMessageType.{TMessageType}
use Rattle.types.specs.declared.FieldId.{FieldId}
use Rattle.types.specs.declared.SeqNo.{SeqNo}
use Rattle.binary_output.specs.State.{State, begun_here, entered, ended}
use Rattle.binary_output.specs.Calls.{Call, writes, leaves, begin_wrong, end_wrong, message_call, struct_begin_call, struct_end_call, field_call, stop_call, bool_call, i8_call, i16_call, i32_call, i64_call, double_call, uuid_call, bytes_call, string_call, items_call, pairs_call}
use Rattle.binary_output.proofs.Checks.{Sound, begin_fits}
use Rattle.binary_output.proofs.Laws.{Follows, still_sound}

-- what each call leaves of a state
module _ (wrong : ℕ) (st : State) where
  pub itself : Follows wrong st st
  itself = record { limits = refl; place = refl; deep = λ e d. d; begins = λ h. h; cuts = λ h. h }

  pub here : Follows wrong st (begun_here st)
  here = record { limits = refl; place = refl; deep = λ e d. d; begins = λ h. omega arith; cuts = λ h. omega arith }

pub one_down : (st : State) → Follows (begin_wrong st) st (entered st)
one_down st = record { limits = refl; place = refl; deep = λ e d. omega (arith, begin_fits st e); begins = λ h. h; cuts = λ h. h }

pub one_up : (st : State) → Follows (end_wrong st) st (ended st)
one_up st = record { limits = refl; place = refl; deep = λ e d. omega arith; begins = λ h. h; cuts = λ h. h }

module _ (buf : List ℕ) (st : State) where
  abbrev Stays : Call → Type 0
  Stays c = Sound (length buf) st → Sound (length (leaves buf st c)) (writes buf st c).state

  pub message_stays : (m : TMessageType) (z : SeqNo) (name : List ℕ) → Stays (message_call st m z name)
  message_stays m z name = still_sound buf st _ _ _ (here _ st)

  pub begin_stays : Stays (struct_begin_call st)
  begin_stays = still_sound buf st _ _ _ (one_down st)

  pub end_stays : Stays (struct_end_call st)
  end_stays = still_sound buf st _ _ _ (one_up st)

  pub field_stays : (t : TType) (id : FieldId) → Stays (field_call st t id)
  field_stays t id = still_sound buf st _ _ _ (itself _ st)

  pub stop_stays : Stays (stop_call st)
  stop_stays = still_sound buf st _ _ _ (itself _ st)

  pub bool_stays : (b : Bool) → Stays (bool_call st b)
  bool_stays b = still_sound buf st _ _ _ (itself _ st)

  pub i8_stays : (z : ℤ) → Stays (i8_call st z)
  i8_stays z = still_sound buf st _ _ _ (itself _ st)

  pub i16_stays : (z : ℤ) → Stays (i16_call st z)
  i16_stays z = still_sound buf st _ _ _ (itself _ st)

  pub i32_stays : (z : ℤ) → Stays (i32_call st z)
  i32_stays z = still_sound buf st _ _ _ (itself _ st)

  pub i64_stays : (z : ℤ) → Stays (i64_call st z)
  i64_stays z = still_sound buf st _ _ _ (itself _ st)

  pub double_stays : (bits : ℕ) → Stays (double_call st bits)
  double_stays bits = still_sound buf st _ _ _ (itself _ st)

  pub uuid_stays : (bs : List ℕ) → Stays (uuid_call st bs)
  uuid_stays bs = still_sound buf st _ _ _ (itself _ st)

  pub bytes_stays : (bs : List ℕ) → Stays (bytes_call st bs)
  bytes_stays bs = still_sound buf st _ _ _ (itself _ st)

  pub string_stays : (bs : List ℕ) → Stays (string_call st bs)
  string_stays bs = still_sound buf st _ _ _ (itself _ st)

  -- of a list and of a set
  pub items_stays : (t : TType) (z : ℤ) → Stays (items_call st t z)
  items_stays t z = still_sound buf st _ _ _ (itself _ st)

  pub pairs_stays : (k v : TType) (z : ℤ) → Stays (pairs_call st k v z)
  pairs_stays k v z = still_sound buf st _ _ _ (itself _ st)
