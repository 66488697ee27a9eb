-- The count of a message's fields, turn by turn: one law for each way that a turn goes. Assumes nothing.
use Prim.Native.Nat.{ℕ, zero, suc}
use mathlib.Core.Path.{◌≡◌, refl, ap, ◌∙◌}
use mathlib.Core.List.{List}
use lib.ListN.{length}
use Rattle.types.specs.Refusals.{END}
use Rattle.types.specs.declared.TType.{TType}
use Rattle.types.specs.declared.TMessageType.{TMessageType}
use Rattle.types.specs.declared.SeqNo.{SeqNo}
use Rattle.types.specs.declared.Place.{Place}
use Rattle.types.specs.declared.FieldId.{FieldId}
use Rattle.input.specs.State.{State}
use Rattle.input.specs.Calls.{read_message, read_field}
use Rattle.input.specs.declared.MessageAnswer.TheVariants as Ms
use Rattle.input.specs.declared.FieldAnswer.{FieldAnswer}
use Rattle.input.specs.declared.FieldAnswer.TheVariants as F
use Rattle.input.specs.declared.DoneAnswer.TheVariants as D
use Rattle.skip.specs.Skip.{skip_call}
use Rattle.lent.specs.Count.{after_message, after_skip, after_field, count_from, count_fields}
use Rattle.lent.specs.declared.Counted.{Counted}
use Rattle.lent.specs.declared.Counted.TheVariants.{Done, Refused}

-- as many fields as bytes
pub runs_out : (s : List ℕ) (at : State) (n : ℕ) → Refused END ≡ count_from zero s at n
unfolding count_from
runs_out s at n = refl

module _ (s : List ℕ) (at : State) (t n : ℕ) where
  abbrev value : TType → Counted
  value kind = let y = skip_call s (read_field s at).state kind in after_skip (count_from t s y.state (suc n)) y.answer

  pub turns_on : (a : FieldAnswer) → (read_field s at).answer ≡ a → count_from (suc t) s at n ≡ after_field value n (read_field s at).state a
  unfolding count_from
  turns_on a ea = ap (after_field value n (read_field s at).state) ea

  pub ends_there : (read_field s at).answer ≡ F.Stop → count_from (suc t) s at n ≡ Done n (read_field s at).state.place
  ends_there ea = turns_on F.Stop ea

  pub ends_short : (why : ℕ) → (read_field s at).answer ≡ F.Refused why → count_from (suc t) s at n ≡ Refused why
  ends_short why ea = turns_on (F.Refused why) ea

  module _ (kind : TType) (id : FieldId) where
    abbrev to : State
    to = (skip_call s (read_field s at).state kind).state

    pub ends_past : (why : ℕ) → (read_field s at).answer ≡ F.Field kind id → (skip_call s (read_field s at).state kind).answer ≡ D.Refused why → count_from (suc t) s at n ≡ Refused why
    ends_past why ea eb = turns_on (F.Field kind id) ea ∙ ap (after_skip (count_from t s to (suc n))) eb

    pub goes_past : (read_field s at).answer ≡ F.Field kind id → (skip_call s (read_field s at).state kind).answer ≡ D.Done → count_from (suc t) s at n ≡ count_from t s to (suc n)
    goes_past ea eb = turns_on (F.Field kind id) ea ∙ ap (after_skip (count_from t s to (suc n))) eb

pub no_message : (s : List ℕ) (st : State) (why : ℕ) → (read_message s st).answer ≡ Ms.Refused why → count_fields s st ≡ Refused why
unfolding count_fields
no_message s st why ea = ap (after_message (count_from (length s) s (read_message s st).state 0)) ea

pub some_message : (s : List ℕ) (st : State) (kind : TMessageType) (sequence : SeqNo) (from_place to-place : Place) → (read_message s st).answer ≡ Ms.Got kind sequence from_place to-place
    → count_fields s st ≡ count_from (length s) s (read_message s st).state 0
unfolding count_fields
some_message s st kind sequence from_place to-place ea = ap (after_message (count_from (length s) s (read_message s st).state 0)) ea
