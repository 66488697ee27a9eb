-- The three calls' answers as one kind of thing. Assumes nothing.
use mathlib.Core.Path.{refl}
use mathlib.Core.List.{[]}
use mir.Syntax.{erased}
use denote.Ref.{NamedLft}
use Rattle.lent.specs.Lent.{hand_message, hand_field, hand_done}
use Rattle.input.specs.declared.ReadMessage.{ReadMessage}
use Rattle.input.specs.contracts.MessageAnswer as MessageAnswer
use Rattle.input.proofs.MessageAnswer.TheLaws as MessageAnswer'
use Rattle.input.specs.contracts.ReadMessage as ReadMessageᵀ
use Rattle.lent.specs.declared.LentMessage.{LentMessage}
use Rattle.lent.specs.contracts.LentMessage as LentMessageᵀ
use Rattle.input.specs.declared.ReadField.{ReadField}
use Rattle.input.specs.contracts.FieldAnswer as FieldAnswer
use Rattle.input.proofs.FieldAnswer.TheLaws as FieldAnswer'
use Rattle.input.specs.contracts.ReadField as ReadFieldᵀ
use Rattle.lent.specs.declared.LentField.{LentField}
use Rattle.lent.specs.contracts.LentField as LentFieldᵀ
use Rattle.input.specs.declared.ReadDone.{ReadDone}
use Rattle.input.specs.contracts.DoneAnswer as DoneAnswer
use Rattle.input.proofs.DoneAnswer.TheLaws as DoneAnswer'
use Rattle.input.specs.contracts.ReadDone as ReadDoneᵀ
use Rattle.lent.specs.declared.LentDone.{LentDone}
use Rattle.lent.specs.contracts.LentDone as LentDoneᵀ
use Rattle.lent.proofs.Answers.{Answering}

-- a struct's name is the same at every lifetime
abbrev any : NamedLft
any = record { mir = erased; lft = [] }

abbrev pub message : Answering
message =
    record {
      E = MessageAnswer.the_type;
      laws = MessageAnswer'.the_field_laws;
      plain = MessageAnswer'.the_plain;
      read_name = (ReadMessageᵀ.the_type).name;
      Read = ReadMessage;
      answer = λ r. r.answer;
      state = λ r. r.state;
      read_cover = (ReadMessageᵀ.the_type).cover;
      read_propositions = (ReadMessageᵀ.the_type).propositions;
      read_one = (ReadMessageᵀ.the_type).to_one;
      handed_name = (LentMessageᵀ.the_type any).name;
      Handed = LentMessage;
      answered = λ h. h.answer;
      reader = λ h. h.reader;
      handed_cover = λ α. (LentMessageᵀ.the_type α).cover;
      handed_propositions = λ α. (LentMessageᵀ.the_type α).propositions;
      handed_one = λ α. (LentMessageᵀ.the_type α).to_one;
      hand = hand_message;
      hands = λ d r. refl;
      hands_reader = λ d r. refl;
    }

abbrev pub field : Answering
field =
    record {
      E = FieldAnswer.the_type;
      laws = FieldAnswer'.the_field_laws;
      plain = FieldAnswer'.the_plain;
      read_name = (ReadFieldᵀ.the_type).name;
      Read = ReadField;
      answer = λ r. r.answer;
      state = λ r. r.state;
      read_cover = (ReadFieldᵀ.the_type).cover;
      read_propositions = (ReadFieldᵀ.the_type).propositions;
      read_one = (ReadFieldᵀ.the_type).to_one;
      handed_name = (LentFieldᵀ.the_type any).name;
      Handed = LentField;
      answered = λ h. h.answer;
      reader = λ h. h.reader;
      handed_cover = λ α. (LentFieldᵀ.the_type α).cover;
      handed_propositions = λ α. (LentFieldᵀ.the_type α).propositions;
      handed_one = λ α. (LentFieldᵀ.the_type α).to_one;
      hand = hand_field;
      hands = λ d r. refl;
      hands_reader = λ d r. refl;
    }

abbrev pub done : Answering
done =
    record {
      E = DoneAnswer.the_type;
      laws = DoneAnswer'.the_field_laws;
      plain = DoneAnswer'.the_plain;
      read_name = (ReadDoneᵀ.the_type).name;
      Read = ReadDone;
      answer = λ r. r.answer;
      state = λ r. r.state;
      read_cover = (ReadDoneᵀ.the_type).cover;
      read_propositions = (ReadDoneᵀ.the_type).propositions;
      read_one = (ReadDoneᵀ.the_type).to_one;
      handed_name = (LentDoneᵀ.the_type any).name;
      Handed = LentDone;
      answered = λ h. h.answer;
      reader = λ h. h.reader;
      handed_cover = λ α. (LentDoneᵀ.the_type α).cover;
      handed_propositions = λ α. (LentDoneᵀ.the_type α).propositions;
      handed_one = λ α. (LentDoneᵀ.the_type α).to_one;
      hand = hand_done;
      hands = λ d r. refl;
      hands_reader = λ d r. refl;
    }
