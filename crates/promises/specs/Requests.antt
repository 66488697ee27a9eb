-- What is promised to those who asked for more (docs/SCOPE.md, docs/changes/): frames in bursts, the day file, where a refusal came from, f32, the replay
-- of a trial, the binary protocol. Each promise has its sentence; proofs/KeptRequests.antt proves every one of them. Assumes nothing: these are definitions.
use Rattle.std.specs.Prelude.{ℕ, zero, suc, ◌+◌, ◌-◌, ◌≤◌, ◌<◌, ◌^◌, ◌≡◌, true, false, ◌↔◌, List, [], ◌∷◌, ◌++◌, ltb, length, take, drop}
use Rattle.std.specs.Float.{binary32, binary64}
use Rattle.std.specs.Float.Ieee.{of_bits, nan_bits}
use Rattle.types.specs.Refusals.{END, BAD_DAY}
use Rattle.types.specs.declared.TType.{TType}
use Rattle.types.specs.declared.TType.TheVariants as T
use Rattle.types.specs.declared.TConfiguration.{TConfiguration}
use Rattle.types.specs.Limits.{in_range}
use Rattle.types.specs.Value as val
use Rattle.types.specs.Value.{Tree, Bytes}
use Rattle.numbers.specs.Varint.{got}
use Rattle.heads.specs.Reader.{missing}
use Rattle.heads.specs.Heads.{Message}
use Rattle.heads.specs.Answers.{place}
use Rattle.days.specs.Numbers.{number_checked, number_part}
use Rattle.heads.specs.Spells.{Formed}
use Rattle.input.specs.State as I
use Rattle.skip.specs.Value.{value_of}
use Rattle.skip.specs.Skip.{room_of, skip_of, skip_to, skips, skip_call}
use Rattle.skip.specs.declared.Skipped.{Skipped}
use Rattle.skip.specs.declared.Skipped.TheVariants as S
use Rattle.laws.specs.Written.{readable}
use Rattle.unknown.specs.Inserted.{Inserted}
use Rattle.faults.specs.Fault as fault
use Rattle.faults.specs.Tracked.{Step}
use Rattle.faults.specs.Breaks.{Breaks}
use Rattle.days.specs.Day.{Day, accepted, check_of, message_of, day_of, joined}
use Rattle.days.specs.Lists.{Fair}
use Rattle.frame.specs.State as frame
use Rattle.frame.specs.declared.FrameSkip.{FrameSkip}
use Rattle.frame.specs.declared.Taken.{Taken}
use Rattle.frame.specs.declared.FrameAnswer.{FrameAnswer}
use Rattle.frame.specs.declared.FrameAnswer.TheVariants as F
use Rattle.input.specs.declared.DoneAnswer.{DoneAnswer}
use Rattle.input.specs.declared.DoneAnswer.TheVariants as N
use Rattle.input.specs.Outcome.{says, answers, declines}
use Rattle.single.specs.Held.{held}
use Rattle.single.specs.Counts.{how_many}
use Rattle.single.specs.declared.Single.TheVariants.{Yes, No, NotANumber}
use Rattle.single.specs.declared.Counts.{Counts}
use Rattle.doubles.specs.Doubles.{doubles_of}
use Rattle.doubles.specs.Calls.{on_struct, counts_call}
use Rattle.doubles.specs.declared.CountsAnswer.{CountsAnswer}
use Rattle.doubles.specs.declared.CountsAnswer.TheVariants as C
use Rattle.points.specs.Points.{list, trial_of, points_of}
use Rattle.points.specs.Replay.{step_call, finish_call}
use Rattle.points.specs.declared.Point.{Point}
use Rattle.points.specs.declared.Replay.{Replay}
use Rattle.points.specs.declared.StepAnswer.TheVariants as P
use Rattle.point_laws.specs.Padded.{of_trial, Padded}
use Rattle.protocols.specs.Words as protocol
use Rattle.protocols.specs.Words.{Words}
use Rattle.protocols.specs.Value.{value_by}
use Rattle.protocols.specs.Spells.{FormedBy}
use Rattle.binary_heads.specs.Words as words
use Rattle.binary_input.specs.State as B
use Rattle.binary_input.specs.Calls as bskip
use Rattle.transcode.specs.Pens as pens
use Rattle.transcode.specs.Pens.{Pens}
use Rattle.transcode.specs.Letter.{letter_by, bytes_of_letter}

-- FRAMES. "However a frame of the announced length is cut, the final answer and bytes used are those of skip over the whole frame", and an
-- answer that comes early is skip's on every completion; "A final answer stays, whatever comes"
abbrev pub Fed : FrameSkip → List (List ℕ) → FrameSkip → Type 0
Fed f [] g = f ≡ g
Fed f (bs ∷ bss) g = (r : Taken) × frame.Took f bs r × Fed r.state bss g

abbrev pub as_skip : Skipped → FrameAnswer
as_skip (S.Done e) = F.Done e.0
as_skip (S.Refused why) = F.Refused why

abbrev pub FrameAsSkip : Type 0
FrameAsSkip =
    (lim : TConfiguration) (announced : ℕ) (f g : FrameSkip) (bss : List (List ℕ)) (cs ds : List ℕ) (r : Taken) →
    in_range lim ≡ true → frame.Begins lim announced f → Fed f bss g → frame.Took g cs r →
    (r.answer ≡ F.More → ⊥) → length ((joined bss ++ cs) ++ ds) ≡ announced →
    r.answer ≡ as_skip (skip_to ((joined bss ++ cs) ++ ds) lim.message lim lim.depth T.Struct 0)

abbrev pub FrameWhole : Type 0
FrameWhole =
    (lim : TConfiguration) (announced : ℕ) (f g : FrameSkip) (bss : List (List ℕ)) (cs : List ℕ) (r : Taken) →
    in_range lim ≡ true → frame.Begins lim announced f → Fed f bss g → frame.Took g cs r → length (joined bss ++ cs) ≡ announced →
    r.answer ≡ as_skip (skip_to (joined bss ++ cs) lim.message lim lim.depth T.Struct 0)

abbrev pub FrameStays : Type 0
FrameStays =
    (f : FrameSkip) (cs : List ℕ) (r : Taken) → frame.sound_of f ≡ true → (frame.answer_of f ≡ F.More → ⊥) → frame.Took f cs r →
    r ≡ record { answer = frame.answer_of f; state = f }

-- THE DAY FILE. "A file is accepted exactly if these rules hold"; "the same list of non-empty messages has just one file"
abbrev pub DayAccepted : Type 0
DayAccepted = (file : List ℕ) → (accepted file ≡ true) ↔ Day file

-- "otherwise refused 18, as is a message number of N or more"
abbrev pub DayGives : Type 0
DayGives =
    (file : List ℕ) (k : ℕ) →
    ((number_checked (check_of file) ≡ 0 → ⊥) → number_checked (check_of file) ≡ BAD_DAY)
    × ((number_part (message_of file k) ≡ 0 → ⊥) → number_part (message_of file k) ≡ BAD_DAY)

-- the files that are accepted are those of the lists that are fair
abbrev pub DayLists : Type 0
DayLists = (file : List ℕ) → Bytes file → (accepted file ≡ true) ↔ ((ms : List (List ℕ)) × (Fair ms × (file ≡ day_of ms)))

abbrev pub DayOneList : Type 0
DayOneList = (ms ns : List (List ℕ)) → Fair ms → Fair ns → day_of ms ≡ day_of ns → ms ≡ ns

-- WHERE A REFUSAL CAME FROM. "For a struct that skip refuses we want the number, the offset .. and the path"; "On a struct that skip accepts it
-- says so": the number is skip's, in every state, and so is what is accepted
abbrev pub FaultAsSkip : Type 0
FaultAsSkip =
    (s : List ℕ) (st : I.State) →
    ((e : ℕ) → fault.faults s st ≡ fault.accepted e → skips T.Struct s st ≡ answers tt (I.moved_to st (place e)))
    × ((why off : ℕ) (path : List Step) → fault.faults s st ≡ fault.fault why off path → skips T.Struct s st ≡ declines why st)

-- "other bytes behind the offset, with the length kept, change neither number, offset nor path"
abbrev pub FaultBehind : Type 0
FaultBehind =
    (s t : List ℕ) (st : I.State) (why off : ℕ) (path : List Step) → fault.faults s st ≡ fault.fault why off path →
    take (suc off) t ≡ take (suc off) s → length t ≡ length s → fault.faults t st ≡ fault.fault why off path

-- "the offset and path are those at which 01's definition of a well-formed value first breaks": the offset lies in the input, before the
-- cut; cut anywhere before it, skip's answer is END; no well-formed value agrees with the input up to it; and the path leads to where it breaks
abbrev pub FaultFirst : Type 0
FaultFirst =
    (s : List ℕ) (st : I.State) (why off : ℕ) (path : List Step) → fault.faults s st ≡ fault.fault why off path → I.gate (length s) st ≡ 0 →
    ((st.place.0 ≤ off) × (off ≤ length s) × (off ≤ I.cut_of st))
    × ((j : ℕ) → st.place.0 ≤ j → j < off → skip_of (take j s) st.limits (room_of st) T.Struct st.place.0 ≡ S.Refused END)
    × ((t : List ℕ) → take (suc off) t ≡ take (suc off) s → length t ≡ length s →
    (d : ℕ) → d ≤ I.cut_of st → Formed t st.limits (room_of st) T.Struct st.place.0 d → ⊥)

abbrev pub FaultPath : Type 0
FaultPath =
    (s : List ℕ) (st : I.State) (why off : ℕ) (path : List Step) → fault.faults s st ≡ fault.fault why off path → I.gate (length s) st ≡ 0 →
    (number read : ℕ) × Breaks path st.limits (room_of st) T.Struct (drop st.place.0 (take (I.cut_of st) s)) number read
    × (missing (ltb (I.cut_of st) (length s)) number ≡ why) × (off ≡ st.place.0 + (read - 1))

abbrev pub FaultFew : Type 0
FaultFew = (s : List ℕ) (st : I.State) (why off : ℕ) (path : List Step) → fault.faults s st ≡ fault.fault why off path → length path ≤ 64

-- SETTLING f32. "say whether an f32 holds that very number": yes exactly where some 32 bits stand for it, by the kit's own IEEE 754
abbrev pub SingleYes : Type 0
SingleYes = (n : ℕ) → (held n ≡ Yes) ↔ ((nan_bits binary64 n ≡ false) × ((b : ℕ) × (b < 2 ^ 32) × (of_bits binary32 b ≡ of_bits binary64 n)))

abbrev pub SingleNan : Type 0
SingleNan = (n : ℕ) → (held n ≡ NotANumber) ↔ (nan_bits binary64 n ≡ true)

-- "A struct that skip refuses gives that refusal and no counts": in every state
abbrev pub without : CountsAnswer → DoneAnswer
without (C.Got c) = N.Done
without (C.Refused why) = N.Refused why

abbrev pub SinglesAsSkip : Type 0
SinglesAsSkip =
    (s : List ℕ) (st : I.State) → record { answer = without (counts_call s st).answer; state = (counts_call s st).state } ≡ skip_call s st T.Struct

-- "The three counts together are the doubles found by walking the value tree, map keys and nested structs among them"
abbrev pub SinglesCounted : Type 0
SinglesCounted =
    (s : List ℕ) (st : I.State) (c : Counts) → length s < 2 ^ 64 → (counts_call s st).answer ≡ C.Got c →
    (t : Tree) × ((on_struct s st).said ≡ says t) × (c.yes ≡ how_many Yes (doubles_of t)) × (c.no ≡ how_many No (doubles_of t))
    × (c.nan ≡ how_many NotANumber (doubles_of t)) × (c.yes + c.no + c.nan ≡ length (doubles_of t))

-- REPLAY. "A replay stopped after any point and continued ends the same"
unfoldable pub Steps : List ℕ → ℕ → Replay → Replay → Type 0
Steps s zero r q = q ≡ r
Steps s (suc k) r q = (p : Point) × (m : Replay) × (step_call s r ≡ record { answer = P.Got p; state = m }) × Steps s k m q

abbrev pub ReplayContinued : Type 0
ReplayContinued = (s : List ℕ) (k : ℕ) (r q : Replay) → Steps s k r q → finish_call s q ≡ finish_call s r

-- "Fields are found as by the picker, others passed over, and demand 3 holds for each point"
abbrev pub ReplayUnknown : Type 0
ReplayUnknown =
    ((fs gs : val.Fields) → Inserted of_trial fs gs → trial_of gs ≡ trial_of fs)
    × ((ty : TType) (ts us : val.Trees) → Padded ts us → points_of (list ty us) ≡ points_of (list ty ts))

-- BINARY. "with our limits and refusal numbers": skip of the binary protocol succeeds exactly on a well-formed value within the limits
abbrev pub BinarySkipExactly : Type 0
BinarySkipExactly =
    (s : List ℕ) (st : B.State) (kind : TType) → B.sound (length s) st ≡ true → (e : ℕ) →
    (bskip.skip_call s st kind ≡ bskip.skipped_to st e) ↔ (FormedBy words.binary s st.limits (B.room_of st) kind st.place.0 e × (e ≤ B.cut_of st))

-- "The type codes differ, so the tree and the limits are proved once for both": compact's own definition is the one over its words
abbrev pub OneValue : Type 0
OneValue = (lim : TConfiguration) (room : ℕ) (ty : TType) → value_of lim room ty ≡ value_by protocol.compact lim room ty

-- "Compact to binary and back must give the same value tree, to the bit of each double, and the reverse too": of every input of bytes that one
-- accepts, the other reads the translation, whatever follows it, as the same message and value, empty maps without their types; and so does the first once more
pub data Side : Type 0 where
  compactly : Side
  binarily : Side

abbrev pub words_of : Side → Words
words_of compactly = protocol.compact
words_of binarily = words.binary

abbrev pub pens_of : Side → Pens
pens_of compactly = pens.compact
pens_of binarily = pens.binary

abbrev pub Translates : Type 0
Translates =
    (a b : Side) (lim : TConfiguration) (s : List ℕ) (l : Message × Tree) (n : ℕ) → in_range lim ≡ true → Bytes s →
    letter_by (words_of a) lim s ≡ got l n →
    ((rest : List ℕ) → letter_by (words_of b) lim (bytes_of_letter (pens_of b) l ++ rest) ≡ got (l.0, readable l.1) (length (bytes_of_letter (pens_of b) l)))
    × ((rest : List ℕ) → letter_by (words_of a) lim (bytes_of_letter (pens_of a) (l.0, readable l.1) ++ rest)
    ≡ got (l.0, readable l.1) (length (bytes_of_letter (pens_of a) (l.0, readable l.1))))
