-- What is promised, in the order of the scope paper (docs/SCOPE.md), each promise with its sentence; what later requests have added has a page of
-- its own, Requests.antt. proofs/Kept.antt proves every one of
-- them. That each call ends, and answers as its definition says for every input, is its contract, in src/ of its crate. Assumes nothing:
-- these are definitions.
use Rattle.std.specs.Prelude.{ℕ, suc, ◌+◌, ◌*◌, ◌-◌, ◌≤◌, ◌≡◌, Bool, true, false, ◌||◌, ◌↔◌, List, [], ◌∷◌, ◌++◌, eqb, leb, ℤ, pos, length, take}
use Rattle.std.specs.Int.{w16, w32, w64}
use Rattle.std.proofs.Common.{SFits}
use Rattle.types.specs.Refusals.{DEPTH, OUT_OF_TURN, NO_ROOM, BAD_STATE, BAD_LIST, RANGE, MESSAGE_SIZE}
use Rattle.types.specs.declared.TType.{TType}
use Rattle.types.specs.declared.TType.TheVariants as T
use Rattle.types.specs.declared.TMessageType.{TMessageType}
use Rattle.types.specs.declared.SeqNo.{SeqNo}
use Rattle.types.specs.declared.TConfiguration.{TConfiguration}
use Rattle.types.specs.Limits.{in_range}
use Rattle.types.specs.Value as val
use Rattle.types.specs.Value.{Tree, Fields, type_of, nesting, Bytes, Within}
use Rattle.zigzag.specs.Zigzag.{zigzag, unzigzag}
use Rattle.numbers.specs.Varint.{Found, got, refused, varint, fewest}
use Rattle.puts.specs.Bytes.{int_bytes}
use Rattle.heads.specs.Reader.{read_to}
use Rattle.heads.specs.Heads.{Message, message}
use Rattle.heads.specs.Answers.{place, id_of, int8_at, int16_at, int32_at, int64_at, double_at, truth_at, uuid_at, binary_at, text_at, items_head_at, pairs_head_at, field_at, message_at}
use Rattle.heads.specs.Numbers.{number_i8_read, number_i16_read, number_i32_read, number_i64_read, number_double_read, number_bool_read, number_part_read, number_list_head, number_map_head, number_field_head, number_message_head}
use Rattle.skip.specs.Numbers.{number_skipped}
use Rattle.heads.specs.Spells.{Spells, Formed}
use Rattle.input.specs.State as I
use Rattle.input.specs.declared.Awaited.TheVariants as W
use Rattle.input.specs.Answers.{number_message}
use Rattle.input.specs.Calls.{read_message}
use Rattle.output.specs.State as O
use Rattle.skip.specs.Walk.{Entry, fields}
use Rattle.skip.specs.Value.{value_of}
use Rattle.lent.specs.Count.{count_fields}
use Rattle.lent.specs.declared.Counted.{Counted}
use Rattle.lent.specs.declared.Counted.TheVariants as C
use Rattle.skip.specs.Skip.{room_of, skip_of, skip_call, skipped_to}
use Rattle.skip.specs.declared.Skipped.TheVariants as S
use Rattle.wanted.specs.Wanted.{listed}
use Rattle.picker.specs.Pick.{pick_call, picked_rows}
use Rattle.laws.specs.Written.{bytes_of, bytes_of_whole, readable, HeaderWithin}
use Rattle.laws.specs.Text.{Plan, Texts}
use Rattle.laws.specs.Writing.{write_of, write_whole}
use Rattle.laws.specs.Reading.{took, read_of, read_whole}
use Rattle.laws.proofs.Table as table
use Rattle.unknown.specs.Inserted.{Inserted}
use Rattle.lines.specs.Lines as line
use Rattle.lines.specs.Lines.{Item}
use Rattle.printer.specs.Printing as printer
use Rattle.printer.specs.Printing.{report}
use Rattle.print_laws.specs.Tree.{items_of}
use Rattle.promises.specs.Reads.{Read, pick, reads, late, far, reads_all}
use Rattle.promises.specs.Writes as writing
use Rattle.promises.specs.Writes.{Write, number, next, left, can_give, one_of, writes_all}
use Rattle.promises.specs.ReaderRows as readers
use Rattle.promises.specs.WriterRows as writers
use Rattle.promises.specs.Standing as standing
use Rattle.promises.specs.Standing.{Writer, Reader, Wrote, Picked, Unmoved}

-- DEMAND 1. "A refusal returns its number and the state as given; lent buffers keep their bytes"
abbrev pub ReaderRefuses : Type 0
ReaderRefuses = (c : Read) (s : List ℕ) (st : I.State) → ((reads c s st).number ≡ 0 → ⊥) → (reads c s st).state ≡ st

abbrev pub WriterRefuses : Type 0
WriterRefuses = (c : Write) (buf : List ℕ) (st : O.State) → (number c buf st ≡ 0 → ⊥) → (next c buf st ≡ st) × (left c buf st ≡ buf)

abbrev pub PickerRefuses : Type 0
PickerRefuses =
    (ids : List ℤ) (kinds s rows : List ℕ) (st : I.State) →
    ((reads (pick ids kinds (length rows)) s st).number ≡ 0 → ⊥) → picked_rows ids kinds s st rows ≡ rows

-- "A state is sound when 15 is not given"; and it stays so, whatever is called and in whatever order
abbrev pub ReaderSound : Type 0
ReaderSound = (c : Read) (s : List ℕ) (st : I.State) → ((reads c s st).number ≡ BAD_STATE) ↔ (I.sound (length s) st ≡ false)

abbrev pub ReaderStaysSound : Type 0
ReaderStaysSound =
    (cs : List Read) (s : List ℕ) (st : I.State) → I.sound (length s) st ≡ true → I.sound (length s) (reads_all cs s st) ≡ true

abbrev pub WriterSound : Type 0
WriterSound = (c : Write) (buf : List ℕ) (st : O.State) → (number c buf st ≡ BAD_STATE) ↔ (O.unsound (length buf) st ≡ BAD_STATE)

abbrev pub WriterStaysSound : Type 0
WriterStaysSound =
    (cs : List Write) (buf : List ℕ) (st : O.State) →
    O.unsound (length buf) st ≡ 0 → O.unsound (length (writes_all cs buf st).buffer) (writes_all cs buf st).state ≡ 0

-- "OUT OF TURN: a bool is pending and the call is neither the bool call nor a skip of Bool; or a struct is ended at depth 0"
abbrev pub ReaderTurn : Type 0
ReaderTurn =
    (c : Read) (s : List ℕ) (st : I.State) →
    ((reads c s st).number ≡ OUT_OF_TURN) ↔ ((I.sound (length s) st ≡ true) × (late c st ≡ true))

abbrev pub WriterTurn : Type 0
WriterTurn =
    (c : Write) (buf : List ℕ) (st : O.State) →
    (number c buf st ≡ OUT_OF_TURN) ↔ ((O.unsound (length buf) st ≡ 0) × (writing.late c st ≡ true))

-- which numbers there are: 13 is "unused", 18 the day file's; a writer's call has its own
abbrev pub reader_gives : ℕ → Bool
reader_gives n = eqb n BAD_STATE || (eqb n NO_ROOM || (eqb n BAD_LIST || (eqb n RANGE || (eqb n MESSAGE_SIZE || leb n 12))))

abbrev pub ReaderGives : Type 0
ReaderGives = (c : Read) (s : List ℕ) (st : I.State) → reader_gives (reads c s st).number ≡ true

abbrev pub WriterGives : Type 0
WriterGives = (c : Write) (buf : List ℕ) (st : O.State) → one_of (number c buf st) (0 ∷ can_give c) ≡ true

-- "Where an answer is an enum, a definition gives this paper's number": the functions behind the calls give a reader's numbers
abbrev pub InnerGives : Type 0
InnerGives =
    (s : List ℕ) (at : ℕ) (lim : TConfiguration) (last : ℤ) (room : ℕ) (ty : TType) →
    (reader_gives (number_i8_read (int8_at s at)) ≡ true)
    × (reader_gives (number_i16_read (int16_at s at)) ≡ true)
    × (reader_gives (number_i32_read (int32_at s at)) ≡ true)
    × (reader_gives (number_i64_read (int64_at s at)) ≡ true)
    × (reader_gives (number_double_read (double_at s at)) ≡ true)
    × (reader_gives (number_bool_read (truth_at s at)) ≡ true)
    × (reader_gives (number_part_read (uuid_at s at)) ≡ true)
    × (reader_gives (number_part_read (binary_at s lim at)) ≡ true)
    × (reader_gives (number_part_read (text_at s lim at)) ≡ true)
    × (reader_gives (number_list_head (items_head_at s lim at)) ≡ true)
    × (reader_gives (number_map_head (pairs_head_at s lim at)) ≡ true)
    × (reader_gives (number_field_head (field_at s last at)) ≡ true)
    × (reader_gives (number_message_head (message_at s lim at)) ≡ true)
    × (reader_gives (number_skipped (skip_of s lim room ty at)) ≡ true)

-- NUMBERS. "Zigzag: n ≥ 0 as 2n, n < 0 as -2n-1", and back; "The writer uses the fewest bytes: at most 3 for a 16-bit zigzag number, 5 for
-- 32 bits and 10 for 64"
abbrev pub Zigzags : Type 0
Zigzags = ((z : ℤ) → unzigzag (zigzag z) ≡ z) × ((n : ℕ) → zigzag (unzigzag n) ≡ n)

abbrev pub Fewest : Type 0
Fewest = (w k : ℕ) (bs : List ℕ) (n m : ℕ) → varint w k bs ≡ got n m → length (fewest n) ≤ m

abbrev pub AtMost : Type 0
AtMost =
    ((z : ℤ) → SFits w16 z → length (int_bytes z) ≤ 3)
    × ((z : ℤ) → SFits w32 z → length (int_bytes z) ≤ 5)
    × ((z : ℤ) → SFits w64 z → length (int_bytes z) ≤ 10)

-- DEMAND 2. The values "within the limits" are those that well-formed bytes spell
abbrev pub FormedWithin : Type 0
FormedWithin =
    (s : List ℕ) (lim : TConfiguration) (depth room : ℕ) (ty : TType) (at e : ℕ) (f : Formed s lim room ty at e) →
    Bytes s → depth + room ≤ lim.depth → Within lim depth f.tree × (type_of f.tree ≡ ty)

abbrev pub WithinFormed : Type 0
WithinFormed =
    (lim : TConfiguration) (depth : ℕ) (t : Tree) → in_range lim ≡ true → Within lim depth t →
    Spells (readable t) lim (lim.depth - depth) (type_of t) (bytes_of t) × Bytes (bytes_of t)

-- "accepted bytes have one decoded answer and end place"
abbrev pub OneTree : Type 0
OneTree =
    (s : List ℕ) (lim : TConfiguration) (room : ℕ) (ty : TType) (at e d : ℕ) →
    (f : Formed s lim room ty at e) (g : Formed s lim room ty at d) →
    (f.tree ≡ g.tree) × (e ≡ d)

-- "What is written and read is the same, to the bit, with no byte left": a value is written by the writer's calls, all its bytes and no
-- other, and read by the reader's calls wherever these stand (`readable`: an empty map has no types)
abbrev pub ValueWritten : Type 0
ValueWritten =
    (lim : TConfiguration) (depth : ℕ) (plan : Plan) (t : Tree) (buf : List ℕ) (st : O.State) →
    Within lim depth t → Texts plan t → Writer lim depth (bytes_of t) buf (O.cut_of st) st →
    Wrote (write_of plan t) (bytes_of t) buf st.begin.0 st

abbrev pub ValueRead : Type 0
ValueRead =
    (lim : TConfiguration) (depth : ℕ) (plan : Plan) (t : Tree) (s rest : List ℕ) (st : I.State) →
    Within lim depth t → Texts plan t → Reader lim depth (bytes_of t) s rest (I.cut_of st) st →
    standing.Read (read_of s (type_of t) plan st) (readable t) (bytes_of t) s rest st.begin.0 st.last st

-- the same of a whole message: "Beginning a message starts the count at its first byte"; "Reading it sets the last field id to 0; writing
-- it doesn't"
abbrev pub MessageWritten : Type 0
MessageWritten =
    (lim : TConfiguration) (depth : ℕ) (plan : Plan) (m : TMessageType) (z : SeqNo) (name : List ℕ) (fs : Fields) →
    (buf : List ℕ) (st : O.State) →
    HeaderWithin lim z name → Within lim depth (val.struct fs) → Texts plan (val.struct fs) →
    Writer lim depth (bytes_of_whole m z name fs) buf (st.place.0 + lim.message) st →
    Wrote (write_whole plan m z name fs) (bytes_of_whole m z name fs) buf st.place.0 st

abbrev pub MessageRead : Type 0
MessageRead =
    (lim : TConfiguration) (depth : ℕ) (plan : Plan) (m : TMessageType) (z : SeqNo) (name : List ℕ) (fs : Fields) →
    (s rest : List ℕ) (st : I.State) →
    HeaderWithin lim z name → Within lim depth (val.struct fs) → Texts plan (val.struct fs) →
    Reader lim depth (bytes_of_whole m z name fs) s rest (st.place.0 + lim.message) st →
    standing.Read (read_whole s plan st) (m, z.0, name, readable (val.struct fs))
    (bytes_of_whole m z name fs) s rest st.place.0 (id_of (pos 0)) st

-- reading by the calls gives a tree exactly where well-formed bytes spell it, nested no deeper than skip goes
abbrev pub ReadExactly : Type 0
ReadExactly =
    (s : List ℕ) (st : I.State) (plan : Plan) (ty : TType) (t : Tree) (n : ℕ) →
    I.sound (length s) st ≡ true → st.pending.0 ≡ W.Nothing → length st.ids ≡ 64 →
    ((next : I.State) × (read_of s ty plan st ≡ took t next) × (next.place.0 ≡ st.place.0 + n) × (nesting t ≤ room_of st))
    ↔ ((f : Formed s st.limits (room_of st) ty st.place.0 (st.place.0 + n))
    × (st.place.0 + n ≤ I.cut_of st) × (f.tree ≡ t) × Texts plan t)

-- "Skip succeeds exactly on a well-formed value within the limits and uses just its bytes"
abbrev pub SkipExactly : Type 0
SkipExactly =
    (s : List ℕ) (st : I.State) (ty : TType) (e : ℕ) → I.sound (length s) st ≡ true → I.waits st.pending.0 ≡ false →
    (skip_call s st ty ≡ skipped_to st e) ↔ (Formed s st.limits (room_of st) ty st.place.0 e × (e ≤ I.cut_of st))

-- "DEPTH: .. skip enters any container, at the depth limit": given exactly where more room would change the answer (as many levels more as
-- there are bytes are always enough)
abbrev pub SkipDeep : Type 0
SkipDeep =
    (s : List ℕ) (lim : TConfiguration) (room : ℕ) (ty : TType) (at : ℕ) →
    (skip_of s lim room ty at ≡ S.Refused DEPTH) ↔ (skip_of s lim (room + suc (length s)) ty at ≡ skip_of s lim room ty at → ⊥)

-- "Bytes behind an accepted value have no say: two inputs that agree up to its end give skip, picker and every read the same answer"
abbrev pub BehindNoSay : Type 0
BehindNoSay =
    (c : Read) (s t : List ℕ) (st : I.State) → (reads c s st).number ≡ 0 →
    take (reads c s st).state.place.0 t ≡ take (reads c s st).state.place.0 s → far c s t → reads c t st ≡ reads c s st

-- what was read lies in the input, behind what was read before
abbrev pub InTheInput : Type 0
InTheInput =
    (c : Read) (s : List ℕ) (st : I.State) → (reads c s st).number ≡ 0 →
    (st.place.0 ≤ (reads c s st).state.place.0) × ((reads c s st).state.place.0 ≤ length s)

-- DEMAND 3. "Once 16 and 14 are past, it accepts, refuses and moves the state as a skip of Struct there does"
abbrev pub PicksAsSkip : Type 0
PicksAsSkip =
    (s : List ℕ) (st : I.State) (ids : List ℤ) (kinds : List ℕ) (n : ℕ) →
    listed ids kinds ≡ true → 3 * length ids ≤ n → pick_call ids kinds n s st ≡ skip_call s st T.Struct

-- "The picker answers each listed field id with the last field of that id and type"
abbrev pub PicksLast : Type 0
PicksLast =
    (lim : TConfiguration) (depth : ℕ) (ids : List ℤ) (kinds : List ℕ) (fs : Fields) (s rest rows : List ℕ) (st : I.State) →
    listed ids kinds ≡ true → 3 * length ids ≤ length rows → Within lim depth (val.struct fs) →
    Reader lim depth (bytes_of (val.struct fs)) s rest (I.cut_of st) st → Picked ids kinds fs s st rows

-- "Unknown complete fields put among a struct's own change no answer"
abbrev pub UnknownUnmoved : Type 0
UnknownUnmoved =
    (lim : TConfiguration) (depth : ℕ) (ids : List ℤ) (kinds : List ℕ) (fs gs : Fields) →
    (s₁ s₂ rest₁ rest₂ rows₁ rows₂ : List ℕ) (st₁ st₂ : I.State) →
    listed ids kinds ≡ true → 3 * length ids ≤ length rows₁ → 3 * length ids ≤ length rows₂ →
    Within lim depth (val.struct fs) → Within lim depth (val.struct gs) → Inserted ids fs gs →
    Reader lim depth (bytes_of (val.struct fs)) s₁ rest₁ (I.cut_of st₁) st₁ →
    Reader lim depth (bytes_of (val.struct gs)) s₂ rest₂ (I.cut_of st₂) st₂ →
    Unmoved ids kinds fs gs s₁ s₂ st₁ st₂ rows₁ rows₂

-- "a reader that keeps the lent bytes beside its place": its `count_fields` counts what the walk over a message's fields finds
abbrev pub counted : ℕ → Found (List (Entry Tree)) → Counted
counted n (got fs e) = C.Done (n + length fs) (place e)
counted n (refused why) = C.Refused why

abbrev pub CountsFields : Type 0
CountsFields =
    (s : List ℕ) (st : I.State) → number_message (read_message s st).answer ≡ 0 → let next = (read_message s st).state in
    count_fields s st ≡ counted 0 (read_to (fields val.truth (value_of st.limits (room_of st)) (pos 0)) s (I.cut_of next) next.place.0)

-- SAMPLE BYTES. "Marked T: proved together as one table" (crates/laws/proofs/Table.antt has its lines)
abbrev pub TableT : Type 0
TableT = table.Table

-- THE PRINTING PROGRAM. A well-formed message prints the lines of its tree, "At the end `end USED LEFT`, or `refused N` after the lines so
-- far"
abbrev pub PrintsTree : Type 0
PrintsTree =
    (s : List ℕ) (m : Message) (k e : ℕ) → length s ≤ 65536 → message printer.limits s ≡ got m k →
    (f : Formed s printer.limits 64 T.Struct k e) →
    report s ≡ line.message m.0 m.1 m.2 ∷ (items_of f.tree ++ (line.end e (length s - e) ∷ []))

abbrev pub PrintsRefusal : Type 0
PrintsRefusal =
    (s : List ℕ) (m : Message) (k why : ℕ) → length s ≤ 65536 → message printer.limits s ≡ got m k →
    skip_of s printer.limits 64 T.Struct k ≡ S.Refused why →
    (before : List Item) × (report s ≡ line.message m.0 m.1 m.2 ∷ (before ++ (line.refusal why ∷ [])))

-- the lines before a refusal are those of the items that were whole before the break: of an input that is cut short, all but the last are
-- the first of the whole's
abbrev pub PrintsCut : Type 0
PrintsCut = (s : List ℕ) (k : ℕ) → length s ≤ 65536 → (n : ℕ) × (last : Item) × (report (take k s) ≡ take n (report s) ++ (last ∷ []))

-- THE EXPORTS. "calls the port through plain numbers and byte slices": an export answers the number of its call and leaves rows that hold
-- the call's next state; so whatever is promised of a row of calls is promised of a row of exports
abbrev pub ReaderExports : Type 0
ReaderExports =
    (c : Read) (s row : List ℕ) (ids : List ℤ) (st : I.State) → readers.Holds row ids st →
    ((readers.exported c s row ids).number ≡ (reads c s st).number)
    × readers.Holds (readers.exported c s row ids).row (readers.exported c s row ids).ids (reads c s st).state

abbrev pub ReaderExportsAll : Type 0
ReaderExportsAll =
    (cs : List Read) (s row : List ℕ) (ids : List ℤ) (st : I.State) → readers.Holds row ids st →
    readers.Holds (readers.exported_all cs s row ids).row (readers.exported_all cs s row ids).ids (reads_all cs s st)

abbrev pub WriterExports : Type 0
WriterExports =
    (c : Write) (buf row : List ℕ) (ids : List ℤ) (st : O.State) → writers.Given c → writers.Holds row ids st →
    ((writers.exported c buf row ids).number ≡ number c buf st) × ((writers.exported c buf row ids).buffer ≡ left c buf st)
    × writers.Holds (writers.exported c buf row ids).row (writers.exported c buf row ids).ids (next c buf st)

abbrev pub WriterExportsAll : Type 0
WriterExportsAll =
    (cs : List Write) (buf row : List ℕ) (ids : List ℤ) (st : O.State) → writers.AllGiven cs → writers.Holds row ids st →
    ((writers.exported_all cs buf row ids).buffer ≡ (writes_all cs buf st).buffer)
    × writers.Holds (writers.exported_all cs buf row ids).row (writers.exported_all cs buf row ids).ids (writes_all cs buf st).state
