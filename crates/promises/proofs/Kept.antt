-- Every promise of specs/Promises.antt, kept: each by the law that has it. Assumes nothing.
use mathlib.Core.Path.{◌≡◌, refl, sym, ap, ◌∙◌}
use mathlib.Core.List.{[], ◌∷◌, ◌++◌}
use Prim.Native.Nat.{◌-◌}
use native.Mathlib.Omega.{arith}
use borrow.Author.Tests.{le-leb}
use lib.ListN.{length}
use Rattle.types.specs.declared.TType.TheVariants as T
use Rattle.types.specs.Value.{Tree}
use Rattle.types.proofs.Limits.{ranged}
use Rattle.zigzag.proofs.Zig.{un_zig, zig_un}
use Rattle.numbers.specs.Varint.{got}
use Rattle.numbers.proofs.Fewest.{shortest}
use Rattle.puts.proofs.Most.{i16_most, i32_most, i64_most}
use Rattle.skip.specs.Skip.{skip_call}
use Rattle.skip.proofs.Theorems.{reads, one_tree}
use Rattle.skip.proofs.Call.{call_exact}
use Rattle.picker.proofs.Laws.{as_skip_call, rows_kept}
use Rattle.laws.proofs.Spelt.{spelt}
use Rattle.laws.proofs.Table.{table}
use Rattle.lines.specs.Lines as line
use Rattle.printer.specs.Printing as printer
use Rattle.print_laws.specs.Tree.{items_of}
use Rattle.print_laws.proofs.Text.{well_formed, ill_formed}
use Rattle.promises.specs.Reads as read
use Rattle.promises.specs.Promises.{ReaderRefuses, WriterRefuses, PickerRefuses, ReaderSound, ReaderStaysSound, WriterSound, WriterStaysSound, ReaderTurn, WriterTurn, ReaderGives, WriterGives, InnerGives, Zigzags, Fewest, AtMost, FormedWithin, WithinFormed, OneTree, ValueWritten, ValueRead, MessageWritten, MessageRead, ReadExactly, SkipExactly, SkipDeep, BehindNoSay, InTheInput, PicksAsSkip, PicksLast, UnknownUnmoved, CountsFields, TableT, PrintsTree, PrintsRefusal, PrintsCut, ReaderExports, ReaderExportsAll, WriterExports, WriterExportsAll}
use Rattle.promises.proofs.Within.{formed_within}
use Rattle.promises.proofs.Reader as reader
use Rattle.promises.proofs.Writer as writer
use Rattle.promises.proofs.Anywhere as anywhere
use Rattle.promises.proofs.Depth.{skip_deep}
use Rattle.promises.proofs.Bytes.{written_bytes}
use Rattle.promises.proofs.Inner as inner
use Rattle.promises.proofs.Counts.{counts_fields}
use Rattle.promises.proofs.Lines.{cut_lines}
use Rattle.promises.proofs.ReaderRows as readers
use Rattle.promises.proofs.WriterRows as writers

-- demand 1
pub reader_refuses : ReaderRefuses
reader_refuses c = (reader.laws c).kept

pub writer_refuses : WriterRefuses
writer_refuses = writer.refuses

pub picker_refuses : PickerRefuses
unfolding read.reads
picker_refuses ids kinds s rows st = rows_kept ids kinds s st rows

pub reader_sound : ReaderSound
reader_sound c s st = ((reader.laws c).bad_state_lem s st, (reader.laws c).state_bad s st)

pub reader_stays_sound : ReaderStaysSound
reader_stays_sound = reader.all_sound

pub writer_sound : WriterSound
writer_sound = writer.bad_state_lem

pub writer_stays_sound : WriterStaysSound
writer_stays_sound = writer.all_sound

pub reader_turn : ReaderTurn
reader_turn c s st = ((reader.laws c).out_of_turn s st, λ h. (reader.laws c).turn_out s st h.0 h.1)

pub writer_turn : WriterTurn
writer_turn = writer.out_of_turn

pub reader_gives_lem : ReaderGives
reader_gives_lem c s st = reader.gives (read.reads c s st).number ((reader.laws c).which s st)

pub writer_gives : WriterGives
writer_gives = writer.gives

pub inner_gives : InnerGives
inner_gives s at lim last room ty = (
  inner.i8_gives s at,
  inner.i16_gives s at,
  inner.i32_gives s at,
  inner.i64_gives s at,
  inner.double_gives s at,
  inner.bool_gives s at,
  inner.uuid_gives s at,
  inner.binary_gives s at lim,
  inner.text_gives s at lim,
  inner.list_gives s at lim,
  inner.map_gives s at lim,
  inner.field_gives s at last,
  inner.message_gives s at lim,
  inner.skip_gives s at lim room ty,
)

-- numbers
pub zigzags : Zigzags
zigzags = (un_zig, zig_un)

pub fewest : Fewest
fewest = shortest

pub at_most : AtMost
at_most = (i16_most, i32_most, i64_most)

-- demand 2
pub formed_in_limits : FormedWithin
formed_in_limits = formed_within

pub within_formed : WithinFormed
within_formed lim depth t ok w =
    (spelt lim (ranged lim ok) t (lim.depth - depth) (omega (arith, w.nested)) w.sized w.typed, written_bytes t w.typed)

pub one_tree_alone : OneTree
one_tree_alone = one_tree

pub value_written : ValueWritten
value_written = anywhere.value_written

pub value_read : ValueRead
value_read = anywhere.value_read

pub message_written : MessageWritten
message_written = anywhere.message_written

pub message_read : MessageRead
message_read = anywhere.message_read

pub read_exactly : ReadExactly
read_exactly = anywhere.read_exactly

pub skip_exactly : SkipExactly
skip_exactly s st ty e o w = call_exact s st ty (skip_call s st ty) refl o w e

pub skip_deeply : SkipDeep
skip_deeply = skip_deep

pub behind_no_say : BehindNoSay
behind_no_say c s t st = (reader.laws c).behind s t st

pub in_the_input : InTheInput
in_the_input c s st h = ((reader.laws c).onward s st h, (reader.laws c).inside s st h)

-- demand 3
pub picks_as_skip : PicksAsSkip
picks_as_skip s st ids kinds n l h = as_skip_call s st ids kinds n l (le-leb _ n h)

pub picks_last : PicksLast
picks_last lim depth ids kinds fs s rest rows st l = anywhere.picks_last lim depth ids kinds l fs s rest rows st

pub unknown_unmoved : UnknownUnmoved
unknown_unmoved lim depth ids kinds fs gs s₁ s₂ rest₁ rest₂ rows₁ rows₂ st₁ st₂ l = anywhere.unmoved lim depth ids kinds l fs gs s₁ s₂ rest₁ rest₂ rows₁ rows₂ st₁ st₂

-- the lent reader
pub counts : CountsFields
counts = counts_fields

-- the sample bytes
pub table_t : TableT
table_t = table

-- the printing program
pub prints_tree : PrintsTree
prints_tree s m k e short h f =
    let w = well_formed s short m k h e f in
    let r = reads s printer.limits 64 T.Struct k e f.tree f.start f.inside f.spelt in
    let q : got w.0 e ≡ got f.tree e = sym w.1 ∙ r in
    let same : w.0 ≡ f.tree = cc in
    w.2 ∙ ap (λ (t : Tree). line.message m.0 m.1 m.2 ∷ (items_of t ++ (line.end e (length s - e) ∷ []))) same

pub prints_refusal : PrintsRefusal
prints_refusal s m k why short h e = ill_formed s short m k h why e

pub prints_cut : PrintsCut
prints_cut = cut_lines

-- the exports
pub reader_exports : ReaderExports
reader_exports c s row ids st h = let d = readers.does c s row ids st h in (d.number, d.holds)

pub reader_exports_all : ReaderExportsAll
reader_exports_all = readers.all_held

pub writer_exports : WriterExports
writer_exports c buf row ids st g h = let d = writers.does c g buf row ids st h in (d.number, d.buffer, d.holds)

pub writer_exports_all : WriterExportsAll
writer_exports_all cs buf row ids st g h = let d = writers.all_held cs g buf row ids st h in (d.buffer, d.holds)
