-- What each export's contract says (crates/tagrumzil/src) is what the page calls its export: the number, the row, the ids and the buffer. Assumes nothing.
use mathlib.Core.Path.{◌≡◌}
use mathlib.Core.Bool.{Bool, true, false}
use mathlib.Core.List.{List}
use Prim.Native.Nat.{ℕ}
use lib.IntN.{ℤ}
use Rattle.types.specs.Codes.{type_by_number, message_by_number}
use Rattle.types.specs.declared.TType.{TType}
use Rattle.types.specs.declared.TType.TheVariants as T
use Rattle.types.specs.declared.TypeRead.TheVariants as R
use Rattle.types.specs.declared.TMessageType.{TMessageType}
use Rattle.types.specs.declared.MessageTypeRead.TheVariants as MR
use Rattle.types.specs.declared.FieldId.{FieldId}
use Rattle.types.specs.declared.SeqNo.{SeqNo}
use Rattle.input.specs.Calls.{read_bool, read_i8, read_i16, read_i32, read_i64, read_double, read_uuid, read_bytes, read_string, read_list, read_set, read_map, read_field, read_message, struct_begin, struct_end}
use Rattle.skip.specs.Skip.{skip_call}
use Rattle.picker.specs.Pick.{pick_call}
use Rattle.output.specs.Calls.{message_call, field_call, stop_call, bool_call, i8_call, int_call, double_call, uuid_call, bytes_call, string_call, items_call, pairs_call}
use Rattle.rows.specs.Row.{reader_of, writer_of}
use Rattle.rows.specs.Reads.{ToldBool, ToldI8, ToldI16, ToldI32, ToldI64, ToldDouble, ToldPart, ToldList, ToldMap, ToldField, ToldMessage, ToldDone}
use Rattle.rows.specs.Writes.{Made, field_by, items_by, is_none, pairs_by, message_by}
use Rattle.rows.specs.Structs.{skip_by, struct_reader, struct_writer, BegunRead, EndedRead, BegunWrite, EndedWrite, begin_writes, end_writes, begin_leaves, end_leaves}
use Rattle.promises.specs.Reads as r
use Rattle.promises.specs.Writes as w
use Rattle.promises.specs.ReaderRows as readers
use Rattle.promises.specs.WriterRows as writers

-- the number and the row that a reader's export leaves
module _ (s row row' : List ℕ) (ids : List ℤ) (n : ℕ) where
  pub record Reads (c : r.Read) : Type 0 where
    pub number : n ≡ (readers.exported c s row ids).number
    pub the_row : row' ≡ (readers.exported c s row ids).row

  module _ (z z' : ℤ) where
    pub i8_exported : ToldI8 row row' z z' n (read_i8 s (reader_of row)) → Reads (r.plain r.i8)
    unfolding readers.exported r.reads r.plainly
    i8_exported t = record { number = t.number; the_row = t.the_row }

    pub i16_exported : ToldI16 row row' z z' n (read_i16 s (reader_of row)) → Reads (r.plain r.i16)
    unfolding readers.exported r.reads r.plainly
    i16_exported t = record { number = t.number; the_row = t.the_row }

    pub i32_exported : ToldI32 row row' z z' n (read_i32 s (reader_of row)) → Reads (r.plain r.i32)
    unfolding readers.exported r.reads r.plainly
    i32_exported t = record { number = t.number; the_row = t.the_row }

    pub i64_exported : ToldI64 row row' z z' n (read_i64 s (reader_of row)) → Reads (r.plain r.i64)
    unfolding readers.exported r.reads r.plainly
    i64_exported t = record { number = t.number; the_row = t.the_row }

  pub bool_exported : (b b' : Bool) → ToldBool row row' b b' n (read_bool s (reader_of row)) → Reads r.bool
  unfolding readers.exported r.reads
  bool_exported b b' t = record { number = t.number; the_row = t.the_row }

  module _ (a a' b b' : ℕ) where
    pub double_exported : ToldDouble row row' a a' n (read_double s (reader_of row)) → Reads (r.plain r.double)
    unfolding readers.exported r.reads r.plainly
    double_exported t = record { number = t.number; the_row = t.the_row }

    pub uuid_exported : ToldPart row row' a a' b b' n (read_uuid s (reader_of row)) → Reads (r.plain r.uuid)
    unfolding readers.exported r.reads r.plainly
    uuid_exported t = record { number = t.number; the_row = t.the_row }

    pub bytes_exported : ToldPart row row' a a' b b' n (read_bytes s (reader_of row)) → Reads (r.plain r.bytes)
    unfolding readers.exported r.reads r.plainly
    bytes_exported t = record { number = t.number; the_row = t.the_row }

    pub string_exported : ToldPart row row' a a' b b' n (read_string s (reader_of row)) → Reads (r.plain r.string)
    unfolding readers.exported r.reads r.plainly
    string_exported t = record { number = t.number; the_row = t.the_row }

    pub list_exported : ToldList row row' a a' b b' n (read_list s (reader_of row)) → Reads (r.header r.list)
    unfolding readers.exported r.reads r.headed
    list_exported t = record { number = t.number; the_row = t.the_row }

    pub set_exported : ToldList row row' a a' b b' n (read_set s (reader_of row)) → Reads (r.header r.set)
    unfolding readers.exported r.reads r.headed
    set_exported t = record { number = t.number; the_row = t.the_row }

    pub map_exported : (c c' : ℕ) → ToldMap row row' a a' b b' c c' n (read_map s (reader_of row)) → Reads (r.header r.map)
    unfolding readers.exported r.reads r.headed
    map_exported c c' t = record { number = t.number; the_row = t.the_row }

    pub field_exported : (z z' : ℤ) → ToldField row row' a a' z z' n (read_field s (reader_of row)) → Reads (r.plain r.field)
    unfolding readers.exported r.reads r.plainly
    field_exported z z' t = record { number = t.number; the_row = t.the_row }

    pub message_exported : (c c' : ℕ) (z z' : ℤ) → ToldMessage row row' c c' z z' a a' b b' n (read_message s (reader_of row)) → Reads (r.plain r.message)
    unfolding readers.exported r.reads r.plainly
    message_exported c c' z z' t = record { number = t.number; the_row = t.the_row }

  -- by a type's number
  pub skip_exported : (k : ℕ) (t : TType) → type_by_number k ≡ R.Got t → ToldDone row row' n (skip_by s k (reader_of row)) → Reads (r.skip t)
  unfolding readers.exported r.reads skip_by
  skip_exported k t e d = let q : ToldDone row row' n (skip_call s (reader_of row) t) = rw e at d in record { number = q.number; the_row = q.the_row }

  pub pick_exported : (wanted : List ℤ) (kinds : List ℕ) (m : ℕ) → ToldDone row row' n (pick_call wanted kinds m s (reader_of row)) → Reads (r.pick wanted kinds m)
  unfolding readers.exported r.reads
  pick_exported wanted kinds m t = record { number = t.number; the_row = t.the_row }

  -- with the ids
  pub begin_exported : (ids' : List ℤ) → BegunRead row row' ids ids' n (struct_reader row ids) (struct_begin s (struct_reader row ids)) → Reads (r.plain r.begin) × (ids' ≡ (readers.exported (r.plain r.begin) s row ids).ids)
  unfolding readers.exported
  begin_exported ids' t = (record { number = t.done.number; the_row = t.done.the_row }, t.the_ids)

  pub end_exported : EndedRead row row' ids n (struct_end s (struct_reader row ids)) → Reads r.end
  unfolding readers.exported
  end_exported t = record { number = t.number; the_row = t.the_row }

-- the writer's: the buffer too
module _ (buf buf' row row' : List ℕ) (ids : List ℤ) (n : ℕ) where
  pub record Writes (c : w.Write) : Type 0 where
    pub number : n ≡ (writers.exported c buf row ids).number
    pub the_row : row' ≡ (writers.exported c buf row ids).row
    pub the_buf : buf' ≡ (writers.exported c buf row ids).buffer

  pub bool_wrote : (b : Bool) → Made row row' buf buf' n (writer_of row) (bool_call (writer_of row) b) → Writes (w.bool b)
  unfolding writers.exported w.call_of
  bool_wrote b t = record { number = t.kept.number; the_row = t.kept.the_row; the_buf = t.the_buf }

  pub i8_wrote : (z : ℤ) → Made row row' buf buf' n (writer_of row) (i8_call (writer_of row) z) → Writes (w.i8 z)
  unfolding writers.exported w.call_of
  i8_wrote z t = record { number = t.kept.number; the_row = t.kept.the_row; the_buf = t.the_buf }

  pub int_wrote : (z : ℤ) → Made row row' buf buf' n (writer_of row) (int_call (writer_of row) z) → Writes (w.int z)
  unfolding writers.exported w.call_of
  int_wrote z t = record { number = t.kept.number; the_row = t.kept.the_row; the_buf = t.the_buf }

  pub double_wrote : (d : ℕ) → Made row row' buf buf' n (writer_of row) (double_call (writer_of row) d) → Writes (w.double d)
  unfolding writers.exported w.call_of
  double_wrote d t = record { number = t.kept.number; the_row = t.kept.the_row; the_buf = t.the_buf }

  pub uuid_wrote : (bs : List ℕ) → Made row row' buf buf' n (writer_of row) (uuid_call (writer_of row) bs) → Writes (w.uuid bs)
  unfolding writers.exported w.call_of
  uuid_wrote bs t = record { number = t.kept.number; the_row = t.kept.the_row; the_buf = t.the_buf }

  pub bytes_wrote : (bs : List ℕ) → Made row row' buf buf' n (writer_of row) (bytes_call (writer_of row) bs) → Writes (w.bytes bs)
  unfolding writers.exported w.call_of
  bytes_wrote bs t = record { number = t.kept.number; the_row = t.kept.the_row; the_buf = t.the_buf }

  pub string_wrote : (bs : List ℕ) → Made row row' buf buf' n (writer_of row) (string_call (writer_of row) bs) → Writes (w.string bs)
  unfolding writers.exported w.call_of
  string_wrote bs t = record { number = t.kept.number; the_row = t.kept.the_row; the_buf = t.the_buf }

  pub stop_wrote : Made row row' buf buf' n (writer_of row) (stop_call (writer_of row)) → Writes w.stop
  unfolding writers.exported w.call_of
  stop_wrote t = record { number = t.kept.number; the_row = t.kept.the_row; the_buf = t.the_buf }

  -- by the number of a type, or of a message's
  pub field_wrote : (k : ℕ) (t : TType) (id : FieldId) → type_by_number k ≡ R.Got t → Made row row' buf buf' n (writer_of row) (field_by (writer_of row) k id) → Writes (w.field t id)
  unfolding writers.exported w.call_of field_by
  field_wrote k t id e m = let q : Made row row' buf buf' n (writer_of row) (field_call (writer_of row) t id) = rw e at m in record { number = q.kept.number; the_row = q.kept.the_row; the_buf = q.the_buf }

  pub items_wrote : (k : ℕ) (t : TType) (z : ℤ) → type_by_number k ≡ R.Got t → Made row row' buf buf' n (writer_of row) (items_by (writer_of row) k z) → Writes (w.items t z)
  unfolding writers.exported w.call_of items_by
  items_wrote k t z e m = let q : Made row row' buf buf' n (writer_of row) (items_call (writer_of row) t z) = rw e at m in record { number = q.kept.number; the_row = q.kept.the_row; the_buf = q.the_buf }

  pub message_wrote : (k : ℕ) (m : TMessageType) (i : SeqNo) (name : List ℕ) → message_by_number k ≡ MR.Got m → Made row row' buf buf' n (writer_of row) (message_by (writer_of row) k i name) → Writes (w.message m i name)
  unfolding writers.exported w.call_of message_by
  message_wrote k m i name e d = let q : Made row row' buf buf' n (writer_of row) (message_call (writer_of row) m i name) = rw e at d in record { number = q.kept.number; the_row = q.kept.the_row; the_buf = q.the_buf }

  pub pairs_wrote : (j k : ℕ) (t u : TType) (z : ℤ) → is_none z ≡ false → type_by_number j ≡ R.Got t → type_by_number k ≡ R.Got u → Made row row' buf buf' n (writer_of row) (pairs_by (writer_of row) j k z) → Writes (w.pairs t u z)
  unfolding writers.exported w.call_of pairs_by
  pairs_wrote j k t u z h e f m = let q : Made row row' buf buf' n (writer_of row) (pairs_call (writer_of row) t u z) = rw (h, e, f) at m in record { number = q.kept.number; the_row = q.kept.the_row; the_buf = q.the_buf }

  pub no_pairs_wrote : (j k : ℕ) (z : ℤ) → is_none z ≡ true → Made row row' buf buf' n (writer_of row) (pairs_by (writer_of row) j k z) → Writes (w.pairs T.Stop T.Stop z)
  unfolding writers.exported w.call_of pairs_by
  no_pairs_wrote j k z h m = let q : Made row row' buf buf' n (writer_of row) (pairs_call (writer_of row) T.Stop T.Stop z) = rw h at m in record { number = q.kept.number; the_row = q.kept.the_row; the_buf = q.the_buf }

  -- with the ids
  pub begin_wrote : (ids' : List ℤ) → BegunWrite row row' ids ids' n (struct_writer row ids) (begin_writes buf (struct_writer row ids)) → buf' ≡ begin_leaves buf (struct_writer row ids) → Writes w.begin × (ids' ≡ (writers.exported w.begin buf row ids).ids)
  unfolding writers.exported
  begin_wrote ids' t e = (record { number = t.kept.number; the_row = t.kept.the_row; the_buf = e }, t.the_ids)

  pub end_wrote_lem : EndedWrite row row' ids n (end_writes buf (struct_writer row ids)) → buf' ≡ end_leaves buf (struct_writer row ids) → Writes w.end
  unfolding writers.exported
  end_wrote_lem t e = record { number = t.number; the_row = t.the_row; the_buf = e }
