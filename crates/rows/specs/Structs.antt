-- Skip by a type's number, and the struct calls, which take the 64 ids of the structs around in a lent row of their own. Assumes nothing: these are
-- definitions.
use Rattle.std.specs.Prelude.{ℕ, ◌≡◌, cond, List, length, get_or, set, eqb, ℤ, pos}
use Rattle.types.specs.Codes.{type_by_number}
use Rattle.types.specs.declared.TypeRead.{TypeRead}
use Rattle.types.specs.declared.TypeRead.TheVariants as R
use Rattle.heads.specs.Answers.{id_of}
use Rattle.input.specs.State as I
use Rattle.input.specs.Answers.{number_done}
use Rattle.input.specs.declared.DoneAnswer.{DoneAnswer}
use Rattle.input.specs.declared.DoneAnswer.TheVariants as N
use Rattle.input.specs.declared.ReadDone.{ReadDone}
use Rattle.output.specs.State as O
use Rattle.output.specs.Calls.{writes, leaves, struct_begin_call, struct_end_call}
use Rattle.output.specs.declared.WriteAnswer.{WriteAnswer}
use Rattle.output.specs.declared.WriteAnswer.TheVariants as WA
use Rattle.output.specs.declared.Written.{Written}
use Rattle.skip.specs.Skip.{skip_call}
use Rattle.rows.specs.Row.{no_limits, reader_of, writer_of, reader_after, writer_after}
use Rattle.rows.specs.Reads.{ToldDone}
use Rattle.rows.specs.Writes.{number_written, Kept}

-- "Order: 15; 12; what the arguments show": a number without a type is BAD TYPE
abbrev pub skip_of_type : List ℕ → I.State → TypeRead → ReadDone
skip_of_type s st (R.Got t) = skip_call s st t
skip_of_type s st (R.Refused why) = record { answer = N.Refused (O.or_else (I.gate (length s) st) why); state = st }

unfoldable pub skip_by : List ℕ → ℕ → I.State → ReadDone
skip_by s n st = skip_of_type s st (type_by_number n)

-- a row of ids of another length holds no state
unfoldable pub struct_reader : List ℕ → List ℤ → I.State
struct_reader row ids = cond (eqb (length ids) 64) (reader_of row) (I.fresh no_limits)

unfoldable pub struct_writer : List ℕ → List ℤ → O.State
struct_writer row ids = cond (eqb (length ids) 64) (writer_of row) (O.begun no_limits)

-- "begin saves the last id": at the depth that the struct is begun at
abbrev pub saved_read : List ℤ → I.State → DoneAnswer → List ℤ
saved_read ids st N.Done = set ids st.depth st.last.0
saved_read ids st (N.Refused why) = ids

abbrev pub saved_write : List ℤ → O.State → WriteAnswer → List ℤ
saved_write ids st WA.Written = set ids st.depth st.last.0
saved_write ids st (WA.Refused why) = ids

-- "end restores it"
abbrev pub restored_read : List ℤ → I.State → DoneAnswer → I.State
restored_read ids next N.Done = I.with_last next (id_of (get_or ids next.depth (pos 0)))
restored_read ids next (N.Refused why) = next

abbrev pub last_write : O.State → ℤ → O.State
last_write st z = record { place = st.place; last = id_of z; depth = st.depth; ids = st.ids; pending = st.pending; limits = st.limits; begin = st.begin }

abbrev pub restored_write : List ℤ → O.State → WriteAnswer → O.State
restored_write ids next WA.Written = last_write next (get_or ids next.depth (pos 0))
restored_write ids next (WA.Refused why) = next

-- the writer's struct calls: what each answers, and what it leaves in the buffer
unfoldable pub begin_writes : List ℕ → O.State → Written
begin_writes buf st = writes buf st (struct_begin_call st)

unfoldable pub begin_leaves : List ℕ → O.State → List ℕ
begin_leaves buf st = leaves buf st (struct_begin_call st)

unfoldable pub end_writes : List ℕ → O.State → Written
end_writes buf st = writes buf st (struct_end_call st)

unfoldable pub end_leaves : List ℕ → O.State → List ℕ
end_leaves buf st = leaves buf st (struct_end_call st)

-- what the struct calls leave with their caller, from the state before and what the call answered
pub record BegunRead (row row' : List ℕ) (ids ids' : List ℤ) (n : ℕ) (st : I.State) (read : ReadDone) : Type 0 where
  pub done : ToldDone row row' n read
  pub the_ids : ids' ≡ saved_read ids st read.answer

pub record EndedRead (row row' : List ℕ) (ids : List ℤ) (n : ℕ) (read : ReadDone) : Type 0 where
  pub number : n ≡ number_done read.answer
  pub the_row : row' ≡ reader_after row (number_done read.answer) (restored_read ids read.state read.answer)

pub record BegunWrite (row row' : List ℕ) (ids ids' : List ℤ) (n : ℕ) (st : O.State) (w : Written) : Type 0 where
  pub kept : Kept row row' n w
  pub the_ids : ids' ≡ saved_write ids st w.answer

pub record EndedWrite (row row' : List ℕ) (ids : List ℤ) (n : ℕ) (w : Written) : Type 0 where
  pub number : n ≡ number_written w.answer
  pub the_row : row' ≡ writer_after row (number_written w.answer) (restored_write ids w.state w.answer)
