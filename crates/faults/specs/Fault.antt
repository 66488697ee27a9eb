-- What is asked of a struct, or of a message's header, that is refused: the number, the offset and the path. Assumes nothing: these are definitions.
use Rattle.std.specs.Prelude.{ℕ, ◌+◌, ◌-◌, ◌*◌, Bool, cond, List, [], ◌∷◌, ◌++◌, eqb, leb, ltb, ℤ, pos, length, take, drop}
use Rattle.types.specs.Refusals.{NO_ROOM}
use Rattle.types.specs.declared.TType.{TType}
use Rattle.types.specs.declared.TType.TheVariants as T
use Rattle.types.specs.declared.TConfiguration.{TConfiguration}
use Rattle.heads.specs.Reader.{missing}
use Rattle.heads.specs.Answers.{place}
use Rattle.input.specs.State.{State, gate, cut_of}
use Rattle.input.specs.Outcome.{cut_here}
use Rattle.skip.specs.Skip.{room_of}
use Rattle.faults.specs.Tracked as way
use Rattle.faults.specs.Tracked.{Step, Tried, Tracked, found, broke}
use Rattle.faults.specs.Heads.{message}
use Rattle.faults.specs.Value.{tracked}
use Rattle.faults.specs.declared.Verdict.{Verdict}
use Rattle.faults.specs.declared.Verdict.TheVariants as D

-- "On a struct that skip accepts it says so", with the place behind it; else number, offset and path
pub data Fault : Type 0 where
  accepted : ℕ → Fault
  fault : ℕ → ℕ → List Step → Fault

-- "the offset of the last byte read before the refusal (the start where none was read, the input's length where a single byte was missing)": the last of the
-- n bytes read, the missing one counted
abbrev pub fault_of : {A : Type 0} → ℕ → Tried A → Fault
fault_of at (found a n) = accepted (at + n)
fault_of at (broke why n path) = fault why (at + (n - 1)) path

-- the value of a type at a place, with `room` levels left
unfoldable pub fault_at : List ℕ → TConfiguration → ℕ → TType → ℕ → Fault
fault_at s lim room ty at = fault_of at (tracked lim room ty (drop at s))

-- "Reading acts as if the input ended at" the cut: END is MESSAGE SIZE where there is input behind it
abbrev pub cut_short : Bool → Fault → Fault
cut_short more (accepted e) = accepted e
cut_short more (fault why off path) = fault (missing more why) off path

unfoldable pub fault_to : {A : Type 0} → Tracked A → List ℕ → ℕ → ℕ → Fault
fault_to p s cut at = cut_short (ltb cut (length s)) (fault_of at (p (drop at (take cut s))))

-- "BAD STATE and OUT OF TURN give the start and no path"
abbrev pub guarded_fault : List ℕ → State → Fault → Fault
guarded_fault s st f = cond (eqb (gate (length s) st) 0) f (fault (gate (length s) st) st.place.0 [])

-- a struct at the reader's place, where neither is
unfoldable pub struct_fault : List ℕ → State → Fault
struct_fault s st = fault_to (tracked st.limits (room_of st) T.Struct) s (cut_of st) st.place.0

unfoldable pub faults : List ℕ → State → Fault
faults s st = guarded_fault s st (struct_fault s st)

-- a message's header there: its ceiling counts from its own first byte
unfoldable pub header_fault : List ℕ → State → Fault
header_fault s st = fault_to (message st.limits) s (cut_here st) st.place.0

unfoldable pub message_faults : List ℕ → State → Fault
message_faults s st = guarded_fault s st (header_fault s st)

-- a step as two numbers: 0 and a field's id, 1 and an element's number, 2 and a key's, 3 and a value's
abbrev pub kind_of : Step → ℤ
kind_of (way.field id) = pos 0
kind_of (way.element i) = pos 1
kind_of (way.key i) = pos 2
kind_of (way.value i) = pos 3

abbrev pub number_of : Step → ℤ
number_of (way.field id) = id
number_of (way.element i) = pos i
number_of (way.key i) = pos i
number_of (way.value i) = pos i

unfoldable pub numbered : List Step → List ℤ
numbered [] = []
numbered (x ∷ path) = kind_of x ∷ number_of x ∷ numbered path

-- the answer, with room for n numbers lent: NO ROOM at the start where the path's do not fit
abbrev pub verdict : ℕ → ℕ → Fault → Verdict
verdict n start (accepted e) = D.Accepted (place e)
verdict n start (fault why off path) = cond (leb (2 * length path) n) (D.Refused why off (length path)) (D.Refused NO_ROOM start 0)

unfoldable pub why_call : ℕ → List ℕ → State → Verdict
why_call n s st = verdict n st.place.0 (faults s st)

unfoldable pub why_message : List ℕ → State → Verdict
why_message s st = verdict 0 st.place.0 (message_faults s st)

-- the lent row: the path's numbers stand first, where they fit; the rest stays
abbrev pub told_in : List ℤ → Fault → List ℤ
told_in row (accepted e) = row
told_in row (fault why off path) = cond (leb (2 * length path) (length row)) (numbered path ++ drop (2 * length path) row) row

unfoldable pub why_row : List ℕ → State → List ℤ → List ℤ
why_row s st row = told_in row (faults s st)
