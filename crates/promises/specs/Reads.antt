-- Every call of the reader by name, so that a promise can be made of all of them at once. Assumes nothing: these are definitions.
use Rattle.std.specs.Prelude.{ℕ, ◌≤◌, Bool, false, not, ◌&&◌, ◌||◌, List, [], ◌∷◌, eqb, ℤ, length}
use Rattle.types.specs.Codes.{type_code}
use Rattle.types.specs.declared.TType.{TType}
use Rattle.types.specs.declared.TType.TheVariants as T
use Rattle.input.specs.State as I
use Rattle.input.specs.Calls as input
use Rattle.input.specs.Answers.{number_bool, number_i8, number_i16, number_i32, number_i64, number_double, number_part, number_list, number_map, number_field, number_message, number_done}
use Rattle.skip.specs.Skip.{skip_call}
use Rattle.picker.specs.Pick.{pick_call}

-- the reader's calls that only read, and those for a list's, set's or map's header
pub data Plain : Type 0 where
  i8 : Plain
  i16 : Plain
  i32 : Plain
  i64 : Plain
  double : Plain
  uuid : Plain
  bytes : Plain
  string : Plain
  field : Plain
  message : Plain
  begin : Plain

pub data Header : Type 0 where
  list : Header
  set : Header
  map : Header

-- every call of the reader; the picker's has its list, and room for so many numbers
pub data Read : Type 0 where
  plain : Plain → Read
  header : Header → Read
  bool : Read
  end : Read
  skip : TType → Read
  pick : List ℤ → List ℕ → ℕ → Read

-- how it ends: the paper's number of its answer, 0 where nothing is refused, and the state that it hands back
pub record Ended : Type 0 where
  pub number : ℕ
  pub state : I.State

abbrev pub ended : ℕ → I.State → Ended
ended n st = record { number = n; state = st }

unfoldable pub plainly : Plain → List ℕ → I.State → Ended
plainly i8 s st = ended (number_i8 (input.read_i8 s st).answer) (input.read_i8 s st).state
plainly i16 s st = ended (number_i16 (input.read_i16 s st).answer) (input.read_i16 s st).state
plainly i32 s st = ended (number_i32 (input.read_i32 s st).answer) (input.read_i32 s st).state
plainly i64 s st = ended (number_i64 (input.read_i64 s st).answer) (input.read_i64 s st).state
plainly double s st = ended (number_double (input.read_double s st).answer) (input.read_double s st).state
plainly uuid s st = ended (number_part (input.read_uuid s st).answer) (input.read_uuid s st).state
plainly bytes s st = ended (number_part (input.read_bytes s st).answer) (input.read_bytes s st).state
plainly string s st = ended (number_part (input.read_string s st).answer) (input.read_string s st).state
plainly field s st = ended (number_field (input.read_field s st).answer) (input.read_field s st).state
plainly message s st = ended (number_message (input.read_message s st).answer) (input.read_message s st).state
plainly begin s st = ended (number_done (input.struct_begin s st).answer) (input.struct_begin s st).state

unfoldable pub headed : Header → List ℕ → I.State → Ended
headed list s st = ended (number_list (input.read_list s st).answer) (input.read_list s st).state
headed set s st = ended (number_list (input.read_set s st).answer) (input.read_set s st).state
headed map s st = ended (number_map (input.read_map s st).answer) (input.read_map s st).state

unfoldable pub reads : Read → List ℕ → I.State → Ended
reads (plain c) s st = plainly c s st
reads (header c) s st = headed c s st
reads bool s st = ended (number_bool (input.read_bool s st).answer) (input.read_bool s st).state
reads end s st = ended (number_done (input.struct_end s st).answer) (input.struct_end s st).state
reads (skip t) s st = ended (number_done (skip_call s st t).answer) (skip_call s st t).state
reads (pick ids kinds n) s st = ended (number_done (pick_call ids kinds n s st).answer) (pick_call ids kinds n s st).state

-- "a bool is pending and the call is neither the bool call nor a skip of Bool; or a struct is ended at depth 0"
unfoldable pub late : Read → I.State → Bool
late (plain c) st = I.waits st.pending.0
late (header c) st = I.waits st.pending.0
late bool st = false
late end st = I.waits st.pending.0 || eqb st.depth 0
late (skip t) st = I.waits st.pending.0 && not (eqb (type_code t) 1)
late (pick ids kinds n) st = I.waits st.pending.0 && not (eqb (type_code T.Struct) 1)

-- "List, set and map headers are exempt: they .. have this of inputs that are no shorter"
unfoldable pub far : Read → List ℕ → List ℕ → Type 0
far (plain c) s t = Unit {0}
far (header c) s t = length s ≤ length t
far bool s t = Unit {0}
far end s t = Unit {0}
far (skip k) s t = Unit {0}
far (pick ids kinds n) s t = Unit {0}

-- calls one after the other, each from the state that the one before handed back
unfoldable pub reads_all : List Read → List ℕ → I.State → I.State
reads_all [] s st = st
reads_all (c ∷ cs) s st = reads_all cs s (reads c s st).state
