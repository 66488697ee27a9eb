-- Writing a value by the writer's calls, in the order of the value's grammar. Assumes nothing: these are definitions.
use Rattle.std.specs.Prelude.{ℕ, suc, List, [], ◌∷◌, ◌++◌, pos}
use Rattle.types.specs.declared.TMessageType.{TMessageType}
use Rattle.types.specs.declared.SeqNo.{SeqNo}
use Rattle.types.specs.Value as val
use Rattle.types.specs.Value.{Tree, Trees, no_trees, tree, Pairs, no_pairs, pair, Fields, no_fields, type_of, size, size_p}
use Rattle.output.specs.State.{State, id_of}
use Rattle.output.specs.Calls.{Call, writes, leaves, bool_call, i8_call, int_call, double_call, uuid_call, bytes_call, string_call, items_call, pairs_call, struct_begin_call, struct_end_call, field_call, stop_call, message_call}
use Rattle.output.specs.declared.WriteAnswer.{WriteAnswer}
use Rattle.output.specs.declared.WriteAnswer.TheVariants as WA
use Rattle.laws.specs.Text.{Form, binaries, strings, Plan, under, key_under, value_under}

-- a call, made in whatever state the one before left
abbrev pub Step : Type 0
Step = State → Call

-- what a row of calls leaves: the buffer and the state, or the first refusal
pub data Ran : Type 0 where
  ran : List ℕ → State → Ran
  stopped : ℕ → Ran

abbrev pub go_on : WriteAnswer → Ran → Ran
go_on WA.Written r = r
go_on (WA.Refused why) r = stopped why

unfoldable pub run : List Step → List ℕ → State → Ran
run [] buf st = ran buf st
run (c ∷ cs) buf st = go_on (writes buf st (c st)).answer (run cs (leaves buf st (c st)) (writes buf st (c st)).state)

-- a string, by the call that its form asks for
abbrev pub write_string : Form → List ℕ → Step
write_string binaries cs = λ st. bytes_call st cs
write_string strings cs = λ st. string_call st cs

-- the calls of a value: a container's header, then its elements; a struct's begin, its fields, the stop, its end
unfoldable mutual
  pub write_of : Plan → Tree → List Step
  write_of plan (val.truth b) = (λ st. bool_call st b) ∷ []
  write_of plan (val.i8 z) = (λ st. i8_call st z) ∷ []
  write_of plan (val.i16 z) = (λ st. int_call st z) ∷ []
  write_of plan (val.i32 z) = (λ st. int_call st z) ∷ []
  write_of plan (val.i64 z) = (λ st. int_call st z) ∷ []
  write_of plan (val.double n) = (λ st. double_call st n) ∷ []
  write_of plan (val.uuid u) = (λ st. uuid_call st u) ∷ []
  write_of plan (val.bytes cs) = write_string (plan []) cs ∷ []
  write_of plan (val.list t ts) = (λ st. items_call st t (pos (size ts))) ∷ write_all plan 0 ts
  write_of plan (val.set t ts) = (λ st. items_call st t (pos (size ts))) ∷ write_all plan 0 ts
  write_of plan (val.map k v ps) = (λ st. pairs_call st k v (pos (size_p ps))) ∷ write_pairs plan 0 ps
  write_of plan (val.struct fs) = struct_begin_call ∷ (write_fields plan fs ++ (struct_end_call ∷ []))

  pub write_all : Plan → ℕ → Trees → List Step
  write_all plan i no_trees = []
  write_all plan i (tree t ts) = write_of (under plan (pos i)) t ++ write_all plan (suc i) ts

  pub write_pairs : Plan → ℕ → Pairs → List Step
  write_pairs plan i no_pairs = []
  write_pairs plan i (pair k v ps) = write_of (key_under plan i) k ++ (write_of (value_under plan i) v ++ write_pairs plan (suc i) ps)

  pub write_fields : Plan → Fields → List Step
  write_fields plan no_fields = stop_call ∷ []
  write_fields plan (val.field id t fs) = (λ st. field_call st (type_of t) (id_of id)) ∷ (write_of (under plan id) t ++ write_fields plan fs)

-- the calls of a whole message: its header with the name, then its struct
unfoldable pub write_whole : Plan → TMessageType → SeqNo → List ℕ → Fields → List Step
write_whole plan m z name fs = (λ st. message_call st m z name) ∷ write_of plan (val.struct fs)
