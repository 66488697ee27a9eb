-- Reading a value by the reader's calls, driven by the headers that they read and by nothing else. Assumes nothing: these are definitions.
use Rattle.std.specs.Prelude.{ℕ, zero, suc, Bool, List, [], length, ℤ, pos}
use Rattle.types.specs.Refusals.{END, BAD_TYPE}
use Rattle.types.specs.declared.TType.{TType}
use Rattle.types.specs.declared.TType.TheVariants as T
use Rattle.types.specs.declared.TMessageType.{TMessageType}
use Rattle.types.specs.Value as val
use Rattle.types.specs.Value.{Tree, Trees, no_trees, tree, Pairs, no_pairs, pair, Fields, no_fields}
use Rattle.input.specs.State.{State}
use Rattle.input.specs.Calls.{read_bool, read_i8, read_i16, read_i32, read_i64, read_double, read_uuid, read_bytes, read_string, read_list, read_set, read_map, read_field, read_message, struct_begin, struct_end, bytes_part, string_part, uuid_part, name_part}
use Rattle.input.specs.declared.BoolAnswer.{BoolAnswer}
use Rattle.input.specs.declared.BoolAnswer.TheVariants as B
use Rattle.input.specs.declared.I8Answer.{I8Answer}
use Rattle.input.specs.declared.I8Answer.TheVariants as I8
use Rattle.input.specs.declared.I16Answer.{I16Answer}
use Rattle.input.specs.declared.I16Answer.TheVariants as I16
use Rattle.input.specs.declared.I32Answer.{I32Answer}
use Rattle.input.specs.declared.I32Answer.TheVariants as I32
use Rattle.input.specs.declared.I64Answer.{I64Answer}
use Rattle.input.specs.declared.I64Answer.TheVariants as I64
use Rattle.input.specs.declared.DoubleAnswer.{DoubleAnswer}
use Rattle.input.specs.declared.DoubleAnswer.TheVariants as D
use Rattle.input.specs.declared.PartAnswer.{PartAnswer}
use Rattle.input.specs.declared.PartAnswer.TheVariants as P
use Rattle.input.specs.declared.ListAnswer.{ListAnswer}
use Rattle.input.specs.declared.ListAnswer.TheVariants as L
use Rattle.input.specs.declared.MapAnswer.{MapAnswer}
use Rattle.input.specs.declared.MapAnswer.TheVariants as M
use Rattle.input.specs.declared.FieldAnswer.{FieldAnswer}
use Rattle.input.specs.declared.FieldAnswer.TheVariants as F
use Rattle.input.specs.declared.MessageAnswer.{MessageAnswer}
use Rattle.input.specs.declared.MessageAnswer.TheVariants as H
use Rattle.input.specs.declared.DoneAnswer.{DoneAnswer}
use Rattle.input.specs.declared.DoneAnswer.TheVariants as N
use Rattle.laws.specs.Text.{Form, binaries, strings, Plan, under, key_under, value_under}

-- what a row of calls gives: what was read and the state behind it, or the number of the first refusal
pub data Took (A : Type 0) : Type 0 where
  took : A → State → Took A
  halted : ℕ → Took A

-- the next calls, from the state that those before handed back
abbrev pub and_on : {A B : Type 0} → Took A → (A → State → Took B) → Took B
and_on (took a st) k = k a st
and_on (halted why) k = halted why

-- and what is made of what was read
abbrev pub made : {A B : Type 0} → (A → B) → Took A → Took B
made g (took a st) = took (g a) st
made g (halted why) = halted why

-- each call's answer, with the state that it handed back
abbrev pub of_bool : BoolAnswer → State → Took Bool
of_bool (B.Got b) st = took b st
of_bool (B.Refused why) st = halted why

abbrev pub of_i8 : I8Answer → State → Took ℤ
of_i8 (I8.Got z) st = took z st
of_i8 (I8.Refused why) st = halted why

abbrev pub of_i16 : I16Answer → State → Took ℤ
of_i16 (I16.Got z) st = took z st
of_i16 (I16.Refused why) st = halted why

abbrev pub of_i32 : I32Answer → State → Took ℤ
of_i32 (I32.Got z) st = took z st
of_i32 (I32.Refused why) st = halted why

abbrev pub of_i64 : I64Answer → State → Took ℤ
of_i64 (I64.Got z) st = took z st
of_i64 (I64.Refused why) st = halted why

abbrev pub of_double : DoubleAnswer → State → Took ℕ
of_double (D.Got n) st = took n st
of_double (D.Refused why) st = halted why

-- "a second call, with the same arguments, hands out that part of the lent input"
abbrev pub of_part : List ℕ → PartAnswer → State → Took (List ℕ)
of_part part (P.Got a e) st = took part st
of_part part (P.Refused why) st = halted why

abbrev pub of_list : ListAnswer → State → Took (TType × ℕ)
of_list (L.Got t n) st = took (t, n) st
of_list (L.Refused why) st = halted why

abbrev pub of_map : MapAnswer → State → Took (TType × TType × ℕ)
of_map (M.Got k v n) st = took (k, v, n) st
of_map (M.Refused why) st = halted why

abbrev pub of_done : DoneAnswer → State → Took (Unit {0})
of_done N.Done st = took tt st
of_done (N.Refused why) st = halted why

abbrev pub of_message : List ℕ → MessageAnswer → State → Took (TMessageType × ℤ × List ℕ)
of_message name (H.Got m z a e) st = took (m, z.0, name) st
of_message name (H.Refused why) st = halted why

-- the calls
abbrev pub a_bool : List ℕ → State → Took Bool
a_bool s st = of_bool (read_bool s st).answer (read_bool s st).state

abbrev pub an_i8 : List ℕ → State → Took ℤ
an_i8 s st = of_i8 (read_i8 s st).answer (read_i8 s st).state

abbrev pub an_i16 : List ℕ → State → Took ℤ
an_i16 s st = of_i16 (read_i16 s st).answer (read_i16 s st).state

abbrev pub an_i32 : List ℕ → State → Took ℤ
an_i32 s st = of_i32 (read_i32 s st).answer (read_i32 s st).state

abbrev pub an_i64 : List ℕ → State → Took ℤ
an_i64 s st = of_i64 (read_i64 s st).answer (read_i64 s st).state

abbrev pub a_double : List ℕ → State → Took ℕ
a_double s st = of_double (read_double s st).answer (read_double s st).state

abbrev pub a_uuid : List ℕ → State → Took (List ℕ)
a_uuid s st = of_part (uuid_part s st) (read_uuid s st).answer (read_uuid s st).state

abbrev pub a_string : Form → List ℕ → State → Took (List ℕ)
a_string binaries s st = of_part (bytes_part s st) (read_bytes s st).answer (read_bytes s st).state
a_string strings s st = of_part (string_part s st) (read_string s st).answer (read_string s st).state

abbrev pub a_list : List ℕ → State → Took (TType × ℕ)
a_list s st = of_list (read_list s st).answer (read_list s st).state

abbrev pub a_set : List ℕ → State → Took (TType × ℕ)
a_set s st = of_list (read_set s st).answer (read_set s st).state

abbrev pub a_map : List ℕ → State → Took (TType × TType × ℕ)
a_map s st = of_map (read_map s st).answer (read_map s st).state

abbrev pub a_begin : List ℕ → State → Took (Unit {0})
a_begin s st = of_done (struct_begin s st).answer (struct_begin s st).state

abbrev pub an_end : List ℕ → State → Took (Unit {0})
an_end s st = of_done (struct_end s st).answer (struct_end s st).state

abbrev pub a_message : List ℕ → State → Took (TMessageType × ℤ × List ℕ)
a_message s st = of_message (name_part s st) (read_message s st).answer (read_message s st).state

-- n values from the i-th on, one behind the other
unfoldable pub read_all : (Plan → State → Took Tree) → Plan → ℕ → ℕ → State → Took Trees
read_all p plan i zero st = took no_trees st
read_all p plan i (suc n) st = and_on (p (under plan (pos i)) st) (λ t to. made (tree t) (read_all p plan (suc i) n to))

-- n keys from the i-th on, each with its value behind it
unfoldable pub read_pairs : (Plan → State → Took Tree) → (Plan → State → Took Tree) → Plan → ℕ → ℕ → State → Took Pairs
read_pairs p q plan i zero st = took no_pairs st
read_pairs p q plan i (suc n) st =
    and_on (p (key_under plan i) st) (λ k to. and_on (q (value_under plan i) to) (λ v on. made (pair k v) (read_pairs p q plan (suc i) n on)))

-- what a field's header says: the struct ends, or a value of a type comes (a bool's stood in the header: the bool call hands it out); then on
abbrev pub behind_header : (TType → Plan → State → Took Tree) → Plan → (State → Took Fields) → FieldAnswer → State → Took Fields
behind_header inner plan go F.Stop st = took no_fields st
behind_header inner plan go (F.Field t id) st = and_on (inner t (under plan id.0) st) (λ v to. made (val.field id.0 v) (go to))
behind_header inner plan go (F.Refused why) st = halted why

-- at most k headers, up to the stop
unfoldable pub read_fields : List ℕ → (TType → Plan → State → Took Tree) → Plan → ℕ → State → Took Fields
read_fields s inner plan zero st = halted END
read_fields s inner plan (suc k) st = behind_header inner plan (read_fields s inner plan k) (read_field s st).answer (read_field s st).state

-- how the four that hold other values are read
pub record Holders : Type 0 where
  pub list : Plan → State → Took Tree
  pub set : Plan → State → Took Tree
  pub map : Plan → State → Took Tree
  pub struct : Plan → State → Took Tree

-- a container's header and as many elements as it says; a struct's begin, its fields up to the stop, its end. Each header has a byte of its own.
abbrev pub holding : List ℕ → (TType → Plan → State → Took Tree) → Holders
holding s inner =
    record {
      list = λ plan st. and_on (a_list s st) (λ h to. made (val.list h.0) (read_all (inner h.0) plan 0 h.1 to));
      set = λ plan st. and_on (a_set s st) (λ h to. made (val.set h.0) (read_all (inner h.0) plan 0 h.1 to));
      map = λ plan st. and_on (a_map s st) (λ h to. made (val.map h.0 h.1) (read_pairs (inner h.0) (inner h.1) plan 0 h.2 to));
      struct =
          λ plan st. and_on (a_begin s st)
          (λ u to. and_on (read_fields s inner plan (suc (length s)) to)
          (λ fs on. made (λ w. val.struct fs) (an_end s on)));
    }

-- no level is left
abbrev pub none : Holders
none = record { list = λ plan st. halted END; set = λ plan st. halted END; map = λ plan st. halted END; struct = λ plan st. halted END }

-- a value of a type, by its call. There is none for Stop, which is BAD TYPE as it is for skip.
abbrev pub by_type : List ℕ → Holders → TType → Plan → State → Took Tree
by_type s box T.Stop plan st = halted BAD_TYPE
by_type s box T.Bool plan st = made val.truth (a_bool s st)
by_type s box T.I08 plan st = made val.i8 (an_i8 s st)
by_type s box T.I16 plan st = made val.i16 (an_i16 s st)
by_type s box T.I32 plan st = made val.i32 (an_i32 s st)
by_type s box T.I64 plan st = made val.i64 (an_i64 s st)
by_type s box T.Double plan st = made val.double (a_double s st)
by_type s box T.String plan st = made val.bytes (a_string (plan []) s st)
by_type s box T.List plan st = box.list plan st
by_type s box T.Set plan st = box.set plan st
by_type s box T.Map plan st = box.map plan st
by_type s box T.Struct plan st = box.struct plan st
by_type s box T.Uuid plan st = made val.uuid (a_uuid s st)

unfoldable pub holders : List ℕ → ℕ → Holders
holders s zero = none
holders s (suc levels) = holding s (by_type s (holders s levels))

-- with `levels` levels at most
unfoldable pub read_levels : List ℕ → ℕ → TType → Plan → State → Took Tree
read_levels s levels ty plan st = by_type s (holders s levels) ty plan st

-- a value of a type: each level has a byte of its own, so that no more of them can be met than there are bytes (`Read-step` in proofs/Bounds)
unfoldable pub read_of : List ℕ → TType → Plan → State → Took Tree
read_of s ty plan st = read_levels s (suc (length s)) ty plan st

-- a whole message: its header with the name, then its struct
unfoldable pub read_whole : List ℕ → Plan → State → Took (TMessageType × ℤ × List ℕ × Tree)
read_whole s plan st = and_on (a_message s st) (λ m to. made (λ t. (m.0, m.1, m.2, t)) (read_of s T.Struct plan to))
