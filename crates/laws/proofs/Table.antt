-- Table T of the scope paper as one theorem: each line as the crate that it speaks of has it, read, written and picked. Assumes nothing.
use mathlib.Core.Path.{◌≡◌, refl}
use mathlib.Core.Bool.{true}
use mathlib.Core.List.{List, [], ◌∷◌}
use Prim.Native.Nat.{ℕ}
use lib.IntN.{ℤ, pos, negsuc}
use Rattle.types.specs.Limits.{in_range, defaults}
use Rattle.types.specs.Codes.{type_code, truth_code}
use Rattle.types.specs.Value as val
use Rattle.types.specs.Value.{no_fields}
use Rattle.numbers.proofs.Table as numbers
use Rattle.input.proofs.Table as reading
use Rattle.numbers.specs.Varint.{fewest}
use Rattle.numbers.specs.Fixed.{eight}
use Rattle.numbers.specs.Answers.{wrote_at, put_at}
use Rattle.heads.specs.Reader.{read_at, read_to, done, and_then, provided}
use Rattle.heads.specs.Heads.{number32, int16, int32}
use Rattle.heads.specs.Answers.{place}
use Rattle.input.specs.State.{fresh, sound, gate, moved_to}
use Rattle.input.specs.Outcome.{calls_to}
use Rattle.input.specs.Calls.{read_i16, read_i32}
use Rattle.input.specs.declared.I16Answer.TheVariants as I16
use Rattle.input.specs.declared.I32Answer.TheVariants as I32
use Rattle.output.specs.State.{unsound, in_turn, begun}
use Rattle.output.specs.Calls.{settled, size_wrong, why_not, writes, leaves, int_call}
use Rattle.puts.specs.Wrong.{or_else}
use Rattle.puts.specs.Bytes.{short_delta, field_bytes}
use Rattle.output.proofs.Table as writing
use Rattle.picker.proofs.Table as picking
use Rattle.laws.specs.Written.{bytes_of, bytes_of_fields}

-- T1 to T3 through the calls: what the writer's call writes, and what the reader's reads of it
abbrev wrote : ℤ → List ℕ
wrote z = writing.sent (writing.last (pos 0)) (int_call (writing.last (pos 0)) z)

abbrev reads : List ℕ → ℤ → ℕ → Type 0
reads bs z e = read_i32 bs reading.start ≡ record { answer = I32.Got z; state = moved_to reading.start (place e) }

abbrev Called : Type 0
Called =
    ((wrote (pos 0) ≡ 0x00 ∷ []) × reads (0x00 ∷ []) (pos 0) 1)
    × ((wrote (negsuc 0) ≡ 0x01 ∷ []) × reads (0x01 ∷ []) (negsuc 0) 1)
    × ((wrote (pos 1) ≡ 0x02 ∷ []) × reads (0x02 ∷ []) (pos 1) 1)
    × (read_i16 (0xff ∷ 0xff ∷ 0x03 ∷ []) reading.start ≡ record { answer = I16.Got (negsuc 32767); state = moved_to reading.start (place 3) })
    × (wrote (negsuc 2147483647) ≡ 0xff ∷ 0xff ∷ 0xff ∷ 0xff ∷ 0x0f ∷ [])

called : Called
unfolding writes leaves settled size_wrong why_not or_else unsound in_turn begun in_range defaults fewest wrote_at put_at fresh sound gate calls_to read_i16 read_i32 read_at read_to done and_then provided number32 int16 int32
called = ((refl, refl), (refl, refl), (refl, refl), refl, refl)

-- "fields 1 true, 3 i32 -1: 11 25 01 00 .. With double 1.0 as field 2: 11 17 00 00 00 00 00 00 F0 3F 15 01 00", as they are written
abbrev T13 : Type 0
T13 =
    (bytes_of (val.struct (val.field (pos 1) (val.truth true) (val.field (pos 3) (val.i32 (negsuc 0)) no_fields))) ≡ 0x11 ∷ 0x25 ∷ 0x01 ∷ 0x00 ∷ [])
    × (bytes_of (val.struct (val.field (pos 1) (val.truth true) (val.field (pos 2) (val.double 0x3ff0000000000000) (val.field (pos 3) (val.i32 (negsuc 0)) no_fields)))) ≡ 0x11 ∷ 0x17 ∷ 0x00 ∷ 0x00 ∷ 0x00 ∷ 0x00 ∷ 0x00 ∷ 0x00 ∷ 0xf0 ∷ 0x3f ∷ 0x15 ∷ 0x01 ∷ 0x00 ∷ [])

pub Table : Type 0
Table =
    numbers.T1
    × (numbers.T2 × writing.T2)
    × (numbers.T3 × reading.T3)
    × (numbers.T4 × reading.T4)
    × (reading.T5 × writing.T5)
    × reading.T6
    × writing.T7
    × reading.T8
    × (reading.T9 × writing.T9)
    × reading.T10
    × (reading.T11 × writing.T11)
    × (reading.T12 × writing.T12)
    × (T13 × picking.T13)
    × Called

pub table : Table
unfolding Table bytes_of bytes_of_fields type_code truth_code field_bytes short_delta fewest eight
table =
    let n = numbers.rows in
    let r = reading.rows in
    let w = writing.rows in
    let p = picking.rows in (
      n.0,
      (n.1, w.0),
      (n.2, r.0),
      (n.3, r.1),
      (r.2, w.1),
      r.3,
      w.2,
      r.4,
      (r.5, w.3),
      r.6,
      (r.7, w.4),
      (r.8, w.5),
      ((refl, refl), p.0),
      called,
    )
