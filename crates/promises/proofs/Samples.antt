-- The premises of demands 2 and 3 are met, away from the writer's own place and with bytes before and behind: T13's structs, written from place 2 of a buffer on
-- and read from place 1 of another input, under a ceiling that leaves the longer no byte more. So none of these promises is empty. Assumes nothing.
use mathlib.Core.Path.{◌≡◌, refl}
use mathlib.Core.Logic.{inl, inr}
use mathlib.Core.Bool.{true}
use mathlib.Core.List.{List, [], ◌∷◌, ◌++◌}
use Prim.Native.Nat.{ℕ, zero, suc, ◌≤◌}
use native.Mathlib.Omega.{arith}
use lib.IntN.{pos}
use lib.ListN.{length, get_or, replicate}
use mir.Syntax.{w16}
use mir.Val.{SFits}
use Rattle.types.specs.Codes.{type_code, truth_code, message_code, type_by_number}
use Rattle.types.specs.Limits.{in_range}
use Rattle.types.specs.declared.TMessageType.TheVariants as M
use Rattle.types.specs.declared.SeqNo.{SeqNo}
use Rattle.types.specs.Value as val
use Rattle.types.specs.Value.{Fields, no_fields, type_of}
use Rattle.numbers.specs.Varint.{fewest}
use Rattle.utf8.specs.Utf8.{utf8, past, decode}
use Rattle.puts.specs.Bytes.{short_delta, field_bytes, string_bytes, message_bytes}
use Rattle.heads.specs.Answers.{place, id_of}
use Rattle.input.specs.State as I
use Rattle.input.proofs.Gate.{sound_is}
use Rattle.output.specs.State as O
use Rattle.wanted.specs.Wanted.{same_id, among, distinct, wantable, wantables, listed}
use Rattle.laws.specs.Written.{bytes_of, bytes_of_fields, bytes_of_whole, readable, HeaderWithin}
use Rattle.laws.specs.Writing.{write_of, write_whole}
use Rattle.laws.specs.Reading.{read_of, read_whole}
use Rattle.laws.proofs.Texts.{as_bytes, no_texts}
use Rattle.unknown.specs.Inserted.{Inserted}
use Rattle.unknown.proofs.Samples.{lim, two, three, last_one, within_two, within_three, two_long, three_long, ids, kinds}
use Rattle.rows.specs.Row.{awaited_of, reader_of, field_of, writer_of}
use Rattle.promises.specs.ReaderRows as readers
use Rattle.promises.specs.WriterRows as writers
use Rattle.promises.specs.Standing.{Writer, Reader, Wrote, Read, Unmoved}
use Rattle.promises.proofs.Kept.{value_written, value_read, message_written, message_read, unknown_unmoved}

-- a writer at place 2, a reader at place 1
abbrev from : O.State
from = O.begun_at (O.place_of 2) lim

abbrev at_one : I.State
at_one = I.fresh_at (place 1) lim

abbrev input : List ℕ → List ℕ
input bs = 0xff ∷ (bs ++ (0x07 ∷ []))

in_limits : in_range lim ≡ true
unfolding in_range
in_limits = refl

writes_at : (bs : List ℕ) → length bs ≤ 13 → Writer lim 0 bs (replicate 16 0) (O.cut_of from) from
unfolding O.unsound in_range
writes_at bs h = record { sound = refl; lims = refl; deep = refl; free = refl; ids = refl; room = omega arith; before = omega arith }

reads_at : (bs : List ℕ) → length bs ≤ 13 → Reader lim 0 bs (input bs) (0x07 ∷ []) (I.cut_of at_one) at_one
reads_at bs h =
    record {
      sound = sound_is (length (input bs)) at_one (record { limits = in_limits; here = omega arith; deep = omega arith; after = omega arith; before = omega arith });
      lims = refl;
      deep = refl;
      free = refl;
      ids = refl;
      here = refl;
      inside = omega arith;
    }

pub three_written : Wrote (write_of as_bytes (val.struct three)) (bytes_of (val.struct three)) (replicate 16 0) 2 from
three_written =
    value_written lim 0 as_bytes (val.struct three) (replicate 16 0) from within_three (no_texts (val.struct three)) (writes_at (bytes_of (val.struct three)) (omega (arith, three_long)))

pub three_read : Read (read_of (input (bytes_of (val.struct three))) (type_of (val.struct three)) as_bytes at_one) (readable (val.struct three)) (bytes_of (val.struct three)) (input (bytes_of (val.struct three))) (0x07 ∷ []) 1 (id_of (pos 0)) at_one
three_read =
    value_read lim 0 as_bytes (val.struct three) (input (bytes_of (val.struct three))) (0x07 ∷ []) at_one within_three (no_texts (val.struct three)) (reads_at (bytes_of (val.struct three)) (omega (arith, three_long)))

-- a message: "call, sequence 1, name t" and the shorter struct
abbrev first : SeqNo
first = record { 0 = pos 1 }

abbrev mail : List ℕ
mail = bytes_of_whole M.Call first (0x74 ∷ []) two

headed : HeaderWithin lim first (0x74 ∷ [])
unfolding utf8 past decode
headed = record { number = record { sfits = omega arith }; short = omega arith; text = refl }

nine : length mail ≡ 9
unfolding bytes_of_whole bytes_of bytes_of_fields message_bytes string_bytes field_bytes short_delta message_code type_code truth_code fewest
nine = refl

pub mail_written : Wrote (write_whole as_bytes M.Call first (0x74 ∷ []) two) mail (replicate 16 0) 2 from
mail_written = message_written lim 0 as_bytes M.Call first (0x74 ∷ []) two (replicate 16 0) from headed within_two (no_texts (val.struct two)) (writes_at mail (omega (arith, nine)))

pub mail_read : Read (read_whole (input mail) as_bytes at_one) (M.Call, pos 1, 0x74 ∷ [], readable (val.struct two)) mail (input mail) (0x07 ∷ []) 1 (id_of (pos 0)) at_one
mail_read = message_read lim 0 as_bytes M.Call first (0x74 ∷ []) two (input mail) (0x07 ∷ []) at_one headed within_two (no_texts (val.struct two)) (reads_at mail (omega (arith, nine)))

-- demand 3: the shorter at place 1 of its input, the longer at place 1 of another
accepted : listed ids kinds ≡ true
unfolding listed distinct among same_id wantables wantable type_by_number type_code
accepted = refl

put_among : Inserted ids two three
unfolding Inserted among same_id
put_among = inl (last_one, refl, inr (refl, inl (no_fields, refl, refl)))

pub three_unmoved : Unmoved ids kinds two three (input (bytes_of (val.struct two))) (input (bytes_of (val.struct three))) at_one at_one (replicate 6 7) (replicate 7 0)
three_unmoved =
    unknown_unmoved lim 0 ids kinds two three (input (bytes_of (val.struct two))) (input (bytes_of (val.struct three))) (0x07 ∷ []) (0x07 ∷ []) (replicate 6 7) (replicate 7 0) at_one at_one accepted
    (omega arith) (omega arith) within_two within_three put_among (reads_at (bytes_of (val.struct two)) (omega (arith, two_long))) (reads_at (bytes_of (val.struct three)) (omega (arith, three_long)))

-- the exports: the rows of a new reader and of a new writer hold their states
abbrev new_row : List ℕ
new_row = 0 ∷ 0 ∷ 0 ∷ 55834574912 ∷ 429496729700 ∷ 0 ∷ []

zeros_small : (n i : ℕ) → SFits w16 (get_or (replicate n (pos 0)) i (pos 0))
zeros_small zero i = record { sfits = omega arith }
zeros_small (suc n) zero = record { sfits = omega arith }
zeros_small (suc n) (suc i) = zeros_small n i

pub reader_held : readers.Holds new_row (replicate 64 (pos 0)) (I.fresh lim)
unfolding I.fresh reader_of awaited_of
reader_held = record { six = refl; many = refl; small = zeros_small 64; last = record { sfits = omega arith }; limits = refl; held = refl; own = refl }

pub writer_held : writers.Holds new_row (replicate 64 (pos 0)) (O.begun lim)
unfolding O.begun writer_of field_of
writer_held = record { six = refl; many = refl; small = zeros_small 64; last = record { sfits = omega arith }; awaits = tt; limits = refl; held = refl; own = refl }
