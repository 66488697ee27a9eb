-- The premises of demand 3 are met: T13's two structs, written each by a new writer and picked by a new reader, under a ceiling that leaves the longer no
-- byte more. Assumes nothing.
use mathlib.Core.Path.{◌≡◌, refl, sym, ap}
use mathlib.Core.Logic.{inl, inr}
use mathlib.Core.Bool.{true}
use mathlib.Core.List.{List, [], ◌∷◌}
use Prim.Native.Nat.{ℕ, ◌≤◌}
use native.Mathlib.Omega.{arith}
use lib.IntN.{ℤ, pos, negsuc}
use lib.ListN.{length, take, replicate}
use Rattle.types.specs.Codes.{type_code, truth_code, type_by_number}
use Rattle.types.specs.declared.TConfiguration.{TConfiguration}
use Rattle.types.specs.Value as val
use Rattle.types.specs.Value.{Fields, no_fields, nesting, nesting_fields, Sized, SizedFields, Typed, TypedFields, Within}
use Rattle.types.proofs.Limits.{Ranged, in_range_lem}
use Rattle.numbers.specs.Varint.{fewest}
use Rattle.numbers.specs.Fixed.{eight}
use Rattle.numbers.specs.Answers.{put_at}
use Rattle.puts.specs.Bytes.{short_delta, field_bytes}
use Rattle.input.specs.State.{fresh}
use Rattle.input.proofs.Gate.{fresh_sound, fresh_free}
use Rattle.output.specs.State.{begun}
use Rattle.output.proofs.Laws.{new_sound}
use Rattle.wanted.specs.Wanted.{same_id, among, distinct, wantable, wantables, listed}
use Rattle.laws.specs.Written.{bytes_of, bytes_of_fields}
use Rattle.laws.proofs.Texts.{as_bytes, no_texts}
use Rattle.laws.proofs.RoundTrip.{begun_ready}
use Rattle.unknown.specs.Inserted.{Inserted}
use Rattle.unknown.proofs.Insertion.{Side, left_by, Agreed, Unmoved, unknown_fields}

abbrev pub lim : TConfiguration
lim = record { depth = 64; string = 100; container = 100; message = 13 }

ok : Ranged lim
ok = record { deep = omega arith; long = omega arith; large = omega arith; heavy = omega arith }

abbrev pub last_one : Fields
last_one = val.field (pos 3) (val.i32 (negsuc 0)) no_fields

abbrev pub two : Fields
two = val.field (pos 1) (val.truth true) last_one

-- "With double 1.0 as field 2"
abbrev pub three : Fields
three = val.field (pos 1) (val.truth true) (val.field (pos 2) (val.double 0x3ff0000000000000) last_one)

pub within_two : Within lim 0 (val.struct two)
unfolding nesting nesting_fields Sized SizedFields Typed TypedFields
within_two = record { nested = omega arith; sized = (tt, (tt, tt)); typed = (record { sfits = omega arith }, tt, (record { sfits = omega arith }, record { sfits = omega arith }, tt)) }

pub within_three : Within lim 0 (val.struct three)
unfolding nesting nesting_fields Sized SizedFields Typed TypedFields
within_three =
    record {
      nested = omega arith;
      sized = (tt, (tt, (tt, tt)));
      typed = (record { sfits = omega arith }, tt, (record { sfits = omega arith }, omega arith, (record { sfits = omega arith }, record { sfits = omega arith }, tt)));
    }

pub two_long : length (bytes_of (val.struct two)) ≡ 4
unfolding bytes_of bytes_of_fields field_bytes short_delta type_code truth_code fewest eight
two_long = refl

pub three_long : length (bytes_of (val.struct three)) ≡ 13
unfolding bytes_of bytes_of_fields field_bytes short_delta type_code truth_code fewest eight
three_long = refl

-- the reader has the writer's own buffer
pub side : (fs : Fields) → Within lim 0 (val.struct fs) → length (bytes_of (val.struct fs)) ≤ 13 → Side lim 0 fs
unfolding begun fresh
side fs w h =
    record {
      within = w;
      plan = as_bytes;
      texts = no_texts (val.struct fs);
      buf = replicate 13 0;
      before = begun lim;
      ready = begun_ready lim;
      writer_sound = new_sound lim 13 (in_range_lem lim ok);
      room = omega arith;
      ceiling = omega arith;
      s = put_at (replicate 13 0) 0 (bytes_of (val.struct fs));
      st = fresh lim;
      lims = refl;
      deep = refl;
      sounds = fresh_sound _ lim (in_range_lem lim ok);
      free = fresh_free lim;
      there = refl;
      cut = omega arith;
    }

agreed : (fs : Fields) (w : Within lim 0 (val.struct fs)) (h : length (bytes_of (val.struct fs)) ≤ 13) → Agreed lim ok 0 fs (side fs w h)
unfolding side begun
agreed fs w h = let x = (left_by lim ok 0 fs (side fs w h)).wrote in ap (take x.next.place.0) (sym x.puts)

abbrev pub ids : List ℤ
ids = pos 1 ∷ pos 3 ∷ []

abbrev pub kinds : List ℕ
kinds = 1 ∷ 5 ∷ []

accepted : listed ids kinds ≡ true
unfolding listed distinct among same_id wantables wantable type_by_number type_code
accepted = refl

put_among : Inserted ids two three
unfolding Inserted among same_id
put_among = inl (last_one, refl, inr (refl, inl (no_fields, refl, refl)))

abbrev pub first : Side lim 0 two
first = side two within_two (omega (arith, two_long))

abbrev pub second : Side lim 0 three
second = side three within_three (omega (arith, three_long))

pub unmoved : Unmoved ids kinds two three first.s second.s first.st second.st (replicate 6 7) (replicate 6 7)
unmoved =
    unknown_fields lim ok 0 ids kinds accepted two three put_among first (agreed two within_two (omega (arith, two_long))) second (agreed three within_three (omega (arith, three_long))) (replicate 6 7) (replicate 6 7) (omega arith) (omega arith)
