-- Text computed: the request's own line, a key and a value, a byte in the middle of many, a byte that is missing, a negative id. Assumes nothing.
use mathlib.Core.Path.{◌≡◌, refl}
use mathlib.Core.Bool.{true, false}
use mathlib.Core.List.{List, [], ◌∷◌}
use Prim.Native.Nat.{ℕ}
use lib.IntN.{pos, negsuc}
use Rattle.faults.specs.Tracked.{field, element, key, value}
use Rattle.faults.specs.Fault.{accepted, fault}
use Rattle.text.specs.Words.{ascii, decimal, signed, hex}
use Rattle.fault_lines.specs.Told.{step_words, path_words, refused_at, fault_line, words_of, name_of, spaced_hex, own_hex, around, below_of, struct_text, head_text, long_text}

-- field 1 is a map of bools: its second key is 5
abbrev keys : List ℕ
keys = 0x1b ∷ 0x02 ∷ 0x13 ∷ 0x01 ∷ 0x07 ∷ 0x05 ∷ 0x07 ∷ 0x00 ∷ []

abbrev twenty : List ℕ
twenty = 0 ∷ 1 ∷ 2 ∷ 3 ∷ 4 ∷ 5 ∷ 6 ∷ 7 ∷ 8 ∷ 9 ∷ 10 ∷ 11 ∷ 12 ∷ 13 ∷ 14 ∷ 15 ∷ 16 ∷ 17 ∷ 18 ∷ 19 ∷ []

pub Samples : Type 0
Samples =
    (fault_line (fault 4 17 (field (pos 1) ∷ element 3 ∷ field (pos 2) ∷ [])) ≡ ascii "refused 4 at 17 field 1 element 3 field 2\n")
    × (fault_line (fault 10 63 (key 0 ∷ value 2 ∷ field (negsuc 4) ∷ [])) ≡ ascii "refused 10 at 63 key 0 value 2 field -5\n")
    × (fault_line (accepted 96) ≡ ascii "accepted 96\n")
    × (struct_text true keys (fault 5 5 (field (pos 1) ∷ key 1 ∷ [])) ≡ ascii "refused 5 at 5 field 1 key 1\nBAD BOOL: an element bool is not 0, 1 or 2.\nIn the struct, field 1, key 1.\n0: 1b 02 13 01 07 [05] 07 00\n")
    × (struct_text false keys (fault 5 5 (field (pos 1) ∷ key 1 ∷ [])) ≡ ascii "refused 5 at 5 field 1 key 1\n")
    × (around twenty 10 ≡ ascii "2: 02 03 04 05 06 07 08 09 [0a] 0b 0c 0d 0e 0f 10 11\n")
    × (around twenty 20 ≡ ascii "12: 0c 0d 0e 0f 10 11 12 13 [--]\n")
    × (head_text true (0x81 ∷ []) 2 0 ≡ ascii "refused 2 at 0\nBAD VERSION: the first message byte is not 0x82, or the version is not 1.\nIn the message's header.\n0: [81]\n")
    × (long_text false ≡ ascii "refused 14 at 0\n")

pub samples : Samples
unfolding Samples fault_line refused_at path_words step_words struct_text below_of head_text long_text name_of words_of around own_hex spaced_hex decimal signed hex
samples = (refl, refl, refl, refl, refl, refl, refl, refl, refl)
