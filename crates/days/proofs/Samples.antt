-- Samples, computed. Assumes nothing.
use mathlib.Core.Path.{◌≡◌, refl}
use mathlib.Core.List.{List, [], ◌∷◌}
use Prim.Native.Nat.{ℕ}
use Rattle.numbers.specs.Fixed.{four}
use Rattle.numbers.specs.Answers.{wrote_at, put_at}
use Rattle.numbers.specs.declared.Wrote.TheVariants as W
use Rattle.days.specs.Day.{number, day_of, accepted, check_of, message_of, part_of}
use Rattle.days.specs.Lists.{messages_of}
use Rattle.days.specs.Write.{up_to, fitting, day_wrote, day_put}
use Rattle.days.specs.declared.Checked.TheVariants as C
use Rattle.days.specs.declared.Part.TheVariants as P

-- "An empty day is 00 00 00 00 08 00 00 00"
abbrev empty : List ℕ
empty = 0 ∷ 0 ∷ 0 ∷ 0 ∷ 8 ∷ 0 ∷ 0 ∷ 0 ∷ []

-- the messages 61 62 and 63
abbrev two : List ℕ
two = 2 ∷ 0 ∷ 0 ∷ 0 ∷ 16 ∷ 0 ∷ 0 ∷ 0 ∷ 18 ∷ 0 ∷ 0 ∷ 0 ∷ 19 ∷ 0 ∷ 0 ∷ 0 ∷ 0x61 ∷ 0x62 ∷ 0x63 ∷ []

empty_day : day_of [] ≡ empty
unfolding day_of four
empty_day = refl

two_day : day_of ((0x61 ∷ 0x62 ∷ []) ∷ (0x63 ∷ []) ∷ []) ≡ two
unfolding day_of four
two_day = refl

empty_checked : check_of empty ≡ C.Count 0
unfolding check_of accepted number
empty_checked = refl

two_checked : check_of two ≡ C.Count 2
unfolding check_of accepted number
two_checked = refl

two_messages : messages_of two ≡ (0x61 ∷ 0x62 ∷ []) ∷ (0x63 ∷ []) ∷ []
unfolding messages_of number
two_messages = refl

two_first : message_of two 0 ≡ P.At 16 18
unfolding message_of accepted number
two_first = refl

two_second : part_of two (message_of two 1) ≡ 0x63 ∷ []
unfolding message_of accepted number
two_second = refl

two_third : message_of two 2 ≡ P.Refused 18
unfolding message_of accepted number
two_third = refl

-- an empty day has no message 0
empty_first : message_of empty 0 ≡ P.Refused 18
unfolding message_of accepted number
empty_first = refl

-- too short for its own header
no_offset : check_of (0 ∷ 0 ∷ 0 ∷ 0 ∷ []) ≡ C.Refused 18
unfolding check_of accepted number
no_offset = refl

one_offset : check_of (1 ∷ 0 ∷ 0 ∷ 0 ∷ 12 ∷ 0 ∷ 0 ∷ 0 ∷ []) ≡ C.Refused 18
unfolding check_of accepted number
one_offset = refl

no_bytes : check_of [] ≡ C.Refused 18
unfolding check_of accepted number
no_bytes = refl

-- a byte behind, an empty message, a wrong first offset, an offset that falls
one_behind : check_of (0 ∷ 0 ∷ 0 ∷ 0 ∷ 8 ∷ 0 ∷ 0 ∷ 0 ∷ 0 ∷ []) ≡ C.Refused 18
unfolding check_of accepted number
one_behind = refl

empty_message : check_of (1 ∷ 0 ∷ 0 ∷ 0 ∷ 12 ∷ 0 ∷ 0 ∷ 0 ∷ 12 ∷ 0 ∷ 0 ∷ 0 ∷ []) ≡ C.Refused 18
unfolding check_of accepted number
empty_message = refl

wrong_first : check_of (0 ∷ 0 ∷ 0 ∷ 0 ∷ 9 ∷ 0 ∷ 0 ∷ 0 ∷ 0 ∷ []) ≡ C.Refused 18
unfolding check_of accepted number
wrong_first = refl

-- message 0 of a file whose last offset is wrong: the whole file is checked
whole_file : message_of (2 ∷ 0 ∷ 0 ∷ 0 ∷ 16 ∷ 0 ∷ 0 ∷ 0 ∷ 17 ∷ 0 ∷ 0 ∷ 0 ∷ 19 ∷ 0 ∷ 0 ∷ 0 ∷ 0x61 ∷ 0x62 ∷ []) 0 ≡ P.Refused 18
unfolding message_of accepted number
whole_file = refl

-- the writer: 18 before 14, 14, and a file in an output that is longer
empty_first_refused : day_wrote [] [] (0 ∷ []) ≡ W.Refused 18
unfolding day_wrote fitting up_to
empty_first_refused = refl

end_past : day_wrote [] (0x61 ∷ []) (2 ∷ []) ≡ W.Refused 18
unfolding day_wrote fitting up_to
end_past = refl

bytes_left_over : day_wrote [] (0x61 ∷ 0x62 ∷ []) (1 ∷ []) ≡ W.Refused 18
unfolding day_wrote fitting up_to
bytes_left_over = refl

no_room : day_wrote (9 ∷ 9 ∷ []) [] [] ≡ W.Refused 14
unfolding day_wrote fitting up_to day_of four wrote_at
no_room = refl

empty_written : day_wrote (9 ∷ 9 ∷ 9 ∷ 9 ∷ 9 ∷ 9 ∷ 9 ∷ 9 ∷ 9 ∷ []) [] [] ≡ W.To 8
unfolding day_wrote fitting up_to day_of four wrote_at
empty_written = refl

empty_put : day_put (9 ∷ 9 ∷ 9 ∷ 9 ∷ 9 ∷ 9 ∷ 9 ∷ 9 ∷ 9 ∷ []) [] [] ≡ 0 ∷ 0 ∷ 0 ∷ 0 ∷ 8 ∷ 0 ∷ 0 ∷ 0 ∷ 9 ∷ []
unfolding day_put fitting up_to day_of four put_at
empty_put = refl
