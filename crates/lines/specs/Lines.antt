-- The lines of the printing program: "One line an item: headers and values, a value being a truth, a signed number or a double, carried as such".
-- Assumes nothing: these are definitions.
use Rattle.std.specs.Prelude.{ℕ, cond, List, [], ◌∷◌, ◌++◌, ℤ, eqb}
use Rattle.types.specs.Codes.{message_code}
use Rattle.types.specs.declared.TType.{TType}
use Rattle.types.specs.declared.TMessageType.{TMessageType}
use Rattle.scalars.specs.Scalars.{bits_of}
use Rattle.scalars.specs.declared.Scalar.{Scalar}
use Rattle.scalars.specs.declared.Scalar.TheVariants as S
use Rattle.text.specs.Words.{ascii, decimal, signed, hex, hexes, type_name, truth_name}

-- what has a line: the headers (a message's; a struct's begin, its fields' and its end; a list's or a set's, by its own type first; a map's), a scalar,
-- the bytes of a string, a binary or a uuid; and how it all ended
pub data Item : Type 0 where
  message : TMessageType → ℤ → List ℕ → Item
  struct : Item
  field : ℤ → TType → Item
  stop : Item
  items : TType → TType → ℕ → Item
  map : TType → TType → ℕ → Item
  scalar : Scalar → Item
  part : List ℕ → Item
  end : ℕ → ℕ → Item
  refusal : ℕ → Item

-- "Integers in decimal, doubles as 16 hex digits of the bits, high first"
unfoldable pub scalar_text : Scalar → List ℕ
scalar_text (S.Bool b) = truth_name b
scalar_text (S.Int z) = signed z
scalar_text (S.Double x) = hex 16 (bits_of (S.Double x))
scalar_text (S.NotANumber n) = hex 16 n

-- a piece of a line with a space before it; a number that ends its line
unfoldable pub spaced_type : TType → List ℕ
spaced_type t = ascii " " ++ type_name t

unfoldable pub spaced_int : ℤ → List ℕ
spaced_int z = ascii " " ++ signed z

unfoldable pub last_number : ℕ → List ℕ
last_number n = ascii " " ++ (decimal n ++ ascii "\n")

-- bytes, which end their line
unfoldable pub last_bytes : List ℕ → List ℕ
last_bytes bs = ascii "x" ++ (hexes bs ++ ascii "\n")

-- "strings, names and uuids as x and hex, .. `message TYPE SEQUENCE NAME`, `list i32 3`, `set i32 3`, `map string i32 1`, `map 0`; .. At the end
-- `end USED LEFT`, or `refused N`"; the other lines are the sample's
unfoldable pub line : Item → List ℕ
line (message m z name) = ascii "message " ++ (decimal (message_code m) ++ (spaced_int z ++ (ascii " " ++ last_bytes name)))
line struct = ascii "struct\n"
line (field id t) = ascii "field " ++ (signed id ++ (spaced_type t ++ ascii "\n"))
line stop = ascii "stop\n"
line (items whole t n) = type_name whole ++ (spaced_type t ++ last_number n)
line (map k v n) = cond (eqb n 0) (ascii "map 0\n") (ascii "map" ++ (spaced_type k ++ (spaced_type v ++ last_number n)))
line (scalar v) = scalar_text v ++ ascii "\n"
line (part bs) = last_bytes bs
line (end used left) = ascii "end " ++ (decimal used ++ last_number left)
line (refusal why) = ascii "refused " ++ (decimal why ++ ascii "\n")

-- one behind the other
unfoldable pub lines : List Item → List ℕ
lines [] = []
lines (i ∷ is) = line i ++ lines is
