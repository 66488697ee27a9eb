-- Numbers, bytes and names as text: "Integers in decimal, doubles as 16 hex digits of the bits, high first, strings, names and uuids as x and hex (lower
-- case throughout)". Assumes nothing: these are definitions.
use Rattle.std.specs.Prelude.{ℕ, zero, suc, ◌+◌, ◌/◌, ◌%◌, Bool, true, false, cond, List, [], ◌∷◌, ◌++◌, ℤ, pos, negsuc, ltb}
use Prim.Native.Char.{code}
use Prim.Native.String.{String, [] as no_text, ◌∷◌ as ◌before◌}
use Rattle.types.specs.declared.TType.{TType}
use Rattle.types.specs.declared.TType.TheVariants as T

-- the bytes of a text of ASCII characters
abbrev pub ascii : String → List ℕ
ascii no_text = []
ascii (c before s) = code c ∷ ascii s

-- a decimal digit
abbrev pub digit : ℕ → ℕ
digit d = 48 + d

-- a number's decimal digits, the highest first and none of them a leading zero, at most k more than one
abbrev pub digits : ℕ → ℕ → List ℕ
digits zero n = digit (n % 10) ∷ []
digits (suc k) n = cond (ltb n 10) (digit n ∷ []) (digits k (n / 10) ++ (digit (n % 10) ∷ []))

-- a number of up to 64 bits: 20 digits hold more
unfoldable pub decimal : ℕ → List ℕ
decimal n = digits 19 n

-- a signed number: `negsuc n` is -n-1
unfoldable pub signed : ℤ → List ℕ
signed (pos n) = decimal n
signed (negsuc n) = ascii "-" ++ decimal (n + 1)

-- a hex digit, lower case
abbrev pub hex_digit : ℕ → ℕ
hex_digit d = cond (ltb d 10) (48 + d) (87 + d)

-- the k lowest hex digits of a number, the highest of them first
unfoldable pub hex : ℕ → ℕ → List ℕ
hex zero n = []
hex (suc k) n = hex k (n / 16) ++ (hex_digit (n % 16) ∷ [])

-- bytes, two hex digits for each
unfoldable pub hexes : List ℕ → List ℕ
hexes [] = []
hexes (b ∷ bs) = hex 2 b ++ hexes bs

-- "type names are bool i8 i16 i32 i64 double string list set map struct uuid stop"
unfoldable pub type_name : TType → List ℕ
type_name T.Stop = ascii "stop"
type_name T.Bool = ascii "bool"
type_name T.I08 = ascii "i8"
type_name T.I16 = ascii "i16"
type_name T.I32 = ascii "i32"
type_name T.I64 = ascii "i64"
type_name T.Double = ascii "double"
type_name T.String = ascii "string"
type_name T.List = ascii "list"
type_name T.Set = ascii "set"
type_name T.Map = ascii "map"
type_name T.Struct = ascii "struct"
type_name T.Uuid = ascii "uuid"

-- a truth
unfoldable pub truth_name : Bool → List ℕ
truth_name true = ascii "true"
truth_name false = ascii "false"
