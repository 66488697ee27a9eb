-- What is wrong with the arguments of a call that writes, as a refusal's number, 0 where nothing is. Assumes nothing: these are definitions.
use Rattle.std.specs.Prelude.{ℕ, Bool, cond, ◌||◌, List, length, eqb, leb, ℤ, pos}
use Rattle.std.specs.Int.Signed.{lt_z}
use Rattle.types.specs.Refusals.{BAD_TYPE, SIZE_LIMIT, NEGATIVE_SIZE, BAD_UTF8}
use Rattle.types.specs.Codes.{type_code}
use Rattle.types.specs.declared.TType.{TType}
use Rattle.types.specs.declared.TConfiguration.{TConfiguration}
use Rattle.utf8.specs.Utf8.{utf8}
use Rattle.puts.specs.Bytes.{above}

-- of two refusals the first; 0 is none
unfoldable pub or_else : ℕ → ℕ → ℕ
or_else a b = cond (eqb a 0) b a

-- "a length .. is over its limit"
unfoldable pub length_wrong : TConfiguration → List ℕ → ℕ
length_wrong lim bs = cond (leb (length bs) lim.string) 0 SIZE_LIMIT

-- "a string or message name breaks RFC 3629", behind its length
unfoldable pub text_wrong : TConfiguration → List ℕ → ℕ
text_wrong lim bs = or_else (length_wrong lim bs) (cond (utf8 bs) 0 BAD_UTF8)

-- Stop, whose code is 0
abbrev pub is_stop : TType → Bool
is_stop t = eqb (type_code t) 0

-- "A field of type Stop is not written (4)"
unfoldable pub field_wrong : TType → ℕ
field_wrong t = cond (is_stop t) BAD_TYPE 0

-- a container's count: "Stop as element type: .. Written .. with a count over 0: BAD TYPE"; "9, then 8"; "a zero count is well formed"
unfoldable pub count_wrong : TConfiguration → TType → TType → ℤ → ℕ
count_wrong lim t u z =
    cond (lt_z z (pos 0)) NEGATIVE_SIZE
    (cond (eqb (above z) 0) 0
    (cond (is_stop t || is_stop u) BAD_TYPE
    (cond (leb (above z) lim.container) 0 SIZE_LIMIT)))
