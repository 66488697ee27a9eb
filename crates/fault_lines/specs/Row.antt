-- The words of a path, from the row of numbers that it stands in. Assumes nothing: these are definitions.
use Rattle.std.specs.Prelude.{ℕ, zero, suc, List, [], ◌∷◌, ◌++◌, ℤ, pos, negsuc, get_or}
use Rattle.text.specs.Words.{ascii, signed}

-- a step's word by the first of its two numbers
unfoldable pub kind_word : ℤ → List ℕ
kind_word (pos n) = get_or (ascii "field " ∷ ascii "element " ∷ ascii "key " ∷ []) n (ascii "value ")
kind_word (negsuc n) = ascii "value "

-- so many steps of a row, each with something before it
unfoldable pub row_words : List ℕ → ℕ → List ℤ → List ℕ
row_words before zero row = []
row_words before (suc n) [] = []
row_words before (suc n) (kind ∷ []) = []
row_words before (suc n) (kind ∷ number ∷ row) = before ++ (kind_word kind ++ (signed number ++ row_words before n row))
