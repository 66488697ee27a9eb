-- Writing text into a lent buffer: as much of it as fits. Assumes nothing: these are definitions.
use Rattle.std.specs.Prelude.{ℕ, ◌+◌, cond, List, [], ◌∷◌, length, set, ltb}

-- the buffer, and the place in it where the next byte goes
abbrev pub Pen : Type 0
Pen = List ℕ × ℕ

-- one byte: at the buffer's end it is dropped, and nothing moves
unfoldable pub dot : ℕ → Pen → Pen
dot b p = cond (ltb p.1 (length p.0)) (set p.0 p.1 b, p.1 + 1) p

-- bytes, one behind the other
unfoldable pub inked : List ℕ → Pen → Pen
inked [] p = p
inked (b ∷ bs) p = inked bs (dot b p)
