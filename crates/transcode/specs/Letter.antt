-- One message with its struct, as a protocol's words read it and its pens write it, and a translation of it. Assumes nothing: these are definitions.
use Rattle.std.specs.Prelude.{ℕ, List, ◌++◌}
use Rattle.types.specs.declared.TType.TheVariants as T
use Rattle.types.specs.declared.TConfiguration.{TConfiguration}
use Rattle.types.specs.Value.{Tree}
use Rattle.heads.specs.Reader.{Reader, done, and_then}
use Rattle.heads.specs.Heads.{Message}
use Rattle.protocols.specs.Words.{Words}
use Rattle.protocols.specs.Value.{value_by}
use Rattle.transcode.specs.Pens.{Pens, bytes_by}

-- "one message and its struct": "the name is checked for UTF-8, strings are not"; "What lies behind the struct is left"
unfoldable pub letter_by : Words → TConfiguration → Reader (Message × Tree)
letter_by w lim = and_then (w.message lim) (λ h. and_then (value_by w lim lim.depth T.Struct) (λ t. done (h, t)))

-- the bytes of a message and a value behind it
unfoldable pub bytes_of_letter : Pens → Message × Tree → List ℕ
bytes_of_letter p l = p.message l.0.0 l.0.1 l.0.2 ++ bytes_by p l.1

-- a translation: the bytes that the other protocol writes, and how many were read for them; or the refusal of what was read
unfoldable pub translated_by : Words → Pens → TConfiguration → Reader (List ℕ)
translated_by w p lim = and_then (letter_by w lim) (λ l. done (bytes_of_letter p l))
