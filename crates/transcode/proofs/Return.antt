-- There and back is the same value, between any two protocols: what a message within the limits is translated to is read as it, to the bit of each double, the
-- types of empty maps apart; translated back it is read as the very same. Assumes nothing.
use mathlib.Core.Path.{◌≡◌, subst}
use mathlib.Core.List.{List}
use Prim.Native.Nat.{ℕ}
use Rattle.types.specs.declared.TMessageType.{TMessageType}
use Rattle.types.specs.declared.SeqNo.{SeqNo}
use Rattle.types.specs.declared.TConfiguration.{TConfiguration}
use Rattle.types.specs.Value as val
use Rattle.types.specs.Value.{Tree, Fields, Within}
use Rattle.types.proofs.Limits.{Ranged}
use Rattle.heads.specs.Reader.{done}
use Rattle.heads.specs.Heads.{Message}
use Rattle.output.proofs.Back.{Reads, then_quiet, done_reads}
use Rattle.laws.specs.Written.{readable, readable_fields, HeaderWithin}
use Rattle.protocols.specs.Words as words
use Rattle.protocols.specs.Words.{Words}
use Rattle.protocols.proofs.Owes.{Owes}
use Rattle.protocols.proofs.Compact.{compact_owes}
use Rattle.binary_heads.specs.Words as binary-words
use Rattle.binary_heads.proofs.Owes.{binary_owes}
use Rattle.transcode.specs.Pens as pens
use Rattle.transcode.specs.Pens.{Pens}
use Rattle.transcode.specs.Letter.{letter_by, bytes_of_letter, translated_by}
use Rattle.transcode.proofs.Readable.{twice, still_within}
use Rattle.transcode.proofs.Suits.{Suits}
use Rattle.transcode.proofs.Ranges.{Ranges}
use Rattle.transcode.proofs.Both.{compact_ranges, binary_ranges}
use Rattle.transcode.proofs.Back.{letter_back}
use Rattle.transcode.proofs.Instances.{compact_suits, binary_suits}

-- a protocol with what its words and its pens owe
pub record Protocol : Type 0 where
  pub reads : Words
  pub writes : Pens
  pub owes : Owes reads
  pub suits : Suits reads writes
  pub ranges : Ranges reads

abbrev pub compact : Protocol
compact = record { reads = words.compact; writes = pens.compact; owes = compact_owes; suits = compact_suits; ranges = compact_ranges }

abbrev pub binary : Protocol
binary = record { reads = binary-words.binary; writes = pens.binary; owes = binary_owes; suits = binary_suits; ranges = binary_ranges }

-- a message with its struct within the limits, and as it can be read back
module _ (lim : TConfiguration) (ok : Ranged lim) (m : TMessageType) (z : SeqNo) (name : List ℕ) (fs : Fields) (h : HeaderWithin lim z name) (i : Within lim 0 (val.struct fs)) where
  abbrev pub given : Message × Tree
  given = ((m, z.0, name), val.struct fs)

  abbrev pub kept : Message × Tree
  kept = ((m, z.0, name), val.struct (readable_fields fs))

  -- written by a protocol it is read by it
  pub read_back : (a : Protocol) → Reads (letter_by a.reads lim) kept (bytes_of_letter a.writes given)
  unfolding readable
  read_back a = letter_back a.reads a.writes a.suits a.owes lim ok m z name fs h i

  -- translated from one to the other: the other's bytes of what can be read
  pub translated : (a b : Protocol) → Reads (translated_by a.reads b.writes lim) (bytes_of_letter b.writes kept) (bytes_of_letter a.writes given)
  unfolding translated_by
  translated a b = then_quiet (letter_by a.reads lim) _ kept (bytes_of_letter b.writes kept) (bytes_of_letter a.writes given) (read_back a) (done_reads (bytes_of_letter b.writes kept))

module _ (lim : TConfiguration) (ok : Ranged lim) (m : TMessageType) (z : SeqNo) (name : List ℕ) (fs : Fields) (h : HeaderWithin lim z name) (i : Within lim 0 (val.struct fs)) where
  again : Within lim 0 (val.struct (readable_fields fs))
  unfolding readable
  again = still_within lim 0 (val.struct fs) i

  same_again : val.struct (readable_fields (readable_fields fs)) ≡ val.struct (readable_fields fs)
  unfolding readable
  same_again = twice (val.struct fs)

  -- what was translated is read by the other as the same message and value
  pub there : (b : Protocol) → Reads (letter_by b.reads lim) ((m, z.0, name), val.struct (readable_fields fs)) (bytes_of_letter b.writes ((m, z.0, name), val.struct (readable_fields fs)))
  there b =
      subst (λ (t : Tree). Reads (letter_by b.reads lim) ((m, z.0, name), t) (bytes_of_letter b.writes ((m, z.0, name), val.struct (readable_fields fs)))) same_again
      (read_back lim ok m z name (readable_fields fs) h again b)

  -- and translated back it is, byte for byte, what the first protocol writes for that value
  pub back : (a b : Protocol) → Reads (translated_by b.reads a.writes lim) (bytes_of_letter a.writes ((m, z.0, name), val.struct (readable_fields fs))) (bytes_of_letter b.writes ((m, z.0, name), val.struct (readable_fields fs)))
  unfolding translated_by
  back a b =
      let l : Message × Tree = ((m, z.0, name), val.struct (readable_fields fs)) in
      then_quiet (letter_by b.reads lim) (λ x. done (bytes_of_letter a.writes x)) l (bytes_of_letter a.writes l) (bytes_of_letter b.writes l) (there b) (done_reads (bytes_of_letter a.writes l))
