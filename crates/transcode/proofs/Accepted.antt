-- There and back, of every input that is accepted: a message and its struct, read from any bytes by one protocol, is translated to bytes that the other reads as the
-- same message and the same value, to the bit of each double, empty maps without their types; and translated back it is the same again. Assumes nothing.
use mathlib.Core.Path.{◌≡◌, refl, sym, ap, subst}
use mathlib.Core.List.{List}
use Prim.Native.Nat.{ℕ, ◌+◌}
use native.Mathlib.Omega.{arith}
use lib.ListN.{take, drop}
use lib.Seq.{slice}
use Rattle.types.specs.declared.TType.TheVariants as T
use Rattle.types.specs.declared.TConfiguration.{TConfiguration}
use Rattle.types.specs.Value as val
use Rattle.types.specs.Value.{Tree, Fields, type_of, Bytes, Within}
use Rattle.types.proofs.Limits.{Ranged}
use Rattle.numbers.specs.Varint.{got, placed}
use Rattle.numbers.proofs.Found.{zero_one}
use Rattle.heads.specs.Reader.{and_then, done, read_at}
use Rattle.heads.specs.Heads.{Message}
use Rattle.output.proofs.Back.{Reads}
use Rattle.laws.specs.Written.{readable, HeaderWithin}
use Rattle.protocols.specs.Words.{Words}
use Rattle.protocols.specs.Value.{value_by}
use Rattle.protocols.proofs.Owes.{Owes}
use Rattle.protocols.proofs.Theorems.{was_spelt}
use Rattle.transcode.specs.Letter.{letter_by, bytes_of_letter, translated_by}
use Rattle.transcode.proofs.Ranges.{Ranges, good, spelt_within, parts, is_done, first_bytes, later_bytes}
use Rattle.transcode.proofs.Return.{Protocol, read_back, there}

-- a value of type Struct is a struct
pub record Struct (t : Tree) : Type 0 where
  pub fields : Fields
  pub is : t ≡ val.struct fields

pub is_struct : (t : Tree) → type_of t ≡ T.Struct → Struct t
unfolding type_of
is_struct (val.truth b) e = zero_one (cc)
is_struct (val.i8 z) e = zero_one (cc)
is_struct (val.i16 z) e = zero_one (cc)
is_struct (val.i32 z) e = zero_one (cc)
is_struct (val.i64 z) e = zero_one (cc)
is_struct (val.double n) e = zero_one (cc)
is_struct (val.uuid u) e = zero_one (cc)
is_struct (val.bytes cs) e = zero_one (cc)
is_struct (val.list t ts) e = zero_one (cc)
is_struct (val.set t ts) e = zero_one (cc)
is_struct (val.map k v ps) e = zero_one (cc)
is_struct (val.struct fs) e = record { fields = fs; is = refl }

-- what was read is a message within the limits, with a struct within them behind it
pub record Letter (lim : TConfiguration) (l : Message × Tree) : Type 0 where
  pub fields : Fields
  pub is : l.1 ≡ val.struct fields
  pub header : HeaderWithin lim (record { 0 = l.0.1 }) l.0.2
  pub within : Within lim 0 (val.struct fields)

module _ (w : Words) (o : Owes w) (r : Ranges w) (lim : TConfiguration) (s : List ℕ) (h : Bytes s) where
  pub letter_within : (l : Message × Tree) (n : ℕ) → letter_by w lim s ≡ got l n → Letter lim l
  unfolding letter_by read_at
  letter_within l n e =
      let f = parts (w.message lim) _ s l n e in
      let g = parts (value_by w lim lim.depth T.Struct) _ (drop f.used s) l f.more f.second in
      let q : (f.one, g.one) ≡ l = is_done {A = Message × Tree} (f.one, g.one) l _ _ g.second in
      subst (Letter lim) q (made f.one f.used f.first g.one g.used g.first)
    where
      made : (m : Message) (a : ℕ) → w.message lim s ≡ got m a → (t : Tree) (b : ℕ) → value_by w lim lim.depth T.Struct (drop a s) ≡ got t b → Letter lim (m, t)
      made m a x t b y =
          let p = was_spelt w o s lim lim.depth T.Struct a (a + b) t (ap (placed a) y) in
          let bs : List ℕ = slice a (a + b) s in
          let hb : Bytes bs = later_bytes a (take (a + b) s) (first_bytes (a + b) s h) in
          let i : Within lim 0 t = spelt_within w r lim 0 lim.depth T.Struct t bs p.spelt hb (omega arith) in
          let st = is_struct t (good w r lim t lim.depth T.Struct bs p.spelt hb).kind in
          let c = r.message lim s m a x h in
          record { fields = st.fields; is = st.is; header = record { number = c.0; short = c.1; text = c.2 }; within = subst (Within lim 0) st.is i }

module _ (a b : Protocol) (lim : TConfiguration) (ok : Ranged lim) (s : List ℕ) (h : Bytes s) (l : Message × Tree) (n : ℕ) (e : letter_by a.reads lim s ≡ got l n) where
  taken : Letter lim l
  taken = letter_within a.reads a.owes a.ranges lim s h l n e

  -- the call's own definition: the other's bytes for what was read, and the bytes used
  pub translates : translated_by a.reads b.writes lim s ≡ got (bytes_of_letter b.writes l) (n + 0)
  unfolding translated_by and_then done
  translates = rw e

  -- the other reads them, whatever follows, as the same message and value
  pub same_there : Reads (letter_by b.reads lim) (l.0, readable l.1) (bytes_of_letter b.writes l)
  unfolding readable
  same_there =
      let t = taken in
      subst (λ (x : Tree). Reads (letter_by b.reads lim) (l.0, readable x) (bytes_of_letter b.writes (l.0, x))) (sym t.is)
      (read_back lim ok l.0.0 (record { 0 = l.0.1 }) l.0.2 t.fields t.header t.within b)

  -- and what it is translated back to, the first reads as that very value
  pub same_back : Reads (letter_by a.reads lim) (l.0, readable l.1) (bytes_of_letter a.writes (l.0, readable l.1))
  unfolding readable
  same_back =
      let t = taken in
      subst (λ (x : Tree). Reads (letter_by a.reads lim) (l.0, readable x) (bytes_of_letter a.writes (l.0, readable x))) (sym t.is)
      (there lim ok l.0.0 (record { 0 = l.0.1 }) l.0.2 t.fields t.header t.within a)
