-- What a protocol's pens owe its words: what each writes is read, whatever follows, as what was written. Assumes nothing.
use mathlib.Core.Path.{◌≡◌}
use mathlib.Core.Bool.{Bool, true, false}
use mathlib.Core.List.{List, [], ◌∷◌}
use Prim.Native.Nat.{ℕ, ◌^◌, ◌≤◌, ◌<◌}
use lib.IntN.{ℤ}
use lib.ListN.{length}
use mir.Syntax.{w8, w16, w32, w64}
use mir.Val.{SFits}
use Rattle.types.specs.declared.TType.{TType}
use Rattle.types.specs.declared.TType.TheVariants as T
use Rattle.types.specs.declared.TMessageType.{TMessageType}
use Rattle.types.specs.declared.TConfiguration.{TConfiguration}
use Rattle.types.specs.Value as val
use Rattle.types.specs.Value.{Tree, type_of}
use Rattle.types.proofs.Limits.{Ranged}
use Rattle.utf8.specs.Utf8.{utf8}
use Rattle.heads.specs.Heads.{stop, bool, value}
use Rattle.output.proofs.Back.{Reads}
use Rattle.protocols.specs.Words.{Words}
use Rattle.transcode.specs.Pens.{Pens}

pub record Suits (w : Words) (p : Pens) : Type 0 where
  pub truth : (b : Bool) → Reads w.truth b (p.truth b)
  pub int8 : (z : ℤ) → SFits w8 z → Reads w.int8 z (p.int8 z)
  pub int16 : (z : ℤ) → SFits w16 z → Reads w.int16 z (p.int16 z)
  pub int32 : (z : ℤ) → SFits w32 z → Reads w.int32 z (p.int32 z)
  pub int64 : (z : ℤ) → SFits w64 z → Reads w.int64 z (p.int64 z)
  pub double : (n : ℕ) → n < 2 ^ 64 → Reads w.double n (p.double n)
  pub uuid : (u : List ℕ) → length u ≡ 16 → Reads w.uuid u u
  pub binary : (lim : TConfiguration) → Ranged lim → (bs : List ℕ) → length bs ≤ lim.string → Reads (w.binary lim) bs (p.binary bs)
  pub items : (lim : TConfiguration) → Ranged lim → (t : TType) (n : ℕ) → n ≤ lim.container → Reads (w.items lim) (t, n) (p.items t n)
  pub pairs : (lim : TConfiguration) → Ranged lim → (k v : TType) (n : ℕ) → n ≤ lim.container → 0 < n → Reads (w.pairs lim) (k, v, n) (p.pairs k v n)
  pub no_pairs : (lim : TConfiguration) → Ranged lim → (k v : TType) → Reads (w.pairs lim) (T.Stop, T.Stop, 0) (p.pairs k v 0)
  pub stopped : (last : ℤ) → Reads (w.field last) stop (0 ∷ [])
  -- a bool that stands in the header, or a value behind it
  pub held : (last id : ℤ) (t : Tree) → SFits w16 id → p.held t ≡ true → (b : Bool) × (t ≡ val.truth b) × Reads (w.field last) (bool b id) (p.field last id t)
  pub field : (last id : ℤ) (t : Tree) → SFits w16 id → p.held t ≡ false → Reads (w.field last) (value (type_of t) id) (p.field last id t)
  pub message : (lim : TConfiguration) → Ranged lim → (m : TMessageType) (z : ℤ) (name : List ℕ) → SFits w32 z → length name ≤ lim.string → utf8 name ≡ true → Reads (w.message lim) (m, z, name) (p.message m z name)
