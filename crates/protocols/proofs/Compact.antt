-- The compact protocol's words owe what the record asks; and which bytes are a value, by its own definitions, is what it is by the record. Assumes nothing.
use mathlib.Core.Path.{◌≡◌, refl, sym, ap, subst, ◌∙◌}
use mathlib.Core.Logic.{◌↔◌}
use mathlib.Core.Bool.{Bool, true, false, cond}
use mathlib.Core.List.{List, [], append-nil}
use Prim.Native.Nat.{ℕ, ◌≤◌, ◌<◌}
use native.Mathlib.Omega.{arith}
use lib.ListN.{length, take}
use lib.Seq.{take-length}
use lib.Dec.{leb}
use lib.IntN.{ℤ}
use Rattle.types.specs.Refusals.{END}
use Rattle.types.specs.declared.TType.{TType}
use Rattle.types.specs.declared.TType.TheVariants as T
use Rattle.types.specs.declared.TConfiguration.{TConfiguration}
use Rattle.types.specs.Value.{Tree}
use Rattle.numbers.specs.Varint.{got, refused}
use Rattle.heads.specs.Reader.{Reader, and_then, some, byte}
use Rattle.heads.specs.Heads.{double, uuid, field, least_size}
use Rattle.heads.specs.Spells.{Spells}
use Rattle.heads.proofs.Lawful.{not_both}
use Rattle.heads.proofs.Readers.{int8_lawful, int8_takes, int16_lawful, int16_takes, int32_lawful, int32_takes, int64_lawful, int64_takes, double_lawful, uuid_lawful, truth_lawful, truth_takes, binary_lawful, binary_takes, items_lawful, items_takes, pairs_lawful, pairs_takes, field_lawful, field_takes}
use Rattle.skip.specs.Value.{value_of}
use Rattle.skip.proofs.Sound.{unmade}
use Rattle.skip.proofs.Sound as own-sound
use Rattle.skip.proofs.Complete as own-complete
use Rattle.protocols.specs.Words.{compact}
use Rattle.protocols.specs.Value.{value_by}
use Rattle.protocols.specs.Spells.{SpellsBy}
use Rattle.protocols.proofs.Owes.{Owes, reads}
use Rattle.protocols.proofs.Same.{value_same}
use Rattle.protocols.proofs.Sound.{sound}
use Rattle.protocols.proofs.Complete.{complete}

-- n bytes are n
pub some_used : (k : ℕ) (bs cs : List ℕ) (n : ℕ) → some k bs ≡ got cs n → n ≡ k
unfolding some
some_used k bs cs n e = go (leb k (length bs)) refl e
  where
    go : (t : Bool) → leb k (length bs) ≡ t → cond t (got (take k bs) k) (refused END) ≡ got cs n → n ≡ k
    go true f g = cc
    go false f g = not_both g

double_enough : (bs : List ℕ) (v n : ℕ) → double bs ≡ got v n → 8 ≤ n
unfolding double
double_enough bs v n e = let u = unmade (some 8) _ bs v n e in omega (arith, some_used 8 bs u.0 n u.1)

uuid_enough : (bs u : List ℕ) (n : ℕ) → uuid bs ≡ got u n → 16 ≤ n
unfolding uuid
uuid_enough bs u n e = omega (arith, some_used 16 bs u n e)

no_field : (last : ℤ) → field last [] ≡ refused END
unfolding field and_then byte
no_field last = refl

at_least_one : (t : TType) → 0 < least_size t
at_least_one T.Stop = omega arith
at_least_one T.Bool = omega arith
at_least_one T.I08 = omega arith
at_least_one T.I16 = omega arith
at_least_one T.I32 = omega arith
at_least_one T.I64 = omega arith
at_least_one T.Double = omega arith
at_least_one T.String = omega arith
at_least_one T.List = omega arith
at_least_one T.Set = omega arith
at_least_one T.Map = omega arith
at_least_one T.Struct = omega arith
at_least_one T.Uuid = omega arith

pub compact_owes : Owes compact
compact_owes =
    record {
      truth = reads _ truth_lawful truth_takes;
      int8 = reads _ int8_lawful int8_takes;
      int16 = reads _ int16_lawful int16_takes;
      int32 = reads _ int32_lawful int32_takes;
      int64 = reads _ int64_lawful int64_takes;
      double = record { lawful = double_lawful; enough = double_enough };
      uuid = record { lawful = uuid_lawful; enough = uuid_enough };
      binary = λ lim. reads _ (binary_lawful lim) (binary_takes lim);
      list = λ lim. reads _ (items_lawful lim) (items_takes lim);
      set = λ lim. reads _ (items_lawful lim) (items_takes lim);
      map = λ lim. reads _ (pairs_lawful lim) (pairs_takes lim);
      field = λ last. reads _ (field_lawful last) (field_takes last);
      none = no_field;
      struct = omega arith;
      some = at_least_one;
    }

-- the same bytes, by either
module _ (t : Tree) (lim : TConfiguration) (room : ℕ) (ty : TType) (bs : List ℕ) where
  read_so : value_by compact lim room ty bs ≡ value_of lim room ty bs
  read_so = ap (λ (v : TType → Reader Tree). v ty bs) (value_same lim room)

  pub spells_by : Spells t lim room ty bs → SpellsBy compact t lim room ty bs
  spells_by s =
      subst (SpellsBy compact t lim room ty) (take-length bs)
      (sound compact compact_owes lim room ty bs t (length bs)
      (read_so ∙ ap (value_of lim room ty) (sym (append-nil bs)) ∙ own-complete.complete t lim room ty bs s []))

  pub spells_own : SpellsBy compact t lim room ty bs → Spells t lim room ty bs
  spells_own s =
      subst (Spells t lim room ty) (take-length bs)
      (own-sound.sound lim room ty bs t (length bs)
      (sym read_so ∙ ap (value_by compact lim room ty) (sym (append-nil bs)) ∙ complete compact compact_owes t lim room ty bs s []))

  pub spells_same : Spells t lim room ty bs ↔ SpellsBy compact t lim room ty bs
  spells_same = (spells_by, spells_own)
