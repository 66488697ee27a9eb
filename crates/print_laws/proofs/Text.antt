-- The printing program's text: of a message whose struct is well formed, the lines of its tree and then `end`; else the number that skip gives there.
-- Assumes nothing.
use mathlib.Core.Path.{◌≡◌, ap, ap₂, ◌∙◌}
use mathlib.Core.List.{List, [], ◌∷◌, ◌++◌}
use Prim.Native.Nat.{ℕ, ◌-◌, ◌≤◌}
use borrow.Author.Tests.{le-ltb}
use lib.ListN.{length, drop}
use Rattle.types.specs.declared.TType.TheVariants as T
use Rattle.types.specs.Value.{Tree}
use Rattle.numbers.specs.Varint.{Found, got, refused, placed}
use Rattle.heads.specs.Reader.{read_at}
use Rattle.heads.specs.Heads.{Message, message}
use Rattle.heads.specs.Spells.{Formed}
use Rattle.heads.specs.Answers.{place}
use Rattle.heads.proofs.Steps.{found_at}
use Rattle.skip.specs.Value.{value_of}
use Rattle.skip.specs.Skip.{skip_of}
use Rattle.skip.specs.declared.Skipped.TheVariants.{Refused}
use Rattle.skip.proofs.Past.{read_past, refused_past}
use Rattle.skip.proofs.Theorems.{skip_exact}
use Rattle.lines.specs.Lines as row
use Rattle.lines.specs.Lines.{Item, lines}
use Rattle.printer.specs.Telling.{Told, quiet, aloud, then_tell}
use Rattle.printer.specs.Value.{value_told}
use Rattle.printer.specs.Printing.{message_told, limits, ending, whole, report}
use Rattle.printer.proofs.Same.{value_finds}
use Rattle.print_laws.specs.Tree.{items_of}
use Rattle.print_laws.proofs.Tale.{value_tale}

module _ (s : List ℕ) (short : length s ≤ 65536) where
  is_whole : report s ≡ whole s
  unfolding report
  is_whole = rw (le-ltb 65536 (length s) short)

  -- no message: its refusal alone
  pub no_message : (why : ℕ) → message limits s ≡ refused why → report s ≡ row.refusal why ∷ []
  unfolding whole message_told then_tell quiet
  no_message why e = is_whole ∙ rw e

  -- behind the message's header, whose line stands first
  module _ (m : Message) (k : ℕ) (e : message limits s ≡ got m k) where
    told : message_told limits 64 s ≡ record { items = row.message m.0 m.1 m.2 ∷ (value_told limits 64 T.Struct (drop k s)).items; found = placed k (value_told limits 64 T.Struct (drop k s)).found }
    unfolding message_told then_tell quiet aloud
    told = rw e

    said : report s ≡ (row.message m.0 m.1 m.2 ∷ (value_told limits 64 T.Struct (drop k s)).items) ++ (ending (length s) (placed k (value_told limits 64 T.Struct (drop k s)).found) ∷ [])
    unfolding whole
    said = is_whole ∙ ap (λ (t : Told Tree). t.items ++ (ending (length s) t.found ∷ [])) told

    found : placed k (value_told limits 64 T.Struct (drop k s)).found ≡ read_at (value_of limits 64 T.Struct) s k
    unfolding read_at
    found = ap (placed k) (value_finds limits 64 T.Struct (drop k s))

    -- a well_formed struct up to e: the items of its tree, and then the end
    pub well_formed : (z : ℕ) → Formed s limits 64 T.Struct k z → (v : Tree) × (read_at (value_of limits 64 T.Struct) s k ≡ got v z) × (report s ≡ row.message m.0 m.1 m.2 ∷ (items_of v ++ (row.end z (length s - z) ∷ [])))
    unfolding skip_of
    well_formed z f =
        let r = read_past (value_of limits 64 T.Struct) s k (place z) ((skip_exact s limits 64 T.Struct k z).1 f) in
        let g = found_at k (value_told limits 64 T.Struct (drop k s)).found r.0 z (found ∙ r.1) in
        let w = value_tale limits 64 T.Struct (drop k s) r.0 g.0 g.1 in
        (r.0, r.1, said ∙ ap₂ (λ (is : List Item) (x : Found Tree). row.message m.0 m.1 m.2 ∷ (is ++ (ending (length s) x ∷ []))) w.items (found ∙ r.1))

    -- else the number that skip gives there, behind the lines so far
    pub ill_formed : (why : ℕ) → skip_of s limits 64 T.Struct k ≡ Refused why → (is : List Item) × (report s ≡ row.message m.0 m.1 m.2 ∷ (is ++ (row.refusal why ∷ [])))
    unfolding skip_of
    ill_formed why f =
        let r = refused_past (value_of limits 64 T.Struct) s k why f in
        ((value_told limits 64 T.Struct (drop k s)).items, said ∙ ap (λ (x : Found Tree). row.message m.0 m.1 m.2 ∷ ((value_told limits 64 T.Struct (drop k s)).items ++ (ending (length s) x ∷ []))) (found ∙ r))
