-- What a thin call has of its reader: all that the covered call asks, and still the whole of it at exit, where it makes the reader that is handed back.
-- Assumes nothing.
use mathlib.Core.Path.{◌≡◌}
use mathlib.Core.List.{[], ◌∷◌}
use lib.ListN.{length}
use seplogic.Ra.Ura.{Ura}
use mir.Syntax.{named}
use mir.Val.{Val}
use base.Logic.{SProp, ent, sep, emp, ex, ex_e, ex_i, via}
use base.Fml.{Lft, Share, Fml, ftrue, fsep, flft}
use types.Logic.{Logic, sem}
use contract.Lifetimes.{Lfts}
use contract.Monad.{fact}
use types.Kit.{Item, ‵, raw, mean, ◌⊛◌, given, ⋆, some, later, check, ◌$◌, ◌∵◌, !, qed, move, drop, use0, use1, use2, split, join, learn, fsplit, fjoin, frame, done}
use denote.RattleType.{RattleType}
use denote.Laws.{Is, shows}
use denote.Builtin.{u8}
use denote.Signature.{named_lft}
use denote.Slice.{slice_val, ShrSlice}
use denote.Steps.{owned, nothing, peeks, heard}
use denote.Struct.Declared.{Declared}
use denote.Struct.Laws as LL
use denote.Struct.Rest.{all_own, own_open, own_put}
use Rattle.input.specs.State.{State}
use Rattle.input.specs.contracts.TCompactInputProtocol as R
use Rattle.input.proofs.TCompactInputProtocol.TheLaws as R'
use Rattle.lent.specs.Lent.{at}
use Rattle.lent.specs.declared.LentReader.{LentReader}
use Rattle.lent.specs.contracts.LentReader as T
use Rattle.lent.proofs.LentReader.TheLaws as T'
use Rattle.lent.proofs.Thin.{two}

-- the reader's type, its description and its laws, over a signature's one lifetime
abbrev pub B : Lfts 1 → RattleType
B κs = T.the_row (named_lft 1 0 tt κs)

abbrev pub D : Lfts 1 → Declared
D κs = T.the_type (named_lft 1 0 tt κs)

abbrev pub L : (κs : Lfts 1) → LL.Laws (D κs)
L κs = T'.the_laws (named_lft 1 0 tt κs)

-- the machine values of a state and of a reader's bytes
abbrev pub state_val : State → Val
state_val st = LL.val R.the_type R'.the_laws st

abbrev pub bytes_val : LentReader → Val
bytes_val d = slice_val d.bytes.ref_ptr (length d.bytes.now)

abbrev pub reader_val : LentReader → Val
reader_val d = two (state_val d.state) (bytes_val d)

module _ {M : Type 1} {𝓤 : Ura M} (𝓛 : Logic 𝓤) (κ : Lft) (q : Share) (d : LentReader) where
  open 𝓛 use {H}

  abbrev pub Tok : Item 𝓤
  Tok = ‵ (flft κ q) ⊛ ‵ ftrue

  abbrev pub Own : Fml
  Own = (B (κ, tt)).own_val d (reader_val d ∷ [])

  -- the reader, and what the parameters behind it own
  abbrev pub Whole : Fml → Fml
  Whole tail = fsep Own tail

  -- the same, in the order in which the covered call takes it
  abbrev pub Parts : Fml → Fml
  Parts tail = fsep ((R.the_row).own_val d.state (state_val d.state ∷ [])) (fsep ((ShrSlice (named 0) κ u8).own_val d.bytes (bytes_val d ∷ [])) tail)

  -- the reader is Copy: what it owns is had twice, once taken apart
  pub apart : (tail : Fml) → ent 𝓤 (sem 𝓛 tail) (sep 𝓤 (sem 𝓛 tail) (sem 𝓛 tail))
      → ent 𝓤 (⋆ 𝓛 (Tok ∷ ‵ (Whole tail) ∷ [])) (⋆ 𝓛 (((Tok ⊛ ‵ (Parts tail)) ⊛ ‵ ftrue) ∷ ‵ (Whole tail) ∷ []))
  apart tail twice =
      qed 𝓛 (Tok ∷ ‵ (Whole tail) ∷ []) ∵
      move ! (1 ∷ []) $ fsplit ! $ use1 𝓛 (‵ Own ⊛ ‵ Own) ((LL.copy (D (κ, tt)) (T'.the_copy (named_lft 1 0 tt (κ, tt))) 𝓛).twice d (reader_val d ∷ [])) $ split ! $
      move ! (2 ∷ []) $ use1 𝓛 (‵ tail ⊛ ‵ tail) twice $ split ! $
      -- [tail; tail; Own; Own; the token]
      move ! (2 ∷ 0 ∷ []) $ fjoin ! $ move ! (2 ∷ []) $
      use1 𝓛 (given (reader_val d ∷ [] ≡ reader_val d ∷ []) (‵ (all_own (D (κ, tt)).parts (L (κ, tt)) (d.state, (d.bytes, tt))))) (own_open 𝓛 (D (κ, tt)) (L (κ, tt)) (d.state, (d.bytes, tt)) (reader_val d)) $ learn ! (λ _.
      -- [what the fields own together; the whole; tail; the token]
      fsplit ! $ move ! (1 ∷ []) $ fsplit ! $ move ! (0 ∷ 4 ∷ []) $ fjoin ! $ move ! (2 ∷ 0 ∷ []) $ fjoin ! $ move ! (3 ∷ 0 ∷ []) $ join ! $ join ! $ done !)

  -- the answer's state takes the place of the reader's, and what was answered, which owns only facts, stands before it
  pub handed : (tail P : Fml) (st : State) → Is R.the_row st (state_val st ∷ []) → ent 𝓤 (emp 𝓤) (sem 𝓛 P)
      → ent 𝓤 (⋆ 𝓛 (Tok ∷ ‵ (Whole tail) ∷ [])) (⋆ 𝓛 (Tok ∷ ‵ (Whole tail) ∷ ‵ (fsep P (fsep ((B (κ, tt)).own_val (at d st) (reader_val (at d st) ∷ [])) ftrue)) ∷ []))
  handed tail P st is mk =
      qed 𝓛 (Tok ∷ ‵ (Whole tail) ∷ []) ∵ frame ! $ fsplit ! $
      use1 𝓛 (‵ Own ⊛ ‵ Own) ((LL.copy (D (κ, tt)) (T'.the_copy (named_lft 1 0 tt (κ, tt))) 𝓛).twice d (reader_val d ∷ [])) $ split ! $ move ! (0 ∷ 2 ∷ []) $ fjoin ! $ frame ! $
      owned ! R.the_row (Is R.the_row) (LL.makes R.the_type R'.the_plain 𝓛) st _ is $ move ! (1 ∷ 0 ∷ []) $
      use2 𝓛 (‵ ((B (κ, tt)).own_val (at d st) (reader_val (at d st) ∷ []))) (own_put 𝓛 (D (κ, tt)) (L (κ, tt)) 0 (d.state, (d.bytes, tt)) st (reader_val d)) $ nothing ! $ move ! (1 ∷ 0 ∷ []) $ fjoin ! $
      use0 𝓛 (‵ P) mk $ fjoin ! $ done !

  -- a covered call's answer: it is what the call's `ensures` says, and what it owns is let go, once its relation is known
  abbrev pub Known : (N : RattleType) → N.Denot → N.Denot → Val → Type 0
  Known N found r u = Is N r (u ∷ []) × (r ≡ found)

  pub comes : (N : RattleType) (found : N.Denot) (Says : N.Denot → SProp 𝓤) → ((r : N.Denot) → ent 𝓤 (Says r) (fact 𝓤 (r ≡ found))) → (u : Val)
      → ent 𝓤 (H.⇛ (ex 𝓤 (λ (r : N.Denot). mean 𝓛 ((Tok ⊛ ‵ (N.own_val r (u ∷ []))) ⊛ raw (Says r))))) (mean 𝓛 (later (some (λ (r : N.Denot). given (Known N found r u) Tok))))
  comes N found Says said u =
      𝓛.laws.⇛_mono _ _ (ex_e 𝓤 _ (λ r. via 𝓤 (mean 𝓛 (given (Known N found r u) Tok)) (one r) (ex_i 𝓤 (λ (r : N.Denot). mean 𝓛 (given (Known N found r u) Tok)) r)))
    where
      one : (r : N.Denot) → ent 𝓤 (mean 𝓛 ((Tok ⊛ ‵ (N.own_val r (u ∷ []))) ⊛ raw (Says r))) (mean 𝓛 (given (Known N found r u) Tok))
      one r =
          qed 𝓛 (((Tok ⊛ ‵ (N.own_val r (u ∷ []))) ⊛ raw (Says r)) ∷ []) ∵ split ! $ move ! (1 ∷ []) $ use1 𝓛 (raw (fact 𝓤 (r ≡ found))) (said r) $ heard ! (r ≡ found) (λ e. split ! $ move ! (1 ∷ []) $
          peeks ! N (Is N) (shows 𝓛 N) r (u ∷ []) (λ is. drop ! $ check ! (is, e) $ done !))
