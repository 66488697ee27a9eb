-- A thin call with no parameter but the reader meets its contract, where the covered call meets its own: one theorem for whatever is answered.
-- Assumes nothing.
use Prim.Native.Nat.{ℕ}
use mathlib.Core.Path.{◌≡◌, refl, ap}
use mathlib.Core.List.{List, [], ◌∷◌}
use seplogic.Ra.Ura.{Ura}
use mir.Syntax.{Callee}
use mir.Val.{Val}
use base.Logic.{SProp, ent, emp, via, fst∗, snd∗, ex_e}
use base.Fml.{Lft, Share, ftrue}
use prog.Wp.{Calls, Loops, WpFn, Tables}
use types.Logic.{Logic, sem}
use contract.Monad.{fact}
use types.Kit.{‵, ⋆, ◌$◌, ◌∵◌, !, qed, by, suffices, done}
use sound.WpLaws.{FmC, fm_of, WpFn-mono}
use denote.Builtin.{u8, SliceRefOf}
use denote.Exit.{yes}
use denote.Signature.{plain, named_lft}
use denote.Steps.{nothing}
use denote.Struct.Declared.{row}
use denote.Struct.Laws as LL
use denote.Triple.Clauses.{Ended, Clauses, closing, ensured, lasts}
use denote.Triple.Entry.{on_entry}
use denote.Triple.Spec.{Meets, triple_of}
use denote.Triple.Statement.{Contract, Triple}
use denote.Triple.Walked.{says, Stays, stay_none, walk_of, Goes-none, Walks, ends_at, walked, walk_Meets}
use Rattle.input.specs.State.{State}
use Rattle.input.specs.contracts.TCompactInputProtocol as R
use Rattle.input.proofs.TCompactInputProtocol.TheLaws as R'
use Rattle.lent.specs.declared.LentReader.{LentReader}
use Rattle.lent.proofs.Thin.{two, thin, Covered, walk}
use Rattle.lent.proofs.Kept.{B, D, L, Tok, Whole, Known, state_val, bytes_val, reader_val, apart, comes}
use Rattle.lent.proofs.Answers.{Answering, τ, answer_val, N, G, tells, typed, typed_answer, typed_state, hands_back}

module _ (Z : Answering) (f : Callee) (found : List ℕ → State → Z.Read) where
  -- the covered call's contract, and the thin one's
  abbrev pub plain_ended : Ended
  plain_ended =
      record {
        signature =
            record {
              lifetimes = 1;
              outlives = [];
              params = plain (λ κs. R.the_row) ∷ SliceRefOf (0 ∷ []) tt (plain (λ κs. u8)) (λ κs. tt) ∷ [];
              result = plain (λ κs. row (N Z));
            };
        kept = (yes, (yes, tt));
      }

  abbrev pub lent_ended : Ended
  lent_ended =
      record {
        signature = record { lifetimes = 1; outlives = []; params = plain B ∷ []; result = plain (λ κs. row (G Z (named_lft 1 0 tt κs))) };
        kept = (yes, tt);
      }

  abbrev handing : LentReader → Z.Handed
  handing d = Z.hand d (found d.bytes.now d.state)

  module _ {M : Type 1} (𝓤 : Ura M) where
    abbrev pub plain_clauses : Clauses 𝓤 plain_ended
    plain_clauses κs a = record { ghost = Unit {0}; requires = λ _. emp 𝓤; ensures = λ _ r e. fact 𝓤 (r ≡ found a.1.0.now a.0) }

    abbrev pub lent_clauses : Clauses 𝓤 lent_ended
    lent_clauses κs a = record { ghost = Unit {0}; requires = λ _. emp 𝓤; ensures = λ _ r e. fact 𝓤 (r ≡ handing a.0) }

  abbrev stayed : Stays lent_ended.signature.params lent_ended.kept
  stayed = (stay_none B yes, tt)

  module _ {M : Type 1} {𝓤 : Ura M} (𝓛 : Logic 𝓤) where
    abbrev pub Plain : Contract 𝓤
    Plain = triple_of 𝓛 plain_ended.signature (closing 𝓛 plain_ended (plain_clauses 𝓤))

    abbrev pub Lent : Contract 𝓤
    Lent = triple_of 𝓛 lent_ended.signature (closing 𝓛 lent_ended (lent_clauses 𝓤))

  module _ {M : Type 1} {𝓤 : Ura M} (𝓛 : Logic 𝓤) (κ : Lft) (q : Share) (d : LentReader) where
    open 𝓛 use {H}

    abbrev was : Z.Read
    was = found d.bytes.now d.state

    abbrev Post : Val → SProp 𝓤
    Post = (walk_of 𝓛 lent_ended stayed (lent_clauses 𝓤)).post (((κ, tt), (q, tt), tt, (d, tt), (reader_val d ∷ [], tt)), tt)

    abbrev to : (Plain 𝓛).Ghost
    to = (((κ, tt), (q, tt), tt, (d.state, (d.bytes, tt)), (state_val d.state ∷ [], (bytes_val d ∷ [], tt))), tt)

    -- of the covered call's `ensured`, the clause alone: it has no `&mut`, so what is said of last values is dropped
    said : (r : Z.Read) → ent 𝓤 (ensured 𝓛 plain_ended (plain_clauses 𝓤) (κ, tt) (d.state, (d.bytes, tt)) tt r) (fact 𝓤 (r ≡ was))
    said r = ex_e 𝓤 _ (λ ws. snd∗ 𝓤 (sem 𝓛 (lasts plain_ended (κ, tt) (d.state, (d.bytes, tt)) ws)) (fact 𝓤 (r ≡ was)))

    exits : (r : Z.Read) (u : Val) → Known 𝓛 κ q d (row (N Z)) was r u
        → ent 𝓤 (⋆ 𝓛 (Tok 𝓛 κ q d ∷ ‵ (Whole 𝓛 κ q d ftrue) ∷ [])) (Post (two (answer_val Z (Z.answer r)) (two (state_val (Z.state r)) (bytes_val d))))
    exits r u k =
        qed 𝓛 (Tok 𝓛 κ q d ∷ ‵ (Whole 𝓛 κ q d ftrue) ∷ []) ∵
        suffices ! _ (ends_at 𝓛 lent_ended stayed (lent_clauses 𝓤) (((κ, tt), (q, tt), tt, (d, tt), (reader_val d ∷ [], tt)), tt) (two (answer_val Z (Z.answer r)) (two (state_val (Z.state r)) (bytes_val d))) (Z.hand d r) (tt, tt) (tt, tt)) $ says ! (ap (Z.hand d) k.1) $
        by ! (hands_back Z 𝓛 κ q d ftrue r u k.0)

    module _ (C : Calls 𝓤 H) (Λ : Loops 𝓤 H) (fm : FmC 𝓤 H 𝓛.laws C) (known : Triple 𝓤 (C f) (Plain 𝓛)) where
      covered : Covered (τ Z) Z.read_name Z.handed_name f 𝓛 C Λ fm (state_val d.state) d.bytes [] Z.Read (λ r. answer_val Z (Z.answer r)) (λ r. state_val (Z.state r)) (Known 𝓛 κ q d (row (N Z)) was)
          (on_entry 𝓛 lent_ended.signature (κ, tt) (q, tt) (d, tt) (reader_val d ∷ [], tt)) ((Plain 𝓛).pre to) (‵ (Whole 𝓛 κ q d ftrue)) (Tok 𝓛 κ q d) ((Plain 𝓛).post to) Post
      covered =
          record {
            apart = apart 𝓛 κ q d ftrue (qed 𝓛 (‵ ftrue ∷ []) ∵ nothing ! $ done !);
            met = known to;
            gives = comes 𝓛 κ q d (row (N Z)) was (ensured 𝓛 plain_ended (plain_clauses 𝓤) (κ, tt) (d.state, (d.bytes, tt)) tt) said;
            tells = λ r u k. tells Z 𝓛 r u k.0;
            typed = λ r u k. typed Z 𝓛 r u k.0;
            typed_answer = λ r u k. typed_answer Z 𝓛 r u k.0;
            typed_state = λ r u k. typed_state Z 𝓛 r u k.0;
            exits = exits;
          }

  module _ {M : Type 1} {𝓤 : Ura M} (𝓛 : Logic 𝓤) where
    open 𝓛 use {H}

    walks : (C : Calls 𝓤 H) (Λ : Loops 𝓤 H) → FmC 𝓤 H 𝓛.laws C → Triple 𝓤 (C f) (Plain 𝓛) → Walks 𝓛 lent_ended stayed (WpFn 𝓤 H C Λ (thin (τ Z) Z.read_name Z.handed_name f)) (lent_clauses 𝓤)
    walks C Λ fm known =
        walked 𝓛 lent_ended stayed (lent_clauses 𝓤) (WpFn 𝓤 H C Λ (thin (τ Z) Z.read_name Z.handed_name f)) (λ κs. (LL.vals (D κs) (L κs), tt)) (λ κs. (LL.tells (D κs) (L κs), tt))
        (λ κs qs bounds a g are. via 𝓤 _ (fst∗ 𝓤 _ (emp 𝓤)) (walk (τ Z) Z.read_name Z.handed_name f 𝓛 C Λ fm (state_val a.0.state) a.0.bytes _ _ _ _ _ _ _ _ _ _ (covered 𝓛 κs.0 qs.0 a.0 C Λ fm known)
        ((LL.lawful (D κs) (L κs) 𝓛).typed a.0 _ are.0).0 ((LL.lawful R.the_type R'.the_laws 𝓛).typed a.0.state _ (LL.owed (D κs) (L κs) a.0 _ are.0).0).0))

    pub meets : (𝓣 : Tables 𝓤 H) → Triple 𝓤 (𝓣.C f) (Plain 𝓛)
        → Meets 𝓛 lent_ended.signature (WpFn 𝓤 H 𝓣.C 𝓣.Λ (thin (τ Z) Z.read_name Z.handed_name f)) (closing 𝓛 lent_ended (lent_clauses 𝓤))
    meets 𝓣 known =
        walk_Meets 𝓛 lent_ended stayed (Goes-none 𝓛 1 B yes (λ κs x g. refl), tt) (lent_clauses 𝓤) (WpFn 𝓤 H 𝓣.C 𝓣.Λ (thin (τ Z) Z.read_name Z.handed_name f)) (WpFn-mono 𝓤 H 𝓛.laws 𝓣 (thin (τ Z) Z.read_name Z.handed_name f))
        (walks 𝓣.C 𝓣.Λ (fm_of 𝓤 H 𝓛.laws 𝓣) known)
