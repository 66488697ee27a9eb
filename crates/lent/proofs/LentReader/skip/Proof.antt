-- `LentReader::skip` meets its contract: a walk of its MIR, by hand. All that the proof knows of the call of `skip` is that it meets its contract.
-- Assumes nothing.
use mathlib.Core.Path.{◌≡◌, refl, ap}
use mathlib.Core.List.{[], ◌∷◌}
use seplogic.Ra.Ura.{Ura}
use mir.Val.{Val}
use base.Logic.{SProp, ent, sep, emp, via, fst∗, snd∗, ex_e}
use base.Fml.{Lft, Share, Fml, ftrue, fsep}
use prog.Memory.{Memory}
use prog.Routine.{Routine}
use prog.Wp.{Calls, Loops, WpFn, Tables}
use types.Logic.{Logic, sem}
use contract.Monad.{Fun, fact}
use contract.Running.{tables, tables_of}
use types.Kit.{‵, ⋆, ◌⊛◌, ◌$◌, ◌∵◌, !, qed, by, move, use1, split, fsplit, fjoin, suffices, frame, done}
use sound.WpLaws.{FmC, fm_of, WpFn-mono}
use denote.Steps.{nothing}
use denote.Triple.Entry.{Args, on_entry}
use denote.Struct.Laws as LL
use denote.Enum.Laws as EL
use denote.Triple.Statement.{Contract, Triple}
use denote.Triple.Spec.{Meets, triple_of}
use denote.Triple.Table.{entered}
use denote.Triple.Walked.{says, Stays, stay_none, walk_of, Goes-none, Walks, ends_at, walked, walk_Meets}
use denote.Exit.{yes}
use denote.Triple.Clauses.{ensured, lasts, at_exit, AtExit}
use Rattle.types.specs.declared.TType.{TType}
use Rattle.types.specs.contracts.TType as K
use Rattle.types.proofs.TType.TheLaws as K'
use Rattle.skip.specs.Skip.{skip_call}
use Rattle.input.specs.declared.ReadDone.{ReadDone}
use Rattle.input.specs.contracts.ReadDone as N
use Rattle.input.proofs.TCompactInputProtocol.TheLaws as R'
use Rattle.input.specs.contracts.TCompactInputProtocol as R
use Rattle.skip.specs.contracts.skip as plain
use Rattle.skip.proofs.skip.Symbol.{name as #plain}
use Rattle.skip.proofs.skip.Met as plain-thm
use Rattle.lent.specs.Lent.{lent_skip, hand_done}
use Rattle.lent.specs.declared.LentReader.{LentReader}
use Rattle.lent.proofs.Kept.{Known, comes, B, D, L, Tok, Whole, state_val, bytes_val, reader_val, apart}
use Rattle.lent.proofs.Answers.{τ, answer_val, tells, typed, typed_answer, typed_state, hands_back}
use Rattle.lent.proofs.Three.{done as answers}
use Rattle.lent.proofs.Thin.{two, Covered, walk_with}
use Rattle.lent.specs.contracts.LentReader.skip.Key.{name as #lent}
use Rattle.lent.specs.contracts.LentReader.skip as lent
use Rattle.lent.proofs.LentReader.skip.Statement as stated
use Rattle.lent.proofs.LentReader.skip.Code as code

abbrev stayed : Stays (lent.ended).signature.params (lent.ended).kept
stayed = (stay_none B yes, (stay_none (λ κs. K.the_row) yes, tt))

module _ {M : Type 1} {𝓤 : Ura M} (𝓛 : Logic 𝓤) (mem : Memory → SProp 𝓤) (run : Routine → Fun 𝓤) where
  -- the contract that the proof cites
  abbrev Plain : Contract 𝓤
  Plain = triple_of 𝓛 plain.signature (plain.spec 𝓛 mem run)

module _ {M : Type 1} {𝓤 : Ura M} (𝓛 : Logic 𝓤) (mem : Memory → SProp 𝓤) (run : Routine → Fun 𝓤) (κ : Lft) (q : Share) (d : LentReader) (kind : TType) where
  open 𝓛 use {H}

  abbrev kind-val : Val
  kind-val = EL.val K.the_type K'.the_laws kind

  -- what the parameter behind the reader owns, which can be had twice
  abbrev tail : Fml
  tail = fsep ((K.the_row).own_val kind (kind-val ∷ [])) ftrue

  abbrev found : ReadDone
  found = skip_call d.bytes.now d.state kind

  abbrev Post : Val → SProp 𝓤
  Post = (walk_of 𝓛 lent.ended stayed (lent.clauses 𝓛 mem run)).post (((κ, tt), (q, tt), tt, (d, (kind, tt)), (reader_val d ∷ [], (kind-val ∷ [], tt))), tt)

  abbrev to : (Plain 𝓛 mem run).Ghost
  to = (((κ, tt), (q, tt), tt, (d.state, (d.bytes, (kind, tt))), (state_val d.state ∷ [], (bytes_val d ∷ [], (kind-val ∷ [], tt)))), tt)

  abbrev args : Args plain.signature (κ, tt)
  args = (d.state, (d.bytes, (kind, tt)))

  -- the covered call's second clause
  abbrev exact : ReadDone → AtExit plain.ended (κ, tt) → SProp 𝓤
  exact r e = plain.ensures-exact 𝓛 (κ, tt) mem run d.state d.bytes kind (record { entry = d.state; exit = e.0 }) (record { entry = d.bytes; exit = e.1.0 }) (record { entry = kind; exit = e.1.1.0 }) r

  -- of the covered call's `ensured`, the clause alone: it has no `&mut`, so what is said of last values is dropped, and so is the second clause
  said : (r : ReadDone) → ent 𝓤 (ensured 𝓛 plain.ended (plain.clauses 𝓛 mem run) (κ, tt) args tt r) (fact 𝓤 (r ≡ found))
  said r = ex_e 𝓤 _ (λ ws. via 𝓤 (sep 𝓤 (fact 𝓤 (r ≡ found)) (exact r (at_exit plain.ended (κ, tt) args ws))) (snd∗ 𝓤 (sem 𝓛 (lasts plain.ended (κ, tt) args ws)) _) (fst∗ 𝓤 (fact 𝓤 (r ≡ found)) (exact r (at_exit plain.ended (κ, tt) args ws))))

  twice : ent 𝓤 (sem 𝓛 tail) (sep 𝓤 (sem 𝓛 tail) (sem 𝓛 tail))
  twice = qed 𝓛 (‵ tail ∷ []) ∵ fsplit ! $ use1 𝓛 (‵ ((K.the_row).own_val kind (kind-val ∷ [])) ⊛ ‵ ((K.the_row).own_val kind (kind-val ∷ []))) ((EL.copy K.the_type K'.the_copy 𝓛).twice kind (kind-val ∷ [])) $ split ! $ nothing ! $ move ! (1 ∷ 0 ∷ []) $ fjoin ! $ frame ! $ fjoin ! $ done !

  exits : (r : ReadDone) (u : Val) → Known 𝓛 κ q d N.the_row found r u → ent 𝓤 (⋆ 𝓛 (Tok 𝓛 κ q d ∷ ‵ (Whole 𝓛 κ q d tail) ∷ [])) (Post (two (answer_val answers r.answer) (two (state_val r.state) (bytes_val d))))
  unfolding lent_skip
  exits r u k =
      qed 𝓛 (Tok 𝓛 κ q d ∷ ‵ (Whole 𝓛 κ q d tail) ∷ []) ∵
      suffices ! _ (ends_at 𝓛 lent.ended stayed (lent.clauses 𝓛 mem run) (((κ, tt), (q, tt), tt, (d, (kind, tt)), (reader_val d ∷ [], (kind-val ∷ [], tt))), tt) (two (answer_val answers r.answer) (two (state_val r.state) (bytes_val d))) (hand_done d r) (tt, (tt, tt)) (tt, (tt, tt))) $
      says ! (ap (hand_done d) k.1) $ by ! (hands_back answers 𝓛 κ q d tail r u k.0)

  module _ (C : Calls 𝓤 H) (Λ : Loops 𝓤 H) (fm : FmC 𝓤 H 𝓛.laws C) (known : Triple 𝓤 (C #plain) (Plain 𝓛 mem run)) where
    covered : Covered (τ answers) answers.read_name answers.handed_name #plain 𝓛 C Λ fm (state_val d.state) d.bytes (kind-val ∷ []) ReadDone (λ r. answer_val answers r.answer) (λ r. state_val r.state) (Known 𝓛 κ q d N.the_row found)
        (on_entry 𝓛 lent.signature (κ, tt) (q, tt) (d, (kind, tt)) (reader_val d ∷ [], (kind-val ∷ [], tt))) ((Plain 𝓛 mem run).pre to) (‵ (Whole 𝓛 κ q d tail)) (Tok 𝓛 κ q d) ((Plain 𝓛 mem run).post to) Post
    covered = record {
      apart = apart 𝓛 κ q d tail twice;
      met = known to;
      gives = comes 𝓛 κ q d N.the_row found (ensured 𝓛 plain.ended (plain.clauses 𝓛 mem run) (κ, tt) args tt) said;
      tells = λ r u k. tells answers 𝓛 r u k.0;
      typed = λ r u k. typed answers 𝓛 r u k.0;
      typed_answer = λ r u k. typed_answer answers 𝓛 r u k.0;
      typed_state = λ r u k. typed_state answers 𝓛 r u k.0;
      exits = exits;
    }

module _ {M : Type 1} {𝓤 : Ura M} (𝓛 : Logic 𝓤) (mem : Memory → SProp 𝓤) (run : Routine → Fun 𝓤) where
  open 𝓛 use {H}

  walks : (C : Calls 𝓤 H) (Λ : Loops 𝓤 H) → FmC 𝓤 H 𝓛.laws C → Triple 𝓤 (C #plain) (Plain 𝓛 mem run) → Walks 𝓛 lent.ended stayed (WpFn 𝓤 H C Λ code.function) (lent.clauses 𝓛 mem run)
  walks C Λ fm known =
      walked 𝓛 lent.ended stayed (lent.clauses 𝓛 mem run) (WpFn 𝓤 H C Λ code.function) (λ κs. (LL.vals (D κs) (L κs), (EL.vals K.the_type K'.the_laws, tt))) (λ κs. (LL.tells (D κs) (L κs), (EL.tells K.the_type K'.the_laws, tt)))
      (λ κs qs bounds a g are. via 𝓤 _ (fst∗ 𝓤 _ (emp 𝓤)) (walk_with (τ answers) answers.read_name answers.handed_name #plain 𝓛 C Λ fm (state_val a.0.state) a.0.bytes _ _ _ _ _ _ _ _ _ _ K'.mir _ (covered 𝓛 mem run κs.0 qs.0 a.0 a.1.0 C Λ fm known)
      ((LL.lawful (D κs) (L κs) 𝓛).typed a.0 _ are.0).0 ((LL.lawful R.the_type R'.the_laws 𝓛).typed a.0.state _ (LL.owed (D κs) (L κs) a.0 _ are.0).0).0
      ((EL.lawful K.the_type K'.the_laws 𝓛 tt).typed a.1.0 _ are.1.0).0))

meets : {M : Type 1} {𝓤 : Ura M} (𝓛 : Logic 𝓤) (mem : Memory → SProp 𝓤) (run : Routine → Fun 𝓤) (𝓣 : Tables 𝓤 𝓛.H)
    → Triple 𝓤 (𝓣.C #plain) (Plain 𝓛 mem run) → Meets 𝓛 lent.signature (WpFn 𝓤 𝓛.H 𝓣.C 𝓣.Λ code.function) (lent.spec 𝓛 mem run)
meets {𝓤 = 𝓤} 𝓛 mem run 𝓣 known =
    walk_Meets 𝓛 lent.ended stayed (Goes-none 𝓛 1 B yes (λ κs x f. refl), (Goes-none 𝓛 1 (λ κs. K.the_row) yes (λ κs x f. refl), tt)) (lent.clauses 𝓛 mem run) (WpFn 𝓤 𝓛.H 𝓣.C 𝓣.Λ code.function) (WpFn-mono 𝓤 𝓛.H 𝓛.laws 𝓣 code.function)
    (walks 𝓛 mem run 𝓣.C 𝓣.Λ (fm_of 𝓤 𝓛.H 𝓛.laws 𝓣) known)

pub skip_spec : {M : Type 1} → stated.statement M
unfolding tables_of
skip_spec 𝓤 𝓛 𝓜 𝓡 wired =
    let 𝓣 = tables 𝓤 𝓛.H 𝓜 𝓡 𝓡.env in
    entered 𝓤 𝓛.H (triple_of 𝓛 lent.signature (lent.spec 𝓛 𝓜.mem 𝓡.returns)) 𝓣.C 𝓣.Λ #lent code.function (code.unfolded 𝓤 𝓛.H 𝓜 𝓡 wired)
    (meets 𝓛 𝓜.mem 𝓡.returns (tables_of 𝓤 𝓛.H 𝓜 𝓣) (plain-thm.met 𝓤 𝓛 𝓜 𝓡 (code.calls-skip::skip 𝓡.env wired)))
