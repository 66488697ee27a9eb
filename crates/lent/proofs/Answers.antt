-- The three calls' answers, and the structs that hand them back with the reader, as one: an enum beside the next state, and the same enum beside the reader.
-- Assumes nothing.
use mathlib.Core.Path.{◌≡◌, refl, sym, ap, subst}
use mathlib.Core.List.{List, [], ◌∷◌}
use seplogic.Ra.Ura.{Ura}
use mir.Syntax.{Sym, Ty}
use mir.Val.{Val}
use base.Logic.{ent}
use base.Fml.{Lft, Share, Fml}
use types.Logic.{Logic, sem}
use types.Kit.{‵, ◌⊛◌, ⋆, ◌$◌, ◌∵◌, !, qed, by, split3, use2, frame}
use denote.Laws.{Is}
use denote.Shadow.{makes_shadow}
use denote.Ref.{NamedLft}
use denote.Signature.{named_lft}
use denote.Steps.{only}
use denote.Enum.Declared as En
use denote.Enum.Enum.{Enum, Plainss, layout, Enum-Pure}
use denote.Struct.Cover.{Cover}
use denote.Struct.Field.{Field}
use denote.Struct.Values.{Values, intos}
use denote.Struct.Declared.{Declared, row, shape}
use denote.Struct.Struct.{Struct}
use denote.Struct.Laws as LL
use denote.Struct.Rest.{all_own, own_shut}
use Rattle.input.specs.State.{State}
use Rattle.input.specs.contracts.TCompactInputProtocol as R
use Rattle.input.proofs.TCompactInputProtocol.TheLaws as R'
use Rattle.lent.specs.Lent.{at}
use Rattle.lent.specs.declared.LentReader.{LentReader}
use Rattle.lent.specs.contracts.LentReader as T
use Rattle.lent.proofs.LentReader.TheLaws as T'
use Rattle.lent.proofs.Thin.{Typed, two, read_ty}
use Rattle.lent.proofs.Kept.{Tok, Whole, state_val, reader_val, handed}

-- the fields of the two structs over an enum E
abbrev pub read_parts : En.Declared → List Field
read_parts E = En.field E ∷ R.the_field ∷ []

abbrev pub handed_parts : En.Declared → NamedLft → List Field
handed_parts E α = En.field E ∷ T.the_field α ∷ []

pub record Answering : Type 2 where
  pub E : En.Declared
  pub laws : LL.FLaws (En.field E)
  pub plain : Plainss (En.variants E)
  -- what the covered call answers
  pub read_name : Sym
  pub Read : Type 0
  pub answer : Read → E.D
  pub state : Read → State
  pub read_cover : Cover Read (Values (read_parts E)) (λ r. (answer r, (state r, tt)))
  pub read_propositions : (v : Values (read_parts E)) → IsProp (read_cover.Ghost v)
  pub read_one : (x y : Read) → intos (read_parts E) (answer x, (state x, tt)) ≡ intos (read_parts E) (answer y, (state y, tt)) → x ≡ y
  -- what is handed back, and how it is made of that and the reader
  pub handed_name : Sym
  pub Handed : Type 0
  pub answered : Handed → E.D
  pub reader : Handed → LentReader
  pub handed_cover : (α : NamedLft) → Cover Handed (Values (handed_parts E α)) (λ h. (answered h, (reader h, tt)))
  pub handed_propositions : (α : NamedLft) (v : Values (handed_parts E α)) → IsProp ((handed_cover α).Ghost v)
  pub handed_one : (α : NamedLft) (x y : Handed) → intos (handed_parts E α) (answered x, (reader x, tt)) ≡ intos (handed_parts E α) (answered y, (reader y, tt)) → x ≡ y
  pub hand : LentReader → Read → Handed
  pub hands : (d : LentReader) (r : Read) → answered (hand d r) ≡ answer r
  pub hands_reader : (d : LentReader) (r : Read) → reader (hand d r) ≡ at d (state r)

module _ (Z : Answering) where
  abbrev pub τ : Ty
  τ = layout (En.shape Z.E)

  abbrev pub answer_val : Z.E.D → Val
  answer_val a = Z.laws.val (Z.E.to a)

  abbrev pub N : Declared
  N =
      record {
        name = Z.read_name;
        args = [];
        types = [];
        parts = read_parts Z.E;
        D = Z.Read;
        to = λ r. intos (read_parts Z.E) (Z.answer r, (Z.state r, tt));
        to_one = Z.read_one;
        as_values = λ r. (Z.answer r, (Z.state r, tt));
        to_is = λ r. refl;
        cover = Z.read_cover;
        propositions = Z.read_propositions;
      }

  abbrev pub N_laws : LL.Laws N
  N_laws = (Z.laws, (R'.the_field_laws, tt))

  abbrev pub G : NamedLft → Declared
  G α =
      record {
        name = Z.handed_name;
        args = α.mir ∷ [];
        types = [];
        parts = handed_parts Z.E α;
        D = Z.Handed;
        to = λ h. intos (handed_parts Z.E α) (Z.answered h, (Z.reader h, tt));
        to_one = Z.handed_one α;
        as_values = λ h. (Z.answered h, (Z.reader h, tt));
        to_is = λ h. refl;
        cover = Z.handed_cover α;
        propositions = Z.handed_propositions α;
      }

  abbrev pub G_laws : (α : NamedLft) → LL.Laws (G α)
  G_laws α = (Z.laws, (T'.the_field_laws α, tt))

  module _ {M : Type 1} {𝓤 : Ura M} (𝓛 : Logic 𝓤) where
    -- what is known of an answer with the machine value u
    module _ (r : Z.Read) (u : Val) (is : Is (row N) r (u ∷ [])) where
      pub is_answer : Is (Enum (En.shape Z.E)) (Z.E.to (Z.answer r)) (answer_val (Z.answer r) ∷ [])
      is_answer = (LL.owed N N_laws r _ is).0

      pub is_state : Is R.the_row (Z.state r) (state_val (Z.state r) ∷ [])
      is_state = (LL.owed N N_laws r _ is).1.0

      pub tells : u ≡ two (answer_val (Z.answer r)) (state_val (Z.state r))
      tells = ap only (LL.tells N N_laws r _ is)

      pub typed : Typed (read_ty τ Z.read_name) u
      typed = ((LL.lawful N N_laws 𝓛).typed r _ is).0

      pub typed_answer : Typed τ (answer_val (Z.answer r))
      typed_answer = ((Z.laws.lawful 𝓛).typed (Z.E.to (Z.answer r)) _ is_answer).0

      pub typed_state : Typed R'.mir (state_val (Z.state r))
      typed_state = ((LL.lawful R.the_type R'.the_laws 𝓛).typed (Z.state r) _ is_state).0

    -- what is handed back is owned, beside all that was passed
    pub hands_back : (κ : Lft) (q : Share) (d : LentReader) (tail : Fml) (r : Z.Read) (u : Val) → Is (row N) r (u ∷ [])
        → ent 𝓤 (⋆ 𝓛 (Tok 𝓛 κ q d ∷ ‵ (Whole 𝓛 κ q d tail) ∷ []))
        (⋆ 𝓛 (Tok 𝓛 κ q d ∷ ‵ (Whole 𝓛 κ q d tail) ∷ ‵ ((row (G (named_lft 1 0 tt (κ, tt)))).own_val (Z.hand d r) (two (answer_val (Z.answer r)) (reader_val (at d (Z.state r))) ∷ [])) ∷ []))
    hands_back κ q d tail r u is =
        qed 𝓛 (Tok 𝓛 κ q d ∷ ‵ (Whole 𝓛 κ q d tail) ∷ []) ∵
        use2 𝓛 (Tok 𝓛 κ q d ⊛ ‵ (Whole 𝓛 κ q d tail) ⊛ ‵ (all_own (handed_parts Z.E α) (G_laws α) (Z.answer r, (at d (Z.state r), tt))))
        (handed 𝓛 κ q d tail ((Enum (En.shape Z.E)).own_val (Z.E.to (Z.answer r)) (answer_val (Z.answer r) ∷ [])) (Z.state r) (is_state r u is)
        (makes_shadow 𝓛 ((Enum (En.shape Z.E)).own_val (Z.E.to (Z.answer r)) (answer_val (Z.answer r) ∷ [])) (Enum-Pure (En.shape Z.E) Z.plain (Z.E.to (Z.answer r)) (answer_val (Z.answer r) ∷ [])) (is_answer r u is))) $
        split3 ! $ frame ! $ frame ! $ by !
        (subst (λ (v : Values (handed_parts Z.E α)). ent 𝓤 (sem 𝓛 (all_own (handed_parts Z.E α) (G_laws α) (Z.answer r, (at d (Z.state r), tt)))) (sem 𝓛 ((Struct (shape (G α))).own_val (intos (handed_parts Z.E α) v) (two (answer_val (Z.answer r)) (reader_val (at d (Z.state r))) ∷ []))))
        (λ i. (sym (Z.hands d r) i, (sym (Z.hands_reader d r) i, tt)))
        (own_shut 𝓛 (G α) (G_laws α) (Z.answer r, (at d (Z.state r), tt))))
      where
        α : NamedLft
        α = named_lft 1 0 tt (κ, tt)
