-- Skip of the values that hold no other, at each return. Assumes nothing.
use mathlib.Core.Path.{◌≡◌, refl, sym, ap, ◌∙◌}
use mathlib.Core.Bool.{Bool, true}
use mathlib.Core.List.{List}
use Prim.Native.Nat.{ℕ, ◌*◌}
use Rattle.types.specs.Refusals.{BAD_TYPE, DEPTH}
use Rattle.types.specs.declared.Place.{Place}
use Rattle.types.specs.declared.TType.{TType}
use Rattle.types.specs.declared.TType.TheVariants as T
use Rattle.types.specs.declared.TConfiguration.{TConfiguration}
use Rattle.types.specs.Value.{Tree}
use Rattle.numbers.specs.Varint.{Found, got, refused}
use Rattle.heads.specs.Reader.{Reader, some, read_at}
use Rattle.heads.specs.Answers.{to_bool, to_part}
use Rattle.heads.specs.declared.BoolRead.{BoolRead}
use Rattle.heads.specs.declared.BoolRead.TheVariants as B
use Rattle.heads.specs.declared.PartRead.{PartRead}
use Rattle.heads.specs.declared.PartRead.TheVariants as P
use Rattle.skip.specs.Value.{many}
use Rattle.skip.specs.Skip.{passed, past}
use Rattle.skip.specs.Leaves.{is_leaf}
use Rattle.skip.specs.declared.Skipped.{Skipped}
use Rattle.skip.specs.declared.Skipped.TheVariants.{Done, Refused}
use Rattle.skip.proofs.Past.{past_made, past_refuse}
use Rattle.skip.proofs.Leaf.{no_leaf, i8_ends, uuid_ends}
use Rattle.skip.proofs.Runs.{many_times, times_some}
use Rattle.binary_codes.specs.Codes.{least_size}
use Rattle.protocols.specs.Value.{value_by}
use Rattle.protocols.specs.Answers.{truth_at, binary_at, skip_by}
use Rattle.protocols.proofs.Complete.{flat}
use Rattle.binary_heads.specs.Heads.{number, int16, int32, int64, double}
use Rattle.binary_heads.specs.Words.{binary}
use Rattle.binary_skip.specs.Sizes.{is_fixed}

-- is_fixed
pub fixed_so : (kind t : TType) (b : Bool) → kind ≡ t → b ≡ is_fixed t → b ≡ is_fixed kind
fixed_so kind t b k e = rw k e

-- skip_bool, skip_bytes
abbrev of_bool_lem : BoolRead → Skipped
of_bool_lem (B.Got a e) = Done e
of_bool_lem (B.Refused why) = Refused why

as_bool : (x : Found Bool) → of_bool_lem (to_bool x) ≡ passed x
as_bool (got a e) = refl
as_bool (refused why) = refl

abbrev of_part_lem : PartRead → Skipped
of_part_lem (P.Got a e) = Done e
of_part_lem (P.Refused why) = Refused why

as_part_lem : (x : Found (List ℕ)) → of_part_lem (to_part x) ≡ passed x
as_part_lem (got bs e) = refl
as_part_lem (refused why) = refl

module _ (s : List ℕ) (at : ℕ) (r : BoolRead) (f : r ≡ truth_at binary s at) where
  over_bool : (q : BoolRead) → r ≡ q → of_bool_lem q ≡ past binary.truth s at
  unfolding truth_at past
  over_bool q g = ap of_bool_lem (sym g ∙ f) ∙ as_bool (read_at binary.truth s at)

  pub bool_done : (a : Bool) (e : Place) → r ≡ B.Got a e → Done e ≡ past binary.truth s at
  bool_done a e g = over_bool (B.Got a e) g

  pub bool_refused : (why : ℕ) → r ≡ B.Refused why → Refused why ≡ past binary.truth s at
  bool_refused why g = over_bool (B.Refused why) g

module _ (s : List ℕ) (lim : TConfiguration) (at : ℕ) (r : PartRead) (f : r ≡ binary_at binary s lim at) where
  over_bytes : (q : PartRead) → r ≡ q → of_part_lem q ≡ past (binary.binary lim) s at
  unfolding binary_at past
  over_bytes q g = ap of_part_lem (sym g ∙ f) ∙ as_part_lem (read_at (binary.binary lim) s at)

  pub bytes_done : (a e : Place) → r ≡ P.Got a e → Done e ≡ past (binary.binary lim) s at
  bytes_done a e g = over_bytes (P.Got a e) g

  pub bytes_refused : (why : ℕ) → r ≡ P.Refused why → Refused why ≡ past (binary.binary lim) s at
  bytes_refused why g = over_bytes (P.Refused why) g

pub ruleset leaf_ends = (bool_done, bool_refused, bytes_done, bytes_refused)

-- a value of one size is so many bytes
module _ (s : List ℕ) where
  number_ends : (k at : ℕ) → past (number k) s at ≡ past (some k) s at
  unfolding number
  number_ends k at = past_made (some k) _ s at

  int16_ends : (at : ℕ) → past int16 s at ≡ past (some 2) s at
  unfolding int16
  int16_ends at = past_made (number 2) _ s at ∙ number_ends 2 at

  int32_ends : (at : ℕ) → past int32 s at ≡ past (some 4) s at
  unfolding int32
  int32_ends at = past_made (number 4) _ s at ∙ number_ends 4 at

  int64_ends : (at : ℕ) → past int64 s at ≡ past (some 8) s at
  unfolding int64
  int64_ends at = past_made (number 8) _ s at ∙ number_ends 8 at

  double_ends : (at : ℕ) → past double s at ≡ past (some 8) s at
  unfolding double
  double_ends at = number_ends 8 at

  fixed_ends : (lim : TConfiguration) (t : TType) → is_fixed t ≡ true → (at : ℕ) → past (value_by binary lim 0 t) s at ≡ past (some (least_size t)) s at
  unfolding value_by
  fixed_ends lim T.Stop e at = no_leaf e
  fixed_ends lim T.Bool e at = no_leaf e
  fixed_ends lim T.I08 e at = past_made binary.int8 _ s at ∙ i8_ends s at
  fixed_ends lim T.I16 e at = past_made int16 _ s at ∙ int16_ends at
  fixed_ends lim T.I32 e at = past_made int32 _ s at ∙ int32_ends at
  fixed_ends lim T.I64 e at = past_made int64 _ s at ∙ int64_ends at
  fixed_ends lim T.Double e at = past_made double _ s at ∙ double_ends at
  fixed_ends lim T.String e at = no_leaf e
  fixed_ends lim T.List e at = no_leaf e
  fixed_ends lim T.Set e at = no_leaf e
  fixed_ends lim T.Map e at = no_leaf e
  fixed_ends lim T.Struct e at = no_leaf e
  fixed_ends lim T.Uuid e at = past_made binary.uuid _ s at ∙ uuid_ends s at

fixed_leaf : (t : TType) → is_fixed t ≡ true → is_leaf t ≡ true
fixed_leaf T.Stop e = refl
fixed_leaf T.Bool e = refl
fixed_leaf T.I08 e = refl
fixed_leaf T.I16 e = refl
fixed_leaf T.I32 e = refl
fixed_leaf T.I64 e = refl
fixed_leaf T.Double e = refl
fixed_leaf T.String e = refl
fixed_leaf T.List e = no_leaf e
fixed_leaf T.Set e = no_leaf e
fixed_leaf T.Map e = no_leaf e
fixed_leaf T.Struct e = no_leaf e
fixed_leaf T.Uuid e = refl

-- and so many of them so many times that
pub many_fixed : (s : List ℕ) (lim : TConfiguration) (room : ℕ) (t : TType) (n at : ℕ) → is_fixed t ≡ true → past (many (value_by binary lim room t) n) s at ≡ past (some (n * least_size t)) s at
many_fixed s lim room t n at e =
    ap (λ (v : Reader Tree). past (many v n) s at) (flat binary lim room t (fixed_leaf t e))
    ∙ many_times (value_by binary lim 0 t) (some (least_size t)) s (fixed_ends s lim t e) n at
    ∙ times_some n (least_size t) s at

-- skip_leaf
module _ (s : List ℕ) (lim : TConfiguration) (kind : TType) (at : ℕ) where
  pub leaf_stop : kind ≡ T.Stop → Refused BAD_TYPE ≡ skip_by binary s lim 0 kind at
  unfolding skip_by value_by
  leaf_stop k = rw k (sym (past_refuse Tree BAD_TYPE s at))

  shut_out : (t : TType) → kind ≡ t → Refused DEPTH ≡ skip_by binary s lim 0 t at → Refused DEPTH ≡ skip_by binary s lim 0 kind at
  shut_out t k e = rw k e

  pub leaf_list : kind ≡ T.List → Refused DEPTH ≡ skip_by binary s lim 0 kind at
  unfolding skip_by value_by
  leaf_list k = shut_out T.List k (sym (past_refuse Tree DEPTH s at))

  pub leaf_set : kind ≡ T.Set → Refused DEPTH ≡ skip_by binary s lim 0 kind at
  unfolding skip_by value_by
  leaf_set k = shut_out T.Set k (sym (past_refuse Tree DEPTH s at))

  pub leaf_map : kind ≡ T.Map → Refused DEPTH ≡ skip_by binary s lim 0 kind at
  unfolding skip_by value_by
  leaf_map k = shut_out T.Map k (sym (past_refuse Tree DEPTH s at))

  pub leaf_struct : kind ≡ T.Struct → Refused DEPTH ≡ skip_by binary s lim 0 kind at
  unfolding skip_by value_by
  leaf_struct k = shut_out T.Struct k (sym (past_refuse Tree DEPTH s at))

  module _ (r : Skipped) where
    pub leaf_bool : kind ≡ T.Bool → r ≡ past binary.truth s at → r ≡ skip_by binary s lim 0 kind at
    unfolding skip_by value_by
    leaf_bool k e = rw k (e ∙ sym (past_made binary.truth _ s at))

    pub leaf_bytes : kind ≡ T.String → r ≡ past (binary.binary lim) s at → r ≡ skip_by binary s lim 0 kind at
    unfolding skip_by value_by
    leaf_bytes k e = rw k (e ∙ sym (past_made (binary.binary lim) _ s at))

    pub leaf_fixed : (t : TType) (n : ℕ) → kind ≡ t → is_fixed t ≡ true → least_size t ≡ n → r ≡ past (some n) s at → r ≡ skip_by binary s lim 0 kind at
    unfolding skip_by
    leaf_fixed t n k f l e = rw k (e ∙ ap (λ (m : ℕ). past (some m) s at) (sym l) ∙ sym (fixed_ends s lim t f at))

pub ruleset leaf_cases = (leaf_stop, leaf_list, leaf_set, leaf_map, leaf_struct, leaf_bool, leaf_bytes, leaf_fixed)
