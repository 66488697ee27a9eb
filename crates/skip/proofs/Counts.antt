-- Holding a header's count against the bytes left changes refusals only: skip accepts what it would accept without, with the same end. Assumes nothing.
use mathlib.Core.Path.{◌≡◌, sym, ap, ◌∙◌}
use mathlib.Core.Logic.{◌⊎◌, ⊎_elim, ◌↔◌}
use mathlib.Core.List.{List}
use Prim.Native.Nat.{ℕ, zero, suc}
use lib.ListN.{length, take, drop, take-append-drop}
use Rattle.types.specs.Refusals.{END}
use Rattle.types.specs.declared.Place.{Place}
use Rattle.types.specs.declared.TType.{TType}
use Rattle.types.specs.declared.TConfiguration.{TConfiguration}
use Rattle.types.specs.Value.{Tree}
use Rattle.numbers.specs.Varint.{got, placed}
use Rattle.heads.specs.Reader.{Reader, read_at}
use Rattle.heads.specs.Heads.{items, pairs, items_head, pairs_head}
use Rattle.heads.proofs.Lawful.{not_both}
use Rattle.heads.proofs.Ahead.{items_or_end, pairs_or_end}
use Rattle.heads.proofs.Steps.{found_at}
use Rattle.skip.specs.Value.{shut, boxed, roomy, value_of, uncounted}
use Rattle.skip.specs.Skip.{past, skip_of}
use Rattle.skip.specs.declared.Skipped.TheVariants.{Done, Refused}
use Rattle.skip.proofs.Past.{read_past, past_got}
use Rattle.skip.proofs.Unless.{Less, alike, boxed_less, shaped_less, same_past}
use Rattle.skip.proofs.Sound.{Good, shut_good, boxed_good, shaped_good}
use Rattle.skip.proofs.Complete.{complete}

module _ (lim : TConfiguration) where
  -- the same answer, or END
  counts_less : (room : ℕ) (ty : TType) → Less END (value_of lim room ty) (uncounted lim room ty)
  unfolding value_of uncounted
  counts_less zero ty = alike END _
  counts_less (suc room) ty =
      shaped_less END lim (roomy lim (value_of lim room)) (boxed (items lim) (pairs lim) (uncounted lim room))
      (boxed_less END (items_head lim) (items lim) (items_or_end lim) (pairs_head lim) (pairs lim) (pairs_or_end lim) (value_of lim room) (uncounted lim room) (counts_less room)) ty

  -- what is accepted on trust is spelt too
  trusted : (room : ℕ) (ty : TType) → Good lim room ty (uncounted lim room ty)
  unfolding uncounted
  trusted zero ty = shaped_good lim zero shut (shut_good lim zero) ty
  trusted (suc room) ty =
      shaped_good lim (suc room) (boxed (items lim) (pairs lim) (uncounted lim room))
      (boxed_good lim room (uncounted lim room) (trusted room) (items lim) (pairs lim) (record { items_are = λ bs h n e. e; pairs_are = λ bs h n e. e })) ty

  module _ (room : ℕ) (ty : TType) (bs : List ℕ) (t : Tree) (n : ℕ) where
    to_trust : value_of lim room ty bs ≡ got t n → uncounted lim room ty bs ≡ got t n
    to_trust e = ⊎_elim (λ f. sym f ∙ e) (λ f. not_both (sym f ∙ e)) (counts_less room ty bs)

  -- what is spelt has its bytes, so the counts stand
  from_trust : (room : ℕ) (ty : TType) (bs : List ℕ) (t : Tree) (n : ℕ) → uncounted lim room ty bs ≡ got t n → value_of lim room ty bs ≡ got t n
  from_trust room ty bs t n e =
      let c = ap (value_of lim room ty) (sym (take-append-drop n bs)) ∙ complete t lim room ty (take n bs) (trusted room ty bs t n e) (drop n bs) in
      let f : got t (length (take n bs)) ≡ got t n = sym (to_trust room ty bs t (length (take n bs)) c) ∙ e in
      let m : length (take n bs) ≡ n = cc in
      c ∙ ap (got t) m

  -- a value is accepted with its tree and its size exactly where it would be accepted on trust
  pub counts_only : (room : ℕ) (ty : TType) (bs : List ℕ) (t : Tree) (n : ℕ) → (value_of lim room ty bs ≡ got t n) ↔ (uncounted lim room ty bs ≡ got t n)
  counts_only room ty bs t n = (to_trust room ty bs t n, from_trust room ty bs t n)

-- skip accepts what it would accept on trust, with the same end; and where the two refuse by another number, skip's is END
module _ (s : List ℕ) (lim : TConfiguration) (room : ℕ) (ty : TType) (at : ℕ) where
  at_place : (p q : Reader Tree) → ((bs : List ℕ) (t : Tree) (n : ℕ) → p bs ≡ got t n → q bs ≡ got t n) → (e : Place) → past p s at ≡ Done e → past q s at ≡ Done e
  unfolding read_at
  at_place p q h e f =
      let r = read_past p s at e f in
      let g = found_at at (p (drop at s)) r.0 e.0 r.1 in
      past_got q s at r.0 e.0 (ap (placed at) (h (drop at s) r.0 g.0 g.1) ∙ ap (got r.0) g.2)

  pub skip_counts : (e : Place) → (skip_of s lim room ty at ≡ Done e) ↔ (past (uncounted lim room ty) s at ≡ Done e)
  unfolding skip_of
  skip_counts e = (
    at_place (value_of lim room ty) (uncounted lim room ty) (λ bs t n. (counts_only lim room ty bs t n).0) e,
    at_place (uncounted lim room ty) (value_of lim room ty) (λ bs t n. (counts_only lim room ty bs t n).1) e,
  )

  pub skip_or_end : (skip_of s lim room ty at ≡ past (uncounted lim room ty) s at) ⊎ (skip_of s lim room ty at ≡ Refused END)
  unfolding skip_of
  skip_or_end = same_past END (value_of lim room ty) (uncounted lim room ty) (counts_less lim room ty) s at
