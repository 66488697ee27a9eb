-- A list's, set's or map's header, once it is read: the bytes that its count calls for are ahead, or they are not. Assumes nothing.
use mathlib.Core.Path.{◌≡◌, sym, ap, ◌∙◌}
use mathlib.Core.Bool.{Bool, true, false}
use mathlib.Core.List.{List}
use Prim.Native.Nat.{ℕ, ◌+◌, ◌*◌}
use native.Mathlib.Omega.{arith}
use borrow.Author.Tests.{ltb-true, ltb-false}
use lib.Dec.{ltb}
use lib.ListN.{length}
use Rattle.types.specs.Refusals.{END}
use Rattle.types.specs.declared.TType.{TType}
use Rattle.types.specs.declared.Place.{Place}
use Rattle.types.specs.declared.TConfiguration.{TConfiguration}
use Rattle.heads.specs.Reader.{read_at}
use Rattle.heads.specs.Answers.{to_list, to_map}
use Rattle.heads.specs.declared.ListHead.{ListHead}
use Rattle.heads.specs.declared.ListHead.TheVariants as L
use Rattle.heads.specs.declared.MapHead.{MapHead}
use Rattle.heads.specs.declared.MapHead.TheVariants as M
use Rattle.heads.proofs.Ahead.{backed_refused, backed_at, backed_short, is_list, no_list, is_map, no_map}
use Rattle.binary_codes.specs.Codes.{least_size}
use Rattle.protocols.specs.Answers.{items_at, pairs_at, items_head_at, pairs_head_at}
use Rattle.protocols.proofs.Owes.{takes}
use Rattle.binary_heads.specs.Heads.{items, pairs}
use Rattle.binary_heads.specs.Words.{binary}
use Rattle.binary_heads.proofs.Owes.{items_reads, pairs_reads}

-- read_list_begin
module _ (s : List ℕ) (lim : TConfiguration) (at : ℕ) (h : ListHead) (e : h ≡ items_at binary s lim at) where
  pub list_no : (why : ℕ) → h ≡ L.Refused why → L.Refused why ≡ items_head_at binary s lim at
  unfolding items_at items_head_at
  list_no why g = sym (ap to_list (backed_refused _ (items lim) s at why (no_list (read_at (items lim) s at) why (sym e ∙ g))))

  module _ (t : TType) (n : ℕ) (p : Place) (g : h ≡ L.Got t n p) (m : ℕ) (b : Bool) (f : m ≡ n * least_size t) (l : b ≡ ltb (length s) (p.0 + m)) where
    pub list_there : b ≡ false → L.Got t n p ≡ items_head_at binary s lim at
    unfolding items_at items_head_at
    list_there k =
        let o = ltb-false (length s) (p.0 + m) (sym l ∙ k) in
        sym (ap to_list (backed_at _ (items lim) s at (t, n) p.0 (is_list (read_at (items lim) s at) t n p (sym e ∙ g)) (omega (arith, f))))

    pub list_short_of : b ≡ true → L.Refused END ≡ items_head_at binary s lim at
    unfolding items_at items_head_at
    list_short_of k =
        let o = ltb-true (length s) (p.0 + m) (sym l ∙ k) in
        sym (ap to_list (backed_short _ (items lim) s at (t, n) p.0 (is_list (read_at (items lim) s at) t n p (sym e ∙ g)) (items_reads lim).lawful (takes _ 5 (omega arith) (items_reads lim)) (omega (arith, f))))

pub ruleset list_head_cases = (list_no, list_there, list_short_of)

-- read_map_begin
module _ (s : List ℕ) (lim : TConfiguration) (at : ℕ) (h : MapHead) (e : h ≡ pairs_at binary s lim at) where
  pub map_no : (why : ℕ) → h ≡ M.Refused why → M.Refused why ≡ pairs_head_at binary s lim at
  unfolding pairs_at pairs_head_at
  map_no why g = sym (ap to_map (backed_refused _ (pairs lim) s at why (no_map (read_at (pairs lim) s at) why (sym e ∙ g))))

  module _ (k v : TType) (n : ℕ) (p : Place) (g : h ≡ M.Got k v n p) (i j : ℕ) (b : Bool) (x : i ≡ n * least_size k) (y : j ≡ n * least_size v) (l : b ≡ ltb (length s) (p.0 + (i + j))) where
    pub map_there : b ≡ false → M.Got k v n p ≡ pairs_head_at binary s lim at
    unfolding pairs_at pairs_head_at
    map_there t =
        let o = ltb-false (length s) (p.0 + (i + j)) (sym l ∙ t) in
        sym (ap to_map (backed_at _ (pairs lim) s at (k, v, n) p.0 (is_map (read_at (pairs lim) s at) k v n p (sym e ∙ g)) (omega (arith, x, y))))

    pub map_short_of : b ≡ true → M.Refused END ≡ pairs_head_at binary s lim at
    unfolding pairs_at pairs_head_at
    map_short_of t =
        let o = ltb-true (length s) (p.0 + (i + j)) (sym l ∙ t) in
        sym (ap to_map (backed_short _ (pairs lim) s at (k, v, n) p.0 (is_map (read_at (pairs lim) s at) k v n p (sym e ∙ g)) (pairs_reads lim).lawful (takes _ 6 (omega arith) (pairs_reads lim)) (omega (arith, x, y))))

pub ruleset map_head_cases = (map_no, map_there, map_short_of)
