-- A translation that is refused leaves the buffer; one that goes through leaves there what the other protocol reads as the same message and value, up to the bytes that it
-- says were written. Assumes nothing.
use mathlib.Core.Path.{◌≡◌, refl, sym, ap, subst, ◌∙◌}
use mathlib.Core.Bool.{Bool, true, false, cond}
use mathlib.Core.List.{List, ◌++◌}
use Prim.Native.Nat.{ℕ, ◌+◌, ◌≤◌}
use native.Mathlib.Omega.{arith}
use borrow.Author.Tests.{leb-true}
use lib.ListN.{length, take, drop}
use lib.Dec.{leb, ltb}
use Rattle.types.specs.Refusals.{BAD_STATE, MESSAGE_SIZE, NO_ROOM}
use Rattle.types.specs.Limits.{in_range}
use Rattle.types.specs.declared.TConfiguration.{TConfiguration}
use Rattle.types.specs.Value.{Tree, Bytes}
use Rattle.types.proofs.Limits.{Ranged, ranged}
use Rattle.numbers.specs.Varint.{Found, got, refused, placed}
use Rattle.numbers.specs.Answers.{put_at}
use Rattle.numbers.proofs.Found.{zero_one}
use Rattle.numbers.proofs.Put.{put_drop}
use Rattle.heads.specs.Reader as reader
use Rattle.heads.specs.Reader.{Reader, read_at, read_to, missed}
use Rattle.heads.specs.Heads.{Message}
use Rattle.laws.specs.Written.{readable}
use Rattle.transcode.specs.Letter.{letter_by, bytes_of_letter, translated_by}
use Rattle.transcode.specs.Call.{done, not, found_in, ending, leaving, translates, leaves}
use Rattle.transcode.proofs.Ranges.{parts, is_done, first_bytes}
use Rattle.transcode.proofs.Return.{Protocol}
use Rattle.transcode.proofs.Accepted.{same_there}

-- what went through: the limits are in range, the bytes were found, and they are put
pub record Through (lim : TConfiguration) (out : List ℕ) (x : Found (List ℕ)) (n k : ℕ) (left : List ℕ) : Type 0 where
  pub bytes : List ℕ
  pub found : x ≡ got bytes n
  pub written : length bytes ≡ k
  pub room : length bytes ≤ length out
  pub put : left ≡ put_at out 0 bytes

ended : (lim : TConfiguration) (out : List ℕ) (x : Found (List ℕ)) (n k : ℕ) → ending lim out x ≡ done n k → Through lim out x n k (leaving lim out x)
ended lim out (refused why) n k e = zero_one (cc)
ended lim out (got bs m) n k e = go (leb (length bs) lim.message) (leb (length bs) (length out)) refl e
  where
    go : (a b : Bool) → leb (length bs) (length out) ≡ b → cond a (cond b (done m (length bs)) (not NO_ROOM)) (not MESSAGE_SIZE) ≡ done n k → Through lim out (got bs m) n k (cond a (cond b (put_at out 0 bs) out) out)
    go true true f g =
        let q : m ≡ n = cc in
        let r : length bs ≡ k = cc in
        record { bytes = bs; found = ap (got bs) q; written = r; room = leb-true (length bs) (length out) f; put = refl }
    go true false f g = zero_one (cc)
    go false b f g = zero_one (cc)

not_ended : (lim : TConfiguration) (out : List ℕ) (x : Found (List ℕ)) (why : ℕ) → ending lim out x ≡ not why → leaving lim out x ≡ out
not_ended lim out (refused w) why e = refl
not_ended lim out (got bs m) why e = go (leb (length bs) lim.message) (leb (length bs) (length out)) e
  where
    go : (a b : Bool) → cond a (cond b (done m (length bs)) (not NO_ROOM)) (not MESSAGE_SIZE) ≡ not why → cond a (cond b (put_at out 0 bs) out) out ≡ out
    go true true g = zero_one (cc)
    go true false g = refl
    go false b g = refl

module _ (a b : Protocol) (lim : TConfiguration) (s out : List ℕ) where
  -- "a refused translation leaves the output"
  pub refused_leaves : (why : ℕ) → translates a.reads b.writes lim s out ≡ not why → leaves a.reads b.writes lim s out ≡ out
  unfolding translates leaves
  refused_leaves why e = go (in_range lim) e
    where
      go : (c : Bool) → cond c (ending lim out (found_in a.reads b.writes lim s)) (not BAD_STATE) ≡ not why → cond c (leaving lim out (found_in a.reads b.writes lim s)) out ≡ out
      go true f = not_ended lim out (found_in a.reads b.writes lim s) why f
      go false f = refl

  module _ (n k : ℕ) (e : translates a.reads b.writes lim s out ≡ done n k) where
    in_range_lem : in_range lim ≡ true
    unfolding translates
    in_range_lem = go (in_range lim) e
      where
        go : (c : Bool) → cond c (ending lim out (found_in a.reads b.writes lim s)) (not BAD_STATE) ≡ done n k → c ≡ true
        go true f = refl
        go false f = zero_one (cc)

    pub through : Through lim out (found_in a.reads b.writes lim s) n k (leaves a.reads b.writes lim s out)
    unfolding translates leaves
    through = rw in_range_lem (ended lim out (found_in a.reads b.writes lim s) n k (rw in_range_lem at e))

-- what was found up to the cut was found in the bytes up to there
uncut : {A : Type 0} (p : Reader A) (s : List ℕ) (cut : ℕ) (x : A) (n : ℕ) → read_to p s cut 0 ≡ got x n → p (take cut s) ≡ got x n
unfolding read_to read_at
uncut p s cut x n e = go (ltb cut (length s)) (p (take cut s)) e
  where
    go : (more : Bool) (y : Found _) → missed more (placed 0 y) ≡ got x n → y ≡ got x n
    go more (got z m) f =
        let q : 0 + m ≡ n = cc in
        let r : z ≡ x = cc in
        subst (λ (v : _). got v m ≡ got x n) (sym r) (ap (got x) (omega (arith, q)))
    go more (refused why) f = zero_one (cc)

no_byte : {A : Type 0} (x y : A) (bs : List ℕ) (n : ℕ) → reader.done x bs ≡ got y n → n ≡ 0
unfolding reader.done
no_byte x y bs n e = cc

module _ (a b : Protocol) (lim : TConfiguration) (s out : List ℕ) (h : Bytes s) (n k : ℕ) (e : translates a.reads b.writes lim s out ≡ done n k) where
  -- what was read, and that the other reads it in the buffer that is left, up to what was written
  pub record Same : Type 0 where
    pub letter : Message × Tree
    pub read : letter_by a.reads lim (take lim.message s) ≡ got letter n
    pub there : read_at (letter_by b.reads lim) (leaves a.reads b.writes lim s out) 0 ≡ got (letter.0, readable letter.1) k

  pub same : Same
  unfolding found_in translated_by read_at
  same =
      let t = through a b lim s out n k e in
      let f = uncut (translated_by a.reads b.writes lim) s lim.message t.bytes n t.found in
      let g = parts (letter_by a.reads lim) _ (take lim.message s) t.bytes n f in
      let w : g.used ≡ n = omega (arith, g.all, no_byte (bytes_of_letter b.writes g.one) t.bytes _ _ g.second) in
      made t g.one (g.first ∙ ap (got g.one) w) (is_done (bytes_of_letter b.writes g.one) t.bytes _ _ g.second)
    where
      made : (t : Through lim out (found_in a.reads b.writes lim s) n k (leaves a.reads b.writes lim s out)) (l : Message × Tree) → letter_by a.reads lim (take lim.message s) ≡ got l n → bytes_of_letter b.writes l ≡ t.bytes → Same
      made t l x y =
          let ok : Ranged lim = ranged lim (in_range_lem a b lim s out n k e) in
          let rest : List ℕ = drop (0 + length t.bytes) out in
          let d : drop 0 (leaves a.reads b.writes lim s out) ≡ t.bytes ++ rest = ap (drop 0) t.put ∙ put_drop out 0 t.bytes (omega (arith, t.room)) in
          let r = same_there a b lim ok (take lim.message s) (first_bytes lim.message s h) l n x rest in
          record {
            letter = l;
            read = x;
            there =
                ap (λ (bs : List ℕ). placed 0 (letter_by b.reads lim bs)) d
                ∙ ap (placed 0) (subst (λ (bs : List ℕ). letter_by b.reads lim (bs ++ rest) ≡ got (l.0, readable l.1) (length bs)) y r)
                ∙ ap (got (l.0, readable l.1)) (omega (arith, t.written));
          }
