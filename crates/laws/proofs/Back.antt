-- A value within the limits, as its bytes stand in any input: they are read as it, to the bit, whatever follows, and skip takes exactly them.
-- Assumes nothing.
use mathlib.Core.Path.{◌≡◌, ap, ◌∙◌}
use mathlib.Core.List.{List, ◌++◌}
use Prim.Native.Nat.{ℕ, ◌+◌, ◌-◌, ◌≤◌}
use native.Mathlib.Omega.{arith}
use lib.ListN.{length, drop}
use Rattle.types.specs.declared.TConfiguration.{TConfiguration}
use Rattle.types.specs.Value.{Tree, type_of, Within}
use Rattle.types.proofs.Limits.{Ranged}
use Rattle.numbers.specs.Varint.{got, placed}
use Rattle.numbers.specs.Answers.{put_at}
use Rattle.numbers.proofs.Put.{put_drop}
use Rattle.heads.specs.Reader.{read_at}
use Rattle.heads.specs.Answers.{place}
use Rattle.skip.specs.Value.{value_of}
use Rattle.skip.specs.Skip.{skip_of}
use Rattle.skip.specs.declared.Skipped.TheVariants.{Done}
use Rattle.skip.proofs.Past.{past_got}
use Rattle.skip.proofs.Complete.{complete}
use Rattle.laws.specs.Written.{bytes_of, readable}
use Rattle.laws.proofs.Spelt.{spelt}

module _ (lim : TConfiguration) (ok : Ranged lim) (depth : ℕ) (t : Tree) (w : Within lim depth t) where
  -- read back, with its end
  pub reads_back : (s : List ℕ) (at : ℕ) (rest : List ℕ) → drop at s ≡ bytes_of t ++ rest → read_at (value_of lim (lim.depth - depth) (type_of t)) s at ≡ got (readable t) (at + length (bytes_of t))
  unfolding read_at
  reads_back s at rest e =
      let sp = spelt lim ok t (lim.depth - depth) (omega (arith, w.nested)) w.sized w.typed in
      ap (λ (bs : List ℕ). placed at (value_of lim (lim.depth - depth) (type_of t) bs)) e
      ∙ ap (placed at) (complete (readable t) lim (lim.depth - depth) (type_of t) (bytes_of t) sp rest)

  -- skip takes exactly the writer's bytes
  pub skip_takes : (s : List ℕ) (at : ℕ) (rest : List ℕ) → drop at s ≡ bytes_of t ++ rest → skip_of s lim (lim.depth - depth) (type_of t) at ≡ Done (place (at + length (bytes_of t)))
  unfolding skip_of
  skip_takes s at rest e = past_got (value_of lim (lim.depth - depth) (type_of t)) s at (readable t) (at + length (bytes_of t)) (reads_back s at rest e)

  -- in a buffer that they were put into
  pub put_back : (buf : List ℕ) (at : ℕ) → at + length (bytes_of t) ≤ length buf → read_at (value_of lim (lim.depth - depth) (type_of t)) (put_at buf at (bytes_of t)) at ≡ got (readable t) (at + length (bytes_of t))
  put_back buf at h = reads_back (put_at buf at (bytes_of t)) at (drop (at + length (bytes_of t)) buf) (put_drop buf at (bytes_of t) h)
