-- The last field that a walk found, beside the last that the struct's tree has: one step, for whatever is known of a field. Assumes nothing.
use mathlib.Core.Path.{◌≡◌, refl}
use mathlib.Core.Bool.{Bool, true, false, cond, ◌&&◌, ◌||◌}
use Rattle.types.specs.Value.{Tree}
use Rattle.picker.specs.Pick.{Own, Last, none, one, or_else}
use Rattle.unknown.specs.Inserted.{Told, absent, other, told, joined}

module _ (Known : Own → Tree → Type 0) where
  -- what the walk's fields say is what the struct says
  unfoldable pub Link : Last → Bool → Told → Type 0
  Link l b absent = (l ≡ none) × (b ≡ false)
  Link l b other = (l ≡ none) × (b ≡ true)
  Link l b (told t) = (o : Own) × (l ≡ one o) × Known o t

  -- a field more, before those that were linked
  pub link_more : (x : Told) (l : Last) (b mine same : Bool) (o : Own) (t : Tree) → Link l b x → Known o t → Link (or_else l (cond (mine && same) (one o) none)) (mine || b) (joined x mine same t)
  unfolding Link
  link_more absent l b true true o t h k = rw h.0 (o, refl, k)
  link_more absent l b true false o t h k = rw h.0 (refl, refl)
  link_more absent l b false same o t h k = rw (h.0, h.1) (refl, refl)
  link_more other l b true true o t h k = rw h.0 (o, refl, k)
  link_more other l b true false o t h k = rw h.0 (refl, refl)
  link_more other l b false same o t h k = rw (h.0, h.1) (refl, refl)
  link_more (told u) l b mine same o t h k = rw h.1 (h.0, refl, h.2)
