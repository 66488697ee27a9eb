-- Fields put among the points' own. Assumes nothing: these are definitions.
use Rattle.std.specs.Prelude.{◌≡◌, List, [], ◌∷◌, ℤ, pos}
use Rattle.types.specs.Value.{Trees, Tree, no_trees, tree}
use Rattle.unknown.specs.Inserted.{Inserted}
use Rattle.points.specs.Points.{in_point}

-- the listed ids: of a trial, and of a point
abbrev pub of_trial : List ℤ
of_trial = pos 1 ∷ []

abbrev pub of_point : List ℤ
of_point = pos 1 ∷ pos 2 ∷ pos 3 ∷ []

-- as many points, each with the fields of the other's in their order, and between them any of ids that are not listed
unfoldable pub Padded : Trees → Trees → Type 0
Padded no_trees us = us ≡ no_trees
Padded (tree t ts) us = (u : Tree) × (rest : Trees) × (us ≡ tree u rest) × Inserted of_point (in_point t) (in_point u) × Padded ts rest
