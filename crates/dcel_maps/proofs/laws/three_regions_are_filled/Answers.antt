use Rattle.std.proofs.Common.{◌↔◌, ◌≡◌, true, List, ℕ, [], ◌∷◌, refl}
use Rattle.std.proofs.lemmas.Bool.{false≢true}
use Rattle.dcel_fixed.specs.HalfEdges.{rev}
use Rattle.dcel_maps.specs.Cyclic.{from_least}
use Rattle.dcel_maps.specs.Examples.{inside_triangle}
use Rattle.dcel_maps.specs.Regions.{IsRegionRing}
use Rattle.dcel_maps.specs.Removals.{gives_up_edge, gives_up_face, gives_up_vertex}
use Rattle.dcel_maps.specs.Renumbering.{half_of, last_put, moved}
use Rattle.dcel_maps.specs.StripExamples.{one_triangle}
use Rattle.dcel_maps.specs.theory.RingTests.{past_listed}
use Rattle.dcel_maps.specs.Walks.{least_of, up_to}
use Rattle.dcel_maps.specs.Words.{face_in, next_in, prev_in}
use Rattle.dcel_maps.proofs.removal.RegionExamples.{inside_triangle-mesh, one_triangle-mesh}
use Rattle.dcel_maps.proofs.removal.RingComputed.{exact, is_region_ring}
use Rattle.dcel_maps.proofs.laws.three_regions_are_filled.Goals as goal

in_one : (border edges faces : List ℕ) → (is_region_ring one_triangle.shape border edges faces ≡ true) ↔ IsRegionRing one_triangle.shape border edges faces
in_one = exact one_triangle.shape one_triangle-mesh.sound

in_three : (border edges faces : List ℕ)
    → (is_region_ring inside_triangle.shape border edges faces ≡ true) ↔ IsRegionRing inside_triangle.shape border edges faces
in_three = exact inside_triangle.shape inside_triangle-mesh.sound

pub returns-clause-one : goal.returns-clause-one
unfolding rev from_least gives_up_vertex gives_up_edge gives_up_face least_of up_to face_in next_in prev_in half_of last_put moved past_listed
returns-clause-one c = ((in_one (1 ∷ 3 ∷ 5 ∷ []) [] (1 ∷ [])).0 refl, refl, refl, refl, refl)

pub returns-clause-two : goal.returns-clause-two
unfolding rev from_least gives_up_vertex gives_up_edge gives_up_face least_of up_to face_in next_in prev_in half_of last_put moved past_listed
returns-clause-two c = ((in_three (1 ∷ 11 ∷ 8 ∷ 5 ∷ []) (3 ∷ []) (1 ∷ 2 ∷ [])).0 refl, refl, refl, refl, refl)

pub returns-clause-three : goal.returns-clause-three
unfolding rev from_least gives_up_vertex gives_up_edge gives_up_face least_of up_to face_in next_in prev_in half_of last_put moved past_listed
returns-clause-three c =
    ((in_three (1 ∷ 11 ∷ 10 ∷ 3 ∷ 5 ∷ []) (3 ∷ 4 ∷ []) (1 ∷ 2 ∷ 3 ∷ [])).0 refl, refl, refl, refl, refl, refl, refl, refl, refl)

pub returns-clause-none : goal.returns-clause-none
unfolding rev from_least gives_up_vertex gives_up_edge gives_up_face least_of up_to face_in next_in prev_in half_of last_put moved past_listed
returns-clause-none c = (
  λ ring. false≢true ((in_three (11 ∷ 10 ∷ 3 ∷ 5 ∷ 1 ∷ []) (3 ∷ 4 ∷ []) (1 ∷ 2 ∷ 3 ∷ [])).1 ring),
  λ ring. false≢true ((in_three (1 ∷ 11 ∷ 8 ∷ 5 ∷ []) (3 ∷ []) (1 ∷ 3 ∷ [])).1 ring),
)
