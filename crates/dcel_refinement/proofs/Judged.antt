-- Faces to be refined, by their depths.
use Rattle.std.proofs.Common.{◌≡◌, ℕ, ◌+◌, ◌*◌, ◌/◌, ◌<◌, List, length, slice_index, Some, arith, subst, ap, ◌∙◌}
use Rattle.std.proofs.lemmas.Option.{get_or_from_slice_get, slice_get-get_or, slice_get_within}
use Rattle.dcel_predicates.specs.declared.point.Point.{Point}
use Rattle.dcel_maps.proofs.Liveness.{is_live-parts}
use Rattle.dcel_maps.specs.Removals.{gives_up_edge}
use Rattle.dcel_maps.specs.Shapes.{IsLive, IsMesh, Mesh, Shape, face_count}
use Rattle.dcel_regions.proofs.Reached.{reached_within}
use Rattle.dcel_regions.specs.Regions.{IsReached}
use Rattle.dcel_regions.specs.declared.mark.Mark.{Mark}
use Rattle.dcel_refinement.specs.Quality.{IsInside}
use Rattle.dcel_refinement.specs.Refined.{AreDepths, HasOdd}

module _ {DE F : Type 0} (m : Mesh Point DE Mark F) (mesh : IsMesh m) (numbers : List ℕ) (depths : AreDepths m numbers) (f : ℕ) where
  pub odd_inside : HasOdd numbers f → IsInside m f
  odd_inside odd =
      let within : f < length numbers = slice_get_within numbers f (2 * odd.0 + 1) odd.1 in
      let number : slice_index numbers f ≡ 2 * odd.0 + 1 = get_or_from_slice_get numbers f (2 * odd.0 + 1) 0 odd.1 in
      record {
        half = odd.0;
        reached = subst (IsReached m f) number (depths.reached f (omega (arith, within, depths.count)));
        least = λ k way. (let less = depths.least f k way in omega (arith, less, number));
      }

  pub inside_odd : IsInside m f → HasOdd numbers f
  inside_odd inside =
      let within : f < face_count m.shape = reached_within m mesh f (2 * inside.half + 1) inside.reached in
      let less = depths.least f (2 * inside.half + 1) inside.reached in
      let more = inside.least (slice_index numbers f) (depths.reached f within) in
      let number : slice_index numbers f ≡ 2 * inside.half + 1 = omega (arith, less, more) in
      (inside.half, slice_get-get_or numbers f 0 (omega (arith, within, depths.count)) ∙ ap Some number)

-- a live half edge has a number below twice that of the edges
pub live_below : (s : Shape) (h : ℕ) → IsLive s h → h < 2 * s.edges
live_below s h live = let below = (is_live-parts (gives_up_edge s.removal) s.edges (h / 2) live).0 in omega (arith, below)
