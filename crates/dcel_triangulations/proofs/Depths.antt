-- The depths of triangles: those of all faces, but of the outer one.
use Rattle.std.proofs.Common.{◌≡◌, ◌+◌, ◌-◌, ◌<◌, ◌≤◌, ◌∷◌, [], ℕ, List, Some, add-one, drop, length, take, slice_get, slice_index, sym, subst, arith}
use Rattle.std.proofs.lemmas.List.{length-drop, take_all}
use Rattle.std.proofs.lemmas.Option.{get_or_from_slice_get, slice_get_within}
use Rattle.dcel_constrained.specs.Constrained.{marked_mesh}
use Rattle.dcel_maps.specs.Shapes.{face_count}
use Rattle.dcel_regions.specs.Regions.{IsReached}
use Rattle.dcel_triangulations.specs.constrained.Held.{State}
use Rattle.dcel_triangulations.specs.constrained.Lists.{ListsDepths}

-- all but the first, as a slice has them
pub but_first : (l : List ℕ) → take (length l - 1) (drop 1 l) ≡ drop 1 l
but_first l = take_all (length l - 1) (drop 1 l) (let few = length-drop 1 l in omega (arith, few))

pub lists_depths : (t : State) (numbers : List ℕ) → length numbers ≡ face_count (marked_mesh t).shape → 0 < face_count (marked_mesh t).shape
    → ((f : ℕ) → f < face_count (marked_mesh t).shape → IsReached (marked_mesh t) f (slice_index numbers f))
    → ((f k : ℕ) → IsReached (marked_mesh t) f k → slice_index numbers f ≤ k) → ListsDepths t (drop 1 numbers)
lists_depths t [] count some reached least = absurd (omega (arith, count, some))
lists_depths t (x ∷ rest) count some reached least = record {
  counted = omega (arith, count);
  each = λ i depth at.
      let there : slice_get (x ∷ rest) (i + 1) ≡ Some depth = subst (λ (n : ℕ). slice_get (x ∷ rest) n ≡ Some depth) (sym (add-one i)) at in
      let found : slice_index (x ∷ rest) (i + 1) ≡ depth = get_or_from_slice_get (x ∷ rest) (i + 1) depth 0 there in
      let below = slice_get_within (x ∷ rest) (i + 1) depth there in
      record {
        reached = subst (IsReached (marked_mesh t) (i + 1)) found (reached (i + 1) (omega (arith, below, count)));
        least = λ k way. (let few = least (i + 1) k way in omega (arith, few, found));
      };
}
