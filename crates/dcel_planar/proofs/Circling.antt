-- A run of flips around a new vertex: what it keeps, and that it ends.
use Rattle.std.proofs.Common.{◌≡◌, ◌∙◌, inl, inr, ℕ, ◌+◌, ◌-◌, ◌*◌, ◌<◌, List, [], ◌∷◌, ◌++◌, length, take, slice_get, slice_index_or, Some, ap, refl, sym, subst}
use Rattle.std.proofs.lemmas.Bool.{cases_eq}
use Rattle.std.proofs.lemmas.List.{length-append}
use Rattle.dcel_maps.specs.Conditions.{CanFlip}
use Rattle.dcel_maps.specs.edits.Flip.{edge_flipped}
use Rattle.dcel_maps.specs.Shapes.{IsMesh, Mesh, origin_of, prev_of}
use Rattle.dcel_maps.proofs.edits.Flips.{flipped_mesh}
use Rattle.dcel_maps.proofs.words.Counts.{last_or_before}
use Rattle.dcel_predicates.specs.declared.point.Point.{Point}
use Rattle.dcel_plane.specs.Plane.{IsCircled, IsInner, ListsCircled, point_at}
use Rattle.dcel_plane.specs.Volume.{volume_below}
use Rattle.dcel_plane.specs.star.Star.{HasEmptyCirclesBut, IsLinkEdge, edges_beside}
use Rattle.dcel_plane.proofs.edits.Flipped.{circled_can_flip, flip_plane}
use Rattle.dcel_plane.proofs.edits.Volumes.{volume_falls}
use Rattle.dcel_plane.proofs.star.Due.{lists_from_far, lists_from_near}
use Rattle.dcel_plane.proofs.star.Flip.{star_flipped}
use Rattle.dcel_plane.proofs.star.Spokes.{in_link}
use Rattle.dcel_planar.specs.Growing.{IsTriangleMesh}
use Rattle.dcel_planar.specs.Leaving.{IsOutlined}
use Rattle.dcel_planar.specs.Turning.{IsTurnedTo}
use Rattle.dcel_planar.proofs.Flat.{flips_flat}
use Rattle.dcel_planar.proofs.Hull.{flips_hull}
use Rattle.dcel_planar.proofs.Settling.{flips_triangulated}
use Rattle.dcel_planar.proofs.Turned.{popped, turned_more, unturned}

-- what `pop` leaves of a list that `reserve` left as it was
pub popped_then : (l reserved front : List ℕ) (k u : ℕ) → reserved ≡ l → k ≡ length l → front ≡ take (k - 1) reserved → slice_get l (length l - 1) ≡ Some u → l ≡ front ++ u ∷ []
popped_then l reserved front k u same many rest at = popped l front k u many (rest ∙ ap (take (k - 1)) same) at

-- a list is one longer than what stands before its last item
pub one_longer : (l front : List ℕ) (u : ℕ) → l ≡ front ++ u ∷ [] → length l ≡ length front + 1
one_longer l front u is = ap length is ∙ length-append front (u ∷ [])

module _ {DE UE F : Type 0} where
  -- the edges beyond the edge u, as the vertex v sees them that is across from it on one side
  pub record AreBeyond (n : Mesh Point DE UE F) (u v : ℕ) (sides : List ℕ) : Type 0 where
    pub near : origin_of n.shape (prev_of n.shape (2 * u)) ≡ v → sides ≡ edges_beside n.shape (2 * u + 1)
    pub far : ¬ (origin_of n.shape (prev_of n.shape (2 * u)) ≡ v) → sides ≡ edges_beside n.shape (2 * u)

  -- the two edges of such a list, read one at a time
  pub both_beyond : (n : Mesh Point DE UE F) (u v : ℕ) (sides : List ℕ) (i j : ℕ)
      → (origin_of n.shape (prev_of n.shape (2 * u)) ≡ v → sides ≡ edges_beside n.shape (2 * u + 1))
      → (¬ (origin_of n.shape (prev_of n.shape (2 * u)) ≡ v) → sides ≡ edges_beside n.shape (2 * u))
      → AreBeyond n u v (slice_index_or sides 0 i ∷ slice_index_or sides 1 j ∷ [])
  both_beyond n u v sides i j near far = record {
    near = λ is. ap (λ (l : List ℕ). slice_index_or l 0 i ∷ slice_index_or l 1 j ∷ []) (near is);
    far = λ not. ap (λ (l : List ℕ). slice_index_or l 0 i ∷ slice_index_or l 1 j ∷ []) (far not);
  }

  -- what is kept of the mesh m and the list that a run around v began with
  pub record IsCircling (v : ℕ) (m : Mesh Point DE UE F) (list : List ℕ) (n : Mesh Point DE UE F) (rest : List ℕ) : Type 0 where
    pub mesh : IsMesh n
    pub triangulated : IsTriangleMesh n
    pub turned : IsTurnedTo m n
    pub empty : HasEmptyCirclesBut (point_at n) n.shape v
    pub lists : ListsCircled (point_at m) m.shape list → ListsCircled (point_at n) n.shape rest

  pub begins : (v : ℕ) (m : Mesh Point DE UE F) (list : List ℕ) → IsMesh m → IsTriangleMesh m → HasEmptyCirclesBut (point_at m) m.shape v → IsCircling v m list m list
  begins v m list mesh triangulated empty = record { mesh = mesh; triangulated = triangulated; turned = unturned m; empty = empty; lists = λ lists. lists }

  -- flips leave a line or a hull
  pub outlined_after : (m n : Mesh Point DE UE F) → IsMesh m → IsTurnedTo m n → IsOutlined m → IsOutlined n
  outlined_after m n mesh turned (inl flat) = inl (flips_flat m n turned flat)
  outlined_after m n mesh turned (inr has) = inr (flips_hull m n mesh turned has)

  module _ (v : ℕ) (m : Mesh Point DE UE F) (list : List ℕ) (n : Mesh Point DE UE F) (rest front : List ℕ) (u : ℕ) (is : rest ≡ front ++ u ∷ [])
      (way : IsCircling v m list n rest) where
    listed : ListsCircled (point_at m) m.shape list → ListsCircled (point_at n) n.shape (front ++ u ∷ [])
    listed lists = subst (λ (l : List ℕ). ListsCircled (point_at n) n.shape l) is (way.lists lists)

    -- an edge that isn't circled is taken off
    pub passes_by : ¬ (IsInner n.shape u × IsCircled (point_at n) n.shape u) → IsCircling v m list n front
    passes_by not = record {
      mesh = way.mesh;
      triangulated = way.triangulated;
      turned = way.turned;
      empty = way.empty;
      lists = λ lists w inner circled. elim (last_or_before w u front (listed lists w inner circled)) [
        | inl same ↦ absurd (not (subst (λ (k : ℕ). IsInner n.shape k × IsCircled (point_at n) n.shape k) same (inner, circled)))
        | inr there ↦ there
      ];
    }

    module _ (inner : IsInner n.shape u) (circled : IsCircled (point_at n) n.shape u) where
      can : CanFlip n.shape u
      can = circled_can_flip n way.mesh u (point_at n) inner circled

      link : IsLinkEdge n.shape v u
      link = in_link n way.mesh u v (point_at n) inner way.triangulated.plane way.empty circled

      lists_then : (sides : List ℕ) → AreBeyond n u v sides → ListsCircled (point_at m) m.shape list
          → ListsCircled (point_at n) (edge_flipped n u).shape (front ++ sides)
      lists_then sides beyond lists = elim (cases_eq (origin_of n.shape (prev_of n.shape (2 * u))) v) [
        | inl near ↦
            subst (λ (l : List ℕ). ListsCircled (point_at n) (edge_flipped n u).shape (front ++ l)) (sym (beyond.near near))
            (lists_from_near n way.mesh u v (point_at n) inner way.triangulated.plane way.empty circled front (listed lists) near)
        | inr not_near ↦
            subst (λ (l : List ℕ). ListsCircled (point_at n) (edge_flipped n u).shape (front ++ l)) (sym (beyond.far not_near))
            (lists_from_far n way.mesh u v (point_at n) inner way.triangulated.plane way.empty circled front (listed lists)
            (elim link [ inl near ↦ absurd (not_near near) | inr far ↦ far ]))
      ]

      -- one that is is flipped
      pub turns_by : (sides : List ℕ) → AreBeyond n u v sides → IsCircling v m list (edge_flipped n u) (front ++ sides)
      turns_by sides beyond = record {
        mesh = flipped_mesh n u way.mesh can;
        triangulated =
            flips_triangulated n (edge_flipped n u) way.triangulated record { turned = u ∷ []; circled = ((inner, circled), tt); is = refl }
            (flip_plane n way.mesh u can (point_at n) inner.inner inner.inner_facing circled way.triangulated.plane);
        turned = turned_more m n u way.turned inner circled;
        empty = star_flipped n way.mesh u v (point_at n) inner way.triangulated.plane way.empty circled;
        lists = lists_then sides beyond;
      }

      pub falls_by : (after : Mesh Point DE UE F) → after ≡ edge_flipped n u → volume_below (point_at after) after.shape < volume_below (point_at n) n.shape
      falls_by after edit =
          subst (λ (k : Mesh Point DE UE F). volume_below (point_at k) k.shape < volume_below (point_at n) n.shape) (sym edit)
          (volume_falls n way.mesh u can (point_at n) inner.inner inner.inner_facing circled way.triangulated.plane)
