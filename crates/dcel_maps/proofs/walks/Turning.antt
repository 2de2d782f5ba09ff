-- The walk by `ccw` from a half edge lists the half edges that start at its vertex.
use Rattle.std.proofs.Common.{ℕ, ◌<◌, inl, inr, List, [], ◌∷◌, Option, Some, None, refl, sym, ◌∙◌, subst, arith}
use Rattle.dcel_maps.specs.Maps.{By, Reaches, ccw}
use Rattle.dcel_maps.specs.Shapes.{Shape, Mesh, AnchorsVertex, IsLive, IsMesh, IsSound, map_of, vertex_anchor}
use Rattle.dcel_maps.specs.Walking.{IsOutEdge, IsRoundTrip, ListsOnce, ccw_of, out_edges_of, walk_from, walk_of}
use Rattle.dcel_maps.specs.theory.Cycles.{Path}
use Rattle.dcel_maps.specs.Words.{count_of}
use Rattle.dcel_maps.proofs.maps.Reaching.{reaches_stays, step}
use Rattle.dcel_maps.proofs.walks.Links.{ccw-lawful}
use Rattle.dcel_maps.proofs.walks.Returning.{step_along}
use Rattle.dcel_maps.proofs.walks.UnderWay.{walk-round}
use Rattle.dcel_maps.proofs.words.Counts.{count-same, first_or_later}

-- what each step keeps holds of each item
holds_along : (step : ℕ → ℕ) (P : ℕ → Type 0) → ((z : ℕ) → P z → P (step z)) → (x : ℕ) (r : List ℕ) (e : ℕ) → Path (By step) x r e → P x
    → (k : ℕ) → 0 < count_of k (x ∷ r) → P k
holds_along step P stays x [] e path first k found = elim (first_or_later k x [] found) [
  | inl same ↦ subst P (sym same) first
  | inr later ↦ absurd (omega (arith, later))
]
holds_along step P stays x (y ∷ r) e path first k found = elim (first_or_later k x (y ∷ r) found) [
  | inl same ↦ subst P (sym same) first
  | inr later ↦ holds_along step P stays y r e path.1 (subst P path.0 (stays x first)) k later
]

module _ {s : Shape} (sound : IsSound s) (v : ℕ) where
  -- turning keeps the vertex
  turned : (h : ℕ) → IsOutEdge s v h → IsOutEdge s v (ccw_of s h)
  unfolding ccw
  turned h out =
      let live : IsLive s (ccw_of s h) = (ccw-lawful sound).stays h out.live in
      let reached : Reaches (By (ccw (map_of s))) h (ccw_of s h) = step refl in
      record { live = live; start = sym ((sound.one_origin h (ccw_of s h) out.live live).1 reached) ∙ out.start }

  module _ (h : ℕ) (out : IsOutEdge s v h) where
    trip : IsRoundTrip (ccw_of s) h (walk_of s (ccw_of s) h)
    trip = walk-round (ccw-lawful sound) h out.live

    next_in_walk : (k : ℕ) → 0 < count_of k (walk_of s (ccw_of s) h) → 0 < count_of (ccw_of s k) (walk_of s (ccw_of s) h)
    next_in_walk k found = rw trip.from (elim (step_along (ccw_of s) h trip.rest h trip.round k (rw trip.from at found)) [
      | inl back ↦ rw back (omega (arith, count-same h trip.rest))
      | inr on ↦ omega (arith, on)
    ])

    in_walk : (k : ℕ) → IsOutEdge s v k → 0 < count_of k (walk_of s (ccw_of s) h)
    unfolding ccw
    in_walk k other =
        let reached : Reaches (By (ccw (map_of s))) h k = (sound.one_origin h k out.live other.live).0 (out.start ∙ sym other.start) in
        reaches_stays (By (ccw (map_of s))) (λ z. 0 < count_of z (walk_of s (ccw_of s) h))
        (λ x y found turn. subst (λ z. 0 < count_of z (walk_of s (ccw_of s) h)) turn (next_in_walk x found))
        (rw trip.from (omega (arith, count-same h trip.rest))) reached

    pub walk-out_edges : ListsOnce (IsOutEdge s v) (walk_of s (ccw_of s) h)
    walk-out_edges = record {
      each = λ k other. omega (arith, in_walk k other, trip.once k);
      no_other = λ k found. holds_along (ccw_of s) (IsOutEdge s v) turned h trip.rest h trip.round out k (rw trip.from at found);
    }

  -- the walk from the anchor, where there is one
  anchor-out_edges : (anchor : Option ℕ) → AnchorsVertex s v anchor → ListsOnce (IsOutEdge s v) (walk_from s (ccw_of s) anchor)
  anchor-out_edges None bare = record {
    each = λ k other. absurd (bare k other.live other.start);
    no_other = λ k found. absurd (omega arith);
  }
  anchor-out_edges (Some h) anchored = walk-out_edges h (record { live = anchored.0; start = anchored.1 })

-- the out edges of a vertex are the live half edges that start there
pub mesh-out_edges : {V DE UE F : Type 0} {m : Mesh V DE UE F} → IsMesh m → (v : ℕ) → v < m.shape.vertices
    → ListsOnce (IsOutEdge m.shape v) (out_edges_of m v)
mesh-out_edges {m = m} mesh v below = anchor-out_edges mesh.sound v (vertex_anchor m v) (mesh.anchored.vertices v below)
