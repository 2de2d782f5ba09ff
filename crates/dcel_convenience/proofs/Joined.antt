-- Whether an edge joins two vertices, seen from either; and the link condition, from the half edges out of the start.
use Rattle.std.proofs.Common.{◌≡◌, ◌≢◌, ◌∙◌, inl, inr, ℕ, refl, ap, subst}
use Rattle.std.proofs.lemmas.Bool.{cases_eq}
use Rattle.dcel_convenience.specs.Collapsing.{AreJoinedBesides, MeetsLinkCondition, corner_of}
use Rattle.dcel_convenience.specs.Simple.{AreJoined}
use Rattle.dcel_fixed.proofs.Halves.{rev-half, rev-rev}
use Rattle.dcel_fixed.specs.HalfEdges.{rev}
use Rattle.dcel_maps.specs.Shapes.{Shape, edge_is_live, end_of, origin_of}
use Rattle.dcel_maps.specs.Walking.{IsOutEdge}

module _ (s : Shape) (v w : ℕ) where
  pub joined_here : (k : ℕ) → IsOutEdge s v k → end_of s k ≡ w → AreJoined s v w
  joined_here k out end = (k, record { live = out.live; start = out.start; end = end })

  pub joined_there : (k : ℕ) → IsOutEdge s w k → end_of s k ≡ v → AreJoined s v w
  joined_there k out end = (
    rev k,
    record {
      live = ap (edge_is_live s) (rev-half k) ∙ out.live;
      start = end;
      end = ap (origin_of s) (rev-rev k) ∙ out.start;
    },
  )

  pub apart_here : ((k : ℕ) → IsOutEdge s v k → end_of s k ≢ w) → ¬ AreJoined s v w
  apart_here each (k, leads) = each k (record { live = leads.live; start = leads.start }) leads.end

  pub apart_there : ((k : ℕ) → IsOutEdge s w k → end_of s k ≢ v) → ¬ AreJoined s v w
  apart_there each (k, leads) =
      each (rev k) (record { live = ap (edge_is_live s) (rev-half k) ∙ leads.live; start = leads.end }) (ap (origin_of s) (rev-rev k) ∙ leads.start)

module _ (s : Shape) (h : ℕ) where
  -- of the half edges out of the start, k leads to no further neighbor of the end
  abbrev pub LeadsToNoThird : ℕ → Type 0
  LeadsToNoThird k = ¬ AreJoinedBesides s (end_of s h) (end_of s k) (corner_of s h) (corner_of s (rev h))

  pub link_holds : ((k : ℕ) → IsOutEdge s (origin_of s h) k → LeadsToNoThird k) → MeetsLinkCondition s h
  link_holds each x (k, leads) joined =
      let no : ¬ AreJoinedBesides s (end_of s h) x (corner_of s h) (corner_of s (rev h)) =
      subst (λ (y : ℕ). ¬ AreJoinedBesides s (end_of s h) y (corner_of s h) (corner_of s (rev h))) leads.end
      (each k (record { live = leads.live; start = leads.start })) in
      elim (cases_eq x (corner_of s h)) [
        | inl near ↦ inl near
        | inr off ↦ elim (cases_eq x (corner_of s (rev h))) [
          | inl far ↦ inr far
          | inr off_too ↦ absurd (no (joined, off, off_too))
        ]
      ]

  pub link_each : MeetsLinkCondition s h → (k : ℕ) → IsOutEdge s (origin_of s h) k → LeadsToNoThird k
  link_each meets k out besides =
      elim (meets (end_of s k) (joined_here s (origin_of s h) (end_of s k) k out refl) besides.0) [
        | inl near ↦ besides.1 near
        | inr far ↦ besides.2 far
      ]
