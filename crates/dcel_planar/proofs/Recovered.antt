-- What an insertion leaves, known only to be so: the hull, or the line, is found again by a search.
use Rattle.std.proofs.Common.{◌≡◌, ◌≢◌, ◌⊎◌, inl, inr, ℕ, ◌*◌, ◌/◌, Bool, true, false, List, [], refl, arith, pos, ◌<ℤ◌}
use Rattle.std.proofs.lemmas.Bool.{cases_eq}
use Rattle.std.proofs.lemmas.Int.{by_lt_z}
use Rattle.std.proofs.Props.{props}
use Rattle.std.proofs.Math.Logic.{∥∥₁_elim}
use mathlib.Core.Logic.{∥∥₁_map}
use Rattle.dcel_maps.specs.Shapes.{IsLive, Mesh, Shape, edge_is_live, end_of, face_count, origin_of}
use Rattle.dcel_maps.proofs.walks.Links.{half-below}
use Rattle.dcel_predicates.specs.declared.point.Point.{Point}
use Rattle.dcel_predicates.proofs.Signs.{ordered}
use Rattle.dcel_plane.specs.Plane.{point_at}
use Rattle.dcel_plane.proofs.covering.Numbered.{searched}
use Rattle.dcel_plane.specs.hull.Straight.{IsStraight, dot_of_steps}
use Rattle.dcel_planar.specs.Growing.{HasHull, HasOutside, IsFlat}
use Rattle.dcel_planar.proofs.Whole.{flat_alone, hull_more}

-- a half edge that goes on from h, beyond its end
abbrev LeadsOn : (ℕ → Point) → Shape → ℕ → ℕ → Type 0
LeadsOn at s h g = IsLive s g × (origin_of s g ≡ end_of s h) × (pos 0 <ℤ dot_of_steps (at (origin_of s h)) (at (end_of s h)) (at (end_of s g)))

leads_on_or_not : (at : ℕ → Point) (s : Shape) (h g : ℕ) → LeadsOn at s h g ⊎ (LeadsOn at s h g → ⊥)
leads_on_or_not at s h g = elim (live_or_not s g) [
  | inr dead ↦ inr (λ on. dead on.0)
  | inl live ↦ elim (cases_eq (origin_of s g) (end_of s h)) [
    | inr differs ↦ inr (λ on. differs on.1)
    | inl is ↦
        by_lt_z (pos 0) (dot_of_steps (at (origin_of s h)) (at (end_of s h)) (at (end_of s g))) (λ past. inl (live, is, past))
        (λ not. inr (λ on. let past = on.2 in omega (arith, ordered, past, not)))
  ]
]
  where
    is_or_not : (b : Bool) → (b ≡ true) ⊎ (b ≡ true → ⊥)
    is_or_not true = inl refl
    is_or_not false = inr (λ is. cc)

    live_or_not : (s : Shape) (g : ℕ) → IsLive s g ⊎ (IsLive s g → ⊥)
    live_or_not s g = is_or_not (edge_is_live s (g / 2))

module _ {DE UE F : Type 0} (m : Mesh Point DE UE F) (known : ∥ IsFlat m ⊎ HasHull m ∥₁) where
  hull_again : face_count m.shape ≢ 1 → HasHull m
  hull_again more = ∥∥₁_elim known (hlevel props) (λ either. hull_more m either more)

  straight_again : face_count m.shape ≡ 1 → IsStraight (point_at m) m.shape
  straight_again one = record {
    distinct = λ h k live_h live_k x y. ∥∥₁_elim known (hlevel props) (λ either. (flat_alone m either one).straight.distinct h k live_h live_k x y);
    line = λ h k live_h live_k. ∥∥₁_elim known (hlevel props) (λ either. (flat_alone m either one).straight.line h k live_h live_k);
    between = λ h k live_h live_k. ∥∥₁_elim known (hlevel props) (λ either. (flat_alone m either one).straight.between h k live_h live_k);
    once = λ h k live_h live_k same side. ∥∥₁_elim known (hlevel props) (λ either. (flat_alone m either one).straight.once h k live_h live_k same side);
    onward = λ h k live_h live_k past. elim (searched (LeadsOn (point_at m) m.shape h) (leads_on_or_not (point_at m) m.shape h) (2 * m.shape.edges)) [
      | inl found ↦ (found.0, found.1.0, found.1.1, found.1.2)
      | inr none ↦
          absurd
          (∥∥₁_elim known (hlevel props)
          (λ either.
          let on = (flat_alone m either one).straight.onward h k live_h live_k past in none on.0 (half-below m.shape on.0 on.1) (on.1, on.2, on.3)))
    ];
  }

  pub either_again : IsFlat m ⊎ HasHull m
  either_again = elim (cases_eq (face_count m.shape) 1) [
    | inl one ↦ inl (record { alone = one; straight = straight_again one })
    | inr more ↦ inr (hull_again more)
  ]

module _ {DE UE F : Type 0} where
  -- where nothing is left to be looked at, no hull is to be closed
  pub settled_outlined : (m : Mesh Point DE UE F) (due : List ℕ) → ∥ HasOutside m due ∥₁ → due ≡ [] → IsFlat m ⊎ HasHull m
  settled_outlined m due outlined none =
      either_again m
      (∥∥₁_map outlined
      (λ outside. elim outside [
        | inl flat ↦ inl flat
        | inr more ↦ elim more [
          | inl has ↦ inr has
          | inr (some, stays) ↦ absurd (some none)
        ]
      ]))
