-- Which edges may be circled: those of the link, and none of the vertex.
use Rattle.std.proofs.Common.{◌≡◌, ◌≢◌, inl, inr, ℕ, ◌+◌, ◌*◌, refl, sym, ap, ◌∙◌}
use Rattle.std.proofs.lemmas.Bool.{cases_eq}
use Rattle.dcel_predicates.specs.declared.point.Point.{Point}
use Rattle.dcel_predicates.proofs.Convex.{AreFlipped}
use Rattle.dcel_plane.proofs.star.Pencils.{positive_is}
use Rattle.dcel_predicates.proofs.Points.{incircle-turned, orient2d-turned}
use Rattle.dcel_maps.specs.Conditions.{CanFlip}
use Rattle.dcel_maps.specs.Shapes.{IsLive, IsMesh, Mesh, Shape, next_of, origin_of, prev_of}
use Rattle.dcel_maps.proofs.edits.Around.{at_edge}
use Rattle.dcel_maps.proofs.edits.Flips.{at_flip}
use Rattle.dcel_plane.specs.Plane.{IsCircled, IsInner, TrianglesTurnLeft}
use Rattle.dcel_plane.proofs.edits.Flipped.{circled_can_flip, from_end, from_start, new_corners}
use Rattle.dcel_plane.specs.star.Star.{IsLinkEdge, IsEmptyAt, IsEmptyRound, IsSpoke, HasEmptyCirclesBut}
use Rattle.dcel_plane.proofs.star.Turning.{at_triangle, empty_are, round_turned}

module _ {V DE UE F : Type 0} (m : Mesh V DE UE F) (mesh : IsMesh m) (u v : ℕ) (at : ℕ → Point) (inner : IsInner m.shape u) (plane : TrianglesTurnLeft at m.shape)
    (star : HasEmptyCirclesBut at m.shape v) (circled : IsCircled at m.shape u) where
  abbrev s : Shape
  s = m.shape

  open (at_edge s u) use {e, t, f, g, ep, en, tp, tn}

  pub can : CanFlip s u
  can = circled_can_flip m mesh u at inner circled

  open (at_flip m u mesh can) use {was, facing}

  abbrev pub start : ℕ
  start = origin_of m.shape (2 * u)

  abbrev pub end : ℕ
  end = origin_of m.shape (2 * u + 1)

  abbrev pub near : ℕ
  near = origin_of m.shape (prev_of m.shape (2 * u))

  abbrev pub far : ℕ
  far = origin_of m.shape (prev_of m.shape (2 * u + 1))

  abbrev E : ℕ → ℕ → ℕ → Type 0
  E a b c = IsEmptyAt at m.shape v a b c

  pub at_end : origin_of s en ≡ end
  at_end = from_end m mesh u can

  pub at_start : origin_of s tn ≡ start
  at_start = from_start m mesh u can

  -- the sides of both triangles
  pub near_empty : E start end near × E end near start × E near start end
  near_empty =
      let round = at_triangle s (IsEmptyRound at s v) (round_turned at s v) mesh.sound star.empty f e en ep inner.inner was in
      (empty_are at s v refl at_end refl round.0, empty_are at s v at_end refl refl round.1, empty_are at s v refl refl at_end round.2)

  pub far_empty : E end start far × E start far end × E far end start
  far_empty =
      let round = at_triangle s (IsEmptyRound at s v) (round_turned at s v) mesh.sound star.empty g t tn tp inner.inner_facing facing in
      (empty_are at s v refl at_start refl round.0, empty_are at s v at_start refl refl round.1, empty_are at s v refl refl at_start round.2)

  pub new : AreFlipped (at start) (at end) (at near) (at far)
  new = new_corners m mesh u can at plane inner.inner inner.inner_facing circled

  far_live : IsLive s tp
  far_live = facing.live_z

  by_end : end ≢ v → near ≢ v → far ≢ v → ⊥
  by_end not_end not_near not_far =
      near_empty.1 not_end not_near tp far_live not_far (positive_is (orient2d-turned (at end) (at near) (at far)) new.first)
      (positive_is (sym (incircle-turned (at start) (at end) (at near) (at far))) circled)

  by_start : start ≢ v → near ≢ v → far ≢ v → ⊥
  by_start not_start not_near not_far =
      near_empty.2 not_near not_start tp far_live not_far (positive_is (sym (orient2d-turned (at far) (at near) (at start))) new.second)
      (positive_is (sym (incircle-turned (at end) (at near) (at start) (at far) ∙ incircle-turned (at start) (at end) (at near) (at far))) circled)

  -- half edges end at another vertex
  pub apart : (x y : ℕ) → IsLive s x → next_of s x ≡ y → origin_of s x ≢ origin_of s y
  apart x y live next is = mesh.sound.two_ends x live (is ∙ ap (origin_of s) (sym next) ∙ mesh.sound.joined x live)

  ends_apart : start ≢ end
  ends_apart is = apart e en was.live_x was.next_x (is ∙ sym at_end)

  pub no_spoke : IsSpoke s v u → ⊥
  no_spoke (inl from) =
      by_end (λ is. ends_apart (from ∙ sym is)) (λ is. apart ep e was.live_z was.next_z (is ∙ sym from))
      (λ is. apart tn tp facing.live_y facing.next_y (at_start ∙ from ∙ sym is))
  no_spoke (inr from) =
      by_start (λ is. ends_apart (is ∙ sym from)) (λ is. apart en ep was.live_y was.next_y (at_end ∙ from ∙ sym is))
      (λ is. apart tp t facing.live_z facing.next_z (is ∙ sym from))

  pub in_link : IsLinkEdge s v u
  in_link = elim (cases_eq near v) [
    | inl is ↦ inl is
    | inr not_near ↦ elim (cases_eq far v) [
      | inl is ↦ inr is
      | inr not_far ↦ elim (cases_eq end v) [
        | inl is ↦ absurd (no_spoke (inr is))
        | inr not_end ↦ absurd (by_end not_end not_near not_far)
      ]
    ]
  ]
