-- On a straight line two half edges at most lead out of a vertex.
use Rattle.std.proofs.Common.{◌≡◌, ◌⊎◌, inl, inr, ℕ, sym, ap, ◌∙◌, ℤ, pos, ◌<ℤ◌, arith}
use Rattle.std.proofs.lemmas.Int.{by_lt_z}
use Rattle.dcel_fixed.specs.HalfEdges.{rev}
use Rattle.dcel_fixed.proofs.Halves.{rev-rev}
use Rattle.dcel_predicates.specs.declared.point.Point.{Point}
use Rattle.dcel_predicates.proofs.Signs.{ordered}
use Rattle.dcel_maps.specs.Degenerate.{HasFewOutEdges}
use Rattle.dcel_maps.specs.Shapes.{IsMesh, Mesh, Shape, end_of, map_of, next_of, origin_of, prev_of}
use Rattle.dcel_maps.specs.Walking.{IsOutEdge, ccw_of}
use Rattle.dcel_maps.proofs.maps.Soundness.{rev_live}
use Rattle.dcel_maps.proofs.removal.Paths.{few_iff, turned_pair}
use Rattle.dcel_maps.proofs.shapes.Maps.{map-sound}
use Rattle.dcel_plane.proofs.covering.Along.{long}
use Rattle.dcel_plane.specs.hull.Straight.{IsStraight}
use Rattle.dcel_plane.proofs.hull.OneLine.{InOrder, order_of}
use Rattle.dcel_plane.specs.covering.Covering.{dot}

module _ {V DE UE F : Type 0} (m : Mesh V DE UE F) (mesh : IsMesh m) (at : ℕ → Point) (straight : IsStraight at m.shape) (v a : ℕ) (out : IsOutEdge m.shape v a) where
  abbrev s : Shape
  s = m.shape

  -- the line through the ends of a
  abbrev from : Point
  from = at (origin_of m.shape a)

  abbrev to : Point
  to = at (end_of m.shape a)

  abbrev d : ℕ → ℤ
  d w = dot (at w) (at (end_of m.shape a)) (at (origin_of m.shape a))

  far : pos 0 <ℤ dot to to from
  far =
      long to from (λ ex ey. mesh.sound.two_ends a out.live (straight.distinct a (rev a) out.live (rev_live (map_of s) a out.live) (sym ex) (sym ey)))

  order : InOrder (λ w. dot (at w) (at (end_of m.shape a)) (at (origin_of m.shape a))) m.shape
  order = order_of s at from to far (λ x live. rev_live (map_of s) x live) (λ k live. straight.line a k out.live live) straight

  ways : (x : ℕ) → IsOutEdge s v x → (d (origin_of s x) <ℤ d (end_of s x)) ⊎ (d (end_of s x) <ℤ d (origin_of s x))
  ways x o =
      by_lt_z (d (origin_of s x)) (d (end_of s x)) (λ up. inl up)
      (λ not. by_lt_z (d (end_of s x)) (d (origin_of s x)) (λ down. inr down)
      (λ nor. absurd
      (mesh.sound.two_ends x o.live (order.distinct x (rev x) o.live (rev_live (map_of s) x o.live) (omega (arith, ordered, not, nor))))))

  both_up : (x y : ℕ) → IsOutEdge s v x → IsOutEdge s v y → d (origin_of s x) <ℤ d (end_of s x) → d (origin_of s y) <ℤ d (end_of s y) → x ≡ y
  both_up x y one two up_x up_y = order.once_up x y one.live two.live (one.start ∙ sym two.start) up_x up_y

  both_down : (x y : ℕ) → IsOutEdge s v x → IsOutEdge s v y → d (end_of s x) <ℤ d (origin_of s x) → d (end_of s y) <ℤ d (origin_of s y) → x ≡ y
  both_down x y one two down_x down_y = order.once_down x y one.live two.live (one.start ∙ sym two.start) down_x down_y

  abbrev b : ℕ
  b = ccw_of m.shape a

  abbrev c : ℕ
  c = ccw_of m.shape (ccw_of m.shape a)

  out_b : IsOutEdge s v b
  out_b = turned_pair s mesh.sound v a out a out

  out_c : IsOutEdge s v c
  out_c = turned_pair s mesh.sound v a out b out_b

  same_ab : a ≡ b → ccw_of s (ccw_of s a) ≡ a
  same_ab is = ap (ccw_of s) (sym is) ∙ sym is

  same_bc : b ≡ c → ccw_of s (ccw_of s a) ≡ a
  same_bc is =
      let back : prev_of s a ≡ prev_of s b = sym (rev-rev (prev_of s a)) ∙ ap rev is ∙ rev-rev (prev_of s b) in
      same_ab (sym ((map-sound mesh.sound).next-prev a out.live) ∙ ap (next_of s) back ∙ (map-sound mesh.sound).next-prev b out_b.live)

  returns : ccw_of s (ccw_of s a) ≡ a
  returns = elim (ways a out) [
    | inl up_a ↦ elim (ways b out_b) [
      | inl up_b ↦ same_ab (both_up a b out out_b up_a up_b)
      | inr down_b ↦ elim (ways c out_c) [
        | inl up_c ↦ sym (both_up a c out out_c up_a up_c)
        | inr down_c ↦ same_bc (both_down b c out_b out_c down_b down_c)
      ]
    ]
    | inr down_a ↦ elim (ways b out_b) [
      | inr down_b ↦ same_ab (both_down a b out out_b down_a down_b)
      | inl up_b ↦ elim (ways c out_c) [
        | inl up_c ↦ same_bc (both_up b c out_b out_c up_b up_c)
        | inr down_c ↦ sym (both_down a c out out_c down_a down_c)
      ]
    ]
  ]

  pub line_few : HasFewOutEdges m.shape v
  line_few = (few_iff s mesh.sound v a out).0 returns
