-- Round a vertex the triangles leave out no direction in which there is a place that no outer half edge has on its left.
use Rattle.std.proofs.Common.{◌≡◌, inl, inr, ℕ, ◌*◌, ◌<◌, [], ◌∷◌, refl, sym, ap, ◌∙◌, subst, ℤ, pos, ◌+ℤ◌, ◌*ℤ◌, ◌<ℤ◌, ◌≤ℤ◌, eq-zero-or-pos, arith}
use Rattle.std.proofs.lemmas.Int.{by_lt_z}
use Rattle.dcel_fixed.specs.HalfEdges.{rev}
use Rattle.dcel_fixed.proofs.Halves.{rev-rev}
use Rattle.dcel_predicates.specs.declared.point.Point.{Point}
use Rattle.dcel_predicates.specs.Determinants.{orient2d_of}
use Rattle.dcel_predicates.proofs.Ring.{by_terms, plus, times as by}
use Rattle.dcel_predicates.proofs.Signs.{both_negative, ordered, times_positive}
use Rattle.dcel_predicates.proofs.Terms.{orient, orient_in, place, spot}
use Rattle.dcel_maps.specs.Shapes.{IsLive, IsMesh, Mesh, Shape, face_of, map_of, next_of, origin_of, prev_of}
use Rattle.dcel_maps.specs.Triangulations.{AllTriangles}
use Rattle.dcel_maps.specs.theory.Sound.{Sound}
use Rattle.dcel_maps.proofs.maps.Soundness.{rev_live}
use Rattle.dcel_maps.proofs.shapes.Maps.{map-sound}
use Rattle.dcel_maps.proofs.walks.Links.{half-below}
use Rattle.dcel_plane.specs.Plane.{TrianglesTurnLeft}
use Rattle.dcel_plane.specs.covering.Places.{Place, orient_at}
use Rattle.dcel_plane.proofs.covering.Climbing.{climb}
use Rattle.dcel_plane.proofs.covering.Inside.{on_start, other_way}
use Rattle.dcel_plane.proofs.covering.Products.{positive_factor, times_below}
use Rattle.dcel_plane.proofs.covering.Triangles.{left_at, round}

module _ (a x y z : Point) (r : Place) where
  fan : orient2d_of a z x *ℤ orient_at a y r ≡ (orient2d_of a z y *ℤ orient_at a x r) +ℤ (orient2d_of a y x *ℤ orient_at a z r)
  fan =
      by_terms (a.x ∷ a.y ∷ x.x ∷ x.y ∷ y.x ∷ y.y ∷ z.x ∷ z.y ∷ r.x ∷ r.y ∷ r.w ∷ [])
      (by (orient (spot 0) (spot 3) (spot 1)) (orient_in (spot 0) (spot 2) (place 8)))
      (plus (by (orient (spot 0) (spot 3) (spot 2)) (orient_in (spot 0) (spot 1) (place 8))) (by (orient (spot 0) (spot 2) (spot 1)) (orient_in (spot 0) (spot 3) (place 8)))) refl

  -- on one side of the line to the place, directions are ordered
  on_right : orient_at a x r <ℤ pos 0 → orient_at a y r <ℤ pos 0 → orient_at a z r <ℤ pos 0 → pos 0 <ℤ orient2d_of a y x → pos 0 <ℤ orient2d_of a z y → pos 0 <ℤ orient2d_of a z x
  on_right rx ry rz yx zy =
      let k = times_below (orient2d_of a z y) (orient_at a x r) zy rx in
      let l = times_below (orient2d_of a y x) (orient_at a z r) yx rz in
      let e = fan in
      by_lt_z (pos 0) (orient2d_of a z x) (λ is. is) (λ not. absurd (not_below (orient2d_of a z x) (orient_at a y r) not ry (omega (arith, ordered, e, k, l))))
    where
      not_below : (u v : ℤ) → u ≤ℤ pos 0 → v <ℤ pos 0 → (u *ℤ v) <ℤ pos 0 → ⊥
      not_below u v hu hv less = let t = both_negative u v hu (omega (arith, ordered, hv)) in omega (arith, ordered, t, less)

  on_left : pos 0 <ℤ orient_at a x r → pos 0 <ℤ orient_at a y r → pos 0 <ℤ orient_at a z r → pos 0 <ℤ orient2d_of a y x → pos 0 <ℤ orient2d_of a z y → pos 0 <ℤ orient2d_of a z x
  on_left rx ry rz yx zy =
      let k = times_positive (orient2d_of a z y) (orient_at a x r) zy rx in
      let l = times_positive (orient2d_of a y x) (orient_at a z r) yx rz in
      let e = fan in
      positive_factor (orient2d_of a z x) (orient_at a y r) ry (omega (arith, ordered, e, k, l))

module _ {V DE UE F : Type 0} (m : Mesh V DE UE F) (mesh : IsMesh m) (triangles : AllTriangles m.shape) (at : ℕ → Point) (plane : TrianglesTurnLeft at m.shape) (r : Place)
    (right : (h : ℕ) → IsLive m.shape h → face_of m.shape h ≡ 0 → orient_at (at (origin_of m.shape h)) (at (origin_of m.shape (rev h))) r ≤ℤ pos 0) (v : ℕ) where
  abbrev s : Shape
  s = m.shape

  abbrev p : ℕ → Point
  p h = at (origin_of s h)

  abbrev a : Point
  a = at v

  abbrev e : ℕ → Point
  e h = p (rev h)

  -- an inner half edge from the vertex
  pub record Spoke (x : ℕ) : Type 0 where
    pub live : IsLive s x
    pub inner : 0 < face_of s x
    pub from : origin_of s x ≡ v

  sound : Sound (map_of s)
  sound = map-sound mesh.sound

  -- the place lies between the two sides of its triangle there
  abbrev pub IsWithin : ℕ → Type 0
  IsWithin x = (pos 0 ≤ℤ orient_at (p x) (p (next_of s x)) r) × (pos 0 ≤ℤ orient_at (p (prev_of s x)) (p x) r)

  turn_at : (x : ℕ) → Spoke x → pos 0 <ℤ orient2d_of a (e x) (p (prev_of s x))
  turn_at x spoke =
      subst (λ (q : Point). pos 0 <ℤ orient2d_of q (e x) (p (prev_of s x))) (ap at spoke.from)
      (subst (λ (q : Point). pos 0 <ℤ orient2d_of (p x) q (p (prev_of s x))) (ap at (mesh.sound.joined x spoke.live)) (left_at m mesh triangles at plane x spoke.live spoke.inner))

  module _ (none : (x : ℕ) → Spoke x → IsWithin x → ⊥) where
    -- by the two sides: left of the first one, it is left of the second one from the vertex too
    left_of_both : (x : ℕ) → Spoke x → pos 0 ≤ℤ orient_at a (e x) r → pos 0 <ℤ orient_at a (p (prev_of s x)) r
    left_of_both x spoke left =
        let b = p (prev_of s x) in
        by_lt_z (orient_at b a r) (pos 0) (λ less. let o = other_way a b r in omega (arith, ordered, o, less))
        (λ not. absurd (none x spoke (
          subst (λ (q : Point). pos 0 ≤ℤ orient_at q (p (next_of s x)) r) (sym (ap at spoke.from))
              (subst (λ (q : Point). pos 0 ≤ℤ orient_at a q r) (sym (ap at (mesh.sound.joined x spoke.live))) left),
          subst (λ (q : Point). pos 0 ≤ℤ orient_at b q r) (sym (ap at spoke.from)) not,
        )))

    -- the next one clockwise
    record OnRight (x : ℕ) : Type 0 where
      spoke : Spoke x
      below : orient_at a (e x) r <ℤ pos 0

    clockwise : (x : ℕ) → OnRight x → (y : ℕ) × OnRight y × (pos 0 <ℤ orient2d_of a (e y) (e x))
    clockwise x is =
        let t = rev x in
        let live_t = rev_live (map_of s) x is.spoke.live in
        let back : p (rev t) ≡ a = ap (λ i. p i) (rev-rev x) ∙ ap at is.spoke.from in
        elim (eq-zero-or-pos (face_of s t)) [
          | inl outer ↦
              absurd
              (let o = subst (λ (q : Point). orient_at (e x) q r ≤ℤ pos 0) back (right t live_t outer) in
              let w = other_way a (e x) r in let b = is.below in omega (arith, ordered, o, w, b))
          | inr inner ↦
              let tri = round m mesh triangles t live_t inner in
              let y = next_of s t in
              let spoke : Spoke y = record { live = tri.live_y; inner = subst (λ (i : ℕ). 0 < i) (sym tri.face_y) inner; from = mesh.sound.joined t live_t ∙ ap (origin_of s) (rev-rev x) ∙ is.spoke.from } in
              let before : p (prev_of s y) ≡ e x = ap (λ i. p i) (sound.prev-next t live_t) in
              let turn = subst (λ (q : Point). pos 0 <ℤ orient2d_of a (e y) q) before (turn_at y spoke) in
              let below : orient_at a (e y) r <ℤ pos 0 =
              by_lt_z (orient_at a (e y) r) (pos 0) (λ less. less)
              (λ not. absurd (let l = subst (λ (q : Point). pos 0 <ℤ orient_at a q r) before (left_of_both y spoke not) in let b = is.below in omega (arith, ordered, l, b))) in
              (y, record { spoke = spoke; below = below }, turn)
        ]

    not_right : (x : ℕ) → Spoke x → pos 0 ≤ℤ orient_at a (e x) r
    not_right x spoke =
        by_lt_z (orient_at a (e x) r) (pos 0)
        (λ below. absurd (climb (2 * s.edges) (λ x y. pos 0 <ℤ orient2d_of a (e y) (e x)) OnRight (λ x is. half-below s x is.spoke.live) record {
          itself = λ x is turn. (let z = on_start a (e x) in omega (arith, ordered, z, turn));
          along = λ x y z at_x at_y at_z xy yz. on_right a (e x) (e y) (e z) r at_x.below at_y.below at_z.below xy yz;
          better = clockwise;
        } x record { spoke = spoke; below = below })) (λ not. not)

    -- the next one counterclockwise
    record OnLeft (x : ℕ) : Type 0 where
      spoke : Spoke x
      above : pos 0 <ℤ orient_at a (e x) r

    counterclockwise : (x : ℕ) → Spoke x → pos 0 ≤ℤ orient_at a (e x) r → (y : ℕ) × OnLeft y × (pos 0 <ℤ orient2d_of a (e x) (e y))
    counterclockwise x spoke left =
        let b = prev_of s x in
        let y = rev b in
        let tri = round m mesh triangles x spoke.live spoke.inner in
        let live_y = rev_live (map_of s) b tri.live_z in
        let to : e y ≡ p b = ap (λ i. p i) (rev-rev b) in
        let from : origin_of s y ≡ v = sym (mesh.sound.joined b tri.live_z) ∙ ap (origin_of s) tri.next_z ∙ spoke.from in
        let above = subst (λ (q : Point). pos 0 <ℤ orient_at a q r) (sym to) (left_of_both x spoke left) in
        elim (eq-zero-or-pos (face_of s y)) [
          | inl outer ↦ absurd (let o = subst (λ (q : Point). orient_at q (e y) r ≤ℤ pos 0) (ap at from) (right y live_y outer) in omega (arith, ordered, o, above))
          | inr inner ↦ (
            y,
            record { spoke = record { live = live_y; inner = inner; from = from }; above = above },
            subst (λ (q : Point). pos 0 <ℤ orient2d_of a (e x) q) (sym to) (turn_at x spoke),
          )
        ]

    pub nothing : (x : ℕ) → Spoke x → ⊥
    nothing x spoke =
        let next = counterclockwise x spoke (not_right x spoke) in
        climb (2 * s.edges) (λ x y. pos 0 <ℤ orient2d_of a (e x) (e y)) OnLeft (λ x is. half-below s x is.spoke.live) record {
          itself = λ x is turn. (let z = on_start a (e x) in omega (arith, ordered, z, turn));
          along = λ x y z at_x at_y at_z xy yz. on_left a (e z) (e y) (e x) r at_z.above at_y.above at_x.above yz xy;
          better = λ x is. counterclockwise x is.spoke (let a = is.above in omega (arith, ordered, a));
        } next.0 next.1
