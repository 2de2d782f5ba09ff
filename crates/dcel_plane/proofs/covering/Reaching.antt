-- A place that no edge of the hull has on its left can be walked to, from triangle to triangle: the walk ends in a triangle that covers it, and the
-- place's power there isn't less than where the walk began.
use Rattle.std.proofs.Common.{◌≡◌, inl, inr, ℕ, ◌*◌, ◌/◌, ◌<◌, refl, sym, ap, ◌∙◌, subst, ℤ, pos, ◌<ℤ◌, ◌≤ℤ◌, ◌+ℤ◌, ◌*ℤ◌, eq-zero-or-pos, arith}
use Rattle.std.proofs.lemmas.Int.{by_lt_z}
use Rattle.dcel_fixed.specs.HalfEdges.{rev}
use Rattle.dcel_fixed.proofs.Halves.{rev-rev}
use Rattle.dcel_predicates.specs.Determinants.{orient2d_of, incircle_of}
use Rattle.dcel_predicates.specs.declared.point.Point.{Point}
use Rattle.dcel_predicates.proofs.Points.{orient2d-turned}
use Rattle.dcel_predicates.proofs.Signs.{ordered}
use Rattle.dcel_maps.specs.Shapes.{IsLive, IsMesh, Mesh, Shape, end_of, face_of, map_of, next_of, origin_of, prev_of}
use Rattle.dcel_maps.specs.Triangulations.{AllTriangles}
use Rattle.dcel_maps.proofs.maps.Soundness.{rev_live}
use Rattle.dcel_maps.proofs.walks.Links.{half-below}
use Rattle.dcel_plane.specs.Plane.{IsLocallyDelaunay}
use Rattle.dcel_plane.specs.covering.Covering.{CoversHull}
use Rattle.dcel_plane.specs.covering.Places.{IsIn, Place, incircle_at, orient_at, squared_distance_at}
use Rattle.dcel_plane.proofs.covering.Circled.{circled_edge}
use Rattle.dcel_plane.proofs.covering.Climbing.{climb}
use Rattle.dcel_plane.proofs.covering.Inside.{other_way}
use Rattle.dcel_plane.proofs.covering.Powers.{Side, area, most, side}
use Rattle.dcel_plane.proofs.covering.Towards.{IsBeyond, IsHigherAt, LeadsAt, along_at, crosses_at, itself_at, power_at}
use Rattle.dcel_plane.proofs.covering.Triangles.{left_at, at_half, round}

pub incircle_at-turned : (a b c : Point) (q : Place) → incircle_at b c a q ≡ incircle_at a b c q
incircle_at-turned a b c q = sums (squared_distance_at a q *ℤ orient_at b c q) (squared_distance_at b q *ℤ orient_at c a q) (squared_distance_at c q *ℤ orient_at a b q)
  where
    sums : (u v w : ℤ) → v +ℤ w +ℤ u ≡ u +ℤ v +ℤ w
    sums u v w = omega (arith, ordered)

module _ {V DE UE F : Type 0} (m : Mesh V DE UE F) (mesh : IsMesh m) (triangles : AllTriangles m.shape) (at : ℕ → Point) (delaunay : IsLocallyDelaunay at m.shape) where
  abbrev s : Shape
  s = m.shape

  abbrev p : ℕ → Point
  p h = at (origin_of s h)

  abbrev side_at : ℕ → Side
  side_at h = side (p h) (p (next_of s h)) (p (prev_of s h))

  -- the corner beyond an edge isn't inside the circle
  pub not_circled : (h : ℕ) → IsLive s h → 0 < face_of s h → 0 < face_of s (rev h)
      → ¬ (pos 0 <ℤ incircle_of (p h) (p (rev h)) (p (prev_of s h)) (p (prev_of s (rev h))))
  not_circled h live inner facing inside =
      let (edge, circled) = circled_edge m mesh triangles at h live inner facing inside in
      delaunay.empty (h / 2) edge circled

  module _ (pl : Place) (within : (h : ℕ) → IsLive s h → face_of s h ≡ 0 → orient_at (p h) (p (rev h)) pl ≤ℤ pos 0) (n d : ℤ) (positive : pos 0 <ℤ d) where
    -- the place's power is n / d or more
    abbrev Holds : ℕ → ℕ → ℕ → Type 0
    Holds x y z = (n *ℤ orient2d_of (p x) (p y) (p z)) ≤ℤ (incircle_at (p x) (p y) (p z) pl *ℤ d)

    holds_turned : (x y z : ℕ) → Holds x y z → Holds y z x
    holds_turned x y z h =
        subst (λ i. (n *ℤ i) ≤ℤ (incircle_at (p y) (p z) (p x) pl *ℤ d)) (sym (orient2d-turned (p x) (p y) (p z)))
        (subst (λ i. (n *ℤ orient2d_of (p x) (p y) (p z)) ≤ℤ (i *ℤ d)) (sym (incircle_at-turned (p x) (p y) (p z) pl)) h)

    record SeesOver (h : ℕ) : Type 0 where
      live : IsLive s h
      inner : 0 < face_of s h
      near : IsBeyond pl (side_at h)
      holds : Holds h (next_of s h) (prev_of s h)

    inner_beyond : (h : ℕ) → SeesOver h → 0 < face_of s (rev h)
    inner_beyond h over = elim (eq-zero-or-pos (face_of s (rev h))) [
      | inl outer ↦
          let t = within (rev h) (rev_live (map_of s) h over.live) outer in
          let joined : end_of s h ≡ origin_of s (next_of s h) = sym (mesh.sound.joined h over.live) in
          let u : orient_at (p (next_of s h)) (p h) pl ≤ℤ pos 0 =
          subst (λ (i : ℕ). orient_at (at i) (p h) pl ≤ℤ pos 0) joined (subst (λ (i : ℕ). orient_at (at (end_of s h)) (p i) pl ≤ℤ pos 0) (rev-rev h) t) in
          let e = other_way (p h) (p (next_of s h)) pl in
          let b = over.near.beyond in
          absurd (omega (arith, ordered, u, e, b))
      | inr inner ↦ inner
    ]

    moved : (x : Side) (a b c a' b' c' : ℕ) → a ≡ a' → b ≡ b' → c ≡ c' → LeadsAt pl x (side (p a) (p b) (p c)) → LeadsAt pl x (side (p a') (p b') (p c'))
    moved x a b c a' b' c' ea eb ec leads =
        subst (λ (i : ℕ). LeadsAt pl x (side (p a') (p b') (p i))) ec
        (subst (λ (i : ℕ). LeadsAt pl x (side (p a') (p i) (p c))) eb
        (subst (λ (i : ℕ). LeadsAt pl x (side (p i) (p b) (p c))) ea leads))

    -- nowhere does the walk end
    module _ (nowhere : (t : ℕ) → IsLive s t → 0 < face_of s t → IsIn (p t) (p (next_of s t)) (p (prev_of s t)) pl → Holds t (next_of s t) (prev_of s t) → ⊥) where
      keeps : (h i : ℕ) → SeesOver h → LeadsAt pl (side_at h) (side_at i) → Holds i (next_of s i) (prev_of s i)
      keeps h i over leads =
          most n d (power_at pl (side_at h)) (area (side_at h)) (power_at pl (side_at i)) (area (side_at i)) positive over.near.left leads.0.left over.holds leads.1.stays

      better : (h : ℕ) → SeesOver h → (i : ℕ) × SeesOver i × IsHigherAt pl (side_at h) (side_at i)
      better h over =
          let t = rev h in
          let live : IsLive s t = rev_live (map_of s) h over.live in
          let inner = inner_beyond h over in
          let tri = round m mesh triangles t live inner in
          let left = left_at m mesh triangles at delaunay.plane t live inner in
          let ea : p h ≡ p (next_of s t) = ap at (ap (origin_of s) (sym (rev-rev h)) ∙ sym (mesh.sound.joined t live)) in
          let eb : p (next_of s h) ≡ p t = ap at (mesh.sound.joined h over.live) in
          let step = crosses_at pl (p h) (p (next_of s h)) (p (prev_of s h)) (p (prev_of s t)) (p (next_of s t)) (p t) ea eb
          over.near left (not_circled h over.live over.inner inner) in
          elim step [
            | inl after ↦
                let leads = moved (side_at h) (next_of s t) (prev_of s t) t (next_of s t) (next_of s (next_of s t)) (prev_of s (next_of s t)) refl (sym tri.next_y) (sym tri.prev_y) after in (
                  next_of s t,
                  record { live = tri.live_y; inner = subst (λ (i : ℕ). 0 < i) (sym tri.face_y) inner; near = leads.0; holds = keeps h (next_of s t) over leads },
                  leads.1,
                )
            | inr other ↦ elim other [
              | inl before ↦
                  let leads = moved (side_at h) (prev_of s t) t (next_of s t) (prev_of s t) (next_of s (prev_of s t)) (prev_of s (prev_of s t)) refl (sym tri.next_z) (sym tri.prev_z) before in (
                    prev_of s t,
                    record { live = tri.live_z; inner = subst (λ (i : ℕ). 0 < i) (sym tri.face_z) inner; near = leads.0; holds = keeps h (prev_of s t) over leads },
                    leads.1,
                  )
              | inr there ↦
                  absurd
                  (nowhere t live inner there.0
                  (most n d (power_at pl (side_at h)) (area (side_at h)) (incircle_at (p t) (p (next_of s t)) (p (prev_of s t)) pl) (orient2d_of (p t) (p (next_of s t)) (p (prev_of s t)))
                  positive over.near.left left over.holds there.1))
            ]
          ]

      no_side : (h : ℕ) → SeesOver h → ⊥
      no_side =
          climb (2 * s.edges) (λ h i. IsHigherAt pl (side_at h) (side_at i)) SeesOver (λ h over. half-below s h over.live)
          (record {
            itself = λ h over. itself_at pl (side_at h);
            along = λ h i j over_h over_i over_j. along_at pl (side_at h) (side_at i) (side_at j) over_h.near.left over_i.near.left over_j.near.left;
            better = better;
          })

      -- so it can't begin
      pub none_holds : (h : ℕ) → IsLive s h → 0 < face_of s h → Holds h (next_of s h) (prev_of s h) → ⊥
      none_holds h live inner holds =
          let tri = round m mesh triangles h live inner in
          let a = next_of s h in
          let b = prev_of s h in
          let inner_a : 0 < face_of s a = subst (λ (i : ℕ). 0 < i) (sym tri.face_y) inner in
          let inner_b : 0 < face_of s b = subst (λ (i : ℕ). 0 < i) (sym tri.face_z) inner in
          let holds_a : Holds a (next_of s a) (prev_of s a) =
          subst (λ (i : ℕ). Holds a i (prev_of s a)) (sym tri.next_y) (subst (λ (i : ℕ). Holds a b i) (sym tri.prev_y) (holds_turned h a b holds)) in
          let holds_b : Holds b (next_of s b) (prev_of s b) =
          subst (λ (i : ℕ). Holds b i (prev_of s b)) (sym tri.next_z) (subst (λ (i : ℕ). Holds b h i) (sym tri.prev_z) (holds_turned a b h (holds_turned h a b holds))) in
          nowhere h live inner (
            by_lt_z (orient_at (p h) (p a) pl) (pos 0)
                (λ out. absurd (no_side h (record { live = live; inner = inner; near = record { left = left_at m mesh triangles at delaunay.plane h live inner; beyond = out }; holds = holds }))) (λ not. not),
            by_lt_z (orient_at (p a) (p b) pl) (pos 0)
                (λ out. absurd
                (no_side a (record {
                  live = tri.live_y;
                  inner = inner_a;
                  near = record { left = left_at m mesh triangles at delaunay.plane a tri.live_y inner_a; beyond = subst (λ (i : ℕ). orient_at (p a) (p i) pl <ℤ pos 0) (sym tri.next_y) out };
                  holds = holds_a;
                }))) (λ not. not),
            by_lt_z (orient_at (p b) (p h) pl) (pos 0)
                (λ out. absurd
                (no_side b (record {
                  live = tri.live_z;
                  inner = inner_b;
                  near = record { left = left_at m mesh triangles at delaunay.plane b tri.live_z inner_b; beyond = subst (λ (i : ℕ). orient_at (p b) (p i) pl <ℤ pos 0) (sym tri.next_z) out };
                  holds = holds_b;
                }))) (λ not. not),
          ) holds

-- each place that no edge of the hull has on its left lies in an inner triangle, or on its border, if there is one
pub covers_hull : {V DE UE F : Type 0} (m : Mesh V DE UE F) → IsMesh m → AllTriangles m.shape → (at : ℕ → Point) → IsLocallyDelaunay at m.shape → CoversHull at m.shape
covers_hull m mesh triangles at delaunay = record {
  covered = λ pl h live inner within none.
      let s = m.shape in
      let q : ℕ → Point = λ i. at (origin_of s i) in
      let a = next_of s h in
      let b = prev_of s h in
      none_holds m mesh triangles at delaunay pl within (incircle_at (q h) (q a) (q b) pl) (orient2d_of (q h) (q a) (q b)) (left_at m mesh triangles at delaunay.plane h live inner)
      (λ t live_t inner_t covers holds.
      at_half m mesh triangles (λ x y z. ¬ IsIn (q x) (q y) (q z) pl) (λ x y z not there. not (there.2, there.0, there.1))
      (λ f x y z inner_f is. none f x y z inner_f is) t live_t inner_t covers)
      h live inner (least (incircle_at (q h) (q a) (q b) pl *ℤ orient2d_of (q h) (q a) (q b)));
}
  where
    least : (z : ℤ) → z ≤ℤ z
    least z = omega (arith, ordered)
