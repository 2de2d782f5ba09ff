-- An outer face that goes round has no place of an inner triangle on its left.
use Rattle.std.proofs.Common.{◌≡◌, inl, inr, ℕ, ◌<◌, [], ◌∷◌, sym, ap, ◌∙◌, subst, pos, ◌<ℤ◌, ◌≤ℤ◌, arith}
use Rattle.dcel_fixed.specs.HalfEdges.{rev}
use Rattle.dcel_fixed.proofs.Halves.{rev-rev}
use Rattle.dcel_predicates.specs.declared.point.Point.{Point}
use Rattle.dcel_predicates.specs.Determinants.{orient2d_of}
use Rattle.dcel_predicates.proofs.Points.{orient2d-turned}
use Rattle.dcel_predicates.proofs.Signs.{ordered}
use Rattle.dcel_maps.specs.Shapes.{IsLive, IsMesh, Mesh, Shape, face_of, map_of, next_of, origin_of, prev_of}
use Rattle.dcel_maps.specs.Triangulations.{AllTriangles}
use Rattle.dcel_maps.specs.Words.{word_of}
use Rattle.dcel_maps.proofs.maps.Soundness.{rev_live}
use Rattle.dcel_plane.specs.Plane.{TrianglesTurnLeft}
use Rattle.dcel_plane.specs.covering.Covering.{HasDisjointTriangles}
use Rattle.dcel_plane.specs.covering.Places.{IsStrictlyIn, Place, orient_at}
use Rattle.dcel_plane.specs.covering.Round.{Begins, GoesRoundOnce, LeadsLeft, LeadsRight}
use Rattle.dcel_plane.proofs.covering.Chains.{below_chain, once_on, one_passes}
use Rattle.dcel_plane.proofs.covering.Inside.{on_end, same_place}
use Rattle.dcel_plane.proofs.covering.Leading.{one_spot, right_or_not}
use Rattle.dcel_plane.proofs.covering.Opposite.{inside-opposite, left-opposite, opposite, opposite_place, orient-opposite, orient_at-opposite, plane-opposite, right-opposite}
use Rattle.dcel_plane.proofs.covering.Overlaps.{in_one, some_above}
use Rattle.dcel_plane.proofs.covering.Triangles.{at_half, left_at}

-- the corners of a triangle differ
pub no_turn : (a b c : Point) → pos 0 <ℤ orient2d_of a b c → a.x ≡ b.x → a.y ≡ b.y → ⊥
no_turn a b c turn x y = let e = orient2d-turned a b c in let f = same_place b c a b x y in let g = on_end b c in omega (arith, ordered, e, f, g, turn)

module _ {V DE UE F : Type 0} (m : Mesh V DE UE F) (mesh : IsMesh m) (triangles : AllTriangles m.shape) where
  abbrev s : Shape
  s = m.shape

  -- nor one that leads to the right
  right_below : (at : ℕ → Point) → TrianglesTurnLeft at s
      → ((h : ℕ) → IsLive s h → face_of s h ≡ 0 → orient2d_of (at (origin_of s h)) (at (origin_of s (rev h))) (at (origin_of s (rev (next_of s h)))) ≤ℤ pos 0)
      → ((h k : ℕ) → Begins (LeadsRight at s) s h → Begins (LeadsRight at s) s k → h ≡ k)
      → (pl : Place) (f x y z : ℕ) → 0 < f → word_of s.words f ≡ x ∷ y ∷ z ∷ [] → IsStrictlyIn (at (origin_of s x)) (at (origin_of s y)) (at (origin_of s z)) pl
      → (h : ℕ) → IsLive s h → face_of s h ≡ 0 → LeadsRight at s h → orient_at (at (origin_of s h)) (at (origin_of s (rev h))) pl ≤ℤ pos 0
  right_below at plane turns right pl f x y z inner is inside h live outer leads =
      let above = some_above m mesh triangles at plane pl (one_passes m mesh at turns right pl) f x y z inner is inside in
      below_chain m mesh at turns right pl above.h h above.live above.outer above.hits record { live = live; outer = outer; there = leads }

  module _ (at : ℕ → Point) (plane : TrianglesTurnLeft at s) (goes : GoesRoundOnce at s) where
    abbrev p : ℕ → Point
    p h = at (origin_of s h)

    pub disjoint : HasDisjointTriangles at s
    disjoint = record {
      disjoint = λ f g x y z x' y' z' inner_f inner_g differ is_f is_g pl in_f in_g.
          in_one m mesh triangles at plane pl (one_passes m mesh at goes.turns goes.right pl) f g x y z x' y' z' inner_f inner_g differ is_f is_g in_f in_g;
    }

    -- turned by half a turn
    abbrev away : ℕ → Point
    away v = opposite (at v)

    begins-opposite : (h : ℕ) → Begins (LeadsRight away s) s h → Begins (LeadsLeft at s) s h
    begins-opposite h begins = record {
      live = begins.live;
      outer = begins.outer;
      there = left-opposite (p h) (p (rev h)) begins.there;
      before = λ leads. begins.before (right-opposite (p (rev (prev_of s h))) (p (prev_of s h)) leads);
    }

    away_turns : (h : ℕ) → IsLive s h → face_of s h ≡ 0 → orient2d_of (away (origin_of s h)) (away (origin_of s (rev h))) (away (origin_of s (rev (next_of s h)))) ≤ℤ pos 0
    away_turns h live outer = subst (λ z. z ≤ℤ pos 0) (sym (orient-opposite (p h) (p (rev h)) (p (rev (next_of s h))))) (goes.turns h live outer)

    away_right : (h k : ℕ) → Begins (LeadsRight away s) s h → Begins (LeadsRight away s) s k → h ≡ k
    away_right h k one other = goes.left h k (begins-opposite h one) (begins-opposite k other)

    -- of the half edges that lead to the right, or of those that lead to the left, one alone starts at a vertex
    pub once_right : (h k : ℕ) → IsLive s h → IsLive s k → face_of s h ≡ 0 → face_of s k ≡ 0 → LeadsRight at s h → LeadsRight at s k → origin_of s h ≡ origin_of s k → h ≡ k
    once_right h k live_h live_k outer_h outer_k leads_h leads_k =
        once_on m mesh at goes.turns goes.right h k record { live = live_h; outer = outer_h; there = leads_h } record { live = live_k; outer = outer_k; there = leads_k }

    pub once_left : (h k : ℕ) → IsLive s h → IsLive s k → face_of s h ≡ 0 → face_of s k ≡ 0 → LeadsLeft at s h → LeadsLeft at s k → origin_of s h ≡ origin_of s k → h ≡ k
    once_left h k live_h live_k outer_h outer_k leads_h leads_k =
        once_on m mesh away away_turns away_right h k record { live = live_h; outer = outer_h; there = right-opposite (p (rev h)) (p h) leads_h }
        record { live = live_k; outer = outer_k; there = right-opposite (p (rev k)) (p k) leads_k }

    -- the ends of an outer half edge stand at different points
    pub ends_differ : (h : ℕ) → IsLive s h → face_of s h ≡ 0 → (p h).x ≡ (p (rev h)).x → (p h).y ≡ (p (rev h)).y → ⊥
    ends_differ h live outer ex ey =
        let r = rev h in
        let live_r = rev_live (map_of s) h live in
        let turn = left_at m mesh triangles at plane r live_r (goes.inner h live outer) in
        let meets : p (next_of s r) ≡ p h = ap at (mesh.sound.joined r live_r ∙ ap (origin_of s) (rev-rev h)) in
        no_turn (p r) (p (next_of s r)) (p (prev_of s r)) turn (sym ex ∙ ap (λ (q : Point). q.x) (sym meets)) (sym ey ∙ ap (λ (q : Point). q.y) (sym meets))

    pub outer_right : (pl : Place) (t : ℕ) → IsLive s t → 0 < face_of s t → IsStrictlyIn (p t) (p (next_of s t)) (p (prev_of s t)) pl
        → (h : ℕ) → IsLive s h → face_of s h ≡ 0 → orient_at (p h) (p (rev h)) pl ≤ℤ pos 0
    outer_right pl t live_t inner_t inside h live outer =
        at_half m mesh triangles (λ x y z. IsStrictlyIn (p x) (p y) (p z) pl → orient_at (p h) (p (rev h)) pl ≤ℤ pos 0)
        (λ x y z holds within. holds (within.2, within.0, within.1))
        (λ f x y z inner is within. elim (right_or_not (p h) (p (rev h))) [
          | inl leads ↦ right_below at plane goes.turns goes.right pl f x y z inner is within h live outer leads
          | inr not ↦ elim (right_or_not (p (rev h)) (p h)) [
            | inl leads ↦
                subst (λ z. z ≤ℤ pos 0) (orient_at-opposite (p h) (p (rev h)) pl)
                (right_below away (plane-opposite at s plane) away_turns away_right (opposite_place pl) f x y z inner is
                (inside-opposite (p x) (p y) (p z) pl within) h live outer (right-opposite (p (rev h)) (p h) leads))
            | inr nor ↦ absurd (let same = one_spot (p h) (p (rev h)) not nor in ends_differ h live outer same.0 same.1)
          ]
        ]) t live_t inner_t inside
