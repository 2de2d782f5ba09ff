-- A walk towards a point, across edges that have it strictly on the other side, comes to no triangle twice: the power of the point at the
-- triangle's circle rises. This is, for triangles beside each other, the theorem of H. Edelsbrunner, "An acyclicity theorem for cell complexes
-- in d dimensions", 1990.
use Rattle.std.proofs.Common.{◌≡◌, ◌≢◌, ◌⊎◌, inl, inr, ℕ, ◌<◌, ◌≤◌, List, [], ◌∷◌, map, refl, sym, ap, ◌∙◌, subst, pos, ◌*ℤ◌, ◌<ℤ◌, ◌≤ℤ◌, arith}
use Rattle.std.proofs.lemmas.Bool.{cases_eq}
use Rattle.std.proofs.lemmas.Int.{by_lt_z}
use Rattle.dcel_fixed.specs.HalfEdges.{rev}
use Rattle.dcel_fixed.proofs.Halves.{rev-rev}
use Rattle.dcel_predicates.specs.Determinants.{orient2d_of, incircle_of}
use Rattle.dcel_predicates.specs.declared.point.Point.{Point}
use Rattle.dcel_predicates.proofs.Points.{orient2d-first_swapped, orient2d-turned}
use Rattle.dcel_predicates.proofs.Signs.{ordered}
use Rattle.dcel_maps.specs.Shapes.{IsLive, IsMesh, Mesh, Shape, end_of, face_of, map_of, next_of, origin_of, prev_of}
use Rattle.dcel_maps.specs.Triangulations.{AllTriangles}
use Rattle.dcel_maps.specs.Words.{count_of}
use Rattle.dcel_maps.proofs.maps.Soundness.{rev_live}
use Rattle.dcel_maps.proofs.maps.Triangles.{IsTriangleOf, by_triangle, off_triangle, triangle_faces_another}
use Rattle.dcel_maps.proofs.shapes.Maps.{map-sound}
use Rattle.dcel_maps.proofs.words.Counts.{count-equal, count-other, first_or_later}
use Rattle.dcel_plane.specs.Plane.{IsLocallyDelaunay}
use Rattle.dcel_plane.specs.covering.Places.{Place, incircle_at, orient_at}
use Rattle.dcel_plane.proofs.covering.Caps.{seen_from_other}
use Rattle.dcel_plane.proofs.covering.Inside.{as_place, on_end, on_start, place_of}
use Rattle.dcel_plane.proofs.covering.Powers.{Side, area, side}
use Rattle.dcel_plane.proofs.covering.Products.{not_above}
use Rattle.dcel_plane.proofs.covering.Reaching.{incircle_at-turned, not_circled}
use Rattle.dcel_plane.proofs.covering.Towards.{IsBeyond, IsHigherAt, LeadsAt, along_at, over_after, over_before, power_at, rises_over, stays_over}
use Rattle.dcel_plane.proofs.covering.Triangles.{left_at, round}
use Rattle.dcel_plane.specs.location.Locating.{HasBeyond, Walks}
use Rattle.dcel_plane.proofs.location.Counting.{count-unmapped}

-- over the one and the other of the next triangle's sides, with other names for two corners
abbrev Over : (p : Place) (a b c d a' b' : Point) → Type 0
Over p a b c d a' b' =
    IsBeyond p (side a b c) → pos 0 <ℤ orient2d_of b' a' d → ¬ (pos 0 <ℤ incircle_of a b' c d)
    → (orient_at a' d p <ℤ pos 0 → LeadsAt p (side a b c) (side a' d b')) × (orient_at d b' p <ℤ pos 0 → LeadsAt p (side a b c) (side d b' a'))

over_at : (p : Place) (a b c d a' b' : Point) → a ≡ a' → b ≡ b' → Over p a b c d a' b'
over_at p a b c d a' b' ea eb =
    subst (λ (q : Point). Over p a b c d a' q) eb (subst (λ (q : Point). Over p a b c d q b) ea
    (λ near far outside.
    (over_after a b c d p near far (not_above (incircle_of a b c d) outside), over_before a b c d p near far (not_above (incircle_of a b c d) outside))))

-- A side s of a triangle, and one of no less power that leads into that triangle, with the far corner d: d would lie beyond s.
abbrev Back : (s : Side) (p : Place) (a b c d a' b' : Point) → Type 0
Back s p a b c d a' b' =
    IsBeyond p (side a b c) → pos 0 <ℤ orient2d_of b' a' d → ¬ (pos 0 <ℤ incircle_of a b' c d)
    → orient2d_of b' a' d ≡ area s → incircle_at b' a' d p ≡ power_at p s → pos 0 ≤ℤ orient2d_of s.a s.b d → IsHigherAt p s (side a b c) → ⊥

not_back : (s : Side) (p : Place) (a b c d : Point) → Back s p a b c d a b
not_back s p a b c d near far outside same_area same_power within higher =
    let none = not_above (incircle_of a b c d) outside in
    let first = higher.stays in
    let second : (incircle_at a b c p *ℤ area s) ≤ℤ (power_at p s *ℤ orient2d_of a b c) =
    subst (λ z. (incircle_at a b c p *ℤ z) ≤ℤ (power_at p s *ℤ orient2d_of a b c)) same_area
    (subst (λ z. (incircle_at a b c p *ℤ orient2d_of b a d) ≤ℤ (z *ℤ orient2d_of a b c)) same_power (stays_over a b c d p near none)) in
    elim higher.rises [
      | inl less ↦ omega (arith, ordered, less, second)
      | inr smaller ↦
          by_lt_z (incircle_of a b c d) (pos 0)
          (λ less.
          let third : (incircle_at a b c p *ℤ area s) <ℤ (power_at p s *ℤ orient2d_of a b c) =
          subst (λ z. (incircle_at a b c p *ℤ z) <ℤ (power_at p s *ℤ orient2d_of a b c)) same_area
          (subst (λ z. (incircle_at a b c p *ℤ orient2d_of b a d) <ℤ (z *ℤ orient2d_of a b c)) same_power (rises_over a b c d p near less)) in
          omega (arith, ordered, first, third))
          (λ not.
          let cap = smaller.all d (record { beyond = (let e = seen_from_other a b c d d in omega (arith, ordered, e, far)); within = omega (arith, ordered, not) }) in
          let h = cap.beyond in omega (arith, ordered, h, within))
    ]

back_at : (s : Side) (p : Place) (a b c d a' b' : Point) → a ≡ a' → b ≡ b' → Back s p a b c d a' b'
back_at s p a b c d a' b' ea eb = subst (λ (q : Point). Back s p a b c d a' q) eb (subst (λ (q : Point). Back s p a b c d q b) ea (not_back s p a b c d))

module _ {V DE UE F : Type 0} (m : Mesh V DE UE F) (mesh : IsMesh m) (triangles : AllTriangles m.shape) (at : ℕ → Point) (delaunay : IsLocallyDelaunay at m.shape) (v : Point) where
  abbrev s : Shape
  s = m.shape

  abbrev p : ℕ → Point
  p h = at (origin_of s h)

  abbrev pl : Place
  pl = place_of v

  abbrev side_at : ℕ → Side
  side_at h = side (p h) (p (next_of s h)) (p (prev_of s h))

  joined : (h : ℕ) → IsLive s h → end_of s h ≡ origin_of s (next_of s h)
  joined h live = sym (mesh.sound.joined h live)

  near_of : (h : ℕ) → HasBeyond at s v h → IsBeyond pl (side_at h)
  near_of h has = record {
    left = left_at m mesh triangles at delaunay.plane h has.live has.inner;
    beyond =
        (let e = as_place (p h) (p (next_of s h)) v in
        let r = subst (λ (i : ℕ). orient2d_of (p h) (at i) v <ℤ pos 0) (joined h has.live) has.right in omega (arith, ordered, e, r));
  }

  -- the corners of the next triangle
  start_is : (h : ℕ) → IsLive s h → p h ≡ p (next_of s (rev h))
  start_is h live = ap at (ap (origin_of s) (sym (rev-rev h)) ∙ joined (rev h) (rev_live (map_of s) h live))

  end_is : (h : ℕ) → IsLive s h → p (next_of s h) ≡ p (rev h)
  end_is h live = ap at (mesh.sound.joined h live)

  -- from one crossed half edge to the next
  module _ (h k : ℕ) (has_h : HasBeyond at s v h) (has_k : HasBeyond at s v k) (on : face_of s k ≡ face_of s (rev h)) where
    abbrev t : ℕ
    t = rev h

    live_t : IsLive s t
    live_t = rev_live (map_of s) h has_h.live

    inner : 0 < face_of s t
    inner = subst (λ (i : ℕ). 0 < i) on has_k.inner

    tri : IsTriangleOf (map_of s) (face_of s t) t (next_of s t) (prev_of s t)
    tri = round m mesh triangles t live_t inner

    leads : (orient_at (p (next_of s t)) (p (prev_of s t)) pl <ℤ pos 0 → LeadsAt pl (side_at h) (side (p (next_of s t)) (p (prev_of s t)) (p t)))
        × (orient_at (p (prev_of s t)) (p t) pl <ℤ pos 0 → LeadsAt pl (side_at h) (side (p (prev_of s t)) (p t) (p (next_of s t))))
    leads =
        over_at pl (p h) (p (next_of s h)) (p (prev_of s h)) (p (prev_of s t)) (p (next_of s t)) (p t) (start_is h has_h.live) (end_is h has_h.live)
        (near_of h has_h) (left_at m mesh triangles at delaunay.plane t live_t inner) (not_circled m mesh triangles at delaunay h has_h.live has_h.inner inner)

    at_t : HasBeyond at s v t → IsHigherAt pl (side_at h) (side_at t)
    at_t has =
        let e = orient2d-first_swapped (p h) (at (end_of s h)) v in
        let x = has_h.right in
        let y : orient2d_of (p t) (p h) v <ℤ pos 0 = subst (λ (i : ℕ). orient2d_of (p t) (p i) v <ℤ pos 0) (rev-rev h) has.right in
        absurd (omega (arith, ordered, e, x, y))

    moved : (a b c a' b' c' : ℕ) → a ≡ a' → b ≡ b' → c ≡ c' → IsHigherAt pl (side_at h) (side (p a) (p b) (p c)) → IsHigherAt pl (side_at h) (side (p a') (p b') (p c'))
    moved a b c a' b' c' ea eb ec is =
        subst (λ (i : ℕ). IsHigherAt pl (side_at h) (side (p a') (p b') (p i))) ec
        (subst (λ (i : ℕ). IsHigherAt pl (side_at h) (side (p a') (p i) (p c))) eb
        (subst (λ (i : ℕ). IsHigherAt pl (side_at h) (side (p i) (p b) (p c))) ea is))

    at_n : HasBeyond at s v (next_of s t) → IsHigherAt pl (side_at h) (side_at (next_of s t))
    at_n has =
        moved (next_of s t) (prev_of s t) t (next_of s t) (next_of s (next_of s t)) (prev_of s (next_of s t)) refl (sym tri.next_y) (sym tri.prev_y)
        (leads.0 (let n = (near_of (next_of s t) has).beyond in subst (λ (i : ℕ). orient_at (p (next_of s t)) (p i) pl <ℤ pos 0) tri.next_y n)).1

    at_b : HasBeyond at s v (prev_of s t) → IsHigherAt pl (side_at h) (side_at (prev_of s t))
    at_b has =
        moved (prev_of s t) t (next_of s t) (prev_of s t) (next_of s (prev_of s t)) (prev_of s (prev_of s t)) refl (sym tri.next_z) (sym tri.prev_z)
        (leads.1 (let n = (near_of (prev_of s t) has).beyond in subst (λ (i : ℕ). orient_at (p (prev_of s t)) (p i) pl <ℤ pos 0) tri.next_z n)).1

    step : IsHigherAt pl (side_at h) (side_at k)
    step =
        by_triangle (λ i. HasBeyond at s v i → IsHigherAt pl (side_at h) (side_at i)) t (next_of s t) (prev_of s t) k (at_t, at_n, at_b)
        (λ off. absurd (off_triangle (map_of s) (map-sound mesh.sound) (face_of s t) t (next_of s t) (prev_of s t) tri k has_k.live off on)) has_k

  -- no such way leads back
  module _ (h k : ℕ) (has_h : HasBeyond at s v h) (has_k : HasBeyond at s v k) (on : face_of s (rev k) ≡ face_of s h) where
    abbrev into : ℕ
    into = rev k

    live_into : IsLive s into
    live_into = rev_live (map_of s) k has_k.live

    inner_into : 0 < face_of s into
    inner_into = subst (λ (i : ℕ). 0 < i) (sym on) has_h.inner

    own : IsTriangleOf (map_of s) (face_of s h) h (next_of s h) (prev_of s h)
    own = round m mesh triangles h has_h.live has_h.inner

    -- two names for one triangle
    abbrev Same : ℕ → ℕ → ℕ → Type 0
    Same x y z =
        (orient2d_of (p x) (p y) (p z) ≡ area (side_at h)) × (incircle_at (p x) (p y) (p z) pl ≡ power_at pl (side_at h))
        × (pos 0 ≤ℤ orient2d_of (p h) (p (next_of s h)) (p z))

    same_moved : (x y z y' z' : ℕ) → y ≡ y' → z ≡ z' → Same x y z → Same x y' z'
    same_moved x y z y' z' ey ez is = subst (λ (i : ℕ). Same x y' i) ez (subst (λ (i : ℕ). Same x i z) ey is)

    same_h : Same h (next_of s h) (prev_of s h)
    same_h = let l = left_at m mesh triangles at delaunay.plane h has_h.live has_h.inner in (refl, refl, omega (arith, ordered, l))

    same_n : Same (next_of s h) (next_of s (next_of s h)) (prev_of s (next_of s h))
    same_n =
        same_moved (next_of s h) (prev_of s h) h (next_of s (next_of s h)) (prev_of s (next_of s h)) (sym own.next_y) (sym own.prev_y) (
          orient2d-turned (p h) (p (next_of s h)) (p (prev_of s h)),
          incircle_at-turned (p h) (p (next_of s h)) (p (prev_of s h)) pl,
          (let e = on_end (p h) (p (next_of s h)) in omega (arith, ordered, e)),
        )

    same_b : Same (prev_of s h) (next_of s (prev_of s h)) (prev_of s (prev_of s h))
    same_b =
        same_moved (prev_of s h) h (next_of s h) (next_of s (prev_of s h)) (prev_of s (prev_of s h)) (sym own.next_z) (sym own.prev_z) (
          sym (orient2d-turned (p (prev_of s h)) (p h) (p (next_of s h))),
          sym (incircle_at-turned (p (prev_of s h)) (p h) (p (next_of s h)) pl),
          (let e = on_start (p h) (p (next_of s h)) in omega (arith, ordered, e)),
        )

    same : Same into (next_of s into) (prev_of s into)
    same =
        by_triangle (λ i. Same i (next_of s i) (prev_of s i)) h (next_of s h) (prev_of s h) into (same_h, same_n, same_b)
        (λ off. absurd (off_triangle (map_of s) (map-sound mesh.sound) (face_of s h) h (next_of s h) (prev_of s h) own into live_into off on))

    never_back : (h ≡ k) ⊎ IsHigherAt pl (side_at h) (side_at k) → ⊥
    never_back way = elim way [
      | inl is ↦
          triangle_faces_another (map_of s) (map-sound mesh.sound) (face_of s h) h (next_of s h) (prev_of s h) own (ap (λ (i : ℕ). face_of s (rev i)) is ∙ on)
      | inr higher ↦
          back_at (side_at h) pl (p k) (p (next_of s k)) (p (prev_of s k)) (p (prev_of s into)) (p (next_of s into)) (p into) (start_is k has_k.live) (end_is k has_k.live)
          (near_of k has_k) (left_at m mesh triangles at delaunay.plane into live_into inner_into) (not_circled m mesh triangles at delaunay k has_k.live has_k.inner inner_into)
          same.0 same.1 same.2 higher
    ]

  -- each half edge of a walk has less power than the last one
  along : (g f k : ℕ) (rest : List ℕ) → Walks at s v g (k ∷ rest) f → (h : ℕ) → 0 < count_of h (k ∷ rest)
      → HasBeyond at s v h × ((h ≡ k) ⊎ IsHigherAt pl (side_at h) (side_at k))
  along g f k [] walk h found = elim (first_or_later h k [] found) [
    | inl is ↦ (subst (HasBeyond at s v) (sym is) walk.0, inl is)
    | inr later ↦ absurd (omega (arith, later))
  ]
  along g f k (j ∷ rest) walk h found = elim (first_or_later h k (j ∷ rest) found) [
    | inl is ↦ (subst (HasBeyond at s v) (sym is) walk.0, inl is)
    | inr later ↦
        let before = along g (face_of s k) j rest walk.2 h later in
        let up = step j k walk.2.0 walk.0 (sym walk.2.1) in (
          before.0,
          elim before.1 [
            | inl is ↦ inr (subst (λ (i : ℕ). IsHigherAt pl (side_at i) (side_at k)) (sym is) up)
            | inr higher ↦
                inr (along_at pl (side_at h) (side_at j) (side_at k) (near_of h before.0).left (near_of j walk.2.0).left (near_of k walk.0).left higher up)
          ],
        )
  ]

  -- where the walk stands it wasn't before
  pub stands_anew : (g f : ℕ) (list : List ℕ) → Walks at s v g list f → (h : ℕ) → 0 < count_of h list → HasBeyond at s v h × (face_of s h ≢ f)
  stands_anew g f [] walk h found = absurd (omega (arith, found))
  stands_anew g f (k ∷ rest) walk h found =
      let was = along g f k rest walk h found in
      (was.0, λ same. never_back h k was.0 walk.0 (walk.1 ∙ sym same) was.1)

  -- so no face comes twice
  pub faces_once : (g f : ℕ) (list : List ℕ) → Walks at s v g list f → (y : ℕ) → count_of y (f ∷ map (face_of s) list) ≤ 1
  faces_once g f [] walk y = elim (cases_eq y f) [
    | inl is ↦ let e = count-equal y f [] is in omega (arith, e)
    | inr other ↦ let e = count-other y f [] other in omega (arith, e)
  ]
  faces_once g f (k ∷ rest) walk y =
      let before = faces_once g (face_of s k) rest walk.2 y in
      elim (cases_eq y f) [
        | inl is ↦
            let none : count_of y (map (face_of s) (k ∷ rest)) ≡ 0 =
            count-unmapped (face_of s) y (k ∷ rest) (λ x found same. (stands_anew g f (k ∷ rest) walk x found).1 (same ∙ is)) in
            let e = count-equal y f (map (face_of s) (k ∷ rest)) is in omega (arith, e, none)
        | inr other ↦ let e = count-other y f (map (face_of s) (k ∷ rest)) other in omega (arith, e, before)
      ]
