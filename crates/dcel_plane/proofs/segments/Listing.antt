-- The list of the half edges that a segment crosses has them all.
use Rattle.std.proofs.Common.{◌≡◌, ◌≢◌, ◌⊎◌, inl, inr, ℕ, ◌<◌, List, [], ◌∷◌, refl, sym, ap, ◌∙◌, subst, ℤ, pos, ◌<ℤ◌, ◌≤ℤ◌, arith}
use Rattle.std.proofs.lemmas.Bool.{cases_eq}
use Rattle.std.proofs.lemmas.Int.{by_lt_z}
use Rattle.dcel_fixed.specs.HalfEdges.{rev}
use Rattle.dcel_fixed.proofs.Halves.{rev-rev}
use Rattle.dcel_predicates.specs.declared.point.Point.{Point}
use Rattle.dcel_predicates.specs.Determinants.{orient2d_of}
use Rattle.dcel_predicates.proofs.Points.{orient2d-first_swapped, orient2d-last_swapped, orient2d-turned}
use Rattle.dcel_predicates.proofs.Signs.{ordered}
use Rattle.dcel_maps.specs.Shapes.{IsMesh, Mesh, Shape, end_of, face_of, map_of, next_of, origin_of, prev_of}
use Rattle.dcel_maps.specs.Triangulations.{AllTriangles}
use Rattle.dcel_maps.specs.Words.{count_of}
use Rattle.dcel_maps.proofs.maps.Triangles.{IsTriangleOf}
use Rattle.dcel_maps.proofs.words.Counts.{count-later, count-other, count-same}
use Rattle.dcel_plane.specs.Plane.{TrianglesTurnLeft, TurnsLeft}
use Rattle.dcel_plane.specs.covering.Covering.{IsConvex, IsHull}
use Rattle.dcel_plane.specs.covering.Places.{AreDisjoint}
use Rattle.dcel_plane.specs.segments.Segments.{AreEnds, Crosses, IsChannel, IsClear, IsCorner, LeadsThrough, corner_beyond, orient2d_by}
use Rattle.dcel_plane.proofs.covering.Faces.{disjoint_at, six_corners}
use Rattle.dcel_plane.proofs.segments.Gates.{far, inner_far, left_far}
use Rattle.dcel_plane.proofs.covering.Inside.{on_end, on_start}
use Rattle.dcel_plane.proofs.segments.Levers.{before_at_end}
use Rattle.dcel_plane.proofs.segments.Onward.{tail}
use Rattle.dcel_plane.proofs.removal.Overlapping.{overlap}
use Rattle.dcel_plane.proofs.segments.Peaks.{ends_of}
use Rattle.dcel_plane.proofs.covering.Triangles.{of_face}

module _ {V DE UE F : Type 0} (m : Mesh V DE UE F) (mesh : IsMesh m) (triangles : AllTriangles m.shape) (at : ℕ → Point) (plane : TrianglesTurnLeft at m.shape)
    (convex : IsConvex at m.shape) (hull : IsHull at m.shape) (v w : ℕ) (ends : AreEnds m.shape v w) (clear : IsClear at m.shape v w) where
  abbrev s : Shape
  s = m.shape

  abbrev off : ℕ → ℤ
  off k = orient2d_by at v w k

  at_v : off v ≡ pos 0
  at_v = on_end (at v) (at w)

  at_w : off w ≡ pos 0
  at_w = on_start (at v) (at w)

  tri : (h : ℕ) → Crosses at s v w h → IsTriangleOf (map_of s) (face_of s (rev h)) (rev h) (next_of s (rev h)) (prev_of s (rev h))
  tri h c = far m mesh triangles at plane convex v w ends h c

  next_from : (h : ℕ) → Crosses at s v w h → origin_of s (next_of s (rev h)) ≡ origin_of s h
  next_from h c = mesh.sound.joined (rev h) (tri h c).live_x ∙ ap (origin_of s) (rev-rev h)

  prev_to : (h : ℕ) → Crosses at s v w h → end_of s (prev_of s (rev h)) ≡ end_of s h
  prev_to h c = sym (mesh.sound.joined (prev_of s (rev h)) (tri h c).live_z) ∙ ap (origin_of s) (tri h c).next_z

  -- the segment comes into a triangle over one side
  same_far : (h k : ℕ) → Crosses at s v w h → Crosses at s v w k → face_of s (rev k) ≡ face_of s (rev h) → h ≡ k
  same_far h k c d on =
      of_face m mesh (face_of s (rev h)) (rev h) (next_of s (rev h)) (prev_of s (rev h)) (tri h c)
      (λ i. pos 0 <ℤ off (origin_of s i) → off (end_of s i) <ℤ pos 0 → i ≡ rev k → h ≡ k)
      (λ a b is. sym (rev-rev h) ∙ ap rev is ∙ rev-rev k)
      (λ a b is. absurd (let e = subst (λ (i : ℕ). pos 0 <ℤ off i) (next_from h c) a in let r = c.right in omega (arith, ordered, e, r)))
      (λ a b is. absurd (let e = subst (λ (i : ℕ). off i <ℤ pos 0) (prev_to h c) b in let r = c.left in omega (arith, ordered, e, r)))
      (rev k) (tri k d).live_x on d.left (subst (λ (i : ℕ). off i <ℤ pos 0) (sym (ap (origin_of s) (rev-rev k))) d.right) refl

  -- not into one at v
  not_at_v : (h f : ℕ) → Crosses at s v w h → face_of s (rev h) ≡ f → IsCorner s f v → ⊥
  not_at_v h f c on corner =
      of_face m mesh (face_of s (rev h)) (rev h) (next_of s (rev h)) (prev_of s (rev h)) (tri h c) (λ i. origin_of s i ≡ v → ⊥)
      (λ is. (let z = subst (λ (i : ℕ). off i ≡ pos 0) (sym is) at_v in let r = c.left in omega (arith, ordered, z, r)))
      (λ is. (let z = subst (λ (i : ℕ). off i ≡ pos 0) (sym is ∙ next_from h c) at_v in let r = c.right in omega (arith, ordered, z, r)))
      (λ is.
      (let a = subst (λ (i : ℕ). TurnsLeft (at (end_of s h)) (at (origin_of s h)) (at i)) is (left_far m mesh triangles at plane convex v w ends h c) in
      let b = c.near in
      let e = orient2d-first_swapped (at (origin_of s h)) (at (end_of s h)) (at v) in
      omega (arith, ordered, a, b, e)))
      corner.side corner.live (corner.on ∙ sym on) corner.from

  -- and into one triangle at w
  beyond_is : (h f : ℕ) → Crosses at s v w h → face_of s (rev h) ≡ f → IsCorner s f w → corner_beyond s h ≡ w
  beyond_is h f c on corner =
      of_face m mesh (face_of s (rev h)) (rev h) (next_of s (rev h)) (prev_of s (rev h)) (tri h c) (λ i. origin_of s i ≡ w → corner_beyond s h ≡ w)
      (λ is. absurd (let z = subst (λ (i : ℕ). off i ≡ pos 0) (sym is) at_w in let r = c.left in omega (arith, ordered, z, r)))
      (λ is. absurd (let z = subst (λ (i : ℕ). off i ≡ pos 0) (sym is ∙ next_from h c) at_w in let r = c.right in omega (arith, ordered, z, r)))
      (λ is. is) corner.side corner.live (corner.on ∙ sym on) corner.from

  at_end_left : (h : ℕ) → Crosses at s v w h → corner_beyond s h ≡ w → TurnsLeft (at w) (at (end_of s h)) (at (origin_of s h))
  at_end_left h c is =
      subst (λ (i : ℕ). TurnsLeft (at i) (at (end_of s h)) (at (origin_of s h))) is
      (subst (λ z. pos 0 <ℤ z) (orient2d-turned (at (corner_beyond s h)) (at (end_of s h)) (at (origin_of s h))) (left_far m mesh triangles at plane convex v w ends h c))

  apart : (h k : ℕ) (c : Crosses at s v w h) (d : Crosses at s v w k) → corner_beyond s h ≡ w → corner_beyond s k ≡ w → face_of s (rev h) ≢ face_of s (rev k)
      → AreDisjoint (at w) (at (end_of s h)) (at (origin_of s h)) (at w) (at (end_of s k)) (at (origin_of s k))
  apart h k c d is js differ =
      let p = prev_of s (rev h) in
      let q = prev_of s (rev k) in
      let known = disjoint_at m mesh triangles at plane convex hull (prev_of s (rev h)) (prev_of s (rev k)) (tri h c).live_z
      (subst (λ (i : ℕ). 0 < i) (sym (tri h c).face_z) (inner_far m mesh triangles at plane convex v w ends h c))
      (tri k d).live_z (subst (λ (i : ℕ). 0 < i) (sym (tri k d).face_z) (inner_far m mesh triangles at plane convex v w ends k d))
      (λ same. differ (sym (tri h c).face_z ∙ same ∙ (tri k d).face_z)) in
      six_corners at (origin_of s p) (origin_of s (next_of s p)) (origin_of s (prev_of s p)) (origin_of s q) (origin_of s (next_of s q)) (origin_of s (prev_of s q))
      w (end_of s h) (origin_of s h) w (end_of s k) (origin_of s k) is (ap (origin_of s) (tri h c).next_z) (ap (origin_of s) (tri h c).prev_z ∙ next_from h c)
      js (ap (origin_of s) (tri k d).next_z) (ap (origin_of s) (tri k d).prev_z ∙ next_from k d) known

  -- the left end of k is seen from w where that of h is, or further round
  overlaps : (h k : ℕ) (c : Crosses at s v w h) (d : Crosses at s v w k) → corner_beyond s h ≡ w → corner_beyond s k ≡ w → face_of s (rev h) ≢ face_of s (rev k)
      → pos 0 ≤ℤ orient2d_of (at w) (at (end_of s h)) (at (end_of s k)) → ⊥
  overlaps h k c d is js differ round =
      overlap (at w) (at (end_of s h)) (at (origin_of s h)) (at (end_of s k)) (at (origin_of s k)) (at_end_left h c is) (at_end_left k d js) round
      (before_at_end (at v) (at w) (at (end_of s h)) (at (end_of s k)) (at (origin_of s h)) c.left d.left c.right (at_end_left h c is) round)
      (apart h k c d is js differ)

  one_last : (h k : ℕ) → Crosses at s v w h → Crosses at s v w k → corner_beyond s h ≡ w → corner_beyond s k ≡ w → h ≡ k
  one_last h k c d is js = elim (cases_eq (face_of s (rev h)) (face_of s (rev k))) [
    | inl same ↦ same_far h k c d (sym same)
    | inr differ ↦ absurd
        (by_lt_z (orient2d_of (at w) (at (end_of s h)) (at (end_of s k))) (pos 0)
        (λ less. overlaps k h d c js is (λ e. differ (sym e)) (let a = orient2d-last_swapped (at w) (at (end_of s h)) (at (end_of s k)) in omega (arith, ordered, a, less)))
        (λ not. overlaps h k c d is js differ not))
  ]

  -- what comes before an item of a list
  pub record Before (f : ℕ) (list : List ℕ) (k : ℕ) : Type 0 where
    pub half : ℕ
    pub among : 0 < count_of half list
    pub crosses : Crosses at s v w half
    pub to : face_of s (rev half) ≡ face_of s k

  before : (f : ℕ) (list : List ℕ) (g k : ℕ) → LeadsThrough at s v w f list g → 0 < count_of k list → (face_of s k ≡ f) ⊎ Before f list k
  before f [] g k leads found = absurd (omega (arith, found))
  before f (h ∷ rest) g k leads found = elim (cases_eq k h) [
    | inl is ↦ inl (ap (face_of s) is ∙ leads.1)
    | inr not ↦ elim (before (face_of s (rev h)) rest g k leads.2 (let c = count-other k h rest not in omega (arith, c, found))) [
      | inl here ↦ inr (record { half = h; among = (let c = count-same h rest in omega (arith, c)); crosses = leads.0; to = sym here })
      | inr b ↦ inr (record { half = b.half; among = count-later b.half h rest b.among; crosses = b.crosses; to = b.to })
    ]
  ]

  pub record Ending (list : List ℕ) (g : ℕ) : Type 0 where
    pub half : ℕ
    pub among : 0 < count_of half list
    pub crosses : Crosses at s v w half
    pub to : face_of s (rev half) ≡ g

  ending : (f h : ℕ) (rest : List ℕ) (g : ℕ) → LeadsThrough at s v w f (h ∷ rest) g → Ending (h ∷ rest) g
  ending f h [] g leads = record { half = h; among = (let c = count-same h [] in omega (arith, c)); crosses = leads.0; to = leads.2 }
  ending f h (k ∷ rest) g leads =
      let on = ending (face_of s (rev h)) k rest g leads.2 in
      record { half = on.half; among = count-later on.half h (k ∷ rest) on.among; crosses = on.crosses; to = on.to }

  module _ (a : ℕ) (others : List ℕ) (channel : IsChannel at m.shape v w (a ∷ others)) where
    stands : (h : ℕ) (rest : List ℕ) (last : ℕ) → Crosses at s v w h → LeadsThrough at s v w (face_of s (rev h)) rest last → IsCorner s last w → 0 < count_of h (a ∷ others)
    stands h [] last c leads corner =
        let on = ending channel.first a others channel.last channel.leads in
        let same = one_last on.half h on.crosses c (beyond_is on.half channel.last on.crosses on.to channel.end) (beyond_is h last c leads corner) in
        subst (λ (i : ℕ). 0 < count_of i (a ∷ others)) same on.among
    stands h (k ∷ rest) last c leads corner =
        let in_it = stands k rest last leads.0 leads.2 corner in
        elim (before channel.first (a ∷ others) channel.last k channel.leads in_it) [
          | inl first ↦ absurd (not_at_v h channel.first c (sym leads.1 ∙ first) channel.start)
          | inr b ↦ subst (λ (i : ℕ). 0 < count_of i (a ∷ others)) (same_far b.half h b.crosses c (sym leads.1 ∙ sym b.to)) b.among
        ]

    pub each_stands : (h : ℕ) → Crosses at s v w h → 0 < count_of h (a ∷ others)
    each_stands h c =
        let t = tail m mesh triangles at plane convex hull v w ends clear h c in
        stands h t.rest t.last c t.leads t.end

pub stands_in : {V DE UE F : Type 0} (m : Mesh V DE UE F) (mesh : IsMesh m) (triangles : AllTriangles m.shape) (at : ℕ → Point) (plane : TrianglesTurnLeft at m.shape)
    (convex : IsConvex at m.shape) (hull : IsHull at m.shape) (v w : ℕ) (clear : IsClear at m.shape v w) (list : List ℕ) → IsChannel at m.shape v w list → list ≢ []
    → (h : ℕ) → Crosses at m.shape v w h → 0 < count_of h list
stands_in m mesh triangles at plane convex hull v w clear [] channel some h crosses = absurd (some refl)
stands_in m mesh triangles at plane convex hull v w clear (a ∷ others) channel some h crosses =
    each_stands m mesh triangles at plane convex hull v w (ends_of at m.shape v w (a ∷ others) channel) clear a others channel h crosses
