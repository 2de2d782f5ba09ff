-- The list of the half edges that cross a segment, when one of them is flipped.
use Rattle.std.proofs.Common.{◌≡◌, ◌≢◌, ◌⊎◌, inl, inr, ℕ, ◌/◌, ◌<◌, ◌≤◌, List, [], ◌∷◌, ◌++◌, refl, sym, ap, ◌∙◌, subst, ℤ, pos, ◌+ℤ◌, ◌-ℤ◌, ◌<ℤ◌, append-nil, eq-zero-or-pos, arith}
use Rattle.std.proofs.lemmas.Bool.{cases_eq}
use Rattle.dcel_fixed.specs.HalfEdges.{rev}
use Rattle.dcel_fixed.proofs.Halves.{rev-rev}
use Rattle.dcel_predicates.specs.declared.point.Point.{Point}
use Rattle.dcel_predicates.specs.Determinants.{orient2d_of}
use Rattle.dcel_predicates.proofs.Points.{orient2d-first_swapped, orient2d-last_swapped, orient2d-turned}
use Rattle.dcel_predicates.proofs.Signs.{ordered}
use Rattle.dcel_maps.specs.Conditions.{CanFlip}
use Rattle.dcel_maps.specs.edits.Flip.{edge_flipped}
use Rattle.dcel_maps.specs.Shapes.{IsLive, IsMesh, Mesh, Shape, end_of, face_of, map_of, next_of, origin_of, prev_of}
use Rattle.dcel_maps.specs.Triangulations.{AllTriangles}
use Rattle.dcel_maps.specs.Words.{count_of}
use Rattle.dcel_maps.proofs.maps.Soundness.{rev_live}
use Rattle.dcel_maps.proofs.maps.Triangles.{IsTriangleOf}
use Rattle.dcel_maps.proofs.words.Counts.{count-append, count-equal, count-later, count-other, count-same}
use Rattle.dcel_plane.specs.Plane.{TrianglesTurnLeft, TurnsLeft}
use Rattle.dcel_plane.specs.covering.Covering.{IsConvex}
use Rattle.dcel_plane.specs.segments.Segments.{AreEnds, BecomesCrossing, Crosses, IsChannel, IsCorner, IsPeak, LeadsThrough, corner_before, corner_beyond, orient2d_by, width, widths}
use Rattle.dcel_plane.proofs.segments.FlipFaces.{Flipped, flipped_at}
use Rattle.dcel_plane.proofs.segments.Gates.{at_end, at_start, far, inner_far, inner_near, left_far, left_near, near, peak_can_turn}
use Rattle.dcel_plane.proofs.covering.Inside.{on_end, on_start}
use Rattle.dcel_plane.proofs.segments.Levers.{ahead_at_left, ahead_at_right, behind_at_left, behind_at_right}
use Rattle.dcel_plane.proofs.covering.Triangles.{of_face}

-- each half edge of the list crosses the segment
pub all_cross : (at : ℕ → Point) (s : Shape) (v w f g : ℕ) (list : List ℕ) → LeadsThrough at s v w f list g → (k : ℕ) → 0 < count_of k list → Crosses at s v w k
all_cross at s v w f g [] leads k found = absurd (omega (arith, found))
all_cross at s v w f g (h ∷ rest) leads k found = elim (cases_eq k h) [
  | inl is ↦ subst (λ (i : ℕ). Crosses at s v w i) (sym is) leads.0
  | inr not ↦ all_cross at s v w (face_of s (rev h)) g rest leads.2 k (let c = count-other k h rest not in omega (arith, c, found))
]

pub leads_on : (at : ℕ → Point) (s : Shape) (v w f g e : ℕ) (a b : List ℕ) → LeadsThrough at s v w f a g → LeadsThrough at s v w g b e → LeadsThrough at s v w f (a ++ b) e
leads_on at s v w f g e [] b first second = subst (λ (i : ℕ). LeadsThrough at s v w i b e) (sym first) second
leads_on at s v w f g e (h ∷ a) b first second = (first.0, first.1, leads_on at s v w (face_of s (rev h)) g e a b first.2 second)

pub widths_on : (at : ℕ → Point) (s : Shape) (v w : ℕ) (a b : List ℕ) → widths at s v w (a ++ b) ≡ widths at s v w a +ℤ widths at s v w b
widths_on at s v w [] b = nothing (widths at s v w b)
  where
    nothing : (z : ℤ) → z ≡ pos 0 +ℤ z
    nothing z = omega (arith, ordered)
widths_on at s v w (h ∷ a) b = (let e = widths_on at s v w a b in one_more (width at s v w h) (widths at s v w (a ++ b)) (widths at s v w a) (widths at s v w b) e)
  where
    one_more : (x y z t : ℤ) → y ≡ z +ℤ t → x +ℤ y ≡ (x +ℤ z) +ℤ t
    one_more x y z t e = omega (arith, ordered, e)

module _ {V DE UE F : Type 0} (m : Mesh V DE UE F) (mesh : IsMesh m) (triangles : AllTriangles m.shape) (at : ℕ → Point) (plane : TrianglesTurnLeft at m.shape)
    (convex : IsConvex at m.shape) (v w : ℕ) (ends : AreEnds m.shape v w) (h : ℕ) (crosses : Crosses at m.shape v w h) (peak : IsPeak at m.shape v w h) where
  abbrev s : Shape
  s = m.shape

  abbrev n : Shape
  n = (edge_flipped m (h / 2)).shape

  abbrev off : ℕ → ℤ
  off k = orient2d_by at v w k

  abbrev f : ℕ
  f = face_of m.shape h

  abbrev g : ℕ
  g = face_of m.shape (rev h)

  abbrev r : ℕ
  r = origin_of m.shape h

  abbrev l : ℕ
  l = end_of m.shape h

  abbrev x : ℕ
  x = corner_before m.shape h

  abbrev y : ℕ
  y = corner_beyond m.shape h

  can : CanFlip m.shape (h / 2)
  can = (peak_can_turn m mesh triangles at plane convex v w ends h crosses peak).can

  flip : Flipped m mesh (h / 2) can h (rev h)
  flip = flipped_at m mesh h can

  tri : IsTriangleOf (map_of s) f h (next_of s h) (prev_of s h)
  tri = near m mesh triangles at plane convex v w ends h crosses

  tri_far : IsTriangleOf (map_of s) g (rev h) (next_of s (rev h)) (prev_of s (rev h))
  tri_far = far m mesh triangles at plane convex v w ends h crosses

  -- the sides of the two triangles
  next_from : origin_of s (next_of s h) ≡ l
  next_from = mesh.sound.joined h crosses.live

  next_to : end_of s (next_of s h) ≡ x
  next_to = sym (mesh.sound.joined (next_of s h) tri.live_y) ∙ ap (origin_of s) tri.next_y

  prev_to : end_of s (prev_of s h) ≡ r
  prev_to = sym (mesh.sound.joined (prev_of s h) tri.live_z) ∙ ap (origin_of s) tri.next_z

  far_next_from : origin_of s (next_of s (rev h)) ≡ r
  far_next_from = mesh.sound.joined (rev h) tri_far.live_x ∙ ap (origin_of s) (rev-rev h)

  far_next_to : end_of s (next_of s (rev h)) ≡ y
  far_next_to = sym (mesh.sound.joined (next_of s (rev h)) tri_far.live_y) ∙ ap (origin_of s) tri_far.next_y

  far_prev_to : end_of s (prev_of s (rev h)) ≡ l
  far_prev_to = sym (mesh.sound.joined (prev_of s (rev h)) tri_far.live_z) ∙ ap (origin_of s) tri_far.next_z

  on_near : (Q : ℕ → Type 0) → Q h → Q (next_of s h) → Q (prev_of s h) → (k : ℕ) → IsLive s k → face_of s k ≡ f → Q k
  on_near = of_face m mesh f h (next_of s h) (prev_of s h) tri

  on_far : (Q : ℕ → Type 0) → Q (rev h) → Q (next_of s (rev h)) → Q (prev_of s (rev h)) → (k : ℕ) → IsLive s k → face_of s k ≡ g → Q k
  on_far = of_face m mesh g (rev h) (next_of s (rev h)) (prev_of s (rev h)) tri_far

  -- half edges that cross, by where they start and end
  pub record Passes (a b : ℕ) : Type 0 where
    pub right : off a <ℤ pos 0
    pub left : pos 0 <ℤ off b
    pub near : TurnsLeft (at a) (at b) (at v)
    pub far : orient2d_of (at a) (at b) (at w) <ℤ pos 0

  passes : (k : ℕ) → Crosses at s v w k → Passes (origin_of s k) (end_of s k)
  passes k c = record { right = c.right; left = c.left; near = c.near; far = c.far }

  passes_as : (a b a' b' : ℕ) → a ≡ a' → b ≡ b' → Passes a b → Passes a' b'
  passes_as a b a' b' ea eb is = subst (λ (i : ℕ). Passes a' i) eb (subst (λ (i : ℕ). Passes i b) ea is)

  -- what starts where k ends
  back_from : (k : ℕ) → end_of s (rev k) ≡ origin_of s k
  back_from k = ap (origin_of s) (rev-rev k)

  -- a half edge that crosses is no other half of h
  not_rev : (k : ℕ) → Crosses at s v w k → k ≢ rev h
  not_rev k c is = (let a = c.right in let b = crosses.left in let e = subst (λ (i : ℕ). off (origin_of s i) <ℤ pos 0) is a in omega (arith, ordered, b, e))

  rev_not : (k : ℕ) → k ≢ h → rev k ≢ rev h
  rev_not k not is = not (sym (rev-rev k) ∙ ap rev is ∙ rev-rev h)

  rev_not_h : (k : ℕ) → Crosses at s v w k → rev k ≢ h
  rev_not_h k c is = not_rev k c (sym (rev-rev k) ∙ ap rev is)

  keeps : (k : ℕ) → Crosses at s v w k → k ≢ h → Crosses at n v w k
  keeps k c not =
      let a = flip.stays k c.live not (not_rev k c) in
      let b = flip.stays (rev k) (rev_live (map_of s) k c.live) (rev_not_h k c) (rev_not k not) in
      let is = passes_as (origin_of s k) (end_of s k) (origin_of n k) (end_of n k) (sym a) (sym b) (passes k c) in
      record { live = c.live; right = is.right; left = is.left; near = is.near; far = is.far }

  same_width : (k : ℕ) → Crosses at s v w k → k ≢ h → width at n v w k ≡ width at s v w k
  same_width k c not =
      let a = flip.stays k c.live not (not_rev k c) in
      let b = flip.stays (rev k) (rev_live (map_of s) k c.live) (rev_not_h k c) (rev_not k not) in
      ap (λ (i : ℕ). off i -ℤ off (origin_of n k)) b ∙ ap (λ (i : ℕ). off (end_of s k) -ℤ off i) a

  -- where it lies
  not_near : (k : ℕ) → Crosses at s v w k → k ≢ h → face_of s k ≢ f
  not_near k c not on =
      on_near (λ i. Crosses at s v w i → i ≢ h → ⊥) (λ d differs. differs refl)
      (λ d differs. (let a = subst (λ (i : ℕ). off i <ℤ pos 0) next_from d.right in let b = crosses.left in omega (arith, ordered, a, b)))
      (λ d differs. (let a = subst (λ (i : ℕ). pos 0 <ℤ off i) prev_to d.left in let b = crosses.right in omega (arith, ordered, a, b)))
      k c.live on c not

  rev_not_far : (k : ℕ) → Crosses at s v w k → k ≢ h → face_of s (rev k) ≢ g
  rev_not_far k c not on =
      let is = passes k c in
      on_far (λ i. Passes (end_of s i) (origin_of s i) → i ≢ rev h → ⊥) (λ d differs. differs refl)
      (λ d differs. (let a = subst (λ (i : ℕ). pos 0 <ℤ off i) far_next_from d.left in let b = crosses.right in omega (arith, ordered, a, b)))
      (λ d differs. (let a = subst (λ (i : ℕ). off i <ℤ pos 0) far_prev_to d.right in let b = crosses.left in omega (arith, ordered, a, b)))
      (rev k) (rev_live (map_of s) k c.live) on (passes_as (origin_of s k) (end_of s k) (end_of s (rev k)) (end_of s k) (sym (back_from k)) refl is) (rev_not k not)

  -- the face that the segment comes from, and goes on to, after the flip
  abbrev Arrives : ℕ → Type 0
  Arrives a = ((off x <ℤ pos 0) × (a ≡ f) × TurnsLeft (at x) (at l) (at v)) ⊎ ((pos 0 <ℤ off x) × (a ≡ g) × TurnsLeft (at r) (at x) (at v))

  abbrev Departs : ℕ → Type 0
  Departs b = ((pos 0 <ℤ off y) × (b ≡ g) × (orient2d_of (at r) (at y) (at w) <ℤ pos 0)) ⊎ ((off y <ℤ pos 0) × (b ≡ f) × (orient2d_of (at y) (at l) (at w) <ℤ pos 0))

  arrives : (k : ℕ) → Crosses at s v w k → k ≢ h → face_of s (rev k) ≡ f → Arrives (face_of n (rev k))
  arrives k c not on =
      on_near (λ i. Passes (end_of s i) (origin_of s i) → i ≢ h → Arrives (face_of n i)) (λ d differs. absurd (differs refl))
      (λ d differs. (let is = passes_as (end_of s (next_of s h)) (origin_of s (next_of s h)) x l next_to next_from d in inl (is.right, flip.after, is.near)))
      (λ d differs. (let is = passes_as (end_of s (prev_of s h)) (origin_of s (prev_of s h)) r x prev_to refl d in inr (is.left, flip.before, is.near)))
      (rev k) (rev_live (map_of s) k c.live) on (passes_as (origin_of s k) (end_of s k) (end_of s (rev k)) (end_of s k) (sym (back_from k)) refl (passes k c)) (rev_not_h k c)

  departs : (k : ℕ) → Crosses at s v w k → face_of s k ≡ g → Departs (face_of n k)
  departs k c on =
      on_far (λ i. Passes (origin_of s i) (end_of s i) → i ≢ rev h → Departs (face_of n i)) (λ d differs. absurd (differs refl))
      (λ d differs. (let is = passes_as (origin_of s (next_of s (rev h))) (end_of s (next_of s (rev h))) r y far_next_from far_next_to d in inl (is.left, flip.after_other, is.far)))
      (λ d differs. (let is = passes_as (origin_of s (prev_of s (rev h))) (end_of s (prev_of s (rev h))) y l refl far_prev_to d in inr (is.right, flip.before_other, is.far)))
      k c.live on (passes k c) (not_rev k c)

  -- the list up to h
  abbrev Starts : ℕ → ℕ → Type 0
  Starts a a' = ((a ≢ f) × (a ≢ g) × (a' ≡ a)) ⊎ ((a ≡ f) × Arrives a')

  pub record Front (a' : ℕ) (front back : List ℕ) (end : ℕ) : Type 0 where
    pub to : ℕ
    pub arrives : Arrives to
    pub leads : LeadsThrough at n v w a' front to
    pub rest : LeadsThrough at s v w g back end

  differs_from : (k : ℕ) (rest : List ℕ) → count_of h (k ∷ rest) ≡ 0 → (k ≢ h) × (count_of h rest ≡ 0)
  differs_from k rest none = elim (cases_eq h k) [
    | inl is ↦ absurd (let c = count-equal h k rest is in omega (arith, c, none))
    | inr not ↦ (λ is. not (sym is), (let c = count-other h k rest not in omega (arith, c, none)))
  ]

  front_goes : (a a' : ℕ) (front back : List ℕ) (end : ℕ) → LeadsThrough at s v w a (front ++ h ∷ back) end → count_of h front ≡ 0 → Starts a a' → Front a' front back end
  front_goes a a' [] back end leads none starts = elim starts [
    | inl away ↦ absurd (away.0 (sym leads.1))
    | inr here ↦ record { to = a'; arrives = here.1; leads = refl; rest = leads.2 }
  ]
  front_goes a a' (k ∷ front) back end leads none starts =
      let d = differs_from k front none in
      elim starts [
        | inr here ↦ absurd (not_near k leads.0 d.0 (leads.1 ∙ here.0))
        | inl away ↦
            let live = rev_live (map_of s) k leads.0.live in
            let on = front_goes (face_of s (rev k)) (face_of n (rev k)) front back end leads.2 d.1 (next_starts k leads.0 d.0) in
            record {
              to = on.to;
              arrives = on.arrives;
              leads = (
                keeps k leads.0 d.0,
                flip.away k leads.0.live (not_near k leads.0 d.0) (λ is. away.1 (sym leads.1 ∙ is)) ∙ leads.1 ∙ sym away.2,
                on.leads,
              );
              rest = on.rest;
            }
      ]
    where
      next_starts : (k : ℕ) → Crosses at s v w k → k ≢ h → Starts (face_of s (rev k)) (face_of n (rev k))
      next_starts k c not = elim (cases_eq (face_of s (rev k)) f) [
        | inl is ↦ inr (is, arrives k c not is)
        | inr off_f ↦ inl (off_f, rev_not_far k c not, flip.away (rev k) (rev_live (map_of s) k c.live) off_f (rev_not_far k c not))
      ]

  -- and from there on
  not_from_near : (rest : List ℕ) (end : ℕ) → count_of h rest ≡ 0 → end ≢ f → LeadsThrough at s v w f rest end → ⊥
  not_from_near [] end none not leads = not (sym leads)
  not_from_near (k ∷ rest) end none not leads = not_near k leads.0 (differs_from k rest none).0 leads.1

  rest_goes : (a : ℕ) (rest : List ℕ) (end : ℕ) → LeadsThrough at s v w a rest end → count_of h rest ≡ 0 → a ≢ g → end ≢ f → LeadsThrough at n v w a rest end
  rest_goes a [] end leads none not_g not_f = leads
  rest_goes a (k ∷ rest) end leads none not_g not_f =
      let d = differs_from k rest none in
      let off_f : face_of s (rev k) ≢ f = λ is. not_from_near rest end d.1 not_f (subst (λ (i : ℕ). LeadsThrough at s v w i rest end) is leads.2) in
      let off_g = rev_not_far k leads.0 d.0 in (
        keeps k leads.0 d.0,
        flip.away k leads.0.live (not_near k leads.0 d.0) (λ is. not_g (sym leads.1 ∙ is)) ∙ leads.1,
        subst (λ (i : ℕ). LeadsThrough at n v w i rest end) (sym (flip.away (rev k) (rev_live (map_of s) k leads.0.live) off_f off_g))
            (rest_goes (face_of s (rev k)) rest end leads.2 d.1 off_g not_f),
      )

  -- the segment's ends as corners
  at_v : off v ≡ pos 0
  at_v = on_end (at v) (at w)

  at_w : off w ≡ pos 0
  at_w = on_start (at v) (at w)

  corner_near : (k : ℕ) → IsLive s k → face_of s k ≡ f → off (origin_of s k) ≡ pos 0 → origin_of s k ≡ x
  corner_near k live on zero =
      on_near (λ i. off (origin_of s i) ≡ pos 0 → origin_of s i ≡ x) (λ z. absurd (let a = crosses.right in omega (arith, ordered, a, z)))
      (λ z. absurd (let a = crosses.left in let b = subst (λ (i : ℕ). off i ≡ pos 0) next_from z in omega (arith, ordered, a, b))) (λ z. refl) k live on zero

  corner_far : (k : ℕ) → IsLive s k → face_of s k ≡ g → off (origin_of s k) ≡ pos 0 → origin_of s k ≡ y
  corner_far k live on zero =
      on_far (λ i. off (origin_of s i) ≡ pos 0 → origin_of s i ≡ y) (λ z. absurd (let a = crosses.left in omega (arith, ordered, a, z)))
      (λ z. absurd (let a = crosses.right in let b = subst (λ (i : ℕ). off i ≡ pos 0) far_next_from z in omega (arith, ordered, a, b))) (λ z. refl) k live on zero

  corner_is : (c : ℕ) → off c ≡ pos 0 → IsCorner s f c → c ≡ x
  corner_is c zero corner = sym corner.from ∙ corner_near corner.side corner.live corner.on (subst (λ (i : ℕ). off i ≡ pos 0) (sym corner.from) zero)

  far_corner_is : (c : ℕ) → off c ≡ pos 0 → IsCorner s g c → c ≡ y
  far_corner_is c zero corner = sym corner.from ∙ corner_far corner.side corner.live corner.on (subst (λ (i : ℕ). off i ≡ pos 0) (sym corner.from) zero)

  near_left : TurnsLeft (at r) (at l) (at x)
  near_left = left_near m mesh triangles at plane convex v w ends h crosses

  far_left : TurnsLeft (at l) (at r) (at y)
  far_left = left_far m mesh triangles at plane convex v w ends h crosses

  v_not_far : (a : ℕ) → IsCorner s a v → a ≢ g
  v_not_far a corner is =
      let e = far_corner_is v at_v (subst (λ (i : ℕ). IsCorner s i v) is corner) in
      let a = subst (λ (i : ℕ). TurnsLeft (at r) (at l) (at i)) e crosses.near in
      let b = far_left in
      let c = orient2d-first_swapped (at r) (at l) (at y) in
      omega (arith, ordered, a, b, c)

  w_not_near : (a : ℕ) → IsCorner s a w → a ≢ f
  w_not_near a corner is =
      let e = corner_is w at_w (subst (λ (i : ℕ). IsCorner s i w) is corner) in
      let a = subst (λ (i : ℕ). orient2d_of (at r) (at l) (at i) <ℤ pos 0) e crosses.far in
      let b = near_left in
      omega (arith, ordered, a, b)

  -- a corner of a face that isn't one of the two stays
  corner_stays : (a c : ℕ) → a ≢ f → a ≢ g → IsCorner s a c → IsCorner n a c
  corner_stays a c not_f not_g corner = record {
    side = corner.side;
    live = corner.live;
    on = flip.away corner.side corner.live (λ is. not_f (sym corner.on ∙ is)) (λ is. not_g (sym corner.on ∙ is)) ∙ corner.on;
    from =
        flip.stays corner.side corner.live (λ is. not_f (sym corner.on ∙ ap (face_of s) is)) (λ is. not_g (sym corner.on ∙ ap (face_of s) is)) ∙ corner.from;
  }

  -- both new triangles have both corners
  new_near : IsCorner n f x
  new_near = record { side = h; live = crosses.live; on = flip.here; from = flip.starts }

  back_live : IsLive s (rev h)
  back_live = rev_live (map_of s) h crosses.live

  new_far_x : IsCorner n g x
  new_far_x = record {
    side = prev_of s h;
    live = tri.live_z;
    on = flip.before;
    from = flip.stays (prev_of s h) tri.live_z (λ is. tri.x≢z (sym is)) prev_not_rev;
  }
    where
      prev_not_rev : prev_of s h ≢ rev h
      prev_not_rev is =
          let e = subst (λ (i : ℕ). TurnsLeft (at r) (at l) (at i)) (ap (origin_of s) is) near_left in
          let z = on_start (at r) (at l) in
          omega (arith, ordered, e, z)

  new_far : IsCorner n g y
  new_far = record { side = rev h; live = back_live; on = flip.there; from = flip.ends }

  new_near_y : IsCorner n f y
  new_near_y = record {
    side = prev_of s (rev h);
    live = tri_far.live_z;
    on = flip.before_other;
    from = flip.stays (prev_of s (rev h)) tri_far.live_z prev_not (λ is. tri_far.x≢z (sym is));
  }
    where
      prev_not : prev_of s (rev h) ≢ h
      prev_not is =
          let e = subst (λ (i : ℕ). TurnsLeft (at l) (at r) (at i)) (ap (origin_of s) is) far_left in
          let z = on_start (at l) (at r) in
          omega (arith, ordered, e, z)

  corner_new : (b c : ℕ) → (b ≡ f) ⊎ (b ≡ g) → c ≡ x → IsCorner n b c
  corner_new b c (inl is) same = subst (λ (i : ℕ). IsCorner n b i) (sym same) (subst (λ (i : ℕ). IsCorner n i x) (sym is) new_near)
  corner_new b c (inr is) same = subst (λ (i : ℕ). IsCorner n b i) (sym same) (subst (λ (i : ℕ). IsCorner n i x) (sym is) new_far_x)

  corner_new_y : (b c : ℕ) → (b ≡ f) ⊎ (b ≡ g) → c ≡ y → IsCorner n b c
  corner_new_y b c (inl is) same = subst (λ (i : ℕ). IsCorner n b i) (sym same) (subst (λ (i : ℕ). IsCorner n i y) (sym is) new_near_y)
  corner_new_y b c (inr is) same = subst (λ (i : ℕ). IsCorner n b i) (sym same) (subst (λ (i : ℕ). IsCorner n i y) (sym is) new_far)

  -- the edge, where it crosses the segment again
  turn_l : TurnsLeft (at x) (at y) (at l)
  turn_l = at_end m mesh triangles at plane convex v w ends h crosses peak

  turn_r : TurnsLeft (at y) (at x) (at r)
  turn_r = at_start m mesh triangles at plane convex v w ends h crosses peak

  passes_right : off x <ℤ pos 0 → pos 0 <ℤ off y → TurnsLeft (at x) (at l) (at v) → orient2d_of (at r) (at y) (at w) <ℤ pos 0 → Passes x y
  passes_right hx hy before after = record {
    right = hx;
    left = hy;
    near = ahead_at_right (at v) (at w) (at x) (at l) (at y) (at v) hx crosses.left hy at_v before turn_l;
    far =
        behind_at_left (at v) (at w) (at y) (at r) (at x) (at w) hy crosses.right hx at_w after
        (let a = orient2d-last_swapped (at y) (at x) (at r) in let d = turn_r in omega (arith, ordered, a, d));
  }

  passes_left : pos 0 <ℤ off x → off y <ℤ pos 0 → TurnsLeft (at r) (at x) (at v) → orient2d_of (at y) (at l) (at w) <ℤ pos 0 → Passes y x
  passes_left hx hy before after = record {
    right = hy;
    left = hx;
    near = ahead_at_left (at v) (at w) (at x) (at r) (at y) (at v) hx crosses.right hy at_v before (subst (λ z. pos 0 <ℤ z) (sym (orient2d-turned (at y) (at x) (at r))) turn_r);
    far = behind_at_right (at v) (at w) (at y) (at l) (at x) (at w) hy crosses.left hx at_w after (let a = orient2d-first_swapped (at x) (at y) (at l) in let d = turn_l in omega (arith, ordered, a, d));
  }

  from_near : (front back : List ℕ) (end : ℕ) → LeadsThrough at s v w f (front ++ h ∷ back) end → count_of h front ≡ 0 → (front ≡ []) × LeadsThrough at s v w g back end
  from_near [] back end leads none = (refl, leads.2)
  from_near (k ∷ front) back end leads none = absurd (not_near k leads.0 (differs_from k front none).0 leads.1)

  -- how the segment leaves the two triangles
  pub record Goes (back : List ℕ) (end : ℕ) : Type 0 where
    pub from : ℕ
    pub departs : Departs from
    pub leads : LeadsThrough at n v w from back end
    pub corner : IsCorner n end w

  goes : (back : List ℕ) (end : ℕ) → LeadsThrough at s v w g back end → count_of h back ≡ 0 → IsCorner s end w → ((back ≡ []) × (w ≡ y)) ⊎ Goes back end
  goes [] end leads none corner = inl (refl, far_corner_is w at_w (subst (λ (i : ℕ). IsCorner s i w) (sym leads) corner))
  goes (k ∷ rest) end leads none corner =
      let d = differs_from k rest none in
      let not_f = w_not_near end corner in
      let departs_k = departs k leads.0 leads.1 in
      let not_g : end ≢ g = λ is. no_end departs_k (far_corner_is w at_w (subst (λ (i : ℕ). IsCorner s i w) is corner)) in
      let off_f : face_of s (rev k) ≢ f = λ is. not_from_near rest end d.1 not_f (subst (λ (i : ℕ). LeadsThrough at s v w i rest end) is leads.2) in
      let off_g = rev_not_far k leads.0 d.0 in
      inr (
      record {
        from = face_of n k;
        departs = departs_k;
        leads = (
          keeps k leads.0 d.0,
          refl,
          subst (λ (i : ℕ). LeadsThrough at n v w i rest end) (sym (flip.away (rev k) (rev_live (map_of s) k leads.0.live) off_f off_g))
              (rest_goes (face_of s (rev k)) rest end leads.2 d.1 off_g not_f),
        );
        corner = corner_stays end w not_f not_g corner;
      }
      )
    where
      no_end : {b : ℕ} → Departs b → w ≡ y → ⊥
      no_end (inl left) is = (let z = subst (λ (i : ℕ). off i ≡ pos 0) is at_w in let a = left.0 in omega (arith, ordered, z, a))
      no_end (inr right) is = (let z = subst (λ (i : ℕ). off i ≡ pos 0) is at_w in let a = right.0 in omega (arith, ordered, z, a))

  -- the list that is left
  pub record IsLeft (front back : List ℕ) : Type 0 where
    pub new : List ℕ
    pub becomes : BecomesCrossing at s v w h new
    pub channel : IsChannel at n v w (front ++ (new ++ back))
    pub narrower : widths at n v w (front ++ (new ++ back)) <ℤ widths at s v w (front ++ (h ∷ back))

  module _ (front back : List ℕ) (channel : IsChannel at m.shape v w (front ++ (h ∷ back))) where
    none : (count_of h front ≡ 0) × (count_of h back ≡ 0)
    none =
        let c = count-append h front (h ∷ back) in
        let d = count-same h back in
        let e = channel.once h in
        (omega (arith, c, d, e), omega (arith, c, d, e))

    cross_of : (k : ℕ) → 0 < count_of k (front ++ (h ∷ back)) → Crosses at s v w k
    cross_of = all_cross at s v w channel.first channel.last (front ++ (h ∷ back)) channel.leads

    in_front : (k : ℕ) → 0 < count_of k front → Crosses at s v w k × (k ≢ h)
    in_front k found = (
      cross_of k (let c = count-append k front (h ∷ back) in omega (arith, c, found)),
      λ is. (let z = none.0 in let e = ap (λ i. count_of i front) is in omega (arith, z, e, found)),
    )

    in_back : (k : ℕ) → 0 < count_of k back → Crosses at s v w k × (k ≢ h)
    in_back k found = (
      cross_of k (let c = count-append k front (h ∷ back) in let d = count-append k (h ∷ []) back in omega (arith, c, d, found)),
      λ is. (let z = none.1 in let e = ap (λ i. count_of i back) is in omega (arith, z, e, found)),
    )

    same_widths : (list : List ℕ) → ((k : ℕ) → 0 < count_of k list → Crosses at s v w k × (k ≢ h)) → widths at n v w list ≡ widths at s v w list
    same_widths [] each = refl
    same_widths (k ∷ rest) each =
        let one = each k (let c = count-same k rest in omega (arith, c)) in
        ap (λ z. z +ℤ widths at n v w rest) (same_width k one.0 one.1)
        ∙ ap (λ z. width at s v w k +ℤ z) (same_widths rest (λ i found. each i (count-later i k rest found)))

    narrower_by : (new : List ℕ) → widths at n v w new <ℤ width at s v w h → widths at n v w (front ++ (new ++ back)) <ℤ widths at s v w (front ++ (h ∷ back))
    narrower_by new less =
        let a = widths_on at n v w front (new ++ back) in
        let b = widths_on at n v w new back in
        let c = widths_on at s v w front (h ∷ back) in
        let d = same_widths front in_front in
        let e = same_widths back in_back in
        sums (widths at n v w (front ++ (new ++ back))) (widths at n v w front) (widths at n v w (new ++ back)) (widths at n v w new) (widths at n v w back)
        (widths at s v w (front ++ (h ∷ back))) (widths at s v w front) (width at s v w h) (widths at s v w back) a b c d e less
      where
        sums : (t a b c d t' a' c' d' : ℤ) → t ≡ a +ℤ b → b ≡ c +ℤ d → t' ≡ a' +ℤ (c' +ℤ d') → a ≡ a' → d ≡ d' → c <ℤ c' → t <ℤ t'
        sums t a b c d t' a' c' d' ha hb hc hd he less = omega (arith, ordered, ha, hb, hc, hd, he, less)

    once_without : (k : ℕ) → count_of k (front ++ ([] ++ back)) ≤ 1
    once_without k =
        let a = count-append k front back in
        let b = count-append k front (h ∷ back) in
        let c = count-append k (h ∷ []) back in
        let d = channel.once k in
        omega (arith, a, b, c, d)

    once_turned : (k : ℕ) → count_of k (front ++ ((rev h ∷ []) ++ back)) ≤ 1
    once_turned k = elim (cases_eq k (rev h)) [
      | inr not ↦
          let a = count-append k front (rev h ∷ back) in
          let b = count-other k (rev h) back not in
          let c = once_without k in
          let d = count-append k front back in
          omega (arith, a, b, c, d)
      | inl is ↦ subst (λ (i : ℕ). count_of i (front ++ ((rev h ∷ []) ++ back)) ≤ 1) (sym is)
          (let a = count-append (rev h) front (rev h ∷ back) in
          let b = count-same (rev h) back in
          let c = elim (eq-zero-or-pos (count_of (rev h) front)) as (λ q. count_of (rev h) front ≡ 0) [ inl z ↦ z | inr found ↦ absurd (not_rev (rev h) (in_front (rev h) found).0 refl) ] in
          let d = elim (eq-zero-or-pos (count_of (rev h) back)) as (λ q. count_of (rev h) back ≡ 0) [ inl z ↦ z | inr found ↦ absurd (not_rev (rev h) (in_back (rev h) found).0 refl) ] in
          omega (arith, a, b, c, d))
    ]

    near_inner : 0 < f
    near_inner = inner_near m mesh triangles at plane convex v w ends h crosses

    far_inner : 0 < g
    far_inner = inner_far m mesh triangles at plane convex v w ends h crosses

    positive : pos 0 <ℤ width at s v w h
    positive = (let a = crosses.left in let b = crosses.right in omega (arith, ordered, a, b))

    -- the edge crosses the segment again
    crosses_again : Passes x y → Crosses at n v w h
    crosses_again is =
        let there = passes_as x y (origin_of n h) (end_of n h) (sym flip.starts) (sym flip.ends) is in
        record { live = crosses.live; right = there.right; left = there.left; near = there.near; far = there.far }

    crosses_turned : Passes y x → Crosses at n v w (rev h)
    crosses_turned is =
        let there = passes_as y x (origin_of n (rev h)) (end_of n (rev h)) (sym flip.ends) (sym (ap (origin_of n) (rev-rev h) ∙ flip.starts)) is in
        record { live = back_live; right = there.right; left = there.left; near = there.near; far = there.far }

    face_back : face_of n (rev (rev h)) ≡ f
    face_back = ap (face_of n) (rev-rev h) ∙ flip.here

    width_again : off x <ℤ pos 0 → pos 0 <ℤ off y → widths at n v w (h ∷ []) <ℤ width at s v w h
    width_again hx hy =
        let a = ap off flip.starts in
        let b = ap off flip.ends in
        let p = peak.above in
        let q = peak.below_too in
        omega (arith, ordered, a, b, p, q)

    width_turned : pos 0 <ℤ off x → off y <ℤ pos 0 → widths at n v w (rev h ∷ []) <ℤ width at s v w h
    width_turned hx hy =
        let a = ap off (ap (origin_of n) (rev-rev h) ∙ flip.starts) in
        let b = ap off flip.ends in
        let p = peak.below in
        let q = peak.above_too in
        omega (arith, ordered, a, b, p, q)

    -- nothing stands for it where the corners aren't on different sides
    record IsGone : Type 0 where
      not_right : off x <ℤ pos 0 → pos 0 <ℤ off y → ⊥
      not_left : pos 0 <ℤ off x → off y <ℤ pos 0 → ⊥

    gone : IsGone → (first last : ℕ) → 0 < first → IsCorner n first v → IsCorner n last w → LeadsThrough at n v w first (front ++ back) last → IsLeft front back
    gone is first last inner start end leads = record {
      new = [];
      becomes = inr (inr (is.not_right, is.not_left, refl));
      channel = record { first = first; last = last; inner = inner; start = start; end = end; leads = leads; once = once_without };
      narrower = narrower_by [] positive;
    }

    both : (b : ℕ) → Departs b → (b ≡ f) ⊎ (b ≡ g)
    both b (inl left) = inr left.1
    both b (inr right) = inl right.1

    both_too : (a : ℕ) → Arrives a → (a ≡ f) ⊎ (a ≡ g)
    both_too a (inl right) = inl right.1
    both_too a (inr left) = inr left.1

    inner_of : (b : ℕ) → (b ≡ f) ⊎ (b ≡ g) → 0 < b
    inner_of b (inl is) = subst (λ (i : ℕ). 0 < i) (sym is) near_inner
    inner_of b (inr is) = subst (λ (i : ℕ). 0 < i) (sym is) far_inner

    -- the first triangle is that of h
    from_start : front ≡ [] → v ≡ x → ((back ≡ []) × (w ≡ y)) ⊎ Goes back channel.last → IsLeft front back
    from_start bare is (inl stop) =
        gone (record { not_right = λ a b. no_x a; not_left = λ a b. no_x' a }) f f near_inner (corner_new f v (inl refl) is) (corner_new_y f w (inl refl) stop.1)
        (subst (λ (i : List ℕ). LeadsThrough at n v w f (i ++ back) f) (sym bare) (subst (λ (i : List ℕ). LeadsThrough at n v w f i f) (sym stop.0) refl))
      where
        no_x : off x <ℤ pos 0 → ⊥
        no_x a = (let z = subst (λ (i : ℕ). off i ≡ pos 0) is at_v in omega (arith, ordered, z, a))

        no_x' : pos 0 <ℤ off x → ⊥
        no_x' a = (let z = subst (λ (i : ℕ). off i ≡ pos 0) is at_v in omega (arith, ordered, z, a))
    from_start bare is (inr on) =
        gone (record { not_right = λ a b. no_x a; not_left = λ a b. no_x' a }) on.from channel.last (inner_of on.from (both on.from on.departs)) (corner_new on.from v (both on.from on.departs) is) on.corner
        (subst (λ (i : List ℕ). LeadsThrough at n v w on.from (i ++ back) channel.last) (sym bare) on.leads)
      where
        no_x : off x <ℤ pos 0 → ⊥
        no_x a = (let z = subst (λ (i : ℕ). off i ≡ pos 0) is at_v in omega (arith, ordered, z, a))

        no_x' : pos 0 <ℤ off x → ⊥
        no_x' a = (let z = subst (λ (i : ℕ). off i ≡ pos 0) is at_v in omega (arith, ordered, z, a))

    -- and where it comes from another one
    module _ (start : IsCorner n channel.first v) where
      to_end : (a : ℕ) → Arrives a → LeadsThrough at n v w channel.first front a → back ≡ [] → w ≡ y → IsLeft front back
      to_end a arrived leads bare is =
          gone (record { not_right = λ p q. no_y q; not_left = λ p q. no_y' q }) channel.first a channel.inner start (corner_new_y a w (both_too a arrived) is)
          (subst (λ (i : List ℕ). LeadsThrough at n v w channel.first (front ++ i) a) (sym bare) (subst (λ (i : List ℕ). LeadsThrough at n v w channel.first i a) (sym (append-nil front)) leads))
        where
          no_y : pos 0 <ℤ off y → ⊥
          no_y b = (let z = subst (λ (i : ℕ). off i ≡ pos 0) is at_w in omega (arith, ordered, z, b))

          no_y' : off y <ℤ pos 0 → ⊥
          no_y' b = (let z = subst (λ (i : ℕ). off i ≡ pos 0) is at_w in omega (arith, ordered, z, b))

      through : (a : ℕ) → Arrives a → LeadsThrough at n v w channel.first front a → (b : ℕ) → Departs b → LeadsThrough at n v w b back channel.last → IsCorner n channel.last w → IsLeft front back
      through a (inl right) before b (inl left) after end = record {
        new = h ∷ [];
        becomes = inl (right.0, left.0, refl);
        channel = record {
          first = channel.first;
          last = channel.last;
          inner = channel.inner;
          start = start;
          end = end;
          leads =
              leads_on at n v w channel.first f channel.last front (h ∷ back) (subst (λ (i : ℕ). LeadsThrough at n v w channel.first front i) right.1 before)
              (crosses_again (passes_right right.0 left.0 right.2 left.2), flip.here, subst (λ (i : ℕ). LeadsThrough at n v w i back channel.last) (left.1 ∙ sym flip.there) after);
          once = channel.once;
        };
        narrower = narrower_by (h ∷ []) (width_again right.0 left.0);
      }
      through a (inr left) before b (inr right) after end = record {
        new = rev h ∷ [];
        becomes = inr (inl (left.0, right.0, refl));
        channel = record {
          first = channel.first;
          last = channel.last;
          inner = channel.inner;
          start = start;
          end = end;
          leads =
              leads_on at n v w channel.first g channel.last front (rev h ∷ back) (subst (λ (i : ℕ). LeadsThrough at n v w channel.first front i) left.1 before)
              (crosses_turned (passes_left left.0 right.0 left.2 right.2), flip.there, subst (λ (i : ℕ). LeadsThrough at n v w i back channel.last) (right.1 ∙ sym face_back) after);
          once = once_turned;
        };
        narrower = narrower_by (rev h ∷ []) (width_turned left.0 right.0);
      }
      through a (inl right) before b (inr right_too) after end =
          gone (record { not_right = λ p q. (let z = right_too.0 in omega (arith, ordered, z, q)); not_left = λ p q. (let z = right.0 in omega (arith, ordered, z, p)) })
          channel.first channel.last channel.inner start end
          (leads_on at n v w channel.first f channel.last front back (subst (λ (i : ℕ). LeadsThrough at n v w channel.first front i) right.1 before)
          (subst (λ (i : ℕ). LeadsThrough at n v w i back channel.last) right_too.1 after))
      through a (inr left) before b (inl left_too) after end =
          gone (record { not_right = λ p q. (let z = left.0 in omega (arith, ordered, z, p)); not_left = λ p q. (let z = left_too.0 in omega (arith, ordered, z, q)) })
          channel.first channel.last channel.inner start end
          (leads_on at n v w channel.first g channel.last front back (subst (λ (i : ℕ). LeadsThrough at n v w channel.first front i) left.1 before)
          (subst (λ (i : ℕ). LeadsThrough at n v w i back channel.last) left_too.1 after))

      from_before : (a : ℕ) → Arrives a → LeadsThrough at n v w channel.first front a → ((back ≡ []) × (w ≡ y)) ⊎ Goes back channel.last → IsLeft front back
      from_before a arrived leads (inl stop) = to_end a arrived leads stop.0 stop.1
      from_before a arrived leads (inr on) = through a arrived leads on.from on.departs on.leads on.corner

    pub flip_keeps_channel : IsLeft front back
    flip_keeps_channel = elim (cases_eq channel.first f) [
      | inl is ↦
          let from = from_near front back channel.last (subst (λ (i : ℕ). LeadsThrough at s v w i (front ++ h ∷ back) channel.last) is channel.leads) none.0 in
          from_start from.0 (corner_is v at_v (subst (λ (i : ℕ). IsCorner s i v) is channel.start)) (goes back channel.last from.1 none.1 channel.end)
      | inr not_f ↦
          let not_g = v_not_far channel.first channel.start in
          let came = front_goes channel.first channel.first front back channel.last channel.leads none.0 (inl (not_f, not_g, refl)) in
          from_before (corner_stays channel.first v not_f not_g channel.start) came.to came.arrives came.leads (goes back channel.last came.rest none.1 channel.end)
    ]
