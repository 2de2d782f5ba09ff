-- What follows from the conditions of a Delaunay triangulation, told by the numbers of its vertices and faces.
use Rattle.std.proofs.Common.{◌≡◌, ◌≢◌, ◌⊎◌, inl, inr, ℕ, zero, suc, ◌<◌, List, [], ◌∷◌, map, refl, sym, ◌∙◌, subst, pos, ◌≤ℤ◌, eq-zero-or-pos, arith}
use Rattle.std.proofs.lemmas.Bool.{cases_eq, cases_lt}
use Rattle.std.proofs.lemmas.Int.{by_lt_z}
use Rattle.dcel_predicates.specs.Determinants.{incircle_of, orient2d_of}
use Rattle.dcel_predicates.specs.declared.point.Point.{Point}
use Rattle.dcel_predicates.proofs.Points.{incircle-turned}
use Rattle.dcel_predicates.proofs.Signs.{ordered}
use Rattle.dcel_maps.specs.Removals.{gives_up_face}
use Rattle.dcel_maps.specs.Shapes.{IsLive, IsMesh, Mesh, Shape, end_of, face_count, face_of, origin_of, next_of, prev_of}
use Rattle.dcel_maps.specs.Words.{TurnsTo, word_of}
use Rattle.dcel_maps.proofs.Liveness.{is_live-past}
use Rattle.dcel_maps.proofs.words.Turns.{length-turn, turns_to_itself}
use Rattle.dcel_plane.proofs.edits.Corners.{turned_along}
use Rattle.dcel_maps.specs.Triangulations.{AllTriangles}
use Rattle.dcel_plane.specs.Plane.{TrianglesTurnLeft}
use Rattle.dcel_plane.specs.covering.Covering.{Covers, CoversHull, IsConvex, IsHull, dot}
use Rattle.dcel_plane.specs.covering.Delaunay.{HasCornerVertices, LiesInSomeTriangle, IsDelaunayTriangulation, LiesInHull}
use Rattle.dcel_plane.specs.covering.Places.{AreDisjoint, IsIn, Place, orient_at}
use Rattle.dcel_plane.proofs.covering.Apart.{mesh_apart}
use Rattle.dcel_plane.proofs.covering.Circles.{no_vertex_inside}
use Rattle.dcel_plane.proofs.covering.Faces.{corner_of}
use Rattle.dcel_plane.proofs.covering.Overlaps.{disjoint_triangles}
use Rattle.dcel_plane.proofs.covering.Reaching.{covers_hull}
use Rattle.dcel_plane.proofs.covering.Starts.{by_starts, inner_half}
use Rattle.dcel_plane.proofs.covering.Triangles.{word_at}
use Rattle.dcel_maps.proofs.shapes.Chains.{turn-map}

-- the numbers below n are searched for one that passes a test
pub searched : (P : ℕ → Type 0) → ((i : ℕ) → P i ⊎ (P i → ⊥)) → (n : ℕ) → ((i : ℕ) × P i) ⊎ ((i : ℕ) → i < n → P i → ⊥)
searched P test zero = inr (λ i below. absurd (omega (arith, below)))
searched P test (suc n) = elim (test n) [
  | inl has ↦ inl (n, has)
  | inr fails ↦ elim (searched P test n) [
    | inl found ↦ inl found
    | inr none ↦
        inr (λ i below. elim (cases_eq i n) [ inl is ↦ subst (λ (k : ℕ). P k → ⊥) (sym is) fails | inr differs ↦ none i (omega (arith, below, differs)) ])
  ]
]

in_or_out : (a b c : Point) (p : Place) → IsIn a b c p ⊎ (IsIn a b c p → ⊥)
in_or_out a b c p =
    by_lt_z (orient_at a b p) (pos 0) (λ out. inr (λ lies. let i = lies.0 in omega (arith, ordered, i, out)))
    (λ first. by_lt_z (orient_at b c p) (pos 0) (λ out. inr (λ lies. let i = lies.1 in omega (arith, ordered, i, out)))
    (λ second. by_lt_z (orient_at c a p) (pos 0) (λ out. inr (λ lies. let i = lies.2 in omega (arith, ordered, i, out)))
    (λ third. inl (first, second, third))))

-- where it can't be that a place of the hull lies in no face, a search over the faces finds one that covers it
module _ {V DE UE F : Type 0} (m : Mesh V DE UE F) (mesh : IsMesh m) (at : ℕ → Point) (pl : Place) where
  -- a word of three that has the place in it
  abbrev Holds : List ℕ → Type 0
  Holds (x ∷ y ∷ z ∷ []) = IsIn (at (origin_of m.shape x)) (at (origin_of m.shape y)) (at (origin_of m.shape z)) pl
  Holds _ = ⊥

  holds_or_not : (w : List ℕ) → Holds w ⊎ (Holds w → ⊥)
  holds_or_not [] = inr (λ no. no)
  holds_or_not (x ∷ []) = inr (λ no. no)
  holds_or_not (x ∷ y ∷ []) = inr (λ no. no)
  holds_or_not (x ∷ y ∷ z ∷ []) = in_or_out (at (origin_of m.shape x)) (at (origin_of m.shape y)) (at (origin_of m.shape z)) pl
  holds_or_not (x ∷ y ∷ z ∷ k ∷ w) = inr (λ no. no)

  abbrev Covering : ℕ → Type 0
  Covering f = (0 < f) × Holds (word_of m.shape.words f)

  covering_or_not : (f : ℕ) → Covering f ⊎ (Covering f → ⊥)
  covering_or_not f = elim (eq-zero-or-pos f) [
    | inl outer ↦ inr (λ covering. let inner = covering.0 in omega (arith, inner, outer))
    | inr inner ↦ elim (holds_or_not (word_of m.shape.words f)) [ inl holds ↦ inl (inner, holds) | inr not ↦ inr (λ covering. not covering.1) ]
  ]

  covered_by : (f : ℕ) → 0 < f → (w : List ℕ) → word_of m.shape.words f ≡ w → Holds w → LiesInSomeTriangle at m.shape pl
  covered_by f inner [] is holds = absurd holds
  covered_by f inner (x ∷ []) is holds = absurd holds
  covered_by f inner (x ∷ y ∷ []) is holds = absurd holds
  covered_by f inner (x ∷ y ∷ z ∷ []) is holds = record {
    face = f;
    a = origin_of m.shape x;
    b = origin_of m.shape y;
    c = origin_of m.shape z;
    corners = record {
      inner = inner;
      starts = subst (λ (w : List ℕ). TurnsTo (map (origin_of m.shape) w) (origin_of m.shape x ∷ origin_of m.shape y ∷ origin_of m.shape z ∷ [])) (sym is) (turns_to_itself (origin_of m.shape x ∷ origin_of m.shape y ∷ origin_of m.shape z ∷ []));
    };
    lies = holds;
  }
  covered_by f inner (x ∷ y ∷ z ∷ k ∷ w) is holds = absurd holds

  pub covered_in : CoversHull at m.shape → (h : ℕ) × IsLive m.shape h × (0 < face_of m.shape h) → LiesInHull at m.shape pl → LiesInSomeTriangle at m.shape pl
  covered_in covers half within = elim (searched Covering covering_or_not (face_count m.shape)) [
    | inl found ↦ covered_by found.0 found.1.0 (word_of m.shape.words found.0) refl found.1.1
    | inr none ↦
        absurd
        (covers.covered pl half.0 half.1 half.2 within
        (λ f x y z inner is lies. elim (cases_lt f (face_count m.shape)) [
          | inl below ↦ none f below (inner, subst Holds (sym is) lies)
          | inr past ↦ subst Holds (sym is ∙ mesh.sound.bare f (is_live-past (gives_up_face m.shape.removal) (face_count m.shape) f past)) lies
        ]))
  ]

-- a face by its corners
module _ (s : Shape) (f a b c : ℕ) (corners : HasCornerVertices s f a b c) where
  pub record OfWord : Type 0 where
    pub x : ℕ
    pub y : ℕ
    pub z : ℕ
    pub is : word_of s.words f ≡ x ∷ y ∷ z ∷ []
    pub turn : TurnsTo (origin_of s x ∷ origin_of s y ∷ origin_of s z ∷ []) (a ∷ b ∷ c ∷ [])

  of_word : (w : List ℕ) → word_of s.words f ≡ w → TurnsTo (map (origin_of s) w) (a ∷ b ∷ c ∷ []) → OfWord
  of_word [] is turn = absurd (let l = length-turn turn in omega (arith, l))
  of_word (x ∷ []) is turn = absurd (let l = length-turn turn in omega (arith, l))
  of_word (x ∷ y ∷ []) is turn = absurd (let l = length-turn turn in omega (arith, l))
  of_word (x ∷ y ∷ z ∷ []) is turn = record { x = x; y = y; z = z; is = is; turn = turn }
  of_word (x ∷ y ∷ z ∷ k ∷ w) is turn = absurd (let l = length-turn turn in omega (arith, l))

  pub word_is : OfWord
  word_is = of_word (word_of s.words f) refl corners.starts

-- what holds of the corners of each word holds of the corners of each face, from whichever corner on
by_corners : (s : Shape) (P : ℕ → ℕ → ℕ → Type 0) → ((a b c : ℕ) → P a b c → P b c a)
    → (f a b c : ℕ) (corners : HasCornerVertices s f a b c) → ((x y z : ℕ) → word_of s.words f ≡ x ∷ y ∷ z ∷ [] → P (origin_of s x) (origin_of s y) (origin_of s z)) → P a b c
by_corners s P turn f a b c corners holds =
    let face = word_is s f a b c corners in
    turned_along P turn (origin_of s face.x) (origin_of s face.y) (origin_of s face.z) a b c face.turn (holds face.x face.y face.z face.is)

-- two faces of triangles with a convex hull have no place in common
pub faces_apart : {V DE UE F : Type 0} (m : Mesh V DE UE F) → IsMesh m → (at : ℕ → Point) → AllTriangles m.shape → TrianglesTurnLeft at m.shape → IsConvex at m.shape
    → IsHull at m.shape → (f g a b c x y z : ℕ) → HasCornerVertices m.shape f a b c → HasCornerVertices m.shape g x y z → f ≢ g
    → AreDisjoint (at a) (at b) (at c) (at x) (at y) (at z)
faces_apart m mesh at triangles plane convex hull f g a b c x y z corners others differ =
    let s = m.shape in
    let p : ℕ → Point = λ h. at (origin_of s h) in
    by_corners s (λ a b c. AreDisjoint (at a) (at b) (at c) (at x) (at y) (at z)) (λ a b c disjoint pl one other. disjoint pl (one.2, one.0, one.1) other) f a b c corners
    (λ i j k is. by_corners s (λ x y z. AreDisjoint (p i) (p j) (p k) (at x) (at y) (at z)) (λ x y z disjoint pl one other. disjoint pl one (other.2, other.0, other.1)) g x y z others
    (λ i' j' k' is'. (disjoint_triangles m mesh triangles at plane convex hull).disjoint f g i j k i' j' k' corners.inner others.inner differ is is'))

module _ {V DE UE F : Type 0} (m : Mesh V DE UE F) (mesh : IsMesh m) (at : ℕ → Point) (known : IsDelaunayTriangulation at m.shape) where
  abbrev s : Shape
  s = m.shape

  abbrev p : ℕ → Point
  p h = at (origin_of s h)

  -- what holds of each vertex with an edge holds of each vertex
  each_vertex : (P : ℕ → Type 0) → ((h : ℕ) → IsLive s h → P (origin_of s h)) → (v : ℕ) → v < s.vertices → P v
  each_vertex = by_starts m mesh known.closed known.connected

  pub circles : (f a b c v : ℕ) → HasCornerVertices s f a b c → v < s.vertices → incircle_of (at a) (at b) (at c) (at v) ≤ℤ pos 0
  circles f a b c v corners below =
      by_corners s (λ a b c. incircle_of (at a) (at b) (at c) (at v) ≤ℤ pos 0)
      (λ a b c holds. subst (λ i. i ≤ℤ pos 0) (sym (incircle-turned (at a) (at b) (at c) (at v))) holds) f a b c corners
      (λ x y z is. each_vertex (λ w. incircle_of (p x) (p y) (p z) (at w) ≤ℤ pos 0)
      (λ h live.
      by_lt_z (pos 0) (incircle_of (p x) (p y) (p z) (p h))
      (λ inside. absurd ((no_vertex_inside m mesh known.triangles at known.delaunay known.convex known.hull).empty f x y z h corners.inner is live inside)) (λ none. none))
      v below)

  pub apart : (f g a b c a' b' c' : ℕ) → HasCornerVertices s f a b c → HasCornerVertices s g a' b' c' → f ≢ g → AreDisjoint (at a) (at b) (at c) (at a') (at b') (at c')
  apart = faces_apart m mesh at known.triangles known.delaunay.plane known.convex known.hull

  -- no vertex lies in a face but its corners
  pub alone : (f a b c v : ℕ) → HasCornerVertices s f a b c → v < s.vertices → Covers (at a) (at b) (at c) (at v) → (v ≡ a) ⊎ ((v ≡ b) ⊎ (v ≡ c))
  alone f a b c v corners below =
      by_corners s (λ a b c. Covers (at a) (at b) (at c) (at v) → (v ≡ a) ⊎ ((v ≡ b) ⊎ (v ≡ c)))
      (λ a b c holds covers. elim (holds (covers.2, covers.0, covers.1)) [ inl is ↦ inr (inr is) | inr others ↦ elim others [ inl is ↦ inl is | inr is ↦ inr (inl is) ] ])
      f a b c corners
      (λ x y z is. each_vertex (λ w. Covers (p x) (p y) (p z) (at w) → (w ≡ origin_of s x) ⊎ ((w ≡ origin_of s y) ⊎ (w ≡ origin_of s z)))
      (λ k live covers. elim (cases_eq (origin_of s k) (origin_of s x)) [
        | inl same ↦ inl same
        | inr not_x ↦ elim (cases_eq (origin_of s k) (origin_of s y)) [
          | inl same ↦ inr (inl same)
          | inr not_y ↦ elim (cases_eq (origin_of s k) (origin_of s z)) [
            | inl same ↦ inr (inr same)
            | inr not_z ↦
                absurd ((mesh_apart m mesh known.triangles at known.delaunay.plane known.convex known.hull).apart f x y z k corners.inner is live not_x not_y not_z covers)
          ]
        ]
      ]) v below)

  pub covered : (pl : Place) → LiesInHull at s pl → LiesInSomeTriangle at s pl
  covered pl = covered_in m mesh at pl (covers_hull m mesh known.triangles at known.delaunay) (inner_half m mesh known.closed known.inner)

  -- each vertex is a corner of an inner face
  pub cornered : (v : ℕ) → v < s.vertices → (f : ℕ) × (b : ℕ) × (c : ℕ) × HasCornerVertices s f v b c
  cornered = each_vertex (λ v. (f : ℕ) × (b : ℕ) × (c : ℕ) × HasCornerVertices s f v b c) (λ k live. found k live)
    where
      found : (k : ℕ) → IsLive s k → (f : ℕ) × (b : ℕ) × (c : ℕ) × HasCornerVertices s f (origin_of s k) b c
      found k live =
          let half = inner_half m mesh known.closed known.inner in
          let (i, live_i, inner_i, is) = corner_of m mesh known.triangles at known.delaunay.plane known.convex known.hull k half.0 live half.1 half.2 in
          let word = word_at m mesh known.triangles i live_i inner_i in (
            face_of s i,
            origin_of s (next_of s i),
            origin_of s (prev_of s i),
            record {
              inner = inner_i;
              starts =
                  subst (λ (v : ℕ). TurnsTo (map (origin_of s) (word_of s.words (face_of s i))) (v ∷ origin_of s (next_of s i) ∷ origin_of s (prev_of s i) ∷ [])) is
                  (subst (λ (w : List ℕ). TurnsTo (map (origin_of s) w) (map (origin_of s) (i ∷ next_of s i ∷ prev_of s i ∷ []))) (sym word.is) (turn-map (origin_of s) word.turn));
            },
          )

  pub distinct : (v w : ℕ) → v < s.vertices → w < s.vertices → (at v).x ≡ (at w).x → (at v).y ≡ (at w).y → v ≡ w
  distinct v w below_v below_w =
      each_vertex (λ i. (at i).x ≡ (at w).x → (at i).y ≡ (at w).y → i ≡ w)
      (λ h live_h. each_vertex (λ j. (p h).x ≡ (at j).x → (p h).y ≡ (at j).y → origin_of s h ≡ j) (λ k live_k. known.hull.distinct h k live_h live_k) w below_w) v below_v

  pub right : (h v : ℕ) → IsLive s h → face_of s h ≡ 0 → v < s.vertices → orient2d_of (p h) (at (end_of s h)) (at v) ≤ℤ pos 0
  right h v live on = each_vertex (λ w. orient2d_of (p h) (at (end_of s h)) (at w) ≤ℤ pos 0) (λ k live_k. (known.convex.supports h k live on live_k).0) v

  pub between : (h v : ℕ) → IsLive s h → face_of s h ≡ 0 → v < s.vertices → orient2d_of (p h) (at (end_of s h)) (at v) ≡ pos 0 → pos 0 ≤ℤ dot (p h) (at (end_of s h)) (at v)
  between h v live on =
      each_vertex (λ w. orient2d_of (p h) (at (end_of s h)) (at w) ≡ pos 0 → pos 0 ≤ℤ dot (p h) (at (end_of s h)) (at w)) (λ k live_k. (known.convex.supports h k live on live_k).1) v
