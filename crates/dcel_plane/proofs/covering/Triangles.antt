-- The inner triangles of a mesh, by their half edges and by their words.
use Rattle.std.proofs.Common.{◌≡◌, ◌≢◌, ℕ, ◌<◌, List, [], ◌∷◌, sym, ap, ◌∙◌, subst, arith}
use Rattle.dcel_predicates.specs.declared.point.Point.{Point}
use Rattle.dcel_maps.specs.Conditions.{IsTriangle}
use Rattle.dcel_maps.specs.Cyclic.{from_least}
use Rattle.dcel_maps.specs.Maps.{Map}
use Rattle.dcel_maps.specs.Shapes.{end_of, IsLive, IsMesh, Mesh, Shape, face_of, map_of, next_of, origin_of, prev_of}
use Rattle.dcel_maps.specs.Triangulations.{AllTriangles}
use Rattle.dcel_maps.specs.Words.{TurnsTo, count_of, word_of}
use Rattle.dcel_maps.proofs.edits.Linking.{triangle_of}
use Rattle.dcel_maps.proofs.maps.Triangles.{IsTriangleOf, by_triangle, off_triangle}
use Rattle.dcel_maps.proofs.shapes.Maps.{face-live, map-sound}
use Rattle.dcel_maps.proofs.walks.Links.{links_stand, prev-live}
use Rattle.dcel_maps.proofs.words.Counts.{count-same}
use Rattle.dcel_maps.proofs.words.Reading.{face_in_word, live_in}
use Rattle.dcel_maps.proofs.words.Triangles.{triangle_written}
use Rattle.dcel_maps.proofs.words.Turns.{from_least-turn, turns_back}
use Rattle.dcel_plane.specs.covering.Covering.{HasDisjointTriangles}
use Rattle.dcel_plane.specs.covering.Places.{AreDisjoint}
use Rattle.dcel_plane.specs.Plane.{TrianglesTurnLeft, TurnsLeft}
use Rattle.dcel_plane.proofs.edits.Corners.{left_of_triangle, three_items, turned_along}

-- a triangle, from its next half edge on
pub turned_triangle : (M : Map) (f x y z : ℕ) → IsTriangleOf M f x y z → IsTriangleOf M f y z x
turned_triangle M f x y z tri = record {
  at_x = tri.at_y;
  at_y = tri.at_z;
  at_z = tri.at_x;
  x≢y = tri.y≢z;
  y≢z = λ is. tri.x≢z (sym is);
  x≢z = λ is. tri.x≢y (sym is);
}

-- the half edge before another one ends where that starts
pub ends_before : {V DE UE F : Type 0} (m : Mesh V DE UE F) → IsMesh m → (h : ℕ) → IsLive m.shape h → end_of m.shape (prev_of m.shape h) ≡ origin_of m.shape h
ends_before m mesh h live =
    sym (mesh.sound.joined (prev_of m.shape h) (prev-live mesh.sound h live)) ∙ ap (origin_of m.shape) ((map-sound mesh.sound).next-prev h live)

-- its half edges start where the ones before end
pub meets : {V DE UE F : Type 0} (m : Mesh V DE UE F) → IsMesh m → (f x y z : ℕ) → IsTriangleOf (map_of m.shape) f x y z → origin_of m.shape y ≡ end_of m.shape x
meets m mesh f x y z tri = ap (origin_of m.shape) (sym tri.next_x) ∙ mesh.sound.joined x tri.live_x

-- what holds of three half edges of a triangle holds of each
pub of_face : {V DE UE F : Type 0} (m : Mesh V DE UE F) → IsMesh m → (f a b c : ℕ) → IsTriangleOf (map_of m.shape) f a b c → (Q : ℕ → Type 0) → Q a → Q b → Q c
    → (k : ℕ) → IsLive m.shape k → face_of m.shape k ≡ f → Q k
of_face m mesh f a b c tri Q at_a at_b at_c k live on =
    by_triangle Q a b c k (at_a, at_b, at_c) (λ out. absurd (off_triangle (map_of m.shape) (map-sound mesh.sound) f a b c tri k live out on))

module _ {V DE UE F : Type 0} (m : Mesh V DE UE F) (mesh : IsMesh m) (triangles : AllTriangles m.shape) where
  abbrev s : Shape
  s = m.shape

  pub is_triangle : (h : ℕ) → IsLive s h → 0 < face_of s h → IsTriangle s (face_of s h)
  is_triangle h live inner =
      let face = face-live mesh.sound h live in
      record { live = face; three = triangles (face_of s h) inner face }

  pub round : (h : ℕ) → IsLive s h → 0 < face_of s h → IsTriangleOf (map_of s) (face_of s h) h (next_of s h) (prev_of s h)
  round h live inner = triangle_of m mesh h live (is_triangle h live inner)

  -- the word of an inner half edge
  pub record Word (h : ℕ) : Type 0 where
    pub a : ℕ
    pub b : ℕ
    pub c : ℕ
    pub is : word_of s.words (face_of s h) ≡ a ∷ b ∷ c ∷ []
    pub turn : TurnsTo (a ∷ b ∷ c ∷ []) (h ∷ next_of s h ∷ prev_of s h ∷ [])

  pub word_at : (h : ℕ) → IsLive s h → 0 < face_of s h → Word h
  word_at h live inner =
      let w = h ∷ next_of s h ∷ prev_of s h ∷ [] in
      let written : word_of s.words (face_of s h) ≡ from_least w =
      triangle_written (map_of s) (map-sound mesh.sound) (face_of s h) h (next_of s h) (prev_of s h) (round h live inner) s.words (links_stand mesh.sound) in
      let turned : TurnsTo w (word_of s.words (face_of s h)) = subst (λ (l : List ℕ). TurnsTo w l) (sym written) (from_least-turn w) in
      let (a, b, c, is) = three_items (word_of s.words (face_of s h)) (is_triangle h live inner).three in
      record { a = a; b = b; c = c; is = is; turn = turns_back (subst (λ (l : List ℕ). TurnsTo w l) is turned) }

  -- what holds of each inner word of three holds of each inner half edge
  pub at_half : (P : ℕ → ℕ → ℕ → Type 0) → ((x y z : ℕ) → P x y z → P y z x) → ((f x y z : ℕ) → 0 < f → word_of s.words f ≡ x ∷ y ∷ z ∷ [] → P x y z)
      → (h : ℕ) → IsLive s h → 0 < face_of s h → P h (next_of s h) (prev_of s h)
  at_half P turn holds h live inner =
      let word = word_at h live inner in
      turned_along P turn word.a word.b word.c h (next_of s h) (prev_of s h) word.turn (holds (face_of s h) word.a word.b word.c inner word.is)

  -- and the other way round
  pub at_word : (P : ℕ → ℕ → ℕ → Type 0) → ((x y z : ℕ) → P x y z → P y z x) → ((h : ℕ) → IsLive s h → 0 < face_of s h → P h (next_of s h) (prev_of s h))
      → (f x y z : ℕ) → 0 < f → word_of s.words f ≡ x ∷ y ∷ z ∷ [] → P x y z
  at_word P turn holds f x y z inner is =
      let w = x ∷ next_of s x ∷ prev_of s x ∷ [] in
      let found : 0 < count_of x (word_of s.words f) = subst (λ (l : List ℕ). 0 < count_of x l) (sym is) (omega (arith, count-same x (y ∷ z ∷ []))) in
      let live : IsLive s x = live_in (map_of s) s.words (links_stand mesh.sound) x f found in
      let on : face_of s x ≡ f = face_in_word (map_of s) s.words (links_stand mesh.sound) x f found in
      let inside : 0 < face_of s x = omega (arith, on, inner) in
      let written : word_of s.words (face_of s x) ≡ from_least w =
      triangle_written (map_of s) (map-sound mesh.sound) (face_of s x) x (next_of s x) (prev_of s x) (round x live inside) s.words (links_stand mesh.sound) in
      let word : x ∷ y ∷ z ∷ [] ≡ from_least w = sym is ∙ ap (word_of s.words) (sym on) ∙ written in
      turned_along P turn x (next_of s x) (prev_of s x) x y z (subst (λ (l : List ℕ). TurnsTo w l) (sym word) (from_least-turn w)) (holds x live inside)

  -- in the plane it goes round counterclockwise
  pub left_at : (at : ℕ → Point) → TrianglesTurnLeft at s → (h : ℕ) → IsLive s h → 0 < face_of s h → TurnsLeft (at (origin_of s h)) (at (origin_of s (next_of s h))) (at (origin_of s (prev_of s h)))
  left_at at plane h live inner = left_of_triangle at s mesh.sound plane (face_of s h) h (next_of s h) (prev_of s h) inner (round h live inner)

  -- two half edges of one face
  pub same_face : (P : ℕ → ℕ → ℕ → Type 0) → ((x y z : ℕ) → P x y z → P y z x) → (h t : ℕ) → IsLive s h → 0 < face_of s h → IsLive s t → 0 < face_of s t
      → face_of s h ≡ face_of s t → P h (next_of s h) (prev_of s h) → P t (next_of s t) (prev_of s t)
  same_face P turn h t live_h inner_h live_t inner_t same is =
      let first = word_at h live_h inner_h in
      let second = word_at t live_t inner_t in
      let one : first.a ∷ first.b ∷ first.c ∷ [] ≡ second.a ∷ second.b ∷ second.c ∷ [] = sym first.is ∙ ap (word_of s.words) same ∙ second.is in
      turned_along P turn second.a second.b second.c t (next_of s t) (prev_of s t) second.turn
      (turned_along P turn h (next_of s h) (prev_of s h) second.a second.b second.c
      (subst (λ (l : List ℕ). TurnsTo (h ∷ next_of s h ∷ prev_of s h ∷ []) l) one (turns_back first.turn)) is)

  -- and of two faces
  module _ (at : ℕ → Point) (disjoint : HasDisjointTriangles at s) where
    abbrev p : ℕ → Point
    p h = at (origin_of s h)

    pub disjoint_halves : (h t : ℕ) → IsLive s h → 0 < face_of s h → IsLive s t → 0 < face_of s t → face_of s h ≢ face_of s t
        → AreDisjoint (p h) (p (next_of s h)) (p (prev_of s h)) (p t) (p (next_of s t)) (p (prev_of s t))
    disjoint_halves h t live_h inner_h live_t inner_t differ =
        let first = word_at h live_h inner_h in
        let second = word_at t live_t inner_t in
        let known = disjoint.disjoint (face_of s h) (face_of s t) first.a first.b first.c second.a second.b second.c
        inner_h inner_t differ first.is second.is in
        turned_along (λ x y z. AreDisjoint (p h) (p (next_of s h)) (p (prev_of s h)) (p x) (p y) (p z))
        (λ x y z apart pl one other. apart pl one (other.2, other.0, other.1)) second.a second.b second.c t (next_of s t) (prev_of s t) second.turn
        (turned_along (λ x y z. AreDisjoint (p x) (p y) (p z) (p second.a) (p second.b) (p second.c))
        (λ x y z apart pl one other. apart pl (one.2, one.0, one.1) other) first.a first.b first.c h (next_of s h) (prev_of s h) first.turn known)
