-- A vertex that is seen from a triangle lies in no circle on the way: its power doesn't fall where an edge is crossed towards it.
use Rattle.std.proofs.Common.{◌≡◌, ℕ, ◌/◌, ◌<◌, Bool, false, List, [], ◌∷◌, refl, sym, ap, ◌∙◌, subst, ℤ, pos, ◌-ℤ◌, ◌*ℤ◌, ◌<ℤ◌, ◌≤ℤ◌, arith}
use Rattle.std.proofs.lemmas.Int.{by_lt_z}
use Rattle.dcel_fixed.specs.HalfEdges.{rev}
use Rattle.dcel_fixed.proofs.Halves.{rev-rev}
use Rattle.dcel_predicates.specs.Determinants.{incircle_of, orient2d_of}
use Rattle.dcel_predicates.specs.declared.point.Point.{Point}
use Rattle.dcel_predicates.proofs.Points.{incircle-turned}
use Rattle.dcel_predicates.proofs.Points.{incircle-first, orient2d-first_swapped}
use Rattle.dcel_predicates.proofs.Signs.{negative_times, ordered, times_positive}
use Rattle.dcel_maps.specs.Shapes.{IsLive, IsMesh, Mesh, Shape, face_of, map_of, next_of, origin_of, prev_of}
use Rattle.dcel_maps.specs.Triangulations.{AllTriangles}
use Rattle.dcel_maps.specs.Words.{TurnsTo, count_of, word_of}
use Rattle.dcel_maps.proofs.maps.Soundness.{rev_live}
use Rattle.dcel_maps.proofs.walks.Links.{links_stand}
use Rattle.dcel_maps.proofs.words.Counts.{count-same}
use Rattle.dcel_maps.proofs.words.Reading.{face_in_word, live_in}
use Rattle.dcel_maps.proofs.words.Turns.{turns_back}
use Rattle.dcel_plane.specs.Plane.{IsCircled, IsInner, TrianglesTurnLeft}
use Rattle.dcel_plane.specs.covering.Delaunay.{HasCornerVertices}
use Rattle.dcel_plane.specs.covering.Sight.{LeadsTowards, SeesOver}
use Rattle.dcel_plane.proofs.edits.Corners.{turned_along}
use Rattle.dcel_plane.proofs.covering.Circled.{circled_edge}
use Rattle.dcel_plane.proofs.covering.Crossing.{crossing}
use Rattle.dcel_plane.proofs.covering.Numbered.{word_is}
use Rattle.dcel_plane.proofs.covering.Triangles.{left_at, same_face, word_at}

-- beyond the side from a to b of a triangle, in whose circle v lies, v lies in that of the triangle (b, a, d) too, if d doesn't
over_side : (a b c d v : Point) → pos 0 <ℤ orient2d_of a b c → pos 0 <ℤ orient2d_of b a d → ¬ (pos 0 <ℤ incircle_of a b c d) → orient2d_of a b v <ℤ pos 0
    → pos 0 <ℤ incircle_of a b c v → pos 0 <ℤ incircle_of b a d v
over_side a b c d v near far outside beyond inside =
    let turned : pos 0 <ℤ orient2d_of b a v = let e = orient2d-first_swapped a b v in omega (arith, ordered, e, beyond) in
    let first = times_positive (incircle_of a b c v) (orient2d_of b a d) inside far in
    let second : (incircle_of a b c d *ℤ orient2d_of b a v) ≤ℤ pos 0 =
    negative_times (incircle_of a b c d) (orient2d_of b a v) (by_lt_z (pos 0) (incircle_of a b c d) (λ is. absurd (outside is)) (λ not. not)) (omega (arith, ordered, turned)) in
    let product : pos 0 <ℤ (incircle_of b a d v *ℤ orient2d_of a b c) = greater (crossing a b c d v) first second in
    by_lt_z (pos 0) (incircle_of b a d v) (λ is. is)
    (λ not. let none = negative_times (incircle_of b a d v) (orient2d_of a b c) not (omega (arith, ordered, near)) in absurd (omega (arith, ordered, none, product)))
  where
    greater : {x y z : ℤ} → x ≡ y -ℤ z → pos 0 <ℤ y → z ≤ℤ pos 0 → pos 0 <ℤ x
    greater {x} {y} {z} is more less = omega (arith, ordered, is, more, less)

module _ {V DE UE F : Type 0} (hides : ℕ → Bool) (at : ℕ → Point) (m : Mesh V DE UE F) (mesh : IsMesh m) (triangles : AllTriangles m.shape)
    (plane : TrianglesTurnLeft at m.shape) (delaunay : (u : ℕ) → IsInner m.shape u → hides u ≡ false → ¬ IsCircled at m.shape u) (v : ℕ) where
  abbrev s : Shape
  s = m.shape

  abbrev p : ℕ → Point
  p h = at (origin_of s h)

  abbrev IsOutside : ℕ → ℕ → ℕ → Type 0
  IsOutside x y z = ¬ (pos 0 <ℤ incircle_of (p x) (p y) (p z) (at v))

  outside_turned : (x y z : ℕ) → IsOutside x y z → IsOutside y z x
  outside_turned x y z outside inside = outside (subst (λ i. pos 0 <ℤ i) (incircle-turned (p x) (p y) (p z) (at v)) inside)

  at_corner : (h : ℕ) → origin_of s h ≡ v → IsOutside h (next_of s h) (prev_of s h)
  at_corner h starts inside =
      let none : incircle_of (p h) (p (next_of s h)) (p (prev_of s h)) (at v) ≡ pos 0 =
      subst (λ (w : ℕ). incircle_of (p h) (p (next_of s h)) (p (prev_of s h)) (at w) ≡ pos 0) starts (incircle-first (p h) (p (next_of s h)) (p (prev_of s h))) in
      omega (arith, ordered, none, inside)

  -- one step towards v
  at_side : (h : ℕ) → LeadsTowards hides at s (face_of s h) v h → 0 < face_of s h → IsOutside (rev h) (next_of s (rev h)) (prev_of s (rev h)) → IsOutside h (next_of s h) (prev_of s h)
  at_side h leads inner beyond inside =
      let t = rev h in
      let live : IsLive s t = rev_live (map_of s) h leads.live in
      let ea : p (next_of s t) ≡ p h = ap at (sym (ap (origin_of s) (sym (rev-rev h)) ∙ sym (mesh.sound.joined t live))) in
      let eb : p (next_of s h) ≡ p t = ap at (mesh.sound.joined h leads.live) in
      let c = p (prev_of s h) in
      let d = p (prev_of s t) in
      let near = subst (λ (q : Point). pos 0 <ℤ orient2d_of (p h) q c) eb (left_at m mesh triangles at plane h leads.live inner) in
      let far = subst (λ (q : Point). pos 0 <ℤ orient2d_of (p t) q d) ea (left_at m mesh triangles at plane t live leads.behind) in
      let not_circled : ¬ (pos 0 <ℤ incircle_of (p h) (p t) c d) =
      λ circled. let (edge, is) = circled_edge m mesh triangles at h leads.live inner leads.behind circled in delaunay (h / 2) edge leads.clear is in
      let seen = over_side (p h) (p t) c d (at v) near far not_circled leads.beyond (subst (λ (q : Point). pos 0 <ℤ incircle_of (p h) q c (at v)) eb inside) in
      beyond (subst (λ (q : Point). pos 0 <ℤ incircle_of (p t) q d (at v)) (sym ea) seen)

  at_face : (f : ℕ) (way : List ℕ) → SeesOver hides at s f v way → (h : ℕ) → IsLive s h → face_of s h ≡ f → 0 < f → IsOutside h (next_of s h) (prev_of s h)
  at_face f [] sees h live on inner =
      let (k, live_k, on_k, starts) = sees in
      same_face m mesh triangles IsOutside outside_turned k h live_k (subst (λ (i : ℕ). 0 < i) (sym on_k) inner) live (subst (λ (i : ℕ). 0 < i) (sym on) inner) (on_k ∙ sym on) (at_corner k starts)
  at_face f (k ∷ way) sees h live on inner =
      let leads = sees.0 in
      let inner_k : 0 < face_of s k = subst (λ (i : ℕ). 0 < i) (sym leads.face) inner in
      let there = at_face (face_of s (rev k)) way sees.1 (rev k) (rev_live (map_of s) k leads.live) refl leads.behind in
      same_face m mesh triangles IsOutside outside_turned k h leads.live inner_k live (subst (λ (i : ℕ). 0 < i) (sym on) inner) (leads.face ∙ sym on)
      (at_side k (subst (λ (i : ℕ). LeadsTowards hides at s i v k) (sym leads.face) leads) inner_k there)

  pub not_in_circle : (f a b c : ℕ) (way : List ℕ) → HasCornerVertices s f a b c → SeesOver hides at s f v way → incircle_of (at a) (at b) (at c) (at v) ≤ℤ pos 0
  not_in_circle f a b c way corners sees =
      let face = word_is s f a b c corners in
      turned_along (λ a b c. incircle_of (at a) (at b) (at c) (at v) ≤ℤ pos 0)
      (λ a b c holds. subst (λ i. i ≤ℤ pos 0) (sym (incircle-turned (at a) (at b) (at c) (at v))) holds)
      (origin_of s face.x) (origin_of s face.y) (origin_of s face.z) a b c face.turn
      (by_lt_z (pos 0) (incircle_of (p face.x) (p face.y) (p face.z) (at v)) (λ inside. absurd (at_items face.x face.y face.z face.is inside)) (λ not. not))
    where
      at_items : (x y z : ℕ) → word_of s.words f ≡ x ∷ y ∷ z ∷ [] → IsOutside x y z
      at_items x y z is =
          let found : 0 < count_of x (word_of s.words f) = subst (λ (l : List ℕ). 0 < count_of x l) (sym is) (omega (arith, count-same x (y ∷ z ∷ []))) in
          let live : IsLive s x = live_in (map_of s) s.words (links_stand mesh.sound) x f found in
          let on : face_of s x ≡ f = face_in_word (map_of s) s.words (links_stand mesh.sound) x f found in
          let word = word_at m mesh triangles x live (subst (λ (i : ℕ). 0 < i) (sym on) corners.inner) in
          let one : x ∷ y ∷ z ∷ [] ≡ word.a ∷ word.b ∷ word.c ∷ [] = sym is ∙ ap (word_of s.words) (sym on) ∙ word.is in
          turned_along IsOutside outside_turned x (next_of s x) (prev_of s x) x y z
          (subst (λ (l : List ℕ). TurnsTo (x ∷ next_of s x ∷ prev_of s x ∷ []) l) (sym one) (turns_back word.turn)) (at_face f way sees x live on corners.inner)
