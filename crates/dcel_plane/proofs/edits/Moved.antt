-- Where the vertices of a mesh stand matters, and where other numbers would stand does not.
use Rattle.std.proofs.Common.{◌≡◌, ℕ, ◌+◌, ◌*◌, ◌<◌, List, [], ◌∷◌, length, sym, ap, ◌∙◌, subst, arith}
use Rattle.std.proofs.lemmas.List.{get_or-append-add, get_or_append_left}
use Rattle.dcel_predicates.specs.declared.point.Point.{Point}
use Rattle.dcel_maps.specs.edits.Create.{vertex_appended}
use Rattle.dcel_maps.specs.Shapes.{IsLive, IsMesh, IsSound, Mesh, Shape, map_of, origin_of, prev_of}
use Rattle.dcel_maps.specs.Words.{count_of}
use Rattle.dcel_maps.proofs.Liveness.{even_live, odd_live}
use Rattle.dcel_maps.proofs.shapes.Maps.{map-sound}
use Rattle.dcel_maps.proofs.walks.Links.{links_stand}
use Rattle.dcel_maps.proofs.words.Counts.{count-later, count-same}
use Rattle.dcel_maps.proofs.words.Reading.{live_in}
use Rattle.dcel_plane.specs.Plane.{IsCircled, IsInner, ListsCircled, TrianglesTurnLeft, TurnsLeft, origin_point, point_at}
use Rattle.dcel_plane.proofs.edits.Written.{circle_at}

module _ (at to : ℕ → Point) (s : Shape) (sound : IsSound s) (same : (v : ℕ) → v < s.vertices → at v ≡ to v) where
  stands_same : (h : ℕ) → IsLive s h → at (origin_of s h) ≡ to (origin_of s h)
  stands_same h live = same (origin_of s h) ((map-sound sound).below_vertices h live)

  left_same_place : {a b c a' b' c' : Point} → a ≡ a' → b ≡ b' → c ≡ c' → TurnsLeft a b c → TurnsLeft a' b' c'
  left_same_place {a} {b} {c} {a'} {b'} {c'} ea eb ec left =
      subst (λ (p : Point). TurnsLeft a' b' p) ec (subst (λ (p : Point). TurnsLeft a' p c) eb (subst (λ (p : Point). TurnsLeft p b c) ea left))

  pub moved_plane : TrianglesTurnLeft at s → TrianglesTurnLeft to s
  moved_plane plane = record {
    left = λ f x y z inner is.
        let found : (h : ℕ) → 0 < count_of h (x ∷ y ∷ z ∷ []) → at (origin_of s h) ≡ to (origin_of s h) =
        λ h there. stands_same h (live_in (map_of s) s.words (links_stand sound) h f (subst (λ (w : List ℕ). 0 < count_of h w) (sym is) there)) in
        left_same_place (found x (omega (arith, count-same x (y ∷ z ∷ []))))
        (found y (count-later y x (y ∷ z ∷ []) (omega (arith, count-same y (z ∷ [])))))
        (found z (count-later z x (y ∷ z ∷ []) (count-later z y (z ∷ []) (omega (arith, count-same z [])))))
        (plane.left f x y z inner is);
  }

  pub moved_circled : (u : ℕ) → IsInner s u → IsCircled to s u → IsCircled at s u
  moved_circled u inner circled =
      let live_e : IsLive s (2 * u) = even_live s u inner.live in
      let live_t : IsLive s (2 * u + 1) = odd_live s u inner.live in
      let back = map-sound sound in
      circle_at (sym (stands_same (2 * u) live_e)) (sym (stands_same (2 * u + 1) live_t))
      (sym (stands_same (prev_of s (2 * u)) (back.live_prev (2 * u) live_e)))
      (sym (stands_same (prev_of s (2 * u + 1)) (back.live_prev (2 * u + 1) live_t))) circled

  pub moved_lists : (due : List ℕ) → ListsCircled at s due → ListsCircled to s due
  moved_lists due lists u inner circled = lists u inner (moved_circled u inner circled)

-- a vertex that is appended: it stands where its datum says, and nothing else moves
module _ {DE UE F : Type 0} (m : Mesh Point DE UE F) (mesh : IsMesh m) (p : Point) where
  abbrev after : Mesh Point DE UE F
  after = vertex_appended m p

  pub appended_stands : point_at after m.shape.vertices ≡ p
  appended_stands =
      let place : m.shape.vertices ≡ length m.vertex_data + 0 = omega (arith, mesh.sized.vertex_data) in
      ap (point_at after) place ∙ get_or-append-add m.vertex_data (p ∷ []) 0 origin_point

  pub others_stand : (v : ℕ) → v < m.shape.vertices → point_at m v ≡ point_at after v
  others_stand v below = sym (get_or_append_left m.vertex_data (p ∷ []) origin_point v (omega (arith, below, mesh.sized.vertex_data)))

  pub appended_plane : TrianglesTurnLeft (point_at m) m.shape → TrianglesTurnLeft (point_at after) after.shape
  appended_plane plane = let is = moved_plane (point_at m) (point_at after) m.shape mesh.sound others_stand plane in record { left = is.left }

  pub appended_lists : (due : List ℕ) → ListsCircled (point_at m) m.shape due → ListsCircled (point_at after) after.shape due
  appended_lists due lists u inner circled =
      moved_lists (point_at m) (point_at after) m.shape mesh.sound others_stand due lists u
      record { live = inner.live; triangle = record { live = inner.triangle.live; three = inner.triangle.three }; facing = record { live = inner.facing.live; three = inner.facing.three }; inner = inner.inner; inner_facing = inner.inner_facing } circled
