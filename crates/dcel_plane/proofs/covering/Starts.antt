-- Half edges that there are: one of an inner face, and one at each vertex that has an edge.
use Rattle.std.proofs.Common.{◌≡◌, ◌∙◌, inl, inr, ℕ, ◌<◌, true, Option, Some, None, refl, ap, subst, arith}
use Rattle.dcel_maps.specs.Conditions.{IsUnconnected}
use Rattle.dcel_maps.specs.Removals.{Closed, gives_up_face}
use Rattle.dcel_maps.specs.Shapes.{AnchorsVertex, IsLive, IsMesh, Mesh, Shape, face_count, face_is_live, face_of, map_of, origin_of, vertex_anchor}
use Rattle.dcel_maps.specs.Words.{word_of}
use Rattle.dcel_maps.proofs.Liveness.{closed-vertex_live, gives_up_face-closed, is_live-from}
use Rattle.dcel_maps.proofs.shapes.Maps.{word_cases}
use Rattle.dcel_maps.proofs.walks.Links.{links_stand}
use Rattle.dcel_maps.proofs.words.Reading.{face_in_word, live_in}

module _ {V DE UE F : Type 0} (m : Mesh V DE UE F) (mesh : IsMesh m) (closed : m.shape.removal ≡ Closed) where
  abbrev s : Shape
  s = m.shape

  -- each face is live
  pub face_live : (f : ℕ) → f < face_count s → face_is_live s f ≡ true
  face_live f below = is_live-from (gives_up_face s.removal) (face_count s) f below (ap (λ r. gives_up_face r f) closed ∙ gives_up_face-closed f)

  -- the first inner face has a half edge
  pub inner_half : 1 < face_count s → (h : ℕ) × IsLive s h × (0 < face_of s h)
  inner_half more = elim (word_cases (word_of s.words 1)) [
    | inl none ↦ absurd (mesh.sound.inner 1 (omega arith) (face_live 1 more) none)
    | inr some ↦
        let stands = links_stand mesh.sound in
        let on = face_in_word (map_of s) s.words stands some.0 1 some.1 in
        (some.0, live_in (map_of s) s.words stands some.0 1 some.1, omega (arith, on))
  ]

  -- a vertex that has an edge is the start of a half edge
  pub out_of : (v : ℕ) → v < s.vertices → ¬ IsUnconnected s v → (h : ℕ) × IsLive s h × (origin_of s h ≡ v)
  out_of v below has = anchored (vertex_anchor m v) refl
    where
      anchored : (a : Option ℕ) → vertex_anchor m v ≡ a → (h : ℕ) × IsLive s h × (origin_of s h ≡ v)
      anchored None is =
          absurd
          (has (record {
            live = closed-vertex_live s closed v below;
            bare = subst (λ (a : Option ℕ). AnchorsVertex s v a) is (mesh.anchored.vertices v below);
          }))
      anchored (Some h) is = let found = subst (λ (a : Option ℕ). AnchorsVertex s v a) is (mesh.anchored.vertices v below) in (h, found.0, found.1)

  -- if each vertex has an edge, what holds of the start of each half edge holds of each vertex
  pub by_starts : ((v : ℕ) → v < s.vertices → ¬ IsUnconnected s v) → (P : ℕ → Type 0) → ((h : ℕ) → IsLive s h → P (origin_of s h)) → (v : ℕ) → v < s.vertices → P v
  by_starts connected P holds v below = let (h, live, is) = out_of v below (connected v below) in subst P is (holds h live)
