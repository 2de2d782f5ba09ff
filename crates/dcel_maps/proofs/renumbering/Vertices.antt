-- A vertex where no edge starts is taken out: what is left is sound, and a sphere.
use Rattle.std.proofs.Common.{◌≡◌, ◌≢◌, ℕ, ◌-◌, ◌*◌, ◌/◌, ◌<◌, true, false, not, length, nat_lt, ◌&&◌, refl, sym, ap, ◌∙◌, arith, inl, inr, eq-eqb, eqb-true, map}
use Rattle.std.proofs.lemmas.Bool.{both_ways, false≢true}
use Rattle.std.proofs.lemmas.List.{get_or-map}
use Rattle.dcel_maps.specs.Conditions.{CanSwapRemove, IsUnconnected}
use Rattle.dcel_maps.specs.Removals.{Closed, gives_up_edge, gives_up_face, gives_up_vertex, Cleaned, IsWithin}
use Rattle.dcel_maps.specs.Renumbering.{moved, shape_without_vertex}
use Rattle.dcel_maps.specs.Shapes.{IsLive, IsSound, Shape, edge_is_live, face_count, origin_of, vertex_is_live, IsMesh, Mesh}
use Rattle.dcel_maps.proofs.Liveness.{gives_up_edge-closed, gives_up_face-closed, gives_up_vertex-closed, is_live-from, is_live-parts}
use Rattle.dcel_maps.proofs.renumbering.Moves.{moved-back, moved-below}
use Rattle.dcel_maps.proofs.shapes.Renames.{IsRenamed}
use Rattle.dcel_maps.proofs.shapes.SameNumbers.{faces_same}

-- no live half edge starts at d, and nothing else is given up
pub record IsOnlyOut (s : Shape) (d : ℕ) : Type 0 where
  pub below : d < s.vertices
  pub bare : (h : ℕ) → IsLive s h → origin_of s h ≢ d
  pub no_vertex : (v : ℕ) → gives_up_vertex s.removal v ≡ true → v ≡ d
  pub no_edge : (u : ℕ) → gives_up_edge s.removal u ≡ false
  pub no_face : (g : ℕ) → gives_up_face s.removal g ≡ false
  pub origins : length s.origins ≡ 2 * s.edges

-- where no removal is open, and where the vertex alone is still given up
closed-out : (s : Shape) → s.removal ≡ Closed → length s.origins ≡ 2 * s.edges → (d : ℕ) → IsUnconnected s d → IsOnlyOut s d
closed-out s closed long d alone = record {
  below = (is_live-parts (gives_up_vertex s.removal) s.vertices d alone.live).0;
  bare = alone.bare;
  no_vertex = λ v given. absurd (false≢true (sym (gives_up_vertex-closed v) ∙ ap (λ r. gives_up_vertex r v) (sym closed) ∙ given));
  no_edge = λ u. ap (λ r. gives_up_edge r u) closed ∙ gives_up_edge-closed u;
  no_face = λ g. ap (λ r. gives_up_face r g) closed ∙ gives_up_face-closed g;
  origins = long;
}

cleaned-out : (s : Shape) → IsSound s → IsWithin s.removal s.vertices s.edges (face_count s) → length s.origins ≡ 2 * s.edges
    → (d : ℕ) → s.removal ≡ Cleaned d → IsOnlyOut s d
unfolding gives_up_vertex gives_up_edge gives_up_face
cleaned-out s sound within long d cleaned =
    let gone : gives_up_vertex s.removal d ≡ true = ap (λ r. gives_up_vertex r d) cleaned ∙ eq-eqb d d refl in
    record {
      below = within.vertices d gone;
      bare = λ h live starts.
          both_ways (gives_up_vertex s.removal d)
          (ap (gives_up_vertex s.removal) (sym starts)
          ∙ (is_live-parts (gives_up_vertex s.removal) s.vertices (origin_of s h) (sound.starts_live h live)).1) gone;
      no_vertex = λ v given. sym (eqb-true d v (sym (ap (λ r. gives_up_vertex r v) cleaned) ∙ given));
      no_edge = λ u. ap (λ r. gives_up_edge r u) cleaned;
      no_face = λ g. ap (λ r. gives_up_face r g) cleaned;
      origins = long;
    }

pub can_swap_remove-out : {V DE UE F : Type 0} (m : Mesh V DE UE F) → IsMesh m → (d : ℕ) → CanSwapRemove m.shape d → IsOnlyOut m.shape d
can_swap_remove-out m mesh d can = elim can [
  | inl closed ↦ closed-out m.shape closed.0 mesh.sized.origins d closed.1
  | inr cleaned ↦ cleaned-out m.shape mesh.sound mesh.sized.within mesh.sized.origins d cleaned
]

module _ (s : Shape) (d : ℕ) (sound : IsSound s) (out : IsOnlyOut s d) where
  edge-live : (u : ℕ) → edge_is_live (shape_without_vertex s d) u ≡ edge_is_live s u
  edge-live u = ap (λ b. nat_lt u s.edges && not b) (gives_up_edge-closed u ∙ sym (out.no_edge u))

  origin-moved : (x : ℕ) → IsLive s x → origin_of (shape_without_vertex s d) x ≡ moved (s.vertices - 1) d (origin_of s x)
  origin-moved x live =
      let is = (is_live-parts (gives_up_edge s.removal) s.edges (x / 2) live).0 in
      get_or-map (moved (s.vertices - 1) d) s.origins x 0 0 (omega (arith, is, out.origins))

  vertex-live : (x : ℕ) → IsLive s x → vertex_is_live (shape_without_vertex s d) (moved (s.vertices - 1) d (origin_of s x)) ≡ true
  vertex-live x live =
      let is = (is_live-parts (gives_up_vertex s.removal) s.vertices (origin_of s x) (sound.starts_live x live)).0 in
      is_live-from (gives_up_vertex Closed) (s.vertices - 1) (moved (s.vertices - 1) d (origin_of s x))
      (moved-below (s.vertices - 1) d (origin_of s x) (omega (arith, out.below)) (omega (arith, is)) (out.bare x live))
      (gives_up_vertex-closed (moved (s.vertices - 1) d (origin_of s x)))

  -- one step of renumbering gives the vertices other numbers
  pub vertex-renamed : IsRenamed s (shape_without_vertex s d) (λ h. h) (λ h. h) (moved (s.vertices - 1) d) (moved d (s.vertices - 1)) (λ g. g) (λ g. g)
  vertex-renamed = record {
    lives = λ x live. edge-live (x / 2) ∙ live;
    comes = λ y live. sym (edge-live (y / 2)) ∙ live;
    forth = λ x live. refl;
    back = λ y live. refl;
    turn = λ x. refl;
    origin = origin-moved;
    vertex = vertex-live;
    vertex_forth = λ x live. moved-back (s.vertices - 1) d (origin_of s x) (out.bare x live);
    on_faces =
        faces_same s (s.vertices - 1) (map (moved (s.vertices - 1) d) s.origins) Closed sound (λ g. gives_up_face-closed g ∙ sym (out.no_face g));
  }
