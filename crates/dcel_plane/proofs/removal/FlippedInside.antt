-- A flip between two inner triangles leaves the outer face as it is.
use Rattle.std.proofs.Common.{◌≡◌, ℕ, ◌+◌, ◌*◌, ◌<◌, List, sym, ap, ◌∙◌, subst}
use Rattle.dcel_fixed.specs.HalfEdges.{rev}
use Rattle.dcel_fixed.proofs.Halves.{rev-double, rev-double-suc, rev-rev}
use Rattle.dcel_maps.specs.Conditions.{CanFlip}
use Rattle.dcel_maps.specs.edits.Flip.{edge_flipped}
use Rattle.dcel_maps.specs.Shapes.{IsLive, IsMesh, Mesh, Shape, end_of, face_of, map_of, origin_of}
use Rattle.dcel_maps.specs.Words.{count_of, word_of}
use Rattle.dcel_maps.proofs.edits.Flips.{flipped_mesh}
use Rattle.dcel_maps.proofs.maps.Soundness.{rev_live}
use Rattle.dcel_maps.proofs.walks.Links.{links_stand}
use Rattle.dcel_maps.proofs.words.Reading.{face_in_word, stands_in_face}
use Rattle.dcel_plane.specs.Plane.{origin_point}
use Rattle.dcel_plane.proofs.edits.Flipped.{origin_same}
use Rattle.dcel_plane.proofs.hull.Keeping.{away, outer_word}

module _ {V DE UE F : Type 0} (m : Mesh V DE UE F) (mesh : IsMesh m) (u : ℕ) (can : CanFlip m.shape u) (inner : 0 < face_of m.shape (2 * u)) (facing : 0 < face_of m.shape (2 * u + 1)) where
  abbrev s : Shape
  s = m.shape

  abbrev n : Shape
  n = (edge_flipped m u).shape

  pub outer_start : (x : ℕ) → IsLive m.shape x → face_of m.shape x ≡ 0 → origin_of (edge_flipped m u).shape x ≡ origin_of m.shape x
  outer_start x live on = let off = away m mesh u can (λ v. origin_point) inner facing x on in origin_same m mesh u can (λ v. origin_point) x live off.0 off.1

  pub outer_end : (x : ℕ) → IsLive m.shape x → face_of m.shape x ≡ 0 → end_of (edge_flipped m u).shape x ≡ end_of m.shape x
  outer_end x live on =
      let off = away m mesh u can (λ v. origin_point) inner facing x on in
      origin_same m mesh u can (λ v. origin_point) (rev x) (rev_live (map_of s) x live)
      (λ is. off.1 (sym (rev-rev x) ∙ ap rev is ∙ rev-double u))
      (λ is. off.0 (sym (rev-rev x) ∙ ap rev is ∙ rev-double-suc u))

  pub outer_stays : (x : ℕ) → IsLive m.shape x → face_of m.shape x ≡ 0 → face_of (edge_flipped m u).shape x ≡ 0
  outer_stays x live on =
      face_in_word (map_of n) n.words (links_stand (flipped_mesh m u mesh can).sound) x 0
      (subst (λ (l : List ℕ). 0 < count_of x l) (sym (outer_word m mesh u can (λ v. origin_point) inner facing))
      (subst (λ (f : ℕ). 0 < count_of x (word_of s.words f)) on (stands_in_face (map_of s) s.words (links_stand mesh.sound) x live)))
