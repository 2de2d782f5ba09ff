-- All faces that are given up are taken out, from the largest down.
use Rattle.std.proofs.Common.{ℕ, ◌-◌, List, [], ◌∷◌, refl, subst}
use Rattle.dcel_maps.specs.Removals.{gives_up_edge, gives_up_face}
use Rattle.dcel_maps.specs.Renumbering.{face_taken_out, faces_taken_out, moved, new_number}
use Rattle.dcel_maps.specs.Shapes.{IsMesh, Mesh, Shape, face_count}
use Rattle.dcel_maps.specs.theory.Renumbering.{old_number}
use Rattle.dcel_maps.proofs.renumbering.Faces.{IsLastFaceOut, face-renamed, faces-left}
use Rattle.dcel_maps.proofs.renumbering.Meshes.{face_out-mesh}
use Rattle.dcel_maps.proofs.renumbering.Records.{without_face-loses}
use Rattle.dcel_maps.proofs.shapes.Chains.{renamed-then}
use Rattle.dcel_maps.proofs.shapes.Renames.{IsRenamed}
use Rattle.dcel_maps.proofs.shapes.SameNumbers.{same_numbers}
use Rattle.dcel_maps.proofs.renumbering.OneByOne.{GivenUp, TakesOut, first-given, first-largest, rest-listed}

-- the faces that a mesh has given up
abbrev pub ListsFaces : Shape → List ℕ → Type 0
ListsFaces = GivenUp face_count gives_up_face

module _ {V DE UE F : Type 0} where
  -- the first of them is the largest
  pub first-out : (m : Mesh V DE UE F) (d : ℕ) (ds : List ℕ) → IsMesh m → ListsFaces m.shape (d ∷ ds) → IsLastFaceOut m.shape d
  first-out m d ds mesh lists =
      let given = first-given (gives_up_face m.shape.removal) (face_count m.shape) d ds lists in
      record {
        given = given;
        largest = first-largest (gives_up_face m.shape.removal) (face_count m.shape) d ds lists;
        below = lists.down.0;
        inner = (mesh.sized.within.faces d given).0;
      }

  pub face_steps : TakesOut {V = V} {DE = DE} {UE = UE} {F = F} face_taken_out face_count gives_up_face gives_up_edge
  face_steps = record {
    loses = λ m d. without_face-loses m.shape.removal d;
    left = λ m d. faces-left m.shape d;
    mesh = λ m d ds mesh lists. face_out-mesh m d mesh (first-out m d ds mesh lists);
  }

  -- where each face has its new number
  pub faces_out-renamed : (m : Mesh V DE UE F) (ds : List ℕ) → IsMesh m → ListsFaces m.shape ds
      → IsRenamed m.shape (faces_taken_out m ds).shape (λ h. h) (λ h. h) (λ v. v) (λ v. v)
      (new_number (face_count m.shape) ds) (old_number (face_count m.shape) ds)
  unfolding new_number old_number
  faces_out-renamed m [] mesh lists = same_numbers m.shape m.shape.removal mesh.sound (λ u. refl) (λ g. refl) (λ v. refl)
  faces_out-renamed m (d ∷ ds) mesh lists =
      let out = first-out m d ds mesh lists in
      let last = face_count m.shape - 1 in
      let rest = faces_out-renamed (face_taken_out m d) ds (face_out-mesh m d mesh out) (rest-listed face_steps m d ds lists) in
      renamed-then m.shape (face_taken_out m d).shape (faces_taken_out (face_taken_out m d) ds).shape
      (λ h. h) (λ h. h) (λ v. v) (λ v. v) (moved last d) (moved d last)
      (λ h. h) (λ h. h) (λ v. v) (λ v. v) (new_number last ds) (old_number last ds)
      mesh.sound (face-renamed m.shape d mesh.sound out)
      (subst (λ n. IsRenamed (face_taken_out m d).shape (faces_taken_out (face_taken_out m d) ds).shape (λ h. h) (λ h. h) (λ v. v) (λ v. v)
      (new_number n ds) (old_number n ds)) (faces-left m.shape d) rest)
