-- The corners of the faces of a mesh in which no removal is open, one face after another.
use Rattle.std.proofs.Common.{◌≡◌, ◌∙◌, ℕ, ◌+◌, ◌-◌, ◌<◌, true, List, [], ◌∷◌, ◌++◌, length, map, slice_index_or, refl, sym, ap, arith}
use Rattle.std.proofs.lemmas.List.{append-nil, get_or-map, length-map}
use Rattle.std.proofs.lemmas.List.Elements.{All-head, All-tail}
use Rattle.std.specs.List.{All}
use Rattle.dcel_exchange.specs.FaceCorners.{AreCorners, corners_round}
use Rattle.dcel_exchange.proofs.FaceWords.{number_at}
use Rattle.dcel_exchange.proofs.Ranges.{all_numbers}
use Rattle.dcel_maps.specs.Kinds.{Faces}
use Rattle.dcel_maps.specs.Numbers.{numbers_between}
use Rattle.dcel_maps.specs.Removals.{Closed, gives_up_face}
use Rattle.dcel_maps.specs.Shapes.{IsMesh, Mesh, face_anchor, face_count, face_is_live, origin_of}
use Rattle.dcel_maps.specs.Walking.{in_mesh}
use Rattle.dcel_maps.proofs.Liveness.{gives_up_face-closed, is_live-from}
use Rattle.dcel_maps.proofs.walks.Faces.{anchor-turn}
use Rattle.dcel_maps.proofs.walks.Numbers.{length-numbers}
use Rattle.spade_dcel.specs.Faces.{face_edges_of}
use Rattle.spade_dcel.specs.Live.{live_ones}

-- where nothing is to come, a list is the whole one
pub joined_all : {T : Type 0} (list rest all : List T) → list ++ rest ≡ all → rest ≡ [] → list ≡ all
joined_all list rest all so_far none = sym (append-nil list) ∙ ap (λ xs. list ++ xs) (sym none) ∙ so_far

module _ {V DE UE F : Type 0} (m : Mesh V DE UE F) where
  -- where the half edges that a walk gives start
  pub corners_given : (numbers : List ℕ) → map (λ edge. origin_of edge.0.shape edge.1) (in_mesh m numbers) ≡ map (origin_of m.shape) numbers
  corners_given [] = refl
  corners_given (h ∷ rest) = ap (λ list. origin_of m.shape h ∷ list) (corners_given rest)

  module _ (closed : m.shape.removal ≡ Closed) where
    -- each face is live
    pub live_face : (f : ℕ) → f < face_count m.shape → face_is_live m.shape f ≡ true
    live_face f below = is_live-from (gives_up_face m.shape.removal) (face_count m.shape) f below (rw closed (gives_up_face-closed f))

    -- so the corners of the live ones are the corners of all
    faces_given : (numbers : List ℕ) → All (λ f. f < face_count m.shape) numbers
        → map (λ face. corners_round face.0 face.1) (live_ones Faces (in_mesh m numbers)) ≡ map (corners_round m) numbers
    faces_given [] below = refl
    faces_given (f ∷ rest) below =
        rw (live_face f (All-head (λ k. k < face_count m.shape) f rest below))
        (ap (λ list. corners_round m f ∷ list) (faces_given rest (All-tail (λ k. k < face_count m.shape) f rest below)))

    pub faces_all : (elements : List (Mesh V DE UE F × ℕ)) → elements ≡ live_ones Faces (in_mesh m (numbers_between 1 (face_count m.shape)))
        → map (λ face. corners_round face.0 face.1) elements ≡ map (corners_round m) (numbers_between 1 (face_count m.shape))
    faces_all elements are = rw are (faces_given (numbers_between 1 (face_count m.shape)) (all_numbers 1 (face_count m.shape)))

  -- the corners of all faces are those round their words
  pub corners_turn : IsMesh m → (lists : List (List ℕ)) → lists ≡ map (corners_round m) (numbers_between 1 (face_count m.shape)) → AreCorners m.shape lists
  corners_turn mesh lists are =
      let outer = mesh.sized.outer in
      let long : length lists ≡ face_count m.shape - 1 = ap length are ∙ length-map (numbers_between 1 (face_count m.shape)) (corners_round m) ∙ length-numbers 1 (face_count m.shape) in
      record {
        as_many = omega arith;
        each = λ f below.
            let few : f < length (numbers_between 1 (face_count m.shape)) = omega (arith, below, long, length-numbers 1 (face_count m.shape)) in
            let at = number_at 1 (face_count m.shape) f (omega (arith, below, long)) in
            let number : 1 + f ≡ f + 1 = omega arith in (
              face_edges_of m (f + 1),
              anchor-turn mesh.sound (f + 1) (face_anchor m (f + 1)) (mesh.anchored.faces (f + 1) (omega (arith, below, long))),
              ap (λ list. slice_index_or list f []) are ∙ get_or-map (corners_round m) (numbers_between 1 (face_count m.shape)) f 0 [] few
                  ∙ ap (corners_round m) (at ∙ number),
            );
      }
