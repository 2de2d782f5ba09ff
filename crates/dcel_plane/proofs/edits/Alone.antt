-- Meshes with the outer face alone, and a triangle alone.
use Rattle.std.proofs.Common.{◌≡◌, ℕ, zero, suc, ◌*◌, ◌<◌, List, [], ◌∷◌, length, refl, sym, ap, ◌∙◌, arith}
use Rattle.std.proofs.lemmas.List.{get_or_past}
use Rattle.dcel_predicates.specs.declared.point.Point.{Point}
use Rattle.dcel_maps.specs.edits.Triangle.{triangle_alone}
use Rattle.dcel_maps.specs.Shapes.{IsMesh, Mesh, Shape, face_count}
use Rattle.dcel_maps.specs.Words.{word_of}
use Rattle.dcel_maps.proofs.Liveness.{even_live}
use Rattle.dcel_maps.proofs.shapes.Maps.{map-sound}
use Rattle.dcel_plane.specs.Plane.{IsLocallyDelaunay, TrianglesTurnLeft, TurnsLeft}
use Rattle.dcel_plane.proofs.edits.Corners.{LeftOf, left_same}

pub outer_alone_delaunay : {V DE UE F : Type 0} (at : ℕ → Point) (m : Mesh V DE UE F) → IsMesh m → face_count m.shape ≡ 1 → IsLocallyDelaunay at m.shape
outer_alone_delaunay at m mesh one = record {
  plane = record {
    left = λ f x y z inner is.
        absurd (let none = ap length (sym (get_or_past m.shape.words f [] (omega (arith, one, inner))) ∙ is) in omega (arith, none));
  };
  empty = λ u inner circled.
      let below = (map-sound mesh.sound).below_faces (2 * u) (even_live m.shape u inner.live) in
      omega (arith, below, one, inner.inner);
}

-- a triangle alone, without its data
abbrev words_alone : List (List ℕ)
words_alone = (0 ∷ 2 ∷ 4 ∷ []) ∷ (1 ∷ 5 ∷ 3 ∷ []) ∷ []

module _ (at : ℕ → Point) (s : Shape) (words : s.words ≡ words_alone) (left : LeftOf at s 1 5 3) where
  go : (f x y z : ℕ) → 0 < f → word_of words_alone f ≡ x ∷ y ∷ z ∷ [] → LeftOf at s x y z
  go zero x y z inner is = absurd (omega (arith, inner))
  go (suc zero) x y z inner is = left_same at s 1 5 3 x y z is left
  go (suc (suc f)) x y z inner is = absurd (let long = ap length is in omega (arith, long))

  so_written : TrianglesTurnLeft at s
  so_written = record { left = λ f x y z inner is. go f x y z inner (sym (ap (λ (l : List (List ℕ)). word_of l f) words) ∙ is) }

pub alone_in_plane : {V DE UE F : Type 0} (at : ℕ → Point) (vertices : V × V × V) (halves : List DE) (edges : List UE) (faces : List F)
    → TurnsLeft (at 1) (at 0) (at 2) → TrianglesTurnLeft at (triangle_alone vertices halves edges faces).shape
alone_in_plane at vertices halves edges faces left = so_written at (triangle_alone vertices halves edges faces).shape refl left
