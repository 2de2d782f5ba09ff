-- Triangles put beside an edge of the outer face of a mesh in the plane, and closed on it.
use Rattle.std.proofs.Common.{◌≡◌, ℕ, ◌+◌, ◌*◌, ◌/◌, ◌<◌, List, [], ◌∷◌, ◌++◌, refl, sym, ◌∙◌, arith}
use Rattle.dcel_predicates.specs.declared.point.Point.{Point}
use Rattle.dcel_maps.specs.Cyclic.{from_least}
use Rattle.dcel_maps.specs.edits.Outside.{face_closed, face_put_beside}
use Rattle.dcel_maps.specs.Shapes.{IsLive, IsMesh, Mesh, Shape, end_of, face_of, next_of, origin_of}
use Rattle.dcel_maps.specs.Words.{become, count_of, word_of}
use Rattle.dcel_maps.proofs.edits.Patches.{Patch, pushing}
use Rattle.dcel_maps.proofs.shapes.Maps.{map-sound}
use Rattle.dcel_maps.proofs.words.Mapped.{count-at}
use Rattle.dcel_plane.specs.Edges.{edges_put_beside, edges_closed}
use Rattle.dcel_plane.specs.Plane.{IsLeftOf, ListsCircled, TrianglesTurnLeft}
use Rattle.dcel_plane.proofs.edits.Corners.{corners_are, left-from_least, left_same, of_least, of_three}
use Rattle.dcel_plane.proofs.edits.Splits.{listed_as}
use Rattle.dcel_plane.proofs.edits.Written.{IsWritten, origin_away, origin_more, written_lists, written_plane}

module _ {V DE UE F : Type 0} (m : Mesh V DE UE F) (mesh : IsMesh m) (e : ℕ) (live : IsLive m.shape e) (halves : List DE) (edges : List UE) (faces : List F) (at : ℕ → Point) where
  abbrev s : Shape
  s = m.shape

  abbrev n : ℕ
  n = 2 * m.shape.edges

  -- a triangle with a new corner
  module _ (tip : ℕ) (outer : face_of m.shape e ≡ 0) where
    abbrev r : Shape
    r = (face_put_beside m e tip halves edges faces).shape

    abbrev words : Patch (List ℕ)
    words = record {
      set = (face_of s e, from_least (become e ((n + 3) ∷ (n + 1) ∷ []) (word_of s.words (face_of s e)))) ∷ [];
      more = (e ∷ n ∷ (n + 2) ∷ []) ∷ [];
    }

    abbrev origins : Patch ℕ
    origins = pushing (end_of s e ∷ tip ∷ tip ∷ origin_of s e ∷ [])

    written : IsWritten s r words origins
    written = record { words_are = refl; origins_are = refl; many = mesh.sized.origins; starts_stay = λ h lives inner away. tt }

    pub beside_plane : IsLeftOf at s (at tip) e → TrianglesTurnLeft at s → TrianglesTurnLeft at r
    beside_plane left plane =
        let starts = origin_more at s r words origins written mesh.sound in
        written_plane at s r words origins written mesh.sound plane
        (λ x y z inner is. absurd (omega (arith, inner, outer)), tt) (
          (λ x y z inner is.
              left_same at r e n (n + 2) x y z is
              (corners_are at (sym (origin_away at s r words origins written mesh.sound e live tt)) (sym (starts n 0 (omega arith))) (sym (starts (n + 2) 2 refl)) left)),
          tt,
        )

    pub beside_lists : (due : List ℕ) → IsMesh (face_put_beside m e tip halves edges faces) → ListsCircled at s due → ListsCircled at r (due ++ edges_put_beside s e)
    beside_lists due result lists =
        let list = edges_put_beside s e in
        let k = s.edges in
        let at_0 = listed_as list n k (omega arith) (count-at list 1 0 (omega arith)) in
        let at_2 = listed_as list (n + 2) (k + 1) (omega arith) (count-at list 2 0 (omega arith)) in
        written_lists at s r words origins written mesh.sound list due result.sound
        (λ inner h found. absurd (omega (arith, inner, outer)), tt)
        (λ inner h found. of_three (λ x. 0 < count_of (x / 2) list) e n (n + 2) h (count-at list 0 0 (omega arith)) at_0 at_2 found, tt)
        lists

  -- a triangle between e and the next half edge
  abbrev x : ℕ
  x = next_of m.shape e

  abbrev q : Shape
  q = (face_closed m e halves edges faces).shape

  abbrev closing_words : Patch (List ℕ)
  closing_words = record {
    set = (0, from_least (become x [] (become e ((n + 1) ∷ []) (word_of s.words 0)))) ∷ [];
    more = from_least (e ∷ x ∷ n ∷ []) ∷ [];
  }

  abbrev closing_origins : Patch ℕ
  closing_origins = pushing (end_of s x ∷ origin_of s e ∷ [])

  closing_written : IsWritten s q closing_words closing_origins
  closing_written = record { words_are = refl; origins_are = refl; many = mesh.sized.origins; starts_stay = λ h lives inner away. tt }

  closing_old : (h : ℕ) → IsLive s h → origin_of s h ≡ origin_of q h
  closing_old h lives = sym (origin_away at s q closing_words closing_origins closing_written mesh.sound h lives tt)

  pub closed_plane : IsLeftOf at s (at (end_of s x)) e → TrianglesTurnLeft at s → TrianglesTurnLeft at q
  closed_plane left plane =
      let starts = origin_more at s q closing_words closing_origins closing_written mesh.sound in
      let live_x : IsLive s x = (map-sound mesh.sound).live_next e live in
      written_plane at s q closing_words closing_origins closing_written mesh.sound plane
      (λ a b c inner is. absurd (omega (arith, inner)), tt) (
        (λ a b c inner is.
            left-from_least at q e x n a b c is
            (corners_are at (closing_old e live) (sym (mesh.sound.joined e live) ∙ closing_old x live_x) (sym (starts n 0 (omega arith))) left)),
        tt,
      )

  pub closed_lists : (due : List ℕ) → IsMesh (face_closed m e halves edges faces) → ListsCircled at s due → ListsCircled at q (due ++ edges_closed s e)
  closed_lists due result lists =
      let list = edges_closed s e in
      let at_0 = listed_as list n s.edges (omega arith) (count-at list 2 0 (omega arith)) in
      written_lists at s q closing_words closing_origins closing_written mesh.sound list due result.sound
      (λ inner h found. absurd (omega (arith, inner)), tt)
      (λ inner h found. of_least (λ y. 0 < count_of (y / 2) list) e x n h (count-at list 0 0 (omega arith)) (count-at list 1 0 (omega arith)) at_0 found, tt)
      lists
