-- Each border loop of a vertex that was inserted into a triangle is the triangle, and gives back its word.
use Rattle.std.proofs.Common.{◌≡◌, inl, inr, ◌+◌, ◌*◌, ◌<◌, ◌≤◌, ℕ, List, [], ◌∷◌, length, map, reverse, sym, refl, ap, ◌∙◌, subst, arith}
use Rattle.dcel_maps.specs.Borders.{IsBorderLoop}
use Rattle.dcel_maps.specs.Conditions.{IsTriangle}
use Rattle.dcel_maps.specs.Cyclic.{from_least}
use Rattle.dcel_maps.specs.Shapes.{AnchorsWord, IsMesh, Mesh, Shape, adjacent_edge_of, face_count, map_of, next_of, prev_of}
use Rattle.dcel_maps.specs.Walking.{ccw_of, walk_of}
use Rattle.dcel_maps.specs.Words.{TurnsTo, count_of, word_of}
use Rattle.dcel_maps.specs.edits.Triangle.{vertex_inserted}
use Rattle.dcel_maps.proofs.removal.Inserted.{anchor-is, face-below, inserted-outs, ring_1, ring_3, ring_5}
use Rattle.dcel_maps.proofs.walks.Links.{links_stand}
use Rattle.dcel_maps.proofs.walks.Turning.{mesh-out_edges}
use Rattle.dcel_maps.proofs.words.Counts.{first_or_later}
use Rattle.dcel_maps.proofs.words.Cyclic.{from_least-same}
use Rattle.dcel_maps.proofs.words.Reading.{count-le, face_in_word, live_in}
use Rattle.dcel_maps.proofs.words.Triangles.{triangle_turn}
use Rattle.dcel_maps.proofs.words.Turns.{count-turn, from_least-is, turns_back}

-- a ring of three that is the cyclic list w, written from its least item
pub record IsThreeOf (w ring : List ℕ) : Type 0 where
  pub p : ℕ
  pub q : ℕ
  pub r : ℕ
  pub is : ring ≡ p ∷ q ∷ r ∷ []
  pub word : from_least (p ∷ q ∷ r ∷ []) ≡ w

module _ {V DE UE F : Type 0} (m : Mesh V DE UE F) (v f : ℕ) (halves : List DE) (edges : List UE) (faces : List F) (mesh : IsMesh m) (after : IsMesh (vertex_inserted m v f halves edges faces)) (v_below : v < m.shape.vertices) (triangle : IsTriangle m.shape f) where
  abbrev s : Shape
  s = (vertex_inserted m v f halves edges faces).shape

  abbrev n : ℕ
  n = 2 * m.shape.edges

  abbrev a : ℕ
  a = adjacent_edge_of m f

  abbrev b : ℕ
  b = next_of m.shape (adjacent_edge_of m f)

  abbrev c : ℕ
  c = prev_of m.shape (adjacent_edge_of m f)

  f_below : f < face_count m.shape
  f_below = face-below m f mesh triangle

  stands_a : 0 < count_of a (word_of m.shape.words f)
  stands_a =
      subst (AnchorsWord (word_of m.shape.words f)) (anchor-is m f mesh triangle) (mesh.anchored.faces f f_below)

  turn : TurnsTo (word_of m.shape.words f) (a ∷ b ∷ c ∷ [])
  turn =
      let st = links_stand mesh.sound in
      let live = live_in (map_of m.shape) m.shape.words st a f stands_a in
      let at = face_in_word (map_of m.shape) m.shape.words st a f stands_a in
      subst (λ g. TurnsTo (word_of m.shape.words g) (a ∷ b ∷ c ∷ [])) at
      (triangle_turn (map_of m.shape) m.shape.words st a live (ap (λ g. length (word_of m.shape.words g)) at ∙ triangle.three))

  single : (h : ℕ) → count_of h (a ∷ b ∷ c ∷ []) ≤ 1
  single h = omega (arith, count-turn h turn, count-le (map_of m.shape) m.shape.words (links_stand mesh.sound) h f)

  least_abc : from_least (a ∷ b ∷ c ∷ []) ≡ word_of m.shape.words f
  least_abc = from_least-is (turns_back turn) (mesh.sound.least_first f) single

  turned : (w : List ℕ) → TurnsTo (a ∷ b ∷ c ∷ []) w → from_least w ≡ word_of m.shape.words f
  turned w t = sym (from_least-same t single) ∙ least_abc

  pub inserted-ring : (border : List ℕ) → IsBorderLoop s border v → IsThreeOf (word_of m.shape.words f) (reverse border)
  inserted-ring border l =
      let outs = mesh-out_edges after v v_below in
      let found : 0 < count_of l.first ((n + 1) ∷ (n + 3) ∷ (n + 5) ∷ []) =
      subst (λ (w : List ℕ). 0 < count_of l.first w) (inserted-outs m v f halves edges faces mesh after v_below f_below)
      (let each = outs.each l.first l.out in omega (arith, each)) in
      let from : (h : ℕ) → l.first ≡ h → reverse border ≡ map (next_of s) (walk_of s (ccw_of s) h) =
      λ h same. l.ring ∙ ap (λ z. map (next_of s) (walk_of s (ccw_of s) z)) same in
      elim (first_or_later l.first (n + 1) ((n + 3) ∷ (n + 5) ∷ []) found) [
        | inl at ↦ record {
          p = b;
          q = c;
          r = a;
          is = from (n + 1) at ∙ ring_1 m v f halves edges faces mesh after v_below f_below;
          word = turned (b ∷ c ∷ a ∷ []) (record { front = a ∷ []; back = b ∷ c ∷ []; was = refl; is = refl });
        }
        | inr later ↦ elim (first_or_later l.first (n + 3) ((n + 5) ∷ []) later) [
          | inl at ↦ record {
            p = c;
            q = a;
            r = b;
            is = from (n + 3) at ∙ ring_3 m v f halves edges faces mesh after v_below f_below;
            word = turned (c ∷ a ∷ b ∷ []) (record { front = a ∷ b ∷ []; back = c ∷ []; was = refl; is = refl });
          }
          | inr last ↦ elim (first_or_later l.first (n + 5) [] last) [
            | inl at ↦ record {
              p = a;
              q = b;
              r = c;
              is = from (n + 5) at ∙ ring_5 m v f halves edges faces mesh after v_below f_below;
              word = least_abc;
            }
            | inr none ↦ absurd (omega (arith, none))
          ]
        ]
      ]
