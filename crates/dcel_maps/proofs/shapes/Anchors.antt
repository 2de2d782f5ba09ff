-- Other numbers keep a mesh anchored.
use Rattle.std.proofs.Common.{◌≡◌, ℕ, ◌<◌, List, map, option_map, Option, Some, None, sym, ap, ◌∙◌, subst, arith}
use Rattle.dcel_maps.specs.Cyclic.{from_least}
use Rattle.dcel_maps.specs.Shapes.{AnchorsVertex, AnchorsWord, IsAnchored, Mesh, Shape, face_anchor, face_count, origin_of, vertex_anchor, IsMesh, IsSized}
use Rattle.dcel_maps.specs.Words.{word_of}
use Rattle.dcel_maps.proofs.shapes.Renames.{IsRenamed, renamed-sound, renamed-sphere}
use Rattle.dcel_maps.proofs.words.Cyclic.{count-from_least}
use Rattle.dcel_maps.proofs.words.Renames.{count-map-more, renamed_empty}

-- anchors follow their vertex and face, and have other numbers as every half edge
pub record AnchorsFollow {V DE UE F : Type 0} (m n : Mesh V DE UE F) (f o o' w' : ℕ → ℕ) : Type 0 where
  pub vertex : (v : ℕ) → v < n.shape.vertices → vertex_anchor n v ≡ option_map f (vertex_anchor m (o' v))
  pub vertex_below : (v : ℕ) → v < n.shape.vertices → o' v < m.shape.vertices
  pub vertex_back : (v : ℕ) → v < n.shape.vertices → o (o' v) ≡ v
  pub face : (g : ℕ) → g < face_count n.shape → face_anchor n g ≡ option_map f (face_anchor m (w' g))

module _ (S T : Shape) (f f' o o' w w' : ℕ → ℕ) (e : IsRenamed S T f f' o o' w w') where
  -- the anchor of a vertex
  anchors_vertex : (v : ℕ) → o (o' v) ≡ v → (a : Option ℕ) → AnchorsVertex S (o' v) a → AnchorsVertex T v (option_map f a)
  anchors_vertex v back None bare = λ h live starts.
      let was = e.comes h live in
      let at : o (origin_of S (f' h)) ≡ v = sym (e.origin (f' h) was) ∙ ap (origin_of T) (e.back h live) ∙ starts in
      bare (f' h) was (sym (e.vertex_forth (f' h) was) ∙ ap o' at)
  anchors_vertex v back (Some h) anchored = (e.lives h anchored.0, e.origin h anchored.0 ∙ ap o anchored.1 ∙ back)

-- the anchor of a word
anchors_word : (f : ℕ → ℕ) (w : List ℕ) (a : Option ℕ) → AnchorsWord w a → AnchorsWord (from_least (map f w)) (option_map f a)
anchors_word f w None empty = (renamed_empty f w).1 empty
anchors_word f w (Some h) found = omega (arith, count-map-more f h w found, count-from_least (f h) (map f w))

renamed-anchored : {V DE UE F : Type 0} (m n : Mesh V DE UE F) (f f' o o' w w' : ℕ → ℕ) → IsRenamed m.shape n.shape f f' o o' w w'
    → AnchorsFollow m n f o o' w' → IsAnchored m → IsAnchored n
renamed-anchored m n f f' o o' w w' e follow anchored = record {
  vertices = λ v below.
      subst (AnchorsVertex n.shape v) (sym (follow.vertex v below))
      (anchors_vertex m.shape n.shape f f' o o' w w' e v (follow.vertex_back v below) (vertex_anchor m (o' v))
      (anchored.vertices (o' v) (follow.vertex_below v below)));
  faces = λ g below.
      subst (λ u. AnchorsWord u (face_anchor n g)) (sym (e.word g below))
      (subst (AnchorsWord (from_least (map f (word_of m.shape.words (w' g))))) (sym (follow.face g below))
      (anchors_word f (word_of m.shape.words (w' g)) (face_anchor m (w' g)) (anchored.faces (w' g) (e.face_within g below))));
}

-- a mesh under other numbers is one, where its lists are as long as they have to be
pub renamed-mesh : {V DE UE F : Type 0} (m n : Mesh V DE UE F) (f f' o o' w w' : ℕ → ℕ) → IsRenamed m.shape n.shape f f' o o' w w'
    → AnchorsFollow m n f o o' w' → IsSized n → IsMesh m → IsMesh n
renamed-mesh m n f f' o o' w w' e follow sized mesh = record {
  sound = renamed-sound m.shape n.shape f f' o o' w w' e mesh.sound;
  sphere = renamed-sphere m.shape n.shape f f' o o' w w' e mesh.sound mesh.sphere;
  anchored = renamed-anchored m n f f' o o' w w' e follow mesh.anchored;
  sized = sized;
}
