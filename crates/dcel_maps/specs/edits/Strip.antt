-- A vertex of the outer face cut off, with the triangles round it. Whatever an edit doesn't name stays as it was.
use Rattle.std.specs.Prelude.{ℕ, ◌/◌, List, [], ◌∷◌, map, slice_set, Some}
use Rattle.std.specs.List.{fold}
use Rattle.dcel_maps.specs.Cyclic.{from_least}
use Rattle.dcel_maps.specs.Hiding.{kept_words, kept_vertex_anchors, kept_face_anchors}
use Rattle.dcel_maps.specs.Removals.{Removal, gives_up_edge, opened, shown}
use Rattle.dcel_maps.specs.Shapes.{Mesh, Shape, face_of, origin_of, prev_of}
use Rattle.dcel_maps.specs.Words.{become, last_of, word_of}

-- for each item of the list, one after another, `value` is put at its place
abbrev pub each_set : {A : Type 0} → (ℕ → ℕ) → (ℕ → A) → List A → List ℕ → List A
each_set place value l items = fold (λ l e. slice_set l (place e) (value e)) l items

-- a list without its last item
abbrev pub but_last : List ℕ → List ℕ
but_last [] = []
but_last (x ∷ []) = []
but_last (x ∷ y ∷ r) = x ∷ but_last (y ∷ r)

-- what is given up with a strip, in its order: the edge before each item, and the face of each item but the last
abbrev pub strip_edges : Shape → List ℕ → List ℕ
strip_edges s list = map (λ e. prev_of s e / 2) list

abbrev pub strip_faces : Shape → List ℕ → List ℕ
strip_faces s list = map (face_of s) (but_last list)

-- the outer out edge comes before the last item; the vertex that it starts at is given up too
abbrev pub strip_half : Shape → List ℕ → ℕ
strip_half s list = prev_of s (last_of 0 list)

abbrev pub strip_record : Shape → List ℕ → Removal
strip_record s list = opened (strip_edges s list) (strip_faces s list) (origin_of s (strip_half s list))

-- the outer word: with h the outer out edge, (prev h, h) becomes the strip without its last item
abbrev pub strip_word : Shape → List ℕ → List ℕ
strip_word s list =
    let h = strip_half s list in
    from_least (become (prev_of s h) [] (become h (but_last list) (word_of s.words 0)))

module _ {V DE UE F : Type 0} where
  -- what the record names is given up; each item of the list becomes the anchor of its origin, one after another, and the last one that
  -- of the outer face
  abbrev pub strip_given_up : Mesh V DE UE F → Removal → List ℕ → Mesh V DE UE F
  strip_given_up m removal list =
      let s = m.shape in
      record m {
        shape = record s {
          words = kept_words removal (slice_set s.words 0 (strip_word s list));
          origins = shown (gives_up_edge removal) s.origins;
          removal = removal;
        };
        vertex_anchors = kept_vertex_anchors removal (each_set (origin_of s) (λ e. Some e) m.vertex_anchors list);
        face_anchors = kept_face_anchors removal (slice_set m.face_anchors 0 (Some (last_of 0 list)));
      }

  -- `disconnect_edge_strip`
  abbrev pub strip_cut : Mesh V DE UE F → List ℕ → Mesh V DE UE F
  strip_cut m list = strip_given_up m (strip_record m.shape list) list
