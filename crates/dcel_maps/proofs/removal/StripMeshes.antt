-- `disconnect_edge_strip` leaves a mesh.
use Rattle.std.proofs.Common.{◌≡◌, ◌≢◌, inl, inr, ◌<◌, ℕ, eqb-true, eq-eqb, List, [], ◌∷◌, ◌++◌, map, slice_index_or, slice_set, Option, Some, None, sym, ap, ◌∙◌, subst, arith, length, length-append}
use Rattle.std.proofs.lemmas.Bool.{cases_Bool, cases_eq, ne_eqb}
use Rattle.std.proofs.lemmas.List.{get_or-set_other, get_or-set_same, length-set, length-map}
use Rattle.dcel_maps.specs.Cyclic.{from_least}
use Rattle.dcel_maps.specs.EditLists.{EditedBy, vertex_cut_off}
use Rattle.dcel_maps.specs.edits.Strip.{each_set, strip_cut, strip_given_up, strip_record, strip_word}
use Rattle.dcel_maps.specs.Hiding.{kept_face_anchors, kept_vertex_anchors, kept_words}
use Rattle.dcel_maps.specs.Removals.{Closed, IsWithin, Removal, gives_up_edge, gives_up_face, gives_up_vertex, shown}
use Rattle.dcel_maps.specs.Shapes.{AnchorsVertex, AnchorsWord, IsLive, IsMesh, IsSized, Mesh, Shape, face_anchor, face_count, next_of, origin_of, vertex_anchor}
use Rattle.dcel_maps.specs.Strips.{IsEdgeStrip, IsStripAround}
use Rattle.dcel_maps.specs.Words.{count_of, last_of, word_of}
use Rattle.dcel_maps.proofs.removal.Holes.{hole_kinds, hole_kinds-is}
use Rattle.dcel_maps.proofs.Shown.{length-shown}
use Rattle.dcel_maps.proofs.maps.Halves.{rev_or_same}
use Rattle.dcel_maps.proofs.removal.Hiding.{hidden, length-hiding, not_hidden}
use Rattle.dcel_maps.proofs.removal.StripItems.{after_listed, strip-is, strip_gives, word-is}
use Rattle.dcel_maps.proofs.removal.StripShapes.{GivesUpStrip, along_live, along_outer, cut-sound, cut-sphere, many, none_at, ring_once, same_origin, still_live, was_live, word-given, word-kept, cut_comes}
use Rattle.dcel_maps.proofs.removal.StripSpokes.{OuterWord, outer_word, trip}
use Rattle.dcel_maps.proofs.shapes.Maps.{map-sound}
use Rattle.dcel_maps.proofs.words.Counts.{count-append, count-same}
use Rattle.dcel_maps.proofs.words.EachSet.{each_set-cases, last_of-is, length-each_set}

module _ {V DE UE F : Type 0} (m : Mesh V DE UE F) (mesh : IsMesh m) (v h : ℕ) (around : IsStripAround m.shape v h)
    (closed : m.shape.removal ≡ Closed) (removal : Removal) (gives : GivesUpStrip m.shape v removal)
    (y : ℕ) (r : List ℕ) (outer : OuterWord m.shape mesh.sound mesh.sphere v h around y r) where
  abbrev s : Shape
  s = m.shape

  abbrev items : List ℕ
  items = map (next_of s) (trip m.shape mesh.sound mesh.sphere v h around).rest

  abbrev list : List ℕ
  list = items ++ next_of s h ∷ []

  -- the shape with the strip cut, where the outer word is written out
  abbrev t : Shape
  t = record m.shape {
    words = kept_words removal (slice_set m.shape.words 0 (from_least (y ∷ r ++ items)));
    origins = shown (gives_up_edge removal) m.shape.origins;
    removal = removal;
  }

  abbrev placed : List (Option ℕ)
  placed = each_set (origin_of s) (λ e. Some e) m.vertex_anchors list

  abbrev rooted : List (Option ℕ)
  rooted = slice_set m.face_anchors 0 (Some (last_of 0 list))

  abbrev N : Mesh V DE UE F
  N = record m { shape = t; vertex_anchors = kept_vertex_anchors removal placed; face_anchors = kept_face_anchors removal rooted }

  -- an item is live, and stands in the outer word
  along : (e : ℕ) → 0 < count_of e list → 0 < count_of e (y ∷ r ++ items)
  along e found = omega (
    arith,
    found,
    count-append e items (next_of s h ∷ []),
    ap (λ z. count_of e (z ∷ [])) outer.cycle.0.next,
    count-append e r items,
  )

  starts : (e : ℕ) → 0 < count_of e list → IsLive t e × (origin_of t e ≡ origin_of s e)
  starts e found =
      let live = along_live m.shape mesh.sound mesh.sphere v h around closed removal gives mesh.sized.outer y r outer e (along e found) in
      (live, same_origin m.shape mesh.sound mesh.sphere v h around closed removal gives mesh.sized.outer y r outer e live)

  -- an anchor that no item replaces stays right
  kept_live : (w x : ℕ) → w ≢ v → ((e : ℕ) → 0 < count_of e list → origin_of s e ≢ w) → IsLive s x → origin_of s x ≡ w → IsLive t x
  kept_live w x other none live at =
      still_live m.shape mesh.sound mesh.sphere v h around closed removal gives mesh.sized.outer y r outer x live (λ k out half.
      elim (rev_or_same x k half) [
        | inl is ↦ other (sym at ∙ ap (origin_of s) is ∙ out.start)
        | inr is ↦
            none (next_of s k) (after_listed m.shape mesh.sound mesh.sphere v h around k out)
            (mesh.sound.joined k out.live ∙ ap (origin_of s) (sym is) ∙ at)
      ])

  anchored_still : (w : ℕ) → w ≢ v → ((e : ℕ) → 0 < count_of e list → origin_of s e ≢ w) → (o : Option ℕ) → AnchorsVertex s w o
      → AnchorsVertex t w o
  anchored_still w other none None bare = λ k live at.
      bare k (was_live m.shape mesh.sound mesh.sphere v h around closed removal gives mesh.sized.outer y r outer k live) (sym (same_origin m.shape mesh.sound mesh.sphere v h around closed removal gives mesh.sized.outer y r outer k live) ∙ at)
  anchored_still w other none (Some x) anchors =
      let live = kept_live w x other none anchors.0 anchors.1 in
      (live, same_origin m.shape mesh.sound mesh.sphere v h around closed removal gives mesh.sized.outer y r outer x live ∙ anchors.1)

  vertices_anchored : (w : ℕ) → w < s.vertices → AnchorsVertex t w (vertex_anchor N w)
  vertices_anchored w below = elim (cases_eq v w) [
    | inl same ↦
        subst (AnchorsVertex t w) (sym (hidden (gives_up_vertex removal) None placed w (gives.vertices w ∙ eq-eqb v w same)))
        (λ k live at. none_at m.shape mesh.sound mesh.sphere v h around closed removal gives mesh.sized.outer y r outer k live (at ∙ sym same))
    | inr other ↦
        subst (AnchorsVertex t w) (sym (not_hidden (gives_up_vertex removal) None placed w (gives.vertices w ∙ ne_eqb v w other)))
        (elim (each_set-cases (origin_of s) (λ e. Some e) list m.vertex_anchors w None (omega (arith, below, mesh.sized.vertex_anchors))) [
          | inl p ↦
              let (live, same) = starts p.from p.listed in subst (AnchorsVertex t w) (sym p.is) (live, same ∙ p.at)
          | inr (none, same) ↦
              subst (AnchorsVertex t w) (sym same)
              (anchored_still w (λ i. other (sym i)) none (vertex_anchor m w) (mesh.anchored.vertices w below))
        ])
  ]

  last_along : 0 < count_of (last_of 0 list) (y ∷ r ++ items)
  last_along = omega (
    arith,
    ap (λ z. count_of z (y ∷ r ++ items)) (last_of-is 0 items (next_of s h) ∙ outer.cycle.0.next),
    count-same y (r ++ items),
  )

  faces_anchored : (f : ℕ) → f < face_count t → AnchorsWord (word_of t.words f) (face_anchor N f)
  faces_anchored f below =
      let within : f < face_count s = omega (arith, below, many m.shape mesh.sound mesh.sphere v h around closed removal gives mesh.sized.outer y r outer) in
      elim (cases_Bool (gives_up_face removal f)) [
        | inl given ↦
            subst (AnchorsWord (word_of t.words f)) (sym (hidden (gives_up_face removal) None rooted f given))
            (word-given m.shape mesh.sound mesh.sphere v h around closed removal gives mesh.sized.outer y r outer f given)
        | inr kept ↦
            subst (AnchorsWord (word_of t.words f)) (sym (not_hidden (gives_up_face removal) None rooted f kept)) (elim (cases_eq f 0) [
              | inl i ↦
                  subst (λ k. AnchorsWord (word_of t.words k) (slice_index_or rooted k None)) (sym i)
                  (subst (AnchorsWord (word_of t.words 0))
                  (sym (get_or-set_same m.face_anchors 0 (Some (last_of 0 list)) None (omega (arith, mesh.sized.face_anchors, mesh.sized.outer))))
                  (along_outer m.shape mesh.sound mesh.sphere v h around closed removal gives mesh.sized.outer y r outer (last_of 0 list) last_along))
              | inr inside ↦
                  subst (AnchorsWord (word_of t.words f)) (sym (get_or-set_other m.face_anchors 0 f (Some (last_of 0 list)) None inside))
                  (subst (λ w. AnchorsWord w (face_anchor m f)) (sym (word-kept m.shape mesh.sound mesh.sphere v h around closed removal gives mesh.sized.outer y r outer f inside kept))
                  (mesh.anchored.faces f within))
            ])
      ]

  is_within : IsWithin removal s.vertices s.edges (face_count t)
  is_within =
      let map_sound = map-sound mesh.sound in
      record {
        vertices = λ w given.
            let is : v ≡ w = eqb-true v w (sym (gives.vertices w) ∙ given) in
            omega (arith, is, ap (λ z. z) around.out.start, map_sound.below_vertices h around.out.live);
        edges = λ u given.
            let at = (gives.edges u).0 given in omega (arith, at.is, map_sound.below_edges at.half at.out.live);
        faces = λ f given.
            let (at, inside) = (gives.faces f).0 given in
            (omega (arith, inside), omega (arith, at.is, map_sound.below_faces at.half at.out.live, many m.shape mesh.sound mesh.sphere v h around closed removal gives mesh.sized.outer y r outer));
        in_order = gives.in_order;
      }

  is_sized : IsSized N
  is_sized =
      let sized = mesh.sized in
      let all = many m.shape mesh.sound mesh.sphere v h around closed removal gives mesh.sized.outer y r outer in
      record {
        vertex_data = sized.vertex_data;
        vertex_anchors =
            length-hiding (gives_up_vertex removal) None placed ∙ length-each_set (origin_of s) (λ e. Some e) list m.vertex_anchors
            ∙ sized.vertex_anchors;
        undirected_data = sized.undirected_data;
        directed_data = sized.directed_data;
        origins = length-shown (gives_up_edge removal) s.origins ∙ sized.origins;
        face_data = sized.face_data ∙ sym all;
        face_anchors =
            length-hiding (gives_up_face removal) None rooted ∙ length-set m.face_anchors 0 (Some (last_of 0 list)) ∙ sized.face_anchors
            ∙ sym all;
        outer = omega (arith, sized.outer, all);
        few_vertices = sized.few_vertices;
        few_edges = sized.few_edges;
        few_faces = omega (arith, sized.few_faces, all);
        within = is_within;
      }

  written_out : IsMesh N
  written_out = record {
    sound = cut-sound m.shape mesh.sound mesh.sphere v h around closed removal gives mesh.sized.outer y r outer;
    sphere = cut-sphere m.shape mesh.sound mesh.sphere v h around closed removal gives mesh.sized.outer y r outer;
    anchored = record { vertices = vertices_anchored; faces = faces_anchored };
    sized = is_sized;
  }

  -- the outer word is the one that the edit writes
  pub strip_word-is : strip_word m.shape (items ++ next_of m.shape h ∷ []) ≡ from_least (y ∷ r ++ items)
  strip_word-is =
      word-is m.shape mesh.sound mesh.sphere v h around y r outer
      (ring_once m.shape mesh.sound mesh.sphere v h around closed removal gives mesh.sized.outer y r outer)

  pub given_up-mesh : IsMesh (strip_given_up m removal (items ++ next_of m.shape h ∷ []))
  given_up-mesh =
      subst (λ (w : List ℕ). IsMesh (record N {
        shape = record t { words = kept_words removal (slice_set m.shape.words 0 w) };
      })) (sym strip_word-is) written_out

  given_up-comes : EditedBy (hole_kinds (h ∷ (trip m.shape mesh.sound mesh.sphere v h around).rest)) m (strip_given_up m removal (items ++ next_of m.shape h ∷ []))
  given_up-comes =
      subst (λ (w : List ℕ). EditedBy (hole_kinds (h ∷ (trip m.shape mesh.sound mesh.sphere v h around).rest)) m (record N {
        shape = record t { words = kept_words removal (slice_set m.shape.words 0 w) };
      })) (sym strip_word-is) (cut_comes m.shape mesh.sound mesh.sphere v h around closed removal gives mesh.sized.outer y r outer)

-- `disconnect_edge_strip` leaves a mesh
pub strip_cut-mesh : {V DE UE F : Type 0} (m : Mesh V DE UE F) (strip_list : List ℕ) → IsMesh m → m.shape.removal ≡ Closed
    → IsEdgeStrip m.shape strip_list → IsMesh (strip_cut m strip_list)
strip_cut-mesh m strip_list mesh closed strip =
    let items = map (next_of m.shape) (trip m.shape mesh.sound mesh.sphere strip.vertex strip.half strip.around).rest in
    let whole = items ++ next_of m.shape strip.half ∷ [] in
    let (y, r, outer) = outer_word m.shape mesh.sound mesh.sphere strip.vertex strip.half strip.around in
    subst (λ l. IsMesh (strip_cut m l)) (sym (strip.is ∙ strip-is m.shape mesh.sound mesh.sphere strip.vertex strip.half strip.around))
    (given_up-mesh m mesh strip.vertex strip.half strip.around closed (strip_record m.shape whole)
    (strip_gives m.shape mesh.sound mesh.sphere strip.vertex strip.half strip.around) y r outer)

-- as many spokes as the strip has items but one are joined away, and the last one is a spur then
pub strip_cut-comes : {V DE UE F : Type 0} (m : Mesh V DE UE F) (strip_list : List ℕ) → IsMesh m → m.shape.removal ≡ Closed
    → IsEdgeStrip m.shape strip_list
    → EditedBy (vertex_cut_off (length strip_list)) m (strip_cut m strip_list)
strip_cut-comes m strip_list mesh closed strip =
    let around = trip m.shape mesh.sound mesh.sphere strip.vertex strip.half strip.around in
    let items = map (next_of m.shape) around.rest in
    let whole = items ++ next_of m.shape strip.half ∷ [] in
    let (y, r, outer) = outer_word m.shape mesh.sound mesh.sphere strip.vertex strip.half strip.around in
    let long : length (strip.half ∷ around.rest) ≡ length whole =
    omega (arith, length-append items (next_of m.shape strip.half ∷ []), length-map around.rest (next_of m.shape)) in
    subst (λ l. EditedBy (vertex_cut_off (length l)) m (strip_cut m l))
    (sym (strip.is ∙ strip-is m.shape mesh.sound mesh.sphere strip.vertex strip.half strip.around))
    (subst (λ kinds. EditedBy kinds m (strip_cut m whole)) (hole_kinds-is (strip.half ∷ around.rest) (length whole) (omega (arith, long)) long)
    (given_up-comes m mesh strip.vertex strip.half strip.around closed (strip_record m.shape whole)
    (strip_gives m.shape mesh.sound mesh.sphere strip.vertex strip.half strip.around) y r outer))
