-- Lists with the changes of an edit hold the edited mesh.
use Rattle.std.proofs.Common.{◌≡◌, ℕ, ◌-◌, ◌*◌, ◌/◌, ◌<◌, true, List, None, ◌++◌, length, slice_index, slice_index_or, refl, sym, ap, ◌∙◌, subst, arith, length-append}
use Rattle.dcel_store.specs.Lists.{HasPlaces, Lists, LengthsAgree}
use Rattle.dcel_maps.specs.Conditions.{HasRoom}
use Rattle.dcel_maps.specs.edits.DefaultData.{AddsEdge, AddsEdgesAndFaces}
use Rattle.dcel_maps.specs.Maps.{Live, Map}
use Rattle.dcel_maps.specs.Removals.{Removal, gives_up_edge, gives_up_vertex}
use Rattle.dcel_maps.specs.Shapes.{IsLive, IsMesh, IsSized, Mesh, face_anchor, face_count, map_of, vertex_anchor, vertex_is_live}
use Rattle.dcel_edits.specs.Adding.{HasSpace}
use Rattle.dcel_edits.specs.Stored.{IsStored, mesh_of, stored_map}
use Rattle.dcel_maps.proofs.Liveness.{gives_up_edge-past, is_live-parts}
use Rattle.dcel_maps.proofs.edits.Adding.{ForData, adds_as}
use Rattle.dcel_maps.proofs.edits.Changes.{Change, IsEdit, changed, edit_makes_mesh, edit_shows, map_after}
use Rattle.dcel_maps.proofs.edits.Growing.{after-was}
use Rattle.dcel_maps.proofs.edits.Patches.{Each, Patch, each-weaker, length-patched, patched, patched-is, patched_at}
use Rattle.dcel_maps.proofs.maps.Agreement.{Agrees}
use Rattle.dcel_maps.proofs.walks.Links.{half-below}
use Rattle.dcel_maps.proofs.words.Reading.{face_in-is, next_in-is, prev_in-is}
use Rattle.dcel_edits.proofs.Public.{mesh-is-mesh}
use Rattle.dcel_edits.proofs.Reading.{public_agrees}
use Rattle.dcel_maps.proofs.Shown.{shown-patched}
use Rattle.dcel_edits.proofs.stored.Held.{ListsMesh, lists_hold, own_data}
use Rattle.dcel_edits.proofs.stored.Holding.{Holds}

module _ {V DE UE F : Type 0} where
  -- the lists with the changes
  abbrev pub written : Lists V DE UE F → Change V DE UE F → Lists V DE UE F
  written s c = record {
    vertex_data = s.vertex_data ++ c.vertex_data;
    vertex_anchors = patched s.vertex_anchors c.vertex_anchors;
    next = patched s.next c.next;
    prev = patched s.prev c.prev;
    origin = patched s.origin c.origin;
    face = patched s.face c.face;
    directed_data = s.directed_data ++ c.directed_data;
    undirected_data = s.undirected_data ++ c.undirected_data;
    face_data = s.face_data ++ c.face_data;
    face_anchors = patched s.face_anchors c.face_anchors;
    vertex_room = s.vertex_room - c.vertices;
    edge_room = s.edge_room - c.edges;
    face_room = s.face_room - c.faces;
  }

  -- lists whose live links are those of their mesh are its lists
  pub lists_from_links : (s : Lists V DE UE F) (r : Removal) → LengthsAgree s → Agrees (stored_map s r) (map_of (mesh_of s r).shape) → ListsMesh s (mesh_of s r)
  lists_from_links s r lengths links = record {
    lengths = lengths;
    links = record {
      next = λ h live. sym (links.next h live);
      prev = λ h live. sym (links.prev h live);
      origin = λ h live. sym (links.origin h live);
      face = λ h live. sym (links.face h live);
    };
    shown_origins = refl;
    vertex_anchors = refl;
    face_anchors = refl;
    has_data = own_data s;
  }

  pub held_lists : (s : Lists V DE UE F) (r : Removal) (m : Mesh V DE UE F) → Holds s r m → ListsMesh s m
  held_lists s r m held = subst (λ (u : Mesh V DE UE F). ListsMesh s u) held.is (lists_from_links s r held.stored.lengths (public_agrees held.stored))

  pub held_mesh : (s : Lists V DE UE F) (r : Removal) (m : Mesh V DE UE F) → Holds s r m → IsMesh m
  held_mesh s r m held = subst (λ (u : Mesh V DE UE F). IsMesh u) held.is (mesh-is-mesh s r held.stored)

  pub held_removal : (s : Lists V DE UE F) (r : Removal) (m : Mesh V DE UE F) → Holds s r m → m.shape.removal ≡ r
  held_removal s r m held = sym (ap (λ (u : Mesh V DE UE F). u.shape.removal) held.is)

-- the numbers of a mesh are in range in the lists that hold it
module _ {V DE UE F : Type 0} (s : Lists V DE UE F) (r : Removal) (m : Mesh V DE UE F) (held : Holds s r m) where
  sizes : IsSized m
  sizes = (held_mesh s r m held).sized

  pub held_edges : length s.undirected_data ≡ m.shape.edges
  held_edges = ap length (held_lists s r m held).undirected_data ∙ sizes.undirected_data

  pub held_faces : length s.face_data ≡ face_count m.shape
  held_faces = ap length (held_lists s r m held).face_data ∙ sizes.face_data

  pub held_space : {k l : ℕ} → HasRoom m.shape 0 k l → HasPlaces s 0 k l → HasSpace s k l
  held_space room places = record {
    places = places;
    few_edges = omega (arith, room.for_edges, held_edges);
    few_faces = omega (arith, room.for_faces, held_faces);
  }

  pub held_half : (h : ℕ) → IsLive m.shape h → h < length s.next
  held_half h live = omega (arith, half-below m.shape h live, (held_lists s r m held).lengths.of_next, held_edges)

  pub held_vertex : (v : ℕ) → vertex_is_live m.shape v ≡ true → v < length s.vertex_anchors
  held_vertex v live =
      let below = (is_live-parts (gives_up_vertex m.shape.removal) m.shape.vertices v live).0 in
      omega (arith, below, ap length (held_lists s r m held).vertex_anchors, sizes.vertex_anchors)

  pub held_face : (f : ℕ) → f < face_count m.shape → f < length s.face_anchors
  held_face f below = omega (arith, below, ap length (held_lists s r m held).face_anchors, sizes.face_anchors)

  pub held_vertex_anchor : (v : ℕ) → vertex_anchor m v ≡ slice_index_or s.vertex_anchors v None
  held_vertex_anchor v = ap (λ l. slice_index_or l v None) (sym (held_lists s r m held).vertex_anchors)

  pub held_face_anchor : (f : ℕ) → face_anchor m f ≡ slice_index_or s.face_anchors f None
  held_face_anchor f = ap (λ l. slice_index_or l f None) (sym (held_lists s r m held).face_anchors)

module _ {V DE UE F : Type 0} (s : Lists V DE UE F) (m : Mesh V DE UE F) (c : Change V DE UE F) (mesh : IsMesh m) (lists : ListsMesh s m) (e : IsEdit m c) where
  abbrev t : Lists V DE UE F
  t = written s c

  abbrev n : ℕ
  n = 2 * m.shape.edges

  abbrev T : Map
  T = map_after m.shape c

  edges : length s.undirected_data ≡ m.shape.edges
  edges = ap length lists.undirected_data ∙ mesh.sized.undirected_data

  nexts : length s.next ≡ n
  nexts = omega (arith, lists.lengths.of_next, edges)

  -- a list of links that is patched as the links of the mesh are
  linked : (l : List ℕ) (p : Patch ℕ) (link : ℕ → ℕ) → length l ≡ n → Each (λ h k. IsLive m.shape h) p.set
      → ((h : ℕ) → IsLive m.shape h → slice_index l h ≡ link h)
      → (h : ℕ) → Live T h → slice_index (patched l p) h ≡ patched_at link n p h
  linked l p link long on_live same h live =
      patched-is l n p link h long (each-weaker _ _ (λ k v lives. half-below m.shape k lives) p.set on_live)
      (λ below. same h (after-was m.shape c h below live))

  written_lengths : LengthsAgree t
  written_lengths =
      let f = e.fits in
      let w = lists.lengths in
      let more = length-append s.undirected_data c.undirected_data in
      record {
        of_vertex_anchors = omega (arith, length-patched s.vertex_anchors c.vertex_anchors, length-append s.vertex_data c.vertex_data, w.of_vertex_anchors, f.vertex_data, f.vertex_anchors);
        of_next = omega (arith, length-patched s.next c.next, more, w.of_next, f.next, f.undirected_data);
        of_prev = omega (arith, length-patched s.prev c.prev, length-patched s.next c.next, w.of_prev, f.prev, f.next);
        of_origin = omega (arith, length-patched s.origin c.origin, length-patched s.next c.next, w.of_origin, f.origin, f.next);
        of_face = omega (arith, length-patched s.face c.face, length-patched s.next c.next, w.of_face, f.face, f.next);
        of_directed_data = omega (arith, length-append s.directed_data c.directed_data, length-patched s.next c.next, w.of_directed_data, f.directed_data, f.next);
        of_face_anchors = omega (arith, length-patched s.face_anchors c.face_anchors, length-append s.face_data c.face_data, w.of_face_anchors, f.face_data, f.face_anchors);
      }

  written_lists : ListsMesh t (changed m c)
  written_lists =
      let shows = edit_shows m c mesh e in
      let w = lists.lengths in
      let words = (changed m c).shape.words in
      record {
        lengths = written_lengths;
        links = record {
          next = λ h live. linked s.next c.next _ nexts e.on_live.next lists.next h live ∙ sym (next_in-is T words shows.stands h live);
          prev = λ h live. linked s.prev c.prev _ (w.of_prev ∙ nexts) e.on_live.prev lists.prev h live ∙ sym (prev_in-is T words shows.stands h live);
          origin = λ h live. linked s.origin c.origin _ (w.of_origin ∙ nexts) e.on_live.origin lists.origin h live ∙ sym (shows.origin h live);
          face = λ h live. linked s.face c.face _ (w.of_face ∙ nexts) e.on_live.face lists.face h live ∙ sym (face_in-is T words shows.stands h live);
        };
        shown_origins =
            shown-patched (gives_up_edge m.shape.removal) s.origin c.origin m.shape.edges (w.of_origin ∙ nexts)
            (each-weaker _ _ (λ h v lives. (is_live-parts (gives_up_edge m.shape.removal) m.shape.edges (h / 2) lives).1) c.origin.set e.on_live.origin)
            (gives_up_edge-past mesh.sized.within)
            ∙ ap (λ l. patched l c.origin) lists.shown_origins;
        vertex_anchors = ap (λ l. patched l c.vertex_anchors) lists.vertex_anchors;
        face_anchors = ap (λ l. patched l c.face_anchors) lists.face_anchors;
        has_data = record {
          vertex_data = ap (λ l. l ++ c.vertex_data) lists.vertex_data;
          directed_data = ap (λ l. l ++ c.directed_data) lists.directed_data;
          undirected_data = ap (λ l. l ++ c.undirected_data) lists.undirected_data;
          face_data = ap (λ l. l ++ c.face_data) lists.face_data;
        };
      }

  pub written_holds : Holds t m.shape.removal (changed m c)
  written_holds = lists_hold t (changed m c) (edit_makes_mesh m c mesh e) written_lists

-- lists that hold a mesh hold the edited one after the writes
pub change_holds : {V DE UE F : Type 0} (s : Lists V DE UE F) (r : Removal) (m : Mesh V DE UE F) (c : Change V DE UE F)
    → Holds s r m → IsEdit m c → Holds (written s c) r (changed m c)
change_holds s r m c held e =
    subst (λ q. Holds (written s c) q (changed m c)) (held_removal s r m held)
    (written_holds s m c (held_mesh s r m held) (held_lists s r m held) e)

-- after an edit that adds edges and faces with default data: the invariant, and the mesh
pub record HoldsAdded {V DE UE F G : Type 0} (is_half : DE → Type 0) (is_edge : UE → Type 0) (is_face : G → Type 0) (k l : ℕ)
    (s : Lists V DE UE F) (r : Removal) (add : List DE → List UE → List G → Mesh V DE UE F) : Type 0 where
  pub stored : IsStored s r
  pub edit : AddsEdgesAndFaces is_half is_edge is_face k l (mesh_of s r) add

abbrev pub HoldsEdge : {V DE UE F : Type 0} → (DE → Type 0) → (UE → Type 0) → Lists V DE UE F → Removal → (List DE → List UE → Mesh V DE UE F) → Type 0
HoldsEdge is_half is_edge s r add = HoldsAdded {G = Unit {0}} is_half is_edge (λ face. Unit {0}) 1 0 s r (λ halves edges faces. add halves edges)

pub added_holds : {V DE UE F G : Type 0} {is_half : DE → Type 0} {is_edge : UE → Type 0} {is_face : G → Type 0} {k l : ℕ}
    {s : Lists V DE UE F} {write : List DE → List UE → List G → Lists V DE UE F} (r : Removal) (edit : List DE → List UE → List G → Mesh V DE UE F)
    → AddsEdgesAndFaces is_half is_edge is_face k l s write
    → ForData k l (λ halves edges faces. Holds (write halves edges faces) r (edit halves edges faces))
    → HoldsAdded is_half is_edge is_face k l s r edit
added_holds {V} {DE} {UE} {F} r edit added hold = record {
  stored =
      subst (λ (t : Lists V DE UE F). IsStored t r) (sym added.is)
      (hold added.directed_data added.undirected_data added.face_data added.directed_count added.undirected_count added.face_data_count).stored;
  edit = adds_as added (λ t. mesh_of t r) edit (λ halves edges faces i j k. (hold halves edges faces i j k).is);
}

-- the same where the writes are a change of the mesh, and make the edited mesh of it
pub edit_holds : {V DE UE F G : Type 0} {is_half : DE → Type 0} {is_edge : UE → Type 0} {is_face : G → Type 0} {k l : ℕ}
    {s t : Lists V DE UE F} {r : Removal} {m : Mesh V DE UE F} {write : List DE → List UE → List G → Lists V DE UE F}
    → Holds s r m → (c : List DE → List UE → List G → Change V DE UE F) (edit : List DE → List UE → List G → Mesh V DE UE F)
    → ((halves : List DE) (edges : List UE) (faces : List G) → write halves edges faces ≡ written s (c halves edges faces))
    → ForData k l (λ halves edges faces. (changed m (c halves edges faces) ≡ edit halves edges faces) × IsEdit m (c halves edges faces))
    → AddsEdgesAndFaces is_half is_edge is_face k l t write → HoldsAdded is_half is_edge is_face k l t r edit
edit_holds {s = s} {r = r} {m = m} held c edit read edits added =
    added_holds r edit added
    (λ halves edges faces i j k.
    let (is, is_edit) = edits halves edges faces i j k in
    rw (read halves edges faces, ← is) (change_holds s r m (c halves edges faces) held is_edit))

-- the same for one edge
pub edge_holds : {V DE UE F : Type 0} {is_half : DE → Type 0} {is_edge : UE → Type 0}
    {s t : Lists V DE UE F} {r : Removal} {m : Mesh V DE UE F} {write : List DE → List UE → Lists V DE UE F}
    → Holds s r m → (c : List DE → List UE → Change V DE UE F) (edit : List DE → List UE → Mesh V DE UE F)
    → ((halves : List DE) (edges : List UE) → write halves edges ≡ written s (c halves edges))
    → ((halves : List DE) (edges : List UE) → length halves ≡ 2 → length edges ≡ 1
    → (changed m (c halves edges) ≡ edit halves edges) × IsEdit m (c halves edges))
    → AddsEdge is_half is_edge t write → HoldsEdge is_half is_edge t r edit
edge_holds held c edit read edits added =
    edit_holds held (λ halves edges faces. c halves edges) (λ halves edges faces. edit halves edges)
    (λ halves edges faces. read halves edges)
    (λ halves edges faces two one none. edits halves edges two one)
    added
