-- The edges of a vertex and those across from it are listed, and stay so while its edges are flipped.
use Rattle.std.proofs.Common.{◌≡◌, ◌⊎◌, inl, inr, ℕ, ◌+◌, ◌-◌, ◌*◌, ◌/◌, ◌<◌, ◌≤◌, List, [], ◌∷◌, ◌++◌, append_assoc, length, map, refl, sym, ap, ◌∙◌, subst, arith}
use Rattle.std.proofs.lemmas.Bool.{cases_eq, cases_lt}
use Rattle.std.proofs.lemmas.List.{append-nil, length-map}
use Rattle.dcel_fixed.specs.HalfEdges.{rev}
use Rattle.dcel_fixed.proofs.Halves.{rev-half}
use Rattle.dcel_maps.specs.Conditions.{CanFlip, IsTriangle}
use Rattle.dcel_maps.specs.Cyclic.{from_least}
use Rattle.dcel_maps.specs.edits.Flip.{edge_flipped}
use Rattle.dcel_maps.specs.Shapes.{IsLive, IsMesh, Mesh, Shape, face_of, map_of, next_of, origin_of, prev_of}
use Rattle.dcel_maps.specs.Triangulations.{AllTriangles}
use Rattle.dcel_maps.specs.Walking.{IsOutEdge, ListsOnce, in_mesh, out_edges_of}
use Rattle.dcel_maps.specs.Words.{count_of, word_of}
use Rattle.dcel_maps.proofs.edits.Around.{at_edge}
use Rattle.dcel_maps.proofs.edits.Flips.{at_flip, flipped_mesh}
use Rattle.dcel_maps.proofs.edits.Linking.{triangle_of}
use Rattle.dcel_maps.proofs.maps.Soundness.{rev_live}
use Rattle.dcel_maps.proofs.shapes.Maps.{face-live, map-sound}
use Rattle.dcel_maps.proofs.walks.Items.{ComesFirst, first_item, none_left}
use Rattle.dcel_maps.proofs.walks.Links.{links_stand, prev-live}
use Rattle.dcel_maps.proofs.walks.Turning.{mesh-out_edges}
use Rattle.dcel_maps.proofs.words.Counts.{count-append}
use Rattle.dcel_maps.proofs.words.Mapped.{count-at, count-mapped}
use Rattle.dcel_maps.proofs.words.Reading.{face_in_word, live_in, stands_in_face}
use Rattle.dcel_maps.proofs.words.Triangles.{triangle_written}
use Rattle.dcel_plane.proofs.covering.Triangles.{ends_before}
use Rattle.dcel_plane.proofs.edits.Corners.{of_least}
use Rattle.dcel_plane.proofs.edits.Flipped.{from_end, from_start, starts_else, word_else, word_f, word_g}
use Rattle.dcel_planar.proofs.Searching.{IsSearching, search_begins, search_continues, search_ends}
use Rattle.dcel_predicates.specs.declared.point.Point.{Point}
use Rattle.dcel_delaunay.specs.Thinning.{HasPlaces, ListsAround, with_spokes}

-- the edge of h is listed, and that of the next half edge
abbrev IsPaired : Shape → List ℕ → ℕ → Type 0
IsPaired s list h = (0 < count_of (h / 2) list) × (0 < count_of (next_of s h / 2) list)

more_listed : (u : ℕ) (a b : List ℕ) → 0 < count_of u a → 0 < count_of u (a ++ b)
more_listed u a b found = (let c = count-append u a b in omega (arith, c, found))

just_listed : (u : ℕ) (a b : List ℕ) → 0 < count_of u b → 0 < count_of u (a ++ b)
just_listed u a b found = (let c = count-append u a b in omega (arith, c, found))

-- the edge across from where h starts isn't listed
abbrev pub IsMissing : Shape → List ℕ → ℕ → Type 0
IsMissing s list h = ¬ (0 < count_of (next_of s h / 2) list)

module _ {DE UE F : Type 0} (m : Mesh Point DE UE F) (v : ℕ) where
  -- of the out edges of v, some are left, and the edges across from the others are listed, with a place for each more
  pub record IsListing (items : List (Mesh Point DE UE F × ℕ)) (first due : List ℕ) (listed len capacity : ℕ) : Type 0 where
    pub search : IsSearching (IsMissing m.shape due) m v items
    pub keeps : (u : ℕ) → 0 < count_of u first → 0 < count_of u due
    pub passed : listed + length items ≡ length (out_edges_of m v)
    pub few : listed ≤ len
    pub places : listed ≤ capacity - len

  pub link_begins : (lent : Mesh Point DE UE F) (w : ℕ) (items : List (Mesh Point DE UE F × ℕ)) (due : List ℕ) (len capacity : ℕ) → lent ≡ m → w ≡ v → items ≡ in_mesh lent (out_edges_of lent w)
      → ListsOnce (IsOutEdge lent.shape w) (out_edges_of lent w) → IsListing items due due 0 len capacity
  link_begins lent w items due len capacity same is are each = record {
    search = search_begins (IsMissing m.shape due) m v lent w items same is are each;
    keeps = λ u there. there;
    passed =
        (let long = ap length are ∙ length-map (out_edges_of lent w) (λ k. (lent, k)) in
        let there : length (out_edges_of lent w) ≡ length (out_edges_of m v) =
        ap (λ (k : Mesh Point DE UE F). length (out_edges_of k w)) same ∙ ap (λ (k : ℕ). length (out_edges_of m k)) is in
        omega (arith, long, there));
    few = omega arith;
    places = omega arith;
  }

  module _ (items more : List (Mesh Point DE UE F × ℕ)) (lent : Mesh Point DE UE F) (k : ℕ) (first due after : List ℕ) (listed len capacity : ℕ) (way : IsListing items first due listed len capacity)
      (is : items ≡ (lent, k) ∷ more) (now : after ≡ due ++ next_of lent.shape k / 2 ∷ []) where
    abbrev one : List ℕ
    one = next_of lent.shape k / 2 ∷ []

    grown : (u : ℕ) → 0 < count_of u due → 0 < count_of u after
    grown u there = subst (λ (l : List ℕ). 0 < count_of u l) (sym now) (more_listed u due one there)

    weaker : IsSearching (IsMissing m.shape after) m v items
    weaker = record {
      left = way.search.left;
      items_are = way.search.items_are;
      all_start = way.search.all_start;
      among = λ h out not. way.search.among h out (λ there. not (grown (next_of m.shape h / 2) there));
    }

    across : lent ≡ m → 0 < count_of (next_of m.shape k / 2) after
    across same =
        subst (λ (n : Mesh Point DE UE F). 0 < count_of (next_of n.shape k / 2) after) same
        (subst (λ (l : List ℕ). 0 < count_of (next_of lent.shape k / 2) l) (sym now) (just_listed (next_of lent.shape k / 2) due one (count-at one 0 0 (omega arith))))

    pub link_grows : (len_after capacity_after : ℕ) → len_after ≡ len + 1 → len + (listed + 2) ≤ capacity_after → IsListing more first after (listed + 1) len_after capacity_after
    link_grows len_after capacity_after longer room =
        let came = search_continues (IsMissing m.shape after) m v items more lent k weaker is in
        let passed = way.passed in
        let few = way.few in
        let long : length items ≡ length more + 1 = ap length is ∙ (let e : length ((lent, k) ∷ more) ≡ length more + 1 = omega arith in e) in
        record {
          search = came.1.goes_on (λ not. not (across came.0));
          keeps = λ u there. grown u (way.keeps u there);
          passed = omega (arith, passed, long);
          few = omega (arith, few, longer);
          places = omega (arith, room, longer);
        }

  -- at the end all are
  all_across : (items : List (Mesh Point DE UE F × ℕ)) (first due : List ℕ) (listed len capacity : ℕ) → IsListing items first due listed len capacity → items ≡ [] → (h : ℕ) → IsOutEdge m.shape v h
      → 0 < count_of (next_of m.shape h / 2) due
  all_across items first due listed len capacity way none h out =
      let not = search_ends (IsMissing m.shape due) m v items way.search none h out in
      elim (cases_lt 0 (count_of (next_of m.shape h / 2) due)) [
        | inl there ↦ there
        | inr none_there ↦ absurd (not (λ there. omega (arith, there, none_there)))
      ]

  pub link_places : (items : List (Mesh Point DE UE F × ℕ)) (first due : List ℕ) (listed len capacity : ℕ) → IsListing items first due listed len capacity → items ≡ [] → HasPlaces m v len capacity
  link_places items first due listed len capacity way none =
      let passed = way.passed in
      let places = way.places in
      let long : length items ≡ 0 = ap length none in
      omega (arith, passed, places, long)

  -- so all sides of its triangles are: the one before an out edge is an edge of v, too
  lists_around : IsMesh m → AllTriangles m.shape → (list : List ℕ) → ((h : ℕ) → IsOutEdge m.shape v h → IsPaired m.shape list h) → ListsAround m.shape v list
  lists_around mesh triangles list each h k live from inner live_k on =
      let s = m.shape in
      let triangle : IsTriangle s (face_of s h) = record { live = face-live mesh.sound h live; three = triangles (face_of s h) inner (face-live mesh.sound h live) } in
      let round = triangle_of m mesh h live triangle in
      let written : word_of s.words (face_of s h) ≡ from_least (h ∷ next_of s h ∷ prev_of s h ∷ []) =
      triangle_written (map_of s) (map-sound mesh.sound) (face_of s h) h (next_of s h) (prev_of s h) round s.words (links_stand mesh.sound) in
      let there : 0 < count_of k (word_of s.words (face_of s h)) =
      subst (λ (f : ℕ). 0 < count_of k (word_of s.words f)) on (stands_in_face (map_of s) s.words (links_stand mesh.sound) k live_k) in
      let pair = each h (record { live = live; start = from }) in
      let before = each (rev (prev_of s h)) (record { live = rev_live (map_of s) (prev_of s h) (prev-live mesh.sound h live); start = ends_before m mesh h live ∙ from }) in
      of_least (λ x. 0 < count_of (x / 2) list) h (next_of s h) (prev_of s h) k pair.0 pair.1 (subst (λ (x : ℕ). 0 < count_of x list) (rev-half (prev_of s h)) before.0)
      (subst (λ (w : List ℕ). 0 < count_of k w) written there)

  pub link_around : IsMesh m → AllTriangles m.shape → v < m.shape.vertices → (items : List (Mesh Point DE UE F × ℕ)) (first due : List ℕ) (listed len capacity : ℕ)
      → IsListing items first due listed len capacity → items ≡ [] → ListsAround m.shape v (with_spokes m v due)
  link_around mesh triangles below items first due listed len capacity way none =
      let own = map (λ h. h / 2) (out_edges_of m v) in
      lists_around mesh triangles (with_spokes m v due) (λ h out. (
        (let once = (mesh-out_edges mesh v below).each h out in
            just_listed (h / 2) due own (count-mapped (λ h. h / 2) (out_edges_of m v) h (omega (arith, once)))),
        more_listed (next_of m.shape h / 2) due own (all_across items first due listed len capacity way none h out),
      ))

  -- the edges of v listed, one by one
  pub record IsListingSpokes (items : List (Mesh Point DE UE F × ℕ)) (first due : List ℕ) (len capacity : ℕ) : Type 0 where
    pub left : List ℕ
    pub items_are : items ≡ in_mesh m left
    pub is : due ++ map (λ h. h / 2) left ≡ with_spokes m v first
    pub room : length left ≤ capacity - len

  pub spokes_begin : (lent : Mesh Point DE UE F) (w : ℕ) (items : List (Mesh Point DE UE F × ℕ)) (due : List ℕ) (len capacity : ℕ) → lent ≡ m → w ≡ v → items ≡ in_mesh lent (out_edges_of lent w)
      → HasPlaces m v len capacity → IsListingSpokes items due due len capacity
  spokes_begin lent w items due len capacity same is are room = record {
    left = out_edges_of m v;
    items_are =
        are ∙ ap (λ (n : Mesh Point DE UE F). in_mesh n (out_edges_of n w)) same ∙ ap (λ (k : ℕ). in_mesh m (out_edges_of m k)) is;
    is = refl;
    room = room;
  }

  module _ (items more : List (Mesh Point DE UE F × ℕ)) (lent : Mesh Point DE UE F) (k : ℕ) (first due : List ℕ) (len capacity : ℕ) (way : IsListingSpokes items first due len capacity)
      (is : items ≡ (lent, k) ∷ more) where
    came : ComesFirst m lent k more way.left
    came = first_item m lent k more way.left (sym is ∙ way.items_are)

    pub spokes_room : len < capacity
    spokes_room =
        let room = way.room in
        let long = ap length came.left_is in
        let e : length (k ∷ came.rest) ≡ length came.rest + 1 = omega arith in
        omega (arith, room, long, e)

    pub spokes_more : (after : List ℕ) (len_after : ℕ) → after ≡ due ++ k / 2 ∷ [] → len_after ≡ len + 1 → IsListingSpokes more first after len_after capacity
    spokes_more after len_after now longer =
        let room = way.room in
        let long = ap length came.left_is in
        let e : length (k ∷ came.rest) ≡ length came.rest + 1 = omega arith in
        record {
          left = came.rest;
          items_are = came.more_are;
          is =
              ap (λ (l : List ℕ). l ++ map (λ h. h / 2) came.rest) now ∙ append_assoc due (k / 2 ∷ []) (map (λ h. h / 2) came.rest)
              ∙ ap (λ (l : List ℕ). due ++ map (λ h. h / 2) l) (sym came.left_is) ∙ way.is;
          room = omega (arith, room, long, e, longer);
        }

  pub spokes_end : (items : List (Mesh Point DE UE F × ℕ)) (first due : List ℕ) (len capacity : ℕ) → IsListingSpokes items first due len capacity → items ≡ [] → due ≡ with_spokes m v first
  spokes_end items first due len capacity way none =
      let empty = none_left m way.left (sym none ∙ way.items_are) in
      sym (append-nil due) ∙ ap (λ (l : List ℕ). due ++ map (λ h. h / 2) l) (sym empty) ∙ way.is

-- an edge of v is flipped between two inner faces
module _ {V DE UE F : Type 0} (m : Mesh V DE UE F) (mesh : IsMesh m) (v u : ℕ) (can : CanFlip m.shape u) (spoke : (origin_of m.shape (2 * u) ≡ v) ⊎ (origin_of m.shape (2 * u + 1) ≡ v))
    (inner : 0 < face_of m.shape (2 * u)) (inner_facing : 0 < face_of m.shape (2 * u + 1)) (list : List ℕ) (around : ListsAround m.shape v list) where
  abbrev s : Shape
  s = m.shape

  abbrev n : Shape
  n = (edge_flipped m u).shape

  open (at_edge s u) use {e, t, f, g, ep, en, tp, tn}
  open (at_flip m u mesh can) use {was, facing}

  -- both faces are at v
  pub near_listed : (k : ℕ) → IsLive s k → face_of s k ≡ f → 0 < count_of (k / 2) list
  near_listed k live on = elim spoke [
    | inl is ↦ around e k was.live_x is inner live on
    | inr is ↦
        around en k was.live_y (from_end m mesh u can ∙ is) (subst (λ (i : ℕ). 0 < i) (sym was.face_y) inner) live (on ∙ sym was.face_y)
  ]

  pub far_listed : (k : ℕ) → IsLive s k → face_of s k ≡ g → 0 < count_of (k / 2) list
  far_listed k live on = elim spoke [
    | inl is ↦
        around tn k facing.live_y (from_start m mesh u can ∙ is) (subst (λ (i : ℕ). 0 < i) (sym facing.face_y) inner_facing) live (on ∙ sym facing.face_y)
    | inr is ↦ around t k facing.live_x is inner_facing live on
  ]

  abbrev Listed : ℕ → Type 0
  Listed k = 0 < count_of (k / 2) list

  pub still_around : ListsAround (edge_flipped m u).shape v list
  still_around h k live from above live_k on =
      let after = flipped_mesh m u mesh can in
      let own : 0 < count_of h (word_of n.words (face_of n h)) = stands_in_face (map_of n) n.words (links_stand after.sound) h live in
      let other : 0 < count_of k (word_of n.words (face_of n h)) =
      subst (λ (i : ℕ). 0 < count_of k (word_of n.words i)) on (stands_in_face (map_of n) n.words (links_stand after.sound) k live_k) in
      elim (cases_eq (face_of n h) f) [
        | inl is ↦
            of_least Listed e tp en k (near_listed e was.live_x was.face_x) (far_listed tp facing.live_z facing.face_z) (near_listed en was.live_y was.face_y)
            (subst (λ (w : List ℕ). 0 < count_of k w) (ap (word_of n.words) is ∙ word_f m mesh u can) other)
        | inr not_f ↦ elim (cases_eq (face_of n h) g) [
          | inl is ↦
              of_least Listed t ep tn k (far_listed t facing.live_x facing.face_x) (near_listed ep was.live_z was.face_z) (far_listed tn facing.live_y facing.face_y)
              (subst (λ (w : List ℕ). 0 < count_of k w) (ap (word_of n.words) is ∙ word_g m mesh u can) other)
          | inr not_g ↦
              let i = face_of n h in
              let same = word_else m mesh u can i not_f not_g in
              let own_old : 0 < count_of h (word_of s.words i) = subst (λ (w : List ℕ). 0 < count_of h w) same own in
              let other_old : 0 < count_of k (word_of s.words i) = subst (λ (w : List ℕ). 0 < count_of k w) same other in
              let on_h = face_in_word (map_of s) s.words (links_stand mesh.sound) h i own_old in
              let on_k = face_in_word (map_of s) s.words (links_stand mesh.sound) k i other_old in
              around h k (live_in (map_of s) s.words (links_stand mesh.sound) h i own_old) (sym (starts_else m mesh u can i h not_f not_g own_old) ∙ from)
              (subst (λ (j : ℕ). 0 < j) (sym on_h) above) (live_in (map_of s) s.words (links_stand mesh.sound) k i other_old) (on_k ∙ sym on_h)
        ]
      ]
