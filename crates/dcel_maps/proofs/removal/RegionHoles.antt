-- A region leaves a hole: its faces are one, which goes along the ring.
use Rattle.std.proofs.Common.{◌≡◌, inl, inr, ◌*◌, ◌/◌, ◌<◌, ◌≤◌, ◌==◌, ℕ, true, false, List, [], ◌∷◌, None, sym, refl, ap, ◌∙◌, subst, arith, ◌++◌, length, replicate}
use Rattle.std.proofs.lemmas.Bool.{cases_eq, false_from_ne_true, false≢true}
use Rattle.dcel_fixed.specs.HalfEdges.{rev}
use Rattle.dcel_maps.specs.Borders.{StartsAlone}
use Rattle.dcel_maps.specs.EditLists.{ComesBy}
use Rattle.dcel_maps.specs.EditLists.EditKind.{numbers_changed, words_joined}
use Rattle.dcel_maps.specs.Maps.{Live, Map, NextOrRev, Reaches}
use Rattle.dcel_maps.specs.Maps.Reaches.{go, here}
use Rattle.dcel_maps.specs.Removals.{opened_with, Removal, gives_up_edge, gives_up_face, gives_up_vertex}
use Rattle.dcel_maps.specs.Shapes.{IsSound, IsSphere, Shape, face_count, map_of}
use Rattle.dcel_maps.specs.theory.Cycles.{IsCycle, Path}
use Rattle.dcel_maps.specs.theory.Sound.{Sound}
use Rattle.dcel_maps.specs.theory.Standing.{Follows}
use Rattle.dcel_maps.specs.Walking.{ListsOnce}
use Rattle.dcel_maps.specs.Words.{count_of, word_of}
use Rattle.dcel_maps.proofs.Liveness.{is_live-parts}
use Rattle.dcel_maps.proofs.maps.Halves.{rev-rev, rev_half, rev_or_same}
use Rattle.dcel_maps.proofs.maps.Lists.{comes_once, comes_then, one_each, one_each-replicate}
use Rattle.dcel_maps.proofs.maps.Reaching.{no_step, step, then}
use Rattle.dcel_maps.proofs.maps.Soundness.{face_cycles, rev_live}
use Rattle.dcel_maps.proofs.removal.RenumberedFaces.{Numbered, numbered, renumbered_face, renumbered_edit}
use Rattle.dcel_maps.proofs.removal.Spokes.{follows}
use Rattle.dcel_maps.proofs.shapes.Maps.{map-sound, map-sphere, word_cases}
use Rattle.dcel_maps.proofs.walks.Links.{links_stand}
use Rattle.dcel_maps.proofs.words.Ascending.{any-ascending, goes_up-ascending}
use Rattle.dcel_maps.proofs.words.Counts.{count-later, count-same, first_or_later, word_within, stands_or_not}
use Rattle.dcel_maps.proofs.words.Faces.{keeps_face-then}
use Rattle.dcel_maps.proofs.words.Mapped.{any_stands, stands_any}
use Rattle.dcel_maps.proofs.words.Paths.{IsCycle-weaker, next_in_word-follows}
use Rattle.dcel_maps.specs.Regions.{IsRegion, IsRim, LeadsPast}
use Rattle.dcel_maps.specs.Regions.LeadsPast.{on, past}
use Rattle.dcel_maps.proofs.removal.Hollows.{HollowOf, HollowBy}
use Rattle.dcel_maps.proofs.removal.Linked.{Links, back, forth}
use Rattle.dcel_maps.proofs.removal.RegionJoins.{CanJoin, Joined, joined, left_face, right_face}

module _ (s : Shape) (sound : IsSound s) (sphere : IsSphere s) (edges faces : List ℕ) (region : IsRegion s edges faces) (p : ℕ) (rest : List ℕ)
    (cycle : IsCycle (LeadsPast (map_of s).next edges) (p ∷ rest)) (whole : ListsOnce (IsRim s edges faces) (p ∷ rest)) where
  abbrev S : Map
  S = map_of s

  sd : Sound S
  sd = map-sound sound

  along : (x : ℕ) → Live S x → S.face (S.next x) ≡ S.face x
  along = (face_cycles S sd).along

  abbrev By : ℕ → ℕ → Type 0
  By = Links (left_face S) (right_face S) edges

  rim : (y : ℕ) → 0 < count_of y (p ∷ rest) → IsRim s edges faces y
  rim y found = whole.no_other y found

  listed_live : (x : ℕ) → 0 < count_of (x / 2) edges → Live S x
  listed_live x found = region.live (x / 2) found

  -- the faces at the two halves of an edge are linked
  over : (x : ℕ) → 0 < count_of (x / 2) edges → Reaches By (S.face x) (S.face (rev x))
  over x found =
      let even : 2 * (x / 2) / 2 ≡ x / 2 = omega arith in
      elim (rev_or_same x (2 * (x / 2)) (sym even)) [
        | inl same ↦ step (forth (x / 2) found (ap S.face (sym same)) (ap (λ z. S.face (rev z)) (sym same)))
        | inr turned ↦
            step (back (x / 2) found (ap S.face (sym turned)) (ap S.face (sym (rev-rev (2 * (x / 2))) ∙ ap rev (sym turned))))
      ]

  leads_linked : (x y : ℕ) → Live S x → LeadsPast S.next edges x y → Reaches By (S.face x) (S.face y)
  leads_linked x y live (on to none) = no_step (sym (along x live) ∙ ap S.face to)
  leads_linked x y live (past {j = j} to found way) =
      then (no_step (sym (along x live) ∙ ap S.face to)) (then (over j found) (leads_linked (rev j) y (rev_live S j (listed_live j found)) way))

  path_linked : (x : ℕ) (r : List ℕ) (e : ℕ) → Path (LeadsPast S.next edges) x r e → ((z : ℕ) → 0 < count_of z (x ∷ r) → Live S z)
      → (y : ℕ) → 0 < count_of y (x ∷ r) → Reaches By (S.face x) (S.face y)
  path_linked x [] e path live y found = elim (first_or_later y x [] found) [
    | inl same ↦ no_step (ap S.face (sym same))
    | inr none ↦ absurd (omega (arith, none))
  ]
  path_linked x (z ∷ r) e path live y found = elim (first_or_later y x (z ∷ r) found) [
    | inl same ↦ no_step (ap S.face (sym same))
    | inr later ↦
        then (leads_linked x z (live x (omega (arith, count-same x (z ∷ r)))) path.0)
        (path_linked z r e path.1 (λ y there. live y (count-later y x (z ∷ r) there)) y later)
  ]

  ring_linked : (y : ℕ) → 0 < count_of y (p ∷ rest) → Reaches By (S.face p) (S.face y)
  ring_linked y found = path_linked p rest p cycle (λ z there. (rim z there).live) y found

  -- on a face of the region `next` and `rev` lead to the ring, and no further than over the edges
  linked_from : {x y : ℕ} → Reaches (NextOrRev S) x y → y ≡ p → Live S x → 0 < count_of (S.face x) faces → Reaches By (S.face p) (S.face x)
  linked_from here at live on_face = no_step (ap S.face (sym at))
  linked_from (go {x = x} {y = z} way more) at live on_face = elim (stands_or_not (x / 2) edges) [
    | inr none ↦
        let one = whole.each x (record { live = live; on_face = on_face; unlisted = none }) in
        ring_linked x (omega (arith, one))
    | inl found ↦ elim way [
      | inl to ↦
          let same : S.face z ≡ S.face x = ap S.face (sym to) ∙ along x live in
          then (linked_from more at (subst (Live S) to (sd.live_next x live)) (subst (λ f. 0 < count_of f faces) (sym same) on_face)) (no_step same)
      | inr to ↦
          let half : z / 2 ≡ x / 2 = ap (λ v. v / 2) (sym to) ∙ rev_half x in
          let there : 0 < count_of (z / 2) edges = subst (λ u. 0 < count_of u edges) (sym half) found in
          then (linked_from more at (listed_live z there) ((region.between z there).0))
          (then (over z there) (no_step (ap S.face (ap rev (sym to) ∙ rev-rev x))))
    ]
  ]

  -- each of the faces has a half edge
  has_half : (f : ℕ) → 0 < count_of f faces → (x : ℕ) × Live S x × (S.face x ≡ f)
  has_half f found =
      let inner = region.inner f found in
      elim (word_cases (word_of s.words f)) [
        | inl empty ↦ absurd (sound.inner f inner.0 inner.1 empty)
        | inr some ↦
            let stands = links_stand sound in
            let at = next_in_word-follows (Follows S f) (word_of s.words f) (stands.cycles f (word_within some.0 s.words f some.1)) some.0 some.1 in
            (some.0, at.live, at.face)
      ]

  pub can_join : CanJoin S edges faces (S.face p)
  can_join = record {
    sound = sd;
    sphere = map-sphere sound sphere;
    live = region.live;
    edges_once = region.edges_once;
    faces_once = region.faces_once;
    sides = λ h found. (region.between h found).0;
    linked = λ f found.
        let (x, live, at) = has_half f found in
        subst (λ z. Reaches By (S.face p) z) at
        (linked_from (sphere.connected x p live (rim p (omega (arith, count-same p rest))).live) refl live (subst (λ z. 0 < count_of z faces) (sym at) found));
    fewer = omega (arith, region.fewer);
  }

  found_join : (U : Map) × (g : ℕ) × Joined S U edges faces g
  found_join = joined edges S faces (S.face p) can_join

  abbrev U : Map
  U = found_join.0

  abbrev g : ℕ
  g = found_join.1

  abbrev o : Joined S U edges faces g
  o = found_join.2

  module _ (n : ℕ) (above : face_count s ≤ n) (alone : StartsAlone s (p ∷ rest)) where
    abbrev P : Map
    P = renumbered_face U g n

    num : Numbered U P g n
    num = numbered U g n o.sound o.sphere (λ x live off at. let below = o.sound.below_faces x live in omega (arith, below, at, above, o.face_count))

    abbrev removal : Removal
    removal = opened_with edges faces None

    gives_edge : (u : ℕ) → gives_up_edge removal u ≡ true → 0 < count_of u edges
    unfolding gives_up_edge
    gives_edge u given = any_stands u edges (sym (any-ascending (λ e. e == u) edges) ∙ given)

    edge_given : (u : ℕ) → 0 < count_of u edges → gives_up_edge removal u ≡ true
    unfolding gives_up_edge
    edge_given u found = any-ascending (λ e. e == u) edges ∙ stands_any u edges found

    gives_face : (f : ℕ) → gives_up_face removal f ≡ true → 0 < count_of f faces
    unfolding gives_up_face
    gives_face f given = any_stands f faces (sym (any-ascending (λ e. e == f) faces) ∙ given)

    face_given : (f : ℕ) → 0 < count_of f faces → gives_up_face removal f ≡ true
    unfolding gives_up_face
    face_given f found = any-ascending (λ e. e == f) faces ∙ stands_any f faces found

    no_vertex : (v : ℕ) → gives_up_vertex removal v ≡ false
    unfolding gives_up_vertex
    no_vertex v = refl

    unlisted : (u : ℕ) → gives_up_edge removal u ≡ false → count_of u edges ≡ 0
    unlisted u kept = elim (stands_or_not u edges) [ inl found ↦ absurd (false≢true (sym kept ∙ edge_given u found)) | inr none ↦ none ]

    off_faces : (f : ℕ) → gives_up_face removal f ≡ false → count_of f faces ≡ 0
    off_faces f kept = elim (stands_or_not f faces) [ inl found ↦ absurd (false≢true (sym kept ∙ face_given f found)) | inr none ↦ none ]

    face_kept : (f : ℕ) → count_of f faces ≡ 0 → gives_up_face removal f ≡ false
    face_kept f none = false_from_ne_true (gives_up_face removal f) (λ given. let there = gives_face f given in omega (arith, none, there))

    -- what is live on the one face stands in the ring
    on_rim : (y : ℕ) → Live U y → U.face y ≡ g → 0 < count_of y (p ∷ rest)
    on_rim y live at =
        let none : count_of (y / 2) edges ≡ 0 =
        elim (stands_or_not (y / 2) edges) [ inl found ↦ absurd (false≢true (sym (o.gone (y / 2) found) ∙ live)) | inr none ↦ none ] in
        let was : Live S y = sym (o.kept (y / 2) none) ∙ live in
        let on_face : 0 < count_of (S.face y) faces =
        elim (stands_or_not (S.face y) faces) [
          | inl found ↦ found
          | inr off ↦
              let same = (o.keeps_face (S.face y) off).face y was refl in
              let here = ap (λ f. count_of f faces) (sym same ∙ at) in
              absurd (omega (arith, off, o.within, here))
        ] in
        let one = whole.each y (record { live = was; on_face = on_face; unlisted = none }) in omega (arith, one)

    ring_step : (x y : ℕ) → 0 < count_of x (p ∷ rest) → 0 < count_of y (p ∷ rest) → LeadsPast S.next edges x y → Follows P n x y
    ring_step x y x_in y_in way =
        let r = rim x x_in in
        follows P num.sound n x y (num.edge (x / 2) ∙ o.kept (x / 2) r.unlisted ∙ r.live) (num.next x ∙ o.leads x y r.live r.unlisted way)
        (num.face_there x (o.merged x r.on_face))

    pub region_hole : HollowOf s removal (p ∷ rest) n
    region_hole = record {
      map = P;
      within = record {
        vertices = λ v given. absurd (false≢true (sym (no_vertex v) ∙ given));
        edges = λ u given. (is_live-parts (gives_up_edge s.removal) s.edges u (region.live u (gives_edge u given))).0;
        faces = λ f given.
            let inner = region.inner f (gives_face f given) in
            (inner.0, (is_live-parts (gives_up_face s.removal) (face_count s) f inner.1).0);
        in_order = (goes_up-ascending edges region.edges_once, goes_up-ascending faces region.faces_once);
      };
      alone = alone;
      on_ring = λ x live given.
          let (y, lives, from, at) = o.starts x (gives_edge (x / 2) given) in
          inr (y, on_rim y lives at, sym (o.origin y) ∙ from);
      sound = num.sound;
      sphere = num.sphere;
      cycle = IsCycle-weaker (LeadsPast S.next edges) (Follows P n) (p ∷ rest) ring_step cycle;
      origin = λ x. num.origin x ∙ o.origin x;
      bare = λ v given. absurd (false≢true (sym (no_vertex v) ∙ given));
      gone = λ u given. num.edge u ∙ o.gone u (gives_edge u given);
      kept = λ u kept. num.edge u ∙ o.kept u (unlisted u kept);
      edge_count = num.edge_count ∙ o.edge_count;
      vertex_count = num.vertex_count ∙ o.vertex_count;
      face_number = omega (arith, num.face_number, o.face_count);
      keeps_face = λ f off kept.
          let none = off_faces f kept in
          keeps_face-then S U P f (o.keeps_face f none)
          (num.keeps_face f off (λ same. let one = ap (λ z. count_of z faces) same in omega (arith, one, none, o.within)));
      cases = λ x live.
          let lives : Live U x = sym (num.edge (x / 2)) ∙ live in
          elim (cases_eq (U.face x) g) [
            | inl there ↦ inl (num.face_there x there)
            | inr other ↦ elim (o.cases x lives) [
              | inl there ↦ absurd (other there)
              | inr none ↦ inr (face_kept (P.face x) (ap (λ f. count_of f faces) (num.face_other x other) ∙ none))
            ]
          ];
    }

    -- its edges are joined away, and the face gets its number
    pub region_by : HollowBy s removal (p ∷ rest) n (replicate (length edges) words_joined ++ numbers_changed ∷ [])
    unfolding region_hole
    region_by = record {
      hollow = region_hole;
      comes = subst (λ kinds. ComesBy (kinds ++ numbers_changed ∷ []) (map_of s) P) (one_each-replicate words_joined edges)
          (comes_then (one_each words_joined edges) (numbers_changed ∷ []) S U P o.comes (comes_once numbers_changed U P
          (renumbered_edit U g n o.sound (λ x live off at. let below = o.sound.below_faces x live in omega (arith, below, at, above, o.face_count)))));
    }
