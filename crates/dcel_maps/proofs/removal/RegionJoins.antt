-- The faces of a region become one: its edges are taken away, one after another.
use Rattle.std.proofs.Common.{◌≡◌, ◌≢◌, ◌⊎◌, inl, inr, ◌*◌, ◌/◌, ◌<◌, ◌≤◌, ℕ, suc, true, false, List, [], ◌∷◌, length, sym, refl, ap, ◌∙◌, subst, arith}
use Rattle.std.proofs.lemmas.Bool.{cases_eq}
use Rattle.dcel_fixed.specs.HalfEdges.{rev}
use Rattle.dcel_maps.specs.EditLists.{ComesBy}
use Rattle.dcel_maps.specs.EditLists.EditKind.{words_joined}
use Rattle.dcel_maps.specs.Maps.{Live, Map, Reaches}
use Rattle.dcel_maps.specs.Maps.Reaches.{go, here}
use Rattle.dcel_maps.specs.theory.Sound.{Sound, Sphere}
use Rattle.dcel_maps.specs.Words.{count_of}
use Rattle.dcel_maps.proofs.maps.Halves.{rev-rev, rev_half, rev_or_same}
use Rattle.dcel_maps.proofs.maps.Joins.{JoinAt, JoinSite, join, join_is, join_keeps, join_live-after_h, join_live-after_rev, join_site, join_vacant, join_edit}
use Rattle.dcel_maps.proofs.maps.Lists.{comes_first, extends_same, one_each}
use Rattle.dcel_maps.proofs.maps.Soundness.{face_cycles, next_differs, rev_live}
use Rattle.dcel_maps.proofs.removal.Without.{Without, keeps-itself, without, without-keeps}
use Rattle.dcel_maps.proofs.words.Counts.{count-later, count-other, count-same, first_or_later, stands_or_not}
use Rattle.dcel_maps.proofs.words.Faces.{KeepsFace, keeps_face-then}
use Rattle.dcel_maps.specs.Regions.{LeadsPast}
use Rattle.dcel_maps.specs.Regions.LeadsPast.{on, past}
use Rattle.dcel_maps.proofs.removal.Linked.{Links, back, forth, left_out, left_out-from, left_out-length, left_out-once, left_out-other, merged_links, no_links, onto, onto-at, onto-end, onto-other, two_ends}

-- the faces at the two halves of an edge
abbrev pub left_face : Map → ℕ → ℕ
left_face S u = S.face (2 * u)

abbrev pub right_face : Map → ℕ → ℕ
right_face S u = S.face (rev (2 * u))

-- what taking away the edges of a region asks: its faces hang together by them, and there is one more of them
pub record CanJoin (S : Map) (edges faces : List ℕ) (root : ℕ) : Type 0 where
  pub sound : Sound S
  pub sphere : Sphere S
  pub live : (u : ℕ) → 0 < count_of u edges → S.edge u ≡ true
  pub edges_once : (u : ℕ) → count_of u edges ≤ 1
  pub faces_once : (f : ℕ) → count_of f faces ≤ 1
  pub sides : (h : ℕ) → 0 < count_of (h / 2) edges → 0 < count_of (S.face h) faces
  pub linked : (f : ℕ) → 0 < count_of f faces → Reaches (Links (left_face S) (right_face S) edges) root f
  pub fewer : suc (length edges) ≤ length faces

-- P is S without the edges: the faces are one, g
pub record Joined (S P : Map) (edges faces : List ℕ) (g : ℕ) : Type 0 where
  pub sound : Sound P
  pub sphere : Sphere P
  pub origin : (x : ℕ) → P.origin x ≡ S.origin x
  pub gone : (u : ℕ) → 0 < count_of u edges → P.edge u ≡ false
  pub kept : (u : ℕ) → count_of u edges ≡ 0 → P.edge u ≡ S.edge u
  pub edge_count : P.edges ≡ S.edges
  pub vertex_count : P.vertices ≡ S.vertices
  pub face_count : P.faces ≡ S.faces
  pub within : 0 < count_of g faces
  pub merged : (x : ℕ) → 0 < count_of (S.face x) faces → P.face x ≡ g
  pub keeps_face : (f : ℕ) → count_of f faces ≡ 0 → KeepsFace S P f
  pub cases : (x : ℕ) → Live P x → (P.face x ≡ g) ⊎ (count_of (P.face x) faces ≡ 0)
  -- past the edges it is one step now, and where one of them starts another half edge on g starts
  pub leads : (x y : ℕ) → Live S x → count_of (x / 2) edges ≡ 0 → LeadsPast S.next edges x y → P.next x ≡ y
  pub starts : (x : ℕ) → 0 < count_of (x / 2) edges → (y : ℕ) × Live P y × (P.origin y ≡ S.origin x) × (P.face y ≡ g)
  pub comes : ComesBy (one_each words_joined edges) S P

half : (u : ℕ) → 2 * u / 2 ≡ u
half u = omega arith

other_half : (u : ℕ) → rev (2 * u) / 2 ≡ u
other_half u = rev_half (2 * u) ∙ half u

-- without edges there is one face
joined_none : (S : Map) (faces : List ℕ) (root : ℕ) → CanJoin S [] faces root → Joined S S [] faces root
joined_none S faces root can =
    let one : (f : ℕ) → 0 < count_of f faces → f ≡ root = λ f found. sym (no_links (left_face S) (right_face S) root f (can.linked f found)) in
    record {
      sound = can.sound;
      sphere = can.sphere;
      origin = λ x. refl;
      gone = λ u found. absurd (omega (arith, found));
      kept = λ u none. refl;
      edge_count = refl;
      vertex_count = refl;
      face_count = refl;
      within = root_stands faces can.fewer one;
      merged = λ x found. one (S.face x) found;
      keeps_face = λ f none. keeps-itself S f;
      cases = λ x live. elim (stands_or_not (S.face x) faces) [ inl found ↦ inl (one (S.face x) found) | inr none ↦ inr none ];
      leads = λ x y live none way. leads_none S.next x y way;
      starts = λ x found. absurd (omega (arith, found));
      comes = extends_same S;
    }
  where
    root_stands : (faces : List ℕ) → 1 ≤ length faces → ((f : ℕ) → 0 < count_of f faces → f ≡ root) → 0 < count_of root faces
    root_stands [] many one = absurd (omega (arith, many))
    root_stands (f ∷ faces) many one =
        let found : 0 < count_of f (f ∷ faces) = omega (arith, count-same f faces) in
        subst (λ z. 0 < count_of z (f ∷ faces)) (one f found) found

    leads_none : (next : ℕ → ℕ) (x y : ℕ) → LeadsPast next [] x y → next x ≡ y
    leads_none next x y (on to none) = to
    leads_none next x y (past to found way) = absurd (omega (arith, found))

-- the first edge taken away
module _ (S : Map) (u : ℕ) (edges faces : List ℕ) (root : ℕ) (can : CanJoin S (u ∷ edges) faces root) where
  abbrev h : ℕ
  h = 2 * u

  abbrev k : ℕ
  k = rev (2 * u)

  u_stands : 0 < count_of u (u ∷ edges)
  u_stands = omega (arith, count-same u edges)

  not_later : count_of u edges ≡ 0
  not_later = omega (arith, count-same u edges, can.edges_once u)

  live_h : Live S h
  live_h = ap S.edge (half u) ∙ can.live u u_stands

  live_k : Live S k
  live_k = ap S.edge (other_half u) ∙ can.live u u_stands

  sides : S.face h ≢ S.face k
  sides = two_ends u edges (left_face S) (right_face S) root faces can.faces_once can.linked can.fewer

  abbrev J : Map
  J = join S h

  w : Without S J h
  w = without S h can.sound live_h sides

  keeps : Sound J × Sphere J
  keeps = join_keeps S h can.sound can.sphere live_h sides

  abbrev c : ℕ → ℕ
  c = onto (S.face h) (S.face k)

  face_after : (x : ℕ) → J.face x ≡ c (S.face x)
  face_after x = elim (cases_eq (S.face x) (S.face k)) [
    | inl beyond ↦ w.face_beyond x beyond ∙ sym (onto-at (S.face h) (S.face k) (S.face x) beyond)
    | inr other ↦ w.face_other x other ∙ sym (onto-other (S.face h) (S.face k) (S.face x) other)
  ]

  h_stands : 0 < count_of (S.face h) faces
  h_stands = can.sides h (subst (λ z. 0 < count_of z (u ∷ edges)) (sym (half u)) u_stands)

  k_stands : 0 < count_of (S.face k) faces
  k_stands = can.sides k (subst (λ z. 0 < count_of z (u ∷ edges)) (sym (other_half u)) u_stands)

  abbrev left : List ℕ
  left = left_out (S.face k) faces

  -- what lay on one of the faces lies on one that is left
  still_on : (x : ℕ) → 0 < count_of (S.face x) faces → 0 < count_of (J.face x) left
  still_on x found = elim (cases_eq (S.face x) (S.face k)) [
    | inl beyond ↦
        subst (λ z. 0 < count_of z left) (sym (w.face_beyond x beyond))
        (omega (arith, h_stands, left_out-other (S.face k) (S.face h) faces sides))
    | inr other ↦
        subst (λ z. 0 < count_of z left) (sym (w.face_other x other))
        (omega (arith, found, left_out-other (S.face k) (S.face x) faces other))
  ]

  relinked : (f g : ℕ) → Links (λ x. c (left_face S x)) (λ x. c (right_face S x)) edges f g → Links (left_face J) (right_face J) edges f g
  relinked f g (forth z found at to) = forth z found (face_after (2 * z) ∙ at) (face_after (rev (2 * z)) ∙ to)
  relinked f g (back z found at to) = back z found (face_after (rev (2 * z)) ∙ at) (face_after (2 * z) ∙ to)

  all_relinked : {f g : ℕ} → Reaches (Links (λ x. c (left_face S x)) (λ x. c (right_face S x)) edges) f g
      → Reaches (Links (left_face J) (right_face J) edges) f g
  all_relinked here = here
  all_relinked (go l way) = go (relinked _ _ l) (all_relinked way)

  pub can_go_on : CanJoin J edges left (c root)
  can_go_on = record {
    sound = keeps.0;
    sphere = keeps.1;
    live = λ v found.
        w.edge_other v (λ same. let again = subst (λ z. 0 < count_of z edges) (same ∙ half u) found in omega (arith, again, not_later))
        ∙ can.live v (count-later v u edges found);
    edges_once = λ v. omega (arith, can.edges_once v);
    faces_once = left_out-once (S.face k) faces can.faces_once;
    sides = λ x found. still_on x (can.sides x (count-later (x / 2) u edges found));
    linked = λ f found.
        let was = left_out-from (S.face k) f faces found in
        all_relinked (subst (λ z. Reaches (Links (λ x. c (left_face S x)) (λ x. c (right_face S x)) edges) (c root) z)
        (onto-other (S.face h) (S.face k) f was.0)
        (merged_links (left_face S) (right_face S) c u edges (onto-end (S.face h) (S.face k) ∙ sym (onto-at (S.face h) (S.face k) (S.face k) refl)) root f
        (can.linked f was.1)));
    fewer = omega (arith, can.fewer, left_out-length (S.face k) faces, can.faces_once (S.face k));
  }

  -- next, where that is not of the edge
  next_kept : (x : ℕ) → S.next x ≢ h → S.next x ≢ k → J.next x ≡ S.next x
  next_kept x not_h not_k =
      w.next_other x (λ at. not_h (ap S.next at ∙ can.sound.next-prev h live_h)) (λ at. not_k (ap S.next at ∙ can.sound.next-prev k live_k))

  -- next, where it is a half of the edge: that of the other half
  next_over : (x : ℕ) → Live S x → S.next x ≡ h → J.next x ≡ S.next k
  next_over x live to = ap J.next (sym (can.sound.prev-next x live) ∙ ap S.prev to) ∙ w.next_before

  next_over_rev : (x : ℕ) → Live S x → S.next x ≡ k → J.next x ≡ S.next h
  next_over_rev x live to = ap J.next (sym (can.sound.prev-next x live) ∙ ap S.prev to) ∙ w.next_before_rev

  -- the halves of the edge have their next ones still
  next_h : J.next h ≡ S.next h
  next_h = next_kept h (next_differs S can.sound h live_h) (λ to. sides (sym ((face_cycles S can.sound).along h live_h) ∙ ap S.face to))

  next_k : J.next k ≡ S.next k
  next_k = next_kept k (λ to. sides (sym (ap S.face to) ∙ (face_cycles S can.sound).along k live_k)) (next_differs S can.sound k live_k)

  -- where two have the same next one, they lead the same way
  same_way : (x y z : ℕ) → J.next x ≡ J.next y → LeadsPast J.next edges y z → LeadsPast J.next edges x z
  same_way x y z same (on to none) = on (same ∙ to) none
  same_way x y z same (past to found way) = past (same ∙ to) found way

  pub leads_on : (x z : ℕ) → Live S x → LeadsPast S.next (u ∷ edges) x z → LeadsPast J.next edges x z
  leads_on x z live (on to none) =
      let off : z / 2 ≢ u = λ same. let one = ap (λ v. count_of v (u ∷ edges)) same in omega (arith, none, one, u_stands) in
      on (next_kept x (λ i. off (ap (λ v. v / 2) (sym to ∙ i) ∙ half u)) (λ i. off (ap (λ v. v / 2) (sym to ∙ i) ∙ other_half u)) ∙ to)
      (omega (arith, none))
  leads_on x z live (past {j = j} to found way) =
      let live_j : Live S j = subst (Live S) to (can.sound.live_next x live) in
      let rest = leads_on (rev j) z (rev_live S j live_j) way in
      elim (cases_eq j h) [
        | inl at_h ↦
            same_way x (rev j) z (next_over x live (to ∙ at_h) ∙ sym next_k ∙ ap J.next (ap rev (sym at_h))) rest
        | inr off_h ↦ elim (cases_eq j k) [
          | inl at_k ↦
              same_way x (rev j) z (next_over_rev x live (to ∙ at_k) ∙ sym next_h ∙ ap J.next (sym (rev-rev h) ∙ ap rev (sym at_k))) rest
          | inr off_k ↦
              let off : j / 2 ≢ u = λ same. elim (rev_or_same j h (same ∙ sym (half u))) [ inl i ↦ off_h i | inr i ↦ off_k i ] in
              past (next_kept x (λ i. off_h (sym to ∙ i)) (λ i. off_k (sym to ∙ i)) ∙ to) (omega (arith, found, count-other (j / 2) u edges off)) rest
        ]
      ]

  at : JoinAt S h
  at = record { lives = live_h; two_faces = sides }

  site : JoinSite S h (S.prev h) (S.prev k) (S.next k) (S.next h)
  site = join_site S h can.sound at

  -- the first edge, and then the others
  pub then_joined : (P : Map) (g : ℕ) → Joined J P edges left g → Joined S P (u ∷ edges) faces g
  then_joined P g o =
      -- a half edge out of the same vertex, on one of the faces
      let beside : (x y : ℕ) → Live J y → 0 < count_of (S.face y) faces → S.origin y ≡ S.origin x
      → (z : ℕ) × Live P z × (P.origin z ≡ S.origin x) × (P.face z ≡ g) =
      λ x y live on_face start. elim (stands_or_not (y / 2) edges) [
        | inl found ↦ let (z, lives, from, face) = o.starts y found in (z, lives, from ∙ w.origin y ∙ start, face)
        | inr none ↦ (y, o.kept (y / 2) none ∙ live, o.origin y ∙ w.origin y ∙ start, o.merged y (still_on y on_face))
      ] in
      let join = join_is S h can.sound at in
      record {
        sound = o.sound;
        sphere = o.sphere;
        origin = λ x. o.origin x ∙ w.origin x;
        gone = λ v found. elim (first_or_later v u edges found) [
          | inl same ↦ o.kept v (ap (λ z. count_of z edges) same ∙ not_later) ∙ ap J.edge (same ∙ sym (half u)) ∙ w.edge_here
          | inr later ↦ o.gone v later
        ];
        kept = λ v none.
            o.kept v (omega (arith, none))
            ∙ w.edge_other v (λ same. let one = ap (λ z. count_of z (u ∷ edges)) (same ∙ half u) in omega (arith, none, one, u_stands));
        edge_count = o.edge_count ∙ w.edges;
        vertex_count = o.vertex_count ∙ w.vertices;
        face_count = o.face_count ∙ w.faces;
        within = (left_out-from (S.face k) g faces o.within).1;
        merged = λ x found. o.merged x (still_on x found);
        keeps_face = λ f none.
            let off : (x : ℕ) → 0 < count_of (S.face x) faces → f ≢ S.face x =
            λ x found same. let one = ap (λ z. count_of z faces) same in omega (arith, none, one, found) in
            keeps_face-then S J P f (without-keeps S h can.sound live_h sides f (off h h_stands) (off k k_stands))
            (o.keeps_face f (left_out-other (S.face k) f faces (off k k_stands) ∙ none));
        cases = λ x live. elim (o.cases x live) [
          | inl same ↦ inl same
          | inr none ↦ inr (elim (cases_eq (P.face x) (S.face k)) [
            | inl beyond ↦
                let was = (o.keeps_face (P.face x) none).comes x live refl in
                absurd (join_vacant S J h can.sound join x was.0 (was.1 ∙ beyond))
            | inr other ↦ sym (left_out-other (S.face k) (P.face x) faces other) ∙ none
          ])
        ];
        leads = λ x y live none way.
            let off : x / 2 ≢ u = λ same. let one = ap (λ z. count_of z (u ∷ edges)) same in omega (arith, none, one, u_stands) in
            o.leads x y (w.edge_other (x / 2) (λ same. off (same ∙ half u)) ∙ live) (omega (arith, none)) (leads_on x y live way);
        starts = λ x found. elim (first_or_later (x / 2) u edges found) [
          | inl same ↦ elim (rev_or_same x h (same ∙ sym (half u))) [
            | inl i ↦
                beside x (S.next k) (join_live-after_rev S J h can.sound join) (subst (λ f. 0 < count_of f faces) (sym site.face_p) k_stands)
                (site.origin_p ∙ ap S.origin (sym i))
            | inr i ↦
                beside x (S.next h) (join_live-after_h S J h can.sound join) (subst (λ f. 0 < count_of f faces) (sym site.face_q) h_stands)
                (site.origin_q ∙ ap S.origin (sym i))
          ]
          | inr later ↦ let (y, live, from, face) = o.starts x later in (y, live, from ∙ w.origin x, face)
        ];
        comes = comes_first words_joined (one_each words_joined edges) S J P (join_edit S h can.sound live_h sides) o.comes;
      }

-- all edges taken away
pub joined : (edges : List ℕ) (S : Map) (faces : List ℕ) (root : ℕ) → CanJoin S edges faces root
    → (P : Map) × (g : ℕ) × Joined S P edges faces g
joined [] S faces root can = (S, root, joined_none S faces root can)
joined (u ∷ edges) S faces root can =
    let rest = joined edges (join S (2 * u)) (left_out (S.face (rev (2 * u))) faces) (onto (S.face (2 * u)) (S.face (rev (2 * u))) root)
    (can_go_on S u edges faces root can) in
    (rest.0, rest.1, then_joined S u edges faces root can rest.0 rest.1 rest.2)
