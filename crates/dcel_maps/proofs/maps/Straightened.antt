-- A vertex between two edges taken out, which makes them one edge: a subdivision taken back. It keeps a map sound and a sphere.
use Rattle.std.proofs.Common.{◌≡◌, ◌≢◌, ◌⊎◌, inl, inr, ◌/◌, ℕ, false, sym, refl, ap, ◌∙◌, subst, arith}
use Rattle.std.proofs.lemmas.Bool.{cases_eq}
use Rattle.dcel_fixed.specs.HalfEdges.{rev}
use Rattle.dcel_maps.specs.EditLists.{Edit}
use Rattle.dcel_maps.specs.EditLists.EditKind.{edges_joined}
use Rattle.dcel_maps.specs.Maps.{By, Live, Map, ccw}
use Rattle.dcel_maps.specs.theory.Sound.{Sound, Sphere}
use Rattle.dcel_maps.specs.theory.Standing.{Follows}
use Rattle.dcel_maps.proofs.maps.Edits.{Subdivide, first_part, last_part}
use Rattle.dcel_maps.proofs.maps.Halves.{rev-rev, rev_differs}
use Rattle.dcel_maps.proofs.maps.Reaching.{reaches_stays}
use Rattle.dcel_maps.proofs.maps.Soundness.{face_cycles, next_differs, rev_live, same_origin_reaches, less-was_live, less-still_live}
use Rattle.dcel_maps.proofs.maps.Subdivides.{first-other, first-rev, last-h, last-other}
use Rattle.dcel_maps.proofs.maps.Undone.{stand_in, stand_in-h, stand_in-rev}
use Rattle.dcel_maps.proofs.maps.Unsubdivides.{Unsubdivide, unsubdivide_keeps}
use Rattle.dcel_maps.proofs.maps.Updates.{put, put_other, put_same}
use Rattle.dcel_maps.proofs.maps.Growth.{grows_back}

-- the half edge of which another one is a part: k is the last part of h, and its other half the first part of that of h
abbrev pub whole : ℕ → ℕ → ℕ → ℕ
whole h k = stand_in k h (rev h)

pub whole-other : (h k x : ℕ) → x ≢ k → x ≢ rev k → whole h k x ≡ x
whole-other h k x not_k not_rev = put_other (put (λ x. x) k h) (rev k) (rev h) x not_rev ∙ put_other (λ x. x) k h x not_k

-- (h, k) becomes h, and (rev k, rev h) becomes rev h
unfoldable pub straightened : Map → ℕ → ℕ → Map
straightened T h k = record T {
  edge = put T.edge (k / 2) false;
  next = λ x. whole h k (T.next (last_part h k x));
  prev = λ x. whole h k (T.prev (first_part h k x));
  origin = λ x. T.origin (first_part h k x);
}

-- what a straightening asks: h leads to a vertex that k and the other half of h alone leave, and their other ends are two
pub record StraightensAt (T : Map) (h k : ℕ) : Type 0 where
  pub lives : Live T h
  pub next_h : T.next h ≡ k
  pub next_rev : T.next (rev k) ≡ rev h
  pub bent : k ≢ rev h
  pub apart : T.origin h ≢ T.origin (rev k)

module _ (T : Map) (h k : ℕ) (t : Sound T) (e : StraightensAt T h k) where
  abbrev S : Map
  S = straightened T h k

  abbrev first : ℕ → ℕ
  first = first_part h k

  abbrev last : ℕ → ℕ
  last = last_part h k

  live_k : Live T k
  live_k = subst (Live T) e.next_h (t.live_next h e.lives)

  live_j : Live T (rev k)
  live_j = rev_live T k live_k

  prev_k : T.prev k ≡ h
  prev_k = ap T.prev (sym e.next_h) ∙ t.prev-next h e.lives

  prev_rev : T.prev (rev h) ≡ rev k
  prev_rev = ap T.prev (sym e.next_rev) ∙ t.prev-next (rev k) live_j

  h≢k : h ≢ k
  h≢k is = next_differs T t h e.lives (e.next_h ∙ sym is)

  h≢j : h ≢ rev k
  h≢j is = e.bent (sym (rev-rev k) ∙ ap rev (sym is))

  g≢j : rev h ≢ rev k
  g≢j is = h≢k (sym (rev-rev h) ∙ ap rev is ∙ rev-rev k)

  -- the links of what is left
  pub record Left : Type 0 where
    pub edge_here : S.edge (k / 2) ≡ false
    pub edge_other : (u : ℕ) → u ≢ k / 2 → S.edge u ≡ T.edge u
    pub next : (x : ℕ) → S.next x ≡ whole h k (T.next (last x))
    pub prev : (x : ℕ) → S.prev x ≡ whole h k (T.prev (first x))
    pub origin : (x : ℕ) → S.origin x ≡ T.origin (first x)
    pub face : (x : ℕ) → S.face x ≡ T.face x
    pub vertices : S.vertices ≡ T.vertices
    pub edges : S.edges ≡ T.edges
    pub faces : S.faces ≡ T.faces

  pub left : Left
  unfolding straightened
  left = record {
    edge_here = put_same T.edge (k / 2) false;
    edge_other = put_other T.edge (k / 2) false;
    next = λ x. refl;
    prev = λ x. refl;
    origin = λ x. refl;
    face = λ x. refl;
    vertices = refl;
    edges = refl;
    faces = refl;
  }

  -- what is left was live, and is neither half of the edge that goes
  pub was_live : (x : ℕ) → Live S x → Live T x × (x ≢ k) × (x ≢ rev k)
  was_live = less-was_live T S k left.edge_here left.edge_other

  pub still_live : (x : ℕ) → Live T x → x ≢ k → x ≢ rev k → Live S x
  still_live = less-still_live T S k left.edge_here left.edge_other

  -- the first part of the half edge of a part that is neither k nor rev h, and the last part of one that is neither h nor rev k
  first-whole : (z : ℕ) → z ≢ k → z ≢ rev h → first (whole h k z) ≡ z
  first-whole z not_k not_g = elim (cases_eq z (rev k)) [
    | inl is ↦ ap (λ w. first (whole h k w)) is ∙ ap first (stand_in-rev k h (rev h)) ∙ first-rev h k ∙ sym is
    | inr other ↦ ap first (whole-other h k z not_k other) ∙ first-other h k z not_g
  ]

  last-whole : (z : ℕ) → z ≢ h → z ≢ rev k → last (whole h k z) ≡ z
  last-whole z not_h not_j = elim (cases_eq z k) [
    | inl is ↦ ap (λ w. last (whole h k w)) is ∙ ap last (stand_in-h k h (rev h)) ∙ last-h h k ∙ sym is
    | inr other ↦ ap last (whole-other h k z other not_j) ∙ last-other h k z not_h
  ]

  last_not : (x : ℕ) → Live S x → Live T (last x) × (last x ≢ h) × (last x ≢ rev k)
  last_not x live =
      let was = was_live x live in
      elim (cases_eq x h) [
        | inl is ↦
            let at : last x ≡ k = ap last is ∙ last-h h k in
            (subst (Live T) (sym at) live_k, λ i. h≢k (sym i ∙ at), λ i. rev_differs k (sym i ∙ at))
        | inr other ↦
            let at : last x ≡ x = last-other h k x other in
            (subst (Live T) (sym at) was.0, λ i. other (sym at ∙ i), λ i. was.2 (sym at ∙ i))
      ]

  first_not : (x : ℕ) → Live S x → Live T (first x) × (first x ≢ k) × (first x ≢ rev h)
  first_not x live =
      let was = was_live x live in
      elim (cases_eq x (rev h)) [
        | inl is ↦
            let at : first x ≡ rev k = ap first is ∙ first-rev h k in
            (subst (Live T) (sym at) live_j, λ i. rev_differs k (sym at ∙ i), λ i. g≢j (sym i ∙ at))
        | inr other ↦
            let at : first x ≡ x = first-other h k x other in
            (subst (Live T) (sym at) was.0, λ i. was.1 (sym at ∙ i), λ i. other (sym at ∙ i))
      ]

  next_last : (x : ℕ) → Live S x → T.next (last x) ≡ first (S.next x)
  next_last x live =
      let (lives, not_h, not_j) = last_not x live in
      sym (ap first (left.next x)
      ∙ first-whole (T.next (last x)) (λ is. not_h (sym (t.prev-next (last x) lives) ∙ ap T.prev is ∙ prev_k))
      (λ is. not_j (sym (t.prev-next (last x) lives) ∙ ap T.prev is ∙ prev_rev)))

  prev_first : (x : ℕ) → Live S x → T.prev (first x) ≡ last (S.prev x)
  prev_first x live =
      let (lives, not_k, not_g) = first_not x live in
      sym (ap last (left.prev x)
      ∙ last-whole (T.prev (first x)) (λ is. not_k (sym (t.next-prev (first x) lives) ∙ ap T.next is ∙ e.next_h))
      (λ is. not_g (sym (t.next-prev (first x) lives) ∙ ap T.next is ∙ e.next_rev)))

  along : (x : ℕ) → Live T x → T.face (T.next x) ≡ T.face x
  along = (face_cycles T t).along

  face_k : T.face k ≡ T.face h
  face_k = ap T.face (sym e.next_h) ∙ along h e.lives

  face_j : T.face (rev k) ≡ T.face (rev h)
  face_j = sym (along (rev k) live_j) ∙ ap T.face e.next_rev

  -- the vertex in the middle has two out edges alone
  middle_alone : (x : ℕ) → Live T x → T.origin x ≡ T.origin k → (x ≡ k) ⊎ (x ≡ rev h)
  unfolding ccw
  middle_alone x live at =
      let at_k : ccw T k ≡ rev h = ap rev prev_k in
      let at_g : ccw T (rev h) ≡ k = ap rev prev_rev ∙ rev-rev k in
      reaches_stays (By (ccw T)) (λ z. (z ≡ k) ⊎ (z ≡ rev h))
      (λ y z i s. elim i [ inl m ↦ inr (sym s ∙ ap (ccw T) m ∙ at_k) | inr m ↦ inl (sym s ∙ ap (ccw T) m ∙ at_g) ])
      (inl refl) (same_origin_reaches T t k x live_k live (sym at))

  live_h : Live S h
  live_h = still_live h e.lives h≢k h≢j

  -- no half edge that is left starts there
  pub middle_bare : (x : ℕ) → Live S x → S.origin x ≢ T.origin k
  middle_bare x live at =
      let (lives, not_k, not_g) = first_not x live in
      elim (middle_alone (first x) lives (sym (left.origin x) ∙ at)) [ inl is ↦ not_k is | inr is ↦ not_g is ]

  subdivides : Subdivide S T h k (T.origin k)
  subdivides = record {
    middle = record {
      at = record { lives = live_h; fresh = left.edge_here; isolated = middle_bare; vertex_room = omega (arith, t.below_vertices k live_k, left.vertices) };
      grows = grows_back S T k t live_k left.edge_other left.edges left.vertices;
      next_h = e.next_h;
      prev_k = prev_k;
      next_rev = e.next_rev;
      prev_rev = prev_rev;
      faces = sym left.faces;
    };
    parts = record {
      next_last = next_last;
      prev_first = prev_first;
      origin_first = λ x live. sym (left.origin x);
      face_first = λ x live. elim (cases_eq x (rev h)) [
        | inl is ↦ ap (λ z. T.face (first z)) is ∙ ap T.face (first-rev h k) ∙ face_j ∙ sym (left.face x ∙ ap T.face is)
        | inr other ↦ ap T.face (first-other h k x other) ∙ sym (left.face x)
      ];
      face_last = λ x live. elim (cases_eq x h) [
        | inl is ↦ ap (λ z. T.face (last z)) is ∙ ap T.face (last-h h k) ∙ face_k ∙ sym (left.face x ∙ ap T.face is)
        | inr other ↦ ap T.face (last-other h k x other) ∙ sym (left.face x)
      ];
    };
    origin_k = refl;
    origin_rev = sym (t.origin-next h e.lives) ∙ ap T.origin e.next_h;
  }

  whole_lives : (p : ℕ) → p ≢ rev k → Live T p → Live S (whole h k p) × (S.face (whole h k p) ≡ T.face p)
  whole_lives p not_j live = elim (cases_eq p k) [
    | inl is ↦
        let at : whole h k p ≡ h = ap (whole h k) is ∙ stand_in-h k h (rev h) in
        (subst (Live S) (sym at) live_h, left.face (whole h k p) ∙ ap T.face at ∙ sym face_k ∙ ap T.face (sym is))
    | inr other ↦
        let at = whole-other h k p other not_j in
        (subst (Live S) (sym at) (still_live p live other not_j), left.face (whole h k p) ∙ ap T.face at)
  ]

  whole_apart : (z : ℕ) → (whole h k z ≢ k) × (whole h k z ≢ rev k)
  whole_apart z = elim (cases_eq z k) [
    | inl is ↦
        let at : whole h k z ≡ h = ap (whole h k) is ∙ stand_in-h k h (rev h) in (λ i. h≢k (sym at ∙ i), λ i. h≢j (sym at ∙ i))
    | inr not_k ↦ elim (cases_eq z (rev k)) [
      | inl is ↦
          let at : whole h k z ≡ rev h = ap (whole h k) is ∙ stand_in-rev k h (rev h) in
          (λ i. e.bent (sym i ∙ at), λ i. g≢j (sym at ∙ i))
      | inr not_j ↦ let at = whole-other h k z not_k not_j in (λ i. not_k (sym at ∙ i), λ i. not_j (sym at ∙ i))
    ]
  ]

  unsubdivides : Unsubdivide S T h k (T.origin k)
  unsubdivides = record {
    subdivide = subdivides;
    next_apart = λ x live is. (whole_apart (T.next (last x))).1 (sym (left.next x) ∙ is);
    prev_apart = λ x live is. (whole_apart (T.prev (first x))).0 (sym (left.prev x) ∙ is);
    two_ends = λ same.
        e.apart
        (sym (ap T.origin (first-other h k h (λ is. rev_differs h (sym is)))) ∙ sym (left.origin h) ∙ same ∙ left.origin (rev h)
        ∙ ap T.origin (first-rev h k));
    below_edges = λ x live. omega (arith, t.below_edges x (was_live x live).0, left.edges);
  }

  pub straightened_keeps : Sphere T → Sound S × Sphere S
  straightened_keeps sphere = unsubdivide_keeps S T h k (T.origin k) unsubdivides t sphere

  pub straightened_edit : Edit edges_joined T S
  straightened_edit = (h, k, T.origin k, unsubdivides)

  -- a link that comes from neither h nor the other half of k
  pub straightened_follows : Sound S → (f p q : ℕ) → p ≢ h → p ≢ rev k → Follows T f p q → Follows S f (whole h k p) (whole h k q)
  straightened_follows sound f p q not_h not_j link =
      let next : S.next (whole h k p) ≡ whole h k q =
      left.next (whole h k p) ∙ ap (λ z. whole h k (T.next z)) (last-whole p not_h not_j) ∙ ap (whole h k) link.next in
      let (live, face) = whole_lives p not_j link.live in
      record {
        live = live;
        next = next;
        prev = ap S.prev (sym next) ∙ sound.prev-next (whole h k p) live;
        face = face ∙ link.face;
      }
