-- What stands in a strip, and what is given up with it.
use Rattle.std.proofs.Common.{◌≡◌, ◌≢◌, ◌↔◌, inl, inr, ◌/◌, ◌<◌, ◌≤◌, ◌==◌, ℕ, eq-eqb, List, [], ◌∷◌, ◌++◌, append-nil, map, sym, refl, ap, ◌∙◌, subst, arith}
use Rattle.std.proofs.lemmas.Bool.{cases_eq, cases_lt}
use Rattle.dcel_maps.specs.Borders.{IsEdgeAt, IsFaceAt}
use Rattle.dcel_maps.specs.Cyclic.{from_least}
use Rattle.dcel_maps.specs.edits.Strip.{strip_edges, strip_faces, strip_half, strip_record, strip_word}
use Rattle.dcel_maps.specs.Removals.{gives_up_edge, gives_up_face, gives_up_vertex}
use Rattle.dcel_maps.specs.Shapes.{IsSound, IsSphere, Shape, face_of, map_of, next_of, origin_of, prev_of}
use Rattle.dcel_maps.specs.Strips.{IsStripAround, strip_of}
use Rattle.dcel_maps.specs.theory.Sound.{Sound}
use Rattle.dcel_maps.specs.Walking.{IsOutEdge}
use Rattle.dcel_maps.specs.Words.{TurnsTo, become, count_of, word_of}
use Rattle.dcel_maps.proofs.maps.Soundness.{face_cycles, face_prev}
use Rattle.dcel_maps.proofs.removal.StripShapes.{GivesUpStrip}
use Rattle.dcel_maps.proofs.removal.StripSpokes.{OuterWord, are_spokes, each_out, spoke_alone, spoke_inner, spokes_are, spokes_once, trip}
use Rattle.dcel_maps.proofs.shapes.Chains.{single-map}
use Rattle.dcel_maps.proofs.maps.Halves.{rev_or_same}
use Rattle.dcel_maps.proofs.shapes.Maps.{map-sound}
use Rattle.dcel_maps.proofs.words.Ascending.{any-ascending, goes_up-ascending}
use Rattle.dcel_maps.proofs.words.Becoming.{become-none}
use Rattle.dcel_maps.proofs.words.Counts.{count-append, count-equal, count-other, count-same, first_or_later}
use Rattle.dcel_maps.proofs.words.Cuts.{become-append, become-turn}
use Rattle.dcel_maps.proofs.words.Cyclic.{from_least-same}
use Rattle.dcel_maps.proofs.words.EachSet.{but_last-is, last_of-is}
use Rattle.dcel_maps.proofs.words.Mapped.{any_stands, count-mapped, mapped_from, stands_any}
use Rattle.dcel_maps.proofs.words.Turns.{count-turn, turns_on}

-- in the cyclic list (h, m, g), where (g, h) becomes the items
pub outer_cut : (g h : ℕ) (items w m : List ℕ) → TurnsTo w (h ∷ m ++ g ∷ []) → count_of h (m ++ g ∷ []) ≡ 0 → count_of g m ≡ 0 → count_of g items ≡ 0
    → ((x : ℕ) → count_of x (m ++ items) ≤ 1) → from_least (become g [] (become h items w)) ≡ from_least (m ++ items)
outer_cut g h items w m turn no_h no_g none single =
    let first : become h items (h ∷ m ++ g ∷ []) ≡ items ++ (m ++ g ∷ []) =
    rw (eq-eqb h h refl) (ap (λ r. items ++ r) (become-none h items (m ++ g ∷ []) no_h)) in
    let gone : become g [] (g ∷ []) ≡ [] = rw (eq-eqb g g refl) refl in
    let second : become g [] (items ++ (m ++ g ∷ [])) ≡ items ++ m =
    become-append g [] items (m ++ g ∷ [])
    ∙ rw (become-none g [] items none, become-append g [] m (g ∷ []), become-none g [] m no_g, gone, append-nil m) refl in
    let both : TurnsTo (become g [] (become h items w)) (items ++ m) =
    subst (TurnsTo (become g [] (become h items w))) (ap (become g []) first ∙ second) (become-turn g [] (become-turn h items turn)) in
    let turned : TurnsTo (become g [] (become h items w)) (m ++ items) =
    turns_on both record { front = items; back = m; was = refl; is = refl } in
    from_least-same turned (λ x. omega (arith, single x, count-turn x turned))

-- the strip of h: its items, and what is read off them
module _ (s : Shape) (sound : IsSound s) (sphere : IsSphere s) (v h : ℕ) (around : IsStripAround s v h) where
  abbrev items : List ℕ
  items = map (next_of s) (trip s sound sphere v h around).rest

  t : Sound (map_of s)
  t = map-sound sound

  pub strip-is : strip_of s h ≡ items ++ next_of s h ∷ []
  strip-is = ap (λ xs. map (next_of s) xs ++ next_of s h ∷ []) (spokes_are s sound sphere v h around)

  pub half-is : strip_half s (items ++ next_of s h ∷ []) ≡ h
  half-is = ap (prev_of s) (last_of-is 0 items (next_of s h)) ∙ t.prev-next h around.out.live

  -- each item comes after an out edge of v, and what comes after each of these is an item
  pub record AfterOut (e : ℕ) : Type 0 where
    pub half : ℕ
    pub out : IsOutEdge s v half
    pub next : next_of s half ≡ e
    pub prev : prev_of s e ≡ half

  after_out : (x e : ℕ) → IsOutEdge s v x → next_of s x ≡ e → AfterOut e
  after_out x e out next = record { half = x; out = out; next = next; prev = ap (prev_of s) (sym next) ∙ t.prev-next x out.live }

  pub item_after : (e : ℕ) → 0 < count_of e (items ++ next_of s h ∷ []) → AfterOut e
  item_after e found = elim (cases_lt 0 (count_of e items)) [
    | inl there ↦
        let (x, listed, is) = mapped_from (next_of s) (trip s sound sphere v h around).rest e there in
        after_out x e (are_spokes s sound sphere v h around x listed).out is
    | inr none ↦ elim (first_or_later e (next_of s h) [] (omega (arith, found, none, count-append e items (next_of s h ∷ [])))) [
      | inl is ↦ after_out h e around.out (sym is)
      | inr nothing ↦ absurd (omega (arith, nothing))
    ]
  ]

  pub after_listed : (x : ℕ) → IsOutEdge s v x → 0 < count_of (next_of s x) (items ++ next_of s h ∷ [])
  after_listed x out = elim (first_or_later x h (trip s sound sphere v h around).rest (each_out s sound sphere v h around x out)) [
    | inl is ↦
        subst (λ z. 0 < count_of (next_of s z) (items ++ next_of s h ∷ [])) (sym is)
        (omega (arith, count-append (next_of s h) items (next_of s h ∷ []), count-same (next_of s h) []))
    | inr later ↦
        omega (
          arith,
          count-mapped (next_of s) (trip s sound sphere v h around).rest x later,
          count-append (next_of s x) items (next_of s h ∷ []),
        )
  ]

  -- an edge that is given up with the strip is one at v
  pub edge_at : (u : ℕ) → (0 < count_of u (strip_edges s (items ++ next_of s h ∷ []))) ↔ IsEdgeAt s v u
  edge_at u = (
    λ found.
        let (e, there, is) = mapped_from (λ e. prev_of s e / 2) (items ++ next_of s h ∷ []) u found in
        let a = item_after e there in
        record { half = a.half; out = a.out; is = ap (λ z. z / 2) (sym a.prev) ∙ is },
    λ at.
        subst (λ z. 0 < count_of z (strip_edges s (items ++ next_of s h ∷ [])))
        (ap (λ z. z / 2) (t.prev-next at.half at.out.live) ∙ at.is)
        (count-mapped (λ e. prev_of s e / 2) (items ++ next_of s h ∷ []) (next_of s at.half) (after_listed at.half at.out)),
  )

  face_along : (x : ℕ) → IsOutEdge s v x → face_of s (next_of s x) ≡ face_of s x
  face_along x out = (face_cycles (map_of s) t).along x out.live

  face_of_item : (f e : ℕ) → 0 < count_of e items → face_of s e ≡ f → IsFaceAt s v f × (f ≢ 0)
  face_of_item f e there is =
      let (x, x_in, next) = mapped_from (next_of s) (trip s sound sphere v h around).rest e there in
      let k = are_spokes s sound sphere v h around x x_in in
      let at : face_of s x ≡ f = sym (face_along x k.out) ∙ ap (face_of s) next ∙ is in
      (record { half = x; out = k.out; is = at }, λ outside. spoke_inner s sound sphere v h around x k (at ∙ outside))

  one_face : (e z : ℕ) → 0 < count_of e items → 0 < count_of z items → face_of s e ≡ face_of s z → e ≡ z
  one_face e z e_in z_in same =
      let (x, x_in, x_next) = mapped_from (next_of s) (trip s sound sphere v h around).rest e e_in in
      let (w, w_in, w_next) = mapped_from (next_of s) (trip s sound sphere v h around).rest z z_in in
      let k = are_spokes s sound sphere v h around x x_in in
      let j = are_spokes s sound sphere v h around w w_in in
      let at : face_of s x ≡ face_of s w =
      sym (face_along x k.out) ∙ ap (face_of s) x_next ∙ same ∙ ap (face_of s) (sym w_next) ∙ face_along w j.out in
      sym x_next ∙ ap (next_of s) (sym (spoke_alone s sound sphere v h around x w k j.out at)) ∙ w_next

  -- and a face that is given up is an inner one at v
  pub face_at : (f : ℕ) → (0 < count_of f (strip_faces s (items ++ next_of s h ∷ []))) ↔ (IsFaceAt s v f × (f ≢ 0))
  face_at f =
      let spokes = (trip s sound sphere v h around).rest in
      let listed : strip_faces s (items ++ next_of s h ∷ []) ≡ map (face_of s) items = ap (map (face_of s)) (but_last-is items (next_of s h)) in (
        λ found.
            let (e, there, is) = mapped_from (face_of s) items f (omega (arith, found, ap (count_of f) listed)) in
            face_of_item f e there is,
        λ both.
            let (at, inside) = both in
            let other : at.half ≢ h = λ is. inside (sym at.is ∙ ap (face_of s) is ∙ around.outer) in
            elim (first_or_later at.half h spokes (each_out s sound sphere v h around at.half at.out)) [
              | inl is ↦ absurd (other is)
              | inr later ↦
                  let there = count-mapped (face_of s) items (next_of s at.half) (count-mapped (next_of s) spokes at.half later) in
                  let face : face_of s (next_of s at.half) ≡ f = face_along at.half at.out ∙ at.is in
                  subst (λ z. 0 < count_of z (strip_faces s (items ++ next_of s h ∷ []))) face
                  (omega (arith, there, ap (count_of (face_of s (next_of s at.half))) listed))
            ],
      )

  -- nothing is given up twice
  items_once : (k : ℕ) → count_of k items ≤ 1
  items_once =
      single-map (next_of s) (trip s sound sphere v h around).rest
      (λ x z x_in z_in same.
      sym (t.prev-next x (are_spokes s sound sphere v h around x x_in).out.live) ∙ ap (prev_of s) same
      ∙ t.prev-next z (are_spokes s sound sphere v h around z z_in).out.live)
      (spokes_once s sound sphere v h around)

  next_h_apart : count_of (next_of s h) items ≡ 0
  next_h_apart = elim (cases_lt 0 (count_of (next_of s h) items)) [
    | inl found ↦
        let (x, there, is) = mapped_from (next_of s) (trip s sound sphere v h around).rest (next_of s h) found in
        let k = are_spokes s sound sphere v h around x there in
        absurd (k.other (sym (t.prev-next x k.out.live) ∙ ap (prev_of s) is ∙ t.prev-next h around.out.live))
    | inr none ↦ omega (arith, none)
  ]

  list_once : (k : ℕ) → count_of k (items ++ next_of s h ∷ []) ≤ 1
  list_once k = elim (cases_eq k (next_of s h)) [
    | inl is ↦
        omega (
          arith,
          ap (λ z. count_of z items) is,
          next_h_apart,
          count-append k items (next_of s h ∷ []),
          count-equal k (next_of s h) [] is,
        )
    | inr other ↦ omega (arith, items_once k, count-append k items (next_of s h ∷ []), count-other k (next_of s h) [] other)
  ]

  pub strip_edges_once : (k : ℕ) → count_of k (strip_edges s (items ++ next_of s h ∷ [])) ≤ 1
  strip_edges_once = single-map (λ e. prev_of s e / 2) (items ++ next_of s h ∷ []) (λ e z e_in z_in same.
      let a = item_after e e_in in
      let b = item_after z z_in in
      let halves : a.half / 2 ≡ b.half / 2 = ap (λ k. k / 2) (sym a.prev) ∙ same ∙ ap (λ k. k / 2) b.prev in
      elim (rev_or_same a.half b.half halves) [
        | inl is ↦ sym a.next ∙ ap (next_of s) is ∙ b.next
        | inr is ↦ absurd (t.two_ends b.half b.out.live (b.out.start ∙ sym a.out.start ∙ ap (origin_of s) is))
      ]) list_once

  pub strip_faces_once : (k : ℕ) → count_of k (strip_faces s (items ++ next_of s h ∷ [])) ≤ 1
  strip_faces_once k =
      let listed : strip_faces s (items ++ next_of s h ∷ []) ≡ map (face_of s) items = ap (map (face_of s)) (but_last-is items (next_of s h)) in
      omega (arith, ap (count_of k) listed, single-map (face_of s) items one_face items_once k)

  -- so the record of a strip gives up what it should
  pub strip_gives : GivesUpStrip s v (strip_record s (items ++ next_of s h ∷ []))
  unfolding gives_up_edge gives_up_face gives_up_vertex
  strip_gives =
      let us = strip_edges s (items ++ next_of s h ∷ []) in
      let fs = strip_faces s (items ++ next_of s h ∷ []) in
      record {
        vertices = λ w. ap (λ x. origin_of s x == w) half-is ∙ ap (λ z. z == w) around.out.start;
        edges = λ u. (
          λ given. (edge_at u).0 (any_stands u us (sym (any-ascending (λ e. e == u) us) ∙ given)),
          λ at. any-ascending (λ e. e == u) us ∙ stands_any u us ((edge_at u).1 at),
        );
        faces = λ f. (
          λ given. (face_at f).0 (any_stands f fs (sym (any-ascending (λ g. g == f) fs) ∙ given)),
          λ at. any-ascending (λ g. g == f) fs ∙ stands_any f fs ((face_at f).1 at),
        );
        in_order = (goes_up-ascending us strip_edges_once, goes_up-ascending fs strip_faces_once);
      }

  -- the outer word is the one before, without h and the half edge before it, and with the items
  pub word-is : (y : ℕ) (r : List ℕ) → OuterWord s sound sphere v h around y r → ((k : ℕ) → count_of k (y ∷ r ++ items) ≤ 1)
      → strip_word s (items ++ next_of s h ∷ []) ≡ from_least (y ∷ r ++ items)
  word-is y r outer once =
      let g = prev_of s h in
      let free : count_of g items ≡ 0 = elim (cases_lt 0 (count_of g items)) [
        | inl found ↦
            let (x, there, is) = mapped_from (next_of s) (trip s sound sphere v h around).rest g found in
            let k = are_spokes s sound sphere v h around x there in
            absurd (spoke_inner s sound sphere v h around x k
            (sym (face_along x k.out) ∙ ap (face_of s) is ∙ face_prev (map_of s) t h around.out.live ∙ around.outer))
        | inr none ↦ omega (arith, none)
      ] in
      rw (half-is, but_last-is items (next_of s h))
      (outer_cut g h items (word_of s.words 0) (y ∷ r) (subst (λ f. TurnsTo (word_of s.words f) (h ∷ y ∷ r ++ g ∷ [])) around.outer outer.turn)
      (omega (arith, outer.single h, count-same h (y ∷ r ++ g ∷ [])))
      (omega (arith, outer.single g, count-append g (h ∷ []) (y ∷ r ++ g ∷ []), count-append g (y ∷ r) (g ∷ []), count-same g []))
      free once)
