-- After a subdivision: the words whose half edges became their parts, and the faces that stay.
use Rattle.std.proofs.Common.{◌≡◌, ◌≢◌, ◌⊎◌, inl, inr, ℕ, ◌+◌, ◌*◌, ◌≤◌, List, [], ◌∷◌, eq-eqb, refl, subst, ap, sym, ◌∙◌, arith}
use Rattle.std.proofs.lemmas.Bool.{cases_eq, cases_lt, ne_eqb}
use Rattle.dcel_fixed.specs.HalfEdges.{rev}
use Rattle.dcel_maps.specs.Cyclic.{from_least}
use Rattle.dcel_maps.specs.edits.Split.{with_middle}
use Rattle.dcel_maps.specs.Maps.{Map, Live}
use Rattle.dcel_maps.specs.theory.Sound.{Sound}
use Rattle.dcel_maps.specs.theory.Standing.{Follows, Stands}
use Rattle.dcel_maps.specs.theory.Cycles.{IsCycle, Path}
use Rattle.dcel_maps.specs.Words.{become, count_of, word_of}
use Rattle.dcel_maps.proofs.maps.Edits.{Subdivide, first_part, last_part}
use Rattle.dcel_maps.proofs.maps.Growth.{Grown, each_live, not_h, not_rev, still_live}
use Rattle.dcel_maps.proofs.maps.Halves.{rev_differs}
use Rattle.dcel_maps.proofs.maps.Soundness.{face_cycles, face_prev, rev_live}
use Rattle.dcel_maps.proofs.maps.Subdivides.{first-h, first-live, first-other, first-rev, last-h, last-live, last-other, last-rev, subdivide_grown}
use Rattle.dcel_maps.proofs.words.Becoming.{become-none, count-become, count-replaced}
use Rattle.dcel_maps.proofs.words.Counts.{count-equal, count-other, count-same}
use Rattle.dcel_maps.proofs.words.Cyclic.{from_least-full, from_least-kept}
use Rattle.dcel_maps.proofs.words.Faces.{IsWordOf, KeepsFace, word_of_face}
use Rattle.dcel_maps.proofs.words.Paths.{next_in_word-follows}
use Rattle.dcel_maps.proofs.words.Standing.{elsewhere_absent, stands_live, stands_once}

-- words where no half of the edge stands stay
pub with_middle-other : (M : Map) (ws : List (List ℕ)) → Stands M ws → (e n f : ℕ) → M.face e ≢ f → M.face (rev e) ≢ f
    → with_middle e n (word_of ws f) ≡ word_of ws f
with_middle-other M ws st e n f other other_half =
    let word = word_of_face M ws st f in
    let none = elsewhere_absent M f (word_of ws f) word in
    rw (become-none e (e ∷ n ∷ []) (word_of ws f) (none e other), become-none (rev e) ((n + 1) ∷ rev e ∷ []) (word_of ws f) (none (rev e) other_half))
    (from_least-kept (word_of ws f) word.least (stands_once M f (word_of ws f) word))

-- a list where h becomes (h, k), and t becomes (l, t)
abbrev pub stretch : ℕ → ℕ → ℕ → ℕ → List ℕ → List ℕ
stretch h k t l w = become t (l ∷ t ∷ []) (become h (h ∷ k ∷ []) w)

module _ (h k t l : ℕ) (t≢h : t ≢ h) (t≢k : t ≢ k) where
  stretch-h : (y : ℕ) (r : List ℕ) → y ≡ h → stretch h k t l (y ∷ r) ≡ h ∷ k ∷ stretch h k t l r
  stretch-h y r is = rw (eq-eqb h y (sym is), ne_eqb t h t≢h, ne_eqb t k t≢k) refl

  stretch-t : (y : ℕ) (r : List ℕ) → y ≡ t → stretch h k t l (y ∷ r) ≡ l ∷ t ∷ stretch h k t l r
  stretch-t y r is = rw (ne_eqb h y (λ i. t≢h (sym is ∙ sym i)), eq-eqb t y (sym is)) refl

  stretch-other : (y : ℕ) (r : List ℕ) → y ≢ h → y ≢ t → stretch h k t l (y ∷ r) ≡ y ∷ stretch h k t l r
  stretch-other y r not_h not_t = rw (ne_eqb h y (λ i. not_h (sym i)), ne_eqb t y (λ i. not_t (sym i))) refl

  count-stretch : (y : ℕ) (w : List ℕ)
      → count_of y (stretch h k t l w) ≡ count_of y w + count_of y (k ∷ []) * count_of h w + count_of y (l ∷ []) * count_of t w
  count-stretch y w =
      let inner = count-become y h (k ∷ []) w in
      let apart : count_of t (k ∷ []) ≡ 0 = count-other t k [] t≢k in
      let same : count_of t (become h (h ∷ k ∷ []) w) ≡ count_of t w = count-become t h (k ∷ []) w ∙ rw apart (omega arith) in
      let outer = count-replaced y t (l ∷ t ∷ []) (become h (h ∷ k ∷ []) w) in
      let outer' = rw same at outer in
      omega (arith, inner, outer')

  pub stretch_full : (w : List ℕ) → w ≢ [] → stretch h k t l w ≢ []
  stretch_full [] full empty = full refl
  stretch_full (x ∷ r) full empty = omega (arith, count-stretch x (x ∷ r), count-same x r, ap (count_of x) empty)

module _ (S T : Map) (h k v : ℕ) (e : Subdivide S T h k v) (s : Sound S) where
  abbrev t : ℕ
  t = rev h

  abbrev l : ℕ
  l = rev k

  abbrev first : ℕ → ℕ
  first = first_part h k

  abbrev last : ℕ → ℕ
  last = last_part h k

  grown : Grown S T k
  grown = subdivide_grown S T h k v e

  live_t : Live S t
  live_t = rev_live S h e.lives

  t≢k : t ≢ k
  t≢k = not_h S T k grown t live_t

  module _ (f : ℕ) where
    -- the last part of a half edge is followed by the first part of the next one
    follows_on : (p q : ℕ) → Follows S f p q → Follows T f (last p) (first q)
    follows_on p q at =
        let live_q : Live S q = subst (Live S) at.next (s.live_next p at.live) in
        record {
          live = last-live S T h k v e p at.live;
          next = e.next_last p at.live ∙ ap first at.next;
          prev = e.prev_first q live_q ∙ ap last at.prev;
          face = e.face_last p at.live ∙ at.face;
        }

    -- and the first part of an edge that is cut by the last
    follows_within : (y : ℕ) → Live S y → S.face y ≡ f → (y ≡ h) ⊎ (y ≡ t) → Follows T f (first y) (last y)
    follows_within y live at cut = record {
      live = first-live S T h k v e y live;
      next = elim cut [
        | inl i ↦ ap (λ z. T.next (first z)) i ∙ ap T.next (first-h h k) ∙ e.next_h ∙ sym (ap last i ∙ last-h h k)
        | inr i ↦ ap (λ z. T.next (first z)) i ∙ ap T.next (first-rev h k) ∙ e.next_rev ∙ sym (ap last i ∙ last-rev h k)
      ];
      prev = elim cut [
        | inl i ↦ ap (λ z. T.prev (last z)) i ∙ ap T.prev (last-h h k) ∙ e.prev_k ∙ sym (ap first i ∙ first-h h k)
        | inr i ↦ ap (λ z. T.prev (last z)) i ∙ ap T.prev (last-rev h k) ∙ e.prev_rev ∙ sym (ap first i ∙ first-rev h k)
      ];
      face = e.face_first y live ∙ at;
    }

    -- the parts of a half edge, before the parts of a list
    cases : (y : ℕ) (r : List ℕ)
        → ((first y ≡ last y) × (stretch h k t l (y ∷ r) ≡ last y ∷ stretch h k t l r))
        ⊎ (((y ≡ h) ⊎ (y ≡ t)) × (stretch h k t l (y ∷ r) ≡ first y ∷ last y ∷ stretch h k t l r))
    cases y r = elim (cases_eq y h) [
      | inl i ↦
          let is = stretch-h h k t l (rev_differs h) t≢k y r i in
          let a : first y ≡ h = ap first i ∙ first-h h k in
          let b : last y ≡ k = ap last i ∙ last-h h k in
          inr (inl i, cc)
      | inr not_h ↦ elim (cases_eq y t) [
        | inl i ↦
            let is = stretch-t h k t l (rev_differs h) t≢k y r i in
            let a : first y ≡ l = ap first i ∙ first-rev h k in
            let b : last y ≡ t = ap last i ∙ last-rev h k in
            inr (inr i, cc)
        | inr not_t ↦
            let is = stretch-other h k t l (rev_differs h) t≢k y r not_h not_t in
            let a = first-other h k y not_t in
            let b = last-other h k y not_h in
            inl (cc, cc)
      ]
    ]

    -- a path leads on from the last part of its first half edge to the first part of its end
    path : (x : ℕ) (r : List ℕ) (z : ℕ) → Path (Follows S f) x r z → Path (Follows T f) (last x) (stretch h k t l r) (first z)
    path x [] z p = follows_on x z p
    path x (y ∷ r) z p =
        let live_y : Live S y = subst (Live S) p.0.next (s.live_next x p.0.live) in
        let at : S.face y ≡ f = ap S.face (sym p.0.next) ∙ (face_cycles S s).along x p.0.live ∙ p.0.face in
        let on = follows_on x y p.0 in
        let rest = path y r z p.1 in
        elim (cases y r) [
          | inl (same, is) ↦ rw is (subst (Follows T f (last x)) same on, rest)
          | inr (cut, is) ↦ rw is (on, (follows_within y live_y at cut, rest))
        ]

    cycle : (w : List ℕ) → IsCycle (Follows S f) w → IsCycle (Follows T f) (stretch h k t l w)
    cycle [] round = tt
    cycle (x ∷ r) round =
        let at = next_in_word-follows (Follows S f) (x ∷ r) round x (omega (arith, count-same x r)) in
        let rest = path x r x round in
        elim (cases x r) [
          | inl (same, is) ↦ rw is (subst (Path (Follows T f) (last x) (stretch h k t l r)) same rest)
          | inr (cut, is) ↦ rw is (follows_within x at.live at.face cut, rest)
        ]

    module _ (w : List ℕ) (word : IsWordOf S f w) where
      at_most_one : (x : ℕ) → count_of x w ≤ 1
      at_most_one = stands_once S f w word

      -- no half edge stands twice
      single : (y : ℕ) → count_of y (stretch h k t l w) ≤ 1
      single y =
          let counted = count-stretch h k t l (rev_differs h) t≢k y w in
          elim (cases_lt 0 (count_of y w)) [
            | inl found ↦
                let live = (stands_live S f w word y found).0 in
                let not_k : count_of y (k ∷ []) ≡ 0 = count-other y k [] (not_h S T k grown y live) in
                let not_l : count_of y (l ∷ []) ≡ 0 = count-other y l [] (not_rev S T k grown y live) in
                let left = rw (not_k, not_l) at counted in
                omega (arith, left, at_most_one y)
            | inr none ↦ elim (cases_eq y k) [
              | inl is ↦
                  let one : count_of y (k ∷ []) ≡ 1 = count-equal y k [] is in
                  let not_l : count_of y (l ∷ []) ≡ 0 = count-other y l [] (λ i. rev_differs k (sym i ∙ is)) in
                  let left = rw (one, not_l) at counted in
                  omega (arith, left, none, at_most_one h)
              | inr not_k ↦
                  let none_k : count_of y (k ∷ []) ≡ 0 = count-other y k [] not_k in
                  elim (cases_eq y l) [
                    | inl is ↦
                        let one : count_of y (l ∷ []) ≡ 1 = count-equal y l [] is in
                        let left = rw (none_k, one) at counted in
                        omega (arith, left, none, at_most_one t)
                    | inr not_l ↦
                        let none_l : count_of y (l ∷ []) ≡ 0 = count-other y l [] not_l in
                        let left = rw (none_k, none_l) at counted in
                        omega (arith, left, none)
                  ]
            ]
          ]

      -- the word with the parts
      pub subdivide_word : Sound T → w ≢ [] → IsWordOf T f (from_least (stretch h k t l w))
      subdivide_word sound full =
          from_least-full T sound f (stretch h k t l w) (stretch_full h k t l (rev_differs h) t≢k w full) (cycle w word.cycle) single

  -- a half edge that was there lies on the face where it did
  pub subdivide_face : (x : ℕ) → Live S x → T.face x ≡ S.face x
  subdivide_face x live = elim (cases_eq x t) [
    | inl i ↦ ap T.face i ∙ ap T.face (sym (last-rev h k)) ∙ e.face_last t live_t ∙ ap S.face (sym i)
    | inr d ↦ ap T.face (sym (first-other h k x d)) ∙ e.face_first x live
  ]

  -- the other faces stay
  pub subdivide-keeps_face : (g : ℕ) → g ≢ S.face h → g ≢ S.face t → KeepsFace S T g
  subdivide-keeps_face g not_h not_t =
      let next-other : (x : ℕ) → Live S x → S.face x ≡ g → S.next x ≢ t =
      λ x live at is. not_t (sym at ∙ sym ((face_cycles S s).along x live) ∙ ap S.face is) in
      let prev-other : (x : ℕ) → Live S x → S.face x ≡ g → S.prev x ≢ h =
      λ x live at is. not_h (sym at ∙ sym (face_prev S s x live) ∙ ap S.face is) in
      record {
        comes = each_live S T k grown (λ x. T.face x ≡ g → Live S x × (S.face x ≡ g))
            (λ x live at. (live, sym (subdivide_face x live) ∙ at))
            (λ at. absurd (not_h (sym at ∙ ap T.face (sym (last-h h k)) ∙ e.face_last h e.lives)))
            (λ at. absurd (not_t (sym at ∙ ap T.face (sym (first-rev h k)) ∙ e.face_first t live_t)));
        live = λ x live at. still_live S T k grown x live;
        next = λ x live at.
            ap T.next (sym (last-other h k x (λ i. not_h (sym at ∙ ap S.face i)))) ∙ e.next_last x live
            ∙ first-other h k (S.next x) (next-other x live at);
        prev = λ x live at.
            ap T.prev (sym (first-other h k x (λ i. not_t (sym at ∙ ap S.face i)))) ∙ e.prev_first x live
            ∙ last-other h k (S.prev x) (prev-other x live at);
        face = λ x live at. subdivide_face x live ∙ at;
      }
