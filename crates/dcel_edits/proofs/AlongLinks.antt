-- Links led along half edges: what stands in the lists afterwards.
use Rattle.std.proofs.Common.{◌≡◌, inl, inr, ℕ, ◌<◌, ◌≤◌, List, [], ◌∷◌, ◌++◌, length, slice_index, slice_set, None, refl, sym, ap, ◌∙◌, arith}
use Rattle.std.proofs.lemmas.List.{get_or-set_other, get_or-set_same, length-set}
use Rattle.dcel_edits.specs.Strip.{all_moved_out, moved_out, next_along, prev_along}
use Rattle.dcel_maps.specs.edits.Strip.{each_set}
use Rattle.dcel_maps.specs.theory.Cycles.{Path}
use Rattle.dcel_maps.specs.Words.{count_of, last_of}
use Rattle.dcel_maps.proofs.words.Counts.{absent_head, count-same, first_or_later}
use Rattle.dcel_maps.proofs.words.EachSet.{each_set-same}
use Rattle.dcel_store.specs.Lists.{Lists}

-- led along a list and then to one half edge more
pub next_along-append : (before : ℕ) (items : List ℕ) (last : ℕ) (xs : List ℕ)
    → next_along (last_of before items) (last ∷ []) (next_along before items xs) ≡ next_along before (items ++ last ∷ []) xs
next_along-append before [] last xs = refl
next_along-append before (e ∷ es) last xs = next_along-append e es last (slice_set xs before e)

pub prev_along-append : (before : ℕ) (items : List ℕ) (last : ℕ) (xs : List ℕ)
    → prev_along (last_of before items) (last ∷ []) (prev_along before items xs) ≡ prev_along before (items ++ last ∷ []) xs
prev_along-append before [] last xs = refl
prev_along-append before (e ∷ es) last xs = prev_along-append e es last (slice_set xs e before)

-- `next` elsewhere stays, and along the list it leads to the next item
pub next_along-off : (before : ℕ) (items : List ℕ) (last : ℕ) (xs : List ℕ) (x : ℕ) → count_of x (before ∷ items) ≡ 0
    → slice_index (next_along before (items ++ last ∷ []) xs) x ≡ slice_index xs x
next_along-off before [] last xs x none = get_or-set_other xs before x last 0 (absent_head x before [] none)
next_along-off before (e ∷ es) last xs x none =
    next_along-off e es last (slice_set xs before e) x (omega (arith, none)) ∙ get_or-set_other xs before x e 0 (absent_head x before (e ∷ es) none)

pub next_along-on : (g : ℕ → ℕ) (before : ℕ) (items : List ℕ) (last : ℕ) (xs : List ℕ) → Path (λ a b. g a ≡ b) before items last
    → ((k : ℕ) → count_of k (before ∷ items) ≤ 1) → ((k : ℕ) → 0 < count_of k (before ∷ items) → k < length xs)
    → (x : ℕ) → 0 < count_of x (before ∷ items) → slice_index (next_along before (items ++ last ∷ []) xs) x ≡ g x
next_along-on g before [] last xs path once within x found = elim (first_or_later x before [] found) [
  | inl is ↦
      ap (slice_index (slice_set xs before last)) is ∙ get_or-set_same xs before last 0 (within before (omega (arith, count-same before [])))
      ∙ sym path ∙ ap g (sym is)
  | inr none ↦ absurd (omega (arith, none))
]
next_along-on g before (e ∷ es) last xs path once within x found =
    let after = slice_set xs before e in
    elim (first_or_later x before (e ∷ es) found) [
      | inl is ↦
          ap (slice_index (next_along e (es ++ last ∷ []) after)) is
          ∙ next_along-off e es last after before (omega (arith, once before, count-same before (e ∷ es)))
          ∙ get_or-set_same xs before e 0 (within before (omega (arith, count-same before (e ∷ es)))) ∙ sym path.0 ∙ ap g (sym is)
      | inr later ↦
          next_along-on g e es last after path.1 (λ k. omega (arith, once k))
          (λ k there. omega (arith, within k (omega (arith, there)), length-set xs before e)) x later
    ]

-- and so does `prev`, back
pub prev_along-off : (before : ℕ) (items : List ℕ) (last : ℕ) (xs : List ℕ) (x : ℕ) → count_of x (items ++ last ∷ []) ≡ 0
    → slice_index (prev_along before (items ++ last ∷ []) xs) x ≡ slice_index xs x
prev_along-off before [] last xs x none = get_or-set_other xs last x before 0 (absent_head x last [] none)
prev_along-off before (e ∷ es) last xs x none =
    prev_along-off e es last (slice_set xs e before) x (omega (arith, none))
    ∙ get_or-set_other xs e x before 0 (absent_head x e (es ++ last ∷ []) none)

pub prev_along-on : (g : ℕ → ℕ) (before : ℕ) (items : List ℕ) (last : ℕ) (xs : List ℕ) → Path (λ a b. g b ≡ a) before items last
    → ((k : ℕ) → count_of k (items ++ last ∷ []) ≤ 1) → ((k : ℕ) → 0 < count_of k (items ++ last ∷ []) → k < length xs)
    → (x : ℕ) → 0 < count_of x (items ++ last ∷ []) → slice_index (prev_along before (items ++ last ∷ []) xs) x ≡ g x
prev_along-on g before [] last xs path once within x found = elim (first_or_later x last [] found) [
  | inl is ↦
      ap (slice_index (slice_set xs last before)) is ∙ get_or-set_same xs last before 0 (within last (omega (arith, count-same last [])))
      ∙ sym path ∙ ap g (sym is)
  | inr none ↦ absurd (omega (arith, none))
]
prev_along-on g before (e ∷ es) last xs path once within x found =
    let after = slice_set xs e before in
    let rest = es ++ last ∷ [] in
    elim (first_or_later x e rest found) [
      | inl is ↦
          ap (slice_index (prev_along e (es ++ last ∷ []) after)) is
          ∙ prev_along-off e es last after e (omega (arith, once e, count-same e (es ++ last ∷ [])))
          ∙ get_or-set_same xs e before 0 (within e (omega (arith, count-same e (es ++ last ∷ [])))) ∙ sym path.0 ∙ ap g (sym is)
      | inr later ↦
          prev_along-on g e es last after path.1 (λ k. omega (arith, once k))
          (λ k there. omega (arith, within k (omega (arith, there)), length-set xs e before)) x later
    ]

module _ {V DE UE F : Type 0} where
  -- half edges that moved lie on the outer face
  pub moved_faces : (s : Lists V DE UE F) (items : List ℕ) → (all_moved_out s items).face ≡ each_set (λ e. e) (λ e. 0) s.face items
  moved_faces s [] = refl
  moved_faces s (e ∷ es) = moved_faces (moved_out s e) es

  -- and the faces where they lay have no anchor
  pub moved_anchors : (s : Lists V DE UE F) (items : List ℕ) → ((k : ℕ) → count_of k items ≤ 1)
      → (all_moved_out s items).face_anchors ≡ each_set (λ e. slice_index s.face e) (λ e. None) s.face_anchors items
  moved_anchors s [] once = refl
  moved_anchors s (e ∷ es) once =
      moved_anchors (moved_out s e) es (λ k. omega (arith, once k))
      ∙ each_set-same (λ k. slice_index (slice_set s.face e 0) k) (λ k. slice_index s.face k) (λ k. None) es
      (slice_set s.face_anchors (slice_index s.face e) None)
      (λ k found. get_or-set_other s.face e k 0 0 (λ is. omega (arith, once e, count-same e es, ap (λ z. count_of z es) (sym is), found)))
