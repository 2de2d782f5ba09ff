-- A subdivision taken back leaves a map sound and a sphere.
use Rattle.std.proofs.Common.{◌≡◌, ◌≢◌, inl, inr, ◌/◌, ℕ, sym, refl, ap, ◌∙◌, subst, arith}
use Rattle.std.proofs.lemmas.Bool.{cases_eq}
use Rattle.dcel_maps.specs.Maps.{By, Live, Map, Reaches, ccw}
use Rattle.dcel_maps.specs.Maps.Reaches.{go}
use Rattle.dcel_maps.specs.theory.Sound.{Sound, Sphere}
use Rattle.dcel_fixed.specs.HalfEdges.{rev}
use Rattle.dcel_maps.proofs.maps.Cycles.{Cycles}
use Rattle.dcel_maps.proofs.maps.Edits.{first_part, last_part}
pub use Rattle.dcel_maps.specs.Elementary.{Unsubdivide}
use Rattle.dcel_maps.proofs.maps.Growth.{Grown, not_h, not_rev, sphere_less, still_live}
use Rattle.dcel_maps.proofs.maps.Halves.{rev-rev}
use Rattle.dcel_maps.proofs.maps.Reaching.{no_step, step}
use Rattle.dcel_maps.proofs.maps.Soundness.{face_cycles, rev_live, sound_from, vertex_cycles}
use Rattle.dcel_maps.proofs.maps.Subdivides.{by_first, by_last, first-live, first-other, first-rev, first_turns, last-h, last-live, last-other, subdivide_euler, subdivide_grown, within}
use Rattle.dcel_maps.proofs.maps.Undone.{connected_less, next_reaches, old_live, shrunk, stand_in, stand_in-h, stand_in-old, stand_in-rev, stand_in-turns}

module _ (S T : Map) (h k v : ℕ) (e : Unsubdivide S T h k v) (t : Sound T) where
  grown : Grown S T k
  grown = subdivide_grown S T h k v e.subdivide

  live_rev : Live S (rev h)
  live_rev = rev_live S h e.lives

  abbrev first : ℕ → ℕ
  first = first_part h k

  abbrev last : ℕ → ℕ
  last = last_part h k

  first_live : (x : ℕ) → Live S x → Live T (first x)
  first_live = first-live S T h k v e.subdivide

  last_live : (x : ℕ) → Live S x → Live T (last x)
  last_live = last-live S T h k v e.subdivide

  -- rev h is no first part, and h no last one
  first_apart : (x : ℕ) → Live S x → first x ≢ rev h
  first_apart x l at = elim (cases_eq x (rev h)) [
    | inl i ↦ not_rev S T k grown (rev h) live_rev (sym at ∙ ap first i ∙ first-rev h k)
    | inr d ↦ d (sym (first-other h k x d) ∙ at)
  ]

  last_apart : (x : ℕ) → Live S x → last x ≢ h
  last_apart x l at = elim (cases_eq x h) [
    | inl i ↦ not_h S T k grown h e.lives (sym at ∙ ap last i ∙ last-h h k)
    | inr d ↦ d (sym (last-other h k x d) ∙ at)
  ]

  -- so links lead to old half edges
  live_next : (x : ℕ) → Live S x → Live S (S.next x)
  live_next x l =
      let was = last_live x l in
      let on = e.next_last x l in
      elim (cases_eq (S.next x) (rev h)) [
        | inl i ↦ subst (Live S) (sym i) live_rev
        | inr d ↦
            let same = first-other h k (S.next x) d in
            old_live S T k grown (S.next x) (subst (Live T) (on ∙ same) (t.live_next (last x) was))
            (λ i. last_apart x l (sym (t.prev-next (last x) was) ∙ ap T.prev (on ∙ same ∙ i) ∙ e.prev_k)) (e.next_apart x l)
      ]

  live_prev : (x : ℕ) → Live S x → Live S (S.prev x)
  live_prev x l =
      let was = first_live x l in
      let back = e.prev_first x l in
      elim (cases_eq (S.prev x) h) [
        | inl i ↦ subst (Live S) (sym i) e.lives
        | inr d ↦
            let same = last-other h k (S.prev x) d in
            old_live S T k grown (S.prev x) (subst (Live T) (back ∙ same) (t.live_prev (first x) was)) (e.prev_apart x l)
            (λ i. first_apart x l (sym (t.next-prev (first x) was) ∙ ap T.next (back ∙ same ∙ i) ∙ e.next_rev))
      ]

  live_ccw : (x : ℕ) → Live S x → Live S (ccw S x)
  unfolding ccw
  live_ccw x l = rev_live S (S.prev x) (live_prev x l)

  -- a half edge stands for its first part, whatever stands for k
  whole-first : (w x : ℕ) → Live S x → stand_in k w (rev h) (first x) ≡ x
  whole-first w x l = elim (cases_eq x (rev h)) [
    | inl i ↦ ap (stand_in k w (rev h)) (ap first i ∙ first-rev h k) ∙ stand_in-rev k w (rev h) ∙ sym i
    | inr d ↦ ap (stand_in k w (rev h)) (first-other h k x d) ∙ stand_in-old S T k grown w (rev h) x l
  ]

  -- the half edge of which another one is a part
  abbrev whole : ℕ → ℕ
  whole = stand_in k h (rev h)

  whole-last : (x : ℕ) → Live S x → whole (last x) ≡ x
  whole-last x l = elim (cases_eq x h) [
    | inl i ↦ ap whole (ap last i ∙ last-h h k) ∙ stand_in-h k h (rev h) ∙ sym i
    | inr d ↦ ap whole (last-other h k x d) ∙ stand_in-old S T k grown h (rev h) x l
  ]

  whole-old : (x : ℕ) → Live S x → whole x ≡ x
  whole-old = stand_in-old S T k grown h (rev h)

  -- each step round a face of T goes on to the next half edge, or from a first part to a last one
  nexts : (y : ℕ) → Live T y → Reaches (By S.next) (whole y) (whole (T.next y))
  nexts = by_last S T h k v e.subdivide (λ y. Reaches (By S.next) (whole y) (whole (T.next y)))
      (λ x l. step (ap S.next (whole-last x l) ∙ sym (ap whole (e.next_last x l) ∙ whole-first h (S.next x) (live_next x l))))
      (no_step (whole-old h e.lives ∙ sym (ap whole e.next_h ∙ stand_in-h k h (rev h))))
      (no_step (stand_in-rev k h (rev h) ∙ sym (ap whole e.next_rev ∙ whole-old (rev h) live_rev)))

  -- the parts are one half edge of their face
  face_cycles_left : Cycles (Live S) S.next S.face
  face_cycles_left =
      shrunk (Live S) (Live T) S.next T.next S.face T.face first whole (face_cycles T t) first_live (whole-first h) live_next
      (λ x l. elim (within S T h k v e.subdivide x l) [
        | inl i ↦ step (ap T.next i ∙ e.next_last x l)
        | inr i ↦ go i (step (e.next_last x l))
      ])
      nexts e.face_first

  -- the first parts turn round the vertices that are left, and the others round v
  vertex_cycles_left : Cycles (Live S) (ccw S) S.origin
  unfolding ccw
  vertex_cycles_left =
      let back = stand_in k (rev h) (rev h) in
      let middle : back k ≡ back (rev h) = stand_in-h k (rev h) (rev h) ∙ sym (stand_in-old S T k grown (rev h) (rev h) (rev h) live_rev) in
      let from_rev : ccw T (rev h) ≡ k = ap rev e.prev_rev ∙ rev-rev k in
      let from_k : ccw T k ≡ rev h = ap rev e.prev_k in
      let turns = first_turns S T h k v e.subdivide in
      shrunk (Live S) (Live T) (ccw S) (ccw T) S.origin T.origin first back (vertex_cycles T t) first_live (whole-first (rev h)) live_ccw
      (λ x l. step (turns x l))
      (by_first S T h k v e.subdivide (λ y. Reaches (By (ccw S)) (back y) (back (ccw T y)))
      (λ x l. step (ap (ccw S) (whole-first (rev h) x l) ∙ sym (ap back (turns x l) ∙ whole-first (rev h) (ccw S x) (live_ccw x l))))
      (no_step (sym middle ∙ ap back (sym from_rev))) (no_step (middle ∙ ap back (sym from_k))))
      e.origin_first

  prev_of_next : (x : ℕ) → Live S x → S.prev (S.next x) ≡ x
  prev_of_next x l =
      let on = live_next x l in
      sym (whole-last (S.prev (S.next x)) (live_prev (S.next x) on))
      ∙ ap whole (sym (e.prev_first (S.next x) on) ∙ ap T.prev (sym (e.next_last x l)) ∙ t.prev-next (last x) (last_live x l)) ∙ whole-last x l

  next_of_prev : (x : ℕ) → Live S x → S.next (S.prev x) ≡ x
  next_of_prev x l =
      let back = live_prev x l in
      sym (whole-first h (S.next (S.prev x)) (live_next (S.prev x) back))
      ∙ ap whole (sym (e.next_last (S.prev x) back) ∙ ap T.next (sym (e.prev_first x l)) ∙ t.next-prev (first x) (first_live x l))
      ∙ whole-first h x l

  ends : (x : ℕ) → Live S x → S.origin x ≢ S.origin (rev x)
  ends x l same = elim (cases_eq x h) [
    | inl i ↦ e.two_ends (ap S.origin (sym i) ∙ same ∙ ap (λ z. S.origin (rev z)) i)
    | inr d ↦ elim (cases_eq x (rev h)) [
      | inl i ↦ e.two_ends (ap S.origin (sym (ap rev i ∙ rev-rev h)) ∙ sym same ∙ ap S.origin i)
      | inr n ↦
          let other = rev_live S x l in
          let start : T.origin x ≡ S.origin x = ap T.origin (sym (first-other h k x n)) ∙ e.origin_first x l in
          let end : T.origin (rev x) ≡ S.origin (rev x) =
          ap T.origin (sym (first-other h k (rev x) (λ i. d (sym (rev-rev x) ∙ ap rev i ∙ rev-rev h)))) ∙ e.origin_first (rev x) other in
          t.two_ends x (still_live S T k grown x l) (start ∙ same ∙ sym end)
    ]
  ]

  -- a subdivision taken back leaves a map sound
  pub unsubdivide_sound : Sound S
  unsubdivide_sound =
      sound_from S e.below_edges
      (λ x l. omega (arith, t.below_vertices (first x) (first_live x l), e.vertices, e.origin_first x l))
      (λ x l. omega (arith, t.below_faces (first x) (first_live x l), e.faces, e.face_first x l))
      prev_of_next next_of_prev ends face_cycles_left vertex_cycles_left

  -- a subdivision taken back leaves a map sound and a sphere
  pub unsubdivide_keeps : Sphere T → Sound S × Sphere S
  unsubdivide_keeps m =
      let turns = stand_in-turns S T k grown h (rev h) (step (inr refl)) (step (inr (rev-rev h))) in
      let connected = connected_less S T first whole t first_live (whole-first h) (λ y l. next_reaches S (nexts y l)) turns m.connected in
      (unsubdivide_sound, sphere_less S T (subdivide_euler S T h k v e.subdivide unsubdivide_sound t) (k / 2) e.edge_here m connected)
