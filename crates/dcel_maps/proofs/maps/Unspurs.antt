-- A spur taken back leaves a map sound and a sphere.
use Rattle.std.proofs.Common.{◌≡◌, ◌≢◌, inl, inr, ◌/◌, ℕ, sym, ap, ◌∙◌, subst, arith}
use Rattle.std.proofs.lemmas.Bool.{cases_eq}
use Rattle.dcel_maps.specs.Maps.{By, Live, Map, Reaches, ccw}
use Rattle.dcel_maps.specs.Maps.Reaches.{go, here}
use Rattle.dcel_maps.specs.theory.Sound.{Sound, Sphere}
use Rattle.dcel_fixed.specs.HalfEdges.{rev}
use Rattle.dcel_maps.proofs.maps.Cycles.{Cycles, undoes}
pub use Rattle.dcel_maps.specs.Elementary.{Unspur}
use Rattle.dcel_maps.proofs.maps.Growth.{Grown, each_live, not_h, not_rev, sphere_less, stay_on}
use Rattle.dcel_maps.proofs.maps.Halves.{rev-rev, rev_differs}
use Rattle.dcel_maps.proofs.maps.Reaching.{no_step, step}
use Rattle.dcel_maps.proofs.maps.Soundness.{face_cycles, rev_live, vertex_cycles}
use Rattle.dcel_maps.proofs.maps.Spurs.{spur_euler, spur_grown}
use Rattle.dcel_maps.proofs.maps.Undone.{connected_less, next_reaches, old_live, shrunk, stand_in, stand_in-turns, undrawn_sound, standing_in}

module _ (S T : Map) (a h v : ℕ) (e : Unspur S T a h v) (t : Sound T) where
  abbrev b : ℕ
  b = S.next a

  grown : Grown S T h
  grown = spur_grown S T a h v e.spur

  open (stay_on S T h grown) use {still, apart, apart_rev}

  -- a live half edge is an old one by what comes before it, or after it
  old_after : (x : ℕ) → Live T x → T.prev x ≢ a → T.prev x ≢ h → Live S x
  old_after x l not_a not_h =
      old_live S T h grown x l (λ i. not_a (ap T.prev i ∙ e.prev_h)) (λ i. not_h (ap T.prev i ∙ e.prev_rev))

  old_before : (x : ℕ) → Live T x → T.next x ≢ rev h → T.next x ≢ b → Live S x
  old_before x l not_rev not_b =
      old_live S T h grown x l (λ i. not_rev (ap T.next i ∙ e.next_h)) (λ i. not_b (ap T.next i ∙ e.next_rev))

  live_b : Live S b
  live_b =
      let live = rev_live T h e.edge_here in
      old_after b (subst (Live T) e.next_rev (t.live_next (rev h) live)) (λ i. apart_rev a e.lives (sym i ∙ e.prev_b))
      (λ i. rev_differs h (sym e.prev_b ∙ i))

  old_next : (x : ℕ) → Live S x → x ≢ a → Live S (T.next x)
  old_next x l d =
      let back = t.prev-next x (still x l) in
      old_after (T.next x) (t.live_next x (still x l)) (λ i. d (sym back ∙ i)) (λ i. apart x l (sym back ∙ i))

  old_prev : (x : ℕ) → Live S x → x ≢ b → Live S (T.prev x)
  old_prev x l d =
      let back = t.next-prev x (still x l) in
      old_before (T.prev x) (t.live_prev x (still x l)) (λ i. apart_rev x l (sym back ∙ i)) (λ i. d (sym back ∙ i))

  next_live : (x : ℕ) → Live S x → Live S (S.next x)
  next_live x l = elim (cases_eq x a) [
    | inl i ↦ subst (λ z. Live S (S.next z)) (sym i) live_b
    | inr d ↦ subst (Live S) (e.next_other x l d) (old_next x l d)
  ]

  ccw_live : (x : ℕ) → Live S x → Live S (ccw S x)
  unfolding ccw
  ccw_live x l = rev_live S (S.prev x) (elim (cases_eq x b) [
    | inl i ↦ subst (Live S) (sym (ap S.prev i ∙ e.link)) e.lives
    | inr d ↦ subst (Live S) (e.prev_other x l d) (old_prev x l d)
  ])

  -- b stands for both halves of the spur
  abbrev back : ℕ → ℕ
  back = stand_in h b b

  open (standing_in S T h grown b b) use {for_h as back_h, for_rev as back_rev, for_old as back_old}

  -- each step round a face of the larger map is one of the smaller map, or none
  nexts : (y : ℕ) → Live T y → Reaches (By S.next) (back y) (back (T.next y))
  nexts = each_live S T h grown (λ y. Reaches (By S.next) (back y) (back (T.next y)))
      (λ x l. elim (cases_eq x a) [
        | inl i ↦ step (ap S.next (back_old x l ∙ i) ∙ sym (ap back (ap T.next i ∙ e.next_a) ∙ back_h))
        | inr d ↦ step (ap S.next (back_old x l) ∙ sym (ap back (e.next_other x l d) ∙ back_old (S.next x) (next_live x l)))
      ])
      (no_step (back_h ∙ sym (ap back e.next_h ∙ back_rev)))
      (no_step (back_rev ∙ sym (ap back e.next_rev ∙ back_old b live_b)))

  -- the spur is taken out of its face
  face_cycles_left : Cycles (Live S) S.next S.face
  face_cycles_left =
      shrunk (Live S) (Live T) S.next T.next S.face T.face (λ x. x) back (face_cycles T t) still back_old next_live
      (λ x l. elim (cases_eq x a) [
        | inl i ↦ go (ap T.next i ∙ e.next_a) (go e.next_h (step (e.next_rev ∙ ap S.next (sym i))))
        | inr d ↦ step (e.next_other x l d)
      ])
      nexts e.face_other

  -- and out of the vertex that it starts at
  vertex_cycles_left : Cycles (Live S) (ccw S) S.origin
  unfolding ccw
  vertex_cycles_left =
      let at_b : ccw T b ≡ h = ap rev e.prev_b ∙ rev-rev h in
      let at_h : ccw T h ≡ ccw S b = ap rev (e.prev_h ∙ sym e.link) in
      let at_rev : ccw T (rev h) ≡ rev h = ap rev e.prev_rev in
      let other : (x : ℕ) → Live S x → x ≢ b → ccw T x ≡ ccw S x = λ x l d. ap rev (e.prev_other x l d) in
      shrunk (Live S) (Live T) (ccw S) (ccw T) S.origin T.origin (λ x. x) back (vertex_cycles T t) still back_old ccw_live
      (λ x l. elim (cases_eq x b) [
        | inl i ↦ go (ap (ccw T) i ∙ at_b) (step (at_h ∙ ap (ccw S) (sym i)))
        | inr d ↦ step (other x l d)
      ])
      (each_live S T h grown (λ y. Reaches (By (ccw S)) (back y) (back (ccw T y)))
      (λ x l. elim (cases_eq x b) [
        | inl i ↦ no_step (back_old x l ∙ i ∙ sym (ap back (ap (ccw T) i ∙ at_b) ∙ back_h))
        | inr d ↦ step (ap (ccw S) (back_old x l) ∙ sym (ap back (other x l d) ∙ back_old (ccw S x) (ccw_live x l)))
      ])
      (step (ap (ccw S) back_h ∙ sym (ap back at_h ∙ back_old (ccw S b) (ccw_live b live_b))))
      (no_step (ap back (sym at_rev))))
      e.origin_other

  -- a spur taken back leaves a map sound
  pub unspur_sound : Sound S
  unspur_sound =
      let back_at = λ (x : ℕ) (l : Live S x) (i : x ≡ T.prev b). absurd (apart_rev x l (i ∙ e.prev_b)) in
      let fore_at = λ (x : ℕ) (l : Live S x) (i : x ≡ T.next a). absurd (apart x l (i ∙ e.next_a)) in
      undrawn_sound S T h (S.origin b) v e.fresh e.drawn t e.below_edges (λ x l. omega (arith, t.below_faces x (still x l), e.faces, e.face_other x l))
      (undoes (Live S) T.next T.prev S.next S.prev a a b b (λ x l d _. old_next x l d) (λ x l. t.prev-next x (still x l))
      back_at back_at e.link e.link (λ x l d _. sym (e.next_other x l d)) (λ x l d _. sym (e.prev_other x l d)))
      (undoes (Live S) T.prev T.next S.prev S.next b b a a (λ x l d _. old_prev x l d) (λ x l. t.next-prev x (still x l))
      fore_at fore_at (ap S.next e.link) (ap S.next e.link) (λ x l d _. sym (e.prev_other x l d)) (λ x l d _. sym (e.next_other x l d)))
      face_cycles_left vertex_cycles_left

  -- a spur taken back leaves a map sound and a sphere
  pub unspur_keeps : Sphere T → Sound S × Sphere S
  unspur_keeps m =
      let turns = stand_in-turns S T h grown b b here here in
      let connected = connected_less S T (λ x. x) back t still back_old (λ y l. next_reaches S (nexts y l)) turns m.connected in
      (unspur_sound, sphere_less S T (spur_euler S T a h v e.spur unspur_sound t) (h / 2) e.edge_here m connected)
