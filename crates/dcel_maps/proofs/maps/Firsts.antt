-- The first edge is sound and a sphere.
use Rattle.std.proofs.Common.{◌≡◌, ◌≢◌, inl, inr, ◌/◌, ◌<◌, ◌==◌, ℕ, Bool, false, eq-eqb, sym, refl, ap, ◌∙◌, subst, arith}
use Rattle.std.proofs.lemmas.Bool.{cases_eq, false≢true, ne_eqb}
use Rattle.dcel_maps.specs.Maps.{By, Live, Map, NextOrRev, Reaches, ccw, count, starts_edge}
use Rattle.dcel_maps.specs.theory.Sound.{Sound, Sphere, has_word}
use Rattle.dcel_fixed.specs.HalfEdges.{rev}
use Rattle.dcel_maps.specs.Maps.Reaches.{here}
use Rattle.dcel_maps.proofs.maps.Edits.{FirstEdge}
use Rattle.dcel_maps.proofs.maps.Halves.{both_halves, rev-rev, rev_half}
use Rattle.dcel_maps.proofs.maps.Reaching.{step}
use Rattle.dcel_maps.proofs.maps.Soundness.{rev_live, sound_from}
use Rattle.dcel_maps.proofs.maps.Counts.{count_more, count_none, used_from, used_not}

module _ (T : Map) (h a b : ℕ) (e : FirstEdge T h a b) where
  live_rev : Live T (rev h)
  live_rev = rev_live T h e.edge_here

  -- what holds of both halves of the first edge holds of each live half edge
  all : (Q : ℕ → Type 0) → Q h → Q (rev h) → (x : ℕ) → Live T x → Q x
  all Q q r x l = elim (cases_eq (x / 2) (h / 2)) [
    | inl i ↦ both_halves Q h q r x i
    | inr d ↦ absurd (false≢true (sym (e.edge_other (x / 2) d) ∙ l))
  ]

  -- half edges reach each other where h and its other half do
  joins : (Step : ℕ → ℕ → Type 0) (label : ℕ → ℕ) → (label h ≡ label (rev h) → Reaches Step h (rev h) × Reaches Step (rev h) h)
      → (x y : ℕ) → Live T x → Live T y → label x ≡ label y → Reaches Step x y
  joins Step label across x y l m =
      all (λ x. label x ≡ label y → Reaches Step x y)
      (all (λ y. label h ≡ label y → Reaches Step h y) (λ i. here) (λ i. (across i).0) y m)
      (all (λ y. label (rev h) ≡ label y → Reaches Step (rev h) y) (λ i. (across (sym i)).1) (λ i. here) y m) x l

  ends : T.origin h ≢ T.origin (rev h)
  ends i = e.apart (sym e.origin_h ∙ i ∙ e.origin_rev)

  -- the first edge is a sound map
  pub first_sound : Sound T
  unfolding ccw
  first_sound =
      let own_h : ccw T h ≡ h = ap rev e.prev_h ∙ rev-rev h in
      let own_r : ccw T (rev h) ≡ rev h = ap rev e.prev_rev in
      sound_from T
      (all (λ x. x / 2 < T.edges) e.edge_below (omega (arith, e.edge_below, rev_half h)))
      (all (λ x. T.origin x < T.vertices) (omega (arith, e.origin_h, e.below_a)) (omega (arith, e.origin_rev, e.below_b)))
      (all (λ x. T.face x < T.faces) (omega (arith, e.face_h, e.below_0)) (omega (arith, e.face_rev, e.below_0)))
      (all (λ x. T.prev (T.next x) ≡ x) (cc (e.next_h, e.prev_rev)) (cc (e.next_rev, e.prev_h)))
      (all (λ x. T.next (T.prev x) ≡ x) (cc (e.prev_h, e.next_rev)) (cc (e.prev_rev, e.next_h)))
      (all (λ x. T.origin x ≢ T.origin (rev x)) ends (λ i. ends (ap T.origin (sym (rev-rev h)) ∙ sym i)))
      (record {
        stays = all (λ x. Live T (T.next x)) (subst (Live T) (sym e.next_h) live_rev) (subst (Live T) (sym e.next_rev) e.edge_here);
        along = all (λ x. T.face (T.next x) ≡ T.face x) (cc (e.next_h, e.face_h, e.face_rev)) (cc (e.next_rev, e.face_h, e.face_rev));
        joined = joins (By T.next) T.face (λ i. (step e.next_h, step e.next_rev));
      })
      (record {
        stays = all (λ x. Live T (ccw T x)) (subst (Live T) (sym own_h) e.edge_here) (subst (Live T) (sym own_r) live_rev);
        along = all (λ x. T.origin (ccw T x) ≡ T.origin x) (ap T.origin own_h) (ap T.origin own_r);
        joined = joins (By (ccw T)) T.origin (λ i. absurd (ends i));
      })

  -- one face has a word, and two vertices start an edge
  pub first_euler : (count (starts_edge T) T.vertices ≡ 2) × (count (has_word T) T.faces ≡ 1) × (count T.edge T.edges ≡ 1)
  unfolding starts_edge has_word
  first_euler =
      let none : ℕ → Bool = λ k. false in
      let one : ℕ → Bool = λ v. v == a in
      let first = count_more none one T.vertices a e.below_a refl (eq-eqb a a refl) (λ j l d. sym (ne_eqb j a d)) in
      let second =
      count_more one (starts_edge T) T.vertices b e.below_b (ne_eqb b a (λ i. e.apart (sym i)))
      (used_from T first_sound T.origin b record { half = rev h; live = live_rev; is = e.origin_rev })
      (λ v l d. elim (cases_eq v a) [
        | inl i ↦ eq-eqb v a i ∙ sym (used_from T first_sound T.origin v record { half = h; live = e.edge_here; is = e.origin_h ∙ sym i })
        | inr n ↦ ne_eqb v a n ∙ sym (used_not T T.origin v (all (λ x. T.origin x ≢ v) (λ i. n (sym i ∙ e.origin_h)) (λ i. d (sym i ∙ e.origin_rev))))
      ]) in
      let words =
      count_more none (has_word T) T.faces 0 e.below_0 refl (used_from T first_sound T.face 0 record { half = h; live = e.edge_here; is = e.face_h })
      (λ f l d. sym (used_not T T.face f (all (λ x. T.face x ≢ f) (λ i. d (sym i ∙ e.face_h)) (λ i. d (sym i ∙ e.face_rev))))) in
      let edges = count_more none T.edge T.edges (h / 2) e.edge_below refl e.edge_here (λ j l d. sym (e.edge_other j d)) in
      (omega (arith, first, second, count_none T.vertices), omega (arith, words, count_none T.faces), omega (arith, edges, count_none T.edges))

  -- the first edge is a sound map and a sphere
  pub first_keeps : Sound T × Sphere T
  first_keeps = (
    first_sound,
    record {
      connected = λ x y l m. joins (NextOrRev T) (λ z. 0) (λ i. (step (inr refl), step (inr (rev-rev h)))) x y l m refl;
      euler = λ u l. let k = first_euler in omega arith;
    },
  )
