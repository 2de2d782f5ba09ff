-- A chord taken back leaves a map sound and a sphere.
use Rattle.std.proofs.Common.{◌≡◌, ◌≢◌, inl, inr, ◌/◌, ℕ, Bool, true, false, sym, refl, ap, ◌∙◌, subst}
use Rattle.std.proofs.lemmas.Bool.{cases_eq, cases_Bool, false≢true}
use Rattle.dcel_fixed.specs.HalfEdges.{rev}
use Rattle.dcel_maps.specs.Maps.{By, Connected, Live, Map, Reaches, ccw}
use Rattle.dcel_maps.specs.Maps.Reaches.{go, here}
use Rattle.dcel_maps.specs.theory.Sound.{Sound, Sphere}
use Rattle.dcel_maps.proofs.maps.Chords.{chord_euler, chord_grown}
use Rattle.dcel_maps.proofs.maps.Counts.{same_tests}
use Rattle.dcel_maps.proofs.maps.Cycles.{Cycles, undoes}
pub use Rattle.dcel_maps.specs.Elementary.{Unchord}
use Rattle.dcel_maps.proofs.maps.Growth.{Grown, each_live, sphere_less, stay_on}
use Rattle.dcel_maps.proofs.maps.Halves.{rev-rev}
use Rattle.dcel_maps.proofs.maps.Reaching.{no_step, step, then}
use Rattle.dcel_maps.proofs.maps.Soundness.{face_cycles, rev_live, vertex_cycles}
use Rattle.dcel_maps.proofs.maps.Undone.{connected_less, next_reaches, old_live, retraced, shrunk, stand_in, stand_in-h, stand_in-old, stand_in-rev, stand_in-turns, undrawn_sound, standing_in}

-- a way of f' to b is one of f where the two are the same up to b
up_to : (P : ℕ → Type 0) (f f' : ℕ → ℕ) (b : ℕ) → ((x : ℕ) → P x → x ≢ b → (f' x ≡ f x) × P (f x))
    → {x y : ℕ} → P x → Reaches (By f') x y → y ≡ b → Reaches (By f) x b
up_to P f f' b on p here is = no_step is
up_to P f f' b on p (go {x = x} s way) is = elim (cases_eq x b) [
  | inl there ↦ no_step there
  | inr before ↦ let o = on x p before in go (sym o.0 ∙ s) (up_to P f f' b on (subst P (sym o.0 ∙ s) o.1) way is)
]

module _ (S T : Map) (p q h g : ℕ) (arc : ℕ → Bool) (e : Unchord S T p q h g arc) (t : Sound T) where
  abbrev a : ℕ
  a = S.prev p

  abbrev b : ℕ
  b = S.prev q

  grown : Grown S T h
  grown = chord_grown S T p q h g arc e.chord

  open (stay_on S T h grown) use {still as old, apart as isnt_h, apart_rev as isnt_rev}

  live_rev : Live T (rev h)
  live_rev = rev_live T h e.edge_here

  live_a : Live S a
  live_a =
      old_live S T h grown a (subst (Live T) e.prev_h (t.live_prev h e.edge_here))
      (λ i. isnt_h q e.lives_q (sym e.next_h ∙ ap T.next (sym i) ∙ e.next_to_h))
      (λ i. isnt_h p e.lives_p (sym e.next_rev ∙ ap T.next (sym i) ∙ e.next_to_h))

  live_b : Live S b
  live_b =
      old_live S T h grown b (subst (Live T) e.prev_rev (t.live_prev (rev h) live_rev))
      (λ i. isnt_rev q e.lives_q (sym e.next_h ∙ ap T.next (sym i) ∙ e.next_to_rev))
      (λ i. isnt_rev p e.lives_p (sym e.next_rev ∙ ap T.next (sym i) ∙ e.next_to_rev))

  -- what holds at c, at d and elsewhere holds of each half edge that is left
  each : (c d : ℕ) (Q : ℕ → Type 0) → Q c → Q d → ((x : ℕ) → Live S x → x ≢ c → x ≢ d → Q x) → (x : ℕ) → Live S x → Q x
  each c d Q at_c at_d other x l = elim (cases_eq x c) [
    | inl i ↦ subst Q (sym i) at_c
    | inr m ↦ elim (cases_eq x d) [ inl i ↦ subst Q (sym i) at_d | inr n ↦ other x l m n ]
  ]

  next_left : (x : ℕ) → Live S x → x ≢ a → x ≢ b → Live S (T.next x)
  next_left x l not_a not_b =
      let back = t.prev-next x (old x l) in
      old_live S T h grown (T.next x) (t.live_next x (old x l))
      (λ i. not_a (sym back ∙ ap T.prev i ∙ e.prev_h)) (λ i. not_b (sym back ∙ ap T.prev i ∙ e.prev_rev))

  prev_left : (x : ℕ) → Live S x → x ≢ p → x ≢ q → Live S (T.prev x)
  prev_left x l not_p not_q =
      let on = t.next-prev x (old x l) in
      old_live S T h grown (T.prev x) (t.live_prev x (old x l))
      (λ i. not_q (sym on ∙ ap T.next i ∙ e.next_h)) (λ i. not_p (sym on ∙ ap T.next i ∙ e.next_rev))

  live_next : (x : ℕ) → Live S x → Live S (S.next x)
  live_next =
      each a b (λ x. Live S (S.next x)) (subst (Live S) (sym e.next_a) e.lives_p) (subst (Live S) (sym e.next_b) e.lives_q)
      (λ x l i j. subst (Live S) (e.next_other x l i j) (next_left x l i j))

  live_prev : (x : ℕ) → Live S x → Live S (S.prev x)
  live_prev =
      each p q (λ x. Live S (S.prev x)) live_a live_b
      (λ x l i j. subst (Live S) (e.prev_other x l i j) (prev_left x l i j))

  -- the links that are left undo each other
  prev_of_next : (x : ℕ) → Live S x → S.prev (S.next x) ≡ x
  prev_of_next =
      undoes (Live S) T.next T.prev S.next S.prev a b p q next_left (λ x l. t.prev-next x (old x l))
      (λ x l i. absurd (isnt_rev x l (i ∙ e.prev_p))) (λ x l i. absurd (isnt_h x l (i ∙ e.prev_q)))
      (ap S.prev e.next_a) (ap S.prev e.next_b)
      (λ x l i j. sym (e.next_other x l i j)) (λ x l i j. sym (e.prev_other x l i j))

  next_of_prev : (x : ℕ) → Live S x → S.next (S.prev x) ≡ x
  next_of_prev =
      undoes (Live S) T.prev T.next S.prev S.next p q a b prev_left (λ x l. t.next-prev x (old x l))
      (λ x l i. absurd (isnt_h x l (i ∙ e.next_to_h))) (λ x l i. absurd (isnt_rev x l (i ∙ e.next_to_rev)))
      e.next_a e.next_b
      (λ x l i j. sym (e.prev_other x l i j)) (λ x l i j. sym (e.next_other x l i j))

  -- the test tells which half edges have the face g
  in_arc : (x : ℕ) → Live S x → T.face x ≡ g → arc x ≡ true
  in_arc x l at = elim (cases_Bool (arc x)) [ inl i ↦ i | inr i ↦ absurd (e.vacant x l (sym (e.face_out x l i) ∙ at)) ]

  face_on : (x : ℕ) → Live S x → x ≢ a → x ≢ b → T.face (S.next x) ≡ T.face x
  face_on x l i j = ap T.face (sym (e.next_other x l i j)) ∙ (face_cycles T t).along x (old x l)

  arc_on : (x : ℕ) → Live S x → x ≢ a → x ≢ b → arc (S.next x) ≡ arc x
  arc_on x l i j =
      same_tests (arc (S.next x)) (arc x)
      (λ k. in_arc x l (sym (face_on x l i j) ∙ e.face_in (S.next x) (live_next x l) k))
      (λ k. in_arc (S.next x) (live_next x l) (face_on x l i j ∙ e.face_in x l k))

  -- h leads from the face of a to that of q, which are one
  face_past_h : T.face q ≡ T.face a
  face_past_h =
      let along = (face_cycles T t).along in
      ap T.face (sym e.next_h) ∙ along h e.edge_here ∙ ap T.face (sym e.next_to_h) ∙ along a (old a live_a)

  -- each part of the cycle leads to the other
  p_to_q : Reaches (By S.next) p q
  p_to_q =
      then
      (up_to (λ x. Live S x × (arc x ≡ true)) S.next T.next b
      (λ x on not_b.
      let not_a : x ≢ a = λ i. false≢true (sym e.arc_before_p ∙ ap arc (sym i) ∙ on.1) in
      (e.next_other x on.0 not_a not_b, (live_next x on.0, arc_on x on.0 not_a not_b ∙ on.1)))
      (e.lives_p, e.arc_p)
      ((face_cycles T t).joined p b (old p e.lives_p) (old b live_b)
      (e.face_in p e.lives_p e.arc_p ∙ sym (e.face_in b live_b e.arc_before_q)))
      refl)
      (step e.next_b)

  q_to_p : Reaches (By S.next) q p
  q_to_p =
      then
      (up_to (λ x. Live S x × (arc x ≡ false)) S.next T.next a
      (λ x on not_a.
      let not_b : x ≢ b = λ i. false≢true (sym on.1 ∙ ap arc i ∙ e.arc_before_q) in
      (e.next_other x on.0 not_a not_b, (live_next x on.0, arc_on x on.0 not_a not_b ∙ on.1)))
      (e.lives_q, e.arc_q) ((face_cycles T t).joined q a (old q e.lives_q) (old a live_a) face_past_h) refl)
      (step e.next_a)

  -- in the faces, what follows the chord stands for it
  abbrev beside : ℕ → ℕ
  beside = stand_in h p q

  open (standing_in S T h grown p q) use {for_h as beside_h, for_rev as beside_rev, for_old as beside_left}

  nexts : (y : ℕ) → Live T y → Reaches (By S.next) (beside y) (beside (T.next y))
  nexts =
      each_live S T h grown (λ y. Reaches (By S.next) (beside y) (beside (T.next y)))
      (each a b (λ y. Reaches (By S.next) (beside y) (beside (T.next y)))
      (step (ap S.next (beside_left a live_a) ∙ e.next_a ∙ sym (ap beside e.next_to_h ∙ beside_h)))
      (step (ap S.next (beside_left b live_b) ∙ e.next_b ∙ sym (ap beside e.next_to_rev ∙ beside_rev)))
      (λ x l i j. step (ap S.next (beside_left x l) ∙ sym (ap beside (e.next_other x l i j) ∙ beside_left (S.next x) (live_next x l)))))
      (then (no_step beside_h) (then p_to_q (no_step (sym (ap beside e.next_h ∙ beside_left q e.lives_q)))))
      (then (no_step beside_rev) (then q_to_p (no_step (sym (ap beside e.next_rev ∙ beside_left p e.lives_p)))))

  one_side : (x y : ℕ) → Live S x → Live S y → T.face x ≡ T.face y → Reaches (By S.next) x y
  one_side x y l m is =
      let c = face_cycles T t in
      retraced (Live S) (Live T) (By T.next) (By S.next) (λ x. x) beside old beside_left (λ y z k s. subst (Live T) s (c.stays y k))
      (λ y z k s. then (nexts y k) (no_step (ap beside s))) x y l m (c.joined x y (old x l) (old y m) is)

  -- all of the one face leads to p, and p to all of it
  to_p : (x : ℕ) → Live S x → S.face x ≡ S.face p → Reaches (By S.next) x p
  to_p x l at = elim (cases_Bool (arc x)) [
    | inl i ↦ one_side x p l e.lives_p (e.face_in x l i ∙ sym (e.face_in p e.lives_p e.arc_p))
    | inr i ↦ then (one_side x q l e.lives_q (e.face_out x l i ∙ at ∙ e.same ∙ sym (e.face_out q e.lives_q e.arc_q))) q_to_p
  ]

  from_p : (x : ℕ) → Live S x → S.face x ≡ S.face p → Reaches (By S.next) p x
  from_p x l at = elim (cases_Bool (arc x)) [
    | inl i ↦ one_side p x e.lives_p l (e.face_in p e.lives_p e.arc_p ∙ sym (e.face_in x l i))
    | inr i ↦ then p_to_q (one_side q x e.lives_q l (e.face_out q e.lives_q e.arc_q ∙ sym e.same ∙ sym at ∙ sym (e.face_out x l i)))
  ]

  -- the two faces beside the chord are one
  face_cycles_left : Cycles (Live S) S.next S.face
  face_cycles_left = record {
    stays = live_next;
    along = each a b (λ x. S.face (S.next x) ≡ S.face x)
        (ap S.face e.next_a ∙ e.same ∙ sym (e.face_out q e.lives_q e.arc_q) ∙ face_past_h ∙ e.face_out a live_a e.arc_before_p)
        (ap S.face e.next_b ∙ sym e.same ∙ sym (e.arc_face b live_b e.arc_before_q))
        (λ x l i j. elim (cases_Bool (arc x)) [
          | inl k ↦ e.arc_face (S.next x) (live_next x l) (arc_on x l i j ∙ k) ∙ sym (e.arc_face x l k)
          | inr k ↦ sym (e.face_out (S.next x) (live_next x l) (arc_on x l i j ∙ k)) ∙ face_on x l i j ∙ e.face_out x l k
        ]);
    joined = λ x y l m is. elim (cases_Bool (arc x)) [
      | inl i ↦ let at = e.arc_face x l i in then (to_p x l at) (from_p y m (sym is ∙ at))
      | inr i ↦ elim (cases_Bool (arc y)) [
        | inl j ↦ let at = e.arc_face y m j in then (to_p x l (is ∙ at)) (from_p y m at)
        | inr j ↦ one_side x y l m (e.face_out x l i ∙ is ∙ sym (e.face_out y m j))
      ]
    ];
  }

  live_ccw : (x : ℕ) → Live S x → Live S (ccw S x)
  unfolding ccw
  live_ccw x l = rev_live S (S.prev x) (live_prev x l)

  ccw_p : ccw T p ≡ h
  unfolding ccw
  ccw_p = ap rev e.prev_p ∙ rev-rev h

  ccw_h : ccw T h ≡ ccw S p
  unfolding ccw
  ccw_h = ap rev e.prev_h

  ccw_q : ccw T q ≡ rev h
  unfolding ccw
  ccw_q = ap rev e.prev_q

  ccw_rev : ccw T (rev h) ≡ ccw S q
  unfolding ccw
  ccw_rev = ap rev e.prev_rev

  ccw_other : (x : ℕ) → Live S x → x ≢ p → x ≢ q → ccw T x ≡ ccw S x
  unfolding ccw
  ccw_other x l i j = ap rev (e.prev_other x l i j)

  -- in the vertices, what comes after either half of the chord stands for it
  abbrev turned : ℕ → ℕ
  turned = stand_in h (ccw S p) (ccw S q)

  turned_h : turned h ≡ ccw S p
  turned_h = stand_in-h h (ccw S p) (ccw S q)

  turned_rev : turned (rev h) ≡ ccw S q
  turned_rev = stand_in-rev h (ccw S p) (ccw S q)

  turned_left : (x : ℕ) → Live S x → turned x ≡ x
  turned_left = stand_in-old S T h grown (ccw S p) (ccw S q)

  turns : (y : ℕ) → Live T y → Reaches (By (ccw S)) (turned y) (turned (ccw T y))
  turns =
      each_live S T h grown (λ y. Reaches (By (ccw S)) (turned y) (turned (ccw T y)))
      (each p q (λ y. Reaches (By (ccw S)) (turned y) (turned (ccw T y)))
      (step (ap (ccw S) (turned_left p e.lives_p) ∙ sym (ap turned ccw_p ∙ turned_h)))
      (step (ap (ccw S) (turned_left q e.lives_q) ∙ sym (ap turned ccw_q ∙ turned_rev)))
      (λ x l i j. step (ap (ccw S) (turned_left x l) ∙ sym (ap turned (ccw_other x l i j) ∙ turned_left (ccw S x) (live_ccw x l)))))
      (no_step (turned_h ∙ sym (ap turned ccw_h ∙ turned_left (ccw S p) (live_ccw p e.lives_p))))
      (no_step (turned_rev ∙ sym (ap turned ccw_rev ∙ turned_left (ccw S q) (live_ccw q e.lives_q))))

  -- a vertex keeps its half edges but for those of the chord
  vertex_cycles_left : Cycles (Live S) (ccw S) S.origin
  vertex_cycles_left =
      shrunk (Live S) (Live T) (ccw S) (ccw T) S.origin T.origin (λ x. x) turned (vertex_cycles T t) old turned_left live_ccw
      (each p q (λ x. Reaches (By (ccw T)) x (ccw S x)) (go ccw_p (step ccw_h)) (go ccw_q (step ccw_rev))
      (λ x l i j. step (ccw_other x l i j)))
      turns e.origin_other

  -- a chord taken back leaves a map sound
  pub unchord_sound : Sound S
  unchord_sound =
      undrawn_sound S T h (S.origin p) (S.origin q) e.fresh e.drawn t e.below_edges e.below_faces prev_of_next next_of_prev
      face_cycles_left vertex_cycles_left

  -- and connected: the one face leads round where steps led over the chord
  unchord_connected : Connected T → Connected S
  unchord_connected =
      connected_less S T (λ x. x) beside t old beside_left (λ y l. next_reaches S (nexts y l))
      (stand_in-turns S T h grown p q (next_reaches S p_to_q) (next_reaches S q_to_p))

  -- a chord taken back leaves a map sound and a sphere
  pub unchord_keeps : Sphere T → Sound S × Sphere S
  unchord_keeps m =
      (unchord_sound, sphere_less S T (chord_euler S T p q h g arc e.chord unchord_sound t) (h / 2) e.edge_here m (unchord_connected m.connected))
