-- Other numbers keep a map sound and a sphere.
use Rattle.std.proofs.Common.{◌≡◌, ◌≢◌, inl, inr, ◌+◌, ◌*◌, ◌/◌, ◌<◌, ◌≤◌, ℕ, zero, suc, Bool, true, false, sym, refl, ap, ◌∙◌, subst, subst₂, arith}
use Rattle.std.proofs.lemmas.Bool.{cases_Bool}
use Rattle.dcel_maps.specs.Maps.{By, Connected, Live, Map, NextOrRev, Reaches, ccw, count, is_used, starts_edge}
use Rattle.dcel_maps.specs.theory.Sound.{Sound, Sphere, has_word}
use Rattle.dcel_fixed.specs.HalfEdges.{rev}
use Rattle.dcel_maps.proofs.maps.Edits.{Renamed}
use Rattle.dcel_maps.proofs.maps.Halves.{rev_half, rev_or_same}
use Rattle.dcel_maps.proofs.maps.Reaching.{reroutes, step}
use Rattle.dcel_maps.proofs.maps.Cycles.{Cycles}
use Rattle.dcel_maps.proofs.maps.Updates.{put, put_other, put_same}
use Rattle.dcel_maps.proofs.maps.Soundness.{face_cycles, live_step, rev_live, sound_from, vertex_cycles}
use Rattle.dcel_maps.proofs.maps.Counts.{count_more, used_from, used_gives}

-- each number below n that passes p goes to one below m that passes q
abbrev Goes : (ℕ → Bool) → (ℕ → Bool) → ℕ → ℕ → Type 0
Goes p q n m = (k : ℕ) → k < n → p k ≡ true → (j : ℕ) × (j < m) × (q j ≡ true)

-- where they go to different ones, no fewer pass q than pass p
count_inj : (p q : ℕ → Bool) (n m : ℕ) (f : Goes p q n m)
    → ((k j : ℕ) (a : k < n) (b : j < n) (t : p k ≡ true) (u : p j ≡ true) → (f k a t).0 ≡ (f j b u).0 → k ≡ j)
    → count p n ≤ count q m
count_inj p q zero m f inj = omega arith
count_inj p q (suc n) m f inj =
    let up : (k : ℕ) → k < n → k < suc n = λ k l. omega arith in
    let end : n < suc n = omega arith in
    elim (cases_Bool (p n)) [
      | inl t ↦
          let r = f n end t in
          let more : count q m ≡ count (put q r.0 false) m + 1 =
          count_more (put q r.0 false) q m r.0 r.1 (put_same q r.0 false) r.2 (λ j l d. put_other q r.0 false j d) in
          let g : Goes p (put q r.0 false) n m = λ k l u. let s = f k (up k l) u in
          (s.0, s.1, put_other q r.0 false s.0 (λ i. let e = inj k n (up k l) end u t i in absurd (omega arith)) ∙ s.2) in
          let i = count_inj p (put q r.0 false) n m g (λ k j a b t u e. inj k j (up k a) (up j b) t u e) in
          rw t (omega arith)
      | inr t ↦
          let i = count_inj p q n m (λ k l u. f k (up k l) u) (λ k j a b t u e. inj k j (up k a) (up j b) t u e) in
          rw t i
    ]

-- cycles under other numbers
cycles_renamed : (P P' : ℕ → Type 0) (f f' label label' r r' o : ℕ → ℕ) → Cycles P f label
    → ((x : ℕ) → P x → P' (r x)) → ((y : ℕ) → P' y → P (r' y)) → ((y : ℕ) → P' y → r (r' y) ≡ y)
    → ((x : ℕ) → P x → f' (r x) ≡ r (f x)) → ((x : ℕ) → P x → label' (r x) ≡ o (label x))
    → ((x y : ℕ) → P x → P y → o (label x) ≡ o (label y) → label x ≡ label y) → Cycles P' f' label'
cycles_renamed P P' f f' label label' r r' o c lives comes back on ls apart = record {
  stays = λ y p. let x = comes y p in
      subst P' (sym (on (r' y) x) ∙ ap f' (back y p)) (lives (f (r' y)) (c.stays (r' y) x));
  along = λ y p. let x = comes y p in
      ap (λ z. label' (f' z)) (sym (back y p)) ∙ ap label' (on (r' y) x) ∙ ls (f (r' y)) (c.stays (r' y) x) ∙ ap o (c.along (r' y) x)
      ∙ sym (ls (r' y) x) ∙ ap label' (back y p);
  joined = λ y z p q e.
      let x = comes y p in
      let w = comes z q in
      let i : o (label (r' y)) ≡ o (label (r' z)) =
      sym (ls (r' y) x) ∙ ap label' (back y p) ∙ e ∙ ap label' (sym (back z q)) ∙ ls (r' z) w in
      subst₂ (λ y z. Reaches (By f') y z) (back y p) (back z q)
      (reroutes (By f) (By f') P r (λ a b p s. subst P s (c.stays a p))
      (λ a b p s. step (on a p ∙ ap r s)) x (c.joined (r' y) (r' z) x w (apart (r' y) (r' z) x w i)));
}

-- no fewer edges are live where half edges go to different ones, and both halves of an edge to one: u goes to the edge of f (2 u)
edges_most : (S T : Map) (f f' : ℕ → ℕ) → ((x : ℕ) → Live S x → Live T (f x)) → ((x : ℕ) → Live S x → f' (f x) ≡ x)
    → ((x : ℕ) → Live S x → rev (f x) ≡ f (rev x)) → ((x : ℕ) → Live T x → x / 2 < T.edges) → count S.edge S.edges ≤ count T.edge T.edges
edges_most S T f f' lives forth turn below =
    let live : (u : ℕ) → S.edge u ≡ true → Live S (2 * u) = λ u t. let i : 2 * u / 2 ≡ u = omega arith in ap S.edge i ∙ t in
    count_inj S.edge T.edge S.edges T.edges
    (λ u l t. (f (2 * u) / 2, below (f (2 * u)) (lives (2 * u) (live u t)), lives (2 * u) (live u t)))
    (λ u v a b t r i.
    let x = live u t in
    let y = live v r in
    elim (rev_or_same (f (2 * u)) (f (2 * v)) i) [
      | inl j ↦ let k : 2 * u ≡ 2 * v = sym (forth (2 * u) x) ∙ ap f' j ∙ forth (2 * v) y in omega arith
      | inr j ↦
          let k : 2 * u ≡ rev (2 * v) = sym (forth (2 * u) x) ∙ ap f' (j ∙ turn (2 * v) y) ∙ forth (rev (2 * v)) (rev_live S (2 * v) y) in
          let n : 2 * u / 2 ≡ 2 * v / 2 = ap (λ z. z / 2) k ∙ rev_half (2 * v) in omega arith
    ])

-- no fewer labels are used after than before
labels_most : (S T : Map) (t : Sound T) (label label' r : ℕ → ℕ) (n n' : ℕ) → ((x : ℕ) → Live S x → Live T (r x))
    → ((x : ℕ) → Live T x → label' x < n') → ((x y : ℕ) → Live S x → Live S y → label' (r x) ≡ label' (r y) → label x ≡ label y)
    → count (is_used S label) n ≤ count (is_used T label') n'
labels_most S T t label label' r n n' lives below apart =
    count_inj (is_used S label) (is_used T label') n n'
    (λ v l u. let x = used_gives S label v u in (
      label' (r x.half),
      below (r x.half) (lives x.half x.live),
      used_from T t label' (label' (r x.half)) record { half = r x.half; live = lives x.half x.live; is = refl },
    ))
    (λ v w a b u z i.
    let x = used_gives S label v u in
    let y = used_gives S label w z in
    sym x.is ∙ apart x.half y.half x.live y.live i ∙ y.is)

module _ (S T : Map) (f f' o w : ℕ → ℕ) (e : Renamed S T f f' o w) (s : Sound S) where
  -- what holds of the new numbers holds of each
  on : (Q : ℕ → Type 0) → ((x : ℕ) → Live S x → Q (f x)) → (y : ℕ) → Live T y → Q y
  on Q q y l = subst Q (e.back y l) (q (f' y) (e.comes y l))

  -- other numbers keep a map sound
  pub renamed_sound : Sound T
  unfolding ccw
  renamed_sound =
      sound_from T e.below_edges e.below_vertices e.below_faces
      (on (λ y. T.prev (T.next y) ≡ y) (λ x l. ap T.prev (e.next x l) ∙ e.prev (S.next x) (s.live_next x l) ∙ ap f (s.prev-next x l)))
      (on (λ y. T.next (T.prev y) ≡ y) (λ x l. ap T.next (e.prev x l) ∙ e.next (S.prev x) (s.live_prev x l) ∙ ap f (s.next-prev x l)))
      (on (λ y. T.origin y ≢ T.origin (rev y)) (λ x l i. s.two_ends x l (e.apart_origin x (rev x) l (rev_live S x l)
      (sym (e.origin x l) ∙ i ∙ ap T.origin (e.turn x l) ∙ e.origin (rev x) (rev_live S x l)))))
      (cycles_renamed (Live S) (Live T) S.next T.next S.face T.face f f' w (face_cycles S s) e.lives e.comes e.back e.next e.face e.apart_face)
      (cycles_renamed (Live S) (Live T) (ccw S) (ccw T) S.origin T.origin f f' o (vertex_cycles S s) e.lives e.comes e.back
      (λ x l. ap rev (e.prev x l) ∙ e.turn (S.prev x) (s.live_prev x l)) e.origin e.apart_origin)

  -- and connected
  renamed_connected : Connected S → Connected T
  renamed_connected c x y l m =
      subst₂ (λ x y. Reaches (NextOrRev T) x y) (e.back x l) (e.back y m)
      (reroutes (NextOrRev S) (NextOrRev T) (Live S) f (live_step S s)
      (λ a b p r. elim r [ inl i ↦ step (inl (e.next a p ∙ ap f i)) | inr i ↦ step (inr (e.turn a p ∙ ap f i)) ])
      (e.comes x l) (c (f' x) (f' y) (e.comes x l) (e.comes y m)))

  -- as many edges are live
  pub edges_even : count T.edge T.edges ≡ count S.edge S.edges
  edges_even =
      let back : (y : ℕ) → Live T y → rev (f' y) ≡ f' (rev y) = on (λ y. rev (f' y) ≡ f' (rev y))
      (λ x l. ap rev (e.forth x l) ∙ sym (e.forth (rev x) (rev_live S x l)) ∙ ap f' (sym (e.turn x l))) in
      omega (arith, edges_most S T f f' e.lives e.forth e.turn e.below_edges, edges_most T S f' f e.comes e.back back s.below_edges)

  -- as many labels are used
  labels_even : (label label' r : ℕ → ℕ) (n n' : ℕ) → ((x : ℕ) → Live S x → label x < n) → ((x : ℕ) → Live T x → label' x < n')
      → ((x : ℕ) → Live S x → label' (f x) ≡ r (label x)) → ((x y : ℕ) → Live S x → Live S y → r (label x) ≡ r (label y) → label x ≡ label y)
      → count (is_used T label') n' ≡ count (is_used S label) n
  labels_even label label' r n n' below below' is apart =
      let forth = labels_most S T renamed_sound label label' f n n' e.lives below' (λ x y l k i. apart x y l k (sym (is x l) ∙ i ∙ is y k)) in
      let at : (y : ℕ) → Live T y → label' y ≡ r (label (f' y)) = λ y l. ap label' (sym (e.back y l)) ∙ is (f' y) (e.comes y l) in
      let back = labels_most T S s label' label f' n' n e.comes below (λ x y l k i. at x l ∙ ap r i ∙ sym (at y k)) in omega arith

  -- other numbers keep a map a sphere
  pub renamed_sphere : Sphere S → Sphere T
  unfolding starts_edge has_word
  renamed_sphere m = record {
    connected = renamed_connected m.connected;
    euler = λ u l.
        let half : 2 * u / 2 ≡ u = omega arith in
        let v = labels_even S.origin T.origin o S.vertices T.vertices s.below_vertices e.below_vertices e.origin e.apart_origin in
        let g = labels_even S.face T.face w S.faces T.faces s.below_faces e.below_faces e.face e.apart_face in
        omega (arith, v, g, edges_even, m.euler (f' (2 * u) / 2) (e.comes (2 * u) (ap T.edge half ∙ l)));
  }

  -- other numbers keep a map sound and a sphere
  pub renamed_keeps : Sphere S → Sound T × Sphere T
  renamed_keeps m = (renamed_sound, renamed_sphere m)
