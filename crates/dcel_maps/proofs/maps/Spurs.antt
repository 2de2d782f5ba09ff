-- A spur keeps a map sound and a sphere.
use Rattle.std.proofs.Common.{◌≡◌, inl, inr, ◌/◌, ◌<◌, ℕ, sym, refl, ap, ◌∙◌, arith}
use Rattle.std.proofs.lemmas.Bool.{cases_eq}
use Rattle.dcel_maps.specs.Maps.{Connected, Live, Map, ccw}
use Rattle.dcel_maps.specs.theory.Sound.{Sound, Sphere, has_word}
use Rattle.dcel_fixed.specs.HalfEdges.{rev}
use Rattle.dcel_maps.specs.Maps.Reaches.{go}
use Rattle.dcel_maps.proofs.maps.Counts.{Used, labels_same}
use Rattle.dcel_maps.proofs.maps.Cycles.{Cycles, inserted, single, undoes}
use Rattle.dcel_maps.proofs.maps.Edits.{Spur}
use Rattle.dcel_maps.proofs.maps.Growth.{Also, Grown, also_cases, also_live, connected_on, drawn_grown, drawn_sound, each_live, grown_edges, not_h, sphere_more, starts_more, still_live, OneMore}
use Rattle.dcel_maps.proofs.maps.Halves.{rev-rev}
use Rattle.dcel_maps.proofs.maps.Reaching.{step}
use Rattle.dcel_maps.proofs.maps.Soundness.{face_cycles, rev_live, vertex_cycles}
use Rattle.dcel_maps.proofs.maps.Updates.{put, put_other, put_same}

module _ (S T : Map) (a h v : ℕ) (e : Spur S T a h v) where
  -- a spur adds the edge of h
  pub spur_grown : Grown S T h
  spur_grown = drawn_grown S T h (S.origin (S.next a)) v e.fresh e.drawn

  module _ (s : Sound S) where
    abbrev b : ℕ
    b = S.next a

    live_b : Live S b
    live_b = s.live_next a e.lives

    -- a spur puts h and its other half into the face after a
    face_cycles_after : Cycles (Live T) T.next T.face
    face_cycles_after =
        let f = put T.next h b in
        let other : (x : ℕ) → Live S x → f x ≡ T.next x = λ x l. put_other T.next h b x (not_h S T h spur_grown x l) in
        let mid : Cycles (Also S h) f T.face =
        inserted (Live S) (Also S h) S.next f S.face T.face a h (face_cycles S s) e.lives (λ x l. inl l) (λ x l. l) (inr refl)
        (other a e.lives ∙ e.next_a) (put_same T.next h b) (λ x l d. other x l ∙ e.next_other x l d)
        e.face_h e.face_other in
        inserted (Also S h) (Live T) f T.next T.face T.face h (rev h) mid (inr refl) (also_live S T h spur_grown) (also_cases S T h spur_grown)
        (rev_live T h e.edge_here) e.next_h (e.next_rev ∙ sym (put_same T.next h b))
        (λ x l d. sym (put_other T.next h b x d)) (e.face_rev ∙ sym e.face_h) (λ x l. refl)

    -- a spur puts h into the vertex that it starts at, and its other half alone at v
    vertex_cycles_after : Cycles (Live T) (ccw T) T.origin
    unfolding ccw
    vertex_cycles_after =
        let mid : Cycles (Also S h) (ccw T) T.origin =
        inserted (Live S) (Also S h) (ccw S) (ccw T) S.origin T.origin b h (vertex_cycles S s) live_b (λ x l. inl l) (λ x l. l) (inr refl)
        (ap rev e.prev_b ∙ rev-rev h) (ap rev e.prev_h ∙ sym (ap rev (s.prev-next a e.lives)))
        (λ x l d. ap rev (e.prev_other x l d)) e.origin_h e.origin_other in
        single (Also S h) (Live T) (ccw T) (ccw T) T.origin T.origin (rev h) mid (also_live S T h spur_grown) (also_cases S T h spur_grown)
        (rev_live T h e.edge_here) (ap rev e.prev_rev) (λ x l. refl)
        (λ x l i. elim l [
          | inl m ↦ e.isolated x m (sym (e.origin_other x m) ∙ i ∙ e.origin_rev)
          | inr j ↦ e.isolated b live_b (sym e.origin_h ∙ sym (ap T.origin j) ∙ i ∙ e.origin_rev)
        ])
        (λ x l. refl)

    -- a spur keeps a map sound
    pub spur_sound : Sound T
    spur_sound =
        drawn_sound S T h (S.origin b) v e.fresh e.drawn s (s.below_vertices b live_b) e.vertex_room (e.isolated b live_b)
        (each_live S T h spur_grown (λ x. T.face x < T.faces) (λ x l. omega (arith, s.below_faces x l, e.faces, e.face_other x l))
        (omega (arith, s.below_faces a e.lives, e.faces, e.face_h)) (omega (arith, s.below_faces a e.lives, e.faces, e.face_rev)))
        (each_live S T h spur_grown (λ x. T.prev (T.next x) ≡ x)
        (undoes (Live S) S.next S.prev T.next T.prev a a b b (λ x l _ _. s.live_next x l) s.prev-next
        (λ x l i. i ∙ s.prev-next a e.lives) (λ x l i. i ∙ s.prev-next a e.lives)
        (cc (e.next_a, e.prev_h)) (cc (e.next_a, e.prev_h)) (λ x l d _. e.next_other x l d) (λ x l d _. e.prev_other x l d))
        (cc (e.next_h, e.prev_rev)) (cc (e.next_rev, e.prev_b)))
        (each_live S T h spur_grown (λ x. T.next (T.prev x) ≡ x)
        (undoes (Live S) S.prev S.next T.prev T.next b b a a (λ x l _ _. s.live_prev x l) s.next-prev (λ x l i. i) (λ x l i. i)
        (cc (e.prev_b, e.next_rev)) (cc (e.prev_b, e.next_rev)) (λ x l d _. e.prev_other x l d) (λ x l d _. e.next_other x l d))
        (cc (e.prev_h, e.next_a)) (cc (e.prev_rev, e.next_h)))
        face_cycles_after vertex_cycles_after

    -- a spur keeps a map connected
    spur_connected : Connected S → Connected T
    spur_connected =
        connected_on S T h spur_grown s
        (λ x l. elim (cases_eq x a) [
          | inl j ↦ go (inl (ap T.next j ∙ e.next_a)) (go (inl e.next_h) (step (inl (e.next_rev ∙ ap S.next (sym j)))))
          | inr d ↦ step (inl (e.next_other x l d))
        ])
        (b, live_b, go (inl e.next_h) (step (inl e.next_rev))) (a, e.lives, step (inl e.next_a))

    -- a spur adds a vertex that starts an edge, and an edge
    pub spur_euler : Sound T → OneMore S T
    unfolding has_word
    spur_euler t =
        let starts = starts_more S T h (S.origin b) v e.fresh e.drawn s t b live_b refl e.vertex_room e.isolated in
        let words =
        labels_same S T s t S.face T.face S.faces T.faces (omega (arith, e.faces)) s.below_faces
        (λ x l. record { half = x; live = still_live S T h spur_grown x l; is = e.face_other x l })
        (each_live S T h spur_grown (λ x. Used S S.face (T.face x)) (λ x l. record { half = x; live = l; is = sym (e.face_other x l) })
        (record { half = a; live = e.lives; is = sym e.face_h }) (record { half = a; live = e.lives; is = sym e.face_rev })) in
        record { edges = grown_edges S T h spur_grown s; corners = omega (arith, starts, words) }

    -- a spur keeps a map sound and a sphere
    pub spur_keeps : Sphere S → Sound T × Sphere T
    spur_keeps m = (spur_sound, sphere_more S T (spur_euler spur_sound) (a / 2) e.lives m (spur_connected m.connected))
