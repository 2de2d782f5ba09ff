-- A chord keeps a map sound and a sphere.
use Rattle.std.proofs.Common.{◌≡◌, ◌≢◌, inl, inr, ◌/◌, ◌<◌, ℕ, Bool, sym, refl, ap, ◌∙◌, arith}
use Rattle.std.proofs.lemmas.Bool.{cases_eq, cases_Bool}
use Rattle.dcel_maps.specs.Maps.{Connected, Live, Map, ccw}
use Rattle.dcel_maps.specs.theory.Sound.{Sound, Sphere, has_word}
use Rattle.dcel_fixed.specs.HalfEdges.{rev}
use Rattle.dcel_maps.specs.Maps.Reaches.{go}
use Rattle.dcel_maps.proofs.maps.Counts.{Used, labels_more}
use Rattle.dcel_maps.proofs.maps.Cycles.{Cycles, inserted, parted, undoes}
use Rattle.dcel_maps.proofs.maps.Edits.{Chord}
use Rattle.dcel_maps.proofs.maps.Growth.{Also, Grown, also_cases, also_live, connected_on, drawn_grown, drawn_sound, each_live, grown_edges, live_cases, not_h, sphere_more, starts_same, still_live, OneMore}
use Rattle.dcel_maps.proofs.maps.Halves.{rev-rev}
use Rattle.dcel_maps.proofs.maps.Reaching.{step}
use Rattle.dcel_maps.proofs.maps.Soundness.{face_cycles, rev_live, vertex_cycles}
use Rattle.dcel_maps.proofs.maps.Updates.{put, put_other, put_same}

module _ (S T : Map) (p q h g : ℕ) (arc : ℕ → Bool) (e : Chord S T p q h g arc) where
  -- a chord adds the edge of h
  pub chord_grown : Grown S T h
  chord_grown = drawn_grown S T h (S.origin p) (S.origin q) e.fresh e.drawn

  module _ (s : Sound S) where
    live_a : Live S (S.prev p)
    live_a = s.live_prev p e.lives_p

    live_b : Live S (S.prev q)
    live_b = s.live_prev q e.lives_q

    next_a : S.next (S.prev p) ≡ p
    next_a = s.next-prev p e.lives_p

    next_b : S.next (S.prev q) ≡ q
    next_b = s.next-prev q e.lives_q

    -- a chord cuts the cycle of a face in two
    face_cycles_after : Cycles (Live T) T.next T.face
    face_cycles_after =
        parted (Live S) (Live T) S.next T.next S.face T.face arc p q (S.prev p) (S.prev q) h (rev h) g (face_cycles S s)
        live_a live_b next_a next_b e.arc_before_p e.arc_before_q e.same
        (still_live S T h chord_grown) (live_cases S T h chord_grown) e.edge_here (rev_live T h e.edge_here)
        e.next_to_h e.next_h e.next_to_rev e.next_rev e.next_other e.arc_face
        (λ x l i j. sym (s.prev-next x l) ∙ ap S.prev (e.arc_enter x l i j))
        (λ x l i j. sym (s.prev-next x l) ∙ ap S.prev (e.arc_leave x l i j))
        e.arc_p e.arc_q e.vacant e.face_h e.face_rev e.face_in e.face_out

    -- a chord puts h into the vertex of p, and its other half into that of q
    vertex_cycles_after : Cycles (Live T) (ccw T) T.origin
    unfolding ccw
    vertex_cycles_after =
        let f = put (ccw T) q (ccw S q) in
        let p≢q : p ≢ q = λ i. e.apart (ap S.origin i) in
        let mid : Cycles (Also S h) f T.origin =
        inserted (Live S) (Also S h) (ccw S) f S.origin T.origin p h (vertex_cycles S s) e.lives_p (λ x l. inl l) (λ x l. l) (inr refl)
        (put_other (ccw T) q (ccw S q) p p≢q ∙ ap rev e.prev_p ∙ rev-rev h)
        (put_other (ccw T) q (ccw S q) h (λ i. not_h S T h chord_grown q e.lives_q (sym i)) ∙ ap rev e.prev_h)
        (λ x l d. elim (cases_eq x q) [
          | inl i ↦ ap f i ∙ put_same (ccw T) q (ccw S q) ∙ ap (ccw S) (sym i)
          | inr k ↦ put_other (ccw T) q (ccw S q) x k ∙ ap rev (e.prev_other x l d k)
        ])
        e.origin_h e.origin_other in
        inserted (Also S h) (Live T) f (ccw T) T.origin T.origin q (rev h) mid (inl e.lives_q)
        (also_live S T h chord_grown) (also_cases S T h chord_grown)
        (rev_live T h e.edge_here) (ap rev e.prev_q) (ap rev e.prev_rev ∙ sym (put_same (ccw T) q (ccw S q)))
        (λ x l d. sym (put_other (ccw T) q (ccw S q) x d)) (e.origin_rev ∙ sym (e.origin_other q e.lives_q)) (λ x l. refl)

    -- a chord keeps a map sound
    pub chord_sound : Sound T
    chord_sound =
        drawn_sound S T h (S.origin p) (S.origin q) e.fresh e.drawn s (s.below_vertices p e.lives_p) (s.below_vertices q e.lives_q) e.apart
        (each_live S T h chord_grown (λ x. T.face x < T.faces)
        (λ x l. elim (cases_Bool (arc x)) [
          | inl t ↦ omega (arith, e.face_below, e.face_in x l t)
          | inr t ↦ omega (arith, s.below_faces x l, e.faces, e.face_out x l t)
        ])
        (omega (arith, s.below_faces q e.lives_q, e.faces, e.face_h)) (omega (arith, e.face_below, e.face_rev)))
        (each_live S T h chord_grown (λ x. T.prev (T.next x) ≡ x)
        (undoes (Live S) S.next S.prev T.next T.prev (S.prev p) (S.prev q) p q (λ x l _ _. s.live_next x l) s.prev-next (λ x l i. i) (λ x l i. i)
        (cc (e.next_to_h, e.prev_h)) (cc (e.next_to_rev, e.prev_rev)) e.next_other e.prev_other)
        (cc (e.next_h, e.prev_q)) (cc (e.next_rev, e.prev_p)))
        (each_live S T h chord_grown (λ x. T.next (T.prev x) ≡ x)
        (undoes (Live S) S.prev S.next T.prev T.next p q (S.prev p) (S.prev q) (λ x l _ _. s.live_prev x l) s.next-prev
        (λ x l i. i ∙ next_a) (λ x l i. i ∙ next_b)
        (cc (e.prev_p, e.next_rev)) (cc (e.prev_q, e.next_h)) e.prev_other e.next_other)
        (cc (e.prev_h, e.next_to_h)) (cc (e.prev_rev, e.next_to_rev)))
        face_cycles_after vertex_cycles_after

    -- a chord keeps a map connected
    chord_connected : Connected S → Connected T
    chord_connected =
        connected_on S T h chord_grown s
        (λ x l. elim (cases_eq x (S.prev p)) [
          | inl j ↦ go (inl (ap T.next j ∙ e.next_to_h)) (go (inr refl) (step (inl (e.next_rev ∙ sym next_a ∙ ap S.next (sym j)))))
          | inr d ↦ elim (cases_eq x (S.prev q)) [
            | inl j ↦ go (inl (ap T.next j ∙ e.next_to_rev)) (go (inr (rev-rev h)) (step (inl (e.next_h ∙ sym next_b ∙ ap S.next (sym j)))))
            | inr k ↦ step (inl (e.next_other x l d k))
          ]
        ])
        (q, e.lives_q, step (inl e.next_h)) (S.prev p, live_a, step (inl e.next_to_h))

    -- a chord adds a face with a word, and an edge
    pub chord_euler : Sound T → OneMore S T
    unfolding has_word
    chord_euler t =
        let starts = starts_same S T h (S.origin p) (S.origin q) e.fresh e.drawn s t p q e.lives_p e.lives_q refl refl in
        let words =
        labels_more S T s t S.face T.face S.faces T.faces e.faces s.below_faces
        (λ x l. elim (cases_Bool (arc x)) [
          | inl i ↦ record {
            half = q;
            live = still_live S T h chord_grown q e.lives_q;
            is = e.face_out q e.lives_q e.arc_q ∙ sym e.same ∙ sym (e.arc_face x l i);
          }
          | inr i ↦ record { half = x; live = still_live S T h chord_grown x l; is = e.face_out x l i }
        ])
        g e.face_below e.vacant (record { half = rev h; live = rev_live T h e.edge_here; is = e.face_rev })
        (each_live S T h chord_grown (λ x. T.face x ≢ g → Used S S.face (T.face x))
        (λ x l d. elim (cases_Bool (arc x)) [
          | inl i ↦ absurd (d (e.face_in x l i))
          | inr i ↦ record { half = x; live = l; is = sym (e.face_out x l i) }
        ])
        (λ d. record { half = q; live = e.lives_q; is = sym e.face_h }) (λ d. absurd (d e.face_rev))) in
        record { edges = grown_edges S T h chord_grown s; corners = omega (arith, starts, words) }

    -- a chord keeps a map sound and a sphere
    pub chord_keeps : Sphere S → Sound T × Sphere T
    chord_keeps m = (chord_sound, sphere_more S T (chord_euler chord_sound) (p / 2) e.lives_p m (chord_connected m.connected))
