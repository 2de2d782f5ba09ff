-- A vertex put into an edge of a triangle, which is cut in two: a subdivision and an ear.
use Rattle.std.proofs.Common.{◌≡◌, ◌≢◌, [], ◌∷◌, inl, inr, ◌+◌, ◌/◌, ◌<◌, ℕ, sym, refl, ◌∙◌, arith}
use Rattle.std.proofs.lemmas.Bool.{cases_eq}
use Rattle.std.proofs.lemmas.Bool.Decides.{nat_tests}
use Rattle.dcel_fixed.specs.HalfEdges.{rev}
use Rattle.dcel_maps.specs.EditLists.{ComesBy}
use Rattle.dcel_maps.specs.EditLists.EditKind.{ear_cut, edge_subdivided}
use Rattle.dcel_maps.specs.Maps.{Live, Map}
use Rattle.dcel_maps.specs.theory.Sound.{Sound, Sphere}
use Rattle.dcel_maps.proofs.maps.Between.{Between, between_subdivides}
use Rattle.dcel_maps.proofs.maps.Counts.{edge_past}
use Rattle.dcel_maps.proofs.maps.Eared.{HasEar, is_ear, without_ear}
use Rattle.dcel_maps.proofs.maps.Edits.{Ear, Subdivide}
use Rattle.dcel_maps.proofs.maps.Lists.{comes_once, ear_after}
use Rattle.dcel_maps.proofs.maps.Middles.{Joined, joined_at, joined_below, joined_ear, joined_leads_on, joined_live, joined_off, joined_starts}
use Rattle.dcel_maps.proofs.maps.Soundness.{face_prev}
use Rattle.dcel_maps.proofs.maps.Triangles.{Off, by_triangle, off_face}
use Rattle.dcel_maps.proofs.maps.Updates.{put}

-- the vertex v put into e, with the half edges from n on: (e, a, b) on the face f becomes (e, n + 1, b), (n + 2, a, n) is a new
-- face, and the other half t of e, on another face, becomes (n + 3, t)
pub record HalfSplit (S T : Map) (f e a b t v n : ℕ) : Type 0 where
  pub joined : Joined S T f S.faces e a b t v n (n + 1) n (n + 2) (n + 3)
  pub open joined use *
  pub live_3 : Live T (n + 3)
  pub next_before : T.next (S.prev t) ≡ n + 3
  pub next_3 : T.next (n + 3) ≡ t
  pub prev_t : T.prev t ≡ n + 3
  pub prev_3 : T.prev (n + 3) ≡ S.prev t
  pub face_3 : T.face (n + 3) ≡ S.face t
  pub next_other : (h : ℕ) → Live S h → Off h e a b → h ≢ S.prev t → T.next h ≡ S.next h
  pub prev_other : (h : ℕ) → Live S h → Off h e a b → h ≢ t → T.prev h ≡ S.prev h
  pub face_other : (h : ℕ) → Live S h → Off h e a b → T.face h ≡ S.face h
  pub edge_other : (u : ℕ) → u ≢ S.edges → u ≢ S.edges + 1 → T.edge u ≡ S.edge u
  pub edges : T.edges ≡ S.edges + 2
  pub faces : T.faces ≡ S.faces + 1

module _ (S T : Map) (f e a b t v n : ℕ) (s : Sound S) (x : HalfSplit S T f e a b t v n) where
  below : (h : ℕ) → Live S h → h < n
  below = joined_below S T f S.faces e a b t v n (n + 1) n (n + 2) (n + 3) s x.joined

  live_t : Live S t
  live_t = joined_live S T f S.faces e a b t v n (n + 1) n (n + 2) (n + 3) s x.joined

  live_before : Live S (S.prev t)
  live_before = s.live_prev t live_t

  face_before : S.face (S.prev t) ≡ S.face t
  face_before = face_prev S s t live_t

  t_off : Off t e a b
  t_off = joined_off S T f S.faces e a b t v n (n + 1) n (n + 2) (n + 3) s x.joined

  before_off : Off (S.prev t) e a b
  before_off = off_face S f e a b x.was (S.prev t) (λ is. x.elsewhere (sym face_before ∙ is))

  -- the map without the ear
  abbrev pub half_uncut : Map
  half_uncut = without_ear T (n + 2) a b (n + 1) S.faces e f

  has_ear : HasEar T (n + 2) a b (n + 1) S.faces e n f
  has_ear =
      joined_ear S T f S.faces e a b t v n (n + 1) n (n + 2) (n + 3) s x.joined
      (omega arith) (omega (arith, x.edges, x.twice)) (omega (arith, x.faces))

  pub half_is_ear : Ear half_uncut T (n + 2) a b (n + 1) S.faces
  half_is_ear = is_ear T (n + 2) a b (n + 1) S.faces e n f has_ear

  part_edge : (u : ℕ) → u ≢ (n + 2) / 2 → half_uncut.edge u ≡ S.edge u
  unfolding put
  part_edge u differs =
      let twice = x.twice in
      let half : (n + 1) / 2 ≡ S.edges = omega arith in
      let other : (n + 2) / 2 ≡ S.edges + 1 = omega arith in
      elim (cases_eq u S.edges) [
        | inl is ↦ let past = edge_past S s u (omega arith) in grind (arith, nat_tests)
        | inr not_first ↦ let old = x.edge_other u not_first (λ is. differs (is ∙ sym other)) in grind (arith, nat_tests)
      ]

  part_face : (h : ℕ) → Live S h → half_uncut.face h ≡ S.face h
  unfolding put
  part_face h live =
      let h_in = below h live in
      let was = x.was in
      let near = x.first in
      let a≢e : a ≢ e = λ is. was.x≢y (sym is) in
      by_triangle (λ y. half_uncut.face y ≡ S.face y) e a b h (grind (arith, nat_tests), grind (arith, nat_tests), grind (arith, nat_tests))
      (λ off. let other = x.face_other h live off in grind (arith, nat_tests))

  is_between : Between S half_uncut e (n + 2) v
  unfolding put
  is_between =
      let known = x.joined in
      let half : (n + 2) / 2 ≡ S.edges + 1 = omega arith in
      let other_half : (n + 1) / 2 ≡ S.edges = omega arith in
      let e_in = below e x.was.live_x in
      let a_in = below a x.was.live_y in
      let b_in = below b x.was.live_z in
      let t_in = below t live_t in
      let before_in = below (S.prev t) live_before in
      let off_t = t_off in
      let off_before = before_off in
      record {
        middle = record {
          at = joined_at S T f S.faces e a b t v n (n + 1) n (n + 2) (n + 3) s x.joined (omega arith);
          grows = record { edge_here = grind (arith, nat_tests); edge_other = part_edge; edges = omega (arith, x.edges); edge_below = omega (arith, x.edges); vertices = x.vertices };
          next_h = grind (arith, nat_tests);
          prev_k = grind (arith, nat_tests);
          next_rev = let next = x.next_3 in grind (arith, nat_tests);
          prev_rev = let prev = x.prev_t in grind (arith, nat_tests);
          faces = refl;
        };
        leads_on = joined_leads_on S T f S.faces e a b t v n (n + 1) n (n + 2) (n + 3) s x.joined;
        next_k = grind (arith, nat_tests);
        next_before = let next = x.next_before in grind (arith, nat_tests);
        next_other = λ h live.
            let h_in = below h live in
            by_triangle (λ y. y ≢ e → y ≢ S.prev (rev e) → half_uncut.next y ≡ S.next y) e a b h
            (λ not_e. absurd (not_e refl), λ not_e not_before. grind (arith, nat_tests), λ not_e not_before. grind (arith, nat_tests))
            (λ off not_e not_before. let other = x.next_other h live off in grind (arith, nat_tests));
        prev_after = grind (arith, nat_tests);
        prev_l = let prev = x.prev_3 in grind (arith, nat_tests);
        prev_other = λ h live.
            let h_in = below h live in
            by_triangle (λ y. y ≢ rev e → y ≢ S.next e → half_uncut.prev y ≡ S.prev y) e a b h
            (λ not_t not_a. grind (arith, nat_tests), λ not_t not_a. absurd (not_a (sym x.was.next_x)), λ not_t not_a. grind (arith, nat_tests))
            (λ off not_t not_a. let other = x.prev_other h live off (λ is. not_t (is ∙ sym x.turn)) in grind (arith, nat_tests));
        starts = joined_starts S T f S.faces e a b t v n (n + 1) n (n + 2) (n + 3) s x.joined;
        face_k = grind (arith, nat_tests);
        face_l = let face = x.face_3 in grind (arith, nat_tests);
        face_other = part_face;
      }

  -- without the ear it is a subdivision
  pub half_subdivides : Subdivide S half_uncut e (n + 2) v
  half_subdivides = between_subdivides S half_uncut e (n + 2) v s is_between

  -- a subdivision and an ear
  pub half_split_comes : Sphere S → ComesBy (edge_subdivided ∷ ear_cut ∷ []) S T
  half_split_comes sphere =
      ear_after (edge_subdivided ∷ []) S half_uncut T (n + 2) a b (n + 1) S.faces s sphere
      (comes_once edge_subdivided S half_uncut (e, n + 2, v, half_subdivides)) half_is_ear
