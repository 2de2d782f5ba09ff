-- A vertex put into an edge of two triangles, which are cut in two: a subdivision and two ears.
use Rattle.std.proofs.Common.{◌≡◌, ◌≢◌, [], ◌∷◌, inl, inr, ◌+◌, ◌/◌, ◌<◌, ℕ, sym, refl, ap, ◌∙◌, arith}
use Rattle.std.proofs.lemmas.Bool.{cases_eq}
use Rattle.std.proofs.lemmas.Bool.Decides.{nat_tests}
use Rattle.dcel_fixed.specs.HalfEdges.{rev}
use Rattle.dcel_maps.specs.EditLists.{ComesBy}
use Rattle.dcel_maps.specs.EditLists.EditKind.{ear_cut, edge_subdivided}
use Rattle.dcel_maps.specs.Maps.{Live, Map}
use Rattle.dcel_maps.specs.theory.Sound.{Sound, Sphere}
use Rattle.dcel_maps.proofs.maps.Between.{Between, between_subdivides}
use Rattle.dcel_maps.proofs.maps.Counts.{edge_past}
use Rattle.dcel_maps.proofs.maps.Eared.{HasEar, corner_ear, ear_keeps_both, ear_keeps_triangle, is_ear, without_ear}
use Rattle.dcel_maps.proofs.maps.Halves.{turn_even}
use Rattle.dcel_maps.proofs.maps.Lists.{comes_once, ear_after}
use Rattle.dcel_maps.proofs.maps.Middles.{Joined, joined_at, joined_below, joined_ear, joined_face, joined_leads_on, joined_starts}
use Rattle.dcel_maps.proofs.maps.Triangles.{Alone, IsTriangleOf, Off, by_triangle, off_face, SameLinks}
use Rattle.dcel_maps.proofs.maps.Updates.{put}

-- the vertex v put into e, with the half edges from n on: (e, a, b) on the face f becomes (e, n + 5, b), and the other half t of e, with
-- (t, c, d) on the face g, becomes (t, c, n); (d, n + 2, n + 1) and (n + 3, a, n + 4) are new faces
pub record Split (S T : Map) (f g e a b t c d v n : ℕ) : Type 0 where
  pub joined : Joined S T f (S.faces + 1) e a b t v n (n + 5) (n + 4) (n + 3) (n + 2)
  pub open joined use *
  pub facing : IsTriangleOf S g t c d
  pub second : IsTriangleOf T g c n t
  pub third : IsTriangleOf T S.faces d (n + 2) (n + 1)
  pub third_alone : Alone T S.faces d (n + 2) (n + 1)
  pub others : (h : ℕ) → Live S h → Off h e a b → Off h t c d → SameLinks S T h
  pub origin_0 : T.origin n ≡ S.origin d
  pub origin_1 : T.origin (n + 1) ≡ v
  pub edge_other : (u : ℕ) → u ≢ S.edges → u ≢ S.edges + 1 → u ≢ S.edges + 2 → T.edge u ≡ S.edge u
  pub edges : T.edges ≡ S.edges + 3
  pub faces : T.faces ≡ S.faces + 2

module _ (S T : Map) (f g e a b t c d v n : ℕ) (s : Sound S) (x : Split S T f g e a b t c d v n) where
  -- without the ear of f, and without both
  abbrev one_ear : Map
  one_ear = without_ear T (n + 3) a b (n + 5) (S.faces + 1) e f

  abbrev uncut : Map
  uncut = without_ear one_ear d (n + 2) t n S.faces c g

  below : (h : ℕ) → Live S h → h < n
  below = joined_below S T f (S.faces + 1) e a b t v n (n + 5) (n + 4) (n + 3) (n + 2) s x.joined

  g_not_f : g ≢ f
  g_not_f is = x.elsewhere (x.facing.face_x ∙ is)

  -- the half edges of g are off the triangle of f
  off_f : (h : ℕ) → S.face h ≡ g → Off h e a b
  off_f h at = off_face S f e a b x.was h (λ is. g_not_f (sym at ∙ is))

  f_below : f < S.faces
  f_below = joined_face S T f (S.faces + 1) e a b t v n (n + 5) (n + 4) (n + 3) (n + 2) s x.joined

  g_below : g < S.faces
  g_below = let within = s.below_faces t x.facing.live_x in omega (arith, within, x.facing.face_x)

  turn_first : rev n ≡ n + 1
  turn_first = turn_even n (n + 1) S.edges x.twice (omega (arith, x.twice))

  origin_d : T.origin d ≡ S.origin d
  origin_d = x.origin_other d x.facing.live_z (λ is. x.facing.x≢z (sym is))

  last_ear : HasEar T (n + 3) a b (n + 5) (S.faces + 1) e (n + 4) f
  last_ear =
      joined_ear S T f (S.faces + 1) e a b t v n (n + 5) (n + 4) (n + 3) (n + 2) s x.joined
      (omega arith) (omega (arith, x.edges, x.twice)) (omega (arith, x.faces))

  -- the old half edges are below the new ones, and those of g are off the triangle of f
  record Old : Type 0 where
    pub e_in : e < n
    pub a_in : a < n
    pub b_in : b < n
    pub t_in : t < n
    pub c_in : c < n
    pub d_in : d < n
    pub off_t : Off t e a b
    pub off_c : Off c e a b
    pub off_d : Off d e a b

  old : Old
  old =
      let in_f = x.was in
      let in_g = x.facing in
      record {
        e_in = below e in_f.live_x;
        a_in = below a in_f.live_y;
        b_in = below b in_f.live_z;
        t_in = below t in_g.live_x;
        c_in = below c in_g.live_y;
        d_in = below d in_g.live_z;
        off_t = off_f t in_g.face_x;
        off_c = off_f c in_g.face_y;
        off_d = off_f d in_g.face_z;
      }

  -- without the ear of f, the triangles of g and beside it stay
  second_kept : IsTriangleOf one_ear g c n t
  second_kept =
      ear_keeps_triangle T (n + 3) a b (n + 5) (S.faces + 1) e (n + 4) f last_ear g g_not_f (λ is. omega (arith, is, g_below)) c n t x.second

  third_kept : IsTriangleOf one_ear S.faces d (n + 2) (n + 1) × Alone one_ear S.faces d (n + 2) (n + 1)
  third_kept =
      ear_keeps_both T (n + 3) a b (n + 5) (S.faces + 1) e (n + 4) f last_ear S.faces (λ is. omega (arith, is, f_below)) (λ is. omega (arith, is))
      d (n + 2) (n + 1) x.third x.third_alone

  first_ear : HasEar one_ear d (n + 2) t n S.faces c (n + 1) g
  first_ear =
      corner_ear one_ear g S.faces c n t d (n + 2) (n + 1) second_kept third_kept.0 third_kept.1 turn_first
      (λ same. omega (arith, g_below, same))
      (record {
        start = x.origin_0 ∙ sym origin_d;
        end = x.origin_1 ∙ sym x.origin_t;
        apart = λ same. x.isolated d x.facing.live_z (sym origin_d ∙ same ∙ x.origin_t);
      })
      (omega (arith, x.edges, x.twice)) (omega arith)

  uncut_edge : (u : ℕ) → u ≢ (n + 3) / 2 → uncut.edge u ≡ S.edge u
  unfolding put
  uncut_edge u differs =
      let twice = x.twice in
      let first_half : n / 2 ≡ S.edges = omega arith in
      let half : (n + 3) / 2 ≡ S.edges + 1 = omega arith in
      let last_half : (n + 5) / 2 ≡ S.edges + 2 = omega arith in
      elim (cases_eq u S.edges) [
        | inl is ↦ let past = edge_past S s u (omega arith) in grind (arith, nat_tests)
        | inr not_first ↦ elim (cases_eq u (S.edges + 2)) [
          | inl is ↦ let past = edge_past S s u (omega arith) in grind (arith, nat_tests)
          | inr not_last ↦ let old = x.edge_other u not_first (λ is. differs (is ∙ sym half)) not_last in grind (arith, nat_tests)
        ]
      ]

  -- what holds of each half edge of both triangles, and of those on neither
  each_old : (P : ℕ → Type 0) → P e → P a → P b → P t → P c → P d → ((h : ℕ) → Live S h → Off h e a b → Off h t c d → P h)
      → (h : ℕ) → Live S h → P h
  each_old P at_e at_a at_b at_t at_c at_d rest h live =
      by_triangle P e a b h (at_e, at_a, at_b) (λ not_f. by_triangle P t c d h (at_t, at_c, at_d) (rest h live not_f))

  uncut_face : (h : ℕ) → Live S h → uncut.face h ≡ S.face h
  unfolding put
  uncut_face =
      let known = x in
      let apart = old in
      let a≢e : a ≢ e = λ is. x.was.x≢y (sym is) in
      each_old (λ h. uncut.face h ≡ S.face h)
      (grind (arith, nat_tests)) (grind (arith, nat_tests)) (grind (arith, nat_tests))
      (grind (arith, nat_tests)) (grind (arith, nat_tests)) (grind (arith, nat_tests))
      (λ h live not_f not_g. let h_in = below h live in let other = (x.others h live not_f not_g).face in grind (arith, nat_tests))

  is_between : Between S uncut e (n + 3) v
  unfolding put
  is_between =
      let known = x in
      let first_half : n / 2 ≡ S.edges = omega arith in
      let half : (n + 3) / 2 ≡ S.edges + 1 = omega arith in
      let last_half : (n + 5) / 2 ≡ S.edges + 2 = omega arith in
      let apart = old in
      record {
        middle = record {
          at = joined_at S T f (S.faces + 1) e a b t v n (n + 5) (n + 4) (n + 3) (n + 2) s x.joined (omega arith);
          grows = record { edge_here = grind (arith, nat_tests); edge_other = uncut_edge; edges = omega (arith, x.edges); edge_below = omega (arith, x.edges); vertices = x.vertices };
          next_h = grind (arith, nat_tests);
          prev_k = grind (arith, nat_tests);
          next_rev = grind (arith, nat_tests);
          prev_rev = grind (arith, nat_tests);
          faces = refl;
        };
        leads_on = joined_leads_on S T f (S.faces + 1) e a b t v n (n + 5) (n + 4) (n + 3) (n + 2) s x.joined;
        next_k = grind (arith, nat_tests);
        next_before = grind (arith, nat_tests);
        next_other = each_old (λ h. h ≢ e → h ≢ S.prev (rev e) → uncut.next h ≡ S.next h)
            (λ not_e not_d. absurd (not_e refl)) (λ not_e not_d. grind (arith, nat_tests)) (λ not_e not_d. grind (arith, nat_tests))
            (λ not_e not_d. grind (arith, nat_tests)) (λ not_e not_d. grind (arith, nat_tests))
            (λ not_e not_d. absurd (not_d (sym (ap S.prev x.turn ∙ x.facing.prev_x))))
            (λ h live not_f not_g not_e not_d. let h_in = below h live in let other = (x.others h live not_f not_g).next in grind (arith, nat_tests));
        prev_after = grind (arith, nat_tests);
        prev_l = grind (arith, nat_tests);
        prev_other = each_old (λ h. h ≢ rev e → h ≢ S.next e → uncut.prev h ≡ S.prev h)
            (λ not_t not_a. grind (arith, nat_tests)) (λ not_t not_a. absurd (not_a (sym x.was.next_x))) (λ not_t not_a. grind (arith, nat_tests))
            (λ not_t not_a. absurd (not_t (sym x.turn))) (λ not_t not_a. grind (arith, nat_tests)) (λ not_t not_a. grind (arith, nat_tests))
            (λ h live not_f not_g not_t not_a. let h_in = below h live in let other = (x.others h live not_f not_g).prev in grind (arith, nat_tests));
        starts = joined_starts S T f (S.faces + 1) e a b t v n (n + 5) (n + 4) (n + 3) (n + 2) s x.joined;
        face_k = grind (arith, nat_tests);
        face_l = grind (arith, nat_tests);
        face_other = uncut_face;
      }

  -- a subdivision and two ears
  pub split_comes : Sphere S → ComesBy (edge_subdivided ∷ ear_cut ∷ ear_cut ∷ []) S T
  split_comes sphere =
      let middle = comes_once edge_subdivided S uncut (e, n + 3, v, between_subdivides S uncut e (n + 3) v s is_between) in
      let first = ear_after (edge_subdivided ∷ []) S uncut one_ear d (n + 2) t n S.faces s sphere middle
      (is_ear one_ear d (n + 2) t n S.faces c (n + 1) g first_ear) in
      ear_after (edge_subdivided ∷ ear_cut ∷ []) S one_ear T (n + 3) a b (n + 5) (S.faces + 1) s sphere first
      (is_ear T (n + 3) a b (n + 5) (S.faces + 1) e (n + 4) f last_ear)
