-- An edge turned between two triangles keeps a map sound and a sphere: the two are joined, and the edge is put in again as an ear.
use Rattle.std.proofs.Common.{◌≡◌, ◌≢◌, [], ◌∷◌, ◌/◌, ℕ, false, refl, sym, ap, ◌∙◌, arith}
use Rattle.std.proofs.lemmas.Bool.Decides.{nat_tests}
use Rattle.dcel_fixed.specs.HalfEdges.{rev}
use Rattle.dcel_maps.specs.EditLists.{ComesBy}
use Rattle.dcel_maps.specs.EditLists.EditKind.{ear_cut, words_joined}
use Rattle.dcel_maps.specs.Maps.{Live, Map}
use Rattle.dcel_maps.specs.theory.Sound.{Sound, Sphere}
use Rattle.dcel_maps.proofs.maps.Ears.{two_in}
use Rattle.dcel_maps.proofs.maps.Edits.{Ear, two}
use Rattle.dcel_maps.proofs.maps.Halves.{rev_half, turn_back}
use Rattle.dcel_maps.proofs.maps.Joins.{Join, join, join_edit, join_is, join_still_live, join_vacant, join_was_live}
use Rattle.dcel_maps.proofs.maps.Lists.{comes_once, ear_after}
use Rattle.dcel_maps.proofs.maps.Triangles.{IsTriangleOf, Off, SameLinks, by_triangle, facing_differ, off_triangle}
use Rattle.dcel_maps.proofs.maps.Updates.{put}

-- the edge of e and t between the triangles (e, a, b) of f and (t, c, d) of g: these become (e, d, a) and (t, b, c)
pub record Flip (S T : Map) (f g e a b t c d : ℕ) : Type 0 where
  pub was : IsTriangleOf S f e a b
  pub facing : IsTriangleOf S g t c d
  pub turn : rev e ≡ t
  pub corners : S.origin b ≢ S.origin d
  pub first : IsTriangleOf T f e d a
  pub second : IsTriangleOf T g t b c
  pub others : (h : ℕ) → Live S h → Off h e a b → Off h t c d → SameLinks S T h
  pub origin_e : T.origin e ≡ S.origin b
  pub origin_t : T.origin t ≡ S.origin d
  pub origin_other : (h : ℕ) → Live S h → h ≢ e → h ≢ t → T.origin h ≡ S.origin h
  pub edge : (u : ℕ) → T.edge u ≡ S.edge u
  pub vertices : T.vertices ≡ S.vertices
  pub edges : T.edges ≡ S.edges
  pub faces : T.faces ≡ S.faces

module _ (S T : Map) (f g e a b t c d : ℕ) (s : Sound S) (x : Flip S T f g e a b t c d) where
  -- without the edge
  abbrev M : Map
  M = join S t

  back : rev t ≡ e
  back = turn_back e t x.turn

  differ : f ≢ g
  differ = facing_differ S s f e a b g t c d x.was x.facing x.turn

  two_faces : S.face t ≢ S.face (rev t)
  two_faces is = differ (sym x.was.face_x ∙ ap S.face (sym back) ∙ sym is ∙ x.facing.face_x)

  joined : Join S M t
  joined = join_is S t s (record { lives = x.facing.live_x; two_faces = two_faces })

  -- the half edges of the one triangle are none of the other
  apart : (h k : ℕ) → S.face h ≡ f → S.face k ≡ g → h ≢ k
  apart h k at_f at_g is = differ (sym at_f ∙ ap S.face is ∙ at_g)

  -- what is live without the edge was, and is neither half of it
  was_live : (h : ℕ) → Live M h → Live S h × (h ≢ t) × (h ≢ e)
  was_live h live = let was = join_was_live S M t s joined h live in (was.0, was.1, λ is. was.2 (is ∙ sym back))

  -- what holds of the four sides and of what stays holds of it
  each : (P : ℕ → Type 0) → P a × P b → P c × P d → ((h : ℕ) → Live S h → Off h e a b → Off h t c d → P h) → (h : ℕ) → Live M h → P h
  each P near far rest h live =
      let (lives, not_t, not_e) = was_live h live in
      let Q : ℕ → Type 0 = λ k. k ≢ e → k ≢ t → P k in
      by_triangle Q e a b h (λ i j. absurd (i refl), λ i j. near.0, λ i j. near.1) (λ here.
      by_triangle Q t c d h (λ i j. absurd (j refl), λ i j. far.0, λ i j. far.1) (λ there i j. rest h lives here there)) not_e not_t

  is_ear : Ear M T d a b t f
  unfolding join put
  is_ear =
      let known = x in
      let p = x.was in
      let q = x.facing in
      let back = back in
      let differ = differ in
      let half : t / 2 ≡ e / 2 = ap (λ z. z / 2) (sym x.turn) ∙ rev_half e in
      record {
        at = record {
          lives = join_still_live S M t s joined d q.live_z (λ is. q.x≢z (sym is)) (λ is. apart e d p.face_x q.face_z (sym (is ∙ back)));
          next_p = grind (arith, nat_tests);
          next_n = grind (arith, nat_tests);
          apart = λ same. x.corners (sym same);
          fresh = grind (arith, nat_tests);
          vacant = λ h live at. join_vacant S M t s joined h live (at ∙ sym p.face_x ∙ ap S.face (sym back));
        };
        cut = record {
          drawn = record {
            grows = record {
              edge_here = x.second.live_x;
              edge_other = λ u differs. x.edge u ∙ sym (joined.edge_other u differs);
              edges = omega (arith, x.edges);
              edge_below = omega (arith, s.below_edges t q.live_x, x.edges);
              vertices = x.vertices;
            };
            origin_h = grind (arith, nat_tests);
            origin_rev = grind (arith, nat_tests);
            origin_other = λ h live. let was = was_live h live in x.origin_other h was.0 was.2 was.1;
          };
          next_to_h = grind (arith, nat_tests);
          next_h = grind (arith, nat_tests);
          next_to_rev = grind (arith, nat_tests);
          next_rev = grind (arith, nat_tests);
          next_other =
              each (λ h. h ≢ M.prev d → h ≢ M.prev b → T.next h ≡ M.next h) (λ i j. grind (arith, nat_tests), λ i j. grind (arith, nat_tests))
              (λ i j. grind (arith, nat_tests), λ i j. grind (arith, nat_tests))
              (λ h live here there i j. let same = x.others h live here there in grind (arith, nat_tests));
          prev_h = grind (arith, nat_tests);
          prev_q = grind (arith, nat_tests);
          prev_rev = grind (arith, nat_tests);
          prev_p = grind (arith, nat_tests);
          prev_other =
              each (λ h. h ≢ d → h ≢ b → T.prev h ≡ M.prev h) (λ i j. grind (arith, nat_tests), λ i j. grind (arith, nat_tests))
              (λ i j. grind (arith, nat_tests), λ i j. grind (arith, nat_tests))
              (λ h live here there i j. let same = x.others h live here there in grind (arith, nat_tests));
          face_h = grind (arith, nat_tests);
          face_rev = grind (arith, nat_tests);
          face_in = λ h live. two_in T.face d a h f x.first.face_y x.first.face_z;
          face_out =
              each (λ h. two d a h ≡ false → T.face h ≡ M.face h) (λ out. grind (arith, nat_tests), λ out. grind (arith, nat_tests))
              (λ out. grind (arith, nat_tests), λ out. grind (arith, nat_tests))
              (λ h live here there out.
              let same = x.others h live here there in let off = off_triangle S s f e a b p h live here in grind (arith, nat_tests));
          faces = omega (arith, x.faces);
          face_below = omega (arith, s.below_faces e p.live_x, p.face_x, x.faces);
        };
      }

  -- two words joined, and an ear
  pub flip_comes : Sphere S → ComesBy (words_joined ∷ ear_cut ∷ []) S T
  flip_comes sphere =
      ear_after (words_joined ∷ []) S M T d a b t f s sphere
      (comes_once words_joined S M (join_edit S t s x.facing.live_x two_faces)) is_ear
