-- A vertex put into a triangle: a spur and two ears.
use Rattle.std.proofs.Common.{◌≡◌, ◌≢◌, [], ◌∷◌, inl, inr, ◌+◌, ◌*◌, ◌/◌, ◌<◌, ℕ, sym, refl, ap, ◌∙◌, arith}
use Rattle.std.proofs.lemmas.Bool.{cases_eq}
use Rattle.std.proofs.lemmas.Bool.Decides.{nat_tests}
use Rattle.dcel_fixed.specs.HalfEdges.{rev}
use Rattle.dcel_maps.specs.EditLists.{ComesBy}
use Rattle.dcel_maps.specs.EditLists.EditKind.{ear_cut, spur_added}
use Rattle.dcel_maps.specs.Maps.{Live, Map}
use Rattle.dcel_maps.specs.theory.Sound.{Sound, Sphere}
use Rattle.dcel_maps.proofs.maps.Counts.{edge_past}
use Rattle.dcel_maps.proofs.maps.Eared.{HasEar, corner_ear, ear_keeps_both, is_ear, without_ear}
use Rattle.dcel_maps.proofs.maps.Edits.{Spur}
use Rattle.dcel_maps.proofs.maps.Growth.{spur_at}
use Rattle.dcel_maps.proofs.maps.Halves.{turn_even, turn_odd}
use Rattle.dcel_maps.proofs.maps.Lists.{comes_once, ear_after}
use Rattle.dcel_maps.proofs.maps.Triangles.{Alone, IsTriangleOf, Off, alone_turned, by_triangle, triangle_turned, SameLinks}
use Rattle.dcel_maps.proofs.maps.Updates.{put}

-- the vertex v put into the triangle (a, b, c) of the face f, with the half edges from n on: f keeps a, and b and c get new faces
pub record Insert (S T : Map) (f a b c v n : ℕ) : Type 0 where
  pub twice : n ≡ 2 * S.edges
  pub was : IsTriangleOf S f a b c
  pub isolated : (h : ℕ) → Live S h → S.origin h ≢ v
  pub vertex_room : v < S.vertices
  pub first : IsTriangleOf T f a n (n + 5)
  pub second : IsTriangleOf T S.faces b (n + 2) (n + 1)
  pub third : IsTriangleOf T (S.faces + 1) c (n + 4) (n + 3)
  pub second_alone : Alone T S.faces b (n + 2) (n + 1)
  pub third_alone : Alone T (S.faces + 1) c (n + 4) (n + 3)
  pub others : (h : ℕ) → Live S h → Off h a b c → SameLinks S T h
  pub origins : (T.origin n ≡ S.origin b) × (T.origin (n + 1) ≡ v) × (T.origin (n + 2) ≡ S.origin c) × (T.origin (n + 3) ≡ v) × (T.origin (n + 4) ≡ S.origin a) × (T.origin (n + 5) ≡ v)
  pub origin_other : (h : ℕ) → Live S h → T.origin h ≡ S.origin h
  pub edge_other : (u : ℕ) → u ≢ S.edges → u ≢ S.edges + 1 → u ≢ S.edges + 2 → T.edge u ≡ S.edge u
  pub edges : T.edges ≡ S.edges + 3
  pub vertices : T.vertices ≡ S.vertices
  pub faces : T.faces ≡ S.faces + 2

module _ (S T : Map) (f a b c v n : ℕ) (s : Sound S) (e : Insert S T f a b c v n) where
  -- without the last ear, and without both
  abbrev one_ear : Map
  one_ear = without_ear T (n + 3) c a (n + 5) (S.faces + 1) n f

  abbrev no_ear : Map
  no_ear = without_ear one_ear (n + 1) b c (n + 3) S.faces n f

  below : (h : ℕ) → Live S h → h < n
  below h live = let edge = s.below_edges h live in let twice = e.twice in omega arith

  f_below : f < S.faces
  f_below = let within = s.below_faces a e.was.live_x in omega (arith, within, e.was.face_x)

  turn_first : rev n ≡ n + 1
  turn_first = turn_even n (n + 1) S.edges e.twice (omega (arith, e.twice))

  turn_third : rev (n + 3) ≡ n + 2
  turn_third = turn_odd (n + 3) (n + 2) (S.edges + 1) (omega (arith, e.twice)) (omega (arith, e.twice))

  turn_fifth : rev (n + 5) ≡ n + 4
  turn_fifth = turn_odd (n + 5) (n + 4) (S.edges + 2) (omega (arith, e.twice)) (omega (arith, e.twice))

  last_ear : HasEar T (n + 3) c a (n + 5) (S.faces + 1) n (n + 4) f
  last_ear =
      let corner = triangle_turned T f (n + 5) a n (triangle_turned T f a n (n + 5) e.first) in
      corner_ear T f (S.faces + 1) n (n + 5) a (n + 3) c (n + 4) corner (triangle_turned T (S.faces + 1) c (n + 4) (n + 3) e.third)
      (alone_turned T (S.faces + 1) c (n + 4) (n + 3) e.third_alone) turn_fifth (λ same. omega (arith, f_below, same))
      (record {
        start = e.origins.5 ∙ sym e.origins.3;
        end = e.origins.4 ∙ sym (e.origin_other a e.was.live_x);
        apart = λ same. e.isolated a e.was.live_x (sym (e.origin_other a e.was.live_x) ∙ sym same ∙ e.origins.3);
      })
      (omega (arith, e.edges, e.twice)) (omega (arith, e.faces))

  -- the half edges of f are below the new ones, and differ
  old_halves : (a < n) × (b < n) × (c < n) × (a ≢ b) × (b ≢ c) × (a ≢ c)
  old_halves =
      let was = e.was in (below a was.live_x, below b was.live_y, below c was.live_z, was.x≢y, was.y≢z, was.x≢z)

  -- without the last ear, the new triangle of b stays
  second_kept : IsTriangleOf one_ear S.faces b (n + 2) (n + 1) × Alone one_ear S.faces b (n + 2) (n + 1)
  second_kept =
      ear_keeps_both T (n + 3) c a (n + 5) (S.faces + 1) n (n + 4) f last_ear S.faces (λ is. omega (arith, is, f_below)) (λ is. omega (arith, is))
      b (n + 2) (n + 1) e.second e.second_alone

  first_ear : HasEar one_ear (n + 1) b c (n + 3) S.faces n (n + 2) f
  unfolding put
  first_ear =
      let x = e.first in
      let y = e.second in
      let z = e.third in
      let olds = old_halves in
      let twice = e.twice in
      let edges = e.edges in
      let faces = e.faces in
      record {
        triangle = triangle_turned one_ear S.faces b (n + 2) (n + 1) second_kept.0;
        alone = alone_turned one_ear S.faces b (n + 2) (n + 1) second_kept.1;
        turn = turn_third;
        stands = record {
          linked = record { live = grind (arith, nat_tests); next = grind (arith, nat_tests); prev = grind (arith, nat_tests); face = grind (arith, nat_tests) };
          next_k = grind (arith, nat_tests);
          prev_q = grind (arith, nat_tests);
          face_k = grind (arith, nat_tests);
          face_q = grind (arith, nat_tests);
        };
        other_face = λ same. omega (arith, f_below, same);
        ends = record {
          start = e.origins.3 ∙ sym e.origins.1;
          end = e.origins.2 ∙ sym (e.origin_other c e.was.live_z);
          apart = λ same. e.isolated c e.was.live_z (sym (e.origin_other c e.was.live_z) ∙ sym same ∙ e.origins.1);
        };
        edge_below = omega arith;
        face_below = omega arith;
      }

  no_ear_edge : (u : ℕ) → u ≢ n / 2 → no_ear.edge u ≡ S.edge u
  unfolding put
  no_ear_edge u differs =
      let twice = e.twice in
      let fourth : (n + 3) / 2 ≡ S.edges + 1 = omega arith in
      let sixth : (n + 5) / 2 ≡ S.edges + 2 = omega arith in
      elim (cases_eq u (S.edges + 1)) [
        | inl is ↦ let past = edge_past S s u (omega arith) in grind (arith, nat_tests)
        | inr not_first ↦ elim (cases_eq u (S.edges + 2)) [
          | inl is ↦ let past = edge_past S s u (omega arith) in grind (arith, nat_tests)
          | inr not_second ↦ let old = e.edge_other u (λ is. omega (arith, differs, is)) not_first not_second in grind (arith, nat_tests)
        ]
      ]

  no_ear_face : (h : ℕ) → Live S h → no_ear.face h ≡ S.face h
  unfolding put
  no_ear_face h live =
      let was = e.was in
      let x = e.first in
      let h_in = below h live in
      let olds = old_halves in
      by_triangle (λ y. no_ear.face y ≡ S.face y) a b c h (grind (arith, nat_tests), grind (arith, nat_tests), grind (arith, nat_tests))
      (λ off. let other = (e.others h live off).face in grind (arith, nat_tests))

  -- without both ears it is a spur
  is_spur : Spur S no_ear a n v
  unfolding put
  is_spur =
      let known = e in
      let olds = old_halves in
      let turned = turn_first in
      let half : n / 2 ≡ S.edges = omega arith in
      record {
        at = spur_at S s a n v e.was.live_x (omega arith) e.isolated e.vertex_room;
        drawn = record {
          grows = record { edge_here = grind (arith, nat_tests); edge_other = no_ear_edge; edges = omega arith; edge_below = omega arith; vertices = e.vertices };
          origin_h = e.origins.0 ∙ sym (ap S.origin e.was.next_x);
          origin_rev = ap T.origin turned ∙ e.origins.1;
          origin_other = e.origin_other;
        };
        next_a = grind (arith, nat_tests);
        next_h = grind (arith, nat_tests);
        next_rev = grind (arith, nat_tests);
        next_other = λ h live differs. let h_in = below h live in let other : Off h a b c → T.next h ≡ S.next h = λ off. (e.others h live off).next in grind (arith, nat_tests);
        prev_b = grind (arith, nat_tests);
        prev_rev = grind (arith, nat_tests);
        prev_h = grind (arith, nat_tests);
        prev_other = λ h live differs. let h_in = below h live in let other : Off h a b c → T.prev h ≡ S.prev h = λ off. (e.others h live off).prev in grind (arith, nat_tests);
        face_h = grind (arith, nat_tests);
        face_rev = grind (arith, nat_tests);
        face_other = no_ear_face;
        faces = refl;
      }

  -- a spur and two ears
  pub insert_comes : Sphere S → ComesBy (spur_added ∷ ear_cut ∷ ear_cut ∷ []) S T
  insert_comes sphere =
      let first = ear_after (spur_added ∷ []) S no_ear one_ear (n + 1) b c (n + 3) S.faces s sphere (comes_once spur_added S no_ear (a, n, v, is_spur))
      (is_ear one_ear (n + 1) b c (n + 3) S.faces n (n + 2) f first_ear) in
      ear_after (spur_added ∷ ear_cut ∷ []) S one_ear T (n + 3) c a (n + 5) (S.faces + 1) s sphere first
      (is_ear T (n + 3) c a (n + 5) (S.faces + 1) n (n + 4) f last_ear)
