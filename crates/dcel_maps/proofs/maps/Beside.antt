-- A triangle put beside a half edge, with its third corner at a vertex that had no edge: a spur and an ear.
use Rattle.std.proofs.Common.{◌≡◌, ◌≢◌, [], ◌∷◌, inl, inr, ◌+◌, ◌*◌, ◌/◌, ◌<◌, ℕ, sym, refl, ap, ◌∙◌, arith}
use Rattle.std.proofs.lemmas.Bool.{cases_eq}
use Rattle.std.proofs.lemmas.Bool.Decides.{nat_tests}
use Rattle.dcel_fixed.specs.HalfEdges.{rev}
use Rattle.dcel_maps.specs.EditLists.{ComesBy}
use Rattle.dcel_maps.specs.EditLists.EditKind.{ear_cut, spur_added}
use Rattle.dcel_maps.specs.Maps.{IsBare, Live, Map}
use Rattle.dcel_maps.specs.theory.Sound.{Sound, Sphere}
use Rattle.dcel_maps.proofs.maps.Counts.{edge_past}
use Rattle.dcel_maps.proofs.maps.Eared.{HasEar, is_ear, without_ear}
use Rattle.dcel_maps.proofs.maps.Edits.{Ear, Spur}
use Rattle.dcel_maps.proofs.maps.Growth.{spur_at}
use Rattle.dcel_maps.proofs.maps.Halves.{turn_even, turn_odd}
use Rattle.dcel_maps.proofs.maps.Lists.{comes_once, ear_after}
use Rattle.dcel_maps.proofs.maps.Soundness.{face_prev, prev_differs, next_differs}
use Rattle.dcel_maps.proofs.maps.Triangles.{Alone, IsTriangleOf, IsLinked}
use Rattle.dcel_maps.proofs.maps.Updates.{put}

-- the triangle (e, n, n + 2) is the last face, and (.. e ..) is (.. n + 3, n + 1 ..) on the face where e was; n + 1 and n + 2 start at v
pub record Beside (S T : Map) (e v n : ℕ) : Type 0 where
  pub twice : n ≡ 2 * S.edges
  pub lives : Live S e
  pub isolated : IsBare S v
  pub vertex_room : v < S.vertices
  pub triangle : IsTriangleOf T S.faces e n (n + 2)
  pub alone : Alone T S.faces e n (n + 2)
  pub at_1 : IsLinked T (S.face e) (n + 3) (n + 1) (S.next e)
  pub at_3 : IsLinked T (S.face e) (S.prev e) (n + 3) (n + 1)
  pub next_before : T.next (S.prev e) ≡ n + 3
  pub prev_after : T.prev (S.next e) ≡ n + 1
  pub next_other : (h : ℕ) → Live S h → h ≢ e → h ≢ S.prev e → T.next h ≡ S.next h
  pub prev_other : (h : ℕ) → Live S h → h ≢ e → h ≢ S.next e → T.prev h ≡ S.prev h
  pub face_other : (h : ℕ) → Live S h → h ≢ e → T.face h ≡ S.face h
  pub origins : (T.origin n ≡ S.origin (S.next e)) × (T.origin (n + 1) ≡ v) × (T.origin (n + 2) ≡ v) × (T.origin (n + 3) ≡ S.origin e)
  pub origin_other : (h : ℕ) → Live S h → T.origin h ≡ S.origin h
  pub edge_other : (u : ℕ) → u ≢ S.edges → u ≢ S.edges + 1 → T.edge u ≡ S.edge u
  pub edges : T.edges ≡ S.edges + 2
  pub vertices : T.vertices ≡ S.vertices
  pub faces : T.faces ≡ S.faces + 1

module _ (S T : Map) (e v n : ℕ) (s : Sound S) (b : Beside S T e v n) where
  below : (h : ℕ) → Live S h → h < n
  below h live = let edge = s.below_edges h live in let twice = b.twice in omega arith

  live_before : Live S (S.prev e)
  live_before = s.live_prev e b.lives

  live_after : Live S (S.next e)
  live_after = s.live_next e b.lives

  before≢e : S.prev e ≢ e
  before≢e = prev_differs S s e b.lives

  after≢e : S.next e ≢ e
  after≢e = next_differs S s e b.lives

  face_before : S.face (S.prev e) ≡ S.face e
  face_before = face_prev S s e b.lives

  -- the map without the ear
  abbrev pub before_ear : Map
  before_ear = without_ear T e n (n + 1) (n + 3) S.faces (S.prev e) (S.face e)

  has_ear : HasEar T e n (n + 1) (n + 3) S.faces (S.prev e) (n + 2) (S.face e)
  has_ear = record {
    triangle = b.triangle;
    alone = b.alone;
    turn = turn_odd (n + 3) (n + 2) (S.edges + 1) (omega (arith, b.twice)) (omega (arith, b.twice));
    stands = record {
      linked = b.at_3;
      next_k = b.next_before;
      prev_q = b.at_1.prev;
      face_k = b.face_other (S.prev e) live_before before≢e ∙ face_before;
      face_q = b.at_1.face;
    };
    other_face = λ same. omega (arith, s.below_faces e b.lives, same);
    ends = record {
      start = b.origins.3 ∙ sym (b.origin_other e b.lives);
      end = b.origins.2 ∙ sym b.origins.1;
      apart = λ same. b.isolated e b.lives (sym (b.origin_other e b.lives) ∙ same ∙ b.origins.1);
    };
    edge_below = omega (arith, b.edges, b.twice);
    face_below = omega (arith, b.faces);
  }

  spur_edge : (u : ℕ) → u ≢ n / 2 → before_ear.edge u ≡ S.edge u
  unfolding put
  spur_edge u differs =
      let twice = b.twice in
      let half : (n + 3) / 2 ≡ S.edges + 1 = omega arith in
      elim (cases_eq u (S.edges + 1)) [
        | inl is ↦ let past = edge_past S s u (omega arith) in grind (arith, nat_tests)
        | inr not_second ↦ let old = b.edge_other u (λ is. omega (arith, differs, is)) not_second in grind (arith, nat_tests)
      ]

  spur_face : (h : ℕ) → Live S h → before_ear.face h ≡ S.face h
  unfolding put
  spur_face h live =
      let h_in = below h live in
      elim (cases_eq h e) [
        | inl is ↦ grind (arith, nat_tests)
        | inr not_e ↦ let other = b.face_other h live not_e in grind (arith, nat_tests)
      ]

  pub turn_spur : rev n ≡ n + 1
  turn_spur = turn_even n (n + 1) S.edges b.twice (omega (arith, b.twice))

  -- without the ear it is a spur
  pub is_spur : Spur S before_ear e n v
  unfolding put
  is_spur =
      let twice = b.twice in
      let e_in = below e b.lives in
      let before_in = below (S.prev e) live_before in
      let after_in = below (S.next e) live_after in
      let e_after = after≢e in
      let turned = turn_spur in
      let half : n / 2 ≡ S.edges = omega arith in
      let triangle = b.triangle in
      record {
        at = spur_at S s e n v b.lives (omega arith) b.isolated b.vertex_room;
        drawn = record {
          grows = record { edge_here = grind (arith, nat_tests); edge_other = spur_edge; edges = omega (arith, b.edges); edge_below = omega (arith, b.edges); vertices = b.vertices };
          origin_h = b.origins.0;
          origin_rev = ap T.origin turned ∙ b.origins.1;
          origin_other = b.origin_other;
        };
        next_a = grind (arith, nat_tests);
        next_h = grind (arith, nat_tests);
        next_rev = let next = b.at_1.next in grind (arith, nat_tests);
        next_other = λ h live differs.
            let h_in = below h live in
            let back = s.next-prev e b.lives in
            elim (cases_eq h (S.prev e)) [
              | inl is ↦ grind (arith, nat_tests)
              | inr not_before ↦ let other = b.next_other h live differs not_before in grind (arith, nat_tests)
            ];
        prev_b = let prev = b.prev_after in grind (arith, nat_tests);
        prev_rev = grind (arith, nat_tests);
        prev_h = grind (arith, nat_tests);
        prev_other = λ h live differs.
            let h_in = below h live in
            elim (cases_eq h e) [
              | inl is ↦ grind (arith, nat_tests)
              | inr not_e ↦ let other = b.prev_other h live not_e differs in grind (arith, nat_tests)
            ];
        face_h = grind (arith, nat_tests);
        face_rev = let face = b.at_1.face in grind (arith, nat_tests);
        face_other = spur_face;
        faces = refl;
      }

  pub is_last_ear : Ear before_ear T e n (n + 1) (n + 3) S.faces
  is_last_ear = is_ear T e n (n + 1) (n + 3) S.faces (S.prev e) (n + 2) (S.face e) has_ear

  -- a spur and an ear
  pub beside_comes : Sphere S → ComesBy (spur_added ∷ ear_cut ∷ []) S T
  beside_comes sphere =
      ear_after (spur_added ∷ []) S before_ear T e n (n + 1) (n + 3) S.faces s sphere (comes_once spur_added S before_ear (e, n, v, is_spur)) is_last_ear
