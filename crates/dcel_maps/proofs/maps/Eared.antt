-- A map that has an ear: a triangle beyond one of its edges, without which the map is one edge and one face less.
use Rattle.std.proofs.Common.{◌≡◌, ◌≢◌, inl, inr, ◌/◌, ◌<◌, ℕ, false, refl, sym, ap, ◌∙◌, arith}
use Rattle.std.proofs.lemmas.Bool.Decides.{nat_tests}
use Rattle.dcel_fixed.specs.HalfEdges.{rev}
use Rattle.dcel_maps.specs.Maps.{Live, Map}
use Rattle.dcel_maps.proofs.maps.Ears.{two_in}
use Rattle.dcel_maps.proofs.maps.Edits.{Ear}
use Rattle.dcel_maps.proofs.maps.Halves.{rev_half, rev_or_same}
use Rattle.dcel_maps.proofs.maps.Triangles.{Alone, IsTriangleOf, SameLinks, triangle_kept, IsLinked}
use Rattle.dcel_maps.proofs.maps.Updates.{put, put_other}

-- h stands between k and q on the face f
pub record StandsIn (T : Map) (f k h q : ℕ) : Type 0 where
  pub linked : IsLinked T f k h q
  pub open linked use {live, next as next_h, prev as prev_h, face as face_h}
  pub next_k : T.next k ≡ h
  pub prev_q : T.prev q ≡ h
  pub face_k : T.face k ≡ f
  pub face_q : T.face q ≡ f

-- h starts where p does, and its other half r where q does, which is elsewhere
pub record SpansCorner (T : Map) (p q h r : ℕ) : Type 0 where
  pub start : T.origin h ≡ T.origin p
  pub end : T.origin r ≡ T.origin q
  pub apart : T.origin p ≢ T.origin q

-- the face g is the triangle (p, n, r), and h, the other half of r, stands between k and q on the face f
pub record HasEar (T : Map) (p n q h g k r f : ℕ) : Type 0 where
  pub triangle : IsTriangleOf T g p n r
  pub alone : Alone T g p n r
  pub turn : rev h ≡ r
  pub stands : StandsIn T f k h q
  pub open stands use *
  pub other_face : f ≢ g
  pub ends : SpansCorner T p q h r
  pub open ends use *
  pub edge_below : h / 2 < T.edges
  pub face_below : g < T.faces

-- without the ear, whose face is the last one: (.. k, h, q ..) is (.. k, p, n, q ..)
abbrev pub without_ear : Map → ℕ → ℕ → ℕ → ℕ → ℕ → ℕ → ℕ → Map
without_ear T p n q h g k f = record T {
  faces = g;
  edge = put T.edge (h / 2) false;
  next = put (put T.next k p) n q;
  prev = put (put T.prev p k) q n;
  face = put (put T.face p f) n f;
}

module _ (T : Map) (p n q h g k r f : ℕ) (e : HasEar T p n q h g k r f) where
  abbrev M : Map
  M = without_ear T p n q h g k f

  -- a half edge that is live without the ear was live, and is no half of its edge
  ear_was_live : (x : ℕ) → Live M x → Live T x × (x ≢ h) × (x ≢ r)
  unfolding put
  ear_was_live x live =
      let turn = e.turn in
      let half : r / 2 ≡ h / 2 = ap (λ z. z / 2) (sym turn) ∙ rev_half h in
      (grind (arith, nat_tests), λ is. grind (arith, nat_tests), λ is. grind (arith, nat_tests))

  -- beside it, all is linked as before
  ear_off : (x : ℕ) → x ≢ k → x ≢ p → x ≢ n → x ≢ q → SameLinks T M x
  unfolding put
  ear_off x not_k not_p not_n not_q = record {
    next = grind (arith, nat_tests);
    prev = grind (arith, nat_tests);
    face = grind (arith, nat_tests);
  }

  ear_other_face : (x : ℕ) → M.face x ≢ f → T.face x ≡ M.face x
  unfolding put
  ear_other_face x elsewhere = grind (arith, nat_tests)

  still : (x : ℕ) → Live T x → x ≢ h → x ≢ r → Live M x
  still x live not_h not_r =
      put_other T.edge (h / 2) false (x / 2)
      (λ same. elim (rev_or_same x h same) [ inl is ↦ not_h is | inr is ↦ not_r (is ∙ e.turn) ]) ∙ live

  -- so the other faces stay: a triangle is one, and lies there alone
  elsewhere : (w : ℕ) → w ≢ f → w ≢ g → (x : ℕ) → Live T x → T.face x ≡ w → Live M x × SameLinks T M x
  elsewhere w not_f not_g x live at =
      let a = e.triangle in
      let apart : (y j : ℕ) → T.face y ≡ j → w ≢ j → x ≢ y = λ y j on differs same. differs (sym at ∙ ap T.face same ∙ on) in (
        still x live (apart h f e.face_h not_f) (apart r g a.face_z not_g),
        ear_off x (apart k f e.face_k not_f) (apart p g a.face_x not_g) (apart n g a.face_y not_g) (apart q f e.face_q not_f),
      )

  pub ear_keeps_triangle : (w : ℕ) → w ≢ f → w ≢ g → (x y z : ℕ) → IsTriangleOf T w x y z → IsTriangleOf M w x y z
  ear_keeps_triangle w not_f not_g x y z was =
      let (live_x, at_x) = elsewhere w not_f not_g x was.live_x was.face_x in
      let (live_y, at_y) = elsewhere w not_f not_g y was.live_y was.face_y in
      let (live_z, at_z) = elsewhere w not_f not_g z was.live_z was.face_z in
      triangle_kept T M w x y z was live_x live_y live_z at_x at_y at_z

  ear_keeps_alone : (w : ℕ) → w ≢ f → (x y z : ℕ) → Alone T w x y z → Alone M w x y z
  ear_keeps_alone w not_f x y z alone i live at =
      alone i (ear_was_live i live).0 (ear_other_face i (λ same. not_f (sym at ∙ same)) ∙ at)

  pub ear_keeps_both : (w : ℕ) → w ≢ f → w ≢ g → (x y z : ℕ) → IsTriangleOf T w x y z → Alone T w x y z → IsTriangleOf M w x y z × Alone M w x y z
  ear_keeps_both w not_f not_g x y z was alone = (ear_keeps_triangle w not_f not_g x y z was, ear_keeps_alone w not_f x y z alone)

  not_on : (x y : ℕ) → T.face x ≡ f → T.face y ≡ g → x ≢ y
  not_on x y at_f at_g same = e.other_face (sym at_f ∙ ap T.face same ∙ at_g)

  pub is_ear : Ear M T p n q h g
  unfolding put
  is_ear =
      let a = e.triangle in
      let h≢p = not_on h p e.face_h a.face_x in
      let h≢n = not_on h n e.face_h a.face_y in
      let k≢p = not_on k p e.face_k a.face_x in
      let k≢n = not_on k n e.face_k a.face_y in
      let q≢p = not_on q p e.face_q a.face_x in
      let q≢n = not_on q n e.face_q a.face_y in
      let turn = e.turn in
      let before_q : M.prev q ≡ n = grind (arith, nat_tests) in
      let apart_p : p / 2 ≢ h / 2 = λ same. elim (rev_or_same p h same) [ inl is ↦ h≢p (sym is) | inr is ↦ a.x≢z (is ∙ turn) ] in
      record {
        at = record {
          lives = grind (arith, nat_tests);
          next_p = grind (arith, nat_tests);
          next_n = grind (arith, nat_tests);
          apart = e.apart;
          fresh = grind (arith, nat_tests);
          vacant = λ x live at.
              let was = ear_was_live x live in
              let among = e.alone x was.0 in
              let other = e.other_face in
              grind (arith, nat_tests);
        };
        cut = record {
          drawn = record {
            grows = record {
              edge_here = e.live;
              edge_other = λ u differs. grind (arith, nat_tests);
              edges = omega arith;
              edge_below = e.edge_below;
              vertices = refl;
            };
            origin_h = e.start;
            origin_rev = ap T.origin turn ∙ e.end;
            origin_other = λ x live. refl;
          };
          next_to_h = grind (arith, nat_tests);
          next_h = e.next_h;
          next_to_rev = grind (arith, nat_tests);
          next_rev = ap T.next turn ∙ a.next_z;
          next_other = λ x live i j. grind (arith, nat_tests);
          prev_h = grind (arith, nat_tests);
          prev_q = e.prev_q;
          prev_rev = ap T.prev turn ∙ a.prev_z ∙ sym before_q;
          prev_p = a.prev_x ∙ sym turn;
          prev_other = λ x live i j. grind (arith, nat_tests);
          face_h = grind (arith, nat_tests);
          face_rev = ap T.face turn ∙ a.face_z;
          face_in = λ x live. two_in T.face p n x g a.face_x a.face_y;
          face_out = λ x live out. grind (arith, nat_tests);
          faces = omega (arith, e.face_below);
          face_below = e.face_below;
        };
      }

-- two triangles with the edge of h between them, which start where p does and end where q does: the second one is an ear
pub corner_ear : (T : Map) (f g k h q p n r : ℕ) → IsTriangleOf T f k h q → IsTriangleOf T g p n r → Alone T g p n r → rev h ≡ r → f ≢ g
    → SpansCorner T p q h r → h / 2 < T.edges → g < T.faces → HasEar T p n q h g k r f
corner_ear T f g k h q p n r near far alone turn differ ends edge_below face_below = record {
  triangle = far;
  alone = alone;
  turn = turn;
  stands = record { linked = near.at_y; next_k = near.next_x; prev_q = near.prev_z; face_k = near.face_x; face_q = near.face_z };
  other_face = differ;
  ends = ends;
  edge_below = edge_below;
  face_below = face_below;
}
