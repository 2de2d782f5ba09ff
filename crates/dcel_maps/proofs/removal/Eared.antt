-- A map with one more ear, as a function of the map before.
use Rattle.std.proofs.Common.{◌≡◌, ◌≢◌, ◌+◌, ◌/◌, ℕ, true, max, sym, refl, ap, ◌∙◌, arith}
use Rattle.std.proofs.lemmas.Bool.Decides.{nat_tests}
use Rattle.dcel_fixed.specs.HalfEdges.{rev}
use Rattle.dcel_maps.specs.Maps.{Live, Map}
use Rattle.dcel_maps.specs.theory.Sound.{Sound}
use Rattle.dcel_maps.proofs.maps.Ears.{EarSite, ear_site}
use Rattle.dcel_maps.proofs.maps.Edits.{Ear, EarAt}
use Rattle.dcel_maps.proofs.maps.Halves.{rev_differs}
use Rattle.dcel_maps.proofs.maps.Soundness.{apart_from}
use Rattle.dcel_maps.proofs.maps.Updates.{put}

-- p, n, q follow each other: h takes the place of p and n, and (p, n, rev h) is the face g
unfoldable pub ear : Map → ℕ → ℕ → ℕ → ℕ → ℕ → Map
ear S p n q h g = record {
  vertices = S.vertices;
  edges = max S.edges (h / 2 + 1);
  faces = max S.faces (g + 1);
  edge = put S.edge (h / 2) true;
  next = put (put (put (put S.next (S.prev p) h) h q) n (rev h)) (rev h) p;
  prev = put (put (put (put S.prev h (S.prev p)) q h) (rev h) n) p (rev h);
  origin = put (put S.origin h (S.origin p)) (rev h) (S.origin q);
  face = put (put (put (put S.face p g) n g) h (S.face q)) (rev h) g;
}

module _ (S : Map) (p n q h g : ℕ) (e : EarAt S p n q h g) (s : Sound S) where
  pub ear_is : Ear S (ear S p n q h g) p n q h g
  unfolding ear put
  ear_is =
      let c = ear_site S p n q h g s e in
      let r = rev_differs h in
      let lp = apart_from S h e.fresh p e.lives in
      let ln = apart_from S h e.fresh n c.live_n in
      let lq = apart_from S h e.fresh q c.live_q in
      let lb = apart_from S h e.fresh (S.prev p) (s.live_prev p e.lives) in
      record {
        at = e;
        cut = record {
          drawn = record {
            grows = record {
              edge_here = grind (arith, nat_tests);
              edge_other = λ u d. grind (arith, nat_tests);
              edges = omega arith;
              edge_below = omega arith;
              vertices = refl;
            };
            origin_h = grind (arith, nat_tests);
            origin_rev = grind (arith, nat_tests);
            origin_other = λ x l. let o = apart_from S h e.fresh x l in grind (arith, nat_tests);
          };
          next_to_h = grind (arith, nat_tests);
          next_h = grind (arith, nat_tests);
          next_to_rev = grind (arith, nat_tests);
          next_rev = grind (arith, nat_tests);
          next_other = λ x l d k. let o = apart_from S h e.fresh x l in grind (arith, nat_tests);
          prev_h = grind (arith, nat_tests);
          prev_q = grind (arith, nat_tests);
          prev_rev = grind (arith, nat_tests);
          prev_p = grind (arith, nat_tests);
          prev_other = λ x l d k. let o = apart_from S h e.fresh x l in grind (arith, nat_tests);
          face_h = grind (arith, nat_tests);
          face_rev = grind (arith, nat_tests);
          face_in = λ x l i. let o = apart_from S h e.fresh x l in grind (arith, nat_tests);
          face_out = λ x l i. let o = apart_from S h e.fresh x l in grind (arith, nat_tests);
          faces = omega arith;
          face_below = omega arith;
        };
      }

-- what an ear leaves, by the half edges round it
module _ (S T : Map) (p n q h g : ℕ) (e : Ear S T p n q h g) (c : EarSite S p n q) where
  pub ear_next-n : T.next n ≡ rev h
  ear_next-n = ap T.next (sym c.prev_q) ∙ e.next_to_rev

  pub ear_next-other : (x : ℕ) → Live S x → x ≢ S.prev p → x ≢ n → T.next x ≡ S.next x
  ear_next-other x live not_back not_n = e.next_other x live not_back (λ is. not_n (is ∙ c.prev_q))

  pub ear_face-h : T.face h ≡ S.face p
  ear_face-h = e.face_h ∙ c.face_q ∙ c.face_n

  pub ear_face-p : T.face p ≡ g
  ear_face-p = e.face_in p e.at.lives (grind (arith, nat_tests))

  pub ear_face-n : T.face n ≡ g
  ear_face-n = e.face_in n c.live_n (grind (arith, nat_tests))

  pub ear_face-other : (x : ℕ) → Live S x → x ≢ p → x ≢ n → T.face x ≡ S.face x
  ear_face-other x live not_p not_n = e.face_out x live (grind (arith, nat_tests))
