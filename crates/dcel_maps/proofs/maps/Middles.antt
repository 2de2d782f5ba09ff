-- A vertex put into an edge and joined to the corner across of a triangle beside it: what splits of a half edge and of an edge share.
use Rattle.std.proofs.Common.{◌≡◌, ◌≢◌, ◌*◌, ◌/◌, ◌<◌, ◌≤◌, ℕ, sym, ap, ◌∙◌, subst, arith}
use Rattle.dcel_fixed.specs.HalfEdges.{rev}
use Rattle.dcel_maps.specs.Maps.{IsBare, Live, Map}
use Rattle.dcel_maps.specs.theory.Sound.{Sound}
use Rattle.dcel_maps.proofs.maps.Between.{StartsBetween}
use Rattle.dcel_maps.proofs.maps.Eared.{HasEar, corner_ear}
use Rattle.dcel_maps.proofs.maps.Edits.{SpurAt}
use Rattle.dcel_maps.proofs.maps.Growth.{spur_at}
use Rattle.dcel_maps.proofs.maps.Soundness.{rev_live}
use Rattle.dcel_maps.proofs.maps.Triangles.{Alone, IsTriangleOf, Off, off_face}

-- the vertex v put into e, with the half edges from n on: e becomes (e, k), and its other half t becomes (l, t); (e, a, b) on the face f
-- becomes (e, h, b), and (k, a, r) with the other half r of h is the new face w
pub record Joined (S T : Map) (f w e a b t v n h r k l : ℕ) : Type 0 where
  pub twice : n ≡ 2 * S.edges
  pub turn : rev e ≡ t
  pub turn_spoke : rev h ≡ r
  pub turn_part : rev k ≡ l
  pub was : IsTriangleOf S f e a b
  pub elsewhere : S.face t ≢ f
  pub isolated : IsBare S v
  pub vertex_room : v < S.vertices
  pub first : IsTriangleOf T f e h b
  pub last : IsTriangleOf T w k a r
  pub last_alone : Alone T w k a r
  pub origin_h : T.origin h ≡ v
  pub origin_r : T.origin r ≡ S.origin b
  pub origin_k : T.origin k ≡ v
  pub origin_l : T.origin l ≡ S.origin t
  pub origin_t : T.origin t ≡ v
  pub origin_other : (x : ℕ) → Live S x → x ≢ t → T.origin x ≡ S.origin x
  pub vertices : T.vertices ≡ S.vertices

module _ (S T : Map) (f w e a b t v n h r k l : ℕ) (s : Sound S) (x : Joined S T f w e a b t v n h r k l) where
  pub joined_below : (y : ℕ) → Live S y → y < n
  joined_below y live = let edge = s.below_edges y live in let twice = x.twice in omega arith

  pub joined_live : Live S t
  joined_live = subst (Live S) x.turn (rev_live S e x.was.live_x)

  pub joined_off : Off t e a b
  joined_off = off_face S f e a b x.was t x.elsewhere

  pub joined_face : f < S.faces
  joined_face = let within = s.below_faces e x.was.live_x in omega (arith, within, x.was.face_x)

  origin_b : T.origin b ≡ S.origin b
  origin_b = x.origin_other b x.was.live_z (λ is. joined_off.2 (sym is))

  -- the new triangle is an ear of the other one
  pub joined_ear : S.faces ≤ w → h / 2 < T.edges → w < T.faces → HasEar T k a b h w e r f
  joined_ear new edge_below face_below =
      corner_ear T f w e h b k a r x.first x.last x.last_alone x.turn_spoke (λ same. omega (arith, joined_face, same, new))
      (record {
        start = x.origin_h ∙ sym x.origin_k;
        end = x.origin_r ∙ sym origin_b;
        apart = λ same. x.isolated b x.was.live_z (sym origin_b ∙ sym same ∙ x.origin_k);
      })
      edge_below face_below

  -- and the parts of e and t are those of a subdivision
  pub joined_at : S.edges ≤ k / 2 → SpurAt S e k v
  joined_at new = spur_at S s e k v x.was.live_x new x.isolated x.vertex_room

  pub joined_leads_on : S.next e ≢ rev e
  joined_leads_on is = joined_off.1 (sym x.turn ∙ sym is ∙ x.was.next_x)

  pub joined_starts : StartsBetween S T.origin e k v
  joined_starts = record {
    origin_k = x.origin_k;
    origin_l = ap T.origin x.turn_part ∙ x.origin_l ∙ ap S.origin (sym x.turn);
    origin_rev = ap T.origin x.turn ∙ x.origin_t;
    origin_other = λ y live not_t. x.origin_other y live (λ is. not_t (is ∙ sym x.turn));
  }
