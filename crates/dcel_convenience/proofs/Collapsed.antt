-- The border of a vertex, from a half edge that can be collapsed.
use Rattle.std.proofs.Common.{◌≡◌, ◌≢◌, ◌∙◌, ℕ, ◌-◌, ◌<◌, ◌≤◌, List, [], ◌∷◌, length, map, reverse, refl, sym, ap, subst, arith}
use Rattle.std.proofs.lemmas.List.{length-map, length-reverse, reverse-reverse}
use Rattle.dcel_convenience.specs.Collapsing.{HasRoomToCollapse, StartsInDisc, corner_of}
use Rattle.dcel_convenience.specs.Removing.{TakesOut, border_from}
use Rattle.dcel_convenience.specs.Simple.{IsOnly}
use Rattle.dcel_fixed.proofs.Halves.{rev-half, rev-rev}
use Rattle.dcel_fixed.specs.HalfEdges.{rev}
use Rattle.dcel_maps.specs.Borders.{IsBorderLoop, StartsAlone}
use Rattle.dcel_maps.specs.Conditions.{HasRoom, IsTriangle}
use Rattle.dcel_maps.specs.Maps.{By}
use Rattle.dcel_maps.specs.Shapes.{IsLive, IsMesh, IsSound, Mesh, Shape, edge_is_live, end_of, face_of, next_of, origin_of, prev_of}
use Rattle.dcel_maps.specs.Walking.{IsOutEdge, IsRoundTrip, ListsOnce, ccw_of, cw_of, walk_of}
use Rattle.dcel_maps.specs.Words.{count_of}
use Rattle.dcel_maps.specs.theory.Cycles.{Path}
use Rattle.dcel_maps.proofs.edits.Linking.{triangle_of}
use Rattle.dcel_maps.proofs.walks.Links.{ccw-lawful, links_lawful}
use Rattle.dcel_maps.proofs.walks.Turning.{walk-out_edges}
use Rattle.dcel_maps.proofs.walks.UnderWay.{walk-round}
use Rattle.dcel_maps.proofs.words.Counts.{count-later, count-same}
use Rattle.dcel_maps.proofs.words.Mapped.{mapped_from}

-- a corner across from an edge is where the next out edge ends
pub corner-ccw : (s : Shape) (h : ℕ) → corner_of s h ≡ end_of s (ccw_of s h)
corner-ccw s h = ap (origin_of s) (sym (rev-rev (prev_of s h)))

pub corner-cw : {V DE UE F : Type 0} (m : Mesh V DE UE F) → IsMesh m → (h : ℕ) → IsLive m.shape h → IsTriangle m.shape (face_of m.shape (cw_of m.shape h))
    → corner_of m.shape (rev h) ≡ end_of m.shape (cw_of m.shape h)
corner-cw m mesh h live triangle =
    let s = m.shape in
    let turned : IsLive s (rev h) = ap (edge_is_live s) (rev-half h) ∙ live in
    let links = links_lawful mesh.sound in
    let next_live : IsLive s (cw_of s h) = links.stays (rev h) turned in
    let three = triangle_of m mesh (cw_of s h) next_live triangle in
    let back : prev_of s (rev h) ≡ next_of s (cw_of s h) = ap (prev_of s) (sym (links.back-step (rev h) turned)) ∙ three.at_z.prev in
    ap (origin_of s) back ∙ mesh.sound.joined (cw_of s h) next_live

-- where the two neighbors beside h differ, a walk around its start is three long
three_long : (s : Shape) (sound : IsSound s) (h : ℕ) → IsLive s h → end_of s (ccw_of s h) ≢ end_of s (cw_of s h)
    → (rest : List ℕ) → Path (By (ccw_of s)) h rest h → 2 ≤ length rest
three_long s sound h live apart [] back =
    absurd (apart (ap (end_of s) (back ∙ sym ((ccw-lawful sound).back-step h live) ∙ ap (cw_of s) back)))
three_long s sound h live apart (x ∷ []) (there, back) =
    absurd (apart (ap (end_of s) (there ∙ sym ((ccw-lawful sound).back-step x (subst (IsLive s) there ((ccw-lawful sound).stays h live))) ∙ ap (cw_of s) back)))
three_long s sound h live apart (x ∷ y ∷ rest) path = omega arith

module _ {V DE UE F : Type 0} (m : Mesh V DE UE F) (mesh : IsMesh m) (h : ℕ) (disc : StartsInDisc m.shape h) where
  s : Shape
  s = m.shape

  v : ℕ
  v = origin_of m.shape h

  out : IsOutEdge m.shape (origin_of m.shape h) h
  out = record { live = disc.live; start = refl }

  trip : IsRoundTrip (ccw_of m.shape) h (walk_of m.shape (ccw_of m.shape) h)
  trip = walk-round (ccw-lawful mesh.sound) h disc.live

  outs : ListsOnce (IsOutEdge m.shape (origin_of m.shape h)) (walk_of m.shape (ccw_of m.shape) h)
  outs = walk-out_edges mesh.sound (origin_of m.shape h) h out

  before_out : IsOutEdge m.shape (origin_of m.shape h) (cw_of m.shape h)
  before_out =
      let turned : IsLive m.shape (rev h) = ap (edge_is_live m.shape) (rev-half h) ∙ disc.live in
      record {
        live = (links_lawful mesh.sound).stays (rev h) turned;
        start = mesh.sound.joined (rev h) turned ∙ ap (origin_of m.shape) (rev-rev h);
      }

  two_beside : end_of m.shape (ccw_of m.shape h) ≢ end_of m.shape (cw_of m.shape h)
  two_beside is = disc.corners (corner-ccw m.shape h ∙ is ∙ sym (corner-cw m mesh h disc.live (disc.inside (cw_of m.shape h) before_out).triangle))

  -- no other half edge of the border starts where h ends
  alone : StartsAlone m.shape (next_of m.shape h ∷ map (next_of m.shape) trip.rest)
  alone y found at =
      let (k, there, is) = mapped_from (next_of m.shape) trip.rest y found in
      let k_out = outs.no_other k (rw trip.from (count-later k h trip.rest there)) in
      let ends : end_of m.shape k ≡ end_of m.shape h =
      sym (mesh.sound.joined k k_out.live) ∙ ap (origin_of m.shape) is ∙ at ∙ mesh.sound.joined h disc.live in
      let same : k ≡ h = sym (disc.single k k_out h disc.live (sym k_out.start) (sym ends)) in
      let once = trip.once h in
      omega (arith, rw trip.from at once, count-same h trip.rest, subst (λ x. 0 < count_of x trip.rest) same there)

  -- what comes after the out edges is the border loop of the start
  pub border_is_loop : IsBorderLoop m.shape (border_from m.shape h) (origin_of m.shape h)
  border_is_loop =
      let walk = walk_of m.shape (ccw_of m.shape) h in
      let ring : reverse (border_from m.shape h) ≡ map (next_of m.shape) walk = reverse-reverse (map (next_of m.shape) walk) in
      let two = three_long m.shape mesh.sound h disc.live two_beside trip.rest trip.round in
      record {
        live = mesh.sound.starts_live h disc.live;
        triangles = λ k k_out. let on = disc.inside k k_out in (on.inner, on.triangle);
        many = omega (arith, length-reverse (map (next_of m.shape) walk), length-map walk (next_of m.shape), ap length trip.from, two);
        first = h;
        out = out;
        ring = ring;
        alone = subst (StartsAlone m.shape) (sym (ring ∙ ap (map (next_of m.shape)) trip.from)) alone;
      }

-- the border from a half edge of a mesh that is lent
pub border_at : {V DE UE F : Type 0} (m lent : Mesh V DE UE F) (h k : ℕ) (border : List ℕ) → border ≡ border_from lent.shape k → lent ≡ m → k ≡ h
    → border ≡ border_from m.shape h
border_at {V} {DE} {UE} {F} m lent h k border is mesh half = is ∙ ap (λ (x : Mesh V DE UE F). border_from x.shape k) mesh ∙ ap (border_from m.shape) half

-- the room for a border, and what is taken out of it, said of that half edge
pub room_for : (s : Shape) (h : ℕ) (border : List ℕ) → border ≡ border_from s h → HasRoomToCollapse s h → HasRoom s 0 (length border - 3) (length border - 2)
room_for s h border is = subst (λ (list : List ℕ). HasRoom s 0 (length list - 3) (length list - 2)) (sym is)

pub taken_at : {V DE UE F : Type 0} (is_half : DE → Type 0) (is_edge : UE → Type 0) (is_face : F → Type 0) (old new : Mesh V DE UE F) (h v : ℕ) (border : List ℕ)
    → border ≡ border_from old.shape h → v ≡ origin_of old.shape h
    → TakesOut is_half is_edge is_face border old new v → TakesOut is_half is_edge is_face (border_from old.shape h) old new (origin_of old.shape h)
taken_at is_half is_edge is_face old new h v border is start out =
    subst (λ (list : List ℕ). TakesOut is_half is_edge is_face list old new (origin_of old.shape h)) is
    (subst (λ (w : ℕ). TakesOut is_half is_edge is_face border old new w) start out)

-- the edges at a vertex by another name of it
pub single_at : (s : Shape) (v w : ℕ) → v ≡ w → ((k : ℕ) → IsOutEdge s v k → IsOnly s k) → (k : ℕ) → IsOutEdge s w k → IsOnly s k
single_at s v w is = subst (λ (x : ℕ). (k : ℕ) → IsOutEdge s x k → IsOnly s k) is
