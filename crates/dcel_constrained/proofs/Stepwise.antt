-- A segment made an edge by flips, one after another: what each of them keeps.
use Rattle.std.proofs.Common.{◌≡◌, ℕ, suc, ◌/◌, ◌<◌, List, [], ◌∷◌, ◌++◌, take, drop, Some, slice_get, slice_index_or, refl, sym, ap, ◌∙◌, subst, ◌≢◌, inl, inr, ℤ, pos, ◌<ℤ◌, unsigned_abs, arith}
use Rattle.std.proofs.lemmas.Bool.{cases_eq}
use Rattle.std.proofs.lemmas.Option.{slice_get_within}
use Rattle.dcel_predicates.specs.declared.point.Point.{Point}
use Rattle.dcel_maps.specs.edits.Flip.{edge_flipped}
use Rattle.dcel_maps.specs.Shapes.{IsMesh, Mesh, Shape}
use Rattle.dcel_maps.specs.Walking.{Leads}
use Rattle.dcel_maps.specs.Words.{count_of}
use Rattle.dcel_maps.proofs.shapes.Maps.{map-sound}
use Rattle.dcel_maps.proofs.words.Counts.{count-append, count-other, count-same}
use Rattle.dcel_plane.specs.Plane.{ListsCircled, origin_point, point_at}
use Rattle.dcel_plane.specs.removal.Wheels.{CanFlipInPlane}
use Rattle.dcel_plane.specs.segments.Segments.{BecomesCrossing, HasSidesOf, IsChannel, NarrowerBefore, NotWiderAfter, TriangulatesItsHull, TurnsInto, corner_before, corner_beyond, flipped_each, orient2d_by, widths}
use Rattle.dcel_plane.proofs.segments.Channels.{all_cross}
use Rattle.dcel_plane.proofs.segments.Peaks.{empty_joins, some_width}
use Rattle.dcel_plane.proofs.segments.Stepping.{can_turn, flipped-append, lists_left, old_edge, planar_still, sides_left, step, turns-append}
use Rattle.dcel_constrained.specs.Channels.{AreLive, HasVertices, IsLeftAt, IsNarrowerBefore, IsNotWiderAfter}
use Rattle.dcel_constrained.proofs.Between.{abs_less}
use Rattle.dcel_constrained.proofs.Places.{first_after, last_before, parted}

-- what a list of half edges that cross the segment says of them
pub live_ends : {V DE UE F : Type 0} (m : Mesh V DE UE F) → IsMesh m → (at : ℕ → Point) (v w : ℕ) (list : List ℕ) → IsChannel at m.shape v w list → HasVertices m.shape v w
live_ends m mesh at v w list channel = record {
  from = subst (λ (i : ℕ). i < m.shape.vertices) channel.start.from ((map-sound mesh.sound).below_vertices channel.start.side channel.start.live);
  to = subst (λ (i : ℕ). i < m.shape.vertices) channel.end.from ((map-sound mesh.sound).below_vertices channel.end.side channel.end.live);
}

pub live_all : (at : ℕ → Point) (s : Shape) (v w : ℕ) (list : List ℕ) → IsChannel at s v w list → AreLive s list
live_all at s v w list channel h found = (all_cross at s v w channel.first channel.last list channel.leads h found).live

-- by the items beside a place
pub before_there : (at : ℕ → Point) (s : Shape) (v w : ℕ) (list : List ℕ) (place h : ℕ) → slice_get list place ≡ Some h → IsNarrowerBefore at s v w list place
    → NarrowerBefore at s v w (take place list) h
before_there at s v w list place h there narrow before k is =
    let last = last_before list place before k (slice_get_within list place h there) is in
    narrow last.0 k h last.1 last.2 there

pub after_there : (at : ℕ → Point) (s : Shape) (v w : ℕ) (list : List ℕ) (place h : ℕ) → slice_get list place ≡ Some h → IsNotWiderAfter at s v w list place
    → NotWiderAfter at s v w h (drop (suc place) list)
after_there at s v w list place h there wide k after is = wide h k there (first_after list place k after is)

-- what the signs of two offsets say of a half edge once it is flipped
module _ (at : ℕ → Point) (s : Shape) (v w h x y : ℕ) (near far : ℤ) (near_is : x ≡ corner_before s h) (far_is : y ≡ corner_beyond s h)
    (near_off : near ≡ orient2d_by at v w x) (far_off : far ≡ orient2d_by at v w y) where
  near_side : near ≡ orient2d_by at v w (corner_before s h)
  near_side = near_off ∙ ap (orient2d_by at v w) near_is

  far_side : far ≡ orient2d_by at v w (corner_beyond s h)
  far_side = far_off ∙ ap (orient2d_by at v w) far_is

  pub becomes_itself : (near <ℤ pos 0) × (pos 0 <ℤ far) → BecomesCrossing at s v w h (h ∷ [])
  becomes_itself signs = inl (subst (λ z. z <ℤ pos 0) near_side signs.0, subst (λ z. pos 0 <ℤ z) far_side signs.1, refl)

  pub becomes_nothing : ¬ ((near <ℤ pos 0) × (pos 0 <ℤ far)) → ¬ ((far <ℤ pos 0) × (pos 0 <ℤ near)) → BecomesCrossing at s v w h []
  becomes_nothing first second = inr (inr (
    λ p q. first (subst (λ z. z <ℤ pos 0) (sym near_side) p, subst (λ z. pos 0 <ℤ z) (sym far_side) q),
    λ p q. second (subst (λ z. z <ℤ pos 0) (sym far_side) q, subst (λ z. pos 0 <ℤ z) (sym near_side) p),
    refl,
  ))

module _ {DE UE F : Type 0} where
  -- flips move no vertex
  points_stay : (m : Mesh Point DE UE F) (us : List ℕ) → (flipped_each m us).vertex_data ≡ m.vertex_data
  points_stay m [] = refl
  points_stay m (u ∷ us) = points_stay (edge_flipped m u) us

  -- of `crossed` at first these are left, and the mesh has come to be `now`
  pub record IsOnWay (first : Mesh Point DE UE F) (crossed : List ℕ) (v w : ℕ) (now : Mesh Point DE UE F) (left : List ℕ) : Type 0 where
    pub planar : TriangulatesItsHull (point_at now) now
    pub channel : IsChannel (point_at now) now.shape v w left
    pub turns : TurnsInto (point_at first) first now crossed
    pub old_edges : (k : ℕ) → 0 < count_of k left → (j : ℕ) × (0 < count_of j crossed) × (j / 2 ≡ k / 2)
    pub lists : (due lacking : List ℕ) → HasSidesOf due first.shape crossed
        → HasSidesOf due now.shape left
        × (ListsCircled (point_at first) first.shape (due ++ lacking) → ListsCircled (point_at now) now.shape (due ++ lacking))

  pub begins : (first : Mesh Point DE UE F) (crossed : List ℕ) (v w : ℕ) → TriangulatesItsHull (point_at first) first → IsChannel (point_at first) first.shape v w crossed
      → IsOnWay first crossed v w first crossed
  begins first crossed v w planar channel = record {
    planar = planar;
    channel = channel;
    turns = record { turned = []; can = tt; is = refl; only = λ u there. absurd (omega (arith, there)) };
    old_edges = λ k there. (k, there, refl);
    lists = λ due lacking sides. (sides, λ lists. lists);
  }

  turned_more : (first now : Mesh Point DE UE F) (crossed : List ℕ) (u j : ℕ) → TurnsInto (point_at first) first now crossed → CanFlipInPlane (point_at now) now.shape u
      → 0 < count_of j crossed → j / 2 ≡ u → TurnsInto (point_at first) first (edge_flipped now u) crossed
  turned_more first now crossed u j turns can among is = record {
    turned = turns.turned ++ (u ∷ []);
    can =
        turns-append (point_at first) first turns.turned u turns.can
        (subst (λ d. CanFlipInPlane (λ i. slice_index_or d i origin_point) (flipped_each first turns.turned).shape u) (points_stay first turns.turned)
        (subst (λ (m : Mesh Point DE UE F). CanFlipInPlane (point_at m) m.shape u) turns.is can));
    is = ap (λ (m : Mesh Point DE UE F). edge_flipped m u) turns.is ∙ sym (flipped-append first turns.turned u);
    only = λ k there. elim (cases_eq k u) [
      | inl same ↦ (j, among, is ∙ sym same)
      | inr other ↦ turns.only k (let a = count-append k turns.turned (u ∷ []) in let b = count-other k u [] other in omega (arith, there, a, b))
    ];
  }

  -- one turn of the loop
  module _ (first : Mesh Point DE UE F) (crossed : List ℕ) (v w : ℕ) (now : Mesh Point DE UE F) (front : List ℕ) (h : ℕ) (back : List ℕ)
      (way : IsOnWay first crossed v w now (front ++ (h ∷ back))) (before : NarrowerBefore (point_at now) now.shape v w front h)
      (after : NotWiderAfter (point_at now) now.shape v w h back) (rest : List ℕ) (becomes : BecomesCrossing (point_at now) now.shape v w h rest) where
    abbrev n : Mesh Point DE UE F
    n = edge_flipped now (h / 2)

    abbrev at : ℕ → Point
    at = point_at now

    onward : IsOnWay first crossed v w n (front ++ (rest ++ back))
    onward =
        let old = old_edge at now way.planar v w front h back way.channel before after rest becomes in
        let own = way.old_edges h (let c = count-append h front (h ∷ back) in let d = count-same h back in omega (arith, c, d)) in
        record {
          planar = planar_still at now way.planar v w front h back way.channel before after;
          channel = (step at now way.planar v w front h back way.channel before after rest becomes).channel_left;
          turns = turned_more first now crossed (h / 2) own.0 way.turns (can_turn at now way.planar v w front h back way.channel before after) own.1 own.2;
          old_edges = λ k there. (let j = old k there in let i = way.old_edges j.0 j.1 in (i.0, i.1, i.2 ∙ j.2));
          lists = λ due lacking sides.
              (let held = way.lists due lacking sides in (
                sides_left at now way.planar v w front h back way.channel before after rest becomes due held.0,
                λ lists. lists_left at now way.planar v w front h back way.channel before after rest becomes due held.0 lacking (held.1 lists),
              ));
        }

    less : unsigned_abs (widths at n.shape v w (front ++ (rest ++ back))) < unsigned_abs (widths at now.shape v w (front ++ (h ∷ back)))
    less =
        let one = step at now way.planar v w front h back way.channel before after rest becomes in
        abs_less (widths at n.shape v w (front ++ (rest ++ back))) (widths at now.shape v w (front ++ (h ∷ back)))
        (some_width at n.shape v w one.channel_left.first one.channel_left.last (front ++ (rest ++ back)) one.channel_left.leads) one.narrower

  module _ (first : Mesh Point DE UE F) (crossed : List ℕ) (v w : ℕ) (now new : Mesh Point DE UE F) (left after : List ℕ) (place : ℕ)
      (way : IsOnWay first crossed v w now left) (narrow : IsNarrowerBefore (point_at now) now.shape v w left place)
      (wide : IsNotWiderAfter (point_at now) now.shape v w left place) (is : IsLeftAt now new v w left after place) where
    parts : left ≡ take place left ++ (is.half ∷ drop (suc place) left)
    parts = parted left place is.half is.there

    way_parted : IsOnWay first crossed v w now (take place left ++ (is.half ∷ drop (suc place) left))
    way_parted = subst (λ (l : List ℕ). IsOnWay first crossed v w now l) parts way

    pub goes_on : IsOnWay first crossed v w new after
    goes_on =
        subst (λ (m : Mesh Point DE UE F). IsOnWay first crossed v w m after) (sym is.flipped)
        (subst (λ (l : List ℕ). IsOnWay first crossed v w (edge_flipped now (is.half / 2)) l) (sym is.list)
        (onward first crossed v w now (take place left) is.half (drop (suc place) left) way_parted
        (before_there (point_at now) now.shape v w left place is.half is.there narrow) (after_there (point_at now) now.shape v w left place is.half is.there wide) is.rest is.becomes))

    pub goes_down : unsigned_abs (widths (point_at new) new.shape v w after) < unsigned_abs (widths (point_at now) now.shape v w left)
    goes_down =
        subst (λ (m : Mesh Point DE UE F). unsigned_abs (widths (point_at m) m.shape v w after) < unsigned_abs (widths (point_at now) now.shape v w left)) (sym is.flipped)
        (subst (λ (l : List ℕ). unsigned_abs (widths (point_at now) (edge_flipped now (is.half / 2)).shape v w l) < unsigned_abs (widths (point_at now) now.shape v w left)) (sym is.list)
        (subst (λ (l : List ℕ). unsigned_abs (widths (point_at now) (edge_flipped now (is.half / 2)).shape v w (take place left ++ (is.rest ++ drop (suc place) left)))
        < unsigned_abs (widths (point_at now) now.shape v w l)) (sym parts)
        (less first crossed v w now (take place left) is.half (drop (suc place) left) way_parted
        (before_there (point_at now) now.shape v w left place is.half is.there narrow) (after_there (point_at now) now.shape v w left place is.half is.there wide) is.rest is.becomes)))

  -- the end
  pub joined : (first : Mesh Point DE UE F) (crossed : List ℕ) (v w : ℕ) (now : Mesh Point DE UE F) (left : List ℕ) → v ≢ w → IsOnWay first crossed v w now left → left ≡ []
      → (h : ℕ) × Leads now.shape v w h
  joined first crossed v w now left differ way none =
      let edge = empty_joins now way.planar.mesh way.planar.triangles (point_at now) v w differ (subst (λ (l : List ℕ). IsChannel (point_at now) now.shape v w l) none way.channel) in
      (edge.edge, record { live = edge.live; start = edge.from; end = edge.to })

-- the half edge at a place that is wider than the one before and no narrower than the one after
pub turns_there : {DE UE F : Type 0} (m : Mesh Point DE UE F) → TriangulatesItsHull (point_at m) m → (v w : ℕ) (list : List ℕ) → IsChannel (point_at m) m.shape v w list → (place h : ℕ)
    → slice_get list place ≡ Some h → IsNarrowerBefore (point_at m) m.shape v w list place → IsNotWiderAfter (point_at m) m.shape v w list place
    → CanFlipInPlane (point_at m) m.shape (h / 2)
turns_there m planar v w list channel place h there narrow wide =
    can_turn (point_at m) m planar v w (take place list) h (drop (suc place) list)
    (subst (λ (l : List ℕ). IsChannel (point_at m) m.shape v w l) (parted list place h there) channel)
    (before_there (point_at m) m.shape v w list place h there narrow) (after_there (point_at m) m.shape v w list place h there wide)
