-- A vertex with a border loop leaves a hole.
use Rattle.std.proofs.Common.{◌≡◌, inl, inr, ◌/◌, ◌<◌, ◌≤◌, ℕ, true, List, reverse, sym, refl, ap, ◌∙◌, subst, arith, eqb-true, eq-eqb, length}
use Rattle.std.proofs.lemmas.Bool.{both_ways, false_from_ne_true}
use Rattle.std.proofs.lemmas.List.{length-reverse}
use Rattle.dcel_maps.specs.Borders.{GivesUpRound, IsBorderLoop}
use Rattle.dcel_maps.specs.EditLists.{ComesBy, vertex_cut_off}
use Rattle.dcel_maps.specs.Maps.{Live}
use Rattle.dcel_maps.specs.Removals.{Closed, Removal, gives_up_edge, gives_up_face, gives_up_vertex}
use Rattle.dcel_maps.specs.Shapes.{IsLive, IsSound, IsSphere, Shape, face_count, face_of, map_of, next_of, origin_of}
use Rattle.dcel_maps.specs.Walking.{IsOutEdge}
use Rattle.dcel_maps.proofs.Liveness.{closed-live, is_live-parts, vertex_live-parts}
use Rattle.dcel_maps.proofs.maps.Halves.{rev_or_same}
use Rattle.dcel_maps.proofs.removal.Corners.{HoleAt, hole_at}
use Rattle.dcel_maps.proofs.removal.Holes.{HoleOf, hole_kinds-is}
use Rattle.dcel_maps.proofs.shapes.Maps.{map-sound}
use Rattle.dcel_maps.proofs.removal.Hollows.{GivesUpWithin, HollowOf, StartsOnRing, HollowBy}

module _ (s : Shape) (sound : IsSound s) (sphere : IsSphere s) (closed : s.removal ≡ Closed) (border : List ℕ) (v n : ℕ)
    (l : IsBorderLoop s border v) (removal : Removal) (gives : GivesUpRound s v removal) (above : face_count s ≤ n) where
  H : HoleAt s v (reverse border) n
  H = hole_at s sound sphere border v n l above

  abbrev hole : HoleOf (map_of s) H.map H.spokes (reverse border) n
  hole = H.is_hole

  gives_edge : (x : ℕ) → IsOutEdge s v x → gives_up_edge removal (x / 2) ≡ true
  gives_edge x out = (gives.edges (x / 2)).1 (record { half = x; out = out; is = refl })

  gives_face : (x : ℕ) → IsOutEdge s v x → gives_up_face removal (face_of s x) ≡ true
  gives_face x out = (gives.faces (face_of s x)).1 (record { half = x; out = out; is = refl })

  this_vertex : (w : ℕ) → gives_up_vertex removal w ≡ true → v ≡ w
  this_vertex w given = eqb-true v w (sym (gives.vertices w) ∙ given)

  was_live : (x : ℕ) → Live H.map x → IsLive s x
  was_live x live = let below = hole.sound.below_edges x live in closed-live s closed (x / 2) (omega (arith, below, hole.edges))

  within : GivesUpWithin s removal
  within = record {
    vertices = λ w given. subst (λ z. z < s.vertices) (this_vertex w given) (vertex_live-parts s v l.live).0;
    edges = λ u given.
        let at = (gives.edges u).0 given in
        let parts = is_live-parts (gives_up_edge s.removal) s.edges (at.half / 2) at.out.live in
        omega (arith, parts.0, at.is);
    faces = λ f given.
        let at = (gives.faces f).0 given in
        let inside = (l.triangles at.half at.out).0 in
        let below = (map-sound sound).below_faces at.half at.out.live in
        (omega (arith, inside, at.is), omega (arith, below, at.is));
    in_order = gives.in_order;
  }

  on_ring : (x : ℕ) → IsLive s x → gives_up_edge removal (x / 2) ≡ true → StartsOnRing s removal (reverse border) x
  on_ring x live given =
      let at = (gives.edges (x / 2)).0 given in
      elim (rev_or_same x at.half (sym at.is)) [
        | inl same ↦ inl (gives.vertices (origin_of s x) ∙ eq-eqb v (origin_of s x) (sym (ap (origin_of s) same ∙ at.out.start)))
        | inr turned ↦
            inr (next_of s at.half, H.along at.half (H.out at.half at.out), sound.joined at.half at.out.live ∙ ap (origin_of s) (sym turned))
      ]

  pub vertex_hollow : HollowOf s removal (reverse border) n
  vertex_hollow = record {
    map = H.map;
    within = within;
    alone = l.alone;
    on_ring = on_ring;
    sound = hole.sound;
    sphere = hole.sphere;
    cycle = hole.cycle;
    origin = hole.origin;
    bare = λ w given x live at.
        let out : IsOutEdge s v x = record { live = was_live x live; start = sym (hole.origin x) ∙ at ∙ sym (this_vertex w given) } in
        both_ways (H.map.edge (x / 2)) (hole.gone x (H.out x out)) live;
    gone = λ u given.
        let at = (gives.edges u).0 given in
        ap H.map.edge (sym at.is) ∙ hole.gone at.half (H.out at.half at.out);
    kept = λ u kept. hole.kept u (λ x found same.
        both_ways (gives_up_edge removal u) kept (subst (λ z. gives_up_edge removal z ≡ true) (sym same) (gives_edge x (H.each_out x found))));
    edge_count = hole.edges;
    vertex_count = hole.vertices;
    face_number = hole.faces;
    keeps_face = λ f off kept. hole.keeps_face f off (λ x found at.
        both_ways (gives_up_face removal f) kept (subst (λ g. gives_up_face removal g ≡ true) at (gives_face x (H.each_out x found))));
    cases = λ x live. elim (hole.cases x live) [
      | inl along ↦ inl along
      | inr away ↦ inr (false_from_ne_true (gives_up_face removal (H.map.face x)) (λ given.
          let there = (gives.faces (H.map.face x)).0 given in
          away there.half (H.out there.half there.out) there.is))
    ];
  }

  -- its spokes but one are joined away, this one is a spur then, and the face gets its number
  pub vertex_by : HollowBy s removal (reverse border) n (vertex_cut_off (length border))
  unfolding vertex_hollow
  vertex_by = record {
    hollow = vertex_hollow;
    comes = subst (λ kinds. ComesBy kinds (map_of s) H.map)
        (hole_kinds-is H.spokes (length border) (omega (arith, l.many)) (H.as_long ∙ length-reverse border)) hole.comes;
  }
