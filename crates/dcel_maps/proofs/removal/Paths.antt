-- A path: a sound sphere with one or two out edges at each vertex.
use Rattle.std.proofs.Common.{◌≡◌, ◌≢◌, ◌↔◌, ◌⊎◌, inl, inr, ◌+◌, ◌<◌, ℕ, true, sym, refl, ap, ◌∙◌, subst, arith, Option, Some}
use Rattle.std.proofs.lemmas.Bool.{cases_eq}
use Rattle.dcel_fixed.specs.HalfEdges.{rev}
use Rattle.dcel_maps.specs.Degenerate.{HasFewOutEdges, IsOutPair, IsPath}
use Rattle.dcel_maps.specs.Maps.{By, Map, NextOrRev, ccw, starts_edge}
use Rattle.dcel_maps.specs.Removals.{Closed, gives_up_face}
use Rattle.dcel_maps.specs.Shapes.{AnchorsVertex, IsLive, IsSound, IsSphere, Shape, edge_is_live, end_of, face_count, face_is_live, map_of, next_of, origin_of, prev_of}
use Rattle.dcel_maps.specs.Walking.{IsOutEdge, ccw_of}
use Rattle.dcel_maps.specs.theory.Sound.{Sound}
use Rattle.dcel_maps.proofs.Liveness.{closed-live, gives_up_face-closed, is_live-from}
use Rattle.dcel_maps.proofs.maps.Counts.{used_from, count_all}
use Rattle.dcel_maps.proofs.maps.Halves.{rev-rev}
use Rattle.dcel_maps.proofs.maps.Reaching.{reaches_stays}
use Rattle.dcel_maps.proofs.maps.Soundness.{ccw_live, rev_live, same_origin_reaches, vertex_cycles}
use Rattle.dcel_maps.proofs.shapes.Maps.{map-sound}

-- an anchor is an out edge
pub out_anchor : (s : Shape) (v : ℕ) (o : Option ℕ) (h : ℕ) → o ≡ Some h → AnchorsVertex s v o → IsOutEdge s v h
out_anchor s v o h some anchors =
    let at : AnchorsVertex s v (Some h) = subst (AnchorsVertex s v) some anchors in record { live = at.0; start = at.1 }

-- v has one or two out edges just where turning twice leads from one of them to itself
module _ (s : Shape) (sound : IsSound s) (v a : ℕ) (out : IsOutEdge s v a) where
  map_sound : Sound (map_of s)
  map_sound = map-sound sound

  pub turned_pair : (x : ℕ) → IsOutEdge s v x → IsOutEdge s v (ccw_of s x)
  unfolding ccw
  turned_pair x o = record { live = ccw_live (map_of s) map_sound x o.live; start = (vertex_cycles (map_of s) map_sound).along x o.live ∙ o.start }

  apart_turned : (x y : ℕ) → IsLive s x → IsLive s y → ccw_of s x ≡ ccw_of s y → x ≡ y
  apart_turned x y live_x live_y same =
      let back : prev_of s x ≡ prev_of s y = sym (rev-rev (prev_of s x)) ∙ ap rev same ∙ rev-rev (prev_of s y) in
      sym (map_sound.next-prev x live_x) ∙ ap (next_of s) back ∙ map_sound.next-prev y live_y

  pub pair_returns : HasFewOutEdges s v → ccw_of s (ccw_of s a) ≡ a
  pair_returns (h, k, pair) =
      let b = ccw_of s a in
      let c = ccw_of s b in
      let out_b = turned_pair a out in
      let at_a = pair.only a out in
      let at_b = pair.only b out_b in
      let at_c = pair.only c (turned_pair b out_b) in
      elim (cases_eq a b) [
        | inl same ↦ ap (ccw_of s) (sym same) ∙ sym same
        | inr other ↦ elim (cases_eq c b) [
          | inl i ↦ absurd (other (sym (apart_turned b a out_b.live out.live i)))
          | inr d ↦ grind arith
        ]
      ]

  pub returned_pair : ccw_of s (ccw_of s a) ≡ a → IsOutPair s v a (ccw_of s a)
  unfolding ccw
  returned_pair back = record {
    first = out;
    second = turned_pair a out;
    only = λ x o.
        reaches_stays (By (ccw (map_of s))) (λ z. (z ≡ a) ⊎ (z ≡ ccw_of s a))
        (λ y z i r. elim i [ inl j ↦ inr (sym r ∙ ap (ccw_of s) j) | inr j ↦ inl (sym r ∙ ap (ccw_of s) j ∙ back) ])
        (inl refl) (same_origin_reaches (map_of s) map_sound a x out.live o.live (out.start ∙ sym o.start));
  }

  pub few_iff : (ccw_of s (ccw_of s a) ≡ a) ↔ HasFewOutEdges s v
  few_iff = (λ back. (a, ccw_of s a, returned_pair back), pair_returns)

module _ (s : Shape) (sound : IsSound s) (sphere : IsSphere s) (path : IsPath s) where
  abbrev pub M : Map
  M = map_of s

  pub t : Sound M
  t = map-sound sound

  -- what holds of one half edge, and goes on by `next` and `rev`, holds of each
  pub spreads : (P : ℕ → Type 0) → (x : ℕ) → IsLive s x → P x → ((y : ℕ) → P y → P (next_of s y)) → ((y : ℕ) → P y → P (rev y))
      → (y : ℕ) → IsLive s y → P y
  spreads P x live holds next turn y live_y =
      reaches_stays (NextOrRev M) P
      (λ a b p r. elim r [ inl i ↦ subst P i (next a p) | inr i ↦ subst P i (turn a p) ]) holds
      (sphere.connected x y live live_y)

  -- two vertices are not all of three
  pub not_two : 2 < s.vertices → (v w : ℕ) → ((x : ℕ) → IsLive s x → (origin_of s x ≡ v) ⊎ (origin_of s x ≡ w)) → ⊥
  not_two many v w all =
      let at : (k : ℕ) → k < s.vertices → (k ≡ v) ⊎ (k ≡ w) = λ k below.
      let (h, j, pair) = path.few k below in
      elim (all h pair.first.live) [ inl i ↦ inl (sym pair.first.start ∙ i) | inr i ↦ inr (sym pair.first.start ∙ i) ] in
      let at0 = at 0 (omega arith) in
      let at1 = at 1 (omega arith) in
      let at2 = at 2 (omega arith) in
      grind arith

  -- where no removal is open, there is one edge less than there are vertices
  pub edge_count : s.removal ≡ Closed → 0 < s.edges → s.edges + 1 ≡ s.vertices
  unfolding starts_edge
  edge_count closed some =
      let live : (u : ℕ) → u < s.edges → edge_is_live s u ≡ true = closed-live s closed in
      let faces : (f : ℕ) → f < face_count s → face_is_live s f ≡ true = λ f below.
      is_live-from (gives_up_face s.removal) (face_count s) f below (ap (λ r. gives_up_face r f) closed ∙ gives_up_face-closed f) in
      let starts : (v : ℕ) → v < s.vertices → starts_edge M v ≡ true = λ v below.
      let (h, k, pair) = path.few v below in
      used_from M t (origin_of s) v record { half = h; live = pair.first.live; is = pair.first.start } in
      omega (
        arith,
        sphere.euler 0 (live 0 some),
        path.one_face,
        count_all (starts_edge M) s.vertices starts,
        count_all (face_is_live s) (face_count s) faces,
        count_all (edge_is_live s) s.edges live,
      )

  module _ (v a : ℕ) (within : v < s.vertices) (out : IsOutEdge s v a) where
    -- the out edge after a, by `ccw`
    abbrev pub b : ℕ
    b = ccw_of s a

    pub out_b : IsOutEdge s v b
    out_b = turned_pair s sound v a out a out

    -- and the one after that is a again
    pub ccw_b : ccw_of s b ≡ a
    ccw_b = pair_returns s sound v a out (path.few v within)

    -- so v has the out edges a and b alone
    pub only_two : (x : ℕ) → IsOutEdge s v x → (x ≡ a) ⊎ (x ≡ b)
    only_two = (returned_pair s sound v a out ccw_b).only

    -- each comes in before the other goes out
    pub prev_a : prev_of s a ≡ rev b
    prev_a = sym (rev-rev (prev_of s a))

    pub prev_b : prev_of s b ≡ rev a
    prev_b = sym (rev-rev (prev_of s b)) ∙ ap rev ccw_b

    pub next_rev_a : next_of s (rev a) ≡ b
    next_rev_a = ap (next_of s) (sym prev_b) ∙ t.next-prev b out_b.live

    pub next_rev_b : next_of s (rev b) ≡ a
    next_rev_b = ap (next_of s) (sym prev_a) ∙ t.next-prev a out.live

    -- at an end of a path of three vertices or more, the other end of the edge goes on
    pub goes_on : 2 < s.vertices → a ≡ b → next_of s a ≢ rev a
    goes_on many one back =
        not_two many v (end_of s a) (λ x live. elim
        (spreads (λ z. (z ≡ a) ⊎ (z ≡ rev a)) a out.live (inl refl)
        (λ y i. elim i [ inl j ↦ inr (ap (next_of s) j ∙ back) | inr j ↦ inl (ap (next_of s) j ∙ next_rev_a ∙ sym one) ])
        (λ y i. elim i [ inl j ↦ inr (ap rev j) | inr j ↦ inl (ap rev j ∙ rev-rev a) ]) x live) [
          | inl i ↦ inl (ap (origin_of s) i ∙ out.start)
          | inr i ↦ inr (ap (origin_of s) i)
        ])

    -- and at a middle vertex the two edges have two other ends
    pub ends_differ : 2 < s.vertices → a ≢ b → end_of s a ≢ end_of s b
    ends_differ many other same =
        let w = end_of s a in
        let live_ra = rev_live M a out.live in
        let live_rb = rev_live M b out_b.live in
        let (h, k, pair) = path.few w (t.below_vertices (rev a) live_ra) in
        let at_ra = pair.only (rev a) record { live = live_ra; start = refl } in
        let at_rb = pair.only (rev b) record { live = live_rb; start = sym same } in
        let apart : rev a ≢ rev b = λ i. other (sym (rev-rev a) ∙ ap rev i ∙ rev-rev b) in
        let at_w : (x : ℕ) → IsLive s x → origin_of s x ≡ w → (x ≡ rev a) ⊎ (x ≡ rev b) = λ x live at.
        let at_x = pair.only x record { live = live; start = at } in grind arith in
        let after : (x : ℕ) → IsLive s x → end_of s x ≡ w → (next_of s x ≡ rev a) ⊎ (next_of s x ≡ rev b) = λ x live at.
        at_w (next_of s x) (t.live_next x live) (t.origin-next x live ∙ at) in
        let Both = λ (z : ℕ). (((z ≡ a) ⊎ (z ≡ b)) ⊎ ((z ≡ rev a) ⊎ (z ≡ rev b))) in
        not_two many v w (λ x live. elim
        (spreads Both a out.live (inl (inl refl))
        (λ y i. elim i [
          | inl (inl j) ↦ inr (subst (λ z. (next_of s z ≡ rev a) ⊎ (next_of s z ≡ rev b)) (sym j) (after a out.live refl))
          | inl (inr j) ↦ inr (subst (λ z. (next_of s z ≡ rev a) ⊎ (next_of s z ≡ rev b)) (sym j) (after b out_b.live (sym same)))
          | inr (inl j) ↦ inl (inr (ap (next_of s) j ∙ next_rev_a))
          | inr (inr j) ↦ inl (inl (ap (next_of s) j ∙ next_rev_b))
        ])
        (λ y i. elim i [
          | inl (inl j) ↦ inr (inl (ap rev j))
          | inl (inr j) ↦ inr (inr (ap rev j))
          | inr (inl j) ↦ inl (inl (ap rev j ∙ rev-rev a))
          | inr (inr j) ↦ inl (inr (ap rev j ∙ rev-rev b))
        ]) x live) [
          | inl (inl i) ↦ inl (ap (origin_of s) i ∙ out.start)
          | inl (inr i) ↦ inl (ap (origin_of s) i ∙ out_b.start)
          | inr (inl i) ↦ inr (ap (origin_of s) i)
          | inr (inr i) ↦ inr (ap (origin_of s) i ∙ sym same)
        ])
