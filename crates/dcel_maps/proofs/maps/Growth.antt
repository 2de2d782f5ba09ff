-- What the edits that add an edge share.
use Rattle.std.proofs.Common.{◌≡◌, ◌≢◌, ◌⊎◌, inl, inr, ◌+◌, ◌/◌, ◌<◌, ◌≤◌, ℕ, true, false, sym, refl, ap, ◌∙◌, subst, arith}
use Rattle.std.proofs.lemmas.Bool.{cases_eq}
use Rattle.dcel_maps.specs.Maps.{Connected, IsBare, Live, Map, NextOrRev, Reaches, ccw, count, starts_edge}
use Rattle.dcel_maps.specs.theory.Sound.{Sound, Sphere, has_word}
use Rattle.dcel_fixed.specs.HalfEdges.{rev}
use Rattle.dcel_maps.specs.Maps.Reaches.{go, here}
use Rattle.dcel_maps.proofs.maps.Counts.{Used, count_more, count_past, edge_past, labels_more, labels_same}
use Rattle.dcel_maps.proofs.maps.Cycles.{Cycles}
use Rattle.dcel_maps.proofs.maps.Edits.{Drawn, Grows, SpurAt}
use Rattle.dcel_maps.proofs.maps.Halves.{both_halves, rev-rev, rev_half, rev_or_same}
use Rattle.dcel_maps.proofs.maps.Reaching.{reroutes, step, then}
use Rattle.dcel_maps.proofs.maps.Soundness.{apart_from, live_step, not_of_dead, rev_live, sound_from}

-- an edge past those of the map can lead from a live half edge to a vertex without edges
pub spur_at : (S : Map) → Sound S → (a h v : ℕ) → Live S a → S.edges ≤ h / 2 → IsBare S v → v < S.vertices → SpurAt S a h v
spur_at S s a h v live new isolated vertex_room = record {
  lives = live;
  fresh = edge_past S s (h / 2) new;
  isolated = isolated;
  vertex_room = vertex_room;
}

-- a map of which one edge is taken away grows by it
pub grows_back : (S T : Map) (h : ℕ) → Sound T → Live T h → ((u : ℕ) → u ≢ h / 2 → S.edge u ≡ T.edge u) → S.edges ≡ T.edges
    → S.vertices ≡ T.vertices → Grows S T h
grows_back S T h t live other edges vertices = record {
  edge_here = live;
  edge_other = λ u differs. sym (other u differs);
  edges = omega (arith, edges);
  edge_below = t.below_edges h live;
  vertices = sym vertices;
}

-- T has the edge of h, which is not in S, and the edges of S
pub record Grown (S T : Map) (h : ℕ) : Type 0 where
  pub fresh : S.edge (h / 2) ≡ false
  pub grows : Grows S T h
  pub open grows use *

-- the live half edges of S, and h
abbrev pub Also : Map → ℕ → ℕ → Type 0
Also S h x = Live S x ⊎ (x ≡ h)

module _ (S T : Map) (h : ℕ) (g : Grown S T h) where
  -- an old half edge is not of the new edge
  pub not_new_edge : (x : ℕ) → Live S x → x / 2 ≢ h / 2
  not_new_edge = not_of_dead S h g.fresh

  -- so it is not h, and not its other half
  pub not_h : (x : ℕ) → Live S x → x ≢ h
  not_h x l = (apart_from S h g.fresh x l).0

  pub not_rev : (x : ℕ) → Live S x → x ≢ rev h
  not_rev x l = (apart_from S h g.fresh x l).1

  -- what was live still is
  pub still_live : (x : ℕ) → Live S x → Live T x
  still_live x l = g.edge_other (x / 2) (not_new_edge x l) ∙ l

  -- what was live still is, and is no half of the new edge
  pub record StayOn : Type 0 where
    pub still : (x : ℕ) → Live S x → Live T x
    pub apart : (x : ℕ) → Live S x → x ≢ h
    pub apart_rev : (x : ℕ) → Live S x → x ≢ rev h

  pub stay_on : StayOn
  stay_on = record { still = still_live; apart = not_h; apart_rev = not_rev }

  -- a live half edge is an old one, h or its other half
  pub live_cases : (x : ℕ) → Live T x → Live S x ⊎ ((x ≡ h) ⊎ (x ≡ rev h))
  live_cases x l = elim (cases_eq (x / 2) (h / 2)) [
    | inl e ↦ inr (rev_or_same x h e)
    | inr d ↦ inl (sym (g.edge_other (x / 2) d) ∙ l)
  ]

  -- a live half edge is an old one or h, or the other half of h
  pub also_cases : (x : ℕ) → Live T x → Also S h x ⊎ (x ≡ rev h)
  also_cases x l = elim (live_cases x l) [ inl m ↦ inl (inl m) | inr (inl e) ↦ inl (inr e) | inr (inr e) ↦ inr e ]

  -- the old ones and h are live
  pub also_live : (x : ℕ) → Also S h x → Live T x
  also_live x l = elim l [ inl m ↦ still_live x m | inr e ↦ subst (λ z. Live T z) (sym e) g.edge_here ]

  -- what holds of the old half edges, of h and of its other half, holds of each
  pub each_live : (Q : ℕ → Type 0) → ((x : ℕ) → Live S x → Q x) → Q h → Q (rev h) → (x : ℕ) → Live T x → Q x
  each_live Q old at_h at_rev x l = elim (cases_eq (x / 2) (h / 2)) [
    | inl e ↦ both_halves Q h at_h at_rev x e
    | inr d ↦ old x (sym (g.edge_other (x / 2) d) ∙ l)
  ]

  -- there is one live edge more
  pub grown_edges : Sound S → count T.edge T.edges ≡ count S.edge S.edges + 1
  grown_edges s =
      count_more S.edge T.edge T.edges (h / 2) g.edge_below g.fresh g.edge_here (λ j l d. sym (g.edge_other j d))
      ∙ ap (λ z. z + 1) (count_past S.edge S.edges T.edges g.edges (edge_past S s))

-- T has one live edge more than S, and one more of the vertices that start an edge and the faces with a word
pub record OneMore (S T : Map) : Type 0 where
  pub edges : count T.edge T.edges ≡ count S.edge S.edges + 1
  pub corners : count (starts_edge T) T.vertices + count (has_word T) T.faces ≡ count (starts_edge S) S.vertices + count (has_word S) S.faces + 1

-- so Euler's formula holds of both or of neither
pub sphere_more : (S T : Map) → OneMore S T → (u : ℕ) → S.edge u ≡ true → Sphere S → Connected T → Sphere T
sphere_more S T e u l m c = record { connected = c; euler = λ v k. omega (arith, e.edges, e.corners, m.euler u l) }

pub sphere_less : (S T : Map) → OneMore S T → (u : ℕ) → T.edge u ≡ true → Sphere T → Connected S → Sphere S
sphere_less S T e u l m c = record { connected = c; euler = λ v k. omega (arith, e.edges, e.corners, m.euler u l) }

-- where r x in T stands for x in S
pub connected_by : (S T : Map) (r : ℕ → ℕ) → Sound S → Connected S
    → ((x y : ℕ) → Live S x → NextOrRev S x y → Reaches (NextOrRev T) (r x) (r y))
    → ((x : ℕ) → Live T x → (u : ℕ) × Live S u × Reaches (NextOrRev T) x (r u))
    → ((x : ℕ) → Live T x → (u : ℕ) × Live S u × Reaches (NextOrRev T) (r u) x) → Connected T
connected_by S T r s c steps into out_of x y lx ly =
    let i = into x lx in
    let o = out_of y ly in
    then i.2 (then (reroutes (NextOrRev S) (NextOrRev T) (Live S) r (live_step S s) steps i.1 (c i.0 o.0 i.1 o.1)) o.2)

-- where each old `next` can be gone, an old half edge is reached from h, and h from one
pub connected_on : (S T : Map) (h : ℕ) → Grown S T h → Sound S → ((x : ℕ) → Live S x → Reaches (NextOrRev T) x (S.next x))
    → ((u : ℕ) × Live S u × Reaches (NextOrRev T) h u) → ((u : ℕ) × Live S u × Reaches (NextOrRev T) u h) → Connected S → Connected T
connected_on S T h g s nexts out_of into c =
    connected_by S T (λ z. z) s c
    (λ x y l r. elim r [ inl i ↦ subst (λ z. Reaches (NextOrRev T) x z) i (nexts x l) | inr i ↦ step (inr i) ])
    (each_live S T h g (λ x. (u : ℕ) × Live S u × Reaches (NextOrRev T) x u)
    (λ x l. (x, l, here)) out_of (out_of.0, out_of.1, go (inr (rev-rev h)) out_of.2))
    (each_live S T h g (λ x. (u : ℕ) × Live S u × Reaches (NextOrRev T) u x)
    (λ x l. (x, l, here)) into (into.0, into.1, then into.2 (step (inr refl))))

module _ (S T : Map) (h from to : ℕ) (fresh : S.edge (h / 2) ≡ false) (e : Drawn S T h from to) where
  -- the edge is new
  pub drawn_grown : Grown S T h
  drawn_grown = record { fresh = fresh; grows = e.grows }

  module _ (s : Sound S) where
    -- a map with an edge drawn between two vertices is sound by its links and its faces
    pub drawn_sound : from < S.vertices → to < S.vertices → from ≢ to → ((x : ℕ) → Live T x → T.face x < T.faces)
        → ((x : ℕ) → Live T x → T.prev (T.next x) ≡ x) → ((x : ℕ) → Live T x → T.next (T.prev x) ≡ x)
        → Cycles (Live T) T.next T.face → Cycles (Live T) (ccw T) T.origin → Sound T
    drawn_sound from_in to_in apart below_faces prev-next next-prev faces vertices =
        sound_from T
        (each_live S T h drawn_grown (λ x. x / 2 < T.edges) (λ x l. omega (arith, s.below_edges x l, e.edges))
        e.edge_below (omega (arith, e.edge_below, rev_half h)))
        (each_live S T h drawn_grown (λ x. T.origin x < T.vertices)
        (λ x l. omega (arith, s.below_vertices x l, e.vertices, e.origin_other x l))
        (omega (arith, e.vertices, e.origin_h)) (omega (arith, e.vertices, e.origin_rev)))
        below_faces prev-next next-prev
        (each_live S T h drawn_grown (λ x. T.origin x ≢ T.origin (rev x))
        (λ x l i. s.two_ends x l (sym (e.origin_other x l) ∙ i ∙ e.origin_other (rev x) (rev_live S x l)))
        (λ i. apart (sym e.origin_h ∙ i ∙ e.origin_rev))
        (λ i. apart (sym e.origin_h ∙ ap T.origin (sym (rev-rev h)) ∙ sym i ∙ e.origin_rev)))
        faces vertices

    module _ (t : Sound T) where
      still_starts : (x : ℕ) → Live S x → Used T T.origin (S.origin x)
      still_starts x l = record { half = x; live = still_live S T h drawn_grown x l; is = e.origin_other x l }

      started : (x : ℕ) → Live S x → Used S S.origin (T.origin x)
      started x l = record { half = x; live = l; is = sym (e.origin_other x l) }

      -- an edge between two vertices that start edges starts at no other
      pub starts_same : (x y : ℕ) → Live S x → Live S y → S.origin x ≡ from → S.origin y ≡ to
          → count (starts_edge T) T.vertices ≡ count (starts_edge S) S.vertices
      unfolding starts_edge
      starts_same x y l m i j =
          labels_same S T s t S.origin T.origin S.vertices T.vertices (omega (arith, e.vertices)) s.below_vertices still_starts
          (each_live S T h drawn_grown (λ x. Used S S.origin (T.origin x)) started
          (record { half = x; live = l; is = i ∙ sym e.origin_h }) (record { half = y; live = m; is = j ∙ sym e.origin_rev }))

      -- an edge to a vertex that starts none makes it one that does
      pub starts_more : (x : ℕ) → Live S x → S.origin x ≡ from → to < S.vertices → ((x : ℕ) → Live S x → S.origin x ≢ to)
          → count (starts_edge T) T.vertices ≡ count (starts_edge S) S.vertices + 1
      unfolding starts_edge
      starts_more x l i to_in isolated =
          labels_more S T s t S.origin T.origin S.vertices T.vertices (omega (arith, e.vertices)) s.below_vertices still_starts
          to (omega (arith, e.vertices)) isolated (record { half = rev h; live = rev_live T h e.edge_here; is = e.origin_rev })
          (each_live S T h drawn_grown (λ x. T.origin x ≢ to → Used S S.origin (T.origin x)) (λ x l d. started x l)
          (λ d. record { half = x; live = l; is = i ∙ sym e.origin_h }) (λ d. absurd (d e.origin_rev)))
