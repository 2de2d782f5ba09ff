-- A map without one of its spurs: what it links, and that it is sound and a sphere.
use Rattle.std.proofs.Common.{◌≡◌, ◌≢◌, inl, inr, ◌/◌, ℕ, true, false, sym, refl, ap, ◌∙◌, arith}
use Rattle.std.proofs.lemmas.Bool.Decides.{nat_tests}
use Rattle.dcel_fixed.specs.HalfEdges.{rev}
use Rattle.dcel_maps.specs.EditLists.{Edit}
use Rattle.dcel_maps.specs.EditLists.EditKind.{spur_dropped}
use Rattle.dcel_maps.specs.Maps.{By, Live, Map, ccw}
use Rattle.dcel_maps.specs.theory.Sound.{Sound, Sphere}
use Rattle.dcel_maps.proofs.maps.Halves.{rev-rev, rev_half, rev_or_same}
use Rattle.dcel_maps.proofs.maps.Reaching.{reaches_stays}
use Rattle.dcel_maps.proofs.maps.Soundness.{face_cycles, next_differs, rev_live}
use Rattle.dcel_maps.proofs.maps.Updates.{put}
use Rattle.dcel_maps.proofs.maps.Unspurs.{Unspur, unspur_keeps}
use Rattle.dcel_maps.proofs.maps.Growth.{grows_back}

-- the edge of h, which leads to the tip of a spur, is taken away
unfoldable pub spur_away : Map → ℕ → Map
spur_away T h = record T {
  edge = put T.edge (h / 2) false;
  next = put T.next (T.prev h) (T.next (rev h));
  prev = put T.prev (T.next (rev h)) (T.prev h);
}

-- the half edges round a spur: a, h to its tip, k back, b
record Tip (T : Map) (h k a b : ℕ) : Type 0 where
  turn : rev h ≡ k
  next_h : T.next h ≡ k
  prev_h : T.prev h ≡ a
  next_k : T.next k ≡ b
  next_a : T.next a ≡ h
  prev_b : T.prev b ≡ k
  prev_k : T.prev k ≡ h
  face_a : T.face h ≡ T.face a
  face_k : T.face k ≡ T.face a
  start : T.origin h ≡ T.origin b
  a≢h : a ≢ h
  a≢k : a ≢ k
  b≢h : b ≢ h
  b≢k : b ≢ k
  half : k / 2 ≡ h / 2
  lives : T.edge (h / 2) ≡ true

tip : (T : Map) (h : ℕ) → Sound T → Live T h → T.next h ≡ rev h → T.next (rev h) ≢ h → Tip T h (rev h) (T.prev h) (T.next (rev h))
tip T h s live turns more =
    let k = rev h in
    let live_k = rev_live T h live in
    let along = (face_cycles T s).along in
    let face_h : T.face h ≡ T.face (T.prev h) = ap T.face (sym (s.next-prev h live)) ∙ along (T.prev h) (s.live_prev h live) in
    record {
      turn = refl;
      next_h = turns;
      prev_h = refl;
      next_k = refl;
      next_a = s.next-prev h live;
      prev_b = s.prev-next k live_k;
      prev_k = ap T.prev (sym turns) ∙ s.prev-next h live;
      face_a = face_h;
      face_k = ap T.face (sym turns) ∙ along h live ∙ face_h;
      start = sym (s.origin-next k live_k ∙ ap T.origin (rev-rev h));
      a≢h = λ i. next_differs T s h live (ap T.next (sym i) ∙ s.next-prev h live);
      a≢k = λ i. more (ap T.next (sym i) ∙ s.next-prev h live);
      b≢h = more;
      b≢k = next_differs T s k live_k;
      half = rev_half h;
      lives = live;
    }

-- what is live without the spur
pub away_live : (T : Map) (h x : ℕ) → Live T x → x ≢ h → x ≢ rev h → Live (spur_away T h) x
unfolding spur_away put
away_live T h x l i j =
    let d : x / 2 ≢ h / 2 = λ e. elim (rev_or_same x h e) [ inl m ↦ i m | inr m ↦ j m ] in
    grind (arith, nat_tests)

pub live_away : (T : Map) (h x : ℕ) → Live (spur_away T h) x → Live T x × (x / 2 ≢ h / 2)
unfolding spur_away put
live_away T h x l =
    let d : x / 2 ≢ h / 2 = λ i. grind (arith, nat_tests) in
    let e : T.edge (x / 2) ≡ true = grind (arith, nat_tests) in
    (e, d)

-- what the map without the spur links
pub record SpurGone (T U : Map) (h : ℕ) : Type 0 where
  pub edge_here : U.edge (h / 2) ≡ false
  pub edge_other : (u : ℕ) → u ≢ h / 2 → U.edge u ≡ T.edge u
  pub next_before : U.next (T.prev h) ≡ T.next (rev h)
  pub next_other : (x : ℕ) → x ≢ T.prev h → U.next x ≡ T.next x
  pub prev_after : U.prev (T.next (rev h)) ≡ T.prev h
  pub prev_other : (x : ℕ) → x ≢ T.next (rev h) → U.prev x ≡ T.prev x
  pub origin : (x : ℕ) → U.origin x ≡ T.origin x
  pub face : (x : ℕ) → U.face x ≡ T.face x
  pub edges : U.edges ≡ T.edges
  pub vertices : U.vertices ≡ T.vertices
  pub faces : U.faces ≡ T.faces

pub spur_gone : (T : Map) (h : ℕ) → SpurGone T (spur_away T h) h
unfolding spur_away put
spur_gone T h = record {
  edge_here = grind (arith, nat_tests);
  edge_other = λ u d. grind (arith, nat_tests);
  next_before = grind (arith, nat_tests);
  next_other = λ x d. grind (arith, nat_tests);
  prev_after = grind (arith, nat_tests);
  prev_other = λ x d. grind (arith, nat_tests);
  origin = λ x. refl;
  face = λ x. refl;
  edges = refl;
  vertices = refl;
  faces = refl;
}

-- at the tip of a spur starts its own half edge alone
alone : (T : Map) (h x : ℕ) → Sound T → Live T h → T.next h ≡ rev h → Live T x → T.origin x ≡ T.origin (rev h) → x ≡ rev h
unfolding ccw
alone T h x s live turns lives same =
    let k = rev h in
    let live_k = rev_live T h live in
    let back : T.prev k ≡ h = ap T.prev (sym turns) ∙ s.prev-next h live in
    reaches_stays (By (ccw T)) (λ z. z ≡ k) (λ y z at step. sym step ∙ ap (λ u. rev (T.prev u)) at ∙ ap rev back) refl
    ((s.one_origin k x live_k lives).0 (sym same))

pub spur_away_is : (T : Map) (h : ℕ) → Sound T → Live T h → T.next h ≡ rev h → T.next (rev h) ≢ h
    → Unspur (spur_away T h) T (T.prev h) h (T.origin (rev h))
spur_away_is T h s live turns more =
    let c = tip T h s live turns more in
    let e = spur_gone T h in
    let a = T.prev h in
    let b = T.next (rev h) in
    record {
      spur = record {
        at = record {
          lives = away_live T h a (s.live_prev h live) c.a≢h c.a≢k;
          fresh = e.edge_here;
          isolated = λ x there at.
              let old = live_away T h x there in
              old.1 (ap (λ z. z / 2) (alone T h x s live turns old.0 (sym (e.origin x) ∙ at)) ∙ rev_half h);
          vertex_room = let below = s.below_vertices (rev h) (rev_live T h live) in omega (arith, below, e.vertices);
        };
        drawn = record {
          grows = grows_back (spur_away T h) T h s live e.edge_other e.edges e.vertices;
          origin_h = c.start ∙ sym (ap (spur_away T h).origin e.next_before ∙ e.origin b);
          origin_rev = refl;
          origin_other = λ x l. sym (e.origin x);
        };
        next_a = c.next_a;
        next_h = turns;
        next_rev = sym e.next_before;
        next_other = λ x l other. sym (e.next_other x other);
        prev_b = ap T.prev e.next_before ∙ c.prev_b;
        prev_rev = c.prev_k;
        prev_h = refl;
        prev_other = λ x l other. sym (e.prev_other x (λ i. other (i ∙ sym e.next_before)));
        face_h = c.face_a ∙ sym (e.face a);
        face_rev = c.face_k ∙ sym (e.face a);
        face_other = λ x l. sym (e.face x);
        faces = sym e.faces;
      };
      link = ap (spur_away T h).prev e.next_before ∙ e.prev_after;
      below_edges = λ x l. let below = s.below_edges x (live_away T h x l).0 in omega (arith, below, e.edges);
    }

-- so a map without a spur is sound and a sphere
pub spur_away_keeps : (T : Map) (h : ℕ) → Sound T → Sphere T → Live T h → T.next h ≡ rev h → T.next (rev h) ≢ h
    → Sound (spur_away T h) × Sphere (spur_away T h)
spur_away_keeps T h s m live turns more =
    unspur_keeps (spur_away T h) T (T.prev h) h (T.origin (rev h)) (spur_away_is T h s live turns more) s m

pub spur_away_edit : (T : Map) (h : ℕ) → Sound T → Live T h → T.next h ≡ rev h → T.next (rev h) ≢ h → Edit spur_dropped T (spur_away T h)
spur_away_edit T h s live turns more = (T.prev h, h, T.origin (rev h), spur_away_is T h s live turns more)
