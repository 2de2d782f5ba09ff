-- A join, which takes out an edge between two faces, keeps a map sound and a sphere.
use Rattle.std.proofs.Common.{◌≡◌, ◌≢◌, inl, inr, ◌/◌, ◌<◌, ◌≤◌, ◌==◌, ℕ, Bool, true, false, cond, eqb-true, eq-eqb, sym, refl, ap, ◌∙◌, arith}
use Rattle.std.proofs.lemmas.Bool.{cases_eq, cond-true, cond-false, false≢true, ne_eqb}
use Rattle.dcel_fixed.specs.HalfEdges.{rev}
use Rattle.dcel_maps.specs.EditLists.{Edit}
use Rattle.dcel_maps.specs.EditLists.EditKind.{words_joined}
use Rattle.dcel_maps.specs.Maps.{Live, Map}
use Rattle.dcel_maps.specs.theory.Sound.{Sound, Sphere}
use Rattle.dcel_maps.proofs.maps.Edits.{ChordAt, Cut}
use Rattle.dcel_maps.proofs.maps.Halves.{rev-rev}
use Rattle.dcel_maps.proofs.maps.Soundness.{face_cycles, next_differs, not_of_dead, rev_live, less-was_live, less-still_live}
use Rattle.dcel_maps.proofs.maps.Unchords.{Unchord, unchord_keeps}
use Rattle.dcel_maps.proofs.maps.Updates.{put, put_other, put_same, put_twice-first, put_twice-other}

-- what a join asks: an edge with two faces
pub record JoinAt (S : Map) (h : ℕ) : Type 0 where
  pub lives : Live S h
  pub two_faces : S.face h ≢ S.face (rev h)

-- T is S without the edge of h: what led to either half leads past it, and the face of the other half becomes that of h
pub record Join (S T : Map) (h : ℕ) : Type 0 where
  pub at : JoinAt S h
  pub open at use *
  pub edge_gone : T.edge (h / 2) ≡ false
  pub edge_other : (u : ℕ) → u ≢ h / 2 → T.edge u ≡ S.edge u
  pub next_before_h : T.next (S.prev h) ≡ S.next (rev h)
  pub next_before_rev : T.next (S.prev (rev h)) ≡ S.next h
  pub next_other : (x : ℕ) → Live T x → x ≢ S.prev h → x ≢ S.prev (rev h) → T.next x ≡ S.next x
  pub prev_after_h : T.prev (S.next h) ≡ S.prev (rev h)
  pub prev_after_rev : T.prev (S.next (rev h)) ≡ S.prev h
  pub prev_other : (x : ℕ) → Live T x → x ≢ S.next h → x ≢ S.next (rev h) → T.prev x ≡ S.prev x
  pub origin_other : (x : ℕ) → Live T x → T.origin x ≡ S.origin x
  pub face_beyond : (x : ℕ) → Live T x → S.face x ≡ S.face (rev h) → T.face x ≡ S.face h
  pub face_other : (x : ℕ) → Live T x → S.face x ≢ S.face (rev h) → T.face x ≡ S.face x
  pub vertices : T.vertices ≡ S.vertices
  pub edges : T.edges ≤ S.edges
  pub below_edges : (x : ℕ) → Live T x → x / 2 < T.edges
  pub faces : T.faces ≤ S.faces
  pub below_faces : (x : ℕ) → Live T x → T.face x < T.faces

-- what a join knows of the half edges beside the edge: a and b come before h and its other half, q and p after them
pub record JoinSite (S : Map) (h a b p q : ℕ) : Type 0 where
  pub live_rev : Live S (rev h)
  pub live_a : Live S a
  pub live_b : Live S b
  pub live_p : Live S p
  pub live_q : Live S q
  pub next_a : S.next a ≡ h
  pub next_b : S.next b ≡ rev h
  pub prev_p : S.prev p ≡ rev h
  pub prev_q : S.prev q ≡ h
  pub face_a : S.face a ≡ S.face h
  pub face_b : S.face b ≡ S.face (rev h)
  pub face_p : S.face p ≡ S.face (rev h)
  pub face_q : S.face q ≡ S.face h
  pub a≢h : a ≢ h
  pub b≢rev : b ≢ rev h
  pub p≢rev : p ≢ rev h
  pub q≢h : q ≢ h
  pub origin_p : S.origin p ≡ S.origin h
  pub origin_q : S.origin q ≡ S.origin (rev h)

-- what stands beside the edge
pub join_site : (S : Map) (h : ℕ) → Sound S → JoinAt S h → JoinSite S h (S.prev h) (S.prev (rev h)) (S.next (rev h)) (S.next h)
join_site S h s e =
    let k = rev h in
    let live_k = rev_live S h e.lives in
    let along = (face_cycles S s).along in
    let next_a = s.next-prev h e.lives in
    let next_b = s.next-prev k live_k in
    record {
      live_rev = live_k;
      live_a = s.live_prev h e.lives;
      live_b = s.live_prev k live_k;
      live_p = s.live_next k live_k;
      live_q = s.live_next h e.lives;
      next_a = next_a;
      next_b = next_b;
      prev_p = s.prev-next k live_k;
      prev_q = s.prev-next h e.lives;
      face_a = sym (along (S.prev h) (s.live_prev h e.lives)) ∙ ap S.face next_a;
      face_b = sym (along (S.prev k) (s.live_prev k live_k)) ∙ ap S.face next_b;
      face_p = along k live_k;
      face_q = along h e.lives;
      a≢h = λ i. next_differs S s h e.lives (ap S.next (sym i) ∙ next_a);
      b≢rev = λ i. next_differs S s k live_k (ap S.next (sym i) ∙ next_b);
      p≢rev = next_differs S s k live_k;
      q≢h = next_differs S s h e.lives;
      origin_p = s.origin-next k live_k ∙ ap S.origin (rev-rev h);
      origin_q = s.origin-next h e.lives;
    }

-- the half edges of the one face are not those of the other
pub on_two : (S : Map) (h x y : ℕ) → JoinAt S h → S.face x ≡ S.face h → S.face y ≡ S.face (rev h) → x ≢ y
on_two S h x y e near far is = e.two_faces (sym near ∙ ap S.face is ∙ far)

-- whether a half edge lies on the face that goes
abbrev pub is_beyond : Map → ℕ → ℕ → Bool
is_beyond S h x = S.face x == S.face (rev h)

module _ (S T : Map) (h : ℕ) (s : Sound S) (e : Join S T h) where
  abbrev k : ℕ
  k = rev h

  abbrev p : ℕ
  p = S.next (rev h)

  abbrev q : ℕ
  q = S.next h

  abbrev a : ℕ
  a = S.prev h

  abbrev b : ℕ
  b = S.prev (rev h)

  site : JoinSite S h a b p q
  site = join_site S h s e.at

  -- what is live after a join was, and all but the two halves still is
  pub join_was_live : (x : ℕ) → Live T x → Live S x × (x ≢ h) × (x ≢ rev h)
  join_was_live = less-was_live S T h e.edge_gone e.edge_other

  pub join_still_live : (x : ℕ) → Live S x → x ≢ h → x ≢ rev h → Live T x
  join_still_live = less-still_live S T h e.edge_gone e.edge_other

  -- so the two after the edge are live
  pub join_live-after_rev : Live T (S.next (rev h))
  join_live-after_rev = join_still_live p site.live_p (λ i. on_two S h h p e.at refl site.face_p (sym i)) site.p≢rev

  pub join_live-after_h : Live T (S.next h)
  join_live-after_h = join_still_live q site.live_q site.q≢h (on_two S h q k e.at site.face_q refl)

  -- no half edge is left on the face that goes
  pub join_vacant : (x : ℕ) → Live T x → T.face x ≢ S.face (rev h)
  join_vacant x l at = elim (cases_eq (S.face x) (S.face k)) [
    | inl i ↦ e.two_faces (sym (e.face_beyond x l i) ∙ at)
    | inr i ↦ i (sym (e.face_other x l i) ∙ at)
  ]

  beyond_from : (x : ℕ) → S.face x ≡ S.face k → is_beyond S h x ≡ true
  beyond_from x at = eq-eqb (S.face x) (S.face k) at

  beyond_not : (x : ℕ) → S.face x ≡ S.face h → is_beyond S h x ≡ false
  beyond_not x at = ne_eqb (S.face x) (S.face k) (λ i. e.two_faces (sym at ∙ i))

  beyond_gives : (x : ℕ) → is_beyond S h x ≡ true → S.face x ≡ S.face k
  beyond_gives x i = eqb-true (S.face x) (S.face k) i

  beyond_elsewhere : (x : ℕ) → is_beyond S h x ≡ false → S.face x ≢ S.face k
  beyond_elsewhere x i at = false≢true (sym i ∙ beyond_from x at)

  face_p_after : T.face p ≡ S.face h
  face_p_after = e.face_beyond p join_live-after_rev site.face_p

  face_q_after : T.face q ≡ S.face h
  face_q_after = e.face_other q join_live-after_h (beyond_elsewhere q (beyond_not q site.face_q)) ∙ site.face_q

  origin_p_after : T.origin p ≡ S.origin h
  origin_p_after = e.origin_other p join_live-after_rev ∙ site.origin_p

  origin_q_after : T.origin q ≡ S.origin k
  origin_q_after = e.origin_other q join_live-after_h ∙ site.origin_q

  -- elsewhere than before the edge, `next` stays on the face that goes, or off it
  beyond_next : (x : ℕ) → Live T x → x ≢ a → x ≢ b → is_beyond S h (T.next x) ≡ is_beyond S h x
  beyond_next x l not_a not_b =
      ap (is_beyond S h) (e.next_other x l not_a not_b)
      ∙ ap (λ f. f == S.face k) ((face_cycles S s).along x (join_was_live x l).0)

  -- the edge that a join takes out is a chord of what it leaves
  chord_at : ChordAt T p q h (S.face k) (is_beyond S h)
  chord_at = record {
    lives_p = join_live-after_rev;
    lives_q = join_live-after_h;
    apart = λ i. s.two_ends h e.lives (sym origin_p_after ∙ i ∙ origin_q_after);
    fresh = e.edge_gone;
    vacant = join_vacant;
    same = face_p_after ∙ sym face_q_after;
    arc_p = beyond_from p site.face_p;
    arc_q = beyond_not q site.face_q;
    arc_before_p = ap (is_beyond S h) e.prev_after_rev ∙ beyond_not a site.face_a;
    arc_before_q = ap (is_beyond S h) e.prev_after_h ∙ beyond_from b site.face_b;
    arc_face = λ x l i. e.face_beyond x l (beyond_gives x i) ∙ sym face_p_after;
    arc_enter = λ x l i j. elim (cases_eq x a) [
      | inl is ↦ ap T.next is ∙ e.next_before_h
      | inr not_a ↦ absurd (false≢true (sym i ∙ sym (beyond_next x l not_a (λ is. beyond_elsewhere x i (ap S.face is ∙ site.face_b))) ∙ j))
    ];
    arc_leave = λ x l i j. elim (cases_eq x b) [
      | inl is ↦ ap T.next is ∙ e.next_before_rev
      | inr not_b ↦
          let not_a : x ≢ a = λ is. on_two S h a x e.at site.face_a (beyond_gives x i) (sym is) in
          absurd (false≢true (sym j ∙ beyond_next x l not_a not_b ∙ i))
    ];
  }

  cut : Cut T S p q h (S.face k) (is_beyond S h)
  cut = record {
    drawn = record {
      grows = record {
        edge_here = e.lives;
        edge_other = λ u other. sym (e.edge_other u other);
        edges = e.edges;
        edge_below = s.below_edges h e.lives;
        vertices = sym e.vertices;
      };
      origin_h = sym origin_p_after;
      origin_rev = sym origin_q_after;
      origin_other = λ x l. sym (e.origin_other x l);
    };
    next_to_h = ap S.next e.prev_after_rev ∙ site.next_a;
    next_h = refl;
    next_to_rev = ap S.next e.prev_after_h ∙ site.next_b;
    next_rev = refl;
    next_other = λ x l i j. sym (e.next_other x l (λ is. i (is ∙ sym e.prev_after_rev)) (λ is. j (is ∙ sym e.prev_after_h)));
    prev_h = sym e.prev_after_rev;
    prev_q = site.prev_q;
    prev_rev = sym e.prev_after_h;
    prev_p = site.prev_p;
    prev_other = λ x l i j. sym (e.prev_other x l j i);
    face_h = sym face_q_after;
    face_rev = refl;
    face_in = λ x l i. beyond_gives x i;
    face_out = λ x l i. sym (e.face_other x l (beyond_elsewhere x i));
    faces = e.faces;
    face_below = s.below_faces k site.live_rev;
  }

  -- so a join takes a chord back
  pub join_unchords : Unchord T S (S.next (rev h)) (S.next h) h (S.face (rev h)) (is_beyond S h)
  join_unchords = record {
    chord = record { at = chord_at; cut = cut };
    next_a = ap T.next e.prev_after_rev ∙ e.next_before_h;
    next_b = ap T.next e.prev_after_h ∙ e.next_before_rev;
    below_edges = e.below_edges;
    below_faces = e.below_faces;
  }

  -- and keeps a map sound and a sphere
  pub joined_keeps : Sphere S → Sound T × Sphere T
  joined_keeps = unchord_keeps T S p q h (S.face k) (is_beyond S h) join_unchords s

-- the join as a map: S without the edge of h, under the same numbers
unfoldable pub join : Map → ℕ → Map
join S h = record S {
  edge = put S.edge (h / 2) false;
  next = put (put S.next (S.prev h) (S.next (rev h))) (S.prev (rev h)) (S.next h);
  prev = put (put S.prev (S.next (rev h)) (S.prev h)) (S.next h) (S.prev (rev h));
  face = λ x. cond (is_beyond S h x) (S.face h) (S.face x);
}

-- its links, edges and faces
module _ (S : Map) (h : ℕ) where
  pub join_edge-gone : (join S h).edge (h / 2) ≡ false
  unfolding join
  join_edge-gone = put_same S.edge (h / 2) false

  pub join_edge-other : (u : ℕ) → u ≢ h / 2 → (join S h).edge u ≡ S.edge u
  unfolding join
  join_edge-other = put_other S.edge (h / 2) false

  pub join_next-before_h : S.prev h ≢ S.prev (rev h) → (join S h).next (S.prev h) ≡ S.next (rev h)
  unfolding join
  join_next-before_h = put_twice-first S.next (S.prev h) (S.prev (rev h)) (S.next (rev h)) (S.next h)

  pub join_next-before_rev : (join S h).next (S.prev (rev h)) ≡ S.next h
  unfolding join
  join_next-before_rev = put_same (put S.next (S.prev h) (S.next (rev h))) (S.prev (rev h)) (S.next h)

  pub join_next-other : (x : ℕ) → x ≢ S.prev h → x ≢ S.prev (rev h) → (join S h).next x ≡ S.next x
  unfolding join
  join_next-other = put_twice-other S.next (S.prev h) (S.prev (rev h)) (S.next (rev h)) (S.next h)

  pub join_prev-after_h : (join S h).prev (S.next h) ≡ S.prev (rev h)
  unfolding join
  join_prev-after_h = put_same (put S.prev (S.next (rev h)) (S.prev h)) (S.next h) (S.prev (rev h))

  pub join_prev-after_rev : S.next (rev h) ≢ S.next h → (join S h).prev (S.next (rev h)) ≡ S.prev h
  unfolding join
  join_prev-after_rev = put_twice-first S.prev (S.next (rev h)) (S.next h) (S.prev h) (S.prev (rev h))

  pub join_prev-other : (x : ℕ) → x ≢ S.next h → x ≢ S.next (rev h) → (join S h).prev x ≡ S.prev x
  unfolding join
  join_prev-other x i j = put_twice-other S.prev (S.next (rev h)) (S.next h) (S.prev h) (S.prev (rev h)) x j i

  pub join_face-beyond : (x : ℕ) → S.face x ≡ S.face (rev h) → (join S h).face x ≡ S.face h
  unfolding join
  join_face-beyond x at = cond-true (is_beyond S h x) (S.face h) (S.face x) (eq-eqb (S.face x) (S.face (rev h)) at)

  pub join_face-other : (x : ℕ) → S.face x ≢ S.face (rev h) → (join S h).face x ≡ S.face x
  unfolding join
  join_face-other x at = cond-false (is_beyond S h x) (S.face h) (S.face x) (ne_eqb (S.face x) (S.face (rev h)) at)

  join_was : (x : ℕ) → Live (join S h) x → Live S x
  join_was x l = sym (join_edge-other (x / 2) (not_of_dead (join S h) h join_edge-gone x l)) ∙ l

  -- it is one
  pub join_is : Sound S → JoinAt S h → Join S (join S h) h
  unfolding join
  join_is s at =
      let site = join_site S h s at in
      record {
        at = at;
        edge_gone = join_edge-gone;
        edge_other = join_edge-other;
        next_before_h = join_next-before_h (on_two S h (S.prev h) (S.prev (rev h)) at site.face_a site.face_b);
        next_before_rev = join_next-before_rev;
        next_other = λ x l. join_next-other x;
        prev_after_h = join_prev-after_h;
        prev_after_rev = join_prev-after_rev (λ i. on_two S h (S.next h) (S.next (rev h)) at site.face_q site.face_p (sym i));
        prev_other = λ x l. join_prev-other x;
        origin_other = λ x l. refl;
        face_beyond = λ x l. join_face-beyond x;
        face_other = λ x l. join_face-other x;
        vertices = refl;
        edges = omega arith;
        below_edges = λ x l. s.below_edges x (join_was x l);
        faces = omega arith;
        below_faces = λ x l. elim (cases_eq (S.face x) (S.face (rev h))) [
          | inl i ↦ omega (arith, join_face-beyond x i, s.below_faces h at.lives)
          | inr i ↦ omega (arith, join_face-other x i, s.below_faces x (join_was x l))
        ];
      }

  -- a join keeps a map sound and a sphere
  pub join_keeps : Sound S → Sphere S → Live S h → S.face h ≢ S.face (rev h) → Sound (join S h) × Sphere (join S h)
  join_keeps s m lives two_faces = joined_keeps S (join S h) h s (join_is s (record { lives = lives; two_faces = two_faces })) m

  pub join_edit : Sound S → Live S h → S.face h ≢ S.face (rev h) → Edit words_joined S (join S h)
  join_edit s lives two_faces =
      let at : JoinAt S h = record { lives = lives; two_faces = two_faces } in
      (S.next (rev h), S.next h, h, S.face (rev h), is_beyond S h, join_unchords S (join S h) h s (join_is s at))
