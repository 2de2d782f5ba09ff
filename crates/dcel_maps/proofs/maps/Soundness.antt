-- What is known in a sound map, and how to show that a map is sound.
use Rattle.std.proofs.Common.{◌≡◌, ◌≢◌, inl, inr, ◌/◌, ◌<◌, ℕ, false, sym, refl, ap, ◌∙◌, subst}
use Rattle.std.proofs.lemmas.Bool.{false≢true}
use Rattle.dcel_maps.specs.Maps.{By, Live, Map, NextOrRev, Reaches, ccw}
use Rattle.dcel_maps.specs.theory.Sound.{Sound}
use Rattle.dcel_fixed.specs.HalfEdges.{rev}
use Rattle.dcel_maps.proofs.maps.Halves.{rev_half, rev_or_same}
use Rattle.dcel_maps.proofs.maps.Reaching.{step}
use Rattle.dcel_maps.proofs.maps.Cycles.{Cycles, same_label_iff}

-- the other half of a live half edge is live
pub rev_live : (M : Map) (x : ℕ) → Live M x → Live M (rev x)
rev_live M x l = ap M.edge (rev_half x) ∙ l

-- a half edge is live where its other half is
pub live_of_rev : (M : Map) (x : ℕ) → Live M (rev x) → Live M x
live_of_rev M x l = ap M.edge (sym (rev_half x)) ∙ l

-- a live half edge is of no edge that is not live
pub not_of_dead : (M : Map) (h : ℕ) → M.edge (h / 2) ≡ false → (x : ℕ) → Live M x → x / 2 ≢ h / 2
not_of_dead M h dead x l e = false≢true (sym dead ∙ sym (ap M.edge e) ∙ l)

-- so it is neither half of one
pub apart_from : (M : Map) (h : ℕ) → M.edge (h / 2) ≡ false → (x : ℕ) → Live M x → (x ≢ h) × (x ≢ rev h)
apart_from M h dead x l = (λ e. not_of_dead M h dead x l (ap (λ z. z / 2) e), λ e. not_of_dead M h dead x l (ap (λ z. z / 2) e ∙ rev_half h))

-- where T lacks the edge of h alone: what is live was live, and is no half of the edge, and what was live and is no half of it still is
module _ (S T : Map) (h : ℕ) (gone : T.edge (h / 2) ≡ false) (other : (u : ℕ) → u ≢ h / 2 → T.edge u ≡ S.edge u) where
  pub less-was_live : (x : ℕ) → Live T x → Live S x × (x ≢ h) × (x ≢ rev h)
  less-was_live x live =
      let apart = apart_from T h gone x live in (sym (other (x / 2) (not_of_dead T h gone x live)) ∙ live, apart.0, apart.1)

  pub less-still_live : (x : ℕ) → Live S x → x ≢ h → x ≢ rev h → Live T x
  less-still_live x live not_h not_rev =
      other (x / 2) (λ half. elim (rev_or_same x h half) [ inl is ↦ not_h is | inr is ↦ not_rev is ]) ∙ live

-- turning round a vertex stays live
pub ccw_live : (M : Map) → Sound M → (x : ℕ) → Live M x → Live M (ccw M x)
unfolding ccw
ccw_live M s x l = rev_live M (M.prev x) (s.live_prev x l)

-- half edges out of one vertex are reached from each other by turning round it
pub same_origin_reaches : (M : Map) → Sound M → (x y : ℕ) → Live M x → Live M y → M.origin x ≡ M.origin y
    → Reaches (By (ccw M)) x y
same_origin_reaches M s x y l m = (s.one_origin x y l m).0

-- half edges of one face are reached from each other by going round it
pub same_face_reaches : (M : Map) → Sound M → (x y : ℕ) → Live M x → Live M y → M.face x ≡ M.face y
    → Reaches (By M.next) x y
same_face_reaches M s x y l m = (s.one_face x y l m).0

-- the faces are the cycles of `next`
pub face_cycles : (M : Map) → Sound M → Cycles (Live M) M.next M.face
face_cycles M s = record {
  stays = s.live_next;
  along = λ x l. sym ((s.one_face x (M.next x) l (s.live_next x l)).1 (step refl));
  joined = same_face_reaches M s;
}

-- the vertices are the cycles of `ccw`
pub vertex_cycles : (M : Map) → Sound M → Cycles (Live M) (ccw M) M.origin
vertex_cycles M s = record {
  stays = ccw_live M s;
  along = λ x l. sym ((s.one_origin x (ccw M x) l (ccw_live M s x l)).1 (step refl));
  joined = same_origin_reaches M s;
}

-- a map is sound by its bounds, its two inverses, its ends and its two kinds of cycles
pub sound_from : (M : Map) → ((x : ℕ) → Live M x → x / 2 < M.edges)
    → ((x : ℕ) → Live M x → M.origin x < M.vertices) → ((x : ℕ) → Live M x → M.face x < M.faces)
    → ((x : ℕ) → Live M x → M.prev (M.next x) ≡ x) → ((x : ℕ) → Live M x → M.next (M.prev x) ≡ x)
    → ((x : ℕ) → Live M x → M.origin x ≢ M.origin (rev x))
    → Cycles (Live M) M.next M.face → Cycles (Live M) (ccw M) M.origin → Sound M
unfolding ccw
sound_from M below_edges below_vertices below_faces prev-next next-prev two_ends f v = record {
  below_edges = below_edges;
  below_vertices = below_vertices;
  below_faces = below_faces;
  live_next = f.stays;
  live_prev = λ x l. live_of_rev M (M.prev x) (v.stays x l);
  prev-next = prev-next;
  next-prev = next-prev;
  origin-next = λ x l. sym (v.along (M.next x) (f.stays x l)) ∙ ap (λ z. M.origin (rev z)) (prev-next x l);
  two_ends = two_ends;
  one_face = same_label_iff (Live M) M.next M.face f;
  one_origin = same_label_iff (Live M) (ccw M) M.origin v;
}

-- a face has two half edges or more
pub next_differs : (M : Map) → Sound M → (x : ℕ) → Live M x → M.next x ≢ x
next_differs M s x l i = s.two_ends x l (sym (ap M.origin i) ∙ s.origin-next x l)

pub prev_differs : (M : Map) → Sound M → (x : ℕ) → Live M x → M.prev x ≢ x
prev_differs M s x l i = next_differs M s x l (ap M.next (sym i) ∙ s.next-prev x l)

-- and the one before lies on it too
pub face_prev : (M : Map) → Sound M → (x : ℕ) → Live M x → M.face (M.prev x) ≡ M.face x
face_prev M s x l = sym ((face_cycles M s).along (M.prev x) (s.live_prev x l)) ∙ ap M.face (s.next-prev x l)

-- steps stay live
pub live_step : (M : Map) → Sound M → (x y : ℕ) → Live M x → NextOrRev M x y → Live M y
live_step M s x y l r = elim r [
  | inl i ↦ subst (λ z. Live M z) i (s.live_next x l)
  | inr i ↦ subst (λ z. Live M z) i (rev_live M x l)
]
