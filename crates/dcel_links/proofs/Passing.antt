-- Links that pass the checks are those of a sound map on the sphere.
use Rattle.std.proofs.Common.{◌≡◌, ◌≢◌, inl, inr, ℕ, ◌/◌, ◌<◌, sym, refl, ap, ◌∙◌, subst}
use Rattle.dcel_fixed.specs.HalfEdges.{rev}
use Rattle.dcel_maps.specs.Maps.{By, Connected, Live, Map, NextOrRev, Reaches, ccw}
use Rattle.dcel_maps.specs.Maps.Reaches.{go, here}
use Rattle.dcel_maps.specs.theory.Sound.{Sound}
use Rattle.dcel_maps.proofs.maps.Cycles.{Cycles}
use Rattle.dcel_maps.proofs.maps.Halves.{rev-rev}
use Rattle.dcel_maps.proofs.maps.Reaching.{reroutes, step, then}
use Rattle.dcel_maps.proofs.maps.Soundness.{live_step, rev_live, same_face_reaches, sound_from}
use Rattle.dcel_links.proofs.Paths.{backwards, before}

-- what the checks find, of a map: links within range that a list of links backwards undoes, edges whose ends are two and fit,
-- faces that are kept, and one walk for each face and each vertex
pub record Fits (M : Map) : Type 0 where
  pub below_edges : (x : ℕ) → Live M x → x / 2 < M.edges
  pub below_vertices : (x : ℕ) → Live M x → M.origin x < M.vertices
  pub below_faces : (x : ℕ) → Live M x → M.face x < M.faces
  pub live_next : (x : ℕ) → Live M x → Live M (M.next x)
  pub prev-next : (x : ℕ) → Live M x → M.prev (M.next x) ≡ x
  pub two_ends : (x : ℕ) → Live M x → M.origin x ≢ M.origin (rev x)
  pub origin-next : (x : ℕ) → Live M x → M.origin (M.next x) ≡ M.origin (rev x)
  pub face-next : (x : ℕ) → Live M x → M.face (M.next x) ≡ M.face x
  pub one_face : (x y : ℕ) → Live M x → Live M y → M.face x ≡ M.face y → Reaches (By M.next) x y
  pub one_turn : (x y : ℕ) → Live M x → Live M y → M.origin x ≡ M.origin y → Reaches (By (λ h. M.next (rev h))) x y

module _ (M : Map) (fits : Fits M) where
  -- each live half edge comes after a live one: one walk leads from the one after it back to it
  follows : (x : ℕ) → Live M x → (z : ℕ) × Live M z × (M.next z ≡ x)
  follows x l = before (Live M) M.next fits.live_next x refl l
      (fits.one_face (M.next x) x (fits.live_next x l) l (fits.face-next x l))

  next-prev : (x : ℕ) → Live M x → M.next (M.prev x) ≡ x
  next-prev x l =
      let (z, lz, e) = follows x l in
      ap M.next (ap M.prev (sym e) ∙ fits.prev-next z lz) ∙ e

  live_prev : (x : ℕ) → Live M x → Live M (M.prev x)
  live_prev x l =
      let (z, lz, e) = follows x l in
      subst (Live M) (sym (ap M.prev (sym e) ∙ fits.prev-next z lz)) lz

  turn_live : (x : ℕ) → Live M x → Live M (M.next (rev x))
  turn_live x l = fits.live_next (rev x) (rev_live M x l)

  turn_undone : (x : ℕ) → Live M x → ccw M (M.next (rev x)) ≡ x
  unfolding ccw
  turn_undone x l = ap rev (fits.prev-next (rev x) (rev_live M x l)) ∙ rev-rev x

  vertex_parts : Cycles (Live M) (ccw M) M.origin
  unfolding ccw
  vertex_parts = record {
    stays = λ x l. rev_live M (M.prev x) (live_prev x l);
    along = λ x l. sym (fits.origin-next (M.prev x) (live_prev x l)) ∙ ap M.origin (next-prev x l);
    joined = λ x y l m e. backwards (Live M) (ccw M) (λ h. M.next (rev h)) turn_live turn_undone m (fits.one_turn y x m l (sym e));
  }

  -- links that pass are sound
  pub passes_sound : Sound M
  passes_sound =
      sound_from M fits.below_edges fits.below_vertices fits.below_faces fits.prev-next next-prev fits.two_ends
      record { stays = fits.live_next; along = fits.face-next; joined = fits.one_face } vertex_parts

-- a step is gone back
gone_back : (M : Map) → Sound M → (x y : ℕ) → Live M x → NextOrRev M x y → Reaches (NextOrRev M) y x
gone_back M s x y l r = elim r [
  | inl i ↦
      let m : Live M y = subst (Live M) i (s.live_next x l) in
      let e : M.face y ≡ M.face x = sym ((s.one_face x y l m).1 (step i)) in
      reroutes (By M.next) (NextOrRev M) (Live M) (λ z. z) (λ a b p t. subst (Live M) t (s.live_next a p)) (λ a b p t. step (inl t)) m
      (same_face_reaches M s y x m l e)
  | inr i ↦ step (inr (ap rev (sym i) ∙ rev-rev x))
]

way_back : (M : Map) → Sound M → {x y : ℕ} → Live M x → Reaches (NextOrRev M) x y → Reaches (NextOrRev M) y x
way_back M s l here = here
way_back M s {x = x} l (go {y = y} t w) = then (way_back M s (live_step M s x y l t) w) (gone_back M s x y l t)

-- where all is reached from one half edge, the map is connected
pub all_reached : (M : Map) → Sound M → (r : ℕ) → ((x : ℕ) → Live M x → Live M r × Reaches (NextOrRev M) r x) → Connected M
all_reached M s r all x y l m =
    let a = all x l in let b = all y m in
    then (way_back M s a.0 a.1) b.1
