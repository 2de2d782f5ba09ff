-- A map without one edge between two faces: what it links, and which faces it keeps.
use Rattle.std.proofs.Common.{◌≡◌, ◌≢◌, inl, inr, ◌/◌, ℕ, false, sym, refl, ap, ◌∙◌}
use Rattle.std.proofs.lemmas.Bool.{cases_eq}
use Rattle.dcel_fixed.specs.HalfEdges.{rev}
use Rattle.dcel_maps.specs.Maps.{Live, Map}
use Rattle.dcel_maps.specs.theory.Sound.{Sound}
use Rattle.dcel_maps.proofs.maps.Halves.{rev_or_same}
use Rattle.dcel_maps.proofs.maps.Joins.{JoinAt, join, join_edge-gone, join_edge-other, join_face-beyond, join_face-other, join_next-before_h, join_next-before_rev, join_next-other, join_prev-other, join_site, on_two}
use Rattle.dcel_maps.proofs.maps.Soundness.{not_of_dead}
use Rattle.dcel_maps.proofs.words.Faces.{KeepsFace}

-- J is T without the edge of h; what lay beyond it gets the face of h
pub record Without (T J : Map) (h : ℕ) : Type 0 where
  pub edge_here : J.edge (h / 2) ≡ false
  pub edge_other : (u : ℕ) → u ≢ h / 2 → J.edge u ≡ T.edge u
  pub next_before : J.next (T.prev h) ≡ T.next (rev h)
  pub next_before_rev : J.next (T.prev (rev h)) ≡ T.next h
  pub next_other : (x : ℕ) → x ≢ T.prev h → x ≢ T.prev (rev h) → J.next x ≡ T.next x
  pub prev_other : (x : ℕ) → x ≢ T.next h → x ≢ T.next (rev h) → J.prev x ≡ T.prev x
  pub origin : (x : ℕ) → J.origin x ≡ T.origin x
  pub face_beyond : (x : ℕ) → T.face x ≡ T.face (rev h) → J.face x ≡ T.face h
  pub face_other : (x : ℕ) → T.face x ≢ T.face (rev h) → J.face x ≡ T.face x
  pub edges : J.edges ≡ T.edges
  pub vertices : J.vertices ≡ T.vertices
  pub faces : J.faces ≡ T.faces

-- what was live still is, but for the edge; and nothing else is live
pub live_join : (T : Map) (h x : ℕ) → Live T x → x ≢ h → x ≢ rev h → Live (join T h) x
live_join T h x live not_h not_rev =
    join_edge-other T h (x / 2) (λ same. elim (rev_or_same x h same) [ inl is ↦ not_h is | inr is ↦ not_rev is ]) ∙ live

pub join_live : (T : Map) (h x : ℕ) → Live (join T h) x → Live T x
join_live T h x live = sym (join_edge-other T h (x / 2) (not_of_dead (join T h) h (join_edge-gone T h) x live)) ∙ live

module _ (T : Map) (h : ℕ) (sound : Sound T) (live : Live T h) (sides : T.face h ≢ T.face (rev h)) where
  at : JoinAt T h
  at = record { lives = live; two_faces = sides }

  pub without : Without T (join T h) h
  unfolding join
  without =
      let site = join_site T h sound at in
      record {
        edge_here = join_edge-gone T h;
        edge_other = join_edge-other T h;
        next_before = join_next-before_h T h (on_two T h (T.prev h) (T.prev (rev h)) at site.face_a site.face_b);
        next_before_rev = join_next-before_rev T h;
        next_other = join_next-other T h;
        prev_other = join_prev-other T h;
        origin = λ x. refl;
        face_beyond = join_face-beyond T h;
        face_other = join_face-other T h;
        edges = refl;
        vertices = refl;
        faces = refl;
      }

  -- other faces stay as they are
  pub without-keeps : (g : ℕ) → g ≢ T.face h → g ≢ T.face (rev h) → KeepsFace T (join T h) g
  without-keeps g off off_rev =
      let site = join_site T h sound at in
      let w = without in
      let apart : (x y : ℕ) → T.face x ≡ g → T.face y ≡ T.face h → x ≢ y = λ x y on near is. off (sym on ∙ ap T.face is ∙ near) in
      let apart_rev : (x y : ℕ) → T.face x ≡ g → T.face y ≡ T.face (rev h) → x ≢ y = λ x y on far is. off_rev (sym on ∙ ap T.face is ∙ far) in
      record {
        comes = λ x there on. (
          join_live T h x there,
          elim (cases_eq (T.face x) (T.face (rev h))) [
            | inl beyond ↦ absurd (off (sym on ∙ w.face_beyond x beyond))
            | inr other ↦ sym (w.face_other x other) ∙ on
          ],
        );
        live = λ x lives on. live_join T h x lives (apart x h on refl) (apart_rev x (rev h) on refl);
        next = λ x lives on. w.next_other x (apart x (T.prev h) on site.face_a) (apart_rev x (T.prev (rev h)) on site.face_b);
        prev = λ x lives on. w.prev_other x (apart x (T.next h) on site.face_q) (apart_rev x (T.next (rev h)) on site.face_p);
        face = λ x lives on. w.face_other x (λ beyond. off_rev (sym on ∙ beyond)) ∙ on;
      }

-- each face of a map is kept by itself
pub keeps-itself : (T : Map) (g : ℕ) → KeepsFace T T g
keeps-itself T g = record {
  comes = λ x live at. (live, at);
  live = λ x live at. live;
  next = λ x live at. refl;
  prev = λ x live at. refl;
  face = λ x live at. at;
}
