-- In the list of the half edges that cross a segment, one lies between two that aren't wider; and an empty list means an edge.
use Rattle.std.proofs.Common.{◌≡◌, ◌≢◌, ◌⊎◌, inl, inr, ℕ, ◌<◌, List, [], ◌∷◌, ◌++◌, refl, sym, ap, ◌∙◌, subst, ℤ, pos, ◌<ℤ◌, ◌≤ℤ◌, arith}
use Rattle.std.proofs.lemmas.Int.{by_lt_z}
use Rattle.dcel_fixed.specs.HalfEdges.{rev}
use Rattle.dcel_fixed.proofs.Halves.{rev-rev}
use Rattle.dcel_predicates.specs.declared.point.Point.{Point}
use Rattle.dcel_predicates.proofs.Signs.{ordered}
use Rattle.dcel_maps.specs.Shapes.{IsLive, IsMesh, Mesh, Shape, end_of, face_of, map_of, next_of, origin_of, prev_of}
use Rattle.dcel_maps.specs.Triangulations.{AllTriangles}
use Rattle.dcel_maps.proofs.maps.Soundness.{rev_live}
use Rattle.dcel_maps.proofs.maps.Triangles.{IsTriangleOf}
use Rattle.dcel_plane.specs.Plane.{TrianglesTurnLeft}
use Rattle.dcel_plane.specs.covering.Covering.{IsConvex}
use Rattle.dcel_plane.specs.segments.Segments.{AreEnds, Crosses, IsChannel, IsCorner, IsPeak, LeadsThrough, NarrowerBefore, NotWiderAfter, corner_before, corner_beyond, orient2d_by, width, widths}
use Rattle.dcel_plane.proofs.segments.Gates.{far, near}
use Rattle.dcel_plane.proofs.covering.Inside.{on_end, on_start}
use Rattle.dcel_plane.proofs.covering.Triangles.{of_face, round}

-- the ends of a channel
pub ends_of : (at : ℕ → Point) (s : Shape) (v w : ℕ) (list : List ℕ) → IsChannel at s v w list → AreEnds s v w
ends_of at s v w list channel = record {
  i = channel.start.side;
  live_i = channel.start.live;
  from_i = channel.start.from;
  j = channel.end.side;
  live_j = channel.end.live;
  from_j = channel.end.from;
}

-- the rest of a channel
leads_from : (at : ℕ → Point) (s : Shape) (v w f g : ℕ) (front rest : List ℕ) → LeadsThrough at s v w f (front ++ rest) g → (i : ℕ) × LeadsThrough at s v w i rest g
leads_from at s v w f g [] rest leads = (f, leads)
leads_from at s v w f g (h ∷ front) rest leads = leads_from at s v w (face_of s (rev h)) g front rest leads.2

module _ {V DE UE F : Type 0} (m : Mesh V DE UE F) (mesh : IsMesh m) (triangles : AllTriangles m.shape) where
  abbrev s : Shape
  s = m.shape

  -- an edge from v to w
  pub record Joins (v w : ℕ) : Type 0 where
    pub edge : ℕ
    pub live : IsLive s edge
    pub from : origin_of s edge ≡ v
    pub to : end_of s edge ≡ w

  -- two corners of an inner triangle have an edge
  corners_join : (f v w : ℕ) → 0 < f → v ≢ w → IsCorner s f v → IsCorner s f w → Joins v w
  corners_join f v w inner differ a b =
      let e = a.side in
      let in_e : 0 < face_of s a.side = subst (λ (i : ℕ). 0 < i) (sym a.on) inner in
      let tri = round m mesh triangles a.side a.live in_e in
      of_face m mesh (face_of s a.side) a.side (next_of s a.side) (prev_of s a.side) tri (λ k. origin_of s k ≡ w → Joins v w)
      (λ is. absurd (differ (sym a.from ∙ is)))
      (λ is. record { edge = a.side; live = a.live; from = a.from; to = sym (mesh.sound.joined a.side a.live) ∙ is })
      (λ is. record {
        edge = rev (prev_of s a.side);
        live = rev_live (map_of s) (prev_of s a.side) tri.live_z;
        from = sym (mesh.sound.joined (prev_of s a.side) tri.live_z) ∙ ap (origin_of s) tri.next_z ∙ a.from;
        to = ap (origin_of s) (rev-rev (prev_of s a.side)) ∙ is;
      })
      b.side b.live (b.on ∙ sym a.on) b.from

  pub empty_joins : (at : ℕ → Point) (v w : ℕ) → v ≢ w → IsChannel at s v w [] → Joins v w
  empty_joins at v w differ channel =
      corners_join channel.first v w channel.inner differ channel.start (subst (λ (i : ℕ). IsCorner s i w) (sym channel.leads) channel.end)

  module _ (at : ℕ → Point) (plane : TrianglesTurnLeft at m.shape) (convex : IsConvex at m.shape) (v w : ℕ) (ends : AreEnds m.shape v w) where
    abbrev off : ℕ → ℤ
    off k = orient2d_by at v w k

    -- the corner before h lies between its ends, across the segment
    record Rises (h : ℕ) : Type 0 where
      above : off (origin_of s h) <ℤ off (corner_before s h)
      below : off (corner_before s h) <ℤ off (end_of s h)

    module _ (h : ℕ) (crosses : Crosses at m.shape v w h) where
      tri : IsTriangleOf (map_of s) (face_of s h) h (next_of s h) (prev_of s h)
      tri = near m mesh triangles at plane convex v w ends h crosses

      tri_far : IsTriangleOf (map_of s) (face_of s (rev h)) (rev h) (next_of s (rev h)) (prev_of s (rev h))
      tri_far = far m mesh triangles at plane convex v w ends h crosses

      first_rises : (f : ℕ) → face_of s h ≡ f → IsCorner s f v → Rises h
      first_rises f on corner =
          let zero : off (origin_of s corner.side) ≡ pos 0 = subst (λ (i : ℕ). off i ≡ pos 0) (sym corner.from) (on_end (at v) (at w)) in
          of_face m mesh (face_of s h) h (next_of s h) (prev_of s h) tri (λ k. off (origin_of s k) ≡ pos 0 → Rises h)
          (λ z. absurd (let a = crosses.right in omega (arith, ordered, a, z)))
          (λ z. absurd (let a = crosses.left in let b = subst (λ (i : ℕ). off i ≡ pos 0) (mesh.sound.joined h crosses.live) z in omega (arith, ordered, a, b)))
          (λ z. let a = crosses.right in let b = crosses.left in record { above = omega (arith, ordered, a, z); below = omega (arith, ordered, b, z) })
          corner.side corner.live (corner.on ∙ sym on) zero

      last_peaks : (g : ℕ) → face_of s (rev h) ≡ g → IsCorner s g w → Rises h → IsPeak at s v w h
      last_peaks g on corner rises =
          let zero : off (origin_of s corner.side) ≡ pos 0 = subst (λ (i : ℕ). off i ≡ pos 0) (sym corner.from) (on_start (at v) (at w)) in
          of_face m mesh (face_of s (rev h)) (rev h) (next_of s (rev h)) (prev_of s (rev h)) tri_far (λ k. off (origin_of s k) ≡ pos 0 → IsPeak at s v w h)
          (λ z. absurd (let a = crosses.left in omega (arith, ordered, a, z)))
          (λ z. absurd (let a = crosses.right in
          let b = subst (λ (i : ℕ). off i ≡ pos 0) (mesh.sound.joined (rev h) tri_far.live_x ∙ ap (origin_of s) (rev-rev h)) z in omega (arith, ordered, a, b)))
          (λ z. let a = crosses.right in
          let b = crosses.left in record { above = rises.above; below = rises.below; above_too = omega (arith, ordered, a, z); below_too = omega (arith, ordered, b, z) })
          corner.side corner.live (corner.on ∙ sym on) zero

      -- the next one, k: if it is wider, so is its corner between its ends, and if it isn't, h is a peak
      record Goes (k : ℕ) : Type 0 where
        wider : width at s v w h <ℤ width at s v w k → Rises k
        not_wider : width at s v w k ≤ℤ width at s v w h → Rises h → IsPeak at s v w h

      abbrev r : ℕ
      r = origin_of m.shape h

      abbrev y : ℕ
      y = corner_beyond m.shape h

      goes_after : Crosses at s v w (next_of s (rev h)) → Goes (next_of s (rev h))
      goes_after d =
          let from : origin_of s (next_of s (rev h)) ≡ r = mesh.sound.joined (rev h) tri_far.live_x ∙ ap (origin_of s) (rev-rev h) in
          let to : end_of s (next_of s (rev h)) ≡ y = sym (mesh.sound.joined (next_of s (rev h)) tri_far.live_y) ∙ ap (origin_of s) tri_far.next_y in
          let x_is : corner_before s (next_of s (rev h)) ≡ end_of s h = ap (origin_of s) tri_far.prev_y in
          let e = ap off from in
          let t = ap off to in
          let x = ap off x_is in
          let a = subst (λ (i : ℕ). pos 0 <ℤ off i) to d.left in
          let b = crosses.right in
          let p = crosses.left in
          record {
            wider = λ more. record { above = omega (arith, ordered, e, x, b, p); below = omega (arith, ordered, e, t, x, more) };
            not_wider = λ less rises. record { above = rises.above; below = rises.below; above_too = omega (arith, ordered, a, b); below_too = omega (arith, ordered, e, t, less) };
          }

      goes_before : Crosses at s v w (prev_of s (rev h)) → Goes (prev_of s (rev h))
      goes_before d =
          let to : end_of s (prev_of s (rev h)) ≡ end_of s h = sym (mesh.sound.joined (prev_of s (rev h)) tri_far.live_z) ∙ ap (origin_of s) tri_far.next_z in
          let x_is : corner_before s (prev_of s (rev h)) ≡ r =
          ap (origin_of s) tri_far.prev_z ∙ mesh.sound.joined (rev h) tri_far.live_x ∙ ap (origin_of s) (rev-rev h) in
          let t = ap off to in
          let x = ap off x_is in
          let a = d.right in
          let b = crosses.right in
          let p = crosses.left in
          record {
            wider = λ more. record { above = omega (arith, ordered, t, x, more); below = omega (arith, ordered, t, x, b, p) };
            not_wider = λ less rises. record { above = rises.above; below = rises.below; above_too = omega (arith, ordered, t, less); below_too = omega (arith, ordered, a, p) };
          }

      goes_on : (k : ℕ) → Crosses at s v w k → face_of s k ≡ face_of s (rev h) → Goes k
      goes_on k c on =
          of_face m mesh (face_of s (rev h)) (rev h) (next_of s (rev h)) (prev_of s (rev h)) tri_far (λ i. Crosses at s v w i → Goes i)
          (λ d. absurd (let a = crosses.left in let b = d.right in omega (arith, ordered, a, b))) goes_after goes_before k c.live on c

      next_rises : (k : ℕ) → Crosses at s v w k → face_of s k ≡ face_of s (rev h) → Rises h → IsPeak at s v w h ⊎ Rises k
      next_rises k c on rises =
          by_lt_z (width at s v w h) (width at s v w k) (λ more. inr ((goes_on k c on).wider more)) (λ not. inl ((goes_on k c on).not_wider not rises))

    -- a peak of a list
    pub record HasPeak (list : List ℕ) : Type 0 where
      pub front : List ℕ
      pub top : ℕ
      pub back : List ℕ
      pub parts : list ≡ front ++ (top ∷ back)
      pub peak : IsPeak at s v w top

    peak_from : (h : ℕ) (rest : List ℕ) (f g : ℕ) → LeadsThrough at s v w f (h ∷ rest) g → IsCorner s g w → Rises h → HasPeak (h ∷ rest)
    peak_from h [] f g leads corner rises =
        record { front = []; top = h; back = []; parts = refl; peak = last_peaks h leads.0 g leads.2 corner rises }
    peak_from h (k ∷ rest) f g leads corner rises = elim (next_rises h leads.0 k leads.2.0 leads.2.1 rises) [
      | inl peak ↦ record { front = []; top = h; back = k ∷ rest; parts = refl; peak = peak }
      | inr rises_k ↦
          let on = peak_from k rest (face_of s (rev h)) g leads.2 corner rises_k in
          record { front = h ∷ on.front; top = on.top; back = on.back; parts = ap (λ (l : List ℕ). h ∷ l) on.parts; peak = on.peak }
    ]

    pub has_peak : (h : ℕ) (rest : List ℕ) → IsChannel at s v w (h ∷ rest) → HasPeak (h ∷ rest)
    has_peak h rest channel =
        peak_from h rest channel.first channel.last channel.leads channel.end
        (first_rises h channel.leads.0 channel.first channel.leads.1 channel.start)

    -- one that is wider than the one before it, and not narrower than the one after it, is a peak
    peaks_at : (h : ℕ) (back : List ℕ) (f g : ℕ) → LeadsThrough at s v w f (h ∷ back) g → IsCorner s g w → Rises h → NotWiderAfter at s v w h back → IsPeak at s v w h
    peaks_at h [] f g leads corner rises after = last_peaks h leads.0 g leads.2 corner rises
    peaks_at h (k ∷ rest) f g leads corner rises after = (goes_on h leads.0 k leads.2.0 leads.2.1).not_wider (after k rest refl) rises

    rises_at : (j : ℕ) (front : List ℕ) (h : ℕ) (back : List ℕ) (f g : ℕ) → LeadsThrough at s v w f (j ∷ (front ++ (h ∷ back))) g → NarrowerBefore at s v w (j ∷ front) h → Rises h
    rises_at j [] h back f g leads before = (goes_on j leads.0 h leads.2.0 leads.2.1).wider (before [] j refl)
    rises_at j (k ∷ front) h back f g leads before =
        rises_at k front h back (face_of s (rev j)) g leads.2 (λ more i is. before (j ∷ more) i (ap (λ (l : List ℕ). j ∷ l) is))

    pub is_peak : (front : List ℕ) (h : ℕ) (back : List ℕ) → IsChannel at s v w (front ++ (h ∷ back)) → NarrowerBefore at s v w front h → NotWiderAfter at s v w h back → IsPeak at s v w h
    is_peak [] h back channel before after =
        peaks_at h back channel.first channel.last channel.leads channel.end (first_rises h channel.leads.0 channel.first channel.leads.1 channel.start) after
    is_peak (j ∷ front) h back channel before after =
        let rises = rises_at j front h back channel.first channel.last channel.leads before in
        let rest = leads_from at s v w channel.first channel.last (j ∷ front) (h ∷ back) channel.leads in
        peaks_at h back rest.0 channel.last rest.1 channel.end rises after

-- the widths of a list are positive together
pub some_width : (at : ℕ → Point) (s : Shape) (v w f g : ℕ) (list : List ℕ) → LeadsThrough at s v w f list g → pos 0 ≤ℤ widths at s v w list
some_width at s v w f g [] leads = least
  where
    least : pos 0 ≤ℤ pos 0
    least = omega (arith, ordered)
some_width at s v w f g (h ∷ rest) leads =
    let a = leads.0.right in
    let b = leads.0.left in
    let r = some_width at s v w (face_of s (rev h)) g rest leads.2 in
    omega (arith, ordered, a, b, r)

pub more_width : (at : ℕ → Point) (s : Shape) (v w f g h : ℕ) (rest : List ℕ) → LeadsThrough at s v w f (h ∷ rest) g → pos 0 <ℤ widths at s v w (h ∷ rest)
more_width at s v w f g h rest leads =
    let a = leads.0.right in
    let b = leads.0.left in
    let r = some_width at s v w (face_of s (rev h)) g rest leads.2 in
    omega (arith, ordered, a, b, r)
