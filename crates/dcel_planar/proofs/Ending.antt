-- The hull closed round a vertex: where neither corner beside it turns in, it is a hull.
use Rattle.std.proofs.Common.{OnOk, Result, Ok, Err, ◌≡◌, ◌≢◌, ◌⊎◌, ◌∙◌, inl, inr, ℕ, List, [], pos, ℤ, ◌<ℤ◌, ◌≤ℤ◌, sym, ap, subst, arith}
use Rattle.std.proofs.lemmas.Int.{by_lt_z}
use Rattle.dcel_maps.specs.Shapes.{IsLive, IsMesh, Mesh, Shape, end_of, face_of, map_of, next_of, origin_of, prev_of}
use Rattle.dcel_maps.specs.Triangulations.{AllTriangles}
use Rattle.dcel_fixed.specs.HalfEdges.{rev}
use Rattle.dcel_maps.proofs.maps.Soundness.{rev_live}
use Rattle.dcel_maps.proofs.shapes.Maps.{map-sound}
use Rattle.dcel_maps.proofs.walks.Links.{links_stand, next-live, prev-live}
use Rattle.dcel_maps.proofs.words.Reading.{face-next, face-prev}
use Rattle.dcel_predicates.specs.declared.point.Point.{Point}
use Rattle.dcel_predicates.specs.Determinants.{orient2d_of}
use Rattle.dcel_predicates.proofs.Points.{orient2d-turned}
use Rattle.dcel_predicates.proofs.Signs.{ordered}
use Rattle.dcel_plane.specs.Plane.{TrianglesTurnLeft, point_at}
use Rattle.dcel_plane.specs.hull.Closing.{IsClosedBeside}
use Rattle.dcel_plane.proofs.hull.Closed.{closed_convex}
use Rattle.dcel_plane.proofs.hull.ClosingStep.{turns_nowhere}
use Rattle.dcel_plane.proofs.hull.PutBeside.{straight_convex}
use Rattle.dcel_plane.proofs.hull.ThinEnd.{thin_convex, thin_hull}
use Rattle.dcel_planar.specs.Corners.{GoesOnClosing, IsClosedAfter, IsClosedBefore, StartsOutside, TurnsIn}
use Rattle.dcel_planar.specs.Growing.{HasHull, HasOutside, IsFlat, IsOpen, IsTriangleMesh}
use Rattle.dcel_planar.proofs.Recovered.{settled_outlined}

not_positive : (x : ℤ) → ¬ (pos 0 <ℤ x) → x ≤ℤ pos 0
not_positive x never = by_lt_z (pos 0) x (λ more. absurd (never more)) (λ not. not)

-- what follows from what holds of a result that is Ok
pub on_ok : {A E P Q : Type 0} (r : Result A E) → (P → Q) → OnOk r P → OnOk r Q
on_ok (Ok x) f p = f p
on_ok (Err e) f p = p

-- where the outer face turns in, an edge is still to be looked at
pub turns_due : {DE UE F : Type 0} (m : Mesh Point DE UE F) → IsMesh m → (due : List ℕ) → ∥ HasOutside m due ∥₁ → (e : ℕ) → IsLive m.shape e → face_of m.shape e ≡ 0
    → TurnsIn m e → due ≢ []
turns_due m mesh due outlined e live on turns none = elim (settled_outlined m due outlined none) [
  | inl flat ↦
      let next = next-live mesh.sound e live in
      let straight = flat.straight.line e (rev (next_of m.shape e)) live (rev_live (map_of m.shape) (next_of m.shape e) next) in
      absurd (omega (arith, ordered, straight, turns))
  | inr has ↦ absurd (turns_nowhere m mesh (point_at m) has.convex e live on turns)
]

module _ {DE UE F : Type 0} (m : Mesh Point DE UE F) (t : ℕ) (is : IsOpen m t) where
  abbrev s : Shape
  s = m.shape

  abbrev at : ℕ → Point
  at = point_at m

  -- one outer half edge starts there
  one_there : (h k : ℕ) → IsLive s h → IsLive s k → face_of s h ≡ 0 → face_of s k ≡ 0 → origin_of s h ≡ t → origin_of s k ≡ t → h ≡ k
  one_there h k live_h live_k on_h on_k starts_h starts_k = elim is.from [
    | inl thick ↦ thick.0.once h k live_h live_k on_h on_k (starts_h ∙ sym starts_k)
    | inr thin ↦ thin.once_t h k live_h live_k on_h on_k starts_h starts_k
  ]

  pub closed_after : (e : ℕ) → StartsOutside m t e → ¬ TurnsIn m e → IsClosedAfter m t
  closed_after e outside never h live on starts =
      let same : e ≡ h = one_there e h outside.live live outside.outer on outside.start starts in
      let turned = orient2d-turned (at t) (at (end_of s h)) (at (end_of s (next_of s h))) in
      subst (λ (z : ℤ). z ≤ℤ pos 0) (sym turned)
      (not_positive (orient2d_of (at t) (at (end_of s h)) (at (end_of s (next_of s h))))
      (subst (λ (v : ℕ). ¬ (pos 0 <ℤ orient2d_of (at v) (at (end_of s h)) (at (end_of s (next_of s h))))) starts (subst (λ (k : ℕ). ¬ TurnsIn m k) same never)))

  pub closed_before : IsMesh m → (e : ℕ) → IsLive s e → face_of s e ≡ 0 → end_of s (next_of s e) ≡ t → ¬ TurnsIn m e → IsClosedBefore m t
  closed_before mesh e live_e on_e ends_e never h live on ends =
      let sound = map-sound mesh.sound in
      let x = next_of s e in
      let live_x : IsLive s x = next-live mesh.sound e live_e in
      let on_x : face_of s x ≡ 0 = face-next (map_of s) s.words (links_stand mesh.sound) e live_e ∙ on_e in
      let nexts : next_of s x ≡ next_of s h = one_there (next_of s x) (next_of s h) (next-live mesh.sound x live_x) (next-live mesh.sound h live)
      (face-next (map_of s) s.words (links_stand mesh.sound) x live_x ∙ on_x) (face-next (map_of s) s.words (links_stand mesh.sound) h live ∙ on)
      (mesh.sound.joined x live_x ∙ ends_e) (mesh.sound.joined h live ∙ ends) in
      let same : x ≡ h = sym (sound.prev-next x live_x) ∙ ap (prev_of s) nexts ∙ sound.prev-next h live in
      let before : prev_of s h ≡ e = ap (prev_of s) (sym same) ∙ sound.prev-next e live_e in
      let start : end_of s e ≡ origin_of s h = sym (mesh.sound.joined e live_e) ∙ ap (origin_of s) same in
      not_positive (orient2d_of (at (origin_of s (prev_of s h))) (at (origin_of s h)) (at t))
      (subst (λ (v : ℕ). ¬ (pos 0 <ℤ orient2d_of (at (origin_of s (prev_of s h))) (at (origin_of s h)) (at v))) ends_e
      (subst (λ (v : ℕ). ¬ (pos 0 <ℤ orient2d_of (at (origin_of s (prev_of s h))) (at v) (at (end_of s x)))) start
      (subst (λ (k : ℕ). ¬ (pos 0 <ℤ orient2d_of (at (origin_of s k)) (at (end_of s e)) (at (end_of s x)))) (sym before) never)))

  pub closed_hull : IsMesh m → AllTriangles s → TrianglesTurnLeft at s → IsClosedAfter m t → IsClosedBefore m t → HasHull m
  closed_hull mesh triangles plane after before =
      let closed : IsClosedBeside at s t = record { after = after; before = before } in
      let stands = is.closing.stands in
      elim is.from [
        | inl thick ↦ record {
          inner = is.inner;
          convex = closed_convex m mesh at thick.0 t is.closing thick.1 closed stands.0 stands.1 stands.2 stands.3;
          hull = thick.0;
        }
        | inr thin ↦ record {
          inner = is.inner;
          convex = thin_convex m mesh triangles at plane t is.closing thin closed stands.0 stands.1 stands.2 stands.3;
          hull = thin_hull m mesh triangles at plane t is.closing thin closed stands.0 stands.1 stands.2 stands.3;
        }
      ]

module _ {DE UE F : Type 0} where
  -- no further triangle after the vertex
  pub stops_after : (m n : Mesh Point DE UE F) (t e : ℕ) → StartsOutside m t e → n ≡ m → ¬ TurnsIn m e → IsOpen n t → IsClosedAfter n t
  stops_after m n t e outside same never =
      subst (λ (x : Mesh Point DE UE F). IsOpen x t → IsClosedAfter x t) (sym same) (λ is. closed_after m t is e outside never)

  -- nor before it
  pub stops_before : (m n : Mesh Point DE UE F) (t e : ℕ) → IsMesh m → IsLive m.shape e → face_of m.shape e ≡ 0 → end_of m.shape (next_of m.shape e) ≡ t → n ≡ m → ¬ TurnsIn m e
      → IsOpen n t → IsClosedBefore n t
  stops_before m n t e mesh live on ends same never =
      subst (λ (x : Mesh Point DE UE F). IsOpen x t → IsClosedBefore x t) (sym same) (λ is. closed_before m t is mesh e live on ends never)

  -- the half edge before an outer one
  module _ (m : Mesh Point DE UE F) (mesh : IsMesh m) (h k : ℕ) (live : IsLive m.shape h) (is : k ≡ prev_of m.shape h) where
    pub live_before : IsLive m.shape k
    live_before = subst (λ (i : ℕ). IsLive m.shape i) (sym is) (prev-live mesh.sound h live)

    pub outer_before : face_of m.shape h ≡ 0 → face_of m.shape k ≡ 0
    outer_before on = ap (face_of m.shape) is ∙ face-prev (map_of m.shape) m.shape.words (links_stand mesh.sound) h live ∙ on

    leads_on : next_of m.shape k ≡ h
    leads_on = ap (next_of m.shape) is ∙ (map-sound mesh.sound).next-prev h live

    pub ends_there : end_of m.shape (next_of m.shape k) ≡ end_of m.shape h
    ends_there = ap (end_of m.shape) leads_on

    pub ends_before : end_of m.shape k ≡ origin_of m.shape h
    ends_before = sym (mesh.sound.joined k live_before) ∙ ap (origin_of m.shape) leads_on

  -- both sides closed, one after the other
  pub sides_closed : (old mid new : Mesh Point DE UE F) (t b : ℕ) → IsMesh new → IsTriangleMesh new → GoesOnClosing old mid → GoesOnClosing mid new
      → (IsOpen mid t → IsClosedAfter mid t) → end_of mid.shape b ≡ t → (IsOpen new (end_of mid.shape b) → IsClosedBefore new (end_of mid.shape b))
      → IsOpen old t → HasHull new
  sides_closed old mid new t b mesh sound first second after ends before is =
      let opened = first.open_still t is in
      let open_new = second.open_still t opened in
      closed_hull new t open_new mesh sound.triangles sound.plane (second.after t opened (after opened))
      (subst (λ (v : ℕ). IsOpen new v → IsClosedBefore new v) ends before open_new)

module _ {DE UE F : Type 0} (old new : Mesh Point DE UE F) (due items : List ℕ) (way : HasOutside old due) (goes_on : GoesOnClosing old new) where
  -- a line, or a hull, is as it was
  same_line : IsFlat old → IsFlat new
  same_line flat = subst (λ (m : Mesh Point DE UE F). IsFlat m) (sym (goes_on.convex (straight_convex (point_at old) old.shape flat.straight))) flat

  same_hull : HasHull old → HasHull new
  same_hull has = subst (λ (m : Mesh Point DE UE F). HasHull m) (sym (goes_on.convex has.convex)) has

  -- an open hull is closed, or still open
  pub closed_way : ((t : ℕ) → IsOpen old t → HasHull new) → IsFlat new ⊎ HasHull new
  closed_way closes = elim way [
    | inl flat ↦ inl (same_line flat)
    | inr more ↦ elim more [ inl has ↦ inr (same_hull has) | inr opened ↦ inr (closes opened.1.0 opened.1.1) ]
  ]

  pub still_way : (due ≢ [] → items ≢ []) → HasOutside new items
  still_way listed = elim way [
    | inl flat ↦ inl (same_line flat)
    | inr more ↦ elim more [
      | inl has ↦ inr (inl (same_hull has))
      | inr opened ↦ inr (inr (listed opened.0, (opened.1.0, goes_on.open_still opened.1.0 opened.1.1)))
    ]
  ]
