-- Segments of marked edges over an insertion: each edge is as it was, or two in its place.
use Rattle.std.proofs.Common.{◌≡◌, ◌⊎◌, inl, inr, ℕ, ◌/◌, ◌<◌, List, [], ◌∷◌, refl, sym, ◌∙◌, subst}
use Rattle.dcel_fixed.specs.HalfEdges.{rev}
use Rattle.dcel_predicates.specs.declared.point.Point.{Point}
use Rattle.dcel_maps.specs.Shapes.{IsLive, IsMesh, Mesh, end_of, map_of, origin_of}
use Rattle.dcel_maps.specs.Walking.{Leads}
use Rattle.dcel_maps.proofs.Liveness.{start-parts}
use Rattle.dcel_maps.proofs.maps.Soundness.{rev_live}
use Rattle.dcel_plane.specs.Plane.{point_at}
use Rattle.dcel_regions.specs.Marked.{IsMarked}
use Rattle.dcel_regions.specs.declared.mark.Mark.{Mark}
use Rattle.dcel_constrained.specs.Constraints.{HasConstraint, IsMarkedWay}
use Rattle.dcel_constrained.specs.Meeting.{LiesBetweenEnds}
use Rattle.dcel_constrained.specs.Splitting.{KeepsConstraints}
use Rattle.dcel_constrained.proofs.Between.{leads_ahead, leads_to, lies_rest, lies_sooner, lies_turned}

-- the same points under other names
pub between_of : (at to : ℕ → Point) (a b c : ℕ) → to a ≡ at a → to b ≡ at b → to c ≡ at c → LiesBetweenEnds at a b c → LiesBetweenEnds to a b c
between_of at to a b c ea eb ec lies = record { on = rw (ea, eb, ec) lies.on; inside = rw (ea, eb, ec) lies.inside }

-- b lies between t and w, if it lies between y and w, and t between y and b
between_rest : (at : ℕ → Point) (y w b t : ℕ) → LiesBetweenEnds at y w b → LiesBetweenEnds at y b t → LiesBetweenEnds at t w b
between_rest at y w b t lies near = lies_turned at w t b (lies_rest at w y b t (lies_turned at y w b lies) (lies_turned at y b t near))

module _ {DE F : Type 0} (m : Mesh Point DE Mark F) (mesh : IsMesh m) where
  pub starts_below : (h : ℕ) → IsLive m.shape h → origin_of m.shape h < m.shape.vertices
  starts_below h live = (start-parts m.shape mesh.sound h live).0

  pub ends_below : (h : ℕ) → IsLive m.shape h → end_of m.shape h < m.shape.vertices
  ends_below h live = starts_below (rev h) (rev_live (map_of m.shape) h live)

module _ {DE F : Type 0} (old new : Mesh Point DE Mark F) where
  -- the half edge h is as it was, and marked
  pub record IsAsWas (h : ℕ) : Type 0 where
    pub leads : Leads new.shape (origin_of old.shape h) (end_of old.shape h) h
    pub marked : IsMarked new (h / 2)

  -- in the place of the half edge h there are two, which meet in a vertex between its ends, and both are marked
  pub record IsTwo (h : ℕ) : Type 0 where
    pub middle : ℕ
    pub between : LiesBetweenEnds (point_at new) (origin_of old.shape h) (end_of old.shape h) middle
    pub first : ℕ
    pub leads : Leads new.shape (origin_of old.shape h) middle first
    pub marked : IsMarked new (first / 2)
    pub second : ℕ
    pub leads_on : Leads new.shape middle (end_of old.shape h) second
    pub marked_too : IsMarked new (second / 2)

  module _ (mesh : IsMesh old) (points : (v : ℕ) → v < old.shape.vertices → point_at new v ≡ point_at old v)
      (each : (h : ℕ) → IsLive old.shape h → IsMarked old (h / 2) → IsAsWas h ⊎ IsTwo h) where
    carried : (w y : ℕ) (list : List ℕ) → w < old.shape.vertices → IsMarkedWay old w y list → (more : List ℕ) × IsMarkedWay new w y more
    carried w y [] below is = ([], is)
    carried w y (h ∷ rest) below way =
        let along = way.0 in
        let b = end_of old.shape h in
        let at = point_at new in
        let below_y : y < old.shape.vertices = subst (λ (i : ℕ). i < old.shape.vertices) along.from (starts_below old mesh h along.live) in
        let further = carried w b rest below way.2 in
        let ahead : (b ≡ w) ⊎ LiesBetweenEnds at y w b =
        elim (leads_ahead (point_at old) old.shape y w b h along refl) [
          | inl is ↦ inl is
          | inr lies ↦ inr (between_of (point_at old) at y w b (points y below_y) (points w below) (points b (ends_below old mesh h along.live)) lies)
        ] in
        elim (each h along.live way.1) [
          | inl was ↦
              let leads = leads_to at new.shape y w b h was.leads.live (was.leads.start ∙ along.from) was.leads.end ahead in
              (h ∷ further.0, (leads, was.marked, subst (λ (x : ℕ). IsMarkedWay new w x further.0) (sym was.leads.end) further.1))
          | inr two ↦
              let t = two.middle in
              let near : LiesBetweenEnds at y b t = subst (λ (i : ℕ). LiesBetweenEnds at i b t) along.from two.between in
              let first_ahead : (t ≡ w) ⊎ LiesBetweenEnds at y w t = elim ahead [
                | inl is ↦ inr (subst (λ (i : ℕ). LiesBetweenEnds at y i t) is near)
                | inr lies ↦ inr (lies_sooner at y w b t lies near)
              ] in
              let then_ahead : (b ≡ w) ⊎ LiesBetweenEnds at (end_of new.shape two.first) w b = elim ahead [
                | inl is ↦ inl is
                | inr lies ↦ inr (subst (λ (i : ℕ). LiesBetweenEnds at i w b) (sym two.leads.end) (between_rest at y w b t lies near))
              ] in
              let leads = leads_to at new.shape y w t two.first two.leads.live (two.leads.start ∙ along.from) two.leads.end first_ahead in
              let leads_on =
              leads_to at new.shape (end_of new.shape two.first) w b two.second two.leads_on.live (two.leads_on.start ∙ sym two.leads.end) two.leads_on.end then_ahead in
              let rest_leads = subst (λ (x : ℕ). IsMarkedWay new w x further.0) (sym two.leads_on.end) further.1 in
              (two.first ∷ two.second ∷ further.0, (leads, two.marked, (leads_on, two.marked_too, rest_leads)))
        ]

    comes_below : (w y : ℕ) (list : List ℕ) → y < old.shape.vertices → IsMarkedWay old w y list → w < old.shape.vertices
    comes_below w y [] below is = subst (λ (i : ℕ). i < old.shape.vertices) is below
    comes_below w y (h ∷ rest) below way = comes_below w (end_of old.shape h) rest (ends_below old mesh h way.0.live) way.2

    by_list : (v w : ℕ) (list : List ℕ) → IsMarkedWay old w v list → HasConstraint new v w
    by_list v w [] is = ([], is)
    by_list v w (h ∷ rest) way =
        let below : v < old.shape.vertices = subst (λ (i : ℕ). i < old.shape.vertices) way.0.from (starts_below old mesh h way.0.live) in
        carried w v (h ∷ rest) (comes_below w v (h ∷ rest) below way) way

    pub constraints_kept : KeepsConstraints old new
    constraints_kept v w has = by_list v w has.0 has.1
