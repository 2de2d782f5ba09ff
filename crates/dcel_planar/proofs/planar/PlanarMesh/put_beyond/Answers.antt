use Rattle.std.proofs.Common.{◌≡◌, ◌++◌, inl, refl, subst, sym}
use Rattle.dcel_maps.specs.Removals.{Closed}
use Rattle.dcel_maps.specs.Shapes.{Mesh}
use Rattle.dcel_predicates.specs.declared.point.Point.{Point}
use Rattle.dcel_planar.specs.Growing.{IsFlat, IsJoined, IsInsertionReason}
use Rattle.dcel_planar.proofs.Puts.{put_back, put_holds, stays_listed, stays_triangulated}
use Rattle.dcel_planar.proofs.Whole.{flat_listed, flat_triangulated}
use Rattle.dcel_maps.specs.edits.Line.{line_extended}
use Rattle.dcel_planar.proofs.Flat.{extended_flat}
use Rattle.dcel_planar.proofs.Paths.{extended_joined}
use Rattle.dcel_planar.proofs.Ends.{put_edges}
use Rattle.dcel_planar.proofs.planar.PlanarMesh.put_beyond.Goals as goal

pub returns-in_default-clause-refused : goal.returns-in_default-clause-refused
returns-in_default-clause-refused g c = (
  subst (IsInsertionReason c.args.self.now.dcel.shape) (sym c.take_back.ensures.answer) tt,
  record {
    mesh = (put_back c.args.self.now.dcel _ _ _ c.args.point _ c.every_mesh.ensures c.args.self.now.triangulated.closed c.in_ok-vertex.ensures.edit
        c.in_ok-vertex.ensures.answer c.in_default.ensures.refused c.take_back.ensures.edit);
    due = refl;
  },
)

pub returns-in_default-clause-lists : goal.returns-in_default-clause-lists
returns-in_default-clause-lists g c = let due = c.args.self.now.due.items in stays_listed c.args.self.now.dcel _ due due (put_back c.args.self.now.dcel _ _ _ c.args.point _ c.every_mesh.ensures c.args.self.now.triangulated.closed c.in_ok-vertex.ensures.edit
    c.in_ok-vertex.ensures.answer c.in_default.ensures.refused c.take_back.ensures.edit) refl

pub returns-in_default-clause-flat : goal.returns-in_default-clause-flat
returns-in_default-clause-flat g c = subst (λ (m : Mesh Point (Unit {0}) g.row.UE.Denot (Unit {0})). IsFlat m) (sym (put_back c.args.self.now.dcel _ _ _ c.args.point _ c.every_mesh.ensures c.args.self.now.triangulated.closed c.in_ok-vertex.ensures.edit
    c.in_ok-vertex.ensures.answer c.in_default.ensures.refused c.take_back.ensures.edit)) c.requires.flat

pub returns-clause-flat : goal.returns-clause-flat
returns-clause-flat g c =
    let old = c.args.self.now.dcel in
    put_holds (λ m. IsFlat m) (λ m v h e f. line_extended m c.args.end v h e) _ _ _ 1 0 old _ _ c.args.point _
    (λ h e f mid done.
    extended_flat old c.every_mesh.ensures c.args.point c.requires.flat c.args.self.now.triangulated.closed mid c.args.end c.requires.place.1 c.requires.place.2 h e done)
    c.in_ok-vertex.ensures.edit c.in_ok-vertex.ensures.answer c.in-Ok.ensures.edit c.in_ok-vertex.ensures.mesh c.extend_line.ensures.mesh

pub returns-clause-lists : goal.returns-clause-lists
returns-clause-lists g c =
    let flat : IsFlat c.extend_line.new.dcel =
    let old = c.args.self.now.dcel in
    put_holds (λ m. IsFlat m) (λ m v h e f. line_extended m c.args.end v h e) _ _ _ 1 0 old _ _ c.args.point _
    (λ h e f mid done.
    extended_flat old c.every_mesh.ensures c.args.point c.requires.flat c.args.self.now.triangulated.closed mid c.args.end c.requires.place.1 c.requires.place.2 h e done)
    c.in_ok-vertex.ensures.edit c.in_ok-vertex.ensures.answer c.in-Ok.ensures.edit c.in_ok-vertex.ensures.mesh c.extend_line.ensures.mesh in
    λ lacking lists. flat_listed c.extend_line.new.dcel (c.args.self.now.due.items ++ lacking) flat

pub returns-clause-edges : goal.returns-clause-edges
returns-clause-edges g c =
    put_edges (λ m v h e f. line_extended m c.args.end v h e) (λ m v. _) (λ m v h e f. (refl, refl)) _ _ _ 1 0 c.args.self.now.dcel _ _ c.args.point _ c.every_mesh.ensures
    c.in_ok-vertex.ensures.edit c.in-Ok.ensures.edit

pub invariant_of-self-in-Ok : goal.invariant_of-self-in-Ok
invariant_of-self-in-Ok g c =
    let flat : IsFlat c.extend_line.new.dcel =
    let old = c.args.self.now.dcel in
    put_holds (λ m. IsFlat m) (λ m v h e f. line_extended m c.args.end v h e) _ _ _ 1 0 old _ _ c.args.point _
    (λ h e f mid done.
    extended_flat old c.every_mesh.ensures c.args.point c.requires.flat c.args.self.now.triangulated.closed mid c.args.end c.requires.place.1 c.requires.place.2 h e done)
    c.in_ok-vertex.ensures.edit c.in_ok-vertex.ensures.answer c.in-Ok.ensures.edit c.in_ok-vertex.ensures.mesh c.extend_line.ensures.mesh in
    let joined : IsJoined c.args.self.now.dcel.shape → IsJoined c.extend_line.new.dcel.shape =
    extended_joined _ _ c.args.self.now.dcel c.append.new.dcel c.extend_line.new.dcel c.args.point c.in_ok-vertex.vertex c.in_ok-vertex.ensures.edit c.requires.flat.alone c.args.end
    c.requires.place.1 c.in-Ok.ensures.edit in
    let closed : c.extend_line.new.dcel.shape.removal ≡ Closed =
    put_holds (λ m. m.shape.removal ≡ Closed) (λ m v h e f. line_extended m c.args.end v h e) _ _ _ 1 0 c.args.self.now.dcel _ _ c.args.point _
    (λ h e f mid done. c.args.self.now.triangulated.closed) c.in_ok-vertex.ensures.edit c.in_ok-vertex.ensures.answer c.in-Ok.ensures.edit c.in_ok-vertex.ensures.mesh c.extend_line.ensures.mesh in
    record { triangulated = flat_triangulated c.extend_line.new.dcel closed flat (joined c.args.self.now.triangulated.joined); outlined = ∣ inl flat ∣₁ }

pub invariant_of-self-in_default-clause-triangulated : goal.invariant_of-self-in_default-clause-triangulated
invariant_of-self-in_default-clause-triangulated g c =
    stays_triangulated c.args.self.now.dcel _
    (put_back c.args.self.now.dcel _ _ _ c.args.point _ c.every_mesh.ensures c.args.self.now.triangulated.closed c.in_ok-vertex.ensures.edit
    c.in_ok-vertex.ensures.answer c.in_default.ensures.refused c.take_back.ensures.edit)
    c.args.self.now.triangulated

pub invariant_of-self-in_default-clause-outlined : goal.invariant_of-self-in_default-clause-outlined
invariant_of-self-in_default-clause-outlined g c =
    ∣ inl (subst (λ (m : Mesh Point (Unit {0}) g.row.UE.Denot (Unit {0})). IsFlat m) (sym (put_back c.args.self.now.dcel _ _ _ c.args.point _ c.every_mesh.ensures c.args.self.now.triangulated.closed c.in_ok-vertex.ensures.edit
    c.in_ok-vertex.ensures.answer c.in_default.ensures.refused c.take_back.ensures.edit)) c.requires.flat) ∣₁
