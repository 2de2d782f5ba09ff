use Rattle.std.proofs.Common.{[], inl}
use Rattle.dcel_planar.proofs.Flat.{new_flat}
use Rattle.dcel_planar.proofs.Sound.{new-sound}
use Rattle.dcel_planar.proofs.planar.PlanarMesh.new.Goals as goal

pub invariant_of-result : goal.invariant_of-result
invariant_of-result g c =
    let m = c.in_ok-dcel.dcel in
    record {
      triangulated = (new-sound _ m [] c.in_ok-dcel.ensures.mesh c.in_ok-dcel.ensures.new).triangulated;
      outlined = ∣ inl (new_flat _ m c.in_ok-dcel.ensures.new) ∣₁;
    }

pub returns-clause-delaunay : goal.returns-clause-delaunay
returns-clause-delaunay g c =
    let m = c.in_ok-dcel.dcel in
    record { sound = new-sound _ m [] c.in_ok-dcel.ensures.mesh c.in_ok-dcel.ensures.new; hull = inl (new_flat _ m c.in_ok-dcel.ensures.new) }
