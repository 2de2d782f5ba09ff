use Rattle.std.proofs.Common.{◌≡◌, ◌≤◌, ◌-◌, length, map, take}
use Rattle.dcel_predicates.specs.declared.point.Point.{Point}
use Rattle.mesh_page.specs.declared.points.MeshPagePoint.{MeshPagePoint}
use Rattle.mesh_page.proofs.points.read_points.Given as goal

-- the first points were read
abbrev pub invariant-loop-at : goal.invariant-loop-at
invariant-loop-at g l = record {
  up_to : l.at ≤ length l.given;
  x : map (λ (p : Point). p.x) l.points.items ≡ map (λ (p : MeshPagePoint). p.x) (take l.at l.given);
  y : map (λ (p : Point). p.y) l.points.items ≡ map (λ (p : MeshPagePoint). p.y) (take l.at l.given);
}

abbrev pub decreases-loop-at : goal.decreases-loop-at
decreases-loop-at g l = length l.given - l.at
