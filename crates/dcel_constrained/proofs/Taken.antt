-- A vertex of constrained triangles removed: what is told of the mesh from before its edges were freed.
use Rattle.std.proofs.Common.{◌≡◌, ℕ, Result, Ok, Err, IfErr, IfOk, OnOk, sym, ap, ◌∙◌, subst, arith}
use Rattle.dcel_maps.specs.Conditions.{HasRoom}
use Rattle.dcel_maps.specs.Shapes.{Mesh, Shape}
use Rattle.dcel_predicates.specs.declared.point.Point.{Point}
use Rattle.dcel_delaunay.specs.Removing.{FailsToRemove, FailsToTakeOut, IsInnerVertex, Loses}
use Rattle.dcel_delaunay.specs.declared.errors.RemovalError.{RemovalError}
use Rattle.dcel_delaunay.specs.declared.errors.RemovalError.TheVariants.{NoVertex, OutOfMemory, TooManyPoints, Unfinished}
use Rattle.dcel_delaunay.specs.declared.removed.Removed.{Removed}
use Rattle.dcel_delaunay.proofs.Lost.{lost_before}
use Rattle.dcel_planar.specs.Growing.{Keeps}
use Rattle.dcel_planar.specs.Outcomes.{IsWholeMesh}
use Rattle.dcel_planar.specs.declared.planar.PlanarMesh.{PlanarMesh}
use Rattle.dcel_regions.specs.declared.mark.Mark.{Mark}
use Rattle.dcel_constrained.specs.Removing.{FreesEdgesOf, LeavesConstraints, LosesConstraintsOf}

module _ {DE F : Type 0} where
  module _ (old mid new : Mesh Point DE Mark F) (v : ℕ) (frees : FreesEdgesOf old mid v) where
    vertices : mid.shape.vertices ≡ old.shape.vertices
    vertices = ap (λ (s : Shape). s.vertices) frees.shape

    pub freed_loses : (r : Removed) → Loses mid new v r → Loses old new v r
    freed_loses r loses = lost_before old mid new v r frees.points vertices loses

    pub freed_keeps : Keeps mid new → Keeps old new
    freed_keeps keeps = record {
      closed = keeps.closed;
      vertices = keeps.vertices ∙ vertices;
      points = keeps.points ∙ frees.points;
      edges = (let e = keeps.edges in let s = ap (λ (s : Shape). s.edges) frees.shape in omega (arith, e, s));
    }

-- where there is room, memory ran out
pub out_keeps : {A : Type 0} (old new : PlanarMesh Mark A) (v : ℕ) → ¬ (IsInnerVertex old.dcel.shape v × ¬ HasRoom old.dcel.shape 0 1 2) → (e : RemovalError) → FailsToTakeOut old new v e
    → Keeps old.dcel new.dcel
out_keeps old new v room NoVertex fails = absurd fails
out_keeps old new v room TooManyPoints fails = absurd (room (fails.0, fails.1))
out_keeps old new v room OutOfMemory fails = fails
out_keeps old new v room (Unfinished removed) fails = absurd fails

-- what the last flips return
module _ {A : Type 0} (old new : PlanarMesh Mark A) (v : ℕ) (removed : Removed) where
  pub settled_loses : (r : Result Removed RemovalError) → IfOk r (λ x. x ≡ removed) → Loses old.dcel new.dcel v removed → IfOk r (Loses old.dcel new.dcel v)
  settled_loses (Ok x) same loses = subst (Loses old.dcel new.dcel v) (sym same) loses
  settled_loses (Err e) same loses = tt

  pub settled_left : (r : Result Removed RemovalError) → LosesConstraintsOf old.dcel new.dcel v → OnOk r (LosesConstraintsOf old.dcel new.dcel v)
  settled_left (Ok x) loses = loses
  settled_left (Err e) loses = tt

  pub unsettled : (r : Result Removed RemovalError) → IfErr r (λ e. (e ≡ Unfinished removed) × ¬ IsWholeMesh new) → Loses old.dcel new.dcel v removed
      → IfErr r (FailsToRemove old new v)
  unsettled (Ok x) unfinished loses = tt
  unsettled (Err e) unfinished loses = subst (FailsToRemove old new v) (sym unfinished.0) (loses, unfinished.1)

  pub unsettled_left : (r : Result Removed RemovalError) → IfErr r (λ e. (e ≡ Unfinished removed) × ¬ IsWholeMesh new) → LosesConstraintsOf old.dcel new.dcel v
      → IfErr r (LeavesConstraints old.dcel new.dcel v)
  unsettled_left (Ok x) unfinished loses = tt
  unsettled_left (Err e) unfinished loses = subst (LeavesConstraints old.dcel new.dcel v) (sym unfinished.0) loses
