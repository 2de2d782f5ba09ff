-- Triangles closed at the hull: what they leave, one after another.
use Rattle.std.proofs.Common.{◌∙◌, refl, sym, subst}
use Rattle.dcel_maps.specs.Shapes.{Mesh}
use Rattle.dcel_predicates.specs.declared.point.Point.{Point}
use Rattle.dcel_planar.specs.Corners.{GoesOnClosing}
use Rattle.dcel_planar.specs.Growing.{Keeps}
use Rattle.dcel_planar.specs.Leaving.{ClosesHull, IsSame}
use Rattle.dcel_planar.specs.declared.planar.PlanarMesh.{PlanarMesh}
use Rattle.dcel_planar.proofs.Ends.{edges-trans, same_edges}
use Rattle.dcel_planar.proofs.GoingOn.{goes_on-refl, goes_on-trans}
use Rattle.dcel_planar.proofs.Growth.{keeps-refl, keeps-trans}
use Rattle.dcel_planar.proofs.Puts.{stays_listed}

module _ {UE A : Type 0} (is_default : UE → Type 0) where
  pub closes-same : (m n : PlanarMesh UE A) → IsSame m n → ClosesHull is_default m n
  closes-same m n same = record {
    keeps = subst (λ (k : Mesh Point (Unit {0}) UE (Unit {0})). Keeps m.dcel k) (sym same.mesh) (keeps-refl m.dcel m.triangulated.closed);
    lists = stays_listed m.dcel n.dcel m.due.items n.due.items same.mesh same.due;
    edges = same_edges is_default m.dcel n.dcel same.mesh;
    goes_on = subst (λ (k : Mesh Point (Unit {0}) UE (Unit {0})). GoesOnClosing m.dcel k) (sym same.mesh) (goes_on-refl m.dcel);
    listed = λ some none. some (sym same.due ∙ none);
  }

  pub closes-refl : (m : PlanarMesh UE A) → ClosesHull is_default m m
  closes-refl m = closes-same m m record { mesh = refl; due = refl }

  pub closes-trans : (a b c : PlanarMesh UE A) → ClosesHull is_default a b → ClosesHull is_default b c → ClosesHull is_default a c
  closes-trans a b c first second = record {
    keeps = keeps-trans a.dcel b.dcel c.dcel first.keeps second.keeps;
    lists = λ lacking lists. second.lists lacking (first.lists lacking lists);
    edges = edges-trans is_default a.dcel b.dcel c.dcel first.keeps.edges first.edges second.edges;
    goes_on = goes_on-trans a.dcel b.dcel c.dcel first.goes_on second.goes_on;
    listed = λ some. second.listed (first.listed some);
  }
