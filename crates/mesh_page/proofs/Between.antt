-- A constraint between two vertices of a mesh that is lent is one of the triangulation.
use Rattle.std.proofs.Common.{◌≡◌, ◌/◌, ℕ, sym, subst}
use Rattle.dcel_constrained.specs.Constrained.{marked_mesh}
use Rattle.dcel_constrained.specs.Soundness.{AreConstrained}
use Rattle.dcel_maps.specs.Shapes.{Mesh}
use Rattle.dcel_maps.specs.Walking.{Leads}
use Rattle.dcel_predicates.specs.declared.point.Point.{Point}
use Rattle.dcel_regions.specs.Marked.{IsMarked}
use Rattle.dcel_regions.specs.declared.mark.Mark.{Mark}
use Rattle.mesh_page.specs.Constraining.{IsConstraintBetween}
use Rattle.mesh_page.specs.Keeping.{Marked}

abbrev Lent : Type 0
Lent = Mesh Point (Unit {0}) Mark (Unit {0})

module _ (t : Marked) (lent : Lent) (v w from to : ℕ) (is : lent ≡ marked_mesh t) (at_from : v ≡ from) (at_to : w ≡ to) where
  pub constraint_between : (h u : ℕ) → u ≡ h / 2 → Leads lent.shape v w h → IsMarked lent (h / 2) → IsConstraintBetween t from to u
  constraint_between h u edge leads marked = record {
    half = h;
    leads =
        subst (λ (m : Lent). Leads m.shape from to h) is
        (subst (λ (b : ℕ). Leads lent.shape from b h) at_to (subst (λ (a : ℕ). Leads lent.shape a w h) at_from leads));
    edge = sym edge;
    marked = subst (λ (e : ℕ). IsMarked (marked_mesh t) e) (sym edge) (subst (λ (m : Lent). IsMarked m (h / 2)) is marked);
  }

  pub none_between : ¬ AreConstrained lent v w → ¬ AreConstrained (marked_mesh t) from to
  none_between none =
      subst (λ (m : Lent). ¬ AreConstrained m from to) is
      (subst (λ (b : ℕ). ¬ AreConstrained lent from b) at_to (subst (λ (a : ℕ). ¬ AreConstrained lent a w) at_from none))
