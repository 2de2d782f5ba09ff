use Rattle.std.proofs.Common.{◌≡◌, ◌∷◌, ◌++◌, [], ℕ, List, ap, ◌∙◌, subst, sym}
use mathlib.Core.Logic.{∥∥₁_map}
use Rattle.dcel_maps.specs.edits.Data.{undirected_edge_updated}
use Rattle.dcel_planar.specs.Growing.{HasOutside, IsTriangleMesh}
use Rattle.dcel_planar.proofs.Whole.{on_err}
use Rattle.dcel_regions.specs.Marked.{IsMarked}
use Rattle.dcel_regions.specs.declared.mark.Mark.TheVariants.{Free}
use Rattle.dcel_constrained.specs.Soundness.{IsConstrained, MarksAllBut}
use Rattle.dcel_constrained.proofs.Marking.{all_but_then, constrained_less, freed_itself, freed_keeps, marked_below}
use Rattle.dcel_constrained.proofs.Marked.{outside_too, triangulated_too}
use Rattle.dcel_constrained.proofs.Settled.{outside_more, sound_of}
use Rattle.dcel_constrained.proofs.triangulation.ConstrainedTriangulation.remove_constraint_edge.Goals as goal

pub set_mark-requires : goal.set_mark-requires
set_mark-requires g c = marked_below c.args.self.now.planar.dcel c.every_mesh.ensures c.args.edge (c.is_constraint.ensures.0 c.if-not-is_constraint.false)

pub invariant_of-self : goal.invariant_of-self
invariant_of-self g c =
    let p = c.args.self.now.planar in
    (p.triangulated, (subst (λ (l : List ℕ). ∥ HasOutside p.dcel l ∥₁) (sym c.reserve.ensures.items) p.outlined, tt))

pub invariant_of-self-2 : goal.invariant_of-self-2
invariant_of-self-2 g c =
    let p = c.args.self.now.planar in
    let e = c.args.edge in (
      subst (λ k. IsTriangleMesh k) (sym c.set_mark.ensures.edit) (triangulated_too p.dcel e Free p.triangulated),
      (
        ∥∥₁_map p.outlined
            (λ is. subst (λ k. HasOutside k c.reserve.new.self.items) (sym c.set_mark.ensures.edit)
            (subst (λ (l : List ℕ). HasOutside (undirected_edge_updated p.dcel e Free) l) (sym c.reserve.ensures.items) (outside_too p.dcel e Free p.due.items is))),
        tt,
      ),
    )

pub invariant_of-self-3 : goal.invariant_of-self-3
invariant_of-self-3 g c =
    let t = c.args.self.now in
    let p = t.planar in
    let e = c.args.edge in
    let items : c.push_reserved.new.self.items ≡ p.due.items ++ e ∷ [] =
    c.push_reserved.ensures.items ∙ ap (λ (l : List ℕ). l ++ e ∷ []) c.reserve.ensures.items in
    let sound = subst (λ k. IsConstrained k c.push_reserved.new.self.items) (sym c.set_mark.ensures.edit)
    (subst (λ (l : List ℕ). IsConstrained (undirected_edge_updated p.dcel e Free) l) (sym items) (constrained_less p.dcel e p.due.items (sound_of t))) in (
      (
        subst (λ k. IsTriangleMesh k) (sym c.set_mark.ensures.edit) (triangulated_too p.dcel e Free p.triangulated),
        (
          ∥∥₁_map p.outlined
              (λ is. subst (λ k. HasOutside k c.push_reserved.new.self.items) (sym c.set_mark.ensures.edit)
              (subst (λ (l : List ℕ). HasOutside (undirected_edge_updated p.dcel e Free) l) (sym items)
              (outside_too p.dcel e Free (p.due.items ++ e ∷ []) (outside_more p.dcel p.due.items e is)))),
          tt,
        ),
      ),
      (sound.listed, (t.empty, tt)),
    )

pub returns-in_err-finish-2-clause-others : goal.returns-in_err-finish-2-clause-others
returns-in_err-finish-2-clause-others g c =
    let m = c.args.self.now.planar.dcel in
    all_but_then m c.set_mark.new.dcel c.finish-2.new.self.planar.dcel c.finish-2.ensures.keeps c.finish-2.ensures.only c.args.edge
    (subst (λ k. MarksAllBut m k c.args.edge) (sym c.set_mark.ensures.edit) (freed_keeps m c.args.edge))

pub returns-clause-freed : goal.returns-clause-freed
returns-clause-freed g c marked =
    freed_itself c.args.self.now.planar.dcel c.args.edge (subst (λ k. IsMarked k c.args.edge) c.set_mark.ensures.edit (c.finish-2.ensures.only c.args.edge marked))

pub returns-clause-others : goal.returns-clause-others
returns-clause-others g c =
    let m = c.args.self.now.planar.dcel in
    all_but_then m c.set_mark.new.dcel c.finish-2.new.self.planar.dcel c.finish-2.ensures.keeps c.finish-2.ensures.only c.args.edge
    (subst (λ k. MarksAllBut m k c.args.edge) (sym c.set_mark.ensures.edit) (freed_keeps m c.args.edge))

pub returns-in_err-finish-clause-refused : goal.returns-in_err-finish-clause-refused
returns-in_err-finish-clause-refused g c =
    let holds : IsMarked c.finish.new.self.planar.dcel c.args.edge → c.finish.new.self.planar.dcel ≡ c.args.self.now.planar.dcel = λ marked.
    absurd (let so = c.is_constraint.ensures.1 (c.finish.ensures.only c.args.edge marked) in let not = c.if-not-is_constraint.true in cc) in
    on_err c.from_residual.result _ holds

pub returns-in_err-finish-2-clause-refused : goal.returns-in_err-finish-2-clause-refused
returns-in_err-finish-2-clause-refused g c =
    let holds : IsMarked c.finish-2.new.self.planar.dcel c.args.edge → c.finish-2.new.self.planar.dcel ≡ c.args.self.now.planar.dcel = λ marked.
    absurd (freed_itself c.args.self.now.planar.dcel c.args.edge (subst (λ k. IsMarked k c.args.edge) c.set_mark.ensures.edit (c.finish-2.ensures.only c.args.edge marked))) in
    on_err c.from_residual-in_err-finish-2.result _ holds

pub returns-in_err-reserve-clause-ready : goal.returns-in_err-reserve-clause-ready
returns-in_err-reserve-clause-ready g c = λ whole free. absurd (free (c.is_constraint.ensures.0 c.if-not-is_constraint.false))

pub returns-in_err-finish-2-clause-ready : goal.returns-in_err-finish-2-clause-ready
returns-in_err-finish-2-clause-ready g c = λ whole free. absurd (free (c.is_constraint.ensures.0 c.if-not-is_constraint.false))
