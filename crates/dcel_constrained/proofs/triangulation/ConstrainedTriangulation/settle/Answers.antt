use Rattle.dcel_constrained.proofs.Loose.{of_loose, to_loose, turns_stays}
use Rattle.dcel_constrained.proofs.triangulation.ConstrainedTriangulation.settle.Goals as goal

pub invariant_of-self-clause-listed : goal.invariant_of-self-clause-listed
invariant_of-self-clause-listed g c =
    let old = c.args.self.now.planar in
    of_loose c.legalize.new.self.dcel c.legalize.new.self.due.items (c.legalize.ensures.lists (to_loose old.dcel old.due.items c.args.self.now.listed))

pub returns-in_default-clause-stays : goal.returns-in_default-clause-stays
returns-in_default-clause-stays g c = turns_stays c.args.self.now.planar.dcel c.legalize.new.self.dcel c.legalize.ensures.flips c.legalize.ensures.keeps

pub returns-clause-stays : goal.returns-clause-stays
returns-clause-stays g c = turns_stays c.args.self.now.planar.dcel c.legalize.new.self.dcel c.legalize.ensures.flips c.legalize.ensures.keeps
