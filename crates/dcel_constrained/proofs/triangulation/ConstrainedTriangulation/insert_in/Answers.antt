use Rattle.dcel_maps.specs.Shapes.{IsMesh}
use Rattle.dcel_planar.proofs.Recovered.{settled_outlined}
use Rattle.dcel_constrained.proofs.Loose.{of_loose, to_loose, turns_stays}
use Rattle.dcel_constrained.proofs.Settled.{free_put, splits_stays}
use Rattle.dcel_constrained.proofs.triangulation.ConstrainedTriangulation.insert_in.Goals as goal

pub put_in-requires : goal.put_in-requires
put_in-requires g c = let t = c.args.self.now.planar in record { hull = settled_outlined t.dcel t.due.items t.outlined c.requires.whole }

pub invariant_of-self : goal.invariant_of-self
invariant_of-self g c = record { listed = free_put c.args.self.now.planar.dcel c.put_in.new.planar.dcel c.args.self.now.planar.due.items c.put_in.new.planar.due.items c.args.self.now.listed c.put_in.ensures.lists c.put_in.ensures.splits.marked; empty = c.args.self.now.empty }

pub invariant_of-self-then-is_whole : goal.invariant_of-self-then-is_whole
invariant_of-self-then-is_whole g c = record { listed = free_put c.args.self.now.planar.dcel c.put_in.new.planar.dcel c.args.self.now.planar.due.items c.put_in.new.planar.due.items c.args.self.now.listed c.put_in.ensures.lists c.put_in.ensures.splits.marked; empty = c.args.self.now.empty }

pub invariant_of-self-2 : goal.invariant_of-self-2
invariant_of-self-2 g c = record { listed = of_loose c.legalize-flipped.new.self.dcel c.legalize-flipped.new.self.due.items (c.legalize-flipped.ensures.lists (to_loose c.put_in.new.planar.dcel c.put_in.new.planar.due.items (free_put c.args.self.now.planar.dcel c.put_in.new.planar.dcel c.args.self.now.planar.due.items c.put_in.new.planar.due.items c.args.self.now.listed c.put_in.ensures.lists c.put_in.ensures.splits.marked))); empty = c.args.self.now.empty }

pub returns-then-is_err-clause-splits : goal.returns-then-is_err-clause-splits
returns-then-is_err-clause-splits g c =
    let after : IsMesh c.legalize-flipped.new.self.dcel = c.every_mesh.ensures in
    splits_stays c.args.self.now.planar.dcel c.put_in.new.planar.dcel c.legalize-flipped.new.self.dcel c.put_in.ensures.splits
    (turns_stays c.put_in.new.planar.dcel c.legalize-flipped.new.self.dcel c.legalize-flipped.ensures.flips c.legalize-flipped.ensures.keeps) c.put_in.ensures.mesh after
    c.legalize-flipped.ensures.keeps.closed

pub returns-clause-splits : goal.returns-clause-splits
returns-clause-splits g c =
    let after : IsMesh c.legalize-flipped.new.self.dcel = c.every_mesh.ensures in
    splits_stays c.args.self.now.planar.dcel c.put_in.new.planar.dcel c.legalize-flipped.new.self.dcel c.put_in.ensures.splits
    (turns_stays c.put_in.new.planar.dcel c.legalize-flipped.new.self.dcel c.legalize-flipped.ensures.flips c.legalize-flipped.ensures.keeps) c.put_in.ensures.mesh after
    c.legalize-flipped.ensures.keeps.closed
