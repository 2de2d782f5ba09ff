use Rattle.dcel_delaunay.proofs.Listed.{lists_after, of_loose, to_loose}
use Rattle.dcel_delaunay.proofs.triangulation.Triangulation.finish.Goals as goal

pub invariant_of-self : goal.invariant_of-self
invariant_of-self g c = record { listed = lists_after c.args.self.now.planar c.close_hull.new.self c.close_hull.ensures.closes.lists c.args.self.now.listed }

pub invariant_of-self-2 : goal.invariant_of-self-2
invariant_of-self-2 g c =
    let closed = lists_after c.args.self.now.planar c.close_hull.new.self c.close_hull.ensures.closes.lists c.args.self.now.listed in
    record { listed = of_loose c.legalize.new.self.dcel c.legalize.new.self.due.items (c.legalize.ensures.lists (to_loose c.close_hull.new.self.dcel c.close_hull.new.self.due.items closed)) }
