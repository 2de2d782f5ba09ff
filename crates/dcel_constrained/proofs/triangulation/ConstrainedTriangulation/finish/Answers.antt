use Rattle.dcel_maps.specs.Shapes.{IsMesh}
use Rattle.dcel_constrained.proofs.Added.{marked_later, stays_added}
use Rattle.dcel_constrained.proofs.Loose.{of_loose, to_loose, turns_stays}
use Rattle.dcel_constrained.proofs.Settled.{free_put, stays_both}
use Rattle.dcel_constrained.proofs.triangulation.ConstrainedTriangulation.finish.Goals as goal

pub invariant_of-self-clause-listed : goal.invariant_of-self-clause-listed
invariant_of-self-clause-listed g c =
    let old = c.args.self.now.planar in
    let closes = c.close_hull.ensures.closes in
    free_put old.dcel c.close_hull.new.self.dcel old.due.items c.close_hull.new.self.due.items c.args.self.now.listed closes.lists
    (marked_later old.dcel c.close_hull.new.self.dcel _ (λ x is. is) closes.edges.edge_data)

pub invariant_of-self-2-clause-listed : goal.invariant_of-self-2-clause-listed
invariant_of-self-2-clause-listed g c =
    let old = c.args.self.now.planar in
    let closed = c.close_hull.new.self in
    let closes = c.close_hull.ensures.closes in
    let listed = free_put old.dcel closed.dcel old.due.items closed.due.items c.args.self.now.listed closes.lists
    (marked_later old.dcel closed.dcel _ (λ x is. is) closes.edges.edge_data) in
    of_loose c.legalize.new.self.dcel c.legalize.new.self.due.items (c.legalize.ensures.lists (to_loose closed.dcel closed.due.items listed))

pub returns-in_default-clause-keeps : goal.returns-in_default-clause-keeps
returns-in_default-clause-keeps g c =
    let old = c.args.self.now.planar in
    let mesh : IsMesh old.dcel = c.every_mesh.ensures in
    let edges = c.close_hull.ensures.closes.edges in
    let closed = stays_added old.dcel c.close_hull.new.self.dcel _ (λ x is. is) edges.edge_data mesh edges.starts c.close_hull.ensures.closes.keeps.points in
    closed.keeps

pub returns-clause-only : goal.returns-clause-only
returns-clause-only g c =
    let old = c.args.self.now.planar in
    let mesh : IsMesh old.dcel = c.every_mesh.ensures in
    let edges = c.close_hull.ensures.closes.edges in
    let closed = stays_added old.dcel c.close_hull.new.self.dcel _ (λ x is. is) edges.edge_data mesh edges.starts c.close_hull.ensures.closes.keeps.points in
    (stays_both old.dcel c.close_hull.new.self.dcel c.legalize.new.self.dcel closed (turns_stays c.close_hull.new.self.dcel c.legalize.new.self.dcel c.legalize.ensures.flips c.legalize.ensures.keeps)).only

pub returns-clause-keeps : goal.returns-clause-keeps
returns-clause-keeps g c =
    let old = c.args.self.now.planar in
    let mesh : IsMesh old.dcel = c.every_mesh.ensures in
    let edges = c.close_hull.ensures.closes.edges in
    let closed = stays_added old.dcel c.close_hull.new.self.dcel _ (λ x is. is) edges.edge_data mesh edges.starts c.close_hull.ensures.closes.keeps.points in
    (stays_both old.dcel c.close_hull.new.self.dcel c.legalize.new.self.dcel closed (turns_stays c.close_hull.new.self.dcel c.legalize.new.self.dcel c.legalize.ensures.flips c.legalize.ensures.keeps)).keeps

pub returns-in_default-clause-only : goal.returns-in_default-clause-only
returns-in_default-clause-only g c =
    let old = c.args.self.now.planar in
    let mesh : IsMesh old.dcel = c.every_mesh.ensures in
    let edges = c.close_hull.ensures.closes.edges in
    let closed = stays_added old.dcel c.close_hull.new.self.dcel _ (λ x is. is) edges.edge_data mesh edges.starts c.close_hull.ensures.closes.keeps.points in
    closed.only
