use Rattle.std.proofs.Common.{sym, ap, ◌∙◌}
use Rattle.std.proofs.lemmas.Bool.{false≢true}
use Rattle.std.proofs.lemmas.Bool.Decides.{Decides-eqb, Decides-like, Decides-not}
use Rattle.dcel_fixed.specs.HalfEdges.{rev}
use Rattle.dcel_fixed.proofs.Halves.{rev-double}
use Rattle.dcel_maps.proofs.Liveness.{odd_live}
use Rattle.spade_dcel.proofs.dcel.Dcel.can_flip.Goals as goal

pub opposite_corner-requires-2 : goal.opposite_corner-requires-2
opposite_corner-requires-2 g c =
    let live = sym c.is_live_edge.ensures ∙ c.if-not-is_live_edge.false in
    rw (c.rev.ensures, c.as_directed-edge.ensures, rev-double) (odd_live c.args.self.now.shape c.args.handle live)

pub returns-in_default-opposite_corner : goal.returns-in_default-opposite_corner
returns-in_default-opposite_corner g c =
    let twin = c.rev.ensures ∙ ap rev c.as_directed-edge.ensures ∙ rev-double c.args.handle in
    let no = rw twin at c.in_default-opposite_corner.ensures in
    (λ is. absurd (false≢true is), λ can. absurd (no can.facing))

pub returns : goal.returns
returns g c =
    let live = sym c.is_live_edge.ensures ∙ c.if-not-is_live_edge.false in
    let twin = c.rev.ensures ∙ ap rev c.as_directed-edge.ensures ∙ rev-double c.args.handle in
    let near = rw c.as_directed-edge.ensures at c.in-Some.ensures in
    let far = rw twin at c.in-Some-opposite_corner.ensures in
    rw (c.ne.ensures, near.1, far.1)
    (Decides-like _ (λ apart. record { live = live; triangle = near.0; facing = far.0; corners = apart }) (λ can. can.corners) (Decides-not _ (Decides-eqb _ _)))
