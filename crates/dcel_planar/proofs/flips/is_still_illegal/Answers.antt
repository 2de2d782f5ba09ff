use Rattle.std.proofs.lemmas.Bool.{false≢true}
use Rattle.dcel_planar.proofs.Circled.{all_between}
use Rattle.dcel_planar.proofs.flips.is_still_illegal.Goals as goal

pub returns-then-not-is_live_edge : goal.returns-then-not-is_live_edge
returns-then-not-is_live_edge g c = (
  λ no. absurd (false≢true no),
  λ both. let live = both.0.live in let told = c.is_live_edge.ensures in let no = c.if-not-is_live_edge.true in cc,
)

pub is_illegal-requires-clause-sides : goal.is_illegal-requires-clause-sides
is_illegal-requires-clause-sides g c =
    all_between c.args.dcel.now c.every_mesh.ensures c.args.edge c.requires.triangles
    (let told = c.is_live_edge.ensures in let yes = c.if-not-is_live_edge.false in cc)
