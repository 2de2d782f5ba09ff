use Rattle.std.proofs.Common.{rules}
use Rattle.std.proofs.lemmas.List.{nil_from_length}
use Rattle.dcel_planar.proofs.Recovered.{settled_outlined}
use Rattle.dcel_planar.proofs.planar.PlanarMesh.is_whole.Goals as goal

pub returns-clause-hull : goal.returns-clause-hull
returns-clause-hull g c = λ is. settled_outlined c.args.self.now.dcel c.args.self.now.due.items c.args.self.now.outlined (search (rules, nil_from_length, c.is_empty.ensures, is))
