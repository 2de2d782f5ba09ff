use Rattle.std.proofs.KnownBytes.{Appends-trans}
use Rattle.std.proofs.lemmas.Result.{on_ok_weaker}
use Rattle.delaunay.proofs.writing.write_both.Goals as goal

pub returns : goal.returns
returns g c = on_ok_weaker c.write_nearest.result (λ more is. Appends-trans _ _ _ _ _ (c.in_ok-write_output.ensures is) more) c.write_nearest.ensures
