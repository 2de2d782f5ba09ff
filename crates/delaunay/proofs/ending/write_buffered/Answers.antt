use Rattle.std.proofs.lemmas.Result.{IfOk-weaker}
use Rattle.delaunay.proofs.Ended.{task_kept}
use Rattle.delaunay.proofs.ending.write_buffered.Goals as goal

pub returns : goal.returns
returns g c =
    IfOk-weaker c.into_sink.result _ _ (λ done keeps adds none. task_kept _ _ _ keeps _ _ (c.in_ok-write_asked.ensures adds none)) c.into_sink.ensures
