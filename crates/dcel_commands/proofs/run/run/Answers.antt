use Rattle.std.proofs.Common.{◌++◌, [], ap, sym, subst, ◌∙◌, rules, take}
use Rattle.std.proofs.KnownBytes.{Consumes-trans, Consumes-nil}
use Rattle.dcel_commands.specs.Stage.{Stage, Serves}
use Rattle.dcel_commands.proofs.Serving.{serves_nothing, serves_then, serves_flushed, ends_flushed}
use Rattle.dcel_commands.proofs.Ending.{origin, read_out, read_failed, write_failed, last_write_failed, answered_all}
use Rattle.dcel_commands.proofs.run.run.Goals as goal

pub loop-session-init : goal.loop-session-init
loop-session-init g c =
    let begins = c.in-Ok.ensures in
    let out = c.new-out.result in
    record {
      bytes = [];
      read = Consumes-nil (g.S.LineSource.remaining c.args.source.now);
      served = subst (λ (q : Stage). Serves g.K.LineSink.has_failed g.K.LineSink.contents c.args.limit origin q [] out out) (sym begins) serves_nothing;
      empty = c.new-out.ensures.empty;
      source_calm = c.requires.source_calm;
      sink_calm = ap g.K.LineSink.has_failed c.new-out.ensures.sink ∙ c.requires.sink_calm;
    }

pub returns-in-Err-fill-clause-read : goal.returns-in-Err-fill-clause-read
returns-in-Err-fill-clause-read g c = λ _.
    let so_far = c.loop-session.invariant in
    let begun = c.new-out.ensures in
    read_failed (g.S.LineSource.remaining c.loop-session.source) so_far.read c.in-Err-fill.ensures.bytes so_far.served begun.sink begun.empty (search rules) so_far.empty so_far.sink_calm

pub returns-then-failed-clause-write : goal.returns-then-failed-clause-write
returns-then-failed-clause-write g c = λ _.
    let so_far = c.loop-session.invariant in
    let begun = c.new-out.ensures in
    last_write_failed (read_out _ _ _ so_far.bytes c.fill.new.buf c.in-Ok-fill.n so_far.read c.in-Ok-fill.ensures.bytes (search rules) (search rules))
    so_far.served (ends_flushed c.finish.ensures.ends c.flush.ensures.writes) begun.sink begun.empty (search rules)

pub returns-then-n-eq0-clause-ok : goal.returns-then-n-eq0-clause-ok
returns-then-n-eq0-clause-ok g c =
    let so_far = c.loop-session.invariant in
    let begun = c.new-out.ensures in
    answered_all (read_out _ _ _ so_far.bytes c.fill.new.buf c.in-Ok-fill.n so_far.read c.in-Ok-fill.ensures.bytes (search rules) (search rules))
    so_far.served (ends_flushed c.finish.ensures.ends c.flush.ensures.writes) begun.sink begun.empty (search rules) c.flush.ensures.empty (sym c.failed.ensures ∙ c.if-failed.false)

pub returns-then-failed-2-clause-write : goal.returns-then-failed-2-clause-write
returns-then-failed-2-clause-write g c = λ _.
    let remaining = g.S.LineSource.remaining in
    let so_far = c.loop-session.invariant in
    let begun = c.new-out.ensures in
    write_failed
    (Consumes-trans (remaining c.args.source.now) (remaining c.loop-session.source) (remaining c.fill.new.self) so_far.bytes (take c.in-Ok-fill.n c.fill.new.buf) so_far.read c.in-Ok-fill.ensures.bytes.0)
    (serves_flushed (serves_then so_far.served c.feed.ensures) c.flush-in-loop-session.ensures.writes) begun.sink begun.empty (search rules)

pub loop-session-preserved : goal.loop-session-preserved
loop-session-preserved g c =
    let remaining = g.S.LineSource.remaining in
    let so_far = c.loop-session.invariant in
    record {
      bytes = so_far.bytes ++ take c.in-Ok-fill.n c.fill.new.buf;
      read = Consumes-trans (remaining c.args.source.now) (remaining c.loop-session.source) (remaining c.fill.new.self) so_far.bytes (take c.in-Ok-fill.n c.fill.new.buf) so_far.read c.in-Ok-fill.ensures.bytes.0;
      served = serves_flushed (serves_then so_far.served c.feed.ensures) c.flush-in-loop-session.ensures.writes;
      empty = c.flush-in-loop-session.ensures.empty;
      source_calm = c.in-Ok-fill.ensures.calm ∙ so_far.source_calm;
      sink_calm = sym c.failed-in-loop-session.ensures ∙ c.if-failed-2.false;
    }
