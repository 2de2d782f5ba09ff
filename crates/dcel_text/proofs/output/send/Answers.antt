use Rattle.std.proofs.Common.{◌∙◌, subst, take, drop, arith, rules, ℕ, List}
use Rattle.std.specs.Io.KnownBytes.{Appends}
use Rattle.std.proofs.lemmas.List.{take_all, take_rest}
use Rattle.dcel_text.proofs.Writing.{taken_more, taken_some, writing_all, writing_some, writing_none}
use Rattle.dcel_text.proofs.output.send.Goals as goal

pub returns-then-failed : goal.returns-then-failed
returns-then-failed g c = writing_none (search rules)

pub loop-at-preserved : goal.loop-at-preserved
loop-at-preserved g c =
    let contents = g.K.LineSink.contents in
    let bytes = c.args.bytes.now in
    let at = c.loop-at.at in
    let put : Appends (contents c.loop-at.sink) (contents c.put.new.self) (take c.in-Ok.n (drop at bytes)) =
    subst (λ (x : List ℕ). Appends (contents c.loop-at.sink) (contents c.put.new.self) (take c.in-Ok.n x)) (take_rest bytes at) c.in-Ok.ensures.bytes in
    record {
      in_range = omega (arith, c.in-Ok.ensures.bound);
      taken = taken_more (contents c.args.sink.now) (contents c.loop-at.sink) (contents c.put.new.self) at c.in-Ok.n bytes c.loop-at.invariant.taken put;
      calm = c.in-Ok.ensures.calm ∙ c.loop-at.invariant.calm;
    }

pub returns-in-Err : goal.returns-in-Err
returns-in-Err g c =
    let contents = g.K.LineSink.contents in
    writing_some (search rules) c.in-Err.ensures.fails
    (taken_some (contents c.args.sink.now) (contents c.loop-at.sink) (contents c.put.new.self) c.loop-at.at c.args.bytes.now c.loop-at.invariant.taken c.in-Err.ensures.bytes)

pub returns : goal.returns
returns g c =
    let contents = g.K.LineSink.contents in
    let bytes = c.args.bytes.now in
    writing_all (search rules)
    (subst (λ (x : List ℕ). Appends (contents c.args.sink.now) (contents c.loop-at.sink) x) (take_all c.loop-at.at bytes c.loop-at-test.false) c.loop-at.invariant.taken)
