use Rattle.std.proofs.Common.{[], ◌∷◌, ◌++◌, refl, sym}
use Rattle.dcel_text.specs.Lines.{line_feed}
use Rattle.dcel_text.proofs.LineEnds.{front-line}
use Rattle.dcel_commands.proofs.Serving.{serves_nothing, serves_then, serves_rest, serves_bytes}
use Rattle.dcel_commands.proofs.session.Session.feed.Goals as goal

pub loop-line-init : goal.loop-line-init
loop-line-init g c = record { front = []; whole = refl; served = serves_nothing }

pub loop-line-preserved : goal.loop-line-preserved
loop-line-preserved g c =
    let so_far = c.loop-line.invariant in
    let line = c.in-Some.line.now in
    record {
      front = so_far.front ++ (line ++ line_feed ∷ []);
      whole = front-line c.args.piece.now so_far.front line c.loop-line.rest.now c.in-Some.others.now so_far.whole c.in-Some.ensures.1;
      served = serves_then so_far.served c.end_line.ensures.serves;
    }

pub returns : goal.returns
returns g c =
    let so_far = c.loop-line.invariant in
    serves_bytes (sym so_far.whole) (serves_then so_far.served (rw (← c.self.view_is) (serves_rest c.in_default.ensures c.add_some.ensures)))
