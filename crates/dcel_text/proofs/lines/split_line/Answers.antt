use Rattle.std.proofs.Common.{◌+◌, ◌++◌, ◌∷◌, take, ap, sym, ◌∙◌, arith, rules, List, ℕ}
use Rattle.std.proofs.lemmas.List.{take_rest}
use Rattle.dcel_text.specs.Lines.{line_feed}
use Rattle.dcel_text.proofs.LineEnds.{no_feed_so_far, no_feed_at_all, split_at_feed}
use Rattle.dcel_text.proofs.lines.split_line.Goals as goal

pub returns-then-b-eq10 : goal.returns-then-b-eq10
returns-then-b-eq10 c =
    let bytes = c.args.bytes.now in
    let i = c.loop-i.i in
    (c.loop-i.invariant, split_at_feed bytes i (omega arith) (search rules) ∙ ap (λ (x : List ℕ). take i bytes ++ line_feed ∷ x) (sym (take_rest bytes (i + 1))))

pub loop-i-preserved : goal.loop-i-preserved
loop-i-preserved c = no_feed_so_far c.args.bytes.now c.loop-i.i (omega arith) (search rules) c.loop-i.invariant

pub returns : goal.returns
returns c = no_feed_at_all c.args.bytes.now c.loop-i.i (omega arith) c.loop-i.invariant
