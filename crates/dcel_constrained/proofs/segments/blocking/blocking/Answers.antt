use Rattle.std.proofs.Common.{subst, sym, arith, List, ℕ}
use Rattle.dcel_constrained.specs.Blocking.{NotesBlocking}
use Rattle.dcel_constrained.proofs.Blocked.{ListedTo, listed_all, listed_more, listed_none}
use Rattle.dcel_constrained.proofs.segments.blocking.blocking.Goals as goal

pub loop-number-init : goal.loop-number-init
loop-number-init g c =
    subst (λ (l : List ℕ). ListedTo c.args.dcel.now c.args.from c.args.to 0 l) (sym c.new-edges.ensures.items) (listed_none c.args.dcel.now c.args.from c.args.to)

pub loop-number-preserved : goal.loop-number-preserved
loop-number-preserved g c =
    listed_more c.args.dcel.now c.args.from c.args.to c.loop-number.number c.loop-number.edges.items c.note_blocking.new.edges.items c.loop-number.invariant
    (subst (λ (u : ℕ). NotesBlocking c.args.dcel.now c.args.from c.args.to u c.loop-number.edges.items c.note_blocking.new.edges.items) c.new-edge.ensures
    c.in_ok-note_blocking.ensures)

pub returns : goal.returns
returns g c =
    listed_all c.args.dcel.now c.args.from c.args.to c.every_mesh.ensures c.loop-number.number c.loop-number.edges.items
    (omega (arith, c.loop-number-test.false, c.num_undirected_edges-number-end.ensures.count)) c.loop-number.invariant
