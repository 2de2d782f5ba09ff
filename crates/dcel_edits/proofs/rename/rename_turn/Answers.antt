use Rattle.std.proofs.Common.{refl, sym, ap, ◌∙◌, rules}
use Rattle.dcel_fixed.specs.HalfEdges.{rev}
use Rattle.dcel_fixed.proofs.Halves.{rev_within}
use Rattle.dcel_edits.proofs.Rounds.{anchor_stands, next_write, write_meets, writing_begins, writing_stands}
use Rattle.dcel_edits.proofs.Turning.{origins_part}
use Rattle.dcel_edits.proofs.rename.rename_turn.Goals as goal

pub next-last-requires : goal.next-last-requires
next-last-requires g c =
    rw c.rev.ensures
    (rev_within _ _ c.requires.whole
    (anchor_stands (origins_part c.args.store.now c.args.vertex) c.args.store.now.origin _ _ c.requires.turns (sym c.vertex_anchor.ensures ∙ c.in-Some.is)))

pub loop-vertex-init : goal.loop-vertex-init
loop-vertex-init g c =
    writing_begins (origins_part c.args.store.now c.args.vertex) c.args.store.now.origin _ _ _ c.requires.turns (sym c.vertex_anchor.ensures ∙ c.in-Some.is)
    (c.next-last.ensures ∙ rw c.rev.ensures refl)

pub set_origin-requires : goal.set_origin-requires
set_origin-requires g c = rw c.loop-vertex.invariant.is (writing_stands _ _ _ c.loop-vertex.invariant).0

pub returns-then-eq : goal.returns-then-eq
returns-then-eq g c =
    rw (sym c.vertex_anchor.ensures ∙ c.in-Some.is) (write_meets _ _ _ c.loop-vertex.invariant c.set_origin.ensures (search rules))

pub set_origin-requires-in-loop-vertex : goal.set_origin-requires-in-loop-vertex
set_origin-requires-in-loop-vertex g c =
    rw (c.set_origin.ensures, c.loop-vertex.invariant.is) (writing_stands _ _ _ c.loop-vertex.invariant).1

pub prev-requires : goal.prev-requires
prev-requires g c =
    rw (c.set_origin-in-loop-vertex.ensures, c.set_origin.ensures, c.loop-vertex.invariant.is) (writing_stands _ _ _ c.loop-vertex.invariant).0

pub returns-then-eq-2 : goal.returns-then-eq-2
returns-then-eq-2 g c =
    let next = next_write _ _ _ c.loop-vertex.invariant c.set_origin.ensures c.set_origin-in-loop-vertex.ensures (search rules) (c.rev-after.ensures ∙ ap rev c.prev.ensures) in
    rw (sym c.vertex_anchor.ensures ∙ c.in-Some.is) (next.meets (search rules))

pub next-last-requires-in-loop-vertex : goal.next-last-requires-in-loop-vertex
next-last-requires-in-loop-vertex g c =
    rw (c.rev-in-loop-vertex.ensures, c.set_origin-in-loop-vertex.ensures, c.set_origin.ensures, c.loop-vertex.invariant.is)
    (rev_within _ _ c.requires.whole (writing_stands _ _ _ c.loop-vertex.invariant).1)

pub loop-vertex-smaller : goal.loop-vertex-smaller
loop-vertex-smaller g c =
    let next = next_write _ _ _ c.loop-vertex.invariant c.set_origin.ensures c.set_origin-in-loop-vertex.ensures (search rules) (c.rev-after.ensures ∙ ap rev c.prev.ensures) in
    (next.goes_on (search rules) _ (c.next-last-in-loop-vertex.ensures ∙ rw c.rev-in-loop-vertex.ensures refl)).1

pub loop-vertex-preserved : goal.loop-vertex-preserved
loop-vertex-preserved g c =
    let next = next_write _ _ _ c.loop-vertex.invariant c.set_origin.ensures c.set_origin-in-loop-vertex.ensures (search rules) (c.rev-after.ensures ∙ ap rev c.prev.ensures) in
    (next.goes_on (search rules) _ (c.next-last-in-loop-vertex.ensures ∙ rw c.rev-in-loop-vertex.ensures refl)).0
