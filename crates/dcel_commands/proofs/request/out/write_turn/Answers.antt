use Rattle.std.proofs.Common.{◌∙◌, ◌∷◌, ◌++◌, ap, sym}
use Rattle.std.specs.Fmt.{decimal}
use Rattle.spade_dcel.specs.Handles.{mesh_behind, number_of}
use Rattle.dcel_text.specs.Texts.{listed}
use Rattle.dcel_commands.proofs.OutEdges.{listing_begins, listing_goes_on, listing_ends}
use Rattle.dcel_text.proofs.Writing.{writes_nothing, writes_and, writes_text}
use Rattle.dcel_commands.proofs.request.out.write_turn.Goals as goal

pub loop-edge-init : goal.loop-edge-init
loop-edge-init g c =
    let begun = listing_begins (mesh_behind c.args.first) c.into_iter-edge-iterator.result.items _
    (ap (λ walk. walk.items) c.into_iter-edge-iterator.ensures.into_iter_gives ∙ c.new-turn.ensures.items) in
    (begun.0, writes_text (sym begun.1) writes_nothing)

pub loop-edge-preserved : goal.loop-edge-preserved
loop-edge-preserved g c =
    let so_far = c.loop-edge.invariant.0 in
    let next = listing_goes_on _ _ _ _ (mesh_behind c.in-Some.edge) (number_of c.in-Some.edge) so_far c.in-Some.ensures.steps.0 in
    (next.0, writes_text (ap (λ n. listed so_far.passed ++ 32 ∷ decimal n) c.index.ensures.value ∙ sym next.1) (writes_and c.loop-edge.invariant.1 c.spaced_number.ensures))

pub returns : goal.returns
returns g c = writes_text (ap listed (listing_ends _ _ _ c.loop-edge.invariant.0 c.in-None.ensures.steps.0.0)) c.loop-edge.invariant.1
