use Rattle.std.proofs.Common.{refl}
use Rattle.dcel_links.specs.Checks.{ComesTo, HasWholeVertices}
use Rattle.dcel_links.specs.Claims.{Claim, claim_of}
use Rattle.dcel_links.specs.Stages.{FaceRounds, UsedFaces, VertexRounds}
use Rattle.dcel_links.proofs.Stages.{comes_on}
use Rattle.dcel_links.proofs.Turns.{lent_turns, turns_along, turns_apart, turns_parts, turns_whole}
use Rattle.dcel_links.proofs.whole.check_rounds.Goals as goal

whole_vertices : (g : _) (c : goal.In-Ok-2 g) → HasWholeVertices (claim_of c.args.links c.args.vertices c.args.faces)
whole_vertices g c =
    let claimed : Claim = claim_of c.args.links c.args.vertices c.args.faces in
    turns_whole claimed c.requires.links.prev c.requires.links.links c.deref.result.now (lent_turns c.deref.ensures.value c.in_ok-turns.ensures) (rw c.in-Ok-2.is at c.in_ok-used_vertices.ensures.whole)

pub mark_labels-requires-2-clause-apart : goal.mark_labels-requires-2-clause-apart
mark_labels-requires-2-clause-apart g c =
    let claimed : Claim = claim_of c.args.links c.args.vertices c.args.faces in
    turns_apart claimed c.requires.links.prev c.requires.links.links c.deref.result.now (lent_turns c.deref.ensures.value c.in_ok-turns.ensures)

pub mark_labels-requires-2-clause-along : goal.mark_labels-requires-2-clause-along
mark_labels-requires-2-clause-along g c =
    let claimed : Claim = claim_of c.args.links c.args.vertices c.args.faces in
    turns_along claimed c.requires.links.prev c.requires.links.links c.deref.result.now (lent_turns c.deref.ensures.value c.in_ok-turns.ensures)

pub returns-in-Err-2-clause-fault : goal.returns-in-Err-2-clause-fault
returns-in-Err-2-clause-fault g c =
    let claimed : Claim = claim_of c.args.links c.args.vertices c.args.faces in
    turns_parts claimed c.requires.links.prev c.requires.links.links c.deref.result.now (lent_turns c.deref.ensures.value c.in_ok-turns.ensures) c.in-Err-2.vertex
    (rw c.in-Err-2.is at c.in_ok-used_vertices.ensures.parts)

pub returns-in-Ok-2-clause-rounds : goal.returns-in-Ok-2-clause-rounds
returns-in-Ok-2-clause-rounds g c = record {
  each = c.requires.links;
  whole_faces = rw c.in-Ok.is at c.in_ok-used.ensures.whole;
  whole_vertices = whole_vertices g c;
}

pub returns-in-Ok-2-clause-passed : goal.returns-in-Ok-2-clause-passed
returns-in-Ok-2-clause-passed g c =
    let claimed : Claim = claim_of c.args.links c.args.vertices c.args.faces in
    let faces : ComesTo claimed VertexRounds = comes_on claimed FaceRounds VertexRounds refl c.requires.passed (rw c.in-Ok.is at c.in_ok-used.ensures.whole) in
    comes_on claimed VertexRounds UsedFaces refl faces (whole_vertices g c)
