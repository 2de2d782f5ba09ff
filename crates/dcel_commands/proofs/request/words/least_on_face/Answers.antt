use Rattle.std.proofs.Common.{◌∙◌, arith, refl}
use Rattle.spade_dcel.specs.Handles.{mesh_behind, number_of}
use Rattle.dcel_commands.proofs.FaceWalks.{IsStep, stands_live, left_less, least_first, least_more, least_all}
use Rattle.dcel_commands.proofs.request.words.least_on_face.Goals as goal
use Rattle.dcel_commands.proofs.request.words.least_on_face.Goals.{then-index, else-index}

pub loop-anchor-init : goal.loop-anchor-init
loop-anchor-init g c = record {
  mesh = c.next-edge.ensures.mesh;
  least_mesh = refl;
  so_far = least_first c.requires.sound (number_of c.args.anchor) c.requires.live _ c.next-edge.ensures.number;
}

pub next-edge-requires-in-loop-anchor : goal.next-edge-requires-in-loop-anchor
next-edge-requires-in-loop-anchor g c =
    rw c.loop-anchor.invariant.mesh
    (stands_live c.requires.sound (number_of c.args.anchor) c.requires.live (number_of c.loop-anchor.edge) c.loop-anchor.invariant.so_far.stands)

pub loop-anchor-smaller : goal.loop-anchor-smaller
loop-anchor-smaller g c =
    let step : IsStep (mesh_behind c.args.anchor).shape (number_of c.args.anchor) (number_of c.loop-anchor.edge) (number_of c.next-edge-in-loop-anchor.result) = record {
      stands = c.loop-anchor.invariant.so_far.stands;
      away = omega arith;
      next = rw c.loop-anchor.invariant.mesh at c.next-edge-in-loop-anchor.ensures.number;
    } in
    left_less c.requires.sound (number_of c.args.anchor) c.requires.live step

pub loop-anchor-preserved : goal.loop-anchor-preserved
loop-anchor-preserved g c =
    let so_far = c.loop-anchor.invariant.so_far in
    let step : IsStep (mesh_behind c.args.anchor).shape (number_of c.args.anchor) (number_of c.loop-anchor.edge) (number_of c.next-edge-in-loop-anchor.result) = record {
      stands = so_far.stands;
      away = omega arith;
      next = rw c.loop-anchor.invariant.mesh at c.next-edge-in-loop-anchor.ensures.number;
    } in
    record {
      mesh = c.next-edge-in-loop-anchor.ensures.mesh ∙ c.loop-anchor.invariant.mesh;
      least_mesh = elim c.if-index.branch [
        | then-index w ↦ rw w.least-is c.loop-anchor.invariant.mesh
        | else-index w ↦ rw w.least-is c.loop-anchor.invariant.least_mesh
      ];
      so_far = elim c.if-index.branch [
        | then-index w ↦ rw w.least-is
            (least_more c.requires.sound (number_of c.args.anchor) c.requires.live (number_of c.loop-anchor.edge) step so_far (omega arith) (omega arith) so_far.stands)
        | else-index w ↦ rw w.least-is
            (least_more c.requires.sound (number_of c.args.anchor) c.requires.live (number_of c.loop-anchor.least) step so_far (omega arith) (omega arith) so_far.least_stands)
      ];
    }

pub returns-clause-face : goal.returns-clause-face
returns-clause-face g c =
    let all = least_all c.requires.sound (number_of c.args.anchor) c.requires.live (omega arith) c.loop-anchor.invariant.so_far in
    rw c.loop-anchor.invariant.least_mesh all.1

pub returns-clause-least : goal.returns-clause-least
returns-clause-least g c =
    let all = least_all c.requires.sound (number_of c.args.anchor) c.requires.live (omega arith) c.loop-anchor.invariant.so_far in
    rw c.loop-anchor.invariant.least_mesh all.0
