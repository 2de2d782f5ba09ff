use Rattle.std.proofs.Common.{◌∙◌, arith}
use Rattle.spade_dcel.specs.Handles.{mesh_behind, number_of}
use Rattle.dcel_commands.proofs.FaceWalks.{IsStep, first_stands, step_stands, stands_live, left_less, listed_first, listed_more, listed_all}
use Rattle.dcel_text.proofs.Writing.{writes_and, writes_text}
use Rattle.dcel_commands.proofs.request.words.write_word.Goals as goal

pub loop-least-init : goal.loop-least-init
loop-least-init g c =
    let h = number_of c.args.least in
    record {
      mesh = c.next-edge.ensures.mesh;
      stands = first_stands c.requires.sound h c.requires.least.live _ c.next-edge.ensures.number;
      wrote = writes_text (listed_first c.requires.sound h c.requires.least.live _ _ c.index.ensures.value c.next-edge.ensures.number)
          c.spaced_number.ensures;
    }

pub next-edge-requires-in-loop-least : goal.next-edge-requires-in-loop-least
next-edge-requires-in-loop-least g c =
    rw c.loop-least.invariant.mesh
    (stands_live c.requires.sound (number_of c.args.least) c.requires.least.live (number_of c.loop-least.edge) c.loop-least.invariant.stands)

pub loop-least-smaller : goal.loop-least-smaller
loop-least-smaller g c =
    let step : IsStep (mesh_behind c.args.least).shape (number_of c.args.least) (number_of c.loop-least.edge) (number_of c.next-edge-in-loop-least.result) = record {
      stands = c.loop-least.invariant.stands;
      away = omega arith;
      next = rw c.loop-least.invariant.mesh at c.next-edge-in-loop-least.ensures.number;
    } in
    left_less c.requires.sound (number_of c.args.least) c.requires.least.live step

pub loop-least-preserved : goal.loop-least-preserved
loop-least-preserved g c =
    let h = number_of c.args.least in
    let step : IsStep (mesh_behind c.args.least).shape (number_of c.args.least) (number_of c.loop-least.edge) (number_of c.next-edge-in-loop-least.result) = record {
      stands = c.loop-least.invariant.stands;
      away = omega arith;
      next = rw c.loop-least.invariant.mesh at c.next-edge-in-loop-least.ensures.number;
    } in
    record {
      mesh = c.next-edge-in-loop-least.ensures.mesh ∙ c.loop-least.invariant.mesh;
      stands = step_stands c.requires.sound h c.requires.least.live step;
      wrote = writes_text (listed_more c.requires.sound h c.requires.least.live _ c.index-in-loop-least-3.ensures.value step)
          (writes_and c.loop-least.invariant.wrote c.spaced_number-in-loop-least.ensures);
    }

pub returns : goal.returns
returns g c =
    writes_text (listed_all c.requires.sound (number_of c.args.least) c.requires.least.live (number_of c.loop-least.edge) (omega arith) c.requires.least)
    c.loop-least.invariant.wrote
