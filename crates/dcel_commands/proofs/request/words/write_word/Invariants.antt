use Rattle.std.proofs.Common.{◌≡◌, ◌<◌}
use Rattle.spade_dcel.specs.Handles.{mesh_behind, number_of}
use Rattle.dcel_maps.specs.Words.{count_of}
use Rattle.dcel_commands.specs.request.Words.{word_round}
use Rattle.dcel_text.specs.Output.{Writes}
use Rattle.dcel_text.specs.Texts.{listed}
use Rattle.dcel_commands.proofs.FaceWalks.{passed_round, left_round}
use Rattle.dcel_commands.proofs.request.words.write_word.Given as goal

abbrev pub invariant-loop-least : goal.invariant-loop-least
invariant-loop-least g l = record {
  mesh : mesh_behind l.edge ≡ mesh_behind l.least;
  stands : 0 < count_of (number_of l.edge) (word_round (mesh_behind l.least).shape (number_of l.least));
  wrote : Writes g.K.LineSink.has_failed g.K.LineSink.contents l.fn.out l.out (listed (passed_round (mesh_behind l.least).shape (number_of l.least) (number_of l.edge)));
}

abbrev pub decreases-loop-least : goal.decreases-loop-least
decreases-loop-least g l = left_round (mesh_behind l.least).shape (number_of l.least) (number_of l.edge)
