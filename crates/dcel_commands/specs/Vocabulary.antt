-- What the clauses of the files in `request` cite of this crate and of those below.
pub use Rattle.dcel_commands.specs.Conditions.{NoOtherOpen, PassesOrRefuses, Removable}
pub use Rattle.dcel_commands.specs.Responses.{answered, response}
pub use Rattle.dcel_commands.specs.Spelling.{Says}
pub use Rattle.dcel_commands.specs.Steps.{Carries}
pub use Rattle.dcel_maps.specs.Shapes.{IsLive, IsMesh, IsSound, face_count, face_of}
pub use Rattle.dcel_maps.specs.Walking.{ccw_of, walk_of}
pub use Rattle.dcel_maps.specs.Words.{word_of}
pub use Rattle.dcel_text.specs.Items.{left}
pub use Rattle.dcel_text.specs.Output.{Writes}
pub use Rattle.dcel_text.specs.Texts.{listed}
pub use Rattle.spade_dcel.specs.Handles.{mesh_behind, number_of}
