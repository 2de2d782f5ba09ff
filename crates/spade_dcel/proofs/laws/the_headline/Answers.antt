use Rattle.dcel_maps.proofs.Headline.{counts_two, faces_cycles, vertices_cycles}
use Rattle.spade_dcel.proofs.laws.the_headline.Goals as goal

pub returns-clause-faces : goal.returns-clause-faces
returns-clause-faces g c = faces_cycles c.every_mesh.ensures.sound

pub returns-clause-vertices : goal.returns-clause-vertices
returns-clause-vertices g c = vertices_cycles c.every_mesh.ensures.sound

pub returns-clause-connected : goal.returns-clause-connected
returns-clause-connected g c = c.every_mesh.ensures.sphere.connected

pub returns-clause-two : goal.returns-clause-two
returns-clause-two g c = counts_two c.every_mesh.ensures.sphere

pub returns-clause-anchored : goal.returns-clause-anchored
returns-clause-anchored g c = c.every_mesh.ensures.anchored
