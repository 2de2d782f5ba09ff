use Rattle.dcel_maps.proofs.Triangulations.{closed_outside, extended, inserted, put_beside, set_up, split_both_sides, split_on_line, split_one_side}
use Rattle.dcel_maps.proofs.laws.growth_keeps_triangles.Goals as goal

pub returns-clause-setup : goal.returns-clause-setup
returns-clause-setup g c = λ m a b halves edges all. set_up m all a b halves edges

pub returns-clause-extend : goal.returns-clause-extend
returns-clause-extend g c = λ m end tip halves edges mesh line all. extended m all mesh end tip halves edges line

pub returns-clause-on_line : goal.returns-clause-on_line
returns-clause-on_line g c = λ m e middle halves edges mesh bridge all. split_on_line m all mesh e middle halves edges bridge

pub returns-clause-close : goal.returns-clause-close
returns-clause-close g c = λ m e halves edges faces all. closed_outside m all e halves edges faces

pub returns-clause-beside : goal.returns-clause-beside
returns-clause-beside g c = λ m e tip halves edges faces outer all. put_beside m all e tip halves edges faces outer

pub returns-clause-insert : goal.returns-clause-insert
returns-clause-insert g c = λ m v f halves edges faces all. inserted m all v f halves edges faces

pub returns-clause-one_side : goal.returns-clause-one_side
returns-clause-one_side g c = λ m e middle halves edges faces outer all. split_one_side m all e middle halves edges faces outer

pub returns-clause-both_sides : goal.returns-clause-both_sides
returns-clause-both_sides g c = λ m e middle halves edges faces all. split_both_sides m all e middle halves edges faces
