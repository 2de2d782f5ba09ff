use Rattle.std.proofs.Common.{refl}
use Rattle.dcel_maps.specs.EditLists.{nothing}
use Rattle.dcel_maps.proofs.maps.Agreement.{empty_sound, empty_sphere}
use Rattle.dcel_maps.proofs.maps.ListCounts.{comes_counted}
use Rattle.dcel_maps.proofs.maps.Lists.{comes_keeps, comes_then}
use Rattle.dcel_maps.proofs.laws.lists_of_edits_keep_a_sphere.Goals as goal

pub returns-clause-nothing : goal.returns-clause-nothing
returns-clause-nothing c = (empty_sound nothing (λ u. refl), empty_sphere nothing (λ u. refl))

pub returns-clause-keeps : goal.returns-clause-keeps
returns-clause-keeps c = λ kinds S T sound sphere comes. comes_keeps kinds S T comes sound sphere

pub returns-clause-counts : goal.returns-clause-counts
returns-clause-counts c = λ kinds S T sound sphere comes. comes_counted kinds S T comes sound sphere

pub returns-clause-then : goal.returns-clause-then
returns-clause-then c = λ kinds more S M T first rest. comes_then kinds more S M T first rest
