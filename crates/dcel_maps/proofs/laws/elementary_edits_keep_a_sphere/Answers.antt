use Rattle.dcel_maps.proofs.maps.Chords.{chord_keeps}
use Rattle.dcel_maps.proofs.maps.Firsts.{first_keeps}
use Rattle.dcel_maps.proofs.maps.Renames.{renamed_keeps}
use Rattle.dcel_maps.proofs.maps.Spurs.{spur_keeps}
use Rattle.dcel_maps.proofs.maps.Subdivides.{subdivide_keeps}
use Rattle.dcel_maps.proofs.maps.Unchords.{unchord_keeps}
use Rattle.dcel_maps.proofs.maps.Unspurs.{unspur_keeps}
use Rattle.dcel_maps.proofs.maps.Unsubdivides.{unsubdivide_keeps}
use Rattle.dcel_maps.proofs.shapes.Maps.{map-sound, map-sphere, sphere-from_map}
use Rattle.dcel_maps.proofs.laws.elementary_edits_keep_a_sphere.Goals as goal

pub returns-clause-first : goal.returns-clause-first
returns-clause-first c = λ T h a b edit. first_keeps T h a b edit

pub returns-clause-spur_added : goal.returns-clause-spur_added
returns-clause-spur_added c = λ S T a h v sound sphere edit. spur_keeps S T a h v edit sound sphere

pub returns-clause-spur_dropped : goal.returns-clause-spur_dropped
returns-clause-spur_dropped c = λ S T a h v sound sphere edit. unspur_keeps S T a h v edit sound sphere

pub returns-clause-edge_subdivided : goal.returns-clause-edge_subdivided
returns-clause-edge_subdivided c = λ S T h k v sound sphere edit. subdivide_keeps S T h k v edit sound sphere

pub returns-clause-edges_joined : goal.returns-clause-edges_joined
returns-clause-edges_joined c = λ S T h k v sound sphere edit. unsubdivide_keeps S T h k v edit sound sphere

pub returns-clause-word_cut : goal.returns-clause-word_cut
returns-clause-word_cut c = λ S T p q h g arc sound sphere edit. chord_keeps S T p q h g arc edit sound sphere

pub returns-clause-words_joined : goal.returns-clause-words_joined
returns-clause-words_joined c = λ S T p q h g arc sound sphere edit. unchord_keeps S T p q h g arc edit sound sphere

pub returns-clause-renumbered : goal.returns-clause-renumbered
returns-clause-renumbered c = λ S T half back vertex face sound sphere edit. renamed_keeps S T half back vertex face edit sound sphere

pub returns-clause-shapes : goal.returns-clause-shapes
returns-clause-shapes c = λ s sound. (map-sound sound, (map-sphere sound, sphere-from_map sound))
