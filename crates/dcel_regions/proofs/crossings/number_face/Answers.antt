use Rattle.std.proofs.Common.{◌≡◌, get_or, arith}
use Rattle.std.proofs.lemmas.Grind.{get_or_default_zero}
use Rattle.dcel_regions.proofs.Levels.{due_reached, due_within, skips}
use Rattle.dcel_regions.proofs.Reached.{reached_within}
use Rattle.dcel_regions.proofs.Steps.{entered, entered_less, on_both}
use Rattle.dcel_regions.proofs.crossings.number_face.Goals as goal

pub index-requires-2 : goal.index-requires-2
index-requires-2 g c =
    let within = due_within c.args.dcel.now c.args.level c.args.numbers.now.items c.args.due.now.items c.args.beyond.now.items c.args.face c.requires c.every_mesh.ensures in
    omega (arith, within, c.args.numbers.now.ok.0, c.index.ensures.value)

pub returns-then-index-gt0-clause-under_way : goal.returns-then-index-gt0-clause-under_way
returns-then-index-gt0-clause-under_way g c =
    let items = c.args.numbers.now.items in
    let within = due_within c.args.dcel.now c.args.level items c.args.due.now.items c.args.beyond.now.items c.args.face c.requires c.every_mesh.ensures in
    let zero = get_or_default_zero items c.args.face c.index-2.result.now within in
    let read = c.index-2.ensures in
    let value = c.index.ensures.value in
    let is : c.index-2.result.now ≡ get_or items c.args.face 0 = cc in
    skips c.args.dcel.now c.args.level items c.args.due.now.items c.args.beyond.now.items c.args.face c.requires (omega (arith, is, c.if-index-gt0.true))

pub index_mut-requires : goal.index_mut-requires
index_mut-requires g c =
    let within = due_within c.args.dcel.now c.args.level c.args.numbers.now.items c.args.due.now.items c.args.beyond.now.items c.args.face c.requires c.every_mesh.ensures in
    omega (arith, within, c.args.numbers.now.ok.0, c.index-3.ensures.value)

pub face-requires : goal.face-requires
face-requires g c =
    reached_within c.args.dcel.now c.every_mesh.ensures c.args.face c.args.level
    (due_reached c.args.dcel.now c.args.level c.args.numbers.now.items c.args.due.now.items c.args.beyond.now.items c.args.face c.requires)

pub returns-clause-under_way : goal.returns-clause-under_way
returns-clause-under_way g c =
    let items = c.args.numbers.now.items in
    let within = due_within c.args.dcel.now c.args.level items c.args.due.now.items c.args.beyond.now.items c.args.face c.requires c.every_mesh.ensures in
    let zero = get_or_default_zero items c.args.face c.index-2.result.now within in
    let read = c.index-2.ensures in
    let value = c.index.ensures.value in
    let is : c.index-2.result.now ≡ get_or items c.args.face 0 = cc in
    let none : get_or items c.args.face 0 ≡ 0 = omega (arith, is, c.if-index-gt0.false) in
    on_both c.list_beside.result c.list_beside.ensures.due c.list_beside.ensures.beyond
    (entered c.args.dcel.now c.every_mesh.ensures c.args.level items c.args.due.now.items c.args.beyond.now.items c.args.face c.requires none _ _
    c.index-3.result c.face.ensures.mesh c.face.ensures.number c.index-3.ensures.value c.list_beside.new.due.items c.list_beside.new.beyond.items)

pub returns-clause-less : goal.returns-clause-less
returns-clause-less g c =
    let items = c.args.numbers.now.items in
    let within = due_within c.args.dcel.now c.args.level items c.args.due.now.items c.args.beyond.now.items c.args.face c.requires c.every_mesh.ensures in
    let zero = get_or_default_zero items c.args.face c.index-2.result.now within in
    let read = c.index-2.ensures in
    let value = c.index.ensures.value in
    let is : c.index-2.result.now ≡ get_or items c.args.face 0 = cc in
    let none : get_or items c.args.face 0 ≡ 0 = omega (arith, is, c.if-index-gt0.false) in
    on_both c.list_beside.result c.list_beside.ensures.due c.list_beside.ensures.beyond
    (entered_less c.args.dcel.now c.every_mesh.ensures c.args.level items c.args.due.now.items c.args.beyond.now.items c.args.face c.requires none _ _
    c.index-3.result c.face.ensures.mesh c.face.ensures.number c.index-3.ensures.value c.list_beside.new.due.items c.list_beside.new.beyond.items)
