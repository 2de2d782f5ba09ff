use Rattle.std.proofs.Common.{◌≡◌, ◌<◌, ◌≤◌, Some, length, slice_get, refl, rules, arith, vec_len}
use Rattle.std.proofs.lemmas.Option.{slice_get_read}
use Rattle.dcel_delaunay.proofs.listing.Faces.{next_below, numbered_all, numbered_more, numbered_none}
use Rattle.dcel_delaunay.proofs.triangles.list.list_triangles.Goals as goal

pub loop-place-init : goal.loop-place-init
loop-place-init g c =
    numbered_none c.args.mesh.now c.every_mesh.ensures c.args.numbers.now c.in_ok-list.list.items c.in_ok-list.ensures.list (c.in_ok-list.ensures.corners c.requires.triangles)

pub numbers_at-requires : goal.numbers_at-requires
numbers_at-requires g c =
    let list = c.loop-place.list.items in
    let place = c.loop-place.place in
    let t = c.index.result.now in
    let long : length list ≡ vec_len c.loop-place.list = search rules in
    let below : place < length list = omega (arith, long, c.len.ensures, c.loop-place-test.true) in
    let at : slice_get list place ≡ Some t = slice_get_read list (length list) place t refl below c.index.ensures in
    next_below c.args.mesh.now c.every_mesh.ensures c.args.numbers.now list place t c.requires.numbered c.loop-place.invariant at

pub loop-place-preserved : goal.loop-place-preserved
loop-place-preserved g c =
    let list = c.loop-place.list.items in
    let place = c.loop-place.place in
    let t = c.index.result.now in
    let long : length list ≡ vec_len c.loop-place.list = search rules in
    let below : place < length list = omega (arith, long, c.len.ensures, c.loop-place-test.true) in
    let at : slice_get list place ≡ Some t = slice_get_read list (length list) place t refl below c.index.ensures in
    numbered_more c.args.mesh.now.shape c.args.numbers.now list place t c.numbers_at.result c.loop-place.invariant at c.numbers_at.ensures

pub returns-clause-each : goal.returns-clause-each
returns-clause-each g c =
    let list = c.loop-place.list.items in
    let long : length list ≡ vec_len c.loop-place.list = search rules in
    let all : length list ≤ c.loop-place.place = omega (arith, long, c.len.ensures, c.loop-place-test.false) in
    numbered_all c.args.mesh.now.shape c.args.numbers.now list c.loop-place.place all c.loop-place.invariant
