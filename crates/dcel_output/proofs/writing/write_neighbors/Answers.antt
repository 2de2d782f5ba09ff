use Rattle.std.proofs.Common.{◌<◌, ◌≤◌, arith, length}
use Rattle.std.proofs.KnownBytes.{Appends-nil}
use Rattle.std.proofs.lemmas.List.{get_or_default, take_all}
use Rattle.std.proofs.lemmas.Slice.Zip.{length-zip}
use Rattle.std.specs.List.{zip}
use Rattle.dcel_output.specs.Lines.{neighbor_line}
use Rattle.dcel_output.proofs.Lines.{one_more_pair}
use Rattle.dcel_output.proofs.writing.write_neighbors.Goals as goal

pub loop-place-init : goal.loop-place-init
loop-place-init g c = Appends-nil _

pub loop-place-preserved : goal.loop-place-preserved
loop-place-preserved g c =
    let ts = c.args.triangles.now in
    let ns = c.args.neighbors.now in
    let i = c.loop-place.place in
    let in_ts : i < length ts = omega (arith, c.loop-place-test.true, c.min-place-end.ensures) in
    let in_ns : i < length ns = omega (arith, c.loop-place-test.true, c.min-place-end.ensures) in
    one_more_pair neighbor_line ts ns i _ _ _ _ _ in_ts in_ns (get_or_default ts i _ _ in_ts) (get_or_default ns i _ _ in_ns) c.loop-place.invariant c.in_ok-write_across.ensures

pub returns : goal.returns
returns g c =
    let both = zip c.args.triangles.now c.args.neighbors.now in
    let long = length-zip c.args.triangles.now c.args.neighbors.now in
    let all : length both ≤ c.loop-place.place = omega (arith, long, c.min-place-end.ensures, c.loop-place-test.false) in
    rw (take_all c.loop-place.place both all) at c.loop-place.invariant
