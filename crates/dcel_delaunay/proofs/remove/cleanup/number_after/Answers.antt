use Rattle.std.proofs.Common.{◌≡◌, ◌+◌, ◌++◌, ℕ, length, subst, sym, arith}
use Rattle.std.proofs.lemmas.List.{take-append-drop}
use Rattle.dcel_delaunay.proofs.Renaming.{Renames, renames_far, renames_still}
use Rattle.dcel_delaunay.proofs.remove.cleanup.number_after.Goals as goal

pub loop-left-preserved : goal.loop-left-preserved
loop-left-preserved c =
    let place = c.index-place.ensures.value in
    let moved = c.is_moved.ensures.0 c.loop-left-test.true in
    let below = moved.0 in
    let near = moved.1 in
    let before = c.split_at.result.0.now in
    let after = c.split_at.result.1.now in
    let parts : before ++ after ≡ c.loop-left.left.now = rw (c.split_at.ensures.front, c.split_at.ensures.back) (take-append-drop _ c.loop-left.left.now) in
    let far : length after + c.loop-left.number + 1 ≡ c.loop-left.last = omega (arith, c.split_at.ensures.back_len, place, below, near) in
    subst (λ (k : ℕ). Renames k c.in-Some.others.now c.in-Some.field-0-0.now c.args.count c.args.taken_out.now c.args.edge) (sym place)
    (renames_far c.loop-left.last c.in-Some.field-0-0.now c.loop-left.number c.args.count c.args.edge c.loop-left.left.now before after c.in-Some.others.now c.args.taken_out.now
    (sym parts) far c.in-Some.ensures.cases.0 c.loop-left.invariant)

pub returns : goal.returns
returns c =
    renames_still c.loop-left.last c.loop-left.number c.args.count c.args.edge c.loop-left.left.now c.args.taken_out.now
    (λ moved. (let yes = c.is_moved.ensures.1 moved in let no = c.loop-left-test.false in cc)) c.loop-left.invariant
