use Rattle.std.proofs.Common.{◌≡◌, ◌+◌, length, reverse, ap, ◌∙◌, subst}
use Rattle.dcel_maps.specs.edits.DefaultData.{AddsEdgesAndFaces}
use Rattle.dcel_edits.specs.Fill.{closing, ear_stored}
use Rattle.dcel_edits.proofs.Ears.{putting_goes_on}
use Rattle.dcel_edits.proofs.fill.put_ears.Goals as goal

pub loop-following-preserved : goal.loop-following-preserved
loop-following-preserved g c =
    let l = c.loop-following in
    let following = c.in-Some.field-0-0.now in
    let before = c.in-Some.before.now in
    let closes : c.closing_half-closing.result ≡ closing (length l.store.undirected_data + 1) following (reverse before) =
    c.closing_half-closing.ensures ∙ ap (λ n. closing (n + 1) following (reverse before)) c.num_edges-in-Some.ensures.count in
    let ear =
    subst
    (λ k.
    AddsEdgesAndFaces g.DE.Default.is_default g.UE.Default.is_default g.F.Default.is_default 1 1 c.put_ear-beginning.new.store
    (ear_stored l.store c.origin-apex.result l.beginning l.middle l.end k))
    closes c.put_ear-beginning.ensures.ear in
    rw c.put_ear-beginning.ensures.answer
    (putting_goes_on g.DE.Default.is_default g.UE.Default.is_default g.F.Default.is_default c.origin-apex.result _ l.store l.beginning l.middle l.end
    l.to_come.now l.invariant following before c.in-Some.ensures.cases.0 c.put_ear-beginning.new.store ear)
