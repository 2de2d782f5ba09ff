use Rattle.std.proofs.Common.{◌≡◌, ◌∙◌, ◌<◌, [], length, slice_index_or, sym, ap, arith, map}
use Rattle.std.proofs.lemmas.List.{get_or-map, length-map}
use Rattle.dcel_exchange.proofs.Rows.{row_all, row_one, too_many}
use Rattle.dcel_exchange.proofs.sides.list_sides.Goals as goal

pub returns-then-corners-len-clause-reason : goal.returns-then-corners-len-clause-reason
returns-then-corners-len-clause-reason g c =
    let i = c.loop-index.index in
    let within : i < length (map g.S.AsSlice.items c.args.faces.now) = omega (arith, c.loop-index-test.true, length-map c.args.faces.now g.S.AsSlice.items) in
    let is : c.as_slice-corners.result.now ≡ slice_index_or (map g.S.AsSlice.items c.args.faces.now) i [] =
    c.as_slice-corners.ensures ∙ ap g.S.AsSlice.items c.index-faces-index.is
    ∙ sym (get_or-map g.S.AsSlice.items c.args.faces.now i c.index-faces-index.result [] c.loop-index-test.true) in
    λ vertices. too_many (map g.S.AsSlice.items c.args.faces.now) i c.loop-index.sides.from.items c.loop-index.sides.to.items c.loop-index.sides.face.items c.loop-index.sides.after.items
    c.as_slice-corners.result.now c.loop-index.invariant within is
    (omega (arith, c.if-corners-len.true, c.len.ensures, c.loop-index.sides.from.ok, c.loop-index.invariant.few))

pub loop-index-preserved : goal.loop-index-preserved
loop-index-preserved g c =
    let i = c.loop-index.index in
    let within : i < length (map g.S.AsSlice.items c.args.faces.now) = omega (arith, c.loop-index-test.true, length-map c.args.faces.now g.S.AsSlice.items) in
    let is : c.as_slice-corners.result.now ≡ slice_index_or (map g.S.AsSlice.items c.args.faces.now) i [] =
    c.as_slice-corners.ensures ∙ ap g.S.AsSlice.items c.index-faces-index.is
    ∙ sym (get_or-map g.S.AsSlice.items c.args.faces.now i c.index-faces-index.result [] c.loop-index-test.true) in
    row_one (map g.S.AsSlice.items c.args.faces.now) i c.loop-index.sides.from.items c.loop-index.sides.to.items c.loop-index.sides.face.items c.loop-index.sides.after.items
    c.as_slice-corners.result.now c.loop-index.invariant within is c.if-corners-lt3.false
    (omega (arith, c.if-corners-len.false, c.len.ensures, c.loop-index.sides.from.ok, c.loop-index.invariant.few))
    c.add.new.self.from.items c.add.new.self.to.items c.add.new.self.face.items c.add.new.self.after.items
    c.in_ok-add.ensures.from c.in_ok-add.ensures.to c.in_ok-add.ensures.face c.in_ok-add.ensures.after

pub returns-clause-sides : goal.returns-clause-sides
returns-clause-sides g c =
    row_all (map g.S.AsSlice.items c.args.faces.now) c.loop-index.index c.loop-index.sides.from.items c.loop-index.sides.to.items c.loop-index.sides.face.items c.loop-index.sides.after.items
    c.loop-index.invariant (omega (arith, c.loop-index-test.false, c.loop-index.auto.index-end, length-map c.args.faces.now g.S.AsSlice.items))
