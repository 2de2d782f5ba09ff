use Rattle.std.proofs.Common.{sym, ◌∙◌}
use Rattle.dcel_edits.proofs.FaceWords.{anchored_triangle-iff}
use Rattle.dcel_edits.proofs.Reading.{face_anchor-lies}
use Rattle.spade_dcel.proofs.dcel.Dcel.is_triangle.Goals as goal

pub is_on_triangle-requires : goal.is_on_triangle-requires
is_on_triangle-requires g c =
    let some = rw (c.face_anchor.ensures, c.adjust_inner_outer.ensures) at c.in-Some.is in
    rw (← c.self.view_is) (face_anchor-lies c.self.invariant c.args.handle c.in-Some.edge some).0

pub returns-in-Some : goal.returns-in-Some
returns-in-Some g c =
    let some = rw (c.face_anchor.ensures, c.adjust_inner_outer.ensures) at c.in-Some.is in
    let live = rw (← c.self.view_is) at (sym c.is_live_face.ensures ∙ c.if-not-is_live_face.false) in
    let triangle = anchored_triangle-iff c.self.invariant c.args.handle c.in-Some.edge live some in
    let three = rw (← c.self.view_is) at c.is_on_triangle.ensures in
    rw (← c.self.view_is) (λ yes. triangle.0 (three.0 yes), λ is. three.1 (triangle.1 is))
