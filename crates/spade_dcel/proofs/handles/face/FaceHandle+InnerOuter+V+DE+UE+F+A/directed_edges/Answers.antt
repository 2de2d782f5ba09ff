use Rattle.std.proofs.Common.{◌≡◌, ℕ, Option, Some, None, IfSome, sym, ap, ◌∙◌}
use Rattle.dcel_maps.specs.Shapes.{AnchorsWord, IsSound, Mesh, Shape, face_anchor, next_of}
use Rattle.dcel_maps.specs.Walking.{IsRoundTrip, walk_from}
use Rattle.dcel_maps.specs.Words.{word_of}
use Rattle.dcel_maps.proofs.walks.Faces.{anchor-below, anchor-lies, anchor-lists, anchor-turn, word-lists}
use Rattle.dcel_maps.proofs.walks.Links.{links_lawful}
use Rattle.dcel_maps.proofs.walks.UnderWay.{walk-round}
use Rattle.spade_dcel.proofs.handles.face.FaceHandle+InnerOuter+V+DE+UE+F+A.directed_edges.Goals as goal

-- from its anchor on, and round
anchor-round : {s : Shape} → IsSound s → (f : ℕ) (anchor : Option ℕ) → AnchorsWord (word_of s.words f) anchor
    → IfSome anchor (λ a. IsRoundTrip (next_of s) a (walk_from s (next_of s) anchor))
anchor-round sound f None anchored = tt
anchor-round sound f (Some a) anchored = walk-round (links_lawful sound) a ((word-lists sound f).no_other a anchored).live

-- the anchor that was read is that of the face
read_anchor : {V DE UE F : Type 0} (m : Mesh V DE UE F) (f n : ℕ) (read : Option ℕ) (edge : ℕ) → n ≡ f → read ≡ face_anchor m n → read ≡ Some edge
    → face_anchor m f ≡ Some edge
read_anchor m f n read edge number is some = ap (face_anchor m) (sym number) ∙ sym is ∙ some

pub directed_edge-requires : goal.directed_edge-requires
directed_edge-requires g c =
    let f = c.args.self.now.number in
    let some = read_anchor c.args.self.now.dcel.now f c.fix.result c.face_adjacent_edge.result c.in-Some.edge c.fix.ensures.value c.face_adjacent_edge.ensures c.in-Some.is in
    anchor-below c.every_mesh.ensures f c.args.self.now.in_range c.in-Some.edge some

pub new-requires : goal.new-requires
new-requires g c =
    let f = c.args.self.now.number in
    let some = read_anchor c.args.self.now.dcel.now f c.fix.result c.face_adjacent_edge.result c.in-Some.edge c.fix.ensures.value c.face_adjacent_edge.ensures c.in-Some.is in
    rw (c.directed_edge.ensures.mesh, c.directed_edge.ensures.number)
    (anchor-lies c.every_mesh.ensures f c.args.self.now.in_range c.in-Some.edge some).live

pub returns-in-Some-clause-word : goal.returns-in-Some-clause-word
returns-in-Some-clause-word g c =
    let f = c.args.self.now.number in
    anchor-turn c.every_mesh.ensures.sound f (face_anchor c.args.self.now.dcel.now f) (c.every_mesh.ensures.anchored.faces f c.args.self.now.in_range)

pub returns-in-Some-clause-each : goal.returns-in-Some-clause-each
returns-in-Some-clause-each g c = anchor-lists c.every_mesh.ensures c.args.self.now.number c.args.self.now.in_range

pub returns-in-Some-clause-round : goal.returns-in-Some-clause-round
returns-in-Some-clause-round g c =
    let f = c.args.self.now.number in
    anchor-round c.every_mesh.ensures.sound f (face_anchor c.args.self.now.dcel.now f) (c.every_mesh.ensures.anchored.faces f c.args.self.now.in_range)

pub returns-in-None-clause-each : goal.returns-in-None-clause-each
returns-in-None-clause-each g c = anchor-lists c.every_mesh.ensures c.args.self.now.number c.args.self.now.in_range
