use Rattle.std.proofs.Common.{◌≡◌, ◌∙◌, ap, sym}
use Rattle.spade_dcel.specs.Handles.{mesh_behind, number_of}
use Rattle.dcel_maps.specs.Shapes.{face_of}
use Rattle.dcel_maps.specs.Words.{word_of}
use Rattle.dcel_maps.proofs.walks.Links.{half-below}
use Rattle.dcel_text.specs.Texts.{listed}
use Rattle.dcel_commands.proofs.FaceWalks.{anchor_lies, unanchored_word}
use Rattle.dcel_text.proofs.Writing.{writes_nothing, writes_text}
use Rattle.dcel_commands.proofs.request.words.write_half_edges.Goals as goal

pub returns-in_default : goal.returns-in_default
returns-in_default g c =
    let empty = unanchored_word c.requires.mesh c.args.face c.requires.in_range (sym c.face_adjacent_edge.ensures ∙ c.in_default.is) in
    writes_text (sym (ap listed empty)) writes_nothing

pub directed_edge-requires : goal.directed_edge-requires
directed_edge-requires g c =
    let lies = anchor_lies c.requires.mesh c.args.face c.requires.in_range c.in-Some.anchor (sym c.face_adjacent_edge.ensures ∙ c.in-Some.is) in
    half-below c.args.dcel.now.shape c.in-Some.anchor lies.0

pub least_on_face-requires-clause-live : goal.least_on_face-requires-clause-live
least_on_face-requires-clause-live g c =
    let lies = anchor_lies c.requires.mesh c.args.face c.requires.in_range c.in-Some.anchor (sym c.face_adjacent_edge.ensures ∙ c.in-Some.is) in
    rw (c.directed_edge.ensures.mesh, c.directed_edge.ensures.number) lies.0

pub returns : goal.returns
returns g c =
    let lies = anchor_lies c.requires.mesh c.args.face c.requires.in_range c.in-Some.anchor (sym c.face_adjacent_edge.ensures ∙ c.in-Some.is) in
    let words = (mesh_behind c.least_on_face.result).shape.words in
    let face : face_of (mesh_behind c.least_on_face.result).shape (number_of c.least_on_face.result) ≡ c.args.face =
    c.least_on_face.ensures.face ∙ rw (c.directed_edge.ensures.mesh, c.directed_edge.ensures.number) lies.1 in
    let word : word_of words c.args.face ≡ word_of c.args.dcel.now.shape.words c.args.face =
    ap (λ m. word_of m.shape.words c.args.face) (c.least_on_face.ensures.mesh ∙ c.directed_edge.ensures.mesh) in
    writes_text (ap listed (ap (word_of words) face ∙ word)) c.write_word.ensures
