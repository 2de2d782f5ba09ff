use Rattle.std.proofs.Common.{◌≡◌, ◌∷◌, ◌++◌, ◌∙◌, [], cond, true, false, ap, append-nil, sym}
use Rattle.std.specs.Fmt.{decimal}
use Rattle.dcel_maps.specs.Shapes.{face_is_live}
use Rattle.dcel_maps.specs.Words.{word_of}
use Rattle.dcel_commands.specs.Facts.{face_line, faces_text}
use Rattle.dcel_text.specs.Texts.{listed}
use Rattle.dcel_text.proofs.Writing.{writes_nothing, writes_and, writes_text}
use Rattle.dcel_commands.proofs.request.words.write_face.Goals as goal

pub returns-then-not-is_live_face : goal.returns-then-not-is_live_face
returns-then-not-is_live_face g c =
    let s = c.args.dcel.now.shape in
    let f = c.args.face in
    let dead : face_is_live s f ≡ false = sym c.is_live_face.ensures ∙ c.if-not-is_live_face.true in
    writes_text (sym (ap (λ b. faces_text (cond b ((f, word_of s.words f) ∷ []) [])) dead)) writes_nothing

pub returns : goal.returns
returns g c =
    let s = c.args.dcel.now.shape in
    let f = c.args.face in
    let live : face_is_live s f ≡ true = sym c.is_live_face.ensures ∙ c.if-not-is_live_face.false in
    let written = writes_and (writes_and (writes_and c.write.ensures c.number.ensures) c.write_half_edges.ensures) c.write-2.ensures in
    writes_text
    (ap (λ n. (70 ∷ decimal n ++ listed (word_of s.words f)) ++ 10 ∷ []) c.index.ensures.value
    ∙ sym (append-nil (face_line (f, word_of s.words f)))
    ∙ sym (ap (λ b. faces_text (cond b ((f, word_of s.words f) ∷ []) [])) live))
    written
