use Rattle.std.proofs.Common.{◌∙◌, sym, ap, add-one}
use Rattle.std.proofs.lemmas.Grind.{flat_map-append}
use Rattle.dcel_commands.specs.Facts.{face_line, faces_text}
use Rattle.dcel_commands.specs.request.Words.{face_at, faces_below}
use Rattle.dcel_text.proofs.Writing.{writes_nothing, writes_and, writes_text}
use Rattle.dcel_commands.proofs.request.words.write_words.Goals as goal

pub loop-index-init : goal.loop-index-init
loop-index-init g c = writes_nothing

pub loop-index-preserved : goal.loop-index-preserved
loop-index-preserved g c =
    let s = c.args.dcel.now.shape in
    let n = c.loop-index.index in
    writes_text (sym (flat_map-append face_line (faces_below s n) (face_at s n)) ∙ sym (ap (λ k. faces_text (faces_below s k)) (add-one n)))
    (writes_and c.loop-index.invariant (writes_text (ap (λ f. faces_text (face_at s f)) c.new_fixed_face_handle.ensures) c.write_face.ensures))
