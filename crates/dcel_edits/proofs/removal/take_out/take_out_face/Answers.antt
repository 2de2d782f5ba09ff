use Rattle.std.proofs.Common.{◌-◌, sym, ap, ◌∙◌}
use Rattle.dcel_edits.specs.TakingOut.{word_renamed}
use Rattle.dcel_edits.proofs.Dropping.{face_dropped-is, face_out-last, face_out-moved}
use Rattle.dcel_edits.proofs.removal.take_out.take_out_face.Goals as goal

pub rename_word-requires : goal.rename_word-requires
rename_word-requires g c =
    let last = ap (λ n. n - 1) (sym c.num_faces-last.ensures.count) in
    let left = face_dropped-is c.args.store.now c.args.face c.num_faces-last.ensures.lengths c.take_face.result c.requires.face_in c.take_face.ensures.others in
    rw left (c.requires.walks (λ same. c.if-index-last.true (c.index.ensures.value ∙ same ∙ last)))

pub returns-then-index-last : goal.returns-then-index-last
returns-then-index-last g c =
    let last = ap (λ n. n - 1) (sym c.num_faces-last.ensures.count) in
    let left = face_dropped-is c.args.store.now c.args.face c.num_faces-last.ensures.lengths c.take_face.result c.requires.face_in c.take_face.ensures.others in
    c.rename_word.ensures ∙ ap (λ l. word_renamed l c.args.face) left
    ∙ sym (face_out-moved c.args.store.now c.args.face (λ same. c.if-index-last.true (c.index.ensures.value ∙ same ∙ last)))

pub returns-else-index-last : goal.returns-else-index-last
returns-else-index-last g c =
    let last = ap (λ n. n - 1) (sym c.num_faces-last.ensures.count) in
    let left = face_dropped-is c.args.store.now c.args.face c.num_faces-last.ensures.lengths c.take_face.result c.requires.face_in c.take_face.ensures.others in
    left ∙ sym (face_out-last c.args.store.now c.args.face (sym c.index.ensures.value ∙ c.if-index-last.false ∙ sym last))
