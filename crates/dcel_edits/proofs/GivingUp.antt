-- Faces lose their anchors one after the other.
use Rattle.std.proofs.Common.{◌≡◌, ℕ, ◌<◌, List, ◌∷◌, length, slice_set, None, sym, ap, ◌∙◌, subst, arith}
use Rattle.std.proofs.lemmas.List.{length-set, nil_from_length}
use Rattle.dcel_store.specs.Lists.{Lists}
use Rattle.dcel_maps.specs.Words.{count_of}
use Rattle.dcel_maps.proofs.words.Counts.{count-later, count-same}
use Rattle.dcel_edits.specs.Fill.{AreFaces, faces_dropped}

module _ {V DE UE F : Type 0} (start : Lists V DE UE F) (faces : List ℕ) where
  -- so far: nothing else has changed, and the rest of the faces gives what all of them give
  pub record Drops (now : Lists V DE UE F) (left : List ℕ) : Type 0 where
    pub same : faces_dropped now left ≡ faces_dropped start faces
    pub faces_in : AreFaces now left

  pub drops_end : (now : Lists V DE UE F) (left : List ℕ) → Drops now left → length left ≡ 0 → now ≡ faces_dropped start faces
  drops_end now left on none = ap (faces_dropped now) (sym (nil_from_length left none)) ∙ on.same

  pub drops_on : (now : Lists V DE UE F) (left after : List ℕ) (f : ℕ) → Drops now left → left ≡ f ∷ after
      → Drops (record now { face_anchors = slice_set now.face_anchors f None }) after
  drops_on now left after f on parts = record {
    same = ap (faces_dropped now) (sym parts) ∙ on.same;
    faces_in = λ k found. omega (arith, length-set now.face_anchors f None, on.faces_in k (subst (λ w. 0 < count_of k w) (sym parts) (count-later k f after found)));
  }

  pub drops_within : (now : Lists V DE UE F) (left after : List ℕ) (f : ℕ) → Drops now left → left ≡ f ∷ after → f < length now.face_anchors
  drops_within now left after f on parts = on.faces_in f (subst (λ w. 0 < count_of f w) (sym parts) (omega (arith, count-same f after)))
