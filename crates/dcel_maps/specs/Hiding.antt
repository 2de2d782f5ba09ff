-- Lists with another item in the place of those that are given up.
use Rattle.std.specs.Prelude.{ℕ, suc, Bool, cond, List, [], ◌∷◌, Option, None}
use Rattle.dcel_maps.specs.Removals.{Removal, gives_up_vertex, gives_up_face}

-- the items from number n on, but `other` in the place of those whose numbers pass the test
abbrev pub hiding_from : {A : Type 0} → (ℕ → Bool) → A → ℕ → List A → List A
hiding_from test other n [] = []
hiding_from test other n (x ∷ r) = cond (test n) other x ∷ hiding_from test other (suc n) r

abbrev pub hiding : {A : Type 0} → (ℕ → Bool) → A → List A → List A
hiding test other items = hiding_from test other 0 items

-- given-up faces have no word, and given-up vertices and faces no anchor
abbrev pub kept_words : Removal → List (List ℕ) → List (List ℕ)
kept_words r words = hiding (gives_up_face r) [] words

abbrev pub kept_vertex_anchors : Removal → List (Option ℕ) → List (Option ℕ)
kept_vertex_anchors r anchors = hiding (gives_up_vertex r) None anchors

abbrev pub kept_face_anchors : Removal → List (Option ℕ) → List (Option ℕ)
kept_face_anchors r anchors = hiding (gives_up_face r) None anchors
