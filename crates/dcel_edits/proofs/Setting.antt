-- Lists written at places, in another order.
use Rattle.std.proofs.Common.{◌≡◌, inl, inr, ℕ, List, [], ◌∷◌, ◌++◌, slice_set, refl, ap, ◌∙◌}
use Rattle.std.proofs.lemmas.Bool.{cases_eq}
use Rattle.std.proofs.lemmas.List.{set_comm}
use Rattle.dcel_edits.specs.Rounds.{all_set}

-- two writes of the same item commute
set-same : (w : List ℕ) (x y v : ℕ) → slice_set (slice_set w x v) y v ≡ slice_set (slice_set w y v) x v
set-same w x y v = elim (cases_eq x y) [
  | inl same ↦ rw same refl
  | inr differs ↦ set_comm w x y v v differs
]

-- so the last place may be written first
pub all_set-last : (w l : List ℕ) (x v : ℕ) → all_set w (l ++ x ∷ []) v ≡ all_set (slice_set w x v) l v
all_set-last w [] x v = refl
all_set-last w (y ∷ l) x v = all_set-last (slice_set w y v) l x v ∙ ap (λ u. all_set u l v) (set-same w y x v)
