-- What stands in the word of a face.
use Rattle.std.proofs.Common.{◌≡◌, ◌≢◌, inl, inr, ℕ, ◌/◌, ◌<◌, ◌≤◌, false, List, sym, ap, ◌∙◌, arith}
use Rattle.std.proofs.lemmas.Bool.{cases_lt, false≢true}
use Rattle.dcel_maps.specs.Maps.{Live, Map}
use Rattle.dcel_maps.specs.theory.Standing.{Follows}
use Rattle.dcel_maps.specs.Words.{count_of}
use Rattle.dcel_maps.proofs.words.Counts.{count-none}
use Rattle.dcel_maps.proofs.words.Faces.{IsWordOf}
use Rattle.dcel_maps.proofs.words.Paths.{next_in_word-follows}

-- it is live and lies on that face, and it stands there once
module _ (M : Map) (f : ℕ) (w : List ℕ) (word : IsWordOf M f w) where
  pub stands_live : (x : ℕ) → 0 < count_of x w → Live M x × (M.face x ≡ f)
  stands_live x found = let link = next_in_word-follows (Follows M f) w word.cycle x found in (link.live, link.face)

  pub stands_once : (x : ℕ) → count_of x w ≤ 1
  stands_once x = elim (cases_lt 0 (count_of x w)) [
    | inl found ↦ let (live, face) = stands_live x found in omega (arith, word.once x live face)
    | inr none ↦ omega (arith, none)
  ]

  -- what lies elsewhere or isn't live doesn't stand there
  pub elsewhere_absent : (x : ℕ) → M.face x ≢ f → count_of x w ≡ 0
  elsewhere_absent x away = count-none x w (λ y found is. away (ap M.face is ∙ (stands_live y found).1))

  pub dead_absent : (x : ℕ) → M.edge (x / 2) ≡ false → count_of x w ≡ 0
  dead_absent x dead = count-none x w (λ y found is. false≢true (sym dead ∙ ap (λ z. M.edge (z / 2)) is ∙ (stands_live y found).0))
