-- The items of a ring with a hole: they are live, and none stands there twice.
use Rattle.std.proofs.Common.{inl, inr, ◌/◌, ◌<◌, ◌≤◌, ℕ, List, ◌∷◌, sym, ap, ◌∙◌}
use Rattle.std.proofs.lemmas.Bool.{both_ways, cases_Bool}
use Rattle.dcel_maps.specs.Removals.{Removal, gives_up_edge}
use Rattle.dcel_maps.specs.Shapes.{IsLive, Shape, origin_of}
use Rattle.dcel_maps.specs.theory.Standing.{Follows}
use Rattle.dcel_maps.specs.Words.{count_of}
use Rattle.dcel_maps.proofs.removal.Spokes.{path_item}
use Rattle.dcel_maps.proofs.words.Counts.{count-none}
use Rattle.dcel_maps.proofs.removal.Hollows.{HollowOf}
use Rattle.dcel_maps.proofs.removal.Passing.{no_return}

module _ (s : Shape) (removal : Removal) (p : ℕ) (rest : List ℕ) (n : ℕ) (hole : HollowOf s removal (p ∷ rest) n) where
  pub item_live : (y : ℕ) → 0 < count_of y (p ∷ rest) → IsLive s y
  item_live y found =
      let live = (path_item hole.map n p rest p hole.cycle y found).0 in
      elim (cases_Bool (gives_up_edge removal (y / 2))) [
        | inl given ↦ absurd (both_ways (hole.map.edge (y / 2)) (hole.gone (y / 2) given) live)
        | inr kept ↦ sym (hole.kept (y / 2) kept) ∙ live
      ]

  pub items_once : (y : ℕ) → count_of y (p ∷ rest) ≤ 1
  items_once =
      no_return (Follows hole.map n) (λ x y z to at. sym to.next ∙ at.next) p rest p hole.cycle
      (count-none p rest (λ y found same. hole.alone y found (ap (origin_of s) (sym same))))
