-- A flip that leaves a flat triangle at v, or one that turns right, and no other.
use Rattle.std.proofs.Common.{◌≡◌, ◌≢◌, inl, inr, ℕ, ◌<◌, List, [], ◌∷◌, sym, ap, ◌∙◌, subst, arith}
use Rattle.std.proofs.lemmas.Bool.{cases_eq}
use Rattle.dcel_predicates.specs.declared.point.Point.{Point}
use Rattle.dcel_maps.specs.Conditions.{CanFlip}
use Rattle.dcel_maps.specs.Cyclic.{from_least}
use Rattle.dcel_maps.specs.edits.Flip.{edge_flipped}
use Rattle.dcel_maps.specs.Shapes.{IsMesh, Mesh, Shape, origin_of}
use Rattle.dcel_maps.specs.Words.{TurnsTo, count_of, word_of}
use Rattle.dcel_maps.proofs.words.Counts.{count-later, count-same}
use Rattle.dcel_maps.proofs.words.Turns.{from_least-turn}
use Rattle.dcel_maps.proofs.edits.Around.{at_edge}
use Rattle.dcel_plane.specs.Plane.{TrianglesTurnLeft, TurnsLeft}
use Rattle.dcel_plane.proofs.edits.Corners.{corners_are, left_turned, turned_along}
use Rattle.dcel_plane.proofs.edits.Flipped.{from_end, from_start, origin_after, origin_e, origin_far, origin_near, origin_t, origin_t_after, starts_else, word_else, word_f, word_g}
use Rattle.dcel_plane.specs.removal.Wheels.{CanTurnAt, TrianglesTurnLeftBut}

module _ {V DE UE F : Type 0} (m : Mesh V DE UE F) (mesh : IsMesh m) (at : ℕ → Point) (u v : ℕ) (turn : CanTurnAt at m.shape u v) (plane : TrianglesTurnLeft at m.shape) where
  abbrev s : Shape
  s = m.shape

  abbrev n : Shape
  n = (edge_flipped m u).shape

  can : CanFlip m.shape u
  can = turn.can

  open (at_edge m.shape u) use {e, t, f, g, ep, en, tp, tn}

  -- turns left, or v is a corner
  abbrev Left : ℕ → ℕ → ℕ → Type 0
  Left x y z = origin_of n x ≢ v → origin_of n y ≢ v → origin_of n z ≢ v → TurnsLeft (at (origin_of n x)) (at (origin_of n y)) (at (origin_of n z))

  of_word : (x y z a b c : ℕ) → from_least (x ∷ y ∷ z ∷ []) ≡ a ∷ b ∷ c ∷ [] → Left x y z → Left a b c
  of_word x y z a b c is left =
      turned_along Left (λ i j k holds not_j not_k not_i. left_turned (at (origin_of n i)) (at (origin_of n j)) (at (origin_of n k)) (holds not_i not_j not_k)) x y z a b c
      (subst (λ (l : List ℕ). TurnsTo (x ∷ y ∷ z ∷ []) l) is (from_least-turn (x ∷ y ∷ z ∷ []))) left

  first_left : Left e tp en
  first_left not_x not_y not_z =
      corners_are at (sym (origin_e m mesh u can)) (sym (origin_far m mesh u can at)) (sym (from_end m mesh u can) ∙ sym (origin_after m mesh u can at))
      (turn.first (λ is. not_z (origin_after m mesh u can at ∙ from_end m mesh u can ∙ is)))

  second_left : Left t ep tn
  second_left not_x not_y not_z =
      corners_are at (sym (origin_t m mesh u can)) (sym (origin_near m mesh u can at)) (sym (from_start m mesh u can) ∙ sym (origin_t_after m mesh u can at))
      (turn.second (λ is. not_z (origin_t_after m mesh u can at ∙ from_start m mesh u can ∙ is)))

  pub flip_plane_but : TrianglesTurnLeftBut at (edge_flipped m u).shape v
  flip_plane_but = record {
    left = λ k x y z inner is. elim (cases_eq k g) [
      | inl same ↦ of_word t ep tn x y z (sym (word_g m mesh u can) ∙ ap (word_of n.words) (sym same) ∙ is) second_left
      | inr not_g ↦ elim (cases_eq k f) [
        | inl same ↦ of_word e tp en x y z (sym (word_f m mesh u can) ∙ ap (word_of n.words) (sym same) ∙ is) first_left
        | inr not_f ↦
            let old : word_of s.words k ≡ x ∷ y ∷ z ∷ [] = sym (word_else m mesh u can k not_f not_g) ∙ is in
            let found : (h : ℕ) → 0 < count_of h (x ∷ y ∷ z ∷ []) → origin_of s h ≡ origin_of n h =
            λ h there. sym (starts_else m mesh u can k h not_f not_g (subst (λ (l : List ℕ). 0 < count_of h l) (sym old) there)) in
            λ not_x not_y not_z.
            corners_are at (found x (let c = count-same x (y ∷ z ∷ []) in omega (arith, c)))
            (found y (count-later y x (y ∷ z ∷ []) (let c = count-same y (z ∷ []) in omega (arith, c))))
            (found z (count-later z x (y ∷ z ∷ []) (count-later z y (z ∷ []) (let c = count-same z [] in omega (arith, c)))))
            (plane.left k x y z inner old)
      ]
    ];
  }
