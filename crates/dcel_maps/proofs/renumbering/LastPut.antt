-- What is where in a list whose last items are put at another place.
use Rattle.std.proofs.Common.{◌≡◌, ◌≢◌, ◌⊎◌, inl, inr, ℕ, zero, suc, ◌+◌, ◌-◌, ◌<◌, ◌≤◌, List, [], ◌∷◌, length, drop, slice_set, slice_index_or, refl, ◌∙◌, arith, length-drop}
use Rattle.std.proofs.lemmas.List.{get_or-drop, get_or-set_other, get_or-set_same, get_or-take, length-set, length-take-le}
use Rattle.dcel_maps.specs.Renumbering.{last_put, set_from}

module _ {A : Type 0} where
  length-set_from : (xs : List A) (d : ℕ) (ys : List A) → length (set_from xs d ys) ≡ length xs
  length-set_from xs d [] = refl
  length-set_from xs d (y ∷ ys) = length-set_from (slice_set xs d y) (suc d) ys ∙ length-set xs d y

  -- what lies beside the places that are set_from stays
  set_from-other : (z : A) (xs : List A) (d : ℕ) (ys : List A) (k : ℕ) → (k < d) ⊎ (d + length ys ≤ k)
      → slice_index_or (set_from xs d ys) k z ≡ slice_index_or xs k z
  set_from-other z xs d [] k beside = refl
  set_from-other z xs d (y ∷ ys) k beside =
      let differs : k ≢ d = elim beside [ inl before ↦ omega (arith, before) | inr past ↦ omega (arith, past) ] in
      set_from-other z (slice_set xs d y) (suc d) ys k
      (elim beside [ inl before ↦ inl (omega (arith, before)) | inr past ↦ inr (omega (arith, past)) ])
      ∙ get_or-set_other xs d k y z differs

  set_from-there : (z : A) (xs : List A) (d : ℕ) (ys : List A) (i : ℕ) → i < length ys → d + i < length xs
      → slice_index_or (set_from xs d ys) (d + i) z ≡ slice_index_or ys i z
  set_from-there z xs d [] i within below = absurd (omega (arith, within))
  set_from-there z xs d (y ∷ ys) zero within below =
      let at : d + zero ≡ d = omega arith in
      let there : d < length xs = omega (arith, below) in
      rw at (set_from-other z (slice_set xs d y) (suc d) ys d (inl (omega arith)) ∙ get_or-set_same xs d y z there)
  set_from-there z xs d (y ∷ ys) (suc i) within below =
      let at : d + suc i ≡ suc d + i = omega arith in
      rw at (set_from-there z (slice_set xs d y) (suc d) ys i (omega (arith, within)) (omega (arith, below, length-set xs d y)))

  pub length-last_put : (n : ℕ) (xs : List A) (d : ℕ) → length (last_put n xs d) ≡ length xs - n
  unfolding last_put
  length-last_put n xs d =
      length-take-le (length xs - n) (set_from xs d (drop (length xs - n) xs))
      (omega (arith, length-set_from xs d (drop (length xs - n) xs)))

  -- beside the n places from d on, each item stays
  pub last_put-other : (z : A) (n : ℕ) (xs : List A) (d k : ℕ) → n ≤ length xs → k < length xs - n → (k < d) ⊎ (d + n ≤ k)
      → slice_index_or (last_put n xs d) k z ≡ slice_index_or xs k z
  unfolding last_put
  last_put-other z n xs d k enough within beside =
      get_or-take (length xs - n) (set_from xs d (drop (length xs - n) xs)) k z within
      ∙ set_from-other z xs d (drop (length xs - n) xs) k
      (elim beside [
        | inl before ↦ inl before
        | inr past ↦ inr (omega (arith, past, enough, length-drop (length xs - n) xs))
      ])

  -- and in those places are the last n items
  pub last_put-there : (z : A) (n : ℕ) (xs : List A) (d i : ℕ) → n ≤ length xs → i < n → d + i < length xs - n
      → slice_index_or (last_put n xs d) (d + i) z ≡ slice_index_or xs (length xs - n + i) z
  unfolding last_put
  last_put-there z n xs d i enough few within =
      get_or-take (length xs - n) (set_from xs d (drop (length xs - n) xs)) (d + i) z within
      ∙ set_from-there z xs d (drop (length xs - n) xs) i (omega (arith, few, enough, length-drop (length xs - n) xs)) (omega (arith, within))
      ∙ get_or-drop (length xs - n) xs i z
