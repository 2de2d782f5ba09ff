-- The last items of a list taken out themselves, and the last one put at another place: closed forms.
use Rattle.std.proofs.Common.{◌≡◌, ℕ, zero, suc, ◌+◌, ◌-◌, ◌≤◌, List, [], ◌∷◌, ◌++◌, length, take, drop, map, slice_set, refl, ap, ◌∙◌, arith}
use Rattle.std.proofs.Math.Seq.{drop-append_seam, take-append_seam}
use Rattle.std.proofs.lemmas.List.{length-append, length-take-le, take-set-le}
use Rattle.dcel_maps.specs.Cyclic.{from_least}
use Rattle.dcel_maps.specs.Renumbering.{half_of, last_put, moved, set_from}
use Rattle.dcel_maps.specs.Words.{word_of}
use Rattle.dcel_maps.proofs.renumbering.LastPut.{length-last_put}
use Rattle.dcel_maps.proofs.renumbering.Moves.{half_of-kept, moved-itself}

module _ {A : Type 0} where
  take-set_from : (n : ℕ) (xs : List A) (d : ℕ) (ys : List A) → n ≤ d → take n (set_from xs d ys) ≡ take n xs
  take-set_from n xs d [] past = refl
  take-set_from n xs d (y ∷ ys) past =
      take-set_from n (slice_set xs d y) (suc d) ys (omega (arith, past)) ∙ take-set-le n xs d y past

  -- where the last places are those that are taken out, nothing moves
  pub last_put-end : (n : ℕ) (xs : List A) (d : ℕ) → length xs ≤ d + n → last_put n xs d ≡ take (length xs - n) xs
  unfolding last_put
  last_put-end n xs d at_end = take-set_from (length xs - n) xs d (drop (length xs - n) xs) (omega (arith, at_end))

  take-take : (n k : ℕ) (xs : List A) → n ≤ k → take n (take k xs) ≡ take n xs
  take-take zero k xs less = refl
  take-take (suc n) zero xs less = absurd (omega (arith, less))
  take-take (suc n) (suc k) [] less = refl
  take-take (suc n) (suc k) (x ∷ xs) less = ap (λ r. x ∷ r) (take-take n k xs (omega (arith, less)))

  pub take-front : (n : ℕ) (xs ys : List A) → n ≡ length xs → take n (xs ++ ys) ≡ xs
  take-front n xs ys same = ap (λ k. take k (xs ++ ys)) same ∙ take-append_seam xs ys

  -- three times n of them, the last ones first
  pub last_put-three : (n : ℕ) (xs : List A) (i j k : ℕ) → j ≡ k + n → i ≡ j + n → length xs ≡ i + n
      → last_put n (last_put n (last_put n xs i) j) k ≡ take k xs
  last_put-three n xs i j k at_j at_i long =
      let second = last_put n xs i in
      let third = last_put n second j in
      let second_long : length second ≡ i = omega (arith, long, length-last_put n xs i) in
      let third_long : length third ≡ j = omega (arith, at_i, second_long, length-last_put n second j) in
      let front_i : second ≡ take i xs = last_put-end n xs i (omega (arith, long)) ∙ ap (λ z. take z xs) (omega (arith, long)) in
      let front_j : third ≡ take j second =
      last_put-end n second j (omega (arith, at_i, second_long)) ∙ ap (λ z. take z second) (omega (arith, at_i, second_long)) in
      last_put-end n third k (omega (arith, at_j, third_long)) ∙ ap (λ z. take z third) (omega (arith, at_j, third_long))
      ∙ ap (take k) front_j ∙ take-take k j second (omega (arith, at_j))
      ∙ ap (take k) front_i ∙ take-take k i xs (omega (arith, at_j, at_i))

  -- the last item, put at another place
  take_set : (xs : List A) (x : A) (d : ℕ) → take (length xs) (slice_set (xs ++ x ∷ []) d x) ≡ slice_set xs d x
  take_set [] x d = refl
  take_set (y ∷ xs) x zero = ap (λ r. x ∷ r) (take-front (length xs) xs (x ∷ []) refl)
  take_set (y ∷ xs) x (suc d) = ap (λ r. y ∷ r) (take_set xs x d)

  pub last_put-last : (xs : List A) (x : A) (d : ℕ) → last_put 1 (xs ++ x ∷ []) d ≡ slice_set xs d x
  unfolding last_put
  last_put-last xs x d =
      let long : length (xs ++ x ∷ []) - 1 ≡ length xs = omega (arith, length-append xs (x ∷ [])) in
      ap (λ n. take n (set_from (xs ++ x ∷ []) d (drop n (xs ++ x ∷ [])))) long
      ∙ ap (λ ys. take (length xs) (set_from (xs ++ x ∷ []) d ys)) (drop-append_seam xs (x ∷ []))
      ∙ take_set xs x d

  set_end : (k : ℕ) (xs : List A) (x : A) → length xs ≡ suc k → slice_set xs k x ≡ take k xs ++ x ∷ []
  set_end zero [] x long = absurd (omega (arith, long))
  set_end zero (y ∷ []) x long = refl
  set_end zero (y ∷ z ∷ xs) x long = absurd (omega (arith, long))
  set_end (suc k) [] x long = absurd (omega (arith, long))
  set_end (suc k) (y ∷ xs) x long = ap (λ r. y ∷ r) (set_end k xs x (omega (arith, long)))

  -- the last item goes over the two before it to a place further down
  pub last_put-down : (k f : ℕ) (xs : List A) (x : A) → length xs ≡ suc (suc k)
      → last_put 1 (last_put 1 (last_put 1 (xs ++ x ∷ []) (suc k)) k) f ≡ slice_set (take k xs) f x
  last_put-down k f xs x long =
      let first : last_put 1 (xs ++ x ∷ []) (suc k) ≡ take (suc k) xs ++ x ∷ [] =
      last_put-last xs x (suc k) ∙ set_end (suc k) xs x long in
      let second : last_put 1 (take (suc k) xs ++ x ∷ []) k ≡ take k xs ++ x ∷ [] =
      last_put-last (take (suc k) xs) x k
      ∙ set_end k (take (suc k) xs) x (length-take-le (suc k) xs (omega (arith, long)))
      ∙ ap (λ r. r ++ x ∷ []) (take-take k (suc k) xs (omega arith)) in
      ap (λ r. last_put 1 (last_put 1 r k) f) first ∙ ap (λ r. last_put 1 r f) second ∙ last_put-last (take k xs) x f

-- the last vertex taken out moves no vertex
pub vertices_stay : (last d : ℕ) → d ≡ last → (vs : List ℕ) → map (moved last d) vs ≡ vs
vertices_stay last d same [] = refl
vertices_stay last d same (v ∷ vs) =
    ap (λ z. z ∷ map (moved last d) vs) (moved-itself last d v same) ∙ ap (λ r. v ∷ r) (vertices_stay last d same vs)

-- and the last edge no half edge
half_stays : (last d : ℕ) → d ≡ last → (h : ℕ) → half_of (moved last d) h ≡ h
half_stays last d same h = ap (λ r. half_of r h) (λ i k. moved-itself last d k same i) ∙ half_of-kept h

halves_stay : (last d : ℕ) → d ≡ last → (w : List ℕ) → map (half_of (moved last d)) w ≡ w
halves_stay last d same [] = refl
halves_stay last d same (h ∷ w) =
    ap (λ z. z ∷ map (half_of (moved last d)) w) (half_stays last d same h) ∙ ap (λ r. h ∷ r) (halves_stay last d same w)

pub words_stay : (last d : ℕ) → d ≡ last → (ws : List (List ℕ)) → ((g : ℕ) → from_least (word_of ws g) ≡ word_of ws g)
    → map (λ w. from_least (map (half_of (moved last d)) w)) ws ≡ ws
words_stay last d same [] kept = refl
words_stay last d same (w ∷ ws) kept =
    ap (λ u. u ∷ map (λ w. from_least (map (half_of (moved last d)) w)) ws) (ap from_least (halves_stay last d same w) ∙ kept 0)
    ∙ ap (λ r. w ∷ r) (words_stay last d same ws (λ g. kept (suc g)))
