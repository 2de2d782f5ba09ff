-- The numbers that elements have after some are taken out.
use Rattle.std.proofs.Common.{◌≡◌, ◌≢◌, inl, inr, ℕ, ◌-◌, ◌*◌, ◌/◌, ◌<◌, ◌≤◌, List, [], ◌∷◌, ◌+◌, length, fold, slice_index, slice_index_or, refl, sym, ap, ◌∙◌, subst, arith}
use Rattle.std.proofs.lemmas.Bool.{cases_eq, cases_lt}
use Rattle.std.proofs.lemmas.List.FromFn.{get_or-range_with_len, length-range_with_len}
use Rattle.dcel_maps.specs.Numbers.{numbers_between}
use Rattle.dcel_maps.specs.Renumbering.{half_of, last_put, moved, new_number, renumbered}
use Rattle.dcel_maps.specs.Words.{count_of}
use Rattle.dcel_maps.specs.theory.Renumbering.{GoesDown, old_number}
use Rattle.dcel_maps.proofs.renumbering.LastPut.{length-last_put}
use Rattle.dcel_maps.proofs.renumbering.Moves.{half_of-half, half_of-kept, half_of-then, last_put-half, last_put-moved, moved-back, moved-below, moved-last, moved-other, moved-within}
use Rattle.dcel_maps.proofs.words.Counts.{count-same, first_or_later}

-- what a list that goes down holds is below its bound, and the bound may grow
pub down-below : (n : ℕ) (ds : List ℕ) → GoesDown n ds → (e : ℕ) → 0 < count_of e ds → e < n
down-below n [] down e found = absurd (omega (arith, found))
down-below n (d ∷ ds) down e found = elim (first_or_later e d ds found) [
  | inl same ↦ omega (arith, same, down.0)
  | inr later ↦ omega (arith, down.0, down-below d ds down.1 e later)
]

pub down-more : (n m : ℕ) (ds : List ℕ) → n ≤ m → GoesDown n ds → GoesDown m ds
down-more n m [] more down = tt
down-more n m (d ∷ ds) more down = (omega (arith, more, down.0), down.1)

-- and nothing else gets such a number
pub moved-apart : (n d : ℕ) (ds : List ℕ) → GoesDown n (d ∷ ds) → (k : ℕ) → count_of k (d ∷ ds) ≡ 0 → count_of (moved (n - 1) d k) ds ≡ 0
moved-apart n d ds down k none = elim (cases_eq k (n - 1)) [
  | inl last ↦
      let at : moved (n - 1) d k ≡ d = ap (moved (n - 1) d) last ∙ moved-last (n - 1) d in
      rw at (elim (cases_lt 0 (count_of d ds)) [
        | inl found ↦ absurd (omega (arith, down-below d ds down.1 d found))
        | inr not ↦ omega (arith, not)
      ])
  | inr inside ↦ rw (moved-other (n - 1) d k inside) (omega (arith, none))
]

pub not-first : (d : ℕ) (ds : List ℕ) (k : ℕ) → count_of k (d ∷ ds) ≡ 0 → k ≢ d
not-first d ds k none same =
    let first : count_of k (d ∷ ds) ≡ count_of d (d ∷ ds) = ap (λ z. count_of z (d ∷ ds)) same in
    omega (arith, none, first, count-same d ds)

-- what is left has a number below the new count, and goes back to its old number
pub new_number-below : (n : ℕ) (ds : List ℕ) → GoesDown n ds → (k : ℕ) → k < n → count_of k ds ≡ 0 → new_number n ds k < n - length ds
unfolding new_number
new_number-below n [] down k below none = omega (arith, below)
new_number-below n (d ∷ ds) down k below none =
    omega (
      arith,
      new_number-below (n - 1) ds (down-more d (n - 1) ds (omega (arith, down.0)) down.1) (moved (n - 1) d k)
          (moved-below (n - 1) d k (omega (arith, down.0)) (omega (arith, below)) (not-first d ds k none))
          (moved-apart n d ds down k none),
    )

pub new_number-back : (n : ℕ) (ds : List ℕ) → GoesDown n ds → (k : ℕ) → k < n → count_of k ds ≡ 0
    → old_number n ds (new_number n ds k) ≡ k
unfolding new_number old_number
new_number-back n [] down k below none = refl
new_number-back n (d ∷ ds) down k below none =
    ap (moved d (n - 1))
    (new_number-back (n - 1) ds (down-more d (n - 1) ds (omega (arith, down.0)) down.1) (moved (n - 1) d k)
    (moved-below (n - 1) d k (omega (arith, down.0)) (omega (arith, below)) (not-first d ds k none))
    (moved-apart n d ds down k none))
    ∙ moved-back (n - 1) d k (not-first d ds k none)

-- the old number of what is left was below the old count, and comes back to the new one
pub old_number-below : (n : ℕ) (ds : List ℕ) → GoesDown n ds → (j : ℕ) → j < n - length ds → old_number n ds j < n
unfolding old_number
old_number-below n [] down j below = omega (arith, below)
old_number-below n (d ∷ ds) down j below =
    moved-within d n (old_number (n - 1) ds j) down.0
    (old_number-below (n - 1) ds (down-more d (n - 1) ds (omega (arith, down.0)) down.1) j (omega (arith, below)))

-- a list from which the same places are taken out holds each item at its new number
pub all_put-old : {A : Type 0} (z : A) (xs : List A) (ds : List ℕ) → GoesDown (length xs) ds → (j : ℕ) → j < length xs - length ds
    → slice_index_or (fold (last_put 1) xs ds) j z ≡ slice_index_or xs (old_number (length xs) ds j) z
unfolding old_number
all_put-old z xs [] down j below = refl
all_put-old z xs (d ∷ ds) down j below =
    let long = length-last_put 1 xs d in
    let rest = down-more d (length xs - 1) ds (omega (arith, down.0)) down.1 in
    all_put-old z (last_put 1 xs d) ds (subst (λ n. GoesDown n ds) (sym long) rest) j (omega (arith, below, long))
    ∙ ap (λ n. slice_index_or (last_put 1 xs d) (old_number n ds j) z) long
    ∙ last_put-moved z xs d (old_number (length xs - 1) ds j) down.0
    (old_number-below (length xs - 1) ds rest j (omega (arith, below)))

pub all_put-new : {A : Type 0} (z : A) (xs : List A) (ds : List ℕ) → GoesDown (length xs) ds → (k : ℕ) → k < length xs
    → count_of k ds ≡ 0 → slice_index_or (fold (last_put 1) xs ds) (new_number (length xs) ds k) z ≡ slice_index_or xs k z
all_put-new z xs ds down k below none =
    all_put-old z xs ds down (new_number (length xs) ds k) (new_number-below (length xs) ds down k below none)
    ∙ ap (λ i. slice_index_or xs i z) (new_number-back (length xs) ds down k below none)

-- the same for what belongs to half edges
pub all_put-half : {A : Type 0} (z : A) (xs : List A) (n : ℕ) (ds : List ℕ) → length xs ≡ 2 * n → GoesDown n ds → (h : ℕ) → h / 2 < n
    → count_of (h / 2) ds ≡ 0
    → slice_index_or (fold (λ ys d. last_put 2 ys (2 * d)) xs ds) (half_of (new_number n ds) h) z ≡ slice_index_or xs h z
unfolding new_number
all_put-half z xs n [] long down h below none = ap (λ i. slice_index_or xs i z) (half_of-kept h)
all_put-half z xs n (d ∷ ds) long down h below none =
    let half = half_of-half (moved (n - 1) d) h in
    let other = not-first d ds (h / 2) none in
    let moved_in = moved-below (n - 1) d (h / 2) (omega (arith, down.0)) (omega (arith, below)) other in
    ap (λ i. slice_index_or (fold (λ ys d. last_put 2 ys (2 * d)) (last_put 2 xs (2 * d)) ds) i z) (sym (half_of-then (moved (n - 1) d) (new_number (n - 1) ds) h))
    ∙ all_put-half z (last_put 2 xs (2 * d)) (n - 1) ds (omega (arith, length-last_put 2 xs (2 * d), long))
    (down-more d (n - 1) ds (omega (arith, down.0)) down.1) (half_of (moved (n - 1) d) h) (omega (arith, half, moved_in))
    (ap (λ u. count_of u ds) half ∙ moved-apart n d ds down (h / 2) none)
    ∙ last_put-half z xs n d h long down.0 below other

-- so the new number of k is the place where its name stands
pub new_number-is_place : (n : ℕ) (ds : List ℕ) → GoesDown n ds → (k : ℕ) → k < n → count_of k ds ≡ 0
    → slice_index (renumbered n ds) (new_number n ds k) ≡ k
unfolding numbers_between
new_number-is_place n ds down k below none =
    let all : n - 0 ≡ n = omega arith in
    let first : 0 + k ≡ k = omega arith in
    let named : slice_index (numbers_between 0 n) k ≡ k = get_or-range_with_len 0 (n - 0) k 0 (omega (arith, below)) ∙ first in
    let long : length (numbers_between 0 n) ≡ n = length-range_with_len 0 (n - 0) ∙ all in
    ap (λ m. slice_index (renumbered n ds) (new_number m ds k)) (sym long)
    ∙ all_put-new 0 (numbers_between 0 n) ds (subst (λ m. GoesDown m ds) (sym long) down) k (omega (arith, below, long)) none
    ∙ named
