-- When a list names each of given numbers once.
use Rattle.std.proofs.Common.{◌≡◌, inl, inr, ℕ, zero, suc, ◌+◌, ◌<◌, ◌≤◌, ◌==◌, true, false, List, [], ◌∷◌, ◌++◌, length, refl, sym, ap, ◌∙◌, arith, drop, eq-eqb, slice_index, ◌||◌}
use Rattle.std.proofs.lemmas.Bool.{cases_eq, cases_lt, false≢true, ne_eqb}
use Rattle.std.proofs.lemmas.List.{length-append}
use Rattle.std.specs.List.{list_any}
use Rattle.dcel_maps.proofs.words.Ascending.{ascending-ascends, ascends-one, count-ascending, goes_up-ascends, goes_up-once}
use Rattle.dcel_maps.proofs.words.Counts.{count-append, count-equal, count-later, count-other, count-same, first_or_later, split_at}
use Rattle.dcel_maps.specs.Removals.{ascending, GoesUp}
use Rattle.dcel_maps.specs.Words.{count_of}

count-le : (x : ℕ) (r : List ℕ) (k : ℕ) → count_of k r ≤ count_of k (x ∷ r)
count-le x r k = omega arith

any-found : (k : ℕ) (ys : List ℕ) → 0 < count_of k ys → list_any (λ y. y == k) ys ≡ true
any-found k [] found = absurd (omega (arith, found))
any-found k (y ∷ r) found = elim (cases_eq y k) [
  | inl same ↦ ap (λ t. t || list_any (λ z. z == k) r) (eq-eqb y k same)
  | inr differs ↦ rw (ne_eqb y k differs) (any-found k r (omega (arith, found, count-other k y r (λ same. differs (sym same)))))
]

any-none : (k : ℕ) (ys : List ℕ) → count_of k ys ≡ 0 → list_any (λ y. y == k) ys ≡ false
any-none k [] none = refl
any-none k (y ∷ r) none = elim (cases_eq y k) [
  | inl same ↦ absurd (omega (arith, none, count-equal k y r (sym same)))
  | inr differs ↦ rw (ne_eqb y k differs) (any-none k r (omega (arith, none, count-other k y r (λ same. differs (sym same)))))
]

count-any : (k : ℕ) (ys : List ℕ) → list_any (λ y. y == k) ys ≡ true → 0 < count_of k ys
count-any k ys found = elim (cases_lt 0 (count_of k ys)) [
  | inl some ↦ some
  | inr none ↦ absurd (false≢true (sym (any-none k ys (omega (arith, none))) ∙ found))
]

none-count : (k : ℕ) (ys : List ℕ) → list_any (λ y. y == k) ys ≡ false → count_of k ys ≡ 0
none-count k ys none = elim (cases_lt 0 (count_of k ys)) [
  | inl some ↦ absurd (false≢true (sym none ∙ any-found k ys some))
  | inr past ↦ omega (arith, past)
]

-- each item of the first list is one of the second
abbrev pub StandIn : List ℕ → List ℕ → Type 0
StandIn xs ys = (i : ℕ) → i < length xs → list_any (λ y. y == slice_index xs i) ys ≡ true

-- no item stands again after its place
abbrev pub NoneTwice : List ℕ → Type 0
NoneTwice xs = (i : ℕ) → i < length xs → list_any (λ y. y == slice_index xs i) (drop (suc i) xs) ≡ false

stand_in-count : (xs ys : List ℕ) → StandIn xs ys → (k : ℕ) → 0 < count_of k xs → 0 < count_of k ys
stand_in-count [] ys all k found = absurd (omega (arith, found))
stand_in-count (x ∷ r) ys all k found = elim (first_or_later k x r found) [
  | inl same ↦ count-any k ys (rw same (all 0 (omega arith)))
  | inr later ↦ stand_in-count r ys (λ i below. all (suc i) (omega (arith, below))) k later
]

count-stand_in : (xs ys : List ℕ) → ((k : ℕ) → 0 < count_of k xs → 0 < count_of k ys) → StandIn xs ys
count-stand_in [] ys all i below = absurd (omega (arith, below))
count-stand_in (x ∷ r) ys all zero below = any-found x ys (all x (omega (arith, count-same x r)))
count-stand_in (x ∷ r) ys all (suc i) below = count-stand_in r ys (λ k found. all k (count-later k x r found)) i (omega (arith, below))

none_twice-count : (xs : List ℕ) → NoneTwice xs → (k : ℕ) → count_of k xs ≤ 1
none_twice-count [] once k = omega arith
none_twice-count (x ∷ r) once k =
    let rest = none_twice-count r (λ i below. once (suc i) (omega (arith, below))) k in
    elim (cases_eq k x) [
      | inl same ↦ omega (arith, count-equal k x r same, ap (λ z. count_of z r) same, none-count x r (once 0 (omega arith)))
      | inr differs ↦ omega (arith, rest, count-other k x r differs)
    ]

count-none_twice : (xs : List ℕ) → ((k : ℕ) → count_of k xs ≤ 1) → NoneTwice xs
count-none_twice [] once i below = absurd (omega (arith, below))
count-none_twice (x ∷ r) once zero below = any-none x r (omega (arith, once x, count-same x r))
count-none_twice (x ∷ r) once (suc i) below =
    count-none_twice r (λ k. omega (arith, once k, count-le x r k)) i (omega (arith, below))

-- where no item of a list stands twice, and each is one of another that is no longer, that one has no others
no_others : (xs ys : List ℕ) → ((k : ℕ) → count_of k xs ≤ 1) → ((k : ℕ) → 0 < count_of k xs → 0 < count_of k ys)
    → length ys ≤ length xs → (k : ℕ) → count_of k ys ≤ count_of k xs
no_others [] [] once all short k = omega arith
no_others [] (y ∷ s) once all short k = absurd (omega (arith, short))
no_others (x ∷ r) ys once all short k =
    let at = split_at x ys (all x (omega (arith, count-same x r))) in
    let front = at.0 in
    let back = at.1 in
    let counted : (j : ℕ) → count_of j ys ≡ count_of j front + count_of j (x ∷ back) =
    λ j. ap (count_of j) at.2 ∙ count-append j front (x ∷ back) in
    let left : (j : ℕ) → count_of j (front ++ back) ≡ count_of j front + count_of j back = λ j. count-append j front back in
    let others : (j : ℕ) → 0 < count_of j r → 0 < count_of j (front ++ back) =
    λ j found. elim (cases_eq j x) [
      | inl same ↦ absurd (omega (arith, once j, count-equal j x r same, found))
      | inr differs ↦ omega (arith, all j (count-later j x r found), counted j, left j, count-other j x back differs)
    ] in
    let long = ap length at.2 ∙ length-append front (x ∷ back) in
    let rest = no_others r (front ++ back) (λ j. omega (arith, once j, count-le x r j)) others (omega (arith, short, long, length-append front back)) k in
    elim (cases_eq k x) [
      | inl same ↦ omega (arith, rest, counted k, left k, count-equal k x back same, count-equal k x r same)
      | inr differs ↦ omega (arith, rest, counted k, left k, count-other k x back differs, count-other k x r differs)
    ]

pub listed : (xs ys : List ℕ) → GoesUp ys → length xs ≡ length ys → StandIn xs ys → NoneTwice xs → ascending xs ≡ ys
listed xs ys up long all once =
    let single = none_twice-count xs once in
    let inside = stand_in-count xs ys all in
    let fewer = no_others xs ys single inside (omega (arith, long)) in
    let same : (k : ℕ) → count_of k (ascending xs) ≡ count_of k ys =
    λ k. elim (cases_lt 0 (count_of k xs)) [
      | inl found ↦ omega (arith, count-ascending k xs, fewer k, single k, inside k found)
      | inr none ↦ omega (arith, count-ascending k xs, fewer k, none)
    ] in
    ascends-one (ascending xs) ys (ascending-ascends xs) (goes_up-ascends ys up) same

same_count : (xs ys : List ℕ) → ascending xs ≡ ys → (k : ℕ) → count_of k xs ≡ count_of k ys
same_count xs ys is k = sym (count-ascending k xs) ∙ ap (count_of k) is

pub listed-all : (xs ys : List ℕ) → ascending xs ≡ ys → StandIn xs ys
listed-all xs ys is = count-stand_in xs ys (λ k found. omega (arith, found, same_count xs ys is k))

pub listed-once : (xs ys : List ℕ) → GoesUp ys → ascending xs ≡ ys → NoneTwice xs
listed-once xs ys up is = count-none_twice xs (λ k. omega (arith, goes_up-once ys up k, same_count xs ys is k))
