-- The word that a walk from any of its items leads round.
use Rattle.std.proofs.Common.{◌≡◌, ◌≢◌, ◌⊎◌, inl, inr, ℕ, zero, suc, ◌==◌, ◌<◌, ◌≤◌, min, List, [], ◌∷◌, ◌++◌, length, refl, subst, ap, sym, arith, eq-eqb, length-append, Option, Some, None}
use Rattle.std.proofs.lemmas.Bool.{cases_eq, cases_lt, cond_both, ne_eqb}
use Rattle.dcel_maps.specs.Maps.{By}
use Rattle.dcel_maps.specs.Shapes.{AnchorsWord}
use Rattle.dcel_maps.specs.Walks.{up_to, walk, least_of, word_at, anchored_word}
use Rattle.dcel_maps.specs.theory.Cycles.{Path, IsCycle}
use Rattle.dcel_maps.specs.Words.{count_of, IsLeastFirst}
use Rattle.dcel_maps.proofs.words.Counts.{count-same, count-other, count-append, absent_head, split_at}
use Rattle.dcel_maps.proofs.words.Paths.{Path-append, Path-split}

-- a walk goes along a path up to its first end
pub up_to-is : (step : ℕ → ℕ) (fuel x last : ℕ) (r : List ℕ) → Path (By step) x r last → count_of last r ≡ 0
    → length r < fuel → up_to step fuel x last ≡ x ∷ r
unfolding up_to
up_to-is step zero x last r p apart enough = absurd (omega arith)
up_to-is step (suc fuel) x last [] p apart enough = rw (p, eq-eqb last last refl) refl
up_to-is step (suc fuel) x last (y ∷ r) p apart enough =
    rw (p.0, ne_eqb y last (λ same. absent_head last y r apart (sym same)))
    (ap (λ z. x ∷ z) (up_to-is step fuel y last r p.1 (omega (arith, apart)) (omega arith)))

-- it has no more items than its fuel
pub length-up_to : (step : ℕ → ℕ) (fuel x last : ℕ) → length (up_to step fuel x last) ≤ fuel
unfolding up_to
length-up_to step zero x last = omega arith
length-up_to step (suc fuel) x last =
    cond_both (step x == last) [] (up_to step fuel (step x) last) (λ w. length (x ∷ w) ≤ suc fuel)
    (λ ends. omega arith) (λ goes_on. omega (arith, length-up_to step fuel (step x) last))

-- the least of a list: nothing below it stands there, and it does
pub least_of-is : (m x : ℕ) (r : List ℕ) → m ≤ x → ((h : ℕ) → h < m → count_of h r ≡ 0) → (x ≡ m) ⊎ (0 < count_of m r)
    → least_of x r ≡ m
unfolding least_of
least_of-is m x [] low none found = elim found [ inl same ↦ same | inr bad ↦ absurd (omega (arith, bad)) ]
least_of-is m x (y ∷ r) low none found =
    let low_y : m ≤ y = elim (cases_lt y m) [ inl less ↦ absurd (absent_head y y r (none y less) refl) | inr more ↦ more ] in
    least_of-is m (min x y) r (omega arith) (λ h less. omega (arith, none h less))
    (elim found [
      | inl same ↦ inl (omega (arith, same, low_y))
      | inr there ↦
          elim (cases_eq m y) [
            | inl here ↦ inl (omega (arith, here))
            | inr differs ↦ inr (rw (count-other m y r differs) at there)
          ]
    ])

module _ (next : ℕ → ℕ) (fuel : ℕ) where
  -- the word from the item a, which stands between l and r after the least item m
  word_turned : (m : ℕ) (l : List ℕ) (a : ℕ) (r : List ℕ) → Path (By next) m (l ++ a ∷ r) m
      → IsLeastFirst (m ∷ l ++ a ∷ r) → ((h : ℕ) → count_of h (m ∷ l ++ a ∷ r) ≤ 1) → length (l ++ a ∷ r) < fuel → a ≢ m
      → word_at next fuel a ≡ m ∷ l ++ a ∷ r
  unfolding word_at
  word_turned m l a r path low single short differs =
      let apart : count_of m (l ++ a ∷ r) ≡ 0 = omega (arith, single m, count-same m (l ++ a ∷ r)) in
      let whole : walk next fuel m ≡ m ∷ l ++ a ∷ r = up_to-is next fuel m m (l ++ a ∷ r) path apart short in
      let two = Path-split (By next) m l a r m path in
      let turned = Path-append (By next) a r m l a two.1 two.0 in
      let apart_a : count_of a (r ++ m ∷ l) ≡ 0 =
      omega (
        arith,
        single a,
        count-other a m (l ++ a ∷ r) differs,
        count-append a l (a ∷ r),
        count-same a r,
        count-append a r (m ∷ l),
        count-other a m l differs,
      ) in
      let first : walk next fuel a ≡ a ∷ r ++ m ∷ l =
      up_to-is next fuel a a (r ++ m ∷ l) turned apart_a (omega (arith, length-append l (a ∷ r), length-append r (m ∷ l))) in
      let low_a : m ≤ a =
      elim (cases_lt a m) [
        | inl less ↦ omega (arith, low a less, count-append a l (a ∷ r), count-same a r)
        | inr more ↦ more
      ] in
      let none : (h : ℕ) → h < m → count_of h (a ∷ r ++ m ∷ l) ≡ 0 =
      λ h less. omega (arith, low h less, count-append h l (a ∷ r), count-append h r (m ∷ l), count-other h m l (λ e. omega (arith, e))) in
      let least : least_of a (a ∷ r ++ m ∷ l) ≡ m =
      least_of-is m a (a ∷ r ++ m ∷ l) low_a none (inr (omega (arith, count-append m r (m ∷ l), count-same m l))) in
      rw (first, least, whole) refl

  -- the word from any of its items
  pub word_at-is : (m : ℕ) (t : List ℕ) (a : ℕ) → Path (By next) m t m → IsLeastFirst (m ∷ t)
      → ((h : ℕ) → count_of h (m ∷ t) ≤ 1) → length t < fuel → 0 < count_of a (m ∷ t) → word_at next fuel a ≡ m ∷ t
  unfolding word_at
  word_at-is m t a path low single short found =
      elim (cases_eq a m) [
        | inl same ↦
            let apart : count_of m t ≡ 0 = omega (arith, single m, count-same m t) in
            let whole : walk next fuel m ≡ m ∷ t = up_to-is next fuel m m t path apart short in
            let none : (h : ℕ) → h < m → count_of h (m ∷ t) ≡ 0 =
            λ h less. omega (arith, low h less, count-other h m t (λ e. omega (arith, e))) in
            let least : least_of m (m ∷ t) ≡ m = least_of-is m m (m ∷ t) (omega arith) none (inl refl) in
            rw (same, whole, least, whole) refl
        | inr differs ↦
            let parts = split_at a t (rw (count-other a m t differs) at found) in
            subst (λ (u : List ℕ). word_at next fuel a ≡ m ∷ u) (sym parts.2)
            (word_turned m parts.0 a parts.1
            (subst (λ (u : List ℕ). Path (By next) m u m) parts.2 path)
            (subst (λ (u : List ℕ). IsLeastFirst (m ∷ u)) parts.2 low)
            (λ h. subst (λ (u : List ℕ). count_of h (m ∷ u) ≤ 1) parts.2 (single h))
            (subst (λ (u : List ℕ). length u < fuel) parts.2 short) differs)
      ]

  -- the word from its anchor
  pub anchored_word-is : (w : List ℕ) (o : Option ℕ) → IsCycle (By next) w → IsLeastFirst w
      → ((h : ℕ) → count_of h w ≤ 1) → length w ≤ fuel → AnchorsWord w o → anchored_word next fuel o ≡ w
  unfolding anchored_word
  anchored_word-is w None cycle low single short anchored = sym anchored
  anchored_word-is [] (Some a) cycle low single short anchored = absurd (omega (arith, anchored))
  anchored_word-is (m ∷ t) (Some a) cycle low single short anchored = word_at-is m t a cycle low single (omega arith) anchored
