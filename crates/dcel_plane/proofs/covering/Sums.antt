-- Sums over the half edges of words: all in all, halves of an edge balance.
use Rattle.std.specs.List.{concat}
use Rattle.std.proofs.Common.{◌≡◌, ◌≢◌, inl, inr, ℕ, zero, suc, ◌+◌, ◌≤◌, ◌<◌, List, [], ◌∷◌, ◌++◌, length, map, refl, sym, ap, ◌∙◌, arith}
use Rattle.std.proofs.lemmas.Bool.{cases_eq, cases_lt}
use Rattle.dcel_fixed.specs.HalfEdges.{rev}
use Rattle.dcel_fixed.proofs.Halves.{rev-rev}
use Rattle.dcel_maps.specs.Words.{count_of, word_of}
use Rattle.dcel_maps.proofs.words.Counts.{count-append, count-equal, count-later, count-other, count-same, split_at}

abbrev pub sum_over : (ℕ → ℕ) → List ℕ → ℕ
sum_over g [] = 0
sum_over g (x ∷ r) = g x + sum_over g r

abbrev pub sum_words : (List ℕ → ℕ) → List (List ℕ) → ℕ
sum_words g [] = 0
sum_words g (w ∷ ws) = g w + sum_words g ws

sum-append : (g : ℕ → ℕ) (a b : List ℕ) → sum_over g (a ++ b) ≡ sum_over g a + sum_over g b
sum-append g [] b = omega arith
sum-append g (x ∷ a) b = let e = sum-append g a b in omega (arith, e)

pub sum-concat : (g : ℕ → ℕ) (ws : List (List ℕ)) → sum_over g (concat ws) ≡ sum_words (sum_over g) ws
sum-concat g [] = refl
sum-concat g (w ∷ ws) = let e = sum-concat g ws in let f = sum-append g w (concat ws) in omega (arith, e, f)

-- lists with the same items have the same sum
pub same_sums : (g : ℕ → ℕ) (l k : List ℕ) → ((h : ℕ) → count_of h l ≡ count_of h k) → sum_over g l ≡ sum_over g k
same_sums g [] [] same = refl
same_sums g [] (y ∷ r) same = absurd (let e = same y in let f = count-same y r in omega (arith, e, f))
same_sums g (x ∷ r) k same =
    let found : 0 < count_of x k = (let e = same x in let f = count-same x r in omega (arith, e, f)) in
    let (a, b, parts) = split_at x k found in
    let rest = same_sums g r (a ++ b) (λ h.
    let e = same h ∙ ap (count_of h) parts in
    let f = count-append h a (x ∷ b) in
    let i = count-append h a b in
    omega (arith, e, f, i)) in
    let whole = ap (sum_over g) parts in
    let e = sum-append g a (x ∷ b) in
    let f = sum-append g a b in
    omega (arith, rest, whole, e, f)

count-rev : (h : ℕ) (l : List ℕ) → count_of h (map rev l) ≡ count_of (rev h) l
count-rev h [] = refl
count-rev h (x ∷ r) = elim (cases_eq h (rev x)) [
  | inl is ↦
      let e = count-equal h (rev x) (map rev r) is in
      let f = count-equal (rev h) x r (ap rev is ∙ rev-rev x) in
      let i = count-rev h r in
      e ∙ ap (λ n. 1 + n) i ∙ sym f
  | inr differs ↦
      let e = count-other h (rev x) (map rev r) differs in
      let f = count-other (rev h) x r (λ is. differs (sym (rev-rev h) ∙ ap rev is)) in
      e ∙ count-rev h r ∙ sym f
]

sum-map : (g : ℕ → ℕ) (l : List ℕ) → sum_over g (map rev l) ≡ sum_over (λ h. g (rev h)) l
sum-map g [] = refl
sum-map g (x ∷ r) = ap (λ n. g (rev x) + n) (sum-map g r)

-- where each half edge stands as often as its other half
pub sum-rev : (g : ℕ → ℕ) (l : List ℕ) → ((h : ℕ) → count_of h l ≡ count_of (rev h) l) → sum_over g l ≡ sum_over (λ h. g (rev h)) l
sum-rev g l even = same_sums g l (map rev l) (λ h. even h ∙ sym (count-rev h l)) ∙ sum-map g l

-- at most one item counts, and it stands there once
sum-none : (g : ℕ → ℕ) (l : List ℕ) → ((h : ℕ) → 0 < count_of h l → g h ≡ 0) → sum_over g l ≡ 0
sum-none g [] none = refl
sum-none g (x ∷ r) none =
    let e = none x (let f = count-same x r in omega (arith, f)) in
    let i = sum-none g r (λ h found. none h (count-later h x r found)) in
    omega (arith, e, i)

-- some item counts
pub sum-some : (g : ℕ → ℕ) (l : List ℕ) → 0 < sum_over g l → (h : ℕ) × (0 < count_of h l) × (0 < g h)
sum-some g [] some = absurd (omega (arith, some))
sum-some g (x ∷ r) some = elim (cases_lt 0 (g x)) [
  | inl counts ↦ (x, (let f = count-same x r in omega (arith, f)), counts)
  | inr not ↦ let (h, found, counts) = sum-some g r (omega (arith, some, not)) in (h, count-later h x r found, counts)
]

pub sum-one : (g : ℕ → ℕ) (l : List ℕ) → ((h : ℕ) → g h ≤ 1) → ((h k : ℕ) → 0 < count_of h l → 0 < count_of k l → g h ≡ 1 → g k ≡ 1 → h ≡ k)
    → ((h : ℕ) → count_of h l ≤ 1) → sum_over g l ≤ 1
sum-one g [] most same once = omega arith
sum-one g (x ∷ r) most same once = elim (cases_lt 0 (g x)) [
  | inl counts ↦
      let m = most x in
      let here_x : 0 < count_of x (x ∷ r) = (let f = count-same x r in omega (arith, f)) in
      let none = sum-none g r (λ h found. elim (cases_lt 0 (g h)) [
        | inl more ↦
            let n = most h in
            let is = same h x (count-later h x r found) here_x (omega (arith, more, n)) (omega (arith, counts, m)) in
            let o = once h in
            let e = count-equal h x r is in
            absurd (omega (arith, o, e, found))
        | inr not ↦ omega (arith, not)
      ]) in
      omega (arith, m, none)
  | inr not ↦
      let i = sum-one g r most (λ h k f e. same h k (count-later h x r f) (count-later k x r e)) (λ h. let o = once h in omega (arith, o)) in
      omega (arith, not, i)
]

-- sums that are compared word by word
module _ (a b : List ℕ → ℕ) where
  pub sums_most : (ws : List (List ℕ)) → ((i : ℕ) → a (word_of ws i) ≤ b (word_of ws i)) → sum_words a ws ≤ sum_words b ws
  sums_most [] most = omega arith
  sums_most (w ∷ ws) most = let e = most 0 in let f = sums_most ws (λ i. most (suc i)) in omega (arith, e, f)

  pub one_gains : (ws : List (List ℕ)) → ((i : ℕ) → a (word_of ws i) ≤ b (word_of ws i)) → (f : ℕ) → f < length ws → a (word_of ws f) + 1 ≤ b (word_of ws f)
      → sum_words a ws + 1 ≤ sum_words b ws
  one_gains [] most f below gain = absurd (omega (arith, below))
  one_gains (w ∷ ws) most zero below gain = let e = sums_most ws (λ i. most (suc i)) in omega (arith, e, gain)
  one_gains (w ∷ ws) most (suc f) below gain = let e = most 0 in let i = one_gains ws (λ i. most (suc i)) f (omega (arith, below)) gain in omega (arith, e, i)

  pub two_gain : (ws : List (List ℕ)) → ((i : ℕ) → a (word_of ws i) ≤ b (word_of ws i)) → (f g : ℕ) → f ≢ g → f < length ws → g < length ws
      → a (word_of ws f) + 1 ≤ b (word_of ws f) → a (word_of ws g) + 1 ≤ b (word_of ws g) → sum_words a ws + 2 ≤ sum_words b ws
  two_gain [] most f g differ below_f below_g gain_f gain_g = absurd (omega (arith, below_f))
  two_gain (w ∷ ws) most zero zero differ below_f below_g gain_f gain_g = absurd (differ refl)
  two_gain (w ∷ ws) most zero (suc g) differ below_f below_g gain_f gain_g =
      let i = one_gains ws (λ i. most (suc i)) g (omega (arith, below_g)) gain_g in omega (arith, i, gain_f)
  two_gain (w ∷ ws) most (suc f) zero differ below_f below_g gain_f gain_g =
      let i = one_gains ws (λ i. most (suc i)) f (omega (arith, below_f)) gain_f in omega (arith, i, gain_g)
  two_gain (w ∷ ws) most (suc f) (suc g) differ below_f below_g gain_f gain_g =
      let e = most 0 in
      let i = two_gain ws (λ i. most (suc i)) f g (λ is. differ (ap suc is)) (omega (arith, below_f)) (omega (arith, below_g)) gain_f gain_g in
      omega (arith, e, i)
