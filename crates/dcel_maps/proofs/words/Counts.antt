-- How often an item stands in a list and in all words, and how long they are.
use Rattle.std.proofs.Common.{◌≡◌, ◌≢◌, ◌⊎◌, inl, inr, ℕ, zero, suc, ◌+◌, ◌<◌, ◌≤◌, List, [], ◌∷◌, ◌++◌, length, reverse, refl, ap, sym, ◌∙◌, arith, zero-add, eqb, eq-eqb, true, false}
use Rattle.std.proofs.lemmas.Bool.{cases_eq, cases_lt, ne_eqb, or_cases, false≢true}
use Rattle.std.proofs.lemmas.List.{length-append, reverse-append}
use Rattle.std.proofs.lemmas.Map.Steps.{length-le_from_distinct_below}
use Rattle.std.specs.List.{AllByRecursion, IsDistinct, concat, list_any}
use Rattle.dcel_maps.specs.Words.{count_of, occurs, total_length, word_of}

pub count-equal : (h x : ℕ) (r : List ℕ) → h ≡ x → count_of h (x ∷ r) ≡ 1 + count_of h r
count-equal h x r same = rw (eq-eqb h x same) refl

pub count-same : (x : ℕ) (r : List ℕ) → count_of x (x ∷ r) ≡ 1 + count_of x r
count-same x r = count-equal x x r refl

pub count-other : (h x : ℕ) (r : List ℕ) → h ≢ x → count_of h (x ∷ r) ≡ count_of h r
count-other h x r differs = rw (ne_eqb h x differs) (zero-add _)

pub count-append : (h : ℕ) (a b : List ℕ) → count_of h (a ++ b) ≡ count_of h a + count_of h b
count-append h [] b = omega arith
count-append h (x ∷ r) b = omega (arith, count-append h r b)

pub count-reverse : (h : ℕ) (w : List ℕ) → count_of h (reverse w) ≡ count_of h w
count-reverse h [] = refl
count-reverse h (x ∷ r) = ap (count_of h) (reverse-append (x ∷ []) r) ∙ omega (arith, count-append h (reverse r) (x ∷ []), count-reverse h r)

-- an item of a list is its first or stands in the rest
pub first_or_later : (h x : ℕ) (r : List ℕ) → 0 < count_of h (x ∷ r) → (h ≡ x) ⊎ (0 < count_of h r)
first_or_later h x r found =
    elim (cases_eq h x) [ inl same ↦ inl same | inr differs ↦ inr (omega (arith, found, count-other h x r differs)) ]

-- an item stands in a list, or doesn't
pub stands_or_not : (h : ℕ) (w : List ℕ) → (0 < count_of h w) ⊎ (count_of h w ≡ 0)
stands_or_not h w = elim (cases_lt 0 (count_of h w)) [ inl found ↦ inl found | inr none ↦ inr (omega (arith, none)) ]

-- and an item of two lists after each other stands in one of them
pub in_either : (h : ℕ) (a b : List ℕ) → 0 < count_of h (a ++ b) → (0 < count_of h a) ⊎ (0 < count_of h b)
in_either h a b found = elim (stands_or_not h a) [ inl there ↦ inl there | inr none ↦ inr (omega (arith, found, none, count-append h a b)) ]

-- and an item of a list with one more at its end is that or stands before it
pub last_or_before : (h x : ℕ) (r : List ℕ) → 0 < count_of h (r ++ x ∷ []) → (h ≡ x) ⊎ (0 < count_of h r)
last_or_before h x r found = elim (in_either h r (x ∷ []) found) [
  | inl before ↦ inr before
  | inr last ↦ elim (first_or_later h x [] last) [ inl same ↦ inl same | inr none ↦ absurd (omega (arith, none)) ]
]

-- what stands in the rest stands in the list
pub count-later : (h x : ℕ) (r : List ℕ) → 0 < count_of h r → 0 < count_of h (x ∷ r)
count-later h x r found = omega (arith, found)

-- an item that does not stand in a list is not its first
pub absent_head : (h x : ℕ) (r : List ℕ) → count_of h (x ∷ r) ≡ 0 → h ≢ x
absent_head h x r none same =
    let one : eqb h x ≡ true = eq-eqb h x same in
    let more : 1 + count_of h r ≡ 0 = rw one at none in
    omega (arith, more)

-- what each item of a list differs from does not stand in it
pub count-none : (h : ℕ) (w : List ℕ) → ((x : ℕ) → 0 < count_of x w → h ≢ x) → count_of h w ≡ 0
count-none h w others =
    elim (cases_lt 0 (count_of h w)) [ inl found ↦ absurd (others h found refl) | inr not ↦ omega (arith, not) ]

pub count-le_length : (h : ℕ) (w : List ℕ) → count_of h w ≤ length w
count-le_length h [] = omega arith
count-le_length h (x ∷ r) =
    elim (cases_eq h x) [
      | inl same ↦ rw (eq-eqb h x same) (omega (arith, count-le_length h r))
      | inr differs ↦ rw (ne_eqb h x differs) (omega (arith, count-le_length h r))
    ]

-- an item that stands in a list splits it
pub split_at : (x : ℕ) (w : List ℕ) → 0 < count_of x w → (l : List ℕ) × (r : List ℕ) × (w ≡ l ++ x ∷ r)
split_at x [] found = absurd (omega arith)
split_at x (y ∷ r) found =
    elim (cases_eq x y) [
      | inl same ↦ ([], r, ap (λ z. z ∷ r) (sym same))
      | inr differs ↦
          let later = split_at x r (rw count-other at found) in
          (y ∷ later.0, later.1, ap (λ z. y ∷ z) later.2)
    ]

pub count-le_occurs : (h : ℕ) (ws : List (List ℕ)) (f : ℕ) → count_of h (word_of ws f) ≤ occurs h ws
count-le_occurs h [] f = omega arith
count-le_occurs h (w ∷ ws) zero = omega arith
count-le_occurs h (w ∷ ws) (suc f) = omega (arith, count-le_occurs h ws f)

pub length-le_total : (ws : List (List ℕ)) (f : ℕ) → length (word_of ws f) ≤ total_length ws
length-le_total [] f = omega arith
length-le_total (w ∷ ws) zero = omega arith
length-le_total (w ∷ ws) (suc f) = omega (arith, length-le_total ws f)

-- an item that occurs stands in some word
pub word_with : (h : ℕ) (ws : List (List ℕ)) → 0 < occurs h ws
    → (f : ℕ) × (f < length ws) × (0 < count_of h (word_of ws f))
word_with h [] found = absurd (omega (arith, found))
word_with h (w ∷ ws) found =
    elim (cases_lt 0 (count_of h w)) [
      | inl here ↦ (0, omega arith, here)
      | inr not ↦ let later = word_with h ws (omega (arith, found, not)) in (suc later.0, omega (arith, later.1), later.2)
    ]

-- a word that holds an item is there
pub word_within : (h : ℕ) (ws : List (List ℕ)) (f : ℕ) → 0 < count_of h (word_of ws f) → f < length ws
word_within h [] f found = absurd (omega (arith, found))
word_within h (w ∷ ws) zero found = omega arith
word_within h (w ∷ ws) (suc f) found = omega (arith, word_within h ws f found)

-- an item that stands in two words occurs twice
pub two_words : (h : ℕ) (ws : List (List ℕ)) (f g : ℕ) → f ≢ g
    → count_of h (word_of ws f) + count_of h (word_of ws g) ≤ occurs h ws
two_words h [] f g differs = omega arith
two_words h (w ∷ ws) zero zero differs = absurd (differs refl)
two_words h (w ∷ ws) zero (suc g) differs = omega (arith, count-le_occurs h ws g)
two_words h (w ∷ ws) (suc f) zero differs = omega (arith, count-le_occurs h ws f)
two_words h (w ∷ ws) (suc f) (suc g) differs = omega (arith, two_words h ws f g (λ e. differs (ap suc e)))

-- an item that stands in no word does not occur
pub occurs-none : (h : ℕ) (ws : List (List ℕ)) → ((f : ℕ) → f < length ws → count_of h (word_of ws f) ≡ 0)
    → occurs h ws ≡ 0
occurs-none h [] none = refl
occurs-none h (w ∷ ws) none = omega (arith, none 0 (omega arith), occurs-none h ws (λ f within. none (suc f) (omega arith)))

-- an item that stands in one word alone occurs as often as there
pub occurs-alone : (h : ℕ) (ws : List (List ℕ)) (f : ℕ) → f < length ws
    → ((g : ℕ) → g ≢ f → count_of h (word_of ws g) ≡ 0) → occurs h ws ≡ count_of h (word_of ws f)
occurs-alone h [] f within others = absurd (omega arith)
occurs-alone h (w ∷ ws) zero within others =
    omega (arith, occurs-none h ws (λ g g_in. others (suc g) (λ e. omega (arith, e))))
occurs-alone h (w ∷ ws) (suc f) within others =
    omega (
      arith,
      others 0 (λ e. omega (arith, e)),
      occurs-alone h ws f (omega arith) (λ g differs. others (suc g) (λ e. differs (omega (arith, e)))),
    )

-- the items of all words in one list
pub count-concat : (h : ℕ) (ws : List (List ℕ)) → count_of h (concat ws) ≡ occurs h ws
count-concat h [] = refl
count-concat h (w ∷ ws) = omega (arith, count-append h w (concat ws), count-concat h ws)

pub length-concat : (ws : List (List ℕ)) → length (concat ws) ≡ total_length ws
length-concat [] = refl
length-concat (w ∷ ws) = omega (arith, length-append w (concat ws), length-concat ws)

count_from_any : (h : ℕ) (w : List ℕ) → list_any (eqb h) w ≡ true → 0 < count_of h w
count_from_any h [] found = absurd (false≢true found)
count_from_any h (x ∷ r) found =
    elim (or_cases (eqb h x) (list_any (eqb h) r) found) [
      | inl same ↦ rw same (omega arith)
      | inr later ↦ count-later h x r (count_from_any h r later)
    ]

others_from_count : (h : ℕ) (w : List ℕ) → count_of h w ≡ 0 → AllByRecursion (λ y. eqb h y ≡ false) w
others_from_count h [] none = tt
others_from_count h (x ∷ r) none = (ne_eqb h x (absent_head h x r none), others_from_count h r (omega (arith, none)))

distinct_from_count : (w : List ℕ) → ((h : ℕ) → count_of h w ≤ 1) → IsDistinct eqb w
unfolding IsDistinct
distinct_from_count [] single = tt
distinct_from_count (x ∷ r) single =
    (others_from_count x r (omega (arith, single x, count-same x r)), distinct_from_count r (λ h. omega (arith, single h)))

-- words where no item occurs twice, and each is below n, have at most n items
pub total-le : (ws : List (List ℕ)) (n : ℕ) → ((h : ℕ) → occurs h ws ≤ 1) → ((h : ℕ) → 0 < occurs h ws → h < n)
    → total_length ws ≤ n
total-le ws n single below =
    rw (← length-concat ws) (length-le_from_distinct_below (concat ws) n
    (distinct_from_count (concat ws) (λ h. omega (arith, single h, count-concat h ws)))
    (λ h found. below h (omega (arith, count_from_any h (concat ws) found, count-concat h ws))))
