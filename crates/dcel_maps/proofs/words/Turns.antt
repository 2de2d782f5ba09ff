-- A cyclic list written from another of its items.
use Rattle.std.proofs.Common.{◌≡◌, ◌≢◌, ◌⊎◌, inl, inr, ℕ, ◌+◌, ◌<◌, ◌≤◌, min, List, [], ◌∷◌, ◌++◌, length, refl, subst, ap, sym, ◌∙◌, arith, eq-eqb, append_assoc, append-nil, length-append}
use Rattle.std.proofs.lemmas.Bool.{cases_eq, cases_lt, ne_eqb}
pub use Rattle.dcel_maps.specs.Cyclic.{onward, before}
use Rattle.dcel_maps.specs.Cyclic.{from_least}
use Rattle.dcel_maps.specs.Walks.{least_of}
use Rattle.dcel_maps.specs.theory.Cycles.{IsCycle}
use Rattle.dcel_maps.specs.Words.{count_of, IsLeastFirst}
pub use Rattle.dcel_maps.specs.Words.{TurnsTo}
use Rattle.dcel_maps.proofs.words.Counts.{count-same, count-other, count-append, count-later}
use Rattle.dcel_maps.proofs.words.Paths.{cycle_turns}

-- a cyclic list written from x
abbrev pub turned_to : ℕ → List ℕ → List ℕ
turned_to x w = onward x w ++ before x w

pub turns_to_itself : (w : List ℕ) → TurnsTo w w
turns_to_itself w = record { front = []; back = w; was = refl; is = sym (append-nil w) }

pub turns_back : {w u : List ℕ} → TurnsTo w u → TurnsTo u w
turns_back t = record { front = t.back; back = t.front; was = t.is; is = t.was }

-- two ways to cut one list
cuts : (a b c d : List ℕ) → a ++ b ≡ c ++ d
    → ((m : List ℕ) × (a ≡ c ++ m) × (d ≡ m ++ b)) ⊎ ((m : List ℕ) × (c ≡ a ++ m) × (b ≡ m ++ d))
cuts [] b c d e = inr (c, refl, e)
cuts (x ∷ a) b [] d e = inl (x ∷ a, refl, sym e)
cuts (x ∷ a) b (y ∷ c) d e =
    let head : x ≡ y = cc in
    let tail : a ++ b ≡ c ++ d = cc in
    elim (cuts a b c d tail) [
      | inl (m, i, j) ↦ inl (m, cc, j)
      | inr (m, i, j) ↦ inr (m, cc, j)
    ]

pub turns_on : {w u v : List ℕ} → TurnsTo w u → TurnsTo u v → TurnsTo w v
turns_on t s =
    elim (cuts t.back t.front s.front s.back (sym t.is ∙ s.was)) [
      | inl (m, i, j) ↦ record {
        front = t.front ++ s.front;
        back = m;
        was = t.was ∙ ap (λ z. t.front ++ z) i ∙ sym (append_assoc t.front s.front m);
        is = s.is ∙ ap (λ z. z ++ s.front) j ∙ append_assoc m t.front s.front;
      }
      | inr (m, i, j) ↦ record {
        front = m;
        back = s.back ++ t.back;
        was = t.was ∙ ap (λ z. z ++ t.back) j ∙ append_assoc m s.back t.back;
        is = s.is ∙ ap (λ z. s.back ++ z) i ∙ sym (append_assoc s.back t.back m);
      }
    ]

pub count-turn : {w u : List ℕ} (h : ℕ) → TurnsTo w u → count_of h u ≡ count_of h w
count-turn h t = rw (t.was, t.is) (omega (arith, count-append h t.front t.back, count-append h t.back t.front))

pub length-turn : {w u : List ℕ} → TurnsTo w u → length u ≡ length w
length-turn t = rw (t.was, t.is) (omega (arith, length-append t.front t.back, length-append t.back t.front))

-- a turned word goes round as before, and its anchor stays right
pub IsCycle-turn : (R : ℕ → ℕ → Type 0) {w u : List ℕ} → TurnsTo w u → IsCycle R w → IsCycle R u
IsCycle-turn R {w} {u} t c =
    subst (λ (z : List ℕ). IsCycle R z) (sym t.is) (go t.front t.back (subst (λ (z : List ℕ). IsCycle R z) t.was c))
  where
    go : (a b : List ℕ) → IsCycle R (a ++ b) → IsCycle R (b ++ a)
    go a [] d = subst (λ (z : List ℕ). IsCycle R z) (append-nil a) d
    go a (x ∷ b) d = cycle_turns R a x b d

cut_later : (x y : ℕ) (r t : List ℕ) → x ≢ y → onward x r ≡ x ∷ t → r ≡ before x r ++ x ∷ t
    → (onward x (y ∷ r) ≡ x ∷ t) × (y ∷ r ≡ before x (y ∷ r) ++ x ∷ t)
cut_later x y r t differs p q = (rw (ne_eqb x y differs) p, rw (ne_eqb x y differs) (ap (λ z. y ∷ z) q))

cut_at : (x : ℕ) (w : List ℕ) → 0 < count_of x w → (t : List ℕ) × (onward x w ≡ x ∷ t) × (w ≡ before x w ++ x ∷ t)
cut_at x [] found = absurd (omega (arith, found))
cut_at x (y ∷ r) found =
    elim (cases_eq x y) [
      | inl same ↦
          let first : y ∷ r ≡ x ∷ r = ap (λ z. z ∷ r) (sym same) in
          (r, rw (eq-eqb x y same) first, rw (eq-eqb x y same) first)
      | inr differs ↦
          let (t, here, parts) = cut_at x r (omega (arith, found, count-other x y r differs)) in
          let (here', parts') = cut_later x y r t differs here parts in
          (t, here', parts')
    ]

-- an item can be written first
pub turned_to-is : (x : ℕ) (w : List ℕ) → 0 < count_of x w → (t : List ℕ) × (turned_to x w ≡ x ∷ t) × TurnsTo w (x ∷ t)
turned_to-is x w found =
    let (t, here, parts) = cut_at x w found in (
      t ++ before x w,
      ap (λ z. z ++ before x w) here,
      record { front = before x w; back = x ∷ t; was = parts; is = refl },
    )

pub turned_to-turn : (x : ℕ) (w : List ℕ) → 0 < count_of x w → TurnsTo w (turned_to x w)
turned_to-turn x w found = let (t, is, turns) = turned_to-is x w found in rw is turns

-- the least stands in the list, and nothing below it does
least_of-le : (x : ℕ) (r : List ℕ) → least_of x r ≤ x
unfolding least_of
least_of-le x [] = omega arith
least_of-le x (y ∷ r) = omega (arith, least_of-le (min x y) r)

least_of-none : (x : ℕ) (r : List ℕ) (h : ℕ) → h < least_of x r → count_of h r ≡ 0
unfolding least_of
least_of-none x [] h less = refl
least_of-none x (y ∷ r) h less =
    omega (arith, least_of-none (min x y) r h less, count-other h y r (λ e. omega (arith, e, less, least_of-le (min x y) r)))

skip_second : (x y : ℕ) (r : List ℕ) (v : ℕ) → 0 < count_of v (x ∷ r) → 0 < count_of v (x ∷ y ∷ r)
skip_second x y r v there = omega (arith, there)

least_of-stands : (x : ℕ) (r : List ℕ) → 0 < count_of (least_of x r) (x ∷ r)
unfolding least_of
least_of-stands x [] = omega (arith, count-same x [])
least_of-stands x (y ∷ r) =
    elim (cases_lt x y) [
      | inl less ↦
          subst (λ v. 0 < count_of (least_of v r) (x ∷ y ∷ r)) (let is : x ≡ min x y = omega arith in is)
          (skip_second x y r (least_of x r) (least_of-stands x r))
      | inr more ↦
          subst (λ v. 0 < count_of (least_of v r) (x ∷ y ∷ r)) (let is : y ≡ min x y = omega arith in is)
          (count-later (least_of y r) x (y ∷ r) (least_of-stands y r))
    ]

-- the least form is the same cyclic list
pub from_least-turn : (w : List ℕ) → TurnsTo w (from_least w)
unfolding from_least
from_least-turn [] = turns_to_itself []
from_least-turn (x ∷ r) = turned_to-turn (least_of x r) (x ∷ r) (least_of-stands x r)

-- with its least item first
pub IsLeastFirst-from_least : (w : List ℕ) → IsLeastFirst (from_least w)
unfolding from_least
IsLeastFirst-from_least [] = tt
IsLeastFirst-from_least (x ∷ r) =
    let (t, is, turns) = turned_to-is (least_of x r) (x ∷ r) (least_of-stands x r) in
    let first : IsLeastFirst (least_of x r ∷ t) =
    λ h less.
    let differs : h ≢ x = λ e. omega (arith, e, less, least_of-le x r) in
    omega (arith, count-turn h turns, least_of-none x r h less, count-other h x r differs) in
    subst (λ (z : List ℕ). IsLeastFirst z) (sym is) first

-- two turns of a list without repeats that are least first are the same
pub turn_unique : {w u : List ℕ} → TurnsTo w u → IsLeastFirst w → IsLeastFirst u → ((h : ℕ) → count_of h w ≤ 1) → w ≡ u
turn_unique {w} {u} t low_w low_u single =
    t.was
    ∙ go t.front t.back (subst (λ (z : List ℕ). IsLeastFirst z) t.was low_w) (subst (λ (z : List ℕ). IsLeastFirst z) t.is low_u)
    (λ h. subst (λ (z : List ℕ). count_of h z ≤ 1) t.was (single h)) ∙ sym t.is
  where
    go : (a b : List ℕ) → IsLeastFirst (a ++ b) → IsLeastFirst (b ++ a) → ((h : ℕ) → count_of h (a ++ b) ≤ 1)
        → a ++ b ≡ b ++ a
    go [] b low_a low_b one = sym (append-nil b)
    go (x ∷ a) [] low_a low_b one = append-nil (x ∷ a)
    go (x ∷ a) (y ∷ b) low_a low_b one =
        elim (cases_lt x y) [
          | inl less ↦
              let none = low_b x less in
              absurd (omega (arith, none, count-append x b (x ∷ a), count-same x a))
          | inr more ↦
              elim (cases_lt y x) [
                | inl less ↦
                    let none = low_a y less in
                    absurd (omega (arith, none, count-append y a (y ∷ b), count-same y b))
                | inr other ↦
                    let same : y ≡ x = omega (arith, more, other) in
                    let twice : count_of x (y ∷ b) ≡ 1 + count_of x b = rw same (count-same x b) in
                    absurd (omega (arith, one x, count-same x (a ++ y ∷ b), count-append x a (y ∷ b), twice))
              ]
        ]

-- a turn of a list without repeats that has its least item first is the least form
pub from_least-is : {w u : List ℕ} → TurnsTo w u → IsLeastFirst u → ((h : ℕ) → count_of h w ≤ 1) → from_least w ≡ u
from_least-is {w} {u} t low single =
    turn_unique (turns_on (turns_back (from_least-turn w)) t) (IsLeastFirst-from_least w) low
    (λ h. omega (arith, single h, count-turn h (from_least-turn w)))
