-- Items put in after each x of a word.
use Rattle.std.proofs.Common.{◌≡◌, ◌≢◌, ◌↔◌, ◌∙◌, inl, inr, ℕ, ◌+◌, ◌*◌, ◌<◌, List, [], ◌∷◌, ◌++◌, cond, eqb, refl, subst, ap, sym, arith, eq-eqb, append-nil}
use Rattle.std.proofs.lemmas.Bool.{cases_eq, ne_eqb}
use Rattle.dcel_maps.specs.theory.Cycles.{Path, IsCycle}
use Rattle.dcel_maps.specs.Words.{count_of, become, IsLeastFirst}
use Rattle.dcel_maps.proofs.words.Counts.{count-same, count-other, count-append, absent_head}
use Rattle.dcel_maps.proofs.words.Paths.{Path-append}

pub become-cons : (x : ℕ) (zs : List ℕ) (y : ℕ) (r : List ℕ)
    → become x (x ∷ zs) (y ∷ r) ≡ y ∷ cond (eqb x y) (zs ++ become x (x ∷ zs) r) (become x (x ∷ zs) r)
become-cons x zs y r =
    elim (cases_eq x y) [
      | inl same ↦ rw (eq-eqb x y same) (ap (λ v. v ∷ zs ++ become x (x ∷ zs) r) same)
      | inr differs ↦ rw (ne_eqb x y differs) refl
    ]

-- what is put in is counted in the place of x
pub count-replaced : (h x : ℕ) (items w : List ℕ)
    → count_of h (become x items w) + count_of h (x ∷ []) * count_of x w ≡ count_of h w + count_of h items * count_of x w
count-replaced h x items [] = omega arith
count-replaced h x items (y ∷ r) =
    elim (cases_eq x y) [
      | inl same ↦
          let one : count_of h (y ∷ []) ≡ count_of h (x ∷ []) = ap (λ z. count_of h (z ∷ [])) (sym same) in
          rw (eq-eqb x y same) (omega (arith, one, count-append h items (become x items r), count-replaced h x items r))
      | inr differs ↦ rw (ne_eqb x y differs) (omega (arith, count-replaced h x items r))
    ]

pub count-become : (h x : ℕ) (zs w : List ℕ)
    → count_of h (become x (x ∷ zs) w) ≡ count_of h w + count_of h zs * count_of x w
count-become h x zs w = omega (arith, count-replaced h x (x ∷ zs) w)

-- a word where x does not stand stays
pub become-none : (x : ℕ) (items w : List ℕ) → count_of x w ≡ 0 → become x items w ≡ w
become-none x items [] none = refl
become-none x items (y ∷ r) none =
    rw (ne_eqb x y (absent_head x y r none)) (ap (λ z. y ∷ z) (become-none x items r (omega (arith, none))))

-- and no word becomes empty
pub become_empty : (x : ℕ) (zs w : List ℕ) → (become x (x ∷ zs) w ≡ []) ↔ (w ≡ [])
become_empty x zs [] = (λ e. refl, λ e. refl)
become_empty x zs (y ∷ r) = (
  λ e.
      let bad : y ∷ cond (eqb x y) (zs ++ become x (x ∷ zs) r) (become x (x ∷ zs) r) ≡ [] = sym (become-cons x zs y r) ∙ e in
      cc,
  λ e. cc,
)

module _ (R S : ℕ → ℕ → Type 0) (x : ℕ) (zs : List ℕ)
    (kept : (p q : ℕ) → p ≢ x → R p q → S p q) (put : (q : ℕ) → R x q → Path S x zs q) where
  -- a path after items are put in after each x
  pub Path-become : (a : ℕ) (r : List ℕ) (e : ℕ) → Path R a r e
      → Path S a (cond (eqb x a) (zs ++ become x (x ∷ zs) r) (become x (x ∷ zs) r)) e
  Path-become a [] e p =
      elim (cases_eq x a) [
        | inl same ↦
            let goes : Path S x zs e = put e (rw same p) in
            rw (eq-eqb x a same, append-nil) (subst (λ (v : ℕ). Path S v zs e) same goes)
        | inr differs ↦ rw (ne_eqb x a differs) (kept a e (λ q. differs (sym q)) p)
      ]
  Path-become a (y ∷ r) e p =
      let rest = Path-become y r e p.1 in
      elim (cases_eq x a) [
        | inl same ↦
            let goes : Path S x zs y = put y (rw same p.0) in
            let from : Path S a zs y = subst (λ (v : ℕ). Path S v zs y) same goes in
            rw (eq-eqb x a same, become-cons) (Path-append S a zs y _ e from rest)
        | inr differs ↦ rw (ne_eqb x a differs, become-cons) (kept a y (λ q. differs (sym q)) p.0, rest)
      ]

  pub IsCycle-become : (w : List ℕ) → IsCycle R w → IsCycle S (become x (x ∷ zs) w)
  IsCycle-become [] c = tt
  IsCycle-become (a ∷ r) c = rw become-cons (Path-become a r a c)

-- new items that are above all others leave the least first
pub IsLeastFirst-become : (x : ℕ) (zs w : List ℕ) (n : ℕ) → ((h : ℕ) → h < n → count_of h zs ≡ 0)
    → ((h : ℕ) → 0 < count_of h w → h < n) → IsLeastFirst w → IsLeastFirst (become x (x ∷ zs) w)
IsLeastFirst-become x zs [] n above below low = tt
IsLeastFirst-become x zs (a ∷ r) n above below low =
    rw become-cons (λ h less.
    let a_in : a < n = below a (omega (arith, count-same a r)) in
    let old = low h less in
    let new = above h (omega arith) in
    let head = count-other h a r (λ e. omega (arith, e)) in
    let headed = count-other h a (cond (eqb x a) (zs ++ become x (x ∷ zs) r) (become x (x ∷ zs) r)) (λ e. omega (arith, e)) in
    let cut = subst (λ (u : List ℕ). count_of h u ≡ count_of h (a ∷ r) + count_of h zs * count_of x (a ∷ r))
    (become-cons x zs a r) (count-become h x zs (a ∷ r)) in
    let gone : count_of h zs * count_of x (a ∷ r) ≡ 0 = rw new (omega arith) in
    omega (arith, old, head, headed, cut, gone))
