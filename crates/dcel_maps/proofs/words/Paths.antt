-- Paths and cycles of a relation.
use Rattle.std.proofs.Common.{◌≡◌, ◌≢◌, ◌⊎◌, inl, inr, ℕ, ◌+◌, ◌<◌, ◌≤◌, List, [], ◌∷◌, ◌++◌, length, refl, sym, ap, subst, arith, append-nil, eqb, eq-eqb}
use Rattle.std.proofs.lemmas.Bool.{cases_eq, cond_both, ne_eqb}
use Rattle.std.proofs.lemmas.List.{length-append}
use Rattle.dcel_maps.specs.theory.Cycles.{Path, IsCycle}
use Rattle.dcel_maps.specs.Words.{count_of, next_in_word, prev_in_word, item_after, item_before, last_of}
use Rattle.dcel_maps.proofs.words.Counts.{count-append, count-equal, count-same, count-other, count-later, first_or_later}

pub Path-append : (R : ℕ → ℕ → Type 0) (x : ℕ) (l : List ℕ) (y : ℕ) (r : List ℕ) (e : ℕ) → Path R x l y → Path R y r e
    → Path R x (l ++ y ∷ r) e
Path-append R x [] y r e p q = (p, q)
Path-append R x (z ∷ l) y r e p q = (p.0, Path-append R z l y r e p.1 q)

pub Path-split : (R : ℕ → ℕ → Type 0) (x : ℕ) (l : List ℕ) (y : ℕ) (r : List ℕ) (e : ℕ) → Path R x (l ++ y ∷ r) e
    → Path R x l y × Path R y r e
Path-split R x [] y r e p = (p.0, p.1)
Path-split R x (z ∷ l) y r e p = let rest = Path-split R z l y r e p.1 in ((p.0, rest.0), rest.1)

-- a cyclic list written from another of its items
pub cycle_turns : (R : ℕ → ℕ → Type 0) (front : List ℕ) (x : ℕ) (back : List ℕ) → IsCycle R (front ++ x ∷ back)
    → IsCycle R (x ∷ back ++ front)
cycle_turns R [] x back c = subst (λ (u : List ℕ). IsCycle R (x ∷ u)) (sym (append-nil back)) c
cycle_turns R (y ∷ front) x back c = let two = Path-split R y front x back y c in Path-append R x back y front x two.1 two.0

-- the steps of a path changed one by one, and its end with the last of them
pub Path-changed : (R S : ℕ → ℕ → Type 0) (x : ℕ) (r : List ℕ) (e k : ℕ)
    → ((p q : ℕ) → 0 < count_of p (x ∷ r) → 0 < count_of q r → R p q → S p q)
    → ((p : ℕ) → 0 < count_of p (x ∷ r) → R p e → S p k) → Path R x r e → Path S x r k
Path-changed R S x [] e k steps last p = last x (omega (arith, count-same x [])) p
Path-changed R S x (y ∷ r) e k steps last p = (
  steps x y (omega (arith, count-same x (y ∷ r))) (omega (arith, count-same y r)) p.0,
  Path-changed R S y r e k (λ i j i_in j_in. steps i j (omega (arith, i_in)) (omega (arith, j_in)))
      (λ i i_in. last i (omega (arith, i_in))) p.1,
)

-- what R gives between two items of the cycle holds along it
pub IsCycle-weaker : (R S : ℕ → ℕ → Type 0) (w : List ℕ)
    → ((p q : ℕ) → 0 < count_of p w → 0 < count_of q w → R p q → S p q) → IsCycle R w → IsCycle S w
IsCycle-weaker R S [] gives c = tt
IsCycle-weaker R S (x ∷ r) gives c =
    Path-changed R S x r x x (λ p q i j. gives p q i (omega (arith, j))) (λ p i. gives p x i (omega (arith, count-same x r))) c

-- each item of a path is followed by a later one, or by the end
pub path_next : (R : ℕ → ℕ → Type 0) (x : ℕ) (r : List ℕ) (e : ℕ) → Path R x r e → (h : ℕ) → 0 < count_of h (x ∷ r)
    → (k : ℕ) × R h k × ((k ≡ e) ⊎ (0 < count_of k r))
path_next R x [] e p h found =
    elim (first_or_later h x [] found) [ inl same ↦ (e, rw same p, inl refl) | inr later ↦ absurd (omega (arith, later)) ]
path_next R x (y ∷ r) e p h found =
    elim (first_or_later h x (y ∷ r) found) [
      | inl same ↦ (y, rw same p.0, inr (omega (arith, count-same y r)))
      | inr later ↦ let k = path_next R y r e p.1 h later in
          (k.0, k.1, elim k.2 [ inl end ↦ inl end | inr on ↦ inr (count-later k.0 y r on) ])
    ]

item_after-follows : (R : ℕ → ℕ → Type 0) (x : ℕ) (r : List ℕ) (e : ℕ) → Path R x r e → (h : ℕ) → 0 < count_of h (x ∷ r)
    → R h (item_after h e (x ∷ r))
item_after-follows R x [] e p h found =
    elim (first_or_later h x [] found) [ inl same ↦ rw same p | inr later ↦ absurd (omega (arith, later)) ]
item_after-follows R x (y ∷ r) e p h found =
    elim (cases_eq h x) [
      | inl same ↦ rw (eq-eqb h x same) (rw same p.0)
      | inr differs ↦
          rw (ne_eqb h x differs)
          (item_after-follows R y r e p.1 h (omega (arith, found, count-other h x (y ∷ r) differs)))
    ]

-- the last item of a path leads to its end
pub last_of-leads : (R : ℕ → ℕ → Type 0) (x : ℕ) (r : List ℕ) (e : ℕ) → Path R x r e → R (last_of x r) e
last_of-leads R x [] e p = p
last_of-leads R x (y ∷ r) e p = last_of-leads R y r e p.1

-- a list of some items is others, and then its last
others_and_last : (y : ℕ) (r : List ℕ) → (others : List ℕ) × (y ∷ r ≡ others ++ last_of y r ∷ [])
others_and_last y [] = ([], refl)
others_and_last y (z ∷ r) = let rest = others_and_last z r in (y ∷ rest.0, ap (λ w. y ∷ w) rest.1)

-- a path along items that stand there once is one to the last of them, and the last step
pub record IsUpToLast (R : ℕ → ℕ → Type 0) (x : ℕ) (r : List ℕ) (last e : ℕ) : Type 0 where
  pub others : List ℕ
  pub parted : r ≡ others ++ last ∷ []
  pub path : Path R x others last
  pub step : R last e
  pub once : (k : ℕ) → count_of k (x ∷ others) ≤ 1
  pub apart : count_of last others ≡ 0
  pub differs : x ≢ last
  pub longer : length r ≡ length others + 1

pub path_up_to_last : (R : ℕ → ℕ → Type 0) (x y : ℕ) (r : List ℕ) (e : ℕ) → Path R x (y ∷ r) e
    → ((k : ℕ) → count_of k (x ∷ y ∷ r) ≤ 1) → IsUpToLast R x (y ∷ r) (last_of y r) e
path_up_to_last R x y r e p once =
    let z = last_of y r in
    let (others, parted) = others_and_last y r in
    let two = Path-split R x others z [] e (subst (λ (w : List ℕ). Path R x w e) parted p) in
    let single = subst (λ (w : List ℕ). (k : ℕ) → count_of k (x ∷ w) ≤ 1) parted once in
    record {
      others = others;
      parted = parted;
      path = two.0;
      step = two.1;
      once = λ k. omega (arith, single k, count-append k others (z ∷ []));
      apart = omega (arith, single z, count-append z others (z ∷ []), count-same z []);
      differs = λ same. omega (arith, single z, count-equal z x (others ++ z ∷ []) (sym same), count-append z others (z ∷ []), count-same z []);
      longer = omega (arith, ap length parted, length-append others (z ∷ []));
    }

item_before-leads : (R : ℕ → ℕ → Type 0) (last x : ℕ) (r : List ℕ) (e : ℕ) → R last x → Path R x r e → (h : ℕ)
    → 0 < count_of h (x ∷ r) → R (item_before h last (x ∷ r)) h
item_before-leads R last x [] e k p h found =
    elim (first_or_later h x [] found) [ inl same ↦ rw (eq-eqb h x same) (rw same k) | inr later ↦ absurd (omega (arith, later)) ]
item_before-leads R last x (y ∷ r) e k p h found =
    elim (cases_eq h x) [
      | inl same ↦ rw (eq-eqb h x same) (rw same k)
      | inr differs ↦
          rw (ne_eqb h x differs)
          (item_before-leads R x y r e p.0 p.1 h (omega (arith, found, count-other h x (y ∷ r) differs)))
    ]

-- each item of a cycle is followed by the next one in the list, and comes after the one before
pub next_in_word-follows : (R : ℕ → ℕ → Type 0) (w : List ℕ) → IsCycle R w → (h : ℕ) → 0 < count_of h w
    → R h (next_in_word h w)
next_in_word-follows R [] c h found = absurd (omega (arith, found))
next_in_word-follows R (x ∷ r) c h found = item_after-follows R x r x c h found

pub prev_in_word-leads : (R : ℕ → ℕ → Type 0) (w : List ℕ) → IsCycle R w → (h : ℕ) → 0 < count_of h w
    → R (prev_in_word h w) h
prev_in_word-leads R [] c h found = absurd (omega (arith, found))
prev_in_word-leads R (x ∷ r) c h found = item_before-leads R (last_of x r) x r x (last_of-leads R x r x c) c h found

-- v is e, or stands in the list
IsEndOrItem : ℕ → ℕ → List ℕ → Type 0
IsEndOrItem v e w = (v ≡ e) ⊎ (0 < count_of v w)

item_after-stands : (h e x : ℕ) (r : List ℕ) → IsEndOrItem (item_after h e (x ∷ r)) e (x ∷ r)
unfolding IsEndOrItem
item_after-stands h e x [] = inl refl
item_after-stands h e x (y ∷ r) =
    cond_both (eqb h x) y (item_after h e (y ∷ r)) (λ v. IsEndOrItem v e (x ∷ y ∷ r))
    (λ same. inr (count-later y x (y ∷ r) (omega (arith, count-same y r))))
    (λ differs. elim (item_after-stands h e y r) [ inl end ↦ inl end | inr there ↦ inr (count-later _ x (y ∷ r) there) ])

end_or_item : (v e x : ℕ) (r : List ℕ) → 0 < count_of e (x ∷ r) → IsEndOrItem v e (x ∷ r) → 0 < count_of v (x ∷ r)
unfolding IsEndOrItem
end_or_item v e x r there either =
    elim either [ inl same ↦ subst (λ u. 0 < count_of u (x ∷ r)) (sym same) there | inr found ↦ found ]

-- and both stand in it
pub next_in_word-stands : (h : ℕ) (w : List ℕ) → 0 < count_of h w → 0 < count_of (next_in_word h w) w
next_in_word-stands h [] found = absurd (omega (arith, found))
next_in_word-stands h (x ∷ r) found = end_or_item _ x x r (omega (arith, count-same x r)) (item_after-stands h x x r)
