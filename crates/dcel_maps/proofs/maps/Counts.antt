-- How many numbers pass a test, and when a vertex or a face is counted.
use Rattle.std.proofs.Common.{◌≡◌, ◌≢◌, inl, inr, ◌+◌, ◌*◌, ◌/◌, ◌<◌, ◌≤◌, ◌==◌, ℕ, zero, suc, Bool, true, false, cond, eqb-true, eq-eqb, sym, refl, ap, ◌∙◌, add-one, arith}
use Rattle.std.proofs.lemmas.Bool.{cases_eq, false≢true, and_parts, and_from, or_cases, or_left, or_right, false_from_ne_true}
use Rattle.dcel_maps.specs.Maps.{Live, Map, any_below, count, has_label, is_used}
use Rattle.dcel_maps.specs.theory.Sound.{Sound}

-- tests that agree below n pass equally often
pub count_same : (p q : ℕ → Bool) (n : ℕ) → ((k : ℕ) → k < n → p k ≡ q k) → count p n ≡ count q n
count_same p q zero h = refl
count_same p q (suc n) h =
    let e = count_same p q n (λ k l. h k (omega arith)) in
    let i : p n ≡ q n = h n (omega arith) in cc

-- a test that passes at one more number passes once more
pub count_more : (p q : ℕ → Bool) (n k : ℕ) → k < n → p k ≡ false → q k ≡ true → ((j : ℕ) → j < n → j ≢ k → p j ≡ q j)
    → count q n ≡ count p n + 1
count_more p q zero k l f t h = absurd (omega arith)
count_more p q (suc n) k l f t h = elim (cases_eq k n) [
  | inl i ↦ let e : count p n ≡ count q n = count_same p q n (λ j m. h j (omega arith) (omega arith)) in
      let a : p n ≡ false = ap p (sym i) ∙ f in
      let b : q n ≡ true = ap q (sym i) ∙ t in
      rw (a, b, e, add-one)
  | inr d ↦ let e = count_more p q n k (omega arith) f t (λ j m. h j (omega arith)) in
      let a : p n ≡ q n = h n (omega arith) (λ i. d (sym i)) in
      rw a (elim (q n) as (λ b. cond b (suc (count q n)) (count q n) ≡ cond b (suc (count p n)) (count p n) + 1) [
        | true ↦ omega arith
        | false ↦ e
      ])
]

-- nothing passes the test that is always false
pub count_none : (n : ℕ) → count (λ k. false) n ≡ 0
count_none zero = refl
count_none (suc n) = count_none n

-- where all pass, as many pass as there are
pub count_all : (p : ℕ → Bool) (n : ℕ) → ((k : ℕ) → k < n → p k ≡ true) → count p n ≡ n
count_all p zero all = refl
count_all p (suc n) all = rw (all n (omega arith)) (ap suc (count_all p n (λ k l. all k (omega arith))))

-- one that passes shows it
pub any_below_from : (p : ℕ → Bool) (n k : ℕ) → k < n → p k ≡ true → any_below p n ≡ true
any_below_from p zero k l t = absurd (omega arith)
any_below_from p (suc n) k l t = elim (cases_eq k n) [
  | inl i ↦ or_left (p n) (any_below p n) (ap p (sym i) ∙ t)
  | inr d ↦ or_right (p n) (any_below p n) (any_below_from p n k (omega arith) t)
]

-- where one passes, here is one
pub any_below_cases : (p : ℕ → Bool) (n : ℕ) → any_below p n ≡ true → (k : ℕ) × (k < n) × (p k ≡ true)
any_below_cases p zero t = absurd (false≢true t)
any_below_cases p (suc n) t = elim (or_cases (p n) (any_below p n) t) [
  | inl i ↦ (n, omega arith, i)
  | inr i ↦ let r = any_below_cases p n i in (r.0, omega arith, r.2)
]

-- tests that follow from each other are equal
pub same_tests : (a b : Bool) → (a ≡ true → b ≡ true) → (b ≡ true → a ≡ true) → a ≡ b
same_tests true b f g = sym (f refl)
same_tests false b f g = sym (false_from_ne_true b (λ i. false≢true (g i)))

-- a live half edge with the label
pub record Used (S : Map) (label : ℕ → ℕ) (v : ℕ) : Type 0 where
  pub half : ℕ
  pub live : Live S half
  pub is : label half ≡ v

-- a live half edge with the label shows it
pub used_from : (S : Map) → Sound S → (label : ℕ → ℕ) (v : ℕ) → Used S label v → is_used S label v ≡ true
used_from S s label v u =
    let b = s.below_edges u.half u.live in
    any_below_from (has_label S label v) (2 * S.edges) u.half (omega arith)
    (and_from (S.edge (u.half / 2)) (label u.half == v) u.live (eq-eqb (label u.half) v u.is))

-- where a label is used, here is a half edge
pub used_gives : (S : Map) (label : ℕ → ℕ) (v : ℕ) → is_used S label v ≡ true → Used S label v
used_gives S label v t =
    let k = any_below_cases (has_label S label v) (2 * S.edges) t in
    let e = and_parts (S.edge (k.0 / 2)) (label k.0 == v) k.2 in
    record { half = k.0; live = e.0; is = eqb-true (label k.0) v e.1 }

-- a label is used in both maps, or in neither
pub used_same : (S T : Map) → Sound S → Sound T → (label label' : ℕ → ℕ) (v : ℕ)
    → (Used S label v → Used T label' v) → (Used T label' v → Used S label v) → is_used S label v ≡ is_used T label' v
used_same S T s t label label' v f g =
    same_tests (is_used S label v) (is_used T label' v) (λ i. used_from T t label' v (f (used_gives S label v i)))
    (λ i. used_from S s label v (g (used_gives T label' v i)))

-- a label that no live half edge has is not used
pub used_not : (S : Map) (label : ℕ → ℕ) (v : ℕ) → ((x : ℕ) → Live S x → label x ≢ v) → is_used S label v ≡ false
used_not S label v h = false_from_ne_true (is_used S label v) (λ i. let u = used_gives S label v i in h u.half u.live u.is)

-- no edge past the count is live
pub edge_past : (S : Map) → Sound S → (u : ℕ) → S.edges ≤ u → S.edge u ≡ false
edge_past S s u l = false_from_ne_true (S.edge u) (λ i.
    let half : 2 * u / 2 ≡ u = omega arith in
    let b = s.below_edges (2 * u) (ap S.edge half ∙ i) in omega arith)

-- numbers that do not pass do not count
pub count_past : (p : ℕ → Bool) (n m : ℕ) → n ≤ m → ((k : ℕ) → n ≤ k → p k ≡ false) → count p m ≡ count p n
count_past p n zero l h = let e : n ≡ zero = omega arith in ap (count p) (sym e)
count_past p n (suc m) l h = elim (cases_eq n (suc m)) [
  | inl i ↦ ap (count p) (sym i)
  | inr d ↦ let f = h m (omega arith) in rw f (count_past p n m (omega arith) h)
]

-- the labels of live half edges, those of S below n, where T still has each
module _ (S T : Map) (s : Sound S) (t : Sound T) (label label' : ℕ → ℕ) (n m : ℕ) (wide : n ≤ m)
    (below : (x : ℕ) → Live S x → label x < n) (still : (x : ℕ) → Live S x → Used T label' (label x)) where
  labels_past : count (is_used S label) m ≡ count (is_used S label) n
  labels_past = count_past (is_used S label) n m wide (λ k past. used_not S label k (λ x l i. omega (arith, below x l, i, past)))

  kept : (v : ℕ) → (Used T label' v → Used S label v) → is_used S label v ≡ is_used T label' v
  kept v = used_same S T s t label label' v (λ u. let w = still u.half u.live in record { half = w.half; live = w.live; is = w.is ∙ u.is })

  was : (v : ℕ) (u : Used T label' v) → Used S label (label' u.half) → Used S label v
  was v u w = record { half = w.half; live = w.live; is = w.is ∙ u.is }

  -- no label is new
  pub labels_same : ((x : ℕ) → Live T x → Used S label (label' x)) → count (is_used T label') m ≡ count (is_used S label) n
  labels_same old =
      count_same (is_used T label') (is_used S label) m (λ v l. sym (kept v (λ u. was v u (old u.half u.live)))) ∙ labels_past

  -- v alone is new
  pub labels_more : (v : ℕ) → v < m → ((x : ℕ) → Live S x → label x ≢ v) → Used T label' v
      → ((x : ℕ) → Live T x → label' x ≢ v → Used S label (label' x)) → count (is_used T label') m ≡ count (is_used S label) n + 1
  labels_more v v_in new here old =
      count_more (is_used S label) (is_used T label') m v v_in (used_not S label v new) (used_from T t label' v here)
      (λ w l d. kept w (λ u. was w u (old u.half u.live (λ i. d (sym u.is ∙ i))))) ∙ ap (λ z. z + 1) labels_past
