-- Lists with some items replaced and more put at the end; and functions of numbers that are changed in the same way.
use Rattle.std.proofs.Common.{◌≡◌, ◌≢◌, inl, inr, ℕ, zero, suc, ◌+◌, ◌-◌, ◌<◌, ◌≤◌, List, [], ◌∷◌, ◌++◌, length, map, replicate, slice_index, slice_index_or, slice_set, nat_lt, cond, lt-ltb, le-ltb, refl, sym, ap, ◌∙◌, subst, arith}
use Rattle.std.proofs.lemmas.Bool.{cases_eq, cases_lt, cond-true, cond-false}
use Rattle.std.proofs.lemmas.List.{ext_get_or, get_or-map, get_or-set_same, get_or-set_other, get_or_append_left, get_or-append-add, length-append, length-map, length-set}
use Rattle.dcel_maps.proofs.maps.Updates.{put, put_other, put_same}

-- what becomes of a list: items that are replaced, one after the other, and items that are put at its end
pub record Patch (A : Type 0) : Type 0 where
  pub set : List (ℕ × A)
  pub more : List A

-- these items are replaced, and nothing is put at the end; or the other way round
abbrev pub replacing : {A : Type 0} → List (ℕ × A) → Patch A
replacing set = record { set = set; more = [] }

abbrev pub pushing : {A : Type 0} → List A → Patch A
pushing more = record { set = []; more = more }

abbrev pub replaced : {A : Type 0} → List A → List (ℕ × A) → List A
replaced l [] = l
replaced l (c ∷ r) = replaced (slice_set l c.0 c.1) r

abbrev pub patched : {A : Type 0} → List A → Patch A → List A
patched l p = replaced l p.set ++ p.more

-- what holds of each item that is put in
abbrev pub Each : {A : Type 0} → (ℕ → A → Type 0) → List (ℕ × A) → Type 0
Each P [] = Unit {0}
Each P (c ∷ r) = P c.0 c.1 × Each P r

-- what holds of each item of a list whose numbers begin with n
abbrev pub EachFrom : {A : Type 0} → (ℕ → A → Type 0) → ℕ → List A → Type 0
EachFrom P n [] = Unit {0}
EachFrom P n (a ∷ r) = P n a × EachFrom P (n + 1) r

-- the item k is not replaced
abbrev pub Untouched : {A : Type 0} → ℕ → List (ℕ × A) → Type 0
Untouched k [] = Unit {0}
Untouched k (c ∷ r) = (k ≢ c.0) × Untouched k r

pub each-weaker : {A : Type 0} (P Q : ℕ → A → Type 0) → ((k : ℕ) (a : A) → P k a → Q k a) → (cs : List (ℕ × A)) → Each P cs → Each Q cs
each-weaker P Q gives [] each = tt
each-weaker P Q gives (c ∷ r) each = (gives c.0 c.1 each.0, each-weaker P Q gives r each.1)

pub each_from-weaker : {A : Type 0} (P Q : ℕ → A → Type 0) → ((k : ℕ) (a : A) → P k a → Q k a) → (n : ℕ) (l : List A) → EachFrom P n l → EachFrom Q n l
each_from-weaker P Q gives n [] each = tt
each_from-weaker P Q gives n (a ∷ r) each = (gives n a each.0, each_from-weaker P Q gives (n + 1) r each.1)

pub each_from-past : {A : Type 0} (P : ℕ → A → Type 0) (b n : ℕ) (l : List A) → b ≤ n → EachFrom P n l → EachFrom (λ k a. (b ≤ k) × P k a) n l
each_from-past P b n [] past each = tt
each_from-past P b n (a ∷ r) past each = ((past, each.0), each_from-past P b (n + 1) r (omega (arith, past)) each.1)

-- the same item again and again
pub each_from-replicate : {A : Type 0} (P : ℕ → A → Type 0) (a : A) (b n k : ℕ) → b ≤ n → ((i : ℕ) → b ≤ i → P i a) → EachFrom P n (replicate k a)
each_from-replicate P a b n zero past each = tt
each_from-replicate P a b n (suc k) past each = (each n past, each_from-replicate P a b (n + 1) k (omega (arith, past)) each)

pub length-replaced : {A : Type 0} (l : List A) (cs : List (ℕ × A)) → length (replaced l cs) ≡ length l
length-replaced l [] = refl
length-replaced l (c ∷ r) = length-replaced (slice_set l c.0 c.1) r ∙ length-set l c.0 c.1

pub length-patched : {A : Type 0} (l : List A) (p : Patch A) → length (patched l p) ≡ length l + length p.more
length-patched l p = omega (arith, length-append (replaced l p.set) p.more, length-replaced l p.set)

each-replaced : {A : Type 0} (P : ℕ → A → Type 0) (d : A) (l : List A) (cs : List (ℕ × A)) → Each P cs
    → ((k : ℕ) → k < length l → Untouched k cs → P k (slice_index_or l k d))
    → (k : ℕ) → k < length l → P k (slice_index_or (replaced l cs) k d)
each-replaced P d l [] each old k within = old k within tt
each-replaced P d l (c ∷ r) each old k within =
    each-replaced P d (slice_set l c.0 c.1) r each.1
    (λ i i_in away. elim (cases_eq i c.0) [
      | inl same ↦ rw (same, get_or-set_same l c.0 c.1 d (omega (arith, i_in, same, length-set l c.0 c.1))) each.0
      | inr differs ↦ rw (get_or-set_other l c.0 i c.1 d differs) (old i (omega (arith, i_in, length-set l c.0 c.1)) (differs, away))
    ]) k (omega (arith, within, length-set l c.0 c.1))

each-from : {A : Type 0} (P : ℕ → A → Type 0) (d : A) (n : ℕ) (l : List A) → EachFrom P n l → (k j : ℕ) → j < length l → n + j ≡ k
    → P k (slice_index_or l j d)
each-from P d n [] each k j within at = absurd (omega (arith, within))
each-from P d n (a ∷ r) each k zero within at = let here : n ≡ k = omega (arith, at) in subst (λ i. P i a) here each.0
each-from P d n (a ∷ r) each k (suc j) within at = each-from P d (n + 1) r each.1 k j (omega (arith, within)) (omega (arith, at))

-- a function that changes one item alone replaces it
pub map-set : {A : Type 0} (g : A → A) (d : A) (l : List A) (i : ℕ) → i < length l
    → ((k : ℕ) → k < length l → k ≢ i → g (slice_index_or l k d) ≡ slice_index_or l k d) → map g l ≡ slice_set l i (g (slice_index_or l i d))
map-set g d l i within stays =
    let long = length-map l g in
    ext_get_or d (map g l) (slice_set l i (g (slice_index_or l i d))) (long ∙ sym (length-set l i (g (slice_index_or l i d)))) (λ k below.
    let k_in : k < length l = omega (arith, below, long) in
    get_or-map g l k d d k_in ∙ elim (cases_eq k i) [
      | inl is ↦ ap (λ j. g (slice_index_or l j d)) is ∙ sym (get_or-set_same l i (g (slice_index_or l i d)) d within) ∙ ap (λ j. slice_index_or (slice_set l i (g (slice_index_or l i d))) j d) (sym is)
      | inr differs ↦ stays k k_in differs ∙ sym (get_or-set_other l i k (g (slice_index_or l i d)) d differs)
    ])

-- what holds of the items that are put in, and of those that stay, holds of each
pub each-patched : {A : Type 0} (P : ℕ → A → Type 0) (d : A) (l : List A) (p : Patch A) (n : ℕ) → length l ≡ n
    → Each P p.set → EachFrom P n p.more → ((k : ℕ) → k < n → Untouched k p.set → P k (slice_index_or l k d))
    → (k : ℕ) → k < n + length p.more → P k (slice_index_or (patched l p) k d)
each-patched P d l p n long set more old k within =
    elim (cases_lt k n) [
      | inl below ↦
          rw (get_or_append_left (replaced l p.set) p.more d k (omega (arith, below, long, length-replaced l p.set)))
          (each-replaced P d l p.set set (λ i i_in away. old i (omega (arith, i_in, long)) away) k (omega (arith, below, long)))
      | inr past ↦
          let at : n + (k - n) ≡ k = omega (arith, past) in
          let is : length (replaced l p.set) + (k - n) ≡ k = omega (arith, past, long, length-replaced l p.set) in
          subst (λ a. P k a) (sym (ap (λ i. slice_index_or (patched l p) i d) (sym is) ∙ get_or-append-add (replaced l p.set) p.more (k - n) d))
          (each-from P d n p.more more k (k - n) (omega (arith, within, past)) at)
    ]

-- a function with these values replaced, one after the other
abbrev pub puts : (ℕ → ℕ) → List (ℕ × ℕ) → ℕ → ℕ
puts f [] = f
puts f (c ∷ r) = puts (put f c.0 c.1) r

-- what is replaced last is the value there
pub puts_away : (f : ℕ → ℕ) (cs : List (ℕ × ℕ)) (h : ℕ) → Untouched h cs → puts f cs h ≡ f h
puts_away f [] h away = refl
puts_away f (c ∷ r) h away = puts_away (put f c.0 c.1) r h away.1 ∙ put_other f c.0 c.1 h away.0

pub puts_here : (f : ℕ → ℕ) (h v : ℕ) (cs : List (ℕ × ℕ)) → Untouched h cs → puts (put f h v) cs h ≡ v
puts_here f h v cs away = puts_away (put f h v) cs h away ∙ put_same f h v

-- a function as far as n, with these values replaced, and from n on the items of a list
unfoldable pub patched_at : (ℕ → ℕ) → ℕ → Patch ℕ → ℕ → ℕ
patched_at f n p h = cond (nat_lt h n) (puts f p.set h) (slice_index p.more (h - n))

module _ (f : ℕ → ℕ) (n : ℕ) (p : Patch ℕ) where
  pub patched_at-old : (h : ℕ) → h < n → patched_at f n p h ≡ puts f p.set h
  unfolding patched_at
  patched_at-old h below = cond-true (nat_lt h n) _ _ (lt-ltb h n below)

  pub patched_at-new : (k : ℕ) → patched_at f n p (n + k) ≡ slice_index p.more k
  unfolding patched_at
  patched_at-new k =
      let is : n + k - n ≡ k = omega arith in
      cond-false (nat_lt (n + k) n) _ _ (le-ltb (n + k) n (omega arith)) ∙ ap (slice_index p.more) is

  pub patched_at-first : patched_at f n p n ≡ slice_index p.more 0
  patched_at-first = let is : n + 0 ≡ n = omega arith in ap (patched_at f n p) (sym is) ∙ patched_at-new 0

-- the items of a list that is patched are the values of a function that is
replaced-puts : (l : List ℕ) (n : ℕ) (cs : List (ℕ × ℕ)) (f : ℕ → ℕ) (h : ℕ) → length l ≡ n → Each (λ i v. i < n) cs
    → slice_index l h ≡ f h → slice_index (replaced l cs) h ≡ puts f cs h
replaced-puts l n [] f h long within same = same
replaced-puts l n (c ∷ r) f h long within same =
    replaced-puts (slice_set l c.0 c.1) n r (put f c.0 c.1) h (length-set l c.0 c.1 ∙ long) within.1
    (elim (cases_eq h c.0) [
      | inl at ↦ rw at (get_or-set_same l c.0 c.1 0 (omega (arith, within.0, long)) ∙ sym (put_same f c.0 c.1))
      | inr differs ↦ get_or-set_other l c.0 h c.1 0 differs ∙ same ∙ sym (put_other f c.0 c.1 h differs)
    ])

pub patched-is : (l : List ℕ) (n : ℕ) (p : Patch ℕ) (f : ℕ → ℕ) (h : ℕ) → length l ≡ n → Each (λ i v. i < n) p.set
    → (h < n → slice_index l h ≡ f h) → slice_index (patched l p) h ≡ patched_at f n p h
patched-is l n p f h long within same =
    elim (cases_lt h n) [
      | inl below ↦
          get_or_append_left (replaced l p.set) p.more 0 h (omega (arith, below, long, length-replaced l p.set))
          ∙ replaced-puts l n p.set f h long within (same below) ∙ sym (patched_at-old f n p h below)
      | inr past ↦
          let is : n + (h - n) ≡ h = omega (arith, past) in
          let at : length (replaced l p.set) + (h - n) ≡ h = omega (arith, past, long, length-replaced l p.set) in
          ap (slice_index (patched l p)) (sym at) ∙ get_or-append-add (replaced l p.set) p.more (h - n) 0
          ∙ sym (patched_at-new f n p (h - n)) ∙ ap (patched_at f n p) is
    ]
