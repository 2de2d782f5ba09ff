-- A walk round a cyclic list, from one of its items.
use Rattle.std.proofs.Common.{◌≡◌, ◌≢◌, ℕ, ◌<◌, ◌≤◌, List, [], ◌∷◌, ◌++◌, length, drop, refl, sym, ap, subst, ◌∙◌, arith, eq-eqb, append_assoc, append-nil}
use Rattle.std.proofs.lemmas.Bool.{ne_eqb}
use Rattle.dcel_maps.specs.Maps.{By}
use Rattle.dcel_maps.specs.theory.Cycles.{Path, IsCycle}
use Rattle.dcel_maps.specs.Words.{count_of, item_after, next_in_word}
use Rattle.dcel_maps.proofs.words.Counts.{count-same, count-other, count-append, count-later, absent_head, split_at}
use Rattle.dcel_maps.proofs.words.Paths.{Path-split}
use Rattle.dcel_maps.proofs.words.Turns.{TurnsTo, onward, before, count-turn, IsCycle-turn}

-- where an item is not among the first ones, the list is cut after them
cut_later : (x : ℕ) (l w : List ℕ) → count_of x l ≡ 0
    → (before x (l ++ w) ≡ l ++ before x w) × (onward x (l ++ w) ≡ onward x w)
cut_later x [] w none = (refl, refl)
cut_later x (y ∷ l) w none =
    let differs : x ≢ y = absent_head x y l none in
    let later = cut_later x l w (omega (arith, none)) in
    (rw (ne_eqb x y differs) (ap (λ z. y ∷ z) later.0), rw (ne_eqb x y differs) later.1)

cut_here : (x : ℕ) (l r : List ℕ) → count_of x l ≡ 0
    → (before x (l ++ x ∷ r) ≡ l) × (onward x (l ++ x ∷ r) ≡ x ∷ r)
cut_here x l r none =
    let later = cut_later x l (x ∷ r) none in
    (later.0 ∙ rw (eq-eqb x x refl) (append-nil l), later.1 ∙ rw (eq-eqb x x refl) refl)

-- the items after x round the cyclic list
abbrev pub others : ℕ → List ℕ → List ℕ
others x w = drop 1 (onward x w) ++ before x w

pub others-turn : (x : ℕ) (w : List ℕ) → 0 < count_of x w → count_of x w ≤ 1 → TurnsTo w (x ∷ others x w)
others-turn x w found single =
    let (l, r, parts) = split_at x w found in
    let none : count_of x l ≡ 0 =
    omega (arith, subst (λ z. count_of x z ≤ 1) parts single, count-append x l (x ∷ r), count-same x r) in
    let cut = cut_here x l r none in
    let is : others x (l ++ x ∷ r) ≡ r ++ l = rw (cut.0, cut.1) refl in
    record { front = l; back = x ∷ r; was = parts; is = ap (λ z. x ∷ z) (ap (others x) parts ∙ is) }

-- a list where each item is followed by the next one is a cycle
path_from_next : (R : ℕ → ℕ → Type 0) (x : ℕ) (r : List ℕ) (e : ℕ) → ((h : ℕ) → count_of h (x ∷ r) ≤ 1)
    → ((h : ℕ) → 0 < count_of h (x ∷ r) → R h (item_after h e (x ∷ r))) → Path R x r e
path_from_next R x [] e single follows = follows x (omega (arith, count-same x []))
path_from_next R x (y ∷ r) e single follows = (
  rw (eq-eqb x x refl) at (follows x (omega (arith, count-same x (y ∷ r)))),
  path_from_next R y r e (λ h. omega (arith, single h)) (λ h found.
      let differs : h ≢ x = λ same. omega (arith, single x, count-same x (y ∷ r), subst (λ z. 0 < count_of z (y ∷ r)) same found) in
      rw (ne_eqb h x differs) at (follows h (count-later h x (y ∷ r) found))),
)

pub cycle_from_next : (R : ℕ → ℕ → Type 0) (w : List ℕ) → ((h : ℕ) → count_of h w ≤ 1)
    → ((h : ℕ) → 0 < count_of h w → R h (next_in_word h w)) → IsCycle R w
cycle_from_next R [] single follows = tt
cycle_from_next R (x ∷ r) single follows = path_from_next R x r x single follows

-- `next` leads from x along the others back to x, and no item stands twice
pub record GoesRound (next : ℕ → ℕ) (x : ℕ) (others : List ℕ) : Type 0 where
  pub path : Path (By next) x others x
  pub single : (h : ℕ) → count_of h (x ∷ others) ≤ 1

-- a walk round a word from one of its items
pub goes_round : (next : ℕ → ℕ) (x : ℕ) (w : List ℕ) → IsCycle (By next) w → ((h : ℕ) → count_of h w ≤ 1)
    → 0 < count_of x w → GoesRound next x (others x w)
goes_round next x w cycle single found =
    let turn = others-turn x w found (single x) in
    record { path = IsCycle-turn (By next) turn cycle; single = λ h. omega (arith, single h, count-turn h turn) }

-- the first item of a list, or e where it has none
first_of : ℕ → List ℕ → ℕ
first_of e [] = e
first_of e (y ∷ r) = y

module _ {next : ℕ → ℕ} {x : ℕ} {others : List ℕ} (round : GoesRound next x others) where
  -- a step leads to the first of the items to come, or back
  step_to : (h : ℕ) (r : List ℕ) → Path (By next) h r x → next h ≡ first_of x r
  unfolding first_of
  step_to h [] path = path
  step_to h (y ∷ r) path = path.0

  -- it tells the items passed from those to come
  cut : (l r : List ℕ) → others ≡ l ++ r → (before (first_of x r) others ≡ l) × (onward (first_of x r) others ≡ r)
  unfolding first_of
  cut l [] parts =
      let apart : count_of x l ≡ 0 = omega (arith, round.single x, count-same x others, ap (count_of x) parts, count-append x l []) in
      let later = cut_later x l [] apart in
      (ap (before x) parts ∙ later.0 ∙ append-nil l, ap (onward x) parts ∙ later.1)
  cut l (y ∷ r) parts =
      let none : count_of y l ≡ 0 =
      omega (arith, round.single y, ap (count_of y) parts, count-append y l (y ∷ r), count-same y r) in
      let here = cut_here y l r none in
      (ap (before y) parts ∙ here.0, ap (onward y) parts ∙ here.1)

  -- what a step from one of the others does: it is passed
  record Steps (h : ℕ) : Type 0 where
    passed : before (next h) others ≡ before h others ++ h ∷ []
    to_come : onward h others ≡ h ∷ onward (next h) others

  steps : (h : ℕ) → 0 < count_of h (x ∷ others) → h ≢ x → Steps h
  unfolding first_of
  steps h found away =
      let (l, r, parts) = split_at h others (omega (arith, found, count-other h x others away)) in
      let path = Path-split (By next) x l h r x (subst (λ z. Path (By next) x z x) parts round.path) in
      let on = step_to h r path.1 in
      let at = cut l (h ∷ r) parts in
      let after = cut (l ++ h ∷ []) r (parts ∙ sym (append_assoc l (h ∷ []) r)) in
      record { passed = rw (on, at.0) after.0; to_come = rw (on, after.1) at.1 }

  -- the walk comes to the first of the others, or back at once
  pub round_begins : before (next x) others ≡ []
  round_begins = rw (step_to x others round.path) (cut [] others refl).0

  -- after a step from one of the others it is passed, and fewer are to come
  pub round_passes : (h : ℕ) → 0 < count_of h (x ∷ others) → h ≢ x → before (next h) others ≡ before h others ++ h ∷ []
  round_passes h found away = (steps h found away).passed

  pub round_shortens : (h : ℕ) → 0 < count_of h (x ∷ others) → h ≢ x
      → length (onward (next h) others) < length (onward h others)
  round_shortens h found away = omega (arith, ap length (steps h found away).to_come)

  -- when the walk is back, all others are passed
  pub round_ends : before x others ≡ others
  unfolding first_of
  round_ends = (cut others [] (sym (append-nil others))).0
