-- In a word where no item stands twice, the item after and the item before are those beside it.
use Rattle.std.proofs.Common.{◌≡◌, ◌≢◌, ℕ, ◌≤◌, List, [], ◌∷◌, ◌++◌, refl, sym, ap, ◌∙◌, arith, eq-eqb, append_assoc}
use Rattle.std.proofs.lemmas.Bool.{ne_eqb}
use Rattle.dcel_maps.specs.theory.Cycles.{Path, IsCycle}
use Rattle.dcel_maps.specs.Words.{count_of, item_after, item_before, last_of, next_in_word, prev_in_word}
use Rattle.dcel_maps.proofs.words.Counts.{absent_head, count-append, count-same}

-- the item after h is read from where h stands
item_after-skip : (h e x : ℕ) (w : List ℕ) → h ≢ x → item_after h e (x ∷ w) ≡ item_after h e w
item_after-skip h e x [] differs = refl
item_after-skip h e x (y ∷ r) differs = rw (ne_eqb h x differs) refl

item_after-past : (h e : ℕ) (l w : List ℕ) → count_of h l ≡ 0 → item_after h e (l ++ w) ≡ item_after h e w
item_after-past h e [] w none = refl
item_after-past h e (x ∷ l) w none =
    item_after-skip h e x (l ++ w) (absent_head h x l none) ∙ item_after-past h e l w (omega (arith, none))

-- and so is the item before it
item_before-past : (h last : ℕ) (l : List ℕ) (x : ℕ) (w : List ℕ) → count_of h (l ++ x ∷ []) ≡ 0
    → item_before h last (l ++ x ∷ w) ≡ item_before h x w
item_before-past h last [] x w none = rw (ne_eqb h x (absent_head h x [] none)) refl
item_before-past h last (y ∷ l) x w none =
    rw (ne_eqb h y (absent_head h y (l ++ x ∷ []) none)) (item_before-past h y l x w (omega (arith, none)))

-- b comes after a, and a before b
pub record Adjacent (w : List ℕ) (a b : ℕ) : Type 0 where
  pub after : next_in_word a w ≡ b
  pub before : prev_in_word b w ≡ a

module _ (f : ℕ) (t : List ℕ) (single : (k : ℕ) → count_of k (f ∷ t) ≤ 1) where
  -- round the word from an item x, which stands between l and r
  round_from : (l : List ℕ) (x : ℕ) (r : List ℕ) → f ∷ t ≡ l ++ x ∷ r → last_of f t ≡ last_of x r
      → Path (Adjacent (f ∷ t)) x r f
  round_from l x [] whole end =
      let counted : count_of x (f ∷ t) ≡ count_of x (l ++ x ∷ []) = ap (count_of x) whole in
      let none : count_of x l ≡ 0 = omega (arith, counted, single x, count-append x l (x ∷ []), count-same x []) in
      record {
        after = ap (item_after x f) whole ∙ item_after-past x f l (x ∷ []) none;
        before = rw (eq-eqb f f refl) end;
      }
  round_from l x (y ∷ r) whole end =
      let at_x : count_of x (f ∷ t) ≡ count_of x (l ++ x ∷ y ∷ r) = ap (count_of x) whole in
      let none_x : count_of x l ≡ 0 = omega (arith, at_x, single x, count-append x l (x ∷ y ∷ r), count-same x (y ∷ r)) in
      let parted : (l ++ x ∷ []) ++ y ∷ r ≡ l ++ x ∷ y ∷ r = append_assoc l (x ∷ []) (y ∷ r) in
      let at_y : count_of y (f ∷ t) ≡ count_of y ((l ++ x ∷ []) ++ y ∷ r) = ap (count_of y) (whole ∙ sym parted) in
      let none_y : count_of y (l ++ x ∷ []) ≡ 0 =
      omega (arith, at_y, single y, count-append y (l ++ x ∷ []) (y ∷ r), count-same y r) in (
        record {
          after = ap (item_after x f) whole ∙ item_after-past x f l (x ∷ y ∷ r) none_x ∙ rw (eq-eqb x x refl) refl;
          before = ap (item_before y (last_of f t)) whole
              ∙ item_before-past y (last_of f t) l x (y ∷ r) none_y ∙ rw (eq-eqb y y refl) refl;
        },
        round_from (l ++ x ∷ []) y r (whole ∙ sym parted) end,
      )

-- each item of a word stands between its neighbours
pub round_of : (w : List ℕ) → ((k : ℕ) → count_of k w ≤ 1) → IsCycle (Adjacent w) w
round_of [] single = tt
round_of (f ∷ t) single = round_from f t single [] f t refl refl
