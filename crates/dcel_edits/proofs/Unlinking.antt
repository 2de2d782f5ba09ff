-- Lists of links that lead round a word lead round what is left of it, past an item.
use Rattle.std.proofs.Common.{◌≡◌, ◌<◌, ◌≤◌, ℕ, List, [], ◌∷◌, length, slice_index, slice_set, eq-eqb, refl, sym, ap, ◌∙◌, subst, arith}
use Rattle.std.proofs.lemmas.List.{get_or-set_other, get_or-set_same}
use Rattle.dcel_maps.specs.theory.Cycles.{IsCycle}
use Rattle.dcel_maps.specs.Words.{become, count_of, last_of}
use Rattle.dcel_maps.proofs.words.Becoming.{become-none}
use Rattle.dcel_maps.proofs.words.Counts.{count-same}
use Rattle.dcel_maps.proofs.words.Cuts.{become-turn}
use Rattle.dcel_maps.proofs.words.Paths.{Path-changed, last_of-leads}
use Rattle.dcel_maps.proofs.words.Turns.{IsCycle-turn, count-turn, turned_to-is, turns_back}

-- the links lead from p to q and back
pub record Linked (nexts prevs : List ℕ) (p q : ℕ) : Type 0 where
  pub next : slice_index nexts p ≡ q
  pub prev : slice_index prevs q ≡ p

module _ (nexts prevs : List ℕ) (x : ℕ) where
  abbrev pub nexts_past : List ℕ
  nexts_past = slice_set nexts (slice_index prevs x) (slice_index nexts x)

  abbrev pub prevs_past : List ℕ
  prevs_past = slice_set prevs (slice_index nexts x) (slice_index prevs x)

  abbrev R : ℕ → ℕ → Type 0
  R = Linked nexts prevs

  abbrev S : ℕ → ℕ → Type 0
  S = Linked nexts_past prevs_past

  past_first : (r : List ℕ) → IsCycle (Linked nexts prevs) (x ∷ r) → ((k : ℕ) → count_of k (x ∷ r) ≤ 1)
      → ((k : ℕ) → 0 < count_of k r → (k < length nexts) × (k < length prevs)) → IsCycle (Linked nexts_past prevs_past) r
  past_first [] cycle once within = tt
  past_first (y ∷ r) cycle once within =
      let last : R (last_of y r) x = last_of-leads R y r x cycle.1 in
      let back : slice_index nexts (slice_index prevs x) ≡ x = ap (slice_index nexts) last.prev ∙ last.next in
      Path-changed R S y r x y
      (λ p q p_in q_in link. record {
        next = get_or-set_other nexts (slice_index prevs x) p (slice_index nexts x) 0
            (λ is.
            let first : q ≡ x = sym link.next ∙ ap (slice_index nexts) is ∙ back in
            omega (arith, q_in, ap (λ z. count_of z r) first, once x, count-same x (y ∷ r)))
            ∙ link.next;
        prev = get_or-set_other prevs (slice_index nexts x) q (slice_index prevs x) 0
            (λ is.
            let second : q ≡ y = is ∙ cycle.0.next in
            omega (arith, q_in, ap (λ z. count_of z r) second, once y, count-same y r))
            ∙ link.prev;
      })
      (λ p p_in link. record {
        next = ap (slice_index nexts_past) (sym link.prev)
            ∙ get_or-set_same nexts (slice_index prevs x) (slice_index nexts x) 0 (omega (arith, link.prev, (within p p_in).0))
            ∙ cycle.0.next;
        prev = ap (slice_index prevs_past) (sym cycle.0.next)
            ∙ get_or-set_same prevs (slice_index nexts x) (slice_index prevs x) 0 (omega (arith, cycle.0.next, (within y (omega (arith, count-same y r))).1))
            ∙ link.prev;
      })
      cycle.1

  -- a word without the item x, where nothing stands twice
  pub cycle_past : (w : List ℕ) → IsCycle (Linked nexts prevs) w → ((k : ℕ) → count_of k w ≤ 1)
      → ((k : ℕ) → 0 < count_of k w → (k < length nexts) × (k < length prevs)) → 0 < count_of x w
      → IsCycle (Linked nexts_past prevs_past) (become x [] w)
  cycle_past w cycle once within found =
      let (r, is, turn) = turned_to-is x w found in
      let left : become x [] (x ∷ r) ≡ r =
      rw (eq-eqb x x refl) (become-none x [] r (omega (arith, once x, count-turn x turn, count-same x r))) in
      IsCycle-turn S (turns_back (become-turn x [] turn))
      (subst (IsCycle S) (sym left)
      (past_first r (IsCycle-turn R turn cycle) (λ k. omega (arith, once k, count-turn k turn))
      (λ k there. within k (omega (arith, there, count-turn k turn)))))
