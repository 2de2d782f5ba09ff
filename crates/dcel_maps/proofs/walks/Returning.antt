-- A lawful step returns to each live half edge: the walk from there, and what is true of it on the way.
use Rattle.std.proofs.Common.{◌≡◌, ◌≢◌, ◌⊎◌, inl, inr, ℕ, zero, suc, ◌+◌, ◌*◌, ◌/◌, ◌<◌, ◌≤◌, List, [], ◌∷◌, length, refl, sym, ◌∙◌, subst, arith}
use Rattle.std.proofs.lemmas.Bool.{both_ways, cases_eq, cases_lt}
use Rattle.dcel_maps.specs.Maps.{By}
use Rattle.dcel_maps.specs.Shapes.{Shape, IsLive, edge_is_live}
use Rattle.dcel_maps.specs.Walking.{IsLawful, IsUnderWay, StepsTo, live_half_edges}
use Rattle.dcel_maps.specs.theory.Cycles.{Path}
use Rattle.dcel_maps.specs.Words.{count_of}
use Rattle.dcel_maps.proofs.walks.Lengths.{count-le, length-le_twice}
use Rattle.dcel_maps.proofs.walks.Links.{half-below}
use Rattle.dcel_maps.proofs.words.Counts.{count-le_length, count-other, count-same}
use Rattle.dcel_maps.proofs.words.Paths.{Path-changed, path_next}

-- what a step makes of an item is a later item, or the end
pub step_along : (step : ℕ → ℕ) (x : ℕ) (r : List ℕ) (e : ℕ) → Path (By step) x r e → (y : ℕ) → 0 < count_of y (x ∷ r)
    → (step y ≡ e) ⊎ (0 < count_of (step y) r)
step_along step x r e path y found =
    let k = path_next (By step) x r e path y found in
    subst (λ z. (z ≡ e) ⊎ (0 < count_of z r)) (sym k.1) k.2

-- what is live, and not twice in a list, is no more than there are live half edges
pub length-live : (s : Shape) (w : List ℕ) → ((h : ℕ) → count_of h w ≤ 1) → ((h : ℕ) → 0 < count_of h w → IsLive s h)
    → length w ≤ live_half_edges s
length-live s w single live =
    length-le_twice (edge_is_live s) s.edges w single
    (λ h found. half-below s h (live h found))
    (λ h dead. elim (cases_lt 0 (count_of h w)) [
      | inl found ↦ absurd (both_ways (edge_is_live s (h / 2)) dead (live h found))
      | inr none ↦ omega arith
    ])

module _ (s : Shape) (step step_back : ℕ → ℕ) where
  -- the steps alone
  pub steps_of : (x : ℕ) (r : List ℕ) (e : ℕ) → Path (StepsTo s step step_back) x r e → Path (By step) x r e
  steps_of x r e path =
      Path-changed (StepsTo s step step_back) (By step) x r e e (λ p q from to along. along.forth) (λ p from along. along.forth) path

  -- each item on the way is live
  pub items_live : (x : ℕ) (r : List ℕ) (e : ℕ) → Path (StepsTo s step step_back) x r e → (h : ℕ) → 0 < count_of h (x ∷ r) → IsLive s h
  items_live x r e path h found = (path_next (StepsTo s step step_back) x r e path h found).1.live

  -- a way of live half edges, none of them twice, is no longer than there are half edges
  few_on_the_way : (x : ℕ) (r : List ℕ) (e : ℕ) → Path (StepsTo s step step_back) x r e → ((h : ℕ) → count_of h (x ∷ r) ≤ 1) → length r < 2 * s.edges
  few_on_the_way x r e path single =
      omega (arith, length-live s (x ∷ r) single (items_live x r e path), count-le (edge_is_live s) s.edges)

  module _ (law : IsLawful s step step_back) (h : ℕ) where
    -- from x to h, and nothing twice
    record LeadsTo (x : ℕ) (r : List ℕ) : Type 0 where
      live : IsLive s x
      path : Path (StepsTo s step step_back) x r h
      once : (k : ℕ) → count_of k (x ∷ r) ≤ 1

    -- one half edge further back stands another one, while it isn't h
    another : (x : ℕ) (r : List ℕ) → x ≢ h → LeadsTo x r → count_of (step_back x) (x ∷ r) ≡ 0
    another x r differs leads = elim (cases_lt 0 (count_of (step_back x) (x ∷ r))) [
      | inl found ↦ elim (step_along step x r h (steps_of x r h leads.path) (step_back x) found) [
        | inl end ↦ absurd (differs (sym (law.step-back x leads.live) ∙ end))
        | inr later ↦
            let again : 0 < count_of x r = rw (law.step-back x leads.live) at later in
            absurd (omega (arith, again, leads.once x, count-same x r))
      ]
      | inr none ↦ omega arith
    ]

    from_before : (x : ℕ) (r : List ℕ) → x ≢ h → LeadsTo x r → LeadsTo (step_back x) (x ∷ r)
    from_before x r differs leads = record {
      live = law.stays_back x leads.live;
      path = (record { live = law.stays_back x leads.live; forth = law.step-back x leads.live; back = refl }, leads.path);
      once = λ k. elim (cases_eq k (step_back x)) [
        | inl same ↦
            subst (λ z. count_of z (step_back x ∷ x ∷ r) ≤ 1) (sym same)
            (omega (arith, another x r differs leads, count-same (step_back x) (x ∷ r)))
        | inr other ↦ omega (arith, leads.once k, count-other k (step_back x) (x ∷ r) other)
      ];
    }

    -- far enough back comes h itself
    from_itself : (fuel x : ℕ) (r : List ℕ) → LeadsTo x r → 2 * s.edges ≤ length r + fuel → (rest : List ℕ) × LeadsTo h rest
    from_itself zero x r leads enough = absurd (omega (arith, enough, few_on_the_way x r h leads.path leads.once))
    from_itself (suc fuel) x r leads enough = elim (cases_eq x h) [
      | inl same ↦ (r, subst (λ y. LeadsTo y r) same leads)
      | inr differs ↦ from_itself fuel (step_back x) (x ∷ r) (from_before x r differs leads) (omega arith)
    ]

    leads_round : IsLive s h → (rest : List ℕ) × LeadsTo h rest
    leads_round live = from_itself (2 * s.edges) (step_back h) [] (record {
      live = law.stays_back h live;
      path = record { live = law.stays_back h live; forth = law.step-back h live; back = refl };
      once = λ k. count-le_length k (step_back h ∷ []);
    }) (omega arith)

    -- the start of a walk
    pub starts : IsLive s h → IsUnderWay s step step_back h h
    starts live =
        let leads = leads_round live in
        record {
          rest = leads.0;
          path = leads.1.path;
          once = leads.1.once;
          apart = omega (arith, leads.1.once h, count-same h leads.0);
          live_last = live;
          few = few_on_the_way h leads.0 h leads.1.path leads.1.once;
        }
