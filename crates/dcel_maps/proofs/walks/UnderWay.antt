-- What a walk under way lists, and what is left of it after one step.
use Rattle.std.proofs.Common.{◌≡◌, ℕ, zero, suc, ◌*◌, ◌==◌, ◌^◌, ◌<◌, ◌≤◌, List, [], ◌∷◌, length, cond, refl, sym, ap, ◌∙◌, subst, arith, eq-eqb}
use Rattle.std.proofs.lemmas.Bool.{false≢true, ne_eqb}
use Rattle.std.proofs.lemmas.List.{length-map}
use Rattle.dcel_maps.specs.Shapes.{Shape, IsLive, edge_is_live}
use Rattle.dcel_maps.specs.Walking.{IsLawful, IsRoundTrip, IsUnderWay, IsWalking, StepsTo, in_mesh, live_half_edges, to_come, walk_of}
use Rattle.dcel_maps.specs.theory.Cycles.{Path}
use Rattle.dcel_maps.specs.Walks.{up_to}
use Rattle.dcel_maps.specs.Words.{count_of}
use Rattle.dcel_maps.proofs.walks.Lengths.{count-le}
use Rattle.dcel_maps.proofs.walks.Returning.{items_live, length-live, starts, steps_of}
use Rattle.dcel_maps.proofs.words.Counts.{absent_head, count-same}
use Rattle.dcel_maps.proofs.words.Walking.{up_to-is}

-- steps that agree on live half edges, and stay there, walk the same way
pub up_to-agrees : (s : Shape) (step other : ℕ → ℕ) → ((h : ℕ) → IsLive s h → other h ≡ step h) → ((h : ℕ) → IsLive s h → IsLive s (step h))
    → (fuel h last : ℕ) → IsLive s h → up_to other fuel h last ≡ up_to step fuel h last
unfolding up_to
up_to-agrees s step other agree stays zero h last live = refl
up_to-agrees s step other agree stays (suc fuel) h last live =
    rw (agree h live)
    (ap (λ w. h ∷ cond (step h == last) [] w) (up_to-agrees s step other agree stays fuel (step h) last (stays h live)))

module _ (s : Shape) (step step_back : ℕ → ℕ) where
  -- what is listed: the current half edge and the rest
  pub listed : (current last : ℕ) (u : IsUnderWay s step step_back current last) → up_to step (2 * s.edges) current last ≡ current ∷ u.rest
  listed current last u =
      up_to-is step (2 * s.edges) current last u.rest (steps_of s step step_back current u.rest last u.path) u.apart u.few

  -- after one step the rest is to come
  AfterStep : ℕ → ℕ → List ℕ → Type 0
  AfterStep last after rest = IsWalking s step step_back (after == last) after last × (rest ≡ to_come s step (after == last) after last)

  after_step : (current last : ℕ) (rest : List ℕ) → Path (StepsTo s step step_back) current rest last → ((k : ℕ) → count_of k (current ∷ rest) ≤ 1)
      → count_of last rest ≡ 0 → IsLive s last → length rest < 2 * s.edges → AfterStep last (step current) rest
  unfolding AfterStep
  after_step current last [] path once apart live_last few =
      rw (path.forth, eq-eqb last last refl) (λ goes_on. absurd (false≢true (sym goes_on)), refl)
  after_step current last (y ∷ r) path once apart live_last few =
      let on : IsUnderWay s step step_back y last =
      record {
        rest = r;
        path = path.1;
        once = λ k. omega (arith, once k);
        apart = omega (arith, apart);
        live_last = live_last;
        few = omega arith;
      } in
      rw (path.0.forth, ne_eqb y last (λ same. absent_head last y r apart (sym same))) (λ goes_on. on, sym (listed y last on))

module _ {s : Shape} {step step_back : ℕ → ℕ} {current last : ℕ} (u : IsUnderWay s step step_back current last) where
  -- the current half edge is live
  pub current-live : IsLive s current
  current-live = items_live s step step_back current u.rest last u.path current (omega (arith, count-same current u.rest))

  module _ (after : ℕ) (stepped : after ≡ step current) where
    afterwards : AfterStep s step step_back last after u.rest
    afterwards =
        subst (λ a. AfterStep s step step_back last a u.rest) (sym stepped)
        (after_step s step step_back current last u.rest u.path u.once u.apart u.live_last u.few)

    pub goes_on : IsWalking s step step_back (after == last) after last
    unfolding AfterStep
    goes_on = afterwards.0

    pub gives_current : up_to step (2 * s.edges) current last ≡ current ∷ to_come s step (after == last) after last
    unfolding AfterStep
    gives_current = listed s step step_back current last u ∙ ap (λ r. current ∷ r) afterwards.1

module _ {s : Shape} {step step_back : ℕ → ℕ} (law : IsLawful s step step_back) (h : ℕ) (live : IsLive s h) where
  start : IsUnderWay s step step_back h h
  start = starts s step step_back law h live

  walk-listed : walk_of s step h ≡ h ∷ start.rest
  walk-listed = listed s step step_back h h start

  -- a walk leads round, from h to its first return
  pub walk-round : IsRoundTrip step h (walk_of s step h)
  walk-round = record {
    rest = start.rest;
    from = walk-listed;
    round = steps_of s step step_back h start.rest h start.path;
    once = λ k. rw walk-listed (start.once k);
  }

  -- through live half edges
  pub walk-live : (k : ℕ) → 0 < count_of k (walk_of s step h) → IsLive s k
  walk-live k found = items_live s step step_back h start.rest h start.path k (rw walk-listed at found)

  -- and it is no longer than there are of them
  walk-short : length (walk_of s step h) ≤ live_half_edges s
  walk-short = length-live s (walk_of s step h) (λ k. rw walk-listed (start.once k)) walk-live

  module _ {M : Type 0} (m : M) where
    pub items-short : length (in_mesh m (walk_of s step h)) ≤ live_half_edges s
    items-short = rw (length-map {B = M × ℕ} (walk_of s step h) (λ k. (m, k))) walk-short

    pub items-few : s.edges ≤ 2 ^ 31 → length (in_mesh m (walk_of s step h)) ≤ 2 ^ 32
    items-few few_edges = omega (arith, items-short, count-le (edge_is_live s) s.edges)
