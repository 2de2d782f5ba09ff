-- What a walk under way gives from its back, and what is left of it after one step there.
use Rattle.std.proofs.Common.{◌≡◌, ℕ, ◌*◌, ◌==◌, ◌<◌, ◌≤◌, List, [], ◌∷◌, ◌++◌, length, refl, sym, ap, ◌∙◌, subst, arith, eq-eqb}
use Rattle.std.proofs.lemmas.Bool.{false≢true, ne_eqb}
use Rattle.std.proofs.lemmas.List.{map-append}
use Rattle.dcel_maps.specs.Shapes.{Shape}
use Rattle.dcel_maps.specs.Walking.{IsUnderWay, IsWalking, StepsTo, in_mesh, to_come}
use Rattle.dcel_maps.specs.theory.Cycles.{Path}
use Rattle.dcel_maps.specs.Walks.{up_to}
use Rattle.dcel_maps.specs.Words.{count_of, last_of}
use Rattle.dcel_maps.proofs.walks.UnderWay.{listed}
use Rattle.dcel_maps.proofs.words.Paths.{last_of-leads, path_up_to_last}

module _ (s : Shape) (step step_back : ℕ → ℕ) where
  -- a list is what comes up to `before`, and then `before` itself
  BeforeStep : ℕ → ℕ → List ℕ → Type 0
  BeforeStep current before whole = IsWalking s step step_back (current == before) current before
      × (whole ≡ to_come s step (current == before) current before ++ before ∷ [])

  before_step : (current last : ℕ) (rest : List ℕ) → Path (StepsTo s step step_back) current rest last → ((k : ℕ) → count_of k (current ∷ rest) ≤ 1)
      → length rest < 2 * s.edges → BeforeStep current (last_of current rest) (current ∷ rest)
  unfolding BeforeStep
  before_step current last [] path once few =
      rw (eq-eqb current current refl) (λ goes_on. absurd (false≢true (sym goes_on)), refl)
  before_step current last (y ∷ r) path once few =
      let z = last_of y r in
      let less = path_up_to_last (StepsTo s step step_back) current y r last path once in
      let on : IsUnderWay s step step_back current z =
      record {
        rest = less.others;
        path = less.path;
        once = less.once;
        apart = less.apart;
        live_last = less.step.live;
        few = omega (arith, few, less.longer);
      } in
      rw (ne_eqb current z less.differs)
      (λ goes_on. on, ap (λ w. current ∷ w) less.parted ∙ ap (λ w. w ++ z ∷ []) (sym (listed s step step_back current z on)))

module _ {s : Shape} {step step_back : ℕ → ℕ} {current last : ℕ} (u : IsUnderWay s step step_back current last)
    (before : ℕ) (stepped : before ≡ step_back last) where
  afterwards : BeforeStep s step step_back current before (current ∷ u.rest)
  afterwards =
      let last_step = last_of-leads (StepsTo s step step_back) current u.rest last u.path in
      subst (λ b. BeforeStep s step step_back current b (current ∷ u.rest)) (sym (stepped ∙ last_step.back))
      (before_step s step step_back current last u.rest u.path u.once u.few)

  pub goes_on_back : IsWalking s step step_back (current == before) current before
  unfolding BeforeStep
  goes_on_back = afterwards.0

  gives_last : up_to step (2 * s.edges) current last ≡ to_come s step (current == before) current before ++ before ∷ []
  unfolding BeforeStep
  gives_last = listed s step step_back current last u ∙ afterwards.1

  -- the item that comes, behind those that are left
  pub items_back : {M : Type 0} (m : M) → in_mesh m (up_to step (2 * s.edges) current last)
      ≡ in_mesh m (to_come s step (current == before) current before) ++ (m, before) ∷ []
  items_back {M} m = ap (in_mesh m) gives_last
      ∙ map-append {B = M × ℕ} (λ n. (m, n)) (to_come s step (current == before) current before) (before ∷ [])
