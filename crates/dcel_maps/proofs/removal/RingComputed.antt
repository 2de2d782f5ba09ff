-- The test of a region ring as a computation: examples are told by it.
use Rattle.std.proofs.Common.{◌≡◌, ◌↔◌, inl, inr, ◌*◌, ◌/◌, ◌<◌, ◌≤◌, ◌==◌, ◌&&◌, ◌||◌, ℕ, suc, Bool, true, false, not, nat_lt, List, [], ◌∷◌, length, reverse, refl, ap, ◌∙◌, arith, eqb-true, eq-eqb, lt-ltb, ltb-true}
use Rattle.std.proofs.lemmas.Bool.{and_from, and_parts, both_ways, cases_eq, false≢true, ne_eqb, not-true, not_from_false, or_cases, or_left, or_right}
use Rattle.dcel_fixed.specs.HalfEdges.{rev}
use Rattle.dcel_maps.specs.Borders.{StartsAlone}
use Rattle.dcel_maps.specs.Regions.{IsRegionRing}
use Rattle.dcel_maps.specs.Shapes.{IsSound, Shape, edge_is_live, face_is_live, face_of, next_of, origin_of}
use Rattle.dcel_maps.specs.theory.Cycles.{IsCycle, Path}
use Rattle.dcel_maps.specs.theory.RingTests.{BeginsOn, PassesTest, StepsTo, rim_step, stands}
use Rattle.dcel_maps.specs.Words.{count_of, word_of}
use Rattle.dcel_maps.proofs.removal.Passing.{false-stands, stands-false, stands-true, true-stands}
use Rattle.dcel_maps.proofs.removal.RingTests.{test_iff-ring}
use Rattle.dcel_maps.proofs.words.Counts.{count-later, count-other, count-same, first_or_later}

-- the test computed
abbrev each_once : List ℕ → Bool
each_once [] = true
each_once (x ∷ r) = not (stands x r) && each_once r

abbrev all_of : (ℕ → Bool) → List ℕ → Bool
all_of p [] = true
all_of p (x ∷ r) = p x && all_of p r

abbrev edge_fits : Shape → List ℕ → ℕ → Bool
edge_fits s faces u = edge_is_live s u && (stands (face_of s (2 * u)) faces && (stands (face_of s (rev (2 * u))) faces
    && not (face_of s (2 * u) == face_of s (rev (2 * u)))))

abbrev begins_on : Shape → List ℕ → List ℕ → Bool
begins_on s faces [] = false
begins_on s faces (p ∷ rest) = edge_is_live s (p / 2) && stands (face_of s p) faces

abbrev steps_to : (ℕ → ℕ) → List ℕ → ℕ → ℕ → Bool
steps_to next edges h k = (rim_step next edges h == k) && not (stands (k / 2) edges)

abbrev goes_along : (ℕ → ℕ) → List ℕ → ℕ → List ℕ → ℕ → Bool
goes_along next edges x [] e = steps_to next edges x e
goes_along next edges x (y ∷ r) e = steps_to next edges x y && goes_along next edges y r e

abbrev goes_round : (ℕ → ℕ) → List ℕ → List ℕ → Bool
goes_round next edges [] = true
goes_round next edges (x ∷ r) = goes_along next edges x r x

abbrev starts_alone : Shape → List ℕ → Bool
starts_alone s [] = true
starts_alone s (x ∷ r) = all_of (λ y. not (origin_of s y == origin_of s x)) r

abbrev pub is_region_ring : Shape → List ℕ → List ℕ → List ℕ → Bool
is_region_ring s border edges faces =
    let ring = reverse border in
    nat_lt 2 (length border) && ((length faces == suc (length edges)) && (each_once edges && (each_once faces
    && (all_of (λ f. nat_lt 0 f && face_is_live s f) faces && (all_of (edge_fits s faces) edges
    && (begins_on s faces ring && (goes_round (next_of s) edges ring && (starts_alone s ring
    && all_of (λ f. all_of (λ h. stands (h / 2) edges || stands h ring) (word_of s.words f)) faces))))))))

-- what is computed, and the conditions
all-each : (p : ℕ → Bool) (w : List ℕ) → all_of p w ≡ true → (x : ℕ) → 0 < count_of x w → p x ≡ true
all-each p [] all x found = absurd (omega (arith, found))
all-each p (y ∷ w) all x found =
    let both = and_parts (p y) (all_of p w) all in
    elim (first_or_later x y w found) [ inl same ↦ ap p same ∙ both.0 | inr later ↦ all-each p w both.1 x later ]

each-all : (p : ℕ → Bool) (w : List ℕ) → ((x : ℕ) → 0 < count_of x w → p x ≡ true) → all_of p w ≡ true
each-all p [] each = refl
each-all p (y ∷ w) each = and_from (p y) (all_of p w) (each y (omega (arith, count-same y w))) (each-all p w (λ x found. each x (count-later x y w found)))

once-each : (w : List ℕ) → each_once w ≡ true → (x : ℕ) → count_of x w ≤ 1
once-each [] once x = omega arith
once-each (y ∷ w) once x =
    let both = and_parts (not (stands y w)) (each_once w) once in
    let none = stands-false y w (not-true (stands y w) both.0) in
    elim (cases_eq x y) [
      | inl same ↦ let here = ap (λ v. count_of v (y ∷ w)) same in omega (arith, here, count-same y w, none)
      | inr other ↦ omega (arith, count-other x y w other, once-each w both.1 x)
    ]

each-once : (w : List ℕ) → ((x : ℕ) → count_of x w ≤ 1) → each_once w ≡ true
each-once [] once = refl
each-once (y ∷ w) once =
    and_from (not (stands y w)) (each_once w) (not_from_false (stands y w) (false-stands y w (omega (arith, once y, count-same y w))))
    (each-once w (λ x. omega (arith, once x)))

along-path : (next : ℕ → ℕ) (edges : List ℕ) (x : ℕ) (r : List ℕ) (e : ℕ) → goes_along next edges x r e ≡ true → Path (StepsTo next edges) x r e
along-path next edges x [] e is =
    let both = and_parts _ _ is in (eqb-true _ _ both.0, not-true _ both.1)
along-path next edges x (y ∷ r) e is =
    let both = and_parts (steps_to next edges x y) (goes_along next edges y r e) is in
    let step = and_parts _ _ both.0 in
    ((eqb-true _ _ step.0, not-true _ step.1), along-path next edges y r e both.1)

path-along : (next : ℕ → ℕ) (edges : List ℕ) (x : ℕ) (r : List ℕ) (e : ℕ) → Path (StepsTo next edges) x r e → goes_along next edges x r e ≡ true
path-along next edges x [] e path = and_from _ _ (eq-eqb _ _ path.0) (not_from_false _ path.1)
path-along next edges x (y ∷ r) e path =
    and_from (steps_to next edges x y) (goes_along next edges y r e) (and_from _ _ (eq-eqb _ _ path.0.0) (not_from_false _ path.0.1)) (path-along next edges y r e path.1)

round-cycle : (next : ℕ → ℕ) (edges w : List ℕ) → goes_round next edges w ≡ true → IsCycle (StepsTo next edges) w
round-cycle next edges [] is = tt
round-cycle next edges (x ∷ r) is = along-path next edges x r x is

cycle-round : (next : ℕ → ℕ) (edges w : List ℕ) → IsCycle (StepsTo next edges) w → goes_round next edges w ≡ true
cycle-round next edges [] cycle = refl
cycle-round next edges (x ∷ r) cycle = path-along next edges x r x cycle

alone-starts : (s : Shape) (w : List ℕ) → starts_alone s w ≡ true → StartsAlone s w
alone-starts s [] is = tt
alone-starts s (x ∷ r) is = λ y found same.
    both_ways (origin_of s y == origin_of s x) (not-true _ (all-each (λ y. not (origin_of s y == origin_of s x)) r is y found)) (eq-eqb _ _ same)

starts-alone : (s : Shape) (w : List ℕ) → StartsAlone s w → starts_alone s w ≡ true
starts-alone s [] alone = refl
starts-alone s (x ∷ r) alone = each-all (λ y. not (origin_of s y == origin_of s x)) r (λ y found. not_from_false _ (ne_eqb _ _ (alone y found)))

begins-fits : (s : Shape) (faces w : List ℕ) → begins_on s faces w ≡ true → BeginsOn s faces w
begins-fits s faces [] is = absurd (false≢true is)
begins-fits s faces (p ∷ rest) is = and_parts _ _ is

fits-begins : (s : Shape) (faces w : List ℕ) → BeginsOn s faces w → begins_on s faces w ≡ true
fits-begins s faces [] begins = absurd begins
fits-begins s faces (p ∷ rest) begins = and_from _ _ begins.0 begins.1

module _ (s : Shape) (border edges faces : List ℕ) where
  abbrev ring : List ℕ
  ring = reverse border

  pub passes-test : is_region_ring s border edges faces ≡ true → PassesTest s border edges faces
  passes-test is =
      let a = and_parts _ _ is in
      let b = and_parts _ _ a.1 in
      let c = and_parts _ _ b.1 in
      let d = and_parts _ _ c.1 in
      let e = and_parts _ _ d.1 in
      let f = and_parts _ _ e.1 in
      let g = and_parts _ _ f.1 in
      let h = and_parts _ _ g.1 in
      let i = and_parts _ _ h.1 in
      record {
        many = let long = ltb-true 2 (length border) a.0 in omega (arith, long);
        fewer = eqb-true (length faces) (suc (length edges)) b.0;
        edges_once = once-each edges c.0;
        faces_once = once-each faces d.0;
        faces_fit = λ x found.
            let fits = and_parts (nat_lt 0 x) (face_is_live s x) (all-each (λ f. nat_lt 0 f && face_is_live s f) faces e.0 x found) in
            (ltb-true 0 x fits.0, fits.1);
        edges_fit = λ u found.
            let fits = and_parts _ _ (all-each (edge_fits s faces) edges f.0 u found) in
            let more = and_parts _ _ fits.1 in
            let last = and_parts _ _ more.1 in
            (fits.0, more.0, last.0, λ same. both_ways (face_of s (2 * u) == face_of s (rev (2 * u))) (not-true _ last.1) (eq-eqb _ _ same));
        begins = begins-fits s faces ring g.0;
        round = round-cycle (next_of s) edges ring h.0;
        alone = alone-starts s ring i.0;
        covers = λ x found k there.
            let all = all-each (λ f. all_of (λ h. stands (h / 2) edges || stands h ring) (word_of s.words f)) faces i.1 x found in
            let one = all-each (λ h. stands (h / 2) edges || stands h ring) (word_of s.words x) all k there in
            elim (or_cases (stands (k / 2) edges) (stands k ring) one) [
              | inl listed ↦ inl (stands-true (k / 2) edges listed)
              | inr here ↦ inr (stands-true k ring here)
            ];
      }

  pub test-passes : PassesTest s border edges faces → is_region_ring s border edges faces ≡ true
  test-passes t =
      let many = t.many in
      and_from _ _ (lt-ltb 2 (length border) (omega (arith, many)))
      (and_from _ _ (eq-eqb (length faces) (suc (length edges)) t.fewer)
      (and_from _ _ (each-once edges t.edges_once)
      (and_from _ _ (each-once faces t.faces_once)
      (and_from _ _ (each-all (λ f. nat_lt 0 f && face_is_live s f) faces (λ x found.
      let fits = t.faces_fit x found in and_from (nat_lt 0 x) (face_is_live s x) (lt-ltb 0 x fits.0) fits.1))
      (and_from _ _ (each-all (edge_fits s faces) edges (λ u found.
      let fits = t.edges_fit u found in
      and_from _ _ fits.0 (and_from _ _ fits.1 (and_from _ _ fits.2 (not_from_false _ (ne_eqb _ _ fits.3))))))
      (and_from _ _ (fits-begins s faces ring t.begins)
      (and_from _ _ (cycle-round (next_of s) edges ring t.round)
      (and_from _ _ (starts-alone s ring t.alone)
      (each-all (λ f. all_of (λ h. stands (h / 2) edges || stands h ring) (word_of s.words f)) faces (λ x found.
      each-all (λ h. stands (h / 2) edges || stands h ring) (word_of s.words x) (λ k there. elim (t.covers x found k there) [
        | inl listed ↦ or_left _ _ (true-stands (k / 2) edges listed)
        | inr here ↦ or_right _ _ (true-stands k ring here)
      ])))))))))))

-- exactly the ring of a region passes
pub exact : (s : Shape) → IsSound s → (border edges faces : List ℕ) → (is_region_ring s border edges faces ≡ true) ↔ IsRegionRing s border edges faces
exact s sound border edges faces = (
  λ is. (test_iff-ring s sound border edges faces).0 (passes-test s border edges faces is),
  λ ring. test-passes s border edges faces ((test_iff-ring s sound border edges faces).1 ring),
)
