-- One more side is numbered.
use Rattle.std.proofs.Common.{◌≡◌, ◌≢◌, ◌⊎◌, inl, inr, ℕ, ◌+◌, ◌*◌, ◌^◌, ◌%◌, ◌<◌, ◌≤◌, true, false, List, [], ◌∷◌, ◌++◌, length, slice_index, slice_index_or, slice_set, Option, Some, None, refl, sym, ap, ◌∙◌, subst, arith}
use Rattle.std.proofs.lemmas.Bool.{cases_eq, cases_lt, false≢true}
use Rattle.std.proofs.lemmas.List.{get_or-append-add, get_or-set_other, get_or-set_same, get_or_append_left, get_or_at, get_or_past, length-append, length-set, length_push}
use Rattle.dcel_fixed.proofs.Halves.{rev-even, rev-rev, rev_within}
use Rattle.dcel_fixed.specs.HalfEdges.{rev}
use Rattle.dcel_maps.specs.Maps.{count}
use Rattle.dcel_exchange.specs.Corners.{LeadsBack, is_first}
use Rattle.dcel_exchange.specs.Chains.{IsFound, Leads}
use Rattle.dcel_exchange.specs.Numbering.{AreDistinct, AreNumbered, side_of_found}
use Rattle.dcel_exchange.proofs.FirstSides.{count_few, count_first, count_second, each_below, first_from, not_none, one_of, second_from}

-- leading back is mutual
pub back_again : (from to : List ℕ) (p q : ℕ) → LeadsBack from to p q → LeadsBack from to q p
back_again from to p q back = (sym back.1, sym back.0)

module _ (from to : List ℕ) (i : ℕ) (half : List ℕ) (side : List (Option ℕ)) (origin : List ℕ) (u : AreNumbered from to i half side origin) where
  same_number : (p q : ℕ) → p < i → q < i → slice_index half p ≡ slice_index half q → p ≡ q
  same_number p q lp lq same = one_of p q (sym (u.placed p lp) ∙ ap (λ h. slice_index_or side h None) same ∙ u.placed q lq)

  even : length origin % 2 ≡ 0
  even = let e = u.edges in omega arith

  rev_in_range : (p : ℕ) → p < i → rev (slice_index half p) < length origin
  rev_in_range p below = rev_within (slice_index half p) (length origin) even (u.in_range p below)

  -- a side that none of those before leads back from
  module _ (apart : slice_index from i ≢ slice_index to i) (none : (q : ℕ) → q < i → ¬ LeadsBack from to i q) where
    abbrev a : ℕ
    a = slice_index from i

    abbrev b : ℕ
    b = slice_index to i

    abbrev half_1 : List ℕ
    half_1 = half ++ length origin ∷ []

    abbrev side_1 : List (Option ℕ)
    side_1 = side ++ Some i ∷ None ∷ []

    abbrev origin_1 : List ℕ
    origin_1 = origin ++ a ∷ b ∷ []

    first_is : is_first from to i ≡ true
    first_is = first_from from to i none

    half_old : (p : ℕ) → p < i → slice_index half_1 p ≡ slice_index half p
    half_old p below = get_or_append_left half (length origin ∷ []) 0 p (let n = u.numbers in omega arith)

    half_new : slice_index half_1 i ≡ length origin
    half_new = get_or_at half (length origin) [] 0 i u.numbers

    side_old : (h : ℕ) → h < length origin → slice_index_or side_1 h None ≡ slice_index_or side h None
    side_old h below = get_or_append_left side (Some i ∷ None ∷ []) None h (let n = u.sides in omega arith)

    side_new : slice_index_or side_1 (length origin) None ≡ Some i
    side_new = get_or_at side (Some i) (None ∷ []) None (length origin) u.sides

    side_bare : slice_index_or side_1 (length origin + 1) None ≡ None
    side_bare = ap (λ n. slice_index_or side_1 (n + 1) None) (sym u.sides) ∙ get_or-append-add side (Some i ∷ None ∷ []) 1 None

    side_past : (h : ℕ) → length origin + 2 ≤ h → slice_index_or side_1 h None ≡ None
    side_past h past = get_or_past side_1 h None (let n = u.sides in let l = length-append side (Some i ∷ None ∷ []) in omega arith)

    origin_old : (h : ℕ) → h < length origin → slice_index origin_1 h ≡ slice_index origin h
    origin_old h below = get_or_append_left origin (a ∷ b ∷ []) 0 h below

    origin_new : slice_index origin_1 (length origin) ≡ a
    origin_new = get_or_at origin a (b ∷ []) 0 (length origin) refl

    origin_end : slice_index origin_1 (length origin + 1) ≡ b
    origin_end = get_or-append-add origin (a ∷ b ∷ []) 1 0

    longer : length origin_1 ≡ length origin + 2
    longer = length-append origin (a ∷ b ∷ [])

    other_half : rev (length origin) ≡ length origin + 1
    other_half = rev-even (length origin) even

    rev_old : (p : ℕ) → p < i → rev (slice_index half_1 p) ≡ rev (slice_index half p)
    rev_old p below = ap rev (half_old p below)

    rev_new : rev (slice_index half_1 i) ≡ length origin + 1
    rev_new = ap rev half_new ∙ other_half

    -- where each half edge stands
    places : (h : ℕ) → (h < length origin) ⊎ ((h ≡ length origin) ⊎ ((h ≡ length origin + 1) ⊎ (length origin + 2 ≤ h)))
    places h = elim (cases_lt h (length origin)) [
      | inl below ↦ inl below
      | inr past ↦ elim (cases_eq h (length origin)) [
        | inl here ↦ inr (inl here)
        | inr beyond ↦ elim (cases_eq h (length origin + 1)) [
          | inl here ↦ inr (inr (inl here))
          | inr further ↦ inr (inr (inr (omega (arith, past, beyond, further))))
        ]
      ]
    ]

    only_more : (h p : ℕ) → slice_index_or side_1 h None ≡ Some p → (p < i + 1) × (slice_index half_1 p ≡ h)
    only_more h p found = elim (places h) [
      | inl below ↦ let was = u.only h p (sym (side_old h below) ∙ found) in (omega (arith, was.0), half_old p was.0 ∙ was.1)
      | inr (inl here) ↦ let is : i ≡ p = one_of i p (sym side_new ∙ ap (λ n. slice_index_or side_1 n None) (sym here) ∙ found) in
          subst (λ n. (n < i + 1) × (slice_index half_1 n ≡ h)) is (omega arith, half_new ∙ sym here)
      | inr (inr (inl here)) ↦ absurd (not_none p (sym found ∙ ap (λ n. slice_index_or side_1 n None) here ∙ side_bare))
      | inr (inr (inr past)) ↦ absurd (not_none p (sym found ∙ side_past h past))
    ]

    bare_more : (h : ℕ) → h < length origin_1 → slice_index_or side_1 h None ≡ None
        → (p : ℕ) × (p < i + 1) × (rev (slice_index half_1 p) ≡ h) × ((q : ℕ) → q < i + 1 → ¬ LeadsBack from to p q)
    bare_more h within bare = elim (places h) [
      | inl below ↦ let was = u.bare h below (sym (side_old h below) ∙ bare) in (
        was.0,
        omega (arith, was.1),
        rev_old was.0 was.1 ∙ was.2,
        each_below (λ q. ¬ LeadsBack from to was.0 q) i was.3 (λ back. none was.0 was.1 (back_again from to was.0 i back)),
      )
      | inr (inl here) ↦ absurd (not_none i (sym side_new ∙ ap (λ n. slice_index_or side_1 n None) (sym here) ∙ bare))
      | inr (inr (inl here)) ↦ (
        i,
        omega arith,
        rev_new ∙ sym here,
        each_below (λ q. ¬ LeadsBack from to i q) i none (λ back. apart back.0),
      )
      | inr (inr (inr past)) ↦ absurd (omega (arith, within, longer, past))
    ]

    pub first_numbered : AreNumbered from to (i + 1) half_1 side_1 origin_1
    first_numbered = record {
      numbers = length_push half (length origin) ∙ ap (λ n. n + 1) u.numbers;
      edges = let e = u.edges in let c = count_first from to i first_is in omega (arith, longer);
      sides = let s = u.sides in let l = length-append side (Some i ∷ None ∷ []) in omega (arith, longer);
      first = each_below (λ p. is_first from to p ≡ true → slice_index half_1 p ≡ 2 * count (is_first from to) p) i
          (λ p below first. half_old p below ∙ u.first p below first) (λ first. half_new ∙ u.edges);
      second = λ p q below. each_below (λ n. q < n → LeadsBack from to n q → slice_index half_1 n ≡ rev (slice_index half_1 q)) i
          (λ n l before back. half_old n l ∙ u.second n q l before back ∙ sym (rev_old q (omega arith)))
          (λ before back. absurd (none q before back)) p below;
      in_range = each_below (λ p. slice_index half_1 p < length origin_1) i
          (λ p below. let r = u.in_range p below in let h = half_old p below in omega (arith, longer)) (omega (arith, half_new, longer));
      placed = each_below (λ p. slice_index_or side_1 (slice_index half_1 p) None ≡ Some p) i
          (λ p below. ap (λ h. slice_index_or side_1 h None) (half_old p below) ∙ side_old (slice_index half p) (u.in_range p below) ∙ u.placed p below)
          (ap (λ h. slice_index_or side_1 h None) half_new ∙ side_new);
      only = only_more;
      start = each_below (λ p. slice_index origin_1 (slice_index half_1 p) ≡ slice_index from p) i
          (λ p below. ap (slice_index origin_1) (half_old p below) ∙ origin_old (slice_index half p) (u.in_range p below) ∙ u.start p below)
          (ap (slice_index origin_1) half_new ∙ origin_new);
      end = each_below (λ p. slice_index origin_1 (rev (slice_index half_1 p)) ≡ slice_index to p) i
          (λ p below. ap (slice_index origin_1) (rev_old p below) ∙ origin_old (rev (slice_index half p)) (rev_in_range p below) ∙ u.end p below)
          (ap (slice_index origin_1) rev_new ∙ origin_end);
      bare = bare_more;
      free = each_below (λ p. ((q : ℕ) → q < i + 1 → ¬ LeadsBack from to p q) → slice_index_or side_1 (rev (slice_index half_1 p)) None ≡ None) i
          (λ p below alone. ap (λ h. slice_index_or side_1 h None) (rev_old p below) ∙ side_old (rev (slice_index half p)) (rev_in_range p below)
          ∙ u.free p below (λ q l. alone q (omega arith)))
          (λ alone. ap (λ h. slice_index_or side_1 h None) rev_new ∙ side_bare);
    }

  -- a side that one of those before leads back from
  module _ (j : ℕ) (before : j < i) (back : LeadsBack from to i j)
      (one_side : (p q : ℕ) → p < i → q < i → slice_index from p ≡ slice_index from q → slice_index to p ≡ slice_index to q → p ≡ q)
      (fresh : (q : ℕ) → q < i → slice_index from q ≡ slice_index from i → slice_index to q ≡ slice_index to i → ⊥) where
    abbrev k : ℕ
    k = rev (slice_index half j)

    abbrev half_2 : List ℕ
    half_2 = half ++ k ∷ []

    abbrev side_2 : List (Option ℕ)
    side_2 = slice_set side k (Some i)

    second_is : is_first from to i ≡ false
    second_is = second_from from to i j before back

    k_below : k < length origin
    k_below = rev_in_range j before

    k_free : slice_index_or side k None ≡ None
    k_free = u.free j before (λ q below again. fresh q below (again.0 ∙ back.1) (again.1 ∙ back.0))

    only_back : (q : ℕ) → q < i → LeadsBack from to i q → q ≡ j
    only_back q below other = one_side q j below before (other.0 ∙ sym back.0) (other.1 ∙ sym back.1)

    old_2 : (p : ℕ) → p < i → slice_index half_2 p ≡ slice_index half p
    old_2 p below = get_or_append_left half (k ∷ []) 0 p (let n = u.numbers in omega arith)

    new_2 : slice_index half_2 i ≡ k
    new_2 = get_or_at half k [] 0 i u.numbers

    set_here : slice_index_or side_2 k None ≡ Some i
    set_here = get_or-set_same side k (Some i) None (let n = u.sides in let l = k_below in omega arith)

    set_there : (h : ℕ) → h ≢ k → slice_index_or side_2 h None ≡ slice_index_or side h None
    set_there h apart = get_or-set_other side k h (Some i) None apart

    old_apart : (p : ℕ) → p < i → slice_index half p ≢ k
    old_apart p below same = not_none p (sym (u.placed p below) ∙ ap (λ h. slice_index_or side h None) same ∙ k_free)

    only_set : (h p : ℕ) → slice_index_or side_2 h None ≡ Some p → (p < i + 1) × (slice_index half_2 p ≡ h)
    only_set h p found = elim (cases_eq h k) [
      | inl here ↦ let is : i ≡ p = one_of i p (sym set_here ∙ ap (λ n. slice_index_or side_2 n None) (sym here) ∙ found) in
          subst (λ n. (n < i + 1) × (slice_index half_2 n ≡ h)) is (omega arith, new_2 ∙ sym here)
      | inr other ↦ let was = u.only h p (sym (set_there h other) ∙ found) in (omega (arith, was.0), old_2 p was.0 ∙ was.1)
    ]

    bare_apart : (h : ℕ) → slice_index_or side_2 h None ≡ None → h ≢ k
    bare_apart h bare here = not_none i (sym set_here ∙ ap (λ n. slice_index_or side_2 n None) (sym here) ∙ bare)

    bare_set : (h : ℕ) → h < length origin → slice_index_or side_2 h None ≡ None
        → (p : ℕ) × (p < i + 1) × (rev (slice_index half_2 p) ≡ h) × ((q : ℕ) → q < i + 1 → ¬ LeadsBack from to p q)
    bare_set h within bare =
        let was = u.bare h within (sym (set_there h (bare_apart h bare)) ∙ bare) in (
          was.0,
          omega (arith, was.1),
          ap rev (old_2 was.0 was.1) ∙ was.2,
          each_below (λ q. ¬ LeadsBack from to was.0 q) i was.3
              (λ again. bare_apart h bare (sym was.2 ∙ ap (λ p. rev (slice_index half p)) (only_back was.0 was.1 (back_again from to was.0 i again)))),
        )

    free_apart : (p : ℕ) → p < i → ¬ LeadsBack from to p i → rev (slice_index half p) ≢ k
    free_apart p below alone same =
        let one : p ≡ j = same_number p j below before (sym (rev-rev (slice_index half p)) ∙ ap rev same ∙ rev-rev (slice_index half j)) in
        alone (subst (λ n. LeadsBack from to n i) (sym one) (back_again from to i j back))

    pub second_numbered : AreNumbered from to (i + 1) half_2 side_2 origin
    second_numbered = record {
      numbers = length_push half k ∙ ap (λ n. n + 1) u.numbers;
      edges = let e = u.edges in let c = count_second from to i second_is in omega arith;
      sides = length-set side k (Some i) ∙ u.sides;
      first = each_below (λ p. is_first from to p ≡ true → slice_index half_2 p ≡ 2 * count (is_first from to) p) i
          (λ p below first. old_2 p below ∙ u.first p below first) (λ first. absurd (false≢true (sym second_is ∙ first)));
      second = λ p q below. each_below (λ n. q < n → LeadsBack from to n q → slice_index half_2 n ≡ rev (slice_index half_2 q)) i
          (λ n l less again. old_2 n l ∙ u.second n q l less again ∙ sym (ap rev (old_2 q (omega arith))))
          (λ less again. new_2 ∙ ap (λ n. rev (slice_index half n)) (sym (only_back q less again)) ∙ sym (ap rev (old_2 q less))) p below;
      in_range = each_below (λ p. slice_index half_2 p < length origin) i
          (λ p below. let r = u.in_range p below in let h = old_2 p below in omega arith) (omega (arith, new_2, k_below));
      placed = each_below (λ p. slice_index_or side_2 (slice_index half_2 p) None ≡ Some p) i
          (λ p below. ap (λ h. slice_index_or side_2 h None) (old_2 p below) ∙ set_there (slice_index half p) (old_apart p below) ∙ u.placed p below)
          (ap (λ h. slice_index_or side_2 h None) new_2 ∙ set_here);
      only = only_set;
      start = each_below (λ p. slice_index origin (slice_index half_2 p) ≡ slice_index from p) i
          (λ p below. ap (slice_index origin) (old_2 p below) ∙ u.start p below)
          (ap (slice_index origin) new_2 ∙ u.end j before ∙ back.1);
      end = each_below (λ p. slice_index origin (rev (slice_index half_2 p)) ≡ slice_index to p) i
          (λ p below. ap (λ h. slice_index origin (rev h)) (old_2 p below) ∙ u.end p below)
          (ap (λ h. slice_index origin (rev h)) new_2 ∙ ap (slice_index origin) (rev-rev (slice_index half j)) ∙ u.start j before ∙ back.0);
      bare = bare_set;
      free = each_below (λ p. ((q : ℕ) → q < i + 1 → ¬ LeadsBack from to p q) → slice_index_or side_2 (rev (slice_index half_2 p)) None ≡ None) i
          (λ p below alone. ap (λ h. slice_index_or side_2 (rev h) None) (old_2 p below) ∙ set_there (rev (slice_index half p)) (free_apart p below (alone i (omega arith)))
          ∙ u.free p below (λ q l. alone q (omega arith)))
          (λ alone. absurd (alone j (omega arith) back));
    }

  -- there is room for two half edges more
  pub room : i < 2 ^ 31 → length origin < 2 ^ 32
  room few = let e = u.edges in let c = count_few from to i in omega arith

-- one more side, and the half edge that was found where it leads
module _ (from to : List ℕ) (i : ℕ) (half : List ℕ) (side : List (Option ℕ)) (origin : List ℕ) (u : AreNumbered from to i half side origin)
    (distinct : AreDistinct from to i) where
  -- no side so far has the ends of this one
  abbrev IsNew : Type 0
  IsNew = (q : ℕ) → q < i → slice_index from q ≡ slice_index from i → slice_index to q ≡ slice_index to i → ⊥

  distinct_more : IsNew → AreDistinct from to (i + 1)
  distinct_more new p q lp lq starts ends = elim (cases_lt p i) [
    | inl before ↦ elim (cases_lt q i) [
      | inl also ↦ distinct p q before also starts ends
      | inr past ↦ let here : q ≡ i = omega (arith, lq, past) in
          absurd (new p before (starts ∙ ap (slice_index from) here) (ends ∙ ap (slice_index to) here))
    ]
    | inr past ↦ let here : p ≡ i = omega (arith, lp, past) in elim (cases_lt q i) [
      | inl before ↦ absurd (new q before (sym starts ∙ ap (slice_index from) here) (sym ends ∙ ap (slice_index to) here))
      | inr also ↦ omega (arith, here, lq, also)
    ]
  ]

  module _ (none : (h : ℕ) → ¬ Leads origin h (slice_index from i) (slice_index to i)) where
    none_new : IsNew
    none_new q below starts ends = none (slice_index half q) (record { below = u.in_range q below; start = u.start q below ∙ starts; end = u.end q below ∙ ends })

    none_back : (q : ℕ) → q < i → ¬ LeadsBack from to i q
    none_back q below back = none (rev (slice_index half q)) (record {
      below = rev_in_range from to i half side origin u q below;
      start = u.end q below ∙ back.1;
      end = ap (slice_index origin) (rev-rev (slice_index half q)) ∙ u.start q below ∙ back.0;
    })

    pub distinct_first : AreDistinct from to (i + 1)
    distinct_first = distinct_more none_new

    pub number_first : slice_index from i ≢ slice_index to i → (half' : List ℕ) (side' : List (Option ℕ)) (origin' : List ℕ)
        → half' ≡ half ++ length origin ∷ [] → side' ≡ side ++ Some i ∷ None ∷ [] → origin' ≡ origin ++ slice_index from i ∷ slice_index to i ∷ []
        → AreNumbered from to (i + 1) half' side' origin'
    number_first apart half' side' origin' halves sides origins = rw (halves, sides, origins) (first_numbered from to i half side origin u apart none_back)

  module _ (h : ℕ) (leads : Leads origin h (slice_index from i) (slice_index to i)) (free : slice_index_or side h None ≡ None) where
    -- the side beyond it
    beyond : (p : ℕ) × (p < i) × (rev (slice_index half p) ≡ h) × ((q : ℕ) → q < i → ¬ LeadsBack from to p q)
    beyond = u.bare h leads.below free

    back : LeadsBack from to i beyond.0
    back =
        let b = beyond in (
          sym (u.start b.0 b.1) ∙ ap (slice_index origin) (sym (rev-rev (slice_index half b.0)) ∙ ap rev b.2) ∙ leads.end,
          sym (u.end b.0 b.1) ∙ ap (slice_index origin) b.2 ∙ leads.start,
        )

    found_new : IsNew
    found_new q below starts ends = let b = beyond in let l = back in b.3 q below (starts ∙ sym l.1, ends ∙ sym l.0)

    pub distinct_second : AreDistinct from to (i + 1)
    distinct_second = distinct_more found_new

    pub number_second : (half' : List ℕ) (side' : List (Option ℕ)) (origin' : List ℕ)
        → half' ≡ half ++ h ∷ [] → side' ≡ slice_set side h (Some i) → origin' ≡ origin → AreNumbered from to (i + 1) half' side' origin'
    number_second half' side' origin' halves sides origins =
        let b = beyond in
        rw (halves, sides, origins)
        (subst (λ k. AreNumbered from to (i + 1) (half ++ k ∷ []) (slice_set side k (Some i)) origin) b.2
        (second_numbered from to i half side origin u b.0 b.1 back distinct found_new))

  -- if a half edge was found and is a side, that side leads there
  pub taken : (found : Option ℕ) (p : ℕ) → IsFound origin (slice_index from i) (slice_index to i) found → side_of_found side found ≡ Some p
      → (p < i) × (slice_index from p ≡ slice_index from i) × (slice_index to p ≡ slice_index to i)
  taken None p none is = absurd (not_none p (sym is))
  taken (Some h) p leads is =
      let was = u.only h p is in
      (was.0, sym (u.start p was.0) ∙ ap (slice_index origin) was.1 ∙ leads.start, sym (u.end p was.0) ∙ ap (λ k. slice_index origin (rev k)) was.1 ∙ leads.end)
