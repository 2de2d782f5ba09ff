-- Edges in chains: what a look-up has passed, and one more edge.
use Rattle.std.proofs.Common.{◌≡◌, ◌≢◌, ◌⊎◌, inl, inr, ℕ, ◌+◌, ◌/◌, ◌%◌, ◌<◌, ◌≤◌, ◌==◌, ◌&&◌, nat_lt, eq-eqb, true, false, List, [], ◌∷◌, ◌++◌, length, slice_index, slice_index_or, slice_set, Option, Some, None, Result, Ok, Err, OnOk, refl, sym, ap, ◌∙◌, subst, arith}
use Rattle.std.proofs.lemmas.Bool.{and_from, and_parts, cases_Bool, cases_eq, cases_lt, eqb-true, false≢true, lt-ltb, ltb-true, or_cases, or_left, or_right}
use Rattle.std.proofs.lemmas.List.{get_or-append-add, get_or_default, get_or-set_other, get_or-set_same, get_or_append_left, get_or_at, length-append, length-set, length_push}
use Rattle.dcel_fixed.proofs.Halves.{rev-even, rev-rev, rev_within}
use Rattle.dcel_fixed.specs.HalfEdges.{rev}
use Rattle.dcel_maps.specs.Numbers.{IsLastBelow}
use Rattle.dcel_exchange.specs.Chains.{AreChained, HangsAt, Leads, hangs}

module _ (starts : List ℕ) (a b : ℕ) where
  hangs_gives : hangs starts a b ≡ true → (slice_index starts a < slice_index starts b) ⊎ ((slice_index starts a ≡ slice_index starts b) × (a < b))
  hangs_gives is = elim (or_cases (nat_lt (slice_index starts a) (slice_index starts b)) ((slice_index starts a == slice_index starts b) && nat_lt a b) is) [
    | inl fewer ↦ inl (ltb-true _ _ fewer)
    | inr same ↦ let both = and_parts (slice_index starts a == slice_index starts b) (nat_lt a b) same in inr (eqb-true _ _ both.0, ltb-true _ _ both.1)
  ]

  hangs_from : (slice_index starts a < slice_index starts b) ⊎ ((slice_index starts a ≡ slice_index starts b) × (a < b)) → hangs starts a b ≡ true
  hangs_from (inl fewer) = or_left (nat_lt (slice_index starts a) (slice_index starts b)) _ (lt-ltb _ _ fewer)
  hangs_from (inr same) = or_right (nat_lt (slice_index starts a) (slice_index starts b)) _ (and_from _ _ (eq-eqb _ _ same.0) (lt-ltb _ _ same.1))

-- an edge hangs at one of its ends, and not at both
pub hangs_once : (starts : List ℕ) (a b : ℕ) → hangs starts a b ≡ true → hangs starts b a ≡ true → ⊥
hangs_once starts a b one other = let x = hangs_gives starts a b one in let y = hangs_gives starts b a other in grind arith

pub hangs_there : (starts : List ℕ) (a b : ℕ) → a ≢ b → hangs starts a b ≡ false → hangs starts b a ≡ true
hangs_there starts a b apart other = elim (cases_Bool (hangs starts b a)) [
  | inl is ↦ is
  | inr not ↦
      let x : (slice_index starts a < slice_index starts b) → ⊥ = λ l. false≢true (sym other ∙ hangs_from starts a b (inl l)) in
      let y : (slice_index starts b < slice_index starts a) → ⊥ = λ l. false≢true (sym not ∙ hangs_from starts b a (inl l)) in
      let same : slice_index starts a ≡ slice_index starts b = elim (cases_lt (slice_index starts a) (slice_index starts b)) [
        | inl l ↦ absurd (x l)
        | inr past ↦ elim (cases_eq (slice_index starts a) (slice_index starts b)) [
          | inl is ↦ is
          | inr differ ↦ absurd (y (omega (arith, past, differ)))
        ]
      ] in
      elim (cases_lt a b) [
        | inl l ↦ absurd (false≢true (sym other ∙ hangs_from starts a b (inr (same, l))))
        | inr past ↦ absurd (false≢true (sym not ∙ hangs_from starts b a (inr (sym same, omega (arith, past, apart)))))
      ]
]

-- one half leads back where the other leads
pub leads_back : (origin : List ℕ) (h a b : ℕ) → length origin % 2 ≡ 0 → Leads origin h a b → Leads origin (rev h) b a
leads_back origin h a b even leads = record {
  below = rev_within h (length origin) even leads.below;
  start = leads.end;
  end = ap (slice_index origin) (rev-rev h) ∙ leads.start;
}

-- None of the numbers below n has P and Q, after those from the one here on are passed.
abbrev pub HasPassed : (ℕ → Type 0) → (ℕ → Type 0) → ℕ → Option ℕ → Type 0
HasPassed P Q n None = (j : ℕ) → j < n → P j → ¬ Q j
HasPassed P Q n (Some k) = (k < n) × P k × ((j : ℕ) → k < j → j < n → P j → ¬ Q j)

-- how many may come yet
abbrev pub left : Option ℕ → ℕ
left None = 0
left (Some k) = k + 1

module _ (P Q : ℕ → Type 0) (n : ℕ) where
  pub passed_none : (o : Option ℕ) → IsLastBelow P n o → HasPassed P Q n o
  passed_none None none = λ j below is. absurd (none j below is)
  passed_none (Some k) last = (last.0, last.1, λ j above below is. absurd (last.2 j above below is))

  pub passed_one : (k : ℕ) (o : Option ℕ) → HasPassed P Q n (Some k) → ¬ Q k → IsLastBelow P k o → HasPassed P Q n o
  passed_one k None passed not none = λ j below is. elim (cases_lt j k) [
    | inl less ↦ absurd (none j less is)
    | inr past ↦ elim (cases_eq j k) [
      | inl here ↦ subst (λ m. ¬ Q m) (sym here) not
      | inr beyond ↦ passed.2 j (omega (arith, past, beyond)) below is
    ]
  ]
  passed_one k (Some m) passed not last = (
    omega (arith, last.0, passed.0),
    last.1,
    λ j above below is. elim (cases_lt j k) [
      | inl less ↦ absurd (last.2 j above less is)
      | inr past ↦ elim (cases_eq j k) [
        | inl here ↦ subst (λ m. ¬ Q m) (sym here) not
        | inr beyond ↦ passed.2 j (omega (arith, past, beyond)) below is
      ]
    ],
  )

-- a look-up for a half edge that leads from a, where its edge hangs, to b
module _ (vertices : ℕ) (starts origin : List ℕ) (last before : List (Option ℕ)) (chained : AreChained vertices starts origin last before) (a b : ℕ) where
  abbrev pub Searched : Option ℕ → Type 0
  Searched o = HasPassed (HangsAt starts origin a) (λ h. slice_index origin (rev h) ≡ b) (length origin) o

  pub search_begins : a < vertices → (o : Option ℕ) → o ≡ slice_index_or last a o → Searched o
  search_begins below o read =
      let is : o ≡ slice_index_or last a None = read ∙ get_or_default last a o None (let l = chained.as_many_lasts in omega arith) in
      subst Searched (sym is)
      (passed_none (HangsAt starts origin a) (λ h. slice_index origin (rev h) ≡ b) (length origin) (slice_index_or last a None) (chained.last_is a below))

  before_last : (k : ℕ) (o : Option ℕ) → Searched (Some k) → o ≡ slice_index_or before (k / 2) o → IsLastBelow (HangsAt starts origin a) k o
  before_last k o searched read =
      let below : k < length origin = searched.0 in
      let hung : HangsAt starts origin a k = searched.1 in
      let is : o ≡ slice_index_or before (k / 2) None = read ∙ get_or_default before (k / 2) o None (let e = chained.edges in omega arith) in
      subst (IsLastBelow (HangsAt starts origin a) k) (sym is)
      (subst (λ v. IsLastBelow (HangsAt starts origin v) k (slice_index_or before (k / 2) None)) hung.0
      (chained.before_is k below (subst (λ v. HangsAt starts origin v k) (sym hung.0) hung)))

  pub search_goes_on : (k : ℕ) (o : Option ℕ) → Searched (Some k) → (slice_index origin (rev k) ≡ b → ⊥) → o ≡ slice_index_or before (k / 2) o → Searched o
  search_goes_on k o searched not read =
      passed_one (HangsAt starts origin a) (λ h. slice_index origin (rev h) ≡ b) (length origin) k o searched not (before_last k o searched read)

  pub search_ends : hangs starts a b ≡ true → Searched None → (h : ℕ) → ¬ Leads origin h a b
  search_ends there searched h leads = searched h leads.below (leads.start, ap (hangs starts a) leads.end ∙ there) leads.end

  pub search_within : (k : ℕ) → Searched (Some k) → rev k < length origin
  search_within k searched = let e = chained.edges in rev_within k (length origin) (omega arith) searched.0

-- the last of the numbers below m that have a property is the last of those below n, if those from m on lack it
pub last_more : (P P' : ℕ → Type 0) (m n : ℕ) → m ≤ n → ((j : ℕ) → j < m → P' j → P j) → ((j : ℕ) → j < m → P j → P' j)
    → ((j : ℕ) → m ≤ j → j < n → ¬ P' j) → (o : Option ℕ) → IsLastBelow P m o → IsLastBelow P' n o
last_more P P' m n more back there not None none = λ k below is. elim (cases_lt k m) [
  | inl less ↦ none k less (back k less is)
  | inr past ↦ not k past below is
]
last_more P P' m n more back there not (Some k) last = (
  omega (arith, last.0, more),
  there k last.0 last.1,
  λ j above below is. elim (cases_lt j m) [
    | inl less ↦ last.2 j above less (back j less is)
    | inr past ↦ not j past below is
  ],
)

-- one more edge, with the ends a and b, whose half edge h starts at c, where it hangs
module _ (vertices : ℕ) (starts origin : List ℕ) (last before : List (Option ℕ)) (chained : AreChained vertices starts origin last before) (a b : ℕ) where
  abbrev n : ℕ
  n = length origin

  abbrev origin_1 : List ℕ
  origin_1 = origin ++ a ∷ b ∷ []

  even : n % 2 ≡ 0
  even = let e = chained.edges in omega arith

  pub rev_next : rev n ≡ n + 1
  rev_next = rev-even n even

  origin_old : (h : ℕ) → h < n → slice_index origin_1 h ≡ slice_index origin h
  origin_old h below = get_or_append_left origin (a ∷ b ∷ []) 0 h below

  pub first_starts : slice_index origin_1 n ≡ a
  first_starts = get_or_at origin a (b ∷ []) 0 n refl

  pub second_starts : slice_index origin_1 (n + 1) ≡ b
  second_starts = get_or-append-add origin (a ∷ b ∷ []) 1 0

  hangs_as : (v h : ℕ) → h < n → HangsAt starts origin v h → HangsAt starts origin_1 v h
  hangs_as v h below is =
      (origin_old h below ∙ is.0, ap (hangs starts v) (origin_old (rev h) (rev_within h n even below)) ∙ is.1)

  hung_as : (v h : ℕ) → h < n → HangsAt starts origin_1 v h → HangsAt starts origin v h
  hung_as v h below is =
      (sym (origin_old h below) ∙ is.0, ap (hangs starts v) (sym (origin_old (rev h) (rev_within h n even below))) ∙ is.1)

  module _ (c d h : ℕ) (new : (h ≡ n) ⊎ (h ≡ n + 1)) (start : slice_index origin_1 h ≡ c) (end : slice_index origin_1 (rev h) ≡ d)
      (there : hangs starts c d ≡ true) (below : c < vertices) where
    abbrev last_1 : List (Option ℕ)
    last_1 = slice_set last c (Some h)

    abbrev before_1 : List (Option ℕ)
    before_1 = before ++ slice_index_or last c None ∷ []

    bounds : (n ≤ h) × (h < n + 2) × (h / 2 ≡ length before)
    bounds = let e = chained.edges in elim new [
      | inl is ↦ (omega arith, omega arith, omega arith)
      | inr is ↦ (omega arith, omega arith, omega arith)
    ]

    -- of the new half edges, h alone starts where its edge hangs
    other_hangs : (v j : ℕ) → n ≤ j → j < n + 2 → j ≢ h → HangsAt starts origin_1 v j → ⊥
    other_hangs v j from within apart is =
        let r = rev_next in
        let rr = rev-rev n in
        let j_is : j ≡ rev h = elim new [
          | inl here ↦ omega arith ∙ sym r ∙ ap rev (sym here)
          | inr here ↦ omega arith ∙ sym rr ∙ ap rev (r ∙ sym here)
        ] in
        let v_is : v ≡ d = sym is.0 ∙ ap (slice_index origin_1) j_is ∙ end in
        let to_c : slice_index origin_1 (rev j) ≡ c = ap (λ k. slice_index origin_1 (rev k)) j_is ∙ ap (slice_index origin_1) (rev-rev h) ∙ start in
        hangs_once starts c d there (ap (λ k. hangs starts d k) (sym to_c) ∙ ap (λ k. hangs starts k (slice_index origin_1 (rev j))) (sym v_is) ∙ is.1)

    hangs_here : HangsAt starts origin_1 c h
    hangs_here = (start, ap (hangs starts c) end ∙ there)

    other_starts : (v : ℕ) → HangsAt starts origin_1 v h → v ≡ c
    other_starts v is = sym is.0 ∙ start

    -- what is last below n is last below any of the new half edges, but for the vertex of the new chain
    still_last : (v m : ℕ) → n ≤ m → m ≤ n + 2 → ((m ≤ h) ⊎ (v ≢ c)) → (o : Option ℕ) → IsLastBelow (HangsAt starts origin v) n o → IsLastBelow (HangsAt starts origin_1 v) m o
    still_last v m more few away =
        last_more (HangsAt starts origin v) (HangsAt starts origin_1 v) n m more (hung_as v) (hangs_as v)
        (λ j from within is. elim (cases_eq j h) [
          | inl here ↦ elim away [
            | inl below_h ↦ omega (arith, here, within, below_h)
            | inr apart ↦ apart (other_starts v (subst (HangsAt starts origin_1 v) here is))
          ]
          | inr apart ↦ other_hangs v j from (omega (arith, within, few)) apart is
        ])

    last_at : (v : ℕ) → v < vertices → IsLastBelow (HangsAt starts origin_1 v) (length origin_1) (slice_index_or last_1 v None)
    last_at v within =
        let long = length-append origin (a ∷ b ∷ []) in
        elim (cases_eq v c) [
          | inl here ↦
              let at : slice_index_or last_1 v None ≡ Some h = ap (λ k. slice_index_or last_1 k None) here ∙ get_or-set_same last c (Some h) None (let l = chained.as_many_lasts in omega arith) in
              subst (IsLastBelow (HangsAt starts origin_1 v) (length origin_1)) (sym at) (
                let w = bounds in omega arith,
                subst (λ k. HangsAt starts origin_1 k h) (sym here) hangs_here,
                λ j above less. let w = bounds in other_hangs v j (omega arith) (omega arith) (omega arith),
              )
          | inr other ↦
              let at : slice_index_or last_1 v None ≡ slice_index_or last v None = get_or-set_other last c v (Some h) None other in
              subst (IsLastBelow (HangsAt starts origin_1 v) (length origin_1)) (sym at)
              (still_last v (length origin_1) (omega arith) (omega arith) (inr other) (slice_index_or last v None) (chained.last_is v within))
        ]

    before_at : (k : ℕ) → k < length origin_1 → (v : ℕ) → slice_index origin_1 k ≡ v → HangsAt starts origin_1 v k → IsLastBelow (HangsAt starts origin_1 v) k (slice_index_or before_1 (k / 2) None)
    before_at k within v v_is is =
        let long = length-append origin (a ∷ b ∷ []) in
        elim (cases_lt k n) [
          | inl old ↦
              let at : slice_index_or before_1 (k / 2) None ≡ slice_index_or before (k / 2) None =
              get_or_append_left before (slice_index_or last c None ∷ []) None (k / 2) (let e = chained.edges in omega arith) in
              let was_v : slice_index origin k ≡ v = sym (origin_old k old) ∙ v_is in
              let was : IsLastBelow (HangsAt starts origin v) k (slice_index_or before (k / 2) None) =
              subst (λ u. IsLastBelow (HangsAt starts origin u) k (slice_index_or before (k / 2) None)) was_v
              (chained.before_is k old (subst (λ u. HangsAt starts origin u k) (sym was_v) (hung_as v k old is))) in
              subst (IsLastBelow (HangsAt starts origin_1 v) k) (sym at)
              (last_more (HangsAt starts origin v) (HangsAt starts origin_1 v) k k (omega arith)
              (λ j less. hung_as v j (omega (arith, less, old))) (λ j less. hangs_as v j (omega (arith, less, old)))
              (λ j from less. absurd (omega (arith, from, less))) (slice_index_or before (k / 2) None) was)
          | inr past ↦ elim (cases_eq k h) [
            | inl here ↦
                let w = bounds in
                let v_c : v ≡ c = other_starts v (subst (HangsAt starts origin_1 v) here is) in
                let at : slice_index_or before_1 (k / 2) None ≡ slice_index_or last v None =
                ap (λ j. slice_index_or before_1 (j / 2) None) here ∙ get_or_at before (slice_index_or last c None) [] None (h / 2) (sym w.2) ∙ ap (λ u. slice_index_or last u None) (sym v_c) in
                subst (IsLastBelow (HangsAt starts origin_1 v) k) (sym at)
                (still_last v k past (omega arith) (inl (omega arith)) (slice_index_or last v None) (chained.last_is v (omega arith)))
            | inr apart ↦ absurd (other_hangs v k past (omega (arith, within, long)) apart is)
          ]
        ]

    chained_more : AreChained vertices starts origin_1 last_1 before_1
    chained_more = record {
      as_many_starts = chained.as_many_starts;
      as_many_lasts = length-set last c (Some h) ∙ chained.as_many_lasts;
      edges = let e = chained.edges in let l = length-append origin (a ∷ b ∷ []) in let m = length_push before (slice_index_or last c None) in omega arith;
      last_is = last_at;
      before_is = λ k within is. before_at k within (slice_index origin_1 k) refl is;
    }

    pub chained_put : (starts' : List ℕ) (last' before' : List (Option ℕ)) → starts' ≡ starts → last' ≡ last_1 → before' ≡ before_1
        → AreChained vertices starts' origin_1 last' before'
    chained_put starts' last' before' one two three = rw (one, two, three) chained_more

-- what follows from two facts of a success
pub both_ok : {T E : Type 0} (r : Result T E) (P Q R : Type 0) → (P → Q → R) → OnOk r P → OnOk r Q → OnOk r R
both_ok (Ok x) P Q R f p q = f p q
both_ok (Err e) P Q R f p q = tt
