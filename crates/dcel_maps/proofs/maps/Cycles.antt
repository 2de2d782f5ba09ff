-- The cycles of a function, and their edits: an item put in, a cycle of one, a cycle cut in two.
use Rattle.std.proofs.Common.{◌≡◌, ◌≢◌, ◌↔◌, ◌⊎◌, inl, inr, ℕ, Bool, true, false, cond, not, sym, refl, ap, ◌∙◌, subst, subst₂}
use Rattle.std.proofs.lemmas.Bool.{cases_eq, cases_Bool, false≢true, not-true, not-false}
use Rattle.dcel_maps.specs.Maps.{By, Reaches}
use Rattle.dcel_maps.specs.Maps.Reaches.{go, here}
use Rattle.dcel_maps.proofs.maps.Reaching.{reroutes, step, then}

-- a function whose cycles among the numbers of P are told apart by a label
pub record Cycles (P : ℕ → Type 0) (f label : ℕ → ℕ) : Type 0 where
  pub stays : (x : ℕ) → P x → P (f x)
  pub along : (x : ℕ) → P x → label (f x) ≡ label x
  pub joined : (x y : ℕ) → P x → P y → label x ≡ label y → Reaches (By f) x y

-- all that is reached from an item has its label
same_label : (P : ℕ → Type 0) (f label : ℕ → ℕ) → Cycles P f label → {x y : ℕ} → P x → Reaches (By f) x y → label x ≡ label y
same_label P f label c p here = refl
same_label P f label c p (go {x = x} s w) =
    let q = subst P s (c.stays x p) in sym (c.along x p) ∙ ap label s ∙ same_label P f label c q w

-- labels are the same just where one item is reached from the other
pub same_label_iff : (P : ℕ → Type 0) (f label : ℕ → ℕ) → Cycles P f label
    → (x y : ℕ) → P x → P y → (label x ≡ label y) ↔ Reaches (By f) x y
same_label_iff P f label c x y p q = (c.joined x y p q, same_label P f label c p)

-- where g undoes f, and f' is f but at a and c, as g' is g but at b and d, g' undoes f'
pub undoes : (P : ℕ → Type 0) (f g f' g' : ℕ → ℕ) (a c b d : ℕ)
    → ((x : ℕ) → P x → x ≢ a → x ≢ c → P (f x)) → ((x : ℕ) → P x → g (f x) ≡ x)
    → ((x : ℕ) → P x → x ≡ g b → x ≡ a) → ((x : ℕ) → P x → x ≡ g d → x ≡ c) → g' (f' a) ≡ a → g' (f' c) ≡ c
    → ((x : ℕ) → P x → x ≢ a → x ≢ c → f' x ≡ f x) → ((x : ℕ) → P x → x ≢ b → x ≢ d → g' x ≡ g x) → (x : ℕ) → P x → g' (f' x) ≡ x
undoes P f g f' g' a c b d stays undo gb gd at_a at_c fs gs x p = elim (cases_eq x a) [
  | inl i ↦ cc (ap f' i)
  | inr m ↦ elim (cases_eq x c) [
    | inl i ↦ cc (ap f' i)
    | inr n ↦
        let u = undo x p in
        ap g' (fs x p m n) ∙ gs (f x) (stays x p m n) (λ i. m (gb x p (sym u ∙ ap g i))) (λ i. n (gd x p (sym u ∙ ap g i))) ∙ u
  ]
]

-- a place to go in from, of the old cycle with the label of x
abbrev Into : (P : ℕ → Type 0) (f' label label' r : ℕ → ℕ) → ℕ → Type 0
Into P f' label label' r x = (u : ℕ) × P u × (label u ≡ label' x) × Reaches (By f') x (r u)

-- a place to come out of, of the old cycle with the label of x
abbrev OutOf : (P : ℕ → Type 0) (f' label label' r : ℕ → ℕ) → ℕ → Type 0
OutOf P f' label label' r x = (u : ℕ) × P u × (label u ≡ label' x) × Reaches (By f') (r u) x

-- two items with one label are joined where each old step can be gone, there is a way in and a way out
joined_by : (P P' : ℕ → Type 0) (f f' label label' r : ℕ → ℕ) → Cycles P f label
    → ((x : ℕ) → P x → Reaches (By f') (r x) (r (f x)))
    → (x y : ℕ) → Into P f' label label' r x → OutOf P f' label label' r y → label' x ≡ label' y
    → Reaches (By f') x y
joined_by P P' f f' label label' r c steps x y i o e =
    let w : Reaches (By f) i.0 o.0 = c.joined i.0 o.0 i.1 o.1 (i.2 ∙ e ∙ sym o.2) in
    let v : Reaches (By f') (r i.0) (r o.0) =
    reroutes (By f) (By f') P r (λ a b p s. subst P s (c.stays a p))
    (λ a b p s. subst (λ z. Reaches (By f') (r a) (r z)) s (steps a p)) i.1 w in
    then i.3 (then v o.3)

-- what holds of the old items and of n holds of each
by_cases : (P P' : ℕ → Type 0) (n : ℕ) → ((x : ℕ) → P' x → P x ⊎ (x ≡ n)) → (Q : ℕ → Type 0) → ((x : ℕ) → P x → Q x) → Q n → (x : ℕ) → P' x → Q x
by_cases P P' n cases Q old new x p = elim (cases x p) [ inl q ↦ old x q | inr e ↦ subst Q (sym e) new ]

-- n is put in after a
pub inserted : (P P' : ℕ → Type 0) (f f' label label' : ℕ → ℕ) (a n : ℕ) → Cycles P f label → P a
    → ((x : ℕ) → P x → P' x) → ((x : ℕ) → P' x → P x ⊎ (x ≡ n)) → P' n
    → f' a ≡ n → f' n ≡ f a → ((x : ℕ) → P x → x ≢ a → f' x ≡ f x)
    → label' n ≡ label a → ((x : ℕ) → P x → label' x ≡ label x) → Cycles P' f' label'
inserted P P' f f' label label' a n c pa old cases pn fa fn others ln ls =
    let each = by_cases P P' n cases in
    let after = c.stays a pa in
    record {
      stays = each (λ x. P' (f' x))
          (λ x q. elim (cases_eq x a) [
            | inl e ↦ subst P' (sym (ap f' e ∙ fa)) pn
            | inr d ↦ subst P' (sym (others x q d)) (old (f x) (c.stays x q))
          ])
          (subst P' (sym fn) (old (f a) after));
      along = each (λ x. label' (f' x) ≡ label' x)
          (λ x q. let i = ls x q in elim (cases_eq x a) [
            | inl e ↦ cc (ap f' e, ap label e)
            | inr d ↦ let j = ls (f x) (c.stays x q) in let k = c.along x q in let o = others x q d in cc
          ])
          (let j = ls (f a) after in let k = c.along a pa in cc);
      joined = λ x y p q. joined_by P P' f f' label label' (λ z. z) c
          (λ z pz. elim (cases_eq z a) [
            | inl e ↦ go (ap f' e ∙ fa) (go (fn ∙ ap f (sym e)) here)
            | inr d ↦ step (others z pz d)
          ])
          x y
          (each (Into P f' label label' (λ z. z)) (λ x px. (x, px, sym (ls x px), here)) (f a, after, c.along a pa ∙ sym ln, step fn) x p)
          (each (OutOf P f' label label' (λ z. z)) (λ y py. (y, py, sym (ls y py), here)) (a, pa, sym ln, step fa) y q);
    }

-- n is a cycle of its own, with a new label
pub single : (P P' : ℕ → Type 0) (f f' label label' : ℕ → ℕ) (n : ℕ) → Cycles P f label
    → ((x : ℕ) → P x → P' x) → ((x : ℕ) → P' x → P x ⊎ (x ≡ n)) → P' n
    → f' n ≡ n → ((x : ℕ) → P x → f' x ≡ f x)
    → ((x : ℕ) → P x → label x ≢ label' n) → ((x : ℕ) → P x → label' x ≡ label x) → Cycles P' f' label'
single P P' f f' label label' n c old cases pn fn others isolated ls =
    let each = by_cases P P' n cases in
    record {
      stays = each (λ x. P' (f' x)) (λ x q. subst P' (sym (others x q)) (old (f x) (c.stays x q))) (subst P' (sym fn) pn);
      along = each (λ x. label' (f' x) ≡ label' x)
          (λ x q. let i = ls x q in let j = ls (f x) (c.stays x q) in let k = c.along x q in let o = others x q in cc)
          (ap label' fn);
      joined = λ x y p q.
          each (λ x. label' x ≡ label' y → Reaches (By f') x y)
          (λ x px. each (λ y. label' x ≡ label' y → Reaches (By f') x y)
          (λ y py. joined_by P P' f f' label label' (λ z. z) c (λ z pz. step (others z pz)) x y (x, px, sym (ls x px), here) (y, py, sym (ls y py), here))
          (λ e. absurd (isolated x px (sym (ls x px) ∙ e))) y q)
          (each (λ y. label' n ≡ label' y → Reaches (By f') n y) (λ y py e. absurd (isolated y py (sym (ls y py) ∙ sym e))) (λ e. here) y q) x p;
    }

-- each item x becomes its first and its last part, which are one item or follow each other, and have its label
pub stretched : (P P' : ℕ → Type 0) (f f' label label' first last : ℕ → ℕ) → Cycles P f label
    → ((x : ℕ) → P x → P' (first x)) → ((x : ℕ) → P x → P' (last x))
    → ((y : ℕ) → P' y → (x : ℕ) × P x × ((y ≡ first x) ⊎ (y ≡ last x)))
    → ((x : ℕ) → P x → (first x ≡ last x) ⊎ (f' (first x) ≡ last x))
    → ((x : ℕ) → P x → f' (last x) ≡ first (f x))
    → ((x : ℕ) → P x → label' (first x) ≡ label x) → ((x : ℕ) → P x → label' (last x) ≡ label x) → Cycles P' f' label'
stretched P P' f f' label label' first last c firsts lasts parts within on l_first l_last =
    let across : (x : ℕ) → P x → Reaches (By f') (first x) (last x) =
    λ x p. elim (within x p) [ inl i ↦ subst (λ z. Reaches (By f') (first x) z) i here | inr i ↦ step i ] in
    let each : (Q : ℕ → Type 0) → ((x : ℕ) → P x → Q (last x)) → ((x : ℕ) → P x → f' (first x) ≡ last x → Q (first x)) → (y : ℕ) → P' y → Q y =
    λ Q at_last at_first y p.
    let (x, px, is) = parts y p in
    elim is [
      | inr i ↦ subst Q (sym i) (at_last x px)
      | inl i ↦ subst Q (sym i) (elim (within x px) [ inl j ↦ subst Q (sym j) (at_last x px) | inr j ↦ at_first x px j ])
    ] in
    record {
      stays = each (λ y. P' (f' y))
          (λ x p. subst P' (sym (on x p)) (firsts (f x) (c.stays x p)))
          (λ x p i. subst P' (sym i) (lasts x p));
      along = each (λ y. label' (f' y) ≡ label' y)
          (λ x p. ap label' (on x p) ∙ l_first (f x) (c.stays x p) ∙ c.along x p ∙ sym (l_last x p))
          (λ x p i. ap label' i ∙ l_last x p ∙ sym (l_first x p));
      joined = λ y z p q. joined_by P P' f f' label label' first c
          (λ x px. then (across x px) (step (on x px)))
          y z
          (each (Into P f' label label' first)
          (λ x px. (f x, c.stays x px, c.along x px ∙ sym (l_last x px), step (on x px)))
          (λ x px i. (x, px, sym (l_first x px), here)) y p)
          (each (OutOf P f' label label' first)
          (λ x px. (x, px, sym (l_last x px), across x px))
          (λ x px i. (x, px, sym (l_first x px), here)) z q);
    }

-- one of the two parts of a cut cycle: what is outside the test, and m, which goes from a to q
part_reaches : (P : ℕ → Type 0) (f f' label : ℕ → ℕ) (arc : ℕ → Bool) (q a m : ℕ) → Cycles P f label
    → f' a ≡ m → f' m ≡ q → arc (f a) ≡ true → ((x : ℕ) → P x → arc x ≡ false → x ≢ a → f' x ≡ f x)
    → ((x : ℕ) → P x → arc x ≡ false → arc (f x) ≡ true → x ≡ a)
    → ((x : ℕ) → P x → arc x ≡ true → arc (f x) ≡ false → f x ≡ q)
    → (x y : ℕ) → P x → P y → arc x ≡ false → arc y ≡ false → label x ≡ label y → Reaches (By f') x y
part_reaches P f f' label arc q a m c fa fm arc_a others enter leave x y px py ox oy e =
    let r = λ (z : ℕ). cond (arc z) m z in
    let one : (z : ℕ) → P z → (s t : Bool) → arc z ≡ s → arc (f z) ≡ t → Reaches (By f') (cond s m z) (cond t m (f z)) =
    λ z pz s t. elim s as (λ s. arc z ≡ s → arc (f z) ≡ t → Reaches (By f') (cond s m z) (cond t m (f z))) [
      | true ↦ elim t as (λ t. arc z ≡ true → arc (f z) ≡ t → Reaches (By f') m (cond t m (f z))) [
        | true ↦ λ i j. here
        | false ↦ λ i j. step (fm ∙ sym (leave z pz i j))
      ]
      | false ↦ elim t as (λ t. arc z ≡ false → arc (f z) ≡ t → Reaches (By f') z (cond t m (f z))) [
        | true ↦ λ i j. step (ap f' (enter z pz i j) ∙ fa)
        | false ↦ λ i j. step (others z pz i (λ d. false≢true (sym j ∙ ap (λ w. arc (f w)) d ∙ arc_a)))
      ]
    ] in
    let w : Reaches (By f') (r x) (r y) =
    reroutes (By f) (By f') P r (λ a b p s. subst P s (c.stays a p))
    (λ a b p s. subst (λ z. Reaches (By f') (r a) (r z)) s (one a p (arc a) (arc (f a)) refl refl)) px (c.joined x y px py e) in
    subst₂ (λ s t. Reaches (By f') (cond s m x) (cond t m y)) ox oy w

-- a place on one of the two sides
abbrev Sided : (P : ℕ → Type 0) (label label' : ℕ → ℕ) (arc : ℕ → Bool) (g : ℕ) (W : ℕ → Type 0) → ℕ → Type 0
Sided P label label' arc g W x =
    ((u : ℕ) × P u × (arc u ≡ false) × (label u ≡ label' x) × W u)
    ⊎ ((u : ℕ) × P u × (arc u ≡ true) × (label' x ≡ g) × W u)

-- the cycle of p and q is cut in two: m goes before q in what is left, n before p in the part of the
-- test, which gets the label g
pub parted : (P P' : ℕ → Type 0) (f f' label label' : ℕ → ℕ) (arc : ℕ → Bool) (p q a b m n g : ℕ) → Cycles P f label
    → P a → P b → f a ≡ p → f b ≡ q → arc a ≡ false → arc b ≡ true → label p ≡ label q
    → ((x : ℕ) → P x → P' x) → ((x : ℕ) → P' x → P x ⊎ ((x ≡ m) ⊎ (x ≡ n))) → P' m → P' n
    → f' a ≡ m → f' m ≡ q → f' b ≡ n → f' n ≡ p → ((x : ℕ) → P x → x ≢ a → x ≢ b → f' x ≡ f x)
    → ((x : ℕ) → P x → arc x ≡ true → label x ≡ label p)
    → ((x : ℕ) → P x → arc x ≡ false → arc (f x) ≡ true → x ≡ a)
    → ((x : ℕ) → P x → arc x ≡ true → arc (f x) ≡ false → x ≡ b)
    → arc p ≡ true → arc q ≡ false
    → ((x : ℕ) → P x → label x ≢ g) → label' m ≡ label q → label' n ≡ g
    → ((x : ℕ) → P x → arc x ≡ true → label' x ≡ g)
    → ((x : ℕ) → P x → arc x ≡ false → label' x ≡ label x) → Cycles P' f' label'
parted P P' f f' label label' arc p q a b m n g c pa pb ap' bq arc_a arc_b same old cases pm pn f'a f'm f'b f'n others in_face enter leave arc_p arc_q vacant lm ln l_in l_out =
    let pp : P p = subst P ap' (c.stays a pa) in
    let pq : P q = subst P bq (c.stays b pb) in
    let sided : (W : ℕ → ℕ → Type 0) → ((x : ℕ) → W x x)
    → (u : ℕ) → P u → (arc u ≡ false) → (label u ≡ label' m) → W m u
    → (t : ℕ) → P t → (arc t ≡ true) → W n t
    → (x : ℕ) → P' x → Sided P label label' arc g (W x) x =
    λ W id u pu ou lu wu t pt ot wt x p'x. elim (cases x p'x) [
      | inl px ↦ elim (cases_Bool (arc x)) [
        | inl i ↦ inr (x, px, i, l_in x px i, id x)
        | inr i ↦ inl (x, px, i, sym (l_out x px i), id x)
      ]
      | inr (inl i) ↦ subst (λ x. Sided P label label' arc g (W x) x) (sym i) (inl (u, pu, ou, lu, wu))
      | inr (inr i) ↦ subst (λ x. Sided P label label' arc g (W x) x) (sym i) (inr (t, pt, ot, ln, wt))
    ] in
    record {
      stays = λ x p'x. elim (cases x p'x) [
        | inl px ↦ elim (cases_eq x a) [
          | inl i ↦ subst P' (sym (ap f' i ∙ f'a)) pm
          | inr i ↦ elim (cases_eq x b) [
            | inl j ↦ subst P' (sym (ap f' j ∙ f'b)) pn
            | inr j ↦ subst P' (sym (others x px i j)) (old (f x) (c.stays x px))
          ]
        ]
        | inr (inl i) ↦ subst P' (sym (ap f' i ∙ f'm)) (old q pq)
        | inr (inr i) ↦ subst P' (sym (ap f' i ∙ f'n)) (old p pp)
      ];
      along = λ x p'x. elim (cases x p'x) [
        | inl px ↦ elim (cases_eq x a) [
          | inl i ↦ let j = l_out a pa arc_a in let k = c.along a pa in cc (ap f' i, ap label' i, ap label ap')
          | inr i ↦ elim (cases_eq x b) [
            | inl j ↦ let k = l_in b pb arc_b in cc (ap f' j, ap label' j)
            | inr j ↦ let o = others x px i j in let k = c.along x px in elim (cases_Bool (arc x)) [
              | inl t ↦ elim (cases_Bool (arc (f x))) [
                | inl u ↦ let y = l_in x px t in let z = l_in (f x) (c.stays x px) u in cc
                | inr u ↦ absurd (j (leave x px t u))
              ]
              | inr t ↦ elim (cases_Bool (arc (f x))) [
                | inl u ↦ absurd (i (enter x px t u))
                | inr u ↦ let y = l_out x px t in let z = l_out (f x) (c.stays x px) u in cc
              ]
            ]
          ]
        ]
        | inr (inl i) ↦ let j = l_out q pq arc_q in cc (ap f' i, ap label' i)
        | inr (inr i) ↦ let j = l_in p pp arc_p in cc (ap f' i, ap label' i)
      ];
      joined = λ x y p'x p'y e.
          let i = sided (Reaches (By f')) (λ z. here) q pq arc_q (sym lm) (step f'm) p pp arc_p (step f'n) x p'x in
          let o = sided (λ z u. Reaches (By f') u z) (λ z. here) a pa arc_a (sym (c.along a pa) ∙ ap label ap' ∙ same ∙ sym lm) (step f'a)
          b pb arc_b (step f'b) y p'y in
          elim i [
            | inl (u, pu, ou, lu, wu) ↦ elim o [
              | inl (t, pt, ot, lt, wt) ↦ then wu (then
                  (part_reaches P f f' label arc q a m c f'a f'm (ap arc ap' ∙ arc_p)
                  (λ z pz oz d. others z pz d (λ j. false≢true (sym oz ∙ ap arc j ∙ arc_b))) enter
                  (λ z pz i j. ap f (leave z pz i j) ∙ bq) u t pu pt ou ot (lu ∙ e ∙ sym lt)) wt)
              | inr (t, pt, ot, lt, wt) ↦ absurd (vacant u pu (lu ∙ e ∙ lt))
            ]
            | inr (u, pu, ou, lu, wu) ↦ elim o [
              | inl (t, pt, ot, lt, wt) ↦ absurd (vacant t pt (lt ∙ sym e ∙ lu))
              | inr (t, pt, ot, lt, wt) ↦ then wu (then
                  (part_reaches P f f' label (λ z. not (arc z)) p b n c f'b f'n (ap not (ap arc bq ∙ arc_q))
                  (λ z pz oz d. others z pz (λ j. false≢true (sym arc_a ∙ ap arc (sym j) ∙ not-false (arc z) oz)) d)
                  (λ z pz i j. leave z pz (not-false (arc z) i) (not-true (arc (f z)) j))
                  (λ z pz i j. ap f (enter z pz (not-true (arc z) i) (not-false (arc (f z)) j)) ∙ ap')
                  u t pu pt (ap not ou) (ap not ot) (in_face u pu ou ∙ sym (in_face t pt ot))) wt)
            ]
          ];
    }
