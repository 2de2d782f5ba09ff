-- Walks that are listed item by item: the least item, and what was written of them.
use Rattle.std.proofs.Common.{◌≡◌, ◌≢◌, ◌⊎◌, inl, inr, ℕ, zero, suc, ◌*◌, ◌/◌, ◌<◌, ◌≤◌, ◌==◌, Bool, true, false, List, [], ◌∷◌, ◌++◌, Some, None, refl, sym, ap, ◌∙◌, arith, eq-eqb, append_assoc, append-nil}
use Rattle.std.specs.Fmt.{decimal}
use Rattle.std.proofs.lemmas.Bool.{and_from, and_parts, cases_lt, cases_eq, eqb-true, false_from_ne_true}
use Rattle.dcel_maps.specs.Maps.{has_label}
use Rattle.dcel_maps.specs.Shapes.{Shape, Mesh, IsLive, AnchorsVertex, edge_is_live, map_of, origin_of, vertex_anchor}
use Rattle.dcel_maps.specs.Walking.{IsOutEdge, in_mesh}
use Rattle.dcel_maps.specs.Words.{count_of}
use Rattle.dcel_maps.proofs.walks.Items.{ComesFirst, first_item, none_left}
use Rattle.dcel_maps.proofs.words.Counts.{count-same, count-other, count-later}
use Rattle.dcel_text.specs.Texts.{listed}
use Rattle.dcel_commands.specs.request.Out.{least_below, least_out}
use Rattle.dcel_text.proofs.Listing.{listed-push}

-- ---- the least number that passes a test

pub least_below-none : (test : ℕ → Bool) (n : ℕ) → ((k : ℕ) → k < n → test k ≡ false) → least_below test n ≡ None
least_below-none test zero none = refl
least_below-none test (suc n) none =
    rw (least_below-none test n (λ k lt. none k (omega arith)), none n (omega arith)) refl

pub least_below-some : (test : ℕ → Bool) (n h : ℕ) → h < n → test h ≡ true → ((k : ℕ) → k < h → test k ≡ false) → least_below test n ≡ Some h
least_below-some test zero h lt passes least = absurd (omega arith)
least_below-some test (suc n) h lt passes least =
    elim (cases_lt h n) [
      | inl below ↦ rw (least_below-some test n h below passes least) refl
      | inr le ↦
          let same : n ≡ h = omega arith in
          rw (least_below-none test n (λ k lt. least k (omega arith)), ap test same ∙ passes, same) refl
    ]

-- ---- half edges that start at a vertex

-- the test that finds them
abbrev starts_at : Shape → ℕ → ℕ → Bool
starts_at s v = has_label (map_of s) (origin_of s) v

starts_at-out : (s : Shape) (v h : ℕ) → IsOutEdge s v h → starts_at s v h ≡ true
starts_at-out s v h out = and_from (edge_is_live s (h / 2)) (origin_of s h == v) out.live (eq-eqb (origin_of s h) v out.start)

out-starts_at : (s : Shape) (v h : ℕ) → starts_at s v h ≡ true → IsOutEdge s v h
out-starts_at s v h passes =
    let both = and_parts (edge_is_live s (h / 2)) (origin_of s h == v) passes in
    record { live = both.0; start = eqb-true (origin_of s h) v both.1 }

pub least_out-none : (s : Shape) (v : ℕ) → ((h : ℕ) → IsLive s h → origin_of s h ≢ v) → least_out s v ≡ None
least_out-none s v bare =
    least_below-none (starts_at s v) (2 * s.edges) (λ h lt. false_from_ne_true (starts_at s v h) (λ passes.
    let out = out-starts_at s v h passes in bare h out.live out.start))

pub least_out-some : (s : Shape) (v h : ℕ) → h < 2 * s.edges → IsOutEdge s v h → ((k : ℕ) → IsOutEdge s v k → h ≤ k) → least_out s v ≡ Some h
least_out-some s v h lt out least =
    least_below-some (starts_at s v) (2 * s.edges) h lt (starts_at-out s v h out) (λ k below. false_from_ne_true (starts_at s v k) (λ passes.
    omega (arith, least k (out-starts_at s v k passes))))

pub no_anchor : {V DE UE F : Type 0} (m : Mesh V DE UE F) (v : ℕ) → None ≡ vertex_anchor m v → AnchorsVertex m.shape v (vertex_anchor m v) → least_out m.shape v ≡ None
no_anchor m v none anchored = least_out-none m.shape v (rw (← none) at anchored)

-- ---- the least item of a list, as far as it was seen

-- the half edges that are left to come of those with a property, and the least of those that came
pub record LeastSeen {M : Type 0} (mesh : M) (items : List (M × ℕ)) (P : ℕ → Type 0) (least : ℕ) : Type 0 where
  pub left : List ℕ
  pub items_are : items ≡ in_mesh mesh left
  pub stands : P least
  pub all_stand : (h : ℕ) → 0 < count_of h left → P h
  pub seen : (h : ℕ) → P h → (0 < count_of h left) ⊎ (least ≤ h)

-- an item came, and the least so far is it or the old one
pub least_goes_on : {M : Type 0} (mesh : M) (items more : List (M × ℕ)) (P : ℕ → Type 0) (least : ℕ) (m : M) (k : ℕ) → LeastSeen mesh items P least → items ≡ (m, k) ∷ more
    → (m ≡ mesh) × P k × (k < least → LeastSeen mesh more P k) × (least ≤ k → LeastSeen mesh more P least)
least_goes_on mesh items more P least m k s e = (came.same_mesh, stands, (λ lt. smaller lt), (λ le. not_smaller le))
  where
    came : ComesFirst mesh m k more s.left
    came = first_item mesh m k more s.left (sym e ∙ s.items_are)

    stands : P k
    stands = s.all_stand k (omega (arith, ap (count_of k) came.left_is, count-same k came.rest))

    others_stand : (h : ℕ) → 0 < count_of h came.rest → P h
    others_stand h found = s.all_stand h (omega (arith, ap (count_of h) came.left_is, count-later h k came.rest found))

    seen_too : (h : ℕ) → P h → (0 < count_of h came.rest) ⊎ ((h ≡ k) ⊎ (least ≤ h))
    seen_too h p =
        elim (s.seen h p) [
          | inl found ↦ elim (cases_eq h k) [
            | inl same ↦ inr (inl same)
            | inr differs ↦ inl (omega (arith, found, ap (count_of h) came.left_is, count-other h k came.rest differs))
          ]
          | inr le ↦ inr (inr le)
        ]

    smaller : k < least → LeastSeen mesh more P k
    smaller lt = record {
      left = came.rest;
      items_are = came.more_are;
      stands = stands;
      all_stand = others_stand;
      seen = λ h p. elim (seen_too h p) [
        | inl found ↦ inl found
        | inr other ↦ inr (elim other [ inl same ↦ omega (arith, same) | inr le ↦ omega (arith, le, lt) ])
      ];
    }

    not_smaller : least ≤ k → LeastSeen mesh more P least
    not_smaller le = record {
      left = came.rest;
      items_are = came.more_are;
      stands = s.stands;
      all_stand = others_stand;
      seen = λ h p. elim (seen_too h p) [
        | inl found ↦ inl found
        | inr other ↦ inr (elim other [ inl same ↦ omega (arith, same, le) | inr below ↦ below ])
      ];
    }

-- no item is left
pub least_is_found : {M : Type 0} (mesh : M) (items : List (M × ℕ)) (P : ℕ → Type 0) (least : ℕ) → LeastSeen mesh items P least → items ≡ [] → (h : ℕ) → P h → least ≤ h
least_is_found mesh items P least s none h p =
    elim (s.seen h p) [
      | inl found ↦ absurd (omega (arith, found, ap (count_of h) (none_left mesh s.left (sym none ∙ s.items_are))))
      | inr le ↦ le
    ]

-- ---- items that are written one after another

-- some items came, the others are left
pub record ListedSoFar {M : Type 0} (mesh : M) (items : List (M × ℕ)) (whole : List ℕ) : Type 0 where
  pub passed : List ℕ
  pub left : List ℕ
  pub items_are : items ≡ in_mesh mesh left
  pub whole_is : passed ++ left ≡ whole

pub listing_begins : {M : Type 0} (mesh : M) (items : List (M × ℕ)) (whole : List ℕ) → items ≡ in_mesh mesh whole → (l : ListedSoFar mesh items whole) × (listed l.passed ≡ [])
listing_begins mesh items whole are = (record { passed = []; left = whole; items_are = are; whole_is = refl }, refl)

pub listing_goes_on : {M : Type 0} (mesh : M) (items more : List (M × ℕ)) (whole : List ℕ) (m : M) (k : ℕ) (l : ListedSoFar mesh items whole) → items ≡ (m, k) ∷ more
    → (n : ListedSoFar mesh more whole) × (listed n.passed ≡ listed l.passed ++ 32 ∷ decimal k)
listing_goes_on mesh items more whole m k l e =
    let came = first_item mesh m k more l.left (sym e ∙ l.items_are) in (
      record {
        passed = l.passed ++ k ∷ [];
        left = came.rest;
        items_are = came.more_are;
        whole_is = append_assoc l.passed (k ∷ []) came.rest ∙ ap (λ (x : List ℕ). l.passed ++ x) (sym came.left_is) ∙ l.whole_is;
      },
      listed-push l.passed k,
    )

pub listing_ends : {M : Type 0} (mesh : M) (items : List (M × ℕ)) (whole : List ℕ) (l : ListedSoFar mesh items whole) → items ≡ [] → l.passed ≡ whole
listing_ends mesh items whole l none = sym (append-nil l.passed) ∙ ap (λ (x : List ℕ). l.passed ++ x) (sym (none_left mesh l.left (sym none ∙ l.items_are))) ∙ l.whole_is
