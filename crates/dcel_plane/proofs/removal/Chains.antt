-- A path whose half edges are the sides of a chain of vertices, forth and back, is in the order of their places.
use Rattle.std.proofs.Common.{◌≡◌, ◌⊎◌, inl, inr, ℕ, zero, suc, ◌<◌, ◌≤◌, refl, sym, ap, ◌∙◌, subst, ℤ, ◌<ℤ◌, arith}
use Rattle.std.proofs.lemmas.Bool.{cases_lt}
use Rattle.dcel_fixed.specs.HalfEdges.{rev}
use Rattle.dcel_fixed.proofs.Halves.{rev-rev}
use Rattle.dcel_predicates.proofs.Signs.{ordered}
use Rattle.dcel_maps.specs.Shapes.{IsLive, Shape, end_of, origin_of}
use Rattle.dcel_plane.proofs.hull.OneLine.{InOrder}

-- the side i leads from the vertex i to the next one, and stands with its other half for all that is live
pub record IsChain (s : Shape) (d : ℕ → ℤ) (k : ℕ) (vertex side : ℕ → ℕ) : Type 0 where
  pub grows : (i j : ℕ) → i < j → j ≤ k → d (vertex i) <ℤ d (vertex j)
  pub live : (i : ℕ) → i < k → IsLive s (side i)
  pub turned : (x : ℕ) → IsLive s x → IsLive s (rev x)
  pub start : (i : ℕ) → i < k → origin_of s (side i) ≡ vertex i
  pub end : (i : ℕ) → i < k → end_of s (side i) ≡ vertex (suc i)
  pub all : (x : ℕ) → IsLive s x → (i : ℕ) × (i < k) × ((x ≡ side i) ⊎ (x ≡ rev (side i)))

module _ (s : Shape) (d : ℕ → ℤ) (k : ℕ) (vertex side : ℕ → ℕ) (chain : IsChain s d k vertex side) where
  -- a half edge that leads on, or back
  record Forth (x : ℕ) : Type 0 where
    i : ℕ
    below : i < k
    is : x ≡ side i
    start : origin_of s x ≡ vertex i
    end : end_of s x ≡ vertex (suc i)
    more : d (origin_of s x) <ℤ d (end_of s x)

  record Back (x : ℕ) : Type 0 where
    i : ℕ
    below : i < k
    is : x ≡ rev (side i)
    start : origin_of s x ≡ vertex (suc i)
    end : end_of s x ≡ vertex i
    less : d (end_of s x) <ℤ d (origin_of s x)

  abbrev forth : (i x : ℕ) → i < k → x ≡ side i → Forth x
  forth i x below is =
      let start : origin_of s x ≡ vertex i = ap (origin_of s) is ∙ chain.start i below in
      let end : end_of s x ≡ vertex (suc i) = ap (end_of s) is ∙ chain.end i below in
      record {
        i = i;
        below = below;
        is = is;
        start = start;
        end = end;
        more =
            subst (λ (v : ℕ). d v <ℤ d (end_of s x)) (sym start)
            (subst (λ (v : ℕ). d (vertex i) <ℤ d v) (sym end) (chain.grows i (suc i) (omega arith) (omega (arith, below))));
      }

  abbrev back : (i x : ℕ) → i < k → x ≡ rev (side i) → Back x
  back i x below is =
      let start : origin_of s x ≡ vertex (suc i) = ap (origin_of s) is ∙ chain.end i below in
      let end : end_of s x ≡ vertex i = ap (end_of s) is ∙ ap (origin_of s) (rev-rev (side i)) ∙ chain.start i below in
      record {
        i = i;
        below = below;
        is = is;
        start = start;
        end = end;
        less =
            subst (λ (v : ℕ). d v <ℤ d (origin_of s x)) (sym end)
            (subst (λ (v : ℕ). d (vertex i) <ℤ d v) (sym start) (chain.grows i (suc i) (omega arith) (omega (arith, below))));
      }

  ways : (x : ℕ) → IsLive s x → Forth x ⊎ Back x
  ways x live =
      let (i, below, way) = chain.all x live in
      elim way [ inl is ↦ inl (forth i x below is) | inr is ↦ inr (back i x below is) ]

  goes_forth : (x : ℕ) → IsLive s x → d (origin_of s x) <ℤ d (end_of s x) → Forth x
  goes_forth x live more = elim (ways x live) [ inl is ↦ is | inr is ↦ absurd (let less = is.less in omega (arith, ordered, more, less)) ]

  goes_back : (x : ℕ) → IsLive s x → d (end_of s x) <ℤ d (origin_of s x) → Back x
  goes_back x live less = elim (ways x live) [ inr is ↦ is | inl is ↦ absurd (let more = is.more in omega (arith, ordered, more, less)) ]

  -- the place of a vertex
  record Placed (x : ℕ) : Type 0 where
    j : ℕ
    within : j ≤ k
    is : origin_of s x ≡ vertex j

  placed : (x : ℕ) → IsLive s x → Placed x
  placed x live = elim (ways x live) [
    | inl f ↦ (let below = f.below in record { j = f.i; within = omega (arith, below); is = f.start })
    | inr b ↦ (let below = b.below in record { j = suc b.i; within = omega (arith, below); is = b.start })
  ]

  -- places are in the order of the numbers
  place_order : (i j : ℕ) → i ≤ k → j ≤ k → d (vertex i) <ℤ d (vertex j) → i < j
  place_order i j i_in j_in less = elim (cases_lt i j) [
    | inl is ↦ is
    | inr not ↦ absurd (elim (cases_lt j i) [
      | inl more ↦ (let c = chain.grows j i more i_in in omega (arith, ordered, c, less))
      | inr nor ↦ (let same : i ≡ j = omega (arith, not, nor) in let e = ap (λ n. d (vertex n)) same in omega (arith, ordered, e, less))
    ])
  ]

  place_same : (i j : ℕ) → i ≤ k → j ≤ k → d (vertex i) ≡ d (vertex j) → i ≡ j
  place_same i j i_in j_in same = elim (cases_lt i j) [
    | inl less ↦ absurd (let c = chain.grows i j less j_in in omega (arith, ordered, c, same))
    | inr not ↦ elim (cases_lt j i) [
      | inl more ↦ absurd (let c = chain.grows j i more i_in in omega (arith, ordered, c, same))
      | inr nor ↦ omega (arith, not, nor)
    ]
  ]

  along : (v w i j : ℕ) → v ≡ vertex i → w ≡ vertex j → i ≤ k → j ≤ k → d v <ℤ d w → i < j
  along v w i j at_v at_w i_in j_in less =
      place_order i j i_in j_in (subst (λ (u : ℕ). d (vertex i) <ℤ d u) at_w (subst (λ (u : ℕ). d u <ℤ d w) at_v less))

  one_place : (v w i j : ℕ) → v ≡ vertex i → w ≡ vertex j → i ≤ k → j ≤ k → d v ≡ d w → i ≡ j
  one_place v w i j at_v at_w i_in j_in same = place_same i j i_in j_in (ap d (sym at_v) ∙ same ∙ ap d at_w)

  pub chain_in_order : InOrder d s
  chain_in_order = record {
    distinct = λ h l live_h live_l same.
        let p = placed h live_h in
        let q = placed l live_l in
        p.is ∙ ap vertex (one_place (origin_of s h) (origin_of s l) p.j q.j p.is q.is p.within q.within same) ∙ sym q.is;
    between = λ h l live_h live_l less more.
        let f = goes_forth h live_h (omega (arith, ordered, less, more)) in
        let q = placed l live_l in
        let below = f.below in
        let one = along (origin_of s h) (origin_of s l) f.i q.j f.start q.is (omega (arith, below)) q.within less in
        let two = along (origin_of s l) (end_of s h) q.j (suc f.i) q.is f.end q.within (omega (arith, below)) more in
        omega (arith, one, two);
    once_up = λ h l live_h live_l same up_h up_l.
        let f = goes_forth h live_h up_h in
        let g = goes_forth l live_l up_l in
        let f_below = f.below in
        let g_below = g.below in
        f.is ∙ ap side (one_place (origin_of s h) (origin_of s l) f.i g.i f.start g.start (omega (arith, f_below)) (omega (arith, g_below)) (ap d same)) ∙ sym g.is;
    once_down = λ h l live_h live_l same down_h down_l.
        let f = goes_back h live_h down_h in
        let g = goes_back l live_l down_l in
        let f_below = f.below in
        let g_below = g.below in
        let one = one_place (origin_of s h) (origin_of s l) (suc f.i) (suc g.i) f.start g.start (omega (arith, f_below)) (omega (arith, g_below)) (ap d same) in
        f.is ∙ ap (λ n. rev (side n)) (omega (arith, one)) ∙ sym g.is;
    up = λ h l live_h live_l up_h more.
        let f = goes_forth h live_h up_h in
        let q = placed l live_l in
        let below = f.below in
        let within = q.within in
        let less = along (end_of s h) (origin_of s l) (suc f.i) q.j f.end q.is (omega (arith, below)) q.within more in
        let next = forth (suc f.i) (side (suc f.i)) (omega (arith, less, within)) refl in
        let meets : origin_of s (side (suc f.i)) ≡ end_of s h = next.start ∙ sym f.end in
        (side (suc f.i), chain.live (suc f.i) next.below, meets, subst (λ (v : ℕ). d v <ℤ d (end_of s (side (suc f.i)))) meets next.more);
    down = λ h l live_h live_l down_h less.
        let f = goes_back h live_h down_h in
        let q = placed l live_l in
        let below = f.below in
        let before = along (origin_of s l) (end_of s h) q.j f.i q.is f.end q.within (omega (arith, below)) less in
        leads_back h f.i f.end below (omega (arith, before));
  }
    where
      leads_back : (h i : ℕ) → end_of s h ≡ vertex i → i < k → 0 < i → (g : ℕ) × IsLive s g × (origin_of s g ≡ end_of s h) × (d (end_of s g) <ℤ d (end_of s h))
      leads_back h zero ends below some = absurd (omega (arith, some))
      leads_back h (suc i) ends below some =
          let last = back i (rev (side i)) (omega (arith, below)) refl in
          let meets : origin_of s (rev (side i)) ≡ end_of s h = last.start ∙ sym ends in
          (rev (side i), chain.turned (side i) (chain.live i last.below), meets, subst (λ (v : ℕ). d (end_of s (rev (side i))) <ℤ d v) meets last.less)
