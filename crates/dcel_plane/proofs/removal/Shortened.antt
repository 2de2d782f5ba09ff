-- A vertex of a straight line taken out, with one of its edges: the other vertices stand in their order still.
use Rattle.std.proofs.Common.{◌≡◌, ◌≢◌, ◌⊎◌, inl, inr, ℕ, refl, sym, ap, ◌∙◌, subst, ℤ, pos, neg_ℤ, ◌<ℤ◌, arith}
use Rattle.std.proofs.lemmas.Bool.{cases_eq}
use Rattle.std.proofs.lemmas.Int.{by_lt_z}
use Rattle.dcel_fixed.specs.HalfEdges.{rev}
use Rattle.dcel_fixed.proofs.Halves.{rev-rev}
use Rattle.dcel_predicates.specs.declared.point.Point.{Point}
use Rattle.dcel_predicates.specs.Determinants.{orient2d_of}
use Rattle.dcel_predicates.proofs.Signs.{ordered}
use Rattle.dcel_maps.specs.Shapes.{IsLive, Shape, end_of, origin_of}
use Rattle.dcel_plane.proofs.covering.Along.{long}
use Rattle.dcel_plane.specs.hull.Straight.{IsStraight}
use Rattle.dcel_plane.proofs.hull.OneLine.{InOrder, order_of, straight_of}
use Rattle.dcel_plane.specs.covering.Covering.{dot}

-- g is s without the edge of b, and a starts where b ended; from where a started, only these two lead
pub record IsShortened (s g : Shape) (a b : ℕ) : Type 0 where
  pub turned_before : (x : ℕ) → IsLive s x → IsLive s (rev x)
  pub two_ends : (x : ℕ) → IsLive s x → origin_of s x ≢ end_of s x
  pub live_a : IsLive s a
  pub live_b : IsLive s b
  pub start_b : origin_of s b ≡ origin_of s a
  pub only : (x : ℕ) → IsLive s x → origin_of s x ≡ origin_of s a → (x ≡ a) ⊎ (x ≡ b)
  pub turned : (x : ℕ) → IsLive g x → IsLive g (rev x)
  pub live : (x : ℕ) → IsLive g x → IsLive s x
  pub off : (x : ℕ) → IsLive g x → (x ≢ b) × (x ≢ rev b)
  pub kept : (x : ℕ) → IsLive s x → x ≢ b → x ≢ rev b → IsLive g x
  pub same : (x : ℕ) → IsLive g x → x ≢ a → origin_of g x ≡ origin_of s x
  pub moved : IsLive g a → origin_of g a ≡ end_of s b

-- the order the other way round
mirrored : (d : ℕ → ℤ) (s : Shape) → ((x : ℕ) → IsLive s x → IsLive s (rev x)) → InOrder d s → InOrder (λ v. neg_ℤ (d v)) s
mirrored d s back order = record {
  distinct = λ h k live_h live_k same. order.distinct h k live_h live_k (omega (arith, ordered, same));
  between = λ h k live_h live_k less more.
      order.between (rev h) k (back h live_h) live_k
      (omega (arith, ordered, more)) (subst (λ (i : ℕ). d (origin_of s k) <ℤ d (origin_of s i)) (sym (rev-rev h)) (omega (arith, ordered, less)));
  once_up = λ h k live_h live_k same up_h up_k. order.once_down h k live_h live_k same (omega (arith, ordered, up_h)) (omega (arith, ordered, up_k));
  once_down = λ h k live_h live_k same down_h down_k. order.once_up h k live_h live_k same (omega (arith, ordered, down_h)) (omega (arith, ordered, down_k));
  up = λ h k live_h live_k up_h more.
      let (g, live_g, starts, less) = order.down h k live_h live_k (omega (arith, ordered, up_h)) (omega (arith, ordered, more)) in
      (g, live_g, starts, omega (arith, ordered, less));
  down = λ h k live_h live_k down_h less.
      let (g, live_g, starts, more) = order.up h k live_h live_k (omega (arith, ordered, down_h)) (omega (arith, ordered, less)) in
      (g, live_g, starts, omega (arith, ordered, more));
}

module _ (d : ℕ → ℤ) (s g : Shape) (order : InOrder d s) (a b : ℕ) (is : IsShortened s g a b) where
  -- the vertex that goes, and where its two half edges lead
  abbrev v : ℕ
  v = origin_of s a

  abbrev p : ℕ
  p = end_of s a

  abbrev q : ℕ
  q = end_of s b

  from_b : d (origin_of s b) ≡ d (origin_of s a)
  from_b = ap d is.start_b

  back_a : d (end_of s (rev a)) ≡ d (origin_of s a)
  back_a = ap (λ k. d (origin_of s k)) (rev-rev a)

  back_b : d (end_of s (rev b)) ≡ d (origin_of s a)
  back_b = ap (λ k. d (origin_of s k)) (rev-rev b) ∙ from_b

  apart : (x : ℕ) → IsLive s x → d (origin_of s x) ≡ d (end_of s x) → ⊥
  apart x live same = is.two_ends x live (order.distinct x (rev x) live (is.turned_before x live) same)

  -- they lead opposite ways
  record Between (x y : ℤ) : Type 0 where
    low : x <ℤ d (origin_of s a)
    high : d (origin_of s a) <ℤ y

  opposite : a ≢ b → Between (d q) (d p) ⊎ Between (d p) (d q)
  opposite other =
      let f = from_b in
      by_lt_z (d v) (d p)
      (λ up_a. by_lt_z (d q) (d v) (λ down_b. inl (record { low = down_b; high = up_a }))
      (λ not. absurd (by_lt_z (d v) (d q)
      (λ up_b. other (order.once_up a b is.live_a is.live_b (sym is.start_b) up_a (omega (arith, ordered, f, up_b))))
      (λ nor. apart b is.live_b (omega (arith, ordered, f, not, nor))))))
      (λ not_up. by_lt_z (d p) (d v)
      (λ down_a. by_lt_z (d v) (d q) (λ up_b. inr (record { low = down_a; high = up_b }))
      (λ not. absurd (by_lt_z (d q) (d v)
      (λ down_b. other (order.once_down a b is.live_a is.live_b (sym is.start_b) down_a (omega (arith, ordered, f, down_b))))
      (λ nor. apart b is.live_b (omega (arith, ordered, f, not, nor))))))
      (λ nor. absurd (apart a is.live_a (omega (arith, ordered, not_up, nor)))))

  turned_apart : (x : ℕ) → IsLive s x → rev x ≢ x
  turned_apart x live same = is.two_ends x live (ap (origin_of s) (sym same))

  -- where half edges lead now
  end_same : (x : ℕ) → IsLive g x → rev x ≢ a → end_of g x ≡ end_of s x
  end_same x live not = is.same (rev x) (is.turned x live) not

  end_moved : (x : ℕ) → IsLive g x → rev x ≡ a → end_of g x ≡ q
  end_moved x live at_a = ap (origin_of g) at_a ∙ is.moved (subst (λ (k : ℕ). IsLive g k) at_a (is.turned x live))

  end_a : IsLive g a → end_of g a ≡ p
  end_a live = end_same a live (turned_apart a is.live_a)

  not_one : IsLive g a → a ≢ b
  not_one live = (is.off a live).0

  -- where x starts now a half edge started, which led up if x does
  record Old (x : ℕ) : Type 0 where
    y : ℕ
    live : IsLive s y
    start : origin_of g x ≡ origin_of s y
    up : d (origin_of g x) <ℤ d (end_of g x) → d (origin_of s y) <ℤ d (end_of s y)
    which : ((x ≡ a) × (y ≡ rev b)) ⊎ ((x ≢ a) × (y ≡ x))

  old_a : (x : ℕ) → IsLive g x → x ≡ a → Old x
  old_a x live_x at_a =
      let live = subst (λ (k : ℕ). IsLive g k) at_a live_x in
      let start : origin_of g x ≡ q = ap (origin_of g) at_a ∙ is.moved live in
      let end : end_of g x ≡ p = ap (end_of g) at_a ∙ end_a live in
      let z = back_b in
      record {
        y = rev b;
        live = is.turned_before b is.live_b;
        start = start;
        up = λ more.
            (let s' = ap d start in
            let e' = ap d end in
            elim (opposite (not_one live)) [
              | inl ways ↦ (let low = ways.low in omega (arith, ordered, low, z))
              | inr ways ↦ absurd (let low = ways.low in let high = ways.high in omega (arith, ordered, low, high, more, s', e'))
            ]);
        which = inl (at_a, refl);
      }

  old_other : (x : ℕ) → IsLive g x → x ≢ a → Old x
  old_other x live not_a =
      let start = is.same x live not_a in
      record {
        y = x;
        live = is.live x live;
        start = start;
        up = λ more. elim (cases_eq (rev x) a) [
          | inr other ↦
              (let s' = ap d start in
              let e' = ap d (end_same x live other) in
              omega (arith, ordered, s', e', more))
          | inl at_a ↦
              let live_a = subst (λ (k : ℕ). IsLive g k) at_a (is.turned x live) in
              let s' = ap d start in
              let e' = ap d (end_moved x live at_a) in
              let at_p : d (origin_of s x) ≡ d p = ap (λ k. d (origin_of s k)) (sym (rev-rev x) ∙ ap rev at_a) in
              let at_v : d (end_of s x) ≡ d v = ap (λ k. d (origin_of s k)) at_a in
              elim (opposite (not_one live_a)) [
                | inr ways ↦ (let low = ways.low in omega (arith, ordered, low, at_p, at_v))
                | inl ways ↦ absurd (let low = ways.low in let high = ways.high in omega (arith, ordered, low, high, more, s', e', at_p))
              ]
        ];
        which = inr (not_a, refl);
      }

  old : (x : ℕ) → IsLive g x → Old x
  old x live = elim (cases_eq x a) [ inl at_a ↦ old_a x live at_a | inr other ↦ old_other x live other ]

  -- nothing starts at v any more
  none : (x : ℕ) → IsLive g x → origin_of g x ≢ v
  none x live at_v = elim (cases_eq x a) [
    | inl at_a ↦
        let live_a = subst (λ (k : ℕ). IsLive g k) at_a live in
        is.two_ends b is.live_b (is.start_b ∙ sym at_v ∙ ap (origin_of g) at_a ∙ is.moved live_a)
    | inr not_a ↦ elim (is.only x (is.live x live) (sym (is.same x live not_a) ∙ at_v)) [
      | inl at_a ↦ not_a at_a
      | inr at_b ↦ (is.off x live).0 at_b
    ]
  ]

  none_placed : (x : ℕ) → IsLive g x → d (origin_of g x) ≡ d v → ⊥
  none_placed x live same =
      let o = old x live in
      none x live (o.start ∙ order.distinct o.y a o.live is.live_a (ap d (sym o.start) ∙ same))

  -- no vertex stands between the two neighbors now
  between_two : (z : ℕ) → IsLive g z → (x y : ℕ) → IsLive s x → IsLive s y → d (end_of s x) ≡ d v → d (origin_of s y) ≡ d v
      → d (origin_of s x) <ℤ d (origin_of g z) → d (origin_of g z) <ℤ d (end_of s y) → ⊥
  between_two z live_z x y live_x live_y to_v from_v less more =
      let o = old z live_z in
      let at_z = ap d o.start in
      by_lt_z (d (origin_of g z)) (d v)
      (λ below. order.between x o.y live_x o.live (omega (arith, ordered, less, at_z)) (omega (arith, ordered, below, at_z, to_v)))
      (λ not. by_lt_z (d v) (d (origin_of g z))
      (λ above. order.between y o.y live_y o.live (omega (arith, ordered, above, at_z, from_v)) (omega (arith, ordered, more, at_z)))
      (λ nor. none_placed z live_z (omega (arith, ordered, not, nor))))

  pub still_between : (h k : ℕ) → IsLive g h → IsLive g k → d (origin_of g h) <ℤ d (origin_of g k) → d (origin_of g k) <ℤ d (end_of g h) → ⊥
  still_between h k live_h live_k less more = elim (cases_eq h a) [
    | inl at_a ↦
        let live = subst (λ (i : ℕ). IsLive g i) at_a live_h in
        let s' = ap d (ap (origin_of g) at_a ∙ is.moved live) in
        let e' = ap d (ap (end_of g) at_a ∙ end_a live) in
        elim (opposite (not_one live)) [
          | inr ways ↦ (let low = ways.low in let high = ways.high in omega (arith, ordered, low, high, less, more, s', e'))
          | inl ways ↦
              between_two k live_k (rev b) a (is.turned_before b is.live_b) is.live_a back_b refl (omega (arith, ordered, s', less)) (omega (arith, ordered, e', more))
        ]
    | inr not_a ↦ elim (cases_eq (rev h) a) [
      | inl at_a ↦
          let live_a = subst (λ (i : ℕ). IsLive g i) at_a (is.turned h live_h) in
          let s' = ap d (is.same h live_h not_a ∙ ap (origin_of s) (sym (rev-rev h) ∙ ap rev at_a)) in
          let e' = ap d (end_moved h live_h at_a) in
          elim (opposite (not_one live_a)) [
            | inl ways ↦ (let low = ways.low in let high = ways.high in omega (arith, ordered, low, high, less, more, s', e'))
            | inr ways ↦
                between_two k live_k (rev a) b (is.turned_before a is.live_a) is.live_b back_a from_b (omega (arith, ordered, s', less)) (omega (arith, ordered, e', more))
          ]
      | inr other ↦
          let o = old k live_k in
          let at_k = ap d o.start in
          let s' = ap d (is.same h live_h not_a) in
          let e' = ap d (end_same h live_h other) in
          order.between h o.y (is.live h live_h) o.live (omega (arith, ordered, less, s', at_k)) (omega (arith, ordered, more, e', at_k))
    ]
  ]

  pub still_once : (h k : ℕ) → IsLive g h → IsLive g k → origin_of g h ≡ origin_of g k → d (origin_of g h) <ℤ d (end_of g h) → d (origin_of g k) <ℤ d (end_of g k) → h ≡ k
  still_once h k live_h live_k same up_h up_k =
      let f = old h live_h in
      let o = old k live_k in
      let one : f.y ≡ o.y = order.once_up f.y o.y f.live o.live (sym f.start ∙ same ∙ o.start) (f.up up_h) (o.up up_k) in
      elim f.which [
        | inl at_a ↦ elim o.which [
          | inl too ↦ at_a.0 ∙ sym too.0
          | inr other ↦ absurd ((is.off k live_k).1 (sym other.1 ∙ sym one ∙ at_a.1))
        ]
        | inr not_a ↦ elim o.which [
          | inl too ↦ absurd ((is.off h live_h).1 (sym not_a.1 ∙ one ∙ too.1))
          | inr other ↦ sym not_a.1 ∙ one ∙ other.1
        ]
      ]

  -- what leads up from a vertex w before, and what does now
  record Leads (w y : ℕ) : Type 0 where
    live : IsLive s y
    start : origin_of s y ≡ w
    up : d w <ℤ d (end_of s y)

  abbrev LeadsOn : ℕ → Type 0
  LeadsOn w = (i : ℕ) × IsLive g i × (origin_of g i ≡ w) × (d w <ℤ d (end_of g i))

  -- where a vertex lies beyond w, what led on from w to v leads on past it
  through : (w k : ℕ) → Leads w (rev b) → IsLive g k → d w <ℤ d (origin_of g k) → LeadsOn w
  through w k leads live_k more = elim (cases_eq a b) [
    | inr other ↦
        let live : IsLive g a = is.kept a is.live_a other (λ at_b. is.two_ends b is.live_b (is.start_b ∙ ap (origin_of s) at_b)) in
        let start : origin_of g a ≡ w = is.moved live ∙ leads.start in
        let at_w = ap d leads.start in
        let e' = ap d (end_a live) in
        let up = leads.up in
        let z = back_b in (
          a,
          live,
          start,
          elim (opposite other) [
            | inl ways ↦ (let low = ways.low in let high = ways.high in omega (arith, ordered, low, high, at_w, e'))
            | inr ways ↦ absurd (let high = ways.high in omega (arith, ordered, high, at_w, up, z))
          ],
        )
    | inl one ↦ absurd
        (let o = old k live_k in
        let at_k = ap d o.start in
        let at_w = ap d leads.start in
        let up = leads.up in
        let z = back_b in
        let back = is.turned_before b is.live_b in
        by_lt_z (d (origin_of g k)) (d v)
        (λ below. order.between (rev b) o.y back o.live (omega (arith, ordered, at_w, more, at_k)) (omega (arith, ordered, below, at_k, z)))
        (λ not. by_lt_z (d v) (d (origin_of g k))
        (λ above.
        let (y, live_y, starts, up_y) = order.up (rev b) o.y back o.live (omega (arith, ordered, at_w, up)) (omega (arith, ordered, above, at_k, z)) in
        let at_v : origin_of s y ≡ v = starts ∙ ap (origin_of s) (rev-rev b) ∙ is.start_b in
        let at_b : y ≡ b = elim (is.only y live_y at_v) [ inl at_a ↦ at_a ∙ one | inr at ↦ at ] in
        let to_q = ap (λ i. d (end_of s i)) at_b in
        omega (arith, ordered, up_y, to_q, at_w, up, z))
        (λ nor. none_placed k live_k (omega (arith, ordered, not, nor)))))
  ]

  leads_on : (w y k : ℕ) → Leads w y → w ≢ v → IsLive g k → d w <ℤ d (origin_of g k) → LeadsOn w
  leads_on w y k leads not_v live_k more =
      let not_a : y ≢ a = λ at. not_v (sym leads.start ∙ ap (origin_of s) at) in
      let not_b : y ≢ b = λ at. not_v (sym leads.start ∙ ap (origin_of s) at ∙ is.start_b) in
      elim (cases_eq y (rev b)) [
        | inl at ↦ through w k (subst (λ (i : ℕ). Leads w i) at leads) live_k more
        | inr other ↦
            let live : IsLive g y = is.kept y leads.live not_b other in
            let start : origin_of g y ≡ w = is.same y live not_a ∙ leads.start in
            let up = leads.up in (
              y,
              live,
              start,
              elim (cases_eq (rev y) a) [
                | inr off ↦ (let e' = ap d (end_same y live off) in omega (arith, ordered, e', up))
                | inl at_a ↦
                    let live_a = subst (λ (i : ℕ). IsLive g i) at_a (is.turned y live) in
                    let e' = ap d (end_moved y live at_a) in
                    let at_w : d w ≡ d p = ap d (sym leads.start) ∙ ap (λ i. d (origin_of s i)) (sym (rev-rev y) ∙ ap rev at_a) in
                    let to_v : d (end_of s y) ≡ d v = ap (λ i. d (origin_of s i)) at_a in
                    elim (opposite (not_one live_a)) [
                      | inr ways ↦ (let low = ways.low in let high = ways.high in omega (arith, ordered, low, high, at_w, e'))
                      | inl ways ↦ absurd (let high = ways.high in omega (arith, ordered, high, at_w, to_v, up))
                    ]
              ],
            )
      ]

  -- h leads to w, and a vertex lies beyond it
  before : (h k w x : ℕ) → IsLive g k → IsLive s x → end_of s x ≡ w → d (origin_of s x) <ℤ d (end_of s x) → w ≢ v → d w <ℤ d (origin_of g k) → LeadsOn w
  before h k w x live_k live_x ends up not_v more =
      let o = old k live_k in
      let at_k = ap d o.start in
      let at_w = ap d ends in
      let (y, live_y, starts, up_y) = order.up x o.y live_x o.live up (omega (arith, ordered, more, at_k, at_w)) in
      leads_on w y k (record { live = live_y; start = starts ∙ ends; up = omega (arith, ordered, up_y, at_w) }) not_v live_k more

  pub still_up : (h k : ℕ) → IsLive g h → IsLive g k → d (origin_of g h) <ℤ d (end_of g h) → d (end_of g h) <ℤ d (origin_of g k)
      → (i : ℕ) × IsLive g i × (origin_of g i ≡ end_of g h) × (d (end_of g h) <ℤ d (end_of g i))
  still_up h k live_h live_k up_h more =
      let not_v : end_of g h ≢ v = none (rev h) (is.turned h live_h) in
      elim (cases_eq h a) [
        | inl at_a ↦
            let live = subst (λ (i : ℕ). IsLive g i) at_a live_h in
            let end : end_of g h ≡ p = ap (end_of g) at_a ∙ end_a live in
            let s' = ap d (ap (origin_of g) at_a ∙ is.moved live) in
            let e' = ap d end in
            elim (opposite (not_one live)) [
              | inr ways ↦ absurd (let low = ways.low in let high = ways.high in omega (arith, ordered, low, high, up_h, s', e'))
              | inl ways ↦ before h k (end_of g h) a live_k is.live_a (sym end) (let high = ways.high in high) not_v more
            ]
        | inr not_a ↦ elim (cases_eq (rev h) a) [
          | inl at_a ↦
              let live_a = subst (λ (i : ℕ). IsLive g i) at_a (is.turned h live_h) in
              let end = end_moved h live_h at_a in
              let s' = ap d (is.same h live_h not_a ∙ ap (origin_of s) (sym (rev-rev h) ∙ ap rev at_a)) in
              let e' = ap d end in
              elim (opposite (not_one live_a)) [
                | inl ways ↦ absurd (let low = ways.low in let high = ways.high in omega (arith, ordered, low, high, up_h, s', e'))
                | inr ways ↦
                    before h k (end_of g h) b live_k is.live_b (sym end) (let high = ways.high in let f = from_b in omega (arith, ordered, high, f)) not_v more
              ]
          | inr other ↦
              let end = end_same h live_h other in
              let s' = ap d (is.same h live_h not_a) in
              let e' = ap d end in
              before h k (end_of g h) h live_k (is.live h live_h) (sym end) (omega (arith, ordered, up_h, s', e')) not_v more
        ]
      ]

  pub still_distinct : (h k : ℕ) → IsLive g h → IsLive g k → d (origin_of g h) ≡ d (origin_of g k) → origin_of g h ≡ origin_of g k
  still_distinct h k live_h live_k same =
      let f = old h live_h in
      let o = old k live_k in
      f.start ∙ order.distinct f.y o.y f.live o.live (ap d (sym f.start) ∙ same ∙ ap d o.start) ∙ sym o.start

  pub old_start : (P : ℕ → Type 0) → ((j : ℕ) → IsLive s j → P (origin_of s j)) → (k : ℕ) → IsLive g k → P (origin_of g k)
  old_start P holds k live = let o = old k live in subst P (sym o.start) (holds o.y o.live)

pub still_in_order : (d : ℕ → ℤ) (s g : Shape) → InOrder d s → (a b : ℕ) → IsShortened s g a b → InOrder d g
still_in_order d s g order a b is =
    record {
      distinct = still_distinct d s g order a b is;
      between = still_between d s g order a b is;
      once_up = still_once d s g order a b is;
      once_down = λ h k live_h live_k same down_h down_k.
          still_once (λ v. neg_ℤ (d v)) s g (mirrored d s is.turned_before order) a b is h k live_h live_k same (omega (arith, ordered, down_h)) (omega (arith, ordered, down_k));
      up = still_up d s g order a b is;
      down = λ h k live_h live_k down_h less.
          let (i, live_i, starts, more) =
          still_up (λ v. neg_ℤ (d v)) s g (mirrored d s is.turned_before order) a b is h k live_h live_k (omega (arith, ordered, down_h)) (omega (arith, ordered, less)) in
          (i, live_i, starts, omega (arith, ordered, more));
    }

pub shortened_straight : (at : ℕ → Point) (s g : Shape) (a b : ℕ) → IsShortened s g a b → IsStraight at s → IsStraight at g
shortened_straight at s g a b is straight =
    let from = at (origin_of s a) in
    let to = at (end_of s a) in
    let far : pos 0 <ℤ dot to to from =
    long to from (λ ex ey. is.two_ends a is.live_a (straight.distinct a (rev a) is.live_a (is.turned_before a is.live_a) (sym ex) (sym ey))) in
    let order : InOrder (λ v. dot (at v) to from) s = order_of s at from to far is.turned_before (λ k live_k. straight.line a k is.live_a live_k) straight in
    straight_of g at from to far is.turned
    (old_start (λ v. dot (at v) to from) s g order a b is (λ v. orient2d_of from to (at v) ≡ pos 0) (λ k live_k. straight.line a k is.live_a live_k))
    (still_in_order (λ v. dot (at v) to from) s g order a b is)
