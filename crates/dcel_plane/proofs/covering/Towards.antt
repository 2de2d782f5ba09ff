-- One step towards a place, over the side of a triangle that it lies beyond: the place's power doesn't fall.
use Rattle.std.proofs.Common.{◌≡◌, ◌⊎◌, inl, inr, [], ◌∷◌, ℤ, pos, ◌-ℤ◌, ◌*ℤ◌, ◌<ℤ◌, ◌≤ℤ◌, refl, sym, subst, arith}
use Rattle.std.proofs.lemmas.Int.{by_lt_z}
use Rattle.dcel_predicates.specs.Determinants.{orient2d_of, incircle_of}
use Rattle.dcel_predicates.specs.declared.point.Point.{Point}
use Rattle.dcel_predicates.proofs.Ring.{by_terms}
use Rattle.dcel_predicates.proofs.Signs.{ordered, negative_times, times_negative, times_positive}
use Rattle.dcel_predicates.proofs.Terms.{incircle_in, place, spot}
use Rattle.dcel_plane.specs.covering.Places.{IsIn, Place, incircle_at, orient_at}
use Rattle.dcel_plane.proofs.covering.Caps.{InCap, after_shrinks, area_turned, area_turned_back, before_shrinks, seen_from_other}
use Rattle.dcel_plane.proofs.covering.Crossing.{crossing_at}
use Rattle.dcel_plane.proofs.covering.Inside.{on_end, on_start, other_way}
use Rattle.dcel_plane.proofs.covering.Powers.{IsSmaller, Side, area, less_first, less_second, most, side}
use Rattle.dcel_plane.proofs.covering.Products.{below_times, times_below}

abbrev pub power_at : Place → Side → ℤ
power_at p s = incircle_at s.a s.b s.c p

-- the place's power is greater at t, or the same and the part of the circle is smaller
pub record IsHigherAt (p : Place) (s t : Side) : Type 0 where
  pub stays : (power_at p s *ℤ area t) ≤ℤ (power_at p t *ℤ area s)
  pub rises : ((power_at p s *ℤ area t) <ℤ (power_at p t *ℤ area s)) ⊎ IsSmaller s t

pub itself_at : (p : Place) (s : Side) → IsHigherAt p s s → ⊥
itself_at p s h = elim h.rises [ inl less ↦ omega (arith, ordered, less) | inr smaller ↦ smaller.not_second smaller.in_first ]

pub along_at : (p : Place) (s t u : Side) → pos 0 <ℤ area s → pos 0 <ℤ area t → pos 0 <ℤ area u → IsHigherAt p s t → IsHigherAt p t u → IsHigherAt p s u
along_at p s t u hs ht hu first second = record {
  stays = most (power_at p s) (area s) (power_at p t) (area t) (power_at p u) (area u) hs ht hu first.stays second.stays;
  rises = elim first.rises [
    | inl less ↦ inl (less_first (power_at p s) (area s) (power_at p t) (area t) (power_at p u) (area u) hs ht hu less second.stays)
    | inr smaller ↦ elim second.rises [
      | inl less ↦ inl (less_second (power_at p s) (area s) (power_at p t) (area t) (power_at p u) (area u) hs ht hu first.stays less)
      | inr again ↦
          inr (
          record {
            all = λ w cap. smaller.all w (again.all w cap);
            one = smaller.one;
            in_first = smaller.in_first;
            not_second = λ cap. smaller.not_second (again.all smaller.one cap);
          }
          )
    ]
  ];
}

-- the place lies beyond the side
pub record IsBeyond (p : Place) (s : Side) : Type 0 where
  pub left : pos 0 <ℤ area s
  pub beyond : orient_at s.a s.b p <ℤ pos 0

abbrev pub LeadsAt : Place → Side → Side → Type 0
LeadsAt p s t = IsBeyond p t × IsHigherAt p s t

-- the power on the other side of a side: it doesn't fall, and rises where the far corner is strictly outside of the circle
module _ (a b c d : Point) (p : Place) (near : IsBeyond p (side a b c)) where
  beyond : pos 0 <ℤ orient_at b a p
  beyond = let e = other_way a b p in let h = near.beyond in omega (arith, ordered, e, h)

  square_above : pos 0 <ℤ (p.w *ℤ p.w)
  square_above = times_positive p.w p.w p.above p.above

  compare : (x y z : ℤ) → x ≡ y -ℤ z → z ≤ℤ pos 0 → y ≤ℤ x
  compare x y z is less = omega (arith, ordered, is, less)

  compare_less : (x y z : ℤ) → x ≡ y -ℤ z → z <ℤ pos 0 → y <ℤ x
  compare_less x y z is less = omega (arith, ordered, is, less)

  pub stays_over : incircle_of a b c d ≤ℤ pos 0 → (incircle_at a b c p *ℤ orient2d_of b a d) ≤ℤ (incircle_at b a d p *ℤ orient2d_of a b c)
  stays_over outside =
      compare (incircle_at b a d p *ℤ orient2d_of a b c) (incircle_at a b c p *ℤ orient2d_of b a d) ((p.w *ℤ p.w) *ℤ (incircle_of a b c d *ℤ orient_at b a p)) (crossing_at a b c d p)
      (times_negative (p.w *ℤ p.w) (incircle_of a b c d *ℤ orient_at b a p) (let e = square_above in omega (arith, ordered, e))
      (negative_times (incircle_of a b c d) (orient_at b a p) outside (let e = beyond in omega (arith, ordered, e))))

  pub rises_over : incircle_of a b c d <ℤ pos 0 → (incircle_at a b c p *ℤ orient2d_of b a d) <ℤ (incircle_at b a d p *ℤ orient2d_of a b c)
  rises_over less =
      compare_less (incircle_at b a d p *ℤ orient2d_of a b c) (incircle_at a b c p *ℤ orient2d_of b a d) ((p.w *ℤ p.w) *ℤ (incircle_of a b c d *ℤ orient_at b a p)) (crossing_at a b c d p)
      (times_below (p.w *ℤ p.w) (incircle_of a b c d *ℤ orient_at b a p) square_above (below_times (incircle_of a b c d) (orient_at b a p) less beyond))

module _ (a b c d : Point) (p : Place) where
  after_power : incircle_at a d b p ≡ incircle_at b a d p
  after_power =
      by_terms (a.x ∷ a.y ∷ b.x ∷ b.y ∷ d.x ∷ d.y ∷ p.x ∷ p.y ∷ p.w ∷ []) (incircle_in (spot 0) (spot 2) (spot 1) (place 6)) (incircle_in (spot 1) (spot 0) (spot 2) (place 6)) refl

  before_power : incircle_at d b a p ≡ incircle_at b a d p
  before_power =
      by_terms (a.x ∷ a.y ∷ b.x ∷ b.y ∷ d.x ∷ d.y ∷ p.x ∷ p.y ∷ p.w ∷ []) (incircle_in (spot 2) (spot 1) (spot 0) (place 6)) (incircle_in (spot 1) (spot 0) (spot 2) (place 6)) refl

  module _ (near : IsBeyond p (side a b c)) (far : pos 0 <ℤ orient2d_of b a d) (outside : incircle_of a b c d ≤ℤ pos 0) where
    higher : (t : Side) → area t ≡ orient2d_of b a d → power_at p t ≡ incircle_at b a d p → (incircle_of a b c d ≡ pos 0 → IsSmaller (side a b c) t)
        → IsHigherAt p (side a b c) t
    higher t same_area same_power smaller = record {
      stays = moved same_area same_power (stays_over a b c d p near outside);
      rises = by_lt_z (incircle_of a b c d) (pos 0) (λ less. inl (moved_less same_area same_power (rises_over a b c d p near less))) (λ not. inr (smaller (omega (arith, ordered, not, outside))));
    }
      where
        moved : {k l : ℤ} → k ≡ orient2d_of b a d → l ≡ incircle_at b a d p → (incircle_at a b c p *ℤ orient2d_of b a d) ≤ℤ (incircle_at b a d p *ℤ orient2d_of a b c)
            → (incircle_at a b c p *ℤ k) ≤ℤ (l *ℤ orient2d_of a b c)
        moved {k} {l} ek el h = subst (λ z. (incircle_at a b c p *ℤ z) ≤ℤ (l *ℤ orient2d_of a b c)) (sym ek) (subst (λ z. (incircle_at a b c p *ℤ orient2d_of b a d) ≤ℤ (z *ℤ orient2d_of a b c)) (sym el) h)

        moved_less : {k l : ℤ} → k ≡ orient2d_of b a d → l ≡ incircle_at b a d p → (incircle_at a b c p *ℤ orient2d_of b a d) <ℤ (incircle_at b a d p *ℤ orient2d_of a b c)
            → (incircle_at a b c p *ℤ k) <ℤ (l *ℤ orient2d_of a b c)
        moved_less {k} {l} ek el h = subst (λ z. (incircle_at a b c p *ℤ z) <ℤ (l *ℤ orient2d_of a b c)) (sym ek) (subst (λ z. (incircle_at a b c p *ℤ orient2d_of b a d) <ℤ (z *ℤ orient2d_of a b c)) (sym el) h)

    d_in_cap : incircle_of a b c d ≡ pos 0 → InCap a b c d
    d_in_cap on = record {
      beyond = let e = seen_from_other a b c d d in omega (arith, ordered, e, far);
      within = omega (arith, ordered, on);
    }

    pub over_after : orient_at a d p <ℤ pos 0 → LeadsAt p (side a b c) (side a d b)
    over_after out = (
      record { left = subst (λ z. pos 0 <ℤ z) (sym (area_turned a b c d d)) far; beyond = out },
      higher (side a d b) (area_turned a b c d d) after_power
          (λ on. record {
            all = λ w cap. after_shrinks a b c d w near.left far on cap;
            one = d;
            in_first = d_in_cap on;
            not_second = λ cap. let e = on_start a d in let h = cap.beyond in omega (arith, ordered, e, h);
          }),
    )

    pub over_before : orient_at d b p <ℤ pos 0 → LeadsAt p (side a b c) (side d b a)
    over_before out = (
      record { left = subst (λ z. pos 0 <ℤ z) (sym (area_turned_back a b c d d)) far; beyond = out },
      higher (side d b a) (area_turned_back a b c d d) before_power
          (λ on. record {
            all = λ w cap. before_shrinks a b c d w near.left far on cap;
            one = d;
            in_first = d_in_cap on;
            not_second = λ cap. let e = on_end d b in let h = cap.beyond in omega (arith, ordered, e, h);
          }),
    )

    -- the place lies beyond one of the other two sides of the next triangle, or in it, with a power that hasn't fallen
    pub next_side_at : LeadsAt p (side a b c) (side a d b) ⊎ (LeadsAt p (side a b c) (side d b a) ⊎ (IsIn b a d p × ((incircle_at a b c p *ℤ orient2d_of b a d) ≤ℤ (incircle_at b a d p *ℤ orient2d_of a b c))))
    next_side_at =
        by_lt_z (orient_at a d p) (pos 0) (λ out. inl (over_after out))
        (λ in_after. by_lt_z (orient_at d b p) (pos 0) (λ out. inr (inl (over_before out)))
        (λ in_before. inr (inr ((let e = beyond a b c d p near in omega (arith, ordered, e), in_after, in_before), stays_over a b c d p near outside))))

abbrev CrossesAt : (p : Place) (a b c d a' b' : Point) → Type 0
CrossesAt p a b c d a' b' =
    IsBeyond p (side a b c) → pos 0 <ℤ orient2d_of b' a' d → ¬ (pos 0 <ℤ incircle_of a b' c d)
    → LeadsAt p (side a b c) (side a' d b')
    ⊎ (LeadsAt p (side a b c) (side d b' a') ⊎ (IsIn b' a' d p × ((incircle_at a b c p *ℤ orient2d_of b' a' d) ≤ℤ (incircle_at b' a' d p *ℤ orient2d_of a b c))))

pub crosses_at : (p : Place) (a b c d a' b' : Point) → a ≡ a' → b ≡ b' → CrossesAt p a b c d a' b'
crosses_at p a b c d a' b' ea eb =
    subst (λ (q : Point). CrossesAt p a b c d a' q) eb (subst (λ (q : Point). CrossesAt p a b c d q b) ea
    (λ near far outside. next_side_at a b c d p near far (by_lt_z (pos 0) (incircle_of a b c d) (λ is. absurd (outside is)) (λ not. not))))
