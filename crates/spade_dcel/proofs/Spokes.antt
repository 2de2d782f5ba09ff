-- The out edges of a vertex that has three or four: from its anchor on, each is the next one by `ccw`.
use Rattle.std.proofs.Common.{◌≡◌, ◌<◌, ℕ, List, [], ◌∷◌, length, Some, sym, ap, ap₂, ◌∙◌, subst, arith}
use Rattle.dcel_maps.specs.Maps.{By}
use Rattle.dcel_maps.specs.Shapes.{AnchorsVertex, IsLive, IsMesh, Mesh, vertex_anchor}
use Rattle.dcel_maps.specs.theory.Cycles.{Path}
use Rattle.dcel_maps.specs.Walking.{IsRoundTrip, ccw_of, out_edges_of, walk_from, walk_of}
use Rattle.dcel_maps.specs.Words.{count_of}
use Rattle.dcel_maps.proofs.walks.Links.{ccw-lawful}
use Rattle.dcel_maps.proofs.walks.Turning.{mesh-out_edges}
use Rattle.dcel_maps.proofs.walks.UnderWay.{walk-round}
use Rattle.dcel_maps.proofs.words.Counts.{count-later, count-same}

-- a round of three
three_steps : (step : ℕ → ℕ) (h : ℕ) (rest : List ℕ) → Path (By step) h rest h → length (h ∷ rest) ≡ 3 → h ∷ rest ≡ h ∷ step h ∷ step (step h) ∷ []
three_steps step h [] path three = absurd (omega (arith, three))
three_steps step h (a ∷ []) path three = absurd (omega (arith, three))
three_steps step h (a ∷ b ∷ []) path three =
    ap₂ (λ x y. h ∷ x ∷ y ∷ []) (sym path.0) (sym path.1.0 ∙ ap step (sym path.0))
three_steps step h (a ∷ b ∷ d ∷ rest) path three = absurd (omega (arith, three))

-- a round of four
four_steps : (step : ℕ → ℕ) (h : ℕ) (rest : List ℕ) → Path (By step) h rest h → length (h ∷ rest) ≡ 4
    → h ∷ rest ≡ h ∷ step h ∷ step (step h) ∷ step (step (step h)) ∷ []
four_steps step h [] path four = absurd (omega (arith, four))
four_steps step h (a ∷ []) path four = absurd (omega (arith, four))
four_steps step h (a ∷ b ∷ []) path four = absurd (omega (arith, four))
four_steps step h (a ∷ b ∷ d ∷ []) path four =
    let second = sym path.0 in
    let third = sym path.1.0 ∙ ap step second in
    let fourth = sym path.1.1.0 ∙ ap step third in
    ap₂ (λ x r. h ∷ x ∷ r) second (ap₂ (λ y z. y ∷ z ∷ []) third fourth)
four_steps step h (a ∷ b ∷ d ∷ e ∷ rest) path four = absurd (omega (arith, four))

module _ {V DE UE F : Type 0} (m : Mesh V DE UE F) (mesh : IsMesh m) (v : ℕ) (below : v < m.shape.vertices) (h : ℕ) (anchored : vertex_anchor m v ≡ Some h) where
  out_is : out_edges_of m v ≡ walk_of m.shape (ccw_of m.shape) h
  out_is = ap (walk_from m.shape (ccw_of m.shape)) anchored

  live : IsLive m.shape h
  live = (subst (λ a. AnchorsVertex m.shape v a) anchored (mesh.anchored.vertices v below)).0

  trip : IsRoundTrip (ccw_of m.shape) h (walk_of m.shape (ccw_of m.shape) h)
  trip = walk-round (ccw-lawful mesh.sound) h live

  pub second-live : IsLive m.shape (ccw_of m.shape h)
  second-live = (ccw-lawful mesh.sound).stays h live

  pub third-live : IsLive m.shape (ccw_of m.shape (ccw_of m.shape h))
  third-live = (ccw-lawful mesh.sound).stays (ccw_of m.shape h) second-live

  pub three_are : length (out_edges_of m v) ≡ 3 → out_edges_of m v ≡ h ∷ ccw_of m.shape h ∷ ccw_of m.shape (ccw_of m.shape h) ∷ []
  three_are three =
      out_is ∙ trip.from
      ∙ three_steps (ccw_of m.shape) h trip.rest trip.round (sym (ap length (out_is ∙ trip.from)) ∙ three)

  pub four_are : length (out_edges_of m v) ≡ 4
      → out_edges_of m v ≡ h ∷ ccw_of m.shape h ∷ ccw_of m.shape (ccw_of m.shape h) ∷ ccw_of m.shape (ccw_of m.shape (ccw_of m.shape h)) ∷ []
  four_are four =
      out_is ∙ trip.from
      ∙ four_steps (ccw_of m.shape) h trip.rest trip.round (sym (ap length (out_is ∙ trip.from)) ∙ four)

-- each of these out edges is live
module _ {V DE UE F : Type 0} (m : Mesh V DE UE F) (mesh : IsMesh m) (v : ℕ) (below : v < m.shape.vertices) where
  starts : (outs : List ℕ) → out_edges_of m v ≡ outs → (h : ℕ) → 0 < count_of h outs → IsLive m.shape h
  starts outs are h found = ((mesh-out_edges mesh v below).no_other h (subst (λ w. 0 < count_of h w) (sym are) found)).live

  module _ (a b c : ℕ) (rest : List ℕ) (are : out_edges_of m v ≡ a ∷ b ∷ c ∷ rest) where
    pub first_starts : IsLive m.shape a
    first_starts = starts (a ∷ b ∷ c ∷ rest) are a (omega (arith, count-same a (b ∷ c ∷ rest)))

    pub second_starts : IsLive m.shape b
    second_starts = starts (a ∷ b ∷ c ∷ rest) are b (count-later b a (b ∷ c ∷ rest) (omega (arith, count-same b (c ∷ rest))))

    third_counts : 0 < count_of c (a ∷ b ∷ c ∷ rest)
    third_counts = count-later c a (b ∷ c ∷ rest) (count-later c b (c ∷ rest) (omega (arith, count-same c rest)))

    pub third_starts : IsLive m.shape c
    third_starts = starts (a ∷ b ∷ c ∷ rest) are c third_counts

  pub fourth_starts : (a b c d : ℕ) → out_edges_of m v ≡ a ∷ b ∷ c ∷ d ∷ [] → IsLive m.shape d
  fourth_starts a b c d are =
      starts (a ∷ b ∷ c ∷ d ∷ []) are d
      (count-later d a (b ∷ c ∷ d ∷ []) (count-later d b (c ∷ d ∷ []) (count-later d c (d ∷ []) (omega (arith, count-same d [])))))
