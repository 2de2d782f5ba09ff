-- Where no vertex lies inside a circle, none does but v; and on what that doesn't depend.
use Rattle.std.proofs.Common.{◌≡◌, ℕ, ◌<◌, List, [], ◌∷◌, sym, ◌∙◌, subst, pos, ◌<ℤ◌, arith}
use Rattle.dcel_predicates.specs.declared.point.Point.{Point}
use Rattle.dcel_predicates.specs.Determinants.{orient2d_of, incircle_of}
use Rattle.dcel_predicates.proofs.Points.{incircle-turned}
use Rattle.dcel_maps.specs.edits.Create.{vertex_appended}
use Rattle.dcel_maps.specs.Shapes.{IsLive, IsSound, Mesh, Shape, map_of, origin_of}
use Rattle.dcel_maps.specs.Words.{count_of}
use Rattle.dcel_maps.proofs.shapes.Maps.{map-sound}
use Rattle.dcel_maps.proofs.walks.Links.{links_stand}
use Rattle.dcel_maps.proofs.words.Counts.{count-later, count-same}
use Rattle.dcel_maps.proofs.words.Reading.{live_in}
use Rattle.dcel_plane.specs.covering.Covering.{HasEmptyCircles}
use Rattle.dcel_plane.proofs.edits.Written.{circle_at}
use Rattle.dcel_plane.specs.star.Star.{HasEmptyCirclesBut, IsEmptyAt}
use Rattle.dcel_plane.proofs.star.Pencils.{positive_is}

-- where no circle has a vertex inside
pub empty_star : (at : ℕ → Point) (s : Shape) (v : ℕ) → HasEmptyCircles at s → HasEmptyCirclesBut at s v
empty_star at s v empty = record {
  empty = λ f x y z inner is.
      let none : (k : ℕ) → IsLive s k → ¬ (pos 0 <ℤ incircle_of (at (origin_of s x)) (at (origin_of s y)) (at (origin_of s z)) (at (origin_of s k))) =
      λ k live. empty.empty f x y z k inner is live in
      let p : ℕ → Point = λ h. at (origin_of s h) in (
        (λ not_a not_b k live away left. none k live),
        (λ not_a not_b k live away left inside. none k live (positive_is (incircle-turned (p x) (p y) (p z) (p k)) inside)),
        (λ not_a not_b k live away left inside. none k live (positive_is (incircle-turned (p y) (p z) (p x) (p k) ∙ incircle-turned (p x) (p y) (p z) (p k)) inside)),
      );
}

module _ (at to : ℕ → Point) (s : Shape) (sound : IsSound s) (same : (v : ℕ) → v < s.vertices → at v ≡ to v) (v : ℕ) where
  stands_same : (h : ℕ) → IsLive s h → to (origin_of s h) ≡ at (origin_of s h)
  stands_same h live = sym (same (origin_of s h) ((map-sound sound).below_vertices h live))

  moved_side : (x y z : ℕ) → IsLive s x → IsLive s y → IsLive s z → IsEmptyAt at s v (origin_of s x) (origin_of s y) (origin_of s z) → IsEmptyAt to s v (origin_of s x) (origin_of s y) (origin_of s z)
  moved_side x y z live_x live_y live_z empty not_x not_y k live away left inside =
      empty not_x not_y k live away (turned_place (stands_same x live_x) (stands_same y live_y) (stands_same k live) left)
      (circle_at (stands_same x live_x) (stands_same y live_y) (stands_same z live_z) (stands_same k live) inside)
    where
      turned_place : {a b c a' b' c' : Point} → a ≡ a' → b ≡ b' → c ≡ c' → pos 0 <ℤ orient2d_of a b c → pos 0 <ℤ orient2d_of a' b' c'
      turned_place {a} {b} {c} {a'} {b'} {c'} ea eb ec left =
          subst (λ (q : Point). pos 0 <ℤ orient2d_of a' b' q) ec (subst (λ (q : Point). pos 0 <ℤ orient2d_of a' q c) eb (subst (λ (q : Point). pos 0 <ℤ orient2d_of q b c) ea left))

  pub moved_star : HasEmptyCirclesBut at s v → HasEmptyCirclesBut to s v
  moved_star star = record {
    empty = λ f x y z inner is.
        let found : (h : ℕ) → 0 < count_of h (x ∷ y ∷ z ∷ []) → IsLive s h =
        λ h there. live_in (map_of s) s.words (links_stand sound) h f (subst (λ (w : List ℕ). 0 < count_of h w) (sym is) there) in
        let live_x = found x (omega (arith, count-same x (y ∷ z ∷ []))) in
        let live_y = found y (count-later y x (y ∷ z ∷ []) (omega (arith, count-same y (z ∷ [])))) in
        let live_z = found z (count-later z x (y ∷ z ∷ []) (count-later z y (z ∷ []) (omega (arith, count-same z [])))) in
        let round = star.empty f x y z inner is in
        (moved_side x y z live_x live_y live_z round.0, moved_side y z x live_y live_z live_x round.1, moved_side z x y live_z live_x live_y round.2);
  }

-- a vertex that is appended has no edge yet
pub appended_star : {DE UE F : Type 0} (m : Mesh Point DE UE F) (q : Point) (at : ℕ → Point) (v : ℕ) → HasEmptyCirclesBut at m.shape v → HasEmptyCirclesBut at (vertex_appended m q).shape v
appended_star m q at v star = record { empty = λ f x y z inner is. star.empty f x y z inner is }
