-- Corners of a face, from whichever one on; points on a line.
use Rattle.std.proofs.Common.{◌≡◌, ℕ, List, [], ◌∷◌, refl, ◌∙◌, ℤ, pos, ◌-ℤ◌, ◌*ℤ◌, ◌<ℤ◌, arith}
use Rattle.std.proofs.lemmas.Int.{by_lt_z}
use Rattle.dcel_predicates.specs.declared.point.Point.{Point}
use Rattle.dcel_predicates.specs.Determinants.{orient2d_of}
use Rattle.dcel_predicates.proofs.Ring.{by_terms, minus, times as by}
use Rattle.dcel_predicates.proofs.Signs.{ordered, times_positive}
use Rattle.dcel_predicates.proofs.Terms.{orient, spot}
use Rattle.dcel_maps.specs.Words.{TurnsTo}
use Rattle.dcel_maps.proofs.words.Turns.{length-turn, turns_back}
use Rattle.dcel_plane.proofs.edits.Corners.{turned_along}
use Rattle.dcel_plane.proofs.covering.Along.{dot_in, none_second}
use Rattle.dcel_plane.proofs.covering.Products.{times_below}
use Rattle.dcel_plane.specs.covering.Covering.{dot}

-- what holds of the corners of a face from one on holds of them from another on
pub from_another : (P : ℕ → ℕ → ℕ → Type 0) → ((a b c : ℕ) → P a b c → P b c a) → (w : List ℕ) (a b c x y z : ℕ)
    → TurnsTo w (a ∷ b ∷ c ∷ []) → TurnsTo w (x ∷ y ∷ z ∷ []) → P a b c → P x y z
from_another P turn [] a b c x y z one other holds = absurd (let l = length-turn one in omega (arith, l))
from_another P turn (d ∷ []) a b c x y z one other holds = absurd (let l = length-turn one in omega (arith, l))
from_another P turn (d ∷ e ∷ []) a b c x y z one other holds = absurd (let l = length-turn one in omega (arith, l))
from_another P turn (d ∷ e ∷ f ∷ []) a b c x y z one other holds =
    turned_along P turn d e f x y z other (turned_along P turn a b c d e f (turns_back one) holds)
from_another P turn (d ∷ e ∷ f ∷ g ∷ w) a b c x y z one other holds = absurd (let l = length-turn one in omega (arith, l))

-- with o as the origin, by what two vectors share with e and how far they lie beside it
by_products : (o e p q r : Point) → dot e e o *ℤ orient2d_of p q r
    ≡ ((dot e q o -ℤ dot e p o) *ℤ (orient2d_of o e r -ℤ orient2d_of o e p)) -ℤ ((dot e r o -ℤ dot e p o) *ℤ (orient2d_of o e q -ℤ orient2d_of o e p))
by_products o e p q r =
    by_terms (o.x ∷ o.y ∷ e.x ∷ e.y ∷ p.x ∷ p.y ∷ q.x ∷ q.y ∷ r.x ∷ r.y ∷ []) (by (dot_in (spot 1) (spot 1) (spot 0)) (orient (spot 2) (spot 3) (spot 4)))
    (minus (by (minus (dot_in (spot 1) (spot 3) (spot 0)) (dot_in (spot 1) (spot 2) (spot 0))) (minus (orient (spot 0) (spot 1) (spot 4)) (orient (spot 0) (spot 1) (spot 2))))
    (by (minus (dot_in (spot 1) (spot 4) (spot 0)) (dot_in (spot 1) (spot 2) (spot 0))) (minus (orient (spot 0) (spot 1) (spot 3)) (orient (spot 0) (spot 1) (spot 2))))) refl

none_between : (k l : ℤ) → k ≡ pos 0 → l ≡ pos 0 → l -ℤ k ≡ pos 0
none_between k l is also = omega (arith, ordered, is, also)

zero_factor : (d z : ℤ) → pos 0 <ℤ d → d *ℤ z ≡ pos 0 → z ≡ pos 0
zero_factor d z more none =
    by_lt_z z (pos 0) (λ less. absurd (let t = times_below d z more less in omega (arith, ordered, t, none)))
    (λ not. by_lt_z (pos 0) z (λ above. absurd (let t = times_positive d z more above in omega (arith, ordered, t, none)))
    (λ neither. omega (arith, ordered, not, neither)))

-- three points on the line through two others are on one line
pub on_one_line : (o e p q r : Point) → pos 0 <ℤ dot e e o → orient2d_of o e p ≡ pos 0 → orient2d_of o e q ≡ pos 0 → orient2d_of o e r ≡ pos 0 → orient2d_of p q r ≡ pos 0
on_one_line o e p q r apart is_p is_q is_r =
    zero_factor (dot e e o) (orient2d_of p q r) apart
    (by_products o e p q r
    ∙ none_between ((dot e r o -ℤ dot e p o) *ℤ (orient2d_of o e q -ℤ orient2d_of o e p)) ((dot e q o -ℤ dot e p o) *ℤ (orient2d_of o e r -ℤ orient2d_of o e p))
    (none_second (dot e r o -ℤ dot e p o) (orient2d_of o e q -ℤ orient2d_of o e p) (none_between (orient2d_of o e p) (orient2d_of o e q) is_p is_q))
    (none_second (dot e q o -ℤ dot e p o) (orient2d_of o e r -ℤ orient2d_of o e p) (none_between (orient2d_of o e p) (orient2d_of o e r) is_p is_r)))
