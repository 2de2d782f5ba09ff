-- Which edges may have to be flipped after a flip: those that are new in the link.
use Rattle.std.proofs.Common.{◌≡◌, ◌≢◌, inl, inr, ℕ, ◌+◌, ◌*◌, ◌/◌, ◌<◌, List, [], ◌∷◌, ◌++◌, sym, ap, ◌∙◌, arith}
use Rattle.std.proofs.lemmas.Bool.{cases_eq}
use Rattle.dcel_fixed.specs.HalfEdges.{rev}
use Rattle.dcel_fixed.proofs.Halves.{rev-double, rev-double-suc, rev-half, rev-rev}
use Rattle.dcel_predicates.specs.declared.point.Point.{Point}
use Rattle.dcel_maps.specs.Conditions.{CanFlip}
use Rattle.dcel_maps.specs.edits.Flip.{edge_flipped}
use Rattle.dcel_maps.specs.Shapes.{IsLive, IsMesh, Mesh, Shape, face_of, map_of, next_of, origin_of}
use Rattle.dcel_maps.specs.Words.{count_of}
use Rattle.dcel_maps.proofs.edits.Around.{at_edge}
use Rattle.dcel_maps.proofs.edits.Flips.{at_flip, flipped_mesh}
use Rattle.dcel_maps.proofs.maps.Soundness.{rev_live}
use Rattle.dcel_maps.proofs.words.Counts.{count-append, count-other}
use Rattle.dcel_plane.specs.Plane.{IsCircled, IsInner, TrianglesTurnLeft, ListsCircled}
use Rattle.dcel_plane.proofs.edits.Flipped.{circled_can_flip, flip_lists, flip_plane, origin_e, origin_far, origin_near, origin_same, origin_t}
use Rattle.dcel_plane.specs.star.Star.{IsSpoke, HasEmptyCirclesBut, edges_beside}
use Rattle.dcel_plane.proofs.star.Spokes.{no_spoke}
use Rattle.dcel_plane.proofs.star.Flip.{star_flipped}

-- a list without some of its items
last_two : (w a b c d o : ℕ) (due : List ℕ) → 0 < count_of w ((due ++ o ∷ []) ++ a ∷ b ∷ c ∷ d ∷ o ∷ []) → w ≢ a → w ≢ b → w ≢ o → 0 < count_of w (due ++ c ∷ d ∷ [])
last_two w a b c d o due found not_a not_b not_o =
    let whole = count-append w (due ++ o ∷ []) (a ∷ b ∷ c ∷ d ∷ o ∷ []) in
    let before = count-append w due (o ∷ []) in
    let part = count-append w due (c ∷ d ∷ []) in
    let first = count-other w a (b ∷ c ∷ d ∷ o ∷ []) not_a in
    let second = count-other w b (c ∷ d ∷ o ∷ []) not_b in
    let both = count-append w (c ∷ d ∷ []) (o ∷ []) in
    let last = count-other w o [] not_o in
    omega (arith, found, whole, before, part, first, second, both, last)

first_two : (w a b c d o : ℕ) (due : List ℕ) → 0 < count_of w ((due ++ o ∷ []) ++ a ∷ b ∷ c ∷ d ∷ o ∷ []) → w ≢ c → w ≢ d → w ≢ o → 0 < count_of w (due ++ a ∷ b ∷ [])
first_two w a b c d o due found not_c not_d not_o =
    let whole = count-append w (due ++ o ∷ []) (a ∷ b ∷ c ∷ d ∷ o ∷ []) in
    let before = count-append w due (o ∷ []) in
    let part = count-append w due (a ∷ b ∷ []) in
    let both = count-append w (a ∷ b ∷ []) (c ∷ d ∷ o ∷ []) in
    let first = count-other w c (d ∷ o ∷ []) not_c in
    let second = count-other w d (o ∷ []) not_d in
    let last = count-other w o [] not_o in
    omega (arith, found, whole, before, part, first, second, both, last)

-- an edge is a spoke by either half
pub spoke_by : (s : Shape) (v h : ℕ) → origin_of s h ≡ v → IsSpoke s v (h / 2)
spoke_by s v h from = elim (cases_eq (2 * (h / 2)) h) [
  | inl is ↦ inl (ap (origin_of s) is ∙ from)
  | inr not ↦ inr (let odd : 2 * (h / 2) + 1 ≡ h = omega (arith, not) in ap (origin_of s) odd ∙ from)
]

pub spoke_by_other : (s : Shape) (v h : ℕ) → origin_of s (rev h) ≡ v → IsSpoke s v (h / 2)
spoke_by_other s v h from = spoken (spoke_by s v (rev h) from)
  where
    spoken : IsSpoke s v (rev h / 2) → IsSpoke s v (h / 2)
    spoken spoke = rw (← rev-half h) spoke

module _ {V DE UE F : Type 0} (m : Mesh V DE UE F) (mesh : IsMesh m) (u v : ℕ) (at : ℕ → Point) (inner : IsInner m.shape u) (plane : TrianglesTurnLeft at m.shape)
    (star : HasEmptyCirclesBut at m.shape v) (circled : IsCircled at m.shape u) (due : List ℕ) (lists : ListsCircled at m.shape (due ++ u ∷ [])) where
  abbrev s : Shape
  s = m.shape

  abbrev n : Shape
  n = (edge_flipped m u).shape

  open (at_edge s u) use {e, t, f, g, ep, en, tp, tn}

  allowed : CanFlip s u
  allowed = circled_can_flip m mesh u at inner circled

  open (at_flip m u mesh allowed) use {was, facing, differ}

  -- a half edge of the two triangles, not one of the edge, ends where it did
  ends_as : (h a : ℕ) → IsLive s h → next_of s h ≡ a → h ≢ e → h ≢ t → origin_of n (rev h) ≡ origin_of s a
  ends_as h a live next not_e not_t =
      origin_same m mesh u allowed at (rev h) (rev_live (map_of s) h live)
      (λ is. not_t (sym (rev-rev h) ∙ ap rev is ∙ rev-double u)) (λ is. not_e (sym (rev-rev h) ∙ ap rev is ∙ rev-double-suc u))
      ∙ sym (mesh.sound.joined h live) ∙ ap (origin_of s) next

  none : HasEmptyCirclesBut at n v → (w : ℕ) → IsInner n w → IsCircled at n w → IsSpoke n v w → ⊥
  none still w inner_n circled_n spoke =
      no_spoke (edge_flipped m u) (flipped_mesh m u mesh allowed) w v at inner_n (flip_plane m mesh u allowed at inner.inner inner.inner_facing circled plane) still circled_n spoke

  pub lists_from_near : origin_of s ep ≡ v → ListsCircled at n (due ++ edges_beside s t)
  lists_from_near is w inner_n circled_n =
      let still = star_flipped m mesh u v at inner plane star circled in
      let found = flip_lists m mesh u allowed at (due ++ u ∷ []) lists w inner_n circled_n in
      last_two w (en / 2) (ep / 2) (tn / 2) (tp / 2) u due found
      (λ on. none still w inner_n circled_n
      (rw on (spoke_by_other n v en (ends_as en ep was.live_y was.next_y (λ same. was.x≢y (sym same)) (λ same. differ (sym was.face_y ∙ ap (face_of s) same)) ∙ is))))
      (λ on. none still w inner_n circled_n (rw on (spoke_by n v ep (origin_near m mesh u allowed at ∙ is))))
      (λ on. none still w inner_n circled_n (rw on (inl (origin_e m mesh u allowed ∙ is))))

  pub lists_from_far : origin_of s tp ≡ v → ListsCircled at n (due ++ edges_beside s e)
  lists_from_far is w inner_n circled_n =
      let still = star_flipped m mesh u v at inner plane star circled in
      let found = flip_lists m mesh u allowed at (due ++ u ∷ []) lists w inner_n circled_n in
      first_two w (en / 2) (ep / 2) (tn / 2) (tp / 2) u due found
      (λ on. none still w inner_n circled_n
      (rw on (spoke_by_other n v tn (ends_as tn tp facing.live_y facing.next_y (λ same. differ (ap (face_of s) (sym same) ∙ facing.face_y)) (λ same. facing.x≢y (sym same)) ∙ is))))
      (λ on. none still w inner_n circled_n (rw on (spoke_by n v tp (origin_far m mesh u allowed at ∙ is))))
      (λ on. none still w inner_n circled_n (rw on (inr (origin_t m mesh u allowed ∙ is))))
