-- An edit whose new words are triangles of v leaves no other vertex in a circle.
use Rattle.std.proofs.Common.{◌≡◌, inl, inr, ℕ, ◌+◌, ◌<◌, List, [], ◌∷◌, length, refl, sym, ap, ◌∙◌, subst, pos, ◌<ℤ◌, arith}
use Rattle.std.proofs.lemmas.Bool.{cases_lt}
use Rattle.std.proofs.lemmas.List.{get_or_past}
use Rattle.dcel_predicates.specs.declared.point.Point.{Point}
use Rattle.dcel_predicates.specs.Determinants.{orient2d_of, incircle_of}
use Rattle.dcel_maps.specs.Shapes.{IsLive, IsSound, Shape, face_count, face_of, map_of, origin_of}
use Rattle.dcel_maps.specs.theory.Standing.{Stands}
use Rattle.dcel_maps.specs.Words.{count_of, word_of}
use Rattle.dcel_maps.proofs.edits.Patches.{Each, EachFrom, Patch, Untouched, each-patched, length-patched, patched}
use Rattle.dcel_maps.proofs.walks.Links.{links_stand}
use Rattle.dcel_maps.proofs.words.Counts.{count-later, count-same}
use Rattle.dcel_maps.proofs.words.Reading.{face_in_word, live_in}
use Rattle.dcel_plane.proofs.edits.Written.{IsWritten, origin_away}
use Rattle.dcel_plane.proofs.hull.Keeping.{StartsOldOr}
use Rattle.dcel_plane.specs.star.Star.{IsEmptyAt, IsEmptyRound, HasEmptyCirclesBut}
use Rattle.dcel_plane.proofs.star.Turning.{empty_are}

pub empty_more : (at : ℕ → Point) (s n : Shape) (v a b c : ℕ) → StartsOldOr s n v → IsEmptyAt at s v a b c → IsEmptyAt at n v a b c
empty_more at s n v a b c starts empty not_a not_b k live away = elim (starts k live) [
  | inl is ↦ absurd (away is)
  | inr old ↦
      subst (λ (w : ℕ). pos 0 <ℤ orient2d_of (at a) (at b) (at w) → ¬ (pos 0 <ℤ incircle_of (at a) (at b) (at c) (at w))) old.2
      (empty not_a not_b old.0 old.1 (λ on. away (sym old.2 ∙ on)))
]

-- a triangle of v with a side that is empty
module _ (at : ℕ → Point) (s : Shape) (v : ℕ) where
  pub tip_round : (x y z : ℕ) (a b : ℕ) → a ≡ origin_of s x → b ≡ origin_of s y → v ≡ origin_of s z → IsEmptyAt at s v a b v → IsEmptyRound at s v x y z
  tip_round x y z a b is_a is_b is_v empty = (
    empty_are at s v is_a is_b is_v empty,
    (λ not_y not_z k live away left inside. absurd (not_z (sym is_v))),
    (λ not_z not_x k live away left inside. absurd (not_z (sym is_v))),
  )

module _ (at : ℕ → Point) (s n : Shape) (ws : Patch (List ℕ)) (os : Patch ℕ) (written : IsWritten s n ws os) (sound : IsSound s) (v : ℕ) (starts : StartsOldOr s n v) where
  stands : Stands (map_of s) s.words
  stands = links_stand sound

  abbrev pub Rounds : ℕ → List ℕ → Type 0
  Rounds f w = (x y z : ℕ) → 0 < f → w ≡ x ∷ y ∷ z ∷ [] → IsEmptyRound at n v x y z

  origin_on : (f h : ℕ) → 0 < f → Untouched f ws.set → 0 < count_of h (word_of s.words f) → origin_of s h ≡ origin_of n h
  origin_on f h inner away found =
      let live : IsLive s h = live_in (map_of s) s.words stands h f found in
      let on : face_of s h ≡ f = face_in_word (map_of s) s.words stands h f found in
      sym (origin_away at s n ws os written sound h live (written.starts_stay h live (omega (arith, inner, on)) (subst (λ (k : ℕ). Untouched k ws.set) (sym on) away)))

  still : (a b c : ℕ) → IsEmptyAt at s v a b c → IsEmptyAt at n v a b c
  still a b c empty = empty_more at s n v a b c starts empty

  old_rounds : HasEmptyCirclesBut at s v → (f : ℕ) → Untouched f ws.set → Rounds f (word_of s.words f)
  old_rounds star f away x y z inner is =
      let found : (h : ℕ) → 0 < count_of h (x ∷ y ∷ z ∷ []) → origin_of s h ≡ origin_of n h =
      λ h there. origin_on f h inner away (subst (λ (w : List ℕ). 0 < count_of h w) (sym is) there) in
      let a = found x (omega (arith, count-same x (y ∷ z ∷ []))) in
      let b = found y (count-later y x (y ∷ z ∷ []) (omega (arith, count-same y (z ∷ [])))) in
      let c = found z (count-later z x (y ∷ z ∷ []) (count-later z y (z ∷ []) (omega (arith, count-same z [])))) in
      let round = star.empty f x y z inner is in (
        empty_are at n v a b c (still (origin_of s x) (origin_of s y) (origin_of s z) round.0),
        empty_are at n v b c a (still (origin_of s y) (origin_of s z) (origin_of s x) round.1),
        empty_are at n v c a b (still (origin_of s z) (origin_of s x) (origin_of s y) round.2),
      )

  pub written_star : HasEmptyCirclesBut at s v → Each Rounds ws.set → EachFrom Rounds (face_count s) ws.more → HasEmptyCirclesBut at n v
  written_star star set more = record { empty = λ f x y z inner is. by_word f x y z inner is }
    where
      by_word : (f : ℕ) → Rounds f (word_of n.words f)
      by_word f =
          let is : word_of n.words f ≡ word_of (patched s.words ws) f = ap (λ (l : List (List ℕ)). word_of l f) written.words_are in
          subst (Rounds f) (sym is)
          (elim (cases_lt f (face_count s + length ws.more)) [
            | inl below ↦ each-patched Rounds [] s.words ws (face_count s) refl set more (λ k k_in away. old_rounds star k away) f below
            | inr beyond ↦
                subst (Rounds f) (sym (get_or_past (patched s.words ws) f [] (omega (arith, beyond, length-patched s.words ws))))
                (λ x y z inside e. absurd (let long = ap length e in omega (arith, long)))
          ])
