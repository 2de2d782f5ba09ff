-- Shapes of which some words and origins are rewritten: they stay in the plane where the new triangles turn left, and no edge is circled
-- that wasn't, but for those of new words.
use Rattle.std.proofs.Common.{◌≡◌, ◌⊎◌, inl, inr, ℕ, ◌+◌, ◌*◌, ◌/◌, ◌<◌, true, List, [], ◌∷◌, ◌++◌, length, slice_index, slice_set, refl, sym, ap, ◌∙◌, subst, pos, ◌<ℤ◌, arith}
use Rattle.std.proofs.lemmas.Bool.{cases_lt, true_from_ne_false}
use Rattle.std.proofs.lemmas.List.{get_or-append-add, get_or-set_other, get_or_append_left, get_or_past}
use Rattle.dcel_predicates.specs.declared.point.Point.{Point}
use Rattle.dcel_predicates.specs.Determinants.{incircle_of}
use Rattle.dcel_maps.specs.Conditions.{IsTriangle}
use Rattle.dcel_maps.specs.theory.Standing.{Stands}
use Rattle.dcel_maps.specs.Shapes.{IsLive, IsSound, Shape, edge_is_live, face_count, face_is_live, face_of, map_of, origin_of, prev_of}
use Rattle.dcel_maps.specs.Words.{count_of, prev_in_word, word_of}
use Rattle.dcel_maps.proofs.Liveness.{even_live, odd_live}
use Rattle.dcel_maps.proofs.edits.Patches.{Each, EachFrom, Patch, Untouched, each-patched, each-weaker, each_from-weaker, length-patched, length-replaced, patched, replaced}
use Rattle.dcel_maps.proofs.shapes.Maps.{map-sound}
use Rattle.dcel_maps.proofs.walks.Links.{half-below, links_stand, prev-said}
use Rattle.dcel_maps.proofs.words.Counts.{count-append, count-later, count-same}
use Rattle.dcel_maps.proofs.words.Reading.{face-prev, face_in_word, live_in, stands_in_face}
use Rattle.dcel_plane.specs.Plane.{IsCircled, IsInner, ListsCircled, TrianglesTurnLeft}
use Rattle.dcel_plane.proofs.edits.Corners.{LeftOf, corners_are}

-- an item that isn't replaced
replaced-away : (l : List ℕ) (cs : List (ℕ × ℕ)) (k : ℕ) → Untouched k cs → slice_index (replaced l cs) k ≡ slice_index l k
replaced-away l [] k away = refl
replaced-away l (c ∷ r) k away = replaced-away (slice_set l c.0 c.1) r k away.1 ∙ get_or-set_other l c.0 k c.1 0 away.0

-- four points by other names
pub circle_at : {a b c d p q r t : Point} → a ≡ p → b ≡ q → c ≡ r → d ≡ t → pos 0 <ℤ incircle_of a b c d → pos 0 <ℤ incircle_of p q r t
circle_at {a} {b} {c} {d} {p} {q} {r} {t} ea eb ec ed inside =
    subst (λ (k : Point). pos 0 <ℤ incircle_of p q r k) ed
    (subst (λ (k : Point). pos 0 <ℤ incircle_of p q k d) ec
    (subst (λ (k : Point). pos 0 <ℤ incircle_of p k c d) eb
    (subst (λ (k : Point). pos 0 <ℤ incircle_of k b c d) ea inside)))

pub circle_are : (at : ℕ → Point) {a b c d a' b' c' d' : ℕ} → a ≡ a' → b ≡ b' → c ≡ c' → d ≡ d' → pos 0 <ℤ incircle_of (at a) (at b) (at c) (at d)
    → pos 0 <ℤ incircle_of (at a') (at b') (at c') (at d')
circle_are at ea eb ec ed = circle_at (ap at ea) (ap at eb) (ap at ec) (ap at ed)

-- The shape n has the words and origins of s with some of them replaced and some put at the end, where half edges of faces whose word stays
-- start where they did.
pub record IsWritten (s n : Shape) (words : Patch (List ℕ)) (origins : Patch ℕ) : Type 0 where
  pub words_are : n.words ≡ patched s.words words
  pub origins_are : n.origins ≡ patched s.origins origins
  pub many : length s.origins ≡ 2 * s.edges
  pub starts_stay : (h : ℕ) → IsLive s h → 0 < face_of s h → Untouched (face_of s h) words.set → Untouched h origins.set

module _ (at : ℕ → Point) (s n : Shape) (ws : Patch (List ℕ)) (os : Patch ℕ) (written : IsWritten s n ws os) (sound : IsSound s) where
  stands : Stands (map_of s) s.words
  stands = links_stand sound

  pub origin_away : (h : ℕ) → IsLive s h → Untouched h os.set → origin_of n h ≡ origin_of s h
  origin_away h live away =
      ap (λ (l : List ℕ). slice_index l h) written.origins_are
      ∙ get_or_append_left (replaced s.origins os.set) os.more 0 h (omega (arith, written.many, half-below s h live, length-replaced s.origins os.set))
      ∙ replaced-away s.origins os.set h away

  -- a half edge in the word of an inner face that stays
  origin_on : (f h : ℕ) → 0 < f → Untouched f ws.set → 0 < count_of h (word_of s.words f) → origin_of n h ≡ origin_of s h
  origin_on f h inner away found =
      let live : IsLive s h = live_in (map_of s) s.words stands h f found in
      let on : face_of s h ≡ f = face_in_word (map_of s) s.words stands h f found in
      origin_away h live (written.starts_stay h live (omega (arith, inner, on)) (subst (λ (k : ℕ). Untouched k ws.set) (sym on) away))

  -- what holds of each word: of those that are put in, those that stay, and the empty ones past the last
  by_word : (P : ℕ → List ℕ → Type 0) → Each P ws.set → EachFrom P (face_count s) ws.more
      → ((f : ℕ) → f < face_count s → Untouched f ws.set → P f (word_of s.words f)) → ((f : ℕ) → P f []) → (f : ℕ) → P f (word_of n.words f)
  by_word P set more old past f =
      let is : word_of n.words f ≡ word_of (patched s.words ws) f = ap (λ (l : List (List ℕ)). word_of l f) written.words_are in
      subst (P f) (sym is)
      (elim (cases_lt f (face_count s + length ws.more)) [
        | inl below ↦ each-patched P [] s.words ws (face_count s) refl set more old f below
        | inr beyond ↦
            subst (P f) (sym (get_or_past (patched s.words ws) f [] (omega (arith, beyond, length-patched s.words ws)))) (past f)
      ])

  -- a word of three, on an inner face, turns left
  abbrev pub Leads : ℕ → List ℕ → Type 0
  Leads f w = (x y z : ℕ) → 0 < f → w ≡ x ∷ y ∷ z ∷ [] → LeftOf at n x y z

  old_leads : TrianglesTurnLeft at s → (f : ℕ) → Untouched f ws.set → Leads f (word_of s.words f)
  old_leads plane f away x y z inner is =
      let found : (h : ℕ) → 0 < count_of h (x ∷ y ∷ z ∷ []) → origin_of n h ≡ origin_of s h =
      λ h there. origin_on f h inner away (subst (λ (w : List ℕ). 0 < count_of h w) (sym is) there) in
      corners_are at (sym (found x (omega (arith, count-same x (y ∷ z ∷ [])))))
      (sym (found y (count-later y x (y ∷ z ∷ []) (omega (arith, count-same y (z ∷ []))))))
      (sym (found z (count-later z x (y ∷ z ∷ []) (count-later z y (z ∷ []) (omega (arith, count-same z []))))))
      (plane.left f x y z inner is)

  pub written_plane : TrianglesTurnLeft at s → Each Leads ws.set → EachFrom Leads (face_count s) ws.more → TrianglesTurnLeft at n
  written_plane plane set more = record {
    left = λ f x y z inner is.
        by_word Leads set more (λ k k_in away. old_leads plane k away) (λ k x y z inside e. absurd (let long = ap length e in omega (arith, long)))
        f x y z inner is;
  }

  -- each half edge of an inner word is offered
  abbrev pub Offers : (ℕ → Type 0) → ℕ → List ℕ → Type 0
  Offers Q f w = 0 < f → (h : ℕ) → 0 < count_of h w → Q h

  module _ (sound_after : IsSound n) (Q : ℕ → Type 0) (set : Each (Offers Q) ws.set) (more : EachFrom (Offers Q) (face_count s) ws.more) where
    stands_after : Stands (map_of n) n.words
    stands_after = links_stand sound_after

    -- a half edge of an inner face that stays
    record Stays (h : ℕ) : Type 0 where
      live : IsLive s h
      face : face_of s h ≡ face_of n h
      word : word_of n.words (face_of n h) ≡ word_of s.words (face_of s h)
      origin : origin_of n h ≡ origin_of s h
      corner : origin_of n (prev_of n h) ≡ origin_of s (prev_of s h)

    stays : (h : ℕ) → IsLive n h → 0 < face_of n h → Untouched (face_of n h) ws.set → word_of n.words (face_of n h) ≡ word_of s.words (face_of n h) → Stays h
    stays h live inner away same =
        let k = face_of n h in
        let found : 0 < count_of h (word_of s.words k) =
        subst (λ (w : List ℕ). 0 < count_of h w) same (stands_in_face (map_of n) n.words stands_after h live) in
        let was : IsLive s h = live_in (map_of s) s.words stands h k found in
        let on : face_of s h ≡ k = face_in_word (map_of s) s.words stands h k found in
        let word : word_of n.words k ≡ word_of s.words (face_of s h) = same ∙ ap (word_of s.words) (sym on) in
        let before : prev_of n h ≡ prev_of s h = prev-said sound_after h live ∙ ap (prev_in_word h) word ∙ sym (prev-said sound h was) in
        let live_before : IsLive s (prev_of s h) = (map-sound sound).live_prev h was in
        let on_before : face_of s (prev_of s h) ≡ k = face-prev (map_of s) s.words stands h was ∙ on in
        record {
          live = was;
          face = on;
          word = word;
          origin = origin_on k h inner away found;
          corner =
              ap (origin_of n) before
              ∙ origin_on k (prev_of s h) inner away
              (subst (λ (f : ℕ). 0 < count_of (prev_of s h) (word_of s.words f)) on_before (stands_in_face (map_of s) s.words stands (prev_of s h) live_before));
        }

    -- each other one is offered
    cases : (h : ℕ) → IsLive n h → 0 < face_of n h → Q h ⊎ Stays h
    cases h live inner =
        sorted
        (by_word Sorts (each-weaker (Offers Q) Sorts (λ f w offers. taken f w offers) ws.set set)
        (each_from-weaker (Offers Q) Sorts (λ f w offers. taken f w offers) (face_count s) ws.more more)
        (λ f f_in away inside found. inr (away, refl)) (λ f inside none. absurd (omega (arith, none)))
        (face_of n h) inner (stands_in_face (map_of n) n.words stands_after h live))
      where
        Sorts : ℕ → List ℕ → Type 0
        Sorts f w = 0 < f → 0 < count_of h w → Q h ⊎ (Untouched f ws.set × (w ≡ word_of s.words f))

        taken : (f : ℕ) (w : List ℕ) → Offers Q f w → Sorts f w
        taken f w offers inside found = inl (offers inside h found)

        sorted : Q h ⊎ (Untouched (face_of n h) ws.set × (word_of n.words (face_of n h) ≡ word_of s.words (face_of n h))) → Q h ⊎ Stays h
        sorted (inl offered) = inl offered
        sorted (inr same) = inr (stays h live inner same.0 same.1)

    -- an inner face of three stays one
    triangle_was : (h : ℕ) → Stays h → IsTriangle n (face_of n h) → IsTriangle s (face_of s h)
    triangle_was h same triangle =
        let three : length (word_of s.words (face_of s h)) ≡ 3 = ap length (sym same.word) ∙ triangle.three in
        record {
          live =
              true_from_ne_false (face_is_live s (face_of s h))
              (λ dead. let none = ap length (sound.bare (face_of s h) dead) in omega (arith, three, none));
          three = three;
        }

    pub circled_was : (u : ℕ) → IsInner n u → IsCircled at n u → (Q (2 * u) ⊎ Q (2 * u + 1)) ⊎ (IsInner s u × IsCircled at s u)
    circled_was u inner circled =
        elim (cases (2 * u) (even_live n u inner.live) inner.inner) [
          | inl offered ↦ inl (inl offered)
          | inr near ↦ elim (cases (2 * u + 1) (odd_live n u inner.live) inner.inner_facing) [
            | inl offered ↦ inl (inr offered)
            | inr far ↦
                let half : 2 * u / 2 ≡ u = omega arith in
                inr (
                  record {
                    live = subst (λ (k : ℕ). edge_is_live s k ≡ true) half near.live;
                    triangle = triangle_was (2 * u) near inner.triangle;
                    facing = triangle_was (2 * u + 1) far inner.facing;
                    inner = omega (arith, near.face, inner.inner);
                    inner_facing = omega (arith, far.face, inner.inner_facing);
                  },
                  circle_are at near.origin far.origin near.corner far.corner circled,
                )
          ]
        ]

  -- so a list that had each circled edge has it with these
  pub written_lists : (list due : List ℕ) → IsSound n → Each (Offers (λ h. 0 < count_of (h / 2) list)) ws.set
      → EachFrom (Offers (λ h. 0 < count_of (h / 2) list)) (face_count s) ws.more → ListsCircled at s due → ListsCircled at n (due ++ list)
  written_lists list due sound_after set more lists u inner circled =
      let even : 2 * u / 2 ≡ u = omega arith in
      let odd : (2 * u + 1) / 2 ≡ u = omega arith in
      let both = count-append u due list in
      elim (circled_was sound_after (λ h. 0 < count_of (h / 2) list) set more u inner circled) [
        | inl offered ↦ elim offered [
          | inl near ↦ let new : 0 < count_of u list = subst (λ (k : ℕ). 0 < count_of k list) even near in omega (arith, both, new)
          | inr far ↦ let new : 0 < count_of u list = subst (λ (k : ℕ). 0 < count_of k list) odd far in omega (arith, both, new)
        ]
        | inr was ↦ let old = lists u was.0 was.1 in omega (arith, both, old)
      ]

  -- where a new half edge starts
  pub origin_more : (h i : ℕ) → h ≡ 2 * s.edges + i → origin_of n h ≡ slice_index os.more i
  origin_more h i is =
      let place : h ≡ length (replaced s.origins os.set) + i = omega (arith, is, written.many, length-replaced s.origins os.set) in
      ap (λ (l : List ℕ). slice_index l h) written.origins_are ∙ ap (slice_index (patched s.origins os)) place
      ∙ get_or-append-add (replaced s.origins os.set) os.more i 0
