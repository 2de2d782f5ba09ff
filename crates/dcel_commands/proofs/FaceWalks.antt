-- Walks round a face by `next`, and its least half edge.
use Rattle.std.proofs.Common.{◌≡◌, ◌≢◌, inl, inr, ℕ, zero, suc, ◌/◌, ◌<◌, ◌≤◌, true, false, nat_lt, List, [], ◌∷◌, ◌++◌, length, Some, None, refl, subst, sym, ap, ◌∙◌, arith, eq-eqb, append-nil}
use Rattle.std.proofs.lemmas.Bool.{cases_Bool, cases_lt, lt-ltb, le-ltb}
use Rattle.std.specs.Fmt.{decimal}
use Rattle.dcel_maps.specs.Maps.{By}
use Rattle.dcel_maps.specs.Shapes.{Shape, Mesh, IsSound, IsMesh, IsLive, AnchorsWord, edge_is_live, face_anchor, face_count, face_of, next_of}
use Rattle.dcel_maps.specs.Words.{count_of, occurs, word_of, IsLeastFirst, next_in_word, next_in, face_in}
use Rattle.dcel_maps.proofs.walks.Links.{occurs-le, single}
use Rattle.dcel_maps.proofs.words.Counts.{count-append, count-le_occurs, count-same, count-other, word_with}
use Rattle.dcel_maps.proofs.words.Paths.{next_in_word-stands}
use Rattle.dcel_maps.proofs.words.Turns.{TurnsTo, before, onward, count-turn}
use Rattle.dcel_commands.specs.request.Words.{word_round, IsLeastOnFace}
use Rattle.dcel_text.specs.Texts.{listed}
use Rattle.dcel_text.proofs.Listing.{listed-push}
use Rattle.dcel_commands.proofs.Rounds.{others, others-turn, GoesRound, goes_round, cycle_from_next, round_begins, round_passes, round_shortens, round_ends}

-- an item that occurs once stands in one word alone, and its links are read there
record IsReadIn (h : ℕ) (ws : List (List ℕ)) (f : ℕ) : Type 0 where
  face : face_in ws h ≡ f
  next : next_in ws h ≡ next_in_word h (word_of ws f)

read_in : (h : ℕ) (ws : List (List ℕ)) (f : ℕ) → occurs h ws ≤ 1 → 0 < count_of h (word_of ws f) → IsReadIn h ws f
unfolding face_in next_in
read_in h [] f once found = absurd (omega (arith, found))
read_in h (w ∷ ws) zero once found =
    let here : nat_lt 0 (count_of h w) ≡ true = lt-ltb 0 (count_of h w) found in
    record { face = rw here refl; next = rw here refl }
read_in h (w ∷ ws) (suc f) once found =
    let not : nat_lt 0 (count_of h w) ≡ false = le-ltb 0 (count_of h w) (omega (arith, once, found, count-le_occurs h ws f)) in
    let later = read_in h ws f (omega (arith, once)) found in
    record { face = rw not (ap suc later.face); next = rw not later.next }

-- a list that is written from its least item
head_least : (w : List ℕ) (m : ℕ) → IsLeastFirst w → 0 < count_of m w → ((k : ℕ) → k < m → count_of k w ≡ 0)
    → w ≡ m ∷ others m w
head_least [] m low found none = absurd (omega (arith, found))
head_least (y ∷ r) m low found none =
    let same : y ≡ m =
    elim (cases_lt m y) [
      | inl less ↦
          let differs : m ≢ y = λ e. omega (arith, e) in
          absurd (omega (arith, found, low m less, count-other m y r differs))
      | inr more ↦
          elim (cases_lt y m) [
            | inl less ↦ absurd (omega (arith, none y less, count-same y r))
            | inr other ↦ omega (arith, more, other)
          ]
    ] in
    rw (← same, eq-eqb y y refl) (ap (λ z. y ∷ z) (sym (append-nil r)))

-- the word that holds h, written from h
round_of : Shape → ℕ → List ℕ
round_of s h = h ∷ others h (word_round s h)

-- of a walk from h that has come to k: the half edges that it has passed, and how many others are to come
pub passed_round : Shape → ℕ → ℕ → List ℕ
passed_round s h k = h ∷ before k (others h (word_round s h))

pub left_round : Shape → ℕ → ℕ → ℕ
left_round s h k = length (onward k (others h (word_round s h)))

-- a walk from h goes on from k to l
pub record IsStep (s : Shape) (h k l : ℕ) : Type 0 where
  pub stands : 0 < count_of k (word_round s h)
  pub away : k ≢ h
  pub next : l ≡ next_of s k

-- a walk from h has come to k, and the least half edge that it has passed is m
pub record IsLeastSoFar (s : Shape) (h k m : ℕ) : Type 0 where
  pub stands : 0 < count_of k (word_round s h)
  pub least_stands : 0 < count_of m (word_round s h)
  pub none_below : (j : ℕ) → j < m → count_of j (passed_round s h k) ≡ 0

module _ {s : Shape} (sound : IsSound s) where
  -- what stands in a word is live
  word_item-live : (h f : ℕ) → 0 < count_of h (word_of s.words f) → IsLive s h
  word_item-live h f found =
      elim (cases_Bool (edge_is_live s (h / 2))) [
        | inl live ↦ live
        | inr dead ↦ absurd (omega (arith, found, sound.no_other h dead, count-le_occurs h s.words f))
      ]

  live_stands : (h : ℕ) → IsLive s h → 0 < count_of h (word_round s h)
  live_stands h live =
      let (f, within, there) = word_with h s.words (omega (arith, sound.once h live)) in
      rw (read_in h s.words f (occurs-le sound h) there).face there

  -- a step stays in the word
  next_stands : (k f : ℕ) → 0 < count_of k (word_of s.words f) → 0 < count_of (next_of s k) (word_of s.words f)
  next_stands k f found = rw (read_in k s.words f (occurs-le sound k) found).next (next_in_word-stands k (word_of s.words f) found)

  module _ (h : ℕ) (live : IsLive s h) where
    here : 0 < count_of h (word_round s h)
    here = live_stands h live

    turn : TurnsTo (word_round s h) (round_of s h)
    unfolding round_of
    turn = others-turn h (word_round s h) here (single sound _ h)

    -- `next` leads round the word
    round : GoesRound (next_of s) h (others h (word_round s h))
    round =
        goes_round (next_of s) h (word_round s h)
        (cycle_from_next (By (next_of s)) (word_round s h) (single sound _) (λ k found. (read_in k s.words _ (occurs-le sound k) found).next))
        (single sound _) here

    stands_round : (k : ℕ) → 0 < count_of k (word_round s h) → 0 < count_of k (h ∷ others h (word_round s h))
    unfolding round_of
    stands_round k found = omega (arith, found, count-turn k turn)

    -- a walk from h stays in its word
    pub first_stands : (k : ℕ) → k ≡ next_of s h → 0 < count_of k (word_round s h)
    first_stands k first = rw first (next_stands h (face_of s h) here)

    pub step_stands : {k l : ℕ} → IsStep s h k l → 0 < count_of l (word_round s h)
    step_stands {k} step = rw step.next (next_stands k (face_of s h) step.stands)

    pub stands_live : (k : ℕ) → 0 < count_of k (word_round s h) → IsLive s k
    stands_live k found = word_item-live k (face_of s h) found

    -- a step passes one half edge, so that fewer are to come
    passed_first : (k : ℕ) → k ≡ next_of s h → passed_round s h k ≡ h ∷ []
    unfolding passed_round
    passed_first k first = rw first (ap (λ w. h ∷ w) (round_begins round))

    passed_more : {k l : ℕ} → IsStep s h k l → passed_round s h l ≡ passed_round s h k ++ k ∷ []
    unfolding passed_round
    passed_more {k} step = rw step.next (ap (λ w. h ∷ w) (round_passes round k (stands_round k step.stands) step.away))

    passed_all : passed_round s h h ≡ round_of s h
    unfolding passed_round round_of
    passed_all = ap (λ w. h ∷ w) (round_ends round)

    pub left_less : {k l : ℕ} → IsStep s h k l → left_round s h l < left_round s h k
    unfolding left_round
    left_less {k} step = rw step.next (round_shortens round k (stands_round k step.stands) step.away)

    -- the half edges passed, each after a space: in the end all of the word, where the walk is from its least half edge
    pub listed_first : (n k : ℕ) → n ≡ h → k ≡ next_of s h → 32 ∷ decimal n ≡ listed (passed_round s h k)
    listed_first n k same first = ap (λ i. 32 ∷ decimal i) same ∙ sym (ap listed (passed_first k first) ∙ append-nil (32 ∷ decimal h))

    pub listed_more : {k l : ℕ} (n : ℕ) → n ≡ k → IsStep s h k l
        → listed (passed_round s h k) ++ 32 ∷ decimal n ≡ listed (passed_round s h l)
    listed_more {k} n same step =
        ap (λ i. listed (passed_round s h k) ++ 32 ∷ decimal i) same
        ∙ sym (ap listed (passed_more step) ∙ listed-push (passed_round s h k) k)

    pub listed_all : (k : ℕ) → k ≡ h → IsLeastOnFace s h → listed (passed_round s h k) ≡ listed (word_round s h)
    unfolding round_of
    listed_all k back least =
        ap (λ i. listed (passed_round s h i)) back
        ∙ ap listed (passed_all ∙ sym (head_least (word_round s h) h (sound.least_first _) here least.none_below))

    pub least_first : (k : ℕ) → k ≡ next_of s h → IsLeastSoFar s h k h
    least_first k first = record {
      stands = first_stands k first;
      least_stands = here;
      none_below = λ j below. rw (passed_first k first) (count-other j h [] (λ same. omega (arith, same)));
    }

    -- the half edge that a step passes is the least so far, or isn't
    pub least_more : {k l m : ℕ} (low : ℕ) → IsStep s h k l → IsLeastSoFar s h k m → low ≤ m → low ≤ k
        → 0 < count_of low (word_round s h) → IsLeastSoFar s h l low
    least_more {k} low step so_far no_more no_higher there = record {
      stands = step_stands step;
      least_stands = there;
      none_below = λ j below.
          let differs : j ≢ k = λ same. omega (arith, same) in
          rw (passed_more step)
          (omega (arith, so_far.none_below j (omega arith), count-append j (passed_round s h k) (k ∷ []), count-other j k [] differs));
    }

    pub least_all : {k m : ℕ} → k ≡ h → IsLeastSoFar s h k m → IsLeastOnFace s m × (face_of s m ≡ face_of s h)
    least_all {k} {m} back so_far =
        let same : face_of s m ≡ face_of s h = (read_in m s.words (face_of s h) (occurs-le sound m) so_far.least_stands).face in
        let passed : passed_round s h k ≡ round_of s h = ap (passed_round s h) back ∙ passed_all in (
          record {
            live = stands_live m so_far.least_stands;
            none_below = λ j below. rw same (omega (arith, rw passed at (so_far.none_below j below), count-turn j turn));
          },
          same,
        )

module _ {V DE UE F : Type 0} {m : Mesh V DE UE F} (mesh : IsMesh m) (f : ℕ) (within : f < face_count m.shape) where
  -- the anchor of a face is live and lies on it, and a face without one has no half edge
  pub anchor_lies : (h : ℕ) → face_anchor m f ≡ Some h → IsLive m.shape h × (face_of m.shape h ≡ f)
  anchor_lies h is =
      let w = word_of m.shape.words f in
      let found : 0 < count_of h w = subst (AnchorsWord w) is (mesh.anchored.faces f within) in
      (word_item-live mesh.sound h f found, (read_in h m.shape.words f (occurs-le mesh.sound h) found).face)

  pub unanchored_word : face_anchor m f ≡ None → word_of m.shape.words f ≡ []
  unanchored_word is = subst (AnchorsWord (word_of m.shape.words f)) is (mesh.anchored.faces f within)
