-- Words that stand, face by face.
use Rattle.std.proofs.Common.{◌≡◌, ◌≢◌, ◌⊎◌, inl, inr, ℕ, ◌*◌, ◌/◌, ◌<◌, ◌≤◌, List, [], ◌∷◌, length, refl, subst, ap, sym, ◌∙◌, arith}
use Rattle.std.proofs.lemmas.Bool.{cases_lt}
use Rattle.std.proofs.lemmas.List.{get_or_past}
use Rattle.dcel_maps.specs.Maps.{Map, Live, By}
use Rattle.dcel_maps.specs.theory.Sound.{Sound}
use Rattle.dcel_maps.specs.theory.Standing.{Follows, Stands}
use Rattle.dcel_maps.specs.theory.Cycles.{IsCycle}
use Rattle.dcel_maps.specs.Words.{count_of, occurs, total_length, word_of, IsLeastFirst, next_in_word}
use Rattle.dcel_maps.proofs.maps.Reaching.{reaches_stays}
use Rattle.dcel_maps.proofs.words.Counts.{count-same, count-none, occurs-alone, total-le, word_with, word_within}
use Rattle.dcel_maps.proofs.words.Paths.{IsCycle-weaker, next_in_word-follows, next_in_word-stands}
use Rattle.dcel_maps.proofs.words.Turns.{TurnsTo, count-turn, IsCycle-turn}
use Rattle.dcel_maps.proofs.words.Reading.{live_in, occurs-le, count-le, stands_in_face}

-- words that go round their faces, with each live half edge once, are no longer than all half edges
pub stands_from : (M : Map) → ((x : ℕ) → Live M x → x / 2 < M.edges) → (ws : List (List ℕ)) → length ws ≡ M.faces
    → ((f : ℕ) → f < length ws → IsCycle (Follows M f) (word_of ws f)) → ((x : ℕ) → Live M x → occurs x ws ≡ 1)
    → ((f : ℕ) → f < length ws → IsLeastFirst (word_of ws f)) → Stands M ws
stands_from M below ws faces cycles once least =
    -- the same map with room for all these words
    let wide : Map = record M { edges = total_length ws } in
    let again : (f p q : ℕ) → Follows M f p q → Follows wide f p q =
    λ f p q k. record { live = k.live; next = k.next; prev = k.prev; face = k.face } in
    let st : Stands wide ws = record {
      faces = faces;
      cycles = λ f within. IsCycle-weaker (Follows M f) (Follows wide f) (word_of ws f) (λ p q i j k. again f p q k) (cycles f within);
      once = once;
      least = least;
      short = omega arith;
    } in
    let short : total_length ws ≤ 2 * M.edges =
    total-le ws (2 * M.edges) (occurs-le wide ws st) (λ h found.
    let (f, within, there) = word_with h ws found in
    let edge : h / 2 < M.edges = below h (live_in wide ws st h f there) in
    omega (arith, edge)) in
    record { faces = faces; cycles = cycles; once = once; least = least; short = short }

-- w is the word of the face f: it leads round, holds each live half edge of f once, and has the least first
pub record IsWordOf (M : Map) (f : ℕ) (w : List ℕ) : Type 0 where
  pub cycle : IsCycle (Follows M f) w
  pub once : (x : ℕ) → Live M x → M.face x ≡ f → count_of x w ≡ 1
  pub least : IsLeastFirst w

-- the word of a face on which a half edge lies isn't empty
pub word_full : (M : Map) (f : ℕ) (w : List ℕ) → IsWordOf M f w → (x : ℕ) → Live M x → M.face x ≡ f → w ≢ []
word_full M f w word x live at empty = let one : count_of x [] ≡ 1 = subst (λ u. count_of x u ≡ 1) empty (word.once x live at) in omega (arith, one)

-- words that stand are those of their faces
pub word_of_face : (M : Map) (ws : List (List ℕ)) → Stands M ws → (f : ℕ) → IsWordOf M f (word_of ws f)
word_of_face M ws st f =
    let once : (x : ℕ) → Live M x → M.face x ≡ f → count_of x (word_of ws f) ≡ 1 =
    λ x live at_f.
    let there : 0 < count_of x (word_of ws f) = rw at_f at (stands_in_face M ws st x live) in
    omega (arith, there, count-le M ws st x f) in
    elim (cases_lt f (length ws)) [
      | inl within ↦ record { cycle = st.cycles f within; once = once; least = st.least f within }
      | inr past ↦ record { cycle = rw get_or_past tt; once = once; least = rw get_or_past tt }
    ]

-- and words of all faces stand
pub stands_from_faces : (M : Map) → Sound M → (ws : List (List ℕ)) → length ws ≡ M.faces
    → ((f : ℕ) → f < length ws → IsWordOf M f (word_of ws f)) → Stands M ws
stands_from_faces M s ws faces words =
    stands_from M s.below_edges ws faces (λ f within. (words f within).cycle)
    (λ x live.
    let within : M.face x < length ws = omega (arith, faces, s.below_faces x live) in
    occurs-alone x ws (M.face x) within
    (λ g differs. count-none x (word_of ws g) (λ y found same.
    let k = next_in_word-follows (Follows M g) (word_of ws g) (words g (word_within y ws g found)).cycle y found in
    differs (sym k.face ∙ ap M.face (sym same))))
    ∙ (words (M.face x) within).once x live refl)
    (λ f within. (words f within).least)

-- in a sound map a list that leads round a face, with no item twice, holds the whole face; u is that list, least first
pub cycle_is_word : (M : Map) → Sound M → (f x : ℕ) (r u : List ℕ) → IsCycle (Follows M f) (x ∷ r)
    → ((h : ℕ) → count_of h (x ∷ r) ≤ 1) → TurnsTo (x ∷ r) u → IsLeastFirst u → IsWordOf M f u
cycle_is_word M s f x r u cycle single turn least =
    let at : (y : ℕ) → 0 < count_of y (x ∷ r) → Follows M f y (next_in_word y (x ∷ r)) =
    λ y found. next_in_word-follows (Follows M f) (x ∷ r) cycle y found in
    let first : 0 < count_of x (x ∷ r) = omega (arith, count-same x r) in
    record {
      cycle = IsCycle-turn (Follows M f) turn cycle;
      once = λ y live at_f.
          let found : 0 < count_of y (x ∷ r) =
          reaches_stays (By M.next) (λ z. 0 < count_of z (x ∷ r))
          (λ p q p_in step. subst (λ z. 0 < count_of z (x ∷ r)) (sym (at p p_in).next ∙ step) (next_in_word-stands p (x ∷ r) p_in))
          first ((s.one_face x y (at x first).live live).0 ((at x first).face ∙ sym at_f)) in
          omega (arith, found, single y, count-turn y turn);
      least = least;
    }

-- T leaves the face f of S as it is
pub record KeepsFace (S T : Map) (f : ℕ) : Type 0 where
  pub comes : (x : ℕ) → Live T x → T.face x ≡ f → Live S x × (S.face x ≡ f)
  pub live : (x : ℕ) → Live S x → S.face x ≡ f → Live T x
  pub next : (x : ℕ) → Live S x → S.face x ≡ f → T.next x ≡ S.next x
  pub prev : (x : ℕ) → Live S x → S.face x ≡ f → T.prev x ≡ S.prev x
  pub face : (x : ℕ) → Live S x → S.face x ≡ f → T.face x ≡ f

-- what each of two edits leaves as it is
pub keeps_face-then : (S M T : Map) (f : ℕ) → KeepsFace S M f → KeepsFace M T f → KeepsFace S T f
keeps_face-then S M T f first second = record {
  comes = λ x live at. let (old, was) = second.comes x live at in first.comes x old was;
  live = λ x live at. second.live x (first.live x live at) (first.face x live at);
  next = λ x live at. second.next x (first.live x live at) (first.face x live at) ∙ first.next x live at;
  prev = λ x live at. second.prev x (first.live x live at) (first.face x live at) ∙ first.prev x live at;
  face = λ x live at. second.face x (first.live x live at) (first.face x live at);
}

pub kept_word : (S T : Map) (f : ℕ) (w : List ℕ) → KeepsFace S T f → IsWordOf S f w → IsWordOf T f w
kept_word S T f w keeps word = record {
  cycle = IsCycle-weaker (Follows S f) (Follows T f) w (λ p q p_in q_in k.
      let at = next_in_word-follows (Follows S f) w word.cycle q q_in in
      record {
        live = keeps.live p k.live k.face;
        next = keeps.next p k.live k.face ∙ k.next;
        prev = keeps.prev q at.live at.face ∙ k.prev;
        face = keeps.face p k.live k.face;
      }) word.cycle;
  once = λ x live at_f. let (old, was) = keeps.comes x live at_f in word.once x old was;
  least = word.least;
}

-- words that stand after an edit: each is new, or that of a face left as it is
pub edited_stands : (S T : Map) (ws us : List (List ℕ)) → Sound T → Stands S ws → length us ≡ T.faces
    → ((f : ℕ) → f < length us → IsWordOf T f (word_of us f) ⊎ (KeepsFace S T f × (word_of us f ≡ word_of ws f)))
    → Stands T us
edited_stands S T ws us sound st faces words =
    stands_from_faces T sound us faces (λ f within.
    elim (words f within) [
      | inl new ↦ new
      | inr (keeps, same) ↦ rw same (kept_word S T f (word_of ws f) keeps (word_of_face S ws st f))
    ])
