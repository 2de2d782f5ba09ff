-- The links of a sound shape stand for its words: those of a live half edge are live, and undo each other.
use Rattle.std.proofs.Common.{◌≡◌, ℕ, ◌*◌, ◌/◌, ◌<◌, ◌≤◌, inl, inr, refl, ap, ◌∙◌, arith}
use Rattle.std.proofs.lemmas.Bool.{cases_Bool, cases_eq, true_from_ne_false}
use Rattle.dcel_maps.specs.Laws.{ccw_lawful}
use Rattle.dcel_maps.specs.Removals.{gives_up_edge}
use Rattle.dcel_maps.specs.Shapes.{Shape, IsLive, IsSound, edge_is_live, face_of, map_of, next_of, prev_of}
use Rattle.dcel_maps.specs.theory.Standing.{Follows, Stands}
use Rattle.dcel_maps.specs.Walking.{IsLawful, ccw_of, cw_of}
use Rattle.dcel_maps.specs.theory.Cycles.{IsCycle}
use Rattle.dcel_maps.specs.Words.{count_of, occurs, next_in_word, prev_in_word, word_of}
use Rattle.dcel_maps.proofs.Liveness.{is_live-parts}
use Rattle.dcel_maps.proofs.words.Counts.{count-le_occurs, two_words}
use Rattle.dcel_maps.proofs.words.Faces.{stands_from}
use Rattle.dcel_maps.proofs.words.Paths.{IsCycle-weaker, next_in_word-follows, next_in_word-stands, prev_in_word-leads}
use Rattle.dcel_maps.proofs.words.Reading.{Says, face-below, says, stands_in_face}
use Rattle.dcel_maps.proofs.words.Rounds.{Adjacent, round_of}

-- a live half edge is in range
pub half-below : (s : Shape) (h : ℕ) → IsLive s h → h < 2 * s.edges
half-below s h live = let parts = is_live-parts (gives_up_edge s.removal) s.edges (h / 2) live in omega arith

module _ {s : Shape} (sound : IsSound s) where
  -- no number occurs twice
  pub occurs-le : (h : ℕ) → occurs h s.words ≤ 1
  occurs-le h = elim (cases_Bool (edge_is_live s (h / 2))) [
    | inl live ↦ omega (arith, sound.once h live)
    | inr dead ↦ omega (arith, sound.no_other h dead)
  ]

  pub single : (f h : ℕ) → count_of h (word_of s.words f) ≤ 1
  single f h = omega (arith, occurs-le h, count-le_occurs h s.words f)

  -- what stands in a word is live
  stands-live : (f h : ℕ) → 0 < count_of h (word_of s.words f) → IsLive s h
  stands-live f h found = true_from_ne_false (edge_is_live s (h / 2))
      (λ dead. omega (arith, found, sound.no_other h dead, count-le_occurs h s.words f))

  said : (f h : ℕ) → 0 < count_of h (word_of s.words f) → Says h s.words
  said f h found = says h s.words (omega (arith, found, count-le_occurs h s.words f))

  -- what comes before a half edge is said by the word of its face
  pub prev-said : (h : ℕ) → IsLive s h → prev_of s h ≡ prev_in_word h (word_of s.words (face_of s h))
  prev-said h live = (says h s.words (omega (arith, sound.once h live))).prev

  -- and in no other
  stands-face : (f h : ℕ) → 0 < count_of h (word_of s.words f) → face_of s h ≡ f
  stands-face f h found = elim (cases_eq (face_of s h) f) [
    | inl same ↦ same
    | inr differs ↦
        let holds = (said f h found).holds in
        absurd (omega (arith, found, holds, occurs-le h, two_words h s.words (face_of s h) f differs))
  ]

  -- neighbours in a word follow each other on its face
  adjacent-follows : (f p q : ℕ) → 0 < count_of p (word_of s.words f) → 0 < count_of q (word_of s.words f) → Adjacent (word_of s.words f) p q
      → Follows (map_of s) f p q
  adjacent-follows f p q p_in q_in adjacent = record {
    live = stands-live f p p_in;
    next = (said f p p_in).next ∙ ap (λ g. next_in_word p (word_of s.words g)) (stands-face f p p_in) ∙ adjacent.after;
    prev = (said f q q_in).prev ∙ ap (λ g. prev_in_word q (word_of s.words g)) (stands-face f q q_in) ∙ adjacent.before;
    face = stands-face f p p_in;
  }

  pub links_stand : Stands (map_of s) s.words
  links_stand =
      stands_from (map_of s) (λ h live. (is_live-parts (gives_up_edge s.removal) s.edges (h / 2) live).0) s.words refl
      (λ f within. IsCycle-weaker (Adjacent (word_of s.words f)) (Follows (map_of s) f) (word_of s.words f)
      (adjacent-follows f) (round_of (word_of s.words f) (single f)))
      sound.once (λ f within. sound.least_first f)

  module _ (h : ℕ) (live : IsLive s h) where
    stands : 0 < count_of h (word_of s.words (face_of s h))
    stands = stands_in_face (map_of s) s.words links_stand h live

    cycle : IsCycle (Follows (map_of s) (face_of s h)) (word_of s.words (face_of s h))
    cycle = links_stand.cycles (face_of s h) (face-below (map_of s) s.words links_stand h live)

    after : Follows (map_of s) (face_of s h) h (next_in_word h (word_of s.words (face_of s h)))
    after = next_in_word-follows (Follows (map_of s) (face_of s h)) (word_of s.words (face_of s h)) cycle h stands

    before : Follows (map_of s) (face_of s h) (prev_in_word h (word_of s.words (face_of s h))) h
    before = prev_in_word-leads (Follows (map_of s) (face_of s h)) (word_of s.words (face_of s h)) cycle h stands

    pub next-live : IsLive s (next_of s h)
    next-live = rw after.next (stands-live (face_of s h) _ (next_in_word-stands h (word_of s.words (face_of s h)) stands))

    pub prev-live : IsLive s (prev_of s h)
    prev-live = rw before.prev before.live

    prev-next : prev_of s (next_of s h) ≡ h
    prev-next = ap (prev_of s) after.next ∙ after.prev

    next-prev : next_of s (prev_of s h) ≡ h
    next-prev = ap (next_of s) before.prev ∙ before.next

  -- so going round a face and back is lawful, and turning round a vertex and back
  pub links_lawful : IsLawful s (next_of s) (prev_of s)
  links_lawful = record { stays = next-live; stays_back = prev-live; back-step = prev-next; step-back = next-prev }

  pub ccw-lawful : IsLawful s (ccw_of s) (cw_of s)
  ccw-lawful = ccw_lawful s links_lawful
