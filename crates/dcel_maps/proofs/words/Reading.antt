-- What the links say is what the words that they stand for say.
use Rattle.std.proofs.Common.{◌≡◌, inl, inr, ℕ, ◌*◌, ◌/◌, ◌<◌, ◌≤◌, true, false, nat_lt, List, [], ◌∷◌, length, map, slice_index_or, refl, ap, sym, ◌∙◌, arith, Option, None}
use Rattle.std.proofs.lemmas.Bool.{cases_lt, cases_Bool, lt-ltb, le-ltb, false≢true}
use Rattle.std.proofs.lemmas.List.{length-map, get_or-map, ext_get_or}
use Rattle.dcel_maps.specs.Maps.{Map, Live, By}
use Rattle.dcel_maps.specs.Shapes.{AnchorsWord}
use Rattle.dcel_maps.specs.theory.Standing.{Follows, Stands}
use Rattle.dcel_maps.specs.Walks.{anchored_word, anchored_words}
use Rattle.dcel_maps.specs.Words.{count_of, occurs, word_of, next_in_word, prev_in_word, next_in, prev_in, face_in}
use Rattle.dcel_maps.proofs.words.Counts.{count-le_occurs, length-le_total, occurs-none, word_within, count-none}
use Rattle.dcel_maps.proofs.words.Paths.{IsCycle-weaker, next_in_word-follows, next_in_word-stands, prev_in_word-leads}
use Rattle.dcel_maps.proofs.words.Walking.{anchored_word-is}

-- what the first word that holds h says
pub record Says (h : ℕ) (ws : List (List ℕ)) : Type 0 where
  pub within : face_in ws h < length ws
  pub holds : 0 < count_of h (word_of ws (face_in ws h))
  pub next : next_in ws h ≡ next_in_word h (word_of ws (face_in ws h))
  pub prev : prev_in ws h ≡ prev_in_word h (word_of ws (face_in ws h))

pub says : (h : ℕ) (ws : List (List ℕ)) → 0 < occurs h ws → Says h ws
unfolding next_in prev_in face_in
says h [] found = absurd (omega (arith, found))
says h (w ∷ ws) found =
    elim (cases_lt 0 (count_of h w)) [
      | inl here ↦
          let yes : nat_lt 0 (count_of h w) ≡ true = lt-ltb 0 (count_of h w) here in
          record {
            within = rw yes (omega arith);
            holds = rw yes here;
            next = rw yes refl;
            prev = rw yes refl;
          }
      | inr not ↦
          let no : nat_lt 0 (count_of h w) ≡ false = le-ltb 0 (count_of h w) not in
          let later = says h ws (omega (arith, found, not)) in
          record {
            within = rw no (omega (arith, later.within));
            holds = rw no later.holds;
            next = rw no later.next;
            prev = rw no later.prev;
          }
    ]

module _ (M : Map) (ws : List (List ℕ)) (st : Stands M ws) where
  -- what stands in a word is live, and lies on its face
  follows_in : (h f : ℕ) → 0 < count_of h (word_of ws f) → Follows M f h (next_in_word h (word_of ws f))
  follows_in h f found = next_in_word-follows (Follows M f) (word_of ws f) (st.cycles f (word_within h ws f found)) h found

  pub live_in : (h f : ℕ) → 0 < count_of h (word_of ws f) → Live M h
  live_in h f found = (follows_in h f found).live

  pub face_in_word : (h f : ℕ) → 0 < count_of h (word_of ws f) → M.face h ≡ f
  face_in_word h f found = (follows_in h f found).face

  -- no other half edge stands in a word
  pub dead_in_none : (h : ℕ) → M.edge (h / 2) ≡ false → occurs h ws ≡ 0
  dead_in_none h dead =
      occurs-none h ws (λ f within. count-none h (word_of ws f) (λ x found same.
      false≢true (sym dead ∙ ap (λ v. M.edge (v / 2)) same ∙ live_in x f found)))

  -- no item stands twice
  pub occurs-le : (h : ℕ) → occurs h ws ≤ 1
  occurs-le h =
      elim (cases_Bool (M.edge (h / 2))) [
        | inl live ↦ omega (arith, st.once h live)
        | inr dead ↦ omega (arith, dead_in_none h dead)
      ]

  pub count-le : (h f : ℕ) → count_of h (word_of ws f) ≤ 1
  count-le h f = omega (arith, occurs-le h, count-le_occurs h ws f)

  -- the words that the links spell are those that they stand for
  pub words-stand : (anchors : List (Option ℕ)) (fuel : ℕ) → length anchors ≡ length ws
      → ((f : ℕ) → f < length ws → AnchorsWord (word_of ws f) (slice_index_or anchors f None)) → 2 * M.edges ≤ fuel
      → anchored_words M.next fuel anchors ≡ ws
  unfolding anchored_words
  words-stand anchors fuel long anchored enough =
      let mapped : length (map (anchored_word M.next fuel) anchors) ≡ length ws =
      length-map anchors (anchored_word M.next fuel) ∙ long in
      ext_get_or [] (map (anchored_word M.next fuel) anchors) ws mapped (λ f within.
      let f_in : f < length ws = omega (arith, mapped) in
      get_or-map (anchored_word M.next fuel) anchors f None [] (omega (arith, long))
      ∙ anchored_word-is M.next fuel (word_of ws f) (slice_index_or anchors f None)
      (IsCycle-weaker (Follows M f) (By M.next) (word_of ws f) (λ p q i j k. k.next) (st.cycles f f_in))
      (st.least f f_in) (λ h. count-le h f) (omega (arith, st.short, length-le_total ws f)) (anchored f f_in))

  module _ (h : ℕ) (live : Live M h) where
    said : Says h ws
    said = says h ws (omega (arith, st.once h live))

    after : Follows M (face_in ws h) h (next_in_word h (word_of ws (face_in ws h)))
    after =
        next_in_word-follows (Follows M (face_in ws h)) (word_of ws (face_in ws h)) (st.cycles (face_in ws h) said.within)
        h said.holds

    before : Follows M (face_in ws h) (prev_in_word h (word_of ws (face_in ws h))) h
    before =
        prev_in_word-leads (Follows M (face_in ws h)) (word_of ws (face_in ws h)) (st.cycles (face_in ws h) said.within)
        h said.holds

    -- the links read off the words are the links
    pub next_in-is : next_in ws h ≡ M.next h
    next_in-is = said.next ∙ sym after.next

    pub prev_in-is : prev_in ws h ≡ M.prev h
    prev_in-is = said.prev ∙ sym before.prev

    pub face_in-is : face_in ws h ≡ M.face h
    face_in-is = sym after.face

    -- a live half edge stands in the word of its face
    pub face-below : M.face h < length ws
    face-below = rw after.face said.within

    pub stands_in_face : 0 < count_of h (word_of ws (M.face h))
    stands_in_face = rw after.face said.holds

    -- the half edges after and before it lie on its face
    pub face-next : M.face (M.next h) ≡ M.face h
    face-next =
        let there : 0 < count_of (next_in_word h (word_of ws (face_in ws h))) (word_of ws (face_in ws h)) =
        next_in_word-stands h (word_of ws (face_in ws h)) said.holds in
        ap M.face after.next ∙ face_in_word (next_in_word h (word_of ws (face_in ws h))) (face_in ws h) there ∙ face_in-is

    pub face-prev : M.face (M.prev h) ≡ M.face h
    face-prev = ap M.face before.prev ∙ before.face ∙ face_in-is
