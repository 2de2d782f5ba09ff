-- Edges and vertices of a mesh of triangles, counted by its words.
use Rattle.std.proofs.Common.{◌≡◌, ℕ, suc, ◌+◌, ◌*◌, ◌/◌, ◌<◌, Bool, true, false, cond, inl, inr, List, [], ◌∷◌, length, zero, refl, sym, ap, ◌∙◌, arith}
use Rattle.std.proofs.lemmas.Bool.{cases_Bool}
use Rattle.std.specs.List.{concat}
use Rattle.dcel_maps.specs.Count.{Counts, live_edges}
use Rattle.dcel_maps.specs.Maps.{count}
use Rattle.dcel_maps.specs.Removals.{gives_up_edge, gives_up_face}
use Rattle.dcel_maps.specs.Shapes.{IsMesh, IsSound, Mesh, Shape, edge_is_live, face_count, face_is_live}
use Rattle.dcel_maps.specs.Walking.{hull_of}
use Rattle.dcel_maps.specs.Words.{total_length, word_of}
use Rattle.dcel_maps.proofs.Liveness.{gives_up_face-outer, is_live-from, is_live-parts}
use Rattle.dcel_maps.proofs.shapes.Maps.{word_cases}
use Rattle.dcel_maps.proofs.walks.Hull.{hull-lists, hull-turn}
use Rattle.dcel_maps.proofs.walks.Lengths.{length-is_twice}
use Rattle.dcel_maps.proofs.words.Counts.{count-concat, length-concat}
use Rattle.dcel_maps.proofs.words.Turns.{length-turn}

-- the first of the numbers that are tried
count-first : (p : ℕ → Bool) (n : ℕ) → count p (suc n) ≡ cond (p 0) 1 0 + count (λ k. p (suc k)) n
count-first p zero = elim (cases_Bool (p 0)) [ inl passes ↦ rw passes refl | inr fails ↦ rw fails refl ]
count-first p (suc n) = elim (cases_Bool (p (suc n))) [
  | inl passes ↦ rw passes (omega (arith, count-first p n))
  | inr fails ↦ rw fails (count-first p n)
]

-- words of three where a test passes, and none where it fails
threes-total : (p : ℕ → Bool) (ws : List (List ℕ)) → ((f : ℕ) → p f ≡ true → length (word_of ws f) ≡ 3)
    → ((f : ℕ) → p f ≡ false → word_of ws f ≡ []) → total_length ws ≡ 3 * count p (length ws)
threes-total p [] three none = refl
threes-total p (w ∷ ws) three none =
    let rest = threes-total (λ f. p (suc f)) ws (λ f. three (suc f)) (λ f. none (suc f)) in
    let first = count-first p (length ws) in
    elim (cases_Bool (p 0)) [
      | inl passes ↦ let one : count p (suc (length ws)) ≡ 1 + count (λ k. p (suc k)) (length ws) = rw passes at first in omega (arith, rest, one, three 0 passes)
      | inr fails ↦
          let one : count p (suc (length ws)) ≡ 0 + count (λ k. p (suc k)) (length ws) = rw fails at first in
          let short : length w ≡ 0 = ap length (none 0 fails) in
          omega (arith, rest, one, short)
    ]

-- and a first word that passes, of any length
pub words-total : (p : ℕ → Bool) (ws : List (List ℕ)) → 0 < length ws → p 0 ≡ true → ((f : ℕ) → 0 < f → p f ≡ true → length (word_of ws f) ≡ 3)
    → ((f : ℕ) → p f ≡ false → word_of ws f ≡ []) → total_length ws + 3 ≡ length (word_of ws 0) + 3 * count p (length ws)
words-total p [] some outer three none = absurd (omega arith)
words-total p (w ∷ ws) some outer three none =
    let rest = threes-total (λ f. p (suc f)) ws (λ f. three (suc f) (omega arith)) (λ f. none (suc f)) in
    let first : count p (suc (length ws)) ≡ 1 + count (λ k. p (suc k)) (length ws) = rw outer at (count-first p (length ws)) in
    omega (arith, rest, first)

-- each live half edge stands in one word, once
pub words-length : (s : Shape) → IsSound s → total_length s.words ≡ 2 * live_edges s
words-length s sound =
    let all = concat s.words in
    sym (length-concat s.words)
    ∙ length-is_twice (edge_is_live s) s.edges all (λ h live. count-concat h s.words ∙ sound.once h live)
    (λ h found. elim (cases_Bool (edge_is_live s (h / 2))) [
      | inl live ↦ let (below, kept) = is_live-parts (gives_up_edge s.removal) s.edges (h / 2) live in omega (arith, below)
      | inr dead ↦ absurd (omega (arith, found, count-concat h s.words, sound.no_other h dead))
    ])
    (λ h dead. count-concat h s.words ∙ sound.no_other h dead)

-- where each live inner face has three half edges, their number and Euler's formula give the count
pub counted : {V DE UE F : Type 0} (m : Mesh V DE UE F) → IsMesh m → Counts m
counted m mesh all some =
    let s = m.shape in
    let outer : face_is_live s 0 ≡ true =
    is_live-from (gives_up_face s.removal) (face_count s) 0 mesh.sized.outer (gives_up_face-outer mesh.sized.within) in
    let words = words-total (face_is_live s) s.words mesh.sized.outer outer all mesh.sound.bare in
    elim (word_cases (hull_of m)) [
      | inl none ↦ absurd (omega (arith, some, ap length none))
      | inr (h, stands) ↦
          let live = ((hull-lists mesh).no_other h stands).live in
          omega (arith, words, words-length s mesh.sound, length-turn (hull-turn mesh), mesh.sphere.euler (h / 2) live)
    ]
