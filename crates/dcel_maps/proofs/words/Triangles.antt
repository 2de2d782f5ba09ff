-- Words written from one of their half edges, and those of three.
use Rattle.std.proofs.Common.{◌≡◌, ◌↔◌, ℕ, ◌<◌, ◌≤◌, List, [], ◌∷◌, length, refl, subst, ap, sym, ◌∙◌, arith}
use Rattle.std.proofs.lemmas.Bool.Decides.{nat_tests}
use Rattle.dcel_maps.specs.Cyclic.{from_least}
use Rattle.dcel_maps.specs.Maps.{Map, Live}
use Rattle.dcel_maps.specs.theory.Sound.{Sound}
use Rattle.dcel_maps.specs.theory.Standing.{Follows, Stands}
use Rattle.dcel_maps.specs.theory.Cycles.{IsCycle}
use Rattle.dcel_maps.specs.Words.{count_of, word_of}
use Rattle.dcel_maps.proofs.maps.Soundness.{next_differs}
use Rattle.dcel_maps.proofs.maps.Triangles.{IsTriangleOf, triangle_from}
use Rattle.dcel_maps.proofs.words.Counts.{count-same, count-equal, count-other}
use Rattle.dcel_maps.proofs.words.Cyclic.{from_least-kept, from_least-word}
use Rattle.dcel_maps.proofs.words.Faces.{IsWordOf, word_of_face}
use Rattle.dcel_maps.proofs.words.Reading.{count-le, face-below, stands_in_face}
use Rattle.dcel_maps.proofs.words.Turns.{TurnsTo, from_least-is, from_least-turn, turned_to, turned_to-is, turns_back, count-turn, length-turn, IsCycle-turn}

-- the word of the face of h, written from h
pub record WrittenFrom (M : Map) (ws : List (List ℕ)) (h : ℕ) : Type 0 where
  pub rest : List ℕ
  pub is : turned_to h (word_of ws (M.face h)) ≡ h ∷ rest
  pub turn : TurnsTo (word_of ws (M.face h)) (h ∷ rest)
  pub cycle : IsCycle (Follows M (M.face h)) (h ∷ rest)
  pub single : (x : ℕ) → count_of x (h ∷ rest) ≤ 1

module _ (M : Map) (ws : List (List ℕ)) (st : Stands M ws) (h : ℕ) (live : Live M h) where
  pub written_from : WrittenFrom M ws h
  written_from =
      let (rest, is, turn) = turned_to-is h (word_of ws (M.face h)) (stands_in_face M ws st h live) in
      record {
        rest = rest;
        is = is;
        turn = turn;
        cycle = IsCycle-turn (Follows M (M.face h)) turn (st.cycles (M.face h) (face-below M ws st h live));
        single = λ x. omega (arith, count-turn x turn, count-le M ws st x (M.face h));
      }

  three : (r : List ℕ) → length (h ∷ r) ≡ 3 → IsCycle (Follows M (M.face h)) (h ∷ r) → r ≡ M.next h ∷ M.prev h ∷ []
  three [] long c = absurd (omega arith)
  three (x ∷ []) long c = absurd (omega arith)
  three (x ∷ y ∷ []) long c = rw (c.0.next, c.1.1.prev) refl
  three (x ∷ y ∷ z ∷ r) long c = absurd (omega arith)

  -- a word of three is h, the next and the one before
  pub triangle_turn : length (word_of ws (M.face h)) ≡ 3
      → TurnsTo (word_of ws (M.face h)) (h ∷ M.next h ∷ M.prev h ∷ [])
  triangle_turn long =
      let w = written_from in
      subst (λ (r : List ℕ). TurnsTo (word_of ws (M.face h)) (h ∷ r)) (three w.rest (length-turn w.turn ∙ long) w.cycle) w.turn

  closes : (r : List ℕ) → length (h ∷ r) ≡ 3 → IsCycle (Follows M (M.face h)) (h ∷ r) → M.next (M.next h) ≡ M.prev h
  closes [] long c = absurd (omega arith)
  closes (x ∷ []) long c = absurd (omega arith)
  closes (x ∷ y ∷ []) long c = ap M.next c.0.next ∙ c.1.0.next ∙ sym c.1.1.prev
  closes (x ∷ y ∷ z ∷ r) long c = absurd (omega arith)

  closed : Sound M → M.next (M.next h) ≡ M.prev h → (r : List ℕ) → IsCycle (Follows M (M.face h)) (h ∷ r)
      → ((x : ℕ) → count_of x (h ∷ r) ≤ 1) → length (h ∷ r) ≡ 3
  closed s back [] c single = absurd (next_differs M s h live c.next)
  closed s back (x ∷ []) c single =
      absurd (next_differs M s h live (c.0.next ∙ sym c.1.prev ∙ sym back ∙ ap M.next c.0.next ∙ c.1.next))
  closed s back (x ∷ y ∷ []) c single = refl
  closed s back (x ∷ y ∷ z ∷ r) c single =
      let last : M.prev h ≡ y = sym back ∙ ap M.next c.0.next ∙ c.1.0.next in
      let again : h ≡ z = sym (s.next-prev h live) ∙ ap M.next last ∙ c.1.1.0.next in
      absurd (omega (arith, single h, count-same h (x ∷ y ∷ z ∷ r), count-equal h z r again))

  -- a word is one of three just where two steps lead to the one before
  pub is_triangle : Sound M → (length (word_of ws (M.face h)) ≡ 3) ↔ (M.next (M.next h) ≡ M.prev h)
  is_triangle s =
      let w = written_from in (
        λ long. closes w.rest (length-turn w.turn ∙ long) w.cycle,
        λ back. sym (length-turn w.turn) ∙ closed s back w.rest w.cycle w.single,
      )

  -- or two steps back to the next one
  pub is_triangle-back : Sound M → (length (word_of ws (M.face h)) ≡ 3) ↔ (M.prev (M.prev h) ≡ M.next h)
  is_triangle-back s =
      let both = is_triangle s in (
        λ long. ap M.prev (sym (both.0 long)) ∙ s.prev-next (M.next h) (s.live_next h live),
        λ back. both.1 (ap M.next (sym back) ∙ s.next-prev (M.prev h) (s.live_prev h live)),
      )

-- a word of three leads round a triangle
pub triangle_read : (M : Map) (ws : List (List ℕ)) → Stands M ws → Sound M → (f x y z : ℕ) → f < length ws
    → word_of ws f ≡ from_least (x ∷ y ∷ z ∷ []) → IsTriangleOf M f x y z
triangle_read M ws st s f x y z within is =
    let cycle : IsCycle (Follows M f) (x ∷ y ∷ z ∷ []) =
    IsCycle-turn (Follows M f) (turns_back (from_least-turn (x ∷ y ∷ z ∷ []))) (subst (λ (w : List ℕ). IsCycle (Follows M f) w) is (st.cycles f within)) in
    triangle_from M s f x y z cycle.0.live cycle.0.next cycle.1.0.next cycle.1.1.next cycle.0.face

-- the word of a triangle, from its least half edge on
module _ (M : Map) (s : Sound M) (f x y z : ℕ) (a : IsTriangleOf M f x y z) where
  once : (h : ℕ) → count_of h (x ∷ y ∷ z ∷ []) ≤ 1
  once h =
      let p = a.x≢y in
      let q = a.y≢z in
      let o = a.x≢z in
      grind (arith, nat_tests)

  pub triangle-word_of : IsWordOf M f (from_least (x ∷ y ∷ z ∷ []))
  triangle-word_of =
      from_least-word M s f x (y ∷ z ∷ []) (
        record { live = a.live_x; next = a.next_x; prev = a.prev_y; face = a.face_x },
        (
          record { live = a.live_y; next = a.next_y; prev = a.prev_z; face = a.face_y },
          record { live = a.live_z; next = a.next_z; prev = a.prev_x; face = a.face_z },
        ),
      ) once

  pub triangle-word : x < y → x < z → IsWordOf M f (x ∷ y ∷ z ∷ [])
  triangle-word less_y less_z =
      subst (IsWordOf M f)
      (from_least-kept (x ∷ y ∷ z ∷ []) (λ h less. omega (arith, count-other h y (z ∷ []) (λ e. omega (arith, e)), count-other h z [] (λ e. omega (arith, e)))) once)
      triangle-word_of

  -- so words that stand have it there, with three half edges
  module _ (ws : List (List ℕ)) (st : Stands M ws) where
    pub triangle_long : length (word_of ws (M.face x)) ≡ 3
    triangle_long = (is_triangle M ws st x a.live_x s).1 (ap M.next a.next_x ∙ a.next_y ∙ sym a.prev_x)

    pub triangle_written : word_of ws f ≡ from_least (x ∷ y ∷ z ∷ [])
    triangle_written =
        let turn : TurnsTo (word_of ws f) (x ∷ y ∷ z ∷ []) = rw (a.face_x, a.next_x, a.prev_x) at (triangle_turn M ws st x a.live_x triangle_long) in
        sym (from_least-is (turns_back turn) (word_of_face M ws st f).least once)
