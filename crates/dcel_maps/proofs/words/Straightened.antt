-- The word of a face on both sides of a vertex between two edges, once the vertex is taken out.
use Rattle.std.proofs.Common.{◌≡◌, ◌≢◌, ◌+◌, ◌<◌, ◌≤◌, ℕ, List, [], ◌∷◌, ◌++◌, map, refl, sym, ap, ◌∙◌, subst, eq-eqb, arith}
use Rattle.dcel_fixed.specs.HalfEdges.{rev}
use Rattle.dcel_maps.specs.Cyclic.{from_least}
use Rattle.dcel_maps.specs.Maps.{Live, Map}
use Rattle.dcel_maps.specs.theory.Cycles.{IsCycle, Path}
use Rattle.dcel_maps.specs.theory.Sound.{Sound}
use Rattle.dcel_maps.specs.theory.Standing.{Follows, Stands}
use Rattle.dcel_maps.specs.Words.{TurnsTo, become, count_of, word_of}
use Rattle.dcel_maps.proofs.maps.Halves.{rev-rev, rev_differs}
use Rattle.dcel_maps.proofs.maps.Soundness.{face_cycles, next_differs, rev_live}
use Rattle.dcel_maps.proofs.maps.Straightened.{StraightensAt, straightened, straightened_follows, whole, whole-other}
use Rattle.dcel_maps.proofs.maps.Undone.{stand_in-h, stand_in-rev}
use Rattle.dcel_maps.proofs.words.Becoming.{become-none}
use Rattle.dcel_maps.proofs.words.Counts.{absent_head, count-append, count-other, count-same, split_at}
use Rattle.dcel_maps.proofs.words.Cuts.{become-append, become-turn}
use Rattle.dcel_maps.proofs.words.Cyclic.{from_least-same, from_least-word}
use Rattle.dcel_maps.proofs.words.Faces.{IsWordOf}
use Rattle.dcel_maps.proofs.words.Paths.{Path-append, Path-split}
use Rattle.dcel_maps.proofs.words.Reading.{stands_in_face}
use Rattle.dcel_maps.proofs.words.Triangles.{WrittenFrom, written_from}
use Rattle.dcel_maps.proofs.words.Turns.{count-turn}

-- two items taken out of a list in which nothing stands twice
out_of : (x : ℕ) (l r : List ℕ) → ((k : ℕ) → count_of k (l ++ x ∷ r) ≤ 1) → become x [] (l ++ x ∷ r) ≡ l ++ r
out_of x l r once =
    let counted = count-append x l (x ∷ r) in
    let none_l : count_of x l ≡ 0 = omega (arith, once x, counted, count-same x r) in
    let none_r : count_of x r ≡ 0 = omega (arith, once x, counted, count-same x r) in
    become-append x [] l (x ∷ r) ∙ rw (become-none x [] l none_l, eq-eqb x x refl, become-none x [] r none_r) refl

module _ (T : Map) (h k : ℕ) (t : Sound T) (e : StraightensAt T h k) (sound : Sound (straightened T h k)) where
  abbrev S : Map
  S = straightened T h k

  map_whole : (r : List ℕ) → count_of k r ≡ 0 → count_of (rev k) r ≡ 0 → map (whole h k) r ≡ r
  map_whole [] not_k not_j = refl
  map_whole (x ∷ r) not_k not_j =
      ap (λ z. z ∷ map (whole h k) r) (whole-other h k x (λ is. absent_head k x r not_k (sym is)) (λ is. absent_head (rev k) x r not_j (sym is)))
      ∙ ap (λ w. x ∷ w) (map_whole r (omega (arith, not_k)) (omega (arith, not_j)))

  -- a path that comes from neither h nor the other half of k
  straight_path : (f x : ℕ) (r : List ℕ) (z : ℕ) → Path (Follows T f) x r z → count_of h (x ∷ r) ≡ 0 → count_of (rev k) (x ∷ r) ≡ 0
      → Path (Follows S f) (whole h k x) (map (whole h k) r) (whole h k z)
  straight_path f x [] z p not_h not_j =
      straightened_follows T h k t e sound f x z (λ is. absent_head h x [] not_h (sym is)) (λ is. absent_head (rev k) x [] not_j (sym is)) p
  straight_path f x (y ∷ r) z p not_h not_j = (
    straightened_follows T h k t e sound f x y (λ is. absent_head h x (y ∷ r) not_h (sym is)) (λ is. absent_head (rev k) x (y ∷ r) not_j (sym is)) p.0,
    straight_path f y r z p.1 (omega (arith, not_h)) (omega (arith, not_j)),
  )

  module _ (ws : List (List ℕ)) (st : Stands T ws) (one_face : T.face (rev h) ≡ T.face h) where
    abbrev f : ℕ
    f = T.face h

    live_j : Live T (rev k)
    live_j = rev_live T k (subst (Live T) e.next_h (t.live_next h e.lives))

    face_j : T.face (rev k) ≡ T.face h
    face_j = sym ((face_cycles T t).along (rev k) live_j) ∙ ap T.face e.next_rev ∙ one_face

    -- the word, written from h: h, k, .., the other half of k, that of h, ..
    record Parts (m n : List ℕ) : Type 0 where
      turn : TurnsTo (word_of ws f) (h ∷ k ∷ m ++ rev k ∷ rev h ∷ n)
      single : (x : ℕ) → count_of x (h ∷ k ∷ m ++ rev k ∷ rev h ∷ n) ≤ 1
      cycle : IsCycle (Follows T f) (h ∷ k ∷ m ++ rev k ∷ rev h ∷ n)

    written : WrittenFrom T ws h
    written = written_from T ws st h e.lives

    abbrev Found : Type 0
    Found = (m : List ℕ) × (n : List ℕ) × Parts m n

    ends : (m n : List ℕ) → written.rest ≡ k ∷ m ++ rev k ∷ n → Path (Follows T f) (rev k) n h → Found
    ends m [] is back = absurd (rev_differs h (sym e.next_rev ∙ back.next))
    ends m (x ∷ n) is back =
        let same : written.rest ≡ k ∷ m ++ rev k ∷ rev h ∷ n = is ∙ ap (λ z. k ∷ m ++ rev k ∷ z ∷ n) (sym back.0.next ∙ e.next_rev) in (
          m,
          n,
          record {
            turn = subst (λ l. TurnsTo (word_of ws f) (h ∷ l)) same written.turn;
            single = λ z. subst (λ l. count_of z (h ∷ l) ≤ 1) same (written.single z);
            cycle = subst (λ l. IsCycle (Follows T f) (h ∷ l)) same written.cycle;
          },
        )

    splits : (r : List ℕ) → written.rest ≡ k ∷ r → 0 < count_of (rev k) r → Found
    splits r is found =
        let (m, n, parts) = split_at (rev k) r found in
        let whole_is : written.rest ≡ k ∷ m ++ rev k ∷ n = is ∙ ap (λ l. k ∷ l) parts in
        ends m n whole_is (Path-split (Follows T f) k m (rev k) n h (subst (λ l. IsCycle (Follows T f) (h ∷ l)) whole_is written.cycle).1).1

    begins : (r : List ℕ) → written.rest ≡ r → IsCycle (Follows T f) (h ∷ r) → Found
    begins [] is cycle = absurd (next_differs T t h e.lives cycle.next)
    begins (x ∷ r) is cycle =
        let first : x ≡ k = sym cycle.0.next ∙ e.next_h in
        let there : 0 < count_of (rev k) (h ∷ written.rest) =
        omega (
          arith,
          count-turn (rev k) written.turn,
          subst (λ z. 0 < count_of (rev k) (word_of ws z)) face_j (stands_in_face T ws st (rev k) live_j),
        ) in
        let not_h : rev k ≢ h = λ at. e.bent (sym (rev-rev k) ∙ ap rev at) in
        splits r (is ∙ ap (λ z. z ∷ r) first)
        (omega (
          arith,
          there,
          ap (λ l. count_of (rev k) (h ∷ l)) (is ∙ ap (λ z. z ∷ r) first),
          count-other (rev k) h (k ∷ r) not_h,
          count-other (rev k) k r (rev_differs k),
        ))

    found : Found
    found = begins written.rest refl written.cycle

    module _ (m n : List ℕ) (p : Parts m n) where
      none_of : (x : ℕ) → 0 < count_of x (h ∷ k ∷ []) → count_of x (m ++ rev k ∷ rev h ∷ n) ≡ 0
      none_of x there = omega (arith, there, p.single x)

      counted : (x : ℕ) → count_of x (m ++ rev k ∷ rev h ∷ n) ≡ count_of x m + count_of x (rev k ∷ rev h ∷ n)
      counted x = count-append x m (rev k ∷ rev h ∷ n)

      h_none : count_of h (m ++ rev k ∷ rev h ∷ n) ≡ 0
      h_none = none_of h (omega (arith, count-same h (k ∷ [])))

      k_none : count_of k (m ++ rev k ∷ rev h ∷ n) ≡ 0
      k_none = none_of k (omega (arith, count-same k []))

      j_once : (count_of (rev k) m ≡ 0) × (count_of (rev k) (rev h ∷ n) ≡ 0)
      j_once = (
        omega (arith, p.single (rev k), counted (rev k), count-same (rev k) (rev h ∷ n)),
        omega (arith, p.single (rev k), counted (rev k), count-same (rev k) (rev h ∷ n)),
      )

      k≢j : rev k ≢ k
      k≢j = rev_differs k

      h≢k : h ≢ k
      h≢k is = next_differs T t h e.lives (e.next_h ∙ sym is)

      parts : Path (Follows T f) k m (rev k) × Path (Follows T f) (rev k) (rev h ∷ n) h
      parts = Path-split (Follows T f) k m (rev k) (rev h ∷ n) h p.cycle.1

      -- the same without k and its other half
      around : IsCycle (Follows S f) (h ∷ m ++ rev h ∷ n)
      around =
          let there = straight_path f k m (rev k) parts.0 (omega (arith, h_none, counted h, count-other h k m h≢k))
          (omega (arith, j_once.0, count-other (rev k) k m k≢j)) in
          let back = straight_path f (rev h) n h parts.1.1 (omega (arith, h_none, counted h)) j_once.1 in
          let g_is : whole h k (rev h) ≡ rev h =
          whole-other h k (rev h) (λ is. e.bent (sym is)) (λ is. omega (arith, j_once.1, count-same (rev k) n, ap (λ z. count_of (rev k) (z ∷ n)) is)) in
          let h_is : whole h k h ≡ h =
          whole-other h k h h≢k (λ is. omega (arith, h_none, counted h, ap (λ z. count_of z (rev k ∷ rev h ∷ n)) is, count-same (rev k) (rev h ∷ n))) in
          let first : Path (Follows S f) h m (rev h) =
          rw (stand_in-h k h (rev h), stand_in-rev k h (rev h), map_whole m (omega (arith, k_none, counted k)) j_once.0) at there in
          let second : Path (Follows S f) (rev h) n h =
          rw (g_is, h_is, map_whole n (omega (arith, k_none, counted k)) (omega (arith, j_once.1))) at back in
          Path-append (Follows S f) h m (rev h) n h first second

      once : (x : ℕ) → count_of x (h ∷ m ++ rev h ∷ n) ≤ 1
      once x = omega (arith, p.single x, counted x, count-append x m (rev h ∷ n))

      -- which is the word without these two
      word_is : from_least (become (rev k) [] (become k [] (word_of ws f))) ≡ from_least (h ∷ m ++ rev h ∷ n)
      word_is =
          let first : become k [] (h ∷ k ∷ m ++ rev k ∷ rev h ∷ n) ≡ h ∷ m ++ rev k ∷ rev h ∷ n =
          out_of k (h ∷ []) (m ++ rev k ∷ rev h ∷ n) p.single in
          let second : become (rev k) [] (h ∷ m ++ rev k ∷ rev h ∷ n) ≡ h ∷ m ++ rev h ∷ n =
          out_of (rev k) (h ∷ m) (rev h ∷ n) (λ x. omega (arith, p.single x)) in
          let turned : TurnsTo (become (rev k) [] (become k [] (word_of ws f))) (h ∷ m ++ rev h ∷ n) =
          subst (TurnsTo (become (rev k) [] (become k [] (word_of ws f)))) (ap (become (rev k) []) first ∙ second)
          (become-turn (rev k) [] (become-turn k [] p.turn)) in
          from_least-same turned (λ x. omega (arith, once x, count-turn x turned))

      word_at : IsWordOf S f (from_least (become (rev k) [] (become k [] (word_of ws f))))
      word_at = subst (IsWordOf S f) (sym word_is) (from_least-word S sound f h (m ++ rev h ∷ n) around once)

    -- the word of the face of h is the one before, without the half edges of the edge that goes
    pub straightened_word : IsWordOf S (T.face h) (from_least (become (rev k) [] (become k [] (word_of ws (T.face h)))))
    straightened_word = let (m, n, p) = found in word_at m n p
