-- After a triangle was put beside a half edge: the word of the face where it was, and the faces that stay.
use Rattle.std.proofs.Common.{◌≡◌, ◌≢◌, inl, inr, ℕ, ◌+◌, ◌/◌, List, [], ◌∷◌, eq-eqb, refl, sym, ap, ◌∙◌, subst, arith}
use Rattle.std.proofs.lemmas.Bool.{cases_eq, ne_eqb}
use Rattle.dcel_maps.specs.Cyclic.{from_least}
use Rattle.dcel_maps.specs.Maps.{Map}
use Rattle.dcel_maps.specs.theory.Sound.{Sound}
use Rattle.dcel_maps.specs.Words.{become, count_of}
use Rattle.dcel_maps.proofs.maps.Beside.{Beside, before_ear, is_last_ear, is_spur, turn_spur}
use Rattle.dcel_maps.proofs.maps.Counts.{edge_past}
use Rattle.dcel_maps.proofs.maps.Spurs.{spur_sound}
use Rattle.dcel_maps.proofs.words.Counts.{absent_head}
use Rattle.dcel_maps.proofs.words.Cuts.{cut-keeps_face, cut_word}
use Rattle.dcel_maps.proofs.words.Faces.{IsWordOf, KeepsFace, keeps_face-then}
use Rattle.dcel_maps.proofs.words.Standing.{dead_absent}
use Rattle.dcel_maps.proofs.words.Spurs.{spur-keeps_face, spur_word}

-- x followed by n and q, and then h in place of x and n
become-twice : (x n h q : ℕ) → x ≢ n → x ≢ q → n ≢ h → n ≢ q → (w : List ℕ) → count_of n w ≡ 0
    → become n [] (become x (h ∷ []) (become x (x ∷ n ∷ q ∷ []) w)) ≡ become x (h ∷ q ∷ []) w
become-twice x n h q x≢n x≢q n≢h n≢q [] none = refl
become-twice x n h q x≢n x≢q n≢h n≢q (y ∷ r) none =
    let rest = become-twice x n h q x≢n x≢q n≢h n≢q r (omega (arith, none)) in
    elim (cases_eq x y) [
      | inl same ↦
          rw (eq-eqb x y same)
          (rw (eq-eqb x x refl, ne_eqb x n x≢n, ne_eqb x q x≢q)
          (rw (eq-eqb n n refl, ne_eqb n h n≢h, ne_eqb n q n≢q) (ap (λ l. h ∷ q ∷ l) rest)))
      | inr differs ↦
          rw (ne_eqb x y differs) (rw (ne_eqb x y differs) (rw (ne_eqb n y (absent_head n y r none)) (ap (λ l. y ∷ l) rest)))
    ]

module _ (S T : Map) (e v n : ℕ) (s : Sound S) (b : Beside S T e v n) where
  abbrev M : Map
  M = before_ear S T e v n s b

  spur_edges : S.edges ≡ n / 2
  spur_edges = omega (arith, b.twice)

  sound : Sound M
  sound = spur_sound S M e n v (is_spur S T e v n s b) s

  same_face : M.face e ≡ S.face e
  same_face = (is_spur S T e v n s b).face_other e b.lives

  -- e becomes (n + 3, n + 1)
  pub beside_word : (w : List ℕ) → IsWordOf S (S.face e) w → IsWordOf T (S.face e) (from_least (become e ((n + 3) ∷ (n + 1) ∷ []) w))
  beside_word w word =
      let spur = is_spur S T e v n s b in
      let e_in = s.below_edges e b.lives in
      let middle : IsWordOf M (S.face e) (become e (e ∷ n ∷ (n + 1) ∷ []) w) =
      spur_word S M e n v spur s (omega (arith, spur_edges)) (n + 1) (turn_spur S T e v n s b) w word in
      let none : count_of n w ≡ 0 = dead_absent S (S.face e) w word n (edge_past S s (n / 2) (omega (arith, spur_edges))) in
      let twice = become-twice e n (n + 3) (n + 1) (λ is. omega (arith, is, e_in, b.twice)) (λ is. omega (arith, is, e_in, b.twice)) (λ is. omega (arith, is)) (λ is. omega (arith, is)) w none in
      subst (λ l. IsWordOf T (S.face e) (from_least l)) twice
      (subst (λ f. IsWordOf T f (from_least (become n [] (become e ((n + 3) ∷ []) (become e (e ∷ n ∷ (n + 1) ∷ []) w))))) same_face
      (cut_word M T e n (n + 1) (n + 3) S.faces (is_last_ear S T e v n s b) sound (become e (e ∷ n ∷ (n + 1) ∷ []) w)
      (subst (λ f. IsWordOf M f (become e (e ∷ n ∷ (n + 1) ∷ []) w)) (sym same_face) middle)))

  pub beside-keeps_face : (k : ℕ) → k ≢ S.face e → k ≢ S.faces → KeepsFace S T k
  beside-keeps_face k not_f not_last =
      keeps_face-then S M T k (spur-keeps_face S M e n v (is_spur S T e v n s b) s k not_f)
      (cut-keeps_face M T e n (n + 1) (n + 3) S.faces (is_last_ear S T e v n s b) sound k (λ is. not_f (is ∙ same_face)) not_last)
