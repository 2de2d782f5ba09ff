-- After an ear cut a face in two: the words of both parts, and the faces that stay.
use Rattle.std.proofs.Common.{◌≡◌, ◌≢◌, inl, inr, ℕ, ◌<◌, ◌≤◌, true, false, List, [], ◌∷◌, ◌++◌, eq-eqb, refl, sym, ap, ◌∙◌, subst, arith}
use Rattle.std.proofs.lemmas.Bool.{cases_Bool, cases_eq, ne_eqb}
use Rattle.std.proofs.lemmas.Bool.Decides.{nat_tests}
use Rattle.std.proofs.lemmas.List.{append_assoc}
use Rattle.dcel_fixed.specs.HalfEdges.{rev}
use Rattle.dcel_maps.specs.Cyclic.{from_least}
use Rattle.dcel_maps.specs.Maps.{Live, Map}
use Rattle.dcel_maps.specs.theory.Cycles.{IsCycle, Path}
use Rattle.dcel_maps.specs.theory.Sound.{Sound}
use Rattle.dcel_maps.specs.theory.Standing.{Follows}
use Rattle.dcel_maps.specs.Words.{TurnsTo, become, count_of}
use Rattle.dcel_maps.proofs.maps.Chords.{chord_grown, chord_sound}
use Rattle.dcel_maps.proofs.maps.Ears.{EarSite, ear_at, ear_chord, ear_site}
use Rattle.dcel_maps.proofs.maps.Edits.{Chord, Ear, two}
use Rattle.dcel_maps.proofs.maps.Growth.{Grown, live_cases, still_live}
use Rattle.dcel_maps.proofs.maps.Soundness.{face_cycles, next_differs}
use Rattle.dcel_maps.proofs.maps.Triangles.{IsTriangleOf, triangle_from}
use Rattle.dcel_maps.proofs.words.Becoming.{become-none}
use Rattle.dcel_maps.proofs.words.Counts.{count-equal, count-other, count-same}
use Rattle.dcel_maps.proofs.words.Cyclic.{from_least-same, from_least-word}
use Rattle.dcel_maps.proofs.words.Faces.{IsWordOf, KeepsFace}
use Rattle.dcel_maps.proofs.words.Paths.{Path-changed}
use Rattle.dcel_maps.proofs.words.Standing.{dead_absent, stands_once}
use Rattle.dcel_maps.proofs.words.Turns.{IsCycle-turn, count-turn, turned_to-is, turns_back}

pub become-append : (x : ℕ) (items a b : List ℕ) → become x items (a ++ b) ≡ become x items a ++ become x items b
become-append x items [] b = refl
become-append x items (y ∷ a) b = elim (cases_eq x y) [
  | inl same ↦
      rw (eq-eqb x y same) (ap (λ z. items ++ z) (become-append x items a b) ∙ sym (append_assoc items (become x items a) (become x items b)))
  | inr differs ↦ rw (ne_eqb x y differs) (ap (λ z. y ∷ z) (become-append x items a b))
]

-- items of a cyclic list are replaced from wherever it is written
pub become-turn : {w u : List ℕ} (x : ℕ) (items : List ℕ) → TurnsTo w u → TurnsTo (become x items w) (become x items u)
become-turn x items t = record {
  front = become x items t.front;
  back = become x items t.back;
  was = ap (become x items) t.was ∙ become-append x items t.front t.back;
  is = ap (become x items) t.is ∙ become-append x items t.back t.front;
}

-- the first item replaced, and the second one left out
become-pair : (p n h : ℕ) (r : List ℕ) → p ≢ n → h ≢ n → count_of p r ≡ 0 → count_of n r ≡ 0
    → become n [] (become p (h ∷ []) (p ∷ n ∷ r)) ≡ h ∷ r
become-pair p n h r p≢n h≢n no_p no_n =
    rw (eq-eqb p p refl, ne_eqb p n p≢n, become-none p (h ∷ []) r no_p)
    (rw (ne_eqb n h (λ is. h≢n (sym is)), eq-eqb n n refl, become-none n [] r no_n) refl)

module _ (S T : Map) (p n q h g : ℕ) (e : Ear S T p n q h g) (s : Sound S) where
  abbrev f : ℕ
  f = S.face p

  chord : Chord S T p q h g (two p n)
  chord = ear_chord S T p n q h g e s

  grown : Grown S T h
  grown = chord_grown S T p q h g (two p n) chord

  sound : Sound T
  sound = chord_sound S T p q h g (two p n) chord s

  site : EarSite S p n q
  site = ear_site S p n q h g s e.at

  -- a word that begins with p goes on with n and q
  goes_on : (rest : List ℕ) → IsCycle (Follows S f) (p ∷ rest) → (r : List ℕ) × (rest ≡ n ∷ q ∷ r)
  goes_on [] c = absurd (next_differs S s p e.at.lives c.next)
  goes_on (a ∷ []) c =
      let first : a ≡ n = sym c.0.next ∙ e.at.next_p in
      absurd (site.p≢q (sym c.1.next ∙ ap S.next first ∙ e.at.next_n))
  goes_on (a ∷ b ∷ r) c =
      let first : a ≡ n = sym c.0.next ∙ e.at.next_p in
      let second : b ≡ q = sym c.1.0.next ∙ ap S.next first ∙ e.at.next_n in
      (r, rw (first, second) refl)

  module _ (r : List ℕ) (single : (x : ℕ) → count_of x (p ∷ n ∷ q ∷ r) ≤ 1) where
    no_p : count_of p (q ∷ r) ≡ 0
    no_p = omega (arith, single p, count-same p (n ∷ q ∷ r))

    no_n : count_of n (q ∷ r) ≡ 0
    no_n = omega (arith, single n, count-same n (q ∷ r))

    no_q : count_of q r ≡ 0
    no_q = omega (arith, single q, count-same q r)

    absent : (x y : ℕ) (l : List ℕ) → count_of x l ≡ 0 → 0 < count_of y l → y ≢ x
    absent x y l none found is = let bad : 0 < count_of x l = rw is at found in omega (arith, bad, none)

    off : (y : ℕ) → 0 < count_of y (q ∷ r) → two p n y ≡ false
    off y found =
        let not_p = absent p y (q ∷ r) no_p found in
        let not_n = absent n y (q ∷ r) no_n found in
        grind (arith, nat_tests)

    -- from q on it leads to h as it led to p
    rest_path : Path (Follows S f) q r p → Path (Follows T f) q r h
    rest_path =
        Path-changed (Follows S f) (Follows T f) q r p h
        (λ y z y_in z_in link.
        let z_live : Live S z = subst (Live S) link.next (s.live_next y link.live) in
        let not_p : z ≢ p = absent p z r (omega (arith, no_p)) z_in in
        let not_q : z ≢ q = absent q z r no_q z_in in
        record {
          live = still_live S T h grown y link.live;
          next = e.next_other y link.live
              (λ is. not_p (sym link.next ∙ ap S.next is ∙ s.next-prev p e.at.lives))
              (λ is. absent n y (q ∷ r) no_n y_in (is ∙ site.prev_q))
              ∙ link.next;
          prev = e.prev_other z z_live not_p not_q ∙ link.prev;
          face = e.face_out y link.live (off y y_in) ∙ link.face;
        })
        (λ y y_in link. record {
          live = still_live S T h grown y link.live;
          next = ap T.next (sym link.prev) ∙ e.next_to_h;
          prev = e.prev_h ∙ link.prev;
          face = e.face_out y link.live (off y y_in) ∙ link.face;
        })

    shorter : IsCycle (Follows S f) (p ∷ n ∷ q ∷ r) → IsCycle (Follows T f) (h ∷ q ∷ r)
    shorter c = (
      record { live = e.edge_here; next = e.next_h; prev = e.prev_q; face = e.face_h ∙ site.face_q ∙ site.face_n },
      rest_path c.1.1,
    )

  -- the word without p and n, and with h in their place
  pub cut_word : (w : List ℕ) → IsWordOf S f w → IsWordOf T f (from_least (become n [] (become p (h ∷ []) w)))
  cut_word w word =
      let here : count_of p w ≡ 1 = word.once p e.at.lives refl in
      let (rest, is, turn) = turned_to-is p w (omega (arith, here)) in
      let (r, goes) = goes_on rest (IsCycle-turn (Follows S f) turn word.cycle) in
      let whole : TurnsTo w (p ∷ n ∷ q ∷ r) = subst (λ (l : List ℕ). TurnsTo w (p ∷ l)) goes turn in
      let single : (x : ℕ) → count_of x (p ∷ n ∷ q ∷ r) ≤ 1 = λ x. omega (arith, count-turn x whole, stands_once S f w word x) in
      let none : count_of h w ≡ 0 = dead_absent S f w word h e.at.fresh in
      let h≢n : h ≢ n = λ same. absent r single h n (p ∷ n ∷ q ∷ r) (count-turn h whole ∙ none) (omega (arith, count-same n (q ∷ r))) (sym same) in
      let left : (x : ℕ) → count_of x (h ∷ q ∷ r) ≤ 1 = λ x. elim (cases_eq x h) [
        | inl same ↦
            let gone : count_of x w ≡ 0 = ap (λ z. count_of z w) same ∙ none in
            omega (arith, count-equal x h (q ∷ r) same, count-turn x whole, gone)
        | inr differs ↦ omega (arith, count-other x h (q ∷ r) differs, single x)
      ] in
      let pair : become n [] (become p (h ∷ []) (p ∷ n ∷ q ∷ r)) ≡ h ∷ q ∷ r =
      become-pair p n h (q ∷ r) site.p≢n h≢n (no_p r single) (no_n r single) in
      let turned : TurnsTo (become n [] (become p (h ∷ []) w)) (h ∷ q ∷ r) =
      subst (λ (l : List ℕ). TurnsTo (become n [] (become p (h ∷ []) w)) l) pair (become-turn n [] (become-turn p (h ∷ []) whole)) in
      subst (λ (l : List ℕ). IsWordOf T f l) (from_least-same (turns_back turned) left)
      (from_least-word T sound f h (q ∷ r) (shorter r single (IsCycle-turn (Follows S f) whole word.cycle)) left)

  -- its face is a triangle
  pub cut_triangle : (back : ℕ) → rev h ≡ back → IsTriangleOf T g p n back
  cut_triangle back turned =
      rw (← turned)
      (triangle_from T sound g p n (rev h) (still_live S T h grown p e.at.lives)
      (e.next_other p e.at.lives (λ is. site.back≢p (sym is)) (λ is. site.p≢n (is ∙ site.prev_q)) ∙ e.at.next_p)
      (ap T.next (sym site.prev_q) ∙ e.next_to_rev) e.next_rev
      (e.face_in p e.at.lives (grind (arith, nat_tests))))

  -- the other faces stay
  pub cut-keeps_face : (k : ℕ) → k ≢ f → k ≢ g → KeepsFace S T k
  cut-keeps_face k not_f not_g =
      let at = ear_at S p n q h g s e.at in
      let on_f : (x : ℕ) → Live S x → two p n x ≡ true → S.face x ≡ f = at.arc_face in
      record {
        comes = λ x live at_k. elim (live_cases S T h grown x live) [
          | inl old ↦ elim (cases_Bool (two p n x)) [
            | inl on ↦ absurd (not_g (sym at_k ∙ e.face_in x old on))
            | inr out ↦ (old, sym (e.face_out x old out) ∙ at_k)
          ]
          | inr (inl is) ↦ absurd (not_f (sym at_k ∙ ap T.face is ∙ e.face_h ∙ site.face_q ∙ site.face_n))
          | inr (inr is) ↦ absurd (not_g (sym at_k ∙ ap T.face is ∙ e.face_rev))
        ];
        live = λ x live at_k. still_live S T h grown x live;
        next = λ x live at_k.
            e.next_other x live
            (λ is. not_f (sym at_k ∙ sym ((face_cycles S s).along x live) ∙ ap S.face (ap S.next is ∙ s.next-prev p e.at.lives)))
            (λ is. not_f (sym at_k ∙ ap S.face (is ∙ site.prev_q) ∙ site.face_n));
        prev = λ x live at_k.
            e.prev_other x live (λ is. not_f (sym at_k ∙ ap S.face is)) (λ is. not_f (sym at_k ∙ ap S.face is ∙ site.face_q ∙ site.face_n));
        face = λ x live at_k. elim (cases_Bool (two p n x)) [
          | inl on ↦ absurd (not_f (sym at_k ∙ on_f x live on))
          | inr out ↦ e.face_out x live out ∙ at_k
        ];
      }
