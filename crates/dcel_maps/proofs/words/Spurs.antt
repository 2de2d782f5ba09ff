-- After a spur: the word that it is put into, and the faces that stay.
use Rattle.std.proofs.Common.{◌≡◌, ◌≢◌, inl, inr, ℕ, ◌*◌, ◌/◌, ◌≤◌, true, false, List, [], ◌∷◌, map, nat_lt, slice_set, lt-ltb, le-ltb, subst, ap, sym, ◌∙◌, refl, arith}
use Rattle.std.proofs.lemmas.Bool.{cases_eq}
use Rattle.dcel_fixed.specs.HalfEdges.{rev}
use Rattle.dcel_maps.specs.Maps.{Map, Live}
use Rattle.dcel_maps.specs.theory.Sound.{Sound}
use Rattle.dcel_maps.specs.theory.Standing.{Follows}
use Rattle.dcel_maps.specs.theory.Cycles.{Path}
use Rattle.dcel_maps.specs.Words.{become, count_of, face_in, occurs, with_spur, word_of}
use Rattle.dcel_maps.proofs.maps.Edits.{Spur}
use Rattle.dcel_maps.proofs.maps.Growth.{Grown, live_cases, not_new_edge, still_live}
use Rattle.dcel_maps.proofs.maps.Halves.{rev_half, rev_differs, rev_or_same}
use Rattle.dcel_maps.proofs.maps.Soundness.{face_cycles}
use Rattle.dcel_maps.proofs.maps.Spurs.{spur_grown}
use Rattle.dcel_maps.proofs.words.Becoming.{IsCycle-become, IsLeastFirst-become, become-none, count-become}
use Rattle.dcel_maps.proofs.words.Counts.{count-equal, count-other}
use Rattle.dcel_maps.proofs.words.Faces.{IsWordOf, KeepsFace}
use Rattle.dcel_maps.proofs.words.Standing.{dead_absent, stands_live}

-- a spur changes one word, that of its face
become_nowhere : (x : ℕ) (items : List ℕ) (ws : List (List ℕ)) → occurs x ws ≡ 0 → map (become x items) ws ≡ ws
become_nowhere x items [] none = refl
become_nowhere x items (w ∷ ws) none =
    rw (become-none x items w (omega (arith, none)), become_nowhere x items ws (omega (arith, none))) refl

pub with_spur-set : (ws : List (List ℕ)) (x out back : ℕ) → occurs x ws ≡ 1
    → with_spur ws x out back ≡ slice_set ws (face_in ws x) (become x (x ∷ out ∷ back ∷ []) (word_of ws (face_in ws x)))
unfolding face_in
with_spur-set [] x out back once = absurd (omega (arith, once))
with_spur-set (w ∷ ws) x out back once = elim (cases_eq (count_of x w) 0) [
  | inl none ↦
      let later : nat_lt 0 (count_of x w) ≡ false = le-ltb 0 (count_of x w) (omega (arith, none)) in
      rw (later, become-none x (x ∷ out ∷ back ∷ []) w none) (ap (λ r. w ∷ r) (with_spur-set ws x out back (omega (arith, once, none))))
  | inr some ↦
      let here : nat_lt 0 (count_of x w) ≡ true = lt-ltb 0 (count_of x w) (omega (arith, some)) in
      rw (here, become_nowhere x (x ∷ out ∷ back ∷ []) ws (omega (arith, once, some))) refl
]

-- a half edge stands among the halves of its edge, once, and of no other
count-halves : (x h : ℕ) → x / 2 ≡ h / 2 → count_of x (h ∷ rev h ∷ []) ≡ 1
count-halves x h same =
    elim (rev_or_same x h same) [
      | inl is ↦
          omega (arith, count-equal x h (rev h ∷ []) is, count-other x (rev h) [] (λ e. rev_differs h (sym e ∙ is)))
      | inr is ↦
          omega (arith, count-other x h (rev h ∷ []) (λ e. rev_differs h (sym is ∙ e)), count-equal x (rev h) [] is)
    ]

count-halves_other : (x h : ℕ) → x / 2 ≢ h / 2 → count_of x (h ∷ rev h ∷ []) ≡ 0
count-halves_other x h other =
    omega (
      arith,
      count-other x h (rev h ∷ []) (λ e. other (ap (λ v. v / 2) e)),
      count-other x (rev h) [] (λ e. other (ap (λ v. v / 2) e ∙ rev_half h)),
    )

module _ (S T : Map) (a h v : ℕ) (e : Spur S T a h v) (sound : Sound S) where
  grown : Grown S T h
  grown = spur_grown S T a h v e

  kept : (f p q : ℕ) → p ≢ a → Follows S f p q → Follows T f p q
  kept f p q differs k =
      let live_q : Live S q = subst (λ z. Live S z) k.next (sound.live_next p k.live) in
      let not_after : q ≢ S.next a = λ same. differs (sym k.prev ∙ ap S.prev same ∙ sound.prev-next a e.at.lives) in
      record {
        live = still_live S T h grown p k.live;
        next = e.next_other p k.live differs ∙ k.next;
        prev = e.prev_other q live_q not_after ∙ k.prev;
        face = e.face_other p k.live ∙ k.face;
      }

  put : (f q : ℕ) → Follows S f a q → Path (Follows T f) a (h ∷ rev h ∷ []) q
  put f q k =
      let out : Follows T f a h = record {
        live = still_live S T h grown a k.live;
        next = e.next_a;
        prev = e.prev_h;
        face = e.face_other a k.live ∙ k.face;
      } in
      let tip : Follows T f h (rev h) = record {
        live = e.edge_here;
        next = e.next_h;
        prev = e.prev_rev;
        face = e.face_h ∙ k.face;
      } in
      let back : Follows T f (rev h) q = record {
        live = ap T.edge (rev_half h) ∙ e.edge_here;
        next = e.next_rev ∙ k.next;
        prev = ap T.prev (sym k.next) ∙ e.prev_b;
        face = e.face_rev ∙ k.face;
      } in
      (out, (tip, back))

  abbrev f : ℕ
  f = S.face a

  -- the word with the spur
  pub spur_word : S.edges ≤ h / 2 → (back : ℕ) → rev h ≡ back → (w : List ℕ) → IsWordOf S f w → IsWordOf T f (become a (a ∷ h ∷ back ∷ []) w)
  spur_word above back turned w word =
      let here : count_of a w ≡ 1 = word.once a e.at.lives refl in
      rw (← turned)
      record {
        cycle = IsCycle-become (Follows S f) (Follows T f) a (h ∷ rev h ∷ []) (kept f) (put f) w word.cycle;
        once = λ x live at.
            let all = rw here at (count-become x a (h ∷ rev h ∷ []) w) in
            let new : x / 2 ≡ h / 2 → count_of x (become a (a ∷ h ∷ rev h ∷ []) w) ≡ 1 =
            λ same. omega (arith, all, dead_absent S f w word x (ap S.edge same ∙ e.at.fresh), count-halves x h same) in
            elim (live_cases S T h grown x live) [
              | inl old ↦
                  omega (arith, all, word.once x old (sym (e.face_other x old) ∙ at), count-halves_other x h (not_new_edge S T h grown x old))
              | inr (inl is) ↦ new (ap (λ z. z / 2) is)
              | inr (inr is) ↦ new (ap (λ z. z / 2) is ∙ rev_half h)
            ];
        least = IsLeastFirst-become a (h ∷ rev h ∷ []) w (2 * (h / 2))
            (λ x less. count-halves_other x h (omega arith))
            (λ x found. let below = sound.below_edges x (stands_live S f w word x found).0 in omega arith)
            word.least;
      }

  -- the other faces stay
  pub spur-keeps_face : (k : ℕ) → k ≢ f → KeepsFace S T k
  spur-keeps_face k differs = record {
    comes = λ x live at. elim (live_cases S T h grown x live) [
      | inl old ↦ (old, sym (e.face_other x old) ∙ at)
      | inr (inl is) ↦ absurd (differs (sym at ∙ ap T.face is ∙ e.face_h))
      | inr (inr is) ↦ absurd (differs (sym at ∙ ap T.face is ∙ e.face_rev))
    ];
    live = λ x live at. still_live S T h grown x live;
    next = λ x live at. e.next_other x live (λ is. differs (sym at ∙ ap S.face is));
    prev = λ x live at. e.prev_other x live (λ is. differs (sym at ∙ ap S.face is ∙ (face_cycles S sound).along a e.at.lives));
    face = λ x live at. e.face_other x live ∙ at;
  }
