-- After a vertex is put into an edge of one triangle: the word on the other side of the edge.
use Rattle.std.proofs.Common.{◌≡◌, ℕ, true, refl, ◌+◌, ◌/◌, List, [], ◌∷◌, sym, ap, ◌∙◌, subst, arith}
use Rattle.dcel_fixed.specs.HalfEdges.{rev}
use Rattle.dcel_maps.specs.Cyclic.{from_least}
use Rattle.dcel_maps.specs.Maps.{Map}
use Rattle.dcel_maps.specs.theory.Sound.{Sound, Sphere}
use Rattle.dcel_maps.specs.Words.{become, count_of}
use Rattle.dcel_maps.proofs.maps.HalfSplits.{HalfSplit, half_is_ear, half_subdivides, half_uncut}
use Rattle.dcel_maps.proofs.maps.Soundness.{rev_live}
use Rattle.dcel_maps.proofs.maps.Subdivides.{last-h, subdivide_keeps}
use Rattle.dcel_maps.proofs.words.Becoming.{become-none}
use Rattle.dcel_maps.proofs.words.Cuts.{cut-keeps_face}
use Rattle.dcel_maps.proofs.words.Faces.{IsWordOf, KeepsFace, kept_word, word_full}
use Rattle.dcel_maps.proofs.words.Standing.{elsewhere_absent}
use Rattle.dcel_maps.proofs.words.Subdivides.{stretch, subdivide_word}

module _ (S T : Map) (f e a b t v n : ℕ) (s : Sound S) (x : HalfSplit S T f e a b t v n) (sphere : Sphere S) where
  abbrev g : ℕ
  g = S.face t

  abbrev M : Map
  M = half_uncut S T f e a b t v n s x

  uncut_sound : Sound M
  uncut_sound = (subdivide_keeps S M e (n + 2) v (half_subdivides S T f e a b t v n s x) s sphere).0

  -- where t stands in the word on the other side, (n + 3, t) stands now
  pub half_split_word : (w : List ℕ) → IsWordOf S g w → IsWordOf T g (from_least (become t ((n + 3) ∷ t ∷ []) w))
  half_split_word w word =
      let live_t = subst (λ h. S.edge (h / 2) ≡ true) x.turn (rev_live S e x.was.live_x) in
      let none : count_of e w ≡ 0 = elsewhere_absent S g w word e (λ at. x.elsewhere (sym at ∙ x.was.face_x)) in
      let is : stretch e (n + 2) (rev e) (rev (n + 2)) w ≡ become t ((n + 3) ∷ t ∷ []) w =
      rw (become-none e (e ∷ (n + 2) ∷ []) w none, x.turn, x.turn_part) refl in
      let uncut = subdivide_word S M e (n + 2) v (half_subdivides S T f e a b t v n s x) s g w word uncut_sound (word_full S g w word t live_t refl) in
      let cut = half_subdivides S T f e a b t v n s x in
      let part : M.face (n + 2) ≡ f = ap M.face (sym (last-h e (n + 2))) ∙ cut.face_last e x.was.live_x ∙ x.was.face_x in
      let keeps : KeepsFace M T g =
      cut-keeps_face M T (n + 2) a b (n + 1) S.faces (half_is_ear S T f e a b t v n s x) uncut_sound g
      (λ same. x.elsewhere (same ∙ part)) (λ same. omega (arith, s.below_faces t live_t, same)) in
      kept_word M T g (from_least (become t ((n + 3) ∷ t ∷ []) w)) keeps (subst (λ (l : List ℕ). IsWordOf M g (from_least l)) is uncut)
