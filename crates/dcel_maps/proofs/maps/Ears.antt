-- An ear, a chord over two neighbours, keeps a map sound and a sphere.
use Rattle.std.proofs.Common.{◌≡◌, ◌≢◌, ℕ, true, sym, ap, ◌∙◌, subst, arith}
use Rattle.std.proofs.lemmas.Bool.Decides.{nat_tests}
use Rattle.dcel_maps.specs.Maps.{Live, Map}
use Rattle.dcel_maps.specs.theory.Sound.{Sound, Sphere}
use Rattle.dcel_maps.proofs.maps.Edits.{Chord, ChordAt, Ear, EarAt, two}
use Rattle.dcel_maps.proofs.maps.Soundness.{face_cycles, next_differs}
use Rattle.dcel_maps.proofs.maps.Chords.{chord_keeps}

-- what an ear knows of the half edges round it
pub record EarSite (S : Map) (p n q : ℕ) : Type 0 where
  pub live_n : Live S n
  pub live_q : Live S q
  pub p≢q : p ≢ q
  pub n≢q : n ≢ q
  pub p≢n : p ≢ n
  pub prev_n : S.prev n ≡ p
  pub prev_q : S.prev q ≡ n
  pub back≢p : S.prev p ≢ p
  pub back≢n : S.prev p ≢ n
  pub face_n : S.face n ≡ S.face p
  pub face_q : S.face q ≡ S.face n

-- what stands round an ear
pub ear_site : (S : Map) (p n q h g : ℕ) → Sound S → EarAt S p n q h g → EarSite S p n q
ear_site S p n q h g s e =
    let ln : Live S n = subst (λ z. Live S z) e.next_p (s.live_next p e.lives) in
    let p≢q : p ≢ q = λ i. e.apart (ap S.origin i) in
    record {
      live_n = ln;
      live_q = subst (λ z. Live S z) e.next_n (s.live_next n ln);
      p≢q = p≢q;
      n≢q = λ i. next_differs S s n ln (e.next_n ∙ sym i);
      p≢n = λ i. next_differs S s p e.lives (e.next_p ∙ sym i);
      prev_n = ap S.prev (sym e.next_p) ∙ s.prev-next p e.lives;
      prev_q = ap S.prev (sym e.next_n) ∙ s.prev-next n ln;
      back≢p = λ i. next_differs S s p e.lives (ap S.next (sym i) ∙ s.next-prev p e.lives);
      back≢n = λ i. p≢q (sym (s.next-prev p e.lives) ∙ ap S.next i ∙ e.next_n);
      face_n = ap S.face (sym e.next_p) ∙ (face_cycles S s).along p e.lives;
      face_q = ap S.face (sym e.next_n) ∙ (face_cycles S s).along n ln;
    }

-- where an ear may be, so may its chord
pub ear_at : (S : Map) (p n q h g : ℕ) → Sound S → EarAt S p n q h g → ChordAt S p q h g (two p n)
ear_at S p n q h g s e =
    let c = ear_site S p n q h g s e in
    record {
      lives_p = e.lives;
      lives_q = c.live_q;
      apart = e.apart;
      fresh = e.fresh;
      vacant = e.vacant;
      same = sym (c.face_q ∙ c.face_n);
      arc_p = grind (arith, nat_tests);
      arc_q = grind (arith, nat_tests);
      arc_before_p = grind (arith, nat_tests);
      arc_before_q = grind (arith, nat_tests);
      arc_face = λ x l i. grind (arith, nat_tests);
      arc_enter = λ x l i j. let b = s.prev-next x l in grind (arith, nat_tests);
      arc_leave = λ x l i j. grind (arith, nat_tests);
    }

-- what holds at two numbers holds where the test of the two does
pub two_in : (f : ℕ → ℕ) (p n x g : ℕ) → f p ≡ g → f n ≡ g → two p n x ≡ true → f x ≡ g
two_in f p n x g at_p at_n t = grind (arith, nat_tests)

module _ (S T : Map) (p n q h g : ℕ) (e : Ear S T p n q h g) (s : Sound S) where
  -- an ear is a chord
  pub ear_chord : Chord S T p q h g (two p n)
  ear_chord = record { at = ear_at S p n q h g s e.at; cut = e.cut }

  -- an ear keeps a map sound and a sphere
  pub ear_keeps : Sphere S → Sound T × Sphere T
  ear_keeps = chord_keeps S T p q h g (two p n) ear_chord s
