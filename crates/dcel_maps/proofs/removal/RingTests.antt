-- The test of a region ring is exact.
use Rattle.std.proofs.Common.{◌≡◌, ◌≢◌, ◌⊎◌, ◌↔◌, inl, inr, ◌*◌, ◌/◌, ◌<◌, ◌≤◌, ℕ, true, List, [], ◌∷◌, length, reverse, sym, ap, ◌∙◌, subst, arith}
use Rattle.std.proofs.lemmas.List.{length-reverse}
use Rattle.dcel_fixed.specs.HalfEdges.{rev}
use Rattle.dcel_maps.specs.Borders.{StartsAlone}
use Rattle.dcel_maps.specs.Maps.{Map}
use Rattle.dcel_maps.specs.theory.Cycles.{IsCycle, Path}
use Rattle.dcel_maps.specs.theory.Sound.{Sound}
use Rattle.dcel_maps.specs.theory.Standing.{Follows}
use Rattle.dcel_maps.specs.Shapes.{IsLive, IsSound, Shape, face_of, map_of, origin_of}
use Rattle.dcel_maps.specs.Walking.{ListsOnce}
use Rattle.dcel_maps.specs.Words.{count_of, word_of}
use Rattle.dcel_maps.proofs.maps.Halves.{rev-rev, rev_half, rev_or_same}
use Rattle.dcel_maps.proofs.maps.Soundness.{face_cycles}
use Rattle.dcel_maps.proofs.shapes.Maps.{map-sound}
use Rattle.dcel_maps.proofs.walks.Links.{links_stand}
use Rattle.dcel_maps.proofs.words.Counts.{count-none, count-same, first_or_later, word_within, stands_or_not}
use Rattle.dcel_maps.proofs.words.Paths.{IsCycle-weaker, next_in_word-follows}
use Rattle.dcel_maps.proofs.words.Reading.{stands_in_face}
use Rattle.dcel_maps.specs.Regions.{IsRegion, IsRegionRing, IsRim, LeadsPast}
use Rattle.dcel_maps.specs.Regions.LeadsPast.{on, past}
use Rattle.dcel_maps.specs.theory.RingTests.{BeginsOn, PassesTest, StepsTo, stands}
use Rattle.dcel_maps.proofs.removal.Passing.{leads-one_way, leads-steps, no_return, stands-true, steps-leads, true-stands}

-- the test as conditions, and the definition
module _ (s : Shape) (sound : IsSound s) (border edges faces : List ℕ) where
  abbrev S : Map
  S = map_of s

  sd : Sound S
  sd = map-sound sound

  -- what stands in the word of a face is live and on it
  in_word : (f h : ℕ) → 0 < count_of h (word_of s.words f) → IsLive s h × (face_of s h ≡ f)
  in_word f h found =
      let at = next_in_word-follows (Follows S f) (word_of s.words f) ((links_stand sound).cycles f (word_within h s.words f found)) h found in
      (at.live, at.face)

  module _ (t : PassesTest s border edges faces) where
    live : (u : ℕ) → 0 < count_of u edges → S.edge u ≡ true
    live u found = (t.edges_fit u found).0

    between : (h : ℕ) → 0 < count_of (h / 2) edges → (0 < count_of (face_of s h) faces) × (face_of s h ≢ face_of s (rev h))
    between h found =
        let even : 2 * (h / 2) / 2 ≡ h / 2 = omega arith in
        let fits = t.edges_fit (h / 2) found in
        elim (rev_or_same h (2 * (h / 2)) (sym even)) [
          | inl same ↦ (
            stands-true (face_of s h) faces (ap (λ z. stands (face_of s z) faces) same ∙ fits.1),
            λ one. fits.3 (ap (face_of s) (sym same) ∙ one ∙ ap (λ z. face_of s (rev z)) same),
          )
          | inr turned ↦ (
            stands-true (face_of s h) faces (ap (λ z. stands (face_of s z) faces) turned ∙ fits.2),
            λ one. fits.3 (ap (face_of s) (sym (ap rev turned ∙ rev-rev (2 * (h / 2)))) ∙ sym one ∙ ap (face_of s) turned),
          )
        ]

    region : IsRegion s edges faces
    region = record {
      edges_once = t.edges_once;
      faces_once = t.faces_once;
      fewer = t.fewer;
      inner = t.faces_fit;
      live = live;
      between = between;
    }

    -- the walk stays on the faces
    abbrev OnFaces : ℕ → Type 0
    OnFaces x = IsLive s x × (0 < count_of (face_of s x) faces)

    stays_on : (x y : ℕ) → OnFaces x → LeadsPast S.next edges x y → OnFaces y × (count_of (y / 2) edges ≡ 0)
    stays_on x y there (on to none) = (
      (
        subst (IsLive s) to (sd.live_next x there.0),
        subst (λ f. 0 < count_of f faces) (sym ((face_cycles S sd).along x there.0) ∙ ap (face_of s) to) there.1,
      ),
      none,
    )
    stays_on x y there (past {j = j} to found way) =
        let listed : 0 < count_of (rev j / 2) edges = subst (λ u. 0 < count_of u edges) (sym (rev_half j)) found in
        stays_on (rev j) y (live (rev j / 2) listed, (between (rev j) listed).0) way

    path_on : (x : ℕ) (r : List ℕ) (e : ℕ) → Path (LeadsPast S.next edges) x r e → OnFaces x → (y : ℕ) → 0 < count_of y r
        → OnFaces y × (count_of (y / 2) edges ≡ 0)
    path_on x [] e path there y found = absurd (omega (arith, found))
    path_on x (z ∷ r) e path there y found =
        let next = stays_on x z there path.0 in
        elim (first_or_later y z r found) [
          | inl same ↦ subst (λ v. OnFaces v × (count_of (v / 2) edges ≡ 0)) (sym same) next
          | inr later ↦ path_on z r e path.1 next.0 y later
        ]

    path_end : (x : ℕ) (r : List ℕ) (e : ℕ) → Path (LeadsPast S.next edges) x r e → OnFaces x → OnFaces e × (count_of (e / 2) edges ≡ 0)
    path_end x [] e path there = stays_on x e there path
    path_end x (z ∷ r) e path there = path_end z r e path.1 (stays_on x z there path.0).0

    along : (w : List ℕ) → IsCycle (LeadsPast S.next edges) w → BeginsOn s faces w → StartsAlone s w
        → ((f : ℕ) → 0 < count_of f faces → (h : ℕ) → 0 < count_of h (word_of s.words f) → (0 < count_of (h / 2) edges) ⊎ (0 < count_of h w))
        → ListsOnce (IsRim s edges faces) w
    along [] cycle begins alone covers = absurd begins
    along (p ∷ rest) cycle begins alone covers =
        let there : OnFaces p = (begins.0, stands-true (face_of s p) faces begins.1) in
        let off : count_of p rest ≡ 0 = count-none p rest (λ y found same. alone y found (ap (origin_of s) (sym same))) in
        let once = no_return (LeadsPast S.next edges) (leads-one_way S.next edges) p rest p cycle off in
        record {
          each = λ h rim.
              let word : 0 < count_of h (word_of s.words (face_of s h)) = stands_in_face S s.words (links_stand sound) h rim.live in
              elim (covers (face_of s h) rim.on_face h word) [
                | inl listed ↦ absurd (let none = rim.unlisted in omega (arith, listed, none))
                | inr found ↦ omega (arith, found, once h)
              ];
          no_other = λ h found. elim (first_or_later h p rest found) [
            | inl same ↦
                let end = path_end p rest p cycle there in
                subst (IsRim s edges faces) (sym same) (record { live = there.0; on_face = there.1; unlisted = end.1 })
            | inr later ↦
                let on = path_on p rest p cycle there h later in
                record { live = on.0.0; on_face = on.0.1; unlisted = on.1 }
          ];
        }

    pub test-ring : IsRegionRing s border edges faces
    test-ring =
        let cycle : IsCycle (LeadsPast S.next edges) (reverse border) =
        IsCycle-weaker (StepsTo S.next edges) (LeadsPast S.next edges) (reverse border) (λ x y x_in y_in to. steps-leads S sd edges live x y to) t.round in
        record {
          region = region;
          many = t.many;
          ring = cycle;
          whole = along (reverse border) cycle t.begins t.alone t.covers;
          alone = t.alone;
        }

  module _ (r : IsRegionRing s border edges faces) where
    begins : (w : List ℕ) → 3 ≤ length w → ListsOnce (IsRim s edges faces) w → BeginsOn s faces w
    begins [] many whole = absurd (omega (arith, many))
    begins (p ∷ rest) many whole =
        let rim = whole.no_other p (omega (arith, count-same p rest)) in (rim.live, true-stands (face_of s p) faces rim.on_face)

    pub ring-test : PassesTest s border edges faces
    ring-test = record {
      many = r.many;
      fewer = r.region.fewer;
      edges_once = r.region.edges_once;
      faces_once = r.region.faces_once;
      faces_fit = r.region.inner;
      edges_fit = λ u found.
          let even : 2 * u / 2 ≡ u = omega arith in
          let one = r.region.between (2 * u) (subst (λ v. 0 < count_of v edges) (sym even) found) in
          let other = r.region.between (rev (2 * u)) (subst (λ v. 0 < count_of v edges) (sym (rev_half (2 * u) ∙ even)) found) in
          (r.region.live u found, true-stands (face_of s (2 * u)) faces one.0, true-stands (face_of s (rev (2 * u))) faces other.0, one.1);
      begins = begins (reverse border) (omega (arith, r.many, length-reverse border)) r.whole;
      round = IsCycle-weaker (LeadsPast S.next edges) (StepsTo S.next edges) (reverse border)
          (λ x y x_in y_in way. leads-steps S sd edges r.region.live x y way) r.ring;
      alone = r.alone;
      covers = λ f f_in h found.
          let at = in_word f h found in
          elim (stands_or_not (h / 2) edges) [
            | inl listed ↦ inl listed
            | inr none ↦
                let one = r.whole.each h (record { live = at.0; on_face = subst (λ g. 0 < count_of g faces) (sym at.1) f_in; unlisted = none }) in
                inr (omega (arith, one))
          ];
    }

  pub test_iff-ring : PassesTest s border edges faces ↔ IsRegionRing s border edges faces
  test_iff-ring = (test-ring, ring-test)
