-- What the numbers of faces tell, once each is one less than while faces are numbered.
use Rattle.std.specs.Prelude.{slice_index}
use Rattle.std.proofs.Common.{◌≡◌, ℕ, zero, suc, ◌+◌, ◌-◌, ◌/◌, ◌≤◌, true, false, List, [], ◌∷◌, length, map, refl, sym, ap, ◌∙◌, subst, arith}
use Rattle.std.proofs.lemmas.List.{length-map}
use Rattle.dcel_fixed.specs.HalfEdges.{rev}
use Rattle.dcel_fixed.proofs.Halves.{rev-half, rev-rev}
use Rattle.dcel_maps.specs.Shapes.{IsLive, IsMesh, Mesh, face_count, face_is_live, face_of}
use Rattle.dcel_regions.specs.declared.mark.Mark.{Mark}
use Rattle.dcel_regions.specs.Marked.{IsMarked}
use Rattle.dcel_regions.specs.Numbering.{IsNumbered}
use Rattle.dcel_regions.specs.Regions.{IsReached}
use Rattle.dcel_regions.specs.Regions.IsReached.{outside, over_free, over_marked}
use Rattle.dcel_regions.proofs.Reached.{lies_live, live_reached, reached_live, rev_live}

lowered : (numbers : List ℕ) (f : ℕ) → slice_index (map (λ (n : ℕ). n - 1) numbers) f ≡ slice_index numbers f - 1
lowered [] f = refl
lowered (n ∷ numbers) zero = refl
lowered (n ∷ numbers) (suc f) = lowered numbers f

module _ {V DE F : Type 0} (m : Mesh V DE Mark F) (mesh : IsMesh m) (before numbers : List ℕ) (is : numbers ≡ map (λ (n : ℕ). n - 1) before) (numbered : IsNumbered m before) where
  pub count : length numbers ≡ face_count m.shape
  count = ap (λ (l : List ℕ). length l) is ∙ length-map before (λ (n : ℕ). n - 1) ∙ numbered.many

  one_less : (f : ℕ) → slice_index numbers f ≡ slice_index before f - 1
  one_less f = ap (λ (l : List ℕ). slice_index l f) is ∙ lowered before f

  pub least : (f k : ℕ) → IsReached m f k → slice_index numbers f ≤ k
  least f k way = omega (arith, one_less f, (numbered.least f k way).1)

  pub reached : (f : ℕ) → face_is_live m.shape f ≡ true → IsReached m f (slice_index numbers f)
  reached f live =
      let some = live_reached m mesh f live in
      let more = numbered.least f some.0 some.1 in
      let at : slice_index before f ≡ suc (slice_index numbers f) = omega (arith, one_less f, more.0) in
      numbered.reached f (slice_index numbers f) at

  pub given_up : (f : ℕ) → face_is_live m.shape f ≡ false → slice_index numbers f ≡ 0
  given_up f dead = none (slice_index before f) refl
    where
      none : (n : ℕ) → slice_index before f ≡ n → slice_index numbers f ≡ 0
      none zero at = omega (arith, one_less f, at)
      none (suc k) at = let live = reached_live m mesh f k (numbered.reached f k at) in absurd (cc)

  pub outer : slice_index numbers 0 ≡ 0
  outer = omega (arith, least 0 0 outside)

  -- from a face to the one on the other side
  stays : (h : ℕ) → IsLive m.shape h → ¬ IsMarked m (h / 2) → slice_index numbers (face_of m.shape (rev h)) ≤ slice_index numbers (face_of m.shape h)
  stays h live free =
      least (face_of m.shape (rev h)) (slice_index numbers (face_of m.shape h))
      (over_free h live free (reached (face_of m.shape h) (lies_live m.shape mesh.sound h live)))

  pub free_same : (h : ℕ) → IsLive m.shape h → ¬ IsMarked m (h / 2) → slice_index numbers (face_of m.shape (rev h)) ≡ slice_index numbers (face_of m.shape h)
  free_same h live free =
      let back : slice_index numbers (face_of m.shape (rev (rev h))) ≤ slice_index numbers (face_of m.shape (rev h)) =
      stays (rev h) (rev_live m.shape h live) (subst (λ (u : ℕ). ¬ IsMarked m u) (sym (rev-half h)) free) in
      let forth = stays h live free in
      omega (arith, forth, subst (λ (k : ℕ). slice_index numbers (face_of m.shape k) ≤ slice_index numbers (face_of m.shape (rev h))) (rev-rev h) back)

  pub marked_next : (h : ℕ) → IsLive m.shape h → IsMarked m (h / 2) → slice_index numbers (face_of m.shape (rev h)) ≤ slice_index numbers (face_of m.shape h) + 1
  marked_next h live marked =
      let at = least (face_of m.shape (rev h)) (suc (slice_index numbers (face_of m.shape h)))
      (over_marked h live marked (reached (face_of m.shape h) (lies_live m.shape mesh.sound h live))) in
      omega (arith, at)
