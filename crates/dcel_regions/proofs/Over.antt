-- The faces on the other sides of half edges, by the marks of their edges.
use Rattle.std.proofs.Common.{◌≡◌, inl, inr, ℕ, suc, ◌+◌, ◌/◌, ◌<◌, ◌≤◌, Bool, true, false, cond, List, [], ◌∷◌, length, Option, Some, None, slice_get, refl, sym, ap, ◌∙◌, subst, arith}
use Rattle.std.proofs.lemmas.Bool.{cases_Bool}
use Rattle.dcel_fixed.specs.HalfEdges.{rev}
use Rattle.dcel_maps.specs.Shapes.{Mesh, face_of}
use Rattle.dcel_maps.specs.Walking.{in_mesh}
use Rattle.dcel_maps.specs.Words.{count_of}
use Rattle.dcel_maps.proofs.words.Counts.{count-later, count-same, first_or_later}
use Rattle.dcel_regions.specs.declared.mark.Mark.{Mark}
use Rattle.dcel_regions.specs.declared.mark.Mark.TheVariants.{Constraint, Free}
use Rattle.dcel_regions.specs.Numbering.{faces_over, is_this_mark}

mark_from : (mark : Mark) (o : Option Mark) → is_this_mark mark o ≡ true → o ≡ Some mark
mark_from mark None is = absurd (cc)
mark_from Free (Some Free) is = refl
mark_from Free (Some Constraint) is = absurd (cc)
mark_from Constraint (Some Free) is = absurd (cc)
mark_from Constraint (Some Constraint) is = refl

mark_to : (mark : Mark) → is_this_mark mark (Some mark) ≡ true
mark_to Free = refl
mark_to Constraint = refl

-- a face goes onto one of two lists
on_one : (o : Option Mark) (x : ℕ) (a b : List ℕ) → length (cond (is_this_mark Free o) (x ∷ a) a) + length (cond (is_this_mark Constraint o) (x ∷ b) b) ≤ suc (length a + length b)
on_one None x a b = omega arith
on_one (Some Free) x a b = omega arith
on_one (Some Constraint) x a b = omega arith

-- what stands in a list that may have one more
in_rest : (b : Bool) (g x : ℕ) (r : List ℕ) → 0 < count_of g r → 0 < count_of g (cond b (x ∷ r) r)
in_rest true g x r listed = count-later g x r listed
in_rest false g x r listed = listed

module _ {V DE F : Type 0} (m : Mesh V DE Mark F) where
  -- g lies on the other side of a half edge of the list, whose edge has the mark
  pub record IsOver (mark : Mark) (edges : List ℕ) (g : ℕ) : Type 0 where
    pub half : ℕ
    pub listed : 0 < count_of half edges
    pub with_mark : slice_get m.undirected_data (half / 2) ≡ Some mark
    pub face : face_of m.shape (rev half) ≡ g

  over_later : (mark : Mark) (x : ℕ) (rest : List ℕ) (g : ℕ) → IsOver mark rest g → IsOver mark (x ∷ rest) g
  over_later mark x rest g over = record {
    half = over.half;
    listed = count-later over.half x rest over.listed;
    with_mark = over.with_mark;
    face = over.face;
  }

  pub over_from : (mark : Mark) (edges : List ℕ) (g : ℕ) → 0 < count_of g (faces_over mark (in_mesh m edges)) → IsOver mark edges g
  over_from mark [] g listed = absurd (omega (arith, listed))
  over_from mark (x ∷ rest) g listed =
      let put : Bool → List ℕ = λ (b : Bool). cond b (face_of m.shape (rev x) ∷ faces_over mark (in_mesh m rest)) (faces_over mark (in_mesh m rest)) in
      elim (cases_Bool (is_this_mark mark (slice_get m.undirected_data (x / 2)))) [
        | inl is ↦ elim (first_or_later g (face_of m.shape (rev x)) (faces_over mark (in_mesh m rest)) (subst (λ (b : Bool). 0 < count_of g (put b)) is listed)) [
          | inl same ↦ record {
            half = x;
            listed = omega (arith, count-same x rest);
            with_mark = mark_from mark (slice_get m.undirected_data (x / 2)) is;
            face = sym same;
          }
          | inr later ↦ over_later mark x rest g (over_from mark rest g later)
        ]
        | inr not ↦ over_later mark x rest g (over_from mark rest g (subst (λ (b : Bool). 0 < count_of g (put b)) not listed))
      ]

  pub over_to : (mark : Mark) (edges : List ℕ) (h : ℕ) → 0 < count_of h edges → slice_get m.undirected_data (h / 2) ≡ Some mark
      → 0 < count_of (face_of m.shape (rev h)) (faces_over mark (in_mesh m edges))
  over_to mark [] h listed with_mark = absurd (omega (arith, listed))
  over_to mark (x ∷ rest) h listed with_mark =
      let put : Bool → List ℕ = λ (b : Bool). cond b (face_of m.shape (rev x) ∷ faces_over mark (in_mesh m rest)) (faces_over mark (in_mesh m rest)) in
      elim (first_or_later h x rest listed) [
        | inl same ↦
            let is : is_this_mark mark (slice_get m.undirected_data (x / 2)) ≡ true =
            ap (λ (i : ℕ). is_this_mark mark (slice_get m.undirected_data (i / 2))) (sym same) ∙ ap (is_this_mark mark) with_mark ∙ mark_to mark in
            subst (λ (b : Bool). 0 < count_of (face_of m.shape (rev h)) (put b)) (sym is)
            (subst (λ (i : ℕ). 0 < count_of (face_of m.shape (rev i)) (put true)) (sym same)
            (omega (arith, count-same (face_of m.shape (rev x)) (faces_over mark (in_mesh m rest)))))
        | inr later ↦
            in_rest (is_this_mark mark (slice_get m.undirected_data (x / 2))) (face_of m.shape (rev h)) (face_of m.shape (rev x)) (faces_over mark (in_mesh m rest))
            (over_to mark rest h later with_mark)
      ]

  -- no half edge puts a face on both lists
  pub over_few : (edges : List ℕ) → length (faces_over Free (in_mesh m edges)) + length (faces_over Constraint (in_mesh m edges)) ≤ length edges
  over_few [] = omega arith
  over_few (x ∷ rest) =
      let one = on_one (slice_get m.undirected_data (x / 2)) (face_of m.shape (rev x)) (faces_over Free (in_mesh m rest)) (faces_over Constraint (in_mesh m rest)) in
      let others = over_few rest in
      omega (arith, one, others)
