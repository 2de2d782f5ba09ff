-- Steps of the loops, with what they leave by other names.
use Rattle.std.specs.Prelude.{OnOk, Result, Ok, Err}
use Rattle.std.proofs.Common.{◌≡◌, ℕ, suc, ◌+◌, ◌^◌, ◌<◌, List, [], ◌∷◌, ◌++◌, length, get_or, set, sym, ap, ◌∙◌, subst, add-one}
use Rattle.dcel_maps.specs.Shapes.{IsMesh, Mesh, face_anchor, face_count}
use Rattle.dcel_maps.specs.Walking.{in_mesh}
use Rattle.dcel_maps.specs.Words.{word_of}
use Rattle.dcel_maps.proofs.walks.Faces.{anchor-lists, anchor-turn}
use Rattle.dcel_maps.proofs.words.Turns.{length-turn}
use Rattle.dcel_regions.specs.declared.mark.Mark.{Mark}
use Rattle.dcel_regions.specs.declared.mark.Mark.TheVariants.{Constraint, Free}
use Rattle.dcel_regions.specs.Numbering.{IsNumbered, IsUnderWay, faces_over, work}
use Rattle.dcel_regions.proofs.Levels.{due_reached, ends, enters, enters_less, rises}
use Rattle.dcel_regions.proofs.Reached.{reached_within}
use Rattle.spade_dcel.specs.Faces.{face_edges_of}

-- what two facts tell where there was memory
pub on_both : {T E P Q R : Type 0} (r : Result T E) → OnOk r P → OnOk r Q → (P → Q → R) → OnOk r R
on_both (Ok x) p q then = then p q
on_both (Err e) p q then = tt

module _ {V DE F : Type 0} (m : Mesh V DE Mark F) (mesh : IsMesh m) (level : ℕ) where
  -- a face is numbered, and the faces beside it are listed
  module _ (numbers due beyond : List ℕ) (f : ℕ) (way : IsUnderWay m level numbers (due ++ f ∷ []) beyond) (none : get_or numbers f 0 ≡ 0)
      (k : Mesh V DE Mark F) (n i : ℕ) (known : k ≡ m) (number : n ≡ f) (at : i ≡ f) where
    within : f < face_count m.shape
    within = reached_within m mesh f level (due_reached m level numbers due beyond f way)

    abbrev over : Mark → List ℕ
    over mark = faces_over mark (in_mesh m (face_edges_of m f))

    long : length (face_edges_of m f) ≡ length (word_of m.shape.words f)
    long = length-turn (anchor-turn mesh.sound f (face_anchor m f) (mesh.anchored.faces f within))

    same_over : (mark : Mark) → faces_over mark (in_mesh k (face_edges_of k n)) ≡ over mark
    same_over mark =
        ap (λ (x : Mesh V DE Mark F). faces_over mark (in_mesh x (face_edges_of x n))) known
        ∙ ap (λ (j : ℕ). faces_over mark (in_mesh m (face_edges_of m j))) number

    same_numbers : set numbers i (level + 1) ≡ set numbers f (suc level)
    same_numbers = ap (λ (j : ℕ). set numbers j (level + 1)) at ∙ ap (λ (j : ℕ). set numbers f j) (add-one level)

    module _ (due_after beyond_after : List ℕ) (near : due_after ≡ due ++ faces_over Free (in_mesh k (face_edges_of k n)))
        (far : beyond_after ≡ beyond ++ faces_over Constraint (in_mesh k (face_edges_of k n))) where
      near_is : due_after ≡ due ++ over Free
      near_is = near ∙ ap (λ (l : List ℕ). due ++ l) (same_over Free)

      far_is : beyond_after ≡ beyond ++ over Constraint
      far_is = far ∙ ap (λ (l : List ℕ). beyond ++ l) (same_over Constraint)

      pub entered : IsUnderWay m level (set numbers i (level + 1)) due_after beyond_after
      entered =
          subst (λ (l : List ℕ). IsUnderWay m level l due_after beyond_after) (sym same_numbers)
          (subst (λ (l : List ℕ). IsUnderWay m level (set numbers f (suc level)) l beyond_after) (sym near_is)
          (subst (λ (l : List ℕ). IsUnderWay m level (set numbers f (suc level)) (due ++ over Free) l) (sym far_is)
          (enters m level numbers due beyond f way mesh none (face_edges_of m f) (anchor-lists mesh f within) long)))

      pub entered_less : work m.shape.words (set numbers i (level + 1)) due_after beyond_after < work m.shape.words numbers (due ++ f ∷ []) beyond
      entered_less =
          subst (λ (l : List ℕ). work m.shape.words l due_after beyond_after < work m.shape.words numbers (due ++ f ∷ []) beyond) (sym same_numbers)
          (subst (λ (l : List ℕ). work m.shape.words (set numbers f (suc level)) l beyond_after < work m.shape.words numbers (due ++ f ∷ []) beyond) (sym near_is)
          (subst (λ (l : List ℕ). work m.shape.words (set numbers f (suc level)) (due ++ over Free) l < work m.shape.words numbers (due ++ f ∷ []) beyond) (sym far_is)
          (enters_less m level numbers due beyond f way mesh none (face_edges_of m f) (anchor-lists mesh f within) long)))

  -- the lists are exchanged
  pub risen : (numbers due beyond due_after beyond_after : List ℕ) → IsUnderWay m level numbers due beyond → due ≡ [] → due_after ≡ beyond → beyond_after ≡ due
      → suc level + work m.shape.words numbers due beyond < 2 ^ 34 → IsUnderWay m (level + 1) numbers due_after beyond_after
  risen numbers due beyond due_after beyond_after way empty x y few =
      subst (λ (n : ℕ). IsUnderWay m n numbers due_after beyond_after) (sym (add-one level))
      (subst (λ (l : List ℕ). IsUnderWay m (suc level) numbers l beyond_after) (sym x)
      (subst (λ (l : List ℕ). IsUnderWay m (suc level) numbers beyond l) (sym (y ∙ empty))
      (rises m level numbers beyond (subst (λ (l : List ℕ). IsUnderWay m level numbers l beyond) empty way)
      (subst (λ (l : List ℕ). suc level + work m.shape.words numbers l beyond < 2 ^ 34) empty few))))

  pub ended : (numbers due beyond : List ℕ) → IsUnderWay m level numbers due beyond → due ≡ [] → beyond ≡ [] → IsNumbered m numbers
  ended numbers due beyond way near far =
      ends m level numbers
      (subst (λ (l : List ℕ). IsUnderWay m level numbers [] l) far (subst (λ (l : List ℕ). IsUnderWay m level numbers l beyond) near way))
