-- What is written follows from its parts.
use Rattle.std.proofs.Common.{◌≡◌, ◌≢◌, ◌∙◌, ℕ, List, [], ◌++◌, Option, None, Some, Result, Ok, Err, IfOk, ap, refl, subst, append-nil}
use Rattle.std.specs.Io.KnownBytes.{Appends}
use Rattle.dcel_predicates.specs.declared.point.Point.{Point}
use Rattle.dcel_maps.specs.Shapes.{Mesh}
use Rattle.dcel_delaunay.specs.Bulk.{AnswersEach}
use Rattle.dcel_delaunay.specs.Triangles.{AreDelaunayTriangles}
use Rattle.dcel_delaunay.proofs.listing.Known.{Points}
use Rattle.dcel_output.specs.Lines.{lines_of, nearest_line, triangle_line}
use Rattle.dcel_output.specs.Numbering.{IsNearestNumbered, IsNearestPoint, triangles_numbered}
use Rattle.dcel_output.specs.Whole.{IsDelaunayMesh}
use Rattle.delaunay.specs.Answers.{AreNearest, TellsDelaunay, WritesBefore, WritesTriangles}
use Rattle.delaunay.specs.Texts.{IsListed, IsStated, text_asked, text_of}
use Rattle.delaunay.specs.declared.arguments.Arguments.{Arguments}
use Rattle.delaunay.specs.declared.arguments.Output.{Output}
use Rattle.delaunay.specs.declared.view.Inside.{Inside}

-- what is so of any value is so of the one in a result, if there is one
pub any_ok : {T E : Type 0} (r : Result T E) (P : T → Type 0) → ((x : T) → P x) → IfOk r P
any_ok (Ok x) P all = all x
any_ok (Err e) P all = tt

module _ {V DE UE F : Type 0} (old new : Option (List ℕ)) (near : List ℕ) (given : Option Output) where
  -- the text of what is asked for of the mesh that a view shows
  pub seen : (k m : Mesh V DE UE F) (ns numbers : List ℕ) (within inside : Option Inside) → k ≡ m → ns ≡ numbers → within ≡ inside
      → (IsStated given → Appends old new (text_asked given k ns within ++ near)) → IsStated given → Appends old new (text_asked given m numbers inside ++ near)
  seen k m ns numbers within inside same also is text stated =
      subst (λ (x : Option Inside). Appends old new (text_asked given m numbers x ++ near)) is
      (subst (λ (x : List ℕ). Appends old new (text_asked given m x within ++ near)) also
      (subst (λ (x : Mesh V DE UE F). Appends old new (text_asked given x ns within ++ near)) same (text stated)))

  module _ (m : Mesh V DE UE F) (numbers : List ℕ) (inside : Option Inside) (text : IsStated given → Appends old new (text_asked given m numbers inside ++ near)) where
    -- of an output
    pub asked : (output : Output) → given ≡ Some output → IsListed output → Appends old new (text_of output m numbers inside ++ near)
    asked output is listed = subst (λ (o : Option Output). IsStated o → Appends old new (text_asked o m numbers inside ++ near)) is text listed

    -- of nothing
    pub unasked : given ≡ None → Appends old new near
    unasked is = subst (λ (o : Option Output). IsStated o → Appends old new (text_asked o m numbers inside ++ near)) is text tt

module _ (points places : List Point) (m : Points) (numbers : List ℕ) (near : List (Option ℕ))
    (law : (place : Point) (n : Option ℕ) → IsNearestNumbered m numbers place n → IsNearestPoint points place n) where
  -- the numbers of nearest vertices are those of nearest points
  pub near_points : AnswersEach (IsNearestNumbered m numbers) places near → AnswersEach (IsNearestPoint points) places near
  near_points found = record { length_is = found.length_is; each = λ i p a at_p at_a. law p a (found.each i p a at_p at_a) }

  -- if they are asked for
  pub below : (a : Arguments) → (a.nearest ≡ None → near ≡ []) → (a.nearest ≢ None → AnswersEach (IsNearestNumbered m numbers) places near) → AreNearest a points places near
  below a none found = record { unasked = none; each = λ some. near_points (found some) }

module _ (old new : Option (List ℕ)) (points : List Point) (m : Points) (numbers : List ℕ) (near : List (Option ℕ)) where
  -- the triangles, and no nearest point
  pub triangles_written : near ≡ [] → AreDelaunayTriangles points (triangles_numbered m numbers)
      → Appends old new (lines_of triangle_line (triangles_numbered m numbers) ++ lines_of nearest_line near) → WritesTriangles points old new
  triangles_written none delaunay text = (
    triangles_numbered m numbers,
    delaunay,
    subst (Appends old new) (ap (λ (l : List (Option ℕ)). lines_of triangle_line (triangles_numbered m numbers) ++ lines_of nearest_line l) none ∙ append-nil _) text,
  )

  -- an output of a Delaunay triangulation
  pub delaunay_written : (output : Output) → IsDelaunayMesh points m numbers → Appends old new (text_of output m numbers None ++ lines_of nearest_line near)
      → WritesBefore (TellsDelaunay points output) (lines_of nearest_line near) old new
  delaunay_written output are text = (text_of output m numbers None, record { mesh = m; numbers = numbers; are = are; lines = refl }, text)
