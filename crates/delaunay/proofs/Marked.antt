-- What is written of a constrained triangulation.
use Rattle.std.proofs.Common.{◌≡◌, ◌∙◌, ℕ, List, ◌++◌, Option, None, Some, length, map, slice_get, refl, sym, ap, subst}
use Rattle.std.proofs.lemmas.List.{length-map}
use Rattle.std.specs.Io.KnownBytes.{Appends}
use Rattle.dcel_predicates.specs.declared.point.Point.{Point}
use Rattle.dcel_maps.specs.Shapes.{Mesh}
use Rattle.dcel_regions.specs.declared.mark.Mark.{Mark}
use Rattle.dcel_constrained.specs.declared.load.Segment.{Segment}
use Rattle.dcel_delaunay.specs.Bulk.{AnswersEach, StandAt}
use Rattle.dcel_output.specs.Constraining.{AreConstrainedTriangles, StandsThere}
use Rattle.dcel_output.proofs.Faces.{mapped_at}
use Rattle.delaunay.specs.Answers.{TellsConstrained, TellsInside, WritesBefore}
use Rattle.delaunay.specs.Outlined.{IsInsideOf}
use Rattle.delaunay.specs.Texts.{text_of}
use Rattle.delaunay.specs.declared.arguments.Output.{Output}
use Rattle.delaunay.specs.declared.view.Inside.{Inside}

-- each point stands at the vertex that it has
pub stand_some : {DE UE F : Type 0} (m : Mesh Point DE UE F) (points : List Point) (vertices : List ℕ) (all : List (Option ℕ)) → StandAt m points vertices → all ≡ map Some vertices
    → AnswersEach (StandsThere m) points all
stand_some m points vertices all stand is = record {
  length_is = ap length is ∙ length-map vertices Some ∙ stand.length_is;
  each = λ i p v at there.
      let found = mapped_at Some vertices i v (sym (ap (λ (l : List (Option ℕ)). slice_get l i) is) ∙ there) in
      subst (StandsThere m p) (sym {b = Some found.0} found.2) (stand.each i p found.0 at found.1);
}

abbrev MarkedPoints : Type 0
MarkedPoints = Mesh Point (Unit {0}) Mark (Unit {0})

module _ (old new : Option (List ℕ)) (m : MarkedPoints) (numbers : List ℕ) (inside : Option Inside) (near : List ℕ) (output : Output)
    (text : Appends old new (text_of output m numbers inside ++ near)) (points : List Point) (vertices : List (Option ℕ)) (segments : List Segment)
    (are : AreConstrainedTriangles points vertices segments m numbers) where
  -- an output of it
  pub constrained_written : inside ≡ None → WritesBefore (TellsConstrained points segments output) near old new
  constrained_written none = (
    text_of output m numbers None,
    record { mesh = m; vertices = vertices; numbers = numbers; are = are; lines = refl },
    subst (λ (x : Option Inside). Appends old new (text_of output m numbers x ++ near)) none text,
  )

  -- of what is inside an outline
  pub inside_written : (sides : List Segment) → IsInsideOf m vertices sides inside → WritesBefore (TellsInside points segments sides output) near old new
  inside_written sides (i, is, lists, beside) = (
    text_of output m numbers (Some i),
    record { mesh = m; vertices = vertices; numbers = numbers; are = are; inside = i; triangles = lists; edges = beside; lines = refl },
    subst (λ (x : Option Inside). Appends old new (text_of output m numbers x ++ near)) is text,
  )
