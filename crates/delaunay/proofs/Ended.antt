-- What is asked for of a task stays written where a buffer is written out.
use Rattle.std.proofs.Common.{◌≡◌, ◌∙◌, ℕ, List, [], Option, None, Some, Result, Ok, Err, OnOk, ap, refl, append-nil, map}
use Rattle.std.proofs.KnownBytes.{Appends-kept}
use Rattle.std.specs.Io.KnownBytes.{Keeps, append_known}
use Rattle.dcel_predicates.specs.declared.point.Point.{Point}
use Rattle.dcel_output.specs.Lines.{lines_of, nearest_line}
use Rattle.delaunay.specs.Answers.{AnswersTask, TellsConstrained, TellsDelaunay, TellsInside, Writes, WritesBefore, WritesNearest, WritesTriangles}
use Rattle.delaunay.specs.Segments.{segment_of, segments_of}
use Rattle.delaunay.specs.declared.arguments.Arguments.{Arguments}
use Rattle.delaunay.specs.declared.task.Task.{Task}

-- a result has what follows from five facts of it
pub five_ok : {T E : Type 0} (r : Result T E) {A B C D F G : Type 0} → (A → B → C → D → F → G) → OnOk r A → OnOk r B → OnOk r C → OnOk r D → OnOk r F → OnOk r G
five_ok (Ok x) all a b c d f = all a b c d f
five_ok (Err e) all a b c d f = tt

unbuffered : (known : Option (List ℕ)) → append_known known [] ≡ known
unbuffered None = refl
unbuffered (Some bytes) = ap Some (append-nil bytes)

-- an empty buffer holds what the writer behind it does
pub nothing_ahead : (x y : Option (List ℕ)) (ahead : List ℕ) → x ≡ y → ahead ≡ [] → append_known x ahead ≡ y
nothing_ahead x y ahead same none = ap (append_known x) none ∙ unbuffered x ∙ same

module _ (old mid new : Option (List ℕ)) (keeps : Keeps mid new) where
  triangles_kept : (points : List Point) → WritesTriangles points old mid → WritesTriangles points old new
  triangles_kept points (triangles, are, text) = (triangles, are, Appends-kept old mid new _ text keeps)

  nearest_kept : (points places : List Point) → WritesNearest points places old mid → WritesNearest points places old new
  nearest_kept points places (nearest, are, text) = (nearest, are, Appends-kept old mid new _ text keeps)

  before_kept : (Tells : List ℕ → Type 0) (rest : List ℕ) → WritesBefore Tells rest old mid → WritesBefore Tells rest old new
  before_kept Tells rest (text, tells, is) = (text, tells, Appends-kept old mid new _ is keeps)

  writes_kept : (Tells : List ℕ → Type 0) (a : Arguments) (points places : List Point) → Writes Tells a points places old mid → Writes Tells a points places old new
  writes_kept Tells a points places (nearest, are, written) = (nearest, are, before_kept Tells (lines_of nearest_line nearest) written)

  pub task_kept : (a : Arguments) (t : Task) → AnswersTask a t old mid → AnswersTask a t old new
  task_kept a t is =
      let points = t.points.items in
      let places = t.places.items in
      let segments = segments_of t.constraints.items t.outline.items in
      let sides = map segment_of t.outline.items in
      record {
        triangles = λ asks. triangles_kept points (is.triangles asks);
        nearest = λ asks. nearest_kept points places (is.nearest asks);
        plain = λ output asks. writes_kept (TellsDelaunay points output) a points places (is.plain output asks);
        constrained = λ output asks. writes_kept (TellsConstrained points segments output) a points places (is.constrained output asks);
        inside = λ output asks. writes_kept (TellsInside points segments sides output) a points places (is.inside output asks);
      }
