-- What an insertion returns to its caller.
use Rattle.std.proofs.Common.{◌≡◌, ◌⊎◌, inl, inr, ℕ, ◌≤◌, [], ◌∷◌, ◌++◌, Result, Ok, Err, IfOk, OnErr, length, refl, ap, ◌∙◌, arith}
use Rattle.std.proofs.lemmas.List.{length-append}
use Rattle.dcel_predicates.specs.declared.point.Point.{Point}
use Rattle.dcel_maps.specs.Shapes.{IsMesh, Mesh}
use Rattle.dcel_planar.specs.Growing.{Gains, Inserts}
use Rattle.dcel_planar.specs.Outcomes.{HasInserted}
use Rattle.dcel_planar.specs.declared.errors.InsertionError.{InsertionError}
use Rattle.dcel_planar.specs.declared.planar.PlanarMesh.{PlanarMesh}
use Rattle.dcel_delaunay.proofs.Taking.{takes_has, takes_points}
use Rattle.dcel_regions.specs.declared.mark.Mark.{Mark}

module _ {A : Type 0} (old new : PlanarMesh Mark A) (mid : Mesh Point (Unit {0}) Mark (Unit {0})) (p : Point) (points : mid.vertex_data ≡ old.dcel.vertex_data) where
  pub takes_result : (r : Result ℕ InsertionError) → IsMesh mid → IfOk r (Inserts mid new.dcel p) → IfOk r (HasInserted old new p)
  takes_result (Ok v) mesh inserts = record {
    has = takes_has mid new.dcel new.dcel p v mesh inserts refl;
    points = takes_points old.dcel.vertex_data mid new.dcel new.dcel p v points inserts refl;
  }
  takes_result (Err e) mesh inserts = inserts

-- nothing has changed, or the last vertex is new
abbrev pub GainsAtMost : Mesh Point (Unit {0}) Mark (Unit {0}) → Mesh Point (Unit {0}) Mark (Unit {0}) → Point → Type 0
GainsAtMost old new p = (new ≡ old) ⊎ Gains old new p old.shape.vertices

-- where nothing was left undone, and no vertex is new, nothing has changed
module _ (old mid left : Mesh Point (Unit {0}) Mark (Unit {0})) (p : Point) (whole : mid ≡ old) (stays : left.vertex_data ≡ old.vertex_data) where
  none_new : left.vertex_data ≡ mid.vertex_data ++ p ∷ [] → ⊥
  none_new more =
      let a = ap length more in
      let b = ap length stays in
      let c = ap (λ (m : Mesh Point (Unit {0}) Mark (Unit {0})). length m.vertex_data) whole in
      let d = length-append mid.vertex_data (p ∷ []) in
      omega (arith, a, b, c, d)

  pub same_result : (r : Result ℕ InsertionError) → IfOk r (Inserts mid left p) → OnErr r (GainsAtMost mid left p) → left ≡ old
  same_result (Ok v) (inl same) fails = same.1 ∙ whole
  same_result (Ok v) (inr gains) fails = absurd (none_new gains.points)
  same_result (Err e) inserts (inl same) = same ∙ whole
  same_result (Err e) inserts (inr gains) = absurd (none_new gains.points)

-- no edge is taken out, whatever the result is
module _ (old new : Mesh Point (Unit {0}) Mark (Unit {0})) (p : Point) where
  same_edges : new ≡ old → old.shape.edges ≤ new.shape.edges
  same_edges same =
      let edges = ap (λ (m : Mesh Point (Unit {0}) Mark (Unit {0})). m.shape.edges) same in omega (arith, edges)

  grown : (v : ℕ) → Inserts old new p v → old.shape.edges ≤ new.shape.edges
  grown v (inl same) = same_edges same.1
  grown v (inr gains) = gains.edges

  pub grows_result : (r : Result ℕ InsertionError) → IfOk r (Inserts old new p) → OnErr r (GainsAtMost old new p) → old.shape.edges ≤ new.shape.edges
  grows_result (Ok v) inserts fails = grown v inserts
  grows_result (Err e) inserts (inl same) = same_edges same
  grows_result (Err e) inserts (inr gains) = gains.edges
