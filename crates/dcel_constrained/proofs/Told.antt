-- What a planar mesh tells of a point put in, in the words of the lemmas.
use Rattle.std.proofs.Common.{◌⊎◌, inl, inr, ℕ, Result, Ok, Err, IfOk, subst}
use Rattle.dcel_predicates.specs.declared.point.Point.{Point}
use Rattle.dcel_planar.specs.Growing.{Gains}
use Rattle.dcel_planar.specs.Leaving.{IsPutIn, IsSame}
use Rattle.dcel_planar.specs.Places.{HasPoint, IsPlace}
use Rattle.dcel_planar.specs.declared.errors.InsertionError.{InsertionError}
use Rattle.dcel_planar.specs.declared.planar.PlanarMesh.{PlanarMesh}
use Rattle.dcel_planar.specs.declared.position.PositionInTriangulation.{PositionInTriangulation}
use Rattle.dcel_planar.specs.declared.position.PositionInTriangulation.TheVariants.{OnEdge}

module _ {UE A : Type 0} (old new : PlanarMesh UE A) (position : PositionInTriangulation) (p : Point) where
  put_one : IsPlace old.dcel p position → (v : ℕ) → IsPutIn old new position p v → (HasPoint old.dcel p v × IsSame old new) ⊎ Gains old.dcel new.dcel p v
  put_one place v (inl same) = inl (subst (λ (q : PositionInTriangulation). IsPlace old.dcel p q) same.0 place, same.1)
  put_one place v (inr gains) = inr gains

  pub put_told : IsPlace old.dcel p position → (r : Result ℕ InsertionError) → IfOk r (IsPutIn old new position p)
      → IfOk r (λ v. (HasPoint old.dcel p v × IsSame old new) ⊎ Gains old.dcel new.dcel p v)
  put_told place (Ok v) put = put_one place v put
  put_told place (Err e) put = put

-- on an edge a vertex is new
pub gains_in : {UE A : Type 0} (old new : PlanarMesh UE A) (h : ℕ) (p : Point) (v : ℕ) → IsPutIn old new (OnEdge h) p v → Gains old.dcel new.dcel p v
gains_in old new h p v (inl same) = absurd (let not = same.0 in cc)
gains_in old new h p v (inr gains) = gains
