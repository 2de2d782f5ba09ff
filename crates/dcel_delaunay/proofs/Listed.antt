-- What a planar mesh tells of a point put in, for a triangulation over it.
use Rattle.std.proofs.Common.{◌≡◌, ◌≢◌, ◌∙◌, inl, inr, ℕ, true, false, Option, Some, None, List, [], sym, subst}
use Rattle.std.specs.Option.{option_map}
use Rattle.std.proofs.Common.{append-nil}
use Rattle.dcel_maps.specs.Shapes.{Mesh}
use Rattle.dcel_plane.specs.Plane.{ListsCircled, point_at}
use Rattle.dcel_predicates.specs.declared.point.Point.{Point}
use Rattle.dcel_planar.specs.Growing.{Gains, Inserts, IsTriangulation, Keeps}
use Rattle.dcel_planar.specs.Leaving.{IsPutIn, KeepsDue}
use Rattle.dcel_planar.specs.Places.{IsPlace}
use Rattle.dcel_planar.specs.Legalization.{ListsLoose}
use Rattle.dcel_planar.specs.declared.planar.PlanarMesh.{PlanarMesh}
use Rattle.dcel_planar.specs.declared.position.PositionInTriangulation.{PositionInTriangulation}
use Rattle.dcel_planar.proofs.Growth.{gains-keeps}
use Rattle.dcel_planar.proofs.Recovered.{settled_outlined}

pub never : {B : Type 0} (o : Option B) → option_map (λ _. false) o ≡ Some true → ⊥
never None is = cc
never (Some x) is = cc

module _ {DE UE F : Type 0} (m : Mesh Point DE UE F) (list : List ℕ) where
  -- where no edge has to stay, each that is circled is to be turned
  pub to_loose : ListsCircled (point_at m) m.shape list → ListsLoose (λ _. false) m list
  to_loose lists u is = lists u is.inner is.circled

  pub of_loose : ListsLoose (λ _. false) m list → ListsCircled (point_at m) m.shape list
  of_loose lists u inner circled = lists u record { inner = inner; circled = circled; loose = never _ }

module _ {UE A : Type 0} where
  pub lists_after : (old new : PlanarMesh UE A) → KeepsDue old new → ListsCircled (point_at old.dcel) old.dcel.shape old.due.items
      → ListsCircled (point_at new.dcel) new.dcel.shape new.due.items
  lists_after old new keeps lists =
      subst (λ (l : List ℕ). ListsCircled (point_at new.dcel) new.dcel.shape l) (append-nil new.due.items)
      (keeps [] (subst (λ (l : List ℕ). ListsCircled (point_at old.dcel) old.dcel.shape l) (sym (append-nil old.due.items)) lists))

  pub settled : (m : PlanarMesh UE A) → ListsCircled (point_at m.dcel) m.dcel.shape m.due.items → m.due.items ≡ [] → IsTriangulation m.dcel
  settled m lists none = record {
    sound = record { triangulated = m.triangulated; listed = subst (λ (l : List ℕ). ListsCircled (point_at m.dcel) m.dcel.shape l) none lists };
    hull = settled_outlined m.dcel m.due.items m.outlined none;
  }

  pub put_inserts : (old new : PlanarMesh UE A) (position : PositionInTriangulation) (p : Point) (v : ℕ) → IsPlace old.dcel p position → IsPutIn old new position p v
      → Inserts old.dcel new.dcel p v
  put_inserts old new position p v place (inl same) = inl (subst (λ (q : PositionInTriangulation). IsPlace old.dcel p q) same.0 place, same.1.mesh)
  put_inserts old new position p v place (inr gains) = inr gains

  -- where edges are left to be looked at, a vertex is new
  pub settled_inserts : (old mid new : PlanarMesh UE A) (position : PositionInTriangulation) (p : Point) (v : ℕ) → old.due.items ≡ [] → IsPutIn old mid position p v
      → mid.due.items ≢ [] → Keeps mid.dcel new.dcel → Gains old.dcel new.dcel p v
  settled_inserts old mid new position p v none (inl same) some keeps = absurd (some (same.1.due ∙ none))
  settled_inserts old mid new position p v none (inr gains) some keeps = gains-keeps old.dcel mid.dcel new.dcel p v gains keeps

  pub new_vertex : (old mid : PlanarMesh UE A) (position : PositionInTriangulation) (p : Point) (v : ℕ) → old.due.items ≡ [] → IsPutIn old mid position p v
      → mid.due.items ≢ [] → v ≡ old.dcel.shape.vertices
  new_vertex old mid position p v none (inl same) some = absurd (some (same.1.due ∙ none))
  new_vertex old mid position p v none (inr gains) some = gains.vertex
