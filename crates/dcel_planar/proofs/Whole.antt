-- A line or a hull: what an insertion finds, and what it leaves.
use Rattle.std.proofs.Common.{◌≡◌, ◌≢◌, ◌⊎◌, inl, inr, ℕ, ◌*◌, List, [], length, Result, Ok, Err, IfErr, OnErr, OnOk, sym, ap, ◌∙◌, subst, arith}
use Rattle.std.proofs.lemmas.List.{get_or_past}
use Rattle.dcel_maps.specs.Removals.{Closed, gives_up_face}
use Rattle.dcel_maps.specs.Shapes.{Mesh, face_count, face_of}
use Rattle.dcel_maps.proofs.Liveness.{is_live-parts}
use Rattle.dcel_predicates.specs.declared.point.Point.{Point}
use Rattle.dcel_plane.specs.Plane.{ListsCircled, point_at}
use Rattle.dcel_planar.specs.Growing.{HasHull, HasOutside, IsFlat, IsJoined, IsOpen, IsDelaunayBut, IsTriangleMesh, IsTriangulation, IsInProgress}
use Rattle.dcel_planar.proofs.Counting.{alone_triangles}

-- what holds anyhow holds of a refusal
pub on_err : {A E : Type 0} (r : Result A E) (Q : Type 0) → Q → OnErr r Q
on_err (Ok x) Q known = tt
on_err (Err e) Q known = known

module _ {DE UE F : Type 0} where
  pub flat_alone : (m : Mesh Point DE UE F) → IsFlat m ⊎ HasHull m → face_count m.shape ≡ 1 → IsFlat m
  flat_alone m (inl flat) one = flat
  flat_alone m (inr has) one = absurd (omega (arith, has.inner, one))

  pub hull_more : (m : Mesh Point DE UE F) → IsFlat m ⊎ HasHull m → face_count m.shape ≢ 1 → HasHull m
  hull_more m (inl flat) more = absurd (more flat.alone)
  hull_more m (inr has) more = has

  -- no hull is open
  pub way_either : (m : Mesh Point DE UE F) (due : List ℕ) → IsDelaunayBut m due → IsFlat m ⊎ HasHull m → IsInProgress m due
  way_either m due sound (inl flat) = record { sound = sound; hull = inl flat }
  way_either m due sound (inr has) = record { sound = sound; hull = inr (inl has) }

  -- a line has no triangle
  pub flat_triangulated : (m : Mesh Point DE UE F) → m.shape.removal ≡ Closed → IsFlat m → IsJoined m.shape → IsTriangleMesh m
  flat_triangulated m closed flat joined = record {
    closed = closed;
    joined = joined;
    triangles = alone_triangles m.shape flat.alone;
    plane = record {
      left = λ f x y z inner is.
          absurd (let none = ap length (sym (get_or_past m.shape.words f [] (omega (arith, flat.alone, inner))) ∙ is) in omega (arith, none));
    };
  }

  -- so none is to be looked at
  pub flat_listed : (m : Mesh Point DE UE F) (list : List ℕ) → IsFlat m → ListsCircled (point_at m) m.shape list
  flat_listed m list flat u inner circled =
      let below = (is_live-parts (gives_up_face m.shape.removal) (face_count m.shape) (face_of m.shape (2 * u)) inner.triangle.live).0 in
      absurd (omega (arith, below, flat.alone, inner.inner))

  pub way_flat : (m : Mesh Point DE UE F) (due : List ℕ) → m.shape.removal ≡ Closed → IsFlat m → IsJoined m.shape → IsInProgress m due
  way_flat m due closed flat joined = record {
    sound = record { triangulated = flat_triangulated m closed flat joined; listed = flat_listed m due flat };
    hull = inl flat;
  }

  -- whether it was put in or refused
  pub put_either : {X E : Type 0} (r : Result X E) (Q : E → Type 0) (old new : Mesh Point DE UE F) (P : Mesh Point DE UE F → Type 0) → OnOk r (P new)
      → IfErr r (λ e. Q e × (new ≡ old)) → P old → P new
  put_either (Ok v) Q old new P holds refused held = holds
  put_either (Err e) Q old new P holds refused held = subst P (sym refused.1) held

  -- a line or a hull is not to be closed
  pub either_outside : (m : Mesh Point DE UE F) (due : List ℕ) → IsFlat m ⊎ HasHull m → HasOutside m due
  either_outside m due (inl flat) = inl flat
  either_outside m due (inr has) = inr (inl has)

  -- where the hull was open there is a triangle
  pub opened_has : (m : Mesh Point DE UE F) (t : ℕ) → IsOpen m t → IsFlat m ⊎ HasHull m → HasHull m
  opened_has m t opened (inl flat) = absurd (omega (arith, opened.inner, flat.alone))
  opened_has m t opened (inr has) = has

  -- nor is one where nothing is left to be done
  pub whole : (m : Mesh Point DE UE F) (due : List ℕ) → IsInProgress m due → due ≡ [] → IsTriangulation m
  whole m due way none = record {
    sound = subst (λ (list : List ℕ). IsDelaunayBut m list) none way.sound;
    hull = elim way.hull [
      | inl flat ↦ inl flat
      | inr more ↦ elim more [
        | inl has ↦ inr has
        | inr (some, stays) ↦ absurd (some none)
      ]
    ];
  }
