-- What an insertion tells its caller.
use Rattle.std.proofs.Common.{◌≡◌, ◌⊎◌, ◌∙◌, inl, inr, ℕ, List, [], ◌∷◌, ◌++◌, length, sym, ap, subst, slice_get, arith}
use Rattle.std.proofs.lemmas.List.{length-append}
use Rattle.dcel_maps.specs.Shapes.{IsMesh, Mesh}
use Rattle.dcel_predicates.specs.declared.point.Point.{Point}
use Rattle.dcel_planar.specs.Growing.{Gains, Inserts}
use Rattle.dcel_planar.specs.Places.{HasPoint}
use Rattle.dcel_delaunay.proofs.Items.{get_appended}

module _ {DE UE F : Type 0} where
  gained_has : (old new : Mesh Point DE UE F) (p : Point) (v : ℕ) → IsMesh old → Gains old new p v → HasPoint new p v
  gained_has old new p v mesh gains =
      ap (λ (ps : List Point). slice_get ps v) gains.points ∙ ap (slice_get (old.vertex_data ++ p ∷ [])) (gains.vertex ∙ sym mesh.sized.vertex_data)
      ∙ get_appended old.vertex_data p

  gained_more : (old new : Mesh Point DE UE F) (p : Point) (v : ℕ) → Gains old new p v → new.vertex_data ≡ old.vertex_data → ⊥
  gained_more old new p v gains stay =
      let more : length old.vertex_data ≡ length (old.vertex_data ++ p ∷ []) = ap length (sym stay ∙ gains.points) in
      omega (arith, more, length-append old.vertex_data (p ∷ []))

  inserted_has : (old new : Mesh Point DE UE F) (p : Point) (v : ℕ) → IsMesh old → Inserts old new p v → HasPoint new p v
  inserted_has old new p v mesh (inl (has, same)) = subst (λ (m : Mesh Point DE UE F). HasPoint m p v) (sym same) has
  inserted_has old new p v mesh (inr gains) = gained_has old new p v mesh gains

  inserted_points : (old new : Mesh Point DE UE F) (p : Point) (v : ℕ) → Inserts old new p v
      → (new.vertex_data ≡ old.vertex_data) ⊎ (new.vertex_data ≡ old.vertex_data ++ p ∷ [])
  inserted_points old new p v (inl (has, same)) = inl (ap (λ (m : Mesh Point DE UE F). m.vertex_data) same)
  inserted_points old new p v (inr gains) = inr gains.points

  -- the vertex has the point
  pub takes_has : (old new last : Mesh Point DE UE F) (p : Point) (v : ℕ) → IsMesh old → Inserts old new p v → last ≡ new → HasPoint last p v
  takes_has old new last p v mesh inserts same = subst (λ (m : Mesh Point DE UE F). HasPoint m p v) (sym same) (inserted_has old new p v mesh inserts)

  -- and the others are as they were
  pub takes_points : (before : List Point) (old new last : Mesh Point DE UE F) (p : Point) (v : ℕ) → old.vertex_data ≡ before → Inserts old new p v → last ≡ new
      → (last.vertex_data ≡ before) ⊎ (last.vertex_data ≡ before ++ p ∷ [])
  takes_points before old new last p v stay inserts same =
      subst (λ (m : Mesh Point DE UE F). (m.vertex_data ≡ before) ⊎ (m.vertex_data ≡ before ++ p ∷ [])) (sym same)
      (subst (λ (ps : List Point). (new.vertex_data ≡ ps) ⊎ (new.vertex_data ≡ ps ++ p ∷ [])) stay (inserted_points old new p v inserts))

  -- where no vertex is new, what was whole before is as it was
  pub takes_same : (old mid new last : Mesh Point DE UE F) (p : Point) (v : ℕ) → mid ≡ old → Inserts mid new p v → last ≡ new
      → last.vertex_data ≡ old.vertex_data → last ≡ old
  takes_same old mid new last p v first (inl (has, is)) same stay = same ∙ is ∙ first
  takes_same old mid new last p v first (inr gains) same stay = absurd
      (gained_more mid new p v gains
      (ap (λ (m : Mesh Point DE UE F). m.vertex_data) (sym same) ∙ stay ∙ ap (λ (m : Mesh Point DE UE F). m.vertex_data) (sym first)))
