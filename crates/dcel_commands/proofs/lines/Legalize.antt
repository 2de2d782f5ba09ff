-- What is so of `legalize N U..`.
use Rattle.std.proofs.Common.{◌≡◌, ℕ, List, [], ◌∷◌, length, inl, refl, sym, subst}
use Rattle.dcel_commands.proofs.Columns.{is_column}
use Rattle.dcel_commands.proofs.Lawful.{Lawful, all_triangles, record_of}
use Rattle.dcel_commands.specs.Instructions.{Legalize}
use Rattle.dcel_commands.specs.Responses.{Flips, Response}
use Rattle.dcel_commands.specs.request.Legalize.{TellsFlips, flips_in}
use Rattle.dcel_legalize.proofs.Runs.{run_listed}
use Rattle.dcel_legalize.specs.ByNumber.{has_lesser_corner}
use Rattle.dcel_legalize.specs.Flipping.{edges_flipped}
use Rattle.dcel_legalize.specs.Outcome.{ending_told}
use Rattle.dcel_maps.proofs.Triangulations as triangulations
use Rattle.dcel_maps.proofs.lists.Made.{so}
use Rattle.dcel_maps.specs.EditLists.{EditedBy, flip_edits}
use Rattle.dcel_maps.specs.Shapes.{IsMesh, Mesh, map_of}
use Rattle.dcel_maps.specs.Triangulations.{AllTriangles}
use Rattle.dcel_maps.specs.edits.Flip.{edge_flipped}

module _ {V DE UE F : Type 0} where
  -- what it leaves is the mesh after some flips
  flips_made : (m : Mesh V DE UE F) (us : List ℕ) (n : ℕ) (reply : Response V) (new : Mesh V DE UE F)
      → TellsFlips m us n reply new → (turned : List ℕ) × (new ≡ edges_flipped m turned)
  flips_made m us n (Flips legalized) new made = (made.turned, made.edit)
  flips_made m us n _ new none = absurd none

  flips_edit : (m : Mesh V DE UE F) → IsMesh m → (us : List ℕ) (n : ℕ) (reply : Response V) (new : Mesh V DE UE F) → TellsFlips m us n reply new
      → EditedBy (flips_in reply) m new
  flips_edit m mesh us n (Flips legalized) new made =
      subst (λ k. EditedBy (flip_edits k) m new) (sym made.number)
      (so (flip_edits (length made.turned)) (map_of m.shape) new _ made.edit
      (run_listed has_lesser_corner m us n made.turned (ending_told legalized) mesh made.rule))
  flips_edit m mesh us n _ new none = absurd none

  flips_three : (m : Mesh V DE UE F) (us : List ℕ) → AllTriangles m.shape → AllTriangles (edges_flipped m us).shape
  flips_three m [] all = all
  flips_three m (u ∷ us) all = flips_three (edge_flipped m u) us (triangulations.flipped m all u)

  flipped-record : (m : Mesh V DE UE F) (us : List ℕ) → (edges_flipped m us).shape.removal ≡ m.shape.removal
  flipped-record m [] = refl
  flipped-record m (u ∷ us) = flipped-record (edge_flipped m u) us

pub legalize : {V : Type 0} (n : ℕ) (us : List ℕ) → Lawful {V = V} (Legalize n us)
unfolding is_column
legalize n us = record {
  column = λ limit. refl;
  edits = λ m new mesh c small. flips_edit m mesh us n _ new c.step;
  triangles = λ m new mesh c all.
      let (turned, is) = flips_made m us n _ new c.step in
      inl (all_triangles new _ is (flips_three m turned all));
  removal = λ m new c. let (turned, is) = flips_made m us n _ new c.step in record_of new _ _ is (flipped-record m turned);
}
