-- Lists that name what a record has given up.
use Rattle.std.proofs.Common.{◌≡◌, ℕ, List, length, sym, ap, ◌∙◌}
use Rattle.dcel_edits.proofs.stored.Holding.{Holds}
use Rattle.dcel_maps.proofs.words.Ascending.{length-ascending}
use Rattle.dcel_maps.specs.Removals.{Removal, Closed, Isolated, Cleaned, IsListed, ascending}
use Rattle.dcel_maps.specs.Shapes.{Mesh}
use Rattle.dcel_record.specs.Lists.{edges_of, faces_of}
use Rattle.dcel_store.specs.Lists.{Lists}

-- they are what the record lists, brought into order
listed-lists : (r : Removal) (edges faces : List ℕ) → IsListed r edges faces → (edges_of r ≡ ascending edges) × (faces_of r ≡ ascending faces)
listed-lists Closed edges faces listed = absurd listed
listed-lists (Isolated given_edges given_faces vertex) edges faces listed = (sym listed.0, sym listed.1)
listed-lists (Cleaned vertex) edges faces listed = absurd listed

-- as the stored record of a mesh gives them
module _ {V DE UE F : Type 0} {s : Lists V DE UE F} {r : Removal} {m : Mesh V DE UE F} (held : Holds s r m) (edges faces list : List ℕ) (listed : IsListed m.shape.removal edges faces) where
  pub edges-listed : list ≡ edges_of r → list ≡ ascending edges
  edges-listed given = given ∙ ap (λ (n : Mesh V DE UE F). edges_of n.shape.removal) held.is ∙ (listed-lists m.shape.removal edges faces listed).0

  pub faces-listed : list ≡ faces_of r → list ≡ ascending faces
  faces-listed given = given ∙ ap (λ (n : Mesh V DE UE F). faces_of n.shape.removal) held.is ∙ (listed-lists m.shape.removal edges faces listed).1

-- so many they are
pub as_many : (n : ℕ) (list given : List ℕ) → n ≡ length list → given ≡ ascending list → n ≡ length given
as_many n list given long is = long ∙ sym (length-ascending list) ∙ ap length (sym is)
