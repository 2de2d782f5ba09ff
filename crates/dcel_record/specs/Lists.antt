-- What a record lists.
use Rattle.std.specs.Prelude.{ℕ, List, []}
use Rattle.dcel_maps.specs.Removals.{Removal, Closed, Isolated, Cleaned}

abbrev pub edges_of : Removal → List ℕ
edges_of Closed = []
edges_of (Isolated edges faces vertex) = edges
edges_of (Cleaned vertex) = []

abbrev pub faces_of : Removal → List ℕ
faces_of Closed = []
faces_of (Isolated edges faces vertex) = faces
faces_of (Cleaned vertex) = []
