-- What a call that opens a removal returns.
use Rattle.std.specs.Prelude.{◌≡◌, ℕ, ◌+◌, ◌-◌, List, length}
use Rattle.dcel_maps.specs.Numbers.{numbers_between}
use Rattle.dcel_maps.specs.Shapes.{Shape}
use Rattle.spade_dcel.specs.declared.operations.results.IsolateVertexResult.{IsolateVertexResult}

module _ {A : Type 0} where
  -- it gave up these edges and faces, and added these edges; no added one can have a smaller number than the least
  pub record HasOpened (gone_edges gone_faces added : List ℕ) (least : ℕ) (opened : IsolateVertexResult A) : Type 0 where
    pub edges : opened.edges_to_remove.items ≡ gone_edges
    pub faces : opened.faces_to_remove.items ≡ gone_faces
    pub new_edges : opened.new_edges.items ≡ added
    pub smallest : opened.smallest_new_edge ≡ least

  -- it filled the hole inside a border: the new edges have the numbers after those of the old ones
  abbrev pub HasFilled : Shape → List ℕ → List ℕ → List ℕ → IsolateVertexResult A → Type 0
  HasFilled s border gone_edges gone_faces opened =
      HasOpened gone_edges gone_faces (numbers_between s.edges (s.edges + (length border - 3))) s.edges opened
