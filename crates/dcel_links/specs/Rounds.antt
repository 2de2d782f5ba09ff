-- What is noted while the rounds of a claim are gone.
use Rattle.std.specs.Prelude.{◌≡◌, ℕ, ◌<◌, List, length, slice_index}
use Rattle.dcel_links.specs.Claims.{Claim, halves}
use Rattle.dcel_links.specs.Faults.{turned}
use Rattle.dcel_links.specs.Marks.{MarksLabels}
use Rattle.dcel_links.specs.declared.whole.Marks.{Marks}

-- a list of the turns of all half edges
pub record AreTurns (next turns : List ℕ) : Type 0 where
  pub as_many : length turns ≡ length next
  pub each : (h : ℕ) → h < length next → slice_index turns h ≡ turned next h

-- which vertices and which faces have a half edge, and room for all half edges
pub record AreMarks {A : Type 0} (c : Claim) (marks : Marks A) : Type 0 where
  pub of_vertices : length marks.vertices.items ≡ c.vertices
  pub of_faces : length marks.faces.items ≡ c.faces
  pub room : length marks.turns.items ≡ halves c
  pub vertices : MarksLabels c.origin marks.vertices.items
  pub faces : MarksLabels c.face marks.faces.items
