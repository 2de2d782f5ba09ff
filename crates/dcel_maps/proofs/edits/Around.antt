-- Short names for what an edit of a mesh speaks of: `open (edited m c) use {S, T}`, `open (known m mesh) use {sound, stands, below}`, and
-- `open (at_edge s u) use {e, t}`.
use Rattle.std.proofs.Common.{ℕ, ◌+◌, ◌*◌, ◌<◌}
use Rattle.dcel_maps.specs.Maps.{Map}
use Rattle.dcel_maps.specs.theory.Sound.{Sound}
use Rattle.dcel_maps.specs.Shapes.{IsLive, IsMesh, Mesh, Shape, face_of, map_of, next_of, prev_of}
use Rattle.dcel_maps.specs.theory.Standing.{Stands}
use Rattle.dcel_maps.proofs.edits.Changes.{Change, map_after}
use Rattle.dcel_maps.proofs.shapes.Maps.{map-sound}
use Rattle.dcel_maps.proofs.walks.Links.{half-below, links_stand}

-- the maps before and after the edit
pub record Edited : Type 0 where
  pub S : Map
  pub T : Map

abbrev pub edited : {V DE UE F : Type 0} → Mesh V DE UE F → Change V DE UE F → Edited
edited m c = record { S = map_of m.shape; T = map_after m.shape c }

-- what is known of each mesh
pub record Known {V DE UE F : Type 0} (m : Mesh V DE UE F) : Type 0 where
  pub sound : Sound (map_of m.shape)
  pub stands : Stands (map_of m.shape) m.shape.words
  pub below : (h : ℕ) → IsLive m.shape h → h < 2 * m.shape.edges

pub known : {V DE UE F : Type 0} (m : Mesh V DE UE F) → IsMesh m → Known m
known m mesh = record { sound = map-sound mesh.sound; stands = links_stand mesh.sound; below = half-below m.shape }

-- the halves e and t of an edge, the faces f and g on which they lie, and the half edges before and after each
pub record AtEdge : Type 0 where
  pub e : ℕ
  pub t : ℕ
  pub f : ℕ
  pub g : ℕ
  pub ep : ℕ
  pub en : ℕ
  pub tp : ℕ
  pub tn : ℕ

abbrev pub at_edge : Shape → ℕ → AtEdge
at_edge s u =
    let e = 2 * u in
    let t = 2 * u + 1 in
    record { e = e; t = t; f = face_of s e; g = face_of s t; ep = prev_of s e; en = next_of s e; tp = prev_of s t; tn = next_of s t }
