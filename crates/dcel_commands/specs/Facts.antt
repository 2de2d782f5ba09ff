-- What queries are told: the numbers, lists and data alone.
use Rattle.std.specs.Prelude.{ℕ, ℤ, Bool, List, ◌++◌, Option, Some, None, if◌then◌else◌, codes}
use Rattle.std.specs.Fmt.{signed_decimal}
use Rattle.std.specs.List.{flat_map}
use Rattle.dcel_commands.specs.Replies.{half_edge_text, vertex_text}
use Rattle.dcel_text.specs.Texts.{ended, listed, numbered}

-- what may be told: how many vertices, edges and faces there are; faces, each with its half edges; the half edges of the outer face,
-- or out of a vertex; a vertex; a half edge, if there is one; a datum; whether something holds
pub data Fact (V : Type 0) : Type 0 where
  Counts : ℕ → ℕ → ℕ → Fact V
  Words : List (ℕ × List ℕ) → Fact V
  Hull : List ℕ → Fact V
  Out : List ℕ → Fact V
  Vertex : ℕ → Fact V
  Half : Option ℕ → Fact V
  Datum : V → Fact V
  Truth : Bool → Fact V

-- `vertices N edges N faces N`
abbrev pub counts_text : ℕ → ℕ → ℕ → List ℕ
counts_text vertices edges faces =
    ended (numbered (codes "vertices ") vertices ++ numbered (codes " edges ") edges ++ numbered (codes " faces ") faces)

-- the line of a face: its number and the half edges round it
abbrev pub face_line : ℕ × List ℕ → List ℕ
face_line face = ended (numbered (codes "F") face.0 ++ listed face.1)

-- a line for each face
abbrev pub faces_text : List (ℕ × List ℕ) → List ℕ
faces_text faces = flat_map face_line faces

-- `hull h h ..`
abbrev pub hull_text : List ℕ → List ℕ
hull_text hs = ended (codes "hull" ++ listed hs)

-- `out h h ..`
abbrev pub turn_text : List ℕ → List ℕ
turn_text hs = ended (codes "out" ++ listed hs)

-- `half H`, or `none`
abbrev pub edge_text : Option ℕ → List ℕ
edge_text (Some h) = half_edge_text h
edge_text None = ended (codes "none")

-- `datum D`
abbrev pub datum_text : ℤ → List ℕ
datum_text d = ended (codes "datum " ++ signed_decimal d)

-- `true` or `false`
abbrev pub truth_text : Bool → List ℕ
truth_text is_so = ended (if is_so then codes "true" else codes "false")

-- how it is written
abbrev pub fact_text : Fact ℤ → List ℕ
fact_text (Counts vertices edges faces) = counts_text vertices edges faces
fact_text (Words faces) = faces_text faces
fact_text (Hull hs) = hull_text hs
fact_text (Out hs) = turn_text hs
fact_text (Vertex v) = vertex_text v
fact_text (Half found) = edge_text found
fact_text (Datum d) = datum_text d
fact_text (Truth is_so) = truth_text is_so
