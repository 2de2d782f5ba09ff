-- What queries ask, and what they are told.
use Rattle.std.specs.Prelude.{◌≡◌, ◌↔◌, ℕ, Bool, IsTrue, List, [], ◌∷◌, Some, Result, Ok, Err, codes, slice_get}
use Rattle.dcel_commands.specs.declared.refusal.Refusal.{Refusal}
use Rattle.dcel_commands.specs.declared.refusal.Refusal.TheVariants.{NoSuchVertex, NoSuchEdge, GivenUp}
use Rattle.dcel_commands.specs.declared.commands.query.Query.{Query}
use Rattle.dcel_commands.specs.declared.commands.query.Query.TheVariants as queries
use Rattle.dcel_commands.specs.declared.commands.query.Told.{Told}
use Rattle.dcel_commands.specs.declared.commands.query.Told.TheVariants as answers
use Rattle.dcel_commands.specs.Asking.{live_vertices}
use Rattle.dcel_commands.specs.Conditions.{Entry, AllMet, FirstUnmet, VertexInRange, VertexLive, HalfEdgeInRange, HalfEdgeLive}
use Rattle.dcel_commands.specs.Facts.{Fact, Counts, Words, Hull, Out, Vertex, Half, Datum, Truth}
use Rattle.dcel_commands.specs.Grammar.{Number}
use Rattle.dcel_commands.specs.Rules.{QueryRule}
use Rattle.dcel_commands.specs.request.Out.{turn_of}
use Rattle.dcel_commands.specs.request.Words.{live_faces}
use Rattle.dcel_maps.specs.Checked.{IsChecked}
use Rattle.dcel_maps.specs.Shapes.{Mesh, face_count, origin_of}
use Rattle.dcel_maps.specs.Walking.{edge_between}
use Rattle.dcel_maps.specs.Words.{word_of}
use Rattle.spade_dcel.specs.Handles.{mesh_behind, number_of}

-- `counts`: how many vertices, undirected edges and faces there are
abbrev pub counts : QueryRule
counts = record {
  word = codes "counts";
  given = [];
  asks = [];
  Tells = λ m fact. fact ≡ Counts m.shape.vertices m.shape.edges (face_count m.shape);
}

-- `words`: each live face
abbrev pub words : QueryRule
words = record {
  word = codes "words";
  given = [];
  asks = [];
  Tells = λ m fact. fact ≡ Words (live_faces m.shape);
}

-- `hull`: the half edges of the outer face
abbrev pub hull : QueryRule
hull = record {
  word = codes "hull";
  given = [];
  asks = [];
  Tells = λ m fact. fact ≡ Hull (word_of m.shape.words 0);
}

-- `out V`: the half edges that start at V
abbrev pub out : ℕ → QueryRule
out v = record {
  word = codes "out";
  given = Number v ∷ [];
  asks = (NoSuchVertex, VertexInRange v) ∷ (GivenUp, VertexLive v) ∷ [];
  Tells = λ m fact. fact ≡ Out (turn_of m.shape v);
}

-- `origin H`: the vertex that H starts at
abbrev pub origin : ℕ → QueryRule
origin h = record {
  word = codes "origin";
  given = Number h ∷ [];
  asks = (NoSuchEdge, HalfEdgeInRange h) ∷ (GivenUp, HalfEdgeLive h) ∷ [];
  Tells = λ m fact. fact ≡ Vertex (origin_of m.shape h);
}

-- `between A B`: the half edge that leads from A to B
abbrev pub between : ℕ → ℕ → QueryRule
between a b = record {
  word = codes "between";
  given = Number a ∷ Number b ∷ [];
  asks = live_vertices a b;
  Tells = λ m fact. fact ≡ Half (edge_between m a b);
}

-- `get V`: the datum of V
abbrev pub get : ℕ → QueryRule
get v = record {
  word = codes "get";
  given = Number v ∷ [];
  asks = (NoSuchVertex, VertexInRange v) ∷ [];
  Tells = λ {V} m fact. (datum : V) × (slice_get m.vertex_data v ≡ Some datum) × (fact ≡ Datum datum);
}

-- `check`: whether the mesh is checked
abbrev pub check : QueryRule
check = record {
  word = codes "check";
  given = [];
  asks = [];
  Tells = λ m fact. (answer : Bool) × (IsTrue answer ↔ IsChecked m.shape) × (fact ≡ Truth answer);
}

-- the queries
abbrev pub query_rule : Query → QueryRule
query_rule queries.Counts = counts
query_rule queries.Words = words
query_rule queries.Hull = hull
query_rule (queries.Out v) = out v
query_rule (queries.Origin h) = origin h
query_rule (queries.Between v w) = between v w
query_rule (queries.Get v) = get v
query_rule queries.Check = check

-- what is said of a mesh
abbrev pub fact : {V DE UE F A : Type 0} → Told V DE UE F A → Fact V
fact (answers.Counts vertices edges faces) = Counts vertices edges faces
fact (answers.Words dcel) = Words (live_faces dcel.now.shape)
fact (answers.Hull dcel) = Hull (word_of dcel.now.shape.words 0)
fact (answers.Out vertex) = Out (turn_of (mesh_behind vertex).shape (number_of vertex))
fact (answers.Vertex v) = Vertex v
fact (answers.Half found) = Half found
fact (answers.Datum datum) = Datum datum.now
fact (answers.Truth is_so) = Truth is_so

-- the outcome of a query
abbrev pub told : {V DE UE F A : Type 0} → Result (Told V DE UE F A) Refusal → Result (Fact V) Refusal
told (Ok answer) = Ok (fact answer)
told (Err why) = Err why

-- the conditions of a query
abbrev pub query_asks : Query → List Entry
query_asks query = (query_rule query).asks

-- a query is told this of a mesh
abbrev pub Tells : {V DE UE F : Type 0} → Mesh V DE UE F → Query → Fact V → Type 0
Tells m query is = (query_rule query).Tells m is

-- all that the rule asks is met and it is told this, or the first condition that isn't met refuses it
abbrev pub TellsOrRefuses : {V DE UE F : Type 0} → Mesh V DE UE F → QueryRule → Result (Fact V) Refusal → Type 0
TellsOrRefuses m rule (Ok is) = AllMet m.shape rule.asks × rule.Tells m is
TellsOrRefuses m rule (Err why) = FirstUnmet m.shape rule.asks why
