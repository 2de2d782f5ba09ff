-- The vectors of a `Store`: the lists that they stand for, and how long they are.
use Rattle.std.specs.Prelude.{◌≡◌, ◌-◌, ◌*◌, ◌≤◌, map, vec_len, vec_capacity}
use Rattle.dcel_store.specs.declared.Store.TheInside.{Inside}
use Rattle.dcel_store.specs.Lists.{Lists}

-- the lists that the vectors stand for; there is room for as many edges as the vector of their data has places left
abbrev pub lists_of : {V DE UE F A : Type 0} → Inside V DE UE F A → Lists V DE UE F
lists_of store = record {
  vertex_data = map (λ v. v.«data») store.vertices.items;
  vertex_anchors = map (λ v. v.out_edge) store.vertices.items;
  next = store.next.items;
  prev = store.prev.items;
  origin = store.origin.items;
  face = store.face.items;
  directed_data = store.directed_data.items;
  undirected_data = store.undirected_data.items;
  face_data = map (λ f. f.«data») store.faces.items;
  face_anchors = map (λ f. f.adjacent_edge) store.faces.items;
  vertex_room = vec_capacity store.vertices - vec_len store.vertices;
  edge_room = vec_capacity store.undirected_data - vec_len store.undirected_data;
  face_room = vec_capacity store.faces - vec_len store.faces;
}

-- each vector of half edges has two items for each edge, and two places at least where the data of edges have one
pub record VectorsAgree {V DE UE F A : Type 0} (store : Inside V DE UE F A) : Type 0 where
  pub next_length : vec_len store.next ≡ 2 * vec_len store.undirected_data
  pub prev_length : vec_len store.prev ≡ 2 * vec_len store.undirected_data
  pub origin_length : vec_len store.origin ≡ 2 * vec_len store.undirected_data
  pub face_length : vec_len store.face ≡ 2 * vec_len store.undirected_data
  pub directed_length : vec_len store.directed_data ≡ 2 * vec_len store.undirected_data
  pub next_places : 2 * vec_capacity store.undirected_data ≤ vec_capacity store.next
  pub prev_places : 2 * vec_capacity store.undirected_data ≤ vec_capacity store.prev
  pub origin_places : 2 * vec_capacity store.undirected_data ≤ vec_capacity store.origin
  pub face_places : 2 * vec_capacity store.undirected_data ≤ vec_capacity store.face
  pub directed_places : 2 * vec_capacity store.undirected_data ≤ vec_capacity store.directed_data
