-- The links of a mesh in which no removal is open, one after another.
use Rattle.std.proofs.Common.{◌≡◌, ◌∙◌, ℕ, ◌*◌, ◌<◌, List, [], ◌∷◌, ◌++◌, map, refl, sym, ap, arith}
use Rattle.std.proofs.lemmas.List.{append-nil, ext_get_or}
use Rattle.std.proofs.lemmas.List.Elements.{All-head, All-tail}
use Rattle.std.specs.List.{All}
use Rattle.dcel_exchange.specs.Links.{link_of}
use Rattle.dcel_exchange.specs.declared.steps.Link.{Link}
use Rattle.dcel_links.specs.Claims.{claim}
use Rattle.dcel_links.specs.Meshes.{IsLinked}
use Rattle.dcel_maps.specs.Kinds.{DirectedEdges}
use Rattle.dcel_maps.specs.Numbers.{numbers_between}
use Rattle.dcel_maps.specs.Removals.{Closed}
use Rattle.dcel_maps.specs.Shapes.{IsMesh, Mesh, Shape, face_count, face_of, next_of, origin_of}
use Rattle.dcel_maps.specs.Walking.{in_mesh}
use Rattle.dcel_maps.proofs.Liveness.{closed-half_live}
use Rattle.dcel_maps.proofs.walks.Numbers.{numbers-below, length-listed, listed, listed-at}
use Rattle.spade_dcel.specs.Live.{live_ones}

module _ {V DE UE F : Type 0} (m : Mesh V DE UE F) (closed : m.shape.removal ≡ Closed) where
  -- each half edge is live, so the links of the live ones are the links of all
  all_links : (numbers : List ℕ) → All (λ h. h < 2 * m.shape.edges) numbers
      → map (λ edge. link_of edge.0.shape edge.1) (live_ones DirectedEdges (in_mesh m numbers)) ≡ map (link_of m.shape) numbers
  all_links [] below = refl
  all_links (h ∷ rest) below =
      rw (closed-half_live m.shape closed h (All-head (λ k. k < 2 * m.shape.edges) h rest below))
      (ap (λ list. link_of m.shape h ∷ list) (all_links rest (All-tail (λ k. k < 2 * m.shape.edges) h rest below)))

  pub links_all : (elements : List (Mesh V DE UE F × ℕ)) → elements ≡ live_ones DirectedEdges (in_mesh m (numbers_between 0 (2 * m.shape.edges)))
      → map (λ edge. link_of edge.0.shape edge.1) elements ≡ map (link_of m.shape) (numbers_between 0 (2 * m.shape.edges))
  links_all elements are = rw are (all_links (numbers_between 0 (2 * m.shape.edges)) (numbers-below (2 * m.shape.edges)))

-- one link of all half edges
abbrev pub part_of : (Link → ℕ) → Shape → List ℕ
part_of part s = listed (λ h. part (link_of s h)) (2 * s.edges)

-- with what is to come the list has it of all
abbrev pub Gathers : (Link → ℕ) → Shape → List ℕ → List Link → Type 0
Gathers part s list rest = list ++ map part rest ≡ part_of part s

map-links : (part : Link → ℕ) (s : Shape) (numbers : List ℕ) → map part (map (link_of s) numbers) ≡ map (λ h. part (link_of s h)) numbers
map-links part s [] = refl
map-links part s (h ∷ rest) = ap (λ list. part (link_of s h) ∷ list) (map-links part s rest)

pub gathers-none : (part : Link → ℕ) (s : Shape) (list : List ℕ) (rest : List Link) → list ≡ [] → rest ≡ map (link_of s) (numbers_between 0 (2 * s.edges))
    → Gathers part s list rest
gathers-none part s list rest none are = rw (none, are) (map-links part s (numbers_between 0 (2 * s.edges)))

pub gathers-all : (part : Link → ℕ) (s : Shape) (list : List ℕ) (rest : List Link) → Gathers part s list rest → rest ≡ [] → list ≡ part_of part s
gathers-all part s list rest so_far ends = sym (append-nil list) ∙ ap (λ xs. list ++ map part xs) (sym ends) ∙ so_far

-- such lists are the links of the mesh
module _ {V DE UE F : Type 0} (m : Mesh V DE UE F) (mesh : IsMesh m) (closed : m.shape.removal ≡ Closed) where
  abbrev s : Shape
  s = m.shape

  origins_are : s.origins ≡ part_of (λ link. link.origin) s
  origins_are =
      ext_get_or 0 s.origins (part_of (λ link. link.origin) s) (mesh.sized.origins ∙ sym (length-listed (origin_of s) (2 * s.edges)))
      (λ h below. sym (listed-at (origin_of s) (2 * s.edges) h (let long = mesh.sized.origins in omega arith)))

  linked_parts : IsLinked s (claim (part_of (λ link. link.next) s) (part_of (λ link. link.origin) s) (part_of (λ link. link.face) s) s.vertices (face_count s))
  linked_parts =
      let nexts = length-listed (next_of s) (2 * s.edges) in
      let starts = length-listed (origin_of s) (2 * s.edges) in
      let sides = length-listed (face_of s) (2 * s.edges) in record {
        closed = closed;
        lists = record { even = rw nexts (omega arith); origins = starts ∙ sym nexts; sides = sides ∙ sym nexts };
        vertices = refl;
        half_edges = sym nexts;
        faces = refl;
        next = λ h below. sym (listed-at (next_of s) (2 * s.edges) h (omega (arith, below, nexts)));
        origin = origins_are;
        face = λ h below. sym (listed-at (face_of s) (2 * s.edges) h (omega (arith, below, nexts)));
      }

  pub links_linked : (next origin face : List ℕ) → next ≡ part_of (λ link. link.next) s → origin ≡ part_of (λ link. link.origin) s → face ≡ part_of (λ link. link.face) s
      → IsLinked s (claim next origin face s.vertices (face_count s))
  links_linked next origin face nexts starts sides = rw (nexts, starts, sides) linked_parts
