-- A vertex taken out: what the hole that is filled and the cleanup leave.
use Rattle.std.proofs.Common.{◌≡◌, ◌∙◌, inr, ℕ, ◌-◌, ◌≤◌, ◌==◌, List, [], ◌∷◌, length, map, reverse, Option, Some, None, cond, slice_get, refl, sym, ap, subst, arith}
use Rattle.std.proofs.lemmas.List.{length-reverse}
use Rattle.dcel_convenience.specs.Removing.{CanRemoveVertex, MayNotRemove, TakesOut, border_from, border_round}
use Rattle.dcel_convenience.specs.declared.removing.WhyNotRemoved.TheVariants.{NoRoom}
use Rattle.dcel_maps.specs.Borders.{IsBorderLoop}
use Rattle.dcel_maps.specs.Conditions.{CanSwapRemove, HasRoom}
use Rattle.dcel_maps.specs.Removals.{Closed, IsListed, Removal, ascending, opened}
use Rattle.dcel_maps.specs.Renumbering.{cleaned, cleaned_up, edge_taken_out, edges_down, edges_taken_out, face_taken_out, faces_down, faces_taken_out, vertex_taken_out}
use Rattle.dcel_maps.specs.Shapes.{Mesh, Shape, next_of, vertex_anchor}
use Rattle.dcel_maps.specs.Walking.{ccw_of, walk_from}
use Rattle.dcel_maps.specs.edits.Fill.{FillsHole, edges_at, faces_at, hole_filled, loop_filled}

-- a list that is lent, as it is tested
pub loop_told : (s : Shape) (list lent : List ℕ) (v : ℕ) → lent ≡ list → IsBorderLoop s lent v → IsBorderLoop s list v
loop_told s list lent v same = subst (λ (xs : List ℕ). IsBorderLoop s xs v) same

-- the room that is asked for a border of so many half edges
pub room_is : (s : Shape) (edges faces vertices long n : ℕ) → vertices ≡ 0 → edges ≡ long - 3 → faces ≡ long - 2 → long ≡ n → HasRoom s vertices edges faces → HasRoom s 0 (n - 3) (n - 2)
room_is s edges faces vertices long n none more_edges more_faces is room =
    subst (λ (k : ℕ). HasRoom s 0 (k - 3) (k - 2)) is
    (subst (λ (k : ℕ). HasRoom s 0 (long - 3) k) more_faces (subst (λ (k : ℕ). HasRoom s 0 k faces) more_edges (subst (λ (k : ℕ). HasRoom s k edges faces) none room)))

-- the room that is lacking, in the same way
pub lacks_room : (s : Shape) (edges faces vertices long n : ℕ) → vertices ≡ 0 → edges ≡ long - 3 → faces ≡ long - 2 → long ≡ n → ¬ HasRoom s vertices edges faces → ¬ HasRoom s 0 (n - 3) (n - 2)
lacks_room s edges faces vertices long n none more_edges more_faces is lacks room =
    let wide = subst (λ (k : ℕ). HasRoom s 0 (k - 3) (k - 2)) (sym is) room in
    lacks (subst (λ (k : ℕ). HasRoom s k edges faces) (sym none) (subst (λ (k : ℕ). HasRoom s 0 k faces) (sym more_edges) (subst (λ (k : ℕ). HasRoom s 0 (long - 3) k) (sym more_faces) wide)))

module _ {V DE UE F : Type 0} where
  -- the border from the anchor of a vertex
  pub round_is : (m lent : Mesh V DE UE F) (v k : ℕ) (border : List ℕ) → border ≡ border_from lent.shape k → lent ≡ m → Some k ≡ vertex_anchor m v → border ≡ border_round m v
  round_is m lent v k border is mesh anchor =
      is ∙ ap (λ (x : Mesh V DE UE F). border_from x.shape k) mesh ∙ ap (λ (a : Option ℕ). reverse (map (next_of m.shape) (walk_from m.shape (ccw_of m.shape) a))) anchor

  -- what was asked of it, in the words of the call
  pub can_remove : (m : Mesh V DE UE F) (v : ℕ) (border : List ℕ) → border ≡ border_round m v → m.shape.removal ≡ Closed → IsBorderLoop m.shape border v
      → HasRoom m.shape 0 (length border - 3) (length border - 2) → CanRemoveVertex m v
  can_remove m v border is closed inside room = record {
    closed = closed;
    inside = subst (λ (list : List ℕ). IsBorderLoop m.shape list v) is inside;
    room = subst (λ (list : List ℕ). HasRoom m.shape 0 (length list - 3) (length list - 2)) is room;
  }

  -- the vertex is inside, and numbers are lacking
  pub no_room : (m : Mesh V DE UE F) (v : ℕ) (border : List ℕ) → border ≡ border_round m v → m.shape.removal ≡ Closed → IsBorderLoop m.shape border v
      → ¬ HasRoom m.shape 0 (length border - 3) (length border - 2) → MayNotRemove m v NoRoom
  no_room m v border is closed inside lacks = (
    closed,
    subst (λ (list : List ℕ). IsBorderLoop m.shape list v) is inside,
    subst (λ (list : List ℕ). ¬ HasRoom m.shape 0 (length list - 3) (length list - 2)) is lacks,
  )

  loop-removal : (m : Mesh V DE UE F) (r : Removal) (ring : List ℕ) (h : List DE) (e : List UE) (f : List F) → 3 ≤ length ring → (loop_filled m r ring h e f).shape.removal ≡ r
  loop-removal m r [] h e f many = absurd (omega (arith, many))
  loop-removal m r (p ∷ []) h e f many = absurd (omega (arith, many))
  loop-removal m r (p ∷ q ∷ []) h e f many = absurd (omega (arith, many))
  loop-removal m r (p ∷ q ∷ x ∷ rest) h e f many = refl

  loop-data : (m : Mesh V DE UE F) (r : Removal) (ring : List ℕ) (h : List DE) (e : List UE) (f : List F) → (loop_filled m r ring h e f).vertex_data ≡ m.vertex_data
  loop-data m r [] h e f = refl
  loop-data m r (p ∷ []) h e f = refl
  loop-data m r (p ∷ q ∷ []) h e f = refl
  loop-data m r (p ∷ q ∷ x ∷ rest) h e f = refl

  loop-vertices : (m : Mesh V DE UE F) (r : Removal) (ring : List ℕ) (h : List DE) (e : List UE) (f : List F) → (loop_filled m r ring h e f).shape.vertices ≡ m.shape.vertices
  loop-vertices m r [] h e f = refl
  loop-vertices m r (p ∷ []) h e f = refl
  loop-vertices m r (p ∷ q ∷ []) h e f = refl
  loop-vertices m r (p ∷ q ∷ x ∷ rest) h e f = refl

  pub edges_out-data : (m : Mesh V DE UE F) (ds : List ℕ) → (edges_taken_out m ds).vertex_data ≡ m.vertex_data
  edges_out-data m [] = refl
  edges_out-data m (d ∷ ds) = edges_out-data (edge_taken_out m d) ds

  pub faces_out-data : (m : Mesh V DE UE F) (ds : List ℕ) → (faces_taken_out m ds).vertex_data ≡ m.vertex_data
  faces_out-data m [] = refl
  faces_out-data m (d ∷ ds) = faces_out-data (face_taken_out m d) ds

  pub edges_out-vertices : (m : Mesh V DE UE F) (ds : List ℕ) → (edges_taken_out m ds).shape.vertices ≡ m.shape.vertices
  edges_out-vertices m [] = refl
  edges_out-vertices m (d ∷ ds) = edges_out-vertices (edge_taken_out m d) ds

  pub faces_out-vertices : (m : Mesh V DE UE F) (ds : List ℕ) → (faces_taken_out m ds).shape.vertices ≡ m.shape.vertices
  faces_out-vertices m [] = refl
  faces_out-vertices m (d ∷ ds) = faces_out-vertices (face_taken_out m d) ds

  module _ (is_half : DE → Type 0) (is_edge : UE → Type 0) (is_face : F → Type 0) (old filled clean : Mesh V DE UE F) (v : ℕ) (border : List ℕ)
      (fills : FillsHole is_half is_edge is_face border filled (hole_filled old v border)) (cleans : clean ≡ cleaned_up filled) where
    -- the vertex is given up, with the edges and faces around it
    given_up : IsBorderLoop old.shape border v → filled.shape.removal ≡ opened (edges_at old v) (faces_at old v) v
    given_up round =
        let many : 3 ≤ length (reverse border) = omega (arith, round.many, length-reverse border) in
        ap (λ (m : Mesh V DE UE F). m.shape.removal) fills.is
        ∙ loop-removal old (opened (edges_at old v) (faces_at old v) v) (reverse border) fills.directed_data fills.undirected_data fills.face_data many

    pub listed : IsBorderLoop old.shape border v → (edges faces : List ℕ) → edges ≡ edges_at old v → faces ≡ faces_at old v → IsListed filled.shape.removal edges faces
    listed round edges faces edges_are faces_are =
        subst (λ (r : Removal). IsListed r edges faces) (sym (given_up round)) (ap ascending edges_are, ap ascending faces_are)

    -- and then the removal is cleaned up
    pub can_swap : IsBorderLoop old.shape border v → CanSwapRemove clean.shape v
    can_swap round = inr (ap (λ (m : Mesh V DE UE F). m.shape.removal) cleans ∙ ap cleaned (given_up round))

    -- each vertex has its datum
    pub datum_is : (taken : V) → slice_get clean.vertex_data v ≡ Some taken → slice_get old.vertex_data v ≡ Some taken
    datum_is taken =
        let r = filled.shape.removal in
        let stay : clean.vertex_data ≡ old.vertex_data =
        ap (λ (m : Mesh V DE UE F). m.vertex_data) cleans ∙ faces_out-data (edges_taken_out filled (edges_down r)) (faces_down r) ∙ edges_out-data filled (edges_down r)
        ∙ ap (λ (m : Mesh V DE UE F). m.vertex_data) fills.is
        ∙ loop-data old (opened (edges_at old v) (faces_at old v) v) (reverse border) fills.directed_data fills.undirected_data fills.face_data in
        subst (λ (xs : List V). slice_get xs v ≡ Some taken) stay

    -- and its number
    pub moved_is : (swapped : Option ℕ) → swapped ≡ cond (v == clean.shape.vertices - 1) None (Some (clean.shape.vertices - 1))
        → swapped ≡ cond (v == old.shape.vertices - 1) None (Some (old.shape.vertices - 1))
    moved_is swapped =
        let r = filled.shape.removal in
        let stay : clean.shape.vertices ≡ old.shape.vertices =
        ap (λ (m : Mesh V DE UE F). m.shape.vertices) cleans ∙ faces_out-vertices (edges_taken_out filled (edges_down r)) (faces_down r) ∙ edges_out-vertices filled (edges_down r)
        ∙ ap (λ (m : Mesh V DE UE F). m.shape.vertices) fills.is
        ∙ loop-vertices old (opened (edges_at old v) (faces_at old v) v) (reverse border) fills.directed_data fills.undirected_data fills.face_data in
        subst (λ (n : ℕ). swapped ≡ cond (v == n - 1) None (Some (n - 1))) stay

    pub takes_out : (new : Mesh V DE UE F) → new ≡ vertex_taken_out clean v → TakesOut is_half is_edge is_face border old new v
    takes_out new out = record { filled = filled; fills = fills; is = out ∙ ap (λ (m : Mesh V DE UE F). vertex_taken_out m v) cleans }
