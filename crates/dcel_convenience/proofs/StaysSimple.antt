-- A collapse leaves a simple mesh simple.
use Rattle.std.proofs.Common.{◌≡◌, ◌≢◌, ◌∙◌, inl, inr, ℕ, zero, suc, ◌+◌, ◌-◌, ◌<◌, ◌≤◌, List, [], ◌∷◌, length, map, reverse, slice_index, refl, sym, ap, subst, arith}
use Rattle.std.proofs.lemmas.List.{length-map, length-reverse, reverse-reverse}
use Rattle.dcel_convenience.specs.Collapsing.{CanCollapse, MeetsLinkCondition, StartsInDisc, corner_of}
use Rattle.dcel_convenience.specs.Removing.{TakesOut, border_from}
use Rattle.dcel_convenience.specs.Simple.{AreJoined, IsSimple}
use Rattle.dcel_convenience.proofs.Collapsed.{border_is_loop, corner-ccw, corner-cw}
use Rattle.dcel_convenience.proofs.Fan.{IsFan, corner_at, filled_simple}
use Rattle.dcel_convenience.proofs.Joined.{joined_here}
use Rattle.dcel_fixed.proofs.Halves.{rev-half}
use Rattle.dcel_fixed.specs.HalfEdges.{rev}
use Rattle.dcel_maps.specs.Maps.{By}
use Rattle.dcel_maps.specs.Removals.{Closed, Removal, opened}
use Rattle.dcel_maps.specs.Borders.{IsBorderLoop}
use Rattle.dcel_maps.specs.Conditions.{CanSwapRemove, HasRoom}
use Rattle.dcel_maps.specs.Renumbering.{cleaned_up, vertex_taken_out}
use Rattle.dcel_maps.specs.edits.DefaultData.{NewData}
use Rattle.dcel_maps.proofs.removal.FilledMeshes.{ring_filled-mesh}
use Rattle.dcel_maps.proofs.removal.Hollows.{HollowOf}
use Rattle.dcel_maps.proofs.removal.RingLists.{at_border}
use Rattle.dcel_maps.proofs.removal.VertexHoles.{vertex_by}
use Rattle.dcel_maps.proofs.renumbering.Cleanup.{cleaned_up-mesh, cleaned_up-renamed}
use Rattle.dcel_convenience.proofs.Removed.{can_swap}
use Rattle.dcel_maps.specs.Shapes.{face_count, IsLive, IsMesh, Mesh, Shape, edge_is_live, end_of, next_of, origin_of}
use Rattle.dcel_maps.specs.Walking.{IsOutEdge, ccw_of, cw_of, walk_of}
use Rattle.dcel_maps.specs.Words.{count_of}
use Rattle.dcel_maps.specs.edits.Fill.{edges_at, faces_at, loop_filled}
use Rattle.dcel_maps.specs.theory.Cycles.{Path}
use Rattle.dcel_maps.proofs.renumbering.Vertices.{can_swap_remove-out, vertex-renamed}
use Rattle.dcel_maps.proofs.shapes.Renames.{IsRenamed}
use Rattle.dcel_maps.proofs.walks.Links.{ccw-lawful}
use Rattle.dcel_maps.proofs.walks.Turning.{walk-out_edges}
use Rattle.dcel_maps.proofs.walks.UnderWay.{walk-round}
use Rattle.dcel_maps.proofs.words.Counts.{count-later, count-same}
use Rattle.dcel_maps.proofs.words.Mapped.{count-at}

-- an item of a list under a function
item-mapped : (f : ℕ → ℕ) (x : ℕ) (xs : List ℕ) (j : ℕ) → j ≤ length xs → slice_index (f x ∷ map f xs) j ≡ f (slice_index (x ∷ xs) j)
item-mapped f x xs zero within = refl
item-mapped f x [] (suc j) within = absurd (omega (arith, within))
item-mapped f x (y ∷ xs) (suc j) within = item-mapped f y xs j (omega (arith, within))

-- the places of a list in which nothing stands twice
one_place : (w : List ℕ) → ((x : ℕ) → count_of x w ≤ 1) → (i j : ℕ) → i < length w → j < length w → slice_index w i ≡ slice_index w j → i ≡ j
one_place [] once i j i_in j_in is = absurd (omega (arith, i_in))
one_place (x ∷ w) once zero zero i_in j_in is = refl
one_place (x ∷ w) once zero (suc j) i_in j_in is =
    let there : 0 < count_of (slice_index w j) w = count-at w j 0 (omega (arith, j_in)) in
    let again : 0 < count_of x w = subst (λ z. 0 < count_of z w) (sym is) there in
    absurd (omega (arith, once x, count-same x w, again))
one_place (x ∷ w) once (suc i) zero i_in j_in is =
    let there : 0 < count_of (slice_index w i) w = count-at w i 0 (omega (arith, i_in)) in
    let again : 0 < count_of x w = subst (λ z. 0 < count_of z w) is there in
    absurd (omega (arith, once x, count-same x w, again))
one_place (x ∷ w) once (suc i) (suc j) i_in j_in is =
    ap suc (one_place w (λ k. later k) i j (omega (arith, i_in)) (omega (arith, j_in)) is)
  where
    later : (k : ℕ) → count_of k w ≤ 1
    later k = let all = once k in omega (arith, all)

-- the last item of a path leads to its end
last_leads : (f : ℕ → ℕ) (x : ℕ) (xs : List ℕ) (e : ℕ) → Path (By f) x xs e → f (slice_index (x ∷ xs) (length xs)) ≡ e
last_leads f x [] e path = path
last_leads f x (y ∷ xs) e path = last_leads f y xs e path.1

module _ {V DE UE F : Type 0} (m : Mesh V DE UE F) (mesh : IsMesh m) (h : ℕ) (disc : StartsInDisc m.shape h) (link : MeetsLinkCondition m.shape h)
    (k l : ℕ) (more : List ℕ) (round : Path (By (ccw_of m.shape)) h (k ∷ l ∷ more) h) (once : (x : ℕ) → count_of x (h ∷ k ∷ l ∷ more) ≤ 1)
    (outs : (x : ℕ) → 0 < count_of x (h ∷ k ∷ l ∷ more) → IsOutEdge m.shape (origin_of m.shape h) x) where
  abbrev s : Shape
  s = m.shape

  abbrev v : ℕ
  v = origin_of m.shape h

  abbrev spoke : ℕ → ℕ
  spoke j = slice_index (l ∷ more) j

  there : (j : ℕ) → j ≤ length more → 0 < count_of (spoke j) (l ∷ more)
  there j within = count-at (l ∷ more) j 0 (omega (arith, within))

  spoke_out : (j : ℕ) → j ≤ length more → IsOutEdge s v (spoke j)
  spoke_out j within = outs (spoke j) (count-later (spoke j) h (k ∷ l ∷ more) (count-later (spoke j) k (l ∷ more) (there j within)))

  not_first : (j : ℕ) → j ≤ length more → spoke j ≢ h
  not_first j within is =
      let again = subst (λ x. 0 < count_of x (l ∷ more)) is (there j within) in
      let all = once h in
      let later = count-later h k (l ∷ more) again in
      omega (arith, all, count-same h (k ∷ l ∷ more), later)

  not_second : (j : ℕ) → j ≤ length more → spoke j ≢ k
  not_second j within is =
      let again = subst (λ x. 0 < count_of x (l ∷ more)) is (there j within) in
      let all = once k in
      let some : count_of k (k ∷ l ∷ more) ≤ count_of k (h ∷ k ∷ l ∷ more) = omega arith in
      omega (arith, all, count-same k (l ∷ more), again, some)

  once_more : (x : ℕ) → count_of x (l ∷ more) ≤ 1
  once_more x = let all = once x in let here : count_of x (l ∷ more) ≤ count_of x (h ∷ k ∷ l ∷ more) = omega arith in omega (arith, all, here)

  -- an out edge with the end of another is that one
  same_end : (x y : ℕ) → IsOutEdge s v x → IsOutEdge s v y → end_of s x ≡ end_of s y → x ≡ y
  same_end x y x_out y_out ends = disc.single y y_out x x_out.live (x_out.start ∙ sym y_out.start) ends

  last_is : cw_of s h ≡ spoke (length more)
  last_is =
      let z = spoke (length more) in
      let z_out = spoke_out (length more) (omega arith) in
      sym (ap (cw_of s) (last_leads (ccw_of s) l more h round.1.1)) ∙ (ccw-lawful mesh.sound).back-step z z_out.live

  no_corner : (j : ℕ) → j < length more → end_of s (spoke j) ≢ corner_of s h
  no_corner j within is =
      not_second j (omega (arith, within))
      (same_end (spoke j) k (spoke_out j (omega (arith, within))) (outs k (count-later k h (k ∷ l ∷ more) (omega (arith, count-same k (l ∷ more)))))
      (is ∙ corner-ccw s h ∙ ap (end_of s) round.0))

  no_other_corner : (j : ℕ) → j < length more → end_of s (spoke j) ≢ corner_of s (rev h)
  no_other_corner j within is =
      let last_out = spoke_out (length more) (omega arith) in
      let triangle = (disc.inside (cw_of s h) (subst (IsOutEdge s v) (sym last_is) last_out)).triangle in
      let same : spoke j ≡ spoke (length more) =
      same_end (spoke j) (spoke (length more)) (spoke_out j (omega (arith, within))) last_out (is ∙ corner-cw m mesh h disc.live triangle ∙ ap (end_of s) last_is) in
      let place = one_place (l ∷ more) once_more j (length more) (omega (arith, within)) (omega arith) same in
      omega (arith, within, place)

  not_joined : (j : ℕ) → j < length more → ¬ AreJoined s (end_of s h) (end_of s (spoke j))
  not_joined j within joined =
      elim (link (end_of s (spoke j)) (joined_here s v (end_of s (spoke j)) (spoke j) (spoke_out j (omega (arith, within))) refl) joined) [
        | inl near ↦ no_corner j within near
        | inr far ↦ no_other_corner j within far
      ]

  corner_is : (j : ℕ) → j ≤ length more → corner_at s (next_of s l) (map (next_of s) more) j ≡ end_of s (spoke j)
  corner_is j within =
      ap (origin_of s) (item-mapped (next_of s) l more j within) ∙ mesh.sound.joined (spoke j) (spoke_out j within).live

  end_is : origin_of s (next_of s h) ≡ end_of s h
  end_is = mesh.sound.joined h disc.live

  -- new edges join the end to vertices that are no neighbors of it
  pub is_fan : IsFan m.shape (corner_at m.shape (next_of m.shape l) (map (next_of m.shape) more)) (origin_of m.shape (next_of m.shape h)) (length (map (next_of m.shape) more))
  is_fan =
      let long : length (map (next_of s) more) ≡ length more = length-map more (next_of s) in
      record {
        new = λ j within (x, leads).
            let below : j < length more = omega (arith, within, long) in
            not_joined j below (x, record { live = leads.live; start = leads.start ∙ end_is; end = leads.end ∙ corner_is j (omega (arith, below)) });
        off = λ j within is.
            let below : j ≤ length more = omega (arith, within, long) in
            not_first j below (same_end (spoke j) h (spoke_out j below) (record { live = disc.live; start = refl }) (sym (corner_is j below) ∙ is ∙ end_is));
        apart = λ i j i_in j_in is.
            let i_below : i ≤ length more = omega (arith, i_in, long) in
            let j_below : j ≤ length more = omega (arith, j_in, long) in
            one_place (l ∷ more) once_more i j (omega (arith, i_below)) (omega (arith, j_below))
            (same_end (spoke i) (spoke j) (spoke_out i i_below) (spoke_out j j_below) (sym (corner_is i i_below) ∙ is ∙ corner_is j j_below));
      }

module _ {V DE UE F : Type 0} (m : Mesh V DE UE F) (mesh : IsMesh m) (h : ℕ) (can : CanCollapse m.shape h) (simple : IsSimple m.shape)
    (removal : Removal) (halves : List DE) (edges : List UE) (faces : List F) where
  fills_simply : (rest : List ℕ) → Path (By (ccw_of m.shape)) h rest h → ((x : ℕ) → count_of x (h ∷ rest) ≤ 1)
      → ((x : ℕ) → 0 < count_of x (h ∷ rest) → IsOutEdge m.shape (origin_of m.shape h) x)
      → IsSimple (loop_filled m removal (map (next_of m.shape) (h ∷ rest)) halves edges faces).shape
  fills_simply [] round once outs = simple
  fills_simply (k ∷ []) round once outs = simple
  fills_simply (k ∷ l ∷ more) round once outs =
      let s = m.shape in
      filled_simple m mesh can.closed removal (next_of s h) (next_of s k) (next_of s l) (map (next_of s) more) halves edges faces
      (is_fan m mesh h can.disc can.link k l more round once outs) simple

  -- the hole around the start is filled without a second edge
  pub hole_simple : IsSimple (loop_filled m removal (reverse (border_from m.shape h)) halves edges faces).shape
  hole_simple =
      let s = m.shape in
      let trip = walk-round (ccw-lawful mesh.sound) h can.disc.live in
      let outs = walk-out_edges mesh.sound (origin_of s h) h (record { live = can.disc.live; start = refl }) in
      let ring : reverse (border_from s h) ≡ map (next_of s) (h ∷ trip.rest) = reverse-reverse (map (next_of s) (walk_of s (ccw_of s) h)) ∙ ap (map (next_of s)) trip.from in
      subst (λ list. IsSimple (loop_filled m removal list halves edges faces).shape) (sym ring)
      (fills_simply trip.rest trip.round (λ x. subst (λ w. count_of x w ≤ 1) trip.from (trip.once x))
      (λ x found. outs.no_other x (subst (λ w. 0 < count_of x w) (sym trip.from) found)))

-- other numbers keep a mesh simple
pub renamed_simple : (s t : Shape) (f f' o o' w w' : ℕ → ℕ) → IsRenamed s t f f' o o' w w' → IsSimple s → IsSimple t
renamed_simple s t f f' o o' w w' e simple x y x_live y_live start end =
    let p = f' x in
    let q = f' y in
    let turned : (z : ℕ) → IsLive s z → IsLive s (rev z) = λ z live. ap (edge_is_live s) (rev-half z) ∙ live in
    let start_at : (z k : ℕ) → IsLive s z → f z ≡ k → origin_of s z ≡ o' (origin_of t k) =
    λ z k live is. sym (e.vertex_forth z live) ∙ ap o' (sym (e.origin z live) ∙ ap (origin_of t) is) in
    let end_at : (z k : ℕ) → IsLive s z → f z ≡ k → end_of s z ≡ o' (end_of t k) =
    λ z k live is. start_at (rev z) (rev k) (turned z live) (sym (e.turn z) ∙ ap rev is) in
    let p_live = e.comes x x_live in
    let q_live = e.comes y y_live in
    let p_is = e.back x x_live in
    let q_is = e.back y y_live in
    sym p_is
    ∙ ap f (simple p q p_live q_live
    (start_at p x p_live p_is ∙ ap o' start ∙ sym (start_at q y q_live q_is))
    (end_at p x p_live p_is ∙ ap o' end ∙ sym (end_at q y q_live q_is)))
    ∙ q_is

-- the mesh with the hole around a vertex filled, before cleanup
module _ {V DE UE F : Type 0} (m : Mesh V DE UE F) (mesh : IsMesh m) (closed : m.shape.removal ≡ Closed) (border : List ℕ) (v : ℕ) (loop : IsBorderLoop m.shape border v)
    (room : HasRoom m.shape 0 (length border - 3) (length border - 2)) (added : NewData DE UE F (length border - 3) (length border - 2)) where
  abbrev removal : Removal
  removal = opened (edges_at m v) (faces_at m v) v

  hole : HollowOf m.shape removal (reverse border) (face_count m.shape + (length border - 3))
  hole =
      (vertex_by m.shape mesh.sound mesh.sphere closed border v (face_count m.shape + (length border - 3)) loop removal (at_border m mesh border v loop) (omega arith)).hollow

  along : (ring : List ℕ) → reverse border ≡ ring → 3 ≤ length ring
      → IsMesh (loop_filled m removal ring added.directed_data added.undirected_data added.face_data)
  along [] is enough = absurd (omega (arith, enough))
  along (p ∷ []) is enough = absurd (omega (arith, enough))
  along (p ∷ q ∷ []) is enough = absurd (omega (arith, enough))
  along (p ∷ q ∷ r ∷ rest) is enough =
      let long : length border ≡ length (p ∷ q ∷ r ∷ rest) = sym (length-reverse border) ∙ ap length is in
      let count : length border - 3 ≡ length rest = omega (arith, long) in
      let faces : length border - 2 ≡ suc (length rest) = omega (arith, long) in
      let there : HollowOf m.shape removal (p ∷ q ∷ r ∷ rest) (face_count m.shape + length rest) =
      subst (λ k. HollowOf m.shape removal (p ∷ q ∷ r ∷ rest) (face_count m.shape + k)) count
      (subst (λ (w : List ℕ). HollowOf m.shape removal w (face_count m.shape + (length border - 3))) is hole) in
      let fits : HasRoom m.shape 0 (length rest) (suc (length rest)) = subst (HasRoom m.shape 0 (length rest)) faces (subst (λ k. HasRoom m.shape 0 k (length border - 2)) count room) in
      ring_filled-mesh m p q r rest added.directed_data added.undirected_data added.face_data mesh closed removal there fits
      (omega (arith, added.directed_count, count)) (added.undirected_count ∙ count) (added.face_data_count ∙ faces)

  pub filled_mesh : IsMesh (loop_filled m removal (reverse border) added.directed_data added.undirected_data added.face_data)
  filled_mesh = along (reverse border) refl (omega (arith, loop.many, length-reverse border))

module _ {V DE UE F : Type 0} (is_half : DE → Type 0) (is_edge : UE → Type 0) (is_face : F → Type 0) (old new : Mesh V DE UE F) (mesh : IsMesh old) (h : ℕ)
    (can : CanCollapse old.shape h) (room : HasRoom old.shape 0 (length (border_from old.shape h) - 3) (length (border_from old.shape h) - 2))
    (out : TakesOut is_half is_edge is_face (border_from old.shape h) old new (origin_of old.shape h)) where
  loop : IsBorderLoop old.shape (border_from old.shape h) (origin_of old.shape h)
  loop = border_is_loop old mesh h can.disc

  abbrev clean : Mesh V DE UE F
  clean = cleaned_up out.filled

  filled-mesh : IsMesh out.filled
  filled-mesh = subst IsMesh (sym out.fills.is) (filled_mesh old mesh can.closed (border_from old.shape h) (origin_of old.shape h) loop room out.fills.added)

  can_go : CanSwapRemove (cleaned_up out.filled).shape (origin_of old.shape h)
  can_go = can_swap is_half is_edge is_face old out.filled (cleaned_up out.filled) (origin_of old.shape h) (border_from old.shape h) out.fills refl loop

  clean-mesh : IsMesh (cleaned_up out.filled)
  clean-mesh = cleaned_up-mesh out.filled filled-mesh

  -- what is left of a simple mesh is simple
  pub stays_simple : IsSimple old.shape → IsSimple new.shape
  stays_simple simple =
      let filled = out.filled in
      let clean = cleaned_up out.filled in
      let v = origin_of old.shape h in
      let hole : IsSimple filled.shape =
      subst (λ (m : Mesh V DE UE F). IsSimple m.shape) (sym out.fills.is)
      (hole_simple old mesh h can simple (opened (edges_at old v) (faces_at old v) v) out.fills.directed_data out.fills.undirected_data out.fills.face_data) in
      let cleaned : IsSimple clean.shape = renamed_simple filled.shape clean.shape _ _ _ _ _ _ (cleaned_up-renamed filled filled-mesh) hole in
      let gone : IsSimple (vertex_taken_out clean v).shape =
      renamed_simple clean.shape (vertex_taken_out clean v).shape _ _ _ _ _ _
      (vertex-renamed clean.shape v clean-mesh.sound (can_swap_remove-out clean clean-mesh v can_go)) cleaned in
      subst (λ (m : Mesh V DE UE F). IsSimple m.shape) (sym out.is) gone
