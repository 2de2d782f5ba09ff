-- What lies inside a ring, with a vertex or without one, and the hole that it leaves.
use Rattle.std.proofs.Common.{◌≡◌, ◌≤◌, ◌==◌, ℕ, false, List, [], ◌∷◌, length, reverse, Some, None, sym, refl, ap, ◌∙◌, subst, arith, eq-eqb, Option, ◌<◌, ◌↔◌, true, ◌++◌, replicate}
use Rattle.std.proofs.lemmas.Bool.{cond-true, cond-false, ne_eqb}
use Rattle.std.proofs.lemmas.List.{length-reverse}
use Rattle.dcel_maps.specs.Borders.{IsVertexRing, StartsAlone, center_of}
use Rattle.dcel_maps.specs.EditLists.EditKind.{numbers_changed, words_joined}
use Rattle.dcel_maps.specs.Removals.{opened_with, Closed, Removal, gives_up_face, gives_up_vertex, is_this}
use Rattle.dcel_maps.specs.Renumbering.{cleaned, cleaned_up}
use Rattle.dcel_maps.specs.Shapes.{IsLive, IsMesh, IsSound, IsSphere, Mesh, Shape, face_count, map_of}
use Rattle.dcel_maps.specs.theory.Cycles.{IsCycle}
use Rattle.dcel_maps.specs.Walking.{ListsOnce}
use Rattle.dcel_maps.specs.edits.Fill.{loop_filled, ring_remeshed}
use Rattle.dcel_maps.proofs.removal.RingLists.{at_ring, lists-long, loop_item-live}
use Rattle.dcel_maps.proofs.words.Ascending.{any-ascending}
use Rattle.dcel_maps.proofs.words.Mapped.{any_stands, stands_any}
use Rattle.dcel_maps.specs.Words.{count_of}
use Rattle.dcel_maps.specs.Regions.{IsRing, LiesInside, inside, IsRegionRing, IsRim, LeadsPast}
use Rattle.dcel_maps.specs.Regions.IsRing.{of_region, of_vertex}
use Rattle.dcel_maps.proofs.removal.Hollows.{HollowOf, HollowBy}
use Rattle.dcel_maps.proofs.removal.RegionHoles.{region_hole, region_by}
use Rattle.dcel_maps.proofs.removal.VertexHoles.{vertex_hollow}
use Rattle.dcel_maps.proofs.words.Counts.{count-reverse}

-- the hole of a region
pub region_hollow : (s : Shape) → IsSound s → IsSphere s → (border edges faces : List ℕ) → IsRegionRing s border edges faces
    → (n : ℕ) → face_count s ≤ n → HollowOf s (opened_with edges faces None) (reverse border) n
region_hollow s sound sphere border edges faces ring n above =
    along (reverse border) ring.ring ring.whole ring.alone (omega (arith, ring.many, length-reverse border))
  where
    along : (w : List ℕ) → IsCycle (LeadsPast (map_of s).next edges) w → ListsOnce (IsRim s edges faces) w → StartsAlone s w → 3 ≤ length w
        → HollowOf s (opened_with edges faces None) w n
    along [] cycle whole alone many = absurd (omega (arith, many))
    along (p ∷ rest) cycle whole alone many = region_hole s sound sphere edges faces ring.region p rest cycle whole n above alone

-- and by which edits it comes
pub region_hollow_by : (s : Shape) → IsSound s → IsSphere s → (border edges faces : List ℕ) → IsRegionRing s border edges faces
    → (n : ℕ) → face_count s ≤ n
    → HollowBy s (opened_with edges faces None) (reverse border) n (replicate (length edges) words_joined ++ numbers_changed ∷ [])
region_hollow_by s sound sphere border edges faces ring n above =
    along (reverse border) ring.ring ring.whole ring.alone (omega (arith, ring.many, length-reverse border))
  where
    along : (w : List ℕ) → IsCycle (LeadsPast (map_of s).next edges) w → ListsOnce (IsRim s edges faces) w → StartsAlone s w → 3 ≤ length w
        → HollowBy s (opened_with edges faces None) w n (replicate (length edges) words_joined ++ numbers_changed ∷ [])
    along [] cycle whole alone many = absurd (omega (arith, many))
    along (p ∷ rest) cycle whole alone many = region_by s sound sphere edges faces ring.region p rest cycle whole n above alone

-- round a vertex lie as many edges as faces, and a region has a face more
pub as_many : {V DE UE F : Type 0} (m : Mesh V DE UE F) → IsMesh m → (border edges faces : List ℕ) → IsVertexRing m.shape border edges faces
    → (length edges == length faces) ≡ true
as_many m mesh border edges faces ring =
    let long = lists-long m mesh border (center_of m.shape border) ring.border_loop edges faces (ring.each_edge, ring.each_face) in
    eq-eqb (length edges) (length faces) (long.0 ∙ sym long.1)

pub one_more : (s : Shape) (border edges faces : List ℕ) → IsRegionRing s border edges faces → (length edges == length faces) ≡ false
one_more s border edges faces ring =
    let longer = ring.region.fewer in ne_eqb (length edges) (length faces) (λ same. omega (arith, same, longer))

-- what is inside: a vertex, or nothing
pub inside-vertex : {V DE UE F : Type 0} (m : Mesh V DE UE F) → IsMesh m → (border edges faces : List ℕ) → IsVertexRing m.shape border edges faces
    → inside m.shape border edges faces ≡ Some (center_of m.shape border)
inside-vertex m mesh border edges faces ring =
    cond-true (length edges == length faces) (Some (center_of m.shape border)) None (as_many m mesh border edges faces ring)

pub inside-none : (s : Shape) (border edges faces : List ℕ) → IsRegionRing s border edges faces → inside s border edges faces ≡ None
inside-none s border edges faces ring =
    cond-false (length edges == length faces) (Some (center_of s border)) None (one_more s border edges faces ring)

-- what lies inside a border leaves a hole
pub inside_hollow : (s : Shape) → IsSound s → IsSphere s → s.removal ≡ Closed → (border edges faces : List ℕ) (v : Option ℕ)
    → LiesInside s border edges faces v → (n : ℕ) → face_count s ≤ n → HollowOf s (opened_with edges faces v) (reverse border) n
inside_hollow s sound sphere closed border edges faces None lies n above = region_hollow s sound sphere border edges faces lies n above
inside_hollow s sound sphere closed border edges faces (Some v) lies n above =
    vertex_hollow s sound sphere closed border v n lies.0 (opened_with edges faces (Some v)) lies.1 above

pub inside_lies : {V DE UE F : Type 0} (m : Mesh V DE UE F) → IsMesh m → (border edges faces : List ℕ) → IsRing m.shape border edges faces
    → LiesInside m.shape border edges faces (inside m.shape border edges faces)
inside_lies m mesh border edges faces (of_vertex ring) =
    subst (LiesInside m.shape border edges faces) (sym (inside-vertex m mesh border edges faces ring)) (ring.border_loop, at_ring m.shape border edges faces ring)
inside_lies m mesh border edges faces (of_region ring) =
    subst (LiesInside m.shape border edges faces) (sym (inside-none m.shape border edges faces ring)) ring

-- a ring has three half edges or more, which are live
pub many_items : (s : Shape) (border edges faces : List ℕ) → IsRing s border edges faces → 3 ≤ length border
many_items s border edges faces (of_vertex ring) = ring.border_loop.many
many_items s border edges faces (of_region ring) = ring.many

pub ring_item-live : (s : Shape) → IsSound s → (border edges faces : List ℕ) → IsRing s border edges faces → (x : ℕ) → 0 < count_of x border → IsLive s x
ring_item-live s sound border edges faces (of_vertex ring) x found = loop_item-live s sound border (center_of s border) ring.border_loop x found
ring_item-live s sound border edges faces (of_region ring) x found = (ring.whole.no_other x (omega (arith, found, count-reverse x border))).live

-- what such a record gives up
pub opened_with-vertex : (edges faces : List ℕ) (v : Option ℕ) (w : ℕ) → gives_up_vertex (opened_with edges faces v) w ≡ is_this w v
unfolding gives_up_vertex
opened_with-vertex edges faces v w = refl

pub opened_with-faces : (edges faces : List ℕ) (v : Option ℕ) (f : ℕ) → (gives_up_face (opened_with edges faces v) f ≡ true) ↔ (0 < count_of f faces)
unfolding gives_up_face
opened_with-faces edges faces v f = (
  λ given. any_stands f faces (sym (any-ascending (λ g. g == f) faces) ∙ given),
  λ found. any-ascending (λ g. g == f) faces ∙ stands_any f faces found,
)

-- the record once a ring of three half edges or more is filled
pub filled-record : {V DE UE F : Type 0} (m : Mesh V DE UE F) (removal : Removal) (ring : List ℕ) → 3 ≤ length ring → (halves : List DE) (edges : List UE)
    (faces : List F) → (loop_filled m removal ring halves edges faces).shape.removal ≡ removal
filled-record m removal [] long halves edges faces = absurd (omega (arith, long))
filled-record m removal (p ∷ []) long halves edges faces = absurd (omega (arith, long))
filled-record m removal (p ∷ q ∷ []) long halves edges faces = absurd (omega (arith, long))
filled-record m removal (p ∷ q ∷ r ∷ rest) long halves edges faces = refl

-- a region gives up no vertex, and cleanup alone closes it
module _ {V DE UE F : Type 0} (m : Mesh V DE UE F) (border edges faces : List ℕ) (ring : IsRegionRing m.shape border edges faces)
    (halves : List DE) (more : List UE) (new_faces : List F) where
  abbrev filled : Mesh V DE UE F
  filled = ring_remeshed m border edges faces halves more new_faces

  region-record : filled.shape.removal ≡ opened_with edges faces None
  region-record =
      filled-record m (opened_with edges faces (inside m.shape border edges faces)) (reverse border)
      (omega (arith, ring.many, length-reverse border)) halves more new_faces
      ∙ ap (opened_with edges faces) (inside-none m.shape border edges faces ring)

  pub region-no_vertex : (v : ℕ) → gives_up_vertex filled.shape.removal v ≡ false
  unfolding gives_up_vertex
  region-no_vertex v = ap (λ r. gives_up_vertex r v) region-record

  pub region-closes : (cleaned_up filled).shape.removal ≡ Closed
  region-closes = ap cleaned region-record
