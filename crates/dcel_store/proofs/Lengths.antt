-- How long the vectors of a `Store` are, the lists that they stand for, and lists of data.
use Rattle.std.proofs.Common.{◌≡◌, suc, ◌*◌, List, [], ◌∷◌, length, vec_capacity, vec_len, arith, refl, ap}
use Rattle.std.proofs.lemmas.List.{length-map}
use Rattle.std.specs.List.{AllZip}
use Rattle.dcel_store.specs.declared.EdgeData.{EdgeData}
use Rattle.dcel_store.specs.declared.Store.TheInside.{Inside}
use Rattle.dcel_store.specs.EdgeLists.{halves_data}
use Rattle.dcel_store.specs.Vectors.{lists_of, VectorsAgree}
use Rattle.dcel_store.specs.Lists.{LengthsAgree}

pub lengths_agree : {V DE UE F A : Type 0} (store : Inside V DE UE F A) → VectorsAgree store → LengthsAgree (lists_of store)
lengths_agree store agree = record {
  of_vertex_anchors = simp length-map;
  of_next = omega (arith, agree.next_length, store.next.ok, store.undirected_data.ok);
  of_prev = omega (arith, agree.prev_length, agree.next_length, store.prev.ok, store.next.ok);
  of_origin = omega (arith, agree.origin_length, agree.next_length, store.origin.ok, store.next.ok);
  of_face = omega (arith, agree.face_length, agree.next_length, store.face.ok, store.next.ok);
  of_directed_data = omega (arith, agree.directed_length, agree.next_length, store.directed_data.ok, store.next.ok);
  of_face_anchors = simp length-map;
}

-- vectors with as many items as those of a store, where that of the edges' data has no place left: so each of the others has places enough
pub agree_as_long : {V DE UE F A V' DE' UE' F' A' : Type 0} (old : Inside V DE UE F A) (new : Inside V' DE' UE' F' A') → VectorsAgree old
    → vec_len new.next ≡ vec_len old.next → vec_len new.prev ≡ vec_len old.prev → vec_len new.origin ≡ vec_len old.origin → vec_len new.face ≡ vec_len old.face
    → vec_len new.directed_data ≡ vec_len old.directed_data → vec_len new.undirected_data ≡ vec_len old.undirected_data
    → vec_capacity new.undirected_data ≡ vec_len new.undirected_data → VectorsAgree new
agree_as_long old new agree next prev origin face directed undirected exact = record {
  next_length = omega (arith, agree.next_length, next, undirected);
  prev_length = omega (arith, agree.prev_length, prev, undirected);
  origin_length = omega (arith, agree.origin_length, origin, undirected);
  face_length = omega (arith, agree.face_length, face, undirected);
  directed_length = omega (arith, agree.directed_length, directed, undirected);
  next_places = omega (arith, agree.next_length, next, undirected, exact, new.next.ok);
  prev_places = omega (arith, agree.prev_length, prev, undirected, exact, new.prev.ok);
  origin_places = omega (arith, agree.origin_length, origin, undirected, exact, new.origin.ok);
  face_places = omega (arith, agree.face_length, face, undirected, exact, new.face.ok);
  directed_places = omega (arith, agree.directed_length, directed, undirected, exact, new.directed_data.ok);
}

-- there are as many answers as items
pub as_many : {X Y : Type 0} (R : X → Y → Type 0) (xs : List X) (ys : List Y) → AllZip R xs ys → length ys ≡ length xs
as_many R [] [] zips = refl
as_many R [] (y ∷ ys) zips = absurd zips
as_many R (x ∷ xs) [] zips = absurd zips
as_many R (x ∷ xs) (y ∷ ys) zips = ap suc (as_many R xs ys zips.1)

pub length-halves_data : {DE UE : Type 0} (edges : List (EdgeData DE UE)) → length (halves_data edges) ≡ 2 * length edges
length-halves_data [] = refl
length-halves_data (e ∷ rest) = omega (arith, length-halves_data rest)
