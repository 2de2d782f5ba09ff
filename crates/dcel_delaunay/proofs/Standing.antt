-- Points that are inserted one after another, in any order.
use Rattle.std.proofs.Common.{◌≡◌, ◌≢◌, ◌⊎◌, ◌∙◌, ◌+◌, ◌<◌, ◌≤◌, inl, inr, ℕ, zero, suc, List, [], ◌∷◌, ◌++◌, length, refl, sym, ap, subst, arith, slice_get, slice_index_or, slice_set, take, Option, None, Some, IfNone, IfSome}
use Rattle.std.proofs.lemmas.Bool.{cases_eq}
use Rattle.std.proofs.lemmas.List.{append-nil, append_assoc, length-append, length-set}
use Rattle.std.proofs.lemmas.List.Elements.{All-append, All-cons, All-nil}
use Rattle.std.proofs.lemmas.Option.{get_or_from_slice_get, none-some, same_Some, slice_get_within}
use Rattle.std.specs.List.{Contains}
use Rattle.dcel_maps.proofs.words.Counts.{count-append, count-other}
use Rattle.dcel_maps.specs.Shapes.{Mesh}
use Rattle.dcel_plane.specs.Plane.{point_at}
use Rattle.dcel_plane.specs.location.Nearest.{IsNearest}
use Rattle.dcel_predicates.specs.declared.point.Point.{Point}
use Rattle.dcel_delaunay.specs.Bulk.{AddsVertices, AnswersEach, AnswersSoFar, AnswersToo, FailsToInsertAll, ListsEach, StandsToo}
use Rattle.dcel_delaunay.specs.Triangulated.{IsNearestIn}
use Rattle.dcel_planar.specs.Outcomes.{FailsToInsert, IsWholeMesh}
use Rattle.dcel_planar.specs.Places.{HasPoint}
use Rattle.dcel_planar.specs.declared.errors.InsertionError.{InsertionError}
use Rattle.dcel_planar.specs.declared.errors.InsertionError.TheVariants.{OutOfMemory, OutOfRange, TooManyPoints, Unfinished}
use Rattle.dcel_planar.specs.declared.planar.PlanarMesh.{PlanarMesh}
use Rattle.dcel_delaunay.proofs.Items.{get_kept, get_other, get_set}

-- what is at a place of a list of which one item was replaced
replaced : {A : Type 0} (xs : List A) (k i : ℕ) (x y : A) → slice_get (slice_set xs k x) i ≡ Some y → i ≢ k → slice_get xs i ≡ Some y
replaced xs k i x y at other = sym (get_other xs k i x other) ∙ at

put : {A : Type 0} (xs : List A) (k : ℕ) (x y : A) → slice_get (slice_set xs k x) k ≡ Some y → Some x ≡ Some y
put xs k x y at =
    let within = slice_get_within (slice_set xs k x) k y at in let same = length-set xs k x in sym (get_set xs k x (omega (arith, within, same))) ∙ at

contains_at : {A : Type 0} (xs : List A) (k : ℕ) (x : A) → slice_get xs k ≡ Some x → Contains xs x
contains_at xs k x at = (k, slice_get_within xs k x at, get_or_from_slice_get xs k x x at)

-- a list that got nothing longer stays
none_more : (before added after : List Point) → after ≡ before ++ added → length after ≤ length before → after ≡ before
none_more before [] after is few = is ∙ append-nil before
none_more before (p ∷ r) after is few = absurd (let long = ap length is in let both = length-append before (p ∷ r) in omega (arith, long, both, few))

-- one item more is taken
take_more : (k : ℕ) (xs : List ℕ) → k < length xs → take (suc k) xs ≡ take k xs ++ slice_index_or xs k 0 ∷ []
take_more k [] below = absurd (omega (arith, below))
take_more zero (x ∷ r) below = refl
take_more (suc k) (x ∷ r) below = ap (λ s. x ∷ s) (take_more k r (omega (arith, below)))

pub take_next : (k : ℕ) (xs : List ℕ) → k < length xs → take (k + 1) xs ≡ take k xs ++ slice_index_or xs k 0 ∷ []
take_next k xs below = let more : k + 1 ≡ suc k = omega arith in ap (λ n. take n xs) more ∙ take_more k xs below

-- an answer is noted: what was answered before stays so, and this one is right
pub answers_too : {T : Type 0} (old new : Point → T → Type 0) (points : List Point) (before : List T) (k : ℕ) (a : T) (p : Point)
    → slice_get points k ≡ Some p → ((q : Point) (b : T) → old q b → new q b) → new p a → AnswersToo old new points k before (slice_set before k a)
answers_too old new points before k a p is stays right taken so_far = record {
  length_is = length-set before k a ∙ so_far.length_is;
  each = λ i q b among at put_at. elim (cases_eq i k) [
    | inl same ↦
        let point : p ≡ q = same_Some p q (sym is ∙ ap (slice_get points) (sym same) ∙ at) in
        let answer : a ≡ b = same_Some a b (put before k a b (ap (slice_get (slice_set before k a)) (sym same) ∙ put_at)) in
        subst (new q) answer (subst (λ r. new r a) point right)
    | inr other ↦
        stays q b (so_far.each i q b (omega (arith, among, count-append i taken (k ∷ []), count-other i k [] other)) at
        (replaced before k i a b put_at other))
  ];
}

-- there is no such number
pub answers_none_too : {T : Type 0} (right : Point → T → Type 0) (points : List Point) (before : List T) (k : ℕ) → slice_get points k ≡ None
    → AnswersToo right right points k before before
answers_none_too right points before k none taken so_far = record {
  length_is = so_far.length_is;
  each = λ i p a among at answer. elim (cases_eq i k) [
    | inl same ↦ absurd (none-some p (sym none ∙ ap (slice_get points) (sym same) ∙ at))
    | inr other ↦ so_far.each i p a (omega (arith, among, count-append i taken (k ∷ []), count-other i k [] other)) at answer
  ];
}

-- nothing is answered yet
pub answers_first : {T : Type 0} (right : Point → T → Type 0) (points : List Point) (answers : List T) → length answers ≡ length points
    → AnswersSoFar right points [] answers
answers_first right points answers long = record { length_is = long; each = λ i p a among at answer. absurd (omega (arith, among)) }

-- one more number is taken, and all are
pub answers_more : {T : Type 0} (old new : Point → T → Type 0) (points : List Point) (order : List ℕ) (before after : List T) (k : ℕ) → k < length order
    → AnswersSoFar old points (take k order) before → AnswersToo old new points (slice_index_or order k 0) before after
    → AnswersSoFar new points (take (k + 1) order) after
answers_more old new points order before after k below so_far too =
    subst (λ t. AnswersSoFar new points t after) (sym (take_next k order below)) (too (take k order) so_far)

pub answers_all : {T : Type 0} (right : Point → T → Type 0) (points : List Point) (order : List ℕ) (answers : List T) → ListsEach (length points) order
    → AnswersSoFar right points order answers → AnswersEach right points answers
answers_all right points order answers each so_far = record {
  length_is = so_far.length_is;
  each = λ i p a at answer. so_far.each i p a (omega (arith, each.once i (slice_get_within points i p at))) at answer;
}

-- a nearest vertex, if there is one
pub nearest_in : {DE UE F : Type 0} (m : Mesh Point DE UE F) (p : Point) (r : Option ℕ) → IfSome r (λ v. v < m.shape.vertices) → IfSome r (IsNearest (point_at m) m.shape p)
    → IfNone r (m.shape.vertices ≡ 0) → IsNearestIn m p r
nearest_in m p None below nearest none = none
nearest_in m p (Some v) below nearest none = (below, nearest)

module _ {DE UE F : Type 0} where
  has_stays : (old new : Mesh Point DE UE F) (given : List Point) (most : ℕ) (p : Point) (v : ℕ) → AddsVertices old new given most → HasPoint old p v → HasPoint new p v
  has_stays old new given most p v adds has =
      ap (λ (ps : List Point). slice_get ps v) adds.points ∙ get_kept old.vertex_data adds.added v p has

  -- nothing is added, one vertex is, or two times some
  pub adds_none : (old new : Mesh Point DE UE F) (given : List Point) (most : ℕ) → new.vertex_data ≡ old.vertex_data → AddsVertices old new given most
  adds_none old new given most same = record {
    added = [];
    points = same ∙ sym (append-nil old.vertex_data);
    from = All-nil (Contains given);
    few = omega arith;
  }

  pub adds_one : (old new : Mesh Point DE UE F) (given : List Point) (k : ℕ) (p : Point) → slice_get given k ≡ Some p
      → (new.vertex_data ≡ old.vertex_data) ⊎ (new.vertex_data ≡ old.vertex_data ++ p ∷ []) → AddsVertices old new given 1
  adds_one old new given k p at (inl same) = adds_none old new given 1 same
  adds_one old new given k p at (inr one) = record {
    added = p ∷ [];
    points = one;
    from = All-cons (Contains given) p [] (contains_at given k p at) (All-nil (Contains given));
    few = omega arith;
  }

  pub adds_both : (old mid new : Mesh Point DE UE F) (given : List Point) (k j : ℕ) → AddsVertices old mid given k → AddsVertices mid new given j
      → AddsVertices old new given (k + j)
  adds_both old mid new given k j first second = record {
    added = first.added ++ second.added;
    points = second.points ∙ ap (λ (ps : List Point). ps ++ second.added) first.points ∙ append_assoc old.vertex_data first.added second.added;
    from = All-append (Contains given) first.added second.added first.from second.from;
    few = omega (arith, length-append first.added second.added, first.few, second.few);
  }

  pub adds_more : (old new : Mesh Point DE UE F) (given : List Point) (k j : ℕ) → k ≤ j → AddsVertices old new given k → AddsVertices old new given j
  adds_more old new given k j less adds = record {
    added = adds.added;
    points = adds.points;
    from = adds.from;
    few = omega (arith, less, adds.few);
  }

  -- where no vertex is new, nothing has changed, if this is so of each of two insertions
  pub same_both : (old mid new : Mesh Point DE UE F) (given : List Point) (k j : ℕ) → AddsVertices old mid given k → AddsVertices mid new given j
      → (mid.vertex_data ≡ old.vertex_data → mid ≡ old) → (new.vertex_data ≡ mid.vertex_data → new ≡ mid) → new.vertex_data ≡ old.vertex_data → new ≡ old
  same_both old mid new given k j first second one other stays =
      let long = ap length stays in
      let early = ap length first.points in
      let early_both = length-append old.vertex_data first.added in
      let late = ap length second.points in
      let late_both = length-append mid.vertex_data second.added in
      other (none_more mid.vertex_data second.added new.vertex_data second.points (omega (arith, long, early, early_both)))
      ∙ one (none_more old.vertex_data first.added mid.vertex_data first.points (omega (arith, long, late, late_both)))

  -- the vertex of one more point is noted
  pub stands_too : (old new : Mesh Point DE UE F) (points : List Point) (before : List ℕ) (k v : ℕ) (p : Point) (most : ℕ)
      → slice_get points k ≡ Some p → AddsVertices old new points most → HasPoint new p v → StandsToo old new points k before (slice_set before k v)
  stands_too old new points before k v p most is adds has =
      answers_too (HasPoint old) (HasPoint new) points before k v p is (λ q w. has_stays old new points most q w adds) has

module _ {UE A : Type 0} (old new : PlanarMesh UE A) (p : Point) where
  -- an insertion that fails adds its point, or nothing
  pub failed_adds : (given : List Point) (k : ℕ) → slice_get given k ≡ Some p → (e : InsertionError) → FailsToInsert old new p e → AddsVertices old.dcel new.dcel given 1
  failed_adds given k at OutOfRange fails = absurd fails
  failed_adds given k at TooManyPoints fails = adds_none old.dcel new.dcel given 1 fails.1.points
  failed_adds given k at OutOfMemory fails = adds_none old.dcel new.dcel given 1 fails.0.points
  failed_adds given k at Unfinished fails = adds_one old.dcel new.dcel given k p at (inr fails.0)

  -- and so fails the insertion of all
  pub failed_all : (e : InsertionError) → FailsToInsert old new p e → FailsToInsertAll old new e
  failed_all OutOfRange fails = fails
  failed_all TooManyPoints fails = (fails.0, fails.2)
  failed_all OutOfMemory fails = fails.1
  failed_all Unfinished fails = fails.1

-- one of the insertions into a whole mesh fails
pub failed_later : {UE A : Type 0} (old mid new : PlanarMesh UE A) → IsWholeMesh mid → (e : InsertionError) → FailsToInsertAll mid new e → FailsToInsertAll old new e
failed_later old mid new whole OutOfRange fails = fails
failed_later old mid new whole TooManyPoints fails = fails
failed_later old mid new whole OutOfMemory fails = λ was. fails whole
failed_later old mid new whole Unfinished fails = fails
