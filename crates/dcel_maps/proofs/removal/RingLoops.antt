-- What the loops of the test need: one lemma for an item that passes, one for an item that fails, and one for the end.
use Rattle.std.proofs.Common.{◌≡◌, ◌≢◌, ◌↔◌, inl, inr, ◌+◌, ◌-◌, ◌/◌, ◌<◌, ◌≤◌, ℕ, suc, List, [], ◌∷◌, ◌++◌, reverse, sym, ap, ◌∙◌, subst, arith}
use Rattle.std.proofs.lemmas.List.{reverse-append}
use Rattle.std.proofs.lemmas.Bool.{cases_eq}
use Rattle.dcel_fixed.specs.HalfEdges.{rev}
use Rattle.dcel_maps.specs.Shapes.{IsLive, IsMesh, Mesh, Shape, face_anchor, face_count, next_of, origin_of}
use Rattle.dcel_maps.specs.Walking.{in_mesh, walk_from}
use Rattle.dcel_maps.proofs.walks.Items.{ComesFirst, first_item, none_left}
use Rattle.dcel_maps.specs.Words.{count_of, word_of}
use Rattle.dcel_maps.proofs.walks.Faces.{anchor-lists, word-lists}
use Rattle.dcel_maps.proofs.words.Counts.{count-equal, count-later, count-other, count-same, first_or_later, stands_or_not}
use Rattle.dcel_maps.specs.theory.RingTests.{EachOf, GoesAlong, StepsTo, past_listed}
use Rattle.dcel_maps.proofs.removal.Passing.{past-step}

module _ (P : ℕ → Type 0) (whole left : List ℕ) (same : EachOf P left ↔ EachOf P whole) where
  -- an item has it: the others decide
  pub each_goes_on : (x : ℕ) (after : List ℕ) → left ≡ x ∷ after → P x → EachOf P after ↔ EachOf P whole
  each_goes_on x after is has = (
    λ rest. same.0 (λ k found. elim (first_or_later k x after (subst (λ w. 0 < count_of k w) is found)) [
      | inl here ↦ subst P (sym here) has
      | inr later ↦ rest k later
    ]),
    λ all k found. same.1 all k (subst (λ w. 0 < count_of k w) (sym is) (count-later k x after found)),
  )

  -- an item doesn't
  pub each_fails : (x : ℕ) (after : List ℕ) → left ≡ x ∷ after → ¬ P x → ¬ EachOf P whole
  each_fails x after is lacks all = lacks (same.1 all x (subst (λ w. 0 < count_of x w) (sym is) (omega (arith, count-same x after))))

  -- none is left
  pub each_ends : left ≡ [] → EachOf P whole
  each_ends none = same.0 (λ k found. absurd (let here = subst (λ w. 0 < count_of k w) none found in omega (arith, here)))

-- no item stands twice
abbrev pub OnceEach : List ℕ → Type 0
OnceEach w = (k : ℕ) → count_of k w ≤ 1

module _ (whole left : List ℕ) (same : OnceEach left ↔ OnceEach whole) where
  pub once_goes_on : (x : ℕ) (after : List ℕ) → left ≡ x ∷ after → ¬ (0 < count_of x after) → OnceEach after ↔ OnceEach whole
  once_goes_on x after is fresh = (
    λ rest. same.0 (λ k. let counts = ap (count_of k) is in elim (cases_eq k x) [
      | inl here ↦
          let none : count_of k after ≡ 0 = elim (stands_or_not k after) [ inl found ↦ absurd (fresh (subst (λ z. 0 < count_of z after) here found)) | inr none ↦ none ] in
          omega (arith, counts, count-equal k x after here, none)
      | inr other ↦ omega (arith, counts, count-other k x after other, rest k)
    ]),
    λ all k. let counts = ap (count_of k) is in let one = same.1 all k in omega (arith, one, counts),
  )

  pub once_fails : (x : ℕ) (after : List ℕ) → left ≡ x ∷ after → 0 < count_of x after → ¬ OnceEach whole
  once_fails x after is found all = let one = same.1 all x in let counts = ap (count_of x) is in omega (arith, one, counts, count-same x after, found)

-- the walk past the edges: what is still to pass leads where the whole does
module _ (next : ℕ → ℕ) (edges : List ℕ) where
  pub past_goes_on : (count done j : ℕ) → done < count → 0 < count_of (j / 2) edges
      → past_listed next edges (count - done) j ≡ past_listed next edges (count - (done + 1)) (next (rev j))
  past_goes_on count done j below found =
      let more : count - done ≡ suc (count - (done + 1)) = omega (arith, below) in
      ap (λ n. past_listed next edges n j) more ∙ past-step next edges (count - (done + 1)) j found

module _ (s : Shape) (edges : List ℕ) (apex e : ℕ) where
  pub record IsAlong (p : ℕ) (others : List ℕ) (x : ℕ) (left : List ℕ) : Type 0 where
    pub live : IsLive s x
    pub same : GoesAlong s edges apex x (reverse left) e ↔ GoesAlong s edges apex p (reverse others) e

  pub along_begins : (p : ℕ) (others : List ℕ) → IsLive s p → IsAlong p others p others
  along_begins p others live = record { live = live; same = ((λ a. a), (λ a. a)) }

  module _ (p : ℕ) (others : List ℕ) (x : ℕ) (left : List ℕ) (a : IsAlong p others x left) (k : ℕ) (before : List ℕ) (is : left ≡ before ++ k ∷ []) where
    turned : reverse left ≡ k ∷ reverse before
    turned = ap reverse is ∙ reverse-append before (k ∷ [])

    pub along_goes_on : IsLive s k → StepsTo (next_of s) edges x k → origin_of s k ≢ apex → IsAlong p others k before
    along_goes_on live to apart = record {
      live = live;
      same = (
        λ rest. a.same.0 (subst (λ (w : List ℕ). GoesAlong s edges apex x w e) (sym turned) (
          (to, rest.0),
          (λ y found. elim (first_or_later y k (reverse before) found) [
            | inl here ↦ λ at. apart (ap (origin_of s) (sym here) ∙ at)
            | inr later ↦ rest.1 y later
          ]),
        )),
        λ all.
            let whole = subst (λ (w : List ℕ). GoesAlong s edges apex x w e) turned (a.same.1 all) in
            (whole.0.1, λ y found. whole.1 y (count-later y k (reverse before) found)),
      );
    }

    pub along_fails : (StepsTo (next_of s) edges x k → origin_of s k ≢ apex → ⊥) → ¬ GoesAlong s edges apex p (reverse others) e
    along_fails lacks all =
        let whole = subst (λ (w : List ℕ). GoesAlong s edges apex x w e) turned (a.same.1 all) in
        lacks whole.0.0 (whole.1 k (omega (arith, count-same k (reverse before))))

  pub along_ends : (p : ℕ) (others : List ℕ) (x : ℕ) (left : List ℕ) → IsAlong p others x left → left ≡ []
      → StepsTo (next_of s) edges x e ↔ GoesAlong s edges apex p (reverse others) e
  along_ends p others x left a none = (
    λ to. a.same.0 (subst (λ (w : List ℕ). GoesAlong s edges apex x (reverse w) e) (sym none) (to, λ y found. absurd (omega (arith, found)))),
    λ all. (subst (λ (w : List ℕ). GoesAlong s edges apex x (reverse w) e) none (a.same.1 all)).0,
  )

-- what the walk from a face's anchor lists is its word
pub walk_covers : {V DE UE F : Type 0} (m : Mesh V DE UE F) → IsMesh m → (f : ℕ) → f < face_count m.shape → (P : ℕ → Type 0)
    → EachOf P (walk_from m.shape (next_of m.shape) (face_anchor m f)) ↔ EachOf P (word_of m.shape.words f)
walk_covers m mesh f below P =
    let walk = anchor-lists mesh f below in
    let word = word-lists mesh.sound f in (
      λ all k found. all k (let one = walk.each k (word.no_other k found) in omega (arith, one)),
      λ all k found. all k (let one = word.each k (walk.no_other k found) in omega (arith, one)),
    )

pub past_out : (next : ℕ → ℕ) (edges : List ℕ) (fuel j : ℕ) → fuel ≡ 0 → past_listed next edges fuel j ≡ j
unfolding past_listed
past_out next edges fuel j none = ap (λ n. past_listed next edges n j) none

-- a walk is gone over: the items so far had the property
pub record IsCovering {V DE UE F : Type 0} (m : Mesh V DE UE F) (P : ℕ → Type 0) (whole : List ℕ) (items : List (Mesh V DE UE F × ℕ)) : Type 0 where
  pub left : List ℕ
  pub items_are : items ≡ in_mesh m left
  pub same : EachOf P left ↔ EachOf P whole

module _ {V DE UE F : Type 0} (m : Mesh V DE UE F) (P : ℕ → Type 0) (whole : List ℕ) where
  pub covering_begins : (items : List (Mesh V DE UE F × ℕ)) → items ≡ in_mesh m whole → IsCovering m P whole items
  covering_begins items are = record { left = whole; items_are = are; same = ((λ a. a), (λ a. a)) }

  module _ (items more : List (Mesh V DE UE F × ℕ)) (n : Mesh V DE UE F) (k : ℕ) (s : IsCovering m P whole items) (e : items ≡ (n, k) ∷ more) where
    came : ComesFirst m n k more s.left
    came = first_item m n k more s.left (sym e ∙ s.items_are)

    pub covering_goes_on : P k → IsCovering m P whole more
    covering_goes_on has = record { left = came.rest; items_are = came.more_are; same = each_goes_on P whole s.left s.same k came.rest came.left_is has }

    pub covering_fails : ¬ P k → ¬ EachOf P whole
    covering_fails lacks = each_fails P whole s.left s.same k came.rest came.left_is lacks

  pub covering_ends : (items : List (Mesh V DE UE F × ℕ)) → IsCovering m P whole items → items ≡ [] → EachOf P whole
  covering_ends items s none = each_ends P whole s.left s.same (none_left m s.left (sym none ∙ s.items_are))
