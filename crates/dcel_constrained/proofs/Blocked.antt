-- Marked edges in the way of a segment, listed one after another.
use Rattle.std.proofs.Common.{◌≡◌, ◌≢◌, ◌↔◌, inl, inr, ℕ, ◌+◌, ◌/◌, ◌<◌, ◌≤◌, ℤ, pos, ◌<ℤ◌, Bool, IsTrue, List, [], ◌∷◌, refl, sym, ap, ◌∙◌, subst, arith}
use Rattle.std.proofs.lemmas.Bool.{cases_eq}
use Rattle.dcel_fixed.specs.HalfEdges.{rev}
use Rattle.dcel_fixed.proofs.Halves.{rev-rev}
use Rattle.dcel_predicates.specs.declared.point.Point.{Point}
use Rattle.dcel_maps.specs.Shapes.{IsLive, IsMesh, Mesh, Shape, end_of, origin_of}
use Rattle.dcel_maps.specs.Words.{count_of}
use Rattle.dcel_maps.proofs.words.Counts.{count-append, count-other, count-same, stands_or_not}
use Rattle.dcel_plane.specs.Plane.{point_at}
use Rattle.dcel_plane.specs.segments.Segments.{Crosses, orient2d_by}
use Rattle.dcel_planar.specs.Outcomes.{IsWholeMesh}
use Rattle.dcel_planar.specs.declared.planar.PlanarMesh.{PlanarMesh}
use Rattle.dcel_regions.specs.Marked.{IsMarked}
use Rattle.dcel_regions.specs.declared.mark.Mark.{Mark}
use Rattle.dcel_constrained.specs.Blocking.{Blocks, FailsToAdd, FinishesOnly, ListsBlocking, NotesBlocking}
use Rattle.dcel_constrained.specs.Channels.{HasVertices}
use Rattle.dcel_constrained.specs.Constraints.{IsFreeWay}
use Rattle.dcel_constrained.specs.Soundness.{CanAdd}
use Rattle.dcel_constrained.specs.declared.errors.ConstraintError.{ConstraintError}
use Rattle.dcel_constrained.specs.declared.errors.ConstraintError.TheVariants.{Blocked, NoVertex, OutOfMemory}
use Rattle.dcel_constrained.proofs.Laid.{same_edge}
use Rattle.dcel_constrained.proofs.Marking.{marked_below}

-- where a half edge starts that is known by another name
pub start_told : {V DE UE F : Type 0} (m : Mesh V DE UE F) (h : ℕ) (n : Mesh V DE UE F) (k x y : ℕ) → n ≡ m → k ≡ h → y ≡ origin_of n.shape k → x ≡ y → x ≡ origin_of m.shape h
start_told {V} {DE} {UE} {F} m h n k x y mesh number start is = is ∙ start ∙ ap (λ (l : Mesh V DE UE F). origin_of l.shape k) mesh ∙ ap (origin_of m.shape) number

-- what crosses by its signs
pub crosses_by : (at : ℕ → Point) (s : Shape) (v w h a b : ℕ) (first second : Bool) (r l f n : ℤ) → IsLive s h → a ≡ origin_of s h → b ≡ end_of s h
    → r ≡ orient2d_by at v w a → l ≡ orient2d_by at v w b → f ≡ orient2d_by at a b w → n ≡ orient2d_by at a b v → IsTrue first ↔ ((r <ℤ pos 0) × (pos 0 <ℤ l))
    → IsTrue first → IsTrue second ↔ ((f <ℤ pos 0) × (pos 0 <ℤ n)) → IsTrue second ↔ Crosses at s v w h
crosses_by at s v w h a b first second r l f n live is_a is_b is_r is_l is_f is_n split so told = (
  λ yes.
      (let one = split.0 so in
      let two = told.0 yes in
      record {
        live = live;
        right = subst (λ (i : ℕ). orient2d_by at v w i <ℤ pos 0) is_a (subst (λ (z : ℤ). z <ℤ pos 0) is_r one.0);
        left = subst (λ (i : ℕ). pos 0 <ℤ orient2d_by at v w i) is_b (subst (λ (z : ℤ). pos 0 <ℤ z) is_l one.1);
        near =
            subst (λ (i : ℕ). pos 0 <ℤ orient2d_by at i (end_of s h) v) is_a
            (subst (λ (i : ℕ). pos 0 <ℤ orient2d_by at a i v) is_b (subst (λ (z : ℤ). pos 0 <ℤ z) is_n two.1));
        far =
            subst (λ (i : ℕ). orient2d_by at i (end_of s h) w <ℤ pos 0) is_a
            (subst (λ (i : ℕ). orient2d_by at a i w <ℤ pos 0) is_b (subst (λ (z : ℤ). z <ℤ pos 0) is_f two.0));
      }),
  λ crosses. told.1 (
    subst (λ (z : ℤ). z <ℤ pos 0) (sym is_f)
        (subst (λ (i : ℕ). orient2d_by at a i w <ℤ pos 0) (sym is_b) (subst (λ (i : ℕ). orient2d_by at i (end_of s h) w <ℤ pos 0) (sym is_a) crosses.far)),
    subst (λ (z : ℤ). pos 0 <ℤ z) (sym is_n)
        (subst (λ (i : ℕ). pos 0 <ℤ orient2d_by at a i v) (sym is_b) (subst (λ (i : ℕ). pos 0 <ℤ orient2d_by at i (end_of s h) v) (sym is_a) crosses.near)),
  ),
)

-- what doesn't
pub crosses_not : (at : ℕ → Point) (s : Shape) (v w h a b : ℕ) (first : Bool) (r l : ℤ) → a ≡ origin_of s h → b ≡ end_of s h → r ≡ orient2d_by at v w a
    → l ≡ orient2d_by at v w b → IsTrue first ↔ ((r <ℤ pos 0) × (pos 0 <ℤ l)) → ¬ IsTrue first → ¬ Crosses at s v w h
crosses_not at s v w h a b first r l is_a is_b is_r is_l split not crosses = not (split.1 (
  subst (λ (z : ℤ). z <ℤ pos 0) (sym is_r) (subst (λ (i : ℕ). orient2d_by at v w i <ℤ pos 0) (sym is_a) crosses.right),
  subst (λ (z : ℤ). pos 0 <ℤ z) (sym is_l) (subst (λ (i : ℕ). pos 0 <ℤ orient2d_by at v w i) (sym is_b) crosses.left),
))

module _ {DE F : Type 0} (m : Mesh Point DE Mark F) (v w : ℕ) where
  -- by its first half, or by its second one
  pub blocks_by : (u h : ℕ) → h / 2 ≡ u → IsMarked m u → Crosses (point_at m) m.shape v w h → Blocks m v w u
  blocks_by u h edge marked crosses = record { marked = marked; half = h; edge = edge; crosses = crosses }

  pub blocks_other : (u h : ℕ) → h / 2 ≡ u → ¬ Crosses (point_at m) m.shape v w h → Blocks m v w u → Crosses (point_at m) m.shape v w (rev h)
  blocks_other u h edge not blocks = elim (same_edge h blocks.half (blocks.edge ∙ sym edge)) [
    | inl is ↦ absurd (not (subst (Crosses (point_at m) m.shape v w) (sym is) blocks.crosses))
    | inr is ↦ subst (Crosses (point_at m) m.shape v w) (back h blocks.half is) blocks.crosses
  ]
    where
      back : (h k : ℕ) → h ≡ rev k → k ≡ rev h
      back h k is = sym (ap rev is ∙ rev-rev k)

  -- those with a number below n are listed
  pub record ListedTo (n : ℕ) (list : List ℕ) : Type 0 where
    pub once : (u : ℕ) → u < n → Blocks m v w u → count_of u list ≡ 1
    pub no_other : (u : ℕ) → 0 < count_of u list → (u < n) × Blocks m v w u

  pub listed_none : ListedTo 0 []
  listed_none = record { once = λ u below blocks. absurd (omega (arith, below)); no_other = λ u found. absurd (omega (arith, found)) }

  pub listed_more : (n : ℕ) (before after : List ℕ) → ListedTo n before → NotesBlocking m v w n before after → ListedTo (n + 1) after
  listed_more n before after listed (inl noted) = record {
    once = λ u below blocks. (let e = ap (count_of u) noted.1 in let a = count-append u before (n ∷ []) in elim (cases_eq u n) [
      | inl is ↦
          (let one = subst (λ (i : ℕ). count_of i (n ∷ []) ≡ 1) (sym is) (count-same n []) in
          let none : count_of u before ≡ 0 = elim (stands_or_not u before) [
            | inl there ↦ absurd (let more = (listed.no_other u there).0 in omega (arith, more, is))
            | inr none ↦ none
          ] in
          omega (arith, e, a, one, none))
      | inr differ ↦ (let one = listed.once u (omega (arith, below, differ)) blocks in let none = count-other u n [] differ in omega (arith, e, a, one, none))
    ]);
    no_other = λ u found. (let e = ap (count_of u) noted.1 in let a = count-append u before (n ∷ []) in elim (cases_eq u n) [
      | inl is ↦ (omega (arith, is), subst (Blocks m v w) (sym is) noted.0)
      | inr differ ↦
          (let there = listed.no_other u (let none = count-other u n [] differ in omega (arith, e, a, none, found)) in
          let less = there.0 in
          (omega (arith, less), there.1))
    ]);
  }
  listed_more n before after listed (inr not) = record {
    once = λ u below blocks. (let e = ap (count_of u) not.1 in elim (cases_eq u n) [
      | inl is ↦ absurd (not.0 (subst (Blocks m v w) is blocks))
      | inr differ ↦ e ∙ listed.once u (omega (arith, below, differ)) blocks
    ]);
    no_other = λ u found. (let e = ap (count_of u) not.1 in
        let there = listed.no_other u (omega (arith, e, found)) in
        let less = there.0 in
        (omega (arith, less), there.1));
  }

  pub listed_all : IsMesh m → (n : ℕ) (list : List ℕ) → m.shape.edges ≤ n → ListedTo n list → ListsBlocking m v w list
  listed_all mesh n list all listed = record {
    once = λ u blocks. listed.once u (let below = marked_below m mesh u blocks.marked in omega (arith, below, all)) blocks;
    no_other = λ u found. (listed.no_other u found).1;
  }

  -- where none is in the way, the segment can be added
  pub some_block : HasVertices m.shape v w → ¬ CanAdd m v w → (list : List ℕ) → ListsBlocking m v w list → list ≢ []
  some_block ends not list lists none = not (record { from = ends.from; to = ends.to; free = free })
    where
      free : IsFreeWay m v w
      free h crosses marked =
          let one = lists.once (h / 2) (blocks_by (h / 2) h refl marked crosses) in
          let zero = ap (count_of (h / 2)) none in
          absurd (omega (arith, one, zero))

  -- and one that is
  pub a_block : (list : List ℕ) → list ≢ [] → ListsBlocking m v w list → (u : ℕ) × Blocks m v w u
  a_block [] some lists = absurd (some refl)
  a_block (u ∷ rest) some lists = (u, lists.no_other u (omega (arith, count-same u rest)))

-- after what was left undone is done
module _ {A : Type 0} (old mid : PlanarMesh Mark A) (points : mid.dcel.vertex_data ≡ old.dcel.vertex_data) (same : IsWholeMesh old → mid.dcel ≡ old.dcel)
    (only : (u : ℕ) → IsMarked mid.dcel u → IsMarked old.dcel u) where
  pub finishes_only : IsWholeMesh mid → FinishesOnly old mid
  finishes_only whole = record { keeps = record { points = points; same = same }; no_other = λ another. another.2 (only another.0 another.1); whole = whole }

  pub blocked_since : (v w : ℕ) (e : ConstraintError A) → FailsToAdd mid mid v w e → FailsToAdd old mid v w e
  blocked_since v w NoVertex fails = (fails.0, finishes_only fails.1.whole)
  blocked_since v w (Blocked edges) fails = (fails.0, fails.1, fails.2, finishes_only fails.3.whole)
  blocked_since v w OutOfMemory fails = λ another. absurd (another.2 (only another.0 another.1))
