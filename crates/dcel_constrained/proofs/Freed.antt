-- The marked edges of a vertex freed, one after another.
use Rattle.std.proofs.Common.{◌≡◌, ℕ, zero, suc, ◌+◌, ◌/◌, ◌<◌, List, [], ◌∷◌, ◌++◌, slice_set, Option, None, Some, cond, count_by, refl, sym, ap, ◌∙◌, subst, arith}
use Rattle.std.specs.List.{slice_get}
use Rattle.std.proofs.lemmas.List.Sums.{sum_by-cons}
use Rattle.std.proofs.lemmas.Option.{none-some, same_Some}
use Rattle.dcel_predicates.specs.declared.point.Point.{Point}
use Rattle.dcel_maps.specs.Borders.{IsEdgeAt}
use Rattle.dcel_maps.specs.edits.Data.{undirected_edge_updated}
use Rattle.dcel_maps.specs.Shapes.{AnchorsVertex, IsLive, IsMesh, Mesh, Shape, origin_of, vertex_anchor}
use Rattle.dcel_maps.specs.Walking.{IsOutEdge, ccw_of, in_mesh, walk_of}
use Rattle.dcel_maps.proofs.walks.Turning.{walk-out_edges}
use Rattle.dcel_regions.specs.Marked.{IsMarked, is_constraint}
use Rattle.dcel_regions.specs.declared.mark.Mark.{Mark}
use Rattle.dcel_regions.specs.declared.mark.Mark.TheVariants.{Constraint, Free}
use Rattle.dcel_planar.specs.Leaving.{IsOutlined}
use Rattle.dcel_planar.proofs.Searching.{IsSearching}
use Rattle.dcel_constrained.specs.Removing.{FreesEdgesOf, HasNoConstraintAt, IsMarkedAt}
use Rattle.dcel_constrained.specs.Soundness.{IsConstrained, constraint_count}
use Rattle.dcel_constrained.proofs.Marking.{constrained_less, freed_now, marked_below, outlined_then, stays_marked}

-- a mark counts one
mark_counts : (marks : List Mark) → count_by is_constraint (Constraint ∷ marks) ≡ 1 + count_by is_constraint marks
mark_counts marks = sum_by-cons (λ mark. cond (is_constraint mark) 1 0) Constraint marks

freed_first : (marks : List Mark) → count_by is_constraint (slice_set (Constraint ∷ marks) 0 Free) ≡ count_by is_constraint marks
freed_first marks = refl

freed_later : (marks : List Mark) (u : ℕ) → count_by is_constraint (slice_set (Constraint ∷ marks) (suc u) Free) ≡ 1 + count_by is_constraint (slice_set marks u Free)
freed_later marks u = mark_counts (slice_set marks u Free)

-- one mark less
one_less : (marks : List Mark) (u : ℕ) → slice_get marks u ≡ Some Constraint → count_by is_constraint (slice_set marks u Free) < count_by is_constraint marks
one_less [] u is = absurd (cc)
one_less (Free ∷ marks) zero is = absurd (cc)
one_less (Constraint ∷ marks) zero is = omega (arith, freed_first marks, mark_counts marks)
one_less (Free ∷ marks) (suc u) is = one_less marks u is
one_less (Constraint ∷ marks) (suc u) is = omega (arith, one_less marks u is, freed_later marks u, mark_counts marks)

module _ {DE F : Type 0} where
  pub fewer_marks : (m new : Mesh Point DE Mark F) (u : ℕ) → new ≡ undirected_edge_updated m u Free → IsMarked m u → constraint_count new < constraint_count m
  fewer_marks m new u is marked =
      subst (λ (k : Mesh Point DE Mark F). constraint_count k < constraint_count m) (sym is) (one_less m.undirected_data u marked)

  -- what is kept of the mesh m, its list and its outer face
  pub record IsFreeing (m : Mesh Point DE Mark F) (v : ℕ) (n : Mesh Point DE Mark F) (due : List ℕ) : Type 0 where
    pub mesh : IsMesh n
    pub frees : FreesEdgesOf m n v
    pub sound : IsConstrained n due
    pub hull : IsOutlined n

  -- and the half edge of v that comes next
  pub record IsFreeingFrom (m : Mesh Point DE Mark F) (v : ℕ) (n : Mesh Point DE Mark F) (due : List ℕ) (half : ℕ) : Type 0 where
    pub way : IsFreeing m v n due
    pub out : IsOutEdge n.shape v half

  pub freeing_begins : (m : Mesh Point DE Mark F) (v : ℕ) (due : List ℕ) → IsMesh m → IsConstrained m due → IsOutlined m → IsFreeing m v m due
  freeing_begins m v due mesh sound hull = record {
    mesh = mesh;
    frees = record { shape = refl; points = refl; only = λ u marked. marked; others = λ u marked off. marked };
    sound = sound;
    hull = hull;
  }

  pub freeing_goes_on : (m : Mesh Point DE Mark F) (v : ℕ) (n new : Mesh Point DE Mark F) (due items : List ℕ) (u : ℕ) → IsFreeing m v n due → IsMarkedAt n v u
      → new ≡ undirected_edge_updated n u Free → IsMesh new → items ≡ due ++ u ∷ [] → IsFreeing m v new items
  freeing_goes_on m v n new due items u way at edit mesh more =
      subst (λ (k : Mesh Point DE Mark F). IsFreeing m v k items) (sym edit)
      (subst (λ (l : List ℕ). IsFreeing m v (undirected_edge_updated n u Free) l) (sym more) (record {
        mesh = subst (λ (k : Mesh Point DE Mark F). IsMesh k) edit mesh;
        frees = record {
          shape = way.frees.shape;
          points = way.frees.points;
          only = λ w marked. way.frees.only w (freed_now n u w marked);
          others = λ w marked off.
              stays_marked n u Free w
              (λ is. off (subst (λ (k : ℕ). IsEdgeAt m.shape v k) (sym is) (subst (λ (s : Shape). IsEdgeAt s v u) way.frees.shape at.at)))
              (way.frees.others w marked off);
        };
        sound = constrained_less n u due way.sound;
        hull = outlined_then n u Free way.hull;
      }))

  -- a marked edge came, and it is the next one to go on from
  module _ (m n : Mesh Point DE Mark F) (v half h : ℕ) (due : List ℕ) (from : IsFreeingFrom m v n due half) (out : IsOutEdge n.shape (origin_of n.shape half) h) (marked : IsMarked n (h / 2)) where
    abbrev out_of_v : IsOutEdge n.shape v h
    out_of_v = subst (λ (i : ℕ). IsOutEdge n.shape i h) from.out.start out

    pub comes_below : IsMesh n → h / 2 < n.shape.edges
    comes_below mesh = marked_below n mesh (h / 2) marked

    pub comes_next : (new : Mesh Point DE Mark F) (items : List ℕ) (u : ℕ) → u ≡ h / 2 → new ≡ undirected_edge_updated n u Free → IsMesh new → items ≡ due ++ u ∷ []
        → IsFreeingFrom m v new items h
    comes_next new items u is edit mesh more = record {
      way = freeing_goes_on m v n new due items u from.way (record { at = record { half = h; out = out_of_v; is = sym is }; marked = subst (λ (i : ℕ). IsMarked n i) (sym is) marked }) edit mesh more;
      out = subst (λ (k : Mesh Point DE Mark F). IsOutEdge k.shape v h) (sym edit) out_of_v;
    }

  pub none_left : (m n : Mesh Point DE Mark F) (v half : ℕ) (due : List ℕ) → IsFreeingFrom m v n due half → HasNoConstraintAt n (origin_of n.shape half) → HasNoConstraintAt n v
  none_left m n v half due from none = subst (HasNoConstraintAt n) from.out.start none

  -- a vertex without an anchor has no constraint
  bare_free : (m : Mesh Point DE Mark F) (v : ℕ) (anchor : Option ℕ) → None ≡ anchor → AnchorsVertex m.shape v anchor → HasNoConstraintAt m v
  bare_free m v None none bare = λ h out marked. bare h out.live out.start
  bare_free m v (Some h) none anchored = absurd (none-some h none)

  pub bare_told : (m lent : Mesh Point DE Mark F) (v w : ℕ) → lent ≡ m → w ≡ v → None ≡ vertex_anchor lent w → AnchorsVertex lent.shape w (vertex_anchor lent w)
      → HasNoConstraintAt m v
  bare_told m lent v w same is none anchored =
      subst (λ (n : Mesh Point DE Mark F). HasNoConstraintAt n v) same (subst (HasNoConstraintAt lent) is (bare_free lent w (vertex_anchor lent w) none anchored))

  -- and one with an anchor has that half edge
  anchored_out : (m : Mesh Point DE Mark F) (v h : ℕ) (anchor : Option ℕ) → Some h ≡ anchor → AnchorsVertex m.shape v anchor → IsOutEdge m.shape v h
  anchored_out m v h None some bare = absurd (none-some h (sym some))
  anchored_out m v h (Some k) some anchored =
      subst (IsOutEdge m.shape v) (sym (same_Some h k some)) (record { live = anchored.0; start = anchored.1 })

  pub anchored_told : (m lent : Mesh Point DE Mark F) (v w h k : ℕ) → lent ≡ m → w ≡ v → Some k ≡ vertex_anchor lent w → AnchorsVertex lent.shape w (vertex_anchor lent w)
      → h ≡ k → IsOutEdge m.shape v h
  anchored_told m lent v w h k same is some anchored named =
      subst (λ (n : Mesh Point DE Mark F). IsOutEdge n.shape v h) same
      (subst (λ (i : ℕ). IsOutEdge lent.shape i h) is (subst (IsOutEdge lent.shape w) (sym named) (anchored_out lent w k (vertex_anchor lent w) some anchored)))

-- the walk around a vertex from one of its half edges
pub round_begins : {DE UE F : Type 0} (P : ℕ → Type 0) (m : Mesh Point DE UE F) → IsMesh m → (h : ℕ) → IsLive m.shape h → (items : List (Mesh Point DE UE F × ℕ))
    → items ≡ in_mesh m (walk_of m.shape (ccw_of m.shape) h) → IsSearching P m (origin_of m.shape h) items
round_begins P m mesh h live items are =
    let outs = walk-out_edges mesh.sound (origin_of m.shape h) h (record { live = live; start = refl }) in record {
      left = walk_of m.shape (ccw_of m.shape) h;
      items_are = are;
      all_start = outs.no_other;
      among = λ k out has. (let one = outs.each k out in omega (arith, one));
    }

-- told through handles
pub round_told : {DE UE F : Type 0} (P : ℕ → Type 0) (m : Mesh Point DE UE F) → IsMesh m → (h : ℕ) → IsLive m.shape h → (lent : Mesh Point DE UE F) (k : ℕ)
    (items : List (Mesh Point DE UE F × ℕ)) → lent ≡ m → k ≡ h → items ≡ in_mesh lent (walk_of lent.shape (ccw_of lent.shape) k) → IsSearching P m (origin_of m.shape h) items
round_told {DE} {UE} {F} P m mesh h live lent k items same is are =
    round_begins P m mesh h live items
    (are ∙ ap (λ (i : ℕ). in_mesh lent (walk_of lent.shape (ccw_of lent.shape) i)) is ∙ ap (λ (n : Mesh Point DE UE F). in_mesh n (walk_of n.shape (ccw_of n.shape) h)) same)
