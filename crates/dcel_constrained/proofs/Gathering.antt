-- The half edges that a segment crosses listed one after another, with the edges around the triangles beside them.
use Rattle.std.proofs.Common.{◌≡◌, ℕ, ◌+◌, ◌*◌, ◌/◌, ◌<◌, List, [], ◌∷◌, ◌++◌, length, inl, inr, sym, ap, ◌∙◌, subst, pos, ◌≤ℤ◌, arith}
use Rattle.std.proofs.lemmas.Bool.{cases_eq}
use Rattle.std.proofs.lemmas.Int.{by_lt_z}
use Rattle.std.proofs.lemmas.List.{length-append}
use Rattle.dcel_fixed.specs.HalfEdges.{rev}
use Rattle.dcel_predicates.specs.declared.point.Point.{Point}
use Rattle.dcel_maps.specs.Shapes.{Mesh, Shape, face_of, next_of, prev_of}
use Rattle.dcel_maps.specs.Words.{count_of}
use Rattle.dcel_maps.proofs.shapes.Maps.{map-sound}
use Rattle.dcel_maps.proofs.words.Counts.{count-append, count-later, count-other, count-same}
use Rattle.dcel_legalize.specs.Flipping.{sides_beside}
use Rattle.dcel_plane.proofs.removal.Fewer.{of_both_halves}
use Rattle.dcel_plane.specs.covering.Covering.{dot}
use Rattle.dcel_plane.specs.segments.Segments.{AreEnds, BeginsAt, Crosses, HasSides, HasSidesOf, IsChannel, TriangulatesItsHull, orient2d_by}
use Rattle.dcel_plane.proofs.segments.Gates.{far, near}
use Rattle.dcel_plane.proofs.segments.Onward.{on_line}
use Rattle.dcel_plane.proofs.segments.Walking.{Comes, comes_first, comes_left, comes_right, comes_to_end, few}
use Rattle.dcel_plane.proofs.covering.Triangles.{of_face}
use Rattle.dcel_constrained.specs.Meeting.{HasCome, IsMetAfter, ListsStill}
use Rattle.dcel_constrained.specs.declared.segments.walk.Met.TheVariants.{Side, Vertex}

first_there : (x : ℕ) (r : List ℕ) → 0 < count_of x (x ∷ r)
first_there x r = (let c = count-same x r in omega (arith, c))

-- each of four numbers is in their list
four_there : (a b c d : ℕ) → (0 < count_of a (a ∷ b ∷ c ∷ d ∷ [])) × (0 < count_of b (a ∷ b ∷ c ∷ d ∷ [])) × (0 < count_of c (a ∷ b ∷ c ∷ d ∷ []))
    × (0 < count_of d (a ∷ b ∷ c ∷ d ∷ []))
four_there a b c d = (
  first_there a (b ∷ c ∷ d ∷ []),
  count-later b a (b ∷ c ∷ d ∷ []) (first_there b (c ∷ d ∷ [])),
  count-later c a (b ∷ c ∷ d ∷ []) (count-later c b (c ∷ d ∷ []) (first_there c (d ∷ []))),
  count-later d a (b ∷ c ∷ d ∷ []) (count-later d b (c ∷ d ∷ []) (count-later d c (d ∷ []) (first_there d []))),
)

-- what is listed stays so as others come behind it
longer : (due own sides : List ℕ) → ListsStill due ((due ++ own) ++ sides)
longer due own sides k there = (let a = count-append k (due ++ own) sides in let b = count-append k due own in omega (arith, a, b, there))

module _ {V DE UE F : Type 0} (m : Mesh V DE UE F) (at : ℕ → Point) (planar : TriangulatesItsHull at m) (v w : ℕ) (ends : AreEnds m.shape v w) where
  abbrev s : Shape
  s = m.shape

  abbrev ComesTo : List ℕ → ℕ → Type 0
  ComesTo = Comes m planar.mesh planar.triangles at planar.plane planar.convex planar.hull v w ends

  -- a half edge and those after it and before it on its face
  record Listed (due : List ℕ) (a t : ℕ) : Type 0 where
    own : 0 < count_of (a / 2) due
    other : 0 < count_of (t / 2) due
    after : 0 < count_of (next_of s a / 2) due
    before : 0 < count_of (prev_of s a / 2) due
    after_other : 0 < count_of (next_of s t / 2) due
    before_other : 0 < count_of (prev_of s t / 2) due

  module _ (h : ℕ) (crosses : Crosses at m.shape v w h) (old : List ℕ) where
    abbrev u : ℕ
    u = h / 2

    abbrev due : List ℕ
    due = (old ++ (u ∷ [])) ++ sides_beside m.shape u

    in_sides : (k : ℕ) → 0 < count_of k (sides_beside s u) → 0 < count_of k due
    in_sides k there = (let a = count-append k (old ++ (u ∷ [])) (sides_beside s u) in omega (arith, a, there))

    in_own : 0 < count_of u due
    in_own = (let a = count-append u (old ++ (u ∷ [])) (sides_beside s u) in let b = count-append u old (u ∷ []) in let c = count-same u [] in omega (arith, a, b, c))

    listed : Listed due h (rev h)
    listed =
        let a = next_of s (2 * u) / 2 in
        let b = prev_of s (2 * u) / 2 in
        let c = next_of s (2 * u + 1) / 2 in
        let d = prev_of s (2 * u + 1) / 2 in
        of_both_halves (Listed due)
        (λ x y is. record { own = is.other; other = is.own; after = is.after_other; before = is.before_other; after_other = is.after; before_other = is.before }) h
        (record {
          own = subst (λ (i : ℕ). 0 < count_of i due) (let e : u ≡ 2 * u / 2 = omega arith in e) in_own;
          other = subst (λ (i : ℕ). 0 < count_of i due) (let e : u ≡ (2 * u + 1) / 2 = omega arith in e) in_own;
          after = in_sides (next_of s (2 * u) / 2) (four_there a b c d).0;
          before = in_sides (prev_of s (2 * u) / 2) (four_there a b c d).1;
          after_other = in_sides (next_of s (2 * u + 1) / 2) (four_there a b c d).2;
          before_other = in_sides (prev_of s (2 * u + 1) / 2) (four_there a b c d).3;
        })

    sides_near : HasSides due s (face_of s h)
    sides_near =
        of_face m planar.mesh (face_of s h) h (next_of s h) (prev_of s h)
        (near m planar.mesh planar.triangles at planar.plane planar.convex v w ends h crosses) (λ k. 0 < count_of (k / 2) due) listed.own listed.after listed.before

    sides_far : HasSides due s (face_of s (rev h))
    sides_far =
        of_face m planar.mesh (face_of s (rev h)) (rev h) (next_of s (rev h)) (prev_of s (rev h))
        (far m planar.mesh planar.triangles at planar.plane planar.convex v w ends h crosses) (λ k. 0 < count_of (k / 2) due) listed.other listed.after_other listed.before_other

    pub sides_more : (passed : List ℕ) → HasSidesOf old s passed → HasSidesOf due s (passed ++ (h ∷ []))
    sides_more passed has j found = elim (cases_eq j h) [
      | inl is ↦ subst (λ (i : ℕ). HasSides due s (face_of s i) × HasSides due s (face_of s (rev i))) (sym is) (sides_near, sides_far)
      | inr not ↦
          let among : 0 < count_of j passed = (let a = count-append j passed (h ∷ []) in let b = count-other j h [] not in omega (arith, a, b, found)) in
          let old_sides = has j among in (
            λ k live on. longer old (u ∷ []) (sides_beside s u) (k / 2) (old_sides.0 k live on),
            λ k live on. longer old (u ∷ []) (sides_beside s u) (k / 2) (old_sides.1 k live on),
          )
    ]

  -- the walk comes to a half edge with these passed, and all edges around their faces are listed
  pub record IsUnderWay (passed due : List ℕ) (h steps : ℕ) : Type 0 where
    pub comes : ComesTo passed h
    pub sides : HasSidesOf due s passed
    pub many : length passed ≡ steps

  pub way_begins : (h : ℕ) (passed due : List ℕ) → passed ≡ [] → BeginsAt at s v w h → IsUnderWay passed due h 0
  way_begins h passed due none begins = record {
    comes = subst (λ (l : List ℕ). ComesTo l h) (sym none) (comes_first m planar.mesh planar.triangles at planar.plane planar.convex planar.hull v w ends h begins);
    sides = λ k there. absurd (let e = subst (λ (l : List ℕ). 0 < count_of k l) none there in omega (arith, e));
    many = ap length none;
  }

  module _ (passed due : List ℕ) (h steps : ℕ) (way : IsUnderWay passed due h steps) (passed_now due_now : List ℕ) (passed_is : passed_now ≡ passed ++ (h ∷ []))
      (due_is : due_now ≡ (due ++ ((h / 2) ∷ [])) ++ sides_beside m.shape (h / 2)) where
    sides_now : HasSidesOf due_now s passed_now
    sides_now =
        subst (λ (l : List ℕ). HasSidesOf l s passed_now) (sym due_is)
        (subst (λ (l : List ℕ). HasSidesOf ((due ++ ((h / 2) ∷ [])) ++ sides_beside s (h / 2)) s l) (sym passed_is) (sides_more h way.comes.crosses due passed way.sides))

    comes_on : (k : ℕ) → IsMetAfter at s v w h (Side k) → ComesTo (passed ++ (h ∷ [])) k
    comes_on k (inl right) =
        subst (λ (i : ℕ). ComesTo (passed ++ (h ∷ [])) i) (sym right.1)
        (comes_right m planar.mesh planar.triangles at planar.plane planar.convex planar.hull v w ends passed h way.comes right.0)
    comes_on k (inr left) =
        subst (λ (i : ℕ). ComesTo (passed ++ (h ∷ [])) i) (sym left.1)
        (comes_left m planar.mesh planar.triangles at planar.plane planar.convex planar.hull v w ends passed h way.comes left.0)

    pub way_goes_on : (k : ℕ) → IsMetAfter at s v w h (Side k) → IsUnderWay passed_now due_now k (steps + 1)
    way_goes_on k met = record {
      comes = subst (λ (l : List ℕ). ComesTo l k) (sym passed_is) (comes_on k met);
      sides = sides_now;
      many = (let a = ap length passed_is in let b = length-append passed (h ∷ []) in let c = way.many in omega (arith, a, b, c));
    }

    pub way_ends : (y : ℕ) → IsMetAfter at s v w h (Vertex y) → HasCome at s v w passed_now due_now y
    way_ends y met = record {
      vertex =
          let beyond = far m planar.mesh planar.triangles at planar.plane planar.convex v w ends h way.comes.crosses in
          subst (λ (i : ℕ). i < s.vertices) (sym met.1) ((map-sound planar.mesh.sound).below_vertices (prev_of s (rev h)) beyond.live_z);
      sides = sides_now;
      there = elim (cases_eq w y) [
        | inl is ↦ inl (
          sym is,
          subst (λ (l : List ℕ). IsChannel at s v w l) (sym passed_is)
              (comes_to_end m planar.mesh planar.triangles at planar.plane planar.convex planar.hull v w ends passed h way.comes (sym met.1 ∙ sym is)),
        )
        | inr not ↦ inr (record {
          on = subst (λ (i : ℕ). orient2d_by at v w i ≡ pos 0) (sym met.1) met.0;
          inside = by_lt_z (dot (at v) (at w) (at y)) (pos 0) (λ less. less) (λ nor. absurd (not (
              on_line m planar.mesh planar.triangles at planar.plane planar.convex planar.hull v w ends h way.comes.crosses met.0
              (subst (λ (i : ℕ). pos 0 ≤ℤ dot (at v) (at w) (at i)) met.1 nor) ∙ sym met.1)));
        })
      ];
    }

  -- it ends before it has passed all half edges
  pub way_short : (passed due : List ℕ) (h steps : ℕ) → IsUnderWay passed due h steps → steps < 2 * s.edges
  way_short passed due h steps way =
      let all = few m planar.mesh planar.triangles at planar.plane planar.convex planar.hull v w ends passed h way.comes in
      let long = length-append passed (h ∷ []) in
      let many = way.many in
      omega (arith, all, long, many)

-- the same, with what it rests on, and what was listed before it
pub record IsWay {V DE UE F : Type 0} (m : Mesh V DE UE F) (at : ℕ → Point) (v w : ℕ) (before passed due : List ℕ) (h steps : ℕ) : Type 0 where
  pub planar : TriangulatesItsHull at m
  pub ends : AreEnds m.shape v w
  pub way : IsUnderWay m at planar v w ends passed due h steps
  pub kept : ListsStill before due

module _ {V DE UE F : Type 0} (m : Mesh V DE UE F) (at : ℕ → Point) (v w : ℕ) (before passed due : List ℕ) (h steps : ℕ) (is : IsWay m at v w before passed due h steps)
    (passed_now due_now : List ℕ) (passed_is : passed_now ≡ passed ++ (h ∷ [])) (due_is : due_now ≡ (due ++ ((h / 2) ∷ [])) ++ sides_beside m.shape (h / 2)) where
  pub kept_now : ListsStill before due_now
  kept_now u there =
      subst (λ (l : List ℕ). 0 < count_of u l) (sym due_is) (longer due ((h / 2) ∷ []) (sides_beside m.shape (h / 2)) u (is.kept u there))

  pub goes_on : (k : ℕ) → IsMetAfter at m.shape v w h (Side k) → IsWay m at v w before passed_now due_now k (steps + 1)
  goes_on k met = record {
    planar = is.planar;
    ends = is.ends;
    way = way_goes_on m at is.planar v w is.ends passed due h steps is.way passed_now due_now passed_is due_is k met;
    kept = kept_now;
  }

  pub comes_there : (y : ℕ) → IsMetAfter at m.shape v w h (Vertex y) → HasCome at m.shape v w passed_now due_now y
  comes_there = way_ends m at is.planar v w is.ends passed due h steps is.way passed_now due_now passed_is due_is
