-- What a triangle closed at the hull leaves: a hull that is open stays so, and its corners that are closed stay closed.
use Rattle.std.proofs.Common.{◌≡◌, ◌≢◌, ◌∙◌, inl, inr, ℕ, ◌+◌, ◌*◌, ◌<◌, List, [], ◌∷◌, ◌++◌, slice_index, slice_set, pos, ◌<ℤ◌, refl, sym, ap, subst, arith}
use Rattle.std.proofs.lemmas.List.{get_or-set_same, get_or_append_left, length-set}
use Rattle.dcel_fixed.proofs.Halves.{rev-double-suc}
use Rattle.dcel_maps.specs.Cyclic.{from_least}
use Rattle.dcel_maps.specs.edits.DefaultData.{AddsEdgesAndFaces}
use Rattle.dcel_maps.specs.edits.Outside.{face_closed}
use Rattle.dcel_maps.specs.Shapes.{IsLive, IsMesh, Mesh, end_of, face_count, face_of, map_of, next_of, origin_of}
use Rattle.dcel_maps.specs.Triangulations.{AllTriangles}
use Rattle.dcel_maps.specs.Words.{become, count_of, word_of}
use Rattle.dcel_maps.proofs.edits.Patches.{Patch, pushing}
use Rattle.dcel_maps.proofs.removal.Inserted.{replaced-count}
use Rattle.dcel_maps.proofs.walks.Links.{half-below, links_stand, next-live}
use Rattle.dcel_maps.proofs.words.Counts.{count-same}
use Rattle.dcel_maps.proofs.words.Reading.{stands_in_face}
use Rattle.dcel_predicates.specs.declared.point.Point.{Point}
use Rattle.dcel_predicates.specs.Determinants.{orient2d_of}
use Rattle.dcel_predicates.proofs.Signs.{ordered}
use Rattle.dcel_plane.specs.Plane.{IsLeftOf, TrianglesTurnLeft, point_at}
use Rattle.dcel_plane.proofs.edits.Written.{IsWritten, origin_more}
use Rattle.dcel_plane.specs.covering.Covering.{IsConvex}
use Rattle.dcel_plane.proofs.covering.Inside.{on_end}
use Rattle.dcel_plane.proofs.hull.Becomes.{out_outer, put_in, stays_in}
use Rattle.dcel_plane.proofs.hull.ClosingStep.{step_closing, step_hull, step_thick, tip_cases, turns_nowhere}
use Rattle.dcel_plane.proofs.hull.CornersStay.{after_stays, before_stays}
use Rattle.dcel_plane.proofs.hull.Step.{IsStep, closed_step}
use Rattle.dcel_plane.proofs.hull.ThinStays.{thin_after_stays, thin_before_stays}
use Rattle.dcel_plane.proofs.hull.ThinStep.{step_thin}
use Rattle.dcel_plane.specs.star.Star.{HasEmptyCirclesBut, HasNoneOnLeft}
use Rattle.dcel_plane.proofs.star.Outside.{closed_at_end, closed_at_start}
use Rattle.dcel_planar.specs.Corners.{GoesOnClosing, IsClosedAt, TurnsIn}
use Rattle.dcel_planar.specs.Growing.{IsOpen, IsTriangleMesh}
use Rattle.dcel_planar.proofs.Growth.{of_edit}

-- a list to which something was put is not empty
put_last : (due more : List ℕ) (x : ℕ) → due ++ x ∷ more ≢ []
put_last [] more x none = absurd cc
put_last (y ∷ due) more x none = absurd cc

pub some_listed : (due more items : List ℕ) (x : ℕ) → items ≡ due ++ x ∷ more → items ≢ []
some_listed due more items x is none = put_last due more x (sym is ∙ none)

module _ {DE UE F : Type 0} where
  pub goes_on-refl : (m : Mesh Point DE UE F) → GoesOnClosing m m
  goes_on-refl m = record { open_still = λ t is. is; after = λ t is closed. closed; before = λ t is closed. closed; convex = λ convex. refl; circles = λ t is empty. empty }

  pub goes_on-trans : (a b c : Mesh Point DE UE F) → GoesOnClosing a b → GoesOnClosing b c → GoesOnClosing a c
  goes_on-trans a b c first second = record {
    open_still = λ t is. second.open_still t (first.open_still t is);
    after = λ t is closed. second.after t (first.open_still t is) (first.after t is closed);
    before = λ t is closed. second.before t (first.open_still t is) (first.before t is closed);
    convex = λ convex.
        let same = first.convex convex in
        second.convex (subst (λ (x : Mesh Point DE UE F). IsConvex (point_at x) x.shape) (sym same) convex) ∙ same;
    circles = λ t is empty. second.circles t (first.open_still t is) (first.circles t is empty);
  }

  -- a mesh and a half edge under other names
  pub turns_as : (m n : Mesh Point DE UE F) (h k : ℕ) → n ≡ m → k ≡ h → TurnsIn n k → TurnsIn m h
  turns_as m n h k mesh number turns =
      subst (λ (i : ℕ). TurnsIn m i) number (subst (λ (o : Mesh Point DE UE F). TurnsIn o k) mesh turns)

  -- where the outer face turns in, the next half edge doesn't lead back
  pub turned_apart : (m : Mesh Point DE UE F) (e : ℕ) → TurnsIn m e → end_of m.shape (next_of m.shape e) ≢ origin_of m.shape e
  turned_apart m e turns back =
      let none = on_end (point_at m (origin_of m.shape e)) (point_at m (end_of m.shape e)) in
      let at_start : pos 0 <ℤ orient2d_of (point_at m (origin_of m.shape e)) (point_at m (end_of m.shape e)) (point_at m (origin_of m.shape e)) =
      subst (λ (v : ℕ). IsLeftOf (point_at m) m.shape (point_at m v) e) back turns in
      omega (arith, ordered, none, at_start)

  module _ (m : Mesh Point DE UE F) (mesh : IsMesh m) (triangles : AllTriangles m.shape) (plane : TrianglesTurnLeft (point_at m) m.shape) (e : ℕ) (live : IsLive m.shape e)
      (on : face_of m.shape e ≡ 0) (turns : TurnsIn m e) (halves : List DE) (edges : List UE) (faces : List F)
      (result : IsMesh (face_closed m e halves edges faces)) where
    abbrev q : Mesh Point DE UE F
    q = face_closed m e halves edges faces

    abbrev at : ℕ → Point
    at = point_at m

    step : IsStep m.shape q.shape e
    step = closed_step m mesh at e live on halves edges faces result

    open_after : (t : ℕ) → IsOpen m t → IsOpen q t
    open_after t is = record {
      inner = let more : face_count q.shape ≡ face_count m.shape + 1 = replaced-count m.shape.words _ _ _ in omega (arith, more, is.inner);
      last = is.last;
      closing = step_closing at m.shape q.shape e t step is.closing turns;
      from = elim is.from [
        | inl thick ↦
            inl (
              step_hull at m.shape q.shape e t step is.closing turns thick.0,
              step_thick at m.shape q.shape e t step is.closing turns thick.1,
            )
        | inr thin ↦ inr (step_thin at m.shape q.shape e t step is.closing turns thin)
      ];
    }

    -- the new triangle is one of t, and the old edge in it has no other old vertex on t's side
    empty_after : (t : ℕ) → IsOpen m t → HasEmptyCirclesBut at m.shape t → HasEmptyCirclesBut at q.shape t
    empty_after t is empty = elim (tip_cases at m.shape q.shape e t step is.closing turns) [
      | inl first ↦
          closed_at_start m mesh at t e empty live halves edges faces first.0
          (none_left (next_of m.shape e) step.live_x step.on_x (λ on. first.1 (sym step.joined ∙ on)) first.2)
      | inr last ↦ closed_at_end m mesh at t e empty live halves edges faces last.2 (none_left e live on last.0 last.1)
    ]
      where
        none_left : (h : ℕ) → IsLive m.shape h → face_of m.shape h ≡ 0 → origin_of m.shape h ≢ t → end_of m.shape h ≢ t → HasNoneOnLeft at m.shape t h
        none_left h live_h on_h not_start not_end k live_k old left =
            let right = (is.closing.supports h k live_h on_h not_start not_end live_k old).0 in omega (arith, ordered, left, right)

    pub closed_goes_on : GoesOnClosing m q
    closed_goes_on = record {
      open_still = open_after;
      after = λ t is closed. elim is.from [
        | inl thick ↦ after_stays at m.shape q.shape e t step is.closing turns thick.0 closed
        | inr thin ↦ thin_after_stays m mesh triangles at plane t is.closing thin e live on turns halves edges faces result closed
      ];
      before = λ t is closed. elim is.from [
        | inl thick ↦ before_stays at m.shape q.shape e t step is.closing turns thick.0 closed
        | inr thin ↦ thin_before_stays m mesh triangles at plane t is.closing thin e live on turns halves edges faces result closed
      ];
      convex = λ convex. absurd (turns_nowhere m mesh at convex e live on turns);
      circles = empty_after;
    }

    -- the half edge that is on the outer face in the place of both
    abbrev h : ℕ
    h = 2 * m.shape.edges + 1

    abbrev x : ℕ
    x = next_of m.shape e

    abbrev items : List ℕ
    items = become x [] (become e (h ∷ []) (word_of m.shape.words 0))

    abbrev words : Patch (List ℕ)
    words = record { set = (0, from_least items) ∷ []; more = from_least (e ∷ x ∷ (2 * m.shape.edges) ∷ []) ∷ [] }

    abbrev origins : Patch ℕ
    origins = pushing (end_of m.shape x ∷ origin_of m.shape e ∷ [])

    written : IsWritten m.shape q.shape words origins
    written = record { words_are = refl; origins_are = refl; many = mesh.sized.origins; starts_stay = λ k lives inner away. tt }

    starts : (k i : ℕ) → k ≡ 2 * m.shape.edges + i → origin_of q.shape k ≡ slice_index origins.more i
    starts k i is = origin_more at m.shape q.shape words origins written mesh.sound k i is

    outer_word : word_of q.shape.words 0 ≡ from_least items
    outer_word =
        get_or_append_left (slice_set m.shape.words 0 (from_least items)) words.more [] 0
        (let l = length-set m.shape.words 0 (from_least items) in let o = mesh.sized.outer in omega (arith, l, o))
        ∙ get_or-set_same m.shape.words 0 (from_least items) [] mesh.sized.outer

    outer_there : IsLive q.shape h × (face_of q.shape h ≡ 0)
    outer_there =
        let there : 0 < count_of e (word_of m.shape.words 0) =
        subst (λ (k : ℕ). 0 < count_of e (word_of m.shape.words k)) on (stands_in_face (map_of m.shape) m.shape.words (links_stand mesh.sound) e live) in
        let put = put_in h e (h ∷ []) (word_of m.shape.words 0) (let k = count-same h [] in omega (arith, k)) there in
        let off : h ≢ x = λ is. let k = half-below m.shape x (next-live mesh.sound e live) in omega (arith, is, k) in
        out_outer q.shape result.sound items outer_word h (stays_in h x [] (become e (h ∷ []) (word_of m.shape.words 0)) off put)

    pub closed_there : IsClosedAt m q e h
    closed_there = record {
      live = outer_there.0;
      outer = outer_there.1;
      start = starts h 1 refl;
      end = ap (origin_of q.shape) (rev-double-suc m.shape.edges) ∙ starts (2 * m.shape.edges) 0 (omega arith);
      edges = refl;
      few = result.sized.few_edges;
    }

  -- the same of the call, whatever data are put at the new edge and face
  module _ (is_half : DE → Type 0) (is_edge : UE → Type 0) (is_face : F → Type 0) (k j : ℕ) (m n : Mesh Point DE UE F) (e : ℕ) (mesh : IsMesh m)
      (sound : IsTriangleMesh m) (live : IsLive m.shape e) (on : face_of m.shape e ≡ 0) (turns : TurnsIn m e)
      (adds : AddsEdgesAndFaces is_half is_edge is_face k j n (face_closed m e)) (result : IsMesh n) where
    pub close_goes_on : GoesOnClosing m n
    close_goes_on =
        of_edit is_half is_edge is_face k j n (face_closed m e) (λ (x : Mesh Point DE UE F). IsMesh x → GoesOnClosing m x) adds
        (λ a b c done. closed_goes_on m mesh sound.triangles sound.plane e live on turns a b c done) result

    pub close_there : (h : ℕ) → h ≡ 2 * m.shape.edges + 1 → IsClosedAt m n e h
    close_there h is =
        subst (λ (i : ℕ). IsClosedAt m n e i) (sym is)
        (of_edit is_half is_edge is_face k j n (face_closed m e) (λ (x : Mesh Point DE UE F). IsMesh x → IsClosedAt m x e (2 * m.shape.edges + 1)) adds
        (λ a b c done. closed_there m mesh sound.triangles sound.plane e live on turns a b c done) result)
