-- A vertex put into an edge of a mesh in the plane, between two triangles, or of one triangle.
use Rattle.std.proofs.Common.{◌≡◌, ◌≢◌, ℕ, ◌+◌, ◌*◌, ◌/◌, ◌<◌, List, [], ◌∷◌, ◌++◌, refl, sym, ap, ◌∙◌, slice_index, slice_set, subst, arith}
use Rattle.std.proofs.lemmas.List.{get_or-set_same, get_or_append_left, length-set}
use Rattle.dcel_fixed.proofs.Halves.{rev-half, rev-ne}
use Rattle.dcel_predicates.specs.declared.point.Point.{Point}
use Rattle.dcel_maps.specs.Around.{around}
use Rattle.dcel_maps.specs.Conditions.{IsTriangle}
use Rattle.dcel_maps.specs.Cyclic.{from_least}
use Rattle.dcel_maps.specs.edits.Split.{edge_split, half_edge_split}
use Rattle.dcel_maps.specs.Shapes.{IsLive, IsMesh, Mesh, Shape, face_of, map_of, origin_of}
use Rattle.dcel_maps.specs.Words.{become, count_of, word_of}
use Rattle.dcel_maps.proofs.edits.Linking.{triangle_of}
use Rattle.dcel_maps.proofs.edits.Patches.{Patch}
use Rattle.dcel_maps.proofs.maps.Soundness.{rev_live}
use Rattle.dcel_maps.proofs.maps.Triangles.{IsTriangleOf, facing_differ}
use Rattle.dcel_maps.proofs.shapes.Maps.{map-sound}
use Rattle.dcel_maps.proofs.walks.Links.{half-below}
use Rattle.dcel_maps.proofs.words.Mapped.{count-at}
use Rattle.dcel_plane.specs.Edges.{edges_half_split, edges_split}
use Rattle.dcel_plane.specs.Plane.{LiesAcross, ListsCircled, TrianglesTurnLeft, TurnsLeft}
use Rattle.dcel_plane.proofs.edits.Corners.{corners_are, left-from_least, left_same, left_turned, of_least, of_three, seen}
use Rattle.dcel_plane.proofs.edits.Written.{IsWritten, origin_away, origin_more, written_lists, written_plane}

-- the triangle of a half edge e, with p on the left of the other two sides
module _ {V DE UE F : Type 0} (m : Mesh V DE UE F) (mesh : IsMesh m) (at : ℕ → Point) (p : Point) (e : ℕ) (live : IsLive m.shape e)
    (triangle : IsTriangle m.shape (face_of m.shape e)) where
  open (around m.shape e) use {f, before, after}

  pub side_triangle : IsTriangleOf (map_of m.shape) f e after before
  side_triangle = triangle_of m mesh e live triangle

  module _ (across : LiesAcross at m.shape e p) where
    pub seen_after : TurnsLeft (at (origin_of m.shape after)) (at (origin_of m.shape before)) p
    seen_after =
        let was = side_triangle in
        seen at m.shape p after before mesh.sound was.live_y (ap (origin_of m.shape) (sym was.next_y) ∙ mesh.sound.joined after was.live_y)
        (across after was.live_y was.face_y (λ is. was.x≢y (sym is)))

    pub seen_before : TurnsLeft (at (origin_of m.shape before)) (at (origin_of m.shape e)) p
    seen_before =
        let was = side_triangle in
        seen at m.shape p before e mesh.sound was.live_z (ap (origin_of m.shape) (sym was.next_z) ∙ mesh.sound.joined before was.live_z)
        (across before was.live_z was.face_z (λ is. was.x≢z (sym is)))

    -- the same corners from others on
    pub between : TurnsLeft (at (origin_of m.shape e)) p (at (origin_of m.shape before))
    between = left_turned (at (origin_of m.shape before)) (at (origin_of m.shape e)) p seen_before

    pub before_after : TurnsLeft p (at (origin_of m.shape after)) (at (origin_of m.shape before))
    before_after =
        left_turned (at (origin_of m.shape before)) p (at (origin_of m.shape after))
        (left_turned (at (origin_of m.shape after)) (at (origin_of m.shape before)) p seen_after)

-- a word with an edge of its own
pub listed_as : (list : List ℕ) (h u : ℕ) → h / 2 ≡ u → 0 < count_of u list → 0 < count_of (h / 2) list
listed_as list h u half found = subst (λ (k : ℕ). 0 < count_of k list) (sym half) found

module _ {V DE UE F : Type 0} (m : Mesh V DE UE F) (mesh : IsMesh m) (e middle : ℕ) (live : IsLive m.shape e) (halves : List DE) (edges : List UE) (faces : List F) (at : ℕ → Point) where
  open (around m.shape e) use {n, l, t, f, g, before as ep, after as en, t_before as tp, t_after as tn, end}

  abbrev s : Shape
  s = m.shape

  live_t : IsLive s t
  live_t = rev_live (map_of s) e live

  -- what is written: between two triangles, and where the other half lies on the outer face
  abbrev r : Shape
  r = (edge_split m e middle halves edges faces).shape

  abbrev pub split_words : Patch (List ℕ)
  split_words = record {
    set = (f, from_least (e ∷ (n + 5) ∷ ep ∷ [])) ∷ (g, from_least (t ∷ tn ∷ n ∷ [])) ∷ [];
    more = (tp ∷ (n + 2) ∷ (n + 1) ∷ []) ∷ (en ∷ (n + 4) ∷ (n + 3) ∷ []) ∷ [];
  }

  abbrev pub split_origins : Patch ℕ
  split_origins = record { set = (t, middle) ∷ []; more = origin_of s tp ∷ middle ∷ end ∷ middle ∷ origin_of s ep ∷ middle ∷ [] }

  pub split_written : IsWritten s r split_words split_origins
  split_written = record {
    words_are = refl;
    origins_are = refl;
    many = mesh.sized.origins;
    starts_stay = λ h lives inner away. (λ is. away.1.0 (ap (face_of s) is), tt);
  }

  pub split_old : (h : ℕ) → IsLive s h → h ≢ t → origin_of s h ≡ origin_of r h
  split_old h lives differs = sym (origin_away at s r split_words split_origins split_written mesh.sound h lives (differs, tt))

  pub split_more : (k i : ℕ) → k ≡ 2 * s.edges + i → origin_of r k ≡ slice_index split_origins.more i
  split_more = origin_more at s r split_words split_origins split_written mesh.sound

  -- the other half starts at the new vertex
  replaced : (more : List ℕ) → slice_index (slice_set s.origins t middle ++ more) t ≡ middle
  replaced more =
      get_or_append_left (slice_set s.origins t middle) more 0 t (omega (arith, mesh.sized.origins, half-below s t live_t, length-set s.origins t middle))
      ∙ get_or-set_same s.origins t middle 0 (omega (arith, mesh.sized.origins, half-below s t live_t))

  pub split_start : origin_of r t ≡ middle
  split_start = replaced split_origins.more

  abbrev q : Shape
  q = (half_edge_split m e middle halves edges faces).shape

  abbrev pub half_words : Patch (List ℕ)
  half_words = record {
    set = (f, from_least (e ∷ (n + 1) ∷ ep ∷ [])) ∷ (g, from_least (become t ((n + 3) ∷ t ∷ []) (word_of s.words g))) ∷ [];
    more = (en ∷ n ∷ (n + 2) ∷ []) ∷ [];
  }

  abbrev pub half_origins : Patch ℕ
  half_origins = record { set = (t, middle) ∷ []; more = origin_of s ep ∷ middle ∷ middle ∷ end ∷ [] }

  pub half_written : IsWritten s q half_words half_origins
  half_written = record {
    words_are = refl;
    origins_are = refl;
    many = mesh.sized.origins;
    starts_stay = λ h lives inner away. (λ is. away.1.0 (ap (face_of s) is), tt);
  }

  pub half_old : (h : ℕ) → IsLive s h → h ≢ t → origin_of s h ≡ origin_of q h
  half_old h lives differs = sym (origin_away at s q half_words half_origins half_written mesh.sound h lives (differs, tt))

  pub half_more : (k i : ℕ) → k ≡ 2 * s.edges + i → origin_of q k ≡ slice_index half_origins.more i
  half_more = origin_more at s q half_words half_origins half_written mesh.sound

  pub half_start : origin_of q t ≡ middle
  half_start = replaced half_origins.more

  -- between two triangles
  module _ (triangle : IsTriangle s f) (facing : IsTriangle s g) where
    near : IsTriangleOf (map_of s) f e en ep
    near = side_triangle m mesh at (at middle) e live triangle

    far : IsTriangleOf (map_of s) g t tn tp
    far = side_triangle m mesh at (at middle) t live_t facing

    differ : f ≢ g
    differ = facing_differ (map_of s) (map-sound mesh.sound) f e en ep g t tn tp near far refl

    on_f : (h : ℕ) → face_of s h ≡ f → h ≢ t
    on_f h on is = differ (sym on ∙ ap (face_of s) is)

    pub split_plane : LiesAcross at s e (at middle) → LiesAcross at s t (at middle) → TrianglesTurnLeft at s → TrianglesTurnLeft at r
    split_plane across across_t plane =
        written_plane at s r split_words split_origins split_written mesh.sound plane (
          (λ x y z inner is.
              left-from_least at r e (n + 5) ep x y z is
              (corners_are at (split_old e live (λ i. rev-ne e (sym i))) (sym (split_more (n + 5) 5 refl)) (split_old ep near.live_z (on_f ep near.face_z))
              (between m mesh at (at middle) e live triangle across))),
          (
            λ x y z inner is.
                left-from_least at r t tn n x y z is
                (corners_are at (sym split_start) (split_old tn far.live_y (λ i. far.x≢y (sym i))) (sym (split_more n 0 (omega arith)))
                (before_after m mesh at (at middle) t live_t facing across_t)),
            tt,
          ),
        ) (
          (λ x y z inner is.
              left_same at r tp (n + 2) (n + 1) x y z is
              (corners_are at (split_old tp far.live_z (λ i. far.x≢z (sym i))) (sym (split_more (n + 2) 2 refl)) (sym (split_more (n + 1) 1 refl))
              (seen_before m mesh at (at middle) t live_t facing across_t))),
          (
            λ x y z inner is.
                left_same at r en (n + 4) (n + 3) x y z is
                (corners_are at (split_old en near.live_y (on_f en near.face_y)) (sym (split_more (n + 4) 4 refl)) (sym (split_more (n + 3) 3 refl))
                (seen_after m mesh at (at middle) e live triangle across)),
            tt,
          ),
        )

    pub split_lists : (due : List ℕ) → IsMesh (edge_split m e middle halves edges faces) → ListsCircled at s due → ListsCircled at r (due ++ edges_split s e)
    split_lists due result lists =
        let list = edges_split s e in
        let k = s.edges in
        let at_0 = listed_as list n k (omega arith) (count-at list 5 0 (omega arith)) in
        let at_1 = listed_as list (n + 1) k (omega arith) (count-at list 5 0 (omega arith)) in
        let at_2 = listed_as list (n + 2) (k + 1) (omega arith) (count-at list 6 0 (omega arith)) in
        let at_3 = listed_as list (n + 3) (k + 1) (omega arith) (count-at list 6 0 (omega arith)) in
        let at_4 = listed_as list (n + 4) (k + 2) (omega arith) (count-at list 7 0 (omega arith)) in
        let at_5 = listed_as list (n + 5) (k + 2) (omega arith) (count-at list 7 0 (omega arith)) in
        let at_t = listed_as list t (e / 2) (rev-half e) (count-at list 4 0 (omega arith)) in
        written_lists at s r split_words split_origins split_written mesh.sound list due result.sound (
          λ inner h found. of_least (λ x. 0 < count_of (x / 2) list) e (n + 5) ep h (count-at list 4 0 (omega arith)) at_5 (count-at list 1 0 (omega arith)) found,
          (λ inner h found. of_least (λ x. 0 < count_of (x / 2) list) t tn n h at_t (count-at list 2 0 (omega arith)) at_0 found, tt),
        ) (
          λ inner h found. of_three (λ x. 0 < count_of (x / 2) list) tp (n + 2) (n + 1) h (count-at list 3 0 (omega arith)) at_2 at_1 found,
          (λ inner h found. of_three (λ x. 0 < count_of (x / 2) list) en (n + 4) (n + 3) h (count-at list 0 0 (omega arith)) at_4 at_3 found, tt),
        )
        lists

  -- of one triangle, where the other half lies on the outer face
  module _ (triangle : IsTriangle s f) (inner_f : 0 < f) (outer : g ≡ 0) where
    one : IsTriangleOf (map_of s) f e en ep
    one = side_triangle m mesh at (at middle) e live triangle

    on_one : (h : ℕ) → IsLive s h → face_of s h ≡ f → origin_of s h ≡ origin_of q h
    on_one h lives on = half_old h lives (λ is. omega (arith, inner_f, outer, sym on ∙ ap (face_of s) is))

    pub half_split_plane : LiesAcross at s e (at middle) → TrianglesTurnLeft at s → TrianglesTurnLeft at q
    half_split_plane across plane =
        written_plane at s q half_words half_origins half_written mesh.sound plane (
          (λ x y z inner is.
              left-from_least at q e (n + 1) ep x y z is
              (corners_are at (on_one e live refl) (sym (half_more (n + 1) 1 refl)) (on_one ep one.live_z one.face_z)
              (between m mesh at (at middle) e live triangle across))),
          (λ x y z inner is. absurd (omega (arith, inner, outer)), tt),
        ) (
          (λ x y z inner is.
              left_same at q en n (n + 2) x y z is
              (corners_are at (on_one en one.live_y one.face_y) (sym (half_more n 0 (omega arith))) (sym (half_more (n + 2) 2 refl))
              (seen_after m mesh at (at middle) e live triangle across))),
          tt,
        )

    pub half_split_lists : (due : List ℕ) → IsMesh (half_edge_split m e middle halves edges faces) → ListsCircled at s due
        → ListsCircled at q (due ++ edges_half_split s e)
    half_split_lists due result lists =
        let list = edges_half_split s e in
        let k = s.edges in
        let at_0 = listed_as list n k (omega arith) (count-at list 3 0 (omega arith)) in
        let at_1 = listed_as list (n + 1) k (omega arith) (count-at list 3 0 (omega arith)) in
        let at_2 = listed_as list (n + 2) (k + 1) (omega arith) (count-at list 4 0 (omega arith)) in
        written_lists at s q half_words half_origins half_written mesh.sound list due result.sound (
          λ inner h found. of_least (λ x. 0 < count_of (x / 2) list) e (n + 1) ep h (count-at list 2 0 (omega arith)) at_1 (count-at list 1 0 (omega arith)) found,
          (λ inner h found. absurd (omega (arith, inner, outer)), tt),
        )
        (λ inner h found. of_three (λ x. 0 < count_of (x / 2) list) en n (n + 2) h (count-at list 0 0 (omega arith)) at_0 at_2 found, tt)
        lists
