-- What tests of all faces and of all edges tell.
use Rattle.std.proofs.Common.{◌≡◌, inl, inr, ℕ, ◌<◌, ◌≤◌, List, [], ◌∷◌, length, sym, ap, ◌∙◌, subst, arith}
use Rattle.std.proofs.lemmas.Bool.{cases_lt, true_from_ne_false}
use Rattle.std.proofs.lemmas.List.{get_or_past}
use Rattle.dcel_predicates.specs.declared.point.Point.{Point}
use Rattle.dcel_maps.specs.Conditions.{IsTriangle}
use Rattle.dcel_maps.specs.Cyclic.{from_least}
use Rattle.dcel_maps.specs.Shapes.{IsLive, IsMesh, Mesh, Shape, end_of, face_count, face_is_live, face_of, map_of, next_of, origin_of, prev_of}
use Rattle.dcel_maps.specs.Walking.{IsOnFace}
use Rattle.dcel_maps.specs.Words.{TurnsTo, word_of}
use Rattle.dcel_maps.proofs.edits.Linking.{triangle_of}
use Rattle.dcel_maps.proofs.maps.Triangles.{IsTriangleOf}
use Rattle.dcel_maps.proofs.shapes.Maps.{map-sound}
use Rattle.dcel_maps.proofs.walks.Links.{links_stand}
use Rattle.dcel_maps.proofs.words.Triangles.{triangle_written}
use Rattle.dcel_maps.proofs.words.Turns.{from_least-turn, turns_back}
use Rattle.dcel_plane.specs.Plane.{TrianglesTurnLeft, TurnsLeft, point_at}
use Rattle.dcel_plane.proofs.edits.Corners.{LeftOf, left-from_least, three_items, turn_left, turned_along}
use Rattle.dcel_planar.specs.Turning.{GoesLeft}

module _ (at : ℕ → Point) (s : Shape) where
  -- beyond the last face there is no word
  pub each_face : (n : ℕ) → face_count s ≤ n → ((f : ℕ) → 0 < f → f < n → GoesLeft at s f) → TrianglesTurnLeft at s
  each_face n all goes = record {
    left = λ f x y z inner is. elim (cases_lt f n) [
      | inl below ↦ goes f inner below x y z is
      | inr past ↦ absurd (let none = ap length (sym (get_or_past s.words f [] (omega (arith, past, all))) ∙ is) in omega (arith, none))
    ];
  }

-- a triangle by one of its half edges
module _ {V DE UE F : Type 0} (m : Mesh V DE UE F) (mesh : IsMesh m) (at : ℕ → Point) (f e : ℕ) (triangle : IsTriangle m.shape f) (live : IsLive m.shape e) (on : face_of m.shape e ≡ f) where
  abbrev s : Shape
  s = m.shape

  abbrev en : ℕ
  en = next_of m.shape e

  abbrev ep : ℕ
  ep = prev_of m.shape e

  round : IsTriangleOf (map_of s) f e en ep
  round = subst (λ (k : ℕ). IsTriangleOf (map_of s) k e en ep) on (triangle_of m mesh e live (subst (IsTriangle s) (sym on) triangle))

  written : word_of s.words f ≡ from_least (e ∷ en ∷ ep ∷ [])
  written = triangle_written (map_of s) (map-sound mesh.sound) f e en ep round s.words (links_stand mesh.sound)

  abbrev By : Type 0
  By = TurnsLeft (at (origin_of s e)) (at (end_of s e)) (at (origin_of s ep))

  pub goes_from : By → GoesLeft at s f
  goes_from left x y z is =
      left-from_least at s e en ep x y z (sym written ∙ is) (subst (λ (k : ℕ). TurnsLeft (at (origin_of s e)) (at k) (at (origin_of s ep))) (sym (mesh.sound.joined e live)) left)

  pub goes_to : GoesLeft at s f → By
  goes_to goes =
      let turn : TurnsTo (e ∷ en ∷ ep ∷ []) (word_of s.words f) = subst (λ (l : List ℕ). TurnsTo (e ∷ en ∷ ep ∷ []) l) (sym written) (from_least-turn (e ∷ en ∷ ep ∷ [])) in
      let (a, b, c, is) = three_items (word_of s.words f) triangle.three in
      subst (λ (k : ℕ). TurnsLeft (at (origin_of s e)) (at k) (at (origin_of s ep))) (mesh.sound.joined e live)
      (turned_along (LeftOf at s) (turn_left at s) a b c e en ep (turns_back (subst (λ (l : List ℕ). TurnsTo (e ∷ en ∷ ep ∷ []) l) is turn)) (goes a b c is))

-- a face that is no triangle has no three corners
pub no_corners : {V DE UE F : Type 0} (m : Mesh V DE UE F) → IsMesh m → (at : ℕ → Point) (f : ℕ) → ¬ IsTriangle m.shape f → GoesLeft at m.shape f
no_corners m mesh at f not x y z is =
    absurd
    (not record {
      live = true_from_ne_false (face_is_live m.shape f) (λ dead. let none = ap length (sym (mesh.sound.bare f dead) ∙ is) in omega (arith, none));
      three = ap length is;
    })

-- what is read of a mesh that is known by another name
pub known_as : {DE UE F : Type 0} (m k l : Mesh Point DE UE F) (p : Point) (v : ℕ) (f : Shape → ℕ) → p ≡ point_at k v → k ≡ l → v ≡ f l.shape → l ≡ m → p ≡ point_at m (f m.shape)
known_as {DE} {UE} {F} m k l p v f is same number at =
    subst (λ (x : Mesh Point DE UE F). p ≡ point_at x (f x.shape)) at
    (subst (λ (i : ℕ). p ≡ point_at l i) number (subst (λ (x : Mesh Point DE UE F). p ≡ point_at x v) same is))

pub lies_as : {DE UE F : Type 0} (m k : Mesh Point DE UE F) (f g e : ℕ) → k ≡ m → f ≡ g → IsOnFace k.shape f e → IsOnFace m.shape g e
lies_as {DE} {UE} {F} m k f g e same is on =
    subst (λ (x : Mesh Point DE UE F). IsOnFace x.shape g e) same (subst (λ (i : ℕ). IsOnFace k.shape i e) is on)
