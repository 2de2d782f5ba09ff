-- A face that is given up is taken out: what is left is sound, and a sphere.
use Rattle.std.proofs.Common.{◌≡◌, ◌≢◌, inl, inr, ℕ, ◌-◌, ◌/◌, ◌<◌, ◌≤◌, true, not, [], map, nat_lt, ◌&&◌, refl, sym, ap, ◌∙◌, subst, arith}
use Rattle.std.proofs.lemmas.Bool.{both_ways, cases_eq, false_from_ne_true}
use Rattle.dcel_maps.specs.Cyclic.{from_least}
use Rattle.dcel_maps.specs.Removals.{gives_up_face}
use Rattle.dcel_maps.specs.Renumbering.{moved, shape_without_face, without_face}
use Rattle.dcel_maps.specs.Shapes.{IsSound, Shape, edge_is_live, face_count, face_is_live, origin_of, vertex_is_live}
use Rattle.dcel_maps.specs.Words.{word_of}
use Rattle.dcel_maps.proofs.Liveness.{is_live-from, is_live-parts}
use Rattle.dcel_maps.proofs.maps.Counts.{same_tests}
use Rattle.dcel_maps.proofs.renumbering.LastPut.{length-last_put}
use Rattle.dcel_maps.proofs.renumbering.Moves.{last_put-moved, moved-back, moved-below, moved-last, moved-other, moved-within}
use Rattle.dcel_maps.proofs.renumbering.Records.{without_face-loses}
use Rattle.dcel_maps.proofs.shapes.Renames.{IsRenamed}
use Rattle.dcel_maps.proofs.shapes.SameNumbers.{word-kept}

-- d is the largest face that is given up
pub record IsLastFaceOut (s : Shape) (d : ℕ) : Type 0 where
  pub given : gives_up_face s.removal d ≡ true
  pub largest : (g : ℕ) → gives_up_face s.removal g ≡ true → g ≤ d
  pub below : d < face_count s
  pub inner : 0 < d

module _ (s : Shape) (d : ℕ) where
  edge-live : (u : ℕ) → edge_is_live (shape_without_face s d) u ≡ edge_is_live s u
  edge-live u = ap (λ b. nat_lt u s.edges && not b) ((without_face-loses s.removal d).others u)

  vertex-live : (v : ℕ) → vertex_is_live (shape_without_face s d) v ≡ vertex_is_live s v
  vertex-live v = ap (λ b. nat_lt v s.vertices && not b) ((without_face-loses s.removal d).vertices v)

  pub faces-left : face_count (shape_without_face s d) ≡ face_count s - 1
  faces-left = length-last_put 1 s.words d

module _ (s : Shape) (d : ℕ) (sound : IsSound s) (out : IsLastFaceOut s d) where
  stays : (g : ℕ) → face_is_live s g ≡ true → g ≢ d
  stays g live same =
      both_ways (gives_up_face s.removal g) (is_live-parts (gives_up_face s.removal) (face_count s) g live).1
      (ap (gives_up_face s.removal) same ∙ out.given)

  moved-live : (g : ℕ) → face_is_live s g ≡ true → face_is_live (shape_without_face s d) (moved (face_count s - 1) d g) ≡ true
  moved-live g live =
      let was = is_live-parts (gives_up_face s.removal) (face_count s) g live in
      let other = stays g live in
      let below = out.below in
      is_live-from (gives_up_face (without_face s.removal d)) (face_count (shape_without_face s d)) (moved (face_count s - 1) d g)
      (omega (arith, faces-left s d, moved-below (face_count s - 1) d g (omega arith) (omega (arith, was.0)) other))
      (elim (cases_eq g (face_count s - 1)) [
        | inl last ↦
            ap (λ k. gives_up_face (without_face s.removal d) (moved (face_count s - 1) d k)) last
            ∙ ap (gives_up_face (without_face s.removal d)) (moved-last (face_count s - 1) d) ∙ (without_face-loses s.removal d).gone
        | inr inside ↦
            ap (gives_up_face (without_face s.removal d)) (moved-other (face_count s - 1) d g inside)
            ∙ (without_face-loses s.removal d).rest g other ∙ was.1
      ])

  back-live : (g : ℕ) → face_is_live (shape_without_face s d) g ≡ true → face_is_live s (moved d (face_count s - 1) g) ≡ true
  back-live g live =
      let is = is_live-parts (gives_up_face (without_face s.removal d)) (face_count (shape_without_face s d)) g live in
      let left = faces-left s d in
      let below = out.below in
      elim (cases_eq g d) [
        | inl same ↦
            ap (λ k. face_is_live s (moved d (face_count s - 1) k)) same ∙ ap (face_is_live s) (moved-last d (face_count s - 1))
            ∙ is_live-from (gives_up_face s.removal) (face_count s) (face_count s - 1) (omega arith)
            (false_from_ne_true (gives_up_face s.removal (face_count s - 1))
            (λ given. omega (arith, is.0, left, same, out.largest (face_count s - 1) given)))
        | inr other ↦
            ap (face_is_live s) (moved-other d (face_count s - 1) g other)
            ∙ is_live-from (gives_up_face s.removal) (face_count s) g (omega (arith, is.0, left))
            (sym ((without_face-loses s.removal d).rest g other) ∙ is.1)
      ]

  forth : (g : ℕ) → face_is_live s g ≡ true → moved d (face_count s - 1) (moved (face_count s - 1) d g) ≡ g
  forth g live = moved-back (face_count s - 1) d g (stays g live)

  pub face-back : (g : ℕ) → g < face_count (shape_without_face s d) → moved (face_count s - 1) d (moved d (face_count s - 1) g) ≡ g
  face-back g below = let left = faces-left s d in moved-back d (face_count s - 1) g (omega (arith, below, left))

  -- a number that is left is live just where it was
  comes : (g : ℕ) → g < face_count (shape_without_face s d) → face_is_live (shape_without_face s d) g ≡ face_is_live s (moved d (face_count s - 1) g)
  comes g below =
      same_tests (face_is_live (shape_without_face s d) g) (face_is_live s (moved d (face_count s - 1) g)) (back-live g)
      (λ live. subst (λ k. face_is_live (shape_without_face s d) k ≡ true) (face-back g below) (moved-live (moved d (face_count s - 1) g) live))

  word-moved : (g : ℕ) → g < face_count (shape_without_face s d)
      → word_of (shape_without_face s d).words g ≡ from_least (map (λ h. h) (word_of s.words (moved d (face_count s - 1) g)))
  word-moved g below =
      let left = faces-left s d in
      last_put-moved [] s.words d g out.below (omega (arith, below, left)) ∙ sym (word-kept s sound (moved d (face_count s - 1) g))

  inner : (g : ℕ) → 0 < g → g < face_count (shape_without_face s d) → 0 < moved d (face_count s - 1) g
  inner g inside below = elim (cases_eq g d) [
    | inl same ↦ rw (same, moved-last d (face_count s - 1)) (omega (arith, out.below, out.inner))
    | inr other ↦ rw (moved-other d (face_count s - 1) g other) inside
  ]

  -- one step of renumbering gives the faces other numbers
  pub face-renamed : IsRenamed s (shape_without_face s d) (λ h. h) (λ h. h) (λ v. v) (λ v. v) (moved (face_count s - 1) d) (moved d (face_count s - 1))
  face-renamed = record {
    lives = λ x live. edge-live s d (x / 2) ∙ live;
    comes = λ y live. sym (edge-live s d (y / 2)) ∙ live;
    forth = λ x live. refl;
    back = λ y live. refl;
    turn = λ x. refl;
    origin = λ x live. refl;
    vertex = λ x live. vertex-live s d (origin_of s x) ∙ sound.starts_live x live;
    vertex_forth = λ x live. refl;
    on_faces = record {
      face = moved-live;
      face_forth = forth;
      face_back = face-back;
      face_within = λ g below. moved-within d (face_count s) g out.below (omega (arith, below, faces-left s d));
      face_comes = comes;
      inner = inner;
      word = word-moved;
      outer =
          word-moved 0 (omega (arith, faces-left s d, out.below, out.inner))
          ∙ ap (λ g. from_least (map (λ h. h) (word_of s.words g))) (moved-other d (face_count s - 1) 0 (λ e. omega (arith, e, out.inner)));
    };
  }
