-- An edge that is given up is taken out: what is left is sound, and a sphere.
use Rattle.std.proofs.Common.{◌≡◌, ◌≢◌, inl, inr, ℕ, zero, suc, ◌-◌, ◌*◌, ◌/◌, ◌<◌, ◌≤◌, true, not, List, [], ◌∷◌, length, map, refl, sym, ap, ◌∙◌, arith, ◌&&◌, nat_lt}
use Rattle.std.proofs.lemmas.Bool.{both_ways, cases_eq, false_from_ne_true}
use Rattle.std.proofs.lemmas.List.{length-map}
use Rattle.dcel_maps.specs.Cyclic.{from_least}
use Rattle.dcel_maps.specs.Removals.{gives_up_edge, gives_up_face, is_live}
use Rattle.dcel_maps.specs.Renumbering.{half_of, moved, shape_without_edge, without_edge}
use Rattle.dcel_maps.specs.Shapes.{IsLive, IsSound, Shape, edge_is_live, face_count, face_is_live, origin_of, vertex_is_live}
use Rattle.dcel_maps.specs.Words.{word_of}
use Rattle.dcel_maps.proofs.Liveness.{is_live-from, is_live-parts}
use Rattle.dcel_maps.proofs.renumbering.Moves.{half_of-back, half_of-half, half_of-rev, last_put-half, moved-back, moved-below, moved-last, moved-other}
use Rattle.dcel_maps.proofs.renumbering.Records.{without_edge-loses}
use Rattle.dcel_maps.proofs.shapes.Renames.{IsRenamed}

-- d is the largest edge that is given up
pub record IsLastEdgeOut (s : Shape) (d : ℕ) : Type 0 where
  pub given : gives_up_edge s.removal d ≡ true
  pub largest : (u : ℕ) → gives_up_edge s.removal u ≡ true → u ≤ d
  pub below : d < s.edges
  pub origins : length s.origins ≡ 2 * s.edges

-- the words one by one
pub word_of-map : (F : List ℕ → List ℕ) (ws : List (List ℕ)) (g : ℕ) → F [] ≡ [] → word_of (map F ws) g ≡ F (word_of ws g)
word_of-map F [] g none = sym none
word_of-map F (w ∷ ws) zero none = refl
word_of-map F (w ∷ ws) (suc g) none = word_of-map F ws g none

pub from_least-nil : from_least [] ≡ []
unfolding from_least
from_least-nil = refl

module _ (s : Shape) (d : ℕ) where
  vertex-live : (v : ℕ) → vertex_is_live (shape_without_edge s d) v ≡ vertex_is_live s v
  vertex-live v = ap (λ b. nat_lt v s.vertices && not b) ((without_edge-loses s.removal d).vertices v)

  face-live : (g : ℕ) → face_is_live (shape_without_edge s d) g ≡ face_is_live s g
  face-live g =
      let faces : face_count (shape_without_edge s d) ≡ face_count s =
      length-map s.words (λ w. from_least (map (half_of (moved (s.edges - 1) d)) w)) in
      ap (λ n. is_live (gives_up_face (without_edge s.removal d)) n g) faces
      ∙ ap (λ b. nat_lt g (face_count s) && not b) ((without_edge-loses s.removal d).others g)

  words-moved : (g : ℕ) → word_of (shape_without_edge s d).words g ≡ from_least (map (half_of (moved (s.edges - 1) d)) (word_of s.words g))
  words-moved g = word_of-map (λ w. from_least (map (half_of (moved (s.edges - 1) d)) w)) s.words g from_least-nil

module _ (s : Shape) (d : ℕ) (sound : IsSound s) (out : IsLastEdgeOut s d) where
  -- a live edge is not d, and one that is left is not the last
  stays : (u : ℕ) → edge_is_live s u ≡ true → u ≢ d
  stays u live same =
      both_ways (gives_up_edge s.removal u) (is_live-parts (gives_up_edge s.removal) s.edges u live).1
      (ap (gives_up_edge s.removal) same ∙ out.given)

  moved-live : (u : ℕ) → edge_is_live s u ≡ true → edge_is_live (shape_without_edge s d) (moved (s.edges - 1) d u) ≡ true
  moved-live u live =
      let was = is_live-parts (gives_up_edge s.removal) s.edges u live in
      let other = stays u live in
      let below = out.below in
      is_live-from (gives_up_edge (without_edge s.removal d)) (s.edges - 1) (moved (s.edges - 1) d u)
      (moved-below (s.edges - 1) d u (omega arith) (omega (arith, was.0)) other)
      (elim (cases_eq u (s.edges - 1)) [
        | inl last ↦
            ap (λ k. gives_up_edge (without_edge s.removal d) (moved (s.edges - 1) d k)) last
            ∙ ap (gives_up_edge (without_edge s.removal d)) (moved-last (s.edges - 1) d) ∙ (without_edge-loses s.removal d).gone
        | inr inside ↦
            ap (gives_up_edge (without_edge s.removal d)) (moved-other (s.edges - 1) d u inside)
            ∙ (without_edge-loses s.removal d).rest u other ∙ was.1
      ])

  back-live : (u : ℕ) → edge_is_live (shape_without_edge s d) u ≡ true → edge_is_live s (moved d (s.edges - 1) u) ≡ true
  back-live u live =
      let is = is_live-parts (gives_up_edge (without_edge s.removal d)) (s.edges - 1) u live in
      let below = out.below in
      elim (cases_eq u d) [
        | inl same ↦
            ap (λ k. edge_is_live s (moved d (s.edges - 1) k)) same ∙ ap (edge_is_live s) (moved-last d (s.edges - 1))
            ∙ is_live-from (gives_up_edge s.removal) s.edges (s.edges - 1) (omega arith)
            (false_from_ne_true (gives_up_edge s.removal (s.edges - 1)) (λ given. omega (arith, is.0, same, out.largest (s.edges - 1) given)))
        | inr other ↦
            ap (edge_is_live s) (moved-other d (s.edges - 1) u other)
            ∙ is_live-from (gives_up_edge s.removal) s.edges u (omega (arith, is.0))
            (sym ((without_edge-loses s.removal d).rest u other) ∙ is.1)
      ]

  lives : (x : ℕ) → IsLive s x → IsLive (shape_without_edge s d) (half_of (moved (s.edges - 1) d) x)
  lives x live = ap (edge_is_live (shape_without_edge s d)) (half_of-half (moved (s.edges - 1) d) x) ∙ moved-live (x / 2) live

  comes : (y : ℕ) → IsLive (shape_without_edge s d) y → IsLive s (half_of (moved d (s.edges - 1)) y)
  comes y live = ap (edge_is_live s) (half_of-half (moved d (s.edges - 1)) y) ∙ back-live (y / 2) live

  -- the origins move with their half edges
  origin-moved : (x : ℕ) → IsLive s x → origin_of (shape_without_edge s d) (half_of (moved (s.edges - 1) d) x) ≡ origin_of s x
  origin-moved x live =
      last_put-half 0 s.origins s.edges d x out.origins out.below (is_live-parts (gives_up_edge s.removal) s.edges (x / 2) live).0
      (stays (x / 2) live)

  -- one step of renumbering gives the edges other numbers
  pub edge-renamed : IsRenamed s (shape_without_edge s d) (half_of (moved (s.edges - 1) d)) (half_of (moved d (s.edges - 1))) (λ v. v) (λ v. v) (λ g. g) (λ g. g)
  edge-renamed = record {
    lives = lives;
    comes = comes;
    forth = λ x live. half_of-back (moved (s.edges - 1) d) (moved d (s.edges - 1)) x (moved-back (s.edges - 1) d (x / 2) (stays (x / 2) live));
    back = λ y live. half_of-back (moved d (s.edges - 1)) (moved (s.edges - 1) d) y (moved-back d (s.edges - 1) (y / 2) (λ last.
        let is = (is_live-parts (gives_up_edge (without_edge s.removal d)) (s.edges - 1) (y / 2) live).0 in omega (arith, is, last)));
    turn = half_of-rev (moved (s.edges - 1) d);
    origin = origin-moved;
    vertex = λ x live. vertex-live s d (origin_of s x) ∙ sound.starts_live x live;
    vertex_forth = λ x live. refl;
    on_faces = record {
      face = λ g live. face-live s d g ∙ live;
      face_forth = λ g live. refl;
      face_back = λ g below. refl;
      face_within = λ g below. omega (arith, below, length-map s.words (λ w. from_least (map (half_of (moved (s.edges - 1) d)) w)));
      face_comes = λ g below. face-live s d g;
      inner = λ g inside below. inside;
      word = λ g below. words-moved s d g;
      outer = words-moved s d 0;
    };
  }
