-- Whether an edge can be flipped and is wanted rests on its two faces alone: a flip leaves that as it was for each edge that lies on none
-- of the two faces of the flipped one.
use Rattle.std.proofs.Common.{◌≡◌, ◌≢◌, ◌⊎◌, inl, inr, ℕ, ◌+◌, ◌*◌, ◌/◌, ◌<◌, Bool, true, List, [], ◌∷◌, length, refl, sym, ap, ◌∙◌, subst, arith}
use Rattle.dcel_maps.specs.Conditions.{CanFlip, IsTriangle}
use Rattle.dcel_maps.specs.Cyclic.{from_least}
use Rattle.dcel_maps.specs.edits.Flip.{edge_flipped}
use Rattle.dcel_maps.specs.Maps.{Map}
use Rattle.dcel_maps.specs.Shapes.{IsLive, IsMesh, Mesh, Shape, face_count, face_of, map_of, next_of, origin_of, prev_of}
use Rattle.dcel_maps.specs.Removals.{gives_up_face, is_live}
use Rattle.dcel_maps.specs.Words.{count_of, prev_in_word, word_of}
use Rattle.dcel_maps.proofs.Liveness.{even_live, odd_live}
use Rattle.dcel_maps.proofs.edits.Around.{at_edge, known}
use Rattle.dcel_maps.proofs.edits.Flips.{at_flip, flipped_mesh}
use Rattle.dcel_maps.proofs.maps.Triangles.{IsTriangleOf, by_triangle, off_triangle}
use Rattle.dcel_maps.proofs.walks.Links.{prev-said}
use Rattle.dcel_maps.proofs.words.Counts.{count-equal, first_or_later}
use Rattle.dcel_maps.proofs.words.EachSet.{first-two_set, length-two_set, other-two_set, second-two_set}
use Rattle.dcel_maps.proofs.words.Mapped.{count-at}
use Rattle.dcel_maps.proofs.words.Reading.{face_in_word, stands_in_face, face-prev}
use Rattle.dcel_maps.proofs.words.Triangles.{triangle_read}
use Rattle.dcel_legalize.specs.Flipping.{IsDue, LiesBeside, edges_beside}

-- what stands first in a list
pub its_own : (v u : ℕ) (r : List ℕ) → v ≡ u → 0 < count_of v (u ∷ r)
its_own v u r is = omega (arith, count-equal v u r is)

pub own-listed : (s : Shape) (u v : ℕ) → v ≡ u → 0 < count_of v (edges_beside s u)
own-listed s u v is =
    its_own v u (next_of s (2 * u) / 2 ∷ prev_of s (2 * u) / 2 ∷ next_of s (2 * u + 1) / 2 ∷ prev_of s (2 * u + 1) / 2 ∷ []) is

-- what holds of five items holds of each that stands in their list
one_of_five : (P : ℕ → Type 0) (v a b c d e : ℕ) → P a → P b → P c → P d → P e → 0 < count_of v (a ∷ b ∷ c ∷ d ∷ e ∷ []) → P v
one_of_five P v a b c d e at_a at_b at_c at_d at_e found = elim (first_or_later v a (b ∷ c ∷ d ∷ e ∷ []) found) [
  | inl is ↦ subst P (sym is) at_a
  | inr in_b ↦ elim (first_or_later v b (c ∷ d ∷ e ∷ []) in_b) [
    | inl is ↦ subst P (sym is) at_b
    | inr in_c ↦ elim (first_or_later v c (d ∷ e ∷ []) in_c) [
      | inl is ↦ subst P (sym is) at_c
      | inr in_d ↦ elim (first_or_later v d (e ∷ []) in_d) [
        | inl is ↦ subst P (sym is) at_d
        | inr in_e ↦ elim (first_or_later v e [] in_e) [ inl is ↦ subst P (sym is) at_e | inr none ↦ absurd (omega (arith, none)) ]
      ]
    ]
  ]
]

-- a triangle by the links of its first half edge
by_links : (M : Map) (f x y z : ℕ) → IsTriangleOf M f x y z → IsTriangleOf M f x (M.next x) (M.prev x)
by_links M f x y z a = rw (a.next_x, a.prev_x) a

module _ {V DE UE F : Type 0} (m : Mesh V DE UE F) (mesh : IsMesh m) (u : ℕ) (can : CanFlip m.shape u) where
  abbrev s : Shape
  s = m.shape

  abbrev n : Mesh V DE UE F
  n = edge_flipped m u

  open (at_edge s u) use {e, t, f, g, ep, en, tp, tn}
  open (at_flip m u mesh can) use {was, facing, differ}
  open (known m mesh) use {sound, stands}
  open (known n (flipped_mesh m u mesh can)) use {sound as sound_after, stands as stands_after}

  f_in : f < face_count s
  f_in = sound.below_faces e was.live_x

  g_in : g < face_count s
  g_in = sound.below_faces t facing.live_x

  -- the triangles after the flip, first their words
  abbrev near_word : List ℕ
  near_word = from_least (e ∷ tp ∷ en ∷ [])

  abbrev far_word : List ℕ
  far_word = from_least (t ∷ ep ∷ tn ∷ [])

  many : face_count n.shape ≡ face_count s
  many = length-two_set s.words f g near_word far_word

  near : IsTriangleOf (map_of n.shape) f e tp en
  near =
      triangle_read (map_of n.shape) n.shape.words stands_after sound_after f e tp en (omega (arith, f_in, many))
      (first-two_set s.words f g near_word far_word [] differ f_in)

  far : IsTriangleOf (map_of n.shape) g t ep tn
  far =
      triangle_read (map_of n.shape) n.shape.words stands_after sound_after g t ep tn (omega (arith, g_in, many))
      (second-two_set s.words f g near_word far_word [] g_in)

  -- the word of any other face, and the origin of any other half edge
  word_same : (k : ℕ) → k ≢ f → k ≢ g → word_of n.shape.words k ≡ word_of s.words k
  word_same k not_f not_g = other-two_set s.words f g near_word far_word [] k not_f not_g

  origin_same : (h : ℕ) → h ≢ e → h ≢ t → origin_of n.shape h ≡ origin_of s h
  origin_same h not_e not_t = other-two_set s.origins e t (origin_of s ep) (origin_of s tp) 0 h not_e not_t

  -- a half edge on neither face of the flipped edge
  module _ (h : ℕ) (live : IsLive n.shape h) (not_f : face_of n.shape h ≢ f) (not_g : face_of n.shape h ≢ g) where
    abbrev k : ℕ
    k = face_of n.shape h

    face_was : face_of s h ≡ k
    face_was =
        face_in_word (map_of s) s.words stands h k
        (subst (λ (w : List ℕ). 0 < count_of h w) (word_same k not_f not_g) (stands_in_face (map_of n.shape) n.shape.words stands_after h live))

    prev_was : prev_of s h ≡ prev_of n.shape h
    prev_was =
        prev-said mesh.sound h live ∙ ap (λ z. prev_in_word h (word_of s.words z)) face_was
        ∙ ap (prev_in_word h) (sym (word_same k not_f not_g)) ∙ sym (prev-said (flipped_mesh m u mesh can).sound h live)

    not_halves : (x : ℕ) → face_of n.shape x ≡ k → (x ≢ e) × (x ≢ t)
    not_halves x on = (
      λ is. not_f (sym on ∙ ap (face_of n.shape) is ∙ near.face_x),
      λ is. not_g (sym on ∙ ap (face_of n.shape) is ∙ far.face_x),
    )

    origin_was : origin_of s h ≡ origin_of n.shape h
    origin_was = let off = not_halves h refl in sym (origin_same h off.0 off.1)

    corner_was : origin_of s (prev_of s h) ≡ origin_of n.shape (prev_of n.shape h)
    corner_was =
        let off = not_halves (prev_of n.shape h) (face-prev (map_of n.shape) n.shape.words stands_after h live) in
        ap (origin_of s) prev_was ∙ sym (origin_same (prev_of n.shape h) off.0 off.1)

    triangle_was : IsTriangle n.shape k → IsTriangle s (face_of s h)
    triangle_was is =
        subst (IsTriangle s) (sym face_was) record {
          live = subst (λ (c : ℕ). is_live (gives_up_face s.removal) c k ≡ true) many is.live;
          three = ap length (sym (word_same k not_f not_g)) ∙ is.three;
        }

  -- an edge on neither
  module _ (w : List ℕ → Bool) (v : ℕ) (off : ¬ LiesBeside n.shape u v) where
    off_faces : (h : ℕ) → h / 2 ≡ v → IsLive n.shape h → (face_of n.shape h ≢ f) × (face_of n.shape h ≢ g)
    off_faces h of_edge live = (
      λ on. off record { half = h; of_edge = of_edge; live = live; on_face = inl (on ∙ sym near.face_x) },
      λ on. off record { half = h; of_edge = of_edge; live = live; on_face = inr (on ∙ sym far.face_x) },
    )

    pub due_was : IsDue w n.shape v → IsDue w s v
    due_was due =
        let live_a : IsLive n.shape (2 * v) = even_live n.shape v due.can.live in
        let live_b : IsLive n.shape (2 * v + 1) = odd_live n.shape v due.can.live in
        let a = off_faces (2 * v) (omega arith) live_a in
        let b = off_faces (2 * v + 1) (omega arith) live_b in
        let near_corner = corner_was (2 * v) live_a a.0 a.1 in
        let far_corner = corner_was (2 * v + 1) live_b b.0 b.1 in
        record {
          can = record {
            live = due.can.live;
            triangle = triangle_was (2 * v) live_a a.0 a.1 due.can.triangle;
            facing = triangle_was (2 * v + 1) live_b b.0 b.1 due.can.facing;
            corners = λ is. due.can.corners (sym near_corner ∙ is ∙ far_corner);
          };
          wanted =
              rw (origin_was (2 * v) live_a a.0 a.1, origin_was (2 * v + 1) live_b b.0 b.1, near_corner, far_corner) due.wanted;
        }

  -- the triangles by the links after the flip
  near_own : IsTriangleOf (map_of n.shape) f e (next_of n.shape e) (prev_of n.shape e)
  near_own = by_links (map_of n.shape) f e (prev_of s t) (next_of s e) near

  far_own : IsTriangleOf (map_of n.shape) g t (next_of n.shape t) (prev_of n.shape t)
  far_own = by_links (map_of n.shape) g t (prev_of s e) (next_of s t) far

  abbrev beside_u : List ℕ
  beside_u = edges_beside n.shape u

  abbrev Listed : ℕ → Type 0
  Listed h = 0 < count_of (h / 2) beside_u

  -- what lies beside the edge after its flip is listed, and nothing else
  listed_half : (h : ℕ) → IsLive n.shape h → (face_of n.shape h ≡ f) ⊎ (face_of n.shape h ≡ g) → 0 < count_of (h / 2) (edges_beside n.shape u)
  listed_half h live (inl on) =
      let half : e / 2 ≡ u = omega arith in
      by_triangle Listed e (next_of n.shape e) (prev_of n.shape e) h
      (rw half (count-at beside_u 0 0 (omega arith)), count-at beside_u 1 0 (omega arith), count-at beside_u 2 0 (omega arith))
      (λ off. absurd (off_triangle (map_of n.shape) sound_after f e (next_of n.shape e) (prev_of n.shape e) near_own h live off on))
  listed_half h live (inr on) =
      let half : t / 2 ≡ u = omega arith in
      by_triangle Listed t (next_of n.shape t) (prev_of n.shape t) h
      (rw half (count-at beside_u 0 0 (omega arith)), count-at beside_u 3 0 (omega arith), count-at beside_u 4 0 (omega arith))
      (λ off. absurd (off_triangle (map_of n.shape) sound_after g t (next_of n.shape t) (prev_of n.shape t) far_own h live off on))

  pub listed-beside : (v : ℕ) → LiesBeside n.shape u v → 0 < count_of v (edges_beside n.shape u)
  listed-beside v beside =
      subst (λ (x : ℕ). 0 < count_of x (edges_beside n.shape u)) beside.of_edge
      (listed_half beside.half beside.live (elim beside.on_face [ inl on ↦ inl (on ∙ near.face_x) | inr on ↦ inr (on ∙ far.face_x) ]))

  pub beside-listed : (v : ℕ) → 0 < count_of v (edges_beside n.shape u) → LiesBeside n.shape u v
  beside-listed v found =
      let half : e / 2 ≡ u = omega arith in
      one_of_five (LiesBeside n.shape u) v u (next_of n.shape e / 2) (prev_of n.shape e / 2) (next_of n.shape t / 2) (prev_of n.shape t / 2)
      record { half = e; of_edge = half; live = near.live_x; on_face = inl refl }
      record { half = next_of n.shape e; of_edge = refl; live = near_own.live_y; on_face = inl (near_own.face_y ∙ sym near.face_x) }
      record { half = prev_of n.shape e; of_edge = refl; live = near_own.live_z; on_face = inl (near_own.face_z ∙ sym near.face_x) }
      record { half = next_of n.shape t; of_edge = refl; live = far_own.live_y; on_face = inr (far_own.face_y ∙ sym far.face_x) }
      record { half = prev_of n.shape t; of_edge = refl; live = far_own.live_z; on_face = inr (far_own.face_z ∙ sym far.face_x) }
      found
