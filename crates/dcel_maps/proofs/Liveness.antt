-- When a number is live: it is below its count and not given up.
use Rattle.std.proofs.Common.{◌≡◌, ◌≢◌, ◌⊎◌, inl, inr, ℕ, ◌+◌, ◌*◌, ◌/◌, ◌<◌, ◌≤◌, Bool, true, false, not, nat_lt, ◌&&◌, refl, sym, ap, ◌∙◌, lt-ltb, le-ltb, ltb-true, ltb-false, arith, []}
use Rattle.std.proofs.lemmas.Bool.{cases_lt, false≢true, and_parts, and_from, and_cases, and_left, and_right, not-true, not-false, not_from_true, not_from_false, false_from_ne_true}
use Rattle.dcel_maps.specs.Removals.{Removal, Closed, gives_up_vertex, gives_up_edge, gives_up_face, is_live, IsWithin}
use Rattle.dcel_maps.specs.Shapes.{Shape, IsLive, IsSound, edge_is_live, origin_of, vertex_is_live, face_count, face_is_live}
use Rattle.std.proofs.lemmas.List.{get_or_past}
use Rattle.dcel_maps.specs.Words.{word_of}

-- live is below the count and not given up, both ways
pub is_live-parts : (g : ℕ → Bool) (n k : ℕ) → is_live g n k ≡ true → (k < n) × (g k ≡ false)
is_live-parts g n k live =
    let both = and_parts (nat_lt k n) (not (g k)) live in
    (ltb-true k n both.0, not-true (g k) both.1)

pub is_live-from : (g : ℕ → Bool) (n k : ℕ) → k < n → g k ≡ false → is_live g n k ≡ true
is_live-from g n k below kept = and_from (nat_lt k n) (not (g k)) (lt-ltb k n below) (not_from_false (g k) kept)

-- what is past the count is not live
pub is_live-past : (g : ℕ → Bool) (n k : ℕ) → n ≤ k → is_live g n k ≡ false
is_live-past g n k past = and_left (nat_lt k n) (not (g k)) (le-ltb k n past)

-- what is given up is not live
pub is_live-given_up : (g : ℕ → Bool) (n k : ℕ) → g k ≡ true → is_live g n k ≡ false
is_live-given_up g n k given = and_right (nat_lt k n) (not (g k)) (not_from_true (g k) given)

-- what is not live is past the count or given up
pub is_live-cases : (g : ℕ → Bool) (n k : ℕ) → is_live g n k ≡ false → (n ≤ k) ⊎ (g k ≡ true)
is_live-cases g n k dead = elim (and_cases (nat_lt k n) (not (g k)) dead) [
  | inl past ↦ inl (ltb-false k n past)
  | inr given ↦ inr (not-false (g k) given)
]

-- the count grows by one: the new number is live where it is not given up
pub is_live-last : (g : ℕ → Bool) (n : ℕ) → g n ≡ false → is_live g (n + 1) n ≡ true
is_live-last g n kept = is_live-from g (n + 1) n (omega arith) kept

-- the other numbers are live as before
pub is_live-grown : (g : ℕ → Bool) (n k : ℕ) → k ≢ n → is_live g (n + 1) k ≡ is_live g n k
is_live-grown g n k other = elim (cases_lt k n) [
  | inl below ↦ ap (λ t. t && not (g k)) (lt-ltb k (n + 1) (omega arith) ∙ sym (lt-ltb k n below))
  | inr past ↦ is_live-past g (n + 1) k (omega arith) ∙ sym (is_live-past g n k past)
]

-- a count may grow: what is below the new count just where it is below the old one is live as before
pub is_live-more : (g : ℕ → Bool) (n m k : ℕ) → n ≤ m → (k < m → k < n) → is_live g m k ≡ is_live g n k
is_live-more g n m k more old = elim (cases_lt k n) [
  | inl below ↦ ap (λ t. t && not (g k)) (lt-ltb k m (omega arith) ∙ sym (lt-ltb k n below))
  | inr past ↦ elim (cases_lt k m) [
    | inl here ↦ absurd (omega (arith, old here))
    | inr beyond ↦ is_live-past g m k beyond ∙ sym (is_live-past g n k past)
  ]
]

-- while no removal is open nothing is given up
pub gives_up_vertex-closed : (v : ℕ) → gives_up_vertex Closed v ≡ false
unfolding gives_up_vertex
gives_up_vertex-closed v = refl

pub gives_up_edge-closed : (u : ℕ) → gives_up_edge Closed u ≡ false
unfolding gives_up_edge
gives_up_edge-closed u = refl

pub gives_up_face-closed : (f : ℕ) → gives_up_face Closed f ≡ false
unfolding gives_up_face
gives_up_face-closed f = refl

pub IsWithin-closed : (vertices edges faces : ℕ) → IsWithin Closed vertices edges faces
IsWithin-closed vertices edges faces = record {
  vertices = λ v given. absurd (false≢true (sym (gives_up_vertex-closed v) ∙ given));
  edges = λ u given. absurd (false≢true (sym (gives_up_edge-closed u) ∙ given));
  faces = λ f given. absurd (false≢true (sym (gives_up_face-closed f) ∙ given));
  in_order = tt;
}

-- and each vertex in range is live
pub closed-vertex_live : (s : Shape) → s.removal ≡ Closed → (v : ℕ) → v < s.vertices → vertex_is_live s v ≡ true
closed-vertex_live s closed v below =
    is_live-from (gives_up_vertex s.removal) s.vertices v below (ap (λ r. gives_up_vertex r v) closed ∙ gives_up_vertex-closed v)

-- and each edge
pub closed-live : (s : Shape) → s.removal ≡ Closed → (u : ℕ) → u < s.edges → edge_is_live s u ≡ true
closed-live s closed u below =
    is_live-from (gives_up_edge s.removal) s.edges u below (ap (λ r. gives_up_edge r u) closed ∙ gives_up_edge-closed u)

pub closed-half_live : (s : Shape) → s.removal ≡ Closed → (h : ℕ) → h < 2 * s.edges → IsLive s h
closed-half_live s closed h below = closed-live s closed (h / 2) (omega (arith, below))

-- the halves of a live edge are live
pub even_live : (s : Shape) (u : ℕ) → edge_is_live s u ≡ true → IsLive s (2 * u)
even_live s u live = let half : 2 * u / 2 ≡ u = omega arith in rw half live

pub odd_live : (s : Shape) (u : ℕ) → edge_is_live s u ≡ true → IsLive s (2 * u + 1)
odd_live s u live = let half : (2 * u + 1) / 2 ≡ u = omega arith in rw half live

pub closed-even_live : (s : Shape) → s.removal ≡ Closed → (u : ℕ) → u < s.edges → IsLive s (2 * u)
closed-even_live s closed u below = even_live s u (closed-live s closed u below)

pub closed-odd_live : (s : Shape) → s.removal ≡ Closed → (u : ℕ) → u < s.edges → IsLive s (2 * u + 1)
closed-odd_live s closed u below = odd_live s u (closed-live s closed u below)

-- what is past the counts is not given up
pub gives_up_vertex-past : {r : Removal} {vertices edges faces : ℕ} → IsWithin r vertices edges faces
    → (v : ℕ) → vertices ≤ v → gives_up_vertex r v ≡ false
gives_up_vertex-past {r = r} within v past =
    false_from_ne_true (gives_up_vertex r v) (λ given. let below = within.vertices v given in omega arith)

pub gives_up_edge-past : {r : Removal} {vertices edges faces : ℕ} → IsWithin r vertices edges faces
    → (u : ℕ) → edges ≤ u → gives_up_edge r u ≡ false
gives_up_edge-past {r = r} within u past =
    false_from_ne_true (gives_up_edge r u) (λ given. let below = within.edges u given in omega arith)

pub gives_up_face-past : {r : Removal} {vertices edges faces : ℕ} → IsWithin r vertices edges faces
    → (f : ℕ) → faces ≤ f → gives_up_face r f ≡ false
gives_up_face-past {r = r} within f past =
    false_from_ne_true (gives_up_face r f) (λ given. let below = within.faces f given in omega arith)

-- the outer face is never given up
pub gives_up_face-outer : {r : Removal} {vertices edges faces : ℕ} → IsWithin r vertices edges faces → gives_up_face r 0 ≡ false
gives_up_face-outer {r = r} within =
    false_from_ne_true (gives_up_face r 0) (λ given. let below = within.faces 0 given in omega arith)

-- the counts may grow
pub IsWithin-grown : {r : Removal} {vertices edges faces more_vertices more_edges more_faces : ℕ} → IsWithin r vertices edges faces
    → vertices ≤ more_vertices → edges ≤ more_edges → faces ≤ more_faces → IsWithin r more_vertices more_edges more_faces
IsWithin-grown within v e f = record {
  vertices = λ k given. let below = within.vertices k given in omega arith;
  edges = λ k given. let below = within.edges k given in omega arith;
  faces = λ k given. let below = within.faces k given in (below.0, omega arith);
  in_order = within.in_order;
}

-- a live vertex is in range and not given up
pub vertex_live-parts : (s : Shape) (v : ℕ) → vertex_is_live s v ≡ true → (v < s.vertices) × (gives_up_vertex s.removal v ≡ false)
vertex_live-parts s v live = is_live-parts (gives_up_vertex s.removal) s.vertices v live

-- and live half edges start at such
pub start-parts : (s : Shape) → IsSound s → (h : ℕ) → IsLive s h → (origin_of s h < s.vertices) × (gives_up_vertex s.removal (origin_of s h) ≡ false)
start-parts s sound h live = vertex_live-parts s (origin_of s h) (sound.starts_live h live)

-- a face that is not live has no word, where those that are given up have none
pub bare_word : (s : Shape) → ((f : ℕ) → gives_up_face s.removal f ≡ true → word_of s.words f ≡ []) → (f : ℕ) → face_is_live s f ≡ false
    → word_of s.words f ≡ []
bare_word s given f dead = elim (is_live-cases (gives_up_face s.removal) (face_count s) f dead) [
  | inl past ↦ get_or_past s.words f [] past
  | inr gone ↦ given f gone
]
