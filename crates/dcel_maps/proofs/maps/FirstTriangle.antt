-- A triangle alone is sound and a sphere: a first edge, a spur and an ear.
use Rattle.std.proofs.Common.{◌≡◌, ◌≢◌, ℕ, zero, suc, ◌+◌, ◌/◌, ◌<◌, true, false, nat_lt, List, [], ◌∷◌, slice_index, refl, sym, arith, le-ltb, ltb-true}
use Rattle.std.proofs.lemmas.Bool.{false≢true}
use Rattle.std.proofs.lemmas.Bool.Decides.{nat_tests}
use Rattle.dcel_fixed.specs.HalfEdges.{rev}
use Rattle.dcel_maps.specs.EditLists.{ComesBy, nothing}
use Rattle.dcel_maps.specs.EditLists.EditKind.{ear_cut, first_edge, spur_added}
use Rattle.dcel_maps.specs.Maps.{Map, Live}
use Rattle.dcel_maps.proofs.maps.Edits.{FirstEdge, Grows, Spur, Ear, two as pair}
use Rattle.dcel_maps.proofs.maps.Firsts.{first_keeps}
use Rattle.dcel_maps.proofs.maps.Lists.{comes_first, comes_once, ear_after}

-- what holds of the first two, four or six numbers holds of each below
pub below_two : (P : ℕ → Type 0) → P 0 → P 1 → (x : ℕ) → x < 2 → P x
below_two P p q zero l = p
below_two P p q (suc zero) l = q
below_two P p q (suc (suc x)) l = absurd (omega arith)

pub below_four : (P : ℕ → Type 0) → P 0 → P 1 → P 2 → P 3 → (x : ℕ) → x < 4 → P x
below_four P p q r s zero l = p
below_four P p q r s (suc zero) l = q
below_four P p q r s (suc (suc x)) l = below_two (λ y. P (suc (suc y))) r s x (omega arith)

pub below_six : (P : ℕ → Type 0) → P 0 → P 1 → P 2 → P 3 → P 4 → P 5 → (x : ℕ) → x < 6 → P x
below_six P p q r s t u zero l = p
below_six P p q r s t u (suc zero) l = q
below_six P p q r s t u (suc (suc x)) l = below_four (λ y. P (suc (suc y))) r s t u x (omega arith)

-- three vertices and two faces, with so many edges, and these links
abbrev listed : ℕ → List ℕ → List ℕ → List ℕ → List ℕ → Map
listed edges next prev origin face = record {
  vertices = 3;
  edges = edges;
  faces = 2;
  edge = λ u. nat_lt u edges;
  next = λ h. slice_index next h;
  prev = λ h. slice_index prev h;
  origin = λ h. slice_index origin h;
  face = λ h. slice_index face h;
}

-- one edge more
one_more : (S T : Map) (n h : ℕ) → S.edges ≡ n → T.edges ≡ n + 1 → ((u : ℕ) → S.edge u ≡ nat_lt u n) → ((u : ℕ) → T.edge u ≡ nat_lt u (n + 1))
    → T.vertices ≡ S.vertices → h / 2 ≡ n → Grows S T h
one_more S T n h before after was is vertices half = record {
  edge_here = let i = is (h / 2) in grind (arith, nat_tests);
  edge_other = λ u differs. let i = is u in let j = was u in grind (arith, nat_tests);
  edges = omega arith;
  edge_below = omega arith;
  vertices = vertices;
}

-- an edge; with a spur; and with the ear over it, which closes the triangle
abbrev one : Map
one = listed 1 (1 ∷ 0 ∷ []) (1 ∷ 0 ∷ []) (0 ∷ 1 ∷ []) (0 ∷ 0 ∷ [])

abbrev two : Map
two = listed 2 (2 ∷ 0 ∷ 3 ∷ 1 ∷ []) (1 ∷ 3 ∷ 0 ∷ 2 ∷ []) (0 ∷ 1 ∷ 1 ∷ 2 ∷ []) (0 ∷ 0 ∷ 0 ∷ 0 ∷ [])

abbrev pub triangle : Map
triangle = listed 3 (2 ∷ 5 ∷ 4 ∷ 1 ∷ 0 ∷ 3 ∷ []) (4 ∷ 3 ∷ 0 ∷ 5 ∷ 2 ∷ 1 ∷ []) (0 ∷ 1 ∷ 1 ∷ 2 ∷ 2 ∷ 0 ∷ []) (0 ∷ 1 ∷ 0 ∷ 1 ∷ 0 ∷ 1 ∷ [])

each_one : (P : ℕ → Type 0) → P 0 → P 1 → (x : ℕ) → Live one x → P x
each_one P p q x live = below_two P p q x (let below = ltb-true (x / 2) 1 live in omega arith)

each_two : (P : ℕ → Type 0) → P 0 → P 1 → P 2 → P 3 → (x : ℕ) → Live two x → P x
each_two P p q r s x live = below_four P p q r s x (let below = ltb-true (x / 2) 2 live in omega arith)

first : FirstEdge one 0 0 1
unfolding rev
first = record {
  edge_here = refl;
  edge_other = λ u differs. le-ltb u 1 (omega (arith, differs));
  next_h = refl;
  next_rev = refl;
  prev_h = refl;
  prev_rev = refl;
  origin_h = refl;
  origin_rev = refl;
  apart = λ e. omega (arith, e);
  face_h = refl;
  face_rev = refl;
  edge_below = omega arith;
  below_a = omega arith;
  below_b = omega arith;
  below_0 = omega arith;
}

second : Spur one two 0 2 2
unfolding rev
second = record {
  at = record {
    lives = refl;
    fresh = refl;
    isolated = each_one (λ x. one.origin x ≢ 2) (λ e. omega (arith, e)) (λ e. omega (arith, e));
    vertex_room = omega arith;
  };
  drawn = record {
    grows = one_more one two 1 2 refl refl (λ u. refl) (λ u. refl) refl refl;
    origin_h = refl;
    origin_rev = refl;
    origin_other = each_one (λ x. two.origin x ≡ one.origin x) refl refl;
  };
  next_a = refl;
  next_h = refl;
  next_rev = refl;
  next_other = each_one (λ x. x ≢ 0 → two.next x ≡ one.next x) (λ d. absurd (d refl)) (λ d. refl);
  prev_b = refl;
  prev_rev = refl;
  prev_h = refl;
  prev_other = each_one (λ x. x ≢ 1 → two.prev x ≡ one.prev x) (λ d. refl) (λ d. absurd (d refl));
  face_h = refl;
  face_rev = refl;
  face_other = each_one (λ x. two.face x ≡ one.face x) refl refl;
  faces = refl;
}

third : Ear two triangle 3 1 0 4 1
unfolding rev
third = record {
  at = record {
    lives = refl;
    next_p = refl;
    next_n = refl;
    apart = λ e. omega (arith, e);
    fresh = refl;
    vacant = each_two (λ x. two.face x ≢ 1) (λ e. omega (arith, e)) (λ e. omega (arith, e)) (λ e. omega (arith, e)) (λ e. omega (arith, e));
  };
  cut = record {
    drawn = record {
      grows = one_more two triangle 2 4 refl refl (λ u. refl) (λ u. refl) refl refl;
      origin_h = refl;
      origin_rev = refl;
      origin_other = each_two (λ x. triangle.origin x ≡ two.origin x) refl refl refl refl;
    };
    next_to_h = refl;
    next_h = refl;
    next_to_rev = refl;
    next_rev = refl;
    next_other = each_two (λ x. x ≢ 2 → x ≢ 1 → triangle.next x ≡ two.next x) (λ d e. refl) (λ d e. absurd (e refl)) (λ d e. absurd (d refl)) (λ d e. refl);
    prev_h = refl;
    prev_q = refl;
    prev_rev = refl;
    prev_p = refl;
    prev_other = each_two (λ x. x ≢ 3 → x ≢ 0 → triangle.prev x ≡ two.prev x) (λ d e. absurd (e refl)) (λ d e. refl) (λ d e. refl) (λ d e. absurd (d refl));
    face_h = refl;
    face_rev = refl;
    face_in = each_two (λ x. pair 3 1 x ≡ true → triangle.face x ≡ 1) (λ t. absurd (false≢true t)) (λ t. refl) (λ t. absurd (false≢true t)) (λ t. refl);
    face_out = each_two (λ x. pair 3 1 x ≡ false → triangle.face x ≡ two.face x) (λ t. refl) (λ t. absurd (false≢true (sym t))) (λ t. refl) (λ t. absurd (false≢true (sym t)));
    faces = omega arith;
    face_below = omega arith;
  };
}

-- a first edge, a spur and an ear
pub triangle_made : ComesBy (first_edge ∷ spur_added ∷ ear_cut ∷ []) nothing triangle
triangle_made =
    let begun = first_keeps one 0 0 1 first in
    comes_first first_edge (spur_added ∷ ear_cut ∷ []) nothing one triangle (0, 0, 1, λ u. refl, first)
    (ear_after (spur_added ∷ []) one two triangle 3 1 0 4 1 begun.0 begun.1 (comes_once spur_added one two (0, 2, 2, second)) third)
