-- One rename after another.
use Rattle.std.proofs.Common.{◌≡◌, inl, inr, ℕ, ◌<◌, ◌≤◌, true, List, [], ◌∷◌, map, refl, sym, ap, ◌∙◌, subst, arith}
use Rattle.std.proofs.lemmas.Bool.{cases_lt}
use Rattle.std.proofs.lemmas.List.{map-append}
use Rattle.dcel_maps.specs.Cyclic.{from_least}
use Rattle.dcel_maps.specs.Shapes.{IsLive, IsSound, Shape, map_of, vertex_is_live}
use Rattle.dcel_maps.specs.Words.{TurnsTo, count_of, word_of}
use Rattle.dcel_maps.proofs.shapes.Renames.{IsRenamed}
use Rattle.dcel_maps.proofs.walks.Links.{links_stand}
use Rattle.dcel_maps.proofs.words.Counts.{count-later, count-same, first_or_later}
use Rattle.dcel_maps.proofs.words.Cyclic.{from_least-same}
use Rattle.dcel_maps.proofs.words.Reading.{count-le, live_in}
use Rattle.dcel_maps.proofs.words.Renames.{count-map}
use Rattle.dcel_maps.proofs.words.Turns.{from_least-turn}

pub map-map : (f g : ℕ → ℕ) (w : List ℕ) → map g (map f w) ≡ map (λ x. g (f x)) w
map-map f g [] = refl
map-map f g (x ∷ w) = ap (λ u. g (f x) ∷ u) (map-map f g w)

pub turn-map : (f : ℕ → ℕ) {w u : List ℕ} → TurnsTo w u → TurnsTo (map f w) (map f u)
turn-map f t = record {
  front = map f t.front;
  back = map f t.back;
  was = ap (map f) t.was ∙ map-append f t.front t.back;
  is = ap (map f) t.is ∙ map-append f t.back t.front;
}

-- what stands in a list under other numbers comes from an item
comes_from : (f : ℕ → ℕ) (h : ℕ) (w : List ℕ) → 0 < count_of h (map f w) → (a : ℕ) × (0 < count_of a w) × (h ≡ f a)
comes_from f h [] found = absurd (omega (arith, found))
comes_from f h (x ∷ w) found = elim (first_or_later h (f x) (map f w) found) [
  | inl same ↦ (x, omega (arith, count-same x w), same)
  | inr later ↦ let (a, there, is) = comes_from f h w later in (a, count-later a x w there, is)
]

-- different numbers keep a list without repeats
pub single-map : (f : ℕ → ℕ) (w : List ℕ) → ((a z : ℕ) → 0 < count_of a w → 0 < count_of z w → f a ≡ f z → a ≡ z)
    → ((h : ℕ) → count_of h w ≤ 1) → (h : ℕ) → count_of h (map f w) ≤ 1
single-map f w apart single h = elim (cases_lt 0 (count_of h (map f w))) [
  | inl found ↦
      let (a, there, is) = comes_from f h w found in
      let same : count_of h (map f w) ≡ count_of (f a) (map f w) = ap (λ z. count_of z (map f w)) is in
      omega (arith, same, single a, count-map f a w (λ z z_in. apart a z there z_in))
  | inr not ↦ omega (arith, not)
]

-- the least form under one rename after another is that under both
from_least-map : (f g : ℕ → ℕ) (w : List ℕ) → ((h : ℕ) → count_of h (map (λ x. g (f x)) w) ≤ 1)
    → from_least (map g (from_least (map f w))) ≡ from_least (map (λ x. g (f x)) w)
from_least-map f g w single =
    sym (from_least-same (turn-map g (from_least-turn (map f w)))
    (λ h. subst (λ (u : List ℕ). count_of h u ≤ 1) (sym (map-map f g w)) (single h)))
    ∙ ap from_least (map-map f g w)

module _ (S T U : Shape) (f f' o o' w w' g g' p p' v v' : ℕ → ℕ) (sound : IsSound S)
    (e : IsRenamed S T f f' o o' w w') (d : IsRenamed T U g g' p p' v v') where
  forth : (x : ℕ) → IsLive S x → f' (g' (g (f x))) ≡ x
  forth x live = ap f' (d.forth (f x) (e.lives x live)) ∙ e.forth x live

  word_then : (n : ℕ) → from_least (map g (from_least (map f (word_of S.words n)))) ≡ from_least (map (λ x. g (f x)) (word_of S.words n))
  word_then n =
      let live = live_in (map_of S) S.words (links_stand sound) in
      from_least-map f g (word_of S.words n)
      (single-map (λ x. g (f x)) (word_of S.words n)
      (λ a z a_in z_in same. sym (forth a (live a n a_in)) ∙ ap (λ y. f' (g' y)) same ∙ forth z (live z n z_in))
      (λ h. count-le (map_of S) S.words (links_stand sound) h n))

  pub renamed-then : IsRenamed S U (λ x. g (f x)) (λ y. f' (g' y)) (λ x. p (o x)) (λ y. o' (p' y)) (λ x. v (w x)) (λ y. w' (v' y))
  renamed-then = record {
    lives = λ x live. d.lives (f x) (e.lives x live);
    comes = λ y live. e.comes (g' y) (d.comes y live);
    forth = forth;
    back = λ y live. ap g (e.back (g' y) (d.comes y live)) ∙ d.back y live;
    turn = λ x. d.turn (f x) ∙ ap g (e.turn x);
    origin = λ x live. d.origin (f x) (e.lives x live) ∙ ap p (e.origin x live);
    vertex = λ x live.
        subst (λ z. vertex_is_live U (p z) ≡ true) (e.origin x live) (d.vertex (f x) (e.lives x live));
    vertex_forth = λ x live.
        ap o' (subst (λ z. p' (p z) ≡ z) (e.origin x live) (d.vertex_forth (f x) (e.lives x live))) ∙ e.vertex_forth x live;
    on_faces = record {
      face = λ n live. d.face (w n) (e.face n live);
      face_forth = λ n live. ap w' (d.face_forth (w n) (e.face n live)) ∙ e.face_forth n live;
      face_back = λ n below. ap v (e.face_back (v' n) (d.face_within n below)) ∙ d.face_back n below;
      face_within = λ n below. e.face_within (v' n) (d.face_within n below);
      face_comes = λ n below. d.face_comes n below ∙ e.face_comes (v' n) (d.face_within n below);
      inner = λ n inside below. e.inner (v' n) (d.inner n inside below) (d.face_within n below);
      word = λ n below.
          d.word n below ∙ ap (λ u. from_least (map g u)) (e.word (v' n) (d.face_within n below)) ∙ word_then (w' (v' n));
      outer = d.outer ∙ ap (λ u. from_least (map g u)) e.outer ∙ word_then 0;
    };
  }
