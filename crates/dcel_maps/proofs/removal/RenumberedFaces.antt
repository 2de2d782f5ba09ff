-- A face gets a new number, or that of no other face.
use Rattle.std.proofs.Common.{◌≡◌, ◌≢◌, inl, inr, ◌<◌, ℕ, suc, max, sym, refl, ap, ◌∙◌, arith}
use Rattle.std.proofs.lemmas.Bool.{cases_eq}
use Rattle.dcel_maps.specs.EditLists.{Edit}
use Rattle.dcel_maps.specs.EditLists.EditKind.{numbers_changed}
use Rattle.dcel_maps.specs.Maps.{Live, Map}
use Rattle.dcel_maps.specs.theory.Sound.{Sound, Sphere}
use Rattle.dcel_maps.proofs.maps.Edits.{Renamed}
use Rattle.dcel_maps.proofs.maps.Renames.{renamed_keeps}
use Rattle.dcel_maps.proofs.maps.Updates.{put, put_other, put_same}
use Rattle.dcel_maps.proofs.words.Faces.{KeepsFace}

-- the face g gets the number n
unfoldable pub renumbered_face : Map → ℕ → ℕ → Map
renumbered_face U g n = record U {
  face = λ x. put (λ f. f) g n (U.face x);
  faces = max U.faces (suc n);
}

number_apart : (g n x y : ℕ) → (x ≢ g → x ≢ n) → (y ≢ g → y ≢ n) → put (λ f. f) g n x ≡ put (λ f. f) g n y → x ≡ y
number_apart g n x y off_x off_y same = elim (cases_eq x g) [
  | inl at_x ↦ elim (cases_eq y g) [
    | inl at_y ↦ at_x ∙ sym at_y
    | inr no_y ↦ absurd (off_y no_y (sym (put_other (λ f. f) g n y no_y) ∙ sym same ∙ ap (put (λ f. f) g n) at_x ∙ put_same (λ f. f) g n))
  ]
  | inr no_x ↦ elim (cases_eq y g) [
    | inl at_y ↦ absurd (off_x no_x (sym (put_other (λ f. f) g n x no_x) ∙ same ∙ ap (put (λ f. f) g n) at_y ∙ put_same (λ f. f) g n))
    | inr no_y ↦ sym (put_other (λ f. f) g n x no_x) ∙ same ∙ put_other (λ f. f) g n y no_y
  ]
]

number_below : (g n x : ℕ) (faces : ℕ) → x < faces → put (λ f. f) g n x < max faces (suc n)
number_below g n x faces below = elim (cases_eq x g) [
  | inl at ↦ let new : put (λ f. f) g n x ≡ n = ap (put (λ f. f) g n) at ∙ put_same (λ f. f) g n in omega (arith, new)
  | inr other ↦ let old : put (λ f. f) g n x ≡ x = put_other (λ f. f) g n x other in omega (arith, old, below)
]

face_renamed : (U : Map) (g n : ℕ) → Sound U → ((x : ℕ) → Live U x → U.face x ≢ g → U.face x ≢ n)
    → Renamed U (renumbered_face U g n) (λ x. x) (λ x. x) (λ v. v) (put (λ f. f) g n)
unfolding renumbered_face
face_renamed U g n s vacant = record {
  lives = λ x l. l;
  comes = λ x l. l;
  forth = λ x l. refl;
  back = λ x l. refl;
  turn = λ x l. refl;
  next = λ x l. refl;
  prev = λ x l. refl;
  origin = λ x l. refl;
  face = λ x l. refl;
  apart_origin = λ x y l m e. e;
  apart_face = λ x y l m e. number_apart g n (U.face x) (U.face y) (vacant x l) (vacant y m) e;
  below_edges = s.below_edges;
  below_vertices = s.below_vertices;
  below_faces = λ x l. number_below g n (U.face x) U.faces (s.below_faces x l);
}

-- the map of which a face got the number n
pub record Numbered (U P : Map) (g n : ℕ) : Type 0 where
  pub sound : Sound P
  pub sphere : Sphere P
  pub edge : (u : ℕ) → P.edge u ≡ U.edge u
  pub next : (x : ℕ) → P.next x ≡ U.next x
  pub prev : (x : ℕ) → P.prev x ≡ U.prev x
  pub origin : (x : ℕ) → P.origin x ≡ U.origin x
  pub face_there : (x : ℕ) → U.face x ≡ g → P.face x ≡ n
  pub face_other : (x : ℕ) → U.face x ≢ g → P.face x ≡ U.face x
  pub keeps_face : (f : ℕ) → f ≢ n → f ≢ g → KeepsFace U P f
  pub edge_count : P.edges ≡ U.edges
  pub vertex_count : P.vertices ≡ U.vertices
  pub face_number : P.faces ≡ max U.faces (suc n)

pub numbered : (U : Map) (g n : ℕ) → Sound U → Sphere U → ((x : ℕ) → Live U x → U.face x ≢ g → U.face x ≢ n) → Numbered U (renumbered_face U g n) g n
unfolding renumbered_face
numbered U g n sound sphere vacant =
    let keeps = renamed_keeps U (renumbered_face U g n) (λ x. x) (λ x. x) (λ v. v) (put (λ f. f) g n) (face_renamed U g n sound vacant) sound sphere in
    record {
      sound = keeps.0;
      sphere = keeps.1;
      edge = λ u. refl;
      next = λ x. refl;
      prev = λ x. refl;
      origin = λ x. refl;
      face_there = λ x at. ap (put (λ f. f) g n) at ∙ put_same (λ f. f) g n;
      face_other = λ x other. put_other (λ f. f) g n (U.face x) other;
      keeps_face = λ f off_n off_g. record {
        comes = λ x live at. elim (cases_eq (U.face x) g) [
          | inl there ↦ absurd (off_n (sym at ∙ ap (put (λ f. f) g n) there ∙ put_same (λ f. f) g n))
          | inr other ↦ (live, sym (put_other (λ f. f) g n (U.face x) other) ∙ at)
        ];
        live = λ x live at. live;
        next = λ x live at. refl;
        prev = λ x live at. refl;
        face = λ x live at. put_other (λ f. f) g n (U.face x) (λ i. off_g (sym at ∙ i)) ∙ at;
      };
      edge_count = refl;
      vertex_count = refl;
      face_number = refl;
    }

pub renumbered_edit : (U : Map) (g n : ℕ) → Sound U → ((x : ℕ) → Live U x → U.face x ≢ g → U.face x ≢ n) → Edit numbers_changed U (renumbered_face U g n)
renumbered_edit U g n sound vacant = (λ x. x, λ x. x, λ v. v, put (λ f. f) g n, face_renamed U g n sound vacant)
