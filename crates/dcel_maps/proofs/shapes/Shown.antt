-- Shapes that show a map: their words are those that its links lead round.
use Rattle.std.proofs.Common.{◌≡◌, inl, inr, ℕ, ◌/◌, ◌<◌, List, [], Option, Some, None, sym, ◌∙◌, subst, arith}
use Rattle.dcel_maps.specs.Maps.{Live, Map}
use Rattle.dcel_maps.specs.Shapes.{AnchorsVertex, AnchorsWord, Shape, edge_is_live, map_of, origin_of}
use Rattle.dcel_maps.specs.theory.Standing.{Stands}
use Rattle.dcel_maps.specs.Words.{count_of, word_of}
use Rattle.dcel_maps.proofs.maps.Agreement.{Agrees}
use Rattle.dcel_maps.proofs.maps.Labels.{Labelled}
use Rattle.dcel_maps.proofs.shapes.Maps.{word_cases}
use Rattle.dcel_maps.proofs.words.Agreement.{same_words_stand}
use Rattle.dcel_maps.proofs.words.Reading.{face_in-is, face_in_word, live_in, next_in-is, prev_in-is, stands_in_face}

-- the shape s shows the map T
pub record Shows (s : Shape) (T : Map) : Type 0 where
  pub vertices : s.vertices ≡ T.vertices
  pub edges : s.edges ≡ T.edges
  pub edge : (u : ℕ) → edge_is_live s u ≡ T.edge u
  pub origin : (h : ℕ) → Live T h → origin_of s h ≡ T.origin h
  pub stands : Stands T s.words

module _ (s : Shape) (T : Map) (shows : Shows s T) where
  -- then its links are those of T
  pub shown-agrees : Agrees T (map_of s)
  shown-agrees = record {
    vertices = shows.vertices;
    edges = shows.edges;
    faces = shows.stands.faces;
    edge = shows.edge;
    links = record {
      next = next_in-is T s.words shows.stands;
      prev = prev_in-is T s.words shows.stands;
      origin = shows.origin;
      face = face_in-is T s.words shows.stands;
    };
  }

  -- and stand for its words
  pub shown-stands : Stands (map_of s) s.words
  shown-stands = same_words_stand T (map_of s) shown-agrees s.words shows.stands

  -- anchors that are right in T are right
  pub anchors-vertex : (v : ℕ) (o : Option ℕ) → Labelled T T.origin v o → AnchorsVertex s v o
  anchors-vertex v None none =
      λ h live at. let there : Live T h = sym (shows.edge (h / 2)) ∙ live in none h there (sym (shows.origin h there) ∙ at)
  anchors-vertex v (Some h) some = (shows.edge (h / 2) ∙ some.0, shows.origin h some.0 ∙ some.1)

module _ (M : Map) (ws : List (List ℕ)) (st : Stands M ws) where
  pub anchors-word : (f : ℕ) (o : Option ℕ) → Labelled M M.face f o → AnchorsWord (word_of ws f) o
  anchors-word f None none = elim (word_cases (word_of ws f)) [
    | inl empty ↦ empty
    | inr (h, found) ↦ absurd (none h (live_in M ws st h f found) (face_in_word M ws st h f found))
  ]
  anchors-word f (Some h) some = subst (λ g. 0 < count_of h (word_of ws g)) some.1 (stands_in_face M ws st h some.0)

  -- and the other way round
  pub word-anchored : (f : ℕ) (o : Option ℕ) → AnchorsWord (word_of ws f) o → Labelled M M.face f o
  word-anchored f None empty = λ h live at.
      let there : 0 < count_of h (word_of ws f) = subst (λ g. 0 < count_of h (word_of ws g)) at (stands_in_face M ws st h live) in
      let none : 0 < count_of h [] = subst (λ w. 0 < count_of h w) empty there in
      absurd (omega (arith, none))
  word-anchored f (Some h) found = (live_in M ws st h f found, face_in_word M ws st h f found)

pub vertex-anchored : (s : Shape) (v : ℕ) (o : Option ℕ) → AnchorsVertex s v o → Labelled (map_of s) (origin_of s) v o
vertex-anchored s v None none = none
vertex-anchored s v (Some h) some = some
