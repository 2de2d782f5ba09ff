-- What lies on a face: the half edges of its word, those beside its anchor, and the walk round it.
use Rattle.std.proofs.Common.{◌≡◌, ℕ, ◌*◌, ◌<◌, [], ◌∷◌, length, Option, Some, None, refl, ap, ◌∙◌, subst, arith}
use Rattle.dcel_maps.specs.Maps.{By}
use Rattle.dcel_maps.specs.Shapes.{Shape, Mesh, AnchorsWord, IsMesh, IsSound, face_anchor, face_count, face_of, map_of, next_of, prev_of}
use Rattle.dcel_maps.specs.Walking.{IsOnFace, ListsOnce, walk_from, walk_of}
use Rattle.dcel_maps.specs.Words.{TurnsTo, count_of, word_of}
use Rattle.dcel_maps.specs.theory.Standing.{Follows}
use Rattle.dcel_maps.proofs.walks.Links.{half-below, links_stand, next-live, prev-live}
use Rattle.dcel_maps.proofs.words.Counts.{count-same, length-le_total}
use Rattle.dcel_maps.proofs.words.Paths.{IsCycle-weaker}
use Rattle.dcel_maps.proofs.words.Reading.{count-le, face-next, face-prev, face_in_word, live_in, stands_in_face}
use Rattle.dcel_maps.proofs.words.Triangles.{triangle_turn, written_from}
use Rattle.dcel_maps.proofs.words.Turns.{count-turn, length-turn, turns_on, turns_to_itself}
use Rattle.dcel_maps.proofs.words.Walking.{up_to-is}

module _ {s : Shape} (sound : IsSound s) (f : ℕ) where
  -- what stands in a word lies on its face, and what lies on a face stands in its word once
  stands-lies : (a : ℕ) → 0 < count_of a (word_of s.words f) → IsOnFace s f a
  stands-lies a stands = record {
    live = live_in (map_of s) s.words (links_stand sound) a f stands;
    face = face_in_word (map_of s) s.words (links_stand sound) a f stands;
  }

  lies-stands : (a : ℕ) → IsOnFace s f a → 0 < count_of a (word_of s.words f)
  lies-stands a lies =
      subst (λ g. 0 < count_of a (word_of s.words g)) lies.face (stands_in_face (map_of s) s.words (links_stand sound) a lies.live)

  pub word-lists : ListsOnce (IsOnFace s f) (word_of s.words f)
  word-lists = record {
    each = λ a lies. omega (arith, lies-stands a lies, count-le (map_of s) s.words (links_stand sound) a f);
    no_other = stands-lies;
  }

module _ {s : Shape} (sound : IsSound s) (f a : ℕ) (lies : IsOnFace s f a) where
  -- what comes before and after a half edge lies on its face
  pub prev-lies : IsOnFace s f (prev_of s a)
  prev-lies = record {
    live = prev-live sound a lies.live;
    face = face-prev (map_of s) s.words (links_stand sound) a lies.live ∙ lies.face;
  }

  pub next-lies : IsOnFace s f (next_of s a)
  next-lies = record {
    live = next-live sound a lies.live;
    face = face-next (map_of s) s.words (links_stand sound) a lies.live ∙ lies.face;
  }

  -- a word of three is a half edge with those before and after it
  pub three-whole : length (word_of s.words f) ≡ 3 → TurnsTo (word_of s.words f) (prev_of s a ∷ a ∷ next_of s a ∷ [])
  three-whole long =
      let turn : TurnsTo (word_of s.words f) (a ∷ next_of s a ∷ prev_of s a ∷ []) =
      subst (λ g. TurnsTo (word_of s.words g) (a ∷ next_of s a ∷ prev_of s a ∷ [])) lies.face
      (triangle_turn (map_of s) s.words (links_stand sound) a lies.live (ap (λ g. length (word_of s.words g)) lies.face ∙ long)) in
      turns_on turn (record { front = a ∷ next_of s a ∷ []; back = prev_of s a ∷ []; was = refl; is = refl })

  -- the walk round a face is its word, written from where the walk begins
  pub walk-turn : TurnsTo (word_of s.words f) (walk_of s (next_of s) a)
  walk-turn =
      let st = links_stand sound in
      let w = written_from (map_of s) s.words st a lies.live in
      let path = IsCycle-weaker (Follows (map_of s) (face_of s a)) (By (next_of s)) (a ∷ w.rest) (λ p q i j along. along.next) w.cycle in
      let apart : count_of a w.rest ≡ 0 = omega (arith, w.single a, count-same a w.rest) in
      let short : length w.rest < 2 * s.edges = omega (arith, length-turn w.turn, length-le_total s.words (face_of s a), st.short) in
      rw (up_to-is (next_of s) (2 * s.edges) a a w.rest path apart short)
      (subst (λ g. TurnsTo (word_of s.words g) (a ∷ w.rest)) lies.face w.turn)

-- so the walk from an anchor is the word
pub anchor-turn : {s : Shape} → IsSound s → (f : ℕ) (anchor : Option ℕ) → AnchorsWord (word_of s.words f) anchor
    → TurnsTo (word_of s.words f) (walk_from s (next_of s) anchor)
anchor-turn {s} sound f None anchored = subst (TurnsTo (word_of s.words f)) anchored (turns_to_itself (word_of s.words f))
anchor-turn {s} sound f (Some a) anchored = walk-turn sound f a (stands-lies sound f a anchored)

module _ {V DE UE F : Type 0} {m : Mesh V DE UE F} (mesh : IsMesh m) (f : ℕ) (below : f < face_count m.shape) where
  -- a face's anchor lies on it
  pub anchor-lies : (a : ℕ) → face_anchor m f ≡ Some a → IsOnFace m.shape f a
  anchor-lies a some = stands-lies mesh.sound f a (subst (AnchorsWord (word_of m.shape.words f)) some (mesh.anchored.faces f below))

  -- the walk from it lists what lies on the face
  pub anchor-lists : ListsOnce (IsOnFace m.shape f) (walk_from m.shape (next_of m.shape) (face_anchor m f))
  anchor-lists =
      let word = word-lists mesh.sound f in
      let turn = anchor-turn mesh.sound f (face_anchor m f) (mesh.anchored.faces f below) in
      record {
        each = λ h lies. count-turn h turn ∙ word.each h lies;
        no_other = λ h found. word.no_other h (omega (arith, found, count-turn h turn));
      }

  -- and is in range
  pub anchor-below : (a : ℕ) → face_anchor m f ≡ Some a → a < 2 * m.shape.edges
  anchor-below a some = half-below m.shape a (anchor-lies a some).live
