-- Edits keep inner faces triangles: each word that they write is one of three, that of the outer face, or as long as it was.
use Rattle.std.proofs.Common.{◌≡◌, ◌≢◌, inl, inr, ℕ, suc, ◌+◌, ◌-◌, ◌*◌, ◌/◌, ◌<◌, ◌==◌, Bool, false, List, [], ◌∷◌, ◌++◌, All, length, map, slice_set, unwrap_or, refl, sym, ap, ◌∙◌, subst, arith}
use Rattle.std.proofs.lemmas.Bool.{cases_eq, cases_lt, cond_both}
use Rattle.std.proofs.lemmas.List.{get_or-append-add, get_or-map, get_or-set_other, get_or-set_same, get_or_append_left, length-append, length-map, length-set}
use Rattle.std.proofs.lemmas.List.Elements.{All-cons, All-nil}
use Rattle.dcel_fixed.specs.HalfEdges.{rev}
use Rattle.dcel_fixed.proofs.Halves.{rev-rev}
use Rattle.dcel_maps.specs.Conditions.{CanSwapRemove, IsBridge, IsLineEnd}
use Rattle.dcel_maps.specs.Cyclic.{from_least}
use Rattle.dcel_maps.specs.edits.Create.{first_edge_added}
use Rattle.dcel_maps.specs.edits.Degenerate.{going, path_given_up, removed_degenerate, word_without}
use Rattle.dcel_maps.specs.edits.Fill.{ears, loop_filled}
use Rattle.dcel_maps.specs.edits.Flip.{edge_flipped}
use Rattle.dcel_maps.specs.edits.Line.{line_extended}
use Rattle.dcel_maps.specs.edits.Outside.{face_closed, face_put_beside}
use Rattle.dcel_maps.specs.edits.Split.{edge_split, edge_split_on_line, half_edge_split, with_middle}
use Rattle.dcel_maps.specs.edits.Strip.{strip_cut, strip_record, strip_word}
use Rattle.dcel_maps.specs.edits.Triangle.{vertex_inserted}
use Rattle.dcel_maps.specs.Hiding.{kept_words}
use Rattle.dcel_maps.specs.Removals.{Closed, Removal, gives_up_face}
use Rattle.dcel_maps.specs.Renumbering.{cleaned_up, edge_taken_out, half_of, moved, vertex_taken_out}
use Rattle.dcel_maps.specs.Shapes.{IsLive, IsMesh, IsSound, Mesh, Shape, adjacent_edge_of, end_of, face_count, face_of, map_of, next_of, origin_of, out_edge_of, prev_of}
use Rattle.dcel_maps.specs.Triangulations.{AllTriangles}
use Rattle.dcel_maps.specs.Words.{become, with_spur, word_of}
use Rattle.dcel_maps.proofs.Liveness.{gives_up_face-closed, is_live-from, is_live-parts}
use Rattle.dcel_maps.proofs.edits.Lines.{line_end}
use Rattle.dcel_maps.proofs.maps.Halves.{rev_differs}
use Rattle.dcel_maps.proofs.maps.Soundness.{face_cycles, rev_live}
use Rattle.dcel_maps.proofs.maps.Triangles.{by_triangle, off_triangle, triangle_from}
use Rattle.dcel_maps.proofs.removal.Hiding.{length-hiding, not_hidden}
use Rattle.dcel_maps.proofs.renumbering.Cleanup.{cleaned_up-renamed}
use Rattle.dcel_maps.proofs.shapes.Maps.{face-live, map-sound}
use Rattle.dcel_maps.proofs.shapes.Renames.{IsRenamed}
use Rattle.dcel_maps.proofs.walks.Links.{links_lawful, links_stand}
use Rattle.dcel_maps.proofs.words.Spurs.{with_spur-set}
use Rattle.dcel_maps.proofs.words.Subdivides.{with_middle-other}
use Rattle.dcel_maps.proofs.words.Triangles.{is_triangle}
use Rattle.dcel_maps.proofs.words.Turns.{from_least-turn, length-turn}

-- the words of inner faces have three half edges, but for those of faces that pass the test
abbrev pub Threes : (ℕ → Bool) → List (List ℕ) → Type 0
Threes gone ws = (f : ℕ) → 0 < f → f < length ws → gone f ≡ false → length (word_of ws f) ≡ 3

pub threes : (s : Shape) → AllTriangles s → Threes (gives_up_face s.removal) s.words
threes s all f inner below kept = all f inner (is_live-from (gives_up_face s.removal) (face_count s) f below kept)

pub all_triangles : (s : Shape) → Threes (gives_up_face s.removal) s.words → AllTriangles s
all_triangles s all f inner live = let (below, kept) = is_live-parts (gives_up_face s.removal) (face_count s) f live in all f inner below kept

-- where nothing is given up, all of them have three
pub threes-none : (s : Shape) → ((f : ℕ) → gives_up_face s.removal f ≡ false) → AllTriangles s → Threes (λ f. false) s.words
threes-none s none all f inner below kept = threes s all f inner below (none f)

pub threes-fewer : (gone : ℕ → Bool) (ws : List (List ℕ)) → Threes (λ f. false) ws → Threes gone ws
threes-fewer gone ws all f inner below kept = all f inner below refl

module _ (gone : ℕ → Bool) (ws : List (List ℕ)) (all : Threes gone ws) where
  -- a word is written
  pub threes-set : (g : ℕ) (w : List ℕ) → (0 < g → length w ≡ 3) → Threes gone (slice_set ws g w)
  threes-set g w three f inner below kept = elim (cases_eq f g) [
    | inl is ↦
        ap length (ap (word_of (slice_set ws g w)) is ∙ get_or-set_same ws g w [] (omega (arith, below, is, length-set ws g w)))
        ∙ three (omega (arith, inner, is))
    | inr apart ↦ ap length (get_or-set_other ws g f w [] apart) ∙ all f inner (omega (arith, below, length-set ws g w)) kept
  ]

  -- words are put at the end
  pub threes-append : (new : List (List ℕ)) → All (λ w. length w ≡ 3) new → Threes gone (ws ++ new)
  threes-append new three f inner below kept = elim (cases_lt f (length ws)) [
    | inl old ↦ ap length (get_or_append_left ws new [] f old) ∙ all f inner old kept
    | inr past ↦
        let j = f - length ws in
        let place : length ws + j ≡ f = omega (arith, past) in
        ap length (ap (word_of (ws ++ new)) (sym place) ∙ get_or-append-add ws new j [])
        ∙ three j [] (omega (arith, below, past, length-append ws new))
  ]

  -- each word is rewritten
  pub threes-map : (h : List ℕ → List ℕ) → ((f : ℕ) → 0 < f → length (word_of ws f) ≡ 3 → length (h (word_of ws f)) ≡ 3) → Threes gone (map h ws)
  threes-map h keeps f inner below kept =
      let within : f < length ws = omega (arith, below, length-map ws h) in
      ap length (get_or-map h ws f [] [] within) ∙ keeps f inner (all f inner within kept)

  -- more faces are given up
  pub threes-hide : (r : Removal) → ((f : ℕ) → gives_up_face r f ≡ false → gone f ≡ false) → Threes (gives_up_face r) (kept_words r ws)
  threes-hide r weaker f inner below kept =
      ap length (not_hidden (gives_up_face r) [] ws f kept)
      ∙ all f inner (omega (arith, below, length-hiding (gives_up_face r) [] ws)) (weaker f kept)

pub length-least : (w : List ℕ) → length (from_least w) ≡ length w
length-least w = length-turn (from_least-turn w)

pub all_three : (u v : List ℕ) → length u ≡ 3 → length v ≡ 3 → All (λ w. length w ≡ 3) (u ∷ v ∷ [])
all_three u v first second = All-cons (λ w. length w ≡ 3) u (v ∷ []) first (All-cons (λ w. length w ≡ 3) v [] second (All-nil (λ w. length w ≡ 3)))

pub one_three : (u : List ℕ) → length u ≡ 3 → All (λ w. length w ≡ 3) (u ∷ [])
one_three u first = All-cons (λ w. length w ≡ 3) u [] first (All-nil (λ w. length w ≡ 3))

ears-three : (m p q r : ℕ) (rest : List ℕ) → All (λ w. length w ≡ 3) (ears m p q r rest)
ears-three m p q r [] = one_three (from_least (p ∷ q ∷ r ∷ [])) (length-least (p ∷ q ∷ r ∷ []))
ears-three m p q r (x ∷ rest) =
    All-cons (λ w. length w ≡ 3) (from_least (p ∷ q ∷ 2 * m ∷ [])) (ears (suc m) (2 * m + 1) r x rest) (length-least (p ∷ q ∷ 2 * m ∷ []))
    (ears-three (suc m) (2 * m + 1) r x rest)

-- a triangle has no edge with both halves on it
no_bridge : (s : Shape) → IsSound s → (h : ℕ) → IsLive s h → length (word_of s.words (face_of s h)) ≡ 3 → face_of s (rev h) ≢ face_of s h
no_bridge s sound h live three same =
    let M = map_of s in
    let ms = map-sound sound in
    let lawful = links_lawful sound in
    let back = (is_triangle M s.words (links_stand sound) h live ms).0 three in
    let closes : next_of s (prev_of s h) ≡ h = lawful.step-back h live in
    let t = triangle_from M ms (face_of s h) h (next_of s h) (prev_of s h) live refl back closes refl in
    let other : IsLive s (rev h) = rev_live M h live in
    by_triangle (λ z. z ≡ rev h → ⊥) h (next_of s h) (prev_of s h) (rev h) (
      (λ is. rev_differs h (sym is)),
      (λ is.
          -- the third half edge starts where h starts, and ends there
          let from : origin_of s (prev_of s h) ≡ origin_of s h =
          ap (origin_of s) (sym back) ∙ sound.joined (next_of s h) t.live_y ∙ ap (end_of s) is ∙ ap (origin_of s) (rev-rev h) in
          let to : end_of s (prev_of s h) ≡ origin_of s h = sym (sound.joined (prev_of s h) t.live_z) ∙ ap (origin_of s) closes in
          sound.two_ends (prev_of s h) t.live_z (from ∙ sym to)),
      (λ is.
          -- the next half edge starts where h ends, and ends there
          let to : end_of s (next_of s h) ≡ end_of s h =
          sym (sound.joined (next_of s h) t.live_y) ∙ ap (origin_of s) back ∙ ap (origin_of s) is in
          sound.two_ends (next_of s h) t.live_y (sound.joined h live ∙ sym to)),
    )
    (λ off. absurd (off_triangle M ms (face_of s h) h (next_of s h) (prev_of s h) t (rev h) other off same)) refl

-- a shape that is another one under other numbers
pub triangles-renamed : (s t : Shape) (f f' o o' w w' : ℕ → ℕ) → IsRenamed s t f f' o o' w w' → AllTriangles s → AllTriangles t
triangles-renamed s t f f' o o' w w' e all g inner live =
    let (below, kept) = is_live-parts (gives_up_face t.removal) (face_count t) g live in
    ap length (e.word g below) ∙ length-least (map f (word_of s.words (w' g))) ∙ length-map (word_of s.words (w' g)) f
    ∙ all (w' g) (e.inner g inner below) (sym (e.face_comes g below) ∙ live)

-- what each edit writes
module _ {V DE UE F : Type 0} (m : Mesh V DE UE F) (all : AllTriangles m.shape) where
  abbrev s : Shape
  s = m.shape

  abbrev gone : ℕ → Bool
  gone = gives_up_face m.shape.removal

  abbrev n : ℕ
  n = 2 * m.shape.edges

  three : Threes gone s.words
  three = threes s all

  outer_set : (w : List ℕ) → Threes gone (slice_set s.words 0 w)
  outer_set w = threes-set gone s.words three 0 w (λ inner. absurd (omega (arith, inner)))

  pub set_up : (a b : ℕ) (halves : List DE) (edges : List UE) → AllTriangles (first_edge_added m a b halves edges).shape
  set_up a b halves edges = all_triangles (first_edge_added m a b halves edges).shape (outer_set (0 ∷ 1 ∷ []))

  pub extended : IsMesh m → (end tip : ℕ) (halves : List DE) (edges : List UE) → IsLineEnd s end
      → AllTriangles (line_extended m end tip halves edges).shape
  extended mesh end tip halves edges line =
      let (out, at) = line_end m mesh end line in
      let is : out_edge_of m end ≡ out = ap (λ a. unwrap_or a 0) at.anchor in
      let x = rev out in
      let both : face_of s (rev x) ≡ face_of s x =
      ap (face_of s) (rev-rev out ∙ sym at.turns) ∙ (face_cycles (map_of s) (map-sound mesh.sound)).along x at.back in
      let written = with_spur-set s.words x (n + 1) n (mesh.sound.once x at.back) in
      all_triangles (line_extended m end tip halves edges).shape
      (subst (Threes gone) (sym (ap (λ o. with_spur s.words (rev o) (n + 1) n) is ∙ written))
      (threes-set gone s.words three (face_of s x) (become x (x ∷ (n + 1) ∷ n ∷ []) (word_of s.words (face_of s x))) (λ inner.
      absurd (no_bridge s mesh.sound x at.back (all (face_of s x) inner (face-live mesh.sound x at.back)) both))))

  pub split_on_line : IsMesh m → (e middle : ℕ) (halves : List DE) (edges : List UE) → IsBridge s e
      → AllTriangles (edge_split_on_line m e middle halves edges).shape
  split_on_line mesh e middle halves edges bridge =
      all_triangles (edge_split_on_line m e middle halves edges).shape
      (threes-map gone s.words three (with_middle e n) (λ f inner long.
      let other : face_of s e ≢ f =
      λ at. no_bridge s mesh.sound e bridge.live (ap (λ z. length (word_of s.words z)) at ∙ long) (sym bridge.one_face) in
      ap length (with_middle-other (map_of s) s.words (links_stand mesh.sound) e n f other (λ at. other (bridge.one_face ∙ at))) ∙ long))

  pub closed_outside : (e : ℕ) (halves : List DE) (edges : List UE) (faces : List F) → AllTriangles (face_closed m e halves edges faces).shape
  closed_outside e halves edges faces =
      let x = next_of s e in
      let w = from_least (become x [] (become e ((n + 1) ∷ []) (word_of s.words 0))) in
      all_triangles (face_closed m e halves edges faces).shape
      (threes-append gone (slice_set s.words 0 w) (outer_set w) (from_least (e ∷ x ∷ n ∷ []) ∷ [])
      (one_three (from_least (e ∷ x ∷ n ∷ [])) (length-least (e ∷ x ∷ n ∷ []))))

  pub put_beside : (e tip : ℕ) (halves : List DE) (edges : List UE) (faces : List F) → face_of s e ≡ 0
      → AllTriangles (face_put_beside m e tip halves edges faces).shape
  put_beside e tip halves edges faces outer =
      let f = face_of s e in
      let w = from_least (become e ((n + 3) ∷ (n + 1) ∷ []) (word_of s.words f)) in
      all_triangles (face_put_beside m e tip halves edges faces).shape
      (threes-append gone (slice_set s.words f w) (threes-set gone s.words three f w (λ inner. absurd (omega (arith, inner, outer))))
      ((e ∷ n ∷ (n + 2) ∷ []) ∷ []) (one_three (e ∷ n ∷ (n + 2) ∷ []) refl))

  pub inserted : (v f : ℕ) (halves : List DE) (edges : List UE) (faces : List F) → AllTriangles (vertex_inserted m v f halves edges faces).shape
  inserted v f halves edges faces =
      let a = adjacent_edge_of m f in
      let w = a ∷ n ∷ (n + 5) ∷ [] in
      let second = next_of s a ∷ (n + 2) ∷ (n + 1) ∷ [] in
      let third = prev_of s a ∷ (n + 4) ∷ (n + 3) ∷ [] in
      all_triangles (vertex_inserted m v f halves edges faces).shape
      (threes-append gone (slice_set s.words f w) (threes-set gone s.words three f w (λ inner. refl)) (second ∷ third ∷ [])
      (all_three second third refl refl))

  pub split_one_side : (e middle : ℕ) (halves : List DE) (edges : List UE) (faces : List F) → face_of s (rev e) ≡ 0
      → AllTriangles (half_edge_split m e middle halves edges faces).shape
  split_one_side e middle halves edges faces outer =
      let t = rev e in
      let f = face_of s e in
      let g = face_of s t in
      let first = e ∷ (n + 1) ∷ prev_of s e ∷ [] in
      let second = next_of s e ∷ n ∷ (n + 2) ∷ [] in
      let beyond = from_least (become t ((n + 3) ∷ t ∷ []) (word_of s.words g)) in
      let halved = threes-set gone s.words three f (from_least first) (λ inner. length-least first) in
      all_triangles (half_edge_split m e middle halves edges faces).shape
      (threes-append gone (slice_set (slice_set s.words f (from_least first)) g beyond)
      (threes-set gone (slice_set s.words f (from_least first)) halved g beyond (λ inner. absurd (omega (arith, inner, outer))))
      (second ∷ []) (one_three second refl))

  two_set : (f g : ℕ) (u v : List ℕ) → length u ≡ 3 → length v ≡ 3 → Threes gone (slice_set (slice_set s.words f (from_least u)) g (from_least v))
  two_set f g u v first second =
      threes-set gone (slice_set s.words f (from_least u)) (threes-set gone s.words three f (from_least u) (λ inner. length-least u ∙ first)) g
      (from_least v) (λ inner. length-least v ∙ second)

  pub split_both_sides : (e middle : ℕ) (halves : List DE) (edges : List UE) (faces : List F)
      → AllTriangles (edge_split m e middle halves edges faces).shape
  split_both_sides e middle halves edges faces =
      let t = rev e in
      let first = e ∷ (n + 5) ∷ prev_of s e ∷ [] in
      let second = t ∷ next_of s t ∷ n ∷ [] in
      let third = prev_of s t ∷ (n + 2) ∷ (n + 1) ∷ [] in
      let fourth = next_of s e ∷ (n + 4) ∷ (n + 3) ∷ [] in
      all_triangles (edge_split m e middle halves edges faces).shape
      (threes-append gone (slice_set (slice_set s.words (face_of s e) (from_least first)) (face_of s t) (from_least second))
      (two_set (face_of s e) (face_of s t) first second refl refl) (third ∷ fourth ∷ []) (all_three third fourth refl refl))

  pub flipped : (u : ℕ) → AllTriangles (edge_flipped m u).shape
  flipped u =
      let e = 2 * u in
      let t = 2 * u + 1 in
      all_triangles (edge_flipped m u).shape
      (two_set (face_of s e) (face_of s t) (e ∷ prev_of s t ∷ next_of s e ∷ []) (t ∷ prev_of s e ∷ next_of s t ∷ []) refl refl)

  module _ (closed : s.removal ≡ Closed) where
    none : (f : ℕ) → gone f ≡ false
    none f = ap (λ r. gives_up_face r f) closed ∙ gives_up_face-closed f

    pub ring_filled_in : (r : Removal) (ring : List ℕ) (halves : List DE) (edges : List UE) (faces : List F)
        → AllTriangles (loop_filled m r ring halves edges faces).shape
    ring_filled_in r [] halves edges faces = all
    ring_filled_in r (p ∷ []) halves edges faces = all
    ring_filled_in r (p ∷ q ∷ []) halves edges faces = all
    ring_filled_in r (p ∷ q ∷ t ∷ rest) halves edges faces =
        all_triangles (loop_filled m r (p ∷ q ∷ t ∷ rest) halves edges faces).shape
        (threes-append (gives_up_face r) (kept_words r s.words) (threes-hide gone s.words three r (λ f kept. none f)) (ears s.edges p q t rest)
        (ears-three s.edges p q t rest))

    pub strip_off : (list : List ℕ) → AllTriangles (strip_cut m list).shape
    strip_off list =
        let r = strip_record s list in
        all_triangles (strip_cut m list).shape
        (threes-hide gone (slice_set s.words 0 (strip_word s list)) (outer_set (strip_word s list)) r (λ f kept. none f))

    pub degenerate_gone : (v : ℕ) → AllTriangles (removed_degenerate m v).shape
    degenerate_gone v =
        let b = going m v in
        let open_words = slice_set s.words 0 (word_without s b) in
        let half = half_of (moved (s.edges - 1) (b / 2)) in
        let fewer : Threes (λ f. false) open_words =
        threes-set (λ f. false) s.words (threes-none s none all) 0 (word_without s b) (λ inner. absurd (omega (arith, inner))) in
        cond_both (s.vertices == 1) (vertex_taken_out m v) (vertex_taken_out (edge_taken_out (path_given_up m v) (b / 2)) v)
        (λ (t : Mesh V DE UE F). AllTriangles t.shape)
        (λ one. all_triangles (vertex_taken_out m v).shape (threes-fewer (gives_up_face Closed) s.words (threes-none s none all)))
        (λ more. all_triangles (vertex_taken_out (edge_taken_out (path_given_up m v) (b / 2)) v).shape
        (threes-fewer (gives_up_face Closed) (map (λ w. from_least (map half w)) open_words)
        (threes-map (λ f. false) open_words fewer (λ w. from_least (map half w)) (λ f inner long.
        length-least (map half (word_of open_words f)) ∙ length-map (word_of open_words f) half ∙ long))))

  pub vertex_gone : (v : ℕ) → CanSwapRemove s v → AllTriangles (vertex_taken_out m v).shape
  unfolding gives_up_face
  vertex_gone v can =
      let none : (f : ℕ) → gone f ≡ false =
      λ f. elim can [
        | inl unconnected ↦ ap (λ r. gives_up_face r f) unconnected.0
        | inr given_up ↦ ap (λ r. gives_up_face r f) given_up
      ] in
      all_triangles (vertex_taken_out m v).shape (threes-fewer (gives_up_face Closed) s.words (threes-none s none all))

  pub cleaned : IsMesh m → AllTriangles (cleaned_up m).shape
  cleaned mesh = triangles-renamed s (cleaned_up m).shape _ _ _ _ _ _ (cleaned_up-renamed m mesh) all
