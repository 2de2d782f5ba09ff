-- What is left of a path once a vertex and one of its edges are given up, in its three cases; and what takes the place of an anchor.
use Rattle.std.proofs.Common.{◌≡◌, ◌≢◌, inl, inr, ◌*◌, ◌/◌, ◌<◌, ◌≤◌, ℕ, true, false, List, [], ◌∷◌, ◌++◌, append-nil, length, map, slice_index, Option, Some, None, sym, refl, ap, ◌∙◌, subst, arith}
use Rattle.std.proofs.lemmas.Bool.{both_ways, cases_eq, cases_lt, false_from_ne_true, false≢true}
use Rattle.std.proofs.lemmas.List.{get_or-set_other}
use Rattle.dcel_fixed.specs.HalfEdges.{rev}
use Rattle.dcel_maps.specs.Cyclic.{from_least}
use Rattle.dcel_maps.specs.Degenerate.{IsPath}
use Rattle.dcel_maps.specs.EditLists.{ComesBy}
use Rattle.dcel_maps.specs.EditLists.EditKind.{numbers_changed, spur_dropped}
use Rattle.dcel_maps.specs.edits.Degenerate.{word_without}
use Rattle.dcel_maps.specs.Maps.{By, Live, Map}
use Rattle.dcel_maps.specs.Removals.{Closed, gives_up_edge}
use Rattle.dcel_maps.specs.Shapes.{AnchorsVertex, AnchorsWord, IsLive, IsSound, IsSphere, Shape, edge_is_live, end_of, face_of, map_of, next_of, origin_of, prev_of}
use Rattle.dcel_maps.specs.Strips.{IsStripAround}
use Rattle.dcel_maps.specs.theory.Cycles.{IsCycle, Path}
use Rattle.dcel_maps.specs.theory.Sound.{Sound}
use Rattle.dcel_maps.specs.theory.Standing.{Follows, Stands}
use Rattle.dcel_maps.specs.Walking.{IsOutEdge, ccw_of}
use Rattle.dcel_maps.specs.Words.{TurnsTo, become, count_of, word_of}
use Rattle.dcel_maps.proofs.Liveness.{is_live-parts}
use Rattle.dcel_maps.proofs.maps.Agreement.{empty_sound, empty_sphere}
use Rattle.dcel_maps.proofs.maps.Halves.{rev_differs, rev_or_same}
use Rattle.dcel_maps.proofs.maps.Soundness.{next_differs}
use Rattle.dcel_maps.proofs.removal.Holes.{HoleOf}
use Rattle.dcel_maps.proofs.removal.PathCuts.{IsLeft, after, count-without_other, count-without_rev, count-without_same, edge_kept, left_edge, left_sound, on_outer, origin-after, starts, left_comes}
use Rattle.dcel_maps.proofs.removal.Paths.{edge_count, goes_on, only_two, out_b, prev_a}
use Rattle.dcel_maps.proofs.removal.StripItems.{outer_cut}
use Rattle.dcel_maps.proofs.removal.StripSpokes.{OuterWord, StripAway, outer_word, strip_away, trip}
use Rattle.dcel_maps.proofs.shapes.Maps.{map-sound, word_cases}
use Rattle.dcel_maps.proofs.walks.Links.{links_stand}
use Rattle.dcel_maps.proofs.words.Counts.{count-append, count-same, first_or_later}
use Rattle.dcel_maps.proofs.words.Cyclic.{from_least-word}
use Rattle.dcel_maps.proofs.words.Faces.{IsWordOf}
use Rattle.dcel_maps.proofs.words.Reading.{live_in}
use Rattle.dcel_maps.proofs.words.Triangles.{WrittenFrom, written_from}
use Rattle.dcel_maps.proofs.words.Turns.{length-turn}

-- what can stand where a half edge of the edge that goes was an anchor: at the vertex w, and of the outer face
pub record IsStandIn (s : Shape) (w : ℕ) (r : Option ℕ) : Type 0 where
  pub vertex : AnchorsVertex s w r
  pub word : AnchorsWord (word_of s.words 0) r

module _ (s : Shape) (sound : IsSound s) (sphere : IsSphere s) (path : IsPath s) (closed : s.removal ≡ Closed)
    (long : length s.origins ≡ 2 * s.edges) (v a : ℕ) (within : v < s.vertices) (out : IsOutEdge s v a) where
  abbrev pub T : Map
  T = map_of s

  abbrev b : ℕ
  b = ccw_of s a

  abbrev left : Shape
  left = after s v a b closed path.one_face

  t : Sound T
  t = map-sound sound

  stands : Stands T s.words
  stands = links_stand sound

  b_live : IsLive s b
  b_live = (out_b s sound sphere path v a within out).live

  on_face : (x : ℕ) → IsLive s x → face_of s x ≡ 0
  on_face x live = omega (arith, t.below_faces x live, path.one_face)

  starts-other : (h : ℕ) → h ≢ a → slice_index (starts s v a b closed path.one_face) h ≡ origin_of s h
  starts-other h other = get_or-set_other s.origins a h (end_of s b) 0 other

  still_live : (h : ℕ) → h ≢ b → h ≢ rev b → IsLive s h → IsLive left h
  still_live h not_b not_rev live =
      edge_kept s v a b closed path.one_face (h / 2) (λ half. elim (rev_or_same h b half) [ inl is ↦ not_b is | inr is ↦ not_rev is ]) ∙ live

  -- two vertices: nothing is left
  module _ (few : s.vertices ≡ 2) where
    abbrev pub nothing : Map
    nothing = record T { edge = λ u. false }

    one_edge : (u : ℕ) → edge_is_live s u ≡ true → u ≡ b / 2
    one_edge u live =
        let here = t.below_edges b b_live in
        let there = (is_live-parts (gives_up_edge s.removal) s.edges u live).0 in
        omega (arith, here, there, edge_count s sound sphere path closed (omega (arith, there)), few)

    none_in : (x : ℕ) → count_of x (word_without s b) ≡ 0
    none_in x = elim (cases_eq x b) [
      | inl is ↦ ap (λ z. count_of z (word_without s b)) is ∙ count-without_same s b (λ i. rev_differs b (sym i))
      | inr not_b ↦ elim (cases_eq x (rev b)) [
        | inl is ↦ ap (λ z. count_of z (word_without s b)) is ∙ count-without_rev s b
        | inr not_rev ↦ elim (cases_lt 0 (count_of x (word_of s.words 0))) [
          | inl found ↦
              let live = live_in T s.words stands x 0 found in
              absurd (elim (rev_or_same x b (one_edge (x / 2) live)) [ inl is ↦ not_b is | inr is ↦ not_rev is ])
          | inr none ↦ omega (arith, none, count-without_other s b x not_b not_rev)
        ]
      ]
    ]

    empty : word_without s b ≡ []
    empty = elim (word_cases (word_without s b)) [
      | inl is ↦ is
      | inr (x, found) ↦ absurd (omega (arith, found, none_in x))
    ]

    pub nothing_left : IsLeft s v a b closed path.one_face nothing
    nothing_left = record {
      vertices = refl;
      edges = refl;
      faces = refl;
      edge_here = refl;
      edge_other = λ u other. sym (false_from_ne_true (edge_is_live s u) (λ live. other (one_edge u live)));
      origin = λ h live. absurd (false≢true live);
      word = subst (IsWordOf nothing 0) (sym empty) record { cycle = tt; once = λ x live at. absurd (false≢true live); least = tt };
      sound = empty_sound nothing (λ u. refl);
      sphere = empty_sphere nothing (λ u. refl);
      isolated = λ h live. absurd (false≢true live);
    }

    pub none_live : (u : ℕ) → edge_is_live left u ≡ false
    none_live u = left_edge s v a b closed path.one_face nothing nothing_left u

    pub nothing_stands_in : IsStandIn left (end_of s b) None
    nothing_stands_in = record {
      vertex = λ h live. absurd (both_ways (edge_is_live left (h / 2)) (none_live (h / 2)) live);
      word = (left_sound s v a b closed path.one_face nothing nothing_left).outer.1 none_live;
    }

  -- one out edge: the path without that end, which is a strip without triangles
  module _ (many : 2 < s.vertices) (one : a ≡ b) where
    prev_rev : prev_of s a ≡ rev a
    prev_rev = prev_a s sound sphere path v a within out ∙ ap rev (sym one)

    written : WrittenFrom T s.words a
    written = written_from T s.words stands a out.live

    more : (r : List ℕ) → IsCycle (Follows T (face_of s a)) (a ∷ r) → 2 < length (a ∷ r)
    more [] cycle = absurd (next_differs T t a out.live cycle.next)
    more (x ∷ []) cycle =
        absurd (goes_on s sound sphere path v a within out many one (cycle.0.next ∙ sym cycle.1.prev ∙ prev_rev))
    more (x ∷ y ∷ r) cycle = omega arith

    around : IsStripAround s v a
    around = record {
      out = out;
      outer = on_face a out.live;
      only = λ x at outer. elim (only_two s sound sphere path v a within out x at) [ inl is ↦ is | inr is ↦ is ∙ sym one ];
      triangles = λ x at inside. absurd (inside (on_face x at.live));
      long = omega (
        arith,
        more written.rest written.cycle,
        length-turn written.turn,
        ap (λ f. length (word_of s.words f)) (on_face a out.live),
      );
    }

    abbrev rest : List ℕ
    rest = (trip s sound sphere v a around).rest

    -- there are no spokes
    round_nothing : (xs : List ℕ) → Path (By (ccw_of s)) a xs a → ((k : ℕ) → count_of k (a ∷ xs) ≤ 1) → xs ≡ []
    round_nothing [] p once = refl
    round_nothing (x ∷ xs) p once =
        let is : x ≡ a = sym p.0 ∙ sym one in
        absurd (omega (arith, once x, count-same x xs, ap (λ z. count_of x (z ∷ x ∷ xs)) (sym is), count-same x (x ∷ xs)))

    none : (trip s sound sphere v a around).rest ≡ []
    none =
        let walked = trip s sound sphere v a around in
        round_nothing walked.rest walked.round (λ k. omega (arith, walked.once k, ap (count_of k) walked.from))

    module _ (y : ℕ) (r : List ℕ) (outer : OuterWord s sound sphere v a around y r) where
      away : StripAway s sound sphere v a around y r outer
      away = strip_away s sound sphere v a around y r outer

      shorter : Map
      shorter = away.left

      hole : HoleOf T shorter (a ∷ []) (y ∷ r) 0
      unfolding shorter
      hole =
          subst (λ w. HoleOf T away.left (a ∷ []) w 0) (append-nil (y ∷ r))
          (subst (λ xs. HoleOf T away.left (a ∷ xs) (y ∷ r ++ map (next_of s) xs) 0) none
          (subst (HoleOf T away.left (a ∷ rest) (y ∷ r ++ map (next_of s) rest)) around.outer away.hole))

      single : (k : ℕ) → count_of k (y ∷ r) ≤ 1
      single k = omega (arith, outer.single k, count-append k (a ∷ y ∷ r) (prev_of s a ∷ []), count-append k (a ∷ []) (y ∷ r))

      word : word_without s a ≡ from_least (y ∷ r)
      word =
          let g = prev_of s a in
          ap (λ z. from_least (become z [] (become a [] (word_of s.words 0)))) (sym prev_rev)
          ∙ outer_cut g a [] (word_of s.words 0) (y ∷ r) (subst (λ f. TurnsTo (word_of s.words f) (a ∷ y ∷ r ++ g ∷ [])) around.outer outer.turn)
          (omega (arith, outer.single a, count-same a (y ∷ r ++ g ∷ [])))
          (omega (arith, outer.single g, count-append g (a ∷ []) (y ∷ r ++ g ∷ []), count-append g (y ∷ r) (g ∷ []), count-same g []))
          (omega arith) (λ x. omega (arith, single x, ap (count_of x) (append-nil (y ∷ r))))
          ∙ ap from_least (append-nil (y ∷ r))

      lives_off : (h : ℕ) → Live shorter h → h ≢ a
      lives_off h live is = both_ways (shorter.edge (a / 2)) (hole.gone a (omega (arith, count-same a []))) (subst (λ z. Live shorter z) is live)

      end_left_at : IsLeft s v a a closed path.one_face shorter
      end_left_at = record {
        vertices = hole.vertices;
        edges = hole.edges;
        faces = omega (arith, hole.faces, path.one_face);
        edge_here = hole.gone a (omega (arith, count-same a []));
        edge_other = λ u other. hole.kept u (λ x found same. elim (first_or_later x a [] found) [
          | inl is ↦ other (same ∙ ap (λ z. z / 2) is)
          | inr nothing ↦ omega (arith, nothing)
        ]);
        origin = λ h live. hole.origin h ∙ sym (get_or-set_other s.origins a h (end_of s a) 0 (lives_off h live));
        word = subst (IsWordOf shorter 0) (sym word) (from_least-word shorter hole.sound 0 y r hole.cycle single);
        sound = hole.sound;
        sphere = hole.sphere;
        isolated = λ h live at.
            let was : IsLive s h = sym (hole.kept (h / 2) (λ x found same. elim (first_or_later x a [] found) [
              | inl is ↦ both_ways (shorter.edge (a / 2)) (hole.gone a (omega (arith, count-same a []))) (ap shorter.edge (sym (same ∙ ap (λ z. z / 2) is)) ∙ live)
              | inr nothing ↦ omega (arith, nothing)
            ])) ∙ live in
            elim (only_two s sound sphere path v a within out h record { live = was; start = sym (hole.origin h) ∙ at }) [
              | inl is ↦ lives_off h live is
              | inr is ↦ lives_off h live (is ∙ sym one)
            ];
      }

    pub end_left : (M : Map) × IsLeft s v a b closed path.one_face M
    end_left =
        let (y, r, outer) = outer_word s sound sphere v a around in
        subst (λ z. (M : Map) × IsLeft s v a z closed path.one_face M) one (shorter y r outer, end_left_at y r outer)

    -- a spur is dropped
    pub end_comes : ComesBy (spur_dropped ∷ numbers_changed ∷ []) T (map_of left)
    end_comes =
        let (y, r, outer) = outer_word s sound sphere v a around in
        subst (λ z. ComesBy (spur_dropped ∷ numbers_changed ∷ []) T (map_of (after s v a z closed path.one_face))) one
        (left_comes s v a a closed path.one_face (shorter y r outer) (end_left_at y r outer) (spur_dropped ∷ numbers_changed ∷ []) (hole y r outer).comes)

    pub end_stands_in : IsStandIn left (end_of s b) (Some (next_of s a))
    end_stands_in =
        let (M, e) = end_left in
        let apart : next_of s a ≢ a = next_differs T t a out.live in
        let live : IsLive left (next_of s a) =
        still_live (next_of s a) (λ is. apart (is ∙ sym one))
        (λ is. goes_on s sound sphere path v a within out many one (is ∙ ap rev (sym one))) (t.live_next a out.live) in
        record {
          vertex = (
            live,
            origin-after s v a b closed path.one_face (next_of s a) live ∙ starts-other (next_of s a) apart
                ∙ t.origin-next a out.live ∙ ap (end_of s) one,
          );
          word = on_outer s v a b closed path.one_face M e (next_of s a) live;
        }
