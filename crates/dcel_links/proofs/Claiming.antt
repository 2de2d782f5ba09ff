-- A claim is one of a mesh where it passes each check, and only there.
use Rattle.std.proofs.Common.{◌≡◌, ◌⊎◌, inl, inr, ℕ, zero, suc, ◌+◌, ◌/◌, ◌%◌, ◌<◌, Bool, true, false, List, [], length, slice_index, get_or, refl, arith}
use Rattle.dcel_maps.specs.Maps.{Live, count, is_used, starts_edge}
use Rattle.dcel_maps.specs.Removals.{Closed, gives_up_edge, is_live}
use Rattle.dcel_maps.specs.theory.Sound.{Sound, Sphere, has_word}
use Rattle.dcel_maps.proofs.Liveness.{gives_up_edge-closed, is_live-from, is_live-parts}
use Rattle.dcel_maps.proofs.maps.Counts.{count_same, same_tests, used_from, used_gives}
use Rattle.dcel_links.specs.Claims.{Claim, IsFew, IsMeshOf, claimed_map, halves}
use Rattle.dcel_links.specs.Checks.{HasRounds, HasWholeFaces, HasWholeVertices, PassesLinks, PassesWhole}
use Rattle.dcel_links.specs.Marks.{MarksLabels}
use Rattle.dcel_links.proofs.Passing.{Fits, all_reached, passes_sound}

-- a half edge is live where its number is in range
pub is_half : (c : Claim) (prev : List ℕ) (h : ℕ) → halves c % 2 ≡ 0 → h < halves c → Live (claimed_map c prev) h
is_half c prev h even below =
    is_live-from (gives_up_edge Closed) (halves c / 2) (h / 2) (omega arith) (gives_up_edge-closed (h / 2))

pub is_below : (c : Claim) (prev : List ℕ) (h : ℕ) → Live (claimed_map c prev) h → h < halves c
is_below c prev h live = let k = (is_live-parts (gives_up_edge Closed) (halves c / 2) (h / 2) live).0 in omega arith

-- where all pass, as many pass as there are
pub count_all : (p : ℕ → Bool) (n : ℕ) → ((k : ℕ) → k < n → p k ≡ true) → count p n ≡ n
count_all p zero all = refl
count_all p (suc n) all =
    let e : count p n ≡ n = count_all p n (λ k l. all k (omega arith)) in
    let i : p n ≡ true = all n (omega arith) in cc

pub count_edges : (c : Claim) (prev : List ℕ) → count (claimed_map c prev).edge (claimed_map c prev).edges ≡ halves c / 2
count_edges c prev =
    count_all (is_live (gives_up_edge Closed) (halves c / 2)) (halves c / 2)
    (λ k l. is_live-from (gives_up_edge Closed) (halves c / 2) k l (gives_up_edge-closed k))

-- which vertices and faces have a half edge doesn't depend on the links backwards
pub same_starts : (c : Claim) (prev : List ℕ) → starts_edge (claimed_map c prev) ≡ starts_edge (claimed_map c [])
unfolding starts_edge
same_starts c prev = refl

pub same_words : (c : Claim) (prev : List ℕ) → has_word (claimed_map c prev) ≡ has_word (claimed_map c [])
unfolding has_word
same_words c prev = refl

-- links one by one, and in whole rounds
pub record PassesRounds (c : Claim) (prev : List ℕ) : Type 0 where
  pub links : PassesLinks c prev
  pub whole_faces : HasWholeFaces c
  pub whole_vertices : HasWholeVertices c

module _ (c : Claim) (prev : List ℕ) (passes : PassesRounds c prev) where
  below : (h : ℕ) → Live (claimed_map c prev) h → h < halves c
  below = is_below c prev

  live : (h : ℕ) → h < halves c → Live (claimed_map c prev) h
  live h = is_half c prev h passes.links.lists.even

  claim_fits : Fits (claimed_map c prev)
  claim_fits = record {
    below_edges = λ x l. let b = below x l in let e = passes.links.lists.even in omega arith;
    below_vertices = λ x l. passes.links.in_range.origin x (let b = below x l in let e = passes.links.lists.origins in omega arith);
    below_faces = λ x l. passes.links.in_range.face x (let b = below x l in let e = passes.links.lists.sides in omega arith);
    live_next = λ x l. live _ (passes.links.in_range.next x (below x l));
    prev-next = λ x l. passes.links.undone x (below x l);
    two_ends = λ x l. passes.links.fit.two_ends x (below x l);
    origin-next = λ x l. passes.links.fit.joined x (below x l);
    face-next = λ x l. passes.links.fit.same_face x (below x l);
    one_face = λ x y l m. passes.whole_faces x y (below x l) (below y m);
    one_turn = λ x y l m. passes.whole_vertices x y (below x l) (below y m);
  }

  -- links that are whole rounds are sound
  pub claim_sound : Sound (claimed_map c prev)
  claim_sound = passes_sound (claimed_map c prev) claim_fits

  -- labels that are marked are those that are used
  marked_used : (labels : List ℕ) (marks : List Bool) → length labels ≡ halves c → MarksLabels labels marks
      → (v : ℕ) → is_used (claimed_map c prev) (λ h. slice_index labels h) v ≡ get_or marks v false
  marked_used labels marks len marked v =
      same_tests (is_used (claimed_map c prev) (λ h. slice_index labels h) v) (get_or marks v false)
      (λ used.
      let u = used_gives (claimed_map c prev) (λ h. slice_index labels h) v used in
      let b = below u.half u.live in
      (marked v).1 (u.half, omega arith, u.is))
      (λ m.
      let (h, b, e) = (marked v).0 m in
      used_from (claimed_map c prev) claim_sound (λ h. slice_index labels h) v record { half = h; live = live h (omega arith); is = e })

  pub count_starts : (marks : List Bool) → MarksLabels c.origin marks
      → count (starts_edge (claimed_map c [])) c.vertices ≡ count (λ v. get_or marks v false) c.vertices
  unfolding starts_edge
  count_starts marks marked =
      count_same (starts_edge (claimed_map c [])) (λ v. get_or marks v false) c.vertices (λ v l. marked_used c.origin marks passes.links.lists.origins marked v)

  pub count_words : (marks : List Bool) → MarksLabels c.face marks
      → count (has_word (claimed_map c [])) c.faces ≡ count (λ f. get_or marks f false) c.faces
  unfolding has_word
  count_words marks marked =
      count_same (has_word (claimed_map c [])) (λ f. get_or marks f false) c.faces (λ f l. marked_used c.face marks passes.links.lists.sides marked f)

-- so marked vertices and faces are as many as start an edge and have a word
pub counts_agree : (c : Claim) → HasRounds c → (vertices faces : List Bool) → MarksLabels c.origin vertices → MarksLabels c.face faces
    → count (starts_edge (claimed_map c [])) c.vertices + count (has_word (claimed_map c [])) c.faces
    ≡ count (λ v. get_or vertices v false) c.vertices + count (λ f. get_or faces f false) c.faces
counts_agree c rounds vertices faces v f =
    let passes : PassesRounds c rounds.each.prev =
    record { links = rounds.each.links; whole_faces = rounds.whole_faces; whole_vertices = rounds.whole_vertices } in
    let starts = count_starts c rounds.each.prev passes vertices v in
    let words = count_words c rounds.each.prev passes faces f in
    rw (starts, words) refl

module _ (c : Claim) (prev : List ℕ) (backwards : length prev ≡ halves c) (few : IsFew c) (some_face : 0 < c.faces) (links : PassesLinks c prev) (passes : PassesWhole c) where
  rounds : PassesRounds c prev
  rounds = record { links = links; whole_faces = passes.whole_faces; whole_vertices = passes.whole_vertices }

  sound : Sound (claimed_map c prev)
  sound = claim_sound c prev rounds

  claim_sphere : Sphere (claimed_map c prev)
  claim_sphere = record {
    connected = all_reached (claimed_map c prev) sound 0
        (λ x l. let b = is_below c prev x l in (live c prev rounds 0 (omega arith), passes.one x b));
    euler = λ u l.
        let k = (is_live-parts (gives_up_edge Closed) (halves c / 2) u l).0 in
        let some : 0 < halves c = omega arith in
        rw (same_starts c prev, same_words c prev, count_edges c prev) (passes.euler some);
  }

  word : (f : ℕ) → f < c.faces → (0 < f) ⊎ (0 < halves c) → has_word (claimed_map c prev) f ≡ true
  unfolding has_word
  word f l w =
      let (h, b, e) = passes.uses f l w in
      used_from (claimed_map c prev) sound (claimed_map c prev).face f record { half = h; live = live c prev rounds h b; is = e }

  -- a claim that passes is one of a mesh
  pub passes_mesh : IsMeshOf c prev
  passes_mesh = record {
    lists = links.lists;
    backwards = backwards;
    few = few;
    sound = sound;
    sphere = claim_sphere;
    some_face = some_face;
    inner = λ f some l. word f l (inl some);
    outer = λ some. word 0 some_face (inr some);
  }
