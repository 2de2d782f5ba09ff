-- What the closing of a triangle leaves of the outer face, and of half edges and their ends.
use Rattle.std.proofs.Common.{◌≡◌, ◌≢◌, ◌⊎◌, inl, inr, ℕ, zero, suc, ◌+◌, ◌*◌, ◌<◌, List, [], ◌∷◌, slice_set, slice_index, refl, sym, ap, ◌∙◌, subst, arith}
use Rattle.std.proofs.lemmas.List.{get_or-set_same, get_or_append_left, length-set}
use Rattle.dcel_fixed.specs.HalfEdges.{rev}
use Rattle.dcel_fixed.proofs.Halves.{rev-double, rev-double-suc}
use Rattle.dcel_predicates.specs.declared.point.Point.{Point}
use Rattle.dcel_maps.specs.Cyclic.{from_least}
use Rattle.dcel_maps.specs.Shapes.{IsLive, IsMesh, IsSound, Mesh, Shape, end_of, face_of, map_of, next_of, origin_of}
use Rattle.dcel_maps.specs.Words.{become, count_of, word_of}
use Rattle.dcel_maps.specs.edits.Outside.{face_closed}
use Rattle.dcel_maps.proofs.edits.Patches.{Patch, pushing}
use Rattle.dcel_maps.proofs.maps.Soundness.{rev_live}
use Rattle.dcel_maps.proofs.walks.Links.{half-below, links_stand, next-live}
use Rattle.dcel_maps.proofs.words.Counts.{count-same}
use Rattle.dcel_maps.proofs.words.Reading.{face-next, stands_in_face}
use Rattle.dcel_plane.proofs.edits.Written.{IsWritten, origin_away, origin_more}
use Rattle.dcel_plane.proofs.hull.Becomes.{in_become, in_outer, of_one, old_or_new, out_outer, put_in, stays_in, still_live, was_live, was_on}

-- an outer half edge of q that was one of s, with the same ends, and isn't e or the next one
pub record Stays (s q : Shape) (e h : ℕ) : Type 0 where
  pub here : IsLive s h
  pub outer : face_of s h ≡ 0
  pub off : h ≢ e
  pub off_x : h ≢ next_of s e
  pub start : origin_of s h ≡ origin_of q h
  pub end : end_of s h ≡ end_of q h

-- A triangle is closed between e and the next half edge, both outer: q is what comes of s. The new outer half edge leads from where e starts to where
-- the next one ends.
pub record IsStep (s q : Shape) (e : ℕ) : Type 0 where
  pub sound : IsSound s
  pub sound_after : IsSound q
  pub live : IsLive s e
  pub on : face_of s e ≡ 0
  pub live_x : IsLive s (next_of s e)
  pub on_x : face_of s (next_of s e) ≡ 0
  pub joined : origin_of s (next_of s e) ≡ end_of s e
  pub back_x : IsLive s (rev (next_of s e))
  pub new : ℕ
  pub new_outer : IsLive q new × (face_of q new ≡ 0)
  pub new_start : origin_of q new ≡ origin_of s e
  pub new_end : end_of q new ≡ end_of s (next_of s e)
  pub outer_cases : (h : ℕ) → IsLive q h → face_of q h ≡ 0 → Stays s q e h ⊎ (h ≡ new)
  pub stays_outer : (h : ℕ) → IsLive s h → face_of s h ≡ 0 → h ≢ e → h ≢ next_of s e → face_of q h ≡ 0
  pub live_q : (h : ℕ) → IsLive s h → IsLive q h
  pub old : (h : ℕ) → IsLive s h → origin_of s h ≡ origin_of q h
  pub new_not_old : ¬ IsLive s new
  pub or_new : (h : ℕ) → IsLive q h
      → IsLive s h ⊎ (((origin_of q h ≡ end_of s (next_of s e)) × (end_of q h ≡ origin_of s e)) ⊎ ((origin_of q h ≡ origin_of s e) × (end_of q h ≡ end_of s (next_of s e))))

module _ {V DE UE F : Type 0} (m : Mesh V DE UE F) (mesh : IsMesh m) (at : ℕ → Point) (e : ℕ) (live : IsLive m.shape e) (on : face_of m.shape e ≡ 0) (halves : List DE) (edges : List UE) (faces : List F)
    (result : IsMesh (face_closed m e halves edges faces)) where
  abbrev s : Shape
  s = m.shape

  abbrev q : Shape
  q = (face_closed m e halves edges faces).shape

  abbrev n : ℕ
  n = 2 * m.shape.edges

  abbrev x : ℕ
  x = next_of m.shape e

  abbrev a : ℕ
  a = origin_of m.shape e

  abbrev b : ℕ
  b = end_of m.shape e

  abbrev c : ℕ
  c = end_of m.shape x

  live_x : IsLive s x
  live_x = next-live mesh.sound e live

  on_x : face_of s x ≡ 0
  on_x = face-next (map_of s) s.words (links_stand mesh.sound) e live ∙ on

  joined : origin_of s x ≡ b
  joined = mesh.sound.joined e live

  back_x : IsLive s (rev x)
  back_x = rev_live (map_of s) x live_x

  abbrev outer_items : List ℕ
  outer_items = become x [] (become e ((n + 1) ∷ []) (word_of s.words 0))

  abbrev words : Patch (List ℕ)
  words = record { set = (0, from_least outer_items) ∷ []; more = from_least (e ∷ x ∷ n ∷ []) ∷ [] }

  abbrev origins : Patch ℕ
  origins = pushing (c ∷ a ∷ [])

  written : IsWritten s q words origins
  written = record { words_are = refl; origins_are = refl; many = mesh.sized.origins; starts_stay = λ h lives inner away. tt }

  old : (h : ℕ) → IsLive s h → origin_of s h ≡ origin_of q h
  old h lives = sym (origin_away at s q words origins written mesh.sound h lives tt)

  more_at : (k i : ℕ) → k ≡ 2 * s.edges + i → origin_of q k ≡ slice_index origins.more i
  more_at k i is = origin_more at s q words origins written mesh.sound k i is

  outer_word : word_of q.words 0 ≡ from_least outer_items
  outer_word =
      get_or_append_left (slice_set s.words 0 (from_least outer_items)) words.more [] 0
      (let l = length-set s.words 0 (from_least outer_items) in let o = mesh.sized.outer in omega (arith, l, o))
      ∙ get_or-set_same s.words 0 (from_least outer_items) [] mesh.sized.outer

  starts_1 : origin_of q (n + 1) ≡ a
  starts_1 = more_at (n + 1) 1 refl

  ends_1 : end_of q (n + 1) ≡ c
  ends_1 = ap (origin_of q) (rev-double-suc s.edges) ∙ more_at n 0 (omega arith)

  ends_0 : end_of q (2 * s.edges) ≡ a
  ends_0 = ap (origin_of q) (rev-double s.edges) ∙ starts_1

  outer_cases : (h : ℕ) → IsLive q h → face_of q h ≡ 0 → Stays s q e h ⊎ (h ≡ n + 1)
  outer_cases h live_h on_h =
      let found = in_outer s q mesh.sound result.sound outer_items outer_word h live_h on_h in
      elim (in_become h x [] (become e ((n + 1) ∷ []) (word_of s.words 0)) found) [
        | inl none ↦ absurd (omega (arith, none))
        | inr kept ↦ elim (in_become h e ((n + 1) ∷ []) (word_of s.words 0) kept.0) [
          | inl put ↦ inr (of_one h (n + 1) put)
          | inr stood ↦
              let was = was_live s mesh.sound h stood.0 in
              inl (record { here = was; outer = was_on s mesh.sound h stood.0; off = stood.1; off_x = kept.1; start = old h was; end = old (rev h) (rev_live (map_of s) h was) })
        ]
      ]

  or_new : (h : ℕ) → IsLive q h → IsLive s h ⊎ (((origin_of q h ≡ c) × (end_of q h ≡ a)) ⊎ ((origin_of q h ≡ a) × (end_of q h ≡ c)))
  or_new h live_h = elim (old_or_new s q 1 refl refl h live_h) [ inl was ↦ inl was | inr new ↦ inr (of_new h new.0 new.1 new.2) ]
    where
      of_new : (h i : ℕ) → h ≡ 2 * s.edges + i → i < 2 → ((origin_of q h ≡ c) × (end_of q h ≡ a)) ⊎ ((origin_of q h ≡ a) × (end_of q h ≡ c))
      of_new h zero is few = let even : h ≡ 2 * s.edges = omega (arith, is) in inl (more_at h 0 is, ap (λ k. origin_of q (rev k)) even ∙ ends_0)
      of_new h (suc zero) is few = inr (more_at h 1 is, ap (end_of q) is ∙ ends_1)
      of_new h (suc (suc i)) is few = absurd (omega (arith, few))

  in_word : (h : ℕ) → IsLive s h → face_of s h ≡ 0 → 0 < count_of h (word_of s.words 0)
  in_word h live_h on_h = subst (λ (k : ℕ). 0 < count_of h (word_of s.words k)) on_h (stands_in_face (map_of s) s.words (links_stand mesh.sound) h live_h)

  new_outer : IsLive q (n + 1) × (face_of q (n + 1) ≡ 0)
  new_outer =
      let put : 0 < count_of (n + 1) (become e ((n + 1) ∷ []) (word_of s.words 0)) =
      put_in (n + 1) e ((n + 1) ∷ []) (word_of s.words 0) (let k = count-same (n + 1) [] in omega (arith, k)) (in_word e live on) in
      let off : n + 1 ≢ x = λ is. let k = half-below s x live_x in omega (arith, is, k) in
      out_outer q result.sound outer_items outer_word (n + 1) (stays_in (n + 1) x [] (become e ((n + 1) ∷ []) (word_of s.words 0)) off put)

  stays_outer : (h : ℕ) → IsLive s h → face_of s h ≡ 0 → h ≢ e → h ≢ next_of s e → face_of q h ≡ 0
  stays_outer h live_h on_h off off_x =
      (out_outer q result.sound outer_items outer_word h
      (stays_in h x [] (become e ((n + 1) ∷ []) (word_of s.words 0)) off_x (stays_in h e ((n + 1) ∷ []) (word_of s.words 0) off (in_word h live_h on_h)))).1

  pub closed_step : IsStep s q e
  closed_step = record {
    sound = mesh.sound;
    sound_after = result.sound;
    live = live;
    on = on;
    live_x = live_x;
    on_x = on_x;
    joined = joined;
    back_x = back_x;
    new = n + 1;
    new_outer = new_outer;
    new_start = starts_1;
    new_end = ends_1;
    outer_cases = outer_cases;
    stays_outer = stays_outer;
    live_q = λ h lives. still_live s q 1 refl refl h lives;
    old = old;
    new_not_old = λ was. let b = half-below s (n + 1) was in omega (arith, b);
    or_new = or_new;
  }
