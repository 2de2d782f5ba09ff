-- Triangles of the vertex beside the hull, beyond edges that have no other vertex on that side.
use Rattle.std.proofs.Common.{◌≡◌, ◌⊎◌, inl, inr, ℕ, zero, suc, ◌+◌, ◌*◌, ◌<◌, List, [], ◌∷◌, slice_index, refl, sym, ◌∙◌, arith}
use Rattle.dcel_fixed.specs.HalfEdges.{rev}
use Rattle.dcel_predicates.specs.declared.point.Point.{Point}
use Rattle.dcel_maps.specs.Cyclic.{from_least}
use Rattle.dcel_maps.specs.edits.Outside.{face_closed, face_put_beside}
use Rattle.dcel_maps.specs.Shapes.{IsLive, IsMesh, Mesh, Shape, end_of, face_of, map_of, next_of, origin_of}
use Rattle.dcel_maps.specs.Words.{become, word_of}
use Rattle.dcel_maps.proofs.edits.Patches.{Patch, pushing}
use Rattle.dcel_maps.proofs.maps.Soundness.{rev_live}
use Rattle.dcel_maps.proofs.walks.Links.{next-live}
use Rattle.dcel_plane.proofs.edits.Corners.{same}
use Rattle.dcel_plane.proofs.edits.Written.{IsWritten, origin_away, origin_more}
use Rattle.dcel_plane.specs.star.Star.{HasEmptyCirclesBut, HasNoneOnLeft, IsEmptyAt, IsEmptyRound}
use Rattle.dcel_plane.proofs.star.Turning.{at_least, round_turned}
use Rattle.dcel_plane.proofs.hull.Becomes.{old_or_new}
use Rattle.dcel_plane.proofs.hull.Keeping.{StartsOldOr}
use Rattle.dcel_plane.proofs.star.Grown.{empty_more, tip_round, written_star}

-- an edge with none on its left
none_there : (at : ℕ → Point) (s : Shape) (v h : ℕ) → HasNoneOnLeft at s v h → IsEmptyAt at s v (origin_of s h) (end_of s h) v
none_there at s v h none not_a not_b k live away left inside = none k live away left

module _ {V DE UE F : Type 0} (m : Mesh V DE UE F) (mesh : IsMesh m) (at : ℕ → Point) (v e : ℕ) (star : HasEmptyCirclesBut at m.shape v) (live : IsLive m.shape e) (halves : List DE) (edges : List UE) (faces : List F) where
  abbrev s : Shape
  s = m.shape

  abbrev n : ℕ
  n = 2 * m.shape.edges

  -- a triangle with a new corner
  module _ (outer : face_of m.shape e ≡ 0) (none : HasNoneOnLeft at m.shape v e) where
    abbrev r : Shape
    r = (face_put_beside m e v halves edges faces).shape

    abbrev words : Patch (List ℕ)
    words = record {
      set = (face_of s e, from_least (become e ((n + 3) ∷ (n + 1) ∷ []) (word_of s.words (face_of s e)))) ∷ [];
      more = (e ∷ n ∷ (n + 2) ∷ []) ∷ [];
    }

    abbrev origins : Patch ℕ
    origins = pushing (end_of s e ∷ v ∷ v ∷ origin_of s e ∷ [])

    written : IsWritten s r words origins
    written = record { words_are = refl; origins_are = refl; many = mesh.sized.origins; starts_stay = λ h lives inner away. tt }

    begins : (k i : ℕ) → k ≡ 2 * s.edges + i → origin_of r k ≡ slice_index origins.more i
    begins = origin_more at s r words origins written mesh.sound

    new_start : (k i : ℕ) → k ≡ 2 * s.edges + i → i < 4 → (origin_of r k ≡ v) ⊎ ((j : ℕ) × IsLive s j × (origin_of s j ≡ origin_of r k))
    new_start k zero is few = inr (rev e, rev_live (map_of s) e live, sym (begins k 0 is))
    new_start k (suc zero) is few = inl (begins k 1 is)
    new_start k (suc (suc zero)) is few = inl (begins k 2 is)
    new_start k (suc (suc (suc zero))) is few = inr (e, live, sym (begins k 3 is))
    new_start k (suc (suc (suc (suc i)))) is few = absurd (omega (arith, few))

    beside_starts : StartsOldOr s r v
    beside_starts k live_k = elim (old_or_new s r 2 refl refl k live_k) [
      | inl was ↦ inr (k, was, sym (origin_away at s r words origins written mesh.sound k was tt))
      | inr new ↦ new_start k new.0 new.1 new.2
    ]

    pub beside_star : HasEmptyCirclesBut at r v
    beside_star =
        written_star at s r words origins written mesh.sound v beside_starts star
        ((λ x y z above is. absurd (omega (arith, above, outer))), tt) (
          (λ x y z above is. same (IsEmptyRound at r v) (round_turned at r v) e n (n + 2) x y z is
              (tip_round at r v e n (n + 2) (origin_of s e) (end_of s e) (sym (origin_away at s r words origins written mesh.sound e live tt)) (sym (begins n 0 (omega arith))) (sym (begins (n + 2) 2 refl))
              (empty_more at s r v (origin_of s e) (end_of s e) v beside_starts (none_there at s v e none)))),
          tt,
        )

  -- a triangle between e and the next half edge
  abbrev x : ℕ
  x = next_of m.shape e

  abbrev q : Shape
  q = (face_closed m e halves edges faces).shape

  abbrev closing_words : Patch (List ℕ)
  closing_words = record {
    set = (0, from_least (become x [] (become e ((n + 1) ∷ []) (word_of s.words 0)))) ∷ [];
    more = from_least (e ∷ x ∷ n ∷ []) ∷ [];
  }

  abbrev closing_origins : Patch ℕ
  closing_origins = pushing (end_of s x ∷ origin_of s e ∷ [])

  closing_written : IsWritten s q closing_words closing_origins
  closing_written = record { words_are = refl; origins_are = refl; many = mesh.sized.origins; starts_stay = λ h lives inner away. tt }

  closing_old : (h : ℕ) → IsLive s h → origin_of s h ≡ origin_of q h
  closing_old h lives = sym (origin_away at s q closing_words closing_origins closing_written mesh.sound h lives tt)

  closing_begins : (k i : ℕ) → k ≡ 2 * s.edges + i → origin_of q k ≡ slice_index closing_origins.more i
  closing_begins = origin_more at s q closing_words closing_origins closing_written mesh.sound

  live_x : IsLive s x
  live_x = next-live mesh.sound e live

  closing_new : (k i : ℕ) → k ≡ 2 * s.edges + i → i < 2 → (origin_of q k ≡ v) ⊎ ((j : ℕ) × IsLive s j × (origin_of s j ≡ origin_of q k))
  closing_new k zero is few = inr (rev x, rev_live (map_of s) x live_x, sym (closing_begins k 0 is))
  closing_new k (suc zero) is few = inr (e, live, sym (closing_begins k 1 is))
  closing_new k (suc (suc i)) is few = absurd (omega (arith, few))

  closing_starts : StartsOldOr s q v
  closing_starts k live_k = elim (old_or_new s q 1 refl refl k live_k) [
    | inl was ↦ inr (k, was, closing_old k was)
    | inr new ↦ closing_new k new.0 new.1 new.2
  ]

  abbrev ClosingRound : ℕ → ℕ → ℕ → Type 0
  ClosingRound a b c = IsEmptyRound at (face_closed m e halves edges faces).shape v a b c

  closing_turn : (a b c : ℕ) → ClosingRound a b c → ClosingRound b c a
  closing_turn = round_turned at q v

  from_x : end_of s e ≡ origin_of q x
  from_x = sym (mesh.sound.joined e live) ∙ closing_old x live_x

  closed_by : ClosingRound e x n → HasEmptyCirclesBut at q v
  closed_by round =
      written_star at s q closing_words closing_origins closing_written mesh.sound v closing_starts star
      ((λ a b c above is. absurd (omega (arith, above))), tt) ((λ a b c above is. at_least q ClosingRound closing_turn e x n a b c is round), tt)

  -- v is the end of the second half edge, or the start of the first
  pub closed_at_end : end_of s x ≡ v → HasNoneOnLeft at s v e → HasEmptyCirclesBut at q v
  closed_at_end is none =
      closed_by
      (tip_round at q v e x n (origin_of s e) (end_of s e) (closing_old e live) from_x (sym is ∙ sym (closing_begins n 0 (omega arith)))
      (empty_more at s q v (origin_of s e) (end_of s e) v closing_starts (none_there at s v e none)))

  pub closed_at_start : origin_of s e ≡ v → HasNoneOnLeft at s v x → HasEmptyCirclesBut at q v
  closed_at_start is none =
      closed_by
      (closing_turn n e x (closing_turn x n e
      (tip_round at q v x n e (origin_of s x) (end_of s x) (closing_old x live_x) (sym (closing_begins n 0 (omega arith))) (sym is ∙ closing_old e live)
      (empty_more at s q v (origin_of s x) (end_of s x) v closing_starts (none_there at s v x none)))))
