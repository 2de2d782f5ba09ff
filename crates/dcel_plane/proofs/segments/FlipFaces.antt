-- Which half edge lies on which face after a flip, and where it starts: told of a half edge of the edge, either one.
use Rattle.std.proofs.Common.{◌≡◌, ◌≢◌, ℕ, ◌/◌, ◌<◌, List, [], ◌∷◌, sym, subst, arith}
use Rattle.dcel_fixed.specs.HalfEdges.{rev}
use Rattle.dcel_maps.specs.Conditions.{CanFlip}
use Rattle.dcel_maps.specs.Cyclic.{from_least}
use Rattle.dcel_maps.specs.edits.Flip.{edge_flipped}
use Rattle.dcel_maps.specs.Shapes.{IsLive, IsMesh, Mesh, Shape, face_of, map_of, next_of, origin_of, prev_of}
use Rattle.dcel_maps.specs.Words.{count_of, word_of}
use Rattle.dcel_maps.proofs.walks.Links.{links_stand}
use Rattle.dcel_maps.proofs.words.Counts.{count-later, count-same}
use Rattle.dcel_maps.proofs.words.Reading.{face_in_word, stands_in_face}
use Rattle.dcel_maps.proofs.words.Turns.{count-turn, from_least-turn}
use Rattle.dcel_plane.specs.Plane.{origin_point}
use Rattle.dcel_maps.proofs.edits.Flips.{flipped_mesh}
use Rattle.dcel_maps.proofs.edits.Around.{at_edge}
use Rattle.dcel_plane.proofs.edits.Flipped.{origin_e, origin_same, origin_t, word_else, word_f, word_g}
use Rattle.dcel_plane.proofs.removal.Fewer.{of_both_halves}

module _ {V DE UE F : Type 0} (m : Mesh V DE UE F) (mesh : IsMesh m) (u : ℕ) (can : CanFlip m.shape u) where
  abbrev s : Shape
  s = m.shape

  abbrev n : Shape
  n = (edge_flipped m u).shape

  -- h and t are the halves of the edge
  pub record Flipped (h t : ℕ) : Type 0 where
    pub here : face_of n h ≡ face_of s h
    pub after : face_of n (next_of s h) ≡ face_of s h
    pub before_other : face_of n (prev_of s t) ≡ face_of s h
    pub there : face_of n t ≡ face_of s t
    pub after_other : face_of n (next_of s t) ≡ face_of s t
    pub before : face_of n (prev_of s h) ≡ face_of s t
    pub away : (k : ℕ) → IsLive s k → face_of s k ≢ face_of s h → face_of s k ≢ face_of s t → face_of n k ≡ face_of s k
    pub starts : origin_of n h ≡ origin_of s (prev_of s h)
    pub ends : origin_of n t ≡ origin_of s (prev_of s t)
    pub stays : (k : ℕ) → IsLive s k → k ≢ h → k ≢ t → origin_of n k ≡ origin_of s k

  swapped : (h t : ℕ) → Flipped h t → Flipped t h
  swapped h t is = record {
    here = is.there;
    after = is.after_other;
    before_other = is.before;
    there = is.here;
    after_other = is.after;
    before = is.before_other;
    away = λ k live not_t not_h. is.away k live not_h not_t;
    starts = is.ends;
    ends = is.starts;
    stays = λ k live not_t not_h. is.stays k live not_h not_t;
  }

  open (at_edge m.shape u) use {e, t, f, g, ep, en, tp, tn}

  -- the items of a word of three
  stand : (j x y z k : ℕ) → word_of n.words j ≡ from_least (x ∷ y ∷ z ∷ []) → 0 < count_of k (x ∷ y ∷ z ∷ []) → face_of n k ≡ j
  stand j x y z k word among =
      face_in_word (map_of n) n.words (links_stand (flipped_mesh m u mesh can).sound) k j
      (subst (λ (l : List ℕ). 0 < count_of k l) (sym word) (let c = count-turn k (from_least-turn (x ∷ y ∷ z ∷ [])) in omega (arith, c, among)))

  pub of_even : Flipped e t
  of_even = record {
    here = stand f e tp en e (word_f m mesh u can) (let c = count-same e (tp ∷ en ∷ []) in omega (arith, c));
    after = stand f e tp en en (word_f m mesh u can)
        (count-later en e (tp ∷ en ∷ []) (count-later en tp (en ∷ []) (let c = count-same en [] in omega (arith, c))));
    before_other = stand f e tp en tp (word_f m mesh u can)
        (count-later tp e (tp ∷ en ∷ []) (let c = count-same tp (en ∷ []) in omega (arith, c)));
    there = stand g t ep tn t (word_g m mesh u can) (let c = count-same t (ep ∷ tn ∷ []) in omega (arith, c));
    after_other = stand g t ep tn tn (word_g m mesh u can)
        (count-later tn t (ep ∷ tn ∷ []) (count-later tn ep (tn ∷ []) (let c = count-same tn [] in omega (arith, c))));
    before = stand g t ep tn ep (word_g m mesh u can)
        (count-later ep t (ep ∷ tn ∷ []) (let c = count-same ep (tn ∷ []) in omega (arith, c)));
    away = λ k live not_f not_g.
        face_in_word (map_of n) n.words (links_stand (flipped_mesh m u mesh can).sound) k (face_of s k)
        (subst (λ (l : List ℕ). 0 < count_of k l) (sym (word_else m mesh u can (face_of s k) not_f not_g)) (stands_in_face (map_of s) s.words (links_stand mesh.sound) k live));
    starts = origin_e m mesh u can;
    ends = origin_t m mesh u can;
    stays = origin_same m mesh u can (λ i. origin_point);
  }

pub flipped_at : {V DE UE F : Type 0} (m : Mesh V DE UE F) (mesh : IsMesh m) (h : ℕ) (can : CanFlip m.shape (h / 2)) → Flipped m mesh (h / 2) can h (rev h)
flipped_at m mesh h can = of_both_halves (Flipped m mesh (h / 2) can) (swapped m mesh (h / 2) can) h (of_even m mesh (h / 2) can)
