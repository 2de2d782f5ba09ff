-- Edges turned between two triangles. Whatever an edit doesn't name stays as it was.
use Rattle.std.specs.Prelude.{◌≡◌, ℕ, zero, suc, ◌+◌, ◌*◌, [], ◌∷◌, slice_set, Some}
use Rattle.dcel_maps.specs.Conditions.{CanFlip}
use Rattle.dcel_maps.specs.Cyclic.{from_least}
use Rattle.dcel_maps.specs.Shapes.{Mesh, origin_of}
use Rattle.dcel_maps.specs.Around.{around_halves}

module _ {V DE UE F : Type 0} (m : Mesh V DE UE F) (u : ℕ) where
  abbrev e : ℕ
  e = 2 * u

  open (around_halves m.shape e (2 * u + 1)) use {t, f, g, before as ep, after as en, t_before as tp, t_after as tn, start, end}

  -- `flip_cw`: with e and t the halves of the edge u, and (e, en, ep) and (t, tn, tp) the words of the faces f and g, f becomes
  -- (e, tp, en) and g (t, ep, tn); e starts where ep does, and t where tp does
  abbrev pub edge_flipped : Mesh V DE UE F
  edge_flipped = record m {
    shape = record m.shape {
      words = slice_set (slice_set m.shape.words f (from_least (e ∷ tp ∷ en ∷ []))) g (from_least (t ∷ ep ∷ tn ∷ []));
      origins = slice_set (slice_set m.shape.origins e (origin_of m.shape ep)) t (origin_of m.shape tp);
    };
    vertex_anchors = slice_set (slice_set m.vertex_anchors start (Some tn)) end (Some en);
    face_anchors = slice_set (slice_set m.face_anchors f (Some e)) g (Some t);
  }

module _ {V DE UE F : Type 0} where
  -- the edge u flipped so many times
  abbrev pub flips : ℕ → Mesh V DE UE F → ℕ → Mesh V DE UE F
  flips zero m u = m
  flips (suc k) m u = edge_flipped (flips k m u) u

  -- once the edge u is flipped it can be flipped three times more, and then all is as it was but the anchors: words and origins, so each
  -- `next`, `prev` and face, and the data
  pub record GoesRound (m : Mesh V DE UE F) (u : ℕ) : Type 0 where
    pub second : CanFlip (flips 1 m u).shape u
    pub third : CanFlip (flips 2 m u).shape u
    pub fourth : CanFlip (flips 3 m u).shape u
    pub same : flips 4 m u ≡ record m { vertex_anchors = (flips 4 m u).vertex_anchors; face_anchors = (flips 4 m u).face_anchors }
