-- What the writes leave that turn an edge holds the mesh with it turned.
use Rattle.std.proofs.Common.{◌≡◌, ◌+◌, ◌*◌, ℕ, append-nil, refl}
use Rattle.std.proofs.Math.Nat.{sub-zero}
use Rattle.dcel_fixed.proofs.Halves.{rev-double}
use Rattle.dcel_store.specs.Lists.{Lists}
use Rattle.dcel_maps.specs.Conditions.{CanFlip}
use Rattle.dcel_maps.specs.edits.Flip.{edge_flipped}
use Rattle.dcel_maps.specs.Removals.{Removal}
use Rattle.dcel_maps.specs.Shapes.{Mesh}
use Rattle.dcel_maps.proofs.Liveness.{even_live, odd_live}
use Rattle.dcel_maps.proofs.edits.Flips.{edge_flipping, edge_flipping_is, edge_flipping_is_edit}
use Rattle.dcel_edits.specs.Flip.{CanPutFlip, flip_stored}
use Rattle.dcel_edits.proofs.stored.Changes.{change_holds, held_mesh, written}
use Rattle.dcel_edits.proofs.stored.Halves.{HoldsHalf, holds_half}
use Rattle.dcel_edits.proofs.stored.Holding.{Holds}

module _ {V DE UE F : Type 0} {s : Lists V DE UE F} {r : Removal} {m : Mesh V DE UE F} (held : Holds s r m) (u : ℕ) (can : CanFlip m.shape u) where
  edge : HoldsHalf s m (2 * u)
  edge = holds_half held (2 * u) (even_live m.shape u can.live)

  twin : HoldsHalf s m (2 * u + 1)
  twin = holds_half held (2 * u + 1) (odd_live m.shape u can.live)

  pub flip_can : CanPutFlip s (2 * u)
  flip_can = record {
    edge = edge.within;
    twin = rw (rev-double u) twin.within;
    start_in = edge.origin_in;
    end_in = rw (rev-double u) twin.origin_in;
  }

  -- the numbers that are read are those of the mesh
  read : flip_stored s (2 * u) ≡ written s (edge_flipping m u)
  read =
      rw (
        rev-double u,
        edge.next,
        edge.prev,
        edge.face,
        edge.origin,
        edge.prev_origin,
        twin.next,
        twin.prev,
        twin.face,
        twin.origin,
        twin.prev_origin,
      )
      (simp (append-nil, sub-zero) refl)

  pub flip_holds : Holds (flip_stored s (2 * u)) r (edge_flipped m u)
  flip_holds =
      rw (read, ← edge_flipping_is m u) (change_holds s r m (edge_flipping m u) held (edge_flipping_is_edit m u (held_mesh s r m held) can))
