use Rattle.std.proofs.Common.{◌≢◌, ℕ}
use Rattle.dcel_maps.specs.Shapes.{IsMesh}
use Rattle.dcel_planar.specs.Places.{IsPlace}
use Rattle.dcel_planar.specs.declared.position.PositionInTriangulation.TheVariants.{OnEdge}
use Rattle.dcel_planar.proofs.Refused.{put_mesh}
use Rattle.dcel_constrained.proofs.Settled.{points_result, splits_beside, starts_result}
use Rattle.dcel_constrained.proofs.Told.{put_told}
use Rattle.dcel_constrained.proofs.insert.put_in.Goals as goal

pub returns-in_default : goal.returns-in_default
returns-in_default g c =
    let old = c.args.planar.now in
    let new = c.put_at-put.new.self in
    let m = old.dcel in
    let n = new.dcel in
    let r = c.put_at-put.result in
    let put = c.put_at-put.ensures in
    let mesh : IsMesh m = c.every_mesh.ensures in
    let after : IsMesh n = c.every_mesh-in_default.ensures in
    let place : IsPlace m c.args.point c.locate.result = c.locate.ensures in
    let beside : (h : ℕ) → c.locate.result ≢ OnEdge h = λ h is. c.in_default.not-OnEdge h is in
    record {
      put = put_told old new c.locate.result c.args.point place r put.put;
      refuses = put.refuses;
      lists = put.lists;
      splits =
          splits_beside m n _ (λ x is. is) put.edge_data mesh after new.triangulated.closed
          (starts_result m n c.locate.result r beside put.ends put.starts)
          (points_result old new c.locate.result c.args.point r mesh put.put (put_mesh old new c.args.point r put.refuses));
      hull = put.hull;
      mesh = after;
    }
