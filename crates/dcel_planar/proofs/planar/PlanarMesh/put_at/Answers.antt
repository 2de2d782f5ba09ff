use Rattle.std.proofs.Common.{◌⊎◌, inl, inr, refl}
use Rattle.dcel_planar.specs.Edges.{KeepsEdgeData, KeepsEdges}
use Rattle.dcel_planar.specs.Growing.{HasHull, IsFlat}
use Rattle.dcel_planar.proofs.Ending.{on_ok}
use Rattle.dcel_planar.proofs.Ends.{same_edges, same_starts, starts_on_ok}
use Rattle.dcel_planar.proofs.Whole.{on_err}
use Rattle.dcel_planar.proofs.Whole.{either_outside, put_either}
use Rattle.dcel_planar.proofs.Refused.{put_refused, refused_mesh}
use Rattle.dcel_planar.proofs.OthersEmpty.{alone_empty, ok_anyhow, stays_empty}
use Rattle.dcel_planar.proofs.planar.PlanarMesh.put_at.Goals as goal

pub returns-in-OnVertex-clause-edge_data : goal.returns-in-OnVertex-clause-edge_data
returns-in-OnVertex-clause-edge_data g c = (same_edges _ c.args.self.now.dcel c.args.self.now.dcel refl).edge_data

pub returns-in-OnFace-clause-edge_data : goal.returns-in-OnFace-clause-edge_data
returns-in-OnFace-clause-edge_data g c =
    let put = c.put_in_face in
    put_either put.result _ c.args.self.now.dcel put.new.self.dcel (λ m. KeepsEdgeData g.UE.Default.is_default c.args.self.now.dcel m) (on_ok put.result (λ (kept : KeepsEdges g.UE.Default.is_default c.args.self.now.dcel put.new.self.dcel). kept.edge_data) put.ensures.edges) (refused_mesh put.result c.args.self.now put.new.self put.ensures.refused) (same_edges _ c.args.self.now.dcel c.args.self.now.dcel refl).edge_data

pub returns-in-OnFace-clause-starts : goal.returns-in-OnFace-clause-starts
returns-in-OnFace-clause-starts g c = let put = c.put_in_face in same_starts put.result _ c.args.self.now.dcel put.new.self.dcel (refused_mesh put.result c.args.self.now put.new.self put.ensures.refused)

pub returns-in-OnFace-clause-ends : goal.returns-in-OnFace-clause-ends
returns-in-OnFace-clause-ends g c =
    let put = c.put_in_face in
    rw c.in-OnFace.is (starts_on_ok put.result _ c.args.self.now.dcel put.new.self.dcel put.ensures.edges)

pub returns-in-OnEdge-clause-edge_data : goal.returns-in-OnEdge-clause-edge_data
returns-in-OnEdge-clause-edge_data g c =
    let put = c.put_on_any_edge in
    put_either put.result _ c.args.self.now.dcel put.new.self.dcel (λ m. KeepsEdgeData g.UE.Default.is_default c.args.self.now.dcel m) put.ensures.edge_data (refused_mesh put.result c.args.self.now put.new.self put.ensures.refused) (same_edges _ c.args.self.now.dcel c.args.self.now.dcel refl).edge_data

pub returns-in-OnEdge-clause-starts : goal.returns-in-OnEdge-clause-starts
returns-in-OnEdge-clause-starts g c = let put = c.put_on_any_edge in same_starts put.result _ c.args.self.now.dcel put.new.self.dcel (refused_mesh put.result c.args.self.now put.new.self put.ensures.refused)

pub returns-in-BeyondLine-clause-edge_data : goal.returns-in-BeyondLine-clause-edge_data
returns-in-BeyondLine-clause-edge_data g c =
    let put = c.put_beyond in
    put_either put.result _ c.args.self.now.dcel put.new.self.dcel (λ m. KeepsEdgeData g.UE.Default.is_default c.args.self.now.dcel m) (on_ok put.result (λ (kept : KeepsEdges g.UE.Default.is_default c.args.self.now.dcel put.new.self.dcel). kept.edge_data) put.ensures.edges) (refused_mesh put.result c.args.self.now put.new.self put.ensures.refused) (same_edges _ c.args.self.now.dcel c.args.self.now.dcel refl).edge_data

pub returns-in-BeyondLine-clause-starts : goal.returns-in-BeyondLine-clause-starts
returns-in-BeyondLine-clause-starts g c = let put = c.put_beyond in same_starts put.result _ c.args.self.now.dcel put.new.self.dcel (refused_mesh put.result c.args.self.now put.new.self put.ensures.refused)

pub returns-in-BeyondLine-clause-ends : goal.returns-in-BeyondLine-clause-ends
returns-in-BeyondLine-clause-ends g c =
    let put = c.put_beyond in
    rw c.in-BeyondLine.is (starts_on_ok put.result _ c.args.self.now.dcel put.new.self.dcel put.ensures.edges)

pub returns-in-NoTriangulation-clause-edge_data : goal.returns-in-NoTriangulation-clause-edge_data
returns-in-NoTriangulation-clause-edge_data g c =
    let put = c.put_first in
    put_either put.result _ c.args.self.now.dcel put.new.self.dcel (λ m. KeepsEdgeData g.UE.Default.is_default c.args.self.now.dcel m) (on_ok put.result (λ (kept : KeepsEdges g.UE.Default.is_default c.args.self.now.dcel put.new.self.dcel). kept.edge_data) put.ensures.edges) (refused_mesh put.result c.args.self.now put.new.self put.ensures.refused) (same_edges _ c.args.self.now.dcel c.args.self.now.dcel refl).edge_data

pub returns-in-NoTriangulation-clause-starts : goal.returns-in-NoTriangulation-clause-starts
returns-in-NoTriangulation-clause-starts g c = let put = c.put_first in same_starts put.result _ c.args.self.now.dcel put.new.self.dcel (refused_mesh put.result c.args.self.now put.new.self put.ensures.refused)

pub returns-in-NoTriangulation-clause-ends : goal.returns-in-NoTriangulation-clause-ends
returns-in-NoTriangulation-clause-ends g c =
    let put = c.put_first in
    rw c.in-NoTriangulation.is (starts_on_ok put.result _ c.args.self.now.dcel put.new.self.dcel put.ensures.edges)

pub returns-in-OutsideOfConvexHull-clause-edge_data : goal.returns-in-OutsideOfConvexHull-clause-edge_data
returns-in-OutsideOfConvexHull-clause-edge_data g c = c.put_outside.ensures.edges.edge_data

pub returns-in-OutsideOfConvexHull-clause-starts : goal.returns-in-OutsideOfConvexHull-clause-starts
returns-in-OutsideOfConvexHull-clause-starts g c = on_err c.put_outside.result _ c.put_outside.ensures.edges.starts

pub returns-in-OnVertex-clause-outside : goal.returns-in-OnVertex-clause-outside
returns-in-OnVertex-clause-outside g c = either_outside c.args.self.now.dcel c.args.self.now.due.items c.requires.hull

pub returns-in-OnFace-clause-outside : goal.returns-in-OnFace-clause-outside
returns-in-OnFace-clause-outside g c =
    let put = c.put_in_face in
    either_outside put.new.self.dcel put.new.self.due.items
    (put_either put.result _ c.args.self.now.dcel put.new.self.dcel (λ m. IsFlat m ⊎ HasHull m) (on_ok put.result (λ has. inr has) put.ensures.hull) (refused_mesh put.result c.args.self.now put.new.self put.ensures.refused) c.requires.hull)

pub returns-in-OnEdge-clause-outside : goal.returns-in-OnEdge-clause-outside
returns-in-OnEdge-clause-outside g c =
    let put = c.put_on_any_edge in
    either_outside put.new.self.dcel put.new.self.due.items
    (put_either put.result _ c.args.self.now.dcel put.new.self.dcel (λ m. IsFlat m ⊎ HasHull m) put.ensures.hull (refused_mesh put.result c.args.self.now put.new.self put.ensures.refused) c.requires.hull)

pub returns-in-BeyondLine-clause-outside : goal.returns-in-BeyondLine-clause-outside
returns-in-BeyondLine-clause-outside g c = inl c.put_beyond.ensures.flat

pub returns-in-NoTriangulation-clause-outside : goal.returns-in-NoTriangulation-clause-outside
returns-in-NoTriangulation-clause-outside g c = inl c.put_first.ensures.flat

pub returns-in-OnFace-clause-refuses : goal.returns-in-OnFace-clause-refuses
returns-in-OnFace-clause-refuses g c = put_refused c.args.self.now c.put_in_face.new.self c.args.point c.put_in_face.result c.put_in_face.ensures.refused

pub returns-in-OnEdge-clause-refuses : goal.returns-in-OnEdge-clause-refuses
returns-in-OnEdge-clause-refuses g c = put_refused c.args.self.now c.put_on_any_edge.new.self c.args.point c.put_on_any_edge.result c.put_on_any_edge.ensures.refused

pub returns-in-BeyondLine-clause-refuses : goal.returns-in-BeyondLine-clause-refuses
returns-in-BeyondLine-clause-refuses g c = put_refused c.args.self.now c.put_beyond.new.self c.args.point c.put_beyond.result c.put_beyond.ensures.refused

pub returns-in-NoTriangulation-clause-refuses : goal.returns-in-NoTriangulation-clause-refuses
returns-in-NoTriangulation-clause-refuses g c = put_refused c.args.self.now c.put_first.new.self c.args.point c.put_first.result c.put_first.ensures.refused

pub returns-in-OnVertex-clause-circles : goal.returns-in-OnVertex-clause-circles
returns-in-OnVertex-clause-circles g c = stays_empty c.args.self.now.dcel c.args.self.now.dcel refl

pub returns-in-BeyondLine-clause-circles : goal.returns-in-BeyondLine-clause-circles
returns-in-BeyondLine-clause-circles g c = let put = c.put_beyond in ok_anyhow put.result (λ empty. alone_empty put.new.self.dcel c.args.self.now.dcel.shape.vertices put.ensures.flat.alone)

pub returns-in-NoTriangulation-clause-circles : goal.returns-in-NoTriangulation-clause-circles
returns-in-NoTriangulation-clause-circles g c = let put = c.put_first in ok_anyhow put.result (λ empty. alone_empty put.new.self.dcel c.args.self.now.dcel.shape.vertices put.ensures.flat.alone)
