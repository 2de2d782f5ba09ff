use Rattle.dcel_exchange.proofs.ListedTriangles.{Lists}
use Rattle.dcel_exchange.proofs.triangles.face_triangles.Given as goal

abbrev pub invariant-loop-corners : goal.invariant-loop-corners
invariant-loop-corners g l = Lists l.dcel l.triangles.items l.corners-iterator
