use Rattle.dcel_exchange.proofs.FaceLists.{faces_all}
use Rattle.dcel_exchange.proofs.corners.face_corners.Goals as goal

pub returns : goal.returns
returns g c = faces_all c.args.dcel.now c.requires c.live_inner_faces.result c.live_inner_faces.ensures.items
