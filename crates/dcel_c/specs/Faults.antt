-- What is told of links and faces that no mesh is made of. The numbers of the kinds stand in the header.
use Rattle.dcel_c.specs.declared.fault.DcelFault.{DcelFault}
use Rattle.dcel_exchange.specs.declared.refusal.FacesError.{FacesError}
use Rattle.dcel_exchange.specs.declared.refusal.FacesError.TheVariants as faces
use Rattle.dcel_links.specs.declared.fault.LinksFault.{LinksFault}
use Rattle.dcel_links.specs.declared.fault.LinksFault.TheVariants as links
use Rattle.std.specs.Prelude.{ℕ}

abbrev pub fault : ℕ → ℕ → ℕ → ℕ → ℕ → DcelFault
fault kind number other from to = record { kind = kind; number = number; other = other; from = from; to = to }

abbrev pub links_fault : LinksFault → DcelFault
links_fault links.Lengths = fault 1 0 0 0 0
links_fault links.TooMany = fault 2 0 0 0 0
links_fault links.NoFace = fault 3 0 0 0 0
links_fault links.MoreFaces = fault 4 0 0 0 0
links_fault (links.NextOutOfRange half) = fault 5 half 0 0 0
links_fault (links.OriginOutOfRange half) = fault 6 half 0 0 0
links_fault (links.FaceOutOfRange half) = fault 7 half 0 0 0
links_fault (links.TwoLeadTo half) = fault 8 half 0 0 0
links_fault (links.OneEnd half) = fault 9 half 0 0 0
links_fault (links.Apart half) = fault 10 half 0 0 0
links_fault (links.LeavesFace half) = fault 11 half 0 0 0
links_fault (links.FaceInParts face) = fault 12 face 0 0 0
links_fault (links.VertexInParts vertex) = fault 13 vertex 0 0 0
links_fault (links.UnusedFace face) = fault 14 face 0 0 0
links_fault (links.NotConnected half) = fault 15 half 0 0 0
links_fault (links.NotSphere genus) = fault 16 genus 0 0 0

-- the counts of corners don't add up to the corners
abbrev pub other_count : DcelFault
other_count = fault 17 0 0 0 0

abbrev pub faces_fault : FacesError → DcelFault
faces_fault (faces.FewCorners face) = fault 18 face 0 0 0
faces_fault faces.TooManyCorners = fault 19 0 0 0 0
faces_fault (faces.NoVertex face corner) = fault 20 face 0 corner 0
faces_fault (faces.OneEnd face corner) = fault 21 face 0 corner corner
faces_fault (faces.SideTwice face other from to) = fault 22 face other from to
faces_fault (faces.BorderTwice vertex) = fault 23 vertex 0 0 0
faces_fault faces.Closed = links_fault (links.UnusedFace 0)
faces_fault faces.Borders = links_fault (links.FaceInParts 0)
faces_fault (faces.NotConnected half) = links_fault (links.NotConnected half)
faces_fault (faces.Links found) = links_fault found
faces_fault faces.OutOfMemory = fault 0 0 0 0 0
