use Rattle.dcel_plane.proofs.laws.removal.hollow_corners_can_be_cut_off.Goals as goal
use Rattle.dcel_plane.proofs.removal.Strips.{cut_lists, cut_plane, hollow_convex, hollow_hull, hollow_outline, hollow_strung}

pub returns-clause-plane : goal.returns-clause-plane
returns-clause-plane g c = λ at m list mesh closed strip plane. cut_plane m mesh closed list strip at plane

pub returns-clause-convex : goal.returns-clause-convex
returns-clause-convex g c = λ at m list mesh closed strip triangles plane convex hull hollow. hollow_convex m mesh closed list strip at triangles plane convex hull hollow

pub returns-clause-hull : goal.returns-clause-hull
returns-clause-hull g c =
    λ at m list mesh closed strip triangles plane convex hull hollow i live inner one two three.
    hollow_hull m mesh closed list strip at triangles plane convex hull hollow i live inner one two three

pub returns-clause-due : goal.returns-clause-due
returns-clause-due g c = λ at m list due mesh closed strip lists. cut_lists m mesh closed list strip at due lists

pub returns-clause-outline : goal.returns-clause-outline
returns-clause-outline g c =
    λ at m list mesh closed strip triangles plane convex hull hollow i live inner. hollow_outline m mesh closed list strip at triangles plane convex hull hollow i live inner

pub returns-clause-line : goal.returns-clause-line
returns-clause-line g c =
    λ at m list mesh closed strip triangles plane convex hull hollow i live inner bare. hollow_strung m mesh closed list strip at triangles plane convex hull hollow i live inner bare
