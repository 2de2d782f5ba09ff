-- Links read off a mesh.
use Rattle.std.specs.Prelude.{ℕ}
use Rattle.dcel_exchange.specs.declared.steps.Link.{Link}
use Rattle.dcel_exchange.specs.declared.lists.LinkLists.{LinkLists}
use Rattle.dcel_links.specs.Claims.{Claim, claim}
use Rattle.dcel_maps.specs.Shapes.{Shape, face_of, next_of, origin_of}

-- the links of the half edge h
abbrev pub link_of : Shape → ℕ → Link
link_of s h = record { next = next_of s h; origin = origin_of s h; face = face_of s h }

-- what lists of links claim of so many vertices and faces
abbrev pub lists_claim : {A : Type 0} → LinkLists A → ℕ → ℕ → Claim
lists_claim lists vertices faces = claim lists.next.items lists.origin.items lists.face.items vertices faces
