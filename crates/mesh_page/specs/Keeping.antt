-- What calls find on a desk, and what they leave there.
use Rattle.dcel_constrained.specs.declared.triangulation.ConstrainedTriangulation.{ConstrainedTriangulation}
use Rattle.dcel_delaunay.specs.declared.triangulation.Triangulation.{Triangulation}
use Rattle.dcel_planar.specs.Outcomes.{IsWholeMesh}
use Rattle.lent_heap.specs.declared.heap.Heap.{Heap}
use Rattle.mesh_page.specs.Held.{Kept}
use Rattle.mesh_page.specs.declared.desk.Conversation.{Conversation}
use Rattle.mesh_page.specs.declared.desk.Thing.{Thing}
use Rattle.mesh_page.specs.declared.desk.Thing.TheVariants.{Constrained, Delaunay, Mesh, Nothing}
use Rattle.mesh_page.specs.declared.holder.MeshPageKept.{MeshPageKept}
use Rattle.std.specs.Prelude.{Option, None, Some, IsSome, ⊤}
use denote.Ref.{Bor}

-- a triangulation in a heap of lent memory, as contracts see it
abbrev pub State : Type 0
State = Triangulation (Bor Heap)

-- a constrained one
abbrev pub Marked : Type 0
Marked = ConstrainedTriangulation (Bor Heap)

-- nothing in it is left undone
abbrev pub IsWhole : State → Type 0
IsWhole t = IsWholeMesh t.planar

abbrev pub IsWholeMarked : Marked → Type 0
IsWholeMarked t = IsWholeMesh t.planar

-- there is a desk
abbrev pub IsOpen : MeshPageKept → Type 0
IsOpen k = IsSome k.held.kept

abbrev pub on_desk : Kept → Thing
on_desk None = Nothing
on_desk (Some desk) = desk.thing

-- what is on the desk, nothing if there is none
abbrev pub thing_in : MeshPageKept → Thing
thing_in k = on_desk k.held.kept

abbrev pub as_delaunay : Thing → Option State
as_delaunay Nothing = None
as_delaunay (Delaunay t) = Some t
as_delaunay (Constrained t) = None
as_delaunay (Mesh c) = None

-- the Delaunay triangulation on the desk
abbrev pub delaunay_in : MeshPageKept → Option State
delaunay_in k = as_delaunay (thing_in k)

abbrev pub as_constrained : Thing → Option Marked
as_constrained Nothing = None
as_constrained (Delaunay t) = None
as_constrained (Constrained t) = Some t
as_constrained (Mesh c) = None

-- the constrained one
abbrev pub constrained_in : MeshPageKept → Option Marked
constrained_in k = as_constrained (thing_in k)

abbrev pub as_mesh : Thing → Option Conversation
as_mesh Nothing = None
as_mesh (Delaunay t) = None
as_mesh (Constrained t) = None
as_mesh (Mesh c) = Some c

-- the mesh that lines edit, with what the last one is answered
abbrev pub mesh_in : MeshPageKept → Option Conversation
mesh_in k = as_mesh (thing_in k)

-- there is one, and this is so of it
abbrev pub IsSo : {T : Type 0} → (T → Type 0) → Option T → Type 0
IsSo holds None = ⊥
IsSo holds (Some t) = holds t

-- there was one and there is one, and this is so of both
abbrev pub AreSo : {S T : Type 0} → (S → T → Type 0) → Option S → Option T → Type 0
AreSo holds None new = ⊥
AreSo holds (Some old) new = IsSo (holds old) new

-- no triangulation is on the desk
abbrev pub HasNone : Thing → Type 0
HasNone Nothing = ⊤
HasNone (Delaunay t) = ⊥
HasNone (Constrained t) = ⊥
HasNone (Mesh c) = ⊤

-- a triangulation is on the desk; the first is so of it, or if it is a constrained one the second
abbrev pub IsEither : (State → Type 0) → (Marked → Type 0) → Thing → Type 0
IsEither points among Nothing = ⊥
IsEither points among (Delaunay t) = points t
IsEither points among (Constrained t) = among t
IsEither points among (Mesh c) = ⊥

-- one was there and is there, of the same kind; the first is so of both, or the second
abbrev pub AreEither : (State → State → Type 0) → (Marked → Marked → Type 0) → Thing → Thing → Type 0
AreEither points among Nothing new = ⊥
AreEither points among (Delaunay old) new = IsEither (points old) (λ t. ⊥) new
AreEither points among (Constrained old) new = IsEither (λ t. ⊥) (among old) new
AreEither points among (Mesh c) new = ⊥
