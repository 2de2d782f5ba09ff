-- What vertices inserted and removed, and edges collapsed, do to what is kept, and how they are refused.
use Rattle.dcel_convenience.specs.Anywhere.{MayNotLeave, Removes}
use Rattle.dcel_convenience.specs.Collapsing.{CanCollapse, HasRoomToCollapse, MayNotCollapse}
use Rattle.dcel_convenience.specs.Inserting.{CanInsertVertex, MayNotInsert}
use Rattle.dcel_convenience.specs.Removing.{Returns, TakesOut, border_from}
use Rattle.dcel_convenience.specs.Simple.{IsSimple}
use Rattle.dcel_convenience.specs.declared.collapsing.WhyNotCollapsed.{WhyNotCollapsed}
use Rattle.dcel_convenience.specs.declared.collapsing.WhyNotCollapsed.TheVariants as collapsing
use Rattle.dcel_convenience.specs.declared.inserting.WhyNotInserted.{WhyNotInserted}
use Rattle.dcel_convenience.specs.declared.inserting.WhyNotInserted.TheVariants as inserting
use Rattle.dcel_convenience.specs.declared.removing.WhyNotRemoved.{WhyNotRemoved}
use Rattle.dcel_convenience.specs.declared.removing.WhyNotRemoved.TheVariants as removing
use Rattle.dcel_maps.specs.Shapes.{origin_of}
use Rattle.dcel_maps.specs.edits.Create.{vertex_appended}
use Rattle.dcel_maps.specs.edits.DefaultData.{AddsEdgesAndFaces}
use Rattle.dcel_maps.specs.edits.Triangle.{vertex_inserted}
use Rattle.spade_dcel.specs.declared.operations.results.RemovalResult.{RemovalResult}
use Rattle.dcel_c.specs.Calls.{IsZero, nowhere}
use Rattle.dcel_c.specs.Held.{Kept, State}
use Rattle.dcel_c.specs.declared.removals.DcelRemoved.{DcelRemoved}
use Rattle.std.specs.Prelude.{◌≡◌, ◌≢◌, ℕ, Some, None, unwrap_or}

-- the status of each reason
abbrev pub status_of_collapse : WhyNotCollapsed → ℕ
status_of_collapse collapsing.RemovalOpen = 4
status_of_collapse collapsing.NotInside = 27
status_of_collapse collapsing.SecondEdge = 28
status_of_collapse collapsing.NoRoom = 19
status_of_collapse collapsing.OutOfMemory = 20

abbrev pub status_of_insertion : WhyNotInserted → ℕ
status_of_insertion inserting.RemovalOpen = 4
status_of_insertion inserting.NoTriangle = 13
status_of_insertion inserting.NoRoom = 19
status_of_insertion inserting.OutOfMemory = 20

abbrev pub status_of_removal : WhyNotRemoved → ℕ
status_of_removal removing.RemovalOpen = 4
status_of_removal removing.NotInside = 27
status_of_removal removing.NoVertex = 1
status_of_removal removing.LongFace = 13
status_of_removal removing.CutVertex = 29
status_of_removal removing.ShortBorder = 30
status_of_removal removing.SecondEdge = 28
status_of_removal removing.NoRoom = 19
status_of_removal removing.OutOfMemory = 20

-- what is told of a vertex that was taken out
abbrev pub removed_of : RemovalResult ℕ → DcelRemoved
removed_of taken = record { datum = taken.removed_vertex; moved = unwrap_or taken.swapped_in_vertex nowhere }

-- the start of the half edge went into its end
pub record IsCollapsed (old : State) (h : ℕ) (new : State) (told : DcelRemoved) : Type 0 where
  pub can : CanCollapse old.shape h
  pub room : HasRoomToCollapse old.shape h
  pub edit : TakesOut IsZero IsZero IsZero (border_from old.shape h) old new (origin_of old.shape h)
  pub simple : IsSimple old.shape → IsSimple new.shape
  pub taken : RemovalResult ℕ
  pub returned : Returns old (origin_of old.shape h) taken
  pub said : told ≡ removed_of taken

-- a new vertex with this datum is in the triangle
pub record HasNewVertex (old : State) (f datum : ℕ) (new : State) (told : ℕ) : Type 0 where
  pub can : CanInsertVertex old.shape f
  pub edit : AddsEdgesAndFaces IsZero IsZero IsZero 3 2 new (vertex_inserted (vertex_appended old datum) old.shape.vertices f)
  pub said : told ≡ old.shape.vertices

-- the vertex went
pub record IsRemoved (old : State) (v : ℕ) (new : State) (told : DcelRemoved) : Type 0 where
  pub taken : RemovalResult ℕ
  pub removes : Removes IsZero IsZero IsZero old new v taken
  pub said : told ≡ removed_of taken

module _ {Told : Type 0} where
  -- there was a mesh and there is one, of which this holds
  abbrev pub IsDone : (State → State → Told → Type 0) → Kept → Kept → Told → Type 0
  IsDone Holds (Some was) (Some is) told = Holds was is told
  IsDone Holds (Some was) None told = ⊥
  IsDone Holds None new told = ⊥

module _ {Why : Type 0} where
  -- there is no mesh, or the status is that of a reason that holds; `MayNot` says that no earlier one does
  abbrev pub IsRefusedSo : (State → Why → Type 0) → (Why → ℕ) → Kept → ℕ → Type 0
  IsRefusedSo MayNot status_of None status = status ≡ 21
  IsRefusedSo MayNot status_of (Some was) status = (why : Why) × MayNot was why × (status ≡ status_of why)

module _ {Told Why : Type 0} where
  -- it is done, or refused and then nothing changes
  pub record EndsSo (Holds : State → State → Told → Type 0) (MayNot : State → Why → Type 0) (status_of : Why → ℕ) (old new : Kept) (before after : Told) (status : ℕ) : Type 0 where
    pub done : status ≡ 0 → IsDone Holds old new after
    pub refused : status ≢ 0 → IsRefusedSo MayNot status_of old status
    pub same : status ≢ 0 → (new ≡ old) × (after ≡ before)

abbrev pub Collapses : Kept → ℕ → Kept → DcelRemoved → DcelRemoved → ℕ → Type 0
Collapses old h new before after status =
    EndsSo (λ was is told. IsCollapsed was h is told) (λ was why. MayNotCollapse was.shape h why) status_of_collapse old new before after status

abbrev pub InsertsVertex : Kept → ℕ → ℕ → Kept → ℕ → ℕ → ℕ → Type 0
InsertsVertex old f datum new before after status =
    EndsSo (λ was is told. HasNewVertex was f datum is told) (λ was why. MayNotInsert was.shape f why) status_of_insertion old new before after status

abbrev pub RemovesVertex : Kept → ℕ → Kept → DcelRemoved → DcelRemoved → ℕ → Type 0
RemovesVertex old v new before after status =
    EndsSo (λ was is told. IsRemoved was v is told) (λ was why. MayNotLeave was v why) status_of_removal old new before after status
