-- What each fault says of a claim, and in which order faults are looked for.
use Rattle.std.specs.Prelude.{◌≡◌, ◌≢◌, ◌⊎◌, ℕ, ◌+◌, ◌-◌, ◌/◌, ◌<◌, ◌≤◌, List, [], length, slice_index}
use Rattle.dcel_fixed.specs.HalfEdges.{rev}
use Rattle.dcel_maps.specs.Maps.{By, NextOrRev, Reaches, count, starts_edge}
use Rattle.dcel_maps.specs.theory.Sound.{has_word}
use Rattle.dcel_links.specs.Claims.{Claim, HasFewFaces, HasLists, IsFew, claimed_map, halves}
use Rattle.dcel_links.specs.Stages.{Stage, place}
use Rattle.dcel_links.specs.Stages as stages
use Rattle.dcel_links.specs.declared.fault.LinksFault.{LinksFault}
use Rattle.dcel_links.specs.declared.fault.LinksFault.TheVariants.{Lengths, TooMany, NoFace, MoreFaces, NextOutOfRange, OriginOutOfRange, FaceOutOfRange, TwoLeadTo, OneEnd, Apart, LeavesFace, FaceInParts, VertexInParts, UnusedFace, NotConnected, NotSphere}

-- the next half edge out of the same vertex, the other way round: `ccw` undoes it
abbrev pub turned : List ℕ → ℕ → ℕ
turned next h = slice_index next (rev h)

-- two different half edges lead to k
pub record TwoLead (next : List ℕ) (k : ℕ) : Type 0 where
  pub one : ℕ
  pub other : ℕ
  pub one_in : one < length next
  pub other_in : other < length next
  pub apart : one ≢ other
  pub one_leads : slice_index next one ≡ k
  pub other_leads : slice_index next other ≡ k

-- two half edges have the label, and steps don't lead from one to the other
pub record InParts (n : ℕ) (step label : ℕ → ℕ) (v : ℕ) : Type 0 where
  pub one : ℕ
  pub other : ℕ
  pub one_in : one < n
  pub other_in : other < n
  pub one_label : label one ≡ v
  pub other_label : label other ≡ v
  pub apart : ¬ Reaches (By step) one other

-- no half edge lies on the face f, which is an inner one or that of an edge
pub record IsUnused (c : Claim) (f : ℕ) : Type 0 where
  pub below : f < c.faces
  pub wanted : (0 < f) ⊎ (0 < halves c)
  pub empty : (h : ℕ) → h < halves c → slice_index c.face h ≢ f

-- h isn't reached from half edge 0
pub record IsCutOff (c : Claim) (h : ℕ) : Type 0 where
  pub below : h < halves c
  pub apart : ¬ Reaches (NextOrRev (claimed_map c [])) 0 h

-- vertices with a half edge, and faces with one, are not two more than the edges
pub record IsNoSphere (c : Claim) : Type 0 where
  pub some_edge : 0 < halves c
  pub euler : count (starts_edge (claimed_map c [])) c.vertices + count (has_word (claimed_map c [])) c.faces ≢ halves c / 2 + 2

-- Euler's formula: half of what vertices with a half edge, and faces with one, lack to two more than the edges
abbrev pub genus_of : Claim → ℕ
genus_of c = (halves c / 2 + 2 - (count (starts_edge (claimed_map c [])) c.vertices + count (has_word (claimed_map c [])) c.faces)) / 2

abbrev pub Means : Claim → LinksFault → Type 0
Means c Lengths = ¬ HasLists c
Means c TooMany = ¬ IsFew c
Means c NoFace = c.faces ≡ 0
Means c MoreFaces = ¬ HasFewFaces c
Means c (NextOutOfRange h) = (h < halves c) × (halves c ≤ slice_index c.next h)
Means c (OriginOutOfRange h) = (h < halves c) × (c.vertices ≤ slice_index c.origin h)
Means c (FaceOutOfRange h) = (h < halves c) × (c.faces ≤ slice_index c.face h)
Means c (TwoLeadTo k) = TwoLead c.next k
Means c (OneEnd h) = (h < halves c) × (slice_index c.origin h ≡ slice_index c.origin (rev h))
Means c (Apart h) = (h < halves c) × (slice_index c.origin (slice_index c.next h) ≢ slice_index c.origin (rev h))
Means c (LeavesFace h) = (h < halves c) × (slice_index c.face (slice_index c.next h) ≢ slice_index c.face h)
Means c (FaceInParts f) = InParts (halves c) (λ h. slice_index c.next h) (λ h. slice_index c.face h) f
Means c (VertexInParts v) = InParts (halves c) (turned c.next) (λ h. slice_index c.origin h) v
Means c (UnusedFace f) = IsUnused c f
Means c (NotConnected h) = IsCutOff c h
Means c (NotSphere genus) = IsNoSphere c × (genus ≡ genus_of c)

-- faults of an earlier stage are looked for first
abbrev pub stage : LinksFault → Stage
stage Lengths = stages.Lengths
stage TooMany = stages.Sizes
stage NoFace = stages.OuterFace
stage MoreFaces = stages.FaceCount
stage (NextOutOfRange h) = stages.Ranges
stage (OriginOutOfRange h) = stages.Ranges
stage (FaceOutOfRange h) = stages.Ranges
stage (TwoLeadTo k) = stages.Leading
stage (OneEnd h) = stages.Fitting
stage (Apart h) = stages.Fitting
stage (LeavesFace h) = stages.Fitting
stage (FaceInParts f) = stages.FaceRounds
stage (VertexInParts v) = stages.VertexRounds
stage (UnusedFace f) = stages.UsedFaces
stage (NotConnected h) = stages.Connection
stage (NotSphere genus) = stages.Euler

-- this is wrong, and nothing that is looked for before
pub record IsFirst (c : Claim) (fault : LinksFault) : Type 0 where
  pub means : Means c fault
  pub first : (other : LinksFault) → place (stage other) < place (stage fault) → ¬ Means c other
