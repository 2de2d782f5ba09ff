-- The numbers, the names and the texts of refusals.
use Rattle.std.specs.Prelude.{ℕ, List, ◌++◌, codes}
use Rattle.std.specs.Fmt.{decimal}
use Rattle.dcel_text.specs.Texts.{ended}
use Rattle.dcel_commands.specs.declared.refusal.Refusal.{Refusal}
use Rattle.dcel_commands.specs.declared.refusal.Refusal.TheVariants.{NoSuchVertex, NoSuchEdge, NoSuchFace, RemovalOpen, NoRemoval, GivenUp, SameVertex, VertexInUse, EdgesStand, NotLineEnd, NotBridge, NotOuter, NotTriangle, WouldLoop, BadRing, BadStrip, WrongLists, NotPath, NoRoom, OutOfMemory}

abbrev pub refusal_number : Refusal → ℕ
refusal_number NoSuchVertex = 1
refusal_number NoSuchEdge = 2
refusal_number NoSuchFace = 3
refusal_number RemovalOpen = 4
refusal_number NoRemoval = 5
refusal_number GivenUp = 6
refusal_number SameVertex = 7
refusal_number VertexInUse = 8
refusal_number EdgesStand = 9
refusal_number NotLineEnd = 10
refusal_number NotBridge = 11
refusal_number NotOuter = 12
refusal_number NotTriangle = 13
refusal_number WouldLoop = 14
refusal_number BadRing = 15
refusal_number BadStrip = 16
refusal_number WrongLists = 17
refusal_number NotPath = 18
refusal_number NoRoom = 19
refusal_number OutOfMemory = 20

abbrev pub name_of : Refusal → List ℕ
name_of NoSuchVertex = codes "NoSuchVertex"
name_of NoSuchEdge = codes "NoSuchEdge"
name_of NoSuchFace = codes "NoSuchFace"
name_of RemovalOpen = codes "RemovalOpen"
name_of NoRemoval = codes "NoRemoval"
name_of GivenUp = codes "GivenUp"
name_of SameVertex = codes "SameVertex"
name_of VertexInUse = codes "VertexInUse"
name_of EdgesStand = codes "EdgesStand"
name_of NotLineEnd = codes "NotLineEnd"
name_of NotBridge = codes "NotBridge"
name_of NotOuter = codes "NotOuter"
name_of NotTriangle = codes "NotTriangle"
name_of WouldLoop = codes "WouldLoop"
name_of BadRing = codes "BadRing"
name_of BadStrip = codes "BadStrip"
name_of WrongLists = codes "WrongLists"
name_of NotPath = codes "NotPath"
name_of NoRoom = codes "NoRoom"
name_of OutOfMemory = codes "OutOfMemory"

-- the line `refused N Name`
abbrev pub refusal_text : Refusal → List ℕ
refusal_text why = ended (codes "refused " ++ decimal (refusal_number why) ++ codes " " ++ name_of why)
