-- What each reason says of faces leaves no simple mesh with their corners, or one whose outer face passes a vertex twice.
use Rattle.std.proofs.Common.{◌∙◌, ℕ, List, sym, arith}
use Rattle.dcel_exchange.specs.Reasons.{HasFault, Leaves, Means}
use Rattle.dcel_exchange.specs.Simple.{NoSimpleMesh}
use Rattle.dcel_exchange.specs.declared.refusal.FacesError.{FacesError}
use Rattle.dcel_exchange.specs.declared.refusal.FacesError.TheVariants.{BorderTwice, Borders, Closed, FewCorners, Links, NotConnected, NoVertex, OneEnd, OutOfMemory, SideTwice, TooManyCorners}
use Rattle.dcel_links.specs.declared.fault.LinksFault.{LinksFault}
use Rattle.dcel_links.specs.declared.fault.LinksFault.TheVariants.{FaceInParts, UnusedFace}
use Rattle.dcel_links.specs.declared.fault.LinksFault.TheVariants as links
use Rattle.dcel_exchange.proofs.Refusals.{long_faces, no_fault, passes_twice, same_side, start_below, two_ends}

-- where the links have a fault, none has
faulty : (V DE UE F : Type 0) (vertices : ℕ) (faces : List (List ℕ)) (fault : LinksFault) → HasFault vertices faces fault
    → NoSimpleMesh V DE UE F vertices faces
faulty V DE UE F vertices faces fault f = λ m mesh simple has. no_fault m mesh simple vertices faces has f.claim f.linked fault f.first.means

pub leaves : (V DE UE F : Type 0) (vertices : ℕ) (faces : List (List ℕ)) (reason : FacesError) → Means vertices faces reason
    → Leaves V DE UE F vertices faces reason
leaves V DE UE F vertices faces (FewCorners f) means = λ m mesh simple has. omega (arith, means.1, long_faces m mesh simple vertices faces has f means.0)
leaves V DE UE F vertices faces TooManyCorners means = tt
leaves V DE UE F vertices faces (NoVertex f a) means = λ m mesh simple has.
    let past = means.past in
    let start = means.is.start in
    omega (arith, past, start, start_below m mesh simple vertices faces has means.side means.is.below)
leaves V DE UE F vertices faces (OneEnd f a) means = λ m mesh simple has.
    two_ends m mesh simple vertices faces has means.side means.is.below (means.is.start ∙ sym means.is.end)
leaves V DE UE F vertices faces (SideTwice f g a b) means = λ m mesh simple has.
    let later = means.later in
    omega (
      arith,
      later,
      same_side m mesh simple vertices faces has means.one means.other means.one_is.below means.other_is.below
          (means.one_is.start ∙ sym means.other_is.start) (means.one_is.end ∙ sym means.other_is.end),
    )
leaves V DE UE F vertices faces (BorderTwice a) means = λ m mesh simple has. passes_twice m mesh simple vertices faces has a means
leaves V DE UE F vertices faces Closed means = faulty V DE UE F vertices faces (UnusedFace 0) means.1
leaves V DE UE F vertices faces Borders means = faulty V DE UE F vertices faces (FaceInParts 0) means.1
leaves V DE UE F vertices faces (NotConnected h) means = faulty V DE UE F vertices faces (links.NotConnected h) means.1
leaves V DE UE F vertices faces (Links fault) means = faulty V DE UE F vertices faces fault means.1
leaves V DE UE F vertices faces OutOfMemory means = tt
