use Rattle.std.proofs.Common.{[], ◌∷◌, refl, arith}
use Rattle.dcel_edits.proofs.Public.{mesh-is-mesh}
use Rattle.dcel_edits.proofs.stored.Holding.{holds}
use Rattle.dcel_edits.proofs.stored.Strips.{strip_can, strip_holds}
use Rattle.dcel_maps.proofs.words.Counts.{count-append, count-same}
use Rattle.spade_dcel.proofs.StripItems.{listed_live, record_is}
use Rattle.spade_dcel.proofs.operations.strip.cut.Goals as goal

pub prev_edge-requires : goal.prev_edge-requires
prev_edge-requires g c =
    let items = c.args.items.now in
    let last = c.args.last in
    listed_live c.args.dcel.now items last _ c.every_mesh.ensures c.requires.closed refl c.requires.strip last
    (omega (arith, count-same last [], count-append last items (last ∷ [])))

pub put_strip_cut-requires : goal.put_strip_cut-requires
put_strip_cut-requires g c = strip_can (holds c.dcel.invariant c.dcel.view_is) c.requires.closed c.args.items.now c.args.last c.requires.strip

pub invariant_of-dcel-2 : goal.invariant_of-dcel-2
invariant_of-dcel-2 g c =
    let record_made = record_is c.args.dcel.now.shape c.args.items.now c.args.last _ _ _ _ c.requires.edges c.requires.faces c.prev_edge.ensures.value c.origin-vertex.ensures.value in
    rw (c.put_strip_cut.ensures, c.in_ok-open.ensures.opened, record_made)
    (strip_holds (holds c.dcel.invariant c.dcel.view_is) c.requires.closed c.args.items.now c.args.last c.requires.strip).stored

pub returns-clause-edit : goal.returns-clause-edit
returns-clause-edit g c =
    let record_made = record_is c.args.dcel.now.shape c.args.items.now c.args.last _ _ _ _ c.requires.edges c.requires.faces c.prev_edge.ensures.value c.origin-vertex.ensures.value in
    rw (c.put_strip_cut.ensures, c.in_ok-open.ensures.opened, record_made)
    (strip_holds (holds c.dcel.invariant c.dcel.view_is) c.requires.closed c.args.items.now c.args.last c.requires.strip).is

pub returns-clause-mesh : goal.returns-clause-mesh
returns-clause-mesh g c = mesh-is-mesh _ _ (invariant_of-dcel-2 g c)
