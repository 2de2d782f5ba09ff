use Rattle.std.proofs.Common.{◌∙◌, length, refl, sym, rules}
use Rattle.std.proofs.lemmas.Bool.{false≢true}
use Rattle.dcel_links.specs.Claims.{Claim, claim_of}
use Rattle.dcel_links.specs.Stages.{Connection, Euler, UsedFaces}
use Rattle.dcel_links.proofs.Stages.{comes_on}
use Rattle.dcel_links.proofs.Surfaces.{all_used, euler_counted, genus_counted, no_sphere_counted}
use Rattle.dcel_links.proofs.whole.check_surface.Goals as goal

pub returns-then-not-is_sphere-clause-fault : goal.returns-then-not-is_sphere-clause-fault
returns-then-not-is_sphere-clause-fault c =
    let claimed : Claim = claim_of c.args.links (length c.args.used_vertices.now) (length c.args.used_faces.now) in (
      no_sphere_counted claimed c.requires.rounds c.args.used_vertices.now c.args.used_faces.now c.requires.vertices c.requires.faces
          (search rules)
          (λ e. false≢true (sym c.if-not-is_sphere.true ∙ c.is_sphere.ensures.1 (rw (c.count_marks-vertices.ensures.number, c.count_marks-faces.ensures.number) e))),
      c.genus.ensures ∙ rw (c.count_marks-vertices.ensures.number, c.count_marks-faces.ensures.number)
          (genus_counted claimed c.requires.rounds c.args.used_vertices.now c.args.used_faces.now c.requires.vertices c.requires.faces),
    )

pub returns-clause-uses : goal.returns-clause-uses
returns-clause-uses c =
    let claimed : Claim = claim_of c.args.links (length c.args.used_vertices.now) (length c.args.used_faces.now) in
    all_used claimed c.requires.rounds c.args.used_faces.now c.requires.faces refl c.in_default-find_unmarked.ensures.all

pub returns-clause-euler : goal.returns-clause-euler
returns-clause-euler c =
    let claimed : Claim = claim_of c.args.links (length c.args.used_vertices.now) (length c.args.used_faces.now) in
    euler_counted claimed c.requires.rounds c.args.used_vertices.now c.args.used_faces.now c.requires.vertices c.requires.faces
    (rw (← c.count_marks-vertices.ensures.number, ← c.count_marks-faces.ensures.number) (c.is_sphere.ensures.0 c.if-not-is_sphere.false))

pub returns-in-Some-find_cut_off-clause-before : goal.returns-in-Some-find_cut_off-clause-before
returns-in-Some-find_cut_off-clause-before c =
    let claimed : Claim = claim_of c.args.links (length c.args.used_vertices.now) (length c.args.used_faces.now) in
    comes_on claimed UsedFaces Connection refl c.requires.passed
    (all_used claimed c.requires.rounds c.args.used_faces.now c.requires.faces refl c.in_default-find_unmarked.ensures.all)

pub returns-then-not-is_sphere-clause-before : goal.returns-then-not-is_sphere-clause-before
returns-then-not-is_sphere-clause-before c =
    let claimed : Claim = claim_of c.args.links (length c.args.used_vertices.now) (length c.args.used_faces.now) in
    let uses = all_used claimed c.requires.rounds c.args.used_faces.now c.requires.faces refl c.in_default-find_unmarked.ensures.all in
    comes_on claimed Connection Euler refl (comes_on claimed UsedFaces Connection refl c.requires.passed uses) c.in_default-find_cut_off.ensures.one
