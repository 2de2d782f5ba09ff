use Rattle.std.proofs.Common.{refl, sym, ◌∙◌, true≢false}
use Rattle.dcel_maps.proofs.Liveness.{closed-half_live}
use Rattle.dcel_refinement.proofs.judging.is_excepted.Goals as goal

pub returns-then-is_wide : goal.returns-then-is_wide
returns-then-is_wide g c =
    let told = rw (c.corners_at-at.ensures.from, c.corners_at-at.ensures.to, c.corners_at-at.ensures.opposite) at c.is_wide.ensures in
    (λ no. absurd (true≢false (sym no)), λ excepted. absurd (excepted.narrow (told.0 c.if-is_wide.true)))

pub returns : goal.returns
returns g c =
    let told = rw (c.corners_at-at.ensures.from, c.corners_at-at.ensures.to, c.corners_at-at.ensures.opposite) at c.is_wide.ensures in (
      λ yes. record {
        live = closed-half_live c.args.mesh.now.shape c.requires.closed c.args.half c.requires.within;
        refined = c.is_refined.ensures.0 c.if-not-is_refined.false;
        given = c.is_given_corner.ensures.0 c.if-not-is_given_corner.false;
        narrow = λ wide. absurd (true≢false (sym (told.1 wide) ∙ c.if-is_wide.false));
      },
      λ excepted. refl,
    )
