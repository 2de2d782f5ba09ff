use Rattle.std.proofs.Common.{ℕ, ◌*◌, ◌^◌, ◌<◌, subst, arith}
use Rattle.dcel_decimals.proofs.digits.Digits.with_places.Goals as goal
use Rattle.dcel_decimals.proofs.Moved.{range_kept}

pub invariant_of-result : goal.invariant_of-result
invariant_of-result c =
    let s = c.args.self.significant in record {
      few_digits = c.args.self.in_range;
      few_places = c.requires.places;
      in_range = range_kept s c.args.places c.min.result c.min.ensures (subst (λ (n : ℕ). s < 2 ^ 63 * n) c.pow-limit.ensures c.if-self-limit.false);
      shortest = λ z. absurd (omega (arith, c.args.self.last z, c.requires.some));
    }
