use Rattle.std.proofs.Common.{◌≡◌, ◌^◌, ℤ, Bool, sym, subst, ap, ◌∙◌}
use Rattle.dcel_floats.specs.Binaries.{size_of, value_of}
use Rattle.dcel_floats.specs.Floats.{signed}
use Rattle.dcel_floats.specs.Rounding.{IsNearest}
use Rattle.dcel_floats.proofs.grid.Grid.snap.Goals as goal
use Rattle.dcel_floats.proofs.Fitting.{fits_by, units_by}
use Rattle.dcel_floats.proofs.Roundings.{nearest_signed, negative_held, positive_held}

pub returns-in_default-steps_of-clause-value : goal.returns-in_default-steps_of-clause-value
returns-in_default-steps_of-clause-value c = λ fits. c.in_default-steps_of.ensures.value (fits_by c.args.self.power c.args.x c.in-Some.binary c.in-Some.ensures fits)

pub returns-then-binary-clause-value : goal.returns-then-binary-clause-value
returns-then-binary-clause-value c =
    let b = c.in-Some.binary in
    let steps = c.in-Some-steps_of.size in
    let named : signed b.is_negative steps ≡ _ = ap (λ (s : Bool). signed s steps) c.if-binary.true ∙ sym (negative_held steps c.in-Some-steps_of.ensures.range) in (
      value_of b,
      units_by c.args.x b c.in-Some.ensures,
      subst (λ (n : ℤ). IsNearest (2 ^ c.args.self.power) (value_of b) n) named
          (nearest_signed b.is_negative (2 ^ c.args.self.power) (size_of b) steps c.in-Some-steps_of.ensures.value),
    )

pub returns-else-binary-clause-value : goal.returns-else-binary-clause-value
returns-else-binary-clause-value c =
    let b = c.in-Some.binary in
    let steps = c.in-Some-steps_of.size in
    let named : signed b.is_negative steps ≡ _ = ap (λ (s : Bool). signed s steps) c.if-binary.false ∙ sym (positive_held steps c.in-Some-steps_of.ensures.range) in (
      value_of b,
      units_by c.args.x b c.in-Some.ensures,
      subst (λ (n : ℤ). IsNearest (2 ^ c.args.self.power) (value_of b) n) named
          (nearest_signed b.is_negative (2 ^ c.args.self.power) (size_of b) steps c.in-Some-steps_of.ensures.value),
    )
