use Rattle.std.proofs.Common.{◌≡◌, ℕ, ◌+◌, ◌-◌, ◌*◌, ◌/◌, ◌%◌, ◌<◌, Bool, true, false, IsTrue, sym, ◌∙◌, arith}
use Rattle.dcel_decimals.specs.Floors.{GoesUp}
use Rattle.dcel_decimals.proofs.floor.Floor.rounded.Goals as goal
use Rattle.dcel_decimals.proofs.Floors.{rounded_down, rounded_up, shifted_exactly, shifted_loosely, shifted_up}

split : (n : ℕ) → n ≡ n / 1024 * 1024 + n % 1024
split n = omega arith

few : (n : ℕ) → n % 1024 < 1024
few n = omega arith

missing : (n : ℕ) → 1024 - n % 1024 + n % 1024 ≡ 1024
missing n = omega arith

pub returns-then-goes_up-clause-value : goal.returns-then-goes_up-clause-value
returns-then-goes_up-clause-value c = λ n d floor.
    let count = c.args.self.count in
    rounded_up n d count (count / 1024) (count % 1024) c.args.self.is_exact (split count) (few count) floor (1024 - count % 1024) (missing count) (c.goes_up.ensures.0 c.if-goes_up.true)

pub returns-then-goes_up-clause-shift : goal.returns-then-goes_up-clause-shift
returns-then-goes_up-clause-shift c = λ n d floor.
    let count = c.args.self.count in
    shifted_up n d count (count / 1024) (count % 1024) c.args.self.is_exact (split count) (few count) floor (1024 - count % 1024) (missing count) (c.goes_up.ensures.0 c.if-goes_up.true)

-- what isn't rounded up
down : (b : Bool) (P : Type 0) → b ≡ false → (P → IsTrue b) → P → ⊥
down b P untold tells p = let e : true ≡ false = sym (tells p) ∙ untold in cc

pub returns-then-self-clause-value : goal.returns-then-self-clause-value
returns-then-self-clause-value c = λ n d floor.
    let count = c.args.self.count in
    let up = GoesUp (count / 1024) (count % 1024) c.args.self.is_exact in
    rounded_down n d count (count / 1024) (count % 1024) c.args.self.is_exact (split count) (few count) floor (down c.goes_up.result up c.if-goes_up.false c.goes_up.ensures.1)

pub returns-then-self-clause-shift : goal.returns-then-self-clause-shift
returns-then-self-clause-shift c = λ n d floor.
    let count = c.args.self.count in
    let up = GoesUp (count / 1024) (count % 1024) c.args.self.is_exact in
    shifted_exactly n d count (count / 1024) (count % 1024) c.args.self.is_exact (split count) (few count) floor (down c.goes_up.result up c.if-goes_up.false c.goes_up.ensures.1) c.if-self.true

pub returns-clause-value : goal.returns-clause-value
returns-clause-value c = λ n d floor.
    let count = c.args.self.count in
    let up = GoesUp (count / 1024) (count % 1024) c.args.self.is_exact in
    rounded_down n d count (count / 1024) (count % 1024) c.args.self.is_exact (split count) (few count) floor (down c.goes_up.result up c.if-goes_up.false c.goes_up.ensures.1)

pub returns-clause-shift : goal.returns-clause-shift
returns-clause-shift c = λ n d floor.
    let count = c.args.self.count in
    let up = GoesUp (count / 1024) (count % 1024) c.args.self.is_exact in
    shifted_loosely n d count (count / 1024) (count % 1024) c.args.self.is_exact (split count) (few count) floor (down c.goes_up.result up c.if-goes_up.false c.goes_up.ensures.1) c.if-self.false
