use native.Mathlib.Omega.{arith}
use Rattle.laws.proofs.Width.{ten-digits}
use borrow.Author.Rules.{rules}
use Rattle.plan_write.proofs.measure.number_len.Goals as goal

pub returns : goal.returns
returns c = record { is = c.width.ensures; small = omega (arith, c.width.ensures, ten-digits c.args.n (search rules)) }
