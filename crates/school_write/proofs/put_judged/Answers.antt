use mathlib.Core.Path.{◌∙◌}
use native.Mathlib.Omega.{arith}
use Prim.Native.Nat.{min}
use Rattle.school_write.proofs.LineLaws.{said-short, said-no-ticks, said_all}
use Rattle.school_write.proofs.put_judged.Goals as goal

pub returns-then-out-lt-JUDGED_MOST : goal.returns-then-out-lt-JUDGED_MOST
returns-then-out-lt-JUDGED_MOST c = let j = c.args.judged.now in said-short c.args.finish.now j.known j.end j.answer c.args.out.now (min c.args.tasks 64) c.if-out-lt-JUDGED_MOST.true

pub returns-then-not-are_ticks : goal.returns-then-not-are_ticks
returns-then-not-are_ticks c = let j = c.args.judged.now in said-no-ticks c.args.finish.now j.known j.end j.answer c.args.out.now (min c.args.tasks 64) c.if-out-lt-JUDGED_MOST.false (c.from-n.ensures ∙ c.few.ensures) c.are_ticks.ensures c.if-not-are_ticks.true

pub put_figures-past-requires : goal.put_figures-past-requires
put_figures-past-requires c = (omega (arith, c.from-n.ensures, c.few.ensures), c.if-out-lt-JUDGED_MOST.false)

pub returns : goal.returns
returns c = let j = c.args.judged.now in said_all c.args.finish.now j.known j.end j.answer c.args.out.now (min c.args.tasks 64) c.if-out-lt-JUDGED_MOST.false (c.from-n.ensures ∙ c.few.ensures) c.are_ticks.ensures c.if-not-are_ticks.false c.put_figures-past.ensures c.put_verdict.ensures
