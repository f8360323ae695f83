use native.Mathlib.Omega.{arith}
use Rattle.log_write.proofs.WriteLaws.{wrote-length}
use Rattle.school_write.proofs.LineLaws.{known-none, known-line, figures-none, figures-turn, figures-room, figures-end}
use Rattle.school_write.proofs.figures.put_figures.Goals as goal
use Rattle.school_write.proofs.figures.put_figures.Goals.{then-judged-i-eq1, else-judged-i-eq1}

pub loop-i-init : goal.loop-i-init
loop-i-init c = figures-none c.args.finish.now c.args.judged.now.known c.args.judged.now.end c.args.out.now

pub put_figure-place-requires : goal.put_figure-place-requires
put_figure-place-requires c = figures-room c.args.finish.now c.args.judged.now.known c.args.judged.now.end c.requires.0 (omega arith) c.requires.1 c.loop-i.invariant

pub loop-i-preserved : goal.loop-i-preserved
loop-i-preserved c =
    elim c.if-judged-i-eq1.branch [
      | then-judged-i-eq1 w ↦ rw (w.out-is, w.place-is) (figures-turn c.args.finish.now c.args.judged.now.known c.args.judged.now.end c.loop-i.i c.loop-i.invariant (known-line w.if-judged-i-eq1.true w.put_figure-place.ensures))
      | else-judged-i-eq1 w ↦ rw (w.out-is, w.place-is) (figures-turn c.args.finish.now c.args.judged.now.known c.args.judged.now.end c.loop-i.i c.loop-i.invariant (known-none _ _ _ w.if-judged-i-eq1.false))
    ]

pub returns : goal.returns
returns c = figures-end c.args.finish.now c.args.judged.now.known c.args.judged.now.end c.requires.0 (omega arith) (omega arith) c.loop-i.invariant

pub shape_of-out : goal.shape_of-out
shape_of-out c = wrote-length (returns c)
