use mathlib.Core.Path.{sym, ap}
use lib.ListN.{take}
use lib.Seq.{length-take-le}
use Rattle.text.proofs.Parts.{found-le}
use Rattle.text.proofs.part.part_before.Goals as goal

pub slice_bounds-result-end : goal.slice_bounds-result-end
slice_bounds-result-end c = sym (length-take-le _ _ (found-le _ _ c.find-k.ensures))

pub returns : goal.returns
returns c = ap (λ n. take n c.before.args.s.now) c.find-k.ensures
