use mathlib.Core.Path.{◌≡◌, refl}
use native.Mathlib.Omega.{arith}
use lib.ListN.{length}
use borrow.Author.Rules.{rules}
use Rattle.year_write.proofs.AllLaws.{sofar-none, ended-fits, sum_fits, sofar-turn, sofar-all}
use Rattle.year_write.proofs.all_tally.Goals as goal

pub loop-b-init : goal.loop-b-init
loop-b-init c =
    let e : length c.args.totals.ended ≡ 8 = search rules in
    let s : length c.args.totals.sum ≡ 8 = search rules in
    sofar-none c.args.totals e s

pub joined-all-requires : goal.joined-all-requires
joined-all-requires c =
    let l = c.loop-b in
    let e = ended-fits c.args.totals l.b l.all.ended l.all.sum l.all.greatest l.all.least c.requires l.invariant (omega arith) in
    let s = sum_fits c.args.totals l.b l.all.ended l.all.sum l.all.greatest l.all.least c.requires l.invariant (omega arith) in
    rw c.tally.ensures (omega (arith, e), omega (arith, s))

pub loop-b-preserved : goal.loop-b-preserved
loop-b-preserved c =
    let l = c.loop-b in
    rw (c.joined-all.ensures, c.tally.ensures)
    (sofar-turn c.args.totals l.b l.all.ended l.all.sum l.all.greatest l.all.least c.requires l.invariant (omega arith) refl refl)

pub returns : goal.returns
returns c =
    let l = c.loop-b in
    sofar-all c.args.totals l.b l.all.ended l.all.sum l.all.greatest l.all.least l.invariant (omega arith)
