use native.Mathlib.Omega.{arith}
use Prim.Native.Nat.{min}
use mathlib.Core.Path.{◌≡◌, sym, ◌∙◌}
use lib.ListN.{length}
use Rattle.ask_why.proofs.AskLaws.{lent-refused, started-low, lent_fits, lent-started}
use borrow.Author.Rules.{rules}
use Rattle.ask_why.proofs.chain_by.Goals as goal

pub follow-count-requires : goal.follow-count-requires
follow-count-requires c =
    let size : length c.args.book.now.mark ≡ 64 = search rules in
    let e : c.places-n.result ≡ min c.args.book.now.tasks 64 = rw size at c.places-n.ensures in
    (omega arith, started-low c.args.book.now c.args.waits.now c.args.task e (sym c.in-Ok.is ∙ c.started.ensures), lent_fits c.args.book.now c.args.waits.now c.args.task e (sym c.in-Ok.is ∙ c.started.ensures))

pub overflow_cast-result : goal.overflow_cast-result
overflow_cast-result c =
    let size : length c.args.book.now.mark ≡ 64 = search rules in
    let e : c.places-n.result ≡ min c.args.book.now.tasks 64 = rw size at c.places-n.ensures in
    let l = lent_fits c.args.book.now c.args.waits.now c.args.task e (sym c.in-Ok.is ∙ c.started.ensures) in
    let r = c.follow-count.ensures.0 in
    search rules

pub returns : goal.returns
returns c =
    let size : length c.args.book.now.mark ≡ 64 = search rules in
    let e : c.places-n.result ≡ min c.args.book.now.tasks 64 = rw size at c.places-n.ensures in
    lent-started c.args.book.now c.args.waits.now c.args.task e (sym c.in-Ok.is ∙ c.started.ensures) c.granted.ensures c.follow-count.ensures

pub returns-in-Err : goal.returns-in-Err
returns-in-Err c =
    let size : length c.args.book.now.mark ≡ 64 = search rules in
    let e : c.places-n.result ≡ min c.args.book.now.tasks 64 = rw size at c.places-n.ensures in
    lent-refused c.args.book.now c.args.waits.now c.args.task e (sym c.in-Err.is ∙ c.started.ensures) (rw c.number.ensures at c.no_chain.ensures)
