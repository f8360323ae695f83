use native.Mathlib.Omega.{arith}
use mathlib.Core.Path.{sym, ◌∙◌}
use Rattle.ask_why.proofs.FollowLaws.{link-some, cause-low, falls-on, fits_on, followed, stopped}
use Rattle.ask_why.proofs.walk.+follow.Goals as goal

pub bounds-links-count : goal.bounds-links-count
bounds-links-count t c =
    let a = c.args in
    let s = link-some a.book.now a.waits.now a.tasks a.i c.requires.1 in
    omega arith

pub follow-requires : goal.follow-requires
follow-requires t c =
    let a = c.args in
    let low = c.requires.1 in
    let on = sym c.in-Some.is ∙ c.cause_of.ensures in
    let falling = falls-on a.book.now a.waits.now a.tasks a.i low on in
    let fitting = fits_on a.book.now a.waits.now a.tasks a.i low on a.count c.requires.2 in
    (omega arith, (c.requires.0, cause-low a.book.now a.waits.now a.tasks a.i low on, fitting))

pub returns : goal.returns
returns t c =
    let a = c.args in
    followed a.book.now a.waits.now a.tasks a.i c.requires.1 (sym c.in-Some.is ∙ c.cause_of.ensures) a.count a.links.now c.follow.ensures

pub returns-in_default : goal.returns-in_default
returns-in_default t c =
    let a = c.args in
    stopped a.book.now a.waits.now a.tasks a.i c.requires.1 (sym c.in_default.is ∙ c.cause_of.ensures) a.count a.links.now
