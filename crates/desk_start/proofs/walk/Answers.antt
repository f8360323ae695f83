use mathlib.Core.Path.{◌≡◌, refl, ap, ◌∙◌}
use Rattle.std.proofs.Common.{rules, tests}
use Rattle.std.specs.Prelude.{Ok, Err, eqb}
use Rattle.std.proofs.lemmas.Fn.{always_returns_same}
use native.Mathlib.Omega.{arith}
use Rattle.log_read.specs.Entries.{next_entry}
use Rattle.log_read.specs.Said.{said}
use Rattle.desk_start.specs.Start.{walk_in}
use Rattle.log_read.proofs.TextLaws.{stops-code, goes-code}
use Rattle.desk_start.proofs.StartLaws.{walked_end, walked-stops, walked-goes}
use Rattle.desk_start.proofs.Lines.{next-same, line-after}
use Rattle.desk_start.proofs.walk.Goals as goal

pub loop-line-init : goal.loop-line-init
loop-line-init c = ap (λ i. walk_in c.args.book i.rest.now) c.into_iter-line-iterator.ensures.into_iter_gives ∙ ap (walk_in c.args.book) c.split_inclusive-line-items.ensures.rest

pub returns-in_default : goal.returns-in_default
returns-in_default c =
    let x = c.in-Some.ensures.steps in
    let s = c.loop-line.line-iterator.rest.now in
    let f = x.1.2 (λ b. eqb b 10) (always_returns_same _ _ _ (λ a r f k. search (rules, tests))) in
    let n : next_entry c.in-Some.line.now ≡ next_entry s = next-same s c.in-Some.line.now c.next.new.self.rest.now x.1.0 x.0 x.1.1 f.1 in
    walked-stops c.loop-line.book s c.loop-line.invariant x.2 (stops-code s (Err c.in_default.field-0) (c.in_default.ensures ∙ n) refl)

pub loop-line-preserved : goal.loop-line-preserved
loop-line-preserved c =
    let x = c.in-Some.ensures.steps in
    let s = c.loop-line.line-iterator.rest.now in
    let f = x.1.2 (λ b. eqb b 10) (always_returns_same _ _ _ (λ a r f k. search (rules, tests))) in
    let n : next_entry c.in-Some.line.now ≡ next_entry s = next-same s c.in-Some.line.now c.next.new.self.rest.now x.1.0 x.0 x.1.1 f.1 in
    let e : said (Ok c.in-Ok.entry) ≡ next_entry s = c.in-Ok.ensures ∙ n in
    walked-goes c.loop-line.book s c.loop-line.invariant e x.2 (goes-code s (Ok c.in-Ok.entry) e refl) c.take.ensures
    (line-after 10 s c.in-Some.line.now c.next.new.self.rest.now x.1.0 x.0 x.1.1 f.1)

pub returns : goal.returns
returns c = walked_end c.loop-line.book c.loop-line.line-iterator.rest.now c.loop-line.invariant (omega (arith, c.in-None.ensures.steps.0))
