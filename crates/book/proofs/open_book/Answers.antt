use Prim.Native.Nat.{ℕ}
use mathlib.Core.Bool.{◌&&◌}
use mathlib.Core.Path.{◌≡◌, sym, ap, ◌∙◌}
use Rattle.laws.proofs.Cases.{and_l}
use Rattle.plan.specs.Value.{is_accepted}
use Rattle.plan.specs.declared.Plan.{Plan}
use Rattle.book_view.specs.View.{is_rule}
use Rattle.book_waits.specs.Waits.{waits_of}
use Rattle.book_sound.proofs.WaitLaws.{none-known, some-known}
use Rattle.book.specs.Open.{rule_number, blank_book}
use Rattle.book.specs.View.{plan_in}
use Rattle.book.proofs.ReportLaws.{opening-refused, opening-granted}
use Rattle.book.proofs.Fits.{fit-blank}
use Rattle.book.proofs.LaidOut.{blank-plan, blank-rule, none_dropped, opened-laid}
use Rattle.book.proofs.WaitLaws.{fit-seen, settled-seen}
use Rattle.book.proofs.open_book.Goals as goal

pub settle-moved-requires : goal.settle-moved-requires
settle-moved-requires c =
    let a = c.args in
    let book = c.blank_book-book.result in
    let blank = c.blank_book-book.ensures ∙ ap (λ (n : ℕ). blank_book n a.plan) c.number_of.ensures in
    let waits = sym (c.wait_sets.ensures ∙ ap (λ (b : Plan). waits_of book.rule b) (ap plan_in c.view.ensures)) in
    let known = some-known book.rule (plan_in book) (waits ∙ c.in-Some.is) in
    fit-seen book known.0 (sym known.1) _
    (fit-blank book.rule (plan_in book) (and_l _ _ known.0) book.dropped c.unmoved.ensures (none_dropped a.plan a.rule blank))

pub returns-in-Some : goal.returns-in-Some
returns-in-Some c =
    let a = c.args in
    let book = c.blank_book-book.result in
    let b = c.blank_book-book.ensures ∙ ap (λ (n : ℕ). blank_book n a.plan) c.number_of.ensures in
    let waits = sym (c.wait_sets.ensures ∙ ap (λ (p : Plan). waits_of book.rule p) (ap plan_in c.view.ensures)) in
    let ok : (is_accepted (plan_in book) && is_rule book.rule) ≡ (is_accepted a.plan && is_rule (rule_number a.rule)) = λ i. is_accepted (blank-plan a.plan a.rule b i) && is_rule (blank-rule a.plan a.rule b i) in
    let known = some-known book.rule (plan_in book) (waits ∙ c.in-Some.is) in
    opening-granted a.plan a.rule ok known.0 c.granted-answer.ensures
    (opened-laid a.plan a.rule b c.unmoved.ensures (settled-seen book known.0 (sym known.1) _ c.settle-moved.ensures))

pub returns-in-None : goal.returns-in-None
returns-in-None c =
    let a = c.args in
    let book = c.blank_book-book.result in
    let b = c.blank_book-book.ensures ∙ ap (λ (n : ℕ). blank_book n a.plan) c.number_of.ensures in
    let waits = sym (c.wait_sets.ensures ∙ ap (λ (p : Plan). waits_of book.rule p) (ap plan_in c.view.ensures)) in
    let ok : (is_accepted (plan_in book) && is_rule book.rule) ≡ (is_accepted a.plan && is_rule (rule_number a.rule)) = λ i. is_accepted (blank-plan a.plan a.rule b i) && is_rule (blank-rule a.plan a.rule b i) in
    opening-refused a.plan a.rule ok (none-known book.rule (plan_in book) (waits ∙ c.in-None.is)) c.answer-answer.ensures c.zero_book-book.ensures
