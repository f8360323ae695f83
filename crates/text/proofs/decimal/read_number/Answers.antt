use mathlib.Core.Path.{◌≡◌, sym, ◌∙◌}
use lib.ListN.{length}
use native.Mathlib.Omega.{arith}
use Rattle.laws.proofs.Lists.{first-stop, first_next, first-end}
use Rattle.text.specs.Number.{is_digit}
use Rattle.text.proofs.Spell.{all-stop, all-next, all_done, number-no, number-rest, stop-zero, stop-well, digit-range, held-turn, held-end, read-misspelt, read-value, read-over}
use Rattle.text.proofs.decimal.read_number.Goals as goal

pub returns-then-not-starts_well : goal.returns-then-not-starts_well
returns-then-not-starts_well c =
    let w = sym c.if-not-starts_well.ensures in
    read-misspelt _ (c.min.ensures ∙ stop-zero _ w) (number-no _ w)

pub returns-then-not-is_digit : goal.returns-then-not-is_digit
returns-then-not-is_digit c =
    let w = sym c.if-not-starts_well.ensures in
    let d = sym c.if-not-is_digit.ensures in
    let i = c.loop-i.invariant in
    read-misspelt _ (first-stop is_digit _ _ 0 c.loop-i-test.true d i.stop ∙ stop-well _ w) (all-stop is_digit _ _ 0 _ c.loop-i-test.true d i.digits ∙ number-rest _ w)

pub grown-v-requires : goal.grown-v-requires
grown-v-requires c = let d = digit-range _ (sym c.if-not-is_digit.ensures) in (c.loop-i.invariant.small, d.0, d.1)

pub loop-i-preserved : goal.loop-i-preserved
loop-i-preserved c =
    let d = sym c.if-not-is_digit.ensures in
    let i = c.loop-i.invariant in
    record {
      small = omega arith;
      digits = all-next is_digit _ _ 0 _ c.loop-i-test.true d i.digits;
      value = held-turn _ _ _ _ _ c.loop-i-test.true c.grown-v.ensures i.value;
      stop = first_next is_digit _ _ 0 c.loop-i-test.true d i.stop;
    }

pub returns-then-v-le-NUMBER_MOST : goal.returns-then-v-le-NUMBER_MOST
returns-then-v-le-NUMBER_MOST c =
    let w = sym c.if-not-starts_well.ensures in
    let i = c.loop-i.invariant in
    let end = c.loop-i-test.false in
    let whole : length c.args.field.now ≡ c.loop-i.i = omega arith in
    read-value _ (whole ∙ first-end is_digit _ _ end i.stop ∙ stop-well _ w) _ (all_done is_digit _ _ _ end i.digits ∙ number-rest _ w)
    (held-end _ _ _ _ end i.small i.value) c.if-v-le-NUMBER_MOST.true

pub returns-else-v-le-NUMBER_MOST : goal.returns-else-v-le-NUMBER_MOST
returns-else-v-le-NUMBER_MOST c =
    let w = sym c.if-not-starts_well.ensures in
    let i = c.loop-i.invariant in
    let end = c.loop-i-test.false in
    let whole : length c.args.field.now ≡ c.loop-i.i = omega arith in
    read-over _ (whole ∙ first-end is_digit _ _ end i.stop ∙ stop-well _ w) _ (all_done is_digit _ _ _ end i.digits ∙ number-rest _ w)
    (held-end _ _ _ _ end i.small i.value) c.if-v-le-NUMBER_MOST.false
