use Prim.Native.Nat.{◌+◌}
use mathlib.Core.Bool.{Bool, true, false, ◌&&◌}
use mathlib.Core.Path.{◌≡◌, refl, sym, ap, ◌∙◌}
use lib.ListN.{drop}
use Rattle.laws.specs.Lists.{all_of}
use Rattle.laws.proofs.Lists.{all-turn, all_end}
use Rattle.plan_ranges.proofs.is_blank.Goals as goal

pub loop-i-preserved : goal.loop-i-preserved
loop-i-preserved g c =
    let p = g.T.PartialEq.eq c.args.nothing in
    let rest = all_of p (drop (c.loop-i.i + 1) c.args.list.now) in
    ap (λ (b : Bool). (b && c.loop-i.all) && rest) c.eq-all.ensures
    ∙ gather c.loop-i.all (p c.index-list-i.result) rest
    ∙ ap (λ (b : Bool). c.loop-i.all && b)
    (sym (all-turn p c.args.list.now c.loop-i.i c.index-list-i.result c.loop-i-test.true ∙ ap (λ x. p x && rest) (sym c.index-list-i.is)))
    ∙ c.loop-i.invariant
  where
    gather : (all x rest : Bool) → ((x && all) && rest) ≡ (all && (x && rest))
    gather true true rest = refl
    gather true false rest = refl
    gather false true rest = refl
    gather false false rest = refl

pub returns : goal.returns
returns g c = go c.loop-i.all ∙ rw (all_end (g.T.PartialEq.eq c.args.nothing) c.args.list.now c.loop-i.i c.loop-i-test.false) at c.loop-i.invariant
  where
    go : (a : Bool) → a ≡ (a && true)
    go true = refl
    go false = refl
