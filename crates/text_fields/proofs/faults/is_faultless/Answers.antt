use Rattle.std.proofs.Common.{rules, ◌∙◌}
use Rattle.std.proofs.lemmas.Iterator.{YieldsList-from_slice}
use Rattle.std.proofs.lemmas.Iterator.Search.{all_from_yields_List}
use lib.Dec.{eqb}
use Rattle.text_fields.proofs.FaultLaws.{all-zero}
use Rattle.text_fields.proofs.faults.is_faultless.Goals as goal

pub returns : goal.returns
returns g c =
    all_from_yields_List (λ f. eqb (g.C.Coded.code_of f) 0) _ _ _ c.all.ensures.ran (YieldsList-from_slice c.args.faults.now cc) (λ x b q k. search rules)
    ∙ all-zero _ _
