use mathlib.Core.Path.{◌∙◌}
use Rattle.std.proofs.Common.{rules}
use Rattle.std.proofs.lemmas.Iterator.{YieldsList-from_slice}
use Rattle.std.proofs.lemmas.Iterator.Search.{position_from_yields_List}
use lib.Dec.{eqb}
use Rattle.text_fields.specs.Said.{fault_number}
use Rattle.text_fields.proofs.FaultLaws.{place-is}
use Rattle.text_fields.proofs.faults.place_of.Goals as goal

pub returns : goal.returns
returns g c =
    position_from_yields_List (λ f. eqb (g.C.Coded.code_of f) (fault_number c.args.kind)) _ _ _ c.position.ensures.ran (YieldsList-from_slice c.args.faults.now cc) (λ x b q k. search rules)
    ∙ place-is _ _ _
