use Rattle.std.proofs.Common.{rules}
use Rattle.std.proofs.lemmas.Iterator.{YieldsList-from_slice}
use Rattle.std.proofs.lemmas.Iterator.Search.{position_from_yields_List}
use borrow.Author.Tests.{tests}
use lib.Dec.{eqb}
use Rattle.text.proofs.Library.{found-is}
use Rattle.text.proofs.part.find.Goals as goal

pub returns : goal.returns
returns c =
    found-is _ _ _
    (position_from_yields_List (λ b. eqb b c.args.c) _ _ _ c.position.ensures.ran (YieldsList-from_slice c.args.s.now cc) (λ x b q k. search (rules, tests)))
    c.unwrap_or.ensures
