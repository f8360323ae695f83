use mathlib.Core.Path.{ap, ◌∙◌}
use Rattle.book.specs.Open.{opening_of}
use Rattle.book.specs.declared.Rule.{Rule}
use Rattle.cloverdusk.proofs.clover_open_book.Goals as goal

pub returns : goal.returns
returns c = c.open_book.ensures ∙ ap (λ (rule : Rule). opening_of c.args.plan rule) c.rule_for.ensures
