use Rattle.plan_read.proofs.TaskLaws.{list_put}
use lib.ListN.{length}
use mathlib.Core.Path.{◌≡◌}
use borrow.Author.Rules.{rules}
use Rattle.plan_read.proofs.lines.put_items.Goals as goal

pub returns : goal.returns
returns c =
    let l : length c.args.list.items ≡ 64 = search rules in
    list_put _ _ _ _ c.requires l c.put_text.ensures.bytes
