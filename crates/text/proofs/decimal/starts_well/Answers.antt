use Rattle.text.proofs.Spell.{starts_none, starts-some}
use Rattle.text.proofs.decimal.starts_well.Goals as goal

-- `text::decimal::starts_well` meets its contract: each return by the tests that led there.
pub returns-then-n-eq0 : goal.returns-then-n-eq0
returns-then-n-eq0 c = starts_none _ c.if-n-eq0.true

pub returns : goal.returns
returns c = starts-some _ c.if-n-eq0.false
