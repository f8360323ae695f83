use mathlib.Core.Path.{refl, sym}
use native.Mathlib.Omega.{arith}
use borrow.Author.Tests.{lt-leb}
use Rattle.text.proofs.Store.{put-none, put_whole}
use Rattle.text.proofs.put.put_byte.Goals as goal

-- a text of one byte
pub returns-then-out-at : goal.returns-then-out-at
returns-then-out-at c = put-none _ _ _ (sym (lt-leb _ _ (omega arith)))

pub returns : goal.returns
returns c = put_whole _ _ _ _ _ (omega arith) refl refl
