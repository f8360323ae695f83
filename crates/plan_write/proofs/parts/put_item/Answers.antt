use mathlib.Core.List.{[], ◌∷◌}
use Rattle.laws.specs.Digits.{digits_of}
use Rattle.plan_write.proofs.RunLaws.{all_left, put, done}
use Rattle.plan_write.proofs.WriteLaws.{letter-item, plain-item}
use Rattle.plan_write.proofs.parts.put_item.Goals as goal

pub returns-in-Holds : goal.returns-in-Holds
returns-in-Holds c =
    done
    (put
    (put
    (all_left ((c.letter.result ∷ []) ∷ digits_of c.from.result ∷ [])
    (letter-item _ _ c.in-Holds.is c.letter.ensures c.from.ensures) c.requires)
    c.put_byte-next.ensures)
    c.put_number.ensures)

pub returns-in-Tasks : goal.returns-in-Tasks
returns-in-Tasks c =
    done (put (all_left (digits_of c.from-in-Tasks.result ∷ []) (plain-item _ _ c.in-Tasks.is c.from-in-Tasks.ensures) c.requires) c.put_number-in-Tasks.ensures)
