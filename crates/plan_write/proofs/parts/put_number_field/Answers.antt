use mathlib.Core.List.{[], ◌∷◌}
use Rattle.laws.specs.Digits.{digits_of}
use Rattle.plan_write.proofs.RunLaws.{two, all_left, put, done}
use Rattle.plan_write.proofs.parts.put_number_field.Goals as goal

pub returns : goal.returns
returns c =
    done
    (put
    (put (all_left (digits_of c.args.n ∷ (c.args.end ∷ []) ∷ []) (two _ _) c.requires) c.put_number-next.ensures)
    c.put_byte.ensures)
