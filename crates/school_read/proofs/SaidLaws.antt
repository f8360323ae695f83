-- What is said of a reader's answer tells the whole answer.
use Prim.Native.Nat.{ℕ, zero, suc}
use native.Mathlib.Numerals.{add-one}
use mathlib.Core.Bool.{Bool, true, false}
use mathlib.Core.Path.{◌≡◌, refl, sym, ap, ◌∙◌}
use Rattle.std.specs.Prelude.{Option, None, Some}
use Rattle.school.specs.Said.{LogLine, said}
use Rattle.school.specs.declared.LogLine as line
use Rattle.school.specs.declared.LogLine.TheVariants as read

-- by whether it has its form, and the numbers of start, end, board and tick
abbrev answer_by : Bool → ℕ → ℕ → ℕ → ℕ → Option line.LogLine
answer_by false start end board tick = None
answer_by true (suc i) end board tick = Some (read.Start (record { place = i; board = board; tick = tick }))
answer_by true zero (suc i) board tick = Some (read.End (record { place = i; board = board; tick = tick }))
answer_by true zero zero board tick = Some read.Remark

abbrev answer_of : LogLine → Option line.LogLine
answer_of line = answer_by line.formed line.start line.end line.board line.tick

of-said : (r : Option line.LogLine) → answer_of (said r) ≡ r
of-said None = refl
of-said (Some (read.Start m)) = ap (λ (n : ℕ). answer_by true n 0 m.board m.tick) (add-one m.place)
of-said (Some (read.End m)) = ap (λ (n : ℕ). answer_by true 0 n m.board m.tick) (add-one m.place)
of-said (Some read.Remark) = refl

pub said-whole : (a b : Option line.LogLine) → said a ≡ said b → a ≡ b
said-whole a b e = sym (of-said a) ∙ ap answer_of e ∙ of-said b
