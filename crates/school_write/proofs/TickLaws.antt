-- No end that is found is past 1,000,000.
use Prim.Native.Nat.{ℕ, ◌≤◌}
use native.Mathlib.Omega.{arith}
use mathlib.Core.Bool.{Bool, true, false, not, cond, ◌||◌}
use mathlib.Core.List.{List, [], ◌∷◌}
use mathlib.Core.Path.{◌≡◌}
use lib.Dec.{leb, ltb}
use lib.ListN.{length}
use borrow.Author.Tests.{leb-true}
use Rattle.laws.proofs.Cases.{by_bool, by_le, and_l, and_r}
use Rattle.laws.specs.Lists.{all_of, same}
use Rattle.laws.specs.Split.{split_on}
use Rattle.text.specs.Bytes.{bytes}
use Rattle.text.specs.Line.{LF, field}
use Rattle.text.specs.Number.{is_number, value_of}
use Rattle.plan.specs.Read.{ranged}
use Rattle.plan.specs.Value.{at, is_accepted}
use Rattle.plan.specs.declared.Plan.{Plan}
use Rattle.book_view.specs.View.{laid}
use Rattle.book_view.proofs.Laid.{laid-at, laid-past}
use Rattle.school.specs.Lines.{is_tick, is_record, is_moment, says_none, later_said, line_said, said_from, said_in}
use Rattle.school.specs.Tasks.{is_end, first_of, is_known, end_in}
use Rattle.school.specs.Tests.{lines_judged, judged_of}
use Rattle.school.specs.Said.{LogLine}

-- the tick of a start or an end
moment-small : (word : List ℕ) (boards tasks : ℕ) (line : List ℕ) → is_moment word boards tasks line ≡ true → value_of (field line 3) ≤ 1000000
unfolding is_moment
moment-small word boards tasks line h =
    let rest = and_r (ranged 1 boards (field line 2)) _ (and_r (ranged 1 tasks (field line 1)) _ (and_r (is_record word 5 line) _ h)) in
    let tick = and_l (is_tick (field line 3)) _ rest in
    let most = and_r (is_number (field line 3)) _ tick in
    leb-true (value_of (field line 3)) 1000000 (and_r (leb 0 (value_of (field line 3))) _ most)

later-small : (boards tasks : ℕ) (line : List ℕ) → (later_said boards tasks line).tick ≤ 1000000
unfolding later_said
later-small boards tasks line =
    by_bool (is_moment (bytes "start") boards tasks line)
    (λ t. rw t (moment-small (bytes "start") boards tasks line t))
    (λ f.
    by_bool (is_moment (bytes "end") boards tasks line)
    (λ t. rw (f, t) (moment-small (bytes "end") boards tasks line t))
    (λ g. rw (f, g) (omega arith)))

line_small : (boards tasks : ℕ) (is_first : Bool) (line : List ℕ) → (line_said boards tasks is_first line).tick ≤ 1000000
unfolding line_said
line_small boards tasks true line = omega arith
line_small boards tasks false line = later-small boards tasks line

-- of the lines too, the first that is picked
picked-small : (p : LogLine → Bool) (said : LogLine) (lines : List LogLine) → said.tick ≤ 1000000 → (first_of p lines).tick ≤ 1000000 → (first_of p (said ∷ lines)).tick ≤ 1000000
unfolding first_of
picked-small p said lines h g = by_bool (p said) (λ t. rw t h) (λ f. rw f g)

none-small : (p : LogLine → Bool) → (first_of p []).tick ≤ 1000000
unfolding first_of
none-small p = omega arith

first_small : (boards tasks : ℕ) (is_first : Bool) (p : LogLine → Bool) (parts : List (List ℕ)) → (first_of p (said_from boards tasks is_first parts)).tick ≤ 1000000
unfolding said_from
first_small boards tasks is_first p [] = none-small p
first_small boards tasks is_first p (last ∷ []) =
    by_bool (is_first || not (same last []))
    (λ t. rw t (picked-small p (says_none false) [] (omega arith) (none-small p)))
    (λ f. rw f (none-small p))
first_small boards tasks is_first p (line ∷ next ∷ lines) =
    picked-small p _ _ (line_small boards tasks is_first line) (first_small boards tasks false p (next ∷ lines))

module _ (plan : Plan) (log : List ℕ) (few : plan.tasks ≤ 64) where
  abbrev lines : List LogLine
  lines = said_in plan.boards plan.tasks log

  laid-small : (i : ℕ) → at (laid plan.tasks (λ j. cond (is_known lines j) (end_in lines j) 0)) i ≤ 1000000
  laid-small i =
      by_le plan.tasks i
      (λ l. rw (laid-past plan.tasks (λ j. cond (is_known lines j) (end_in lines j) 0) i l) (omega arith))
      (λ l.
      rw (laid-at plan.tasks (λ j. cond (is_known lines j) (end_in lines j) 0) few i l)
      (by_bool (is_known lines i)
      (λ t. rw t (first_small plan.boards plan.tasks true (is_end i) (split_on LF log)))
      (λ f. rw f (omega arith))))

  blank : (i : ℕ) → at (laid 0 (λ j. 0)) i ≤ 1000000
  blank i = rw (laid-past 0 (λ j. 0) i (omega arith)) (omega arith)

  pub end-small : (i : ℕ) → at (judged_of plan log).end i ≤ 1000000
  unfolding judged_of lines_judged
  end-small i =
      by_bool (is_accepted plan)
      (λ t.
      by_bool (ltb 32768 (length log))
      (λ l. rw (t, l) (blank i))
      (λ l.
      by_bool (all_of (λ (said : LogLine). said.formed) lines)
      (λ f. rw (t, l, f) (laid-small i))
      (λ f. rw (t, l, f) (blank i))))
      (λ f. rw f (blank i))
