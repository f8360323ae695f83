-- Places that have nothing or one of the 32 drives.
use Prim.Native.Nat.{ℕ, ◌+◌, ◌*◌, ◌≤◌, ◌<◌}
use mathlib.Core.Path.{◌≡◌, refl, sym, ◌∙◌}
use mathlib.Core.Bool.{Bool, true, false, ◌&&◌}
use mathlib.Core.List.{List, [], ◌∷◌}
use lib.Dec.{eqb}
use lib.ListN.{length, get_or, drop}
use Rattle.laws.specs.Lists.{all_of}
use Rattle.laws.specs.Split.{index_of, before}
use Rattle.laws.proofs.Cases.{by_bool, and_l, and_r, and-of}
use Rattle.laws.proofs.Lists.{all-turn, all_end, all_drop, all_take}
use Rattle.text_fields.specs.Items.{between}
use Rattle.plan.specs.Answer.{refuse}
use Rattle.plan.specs.declared.Answer.{Answer}
use Rattle.plan.specs.Private.Drives.{is_drive, RowsInRange}
use Rattle.plan.proofs.PlanTasks.{between-facts}
use Rattle.plan.specs.declared.Plan.{Plan}
use Rattle.plan_judge.specs.Tasks.{is_place, tasks_judged, judged_alone}
use Rattle.plan_judge.proofs.ValueLaws.{judged_in}

-- what is gathered so far and the rest make the whole
abbrev pub PlacesRest : List ℕ → ℕ → Bool → Type 0
PlacesRest l i all = (all && all_of is_place (drop i l)) ≡ all_of is_place l

module _ (l : List ℕ) (i : ℕ) (all : Bool) (rest : PlacesRest l i all) where
  pub places-turn : i < length l → PlacesRest l (i + 1) (is_place (get_or l i 0) && all)
  places-turn h = gather all (is_place (get_or l i 0)) _ ∙ rw (all-turn is_place l i 0 h) at rest
    where
      gather : (a x r : Bool) → ((x && a) && r) ≡ (a && (x && r))
      gather true true r = refl
      gather true false r = refl
      gather false true r = refl
      gather false false r = refl

  pub places-out : length l ≤ i → all ≡ all_of is_place l
  places-out h = go all ∙ rw (all_end is_place l i h) at rest
    where
      go : (a : Bool) → a ≡ (a && true)
      go true = refl
      go false = refl

-- the items of a list with such places are drives of the 32
items-drives : (l : List ℕ) → all_of is_place l ≡ true → all_of is_drive (before 0 l) ≡ true
unfolding all_of index_of
items-drives [] h = refl
items-drives (x ∷ l) h =
    by_bool (eqb x 0) (λ z. rw z)
    (λ z.
    rw z
    (and-of (let own = and_l (is_place x) (all_of is_place l) h in rw z at own) (items-drives l (and_r (is_place x) (all_of is_place l) h))))

module _ (plan : Plan) {ok : Bool} (e : ok ≡ (between 1 64 plan.tasks && all_of is_place plan.holds)) where
  pub tasks-nine : ok ≡ false → refuse 9 0 0 ≡ judged_alone plan
  unfolding tasks_judged
  tasks-nine h = rw (sym e ∙ h)

  module _ (yes : ok ≡ true) where
    fine : (between 1 64 plan.tasks && all_of is_place plan.holds) ≡ true
    fine = sym e ∙ yes

    pub tasks-in-range : (0 < plan.tasks) × RowsInRange plan.holds plan.tasks
    tasks-in-range =
        let few = between-facts 1 64 plan.tasks (and_l (between 1 64 plan.tasks) (all_of is_place plan.holds) fine) in (
          few.0,
          record {
            few = few.1;
            range = λ k l. items-drives _ (all_take is_place 32 (drop (32 * k) plan.holds) (all_drop is_place (32 * k) plan.holds (and_r (between 1 64 plan.tasks) (all_of is_place plan.holds) fine)));
          },
        )

    pub tasks-judged : {r : Answer} → r ≡ judged_in plan → r ≡ judged_alone plan
    unfolding tasks_judged
    tasks-judged q = q ∙ rw fine
