-- The wait sets that are lent say what the rule says, and so does the test that goes by them.
use Prim.Native.Nat.{ℕ, ◌<◌, ◌≤◌}
use mathlib.Core.Bool.{Bool, true, false, ◌&&◌}
use mathlib.Core.List.{List}
use mathlib.Core.Path.{◌≡◌, sym, ap, ◌∙◌}
use Rattle.std.specs.Prelude.{Option, Some, None, Result, Ok, Err}
use Rattle.std.proofs.lemmas.Option.{none-some, cond_some}
use Rattle.laws.proofs.Cases.{by_bool, and_l}
use Rattle.laws.specs.Bits.{has, set_of}
use Rattle.laws.proofs.Bits.{has-below}
use Rattle.theory.proofs.Alike.{sound-alike}
use Rattle.plan.specs.Value.{at, is_accepted}
use Rattle.plan.specs.declared.Plan.{Plan}
use Rattle.book_view.specs.View.{is_rule, plan_for, plan_seen, book_seen}
use Rattle.book_view.proofs.Accepted.{plan-facts}
use Rattle.book_view.proofs.Laid.{laid-at}
use Rattle.book_waits.specs.Waits.{sets_by, waits_of}
use Rattle.book_sound.specs.Sound.{sound_on, sound_waits}

module _ (rule : ℕ) (plan : Plan) where
  abbrev pub good : Bool
  good = is_accepted plan && is_rule rule

  pub few : good ≡ true → plan.tasks ≤ 64
  few g = (plan-facts plan (and_l _ _ g)).tasks-to

  -- the wait sets say what the rule says
  pub agree :
      good ≡ true → {sets : List ℕ} → sets ≡ sets_by rule plan → (i j : ℕ) → i < plan.tasks → j < plan.tasks
      → has (at sets i) j ≡ (plan_for rule plan).waits i j
  unfolding sets_by
  agree g s i j li lj =
      rw s
      (ap (λ (set : ℕ). has set j) (laid-at plan.tasks (λ k. set_of plan.tasks ((plan_for rule plan).waits k)) (few g) i li)
      ∙ has-below plan.tasks ((plan_for rule plan).waits i) j lj)

  -- whether a plan has them
  pub none-known : waits_of rule plan ≡ None → good ≡ false
  unfolding waits_of
  none-known w = by_bool good (λ t. absurd (none-some (sets_by rule plan) (sym w ∙ rw t))) (λ f. f)

  pub some-known : {sets : List ℕ} → waits_of rule plan ≡ Some sets → (good ≡ true) × (sets_by rule plan ≡ sets)
  unfolding waits_of
  some-known {sets} w = cond_some good (sets_by rule plan) sets w

  module _ (mark start end dropped : List ℕ) (clock : ℕ) where
    abbrev pub sound : Bool
    sound = good && sound_on (plan_for rule plan) mark start end dropped clock

    -- whether they are those of a sound book
    pub err-sound : {held : Option (List ℕ)} → sound_waits rule plan mark start end dropped clock ≡ Err held → sound ≡ false
    unfolding sound_waits
    err-sound {held} w =
        by_bool sound
        (λ t. let q : ◌≡◌ {A = Result (List ℕ) (Option (List ℕ))} (Ok (sets_by rule plan)) (Err held) = rw t at w in absurd cc)
        (λ f. f)

    pub ok-sound : {sets : List ℕ} → sound_waits rule plan mark start end dropped clock ≡ Ok sets → (sound ≡ true) × (sets_by rule plan ≡ sets)
    unfolding sound_waits
    ok-sound {sets} w =
        by_bool sound
        (λ t. let q : ◌≡◌ {A = Result (List ℕ) (Option (List ℕ))} (Ok (sets_by rule plan)) (Ok sets) = rw t at w in (t, cc))
        (λ f. let q : ◌≡◌ {A = Result (List ℕ) (Option (List ℕ))} (Err (waits_of rule plan)) (Ok sets) = rw f at w in absurd cc)

    pub not-known : waits_of rule plan ≡ None → Err None ≡ sound_waits rule plan mark start end dropped clock
    unfolding sound_waits
    not-known w = rw (none-known w, w)

    module _ {sets : List ℕ} (w : waits_of rule plan ≡ Some sets) where
      seen :
          sound_on (plan_seen plan.tasks plan.ready plan.begin plan.finish sets) mark start end dropped clock
          ≡ sound_on (plan_for rule plan) mark start end dropped clock
      unfolding sound_on
      seen =
          let known = some-known w in
          rw (sound-alike plan.tasks (at plan.ready) (at plan.begin) (at plan.finish) (λ i j. has (at sets i) j) (plan_for rule plan).waits
          (agree known.0 (sym known.1)) (book_seen mark start end dropped clock))

      module _ {ok : Bool} (e : ok ≡ sound_on (plan_seen plan.tasks plan.ready plan.begin plan.finish sets) mark start end dropped clock) where
        pub judged-sound : ok ≡ true → Ok sets ≡ sound_waits rule plan mark start end dropped clock
        unfolding sound_waits
        judged-sound t =
            let known = some-known w in
            rw (known.0, sym (seen) ∙ sym e ∙ t, known.1)

        pub judged-unsound : ok ≡ false → Err (Some sets) ≡ sound_waits rule plan mark start end dropped clock
        unfolding sound_waits
        judged-unsound f =
            let known = some-known w in
            rw (known.0, sym (seen) ∙ sym e ∙ f, w)
