-- What the converter answers, and the book of a converted plan.
use Prim.Native.Nat.{ℕ, ◌+◌}
use native.Mathlib.Omega.{arith}
use mathlib.Core.Bool.{Bool, true, false, not, cond, ◌&&◌, ◌||◌}
use mathlib.Core.List.{map}
use mathlib.Core.Path.{◌≡◌, refl, sym, ap, ◌∙◌}
use mathlib.Core.Logic.{◌≢◌, ◌⊎◌, inl, inr, ⊎_elim}
use lib.Dec.{eqb}
use borrow.Author.Tests.{eq-eqb, ne_eqb}
use Rattle.laws.proofs.Cases.{by_bool, by-eq, and-of}
use Rattle.text_fields.specs.Items.{exclusive}
use Rattle.plan.specs.Answer.{refuse, granted, is_granted}
use Rattle.plan.specs.Task.{Task, exclusive_task}
use Rattle.plan.specs.Pairs.{overlap, same_board, clash_by_drive, breaks_after, pair_code, first_fault}
use Rattle.plan.specs.Judged.{begins_at_zero, tasks_answer}
use Rattle.plan.specs.Value.{at, task_at, ranges_ok, judged_answer, is_accepted}
use Rattle.plan.specs.Convert.{exclusive_plan, converted_of}
use Rattle.plan.specs.declared.Answer.{Answer}
use Rattle.plan.specs.declared.Plan.{Plan}
use Rattle.plan.specs.declared.Reading.{Reading}
use Rattle.plan.proofs.FirstFault.{NoPair, fault-first, fault-granted}
use Rattle.plan.proofs.Judged.{accepted-ranges, accepted-tasks, tasks-fine, tasks-granted, tasks-pairs, tasks-same}
use Rattle.plan.proofs.Converted.{may, exclusive-task, judged-anew, exclusive-sized, converted-refused, converted-faulty, converted-made, converted-accepted}
use Rattle.book.specs.Words.Sized.{SizedPlan}
use Rattle.promises.specs.Says.{no_plan}
use Rattle.promises.specs.Conversion.{Unshared, ConvertedSays}
use Rattle.promises.proofs.Unmoved.{edition-unready}
use Rattle.promises.proofs.Codes.Exclusive.{same-exclusive, unshared-task}
use Rattle.promises.proofs.Codes.Pairs.{named}
use Rattle.promises.proofs.Codes.Reading.{zero-sized}

-- a pair that was not faulty is so now by 7 alone
pair-anew : (task : ℕ → Task) (a b : ℕ) → pair_code task a b ≡ 0 → (pair_code (λ k. exclusive_task (task k)) a b ≡ 0) ⊎ (pair_code (λ k. exclusive_task (task k)) a b ≡ 7)
unfolding pair_code
pair-anew task a b z =
    go (not (eqb a b) && overlap (task a) (task b)) (same_board (task a) (task b)) (clash_by_drive (task a).holds (task b).holds)
    (clash_by_drive (map exclusive (task a).holds) (map exclusive (task b).holds)) (breaks_after task a b || breaks_after task b a) z
  where
    code_by : Bool → Bool → Bool → Bool → ℕ
    code_by meet board drive after = cond (meet && board) 6 (cond (meet && drive) 7 (cond after 8 0))

    go :
        (meet board drive anew after : Bool) → code_by meet board drive after ≡ 0
        → (code_by meet board anew after ≡ 0) ⊎ (code_by meet board anew after ≡ 7)
    go true true drive anew after z = absurd (omega arith)
    go true false true anew after z = absurd (omega arith)
    go true false false anew true z = absurd (omega arith)
    go true false false true false z = inr refl
    go true false false false false z = inl refl
    go false board drive anew true z = absurd (omega arith)
    go false board drive anew false z = inl refl

-- ---- the converter

module _ (plan : Plan) (ok : is_accepted plan ≡ true) (one : plan.edition ≡ 1) where
  abbrev task : ℕ → Task
  task k = exclusive_task (task_at plan k)

  yes : may plan ≡ true
  yes = and-of ok (eq-eqb plan.edition 1 one)

  ranges : ranges_ok plan ≡ true
  ranges = accepted-ranges plan ok

  no-pair : NoPair plan.tasks (task_at plan)
  no-pair = ((tasks-fine plan.tasks (task_at plan)).0 (accepted-tasks plan ok)).1

  begins : begins_at_zero plan.tasks task ≡ true
  unfolding tasks_answer
  begins =
      by_bool (begins_at_zero plan.tasks (task_at plan)) (λ e. e)
      (λ e. let q : ◌≡◌ {A = ℕ} 17 0 = rw e at (accepted-tasks plan ok) in absurd (omega arith))

  judged : judged_answer (exclusive_plan plan) ≡ first_fault plan.tasks task
  judged = judged-anew plan ranges ∙ tasks-pairs plan.tasks task begins

  anew-made : (judged_answer (exclusive_plan plan)).code ≡ 0 → ConvertedSays plan (converted_of plan)
  unfolding exclusive_plan
  anew-made z =
      let r = converted-made plan yes z in
      let p = ap (λ (x : Reading). x.plan) r in
      let g = ap (λ (x : Reading). x.answer) r ∙ judged ∙ fault-granted plan.tasks task (ap (λ (x : Answer). x.code) (sym judged) ∙ z) in
      let c : (converted_of plan).answer.code ≡ 0 = ap (λ (x : Answer). x.code) g in
      ConvertedSays.made ok one g
      (record {
        accepted = converted-accepted plan c;
        edition = ap (λ (x : Plan). x.edition) p;
        boards_are = ap (λ (x : Plan). x.boards) p;
        tasks_are = ap (λ (x : Plan). x.tasks) p;
        each = λ k l. same-exclusive (task_at plan k) _ (ap (λ (x : Plan). task_at x k) p ∙ exclusive-task plan ranges k l);
      })
      (λ i l. ap (λ (x : Plan). at x.ready i) p ∙ edition-unready plan ok one i (rw (ap (λ (x : Plan). x.tasks) p) at l))

  anew-faulty : (judged_answer (exclusive_plan plan)).code ≢ 0 → ConvertedSays plan (converted_of plan)
  anew-faulty n =
      let f = fault-first plan.tasks task (rw judged at n) in
      let seven : pair_code task f.a f.b ≡ 7 =
      ⊎_elim (λ z. absurd (f.faulty z)) (λ e. e) (pair-anew (task_at plan) f.a f.b (no-pair f.a f.b f.ordered f.below)) in
      let first = named plan.tasks task f (omega (arith, seven), omega (arith, seven)) in
      ConvertedSays.faulty_pair (f.a + 1) (f.b + 1) ok one (rw seven at first)
      (converted-faulty plan yes n ∙ ap (λ (x : Answer). no_plan x.code x.first x.second) (judged ∙ f.is) ∙ ap (λ (c : ℕ). no_plan c (f.a + 1) (f.b + 1)) seven)

  -- without a shared hold nothing is judged otherwise
  pub unshared-converts : Unshared plan.tasks (task_at plan) → (converted_of plan).answer ≡ granted
  unshared-converts none =
      let g =
      judged-anew plan ranges
      ∙ tasks-same plan.tasks task (task_at plan) (λ k l. unshared-task (task_at plan k) (none k l))
      ∙ tasks-granted plan.tasks (task_at plan) (accepted-tasks plan ok) in
      ap (λ (x : Reading). x.answer) (converted-made plan yes (ap (λ (x : Answer). x.code) g)) ∙ g

pub converted-says : (plan : Plan) → ConvertedSays plan (converted_of plan)
converted-says plan =
    by_bool (is_accepted plan)
    (λ ok.
    by-eq plan.edition 1
    (λ one. by-eq (judged_answer (exclusive_plan plan)).code 0 (anew-made plan ok one) (anew-faulty plan ok one))
    (λ n. ConvertedSays.not_taken (inr n) (converted-refused plan (rw (ok, ne_eqb plan.edition 1 n)))))
    (λ no. ConvertedSays.not_taken (inl no) (converted-refused plan (rw no)))

pub converted-code : (plan : Plan) → ((converted_of plan).answer.code ≡ 0) ⊎ (((converted_of plan).answer.code ≡ 7) ⊎ ((converted_of plan).answer.code ≡ 9))
converted-code plan = go (converted_of plan) (converted-says plan)
  where
    go : (r : Reading) → ConvertedSays plan r → (r.answer.code ≡ 0) ⊎ ((r.answer.code ≡ 7) ⊎ (r.answer.code ≡ 9))
    go r (ConvertedSays.made ok one g m u) = inl (ap (λ (x : Answer). x.code) g)
    go r (ConvertedSays.faulty_pair a b ok one f e) = inr (inl (ap (λ (x : Reading). x.answer.code) e))
    go r (ConvertedSays.not_taken n e) = inr (inr (ap (λ (x : Reading). x.answer.code) e))

pub converted-sized : (plan : Plan) → SizedPlan plan → SizedPlan (converted_of plan).plan
unfolding converted_of
converted-sized plan size =
    by_bool (is_granted (cond (may plan) (judged_answer (exclusive_plan plan)) (refuse 9 0 0)))
    (λ e. rw e (exclusive-sized plan size))
    (λ e. rw e zero-sized)
