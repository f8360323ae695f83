-- The order of the lines after the first does not matter.
use Prim.Native.Nat.{ℕ, ◌+◌, ◌≤◌, ◌<◌}
use native.Mathlib.Omega.{arith}
use mathlib.Core.Path.{◌≡◌, sym, ap, subst, ◌∙◌}
use mathlib.Core.List.{List}
use lib.ListN.{length}
use Rattle.laws.proofs.Cases.{by-eq}
use Rattle.text.specs.Line.{line_at, field}
use Rattle.plan.specs.declared.Plan.{Plan}
use Rattle.promises_school.specs.Lines.{RunLine, LaterLine, IsThere, HasForm, Names, Once, On, Reordered}
use Rattle.promises_school.specs.Judged.{AcceptedLog}

module _ (log other : List ℕ) (r : Reordered log other) where
  line-back : (k : ℕ) → line_at log k ≡ line_at other (r.back k)
  line-back k = ap (line_at log) (sym (r.again k)) ∙ sym (r.same (r.back k))

  module _ (word : List ℕ) (task : ℕ) where
    named : (k : ℕ) → Names other word task k → Names log word task (r.place k)
    named k n = (ap (λ (l : List ℕ). field l 0) (sym (r.same k)) ∙ n.0, ap (λ (l : List ℕ). field l 1) (sym (r.same k)) ∙ n.1)

    named_back : (k : ℕ) → Names log word task k → Names other word task (r.back k)
    named_back k n = (ap (λ (l : List ℕ). field l 0) (sym (line-back k)) ∙ n.0, ap (λ (l : List ℕ). field l 1) (sym (line-back k)) ∙ n.1)

    once : (tick : ℕ) → Once log word task tick → Once other word task tick
    once tick o = record {
      line = r.back o.line;
      names = named_back o.line o.names;
      only = λ k n. sym (r.there k) ∙ ap r.back (o.only (r.place k) (named k n));
      says = ap (λ (l : List ℕ). field l 3) (sym (line-back o.line)) ∙ o.says;
    }

    on : (board : ℕ) → On log word task board → On other word task board
    on board f k n = ap (λ (l : List ℕ). field l 2) (r.same k) ∙ f (r.place k) (named k n)

  -- a later line stands later
  later : (k : ℕ) → 0 < k → 0 < r.place k
  later k l =
      by-eq (r.place k) 0
      (λ z.
      let e : k ≡ 0 = sym (r.there k) ∙ ap r.back (z ∙ sym r.first) ∙ r.there 0 in
      absurd (omega arith))
      (λ n. omega arith)

  form : (boards tasks k : ℕ) → IsThere other k → HasForm boards tasks log (r.place k) → HasForm boards tasks other k
  form boards tasks k t f = record {
    ended = r.ended k t;
    first = λ z. subst (RunLine boards tasks) (sym (r.same k)) (f.first (ap r.place z ∙ r.first));
    later = λ l. subst (LaterLine boards tasks) (sym (r.same k)) (f.later (later k l));
  }

  pub in-any-order :
      (plan : Plan) (start end : ℕ → ℕ) → length other ≤ 32768 → AcceptedLog plan log start end → AcceptedLog plan other start end
  in-any-order plan start end short a = record {
    short = short;
    forms = λ k t. form plan.boards plan.tasks k t (a.forms (r.place k) (r.stands k t));
    ran = λ i l.
        record { starts = once _ (i + 1) (start i) (a.ran i l).starts; ends = once _ (i + 1) (end i) (a.ran i l).ends };
    boards = λ i l. (on _ (i + 1) _ (a.boards i l).0, on _ (i + 1) _ (a.boards i l).1);
    lengths = a.lengths;
    order = a.order;
    in_time = a.in_time;
  }
