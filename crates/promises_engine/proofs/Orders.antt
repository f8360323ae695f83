-- An order in which a timetable is told, as the theory counts tasks.
use Prim.Native.Nat.{ℕ, ◌+◌}
use native.Mathlib.Omega.{arith}
use mathlib.Core.Path.{◌≡◌, refl, sym, ap, subst, ◌∙◌}
use mathlib.Core.List.{List, [], ◌∷◌, ◌++◌, map, Memᴰ}
use Rattle.theory.specs.Words.Events.{Event, Once}
use Rattle.book.proofs.Reports.{theory_event}
use Rattle.promises.proofs.RunView.{named, seen-named, mem-back}
use Rattle.theory.specs.Words.Orders.{tick_of, InTime, Order}

mem-named : {e : Event} {l : List Event} → Memᴰ e l → Memᴰ (named e) (map named l)
mem-named (Memᴰ.head q) = Memᴰ.head (ap named q)
mem-named (Memᴰ.tail m) = Memᴰ.tail (mem-named m)

-- what is named i + 1 is task i
drop-back : (e : Event) (i : ℕ) → named e ≡ Event.drops (i + 1) → e ≡ Event.drops i
drop-back (Event.ends k tick) i q = let z : ◌≡◌ {A = ℕ} 0 1 = cc in absurd (omega arith)
drop-back (Event.drops k) i q =
    let e : k + 1 ≡ i + 1 = cc in let s : k ≡ i = omega arith in ap (λ (x : ℕ). Event.drops x) s

end_back : (e : Event) (i tick : ℕ) → named e ≡ Event.ends (i + 1) tick → e ≡ Event.ends i tick
end_back (Event.ends k t) i tick q =
    let a : k + 1 ≡ i + 1 = cc in let b : t ≡ tick = cc in let s : k ≡ i = omega arith in λ d. Event.ends (s d) (b d)
end_back (Event.drops k) i tick q = let z : ◌≡◌ {A = ℕ} 0 1 = cc in absurd (omega arith)

one-back : (tasks : ℕ) (e x : Event) → x ≡ named e → named (theory_event tasks x) ≡ x
one-back tasks e x q =
    let s : theory_event tasks (named e) ≡ e = head (seen-named tasks (e ∷ [])) in
    ap (λ (y : Event). named (theory_event tasks y)) q ∙ ap named s ∙ sym q
  where
    head : {a b : Event} → ◌≡◌ {A = List Event} (a ∷ []) (b ∷ []) → a ≡ b
    head p = cc

-- a list of named events is what the theory's events are named
back :
    (tasks : ℕ) (l : List Event) → ((x : Event) → Memᴰ x l → (e : Event) × (x ≡ named e))
    → map named (map (theory_event tasks) l) ≡ l
back tasks [] all = refl
back tasks (x ∷ l) all =
    let r = all x (Memᴰ.head refl) in
    λ i. one-back tasks r.0 x r.1 i ∷ back tasks l (λ y m. all y (Memᴰ.tail m)) i

once-back : (l : List Event) → Once (map named l) → Once l
once-back [] o = tt
once-back (x ∷ l) o = (λ m. o.0 (mem-named m), once-back l o.1)

tick-named : (e : Event) → tick_of (named e) ≡ tick_of e
tick-named (Event.ends k tick) = refl
tick-named (Event.drops k) = refl

time-back : (l : List Event) → InTime (map named l) → InTime l
time-back [] t = tt
time-back (x ∷ l) t = (
  λ other m. let h = t.0 (named other) (mem-named m) in omega (arith, tick-named x, tick-named other),
  time-back l t.1,
)

module _ (tasks : ℕ) (dropped end : ℕ → ℕ) (drops ends : List Event) (order : Order tasks (λ i. i + 1) dropped end drops ends) where
  abbrev told : List Event → List Event
  told = map (theory_event tasks)

  drops-back : map named (told drops) ≡ drops
  drops-back = back tasks drops (λ x m. let r = (order.the_drops x).0 m in (Event.drops r.0, r.3))

  ends-back : map named (told ends) ≡ ends
  ends-back = back tasks ends (λ x m. let r = (order.the_ends x).0 m in (Event.ends r.0 (end r.0), r.3))

  pub told-order : Order tasks (λ i. i) dropped end (told drops) (told ends)
  told-order = record {
    the_drops = λ e. (
      λ m. let r = (order.the_drops (named e)).0 (subst (Memᴰ (named e)) drops-back (mem-named m)) in (r.0, r.1, r.2, drop-back e r.0 r.3),
      λ r. mem-back (told drops) (subst (Memᴰ (named e)) (sym drops-back) ((order.the_drops (named e)).1 (r.0, r.1, r.2, ap named r.3))),
    );
    drops_once = once-back (told drops) (subst Once (sym drops-back) order.drops_once);
    the_ends = λ e. (
      λ m. let r = (order.the_ends (named e)).0 (subst (Memᴰ (named e)) ends-back (mem-named m)) in (r.0, r.1, r.2, end_back e r.0 (end r.0) r.3),
      λ r. mem-back (told ends) (subst (Memᴰ (named e)) (sym ends-back) ((order.the_ends (named e)).1 (r.0, r.1, r.2, ap named r.3))),
    );
    ends_once = once-back (told ends) (subst Once (sym ends-back) order.ends_once);
    in_time = time-back (told ends) (subst InTime (sym ends-back) order.in_time);
  }

  map-append : (a b : List Event) → map named (a ++ b) ≡ map named a ++ map named b
  map-append [] b = refl
  map-append (x ∷ a) b = ap (λ (l : List Event). named x ∷ l) (map-append a b)

  pub told_back : map named (told drops ++ told ends) ≡ drops ++ ends
  told_back = map-append (told drops) (told ends) ∙ (λ i. drops-back i ++ ends-back i)
