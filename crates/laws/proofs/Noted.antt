-- Members put into a row of sets, one by one and list by list. The set of number d is at place d - 1.
use Prim.Native.Nat.{ℕ, ◌+◌, ◌-◌, ◌%◌, ◌^◌, ◌≤◌, ◌<◌}
use native.Mathlib.Nat.{mod-eq_of_lt}
use native.Mathlib.Omega.{arith}
use mathlib.Core.Path.{◌≡◌, refl, sym, ap, ◌∙◌}
use mathlib.Core.Bool.{Bool, true, false, cond, ◌&&◌, ◌||◌}
use mathlib.Core.List.{List, []}
use lib.Bits.{bit_or, or_zero_r}
use lib.Dec.{eqb}
use lib.ListN.{length, get_or, set, drop, replicate, length-set, length-replicate}
use lib.Seq.{get_or-set_same, get_or-set_other, ext_get_or}
use borrow.Author.Tests.{eq-eqb, ne_eqb}
use Rattle.laws.specs.Bits.{has, set_of, sets_to}
use Rattle.laws.specs.Lists.{any_of}
use Rattle.laws.specs.Private.Noted.{noted}
use Rattle.laws.specs.Split.{before}
use Rattle.laws.proofs.Bits.{has-or, same_bits, set-turn}
use Rattle.laws.proofs.Cases.{by-eq}
use Rattle.laws.proofs.Each.{length-each, each_below, each-idle}
use Rattle.laws.proofs.Split.{before_here, before-next, before-end}

-- rows of n sets
module _ (n : ℕ) where
  same-sets : (l m : List ℕ) → length l ≡ n → length m ≡ n → ((d : ℕ) → d < n → get_or l d 0 ≡ get_or m d 0) → l ≡ m
  same-sets l m p q h = ext_get_or 0 l m (p ∙ sym q) (λ d b. h d (omega arith))

  module _ (pick : ℕ → Bool) (k : ℕ) (l : List ℕ) where
    abbrev put : ℕ → ℕ
    put d = bit_or (get_or l d 0) (cond (pick d) (2 ^ k) 0)

    noted-length : length (noted n pick k l) ≡ length l
    unfolding noted
    noted-length = length-each n put l

    noted-at : length l ≡ n → (d : ℕ) → d < n → get_or (noted n pick k l) d 0 ≡ put d
    unfolding noted
    noted-at size d h = each_below n put l d 0 h (omega arith)

    noted-none : ((d : ℕ) → d < n → pick d ≡ false) → noted n pick k l ≡ l
    unfolding noted
    noted-none h = each-idle n put l 0 (λ d b. rw (h d b, or_zero_r))

  -- a number of a kind, with the bit that bit_of makes
  module _ (number : ℕ) (kind : Bool) (pick : ℕ → Bool) (picks : (d : ℕ) → pick d ≡ (eqb (d + 1) number && kind)) (k : ℕ) (l : List ℕ) where
    pub note-none : ((d : ℕ) → d < n → d + 1 ≡ number → ⊥) → l ≡ noted n pick k l
    note-none out = sym (noted-none pick k l (λ d h. picks d ∙ ap (λ (b : Bool). b && kind) (ne_eqb (d + 1) number (out d h))))

    abbrev place : ℕ
    place = number - 1

    pub note-one :
        1 ≤ number → place < n → length l ≡ n → k < 64 → {bit : ℕ} → bit ≡ cond kind (2 ^ (k % 64)) 0
        → set l place (bit_or (get_or l place 0) bit) ≡ noted n pick k l
    note-one from to size low {bit} e =
        same-sets (set l place (bit_or (get_or l place 0) bit)) (noted n pick k l) (length-set l place (bit_or (get_or l place 0) bit) ∙ size) (noted-length pick k l ∙ size)
        (λ d h. by-eq d place (λ here. same d here ∙ sym (noted-at pick k l size d h)) (λ other. apart d other ∙ sym (noted-at pick k l size d h)))
      where
        same : (d : ℕ) → d ≡ place → get_or (set l place (bit_or (get_or l place 0) bit)) d 0 ≡ bit_or (get_or l d 0) (cond (pick d) (2 ^ k) 0)
        same d here =
            let its : d + 1 ≡ number = omega arith in
            ap (λ (x : ℕ). get_or (set l place (bit_or (get_or l place 0) bit)) x 0) here
            ∙ get_or-set_same l place (bit_or (get_or l place 0) bit) 0 (omega arith)
            ∙ rw (picks d, eq-eqb (d + 1) number its, e, mod-eq_of_lt low) (ap (λ (x : ℕ). bit_or (get_or l x 0) (cond kind (2 ^ k) 0)) (sym here))

        apart : (d : ℕ) → (d ≡ place → ⊥) → get_or (set l place (bit_or (get_or l place 0) bit)) d 0 ≡ bit_or (get_or l d 0) (cond (pick d) (2 ^ k) 0)
        apart d other =
            get_or-set_other l place d (bit_or (get_or l place 0) bit) 0 other
            ∙ sym (ap (λ (b : Bool). bit_or (get_or l d 0) (cond b (2 ^ k) 0)) (picks d ∙ ap (λ (b : Bool). b && kind) (ne_eqb (d + 1) number (λ q. other (omega arith))))
            ∙ or_zero_r (get_or l d 0))

  -- one that is put in twice
  noted-twice : (p q : ℕ → Bool) (k : ℕ) (l : List ℕ) → length l ≡ n → noted n p k (noted n q k l) ≡ noted n (λ d. q d || p d) k l
  noted-twice p q k l size =
      same-sets (noted n p k (noted n q k l)) (noted n (λ d. q d || p d) k l) (noted-length p k (noted n q k l) ∙ inner) (noted-length (λ d. q d || p d) k l ∙ size)
      (λ d h.
      noted-at p k (noted n q k l) inner d h ∙ ap (λ (x : ℕ). bit_or x (cond (p d) (2 ^ k) 0)) (noted-at q k l size d h)
      ∙ both (get_or l d 0) (2 ^ k) (q d) (p d) ∙ sym (noted-at (λ d. q d || p d) k l size d h))
    where
      inner : length (noted n q k l) ≡ n
      inner = noted-length q k l ∙ size

      again : (a b : Bool) → ((a || b) || b) ≡ (a || b)
      again true b = refl
      again false true = refl
      again false false = refl

      both : (x b : ℕ) (q p : Bool) → bit_or (bit_or x (cond q b 0)) (cond p b 0) ≡ bit_or x (cond (q || p) b 0)
      both x b true true =
          same_bits (bit_or (bit_or x b) b) (bit_or x b)
          (λ d. has-or (bit_or x b) b d ∙ ap (λ (a : Bool). a || has b d) (has-or x b d) ∙ again (has x d) (has b d) ∙ sym (has-or x b d))
      both x b true false = or_zero_r (bit_or x b)
      both x b false p = ap (λ (y : ℕ). bit_or y (cond p b 0)) (or_zero_r x)

  -- a list up to its first 0: what is put in and what the rest of the list holds make the whole
  module _ (q : ℕ → ℕ → Bool) (list : List ℕ) (k : ℕ) (old : List ℕ) where
    abbrev whole : List ℕ
    whole = noted n (λ d. any_of (q d) (before 0 list)) k old

    pub record NotedFrom (i : ℕ) (sets : List ℕ) : Type 0 where
      pub size : length sets ≡ n
      pub rest : noted n (λ d. any_of (q d) (before 0 (drop i list))) k sets ≡ whole

    pub noted-start : length old ≡ n → NotedFrom 0 old
    noted-start size = record { size = size; rest = refl }

    module _ (i : ℕ) (sets : List ℕ) (inv : NotedFrom i sets) where
      done : before 0 (drop i list) ≡ [] → sets ≡ whole
      unfolding any_of
      done e = sym (noted-none (λ d. any_of (q d) (before 0 (drop i list))) k sets (λ d h. ap (any_of (q d)) e)) ∙ inv.rest

      pub noted-stop : i < length list → get_or list i 0 ≡ 0 → sets ≡ whole
      noted-stop h e = done (before_here 0 list i h e)

      pub noted-out : length list ≤ i → sets ≡ whole
      noted-out h = done (before-end 0 list i h)

      pub noted-turn :
          i < length list → (get_or list i 0 ≡ 0 → ⊥) → {next : List ℕ} → next ≡ noted n (λ d. q d (get_or list i 0)) k sets
          → NotedFrom (i + 1) next
      unfolding any_of
      noted-turn h z {next} e = record {
        size = ap length e ∙ noted-length (λ d. q d (get_or list i 0)) k sets ∙ inv.size;
        rest =
            ap (noted n (λ d. any_of (q d) (before 0 (drop (i + 1) list))) k) e
            ∙ noted-twice (λ d. any_of (q d) (before 0 (drop (i + 1) list))) (λ d. q d (get_or list i 0)) k sets inv.size
            ∙ ap (λ (r : List ℕ). noted n (λ d. any_of (q d) r) k sets) (sym (before-next 0 list i h z)) ∙ inv.rest;
      }

  -- member by member
  module _ (test : ℕ → ℕ → Bool) (k : ℕ) where
    full-length : (m : ℕ) → length (sets_to n m test) ≡ n
    full-length m = length-each n (λ d. set_of m (test d)) (replicate n 0) ∙ length-replicate {A = ℕ} n 0

    pub set_at : (d : ℕ) → d < n → get_or (sets_to n k test) d 0 ≡ set_of k (test d)
    set_at d h = each_below n (λ d. set_of k (test d)) (replicate n 0) d 0 h (omega (arith, length-replicate {A = ℕ} n 0))

    pub sets-length : {sets : List ℕ} → sets ≡ sets_to n k test → length sets ≡ n
    sets-length e = ap length e ∙ full-length k

    pub sets_more : {sets next : List ℕ} → sets ≡ sets_to n k test → next ≡ noted n (λ d. test d k) k sets → next ≡ sets_to n (k + 1) test
    sets_more {sets} {next} e f =
        same-sets next (sets_to n (k + 1) test) (ap length f ∙ noted-length (λ d. test d k) k sets ∙ sets-length e) (full-length (k + 1))
        (λ d h.
        ap (λ (l : List ℕ). get_or l d 0) f ∙ noted-at (λ d. test d k) k sets (sets-length e) d h
        ∙ ap (λ (l : List ℕ). bit_or (get_or l d 0) (cond (test d k) (2 ^ k) 0)) e ∙ ap (λ (x : ℕ). bit_or x (cond (test d k) (2 ^ k) 0)) (set_at d h)
        ∙ sym (set-turn k (test d))
        ∙ sym (each_below n (λ d. set_of (k + 1) (test d)) (replicate n 0) d 0 h (omega (arith, length-replicate {A = ℕ} n 0))))
