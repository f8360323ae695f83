-- A list parted at a separator, and joined again.
use Rattle.std.specs.Prelude.{ℕ, zero, suc, ◌-◌, cond, List, [], ◌∷◌, ◌++◌, length, take, drop, eqb}

-- the place of the first c, or the length
unfoldable pub index_of : ℕ → List ℕ → ℕ
index_of c [] = 0
index_of c (b ∷ s) = cond (eqb b c) 0 (suc (index_of c s))

-- what stands before the first c
abbrev pub before : ℕ → List ℕ → List ℕ
before c s = take (index_of c s) s

-- what stands after the first c
abbrev pub after : ℕ → List ℕ → List ℕ
after c s = drop (suc (index_of c s)) s

-- what is left of s after its first n parts
unfoldable pub skip_on : ℕ → ℕ → List ℕ → List ℕ
skip_on c zero s = s
skip_on c (suc n) s = skip_on c n (after c s)

-- where part n begins, from 0; a missing one would begin at the end
abbrev pub begin_of : ℕ → List ℕ → ℕ → ℕ
begin_of c s n = length s - length (skip_on c n s)

-- b put in front of the first part
unfoldable pub cons_first : ℕ → List (List ℕ) → List (List ℕ)
cons_first b [] = (b ∷ []) ∷ []
cons_first b (f ∷ fs) = (b ∷ f) ∷ fs

-- the parts between the c's
unfoldable pub split_on : ℕ → List ℕ → List (List ℕ)
split_on c [] = [] ∷ []
split_on c (b ∷ s) = let later = split_on c s in cond (eqb b c) ([] ∷ later) (cons_first b later)

-- parts joined by c
unfoldable pub join_on : ℕ → List (List ℕ) → List ℕ
join_on c [] = []
join_on c (f ∷ []) = f
join_on c (f ∷ g ∷ fs) = f ++ (c ∷ join_on c (g ∷ fs))
