-- A text written part by part into lent bytes, and how long a number is.
use Prim.Native.Nat.{ℕ, ◌+◌}
use mathlib.Core.Path.{◌≡◌, refl, ap, ◌∙◌}
use mathlib.Core.List.{List, [], ◌∷◌, ◌++◌, append_assoc, append-nil}
use native.Mathlib.Omega.{arith}
use lib.ListN.{length, length-append}
use lib.Seq.{sets, length-sets}
use borrow.Author.Tests.{le-leb}
use Rattle.laws.proofs.Sets.{sets-append}
use Rattle.text.specs.Put.{Put}
use Rattle.plan_write.specs.Private.WriteParts.{Room, Wrote}

-- ---- a run of writes

pub whole : {m : List ℕ} {p : ℕ} {xs m' : List ℕ} {p' : ℕ} → Room m p xs → Put m p xs m' p' → Wrote m p xs m' p'
whole {m} {p} {xs} h w =
    let e = le-leb (p + length xs) (length m) h.fits in record { place = w.place ∙ rw e; bytes = w.bytes ∙ rw e }

pub nothing : (out : List ℕ) (at : ℕ) → Wrote out at [] out at
nothing out at = record { place = omega arith; bytes = refl }

pub also :
    {out : List ℕ} {at : ℕ} {xs m : List ℕ} {p : ℕ} {ys m' : List ℕ} {p' : ℕ} → Wrote out at xs m p → Wrote m p ys m' p'
    → Wrote out at (xs ++ ys) m' p'
also {out} {at} {xs} {m} {p} {ys} v w = record {
  place = omega (arith, v.place, w.place, length-append xs ys);
  bytes = w.bytes ∙ rw (v.bytes, v.place) (sets-append out at xs ys);
}

-- parts of a text, one after the other
unfoldable pub joined : List (List ℕ) → List ℕ
joined [] = []
joined (x ∷ parts) = x ++ joined parts

-- a text is being written from a place on, and these parts of it are left
pub record Left (out : List ℕ) (at : ℕ) (text now : List ℕ) (place : ℕ) (parts : List (List ℕ)) : Type 0 where
  pub stays : place + length (joined parts) ≡ at + length text
  pub bytes : sets now place (joined parts) ≡ sets out at text
  pub room : Room now place (joined parts)

module _ {out : List ℕ} {at : ℕ} {text : List ℕ} where
  pub all_left : (parts : List (List ℕ)) → text ≡ joined parts → Room out at text → Left out at text out at parts
  all_left parts e h = record { stays = rw (← e); bytes = rw (← e); room = rw (← e) h }

  module _ {m : List ℕ} {p : ℕ} {parts : List (List ℕ)} {x : List ℕ} (s : Left out at text m p (x ∷ parts)) where
    pub next-room : Room m p x
    unfolding joined
    next-room = record { fits = omega (arith, s.room.fits, length-append x (joined parts)) }

    pub turn : {m' : List ℕ} {p' : ℕ} → Wrote m p x m' p' → Left out at text m' p' parts
    unfolding joined
    turn w = record {
      stays = omega (arith, s.stays, w.place, length-append x (joined parts));
      bytes = rw (w.bytes, w.place) (sets-append m p x (joined parts) ∙ s.bytes);
      room = record {
        fits = rw (w.bytes, w.place, length-sets) (omega (arith, s.room.fits, length-append x (joined parts)));
      };
    }

    pub put : {m' : List ℕ} {p' : ℕ} → Put m p x m' p' → Left out at text m' p' parts
    put w = turn (whole next-room w)

    pub parted : (y z : List ℕ) → x ≡ y ++ z → Left out at text m p (y ∷ z ∷ parts)
    unfolding joined
    parted y z e =
        let f : joined (x ∷ parts) ≡ joined (y ∷ z ∷ parts) = rw (e, append_assoc y z (joined parts)) in
        record { stays = rw (← f) s.stays; bytes = rw (← f) s.bytes; room = rw (← f) s.room }

  module _ {m : List ℕ} {p : ℕ} where
    pub done : Left out at text m p [] → Wrote out at text m p
    unfolding joined
    done s = record { place = omega (arith, s.stays); bytes = s.bytes }

    pub done_at : {x : List ℕ} → x ≡ [] → Left out at text m p (x ∷ []) → Wrote out at text m p
    unfolding joined
    done_at {x} e s =
        let f : joined (x ∷ []) ≡ [] = rw e in
        record { place = omega (arith, s.stays, ap length f); bytes = rw f at s.bytes }

    pub wrote-length : Wrote out at text m p → length m ≡ length out
    wrote-length w = rw (w.bytes, length-sets)

pub one : (x : List ℕ) → x ≡ joined (x ∷ [])
unfolding joined
one x = simp append-nil

pub two : (x y : List ℕ) → x ++ y ≡ joined (x ∷ y ∷ [])
unfolding joined
two x y = simp append-nil
