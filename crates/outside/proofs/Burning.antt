-- What writes and syncs do to power and fuse.
use Rattle.std.proofs.Common.{◌≡◌, ℕ, zero, suc, ◌+◌, ◌≤◌, ◌&&◌, ◌||◌, not, Option, None, Some, Bool, true, false, if◌then◌else◌, Result, Ok, Err, OnOk, refl, sym, ◌∙◌, ap, arith}
use Rattle.outside.specs.Disk.{DiskSeen, Burns, BurnsUpTo, blows, blows_within, burnt, burnt_by}

-- no fuse is armed: none burns
none_burns : (n : ℕ) → burnt_by n None ≡ None
none_burns zero = refl
none_burns (suc n) = none_burns n

-- a fuse that ended is armed no more
blown : (fuse : Option (ℕ × ℕ)) → blows fuse ≡ true → burnt fuse ≡ None
blown None is = refl
blown (Some f) is = rw is refl

or_none : (b : Bool) → (b || false) ≡ b
or_none true = refl
or_none false = refl

and_all : (b : Bool) → (b && true) ≡ b
and_all true = refl
and_all false = refl

same_both : {X : Type 0} (b : Bool) (x : X) → (if b then x else x) ≡ x
same_both true x = refl
same_both false x = refl

-- a call that is no write and no sync
pub burns_none : (old new : DiskSeen) → new.fuse ≡ old.fuse → new.power ≡ old.power → Burns 0 old new
burns_none old new fuse power = record { fuse = fuse ∙ sym (same_both old.power old.fuse); power = power ∙ sym (and_all old.power) }

-- one write or sync
pub burns_one : (old new : DiskSeen) → new.fuse ≡ (if old.power then burnt old.fuse else old.fuse) → new.power ≡ (old.power && not (blows old.fuse)) → Burns 1 old new
burns_one old new fuse power = record { fuse = fuse; power = power ∙ ap (λ b. old.power && not b) (sym (or_none (blows old.fuse))) }

-- a fuse that blows within these calls is armed no more after them
blown_first : (n : ℕ) (fuse : Option (ℕ × ℕ)) (now : Bool) → blows fuse ≡ now → (now || blows_within n (burnt fuse)) ≡ true → (blows_within n (burnt fuse) ≡ true → burnt_by n (burnt fuse) ≡ None) → burnt_by n (burnt fuse) ≡ None
blown_first n fuse true first is later = ap (burnt_by n) (blown fuse first) ∙ none_burns n
blown_first n fuse false first is later = later is

blown_within : (n : ℕ) (fuse : Option (ℕ × ℕ)) → blows_within n fuse ≡ true → burnt_by n fuse ≡ None
blown_within zero fuse is = cc
blown_within (suc n) fuse is = blown_first n fuse (blows fuse) refl is (blown_within n (burnt fuse))

-- first some calls, and then more
burnt_both : (m n : ℕ) (fuse : Option (ℕ × ℕ)) → burnt_by (m + n) fuse ≡ burnt_by n (burnt_by m fuse)
burnt_both zero n fuse = let e : 0 + n ≡ n = omega arith in ap (λ k. burnt_by k fuse) e
burnt_both (suc m) n fuse = let e : suc m + n ≡ suc (m + n) = omega arith in ap (λ k. burnt_by k fuse) e ∙ burnt_both m n (burnt fuse)

or_assoc : (a b c : Bool) → (a || (b || c)) ≡ ((a || b) || c)
or_assoc true b c = refl
or_assoc false b c = refl

blows_both : (m n : ℕ) (fuse : Option (ℕ × ℕ)) → blows_within (m + n) fuse ≡ (blows_within m fuse || blows_within n (burnt_by m fuse))
blows_both zero n fuse = let e : 0 + n ≡ n = omega arith in ap (λ k. blows_within k fuse) e
blows_both (suc m) n fuse = let e : suc m + n ≡ suc (m + n) = omega arith in ap (λ k. blows_within k fuse) e ∙ ap (λ b. blows fuse || b) (blows_both m n (burnt fuse)) ∙ or_assoc (blows fuse) (blows_within m (burnt fuse)) (blows_within n (burnt_by m (burnt fuse)))

-- power and fuse after both, by what both began with
fuse_then : (m n : ℕ) (power blew : Bool) (fuse : Option (ℕ × ℕ)) → blows_within m fuse ≡ blew → (if (power && not blew) then burnt_by n (if power then burnt_by m fuse else fuse) else (if power then burnt_by m fuse else fuse)) ≡ (if power then burnt_by (m + n) fuse else fuse)
fuse_then m n false blew fuse is = refl
fuse_then m n true false fuse is = sym (burnt_both m n fuse)
fuse_then m n true true fuse is = blown_within m fuse is ∙ sym (burnt_both m n fuse ∙ ap (burnt_by n) (blown_within m fuse is) ∙ none_burns n)

power_then : (m n : ℕ) (power blew : Bool) (fuse : Option (ℕ × ℕ)) → blows_within m fuse ≡ blew → ((power && not blew) && not (blows_within n (if power then burnt_by m fuse else fuse))) ≡ (power && not (blew || blows_within n (burnt_by m fuse)))
power_then m n false blew fuse is = refl
power_then m n true false fuse is = refl
power_then m n true true fuse is = refl

pub burns_then : (m n : ℕ) (old mid new : DiskSeen) → Burns m old mid → Burns n mid new → Burns (m + n) old new
burns_then m n old mid new first next = record {
  fuse = next.fuse ∙ (λ i. if first.power i then burnt_by n (first.fuse i) else first.fuse i) ∙ fuse_then m n old.power (blows_within m old.fuse) old.fuse refl;
  power = next.power ∙ (λ i. first.power i && not (blows_within n (first.fuse i))) ∙ power_then m n old.power (blows_within m old.fuse) old.fuse refl ∙ ap (λ b. old.power && not b) (sym (blows_both m n old.fuse));
}

-- at most that number

pub up_to : (calls most : ℕ) (old new : DiskSeen) → calls ≤ most → Burns calls old new → BurnsUpTo most old new
up_to calls most old new few burns = (calls, few, burns)

pub then_up_to : (m n : ℕ) (old mid new : DiskSeen) → Burns m old mid → BurnsUpTo n mid new → BurnsUpTo (m + n) old new
then_up_to m n old mid new first next = (m + next.0, omega (arith, next.1), burns_then m next.0 old mid new first next.2)

pub where_done : {T E P : Type 0} (r : Result T E) → P → OnOk r P
where_done (Ok u) p = p
where_done (Err u) p = tt
