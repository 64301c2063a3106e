-- What stays of a node's world, and how its journal grows.
use Rattle.std.proofs.Common.{◌≡◌, ℕ, ◌+◌, ◌≤◌, List, [], ◌∷◌, ◌++◌, Option, Bool, true, false, refl, sym, ap, subst, ◌∙◌, arith, append-nil, length-append}
use Rattle.std.proofs.lemmas.Bool.{true≢false}
use Rattle.outside.specs.Faults.{Rose}
use Rattle.net_base.specs.declared.causes.Event.{Event}
use Rattle.session_wire.specs.Sessions.{Sent}
use Rattle.net_model.specs.Environment.{Environment}
use Rattle.network_core.specs.WorldSteps.{WorldCommits, WorldFaults}
use Rattle.network_core.specs.Worlds.{NodeWorld}
use Rattle.work_law.specs.Works.{Grows, Stays, fell}

-- ---- journals that grow

pub grows_same : (most : ℕ) (l : List (List ℕ)) → Grows 0 most l l
grows_same most l = record { more = []; front = sym (append-nil l); least = omega arith; bound = omega arith }

pub grows_one : (count most : ℕ) (old l : List (List ℕ)) (body : List ℕ) → count ≤ 1 → 1 ≤ count + most → l ≡ old ++ body ∷ [] → Grows count most old l
grows_one count most old l body few within is = record { more = body ∷ []; front = is; least = few; bound = within }

pub append_twice : (a b c : List (List ℕ)) → (a ++ b) ++ c ≡ a ++ (b ++ c)
append_twice [] b c = refl
append_twice (x ∷ a) b c = ap (λ (l : List (List ℕ)). x ∷ l) (append_twice a b c)

pub grows_then : (ca cb ma mb : ℕ) (a b c : List (List ℕ)) → Grows ca ma a b → Grows cb mb b c → Grows (ca + cb) (ma + mb) a c
grows_then ca cb ma mb a b c h k = record {
  more = h.more ++ k.more;
  front = k.front ∙ ap (λ (l : List (List ℕ)). l ++ k.more) h.front ∙ append_twice a h.more k.more;
  least = omega (arith, h.least, k.least, length-append h.more k.more);
  bound = omega (arith, h.bound, k.bound, length-append h.more k.more);
}

pub grows_wider : (count ma mb : ℕ) (a b : List (List ℕ)) → ma ≤ mb → Grows count ma a b → Grows count mb a b
grows_wider count ma mb a b within h = record { more = h.more; front = h.front; least = h.least; bound = omega (arith, h.bound, within) }

-- ---- what stays

-- a count that rose after it had not fallen, rose
pub rose_later : (a b c : ℕ) → a ≤ b → Rose b c → Rose a c
rose_later a b c later rose = grind (arith, later, rose)

by_up : (P : Type 0) (b : Bool) → (b ≡ true → P) → (b ≡ false → P) → P
by_up P true up down = up refl
by_up P false up down = down refl

pub stays_same : (y : NodeWorld) → Stays y y
stays_same y = record {
  down = λ down. refl;
  rose = λ up down. absurd (true≢false (sym up ∙ down));
  later = omega arith;
  calm = λ calm. (calm, refl);
  file = refl;
  openable = λ on. on;
}

still_down : (x y : NodeWorld) → Stays x y → x.up ≡ false → y.up ≡ false
still_down x y h down = ap (λ (n : NodeWorld). n.up) (h.down down) ∙ down

pub stays_then : (x y z : NodeWorld) → Stays x y → Stays y z → Stays x z
stays_then x y z h k = record {
  down = λ down.
      let one : z ≡ record y { waiting = z.waiting } = k.down (still_down x y h down) in
      one ∙ ap (λ (n : NodeWorld). record n { waiting = z.waiting }) (h.down down);
  rose = λ up down. by_up (Rose x.faults z.faults) y.up
      (λ still. rose_later x.faults y.faults z.faults h.later (k.rose still down))
      (λ gone. subst (λ (n : ℕ). Rose x.faults n) (sym (ap (λ (n : NodeWorld). n.faults) (k.down gone))) (h.rose up gone));
  later = omega (arith, h.later, k.later);
  calm = λ calm. let one = h.calm calm in let two = k.calm one.0 in (two.0, two.1 ∙ one.1);
  file = k.file ∙ h.file;
  openable = λ on. k.openable (h.openable on);
}

fell_cases : (a b c : Bool) → (a ≡ false → b ≡ false) → (b ≡ false → c ≡ false) → fell a b + fell b c ≤ fell a c
fell_cases true true true h k = omega arith
fell_cases true true false h k = omega arith
fell_cases true false true h k = absurd (true≢false (k refl))
fell_cases true false false h k = omega arith
fell_cases false true c h k = absurd (true≢false (h refl))
fell_cases false false c h k = omega arith

-- a node goes down once
pub fell_then : (x y z : NodeWorld) → Stays x y → Stays y z → fell x.up y.up + fell y.up z.up ≤ fell x.up z.up
fell_then x y z h k = fell_cases x.up y.up z.up (still_down x y h) (still_down y z k)

pub fell_fault : (y z : NodeWorld) → y.up ≡ true → z.up ≡ false → 1 ≤ 0 + fell y.up z.up
fell_fault y z up down = let one : fell y.up z.up ≡ 1 = ap (λ (b : Bool). fell b z.up) up ∙ ap (λ (b : Bool). fell true b) down in omega (arith, one)

module _ {F : Type 0} (e : Environment F) (p now : ℕ) (ev : Event) (item : Option Sent) (y z : NodeWorld) where
  pub stays_commit : WorldCommits e p now ev item y z → Stays y z
  stays_commit c = record {
    down = λ down. absurd (true≢false (sym c.was_up ∙ down));
    rose = λ up down. absurd (true≢false (sym (ap (λ (n : NodeWorld). n.up) c.after) ∙ down));
    later = c.later;
    calm = λ calm. (c.calm calm, ap (λ (n : NodeWorld). n.up) c.after ∙ sym c.was_up);
    file = ap (λ (n : NodeWorld). n.file) c.after;
    openable = λ on. ap (λ (n : NodeWorld). n.openable) c.after;
  }

  pub stays_fault : WorldFaults e p now ev item y z → y.faults ≤ z.faults → Stays y z
  stays_fault c later = record {
    down = λ down. absurd (true≢false (sym c.was_up ∙ down));
    rose = λ up down. c.rose;
    later = later;
    calm = λ calm. absurd (true≢false (sym calm ∙ c.calm));
    file = c.file;
    openable = λ on. c.openable ∙ on;
  }
