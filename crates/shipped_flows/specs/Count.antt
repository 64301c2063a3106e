-- The counting flow: class 1, `count K`, sleeps K times until moment 0, and returns K.
use Rattle.std.specs.Prelude.{ℕ, ◌-◌, ◌+◌, ◌<◌, ◌^◌, ◌==◌, nat_le, [], ◌∷◌, Option, Some, None, if◌then◌else◌, max, false, ◌≤◌, refl}
use Rattle.ledger_types.specs.declared.value.Value.TheVariants as value
use Rattle.flow_machine.specs.declared.acts.Act.TheVariants as act
use Rattle.flow_machine.specs.declared.acts.Resumed.TheVariants as resumed
use Rattle.flow_forms.specs.declared.arguments.End.{End}
use Rattle.flow_forms.specs.declared.arguments.Then.{Then}
use Rattle.flow_forms.specs.declared.forms.Goes.{Goes}
use Rattle.flow_forms.specs.declared.forms.Goes.TheVariants.{On, Ends}
use Rattle.flow_forms.specs.Usual.{Place, Resumed, Form, unnamed, Numbers, Owes, IsForm, unnamed_owes, owes_if, BeginsWithin, if_some, Kept, kept_as, before, u32_field, arith, subst, eqb-false}
use Rattle.shipped_flows.specs.declared.count.Count.{Count}
use Rattle.shipped_flows.specs.declared.count.CountPlace.{CountPlace}
use Rattle.shipped_flows.specs.declared.count.CountPlace.TheVariants.{Sleeping}

-- ---- how it goes on

-- at most 65,534 sleeps, all of which are left
abbrev pub begins : Then ℕ End → Place → Option Count
begins args here = if nat_le args.first 65534 then Some (record { left = args.first; all = args.first }) else None

-- it sleeps until moment 0 while a sleep is left, and then returns how many there were
abbrev pub sleeps : Count → Goes CountPlace Count
sleeps c = if c.left == 0 then Ends c (value.Number c.all) else On Sleeping c (act.Sleep 0)

-- once its time has come, one sleep fewer is left
abbrev pub moves : CountPlace → Count → Resumed → Place → Goes CountPlace Count
moves Sleeping c resumed.Lapsed here = sleeps (record c { left = c.left - 1 })
moves Sleeping c other here = unnamed c other

-- what the machine is: each sleep that is left costs one
abbrev pub form : Form CountPlace Count
form = record { starts = λ c here. sleeps c; moves = moves; weight = λ p c. max c.left 1; called = λ c. c.left + 1; tags = λ c. [] }

-- ---- its bytes

-- its fields: how many sleeps are left, and how many there are in all
abbrev pub kept : Kept Count
kept = kept_as (before u32_field u32_field) (λ p. record { left = p.0; all = p.1 }) (λ c. (c.left, c.all)) (λ _. refl) (λ _. refl) refl

-- its places: 1 Sleep, 2 Return
abbrev pub numbers : Numbers CountPlace
numbers = record { all = Sleeping ∷ []; number = λ p. 1; told = λ callable. elim [ Sleeping ↦ refl ]; few = refl }

-- ---- its laws

pub begins_within : BeginsWithin (λ args. (args.first < 2 ^ 32) × Unit {0}) kept.within form.tags begins
begins_within args here c e = let made = if_some (nat_le args.first 65534) e in (λ given place. subst kept.within made.1 (given.0, given.0), refl)

-- how it sleeps, with this number left
sleeps_owe : (most n : ℕ) (c : Count) (with : Resumed) (here : Place) → 1 ≤ most → n + 1 ≤ most → (kept.within c → n < 2 ^ 32) → Owes form kept.within most c with here (sleeps (record c { left = n }))
sleeps_owe most n c with here some falls small =
    owes_if form kept.within most c with here (n == 0) (Ends (record c { left = n }) (value.Number c.all)) (On Sleeping (record c { left = n }) (act.Sleep 0))
    (λ _. record { limits = λ h fits place. ((small h, h.1), omega (arith, h.1)); tags = λ test old given. (refl, refl); falls = some; asks = refl })
    (λ left. record { limits = λ h fits place. ((small h, h.1), omega arith); tags = λ test old given. (refl, refl); falls = omega (arith, falls, eqb-false n 0 left); asks = refl })

moves_owe : (p : CountPlace) (c : Count) (with : Resumed) (here : Place) → Owes form kept.within (max c.left 1) c with here (moves p c with here)
moves_owe Sleeping c resumed.Lapsed here = sleeps_owe (max c.left 1) (c.left - 1) c resumed.Lapsed here (omega arith) (omega arith) (λ h. omega (arith, h.0))
moves_owe Sleeping c other here = unnamed_owes form kept.within (max c.left 1) c other here (omega arith)

pub is_form : IsForm kept.within form
is_form = record { starts = λ c here. sleeps_owe (c.left + 1) c.left c resumed.Started here (omega arith) (omega arith) (λ h. h.0); moves = moves_owe }
