-- The spelling of transactions of which only some components are shown.
use Rattle.std.proofs.Common.{◌≡◌, ◌≤◌, ◌+◌, ◌-◌, ℕ, Bool, true, false, cond, List, [], ◌∷◌, ◌++◌, length, Result, refl, ap, arith}
use Rattle.std.specs.Prelude.{nat_eq, nat_lt}
use Rattle.std.specs.List.{list_any, AllByRecursion, flat_map}
use Rattle.std.proofs.lemmas.Bool.Decides.{nat_tests}
use Rattle.net_base.specs.declared.values.Hash32.{Hash32}
use Rattle.net_base.specs.Forms.{◌>>=◌, below_at, list8, list8_at, ListWithin, bytes16}
use Rattle.net_base.specs.Laws.{Laws}
use Rattle.net_base.specs.Combining.{mapped_at, mapped_laws, pair_at, pair_laws, iso_laws, bind_laws}
use Rattle.net_base.specs.Fields.{list8_laws, below_laws}
use Rattle.net_base.specs.Kinds.{kinds_of, cases_at, cases_laws}
use Rattle.net_base.specs.Framing.{bytes16_at, bytes16_laws}
use Rattle.net_base.specs.Runs.{run_at, run_laws, Runs}
use Rattle.net_base.specs.Values.{IsHash, hash, hash_at, hash_laws}
use Rattle.ledger_types.specs.declared.torn.TornPart.{TornPart}
use Rattle.ledger_types.specs.declared.torn.TornGroup.{TornGroup}
use Rattle.ledger_types.specs.declared.torn.TornGroup.TheVariants.{Hidden, Shown}
use Rattle.ledger_types.specs.declared.torn.TornTx.{TornTx}

-- ---- TornPart: hash nonce, bytes16 of at most 64

-- the limits of a part
abbrev pub IsTornPart : TornPart → Type 0
IsTornPart p = IsHash p.nonce × (length p.bytes ≤ 64)

-- the spelling of a part
abbrev pub torn_part : TornPart → List ℕ
torn_part p = hash p.nonce ++ bytes16 p.bytes

-- a part of its fields
abbrev torn_part_of : Hash32 × List ℕ → TornPart
torn_part_of p = record { nonce = p.0; bytes = p.1 }

-- reading a part
unfoldable pub torn_part_at : List ℕ → Result (TornPart × List ℕ) ℕ
torn_part_at = mapped_at torn_part_of (pair_at hash_at (bytes16_at 64))

-- the laws of parts
pub torn_part_laws : Laws IsTornPart torn_part torn_part_at
unfolding torn_part_at
torn_part_laws = iso_laws torn_part_of (λ p. (p.nonce, p.bytes)) (λ _. refl) (λ _. refl) (pair_laws hash_laws (bytes16_laws 64 (omega arith)))

-- ---- TornGroup: 0 and a hash, or 1 and list8 of parts (64)

-- the limits of a group
abbrev pub IsTornGroup : TornGroup → Type 0
IsTornGroup (Hidden root) = IsHash root
IsTornGroup (Shown parts) = ListWithin 64 IsTornPart parts

-- how many parts a group shows
abbrev pub shown_of : TornGroup → ℕ
shown_of (Hidden root) = 0
shown_of (Shown parts) = length parts

-- a group that shows at most this number of parts
abbrev pub IsGroupWithin : ℕ → TornGroup → Type 0
IsGroupWithin room g = IsTornGroup g × (shown_of g ≤ room)

-- the byte of kind
abbrev pub group_kind : TornGroup → ℕ
group_kind (Hidden root) = 0
group_kind (Shown parts) = 1

-- what stands behind the kind
abbrev pub group_fields : TornGroup → List ℕ
group_fields (Hidden root) = hash root
group_fields (Shown parts) = list8 torn_part parts

-- the spelling of a group
abbrev pub torn_group : TornGroup → List ℕ
torn_group g = group_kind g ∷ group_fields g

-- a hidden group
abbrev hidden_of : Hash32 → TornGroup
hidden_of h = Hidden h

-- a shown group
abbrev shown : List TornPart → TornGroup
shown parts = Shown parts

-- what is read behind each kind, where this number of parts may still be shown
abbrev group_arms : ℕ → List (ℕ × (List ℕ → Result (TornGroup × List ℕ) ℕ))
group_arms room = (0, mapped_at hidden_of hash_at) ∷ (1, mapped_at shown (list8_at (cond (nat_lt room 64) room 64) torn_part_at)) ∷ []

-- reading a group, where this number of parts may still be shown
unfoldable pub group_at : ℕ → List ℕ → Result (TornGroup × List ℕ) ℕ
group_at room = cases_at (group_arms room)

-- 0 comes with a hash
from_hidden : (room : ℕ) (g : TornGroup) → IsGroupWithin room g × (group_kind g ≡ 0) → (h : Hash32) × (IsHash h × (hidden_of h ≡ g))
from_hidden room (Hidden h) w = (h, (w.0.0, refl))
from_hidden room other w = absurd (omega (arith, w.1))

-- at most 64 and at most the room is at most the limit
limit_is : (room n : ℕ) → n ≤ 64 → n ≤ room → n ≤ cond (nat_lt room 64) room 64
limit_is room n a b = elim (nat_lt room 64) as (λ (t : Bool). n ≤ cond t room 64) [ true ↦ b | false ↦ a ]

-- at most the limit is at most 64 and at most the room
limit_low : (room n : ℕ) → n ≤ cond (nat_lt room 64) room 64 → (n ≤ 64) × (n ≤ room)
limit_low room n h = grind (arith, nat_tests)

-- 1 comes with parts
from_shown : (room : ℕ) (g : TornGroup) → IsGroupWithin room g × (group_kind g ≡ 1) → (parts : List TornPart) × (ListWithin (cond (nat_lt room 64) room 64) IsTornPart parts × (shown parts ≡ g))
from_shown room (Shown parts) w = (parts, ((limit_is room (length parts) w.0.0.0 w.0.1, w.0.0.1), refl))
from_shown room other w = absurd (omega (arith, w.1))

-- each kind is among the arms
group_covered : (room : ℕ) (g : TornGroup) → (list_any (λ y. nat_eq y (group_kind g)) (kinds_of (group_arms room)) ≡ true) × (torn_group g ≡ group_kind g ∷ group_fields g)
group_covered room (Hidden h) = (refl, refl)
group_covered room (Shown parts) = (refl, refl)

-- the laws of groups with room for this number of parts
pub group_laws : (room : ℕ) → Laws (IsGroupWithin room) torn_group (group_at room)
unfolding group_at
group_laws room =
    cases_laws {kind = group_kind} {body = group_fields} (group_arms room) 0 refl (λ g h. group_covered room g) (
      mapped_laws hidden_of hash_laws (record { keeps = λ h w. (((w, omega arith), refl), refl); from = from_hidden room }),
      (
        mapped_laws shown (list8_laws (cond (nat_lt room 64) room 64) torn_part_laws) (record { keeps = λ ps w. let l = limit_low room (length ps) w.0 in ((((l.0, w.1), l.1), refl), refl); from = from_shown room }),
        tt,
      ),
    )

-- ---- TornTx: hash id; list8 TornGroup (9), with at most 96 shown parts in all groups together

-- how many parts groups show together
abbrev pub shown_in : List TornGroup → ℕ
shown_in [] = 0
shown_in (g ∷ gs) = shown_of g + shown_in gs

-- at most 9 groups that show at most 96 parts together
abbrev pub AreGroups : List TornGroup → Type 0
AreGroups gs = ListWithin 9 IsTornGroup gs × (shown_in gs ≤ 96)

-- reading a group by the parts that may still be shown
abbrev pub group_step : ℕ → ℕ → List ℕ → Result (TornGroup × List ℕ) ℕ
group_step k room = group_at room

-- the parts that may still be shown behind a group
abbrev pub group_next : ℕ → TornGroup → ℕ
group_next room g = room - shown_of g

-- the limits of a group by the parts that may still be shown
abbrev StepWithin : ℕ → ℕ → TornGroup → Type 0
StepWithin k room g = IsGroupWithin room g

-- groups that show few parts are a run
to_runs : (room : ℕ) (gs : List TornGroup) → AllByRecursion IsTornGroup gs → shown_in gs ≤ room → Runs StepWithin group_next room gs
to_runs room [] all few = tt
to_runs room (g ∷ gs) all few = ((all.0, omega (arith, few)), to_runs (room - shown_of g) gs all.1 (omega (arith, few)))

-- a run is groups that show few parts
from_runs : (room : ℕ) (gs : List TornGroup) → Runs StepWithin group_next room gs → AllByRecursion IsTornGroup gs × (shown_in gs ≤ room)
from_runs room [] runs = (tt, omega arith)
from_runs room (g ∷ gs) runs = let rest = from_runs (room - shown_of g) gs runs.1 in ((runs.0.0, rest.0), omega (arith, rest.1, runs.0.1))

-- reading groups
unfoldable pub groups_at : List ℕ → Result (List TornGroup × List ℕ) ℕ
groups_at bytes = below_at 10 bytes >>= λ n. run_at group_step group_next n.0 96 n.1

-- the laws of groups
pub groups_laws : Laws AreGroups (λ (gs : List TornGroup). list8 torn_group gs) groups_at
unfolding groups_at
groups_laws =
    bind_laws {second = λ n (gs : List TornGroup). (length gs ≡ n) × Runs StepWithin group_next 96 gs} {second_spelling = λ n (gs : List TornGroup). flat_map torn_group gs} {second_reading = λ n bytes. run_at group_step group_next n 96 bytes} (below_laws 10 (omega arith))
    (λ n h. run_laws (λ k room. Unit {0}) group_next (λ k room g. group_laws room) (λ k room g a b. tt) n 96 tt)
    (record {
      join = λ n gs hn h. let r = from_runs 96 gs h.1 in (((omega (arith, hn, h.0), r.0), r.1), ap (λ (k : ℕ). k ∷ flat_map torn_group gs) h.0);
      split = λ gs h. (length gs, (omega (arith, h.0.0), (refl, to_runs 96 gs h.0.1 h.1)));
    })

-- the limits of a tear-off
abbrev pub IsTornTx : TornTx → Type 0
IsTornTx t = IsHash t.id × AreGroups t.groups

-- the spelling of a tear-off
abbrev pub torn_tx : TornTx → List ℕ
torn_tx t = hash t.id ++ list8 torn_group t.groups

-- a tear-off of its fields
abbrev torn_tx_of : Hash32 × List TornGroup → TornTx
torn_tx_of p = record { id = p.0; groups = p.1 }

-- reading a tear-off
unfoldable pub torn_tx_at : List ℕ → Result (TornTx × List ℕ) ℕ
torn_tx_at = mapped_at torn_tx_of (pair_at hash_at groups_at)

-- the laws of tear-offs
pub torn_tx_laws : Laws IsTornTx torn_tx torn_tx_at
unfolding torn_tx_at
torn_tx_laws = iso_laws torn_tx_of (λ t. (t.id, t.groups)) (λ _. refl) (λ _. refl) (pair_laws hash_laws groups_laws)
