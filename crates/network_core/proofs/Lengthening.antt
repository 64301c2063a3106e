-- Each journal that may be left of a node begins with one that might be left before, and a node that can be opened still can.
use Rattle.std.proofs.Common.{◌≡◌, ℕ, inl, inr, ⊎_elim, Bool, true, List, [], ◌∷◌, ◌++◌, Option, Some, None, slice_get, slice_set, refl, sym, ap, subst, ◌∙◌, append-nil, append_assoc}
use Rattle.net_base.specs.declared.causes.Event.{Event}
use Rattle.net_base.specs.declared.values.Party.{Party}
use Rattle.net_base.specs.declared.names.Key.{Key}
use Rattle.net_base.proofs.Lists.{get_set}
use Rattle.session_wire.specs.Sessions.{Sent}
use Rattle.session_frames.specs.declared.judged.Judged.{Judged}
use Rattle.session_frames.specs.declared.judged.Judged.TheVariants as judged
use Rattle.session_frames.specs.declared.sending.Outgoing.{Outgoing}
use Rattle.net_model.specs.Environment.{Environment}
use Rattle.network_core.specs.declared.steps.Outcome.{Outcome}
use Rattle.network_core.specs.declared.steps.Outcome.TheVariants as outcome
use Rattle.network_core.specs.Worlds.{NodeWorld, MaySpell}
use Rattle.network_core.specs.WorldSteps.{WorldCommits, WorldFaults, WorldStarts, WorldTurns, WorldCuts, StaysDown, ComesUp, WorldBoots, LosesAt, HearsNext, Hears, WorldTakes, handed_over, sent_all}
use Rattle.network_core.proofs.QuietingFrames.{all_grown}
use Rattle.network_core.proofs.QuietingSteps.{handed}

-- a journal begins with one that might be left of the node
abbrev pub Begins : NodeWorld → List (List ℕ) → Type 0
Begins x l = (old : List (List ℕ)) × MaySpell x old × (rest : List (List ℕ)) × (l ≡ old ++ rest)

-- each journal that may be left of the new node begins with one that might be left of the old one, and it can be opened where the old one could
pub record Lengthens (x y : NodeWorld) : Type 0 where
  pub begins : (l : List (List ℕ)) → MaySpell y l → Begins x l
  pub openable : x.openable ≡ true → y.openable ≡ true

-- the journals that may be left of a node are among those of before
pub lengthens_fewer : (x y : NodeWorld) → ((l : List (List ℕ)) → MaySpell y l → MaySpell x l) → y.openable ≡ x.openable → Lengthens x y
lengthens_fewer x y among openable = record { begins = λ l may. (l, among l may, [], sym (append-nil l)); openable = λ on. openable ∙ on }

pub lengthens_kept : (x y : NodeWorld) → y.journal ≡ x.journal → y.other ≡ x.other → y.openable ≡ x.openable → Lengthens x y
lengthens_kept x y journal other openable = lengthens_fewer x y (λ l may. ⊎_elim (λ is. inl (is ∙ journal)) (λ is. inr (sym other ∙ is)) may) openable

pub lengthens_same : (x y : NodeWorld) → y ≡ x → Lengthens x y
lengthens_same x y is = lengthens_kept x y (ap (λ (z : NodeWorld). z.journal) is) (ap (λ (z : NodeWorld). z.other) is) (ap (λ (z : NodeWorld). z.openable) is)

begins_then : (x y z : NodeWorld) → Lengthens x y → Lengthens y z → (l : List (List ℕ)) → MaySpell z l → Begins x l
begins_then x y z f g l may =
    let mid = g.begins l may in
    let old = f.begins mid.0 mid.1 in
    (old.0, old.1, old.2 ++ mid.2, mid.3 ∙ ap (λ (k : List (List ℕ)). k ++ mid.2) old.3 ∙ append_assoc old.0 old.2 mid.2)

pub lengthens_then : (x y z : NodeWorld) → Lengthens x y → Lengthens y z → Lengthens x z
lengthens_then x y z f g = record { begins = begins_then x y z f g; openable = λ on. g.openable (f.openable on) }

-- no other journal may be left
no_other : (x : NodeWorld) (l : List (List ℕ)) → x.other ≡ None → x.other ≡ Some l → ⊥
no_other x l none some = cc

lengthens_only : (x y : NodeWorld) (rest : List (List ℕ)) → y.journal ≡ x.journal ++ rest → y.other ≡ None → y.openable ≡ true → Lengthens x y
lengthens_only x y rest journal none openable = record { begins = λ l may. (x.journal, inl refl, rest, ⊎_elim (λ is. is ∙ journal) (λ is. absurd (no_other y l none is)) may); openable = λ on. openable }

-- ---- steps of a node

module _ {F : Type 0} (e : Environment F) (p now : ℕ) (x y : NodeWorld) where
  commits_lengthen : (event : Event) (item : Option Sent) → WorldCommits e p now event item x y → Lengthens x y
  commits_lengthen event item c = lengthens_only x y (c.body ∷ []) (ap (λ (z : NodeWorld). z.journal) c.after) (ap (λ (z : NodeWorld). z.other) c.after) (ap (λ (z : NodeWorld). z.openable) c.after)

  faults_lengthen : (event : Event) (item : Option Sent) → WorldFaults e p now event item x y → Lengthens x y
  faults_lengthen event item c = record {
    begins = λ l may. ⊎_elim (λ is. (x.journal, inl refl, [], is ∙ sym (append-nil x.journal))) (λ is. (x.journal, inl refl, c.body ∷ [], is)) (c.lists l may);
    openable = λ on. c.openable ∙ on;
  }

  pub starts_lengthen : (class : ℕ) (args : List ℕ) (o : Option Outcome) → WorldStarts e p now class args x o y → Lengthens x y
  starts_lengthen class args None h = lengthens_same x y h.1
  starts_lengthen class args (Some (outcome.Started f)) h = commits_lengthen _ _ h.1
  starts_lengthen class args (Some outcome.Fault) h = faults_lengthen _ _ h
  starts_lengthen class args (Some (outcome.Refused why)) h = lengthens_same x y h.1
  starts_lengthen class args (Some other) h = absurd h

  pub turns_lengthen : (pick : Option ℕ) (o : Option Outcome) → WorldTurns e p now pick x o y → Lengthens x y
  turns_lengthen pick None h = lengthens_same x y h.3
  turns_lengthen pick (Some outcome.Idle) h = lengthens_same x y h.2
  turns_lengthen pick (Some (outcome.Moved f)) h = commits_lengthen h.0 None h.3
  turns_lengthen pick (Some outcome.Fault) h = faults_lengthen h.0 None h.2
  turns_lengthen pick (Some (outcome.Refused why)) h = lengthens_same x y h.1
  turns_lengthen pick (Some other) h = absurd h

  pub cuts_lengthen : (calls : ℕ) (o : Option Outcome) → WorldCuts calls x o y → Lengthens x y
  cuts_lengthen calls None h = absurd h
  cuts_lengthen calls (Some outcome.Down) h = lengthens_kept x y (ap (λ (z : NodeWorld). z.journal) h.3) (ap (λ (z : NodeWorld). z.other) h.3) (ap (λ (z : NodeWorld). z.openable) h.3)
  cuts_lengthen calls (Some outcome.Armed) h = lengthens_kept x y (ap (λ (z : NodeWorld). z.journal) h.3) (ap (λ (z : NodeWorld). z.other) h.3) (ap (λ (z : NodeWorld). z.openable) h.3)
  cuts_lengthen calls (Some (outcome.Refused why)) h = lengthens_same x y h.1
  cuts_lengthen calls (Some other) h = absurd h

  stays_down_lengthens : StaysDown x y → Lengthens x y
  stays_down_lengthens s = lengthens_fewer x y s.lists s.openable

  comes_up_lengthens : ComesUp e x y → Lengthens x y
  comes_up_lengthens c = lengthens_only x y [] (ap (λ (z : NodeWorld). z.journal) c.after ∙ sym (append-nil x.journal)) (ap (λ (z : NodeWorld). z.other) c.after) (ap (λ (z : NodeWorld). z.openable) c.after)

  pub boots_lengthen : (o : Option Outcome) → WorldBoots e x o y → Lengthens x y
  boots_lengthen None h = stays_down_lengthens h.0
  boots_lengthen (Some outcome.Booted) h = comes_up_lengthens h
  boots_lengthen (Some outcome.Fault) h = stays_down_lengthens h.0
  boots_lengthen (Some (outcome.Refused why)) h = ⊎_elim (λ up. lengthens_same x y up.2) (λ down. stays_down_lengthens down.2) h
  boots_lengthen (Some other) h = absurd h

  pub loses_lengthen : (i : ℕ) (o : Option Outcome) → LosesAt i x o y → Lengthens x y
  loses_lengthen i None h = absurd h
  loses_lengthen i (Some outcome.Lost) h = lengthens_kept x y (ap (λ (z : NodeWorld). z.journal) h.1) (ap (λ (z : NodeWorld). z.other) h.1) (ap (λ (z : NodeWorld). z.openable) h.1)
  loses_lengthen i (Some (outcome.Refused why)) h = lengthens_same x y h.2
  loses_lengthen i (Some other) h = absurd h

  -- ---- a frame

  next_lengthens : (from : Party) (key : Key) (direction number : ℕ) (item : Sent) (o : Outcome) (sent : List Outgoing) → HearsNext e p now from key direction number item x o y sent → Lengthens x y
  next_lengthens from key direction number item (outcome.Took upto) sent h = commits_lengthen _ _ h.1
  next_lengthens from key direction number item outcome.Fault sent h = faults_lengthen _ _ h.0
  next_lengthens from key direction number item (outcome.Refused why) sent h = lengthens_same x y h.2
  next_lengthens from key direction number item other sent h = absurd h

  hears_lengthens : (said : Judged) (o : Outcome) (sent : List Outgoing) → Hears e p now said x o y sent → Lengthens x y
  hears_lengthens judged.Garbled o sent h = absurd h
  hears_lengthens (judged.NotMine to) o sent h = absurd h
  hears_lengthens judged.NoSession o sent h = lengthens_same x y h.1
  hears_lengthens (judged.Early expected) o sent h = lengthens_same x y h.1
  hears_lengthens (judged.Acked key direction upto) o sent h = lengthens_kept x y (ap (λ (z : NodeWorld). z.journal) h.1) (ap (λ (z : NodeWorld). z.other) h.1) (ap (λ (z : NodeWorld). z.openable) h.1)
  hears_lengthens (judged.Again from key direction expected) o sent h = lengthens_same x y h.1
  hears_lengthens (judged.Next from key direction number stamp body) o sent h = next_lengthens from key direction number (record { body = body; stamp = stamp }) o sent h

  pub takes_lengthen : (bytes : List ℕ) (o : Option Outcome) (sent : List Outgoing) → WorldTakes e p now bytes x o y sent → Lengthens x y
  takes_lengthen bytes None sent h = lengthens_same x y h.0
  takes_lengthen bytes (Some o) sent h = hears_lengthens h.0 o sent h.3

-- ---- lists of nodes

-- so at each place
abbrev pub AllLengthen : List NodeWorld → List NodeWorld → Type 0
AllLengthen xs ys = (q : ℕ) (y : NodeWorld) → slice_get ys q ≡ Some y → (x : NodeWorld) × (slice_get xs q ≡ Some x) × Lengthens x y

pub all_same : (xs : List NodeWorld) → AllLengthen xs xs
all_same xs q y at = (y, at, lengthens_same y y refl)

pub all_then : (xs ys zs : List NodeWorld) → AllLengthen xs ys → AllLengthen ys zs → AllLengthen xs zs
all_then xs ys zs f g q z at =
    let y = g q z at in
    let x = f q y.0 y.1 in
    (x.0, x.1, lengthens_then x.0 y.0 z x.2 y.2)

pub all_placed : (xs : List NodeWorld) (p : ℕ) (x y : NodeWorld) → slice_get xs p ≡ Some x → Lengthens x y → AllLengthen xs (slice_set xs p y)
all_placed xs p x y there longer q z at = ⊎_elim
    (λ s. (x, ap (slice_get xs) s.0 ∙ there, subst (λ (k : NodeWorld). Lengthens x k) (sym s.1) longer))
    (λ s. (z, s, lengthens_same z z refl))
    (get_set xs p y q z at)

-- frames that are sent touch no journal
pub all_sent_on : (sent : List Outgoing) (xs : List NodeWorld) → AllLengthen xs (sent_all sent xs)
all_sent_on sent xs q y at =
    let x = (all_grown sent xs).back q y at in
    (x.0, x.1, lengthens_kept x.0 y x.2.journal x.2.other x.2.openable)

-- nor does it that a frame is taken from those that wait
pub over_kept : (waits : Bool) (i : ℕ) (x y : NodeWorld) → Lengthens x y → Lengthens x (handed_over waits i y)
over_kept waits i x y longer =
    let left = handed waits i y in
    lengthens_then x y (handed_over waits i y) longer (lengthens_kept y (handed_over waits i y) left.journal left.other left.openable)
