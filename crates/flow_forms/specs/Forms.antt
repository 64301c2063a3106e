-- What a machine is: how it starts, how each place goes on, and what it may cause. Its frames go on by this.
use Rattle.std.specs.Prelude.{◌≡◌, ℕ, ◌+◌, ◌<◌, ◌≤◌, ◌^◌, List, Bool, true, false}
use Rattle.std.specs.List.{list_all}
use Rattle.net_base.specs.declared.names.Tag.{Tag}
use Rattle.ledger_types.specs.Values.{IsValue}
use Rattle.flow_machine.specs.declared.acts.Act.{Act}
use Rattle.flow_machine.specs.declared.acts.Act.TheVariants as act
use Rattle.flow_machine.specs.declared.acts.Place.{Place}
use Rattle.flow_machine.specs.declared.acts.Resumed.{Resumed}
use Rattle.flow_machine.specs.declared.acts.Resumed.TheVariants as resumed
use Rattle.flow_machine.specs.Limits.{IsAct, IsResumed, IsPlace}
use Rattle.flow_machine.specs.Tags.{value_tags, act_tags, resumed_tags}
use Rattle.flow_machine.specs.Unnamed.{unnamed_code}
use Rattle.flow_forms.specs.declared.calls.Call.{Call}
use Rattle.flow_forms.specs.declared.forms.At.{At}
use Rattle.flow_forms.specs.declared.forms.At.TheVariants as stands
use Rattle.flow_forms.specs.Frames.{Frame}
use Rattle.flow_forms.specs.declared.forms.Goes.{Goes}
use Rattle.flow_forms.specs.declared.forms.Goes.TheVariants as goes
use Rattle.flow_forms.specs.Calls.{IsCall, call_tags, price, is_asking}

-- A machine over its places P and its fields S.
pub record Form (P S : Type 0) : Type 0 where
  -- how a frame with these fields goes on that begins a flow, or is called
  pub starts : S → Place → Goes P S
  -- how a frame goes on that waits at a place, by the result
  pub moves : P → S → Resumed → Place → Goes P S
  -- a bound on what a frame may still cause that waits at a place
  pub weight : P → S → ℕ
  -- the same of a frame that is called, or begins
  pub called : S → ℕ
  -- the tags of the fields
  pub tags : S → List Tag

-- ---- frames

-- a result that the place doesn't name: the frame fails
abbrev pub unnamed : {P S : Type 0} → S → Resumed → Goes P S
unnamed s with = goes.Stops s (unnamed_code with)

-- the frame and the act
abbrev pub frame : {P S : Type 0} → Goes P S → Frame P S × Act Call
frame (goes.On p s a) = (record { at = stands.Asking p; fields = s }, a)
frame (goes.Ends s v) = (record { at = stands.Returning; fields = s }, act.Return v)
frame (goes.Stops s code) = (record { at = stands.Failing; fields = s }, act.Fail code)

-- a called frame starts
abbrev pub started : {P S : Type 0} → Form P S → S → Resumed → Place → Goes P S
started form s resumed.Started here = form.starts s here
started form s other here = unnamed s other

-- how a frame goes on by where it stands
abbrev pub next_at : {P S : Type 0} → Form P S → At P → S → Resumed → Place → Goes P S
next_at form stands.Failing s with here = unnamed s with
next_at form stands.Returning s with here = unnamed s with
next_at form stands.Called s with here = started form s with here
next_at form (stands.Asking p) s with here = form.moves p s with here

-- the weight of a frame by where it stands
abbrev pub weight_at : {P S : Type 0} → Form P S → At P → S → ℕ
weight_at form stands.Failing s = 0
weight_at form stands.Returning s = 0
weight_at form stands.Called s = form.called s
weight_at form (stands.Asking p) s = form.weight p s

-- whether a frame that stands so is over
abbrev pub over_at : {P : Type 0} → At P → Bool
over_at stands.Failing = true
over_at stands.Returning = true
over_at stands.Called = false
over_at (stands.Asking p) = false

-- ---- what a machine owes

-- the weight of the new frame, and the price of its act
abbrev pub total : {P S : Type 0} → Form P S → Goes P S → ℕ
total form (goes.On p s a) = form.weight p s + price a
total form (goes.Ends s v) = 1
total form (goes.Stops s code) = 1

-- a frame that waits at a place doesn't wait on Return or Fail
abbrev pub asks : {P S : Type 0} → Goes P S → Bool
asks (goes.On p s a) = is_asking a
asks (goes.Ends s v) = true
asks (goes.Stops s code) = true

-- the new fields and the act are within their limits
abbrev pub Limited : {P S : Type 0} → (S → Type 0) → Goes P S → Type 0
Limited within (goes.On p s a) = within s × IsAct IsCall a
Limited within (goes.Ends s v) = within s × IsValue v
Limited within (goes.Stops s code) = within s × (code < 2 ^ 16)

-- the tags of the new fields and of the act pass a test
abbrev pub Passes : {P S : Type 0} → (Tag → Bool) → (S → List Tag) → Goes P S → Type 0
Passes test tags (goes.On p s a) = (list_all test (tags s) ≡ true) × (list_all test (act_tags call_tags a) ≡ true)
Passes test tags (goes.Ends s v) = (list_all test (tags s) ≡ true) × (list_all test (value_tags v) ≡ true)
Passes test tags (goes.Stops s code) = list_all test (tags s) ≡ true

-- What a machine owes that goes on from fields s with a result, where it may cause so much.
pub record Owes {P S : Type 0} (form : Form P S) (within : S → Type 0) (most : ℕ) (s : S) (with : Resumed) (here : Place) (g : Goes P S) : Type 0 where
  pub limits : within s → IsResumed with → IsPlace here → Limited within g
  pub tags : (test : Tag → Bool) → list_all test (form.tags s) ≡ true → list_all test (resumed_tags with) ≡ true → Passes test form.tags g
  pub falls : total form g ≤ most
  pub asks : asks g ≡ true

-- What a machine owes in all.
pub record IsForm {P S : Type 0} (within : S → Type 0) (form : Form P S) : Type 0 where
  pub starts : (s : S) (here : Place) → Owes form within (form.called s) s resumed.Started here (form.starts s here)
  pub moves : (p : P) (s : S) (with : Resumed) (here : Place) → Owes form within (form.weight p s) s with here (form.moves p s with here)
