-- How flows begin and go on: what the calls of a flow set answer, and the laws of every flow set.
use Rattle.std.specs.Prelude.{◌≡◌, ℕ, ◌+◌, ◌≤◌, ◌&&◌, not, Bool, true, false, List, length, Option, Some, None, Result, Ok, Err, IfOk, ⊤}
use Rattle.net_base.specs.declared.names.Key.{Key}
use Rattle.net_base.specs.Reading.{IsBytes}
use Rattle.net_base.specs.Forms.{bytes16}
use Rattle.net_base.specs.Names.{IsKey}
use Rattle.flow_machine.specs.declared.acts.Act.{Act}
use Rattle.flow_machine.specs.declared.acts.Act.TheVariants as act
use Rattle.flow_machine.specs.declared.acts.Place.{Place}
use Rattle.flow_machine.specs.declared.acts.Resumed.{Resumed}
use Rattle.flow_machine.specs.declared.flow_set.WordFault.{WordFault}
use Rattle.flow_machine.specs.declared.flow_set.WordFault.TheVariants as word
use Rattle.flow_machine.specs.declared.flow_set.MakeFault.{MakeFault}
use Rattle.flow_machine.specs.declared.flow_set.MakeFault.TheVariants as make
use Rattle.flow_machine.specs.Machine.{Machine}
use Rattle.flow_machine.specs.Limits.{IsAct, IsResumed, IsPlace}

-- ---- answers

-- words give what is meant, or there is no memory
abbrev pub GivesWords : {X : Type 0} → Result X WordFault → Result X WordFault → Type 0
GivesWords (Ok x) meant = meant ≡ Ok x
GivesWords (Err word.UnknownClass) meant = meant ≡ Err word.UnknownClass
GivesWords (Err word.BadArgs) meant = meant ≡ Err word.BadArgs
GivesWords (Err word.Memory) meant = ⊤

-- a flow begins as is meant, or there is no memory
abbrev pub GivesMade : {X : Type 0} → Result X MakeFault → Result X MakeFault → Type 0
GivesMade (Ok x) meant = meant ≡ Ok x
GivesMade (Err make.UnknownClass) meant = meant ≡ Err make.UnknownClass
GivesMade (Err make.BadArgs) meant = meant ≡ Err make.BadArgs
GivesMade (Err make.Memory) meant = ⊤

-- a flow that answers begins as is meant, its class isn't known, or there is no memory
abbrev pub GivesBegun : {X : Type 0} → Result X MakeFault → Option X → Type 0
GivesBegun (Ok x) meant = meant ≡ Some x
GivesBegun (Err make.UnknownClass) meant = meant ≡ None
GivesBegun (Err make.BadArgs) meant = ⊥
GivesBegun (Err make.Memory) meant = ⊤

-- ---- the weight falls

-- what an act may cause at its node and elsewhere
abbrev pub cost : {F : Type 0} → Machine F → Act F → ℕ
cost m (act.Open to class first) = m.load class + 6
cost m (act.Send key value) = 2
cost m (act.Sub frame) = m.weight frame + 1
cost m other = 1

-- from a frame that isn't over the weight falls by at least the cost of the new act
abbrev pub Falls : {F : Type 0} → Machine F → Type 0
Falls {F} m = (frame : F) (with : Resumed) (at : Place) → m.over frame ≡ false → m.weight (m.next frame with at).0 + cost m (m.next frame with at).1 ≤ m.weight frame

-- a flow that answers an Init takes no more than what its class's Init may cause
abbrev pub LoadHolds : {F : Type 0} → Machine F → Type 0
LoadHolds {F} m = (class : ℕ) (key : Key) (at : Place) (begins : F × Act F) → m.begun class key at ≡ Some begins → m.weight begins.0 + cost m begins.1 ≤ m.load class

-- ---- frames that are over

-- the frame is over exactly where the act is Return or Fail, and a frame that a Sub carries isn't
abbrev pub is_fair : {F : Type 0} → Machine F → F → Act F → Bool
is_fair m frame (act.Return value) = m.over frame
is_fair m frame (act.Fail code) = m.over frame
is_fair m frame (act.Sub child) = not (m.over frame) && not (m.over child)
is_fair m frame other = not (m.over frame)

-- so are the frames and acts that are made, begun or gone on to
pub record OversHold {F : Type 0} (m : Machine F) : Type 0 where
  pub made : (class : ℕ) (args : List ℕ) (at : Place) (begins : F × Act F) → m.made class args at ≡ Ok begins → is_fair m begins.0 begins.1 ≡ true
  pub begun : (class : ℕ) (key : Key) (at : Place) (begins : F × Act F) → m.begun class key at ≡ Some begins → is_fair m begins.0 begins.1 ≡ true
  pub next : (frame : F) (with : Resumed) (at : Place) → is_fair m (m.next frame with at).0 (m.next frame with at).1 ≡ true

-- whether the act is a Fail
abbrev pub is_fail : {F : Type 0} → Act F → Bool
is_fail (act.Fail code) = true
is_fail other = false

-- a frame that is over goes on to a Fail, and is over then too
abbrev pub OverFails : {F : Type 0} → Machine F → Type 0
OverFails {F} m = (frame : F) (with : Resumed) (at : Place) → m.over frame ≡ true → (is_fail (m.next frame with at).1 ≡ true) × (m.over (m.next frame with at).0 ≡ true)

-- ---- words

-- whether a class is unknown is told by its name, whatever the arguments are
abbrev pub KnownByName : {F : Type 0} → Machine F → Type 0
KnownByName m = (class : List ℕ) (args more : List (List ℕ)) → m.worded class args ≡ Err word.UnknownClass → m.worded class more ≡ Err word.UnknownClass

-- ---- bytes and limits

-- words give at most 65,535 bytes of arguments, and a flow is made of no more
pub record ArgsAreShort {F : Type 0} (m : Machine F) : Type 0 where
  pub worded : (class : List ℕ) (args : List (List ℕ)) → IfOk (m.worded class args) (λ words. length words.1 ≤ 65535)
  pub made : (class : ℕ) (args : List ℕ) (at : Place) → IfOk (m.made class args at) (λ begun. length args ≤ 65535)

-- a frame is spelt by two bytes of length and its own bytes, of which there are at most 32,768
pub record SpellsContent {F : Type 0} (within : F → Type 0) (spelling : F → List ℕ) (m : Machine F) : Type 0 where
  pub framed : (frame : F) → within frame → spelling frame ≡ bytes16 (m.content frame)
  pub short : (frame : F) → within frame → length (m.content frame) ≤ 32768

-- the frame and the act are within their limits
abbrev pub AreWithin : {F : Type 0} → (F → Type 0) → F × Act F → Type 0
AreWithin within begins = within begins.0 × IsAct within begins.1

-- what is within its limits makes, begins and goes on to what is within its limits
pub record KeepsLimits {F : Type 0} (within : F → Type 0) (m : Machine F) : Type 0 where
  pub made : (class : ℕ) (args : List ℕ) (at : Place) (begins : F × Act F) → IsBytes args → IsPlace at → m.made class args at ≡ Ok begins → AreWithin within begins
  pub begun : (class : ℕ) (key : Key) (at : Place) (begins : F × Act F) → IsKey key → IsPlace at → m.begun class key at ≡ Some begins → AreWithin within begins
  pub next : (frame : F) (with : Resumed) (at : Place) → within frame → IsResumed with → IsPlace at → AreWithin within (m.next frame with at)
