-- A flow set of a part and the frames of its calls: the laws of flow sets follow from those of the part.
use Rattle.std.specs.Prelude.{◌≡◌, ℕ, ◌+◌, ◌≤◌, ◌&&◌, List, [], ◌∷◌, length, Bool, true, false, not, refl, Option, Some, None, Result, Ok, Err, IfOk}
use Rattle.std.specs.List.{list_all}
use Rattle.std.proofs.Common.{arith, ap, sym, subst}
use Rattle.net_base.specs.Laws.{LawsIf}
use Rattle.net_base.specs.declared.names.Tag.{Tag}
use Rattle.net_base.specs.Reading.{IsBytes}
use Rattle.net_base.specs.Forms.{bytes16}
use Rattle.net_base.specs.Names.{IsKey}
use Rattle.flow_machine.specs.declared.acts.Act.{Act}
use Rattle.flow_machine.specs.declared.acts.Act.TheVariants as act
use Rattle.flow_machine.specs.declared.acts.Place.{Place}
use Rattle.flow_machine.specs.declared.flow_set.MakeFault.{MakeFault}
use Rattle.flow_machine.specs.Machine.{Machine}
use Rattle.flow_machine.specs.Acts.{act_with}
use Rattle.flow_machine.specs.Limits.{IsAct, IsPlace}
use Rattle.flow_machine.specs.Tags.{act_tags, KeepsTags, BeginsBare, AreBare}
use Rattle.flow_machine.specs.Flows.{cost, Falls, LoadHolds, is_fair, OversHold, is_fail, OverFails, KnownByName, ArgsAreShort, SpellsContent, AreWithin, KeepsLimits}
use Rattle.flow_forms.specs.declared.calls.Call.{Call}
use Rattle.flow_forms.specs.Calls.{IsCall, call_tags, call_weight, price, load_of}
use Rattle.flow_forms.specs.Bytes.{Spells, content_of, content_at, content_laws}
use Rattle.flow_forms.specs.Framed.{framed_at, framed_laws}
use Rattle.flow_forms.specs.Parts.{Part, is_just, BeginsWell, PartLaws}
use Rattle.flow_forms.specs.declared.forms.Sum.{Sum}
use Rattle.flow_forms.specs.declared.forms.Sum.TheVariants as of
use Rattle.flow_forms.specs.Sums.{sum, either}

-- ---- the set

-- a frame and its act, the called frames put in
abbrev pub seen : {F : Type 0} → (Call → F) → F × Act Call → F × Act F
seen see g = (g.0, act_with see g.1)

-- what is made, seen so
abbrev pub made_by : {A B : Type 0} → (A → B) → Result A MakeFault → Result B MakeFault
made_by see (Ok g) = Ok (see g)
made_by see (Err e) = Err e

-- what begins, seen so
abbrev pub begun_by : {A B : Type 0} → (A → B) → Option A → Option B
begun_by see None = None
begun_by see (Some g) = Some (see g)

-- what the flow set means
abbrev pub closed : {F : Type 0} → Part F → (Call → F) → Machine F
closed part see = record {
  worded = part.worded;
  made = λ class args here. made_by (seen see) (part.made class args here);
  begun = λ class k here. begun_by (seen see) (part.begun class k here);
  next = λ f with here. seen see (part.next f with here);
  content = part.content;
  weight = part.weight;
  over = part.over;
  tags = part.tags;
  load = load_of;
}

-- What is asked of the frames of calls.
pub record Opens {F : Type 0} (within : F → Type 0) (part : Part F) (see : Call → F) : Type 0 where
  pub weight : (c : Call) → part.weight (see c) ≤ call_weight c
  pub over : (c : Call) → part.over (see c) ≡ false
  pub tags : (test : Tag → Bool) (c : Call) → list_all test (call_tags c) ≡ true → list_all test (part.tags (see c)) ≡ true
  pub limits : (c : Call) → IsCall c → within (see c)

-- a frame of the first part of a sum for each call
abbrev pub see_first : {A B : Type 0} → (Call → A) → Call → Sum A B
see_first see c = of.First (see c)

-- frames of calls in the first part are frames of calls in the sum
pub opens_first : {A B : Type 0} (wa : A → Type 0) (wb : B → Type 0) (one : Part A) (two : Part B) (see : Call → A) → Opens wa one see → Opens (either wa wb) (sum one two) (see_first see)
opens_first wa wb one two see opens = record { weight = λ c. opens.weight c; over = λ c. opens.over c; tags = λ test c h. opens.tags test c h; limits = λ c h. opens.limits c h }

-- ---- an act with the called frames put in

cost_seen : {F : Type 0} (within : F → Type 0) (part : Part F) (see : Call → F) → Opens within part see → (a : Act Call) → cost (closed part see) (act_with see a) ≤ price a
cost_seen within part see opens (act.Sub c) = omega (arith, opens.weight c)
cost_seen within part see opens other = omega arith

-- what is not over beside what is not over
neither : (a b : Bool) → a ≡ true → b ≡ false → (a && not b) ≡ true
neither true false ha hb = refl
neither true true ha hb = absurd cc
neither false b ha hb = absurd cc

fair_seen : {F : Type 0} (within : F → Type 0) (part : Part F) (see : Call → F) → Opens within part see → (f : F) (a : Act Call) → is_just part.over f a ≡ true → is_fair (closed part see) f (act_with see a) ≡ true
fair_seen within part see opens f (act.Sub c) h = neither (not (part.over f)) (part.over (see c)) h (opens.over c)
fair_seen within part see opens f other h = h

fail_seen : {F : Type 0} (see : Call → F) (a : Act Call) → is_fail a ≡ true → is_fail (act_with see a) ≡ true
fail_seen see (act.Fail code) h = refl
fail_seen see other h = absurd cc

tags_seen : {F : Type 0} (within : F → Type 0) (part : Part F) (see : Call → F) → Opens within part see → (test : Tag → Bool) (a : Act Call) → list_all test (act_tags call_tags a) ≡ true → list_all test (act_tags part.tags (act_with see a)) ≡ true
tags_seen within part see opens test (act.Sub c) h = opens.tags test c h
tags_seen within part see opens test other h = h

limits_seen : {F : Type 0} (within : F → Type 0) (part : Part F) (see : Call → F) → Opens within part see → (a : Act Call) → IsAct IsCall a → IsAct within (act_with see a)
limits_seen within part see opens (act.Sub c) h = opens.limits c h
limits_seen within part see opens other h = h

-- ---- what begins

-- what is seen was made
made_is : {A B : Type 0} (see : A → B) (made : Result A MakeFault) (b : B) → made_by see made ≡ Ok b → (a : A) × ((made ≡ Ok a) × (see a ≡ b))
made_is see (Ok a) b e = (a, (refl, cc))
made_is see (Err x) b e = absurd cc

-- what is seen had begun
begun_is : {A B : Type 0} (see : A → B) (begun : Option A) (b : B) → begun_by see begun ≡ Some b → (a : A) × ((begun ≡ Some a) × (see a ≡ b))
begun_is see (Some a) b e = (a, (refl, cc))
begun_is see None b e = absurd cc

-- tags that pass no test are none
none_pass : (tags : List Tag) → list_all (λ t. false) tags ≡ true → tags ≡ []
none_pass [] h = refl
none_pass (t ∷ tags) h = absurd cc

-- what begins well is within its limits, has no tag, and waits as it should
begins_within : {F : Type 0} (within : F → Type 0) (part : Part F) (see : Call → F) → Opens within part see → (given : Type 0) (here : Place) (g : F × Act Call) → BeginsWell within part given here g → given → IsPlace here → AreWithin within (seen see g)
begins_within within part see opens given here g well x place = let l = well.limits x place in (l.0, limits_seen within part see opens g.1 l.1)

begins_bare_at : {F : Type 0} (within : F → Type 0) (part : Part F) (see : Call → F) → Opens within part see → (given : Type 0) (here : Place) (g : F × Act Call) → BeginsWell within part given here g → AreBare (closed part see) (seen see g)
begins_bare_at within part see opens given here g well =
    let b = well.bare (λ t. false) in
    (none_pass (part.tags g.0) b.0, none_pass (act_tags part.tags (act_with see g.1)) (tags_seen within part see opens (λ t. false) g.1 b.1))

-- what was made holds of what is seen
if_made : {A B : Type 0} (see : A → B) (Q : Type 0) (made : Result A MakeFault) → IfOk made (λ a. Q) → IfOk (made_by see made) (λ b. Q)
if_made see Q (Ok a) h = h
if_made see Q (Err e) h = h

-- ---- the laws of the flow set

pub falls : {F : Type 0} (within : F → Type 0) (part : Part F) (see : Call → F) → PartLaws within part → Opens within part see → Falls (closed part see)
falls within part see laws opens f with here h = omega (arith, laws.falls f with here h, cost_seen within part see opens (part.next f with here).1)

pub load_holds : {F : Type 0} (within : F → Type 0) (part : Part F) (see : Call → F) → PartLaws within part → Opens within part see → LoadHolds (closed part see)
load_holds {F} within part see laws opens class k here begins e =
    let m = begun_is (seen see) (part.begun class k here) begins e in
    subst (λ (g : F × Act F). part.weight g.0 + cost (closed part see) g.1 ≤ load_of class) m.1.1 (omega (arith, laws.load class k here m.0 m.1.0, cost_seen within part see opens m.0.1))

pub overs_hold : {F : Type 0} (within : F → Type 0) (part : Part F) (see : Call → F) → PartLaws within part → Opens within part see → OversHold (closed part see)
overs_hold {F} within part see laws opens = record {
  made = λ class args here begins e.
      let m = made_is (seen see) (part.made class args here) begins e in
      subst (λ (g : F × Act F). is_fair (closed part see) g.0 g.1 ≡ true) m.1.1 (fair_seen within part see opens m.0.0 m.0.1 (laws.made class args here m.0 m.1.0).just);
  begun = λ class k here begins e.
      let m = begun_is (seen see) (part.begun class k here) begins e in
      subst (λ (g : F × Act F). is_fair (closed part see) g.0 g.1 ≡ true) m.1.1 (fair_seen within part see opens m.0.0 m.0.1 (laws.begun class k here m.0 m.1.0).just);
  next = λ f with here. fair_seen within part see opens (part.next f with here).0 (part.next f with here).1 (laws.just f with here);
}

pub over_fails : {F : Type 0} (within : F → Type 0) (part : Part F) (see : Call → F) → PartLaws within part → OverFails (closed part see)
over_fails within part see laws f with here h = let both = laws.fails f with here h in (fail_seen see (part.next f with here).1 both.0, both.1)

pub keeps_tags : {F : Type 0} (within : F → Type 0) (part : Part F) (see : Call → F) → PartLaws within part → Opens within part see → KeepsTags (closed part see)
keeps_tags within part see laws opens test f with here old given = let both = laws.tags test f with here old given in (both.0, tags_seen within part see opens test (part.next f with here).1 both.1)

pub begins_bare : {F : Type 0} (within : F → Type 0) (part : Part F) (see : Call → F) → PartLaws within part → Opens within part see → BeginsBare (closed part see)
begins_bare {F} within part see laws opens = record {
  made = λ class args here begins e.
      let m = made_is (seen see) (part.made class args here) begins e in
      subst (AreBare (closed part see)) m.1.1 (begins_bare_at within part see opens (IsBytes args) here m.0 (laws.made class args here m.0 m.1.0));
  begun = λ class k here begins e.
      let m = begun_is (seen see) (part.begun class k here) begins e in
      subst (AreBare (closed part see)) m.1.1 (begins_bare_at within part see opens (IsKey k) here m.0 (laws.begun class k here m.0 m.1.0));
}

pub keeps_limits : {F : Type 0} (within : F → Type 0) (part : Part F) (see : Call → F) → PartLaws within part → Opens within part see → KeepsLimits within (closed part see)
keeps_limits {F} within part see laws opens = record {
  made = λ class args here begins bytes place e.
      let m = made_is (seen see) (part.made class args here) begins e in
      subst (AreWithin within) m.1.1 (begins_within within part see opens (IsBytes args) here m.0 (laws.made class args here m.0 m.1.0) bytes place);
  begun = λ class k here begins is place e.
      let m = begun_is (seen see) (part.begun class k here) begins e in
      subst (AreWithin within) m.1.1 (begins_within within part see opens (IsKey k) here m.0 (laws.begun class k here m.0 m.1.0) is place);
  next = λ f with here h small place. let l = laws.limits f with here h small place in (l.0, limits_seen within part see opens (part.next f with here).1 l.1);
}

pub args_are_short : {F : Type 0} (within : F → Type 0) (part : Part F) (see : Call → F) → PartLaws within part → ArgsAreShort (closed part see)
args_are_short within part see laws = record { worded = laws.few_words; made = λ class args here. if_made (seen see) (length args ≤ 65535) (part.made class args here) (laws.few_args class args here) }

pub known_by_name : {F : Type 0} (within : F → Type 0) (part : Part F) (see : Call → F) → PartLaws within part → KnownByName (closed part see)
known_by_name within part see laws class args more e = laws.named class args more e

pub spells_content : {F : Type 0} {within : F → Type 0} {part : Part F} {kind : F → ℕ} {body : F → List ℕ} (see : Call → F) → PartLaws within part → ((f : F) → part.content f ≡ content_of kind body f) → SpellsContent within (λ f. bytes16 (content_of kind body f)) (closed part see)
spells_content see laws contents = record { framed = λ f h. ap (λ (l : List ℕ). bytes16 l) (sym (contents f)); short = laws.short }

-- a frame is read again from its length and its own bytes
pub closed_laws : {F : Type 0} {within : F → Type 0} {part : Part F} {kinds : List ℕ} {kind : F → ℕ} {body : F → List ℕ} {read : ℕ → List ℕ → Result (F × List ℕ) ℕ} → PartLaws within part → ((f : F) → part.content f ≡ content_of kind body f) → Spells within kinds kind body read
    → LawsIf ⊥ within (λ f. bytes16 (content_of kind body f)) (framed_at (content_at kinds read))
closed_laws laws contents spells = framed_laws (λ f h. subst (λ (l : List ℕ). length l ≤ 32768) (contents f) (laws.short f h)) (content_laws spells)
