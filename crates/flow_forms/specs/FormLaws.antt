-- The laws of a machine's frames as a part of a flow set, once for all machines.
use Rattle.std.specs.Prelude.{◌≡◌, ℕ, ◌≤◌, List, [], ◌∷◌, length, Bool, true, false, refl, Option, Some, None, Result, Ok, Err, IfOk}
use Rattle.std.specs.List.{list_all}
use Rattle.std.proofs.Common.{arith, ap, subst}
use Rattle.net_base.specs.declared.names.Key.{Key}
use Rattle.net_base.specs.declared.names.Tag.{Tag}
use Rattle.net_base.specs.Reading.{IsBytes}
use Rattle.net_base.specs.Names.{IsKey}
use Rattle.flow_machine.specs.declared.acts.Act.{Act}
use Rattle.flow_machine.specs.declared.acts.Act.TheVariants as act
use Rattle.flow_machine.specs.declared.acts.Place.{Place}
use Rattle.flow_machine.specs.declared.acts.Resumed.{Resumed}
use Rattle.flow_machine.specs.declared.acts.Resumed.TheVariants as resumed
use Rattle.flow_machine.specs.declared.flow_set.WordFault.{WordFault}
use Rattle.flow_machine.specs.declared.flow_set.WordFault.TheVariants as word
use Rattle.flow_machine.specs.declared.flow_set.MakeFault.{MakeFault}
use Rattle.flow_machine.specs.declared.flow_set.MakeFault.TheVariants as make
use Rattle.std.proofs.lemmas.Bool.{eq-eqb}
use Rattle.flow_machine.specs.Flows.{is_fail}
use Rattle.flow_machine.specs.Limits.{IsPlace}
use Rattle.flow_machine.specs.Unnamed.{code_small}
use Rattle.flow_forms.specs.declared.calls.Call.{Call}
use Rattle.flow_forms.specs.declared.forms.At.{At}
use Rattle.flow_forms.specs.declared.forms.At.TheVariants as stands
use Rattle.flow_forms.specs.Frames.{Frame}
use Rattle.flow_forms.specs.declared.forms.Goes.{Goes}
use Rattle.flow_forms.specs.declared.forms.Goes.TheVariants as goes
use Rattle.flow_forms.specs.Calls.{price, load_of, is_asking}
use Rattle.flow_forms.specs.Forms.{Form, frame, unnamed, started, next_at, weight_at, over_at, total, asks, Limited, Passes, Owes, IsForm}
use Rattle.net_base.specs.Laws.{LawsIf}
use Rattle.flow_forms.specs.Bytes.{Places, ArePlaces, IsFrame, Spells, machine_spells, body_of, body_at, content_of}
use Rattle.flow_forms.specs.Parts.{Part, causes, is_just, AreLimited, BothPass, BeginsWell, PartLaws}

-- ---- how flows of a machine begin

-- The words and the classes that begin a flow of a machine, and its fields then.
pub record Way (S : Type 0) : Type 0 where
  pub worded : List ℕ → List (List ℕ) → Result (ℕ × List ℕ) WordFault
  pub made : ℕ → List ℕ → Place → Result S MakeFault
  pub begun : ℕ → Key → Option S

-- What is asked of them.
pub record IsWay {P S : Type 0} (within : S → Type 0) (form : Form P S) (way : Way S) : Type 0 where
  pub made : (class : ℕ) (args : List ℕ) (here : Place) (s : S) → way.made class args here ≡ Ok s → (IsBytes args → IsPlace here → within s) × ((form.tags s ≡ []) × (length args ≤ 65535))
  pub begun : (class : ℕ) (k : Key) (s : S) → way.begun class k ≡ Some s → (IsKey k → within s) × ((form.tags s ≡ []) × (form.called s ≤ load_of class))
  pub few_words : (class : List ℕ) (args : List (List ℕ)) → IfOk (way.worded class args) (λ words. length words.1 ≤ 65535)
  pub named : (class : List ℕ) (args more : List (List ℕ)) → way.worded class args ≡ Err word.UnknownClass → way.worded class more ≡ Err word.UnknownClass

-- a machine that is only called
abbrev pub no_way : {S : Type 0} → Way S
no_way = record { worded = λ class args. Err word.UnknownClass; made = λ class args here. Err make.UnknownClass; begun = λ class k. None }

pub no_way_laws : {P S : Type 0} (within : S → Type 0) (form : Form P S) → IsWay within form no_way
no_way_laws within form = record { made = λ class args here s e. absurd cc; begun = λ class k s e. absurd cc; few_words = λ class args. tt; named = λ class args more e. refl }

-- ---- the part

-- a flow that is made starts
abbrev pub made_from : {P S : Type 0} → Form P S → Place → Result S MakeFault → Result (Frame P S × Act Call) MakeFault
made_from form here (Ok s) = Ok (frame (form.starts s here))
made_from form here (Err e) = Err e

-- a flow that answers starts
abbrev pub begun_from : {P S : Type 0} → Form P S → Place → Option S → Option (Frame P S × Act Call)
begun_from form here None = None
begun_from form here (Some s) = Some (frame (form.starts s here))

-- what a machine's flows mean
abbrev pub part_of : {P S : Type 0} → Form P S → Way S → (Frame P S → List ℕ) → Part (Frame P S)
part_of form way content = record {
  worded = way.worded;
  made = λ class args here. made_from form here (way.made class args here);
  begun = λ class k here. begun_from form here (way.begun class k);
  next = λ f with here. frame (next_at form f.at f.fields with here);
  content = content;
  weight = λ f. weight_at form f.at f.fields;
  over = λ f. over_at f.at;
  tags = λ f. form.tags f.fields;
}

-- ---- a frame that fails

-- an unnamed result
pub unnamed_owes : {P S : Type 0} (form : Form P S) (within : S → Type 0) (most : ℕ) (s : S) (with : Resumed) (here : Place) → 1 ≤ most → Owes form within most s with here (unnamed s with)
unnamed_owes form within most s with here some = record { limits = λ h small place. (h, code_small with small); tags = λ test old given. old; falls = some; asks = refl }

-- any act costs something
price_some : (a : Act Call) → 1 ≤ price a
price_some (act.Return v) = omega arith
price_some other = omega arith

-- so does how a machine goes on
total_some : {P S : Type 0} (form : Form P S) (g : Goes P S) → 1 ≤ total form g
total_some form (goes.On p s a) = omega (arith, price_some a)
total_some form (goes.Ends s v) = omega arith
total_some form (goes.Stops s code) = omega arith

-- ---- a frame and its act, by how the machine goes on

causes_frame : {P S : Type 0} (form : Form P S) (g : Goes P S) → causes (λ (f : Frame P S). weight_at form f.at f.fields) (frame g) ≤ total form g
causes_frame form (goes.On p s a) = omega arith
causes_frame form (goes.Ends s v) = omega arith
causes_frame form (goes.Stops s code) = omega arith

act_just : {P S : Type 0} (p : P) (s : S) (a : Act Call) → is_asking a ≡ true → is_just (λ (f : Frame P S). over_at f.at) (record { at = stands.Asking p; fields = s }) a ≡ true
act_just p s (act.Return v) h = absurd cc
act_just p s (act.Fail code) h = absurd cc
act_just p s other h = refl

just_frame : {P S : Type 0} (g : Goes P S) → asks g ≡ true → is_just (λ (f : Frame P S). over_at f.at) (frame g).0 (frame g).1 ≡ true
just_frame (goes.On p s a) h = act_just p s a h
just_frame (goes.Ends s v) h = refl
just_frame (goes.Stops s code) h = refl

limits_frame : {P S : Type 0} (places : Places P) → ArePlaces places → (within : S → Type 0) (g : Goes P S) → Limited within g → AreLimited (IsFrame places within) (frame g)
limits_frame places are within (goes.On p s a) h = ((are.asking p, h.0), h.1)
limits_frame places are within (goes.Ends s v) h = ((are.returning, h.0), h.1)
limits_frame places are within (goes.Stops s code) h = ((refl, h.0), h.1)

tags_frame : {P S : Type 0} (test : Tag → Bool) (tags : S → List Tag) (g : Goes P S) → Passes test tags g → BothPass test (λ (f : Frame P S). tags f.fields) (frame g)
tags_frame test tags (goes.On p s a) h = h
tags_frame test tags (goes.Ends s v) h = h
tags_frame test tags (goes.Stops s code) h = (h, refl)

-- ---- frames that go on

-- what a frame may cause, and 1 of one that is over
abbrev most_at : {P S : Type 0} → Form P S → At P → S → ℕ
most_at form stands.Failing s = 1
most_at form stands.Returning s = 1
most_at form stands.Called s = form.called s
most_at form (stands.Asking p) s = form.weight p s

most_is : {P S : Type 0} (form : Form P S) (a : At P) (s : S) → over_at a ≡ false → most_at form a s ≡ weight_at form a s
most_is form stands.Failing s h = absurd cc
most_is form stands.Returning s h = absurd cc
most_is form stands.Called s h = refl
most_is form (stands.Asking p) s h = refl

started_owes : {P S : Type 0} (within : S → Type 0) (form : Form P S) → IsForm within form → (s : S) (with : Resumed) (here : Place) → Owes form within (form.called s) s with here (started form s with here)
started_owes within form laws s resumed.Started here = laws.starts s here
started_owes within form laws s other here = unnamed_owes form within (form.called s) s other here (omega (arith, (laws.starts s here).falls, total_some form (form.starts s here)))

owes_at : {P S : Type 0} (within : S → Type 0) (form : Form P S) → IsForm within form → (a : At P) (s : S) (with : Resumed) (here : Place) → Owes form within (most_at form a s) s with here (next_at form a s with here)
owes_at within form laws stands.Failing s with here = unnamed_owes form within 1 s with here (omega arith)
owes_at within form laws stands.Returning s with here = unnamed_owes form within 1 s with here (omega arith)
owes_at within form laws stands.Called s with here = started_owes within form laws s with here
owes_at within form laws (stands.Asking p) s with here = laws.moves p s with here

fails_at : {P S : Type 0} (form : Form P S) (a : At P) (s : S) (with : Resumed) (here : Place) → over_at a ≡ true → (is_fail (frame (next_at form a s with here)).1 ≡ true) × (over_at (frame (next_at form a s with here)).0.at ≡ true)
fails_at form stands.Failing s with here h = (refl, refl)
fails_at form stands.Returning s with here h = (refl, refl)
fails_at form stands.Called s with here h = absurd cc
fails_at form (stands.Asking p) s with here h = absurd cc

-- ---- flows that begin

-- without tags any test is passed
all_pass : (test : Tag → Bool) (tags : List Tag) → tags ≡ [] → list_all test tags ≡ true
all_pass test tags none = ap (list_all test) none

-- what a machine starts with begins well
starts_well : {P S : Type 0} (places : Places P) → ArePlaces places → (within : S → Type 0) (form : Form P S) (way : Way S) (content : Frame P S → List ℕ) → IsForm within form → (s : S) (given : Type 0) (here : Place) → (given → IsPlace here → within s) → form.tags s ≡ [] → BeginsWell (IsFrame places within) (part_of form way content) given here (frame (form.starts s here))
starts_well places are within form way content laws s given here h none =
    let owed = laws.starts s here in
    record {
      limits = λ x place. limits_frame places are within (form.starts s here) (owed.limits (h x place) tt place);
      bare = λ test. tags_frame test form.tags (form.starts s here) (owed.tags test (all_pass test (form.tags s) none) refl);
      just = just_frame (form.starts s here) owed.asks;
    }

-- what was made, was made of fields
made_is : {P S : Type 0} (form : Form P S) (here : Place) (made : Result S MakeFault) (g : Frame P S × Act Call) → made_from form here made ≡ Ok g → (s : S) × ((made ≡ Ok s) × (frame (form.starts s here) ≡ g))
made_is form here (Ok s) g e = (s, (refl, cc))
made_is form here (Err x) g e = absurd cc

-- so was what answered
begun_is : {P S : Type 0} (form : Form P S) (here : Place) (begun : Option S) (g : Frame P S × Act Call) → begun_from form here begun ≡ Some g → (s : S) × ((begun ≡ Some s) × (frame (form.starts s here) ≡ g))
begun_is form here (Some s) g e = (s, (refl, cc))
begun_is form here None g e = absurd cc

-- arguments of which something is made are few
few_made : {P S : Type 0} (form : Form P S) (here : Place) (args : List ℕ) (made : Result S MakeFault) → ((s : S) → made ≡ Ok s → length args ≤ 65535) → IfOk (made_from form here made) (λ g. length args ≤ 65535)
few_made form here args (Ok s) h = h s refl
few_made form here args (Err e) h = tt

-- ---- the laws

-- the laws of a machine's flows as a part of a flow set
pub form_laws : {P S : Type 0} (places : Places P) → ArePlaces places → (within : S → Type 0) (form : Form P S) (way : Way S) (content : Frame P S → List ℕ) → IsForm within form → IsWay within form way
    → ((f : Frame P S) → IsFrame places within f → length (content f) ≤ 32768) → PartLaws (IsFrame places within) (part_of form way content)
form_laws {P} {S} places are within form way content laws begins short = record {
  made = λ class args here g e.
      let m = made_is form here (way.made class args here) g e in
      let b = begins.made class args here m.0 m.1.0 in
      subst (λ (x : Frame P S × Act Call). BeginsWell (IsFrame places within) (part_of form way content) (IsBytes args) here x) m.1.1 (starts_well places are within form way content laws m.0 (IsBytes args) here b.0 b.1.0);
  begun = λ class k here g e.
      let m = begun_is form here (way.begun class k) g e in
      let b = begins.begun class k m.0 m.1.0 in
      subst (λ (x : Frame P S × Act Call). BeginsWell (IsFrame places within) (part_of form way content) (IsKey k) here x) m.1.1 (starts_well places are within form way content laws m.0 (IsKey k) here (λ is place. b.0 is) b.1.0);
  load = λ class k here g e.
      let m = begun_is form here (way.begun class k) g e in
      let b = begins.begun class k m.0 m.1.0 in
      subst (λ (x : Frame P S × Act Call). causes (λ (f : Frame P S). weight_at form f.at f.fields) x ≤ load_of class) m.1.1 (omega (arith, causes_frame form (form.starts m.0 here), (laws.starts m.0 here).falls, b.1.1));
  falls = λ f with here h. let owed = owes_at within form laws f.at f.fields with here in omega (arith, causes_frame form (next_at form f.at f.fields with here), owed.falls, most_is form f.at f.fields h);
  just = λ f with here. just_frame (next_at form f.at f.fields with here) (owes_at within form laws f.at f.fields with here).asks;
  fails = λ f with here h. fails_at form f.at f.fields with here h;
  tags = λ test f with here old given. tags_frame test form.tags (next_at form f.at f.fields with here) ((owes_at within form laws f.at f.fields with here).tags test old given);
  limits = λ f with here h small place. limits_frame places are within (next_at form f.at f.fields with here) ((owes_at within form laws f.at f.fields with here).limits h.1 small place);
  short = short;
  few_words = begins.few_words;
  few_args = λ class args here. few_made form here args (way.made class args here) (λ s e. (begins.made class args here s e).1.1);
  named = begins.named;
}

-- the same of frames that are spelt by the machine's number, the place and the fields
pub frame_laws : {P S : Type 0} (places : Places P) → ArePlaces places → (within : S → Type 0) (form : Form P S) (way : Way S) (machine : ℕ) (text : S → List ℕ) → IsForm within form → IsWay within form way → ((s : S) → within s → length (text s) ≤ 32766)
    → PartLaws (IsFrame places within) (part_of form way (content_of (λ f. machine) (body_of places text)))
frame_laws places are within form way machine text laws begins short = form_laws places are within form way (content_of (λ f. machine) (body_of places text)) laws begins (λ f h. omega (arith, short f.fields h.1))

-- and of their bytes
pub frame_spells : {P S : Type 0} {within : S → Type 0} {text : S → List ℕ} {read : List ℕ → Result (S × List ℕ) ℕ} {exact : Type 0} (machine : ℕ) (places : Places P) → LawsIf exact within text read
    → Spells (IsFrame places within) (machine ∷ []) (λ (f : Frame P S). machine) (body_of places text) (λ k bytes. body_at places read bytes)
frame_spells machine places fields = machine_spells machine places (eq-eqb machine machine refl) fields
