-- Frames for calls, in four parts: one for each kind of call that the machines make, and one that stands for a call that none makes.
use Rattle.std.specs.Prelude.{◌≡◌, ℕ, ◌≤◌, List, Bool, true, false, refl}
use Rattle.std.specs.List.{list_all}
use Rattle.net_base.specs.declared.names.Key.{Key}
use Rattle.net_base.specs.declared.names.Tag.{Tag}
use Rattle.net_base.specs.declared.values.Party.{Party}
use Rattle.ledger_types.specs.declared.notary.Request.{Request}
use Rattle.ledger_types.specs.declared.tx.SignedTx.{SignedTx}
use Rattle.ledger_types.specs.declared.tx.Tx.{Tx}
use Rattle.flow_forms.specs.declared.calls.Call.{Call}
use Rattle.flow_forms.specs.declared.calls.Call.TheVariants as call
use Rattle.flow_forms.specs.declared.forms.At.TheVariants as stands
use Rattle.flow_forms.specs.declared.forms.Sum.{Sum}
use Rattle.flow_forms.specs.declared.forms.Sum.TheVariants as of
use Rattle.flow_forms.specs.Bytes.{Places, IsAt, IsFrame}
use Rattle.flow_forms.specs.Calls.{IsCall, call_tags, call_weight}
use Rattle.flow_forms.specs.Closing.{Opens}
use Rattle.flow_forms.specs.Forms.{Form, weight_at, over_at}
use Rattle.flow_forms.specs.Frames.{Frame}
use Rattle.flow_forms.specs.Parts.{Part}
use Rattle.flow_forms.specs.Sums.{sum, either}

-- ---- the frame of a call

-- the frame of each call, of what it is called with: A's stands for a call that no machine makes
abbrev pub see_by : {A B C D : Type 0} → A → (Request → B) → (Key → SignedTx → C) → (Tx → List Party → D) → Call → Sum A (Sum B (Sum C D))
see_by none client resolve finality (call.Client request) = of.Second (of.First (client request))
see_by none client resolve finality (call.Resolve key stx) = of.Second (of.Second (of.First (resolve key stx)))
see_by none client resolve finality (call.Finality tx peers) = of.Second (of.Second (of.Second (finality tx peers)))
see_by none client resolve finality (call.Give key coins) = of.First none
see_by none client resolve finality (call.Take key) = of.First none

-- What is asked of the frame of one call, by the limits, the weight and the tags of frames, and by which of them are over.
pub record OpensBy {F : Type 0} (within : F → Type 0) (weight : F → ℕ) (over : F → Bool) (tags : F → List Tag) (c : Call) (f : F) : Type 0 where
  pub costs : weight f ≤ call_weight c
  pub goes : over f ≡ false
  pub passes : (test : Tag → Bool) → list_all test (call_tags c) ≡ true → list_all test (tags f) ≡ true
  pub limits : IsCall c → within f

-- the same in a part
abbrev pub OpensAt : {F : Type 0} → (F → Type 0) → Part F → Call → F → Type 0
OpensAt within part c f = OpensBy within part.weight part.over part.tags c f

-- the same of a machine's frames
abbrev pub OpensOf : {P S : Type 0} → Places P → (S → Type 0) → Form P S → Call → Frame P S → Type 0
OpensOf {P} {S} places within form c f = OpensBy (IsFrame places within) (λ (g : Frame P S). weight_at form g.at g.fields) (λ (g : Frame P S). over_at g.at) (λ (g : Frame P S). form.tags g.fields) c f

-- ---- its laws

-- a frame that a call calls, of a machine with these fields
pub called_opens : {P S : Type 0} (places : Places P) (within : S → Type 0) (form : Form P S) (c : Call) (s : S) → IsAt places stands.Called → form.called s ≤ call_weight c
    → ((test : Tag → Bool) → list_all test (call_tags c) ≡ true → list_all test (form.tags s) ≡ true) → (IsCall c → within s) → OpensOf places within form c (record { at = stands.Called; fields = s })
called_opens places within form c s is costs passes limits = record { costs = costs; goes = refl; passes = passes; limits = λ h. (is, limits h) }

-- a frame in the second of two parts
in_second : {A B : Type 0} (wa : A → Type 0) (wb : B → Type 0) (one : Part A) (two : Part B) (c : Call) (f : B) → OpensAt wb two c f → OpensAt (either wa wb) (sum one two) c (of.Second f)
in_second wa wb one two c f opens = record { costs = opens.costs; goes = opens.goes; passes = opens.passes; limits = opens.limits }

-- a frame in the first of two parts
in_first : {A B : Type 0} (wa : A → Type 0) (wb : B → Type 0) (one : Part A) (two : Part B) (c : Call) (f : A) → OpensAt wa one c f → OpensAt (either wa wb) (sum one two) c (of.First f)
in_first wa wb one two c f opens = record { costs = opens.costs; goes = opens.goes; passes = opens.passes; limits = opens.limits }

-- the frames of all calls, of the frames of each kind
pub opens_by : {A B C D : Type 0} (wa : A → Type 0) (wb : B → Type 0) (wc : C → Type 0) (wd : D → Type 0) (pa : Part A) (pb : Part B) (pc : Part C) (pd : Part D)
    (none : A) (client : Request → B) (resolve : Key → SignedTx → C) (finality : Tx → List Party → D)
    → ((c : Call) → OpensAt wa pa c none) → ((r : Request) → OpensAt wb pb (call.Client r) (client r)) → ((k : Key) (stx : SignedTx) → OpensAt wc pc (call.Resolve k stx) (resolve k stx))
    → ((tx : Tx) (peers : List Party) → OpensAt wd pd (call.Finality tx peers) (finality tx peers))
    → Opens (either wa (either wb (either wc wd))) (sum pa (sum pb (sum pc pd))) (see_by none client resolve finality)
opens_by {A} {B} {C} {D} wa wb wc wd pa pb pc pd none client resolve finality a b c d =
    let at : (x : Call) → OpensAt (either wa (either wb (either wc wd))) (sum pa (sum pb (sum pc pd))) x (see_by none client resolve finality x) = elim [
      | call.Client r ↦ in_second wa (either wb (either wc wd)) pa (sum pb (sum pc pd)) (call.Client r) (of.First (client r)) (in_first wb (either wc wd) pb (sum pc pd) (call.Client r) (client r) (b r))
      | call.Resolve k stx ↦ in_second wa (either wb (either wc wd)) pa (sum pb (sum pc pd)) (call.Resolve k stx) (of.Second (of.First (resolve k stx))) (in_second wb (either wc wd) pb (sum pc pd) (call.Resolve k stx) (of.First (resolve k stx)) (in_first wc wd pc pd (call.Resolve k stx) (resolve k stx) (c k stx)))
      | call.Finality tx peers ↦ in_second wa (either wb (either wc wd)) pa (sum pb (sum pc pd)) (call.Finality tx peers) (of.Second (of.Second (finality tx peers))) (in_second wb (either wc wd) pb (sum pc pd) (call.Finality tx peers) (of.Second (finality tx peers)) (in_second wc wd pc pd (call.Finality tx peers) (finality tx peers) (d tx peers)))
      | call.Give k coins ↦ in_first wa (either wb (either wc wd)) pa (sum pb (sum pc pd)) (call.Give k coins) none (a (call.Give k coins))
      | call.Take k ↦ in_first wa (either wb (either wc wd)) pa (sum pb (sum pc pd)) (call.Take k) none (a (call.Take k))
    ] in
    record { weight = λ x. (at x).costs; over = λ x. (at x).goes; tags = λ test x h. (at x).passes test h; limits = λ x h. (at x).limits h }
