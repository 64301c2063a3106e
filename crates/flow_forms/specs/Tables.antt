-- A table of machines, and what the flows of a table mean.
use Rattle.std.specs.Prelude.{◌≡◌, ℕ, List, [], ◌∷◌, None, Err}
use Rattle.net_base.specs.declared.names.Key.{Key}
use Rattle.flow_machine.specs.declared.acts.Act.{Act}
use Rattle.flow_machine.specs.declared.acts.Place.{Place}
use Rattle.flow_machine.specs.declared.acts.Resumed.{Resumed}
use Rattle.flow_machine.specs.declared.flow_set.WordFault.TheVariants as word
use Rattle.flow_machine.specs.declared.flow_set.MakeFault.TheVariants as make
use Rattle.flow_machine.specs.Acts.{act_with}
use Rattle.flow_machine.specs.Machine.{Machine}
use Rattle.flow_forms.specs.declared.calls.Call.{Call}
use Rattle.flow_forms.specs.declared.forms.Sum.{Sum}
use Rattle.flow_forms.specs.Bytes.{Places, body_of, content_of}
use Rattle.flow_forms.specs.Closing.{made_by, begun_by}
use Rattle.flow_forms.specs.FormLaws.{Way, part_of}
use Rattle.flow_forms.specs.Forms.{Form}
use Rattle.flow_forms.specs.Frames.{Frame}
use Rattle.flow_forms.specs.Parts.{Part}
use Rattle.flow_forms.specs.Sums.{sum}

-- ---- a table

-- A row of a table: a machine over its places P and its fields S.
pub record Row : Type 1 where
  pub P : Type 0
  pub S : Type 0
  -- its number, with which the bytes of its frames begin
  pub number : ℕ
  -- its places, by the byte of each, and the bytes of its fields
  pub places : Places P
  pub text : S → List ℕ
  -- how its frames go on
  pub form : Form P S
  -- the words, the class or the Init with which its flows begin
  pub way : Way S

-- a row of these
abbrev pub row_of : {P S : Type 0} → ℕ → Places P → (S → List ℕ) → Form P S → Way S → Row
row_of {P} {S} number places text form way = record { P = P; S = S; number = number; places = places; text = text; form = form; way = way }

-- what the flows of a row mean
abbrev pub row_part : (r : Row) → Part (Frame r.P r.S)
row_part r = part_of r.form r.way (content_of (λ f. r.number) (body_of r.places r.text))

-- a frame of a table is one of one of its rows
abbrev pub FrameIn : List Row → Type 0
FrameIn [] = ⊥
FrameIn (r ∷ more) = Sum (Frame r.P r.S) (FrameIn more)

-- without a machine nothing begins
abbrev pub no_part : Part ⊥
no_part = record {
  worded = λ class args. Err word.UnknownClass;
  made = λ class args here. Err make.UnknownClass;
  begun = λ class k here. None;
  next = λ f. absurd f;
  content = λ f. absurd f;
  weight = λ f. absurd f;
  over = λ f. absurd f;
  tags = λ f. absurd f;
}

-- What the flows of a table mean: a word, a class or an Init is that of the first row that knows it, and each frame goes on as in its row.
abbrev pub table_part : (t : List Row) → Part (FrameIn t)
table_part [] = no_part
table_part (r ∷ more) = sum (row_part r) (table_part more)

-- ---- the same flows

-- a frame with its act, and the frame seen as another
abbrev pub moved : {F G : Type 0} → (G → F) → G × Act Call → F × Act Call
moved put g = (put g.0, g.1)

-- Two parts have the same flows: the frames of each stand for those of the other, one for one, and they mean the same.
pub record SameFlows {F G : Type 0} (put : G → F) (take : F → G) (one : Part F) (two : Part G) : Type 0 where
  pub taken : (g : G) → take (put g) ≡ g
  pub back : (f : F) → put (take f) ≡ f
  pub worded : (class : List ℕ) (args : List (List ℕ)) → one.worded class args ≡ two.worded class args
  pub made : (class : ℕ) (args : List ℕ) (here : Place) → one.made class args here ≡ made_by (moved put) (two.made class args here)
  pub begun : (class : ℕ) (k : Key) (here : Place) → one.begun class k here ≡ begun_by (moved put) (two.begun class k here)
  pub next : (g : G) (with : Resumed) (here : Place) → one.next (put g) with here ≡ moved put (two.next g with here)
  pub content : (g : G) → one.content (put g) ≡ two.content g
  pub weight : (g : G) → one.weight (put g) ≡ two.weight g
  pub over : (g : G) → one.over (put g) ≡ two.over g
  pub tags : (g : G) → one.tags (put g) ≡ two.tags g

-- a frame with its act, and the frame, and the one that the act calls, seen as others
abbrev pub moved_in : {F G : Type 0} → (G → F) → G × Act G → F × Act F
moved_in put g = (put g.0, act_with put g.1)

-- Two flow sets mean the same: the frames of each stand for those of the other, one for one.
pub record SameSet {F G : Type 0} (put : G → F) (take : F → G) (one : Machine F) (two : Machine G) : Type 0 where
  pub taken : (g : G) → take (put g) ≡ g
  pub back : (f : F) → put (take f) ≡ f
  pub worded : (class : List ℕ) (args : List (List ℕ)) → one.worded class args ≡ two.worded class args
  pub made : (class : ℕ) (args : List ℕ) (here : Place) → one.made class args here ≡ made_by (moved_in put) (two.made class args here)
  pub begun : (class : ℕ) (k : Key) (here : Place) → one.begun class k here ≡ begun_by (moved_in put) (two.begun class k here)
  pub next : (g : G) (with : Resumed) (here : Place) → one.next (put g) with here ≡ moved_in put (two.next g with here)
  pub content : (g : G) → one.content (put g) ≡ two.content g
  pub weight : (g : G) → one.weight (put g) ≡ two.weight g
  pub over : (g : G) → one.over (put g) ≡ two.over g
  pub tags : (g : G) → one.tags (put g) ≡ two.tags g
  pub load : (class : ℕ) → one.load class ≡ two.load class
