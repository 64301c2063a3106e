-- The options of a payment in the words' own order: what is taken is exactly `from T`, `until T` and `using ID INDEX`, each there or not.
use Rattle.std.specs.Prelude.{◌≡◌, ◌↔◌, ℕ, List, [], ◌∷◌, ◌++◌, codes, Option, Some, None, IfSome}
use Rattle.net_base.specs.declared.values.Moment.{Moment}
use Rattle.net_base.specs.declared.names.StateRef.{StateRef}
use Rattle.cash_flows.specs.declared.options.PayOptions.{PayOptions}
use Rattle.flow_txs.specs.Words.{reference_of}
use Rattle.cash_flows.specs.Words.{moment_of}
use Rattle.cash_flows.specs.Options.{window_between, options_of}

-- the words of a moment that may lack, behind their name
abbrev pub timed : List ℕ → Option (List ℕ × Moment) → List (List ℕ)
timed name None = []
timed name (Some t) = name ∷ t.0 ∷ []

-- the words of a reference that may lack
abbrev pub referred : Option ((List ℕ × List ℕ) × StateRef) → List (List ℕ)
referred None = []
referred (Some r) = codes "using" ∷ r.0.0 ∷ r.0.1 ∷ []

-- what was read, without its words
abbrev pub value_of : {W A : Type 0} → Option (W × A) → Option A
value_of None = None
value_of (Some x) = Some x.1

-- The words are these of a start, an end and a reference, each there or not, and each is read so.
pub record Stand (words : List (List ℕ)) (o : PayOptions) : Type 0 where
  pub from : Option (List ℕ × Moment)
  pub until : Option (List ℕ × Moment)
  pub using : Option ((List ℕ × List ℕ) × StateRef)
  pub are_words : words ≡ timed (codes "from") from ++ (timed (codes "until") until ++ referred using)
  pub is_from : IfSome from (λ t. moment_of t.0 ≡ Some t.1)
  pub is_until : IfSome until (λ t. moment_of t.0 ≡ Some t.1)
  pub is_using : IfSome using (λ r. reference_of r.0.0 r.0.1 ≡ Some r.1)
  pub are_options : o ≡ record { window = window_between (value_of from) (value_of until); reference = value_of using }

-- Words are taken as options exactly where they stand so.
abbrev pub TakenInOrder : Type 0
TakenInOrder = (words : List (List ℕ)) (o : PayOptions) → (options_of words ≡ Some o) ↔ Stand words o
