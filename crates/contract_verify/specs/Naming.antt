-- What is accepted names a notary where a notary has to sign.
use Rattle.std.specs.Prelude.{◌≡◌, ℕ, Bool, true, false, ◌&&◌, List, [], ◌∷◌, Option, Some, None, is_some, is_none, slice_get}
use Rattle.std.proofs.Common.{zero, suc, refl, sym, ◌∙◌, ap}
use Rattle.std.proofs.lemmas.Option.{none-some}
use Rattle.net_base.specs.declared.values.Party.{Party}
use Rattle.net_base.proofs.Options.{some_eq}
use Rattle.ledger_types.specs.declared.tx.Tx.{Tx}
use Rattle.ledger_types.specs.declared.tx.Resolved.{Resolved}
use Rattle.ledger_types.specs.declared.verdict.Verdict.{Verdict}
use Rattle.ledger_types.specs.declared.verdict.Verdict.TheVariants as verdict
use Rattle.ledger_types.specs.Rules.{asks_notary, lacks_notary, first_true, first_broken, rules}
use Rattle.ledger_types.specs.Verdicts.{verdict_by, verdict_of}

-- whoever judges accepts no transaction that has an input, a reference or a time window, and names no notary
abbrev pub NamesNotary : (Tx → Resolved → Verdict) → Type 0
NamesNotary judges = (tx : Tx) (states : Resolved) → judges tx states ≡ verdict.Accepted → asks_notary tx ≡ true → is_some tx.notary ≡ true

-- where no outcome is true, none behind the first is
behind : (n : ℕ) (b : Bool) (outcomes : List (ℕ × Bool)) → first_true ((n, b) ∷ outcomes) ≡ None → first_true outcomes ≡ None
behind n true outcomes e = absurd (none-some n (sym e))
behind n false outcomes e = e

-- and not the first
not_first : (n : ℕ) (b : Bool) (outcomes : List (ℕ × Bool)) → first_true ((n, b) ∷ outcomes) ≡ None → b ≡ false
not_first n true outcomes e = absurd (none-some n (sym e))
not_first n false outcomes e = refl

-- and none at any place
none_true : (outcomes : List (ℕ × Bool)) (n : ℕ) (o : ℕ × Bool) → first_true outcomes ≡ None → slice_get outcomes n ≡ Some o → o.1 ≡ false
none_true [] n o e at = absurd (none-some o at)
none_true (x ∷ outcomes) zero o e at = let same : x ≡ o = some_eq at in ap (λ (p : ℕ × Bool). p.1) (sym same) ∙ not_first x.0 x.1 outcomes e
none_true (x ∷ outcomes) (suc n) o e at = none_true outcomes n o (behind x.0 x.1 outcomes e) at

-- what keeps the rules keeps the eighth
keeps_eighth : (tx : Tx) (states : Resolved) → first_broken tx states ≡ None → lacks_notary tx ≡ false
unfolding first_broken
keeps_eighth tx states e = none_true (rules tx states) 7 (8, lacks_notary tx) e refl

-- a notary that is asked and not lacking is named
is_named : (asks : Bool) (notary : Option Party) → (asks && is_none notary) ≡ false → asks ≡ true → is_some notary ≡ true
is_named asks (Some p) kept e = refl
is_named true None kept e = sym kept
is_named false None kept e = e

-- what is accepted breaks no rule
kept_rules : (broken : Option ℕ) (judged : Verdict) → verdict_by broken judged ≡ verdict.Accepted → broken ≡ None
kept_rules None judged e = refl
kept_rules (Some rule) judged e = cc e

-- the law, of whatever contracts
pub accepted_names : (told : ℕ → Tx → Resolved → Option (Option ℕ)) → NamesNotary (verdict_of told)
unfolding verdict_of
accepted_names told tx states e asks = is_named (asks_notary tx) tx.notary (keeps_eighth tx states (kept_rules (first_broken tx states) _ e)) asks
