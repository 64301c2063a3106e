use Rattle.std.proofs.Common.{◌≡◌, ℕ, zero, suc, ◌+◌, false, cond, [], ◌∷◌, filter, refl, ap, ◌∙◌}
use Rattle.std.specs.List.{range_with_len}
use Rattle.net_base.specs.declared.parties.PartySet.{PartySet}
use Rattle.net_base.specs.Parties.{has_party, members}
use Rattle.ledger_acts.proofs.job.nobody.Goals as goal

none_from : (s : PartySet) → ((p : ℕ) → has_party s p ≡ false) → (i n : ℕ) → filter (λ p. has_party s p) (range_with_len i n) ≡ []
none_from s none i zero = refl
none_from s none i (suc n) = ap (λ b. cond b (i ∷ filter (λ p. has_party s p) (range_with_len (i + 1) n)) (filter (λ p. has_party s p) (range_with_len (i + 1) n))) (none i) ∙ none_from s none (i + 1) n

no_members : (s : PartySet) → ((p : ℕ) → has_party s p ≡ false) → members s ≡ []
unfolding members
no_members s none = none_from s none 0 16

pub returns : goal.returns
returns c = no_members c.empty.result c.empty.ensures
