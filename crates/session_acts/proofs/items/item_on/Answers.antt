use Rattle.std.proofs.Common.{◌≡◌, Some, sym, ◌∙◌, ap, length, option_map}
use Rattle.session_wire.specs.Sessions.{Session}
use Rattle.session_wire.specs.Rules.{direction_out}
use Rattle.session_acts.proofs.Owning.{key_found}
use Rattle.session_acts.proofs.items.item_on.Goals as goal

pub returns-clause-item : goal.returns-clause-item
returns-clause-item c = λ s stands.
    let me = c.args.identity.now.party in
    let its_key : c.args.key ≡ s.key = key_found c.args.key c.args.sessions.now.list s stands in
    let count : Some c.unwrap-seq.result ≡ Some (length s.sent) = sym c.unwrap-seq.ensures ∙ c.sent.ensures ∙ ap (option_map (λ (x : Session). length x.sent)) stands in
    let seq : c.unwrap-seq.result ≡ length s.sent = cc count in
    let direction : c.direction_out.result ≡ direction_out me s.key = c.direction_out.ensures ∙ ap (direction_out me) its_key in
    λ i. record { key = its_key i; direction = direction i; seq = seq i; body = c.args.body }
