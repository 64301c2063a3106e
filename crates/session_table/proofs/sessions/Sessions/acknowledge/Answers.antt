use Rattle.std.proofs.Common.{◌≡◌, ◌==◌, sym, ◌∙◌, ap, refl, true, false, eq-eqb}
use Rattle.std.proofs.lemmas.Bool.{ne_eqb}
use Rattle.session_wire.specs.Rules.{direction_out}
use Rattle.session_table.specs.Kept.{acked_to}
use Rattle.session_table.specs.Tables.{raised}
use Rattle.session_table.proofs.Keeping.{kept_same}
use Rattle.session_table.proofs.Raising.{raised_apart, raised_after, listed_after}
use Rattle.session_table.specs.Kept.{owner_of}
use Rattle.session_table.specs.Owned.{owners}
use Rattle.session_table.proofs.Owning.{map_rewritten}
use Rattle.session_table.proofs.Listing.{listed_acked}
use Rattle.session_table.proofs.sessions.Sessions.acknowledge.Goals as goal

pub returns-then-direction-outgoing-clause-acked : goal.returns-then-direction-outgoing-clause-acked
returns-then-direction-outgoing-clause-acked c =
    let s = c.self.inside in
    let party = ap (λ t. t.party) c.self.view_is in
    let apart : (c.args.direction == direction_out s.party c.args.key.now) ≡ false = ne_eqb _ _ (λ e. c.if-direction-outgoing.true (e ∙ ap (λ p. direction_out p c.args.key.now) party ∙ sym c.outgoing.ensures)) in
    sym (ap (λ t. t.acked) c.self.view_is) ∙ sym (raised_apart s.sent.entries s.came.entries s.party c.args.key.now c.args.direction c.args.upto s.lines.entries apart) ∙ ap (λ t. raised t.party c.args.key.now c.args.direction c.args.upto t.list t.acked) c.self.view_is

pub invariant_of-self : goal.invariant_of-self
invariant_of-self c = let s = c.self.inside in (
  kept_same s.party s.opened s.lines.entries c.raise_acked.new.lines.entries s.sent.entries s.came.entries c.args.key.now (acked_to c.args.upto) (λ v. refl) (λ v. refl) c.self.invariant.0 c.raise_acked.ensures.lines,
  c.self.invariant.1 ∙ sym (ap owners (map_rewritten owner_of c.args.key.now (acked_to c.args.upto) s.lines.entries c.raise_acked.new.lines.entries (λ q v. refl) c.raise_acked.ensures.lines)),
  listed_acked c.args.key.now c.args.upto s.lines.entries c.raise_acked.new.lines.entries s.waiting.list c.note_acked.new.waiting.list c.raise_acked.ensures.lines c.self.invariant.2 c.note_acked.ensures.list,
)

pub returns-clause-list : goal.returns-clause-list
returns-clause-list c =
    let s = c.self.inside in
    listed_after s.sent.entries s.came.entries s.party c.args.key.now c.args.direction c.args.upto s.lines.entries c.raise_acked.new.lines.entries c.raise_acked.ensures.lines ∙ ap (λ t. t.list) c.self.view_is

pub returns-clause-acked : goal.returns-clause-acked
returns-clause-acked c =
    let s = c.self.inside in
    let party = ap (λ t. t.party) c.self.view_is in
    let out : (c.args.direction == direction_out s.party c.args.key.now) ≡ true = eq-eqb _ _ (c.if-direction-outgoing.false ∙ c.outgoing.ensures ∙ ap (λ p. direction_out p c.args.key.now) (sym party)) in
    raised_after s.sent.entries s.came.entries s.party c.args.key.now c.args.direction c.args.upto s.lines.entries c.raise_acked.new.lines.entries out c.raise_acked.ensures.lines ∙ ap (λ t. raised t.party c.args.key.now c.args.direction c.args.upto t.list t.acked) c.self.view_is
