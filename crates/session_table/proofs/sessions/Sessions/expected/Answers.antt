use Rattle.std.proofs.Common.{◌≡◌, sym, ◌∙◌, ap, Some, option_map, length}
use Rattle.std.proofs.Common.{◌==◌, true, false, eq-eqb, refl}
use Rattle.std.proofs.lemmas.Bool.{ne_eqb}
use Rattle.session_wire.specs.Rules.{direction_in}
use Rattle.session_table.proofs.Found.{absent, present, count_is}
use Rattle.session_table.proofs.sessions.Sessions.expected.Goals as goal

pub returns-then-direction-incoming : goal.returns-then-direction-incoming
returns-then-direction-incoming c =
    let apart : (c.args.direction == direction_in c.args.self.now.party c.args.key.now) ≡ false = ne_eqb _ _ (λ e. c.if-direction-incoming.true (e ∙ sym c.incoming.ensures)) in
    rw apart refl

pub returns-in_err-get : goal.returns-in_err-get
returns-in_err-get c =
    let s = c.self.inside in
    let gone = absent s.sent.entries s.came.entries s.lines.entries c.args.self.now.list c.args.key.now (ap (λ t. t.list) c.self.view_is) c.in_err-get.ensures.value in
    let incoming : (c.args.direction == direction_in c.args.self.now.party c.args.key.now) ≡ true = eq-eqb _ _ (c.if-direction-incoming.false ∙ c.incoming.ensures) in
    rw incoming (c.from_residual.ensures ∙ sym (ap (option_map (λ s. length s.came)) gone))

pub returns : goal.returns
returns c =
    let s = c.self.inside in
    let found = present s.sent.entries s.came.entries s.lines.entries c.args.self.now.list c.args.key.now c.in_ok-get.field-0.now (ap (λ t. t.list) c.self.view_is) c.in_ok-get.ensures.value in
    let counted = count_is (λ v. v.came) s.lines.entries s.came.entries c.args.key.now c.in_ok-get.field-0.now c.self.invariant.0.came_counted c.in_ok-get.ensures.value in
    let incoming : (c.args.direction == direction_in c.args.self.now.party c.args.key.now) ≡ true = eq-eqb _ _ (c.if-direction-incoming.false ∙ c.incoming.ensures) in
    rw incoming (sym (ap (option_map (λ s. length s.came)) found ∙ ap Some counted))
