use Rattle.std.proofs.Common.{◌-◌, slice_get, sym, ◌∙◌, ap, arith}
use Rattle.session_wire.specs.Sessions.{Session}
use Rattle.std.specs.Option.{option_and_then}
use Rattle.session_wire.specs.Sessions.{ending_of, ending_at}
use Rattle.session_table.proofs.Stepping.{found_line}
use Rattle.session_table.proofs.sessions.Sessions.ending_at.Goals as goal
use Rattle.session_table.proofs.Stepping.{ending_found}

pub returns-then-taken-eq0 : goal.returns-then-taken-eq0
returns-then-taken-eq0 c = λ s stands. sym (ap (ending_at s.came) c.if-taken-eq0.true)

pub overflow_sub-number : goal.overflow_sub-number
overflow_sub-number c = omega (arith, c.if-taken-eq0.false)

pub returns-in_err-get : goal.returns-in_err-get
returns-in_err-get c = λ one stands.
    let s = c.self.inside in
    let same = ap (λ t. t.list) c.self.view_is in
    let at = found_line s.sent.entries s.came.entries s.lines.entries c.args.self.now.list c.args.key one same stands in
    c.from_residual.ensures ∙ ap (option_and_then ending_of) (c.in_err-get.ensures.value ∙ c.self.invariant.0.came_numbered c.args.key (c.args.taken - 1) ∙ ap (λ (x : Session). slice_get x.came (c.args.taken - 1)) (sym at.1.1)) ∙ sym (ending_found one.came c.args.taken c.if-taken-eq0.false)

pub returns : goal.returns
returns c = λ one stands.
    let s = c.self.inside in
    let same = ap (λ t. t.list) c.self.view_is in
    let at = found_line s.sent.entries s.came.entries s.lines.entries c.args.self.now.list c.args.key one same stands in
    c.ending_of.ensures ∙ ap (option_and_then ending_of) (c.in_ok-get.ensures.value ∙ c.self.invariant.0.came_numbered c.args.key (c.args.taken - 1) ∙ ap (λ (x : Session). slice_get x.came (c.args.taken - 1)) (sym at.1.1)) ∙ sym (ending_found one.came c.args.taken c.if-taken-eq0.false)
