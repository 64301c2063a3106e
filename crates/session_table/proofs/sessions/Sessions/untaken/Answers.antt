use Rattle.std.proofs.Common.{◌≡◌, ℕ, sym, ◌∙◌, ap, arith, refl, Some, drop, slice_get}
use Rattle.std.specs.Option.{option_and_then}
use Rattle.session_wire.specs.Sessions.{Session, first_item}
use Rattle.session_table.specs.Kept.{session_at, items_of}
use Rattle.session_table.proofs.Found.{absent, present, count_is}
use Rattle.session_table.proofs.Taking.{at_item, at_confirm, past_all, not_past}
use Rattle.session_table.proofs.sessions.Sessions.untaken.Goals as goal

pub returns-in_err-standing : goal.returns-in_err-standing
returns-in_err-standing c =
    let s = c.self.inside in
    let gone = absent s.sent.entries s.came.entries s.lines.entries c.args.self.now.list c.args.key.now (ap (λ t. t.list) c.self.view_is) c.in_err-standing.ensures.value in
    rw (c.from_residual.ensures, gone) refl

pub loop-number-init : goal.loop-number-init
loop-number-init c = λ one stands.
    let s = c.self.inside in
    let found = present s.sent.entries s.came.entries s.lines.entries c.args.self.now.list c.args.key.now c.in_ok-standing.standing.now (ap (λ t. t.list) c.self.view_is) c.in_ok-standing.ensures.value in
    let e : Some one ≡ Some (session_at s.sent.entries s.came.entries (c.args.key.now, c.in_ok-standing.standing.now)) = sym stands ∙ found in
    let same : one ≡ session_at s.sent.entries s.came.entries (c.args.key.now, c.in_ok-standing.standing.now) = cc e in
    ap (λ (n : ℕ). first_item n (drop n one.came)) (ap (λ (x : Session). x.taken) same)

pub returns-in_err-body : goal.returns-in_err-body
returns-in_err-body c =
    let s = c.self.inside in
    let v = c.in_ok-standing.standing.now in
    let found = present s.sent.entries s.came.entries s.lines.entries c.args.self.now.list c.args.key.now v (ap (λ t. t.list) c.self.view_is) c.in_ok-standing.ensures.value in
    let count = count_is (λ v. v.came) s.lines.entries s.came.entries c.args.key.now v c.self.invariant.0.came_counted c.in_ok-standing.ensures.value in
    let one = session_at s.sent.entries s.came.entries (c.args.key.now, v) in
    absurd (not_past (items_of c.args.key.now s.came.entries) c.loop-number.number (omega (arith, count, c.loop-number-test.true)) (c.in_err-body.ensures.value ∙ c.self.invariant.0.came_numbered c.args.key.now c.loop-number.number))

pub returns-then-not-is_confirm : goal.returns-then-not-is_confirm
returns-then-not-is_confirm c =
    let s = c.self.inside in
    let v = c.in_ok-standing.standing.now in
    let found = present s.sent.entries s.came.entries s.lines.entries c.args.self.now.list c.args.key.now v (ap (λ t. t.list) c.self.view_is) c.in_ok-standing.ensures.value in
    let count = count_is (λ v. v.came) s.lines.entries s.came.entries c.args.key.now v c.self.invariant.0.came_counted c.in_ok-standing.ensures.value in
    let one = session_at s.sent.entries s.came.entries (c.args.key.now, v) in
    let there = sym (c.in_ok-body.ensures.value ∙ c.self.invariant.0.came_numbered c.args.key.now c.loop-number.number) in
    sym (ap (option_and_then (λ s. first_item s.taken (drop s.taken s.came))) found ∙ c.loop-number.invariant one found ∙ at_item one.came c.loop-number.number c.in_ok-body.body.now there (sym c.is_confirm.ensures ∙ c.if-not-is_confirm.true))

pub loop-number-preserved : goal.loop-number-preserved
loop-number-preserved c = λ other stands.
    let s = c.self.inside in
    let v = c.in_ok-standing.standing.now in
    let found = present s.sent.entries s.came.entries s.lines.entries c.args.self.now.list c.args.key.now v (ap (λ t. t.list) c.self.view_is) c.in_ok-standing.ensures.value in
    let count = count_is (λ v. v.came) s.lines.entries s.came.entries c.args.key.now v c.self.invariant.0.came_counted c.in_ok-standing.ensures.value in
    let one = session_at s.sent.entries s.came.entries (c.args.key.now, v) in
    let there = sym (c.in_ok-body.ensures.value ∙ c.self.invariant.0.came_numbered c.args.key.now c.loop-number.number) in
    let e : Some one ≡ Some other = sym found ∙ stands in
    let same : one ≡ other = cc e in
    c.loop-number.invariant other stands ∙ at_confirm other.came c.loop-number.number c.in_ok-body.body.now (ap (λ (x : Session). slice_get x.came c.loop-number.number) (sym same) ∙ there) (sym c.is_confirm.ensures ∙ c.if-not-is_confirm.false)

pub returns : goal.returns
returns c =
    let s = c.self.inside in
    let v = c.in_ok-standing.standing.now in
    let found = present s.sent.entries s.came.entries s.lines.entries c.args.self.now.list c.args.key.now v (ap (λ t. t.list) c.self.view_is) c.in_ok-standing.ensures.value in
    let count = count_is (λ v. v.came) s.lines.entries s.came.entries c.args.key.now v c.self.invariant.0.came_counted c.in_ok-standing.ensures.value in
    let one = session_at s.sent.entries s.came.entries (c.args.key.now, v) in
    sym (ap (option_and_then (λ s. first_item s.taken (drop s.taken s.came))) found ∙ c.loop-number.invariant one found ∙ past_all one.came c.loop-number.number (omega (arith, count, c.loop-number-test.false)))
