use Rattle.std.proofs.Common.{refl, arith, ap, length, true≢false, sym}
use Rattle.session_wire.specs.Rules.{FitsSent}
use Rattle.session_table.specs.Changes.{begun_on}
use Rattle.session_table.proofs.Fitting.{from_first, next_fits, none_fits, past_last}
use Rattle.session_table.proofs.sessions.Sessions.fits_sent.Goals as goal

pub loop-k-init : goal.loop-k-init
loop-k-init c = λ stamp. from_first c.args.self.now.party stamp (begun_on c.args.change.now c.args.self.now.list) c.args.change.now.sent

pub loop-k-preserved : goal.loop-k-preserved
loop-k-preserved c = λ stamp.
    let me = c.args.self.now.party in
    let begun = begun_on c.args.change.now c.args.self.now.list in
    next_fits me stamp begun c.args.change.now.sent c.as_slice-items.result.now c.loop-k.k c.index-items-k.result c.continues.result (FitsSent me stamp begun c.args.change.now.sent) c.as_slice-items.ensures c.loop-k-test.true c.index-items-k.is (c.continues.ensures stamp) c.if-not-continues.false (c.loop-k.invariant stamp)

pub returns-then-not-continues : goal.returns-then-not-continues
returns-then-not-continues c = λ stamp.
    let me = c.args.self.now.party in
    let begun = begun_on c.args.change.now c.args.self.now.list in (
      λ yes. absurd (true≢false (sym yes)),
      λ fits. absurd (none_fits me stamp begun c.args.change.now.sent c.as_slice-items.result.now c.loop-k.k c.index-items-k.result c.continues.result (FitsSent me stamp begun c.args.change.now.sent) c.as_slice-items.ensures c.loop-k-test.true c.index-items-k.is (c.continues.ensures stamp) c.if-not-continues.true (c.loop-k.invariant stamp) fits),
    )

pub returns : goal.returns
returns c = λ stamp.
    let me = c.args.self.now.party in
    let begun = begun_on c.args.change.now c.args.self.now.list in
    let all = ap length c.as_slice-items.ensures in (
      λ _. (c.loop-k.invariant stamp).1 (past_last me stamp begun c.args.change.now.sent c.loop-k.k (omega (arith, all, c.loop-k-test.false))),
      λ _. refl,
    )
