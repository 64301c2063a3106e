use Rattle.std.proofs.Common.{◌∙◌}
use Rattle.node_tables.specs.Journals.{state_of}
use Rattle.node_tables.proofs.Ledgered.{may_is}
use Rattle.node_tables.proofs.table.NodeTables.fits_ledger.Goals as goal

pub returns : goal.returns
returns g c =
    let s = c.self.inside in
    let t = c.args.step.now in
    rw (← c.self.view_is) (c.change_fits.ensures ∙ may_is s.notary s.party (state_of g.F.Spelt.reading s.bodies) s.ledger t.session t.ledger c.self.invariant.4)
