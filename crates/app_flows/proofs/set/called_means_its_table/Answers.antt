use Rattle.app_flows.proofs.set.called_means_its_table.Goals as goal

pub returns : goal.returns
returns c = c.means_its_table.ensures
