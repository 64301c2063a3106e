use Rattle.node_shell.proofs.top.run_in_folder.Goals as goal

pub returns : goal.returns
returns g c = rw (← c.as_str.ensures.value) c.run_at_path.ensures
