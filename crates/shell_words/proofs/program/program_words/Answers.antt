use Rattle.std.proofs.Common.{◌≡◌, ◌∙◌, sym, map, string_bytes}
use Rattle.clap.specs.Words.{found_of, kind_of}
use Rattle.shell_words.specs.Program.{network, network_of_words}
use Rattle.shell_words.proofs.Asked.{network_refused, network_asked, dir_asked}
use Rattle.shell_words.proofs.program.program_words.Goals as goal

pub returns-in-Err-clause-refused : goal.returns-in-Err-clause-refused
returns-in-Err-clause-refused c = λ same. network_refused _ (kind_of c.in-Err.error) (c.fault_by.ensures same) c.in-Err.ensures.fails

pub returns-in_default-clause-refused : goal.returns-in_default-clause-refused
returns-in_default-clause-refused c = λ same.
    let asked : network_of_words (map (λ s. string_bytes s) c.args.words.now) ≡ network c.nodes_of.result c.notary_of.result =
    network_asked (found_of c.in-Ok.matches) _ c.in-Ok.ensures.rows c.in-Ok.ensures.fails _ _ c.nodes_of.ensures.value c.notary_of.ensures in
    let answered = c.network.ensures in
    let none = c.in_default.is in
    cc

pub returns-in-Ok-dir_of-clause-network : goal.returns-in-Ok-dir_of-clause-network
returns-in-Ok-dir_of-clause-network c =
    let asked : network_of_words (map (λ s. string_bytes s) c.args.words.now) ≡ network c.nodes_of.result c.notary_of.result =
    network_asked (found_of c.in-Ok.matches) _ c.in-Ok.ensures.rows c.in-Ok.ensures.fails _ _ c.nodes_of.ensures.value c.notary_of.ensures in
    let answered = c.network.ensures in
    let some = c.in-Some.is in
    cc

pub returns-in-Ok-dir_of-clause-dir : goal.returns-in-Ok-dir_of-clause-dir
returns-in-Ok-dir_of-clause-dir c = sym (dir_asked (found_of c.in-Ok.matches) _ c.in-Ok.ensures.rows) ∙ sym c.in-Ok-dir_of.ensures
