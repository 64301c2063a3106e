use Rattle.std.proofs.Common.{◌++◌, ◌∷◌, [], ◌∙◌, ℕ, List, length, ap, sym, append_assoc}
use Rattle.net_base.specs.Parties.{members_from, members_is, party_set}
use Rattle.net_base.proofs.parties.PartySetComponent.put.Goals as goal

pub returns-clause-text : goal.returns-clause-text
unfolding party_set
returns-clause-text c =
    let is = members_is c.args.self.now in
    let count = c.count_members.ensures in
    c.put_members.ensures.text ∙ ap (λ (l : List ℕ). l ++ members_from 0 16 c.args.self.now.0) c.put_u8.ensures.text
    ∙ append_assoc c.args.block.now (c.count_members.result ∷ []) (members_from 0 16 c.args.self.now.0)
    ∙ ap (λ (n : ℕ). c.args.block.now ++ n ∷ members_from 0 16 c.args.self.now.0) count
    ∙ ap (λ (l : List ℕ). c.args.block.now ++ length l ∷ l) (sym is)
