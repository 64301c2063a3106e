use Rattle.std.proofs.Common.{◌≡◌, List, take, map, Some, ap, sym, subst, ◌∙◌}
use Rattle.std.proofs.lemmas.Result.{err_from_is_err_and}
use Rattle.ledger_types.specs.declared.held.Held.{Held}
use Rattle.ledger_types.specs.Vaults.{coins_of}
use Rattle.coin_select.specs.declared.Coin.{Coin}
use Rattle.coin_select.specs.Picking.{IsLeastPrefix, worth_of, candidates}
use Rattle.vault.proofs.Coins.{worth, take_few, picked_is, short_is}
use Rattle.vault.proofs.vault.Vault.first_worth.Goals as goal

pub amounts-requires : goal.amounts-requires
amounts-requires c = rw c.as_slice-2.ensures.value (rw c.in_ok-coins.ensures (take_few (coins_of c.args.token.now c.as_slice.result.now)))

pub returns-in_err-count-clause-fault : goal.returns-in_err-count-clause-fault
returns-in_err-count-clause-fault c =
    let p = err_from_is_err_and c.from_residual-in_err-count.result c.from_residual-in_err-count.ensures.1 in
    let states : c.as_slice.result.now ≡ c.args.self.now.held = c.as_slice.ensures.value ∙ ap (λ h. h.held) c.self.view_is in
    let coins = c.in_ok-coins.ensures ∙ ap (λ (l : List Held). take 64 (coins_of c.args.token.now l)) states in
    let amounts = c.in_ok-amounts.ensures ∙ ap (map worth) c.as_slice-2.ensures.value in
    let short = c.in_err-count.ensures.short in
    let sum = short.0 ∙ ap (λ (l : List Coin). worth_of (candidates l)) c.as_slice-3.ensures.value in
    rw (p.1, p.2) (short_is c.args.token.now c.args.amount c.args.self.now.held c.in_ok-coins.coins.items c.in_ok-amounts.amounts.items c.in_err-count.field-0.0.have coins amounts sum short.1)

pub returns-clause-reserved : goal.returns-clause-reserved
returns-clause-reserved c =
    let states : c.as_slice.result.now ≡ c.args.self.now.held = c.as_slice.ensures.value ∙ ap (λ h. h.held) c.self.view_is in
    let coins = c.in_ok-coins.ensures ∙ ap (λ (l : List Held). take 64 (coins_of c.args.token.now l)) states in
    let amounts = c.in_ok-amounts.ensures ∙ ap (map worth) c.as_slice-2.ensures.value in
    let picked = subst (λ (l : List Coin). IsLeastPrefix l c.args.amount c.in_ok-count.count) c.as_slice-3.ensures.value c.in_ok-count.ensures.picked in
    picked_is c.args.token.now c.args.amount c.args.self.now.held c.in_ok-coins.coins.items c.in_ok-amounts.amounts.items c.in_ok-count.count coins amounts picked
    ∙ ap Some (sym (c.from_vec.ensures ∙ c.truncate.ensures.items))
