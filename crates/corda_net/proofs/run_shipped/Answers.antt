use Rattle.std.proofs.Common.{rules, [], ◌∷◌, ◌≡◌, refl}
use Rattle.corda_net.proofs.Books.{are_shipped, run_by}
use Rattle.corda_net.proofs.Tables.{reads}
use Rattle.corda_net.proofs.run_shipped.OwnLists.{own-1}
use Rattle.corda_net.proofs.run_shipped.Goals as goal

pub law_shipped-requires : goal.law_shipped-requires
law_shipped-requires g c =
    let held : c.new-contracts-2.result.contracts.items
    ≡ c.into_dyn_box.result ∷ c.into_dyn_box-in_ok-new-2.result ∷ c.into_dyn_box-in_ok-new-3.result ∷ c.into_dyn_box-in_ok-new-4.result ∷ [] = search rules in
    rw held (are_shipped _ _ _ _
    (reads own-1 c.into_dyn_box.ensures.1 refl (λ j. j.1.number) refl) (reads own-1 c.into_dyn_box.ensures.1 refl (λ j. j.1.says) refl)
    (reads own-1 c.into_dyn_box-in_ok-new-2.ensures.1 refl (λ j. j.1.number) refl) (reads own-1 c.into_dyn_box-in_ok-new-2.ensures.1 refl (λ j. j.1.says) refl)
    (reads own-1 c.into_dyn_box-in_ok-new-3.ensures.1 refl (λ j. j.1.number) refl) (reads own-1 c.into_dyn_box-in_ok-new-3.ensures.1 refl (λ j. j.1.says) refl)
    (reads own-1 c.into_dyn_box-in_ok-new-4.ensures.1 refl (λ j. j.1.number) refl) (reads own-1 c.into_dyn_box-in_ok-new-4.ensures.1 refl (λ j. j.1.says) refl))

pub returns-clause-run : goal.returns-clause-run
returns-clause-run g c = run_by _ _ _ c.law_shipped.ensures c.run-ended.ensures.run
