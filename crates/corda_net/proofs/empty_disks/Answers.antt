use Rattle.std.proofs.Common.{◌+◌, [], ◌∷◌, ◌++◌, length, All, ◌∙◌, ap, subst, sym}
use Rattle.std.proofs.lemmas.List.{length-append}
use Rattle.std.proofs.lemmas.List.Elements.{All-append, All-cons, All-nil}
use Rattle.corda_net.specs.Disks.{AreEmpty}
use Rattle.corda_net.proofs.empty_disks.Goals as goal

-- the empty disks of one node more
pub disks-preserved : goal.disks-preserved
disks-preserved g c =
    let last : All AreEmpty (c.empty_pair.result ∷ []) = All-cons AreEmpty c.empty_pair.result [] c.empty_pair.ensures (All-nil AreEmpty) in
    let more : All AreEmpty (c.disks.disks.items ++ c.empty_pair.result ∷ []) = All-append AreEmpty c.disks.disks.items (c.empty_pair.result ∷ []) c.disks.invariant.1 last in
    (ap length c.in_ok-push.ensures.items ∙ length-append c.disks.disks.items (c.empty_pair.result ∷ []) ∙ ap (λ n. n + 1) c.disks.invariant.0, subst (All AreEmpty) (sym c.in_ok-push.ensures.items) more)
