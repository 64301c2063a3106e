use Rattle.std.proofs.Common.{◌∙◌, ap, subst, List, ℕ}
use Rattle.session_table.specs.Waiting.{IsInOrder}
use Rattle.session_table.proofs.Listing.{in_order}
use Rattle.session_table.proofs.waiting.Waiting.in_order.Goals as goal

pub returns : goal.returns
returns c =
    let keys = c.self.inside.places.keys in
    subst (λ (l : List ℕ). IsInOrder l c.sort_unstable.new.self.items) (ap (λ t. t.list) c.self.view_is)
    (in_order keys c.in_ok-places.places.items c.sort_unstable.new.self.items (c.in_ok-places.ensures.items ∙ c.as_slice.ensures.keys) c.as_slice.ensures.unique c.sort_unstable.ensures.permutation c.sort_unstable.ensures.sorted)
