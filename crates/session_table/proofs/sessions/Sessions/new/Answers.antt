use Rattle.std.proofs.Common.{ap, refl, map, List, ℕ}
use Rattle.std.specs.List.{IsDistinct}
use Rattle.session_table.specs.Waiting.{has_place}
use Rattle.session_table.specs.Kept.{session_at}
use Rattle.session_table.proofs.sessions.Sessions.new.Goals as goal

pub invariant_of-result : goal.invariant_of-result
unfolding IsDistinct
invariant_of-result c = rw (c.new.ensures.empty, c.new-2.ensures.empty, c.new-3.ensures.empty) (record { sent_numbered = λ k n. refl; came_numbered = λ k n. refl; sent_counted = λ k. refl; came_counted = λ k. refl; opened_is = refl; below = refl; unique = tt }, c.new-4.ensures, record { listed = λ n. ap (λ (l : List ℕ). has_place l n) c.new-5.ensures })

pub returns-clause-list : goal.returns-clause-list
returns-clause-list c = ap (map (session_at c.new-2.result.entries c.new-3.result.entries)) c.new.ensures.empty

pub returns-clause-acked : goal.returns-clause-acked
returns-clause-acked c = ap (map (λ e. e.1.acked)) c.new.ensures.empty
