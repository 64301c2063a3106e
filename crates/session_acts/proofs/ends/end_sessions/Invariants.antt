use Rattle.std.proofs.Common.{◌≡◌, ◌++◌, map, drop}
use Rattle.std.specs.List.{AllByRecursion}
use Rattle.net_base.specs.Names.{IsKey}
use Rattle.session_wire.specs.Bodies.{IsBody}
use Rattle.session_wire.specs.Rules.{sessions_of, item_on}
use Rattle.transition_record.specs.Changes.{IsSentItem}
use Rattle.session_acts.proofs.ends.end_sessions.Given as goal

abbrev pub invariant-loop-place : goal.invariant-loop-place
invariant-loop-place l = record {
  told : l.items.items ++ map (λ s. item_on l.identity.party s l.last) (drop l.place (sessions_of l.flow l.sessions.list)) ≡ map (λ s. item_on l.identity.party s l.last) (sessions_of l.flow l.sessions.list);
  within : AllByRecursion (λ session. IsKey session.key) l.sessions.list → IsBody l.last → AllByRecursion IsSentItem l.items.items;
}
