use Rattle.std.proofs.Common.{◌≡◌, ◌-◌, ◌+◌, ◌≤◌}
use Rattle.net_base.specs.Runs.{run_at, ascending_at}
use Rattle.net_base.specs.Parts.{SameEnd}
use Rattle.net_base.proofs.Items.{with_front}
use Rattle.net_base.proofs.ascending.read_ascending_items.Given as goal

abbrev pub invariant-loop-i : goal.invariant-loop-i
invariant-loop-i g l =
    let m = g.T.ByParty in
    record {
      given : with_front l.items.items (run_at (λ k low. m.reading_between low (16 - k)) (λ low v. m.party_of v + 1) (l.count - l.i) l.low l.from.left) ≡ ascending_at m.party_of 16 m.reading_between l.count l.fn.from.left;
      end : SameEnd l.fn.from l.from;
      low : l.low ≤ 16;
    }
