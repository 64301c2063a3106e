use Rattle.std.proofs.Common.{◌-◌, ◌++◌, ◌∙◌, List, ℕ, ap, sym, arith}
use Rattle.std.proofs.lemmas.List.{append-nil}
use Rattle.net_base.specs.Parties.{members_from, step_in, step_out, no_member}
use Rattle.net_base.proofs.parties.put_members.Goals.{then-rest-eq1, else-rest-eq1}
use Rattle.net_base.proofs.parties.put_members.Goals as goal

pub loop-party-preserved : goal.loop-party-preserved
loop-party-preserved c =
    let l = c.loop-party in
    let whole = c.args.block.now ++ members_from 0 16 c.args.bits in
    elim c.if-rest-eq1.branch [
      | then-rest-eq1 w ↦ record { so_far = rw (w.block-is, w.put_u8.ensures.text) (step_in l.party l.rest l.block whole c.loop-party-test.true w.if-rest-eq1.true l.invariant.so_far); size = rw w.block-is (omega (arith, w.put_u8.ensures.size, l.invariant.size)) }
      | else-rest-eq1 w ↦ record { so_far = rw w.block-is (step_out l.party l.rest l.block whole c.loop-party-test.true w.if-rest-eq1.false l.invariant.so_far); size = rw w.block-is (omega (arith, l.invariant.size)) }
    ]

pub returns : goal.returns
returns c =
    let l = c.loop-party in
    let none = no_member l.party (16 - l.party) l.rest (omega arith) in
    record { text = sym (append-nil l.block) ∙ ap (λ (x : List ℕ). l.block ++ x) (sym none) ∙ l.invariant.so_far; size = omega (arith, l.invariant.size) }
