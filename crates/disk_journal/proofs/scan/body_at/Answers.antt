use Rattle.std.proofs.Common.{◌≡◌, ℕ, ◌+◌, ◌-◌, take, drop, ap, ◌∙◌, sym, arith, rules}
use Rattle.std.proofs.lemmas.List.{drop-drop}
use Rattle.disk_journal.proofs.scan.body_at.Goals as goal

pub returns : goal.returns
returns c =
    let len : c.args.at + 5 + c.args.n - (c.args.at + 5) ≡ c.args.n = omega arith in
    let items : c.in_ok-to_vec.field-0.items ≡ take (c.args.at + 5 + c.args.n - (c.args.at + 5)) (drop (c.args.at + 5) c.args.bytes.now) = search rules in
    c.from_vec.ensures ∙ items ∙ ap (λ (k : ℕ). take k (drop (c.args.at + 5) c.args.bytes.now)) len ∙ ap (take c.args.n) (sym (drop-drop 5 c.args.at c.args.bytes.now))
