-- The table of the machines of the set, a group at a time: the number of each, its places and fields, how it goes on, and what begins its flows.
use Rattle.std.specs.Prelude.{ℕ, List, [], ◌∷◌, true, false, codes}
use Rattle.flow_forms.specs.Bytes.{Numbers, placed}
use Rattle.flow_forms.specs.Forms.{Form}
use Rattle.flow_forms.specs.FormLaws.{Way, no_way}
use Rattle.flow_forms.specs.Kept.{Kept}
use Rattle.flow_forms.specs.Tables.{Row, row_of}
use Rattle.flow_forms.specs.Ways.{by_words, by_init}
use Rattle.shipped_flows.specs.Count as count
use Rattle.shipped_flows.specs.Ping as ping
use Rattle.shipped_flows.specs.Probe as probe
use Rattle.shipped_flows.specs.Echo as echo
use Rattle.notary_flows.specs.Client as client
use Rattle.notary_flows.specs.ClientLaws as client_laws
use Rattle.notary_flows.specs.Service as service
use Rattle.notary_flows.specs.ServiceLaws as service_laws
use Rattle.resolve_flows.specs.Resolve as resolve
use Rattle.resolve_flows.specs.ResolveLaws as resolve_laws
use Rattle.resolve_flows.specs.Receiver as receiver
use Rattle.finality_flows.specs.Finality as finality
use Rattle.finality_flows.specs.FinalityLaws as finality_laws
use Rattle.finality_flows.specs.Agree as agree
use Rattle.cash_flows.specs.AmountWords as amount
use Rattle.cash_flows.specs.Issue as issue
use Rattle.cash_flows.specs.Exit as exit
use Rattle.cash_flows.specs.Pay as pay
use Rattle.cash_flows.specs.PayLaws as pay_laws
use Rattle.cash_flows.specs.PayWords as pay_words
use Rattle.cash_flows.specs.Spend as spend
use Rattle.cash_flows.specs.SpendWords as spend_words
use Rattle.deal_flows.specs.Fact as fact
use Rattle.deal_flows.specs.FactWords as fact_words
use Rattle.deal_flows.specs.Refact as refact
use Rattle.deal_flows.specs.RefactWords as refact_words
use Rattle.deal_flows.specs.Iou as iou
use Rattle.deal_flows.specs.IouWords as iou_words
use Rattle.app_flows.specs.Words.{count_words, count_bytes, count_at, ping_words, ping_bytes, ping_at, probe_words, probe_bytes, probe_at}

-- a machine that flows do not call
abbrev pub begun_as : {P S : Type 0} → ℕ → Numbers P → Kept S → Form P S → Way S → Row
begun_as number numbers kept form way = row_of number (placed false numbers) kept.spelling form way

-- a machine that flows call, and nothing else begins
abbrev pub called_as : {P S : Type 0} → ℕ → Numbers P → Kept S → Form P S → Row
called_as number numbers kept form = row_of number (placed true numbers) kept.spelling form no_way

-- each row: the machine's number, its places and fields, how it goes on, and the words of a name, which give the arguments of a class, or
-- the Init of a class, which begin its flows

-- those that calls may be
abbrev pub called : List Row
called =
    begun_as 1 count.numbers count.kept count.form (by_words (codes "count") 1 count_words count_bytes count_at count.begins)
    ∷ called_as 31 client_laws.numbers client_laws.kept client.form
    ∷ called_as 32 resolve_laws.numbers resolve_laws.kept resolve.form
    ∷ called_as 30 finality_laws.numbers finality_laws.kept finality.form
    ∷ []

-- those that answer an Init
abbrev pub answering : List Row
answering =
    begun_as 11 echo.numbers echo.kept echo.form (by_init 2 echo.answers)
    ∷ begun_as 20 service_laws.numbers service_laws.kept service.form (by_init 20 service.fresh)
    ∷ begun_as 21 receiver.numbers receiver.kept receiver.form (by_init 21 receiver.fresh)
    ∷ begun_as 22 agree.numbers agree.kept agree.form (by_init 22 agree.fresh)
    ∷ []

-- those of cash
abbrev pub cash : List Row
cash =
    begun_as 3 issue.numbers issue.kept issue.form (by_words (codes "issue") 3 amount.args_of amount.args amount.args_at issue.begins)
    ∷ begun_as 4 pay_laws.numbers pay_laws.kept pay.form (by_words (codes "pay") 4 pay_words.args_of pay_words.args pay_words.args_at pay.begins)
    ∷ begun_as 5 exit.numbers exit.kept exit.form (by_words (codes "exit") 5 amount.args_of amount.args amount.args_at exit.begins)
    ∷ begun_as 8 spend.numbers spend.kept spend.form (by_words (codes "spend") 8 spend_words.args_of spend_words.args spend_words.args_at spend.begins)
    ∷ []

-- those that only talk
abbrev pub talking : List Row
talking =
    begun_as 2 ping.numbers ping.kept ping.form (by_words (codes "ping") 2 ping_words ping_bytes ping_at ping.begins)
    ∷ begun_as 10 probe.numbers probe.kept probe.form (by_words (codes "probe") 10 probe_words probe_bytes probe_at probe.begins)
    ∷ []

-- those of agreements
abbrev pub deals : List Row
deals =
    begun_as 6 fact.numbers fact.kept fact.form (by_words (codes "fact") 6 fact_words.args_of fact_words.args fact_words.args_at fact.begins)
    ∷ begun_as 7 refact.numbers refact.kept refact.form (by_words (codes "refact") 7 refact_words.args_of refact_words.args refact_words.args_at refact.begins)
    ∷ begun_as 9 iou.numbers iou.kept iou.form (by_words (codes "iou") 9 iou_words.args_of iou_words.args iou_words.args_at iou.begins)
    ∷ []
