-- Which act waits for a job, and for which.
use Rattle.std.proofs.Common.{◌≡◌, ◌↔◌, ℕ, Bool, true, false, cond, ◌&&◌, IsTrue, List, Option, Some, None, is_some, option_map, refl, sym, ◌∙◌, ap}
use Rattle.std.specs.Bool.{◌==◌}
use Rattle.std.proofs.lemmas.Bool.{and_parts, and_from, eqb-true, eq-eqb}
use Rattle.net_base.specs.declared.values.Hash32.{Hash32}
use Rattle.net_base.specs.declared.names.Identity.{Identity}
use Rattle.net_base.specs.declared.names.Tag.{Tag}
use Rattle.net_base.proofs.Options.{some_eq}
use Rattle.ledger_types.specs.declared.tx.Tx.{Tx}
use Rattle.ledger_types.specs.declared.tx.SignedTx.{SignedTx}
use Rattle.ledger_types.specs.declared.tx.Resolved.{Resolved}
use Rattle.ledger_types.specs.Stores.{resolved_of}
use Rattle.ledger_acts.specs.declared.job.Job.{Job}
use Rattle.ledger_acts.specs.Jobs.{job_of, tx_job, is_open, record_job}

mapped : {A B : Type 0} (f : A → B) (o : Option A) → is_some o ≡ is_some (option_map f o)
mapped f None = refl
mapped f (Some x) = refl

-- judging waits for a job where the states can be had
pub judging_waits : (me : Identity) (store : List (Hash32 × SignedTx)) (flow step : ℕ) (tx : Tx) (tags : Option (List Tag)) → is_some (resolved_of store tx) ≡ is_some (tx_job me store flow step tx tags)
judging_waits me store flow step tx tags = mapped (job_of me.party flow step tx tags) (resolved_of store tx)

-- recording waits for a job where the transaction is open, and the states can be had
pub recording_waits : (me : Identity) (store : List (Hash32 × SignedTx)) (flow step : ℕ) (stx : SignedTx) → (is_open me store stx.tx && is_some (resolved_of store stx.tx)) ≡ is_some (record_job me store flow step stx)
recording_waits me store flow step stx = by (is_open me store stx.tx)
  where
    by : (b : Bool) → (b && is_some (resolved_of store stx.tx)) ≡ is_some (cond b (tx_job me store flow step stx.tx (Some stx.tags)) None)
    by true = judging_waits me store flow step stx.tx (Some stx.tags)
    by false = refl

-- a job of its parts is this one exactly where each part is
pub is_of : (me : Identity) (store : List (Hash32 × SignedTx)) (flow step : ℕ) (tx : Tx) (tags : Option (List Tag)) (j : Job) (a b c : Bool) → (IsTrue a ↔ (tx ≡ j.tx)) → (IsTrue b ↔ (tags ≡ j.tags)) → (IsTrue c ↔ (resolved_of store tx ≡ Some j.resolved))
    → IsTrue (((j.node.0 == me.party.0) && ((j.flow == flow) && (j.step == step))) && (a && (b && c))) ↔ (tx_job me store flow step tx tags ≡ Some j)
is_of me store flow step tx tags j a b c f g h = (to, λ e. from (resolved_of store tx) refl e)
  where
    to : IsTrue (((j.node.0 == me.party.0) && ((j.flow == flow) && (j.step == step))) && (a && (b && c))) → tx_job me store flow step tx tags ≡ Some j
    to t =
        let p = and_parts ((j.node.0 == me.party.0) && ((j.flow == flow) && (j.step == step))) (a && (b && c)) t in
        let q = and_parts (j.node.0 == me.party.0) ((j.flow == flow) && (j.step == step)) p.0 in
        let r = and_parts (j.flow == flow) (j.step == step) q.1 in
        let u = and_parts a (b && c) p.1 in
        let v = and_parts b c u.1 in
        let node = eqb-true j.node.0 me.party.0 q.0 in
        let of = eqb-true j.flow flow r.0 in
        let at = eqb-true j.step step r.1 in
        let same = f.0 u.0 in
        let signed = g.0 v.0 in
        ap (option_map (job_of me.party flow step tx tags)) (h.0 v.1) ∙ (λ i. Some (record { node = record { 0 = sym node i }; flow = sym of i; step = sym at i; tx = same i; tags = signed i; resolved = j.resolved }))

    from : (o : Option Resolved) → resolved_of store tx ≡ o → option_map (job_of me.party flow step tx tags) o ≡ Some j → IsTrue (((j.node.0 == me.party.0) && ((j.flow == flow) && (j.step == step))) && (a && (b && c)))
    from None is e = cc
    from (Some states) is e =
        let same : job_of me.party flow step tx tags states ≡ j = some_eq e in
        and_from _ _ (and_from _ _ (eq-eqb j.node.0 me.party.0 (ap (λ (x : Job). x.node.0) (sym same))) (and_from _ _ (eq-eqb j.flow flow (ap (λ (x : Job). x.flow) (sym same))) (eq-eqb j.step step (ap (λ (x : Job). x.step) (sym same)))))
        (and_from _ _ (f.1 (ap (λ (x : Job). x.tx) same)) (and_from _ _ (g.1 (ap (λ (x : Job). x.tags) same)) (h.1 (is ∙ ap (λ (x : Job). Some x.resolved) same))))

-- a transaction that is open has the job that it would have to be judged, and another one has none
pub is_recording : (me : Identity) (store : List (Hash32 × SignedTx)) (flow step : ℕ) (stx : SignedTx) (j : Job) (a : Bool) → (IsTrue a ↔ (tx_job me store flow step stx.tx (Some stx.tags) ≡ Some j)) → IsTrue (is_open me store stx.tx && a) ↔ (record_job me store flow step stx ≡ Some j)
is_recording me store flow step stx j a f = by (is_open me store stx.tx)
  where
    by : (b : Bool) → IsTrue (b && a) ↔ (cond b (tx_job me store flow step stx.tx (Some stx.tags)) None ≡ Some j)
    by true = f
    by false = (λ t. cc, λ e. cc)
