-- Each stored transaction has its whole back-chain, the verdict and the tags.
use Rattle.std.proofs.Common.{◌≡◌, ℕ, ⊎_elim, List, [], ◌∷◌, ◌++◌, Option, Some, None, option_to_list, slice_set, refl, sym, ap, subst, ◌∙◌}
use Rattle.std.specs.List.{AllByRecursion}
use Rattle.net_base.proofs.Lists.{all_append}
use Rattle.net_base.specs.declared.causes.Cause.{Cause}
use Rattle.net_base.specs.declared.causes.Event.{Event}
use Rattle.ledger_types.specs.declared.tx.Tx.{Tx}
use Rattle.ledger_types.specs.declared.tx.Resolved.{Resolved}
use Rattle.ledger_types.specs.declared.tx.SignedTx.{SignedTx}
use Rattle.session_wire.specs.declared.body.Body.{Body}
use Rattle.flow_machine.specs.declared.acts.Act.{Act}
use Rattle.flow_machine.specs.declared.flows.Checkpoint.{Checkpoint}
use Rattle.net_model.specs.Environment.{Environment}
use Rattle.ledger_types.specs.Signatures.{tx_id}
use Rattle.ledger_types.specs.Stores.{resolved_of}
use Rattle.net_base.specs.declared.values.Hash32.{Hash32}
use Rattle.net_base.proofs.Options.{some_eq}
use Rattle.net_model.specs.State.{NodeState, Effect, Change, with_ids, apply_effect, fresh}
use Rattle.net_model.specs.Steps.{Done, answering, body_in}
use Rattle.net_model.specs.Runs.{item_for, net_step, fresh_net, run_from, run_of}
use Rattle.net_model.specs.Stores.{IsProven, AreProven, StoresHold, RunsHoldStores}
use Rattle.net_model.proofs.Basics.{from_then, get_set, fresh_get}
use Rattle.net_model.proofs.Recorded.{resolved_more}
use Rattle.net_model.proofs.Effects.{step_taken}
use Rattle.net_model.proofs.Local.{net_taken}
use Rattle.net_model.proofs.Acts.{Performs, tells, opens_to, sends_on, takes_from, has_found, has_tagged, has_locked, has_answered, has_recorded, Gives, goes, pushed, popped, finished, failed, Does, starts, answers_to, arrives, acts, effect_does}

module _ {F : Type 0} (w : Environment F) where
  ids_both : (stored more : List SignedTx) → with_ids (stored ++ more) ≡ with_ids stored ++ with_ids more
  ids_both [] more = refl
  ids_both (x ∷ xs) more = ap (λ (l : List (Hash32 × SignedTx)). (tx_id x.tx, x) ∷ l) (ids_both xs more)

  -- a longer list resolves the same
  resolve_more : (stored more : List SignedTx) (tx : Tx) (states : Resolved) → resolved_of (with_ids stored) tx ≡ Some states → resolved_of (with_ids (stored ++ more)) tx ≡ Some states
  resolve_more stored more tx states h = ap (λ (l : List (Hash32 × SignedTx)). resolved_of l tx) (ids_both stored more) ∙ resolved_more (with_ids stored) (with_ids more) tx states h

  proven_more : (stored more : List SignedTx) (stx : SignedTx) → IsProven w stored stx → IsProven w (stored ++ more) stx
  proven_more stored more stx h = record { states = h.states; resolves = resolve_more stored more stx.tx h.states h.resolves; accepted = h.accepted; signed = h.signed; near = h.near }

  all_proven : (stored more xs : List SignedTx) → AllByRecursion (IsProven w stored) xs → AllByRecursion (IsProven w (stored ++ more)) xs
  all_proven stored more [] h = tt
  all_proven stored more (x ∷ xs) h = (proven_more stored more x h.0, all_proven stored more xs h.1)

  -- what is recorded is proven over what stands
  abbrev Records : List SignedTx → Change → Type 0
  Records stored c = AllByRecursion (IsProven w stored) (option_to_list c.recorded)

  module _ (me : ℕ) (s : NodeState F) (now : ℕ) where
    abbrev Here : Change → Type 0
    Here c = Records s.stored c

    done_records : (f : ℕ) (a : Act F) (d : Done) → Performs w me s now f a d → Here d.1
    done_records f a d (tells told e) = subst Here (sym e) tt
    done_records f a d (opens_to to class first i j k e) = subst (λ (x : Done). Here x.1) (sym e) tt
    done_records f a d (sends_on key value session i j e) = subst (λ (x : Done). Here x.1) (sym e) tt
    done_records f a d (takes_from key session next i j e) = subst (λ (x : Done). Here x.1) (sym e) tt
    done_records f a d (has_found id stx i e) = subst (λ (x : Done). Here x.1) (sym e) tt
    done_records f a d (has_tagged id i e) = subst (λ (x : Done). Here x.1) (sym e) tt
    done_records f a d (has_locked token amount list i e) = subst (λ (x : Done). Here x.1) (sym e) tt
    done_records f a d (has_answered q i e) = subst (λ (x : Done). Here x.1) (sym e) tt
    done_records f a d (has_recorded stx states i j k l m n e) = subst (λ (x : Done). Here x.1) (sym e) (record { states = states; resolves = l; accepted = m; signed = n; near = k }, tt)

    gives_records : (at : Checkpoint F) (a : Act F) (e : Effect F) → Gives w me s now at a e → Here e.change
    gives_records at a e (goes d o p i) = subst (λ (x : Effect F). Here x.change) (sym i) (done_records at.flow a d p)
    gives_records at a e (pushed frame i j k) = subst (λ (x : Effect F). Here x.change) (sym k) tt
    gives_records at a e (popped value frame below i j k) = subst (λ (x : Effect F). Here x.change) (sym k) tt
    gives_records at a e (finished value i j k) = subst (λ (x : Effect F). Here x.change) (sym k) tt
    gives_records at a e (failed code i k) = subst (λ (x : Effect F). Here x.change) (sym k) tt

    answering_records : (key : _) (f class : ℕ) (init : Body) (o : Option (F × Act F)) → Here (answering key f class init o).change
    answering_records key f class init None = tt
    answering_records key f class init (Some made) = tt

    does_records : (ev : Event) (body : Option Body) (e : Effect F) → Does w me s now ev body e → Here e.change
    does_records ev body e (starts f class args made i j k l) = subst (λ (x : Effect F). Here x.change) (sym l) tt
    does_records ev body e (answers_to key class first i j k l) = subst (λ (x : Effect F). Here x.change) (sym l) (answering_records key _ class _ _)
    does_records ev body e (arrives key direction number b session i j k l m) = subst (λ (x : Effect F). Here x.change) (sym m) tt
    does_records ev body e (acts f at i j g) = gives_records at at.waiting e g

  apply_stored : (s : NodeState F) (cause : Cause) (e : Effect F) → (apply_effect s cause e).stored ≡ s.stored ++ option_to_list e.change.recorded
  unfolding apply_effect
  apply_stored s cause e = refl

  step_proven : (net next : List (NodeState F)) (p : ℕ) (cause : Cause) (e : Effect F) → net_step w net p cause ≡ Some (next, e) → StoresHold w net → StoresHold w next
  step_proven net next p cause e h all =
      let k = net_taken w net next p cause e h in
      let s = k.old in
      let st = step_taken w p s _ cause (item_for net p s cause.event) e k.step in
      let more = option_to_list e.change.recorded in
      let new = does_records p s cause.moment.0 cause.event (body_in (item_for net p s cause.event)) e (effect_does w p s cause.moment.0 cause.event _ e st.effect) in
      let mine : AreProven w (apply_effect s cause e).stored = subst (AreProven w) (sym (apply_stored s cause e)) (all_append (IsProven w (s.stored ++ more)) s.stored more (all_proven s.stored more s.stored (all p s k.is)) (all_proven s.stored more more new)) in
      let there : StoresHold w (slice_set net p (apply_effect s cause e)) = λ q t is. ⊎_elim
      (λ l. subst (λ (x : NodeState F). AreProven w x.stored) (some_eq (sym l.1 ∙ is)) mine)
      (λ l. all q t (sym l ∙ is))
      (get_set net p s (apply_effect s cause e) q k.is) in
      subst (λ (n : List (NodeState F)). StoresHold w n) (sym k.new) there

  fresh_proven : StoresHold w (fresh_net w)
  fresh_proven q s h = subst (λ (x : NodeState F). AreProven w x.stored) (fresh_get w.nodes q fresh s h) tt

  proven_from : (net last : List (NodeState F)) (causes : List (ℕ × Cause)) → run_from w net causes ≡ Some last → StoresHold w net → StoresHold w last
  proven_from net last [] h all = subst (λ (n : List (NodeState F)). StoresHold w n) (some_eq h) all
  proven_from net last (x ∷ xs) h all = from_then _ (λ done. run_from w done.0 xs) (net_step w net x.0 x.1) last h (λ done is k. proven_from done.0 last xs k (step_proven net done.0 x.0 x.1 done.1 is all))

  pub run_proven : (causes : List (ℕ × Cause)) (net : List (NodeState F)) → run_of w causes ≡ Some net → StoresHold w net
  unfolding run_of
  run_proven causes net h = proven_from (fresh_net w) net causes h fresh_proven

pub stores_hold : {F : Type 0} → RunsHoldStores F
stores_hold w causes net h = run_proven w causes net h
