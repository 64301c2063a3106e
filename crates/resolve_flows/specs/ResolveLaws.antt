-- The laws of resolving.
use Rattle.std.specs.Prelude.{◌≡◌, ℕ, ◌+◌, ◌*◌, ◌-◌, ◌≤◌, ◌<◌, ◌==◌, List, ◌++◌, length, take, filter, true, not, refl, Option, Some, None, IfSome, nat_lt, if◌then◌else◌, Bool}
use Rattle.std.specs.List.{list_all, AllByRecursion}
use Rattle.std.specs.Int.{w16}
use Rattle.std.proofs.Common.{arith, sym, subst, length-take}
use Rattle.std.proofs.lemmas.Bool.{ltb-true, ltb-false}
use Rattle.net_base.specs.declared.values.Hash32.{Hash32}
use Rattle.net_base.specs.Reading.{number}
use Rattle.net_base.specs.Forms.{option_of}
use Rattle.net_base.specs.Laws.{Laws}
use Rattle.net_base.specs.Combining.{pair_laws, iso_laws}
use Rattle.net_base.specs.Fields.{u16_laws, option_laws}
use Rattle.net_base.specs.Names.{key, key_laws}
use Rattle.net_base.specs.Values.{IsHash}
use Rattle.net_base.proofs.Lists.{all_append, all_kept, all_take, all_get}
use Rattle.ledger_types.specs.declared.tx.SignedTx.{SignedTx}
use Rattle.ledger_types.specs.declared.value.Value.TheVariants as value
use Rattle.ledger_types.specs.Names.{has_hash}
use Rattle.ledger_types.specs.Txs.{IsSignedTx, signed_tx, signed_tx_laws}
use Rattle.ledger_types.proofs.Sizes.{signed_fits, joined, number16_fits}
use Rattle.flow_machine.specs.declared.acts.Resumed.TheVariants as resumed
use Rattle.flow_machine.specs.Limits.{IsResumed}
use Rattle.flow_forms.specs.declared.forms.At.TheVariants as stands
use Rattle.flow_forms.specs.declared.forms.Goes.TheVariants.{Stops}
use Rattle.flow_forms.specs.Shared.{stops_owes}
use Rattle.flow_forms.specs.Usual.{Place, Resumed, Owes, IsForm, Numbers, places_of, IsAt, unnamed_owes, raised, tags_in, owes_if, joined_pass, parts_pass, Kept}
use Rattle.flow_forms.specs.Sizes.{option_fits, key_fits}
use Rattle.resolve_flows.specs.declared.resolve.Resolve.{Resolve}
use Rattle.resolve_flows.specs.declared.resolve.ResolvePlace.{ResolvePlace}
use Rattle.resolve_flows.specs.declared.resolve.ResolvePlace.TheVariants.{Listing, Asking, Receiving, Lacking, Recording, Ending}
use Rattle.resolve_flows.specs.Ids.{ids, ids_laws, ids_fit}
use Rattle.resolve_flows.specs.Resolve.{last_of, asks_for, asks_next, records, listed, sent, has_id, takes, received, records_current, widened, widens, lacked, recorded, ended, moves, weight, tags, form, IsResolve, resolve, resolve_of, resolve_at, place_number, places}

-- its fields' laws
pub resolve_laws : Laws IsResolve resolve resolve_at
unfolding resolve_at
resolve_laws = iso_laws resolve_of (λ r. (r.key, (r.stx, (r.pending, (r.done, (r.asks, r.current)))))) (λ _. refl) (λ _. refl) (pair_laws key_laws (pair_laws signed_tx_laws (pair_laws ids_laws (pair_laws u16_laws (pair_laws u16_laws (option_laws signed_tx_laws))))))

-- its places' laws
pub told : (callable : Bool) (p : ResolvePlace) → IsAt (places_of callable places place_number) (stands.Asking p)
told callable Listing = refl
told callable other = refl

abbrev pub numbers : Numbers ResolvePlace
numbers = record { all = places; number = place_number; told = told; few = refl }

-- its fields are short
pub short : (r : Resolve) → IsResolve r → length (resolve r) ≤ 32766
short r h =
    let current = option_fits IsSignedTx signed_tx 6059 signed_fits r.current h.1.1.1.1.1 in
    let asks = joined (number w16 r.asks) (option_of signed_tx r.current) 2 6060 (number16_fits r.asks) current in
    let done = joined (number w16 r.done) (number w16 r.asks ++ option_of signed_tx r.current) 2 6062 (number16_fits r.done) asks in
    let pending = joined (ids r.pending) (number w16 r.done ++ (number w16 r.asks ++ option_of signed_tx r.current)) 8194 6064 (ids_fit r.pending h.1.1.0) done in
    let stx = joined (signed_tx r.stx) (ids r.pending ++ (number w16 r.done ++ (number w16 r.asks ++ option_of signed_tx r.current))) 6059 14258 (signed_fits r.stx h.1.0) pending in
    let all = joined (key r.key) (signed_tx r.stx ++ (ids r.pending ++ (number w16 r.done ++ (number w16 r.asks ++ option_of signed_tx r.current)))) 5 20317 (key_fits r.key h.0) stx in
    omega (arith, all)

-- what it keeps
abbrev pub kept : Kept Resolve
kept = record { exact = Unit {0}; within = IsResolve; spelling = resolve; reading = resolve_at; laws = resolve_laws; short = short }

-- ---- what it owes

-- asking for an id that is there
asks_for_owes : (most : ℕ) (r s : Resolve) (with : Resumed) (here : Place) → (IsResolve r → IsResumed with → IsResolve s) → tags s ≡ tags r → s.asks < 512 → 5 * (512 - s.asks) + 2 ≤ most → (id : Option Hash32) → last_of s.pending ≡ id
    → Owes form IsResolve most r with here (asks_for id (record s { asks = s.asks + 1 }))
asks_for_owes most r s with here keeps same less le None is = stops_owes form IsResolve most r (record s { asks = s.asks + 1 }) with here 54 (omega arith) (omega (arith, le)) (λ h small. let k = keeps h small in (k.0, (k.1.0, (k.1.1.0, (k.1.1.1.0, (omega (arith, less), k.1.1.1.1.1)))))) (λ test old. subst (λ ts. list_all test ts ≡ true) (sym same) old)
asks_for_owes most r s with here keeps same less le (Some id) is = record {
  limits = λ h small place. let k = keeps h small in ((k.0, (k.1.0, (k.1.1.0, (k.1.1.1.0, (omega (arith, less), k.1.1.1.1.1))))), (k.0, all_get IsHash s.pending (length s.pending - 1) id k.1.1.0.1 is));
  tags = λ test old given. (subst (λ ts. list_all test ts ≡ true) (sym same) old, refl);
  falls = omega (arith, less, le);
  asks = refl;
}

-- asking for what is lacking
asks_next_owes : (most : ℕ) (r s : Resolve) (with : Resumed) (here : Place) → (IsResolve r → IsResumed with → IsResolve s) → tags s ≡ tags r → 5 * (512 - s.asks) + 2 ≤ most → Owes form IsResolve most r with here (asks_next s)
asks_next_owes most r s with here keeps same le =
    owes_if form IsResolve most r with here (nat_lt s.asks 512) (asks_for (last_of s.pending) (record s { asks = s.asks + 1 })) (Stops s 62)
    (λ less. asks_for_owes most r s with here keeps same (ltb-true s.asks 512 less) le (last_of s.pending) refl)
    (λ _. stops_owes form IsResolve most r s with here 62 (omega arith) (omega (arith, le)) keeps (λ test old. subst (λ ts. list_all test ts ≡ true) (sym same) old))

-- recording the transaction itself
records_owes : (most : ℕ) (r s : Resolve) (with : Resumed) (here : Place) → (IsResolve r → IsResumed with → IsResolve s) → tags s ≡ tags r → 2 ≤ most → Owes form IsResolve most r with here (records s)
records_owes most r s with here keeps same le = record {
  limits = λ h small place. let k = keeps h small in (k, k.1.0);
  tags = λ test old given. let all = subst (λ ts. list_all test ts ≡ true) (sym same) old in (all, (parts_pass test s.stx.tags (tags_in (λ t. t.tags) s.current) all).0);
  falls = omega (arith, le);
  asks = refl;
}

listed_owes : (r : Resolve) (with : Resumed) (here : Place) → Owes form IsResolve (weight Listing r) r with here (listed r with)
listed_owes r (resumed.Ids list) here =
    let most = weight Listing r in
    owes_if form IsResolve most r (resumed.Ids list) here (length list == 0) (records r) (if nat_lt 256 (length list) then Stops r 62 else asks_next (record r { pending = list }))
    (λ _. records_owes most r r (resumed.Ids list) here (λ h small. h) refl (omega arith))
    (λ _. owes_if form IsResolve most r (resumed.Ids list) here (nat_lt 256 (length list)) (Stops r 62) (asks_next (record r { pending = list }))
    (λ _. stops_owes form IsResolve most r r (resumed.Ids list) here 62 (omega arith) (omega arith) (λ h small. h) (λ test old. old))
    (λ few. let fits : length list ≤ 256 = ltb-false 256 (length list) few in asks_next_owes most r (record r { pending = list }) (resumed.Ids list) here (λ h small. (h.0, (h.1.0, ((fits, small), h.1.1.1)))) refl (omega arith)))
listed_owes r other here = unnamed_owes form IsResolve (weight Listing r) r other here (omega arith)

sent_owes : (r : Resolve) (with : Resumed) (here : Place) → Owes form IsResolve (weight Asking r) r with here (sent r with)
sent_owes r resumed.Sent here = record { limits = λ h small place. (h, h.0); tags = λ test old given. (old, refl); falls = omega arith; asks = refl }
sent_owes r other here = unnamed_owes form IsResolve (weight Asking r) r other here (omega arith)

received_owes : (r : Resolve) (with : Resumed) (here : Place) → Owes form IsResolve (weight Receiving r) r with here (received r with)
received_owes r (resumed.Got (value.Tx stx)) here =
    let most = weight Receiving r in
    owes_if form IsResolve most r (resumed.Got (value.Tx stx)) here (has_id (last_of r.pending) stx) (takes stx r) (Stops r 54)
    (λ _. record {
      limits = λ h small place. ((h.0, (h.1.0, (h.1.1.0, (h.1.1.1.0, (h.1.1.1.1.0, small))))), small.0);
      tags = λ test old given. (joined_pass test r.stx.tags stx.tags (parts_pass test r.stx.tags (tags_in (λ t. t.tags) r.current) old).0 given, refl);
      falls = omega arith;
      asks = refl;
    })
    (λ _. stops_owes form IsResolve most r r (resumed.Got (value.Tx stx)) here 54 (omega arith) (omega arith) (λ h small. h) (λ test old. old))
received_owes r other here = unnamed_owes form IsResolve (weight Receiving r) r other here (omega arith)

records_current_owes : (r : Resolve) (with : Resumed) (here : Place) (o : Option SignedTx) → r.current ≡ o → Owes form IsResolve (weight Lacking r) r with here (records_current o r)
records_current_owes r with here None is = stops_owes form IsResolve (weight Lacking r) r r with here 54 (omega arith) (omega arith) (λ h small. h) (λ test old. old)
records_current_owes r with here (Some stx) is = record {
  limits = λ h small place. (h, subst (λ o. IfSome o IsSignedTx) is h.1.1.1.1.1);
  tags = λ test old given. (old, subst (λ o. list_all test (tags_in (λ t. t.tags) o) ≡ true) is (parts_pass test r.stx.tags (tags_in (λ t. t.tags) r.current) old).1);
  falls = omega arith;
  asks = refl;
}

widens_owes : (pending : List Hash32) (r : Resolve) (with : Resumed) (here : Place) → (IsResolve r → IsResumed with → AllByRecursion IsHash pending) → Owes form IsResolve (weight Lacking r) r with here (widens pending r)
widens_owes pending r with here all =
    owes_if form IsResolve (weight Lacking r) r with here (nat_lt 256 (r.done + length pending)) (Stops r 62) (asks_next (record r { pending = pending }))
    (λ _. stops_owes form IsResolve (weight Lacking r) r r with here 62 (omega arith) (omega arith) (λ h small. h) (λ test old. old))
    (λ few. let fits : r.done + length pending ≤ 256 = ltb-false 256 (r.done + length pending) few in asks_next_owes (weight Lacking r) r (record r { pending = pending }) with here (λ h small. (h.0, (h.1.0, ((omega (arith, fits), all h small), h.1.1.1)))) refl (omega arith))

lacked_owes : (r : Resolve) (with : Resumed) (here : Place) → Owes form IsResolve (weight Lacking r) r with here (lacked r with)
lacked_owes r (resumed.Ids list) here =
    owes_if form IsResolve (weight Lacking r) r (resumed.Ids list) here (length list == 0) (records_current r.current r) (widens (widened r.pending list) r)
    (λ _. records_current_owes r (resumed.Ids list) here r.current refl)
    (λ _. widens_owes (widened r.pending list) r (resumed.Ids list) here (λ h small. all_append IsHash (filter (λ x. not (has_hash x list)) r.pending) list (all_kept IsHash (λ x. not (has_hash x list)) r.pending h.1.1.0.1) small))
lacked_owes r other here = unnamed_owes form IsResolve (weight Lacking r) r other here (omega arith)

-- the fields once one is recorded keep their limits
less_within : (r : Resolve) → IsResolve r → IsResolve (record r { pending = take (length r.pending - 1) r.pending; done = raised 65535 r.done })
less_within r h = (h.0, (h.1.0, ((omega (arith, length-take (length r.pending - 1) r.pending, h.1.1.0.0), all_take IsHash (length r.pending - 1) r.pending h.1.1.0.1), (omega arith, h.1.1.1.1))))

recorded_owes : (r : Resolve) (with : Resumed) (here : Place) → Owes form IsResolve (weight Recording r) r with here (recorded r with)
recorded_owes r resumed.Recorded here =
    let most = weight Recording r in
    let s = record r { pending = take (length r.pending - 1) r.pending; done = raised 65535 r.done } in
    owes_if form IsResolve most r resumed.Recorded here (length s.pending == 0) (records s) (asks_next s)
    (λ _. records_owes most r s resumed.Recorded here (λ h small. less_within r h) refl (omega arith))
    (λ _. asks_next_owes most r s resumed.Recorded here (λ h small. less_within r h) refl (omega arith))
recorded_owes r other here = unnamed_owes form IsResolve (weight Recording r) r other here (omega arith)

ended_owes : (r : Resolve) (with : Resumed) (here : Place) → Owes form IsResolve (weight Ending r) r with here (ended r with)
ended_owes r resumed.Recorded here = record { limits = λ h small place. (h, tt); tags = λ test old given. (old, refl); falls = omega arith; asks = refl }
ended_owes r other here = unnamed_owes form IsResolve (weight Ending r) r other here (omega arith)

moves_owe : (p : ResolvePlace) (r : Resolve) (with : Resumed) (here : Place) → Owes form IsResolve (weight p r) r with here (moves p r with here)
moves_owe Listing r with here = listed_owes r with here
moves_owe Asking r with here = sent_owes r with here
moves_owe Receiving r with here = received_owes r with here
moves_owe Lacking r with here = lacked_owes r with here
moves_owe Recording r with here = recorded_owes r with here
moves_owe Ending r with here = ended_owes r with here

-- the machine owes nothing more
pub is_form : IsForm IsResolve form
is_form = record {
  starts = λ r here. record { limits = λ h small place. (h, h.1.0.0); tags = λ test old given. (old, refl); falls = omega arith; asks = refl };
  moves = moves_owe;
}
