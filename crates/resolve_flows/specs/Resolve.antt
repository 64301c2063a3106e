-- Resolving: in a session the ancestors of a transaction that are lacking are asked for, the last of them first, and recorded before it.
use Rattle.std.specs.Prelude.{ℕ, ◌+◌, ◌*◌, ◌-◌, ◌<◌, ◌==◌, ◌^◌, List, [], ◌∷◌, ◌++◌, length, take, filter, slice_get, Bool, false, not, Option, Some, None, Result, IfSome, nat_lt, if◌then◌else◌}
use Rattle.std.specs.Int.{w16}
use Rattle.net_base.specs.declared.names.Key.{Key}
use Rattle.net_base.specs.declared.names.Tag.{Tag}
use Rattle.net_base.specs.declared.values.Hash32.{Hash32}
use Rattle.net_base.specs.Reading.{number}
use Rattle.net_base.specs.Forms.{number_at, option_of, option_at, ListWithin}
use Rattle.net_base.specs.Combining.{mapped_at, pair_at}
use Rattle.net_base.specs.Names.{IsKey, key, key_at}
use Rattle.net_base.specs.Values.{IsHash}
use Rattle.ledger_types.specs.declared.tx.SignedTx.{SignedTx}
use Rattle.ledger_types.specs.declared.value.Value.TheVariants as value
use Rattle.ledger_types.specs.Names.{hash_eq, has_hash}
use Rattle.ledger_types.specs.Signatures.{tx_id}
use Rattle.ledger_types.specs.Txs.{IsSignedTx, signed_tx, signed_tx_at}
use Rattle.flow_machine.specs.declared.acts.Act.TheVariants as act
use Rattle.flow_machine.specs.declared.acts.Resumed.TheVariants as resumed
use Rattle.flow_forms.specs.declared.forms.Goes.{Goes}
use Rattle.flow_forms.specs.declared.forms.Goes.TheVariants.{On, Ends, Stops}
use Rattle.flow_forms.specs.Usual.{Place, Resumed, Form, unnamed, raised, tags_in}
use Rattle.resolve_flows.specs.declared.resolve.Resolve.{Resolve}
use Rattle.resolve_flows.specs.declared.resolve.ResolvePlace.{ResolvePlace}
use Rattle.resolve_flows.specs.declared.resolve.ResolvePlace.TheVariants.{Listing, Asking, Receiving, Lacking, Recording, Ending}
use Rattle.resolve_flows.specs.Ids.{ids, ids_at}

-- ---- how it goes on

-- its fields as it is called for a transaction in a session
abbrev pub fresh : Key → SignedTx → Resolve
fresh k stx = record { key = k; stx = stx; pending = []; done = 0; asks = 0; current = None }

-- the id that is asked for next
abbrev pub last_of : List Hash32 → Option Hash32
last_of pending = slice_get pending (length pending - 1)

-- it asks for an id
abbrev pub asks_for : Option Hash32 → Resolve → Goes ResolvePlace Resolve
asks_for None r = Stops r 54
asks_for (Some id) r = On Asking r (act.Send r.key (value.Id id))

-- it asks for the last that is lacking, at most 512 times
abbrev pub asks_next : Resolve → Goes ResolvePlace Resolve
asks_next r = if nat_lt r.asks 512 then asks_for (last_of r.pending) (record r { asks = r.asks + 1 }) else Stops r 62

-- the transaction itself is recorded
abbrev pub records : Resolve → Goes ResolvePlace Resolve
records r = On Ending r (act.Record r.stx)

-- with nothing lacking the transaction is recorded, and else it asks
abbrev pub goes_on : Resolve → Goes ResolvePlace Resolve
goes_on r = if length r.pending == 0 then records r else asks_next r

-- it begins by asking what the transaction lacks
abbrev pub lists : Resolve → Goes ResolvePlace Resolve
lists r = On Listing r (act.Missing r.stx.tx)

-- where the transaction lacks nothing it is recorded, where it lacks more than 256 that is too much, and else these are asked for
abbrev pub listed : Resolve → Resumed → Goes ResolvePlace Resolve
listed r (resumed.Ids list) = if length list == 0 then records r else if nat_lt 256 (length list) then Stops r 62 else asks_next (record r { pending = list })
listed r other = unnamed r other

-- it waits for what it asked for
abbrev pub sent : Resolve → Resumed → Goes ResolvePlace Resolve
sent r resumed.Sent = On Receiving r (act.Receive r.key)
sent r other = unnamed r other

-- whether the transaction has the id
abbrev pub has_id : Option Hash32 → SignedTx → Bool
has_id None stx = false
has_id (Some id) stx = hash_eq (tx_id stx.tx) id

-- a transaction has come, and it asks what this one lacks
abbrev pub takes : SignedTx → Resolve → Goes ResolvePlace Resolve
takes stx r = On Lacking (record r { current = Some stx }) (act.Missing stx.tx)

-- the transaction that it asked for has come; another one isn't expected
abbrev pub received : Resolve → Resumed → Goes ResolvePlace Resolve
received r (resumed.Got (value.Tx stx)) = if has_id (last_of r.pending) stx then takes stx r else Stops r 54
received r other = unnamed r other

-- the one that came is recorded
abbrev pub records_current : Option SignedTx → Resolve → Goes ResolvePlace Resolve
records_current None r = Stops r 54
records_current (Some stx) r = On Recording r (act.Record stx)

-- what is lacking, with these at the end
abbrev pub widened : List Hash32 → List Hash32 → List Hash32
widened pending list = filter (λ h. not (has_hash h list)) pending ++ list

-- with those recorded here no more than 256 may be lacking
abbrev pub widens : List Hash32 → Resolve → Goes ResolvePlace Resolve
widens pending r = if nat_lt 256 (r.done + length pending) then Stops r 62 else asks_next (record r { pending = pending })

-- where the one that came lacks nothing it is recorded, and else that is asked for
abbrev pub lacked : Resolve → Resumed → Goes ResolvePlace Resolve
lacked r (resumed.Ids list) = if length list == 0 then records_current r.current r else widens (widened r.pending list) r
lacked r other = unnamed r other

-- the one that was recorded is lacking no more
abbrev pub recorded : Resolve → Resumed → Goes ResolvePlace Resolve
recorded r resumed.Recorded = goes_on (record r { pending = take (length r.pending - 1) r.pending; done = raised 65535 r.done })
recorded r other = unnamed r other

-- all is recorded
abbrev pub ended : Resolve → Resumed → Goes ResolvePlace Resolve
ended r resumed.Recorded = Ends r value.Unit
ended r other = unnamed r other

-- how it goes on by where it waits
abbrev pub moves : ResolvePlace → Resolve → Resumed → Place → Goes ResolvePlace Resolve
moves Listing r with here = listed r with
moves Asking r with here = sent r with
moves Receiving r with here = received r with
moves Lacking r with here = lacked r with
moves Recording r with here = recorded r with
moves Ending r with here = ended r with

-- the weight of a frame: each time that it may still ask costs five
abbrev pub weight : ResolvePlace → Resolve → ℕ
weight Listing r = 5 * (512 - r.asks) + 2
weight Asking r = 5 * (512 - r.asks) + 5
weight Receiving r = 5 * (512 - r.asks) + 4
weight Lacking r = 5 * (512 - r.asks) + 3
weight Recording r = 5 * (512 - r.asks) + 2
weight Ending r = 1

-- the tags of its fields
abbrev pub tags : Resolve → List Tag
tags r = r.stx.tags ++ tags_in (λ s. s.tags) r.current

-- what the machine is
abbrev pub form : Form ResolvePlace Resolve
form = record { starts = λ r here. lists r; moves = moves; weight = weight; called = λ r. 5 * (512 - r.asks) + 3; tags = tags }

-- ---- its bytes

-- the limits of its fields
abbrev pub IsResolve : Resolve → Type 0
IsResolve r = IsKey r.key × (IsSignedTx r.stx × (ListWithin 256 IsHash r.pending × ((r.done < 2 ^ 16) × ((r.asks < 2 ^ 16) × IfSome r.current IsSignedTx))))

-- the bytes of its fields
abbrev pub resolve : Resolve → List ℕ
resolve r = key r.key ++ (signed_tx r.stx ++ (ids r.pending ++ (number w16 r.done ++ (number w16 r.asks ++ option_of signed_tx r.current))))

-- fields of their parts
abbrev pub resolve_of : Key × (SignedTx × (List Hash32 × (ℕ × (ℕ × Option SignedTx)))) → Resolve
resolve_of p = record { key = p.0; stx = p.1.0; pending = p.1.1.0; done = p.1.1.1.0; asks = p.1.1.1.1.0; current = p.1.1.1.1.1 }

-- reading its fields
unfoldable pub resolve_at : List ℕ → Result (Resolve × List ℕ) ℕ
resolve_at = mapped_at resolve_of (pair_at key_at (pair_at signed_tx_at (pair_at ids_at (pair_at (number_at w16) (pair_at (number_at w16) (option_at signed_tx_at))))))

-- the numbers of its places
abbrev pub place_number : ResolvePlace → ℕ
place_number Listing = 1
place_number Asking = 2
place_number Receiving = 3
place_number Lacking = 4
place_number Recording = 5
place_number Ending = 6

-- its places; the number behind theirs is that of Return
abbrev pub places : List ResolvePlace
places = Listing ∷ Asking ∷ Receiving ∷ Lacking ∷ Recording ∷ Ending ∷ []
