-- Entries that are added to a book.
use Rattle.std.proofs.Common.{◌≡◌, List, Option, Some, None, true, find, refl}
use Rattle.net_base.specs.declared.values.Hash32.{Hash32}
use Rattle.net_base.specs.declared.values.Party.{Party}
use Rattle.net_base.specs.declared.values.Moment.{Moment}
use Rattle.net_base.specs.declared.names.Identity.{Identity}
use Rattle.net_base.proofs.Options.{some_eq}
use Rattle.ledger_types.specs.declared.notary.Request.{Request}
use Rattle.ledger_types.specs.declared.notary.Entry.{Entry}
use Rattle.ledger_types.specs.Notary.{repeats, is_notary, reply_over, reply, entry_of}
use Rattle.net_model.specs.Steps.{booked_by}
use Rattle.net_model.proofs.Basics.{from_cond}

-- the entry is the one of a fresh answer: the node is the notary, and no entry repeats the request
pub record Added (mark : Party → Hash32 → Hash32) (me : Identity) (entries : List Entry) (q : Request) (now : Moment) (e : Entry) : Type 0 where
  pub here : is_notary me ≡ true
  pub new : find (repeats q) entries ≡ None
  pub fresh : (reply mark entries q me now).fresh ≡ true
  pub is : entry_of q (reply mark entries q me now).answer ≡ e

module _ (mark : Party → Hash32 → Hash32) (me : Identity) (entries : List Entry) (q : Request) (now : Moment) where
  fresh_over : (o : Option Entry) → (reply_over mark me entries q now o).fresh ≡ true → (o ≡ None) × (is_notary me ≡ true)
  fresh_over None h = (refl, h)
  fresh_over (Some e) h = cc

  fresh_reply : (reply mark entries q me now).fresh ≡ true → (find (repeats q) entries ≡ None) × (is_notary me ≡ true)
  unfolding reply
  fresh_reply h = fresh_over (find (repeats q) entries) h

  pub added : (e : Entry) → booked_by q (reply mark entries q me now) ≡ Some e → Added mark me entries q now e
  added e h =
      from_cond (Added mark me entries q now e) (reply mark entries q me now).fresh (Some (entry_of q (reply mark entries q me now).answer)) e h
      (λ fresh k. let p = fresh_reply fresh in record { here = p.1; new = p.0; fresh = fresh; is = some_eq k })
