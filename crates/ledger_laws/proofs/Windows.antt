-- An id is signed first at a moment inside the window that its tear-off shows, which is the transaction's where no digests collide.
use Rattle.std.proofs.Common.{◌≡◌, ℕ, zero, suc, List, [], ◌∷◌, ◌++◌, map, Option, Some, None, Bool, true, false, cond, not, find, take, option_to_list, slice_get, refl, sym, ap, subst, ◌∙◌, append_assoc, append-nil, true≢false}
use Rattle.std.specs.Prelude.{IfSome}
use Rattle.std.specs.List.{AllByRecursion, list_any}
use Rattle.std.proofs.lemmas.Bool.{or_parts}
use Rattle.std.proofs.lemmas.Option.{none-some}
use Rattle.net_base.specs.declared.values.Hash32.{Hash32}
use Rattle.net_base.specs.declared.values.Party.{Party}
use Rattle.net_base.specs.declared.values.Moment.{Moment}
use Rattle.net_base.specs.declared.names.Identity.{Identity}
use Rattle.net_base.proofs.Lists.{all_find, all_get, find_push, none_push, of_map}
use Rattle.net_base.proofs.Options.{some_eq}
use Rattle.ledger_types.specs.declared.tx.Window.{Window}
use Rattle.ledger_types.specs.declared.tx.Tx.{Tx}
use Rattle.ledger_types.specs.declared.torn.TornTx.{TornTx}
use Rattle.ledger_types.specs.declared.torn.Visible.{Visible}
use Rattle.ledger_types.specs.declared.notary.ConflictItem.{ConflictItem}
use Rattle.ledger_types.specs.declared.notary.Request.{Request}
use Rattle.ledger_types.specs.declared.notary.NotaryAnswer.{NotaryAnswer}
use Rattle.ledger_types.specs.declared.notary.NotaryAnswer.TheVariants as answer
use Rattle.ledger_types.specs.declared.notary.Entry.{Entry}
use Rattle.ledger_types.specs.Names.{is_party}
use Rattle.ledger_types.specs.Notary.{is_signature, signs, conflicts, is_inside, tag_by, has_good_tag, answer_unsigned, answer_shown, answer_torn, IsBookedAt, IsBook}
use Rattle.ledger_types.specs.Signatures.{tx_id}
use Rattle.ledger_types.specs.Tears.{visible_of}
use Rattle.ledger_types.specs.Txs.{IsWindow}
use Rattle.tx_tear.specs.Hashed.{AreApart, hashed_for_all}
use Rattle.tx_tear.specs.Tearing.{tear_of}
use Rattle.net_model.specs.Environment.{Environment, identity}
use Rattle.net_model.specs.State.{NodeState, Record, apply_effect, fresh, replay, replay_from}
use Rattle.net_model.specs.Runs.{stamped, IsLocalFrom, IsLocal, AreLocal}
use Rattle.net_model.specs.Stores.{IsProven, StoresHold, NamesNotary}
use Rattle.net_model.specs.Tags.{entries_at, book_of}
use Rattle.net_model.proofs.Basics.{apply_entries, find_before}
use Rattle.net_model.proofs.BookKept.{step_booked}
use Rattle.net_model.proofs.Effects.{Stepped, step_taken}
use Rattle.node_tables.specs.Journals.{records_of}
use Rattle.ledger_laws.specs.Ledgers.{IsSignedInBook, hashed_to_sign}
use Rattle.ledger_laws.specs.Windows.{IsSignedInWindow, AreSignedInWindows}
use Rattle.ledger_laws.proofs.Reading.{IsSizedEntry}
use Rattle.ledger_laws.proofs.Inputs.{signed_window}
use Rattle.ledger_laws.proofs.Signing.{if_signed, booked_torn, first_signed}
use Rattle.ledger_laws.proofs.Spending.{found_first, over_is}

-- ---- what is signed anew is signed inside the window

-- of two answers, of which the first is no signature, or is not the one that is given, a signature is the second
if_other : (b : Bool) (x y : NotaryAnswer) → is_signature x ≡ false → is_signature (cond b x y) ≡ true → is_signature y ≡ true
if_other true x y unsigned h = absurd (true≢false (sym h ∙ unsigned))
if_other false x y unsigned h = h

if_not : (b : Bool) (x y : NotaryAnswer) → b ≡ false → is_signature (cond b x y) ≡ true → is_signature y ≡ true
if_not true x y other h = absurd (true≢false other)
if_not false x y other h = h

module _ (mark : Party → Hash32 → Hash32) where
  unsigned_inside : (me : Party) (id : Hash32) (now : Moment) (window : Option Window) (items : List ConflictItem) → is_signature (answer_unsigned mark me id now window items) ≡ true → is_inside window now ≡ true
  unsigned_inside me id now window [] h = (if_signed (is_inside window now) (answer.Signed (tag_by mark me id)) (answer.OutsideWindow now) refl h).0
  unsigned_inside me id now window (item ∷ items) h = absurd (true≢false (sym h))

  shown_inside : (me : Party) (before : List Entry) (q : Request) (now : Moment) (v : Visible) → list_any (signs q.torn.id) before ≡ false → is_signature (answer_shown mark me before q now v) ≡ true → is_inside v.window now ≡ true
  shown_inside me before q now v new h =
      let good = if_other (not (has_good_tag mark q)) answer.BadRequestTag _ refl h in
      unsigned_inside me q.torn.id now v.window (conflicts before q.torn.id v) (if_not (list_any (signs q.torn.id) before) (answer.Signed (tag_by mark me q.torn.id)) _ new good)

  booked_inside : (me : Identity) (before : List Entry) (now : Moment) (e : Entry) (v : Visible) → IsBookedAt mark me before now e → visible_of e.request.torn ≡ Some v → is_signature e.answer ≡ true → list_any (signs e.request.torn.id) before ≡ false → is_inside v.window now ≡ true
  booked_inside me before now e v booked sees signed new =
      let over : is_signature (answer_torn mark me.party before e.request now (Some v)) ≡ true = subst (λ (o : Option Visible). is_signature (answer_torn mark me.party before e.request now o) ≡ true) sees (booked_torn mark me before now e booked signed) in
      shown_inside me.party before e.request now v new (if_signed (is_party me.party v.notary) (answer_shown mark me.party before e.request now v) answer.WrongNotary refl over).1

-- ---- the record that booked the first entry that signed an id

-- where none passes none is found
unfound : {X : Type 0} (P : X → Bool) (xs : List X) → list_any P xs ≡ false → find P xs ≡ None
unfound P [] none = refl
unfound P (x ∷ xs) none = let both = or_parts (P x) (list_any P xs) none in ap (λ (b : Bool). cond b (Some x) (find P xs)) both.0 ∙ unfound P xs both.1

-- entries that were booked stay
grown : {F : Type 0} (s : NodeState F) (rs : List (Record F)) → (more : List Entry) × ((replay_from s rs).entries ≡ s.entries ++ more)
grown s [] = ([], sym (append-nil s.entries))
grown s (r ∷ rs) =
    let new = option_to_list r.effect.change.booked in
    let later = grown (apply_effect s r.cause r.effect) rs in
    (new ++ later.0, later.1 ∙ ap (λ (l : List Entry). l ++ later.0) (apply_entries s r.cause r.effect) ∙ append_assoc s.entries new later.0)

-- a record that follows a state booked the entry, at its moment, over entries that had not signed the id
record IsFirstOf {F : Type 0} (w : Environment F) (p : ℕ) (id : Hash32) (entry : Entry) (s : NodeState F) (rs : List (Record F)) : Type 0 where
  place : ℕ
  at : Record F
  there : slice_get rs place ≡ Some at
  booked : at.effect.change.booked ≡ Some entry
  unsigned : list_any (signs id) (replay_from s (take place rs)).entries ≡ false
  fresh : IsBookedAt w.mark (identity w p) (replay_from s (take place rs)).entries (record { 0 = at.cause.moment.0 }) entry

module _ {F : Type 0} (w : Environment F) (p : ℕ) (id : Hash32) (entry : Entry) where
  behind : (s : NodeState F) (r : Record F) (rs : List (Record F)) → IsFirstOf w p id entry (apply_effect s r.cause r.effect) rs → IsFirstOf w p id entry s (r ∷ rs)
  behind s r rs f = record { place = suc f.place; at = f.at; there = f.there; booked = f.booked; unsigned = f.unsigned; fresh = f.fresh }

  first_from : (s : NodeState F) (rs : List (Record F)) → IsLocalFrom w p s rs → list_any (signs id) s.entries ≡ false → find (signs id) (replay_from s rs).entries ≡ Some entry → IsFirstOf w p id entry s rs
  first_from s [] local none is = absurd (none-some entry (sym (unfound (signs id) s.entries none) ∙ is))
  first_from s (r ∷ rs) local none is = by r.effect.change.booked refl (λ still. first_from next rs (subst (λ (x : NodeState F). IsLocalFrom w p x rs) st.state local.3) still is)
    where
      next : NodeState F
      next = apply_effect s r.cause r.effect

      st : Stepped w p s r.cause (stamped local.0 r.effect.change.came) local.1 r.effect
      st = step_taken w p s local.1 r.cause _ r.effect local.2

      by : (o : Option Entry) → r.effect.change.booked ≡ o → (list_any (signs id) next.entries ≡ false → IsFirstOf w p id entry next rs) → IsFirstOf w p id entry s (r ∷ rs)
      by None e later = behind s r rs (later (subst (λ (l : List Entry). list_any (signs id) l ≡ false) (sym (apply_entries s r.cause r.effect ∙ ap (λ (o : Option Entry). s.entries ++ option_to_list o) e ∙ append-nil s.entries)) none))
      by (Some b) e later = on (signs id b) refl
        where
          after : next.entries ≡ s.entries ++ b ∷ []
          after = apply_entries s r.cause r.effect ∙ ap (λ (o : Option Entry). s.entries ++ option_to_list o) e

          on : (t : Bool) → signs id b ≡ t → IsFirstOf w p id entry s (r ∷ rs)
          on true signed =
              let more = grown next rs in
              let found : find (signs id) (replay_from next rs).entries ≡ Some b =
              ap (find (signs id)) (more.1 ∙ ap (λ (l : List Entry). l ++ more.0) after) ∙ find_before (signs id) (s.entries ++ b ∷ []) more.0 b (find_push (signs id) s.entries b (unfound (signs id) s.entries none) signed) in
              let same : b ≡ entry = some_eq (sym found ∙ is) in
              record {
                place = zero;
                at = r;
                there = refl;
                booked = e ∙ ap Some same;
                unsigned = none;
                fresh = subst (IsBookedAt w.mark (identity w p) s.entries (record { 0 = r.cause.moment.0 })) same (step_booked w p s r.cause _ r.effect st.effect b e);
              }
          on false other = behind s r rs (later (subst (λ (l : List Entry). list_any (signs id) l ≡ false) (sym after) (none_push (signs id) s.entries b none other)))

  first_of : (rs : List (Record F)) → IsLocal w p rs → find (signs id) (replay rs).entries ≡ Some entry → IsFirstOf w p id entry fresh rs
  unfolding replay
  first_of rs local is = first_from fresh rs local refl is

  unsigned_before : (rs : List (Record F)) (f : IsFirstOf w p id entry fresh rs) → list_any (signs id) (replay (take f.place rs)).entries ≡ false
  unfolding replay
  unsigned_before rs f = f.unsigned

-- ---- a recorded transaction

module _ {F : Type 0} (e : Environment F) (lists : List (List (List ℕ))) where
  abbrev journals : List (List (Record F))
  journals = map (records_of e.frame_at) lists

  abbrev net : List (NodeState F)
  net = map replay journals

  module _ (book : IsBook e.mark (identity e e.notary.0) (book_of e net)) (local : AreLocal e journals) (proven : StoresHold e net) (signed : IsSignedInBook e net) (names : NamesNotary e) (booked_sized : AllByRecursion IsSizedEntry (book_of e net)) where
    booked_in : (tx : Tx) (entry : Entry) (v : Visible) → find (signs (tx_id tx)) (book_of e net) ≡ Some entry → tx_id tx ≡ entry.request.torn.id → is_signature entry.answer ≡ true → visible_of entry.request.torn ≡ Some v
        → (IfSome tx.window IsWindow → AreApart (hashed_to_sign (book_of e net) tx) → v.window ≡ tx.window) → IsSignedInWindow e lists net tx
    booked_in tx entry v is of signature sees window = by (slice_get net e.notary.0) refl is
      where
        by : (o : Option (NodeState F)) → slice_get net e.notary.0 ≡ o → find (signs (tx_id tx)) (entries_at o) ≡ Some entry → IsSignedInWindow e lists net tx
        by None at found = absurd (none-some entry found)
        by (Some s) at found =
            let records = of_map replay journals e.notary.0 s at in
            let bodies = of_map (records_of e.frame_at) lists e.notary.0 records.0 records.1 in
            let one = first_of e e.notary.0 (tx_id tx) entry records.0 (local e.notary.0 records.0 records.1) (subst (λ (x : NodeState F). find (signs (tx_id tx)) x.entries ≡ Some entry) (sym records.2) found) in
            record {
              journal = bodies.0;
              of_notary = bodies.1;
              place = one.place;
              at = one.at;
              there = subst (λ (rs : List (Record F)). slice_get rs one.place ≡ Some one.at) (sym bodies.2) one.there;
              entry = entry;
              booked = one.booked;
              first = is;
              unsigned = subst (λ (rs : List (Record F)). list_any (signs (tx_id tx)) (replay (take one.place rs)).entries ≡ false) (sym bodies.2) (unsigned_before e e.notary.0 (tx_id tx) entry records.0 one);
              inside = λ limits apart. subst (λ (o : Option Window). is_inside o one.at.cause.moment ≡ true) (window limits apart)
                  (booked_inside e.mark (identity e e.notary.0) (replay_from fresh (take one.place records.0)).entries one.at.cause.moment entry v one.fresh sees signature
                  (subst (λ (id : Hash32). list_any (signs id) (replay_from fresh (take one.place records.0)).entries ≡ false) of one.unsigned));
            }

    pub in_windows : AreSignedInWindows e lists net
    in_windows p n s stx at there asks =
        let one = all_get (IsProven e s.stored) s.stored n stx (proven p s at) there in
        let found = found_first (signs (tx_id stx.tx)) (book_of e net) (signed.stored p n s stx at there asks) in
        let first = first_signed e.mark (identity e e.notary.0) (book_of e net) (tx_id stx.tx) found.0 book found.1 in
        let sized : IsSizedEntry found.0 = all_find IsSizedEntry (signs (tx_id stx.tx)) (book_of e net) found.0 booked_sized found.1 in
        booked_in stx.tx found.0 first.shown.seen found.1 first.of first.signed first.shown.sees (λ limits apart.
        let apart_two : AreApart (hashed_for_all [] (tear_of stx.tx ∷ found.0.request.torn ∷ [])) = subst (λ (l : List TornTx). AreApart (hashed_for_all [] (tear_of stx.tx ∷ l))) (over_is (book_of e net) (tx_id stx.tx) found.0 found.1) apart in
        signed_window stx.tx found.0.request.torn first.shown.seen apart_two sized first.of first.shown.sees (names stx.tx one.states one.accepted asks) first.shown.names limits)
