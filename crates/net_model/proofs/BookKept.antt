-- A node's book is one whose entries were added for fresh answers.
use Rattle.std.proofs.Common.{◌≡◌, ℕ, ◌⊎◌, inl, inr, ⊎_elim, List, [], ◌∷◌, ◌++◌, Option, Some, None, true, option_to_list, slice_get, slice_set, refl, sym, ap, subst, ◌∙◌, append_assoc, append-nil}
use Rattle.net_base.specs.declared.causes.Cause.{Cause}
use Rattle.net_base.specs.declared.causes.Event.{Event}
use Rattle.net_base.specs.declared.values.Hash32.{Hash32}
use Rattle.net_base.specs.declared.values.Party.{Party}
use Rattle.net_base.specs.declared.values.Moment.{Moment}
use Rattle.net_base.specs.declared.names.Identity.{Identity}
use Rattle.net_base.proofs.Options.{some_eq}
use Rattle.ledger_types.specs.declared.notary.Entry.{Entry}
use Rattle.ledger_types.specs.declared.notary.Request.{Request}
use Rattle.session_wire.specs.declared.body.Body.{Body}
use Rattle.flow_machine.specs.declared.acts.Act.{Act}
use Rattle.flow_machine.specs.declared.flows.Checkpoint.{Checkpoint}
use Rattle.net_model.specs.Environment.{Environment, identity}
use Rattle.ledger_types.specs.Notary.{reply, entry_of, IsBookedAt, IsBooked, IsBookAfter, IsBook}
use Rattle.net_model.specs.State.{NodeState, Effect, Change, Record, apply_effect, fresh, replay, replay_from}
use Rattle.net_model.specs.Steps.{Done, effect_of, booked_by, body_in, answering}
use Rattle.net_model.specs.Runs.{IsLocalFrom, IsLocal, item_for, net_step, fresh_net, run_from, run_of}
use Rattle.net_model.specs.Books.{BooksOfRuns, BooksOfJournals}
use Rattle.net_model.proofs.Booked.{added}
use Rattle.net_model.proofs.Basics.{from_then, get_set, fresh_get, apply_entries}
use Rattle.net_model.proofs.Local.{net_taken}
use Rattle.net_model.proofs.Effects.{step_taken}
use Rattle.net_model.proofs.Acts.{Performs, tells, opens_to, sends_on, takes_from, has_found, has_tagged, has_locked, has_answered, has_recorded, Gives, goes, pushed, popped, finished, failed, Does, starts, answers_to, arrives, acts, effect_does}

module _ (mark : Party → Hash32 → Hash32) (me : Identity) where
  after_more : (before es : List Entry) (e : Entry) → IsBookAfter mark me before es → IsBooked mark me (before ++ es) e → IsBookAfter mark me before (es ++ e ∷ [])
  after_more before [] e h k = (subst (λ (b : List Entry). IsBooked mark me b e) (append-nil before) k, tt)
  after_more before (x ∷ es) e h k = (h.0, after_more (before ++ x ∷ []) es e h.1 (subst (λ (b : List Entry). IsBooked mark me b e) (sym (append_assoc before (x ∷ []) es)) k))

  book_more : (book : List Entry) (o : Option Entry) → IsBook mark me book → ((e : Entry) → o ≡ Some e → IsBooked mark me book e) → IsBook mark me (book ++ option_to_list o)
  unfolding IsBook
  book_more book None h f = subst (IsBookAfter mark me []) (sym (append-nil book)) h
  book_more book (Some e) h f = after_more [] book e h (f e refl)

  no_book : IsBook mark me []
  unfolding IsBook
  no_book = tt

-- a booked entry is the one of a reply over the entries that stand
abbrev IsReplied : {F : Type 0} → Environment F → ℕ → NodeState F → ℕ → Change → Type 0
IsReplied w me s now change = (change.booked ≡ None) ⊎ ((q : Request) × (change.booked ≡ booked_by q (reply w.mark s.entries q (identity w me) (record { 0 = now }))))

module _ {F : Type 0} (w : Environment F) (me : ℕ) (s : NodeState F) (now : ℕ) where
  done_replied : (f : ℕ) (a : Act F) (d : Done) → Performs w me s now f a d → IsReplied w me s now d.1
  done_replied f a d (tells told e) = inl (ap (λ (c : Change). c.booked) e)
  done_replied f a d (opens_to to class first i j k e) = inl (ap (λ (x : Done). x.1.booked) e)
  done_replied f a d (sends_on key value session i j e) = inl (ap (λ (x : Done). x.1.booked) e)
  done_replied f a d (takes_from key session next i j e) = inl (ap (λ (x : Done). x.1.booked) e)
  done_replied f a d (has_found id stx i e) = inl (ap (λ (x : Done). x.1.booked) e)
  done_replied f a d (has_tagged id i e) = inl (ap (λ (x : Done). x.1.booked) e)
  done_replied f a d (has_locked token amount list i e) = inl (ap (λ (x : Done). x.1.booked) e)
  done_replied f a d (has_answered q i e) = inr (q, ap (λ (x : Done). x.1.booked) e)
  done_replied f a d (has_recorded stx states i j k l m n e) = inl (ap (λ (x : Done). x.1.booked) e)

  gives_replied : (at : Checkpoint F) (a : Act F) (e : Effect F) → Gives w me s now at a e → IsReplied w me s now e.change
  gives_replied at a e (goes d o p i) = subst (λ (x : Effect F). IsReplied w me s now x.change) (sym i) (done_replied at.flow a d p)
  gives_replied at a e (pushed frame i j k) = inl (ap (λ (x : Effect F). x.change.booked) k)
  gives_replied at a e (popped value frame below i j k) = inl (ap (λ (x : Effect F). x.change.booked) k)
  gives_replied at a e (finished value i j k) = inl (ap (λ (x : Effect F). x.change.booked) k)
  gives_replied at a e (failed code i k) = inl (ap (λ (x : Effect F). x.change.booked) k)

  answering_books : (key : _) (f class : ℕ) (init : Body) (o : Option (F × Act F)) → (answering key f class init o).change.booked ≡ None
  answering_books key f class init (Some made) = refl
  answering_books key f class init None = refl

  does_replied : (ev : Event) (body : Option Body) (e : Effect F) → Does w me s now ev body e → IsReplied w me s now e.change
  does_replied ev body e (starts f class args made i j k l) = inl (ap (λ (x : Effect F). x.change.booked) l)
  does_replied ev body e (answers_to key class first i j k l) = inl (ap (λ (x : Effect F). x.change.booked) l ∙ answering_books key _ class _ _)
  does_replied ev body e (arrives key direction number b session i j k l m) = inl (ap (λ (x : Effect F). x.change.booked) m)
  does_replied ev body e (acts f at i j g) = gives_replied at at.waiting e g

  asked : (q : Request) (b : Entry) → booked_by q (reply w.mark s.entries q (identity w me) (record { 0 = now })) ≡ Some b → IsBookedAt w.mark (identity w me) s.entries (record { 0 = now }) b
  asked q b h =
      let at : Moment = record { 0 = now } in
      let a = added w.mark (identity w me) s.entries q at b h in
      let same : q ≡ b.request = ap (λ (x : Entry). x.request) a.is in
      subst (λ (x : Request). ((reply w.mark s.entries x (identity w me) at).fresh ≡ true) × (entry_of x (reply w.mark s.entries x (identity w me) at).answer ≡ b)) same (a.fresh, a.is)

  replied_booked : (change : Change) → IsReplied w me s now change → (b : Entry) → change.booked ≡ Some b → IsBookedAt w.mark (identity w me) s.entries (record { 0 = now }) b
  replied_booked change r b h = ⊎_elim (λ k. let no : None ≡ Some b = sym k ∙ h in cc) (λ k. asked k.0 b (sym k.1 ∙ h)) r

-- what a step books is added at the moment of its cause
pub step_booked : {F : Type 0} (w : Environment F) (p : ℕ) (s : NodeState F) (cause : Cause) (body : Option Body) (e : Effect F) → effect_of w p s cause.moment.0 cause.event body ≡ Some e → (b : Entry) → e.change.booked ≡ Some b
    → IsBookedAt w.mark (identity w p) s.entries (record { 0 = cause.moment.0 }) b
step_booked w p s cause body e h b is = replied_booked w p s cause.moment.0 e.change (does_replied w p s cause.moment.0 cause.event body e (effect_does w p s cause.moment.0 cause.event body e h)) b is

pub step_book : {F : Type 0} (w : Environment F) (p : ℕ) (s : NodeState F) (cause : Cause) (body : Option Body) (e : Effect F) → effect_of w p s cause.moment.0 cause.event body ≡ Some e → IsBook w.mark (identity w p) s.entries → IsBook w.mark (identity w p) (apply_effect s cause e).entries
step_book w p s cause body e h book =
    subst (IsBook w.mark (identity w p)) (sym (apply_entries s cause e))
    (book_more w.mark (identity w p) s.entries e.change.booked book (λ b is. (record { 0 = cause.moment.0 }, step_booked w p s cause body e h b is)))

local_book_from : {F : Type 0} (w : Environment F) (p : ℕ) (s : NodeState F) (rs : List (Record F)) → IsLocalFrom w p s rs → IsBook w.mark (identity w p) s.entries → IsBook w.mark (identity w p) (replay_from s rs).entries
local_book_from w p s [] h book = book
local_book_from {F} w p s (r ∷ rs) h book =
    let st = step_taken w p s h.1 r.cause _ r.effect h.2 in
    subst (λ (x : NodeState F). IsBook w.mark (identity w p) (replay_from x rs).entries) st.state
    (local_book_from w p h.1 rs h.3 (subst (λ (x : NodeState F). IsBook w.mark (identity w p) x.entries) (sym st.state) (step_book w p s r.cause _ r.effect st.effect book)))

pub local_book : {F : Type 0} (w : Environment F) (p : ℕ) (rs : List (Record F)) → IsLocal w p rs → IsBook w.mark (identity w p) (replay rs).entries
unfolding replay
local_book w p rs h = local_book_from w p fresh rs h (no_book w.mark (identity w p))

-- ---- runs

abbrev BooksHold : {F : Type 0} → Environment F → List (NodeState F) → Type 0
BooksHold {F} w net = (p : ℕ) (s : NodeState F) → slice_get net p ≡ Some s → IsBook w.mark (identity w p) s.entries

net_book : {F : Type 0} (w : Environment F) (net next : List (NodeState F)) (p : ℕ) (cause : Cause) (e : Effect F) → net_step w net p cause ≡ Some (next, e) → BooksHold w net → BooksHold w next
net_book {F} w net next p cause e h all =
    let k = net_taken w net next p cause e h in
    let st = step_taken w p k.old _ cause (item_for net p k.old cause.event) e k.step in
    let mine = step_book w p k.old cause (body_in (item_for net p k.old cause.event)) e st.effect (all p k.old k.is) in
    let there : BooksHold w (slice_set net p (apply_effect k.old cause e)) = λ q t is. ⊎_elim
    (λ l. subst (λ (x : NodeState F). IsBook w.mark (identity w q) x.entries) (some_eq (sym l.1 ∙ is)) (subst (λ (j : ℕ). IsBook w.mark (identity w j) (apply_effect k.old cause e).entries) (sym l.0) mine))
    (λ l. all q t (sym l ∙ is))
    (get_set net p k.old (apply_effect k.old cause e) q k.is) in
    subst (λ (n : List (NodeState F)). BooksHold w n) (sym k.new) there

books_from : {F : Type 0} (w : Environment F) (net last : List (NodeState F)) (causes : List (ℕ × Cause)) → run_from w net causes ≡ Some last → BooksHold w net → BooksHold w last
books_from {F} w net last [] h all = subst (λ (n : List (NodeState F)). BooksHold w n) (some_eq h) all
books_from w net last (x ∷ xs) h all = from_then _ (λ done. run_from w done.0 xs) (net_step w net x.0 x.1) last h (λ done is k. books_from w done.0 last xs k (net_book w net done.0 x.0 x.1 done.1 is all))

fresh_books : {F : Type 0} (w : Environment F) → BooksHold w (fresh_net w)
fresh_books {F} w p s h = subst (λ (x : NodeState F). IsBook w.mark (identity w p) x.entries) (fresh_get w.nodes p fresh s h) (no_book w.mark (identity w p))

pub books_of_runs : {F : Type 0} → BooksOfRuns F
unfolding run_of
books_of_runs w causes net p s h is = books_from w (fresh_net w) net causes h (fresh_books w) p s is

pub books_of_journals : {F : Type 0} → BooksOfJournals F
books_of_journals w p records h = local_book w p records h
