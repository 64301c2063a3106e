-- How many items the sessions of a node have, by the number of its records.
use Rattle.std.proofs.Common.{◌≡◌, ℕ, ◌+◌, ◌-◌, ◌<◌, ◌≤◌, ◌^◌, List, [], ◌∷◌, length, find, option_to_list, Option, Some, None, true, false, cond, refl, ap, subst, arith, nat_lt, length-append}
use Rattle.std.specs.List.{AllByRecursion, list_all}
use Rattle.std.specs.Option.{option_map_or}
use Rattle.std.proofs.lemmas.Bool.{lt-ltb, and_from, eq-eqb}
use Rattle.std.proofs.lemmas.List.{length-map}
use Rattle.net_base.specs.declared.names.Key.{Key}
use Rattle.net_base.specs.declared.values.Party.{Party}
use Rattle.net_base.specs.declared.causes.Cause.{Cause}
use Rattle.net_base.specs.declared.causes.Event.{Event}
use Rattle.net_base.specs.declared.causes.Event.TheVariants as event
use Rattle.net_base.proofs.Lists.{all_find, all_weaken, all_push}
use Rattle.session_wire.specs.declared.body.Body.{Body}
use Rattle.session_wire.specs.declared.change.SentItem.{SentItem}
use Rattle.session_wire.specs.Sessions.{Sent, Session, key_eq, session_of, changed_at, new_session, with_came, with_sent, with_taken, opened_on, sent_on, taken_on}
use Rattle.session_wire.specs.Rules.{is_opened_by, FitsSent}
use Rattle.session_table.specs.Changes.{arrived_in}
use Rattle.session_table.proofs.Few.{opened_count, sent_count, taken_count}
use Rattle.net_model.specs.Environment.{Environment, party}
use Rattle.net_model.specs.State.{NodeState, Effect, flow_of, came_on, sessions_on}
use Rattle.net_model.specs.Fits.{Fits, FitsEvent, FitsOpened, AcceptsInit}
use Rattle.node_tables.specs.Fits.{begun_by}
use Rattle.node_tables.specs.Seen.{IsSmall}

-- ---- lists

-- of the sessions with one changed
pub all_changed : (P Q : Session → Type 0) (key : Key) (change : Session → Session) (ss : List Session) → ((s : Session) → P s → Q (change s)) → ((s : Session) → P s → Q s) → AllByRecursion P ss → AllByRecursion Q (changed_at key change ss)
all_changed P Q key change [] f g h = tt
all_changed P Q key change (s ∷ ss) f g h =
    (elim (key_eq key s.key) as (λ b. Q (cond b (change s) s)) [ true ↦ f s h.0 | false ↦ g s h.0 ], all_changed P Q key change ss f g h.1)

pub found_key : (key : Key) (ss : List Session) (s : Session) → session_of key ss ≡ Some s → key_eq key s.key ≡ true
found_key key [] s is = cc
found_key key (x ∷ xs) s is =
    (elim (key_eq key x.key) as (λ b. key_eq key x.key ≡ b → cond b (Some x) (find (λ y. key_eq key y.key) xs) ≡ Some s → key_eq key s.key ≡ true) [
      | true ↦ λ t e. let same : x ≡ s = cc in subst (λ (y : Session). key_eq key y.key ≡ true) same t
      | false ↦ λ t e. found_key key xs s e
    ]) refl is

one_at_most : {X : Type 0} (o : Option X) → length (option_to_list o) ≤ 1
one_at_most None = omega arith
one_at_most (Some x) = omega arith

-- ---- a larger bound

pub weaker : (me : Party) (a b c d : ℕ) → a ≤ b → c ≤ d → (s : Session) → IsSmall me a c s → IsSmall me b d s
weaker me a b c d ab cd s h = record { few_sent = let p = h.few_sent in omega (arith, p, ab); few_came = let p = h.few_came in omega (arith, p, cd); begun = h.begun }

pub all_weaker : (me : Party) (a b c d : ℕ) (ss : List Session) → a ≤ b → c ≤ d → AllByRecursion (IsSmall me a c) ss → AllByRecursion (IsSmall me b d) ss
all_weaker me a b c d ss ab cd h = all_weaken (IsSmall me a c) (IsSmall me b d) ss (weaker me a b c d ab cd) h

-- ---- one record more

pub init_there : {F : Type 0} (f : ℕ) (key : Key) (e : Effect F) (o : Option Body) → AcceptsInit f key e o → length (option_to_list o) ≡ 1
init_there f key e None h = absurd h
init_there f key e (Some body) h = refl

came_more : (me : Party) (a c : ℕ) (o : Option Body) (s : Session) → IsSmall me a c s → IsSmall me a (c + 1) (with_came (option_to_list o) s)
came_more me a c o s h =
    let longer = length-append s.came (option_to_list o) in
    let p = h.few_came in
    record { few_sent = h.few_sent; few_came = omega (arith, longer, p, one_at_most o); begun = λ other. let q = h.begun other in omega (arith, longer, q) }

came_small : {F : Type 0} (w : Environment F) (me : ℕ) (s : NodeState F) (event : Event) (e : Effect F) (a c : ℕ) → FitsEvent w me s event e → AllByRecursion (IsSmall (party me) a c) s.sessions → AllByRecursion (IsSmall (party me) a (c + 1)) (came_on event (option_to_list e.change.came) (flow_of e.flow) s.sessions)
came_small w me s (event.Start f class args) e a c h all = all_weaker (party me) a a c (c + 1) s.sessions (omega arith) (omega arith) all
came_small w me s (event.Move f) e a c h all = all_weaker (party me) a a c (c + 1) s.sessions (omega arith) (omega arith) all
came_small w me s (event.Lapse f) e a c h all = all_weaker (party me) a a c (c + 1) s.sessions (omega arith) (omega arith) all
came_small w me s (event.Answer key) e a c h all =
    let one = init_there (length s.flows) key e e.change.came h.1 in
    all_push (IsSmall (party me) a (c + 1)) s.sessions (new_session key key.initiator (flow_of e.flow) (option_to_list e.change.came)) (all_weaker (party me) a a c (c + 1) s.sessions (omega arith) (omega arith) all) (record { few_sent = omega arith; few_came = omega (arith, one); begun = λ other. omega (arith, one) })
came_small w me s (event.Arrive key direction number) e a c h all =
    all_changed (IsSmall (party me) a c) (IsSmall (party me) a (c + 1)) key (with_came (option_to_list e.change.came)) s.sessions (came_more (party me) a c e.change.came) (weaker (party me) a a c (c + 1) (omega arith) (omega arith)) all

opened_small : {F : Type 0} (w : Environment F) (me : ℕ) (s : NodeState F) (later : List Session) (owner : Option ℕ) (sent : List SentItem) (opened : Option (Key × Party)) (ss : List Session) (a c : ℕ) → FitsOpened w me s later owner sent opened → AllByRecursion (IsSmall (party me) a c) ss
    → AllByRecursion (IsSmall (party me) a c) (opened_on opened owner ss)
opened_small w me s later owner sent None ss a c h all = all
opened_small w me s later owner sent (Some opened) ss a c h all =
    let own : is_opened_by (party me) opened.0 ≡ true = eq-eqb opened.0.initiator.0 me (ap (λ (k : Key). k.initiator.0) h.opens.next) in
    all_push (IsSmall (party me) a c) ss (new_session opened.0 opened.1 owner []) all (record { few_sent = omega arith; few_came = omega arith; begun = λ other. cc })

sent_more : (me : Party) (a c : ℕ) (item : Sent) (s : Session) → IsSmall me a c s → IsSmall me (a + 1) c (with_sent item s)
sent_more me a c item s h = let longer = length-append s.sent (item ∷ []) in let p = h.few_sent in record { few_sent = omega (arith, longer, p); few_came = h.few_came; begun = h.begun }

sent_small : (me : Party) (stamp a c : ℕ) (items : List SentItem) (ss : List Session) → AllByRecursion (IsSmall me a c) ss → AllByRecursion (IsSmall me (a + length items) c) (sent_on stamp items ss)
sent_small me stamp a c [] ss all = all_weaker me a (a + 0) c c ss (omega arith) (omega arith) all
sent_small me stamp a c (item ∷ items) ss all =
    let y : Sent = record { body = item.body; stamp = stamp } in
    let after = changed_at item.key (with_sent y) ss in
    let one = all_changed (IsSmall me a c) (IsSmall me (a + 1) c) item.key (with_sent y) ss (sent_more me a c y) (weaker me a (a + 1) c c (omega arith) (omega arith)) all in
    all_weaker me (a + 1 + length items) (a + length (item ∷ items)) c c (sent_on stamp items after) (omega arith) (omega arith) (sent_small me stamp (a + 1) c items after one)

taken_small : (me : Party) (a c : ℕ) (taken : Option (Key × ℕ)) (ss : List Session) → AllByRecursion (IsSmall me a c) ss → AllByRecursion (IsSmall me a c) (taken_on taken ss)
taken_small me a c None ss all = all
taken_small me a c (Some taken) ss all =
    all_changed (IsSmall me a c) (IsSmall me a c) taken.0 (with_taken taken.1) ss (λ s h. record { few_sent = h.few_sent; few_came = h.few_came; begun = h.begun }) (λ s h. h) all

pub begun_small : {F : Type 0} (w : Environment F) (me : ℕ) (s : NodeState F) (cause : Cause) (e : Effect F) (a c : ℕ) → FitsEvent w me s cause.event e → FitsOpened w me s (begun_by cause e s.sessions) (flow_of e.flow) e.change.sent e.change.opened → AllByRecursion (IsSmall (party me) a c) s.sessions → AllByRecursion (IsSmall (party me) a (c + 1)) (begun_by cause e s.sessions)
begun_small w me s cause e a c event opened all =
    opened_small w me s (begun_by cause e s.sessions) (flow_of e.flow) e.change.sent e.change.opened (came_on cause.event (option_to_list e.change.came) (flow_of e.flow) s.sessions) a (c + 1) opened (came_small w me s cause.event e a c event all)

pub record_small : {F : Type 0} (w : Environment F) (me : ℕ) (s : NodeState F) (cause : Cause) (e : Effect F) (a c : ℕ) → Fits w me s cause e → length e.change.sent ≤ 255 → AllByRecursion (IsSmall (party me) a c) s.sessions → AllByRecursion (IsSmall (party me) (a + 255) (c + 1)) (sessions_on cause e s.sessions)
record_small w me s cause e a c h few all =
    let begun = begun_by cause e s.sessions in
    let sent = sent_on cause.stamp e.change.sent begun in
    let at_sent = sent_small (party me) cause.stamp a (c + 1) e.change.sent begun (begun_small w me s cause e a c h.event h.change.opened all) in
    all_weaker (party me) (a + length e.change.sent) (a + 255) (c + 1) (c + 1) (sessions_on cause e s.sessions) (omega (arith, few)) (omega arith) (taken_small (party me) (a + length e.change.sent) (c + 1) e.change.taken sent at_sent)

-- ---- how many sessions

came_count : (event : Event) (bodies : List Body) (owner : Option ℕ) (ss : List Session) → length (came_on event bodies owner ss) ≤ length ss + 1
came_count (event.Start f class args) bodies owner ss = omega arith
came_count (event.Move f) bodies owner ss = omega arith
came_count (event.Lapse f) bodies owner ss = omega arith
came_count (event.Answer key) bodies owner ss = let longer = length-append ss (new_session key key.initiator owner bodies ∷ []) in omega (arith, longer)
came_count (event.Arrive key direction number) bodies owner ss = let same = length-map ss (λ s. cond (key_eq key s.key) (with_came bodies s) s) in omega (arith, same)

pub record_count : {F : Type 0} (cause : Cause) (e : Effect F) (ss : List Session) → length (sessions_on cause e ss) ≤ length ss + 2
record_count cause e ss =
    let came = came_on cause.event (option_to_list e.change.came) (flow_of e.flow) ss in
    let opened = opened_on e.change.opened (flow_of e.flow) came in
    let one = came_count cause.event (option_to_list e.change.came) (flow_of e.flow) ss in
    let two = opened_count e.change.opened (flow_of e.flow) came in
    let three = sent_count cause.stamp e.change.sent opened in
    let four = taken_count e.change.taken (sent_on cause.stamp e.change.sent opened) in
    omega (arith, one, two, three, four)

-- ---- what an application asks

pub few_numbers : (me : Party) (stamp a c : ℕ) (items : List SentItem) (ss : List Session) → FitsSent me stamp ss items → AllByRecursion (IsSmall me a c) ss → a + length items < 2 ^ 32 - 1 → list_all (λ item. nat_lt (item.seq + 1) (2 ^ 32)) items ≡ true
few_numbers me stamp a c [] ss h all few = refl
few_numbers me stamp a c (item ∷ items) ss h all few =
    let y : Sent = record { body = item.body; stamp = stamp } in
    let small = all_find (IsSmall me a c) (λ s. key_eq item.key s.key) ss h.0.session all h.0.stands in
    let bound = small.few_sent in
    let next = h.0.next in
    let one = all_changed (IsSmall me a c) (IsSmall me (a + 1) c) item.key (with_sent y) ss (sent_more me a c y) (weaker me a (a + 1) c c (omega arith) (omega arith)) all in
    and_from _ _ (lt-ltb (item.seq + 1) (2 ^ 32) (omega (arith, bound, next, few))) (few_numbers me stamp (a + 1) c items (changed_at item.key (with_sent y) ss) h.1 one (omega (arith, few)))

few_at : (me : Party) (a c : ℕ) (key : Key) (ss : List Session) (o : Option Session) → session_of key ss ≡ o → AllByRecursion (IsSmall me a c) ss → option_map_or (λ s. length s.came) o 0 ≤ c
few_at me a c key ss None is all = omega arith
few_at me a c key ss (Some s) is all = (all_find (IsSmall me a c) (λ x. key_eq key x.key) ss s all is).few_came

pub few_arrived : (me : Party) (a c : ℕ) (key : Option Key) (ss : List Session) → AllByRecursion (IsSmall me a c) ss → arrived_in key ss ≤ c
few_arrived me a c None ss all = omega arith
few_arrived me a c (Some key) ss all = few_at me a c key ss (session_of key ss) refl all
