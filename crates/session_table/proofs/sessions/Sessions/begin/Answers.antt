use Rattle.std.proofs.Common.{◌≡◌, ℕ, ◌+◌, ◌<◌, sym, ◌∙◌, ap, subst, arith, refl, None, List, [], ◌∷◌, ◌++◌, cond, map, length, true, false}
use Rattle.std.proofs.lemmas.List.{length-map, map-append}
use Rattle.std.specs.Map.{keys_of}
use Rattle.net_base.specs.declared.names.Key.{Key}
use Rattle.net_base.proofs.Lists.{filter_length}
use Rattle.session_wire.specs.Sessions.{Session, new_session}
use Rattle.session_wire.specs.Rules.{is_opened_by, opened_by}
use Rattle.session_table.specs.Kept.{session_at, IsKept}
use Rattle.session_table.specs.declared.standing.Standing.{Standing}
use Rattle.session_table.proofs.Found.{opened_keys}
use Rattle.session_table.proofs.Keeping.{kept_begun}
use Rattle.session_table.proofs.Stepping.{list_begun, new_line}
use Rattle.session_table.specs.Kept.{owner_of}
use Rattle.session_table.specs.Owned.{owners, owner_pair}
use Rattle.session_table.proofs.Owning.{owners_push, few_owners}
use Rattle.session_table.specs.Waiting.{IsListed}
use Rattle.session_table.proofs.Listing.{listed_begun}
use Rattle.session_table.proofs.sessions.Sessions.begin.Goals as goal

pub overflow_add-self : goal.overflow_add-self
overflow_add-self c =
    let s = c.self.inside in
    let same = ap (λ t. t.list) c.self.view_is in
    let party = ap (λ t. t.party) c.self.view_is in
    let few = filter_length (is_opened_by s.party) (keys_of s.lines.entries) in
    let keys = length-map s.lines.entries (λ e. e.0) in
    let list = ap length (sym same) ∙ length-map s.lines.entries (session_at s.sent.entries s.came.entries) in
    let opened = c.self.invariant.0.opened_is in
    let one = one_at_most (is_opened_by s.party c.args.key) in
    let more = c.one_if_own.ensures in
    omega (arith, few, keys, list, opened, one, more, c.requires.few)
  where
    one_at_most : (b : _) → cond b 1 0 < 2
    one_at_most true = omega arith
    one_at_most false = omega arith

pub put_line-requires-clause-room : goal.put_line-requires-clause-room
put_line-requires-clause-room c = let room = ap (λ t. t.room) c.self.view_is in omega (arith, room, c.requires.room)

pub put_line-requires-clause-free : goal.put_line-requires-clause-free
put_line-requires-clause-free c =
    let s = c.self.inside in
    let same = ap (λ t. t.list) c.self.view_is in
    let party = ap (λ t. t.party) c.self.view_is in
    let number : is_opened_by s.party c.args.key ≡ true → c.args.key.number ≡ s.opened = λ own. c.requires.next (ap (λ p. is_opened_by p c.args.key) (sym party) ∙ own) ∙ ap (λ p. opened_by p c.args.self.now.list) (sym party) ∙ ap (opened_by s.party) (sym same) ∙ opened_keys s.sent.entries s.came.entries s.party s.lines.entries ∙ sym c.self.invariant.0.opened_is in
    let free = new_line s.party s.opened s.sent.entries s.came.entries s.lines.entries c.args.self.now.list c.args.key same c.self.invariant.0.below (λ other. c.requires.new (ap (λ p. is_opened_by p c.args.key) (sym party) ∙ other)) number in
    free

pub note-requires-clause-few : goal.note-requires-clause-few
note-requires-clause-few c =
    let s = c.self.inside in
    let few = few_owners (map owner_of s.lines.entries) in
    let all = length-map s.lines.entries owner_of in
    let same = ap length c.self.invariant.1 in
    let list = ap (λ t. length t.list) c.self.view_is in
    let lines = length-map s.lines.entries (session_at s.sent.entries s.came.entries) in
    omega (arith, few, all, same, list, lines, c.requires.few)

pub invariant_of-self : goal.invariant_of-self
invariant_of-self c =
    let s = c.self.inside in
    let same = ap (λ t. t.list) c.self.view_is in
    let party = ap (λ t. t.party) c.self.view_is in
    let number : is_opened_by s.party c.args.key ≡ true → c.args.key.number ≡ s.opened = λ own. c.requires.next (ap (λ p. is_opened_by p c.args.key) (sym party) ∙ own) ∙ ap (λ p. opened_by p c.args.self.now.list) (sym party) ∙ ap (opened_by s.party) (sym same) ∙ opened_keys s.sent.entries s.came.entries s.party s.lines.entries ∙ sym c.self.invariant.0.opened_is in
    let free = new_line s.party s.opened s.sent.entries s.came.entries s.lines.entries c.args.self.now.list c.args.key same c.self.invariant.0.below (λ other. c.requires.new (ap (λ p. is_opened_by p c.args.key) (sym party) ∙ other)) number in
    let kept = kept_begun s.party s.opened s.lines.entries s.sent.entries s.came.entries c.args.key (record { peer = c.args.peer; owner = c.args.owner; sent = 0; came = 0; taken = 0; ending = None; acked = 0 }) c.self.invariant.0 free number refl refl in (
      subst (λ (l : List (Key × Standing)). IsKept s.party (s.opened + c.one_if_own.result) l s.sent.entries s.came.entries) (sym c.put_line.ensures.entries) (subst (λ (n : ℕ). IsKept s.party (s.opened + n) (s.lines.entries ++ (c.args.key, (record { peer = c.args.peer; owner = c.args.owner; sent = 0; came = 0; taken = 0; ending = None; acked = 0 })) ∷ []) s.sent.entries s.came.entries) (sym c.one_if_own.ensures) kept),
      c.note.ensures.list
          ∙ ap (λ (l : List (ℕ × Key)). l ++ owner_pair c.args.key c.args.owner) c.self.invariant.1
          ∙ sym (owners_push (map owner_of s.lines.entries) (c.args.key, c.args.owner))
          ∙ ap owners (sym (map-append owner_of s.lines.entries ((c.args.key, (record { peer = c.args.peer; owner = c.args.owner; sent = 0; came = 0; taken = 0; ending = None; acked = 0 })) ∷ [])))
          ∙ ap (λ (l : List (Key × Standing)). owners (map owner_of l)) (sym c.put_line.ensures.entries),
      subst (λ (l : List (Key × Standing)). IsListed l s.waiting.list) (sym c.put_line.ensures.entries) (listed_begun s.lines.entries (c.args.key, record { peer = c.args.peer; owner = c.args.owner; sent = 0; came = 0; taken = 0; ending = None; acked = 0 }) s.waiting.list refl c.self.invariant.2),
    )

pub returns-clause-party : goal.returns-clause-party
returns-clause-party c = ap (λ t. t.party) c.self.view_is

pub returns-clause-list : goal.returns-clause-list
returns-clause-list c =
    let s = c.self.inside in
    let same = ap (λ t. t.list) c.self.view_is in
    let party = ap (λ t. t.party) c.self.view_is in
    let number : is_opened_by s.party c.args.key ≡ true → c.args.key.number ≡ s.opened = λ own. c.requires.next (ap (λ p. is_opened_by p c.args.key) (sym party) ∙ own) ∙ ap (λ p. opened_by p c.args.self.now.list) (sym party) ∙ ap (opened_by s.party) (sym same) ∙ opened_keys s.sent.entries s.came.entries s.party s.lines.entries ∙ sym c.self.invariant.0.opened_is in
    let free = new_line s.party s.opened s.sent.entries s.came.entries s.lines.entries c.args.self.now.list c.args.key same c.self.invariant.0.below (λ other. c.requires.new (ap (λ p. is_opened_by p c.args.key) (sym party) ∙ other)) number in
    ap (map (session_at s.sent.entries s.came.entries)) c.put_line.ensures.entries
    ∙ list_begun s.sent.entries s.came.entries s.lines.entries c.args.key (record { peer = c.args.peer; owner = c.args.owner; sent = 0; came = 0; taken = 0; ending = None; acked = 0 }) c.self.invariant.0.sent_counted c.self.invariant.0.came_counted free refl refl
    ∙ ap (λ (l : List Session). l ++ new_session c.args.key c.args.peer c.args.owner [] ∷ []) same

pub returns-clause-acked : goal.returns-clause-acked
returns-clause-acked c = ap (map (λ e. e.1.acked)) c.put_line.ensures.entries ∙ acks_push c.self.inside.lines.entries ∙ ap (λ (l : List ℕ). l ++ 0 ∷ []) (ap (λ t. t.acked) c.self.view_is)
  where
    acks_push : (es : List (Key × Standing)) → map (λ e. e.1.acked) (es ++ (c.args.key, (record { peer = c.args.peer; owner = c.args.owner; sent = 0; came = 0; taken = 0; ending = None; acked = 0 })) ∷ []) ≡ map (λ e. e.1.acked) es ++ 0 ∷ []
    acks_push [] = refl
    acks_push (e ∷ es) = ap (λ (l : List ℕ). e.1.acked ∷ l) (acks_push es)

pub returns-clause-room : goal.returns-clause-room
returns-clause-room c = let room = ap (λ t. t.room) c.self.view_is in omega (arith, room, c.put_line.ensures.room, c.note.ensures.room)
