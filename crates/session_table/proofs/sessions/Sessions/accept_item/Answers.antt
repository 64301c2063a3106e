use Rattle.std.proofs.Common.{◌≡◌, ℕ, ◌+◌, ◌<◌, sym, ◌∙◌, ap, arith, Some, Option, List, [], ◌∷◌, length, true, false, is_some, true≢false, length-append, append-nil, subst}
use Rattle.std.proofs.lemmas.List.{length-map}
use Rattle.std.specs.Option.{option_map_or}
use Rattle.session_wire.specs.Sessions.{Session, session_of, with_came, new_session, changed_at}
use Rattle.session_wire.specs.Rules.{is_init}
use Rattle.session_table.proofs.Stepping.{came_begun, stands_begun}
use Rattle.session_table.proofs.sessions.Sessions.accept_item.Goals as goal

pub begin-requires-clause-new : goal.begin-requires-clause-new
begin-requires-clause-new c =
    let init : is_init c.args.body ≡ true = sym c.is_init.ensures ∙ c.if-is_init.true in
    let a = c.requires.fits.1.begins init in
    λ _. a.is_new

pub begin-requires-clause-next : goal.begin-requires-clause-next
begin-requires-clause-next c =
    let init : is_init c.args.body ≡ true = sym c.is_init.ensures ∙ c.if-is_init.true in
    let a = c.requires.fits.1.begins init in
    λ own. absurd (true≢false (sym own ∙ a.other))

pub add_came-requires-clause-stands : goal.add_came-requires-clause-stands
add_came-requires-clause-stands c =
    let init : is_init c.args.body ≡ true = sym c.is_init.ensures ∙ c.if-is_init.true in
    let a = c.requires.fits.1.begins init in
    ap is_some (ap (session_of c.args.key) c.begin.ensures.list ∙ stands_begun c.args.self.now.list c.args.key c.args.key.initiator c.args.owner a.is_new)

pub add_came-requires-clause-few : goal.add_came-requires-clause-few
add_came-requires-clause-few c =
    let init : is_init c.args.body ≡ true = sym c.is_init.ensures ∙ c.if-is_init.true in
    let a = c.requires.fits.1.begins init in
    λ s stands.
    let e : Some (new_session c.args.key c.args.key.initiator c.args.owner []) ≡ Some s = sym (ap (session_of c.args.key) c.begin.ensures.list ∙ stands_begun c.args.self.now.list c.args.key c.args.key.initiator c.args.owner a.is_new) ∙ stands in
    let one : new_session c.args.key c.args.key.initiator c.args.owner [] ≡ s = cc e in
    let none = ap (λ (s : Session). length s.came) one in
    omega (arith, none)

pub returns-then-is_init-clause-list : goal.returns-then-is_init-clause-list
returns-then-is_init-clause-list c =
    let init : is_init c.args.body ≡ true = sym c.is_init.ensures ∙ c.if-is_init.true in
    let a = c.requires.fits.1.begins init in
    rw init (c.add_came.ensures.list ∙ ap (λ (l : List Session). changed_at c.args.key (with_came (c.args.body ∷ [])) l) c.begin.ensures.list ∙ came_begun c.args.self.now.list c.args.key c.args.key.initiator c.args.owner c.args.body a.is_new)

pub returns-then-is_init-clause-acked : goal.returns-then-is_init-clause-acked
returns-then-is_init-clause-acked c =
    let init : is_init c.args.body ≡ true = sym c.is_init.ensures ∙ c.if-is_init.true in
    let a = c.requires.fits.1.begins init in
    rw init (c.add_came.ensures.acked ∙ c.begin.ensures.acked)

pub returns-then-is_init-clause-room : goal.returns-then-is_init-clause-room
returns-then-is_init-clause-room c =
    let init : is_init c.args.body ≡ true = sym c.is_init.ensures ∙ c.if-is_init.true in
    let a = c.requires.fits.1.begins init in
    rw init (omega (arith, c.add_came.ensures.room, c.begin.ensures.room))

pub returns-then-is_init-clause-few : goal.returns-then-is_init-clause-few
returns-then-is_init-clause-few c =
    let init : is_init c.args.body ≡ true = sym c.is_init.ensures ∙ c.if-is_init.true in
    let a = c.requires.fits.1.begins init in
    let list = ap length (c.add_came.ensures.list) ∙ length-map c.begin.new.self.list _ ∙ ap length c.begin.ensures.list ∙ length-append c.args.self.now.list _ in
    omega (arith, list)

pub add_came-requires-2-clause-stands : goal.add_came-requires-2-clause-stands
add_came-requires-2-clause-stands c =
    let init : is_init c.args.body ≡ false = sym c.is_init.ensures ∙ c.if-is_init.false in
    let a = c.requires.fits.1.goes_on init in
    ap is_some a.stands

pub add_came-requires-2-clause-few : goal.add_came-requires-2-clause-few
add_came-requires-2-clause-few c = λ s stands.
    let came = ap (λ (o : Option Session). option_map_or (λ s. length s.came) o 0) stands in
    subst (λ (n : ℕ). n + 1 < 4294967296) came c.requires.few_came

pub returns-clause-list : goal.returns-clause-list
returns-clause-list c =
    let init : is_init c.args.body ≡ false = sym c.is_init.ensures ∙ c.if-is_init.false in
    let a = c.requires.fits.1.goes_on init in
    rw init c.add_came-2.ensures.list

pub returns-clause-acked : goal.returns-clause-acked
returns-clause-acked c =
    let init : is_init c.args.body ≡ false = sym c.is_init.ensures ∙ c.if-is_init.false in
    let a = c.requires.fits.1.goes_on init in
    rw init (c.add_came-2.ensures.acked ∙ sym (append-nil c.args.self.now.acked))

pub returns-clause-room : goal.returns-clause-room
returns-clause-room c =
    let init : is_init c.args.body ≡ false = sym c.is_init.ensures ∙ c.if-is_init.false in
    let a = c.requires.fits.1.goes_on init in
    rw init (omega (arith, c.add_came-2.ensures.room))

pub returns-clause-few : goal.returns-clause-few
returns-clause-few c =
    let list = ap length c.add_came-2.ensures.list ∙ length-map c.args.self.now.list _ in
    omega (arith, list)
