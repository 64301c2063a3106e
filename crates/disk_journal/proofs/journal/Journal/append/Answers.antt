use Rattle.std.proofs.Common.{◌≡◌, ◌⊎◌, ◌≤◌, ◌<◌, ◌+◌, ◌-◌, ◌∷◌, [], ℕ, List, length, Bool, true, false, vec_capacity, subst, sym, ◌∙◌, ap, arith, inr}
use Rattle.outside.specs.Disk.{DiskState, IsImage, EachImage, BurnsUpTo, overwritten, clean, with_range}
use Rattle.outside.proofs.Moments.{Either}
use Rattle.disk_journal.specs.Journal.{JournalSeen, Stands, journal_of, entry, record_limit, is_full_at}
use Rattle.disk_journal.proofs.Appends.{not_full, stays, first, first_kept, first_within, second_kept, second_within, both, stands}
use Rattle.outside.proofs.Burning.{then_up_to}
use Rattle.disk_journal.proofs.journal.Journal.append.Goals as goal

fewer : (j : JournalSeen) (d : DiskState) (full : Bool) → Stands j d → full ≡ is_full_at j.count j.length → full ≡ false → length (journal_of d.kept) < record_limit
fewer j d full st is not = omega (arith, st.counts, (not_full j.count j.length (sym is ∙ not)).0)

pub returns-then-is_full-clause-moments : goal.returns-then-is_full-clause-moments
returns-then-is_full-clause-moments g c tells = stays c.args.self.now c.args.self.now.disk.state c.args.body.now (c.requires.ready tells)

pub write_synced-requires-clause-place : goal.write_synced-requires-clause-place
write_synced-requires-clause-place g c =
    let P : JournalSeen → Type 0 = λ x. x.disk.tells ≡ true → x.length ≤ length x.disk.state.kept in
    subst P (sym c.self.view_is) (λ tells.
    let old = c.args.self.now in
    let d = old.disk.state in
    let body = c.args.body.now in
    let st = c.requires.ready tells in
    let few = fewer old d c.is_full.result st c.is_full.ensures c.if-is_full.false in
    first_within old d body st c.requires.small few)

pub returns-in_err-write_synced-clause-moments : goal.returns-in_err-write_synced-clause-moments
returns-in_err-write_synced-clause-moments g c tells =
    let old = c.args.self.now in
    let d = old.disk.state in
    let body = c.args.body.now in
    let st = c.requires.ready tells in
    let few = fewer old d c.is_full.result st c.is_full.ensures c.if-is_full.false in
    let bytes_are : c.deref.result.now ≡ entry body = c.deref.ensures.value ∙ c.spell.ensures.items in
    let e = (g.D.Disk.seen c.write_synced.new.disk).state in
    let one : EachImage d e (Either d old.length (entry body)) =
    subst (λ (l : List ℕ). EachImage d e (Either d old.length l)) bytes_are (subst (λ (x : JournalSeen). x.disk.tells ≡ true → EachImage x.disk.state e (Either x.disk.state x.length c.deref.result.now)) c.self.view_is c.write_synced.ensures.moments tells) in
    first old d body st c.requires.small few e one

pub returns-in_err-write_synced-clause-kept : goal.returns-in_err-write_synced-clause-kept
returns-in_err-write_synced-clause-kept g c tells =
    let old = c.args.self.now in
    let d = old.disk.state in
    let body = c.args.body.now in
    let st = c.requires.ready tells in
    let few = fewer old d c.is_full.result st c.is_full.ensures c.if-is_full.false in
    let bytes_are : c.deref.result.now ≡ entry body = c.deref.ensures.value ∙ c.spell.ensures.items in
    let e = (g.D.Disk.seen c.write_synced.new.disk).state in
    let failed : (e.kept ≡ d.kept) ⊎ IsImage (with_range d.now old.length (length (entry body))) e.kept =
    subst (λ (l : List ℕ). (e.kept ≡ d.kept) ⊎ IsImage (with_range d.now old.length (length l)) e.kept) bytes_are (subst (λ (x : JournalSeen). x.disk.tells ≡ true → (e.kept ≡ x.disk.state.kept) ⊎ IsImage (with_range x.disk.state.now x.length (length c.deref.result.now)) e.kept) c.self.view_is c.in_err-write_synced.ensures.failed tells) in
    first_kept old d body st c.requires.small few e failed

pub write_synced-requires-2-clause-place : goal.write_synced-requires-2-clause-place
write_synced-requires-2-clause-place g c too_mid =
    let tells : c.args.self.now.disk.tells ≡ true = sym (ap (λ (x : JournalSeen). x.disk.tells) c.self.view_is) ∙ sym c.write_synced.ensures.rest.tells ∙ too_mid in
    let old = c.args.self.now in
    let d = old.disk.state in
    let body = c.args.body.now in
    let st = c.requires.ready tells in
    let few = fewer old d c.is_full.result st c.is_full.ensures c.if-is_full.false in
    let bytes_are : c.deref.result.now ≡ entry body = c.deref.ensures.value ∙ c.spell.ensures.items in
    let m = (g.D.Disk.seen c.write_synced.new.disk).state in
    let done = subst (λ (x : JournalSeen). x.disk.tells ≡ true → (m.kept ≡ overwritten x.disk.state.kept x.length c.deref.result.now) × (m.now ≡ clean m.kept)) c.self.view_is c.in_ok-write_synced.ensures.done tells in
    let kept : m.kept ≡ overwritten d.kept old.length (entry body) = done.0 ∙ ap (λ (l : List ℕ). overwritten d.kept old.length l) bytes_are in
    let too : (g.D.Disk.seen c.write_synced.new.disk).tells ≡ true = c.write_synced.ensures.rest.tells ∙ ap (λ (x : JournalSeen). x.disk.tells) c.self.view_is ∙ tells in
    subst (λ (x : JournalSeen). x.length - 1 ≤ length m.kept) (sym c.self.view_is) (second_within old d body st c.requires.small few m kept done.1)

pub returns-in_err-write_synced-2-clause-moments : goal.returns-in_err-write_synced-2-clause-moments
returns-in_err-write_synced-2-clause-moments g c tells =
    let old = c.args.self.now in
    let d = old.disk.state in
    let body = c.args.body.now in
    let st = c.requires.ready tells in
    let few = fewer old d c.is_full.result st c.is_full.ensures c.if-is_full.false in
    let bytes_are : c.deref.result.now ≡ entry body = c.deref.ensures.value ∙ c.spell.ensures.items in
    let m = (g.D.Disk.seen c.write_synced.new.disk).state in
    let done = subst (λ (x : JournalSeen). x.disk.tells ≡ true → (m.kept ≡ overwritten x.disk.state.kept x.length c.deref.result.now) × (m.now ≡ clean m.kept)) c.self.view_is c.in_ok-write_synced.ensures.done tells in
    let kept : m.kept ≡ overwritten d.kept old.length (entry body) = done.0 ∙ ap (λ (l : List ℕ). overwritten d.kept old.length l) bytes_are in
    let too : (g.D.Disk.seen c.write_synced.new.disk).tells ≡ true = c.write_synced.ensures.rest.tells ∙ ap (λ (x : JournalSeen). x.disk.tells) c.self.view_is ∙ tells in
    let one : EachImage d m (Either d old.length (entry body)) =
    subst (λ (l : List ℕ). EachImage d m (Either d old.length l)) bytes_are (subst (λ (x : JournalSeen). x.disk.tells ≡ true → EachImage x.disk.state m (Either x.disk.state x.length c.deref.result.now)) c.self.view_is c.write_synced.ensures.moments tells) in
    let e = (g.D.Disk.seen c.write_synced-2.new.disk).state in
    let two : EachImage m e (Either m (old.length - 1) (1 ∷ [])) =
    subst (λ (x : JournalSeen). EachImage m e (Either m (x.length - 1) (1 ∷ []))) c.self.view_is (c.write_synced-2.ensures.moments too) in
    both old d body st c.requires.small few m kept done.1 e one two

pub returns-in_err-write_synced-2-clause-kept : goal.returns-in_err-write_synced-2-clause-kept
returns-in_err-write_synced-2-clause-kept g c tells =
    let old = c.args.self.now in
    let d = old.disk.state in
    let body = c.args.body.now in
    let st = c.requires.ready tells in
    let few = fewer old d c.is_full.result st c.is_full.ensures c.if-is_full.false in
    let bytes_are : c.deref.result.now ≡ entry body = c.deref.ensures.value ∙ c.spell.ensures.items in
    let m = (g.D.Disk.seen c.write_synced.new.disk).state in
    let done = subst (λ (x : JournalSeen). x.disk.tells ≡ true → (m.kept ≡ overwritten x.disk.state.kept x.length c.deref.result.now) × (m.now ≡ clean m.kept)) c.self.view_is c.in_ok-write_synced.ensures.done tells in
    let kept : m.kept ≡ overwritten d.kept old.length (entry body) = done.0 ∙ ap (λ (l : List ℕ). overwritten d.kept old.length l) bytes_are in
    let too : (g.D.Disk.seen c.write_synced.new.disk).tells ≡ true = c.write_synced.ensures.rest.tells ∙ ap (λ (x : JournalSeen). x.disk.tells) c.self.view_is ∙ tells in
    let e = (g.D.Disk.seen c.write_synced-2.new.disk).state in
    let failed = subst (λ (x : JournalSeen). (e.kept ≡ m.kept) ⊎ IsImage (with_range m.now (x.length - 1) 1) e.kept) c.self.view_is (c.in_err-write_synced-2.ensures.failed too) in
    second_kept old d body st c.requires.small few m kept done.1 e failed

pub returns-clause-moments : goal.returns-clause-moments
returns-clause-moments g c tells =
    let old = c.args.self.now in
    let d = old.disk.state in
    let body = c.args.body.now in
    let st = c.requires.ready tells in
    let few = fewer old d c.is_full.result st c.is_full.ensures c.if-is_full.false in
    let bytes_are : c.deref.result.now ≡ entry body = c.deref.ensures.value ∙ c.spell.ensures.items in
    let m = (g.D.Disk.seen c.write_synced.new.disk).state in
    let done = subst (λ (x : JournalSeen). x.disk.tells ≡ true → (m.kept ≡ overwritten x.disk.state.kept x.length c.deref.result.now) × (m.now ≡ clean m.kept)) c.self.view_is c.in_ok-write_synced.ensures.done tells in
    let kept : m.kept ≡ overwritten d.kept old.length (entry body) = done.0 ∙ ap (λ (l : List ℕ). overwritten d.kept old.length l) bytes_are in
    let too : (g.D.Disk.seen c.write_synced.new.disk).tells ≡ true = c.write_synced.ensures.rest.tells ∙ ap (λ (x : JournalSeen). x.disk.tells) c.self.view_is ∙ tells in
    let one : EachImage d m (Either d old.length (entry body)) =
    subst (λ (l : List ℕ). EachImage d m (Either d old.length l)) bytes_are (subst (λ (x : JournalSeen). x.disk.tells ≡ true → EachImage x.disk.state m (Either x.disk.state x.length c.deref.result.now)) c.self.view_is c.write_synced.ensures.moments tells) in
    let e = (g.D.Disk.seen c.write_synced-2.new.disk).state in
    let two : EachImage m e (Either m (old.length - 1) (1 ∷ [])) =
    subst (λ (x : JournalSeen). EachImage m e (Either m (x.length - 1) (1 ∷ []))) c.self.view_is (c.write_synced-2.ensures.moments too) in
    both old d body st c.requires.small few m kept done.1 e one two

pub returns-clause-done : goal.returns-clause-done
returns-clause-done g c tells =
    let old = c.args.self.now in
    let d = old.disk.state in
    let body = c.args.body.now in
    let st = c.requires.ready tells in
    let few = fewer old d c.is_full.result st c.is_full.ensures c.if-is_full.false in
    let bytes_are : c.deref.result.now ≡ entry body = c.deref.ensures.value ∙ c.spell.ensures.items in
    let m = (g.D.Disk.seen c.write_synced.new.disk).state in
    let done = subst (λ (x : JournalSeen). x.disk.tells ≡ true → (m.kept ≡ overwritten x.disk.state.kept x.length c.deref.result.now) × (m.now ≡ clean m.kept)) c.self.view_is c.in_ok-write_synced.ensures.done tells in
    let kept : m.kept ≡ overwritten d.kept old.length (entry body) = done.0 ∙ ap (λ (l : List ℕ). overwritten d.kept old.length l) bytes_are in
    let too : (g.D.Disk.seen c.write_synced.new.disk).tells ≡ true = c.write_synced.ensures.rest.tells ∙ ap (λ (x : JournalSeen). x.disk.tells) c.self.view_is ∙ tells in
    let e = (g.D.Disk.seen c.write_synced-2.new.disk).state in
    let done_two = c.in_ok-write_synced-2.ensures.done too in
    let kept_two = subst (λ (x : JournalSeen). e.kept ≡ overwritten m.kept (x.length - 1) (1 ∷ [])) c.self.view_is done_two.0 in
    let k : JournalSeen = record { disk = g.D.Disk.seen c.write_synced-2.new.disk; of = c.self.inside.of; length = c.self.inside.length + (5 + length body); count = c.self.inside.count + 1; buffer = vec_capacity c.spell.new.buffer } in
    let s = stands old d body st c.requires.small few m kept done.1 e k kept_two done_two.1 (ap (λ (x : JournalSeen). x.of) c.self.view_is) (ap (λ (x : JournalSeen). x.length + (5 + length body)) c.self.view_is) (ap (λ (x : JournalSeen). x.count + 1) c.self.view_is) in
    s.1

pub returns-clause-kept : goal.returns-clause-kept
returns-clause-kept g c tells = inr (returns-clause-done g c tells)

pub returns-clause-ready : goal.returns-clause-ready
returns-clause-ready g c too_new =
    let tells : c.args.self.now.disk.tells ≡ true = sym (ap (λ (x : JournalSeen). x.disk.tells) c.self.view_is) ∙ sym c.write_synced.ensures.rest.tells ∙ sym c.write_synced-2.ensures.rest.tells ∙ too_new in
    let old = c.args.self.now in
    let d = old.disk.state in
    let body = c.args.body.now in
    let st = c.requires.ready tells in
    let few = fewer old d c.is_full.result st c.is_full.ensures c.if-is_full.false in
    let bytes_are : c.deref.result.now ≡ entry body = c.deref.ensures.value ∙ c.spell.ensures.items in
    let m = (g.D.Disk.seen c.write_synced.new.disk).state in
    let done = subst (λ (x : JournalSeen). x.disk.tells ≡ true → (m.kept ≡ overwritten x.disk.state.kept x.length c.deref.result.now) × (m.now ≡ clean m.kept)) c.self.view_is c.in_ok-write_synced.ensures.done tells in
    let kept : m.kept ≡ overwritten d.kept old.length (entry body) = done.0 ∙ ap (λ (l : List ℕ). overwritten d.kept old.length l) bytes_are in
    let too : (g.D.Disk.seen c.write_synced.new.disk).tells ≡ true = c.write_synced.ensures.rest.tells ∙ ap (λ (x : JournalSeen). x.disk.tells) c.self.view_is ∙ tells in
    let e = (g.D.Disk.seen c.write_synced-2.new.disk).state in
    let done_two = c.in_ok-write_synced-2.ensures.done too in
    let kept_two = subst (λ (x : JournalSeen). e.kept ≡ overwritten m.kept (x.length - 1) (1 ∷ [])) c.self.view_is done_two.0 in
    let k : JournalSeen = record { disk = g.D.Disk.seen c.write_synced-2.new.disk; of = c.self.inside.of; length = c.self.inside.length + (5 + length body); count = c.self.inside.count + 1; buffer = vec_capacity c.spell.new.buffer } in
    let s = stands old d body st c.requires.small few m kept done.1 e k kept_two done_two.1 (ap (λ (x : JournalSeen). x.of) c.self.view_is) (ap (λ (x : JournalSeen). x.length + (5 + length body)) c.self.view_is) (ap (λ (x : JournalSeen). x.count + 1) c.self.view_is) in
    s.0

pub returns-in_err-write_synced-2-clause-no_more : goal.returns-in_err-write_synced-2-clause-no_more
returns-in_err-write_synced-2-clause-no_more g c =
    let new = g.D.Disk.seen c.write_synced-2.new.disk in
    subst (λ (x : JournalSeen). BurnsUpTo 4 x.disk new) c.self.view_is (then_up_to 2 2 (g.D.Disk.seen c.self.inside.disk) (g.D.Disk.seen c.write_synced.new.disk) new c.in_ok-write_synced.ensures.burns c.write_synced-2.ensures.no_more)

pub returns-clause-no_more : goal.returns-clause-no_more
returns-clause-no_more g c =
    let new = g.D.Disk.seen c.write_synced-2.new.disk in
    subst (λ (x : JournalSeen). BurnsUpTo 4 x.disk new) c.self.view_is (then_up_to 2 2 (g.D.Disk.seen c.self.inside.disk) (g.D.Disk.seen c.write_synced.new.disk) new c.in_ok-write_synced.ensures.burns c.write_synced-2.ensures.no_more)
