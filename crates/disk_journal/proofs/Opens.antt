-- What a power cut leaves while a journal is opened.
use Rattle.std.proofs.Common.{◌≡◌, ⊎_elim, ℕ, ◌+◌, ◌≤◌, true, List, [], ◌∷◌, ◌++◌, length, drop, refl, sym, ◌∙◌, ap, subst, arith}
use Rattle.outside.specs.Disk.{DiskState, Durable, IsImage, EachImage, Syncs, clean, with_range}
use Rattle.outside.proofs.Moments.{started, weaker, then, clean_image, Either, after_sync, settled_kept}
use Rattle.disk_journal.proofs.Crash.{torn_parts}
use Rattle.outside.proofs.Writes.{length-overwritten}
use Rattle.net_base.specs.Names.{IsIdentity}
use Rattle.net_base.specs.declared.names.Identity.{Identity}
use Rattle.disk_journal.specs.Journal.{journal_of, is_unformatted, IsSound, WasSpelt, Opened, header, extent, record_limit}
use Rattle.disk_journal.proofs.Fresh.{short_spells, found_formatted, fresh_sound}

-- after a sync each image is one of those before it
pub synced : (d m : DiskState) → IsImage d.now d.kept → Syncs d m → EachImage d m (IsImage d.now) × ((c : List ℕ) → IsImage m.now c → IsImage d.now c)
synced d m was settles =
    let to = settled_kept d m settles in (
      after_sync d m (IsImage d.now) settles (λ c image. image) was,
      λ c image. subst (IsImage d.now) (sym (clean_image m.kept c (subst (λ (s : Durable). IsImage s c) to.1 image) ∙ to.0)) was,
    )

-- a write within the first bytes of a short disk leaves it short
pub short_write : (d e : DiskState) (at : ℕ) (bytes : List ℕ) → d.now ≡ clean d.kept → at ≤ length d.kept → length d.kept ≤ 17 → at + length bytes ≤ 17 → EachImage d e (Either d at bytes) → EachImage d e (λ c. length c ≤ 17)
short_write d e at bytes synced within short small l =
    weaker d e (Either d at bytes) (λ c. length c ≤ 17)
    (λ c. λ one. ⊎_elim (here c) (λ rest. ⊎_elim (pending c) (λ is. omega (arith, ap (λ (x : List ℕ). length x) is, length-overwritten d.kept bytes at within, short, small)) rest) one) l
  where
    here : (c : List ℕ) → IsImage d.now c → length c ≤ 17
    here c image = omega (arith, ap (λ (x : List ℕ). length x) (clean_image d.kept c (subst (λ (s : Durable). IsImage s c) synced image)), short)

    pending : (c : List ℕ) → IsImage (with_range d.now at (length bytes)) c → length c ≤ 17
    pending c image =
        let parts = torn_parts at (length bytes) d.kept c within (subst (λ (s : Durable). IsImage (with_range s at (length bytes)) c) synced image) in
        omega (arith, parts.no_longer, short, small)

pub stays_short : (d : DiskState) → d.now ≡ clean d.kept → length d.kept ≤ 17 → EachImage d d (λ c. length c ≤ 17)
stays_short d synced short = started d (λ c. length c ≤ 17) (λ c image. omega (arith, ap (λ (x : List ℕ). length x) (clean_image d.kept c (subst (λ (s : Durable). IsImage s c) synced image)), short))

-- each image spells what one spelt before
pub known : (d m : DiskState) → EachImage d m (IsImage d.now) → EachImage d m (WasSpelt d)
known d m l = weaker d m (IsImage d.now) (WasSpelt d) (λ c image. (c, image, refl)) l

module _ (d m e : DiskState) (read : EachImage d m (IsImage d.now)) (was : IsImage d.now d.kept) (short : length d.kept ≤ 17) where
  pub spelt_short : (c : List ℕ) → length c ≤ 17 → WasSpelt d c
  spelt_short c small = (d.kept, was, short_spells c small ∙ sym (short_spells d.kept short))

  pub begun : EachImage m e (λ c. length c ≤ 17) → EachImage d e (WasSpelt d)
  begun l = then d m e (WasSpelt d) (known d m read) (weaker m e (λ c. length c ≤ 17) (WasSpelt d) spelt_short l)

pub never_sound : (id : Identity) (d e : DiskState) → IsImage d.now d.kept → is_unformatted d.kept ≡ true → ((c : List ℕ) → IsImage d.now c → IsSound id c) → EachImage d e (IsSound id)
never_sound id d e was not_yet all = absurd (found_formatted id d.kept (all d.kept was).named not_yet)

pub opens_fresh : (id : Identity) (d e : DiskState) → IsIdentity id → length d.kept ≤ 17 → e.kept ≡ header id ++ 0 ∷ [] → e.now ≡ clean e.kept → Opened id 16 0 d e
opens_fresh id d e spells short kept synced =
    let f = fresh_sound id spells in record {
      synced = synced;
      sound = subst (IsSound id) (sym kept) f.0;
      same = ap journal_of kept ∙ f.1 ∙ sym (short_spells d.kept short);
      ends = omega (arith, ap (λ (l : List ℕ). extent record_limit (drop 16 l)) kept, f.2);
      counts = omega (arith, ap (λ (l : List ℕ). length (journal_of l)) kept, ap (λ (l : List (List ℕ)). length l) f.1);
    }
