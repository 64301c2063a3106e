-- The words of a start with the ids put in.
use Rattle.std.proofs.Common.{◌≡◌, ℕ, map, drop, subst, take, length, ◌-◌, ◌<◌, Bool, true, false, ◌||◌, List, [], ◌∷◌, Option, Some, None, refl, sym, ap, ◌∙◌}
use Rattle.std.specs.Prelude.{Result, option_and_then, is_some, slice_index_or}
use Rattle.std.specs.List.{slice_get}
use Rattle.std.proofs.lemmas.List.{take_rest, drop-map, get_or-map}
use Rattle.std.specs.Option.{option_map_or}
use Rattle.net_base.specs.Numbers.{number_of}
use Rattle.net_base.specs.declared.values.Hash32.{Hash32}
use Rattle.net_base.specs.declared.values.Party.{Party}
use Rattle.ledger_types.specs.declared.tx.SignedTx.{SignedTx}
use Rattle.ledger_tables.specs.Ledgers.{Ledger}
use Rattle.node_ledger.specs.Ledgered.{HoldsLedger, ledger_in}
use Rattle.node_tables.specs.Journals.{Reads, state_of}
use Rattle.node_core.specs.Seen.{NodeSeen}
use Rattle.network_core.specs.Worlds.{NetSeen}
use Rattle.flow_machine.specs.declared.flow_set.WordFault.{WordFault}
use Rattle.flow_machine.specs.Flows.{GivesWords}
use Rattle.flow_machine.specs.Machine.{Machine}
use Rattle.shell_words.specs.Script.{after_hash, is_number, has_mark, mark_of}
use Rattle.shell_words.specs.declared.commands.TxName.TheVariants as name
use Rattle.node_shell.specs.Lines.{named_in, digits_or, put_in, named_by, started_by, recorded_by}
use Rattle.node_shell.specs.Responds.{recorded_seen}

-- ---- what the network shows that a node recorded

module _ {F : Type 0} (f : Reads F) (net : NetSeen) (p : ℕ) where
  abbrev recorded_of : Option NodeSeen → List (Hash32 × SignedTx)
  recorded_of n = option_map_or (recorded_by f) (option_and_then (λ (x : NodeSeen). x.journal) n) []

  pub seen_down : (n : NodeSeen) → slice_get net.nodes p ≡ Some n → n.journal ≡ None → [] ≡ recorded_seen f net p
  seen_down n at down = sym (ap recorded_of at ∙ ap (λ j. option_map_or (recorded_by f) j []) down)

  pub seen_up : (n : NodeSeen) (bodies : List (List ℕ)) (me : Party) (tables : Ledger) → slice_get net.nodes p ≡ Some n → n.journal ≡ Some bodies → HoldsLedger me (ledger_in (state_of f bodies)) tables
      → tables.store.list ≡ recorded_seen f net p
  seen_up n bodies me tables at up holds = holds.store ∙ sym (ap recorded_of at ∙ ap (λ j. option_map_or (recorded_by f) j []) up)

-- ---- words that stay as they are

-- where nothing is recorded
nothing_put_in : (word : List ℕ) (mark : Option ℕ) → digits_or word (option_and_then (λ k. named_in (name.Place k) []) mark) ≡ word
nothing_put_in word None = refl
nothing_put_in word (Some k) = refl

pub none_put_in : (words : List (List ℕ)) → map (put_in []) words ≡ words
none_put_in [] = refl
none_put_in (word ∷ words) = ap (λ w. w ∷ map (put_in []) words) (nothing_put_in word (mark_of word)) ∙ ap (λ ws. word ∷ ws) (none_put_in words)

-- where there is no mark
neither : (a b : Bool) → (a || b) ≡ false → (a ≡ false) × (b ≡ false)
neither true b h = cc
neither false b h = (refl, h)

no_mark : (bytes : Option (List ℕ)) → is_number bytes ≡ false → option_and_then number_of bytes ≡ None
no_mark None h = refl
no_mark (Some bytes) h = no_number (number_of bytes) h
  where
    no_number : (n : Option ℕ) → is_some n ≡ false → n ≡ None
    no_number None h = refl
    no_number (Some n) h = cc

pub unmarked_stay : (recorded : List (Hash32 × SignedTx)) (words : List (List ℕ)) → has_mark words ≡ false → map (put_in recorded) words ≡ words
unmarked_stay recorded [] h = refl
unmarked_stay recorded (word ∷ words) h =
    let both = neither _ _ h in
    let stays = ap (λ k. digits_or word (option_and_then (λ k. named_in (name.Place k) recorded) k)) (no_mark (after_hash word) both.0) in
    ap (λ w. w ∷ map (put_in recorded) words) stays ∙ ap (λ ws. word ∷ ws) (unmarked_stay recorded words both.1)

-- ---- a start

module _ {F S : Type 0} (m : Machine F) (bytes : S → List ℕ) (words : List S) where
  abbrev args : List (List ℕ)
  args = map bytes (take (length words - 3) (drop 3 words))

  behind : args ≡ drop 3 (map bytes words)
  behind = ap (map bytes) (take_rest words 3) ∙ sym (drop-map bytes 3 words)

  -- what words name that are those with the ids put in is what the start asks for
  pub starts_as : (recorded : List (Hash32 × SignedTx)) (filled : List (List ℕ)) (d word : S) (class : List ℕ) (result : Result (ℕ × List ℕ) WordFault) → 2 < length words → word ≡ slice_index_or words 2 d → class ≡ bytes word
      → filled ≡ map (put_in recorded) args → GivesWords result (named_by m class filled) → GivesWords result (started_by m recorded (map bytes words))
  starts_as recorded filled d word class result some at is same given =
      let named : class ≡ slice_index_or (map bytes words) 2 [] = is ∙ ap bytes at ∙ sym (get_or-map bytes words 2 d [] some) in
      let all : filled ≡ map (put_in recorded) (drop 3 (map bytes words)) = same ∙ ap (map (put_in recorded)) behind in
      subst (λ (a : List (List ℕ)). GivesWords result (named_by m (slice_index_or (map bytes words) 2 []) a)) all (subst (λ (w : List ℕ). GivesWords result (named_by m w filled)) named given)
