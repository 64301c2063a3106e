-- What a network that is shown tells of its world.
use Rattle.std.proofs.Common.{◌≡◌, ◌⊎◌, inl, inr, ℕ, zero, suc, Bool, true, false, List, [], ◌∷◌, ◌++◌, Bor, length, map, drop, Option, Some, None, refl, sym, ◌∙◌, ap, subst, arith, append_assoc}
use Rattle.std.proofs.lemmas.Bool.Decides.{nat_tests}
use Rattle.std.specs.Prelude.{IsTrue, IsSome, MatchOption, Result, Ok, Err, option_map, option_and_then, ◌<◌, nat_lt, slice_index_or}
use Rattle.std.specs.List.{slice_get}
use Rattle.std.specs.Option.{option_map_or}
use Rattle.std.proofs.lemmas.Option.{same_Some}
use Rattle.std.proofs.lemmas.List.{length-map, map-append}
use Rattle.network_core.specs.declared.refusal.Refusal.{Refusal}
use Rattle.network_core.specs.declared.refusal.Refusal.TheVariants as refusal
use Rattle.net_base.specs.declared.causes.Cause.{Cause}
use Rattle.net_base.specs.declared.names.Identity.{Identity}
use Rattle.net_base.specs.declared.values.Hash32.{Hash32}
use Rattle.net_base.specs.declared.values.Party.{Party}
use Rattle.ledger_types.specs.declared.tx.SignedTx.{SignedTx}
use Rattle.net_base.proofs.Lists.{get_beside, get_map, map_both, drop_get}
use Rattle.flow_machine.specs.declared.flows.FlowState.{FlowState}
use Rattle.flow_machine.specs.declared.flow_set.WordFault.{WordFault}
use Rattle.flow_machine.specs.declared.flow_set.WordFault.TheVariants as word
use Rattle.flow_machine.specs.Machine.{Machine}
use Rattle.net_model.specs.Environment.{Environment, environment, Meaning, party}
use Rattle.net_model.specs.Runs.{merged, network_of}
use Rattle.net_model.specs.State.{NodeState}
use Rattle.net_model.specs.State.{with_ids}
use Rattle.shell_report.specs.LedgerText.{tx_text, book_text, vault_text, balance_text, ids_of}
use Rattle.ledger_tables.specs.Ledgers.{Ledger}
use Rattle.node_ledger.specs.Ledgered.{HoldsLedger, ledger_in}
use Rattle.node_shell.specs.LedgerPrint.{LedgerQuery, printed_ledger, print_ledger, print_ledger_of, of_vault, of_balance, of_book, of_tx, of_tx_at, with_id, vault_text_at, balance_text_at, book_text_at, tx_text_by, tx_text_in}
use Rattle.net_model.specs.Print.{printed, print_of, of_flows, of_flow, of_history, node_text, flow_text_at, flow_line, flow_text, flows_text, history_text}
use Rattle.node_tables.specs.Journals.{Reads, causes_of, state_of}
use Rattle.node_core.specs.Seen.{NodeSeen}
use Rattle.network_core.specs.Worlds.{World, NodeWorld, NetSeen, NodeShows, Shows, ShowsJournal, Coherent, Choice}
use Rattle.network_core.proofs.Faithful.{coherent_is_faithful}
use Rattle.shell_words.specs.declared.commands.Command.{Command}
use Rattle.shell_words.specs.declared.commands.Command.TheVariants as command
use Rattle.shell_words.specs.declared.commands.TxName.{TxName}
use Rattle.shell_words.specs.declared.commands.TxName.TheVariants as name
use Rattle.node_shell.specs.declared.replies.Reply.{Reply}
use Rattle.node_shell.specs.Replies.{IsRefused, reply_text}
use Rattle.node_shell.specs.Lines.{AtNode, AsksFlow, AsksTx, named_in, tx_query, record_of, AsksHistory, RefusesWords, Answers, causes_in, node_at, flow_of, started_by, start_step, doing_of, recorded_by, recorded_up, recorded_in}
use Rattle.node_shell.specs.Responds.{recorded_seen, AtSeen, OfSeen, PrintsVault, PrintsBalance, PrintsBook, PrintsTx, notary_seen, StartsNone, PrintsFlows, PrintsFlow, PrintsHistory, IsShown, causes_up}

-- ---- lists

pub none_beside : {X Y : Type 0} (xs : List X) (ys : List Y) (p : ℕ) → length xs ≡ length ys → slice_get xs p ≡ None → slice_get ys p ≡ None
none_beside [] [] p n h = refl
none_beside [] (y ∷ ys) p n h = cc
none_beside (x ∷ xs) [] p n h = cc
none_beside (x ∷ xs) (y ∷ ys) zero n h = cc
none_beside (x ∷ xs) (y ∷ ys) (suc p) n h = none_beside xs ys p (omega (arith, n)) h

-- ---- a node and its place in the world

module _ {F : Type 0} (e : Environment F) (net : NetSeen) (w : World) (shows : Shows e net w) where
  pub stands : (p : ℕ) (n : NodeSeen) → slice_get net.nodes p ≡ Some n → (x : NodeWorld) × (slice_get w.nodes p ≡ Some x) × NodeShows e p n x
  stands p n at = let found = get_beside net.nodes w.nodes p n (sym shows.count) at in (found.0, found.1, shows.each p n found.0 at found.1)

  pub shows_each : (p : ℕ) (n : NodeSeen) (x : NodeWorld) → slice_get net.nodes p ≡ Some n → slice_get w.nodes p ≡ Some x → ShowsJournal n.journal x
  shows_each p n x at here = (shows.each p n x at here).journal

  -- what a node recorded it recorded in the world
  pub recorded_shown : (p : ℕ) → recorded_seen e.frame_at net p ≡ recorded_in e w p
  recorded_shown p = by (slice_get net.nodes p) refl
    where
      up_or_down : (x : NodeWorld) (journal : Option (List (List ℕ))) → ShowsJournal journal x → option_map_or (recorded_by e.frame_at) journal [] ≡ recorded_up e.frame_at x
      up_or_down x None down = rw down refl
      up_or_down x (Some bodies) s = rw s.0 (ap (recorded_by e.frame_at) (sym s.1))

      by : (o : Option NodeSeen) → slice_get net.nodes p ≡ o → option_map_or (recorded_by e.frame_at) (option_and_then (λ n. n.journal) o) [] ≡ recorded_in e w p
      by None none = sym (ap (λ (x : Option NodeWorld). option_map_or (recorded_up e.frame_at) x []) (none_beside net.nodes w.nodes p (sym shows.count) none))
      by (Some n) at = let x = stands p n at in up_or_down x.0 n.journal x.2.journal ∙ sym (ap (λ (y : Option NodeWorld). option_map_or (recorded_up e.frame_at) y []) x.1)

  -- what is shown of a node is so of it in the world
  pub at_node : (p : ℕ) (reply : Reply) (asks : List (List ℕ) → Type 0) (goal : NodeWorld → Type 0) → ((x : NodeWorld) → slice_get w.nodes p ≡ Some x → asks x.journal → goal x) → AtSeen net p reply asks → AtNode w p reply goal
  at_node p reply asks goal to shown = by (slice_get net.nodes p) refl shown
    where
      up_or_down : (x : NodeWorld) → slice_get w.nodes p ≡ Some x → (journal : Option (List (List ℕ))) → ShowsJournal journal x → MatchOption journal (IsRefused refusal.NodeDown reply) asks → AtNode w p reply goal
      up_or_down x here None s is = inr (x, here, inl (s, is))
      up_or_down x here (Some bodies) s is = inr (x, here, inr (s.0, to x here (subst asks (sym s.1) is)))

      by : (o : Option NodeSeen) → slice_get net.nodes p ≡ o → MatchOption o (IsRefused refusal.UnknownNode reply) (λ n. MatchOption n.journal (IsRefused refusal.NodeDown reply) asks) → AtNode w p reply goal
      by None none is = inl (none_beside net.nodes w.nodes p (sym shows.count) none, is)
      by (Some n) at is = let x = stands p n at in up_or_down x.0 x.1 n.journal x.2.journal is

  -- so where it is asked also whose node it is
  pub of_node : (p : ℕ) (reply : Reply) (asks : Party → List (List ℕ) → Type 0) (goal : NodeWorld → Type 0) → ((x : NodeWorld) → slice_get w.nodes p ≡ Some x → asks (party p) x.journal → goal x) → OfSeen net p reply asks → AtNode w p reply goal
  of_node p reply asks goal to shown = by (slice_get net.nodes p) refl shown
    where
      up_or_down : (x : NodeWorld) → slice_get w.nodes p ≡ Some x → (me : Party) → me ≡ party p → (journal : Option (List (List ℕ))) → ShowsJournal journal x → MatchOption journal (IsRefused refusal.NodeDown reply) (asks me) → AtNode w p reply goal
      up_or_down x here me own None s is = inr (x, here, inl (s, is))
      up_or_down x here me own (Some bodies) s is = inr (x, here, inr (s.0, to x here (subst (λ q. asks q x.journal) own (subst (asks me) (sym s.1) is))))

      by : (o : Option NodeSeen) → slice_get net.nodes p ≡ o → MatchOption o (IsRefused refusal.UnknownNode reply) (λ n. MatchOption n.journal (IsRefused refusal.NodeDown reply) (asks n.identity.party)) → AtNode w p reply goal
      by None none is = inl (none_beside net.nodes w.nodes p (sym shows.count) none, is)
      by (Some n) at is = let x = stands p n at in up_or_down x.0 x.1 n.identity.party (ap (λ i. i.party) x.2.identity_is) n.journal x.2.journal is

-- what a command does depends on what the nodes recorded, and on no more of them
pub same_step : {F : Type 0} (m : Machine F) (f g : ℕ → List (Hash32 × SignedTx)) → ((p : ℕ) → f p ≡ g p) → (asked : Command) (ws : List (List ℕ)) → doing_of m f asked ws ≡ doing_of m g asked ws
same_step m f g same (command.Start node) ws = ap (λ recorded. start_step (node_at node) (started_by m recorded ws)) (same (node_at node))
same_step m f g same (command.Clock to) ws = refl
same_step m f g same (command.Turn node pick) ws = refl
same_step m f g same (command.Post node) ws = refl
same_step m f g same (command.Deliver node at) ws = refl
same_step m f g same (command.Repeat node at) ws = refl
same_step m f g same (command.Lose node at) ws = refl
same_step m f g same (command.Cut node calls kind) ws = refl
same_step m f g same (command.Boot node) ws = refl
same_step m f g same command.Drain ws = refl
same_step m f g same (command.Flows node) ws = refl
same_step m f g same (command.Flow node flow) ws = refl
same_step m f g same (command.Vault node) ws = refl
same_step m f g same (command.Balance node) ws = refl
same_step m f g same command.Book ws = refl
same_step m f g same (command.TxLine node named) ws = refl
same_step m f g same command.History ws = refl
same_step m f g same (command.Load seed count) ws = refl
same_step m f g same (command.Workers workers turns seed) ws = refl
same_step m f g same command.Quit ws = refl
same_step m f g same command.Unknown ws = refl

-- so a network's is that of each world that it shows
pub step_shown : {F : Type 0} (e : Environment F) (net : NetSeen) (w : World) → Shows e net w → (asked : Command) (ws : List (List ℕ)) → doing_of e.machine (recorded_seen e.frame_at net) asked ws ≡ doing_of e.machine (recorded_in e w) asked ws
step_shown e net w shows asked ws = same_step e.machine (recorded_seen e.frame_at net) (recorded_in e w) (recorded_shown e net w shows) asked ws

-- ---- what is printed of a coherent world

module _ {F : Type 0} (e : Environment F) (w : World) (coherent : Coherent e w) where
  abbrev kept_lists : List (List (List ℕ))
  kept_lists = map (λ x. x.journal) w.nodes

  kept : Choice w kept_lists
  kept = record {
    count = length-map w.nodes (λ (x : NodeWorld). x.journal);
    each = λ p x l at here. inl (same_Some _ _ (sym here ∙ get_map (λ (x : NodeWorld). x.journal) w.nodes p x at));
  }

  pub net_is : network_of e (causes_in e w) ≡ Some (map (λ x. state_of e.frame_at x.journal) w.nodes)
  net_is =
      let run = (coherent_is_faithful e w kept_lists coherent kept).1 in
      let causes = map_both (causes_of e.frame_at) (λ (x : NodeWorld). x.journal) w.nodes in
      let states = map_both (state_of e.frame_at) (λ (x : NodeWorld). x.journal) w.nodes in
      subst (λ l. network_of e l ≡ Some (map (λ (x : NodeWorld). state_of e.frame_at x.journal) w.nodes)) causes (run ∙ ap Some states)

  state_at : (p : ℕ) (x : NodeWorld) → slice_get w.nodes p ≡ Some x → slice_get (map (λ (y : NodeWorld). state_of e.frame_at y.journal) w.nodes) p ≡ Some (state_of e.frame_at x.journal)
  state_at p x at = get_map (λ (y : NodeWorld). state_of e.frame_at y.journal) w.nodes p x at

  pub flows_printed : (p : ℕ) (x : NodeWorld) → slice_get w.nodes p ≡ Some x → printed e (causes_in e w) (of_flows p) ≡ flows_text (state_of e.frame_at x.journal).flows
  unfolding printed
  flows_printed p x at = ap (λ (net : Option (List (NodeState F))). print_of (merged (causes_in e w)) net (of_flows p)) net_is ∙ ap node_text (state_at p x at)

  pub flow_printed : (p f : ℕ) (x : NodeWorld) → slice_get w.nodes p ≡ Some x → printed e (causes_in e w) (of_flow p f) ≡ flow_text f (slice_get (state_of e.frame_at x.journal).flows f)
  unfolding printed
  flow_printed p f x at = ap (λ (net : Option (List (NodeState F))). print_of (merged (causes_in e w)) net (of_flow p f)) net_is ∙ ap (λ (s : Option (NodeState F)). flow_text_at f s) (state_at p x at)

  pub ledger_printed : (q : LedgerQuery) → printed_ledger e (causes_in e w) q ≡ print_ledger (map (λ x. state_of e.frame_at x.journal) w.nodes) q
  unfolding printed_ledger
  ledger_printed q = ap (λ (net : Option (List (NodeState F))). print_ledger_of net q) net_is

  pub vault_printed : (p : ℕ) (x : NodeWorld) → slice_get w.nodes p ≡ Some x → printed_ledger e (causes_in e w) (of_vault p) ≡ vault_text_at p (Some (state_of e.frame_at x.journal))
  vault_printed p x at = ledger_printed (of_vault p) ∙ ap (vault_text_at p) (state_at p x at)

  pub balance_printed : (p : ℕ) (x : NodeWorld) → slice_get w.nodes p ≡ Some x → printed_ledger e (causes_in e w) (of_balance p) ≡ balance_text_at p (Some (state_of e.frame_at x.journal))
  balance_printed p x at = ledger_printed (of_balance p) ∙ ap (balance_text_at p) (state_at p x at)

  pub book_printed : (p : ℕ) (x : NodeWorld) → slice_get w.nodes p ≡ Some x → printed_ledger e (causes_in e w) (of_book p) ≡ book_text (state_of e.frame_at x.journal).entries
  book_printed p x at = ledger_printed (of_book p) ∙ ap book_text_at (state_at p x at)

  pub tx_printed : (p : ℕ) (named : TxName) (x : NodeWorld) → slice_get w.nodes p ≡ Some x → printed_ledger e (causes_in e w) (tx_query p named) ≡ tx_text_in (named_in named (with_ids (state_of e.frame_at x.journal).stored))
  tx_printed p (name.Id id) x at = ledger_printed (of_tx p id) ∙ ap (tx_text_by (with_id id)) (state_at p x at)
  tx_printed p (name.Place k) x at = ledger_printed (of_tx_at p (record_of k)) ∙ ap (tx_text_by (λ recorded. slice_get recorded (record_of k))) (state_at p x at)

  pub history_printed : printed e (causes_in e w) of_history ≡ history_text (merged (causes_in e w))
  unfolding printed
  history_printed = ap (λ (net : Option (List (NodeState F))). print_of (merged (causes_in e w)) net of_history) net_is

-- ---- lists that nodes lend

-- the causes of each
abbrev pub lent_lists : List (Bor (List Cause)) → List (List Cause)
lent_lists lists = map (λ l. l.now) lists

pub one_more_lent : (lists new : List (Bor (List Cause))) (one : Bor (List Cause)) (causes : List Cause) → new ≡ lists ++ one ∷ [] → one.now ≡ causes → lent_lists new ≡ lent_lists lists ++ causes ∷ []
one_more_lent lists new one causes is same = ap lent_lists is ∙ map-append (λ l. l.now) lists (one ∷ []) ∙ ap (λ l. lent_lists lists ++ l ∷ []) same

-- ---- the causes of all nodes

module _ {F : Type 0} (f : Reads F) where
  abbrev put_first : Option (List (List Cause)) → List (List ℕ) → Option (List (List Cause))
  put_first rest bodies = option_map (λ lists. causes_of f bodies ∷ lists) rest

  head_up : (journal : Option (List (List ℕ))) (rest : Option (List (List Cause))) (lists : List (List Cause)) (x : NodeWorld) → ShowsJournal journal x → option_and_then (put_first rest) journal ≡ Some lists
      → (x.up ≡ true) × (more : List (List Cause)) × (rest ≡ Some more) × (lists ≡ causes_of f x.journal ∷ more)
  head_up None rest lists x s is = cc
  head_up (Some b) None lists x s is = cc
  head_up (Some b) (Some more) lists x s is = (s.0, more, refl, sym (same_Some _ _ is) ∙ ap (λ l. causes_of f l ∷ more) (sym s.1))

  head_down : (journal : Option (List (List ℕ))) (rest : Option (List (List Cause))) (x : NodeWorld) → ShowsJournal journal x → option_and_then (put_first rest) journal ≡ None → (x.up ≡ false) ⊎ (rest ≡ None)
  head_down None rest x s is = inl s
  head_down (Some b) None x s is = inr refl
  head_down (Some b) (Some more) x s is = cc

  abbrev ShowEach : List NodeSeen → List NodeWorld → Type 0
  ShowEach ns xs = (p : ℕ) (n : NodeSeen) (x : NodeWorld) → slice_get ns p ≡ Some n → slice_get xs p ≡ Some x → ShowsJournal n.journal x

  pub all_up : (ns : List NodeSeen) (xs : List NodeWorld) (lists : List (List Cause)) → length xs ≡ length ns → ShowEach ns xs → causes_up f ns ≡ Some lists
      → (lists ≡ map (λ x. causes_of f x.journal) xs) × ((p : ℕ) (x : NodeWorld) → slice_get xs p ≡ Some x → x.up ≡ true)
  all_up [] [] lists c each is = (sym (same_Some _ _ is), λ p x at. cc)
  all_up [] (x ∷ xs) lists c each is = cc
  all_up (n ∷ ns) [] lists c each is = cc
  all_up (n ∷ ns) (x ∷ xs) lists c each is =
      let h = head_up n.journal (causes_up f ns) lists x (each 0 n x refl refl) is in
      let t = all_up ns xs h.1 (omega (arith, c)) (λ p m y at here. each (suc p) m y at here) h.2 in
      (h.3 ∙ ap (λ l. causes_of f x.journal ∷ l) t.0, up_at h.0 t.1)
    where
      up_at : x.up ≡ true → ((p : ℕ) (y : NodeWorld) → slice_get xs p ≡ Some y → y.up ≡ true) → (p : ℕ) (y : NodeWorld) → slice_get (x ∷ xs) p ≡ Some y → y.up ≡ true
      up_at here rest zero y at = rw (← same_Some _ _ at) here
      up_at here rest (suc p) y at = rest p y at

  pub one_down : (ns : List NodeSeen) (xs : List NodeWorld) → length xs ≡ length ns → ShowEach ns xs → causes_up f ns ≡ None → (p : ℕ) × (x : NodeWorld) × (slice_get xs p ≡ Some x) × (x.up ≡ false)
  one_down [] xs c each is = cc
  one_down (n ∷ ns) [] c each is = cc
  one_down (n ∷ ns) (x ∷ xs) c each is = go (λ none. one_down ns xs (omega (arith, c)) (λ p m y at here. each (suc p) m y at here) none) (head_down n.journal (causes_up f ns) x (each 0 n x refl refl) is)
    where
      go : (causes_up f ns ≡ None → (p : ℕ) × (y : NodeWorld) × (slice_get xs p ≡ Some y) × (y.up ≡ false)) → (x.up ≡ false) ⊎ (causes_up f ns ≡ None) → (p : ℕ) × (y : NodeWorld) × (slice_get (x ∷ xs) p ≡ Some y) × (y.up ≡ false)
      go rest (inl down) = (0, x, refl, down)
      go rest (inr none) = let t = rest none in (suc t.0, t.1, t.2, t.3)

  -- as many as there are nodes
  up_count_of : (journal : Option (List (List ℕ))) (rest : Option (List (List Cause))) (lists : List (List Cause)) → option_and_then (put_first rest) journal ≡ Some lists
      → (more : List (List Cause)) × (rest ≡ Some more) × (length lists ≡ suc (length more))
  up_count_of None rest lists is = cc
  up_count_of (Some b) None lists is = cc
  up_count_of (Some b) (Some more) lists is = (more, refl, sym (ap length (same_Some _ _ is)))

  pub up_count : (ns : List NodeSeen) (lists : List (List Cause)) → causes_up f ns ≡ Some lists → length lists ≡ length ns
  up_count [] lists is = sym (ap length (same_Some _ _ is))
  up_count (n ∷ ns) lists is = let h = up_count_of n.journal (causes_up f ns) lists is in h.2 ∙ ap suc (up_count ns h.0 h.1)

  -- ---- one node after another

  abbrev onto : List (List Cause) → List NodeSeen → Option (List (List Cause))
  onto lists ns = option_map (λ rest. lists ++ rest) (causes_up f ns)

  pub causes_step : (ns : List NodeSeen) (i : ℕ) (n : NodeSeen) (lists : List (List Cause)) (bodies : List (List ℕ)) → slice_get ns i ≡ Some n → n.journal ≡ Some bodies
      → onto (lists ++ causes_of f bodies ∷ []) (drop (suc i) ns) ≡ onto lists (drop i ns)
  causes_step ns i n lists bodies at up =
      go (causes_up f (drop (suc i) ns)) ∙ sym (ap (onto lists) (drop_get ns i n at) ∙ ap (λ j. option_map (λ rest. lists ++ rest) (option_and_then (put_first (causes_up f (drop (suc i) ns))) j)) up)
    where
      go : (o : Option (List (List Cause))) → option_map (λ rest. (lists ++ causes_of f bodies ∷ []) ++ rest) o ≡ option_map (λ rest. lists ++ rest) (put_first o bodies)
      go None = refl
      go (Some l) = ap Some (append_assoc lists (causes_of f bodies ∷ []) l)

-- ---- the answers about a node

-- an item that was read stands there
pub found : {X : Type 0} (xs : List X) (p : ℕ) (d x : X) → p < length xs → x ≡ slice_index_or xs p d → slice_get xs p ≡ Some x
found [] p d x few is = absurd (omega (arith, few))
found (y ∷ ys) zero d x few is = ap Some (sym is)
found (y ∷ ys) (suc p) d x few is = found ys p d x (omega (arith, few)) is

-- the same, of a list that another is
pub found_at : {X : Type 0} (ys xs : List X) (p : ℕ) (d x : X) → xs ≡ ys → nat_lt p (length xs) ≡ true → x ≡ slice_index_or xs p d → slice_get ys p ≡ Some x
found_at ys xs p d x same few is = subst (λ l. slice_get l p ≡ Some x) same (found xs p d x (grind (arith, nat_tests, few)) is)

-- a node that is not up has no journal
pub down_none : {X : Type 0} (b : Bool) (journal : Option X) → ((IsTrue b → IsSome journal) × (IsSome journal → IsTrue b)) → b ≡ false → journal ≡ None
down_none b None h is = refl
down_none true (Some x) h is = cc
down_none false (Some x) h is = let e : false ≡ true = h.1 refl in cc

pub up_not_none : {X : Type 0} (b : Bool) (journal : Option X) → ((IsTrue b → IsSome journal) × (IsSome journal → IsTrue b)) → b ≡ true → journal ≡ None → ⊥
up_not_none true None h is none = let e : false ≡ true = h.0 refl in cc
up_not_none false None h is none = cc
up_not_none b (Some x) h is none = cc

-- what is asked of a node that is down, and of one that is up
pub seen_down : (net : NetSeen) (p : ℕ) (reply : Reply) (asks : List (List ℕ) → Type 0) (n : NodeSeen) → slice_get net.nodes p ≡ Some n → n.journal ≡ None → IsRefused refusal.NodeDown reply → AtSeen net p reply asks
seen_down net p reply asks n at down is = rw (at, down) is

pub seen_up : (net : NetSeen) (p : ℕ) (reply : Reply) (asks : List (List ℕ) → Type 0) (n : NodeSeen) (bodies : List (List ℕ)) → slice_get net.nodes p ≡ Some n → n.journal ≡ Some bodies → asks bodies → AtSeen net p reply asks
seen_up net p reply asks n bodies at up is = rw (at, up) is

-- so where it is asked also whose node it is
pub of_down : (net : NetSeen) (p : ℕ) (reply : Reply) (asks : Party → List (List ℕ) → Type 0) (n : NodeSeen) → slice_get net.nodes p ≡ Some n → n.journal ≡ None → IsRefused refusal.NodeDown reply → OfSeen net p reply asks
of_down net p reply asks n at down is = rw (at, down) is

pub of_up : (net : NetSeen) (p : ℕ) (reply : Reply) (asks : Party → List (List ℕ) → Type 0) (n : NodeSeen) (bodies : List (List ℕ)) → slice_get net.nodes p ≡ Some n → n.journal ≡ Some bodies → asks n.identity.party bodies → OfSeen net p reply asks
of_up net p reply asks n bodies at up is = rw (at, up) is

-- ---- what tables hold is printed

module _ {F : Type 0} (f : Reads F) (me : Party) (bodies : List (List ℕ)) (tables : Ledger) (holds : HoldsLedger me (ledger_in (state_of f bodies)) tables) (reply : Reply) where
  pub vault_of_tables : reply_text reply ≡ vault_text (ids_of tables.store.list) tables.vault.held → PrintsVault f reply me bodies
  vault_of_tables is = is ∙ ap (λ l. vault_text (ids_of l) tables.vault.held) holds.store ∙ ap (vault_text (ids_of (with_ids (state_of f bodies).stored))) holds.vault.states

  pub balance_of_tables : reply_text reply ≡ balance_text tables.vault.held → PrintsBalance f reply me bodies
  balance_of_tables is = is ∙ ap balance_text holds.vault.states

  pub book_of_tables : reply_text reply ≡ book_text tables.book.entries → PrintsBook f reply bodies
  book_of_tables is = is ∙ ap book_text holds.book

  pub tx_none : (named : TxName) → named_in named tables.store.list ≡ None → IsRefused refusal.NoTransaction reply → PrintsTx f named reply bodies
  tx_none named none is = rw (ap (named_in named) (sym holds.store) ∙ none) is

  pub tx_some : (named : TxName) (found : Hash32 × SignedTx) → named_in named tables.store.list ≡ Some found → reply_text reply ≡ tx_text found.0 found.1 → PrintsTx f named reply bodies
  tx_some named found some is = rw (ap (named_in named) (sym holds.store) ∙ some) is

-- a refusal that does not depend on the journal
pub seen_refused : (net : NetSeen) (p : ℕ) (reply : Reply) (why : Refusal) (n : NodeSeen) → slice_get net.nodes p ≡ Some n → (n.journal ≡ None → ⊥) → IsRefused why reply → AtSeen net p reply (λ bodies. IsRefused why reply)
seen_refused net p reply why n at up is = rw at (by n.journal up)
  where
    by : (journal : Option (List (List ℕ))) → (journal ≡ None → ⊥) → MatchOption journal (IsRefused refusal.NodeDown reply) (λ bodies. IsRefused why reply)
    by None none = absurd (none refl)
    by (Some bodies) some = is

-- the line of a flow, or that there is none
pub flow_none : {F : Type 0} (f : Reads F) (number : ℕ) (reply : Reply) (bodies : List (List ℕ)) → slice_get (state_of f bodies).flows number ≡ None → IsRefused refusal.NoFlow reply → PrintsFlow f number reply bodies
flow_none f number reply bodies none is = rw none is

pub flow_some : {F : Type 0} (f : Reads F) (number : ℕ) (reply : Reply) (bodies : List (List ℕ)) (flow : FlowState F) → slice_get (state_of f bodies).flows number ≡ Some flow → reply_text reply ≡ flow_line number flow ++ 10 ∷ [] → PrintsFlow f number reply bodies
flow_some f number reply bodies flow some is = rw some is

-- the causes of all nodes, or that one is down
pub history_none : {F : Type 0} (f : Reads F) (net : NetSeen) (reply : Reply) → causes_up f net.nodes ≡ None → IsRefused refusal.NodeDown reply → PrintsHistory f net reply
history_none f net reply none is = rw none is

pub history_some : {F : Type 0} (f : Reads F) (net : NetSeen) (reply : Reply) (lists : List (List Cause)) → causes_up f net.nodes ≡ Some lists → reply_text reply ≡ history_text (merged lists) → PrintsHistory f net reply
history_some f net reply lists some is = rw some is

-- ---- what is shown is so in each coherent world that is shown

module _ {F : Type 0} (e : Environment F) (net : NetSeen) (w : World) (shows : Shows e net w) (coherent : Coherent e w) where
  start_answers : (p : ℕ) (words : Result (ℕ × List ℕ) WordFault) (reply : Reply) → StartsNone net p words reply → RefusesWords w p words reply
  start_answers p (Ok words) reply h = h
  start_answers p (Err word.UnknownClass) reply h = at_node e net w shows p reply (λ bodies. IsRefused refusal.UnknownClass reply) (λ x. IsRefused refusal.UnknownClass reply) (λ x here is. is) h
  start_answers p (Err word.BadArgs) reply h = at_node e net w shows p reply (λ bodies. IsRefused refusal.BadArgs reply) (λ x. IsRefused refusal.BadArgs reply) (λ x here is. is) h
  start_answers p (Err word.Memory) reply h = h

  flows_answer : (p : ℕ) (reply : Reply) → AtSeen net p reply (PrintsFlows e.frame_at reply) → AtNode w p reply (λ x. reply_text reply ≡ printed e (causes_in e w) (of_flows p))
  flows_answer p reply h =
      at_node e net w shows p reply (PrintsFlows e.frame_at reply) (λ x. reply_text reply ≡ printed e (causes_in e w) (of_flows p)) (λ x here is. is ∙ sym (flows_printed e w coherent p x here)) h

  flow_answers : (p f : ℕ) (reply : Reply) → AtSeen net p reply (PrintsFlow e.frame_at f reply) → AtNode w p reply (AsksFlow e w p f reply)
  flow_answers p f reply h = at_node e net w shows p reply (PrintsFlow e.frame_at f reply) (AsksFlow e w p f reply) (λ x here is. line x here (slice_get (state_of e.frame_at x.journal).flows f) refl is) h
    where
      line : (x : NodeWorld) → slice_get w.nodes p ≡ Some x → (o : Option (FlowState F)) → slice_get (state_of e.frame_at x.journal).flows f ≡ o
          → MatchOption o (IsRefused refusal.NoFlow reply) (λ flow. reply_text reply ≡ flow_line f flow ++ 10 ∷ []) → AsksFlow e w p f reply x
      line x here None none is = inl (none, is)
      line x here (Some flow) some is = inr ((flow, some), is ∙ ap (λ o. flow_text f o) (sym some) ∙ sym (flow_printed e w coherent p f x here))

  vault_answers : (p : ℕ) (reply : Reply) → OfSeen net p reply (PrintsVault e.frame_at reply) → AtNode w p reply (λ x. reply_text reply ≡ printed_ledger e (causes_in e w) (of_vault p))
  vault_answers p reply h = of_node e net w shows p reply (PrintsVault e.frame_at reply) (λ x. reply_text reply ≡ printed_ledger e (causes_in e w) (of_vault p)) (λ x here is. is ∙ sym (vault_printed e w coherent p x here)) h

  balance_answers : (p : ℕ) (reply : Reply) → OfSeen net p reply (PrintsBalance e.frame_at reply) → AtNode w p reply (λ x. reply_text reply ≡ printed_ledger e (causes_in e w) (of_balance p))
  balance_answers p reply h = of_node e net w shows p reply (PrintsBalance e.frame_at reply) (λ x. reply_text reply ≡ printed_ledger e (causes_in e w) (of_balance p)) (λ x here is. is ∙ sym (balance_printed e w coherent p x here)) h

  book_at : (p : ℕ) (reply : Reply) → AtSeen net p reply (PrintsBook e.frame_at reply) → AtNode w p reply (λ x. reply_text reply ≡ printed_ledger e (causes_in e w) (of_book p))
  book_at p reply h = at_node e net w shows p reply (PrintsBook e.frame_at reply) (λ x. reply_text reply ≡ printed_ledger e (causes_in e w) (of_book p)) (λ x here is. is ∙ sym (book_printed e w coherent p x here)) h

  -- the notary of the first node is that of the network; without nodes every node is none
  book_answers : (reply : Reply) → AtSeen net (notary_seen net) reply (PrintsBook e.frame_at reply) → AtNode w e.notary.0 reply (λ x. reply_text reply ≡ printed_ledger e (causes_in e w) (of_book e.notary.0))
  book_answers reply h = book_at e.notary.0 reply (by net.nodes refl h)
    where
      by : (ns : List NodeSeen) → net.nodes ≡ ns → AtSeen net (notary_seen net) reply (PrintsBook e.frame_at reply) → AtSeen net e.notary.0 reply (PrintsBook e.frame_at reply)
      by [] none is = rw none (rw none at is)
      by (n ∷ ns) some is = subst (λ p. AtSeen net p reply (PrintsBook e.frame_at reply)) (ap (λ l. option_map_or (λ m. m.identity.notary.0) (slice_get l 0) 0) some ∙ ap (λ i. i.notary.0) (stands e net w shows 0 n (ap (λ l. slice_get l 0) some)).2.identity_is) is

  tx_answers : (p : ℕ) (named : TxName) (reply : Reply) → AtSeen net p reply (PrintsTx e.frame_at named reply) → AtNode w p reply (AsksTx e w p named reply)
  tx_answers p named reply h = at_node e net w shows p reply (PrintsTx e.frame_at named reply) (AsksTx e w p named reply) (λ x here is. line x here (named_in named (with_ids (state_of e.frame_at x.journal).stored)) refl is) h
    where
      line : (x : NodeWorld) → slice_get w.nodes p ≡ Some x → (o : Option (Hash32 × SignedTx)) → named_in named (with_ids (state_of e.frame_at x.journal).stored) ≡ o
          → MatchOption o (IsRefused refusal.NoTransaction reply) (λ found. reply_text reply ≡ tx_text found.0 found.1) → AsksTx e w p named reply x
      line x here None none is = inl (none, is)
      line x here (Some found) some is = inr ((found, some), is ∙ ap tx_text_in (sym some) ∙ sym (tx_printed e w coherent p named x here))

  history_answers : (reply : Reply) → PrintsHistory e.frame_at net reply → AsksHistory e w reply
  history_answers reply h = by (causes_up e.frame_at net.nodes) refl h
    where
      by : (o : Option (List (List Cause))) → causes_up e.frame_at net.nodes ≡ o → MatchOption o (IsRefused refusal.NodeDown reply) (λ lists. reply_text reply ≡ history_text (merged lists)) → AsksHistory e w reply
      by None none is = inl (one_down e.frame_at net.nodes w.nodes shows.count (shows_each e net w shows) none, is)
      by (Some lists) some is =
          let up = all_up e.frame_at net.nodes w.nodes lists shows.count (shows_each e net w shows) some in
          inr (up.1, is ∙ ap (λ l. history_text (merged l)) up.0 ∙ sym (history_printed e w coherent))

module _ {F : Type 0} (m : Meaning F) (id : Identity) (net : NetSeen) (w : World) (shows : Shows (environment m id) net w) (coherent : Coherent (environment m id) w) where
  abbrev meant : Environment F
  meant = environment m id

  pub shown_answers : (asked : Command) (ws : List (List ℕ)) (reply : Reply) → IsShown m net asked ws reply → Answers meant w asked ws reply
  shown_answers (command.Start node) ws reply h =
      let p = node_at node in
      subst (λ recorded. RefusesWords w p (started_by m.machine recorded ws) reply) (recorded_shown meant net w shows p)
      (start_answers meant net w shows coherent p (started_by m.machine (recorded_seen m.frame_at net p) ws) reply h)
  shown_answers (command.Flows node) ws reply h = flows_answer meant net w shows coherent (node_at node) reply h
  shown_answers (command.Flow node flow) ws reply h = flow_answers meant net w shows coherent (node_at node) (flow_of flow) reply h
  shown_answers (command.Vault node) ws reply h = vault_answers meant net w shows coherent (node_at node) reply h
  shown_answers (command.Balance node) ws reply h = balance_answers meant net w shows coherent (node_at node) reply h
  shown_answers command.Book ws reply h = book_answers meant net w shows coherent reply h
  shown_answers (command.TxLine node named) ws reply h = tx_answers meant net w shows coherent (node_at node) named reply h
  shown_answers command.History ws reply h = history_answers meant net w shows coherent reply h
  shown_answers command.Quit ws reply h = h
  shown_answers command.Unknown ws reply h = h
  shown_answers (command.Clock to) ws reply h = h
  shown_answers (command.Turn node pick) ws reply h = h
  shown_answers (command.Post node) ws reply h = h
  shown_answers (command.Deliver node at) ws reply h = h
  shown_answers (command.Repeat node at) ws reply h = h
  shown_answers (command.Lose node at) ws reply h = h
  shown_answers (command.Cut node calls kind) ws reply h = h
  shown_answers (command.Boot node) ws reply h = h
  shown_answers command.Drain ws reply h = h
  shown_answers (command.Load seed count) ws reply h = h
  shown_answers (command.Workers workers turns seed) ws reply h = h
