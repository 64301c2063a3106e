-- A load of a network is one of each coherent world that it shows, and of both together; and so is work side by side.
use Rattle.std.proofs.Common.{◌≡◌, inl, inr, ℕ, suc, ◌+◌, Bool, true, false, List, [], ◌∷◌, ◌++◌, length, Option, Some, None, refl, sym, ◌∙◌, ap, ap₂, subst, arith, append_assoc, drop}
use Rattle.std.proofs.lemmas.List.Concat.{flat_map-cons}
use Rattle.std.specs.Prelude.{◌&&◌, IsTrue, IsSome, is_some, option_and_then, Result, Ok, Err, if◌then◌else◌}
use Rattle.std.specs.List.{flat_map, list_all, slice_get}
use Rattle.std.specs.Option.{option_map_or}
use Rattle.net_base.specs.declared.names.Identity.{Identity}
use Rattle.net_base.specs.declared.values.Party.{Party}
use Rattle.net_base.proofs.Lists.{drop_get}
use Rattle.ledger_types.specs.declared.held.Held.{Held}
use Rattle.ledger_tables.specs.Ledgers.{Ledger}
use Rattle.node_ledger.specs.Ledgered.{HoldsLedger, ledger_in}
use Rattle.net_model.specs.Environment.{Environment, environment, party, Meaning}
use Rattle.node_tables.specs.Journals.{Reads, state_of}
use Rattle.node_core.specs.Seen.{NodeSeen}
use Rattle.network_core.specs.declared.steps.Outcome.{Outcome}
use Rattle.network_core.specs.declared.steps.Step.{Step}
use Rattle.network_core.specs.Drains.{Pair, with_world}
use Rattle.network_core.specs.Following.{NetFollows, PairFollows, FollowPairs}
use Rattle.network_core.specs.Worlds.{World, NodeWorld, NetSeen, Shows, ShowsJournal, KeepsWorld}
use Rattle.network_core.proofs.KeepingCalls.{pairs_are_both}
use Rattle.flow_workers.specs.Ends.{WorkedOn, KeepsTails}
use Rattle.shell_words.specs.declared.commands.Command.TheVariants as command
use Rattle.node_shell.specs.declared.replies.Reply.{Reply}
use Rattle.node_shell.specs.LedgerPrint.{vault_in}
use Rattle.node_shell.specs.Loads.{Course, load, work, Deal, Pays, none, more, Loaded, Breaks, BreaksFirst, PaysShort, LoadedShort, Loads, WorksOrNot, GoesOver, all_but, is_paid, then_drain, issues_by, deals_of}
use Rattle.node_shell.specs.Lines.{Comes, ended_by, ended_up, ended_in, held_from, waiting_in, world_states}
use Rattle.node_shell.specs.Responds.{given, ended_seen, held_by, held_of, net_states, notary_seen}
use Rattle.node_shell.specs.Together.{InPair, pair_states}
use Rattle.node_shell.proofs.Loading.{paid_same, course_map}
use Rattle.node_shell.proofs.Shown.{stands, shows_each, none_beside}

-- ---- what a network shows of its world

module _ {F : Type 0} (f : Reads F) where
  journal_up : (x : NodeWorld) (journal : Option (List (List ℕ))) → ShowsJournal journal x → x.up ≡ is_some journal
  journal_up x None down = down
  journal_up x (Some bodies) s = s.0

  abbrev ShowEach : List NodeSeen → List NodeWorld → Type 0
  ShowEach ns xs = (p : ℕ) (n : NodeSeen) (x : NodeWorld) → slice_get ns p ≡ Some n → slice_get xs p ≡ Some x → ShowsJournal n.journal x

  all_up_shown : (ns : List NodeSeen) (xs : List NodeWorld) → length xs ≡ length ns → ShowEach ns xs → list_all (λ (x : NodeWorld). x.up) xs ≡ list_all (λ (n : NodeSeen). is_some n.journal) ns
  all_up_shown [] [] count each = refl
  all_up_shown [] (x ∷ xs) count each = cc
  all_up_shown (n ∷ ns) [] count each = cc
  all_up_shown (n ∷ ns) (x ∷ xs) count each =
      ap₂ (λ (a : Bool) (b : Bool). a && b) (journal_up x n.journal (each 0 n x refl refl)) (all_up_shown ns xs (omega (arith, count)) (λ p m y at here. each (suc p) m y at here))

  -- the states of a node
  held_shown_of : (p : ℕ) (x : NodeWorld) (me : Party) → me ≡ party p → (journal : Option (List (List ℕ))) → ShowsJournal journal x
      → (if x.up then vault_in p (state_of f x.journal) else []) ≡ option_map_or (held_by f me) journal []
  held_shown_of p x me own None down = rw down refl
  held_shown_of p x me own (Some bodies) s = rw s.0 (ap (λ b. held_by f (party p) b) s.1 ∙ ap (λ q. held_by f q bodies) (sym own))

  abbrev StandEach : ℕ → List NodeSeen → List NodeWorld → Type 0
  StandEach p ns xs = (i : ℕ) (n : NodeSeen) (x : NodeWorld) → slice_get ns i ≡ Some n → slice_get xs i ≡ Some x → (n.identity.party ≡ party (p + i)) × ShowsJournal n.journal x

  all_held_shown : (p : ℕ) (ns : List NodeSeen) (xs : List NodeWorld) → length xs ≡ length ns → StandEach p ns xs → held_from f p xs ≡ flat_map (held_of f) ns
  all_held_shown p [] [] count each = refl
  all_held_shown p [] (x ∷ xs) count each = cc
  all_held_shown p (n ∷ ns) [] count each = cc
  all_held_shown p (n ∷ ns) (x ∷ xs) count each =
      let first = each 0 n x refl refl in
      let own : n.identity.party ≡ party p = first.0 ∙ ap party (omega arith) in
      ap₂ (λ (a : List Held) (b : List Held). a ++ b) (held_shown_of p x n.identity.party own n.journal first.1)
      (all_held_shown (suc p) ns xs (omega (arith, count)) (λ i m y at here. let next = each (suc i) m y at here in (next.0 ∙ ap party (omega arith), next.1)))
      ∙ sym (flat_map-cons (held_of f) n ns)

  -- ---- one node after another

  -- a node that is down holds nothing
  pub held_down : (n : NodeSeen) → n.journal ≡ None → held_of f n ≡ []
  held_down n down = ap (λ (j : Option (List (List ℕ))). option_map_or (held_by f n.identity.party) j []) down

  -- of one that is up the tables hold what its journal says
  pub held_up : (n : NodeSeen) (bodies : List (List ℕ)) (tables : Ledger) → n.journal ≡ Some bodies → HoldsLedger n.identity.party (ledger_in (state_of f bodies)) tables → tables.vault.held ≡ held_of f n
  held_up n bodies tables up holds = holds.vault.states ∙ sym (ap (λ (j : Option (List (List ℕ))). option_map_or (held_by f n.identity.party) j []) up)

  pub held_step : (ns : List NodeSeen) (i : ℕ) (n : NodeSeen) (held own : List Held) → slice_get ns i ≡ Some n → own ≡ held_of f n
      → (held ++ own) ++ flat_map (held_of f) (drop (suc i) ns) ≡ held ++ flat_map (held_of f) (drop i ns)
  held_step ns i n held own at is =
      let rest = flat_map (held_of f) (drop (suc i) ns) in
      append_assoc held own rest ∙ ap (λ (m : List Held). held ++ (m ++ rest)) is ∙ ap (λ (l : List Held). held ++ l) (sym (ap (flat_map (held_of f)) (drop_get ns i n at) ∙ flat_map-cons (held_of f) n (drop (suc i) ns)))

module _ {F : Type 0} (e : Environment F) (net : NetSeen) (w : World) (shows : Shows e net w) where
  up_shown : list_all (λ (x : NodeWorld). x.up) w.nodes ≡ list_all (λ (n : NodeSeen). is_some n.journal) net.nodes
  up_shown = all_up_shown e.frame_at net.nodes w.nodes shows.count (shows_each e net w shows)

  held_shown : held_from e.frame_at 0 w.nodes ≡ flat_map (held_of e.frame_at) net.nodes
  held_shown = all_held_shown e.frame_at 0 net.nodes w.nodes shows.count (λ i n x at here. let s = shows.each i n x at here in (ap (λ (k : Identity). k.party) s.identity_is ∙ ap party (omega arith), s.journal))

  ended_shown : (p f : ℕ) → ended_in e p f w ≡ ended_seen e.frame_at p f net
  ended_shown p f = sym (by (slice_get net.nodes p) refl)
    where
      up_or_down : (x : NodeWorld) (journal : Option (List (List ℕ))) → ShowsJournal journal x → option_map_or (ended_by e.frame_at f) journal false ≡ ended_up e.frame_at f x
      up_or_down x None down = rw down refl
      up_or_down x (Some bodies) s = rw s.0 (ap (ended_by e.frame_at f) (sym s.1))

      by : (o : Option NodeSeen) → slice_get net.nodes p ≡ o → option_map_or (ended_by e.frame_at f) (option_and_then (λ n. n.journal) o) false ≡ ended_in e p f w
      by None nobody = sym (ap (λ (x : Option NodeWorld). option_map_or (ended_up e.frame_at f) x false) (none_beside net.nodes w.nodes p (sym shows.count) nobody))
      by (Some n) at = let x = stands e net w shows p n at in up_or_down x.0 n.journal x.2.journal ∙ sym (ap (λ (y : Option NodeWorld). option_map_or (ended_up e.frame_at f) y false) x.1)

  payers_shown : all_but e.notary.0 (length w.nodes) ≡ all_but (notary_seen net) (length net.nodes)
  payers_shown = ap (all_but e.notary.0) shows.count ∙ by net.nodes refl
    where
      by : (ns : List NodeSeen) → net.nodes ≡ ns → all_but e.notary.0 (length net.nodes) ≡ all_but (notary_seen net) (length net.nodes)
      by [] empty = ap (λ (l : List NodeSeen). all_but e.notary.0 (length l)) empty ∙ sym (ap (λ (l : List NodeSeen). all_but (notary_seen net) (length l)) empty)
      by (n ∷ ns) some =
          let first = ap (λ (l : List NodeSeen). slice_get l 0) some in
          let notary = ap (λ (o : Option NodeSeen). option_map_or (λ m. m.identity.notary.0) o 0) first ∙ ap (λ (i : Identity). i.notary.0) (stands e net w shows 0 n first).2.identity_is in
          ap (λ k. all_but k (length net.nodes)) (sym notary)

-- work side by side keeps what waits at each node of the worlds that it leads between, as it does of the networks
tails_shown : {F : Type 0} (m : Meaning F) (e : Environment F) (old new : NetSeen) (w v : World) (commits : ℕ) → Shows e old w → Shows e new v → WorkedOn m old new commits false → KeepsTails (waiting_in w) (waiting_in v)
tails_shown m e old new w v commits before after works =
    subst (λ (l : List (List (List ℕ))). KeepsTails l (waiting_in v)) (sym before.waiting) (subst (λ (l : List (List (List ℕ))). KeepsTails old.waiting l) (sym after.waiting) works.tails)

-- ---- both together

module _ {F : Type 0} (m : Meaning F) (id : Identity) where
  abbrev env : Environment F
  env = environment m id

  same_in : (P : Pair env → Type 0) (a : Pair env) (k : NetSeen) → k ≡ a.net → P a → InPair env k P
  same_in P a k is h = subst (λ (n : NetSeen). InPair env n P) (sym is) (record { world = a.world; shows = a.shows; coherent = a.coherent; holds = h })

  follows_in : (steps : List Step) (outcomes : List Outcome) (all : Bool) (a : Pair env) (k : NetSeen) → (net_states m).follows steps outcomes all a.net k → InPair env k (λ b. PairFollows m id steps outcomes all a b)
  follows_in steps outcomes all a k h = let b = h.1 id a.world a.shows a.coherent in record { world = b.0; shows = b.1; coherent = b.2; holds = b.3 }

  paid_seen : (node : ℕ) (outcomes : List Outcome) (b : Pair env) → is_paid (net_states m) node outcomes b.net ≡ is_paid (pair_states m id) node outcomes b
  paid_seen node outcomes b = paid_same (pair_states m id) (net_states m) (λ (z : Pair env). z.net) (λ p f a. refl) node outcomes b

  pays_in : (deals : List Deal) (paid : ℕ) (a : Pair env) (k : NetSeen) → Pays (net_states m) deals paid a.net k → InPair env k (λ b. Pays (pair_states m id) deals paid a b)
  pays_in deals paid a k (none empty unpaid is) = same_in (λ b. Pays (pair_states m id) deals paid a b) a k is (none empty unpaid refl)
  pays_in all sum a k (more {deals = deals} {paid = paid} {u = mid} d outcomes before pays all_is sum_is) =
      let u = pays_in deals paid a mid before in
      let v = follows_in (then_drain d.starts) outcomes true (with_world mid u.world u.shows u.coherent) k pays in
      let b = with_world k v.world v.shows v.coherent in
      record { world = v.world; shows = v.shows; coherent = v.coherent; holds = more d outcomes u.holds v.holds all_is (sum_is ∙ ap (λ (p : Bool). paid + (if p then 1 else 0)) (paid_seen d.node outcomes b)) }

  breaks_in : (steps : List Step) (a : Pair env) (k : NetSeen) → Breaks (net_states m) steps a.net k → InPair env k (λ b. Breaks (pair_states m id) steps a b)
  breaks_in steps a k (inl is) = same_in (λ b. Breaks (pair_states m id) steps a b) a k is (inl refl)
  breaks_in steps a k (inr (outcomes, h)) = let v = follows_in steps outcomes false a k h in record { world = v.world; shows = v.shows; coherent = v.coherent; holds = inr (outcomes, v.holds) }

  first_in : (deals : List Deal) (a : Pair env) (k : NetSeen) → BreaksFirst (net_states m) deals a.net k → InPair env k (λ b. BreaksFirst (pair_states m id) deals a b)
  first_in [] a k is = same_in (λ b. BreaksFirst (pair_states m id) [] a b) a k is refl
  first_in (d ∷ ds) a k h = breaks_in (then_drain d.starts) a k h

  short_in : (deals : List Deal) (a : Pair env) (k : NetSeen) → PaysShort (net_states m) deals a.net k → InPair env k (λ b. PaysShort (pair_states m id) deals a b)
  short_in deals a k h =
      let u = pays_in h.made h.paid a h.last h.pays in
      let mid = with_world h.last u.world u.shows u.coherent in
      let v = first_in h.rest mid k h.breaks in
      record { world = v.world; shows = v.shows; coherent = v.coherent; holds = record { made = h.made; rest = h.rest; all = h.all; paid = h.paid; last = mid; pays = u.holds; breaks = v.holds } }

  loaded_in : (issues : List Step) (deals : List Deal) (paid : ℕ) (a : Pair env) (k : NetSeen) → Loaded (net_states m) issues deals paid a.net k → InPair env k (λ b. Loaded (pair_states m id) issues deals paid a b)
  loaded_in issues deals paid a k h =
      let u = follows_in (then_drain issues) h.outcomes true a h.funded h.issued in
      let mid = with_world h.funded u.world u.shows u.coherent in
      let v = pays_in deals paid mid k h.pays in
      record { world = v.world; shows = v.shows; coherent = v.coherent; holds = record { outcomes = h.outcomes; funded = mid; issued = u.holds; pays = v.holds } }

  loaded_short_in : (issues : List Step) (deals : List Deal) (a : Pair env) (k : NetSeen) → LoadedShort (net_states m) issues deals a.net k → InPair env k (λ b. LoadedShort (pair_states m id) issues deals a b)
  loaded_short_in issues deals a k (inl h) = let v = breaks_in (then_drain issues) a k h in record { world = v.world; shows = v.shows; coherent = v.coherent; holds = inl v.holds }
  loaded_short_in issues deals a k (inr h) =
      let u = follows_in (then_drain issues) h.outcomes true a h.funded h.issued in
      let mid = with_world h.funded u.world u.shows u.coherent in
      let v = short_in deals mid k h.short in
      record { world = v.world; shows = v.shows; coherent = v.coherent; holds = inr (record { outcomes = h.outcomes; funded = mid; issued = u.holds; short = v.holds }) }

  -- from each coherent world that the network shows
  pub course_in : (c : Course) (reply : Option Reply) (a : Pair env) (k : NetSeen) → GoesOver (net_states m) m.machine c a.net reply k → InPair env k (λ b. GoesOver (pair_states m id) m.machine c a reply b)
  course_in (load seed count) (Some reply) a k (inl refused) = same_in (λ b. Loads (pair_states m id) m.machine seed count a (Some reply) b) a k refused.1 (inl (refused.0, refl))
  course_in (load seed count) (Some reply) a k (inr (takes, (paid, loaded, told))) =
      let q = (net_states m).payers a.net in
      let v = loaded_in (issues_by m.machine q) (deals_of m.machine q seed count) paid a k loaded in
      record { world = v.world; shows = v.shows; coherent = v.coherent; holds = inr (takes, (paid, v.holds, told)) }
  course_in (load seed count) None a k (inl is) = same_in (λ b. Loads (pair_states m id) m.machine seed count a None b) a k is (inl refl)
  course_in (load seed count) None a k (inr (takes, short)) =
      let q = (net_states m).payers a.net in
      let v = loaded_short_in (issues_by m.machine q) (deals_of m.machine q seed count) a k short in
      record { world = v.world; shows = v.shows; coherent = v.coherent; holds = inr (takes, v.holds) }
  course_in (work workers turns seed) (Some reply) a k (inl refused) = same_in (λ b. GoesOver (pair_states m id) m.machine (work workers turns seed) a (Some reply) b) a k refused.2 (inl (refused.0, refused.1, refl))
  course_in (work workers turns seed) (Some reply) a k (inr (up, (commits, works, told))) =
      let v = works.leads id a.world a.shows a.coherent in
      let shows = subst (λ (n : ℕ). Shows env (record { nodes = k.nodes; waiting = k.waiting; now = n }) v.0) (sym works.now) v.1 in
      record { world = v.0; shows = shows; coherent = v.2; holds = inr (up, (commits, (works, v.3, tails_shown m env a.net k a.world v.0 commits a.shows shows works), told)) }
  course_in (work workers turns seed) None a k is = same_in (λ b. GoesOver (pair_states m id) m.machine (work workers turns seed) a None b) a k is refl

  -- so of the worlds alone
  pub course_world : (c : Course) (reply : Option Reply) (a b : Pair env) → GoesOver (pair_states m id) m.machine c a reply b → GoesOver (world_states env) m.machine c a.world reply b.world
  course_world c reply a b h =
      course_map (pair_states m id) (world_states env) (λ (z : Pair env). z.world) (λ p f z. ended_shown env z.net z.world z.shows p f)
      (λ steps outcomes all x y follows. (pairs_are_both m id x y).worlds steps outcomes all follows)
      (λ commits x y works. (works.1, works.2, y.coherent))
      m.machine (λ z. payers_shown env z.net z.world z.shows) (λ z. up_shown env z.net z.world z.shows) (λ z. held_shown env z.net z.world z.shows) c reply a b h

-- such a command of a network has the same result in each world that it shows
course_comes : {F E : Type 0} (m : Meaning F) (old new : NetSeen) (c : Course) (result : Result Reply E) → GoesOver (net_states m) m.machine c old (given result) new
    → KeepsWorld m old new (λ e w v. GoesOver (world_states e) e.machine c w (given result) v)
course_comes m old new c result h id w shows coherent =
    let a = with_world old w shows coherent in
    let b = course_in m id c (given result) a new h in
    (b.world, b.shows, b.coherent, course_world m id c (given result) a (with_world new b.world b.shows b.coherent) b.holds)

pub load_comes : {F E : Type 0} (m : Meaning F) (old new : NetSeen) (seed count : ℕ) (ws : List (List ℕ)) (result : Result Reply E) → Loads (net_states m) m.machine seed count old (given result) new
    → KeepsWorld m old new (λ e w v. Comes e w (command.Load seed count) ws result v)
load_comes {F} {E} m old new seed count ws result h id w shows coherent =
    let b = course_comes m old new (load seed count) result h id w shows coherent in
    (b.0, b.1, b.2, by b.0 result b.3)
  where
    by : (z : World) (r : Result Reply E) → Loads (world_states (environment m id)) m.machine seed count w (given r) z → Comes (environment m id) w (command.Load seed count) ws r z
    by z (Ok reply) g = g
    by z (Err fault) g = g

pub work_comes : {F E : Type 0} (m : Meaning F) (old new : NetSeen) (workers turns seed : ℕ) (ws : List (List ℕ)) (result : Result Reply E) → WorksOrNot (net_states m) old (given result) new
    → KeepsWorld m old new (λ e w v. Comes e w (command.Workers workers turns seed) ws result v)
work_comes {F} {E} m old new workers turns seed ws result h id w shows coherent =
    let b = course_comes m old new (work workers turns seed) result h id w shows coherent in
    (b.0, b.1, b.2, by b.0 result b.3)
  where
    by : (z : World) (r : Result Reply E) → WorksOrNot (world_states (environment m id)) w (given r) z → Comes (environment m id) w (command.Workers workers turns seed) ws r z
    by z (Ok reply) g = g
    by z (Err fault) g = g

-- ---- a row of steps

module _ {F : Type 0} (m : Meaning F) (old new : NetSeen) (starts steps : List Step) (outcomes : List Outcome) (all : Bool) (is : steps ≡ then_drain starts)
    (answers : NetFollows m steps outcomes all old new) (pairs : FollowPairs m steps outcomes all old new) where
  made_so : (b : Bool) → all ≡ b → (net_states m).follows (then_drain starts) outcomes b old new
  made_so b so = subst (λ (l : List Step). (net_states m).follows l outcomes b old new) is (subst (λ (c : Bool). (net_states m).follows steps outcomes c old new) so (answers, pairs))

  pub all_made : all ≡ true → (net_states m).follows (then_drain starts) outcomes true old new
  all_made = made_so true

  pub one_broke : all ≡ false → Breaks (net_states m) (then_drain starts) old new
  one_broke so = inr (outcomes, made_so false so)
