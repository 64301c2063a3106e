-- Commands that go over several steps, over states of one kind, and over what these show.
use Rattle.std.proofs.Common.{◌≡◌, inl, inr, ℕ, ◌+◌, ◌<◌, ◌≤◌, Bool, true, false, List, [], ◌∷◌, length, Option, Some, None, refl, sym, ◌∙◌, ap, subst}
use Rattle.std.specs.Prelude.{if◌then◌else◌}
use Rattle.std.specs.Option.{option_map_or}
use Rattle.flow_machine.specs.Machine.{Machine}
use Rattle.network_core.specs.declared.steps.Outcome.{Outcome}
use Rattle.network_core.specs.declared.steps.Step.{Step}
use Rattle.network_core.specs.Following.{Links, none as no_link, more as one_link, LeadTo}
use Rattle.node_shell.specs.declared.replies.Reply.{Reply}
use Rattle.node_shell.specs.Loads.{Course, load, work, CourseStates, Deal, Pays, none, more, Loaded, Breaks, BreaksFirst, LoadedShort, RefusesLoad, TakesLoad, Loads, GoesOver, started, is_paid, then_drain, issues_by, deals_of, load_text}

-- ---- what is so of each part is so of all

-- a relation that goes on from state to state and holds of each step holds of steps one after another
module _ {W : Type 0} (serve : Step → W → Option Outcome → W → Type 0) (R : W → W → Type 0) (here : (a b : W) → b ≡ a → R a b) (trans : (a b c : W) → R a b → R b c → R a c)
    (each : (s : Step) (a : W) (o : Option Outcome) (b : W) → serve s a o b → R a b) where
  links_go : (steps : List Step) (outcomes : List Outcome) (a b : W) → Links serve steps outcomes a b → R a b
  links_go steps outcomes a b (no_link no_step nothing is) = here a b is
  links_go all longer a b (one_link {steps = steps} {outcomes = outcomes} {u = u} s o before serves all_is longer_is) = trans a u b (links_go steps outcomes a u before) (each s u (Some o) b serves)

  pub leads_go : (steps : List Step) (outcomes : List Outcome) (all : Bool) (a b : W) → LeadTo serve steps outcomes all a b → R a b
  leads_go steps outcomes true a b h = links_go steps outcomes a b h
  leads_go steps outcomes false a b (first, s, rest, u, is, before, serves) = trans a u b (links_go first outcomes a u before) (each s u None b serves)

-- and of a load
module _ {W : Type 0} (s : CourseStates W) (R : W → W → Type 0) (here : (a b : W) → b ≡ a → R a b) (trans : (a b c : W) → R a b → R b c → R a c)
    (part : (steps : List Step) (outcomes : List Outcome) (all : Bool) (a b : W) → s.follows steps outcomes all a b → R a b) where
  pays_go : (deals : List Deal) (paid : ℕ) (a b : W) → Pays s deals paid a b → R a b
  pays_go deals paid a b (none empty unpaid is) = here a b is
  pays_go all sum a b (more {deals = deals} {paid = paid} {u = u} d outcomes before pays all_is sum_is) = trans a u b (pays_go deals paid a u before) (part (then_drain d.starts) outcomes true u b pays)

  breaks_go : (steps : List Step) (a b : W) → Breaks s steps a b → R a b
  breaks_go steps a b (inl is) = here a b is
  breaks_go steps a b (inr (outcomes, h)) = part steps outcomes false a b h

  first_go : (deals : List Deal) (a b : W) → BreaksFirst s deals a b → R a b
  first_go [] a b is = here a b is
  first_go (d ∷ ds) a b h = breaks_go (then_drain d.starts) a b h

  short_go : (issues : List Step) (deals : List Deal) (a b : W) → LoadedShort s issues deals a b → R a b
  short_go issues deals a b (inl h) = breaks_go (then_drain issues) a b h
  short_go issues deals a b (inr h) =
      trans a h.funded b (part (then_drain issues) h.outcomes true a h.funded h.issued)
      (trans h.funded h.short.last b (pays_go h.short.made h.short.paid h.funded h.short.last h.short.pays) (first_go h.short.rest h.short.last b h.short.breaks))

  pub load_goes : {F : Type 0} (m : Machine F) (seed count : ℕ) (reply : Option Reply) (a b : W) → Loads s m seed count a reply b → R a b
  load_goes m seed count (Some reply) a b (inl refused) = here a b refused.1
  load_goes m seed count (Some reply) a b (inr (takes, (paid, loaded, told))) =
      trans a loaded.funded b (part (then_drain (issues_by m (s.payers a))) loaded.outcomes true a loaded.funded loaded.issued) (pays_go (deals_of m (s.payers a) seed count) paid loaded.funded b loaded.pays)
  load_goes m seed count None a b (inl is) = here a b is
  load_goes m seed count None a b (inr (takes, short)) = short_go (issues_by m (s.payers a)) (deals_of m (s.payers a) seed count) a b short

  -- and, where it holds of work side by side, of each such command
  pub course_goes : ((commits : ℕ) (a b : W) → s.works commits a b → R a b) → {F : Type 0} (m : Machine F) (c : Course) (reply : Option Reply) (a b : W) → GoesOver s m c a reply b → R a b
  course_goes worked m (load seed count) reply a b h = load_goes m seed count reply a b h
  course_goes worked m (work workers turns seed) (Some reply) a b (inl refused) = here a b refused.2
  course_goes worked m (work workers turns seed) (Some reply) a b (inr (up, (commits, works, told))) = worked commits a b works
  course_goes worked m (work workers turns seed) None a b is = here a b is

-- ---- over what states show

module _ {W V : Type 0} (s : CourseStates W) (t : CourseStates V) (g : W → V) (ended : (p f : ℕ) (a : W) → t.has_ended p f (g a) ≡ s.has_ended p f a) where
  pub paid_same : (node : ℕ) (outcomes : List Outcome) (a : W) → is_paid t node outcomes (g a) ≡ is_paid s node outcomes a
  paid_same node outcomes a = by (started outcomes)
    where
      by : (o : Option ℕ) → option_map_or (λ flow. t.has_ended node flow (g a)) o false ≡ option_map_or (λ flow. s.has_ended node flow a) o false
      by None = refl
      by (Some flow) = ended node flow a

  module _ (follows : (steps : List Step) (outcomes : List Outcome) (all : Bool) (a b : W) → s.follows steps outcomes all a b → t.follows steps outcomes all (g a) (g b))
      (worked : (commits : ℕ) (a b : W) → s.works commits a b → t.works commits (g a) (g b)) where
    pays_map : (deals : List Deal) (paid : ℕ) (a b : W) → Pays s deals paid a b → Pays t deals paid (g a) (g b)
    pays_map deals paid a b (none empty unpaid is) = none empty unpaid (ap g is)
    pays_map all sum a b (more {deals = deals} {paid = paid} {u = u} d outcomes before pays all_is sum_is) =
        more d outcomes (pays_map deals paid a u before) (follows (then_drain d.starts) outcomes true u b pays) all_is (sum_is ∙ ap (λ (p : Bool). paid + (if p then 1 else 0)) (sym (paid_same d.node outcomes b)))

    loaded_map : (issues : List Step) (deals : List Deal) (paid : ℕ) (a b : W) → Loaded s issues deals paid a b → Loaded t issues deals paid (g a) (g b)
    loaded_map issues deals paid a b h = record {
      outcomes = h.outcomes;
      funded = g h.funded;
      issued = follows (then_drain issues) h.outcomes true a h.funded h.issued;
      pays = pays_map deals paid h.funded b h.pays;
    }

    breaks_map : (steps : List Step) (a b : W) → Breaks s steps a b → Breaks t steps (g a) (g b)
    breaks_map steps a b (inl is) = inl (ap g is)
    breaks_map steps a b (inr (outcomes, h)) = inr (outcomes, follows steps outcomes false a b h)

    first_map : (deals : List Deal) (a b : W) → BreaksFirst s deals a b → BreaksFirst t deals (g a) (g b)
    first_map [] a b is = ap g is
    first_map (d ∷ ds) a b h = breaks_map (then_drain d.starts) a b h

    short_map : (issues : List Step) (deals : List Deal) (a b : W) → LoadedShort s issues deals a b → LoadedShort t issues deals (g a) (g b)
    short_map issues deals a b (inl h) = inl (breaks_map (then_drain issues) a b h)
    short_map issues deals a b (inr h) = inr (record {
      outcomes = h.outcomes;
      funded = g h.funded;
      issued = follows (then_drain issues) h.outcomes true a h.funded h.issued;
      short = record {
        made = h.short.made;
        rest = h.short.rest;
        all = h.short.all;
        paid = h.short.paid;
        last = g h.short.last;
        pays = pays_map h.short.made h.short.paid h.funded h.short.last h.short.pays;
        breaks = first_map h.short.rest h.short.last b h.short.breaks;
      };
    })

    module _ {F : Type 0} (m : Machine F) (payers : (a : W) → t.payers (g a) ≡ s.payers a) (up : (a : W) → t.are_up (g a) ≡ s.are_up a) (held : (a : W) → t.held (g a) ≡ s.held a) where
      refused_map : (a : W) (reply : Reply) → RefusesLoad s a reply → RefusesLoad t (g a) reply
      refused_map a reply (inl (down, is)) = inl (up a ∙ down, is)
      refused_map a reply (inr (all, few, is)) = inr (up a ∙ all, subst (λ (l : List ℕ). length l < 2) (sym (payers a)) few, is)

      takes_map : (a : W) → TakesLoad s a → TakesLoad t (g a)
      takes_map a h = (up a ∙ h.0, subst (λ (l : List ℕ). 2 ≤ length l) (sym (payers a)) h.1)

      pub course_map : (c : Course) (reply : Option Reply) (a b : W) → GoesOver s m c a reply b → GoesOver t m c (g a) reply (g b)
      course_map (load seed count) (Some reply) a b (inl refused) = inl (refused_map a reply refused.0, ap g refused.1)
      course_map (load seed count) (Some reply) a b (inr (takes, (paid, loaded, told))) = inr (
        takes_map a takes,
        (
          paid,
          subst (λ (l : List ℕ). Loaded t (issues_by m l) (deals_of m l seed count) paid (g a) (g b)) (sym (payers a)) (loaded_map (issues_by m (s.payers a)) (deals_of m (s.payers a) seed count) paid a b loaded),
          told ∙ ap (load_text count paid) (sym (held b)),
        ),
      )
      course_map (load seed count) None a b (inl is) = inl (ap g is)
      course_map (load seed count) None a b (inr (takes, short)) = inr (
        takes_map a takes,
        subst (λ (l : List ℕ). LoadedShort t (issues_by m l) (deals_of m l seed count) (g a) (g b)) (sym (payers a)) (short_map (issues_by m (s.payers a)) (deals_of m (s.payers a) seed count) a b short),
      )
      course_map (work workers turns seed) (Some reply) a b (inl refused) = inl (up a ∙ refused.0, refused.1, ap g refused.2)
      course_map (work workers turns seed) (Some reply) a b (inr (all, (commits, works, told))) = inr (up a ∙ all, (commits, worked commits a b works, told))
      course_map (work workers turns seed) None a b is = ap g is
