-- Each moment of each disk stands on the way.
use Rattle.std.proofs.Common.{◌≡◌, ◌⊎◌, inl, inr, ⊎_elim, ℕ, List, [], ◌∷◌, ◌++◌, length, Some, slice_set, refl, sym, ◌∙◌, ap, subst, append-nil, append_assoc}
use Rattle.std.specs.List.{slice_get, Contains}
use Rattle.std.proofs.lemmas.Option.{same_Some}
use Rattle.std.proofs.lemmas.List.Elements.{Contains-push_cases, Contains-append_cases, Contains-append_left, Contains-push}
use Rattle.outside.specs.Disk.{DiskState, Durable}
use Rattle.outside.proofs.Moments.{only}
use Rattle.net_base.specs.declared.names.Identity.{Identity}
use Rattle.net_base.proofs.Lists.{get_beside, get_map, get_set, get_there, set_length}
use Rattle.net_model.specs.Environment.{Environment, environment, Meaning}
use Rattle.node_core.specs.Seen.{NodeSeen}
use Rattle.network_core.specs.Worlds.{World, NetSeen, Shows, Coherent}
use Rattle.network_core.specs.Answers.{answer_of}
use Rattle.network_core.specs.Moments.{Instant, IsSince, now_of, IsBetween}
use Rattle.network_core.specs.Drains.{Pair}
use Rattle.network_core.specs.Ways.{Way, stay, by_part, by_step, IsOn, WaysHaveAllMoments}
use Rattle.network_core.proofs.KeepingLinks.{Link, since_of, each_goes, now_between}
use Rattle.network_core.proofs.KeepingSteps.{step_link, part_link}

-- each disk went on
abbrev AllGo : NetSeen → NetSeen → Type 0
AllGo old new = (q : ℕ) (n k : NodeSeen) → slice_get old.nodes q ≡ Some n → slice_get new.nodes q ≡ Some k → (since : List Durable) × (k.disk.state.past ≡ n.disk.state.past ++ since)

now_there : (net : NetSeen) (q : ℕ) (k : NodeSeen) → slice_get net.nodes q ≡ Some k → slice_get (now_of net) q ≡ Some k.disk.state.now
now_there net q k at = get_map (λ (z : NodeSeen). z.disk.state.now) net.nodes q k at

-- a moment of a disk is of its first part or of its second
parts : (a b c : DiskState) (d : Durable) (first second : List Durable) → b.past ≡ a.past ++ first → c.past ≡ b.past ++ second → IsSince a c d → IsSince a b d ⊎ IsSince b c d
parts a b c d first second one two since =
    let all : c.past ≡ a.past ++ (first ++ second) = two ∙ ap (λ (l : List Durable). l ++ second) one ∙ append_assoc a.past first second in
    let there : Contains ((first ++ second) ++ c.now ∷ []) d = subst (λ (l : List Durable). Contains l d) (since_of a c (first ++ second) all) since in
    let late : Contains (second ++ c.now ∷ []) d → IsSince b c d = λ h. subst (λ (l : List Durable). Contains l d) (sym (since_of b c second two)) h in
    ⊎_elim
    (λ before. ⊎_elim
    (λ early. inl (subst (λ (l : List Durable). Contains l d) (sym (since_of a b first one)) (Contains-append_left first (b.now ∷ []) d early)))
    (λ then. inr (late (Contains-append_left second (c.now ∷ []) d then)))
    (Contains-append_cases first second d before))
    (λ last. inr (late (subst (λ (z : Durable). Contains (second ++ c.now ∷ []) z) (sym last) (Contains-push second c.now))))
    (⊎_elim (λ before. inl before) (λ last. inr (sym last)) (Contains-push_cases (first ++ second) c.now d there))

-- one moment of a link
at_one : {F : Type 0} (e : Environment F) (w : World) (b c : NetSeen) → Shows e b w → Coherent e w → Link e w b c → (q : ℕ) (j k : NodeSeen) (d : Durable) → slice_get b.nodes q ≡ Some j → slice_get c.nodes q ≡ Some k → IsSince j.disk.state k.disk.state d
    → (s : Instant) × IsBetween b c s × (slice_get s q ≡ Some d)
at_one e w b c shows coherent link q j k d at after since =
    let last = now_between e w b c shows coherent link in
    let s = slice_set (now_of c) q d in (
      s,
      record {
        count = set_length (now_of c) q d ∙ last.count;
        each = λ i n o g at_i after_i has.
            ⊎_elim
            (λ same.
            let is_n : j ≡ n = same_Some _ _ (sym at ∙ (ap (slice_get b.nodes) (sym same.0) ∙ at_i)) in
            let is_k : k ≡ o = same_Some _ _ (sym after ∙ (ap (slice_get c.nodes) (sym same.0) ∙ after_i)) in
            subst (λ (z : Durable). IsSince n.disk.state o.disk.state z) (sym same.1) (subst (λ (z : NodeSeen). IsSince z.disk.state o.disk.state d) is_n (subst (λ (z : NodeSeen). IsSince j.disk.state z.disk.state d) is_k since)))
            (λ other. last.each i n o g at_i after_i other)
            (get_set (now_of c) q d i g has);
      },
      get_there (now_of c) q k.disk.state.now d (now_there c q k after),
    )

module _ {F : Type 0} (m : Meaning F) (id : Identity) where
  abbrev e : Environment F
  e = environment m id

  abbrev Full : (a b : Pair e) → (Instant → Type 0) → Type 0
  Full a b on = (q : ℕ) (n k : NodeSeen) (d : Durable) → slice_get a.net.nodes q ≡ Some n → slice_get b.net.nodes q ≡ Some k → IsSince n.disk.state k.disk.state d → (s : Instant) × on s × (slice_get s q ≡ Some d)

  -- what is known of a way
  record Known (a b : Pair e) (on : Instant → Type 0) : Type 0 where
    count : length b.net.nodes ≡ length a.net.nodes
    go : AllGo a.net b.net
    full : Full a b on

  begin : (a : Pair e) → Known a a (λ s. s ≡ now_of a.net)
  begin a = record {
    count = refl;
    go = λ q n k at after. ([], ap (λ (z : NodeSeen). z.disk.state.past) (same_Some _ _ (sym after ∙ at)) ∙ sym (append-nil n.disk.state.past));
    full = λ q n k d at after since.
        let same : n ≡ k = same_Some _ _ (sym at ∙ after) in
        let mine : IsSince n.disk.state n.disk.state d = subst (λ (z : NodeSeen). IsSince n.disk.state z.disk.state d) (sym same) since in
        let one : n.disk.state.now ≡ d = only n.disk.state.now d (subst (λ (l : List Durable). Contains l d) (since_of n.disk.state n.disk.state [] (sym (append-nil n.disk.state.past))) mine) in
        (now_of a.net, refl, now_there a.net q n at ∙ ap Some one);
  }

  more : (a b c : Pair e) (on : Instant → Type 0) → Known a b on → Link e b.world b.net c.net → Known a c (λ s. on s ⊎ IsBetween b.net c.net s)
  more a b c on known link =
      let step : AllGo b.net c.net = λ q n k at after. let g = (each_goes e b.world b.net c.net b.shows b.coherent link q n k at after).images in (g.since, g.past) in
      record {
        count = link.count ∙ known.count;
        go = λ q n k at after.
            let j = get_beside a.net.nodes b.net.nodes q n (sym known.count) at in
            let first = known.go q n j.0 at j.1 in
            let second = step q j.0 k j.1 after in
            (first.0 ++ second.0, second.1 ∙ ap (λ (l : List Durable). l ++ second.0) first.1 ∙ append_assoc n.disk.state.past first.0 second.0);
        full = λ q n k d at after since.
            let j = get_beside a.net.nodes b.net.nodes q n (sym known.count) at in
            let first = known.go q n j.0 at j.1 in
            let second = step q j.0 k j.1 after in
            ⊎_elim
            (λ early. let s = known.full q n j.0 d at j.1 early in (s.0, inl s.1, s.2))
            (λ late. let s = at_one e b.world b.net c.net b.shows b.coherent link q j.0 k d j.1 after late in (s.0, inr s.1, s.2))
            (parts n.disk.state j.0.disk.state k.disk.state d first.0 second.0 first.1 second.1 since);
      }

  known_of : (a b : Pair e) (way : Way m id a b) → Known a b (IsOn way)
  known_of a b (stay is) = subst (λ (z : Pair e). Known a z (λ s. s ≡ now_of a.net)) (sym is) (begin a)
  known_of a c (by_part {b = b} p o way does) = more a b c (IsOn way) (known_of a b way) (part_link m id p o b c does)
  known_of a c (by_step {b = b} st o way drain answered serve) = more a b c (IsOn way) (known_of a b way) (step_link m id b.net c.net b.world b.shows b.coherent st (answer_of o) drain answered)

pub ways_have_all_moments : {F : Type 0} → WaysHaveAllMoments F
ways_have_all_moments m id a b way q n k d at after since = (known_of m id a b way).full q n k d at after since
