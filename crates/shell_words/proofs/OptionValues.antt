-- What the options of the program's command read, where a parse gave matches.
use Rattle.std.proofs.Common.{◌&&◌, ◌==◌, ◌≡◌, ◌⊎◌, ◌∙◌, ◌<◌, ◌≤◌, ◌^◌, ap, ℕ, Bool, true, false, not, List, [], ◌∷◌, length, map, is_some, Option, Some, None, zero, suc, refl, sym, subst, inl, inr, arith, codes, drop, cond, unwrap_or}
use Rattle.std.specs.List.{All, slice_index_or}
use Rattle.std.specs.Str.{bytes_eq}
use Rattle.std.specs.Prelude.{option_map, slice_get, pos, slice_index}
use Rattle.std.specs.Borrow.{Bor}
use Rattle.std.specs.Str.Parse.{IsNumeral, digits_value, starts_with_minus, without_leading_plus}
use Rattle.std.proofs.lemmas.Bool.{ne_eqb}
use Rattle.std.proofs.lemmas.Str.Parse.{digit_from_value}
use Rattle.std.proofs.lemmas.Slice.Eq.{bytes_eq-Decides}
use Rattle.std.proofs.lemmas.List.Elements.{All-get_or, All-cons, All-nil}
use Rattle.std.proofs.lemmas.Int.{ints}
use Rattle.clap.specs.Lexer.{without_minus}
use Rattle.clap.specs.Facts.{IsParsed, args_of, groups_of, Entry, EntryPasses, ValuesPass, PassesArg, HasReading, parser_of, parser_of_value}
use Rattle.std.proofs.lemmas.Bool.Decides.{nat_tests}
use Rattle.clap.specs.Built.{BuildsTo, IsParsedFrom, IsAuto, NamesNoGroup, SameRules}
use Rattle.clap.specs.Matches.{matched_of, one_text, found_of, has_subcommand}
use Rattle.clap.specs.Values.{Accepts, IsSignedIn, read_as, reading_of}
use Rattle.clap.specs.Simple.{App, app_of, has_plain_fields}
use Rattle.clap.specs.Walk.{Rule, rule_of, is_simple_arg}
use Rattle.clap.specs.declared.parser.matches.Found.{Found}
use Rattle.clap.specs.declared.builder.value_parser.Reading.{Reading}
use Rattle.clap.specs.declared.builder.arg.Arg.{Arg}
use Rattle.clap.specs.declared.builder.command.Command.{Command}
use Rattle.clap.specs.declared.builder.command.Command.TheViews.{out-Command}
use Rattle.clap.specs.declared.builder.value_parser.ValueParser.{ValueParser}
use Rattle.clap.specs.declared.builder.value_parser.ValueParser.TheVariants as vp
use Rattle.clap.specs.declared.parser.matches.ArgMatches.{ArgMatches}
use Rattle.clap.specs.declared.parser.matches.MatchedArg.{MatchedArg}
use Rattle.clap.proofs.CallerLemmas.{entry_by_id, same_rules_by_id}
use Rattle.shell_words.specs.Program.{our_app, nodes_rule, notary_rule, dir_rule, number_in, IsNumberIn, HoldsNumber}

-- ---- an argument that need not be named, as clap's own lemmas have it for one that is required

head_passes : (P : Bor (List ℕ) → Type 0) (how : Reading) (vs : List (Bor (List ℕ))) → All P vs
    → is_some (option_map (λ s. s.now) (slice_get vs 0)) ≡ true
    → (v : Bor (List ℕ)) × (option_map (λ s. read_as how s.now) (slice_get vs 0) ≡ Some (read_as how v.now)) × P v
head_passes P how [] h some = cc
head_passes P how (v ∷ vs) h some = (v, refl, All-get_or P (v ∷ vs) 0 v (omega arith) h)

one_text_at_entry : (f : Found) (id : List ℕ) (x : MatchedArg) (how : Reading) (t : List ℕ) → matched_of f id ≡ Some x → x.reading ≡ how
    → option_map (λ s. read_as how s.now) (slice_get x.vals.items 0) ≡ Some t → one_text f id ≡ Some t
one_text_at_entry f id x how t found is v = rw (found, is) v

-- an argument with the id of the caller's argument is read as the caller's parser says
only_reading : (old : Command) (m : ArgMatches) (p : IsParsedFrom old m) (k : ℕ) (d : Arg) → k < length (args_of old)
    → ((j : ℕ) (e : Arg) → j < length (args_of old)
    → bytes_eq (slice_index_or (args_of old) j e).id.now (slice_index_or (args_of old) k d).id.now ≡ true → j ≡ k)
    → (IsAuto (slice_index_or (args_of old) k d) → ⊥)
    → (q : ValueParser) → (slice_index_or (args_of old) k d).value_parser ≡ Some q
    → (r : Reading) → HasReading p.built (slice_index_or (args_of old) k d).id.now r → r ≡ reading_of q
only_reading old m p k d lt unique own q parser r any =
    let s = same_rules_by_id old m p k d lt unique own any.0 any.1 any.2 any.3 any.4.0 in
    let is_q : parser_of any.1 ≡ q = ap parser_of_value (s.parser q parser) in
    sym any.4.1 ∙ ap reading_of is_q

accepts_of : (a y : Arg) (q : ValueParser) (t : List ℕ) → SameRules a y → a.value_parser ≡ Some q
    → Accepts y.ignore_case (parser_of y) t → Accepts a.ignore_case q t
accepts_of a y q t s parser read =
    let is_q : parser_of y ≡ q = ap parser_of_value (s.parser q parser) in
    let as_q : Accepts y.ignore_case q t = subst (λ (w : ValueParser). Accepts y.ignore_case w t) is_q read in
    subst (λ (b : Bool). Accepts b q t) s.ignore_case as_q

passes_read : (old : Command) (m : ArgMatches) (p : IsParsedFrom old m) (k : ℕ) (d : Arg) → k < length (args_of old)
    → ((j : ℕ) (e : Arg) → j < length (args_of old)
    → bytes_eq (slice_index_or (args_of old) j e).id.now (slice_index_or (args_of old) k d).id.now ≡ true → j ≡ k)
    → (IsAuto (slice_index_or (args_of old) k d) → ⊥)
    → (q : ValueParser) → (slice_index_or (args_of old) k d).value_parser ≡ Some q
    → (w : List ℕ) (v : Bor (List ℕ)) → w ≡ (slice_index_or (args_of old) k d).id.now → PassesArg p.built w v.now
    → Accepts (slice_index_or (args_of old) k d).ignore_case q v.now
passes_read old m p k d lt unique own q parser w v key pass =
    let same : bytes_eq pass.1.id.now (slice_index_or (args_of old) k d).id.now ≡ true =
    subst (λ (u : List ℕ). bytes_eq pass.1.id.now u ≡ true) key pass.4.0 in
    accepts_of _ pass.1 q v.now (same_rules_by_id old m p k d lt unique own pass.0 pass.1 pass.2 pass.3 same) parser pass.4.1

-- what one entry gives
read_of : (c : Command) (f : Found) (id : List ℕ) (Q : List ℕ → Type 0) (how : Reading) (x : MatchedArg) (e : Entry)
    → groups_of c ≡ [] → (id ≡ [] → ⊥) → ((r : Reading) → HasReading c id r → r ≡ how)
    → ((v : Bor (List ℕ)) → PassesArg c id v.now → Q v.now)
    → matched_of f id ≡ Some x → is_some (option_map (λ s. s.now) (slice_get x.vals.items 0)) ≡ true
    → e.1 ≡ x → e.0.now ≡ id → EntryPasses c e
    → (t : List ℕ) × (one_text f id ≡ Some (read_as how t)) × Q t
read_of c f id Q how x e no_groups named reads read found first same_x key_id pass =
    let no_group : e.1.is_group ≡ true → ⊥ = λ g. elim (pass.3 g) [
      | inl empty ↦ named (sym key_id ∙ empty)
      | inr lots ↦
          let bad : 0 < 0 = rw no_groups at lots in
          absurd (omega arith)
    ] in
    let all : All (λ v. PassesArg c id v.now) x.vals.items = elim pass.0 [
      | inl g ↦ absurd (no_group g)
      | inr vals ↦ subst (λ (w : List ℕ). All (λ v. PassesArg c w v.now) x.vals.items) key_id (rw same_x at vals)
    ] in
    let is : e.1.reading ≡ how = elim pass.4 [
      | inl g ↦ absurd (no_group g)
      | inr h ↦ reads e.1.reading (subst (λ (w : List ℕ). HasReading c w e.1.reading) key_id h)
    ] in
    finish (head_passes (λ v. PassesArg c id v.now) how x.vals.items all first) (ap (λ (y : MatchedArg). y.reading) (sym same_x) ∙ is)
  where
    finish : ((v : Bor (List ℕ)) × (option_map (λ s. read_as how s.now) (slice_get x.vals.items 0) ≡ Some (read_as how v.now)) × PassesArg c id v.now)
        → x.reading ≡ how → (t : List ℕ) × (one_text f id ≡ Some (read_as how t)) × Q t
    finish hd is = (hd.0.now, one_text_at_entry f id x how (read_as how hd.0.now) found is hd.1, read hd.0 hd.2)

first_there : (how : Reading) (vs : List (Bor (List ℕ))) (t : List ℕ) → option_map (λ s. read_as how s.now) (slice_get vs 0) ≡ Some t
    → is_some (option_map (λ s. s.now) (slice_get vs 0)) ≡ true
first_there how [] t h = cc
first_there how (v ∷ vs) t h = refl

-- what the entry of an id gives, where it is an argument's and a typed getter reads a text
entry_read : (c : Command) (f : Found) (id : List ℕ) (Q : List ℕ → Type 0) (how : Reading) → ValuesPass c f → groups_of c ≡ [] → (id ≡ [] → ⊥)
    → (got : List ℕ) → one_text f id ≡ Some got → ((r : Reading) → HasReading c id r → r ≡ how)
    → ((v : Bor (List ℕ)) → PassesArg c id v.now → Q v.now)
    → (t : List ℕ) × (one_text f id ≡ Some (read_as how t)) × Q t
entry_read c f id Q how values no_groups named got has reads read = go (matched_of f id) refl has
  where
    step : (x : MatchedArg) → matched_of f id ≡ Some x → is_some (option_map (λ s. s.now) (slice_get x.vals.items 0)) ≡ true
        → ((e : Entry) × (e.1 ≡ x) × (bytes_eq e.0.now id ≡ true) × EntryPasses c e)
        → (t : List ℕ) × (one_text f id ≡ Some (read_as how t)) × Q t
    step x found first at =
        read_of c f id Q how x at.0 no_groups named reads read found first at.1 ((bytes_eq-Decides at.0.0.now id).0 at.2) at.3

    go : (o : Option MatchedArg) → matched_of f id ≡ o → one_text f id ≡ Some got → (t : List ℕ) × (one_text f id ≡ Some (read_as how t)) × Q t
    go None e h =
        let bad : None ≡ Some got = rw e at h in
        cc
    go (Some x) e h = step x e (first_there x.reading x.vals.items got (rw e at h)) (entry_by_id (EntryPasses c) f.entries.items id x values e)

-- the text that a typed getter reads of an argument of the caller's passed its parser, and is read as that parser says
optional_reads : (old : Command) (m : ArgMatches) (p : IsParsedFrom old m) → NamesNoGroup old → groups_of old ≡ []
    → (out-Command old).has_globals ≡ false
    → (k : ℕ) (d : Arg) → k < length (args_of old)
    → ((j : ℕ) (e : Arg) → j < length (args_of old)
    → bytes_eq (slice_index_or (args_of old) j e).id.now (slice_index_or (args_of old) k d).id.now ≡ true → j ≡ k)
    → ((slice_index_or (args_of old) k d).id.now ≡ [] → ⊥)
    → (IsAuto (slice_index_or (args_of old) k d) → ⊥)
    → (q : ValueParser) → (slice_index_or (args_of old) k d).value_parser ≡ Some q
    → (got : List ℕ) → one_text (found_of m) (slice_index_or (args_of old) k d).id.now ≡ Some got
    → (t : List ℕ) × (got ≡ read_as (reading_of q) t) × Accepts (slice_index_or (args_of old) k d).ignore_case q t
optional_reads old m p plain groups globals k d lt unique named own q parser got has =
    let id = (slice_index_or (args_of old) k d).id.now in
    let parsed = p.parsed (p.from.globals ∙ globals) in
    let read = entry_read p.built (found_of m) id
    (λ (t : List ℕ). Accepts (slice_index_or (args_of old) k d).ignore_case q t) (reading_of q)
    parsed.values ((p.from.same_groups plain).1 ∙ groups) named got has
    (only_reading old m p k d lt unique own q parser)
    (λ v pass. passes_read old m p k d lt unique own q parser _ v refl pass) in
    (read.0, ap (λ (o : Option (List ℕ)). unwrap_or o got) (sym has ∙ read.1), read.2)

-- ---- a text that passed a range without negative numbers

without_minus-cond : (t : List ℕ) → without_minus t ≡ cond (starts_with_minus t) (drop 1 t) t
without_minus-cond [] = refl
without_minus-cond (x ∷ xs) = go (x == 45)
  where
    go : (b : Bool) → unwrap_or (cond b (Some xs) None) (x ∷ xs) ≡ cond b xs (x ∷ xs)
    go true = refl
    go false = refl

no_plus : (ds : List ℕ) → IsNumeral 10 ds → without_leading_plus ds ≡ ds
no_plus [] h = refl
no_plus (d ∷ ds) h =
    let plus : (d == 43) ≡ false = ne_eqb _ _ (λ e. omega (arith, digit_from_value d h.1.0)) in
    ap (λ (b : Bool). drop (cond b 1 0) (d ∷ ds)) plus

signed_in : (low high : ℕ) (t : List ℕ) → IsSignedIn (pos low) (pos high) t → IsNumberIn low high (without_minus t)
signed_in low high t passed = subst (λ (u : List ℕ). IsNumberIn low high u) (sym (without_minus-cond t)) (go (starts_with_minus t) refl)
  where
    go : (b : Bool) → starts_with_minus t ≡ b → IsNumberIn low high (cond (starts_with_minus t) (drop 1 t) t)
    go true minus =
        let low_ok = rw minus at passed.2 in
        let high_ok = rw minus at passed.3 in
        let numeral : IsNumeral 10 (drop 1 t) = rw minus at passed.0 in
        let same = no_plus (drop 1 t) numeral in
        rw minus (record {
          numeral = rw same numeral;
          least = rw same (omega (arith, ints));
          most = rw same (omega (arith, ints));
        })
    go false minus =
        let low_ok = rw minus at passed.2 in
        let high_ok = rw minus at passed.3 in
        rw minus (record {
          numeral = rw minus at passed.0;
          least = omega (arith, ints);
          most = omega (arith, ints);
        })

-- ---- the program's command

and_first : (a b : Bool) → (a && b) ≡ true → a ≡ true
and_first true b h = refl
and_first false b h = cc

and_second : (a b : Bool) → (a && b) ≡ true → b ≡ true
and_second true b h = h
and_second false b h = cc

no_items : {X : Type 0} (xs : List X) → (length xs == 0) ≡ true → xs ≡ []
no_items [] h = refl
no_items (x ∷ xs) h =
    let bad : length (x ∷ xs) ≡ 0 = grind (arith, nat_tests) in
    absurd (omega arith)

not_true : (b : Bool) → not b ≡ true → b ≡ false
not_true true h = cc
not_true false h = refl

-- lists of other lengths are others
no_same : (xs ys : List Rule) → (length xs ≡ length ys → ⊥) → xs ≡ ys → ⊥
no_same xs ys n h = n (ap length h)

abbrev our_rules : List Rule
our_rules = nodes_rule ∷ notary_rule ∷ dir_rule ∷ []

-- the three arguments, in their order
three_args : (xs : List Arg) → map rule_of xs ≡ our_rules
    → (a : Arg) × (b : Arg) × (c : Arg) × (xs ≡ a ∷ b ∷ c ∷ []) × (rule_of a ≡ nodes_rule) × (rule_of b ≡ notary_rule) × (rule_of c ≡ dir_rule)
three_args [] h = absurd (no_same [] our_rules (λ n. absurd (omega arith)) h)
three_args (a ∷ []) h = absurd (no_same (rule_of a ∷ []) our_rules (λ n. absurd (omega arith)) h)
three_args (a ∷ b ∷ []) h = absurd (no_same (rule_of a ∷ rule_of b ∷ []) our_rules (λ n. absurd (omega arith)) h)
three_args (a ∷ b ∷ c ∷ []) h = (a, b, c, refl, ap (λ (l : List Rule). slice_index_or l 0 nodes_rule) h, ap (λ (l : List Rule). slice_index_or l 1 nodes_rule) h, ap (λ (l : List Rule). slice_index_or l 2 nodes_rule) h)
three_args (a ∷ b ∷ c ∷ d ∷ xs) h = absurd (no_same (rule_of a ∷ rule_of b ∷ rule_of c ∷ rule_of d ∷ map rule_of xs) our_rules (λ n. absurd (omega arith)) h)

no_groups : (a : Arg) → is_simple_arg a ≡ true → a.groups.items ≡ []
no_groups a h = no_items a.groups.items (and_first _ _ (and_second _ _ (and_second _ _ h)))

no_command_groups : (c : Command) → has_plain_fields (out-Command c) ≡ true → groups_of c ≡ []
no_command_groups c h = no_items (groups_of c) (and_first _ _ h)

no_globals : (c : Command) → has_plain_fields (out-Command c) ≡ true → (out-Command c).has_globals ≡ false
no_globals c h = not_true _ (and_first _ _ (and_second _ _ (and_second _ _ h)))

-- no text is one of two of another length
other_length : (t u v : List ℕ) → (length t ≡ length u → ⊥) → (length t ≡ length v → ⊥) → (t ≡ u) ⊎ (t ≡ v) → ⊥
other_length t u v nu nv (inl h) = nu (ap length h)
other_length t u v nu nv (inr h) = nv (ap length h)

-- the ids of the arguments, by their places
abbrev id_at : ℕ → List ℕ
id_at zero = codes "nodes"
id_at (suc zero) = codes "notary"
id_at (suc (suc k)) = codes "dir"

module _ (old new : Command) (m : ArgMatches) (app : app_of old ≡ our_app) (from : BuildsTo old new)
    (parsed : (out-Command new).has_globals ≡ false → IsParsed new (found_of m) (has_subcommand m)) where
  args : (a : Arg) × (b : Arg) × (c : Arg) × (args_of old ≡ a ∷ b ∷ c ∷ []) × (rule_of a ≡ nodes_rule) × (rule_of b ≡ notary_rule) × (rule_of c ≡ dir_rule)
  args = three_args (args_of old) (ap (λ (x : App). x.top.rules) app)

  plain : has_plain_fields (out-Command old) ≡ true
  plain = ap (λ (x : App). x.top.is_plain) app

  named_no_group : NamesNoGroup old
  named_no_group = subst (All (λ (a : Arg). a.groups.items ≡ [])) (sym args.3)
      (All-cons (λ (a : Arg). a.groups.items ≡ []) args.0 (args.1 ∷ args.2 ∷ []) (no_groups args.0 (ap (λ (r : Rule). r.is_simple) args.4))
      (All-cons (λ (a : Arg). a.groups.items ≡ []) args.1 (args.2 ∷ []) (no_groups args.1 (ap (λ (r : Rule). r.is_simple) args.5))
      (All-cons (λ (a : Arg). a.groups.items ≡ []) args.2 [] (no_groups args.2 (ap (λ (r : Rule). r.is_simple) args.6))
      (All-nil (λ (a : Arg). a.groups.items ≡ [])))))

  at : (k : ℕ) (d : Arg) → slice_index_or (args_of old) k d ≡ slice_index_or (args.0 ∷ args.1 ∷ args.2 ∷ []) k d
  at k d = ap (λ (l : List Arg). slice_index_or l k d) args.3

  id_is : (k : ℕ) (d : Arg) → k < 3 → (slice_index_or (args_of old) k d).id.now ≡ id_at k
  id_is zero d lt = ap (λ (x : Arg). x.id.now) (at 0 d) ∙ ap (λ (r : Rule). r.id) args.4
  id_is (suc zero) d lt = ap (λ (x : Arg). x.id.now) (at 1 d) ∙ ap (λ (r : Rule). r.id) args.5
  id_is (suc (suc zero)) d lt = ap (λ (x : Arg). x.id.now) (at 2 d) ∙ ap (λ (r : Rule). r.id) args.6
  id_is (suc (suc (suc k))) d lt = absurd (omega arith)

  three : length (args_of old) ≡ 3
  three = ap length args.3

  same_length : (j k : ℕ) → j < 3 → k < 3 → length (id_at j) ≡ length (id_at k) → j ≡ k
  same_length zero zero l g h = refl
  same_length zero (suc zero) l g h = absurd (omega arith)
  same_length zero (suc (suc k)) l g h = absurd (omega arith)
  same_length (suc zero) zero l g h = absurd (omega arith)
  same_length (suc zero) (suc zero) l g h = refl
  same_length (suc zero) (suc (suc k)) l g h = absurd (omega arith)
  same_length (suc (suc j)) zero l g h = absurd (omega arith)
  same_length (suc (suc j)) (suc zero) l g h = absurd (omega arith)
  same_length (suc (suc j)) (suc (suc k)) l g h = omega arith

  unique : (k : ℕ) (d : Arg) → k < 3 → (j : ℕ) (e : Arg) → j < length (args_of old)
      → bytes_eq (slice_index_or (args_of old) j e).id.now (slice_index_or (args_of old) k d).id.now ≡ true → j ≡ k
  unique k d lt j e low same =
      let under : j < 3 = subst (λ (n : ℕ). j < n) three low in
      same_length j k under lt (ap length (sym (id_is j e under) ∙ ((bytes_eq-Decides _ _).0 same ∙ id_is k d lt)))

  holds : (k low high : ℕ) (d : Arg) → k < 3 → (slice_index_or (args_of old) k d).value_parser ≡ Some (vp.Signed (pos low) (pos high))
      → (length (id_at k) ≡ 0 → ⊥) → (length (id_at k) ≡ 4 → ⊥) → (length (id_at k) ≡ 7 → ⊥)
      → HoldsNumber low high (found_of m) (id_at k)
  holds k low high d lt parser n0 n4 n7 text has =
      let id = id_is k d lt in
      let read = optional_reads old m (record { built = new; from = from; parsed = parsed }) named_no_group (no_command_groups old plain) (no_globals old plain)
      k d (subst (λ (n : ℕ). k < n) (sym three) lt) (unique k d lt)
      (λ empty. n0 (ap length (sym id ∙ empty)))
      (λ auto. other_length (slice_index_or (args_of old) k d).id.now (codes "help") (codes "version")
      (λ h. n4 (ap length (sym id) ∙ h)) (λ h. n7 (ap length (sym id) ∙ h)) auto)
      (vp.Signed (pos low) (pos high)) parser text
      (subst (λ (w : List ℕ). one_text (found_of m) w ≡ Some text) (sym id) has) in
      subst (λ (w : List ℕ). IsNumberIn low high w) (sym read.1) (signed_in low high read.0 read.2)

  pub nodes_hold : HoldsNumber 1 16 (found_of m) (codes "nodes")
  nodes_hold = holds 0 1 16 args.0 (omega arith)
      (ap (λ (x : Arg). x.value_parser) (at 0 args.0) ∙ ap (λ (r : Rule). r.parser) args.4)
      (λ h. absurd (omega arith)) (λ h. absurd (omega arith)) (λ h. absurd (omega arith))

  pub notary_holds : HoldsNumber 0 15 (found_of m) (codes "notary")
  notary_holds = holds 1 0 15 args.0 (omega arith)
      (ap (λ (x : Arg). x.value_parser) (at 1 args.0) ∙ ap (λ (r : Rule). r.parser) args.5)
      (λ h. absurd (omega arith)) (λ h. absurd (omega arith)) (λ h. absurd (omega arith))
