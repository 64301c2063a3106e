-- What a parse of the program's words says of the definitions.
use Rattle.std.proofs.Common.{◌≡◌, ◌⊎◌, ◌∙◌, ap, ap₂, ℕ, Bool, true, false, List, [], ◌∷◌, Option, None, inl, inr, refl, sym, codes}
use Rattle.std.specs.Prelude.{if◌then◌else◌}
use Rattle.std.specs.Option.{option_map_or}
use Rattle.clap.specs.Words.{IsAmong, Kinds, fault_of, first_of, first_value, matches_of, one_of, one_text, rows_of}
use Rattle.clap.proofs.WalkLemmas.{first_value-rows, one_text-rows}
use Rattle.clap.specs.declared.error.kind.ErrorKind.{ErrorKind}
use Rattle.clap.specs.declared.error.kind.ErrorKind.TheVariants.{OutOfMemory}
use Rattle.clap.specs.declared.parser.matches.Found.{Found}
use Rattle.shell_words.specs.Program.{our_app, has_kind, are_refused, number_in, nodes_in, notary_in, network, network_of_words, dir_of_words}

-- words for which no kind of error comes are taken
pub taken : (words : List (List ℕ)) → fault_of our_app words ≡ [] → are_refused words ≡ false
unfolding are_refused
taken words h = ap has_kind h

some_kind : (k : ErrorKind) (kinds : Kinds) → IsAmong k kinds → has_kind kinds ≡ true
some_kind k [] h = absurd h
some_kind k (x ∷ xs) h = refl

-- and words for which one comes are refused
pub refused : (words : List (List ℕ)) (k : ErrorKind) → IsAmong k (fault_of our_app words) → are_refused words ≡ true
unfolding are_refused
refused words k h = some_kind k (fault_of our_app words) h

-- an error of another kind than memory comes only where the words are refused
pub network_refused : (words : List (List ℕ)) (k : ErrorKind) → (k ≡ OutOfMemory → ⊥) → (k ≡ OutOfMemory) ⊎ IsAmong k (fault_of our_app words)
    → network_of_words words ≡ None
network_refused words k other (inl memory) = absurd (other memory)
network_refused words k other (inr among) =
    ap (λ (b : Bool). if b then None else network (nodes_in words) (notary_in words)) (refused words k among)

module _ (found : Found) (words : List (List ℕ)) (rows : rows_of found ≡ matches_of our_app words) where
  nodes_asked : option_map_or number_in (one_text found (codes "nodes")) 2 ≡ nodes_in words
  unfolding nodes_in
  nodes_asked = ap (λ (o : Option (List ℕ)). option_map_or number_in o 2) (one_text-rows found (codes "nodes") ∙ ap (one_of (codes "nodes")) rows)

  notary_asked : option_map_or number_in (one_text found (codes "notary")) 0 ≡ notary_in words
  unfolding notary_in
  notary_asked = ap (λ (o : Option (List ℕ)). option_map_or number_in o 0) (one_text-rows found (codes "notary") ∙ ap (one_of (codes "notary")) rows)

  -- the folder that was found is the one that the words name
  pub dir_asked : first_value found (codes "dir") ≡ dir_of_words words
  unfolding dir_of_words
  dir_asked = first_value-rows found (codes "dir") ∙ ap (first_of (codes "dir")) rows

  -- the numbers that were found are those of the network that the words ask for
  pub network_asked : fault_of our_app words ≡ [] → (nodes notary : ℕ)
      → nodes ≡ option_map_or number_in (one_text found (codes "nodes")) 2
      → notary ≡ option_map_or number_in (one_text found (codes "notary")) 0
      → network_of_words words ≡ network nodes notary
  network_asked none nodes notary is_nodes is_notary =
      ap (λ (b : Bool). if b then None else network (nodes_in words) (notary_in words)) (taken words none)
      ∙ ap₂ network (sym (is_nodes ∙ nodes_asked)) (sym (is_notary ∙ notary_asked))
