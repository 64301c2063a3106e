-- The words that the program is started with: what they ask for, by clap's own definition over the
-- program's command.
use Rattle.std.specs.Prelude.{◌≡◌, ◌<◌, ◌≤◌, ◌||◌, ℕ, List, [], ◌∷◌, Bool, true, false, Option, Some, None, pos, codes, nat_lt, if◌then◌else◌}
use Rattle.std.specs.Option.{option_map_or}
use Rattle.std.specs.Str.{bytes_eq}
use Rattle.std.specs.Str.Parse.{IsNumeral, digits_value, without_leading_plus}
use Rattle.clap.specs.Words.{App, Kinds, Rule, fault_of, first_of, found_of, matches_of, new_app, new_rule, one_of, one_text, with_rule}
use Rattle.clap.specs.declared.builder.action.ArgAction.TheVariants.{Set}
use Rattle.clap.specs.declared.builder.value_parser.ValueParser.TheVariants as vp
use Rattle.clap.specs.declared.parser.matches.Found.{Found}
use Rattle.shell_words.specs.declared.program.NetworkWords.{NetworkWords}
use Rattle.shell_words.specs.declared.told.Told.{Told}
use Rattle.shell_words.specs.declared.told.Told.TheVariants.{Help, Version}

-- ---- the command

-- `--nodes N`: 1 to 16
abbrev pub nodes_rule : Rule
nodes_rule = record (new_rule (codes "nodes")) { long = Some (codes "nodes"); action = Some Set; parser = Some (vp.Signed (pos 1) (pos 16)) }

-- `--notary N`: 0 to 15
abbrev pub notary_rule : Rule
notary_rule = record (new_rule (codes "notary")) { long = Some (codes "notary"); action = Some Set; parser = Some (vp.Signed (pos 0) (pos 15)) }

-- `--dir PATH`
abbrev pub dir_rule : Rule
dir_rule = record (new_rule (codes "dir")) { long = Some (codes "dir"); action = Some Set }

-- a command whose words have no program's name before them
abbrev pub bare : App
bare = let a = new_app (codes "corda_net") in record a { top = record a.top { no_binary_name = true } }

-- the program's command: these three options, none of them required, and no rule among them
abbrev pub our_app : App
our_app = with_rule (with_rule (with_rule bare nodes_rule) notary_rule) dir_rule

-- ---- what words ask for

-- there is a kind of error among these
abbrev pub has_kind : Kinds → Bool
has_kind [] = false
has_kind (kind ∷ kinds) = true

-- clap gives no matches for the words, for another cause than memory
unfoldable pub are_refused : List (List ℕ) → Bool
are_refused words = has_kind (fault_of our_app words)

-- the number that a text writes, where a plus may stand before its digits
abbrev pub number_in : List ℕ → ℕ
number_in text = digits_value 10 (without_leading_plus text)

-- the number that the words give to an option, as clap reads it; the usual one where they name none
abbrev pub number_or : List ℕ → List (List ℕ) → ℕ → ℕ
number_or id words usual = option_map_or number_in (one_of id (matches_of our_app words)) usual

-- the number of nodes
unfoldable pub nodes_in : List (List ℕ) → ℕ
nodes_in words = number_or (codes "nodes") words 2

-- the notary
unfoldable pub notary_in : List (List ℕ) → ℕ
notary_in words = number_or (codes "notary") words 0

-- a network of this number of nodes, where the notary is one of them
abbrev pub network : ℕ → ℕ → Option NetworkWords
network nodes notary = if nat_lt notary nodes then Some (record { nodes = nodes; notary = notary }) else None

-- the network that the program's words ask for; none where they are refused
abbrev pub network_of_words : List (List ℕ) → Option NetworkWords
network_of_words words = if are_refused words then None else network (nodes_in words) (notary_in words)

-- the folder that the words name, if any
unfoldable pub dir_of_words : List (List ℕ) → Option (List ℕ)
dir_of_words words = first_of (codes "dir") (matches_of our_app words)

-- ---- words that ask for a text

-- what one word asks to be told
abbrev pub told_by : List ℕ → Option Told
told_by word =
    if bytes_eq word (codes "--help") || bytes_eq word (codes "-h") then Some Help
    else if bytes_eq word (codes "--version") || bytes_eq word (codes "-V") then Some Version
    else None

-- what the program's words ask to be told, where they are that one word and no more
abbrev pub told_of : List (List ℕ) → Option Told
told_of [] = None
told_of (word ∷ []) = told_by word
told_of (word ∷ other ∷ more) = None

-- ---- networks

-- a network has 1 to 16 nodes, and its notary is one of them
pub record IsNetwork (n : NetworkWords) : Type 0 where
  pub some : 0 < n.nodes
  pub few : n.nodes ≤ 16
  pub notary : n.notary < n.nodes

-- ---- what was found

-- the text is a number in the range
pub record IsNumberIn (low high : ℕ) (text : List ℕ) : Type 0 where
  pub numeral : IsNumeral 10 (without_leading_plus text)
  pub least : low ≤ number_in text
  pub most : number_in text ≤ high

-- the value of an option, if there is one, is a number in the range
abbrev pub HoldsNumber : ℕ → ℕ → Found → List ℕ → Type 0
HoldsNumber low high found id = (text : List ℕ) → one_text found id ≡ Some text → IsNumberIn low high text
