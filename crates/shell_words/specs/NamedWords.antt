-- Words that are never refused: each option at most once, with its value as a word of its own.
use Rattle.std.specs.Prelude.{◌==◌, ◌++◌, ℕ, List, [], ◌∷◌, Bool, false, not, Option, Some, None}
use Rattle.std.specs.Prelude.{codes, option_map, if◌then◌else◌}
use Rattle.clap.specs.Matches.{count_text}

-- an option, and its value as a word of its own; no word where it isn't named
abbrev pub named : List ℕ → Option (List ℕ) → List (List ℕ)
named option None = []
named option (Some value) = option ∷ value ∷ []

-- words that name a network, in either order: `count_text` writes a number below 100 in decimal
abbrev pub network_words : Bool → Option ℕ → Option ℕ → List (List ℕ)
network_words notary_first nodes notary =
    let n = named (codes "--nodes") (option_map count_text nodes) in
    let k = named (codes "--notary") (option_map count_text notary) in
    if notary_first then k ++ n else n ++ k

-- a path that isn't empty and doesn't begin with `-`
abbrev pub is_path : List ℕ → Bool
is_path [] = false
is_path (b ∷ bs) = not (b == 45)

-- words that name a folder alone
abbrev pub folder_words : List ℕ → List (List ℕ)
folder_words path = named (codes "--dir") (Some path)
