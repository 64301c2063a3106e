-- Words that are never refused.
use Rattle.std.proofs.Common.{◌≡◌, ◌≤◌, ◌==◌, Bool, true, false, not, ℕ, zero, suc, List, [], ◌∷◌, Option, Some, None, refl, inl, codes, arith}
use Rattle.std.specs.Prelude.{pos, IfSome}
use Rattle.clap.specs.Matches.{count_text}
use Rattle.clap.specs.Words.{fault_of}
use Rattle.clap.specs.ValueTests.{accepts}
use Rattle.clap.specs.declared.builder.value_parser.ValueParser.{ValueParser}
use Rattle.clap.specs.declared.builder.value_parser.ValueParser.TheVariants as vp
use Rattle.clap.specs.declared.error.kind.ErrorKind.TheVariants as kind
use Rattle.clap.proofs.OnLiterals.{clap_on_literals}
use Rattle.shell_words.specs.Program.{our_app, are_refused}
use Rattle.shell_words.specs.NamedWords.{folder_words, is_path, network_words}
use Rattle.shell_words.proofs.Asked.{taken, refused}

-- ---- words that may stand after an option

abbrev IsNumberWord : ValueParser → List ℕ → Type 0
IsNumberWord parser [] = ⊥
IsNumberWord parser (b ∷ bs) = ((b == 45) ≡ false) × (accepts false parser (b ∷ bs) ≡ true)

abbrev IsNodesWord : List ℕ → Type 0
IsNodesWord = IsNumberWord (vp.Signed (pos 1) (pos 16))

abbrev IsNotaryWord : List ℕ → Type 0
IsNotaryWord = IsNumberWord (vp.Signed (pos 0) (pos 15))

abbrev IsPathWord : List ℕ → Type 0
IsPathWord [] = ⊥
IsPathWord (b ∷ bs) = (b == 45) ≡ false

not_true : (b : Bool) → not b ≡ true → b ≡ false
not_true true h = cc
not_true false h = refl

path_word : (p : List ℕ) → is_path p ≡ true → IsPathWord p
path_word [] h = cc
path_word (b ∷ bs) h = not_true (b == 45) h

-- the numbers in range, in decimal
nodes_word : (n : ℕ) → 1 ≤ n → n ≤ 16 → IsNodesWord (count_text n)
unfolding clap_on_literals
nodes_word zero l h = absurd (omega arith)
nodes_word (suc zero) l h = (refl, refl)
nodes_word (suc (suc zero)) l h = (refl, refl)
nodes_word (suc (suc (suc zero))) l h = (refl, refl)
nodes_word (suc (suc (suc (suc zero)))) l h = (refl, refl)
nodes_word (suc (suc (suc (suc (suc zero))))) l h = (refl, refl)
nodes_word (suc (suc (suc (suc (suc (suc zero)))))) l h = (refl, refl)
nodes_word (suc (suc (suc (suc (suc (suc (suc zero))))))) l h = (refl, refl)
nodes_word (suc (suc (suc (suc (suc (suc (suc (suc zero)))))))) l h = (refl, refl)
nodes_word (suc (suc (suc (suc (suc (suc (suc (suc (suc zero))))))))) l h = (refl, refl)
nodes_word (suc (suc (suc (suc (suc (suc (suc (suc (suc (suc zero)))))))))) l h = (refl, refl)
nodes_word (suc (suc (suc (suc (suc (suc (suc (suc (suc (suc (suc zero))))))))))) l h = (refl, refl)
nodes_word (suc (suc (suc (suc (suc (suc (suc (suc (suc (suc (suc (suc zero)))))))))))) l h = (refl, refl)
nodes_word (suc (suc (suc (suc (suc (suc (suc (suc (suc (suc (suc (suc (suc zero))))))))))))) l h = (refl, refl)
nodes_word (suc (suc (suc (suc (suc (suc (suc (suc (suc (suc (suc (suc (suc (suc zero)))))))))))))) l h = (refl, refl)
nodes_word (suc (suc (suc (suc (suc (suc (suc (suc (suc (suc (suc (suc (suc (suc (suc zero))))))))))))))) l h = (refl, refl)
nodes_word (suc (suc (suc (suc (suc (suc (suc (suc (suc (suc (suc (suc (suc (suc (suc (suc zero)))))))))))))))) l h = (refl, refl)
nodes_word (suc (suc (suc (suc (suc (suc (suc (suc (suc (suc (suc (suc (suc (suc (suc (suc (suc n))))))))))))))))) l h = absurd (omega arith)

notary_word : (n : ℕ) → n ≤ 15 → IsNotaryWord (count_text n)
unfolding clap_on_literals
notary_word zero h = (refl, refl)
notary_word (suc zero) h = (refl, refl)
notary_word (suc (suc zero)) h = (refl, refl)
notary_word (suc (suc (suc zero))) h = (refl, refl)
notary_word (suc (suc (suc (suc zero)))) h = (refl, refl)
notary_word (suc (suc (suc (suc (suc zero))))) h = (refl, refl)
notary_word (suc (suc (suc (suc (suc (suc zero)))))) h = (refl, refl)
notary_word (suc (suc (suc (suc (suc (suc (suc zero))))))) h = (refl, refl)
notary_word (suc (suc (suc (suc (suc (suc (suc (suc zero)))))))) h = (refl, refl)
notary_word (suc (suc (suc (suc (suc (suc (suc (suc (suc zero))))))))) h = (refl, refl)
notary_word (suc (suc (suc (suc (suc (suc (suc (suc (suc (suc zero)))))))))) h = (refl, refl)
notary_word (suc (suc (suc (suc (suc (suc (suc (suc (suc (suc (suc zero))))))))))) h = (refl, refl)
notary_word (suc (suc (suc (suc (suc (suc (suc (suc (suc (suc (suc (suc zero)))))))))))) h = (refl, refl)
notary_word (suc (suc (suc (suc (suc (suc (suc (suc (suc (suc (suc (suc (suc zero))))))))))))) h = (refl, refl)
notary_word (suc (suc (suc (suc (suc (suc (suc (suc (suc (suc (suc (suc (suc (suc zero)))))))))))))) h = (refl, refl)
notary_word (suc (suc (suc (suc (suc (suc (suc (suc (suc (suc (suc (suc (suc (suc (suc zero))))))))))))))) h = (refl, refl)
notary_word (suc (suc (suc (suc (suc (suc (suc (suc (suc (suc (suc (suc (suc (suc (suc (suc n)))))))))))))))) h = absurd (omega arith)

-- ---- the options that are named, over open words

none_taken : fault_of our_app [] ≡ []
unfolding clap_on_literals
none_taken = refl

nodes_taken : (n : List ℕ) → IsNodesWord n
    → fault_of our_app (codes "--nodes" ∷ n ∷ []) ≡ []
unfolding clap_on_literals
nodes_taken [] hn = absurd hn
nodes_taken (a ∷ x) hn = rw (hn.0, hn.0, hn.1) refl

notary_taken : (k : List ℕ) → IsNotaryWord k
    → fault_of our_app (codes "--notary" ∷ k ∷ []) ≡ []
unfolding clap_on_literals
notary_taken [] hk = absurd hk
notary_taken (b ∷ y) hk = rw (hk.0, hk.0, hk.1) refl

dir_taken : (p : List ℕ) → IsPathWord p
    → fault_of our_app (codes "--dir" ∷ p ∷ []) ≡ []
unfolding clap_on_literals
dir_taken [] hp = absurd hp
dir_taken (c ∷ z) hp = rw (hp, hp) refl

nodes_notary_taken : (n : List ℕ) → IsNodesWord n → (k : List ℕ) → IsNotaryWord k
    → fault_of our_app (codes "--nodes" ∷ n ∷ codes "--notary" ∷ k ∷ []) ≡ []
unfolding clap_on_literals
nodes_notary_taken [] hn k hk = absurd hn
nodes_notary_taken (a ∷ x) hn [] hk = absurd hk
nodes_notary_taken (a ∷ x) hn (b ∷ y) hk = rw (hn.0, hn.0, hn.1, hk.0, hk.0, hk.1) refl

notary_nodes_taken : (k : List ℕ) → IsNotaryWord k → (n : List ℕ) → IsNodesWord n
    → fault_of our_app (codes "--notary" ∷ k ∷ codes "--nodes" ∷ n ∷ []) ≡ []
unfolding clap_on_literals
notary_nodes_taken [] hk n hn = absurd hk
notary_nodes_taken (b ∷ y) hk [] hn = absurd hn
notary_nodes_taken (b ∷ y) hk (a ∷ x) hn = rw (hk.0, hk.0, hk.1, hn.0, hn.0, hn.1) refl

-- ---- the laws

never_refused : (flip : Bool) (nodes notary : Option ℕ) → IfSome nodes (λ n. (1 ≤ n) × (n ≤ 16)) → IfSome notary (λ k. k ≤ 15)
    → fault_of our_app (network_words flip nodes notary) ≡ []
never_refused true None None hn hk = none_taken
never_refused false None None hn hk = none_taken
never_refused true (Some n) None hn hk = nodes_taken (count_text n) (nodes_word n hn.0 hn.1)
never_refused false (Some n) None hn hk = nodes_taken (count_text n) (nodes_word n hn.0 hn.1)
never_refused true None (Some k) hn hk = notary_taken (count_text k) (notary_word k hk)
never_refused false None (Some k) hn hk = notary_taken (count_text k) (notary_word k hk)
never_refused true (Some n) (Some k) hn hk = notary_nodes_taken (count_text k) (notary_word k hk) (count_text n) (nodes_word n hn.0 hn.1)
never_refused false (Some n) (Some k) hn hk = nodes_notary_taken (count_text n) (nodes_word n hn.0 hn.1) (count_text k) (notary_word k hk)

-- words that name a network, each option at most once, are taken
pub network_is_taken : (flip : Bool) (nodes notary : Option ℕ) → IfSome nodes (λ n. (1 ≤ n) × (n ≤ 16)) → IfSome notary (λ k. k ≤ 15)
    → are_refused (network_words flip nodes notary) ≡ false
network_is_taken flip nodes notary hn hk = taken _ (never_refused flip nodes notary hn hk)

-- and words that name a folder alone
pub folder_is_taken : (path : List ℕ) → is_path path ≡ true → are_refused (folder_words path) ≡ false
folder_is_taken path h = taken _ (dir_taken path (path_word path h))

help_fault : fault_of our_app (codes "--help" ∷ []) ≡ kind.DisplayHelp ∷ []
unfolding clap_on_literals
help_fault = refl

-- `--help` alone is refused
pub help_is_refused : are_refused (codes "--help" ∷ []) ≡ true
help_is_refused = refused _ kind.DisplayHelp (rw help_fault (inl refl))
