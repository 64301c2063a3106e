-- Which coins pay an amount.
use Rattle.std.specs.Prelude.{◌≡◌, ℕ, ◌<◌, ◌≤◌, ◌*◌, ◌^◌, List, length, take, sum_by}
use Rattle.coin_select.specs.declared.Coin.{Coin}

-- what coins are worth together
abbrev pub worth_of : List Coin → ℕ
worth_of coins = sum_by (λ c. c.amount) coins

-- the coins that are looked at: the first 64
abbrev pub candidates : List Coin → List Coin
candidates coins = take 64 coins

-- n is the least number of first coins that reach the amount, of the first 64
pub record IsLeastPrefix (coins : List Coin) (amount n : ℕ) : Type 0 where
  pub there : n ≤ length coins
  pub looked : n ≤ 64
  pub enough : amount ≤ worth_of (take n coins)
  pub least : (m : ℕ) → m < n → worth_of (take m coins) < amount

-- what is known after the first n coins: they don't reach the amount, and neither do fewer
pub record HaveSoFar (coins : List Coin) (amount n have : ℕ) : Type 0 where
  pub sum : have ≡ worth_of (take n coins)
  pub small : have ≤ n * 2 ^ 64
  pub less : (m : ℕ) → m < n → worth_of (take m coins) < amount
